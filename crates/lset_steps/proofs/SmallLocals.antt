-- Proof that the numbers in a thread's private state are small in every run, so arithmetic with them cannot overflow.
use Rattle.std.specs.Prelude.{◌≡◌, ℕ, ◌+◌, ◌*◌, ◌<◌, ◌≤◌}
use Rattle.std.proofs.Common.{arith, subst}
use Rattle.lset_words.specs.declared.TheConstants.{MOST_THREADS, MOST_QUOTA, MOST_NODES}
use Rattle.lset_words.specs.Words.{node_count, IsWithin, Sizes, Opening, sizes}
use Rattle.lset_words.proofs.Bounds.{nodes_within}
use Rattle.lset_steps.specs.declared.Event.{Event}
use Rattle.lset_steps.specs.declared.Local.{Local}
use Rattle.lset_steps.specs.Steps.{Table, local_of, state_at}
use Rattle.lset_steps.specs.Laws.{Lawful, UnderWay, Occurs, Sees, Registers}
use Rattle.lset_steps.specs.Rows.{IsSmall}

small_registers : (sz : Sizes) (t : ℕ) (l : Local) → IsWithin sz → t < sz.threads → Registers sz t l → IsSmall l
small_registers sz t l lim below r =
    let nodes : node_count sz ≤ MOST_NODES = nodes_within sz lim in
    let few : sz.threads ≤ MOST_THREADS = lim.few in
    let small : sz.quota ≤ MOST_QUOTA = lim.small in
    let thread : l.thread ≡ t = r.thread in
    let quota : l.quota ≡ sz.quota = r.quota in
    let used : l.used ≤ sz.quota = r.used in
    let pred : l.pred < node_count sz = r.pred in
    let curr : l.curr < node_count sz = r.curr in
    let succ : l.succ < node_count sz = r.succ in
    let node : l.node < node_count sz = r.node in
    record {
      thread = omega arith;
      quota = omega arith;
      used = omega arith;
      pred = omega arith;
      curr = omega arith;
      succ = omega arith;
      node = omega arith;
    }

small_under_way : (T : Table) → Lawful T → (op : Opening) (es : ℕ → Event) (k t : ℕ) → UnderWay T op es k t
    → IsSmall (local_of (state_at T op es k) t)
small_under_way T law op es k t u =
    small_registers (sizes op) t (local_of (state_at T op es k) t) u.run.opens.within u.thread
    ((law.states op k k es u.run (omega arith)).threads t u.thread)

pub small_occurs : (T : Table) → Lawful T → (l : Local) → Occurs T l → IsSmall l
small_occurs T law l (op, es, k, t, u, e) = subst (λ (x : Local). IsSmall x) e (small_under_way T law op es k t u)

pub small_sees : (T : Table) → Lawful T → (l : Local) (seen : ℕ) → Sees T l seen → IsSmall l
small_sees T law l seen (op, es, k, t, u, e, f) = subst (λ (x : Local). IsSmall x) e (small_under_way T law op es k t u)

pub slot_small : (thread quota used : ℕ) → thread < MOST_THREADS → quota ≤ MOST_QUOTA → used ≤ quota →
    2 + thread * quota + used ≤ MOST_NODES
slot_small thread quota used t q u = let row : thread * quota ≤ 63 * quota = grind arith in omega arith
