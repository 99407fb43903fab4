-- The facts about a thread with a pending call at some point of a run, for use in the proofs about the rows of the step
-- table.
use Rattle.std.specs.Prelude.{◌≡◌, ◌≢◌, ℕ, ◌%◌, ◌<◌, ◌≤◌, Bool, List}
use Rattle.lset_words.specs.Log.{begun_at, has_changed}
use Rattle.lset_words.specs.Words.{Sizes, Opening, sizes}
use Rattle.lset_steps.specs.declared.Event.{Event}
use Rattle.lset_steps.specs.declared.Local.{Local}
use Rattle.lset_steps.specs.Steps.{Table, Run, state_at, local_of, log_of}
use Rattle.lset_steps.specs.Chain.{View, IsOrdered, view, node_key, node_link}
use Rattle.lset_steps.specs.Laws.{Lawful, Registers, views, used_in}
use Rattle.lset_steps.proofs.Discipline.{Outline, Discipline, inv_at}
use Rattle.lset_steps.proofs.Memory.{Memory}
use Rattle.lset_progress.specs.Progress.{IsPending}
use Rattle.lset_progress.proofs.HeadPlain.{head_plain}

pub record Standing (marks : Bool) (At : Outline) (sz : Sizes) (ws : List ℕ) (used : ℕ → ℕ) (t : ℕ) (vs : ℕ → View)
    (first now : ℕ) (done : Bool) (l : Local) : Type 0 where
  pub memory : Memory marks sz ws used
  pub in_threads : t < sz.threads
  pub registers : Registers sz t l
  pub counts : l.used ≡ used t
  pub ordered : (at : ℕ) → at ≤ now → IsOrdered (vs at)
  pub later : (at a : ℕ) → at ≤ now → (vs at).published a → (view sz ws used).published a × (node_key ws a ≡ (vs at).key a)
  pub head_plain : node_link ws 0 % 2 ≡ 0
  pub at : At sz.quota t vs first now (view sz ws used) done l
  pub busy : l.pc ≢ 0

pub stands : (T : Table) → Lawful T → (At : Outline) → Discipline T T.marks At → (op : Opening) (last k t : ℕ) (es : ℕ → Event)
    → Run T op es last → k ≤ last → t < op.threads → IsPending (state_at T op es k) t
    → Standing T.marks At (sizes op) (state_at T op es k).words (used_in (state_at T op es k)) t (views T op es)
    (begun_at (log_of T op es) t k) k (has_changed (log_of T op es) t k) (local_of (state_at T op es k) t)
stands T law At d op last k t es r upto tn busy =
    let i = inv_at T T.marks At d op es last r k upto in
    record {
      memory = i.memory;
      in_threads = tn;
      registers = (i.threads t tn).registers;
      counts = (i.threads t tn).counts;
      ordered = i.course.ordered;
      later = λ at a l p. let u = law.unlinked_stays op last at k a es r l upto p in (u.published, u.key);
      head_plain = head_plain T At d op es last r k upto;
      at = (i.threads t tn).at;
      busy = busy;
    }
