-- Proof by induction on the events of a run that the head is never marked.
use Rattle.std.specs.Prelude.{◌≡◌, ℕ, ◌*◌, ◌%◌, ◌<◌, ◌≤◌, Bool, Option, length, refl}
use Rattle.std.proofs.Common.{arith, inl, inr, sym, ◌∙◌, ap, subst, zero, suc}
use Rattle.std.proofs.lemmas.List.FromFn.{get_or-map-range_with_len}
use Rattle.lset_words.proofs.Numbers.{same_or_not}
use Rattle.lset_words.specs.declared.Key.{Key}
use Rattle.lset_words.specs.Log.{last_at, begun_at, has_changed}
use Rattle.lset_words.specs.Words.{link_index, word_count, Opening, sizes}
use Rattle.lset_steps.specs.declared.Event.{Event}
use Rattle.lset_steps.specs.declared.Event.TheVariants.{Begin, Go}
use Rattle.lset_steps.specs.Steps.{Table, Run, Enabled, opening_next, opening_word, state_at, after, local_of, left_by, log_of}
use Rattle.lset_steps.specs.Chain.{View, view, node_link}
use Rattle.lset_steps.specs.Laws.{views, view_of, used_in}
use Rattle.lset_steps.proofs.Discipline.{Outline, Discipline, StepOf, Inv, inv_at}
use Rattle.lset_steps.proofs.Memory.{Memory, moved, left_is, memory_after, goes_on}
use Rattle.lset_steps.proofs.Moves.{Move, KeepsNodes}
use Rattle.lset_steps.proofs.Moves.Move.{quiet, inserts, sets, clears, removes}

plain_after : (marks : Bool) (v w : View) (change : Option (Key × Bool)) → v.published 0 → v.link 0 % 2 ≡ 0
    → Move marks v w change → w.link 0 % 2 ≡ 0
plain_after marks v w change p even (quiet q) = let e : w.link 0 ≡ v.link 0 = q.links 0 p in omega arith
plain_after marks v w change p even (inserts pred own k i) = elim (same_or_not 0 pred) [
  | inl y ↦ (let e : w.link pred ≡ 2 * own = i.pred_link in let f : w.link 0 ≡ w.link pred = ap w.link y in omega arith)
  | inr y ↦ (let e : w.link 0 ≡ v.link 0 = i.links 0 p y in omega arith)
]
plain_after marks v w change p even (sets b k is m) =
    let user : 1 < b = m.user in let e : w.link 0 ≡ v.link 0 = m.links 0 p (omega arith) in omega arith
plain_after marks v w change p even (clears pred curr u odd) = elim (same_or_not 0 pred) [
  | inl y ↦ (let e = u.pred_link in let f : w.link 0 ≡ w.link pred = ap w.link y in omega arith)
  | inr y ↦ (let e : w.link 0 ≡ v.link 0 = u.links 0 p y in omega arith)
]
plain_after marks v w change p even (removes pred curr k is u x y2 z) = elim (same_or_not 0 pred) [
  | inl y ↦ (let e = u.pred_link in let f : w.link 0 ≡ w.link pred = ap w.link y in omega arith)
  | inr y ↦ (let e : w.link 0 ≡ v.link 0 = u.links 0 p y in omega arith)
]

module _ (T : Table) (At : Outline) (d : Discipline T T.marks At) (op : Opening) (es : ℕ → Event) (last : ℕ)
    (r : Run T op es last) where
  abbrev Known : ℕ → Type 1
  Known k = Inv T.marks At (sizes op) (views T op es) k (state_at T op es k)
      (λ u. last_at (log_of T op es) u k)

  known : (k : ℕ) → k ≤ last → Known k
  known k l = inv_at T T.marks At d op es last r k l

  module _ (k : ℕ) (l : k < last) (t : ℕ) (en : Enabled (state_at T op es k) (Go t)) where
    threads_are : length (state_at T op es k).locals ≡ op.threads
    threads_are = (known k (omega arith)).locals

    in_threads : t < op.threads
    in_threads = rw (sym threads_are) en.0

    pub the_step : StepOf T T.marks At (sizes op) t (views T op es) (λ u. begun_at (log_of T op es) u k) k
        (state_at T op es k).words (used_in (state_at T op es k)) (λ u. has_changed (log_of T op es) u k)
        (local_of (state_at T op es k))
    the_step =
        let i : Known k = known k (omega arith) in
        d.goes _ t _ (λ u. begun_at (log_of T op es) u k) k _ _ (λ u. has_changed (log_of T op es) u k) _
        (record { limits = r.opens.within; memory = i.memory; course = i.course; present = i.present }) i.threads in_threads en.1

    pub words_are : (after T (state_at T op es k) (Go t)).words ≡ the_step.words'
    words_are =
        let i : Known k = known k (omega arith) in
        let m = the_step in
        ap (λ a. left_by (state_at T op es k).words a) the_step.acts ∙ left_is _ _ _ _ i.memory t in_threads
        _ _ _ _ the_step.change

    pub the_move : Move T.marks (view_of (sizes op) (state_at T op es k)) (view (sizes op) the_step.words' the_step.used')
        the_step.effect
    the_move =
        let i : Known k = known k (omega arith) in
        moved _ _ _ _ i.memory t in_threads _ _ _ _ the_step.change

    pub the_memory : Memory T.marks (sizes op) the_step.words' the_step.used'
    the_memory =
        let i : Known k = known k (omega arith) in
        memory_after _ _ _ _ i.memory t in_threads _ _ _ _ the_step.change

    pub the_keeping : KeepsNodes (view_of (sizes op) (state_at T op es k)) (view (sizes op) the_step.words' the_step.used')
    the_keeping =
        let i : Known k = known k (omega arith) in
        goes_on _ _ _ _ i.memory t in_threads _ _ _ _ the_step.change

  plain_next : (k : ℕ) → k < last → (e : Event) → Enabled (state_at T op es k) e → node_link (state_at T op es k).words 0 % 2 ≡ 0
      → node_link (after T (state_at T op es k) e).words 0 % 2 ≡ 0
  plain_next k l (Begin t call) en h = h
  plain_next k l (Go t) en h =
      let i : Known k = known k (omega arith) in
      subst (λ ws. node_link ws 0 % 2 ≡ 0) (sym (words_are k l t en)) (plain_after _ _ _ (the_step k l t en).effect
      i.memory.ordered.head_published h (the_move k l t en))

  plain_opens : node_link (state_at T op es 0).words 0 % 2 ≡ 0
  plain_opens =
      let is : node_link (state_at T op es 0).words 0 ≡ opening_word op (link_index 0) =
      get_or-map-range_with_len (opening_word op) 0 (word_count (sizes op)) (link_index 0) (link_index 0) 0 (omega arith)
      (omega arith) in
      let e : opening_word op (link_index 0) ≡ 2 * opening_next (sizes op) 0 = refl in
      omega arith

  pub head_plain : (k : ℕ) → k ≤ last → node_link (state_at T op es k).words 0 % 2 ≡ 0
  head_plain zero l = plain_opens
  head_plain (suc k) l = plain_next k (omega arith) (es k) (r.enabled k (omega arith)) (head_plain k (omega arith))
