-- Proof that each node that a `contains` or a `ceiling` without locks visits was in the chain at some moment of the
-- call.
use Rattle.std.specs.Prelude.{◌≡◌, ◌≢◌, ℕ, zero, suc, ◌<◌, ◌≤◌, Bool, refl}
use Rattle.std.proofs.Common.{arith, inl, inr, sym, ◌∙◌, ap, subst}
use Rattle.lset_words.proofs.Numbers.{same_or_not}
use Rattle.lset_words.proofs.LastCalls.{last_own, last_other}
use Rattle.lset_words.specs.Words.{key_index, link_index, Opening, sizes}
use Rattle.lset_words.specs.Log.{Log, Entry, LastCall, begun_at, last_call, has_changed, maker, last_at}
use Rattle.lset_words.specs.Log.Entry.{began, stepped}
use Rattle.lset_steps.specs.declared.Local.{Local}
use Rattle.lset_steps.specs.declared.Action.TheVariants.{Load}
use Rattle.lset_steps.specs.declared.Event.{Event}
use Rattle.lset_steps.specs.declared.Event.TheVariants.{Go}
use Rattle.lset_steps.specs.Steps.{Table, Run, Enabled, state_at, local_of, seen_by, log_of}
use Rattle.lset_steps.specs.Chain.{View, Seen}
use Rattle.lset_steps.specs.Laws.{Lawful, word_named, views}
use Rattle.lset_steps.specs.Promises.{IsRead}
use Rattle.lset_steps.proofs.ReadTables.{HasReadRows, IsReadRow}
use Rattle.lset_steps.specs.BoundedReads.{WalkWasInChain}
use Rattle.lset_steps.proofs.Moves.{Course, InPast}
use Rattle.lset_steps.proofs.Hindsight.{hindsight}
use Rattle.lset_steps.proofs.ReadOutline.{Reading}
use Rattle.lset_steps.proofs.ReadOutline.Reading.{reads20, reads21, reads22, reads23, reads24, reads25}
use Rattle.lset_steps.proofs.ReadBound.{read_row}
use Rattle.lset_steps.proofs.RunAccount.{tied}
use Rattle.lset_steps.proofs.Discipline.{Outline, Discipline, Inv, inv_at, lawful_of}

module _ (T : Table) (rows : HasReadRows T) (vs : ℕ → View) (first now : ℕ) (course : Course vs now) (done : Bool) (l : Local)
    (a : ℕ) (next : T.next l ≡ Load (link_index a)) where
  at_curr : IsReadRow l.pc → T.next l ≡ Load (link_index l.curr) → InPast vs first now l.curr →
      Seen vs first now a ((vs now).link a)
  at_curr row acts p =
      let e : link_index a ≡ link_index l.curr = ap word_named (sym next ∙ acts) in
      let f : l.curr ≡ a = omega arith in
      subst (λ x. Seen vs first now x ((vs now).link x)) f (hindsight vs now first now l.curr course (omega arith) p)

  pub seen_now : Reading vs first now done l → Seen vs first now a ((vs now).link a)
  seen_now (reads20 e d c x) = at_curr (inl e) (rows.acts l (inl e) ∙ (rw e refl)) x.past
  seen_now (reads21 e d c x) =
      let acts : T.next l ≡ Load (key_index l.curr) = rows.acts l (inr (inl e)) ∙ (rw e refl) in
      let f : link_index a ≡ key_index l.curr = ap word_named (sym next ∙ acts) in
      absurd (omega arith)
  seen_now (reads22 e d c x) = at_curr (inr (inr (inl e))) (rows.acts l (inr (inr (inl e))) ∙ (rw e refl)) x.past
  seen_now (reads23 e d c x) =
      at_curr (inr (inr (inr (inl e)))) (rows.acts l (inr (inr (inr (inl e)))) ∙ (rw e refl)) x.past
  seen_now (reads24 e d c x) =
      let acts : T.next l ≡ Load (key_index l.curr) = rows.acts l (inr (inr (inr (inr (inl e))))) ∙ (rw e refl) in
      let f : link_index a ≡ key_index l.curr = ap word_named (sym next ∙ acts) in
      absurd (omega arith)
  seen_now (reads25 e d c x) =
      at_curr (inr (inr (inr (inr (inr e))))) (rows.acts l (inr (inr (inr (inr (inr e))))) ∙ (rw e refl)) x.past

-- Holds if, at rows 20 to 25 of the step table, a list's proof outline implies `Reading`, the assertions for a
-- `contains` or a `ceiling`.
abbrev pub ShowsReading : Outline → Type 1
ShowsReading At = (q t : ℕ) (vs : ℕ → View) (first now : ℕ) (v : View) (done : Bool) (l : Local) → IsReadRow l.pc
    → At q t vs first now v done l → Reading vs first now done l

-- Lemma: if a `contains` or a `ceiling` loads the link of a node, then at some moment of the call, the node was in the
-- chain with the loaded link.
loads_seen : (T : Table) (At : Outline) → Discipline T T.marks At → HasReadRows T → ShowsReading At
    → (op : Opening) (last k t a : ℕ) (es : ℕ → Event) → Run T op es last → k ≤ last → t < op.threads
    → (local_of (state_at T op es k) t).pc ≢ 0 → IsRead (local_of (state_at T op es k) t).call
    → T.next (local_of (state_at T op es k) t) ≡ Load (link_index a)
    → Seen (views T op es) (begun_at (log_of T op es) t k) k a ((views T op es k).link a)
loads_seen T At d rows shows op last k t a es r l th busy reads next =
    let i : Inv T.marks At (sizes op) (views T op es) k (state_at T op es k)
    (λ u. last_at (log_of T op es) u k) = inv_at T T.marks At d op es last r k l in
    seen_now T rows (views T op es) (begun_at (log_of T op es) t k) k i.course (has_changed (log_of T op es) t k)
    (local_of (state_at T op es k) t) a next
    (shows op.quota t (views T op es) (begun_at (log_of T op es) t k) k (views T op es k) (has_changed (log_of T op es) t k)
    (local_of (state_at T op es k) t)
    (read_row T (lawful_of T At d) rows op last k t es r l th busy reads) (i.threads t th).at)

-- Holds if thread `t` has the same last call at the moments `at` and `k`, with the same moment of beginning.
record SameCall (log : Log) (t at k : ℕ) : Type 0 where
  begun : begun_at log t k ≡ begun_at log t at
  call : last_call log t k ≡ last_call log t at

same_call_on : (log : Log) (t at k : ℕ) (e : Entry) → log k ≡ e → at ≤ k → begun_at log t (suc k) ≤ at → SameCall log t k (suc k)
same_call_on log t at k e is le from = elim (same_or_not (maker e) t) [
  | inl y ↦ own e is y
  | inr y ↦
      (let same = last_other log t k is y in
      record { begun = ap (λ (x : LastCall). x.begun) same; call = ap (λ (x : LastCall). x.call) same })
]
  where
    own : (e : Entry) → log k ≡ e → maker e ≡ t → SameCall log t k (suc k)
    own (stepped u change reply) is y =
        let same = last_own log t k is y in
        record { begun = ap (λ (x : LastCall). x.begun) same; call = ap (λ (x : LastCall). x.call) same }
    own (began u call) is y = absurd (
        let now : begun_at log t (suc k) ≡ suc k = ap (λ (x : LastCall). x.begun) (last_own log t k is y) in omega arith)

same_call : (log : Log) (t at k : ℕ) → at ≤ k → begun_at log t k ≤ at → SameCall log t at k
same_call log t at zero le from =
    let e : zero ≡ at = omega arith in subst (λ m. SameCall log t m zero) e (record { begun = refl; call = refl })
same_call log t at (suc k) le from = elim (same_or_not at (suc k)) [
  | inl y ↦ subst (λ m. SameCall log t m (suc k)) (sym y) (record { begun = refl; call = refl })
  | inr y ↦
      (let on : SameCall log t k (suc k) = same_call_on log t at k (log k) refl (omega arith) from in
      let before : SameCall log t at k = same_call log t at k (omega arith) (rw (sym on.begun) from) in
      record { begun = on.begun ∙ before.begun; call = on.call ∙ before.call })
]

pub walk_was_in_chain : (T : Table) (At : Outline) → Discipline T T.marks At → HasReadRows T → ShowsReading At → WalkWasInChain T
walk_was_in_chain T At d rows shows op last k t a l es r le reads p =
    let law : Lawful T = lawful_of T At d in
    let enabled : Enabled (state_at T op es p.at) (Go t) =
    subst (λ e. Enabled (state_at T op es p.at) e) p.own (r.enabled p.at (omega arith)) in
    let th : t < op.threads = rw (sym (law.states op last p.at es r (omega arith)).locals) enabled.0 in
    let same : SameCall (log_of T op es) t p.at k = same_call (log_of T op es) t p.at k (omega arith) p.from in
    let call : (local_of (state_at T op es p.at) t).call ≡ last_call (log_of T op es) t p.at =
    ((tied T law op es last r t th p.at (omega arith)).opened enabled.1).1 in
    let word : (views T op es p.at).link a ≡ l = sym (ap (seen_by (state_at T op es p.at).words) p.loads) ∙ p.read in
    subst (λ z. Seen (views T op es) (begun_at (log_of T op es) t k) p.at a z) word
    (subst (λ z. Seen (views T op es) z p.at a ((views T op es p.at).link a)) (sym same.begun)
    (loads_seen T At d rows shows op last p.at t a es r (omega arith) th enabled.1
    (subst (λ c. IsRead c) (same.call ∙ sym call) reads) p.loads))
