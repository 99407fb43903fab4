-- Proof of progress for LockFreeList: how each row of the step table changes the number of remaining steps. Therefore a
-- call that runs alone ends, whatever state the other threads are in.
use Rattle.std.specs.Prelude.{◌≡◌, ◌≢◌, ℕ, ◌+◌, ◌*◌, ◌/◌, ◌%◌, ◌<◌, ◌≤◌, ◌⊎◌, Bool, true, Some, None, List, [], ◌∷◌, refl}
use Rattle.std.specs.Prelude.{if◌then◌else◌, ◌==◌, nat_lt, slice_index, slice_set}
use Rattle.std.proofs.Common.{arith, get_or, inl, inr, sym, ◌∙◌, ap, subst, suc}
use Rattle.lset_words.proofs.Numbers.{same_or_not, if_same, if_other}
use Rattle.lset_words.specs.declared.Reply.{Reply}
use Rattle.lset_words.specs.Words.{key_index, link_index, node_count, target, Sizes, Opening, sizes}
use Rattle.lset_steps.specs.declared.Action.TheVariants.{Exchange}
use Rattle.lset_steps.specs.declared.Event.{Event}
use Rattle.lset_steps.specs.declared.Event.TheVariants.{Go}
use Rattle.lset_steps.specs.declared.Fed.{Fed}
use Rattle.lset_steps.specs.declared.Local.{Local}
use Rattle.lset_steps.specs.Steps.{State, Run, Enabled, state_at, after, local_of, seen_by, seen_next, left_by}
use Rattle.lset_steps.specs.Chain.{View, IsOrdered, view, node_key, node_link}
use Rattle.lset_steps.specs.Laws.{views, view_of}
use Rattle.lset_steps.specs.ReadRows.{continued}
use Rattle.lset_steps.specs.Rows.{own_slot}
use Rattle.lset_steps.proofs.Memory.{inner, inside, own_of, no_own, link_wrote}
use Rattle.lset_steps.proofs.AfterWrite.{link_after_key, link_after_link}
use Rattle.lset_steps.proofs.Discipline.{put_same}
use Rattle.lset_steps.proofs.QuietMove.{in_chain_published}
use Rattle.lset_steps.proofs.ReadOutline.{Reading}
use Rattle.lset_steps.proofs.ReadOutline.Reading.{reads20, reads21, reads22, reads23, reads24, reads25}
use Rattle.lset_steps.proofs.ReadTables.{IsReadRow, in_each_read_row}
use Rattle.lset_steps.proofs.UnlockedWalk.{Spot}
use Rattle.lset_lock_free.specs.LockFree.{lock_free, targets, decision_of}
use Rattle.lset_lock_free.specs.Lawful.{lock_free_lawful}
use Rattle.lset_lock_free.specs.Lawful.Outline.{At, Was}
use Rattle.lset_lock_free.specs.Lawful.Outline.At.{at0, at1, at2, at2_now, at3, at4, at5, at6, at7, at8, at9, at10, at_read}
use Rattle.lset_progress.specs.Progress.{IsPending, Answers, CallsEndUnhindered, lock_free_steps}
use Rattle.lset_progress.proofs.Rest.{SameKeys, rest_by, few_by, fewer_by}
use Rattle.lset_progress.proofs.Ahead.{ahead_less}
use Rattle.lset_progress.proofs.Alone.{Nears, ends_alone}
use Rattle.lset_progress.proofs.Decided.{by_same, by_below, by_decision}
use Rattle.lset_progress.proofs.LockFreeSteps.{known, keeps, step_is, keys_on, place_of, ceiling_at_marks}
use Rattle.lset_progress.proofs.Paths.{Path, in_chain_of}
use Rattle.lset_progress.proofs.ReadProgress.{Along, Plain, Reads, ReadsAt, reads_left, reads_then}
use Rattle.lset_progress.proofs.ReadProgress.{from_20, from_21, from_22, from_23}
use Rattle.lset_progress.proofs.ReadProgress.{from_24, from_25}
use Rattle.lset_progress.proofs.RowsWithLocks.{Shape, TimedBy, Then, Any, Only, at_row, no_time, again, on, stops}
use Rattle.lset_progress.proofs.Standing.{Standing, stands}

-- Returns the number of steps of an additional walk from the head. A call makes an additional walk if an exchange
-- fails.
abbrev pub round : ℕ → ℕ
round size = 2 * size + 2

-- Returns, for each row of the step table, how many steps remain after the next step if all exchanges succeed. The body
-- lists the numbers of remaining steps, starting with row 0.
abbrev pub left : ℕ → (ℕ → ℕ) → Local → ℕ
left size key l = get_or (0 ∷ (2 * size + 1) ∷ (2 * rest_by size key l.curr + 4) ∷ (2 * rest_by size key l.curr + 3)
    ∷ (2 * rest_by size key l.curr + 3) ∷ 2 ∷ 1 ∷ 0 ∷ 2 ∷ 1 ∷ 0 ∷ []) l.pc (reads_left size key l)

-- Holds if, as long as the walk uses `pred`, `pred` is not marked and `curr` is the node after `pred`. The walk's
-- exchanges then succeed if no other thread takes a step.
pub record Valid (link : ℕ → ℕ) (l : Local) : Type 0 where
  pub follows : 2 ≤ l.pc → l.pc ≤ 7 → link l.pred ≡ 2 * l.curr
  -- At rows 4 and 9 of the step table, `curr` is not marked and `succ` is the node after `curr`. At row 8, `curr` is
  -- not marked.
  pub unmarked : l.pc ≡ 4 → link l.curr ≡ 2 * l.succ
  pub plain : l.pc ≡ 8 → link l.curr % 2 ≡ 0
  pub same : l.pc ≡ 9 → link l.curr ≡ 2 * l.succ
  pub along : 23 ≤ l.pc → Path link 0 l.curr

outside : (link : ℕ → ℕ) (l : Local) → (2 ≤ l.pc → l.pc ≤ 9 → ⊥) → (23 ≤ l.pc → Path link 0 l.curr) → Valid link l
outside link l other along = record {
  follows = λ a b. absurd (other a (omega arith));
  unmarked = λ e. absurd (other (omega arith) (omega arith));
  plain = λ e. absurd (other (omega arith) (omega arith));
  same = λ e. absurd (other (omega arith) (omega arith));
  along = along;
}

low_read : (link : ℕ → ℕ) (l : Local) → (2 ≤ l.pc → l.pc ≤ 9 → ⊥) → l.pc < 23 → Along link l → Valid link l
low_read link l other low a = outside link l other (λ h. absurd (omega arith))

high_read : (link : ℕ → ℕ) (l : Local) → (2 ≤ l.pc → l.pc ≤ 9 → ⊥) → Path link 0 l.curr → Valid link l
high_read link l other a = outside link l other (λ h. a)

at_pred : (link : ℕ → ℕ) (l : Local) → (2 ≤ l.pc) × (l.pc ≤ 7) × (l.pc ≢ 4) → link l.pred ≡ 2 * l.curr → Valid link l
at_pred link l row follows =
    let low : 2 ≤ l.pc = row.0 in let high : l.pc ≤ 7 = row.1 in record {
      follows = λ a b. follows;
      unmarked = λ e. absurd (row.2 e);
      plain = λ e. absurd (omega arith);
      same = λ e. absurd (omega arith);
      along = λ h. absurd (omega arith);
    }

-- Describes LockFreeList for the proofs of progress that all lists share. No thread holds a lock. While a `ceiling`
-- walks, no node of the chain is marked.
abbrev pub shape : Shape
shape = record {
  may = λ l x. ⊥;
  late = λ l. ⊥;
  calm = λ ws l. 23 ≤ l.pc → Plain ws;
  valid = Valid;
  left = left;
  round = round;
}

reads_at : (size : ℕ) (key : ℕ → ℕ) (ws : List ℕ) (l : Local) → IsReadRow l.pc → ReadsAt shape size key ws l
reads_at size key ws l =
    let link : ℕ → ℕ = node_link ws in
    in_each_read_row (λ n. ReadsAt shape size key ws (record l { pc = n }))
    (λ x m. m, λ z. z, λ z. omega arith, refl, λ v. tt, low_read link _ (λ c d. omega arith) (omega arith), λ c. c)
    (λ x m. m, λ z. z, λ z. omega arith, refl, λ v. tt, low_read link _ (λ c d. omega arith) (omega arith), λ c. c)
    (λ x m. m, λ z. z, λ z. omega arith, refl, λ v. tt, low_read link _ (λ c d. omega arith) (omega arith), λ c. c)
    (λ x m. m, λ z. z, λ z. omega arith, refl, λ v. v.along (omega arith), high_read link _ (λ c d. omega arith), λ c. c)
    (λ x m. m, λ z. z, λ z. omega arith, refl, λ v. v.along (omega arith), high_read link _ (λ c d. omega arith), λ c. c)
    (λ x m. m, λ z. z, λ z. omega arith, refl, λ v. v.along (omega arith), high_read link _ (λ c d. omega arith), λ c. c)
    l.pc

-- Holds if the call ends within n steps when it runs alone: either the walk's exchanges will succeed, or n is also
-- enough for one additional walk.
abbrev pub Timed : ℕ → (ℕ → ℕ) → List ℕ → ℕ → Local → Type 0
Timed size key ws n l = TimedBy shape size key (node_link ws) n l

pub record Left (size : ℕ) (key : ℕ → ℕ) (ws : List ℕ) (n : ℕ) (l : Local) : Type 0 where
  pub open_call : l.pc ≢ 0
  pub plain : 23 ≤ l.pc → Plain ws
  pub time : Timed size key ws n l

-- Lemma: a property holds after an exchange if it holds both when the exchange succeeds and when the exchange fails.
by_exchange : (P : List ℕ → Fed → Type 0) (ws : List ℕ) (w o v : ℕ) {f g : Fed} → (slice_index ws w ≡ o → P (slice_set ws w v) f)
    → (slice_index ws w ≢ o → P ws g) → P (left_by ws (Exchange w o v)) (if slice_index ws w == o then f else g)
by_exchange P ws w o v {f} {g} this other = elim (same_or_not (slice_index ws w) o) [
  | inl e ↦ subst (λ x. P x (if slice_index ws w == o then f else g)) (sym (if_same (slice_index ws w) o e (slice_set ws w v) ws))
      (subst (λ x. P (slice_set ws w v) x) (sym (if_same (slice_index ws w) o e f g)) (this e))
  | inr d ↦ subst (λ x. P x (if slice_index ws w == o then f else g))
      (sym (if_other (slice_index ws w) o d (slice_set ws w v) ws))
      (subst (λ x. P ws x) (sym (if_other (slice_index ws w) o d f g)) (other d))
]

module _ {sz : Sizes} {ws : List ℕ} {used : ℕ → ℕ} {t : ℕ} {vs : ℕ → View} {first now : ℕ} {done : Bool} {l : Local}
    (key : ℕ → ℕ) (agrees : SameKeys key (view sz ws used)) (h : Standing true At sz ws used t vs first now done l) where
  abbrev V : View
  V = view sz ws used

  abbrev size : ℕ
  size = node_count sz

  -- Holds if a step with the outcome f ends its call or leaves the call with fewer remaining steps (`Then`), and if a
  -- step of a `ceiling` whose chain has no marked node leaves the chain without marked nodes. k is the private state
  -- before the step, and ws' are the words after the step.
  abbrev After : Local → List ℕ → Fed → Type 0
  After k ws' f = Then shape size key ws k Any key ws' f
      × (((r : Reply) × (f.answer ≡ Some r)) ⊎ ((23 ≤ k.pc → Plain ws) → 23 ≤ f.local.pc → Plain ws'))

  abbrev Row : Local → Type 0
  Row k = Timed size key ws (lock_free_steps sz) k × After k (left_by ws (lock_free.next k))
      (lock_free.feed k (seen_by ws (lock_free.next k)))

  abbrev From : ℕ → List ℕ → Fed → Type 0
  From n ws' f = After (record l { pc = n }) ws' f

  to : {k k' : Local} {ws' : List ℕ} → Only (nat_lt 0 k'.pc) → k'.pc < 23 → (Valid (node_link ws) k → Valid (node_link ws') k')
      → left size key k' < left size key k → After k ws' (continued k')
  to busy low valid less = (on (λ x o m. m) busy (λ z. z) valid less, inr (λ c high. absurd (omega arith)))

  starts_again : {n : ℕ} → (Valid (node_link ws) (record l { pc = n }) → ⊥) → From n ws (continued (record l { pc = 1 }))
  starts_again never = (
    again (λ x o m. m) tt (λ z. z) never (outside (node_link ws) _ (λ a b. omega arith) (λ a. absurd (omega arith)))
        (omega arith),
    inr (λ c high. absurd (omega arith)),
  )

  ends : {k k' : Local} {ws' : List ℕ} {r : Reply} → After k ws' (record { local = k'; answer = Some r })
  ends {r = r} = (stops (λ x o m. m), inl (r, refl))

  inside_chain : (a : ℕ) → node_key ws a < target l.call → a ≢ 1
  inside_chain a lt = inner true sz ws used h.memory a (target l.call) lt h.registers.low

  module _ (few : rest_by size key l.curr < size) where
    from_2 : V.published l.curr → Row (record l { pc = 2 })
    from_2 p = (
      inr (omega arith),
      by_same (From 2 ws) (node_link ws l.curr % 2) 0
          (λ even. to tt (omega arith) (λ v. record {
            follows = λ a b. v.follows (omega arith) (omega arith);
            unmarked = λ a. omega arith;
            plain = λ a. absurd (omega arith);
            same = λ a. absurd (omega arith);
            along = λ a. absurd (omega arith);
          }) (omega arith))
          (λ odd. to tt (omega arith) (λ v. at_pred (node_link ws)
          (record l { pc = 3; succ = node_link ws l.curr / 2 }) (omega arith, omega arith, λ z. omega arith)
          (v.follows (omega arith) (omega arith))) (omega arith)),
    )

    -- Lemma about row 3 of the step table: the exchange unlinks the marked node `curr`. The node after `pred` is then
    -- `succ`, which has a greater key.
    from_3 : Spot V (target l.call) l.pred l.curr → node_link ws l.curr ≡ 2 * l.succ + 1 → Row (record l { pc = 3 })
    from_3 x odd =
        let tail : node_link ws 1 ≡ 2 = h.memory.tail_link in
        let user : l.curr ≢ 1 = λ f. (let g : node_link ws l.curr ≡ node_link ws 1 = ap (node_link ws) f in omega arith) in
        let half : node_link ws l.curr / 2 ≡ l.succ = omega arith in
        let less : rest_by size key l.succ < rest_by size key l.curr =
        subst (λ z. rest_by size key z < rest_by size key l.curr) half
        (fewer_by true sz ws used h.memory key agrees l.curr x.curr_published user) in (
          inr (omega arith),
          by_exchange (From 3) ws (link_index l.pred) (2 * l.curr) (2 * l.succ)
              (λ z. to tt (omega arith) (λ v. at_pred (node_link (slice_set ws (link_index l.pred) (2 * l.succ)))
              (record l { pc = 2; curr = l.succ }) (omega arith, omega arith, λ z. omega arith)
              (link_wrote true sz ws used h.memory l.pred (2 * l.succ) h.registers.pred)) (omega arith))
              (λ z. starts_again (λ v. z (v.follows (omega arith) (omega arith)))),
        )

    -- Lemma about row 4 of the step table: the step loads the key of the unmarked node `curr`. The walk continues, or
    -- the call decides.
    from_4 : (l.curr ≢ 1 → rest_by size key l.succ < rest_by size key l.curr) → Row (record l { pc = 4 })
    from_4 increases = (
      inr (omega arith),
      by_below (From 4 ws) (node_key ws l.curr) (target l.call)
          (λ lt. let less : rest_by size key l.succ < rest_by size key l.curr = increases (inside_chain l.curr lt) in
          to tt (omega arith) (λ v. at_pred (node_link ws) (record l { pc = 2; pred = l.curr; curr = l.succ })
          (omega arith, omega arith, λ z. omega arith) (v.unmarked refl)) (omega arith))
          (λ ge. by_decision (λ k. From 4 ws (decision_of k)) targets (node_key ws l.curr) (record l { pc = 4 })
          (to tt (omega arith) (λ v. at_pred (node_link ws) (record l { pc = 5; reply = None })
          (omega arith, omega arith, λ z. omega arith) (v.follows (omega arith) (omega arith))) (omega arith))
          (to tt (omega arith) (λ v. record {
            follows = λ a b. absurd (omega arith);
            unmarked = λ a. absurd (omega arith);
            plain = λ a. let f : node_link ws l.curr ≡ 2 * l.succ = v.unmarked refl in omega arith;
            same = λ a. absurd (omega arith);
            along = λ a. absurd (omega arith);
          }) (omega arith))
          (λ r. ends)),
    )

    -- Lemmas about rows 5 to 7 of the step table: an `add` writes its new node, which is not in the chain yet, and then
    -- links the node.
    from_5 : Row (record l { pc = 5 })
    from_5 = (
      inr (omega arith),
      to tt (omega arith)
          (λ v. at_pred (node_link (slice_set ws (key_index (own_slot l)) (target l.call))) (record l { pc = 6 })
          (omega arith, omega arith, λ z. omega arith)
          (link_after_key ws (own_slot l) (target l.call) l.pred ∙ v.follows (omega arith) (omega arith))) (omega arith),
    )

    from_6 : V.published l.pred → used t < sz.quota → Row (record l { pc = 6 })
    from_6 p room =
        let own_is : own_slot l ≡ own_of sz.quota t used = rw (h.registers.thread, h.registers.quota, h.counts) refl in
        let other : l.pred ≢ own_slot l = rw own_is (no_own true sz ws used h.memory t l.pred h.in_threads room p) in (
          inr (omega arith),
          to tt (omega arith)
              (λ v. at_pred (node_link (slice_set ws (link_index (own_slot l)) (2 * l.curr))) (record l { pc = 7 })
              (omega arith, omega arith, λ z. omega arith)
              (link_after_link ws (own_slot l) (2 * l.curr) l.pred other ∙ v.follows (omega arith) (omega arith))) (omega arith),
        )

    from_7 : Row (record l { pc = 7 })
    from_7 = (
      inr (omega arith),
      by_exchange (From 7) ws (link_index l.pred) (2 * l.curr) (2 * own_slot l)
          (λ z. ends) (λ z. starts_again (λ v. z (v.follows (omega arith) (omega arith)))),
    )

    -- Lemmas about rows 8 to 10 of the step table: a `remove` loads the link of its node, marks the node, and unlinks
    -- it.
    from_8 : Row (record l { pc = 8 })
    from_8 = (
      inr (omega arith),
      to tt (omega arith) (λ v. record {
        follows = λ a b. absurd (omega arith);
        unmarked = λ a. absurd (omega arith);
        plain = λ a. absurd (omega arith);
        same = λ a. let f : node_link ws l.curr % 2 ≡ 0 = v.plain refl in omega arith;
        along = λ a. absurd (omega arith);
      }) (omega arith),
    )

    from_9 : Row (record l { pc = 9 })
    from_9 = (
      inr (omega arith),
      by_exchange (From 9) ws (link_index l.curr) (2 * l.succ) (2 * l.succ + 1)
          (λ z. to tt (omega arith) (λ v. outside (node_link (slice_set ws (link_index l.curr) (2 * l.succ + 1)))
          (record l { pc = 10 }) (λ a b. omega arith) (λ a. absurd (omega arith))) (omega arith))
          (λ z. starts_again (λ v. z (v.same refl))),
    )

    both : {A B : Type 0} → A → B → A × B
    both a b = (a, b)

    -- Lemma: after each row of the step table for a `contains` or a `ceiling`, fewer steps of the call remain, as
    -- `From` requires.
    read : (n : ℕ) {f : Fed} → IsReadRow n → Reads (round size) size key ws (record l { pc = n }) f → From n ws f
    read n {f} row a = (
      reads_then shape size key ws (reads_at size key ws) (record l { pc = n }) f row a,
      elim a [
        | inl x ↦ inl x
        | inr g ↦ inr (λ c high. c (g.high high))
      ],
    )

    reads : Reading vs first now done l → Row l
    reads (reads20 e d c a) = at_row Row l 20 e (both (inr (omega arith)) (read 20 (inl refl)
        (from_20 h key agrees (round size) (omega arith) a)))
    reads (reads21 e d c a) = at_row Row l 21 e (both (inr (omega arith)) (read 21 (inr (inl refl))
        (from_21 h key agrees (round size) (omega arith))))
    reads (reads22 e d c a) = at_row Row l 22 e (both (inr (omega arith)) (read 22 (inr (inr (inl refl)))
        (from_22 h key agrees (round size) (omega arith))))
    reads (reads23 e d c a) = at_row Row l 23 e (both (inr (omega arith)) (read 23 (inr (inr (inr (inl refl))))
        (from_23 h key agrees (round size) (omega arith) a)))
    reads (reads24 e d c a) = at_row Row l 24 e (both (inr (omega arith)) (read 24 (inr (inr (inr (inr (inl refl)))))
        (from_24 h key agrees (round size) (omega arith))))
    reads (reads25 e d c a) = at_row Row l 25 e (both (inr (omega arith)) (read 25 (inr (inr (inr (inr (inr refl)))))
        (from_25 h key agrees (round size) (omega arith))))

    increases_at : Was vs first now l.curr l.succ t (used t) (λ v. v.link l.curr % 2 ≡ 0) → l.curr ≢ 1
        → rest_by size key l.succ < rest_by size key l.curr
    increases_at o user =
        let ord : IsOrdered (vs o.at) = h.ordered o.at o.upto in
        let was : (vs o.at).published l.curr = in_chain_published (vs o.at) ord l.curr o.in_chain in
        let is = h.later o.at l.curr o.upto was in
        let next : (vs o.at).published l.succ = subst (λ x. (vs o.at).published x) o.next (ord.next_published l.curr was user) in
        let is' = h.later o.at l.succ o.upto next in
        let up : (vs o.at).key l.curr < (vs o.at).key l.succ =
        subst (λ x. (vs o.at).key l.curr < (vs o.at).key x) o.next (ord.increases l.curr was user) in
        let k : node_key ws l.curr ≡ (vs o.at).key l.curr = is.1 in let k' : node_key ws l.succ ≡ (vs o.at).key l.succ = is'.1 in
        let here : key l.curr ≡ node_key ws l.curr = agrees l.curr is.0 in
        let there : key l.succ ≡ node_key ws l.succ = agrees l.succ is'.0 in
        ahead_less key size (key l.curr) l.succ (inside true sz ws used h.memory l.succ is'.0) (omega arith)

    row : At sz.quota t vs first now V done l → Row l
    row (at0 e) = absurd (h.busy e)
    row (at1 e d) =
        let head : rest_by size key 0 < size = few_by size key 0 (omega arith) in
        let next : rest_by size key (node_link ws 0 / 2) < rest_by size key 0 =
        fewer_by true sz ws used h.memory key agrees 0 h.memory.ordered.head_published (omega arith) in
        let even : node_link ws 0 % 2 ≡ 0 = h.head_plain in
        at_row Row l 1 e (
          inr (omega arith),
          to tt (omega arith) (λ v. at_pred (node_link ws)
              (record l { pc = 2; pred = 0; curr = node_link ws 0 / 2 }) (omega arith, omega arith, λ z. omega arith)
              (omega arith))
              (omega arith),
        )
    row (at2 e d s k) = at_row Row l 2 e (from_2 s.curr_published)
    row (at2_now e d s f i x) = at_row Row l 2 e (from_2 s.curr_published)
    row (at3 e d s p o) = at_row Row l 3 e (from_3 s o)
    row (at4 e d s p k o b) = at_row Row l 4 e (from_4 (increases_at o))
    row (at5 e d s a) = at_row Row l 5 e from_5
    row (at6 e d s a x) = at_row Row l 6 e (from_6 s.pred_published a.room)
    row (at7 e d s a x y) = at_row Row l 7 e from_7
    row (at8 e d s a) = at_row Row l 8 e from_8
    row (at9 e d s a p) = at_row Row l 9 e from_9
    row (at10 e d s a x) = at_row Row l 10 e (inr (omega arith), ends)
    row (at_read a) = reads a

  row_of : Row l
  row_of = row (few_by size key l.curr h.registers.curr) h.at

-- Lemmas about a thread t with a pending call after the first k events of a run.
module _ (op : Opening) (last k : ℕ) (es : ℕ → Event) (r : Run lock_free op es last) (upto : k ≤ last) (key : ℕ → ℕ)
    (agrees : SameKeys key (views lock_free op es k)) (t : ℕ) (tn : t < op.threads) where
  abbrev S : State
  S = state_at lock_free op es k

  pub full_time : IsPending S t → Timed (node_count (sizes op)) key S.words (lock_free_steps (sizes op)) (local_of S t)
  full_time busy = (row_of key agrees (stands lock_free lock_free_lawful At keeps op last k t es r upto tn busy)).0

  pub own_step : (n : ℕ) → Left (node_count (sizes op)) key S.words (suc n) (local_of S t) → Answers lock_free S t
      ⊎ Left (node_count (sizes op)) key (after lock_free S (Go t)).words n (local_of (after lock_free S (Go t)) t)
  own_step n g =
      let y = (row_of key agrees (stands lock_free lock_free_lawful At keeps op last k t es r upto tn g.open_call)).1 in
      elim y.0.then [
        | inl a ↦ inl a
        | inr p ↦ elim y.1 [
          | inl a ↦ inl a
          | inr plain ↦ inr (subst (λ l. Left (node_count (sizes op)) key (after lock_free S (Go t)).words n l)
              (sym (put_same S t (lock_free.feed (local_of S t) (seen_next lock_free S t)).local
              (rw (known op last k es r upto).locals tn)))
              (record { open_call = p.busy; plain = plain g.plain; time = p.near g.plain n g.time }))
        ]
      ]

-- Holds if the call of thread t on a LockFreeList ends within n steps when it runs alone.
abbrev Stage : Sizes → State → ℕ → ℕ → Type 0
Stage sz s t n = (key : ℕ → ℕ) × SameKeys key (view_of sz s) × Left (node_count sz) key s.words n (local_of s t)

nears : Nears lock_free Stage
nears = record {
  some = λ sz s t g. no_time shape (node_count sz) g.0 (node_link s.words) (local_of s t) g.2.time;
  pending = λ sz s t n g. g.2.open_call;
  steps = λ op es k t n r ee tn g.
      let en : Enabled (state_at lock_free op es k) (Go t) =
      subst (λ e. Enabled (state_at lock_free op es k) e) ee (r.enabled k (omega arith)) in
      elim (step_is op (suc k) es r k (omega arith) t en) [
        | inl a ↦ inl a.0
        | inr x ↦ elim (own_step op (suc k) k es r (omega arith) g.0 g.1 t tn n g.2) [
          | inl a ↦ inl a
          | inr left ↦ inr (g.0, keys_on g.0 x.0 g.1, left)
        ]
      ];
}

pub lock_free_calls_end : CallsEndUnhindered lock_free lock_free_steps
lock_free_calls_end op k t es r tn busy unmarked =
    let key : ℕ → ℕ = (views lock_free op es k).key in
    let x = (known op k k es r (omega arith)).threads t tn in
    ends_alone lock_free lock_free_lawful Stage nears op t tn (lock_free_steps (sizes op)) k es r (
      key,
      λ a p. refl,
      record {
        open_call = busy;
        plain = λ h b p. unmarked (ceiling_at_marks (place_of x.at) h) b (in_chain_of (views lock_free op es k) b p);
        time = full_time op k k es r (omega arith) key (λ a p. refl) t tn busy;
      },
    )
