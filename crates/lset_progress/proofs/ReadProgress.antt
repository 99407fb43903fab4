-- Proof of progress for a `contains` or a `ceiling` without locks that runs alone. If no node of the chain is marked, a
-- `ceiling` starts again at most once.
use Rattle.std.specs.Prelude.{◌≡◌, ◌≢◌, ℕ, ◌+◌, ◌*◌, ◌/◌, ◌%◌, ◌<◌, ◌≤◌, ◌⊎◌, nat_lt, Bool, Some, List, refl, if◌then◌else◌, ◌==◌}
use Rattle.std.proofs.Common.{arith, inl, inr, suc}
use Rattle.lset_words.specs.declared.Reply.{Reply}
use Rattle.lset_words.specs.declared.Reply.TheVariants.{True, False, Nothing}
use Rattle.lset_words.specs.Words.{node_count, target, key_of, tail_word, Sizes}
use Rattle.lset_steps.specs.declared.Fed.{Fed}
use Rattle.lset_steps.specs.declared.Local.{Local}
use Rattle.lset_steps.specs.Steps.{seen_by}
use Rattle.lset_steps.specs.Chain.{View, view, node_key, node_link}
use Rattle.lset_steps.specs.ReadRows.{read_action, read_fed, continued}
use Rattle.lset_steps.specs.Rows.{ceiling_at}
use Rattle.lset_steps.proofs.Discipline.{Outline}
use Rattle.lset_steps.proofs.Memory.{inner}
use Rattle.lset_steps.proofs.Moves.{At20}
use Rattle.lset_steps.proofs.QuietMove.{in_chain_published}
use Rattle.lset_steps.proofs.ReadTables.{IsReadRow}
use Rattle.lset_progress.proofs.Ahead.{ahead}
use Rattle.lset_progress.proofs.Decided.{by_same, by_below}
use Rattle.lset_progress.proofs.Rest.{SameKeys, rest_by, few_by, fewer_by}
use Rattle.lset_progress.proofs.RowsWithLocks.{Shape, Then, Any, When}
use Rattle.lset_progress.proofs.Paths.{Path, no_steps, path_on}
use Rattle.lset_progress.proofs.Standing.{Standing}

-- Holds if no node of the chain is marked.
abbrev pub Plain : List ℕ → Type 0
Plain ws = (b : ℕ) → Path (node_link ws) 0 b → node_link ws b % 2 ≡ 0

-- Returns how many steps of a `contains` or a `ceiling` remain after the next step, depending on the call's row of the
-- step table.
abbrev pub reads_left : ℕ → (ℕ → ℕ) → Local → ℕ
reads_left size key l =
    if l.pc == 20 then 2 * ahead key size (key l.curr)
    else if l.pc == 21 then 2 * ahead key size (key l.curr) + 1
    else if l.pc == 23 then 2 * ahead key size (key l.curr)
    else if l.pc == 24 then 2 * ahead key size (key l.curr) + 1
    else 0

-- Holds if, at the rows of a `ceiling` in the step table, links lead from the head to `curr`, so `curr` is in the
-- chain.
abbrev pub Along : (ℕ → ℕ) → Local → Type 0
Along link l = When (nat_lt 22 l.pc) (Path link 0 l.curr)

-- Holds if n steps are enough for the rest of a walk in the chain, or for the rest of any walk plus one additional
-- walk.
abbrev pub ReadTimed : ℕ → ℕ → (ℕ → ℕ) → List ℕ → ℕ → Local → Type 0
ReadTimed round size key ws n l = (Along (node_link ws) l × (reads_left size key l < n)) ⊎ (reads_left size key l + round < n)

-- Holds if a step leads from one row of a `contains` or a `ceiling` in the step table to another, with fewer steps
-- remaining.
module _ (round size : ℕ) (key : ℕ → ℕ) (ws : List ℕ) where
  pub record ReadGoes (l l' : Local) : Type 0 where
    pub row : IsReadRow l'.pc
    pub high : 23 ≤ l'.pc → 23 ≤ l.pc
    pub near : (23 ≤ l.pc → Plain ws) → (n : ℕ) → ReadTimed round size key ws (suc n) l → ReadTimed round size key ws n l'

  abbrev pub Reads : Local → Fed → Type 0
  Reads l f = ((r : Reply) × (f.answer ≡ Some r)) ⊎ ReadGoes l f.local

  on : {l l' : Local} → IsReadRow l'.pc → (23 ≤ l'.pc → 23 ≤ l.pc) → (Along (node_link ws) l → Along (node_link ws) l')
      → reads_left size key l' < reads_left size key l → Reads l (continued l')
  on {l = l} row high along less = inr (record {
    row = row;
    high = high;
    near = λ plain n time. elim time [
      | inl v ↦ inl (let h : reads_left size key l < suc n = v.1 in (along v.0, omega arith))
      | inr h ↦ inr (omega arith)
    ];
  })

module _ {marks : Bool} {At : Outline} {sz : Sizes} {ws : List ℕ} {used : ℕ → ℕ} {t : ℕ} {vs : ℕ → View} {first now : ℕ}
    {done : Bool}
    {l : Local} (h : Standing marks At sz ws used t vs first now done l) (key : ℕ → ℕ) (same : SameKeys key (view sz ws used))
    (round : ℕ)
    (enough : 2 * node_count sz ≤ round) where
  abbrev size : ℕ
  size = node_count sz

  abbrev From : ℕ → Fed → Type 0
  From n f = Reads round size key ws (record l { pc = n }) f

  abbrev Row : ℕ → Type 0
  Row n = From n (read_fed (record l { pc = n }) (seen_by ws (read_action (record l { pc = n }))))

  goes_less : At20 vs first now (key_of l.call).0 l.curr
      → (l.curr ≢ 1) × (rest_by size key (node_link ws l.curr / 2) < rest_by size key l.curr)
  goes_less a =
      let upto : a.past.at ≤ now = a.past.upto in
      let was : (vs a.past.at).published l.curr =
      in_chain_published (vs a.past.at) (h.ordered a.past.at upto) l.curr a.past.in_chain in
      let is = h.later a.past.at l.curr upto was in
      let was_key : node_key ws l.curr ≡ (vs a.past.at).key l.curr = is.1 in
      let below : (vs a.past.at).key l.curr < (key_of l.call).0 + 1 = a.low in
      let user : l.curr ≢ 1 = inner marks sz ws used h.memory l.curr (target l.call) (omega arith) h.registers.low in
      (user, fewer_by marks sz ws used h.memory key same l.curr is.0 user)

  pub from_20 : At20 vs first now (key_of l.call).0 l.curr → Row 20
  from_20 a =
      let less : rest_by size key (node_link ws l.curr / 2) < rest_by size key l.curr = (goes_less a).1 in
      on round size key ws (inr (inl refl)) (λ z. omega arith) (λ v. tt) (omega arith)

  pub from_21 : Row 21
  from_21 = by_below (From 21) (node_key ws l.curr) (target l.call)
      (λ lt. on round size key ws (inl refl) (λ z. omega arith) (λ v. tt)
      (omega arith))
      (λ ge. by_same (From 21) (node_key ws l.curr) (target l.call)
      (λ e. on round size key ws (inr (inr (inl refl))) (λ z. omega arith) (λ v. tt) (omega arith)) (λ d. inl (False, refl)))

  pub from_22 : Row 22
  from_22 = by_same (From 22) (node_link ws l.curr % 2) 0 (λ e. inl (True, refl)) (λ d. inl (False, refl))

  pub from_23 : At20 vs first now (key_of l.call).0 l.curr → Row 23
  from_23 a =
      let goes_on = goes_less a in
      let less : rest_by size key (node_link ws l.curr / 2) < rest_by size key l.curr = goes_on.1 in
      on round size key ws (inr (inr (inr (inr (inl refl))))) (λ z. omega arith)
      (λ v. path_on (node_link ws) 0 l.curr (node_link ws l.curr / 2) v goes_on.0 refl) (omega arith)

  pub from_24 : Row 24
  from_24 = by_below (From 24) (node_key ws l.curr) (target l.call)
      (λ lt. on round size key ws (inr (inr (inr (inl refl)))) (λ z. omega arith) (λ v. v) (omega arith))
      (λ ge. by_same (From 24) (node_key ws l.curr) tail_word (λ e. inl (Nothing, refl))
      (λ d. on round size key ws (inr (inr (inr (inr (inr refl))))) (λ z. omega arith) (λ v. v) (omega arith)))

  pub from_25 : Row 25
  from_25 = by_same (From 25) (node_link ws l.curr % 2) 0 (λ e. inl (ceiling_at l.ckey, refl)) (λ d. inr (record {
    row = inr (inr (inr (inl refl)));
    high = λ z. omega arith;
    near = λ plain n time. elim time [
      | inl v ↦ absurd (d (plain (omega arith) l.curr v.0))
      | inr lt ↦ inl (
        no_steps (node_link ws) 0,
        (let head : rest_by size key 0 < size = few_by size key 0 (omega arith) in
            omega arith),
      )
    ];
  }))

-- Lemmas: at the rows of a `contains` or a `ceiling` in the step table, the list's facts in `Shape` agree with
-- `reads_left`, `Along`, and `Plain`.
module _ (S : Shape) (size : ℕ) (key : ℕ → ℕ) (ws : List ℕ) where
  abbrev pub ReadsAt : Local → Type 0
  ReadsAt l = ((x : ℕ) → S.may l x → ⊥) × (S.late l → ⊥) × (l.pc ≢ 0) × (S.left size key l ≡ reads_left size key l)
      × (S.valid (node_link ws) l → Along (node_link ws) l) × (Along (node_link ws) l → S.valid (node_link ws) l)
      × (S.calm ws l → 23 ≤ l.pc → Plain ws)

  pub reads_then : ((k : Local) → IsReadRow k.pc → ReadsAt k) → (l : Local) (f : Fed) → IsReadRow l.pc
      → Reads (S.round size) size key ws l f → Then S size key ws l Any key ws f
  reads_then each l f row (inl a) = record { keeps = λ x o m. absurd ((each l row).0 x m); then = inl a }
  reads_then each l f row (inr g) =
      let here = each l row in
      let there = each f.local g.row in
      let left : S.left size key l ≡ reads_left size key l = here.3 in
      let left' : S.left size key f.local ≡ reads_left size key f.local = there.3 in
      record {
        keeps = λ x o m. absurd (here.0 x m);
        then = inr (record {
          busy = there.2;
          late = λ z. absurd (here.1 z);
          near = λ calm n time. elim (g.near (here.6 calm) n (elim time [
            | inl v ↦ inl (here.4 v.0, (let lt : S.left size key l < suc n = v.1 in omega arith))
            | inr lt ↦ inr (omega arith)
          ])) [
            | inl v ↦ inl (there.5 v.0, (let lt : reads_left size key f.local < n = v.1 in omega arith))
            | inr lt ↦ inr (omega arith)
          ];
        });
      }
