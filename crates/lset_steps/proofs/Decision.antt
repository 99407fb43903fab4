-- Lemmas about a call whose walk along the chain has ended at two neighboring nodes: `pred`, whose key is smaller than
-- the call's key, and `curr`, whose key is not. The call then has a reply, or will change the set.
use Rattle.std.specs.Prelude.{◌≡◌, ◌≢◌, ℕ, ◌*◌, ◌/◌, ◌%◌, ◌<◌, ◌≤◌, ◌⊎◌, Bool, true, false, Some, None, List, [], ◌==◌, nat_lt, refl}
use Rattle.std.proofs.Common.{arith, inl, inr, sym, ◌∙◌, ap}
use Rattle.lset_words.proofs.Numbers.{same_number, other_number, lower_number, not_lower_number}
use Rattle.lset_words.specs.Words.{tail_word, target, key_of, Sizes}
use Rattle.lset_words.specs.declared.Reply.{Reply}
use Rattle.lset_steps.specs.declared.Local.{Local}
use Rattle.lset_steps.specs.declared.rows.Targets.{Targets}
use Rattle.lset_steps.specs.Chain.{View, view, InChain, InContent, FitsIn, node_key, node_link}
use Rattle.lset_steps.specs.Rows.{decided_on, goes_to}
use Rattle.lset_steps.proofs.Memory.{Memory}
use Rattle.lset_steps.proofs.QuietMove.{chain_on}
use Rattle.lset_steps.proofs.Replies.{Adding, Removing, decided_cases, absent_between, ceiling_fits}

-- Lemma: when its walk ends, a call either has a correct reply, or will add or remove its key. If it will add or remove
-- its key, `Adding` or `Removing` holds.
pub decides : {marks : Bool} {sz : Sizes} {ws : List ℕ} {used : ℕ → ℕ} (m : Memory marks sz ws used) (t : ℕ) {pred curr : ℕ}
    (rows : Targets) (c : ℕ) (l : Local) → InChain (view sz ws used) pred → pred ≢ 1 → node_link ws pred ≡ 2 * curr
    → node_key ws pred < target l.call → node_link ws curr % 2 ≡ 0 → c ≡ node_key ws curr → target l.call ≤ c
    → target l.call < tail_word → used t ≤ sz.quota → l.used ≡ used t → l.quota ≡ sz.quota
    → ((r : Reply) × (decided_on rows c l ≡ goes_to rows.leaves (Some r) l) × FitsIn sz.quota (view sz ws used) t l.call r)
    ⊎ ((decided_on rows c l ≡ goes_to rows.adds None l) × Adding (view sz ws used) t sz.quota curr l.call)
    ⊎ ((decided_on rows c l ≡ goes_to rows.removes None l) × Removing (view sz ws used) curr l.call)
decides {sz = sz} {ws} {used} m t {pred} {curr} rows c l at inner follows below even is above low most count quota =
    let v : View = view sz ws used in let k : ℕ = target l.call in
    let half : node_link ws pred / 2 ≡ curr = omega arith in
    let hit : (c == k) ≡ true → InContent (view sz ws used) (key_of l.call).0 = λ y.
    (let z : c ≡ k = same_number c k y in
    let head : node_key ws 0 ≡ 0 = m.head_key in let tail : node_key ws 1 ≡ tail_word = m.tail_key in
    let c0 : curr ≢ 0 = λ f. (let g : node_key ws curr ≡ node_key ws 0 = ap (node_key ws) f in omega arith) in
    let c1 : curr ≢ 1 = λ f. (let g : node_key ws curr ≡ node_key ws 1 = ap (node_key ws) f in omega arith) in
    (curr, chain_on v pred curr curr [] at inner half refl, omega arith, sym is ∙ z, even)) in
    let miss : (c == k) ≡ false → InContent (view sz ws used) (key_of l.call).0 → ⊥ = λ y.
    (let z : c ≢ k = other_number c k y in
    absent_between (view sz ws used) m.ordered pred (key_of l.call).0 at inner below (rw half (omega arith))) in
    let full : nat_lt l.used l.quota ≡ false
    → used t ≡ sz.quota = λ y. (let z : l.quota ≤ l.used = not_lower_number l.used l.quota y in omega arith) in
    let over = ceiling_fits sz.quota t (view sz ws used) pred c (key_of l.call) m.ordered m.head_key m.tail_key at inner below
    (is ∙ ap (node_key ws) (sym half)) above (λ x. ap (λ a. node_link ws a % 2) half ∙ even) in
    elim (decided_cases rows.adds rows.removes rows.leaves sz.quota t (view sz ws used) l.call (c == k)
    (nat_lt l.used l.quota) c l hit miss full over) [
      | inl r ↦ inl r
      | inr z ↦ elim z [
        | inl r ↦ inr (inl (
          r.0,
          record {
            call = r.1;
            room = (let y : l.used < l.quota = lower_number l.used l.quota r.3 in omega arith);
            above = (let y : c ≢ k = other_number c k r.2 in omega arith);
          },
        ))
        | inr r ↦ inr (inr (r.0, record { call = r.1; found = sym is ∙ same_number c k r.2 }))
      ]
    ]
