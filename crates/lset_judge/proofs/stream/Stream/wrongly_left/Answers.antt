use Rattle.std.proofs.Common.{◌≡◌, ℕ, List, ◌∷◌, [], ◌++◌, true, false, sym, ap, ◌∙◌, map, rules, subst, inl, inr, Bor}
use Rattle.std.specs.Prelude.{All, MatchOption, Option, Some, None, IsSome, ◌⊎◌}
use Rattle.std.specs.Bool.{nat_eq}
use Rattle.std.specs.Cmp.{nat_eq_equiv}
use Rattle.std.specs.HashMap.{get}
use Rattle.std.specs.List.{AllByRecursion}
use Rattle.std.specs.Map.{lookup}
use Rattle.std.specs.Map.Iter.{deref_pair}
use Rattle.std.proofs.lemmas.Bool.{cases_Bool}
use Rattle.std.proofs.lemmas.Map.Iter.{hash_map_turn, iter_end}
use Rattle.std.proofs.lemmas.List.Elements.{All-push, All-map, recursion_from_All}
use Rattle.lset_words.specs.Effects.{is_there}
use Rattle.lset_words.specs.SequentialSet.{has_key}
use Rattle.lset_words.proofs.Numbers.{same_number}
use Rattle.lset_judge.specs.declared.rule.KeyState.{KeyState}
use Rattle.lset_judge.specs.Code.{state_of}
use Rattle.lset_judge.specs.Leaving.{may_be_left}
use Rattle.lset_judge.specs.Stream.{state_or, state_for}
use Rattle.lset_judge.proofs.KeyStates.{there_again}
use Rattle.lset_judge.proofs.stream.Stream.wrongly_left.Goals as goal

right_more : (keys : List ℕ) (xs : List (Bor ℕ × Bor KeyState)) (x : Bor ℕ × Bor KeyState) (wrong : Option ℕ) (Q : ℕ → Type 0)
    → MatchOption wrong (All (λ p. may_be_left (has_key p.0.now keys) (state_of p.1.now) ≡ true) xs) Q → may_be_left (has_key x.0.now keys) (state_of x.1.now) ≡ true
    → MatchOption wrong (All (λ p. may_be_left (has_key p.0.now keys) (state_of p.1.now) ≡ true) (xs ++ x ∷ [])) Q
right_more keys xs x None Q all here = All-push (λ (p : Bor ℕ × Bor KeyState). may_be_left (has_key p.0.now keys) (state_of p.1.now) ≡ true) xs x all here
right_more keys xs x (Some k) Q h here = h

wrong_more : (P : ℕ → Type 0) (A : Type 0) (wrong : Option ℕ) (key smallest : ℕ) → (smallest ≡ key) ⊎ (wrong ≡ Some smallest) → P key → MatchOption wrong A P → P smallest
wrong_more P A wrong key smallest (inl e) here before = subst P (sym e) here
wrong_more P A None key smallest (inr e) here before = absurd (cc)
wrong_more P A (Some k) key smallest (inr e) here before = subst P (let s : k ≡ smallest = cc in s) before

found_right : (keys : List ℕ) (k : ℕ) (es : List (ℕ × KeyState)) → AllByRecursion (λ (e : ℕ × KeyState). may_be_left (has_key e.0 keys) (state_of e.1) ≡ true) es
    → IsSome (lookup (nat_eq k) es) → may_be_left (has_key k keys) (state_or (lookup (nat_eq k) es)) ≡ true
found_right keys k [] all there = absurd (cc)
found_right keys k (x ∷ es) all there = elim (cases_Bool (nat_eq k x.0)) [
  | inl t ↦ (let is : x.0 ≡ k = sym (same_number k x.0 t) in rw t (subst (λ (j : ℕ). may_be_left (has_key j keys) (state_of x.1) ≡ true) is all.0))
  | inr f ↦ rw f (found_right keys k es all.1 (rw f at there))
]

finished : (wrong : Option ℕ) (A B : Type 0) (Q : ℕ → Type 0) → (A → B) → MatchOption wrong A Q → MatchOption wrong B Q
finished None A B Q f all = f all
finished (Some k) A B Q f h = h

pub loop-key-preserved-then-not-may_be_left : goal.loop-key-preserved-then-not-may_be_left
loop-key-preserved-then-not-may_be_left c =
    let keys = c.args.keys.now in let k = c.in-Some.key.now in let s = c.in-Some.state.now in let m = c.args.self.now.states in
    let turn = hash_map_turn deref_pair c.loop-key.yielded c.into_iter-key-iterator.result c.loop-key.key-iterator c.next.new.self c.next.result
    (c.in-Some.key, c.in-Some.state) c.loop-key.yielded_by c.in-Some.is c.next.ensures.steps nat_eq_equiv m (search rules) (search rules) in
    wrong_more (λ k. may_be_left (has_key k keys) (state_for m k) ≡ false)
    (All (λ p. may_be_left (has_key p.0.now keys) (state_of p.1.now) ≡ true) c.loop-key.yielded) c.loop-key.wrong k c.smallest.result c.smallest.ensures
    (ap (λ o. may_be_left (has_key k keys) (state_or o)) turn.1
    ∙ sym (c.may_be_left.ensures ∙ ap (λ p. may_be_left (is_there p) (state_of s)) c.presence_in.ensures
    ∙ sym (ap (λ b. may_be_left b (state_of s)) (there_again (has_key c.in-Some.key.now keys)))) ∙ c.if-not-may_be_left.true)
    c.loop-key.invariant

pub loop-key-preserved : goal.loop-key-preserved
loop-key-preserved c =
    let keys = c.args.keys.now in
    right_more keys c.loop-key.yielded (c.in-Some.key, c.in-Some.state) c.loop-key.wrong
    (λ k. may_be_left (has_key k keys) (state_for c.args.self.now.states k) ≡ false) c.loop-key.invariant
    (sym (c.may_be_left.ensures ∙ ap (λ p. may_be_left (is_there p) (state_of c.in-Some.state.now)) c.presence_in.ensures
    ∙ sym (ap (λ b. may_be_left b (state_of c.in-Some.state.now)) (there_again (has_key c.in-Some.key.now keys)))) ∙ c.if-not-may_be_left.false)

pub returns : goal.returns
returns c =
    let keys = c.args.keys.now in let m = c.args.self.now.states in
    let all : map deref_pair c.loop-key.yielded ≡ m.entries = search (rules, iter_end) in
    finished c.loop-key.wrong (All (λ p. may_be_left (has_key p.0.now keys) (state_of p.1.now) ≡ true) c.loop-key.yielded)
    ((k : ℕ) → IsSome (get nat_eq m k) → may_be_left (has_key k keys) (state_for m k) ≡ true) (λ k. may_be_left (has_key k keys) (state_for m k) ≡ false)
    (λ each k there. found_right keys k m.entries (recursion_from_All (λ (e : ℕ × KeyState). may_be_left (has_key e.0 keys) (state_of e.1) ≡ true) m.entries
    (subst (All (λ (e : ℕ × KeyState). may_be_left (has_key e.0 keys) (state_of e.1) ≡ true)) all
    (All-map (λ (e : ℕ × KeyState). may_be_left (has_key e.0 keys) (state_of e.1) ≡ true) deref_pair c.loop-key.yielded each))) there)
    c.loop-key.invariant
