-- Proofs about the moments when pending changes end. The code stores the moments in a heap, and the contracts describe
-- them as a list in increasing order.
use Rattle.std.proofs.Common.{◌≡◌, ℕ, suc, ◌+◌, ◌-◌, ◌<◌, ◌≤◌, List, [], ◌∷◌, Bool, true, false, inl, inr, refl, sym, ap, ◌∙◌, arith, subst, length}
use Rattle.std.specs.Prelude.{◌==◌, nat_lt, slice_index_or, slice_get, if◌then◌else◌, Option, Some, None, All, MatchOption}
use Rattle.std.specs.BinaryHeap.{IsUpperBound}
use Rattle.std.specs.List.{sum_by, AllByRecursion}
use Rattle.std.specs.List.Sorted.{IsPermutation}
use Rattle.std.specs.Ordering.{nat_cmp, is_lt}
use Rattle.std.specs.declared.cmp.Reverse.{Reverse}
use Rattle.std.proofs.lemmas.Bool.{cases_Bool, true≢false}
use Rattle.std.proofs.lemmas.List.Sorted.{sum_by-IsPermutation}
use Rattle.std.proofs.lemmas.List.Elements.{All-from_recursion}
use Rattle.std.proofs.lemmas.List.Sums.{sum_by-cons}
use Rattle.lset_words.proofs.Numbers.{equal_test, unequal_test, below_or_not, lower_number, not_lower_number}
use Rattle.lset_judge.specs.Heaped.{increasing_of, later_first}
use Rattle.lset_judge.specs.Rule.{Event, State, not_before, put_in, nearest, turned_if, turned_by, options, settled, open_changes, fits}
use Rattle.lset_judge.proofs.RuleLeads.{at, later, no_state}
use Rattle.lset_judge.proofs.RuleLeads.{counts, counts_one, counts_not, at_most_all, all_from_zero, counted_in, length_in, taken_length, nearest_stands}

-- ---- Lemmas about lists of moments in increasing order

-- Holds if no moment in the list is before d.
abbrev NoneBefore : ℕ → List ℕ → Type 0
NoneBefore d xs = not_before d xs ≡ length xs

abbrev pub IsIncreasing : List ℕ → Type 0
IsIncreasing [] = Unit {0}
IsIncreasing (x ∷ xs) = NoneBefore x xs × IsIncreasing xs

none_before : (d x : ℕ) (xs : List ℕ) → NoneBefore d (x ∷ xs) → (d ≤ x) × NoneBefore d xs
none_before d x xs h = elim (below_or_not x d) [
  | inl l ↦ (let o = counts_not d x l in let most = at_most_all d xs in absurd (omega (arith, o, most, h)))
  | inr l ↦ (let o = counts_one d x l in (omega (arith, l), omega (arith, o, h)))
]

none_earlier : (d e : ℕ) (xs : List ℕ) → d ≤ e → NoneBefore e xs → NoneBefore d xs
none_earlier d e [] l h = refl
none_earlier d e (x ∷ xs) l h =
    let a = none_before e x xs h in let low = a.0 in let o = counts_one d x (omega (arith, l, low)) in
    let rest = none_earlier d e xs l a.1 in omega (arith, o, rest)

first_nearest : (x : ℕ) (xs : List ℕ) → NoneBefore x xs → nearest x xs ≡ x
first_nearest x [] h = refl
first_nearest x (y ∷ ys) h = let a = none_before x y ys h in let low = a.0 in let rest = far y ys low a.1 in omega (arith, rest)
  where
    far : (z : ℕ) (zs : List ℕ) → x ≤ z → NoneBefore x zs → x ≤ nearest z zs
    far z [] l h = l
    far z (w ∷ ws) l h = let b = none_before x w ws h in let rest = far w ws b.0 b.1 in omega (arith, l, rest)

increasing_with : (e : ℕ) (xs : List ℕ) → IsIncreasing xs → IsIncreasing (put_in e xs)
increasing_with e [] up = (refl, tt)
increasing_with e (x ∷ xs) up = elim (cases_Bool (nat_lt e x)) [
  | inl t ↦ (let l = lower_number e x t in let o = counts_one e x (omega (arith, l)) in let all = none_earlier e x xs (omega (arith, l)) up.0 in
      rw t (let here : NoneBefore e (x ∷ xs) = omega (arith, o, all) in (here, up)))
  | inr f ↦ (let l = not_lower_number e x f in let o = counts_one x e l in let n = counted_in x e xs in let s = length_in e xs in let all = up.0 in
      rw f (let here : NoneBefore x (put_in e xs) = omega (arith, o, n, s, all) in (here, increasing_with e xs up.1)))
]

same_increasing : (xs ys : List ℕ) → IsIncreasing xs → IsIncreasing ys → ((d : ℕ) → not_before d xs ≡ not_before d ys) → xs ≡ ys
same_increasing [] [] up high h = refl
same_increasing [] (y ∷ ys) up high h = let a = h 0 in let b = all_from_zero (y ∷ ys) in absurd (omega (arith, a, b))
same_increasing (x ∷ xs) [] up high h = let a = h 0 in let b = all_from_zero (x ∷ xs) in absurd (omega (arith, a, b))
same_increasing (x ∷ xs) (y ∷ ys) up high h =
    let is : x ≡ y = (let l = not_lower y ys x xs (λ d. sym (h d)) high.0 in let m = not_lower x xs y ys h up.0 in omega (arith, l, m)) in
    let rest : xs ≡ ys = same_increasing xs ys up.1 high.1 (λ d. let a = h d in omega (arith, a, ap (counts d) is)) in
    cc
  where
    not_lower : (u : ℕ) (us : List ℕ) (v : ℕ) (vs : List ℕ) → ((d : ℕ) → not_before d (u ∷ us) ≡ not_before d (v ∷ vs)) → NoneBefore u us → u ≤ v
    not_lower u us v vs same none = elim (below_or_not v u) [
      | inl l ↦ (let o = counts_not u v l in let p = counts_one u u (omega arith) in let most = at_most_all u vs in let here = same u in
          let all = same 0 in let i = all_from_zero (u ∷ us) in let j = all_from_zero (v ∷ vs) in absurd (omega (arith, o, p, most, here, all, i, j, none)))
      | inr l ↦ l
    ]

-- ---- Lemmas about the moments in a heap

increasing : (xs : List (Reverse ℕ)) → IsIncreasing (increasing_of xs)
increasing [] = tt
increasing (x ∷ xs) = increasing_with x.0 (increasing_of xs) (increasing xs)

counted : (d : ℕ) (xs : List (Reverse ℕ)) → not_before d (increasing_of xs) ≡ sum_by (λ (x : Reverse ℕ). counts d x.0) xs
counted d [] = refl
counted d (x ∷ xs) = counted_in d x.0 (increasing_of xs) ∙ ap (λ n. counts d x.0 + n) (counted d xs) ∙ sym (sum_by-cons (λ (y : Reverse ℕ). counts d y.0) x xs)

pub same_length : (xs : List (Reverse ℕ)) → length (increasing_of xs) ≡ length xs
same_length [] = refl
same_length (x ∷ xs) = length_in x.0 (increasing_of xs) ∙ ap suc (same_length xs)

pub reordered : (xs ys : List (Reverse ℕ)) → IsPermutation xs ys → increasing_of ys ≡ increasing_of xs
reordered xs ys p = same_increasing (increasing_of ys) (increasing_of xs) (increasing ys) (increasing xs)
    (λ d. counted d ys ∙ sum_by-IsPermutation (λ (x : Reverse ℕ). counts d x.0) xs ys p ∙ sym (counted d xs))

none_in_heap : (x : Reverse ℕ) (xs : List (Reverse ℕ)) → IsUpperBound later_first x xs → NoneBefore x.0 (increasing_of xs)
none_in_heap x [] h = refl
none_in_heap x (y ∷ ys) h =
    let o = counts_one x.0 y.0 (not_less y.0 x.0 h.0) in let rest = none_in_heap x ys h.1 in
    let n = counted_in x.0 y.0 (increasing_of ys) in let s = length_in y.0 (increasing_of ys) in omega (arith, o, rest, n, s)
  where
    not_less : (a b : ℕ) → is_lt (nat_cmp a b) ≡ false → b ≤ a
    not_less a b e = elim (cases_Bool (nat_lt a b)) [ inl t ↦ absurd (true≢false (rw t at e)) | inr f ↦ not_lower_number a b f ]

pub popped : (x : Reverse ℕ) (old new : List (Reverse ℕ)) → IsPermutation old (x ∷ new) → IsUpperBound later_first x new
    → (increasing_of old ≡ x.0 ∷ increasing_of new) × (nearest x.0 (increasing_of new) ≡ x.0)
popped x old new p top =
    let none = none_in_heap x new top in (
      sym (reordered old (x ∷ new) p) ∙ same_increasing (put_in x.0 (increasing_of new)) (x.0 ∷ increasing_of new) (increasing (x ∷ new)) (none, increasing new)
          (λ d. counted_in d x.0 (increasing_of new)),
      first_nearest x.0 (increasing_of new) none,
    )

pub due_told : (m e : ℕ) (x : Reverse ℕ) (xs : List (Reverse ℕ)) → 0 < length xs → x ≡ slice_index_or xs 0 x → IsUpperBound later_first x xs → e ≡ x.0 - 1
    → nat_lt m e ≡ (not_before (suc (suc m)) (increasing_of xs) == length (increasing_of xs))
due_told m e x [] low is top less = absurd (omega (arith, low))
due_told m e x (y ∷ ys) low is top less = elim (cases_Bool (nat_lt m e)) [
  | inl t ↦ (let l = lower_number m e t in t
      ∙ sym (equal_test _ _ (none_earlier (suc (suc m)) x.0 (increasing_of (y ∷ ys)) (omega (arith, l, less)) (none_in_heap x (y ∷ ys) top))))
  | inr f ↦ (let same : x.0 ≡ y.0 = ap (λ (r : Reverse ℕ). r.0) is in let l = not_lower_number m e f in
      let o = counts_not (suc (suc m)) y.0 (omega (arith, same, l, less)) in
      let most = at_most_all (suc (suc m)) (increasing_of ys) in let n = counted_in (suc (suc m)) y.0 (increasing_of ys) in let s = length_in y.0 (increasing_of ys) in
      f ∙ sym (unequal_test _ _ (λ q. omega (arith, o, most, n, s, q))))
]

pub none_held : (xs : List (Reverse ℕ)) → length xs ≡ 0 → increasing_of xs ≡ []
none_held [] e = refl
none_held (x ∷ xs) e = absurd (omega (arith, e))

-- ---- Lemmas about the earliest moment in a list

each_from : (d : ℕ) (xs : List ℕ) → NoneBefore d xs → AllByRecursion (λ (e : ℕ). d ≤ e) xs
each_from d [] h = tt
each_from d (x ∷ xs) h = let a = none_before d x xs h in (a.0, each_from d xs a.1)

first_put : (e : ℕ) (xs : List ℕ) → NoneBefore e xs → slice_get (put_in e xs) 0 ≡ Some e
first_put e [] h = refl
first_put e (x ∷ xs) h = elim (cases_Bool (nat_lt e x)) [
  | inl t ↦ rw t refl
  | inr f ↦ rw f (let a = none_before e x xs h in let l = not_lower_number e x f in let is : x ≡ e = omega (arith, a.0, l) in ap Some is)
]

pub first_held : (x : Reverse ℕ) (xs : List (Reverse ℕ)) → 0 < length xs → x ≡ slice_index_or xs 0 x → IsUpperBound later_first x xs
    → (slice_get (increasing_of xs) 0 ≡ Some x.0) × All (λ (e : ℕ). x.0 ≤ e) (increasing_of xs)
first_held x [] low is top = absurd (omega (arith, low))
first_held x (y ∷ ys) low is top =
    let same : y.0 ≡ x.0 = ap (λ (r : Reverse ℕ). r.0) (sym is) in (
      subst (λ (n : ℕ). slice_get (put_in n (increasing_of ys)) 0 ≡ Some x.0) (sym same) (first_put x.0 (increasing_of ys) (none_in_heap x ys top.1)),
      All-from_recursion (λ (e : ℕ). x.0 ≤ e) (increasing_of (y ∷ ys)) (each_from x.0 (increasing_of (y ∷ ys)) (none_in_heap x (y ∷ ys) top)),
    )

abbrev Popped : ℕ → List ℕ → List ℕ → Option ℕ → Type 0
Popped moment old new r = MatchOption r ((new ≡ old) × All (λ (e : ℕ). moment ≤ e) old)
    (λ (end : ℕ). (old ≡ end ∷ new) × (end < moment) × All (λ (e : ℕ). end ≤ e) old)

pub first_popped : (end moment : ℕ) (old new : List ℕ) (r : Option ℕ) → slice_get old 0 ≡ Some end → All (λ (e : ℕ). end ≤ e) old → end < moment
    → MatchOption r (old ≡ []) (λ (e : ℕ). (old ≡ e ∷ new) × (nearest e new ≡ e)) → Popped moment old new r
first_popped end moment old new None first all early is = absurd (let e : slice_get [] 0 ≡ Some end = subst (λ (xs : List ℕ). slice_get xs 0 ≡ Some end) is first in cc)
first_popped end moment old new (Some e) first all early is =
    let h : Some e ≡ Some end = subst (λ (xs : List ℕ). slice_get xs 0 ≡ Some end) is.0 first in let same : end ≡ e = cc in
    (is.0, subst (λ (n : ℕ). n < moment) same early, subst (λ (n : ℕ). All (λ (o : ℕ). n ≤ o) old) same all)

-- ---- Lemmas about pending changes that take effect one after another

pub put_turned : (m t end : ℕ) (b : Bool) (ps ks rest : List ℕ) → b ≡ false → ps ≡ end ∷ rest → nearest end rest ≡ end
    → turned_if m (at b t ps ks) (options (at b t ps ks)) ≡ Some (at true m rest ks)
put_turned m t end true ps ks rest e is near = absurd (true≢false e)
put_turned m t end false ps ks rest e is near = rw is (rw near (rw (equal_test end end refl) refl))

pub take_turned : (m t end : ℕ) (b : Bool) (ps ks rest : List ℕ) → b ≡ true → ks ≡ end ∷ rest → nearest end rest ≡ end
    → turned_if m (at b t ps ks) (options (at b t ps ks)) ≡ Some (at false m ps rest)
take_turned m t end false ps ks rest e is near = absurd (true≢false (sym e))
take_turned m t end true ps ks rest e is near = rw is (rw near (rw (equal_test end end refl) refl))

pub none_turned : (m t : ℕ) (b w : Bool) (ps ks : List ℕ) → b ≡ w → (if w then ks else ps) ≡ [] → turned_if m (at b t ps ks) (options (at b t ps ks)) ≡ None
none_turned m t true false ps ks e is = absurd (true≢false e)
none_turned m t false true ps ks e is = absurd (true≢false (sym e))
none_turned m t b w ps ks e is = rw is refl

abbrev state_or : State → Option State → State
state_or d None = d
state_or d (Some s) = s

pub one_fewer : (m : ℕ) (b : Bool) (t : ℕ) (ps ks : List ℕ) (g : State)
    → turned_if m (at b t ps ks) (options (at b t ps ks)) ≡ Some g → open_changes (at b t ps ks) ≡ suc (open_changes g)
one_fewer m false t (x ∷ xs) ks g e =
    let l = taken_length (nearest x xs) (x ∷ xs) (nearest_stands x xs) in
    let n : open_changes (turned_by m (nearest x xs) (at false t (x ∷ xs) ks)) ≡ open_changes g = ap (λ o. open_changes (state_or g o)) e in
    omega (arith, l, n)
one_fewer m true t ps (x ∷ xs) g e =
    let l = taken_length (nearest x xs) (x ∷ xs) (nearest_stands x xs) in
    let n : open_changes (turned_by m (nearest x xs) (at true t ps (x ∷ xs))) ≡ open_changes g = ap (λ o. open_changes (state_or g o)) e in
    omega (arith, l, n)
one_fewer m b t ps ks g e = no_state g e _

-- Lemma: if the event v is not possible in the key's state s, the judge's test lets one pending change take effect and
-- continues from the resulting state g.
pub settles_on : (m : ℕ) (v : Event) (s g : State) → fits (suc m) v s ≡ false → turned_if m s (options s) ≡ Some g
    → settled (open_changes s) m v (Some s) ≡ settled (open_changes g) m v (Some g)
settles_on m v s g f e =
    ap (λ n. settled n m v (Some s)) (one_fewer m s.there s.turned s.puts s.takes g e) ∙ later (open_changes g) m v s f
    ∙ ap (settled (open_changes g) m v) e
