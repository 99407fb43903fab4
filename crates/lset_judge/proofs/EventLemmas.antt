-- Proofs about the events of a key: the starts and ends of the calls on the key.
use Rattle.std.proofs.Common.{◌≡◌, ◌≢◌, ◌⊎◌, ℕ, zero, suc, ◌<◌, ◌≤◌, List, [], ◌∷◌, Bool, true, false, inl, inr, refl, sym, ap, ◌∙◌, arith}
use Rattle.std.proofs.Common.{subst, length, get_or}
use Rattle.std.specs.Prelude.{◌==◌, if◌then◌else◌, Option, Some, None, AllPairs, IfSome, filter}
use Rattle.std.specs.List.{AllByRecursion}
use Rattle.std.proofs.lemmas.Bool.{cases_Bool, true≢false}
use Rattle.std.proofs.lemmas.List.Elements.{recursion_from_All}
use Rattle.lset_words.specs.declared.Reply.{Reply}
use Rattle.lset_words.specs.declared.history.CallRecord.{CallRecord}
use Rattle.lset_words.specs.SequentialSet.{has_key}
use Rattle.lset_words.specs.Words.{key_of}
use Rattle.lset_words.specs.History.{Follows, no_call}
use Rattle.lset_words.proofs.Numbers.{same_number, equal_test, unequal_test}
use Rattle.lset_history.specs.History.{latest_moment, moment_of}
use Rattle.lset_history.proofs.Pairs.{pairs_head, pairs_tail}
use Rattle.lset_judge.specs.Rule.{Event, idle}
use Rattle.lset_judge.specs.Events.{Kind, kind_if, until_if, ends_at, begin_event, end_event, event_at}

abbrev pub kind : CallRecord → Kind
kind x = kind_if x.call x.ended

abbrev pub until : ℕ → CallRecord → ℕ
until last x = until_if last x.begun x.ended

-- ---- Lemmas about the moments of a history

pub begun_below : (xs : List CallRecord) (n : ℕ) (d : CallRecord) → n < length xs → (get_or xs n d).begun ≤ latest_moment xs
begun_below [] n d l = absurd (omega arith)
begun_below (x ∷ xs) zero d l = omega arith
begun_below (x ∷ xs) (suc n) d l = let rest = begun_below xs n d (omega arith) in omega (arith, rest)

pub end_below : (xs : List CallRecord) (n : ℕ) (d : CallRecord) (e : ℕ × Reply) → n < length xs → (get_or xs n d).ended ≡ Some e
    → e.0 ≤ latest_moment xs
end_below [] n d e l s = absurd (omega arith)
end_below (x ∷ xs) zero d e l s = let a : moment_of x.ended ≡ e.0 = ap moment_of s in omega (arith, a)
end_below (x ∷ xs) (suc n) d e l s = let rest = end_below xs n d e (omega arith) s in omega (arith, rest)

-- ---- The call that starts or ends at an event of a key

pub record Begins (last k m : ℕ) (xs : List CallRecord) (v : Event) : Type 0 where
  pub number : ℕ
  pub known : number < length xs
  pub own : (key_of (get_or xs number no_call).call).0 ≡ k
  pub begun : (get_or xs number no_call).begun ≡ m
  pub is : v ≡ begin_event (kind (get_or xs number no_call)) (until last (get_or xs number no_call))

pub record Ends (last k m : ℕ) (xs : List CallRecord) (v : Event) : Type 0 where
  pub number : ℕ
  pub known : number < length xs
  pub own : (key_of (get_or xs number no_call).call).0 ≡ k
  pub end : ℕ × Reply
  pub ended : (get_or xs number no_call).ended ≡ Some end
  pub at : end.0 ≡ m
  pub is : v ≡ end_event (kind (get_or xs number no_call)) (get_or xs number no_call).begun

pub data Told (last k m : ℕ) (xs : List CallRecord) (v : Event) : Type 0 where
  of_nothing : v ≡ idle → Told last k m xs v
  of_begin : Begins last k m xs v → Told last k m xs v
  of_end : Ends last k m xs v → Told last k m xs v

told_later : (last k m : ℕ) (x : CallRecord) (xs : List CallRecord) (v : Event) → Told last k m xs v → Told last k m (x ∷ xs) v
told_later last k m x xs v (of_nothing e) = of_nothing e
told_later last k m x xs v (of_begin b) = let l = b.known in
    of_begin (record { number = suc b.number; known = omega (arith, l); own = b.own; begun = b.begun; is = b.is })
told_later last k m x xs v (of_end b) = let l = b.known in
    of_end (record { number = suc b.number; known = omega (arith, l); own = b.own; end = b.end; ended = b.ended; at = b.at; is = b.is })

end_found : (m : ℕ) (o : Option (ℕ × Reply)) → ends_at m o ≡ true → (e : ℕ × Reply) × (o ≡ Some e) × (e.0 ≡ m)
end_found m None t = absurd (true≢false (sym t))
end_found m (Some e) t = (e, refl, same_number e.0 m t)

pub told : (last k m : ℕ) (xs : List CallRecord) → Told last k m xs (event_at last k xs m)
told last k m [] = of_nothing refl
told last k m (x ∷ xs) = elim (cases_Bool ((key_of x.call).0 == k)) [
  | inr f ↦ rw f (told_later last k m x xs _ (told last k m xs))
  | inl own ↦ elim (cases_Bool (x.begun == m)) [
    | inl b ↦ rw (own, b) (of_begin (record { number = 0; known = omega arith; own = same_number _ _ own; begun = same_number _ _ b; is = refl }))
    | inr f ↦ elim (cases_Bool (ends_at m x.ended)) [
      | inl t ↦ (let e = end_found m x.ended t in
          rw (own, f, t) (of_end (record { number = 0; known = omega arith; own = same_number _ _ own; end = e.0; ended = e.1; at = e.2; is = refl })))
      | inr g ↦ rw (own, f, g) (told_later last k m x xs _ (told last k m xs))
    ]
  ]
]

-- ---- Lemmas about the end of a call

pub none_or_some : (o : Option (ℕ × Reply)) → (o ≡ None) ⊎ ((e : ℕ × Reply) × (o ≡ Some e))
none_or_some None = inl refl
none_or_some (Some e) = inr (e, refl)

pub if_some : (P : ℕ × Reply → Type 0) (o : Option (ℕ × Reply)) (e : ℕ × Reply) → o ≡ Some e → IfSome o P → P e
if_some P o e s h = subst (λ q. IfSome q P) s h

pub for_some : (P : ℕ × Reply → Type 0) (o : Option (ℕ × Reply)) → ((e : ℕ × Reply) → o ≡ Some e → P e) → IfSome o P
for_some P None h = tt
for_some P (Some e) h = h e refl

-- ---- Lemmas about the start of a call

pub ends_not : (m : ℕ) (o : Option (ℕ × Reply)) → IfSome o (λ (e : ℕ × Reply). e.0 ≢ m) → ends_at m o ≡ false
ends_not m None h = refl
ends_not m (Some e) h = unequal_test e.0 m h

pub opens_so : (there : Bool) (k : ℕ) → has_key k (if there then k ∷ [] else []) ≡ there
opens_so true k = rw (equal_test k k refl) refl
opens_so false k = refl

-- Holds if the call x neither starts nor ends at moment m, or is not a call on key k.
abbrev pub IsSilent : ℕ → ℕ → CallRecord → Type 0
IsSilent k m x = ((key_of x.call).0 == k) ≡ true → ((x.begun == m) ≡ false) × (ends_at m x.ended ≡ false)

pub passed_over : (last k m : ℕ) (x : CallRecord) (xs : List CallRecord) → IsSilent k m x → event_at last k (x ∷ xs) m ≡ event_at last k xs m
passed_over last k m x xs s = elim (cases_Bool ((key_of x.call).0 == k)) [ inl t ↦ (let n = s t in rw (t, n.0, n.1) refl) | inr f ↦ rw f refl ]

pub one_before : (last k m : ℕ) (x : CallRecord) (xs ys : List CallRecord) → event_at last k xs m ≡ event_at last k ys m
    → event_at last k (x ∷ xs) m ≡ event_at last k (x ∷ ys) m
one_before last k m x xs ys e =
    ap (λ v. if (key_of x.call).0 == k then (
    if x.begun == m then begin_event (kind x) (until last x) else if ends_at m x.ended then end_event (kind x) x.begun else v
    ) else v) e

pub event_none : (last k m : ℕ) (xs : List CallRecord) → AllByRecursion (IsSilent k m) xs → event_at last k xs m ≡ idle
event_none last k m [] a = refl
event_none last k m (x ∷ xs) a = passed_over last k m x xs a.0 ∙ event_none last k m xs a.1

pub event_filter : (last k m : ℕ) (test : CallRecord → Bool) (xs : List CallRecord)
    → AllByRecursion (λ (x : CallRecord). test x ≡ false → IsSilent k m x) xs → event_at last k (filter test xs) m ≡ event_at last k xs m
event_filter last k m test [] a = refl
event_filter last k m test (x ∷ xs) a =
    let rest = event_filter last k m test xs a.1 in
    elim (cases_Bool (test x)) [
      | inl t ↦ rw t (one_before last k m x (filter test xs) xs rest)
      | inr f ↦ rw f (rest ∙ sym (passed_over last k m x xs (a.0 f)))
    ]

pub latest_filter : (test : CallRecord → Bool) (xs : List CallRecord) → latest_moment (filter test xs) ≤ latest_moment xs
latest_filter test [] = omega arith
latest_filter test (x ∷ xs) =
    let rest = latest_filter test xs in elim (cases_Bool (test x)) [ inl t ↦ rw t (omega (arith, rest)) | inr t ↦ rw t (omega (arith, rest)) ]

pub event_idle : (k m last : ℕ) (xs : List CallRecord) → latest_moment xs < m → event_at last k xs m ≡ idle
event_idle k m last xs late = event_none last k m xs (recursion_from_All (IsSilent k m) xs (λ i d low own. (
  unequal_test (get_or xs i d).begun m (λ e. let b = begun_below xs i d low in omega (arith, b, e, late)),
  ends_not m (get_or xs i d).ended (for_some (λ (e : ℕ × Reply). e.0 ≢ m) (get_or xs i d).ended (λ e is same.
      let b = end_below xs i d e low is in omega (arith, b, same, late))),
)))

pub begins_at : (last k n : ℕ) (xs : List CallRecord) → n < length xs → AllPairs Follows xs
    → (key_of (get_or xs n no_call).call).0 ≡ k
    → event_at last k xs (get_or xs n no_call).begun ≡ begin_event (kind (get_or xs n no_call)) (until last (get_or xs n no_call))
begins_at last k n [] l pairs own = absurd (omega arith)
begins_at last k zero (x ∷ xs) l pairs own = rw (equal_test (key_of x.call).0 k own, equal_test x.begun x.begun refl) refl
begins_at last k (suc n) (x ∷ xs) l pairs own =
    let y : CallRecord = get_or xs n no_call in
    let f : Follows x y = pairs_head Follows x xs pairs n no_call (omega arith) in
    let low = f.increasing in
    passed_over last k y.begun x xs (λ t. (unequal_test x.begun y.begun (omega (arith, low)), ends_not y.begun x.ended f.begins_alone))
    ∙ begins_at last k n xs (omega arith) (pairs_tail Follows x xs pairs) own

-- ---- Lemmas about the event when a call ends

no_end : (m : ℕ) (o : Option (ℕ × Reply)) → IfSome o (λ (e : ℕ × Reply). m ≢ e.0) → ends_at m o ≡ false
no_end m None h = refl
no_end m (Some e) h = unequal_test e.0 m (λ q. h (sym q))

own_end : (o : Option (ℕ × Reply)) (e : ℕ × Reply) → o ≡ Some e → ends_at e.0 o ≡ true
own_end o e s = rw s (equal_test e.0 e.0 refl)

pub ends_there : (last k n : ℕ) (xs : List CallRecord) (e : ℕ × Reply) → n < length xs → AllPairs Follows xs
    → (key_of (get_or xs n no_call).call).0 ≡ k → (get_or xs n no_call).ended ≡ Some e → (get_or xs n no_call).begun < e.0
    → event_at last k xs e.0 ≡ end_event (kind (get_or xs n no_call)) (get_or xs n no_call).begun
ends_there last k n [] e l pairs own s later = absurd (omega arith)
ends_there last k zero (x ∷ xs) e l pairs own s later =
    let b : (x.begun == e.0) ≡ false = unequal_test x.begun e.0 (omega (arith, later)) in
    rw (equal_test (key_of x.call).0 k own, b, own_end x.ended e s) refl
ends_there last k (suc n) (x ∷ xs) e l pairs own s later =
    let y : CallRecord = get_or xs n no_call in
    let f : Follows x y = pairs_head Follows x xs pairs n no_call (omega arith) in
    let apart = if_some (λ g. (g.0 ≢ x.begun) × IfSome x.ended (λ (d : ℕ × Reply). g.0 ≢ d.0)) y.ended e s f.ends_alone in
    passed_over last k e.0 x xs (λ t. (unequal_test x.begun e.0 (λ q. apart.0 (sym q)), no_end e.0 x.ended apart.1))
    ∙ ends_there last k n xs e (omega arith) (pairs_tail Follows x xs pairs) own s later
