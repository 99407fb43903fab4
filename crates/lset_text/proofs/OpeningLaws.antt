-- Lemmas about the lines that list the opening keys, and about strictly increasing keys.
use Rattle.std.proofs.Common.{rules, ◌≡◌, ℕ, zero, suc, ◌+◌, ◌-◌, ◌<◌, ◌^◌, true, List, [], ◌∷◌, ◌++◌, length, length-append}
use Rattle.std.proofs.Common.{get_or, refl, ap, ◌∙◌, arith}
use Rattle.std.specs.Prelude.{nat_lt}
use Rattle.std.specs.List.Sorted.{IsStrictlyIncreasing}
use Rattle.std.proofs.lemmas.Bool.{ltb-true, lt-ltb}
use Rattle.std.proofs.lemmas.List.{get_or_push, get_or_append_left, length_push}
use Rattle.std.proofs.lemmas.List.Elements.{All-push}
use Rattle.std.proofs.lemmas.Option.{slice_get-get_or}
use Rattle.lset_words.specs.declared.TheConstants.{MOST_OPENING}
use Rattle.lset_words.specs.Words.{Opening, Opens}
use Rattle.lset_text.specs.declared.headers.Header.{Header}
use Rattle.lset_text.specs.declared.words.Version.{Version}
use Rattle.lset_text.specs.declared.words.Version.TheVariants.{One, Two}
use Rattle.lset_text.specs.Headers.{IsHeader}
use Rattle.lset_text.specs.Openings.{above_last, is_above, HasOpening}

some_last : (keys : List ℕ) (key : ℕ) → 0 < length keys → is_above keys key ≡ nat_lt (get_or keys (length keys - 1) 0) key
some_last keys key some = ap (λ o. above_last o key) (slice_get-get_or keys (length keys - 1) 0 (omega (arith, some)))

pub increases_more : (keys : List ℕ) (key : ℕ) → IsStrictlyIncreasing keys → is_above keys key ≡ true
    → IsStrictlyIncreasing (keys ++ key ∷ [])
increases_more keys key increasing above k below =
    let long : length (keys ++ key ∷ []) ≡ length keys + 1 = length_push keys key in grind (
      arith,
      get_or_push,
      get_or_append_left,
      ltb-true,
      some_last,
    )

pub above_before : (keys : List ℕ) (key : ℕ) (more : List ℕ) → IsStrictlyIncreasing (keys ++ key ∷ more) →
    is_above keys key ≡ true
above_before [] key more increasing = refl
above_before (x ∷ xs) key more increasing =
    let keys : List ℕ = x ∷ xs in
    let k = length keys - 1 in
    let a : get_or (keys ++ key ∷ more) k 0 ≡ get_or keys k 0 = get_or_append_left keys (key ∷ more) 0 k (omega arith) in
    let b : get_or (keys ++ key ∷ more) (k + 1) 0 ≡ key = get_or_at keys key more (k + 1) (omega arith) in
    let c = increasing k (longer keys key more k (omega arith)) in
    some_last keys key (omega arith) ∙ lt-ltb _ _ (omega (arith, a, b, c))
  where
    get_or_at : (xs : List ℕ) (y : ℕ) (ys : List ℕ) (n : ℕ) → n ≡ length xs → get_or (xs ++ y ∷ ys) n 0 ≡ y
    get_or_at [] y ys n e = rw e refl
    get_or_at (x ∷ xs) y ys zero e = absurd (omega arith)
    get_or_at (x ∷ xs) y ys (suc n) e = get_or_at xs y ys n (omega arith)

    longer : (xs : List ℕ) (y : ℕ) (ys : List ℕ) (n : ℕ) → n + 1 ≡ length xs → n + 1 < length (xs ++ y ∷ ys)
    longer xs y ys n e = grind (arith, length-append xs (y ∷ ys))

-- ---- Lemmas about the opening keys of a set

pub is_header : (h : Header) (keys : List ℕ) → Opens (record { threads = h.threads; quota = h.quota; keys = keys }) → IsHeader h
is_header h keys is = record { some = is.within.some; few = is.within.few; small = is.within.small; opens = omega arith }

pub has_none : (v : Version) → HasOpening v []
has_none One = refl
has_none Two = tt

pub opens_more : (o : Opening) (k : ℕ) → Opens o → k < 2 ^ 32 → length o.keys < MOST_OPENING → is_above o.keys k ≡ true
    → Opens (record o { keys = o.keys ++ k ∷ [] })
opens_more o k is low room above = search (rules, length_push, increases_more, All-push)
