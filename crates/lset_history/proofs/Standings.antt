-- Lemmas about the calls of a run that have a linearization point: their numbers and moments.
use Rattle.std.proofs.Common.{◌≡◌, ℕ, zero, suc, ◌+◌, ◌<◌, ◌≤◌, true, false, inl, inr, List, [], ◌∷◌, length, sym, refl, subst}
use Rattle.std.proofs.Common.{ap, arith}
use Rattle.std.specs.Prelude.{◌⊎◌, Option, Some, None, IfSome, is_some}
use Rattle.std.specs.List.{AllByRecursion}
use Rattle.lset_words.specs.declared.Reply.{Reply}
use Rattle.lset_words.specs.Log.{TracedCall}
use Rattle.lset_history.specs.Placement.{StandsBy, StandsAt, IsSmallestFit, Standing, makes_change, reply_by, standing, traced_at, no_traced}
use Rattle.lset_history.specs.Placement.{place_at}
use Rattle.lset_history.proofs.Lists.{Pairs, SomeOf, all_imply, pairs_rec}
use Rattle.lset_words.specs.Account.{RightReply}
use Rattle.lset_history.proofs.Calls.{Run, ChangeAt, Traced, Later, Calls, if_some}

-- ---- Lemmas about the calls and their linearization points
standing_each : (Q : ℕ → TracedCall → Option ℕ → Type 0) (n : ℕ) (xs : List TracedCall) (ps : List (Option ℕ))
    → ((i : ℕ) → i < length xs → Q (n + i) (traced_at xs i) (place_at ps i))
    → AllByRecursion (λ (s : Standing). Q s.number s.traced (Some s.moment)) (standing n xs ps)
standing_each Q n [] ps h = tt
standing_each Q n (x ∷ xs) [] h = tt
standing_each Q n (x ∷ xs) (None ∷ ps) h = standing_each Q (suc n) xs ps (λ i l. let e : n + suc i ≡ suc n + i = omega arith in
    subst (λ z. Q z (traced_at xs i) (place_at ps i)) e (h (suc i) (omega arith)))
standing_each Q n (x ∷ xs) (Some m ∷ ps) h =
    let z : n + 0 ≡ n = omega arith in (
      subst (λ z. Q z x (Some m)) z (h 0 (omega arith)),
      standing_each Q (suc n) xs ps (λ i l. let e : n + suc i ≡ suc n + i = omega arith in
          subst (λ z. Q z (traced_at xs i) (place_at ps i)) e (h (suc i) (omega arith))),
    )

standing_above : (P : TracedCall → Type 0) (n : ℕ) (xs : List TracedCall) (ps : List (Option ℕ)) → AllByRecursion P xs
    → AllByRecursion (λ (s : Standing). (n ≤ s.number) × P s.traced) (standing n xs ps)
standing_above P n [] ps a = tt
standing_above P n (x ∷ xs) [] a = tt
standing_above P n (x ∷ xs) (None ∷ ps) a =
    all_imply (λ (s : Standing). (suc n ≤ s.number) × P s.traced) (λ (s : Standing). (n ≤ s.number) × P s.traced)
    (λ s h. let l : suc n ≤ s.number = h.0 in (omega arith, h.1)) (standing (suc n) xs ps)
    (standing_above P (suc n) xs ps a.1)
standing_above P n (x ∷ xs) (Some m ∷ ps) a = (
  (omega arith, a.0),
  all_imply (λ (s : Standing). (suc n ≤ s.number) × P s.traced) (λ (s : Standing). (n ≤ s.number) × P s.traced)
      (λ s h. let l : suc n ≤ s.number = h.0 in (omega arith, h.1)) (standing (suc n) xs ps)
      (standing_above P (suc n) xs ps a.1),
)

-- Holds if call `s` has a smaller number than call `r` and begins before `r` and, if one thread makes both calls, also
-- ends before `r` begins.
abbrev pub Follows : Standing → Standing → Type 0
Follows s r = (s.number < r.number) × Later s.traced r.traced

standing_pairs : (n : ℕ) (xs : List TracedCall) (ps : List (Option ℕ)) → Pairs Later xs → Pairs Follows (standing n xs ps)
standing_pairs n [] ps a = tt
standing_pairs n (x ∷ xs) [] a = tt
standing_pairs n (x ∷ xs) (None ∷ ps) a = standing_pairs (suc n) xs ps a.1
standing_pairs n (x ∷ xs) (Some m ∷ ps) a = (
  all_imply (λ (s : Standing). (suc n ≤ s.number) × Later x s.traced) (Follows (record { number = n; traced = x; moment = m }))
      (λ s h. let l : suc n ≤ s.number = h.0 in (omega arith, h.1)) (standing (suc n) xs ps)
      (standing_above (Later x) (suc n) xs ps a.0),
  standing_pairs (suc n) xs ps a.1,
)

-- Holds if `s` is the call `x` with the number `number` and a linearization point at moment `m`.
abbrev pub IsStanding : ℕ → TracedCall → ℕ → Standing → Type 0
IsStanding number x m s = (s.number ≡ number) × (s.traced ≡ x) × (s.moment ≡ m)

standing_has : (n : ℕ) (xs : List TracedCall) (ps : List (Option ℕ)) (i m : ℕ) → i < length xs → place_at ps i ≡ Some m
    → SomeOf (IsStanding (n + i) (traced_at xs i) m) (standing n xs ps)
standing_has n [] ps i m l e = absurd (omega arith)
standing_has n (x ∷ xs) (Some p ∷ ps) zero m l e = inl (omega arith, refl, cc)
standing_has n (x ∷ xs) (None ∷ ps) (suc i) m l e = let f : suc n + i ≡ n + suc i = omega arith in
    subst (λ z. SomeOf (IsStanding z (traced_at xs i) m) (standing (suc n) xs ps)) f
    (standing_has (suc n) xs ps i m (omega arith) e)
standing_has n (x ∷ xs) (Some p ∷ ps) (suc i) m l e = let f : suc n + i ≡ n + suc i = omega arith in
    inr (subst (λ z. SomeOf (IsStanding z (traced_at xs i) m) (standing (suc n) xs ps)) f
    (standing_has (suc n) xs ps i m (omega arith) e))
standing_has n xs ps i m l e = absurd cc

-- Holds if `s` is a call in `calls`, and `s.moment` is the moment of the call's linearization point in `places`.
pub record Stood (r : Run) (last : ℕ) (calls : List TracedCall) (places : List (Option ℕ)) (s : Standing) : Type 0 where
  pub known : s.number < length calls
  pub call_is : traced_at calls s.number ≡ s.traced
  pub place_is : place_at places s.number ≡ Some s.moment
  pub trace : Traced r last s.traced
  pub stands : StandsAt r.quota r.contents r.counts s.traced (Some s.moment)

-- Holds if the linearization point of the call `s` is the step in which the call changes the set.
pub record Changing (r : Run) (s : Standing) : Type 0 where
  pub is : s.traced.changed ≡ Some s.moment
  pub change : ChangeAt r s.traced.thread s.traced.call s.traced.begun s.moment

-- Holds if the call `s` is completed, has changed nothing, and takes effect at the first moment when its reply is
-- correct.
pub record Reading (r : Run) (s : Standing) : Type 0 where
  pub no_change : s.traced.changed ≡ None
  pub end : ℕ × Reply
  pub ended : s.traced.ended ≡ Some end
  pub fit : IsSmallestFit r.quota r.contents r.counts s.traced end.0 end.1 s.moment

-- Holds if a call takes effect at `moment` while it is pending: not before it begins, not after it ends, and not after
-- moment `last`.
pub record During (last begun moment : ℕ) (ended : Option (ℕ × Reply)) : Type 0 where
  pub from : begun ≤ moment
  pub upto : moment ≤ last
  pub in_call : IfSome ended (λ (e : ℕ × Reply). moment ≤ e.0)

module _ {r : Run} {last : ℕ} {calls : List TracedCall} {places : List (Option ℕ)} {s : Standing} (h : Stood r last calls places s) where
  stands_by : (changed : Option ℕ) (ended : Option (ℕ × Reply)) → s.traced.changed ≡ changed → s.traced.ended ≡ ended
      → StandsBy r.quota r.contents r.counts s.traced changed ended (Some s.moment) → Changing r s ⊎ Reading r s
  stands_by (Some m) ended c e b = inl (let is : s.traced.changed ≡ Some s.moment = cc in
      record { is = is; change = (h.trace.changes s.moment is).1 })
  stands_by None None c e b = absurd cc
  stands_by None (Some end) c e b = inr (let m : b.0 ≡ s.moment = cc in
      record { no_change = c; end = end; ended = e; fit = rw m at b.2 })

  how : Changing r s ⊎ Reading r s
  how = stands_by s.traced.changed s.traced.ended refl refl h.stands

  pub changing : makes_change s ≡ true → Changing r s
  changing t = elim how [ inl c ↦ c | inr n ↦ absurd (let f : false ≡ true = rw n.no_change at t in cc) ]

  pub reading : makes_change s ≡ false → Reading r s
  reading t = elim how [ inl c ↦ absurd (let f : true ≡ false = rw c.is at t in cc) | inr n ↦ n ]

  pub during : During last s.traced.begun s.moment s.traced.ended
  during = elim how [
    | inl c ↦ record {
      from = omega (arith, c.change.later);
      upto = (h.trace.changes s.moment c.is).0;
      in_call = if_some s.traced.ended (λ e. s.moment ≤ e.0) (λ e i. (h.trace.ends e.0 e.1 i).1.after_change s.moment c.is);
    }
    | inr n ↦ record {
      from = n.fit.from;
      upto = omega (arith, n.fit.upto, (h.trace.ends n.end.0 n.end.1 n.ended).0);
      in_call = rw n.ended n.fit.upto;
    }
  ]

-- Holds if a completed call has a linearization point, and its reply in the order is its reply in the run.
pub record EndedPlace (changed : Option ℕ) (ended : Option (ℕ × Reply)) (reply : Reply) (place : Option ℕ) : Type 0 where
  pub moment : ℕ
  pub is : place ≡ Some moment
  pub reply_is : reply_by changed ended ≡ reply

pub ended_place : (r : Run) (last : ℕ) (x : TracedCall) (end : ℕ × Reply) (place : Option ℕ) → x.ended ≡ Some end
    → Traced r last x → StandsAt r.quota r.contents r.counts x place → EndedPlace x.changed x.ended end.1 place
ended_place r last x end place e t s = by_change x.changed x.ended e s (t.ends end.0 end.1 e).1.right
  where
    by_change : (changed : Option ℕ) (ended : Option (ℕ × Reply)) → ended ≡ Some end
        → StandsBy r.quota r.contents r.counts x changed ended place
        → RightReply (is_some changed) r.quota r.contents r.counts x.begun end.0 x.thread x.call (Some end.1)
        → EndedPlace changed ended end.1 place
    by_change (Some m) ended e s right = record { moment = m; is = s; reply_is = sym right }
    by_change None None e s right = absurd cc
    by_change None (Some d) e s right = let is : d ≡ end = cc in record { moment = s.0; is = s.1; reply_is = ap (λ z. z.1) is }

-- ---- Lemmas about all calls that have a linearization point
module _ (r : Run) (last : ℕ) (calls : List TracedCall) (places : List (Option ℕ)) (h : Calls r last calls)
    (stands : (i : ℕ) → i < length calls → StandsAt r.quota r.contents r.counts (traced_at calls i) (place_at places i)) where
  traced_of : (i : ℕ) → i < length calls → Traced r last (traced_at calls i)
  traced_of i l = h.each i no_traced l

  pub stood : AllByRecursion (Stood r last calls places) (standing 0 calls places)
  stood = all_imply (λ (s : Standing). OfACall s.number s.traced (Some s.moment)) (Stood r last calls places)
      (λ s p. record { known = p.0; call_is = p.1; place_is = p.2; trace = p.3; stands = p.4 }) (standing 0 calls places)
      (standing_each OfACall 0 calls places (λ i l. let e : i ≡ 0 + i = omega arith in
      subst (λ z. OfACall z (traced_at calls i) (place_at places i)) e (l, refl, refl, traced_of i l, stands i l)))
    where
      OfACall : ℕ → TracedCall → Option ℕ → Type 0
      OfACall number x place = (number < length calls) × (traced_at calls number ≡ x) × (place_at places number ≡ place)
          × Traced r last x × StandsAt r.quota r.contents r.counts x place

  pub follow : Pairs Follows (standing 0 calls places)
  follow = standing_pairs 0 calls places (pairs_rec Later calls h.pairs)

  pub has_place : (i m : ℕ) → i < length calls → place_at places i ≡ Some m
      → SomeOf (IsStanding i (traced_at calls i) m) (standing 0 calls places)
  has_place i m l e = let f : 0 + i ≡ i = omega arith in
      subst (λ z. SomeOf (IsStanding z (traced_at calls i) m) (standing 0 calls places)) f (standing_has 0 calls places i m l e)
