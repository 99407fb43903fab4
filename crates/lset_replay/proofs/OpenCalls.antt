-- Lemmas: an event either appends a call to the list of calls, or changes the pending call of the event's thread.
use Rattle.std.proofs.lemmas.Grind.{common_steps}
use Rattle.std.proofs.Common.{◌≡◌, ◌≢◌, ℕ, zero, suc, ◌+◌, ◌<◌, ◌≤◌, ◌⊎◌, true, false, inl, inr, List, [], ◌∷◌, ◌++◌, length, map}
use Rattle.std.proofs.Common.{set, sym, refl, subst, ap, ◌∙◌, arith}
use Rattle.std.specs.Prelude.{AllPairs, Option, None, if◌then◌else◌, IsSomeAnd}
use Rattle.std.proofs.lemmas.List.{length-append, length-map, get_or-map, get_or_append_left, get_or_push}
use Rattle.lset_words.specs.declared.Call.{Call}
use Rattle.lset_words.specs.declared.Reply.{Reply}
use Rattle.lset_words.specs.Log.{Log, Change, TracedCall, is_under_way, traced_on, calls_at, calls_after}
use Rattle.lset_words.specs.Log.Entry.{began, stepped}
use Rattle.lset_words.specs.Account.{Contents, Counts, Account}
use Rattle.lset_history.specs.Placement.{no_traced, traced_at}
use Rattle.std.proofs.lemmas.Bool.{cases_Bool, cases_order}
use Rattle.lset_history.proofs.Calls.{Later, IsOpenOf, new_call, step_of, way_of, is_way, calls_of}
use Rattle.lset_words.specs.Words.{Opening}

pub length_began : (log : Log) (k t : ℕ) (call : Call) → log k ≡ began t call
    → length (calls_at log (suc k)) ≡ suc (length (calls_at log k))
length_began log k t call e = grind (arith, common_steps)

pub length_stepped : (log : Log) (k t : ℕ) (change : Option Change) (reply : Option Reply) → log k ≡ stepped t change reply
    → length (calls_at log (suc k)) ≡ length (calls_at log k)
length_stepped log k t change reply e = ap (λ z. length (calls_after (suc k) z (calls_at log k))) e
    ∙ length-map (calls_at log k) (step_of k t change reply)

-- Holds if the call `x` is pending, and has the given thread, operation and start.
abbrev pub IsOpenAs : ℕ → Call → ℕ → TracedCall → Type 0
IsOpenAs t call begun x = (x.thread ≡ t) × (x.ended ≡ None) × (x.call ≡ call) × (x.begun ≡ begun)

-- Holds if the call with the number `number` is the pending call of thread `t`, with the given operation and start.
pub record OpenNumber (xs : List TracedCall) (t number : ℕ) (call : Call) (begun : ℕ) : Type 0 where
  pub below : number < length xs
  pub open_call : IsOpenAs t call begun (traced_at xs number)

pub open_new : (k t : ℕ) (call : Call) (xs : List TracedCall) → OpenNumber (xs ++ new_call k t call ∷ []) t (length xs) call (suc k)
open_new k t call xs =
    let long : length (xs ++ new_call k t call ∷ []) ≡ length xs + 1 = length-append xs (new_call k t call ∷ []) in
    record {
      below = omega arith;
      open_call = rw (get_or_push xs (new_call k t call) no_traced (length xs) refl) (refl, refl, refl, refl);
    }

pub open_began : (x : TracedCall) (xs : List TracedCall) (t number : ℕ) (call : Call) (begun : ℕ) → OpenNumber xs t number call begun
    → OpenNumber (xs ++ x ∷ []) t number call begun
open_began x xs t number call begun p =
    let long : length (xs ++ x ∷ []) ≡ length xs + 1 = length-append xs (x ∷ []) in
    let low : number < length xs = p.below in
    record {
      below = omega arith;
      open_call = subst (IsOpenAs t call begun) (sym (get_or_append_left xs (x ∷ []) no_traced number low)) p.open_call;
    }

pub open_stepped : (k u t : ℕ) (change : Option Change) (reply : Option Reply) (xs : List TracedCall) (number : ℕ) (call : Call)
    (begun : ℕ) → (reply ≡ None) ⊎ (u ≢ t) → OpenNumber xs t number call begun
    → OpenNumber (map (step_of k u change reply) xs) t number call begun
open_stepped k u t change reply xs number call begun c p =
    let low : number < length xs = p.below in
    let long : length (map (step_of k u change reply) xs) ≡ length xs = length-map xs (step_of k u change reply) in
    let e = get_or-map (step_of k u change reply) xs number no_traced no_traced low in
    record { below = omega arith; open_call = subst (IsOpenAs t call begun) (sym e) (still (traced_at xs number) p.open_call) }
  where
    still : (x : TracedCall) → IsOpenAs t call begun x → IsOpenAs t call begun (step_of k u change reply x)
    still x o = elim (cases_Bool (is_under_way u x)) [
      | inl b ↦ rw b (elim c [
        | inl n ↦ (o.0, (rw n refl), o.2, o.3)
        | inr n ↦ absurd (n ((way_of u x b).0 ∙ o.0))
      ])
      | inr b ↦ rw b o
    ]

open_once : (xs : List TracedCall) (t i j : ℕ) → AllPairs Later xs → i < length xs → j < length xs → IsOpenOf t (traced_at xs i)
    → IsOpenOf t (traced_at xs j) → i ≡ j
open_once xs t i j p l m a b = elim (cases_order i j) [
  | inl e ↦ e
  | inr d ↦ elim d [ inl n ↦ absurd (clash i j n m a b) | inr n ↦ absurd (clash j i n l b a) ]
]
  where
    clash : (i j : ℕ) → i < j → j < length xs → IsOpenOf t (traced_at xs i) → IsOpenOf t (traced_at xs j) → ⊥
    clash i j n m a b =
        let q : Later (traced_at xs i) (traced_at xs j) = p i j no_traced n m in
        subst (λ z. IsSomeAnd z (λ (d : ℕ × Reply). d.0 < (traced_at xs j).begun)) a.1 (q.one_thread (a.0 ∙ sym b.0))

map_sets : (t i : ℕ) (f : TracedCall → TracedCall) (xs : List TracedCall) → i < length xs → is_under_way t (traced_at xs i) ≡ true
    → ((j : ℕ) → j < length xs → j ≢ i → is_under_way t (traced_at xs j) ≡ false)
    → map (λ x. if is_under_way t x then f x else x) xs ≡ set xs i (f (traced_at xs i))
map_sets t i f [] l u n = absurd (omega arith)
map_sets t zero f (x ∷ xs) l u n =
    let e = unchanged xs (λ j m. n (suc j) (omega arith) (λ d. omega arith)) in
    rw (u, e) refl
  where
    unchanged : (ys : List TracedCall) → ((j : ℕ) → j < length ys → is_under_way t (traced_at ys j) ≡ false)
        → map (λ x. if is_under_way t x then f x else x) ys ≡ ys
    unchanged [] n = refl
    unchanged (y ∷ ys) n =
        let b : is_under_way t y ≡ false = n 0 (omega arith) in
        let e : map (λ x. if is_under_way t x then f x else x) ys ≡ ys = unchanged ys (λ j m. n (suc j) (omega arith)) in
        rw (b, e) refl
map_sets t (suc i) f (x ∷ xs) l u n =
    let b : is_under_way t x ≡ false = n 0 (omega arith) (λ d. omega arith) in
    let e = map_sets t i f xs (omega arith) u (λ j m d. n (suc j) (omega arith) (λ g. d (omega arith))) in
    rw (b, e) refl

pub step_sets : (op : Opening) (last : ℕ) (log : Log) (contents : Contents) (counts : Counts)
    → Account op last log contents counts
    → (k t : ℕ) (change : Option Change) (reply : Option Reply) → k ≤ last
    → (number : ℕ) (call : Call) (begun : ℕ) → OpenNumber (calls_at log k) t number call begun
    → calls_after (suc k) (stepped t change reply) (calls_at log k)
    ≡ set (calls_at log k) number (traced_on (suc k) change reply (traced_at (calls_at log k) number))
step_sets op last log contents counts a k t change reply l number call begun p =
    let c = calls_of op last log contents counts a k l in
    map_sets t number (traced_on (suc k) change reply) (calls_at log k) p.below
    (is_way t (traced_at (calls_at log k) number) p.open_call.0 p.open_call.1)
    (λ j m n. others j m n c.pairs (cases_Bool (is_under_way t (traced_at (calls_at log k) j))))
  where
    others : (j : ℕ) → j < length (calls_at log k) → j ≢ number → AllPairs Later (calls_at log k)
        → (is_under_way t (traced_at (calls_at log k) j) ≡ true) ⊎ (is_under_way t (traced_at (calls_at log k) j) ≡ false)
        → is_under_way t (traced_at (calls_at log k) j) ≡ false
    others j m n q (inr b) = b
    others j m n q (inl b) = absurd (let w = way_of t (traced_at (calls_at log k) j) b in
        n (open_once (calls_at log k) t j number q m p.below (sym w.0, w.1) (p.open_call.0, p.open_call.1)))
