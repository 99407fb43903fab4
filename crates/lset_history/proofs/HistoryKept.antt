-- Proof: the invariant of the Rust type `History` still holds after a call begins or ends.
use Rattle.std.proofs.Common.{◌≡◌, ℕ, suc, zero, ◌<◌, ◌≤◌, ◌^◌, ◌≢◌, ◌==◌, ◌&&◌, ◌||◌, Bool, true, false, List, [], ◌∷◌, ◌++◌}
use Rattle.std.proofs.Common.{length, get_or, max, Option, Some, None, is_none, is_some, not, refl, sym, ap, ◌∙◌, subst}
use Rattle.std.proofs.Common.{arith, inl, inr, ◌⊎◌, replicate}
use Rattle.std.proofs.Math.Bool.{or-false}
use Rattle.lset_words.specs.declared.TheConstants.{MOST_THREADS}
use Rattle.lset_words.specs.Words.{Opening, Opens}
use Rattle.std.specs.List.{All, list_any}
use Rattle.std.specs.Option.{IfSome, IsSomeAnd}
use Rattle.std.proofs.Math.ListN.{set}
use Rattle.std.proofs.lemmas.List.{get_or-set_other, get_or-replicate, get_or_default, length-set}
use Rattle.std.proofs.lemmas.List.Folds.{list_any-append, list_any_none}
use Rattle.std.proofs.lemmas.List.Elements.{All-tail}
use Rattle.std.proofs.lemmas.Bool.{cases_eq, cases_order, ne_eqb, eq-eqb, true≢false, and_left, and_right, or_parts}
use Rattle.lset_words.specs.declared.Reply.{Reply}
use Rattle.lset_words.specs.declared.history.CallRecord.{CallRecord}
use Rattle.lset_words.specs.History.{IsCall, Follows, IsHistory, MayFollow, call_numbered, no_call}
use Rattle.lset_history.specs.History.{HistoryValue, IsLater, IsOpen, ended_with, has_open, latest_moment, last_moment, moment_of}
use Rattle.lset_history.specs.History.{MayBegin, MayEnd, IsKept, with_begun, with_ended}
use Rattle.lset_history.proofs.CallByCall.{empty_history, history_begun, history_ended, never_ended}
use Rattle.lset_history.proofs.Pairs.{read_written, read_other}

-- ---- Lemmas about the latest start or end of a call in a history
ends_below : (o : Option (ℕ × Reply)) (at : ℕ) → moment_of o < at → IfSome o (λ (e : ℕ × Reply). e.0 < at)
ends_below None at h = tt
ends_below (Some e) at h = h

moment_below : (o : Option (ℕ × Reply)) (at : ℕ) → 0 < at → IfSome o (λ (e : ℕ × Reply). e.0 < at) → moment_of o < at
moment_below None at some h = some
moment_below (Some e) at some h = h

pub begins_below : (calls : List CallRecord) (at : ℕ) → latest_moment calls < at → All (λ (x : CallRecord). x.begun < at) calls
begins_below [] at h k d b = absurd (omega arith)
begins_below (x ∷ xs) at h zero d b = omega arith
begins_below (x ∷ xs) at h (suc k) d b = begins_below xs at (omega arith) k d (omega arith)

pub all_ends_below : (calls : List CallRecord) (at : ℕ) → latest_moment calls < at
    → All (λ (x : CallRecord). IfSome x.ended (λ (e : ℕ × Reply). e.0 < at)) calls
all_ends_below [] at h k d b = absurd (omega arith)
all_ends_below (x ∷ xs) at h zero d b = ends_below x.ended at (omega arith)
all_ends_below (x ∷ xs) at h (suc k) d b = all_ends_below xs at (omega arith) k d (omega arith)

pub is_later : (calls : List CallRecord) (at : ℕ) → latest_moment calls < at → IsLater calls at
is_later calls at h = record { counted = omega arith; begins = begins_below calls at h; ends = all_ends_below calls at h }

latest_below : (calls : List CallRecord) (at : ℕ) → 0 < at → All (λ (x : CallRecord). x.begun < at) calls
    → All (λ (x : CallRecord). IfSome x.ended (λ (e : ℕ × Reply). e.0 < at)) calls → latest_moment calls < at
latest_below [] at some b e = some
latest_below (x ∷ xs) at some b e =
    let head : x.begun < at = b zero x (omega arith) in
    let end : moment_of x.ended < at = moment_below x.ended at some (e zero x (omega arith)) in
    let begins = All-tail (λ (z : CallRecord). z.begun < at) x xs b in
    let ends = All-tail (λ (z : CallRecord). IfSome z.ended (λ (w : ℕ × Reply). w.0 < at)) x xs e in
    let rest : latest_moment xs < at = latest_below xs at some begins ends in
    omega arith

pub not_later : (calls : List CallRecord) (at : ℕ) → at ≤ latest_moment calls → IsLater calls at → ⊥
not_later calls at h l = let below = latest_below calls at l.counted l.begins l.ends in omega arith

latest_pushed : (calls : List CallRecord) (x : CallRecord)
    → latest_moment (calls ++ x ∷ []) ≡ max (latest_moment calls) (last_moment x)
latest_pushed [] x = omega arith
latest_pushed (y ∷ ys) x = let rest = latest_pushed ys x in omega arith

latest_ended : (calls : List CallRecord) (n at : ℕ) (z : CallRecord) → n < length calls → z.begun < at
    → moment_of z.ended ≡ at → latest_moment calls < at → latest_moment (set calls n z) ≡ at
latest_ended [] n at z inside b e h = absurd (omega arith)
latest_ended (y ∷ ys) zero at z inside b e h = omega arith
latest_ended (y ∷ ys) (suc n) at z inside b e h = let rest = latest_ended ys n at z (omega arith) b e (omega arith) in omega arith

-- ---- Lemmas about the threads with a pending call
abbrev is_open_of : ℕ → CallRecord → Bool
is_open_of t x = x.thread == t && is_none x.ended

idle_before : (calls : List CallRecord) (t : ℕ) → has_open calls t ≡ false → All (λ x. is_open_of t x ≡ false) calls
idle_before [] t h k d b = absurd (omega arith)
idle_before (x ∷ xs) t h zero d b = let parts = or_parts (is_open_of t x) (list_any (is_open_of t) xs) h in parts.0
idle_before (x ∷ xs) t h (suc k) d b =
    let parts = or_parts (is_open_of t x) (list_any (is_open_of t) xs) h in idle_before xs t parts.1 k d (omega arith)

pub any_set : (p : CallRecord → Bool) (calls : List CallRecord) (n : ℕ) (z d : CallRecord) → n < length calls
    → p z ≡ p (get_or calls n d) → list_any p (set calls n z) ≡ list_any p calls
any_set p [] n z d inside e = refl
any_set p (x ∷ xs) zero z d inside e = ap (λ b. b || list_any p xs) e
any_set p (x ∷ xs) (suc n) z d inside e = ap (λ b. p x || b) (any_set p xs n z d (omega arith) e)

ended_if_idle : (b : Bool) (o : Option (ℕ × Reply)) (P : ℕ × Reply → Type 0) → b ≡ true → (b && is_none o) ≡ false
    → IfSome o P → IsSomeAnd o P
ended_if_idle b None P e f h = absurd (true≢false (rw e at f))
ended_if_idle b (Some x) P e f h = h

none_left : (o : Option (ℕ × Reply)) (P : ℕ × Reply → Type 0) → IsSomeAnd o P → is_none o ≡ false
none_left None P h = absurd h
none_left (Some x) P h = refl

-- ---- Lemmas about the start of a call
pub begun_follows : (h : HistoryValue) (x : CallRecord) → MayBegin h x.thread x.begun → x.ended ≡ None
    → MayFollow h.opening.threads h.calls x
begun_follows h x may e = record {
  call = record { of_a_thread = may.of_a_thread; counted = may.later.counted; ends_later = no_end x.ended _ e };
  follows = λ k d b. record {
    increasing = may.later.begins k d b;
    begins_alone = not_at (get_or h.calls k d).ended x.begun (may.later.ends k d b);
    ends_alone = no_end x.ended _ e;
    none_open = λ same. ended_if_idle ((get_or h.calls k d).thread == x.thread) (get_or h.calls k d).ended _ (eq-eqb _ _ same)
        (idle_before h.calls x.thread may.idle k d b) (may.later.ends k d b);
  };
}
  where
    no_end : (o : Option (ℕ × Reply)) (P : ℕ × Reply → Type 0) → o ≡ None → IfSome o P
    no_end None P e = tt
    no_end (Some z) P e = cc

    not_at : (o : Option (ℕ × Reply)) (at : ℕ) → IfSome o (λ (z : ℕ × Reply). z.0 < at) → IfSome o (λ (z : ℕ × Reply). z.0 ≢ at)
    not_at None at h = tt
    not_at (Some z) at h = λ same. omega arith

idle_thread : (threads : ℕ) (calls : List CallRecord) (x : CallRecord) → MayFollow threads calls x → has_open calls x.thread ≡ false
idle_thread threads calls x may = list_any_none (is_open_of x.thread) calls (λ k d b. elim (cases_eq (get_or calls k d).thread x.thread) [
  | inl same ↦ and_right _ _ (none_left _ _ ((may.follows k d b).none_open same))
  | inr other ↦ and_left _ _ (ne_eqb _ x.thread other)
])

own_begun : (threads : ℕ) (calls : List CallRecord) (x : CallRecord) (t : ℕ) → MayFollow threads calls x → t ≡ x.thread
    → has_open (calls ++ x ∷ []) t ≡ is_none x.ended
own_begun threads calls x t may same =
    let idle = idle_thread threads calls x may in
    let own = eq-eqb x.thread x.thread refl in
    rw (same, list_any-append (is_open_of x.thread) calls (x ∷ []), idle, own) (or-false (is_none x.ended))

others_begun : (calls : List CallRecord) (x : CallRecord) (t : ℕ) → t ≢ x.thread → has_open (calls ++ x ∷ []) t ≡ has_open calls t
others_begun calls x t other =
    list_any-append (is_open_of t) calls (x ∷ [])
    ∙ ap (λ b. has_open calls t || (b || false))
    (and_left (x.thread == t) (is_none x.ended) (ne_eqb x.thread t (λ same. other (sym same))))
    ∙ or-false (has_open calls t)

pub may_begin : (h : HistoryValue) (busy : List Bool) (latest thread at : ℕ)
    → IsKept h busy latest → thread < h.opening.threads → get_or busy thread false ≡ false → latest < at → MayBegin h thread at
may_begin h busy latest thread at kept low idle above = record {
  of_a_thread = low;
  idle = sym (kept.busy_if_open thread low) ∙ idle;
  later = is_later h.calls at (let l = kept.latest_is in omega arith);
}

pub too_early : (h : HistoryValue) (busy : List Bool) (latest at : ℕ) → IsKept h busy latest → at ≤ latest
    → IsLater h.calls at → ⊥
too_early h busy latest at kept low = not_later h.calls at (let l = kept.latest_is in omega arith)

above_number : (threads : ℕ) (calls : List CallRecord) → IsHistory threads calls → (k : ℕ) → k < length calls
    → k < (call_numbered calls k).begun
above_number threads calls h zero low =
    (h.each 0 no_call low).counted
above_number threads calls h (suc k) low =
    let f : Follows (call_numbered calls k) (call_numbered calls (suc k)) = h.pairs k (suc k) no_call (omega arith) low in
    omega (arith, above_number threads calls h k (omega arith), f.increasing)

few_calls : (threads : ℕ) (calls : List CallRecord) → IsHistory threads calls → length calls ≤ latest_moment calls
few_calls threads [] h = omega arith
few_calls threads (x ∷ xs) h =
    let n = length xs in
    let above : n < (call_numbered (x ∷ xs) n).begun = above_number threads (x ∷ xs) h n (omega arith) in grind (
      arith,
      begins_below,
    )

pub kept_pushed : (h : HistoryValue) (busy : List Bool) (latest : ℕ) (x : CallRecord)
    → IsKept h busy latest → MayFollow h.opening.threads h.calls x → max latest (last_moment x) < 2 ^ 32
    → IsKept (with_begun h x) (set busy x.thread (is_none x.ended)) (max latest (last_moment x))
kept_pushed h busy latest x kept may fits = record {
  opens = kept.opens;
  history = history;
  flags = let l = length-set busy x.thread (is_none x.ended) in let f = kept.flags in omega arith;
  busy_if_open = λ t low. elim (cases_eq t x.thread) [
    | inl same ↦ read_written busy x.thread t (is_none x.ended) false same (let f = kept.flags in omega arith)
        ∙ sym (own_begun h.opening.threads h.calls x t may same)
    | inr other ↦ get_or-set_other busy x.thread t (is_none x.ended) false other ∙ kept.busy_if_open t low ∙ sym (others_begun h.calls x t other)
  ];
  latest_is = latest_is;
  numbered = let few = few_calls h.opening.threads (h.calls ++ x ∷ []) history in let l = latest_is in omega arith;
  fits = fits;
}
  where
    history : IsHistory h.opening.threads (h.calls ++ x ∷ [])
    history = history_begun h.opening.threads h.calls x kept.history may

    latest_is : max latest (last_moment x) ≡ latest_moment (h.calls ++ x ∷ [])
    latest_is = let l = kept.latest_is in let p = latest_pushed h.calls x in omega arith

pub flag_is : (o : Option (ℕ × Reply)) (b : Bool) → is_some o ≡ not b → b ≡ is_none o
flag_is None false e = e
flag_is (Some x) true e = e
flag_is o b e = refl

pub kept_reopened : (h : HistoryValue) (busy : List Bool) (latest : ℕ) (keys : List ℕ) → IsKept h busy latest
    → Opens (record h.opening { keys = keys }) → IsKept (record h { opening = record h.opening { keys = keys } }) busy latest
kept_reopened h busy latest keys kept opens = record {
  opens = opens;
  history = kept.history;
  flags = kept.flags;
  busy_if_open = kept.busy_if_open;
  latest_is = kept.latest_is;
  numbered = kept.numbered;
  fits = kept.fits;
}

alone : (threads : ℕ) (calls : List CallRecord) (n k : ℕ) → IsHistory threads calls → IsOpen calls n → (k < n) ⊎ (n < k)
    → k < length calls
    → (call_numbered calls k).thread ≡ (call_numbered calls n).thread → is_none (call_numbered calls k).ended ≡ false
alone threads calls n k h still (inl b) low same =
    let f : Follows (call_numbered calls k) (call_numbered calls n) = h.pairs k n no_call b still.known in
    none_left _ _ (f.none_open same)
alone threads calls n k h still (inr b) low same =
    let f : Follows (call_numbered calls n) (call_numbered calls k) = h.pairs n k no_call b low in
    absurd (never_ended (call_numbered calls n).ended _ still.not_ended (f.none_open (sym same)))

idle_ended : (threads : ℕ) (calls : List CallRecord) (n t at : ℕ) (reply : Reply) → IsHistory threads calls → IsOpen calls n
    → t ≡ (call_numbered calls n).thread → has_open (set calls n (ended_with (call_numbered calls n) (at, reply))) t ≡ false
idle_ended threads calls n t at reply h still same = list_any_none (is_open_of t) (set calls n z) each
  where
    z : CallRecord
    z = ended_with (call_numbered calls n) (at, reply)

    IsIdle : CallRecord → Type 0
    IsIdle y = is_open_of t y ≡ false

    other : (k : ℕ) → (k < n) ⊎ (n < k) → k < length calls → IsIdle (call_numbered calls k)
    other k side low =
        elim (cases_eq (call_numbered calls k).thread t) [
          | inl e ↦ and_right _ _ (alone threads calls n k h still side low (e ∙ same))
          | inr ne ↦ and_left _ _ (ne_eqb _ t ne)
        ]

    each : (k : ℕ) (d : CallRecord) → k < length (set calls n z) → IsIdle (get_or (set calls n z) k d)
    each k d b =
        let low : k < length calls = omega (arith, length-set calls n z) in
        elim (cases_order k n) [
          | inl e ↦ subst IsIdle (sym (read_written calls n k z d e still.known)) (and_right (z.thread == t) false refl)
          | inr side ↦ subst IsIdle (sym (read_other calls n k z d no_call (omega arith) low)) (other k side low)
        ]

others_ended : (calls : List CallRecord) (n t at : ℕ) (reply : Reply) → n < length calls → t ≢ (call_numbered calls n).thread
    → has_open (set calls n (ended_with (call_numbered calls n) (at, reply))) t ≡ has_open calls t
others_ended calls n t at reply inside other =
    let x = call_numbered calls n in
    let apart : (x.thread == t) ≡ false = ne_eqb x.thread t (λ same. other (sym same)) in
    any_set (is_open_of t) calls n _ no_call inside (and_left _ false apart ∙ sym (and_left _ (is_none x.ended) apart))

pub kept_ended : (h : HistoryValue) (busy : List Bool) (latest n at : ℕ) (reply : Reply)
    → IsKept h busy latest → IsOpen h.calls n → latest < at → at < 2 ^ 32
    → IsKept (with_ended h n (at, reply)) (set busy (call_numbered h.calls n).thread false) at
kept_ended h busy latest n at reply kept still above fits = record {
  opens = kept.opens;
  history = history_ended h.opening.threads h.calls n at reply kept.history still (is_later h.calls at over);
  flags = let l = length-set busy x.thread false in let f = kept.flags in omega arith;
  busy_if_open = λ t low. elim (cases_eq t x.thread) [
    | inl same ↦ read_written busy x.thread t false false same (here t low same)
        ∙ sym (idle_ended h.opening.threads h.calls n t at reply kept.history still same)
    | inr other ↦ get_or-set_other busy x.thread t false false other ∙ kept.busy_if_open t low ∙ sym (others_ended h.calls n t at reply still.known other)
  ];
  latest_is = sym (latest_ended h.calls n at _ still.known (begins_below h.calls at over n no_call still.known) refl over);
  numbered = let l = length-set h.calls n (ended_with x (at, reply)) in let k = kept.numbered in omega arith;
  fits = fits;
}
  where
    x : CallRecord
    x = call_numbered h.calls n

    over : latest_moment h.calls < at
    over = let l = kept.latest_is in omega arith

    here : (t : ℕ) → t < h.opening.threads → t ≡ x.thread → x.thread < length busy
    here t low same = let f = kept.flags in omega arith

thread_of_call : (h : HistoryValue) (busy : List Bool) (latest n : ℕ) → IsKept h busy latest → n < length h.calls
    → (call_numbered h.calls n).thread < MOST_THREADS
thread_of_call h busy latest n kept inside =
    let c : IsCall h.opening.threads (call_numbered h.calls n) = kept.history.each n no_call inside in omega (arith, c.of_a_thread, kept.opens.within.few)

pub call_read : (calls : List CallRecord) (n : ℕ) (x : CallRecord) → n < length calls → x ≡ get_or calls n x
    → x ≡ call_numbered calls n
call_read calls n x inside e = e ∙ get_or_default calls n x no_call inside

pub not_some : (o : Option (ℕ × Reply)) → false ≡ is_some o → o ≡ None
not_some None e = refl
not_some (Some x) e = cc

pub still_open : (calls : List CallRecord) (n : ℕ) (x : CallRecord) → n < length calls → x ≡ get_or calls n x
    → false ≡ is_some x.ended → IsOpen calls n
still_open calls n x inside e none = record {
  known = inside;
  not_ended = not_some (call_numbered calls n).ended
      (none ∙ ap (λ (y : CallRecord). is_some y.ended) (call_read calls n x inside e));
}

pub may_end : (h : HistoryValue) (busy : List Bool) (latest n at : ℕ)
    → IsKept h busy latest → IsOpen h.calls n → latest < at → MayEnd h n at
may_end h busy latest n at kept still above = record {
  open_call = still;
  later = is_later h.calls at (let l = kept.latest_is in omega arith);
}

pub kept_ended_read : (h : HistoryValue) (busy : List Bool) (latest n at : ℕ) (reply : Reply) (x : CallRecord)
    → x ≡ call_numbered h.calls n → IsKept h busy latest → IsOpen h.calls n → latest < at → at < 2 ^ 32
    → IsKept (record h { calls = set h.calls n (ended_with x (at, reply)) }) (set busy x.thread false) at
kept_ended_read h busy latest n at reply x e kept still above fits = rw e (kept_ended h busy latest n at reply kept still above fits)

pub thread_read : (h : HistoryValue) (busy : List Bool) (latest n : ℕ) (x : CallRecord)
    → IsKept h busy latest → n < length h.calls → x ≡ call_numbered h.calls n → x.thread < MOST_THREADS
thread_read h busy latest n x kept inside e = rw e (thread_of_call h busy latest n kept inside)

pub kept_new : (op : Opening) → Opens op → IsKept (record { opening = op; calls = [] }) (replicate MOST_THREADS false) 0
kept_new op o = record {
  opens = o;
  history = empty_history op.threads;
  flags = let f = o.within.few in omega arith;
  busy_if_open = λ t low. let f = o.within.few in get_or-replicate MOST_THREADS t false false (omega arith);
  latest_is = refl;
  numbered = omega arith;
  fits = omega arith;
}
