-- Proof: the Boolean test `may_follow` decides whether a call can follow a history, and the fields of `CallsSoFar`
-- contain everything that `may_follow` needs.
use Rattle.std.proofs.Common.{inl, inr, ◌≡◌, ◌≢◌, ℕ, ◌<◌, ◌&&◌, ◌||◌, not, ltb, eqb, Bool, true, false, List, [], ◌∷◌, ◌++◌, length, get_or}
use Rattle.std.proofs.Common.{Option, Some, None, refl, sym, ap, ◌∙◌, arith, ⊎_elim, zero, suc, replicate}
use Rattle.std.proofs.Math.ListN.{set}
use Rattle.std.proofs.Math.Bool.{or-false, and-true, or_comm, or_assoc}
use Rattle.std.specs.List.{All, list_all}
use Rattle.std.specs.Option.{IfSome, IsSomeAnd}
use Rattle.std.proofs.lemmas.Option.{IfSome_then}
use Rattle.std.proofs.lemmas.List.{get_or-set_other, get_or-set_same, get_or-replicate, length-set, length-replicate}
use Rattle.std.proofs.lemmas.List.Folds.{list_any-append, list_all-append}
use Rattle.std.proofs.lemmas.Bool.{cases_eq, cases_Bool, and_parts, and_from, and_right, or_from, or_left, not_from_false}
use Rattle.std.proofs.lemmas.Bool.{ltb-true, lt-ltb, eq-eqb, ne_eqb}
use Rattle.std.proofs.lemmas.Bool.Decides.{Decides-ltb, Decides-and, Decides-by_and, nat_tests}
use Rattle.std.specs.Bool.{Decides}
use Rattle.lset_words.specs.declared.Reply.{Reply}
use Rattle.lset_words.specs.declared.history.CallRecord.{CallRecord}
use Rattle.lset_words.specs.History.{MayFollow, IsHistory}
use Rattle.lset_words.specs.Words.{empty}
use Rattle.lset_history.specs.History.{HistoryValue, with_begun}
use Rattle.lset_history.proofs.CallByCall.{history_begun}
use Rattle.lset_report.specs.ReportReading.{ends_at, is_entry, is_taken, begins_later, ended_before, is_idle, ends_later}
use Rattle.lset_report.specs.ReportReading.{may_follow}
use Rattle.lset_report.specs.ReportCalls.{end_moment, is_open, is_last_end, Tracks}

-- ---- Lemmas about the Boolean test for the proposition `MayFollow`

not_or : (a b : Bool) → not (a || b) ≡ (not a && not b)
not_or true b = refl
not_or false b = refl

abbrev Apart : ℕ → CallRecord → Type 0
Apart m y = (m ≢ y.begun) × IfSome y.ended (λ (d : ℕ × Reply). m ≢ d.0)

apart_by : (m begun : ℕ) (o : Option (ℕ × Reply)) → Decides (not (eqb begun m || ends_at m o)) ((m ≢ begun) × IfSome o (λ d. m ≢ d.0))
apart_by m begun None = grind (arith, nat_tests)
apart_by m begun (Some e) = grind (arith, nat_tests)

untaken : (calls : List CallRecord) (m : ℕ) → Decides (not (is_taken calls m)) (All (Apart m) calls)
untaken calls m = Decides-by_and (λ y. not (is_entry m y)) (Apart m) (λ ys. not (is_taken ys m)) (λ y. apart_by m y.begun y.ended)
    refl (λ y ys. not_or (is_entry m y) (is_taken ys m)) calls

increases : (calls : List CallRecord) (m : ℕ) → Decides (begins_later calls m) ((0 < m) × All (λ (y : CallRecord). y.begun < m) calls)
increases calls m = Decides-and (ltb 0 m) _ (Decides-ltb 0 m) (Decides-by_and (λ y. ltb y.begun m) (λ y. y.begun < m)
    (list_all (λ y. ltb y.begun m)) (λ y. Decides-ltb y.begun m) refl (λ _ _. refl) calls)

ends_well : (calls : List CallRecord) (b : ℕ) (o : Option (ℕ × Reply))
    → Decides (ends_later calls b o) (IfSome o (λ (e : ℕ × Reply). (b < e.0) × All (Apart e.0) calls))
ends_well calls b None = (λ _. tt, λ _. refl)
ends_well calls b (Some e) = Decides-and (ltb b e.0) _ (Decides-ltb b e.0) (untaken calls e.0)

idle_by : (t m thread : ℕ) (o : Option (ℕ × Reply))
    → Decides (not (eqb thread t) || ended_before m o) (thread ≡ t → IsSomeAnd o (λ (e : ℕ × Reply). e.0 < m))
idle_by t m thread None = grind (arith, nat_tests)
idle_by t m thread (Some e) = grind (arith, nat_tests)

idles : (calls : List CallRecord) (t m : ℕ)
    → Decides (is_idle calls t m) (All (λ (y : CallRecord). y.thread ≡ t → IsSomeAnd y.ended (λ (e : ℕ × Reply). e.0 < m)) calls)
idles calls t m = Decides-by_and (λ y. not (eqb y.thread t) || ended_before m y.ended) _ (λ ys. is_idle ys t m)
    (λ y. idle_by t m y.thread y.ended) refl (λ _ _. refl) calls

-- The conditions that `may_follow` tests, one in each field.
record May (threads : ℕ) (calls : List CallRecord) (x : CallRecord) : Type 0 where
  low : x.thread < threads
  begins : begins_later calls x.begun ≡ true
  ends : ends_later calls x.begun x.ended ≡ true
  apart : not (is_taken calls x.begun) ≡ true
  idle : is_idle calls x.thread x.begun ≡ true

may_parts : (threads : ℕ) (calls : List CallRecord) (x : CallRecord) → may_follow threads calls x ≡ true → May threads calls x
may_parts threads calls x h =
    let a = and_parts (ltb x.thread threads) _ h in
    let b = and_parts (begins_later calls x.begun) _ a.1 in
    let c = and_parts (ends_later calls x.begun x.ended) _ b.1 in
    let d = and_parts (not (is_taken calls x.begun)) _ c.1 in
    record { low = ltb-true _ _ a.0; begins = b.0; ends = c.0; apart = d.0; idle = d.1 }

turned : (o : Option (ℕ × Reply)) (m : ℕ) → IfSome o (λ (e : ℕ × Reply). m ≢ e.0) → IfSome o (λ (e : ℕ × Reply). e.0 ≢ m)
turned o m h = IfSome_then o h (λ e other same. other (sym same))

pub may_ok : (threads : ℕ) (calls : List CallRecord) (x : CallRecord) → may_follow threads calls x ≡ true
    → MayFollow threads calls x
may_ok threads calls x h =
    let may = may_parts threads calls x h in
    let begins = (increases calls x.begun).0 may.begins in
    let ends = (ends_well calls x.begun x.ended).0 may.ends in
    record {
      call = record { of_a_thread = may.low; counted = begins.0; ends_later = IfSome_then x.ended ends (λ e both. both.0) };
      follows = λ k d b. record {
        increasing = begins.1 k d b;
        begins_alone = turned _ x.begun ((untaken calls x.begun).0 may.apart k d b).1;
        ends_alone = IfSome_then x.ended ends (λ e both. both.1 k d b);
        none_open = (idles calls x.thread x.begun).0 may.idle k d b;
      };
    }

pub may_again : (threads : ℕ) (calls : List CallRecord) (x : CallRecord) → MayFollow threads calls x
    → may_follow threads calls x ≡ true
may_again threads calls x may =
    and_from (ltb x.thread threads) _ (lt-ltb _ _ may.call.of_a_thread)
    (and_from (begins_later calls x.begun) _ ((increases calls x.begun).1 (may.call.counted, λ k d b. (may.follows k d b).increasing))
    (and_from (ends_later calls x.begun x.ended) _ ((ends_well calls x.begun x.ended).1
    (both x.ended may.call.ends_later (λ k d b. (may.follows k d b).ends_alone)))
    (and_from (not (is_taken calls x.begun)) _ ((untaken calls x.begun).1 (λ k d b. let below = (may.follows k d b).increasing in
    (λ same. omega arith, flipped (get_or calls k d).ended (may.follows k d b).begins_alone)))
    ((idles calls x.thread x.begun).1 (λ k d b. (may.follows k d b).none_open)))))
  where
    flipped : (o : Option (ℕ × Reply)) → IfSome o (λ (e : ℕ × Reply). e.0 ≢ x.begun) → IfSome o (λ (e : ℕ × Reply). x.begun ≢ e.0)
    flipped o h = IfSome_then o h (λ e other same. other (sym same))

    both : (o : Option (ℕ × Reply)) → IfSome o (λ (e : ℕ × Reply). x.begun < e.0)
        → ((k : ℕ) (d : CallRecord) → k < length calls → IfSome o (λ (e : ℕ × Reply). Apart e.0 (get_or calls k d)))
        → IfSome o (λ (e : ℕ × Reply). (x.begun < e.0) × All (Apart e.0) calls)
    both None later apart = tt
    both (Some e) later apart = (later, λ k d b. apart k d b)

pub history_more : (threads : ℕ) (calls : List CallRecord) (x : CallRecord) → IsHistory threads calls
    → may_follow threads calls x ≡ true → IsHistory threads (calls ++ x ∷ [])
history_more threads calls x h may = history_begun threads calls x h (may_ok threads calls x may)

-- ---- Lemmas about the invariant `Tracks` of `CallsSoFar` after a call is appended

begins_pushed : (calls : List CallRecord) (x : CallRecord) (last : ℕ) → ((m : ℕ) → begins_later calls m ≡ ltb last m)
    → begins_later calls x.begun ≡ true → (m : ℕ) → begins_later (calls ++ x ∷ []) m ≡ ltb x.begun m
begins_pushed calls x last old may m =
    let pushed = list_all-append (λ y. ltb y.begun m) calls (x ∷ []) ∙ ap (λ b. list_all
    (λ y. ltb y.begun m) calls && b) (and-true (ltb x.begun m)) in
    ap (λ b. ltb 0 m && b) pushed ∙ ⊎_elim
    (λ (yes : ltb x.begun m ≡ true).
    let above : last < x.begun = ltb-true _ _ (sym (old x.begun) ∙ may) in
    let below : x.begun < m = ltb-true _ _ yes in
    let parts = and_parts (ltb 0 m) (list_all (λ y. ltb y.begun m) calls) (old m ∙ lt-ltb last m (omega arith)) in
    and_from _ _ parts.0 (and_from _ _ parts.1 yes) ∙ sym yes)
    (λ (no_ : ltb x.begun m ≡ false). and_right (ltb 0 m) _ (and_right (list_all (λ y. ltb y.begun m) calls) _ no_) ∙ sym no_)
    (cases_Bool (ltb x.begun m))

taken_pushed : (calls : List CallRecord) (x : CallRecord) (m : ℕ) → x.begun < m
    → is_taken (calls ++ x ∷ []) m ≡ (is_taken calls m || ends_at m x.ended)
taken_pushed calls x m past =
    let other : eqb x.begun m ≡ false = ne_eqb x.begun m (λ same. absurd (omega (arith, past, same))) in
    list_any-append (is_entry m) calls (x ∷ []) ∙ ap (λ c. is_taken calls m || c) (or-false (is_entry m x))
    ∙ ap (λ c. is_taken calls m || (c || ends_at m x.ended)) other

last_end_set : (ends : List ℕ) (t m v : ℕ) → t < length ends → eqb (get_or ends t 0) m ≡ false
    → is_last_end (set ends t v) m ≡ (is_last_end ends m || eqb v m)
last_end_set [] t m v low old = absurd (omega (arith, low))
last_end_set (o ∷ os) zero m v low old =
    or_comm (eqb v m) (is_last_end os m) ∙ ap (λ b. (b || is_last_end os m) || eqb v m) (sym old)
last_end_set (o ∷ os) (suc t) m v low old =
    ap (λ b. eqb o m || b) (last_end_set os t m v (omega (arith, low)) old)
    ∙ sym (or_assoc (eqb o m) (is_last_end os m) (eqb v m))

end_is : (m : ℕ) (o : Option (ℕ × Reply)) → 0 < m → eqb (end_moment o) m ≡ ends_at m o
end_is m None some = ne_eqb 0 m (λ same. absurd (omega (arith, some, same)))
end_is m (Some e) some = refl

abbrev idle_at : ℕ → ℕ → CallRecord → Bool
idle_at t m y = not (eqb y.thread t) || ended_before m y.ended

idle_step : (calls : List CallRecord) (x : CallRecord) (t m : ℕ)
    → is_idle (calls ++ x ∷ []) t m ≡ (is_idle calls t m && idle_at t m x)
idle_step calls x t m =
    list_all-append (idle_at t m) calls (x ∷ []) ∙ ap (λ b. is_idle calls t m && b) (and-true (idle_at t m x))

-- Returns whether a thread has no pending call and the thread's last call ended before moment `m` (a position in the
-- history). `busy` is true if the thread has a pending call, and `end` is the end of its last call.
abbrev is_over : Bool → ℕ → ℕ → Bool
is_over busy end m = not busy && ltb end m

over_later : (busy : Bool) (end a m : ℕ) → is_over busy end a ≡ true → a < m → is_over busy end m ≡ true
over_later busy end a m h lt =
    let parts = and_parts (not busy) (ltb end a) h in
    let below : end < a = ltb-true end a parts.1 in
    and_from _ _ parts.0 (lt-ltb end m (omega (arith, below, lt)))

idle_ended : (before : Bool) (b m : ℕ) (o : Option (ℕ × Reply)) (calls : List CallRecord) → ends_later calls b o ≡ true
    → (b < m → before ≡ true) → (before && ended_before m o) ≡ is_over (is_open o) (end_moment o) m
idle_ended before b m None calls ends h = and_right before false refl
idle_ended before b m (Some e) calls ends h = elim (cases_Bool (ltb e.0 m)) [
  | inl early ↦
      let later : b < e.0 = ((ends_well calls b (Some e)).0 ends).0 in
      and_from _ _ (h (omega (arith, ltb-true _ _ early))) early ∙ sym early
  | inr late ↦ and_right before _ late ∙ sym late
]

idle_own : (calls : List CallRecord) (x : CallRecord) (m : ℕ) (busy : Bool) (end : ℕ) → ends_later calls x.begun x.ended ≡ true
    → is_over busy end x.begun ≡ true → is_idle calls x.thread m ≡ is_over busy end m
    → is_idle (calls ++ x ∷ []) x.thread m ≡ is_over (is_open x.ended) (end_moment x.ended) m
idle_own calls x m busy end ends over old =
    let own = ap (λ b. not b || ended_before m x.ended) (eq-eqb x.thread x.thread refl) in
    idle_step calls x x.thread m ∙ ap (λ b. is_idle calls x.thread m && b) own
    ∙ idle_ended (is_idle calls x.thread m) x.begun m x.ended calls ends
    (λ lt. old ∙ over_later busy end x.begun m over lt)

idle_other : (calls : List CallRecord) (x : CallRecord) (t m : ℕ) → t ≢ x.thread
    → is_idle (calls ++ x ∷ []) t m ≡ is_idle calls t m
idle_other calls x t m other =
    let apart : idle_at t m x ≡ true = or_left _ _ (not_from_false _ (ne_eqb x.thread t (λ same. other (sym same)))) in
    idle_step calls x t m ∙ ap (λ b. is_idle calls t m && b) apart ∙ and-true (is_idle calls t m)

-- ---- Lemmas about the invariant `Tracks` of `CallsSoFar` before the first call

none_at : (n m : ℕ) → 0 < m → is_last_end (replicate n 0) m ≡ false
none_at zero m some = refl
none_at (suc n) m some = or_from _ _ (ne_eqb 0 m (λ same. absurd (omega (arith, some, same)))) (none_at n m some)

pub tracks_none : (h : HistoryValue) (threads quota : ℕ) → h ≡ record { opening = empty threads quota; calls = [] }
    → Tracks h 0 (replicate threads 0) (replicate threads false)
tracks_none h threads quota none = rw none (record {
  begins = λ m. and-true (ltb 0 m);
  taken = λ m past. sym (none_at threads m past);
  ends = length-replicate threads 0;
  each = length-replicate threads false;
  idle = λ u m low some. sym (ap (λ b. is_over b (get_or (replicate threads 0) u 0) m) (get_or-replicate threads u false false low)
      ∙ ap (λ end. is_over false end m) (get_or-replicate threads u 0 0 low) ∙ lt-ltb 0 m some);
})

pub tracks_more : (h after : HistoryValue) (last : ℕ) (ends : List ℕ) (busy : List Bool) (x : CallRecord) → Tracks h last ends busy
    → may_follow h.opening.threads h.calls x ≡ true → after ≡ with_begun h x
    → Tracks after x.begun (set ends x.thread (end_moment x.ended)) (set busy x.thread (is_open x.ended))
tracks_more h after last ends busy x old may pushed =
    let parts = may_parts h.opening.threads h.calls x may in
    let low : x.thread < length ends = omega (arith, parts.low, old.ends) in
    let low_busy : x.thread < length busy = omega (arith, parts.low, old.each) in
    let later : last < x.begun = ltb-true _ _ (sym (old.begins x.begun) ∙ parts.begins) in
    let counted : 0 < x.begun = omega (arith, later) in
    let over = sym (old.idle x.thread x.begun parts.low counted) ∙ parts.idle in
    let before : get_or ends x.thread 0 < x.begun = ltb-true _ _ (and_parts (not (get_or busy x.thread false)) _ over).1 in
    rw pushed (record {
      begins = λ m. begins_pushed h.calls x last old.begins parts.begins m;
      taken = λ m past. taken_pushed h.calls x m past
          ∙ ap (λ b. b || ends_at m x.ended) (old.taken m (omega (arith, later, past)))
          ∙ ap (λ b. is_last_end ends m || b) (sym (end_is m x.ended (omega (arith, counted, past))))
          ∙ sym (last_end_set ends x.thread m (end_moment x.ended) low
          (ne_eqb (get_or ends x.thread 0) m (λ same. absurd (omega (arith, before, past, same)))));
      ends = length-set ends x.thread (end_moment x.ended) ∙ old.ends;
      each = length-set busy x.thread (is_open x.ended) ∙ old.each;
      idle = λ u m seat some. ⊎_elim
          (λ (same : u ≡ x.thread). rw (
            same,
            get_or-set_same busy x.thread (is_open x.ended) false low_busy,
            get_or-set_same ends x.thread (end_moment x.ended) 0 low,
          )
          (idle_own h.calls x m (get_or busy x.thread false) (get_or ends x.thread 0) parts.ends over (old.idle x.thread m parts.low some)))
          (λ (other : u ≢ x.thread). rw (
            get_or-set_other busy x.thread u (is_open x.ended) false other,
            get_or-set_other ends x.thread u (end_moment x.ended) 0 other,
          )
          (idle_other h.calls x u m other ∙ old.idle u m seat some))
          (cases_eq u x.thread);
    })
