-- Proofs about the view of a seat after each step of its call. A seat is one thread's access to the set; its view is
-- what it knows about the run.
use Rattle.std.proofs.Common.{◌≡◌, ℕ, ◌+◌, List, [], ◌∷◌, ◌++◌, length, Option, Some, None, MatchOption, ◌<◌, refl, sym, ap, ◌∙◌}
use Rattle.std.proofs.Common.{subst, append-nil, append_assoc, length-append, false}
use Rattle.lset_words.specs.declared.Call.{Call}
use Rattle.lset_words.specs.declared.Reply.{Reply}
use Rattle.lset_steps.specs.declared.Local.{Local}
use Rattle.lset_steps.specs.declared.Fed.{Fed}
use Rattle.lset_steps.specs.declared.Event.{Event}
use Rattle.lset_steps.specs.declared.Event.TheVariants.{Begin, Go}
use Rattle.lset_rule.specs.declared.slots.OwnSlots.{OwnSlots}
use Rattle.lset_rule.specs.OwnSlots.{slots_of, resting}
use Rattle.lset_rule.specs.declared.view.PendingCall.{PendingCall}
use Rattle.lset_rule.specs.declared.view.View.{View}
use Rattle.lset_steps.specs.Steps.{Table, event_at}
use Rattle.lset_steps.specs.Laws.{Lawful, Occurs}
use Rattle.lset_words.specs.Words.{target, tail_word}
use Rattle.lset_rule.specs.Pasts.{called}
use Rattle.lset_rule.specs.Runs.{own, under_after, StartsWith}
use Rattle.lset_rule.specs.Views.{Stands, IsIdle, IsOpen}
use Rattle.lset_rule.specs.Calls.{IsMid, Makes, Goes, Starts, gone_view, begun_view, record_after}
use Rattle.lset_rule.proofs.MovesKeepRule.{IsAt, begun_at, stands_at}
use Rattle.lset_rule.proofs.RecordsOfRuns.{starts_more}

-- Holds if call c can have changed the view of its seat (what the seat knows about the run) from v to w, when the last
-- step had the outcome f. If f has a reply, the call has ended with the reply. Otherwise the call is still pending.
abbrev pub Comes : Table → Call → View → Fed → View → Type 0
Comes m c v f w = (w.local ≡ f.local) × MatchOption f.answer (IsMid c v w × Stands m w) (λ r. Makes m c v r w)

pub starts_on : (xs ys zs : List Event) → StartsWith xs ys → StartsWith ys zs → StartsWith xs zs
starts_on xs ys zs (p, is) (q, is') = (q ++ p, is ∙ (ap (λ l. l ++ p) is' ∙ append_assoc zs q p))

abbrev stepped_view : List Event → View → Local → Option Reply → View
stepped_view log b l a = record b {
  local = l;
  under = under_after a b.under;
  past = record_after b.past a b.under (length log + 1);
  seen = log ++ Go b.thread ∷ [];
}

by_answer : (m : Table) (c : Call) (v b : View) (log : List Event) (l : Local) (a : Option Reply) → IsMid c v b →
    StartsWith log b.seen → Stands m (stepped_view log b l a)
    → MatchOption a (IsMid c v (stepped_view log b l a) × Stands m (stepped_view log b l a))
    (λ r. Makes m c v r (stepped_view log b l a))
by_answer m c v b log l None mid on st = (
  record {
    log = mid.log;
    before = mid.before;
    since = starts_more log _ (Go b.thread) (starts_on log b.seen _ on mid.since);
    steps = mid.steps + 1;
    under = ap (under_after None) mid.under;
    past = mid.past;
    same = mid.same;
  },
  st,
)
by_answer m c v b log l (Some r) mid on st =
    let all = starts_on log b.seen (mid.log ++ Begin v.thread c ∷ []) on mid.since in
    let u : PendingCall = record { call = c; begun = length mid.log + 1; steps = mid.steps } in
    let long : length log + 1 ≡ length (log ++ Go b.thread ∷ []) = sym (length-append log (Go b.thread ∷ [])) in
    record {
      log = mid.log;
      between = all.0;
      before = mid.before;
      seen = λ i. all.1 i ++ Go (mid.same.2 i) ∷ [];
      past = (λ i. record_after (mid.past i) (Some r) (mid.under i) (length log + 1)) ∙ ap (λ n. called v.past (own u r n)) long;
      idle = refl;
      same = mid.same;
      stands = st;
    }

pub comes : (m : Table) (c : Call) (v b : View) (log : List Event) (n : ℕ) (w : View) (f : Fed) → IsMid c v b →
    StartsWith log b.seen → w ≡ gone_view m log n b → Stands m w → f ≡ m.feed b.local n → Comes m c v f w
comes m c v b log n w f mid on is st fed = let f' : Fed = m.feed b.local n in let w' : View = gone_view m log n b in
    let P : View × Fed → Type 0 = λ z. Comes m c v z.1 z.0 in
    subst P (λ i. (sym is i, sym fed i)) (refl, by_answer m c v b log f'.local f'.answer mid on (subst (Stands m) is st))

pub comes_first : (m : Table) (c : Call) (v : View) (n : ℕ) (w : View) (f : Fed) → Starts m c v n w →
    f ≡ m.feed (m.begin c v.local) n → Comes m c v f w
comes_first m c v n w f s fed = let log = s.0 in let b : View = begun_view m log c v in
    comes m c v b b.seen n w f (record {
      log = log;
      before = s.1;
      since = ([], sym (append-nil b.seen));
      steps = 0;
      under = refl;
      past = refl;
      same = (refl, refl, refl, refl, refl, refl);
    }) ([], sym (append-nil b.seen)) s.3 s.4 fed

pub comes_next : (m : Table) (c : Call) (v w : View) (f : Fed) (n : ℕ) (w' : View) (f' : Fed) → Comes m c v f w → f.answer ≡ None
    → Goes m w n w' → f' ≡ m.feed f.local n → Comes m c v f' w'
comes_next m c v w f n w' f' come none g fed = let P : Option Reply → Type 0 =
    λ a. MatchOption a (IsMid c v w × Stands m w) (λ r. Makes m c v r w) in
    let mid = subst P none come.1 in comes m c v w g.0 n w' f' mid.0 g.1 g.3 g.4 (fed ∙ ap (λ l. m.feed l n) (sym come.0))

pub is_mid : (m : Table) (c : Call) (v w : View) (f : Fed) → Comes m c v f w → f.answer ≡ None → IsMid c v w × Stands m w
is_mid m c v w f come none =
    let P : Option Reply → Type 0 = λ a. MatchOption a (IsMid c v w × Stands m w) (λ r. Makes m c v r w) in
    subst P none come.1

pub made : (m : Table) (c : Call) (v w : View) (f : Fed) (r : Reply) → Comes m c v f w → f.answer ≡ Some r → Makes m c v r w
made m c v w f r come some =
    let P : Option Reply → Type 0 = λ a. MatchOption a (IsMid c v w × Stands m w) (λ r. Makes m c v r w) in
    subst P some come.1

pub mid_open : (c : Call) (v w : View) → v.spent ≡ false → IsMid c v w → IsOpen w
mid_open c v w sp mid = (mid.same.0 ∙ sp, (_, mid.under))

occurs : (m : Table) (w : View) (es : List Event) (l : Local) → IsAt m w.shape es w.thread l → Occurs m l
occurs m w es l at = (w.shape, event_at es, length es, w.thread, at.0, at.1)

pub reached : (m : Table) → Lawful m → (c : Call) (v w : View) (f : Fed) → v.spent ≡ false → Comes m c v f w → f.answer ≡ None →
    Occurs m f.local
reached m law c v w f sp come none = let mid = is_mid m c v w f come none in
    occurs m w w.seen f.local (subst (IsAt m w.shape w.seen w.thread) come.0 (stands_at m law w mid.1 (mid_open c v w sp mid.0)))

pub reached_first : (m : Table) → Lawful m → (c : Call) → target c < tail_word → (v : View) (l : Local) → Stands m v → IsIdle v →
    l ≡ m.begin c v.local → Occurs m l
reached_first m law c low v l st idle is =
    occurs m v (v.seen ++ Begin v.thread c ∷ []) l (subst (IsAt m v.shape (v.seen ++ Begin v.thread c ∷ []) v.thread) (sym is)
    (begun_at m law v st c low idle))

pub begun_from_slots : (m : Table) → Lawful m → (c : Call) (v : View) (s : OwnSlots) (r l : Local) → s ≡ slots_of v.local →
    r ≡ resting s → l ≡ m.begin c r → l ≡ m.begin c v.local
begun_from_slots m law c v s r l same rest is = is ∙ (ap (m.begin c) (rest ∙ ap resting same) ∙ sym (law.begins c v.local).alike)

pub first_reached : (m : Table) → Lawful m → (c : Call) → target c < tail_word → (v : View) (s : OwnSlots) (r l : Local) → Stands m v
    → IsIdle v → s ≡ slots_of v.local → r ≡ resting s → l ≡ m.begin c r → Occurs m l
first_reached m law c low v s r l st idle same rest is =
    reached_first m law c low v l st idle (begun_from_slots m law c v s r l same rest is)

pub first_comes : (m : Table) → Lawful m → (c : Call) (v : View) (n : ℕ) (w : View) (s : OwnSlots) (r l : Local) (f : Fed) →
    Starts m c v n w → s ≡ slots_of v.local → r ≡ resting s → l ≡ m.begin c r → f ≡ m.feed l n → Comes m c v f w
first_comes m law c v n w s r l f step same rest is fed =
    comes_first m c v n w f step (fed ∙ ap (λ z. m.feed z n) (begun_from_slots m law c v s r l same rest is))
