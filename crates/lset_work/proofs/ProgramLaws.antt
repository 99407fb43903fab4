-- Lemmas about making the calls of a program one by one, and about joining threads one by one.
use Rattle.std.proofs.Common.{◌≡◌, ℕ, ◌+◌, ◌<◌, Bool, true, List, [], ◌∷◌, ◌++◌, length, map, take, get_or, Option, Some, None, IfSome, All}
use Rattle.std.proofs.Common.{refl, sym, ap, ◌∙◌, subst, append_assoc, arith, length-append, length-take-le, add-one}
use Rattle.std.specs.Option.{option_map}
use Rattle.std.proofs.Math.Seq.{take-suc}
use Rattle.std.proofs.lemmas.List.{length-map, map-append, get_or_default}
use Rattle.std.proofs.lemmas.List.Elements.{All-nil, All-push, All-weaker}
use Rattle.std.proofs.lemmas.List.Sums.{sum_by-append, sum_by-cons}
use Rattle.lset_words.specs.declared.Call.{Call}
use Rattle.lset_words.specs.declared.Reply.{Reply}
use Rattle.lset_words.specs.Records.{CallMade, Record, called, with_calls}
use Rattle.lset_live.specs.Seats.{SeatValue, SetValue, gather_onto, held_in}
use Rattle.lset_work.specs.declared.work_fault.WorkCause.{WorkCause}
use Rattle.lset_work.specs.declared.work_fault.WorkCause.TheVariants.{Programs, Spawn, Gate, Memory}
use Rattle.lset_rule.specs.Runs.{StartsWith}
use Rattle.lset_work.specs.Programs.{made, worked, HasSeenAll, HaveRun, IsMadeOn, IsOfThreads}
use Rattle.lset_words.proofs.RecordLaws.{with_calls-append}
use Rattle.lset_live.proofs.Receipts.{starts_on}
use Rattle.lset_live.proofs.GatheredRecords.{gather_more}

-- ---- Lemmas about the next call of a program

made-append : (cs : List Call) (ys : List Reply) (c : Call) (a : Reply) → length cs ≡ length ys
    → made (cs ++ c ∷ []) (ys ++ a ∷ []) ≡ made cs ys ++ record { call = c; reply = a } ∷ []
made-append [] [] c a e = refl
made-append [] (b ∷ ys) c a e = absurd (omega (arith, e))
made-append (d ∷ cs) [] c a e = absurd (omega (arith, e))
made-append (d ∷ cs) (b ∷ ys) c a e = ap (λ l. record { call = d; reply = b } ∷ l) (made-append cs ys c a (omega (arith, e)))

call_more : (r r1 r2 : Record) (cs : List Call) (ys ys' : List Reply) (i : ℕ) (c : Call) (a : Reply) → i < length cs →
    c ≡ get_or cs i c → length ys ≡ i
    → ys' ≡ ys ++ a ∷ [] → r1 ≡ with_calls r (made (take i cs) ys) → r2 ≡ called r1 (record { call = c; reply = a })
    → r2 ≡ with_calls r (made (take (i + 1) cs) ys')
call_more r r1 r2 cs ys ys' i c a lt is each more before now =
    let one : CallMade = record { call = c; reply = a } in
    let same : length (take i cs) ≡ length ys = omega (arith, length-take-le i cs (omega (arith, lt)), each) in
    let grown : take (i + 1) cs ≡ take i cs ++ c ∷ [] = ap (λ j. take j cs) (add-one i) ∙ take-suc cs i c lt
    ∙ ap (λ d. take i cs ++ d ∷ []) (sym is) in
    let all : made (take (i + 1) cs) ys' ≡ made (take i cs) ys ++ one ∷ [] =
    ap (λ l. made l ys') grown ∙ ap (made (take i cs ++ c ∷ [])) more ∙ made-append (take i cs) ys c a same in
    now ∙ ap (λ (q : Record). called q one) before ∙ sym (with_calls-append r (made (take i cs) ys) (one ∷ []))
    ∙ ap (with_calls r) (sym all)

pub call_at : (r r1 r2 : Record) (cs : List Call) (ys ys' : List Reply) (i : ℕ) (d : Call) (a : Reply) → i < length cs →
    length ys ≡ i
    → ys' ≡ ys ++ a ∷ [] → r1 ≡ with_calls r (made (take i cs) ys) → r2 ≡ called r1 (record { call = get_or cs i d; reply = a })
    → r2 ≡ with_calls r (made (take (i + 1) cs) ys')
call_at r r1 r2 cs ys ys' i d a lt each more before now =
    call_more r r1 r2 cs ys ys' i (get_or cs i d) a lt (get_or_default cs i d (get_or cs i d) lt) each more before now

-- ---- Lemmas about joining the next thread

worked-append : (rs : List Record) (ps : List (List Call)) (ys : List (List Reply)) (r : Record) (p : List Call) (y : List Reply)
    → length ps ≡ length rs → length ys ≡ length rs
    → worked (rs ++ r ∷ []) (ps ++ p ∷ []) (ys ++ y ∷ []) ≡ worked rs ps ys ++ with_calls r (made p y) ∷ []
worked-append [] [] [] r p y e f = refl
worked-append [] (x ∷ ps) ys r p y e f = absurd (omega (arith, e))
worked-append [] [] (x ∷ ys) r p y e f = absurd (omega (arith, f))
worked-append (q ∷ rs) [] ys r p y e f = absurd (omega (arith, e))
worked-append (q ∷ rs) (x ∷ ps) [] r p y e f = absurd (omega (arith, f))
worked-append (q ∷ rs) (x ∷ ps) (z ∷ ys) r p y e f =
    ap (λ l. with_calls q (made x z) ∷ l) (worked-append rs ps ys r p y (omega (arith, e)) (omega (arith, f)))

none_run : (set : SetValue) → HaveRun set [] [] None []
none_run set = record {
  fit = refl;
  counted = refl;
  gathers = refl;
  held = refl;
  same = tt;
  begins = All-nil (HasSeenAll None);
}

all_seen : (now : SeatValue) (last : Option SeatValue) (seats : List SeatValue) → IfSome last (λ s. StartsWith now.events s.events) →
    All (HasSeenAll last) seats → All (HasSeenAll (Some now)) seats
all_seen now None seats grows seen = All-weaker (HasSeenAll None) (HasSeenAll (Some now)) (λ s x. absurd x) seats seen
all_seen now (Some l) seats grows seen = All-weaker (HasSeenAll (Some l)) (HasSeenAll (Some now))
    (λ s x. starts_on now.events l.events s.events grows x) seats seen

run_more : (set : SetValue) (seats : List SeatValue) (programs : List (List Call)) (last : Option SeatValue)
    (replies : List (List Reply))
    (seat done now : SeatValue) (program : List Call) (told : List Reply) → HaveRun set seats programs last replies →
    IsMadeOn seat.past program told done.past
    → done.held ≡ seat.held → Some now.past ≡ gather_onto (option_map (λ s. s.past) last) (done.past ∷ []) →
    now.held ≡ held_in last + done.held → now.set ≡ set
    → StartsWith done.events seat.events → StartsWith now.events done.events → IfSome last (λ s. StartsWith now.events s.events)
    → HaveRun set (seats ++ seat ∷ []) (programs ++ program ∷ []) (Some now) (replies ++ told ∷ [])
run_more set seats programs last replies seat done now program told h made same gathers held of later from grows =
    let past : SeatValue → Record = λ s. s.past in
    let holds : SeatValue → ℕ = λ s. s.held in
    let records = map past seats in
    let ws = worked records programs replies in
    let few : length programs ≡ length records = h.fit ∙ sym (length-map seats past) in
    let counts : length replies ≡ length records =
    sym (length-map replies (λ (l : List Reply). length l)) ∙ ap (λ l. length l) h.counted
    ∙ length-map programs (λ (l : List Call). length l) ∙ few in
    let grown : worked (map past (seats ++ seat ∷ [])) (programs ++ program ∷ []) (replies ++ told ∷ []) ≡ ws ++ done.past ∷ [] =
    ap (λ rs. worked rs (programs ++ program ∷ []) (replies ++ told ∷ [])) (map-append past seats (seat ∷ []))
    ∙ worked-append records programs replies seat.past program told few counts ∙ ap (λ r. ws ++ r ∷ []) (sym made.1) in
    record {
      fit = length-append programs (program ∷ []) ∙ ap (λ n. n + 1) h.fit ∙ sym (length-append seats (seat ∷ []));
      counted = map-append (λ (l : List Reply). length l) replies (told ∷ []) ∙ (λ i. h.counted i ++ made.0 i ∷ [])
          ∙ sym (map-append (λ (l : List Call). length l) programs (program ∷ []));
      gathers = gathers ∙ ap (λ o. gather_onto o (done.past ∷ [])) h.gathers ∙ sym (gather_more None ws done.past)
          ∙ ap (gather_onto None) (sym grown);
      held = omega (arith, held, h.held, same, sum_by-append holds seats (seat ∷ []), sum_by-cons holds seat []);
      same = of;
      begins = All-push (HasSeenAll (Some now)) seats seat (all_seen now last seats grows h.begins)
          (starts_on now.events done.events seat.events from later);
    }

-- The invariant while threads are joined. The threads in `joined` have ended, and their seats (per-thread handles to
-- the set) were merged into `last`. The threads in `rest` have not been joined yet.
pub record SoFar {H V : Type 0} (set : SetValue) (seat : H → SeatValue) (program : H → List Call) (items : V → List Reply)
    (hs rest : List H) (last : Option SeatValue)
    (vs : List V) : Type 0 where
  pub joined : List H
  pub all : joined ++ rest ≡ hs
  pub run : HaveRun set (map seat joined) (map program joined) last (map items vs)

pub none_yet : {H V : Type 0} (set : SetValue) (seat : H → SeatValue) (program : H → List Call) (items : V → List Reply)
    (hs rest : List H) (vs : List V)
    → rest ≡ hs → vs ≡ [] → SoFar set seat program items hs rest None vs
none_yet set seat program items hs rest vs e none = record {
  joined = [];
  all = e;
  run = subst (λ l. HaveRun set [] [] None (map items l)) (sym none) (none_run set);
}

pub one_more : {H V : Type 0} (set : SetValue) (seat : H → SeatValue) (program : H → List Call) (items : V → List Reply)
    (hs rest rest' : List H) (h : H)
    (last : Option SeatValue) (vs vs' : List V) (v : V) (done now : SeatValue) → rest ≡ h ∷ rest' → vs' ≡ vs ++ v ∷ [] →
    SoFar set seat program items hs rest last vs
    → IsMadeOn (seat h).past (program h) (items v) done.past → done.held ≡ (seat h).held
    → Some now.past ≡ gather_onto (option_map (λ s. s.past) last) (done.past ∷ []) → now.held ≡ held_in last + done.held →
    now.set ≡ set → StartsWith done.events (seat h).events → StartsWith now.events done.events
    → IfSome last (λ s. StartsWith now.events s.events)
    → SoFar set seat program items hs rest' (Some now) vs'
one_more set seat program items hs rest rest' h last vs vs' v done now step more s made same gathers held of later from grows =
    let j = s.joined in
    let next = run_more set (map seat j) (map program j) last (map items vs) (seat h) done now (program h) (items v) s.run made
    same gathers held of later from grows in
    let told : map items vs' ≡ map items vs ++ items v ∷ [] = ap (map items) more ∙ map-append items vs (v ∷ []) in
    record {
      joined = j ++ h ∷ [];
      all = append_assoc j (h ∷ []) rest' ∙ ap (λ l. j ++ l) (sym step) ∙ s.all;
      run = subst (λ l. HaveRun set l (map program (j ++ h ∷ [])) (Some now) (map items vs')) (sym (map-append seat j (h ∷ [])))
          (subst (λ l. HaveRun set (map seat j ++ seat h ∷ []) l (Some now) (map items vs')) (sym (map-append program j (h ∷ [])))
          (subst (λ l. HaveRun set (map seat j ++ seat h ∷ []) (map program j ++ program h ∷ []) (Some now) l) (sym told) next));
    }

pub run_of : (set : SetValue) (seats seats' : List SeatValue) (programs programs' : List (List Call)) (last : Option SeatValue)
    (replies : List (List Reply))
    → seats ≡ seats' → programs ≡ programs' → HaveRun set seats programs last replies → HaveRun set seats' programs' last replies
run_of set seats seats' programs programs' last replies e f h =
    subst (λ l. HaveRun set seats' l last replies) f (subst (λ l. HaveRun set l programs last replies) e h)

-- ---- Lemmas about the error causes except `Programs`

pub memory_refuses : (F : Type 0) → F → (Memory ≡ Programs → ¬ F) × (¬ F → Memory ≡ Programs)
memory_refuses F f = ((λ e. absurd cc), λ n. absurd (n f))

pub threads_refuse : (F : Type 0) (may_shut : Bool) (cause : WorkCause) → IsOfThreads may_shut cause → F
    → (cause ≡ Programs → ¬ F) × (¬ F → cause ≡ Programs)
threads_refuse F may_shut Programs of f = absurd of
threads_refuse F may_shut Spawn of f = ((λ e. absurd cc), λ n. absurd (n f))
threads_refuse F may_shut Gate of f = ((λ e. absurd cc), λ n. absurd (n f))
threads_refuse F may_shut Memory of f = absurd of

pub shut_gate : (may_shut : Bool) (cause : WorkCause) → IsOfThreads may_shut cause → cause ≡ Gate → may_shut ≡ true
shut_gate may_shut Programs of e = absurd of
shut_gate may_shut Spawn of e = absurd cc
shut_gate may_shut Gate of e = of
shut_gate may_shut Memory of e = absurd of
