-- Proof: every call and reply in the report of a schedule can be written in the schedule's version of the text format.
use Rattle.std.proofs.Common.{ap, ◌≡◌, ℕ, zero, suc, ◌+◌, Bool, true, false, List, [], ◌∷◌, length, map, replicate}
use Rattle.std.proofs.Common.{refl, sym, subst, ◌∙◌}
use Rattle.std.specs.Prelude.{Option, Some, None, ◌==◌, Contains, if◌then◌else◌}
use Rattle.std.specs.List.{AllByRecursion}
use Rattle.std.proofs.lemmas.List.{get_or_default}
use Rattle.std.proofs.lemmas.List.Elements.{recursion_from_All, All-from_get_or}
use Rattle.lset_words.specs.declared.Call.{Call}
use Rattle.lset_words.specs.declared.Call.TheVariants as call
use Rattle.lset_words.specs.declared.Reply.{Reply}
use Rattle.lset_words.specs.declared.Reply.TheVariants as reply
use Rattle.lset_words.specs.declared.history.CallRecord.{CallRecord}
use Rattle.lset_words.specs.declared.history.Placed.{Placed}
use Rattle.lset_words.specs.Log.{Log, Entry, Change, TracedCall, calls_at, calls_after, history_at, record_of, is_under_way}
use Rattle.lset_words.specs.Log.{traced_on}
use Rattle.lset_words.specs.Log.Entry.{began, stepped}
use Rattle.lset_words.specs.History.{Linearizes, no_call, call_numbered, answered}
use Rattle.lset_words.specs.SequentialSet.{SetState, IsLegal, after_call, count_of, opening_set, has_key, reply_to}
use Rattle.lset_words.specs.Words.{Opening}
use Rattle.lset_text.specs.declared.words.Version.{Version}
use Rattle.lset_text.specs.declared.words.Version.TheVariants.{One, Two}
use Rattle.lset_text.specs.Openings.{HasOpening}
use Rattle.lset_text.specs.Spellings.{HasCall, HasReply}
use Rattle.lset_history.proofs.Lists.{all_at, all_both, all_map, all-append}
use Rattle.lset_steps.specs.declared.Event.{Event}
use Rattle.lset_steps.specs.declared.Event.TheVariants as event
use Rattle.lset_steps.specs.Steps.{Table, State, event_at, state_at, entry_of, log_of}
use Rattle.lset_schedule.specs.declared.value.Line.{Line}
use Rattle.lset_schedule.specs.declared.value.Line.TheVariants as line
use Rattle.lset_schedule.specs.Plan.{Plan, HasCallOfLine, first_event_line, opening_in}
use Rattle.lset_schedule.specs.Plan as plan
use Rattle.lset_report.specs.Report.{ReportValue}
use Rattle.lset_report.specs.Texts.{HasEnd, HasWordsIn, HasWordsOfVersion}
use Rattle.lset_replay.specs.declared.events.LineEvent.{LineEvent}
use Rattle.lset_replay.specs.Events.{events_of_line, events_from, events_of, only_events}
use Rattle.lset_replay.specs.Reports.{IsReplay, IsExplained}

-- ---- Lemmas about the calls in the schedule

abbrev BeginsIn : Version → Event → Type 0
BeginsIn v (event.Begin t c) = HasCall v c
BeginsIn v (event.Go t) = Unit {0}

abbrev BeginsLineIn : Version → LineEvent → Type 0
BeginsLineIn v e = BeginsIn v e.event

steps_begin_none : (v : Version) (e : LineEvent) (times : ℕ) → BeginsLineIn v e →
    AllByRecursion (BeginsLineIn v) (replicate times e)
steps_begin_none v e zero h = tt
steps_begin_none v e (suc times) h = (h, steps_begin_none v e times h)

line_begins : (v : Version) (n : ℕ) (l : Line) → HasCallOfLine v l → AllByRecursion (BeginsLineIn v) (events_of_line n l)
line_begins v n (line.Begin t c) h = (h, tt)
line_begins v n (line.Go t steps) h = steps_begin_none v (record { line = n; event = event.Go t }) steps tt

lines_begin : (v : Version) (n : ℕ) (ls : List Line) → AllByRecursion (HasCallOfLine v) ls
    → AllByRecursion (BeginsLineIn v) (events_from n ls)
lines_begin v n [] h = tt
lines_begin v n (l ∷ ls) h = all-append (BeginsLineIn v) (events_of_line n l) (events_from (n + 1) ls) (line_begins v n l h.0)
    (lines_begin v (n + 1) ls h.1)

event_begins : (v : Version) (es : List LineEvent) (k : ℕ) → AllByRecursion (BeginsLineIn v) es
    → BeginsIn v (event_at (only_events es) k)
event_begins v [] k h = tt
event_begins v (e ∷ es) zero h = h.0
event_begins v (e ∷ es) (suc k) h = event_begins v es k h.1

-- ---- Lemmas about the calls in the history

abbrev EntersIn : Version → Entry → Type 0
EntersIn v (began t c) = HasCall v c
EntersIn v (stepped t change reply) = Unit {0}

entry_enters : (v : Version) (T : Table) (s : State) (e : Event) → BeginsIn v e → EntersIn v (entry_of T s e)
entry_enters v T s (event.Begin t c) h = h
entry_enters v T s (event.Go t) h = tt

abbrev IsCallIn : Version → TracedCall → Type 0
IsCallIn v x = HasCall v x.call

stepped_call : (v : Version) (b : Bool) (m : ℕ) (change : Option Change) (reply : Option Reply) (x : TracedCall) → IsCallIn v x
    → IsCallIn v (if b then traced_on m change reply x else x)
stepped_call v true m change reply x h = h
stepped_call v false m change reply x h = h

stepped_calls : (v : Version) (t m : ℕ) (change : Option Change) (reply : Option Reply) (xs : List TracedCall)
    → AllByRecursion (IsCallIn v) xs
    → AllByRecursion (IsCallIn v) (map (λ x. if is_under_way t x then traced_on m change reply x else x) xs)
stepped_calls v t m change reply [] h = tt
stepped_calls v t m change reply (x ∷ xs) h =
    (stepped_call v (is_under_way t x) m change reply x h.0, stepped_calls v t m change reply xs h.1)

calls_more : (v : Version) (m : ℕ) (e : Entry) (xs : List TracedCall) → EntersIn v e → AllByRecursion (IsCallIn v) xs
    → AllByRecursion (IsCallIn v) (calls_after m e xs)
calls_more v m (began t c) xs e h = all-append (IsCallIn v) xs (record {
  thread = t;
  call = c;
  begun = m;
  changed = None;
  ended = None;
} ∷ []) h (e, tt)
calls_more v m (stepped t change reply) xs e h = stepped_calls v t m change reply xs h

calls_are_in : (v : Version) (log : Log) (k : ℕ) → ((j : ℕ) → EntersIn v (log j)) → AllByRecursion (IsCallIn v) (calls_at log k)
calls_are_in v log zero h = tt
calls_are_in v log (suc k) h = calls_more v (suc k) (log k) (calls_at log k) (h k) (calls_are_in v log k h)

abbrev IsRecordIn : Version → CallRecord → Type 0
IsRecordIn v x = HasCall v x.call

history_is_in : (v : Version) (T : Table) (op : Opening) (k : ℕ) (es : List LineEvent) → AllByRecursion (BeginsLineIn v) es
    → AllByRecursion (IsRecordIn v) (history_at (log_of T op (event_at (only_events es))) k)
history_is_in v T op k es h =
    let at : ℕ → Event = event_at (only_events es) in
    all_map record_of (IsRecordIn v) (calls_at (log_of T op at) k)
    (calls_are_in v (log_of T op at) k (λ j. entry_enters v T (state_at T op at j) (at j) (event_begins v es j h)))

-- ---- Lemmas about the replies of the sequential set

abbrev IsReplyIn : Placed → Type 0
IsReplyIn p = HasReply One p.reply

either : (b : Bool) (x y : Reply) → HasReply One x → HasReply One y → HasReply One (if b then x else y)
either true x y g h = g
either false x y g h = h

reply_is_in : (q : ℕ) (s : SetState) (t : ℕ) (c : Call) → HasCall One c → HasReply One (reply_to q s t c)
reply_is_in q s t (call.Add k) h = either (has_key k.0 s.keys) reply.False (if count_of s t == q then reply.Full else reply.True)
    tt
    (either (count_of s t == q) reply.Full reply.True tt tt)
reply_is_in q s t (call.Remove k) h = either (has_key k.0 s.keys) reply.True reply.False tt tt
reply_is_in q s t (call.Contains k) h = either (has_key k.0 s.keys) reply.True reply.False tt tt
reply_is_in q s t (call.Ceiling k) h = absurd h

call_at_is_in : (calls : List CallRecord) (number : ℕ) → AllByRecursion (IsRecordIn One) calls
    → HasCall One (call_numbered calls number).call
call_at_is_in [] number h = tt
call_at_is_in (x ∷ xs) zero h = h.0
call_at_is_in (x ∷ xs) (suc number) h = call_at_is_in xs number h.1

order_is_in : (q : ℕ) (calls : List CallRecord) (s : SetState) (order : List Placed) → IsLegal q s (map (answered calls) order)
    → AllByRecursion (IsRecordIn One) calls → AllByRecursion IsReplyIn order
order_is_in q calls s [] legal h = tt
order_is_in q calls s (p ∷ ps) legal h =
    let c : CallRecord = call_numbered calls p.call in (
      subst (λ r. HasReply One r) legal.0 (reply_is_in q s c.thread c.call (call_at_is_in calls p.call h)),
      order_is_in q calls (after_call s c.thread c.call p.reply) ps legal.1 h,
    )

-- ---- Lemmas about the replies in the history and in the order

end_is_in : (order : List Placed) (number : ℕ) (end : Option (ℕ × Reply)) → AllByRecursion IsReplyIn order
    → ((m : ℕ) (r : Reply) → end ≡ Some (m, r) → Contains order (record { call = number; reply = r })) → HasEnd One end
end_is_in order number None h there = tt
end_is_in order number (Some e) h there =
    let p : Placed = record { call = number; reply = e.1 } in
    let place : Contains order p = there e.0 e.1 refl in
    subst IsReplyIn (get_or_default order place.0 p _ place.1 ∙ place.2) (all_at IsReplyIn order p place.0 place.1 h)

-- ---- Lemmas about the calls and replies in the report

words_in : (v : Version) (q : ℕ) (s : SetState) (calls : List CallRecord) (order : List Placed) → Linearizes q s calls order
    → AllByRecursion (IsRecordIn v) calls → HasWordsIn v calls order
words_in One q s calls order h are =
    let replies : AllByRecursion IsReplyIn order = order_is_in q calls s order h.legal are in (
      all_both (IsRecordIn One) (λ (x : CallRecord). HasEnd One x.ended) calls are
          (recursion_from_All (λ (x : CallRecord). HasEnd One x.ended) calls (All-from_get_or (λ (x : CallRecord). HasEnd One x.ended) calls no_call (λ number known. end_is_in order number
          (call_numbered calls number).ended replies (λ m r is. h.ended number m r known is)))),
      replies,
    )
words_in Two q s calls order h are = tt

pub words_of_version : (T : Table) (p : Plan) (r : ReportValue) → IsReplay T p r → IsExplained r
    → plan.HasWordsOfVersion p → HasWordsOfVersion r
words_of_version T p r is explained words =
    let are : AllByRecursion (IsRecordIn p.version) r.history.calls = rw is.report.history_is (history_is_in p.version T
    (opening_in p) (length (only_events (events_of p))) (events_of p)
    (lines_begin p.version (first_event_line p) p.lines words.1)) in
    record {
      opening = rw is.version_is (subst (HasOpening p.version) (sym (ap (λ (o : Opening). o.keys) is.opening_is)) words.0);
      words = rw is.version_is (words_in p.version r.history.opening.quota
          (opening_set r.history.opening) r.history.calls r.order explained.linearizes
          are);
    }
