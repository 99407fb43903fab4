-- Proof: as long as the judge has found no key with calls that no order explains, no two completed calls contradict
-- each other.
use Rattle.std.proofs.Common.{◌≡◌, ℕ, ◌<◌, ◌≤◌, List, Bool, true, refl, ap, arith, subst, length, get_or, map}
use Rattle.std.specs.Prelude.{Option, Some, None, IfSome, is_some, All, AllPairs, ◌≢◌, ◌==◌, ◌&&◌}
use Rattle.std.proofs.lemmas.List.Sums.{count_by-le-length}
use Rattle.lset_words.specs.declared.Reply.{Reply}
use Rattle.lset_words.specs.declared.effect.Presence.{Presence}
use Rattle.lset_words.specs.declared.history.CallRecord.{CallRecord}
use Rattle.lset_words.specs.declared.history.Placed.{Placed}
use Rattle.lset_words.specs.Effects.{presence}
use Rattle.lset_words.specs.SequentialSet.{SetState, has_key, opening_set, count_of, set_left}
use Rattle.lset_words.specs.History.{answered, call_numbered, no_call}
use Rattle.lset_history.specs.History.{HistoryValue, latest_moment}
use Rattle.lset_judge.specs.declared.stream.Stream.{Stream}
use Rattle.lset_judge.specs.Rule.{state_after}
use Rattle.lset_judge.specs.Events.{changes, event_at}
use Rattle.lset_judge.specs.Verdict.{is_plain, may_add, adds_of}
use Rattle.lset_judge.specs.Stream.{behind_all, stream_history, state_for, IsStreamOf}
use Rattle.lset_judge.specs.Clash.{IsOf, IsClash}
use Rattle.lset_judge.specs.Facts.{IsPast}
use Rattle.lset_judge.proofs.EventLemmas.{kind, until, if_some, for_some}
use Rattle.lset_judge.proofs.PlacedCalls.{IsPlaced}
use Rattle.lset_judge.proofs.TimelineOfKey.{Act, act, TakeTurns}
use Rattle.lset_judge.proofs.TimelineFromOrder.{does, pairs_map, turns_map, acts_are, stands_if}
use Rattle.lset_judge.proofs.KeyStates.{there_again}
use Rattle.lset_judge.proofs.OrderFromRule.{run, contains_ended}
use Rattle.lset_judge.proofs.RuleDecides.{has_room}
use Rattle.lset_judge.proofs.ClosingVerdict.{latest_upto}
use Rattle.lset_judge.proofs.ClashOfKey.{clash}

module _ (threads : ℕ) (opening : List ℕ) (calls : List CallRecord) (s : Stream) (is : IsStreamOf threads opening calls s)
    (judged : (k : ℕ) → state_after (event_at behind_all k calls) (has_key k opening) s.moment ≡ Some (state_for s.states k)) (k : ℕ) where
  abbrev h : HistoryValue
  h = stream_history threads opening calls

  abbrev start : SetState
  start = opening_set h.opening

  upto : latest_moment calls ≤ behind_all
  upto = latest_upto behind_all calls (λ n d low. let b = is.before n d low in let l = b.0 in (
    omega (arith, l),
    for_some (λ (e : ℕ × Reply). e.0 ≤ behind_all) (get_or calls n d).ended (λ e q.
        let a = if_some (λ (z : ℕ × Reply). z.0 < behind_all) (get_or calls n d).ended e q b.1 in omega (arith, a)),
  ))

  plain : (n : ℕ) (e : ℕ × Reply) → n < length calls → (call_numbered calls n).ended ≡ Some e → is_plain (call_numbered calls n).call e.1 ≡ true
  plain n e low q = if_some (λ (z : ℕ × Reply). is_plain (call_numbered calls n).call z.1 ≡ true) (call_numbered calls n).ended e q (is.plain n no_call low)

  room : (t : ℕ) → adds_of t calls ≤ length calls
  room t = count_by-le-length (λ (x : CallRecord). may_add x.call x.ended && x.thread == t) calls

  has : (o : List Placed) → All (λ (p : Placed). p.call < length calls) o → AllPairs (λ (p r : Placed). p.call ≢ r.call) o
      → All (λ (p : Placed). IfSome (call_numbered calls p.call).ended (λ (e : ℕ × Reply). e.1 ≡ p.reply)) o
      → (n : ℕ) → n < length calls → (IsPlaced n o → ⊥) → kind (call_numbered calls n) ≡ changes true
      → count_of (set_left start (map (answered calls) o)) (call_numbered calls n).thread < length calls
  has = has_room calls h.opening room (λ n low. (is.history.each n no_call low).of_a_thread)

  pub none_yet : (was : Presence) (first second : Option CallRecord) → IsPast s.moment first → IsPast s.moment second
      → IsClash calls k (presence (has_key k opening)) None was first second → ⊥
  none_yet was first second past also c =
      let now = is.moment in
      let r = run threads calls is.history behind_all upto (length calls) start plain has (λ j. true) s.moment (omega (arith, now))
      (λ j. ap is_some (judged j)) in
      let o : List Placed = r.0 in let b = r.1 in
      let finally : Bool = has_key k (set_left start (map (answered calls) o)).keys in
      let acts : List Act = map (λ (p : Placed). act (get_or calls p.call no_call).begun (until behind_all (get_or calls p.call no_call)) (does k (get_or calls p.call no_call).call p.reply)) o in
      clash threads calls is.history behind_all upto k (presence (has_key k opening)) None finally tt acts
      (subst (λ (there : Bool). TakeTurns finally there acts) (there_again (has_key k opening))
      (turns_map threads calls is.history behind_all upto k (length calls) finally o start b.legal refl))
      (pairs_map threads calls is.history behind_all upto k o b.known b.once b.in_time)
      (acts_are threads calls is.history behind_all upto k o b.known b.replies)
      s.moment
      (λ n e low ended own early. stands_if threads calls is.history behind_all upto k o n e
      (contains_ended threads calls is.history behind_all upto (length calls) start plain has s.moment o b n e low ended early) ended own)
      was first second (by first past) (by second also) c
    where
      by : (o : Option CallRecord) → IsPast s.moment o → (x : CallRecord) (e : ℕ × Reply) → IsOf calls k x → o ≡ Some x → x.ended ≡ Some e → e.0 ≤ s.moment
      by o past x e own same ended = if_some (λ (d : ℕ × Reply). d.0 ≤ s.moment) x.ended e ended (subst (IsPast s.moment) same past)
