use Rattle.std.proofs.Common.{true, ◌≡◌, ℕ, ◌+◌, ◌++◌, ◌∷◌, [], List, map, take, subst, sym, ap, ◌∙◌, arith, rules}
use Rattle.std.specs.Prelude.{IfSome}
use Rattle.std.proofs.lemmas.List.{take_more, take_all, map-append}
use Rattle.std.proofs.lemmas.List.Elements.{recursion_from_All}
use Rattle.lset_words.specs.declared.Reply.{Reply}
use Rattle.lset_words.specs.declared.history.CallRecord.{CallRecord}
use Rattle.lset_judge.specs.Stream.{record_of, stream_history}
use Rattle.lset_judge.specs.Verdict.{IsExplained, IsPlain, is_plain}
use Rattle.lset_judge.specs.Judge.{IsJudgeOf, IsVerdict}
use Rattle.lset_judge.specs.Reading.{read_as}
use Rattle.lset_words.specs.History.{IsHistory}
use Rattle.lset_judge.proofs.OrderAsRead.{next_may, next_early, next_thread, first_early, read_explains, reread, plain_read}
use Rattle.lset_judge.proofs.judged_history.judge.Goals as goal

pub loop-call-init : goal.loop-call-init
loop-call-init c =
    let h = c.args.history.now.opening in let xs : List CallRecord = c.calls-calls.result.now in
    let history = subst (IsHistory h.threads) (sym c.calls-calls.ensures.value) c.calls-calls.ensures.history in record {
      judge = subst (λ (o : List ℕ). IsJudgeOf h.threads o [] c.in_ok-judge.judge) c.opening-opening.ensures.value (c.in_ok-judge.ensures.opened h.threads);
      early = λ n low inside. first_early h.threads _ n xs history c.in_ok-judge.ensures.moment inside;
    }

pub add_next-requires : goal.add_next-requires
add_next-requires c =
    let h = c.args.history.now.opening in let xs : List CallRecord = c.calls-calls.result.now in let i = c.loop-call.call-index in
    let history = subst (IsHistory h.threads) (sym c.calls-calls.ensures.value) c.calls-calls.ensures.history in
    next_may h.threads h.keys xs i _ c.loop-call.judge.stream (record_of c.read_as.result) history c.loop-call-test.true c.read_as.ensures.is
    c.loop-call.invariant.judge.stream (c.loop-call.invariant.early i (omega arith) c.loop-call-test.true) c.read_as.ensures.before

pub loop-call-preserved : goal.loop-call-preserved
loop-call-preserved c =
    let h = c.args.history.now.opening in let xs : List CallRecord = c.calls-calls.result.now in let i = c.loop-call.call-index in
    let history = subst (IsHistory h.threads) (sym c.calls-calls.ensures.value) c.calls-calls.ensures.history in
    let more : take (i + 1) xs ≡ _ = take_more xs i _ c.loop-call-test.true in
    let one : map read_as (take (i + 1) xs) ≡ map read_as (take i xs) ++ record_of c.read_as.result ∷ [] =
    ap (map read_as) more ∙ map-append read_as (take i xs) _ ∙ ap (λ (x : CallRecord). map read_as (take i xs) ++ x ∷ []) (sym c.read_as.ensures.is) in record {
      judge = subst (λ (l : List CallRecord). IsJudgeOf h.threads h.keys l c.add_next.new.judge) (sym one)
          (c.in_ok-add_next.ensures.added h.threads h.keys (map read_as (take i xs))
          (next_thread h.threads i _ (record_of c.read_as.result) xs history c.loop-call-test.true c.read_as.ensures.is) c.loop-call.invariant.judge);
      early = λ n low inside. next_early h.threads _ i n _ (record_of c.read_as.result) xs history c.in_ok-add_next.ensures.moment c.read_as.ensures.is
          (omega (arith, low)) inside;
    }

pub returns-in-NotLinearizable : goal.returns-in-NotLinearizable
returns-in-NotLinearizable c =
    let h = c.args.history.now in
    let whole = subst (λ (l : List CallRecord). IsJudgeOf h.opening.threads h.opening.keys (map read_as l) c.loop-call.judge)
    (take_all c.loop-call.call-index c.calls-calls.result.now c.loop-call-test.false ∙ c.calls-calls.ensures.value) c.loop-call.invariant.judge in
    let answer = subst (IsVerdict h.opening.threads h.opening.keys (map read_as h.calls) c.args.keys.now) c.in-NotLinearizable.is
    (c.in_ok-refusal.ensures h.opening.threads h.opening.keys (map read_as h.calls) whole) in (
      (λ quota order e. answer.0.0 quota (map (reread h.calls) order)
          (read_explains (record { threads = h.opening.threads; quota = quota; keys = h.opening.keys }) h.calls order c.args.keys.now e)),
      answer,
    )

pub returns-in-Linearizable : goal.returns-in-Linearizable
returns-in-Linearizable c =
    let h = c.args.history.now in
    let whole = subst (λ (l : List CallRecord). IsJudgeOf h.opening.threads h.opening.keys (map read_as l) c.loop-call.judge)
    (take_all c.loop-call.call-index c.calls-calls.result.now c.loop-call-test.false ∙ c.calls-calls.ensures.value) c.loop-call.invariant.judge in
    let answer = subst (IsVerdict h.opening.threads h.opening.keys (map read_as h.calls) c.args.keys.now) c.in-Linearizable.is
    (c.in_ok-refusal.ensures h.opening.threads h.opening.keys (map read_as h.calls) whole) in
    let plain = recursion_from_All (λ (x : CallRecord). IfSome x.ended (λ (e : ℕ × Reply). is_plain x.call e.1 ≡ true)) h.calls (c.is_plain-plain.ensures.0 (search rules)) in
    subst (λ (l : List CallRecord). IsExplained (stream_history h.opening.threads h.opening.keys l) c.args.keys.now) (plain_read h.calls plain) answer

pub returns-in-Linearizable-2 : goal.returns-in-Linearizable-2
returns-in-Linearizable-2 c =
    let h = c.args.history.now in
    let whole = subst (λ (l : List CallRecord). IsJudgeOf h.opening.threads h.opening.keys (map read_as l) c.loop-call.judge)
    (take_all c.loop-call.call-index c.calls-calls.result.now c.loop-call-test.false ∙ c.calls-calls.ensures.value) c.loop-call.invariant.judge in
    let none : IsPlain h.calls → ⊥ = search rules in (
      none,
      subst (IsVerdict h.opening.threads h.opening.keys (map read_as h.calls) c.args.keys.now) c.in-Linearizable-2.is
          (c.in_ok-refusal.ensures h.opening.threads h.opening.keys (map read_as h.calls) whole),
    )
