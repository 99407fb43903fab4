-- Proof: the calls of a run form a history.
use Rattle.std.proofs.Common.{◌≡◌, ◌≢◌, ℕ, ◌<◌, ◌≤◌, Some, length, map, arith}
use Rattle.std.specs.Prelude.{IfSome}
use Rattle.std.proofs.lemmas.List.{length-map, get_or-map}
use Rattle.std.proofs.lemmas.List.Elements.{All-map}
use Rattle.lset_words.specs.declared.Reply.{Reply}
use Rattle.lset_words.specs.History.{IsCall, Follows, IsHistory}
use Rattle.lset_words.specs.Log.{Log, TracedCall, calls_at, history_at, record_of}
use Rattle.lset_words.specs.Account.{Contents, Counts, Account}
use Rattle.lset_words.specs.Words.{Opening}
use Rattle.lset_history.specs.Placement.{no_traced}
use Rattle.lset_history.proofs.Calls.{Run, EndAt, Traced, Later, Calls, if_some, run_of, calls_of}

module _ (r : Run) (k : ℕ) where
  is_call : (x : TracedCall) → Traced r k x → IsCall r.threads (record_of x)
  is_call x t = record {
    of_a_thread = t.of_a_thread;
    counted = omega (arith, t.begins.is);
    ends_later = if_some x.ended (λ e. x.begun < e.0) (λ e i. (t.ends e.0 e.1 i).1.later);
  }

  end_no_beginning : (x y : TracedCall) (e : ℕ × Reply) → Traced r k x → EndAt r y.thread y.call y.begun y.changed e.0 e.1
      → e.0 ≢ x.begun
  end_no_beginning x y e t d f = cc

  ends_apart : (x y : TracedCall) (e d : ℕ × Reply) → Later y x → y.ended ≡ Some d
      → EndAt r x.thread x.call x.begun x.changed e.0 e.1 → EndAt r y.thread y.call y.begun y.changed d.0 d.1 → e.0 ≢ d.0
  ends_apart x y e d l n p q f = grind arith

  follows : (y x : TracedCall) → Traced r k y → Traced r k x → Later y x → Follows (record_of y) (record_of x)
  follows y x u t l = record {
    increasing = l.begins;
    begins_alone = if_some y.ended (λ e. e.0 ≢ x.begun) (λ e i. end_no_beginning x y e t (u.ends e.0 e.1 i).1);
    ends_alone = if_some x.ended (λ e. (e.0 ≢ y.begun) × IfSome y.ended (λ (d : ℕ × Reply). e.0 ≢ d.0)) (λ e i. let p = (t.ends e.0 e.1 i).1 in (
      λ f. omega (arith, p.later, l.begins),
      if_some y.ended (λ d. e.0 ≢ d.0) (λ d j. ends_apart x y e d l j p (u.ends d.0 d.1 j).1),
    ));
    none_open = l.one_thread;
  }

pub is_history : (op : Opening) (last : ℕ) (log : Log) (contents : Contents) (counts : Counts)
    → Account op last log contents counts → (k : ℕ) → k ≤ last → IsHistory op.threads (history_at log k)
is_history op last log contents counts a k l =
    let r : Run = run_of op.threads op.quota log contents counts in
    let xs = calls_at log k in
    let c : Calls r k xs = calls_of op last log contents counts a k l in
    let low : (i : ℕ) → i < length (map record_of xs) → i < length xs = λ i m. omega (arith, length-map xs record_of) in
    record {
      each = All-map (IsCall op.threads) record_of xs (λ i d m. is_call r k _ (c.each i d m));
      pairs = λ i j d n m. let g = low j m in
          rw (get_or-map record_of xs i no_traced d (omega arith), get_or-map record_of xs j no_traced d g)
          (follows r k _ _ (c.each i no_traced (omega arith)) (c.each j no_traced g) (c.pairs i j no_traced n g));
    }
