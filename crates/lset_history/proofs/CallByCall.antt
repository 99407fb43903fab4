-- Lemmas about how a history grows: a history without calls, a prefix of a history, and a history after a call begins
-- or ends.
use Rattle.std.proofs.Common.{◌≡◌, ℕ, ◌<◌, ◌≢◌, List, [], ◌∷◌, ◌++◌, length, get_or, Option, Some, None, subst, arith}
use Rattle.std.proofs.Common.{length-append}
use Rattle.std.proofs.Math.Seq.{get_or-append_seam}
use Rattle.std.specs.Option.{IfSome, IsSomeAnd}
use Rattle.std.proofs.Math.ListN.{set}
use Rattle.std.proofs.lemmas.List.{get_or_append_left}
use Rattle.std.proofs.lemmas.List.Elements.{All-push, All-set}
use Rattle.std.proofs.lemmas.List.Quantifiers.{all_pairs_push}
use Rattle.lset_words.specs.declared.Reply.{Reply}
use Rattle.lset_words.specs.declared.history.CallRecord.{CallRecord}
use Rattle.lset_words.specs.History.{IsCall, Follows, MayFollow, IsHistory, call_numbered, no_call}
use Rattle.lset_history.specs.History.{IsLater, IsOpen, ended_with}
use Rattle.lset_history.proofs.Pairs.{pairs_set}

pub empty_history : (threads : ℕ) → IsHistory threads []
empty_history threads = record { each = λ k d b. absurd (omega arith); pairs = λ i j d a b. absurd (omega arith) }

pub history_front : (threads : ℕ) (xs ys : List CallRecord) → IsHistory threads (xs ++ ys) → IsHistory threads xs
history_front threads xs ys h = record {
  each = λ k d b. subst (IsCall threads) (get_or_append_left xs ys d k b) (h.each k d (longer k b));
  pairs = λ i j d a b. subst (Follows (get_or xs i d)) (get_or_append_left xs ys d j b)
      (subst (λ y. Follows y (get_or (xs ++ ys) j d)) (get_or_append_left xs ys d i (omega arith)) (h.pairs i j d a (longer j b)));
}
  where
    longer : (k : ℕ) → k < length xs → k < length (xs ++ ys)
    longer k b = omega (arith, length-append xs ys)

pub may_follow_at : (threads : ℕ) (front more : List CallRecord) (x : CallRecord)
    → IsHistory threads (front ++ x ∷ more) → MayFollow threads front x
may_follow_at threads front more x h = record {
  call = subst (IsCall threads) (get_or-append_seam front x more no_call) (h.each (length front) no_call low);
  follows = λ k d b. subst (Follows (get_or front k d)) (get_or-append_seam front x more d)
      (subst (λ y. Follows y (get_or (front ++ x ∷ more) (length front) d)) (get_or_append_left front (x ∷ more) d k b)
      (h.pairs k (length front) d b low));
}
  where
    low : length front < length (front ++ x ∷ more)
    low = omega (arith, length-append front (x ∷ more))

pub history_begun : (threads : ℕ) (calls : List CallRecord) (x : CallRecord)
    → IsHistory threads calls → MayFollow threads calls x → IsHistory threads (calls ++ x ∷ [])
history_begun threads calls x h may = record {
  each = All-push (IsCall threads) calls x h.each may.call;
  pairs = all_pairs_push Follows calls x h.pairs may.follows;
}

-- ---- Lemmas about the end of a pending call
later_than : (o : Option (ℕ × Reply)) (at : ℕ) → IfSome o (λ (e : ℕ × Reply). e.0 < at) → IfSome o (λ (e : ℕ × Reply). at ≢ e.0)
later_than None at h = tt
later_than (Some e) at h = λ same. omega arith

no_longer : (o : Option (ℕ × Reply)) (begun at : ℕ) → IfSome o (λ (e : ℕ × Reply). e.0 < at)
    → IfSome o (λ (e : ℕ × Reply). e.0 ≢ begun) → IfSome o (λ (e : ℕ × Reply). (e.0 ≢ begun) × (e.0 ≢ at))
no_longer None begun at h b = tt
no_longer (Some e) begun at h b = (b, λ same. omega arith)

not_begun : (o : Option (ℕ × Reply)) (begun : ℕ) (P : ℕ × Reply → Type 0)
    → IfSome o (λ (e : ℕ × Reply). (e.0 ≢ begun) × P e) → IfSome o (λ (e : ℕ × Reply). e.0 ≢ begun)
not_begun None begun P h = tt
not_begun (Some e) begun P h = h.0

pub never_ended : (o : Option (ℕ × Reply)) (P : ℕ × Reply → Type 0) → o ≡ None → IsSomeAnd o P → ⊥
never_ended None P e h = h
never_ended (Some x) P e h = cc

pub history_ended : (threads : ℕ) (calls : List CallRecord) (n at : ℕ) (reply : Reply)
    → IsHistory threads calls → IsOpen calls n → IsLater calls at
    → IsHistory threads (set calls n (ended_with (call_numbered calls n) (at, reply)))
history_ended threads calls n at reply h still later = record {
  each = All-set (IsCall threads) calls n z ended h.each;
  pairs = pairs_set Follows calls n z no_call still.known before after h.pairs;
}
  where
    x : CallRecord
    x = call_numbered calls n

    z : CallRecord
    z = ended_with x (at, reply)

    old : IsCall threads x
    old = h.each n no_call still.known

    ended : IsCall threads z
    ended = record { of_a_thread = old.of_a_thread; counted = old.counted; ends_later = later.begins n no_call still.known }

    before : (k : ℕ) → k < n → Follows (get_or calls k no_call) z
    before k b =
        let known = still.known in
        let f : Follows (get_or calls k no_call) x = h.pairs k n no_call b known in
        let low : k < length calls = omega arith in
        let begun = later.begins k no_call low in
        record {
          increasing = f.increasing;
          begins_alone = f.begins_alone;
          ends_alone = (λ same. omega arith, later_than _ at (later.ends k no_call low));
          none_open = f.none_open;
        }

    after : (k : ℕ) → n < k → k < length calls → Follows z (get_or calls k no_call)
    after k b low =
        let f : Follows x (get_or calls k no_call) = h.pairs n k no_call b low in
        let begun = later.begins k no_call low in
        record {
          increasing = f.increasing;
          begins_alone = λ same. omega arith;
          ends_alone = no_longer _ _ at (later.ends k no_call low) (not_begun _ _ _ f.ends_alone);
          none_open = λ same. absurd (never_ended x.ended _ still.not_ended (f.none_open same));
        }
