use Rattle.std.proofs.Common.{◌≡◌, inl, inr, ℕ, ◌+◌, ◌≤◌, true, cond, List, ◌∷◌, ◌++◌, length, Some, Result, Ok, Err, refl, sym, ap, ◌∙◌, codes, arith, append_assoc, length-append}
use Rattle.std.specs.Prelude.{nat_lt}
use Rattle.std.proofs.lemmas.Bool.{le-ltb}
use Rattle.std.proofs.lemmas.Fmt.{length-decimal-le}
use Rattle.std.specs.Fmt.{decimal}
use Rattle.lset_words.specs.declared.Reply.{Reply}
use Rattle.lset_words.specs.declared.Reply.TheVariants as reply
use Rattle.lset_text.specs.declared.words.CallWord.{CallWord}
use Rattle.lset_text.specs.declared.words.CallWord.TheVariants as word
use Rattle.lset_text.specs.declared.words.Version.TheVariants.{One}
use Rattle.lset_text.specs.Parts.{line_of}
use Rattle.lset_text.specs.Kinds.{line_in}
use Rattle.lset_text.specs.Numbers.{max_number}
use Rattle.lset_text.specs.Spellings.{call_word_text, reply_text, with_key, HasWord}
use Rattle.lset_text.proofs.KindLaws.{IsMade, line_made}
use Rattle.lset_text.specs.declared.causes.Cause.TheVariants as wrong
use Rattle.lset_judge.specs.declared.stream.StreamCall.{StreamCall}
use Rattle.lset_judge.specs.declared.stream.TheConstants.{LAST_MOMENT}
use Rattle.lset_judge.specs.Verdict.{is_truth}
use Rattle.lset_recording.specs.declared.recording_lines.Line.TheVariants as told
use Rattle.lset_recording.specs.declared.recording_lines.Section.{Section}
use Rattle.lset_recording.specs.declared.recording_lines.Section.TheVariants as section
use Rattle.lset_recording.specs.declared.recording_lines.TheConstants.{LONGEST_LINE}
use Rattle.lset_recording.specs.Reading.{kinds, from_calls, line_told, takes_calls}
use Rattle.lset_recording.proofs.LineKinds.{IsMoment, IsLineIn, kinds_known, line_pieces}
use Rattle.lset_recording.proofs.quick.quick_call.Goals as goal

-- A completed call with the given values, and the text of its line.
module _ (n k b e : ℕ) (w : CallWord) (r : Reply) where
  abbrev pub ended_call : StreamCall
  ended_call = record { thread = n; call = with_key w (record { 0 = k }); begun = b; ended = Some (e, r) }

  abbrev pub ended_line : List ℕ
  ended_line =
      codes "call " ++ (decimal n ++ 32 ∷ (call_word_text w ++ 32 ∷ (decimal k ++ 32 ∷ (decimal b ++ 32 ∷ (decimal e ++ 32 ∷ reply_text r)))))

made : (n k b e : ℕ) (w : CallWord) (r : Reply) → n ≤ max_number → k ≤ max_number → HasWord One w → IsMoment b → IsMoment e
    → is_truth r ≡ true → IsMade One line_pieces from_calls (told.Call (ended_call n k b e w r))
made n k b e w reply.True nl kl has bl el truth =
    inr (refl, inl ((tt, (n, (w, (k, (b, (e, (tt, tt))))))), refl, (tt, ((omega arith, nl), (has, ((omega arith, kl), (bl, (el, (tt, tt)))))))))
made n k b e w reply.False nl kl has bl el truth =
    inr (
      refl,
      inr (
        refl,
        inl (
          (tt, (n, (w, (k, (b, (e, (tt, tt))))))),
          refl,
          (tt, ((omega arith, nl), (has, ((omega arith, kl), (bl, (el, (tt, tt))))))),
        ),
      ),
    )
made n k b e w r nl kl has bl el truth = absurd cc

spelled : (n k b e : ℕ) (w : CallWord) (r : Reply) → ended_line n k b e w r ≡ line_of (line_pieces (told.Call (ended_call n k b e w r)))
spelled n k b e word.Add r = refl
spelled n k b e w r = refl

word_few : (w : CallWord) → length (call_word_text w) ≤ 8
word_few word.Add = let long : length (codes "add") ≡ 3 = refl in omega (arith, long)
word_few word.Remove = let long : length (codes "remove") ≡ 6 = refl in omega (arith, long)
word_few word.Contains = let long : length (codes "contains") ≡ 8 = refl in omega (arith, long)
word_few word.Ceiling = let long : length (codes "ceiling") ≡ 7 = refl in omega (arith, long)

reply_few : (r : Reply) → is_truth r ≡ true → length (reply_text r) ≤ 5
reply_few reply.True truth = let long : length (codes "true") ≡ 4 = refl in omega (arith, long)
reply_few reply.False truth = let long : length (codes "false") ≡ 5 = refl in omega (arith, long)
reply_few r truth = absurd cc

field_more : (field more : List ℕ) (a b : ℕ) → length field ≤ a → length more ≤ b → length (field ++ 32 ∷ more) ≤ a + 1 + b
field_more field more a b few others = let long = length-append field (32 ∷ more) in omega (arith, long, few, others)

number_few : (n : ℕ) → n ≤ LAST_MOMENT → length (decimal n) ≤ 19
number_few n low = length-decimal-le 19 n (omega arith) (omega (arith, low)) (omega (arith, low))

line_few : (n k b e : ℕ) (w : CallWord) (r : Reply) → n ≤ max_number → k ≤ max_number → IsMoment b → IsMoment e → is_truth r ≡ true
    → length (ended_line n k b e w r) ≤ LONGEST_LINE
line_few n k b e w r nl kl bl el truth =
    let of_end = field_more (decimal e) (reply_text r) 19 5 (number_few e el.1) (reply_few r truth) in
    let of_begun = field_more (decimal b) _ 19 25 (number_few b bl.1) of_end in
    let of_key = field_more (decimal k) _ 19 45 (number_few k (omega (arith, kl))) of_begun in
    let of_word = field_more (call_word_text w) _ 8 65 (word_few w) of_key in
    let of_thread = field_more (decimal n) _ 19 74 (number_few n (omega (arith, nl))) of_word in
    let word : length (codes "call ") ≡ 5 = refl in
    let all = length-append (codes "call ") (decimal n ++ 32 ∷ (call_word_text w ++ 32 ∷ (decimal k ++ 32 ∷ (decimal b ++ 32 ∷ (decimal e ++ 32 ∷ reply_text r))))) in
    omega (arith, of_thread, word, all)

not_long : {A E : Type 0} (many : ℕ) (e : E) (r : Result A E) (x : A) → many ≤ LONGEST_LINE → r ≡ Ok x
    → cond (nat_lt LONGEST_LINE many) (Err e) r ≡ Ok x
not_long many e r x few is = rw (le-ltb LONGEST_LINE many few) is

ended_line_told : (s : Section) (n k b e : ℕ) (w : CallWord) (r : Reply) → takes_calls s ≡ true → n ≤ max_number → k ≤ max_number
    → HasWord One w → IsMoment b → IsMoment e → is_truth r ≡ true
    → line_told s (ended_line n k b e w r) ≡ Ok (told.Call (ended_call n k b e w r))
ended_line_told s n k b e w r takes nl kl has bl el truth = in_section s takes
  where
    in_kinds : (s : Section) → IsMade One line_pieces (kinds s) (told.Call (ended_call n k b e w r))
        → cond (nat_lt LONGEST_LINE (length (ended_line n k b e w r))) (Err wrong.Line) (line_in One wrong.Line (kinds s) (ended_line n k b e w r))
        ≡ Ok (told.Call (ended_call n k b e w r))
    in_kinds s is =
        not_long (length (ended_line n k b e w r)) wrong.Line (line_in One wrong.Line (kinds s) (ended_line n k b e w r))
        (told.Call (ended_call n k b e w r)) (line_few n k b e w r nl kl bl el truth)
        (ap (line_in One wrong.Line (kinds s)) (spelled n k b e w r)
        ∙ line_made One wrong.Line line_pieces (IsLineIn s) (kinds s) (told.Call (ended_call n k b e w r)) (kinds_known s) is)

    in_section : (s : Section) → takes_calls s ≡ true → line_told s (ended_line n k b e w r) ≡ Ok (told.Call (ended_call n k b e w r))
    in_section section.Opening takes = in_kinds section.Opening (inr (refl, made n k b e w r nl kl has bl el truth))
    in_section section.Calls takes = in_kinds section.Calls (made n k b e w r nl kl has bl el truth)
    in_section s takes = absurd cc

ended_then : (n k b e : ℕ) (w : CallWord) (r : Reply) (rest : List ℕ)
    → codes "call " ++ (decimal n ++ 32 ∷ (call_word_text w ++ 32 ∷ (decimal k ++ 32 ∷ (decimal b ++ 32 ∷ (decimal e ++ 32 ∷ (reply_text r ++ rest))))))
    ≡ ended_line n k b e w r ++ rest
ended_then n k b e w r rest = sym (simp append_assoc)

pub returns : goal.returns
returns c = (
  ended_line c.in_ok-thread.thread c.in_ok-key.key c.in_ok-begun.begun c.in_ok-end.end c.in_ok-word.word c.in_ok-reply.reply,
  rw (
    c.in_ok-rest.ensures,
    c.in_ok-thread.ensures.0,
    c.in_ok-word.ensures.0,
    c.in_ok-key.ensures.0,
    c.in_ok-begun.ensures.0,
    c.in_ok-end.ensures.0,
    c.in_ok-reply.ensures.0,
  )
      (ended_then c.in_ok-thread.thread c.in_ok-key.key c.in_ok-begun.begun c.in_ok-end.end c.in_ok-word.word c.in_ok-reply.reply c.in_ok-reply.rest.now),
  λ section takes. rw c.with_key.ensures
      (ended_line_told section c.in_ok-thread.thread c.in_ok-key.key c.in_ok-begun.begun c.in_ok-end.end c.in_ok-word.word c.in_ok-reply.reply
      takes c.in_ok-thread.ensures.1 c.in_ok-key.ensures.1 c.in_ok-word.ensures.1
      (c.in_ok-begun.ensures.1, c.in_ok-begun.ensures.2) (c.in_ok-end.ensures.1, c.in_ok-end.ensures.2) c.in_ok-reply.ensures.1),
)
