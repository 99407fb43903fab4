-- Lemmas about a session that processes its input line by line.
use Rattle.std.proofs.Common.{◌≡◌, ◌≢◌, ℕ, ◌+◌, ◌-◌, ◌<◌, ◌≤◌, Bool, true, false, eqb, List, [], ◌∷◌, ◌++◌, length, Option, Some, None}
use Rattle.std.proofs.Common.{if◌then◌else◌, refl, sym, ap, ◌∙◌, subst, append_assoc, append-nil, arith, length-append, length-take, take}
use Rattle.std.proofs.Common.{drop, get_or, take-append-drop, add-one}
use Rattle.std.proofs.lemmas.Bool.{ne_eqb, lt-ltb, le-ltb}
use Rattle.std.proofs.Math.Seq.{take-suc}
use Rattle.std.proofs.lemmas.List.{map-append}
use Rattle.std.proofs.lemmas.Grind.{flat_map-append}
use Rattle.std.proofs.lemmas.List.Elements.{All-head, All-tail}
use Rattle.std.proofs.lemmas.List.Splits.{slice_split_none, slice_split_at}
use Rattle.std.specs.Io.KnownBytes.{Appends, Consumes, IsAtEnd}
use Rattle.std.proofs.KnownBytes.{Appends-nil, Appends-trans}
use Rattle.lset_text.specs.Parts.{cut_at, Lacks}
use Rattle.lset_text.proofs.PartLaws.{some_part}
use Rattle.lset_words.specs.Records.{Record, CallMade, with_calls}
use Rattle.lset_words.proofs.RecordLaws.{with_calls-append}
use Rattle.lset_session.specs.declared.TheConstants.{LONGEST_LINE, MOST_LINES}
use Rattle.lset_session.specs.declared.sessions.EndReason.{EndReason}
use Rattle.lset_session.specs.declared.sessions.EndReason.TheVariants as why
use Rattle.lset_session.specs.declared.requests.Request.{Request}
use Rattle.lset_session.specs.declared.requests.Request.TheVariants as request
use Rattle.lset_session.specs.Devices.{CutShort, Writes}
use Rattle.lset_session.specs.SessionText.{Turn, line, long, limit, turns_after, turns_at, turns_of, request_of, end_after, end_of}
use Rattle.lset_session.specs.SessionText.{Exchange, made, too_long, at_limit, turn_of, answer_of, call_of, turns_in, answers_in, calls_in}
use Rattle.lset_session.specs.Sessions.{Wrote, text_end, IsSession}
use Rattle.lset_session.specs.SessionSoFar.{WroteSoFar, IsLast, Told, Heard, IsTalk, pending_of, counted, ending}
use Rattle.lset_session.specs.declared.sessions.Talk.{Talk}

-- ---- Lemmas about appending bytes to a text

cut_more : (q x : List ℕ) (xs : List (List ℕ)) (more : List ℕ) → cut_at 10 more ≡ x ∷ xs → Lacks 10 q
    → cut_at 10 (q ++ more) ≡ (q ++ x) ∷ xs
cut_more [] x xs more e lacks = e
cut_more (b ∷ bs) x xs more e lacks =
    let not_it = All-head (λ b. eqb b 10 ≡ false) b bs lacks in
    rw (not_it, cut_more bs x xs more e (All-tail (λ b. eqb b 10 ≡ false) b bs lacks)) refl

long_first : (left : ℕ) (x : List ℕ) (xs : List (List ℕ)) → LONGEST_LINE < length x → turns_at left (x ∷ xs) ≡ long ∷ []
long_first left x [] many = rw (lt-ltb LONGEST_LINE (length x) many) refl
long_first left x (y ∷ ys) many = rw (lt-ltb LONGEST_LINE (length x) many) refl

turns_long : (left : ℕ) (q more : List ℕ) → Lacks 10 q → LONGEST_LINE < length q → turns_at left (cut_at 10 (q ++ more)) ≡ long ∷ []
turns_long left q more lacks many = by_parts (cut_at 10 more) refl (some_part 10 more)
  where
    by_parts : (parts : List (List ℕ)) → cut_at 10 more ≡ parts → 0 < length parts → turns_at left (cut_at 10 (q ++ more)) ≡ long
        ∷ []
    by_parts [] e some = absurd (omega arith)
    by_parts (x ∷ xs) e some =
        ap (turns_at left) (cut_more q x xs more e lacks) ∙ long_first left (q ++ x) xs (omega (arith, many, length-append q x))

pub turns_line : (left : ℕ) (p more : List ℕ) → Lacks 10 p → length p ≤ LONGEST_LINE
    → turns_at left (cut_at 10 (p ++ 10 ∷ more)) ≡ turns_after left (request_of p) (turns_at (left - 1) (cut_at 10 more))
turns_line left p more lacks short = by_parts (cut_at 10 more) refl (some_part 10 more)
  where
    first : cut_at 10 (p ++ 10 ∷ more) ≡ p ∷ cut_at 10 more
    first = slice_split_at (λ b. eqb b 10) p 10 more lacks refl

    by_parts : (parts : List (List ℕ)) → cut_at 10 more ≡ parts → 0 < length parts
        → turns_at left (cut_at 10 (p ++ 10 ∷ more)) ≡ turns_after left (request_of p) (turns_at (left - 1) (cut_at 10 more))
    by_parts [] e some = absurd (omega arith)
    by_parts (y ∷ ys) e some =
        let few = le-ltb LONGEST_LINE (length p) short in
        rw (first, e, few) refl

pub turns_rest : (left : ℕ) (p : List ℕ) → Lacks 10 p → length p ≤ LONGEST_LINE → turns_at left (cut_at 10 (p ++ [])) ≡ []
turns_rest left p lacks short =
    let few = le-ltb LONGEST_LINE (length p) short in
    let one = slice_split_none (λ b. eqb b 10) p lacks in
    rw (append-nil p, one, few) refl

-- ---- Lemmas about the turns of a session

pub turns_quit : (left : ℕ) (e : Exchange) (q : Request) (later : List Turn) → turn_of e ≡ line q → q ≡ request.Quit
    → turns_after left q later ≡ turn_of e ∷ []
turns_quit left e request.Quit later h is = ap (λ (t : Turn). t ∷ []) (sym h)
turns_quit left e q later h is = absurd cc

pub turns_other : (left : ℕ) (e : Exchange) (q : Request) (later : List Turn) → turn_of e ≡ line q → q ≢ request.Quit
    → turns_after left q later ≡ turn_of e ∷ (if eqb left 1 then limit ∷ [] else later)
turns_other left e request.Quit later h other = absurd (other refl)
turns_other left e q later h other = ap (λ (t : Turn). t ∷ (if eqb left 1 then limit ∷ [] else later)) (sym h)

first_turn : (left : ℕ) (e : Exchange) (q : Request) (later : List Turn) → turn_of e ≡ line q
    → (others : List Turn) × (turns_after left q later ≡ turn_of e ∷ others)
first_turn left e request.Quit later h = ([], turns_quit left e request.Quit later h refl)
first_turn left e q later h = (_, turns_other left e q later h (λ bad. absurd cc))

end_quit : (e : Exchange) (q : Request) → turn_of e ≡ line q → q ≡ request.Quit → end_of (turn_of e ∷ []) ≡ why.Quit
end_quit e request.Quit h is = ap (λ t. end_after t why.End) h
end_quit e q h is = absurd cc

end_other : (e : Exchange) (q : Request) (w : EndReason) → turn_of e ≡ line q → q ≢ request.Quit → end_after (turn_of e) w ≡ w
end_other e request.Quit w h other = absurd (other refl)
end_other e q w h other = ap (λ t. end_after t w) h

pub counted_is : (e : Exchange) (q : Request) → turn_of e ≡ line q → length (call_of e) ≡ counted q
counted_is (made c) (request.Call d) h = refl
counted_is (made c) q h = absurd cc
counted_is e (request.Call d) h = absurd cc
counted_is e q h = refl

-- ---- Lemmas about the bytes that the session has processed

told_last : (left left' : ℕ) (bytes p' : List ℕ) (talk : List Exchange) (why : EndReason) (whole : Bool) → IsLast why
    → ((more : List ℕ) → turns_at left (cut_at 10 (bytes ++ more)) ≡ turns_in talk ++ []) → end_of (turns_in talk) ≡ why
    → Told left bytes (ending whole why) left' p' talk
told_last left left' bytes p' talk why true last all end = (last, λ more. ([], all more, λ _. (refl, end)))
told_last left left' bytes p' talk why false last all end = (tt, λ more. ([], all more, λ bad. absurd (bad refl)))

wrote_whole : (w w' w'' : Option (List ℕ)) (s t : List Exchange) → Appends w w' (answers_in s) → Appends w' w'' (answers_in t)
    → Appends w w'' (answers_in (s ++ t))
wrote_whole w w' w'' s t h k =
    subst (Appends w w'') (sym (flat_map-append answer_of s t)) (Appends-trans w w' w'' (answers_in s) (answers_in t) h k)

wrote_one : (w w' : Option (List ℕ)) (e : Exchange) → Appends w w' (answer_of e) → Appends w w' (answers_in (e ∷ []))
wrote_one w w' e wrote = subst (Appends w w') (sym (append-nil (answer_of e))) wrote

wrote_last : (w w' w'' : Option (List ℕ)) (said : List Exchange) (e : Exchange) (why : EndReason) (whole : Bool)
    → (Appends w w'' (answers_in (said ++ e ∷ [])) → Wrote why w w'' (said ++ e ∷ []))
    → Appends w w' (answers_in said) → Writes whole w' w'' (answer_of e) → WroteSoFar (ending whole why) w w'' (said ++ e ∷ [])
wrote_last w w' w'' said e why true is h k = is (wrote_whole w w' w'' said (e ∷ []) h (wrote_one w' w'' e k))
wrote_last w w' w'' said e why false is h (front, b, cut, all, k) =
    (said, e, front, b, cut, refl, all, Appends-trans w w' w'' (answers_in said) front h k)

pub heard_long : (left left' : ℕ) (q p' : List ℕ) (r : Record) (w w' : Option (List ℕ)) (n : ℕ) (whole : Bool) → Lacks 10 q →
    LONGEST_LINE < length q
    → Writes whole w w' (answer_of too_long) → Heard left q (ending whole why.Long) left' p' r r w w' n n
heard_long left left' q p' r w w' n whole lacks many wrote = record {
  talk = too_long ∷ [];
  told = told_last left left' q p' (too_long ∷ []) why.Long whole tt (λ more. turns_long left q more lacks many) refl;
  recorded = refl;
  wrote = wrote_last w w w' [] too_long why.Long whole (λ a. a) (Appends-nil w) wrote;
  count = omega arith;
}

-- Assumptions of the lemmas below: a session in state `t` has read a newline, which completes a line that contains the
-- request `q`. The session answers `q`.
module _ (t : Talk) (talk : IsTalk t) (left' : ℕ) (p' : List ℕ) (r r' : Record) (w w' : Option (List ℕ)) (n' : ℕ)
    (e : Exchange) (q : Request) (asked : q ≡ request_of (pending_of t)) (is : turn_of e ≡ line q)
    (recorded : r' ≡ with_calls r (call_of e)) (count : n' ≡ t.calls + counted q) where
  abbrev said : List ℕ
  said = pending_of t ++ 10 ∷ []

  abbrev later : List ℕ → List Turn
  later more = turns_at (t.left - 1) (cut_at 10 more)

  line_turns : (more : List ℕ) → turns_at t.left (cut_at 10 (said ++ more)) ≡ turns_after t.left q (later more)
  line_turns more =
      let short : length (pending_of t) ≤ LONGEST_LINE = omega (arith, length-take t.len t.line, talk.short) in
      ap (λ b. turns_at t.left (cut_at 10 b)) (append_assoc (pending_of t) (10 ∷ []) more)
      ∙ turns_line t.left (pending_of t) more talk.line short ∙ ap (λ a. turns_after t.left a (later more)) (sym asked)

  one_recorded : r' ≡ with_calls r (call_of e ++ [])
  one_recorded = recorded ∙ ap (with_calls r) (sym (append-nil (call_of e)))

  one_count : n' ≡ t.calls + length (call_of e ++ [])
  one_count = omega (arith, count, counted_is e q is, ap (λ (l : List CallMade). length l) (append-nil (call_of e)))

  pub heard_cut : CutShort w w' (answer_of e) → Heard t.left said (Some why.WriteFault) left' p' r r' w w' t.calls n'
  heard_cut (front, b, cut, all, wrote) = record {
    talk = e ∷ [];
    told = (
      tt,
      λ more.
          let others = first_turn t.left e q (later more) is in
          (others.0, line_turns more ∙ others.1, λ bad. absurd (bad refl)),
    );
    recorded = one_recorded;
    wrote = ([], e, front, b, cut, refl, all, wrote);
    count = one_count;
  }

  pub heard_quit : q ≡ request.Quit → Appends w w' (answer_of e) → Heard t.left said (Some why.Quit) left' p' r r' w w' t.calls n'
  heard_quit quit wrote = record {
    talk = e ∷ [];
    told = told_last t.left left' said p' (e ∷ []) why.Quit true tt (λ more. line_turns more ∙ turns_quit t.left e q _ is quit)
        (end_quit e q is quit);
    recorded = one_recorded;
    wrote = wrote_one w w' e wrote;
    count = one_count;
  }

  pub heard_line : q ≢ request.Quit → 1 < t.left → Appends w w' (answer_of e) →
      Heard t.left said None (t.left - 1) [] r r' w w' t.calls n'
  heard_line other more_lines wrote = record {
    talk = e ∷ [];
    told = (
      end_other e q why.End is other,
      λ more.
          let not_last : eqb t.left 1 ≡ false = ne_eqb t.left 1 (λ one. absurd (omega (arith, one, more_lines))) in
          line_turns more ∙ turns_other t.left e q (later more) is other
          ∙ ap (λ b. turn_of e ∷ (if b then limit ∷ [] else later more)) not_last,
    );
    recorded = one_recorded;
    wrote = wrote_one w w' e wrote;
    count = one_count;
  }

  pub heard_limit : (w'' : Option (List ℕ)) (whole : Bool) → q ≢ request.Quit → t.left ≡ 1 → Appends w w' (answer_of e)
      → Writes whole w' w'' (answer_of at_limit) → Heard t.left said (ending whole why.Limit) left' p' r r' w w'' t.calls n'
  heard_limit w'' whole other last wrote end = record {
    talk = e ∷ at_limit ∷ [];
    told = told_last t.left left' said p' (e ∷ at_limit ∷ []) why.Limit whole tt
        (λ more. line_turns more ∙ turns_other t.left e q _ is other
        ∙ ap (λ b. turn_of e ∷ (if eqb b 1 then limit ∷ [] else later more)) last)
        (end_other e q why.Limit is other);
    recorded = one_recorded;
    wrote = wrote_last w w' w'' (e ∷ []) at_limit why.Limit whole (λ a. a) (wrote_one w w' e wrote) end;
    count = one_count;
  }

-- ---- Lemmas about processing one line after another

end_append : (ts us : List Turn) → end_of ts ≡ why.End → end_of (ts ++ us) ≡ end_of us
end_append [] us h = refl
end_append (line request.Quit ∷ ts) us h = absurd cc
end_append (line q ∷ ts) us h = end_append ts us h
end_append (long ∷ ts) us h = absurd cc
end_append (limit ∷ ts) us h = absurd cc

turns_then : (s t : List Exchange) (rest : List Turn) → turns_in s ++ (turns_in t ++ rest) ≡ turns_in (s ++ t) ++ rest
turns_then s t rest = sym (append_assoc (turns_in s) (turns_in t) rest) ∙ ap (λ l. l ++ rest) (sym (map-append turn_of s t))

end_then : (s t : List Exchange) → end_of (turns_in s) ≡ why.End → end_of (turns_in (s ++ t)) ≡ end_of (turns_in t)
end_then s t h = ap end_of (map-append turn_of s t) ∙ end_append (turns_in s) (turns_in t) h

told_then : (l l' l'' : ℕ) (p p' p'' cs : List ℕ) (o : Option EndReason) (s t : List Exchange) → Told l p None l' p' s →
    Told l' (p' ++ cs) o l'' p'' t
    → Told l (p ++ cs) o l'' p'' (s ++ t)
told_then l l' l'' p p' p'' cs None s t h k = (
  end_then s t h.0 ∙ k.0,
  λ more.
      ap (λ b. turns_at l (cut_at 10 b)) (append_assoc p cs more) ∙ h.1 (cs ++ more)
      ∙ ap (λ b. turns_in s ++ turns_at l' (cut_at 10 b)) (sym (append_assoc p' cs more))
      ∙ ap (λ b. turns_in s ++ b) (k.1 more) ∙ turns_then s t _,
)
told_then l l' l'' p p' p'' cs (Some w) s t h k = (
  k.0,
  λ more.
      let last = k.1 more in (
        last.0,
        ap (λ b. turns_at l (cut_at 10 b)) (append_assoc p cs more) ∙ h.1 (cs ++ more)
            ∙ ap (λ b. turns_in s ++ turns_at l' (cut_at 10 b)) (sym (append_assoc p' cs more))
            ∙ ap (λ b. turns_in s ++ b) last.1 ∙ turns_then s t last.0,
        λ other. ((last.2 other).0, end_then s t h.0 ∙ (last.2 other).1),
      ),
)

wrote_then : (o : Option EndReason) (w w' w'' : Option (List ℕ)) (s t : List Exchange) → Appends w w' (answers_in s) →
    WroteSoFar o w' w'' t → WroteSoFar o w w'' (s ++ t)
wrote_then None w w' w'' s t h k = wrote_whole w w' w'' s t h k
wrote_then (Some why.WriteFault) w w' w'' s t h (said, last, front, b, cut, all, is, k) =
    let others = ap (λ l. s ++ l) all ∙ sym (append_assoc s said (last ∷ [])) in
    let answers = sym (append_assoc (answers_in s) (answers_in said) front)
    ∙ ap (λ l. l ++ front) (sym (flat_map-append answer_of s said)) in
    let whole = Appends-trans w w' w'' (answers_in s) (answers_in said ++ front) h k in
    (s ++ said, last, front, b, cut, others, is, subst (Appends w w'') answers whole)
wrote_then (Some o) w w' w'' s t h k = wrote_whole w w' w'' s t h k

pub heard_then : (l l' l'' : ℕ) (p p' p'' cs : List ℕ) (o : Option EndReason) (r r' r'' : Record) (w w' w'' : Option (List ℕ))
    (n n' n'' : ℕ)
    → Heard l p None l' p' r r' w w' n n' → Heard l' (p' ++ cs) o l'' p'' r' r'' w' w'' n' n'' →
    Heard l (p ++ cs) o l'' p'' r r'' w w'' n n''
heard_then l l' l'' p p' p'' cs o r r' r'' w w' w'' n n' n'' h k = record {
  talk = h.talk ++ k.talk;
  told = told_then l l' l'' p p' p'' cs o h.talk k.talk h.told k.told;
  recorded = k.recorded ∙ ap (λ (q : Record). with_calls q (calls_in k.talk)) h.recorded
      ∙ sym (with_calls-append r (calls_in h.talk) (calls_in k.talk))
      ∙ ap (with_calls r) (sym (flat_map-append call_of h.talk k.talk));
  wrote = wrote_then o w w' w'' h.talk k.talk h.wrote k.wrote;
  count = omega (arith, h.count, k.count, calls);
}
  where
    calls : length (calls_in (h.talk ++ k.talk)) ≡ length (calls_in h.talk) + length (calls_in k.talk)
    calls = ap (λ (l : List CallMade). length l) (flat_map-append call_of h.talk k.talk)
        ∙ length-append (calls_in h.talk) (calls_in k.talk)

-- ---- Lemmas about processing the bytes of a single read

pub heard_byte : (l l' l'' : ℕ) (p p' p'' xs : List ℕ) (i : ℕ) (o : Option EndReason) (r r' r'' : Record) (w w' w'' : Option (List ℕ))
    (n n' n'' : ℕ)
    → i < length xs → Heard l (p ++ take i xs) None l' p' r r' w w' n n' →
    Heard l' (p' ++ get_or xs i 0 ∷ []) o l'' p'' r' r'' w' w'' n' n''
    → Heard l (p ++ take (i + 1) xs) o l'' p'' r r'' w w'' n n''
heard_byte l l' l'' p p' p'' xs i o r r' r'' w w' w'' n n' n'' lt h k =
    let regrouped : (p ++ take i xs) ++ get_or xs i 0 ∷ [] ≡ p ++ take (i + 1) xs =
    append_assoc p (take i xs) (get_or xs i 0 ∷ [])
    ∙ ap (λ t. p ++ t) (sym (take-suc xs i 0 lt) ∙ ap (λ j. take j xs) (sym (add-one i))) in
    subst (λ t. Heard l t o l'' p'' r r'' w w'' n n'') regrouped
    (heard_then l l' l'' (p ++ take i xs) p' p'' (get_or xs i 0 ∷ []) o r r' r'' w w' w'' n n' n'' h k)

pub heard_rest : (l l' : ℕ) (p p' xs : List ℕ) (i : ℕ) (end : EndReason) (r r' : Record) (w w' : Option (List ℕ)) (n n' : ℕ)
    → Heard l (p ++ take i xs) (Some end) l' p' r r' w w' n n' → Heard l (p ++ xs) (Some end) l' p' r r' w w' n n'
heard_rest l l' p p' xs i end r r' w w' n n' h = record {
  talk = h.talk;
  told = (
    h.told.0,
    λ more.
        let last = h.told.1 (drop i xs ++ more) in
        (last.0, ap (λ b. turns_at l (cut_at 10 b)) (regrouped more) ∙ last.1, last.2),
  );
  recorded = h.recorded;
  wrote = h.wrote;
  count = h.count;
}
  where
    regrouped : (more : List ℕ) → (p ++ xs) ++ more ≡ (p ++ take i xs) ++ (drop i xs ++ more)
    regrouped more = ap (λ t. (p ++ t) ++ more) (sym (take-append-drop i xs))
        ∙ ap (λ t. t ++ more) (sym (append_assoc p (take i xs) (drop i xs))) ∙ append_assoc (p ++ take i xs) (drop i xs) more

-- ---- Lemmas about the end of the input

pub spoken_rest : (end : EndReason) (bytes : List ℕ) (t : Talk) (r r' : Record) (s s' w w' : Option (List ℕ)) → IsTalk t
    → ((talk : List Exchange) → Appends w w' (answers_in talk) → Wrote end w w' talk) → why.End ≡ text_end end
    → (end ≡ why.End → IsAtEnd s') → Consumes s s' bytes →
    Heard MOST_LINES bytes None t.left (pending_of t) r r' w w' 0 t.calls
    → IsSession end t.calls s s' r r' w w'
unfolding turns_of
spoken_rest end bytes t r r' s s' w w' is wrote at_end drained read h =
    let short : length (pending_of t) ≤ LONGEST_LINE = omega (arith, length-take t.len t.line, is.short) in
    let all : turns_of bytes ≡ turns_in h.talk =
    ap (λ b. turns_at MOST_LINES (cut_at 10 b)) (sym (append-nil bytes)) ∙ h.told.1 []
    ∙ ap (λ t. turns_in h.talk ++ t) (turns_rest t.left (pending_of t) is.line short)
    ∙ append-nil (turns_in h.talk) in
    record {
      bytes = bytes;
      talk = h.talk;
      read = read;
      recorded = h.recorded;
      count = omega (arith, h.count);
      wrote = wrote h.talk h.wrote;
      turns = ([], all ∙ sym (append-nil (turns_in h.talk)), λ _. refl);
      ends = λ _. ap end_of all ∙ h.told.0 ∙ at_end;
      drained = drained;
    }

pub spoken_last : (end : EndReason) (bytes : List ℕ) (left : ℕ) (p : List ℕ) (r r' : Record) (s s' w w' : Option (List ℕ)) (n : ℕ)
    → Consumes s s' bytes → Heard MOST_LINES bytes (Some end) left p r r' w w' 0 n → IsSession end n s s' r r' w w'
unfolding turns_of
spoken_last end bytes left p r r' s s' w w' n read h =
    let last = h.told.1 [] in
    let all : turns_of bytes ≡ turns_in h.talk ++ last.0 = ap (λ b. turns_at MOST_LINES (cut_at 10 b)) (sym (append-nil bytes))
    ∙ last.1 in
    record {
      bytes = bytes;
      talk = h.talk;
      read = read;
      recorded = h.recorded;
      count = omega (arith, h.count);
      wrote = h.wrote;
      turns = (last.0, all, λ other. (last.2 other).0);
      ends = λ other. ap end_of (all ∙ ap (λ t. turns_in h.talk ++ t) (last.2 other).0 ∙ append-nil (turns_in h.talk))
          ∙ (last.2 other).1 ∙ itself end h.told.0;
      drained = λ is. absurd (not_end end h.told.0 is);
    }
  where
    not_end : (end : EndReason) → IsLast end → end ≡ why.End → ⊥
    not_end end l is = subst IsLast is l

    itself : (end : EndReason) → IsLast end → end ≡ text_end end
    itself why.End l = absurd l
    itself why.ReadFault l = absurd l
    itself end l = refl
