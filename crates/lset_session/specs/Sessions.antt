-- [Session]: the calls and the answers of a session that has ended.
use Rattle.std.specs.Prelude.{◌≡◌, ◌≢◌, ℕ, List, [], ◌∷◌, ◌++◌, length, Option}
use Rattle.std.specs.Io.KnownBytes.{Appends, Consumes, IsAtEnd}
use Rattle.lset_words.specs.Records.{Record, with_calls}
use Rattle.lset_session.specs.declared.sessions.EndReason.{EndReason}
use Rattle.lset_session.specs.declared.sessions.EndReason.TheVariants as why
use Rattle.lset_session.specs.SessionText.{Turn, turns_of, end_of, Exchange, turns_in, answers_in, calls_in, answer_of}

-- Holds if all answers except the last were written completely, and only a proper prefix of the last answer was
-- written.
abbrev pub CutAnswers : Option (List ℕ) → Option (List ℕ) → List Exchange → Type 0
CutAnswers w w' talk =
    (said : List Exchange) × (last : Exchange) × (front : List ℕ) × (b : ℕ) × (cut : List ℕ)
    × (talk ≡ said ++ last ∷ []) × (answer_of last ≡ front ++ b ∷ cut) × Appends w w' (answers_in said ++ front)

-- Holds if a session that ended for the given reason has written the answers in `talk`. If a write failed, all answers
-- except the last were written completely. Otherwise, all of them were.
abbrev pub Wrote : EndReason → Option (List ℕ) → Option (List ℕ) → List Exchange → Type 0
Wrote why.WriteFault w w' talk = CutAnswers w w' talk
Wrote end w w' talk = Appends w w' (answers_in talk)

-- Returns the reason why a session ended, as far as it follows from the bytes read. A failed read leaves no trace in
-- the bytes, so the result for `ReadFault` is `End`. Any other reason is returned unchanged.
abbrev pub text_end : EndReason → EndReason
text_end why.ReadFault = why.End
text_end end = end

-- Holds if a session has ended for the reason `end` after `calls` calls. The session changed the remaining input from
-- `s` to `s'`, its record (the calls made, with their replies) from `r` to `r'`, and the bytes written to its client
-- from `w` to `w'`.
pub record IsSession (end : EndReason) (calls : ℕ) (s s' : Option (List ℕ)) (r r' : Record) (w w' : Option (List ℕ)) : Type 0 where
  -- The bytes that the session has read. `talk` lists the turns of the session (its lines, and the notice that the
  -- limit of lines is reached) with their answers.
  pub bytes : List ℕ
  pub talk : List Exchange
  pub read : Consumes s s' bytes
  -- The turns in `talk` are the first turns of `bytes`. If no write has failed, they are all the turns of `bytes`.
  pub turns : (later : List Turn) × (turns_of bytes ≡ turns_in talk ++ later) × (end ≢ why.WriteFault → later ≡ [])
  pub recorded : r' ≡ with_calls r (calls_in talk)
  pub count : calls ≡ length (calls_in talk)
  pub wrote : Wrote end w w' talk
  -- If no write has failed, `bytes` as a complete input ends a session for the reason `end` or, if a read has failed,
  -- for the reason `End`.
  pub ends : end ≢ why.WriteFault → end_of (turns_of bytes) ≡ text_end end
  pub drained : end ≡ why.End → IsAtEnd s'
