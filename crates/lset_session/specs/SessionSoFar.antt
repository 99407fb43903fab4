-- Definitions about a session that has processed only a prefix of its input, for the contracts of the functions that
-- `session` calls.
use Rattle.std.specs.Prelude.{◌≡◌, ◌≢◌, ℕ, ◌+◌, ◌*◌, ◌<◌, ◌≤◌, List, [], ◌++◌, take, length, Option, Some, None, Bool, true}
use Rattle.std.specs.Prelude.{false, if◌then◌else◌}
use Rattle.std.specs.Io.KnownBytes.{Appends}
use Rattle.lset_text.specs.Parts.{cut_at, Lacks}
use Rattle.lset_words.specs.Records.{Record, with_calls}
use Rattle.lset_session.specs.declared.TheConstants.{LONGEST_LINE, MOST_LINES}
use Rattle.lset_session.specs.declared.sessions.EndReason.{EndReason}
use Rattle.lset_session.specs.declared.sessions.EndReason.TheVariants as why
use Rattle.lset_session.specs.declared.sessions.Talk.{Talk}
use Rattle.lset_session.specs.declared.requests.Request.{Request}
use Rattle.lset_session.specs.declared.requests.Request.TheVariants as request
use Rattle.lset_session.specs.SessionText.{Turn, turns_at, end_of, Exchange, turns_in, answers_in, calls_in}
use Rattle.lset_session.specs.Sessions.{Wrote}

-- Holds if a session has written the answers in `talk`. The first argument is `None` if the session continues, and
-- `Some end` if the session has ended for the reason `end`. If `end` is `WriteFault`, the last answer is incomplete.
abbrev pub WroteSoFar : Option EndReason → Option (List ℕ) → Option (List ℕ) → List Exchange → Type 0
WroteSoFar None w w' talk = Appends w w' (answers_in talk)
WroteSoFar (Some end) w w' talk = Wrote end w w' talk

-- Holds if a session can end for the given reason while it processes bytes. All reasons qualify except `End` and
-- `ReadFault`.
abbrev pub IsLast : EndReason → Type 0
IsLast why.End = ⊥
IsLast why.ReadFault = ⊥
IsLast end = Unit {0}

-- Holds if the turns in `talk` are the first turns of the input `bytes`. (A turn is a line that the session answers, or
-- the notice that the session has reached its limit of lines.) If the session has not ended, the remaining turns come
-- from `pending` (the bytes of the incomplete line) followed by the rest of the input.
abbrev pub Told : ℕ → List ℕ → Option EndReason → ℕ → List ℕ → List Exchange → Type 0
Told left bytes None left' pending talk =
    (end_of (turns_in talk) ≡ why.End)
    × ((more : List ℕ) → turns_at left (cut_at 10 (bytes ++ more)) ≡ turns_in talk
    ++ turns_at left' (cut_at 10 (pending ++ more)))
Told left bytes (Some w) left' pending talk =
    IsLast w × ((more : List ℕ) → (later : List Turn) × (turns_at left (cut_at 10 (bytes ++ more)) ≡ turns_in talk ++ later)
    × (w ≢ why.WriteFault → (later ≡ []) × (end_of (turns_in talk) ≡ w)))

-- Holds if a session has processed `bytes`. `o` is `None` if the session continues, and otherwise contains the reason
-- why the session ended. The session could answer `left` lines before it processed `bytes`, and can answer `left'`
-- lines afterwards. The field `talk` contains the calls and answers.
pub record Heard (left : ℕ) (bytes : List ℕ) (o : Option EndReason) (left' : ℕ) (pending : List ℕ) (r r' : Record)
    (w w' : Option (List ℕ)) (calls calls' : ℕ) : Type 0 where
  pub talk : List Exchange
  pub told : Told left bytes o left' pending talk
  pub recorded : r' ≡ with_calls r (calls_in talk)
  pub wrote : WroteSoFar o w w' talk
  pub count : calls' ≡ calls + length (calls_in talk)

-- Returns the bytes of the current, incomplete line.
abbrev pub pending_of : Talk → List ℕ
pending_of t = take t.len t.line

-- The invariant of a session that has not ended: the current line has at most `LONGEST_LINE` bytes and no newline, and
-- the session can answer at least one line.
pub record IsTalk (t : Talk) : Type 0 where
  pub room : length t.line ≡ LONGEST_LINE
  pub short : t.len ≤ LONGEST_LINE
  pub line : Lacks 10 (pending_of t)
  pub more : 0 < t.left
  pub few : t.calls + t.left ≤ MOST_LINES

-- Holds if state `u` is at least `n` bytes nearer to the end of the session than state `t`. The distance to the end is
-- (LONGEST_LINE + 1) * left - len, an upper bound on the number of bytes that the session can still process.
abbrev pub Nearer : Talk → Talk → ℕ → Type 0
Nearer t u n = (LONGEST_LINE + 1) * u.left + t.len + n ≤ (LONGEST_LINE + 1) * t.left + u.len

-- Holds if the session has processed the given bytes. Processing them changed the session from state `t` to `u`, its
-- record (the calls made, with their replies) from `r` to `r'`, and the bytes written from `w` to `w'`.
abbrev pub Hears : List ℕ → Option EndReason → Talk → Talk → Record → Record → Option (List ℕ) → Option (List ℕ) → Type 0
Hears bytes o t u r r' w w' = Heard t.left (pending_of t ++ bytes) o u.left (pending_of u) r r' w w' t.calls u.calls

-- Returns the number of calls that a request makes: 1, or 0 for `QUIT` and bad lines.
abbrev pub counted : Request → ℕ
counted (request.Call c) = 1
counted other = 0

-- Returns whether the session has ended because a write failed.
abbrev pub failed_by : Option EndReason → Bool
failed_by (Some why.WriteFault) = true
failed_by other = false

-- Returns why a session ends after it has written its last line: `w` if the whole line was written, else `WriteFault`.
abbrev pub ending : Bool → EndReason → Option EndReason
ending whole w = Some (if whole then w else why.WriteFault)
