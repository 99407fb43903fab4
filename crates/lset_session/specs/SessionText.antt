-- [Session text]: the requests in the lines of a session, and the answers to the requests. The definitions cut the
-- whole input into lines at once.
use Rattle.std.specs.Prelude.{ℕ, ◌-◌, ◌==◌, nat_lt, List, [], ◌∷◌, ◌++◌, map, length, codes, if◌then◌else◌}
use Rattle.std.specs.Fmt.{decimal}
use Rattle.std.specs.List.{flat_map}
use Rattle.std.specs.Result.{result_unwrap_or}
use Rattle.lset_words.specs.declared.Key.{Key}
use Rattle.lset_words.specs.declared.Call.{Call}
use Rattle.lset_words.specs.declared.Call.TheVariants.{Add, Remove, Contains, Ceiling}
use Rattle.lset_words.specs.declared.Reply.{Reply}
use Rattle.lset_words.specs.declared.Reply.TheVariants as reply
use Rattle.lset_text.specs.declared.causes.Cause.TheVariants.{Line}
use Rattle.lset_text.specs.Parts.{cut_at, ended}
use Rattle.lset_text.specs.declared.words.Version.TheVariants.{Two}
use Rattle.lset_text.specs.Forms.{word, any}
use Rattle.lset_text.specs.Kinds.{LineKind, first_of}
use Rattle.lset_words.specs.Records.{CallMade}
use Rattle.lset_session.specs.declared.TheConstants.{LONGEST_LINE, MOST_LINES}
use Rattle.lset_session.specs.declared.requests.Request.{Request}
use Rattle.lset_session.specs.declared.requests.Request.TheVariants as request
use Rattle.lset_session.specs.declared.sessions.EndReason.{EndReason}
use Rattle.lset_session.specs.declared.sessions.EndReason.TheVariants as why

-- ---- The request in a line

-- Returns the pattern of a request line that consists of a call's name and a key.
abbrev pub call_line : List ℕ → (Key → Call) → LineKind Request
call_line name call = (word name ∷ any ∷ [], λ t. request.Call (call (record { 0 = t.1.0 })))

abbrev pub request_lines : List (LineKind Request)
request_lines =
    call_line (codes "ADD") (λ k. Add k) ∷ call_line (codes "REMOVE") (λ k. Remove k)
    ∷ call_line (codes "CONTAINS") (λ k. Contains k) ∷ call_line (codes "CEILING") (λ k. Ceiling k)
    ∷ (word (codes "QUIT") ∷ [], λ t. request.Quit) ∷ []

abbrev pub request_of_pieces : List (List ℕ) → Request
request_of_pieces pieces = result_unwrap_or (first_of Two Line request_lines pieces) request.Bad

-- Returns the request in `line`, which does not include the newline.
unfoldable pub request_of : List ℕ → Request
request_of line = request_of_pieces (cut_at 32 line)

-- ---- The requests in the bytes of a session

-- A turn of a session: a line with its request, a line that is too long, or the notice that the session has answered
-- the maximum number of lines.
pub data Turn : Type 0 where
  line : Request → Turn
  long : Turn
  limit : Turn

-- Returns the turns of a session whose first line contains the given request (a turn is a line, or the notice that the
-- limit of lines is reached). `later` contains the turns of the following lines. No turn follows `QUIT`. If `left` is
-- 1, the session can answer only the first line, and the notice of the limit follows.
abbrev pub turns_after : ℕ → Request → List Turn → List Turn
turns_after left request.Quit later = line request.Quit ∷ []
turns_after left other later = line other ∷ (if left == 1 then limit ∷ [] else later)

-- Returns the turns of a session that can answer `left` lines (a turn is a line, or the notice that the limit is
-- reached). The input is given as a list of lines. The part of the input after the last newline causes a turn only if
-- that part is too long.
abbrev pub turns_at : ℕ → List (List ℕ) → List Turn
turns_at left [] = []
turns_at left (rest ∷ []) = if nat_lt LONGEST_LINE (length rest) then long ∷ [] else []
turns_at left (first ∷ next ∷ more) =
    if nat_lt LONGEST_LINE (length first) then long ∷ []
    else turns_after left (request_of first) (turns_at (left - 1) (next ∷ more))

unfoldable pub turns_of : List ℕ → List Turn
turns_of bytes = turns_at MOST_LINES (cut_at 10 bytes)

-- Returns the reason why a session ends with the given turn, or `otherwise` if the turn does not end the session.
abbrev pub end_after : Turn → EndReason → EndReason
end_after (line request.Quit) otherwise = why.Quit
end_after (line other) otherwise = otherwise
end_after long otherwise = why.Long
end_after limit otherwise = why.Limit

abbrev pub end_of : List Turn → EndReason
end_of [] = why.End
end_of (t ∷ ts) = end_after t (end_of ts)

-- ---- The answers to requests

-- A turn of a session with its answer: a call with its reply, or one of the answers `BAD`, `BYE`, `LONG` and `LIMIT`.
pub data Exchange : Type 0 where
  made : CallMade → Exchange
  bad : Exchange
  bye : Exchange
  too_long : Exchange
  at_limit : Exchange

abbrev pub turn_of : Exchange → Turn
turn_of (made c) = line (request.Call c.call)
turn_of bad = line request.Bad
turn_of bye = line request.Quit
turn_of too_long = long
turn_of at_limit = limit

abbrev pub reply_word : Reply → List ℕ
reply_word reply.True = codes "TRUE"
reply_word reply.False = codes "FALSE"
reply_word reply.Full = codes "FULL"
reply_word (reply.At k) = codes "AT " ++ decimal k.0
reply_word reply.Nothing = codes "NONE"

-- Returns the answer that a session writes to one line, including the newline.
abbrev pub answer_of : Exchange → List ℕ
answer_of (made c) = ended (reply_word c.reply)
answer_of bad = ended (codes "BAD")
answer_of bye = ended (codes "BYE")
answer_of too_long = ended (codes "LONG")
answer_of at_limit = ended (codes "LIMIT")

abbrev pub call_of : Exchange → List CallMade
call_of (made c) = c ∷ []
call_of other = []

abbrev pub turns_in : List Exchange → List Turn
turns_in talk = map turn_of talk

abbrev pub answers_in : List Exchange → List ℕ
answers_in talk = flat_map answer_of talk

abbrev pub calls_in : List Exchange → List CallMade
calls_in talk = flat_map call_of talk
