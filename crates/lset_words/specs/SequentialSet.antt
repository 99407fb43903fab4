-- The sequential set: a set of keys that executes one call at a time (Herlihy and Shavit's interface). In addition,
-- each thread has a quota, the number of its adds that can succeed.
use Rattle.std.specs.Prelude.{◌≡◌, ℕ, ◌+◌, ◌==◌, ◌||◌, nat_lt, Bool, false, if◌then◌else◌, List, [], ◌∷◌, replicate, slice_index, slice_set}
use Rattle.lset_words.specs.declared.Call.{Call}
use Rattle.lset_words.specs.Words.{Opening}
use Rattle.lset_words.specs.declared.Call.TheVariants.{Add, Remove, Contains, Ceiling}
use Rattle.lset_words.specs.declared.Reply.{Reply}
use Rattle.lset_words.specs.declared.Reply.TheVariants.{True, False, Full, At, Nothing}

-- A state of the set: the keys, in increasing order, and each thread's number of successful adds.
pub record SetState : Type 0 where
  pub keys : List ℕ
  pub counts : List ℕ

-- Returns the opening state: the opening keys, and no successful add by any thread.
abbrev pub opening_set : Opening → SetState
opening_set o = record { keys = o.keys; counts = replicate o.threads 0 }

abbrev pub has_key : ℕ → List ℕ → Bool
has_key k [] = false
has_key k (x ∷ xs) = x == k || has_key k xs

-- Inserts `k` into a list of increasing keys, and keeps the keys increasing. The list must not contain `k`.
abbrev pub with_key : ℕ → List ℕ → List ℕ
with_key k [] = k ∷ []
with_key k (x ∷ xs) = if nat_lt k x then k ∷ x ∷ xs else x ∷ with_key k xs

abbrev pub without_key : ℕ → List ℕ → List ℕ
without_key k [] = []
without_key k (x ∷ xs) = if x == k then without_key k xs else x ∷ without_key k xs

-- Returns the reply to `ceiling k`: `At` with the smallest key that is not less than `k`, or `Nothing` if all keys are
-- less than `k`. The keys must be in increasing order.
abbrev pub ceiling_in : ℕ → List ℕ → Reply
ceiling_in k [] = Nothing
ceiling_in k (x ∷ xs) = if nat_lt x k then ceiling_in k xs else At (record { 0 = x })

abbrev pub count_of : SetState → ℕ → ℕ
count_of s thread = slice_index s.counts thread

-- Returns the reply of the set in state `s` to a call by `thread`. Each thread may make at most `quota` successful
-- adds.
abbrev pub reply_to : ℕ → SetState → ℕ → Call → Reply
reply_to quota s thread (Add k) = if has_key k.0 s.keys then False else if count_of s thread == quota then Full else True
reply_to quota s thread (Remove k) = if has_key k.0 s.keys then True else False
reply_to quota s thread (Contains k) = if has_key k.0 s.keys then True else False
reply_to quota s thread (Ceiling k) = ceiling_in k.0 s.keys

-- Returns the state of the set after a call with the given reply. Only a successful add or remove changes the state.
abbrev pub after_call : SetState → ℕ → Call → Reply → SetState
after_call s thread (Add k) True = record {
  keys = with_key k.0 s.keys;
  counts = slice_set s.counts thread (count_of s thread + 1);
}
after_call s thread (Add k) False = s
after_call s thread (Add k) Full = s
after_call s thread (Add k) (At x) = s
after_call s thread (Add k) Nothing = s
after_call s thread (Remove k) True = record { keys = without_key k.0 s.keys; counts = s.counts }
after_call s thread (Remove k) False = s
after_call s thread (Remove k) Full = s
after_call s thread (Remove k) (At x) = s
after_call s thread (Remove k) Nothing = s
after_call s thread (Contains k) reply = s
after_call s thread (Ceiling k) reply = s

-- An element of an order: a completed call with its thread and its reply.
pub record Answered : Type 0 where
  pub thread : ℕ
  pub call : Call
  pub reply : Reply

-- Holds if a set in state `s` returns the recorded reply to each call, when the calls are made in the order of the
-- list.
abbrev pub IsLegal : ℕ → SetState → List Answered → Type 0
IsLegal quota s [] = Unit {0}
IsLegal quota s (x ∷ xs) = (reply_to quota s x.thread x.call ≡ x.reply) × IsLegal quota (after_call s x.thread x.call x.reply) xs

-- Returns the state of a set after a list of calls, if the set was in state `s` before the calls.
abbrev pub set_left : SetState → List Answered → SetState
set_left s [] = s
set_left s (x ∷ xs) = set_left (after_call s x.thread x.call x.reply) xs
