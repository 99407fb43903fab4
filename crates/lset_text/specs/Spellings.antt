-- The names that files use for kinds of lists, calls and replies.
use Rattle.std.specs.Prelude.{◌≡◌, ℕ, ◌<◌, ◌^◌, ◌++◌, ◌||◌, Bool, true, false, List, [], ◌∷◌, take, drop, codes}
use Rattle.std.specs.Prelude.{Option, Some, None, is_some, option_map, if◌then◌else◌}
use Rattle.std.specs.Fmt.{decimal}
use Rattle.std.specs.List.{find}
use Rattle.std.specs.Option.{option_or}
use Rattle.std.specs.Str.{bytes_eq}
use Rattle.lset_words.specs.declared.Key.{Key}
use Rattle.lset_words.specs.declared.Kind.{Kind}
use Rattle.lset_words.specs.declared.Kind.TheVariants as kind
use Rattle.lset_words.specs.declared.Call.{Call}
use Rattle.lset_words.specs.declared.Call.TheVariants as call
use Rattle.lset_words.specs.declared.Reply.{Reply}
use Rattle.lset_words.specs.declared.Reply.TheVariants as reply
use Rattle.lset_text.specs.declared.words.Version.{Version}
use Rattle.lset_text.specs.declared.words.Version.TheVariants.{One, Two}
use Rattle.lset_text.specs.Numbers.{number_in, max_number}
use Rattle.lset_text.specs.declared.words.CallWord.{CallWord}
use Rattle.lset_text.specs.declared.words.CallWord.TheVariants as word

abbrev pub kind_text : Kind → List ℕ
kind_text kind.Coarse = codes "coarse"
kind_text kind.Fine = codes "fine"
kind_text kind.Optimistic = codes "optimistic"
kind_text kind.Lazy = codes "lazy"
kind_text kind.LockFree = codes "lock-free"

-- Returns the first item of `values` whose spelling is the field `piece`, or `None`.
abbrev pub value_of : {A : Type 0} → (A → List ℕ) → List A → List ℕ → Option A
value_of text values piece = find (λ x. bytes_eq piece (text x)) values

abbrev pub all_kinds : List Kind
all_kinds = kind.Coarse ∷ kind.Fine ∷ kind.Optimistic ∷ kind.Lazy ∷ kind.LockFree ∷ []

unfoldable pub kind_of : List ℕ → Option Kind
kind_of piece = value_of kind_text all_kinds piece

abbrev pub call_word_text : CallWord → List ℕ
call_word_text word.Add = codes "add"
call_word_text word.Remove = codes "remove"
call_word_text word.Contains = codes "contains"
call_word_text word.Ceiling = codes "ceiling"

-- `word_of` returns the name of a call. `with_key` is the inverse: it returns the call with a given name and key.
abbrev pub word_of : Call → CallWord
word_of (call.Add k) = word.Add
word_of (call.Remove k) = word.Remove
word_of (call.Contains k) = word.Contains
word_of (call.Ceiling k) = word.Ceiling

abbrev pub with_key : CallWord → Key → Call
with_key word.Add k = call.Add k
with_key word.Remove k = call.Remove k
with_key word.Contains k = call.Contains k
with_key word.Ceiling k = call.Ceiling k

abbrev pub call_text : Call → List ℕ
call_text c = call_word_text (word_of c)

-- Returns the call names that a version of a file format has. Version 1 has no `ceiling`.
abbrev pub words_in : Version → List CallWord
words_in One = word.Add ∷ word.Remove ∷ word.Contains ∷ []
words_in Two = word.Add ∷ word.Remove ∷ word.Contains ∷ word.Ceiling ∷ []

unfoldable pub call_word_of : List CallWord → List ℕ → Option CallWord
call_word_of words piece = value_of call_word_text words piece

abbrev pub call_word_in : Version → List ℕ → Option CallWord
call_word_in version piece = call_word_of (words_in version) piece

abbrev pub HasWord : Version → CallWord → Type 0
HasWord version word.Add = Unit {0}
HasWord One word.Ceiling = ⊥
HasWord version w = Unit {0}

-- Holds if the given version of a file format has the call `c`.
abbrev pub HasCall : Version → Call → Type 0
HasCall version c = HasWord version (word_of c)

abbrev pub reply_text : Reply → List ℕ
reply_text reply.True = codes "true"
reply_text reply.False = codes "false"
reply_text reply.Full = codes "full"
reply_text (reply.At k) = codes "at-" ++ decimal k.0
reply_text reply.Nothing = codes "nothing"

-- Returns the replies of the given version that contain no number. (In version 2, `at-K` is also a reply.)
abbrev pub plain_in : Version → List Reply
plain_in One = reply.True ∷ reply.False ∷ reply.Full ∷ []
plain_in Two = reply.True ∷ reply.False ∷ reply.Full ∷ reply.Nothing ∷ []

unfoldable pub reply_of : List Reply → List ℕ → Option Reply
reply_of replies piece = value_of reply_text replies piece

-- Returns the reply `at-K` for the key K.
abbrev pub at_key : ℕ → Reply
at_key k = reply.At (record { 0 = k })

abbrev pub begins_at : List ℕ → Bool
begins_at piece = bytes_eq (take 3 piece) (codes "at-")

abbrev pub at_number : List ℕ → Option Reply
at_number piece = if begins_at piece then option_map at_key (number_in 0 max_number (drop 3 piece)) else None

-- Returns the reply that a field spells in the given version, or `None`. (In version 2, `is_reply_in` also accepts a
-- field that begins with `at-` but spells no reply.)
abbrev pub reply_in : Version → List ℕ → Option Reply
reply_in One piece = reply_of (plain_in One) piece
reply_in Two piece = option_or (reply_of (plain_in Two) piece) (at_number piece)

abbrev pub is_reply_in : Version → List ℕ → Bool
is_reply_in One piece = is_some (reply_of (plain_in One) piece)
is_reply_in Two piece = is_some (reply_of (plain_in Two) piece) || begins_at piece

-- Holds if the given version of a file format has the reply.
abbrev pub HasReply : Version → Reply → Type 0
HasReply version reply.True = Unit {0}
HasReply One (reply.At k) = ⊥
HasReply Two (reply.At k) = k.0 < 2 ^ 32
HasReply One reply.Nothing = ⊥
HasReply version r = Unit {0}

-- Lemma: reading inverts writing for kinds of lists. A field is read as a kind if and only if the field is the name of
-- the kind. `CallsReadBack` and `RepliesReadBack` state the same for calls and replies.
abbrev pub KindsReadBack : Type 0
KindsReadBack = (k : Kind) (piece : List ℕ)
    → (kind_of (kind_text k) ≡ Some k) × (kind_of piece ≡ Some k → piece ≡ kind_text k)

abbrev pub CallsReadBack : Type 0
CallsReadBack = (v : Version) (w : CallWord) (piece : List ℕ)
    → (HasWord v w → call_word_in v (call_word_text w) ≡ Some w)
    × (call_word_in v piece ≡ Some w → HasWord v w × (piece ≡ call_word_text w))

abbrev pub RepliesReadBack : Type 0
RepliesReadBack = (v : Version) (r : Reply) (piece : List ℕ)
    → (HasReply v r → reply_in v (reply_text r) ≡ Some r)
    × (reply_in v piece ≡ Some r → HasReply v r × (piece ≡ reply_text r))
    × (reply_in v piece ≡ Some r → is_reply_in v piece ≡ true)
