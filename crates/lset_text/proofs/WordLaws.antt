-- Proof: reading inverts writing for names and replies. Reading a field yields a value only if the field is exactly the
-- spelling of the value.
use Rattle.std.proofs.Common.{◌≡◌, ℕ, ◌<◌, ◌≤◌, ◌^◌, ◌||◌, Bool, true, List, [], ◌∷◌, ◌++◌, take, drop, Option, Some, None, is_some}
use Rattle.std.proofs.Common.{refl, sym, ap, subst, ◌∙◌, inl, inr, codes, arith, option_map, take-append-drop}
use Rattle.std.specs.List.{AllByRecursion}
use Rattle.std.specs.Option.{option_or}
use Rattle.std.specs.Fmt.{decimal}
use Rattle.std.specs.Str.{bytes_eq}
use Rattle.std.proofs.lemmas.Bool.{cases_Bool}
use Rattle.std.proofs.lemmas.Slice.Eq.{bytes_eq-Decides}
use Rattle.lset_words.specs.declared.Key.{Key}
use Rattle.lset_words.specs.declared.Kind.{Kind}
use Rattle.lset_words.specs.declared.Kind.TheVariants as kind
use Rattle.lset_words.specs.declared.Call.{Call}
use Rattle.lset_words.specs.declared.Call.TheVariants as call
use Rattle.lset_words.specs.declared.Reply.{Reply}
use Rattle.lset_words.specs.declared.Reply.TheVariants as reply
use Rattle.lset_words.specs.Words.{key_of}
use Rattle.lset_text.specs.declared.words.CallWord.{CallWord}
use Rattle.lset_text.specs.declared.words.CallWord.TheVariants as word
use Rattle.lset_text.specs.declared.words.Version.{Version}
use Rattle.lset_text.specs.declared.words.Version.TheVariants.{One, Two}
use Rattle.lset_text.specs.Parts.{Lacks}
use Rattle.lset_text.specs.Numbers.{number_in, max_number}
use Rattle.lset_text.specs.Spellings.{value_of, kind_text, all_kinds, kind_of, call_word_text, words_in, call_word_of, call_word_in}
use Rattle.lset_text.specs.Spellings.{word_of, with_key, HasWord, reply_text, plain_in, reply_of, begins_at, at_key, at_number}
use Rattle.lset_text.specs.Spellings.{reply_in, is_reply_in, HasReply}
use Rattle.lset_text.proofs.NumberLaws.{number_ok, number_again, decimal_lacks}
use Rattle.lset_text.proofs.PartLaws.{Lacks-below, Lacks-append}
use Rattle.lset_text.proofs.ReadingLaws.{test_some}

pub same_bytes : (xs ys : List ℕ) → bytes_eq xs ys ≡ true → xs ≡ ys
same_bytes xs ys e = (bytes_eq-Decides xs ys).0 e

some_is : {A : Type 0} (a b : A) → Some a ≡ Some b → a ≡ b
some_is a b e = cc

no_word : {A : Type 0} (k : A) → None ≡ Some k → ⊥
no_word k e = cc

pub value_ok : {A : Type 0} (text : A → List ℕ) (P : A → Type 0) (values : List A) (piece : List ℕ) (x : A)
    → AllByRecursion P values → value_of text values piece ≡ Some x → (piece ≡ text x) × P x
value_ok text P [] piece x all is = absurd cc
value_ok {A} text P (y ∷ ys) piece x all is = elim (cases_Bool (bytes_eq piece (text y))) [
  | inl it ↦ let same : y ≡ x = some_is y x (sym (rw it refl) ∙ is) in
      (same_bytes piece (text y) it ∙ ap text same, subst P same all.0)
  | inr other ↦ value_ok text P ys piece x all.1 (sym (rw other refl) ∙ is)
]

-- ---- Lemmas about the names of kinds of lists

pub kind_ok : (piece : List ℕ) (k : Kind) → kind_of piece ≡ Some k → piece ≡ kind_text k
unfolding kind_of
kind_ok piece k is = (value_ok kind_text (λ k. Unit {0}) all_kinds piece k (any all_kinds) is).0
  where
    any : (kinds : List Kind) → AllByRecursion (λ k. Unit {0}) kinds
    any [] = tt
    any (k ∷ kinds) = (tt, any kinds)

pub kind_again : (k : Kind) → kind_of (kind_text k) ≡ Some k
unfolding kind_of
kind_again kind.Coarse = refl
kind_again k = refl

pub kind_lacks : (byte : ℕ) (k : Kind) → byte < 45 → Lacks byte (kind_text k)
kind_lacks byte kind.Coarse low = Lacks-below 45 byte (codes "coarse") low refl
kind_lacks byte k low = Lacks-below 45 byte (kind_text k) low refl

-- ---- Lemmas about the names of calls

words_fit : (v : Version) → AllByRecursion (HasWord v) (words_in v)
words_fit One = (tt, (tt, (tt, tt)))
words_fit Two = (tt, (tt, (tt, (tt, tt))))

pub call_in_ok : (v : Version) (piece : List ℕ) (w : CallWord) → call_word_in v piece ≡ Some w
    → HasWord v w × (piece ≡ call_word_text w)
unfolding call_word_of
call_in_ok v piece w is = let k = value_ok call_word_text (HasWord v) (words_in v) piece w (words_fit v) is in (k.1, k.0)

pub call_in_again : (v : Version) (w : CallWord) → HasWord v w → call_word_in v (call_word_text w) ≡ Some w
unfolding call_word_of
call_in_again One word.Ceiling h = absurd h
call_in_again One w h = refl
call_in_again Two word.Add h = refl
call_in_again Two w h = refl

pub with_key-word_of : (c : Call) → with_key (word_of c) (key_of c) ≡ c
with_key-word_of (call.Add k) = refl
with_key-word_of c = refl

pub word_of-with_key : (w : CallWord) (k : Key) → word_of (with_key w k) ≡ w
word_of-with_key word.Add k = refl
word_of-with_key w k = refl

pub key_of-with_key : (w : CallWord) (k : Key) → key_of (with_key w k) ≡ k
key_of-with_key word.Add k = refl
key_of-with_key w k = refl

-- ---- Lemmas about the spelling of replies

plain_fit : (v : Version) → AllByRecursion (HasReply v) (plain_in v)
plain_fit One = (tt, (tt, (tt, tt)))
plain_fit Two = (tt, (tt, (tt, (tt, tt))))

plain_ok : (v : Version) (piece : List ℕ) (r : Reply) → reply_of (plain_in v) piece ≡ Some r → (piece ≡ reply_text r) × HasReply v r
unfolding reply_of
plain_ok v piece r is = value_ok reply_text (HasReply v) (plain_in v) piece r (plain_fit v) is

at_again : (k : Key) → k.0 < 2 ^ 32 → reply_in Two (reply_text (reply.At k)) ≡ Some (reply.At k)
unfolding reply_of
at_again k low = rw (number_again 0 max_number k.0 (omega arith) (omega arith) (omega arith)) refl

-- Holds if the version has the reply `r`, the field `piece` is the spelling of `r`, and the test for the form of a
-- reply (`form`) succeeds.
abbrev pub ReadFrom : Version → Reply → List ℕ → Bool → Type 0
ReadFrom v r piece form = HasReply v r × (piece ≡ reply_text r) × (form ≡ true)

at_ok : (piece : List ℕ) (r : Reply) → at_number piece ≡ Some r → ReadFrom Two r piece (begins_at piece)
at_ok piece r is = by_number (number_in 0 max_number (drop 3 piece)) refl (test_some (begins_at piece) _ r is).0
    (test_some (begins_at piece) _ r is).1
  where
    by_number : (o : Option ℕ) → number_in 0 max_number (drop 3 piece) ≡ o → begins_at piece ≡ true
        → option_map at_key o ≡ Some r → ReadFrom Two r piece (begins_at piece)
    by_number None n it f = absurd (no_word r f)
    by_number (Some k) n it f =
        let ok = number_ok 0 max_number (drop 3 piece) k (omega arith) n in
        let front = same_bytes (take 3 piece) (codes "at-") it in (
          subst (HasReply Two) (some_is (at_key k) r f) (let up : k ≤ max_number = ok.2 in omega arith),
          sym (take-append-drop 3 piece) ∙ (λ i. front i ++ ok.0 i) ∙ ap reply_text (some_is (at_key k) r f),
          it,
        )

either : (piece : List ℕ) (r : Reply) (o : Option Reply) → reply_of (plain_in Two) piece ≡ o
    → option_or o (at_number piece) ≡ Some r → ReadFrom Two r piece (is_some o || begins_at piece)
either piece r None e is = at_ok piece r is
either piece r (Some x) e is = let k = plain_ok Two piece r (e ∙ is) in (k.1, k.0, refl)

pub reply_ok : (v : Version) (piece : List ℕ) (r : Reply) → reply_in v piece ≡ Some r → ReadFrom v r piece (is_reply_in v piece)
reply_ok One piece r is = let k = plain_ok One piece r is in (k.1, k.0, ap is_some is)
reply_ok Two piece r is = either piece r (reply_of (plain_in Two) piece) refl is

pub reply_again : (v : Version) (r : Reply) → HasReply v r → reply_in v (reply_text r) ≡ Some r
unfolding reply_of
reply_again One (reply.At k) h = absurd h
reply_again One reply.Nothing h = absurd h
reply_again One r h = refl
reply_again Two (reply.At k) h = at_again k h
reply_again Two r h = refl

pub reply_lacks : (byte : ℕ) (v : Version) (r : Reply) → HasReply v r → byte < 45 → Lacks byte (reply_text r)
reply_lacks byte v reply.True h low = Lacks-below 45 byte (codes "true") low refl
reply_lacks byte One (reply.At k) h low = absurd h
reply_lacks byte Two (reply.At k) h low =
    Lacks-append byte (codes "at-") (decimal k.0) (Lacks-below 45 byte (codes "at-") low refl)
    (decimal_lacks byte k.0 (omega arith) (omega arith))
reply_lacks byte v r h low = Lacks-below 45 byte (reply_text r) low refl
