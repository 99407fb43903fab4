use Rattle.std.proofs.Common.{◌≡◌, rules, arith, codes, refl, Some}
use Rattle.std.proofs.lemmas.Slice.Eq.{text_from_reads}
use Rattle.lset_text.specs.declared.words.CallWord.TheVariants.{Contains}
use Rattle.lset_text.specs.declared.words.Version.{Version}
use Rattle.lset_text.specs.declared.words.Version.TheVariants.{One, Two}
use Rattle.lset_text.specs.Spellings.{call_word_of, call_word_in}
use Rattle.lset_text.proofs.words.read_call.Goals as goal

pub returns-in_default-contains : goal.returns-in_default-contains
unfolding call_word_of
returns-in_default-contains c =
    rw (text_from_reads c.args.piece.now (codes "contains") (omega arith) (search rules)) (by_version c.args.version)
  where
    by_version : (v : Version) → Some Contains ≡ call_word_in v (codes "contains")
    by_version One = refl
    by_version Two = refl
