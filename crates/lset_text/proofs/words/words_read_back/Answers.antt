use Rattle.lset_text.proofs.WordLaws.{kind_ok, kind_again, call_in_ok, call_in_again, reply_ok, reply_again}
use Rattle.lset_text.proofs.words.words_read_back.Goals as goal

pub returns-clause-kinds : goal.returns-clause-kinds
returns-clause-kinds c = λ k piece. (kind_again k, kind_ok piece k)

pub returns-clause-calls : goal.returns-clause-calls
returns-clause-calls c = λ v w piece. (call_in_again v w, call_in_ok v piece w)

pub returns-clause-replies : goal.returns-clause-replies
returns-clause-replies c = λ v r piece. (
  reply_again v r,
  λ e. let k = reply_ok v piece r e in (k.0, k.1),
  λ e. let k = reply_ok v piece r e in k.2,
)
