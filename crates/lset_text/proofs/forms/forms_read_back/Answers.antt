use Rattle.lset_text.proofs.FormLaws.{line_ok, line_again}
use Rattle.lset_text.proofs.forms.forms_read_back.Goals as goal

pub returns : goal.returns
returns c = λ v f line t is. (line_again v f t is, line_ok v f line t is)
