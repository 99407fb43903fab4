use Rattle.lset_text.proofs.NumberLaws.{number_ok, number_again}
use Rattle.lset_text.proofs.numbers.numbers_read_back.Goals as goal

pub returns : goal.returns
returns c = λ low high n piece wide. (number_again low high n wide, number_ok low high piece n wide)
