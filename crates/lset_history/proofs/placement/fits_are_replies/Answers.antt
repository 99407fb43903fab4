use Rattle.lset_history.specs.Laws.{content_of}
use Rattle.lset_history.proofs.SetFitting.{replies_from_fits, fits_from_replies}
use Rattle.lset_history.proofs.placement.fits_are_replies.Goals as goal

pub returns : goal.returns
returns c = λ quota thread count keys s call reply same increasing e. (
  replies_from_fits quota (content_of keys) s same thread count call reply increasing e,
  fits_from_replies quota (content_of keys) s same thread count call reply increasing e,
)
