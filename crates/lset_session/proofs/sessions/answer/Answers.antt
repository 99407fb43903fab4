use Rattle.std.proofs.Common.{sym, ap, subst, ◌∙◌}
use Rattle.lset_session.specs.SessionText.{made, line}
use Rattle.lset_session.specs.Devices.{Writes}
use Rattle.lset_session.proofs.sessions.answer.Goals as goal

pub returns-in-Call-clause-said : goal.returns-in-Call-clause-said
returns-in-Call-clause-said g c = (
  made (record { call = c.in-Call.made; reply = c.make_call-reply.result }),
  ap line (sym c.in-Call.is),
  c.make_call-reply.ensures.record,
  subst (Writes c.write_all.result _ _) (c.as_bytes.ensures.value ∙ c.as_str.ensures.value ∙ c.reply_line.ensures)
      c.write_all.ensures.text,
)
