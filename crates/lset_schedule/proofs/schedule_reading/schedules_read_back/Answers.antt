use Rattle.lset_schedule.proofs.ScheduleTextLaws.{is_found, reads_text}
use Rattle.lset_schedule.proofs.schedule_reading.schedules_read_back.Goals as goal

pub returns : goal.returns
returns c = λ p bytes. (reads_text p, is_found bytes p)
