use Rattle.depot_schedule.proofs.ScheduleLaws.{text_of_read}
use Rattle.depot_schedule.proofs.schedule_laws.schedules_have_one_spelling.Goals as goal

pub returns : goal.returns
returns c = text_of_read
