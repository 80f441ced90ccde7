use Rattle.depot_schedule.proofs.ScheduleLaws.{schedule_again}
use Rattle.depot_schedule.proofs.schedule_laws.schedules_are_read_back.Goals as goal

pub returns : goal.returns
returns c = λ s h. schedule_again s h
