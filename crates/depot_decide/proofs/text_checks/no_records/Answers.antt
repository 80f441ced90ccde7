use Rattle.depot_decide.proofs.TakenTexts.{none_accepted}
use Rattle.depot_decide.proofs.text_checks.no_records.Goals as goal

pub new-requires-2 : goal.new-requires-2
new-requires-2 g c = none_accepted c.in_ok-state.state c.args.me c.args.roster.now c.args.scheme (rw (← c.in_ok-copy.ensures) c.in_ok-state.ensures)
