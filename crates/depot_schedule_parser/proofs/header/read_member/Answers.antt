use Rattle.depot_schedule_parser.proofs.header.read_member.Goals as goal

pub returns-in-Some : goal.returns-in-Some
returns-in-Some c = rw c.in-Some.ensures (c.member_by.ensures c.in-Some.field-0-0.now)
