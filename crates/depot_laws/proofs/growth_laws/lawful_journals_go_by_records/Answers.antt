use Rattle.depot_laws.proofs.lists.Splits.{lawful_none, lawful_front, lawful_push, lawful_last, lawful_texts}
use Rattle.depot_laws.proofs.growth_laws.lawful_journals_go_by_records.Goals as goal

pub returns-clause-none : goal.returns-clause-none
returns-clause-none c here = lawful_none here

pub returns-clause-front : goal.returns-clause-front
returns-clause-front c here J more l = lawful_front here J more l

pub returns-clause-more : goal.returns-clause-more
returns-clause-more c here J r l allowed = lawful_push here J r l allowed

pub returns-clause-last : goal.returns-clause-last
returns-clause-last c here J r l = lawful_last here J r l

pub returns-clause-texts : goal.returns-clause-texts
returns-clause-texts c here J r l on = lawful_texts here J r l on
