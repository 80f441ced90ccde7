-- How much a lawful journal that was pruned holds.
use Rattle.std.proofs.Common.{◌<◌, ◌≤◌, List, [], ◌∷◌, length, ap, arith, length-append}
use Rattle.depot_base.specs.declared.record.Record.{Record}
use Rattle.depot_base.specs.declared.record.Record.TheVariants.{Birth, OwnPut, OwnVoucher, Foreign, Conviction, Held}
use Rattle.depot_base.specs.declared.update.Update.{Update}
use Rattle.depot_base.proofs.GeneralLaws.{filter_short}
use Rattle.depot_model.specs.checks.Checks.{Setting}
use Rattle.depot_model.specs.journals.Journal.{accepted, foreign, foreign_by}
use Rattle.depot_model.specs.journals.Lawful.{IsLawful}
use Rattle.depot_model.specs.readers.Pruning.{pruned}
use Rattle.depot_laws.proofs.own_updates.OwnTexts.{lawful_is_short}
use Rattle.depot_laws.proofs.of_readers.PrunedReadings.{is_left, foreign_left}
use Rattle.depot_readings.proofs.LeafLaws.{few_accepted}

one_foreign : (r : Record) → length (foreign_by r) ≤ 1
one_foreign (Birth node h) = omega arith
one_foreign (OwnPut u value) = omega arith
one_foreign (OwnVoucher v) = omega arith
one_foreign (Foreign s) = omega arith
one_foreign (Conviction p) = omega arith
one_foreign (Held value) = omega arith

foreign_few : (J : List Record) → length (foreign J) ≤ length J
foreign_few [] = omega arith
foreign_few (r ∷ J) = let one = one_foreign r in let more = foreign_few J in omega (arith, length-append (foreign_by r) (foreign J))

pub few_updates : (here : Setting) (J : List Record) → IsLawful here J → length (accepted J) < 4294967295
few_updates here J l = omega (arith, lawful_is_short here J l, few_accepted J)

pub few_left : (here : Setting) (J : List Record) (T : List Update) → IsLawful here J → length (foreign (pruned T J)) ≤ 131072
few_left here J T l = omega (arith, lawful_is_short here J l, foreign_few J, filter_short (is_left T) (foreign J), ap length (foreign_left T J))
