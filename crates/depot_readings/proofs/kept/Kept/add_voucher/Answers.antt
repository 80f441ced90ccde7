use Rattle.std.proofs.Common.{[], refl, arith}
use Rattle.depot_base.specs.declared.record.Record.TheVariants.{OwnVoucher}
use Rattle.depot_laws.proofs.lists.Splits.{lawful_last}
use Rattle.depot_kept.proofs.ConvictedNodes.{where_ok}
use Rattle.depot_laws.proofs.records.LawfulRecords.{IsStatement-from_own_voucher}
use Rattle.depot_readings.proofs.BoundLaws.{few_of_own, few_updates}
use Rattle.depot_readings.proofs.KeptLaws.{voucher_kept}
use Rattle.depot_readings.proofs.OwnIdLaws.{adds_one}
use Rattle.depot_readings.proofs.StateGrowth.{fits_behind}
use Rattle.depot_readings.proofs.kept.Kept.add_voucher.Goals as goal

pub add_own-requires-clause-text : goal.add_own-requires-clause-text
add_own-requires-clause-text g c = IsStatement-from_own_voucher c.args.item.voucher (lawful_last _ c.requires.may.0 (OwnVoucher c.args.item.voucher) c.requires.may.1.1).text

pub add_own-requires-clause-fits : goal.add_own-requires-clause-fits
add_own-requires-clause-fits g c = fits_behind _ c.requires.may.0 (OwnVoucher c.args.item.voucher) [] _ c.requires.may.1.1 refl c.requires.may.1.0.state.accepted

pub add_own-requires-clause-few : goal.add_own-requires-clause-few
add_own-requires-clause-few g c = few_updates _ c.requires.may.0 (OwnVoucher c.args.item.voucher) _ c.requires.may.1.1 c.requires.may.1.0.state.accepted

pub overflow_add-self : goal.overflow_add-self
overflow_add-self g c =
    let few = few_of_own _ _ c.requires.may.0 (OwnVoucher c.args.item.voucher) c.args.self.now.totals c.requires.may.1.1 c.requires.may.1.0.totals in
    omega (arith, few)

pub returns-clause-kept : goal.returns-clause-kept
returns-clause-kept g c = λ J k l. voucher_kept g.S.Scheme.verifies J c.args.item.voucher _ _ _ _ c.add_own.ensures.stays (where_ok _ c.add_own.result (c.add_own.ensures.reserved _ refl c.requires.room) c.add_own.ensures.ok J (OwnVoucher c.args.item.voucher) refl k.state) k

pub returns-clause-room : goal.returns-clause-room
returns-clause-room g c = where_ok _ c.add_own.result (c.add_own.ensures.reserved _ refl c.requires.room) c.add_own.ensures.room c.requires.room

pub returns-clause-mine : goal.returns-clause-mine
returns-clause-mine g c = adds_one c.args.item.voucher _ _ (where_ok _ c.add.result (c.add.ensures.known c.requires.mine_room) c.add.ensures.ok)
