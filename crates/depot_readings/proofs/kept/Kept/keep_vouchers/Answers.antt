use Rattle.std.proofs.Common.{List, length, refl, sym, ap, subst, ◌∙◌, arith}
use Rattle.std.specs.List.{AllByRecursion}
use Rattle.depot_base.proofs.Writing.{on_err_from}
use Rattle.depot_model.specs.checks.Vouching.{records_of}
use Rattle.depot_readings.specs.NewRecords.{HasOwnId, vouchers_of}
use Rattle.depot_readings.specs.OwnIds.{AddsMine, HaveRoom}
use Rattle.depot_readings.specs.ReadingsParts.{KeepsRecords, MayKeep, StillKeeps}
use Rattle.depot_readings.specs.declared.news.NewVoucher.{NewVoucher}
use Rattle.depot_readings.proofs.BoundLaws.{few_vouchers}
use Rattle.depot_readings.proofs.KeptLaws.{keeps_still, may_still, same_setting, same_state, still_keeps}
use Rattle.depot_readings.proofs.OwnIdLaws.{adds_behind}
use Rattle.depot_readings.proofs.kept.Kept.keep_vouchers.Goals as goal

pub returns-in_err-reserve_ids-clause-err : goal.returns-in_err-reserve_ids-clause-err
returns-in_err-reserve_ids-clause-err g c = let same : StillKeeps c.args.self.now.state c.args.self.now.values c.args.self.now.totals c.args.self.now.state c.args.self.now.values c.args.self.now.totals = λ J k. k in on_err_from _ same

pub overflow_cast-len : goal.overflow_cast-len
overflow_cast-len g c =
    let few = few_vouchers _ c.requires.may.0 c.args.vouchers c.requires.may.1.1 in
    omega (arith, few, c.len.ensures, c.into_vec-vouchers.result.ok.0, ap length c.into_vec-vouchers.ensures)

pub returns-in_err-reserve_vouchers-clause-err : goal.returns-in_err-reserve_vouchers-clause-err
returns-in_err-reserve_vouchers-clause-err g c = on_err_from _ (still_keeps g.S.Scheme.verifies _ _ _ _ _ (same_setting g.S.Scheme.verifies c.args.self.now.state c.reserve_vouchers.new.self c.reserve_vouchers.ensures.same) (same_state _ _ c.in_err-reserve_vouchers.ensures.err) (λ h. refl))

pub returns-in_err-reserve_vouchers-clause-stays : goal.returns-in_err-reserve_vouchers-clause-stays
returns-in_err-reserve_vouchers-clause-stays g c = same_setting g.S.Scheme.verifies c.args.self.now.state c.reserve_vouchers.new.self c.reserve_vouchers.ensures.same

pub add_vouchers-requires-clause-may : goal.add_vouchers-requires-clause-may
add_vouchers-requires-clause-may g c =
    subst (λ (xs : List NewVoucher). MayKeep g.S.Scheme.verifies c.reserve_vouchers.new.self c.args.self.now.values c.args.self.now.totals (records_of (vouchers_of xs))) (sym c.into_vec-vouchers.ensures)
    (may_still g.S.Scheme.verifies c.args.self.now.state c.reserve_vouchers.new.self _ _ (records_of (vouchers_of c.args.vouchers)) c.reserve_vouchers.ensures.same c.requires.may)

pub add_vouchers-requires-clause-ids : goal.add_vouchers-requires-clause-ids
add_vouchers-requires-clause-ids g c = subst (λ (xs : List NewVoucher). AllByRecursion HasOwnId xs) (sym c.into_vec-vouchers.ensures) c.requires.ids

pub add_vouchers-requires-clause-mine_room : goal.add_vouchers-requires-clause-mine_room
add_vouchers-requires-clause-mine_room g c = subst (λ (xs : List NewVoucher). HaveRoom xs c.reserve_ids.new.mine.room) c.as_slice.ensures.value c.in_ok-reserve_ids.ensures.room

pub add_vouchers-requires-clause-room : goal.add_vouchers-requires-clause-room
add_vouchers-requires-clause-room g c = omega (arith, c.in_ok-reserve_vouchers.ensures.room, c.len.ensures, c.into_vec-vouchers.result.ok.0)

pub returns-clause-ok : goal.returns-clause-ok
returns-clause-ok g c =
    subst (λ (xs : List NewVoucher). KeepsRecords g.S.Scheme.verifies c.args.self.now.state c.args.self.now.values c.args.self.now.totals (records_of (vouchers_of xs)) c.add_vouchers.new.self.state c.add_vouchers.new.self.values c.add_vouchers.new.self.totals) c.into_vec-vouchers.ensures
    (keeps_still g.S.Scheme.verifies c.args.self.now.state c.reserve_vouchers.new.self _ _ _ _ _ (records_of (vouchers_of c.into_vec-vouchers.result.items)) c.reserve_vouchers.ensures.same c.add_vouchers.ensures.kept)

pub returns-clause-stays : goal.returns-clause-stays
returns-clause-stays g c = c.add_vouchers.ensures.stays ∙ same_setting g.S.Scheme.verifies c.args.self.now.state c.reserve_vouchers.new.self c.reserve_vouchers.ensures.same

pub returns-clause-mine : goal.returns-clause-mine
returns-clause-mine g c =
    subst (λ (xs : List NewVoucher). AddsMine c.args.mine.now.ids (records_of (vouchers_of xs)) c.add_vouchers.new.mine.ids) c.into_vec-vouchers.ensures
    (adds_behind _ _ _ (records_of (vouchers_of c.into_vec-vouchers.result.items)) c.reserve_ids.ensures.ids c.add_vouchers.ensures.mine)
