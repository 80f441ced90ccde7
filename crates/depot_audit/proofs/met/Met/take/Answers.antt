use Rattle.std.proofs.Common.{[], ◌∷◌, ◌++◌, sym, subst, refl}
use Rattle.std.specs.List.{flat_map}
use Rattle.std.proofs.lemmas.Result.{on_ok_weaker}
use Rattle.depot_base.specs.declared.record.Record.{Record}
use Rattle.depot_model.specs.journals.Journal.{value_by}
use Rattle.depot_model.specs.texts.Records.{IsTextOf}
use Rattle.depot_audit.specs.MetTexts.{IsMetOf}
use Rattle.depot_audit.proofs.MetRecords.{birth_brings, voucher_brings, conviction_brings, held_brings}
use Rattle.depot_audit.proofs.met.Met.take.Goals as goal

pub take_put-requires : goal.take_put-requires
take_put-requires c = subst (λ (r : Record). IsTextOf r c.args.text.now) c.in-OwnPut.is c.requires

pub take_foreign-requires : goal.take_foreign-requires
take_foreign-requires c = (subst (λ (r : Record). IsTextOf r c.args.text.now) c.in-Foreign.is c.requires).fits

pub returns-in-OwnPut : goal.returns-in-OwnPut
returns-in-OwnPut c =
    on_ok_weaker c.take_put.result (λ more rs m. subst (λ (q : Record). IsMetOf (rs ++ q ∷ []) c.take_put.new.self) (sym c.in-OwnPut.is) (more rs m)) c.take_put.ensures

pub returns-in-Foreign : goal.returns-in-Foreign
returns-in-Foreign c =
    on_ok_weaker c.take_foreign.result (λ more rs m. subst (λ (q : Record). IsMetOf (rs ++ q ∷ []) c.take_foreign.new.self) (sym c.in-Foreign.is) (more rs m)) c.take_foreign.ensures

pub returns-in-Held : goal.returns-in-Held
returns-in-Held c =
    on_ok_weaker c.add.result (λ more rs m.
    subst (λ (q : Record). IsMetOf (rs ++ q ∷ []) (record { updates = c.args.self.now.updates; values = c.add.new.self })) (sym c.in-Held.is)
    (held_brings rs c.in-Held.value c.args.self.now (record { updates = c.args.self.now.updates; values = c.add.new.self }) refl (more (flat_map value_by rs)) m))
    c.add.ensures

pub returns-in-Birth : goal.returns-in-Birth
returns-in-Birth c = λ rs m. subst (λ (q : Record). IsMetOf (rs ++ q ∷ []) c.args.self.now) (sym c.in-Birth.is) (birth_brings rs c.in-Birth.node c.in-Birth.roster c.args.self.now m)

pub returns-in-OwnVoucher : goal.returns-in-OwnVoucher
returns-in-OwnVoucher c = λ rs m. subst (λ (q : Record). IsMetOf (rs ++ q ∷ []) c.args.self.now) (sym c.in-OwnVoucher.is) (voucher_brings rs c.in-OwnVoucher.voucher c.args.self.now m)

pub returns : goal.returns
returns c = λ rs m. subst (λ (q : Record). IsMetOf (rs ++ q ∷ []) c.args.self.now) (sym c.in-Conviction.is) (conviction_brings rs c.in-Conviction.proof c.args.self.now m)
