use Rattle.std.proofs.Common.{ap, refl, ◌∙◌}
use Rattle.std.proofs.lemmas.Result.{on_ok_weaker}
use Rattle.sha2.specs.Sha256.{sha256}
use Rattle.depot_model.specs.worlds.Causality.{puts_of}
use Rattle.depot_model.specs.journals.Journal.{accepted}
use Rattle.depot_audit.proofs.MetRecords.{body_id, foreign_brings, vouching_brings}
use Rattle.depot_audit.proofs.met.Met.take_foreign.Goals as goal

pub add-requires : goal.add-requires
add-requires c = c.hash_of.ensures ∙ ap sha256 c.as_slice.ensures ∙ body_id c.args.signed c.in-Update.update c.requires c.in-Update.is

pub returns-in-Update : goal.returns-in-Update
returns-in-Update c =
    on_ok_weaker c.add.result (λ more rs m.
    foreign_brings rs c.args.signed c.in-Update.update c.args.self.now (record { updates = c.add.new.self; values = c.args.self.now.values }) c.in-Update.is refl (more (accepted rs) (puts_of rs)) m)
    c.add.ensures

pub returns : goal.returns
returns c = λ rs m. vouching_brings rs c.args.signed c.in-Voucher.field-0 c.args.self.now c.in-Voucher.is m
