use Rattle.std.proofs.Common.{refl, ◌∙◌}
use Rattle.depot_model.specs.journals.Journal.{accepted}
use Rattle.depot_model.specs.readers.Pruning.{pruned}
use Rattle.depot_model.specs.readers.Readers.{kept}
use Rattle.depot_trim.proofs.ReaderTakes.{grown_lawful, records_taken, records_fit, few_accepted, few_foreign, grown_reader}
use Rattle.depot_trim.proofs.trimmed.Trimmed.grow.Goals as goal

pub grow-requires : goal.grow-requires
grow-requires g c = (c.requires.0.here, (c.requires.0.journal, (grown_lawful g.S.Scheme.verifies c.requires.0 c.args.self.now c.requires.1.0 c.args.growth c.requires.1.1, c.requires.1.0.counts)))

pub keep_in-requires-clause-taken : goal.keep_in-requires-clause-taken
keep_in-requires-clause-taken g c = records_taken g.S.Scheme.verifies c.requires.0 c.args.self.now c.requires.1.0 c.args.growth c.requires.1.1

pub keep_in-requires-clause-fits : goal.keep_in-requires-clause-fits
keep_in-requires-clause-fits g c = records_fit g.S.Scheme.verifies c.requires.0 c.args.self.now c.requires.1.0 c.args.growth c.requires.1.1

pub keep_in-requires-clause-few_accepted : goal.keep_in-requires-clause-few_accepted
keep_in-requires-clause-few_accepted g c = few_accepted g.S.Scheme.verifies c.requires.0 c.args.self.now c.requires.1.0

pub keep_in-requires-clause-few_foreign : goal.keep_in-requires-clause-few_foreign
keep_in-requires-clause-few_foreign g c = few_foreign g.S.Scheme.verifies c.requires.0 c.args.self.now c.requires.1.0

pub returns-clause-ok : goal.returns-clause-ok
returns-clause-ok g c R is m leaves =
    let t = c.args.self.now in
    let verifies = g.S.Scheme.verifies in
    grown_reader verifies R t is c.args.growth _ m (c.in_ok-keep_in.ensures.ok (pruned R.trimmed R.journal) is.state) c.in_ok-keep_in.ensures.stays refl
    (c.add.ensures.more (kept R) (accepted c.args.growth) (c.as_slice-2.ensures.value ∙ c.in-Ok.ensures) (c.reserve.ensures.stays (kept R) is.named))
    (c.grow.ensures R.here R.journal (grown_lawful verifies R t is c.args.growth m) is.counts leaves) refl
