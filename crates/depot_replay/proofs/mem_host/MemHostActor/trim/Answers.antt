use Rattle.std.proofs.Common.{subst, sym, ◌∙◌}
use Rattle.depot_model.specs.checks.Checks.{Setting}
use Rattle.depot_model.specs.readers.Readers.{trim_of}
use Rattle.depot_simulation.specs.Readers.{HasTrimmed}
use Rattle.depot_trim.specs.ReaderView.{IsReaderOf}
use Rattle.depot_replay.proofs.MemHostEvents.{same_setting}
use Rattle.depot_replay.proofs.mem_host.MemHostActor.trim.Goals as goal

pub make_reader-requires-clause-runs : goal.make_reader-requires-clause-runs
make_reader-requires-clause-runs g c = c.args.self.now.runs

pub make_reader-requires-clause-roster : goal.make_reader-requires-clause-roster
make_reader-requires-clause-roster g c = sym c.args.self.now.is_listed

pub returns : goal.returns
returns g c =
    let a = c.args.self.now in
    let n = a.node in
    let there = same_setting g.S.Scheme.verifies n.store.me a.start_config.me n.store.listed a.start_config.roster a.is_me a.is_listed in
    subst (λ (h : Setting). HasTrimmed (λ r x. IsReaderOf g.S.Scheme.verifies r x.trimmed) (trim_of h n.store.records c.args.text.now) c.trimming.result) there
    (record { reply_is = c.trimming.ensures.reply ∙ c.in_ok-made.ensures.reply_is; reader_is = c.trimming.ensures.reader _ c.in_ok-made.ensures.keeps })
