use Rattle.std.proofs.Common.{◌∙◌}
use Rattle.depot_queries.proofs.ReadLaws.{says_nothing}
use Rattle.depot_trim.proofs.ReaderValues.{no_value_of, value_of}
use Rattle.depot_trim.proofs.trimmed.Trimmed.value_of.Goals as goal

pub unreachable-requires : goal.unreachable-requires
unreachable-requires g c =
    let R = c.requires.item.0 in
    let r = c.requires.item.1.0 in
    says_nothing R.journal c.args.key.now c.update.result.now c.args.item (c.update.ensures R r) (λ u at. c.requires.writes R u r at) (rw c.bytes.ensures.same at c.in_default.ensures)

pub returns-in_default-named : goal.returns-in_default-named
returns-in_default-named g c = λ R u r is. no_value_of R c.args.key.now c.update.result.now u c.args.item c.in-Some.wrote (c.update.ensures R r) is (rw c.bytes.ensures.same at c.in-Some.ensures) c.in_default-named.ensures

pub returns : goal.returns
returns g c = λ R u r is.
    c.held_as.ensures R.held r.values ∙ value_of R c.args.key.now c.update.result.now u c.args.item c.in-Some.wrote c.in-Some-named.name (c.update.ensures R r) is (rw c.bytes.ensures.same at c.in-Some.ensures) c.in-Some-named.ensures
