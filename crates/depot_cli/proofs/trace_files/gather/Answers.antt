use Rattle.std.proofs.Common.{◌+◌, ◌++◌, ◌∷◌, [], ℕ, List, take, subst, sym}
use Rattle.depot_base.proofs.GeneralLaws.{take_next}
use Rattle.depot_traces.specs.declared.trace.Trace.{Trace}
use Rattle.depot_cli.proofs.HandedTraces.{AreSoFar, one_more, refused_at}
use Rattle.depot_cli.proofs.trace_files.gather.Goals as goal

pub returns-in-Refused-clause-gathered : goal.returns-in-Refused-clause-gathered
returns-in-Refused-clause-gathered g c =
    let told = rw (c.in-Refused.is, c.as_slice.ensures) at c.in_ok-trace.ensures in
    refused_at g.F.Shelf c.args.roster.now c.args.shelf.now c.loop-place.shelf c.take_file.new.shelf c.args.names.now c.loop-place.place c.loop-place.traces c.index-names-place.result c.in-Refused.why
    c.loop-place-test.true c.index-names-place.is c.loop-place.invariant told.taken told.calm c.take_file.ensures.loads

pub loop-place-preserved : goal.loop-place-preserved
loop-place-preserved g c =
    let names = c.args.names.now in
    let told = rw (c.in-Trace.is, c.as_slice.ensures) at c.in_ok-trace.ensures in
    subst (λ (ts : List Trace). AreSoFar g.F.Shelf c.args.roster.now c.args.shelf.now c.take_file.new.shelf (take (c.loop-place.place + 1) names) ts) (sym c.in_ok-push-in-Trace.ensures.ok)
    (subst (λ (front : List (List ℕ)). AreSoFar g.F.Shelf c.args.roster.now c.args.shelf.now c.take_file.new.shelf front (c.loop-place.traces ++ c.in-Trace.trace ∷ [])) (sym (take_next names c.loop-place.place c.index-names-place.result c.loop-place-test.true c.index-names-place.is))
    (one_more g.F.Shelf c.args.roster.now c.args.shelf.now c.loop-place.shelf c.take_file.new.shelf (take c.loop-place.place names) c.loop-place.traces c.index-names-place.result c.in-Trace.trace c.loop-place.invariant told.taken.0 told.taken.1 c.take_file.ensures.loads c.take_file.ensures.stores c.take_file.ensures.files c.take_file.ensures.tells told.calm))
