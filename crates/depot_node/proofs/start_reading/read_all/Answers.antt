use Rattle.std.proofs.Common.{Bool, sym, ap, subst, ◌∙◌}
use Rattle.std.proofs.lemmas.Result.{err_from_is_err_and}
use Rattle.depot_model.specs.checks.Checks.{Setting}
use Rattle.depot_model.specs.journals.Stops.{LeavesAll}
use Rattle.depot_model.specs.checks.RecordFaults.{AreTextsOf}
use Rattle.depot_node.specs.Holdings.{Holding, IsWhole, node_setting}
use Rattle.depot_node.proofs.RecordReads.{reading_begins, reading_ends, reading_goes_on, reading_is_shorter, reading_runs, reading_stands, reading_stops}
use Rattle.depot_node.proofs.start_reading.read_all.Given.{Over}
use Rattle.depot_node.proofs.start_reading.read_all.Goals as goal

-- the setting of the node
abbrev at : (g : Over) → Holding g.row.D.Denot → Setting
at g v = node_setting g.S.Scheme.verifies v

pub loop-init : goal.loop-init
loop-init g c = reading_begins (at g c.args.store.now) c.args.store.now c.requires.none

pub read_next-requires : goal.read_next-requires
read_next-requires g c = record { runs = reading_runs (at g c.args.store.now) c.args.store.now c.loop.store c.loop.invariant c.requires.runs }

pub loop-smaller : goal.loop-smaller
loop-smaller g c = reading_is_shorter (at g c.loop.store) c.loop.store c.read_next.new.store (c.in_ok-read_next.ensures.read c.if-branch.true)

pub loop-preserved : goal.loop-preserved
loop-preserved g c =
    reading_goes_on (at g c.args.store.now) (at g c.loop.store) c.args.store.now c.loop.store c.read_next.new.store c.loop.invariant (c.in_ok-read_next.ensures.read c.if-branch.true)
    (reading_stands g.S.Scheme.verifies (at g c.args.store.now) c.args.store.now c.loop.store c.loop.invariant)

-- ---- a record is refused

pub returns-in_err-read_next-clause-wrong : goal.returns-in_err-read_next-clause-wrong
returns-in_err-read_next-clause-wrong g c =
    let p = err_from_is_err_and c.from_residual.result c.from_residual.ensures.1 in
    rw (p.1, p.2) (reading_stops (at g c.args.store.now) (at g c.loop.store) c.args.store.now c.loop.store c.in_err-read_next.field-0.0 c.loop.invariant c.in_err-read_next.ensures.wrong
    (reading_stands g.S.Scheme.verifies (at g c.args.store.now) c.args.store.now c.loop.store c.loop.invariant))

pub returns-in_err-read_next-clause-stands : goal.returns-in_err-read_next-clause-stands
returns-in_err-read_next-clause-stands g c = ap (at g) c.in_err-read_next.ensures.same ∙ reading_stands g.S.Scheme.verifies (at g c.args.store.now) c.args.store.now c.loop.store c.loop.invariant

pub returns-in_err-read_next-clause-disk : goal.returns-in_err-read_next-clause-disk
returns-in_err-read_next-clause-disk g c = ap (λ (v : Holding g.row.D.Denot). v.disk) (c.in_err-read_next.ensures.same ∙ c.loop.invariant.same)

-- ---- all are read

pub returns-clause-read : goal.returns-clause-read
returns-clause-read g c =
    let end = c.in_ok-read_next.ensures.end c.if-branch.false in
    subst (λ (v : Holding g.row.D.Denot). AreTextsOf (at g c.args.store.now) v.records c.args.store.now.unread) (sym end.1) (reading_ends (at g c.args.store.now) c.args.store.now c.loop.store c.loop.invariant end.0)

pub returns-clause-whole : goal.returns-clause-whole
returns-clause-whole g c =
    let end = c.in_ok-read_next.ensures.end c.if-branch.false in
    subst (λ (v : Holding g.row.D.Denot). IsWhole v) (sym end.1) (record { runs = reading_runs (at g c.args.store.now) c.args.store.now c.loop.store c.loop.invariant c.requires.runs; read = end.0 })

pub returns-clause-stands : goal.returns-clause-stands
returns-clause-stands g c = ap (at g) (c.in_ok-read_next.ensures.end c.if-branch.false).1 ∙ reading_stands g.S.Scheme.verifies (at g c.args.store.now) c.args.store.now c.loop.store c.loop.invariant

pub returns-clause-disk : goal.returns-clause-disk
returns-clause-disk g c = ap (λ (v : Holding g.row.D.Denot). v.disk) ((c.in_ok-read_next.ensures.end c.if-branch.false).1 ∙ c.loop.invariant.same)

pub returns-clause-stable : goal.returns-clause-stable
returns-clause-stable g c =
    let end = c.in_ok-read_next.ensures.end c.if-branch.false in
    let none = ap (λ (v : Holding g.row.D.Denot). v.unread) end.1 ∙ end.0 in
    let runs = ap (λ (v : Holding g.row.D.Denot). v.stopped) end.1 ∙ reading_runs (at g c.args.store.now) c.args.store.now c.loop.store c.loop.invariant c.requires.runs in
    λ told. subst (λ (b : Bool). LeavesAll c.read_next.new.store.records b (g.D.Disk.may_leave c.read_next.new.store.disk)) runs (c.is_stopped-runs.ensures.stable none told)
