use Rattle.std.proofs.Common.{inr, refl}
use Rattle.std.proofs.lemmas.Result.{IfOk-weaker}
use Rattle.depot_outside.specs.Told.{loads, shelves}
use Rattle.depot_cli.proofs.AuditRuns.{audits_later, loaded_later}
use Rattle.depot_cli.proofs.NodeRuns.{same_shelves}
use Rattle.depot_cli.proofs.audit_command.audit.Goals as goal

pub returns-in-Ok-clause-audits : goal.returns-in-Ok-clause-audits
returns-in-Ok-clause-audits g c =
    let old = c.args.shelf.now in
    let mid = c.load.new.shelf in
    let last = c.audit_files.new.shelf in
    let text = rw c.in-Some.is at c.in_ok-text.ensures in
    let same = same_shelves g.F.Shelf old mid last c.load.ensures.tells c.load.ensures.files text.calm text.loaded.1 in
    let found = (rw c.as_slice.ensures at c.in-Ok.ensures).found c.in-Ok.listed refl in
    IfOk-weaker c.audit_files.result _ _ (λ o answered. audits_later (shelves g.F.Shelf mid last) (shelves g.F.Shelf old last) (loads g.F.Shelf mid last) (loads g.F.Shelf old last) c.in-Ok.listed c.args.roster.now c.as_slice-in-Ok.result.now c.args.traces.now o.status o.text
    same c.as_slice-in-Ok.ensures.same c.load.ensures.loads refl (λ told. record { bytes = c.in-Some.text; there = text.loaded.0 told; holds = record { fits = found.0; is = found.1 } }) answered) c.audit_files.ensures.answers

pub returns-in-Ok-clause-loads : goal.returns-in-Ok-clause-loads
returns-in-Ok-clause-loads g c =
    let old = c.args.shelf.now in
    let mid = c.load.new.shelf in
    let last = c.audit_files.new.shelf in
    let text = rw c.in-Some.is at c.in_ok-text.ensures in
    let same = same_shelves g.F.Shelf old mid last c.load.ensures.tells c.load.ensures.files text.calm text.loaded.1 in
    let found = (rw c.as_slice.ensures at c.in-Ok.ensures).found c.in-Ok.listed refl in
    inr (
      c.in-Ok.listed,
      (
        (λ told. record { bytes = c.in-Some.text; there = text.loaded.0 told; holds = record { fits = found.0; is = found.1 } }),
        loaded_later (shelves g.F.Shelf mid last) (shelves g.F.Shelf old last) (loads g.F.Shelf mid last) (loads g.F.Shelf old last) c.in-Ok.listed c.args.roster.now c.as_slice-in-Ok.result.now c.args.traces.now
            same c.as_slice-in-Ok.ensures.same c.load.ensures.loads refl c.audit_files.ensures.loads,
      ),
    )
