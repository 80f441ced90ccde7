use Rattle.std.proofs.Common.{rules, ◌≡◌, refl, ◌∙◌, ap}
use Rattle.depot_outside.specs.Images.{Moments, after_sync}
use Rattle.depot_outside.specs.Stopping.{state_of}
use Rattle.depot_outside.specs.declared.stops.Image.TheVariants as image
use Rattle.depot_outside.proofs.Blank.{stop_within}
use Rattle.depot_outside.proofs.Calling.{as_failed_sync, as_sync}
use Rattle.depot_outside.proofs.mem_disk.MemDiskDisk.sync.Goals as goal

pub returns-in_err-begin-clause-made : goal.returns-in_err-begin-clause-made
returns-in_err-begin-clause-made c =
    let was = c.in_err-begin.ensures in
    rw c.from_residual.ensures.0 (was.outcome, was.state ∙ as_failed_sync (state_of c.args.self.now))

pub returns-clause-images : goal.returns-clause-images
returns-clause-images c =
    let old = c.args.self.now.file in
    let new = c.sync.new.self in
    let same : c.begin.new.self.file ≡ old = search rules in
    let moments : new.history.moments ≡ after_sync old.history.moments new.bytes.items = search rules in
    stop_within image.Written old.history.moments new.history.moments old.bytes.items new.bytes.items old.lead (search rules) moments

pub returns-clause-made : goal.returns-clause-made
returns-clause-made c =
    let was = c.in_ok-begin.ensures in
    (was.outcome, as_sync (state_of c.args.self.now) (state_of c.begin.new.self) _ was.outcome was.state refl refl refl c.sync.ensures.bytes (ap (λ (m : Moments). m.now) c.sync.ensures.moments))
