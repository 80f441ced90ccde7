use Rattle.std.proofs.Common.{rules, ◌≡◌, ◌∙◌, ap, length}
use Rattle.depot_base.specs.Disk.{IsTorn, IsWritten}
use Rattle.depot_outside.specs.Images.{written_at}
use Rattle.depot_outside.specs.StopImages.{left_by}
use Rattle.depot_outside.proofs.Undone.{can_undo, left_is, logged_write}
use Rattle.depot_outside.proofs.Written.{written_is_torn}
use Rattle.depot_outside.proofs.mem_file.MemFile.stop_after_write.Goals as goal

pub leave-requires : goal.leave-requires
leave-requires c =
    let old = c.args.self.now in
    let new = c.overwrite.new.file in
    let whole : c.deref.result.now ≡ old.bytes.items = search rules in
    let put : IsWritten old.bytes.items c.args.at c.args.bytes.now new.items = search rules in
    can_undo (written_at old.history.moments.now old.bytes.items c.args.at (length c.args.bytes.now)).writes _ _ _ (logged_write old.history.moments.now.writes old.log.writes.items c.note.new.self.writes.items old.bytes.items new.items c.args.bytes.now old.log.bytes.items c.note.new.self.bytes.items c.deref.result.now c.args.at c.requires.inside put whole c.note.ensures.writes c.note.ensures.bytes old.logged)

pub returns-clause-bytes : goal.returns-clause-bytes
returns-clause-bytes c =
    let old = c.args.self.now in
    let new = c.overwrite.new.file in
    let whole : c.deref.result.now ≡ old.bytes.items = search rules in
    let put : IsWritten old.bytes.items c.args.at c.args.bytes.now new.items = search rules in
    let torn : IsTorn c.args.at (length c.args.bytes.now) old.bytes.items new.items = written_is_torn _ _ _ _ c.requires.inside put in
    let moment = written_at old.history.moments.now old.bytes.items c.args.at (length c.args.bytes.now) in
    let logged = logged_write old.history.moments.now.writes old.log.writes.items c.note.new.self.writes.items old.bytes.items new.items c.args.bytes.now old.log.bytes.items c.note.new.self.bytes.items c.deref.result.now c.args.at c.requires.inside put whole c.note.ensures.writes c.note.ensures.bytes old.logged in
    c.leave.ensures.left ∙ left_is c.args.image moment _ _ _ (torn, old.lead) logged ∙ ap (left_by c.args.image moment) put
