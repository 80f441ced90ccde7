use Rattle.std.proofs.Common.{rules, ◌≡◌, length, reverse, sym, subst}
use Rattle.depot_base.specs.Disk.{IsTorn, IsWritten}
use Rattle.depot_outside.specs.Images.{LeadTo, Moments, after_write}
use Rattle.depot_outside.specs.Undo.{AreLogged}
use Rattle.depot_outside.proofs.Undone.{logged_write}
use Rattle.depot_outside.proofs.Written.{written_is_torn}
use Rattle.depot_outside.proofs.mem_file.MemFile.write.Goals as goal

pub invariant_of-self : goal.invariant_of-self
invariant_of-self c =
    let old = c.args.self.now in
    let new = c.overwrite.new.file in
    let whole : c.deref.result.now ≡ old.bytes.items = search rules in
    let same : c.deref-2.result.now ≡ old.bytes.items = search rules in
    let put : IsWritten old.bytes.items c.args.at c.args.bytes.now new.items = search rules in
    let torn : IsTorn c.args.at (length c.args.bytes.now) old.bytes.items new.items = written_is_torn _ _ _ _ c.requires.inside put in
    let moments : c.note_write.new.self.moments ≡ after_write old.history.moments old.bytes.items c.args.at (length c.args.bytes.now) = search rules in
    let logged = logged_write old.history.moments.now.writes old.log.writes.items c.note.new.self.writes.items old.bytes.items new.items c.args.bytes.now old.log.bytes.items c.note.new.self.bytes.items c.deref.result.now c.args.at c.requires.inside put whole c.note.ensures.writes c.note.ensures.bytes old.logged in
    record {
      lead = subst (λ (m : Moments). LeadTo m.now.synced m.now.writes new.items) (sym moments) (torn, old.lead);
      logged = subst (λ (m : Moments). AreLogged m.now.writes (reverse c.note.new.self.writes.items) c.note.new.self.bytes.items new.items) (sym moments) logged;
    }
