use Rattle.depot_queries.specs.HolderLists.{holders_of}
use Rattle.depot_queries.proofs.HolderLaws.{noted_more}
use Rattle.depot_queries.proofs.holders.Holders.note_each.Goals as goal

pub loop-id-preserved : goal.loop-id-preserved
loop-id-preserved c = record {
  noted = λ other.
      noted_more c.args.ids.now c.loop-id.id-index c.id-item.result other (holders_of c.args.self.now other) (holders_of c.loop-id.self other) (holders_of c.note.new.self other) c.args.node c.loop-id-test.true c.id-item.is
      (c.loop-id.invariant.noted other) (c.note.ensures.noted other);
  places = λ other had. c.note.ensures.places other (c.loop-id.invariant.places other had);
}
