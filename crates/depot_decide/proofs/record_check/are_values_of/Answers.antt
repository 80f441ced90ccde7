use Rattle.std.proofs.Common.{◌+◌, ◌∷◌, true, false, drop, sym, ap, ◌∙◌}
use Rattle.std.proofs.lemmas.List.{drop_all}
use Rattle.sha2.specs.Sha256.{sha256}
use Rattle.depot_decide.proofs.PutValues.{AreLeft, next_left, past_value, other_value, all_hashed, told_by_hashes}
use Rattle.depot_decide.proofs.record_check.are_values_of.Goals as goal
use Rattle.depot_decide.proofs.record_check.are_values_of.Goals.{In-Some-get}

-- the write and the value that are looked at are before what is left
in_front : (c : In-Some-get) → AreLeft c.args.writes.now c.args.values.now (c.write-item.result ∷ drop (c.loop-write.write-index + 1) c.args.writes.now) (c.in-Some-get.value.now ∷ drop (c.loop-write.place + 1) c.args.values.now)
in_front c =
    rw (sym (next_left c.args.writes.now c.loop-write.write-index c.write-item.result c.loop-write-test.true c.write-item.is), sym (next_left c.args.values.now c.loop-write.place c.in-Some-get.value.now c.in-Some-get.ensures.lookup.3.0 c.in-Some-get.ensures.lookup.1))
    c.loop-write.invariant

pub returns-then-ne : goal.returns-then-ne
returns-then-ne c =
    told_by_hashes c.args.writes.now c.args.values.now false c.requires
    (other_value c.args.writes.now c.args.values.now c.write-item.result c.in-Some.name _ c.in-Some-get.value.now _ c.hash_of.result c.ne.result c.in-Some.ensures (c.hash_of.ensures ∙ ap sha256 c.bytes.ensures.same) c.ne.ensures c.if-ne.true
    (in_front (goal.at.returns-then-ne c).In-Some-get))

pub loop-write-preserved : goal.loop-write-preserved
loop-write-preserved c =
    past_value c.args.writes.now c.args.values.now c.write-item.result c.in-Some.name _ c.in-Some-get.value.now _ c.hash_of.result c.ne.result c.in-Some.ensures (c.hash_of.ensures ∙ ap sha256 c.bytes.ensures.same) c.ne.ensures c.if-ne.false
    (in_front (goal.at.loop-write-preserved c).In-Some-get)

pub returns : goal.returns
returns c =
    told_by_hashes c.args.writes.now c.args.values.now true c.requires
    (all_hashed c.args.writes.now c.args.values.now _ _ (drop_all c.loop-write.write-index c.args.writes.now c.loop-write-test.false) c.loop-write.invariant)
