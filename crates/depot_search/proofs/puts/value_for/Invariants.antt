use Rattle.std.proofs.Common.{◌≡◌, drop}
use Rattle.depot_model.specs.texts.Contents.{value_for}
use Rattle.depot_search.proofs.puts.value_for.Given as goal

abbrev pub invariant-loop-write : goal.invariant-loop-write
invariant-loop-write l = value_for l.key (drop l.write-index l.writes) l.rest ≡ value_for l.key l.writes l.values
