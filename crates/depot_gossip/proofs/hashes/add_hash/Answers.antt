use Rattle.std.proofs.Common.{List, ℕ, [], ◌∷◌, sym, subst}
use Rattle.depot_gossip.proofs.HashLaws.{inserted}
use Rattle.depot_gossip.proofs.hashes.add_hash.Goals as goal
use Rattle.depot_model.specs.lists.Lists.{AreTogether}

pub returns-in-Ok : goal.returns-in-Ok
returns-in-Ok c = subst (λ (ks : List (List ℕ)). AreTogether c.args.hashes.now.keys (c.args.hash ∷ []) ks) (sym c.in-Ok.ensures.keys) (inserted c.args.hashes.now.keys c.args.hash)
