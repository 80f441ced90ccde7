-- A world without forged signatures and colliding hashes is fork-join causal.
use Rattle.depot_model.specs.lists.Lists.{IsIn}
use Rattle.depot_model.specs.worlds.World.{Correct, World, setting_of, IsWorld, IsAuthentic, IsCollisionFree}
use Rattle.depot_model.specs.worlds.Causality.{HasForests, IsForkJoinCausal}
use Rattle.depot_laws.proofs.convicting.ContraryConvict.{contrary_convict}
use Rattle.depot_laws.proofs.orders.ChainLaws.{forests, one_chain}
use Rattle.depot_laws.proofs.of_worlds.Worlds.{one_text, journal_lawful}
use Rattle.depot_laws.proofs.of_worlds.Observed.{strict}
use Rattle.depot_laws.proofs.of_worlds.Traces.{writes_follow}
use Rattle.depot_laws.proofs.of_worlds.TraceLines.{line}
use Rattle.depot_laws.proofs.of_worlds.Exact.{exact}

pub has_forests : (W : World) → IsWorld W → (c : Correct) → IsIn c W.nodes → HasForests c.journal
has_forests W world c c_on =
    let l = journal_lawful W world c c_on in
    record {
      prev = forests (setting_of W c) c.journal l;
      chain = one_chain (setting_of W c) c.journal l;
      exposed = contrary_convict (setting_of W c) c.journal l;
    }

pub fork_join_causal : (W : World) → IsWorld W → IsAuthentic W → IsCollisionFree W → IsForkJoinCausal W
fork_join_causal W world authentic free = record {
  strict = strict W world (one_text W free);
  lines = line W world;
  causes = writes_follow W world;
  reads = exact W world authentic (one_text W free);
  forests = has_forests W world;
}
