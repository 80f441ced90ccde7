-- Traces get yes just where they make a world with the property in which no conviction names a node.
use Rattle.std.proofs.Common.{◌≡◌, List, [], map, true, ap}
use Rattle.depot_base.specs.declared.key.RosterEntry.{RosterEntry}
use Rattle.depot_model.specs.lists.Lists.{IsIn}
use Rattle.depot_model.specs.lists.Items.{AreDistinct}
use Rattle.depot_model.specs.texts.Roster.{Verifies, has_node}
use Rattle.depot_model.specs.worlds.World.{World}
use Rattle.depot_model.specs.worlds.Audit.{yes_found}
use Rattle.depot_model.specs.worlds.Traces.{Trace, IsFindingOf, IsCausalWorldOf}
use Rattle.depot_laws.proofs.of_audits.TracedWorlds.{traced_is_world}
use Rattle.depot_laws.proofs.of_audits.AuditLaws.{says_yes, yes_is_causal}

module _ (verifies : Verifies) (listed : List RosterEntry) (traces : List Trace) (apart : AreDistinct (map (λ t. t.node) traces)) (members : (t : Trace) → IsIn t traces → has_node listed t.node ≡ true) (some : (t : Trace) → IsIn t traces → t.texts ≡ [] → ⊥) where
  pub yes_to : IsFindingOf verifies listed traces yes_found → IsCausalWorldOf verifies listed traces
  yes_to (W, (a, is)) =
      let world = traced_is_world verifies listed traces W apart members some a in
      let both = yes_is_causal W world (ap (λ (x : World). x.judged) a.is) is in
      record { world = W; traced = a; is_world = world; causal = both.0; named = both.1 }

  pub yes_from : IsCausalWorldOf verifies listed traces → IsFindingOf verifies listed traces yes_found
  yes_from c = (c.world, (c.traced, says_yes c.world c.is_world c.causal c.named))
