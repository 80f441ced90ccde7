-- An unchanged node serves as it did.
use Rattle.std.proofs.Common.{◌≡◌, refl, ap, ◌∙◌}
use Rattle.depot_model.specs.exchange.Bundle.{Signs}
use Rattle.depot_model.specs.checks.Checks.{Setting}
use Rattle.depot_model.specs.journals.Replicas.{IsSameNode}
use Rattle.depot_model.specs.declared.node_state.NodeState.{Ghosts}
use Rattle.depot_session.specs.Answering.{serves_at, serves_of}

pub same_before : {N : Type 0} (g : Ghosts N) (n : N) → IsSameNode g n n
same_before g n = record { stands = refl; key = refl; signs = refl }

pub same_behind : {N : Type 0} (g : Ghosts N) (old mid new : N) → IsSameNode g old mid → IsSameNode g mid new → IsSameNode g old new
same_behind g old mid new one two = record { stands = two.stands ∙ one.stands; key = two.key ∙ one.key; signs = two.signs ∙ one.signs }

pub serves_so : {N : Type 0} (g : Ghosts N) (old new : N) → IsSameNode g old new → serves_of g new ≡ serves_of g old
serves_so g old new same =
    ap (λ (here : Setting). serves_at here (g.signature_of new)) same.stands ∙ ap (λ (sign : Signs). serves_at (g.stands old) sign) same.signs
