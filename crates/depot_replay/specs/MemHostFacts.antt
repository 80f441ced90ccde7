-- That a disk is at rest and has the records of a journal, as a fact with at most one proof, so that a type can hold
-- it.
use Rattle.std.specs.Prelude.{◌≡◌, ℕ, List, refl}
use Rattle.std.specs.Coded.{Coded, Coded-set, code_by, coded×, coded_ℕ, coded_list, Π_prop, →_prop, le_prop}
use Rattle.depot_base.specs.declared.record.Record.{Record}
use Rattle.std.proofs.Common.{subst}
use Rattle.depot_base.specs.declared.key.RosterEntry.{RosterEntry}
use Rattle.depot_model.specs.exchange.Bundle.{Signs}
use Rattle.depot_model.specs.lists.Codes.{coded_roster_entry}
use Rattle.depot_model.specs.journals.Lawful.{IsLawful}
use Rattle.depot_model.specs.texts.Roster.{Verifies}
use Rattle.depot_outside.specs.Images.{Moment, Written}
use Rattle.depot_outside.specs.Stopping.{State}
use Rattle.depot_replay.specs.Disks.{IsAtRest}
use Rattle.depot_replay.specs.MemHosts.{IsKeptOn, StandIn}

coded_written : Coded Written
coded_written = code_by (ℕ × (ℕ × List ℕ)) (coded× coded_ℕ (coded× coded_ℕ (coded_list coded_ℕ))) (λ w. (w.at, (w.count, w.file))) (λ p. record { at = p.0; count = p.1.0; file = p.1.1 }) (λ _. refl)

coded_moment : Coded Moment
coded_moment = code_by (List ℕ × List Written) (coded× (coded_list coded_ℕ) (coded_list coded_written)) (λ m. (m.synced, m.writes)) (λ p. record { synced = p.0; writes = p.1 }) (λ _. refl)

at_rest-prop : (s : State) → IsProp (IsAtRest s)
at_rest-prop s a b = λ i. record {
  synced = Coded-set coded_moment _ _ a.synced b.synced i;
  faultless = Coded-set (coded_list coded_ℕ) _ _ a.faultless b.faultless i;
}

stand-prop : (file : List ℕ) (bodies : List (List ℕ)) → IsProp (StandIn file bodies)
stand-prop file bodies a b = λ i. record {
  inside = le_prop a.inside b.inside i;
  front = Coded-set (coded_list coded_ℕ) _ _ a.front b.front i;
  closed = →_prop (λ p q. absurd p) a.closed b.closed i;
}

pub IsKeptOn-prop : (s : State) (J : List Record) → IsProp (IsKeptOn s J)
IsKeptOn-prop s J a b = λ i. record {
  at_rest = at_rest-prop s a.at_rest b.at_rest i;
  stand = stand-prop s.file _ a.stand b.stand i;
  to_come = Π_prop (λ w. →_prop le_prop) a.to_come b.to_come i;
}

-- that two signers give the same, too
pub same_signs-prop : (a b : Signs) → IsProp ((seq : ℕ) (body : List ℕ) → a seq body ≡ b seq body)
same_signs-prop a b = Π_prop (λ seq. Π_prop (λ body. Coded-set (coded_list coded_ℕ) _ _))

pub is_node-prop : (a b : ℕ) → IsProp (a ≡ b)
is_node-prop a b = Coded-set coded_ℕ _ _

pub is_roster-prop : (a b : List RosterEntry) → IsProp (a ≡ b)
is_roster-prop a b = Coded-set (coded_list coded_roster_entry) _ _

-- what is lawful for a node is so for the same node
pub lawful_there : (verifies : Verifies) (me own : ℕ) (listed given : List RosterEntry) (J : List Record) → me ≡ own → listed ≡ given → IsLawful (record { verifies = verifies; me = me; listed = listed }) J → IsLawful (record { verifies = verifies; me = own; listed = given }) J
lawful_there verifies me own listed given J is_me is_listed l =
    subst (λ (m : ℕ). IsLawful (record { verifies = verifies; me = m; listed = given }) J) is_me (subst (λ (r : List RosterEntry). IsLawful (record { verifies = verifies; me = me; listed = r }) J) is_listed l)
