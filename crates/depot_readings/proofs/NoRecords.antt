-- What is read off no records.
use Rattle.std.proofs.Common.{◌≡◌, ℕ, false, List, [], None, refl}
use Rattle.depot_model.specs.exchange.Bundle.{records_where}
use Rattle.depot_model.specs.journals.Journal.{accepted, first_values, is_wanted}
use Rattle.depot_accept.specs.StateView.{View, IsStateOf}
use Rattle.depot_kept.specs.Values.{held_in}
use Rattle.depot_kept.specs.declared.values.Values.{Values}
use Rattle.depot_readings.specs.ReadingsParts.{AreReadings, IsKeptOf}
use Rattle.depot_readings.specs.FrontPlaces.{AreFrontPlaces}
use Rattle.depot_readings.specs.Lacking.{AreLacked}
use Rattle.depot_readings.specs.Named.{AreNamed, has_named_value}
use Rattle.depot_readings.specs.Places.{accept_places}
use Rattle.depot_readings.specs.Totals.{AreTotals}
use Rattle.depot_readings.specs.declared.front_places.FrontPlaces.{FrontPlaces}
use Rattle.depot_readings.specs.declared.named.NamedValues.{NamedValues}
use Rattle.depot_readings.specs.declared.totals.Totals.{Totals}
use Rattle.depot_readings.proofs.OwnIdLaws.{mine_of_none}

kept_none : {S : Type 0} (v : View S) (kept : Values) (t : Totals) → IsStateOf [] v → ((hash : List ℕ) → held_in kept hash ≡ None) → AreTotals v.me [] t → IsKeptOf [] v kept t
unfolding first_values
kept_none v kept t state values totals = record { state = state; values = values; totals = totals }

named_none : (named : NamedValues) → ((hash : List ℕ) (size : ℕ) → has_named_value named hash size ≡ false) → AreNamed (accepted []) named
unfolding is_wanted
named_none named empty = record { are = empty }

lacked_none : (lacking : NamedValues) → ((hash : List ℕ) (size : ℕ) → has_named_value lacking hash size ≡ false) → AreLacked [] lacking
unfolding is_wanted
lacked_none lacking empty = record { are = empty }

no_places : (places : List ℕ) → places ≡ [] → places ≡ accept_places []
unfolding records_where
no_places places none = none

-- a state of no records, no values, counts of none, no names, no places, no ids and nothing at the front
pub readings_none : {S : Type 0} (v : View S) (kept : Values) (t : Totals) (named lacking : NamedValues) (places : List ℕ) (ids : List (List ℕ)) (front : FrontPlaces) → IsStateOf [] v → ((hash : List ℕ) → held_in kept hash ≡ None) → AreTotals v.me [] t
    → ((hash : List ℕ) (size : ℕ) → has_named_value named hash size ≡ false) → ((hash : List ℕ) (size : ℕ) → has_named_value lacking hash size ≡ false) → places ≡ [] → ids ≡ [] → AreFrontPlaces [] front → AreReadings [] v kept t named lacking places ids front
readings_none v kept t named lacking places ids front state values totals no_names none_lacking no_place no_id none_in_front = record {
  read = kept_none v kept t state values totals;
  names = named_none named no_names;
  lacked = lacked_none lacking none_lacking;
  accepting = no_places places no_place;
  mine = mine_of_none [] ids refl no_id;
  fronts = none_in_front;
}
