-- What is read off records.
use Rattle.std.specs.Prelude.{◌≡◌, ℕ, List, ◌++◌, length}
use Rattle.depot_base.specs.declared.record.Record.{Record}
use Rattle.depot_model.specs.journals.Journal.{accepted, held, value_with}
use Rattle.depot_model.specs.journals.Lawful.{IsLawful}
use Rattle.depot_model.specs.texts.Records.{journal_bytes}
use Rattle.depot_model.specs.texts.Roster.{Verifies}
use Rattle.depot_accept.specs.StateView.{View, IsStateOf, setting}
use Rattle.depot_kept.specs.Values as values
use Rattle.depot_kept.specs.declared.values.Values.{Values}
use Rattle.depot_readings.specs.FrontPlaces.{AreFrontPlaces}
use Rattle.depot_readings.specs.Lacking.{AreLacked}
use Rattle.depot_readings.specs.Named.{AreNamed}
use Rattle.depot_readings.specs.OwnIds.{AreMine}
use Rattle.depot_readings.specs.Places.{accept_places}
use Rattle.depot_readings.specs.Totals.{AreTotals}
use Rattle.depot_readings.specs.declared.front_places.FrontPlaces.{FrontPlaces}
use Rattle.depot_readings.specs.declared.named.NamedValues.{NamedValues}
use Rattle.depot_readings.specs.declared.parts.ReadingsParts.{ReadingsParts}
use Rattle.depot_readings.specs.declared.totals.Totals.{Totals}

-- What is kept is that of these records.
pub record IsKeptOf {S : Type 0} (J : List Record) (v : View S) (kept : Values) (t : Totals) : Type 0 where
  pub state : IsStateOf J v
  pub values : (hash : List ℕ) → values.held_in kept hash ≡ value_with hash (held J)
  pub totals : AreTotals v.me J t

-- What is kept is that of a journal which is lawful with these records after it.
abbrev pub MayKeep : {S : Type 0} → Verifies → View S → Values → Totals → List Record → Type 0
MayKeep verifies v kept t new = (J : List Record) × (IsKeptOf J v kept t × IsLawful (setting verifies v) (J ++ new))

-- For every journal of which it was kept, it is now kept of that journal with these records after it.
abbrev pub KeepsRecords : {S : Type 0} → Verifies → View S → Values → Totals → List Record → View S → Values → Totals → Type 0
KeepsRecords verifies v kept t new w kept_then u = (J : List Record) → IsKeptOf J v kept t → IsLawful (setting verifies v) (J ++ new) → IsKeptOf (J ++ new) w kept_then u

-- For every journal of which it was kept, it is now kept of that journal with these records after it.
abbrev pub StillKeeps : {S : Type 0} → View S → Values → Totals → View S → Values → Totals → Type 0
StillKeeps v kept t w kept_then u = (J : List Record) → IsKeptOf J v kept t → IsKeptOf J w kept_then u

-- All that is read off records, that of these: what the checks look at, the values, the counts, the values that updates
-- name, those of them that aren't held, the places of the records that accepted the updates, the ids that own vouchers
-- name, and the places of what bundles begin with.
pub record AreReadings {S : Type 0} (J : List Record) (v : View S) (kept : Values) (t : Totals) (named lacking : NamedValues)
    (places : List ℕ) (ids : List (List ℕ)) (front : FrontPlaces) : Type 0 where
  pub read : IsKeptOf J v kept t
  pub names : AreNamed (accepted J) named
  pub lacked : AreLacked J lacking
  pub accepting : places ≡ accept_places J
  pub mine : AreMine J ids
  pub fronts : AreFrontPlaces J front

abbrev pub AreParts : {S : Type 0} → List Record → ReadingsParts S → Type 0
AreParts J p = AreReadings J p.kept.state p.kept.values p.kept.totals p.named p.lacking p.places.places p.mine.ids p.front

-- They are those of this many records, which make a lawful journal with these after.
abbrev pub MayRead : {S : Type 0} → Verifies → ReadingsParts S → ℕ → List Record → Type 0
MayRead verifies p count new = (J : List Record) × (AreParts J p × ((count ≡ length J) × IsLawful (setting verifies p.kept.state) (J ++ new)))

-- For all lists of this many records of which they were read, they are now read of these and the new ones.
abbrev pub ReadsMore : {S : Type 0} → Verifies → ReadingsParts S → ℕ → List Record → ReadingsParts S → Type 0
ReadsMore verifies p count new then = (J : List Record) → AreParts J p → count ≡ length J → IsLawful (setting verifies p.kept.state) (J ++ new) → AreParts (J ++ new) then

-- For all records of which they were read, they still are.
abbrev pub ReadsStill : {S : Type 0} → ReadingsParts S → ReadingsParts S → Type 0
ReadsStill p then = (J : List Record) → AreParts J p → AreParts J then

-- There are this many of these records, they take this many bytes in a journal, and they make a lawful one.
pub record AreCounted {S : Type 0} (verifies : Verifies) (J : List Record) (v : View S) (count bytes : ℕ) : Type 0 where
  pub records : count ≡ length J
  pub size : bytes ≡ journal_bytes J
  pub lawful : IsLawful (setting verifies v) J
