-- The updates and values that are chosen for a bundle.
use Rattle.std.specs.Prelude.{◌≡◌, ℕ, ◌+◌, List, [], ◌∷◌, ◌++◌, length, map, filter, Bool, true, false, nat_lt, not, ◌==◌, Option, Some, None, option_to_list, slice_get, Result, Ok, Err}
use Rattle.std.specs.List.{flat_map}
use Rattle.sha2.specs.Sha256.{sha256}
use Rattle.depot_base.specs.declared.update.NamedValue.{NamedValue}
use Rattle.depot_base.specs.declared.update.Update.{Update}
use Rattle.depot_base.specs.declared.record.Record.{Record}
use Rattle.depot_model.specs.declared.hello.Hello.{Hello}
use Rattle.depot_model.specs.declared.node_state.NodeState.{Ghosts}
use Rattle.depot_model.specs.lists.Lists.{is_among, AreTogether}
use Rattle.depot_model.specs.texts.Texts.{id_of_update}
use Rattle.depot_model.specs.journals.Journal.{accepted_by}
use Rattle.depot_model.specs.texts.Frames.{text_of_frame}
use Rattle.depot_model.specs.exchange.Bundle.{Parcel, Signs, candidate_parcel, candidate_parcels, hashes_of, parcels, sent_for, values_behind, wanted_parcel}
use Rattle.depot_streams.specs.declared.sending.Sending.{Sending}
use Rattle.depot_streams.specs.Sendings.{DoFit, Holds, parcel_frames, IsShort, HasNoRoom}

-- ---- parcels that are chosen

-- A prefix of all these parcels is chosen, and the next one wouldn't fit.
pub record IsCutAt (me : ℕ) (all : List Parcel) (s : Sending) : Type 0 where
  pub sent : List Parcel
  pub next : Parcel
  pub left : List Parcel
  pub is : all ≡ sent ++ next ∷ left
  pub holds : Holds me sent s
  pub over : DoFit (sent ++ next ∷ []) → ⊥

-- all of these parcels are chosen, or they were cut
abbrev pub Carries : ℕ → List Parcel → Sending → Bool → Type 0
Carries me all s true = Holds me all s
Carries me all s false = IsCutAt me all s

-- the same of an answer
abbrev pub AddsTo : {E : Type 0} → ℕ → List Parcel → Sending → Result Bool E → Type 0
AddsTo me all s (Ok fits) = Carries me all s fits
AddsTo me all s (Err e) = Unit {0}

-- Whatever parcels were chosen before: with these appended, all are chosen or cut.
abbrev pub AddsBehind : {E : Type 0} → ℕ → Sending → List Parcel → Sending → Result Bool E → Type 0
AddsBehind me s more t result = (xs : List Parcel) → Holds me xs s → AddsTo me (xs ++ more) t result

-- of what there is to send for a hello something isn't sent
abbrev pub leaves_out : Signs → List Record → Hello → Bool
leaves_out sign J h = nat_lt (length (sent_for sign J h)) (length (parcels sign J h))

-- ---- one parcel more

-- the frames of a candidate, and the ids of its updates by others, are appended
pub record HasAddedFound (s t : Sending) (statements behind more : List (List ℕ)) : Type 0 where
  pub frames : t.frames ≡ s.frames ++ flat_map text_of_frame (parcel_frames statements behind)
  pub updates : t.updates ≡ s.updates + length statements
  pub values : t.values ≡ s.values + length behind
  pub ids : t.ids ≡ s.ids ++ more
  pub short : IsShort t

-- both were added, or there is no room for the frames
abbrev pub AddsFound : {E : Type 0} → Sending → List (List ℕ) → List (List ℕ) → List (List ℕ) → Result Bool E → Sending → Type 0
AddsFound s statements values ids (Ok true) t = HasAddedFound s t statements values ids
AddsFound s statements values ids (Ok false) t = (t ≡ s) × HasNoRoom s statements values
AddsFound s statements values ids (Err e) t = Unit {0}

-- ---- candidates

-- the record of a place accepts an update
pub record HasUpdateAt (J : List Record) (place : ℕ) : Type 0 where
  pub item : Record
  pub update : Update
  pub at : slice_get J place ≡ Some item
  pub accepts : accepted_by item ≡ update ∷ []

-- the records of these places
abbrev pub records_at : List Record → List ℕ → List Record
records_at J places = flat_map (λ place. option_to_list (slice_get J place)) places

-- This holds for the parcel of the record at a place, where values of these hashes come before it.
abbrev pub ForParcelAt : {N : Type 0} → Ghosts N → N → ℕ → List (List ℕ) → (Parcel → Type 0) → Type 0
ForParcelAt g node place keys P = (r : Record) → slice_get (g.records node) place ≡ Some r → P (candidate_parcel (g.signature_of node) (g.records node) keys r)

-- the parcels of a node's candidates of these places
abbrev pub parcels_at : {N : Type 0} → Ghosts N → N → List ℕ → List Parcel
parcels_at g node places = candidate_parcels (g.signature_of node) (g.records node) [] (records_at (g.records node) places)

-- the same, then the wanted values that are held and that none of the parcels has
abbrev pub parcels_with : {N : Type 0} → Ghosts N → N → List ℕ → List (List ℕ) → List Parcel
parcels_with g node places wanted = parcels_at g node places ++ flat_map (wanted_parcel (g.records node) (hashes_of (parcels_at g node places))) wanted

-- the ids of those of these updates that another node wrote
abbrev pub foreign_ids : ℕ → List Update → List (List ℕ)
foreign_ids me us = map id_of_update (filter (λ u. not (u.writer == me)) us)

-- These are the held values of the names with none of these hashes, each hash once; adding theirs gives the new hashes.
pub record Finds (J : List Record) (keys : List (List ℕ)) (names : List NamedValue) (found new : List (List ℕ)) : Type 0 where
  pub values : found ≡ values_behind J keys names
  pub hashes : AreTogether keys (map sha256 found) new

-- the two have the same members
abbrev pub AreAlike : List (List ℕ) → List (List ℕ) → Type 0
AreAlike some others = (h : List ℕ) → is_among h some ≡ is_among h others

-- after an answer that all has room the set has these hashes too
abbrev pub AddsHashes : {E : Type 0} → List (List ℕ) → List (List ℕ) → Result Bool E → List (List ℕ) → Type 0
AddsHashes old more (Ok true) new = AreTogether old more new
AddsHashes old more (Ok false) new = Unit {0}
AddsHashes old more (Err e) new = Unit {0}

-- after such an answer the set has the hashes of the values of these parcels
abbrev pub AreHashesOf : {E : Type 0} → List Parcel → Result Bool E → List (List ℕ) → Type 0
AreHashesOf xs (Ok true) keys = AreAlike keys (hashes_of xs)
AreHashesOf xs (Ok false) keys = Unit {0}
AreHashesOf xs (Err e) keys = Unit {0}

-- ---- wanted values

-- the parcel of a value, if there is one
abbrev pub value_parcels : Option (List ℕ) → List Parcel
value_parcels None = []
value_parcels (Some v) = record { told = []; values = v ∷ [] } ∷ []
