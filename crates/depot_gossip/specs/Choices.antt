-- What is chosen within bounds, parcel by parcel.
use Rattle.std.specs.Prelude.{◌≡◌, ℕ, ◌*◌, min, List, [], ◌∷◌, ◌++◌, length, Bool, true, false, ◌&&◌, ◌||◌, ◌==◌, nat_le, Option, Some, None, option_map, Result, Ok, Err}
use Rattle.std.specs.List.{list_any}
use Rattle.depot_base.specs.declared.limits.TheConstants.{MOST_IDS}
use Rattle.depot_base.specs.declared.record.Record.{Record}
use Rattle.depot_model.specs.declared.hello.Hello.{Hello}
use Rattle.depot_model.specs.exchange.Bundle.{Parcel, Signs, unvouched}
use Rattle.depot_model.specs.checks.Checks.{Setting}
use Rattle.depot_model.specs.journals.Journal.{accepted_at}
use Rattle.depot_streams.specs.Sendings.{Holds}
use Rattle.depot_streams.specs.declared.sending.Sending.{Sending}
use Rattle.depot_gossip.specs.Bounding.{bounded_sent, bytes_of_parcels, fit_a_bundle, leaves_left, leaves_some, longest_front}
use Rattle.depot_gossip.specs.declared.bounds.Bounds.{Bounds}
use Rattle.depot_gossip.specs.declared.choice.Choice.{Choice}
use Rattle.depot_gossip.specs.declared.choice.Space.{Space}

-- ---- room

-- so many ids are few enough
abbrev pub has_ids : Option ℕ → ℕ → Bool
has_ids None count = true
has_ids (Some most) count = nat_le count most

-- the next parcel has room after these
abbrev pub has_room_for : ℕ → List Record → Space → List Parcel → Parcel → Bool
has_room_for me J room before x =
    let xs = before ++ x ∷ [] in
    fit_a_bundle xs && (bytes_of_parcels before == 0 || nat_le (bytes_of_parcels xs) room.bytes) && has_ids room.ids (length (unvouched me J xs))

-- the room that bounds leave: a voucher names 256 ids, and takes an unused leaf
abbrev pub room_within : Setting → List Record → Bounds → Space
room_within here J b = record { bytes = b.bytes; ids = option_map (λ most. MOST_IDS * min most (leaves_left here J)) b.vouchers }

-- ---- what is chosen

-- These parcels are chosen, with the ids to vouch for, and each had room after those before it.
pub record IsChosenFrom (me : ℕ) (J : List Record) (room : Space) (xs : List Parcel) (c : Choice) : Type 0 where
  pub holds : Holds me xs c.sending
  pub ids : c.unvouched ≡ unvouched me J xs
  pub front : longest_front (has_room_for me J room) [] xs ≡ xs

-- A prefix of all these is chosen, and the next one has no room after it.
pub record IsStoppedAt (me : ℕ) (J : List Record) (room : Space) (all : List Parcel) (c : Choice) : Type 0 where
  pub sent : List Parcel
  pub next : Parcel
  pub left : List Parcel
  pub is : all ≡ sent ++ next ∷ left
  pub chosen : IsChosenFrom me J room sent c
  pub over : has_room_for me J room sent next ≡ false

-- all of these are chosen, or they were cut
abbrev pub Chooses : ℕ → List Record → Space → List Parcel → Choice → Bool → Type 0
Chooses me J room all c true = IsChosenFrom me J room all c
Chooses me J room all c false = IsStoppedAt me J room all c

-- the same of an answer
abbrev pub ChoosesTo : {E : Type 0} → ℕ → List Record → Space → List Parcel → Choice → Result Bool E → Type 0
ChoosesTo me J room all c (Ok fits) = Chooses me J room all c fits
ChoosesTo me J room all c (Err e) = Unit {0}

-- Whatever parcels were chosen before: with these appended, all are chosen or cut.
abbrev pub ChoosesBehind : {E : Type 0} → ℕ → List Record → Space → Choice → List Parcel → Choice → Result Bool E → Type 0
ChoosesBehind me J room old more new result = (xs : List Parcel) → IsChosenFrom me J room xs old → ChoosesTo me J room (xs ++ more) new result

-- These are a parcel and the ids in it to vouch for.
pub record IsParcelWith (me : ℕ) (J : List Record) (x : Parcel) (parcel : Sending) (fresh : List (List ℕ)) : Type 0 where
  pub holds : Holds me (x ∷ []) parcel
  pub ids : fresh ≡ unvouched me J (x ∷ [])

-- For any parcel and any earlier choice this says whether it has room.
abbrev pub TellsRoom : Choice → Sending → List (List ℕ) → Space → Bool → Type 0
TellsRoom c parcel fresh room result =
    (me : ℕ) (J : List Record) (xs : List Parcel) (x : Parcel) → IsChosenFrom me J room xs c → IsParcelWith me J x parcel fresh → result ≡ has_room_for me J room xs x

-- Whatever it is, it is chosen or cut.
abbrev pub AddsParcel : {E : Type 0} → Choice → Sending → List (List ℕ) → Space → Choice → Result Bool E → Type 0
AddsParcel old parcel fresh room new result = (me : ℕ) (J : List Record) (x : Parcel) → IsParcelWith me J x parcel fresh → ChoosesBehind me J room old (x ∷ []) new result

-- ---- the node's own

-- the record of a place is that of an update which this node wrote
abbrev pub is_of_at : ℕ → List Record → ℕ → Bool
is_of_at me J place = list_any (λ u. u.writer == me) (accepted_at J place)

-- ---- all

-- What is chosen is what a bounded bundle sends for a hello; the flag says whether something is left out.
pub record IsChosenWithin (here : Setting) (sign : Signs) (J : List Record) (h : Hello) (b : Bounds) (c : Choice) : Type 0 where
  pub holds : Holds here.me (bounded_sent here sign J h b) c.sending
  pub ids : c.unvouched ≡ unvouched here.me J (bounded_sent here sign J h b)
  pub more : c.sending.more ≡ leaves_some here sign J h b
