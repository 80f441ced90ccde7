-- The ids that own vouchers name, with the places of these vouchers.
use Rattle.std.specs.Prelude.{◌≡◌, ℕ, List, Bool, true, ◌&&◌, ◌==◌}
use Rattle.std.specs.List.{list_any}
use Rattle.std.specs.Str.{bytes_eq}
use Rattle.depot_base.specs.declared.update.NamedValue.{NamedValue}
use Rattle.depot_model.specs.lists.Lists.{IsIn}
use Rattle.depot_readings.specs.Named.{has_named_value, has_room}
use Rattle.depot_readings.specs.declared.voucher_places.VoucherPlace.{VoucherPlace}
use Rattle.depot_readings.specs.declared.voucher_places.VoucherPlaces.{VoucherPlaces}

-- this is the id with the place
abbrev pub is_voucher_place : VoucherPlace → List ℕ → ℕ → Bool
is_voucher_place v id place = bytes_eq v.id id && (v.place == place)

-- one of these is
abbrev pub is_among_places : List VoucherPlace → List ℕ → ℕ → Bool
is_among_places given id place = list_any (λ v. is_voucher_place v id place) given

-- the set has the id with the place
abbrev pub has_voucher_place : VoucherPlaces → List ℕ → ℕ → Bool
has_voucher_place places id place = has_named_value places.names id place

-- what is in it for an id and a place
abbrev pub place_name : VoucherPlace → NamedValue
place_name v = record { hash = v.id; size = v.place }

-- there is room in it for each of these
abbrev pub HasPlaceRooms : VoucherPlaces → List VoucherPlace → Type 0
HasPlaceRooms places given = (v : VoucherPlace) → IsIn v given → has_room places.names (place_name v) ≡ true
