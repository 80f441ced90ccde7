-- What bundles begin with, by place: convictions, and own vouchers by the ids that they name.
use Rattle.std.specs.Prelude.{◌≡◌, ◌≤◌, ℕ, ◌+◌, List, [], ◌∷◌, ◌++◌, Bool, true, length, map, slice_get, vec_len, ◌⊎◌}
use Rattle.std.specs.List.{flat_map, list_any}
use Rattle.std.specs.Option.{option_to_list}
use Rattle.std.specs.Vec.{vec_capacity}
use Rattle.depot_base.specs.declared.record.Record.{Record}
use Rattle.depot_model.specs.journals.Journal.{accused, proof_by}
use Rattle.depot_model.specs.lists.Lists.{IsIn, is_among}
use Rattle.depot_model.specs.checks.Vouching.{own_voucher_by}
use Rattle.depot_readings.specs.NewRecords.{records_in}
use Rattle.depot_readings.specs.VoucherPlaces.{HasPlaceRooms, has_voucher_place}
use Rattle.depot_readings.specs.declared.news.News.{News}
use Rattle.depot_readings.specs.declared.front_places.ConvictedAt.{ConvictedAt}
use Rattle.depot_readings.specs.declared.front_places.FrontPlaces.{FrontPlaces}
use Rattle.depot_readings.specs.declared.front_places.NewPlaces.{NewPlaces}
use Rattle.depot_readings.specs.declared.voucher_places.VoucherPlace.{VoucherPlace}

-- ---- convictions

-- the convictions by records from place n on: whom each convicts, and its place
unfoldable pub convictions_from : ℕ → List Record → List ConvictedAt
convictions_from n [] = []
convictions_from n (r ∷ rs) = map (λ p. record { node = accused p; place = n }) (proof_by r) ++ convictions_from (n + 1) rs

-- ---- own vouchers

-- the record is an own voucher that names this id
abbrev pub vouches : List ℕ → Record → Bool
vouches id r = list_any (λ v. is_among id v.ids) (own_voucher_by r)

-- the record of this place, from 0, is one
abbrev pub vouches_at : List Record → List ℕ → ℕ → Bool
vouches_at J id place = list_any (vouches id) (option_to_list (slice_get J place))

-- ids with a place
abbrev pub with_place : ℕ → List (List ℕ) → List VoucherPlace
with_place n ids = map (λ id. record { id = id; place = n }) ids

-- the ids that own vouchers among the records from place n on name, each with the place
unfoldable pub voucher_places_from : ℕ → List Record → List VoucherPlace
voucher_places_from n [] = []
voucher_places_from n (r ∷ rs) = flat_map (λ v. with_place n v.ids) (own_voucher_by r) ++ voucher_places_from (n + 1) rs

-- These numbers are the old ones, followed by the places of the own vouchers that name this id.
pub record AddsPlaces (J : List Record) (id : List ℕ) (old new : List ℕ) : Type 0 where
  pub kept : (place : ℕ) → IsIn place old → IsIn place new
  pub all : (place : ℕ) → vouches_at J id place ≡ true → IsIn place new
  pub only : (place : ℕ) → IsIn place new → IsIn place old ⊎ (vouches_at J id place ≡ true)

-- ---- what is kept

-- These are the convictions by these records, and the ids that own vouchers among them name, each with the vouchers' places.
pub record AreFrontPlaces (J : List Record) (front : FrontPlaces) : Type 0 where
  pub convictions : front.convictions.items ≡ convictions_from 0 J
  pub vouchers : (id : List ℕ) (place : ℕ) → has_voucher_place front.vouchers id place ≡ vouches_at J id place

-- what a growth brings of it after this many records
pub record AreNewPlaces (count : ℕ) (news : News) (new : NewPlaces) : Type 0 where
  pub conviction : option_to_list new.conviction ≡ convictions_from count (records_in news)
  pub vouchers : new.vouchers.items ≡ voucher_places_from count (records_in news)

-- there is room for it
pub record HasRoomFor (front : FrontPlaces) (new : NewPlaces) : Type 0 where
  pub conviction : vec_len front.convictions + length (option_to_list new.conviction) ≤ vec_capacity front.convictions
  pub vouchers : HasPlaceRooms front.vouchers new.vouchers.items
