-- The ids that a node's own vouchers name.
use Rattle.std.specs.Prelude.{◌≡◌, ℕ, List, ◌||◌}
use Rattle.std.specs.List.{AllByRecursion}
use Rattle.depot_base.specs.declared.record.Record.{Record}
use Rattle.depot_model.specs.lists.Lists.{is_among}
use Rattle.depot_model.specs.checks.Vouching.{is_mine_vouched}
use Rattle.depot_kept.specs.VouchedView.{AreWithin}
use Rattle.depot_readings.specs.declared.news.NewVoucher.{NewVoucher}

-- these are just the ids that own vouchers of these records name
pub record AreMine (J : List Record) (ids : List (List ℕ)) : Type 0 where
  pub are : (h : List ℕ) → is_among h ids ≡ is_mine_vouched J h

-- the ids with those that own vouchers of these records name
abbrev pub AddsMine : List (List ℕ) → List Record → List (List ℕ) → Type 0
AddsMine old new then = (h : List ℕ) → is_among h then ≡ (is_among h old || is_mine_vouched new h)

-- there is room for the ids that each of these vouchers names
abbrev pub HaveRoom : List NewVoucher → List (List ℕ) → Type 0
HaveRoom xs room = AllByRecursion (λ x. AreWithin x.voucher.ids room) xs
