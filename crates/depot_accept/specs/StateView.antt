-- What is seen of a state, and of which journals it is the state.
use Rattle.std.specs.Prelude.{◌≡◌, ◌<◌, ◌+◌, ℕ, List}
use Rattle.std.specs.List.{flat_map}
use Rattle.depot_base.specs.declared.update.Update.{Update}
use Rattle.depot_base.specs.declared.voucher.Voucher.{Voucher}
use Rattle.depot_base.specs.declared.statement.Statement.{Statement}
use Rattle.depot_base.specs.declared.statement.Statement.TheVariants as statements
use Rattle.depot_base.specs.declared.statement.Signed.{Signed}
use Rattle.depot_base.specs.declared.key.RosterEntry.{RosterEntry}
use Rattle.depot_base.specs.declared.record.Record.{Record}
use Rattle.depot_model.specs.lists.Lists.{is_among, is_one_of}
use Rattle.depot_model.specs.journals.Journal.{accepted, foreign, vouched, is_convicted}
use Rattle.depot_model.specs.checks.Vouching.{own_voucher_by}
use Rattle.depot_model.specs.checks.Checks.{Setting}
use Rattle.depot_model.specs.texts.Roster.{Verifies}

-- What is seen: the node's own number, its roster and its scheme, and what the checks look at.
pub record View (S : Type 0) : Type 0 where
  pub me : ℕ
  pub listed : List RosterEntry
  pub scheme : S
  -- the accepted updates, and the signed statements of others, in the order in which they came
  pub accepted : List Update
  pub foreign : List Signed
  -- the node's own vouchers
  pub own_vouchers : List Voucher
  -- the ids that others vouched for, and the convicted nodes
  pub vouched : List (List ℕ)
  pub convicted : List ℕ
  -- how many own vouchers more have reserved memory
  pub voucher_room : ℕ

-- all is unchanged, but for the room
abbrev pub IsAsBefore : {S : Type 0} → View S → View S → Type 0
IsAsBefore old new = new ≡ record old { voucher_room = new.voucher_room }

-- what a statement of the node's own leaves of the reserve: a voucher uses up one, where there is one
abbrev pub IsRoomAfter : Statement → ℕ → ℕ → Type 0
IsRoomAfter (statements.Update u) old new = new ≡ old
IsRoomAfter (statements.Voucher v) old new = 0 < old → new + 1 ≡ old

-- the setting of the node
abbrev pub setting : {S : Type 0} → Verifies → View S → Setting
setting verifies v = record { verifies = verifies; me = v.me; listed = v.listed }

-- The state is that of these records.
pub record IsStateOf {S : Type 0} (J : List Record) (v : View S) : Type 0 where
  pub accepted : accepted J ≡ v.accepted
  pub foreign : foreign J ≡ v.foreign
  pub own_vouchers : flat_map own_voucher_by J ≡ v.own_vouchers
  pub vouched : (h : List ℕ) → is_among h (vouched J) ≡ is_among h v.vouched
  pub convicted : (n : ℕ) → is_convicted J n ≡ is_one_of n v.convicted
