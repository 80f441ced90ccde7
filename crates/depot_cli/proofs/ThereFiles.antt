-- Files that are there.
use Rattle.std.proofs.Common.{◌≡◌, ℕ, List, Some, subst, inl, inr, arith}
use Rattle.depot_base.specs.declared.key.RosterEntry.{RosterEntry}
use Rattle.depot_outside.specs.Told.{Shelves, Sinks, HasFile, LacksFile}
use Rattle.depot_sign.proofs.RosterCauses.{refused_is_none}
use Rattle.depot_cli.specs.Runs.{IsNoRoster, IsRosterText, HasRoster, IsWell}

-- a file that is there isn't lacking where the shelf is well
pub not_lacking : (shelf : Shelves) (sink : Sinks) (name bytes : List ℕ) → IsWell shelf sink → shelf.file name ≡ Some bytes → LacksFile shelf name → ⊥
not_lacking shelf sink name bytes well there (inl rose) = omega (arith, rose, well.shelf_is_well)
not_lacking shelf sink name bytes well there (inr absent) = let none = absent well.tells in cc

-- the bytes of a file are one
pub one_file : (shelf : Shelves) (name x y : List ℕ) → shelf.file name ≡ Some x → shelf.file name ≡ Some y → x ≡ y
one_file shelf name x y e f = cc

-- a roster's text is not refused
pub no_roster : (shelf : Shelves) (name text : List ℕ) → HasRoster shelf name → HasFile shelf name (IsNoRoster name text) → ⊥
no_roster shelf name text good broken =
    let same = one_file shelf name good.bytes broken.bytes good.there broken.there in
    let is = subst (λ (x : List ℕ). (r : List RosterEntry) × IsRosterText x r) same good.holds in
    refused_is_none broken.bytes is.0 broken.holds.error is.1.fits is.1.is broken.holds.cause
