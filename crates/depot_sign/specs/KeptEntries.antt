-- What a roster keeps.
use Rattle.std.specs.Prelude.{◌≡◌, ℕ, List}
use Rattle.depot_base.specs.declared.key.RosterEntry.{RosterEntry}
use Rattle.depot_model.specs.texts.Texts.{IsRoster, hash_of_roster}

-- the entries make a roster, and the hash is that of its text
pub record IsKeptRoster (entries : List RosterEntry) (hash : List ℕ) : Type 0 where
  pub is_roster : IsRoster entries
  pub is_hash : hash ≡ hash_of_roster entries
