-- A list of items for each key.
use Rattle.std.specs.Prelude.{◌-◌, ℕ, List, [], ◌∷◌, map, vec_len, Vec, if◌then◌else◌}
use Rattle.std.specs.Vec.{vec_capacity}
use Rattle.std.specs.Str.{bytes_eq}
use Rattle.std.specs.declared.alloc.Global.{Global}

-- what is kept for a key: its latest items, and for how many items more there is memory
pub record KeyList : Type 0 where
  pub key : List ℕ
  pub latest : List ℕ
  pub room : ℕ

-- the latest items of a key, none where nothing is kept for it
abbrev pub latest_of : List ℕ → List KeyList → List ℕ
latest_of key [] = []
latest_of key (l ∷ lists) = if bytes_eq key l.key then l.latest else latest_of key lists

-- for how many items more of a key there is memory
abbrev pub room_of : List ℕ → List KeyList → ℕ
room_of key [] = 0
room_of key (l ∷ lists) = if bytes_eq key l.key then l.room else room_of key lists

-- the entries of a map from keys to lists
abbrev pub key_lists : List (Vec ℕ Global × Vec ℕ Global) → List KeyList
key_lists entries = map (λ e. record { key = e.0.items; latest = e.1.items; room = vec_capacity e.1 - vec_len e.1 }) entries
