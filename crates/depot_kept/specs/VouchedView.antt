-- Two sets that grow: the ids that others vouched for, and the convicted nodes.
use Rattle.std.specs.Prelude.{◌≡◌, ℕ, ◌≤◌, ◌+◌, List, [], ◌∷◌, ◌++◌, true, if◌then◌else◌}
use Rattle.depot_model.specs.lists.Lists.{is_among, is_one_of}

-- What is seen: the ids, the nodes in the order of their conviction, each once, and how many nodes may be convicted.
pub record Vouching : Type 0 where
  pub ids : List (List ℕ)
  pub convicted : List ℕ
  pub nodes : ℕ

-- What is seen of a set of ids: the ids, and those for which there is room.
pub record IdsWithRoom : Type 0 where
  pub ids : List (List ℕ)
  pub room : List (List ℕ)

-- each id of the first list is one of the second
abbrev pub AreWithin : List (List ℕ) → List (List ℕ) → Type 0
AreWithin some all = (h : List ℕ) → is_among h some ≡ true → is_among h all ≡ true

-- these nodes, with one that may be among them already
abbrev pub with_node : List ℕ → ℕ → List ℕ
with_node ns n = if is_one_of n ns then ns else ns ++ n ∷ []

-- there is room for all nodes but those that are convicted
pub record HasNodeRoom (nodes count spare : ℕ) : Type 0 where
  pub room : nodes ≤ count + spare
