-- Links between the places under one mark.
use Rattle.std.specs.Prelude.{◌≡◌, ℕ, zero, suc, ◌<◌, ◌==◌, List, [], ◌∷◌, length, Bool, false, Option, Some, None, if◌then◌else◌}
use Rattle.std.specs.List.{slice_get}
use Rattle.depot_kept.specs.declared.marks.StatementMark.{StatementMark}
use Rattle.depot_kept.specs.declared.table.Link.{Link}
use Rattle.depot_kept.specs.contracts.marks.StatementMarkPartialEq.TheImpl as comparison

-- whether two marks are one
abbrev pub same_mark : StatementMark → StatementMark → Bool
same_mark = (comparison.ghosts).eq

-- what there is leads to a link of a number below this one
abbrev pub LeadsBelow : ℕ → Option ℕ → Type 0
LeadsBelow count link = (i : ℕ) → link ≡ Some i → i < count

-- each link leads to one before it
abbrev pub LeadBack : List Link → Type 0
LeadBack links = (i : ℕ) (l : Link) → slice_get links i ≡ Some l → LeadsBelow i l.before

-- the newest links are there, and each link leads back
pub record AreLinked (newest : StatementMark → Option ℕ) (links : List Link) : Type 0 where
  pub heads : (mark : StatementMark) → LeadsBelow (length links) (newest mark)
  pub back : LeadBack links

-- the link is there, and each link leads back
pub record IsLinkedFrom (links : List Link) (link : Option ℕ) : Type 0 where
  pub head : LeadsBelow (length links) link
  pub back : LeadBack links

-- whether a link is this one
abbrev pub is_link : ℕ → Option ℕ → Bool
is_link n None = false
is_link n (Some i) = i == n

-- the place of a link, and then those of the links that it leads to
abbrev pub link_places : Option Link → (Option ℕ → List ℕ) → List ℕ
link_places None rest = []
link_places (Some l) rest = l.place ∷ rest l.before

-- The places from a link on, where links from this number on aren't looked at.
unfoldable pub places_from : List Link → ℕ → Option ℕ → List ℕ
places_from links zero link = []
places_from links (suc n) link = if is_link n link then link_places (slice_get links n) (places_from links n) else places_from links n link
