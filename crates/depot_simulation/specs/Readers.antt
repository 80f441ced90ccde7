-- Readers of a simulation.
use Rattle.std.specs.Prelude.{◌≡◌, ℕ, List, [], ◌∷◌, ◌++◌, Option, Some, None, Vec, if◌then◌else◌}
use Rattle.std.specs.Str.{bytes_eq}
use Rattle.std.specs.declared.alloc.Global.{Global}
use Rattle.depot_model.specs.readers.Readers.{Reader, TrimAnswer}
use Rattle.depot_requests.specs.ReaderRequests.{made_served, use_served}
use Rattle.depot_requests.specs.declared.reader_request.ReaderUse.{ReaderUse}
use Rattle.depot_world.specs.Run.{NamedReader, reader_in, readers_with}
use Rattle.depot_scenario.specs.Labels.{named_in}
use Rattle.depot_simulation.specs.declared.reading.Trimming.{Trimming}

-- ---- one reader

-- the state kept for a reader is that reader, if there is one
abbrev pub IsMade : {R : Type 0} → (Reader → R → Type 0) → Option R → Option Reader → Type 0
IsMade reads None None = Unit {0}
IsMade reads None (Some r) = ⊥
IsMade reads (Some x) None = ⊥
IsMade reads (Some x) (Some r) = reads r x

-- what a node answered when a reader was to be made of it: this is the reply, and the reader is there if it was made
pub record HasTrimmed {R : Type 0} (reads : Reader → R → Type 0) (answer : TrimAnswer) (t : Trimming R) : Type 0 where
  pub reply_is : t.reply ≡ (made_served answer).reply
  pub reader_is : IsMade reads t.reader (made_served answer).reader

-- ---- readers by their names

-- what was made first under a name
unfoldable pub first_named : List NamedReader → List ℕ → Option NamedReader
first_named [] name = None
first_named (r ∷ rs) name = if bytes_eq r.name name then Some r else first_named rs name

-- what is kept under a name is what was made under it
abbrev pub IsNamed : {R : Type 0} → (Reader → R → Type 0) → Option (Option R) → Option NamedReader → Type 0
IsNamed reads None None = Unit {0}
IsNamed reads None (Some r) = ⊥
IsNamed reads (Some o) None = ⊥
IsNamed reads (Some o) (Some r) = IsMade reads o r.reader

-- the same of each name of a run
abbrev pub AreReaders : {R : Type 0} → (Reader → R → Type 0) → List (Vec ℕ Global × Option R) → List NamedReader → Type 0
AreReaders reads entries readers = (name : List ℕ) → IsNamed reads (named_in name entries) (first_named readers name)

-- ---- what calls leave of them

-- Whatever readers were kept, and whatever was made: the same are kept, and this one at the end, under its name.
abbrev pub KeepsMade : {R : Type 0} → (Reader → R → Type 0) → List (Vec ℕ Global × Option R) → List ℕ → Option R → List (Vec ℕ Global × Option R) → Type 0
KeepsMade reads old name reader new = (readers : List NamedReader) (made : Option Reader) → AreReaders reads old readers → IsMade reads reader made
    → AreReaders reads new (readers ++ record { name = name; reader = made } ∷ [])

-- Whatever readers were kept: the same are kept, after the one of this name was used.
abbrev pub UsesNamed : {R : Type 0} → (Reader → R → Type 0) → List (Vec ℕ Global × Option R) → List ℕ → ReaderUse → List (Vec ℕ Global × Option R) → Type 0
UsesNamed reads old name u new = (readers : List NamedReader) → AreReaders reads old readers
    → AreReaders reads new (readers_with name (use_served (reader_in readers name) u).reader readers)
