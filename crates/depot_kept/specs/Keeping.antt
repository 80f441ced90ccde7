-- What is kept beside the signed statements.
use Rattle.std.specs.Prelude.{◌≡◌, ◌≤◌, ℕ, ◌+◌, ◌*◌, List, [], ◌∷◌, length, Bool, if◌then◌else◌}
use Rattle.depot_kept.specs.declared.kept_statement.KeptStatement.{KeptStatement}
use Rattle.depot_kept.specs.declared.marks.StatementMark.{StatementMark}
use Rattle.depot_kept.specs.declared.table.PlaceTable.{PlaceTable}
use Rattle.depot_kept.specs.Entries.{AreEntries}
use Rattle.depot_kept.specs.StatementMarks.{has_mark}
use Rattle.depot_kept.specs.Table.{link_count, places_with_mark}

-- the places, from this one on, of those that pass a test, the newest first, before some that are there
abbrev pub places_before : {X : Type 0} → (X → Bool) → ℕ → List X → List ℕ → List ℕ
places_before test place [] there = there
places_before test place (x ∷ xs) there = places_before test (place + 1) xs (if test x then place ∷ there else there)

-- whether an entry has a mark
abbrev pub is_under : StatementMark → KeptStatement → Bool
is_under mark e = has_mark e.statement e.id mark

-- the places of the entries that have a mark, the newest first
unfoldable pub places_under : StatementMark → List KeptStatement → List ℕ
places_under mark es = places_before (is_under mark) 0 es []

-- Exactly the places of the entries with a mark are listed under it, so that scanning them costs no more than they do.
pub record IsKeeping (es : List KeptStatement) (table : PlaceTable) : Type 0 where
  pub entries : AreEntries es
  pub listed : (mark : StatementMark) → places_with_mark table mark ≡ places_under mark es
  pub few : link_count table ≤ 3 * length es
