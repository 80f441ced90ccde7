-- The names of marks, and the first mark that has one.
use Rattle.std.specs.Prelude.{◌≡◌, ℕ, suc, List, [], ◌∷◌, Bool, ◌||◌, Option, Some, None, option_map, nat_lt, if◌then◌else◌}
use Rattle.std.specs.BTreeMap.{BTreeMap, get}
use Rattle.std.specs.declared.cmp.Ordering.{Ordering}
use Rattle.depot_trim.specs.declared.marks.UpdateMark.{UpdateMark}
use Rattle.depot_trim.specs.declared.marks.Name.{Name}
use Rattle.depot_trim.specs.declared.marks.Name.TheVariants as name
use Rattle.depot_trim.specs.contracts.marks.NameOrd.TheImpl as order
use Rattle.depot_trim.specs.contracts.marks.NamePartialEq.TheImpl as comparison

-- the order of names
abbrev pub name_cmp : Name → Name → Ordering
name_cmp = (order.ghosts).cmp

-- whether two names are one
abbrev pub same_name : Name → Name → Bool
same_name = (comparison.ghosts).eq

-- it is a name of the mark
abbrev pub has_name : UpdateMark → Name → Bool
has_name m n = (same_name n (name.Number m.writer m.seq) || same_name n (name.Prev m.writer m.prev)) || same_name n (name.Id m.id)

-- the place of the first one that passes a test
unfoldable pub first_place : {X : Type 0} → (X → Bool) → List X → Option ℕ
first_place test [] = None
first_place test (x ∷ xs) = if test x then Some 0 else option_map suc (first_place test xs)

-- that of the two places which comes first
abbrev pub earlier_of : Option ℕ → Option ℕ → Option ℕ
earlier_of None b = b
earlier_of (Some x) None = Some x
earlier_of (Some x) (Some y) = if nat_lt y x then Some y else Some x

-- for each name the place of the first of these marks that has it
pub record AreFirsts (ms : List UpdateMark) (firsts : BTreeMap Name ℕ) : Type 0 where
  pub first : (n : Name) → get name_cmp firsts n ≡ first_place (λ m. has_name m n) ms
