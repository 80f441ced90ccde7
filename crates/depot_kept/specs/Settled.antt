-- The newest link of each mark in the maps, of which each kind of mark has one.
use Rattle.std.specs.Prelude.{ℕ, List, Option}
use Rattle.std.specs.BTreeMap.{get}
use Rattle.std.specs.Cmp.Lexicographic.{slice_cmp}
use Rattle.std.specs.Ordering.{nat_cmp}
use Rattle.std.specs.declared.cmp.Ordering.{Ordering}
use Rattle.depot_kept.specs.declared.marks.StatementMark.{StatementMark}
use Rattle.depot_kept.specs.declared.marks.StatementMark.TheVariants as marks
use Rattle.depot_kept.specs.declared.settled.Number.{Number}
use Rattle.depot_kept.specs.declared.settled.Prev.{Prev}
use Rattle.depot_kept.specs.declared.settled.Settled.{Settled}
use Rattle.depot_kept.specs.contracts.settled.NumberOrd.TheImpl as numbers
use Rattle.depot_kept.specs.contracts.settled.PrevOrd.TheImpl as prevs

-- the orders of the three kinds
abbrev pub number_cmp : Number → Number → Ordering
number_cmp = (numbers.ghosts).cmp

abbrev pub prev_cmp : Prev → Prev → Ordering
prev_cmp = (prevs.ghosts).cmp

abbrev pub id_cmp : List ℕ → List ℕ → Ordering
id_cmp = slice_cmp nat_cmp

-- the newest link of a mark in the map of its kind
abbrev pub settled : Settled → StatementMark → Option ℕ
settled s (marks.Number w n) = get number_cmp s.numbers (record { writer = w; seq = n })
settled s (marks.Prev w h) = get prev_cmp s.prevs (record { writer = w; prev = h })
settled s (marks.Id h) = get id_cmp s.ids h
