-- What is looked up in traces and in a table of their records.
use Rattle.std.specs.Prelude.{ℕ, List, map, position, Bool, false, not, ◌&&◌, Option, option_map}
use Rattle.std.specs.HashMap.{get}
use Rattle.std.specs.List.{list_any}
use Rattle.std.specs.Option.{option_map_or}
use Rattle.std.specs.Str.{bytes_eq}
use Rattle.depot_base.specs.declared.record.Record.{Record}
use Rattle.depot_model.specs.worlds.Audit.{Finding, wrong_found, named_found}
use Rattle.depot_model.specs.journals.Journal.{proof_by, accused}
use Rattle.depot_model.specs.lists.Lists.{is_one_of, first}
use Rattle.depot_model.specs.worlds.World.{Correct}
use Rattle.depot_traces.specs.declared.trace.ReadTrace.{ReadTrace}
use Rattle.depot_traces.specs.declared.trace.Trace.{Trace}
use Rattle.depot_audit.specs.Tables.{UpdateTable}

-- the numbers of the nodes of traces
abbrev pub nodes_in : List Trace → List ℕ
nodes_in ts = map (λ t. t.node) ts

-- the table has an update of this id, of one of these nodes, that no node put
abbrev pub is_unput_in : UpdateTable → List ℕ → List ℕ → Bool
is_unput_in table nodes h = option_map_or (λ x. is_one_of x.update.writer nodes && not x.put) (get bytes_eq table h) false

-- a read lists one
abbrev pub lists_unput : UpdateTable → List ℕ → ReadTrace → Bool
lists_unput table nodes r = list_any (λ a. is_unput_in table nodes a.id) r.answer

-- the first read of a trace that does
abbrev pub unput_in : UpdateTable → List ℕ → Trace → Option Finding
unput_in table nodes t = option_map (λ place. wrong_found t.node place) (position (lists_unput table nodes) t.reads)

-- the first read of traces that lists an update of one of these nodes that no node put
abbrev pub first_unput : UpdateTable → List ℕ → List Trace → Option Finding
first_unput table nodes ts = first (map (unput_in table nodes) ts)

-- the record convicts one of these nodes
abbrev pub accuses_one : List ℕ → Record → Bool
accuses_one nodes r = list_any (λ p. is_one_of (accused p) nodes) (proof_by r)

-- the first record of a node that does
abbrev pub accusing_in : List ℕ → Correct → Option Finding
accusing_in nodes c = option_map (λ place. named_found c.node place) (position (accuses_one nodes) c.journal)

-- the first record of nodes that convicts one of these
abbrev pub first_accusing : List ℕ → List Correct → Option Finding
first_accusing nodes cs = first (map (accusing_in nodes) cs)
