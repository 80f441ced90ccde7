-- The audit of a world: its operations in order, observation as a test, and the first part of the property that fails.
use Rattle.std.specs.Prelude.{◌≡◌, ℕ, ◌+◌, List, [], ◌∷◌, ◌++◌, map, take, drop, filter, find, position, Bool, true, false, not, ◌&&◌, ◌||◌, ◌==◌, nat_lt, Option, Some, None, is_some, option_map, unwrap_or, if◌then◌else◌}
use Rattle.std.specs.List.{flat_map, list_any, list_all}
use Rattle.std.specs.Ordering.{is_lt}
use Rattle.std.specs.Str.{bytes_eq}
use Rattle.depot_base.specs.Zeros.{zeros}
use Rattle.depot_base.specs.Statement.{writer_of}
use Rattle.depot_base.specs.declared.update.Update.{Update}
use Rattle.depot_base.specs.declared.record.Record.{Record}
use Rattle.depot_model.specs.declared.record_fault.RecordFault.{RecordFault}
use Rattle.depot_model.specs.lists.Lists.{IsIn, is_among, is_one_of, when, first}
use Rattle.depot_model.specs.texts.Texts.{text_of_update, id_of_update}
use Rattle.depot_model.specs.updates.Order.{IsPath, parents, listed}
use Rattle.depot_model.specs.texts.Contents.{writes, wrote_under}
use Rattle.depot_model.specs.updates.Contradictions.{kind_of}
use Rattle.depot_model.specs.journals.Journal.{accepted, accepted_by, foreign, foreign_by, proof_by, accused, convicted}
use Rattle.depot_model.specs.worlds.World.{Shown, Read, Correct, World, writes_of}
use Rattle.depot_model.specs.worlds.Causality.{Operation, write, read_at, puts_of}
use Rattle.depot_model.specs.worlds.ReadTests.{if_held, is_gone, is_deletion, is_value_of, is_put_of}
use Rattle.depot_model.specs.worlds.Receipts.{is_node}

-- ---- what an audit answers

-- an operation by its node and its place: of a write, the first node that has it and the place of its record there
pub data Op : Type 0 where
  the_write : ℕ → ℕ → Op
  the_read : ℕ → ℕ → Op

pub data Finding : Type 0 where
  -- the journals and reads are a world in which the property holds
  yes_found : Finding
  -- a node's records aren't lawful: the place, and the fault there
  unlawful : ℕ → ℕ → RecordFault → Finding
  -- a read isn't what the node's journal then showed
  answer_found : ℕ → ℕ → Finding
  -- an operation is observed before itself
  circle_found : Op → Finding
  -- a node made the first before the second, and it isn't observed before it
  unordered_found : Op → Op → Finding
  -- a node accepted the first before it put the second, and it isn't observed before it
  unseen_found : Op → Op → Finding
  -- a read isn't exact
  wrong_found : ℕ → ℕ → Finding
  -- up to this record the journal's updates and statements aren't separate branches
  split_found : ℕ → ℕ → Finding
  -- a conviction names one of the nodes
  named_found : ℕ → ℕ → Finding

-- ---- writes by their bodies

-- two updates are one where their bodies are
abbrev pub same_body : Update → Update → Bool
same_body t u = bytes_eq (text_of_update t) (text_of_update u)

-- an update is one of these, by its body
abbrev pub is_body_in : Update → List Update → Bool
is_body_in u us = list_any (λ t. same_body t u) us

-- each whose body none before it has; the ones that come before them all are given
unfoldable pub new_bodies : List Update → List Update → List Update
new_bodies known [] = []
new_bodies known (u ∷ us) = if is_body_in u known then new_bodies known us else u ∷ new_bodies (u ∷ known) us

-- each body once, where it comes first
abbrev pub bodies_once : List Update → List Update
bodies_once us = new_bodies [] us

-- ---- the operations

-- reads with their places, from a place on
abbrev pub reads_from : Correct → ℕ → List Read → List Operation
reads_from c place [] = []
reads_from c place (r ∷ rs) = read_at c place r ∷ reads_from c (place + 1) rs

abbrev pub reads_of : Correct → List Operation
reads_of c = reads_from c 0 c.reads

-- the writes of a world, each once, by the first node that has it and its record's place
unfoldable pub writes_once : World → List Update
writes_once W = bodies_once (writes_of W)

-- all operations: the writes, and then the reads by node and place
unfoldable pub operations : World → List Operation
operations W = map (λ u. write u) (writes_once W) ++ flat_map reads_of W.nodes

-- ---- observation as a test

-- one write is a parent of another
abbrev pub is_parent : Update → Update → Bool
is_parent t u = is_among (id_of_update t) (parents u)

-- what directly precedes what
abbrev pub is_step : Operation → Operation → Bool
-- a parent precedes its child
is_step (write t) (write u) = is_parent t u
-- what a node had accepted precedes its read
is_step (write u) (read_at c place r) = is_body_in u (accepted (take r.at c.journal))
-- an earlier read of a node precedes a later one
is_step (read_at c i r) (read_at d j s) = (c.node == d.node) && nat_lt i j
-- a read precedes what the node put later
is_step (read_at c place r) (write u) = is_body_in u (puts_of (drop r.at c.journal))

-- each of these edges joins one to the next
abbrev pub IsEdge : {X : Type 0} → (X → X → Bool) → X → X → Type 0
IsEdge edge x y = edge x y ≡ true

-- a path of edges whose stops are among these
pub record HasPath {X : Type 0} (edge : X → X → Bool) (among : List X) (a b : X) : Type 0 where
  pub stops : List X
  pub known : (x : X) → IsIn x stops → IsIn x among
  pub path : IsPath (IsEdge edge) a stops b

-- whether there is such a path, by allowing one intermediate stop after another
unfoldable pub closed : {X : Type 0} → (X → X → Bool) → List X → X → X → Bool
closed edge [] a b = edge a b
closed edge (x ∷ xs) a b = closed edge xs a b || (closed edge xs a x && closed edge xs x b)

-- one operation is observed before another
unfoldable pub observed : World → Operation → Operation → Bool
observed W a b = closed is_step (operations W) a b

-- ---- observation of writes alone, which says the same (`audits_look_at_writes_alone`)

-- a path of parents among all writes leads from one to the other
abbrev pub observed_by_parents : World → Update → Update → Bool
observed_by_parents W t u = closed is_parent (writes_once W) t u

-- the read's records accepted the write, or one that it so precedes
abbrev pub observed_by_read : World → Update → Correct → Read → Bool
observed_by_read W u c r = list_any (λ x. same_body u x || observed_by_parents W u x) (accepted (take r.at c.journal))

-- ---- operations by node and place

-- the record of a journal that accepts an update
abbrev pub place_in : List Record → Update → Option ℕ
place_in J u = position (λ r. is_body_in u (accepted_by r)) J

-- the first node that has a write, and its record's place there; each write of a world has one
abbrev pub op_of : World → Operation → Op
op_of W (write u) = unwrap_or (first (map (λ c. option_map (λ place. the_write c.node place) (place_in c.journal u)) W.nodes)) (the_write 0 0)
op_of W (read_at c place r) = the_read c.node place

-- the least pair of operations that passes a test, by the first and then by the second
unfoldable pub pair_of : World → (Op → Op → Finding) → (Operation → Operation → Bool) → Option Finding
pair_of W make test = first (map (λ a. option_map (λ b. make (op_of W a) (op_of W b)) (find (test a) (operations W))) (operations W))

-- ---- the parts, in their order

-- an operation is observed before itself
unfoldable pub circle : World → Option Finding
circle W = option_map (λ o. circle_found (op_of W o)) (find (λ o. observed W o o) (operations W))

-- it is a read or an own update of the node
abbrev pub is_of : Correct → Operation → Bool
is_of c (write u) = is_body_in u (puts_of c.journal)
is_of c (read_at d place r) = d.node == c.node

-- one comes before the other in a list, by their bodies
abbrev pub stands_first : List Update → Update → Update → Bool
stands_first [] t u = false
stands_first (x ∷ xs) t u = (same_body x t && is_body_in u xs) || stands_first xs t u

-- the node made one of its operations before another
abbrev pub is_made_before : Correct → Operation → Operation → Bool
is_made_before c (write t) (write u) = stands_first (puts_of c.journal) t u
is_made_before c (write u) (read_at d place r) = is_body_in u (puts_of (take r.at c.journal))
is_made_before c (read_at d place r) (write u) = is_body_in u (puts_of (drop r.at c.journal))
is_made_before c (read_at d i r) (read_at e j s) = nat_lt i j

-- two operations of the node, the first made before the second and not observed before it
abbrev pub is_unordered : World → Correct → Operation → Operation → Bool
is_unordered W c a b = is_of c a && (is_of c b && (is_made_before c a b && not (observed W a b)))

unfoldable pub unordered : World → Option Finding
unordered W = first (map (λ c. pair_of W (λ a b. unordered_found a b) (is_unordered W c)) W.nodes)

-- an update was accepted by a record before one that puts another
abbrev pub was_accepted_before : List Record → Update → Update → Bool
was_accepted_before [] t u = false
was_accepted_before (r ∷ rs) t u = (is_body_in t (accepted_by r) && is_body_in u (puts_of rs)) || was_accepted_before rs t u

abbrev pub is_accepted_before : Correct → Operation → Operation → Bool
is_accepted_before c (write t) (write u) = was_accepted_before c.journal t u
is_accepted_before c a b = false

-- the node accepted one update before it put another, and it isn't observed before it
abbrev pub is_unseen_by : World → Correct → Operation → Operation → Bool
is_unseen_by W c a b = is_accepted_before c a b && not (observed W a b)

unfoldable pub unseen : World → Option Finding
unseen W = first (map (λ c. pair_of W (λ a b. unseen_found a b) (is_unseen_by W c)) W.nodes)

-- the writes of a world that are observed before an operation
unfoldable pub observed_writes : World → Operation → List Update
observed_writes W o = filter (λ u. observed W (write u) o) (writes_once W)

-- of these, the writes of a key that are observed before no other write of it among them
unfoldable pub last_writes : World → List ℕ → List Update → List Update
last_writes W key us = filter (λ u. writes key u && not (list_any (λ v. writes key v && observed W (write u) (write v)) us)) us

-- each is in the listed order before all that come after it
abbrev pub rises_strictly : List Update → Bool
rises_strictly [] = true
rises_strictly (u ∷ us) = list_all (λ v. is_lt (listed u v)) us && rises_strictly us

-- these are just the given ones, in the listed order
abbrev pub lists_just : List Update → List Update → Bool
lists_just us wanted = list_all (λ u. is_body_in u us) wanted && (list_all (λ u. is_body_in u wanted) us && rises_strictly us)

-- a value that is shown is the one that the write of the key names
abbrev pub shows_named : List ℕ → Shown → Bool
shows_named key s = if_held s.seen (is_value_of key s.update)

-- a deletion is shown exactly where the write of the key is one
abbrev pub shows_gone : List ℕ → Shown → Bool
shows_gone key s = if is_gone s.seen then is_deletion (wrote_under key s.update.writes) else not (is_deletion (wrote_under key s.update.writes))

-- where a node of the world wrote it, a record of that node puts it as it is shown
abbrev pub is_put_by_writer : World → List ℕ → Shown → Bool
is_put_by_writer W key s = list_all (λ d. not (s.update.writer == d.node) || list_any (is_put_of key s.update s.seen) d.journal) W.nodes

-- A read lists exactly the latest of the writes that are observed before it, with values that their writes name and
-- their writers put, and with deletions where their writes are.
unfoldable pub is_exact : World → Correct → ℕ → Read → Bool
is_exact W c place r =
    lists_just (map (λ s. s.update) r.answer) (last_writes W r.key (observed_writes W (read_at c place r)))
    && (list_all (shows_named r.key) r.answer && (list_all (shows_gone r.key) r.answer && list_all (is_put_by_writer W r.key) r.answer))

abbrev pub wrong_at : World → Operation → Option Finding
wrong_at W (write u) = None
wrong_at W (read_at c place r) = when (not (is_exact W c place r)) (wrong_found c.node place)

unfoldable pub wrong : World → Option Finding
wrong W = first (map (wrong_at W) (flat_map reads_of W.nodes))

-- one of these has the prev of an update as its id, is of the same writer, and has a lower seq and a lower clock
abbrev pub has_its_prev : List Update → Update → Bool
has_its_prev us u = list_any (λ t. bytes_eq (id_of_update t) u.prev && ((t.writer == u.writer) && (nat_lt t.seq u.seq && nat_lt t.clock u.clock))) us

-- the id of the last, or h where there is none
abbrev pub end_of_chain : List ℕ → List Update → List ℕ
end_of_chain h [] = h
end_of_chain h (u ∷ us) = end_of_chain (id_of_update u) us

-- an update after others isn't after its prev, or isn't next in the chain of a writer who isn't convicted
abbrev pub breaks_chain : List ℕ → List Update → Update → Bool
breaks_chain accused us u = (not (bytes_eq u.prev zeros) && not (has_its_prev us u))
    || (not (is_one_of u.writer accused) && not (bytes_eq u.prev (end_of_chain zeros (filter (λ t. t.writer == u.writer) us))))

-- with a record after others the updates and the statements of others aren't separate branches any more
unfoldable pub breaks_off : List ℕ → List Record → Record → Bool
breaks_off accused before r =
    list_any (breaks_chain accused (accepted before)) (accepted_by r)
    || list_any (λ s. list_any (λ f. not (is_one_of (writer_of f.statement) accused) && is_some (kind_of f.statement s.statement)) (foreign before)) (foreign_by r)

-- the first place from which on they aren't; the records before are given
unfoldable pub first_break : List ℕ → List Record → ℕ → List Record → Option ℕ
first_break accused before place [] = None
first_break accused before place (r ∷ rs) = if breaks_off accused before r then Some place else first_break accused (before ++ r ∷ []) (place + 1) rs

unfoldable pub split_finding : World → Option Finding
split_finding W = first (map (λ c. option_map (λ place. split_found c.node place) (first_break (convicted c.journal) [] 0 c.journal)) W.nodes)

-- the record convicts a node of the world
abbrev pub names_one_of : World → Record → Bool
names_one_of W r = list_any (λ p. is_node W (accused p)) (proof_by r)

unfoldable pub named_node : World → Option Finding
named_node W = first (map (λ c. option_map (λ place. named_found c.node place) (position (names_one_of W) c.journal)) W.nodes)

-- ---- the finding

-- the first part that fails, else yes
unfoldable pub finding_in : World → Finding
finding_in W = unwrap_or (first (circle W ∷ unordered W ∷ unseen W ∷ wrong W ∷ split_finding W ∷ named_node W ∷ [])) yes_found
