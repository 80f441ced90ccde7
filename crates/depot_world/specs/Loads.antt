-- Loads: the schedule that a number makes.
--
-- Numbers are drawn one after the other from a state that the load's number starts. By these, five correct nodes write,
-- read, exchange bundles of which some are lost, start again, and take the updates of a faulty node, for 2,000 rounds.
-- Then each takes a bundle of each other, twice over, reads every key, and says hello.
use Rattle.std.specs.Prelude.{ℕ, zero, suc, ◌+◌, ◌*◌, ◌/◌, ◌%◌, ◌^◌, Bool, true, false, List, [], ◌∷◌, ◌++◌, Some, None, nat_le, nat_lt, ◌==◌, if◌then◌else◌}
use Rattle.std.specs.Fmt.{decimal}
use Rattle.std.specs.Int.{w16, w32}
use Rattle.depot_base.specs.Cursor.{numeral}
use Rattle.depot_schedule.specs.declared.member.Member.{Member}
use Rattle.depot_schedule.specs.declared.event.Event.{Event}
use Rattle.depot_schedule.specs.declared.event.Event.TheVariants.{Put, Get, Hello, Bundle, Give, Restart, Update}
use Rattle.depot_schedule.specs.declared.event.HistoryWord.TheVariants.{Right}
use Rattle.depot_schedule.specs.declared.schedule.Schedule.{Schedule}
use Rattle.depot_world.specs.declared.load_draft.LoadDraft.{LoadDraft}

-- ---- drawing numbers

-- the state after a state
unfoldable pub state_behind : ℕ → ℕ
state_behind x = (x * 6364136223846793005 + 1442695040888963407) % 2 ^ 64

-- the number below m that is drawn, given the state after the draw
unfoldable pub number_at : ℕ → ℕ → ℕ
number_at m x = (x / 2 ^ 33) % m

-- a load after one more draw
abbrev pub drawn : LoadDraft → LoadDraft
drawn d = record d { state = state_behind d.state }

-- the number below m that the last draw gave
abbrev pub draw : ℕ → LoadDraft → ℕ
draw m d = number_at m d.state

-- ---- words of events

-- the key of a number, in two bytes
abbrev pub load_key : ℕ → List ℕ
load_key n = numeral w16 n

-- the value of a round, in four bytes
abbrev pub value_of : ℕ → List ℕ
value_of t = numeral w32 t

-- a letter and a number
abbrev pub label_of : ℕ → ℕ → List ℕ
label_of letter n = letter ∷ decimal n

-- what a round makes: a hello (h, 104), a bundle (b, 98), an update (f, 102)
abbrev pub round_hello : ℕ → List ℕ
round_hello t = label_of 104 t

abbrev pub round_bundle : ℕ → List ℕ
round_bundle t = label_of 98 t

abbrev pub round_update : ℕ → List ℕ
round_update t = label_of 102 t

-- what an exchange at the end makes: a hello (e, 101), a bundle (g, 103)
abbrev pub last_hello : ℕ → List ℕ
last_hello j = label_of 101 j

abbrev pub last_bundle : ℕ → List ℕ
last_bundle j = label_of 103 j

-- what a node makes last: a hello (z, 122)
abbrev pub farewell : ℕ → List ℕ
farewell node = label_of 122 node

-- the faulty node
abbrev pub faulty_node : ℕ
faulty_node = 9

-- one of the nodes 1 to 5, and one of the keys 0 to 39, by the last draw
abbrev pub some_node : LoadDraft → ℕ
some_node d = 1 + draw 5 d

abbrev pub some_key : LoadDraft → List ℕ
some_key d = load_key (draw 40 d)

-- the r-th of the nodes 1 to 5 but for v, from 1
abbrev pub other_than : ℕ → ℕ → ℕ
other_than v r = if nat_le v r then r + 1 else r

-- ---- rounds

-- one event more
abbrev pub draft_with : LoadDraft → Event → LoadDraft
draft_with d e = record d { events = d.events ++ e ∷ [] }

-- a node puts the number of the round under a key
abbrev pub put_round : ℕ → LoadDraft → LoadDraft
put_round t d =
    let a = drawn d in
    let b = drawn a in
    draft_with b (Put (some_node a) (some_key b) (value_of t))

-- a node reads a key
abbrev pub get_round : LoadDraft → LoadDraft
get_round d =
    let a = drawn d in
    let b = drawn a in
    draft_with b (Get (some_node a) (some_key b))

-- a bundle is lost (0), or given twice (1), in pieces (2), or once
abbrev pub given : ℕ → ℕ → List ℕ → LoadDraft → LoadDraft
given c r bundle d =
    if c == 0 then d else
    if c == 1 then draft_with (draft_with d (Give r bundle None)) (Give r bundle None) else
    if c == 2 then draft_with d (Give r bundle (Some 1460)) else draft_with d (Give r bundle None)

-- a node makes a bundle for another's hello
abbrev pub bundled : ℕ → ℕ → List ℕ → List ℕ → LoadDraft → LoadDraft
bundled v r hello bundle d = draft_with (draft_with d (Hello r hello)) (Bundle v hello bundle)

-- a node takes another's bundle, or doesn't
abbrev pub exchange_round : ℕ → LoadDraft → LoadDraft
exchange_round t d =
    let a = drawn d in
    let b = drawn a in
    let v = some_node a in
    let r = other_than v (1 + draw 4 b) in
    let c = drawn (bundled v r (round_hello t) (round_bundle t) b) in
    given (draw 8 c) r (round_bundle t) c

-- a node takes an update of the faulty node, which has no parents
abbrev pub update_round : ℕ → ℕ → LoadDraft → LoadDraft
update_round t n d =
    let a = drawn d in
    let b = draft_with a (Update (round_update t) faulty_node a.updates 1 None (some_key a) (value_of t) [] Right) in
    let c = draft_with b (Give n (round_update t) None) in
    record c { updates = c.updates + 1 }

-- a node starts again (0), or takes an update of the faulty node
abbrev pub faulty_round : ℕ → LoadDraft → LoadDraft
faulty_round t d =
    let a = drawn d in
    let b = drawn a in
    let n = some_node a in
    if draw 4 b == 0 then draft_with b (Restart n) else update_round t n b

-- of ten rounds, five are puts, two are reads, and two are exchanges
abbrev pub round_by : ℕ → ℕ → LoadDraft → LoadDraft
round_by a t d = if nat_lt a 5 then put_round t d else if nat_lt a 7 then get_round d else if nat_lt a 9 then exchange_round t d else faulty_round t d

unfoldable pub round : ℕ → LoadDraft → LoadDraft
round t d = let a = drawn d in round_by (draw 10 a) t a

-- ---- the end

-- Twice over, each node takes a bundle of each other: the exchanges are numbered from 0, and of each twenty the first four are with node 1.
abbrev pub giver : ℕ → ℕ
giver j = 1 + (j % 20) / 4

abbrev pub taker : ℕ → ℕ
taker j = other_than (giver j) (1 + j % 4)

unfoldable pub exchange : ℕ → LoadDraft → LoadDraft
exchange j d = draft_with (bundled (giver j) (taker j) (last_hello j) (last_bundle j) d) (Give (taker j) (last_bundle j) None)

-- each key is read by each node: the reads are numbered from 0, and the first five are of key 0
unfoldable pub read : ℕ → LoadDraft → LoadDraft
read i d = draft_with d (Get (1 + i % 5) (load_key (i / 5)))

-- each node says hello
unfoldable pub greet : ℕ → LoadDraft → LoadDraft
greet i d = draft_with d (Hello (1 + i) (farewell (1 + i)))

-- ---- the whole load

-- what the steps 0, 1 and so on make, so many of them
unfoldable pub steps : {A : Type 0} → (ℕ → A → A) → ℕ → A → A
steps step zero a = a
steps step (suc n) a = step n (steps step n a)

-- a load before its first round
abbrev pub begun : ℕ → LoadDraft
begun number = record { state = number; updates = 0; events = [] }

unfoldable pub whole_draft : ℕ → LoadDraft
whole_draft number = steps greet 5 (steps read 200 (steps exchange 40 (steps round 2000 (begun number))))

-- the nodes 1 to 5, and the faulty one
abbrev pub member : ℕ → Bool → Member
member node is_correct = record { node = node; correct = is_correct }

abbrev pub members : List Member
members = member 1 true ∷ member 2 true ∷ member 3 true ∷ member 4 true ∷ member 5 true ∷ member faulty_node false ∷ []

-- the plain scheme, with trees of height 12
abbrev pub schedule_with : List Event → Schedule
schedule_with events = record { winter = false; height = 12; members = members; events = events }

-- the schedule that a number makes
unfoldable pub load_of : ℕ → Schedule
load_of number = schedule_with (whole_draft number).events
