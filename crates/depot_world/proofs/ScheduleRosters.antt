-- The roster of a schedule is a roster, and has each member.
use Rattle.std.proofs.Common.{◌≡◌, ℕ, ◌≤◌, Bool, true, false, eqb, ltb, cond, is_some, List, [], ◌∷◌, length, map, Some, refl, ap, subst, ◌∙◌, inl, inr, arith}
use Rattle.std.proofs.lemmas.Bool.Decides.{Decides-eqb, nat_tests}
use Rattle.std.proofs.lemmas.List.{length-map}
use Rattle.sha2.proofs.Facts256.{length-sha256}
use Rattle.depot_base.specs.Format.{number, bytes_of, list_of}
use Rattle.depot_base.specs.Parts.{roster_entry, roster_entry_rises}
use Rattle.depot_base.specs.declared.key.RosterEntry.{RosterEntry}
use Rattle.depot_model.specs.lists.Items.{AreDistinct}
use Rattle.depot_model.specs.lists.Lists.{IsIn}
use Rattle.depot_model.specs.texts.Plain.{plain_root}
use Rattle.depot_model.specs.texts.Roster.{key_of, has_node}
use Rattle.depot_model.specs.texts.Texts.{roster, IsRoster}
use Rattle.depot_model.specs.texts.Winternitz.{node, root_layer, root_height}
use Rattle.depot_model.proofs.lists.Members.{from_map, all_at, all_from, in_map}
use Rattle.depot_model.proofs.lists.RisingLists.{RisesByTest}
use Rattle.depot_laws.proofs.lists.RisingBytes.{rising_follow}
use Rattle.depot_schedule.specs.declared.member.Member.{Member}
use Rattle.depot_schedule.specs.declared.schedule.Schedule.{Schedule}
use Rattle.depot_schedule.specs.Schedules.{IsSchedule}
use Rattle.depot_model.proofs.of_texts.TreeNodes.{length-node}
use Rattle.depot_model.specs.lists.Insertion.{order_by}
use Rattle.depot_world.specs.Setups.{SignatureSuite, suite_of, seed_of, roster_entry_of, is_entry_before, roster_of, setup_of}
use Rattle.depot_model.proofs.lists.InsertionLaws.{IsOrderOf, AllDiffer, from_order, in_order, long_order, order_rises}
use Rattle.depot_world.proofs.ScheduleMembers.{nodes_of, members_are, some_member}

-- ---- roots

long_plain : (seed : List ℕ) → length (plain_root seed) ≡ 32
unfolding plain_root
long_plain seed = length-sha256 seed

-- a root of either scheme has 32 bytes
long_root : (winter : Bool) (seed : List ℕ) (height : ℕ) → length ((suite_of winter).root seed height) ≡ 32
unfolding suite_of
long_root true seed height = length-node (root_layer height) seed (root_height height) 0
long_root false seed height = long_plain seed

-- ---- the order of entries

-- two entries are of two nodes
abbrev HasOtherNode : RosterEntry → RosterEntry → Type 0
HasOtherNode e f = e.node ≡ f.node → ⊥

below_trans : (a b c : ℕ) → ltb a b ≡ true → ltb b c ≡ true → ltb a c ≡ true
below_trans a b c one two = grind (arith, nat_tests, one, two)

above_from : (a b : ℕ) → ltb a b ≡ false → (b ≡ a → ⊥) → ltb b a ≡ true
above_from a b not_below other = grind (arith, nat_tests, not_below, other)

nodes_are_ordered : IsOrderOf is_entry_before HasOtherNode
nodes_are_ordered = record { trans = λ e f g one two. below_trans e.node f.node g.node one two; other = λ e f none other. above_from e.node f.node none other }

-- ---- the roster of members

differ_by_node : (suite : SignatureSuite) (height : ℕ) (ms : List Member) → AreDistinct (nodes_of ms) → AllDiffer HasOtherNode (map (roster_entry_of suite height) ms)
differ_by_node suite height [] distinct = tt
differ_by_node suite height (m ∷ ms) distinct = (
  all_from (λ (f : RosterEntry). HasOtherNode f (roster_entry_of suite height m)) (map (roster_entry_of suite height) ms) (λ f on same.
      let r = from_map (roster_entry_of suite height) f ms on in
      all_at (λ (n : ℕ). n ≡ m.node → ⊥) (nodes_of ms) r.0.node distinct.0 (in_map (λ (z : Member). z.node) r.0 ms r.1.0) (ap (λ (x : RosterEntry). x.node) r.1.1 ∙ same)),
  differ_by_node suite height ms distinct.1,
)

entry_fits : (winter : Bool) (height node root_node : ℕ) → 2 ≤ height → height ≤ 17 → 1 ≤ node → node ≤ 65535 → roster_entry.fits (record { node = node; key = record { root = (suite_of winter).root (seed_of root_node) height; height = height } })
unfolding roster_entry number bytes_of
entry_fits winter height node root_node low high node_low node_high = ((node_low, node_high), ((low, high), (long_root winter (seed_of root_node) height, refl)))

rises_follow : (x y : RosterEntry) → is_entry_before x y ≡ true → roster_entry_rises (Some x) y ≡ true
rises_follow x y e = e

roster_fits : (listed : List RosterEntry) → RisesByTest is_entry_before listed → ((e : RosterEntry) → IsIn e listed → roster_entry.fits e) → 1 ≤ length listed → length listed ≤ 256 → IsRoster listed
unfolding roster list_of number
roster_fits listed rise fit some few =
    ((omega arith, omega arith), ((omega arith, omega arith), ((some, few), ((rising_follow roster_entry roster_entry_rises is_entry_before rises_follow [] listed rise (λ x on. refl) fit, refl), refl))))

-- ---- the setup of a schedule

pub setup_has_roster : (s : Schedule) → IsSchedule s → IsRoster (setup_of s).listed
unfolding setup_of
setup_has_roster s is =
    let ms = members_are s is in
    let entry = roster_entry_of (suite_of s.winter) s.height in
    let entries = map entry s.members in
    let long : length (order_by is_entry_before entries) ≡ length s.members = long_order is_entry_before entries ∙ length-map s.members entry in
    roster_fits (order_by is_entry_before entries) (order_rises is_entry_before HasOtherNode nodes_are_ordered entries (differ_by_node (suite_of s.winter) s.height s.members ms.distinct))
    (λ e on. let r = from_map entry e s.members (from_order is_entry_before e entries on) in
    subst (λ (x : RosterEntry). roster_entry.fits x) r.1.1 (entry_fits s.winter s.height r.0.node r.0.node is.low is.high (ms.low r.0 r.1.0) (ms.high r.0 r.1.0)))
    (omega (arith, long, some_member s is)) (omega (arith, long, ms.few (some_member s is)))

listed_has : (es : List RosterEntry) (e : RosterEntry) (n : ℕ) → IsIn e es → e.node ≡ n → has_node es n ≡ true
unfolding key_of
listed_has [] e n never same = absurd never
listed_has (x ∷ es) e n (inl here) same = first (eqb x.node n) ((Decides-eqb x.node n).1 (ap (λ (y : RosterEntry). y.node) here ∙ same)) where
  first : (b : Bool) → b ≡ true → is_some (cond b (Some x.key) (key_of es n)) ≡ true
  first true e = refl
  first false e = absurd cc
listed_has (x ∷ es) e n (inr there) same = later (eqb x.node n) (listed_has es e n there same) where
  later : (b : Bool) → has_node es n ≡ true → is_some (cond b (Some x.key) (key_of es n)) ≡ true
  later true rest = refl
  later false rest = rest

-- each member is a node of the roster
pub setup_has_members : (s : Schedule) (m : Member) → IsIn m s.members → has_node (setup_of s).listed m.node ≡ true
unfolding setup_of
setup_has_members s m on =
    let entry = roster_entry_of (suite_of s.winter) s.height in
    listed_has (roster_of (suite_of s.winter) s.height s.members) (entry m) m.node (in_order is_entry_before (entry m) (map entry s.members) (in_map entry m s.members on)) refl
