-- The two schemes of a schedule, and the keys of its members.
use Rattle.std.specs.Prelude.{ℕ, List, ◌++◌, Bool, true, false, map, replicate, nat_lt}
use Rattle.std.specs.Int.{w16}
use Rattle.depot_base.specs.Cursor.{numeral}
use Rattle.depot_base.specs.declared.key.RosterEntry.{RosterEntry}
use Rattle.depot_model.specs.exchange.Bundle.{Signs}
use Rattle.depot_model.specs.checks.Checks.{Setting}
use Rattle.depot_model.specs.texts.Plain.{plain_root, plain_signature, plain_verifies}
use Rattle.depot_model.specs.texts.Roster.{Verifies}
use Rattle.depot_model.specs.texts.Winternitz.{root_of, winternitz_signature, winternitz_verifies}
use Rattle.depot_schedule.specs.declared.member.Member.{Member}
use Rattle.depot_schedule.specs.declared.schedule.Schedule.{Schedule}
use Rattle.depot_model.specs.lists.Insertion.{order_by}

-- What a scheme makes of a seed: how it verifies, the root of the key of a tree of this height, and the signature of a
-- body by the leaf of a seq.
pub record SignatureSuite : Type 0 where
  pub verifies : Verifies
  pub root : List ℕ → ℕ → List ℕ
  pub sign : List ℕ → ℕ → Signs

abbrev pub plain_suite : SignatureSuite
plain_suite = record { verifies = plain_verifies; root = λ seed height. plain_root seed; sign = λ seed height. plain_signature (plain_root seed) }

abbrev pub winter_suite : SignatureSuite
winter_suite = record { verifies = winternitz_verifies; root = root_of; sign = winternitz_signature }

-- the suite of a schedule's second line
unfoldable pub suite_of : Bool → SignatureSuite
suite_of true = winter_suite
suite_of false = plain_suite

-- the seed of a member: 30 zero bytes, and its number as two bytes
unfoldable pub seed_of : ℕ → List ℕ
seed_of node = replicate 30 0 ++ numeral w16 node

-- ---- the setup

-- Where a schedule is played: the scheme, the height of all trees, and the roster of all members.
pub record Setup : Type 0 where
  pub suite : SignatureSuite
  pub height : ℕ
  pub listed : List RosterEntry

-- a member as the roster has it
abbrev pub roster_entry_of : SignatureSuite → ℕ → Member → RosterEntry
roster_entry_of suite height m = record { node = m.node; key = record { root = suite.root (seed_of m.node) height; height = height } }

-- an entry precedes those of greater nodes
abbrev pub is_entry_before : RosterEntry → RosterEntry → Bool
is_entry_before e f = nat_lt e.node f.node

-- the roster of members, in rising order
abbrev pub roster_of : SignatureSuite → ℕ → List Member → List RosterEntry
roster_of suite height members = order_by is_entry_before (map (roster_entry_of suite height) members)

-- the setup of a schedule
unfoldable pub setup_of : Schedule → Setup
setup_of s = record { suite = suite_of s.winter; height = s.height; listed = roster_of (suite_of s.winter) s.height s.members }

-- where a node is in a setup
abbrev pub stands_on : Setup → ℕ → Setting
stands_on setup node = record { verifies = setup.suite.verifies; me = node; listed = setup.listed }

-- how a member signs
abbrev pub signs_on : Setup → ℕ → Signs
signs_on setup node = setup.suite.sign (seed_of node) setup.height
