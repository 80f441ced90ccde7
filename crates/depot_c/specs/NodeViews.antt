-- A node of a handle, and what its calls make of it.
use Rattle.std.specs.Prelude.{◌≡◌, ℕ, List, [], Bool, true, false, Option, Result, Ok, Err, None, drop, map}
use Rattle.depot_base.specs.File.{blocks}
use Rattle.depot_base.specs.declared.key.PublicKey.{PublicKey}
use Rattle.depot_base.specs.declared.record.Record.{Record}
use Rattle.depot_model.specs.exchange.Bundle.{Signs}
use Rattle.depot_model.specs.checks.Checks.{Setting}
use Rattle.depot_model.specs.texts.Records.{text_of_record}
use Rattle.depot_node.specs.declared.start_error.StartError.TheVariants as start_error
use Rattle.depot_outside.specs.declared.stops.Stop.{Stop}
use Rattle.depot_requests.specs.declared.reply.Halt.TheVariants as halt
use Rattle.depot_c.specs.declared.refused.Refused.{Refused}
use Rattle.depot_c.specs.declared.refused.Refused.TheVariants as refused

-- what is seen of a node
pub record NodeView : Type 0 where
  -- its scheme's answers, its number and its roster
  pub here : Setting
  pub key : PublicKey
  -- what its signer gives
  pub sign : Signs
  -- its journal
  pub records : List Record
  -- whether an earlier call failed on its disk
  pub stopped : Bool
  -- which calls of its disk are to fail, and in which it is to stop
  pub fails : List ℕ
  pub stop : Option Stop

-- what a call answers: bytes, or why it is refused
abbrev pub CallAnswer : Type 0
CallAnswer = Result (List ℕ) Refused

-- The node is who it was.
pub record Stays (s t : NodeView) : Type 0 where
  pub here : t.here ≡ s.here
  pub key : t.key ≡ s.key
  pub sign : t.sign ≡ s.sign

-- it runs: no call of its disk failed, and none is to fail
pub record Runs (s : NodeView) : Type 0 where
  pub running : s.stopped ≡ false
  pub none : s.fails ≡ []
  pub never : s.stop ≡ None

-- whether a call is refused for the disk
abbrev pub for_disk : Refused → Bool
for_disk (refused.Start start_error.Disk) = true
for_disk (refused.Halted halt.Disk) = true
for_disk (refused.Halted halt.Stopped) = true
for_disk other = false

-- a node that runs goes on, and refuses nothing for the disk
abbrev pub RunsOn : {A : Type 0} → NodeView → Result A Refused → NodeView → Type 0
RunsOn s (Ok a) t = Runs s → Runs t
RunsOn s (Err r) t = Runs s → Runs t × (for_disk r ≡ false)

-- ---- records

-- the records from a place on, as they stand in a journal's file: each behind an open gate
abbrev pub records_onward : ℕ → NodeView → List ℕ
records_onward place s = blocks (drop place (map text_of_record s.records))
