-- A node is started for a caller.
use Rattle.std.specs.Prelude.{◌≡◌, ◌<◌, ℕ, List, false, Result, Ok, Err, Some}
use Rattle.depot_base.specs.declared.key.PublicKey.{PublicKey}
use Rattle.depot_model.specs.exchange.Bundle.{Signs}
use Rattle.depot_model.specs.checks.Checks.{Setting}
use Rattle.depot_model.specs.texts.Roster.{key_of}
use Rattle.depot_model.specs.declared.signature.Signer as signer
use Rattle.depot_node.specs.Starting.{IsNotStarted, IsStartedFrom}
use Rattle.depot_c.specs.NodeViews.{Runs, NodeView, for_disk}
use Rattle.depot_c.specs.declared.refused.Refused.{Refused}
use Rattle.depot_c.specs.declared.refused.Refused.TheVariants as refused

-- nodes have the numbers 1 to 65,535
abbrev pub IsNodeNumber : ℕ → Type 0
IsNodeNumber n = (0 < n) × (n < 65536)

abbrev pub NodeGiven : ℕ → Result ℕ Refused → Type 0
NodeGiven n (Ok node) = IsNodeNumber n × (node ≡ n)
NodeGiven n (Err refused.Input) = IsNodeNumber n → ⊥
NodeGiven n (Err other) = ⊥

-- The node that was started is there, by this signer, with the journal of the file; of a file without records, with its
-- birth.
pub record IsViewStarted (here : Setting) (key : PublicKey) (sign : Signs) (file : List ℕ) (s : NodeView) : Type 0 where
  pub stands : s.here ≡ here
  pub keyed : key_of here.listed here.me ≡ Some key
  pub signs : s.sign ≡ sign
  pub runs : Runs s
  pub records : IsStartedFrom here file s.records

-- the same, where the key and the signatures are those of a signer
abbrev pub IsStartedBy : {G O : Type 0} → signer.Ghosts G O → Setting → G → List ℕ → NodeView → Type 0
IsStartedBy g here by file s = IsViewStarted here (g.key_of by) (g.signature_of by) file s

-- no node is started, for this
abbrev pub IsRefusedOn : Setting → PublicKey → List ℕ → Refused → Type 0
IsRefusedOn here key file (refused.Start e) = IsNotStarted here key (Unit {0}) file e × (for_disk (refused.Start e) ≡ false)
IsRefusedOn here key file refused.Memory = Unit {0}
IsRefusedOn here key file other = ⊥
