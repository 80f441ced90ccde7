-- A handle, and what its calls make of it.
use Rattle.std.specs.Prelude.{◌≡◌, ◌≤◌, ℕ, List, [], Bool, false, true, Option, Some, None, Result, Ok, Err, length, is_none, is_some, ◌&&◌}
use Rattle.depot_base.specs.declared.key.PublicKey.{PublicKey}
use Rattle.depot_base.specs.declared.key.RosterEntry.{RosterEntry}
use Rattle.depot_base.specs.declared.limits.TheConstants.{GREATEST_HEIGHT, LEAST_HEIGHT}
use Rattle.depot_model.specs.exchange.Bundle.{Signs}
use Rattle.depot_model.specs.texts.RosterText.{ParsesRoster}
use Rattle.depot_model.specs.texts.Winternitz.{winternitz_signature, winternitz_verifies}
use Rattle.depot_winter.specs.TreeSigning.{key_of_seed}
use Rattle.depot_c.specs.MessageAnswers.{Messaging}
use Rattle.depot_c.specs.NodeViews.{CallAnswer, NodeView, RunsOn, Stays, records_onward}
use Rattle.depot_c.specs.Starts.{IsNodeNumber, IsRefusedOn, IsViewStarted}
use Rattle.depot_c.specs.declared.ask.Ask.{Ask}
use Rattle.depot_c.specs.declared.ask.Ask.TheVariants as ask
use Rattle.depot_c.specs.declared.refused.Refused.{Refused}
use Rattle.depot_c.specs.declared.refused.Refused.TheVariants as refused

-- a signer that is kept: its key, and what it gives
pub record KeptSigner : Type 0 where
  pub key : PublicKey
  pub sign : Signs

-- what is seen of a handle
pub record HandleView : Type 0 where
  -- the roster and the signer that a start goes by
  pub listed : Option (List RosterEntry)
  pub kept : Option KeptSigner
  -- the node
  pub node_view : Option NodeView

abbrev pub nothing_kept : HandleView
nothing_kept = record { listed = None; kept = None; node_view = None }

-- ---- rosters and keys

-- Keeps the roster of a text. Where the text is none, the handle is unchanged, with the roster from before.
abbrev pub KeepsRoster : List ℕ → HandleView → CallAnswer → HandleView → Type 0
KeepsRoster text v (Ok told) w = (told ≡ []) × ((listed : List RosterEntry) × (ParsesRoster text (Ok listed) × (w ≡ record v { listed = Some listed })))
KeepsRoster text v (Err (refused.Roster e)) w = ParsesRoster text (Err e) × (w ≡ v)
KeepsRoster text v other w = ⊥

-- 32 bytes and a height from 2 to 17
abbrev pub IsSeed : ℕ → List ℕ → Type 0
IsSeed height seed = (length seed ≡ 32) × ((LEAST_HEIGHT ≤ height) × (height ≤ GREATEST_HEIGHT))

-- the signer of a seed and a height
abbrev pub signer_of_seed : ℕ → List ℕ → KeptSigner
signer_of_seed height seed = record { key = key_of_seed seed height; sign = winternitz_signature seed height }

-- Makes the key and keeps its signer. Input is returned exactly when there is none, and then, as where no memory is
-- found, the handle is unchanged.
abbrev pub KeepsKey : ℕ → List ℕ → HandleView → CallAnswer → HandleView → Type 0
KeepsKey height seed v (Ok told) w = (told ≡ []) × (IsSeed height seed × (w ≡ record v { kept = Some (signer_of_seed height seed) }))
KeepsKey height seed v (Err refused.Input) w = (IsSeed height seed → ⊥) × (w ≡ v)
KeepsKey height seed v (Err refused.Memory) w = IsSeed height seed × (w ≡ v)
KeepsKey height seed v other w = ⊥

abbrev pub SignerGiven : {S : Type 0} → List ℕ → ℕ → (S → PublicKey) → (S → Signs) → Result S Refused → Type 0
SignerGiven seed height key sign (Ok s) = IsSeed height seed × ((key s ≡ key_of_seed seed height) × (sign s ≡ winternitz_signature seed height))
SignerGiven seed height key sign (Err refused.Input) = IsSeed height seed → ⊥
SignerGiven seed height key sign (Err refused.Memory) = IsSeed height seed
SignerGiven seed height key sign (Err other) = ⊥

-- ---- starts

-- The node of this number now, by the roster and the signer that are kept, which stay.
pub record HasStarted (n : ℕ) (file : List ℕ) (v w : HandleView) : Type 0 where
  pub listed : List RosterEntry
  pub roster : v.listed ≡ Some listed
  pub kept : KeptSigner
  pub signer : v.kept ≡ Some kept
  pub free : v.node_view ≡ None
  pub node_view : NodeView
  pub started : IsViewStarted (record { verifies = winternitz_verifies; me = n; listed = listed }) kept.key kept.sign file node_view
  pub is : w ≡ record v { node_view = Some node_view }

-- No node is started, for this. The roster and the signer stay.
pub record HasNotStarted (n : ℕ) (file : List ℕ) (v : HandleView) (r : Refused) : Type 0 where
  pub listed : List RosterEntry
  pub roster : v.listed ≡ Some listed
  pub kept : KeptSigner
  pub signer : v.kept ≡ Some kept
  pub free : v.node_view ≡ None
  pub refused : IsRefusedOn (record { verifies = winternitz_verifies; me = n; listed = listed }) kept.key file r

-- whether a node can be started: there are a roster and a signer, and no node yet
abbrev pub is_ready : HandleView → Bool
is_ready v = is_none v.node_view && (is_some v.listed && is_some v.kept)

-- Starts a node from the bytes of a journal's file. `Input` is returned exactly when the number is no node's, and then
-- `Order` exactly when there is no roster, no key, or a node already; then the handle is unchanged, and so it is where
-- no memory is found.
abbrev pub Starts : ℕ → List ℕ → HandleView → CallAnswer → HandleView → Type 0
Starts n file v (Ok told) w = (told ≡ []) × HasStarted n file v w
Starts n file v (Err (refused.Start e)) w = HasNotStarted n file v (refused.Start e) × (w ≡ v)
Starts n file v (Err refused.Input) w = (IsNodeNumber n → ⊥) × (w ≡ v)
Starts n file v (Err refused.Order) w = IsNodeNumber n × ((is_ready v ≡ false) × (w ≡ v))
Starts n file v (Err refused.Memory) w = IsNodeNumber n × ((is_ready v ≡ true) × (w ≡ v))
Starts n file v other w = ⊥

-- The node ends. The roster and the signer stay.
abbrev pub NodeEnds : HandleView → CallAnswer → HandleView → Type 0
NodeEnds v (Ok told) w = (told ≡ []) × ((is_none v.node_view ≡ false) × (w ≡ record v { node_view = None }))
NodeEnds v (Err refused.Order) w = (v.node_view ≡ None) × (w ≡ v)
NodeEnds v other w = ⊥

-- ---- the node

-- all but the node is as before
abbrev pub IsSameButNode : HandleView → HandleView → Type 0
IsSameButNode v w = w ≡ record v { node_view = w.node_view }

-- the node does or tells what the body of a message asks; Order comes exactly where there is none
abbrev pub MessagesNode : List ℕ → Option NodeView → CallAnswer → Option NodeView → Type 0
MessagesNode body None told t = (told ≡ Err refused.Order) × (t ≡ None)
MessagesNode body (Some s) told (Some t) = Stays s t × (RunsOn s told t × Messaging s body told t)
MessagesNode body (Some s) told None = ⊥

abbrev pub MessagesHandle : List ℕ → HandleView → CallAnswer → HandleView → Type 0
MessagesHandle body v told w = IsSameButNode v w × MessagesNode body v.node_view told w.node_view

-- The records of the node from a place on, unless no memory was found for them; Order comes exactly where there is no node.
abbrev pub LendsRecords : ℕ → Option NodeView → CallAnswer → Type 0
LendsRecords place None told = told ≡ Err refused.Order
LendsRecords place (Some s) (Ok run) = run ≡ records_onward place s
LendsRecords place (Some s) (Err refused.Memory) = Unit {0}
LendsRecords place (Some s) other = ⊥

-- ---- all of it

-- What a handle answers, and what it is then.
abbrev pub Does : Ask → ℕ → List ℕ → HandleView → CallAnswer → HandleView → Type 0
Does ask.Roster n input v told w = KeepsRoster input v told w
Does ask.Key n input v told w = KeepsKey n input v told w
Does ask.Start n input v told w = Starts n input v told w
Does ask.End n input v told w = NodeEnds v told w
Does ask.Message n input v told w = MessagesHandle input v told w
Does other n input v told w = (told ≡ Err refused.Order) × (w ≡ v)
