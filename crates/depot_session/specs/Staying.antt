-- A message about a node is written, and then the node is served.
use Rattle.std.specs.Prelude.{◌≡◌, ◌⊎◌, ◌++◌, ℕ, List, IsTrue, Result}
use Rattle.depot_model.specs.declared.node_state.NodeState.{Ghosts}
use Rattle.depot_outside.specs.Told.{Sinks}
use Rattle.depot_source.specs.Inputs.{Inputs}
use Rattle.depot_session.specs.Answering.{ServesBody, serves_of}
use Rattle.depot_session.specs.FirstMessages.{started_text}
use Rattle.depot_session.specs.ServerRuns.{IsUnsaid, ending_of_served}
use Rattle.depot_session.specs.Serving.{ServesInput}
use Rattle.depot_session.specs.declared.server_ending.ServeEnding.{ServeEnding}
use Rattle.depot_session.specs.declared.server_ending.ServerEnding.{ServerEnding}

-- Its message wasn't written whole, and nothing was done.
pub record IsLeftAlone {N : Type 0} (first : List ℕ) (old new : N) (same_input : Type 0) (sink : Sinks) (ends : ServerEnding) : Type 0 where
  pub same : new ≡ old
  pub unread : same_input
  pub unsaid : IsUnsaid sink first ends

-- a message was written, and what is written after it is stated of the sink as it is then
pub record IsFirstSaid (whole behind : Sinks) (text : List ℕ) : Type 0 where
  pub tells : behind.tells ≡ whole.tells
  pub first : IsTrue whole.tells → behind.before ≡ whole.before ++ text
  pub after : whole.after ≡ behind.after
  pub calm : behind.faults_before ≡ whole.faults_before
  pub faults : whole.faults_after ≡ behind.faults_after

-- Its message was written, and then what came was served.
pub record IsStayedWith {N : Type 0} (g : Ghosts N) (first : List ℕ) (f : ServesBody) (old new : N) (input : Inputs) (sink : Sinks) (ends : ServerEnding) : Type 0 where
  pub behind : Sinks
  pub said : IsFirstSaid sink behind first
  pub served : Result (Unit {0}) ServeEnding
  pub serves : ServesInput g f old new input behind served
  pub ending_is : ends ≡ ending_of_served served

abbrev pub StaysBy : {N : Type 0} → Ghosts N → (first : List ℕ) → ServesBody → N → N → Inputs → (same_input : Type 0) → Sinks → ServerEnding → Type 0
StaysBy g first f old new input same_input sink ends = IsLeftAlone first old new same_input sink ends ⊎ IsStayedWith g first f old new input sink ends

-- the same with the first message and the service that this node's setting, signer and journal give
abbrev pub StaysWith : {N : Type 0} → Ghosts N → N → N → Inputs → (same_input : Type 0) → Sinks → ServerEnding → Type 0
StaysWith g old new input same_input sink ends = StaysBy g (started_text (g.stands old) (g.records old)) (serves_of g old) old new input same_input sink ends
