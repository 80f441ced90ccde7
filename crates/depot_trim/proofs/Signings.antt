-- What prevents signing a checkpoint, and the call that signs one.
use Rattle.std.proofs.Common.{◌≡◌, ◌≢◌, ◌↔◌, List, ℕ, Result, Ok, Err, IsErrOf, IsErrAnd, refl, sym, subst}
use Rattle.depot_base.specs.declared.record.Record.{Record}
use Rattle.depot_model.specs.checks.Checks.{Setting}
use Rattle.depot_model.specs.checks.Putting.{IsPutCall}
use Rattle.depot_model.specs.declared.node_state.NodeState.{Ghosts}
use Rattle.depot_model.specs.declared.put_answers.PutDone.{PutDone}
use Rattle.depot_model.specs.declared.put_answers.PutError.{PutError}
use Rattle.depot_model.specs.declared.put_answers.PutError.TheVariants as put
use Rattle.depot_model.proofs.of_journals.JournalCallLaws.{renamed_call}
use Rattle.depot_trim.specs.Signing.{IsDue, IsSigningCall, as_signed, signing_changes}
use Rattle.depot_trim.specs.declared.sign_error.CheckpointError.{CheckpointError}
use Rattle.depot_trim.specs.declared.sign_error.CheckpointError.TheVariants as sign

-- it is neither a fault nor a node that is stopped
pub no_fault : (here : Setting) (J : List Record) (text : List ℕ) (e : CheckpointError) → IsDue here J text (Err e) → (e ≡ sign.Disk → ⊥) × (e ≡ sign.Stopped → ⊥)
no_fault here J text e due = (
  (λ is. let d : IsDue here J text (Err sign.Disk) = subst (λ (x : CheckpointError). IsDue here J text (Err x)) is due in d),
  (λ is. let d : IsDue here J text (Err sign.Stopped) = subst (λ (x : CheckpointError). IsDue here J text (Err x)) is due in d),
)

-- the answers say the same of a stopped node, of the disk, and of what is appended
record IsSaidAs (answer : Result PutDone PutError) (result : Result PutDone CheckpointError) : Type 0 where
  stopped : IsErrOf answer put.Stopped ↔ IsErrOf result sign.Stopped
  failed : IsErrOf answer put.Disk ↔ IsErrOf result sign.Disk
  nothing : IsErrAnd result (λ e. e ≢ sign.Disk) → IsErrAnd answer (λ e. e ≢ put.Disk)

said_as : (answer : Result PutDone PutError) → IsSaidAs answer (as_signed answer)
said_as (Ok done) = record { stopped = ((λ is. absurd cc), (λ is. absurd cc)); failed = ((λ is. absurd cc), (λ is. absurd cc)); nothing = λ never. never }
said_as (Err put.Memory) = record { stopped = ((λ is. absurd cc), (λ is. absurd cc)); failed = ((λ is. absurd cc), (λ is. absurd cc)); nothing = λ _ is. absurd cc }
said_as (Err put.Disk) = record { stopped = ((λ is. absurd cc), (λ is. absurd cc)); failed = ((λ _. refl), (λ _. refl)); nothing = λ differs. absurd (differs refl) }
said_as (Err put.Stopped) = record { stopped = ((λ _. refl), (λ _. refl)); failed = ((λ is. absurd cc), (λ is. absurd cc)); nothing = λ _ is. absurd cc }
said_as (Err (put.Spent n)) = record { stopped = ((λ is. absurd cc), (λ is. absurd cc)); failed = ((λ is. absurd cc), (λ is. absurd cc)); nothing = λ _ is. absurd cc }
said_as (Err (put.Tips n)) = record { stopped = ((λ is. absurd cc), (λ is. absurd cc)); failed = ((λ is. absurd cc), (λ is. absurd cc)); nothing = λ _ is. absurd cc }
said_as (Err (put.Collides h)) = record { stopped = ((λ is. absurd cc), (λ is. absurd cc)); failed = ((λ is. absurd cc), (λ is. absurd cc)); nothing = λ _ is. absurd cc }
said_as (Err (put.Full what)) = record { stopped = ((λ is. absurd cc), (λ is. absurd cc)); failed = ((λ is. absurd cc), (λ is. absurd cc)); nothing = λ _ is. absurd cc }

-- a put of the text under its key, whose answer is given so, is a call that signs it
pub as_put_call : {N : Type 0} (g : Ghosts N) (old new : N) (text : List ℕ) (answer : Result PutDone PutError) (result : Result PutDone CheckpointError) → result ≡ as_signed answer → IsPutCall g old new (signing_changes text) answer → IsSigningCall g old new text result
as_put_call g old new text answer result is call =
    let so = said_as answer in
    subst (λ (r : Result PutDone CheckpointError). IsSigningCall g old new text r) (sym is) (record { same = call.same; journal = renamed_call so.stopped so.failed so.nothing call.journal })
