-- The outcome of a command that asks something of readers.
use Rattle.std.proofs.Common.{◌≡◌, ℕ, Bool, true, false, List, [], ◌∷◌, is_some, Option, Some, None, Result, Ok, Err, refl, sym, ap, subst, ◌∙◌}
use Rattle.std.specs.Prelude.{OnOk}
use Rattle.std.specs.Result.{IsErrAnd}
use Rattle.depot_base.specs.declared.record.Record.{Record}
use Rattle.depot_model.specs.exchange.Bundle.{Signs}
use Rattle.depot_model.specs.checks.Checks.{Setting}
use Rattle.depot_model.specs.readers.Readers.{Reader}
use Rattle.depot_model.specs.declared.node_state.NodeState.{Ghosts}
use Rattle.depot_outside.specs.Told.{Shelves, Sinks}
use Rattle.depot_requests.specs.ReaderRequests.{ReaderServed, line_of_reader_reply, reader_served}
use Rattle.depot_requests.specs.declared.reader_reply.ReaderReply.{ReaderReply}
use Rattle.depot_requests.specs.declared.reader_reply.ReaderReply.TheVariants as told
use Rattle.depot_requests.specs.declared.reader_request.ReaderRequest.{ReaderRequest}
use Rattle.depot_requests.specs.declared.reader_request.ReaderRequest.TheVariants as readers
use Rattle.depot_requests.specs.declared.reader_request.ReaderUse.TheVariants as use_of
use Rattle.depot_requests.specs.declared.reply.Reason.{Reason}
use Rattle.depot_requests.specs.declared.reply.Reason.TheVariants as reason
use Rattle.depot_script.specs.declared.command.Command.{Command}
use Rattle.depot_script.specs.declared.command.Command.TheVariants as command
use Rattle.depot_session.specs.declared.ending.ScriptEnding.{ScriptEnding}
use Rattle.depot_session.specs.declared.ending.ScriptEnding.TheVariants as ending
use Rattle.depot_session.specs.ScriptTelling.{IsUnchanged, Tells}
use Rattle.depot_session.specs.Sessions.{AsksOfReaders, Names, Session, Step, absent, asked_in, asks_reader, command_text, ending_of_reader_reply, given_by_name, lacks, loads_of, name_stored, reader_file, reader_step, step_by, step_of}
use Rattle.depot_session.specs.Turns.{IsAt, IsRunning, Turns}
use Rattle.depot_session.proofs.AskedCommands.{with_none, with_some}
use Rattle.depot_session.proofs.CorrectSteps.{IsNoGet}
use Rattle.depot_session.proofs.ToldFaults.{EndsCalmly}
use Rattle.depot_session.proofs.on_disks.Uncalled.{uncalled_told}

-- what holds on Ok holds on `Memory` too
pub not_without_memory : (r : Result (Unit {0}) ScriptEnding) (P : Type 0) → IsErrAnd r (λ e. e ≡ ending.Memory) → OnOk r P
not_without_memory (Ok done) P is = absurd is
not_without_memory (Err e) P is = tt

-- ---- its file

-- it isn't there
pub reader_lacks : (s : Session) (c : Command) (name : List ℕ) → reader_file (is_some s.reader) c ≡ Some name → s.files name ≡ None → asked_in s c ≡ lacks name
reader_lacks s (command.Trim file) name is none = with_none (λ b. asks_reader (readers.Trim b)) s file name is none
reader_lacks s (command.Tgive file) name is none = by_last s.reader refl is where
  by_last : (o : Option Reader) → s.reader ≡ o → reader_file (is_some o) (command.Tgive file) ≡ Some name → asked_in s (command.Tgive file) ≡ lacks name
  by_last None last is = absurd cc
  by_last (Some R) last is = ap (given_by_name s file) last ∙ with_none (λ b. asks_reader (readers.Use (use_of.Give b))) s file name is none
reader_lacks s other name is none = absurd cc

pub reader_absent : (here : Setting) (sign : Signs) (s : Session) (c : Command) (name : List ℕ) → reader_file (is_some s.reader) c ≡ Some name → s.files name ≡ None → step_of here sign s c ≡ absent s name
unfolding step_of
reader_absent here sign s c name is none = ap (step_by here sign s c) (reader_lacks s c name is none)

-- it names it
pub reader_names : (made : Bool) (c : Command) (name : List ℕ) → reader_file made c ≡ Some name → Names c name
reader_names made (command.Trim file) name is = cc
reader_names true (command.Tgive file) name is = cc
reader_names false (command.Tgive file) name is = absurd cc
reader_names made other name is = absurd cc

-- and loads it
pub reader_loads : (made : Bool) (c : Command) (name : List ℕ) → reader_file made c ≡ Some name → loads_of made c ≡ name ∷ []
reader_loads made (command.Trim file) name is = let same : file ≡ name = cc in ap (λ (n : List ℕ). n ∷ []) same
reader_loads true (command.Tgive file) name is = let same : file ≡ name = cc in ap (λ (n : List ℕ). n ∷ []) same
reader_loads false (command.Tgive file) name is = absurd cc
reader_loads made other name is = absurd cc

-- one that has none loads none
pub reader_loads_none : (made : Bool) (c : Command) → AsksOfReaders c → reader_file made c ≡ None → loads_of made c ≡ []
reader_loads_none made (command.Trim file) asks none = absurd cc
reader_loads_none true (command.Tgive file) asks none = absurd cc
reader_loads_none false (command.Tgive file) asks none = refl
reader_loads_none made (command.Tget key) asks none = refl
reader_loads_none made other asks none = absurd asks

-- it stores none
pub reader_stores_none : (c : Command) → AsksOfReaders c → name_stored c ≡ None
reader_stores_none (command.Trim file) asks = refl
reader_stores_none (command.Tgive file) asks = refl
reader_stores_none (command.Tget key) asks = refl
reader_stores_none other asks = absurd asks

-- ---- what it asks for

-- it reads no key of the node
pub reader_no_get : (c : Command) → AsksOfReaders c → IsNoGet c
reader_no_get (command.Get key) asks = absurd asks
reader_no_get other asks = tt

-- with the bytes of its file
pub asks_trim : (s : Session) (file name bytes : List ℕ) → reader_file (is_some s.reader) (command.Trim file) ≡ Some name → s.files name ≡ Some bytes → asked_in s (command.Trim file) ≡ asks_reader (readers.Trim bytes)
asks_trim s file name bytes is = with_some (λ b. asks_reader (readers.Trim b)) s file name is bytes

pub asks_give : (s : Session) (file name bytes : List ℕ) → reader_file (is_some s.reader) (command.Tgive file) ≡ Some name → s.files name ≡ Some bytes → asked_in s (command.Tgive file) ≡ asks_reader (readers.Use (use_of.Give bytes))
asks_give s file name bytes is there = by_last s.reader refl is where
  by_last : (o : Option Reader) → s.reader ≡ o → reader_file (is_some o) (command.Tgive file) ≡ Some name → asked_in s (command.Tgive file) ≡ asks_reader (readers.Use (use_of.Give bytes))
  by_last None last is = absurd cc
  by_last (Some R) last is = ap (given_by_name s file) last ∙ with_some (λ b. asks_reader (readers.Use (use_of.Give b))) s file name is bytes there

-- no reader was made that could be given a stream
pub asks_nothing : (s : Session) (file : List ℕ) → reader_file (is_some s.reader) (command.Tgive file) ≡ None → asked_in s (command.Tgive file) ≡ asks_reader (readers.Use (use_of.Give []))
asks_nothing s file none = by_last s.reader refl none where
  by_last : (o : Option Reader) → s.reader ≡ o → reader_file (is_some o) (command.Tgive file) ≡ None → asked_in s (command.Tgive file) ≡ asks_reader (readers.Use (use_of.Give []))
  by_last None last is = ap (given_by_name s file) last
  by_last (Some R) last is = absurd cc

-- ---- how it ends the run

reason_ends_calmly : (why : Reason) → EndsCalmly (ending_of_reader_reply (told.Refused why))
reason_ends_calmly (reason.IllFormed at) = tt
reason_ends_calmly (reason.OtherRoster given) = tt
reason_ends_calmly other = tt

-- for no fault
pub reader_ends_calmly : (r : ReaderReply) → EndsCalmly (ending_of_reader_reply r)
reader_ends_calmly (told.Refused why) = reason_ends_calmly why
reader_ends_calmly (told.Took counts None) = tt
reader_ends_calmly (told.Took counts (Some what)) = tt
reader_ends_calmly other = tt

-- ---- the reply is reported

reader_step_is : (here : Setting) (sign : Signs) (s : Session) (c : Command) (r : ReaderRequest) → asked_in s c ≡ asks_reader r → step_of here sign s c ≡ reader_step s c (reader_served here s.correct.journal s.reader r)
unfolding step_of
reader_step_is here sign s c r asked = ap (step_by here sign s c) asked

-- the last reader after the step
pub reader_then : (here : Setting) (sign : Signs) (J : List Record) (s : Session) (c : Command) (r : ReaderRequest) → s.correct.journal ≡ J → asked_in s c ≡ asks_reader r → (step_of here sign s c).session.reader ≡ (reader_served here J s.reader r).reader
reader_then here sign J s c r journal asked = ap (λ (x : Step). x.session.reader) (reader_step_is here sign s c r asked) ∙ ap (λ (K : List Record). (reader_served here K s.reader r).reader) journal

module _ {N : Type 0} (g : Ghosts N) (v : N) (running : IsRunning g v) (s : Session) (c : Command) (r : ReaderRequest) (shelf : Shelves) (sink : Sinks) (at : IsAt (g.stands v) (g.records v) shelf.file s) (unchanged : IsUnchanged shelf)
    (asked : asked_in s c ≡ asks_reader r) where
  -- the defined outcome
  abbrev served : ReaderServed
  served = reader_served (g.stands v) (g.records v) s.reader r

  is : step_of (g.stands v) (g.signature_of v) s c ≡ reader_step s c served
  is = reader_step_is (g.stands v) (g.signature_of v) s c r asked ∙ ap (λ (K : List Record). reader_step s c (reader_served (g.stands v) K s.reader r)) at.journal

  -- its line was reported, or not
  pub reader_told : (line : List ℕ) (ends : Option ScriptEnding) (result : Result (Unit {0}) ScriptEnding) → line ≡ line_of_reader_reply served.reply → ends ≡ ending_of_reader_reply served.reply → Tells sink (command_text c line) ends result
      → Turns g v v c (step_of (g.stands v) (g.signature_of v) s c) shelf sink result
  reader_told line ends result line_is ends_is tells =
      uncalled_told g v running s c shelf sink at unchanged (ap (λ (x : Step). x.session.correct.journal) is ∙ at.journal) (λ name. ap (λ (x : Step). x.session.files name) is) ends result (ap (λ (x : Step). x.ending) is ∙ sym ends_is)
      (subst (λ (x : List ℕ). Tells sink x ends result) (ap (command_text c) line_is ∙ sym (ap (λ (x : Step). x.text) is)) tells)
