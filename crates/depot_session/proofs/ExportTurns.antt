-- The outcome of the command that exports a trace.
use Rattle.std.proofs.Common.{◌≡◌, ℕ, IsTrue, List, Option, None, Result, length, map, refl, sym, ap, subst, ◌∙◌}
use Rattle.std.proofs.lemmas.List.{length-map}
use Rattle.depot_base.specs.declared.record.Record.{Record}
use Rattle.depot_model.specs.exchange.Bundle.{Signs}
use Rattle.depot_model.specs.checks.Checks.{Setting}
use Rattle.depot_model.specs.texts.Records.{text_of_record}
use Rattle.depot_model.specs.declared.node_state.NodeState.{Ghosts}
use Rattle.depot_answers.specs.AnswerTexts.{spaced, text_of_traced}
use Rattle.depot_outside.specs.Told.{Shelves, Sinks}
use Rattle.depot_script.specs.declared.command.Command.TheVariants as command
use Rattle.depot_traces.specs.SeenTraces.{read_of}
use Rattle.depot_traces.specs.ToldTraces.{file_of_trace}
use Rattle.depot_traces.specs.declared.trace.ReadTrace.{ReadTrace}
use Rattle.depot_world.specs.Audits.{traced_read}
use Rattle.depot_requests.specs.Effects.{ended}
use Rattle.depot_service.specs.TracePrinting.{export_of}
use Rattle.depot_session.specs.declared.ending.ScriptEnding.{ScriptEnding}
use Rattle.depot_session.specs.Sessions.{Session, command_text, reads_of_run, step_of, stored, trace_of_run}
use Rattle.depot_session.specs.ScriptTelling.{Stores}
use Rattle.depot_session.specs.Turns.{IsAt, IsRunning, Turns}
use Rattle.depot_session.proofs.StoredFiles.{stored_alike}
use Rattle.depot_session.proofs.on_disks.Uncalled.{uncalled_stored}

-- it is that of the run, where its reads are kept
trace_is : (s : Session) (node : ℕ) (J : List Record) (reads : List ReadTrace) → s.correct.node ≡ node → s.correct.journal ≡ J → map read_of reads ≡ map traced_read (reads_of_run s) → trace_of_run s ≡ record { node = node; texts = map text_of_record J; reads = map read_of reads }
trace_is s node J reads own journal are = λ i. record { node = own i; texts = map text_of_record (journal i); reads = sym are i }

-- the text of the step is that of the command and the line of the trace
export_text : (here : Setting) (sign : Signs) (s : Session) (J : List Record) (reads : List ReadTrace) (file line : List ℕ) → s.correct.journal ≡ J → map read_of reads ≡ map traced_read (reads_of_run s) → line ≡ ended (spaced (text_of_traced (length J) (length reads)))
    → command_text (command.Export file) line ≡ (step_of here sign s (command.Export file)).text
unfolding step_of
export_text here sign s J reads file line journal are is =
    let count : length reads ≡ length (reads_of_run s) = sym (length-map reads read_of) ∙ ap length are ∙ length-map (reads_of_run s) traced_read in
    ap (command_text (command.Export file)) (is ∙ (λ i. ended (spaced (text_of_traced (length (sym journal i)) (count i)))))

-- the files after the step
export_files : (here : Setting) (sign : Signs) (s : Session) (J : List Record) (reads : List ReadTrace) (file text : List ℕ) (files : List ℕ → Option (List ℕ)) → s.correct.node ≡ here.me → s.correct.journal ≡ J → map read_of reads ≡ map traced_read (reads_of_run s)
    → text ≡ export_of here.me J (map read_of reads) → ((name : List ℕ) → files name ≡ s.files name) → (other : List ℕ) → (step_of here sign s (command.Export file)).session.files other ≡ stored files file text other
unfolding step_of
export_files here sign s J reads file text files own journal are is same other =
    stored_alike s.files files file (file_of_trace (trace_of_run s)) text (λ name. sym (same name)) (ap file_of_trace (trace_is s here.me J reads own journal are) ∙ sym is) other

-- the run goes on
pub export_goes_on : (here : Setting) (sign : Signs) (s : Session) (file : List ℕ) → (step_of here sign s (command.Export file)).ending ≡ None
unfolding step_of
export_goes_on here sign s file = refl

export_stays : (here : Setting) (sign : Signs) (s : Session) (file : List ℕ) → (step_of here sign s (command.Export file)).session.correct.journal ≡ s.correct.journal
unfolding step_of
export_stays here sign s file = refl

-- the trace was stored and its line reported, or not
pub export_turns : {N : Type 0} (g : Ghosts N) (v : N) (s : Session) (reads : List ReadTrace) (file text line : List ℕ) (shelf : Shelves) (sink : Sinks) (r : Result (Unit {0}) ScriptEnding) → IsRunning g v → IsAt (g.stands v) (g.records v) shelf.file s
    → map read_of reads ≡ map traced_read (reads_of_run s) → text ≡ export_of (g.stands v).me (g.records v) (map read_of reads) → line ≡ ended (spaced (text_of_traced (length (g.records v)) (length reads))) → IsTrue shelf.tells
    → Stores shelf sink (command_text (command.Export file) line) file text r → Turns g v v (command.Export file) (step_of (g.stands v) (g.signature_of v) s (command.Export file)) shelf sink r
export_turns g v s reads file text line shelf sink r running at are text_is line_is tells stores =
    let here = g.stands v in
    let sign = g.signature_of v in
    uncalled_stored g v running s (command.Export file) shelf sink at file text (λ other is. is) (export_goes_on here sign s file) (export_stays here sign s file ∙ at.journal) r
    (export_files here sign s (g.records v) reads file text shelf.file at.node at.journal are text_is at.same_files) tells (subst (λ (x : List ℕ). Stores shelf sink x file text r) (export_text here sign s (g.records v) reads file line at.journal are line_is) stores)
