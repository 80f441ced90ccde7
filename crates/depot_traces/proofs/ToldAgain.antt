-- A trace that is seen and written again is the same, so the text of what is seen of it is its own.
use Rattle.std.proofs.Common.{◌≡◌, List, [], ◌∷◌, map, refl, sym, ap, ◌∙◌}
use Rattle.depot_model.specs.worlds.Traces as traces
use Rattle.depot_traces.specs.SeenTraces.{sighting_of, answered_of, read_of, trace_of}
use Rattle.depot_traces.specs.ToldTraces.{told_shown, told_answered, told_read, told_trace, file_of_trace}
use Rattle.depot_traces.specs.TraceTexts.{text_of_trace}
use Rattle.depot_traces.specs.declared.trace.Answered.{Answered}
use Rattle.depot_traces.specs.declared.trace.ReadTrace.{ReadTrace}
use Rattle.depot_traces.specs.declared.trace.Shown.{Shown}
use Rattle.depot_traces.specs.declared.trace.Shown.TheVariants.{NotHeld, Held, Gone}
use Rattle.depot_traces.specs.declared.trace.Trace.{Trace}

-- of each element of a list
each_again : {X Y : Type 0} (seen : X → Y) (told : Y → X) → ((x : X) → told (seen x) ≡ x) → (xs : List X) → map told (map seen xs) ≡ xs
each_again seen told again [] = refl
each_again seen told again (x ∷ xs) = ap (λ (y : _). y ∷ map told (map seen xs)) (again x) ∙ ap (λ (ys : List _). x ∷ ys) (each_again seen told again xs)

shown_again : (s : Shown) → told_shown (sighting_of s) ≡ s
shown_again NotHeld = refl
shown_again (Held value) = refl
shown_again Gone = refl

answered_again : (a : Answered) → told_answered (answered_of a) ≡ a
answered_again a = ap (λ (s : Shown). record { id = a.id; shown = s }) (shown_again a.shown)

read_again : (r : ReadTrace) → told_read (read_of r) ≡ r
read_again r = ap (λ (l : List Answered). record { length = r.length; key = r.key; answer = l }) (each_again answered_of told_answered answered_again r.answer)

trace_again : (t : Trace) → told_trace (trace_of t) ≡ t
trace_again t = ap (λ (l : List ReadTrace). record { node = t.node; texts = t.texts; reads = l }) (each_again read_of told_read read_again t.reads)

-- the text of a trace is the file of what is seen of it
pub text_is_file : (t : Trace) (m : traces.Trace) → trace_of t ≡ m → text_of_trace t ≡ file_of_trace m
text_is_file t m is = ap text_of_trace (sym (trace_again t)) ∙ ap file_of_trace is
