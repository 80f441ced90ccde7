use Rattle.std.proofs.Common.{◌≡◌, ℕ, List, subst}
use Rattle.std.specs.Prelude.{IfOk}
use Rattle.depot_traces.proofs.ToldAgain.{text_is_file}
use Rattle.depot_service.proofs.traces.export.Goals as goal

pub encode_trace-requires : goal.encode_trace-requires
encode_trace-requires g c = c.in_ok-trace.ensures.0

pub returns : goal.returns
returns g c = subst (λ (x : List ℕ). IfOk c.encode_trace.result (λ text. text ≡ x)) (text_is_file c.in_ok-trace.trace _ c.in_ok-trace.ensures.1) c.encode_trace.ensures
