-- What the decoder of traces answers, as other decoders do.
use Rattle.std.specs.Prelude.{Result, Ok, Err}
use Rattle.depot_base.specs.declared.fault.DecodeError.{DecodeError}
use Rattle.depot_base.specs.declared.fault.DecodeError.TheVariants as errors
use Rattle.depot_traces.specs.declared.trace.Trace.{Trace}
use Rattle.depot_traces.specs.declared.trace_text.TraceError.{TraceError}
use Rattle.depot_traces.specs.declared.trace_text.TraceError.TheVariants as trace_error

-- the same answer in the words of all decoders, whose offsets are any numbers
abbrev pub as_decoded : Result Trace TraceError → Result Trace DecodeError
as_decoded (Ok t) = Ok t
as_decoded (Err trace_error.Memory) = Err errors.Memory
as_decoded (Err (trace_error.IllFormed at)) = Err (errors.IllFormed at)
