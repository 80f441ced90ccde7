use Rattle.std.proofs.Common.{ℕ, ◌==◌, map, sym, ◌∙◌}
use Rattle.std.specs.Borrow.{Bor}
use Rattle.depot_traces.specs.declared.trace.Trace.{Trace}
use Rattle.depot_audit.proofs.ListLaws.{any_map}
use Rattle.depot_audit.proofs.traced_nodes.has_node.Goals as goal

pub returns : goal.returns
returns c =
    c.is_of_one.ensures ∙ sym (any_map (λ (t : Trace). t.node == c.args.node) (λ (t : Bor Trace). t.now) c.args.traces.now)
    ∙ sym (any_map (λ (n : ℕ). n == c.args.node) (λ (t : Trace). t.node) (map (λ (t : Bor Trace). t.now) c.args.traces.now))
