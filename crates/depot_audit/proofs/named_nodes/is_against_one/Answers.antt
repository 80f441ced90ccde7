use Rattle.std.proofs.Common.{map, sym, ◌∙◌}
use Rattle.depot_audit.specs.Lookups.{nodes_in}
use Rattle.depot_audit.proofs.NamedNodes.{tag_is, some_text, convicts_nobody}
use Rattle.depot_audit.proofs.named_nodes.is_against_one.Goals as goal

pub returns-in_default : goal.returns-in_default
returns-in_default c = λ r told. absurd (some_text r c.args.text.now told.is c.in_default.len_below)

pub returns-then-tag-byte : goal.returns-then-tag-byte
returns-then-tag-byte c = λ r told.
    sym (convicts_nobody (nodes_in (map (λ t. t.now) c.args.traces.now)) r (λ is. c.if-tag-byte.true (tag_is r c.args.text.now told.is ∙ is ∙ sym c.byte.ensures)))
