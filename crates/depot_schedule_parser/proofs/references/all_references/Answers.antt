use Rattle.std.proofs.Common.{ℕ, List, ap, sym, ◌∙◌}
use Rattle.depot_lines.specs.Language.{read_parts}
use Rattle.depot_schedule.specs.EventWords.{reference_for}
use Rattle.depot_lines.specs.LineReading.{gathered}
use Rattle.depot_lines.proofs.GatherSteps.{gathers_more}
use Rattle.depot_schedule_parser.proofs.references.all_references.Goals as goal

pub loop-part-preserved : goal.loop-part-preserved
loop-part-preserved c =
    gathers_more c.loop-part.gathered.fault c.loop-part.gathered.refs ((reference_for c.args.wanted).read c.args.behind.now c.in-Some.part.now) c.in_ok-gathered.gathered.fault c.in_ok-gathered.gathered.refs (read_parts ((reference_for c.args.wanted).read c.args.behind.now) c.next.new.self) c.in_ok-gathered.ensures
    ∙ ap (λ (parts : List (List ℕ)). gathered c.loop-part.gathered.fault c.loop-part.gathered.refs (read_parts ((reference_for c.args.wanted).read c.args.behind.now) parts)) (sym c.in-Some.ensures)
    ∙ c.loop-part.invariant
