use Rattle.std.proofs.Common.{ℕ, List, None, ap, sym, ◌∙◌}
use Rattle.std.proofs.lemmas.Result.{err_from_is_err_and}
use Rattle.depot_lines.specs.Language.{nothing, read_parts}
use Rattle.depot_lines.specs.Vocabulary.{change}
use Rattle.depot_lines.specs.LineReading.{gathered}
use Rattle.depot_lines.proofs.ChangeWords.{part_decides}
use Rattle.depot_lines.proofs.changes.all_changes.Goals as goal

pub returns-in_err-change : goal.returns-in_err-change
returns-in_err-change c =
    let p = err_from_is_err_and c.from_residual.result c.from_residual.ensures.1 in
    rw (p.1, p.2) (part_decides c.args.keys c.loop-part.changes c.in-Some.part.now c.next.new.self _ c.in_err-change.field-0.0 c.in_err-change.ensures
    (ap (λ (parts : List (List ℕ)). gathered None c.loop-part.changes (read_parts ((change c.args.keys).read nothing) parts)) (sym c.in-Some.ensures) ∙ c.loop-part.invariant))
