use Rattle.std.proofs.Common.{◌≡◌, ℕ, [], ◌∷◌, ◌++◌, codes, ap, ◌∙◌}
use Rattle.std.specs.List.{count_by}
use Rattle.depot_answers.specs.AnswerTexts.{text_of_number, spaced}
use Rattle.depot_world.specs.Summaries.{agree, agreement_text, convicted_last, is_put_line, reports_text}
use Rattle.depot_world.proofs.of_loads.KeptLoads.{six_parts}
use Rattle.depot_world.proofs.summing.summary_line.Goals as goal

pub returns : goal.returns
returns c =
    let number = c.args.number in
    let lines = c.args.lines.now in
    let begun : c.numbered.new.out ≡ c.new-line.result ++ text_of_number (codes "load") number =
    c.in_ok-numbered.ensures ∙ ap (λ (n : ℕ). c.new-line.result ++ text_of_number (codes "load") n) c.from.ensures in
    let puts : c.spaced_number.new.line ≡ c.numbered.new.out ++ spaced (text_of_number (codes "puts") (count_by is_put_line lines)) =
    c.in_ok-spaced_number.ensures ∙ ap (λ (n : ℕ). c.numbered.new.out ++ spaced (text_of_number (codes "puts") n)) c.puts.ensures in
    let convicted : c.spaced_number-2.new.line ≡ c.reports.new.line ++ spaced (text_of_number (codes "convicted") (convicted_last lines)) =
    c.in_ok-spaced_number-2.ensures ∙ ap (λ (n : ℕ). c.reports.new.line ++ spaced (text_of_number (codes "convicted") n)) c.in_ok-convicted.ensures in
    let agreement : c.agreement.new.line ≡ c.spaced_number-2.new.line ++ agreement_text (agree lines) =
    c.in_ok-agreement.ensures ∙ ap (λ (b : _). c.spaced_number-2.new.line ++ agreement_text b) c.in_ok-agree.ensures in
    six_parts (text_of_number (codes "load") number) (spaced (text_of_number (codes "puts") (count_by is_put_line lines))) (reports_text lines) (spaced (text_of_number (codes "convicted") (convicted_last lines)))
    (agreement_text (agree lines)) (10 ∷ []) c.new-line.result c.numbered.new.out c.spaced_number.new.line c.reports.new.line c.spaced_number-2.new.line c.agreement.new.line
    c.push_all.new.self c.new-line.ensures begun puts c.in_ok-reports.ensures convicted agreement c.in_ok-push_all.ensures.ok
