use Rattle.std.proofs.Common.{Result, sym, ap, subst, ◌∙◌}
use Rattle.depot_model.specs.declared.taken.Taken.{Taken}
use Rattle.depot_model.specs.readers.Readers.{with_more, told_as_node}
use Rattle.depot_model.specs.journals.Journal.{accepted}
use Rattle.depot_readings.specs.LeavesWith.{leaves_with}
use Rattle.depot_trim.specs.ReaderAnswers.{Becomes}
use Rattle.depot_trim.specs.ReaderView.{IsReaderOf}
use Rattle.depot_trim.specs.declared.trim_error.TrimTake.{TrimTake}
use Rattle.depot_trim.proofs.ReaderTakes.{becomes_told, decided_may, decided_new, decided_told, decided_full}
use Rattle.depot_trim.proofs.trimmed.Trimmed.carry_out.Goals as goal

pub returns-in-Some : goal.returns-in-Some
returns-in-Some g c R x is d = (
  decided_full R x c.args.decision.answer c.args.decision.growth c.in-Some.full d
      (sym (c.limit.ensures.lawful R.here R.journal is.lawful (decided_new R x c.args.decision.answer c.args.decision.growth d) is.counts (c.leaves_with-leaves.ensures R is)) ∙ c.in-Some.is),
  is,
)

pub grow-requires : goal.grow-requires
grow-requires g c =
    let R = c.requires.reader.0 in
    let is = c.requires.reader.1.0 in
    let d = c.requires.reader.1.1.1 in (
      R,
      (
        subst (λ t. IsReaderOf g.S.Scheme.verifies R t) (sym c.keep_parents.ensures) is,
        decided_may R c.requires.reader.1.1.0 c.args.decision.answer c.args.decision.growth d
            (sym (c.limit.ensures.lawful R.here R.journal is.lawful (decided_new R c.requires.reader.1.1.0 c.args.decision.answer c.args.decision.growth d) is.counts (c.leaves_with-leaves.ensures R is)) ∙ c.in_default.is),
      ),
    )

pub returns : goal.returns
returns g c R x is d =
    let room = sym (c.limit.ensures.lawful R.here R.journal is.lawful (decided_new R x c.args.decision.answer c.args.decision.growth d) is.counts (c.leaves_with-leaves.ensures R is)) ∙ c.in_default.is in
    subst (λ (r : Result Taken TrimTake). Becomes g.S.Scheme.verifies R (told_as_node R x) r c.grow.new.self) (sym c.answered.ensures)
    (becomes_told g.S.Scheme.verifies R (with_more R c.args.decision.growth) (told_as_node R x) c.args.decision.answer c.grow.new.self (decided_told R x c.args.decision.answer c.args.decision.growth d room)
    (c.in_ok-grow.ensures.ok R (subst (λ t. IsReaderOf g.S.Scheme.verifies R t) (sym c.keep_parents.ensures) is) (decided_may R x c.args.decision.answer c.args.decision.growth d room) (c.leaves_with-leaves.ensures R is ∙ ap (λ t. leaves_with (accepted R.journal) t.counts.leaves c.args.decision.growth) (sym c.keep_parents.ensures))))
