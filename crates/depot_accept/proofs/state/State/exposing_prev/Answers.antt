use Rattle.std.proofs.Common.{true, false, sym, ap, ◌∙◌}
use Rattle.depot_base.specs.Statement.{writer_of}
use Rattle.depot_base.specs.declared.statement.Statement.{Statement}
use Rattle.depot_model.proofs.of_texts.BodyLaws.{IsStatement-from_signed}
use Rattle.depot_accept.proofs.DueConvictions.{writer_convicted, named_found, none_exposed, step_back_exposed}
use Rattle.depot_accept.proofs.state.State.exposing_prev.Goals as goal

pub returns-then-is_convicted : goal.returns-then-is_convicted
returns-then-is_convicted g c = λ J st.
    none_exposed J c.args.signed.now c.args.check.now c.in-Backward.prev c.in-Backward.is
    (writer_convicted J _ _ c.args.signed.now.statement c.args.update.now.writer true c.self.view_is st (ap (λ (x : Statement). writer_of x) c.requires.update) (sym c.if-is_convicted.true ∙ c.is_convicted.ensures))

pub find_contrary-requires-clause-text : goal.find_contrary-requires-clause-text
find_contrary-requires-clause-text g c = IsStatement-from_signed c.args.signed.now c.requires.text

pub returns : goal.returns
returns g c = λ J st.
    step_back_exposed J c.args.signed.now c.args.check.now c.in-Backward.prev c.find_contrary.result c.in-Backward.is
    (writer_convicted J _ _ c.args.signed.now.statement c.args.update.now.writer false c.self.view_is st (ap (λ (x : Statement). writer_of x) c.requires.update) (sym c.if-is_convicted.false ∙ c.is_convicted.ensures))
    (named_found J c.args.self.now c.args.signed.now.statement c.in-Backward.prev c.find_contrary.result st c.find_contrary.ensures)
