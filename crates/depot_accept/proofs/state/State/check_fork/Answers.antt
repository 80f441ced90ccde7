use Rattle.std.proofs.Common.{true, false, Some, None, sym, ap, ◌∙◌}
use Rattle.depot_base.specs.Statement.{writer_of}
use Rattle.depot_base.specs.declared.statement.Statement.{Statement}
use Rattle.depot_model.proofs.of_texts.BodyLaws.{IsStatement-from_signed}
use Rattle.depot_accept.proofs.DueConvictions.{behind_parents, writer_convicted, update_vouched, same_foreign, opponent_found, found_within, passes_convicted, passes_vouched, passes_alone, update_refused, fork_refused}
use Rattle.depot_accept.proofs.state.State.check_fork.Goals as goal

pub returns-then-is_vouched : goal.returns-then-is_vouched
returns-then-is_vouched g c = λ J st content. (
  behind_parents J _ c.args.signed.now c.args.update.now c.args.parents c.requires.update st c.requires.parents c.requires.row,
  passes_convicted J c.args.signed.now c.args.update.now content c.requires.update
      (writer_convicted J _ _ c.args.signed.now.statement c.args.update.now.writer true c.self.view_is st (ap (λ (x : Statement). writer_of x) c.requires.update) (sym c.if-is_convicted.true ∙ c.is_convicted.ensures))
      (update_vouched J _ _ c.args.signed.now.statement c.args.update.now c.args.id.now true c.self.view_is st c.requires.update c.requires.id (sym c.if-is_vouched.true ∙ c.is_vouched-is_vouched.ensures)),
)

pub returns-then-is_convicted : goal.returns-then-is_convicted
returns-then-is_convicted g c = λ J st content.
    update_refused J c.args.signed.now c.args.update.now c.refused.result content c.requires.update
    (writer_convicted J _ _ c.args.signed.now.statement c.args.update.now.writer true c.self.view_is st (ap (λ (x : Statement). writer_of x) c.requires.update) (sym c.if-is_convicted.true ∙ c.is_convicted.ensures))
    (update_vouched J _ _ c.args.signed.now.statement c.args.update.now c.args.id.now false c.self.view_is st c.requires.update c.requires.id (sym c.if-is_vouched.false ∙ c.is_vouched-is_vouched.ensures))
    c.refused.ensures

pub contradiction-found-requires-clause-text : goal.contradiction-found-requires-clause-text
contradiction-found-requires-clause-text g c = IsStatement-from_signed c.args.signed.now c.requires.text

pub returns-then-is_vouched-2 : goal.returns-then-is_vouched-2
returns-then-is_vouched-2 g c = λ J st content. (
  behind_parents J _ c.args.signed.now c.args.update.now c.args.parents c.requires.update st c.requires.parents c.requires.row,
  passes_vouched J c.args.signed.now c.contradiction-found.result content
      (writer_convicted J _ _ c.args.signed.now.statement c.args.update.now.writer false c.self.view_is st (ap (λ (x : Statement). writer_of x) c.requires.update) (sym c.if-is_convicted.false ∙ c.is_convicted.ensures))
      (update_vouched J _ _ c.args.signed.now.statement c.args.update.now c.args.id.now true c.self.view_is st c.requires.update c.requires.id (sym c.if-is_vouched-2.true ∙ c.is_vouched-is_vouched.ensures))
      (opponent_found J _ _ c.args.signed.now.statement c.contradiction-found.result c.self.view_is st c.contradiction-found.ensures),
)

pub forked-requires : goal.forked-requires
forked-requires g c = found_within c.self.inside.seen.kept c.args.self.now.foreign c.args.signed.now.statement c.in-Some.found (same_foreign _ _ c.self.view_is) c.in-Some.ensures

pub returns-in-Some : goal.returns-in-Some
returns-in-Some g c = λ J st content.
    fork_refused J c.args.self.now c.args.signed.now c.args.id.now c.in-Some.found c.forked.result st content
    (writer_convicted J _ _ c.args.signed.now.statement c.args.update.now.writer false c.self.view_is st (ap (λ (x : Statement). writer_of x) c.requires.update) (sym c.if-is_convicted.false ∙ c.is_convicted.ensures))
    (update_vouched J _ _ c.args.signed.now.statement c.args.update.now c.args.id.now false c.self.view_is st c.requires.update c.requires.id (sym c.if-is_vouched-2.false ∙ c.is_vouched-is_vouched.ensures))
    c.requires.id
    (opponent_found J _ _ c.args.signed.now.statement (Some c.in-Some.found) c.self.view_is st c.in-Some.ensures)
    c.forked.ensures

pub returns-in-None : goal.returns-in-None
returns-in-None g c = λ J st content. (
  behind_parents J _ c.args.signed.now c.args.update.now c.args.parents c.requires.update st c.requires.parents c.requires.row,
  passes_alone J c.args.signed.now content
      (writer_convicted J _ _ c.args.signed.now.statement c.args.update.now.writer false c.self.view_is st (ap (λ (x : Statement). writer_of x) c.requires.update) (sym c.if-is_convicted.false ∙ c.is_convicted.ensures))
      (update_vouched J _ _ c.args.signed.now.statement c.args.update.now c.args.id.now false c.self.view_is st c.requires.update c.requires.id (sym c.if-is_vouched-2.false ∙ c.is_vouched-is_vouched.ensures))
      (opponent_found J _ _ c.args.signed.now.statement None c.self.view_is st c.in-None.ensures),
)
