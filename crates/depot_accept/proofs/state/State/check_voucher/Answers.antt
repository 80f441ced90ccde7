use Rattle.std.proofs.Common.{true, false, Some, None, sym, ap, ◌∙◌}
use Rattle.depot_base.specs.Statement.{writer_of}
use Rattle.depot_base.specs.declared.statement.Statement.{Statement}
use Rattle.depot_model.proofs.of_texts.BodyLaws.{IsStatement-from_signed}
use Rattle.depot_accept.proofs.DueConvictions.{writer_convicted, voucher_alone, no_content, same_foreign, opponent_found, found_within, passes_alone, voucher_refused, fork_refused}
use Rattle.depot_accept.proofs.state.State.check_voucher.Goals as goal

pub returns-then-is_convicted : goal.returns-then-is_convicted
returns-then-is_convicted g c = λ J st.
    voucher_refused J c.args.signed.now c.args.voucher.now c.refused.result c.requires.voucher
    (writer_convicted J _ _ c.args.signed.now.statement c.args.voucher.now.node true c.self.view_is st (ap (λ (x : Statement). writer_of x) c.requires.voucher) (sym c.if-is_convicted.true ∙ c.is_convicted.ensures))
    c.refused.ensures

pub contradiction-requires-clause-text : goal.contradiction-requires-clause-text
contradiction-requires-clause-text g c = IsStatement-from_signed c.args.signed.now c.requires.text

pub forked-requires : goal.forked-requires
forked-requires g c = found_within c.self.inside.seen.kept c.args.self.now.foreign c.args.signed.now.statement c.in-Some.found (same_foreign _ _ c.self.view_is) c.in-Some.ensures

pub returns-in-Some : goal.returns-in-Some
returns-in-Some g c = λ J st.
    fork_refused J c.args.self.now c.args.signed.now c.args.id.now c.in-Some.found c.forked.result st
    (no_content J c.args.signed.now.statement c.args.voucher.now c.requires.voucher)
    (writer_convicted J _ _ c.args.signed.now.statement c.args.voucher.now.node false c.self.view_is st (ap (λ (x : Statement). writer_of x) c.requires.voucher) (sym c.if-is_convicted.false ∙ c.is_convicted.ensures))
    (voucher_alone J c.args.signed.now.statement c.args.voucher.now c.requires.voucher)
    c.requires.id
    (opponent_found J _ _ c.args.signed.now.statement (Some c.in-Some.found) c.self.view_is st c.in-Some.ensures)
    c.forked.ensures

pub returns-in-None : goal.returns-in-None
returns-in-None g c = λ J st. (
  c.args.voucher.now,
  (
    c.requires.voucher,
    passes_alone J c.args.signed.now
        (no_content J c.args.signed.now.statement c.args.voucher.now c.requires.voucher)
        (writer_convicted J _ _ c.args.signed.now.statement c.args.voucher.now.node false c.self.view_is st (ap (λ (x : Statement). writer_of x) c.requires.voucher) (sym c.if-is_convicted.false ∙ c.is_convicted.ensures))
        (voucher_alone J c.args.signed.now.statement c.args.voucher.now c.requires.voucher)
        (opponent_found J _ _ c.args.signed.now.statement None c.self.view_is st c.in-None.ensures),
  ),
)
