use Rattle.std.proofs.Common.{sym, ap, ◌∙◌}
use Rattle.std.specs.Prelude.{Option, is_some}
use Rattle.depot_base.specs.declared.key.PublicKey.{PublicKey}
use Rattle.depot_model.specs.texts.Roster.{is_signed}
use Rattle.depot_model.proofs.of_texts.BodyLaws.{IsStatement-from_signed}
use Rattle.depot_accept.specs.StateView.{View}
use Rattle.depot_accept.proofs.CheckAnswers.{early_known, early_unknown, early_mine, early_unsigned, early_passed}
use Rattle.depot_accept.proofs.state.State.check_to_signature.Goals as goal

pub returns-in_default : goal.returns-in_default
returns-in_default g c = λ J st.
    early_unknown g.S.Scheme.verifies J _ _ c.args.signed.now c.writer-writer.result c.self.view_is c.writer-writer.ensures
    (sym (ap (λ (o : Option PublicKey). is_some o) c.in_default.ensures))

pub is_kept-requires-clause-text : goal.is_kept-requires-clause-text
is_kept-requires-clause-text g c = IsStatement-from_signed c.args.signed.now c.requires.text

pub returns-then-is_kept : goal.returns-then-is_kept
returns-then-is_kept g c = λ J st.
    early_known g.S.Scheme.verifies J _ _ c.args.signed.now c.writer-writer.result c.self.view_is c.writer-writer.ensures
    (sym (ap (λ (o : Option PublicKey). is_some o) c.in-Some.ensures)) (sym (c.is_kept.ensures J st) ∙ c.if-is_kept.true)

pub returns-then-eq : goal.returns-then-eq
returns-then-eq g c = λ J st.
    early_mine g.S.Scheme.verifies J _ _ c.args.signed.now c.writer-writer.result c.args.id.now c.self.view_is c.writer-writer.ensures
    (sym (ap (λ (o : Option PublicKey). is_some o) c.in-Some.ensures)) (sym (c.is_kept.ensures J st) ∙ c.if-is_kept.false)
    (sym c.eq.ensures ∙ c.if-eq.true) c.requires.id

pub returns-then-not-verifies : goal.returns-then-not-verifies
returns-then-not-verifies g c = λ J st.
    early_unsigned g.S.Scheme.verifies J _ _ c.args.signed.now c.writer-writer.result c.self.view_is c.writer-writer.ensures
    (sym (ap (λ (o : Option PublicKey). is_some o) c.in-Some.ensures)) (sym (c.is_kept.ensures J st) ∙ c.if-is_kept.false)
    (sym c.eq.ensures ∙ c.if-eq.false) (ap (λ (w : View _). is_signed g.S.Scheme.verifies w.listed c.args.signed.now) c.self.view_is ∙ sym c.verifies.ensures ∙ c.if-not-verifies.true)

pub returns : goal.returns
returns g c = λ J st.
    early_passed g.S.Scheme.verifies J _ _ c.args.signed.now c.writer-writer.result c.self.view_is c.writer-writer.ensures
    (sym (ap (λ (o : Option PublicKey). is_some o) c.in-Some.ensures)) (sym (c.is_kept.ensures J st) ∙ c.if-is_kept.false)
    (sym c.eq.ensures ∙ c.if-eq.false) (ap (λ (w : View _). is_signed g.S.Scheme.verifies w.listed c.args.signed.now) c.self.view_is ∙ sym c.verifies.ensures ∙ c.if-not-verifies.false)
