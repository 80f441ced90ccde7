use Rattle.std.proofs.Common.{◌<◌, ℕ, List, [], ◌∷◌, ◌++◌, length, take, sym, ap, subst, ◌∙◌, append_assoc, arith}
use Rattle.std.proofs.lemmas.List.{append-nil, take_all}
use Rattle.depot_base.specs.declared.record.Record.{Record}
use Rattle.depot_model.specs.texts.Records.{IsTextOf}
use Rattle.depot_audit.specs.MetTexts.{AreTexts, IsMetOf}
use Rattle.depot_audit.proofs.ListLaws.{pair_in, pair_next, pair_last, no_pairs}
use Rattle.depot_audit.proofs.met.Met.take_texts.Goals as goal

pub loop-text-init : goal.loop-text-init
loop-text-init c = λ rs K told m.
    subst (λ (xs : List Record). IsMetOf xs c.args.self.now) (sym (ap (λ (xs : List Record). rs ++ xs) (no_pairs IsTextOf K told) ∙ append-nil rs)) m

pub take_text-requires : goal.take_text-requires
take_text-requires c =
    let below : c.loop-text.text-index < length c.args.texts.now = omega arith in
    let h = pair_in IsTextOf c.requires.0 c.args.texts.now c.loop-text.text-index c.text-item.result below c.text-item.is c.requires.1 in
    (h.one, subst (IsTextOf h.one) (sym c.as_slice.ensures) h.pair)

pub loop-text-preserved : goal.loop-text-preserved
loop-text-preserved c = λ rs K told m.
    let below : c.loop-text.text-index < length c.args.texts.now = omega arith in
    let h = pair_next IsTextOf K c.args.texts.now c.loop-text.text-index c.text-item.result below c.text-item.is told in
    subst (λ (xs : List Record). IsMetOf xs c.take_text.new.self) (append_assoc rs h.before (h.one ∷ []) ∙ ap (λ (xs : List Record). rs ++ xs) (sym (pair_last IsTextOf K (take c.loop-text.text-index c.args.texts.now) c.text-item.result h)))
    (c.in_ok-take_text.ensures (rs ++ h.before) h.one (subst (IsTextOf h.one) (sym c.as_slice.ensures) h.pair) (c.loop-text.invariant rs h.before h.pairs m))

pub returns : goal.returns
returns c = λ rs K told m.
    c.loop-text.invariant rs K (subst (λ (texts : List (List ℕ)). AreTexts K texts) (sym (take_all c.loop-text.text-index c.args.texts.now (omega arith))) told) m
