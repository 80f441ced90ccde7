use Rattle.std.proofs.Common.{[], ◌∷◌, ◌++◌, sym, subst}
use Rattle.std.proofs.lemmas.Result.{on_ok_weaker}
use Rattle.depot_base.specs.declared.record.Record.{Record}
use Rattle.depot_model.specs.texts.Records.{IsTextOf}
use Rattle.depot_audit.specs.MetTexts.{IsMetOf}
use Rattle.depot_audit.proofs.met.Met.take_text.Goals as goal

pub take-requires : goal.take-requires
take-requires c = subst (λ (r : Record). IsTextOf r c.args.text.now) (sym (c.in_ok-item.ensures c.requires.0 c.requires.1)) c.requires.1

pub returns : goal.returns
returns c =
    on_ok_weaker c.take.result (λ more rs r told m.
    subst (λ (q : Record). IsMetOf (rs ++ q ∷ []) c.take.new.self) (c.in_ok-item.ensures r told) (more rs m))
    c.take.ensures
