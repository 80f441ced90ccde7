use Rattle.std.proofs.lemmas.Result.{IfOk-weaker}
use Rattle.depot_accept.specs.StateView.{setting}
use Rattle.depot_decide.proofs.Dues.{found_is_kept, found_contradicts, due_by_found}
use Rattle.depot_decide.proofs.checked.proof_by.Goals as goal

pub kept-requires : goal.kept-requires
kept-requires g c = found_is_kept c.args.state.now (setting g.S.Scheme.verifies c.args.state.now) c.args.signed.now c.args.found c.requires.due

pub make_proof-requires-clause-contradict : goal.make_proof-requires-clause-contradict
make_proof-requires-clause-contradict g c =
    found_contradicts c.args.state.now (setting g.S.Scheme.verifies c.args.state.now) c.args.signed.now c.args.found c.in_ok-kept.kept c.in_ok-kept.ensures.kept c.requires.due

pub returns-clause-made : goal.returns-clause-made
returns-clause-made g c =
    IfOk-weaker c.make_proof.result _ _ (λ p is. due_by_found c.args.state.now c.args.signed.now c.args.found c.in_ok-kept.kept p c.in_ok-kept.ensures.kept is) c.make_proof.ensures.made
