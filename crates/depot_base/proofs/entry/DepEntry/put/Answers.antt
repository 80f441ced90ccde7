use Rattle.std.proofs.Common.{ℕ, List, ◌++◌, [], ◌∙◌, ap, append_assoc}
use Rattle.std.proofs.lemmas.Result.{on_err_weaker}
use Rattle.std.specs.Int.{w64, w16}
use Rattle.depot_base.specs.Cursor.{numeral}
use Rattle.depot_base.specs.Format.{number, bytes_of}
use Rattle.depot_base.specs.Parts.{dep}
use Rattle.depot_base.proofs.Writing.{on_err_from, begins_with, two_fields}
use Rattle.depot_base.proofs.entry.DepEntry.put.Goals as goal

pub returns-in_err-push_u64-clause-err : goal.returns-in_err-push_u64-clause-err
unfolding dep number bytes_of
returns-in_err-push_u64-clause-err c =
    let was = c.in_err-push_u64.ensures.err ∙ c.in_ok-push_u16.ensures.ok ∙ ap (λ (n : ℕ). c.args.out.now ++ numeral w16 n) c.number.ensures.same in
    on_err_from _ (begins_with c.args.out.now (numeral w16 c.args.self.now.writer) (numeral w64 c.args.self.now.clock ++ (c.args.self.now.id ++ [])) _ was)

pub returns-clause-err : goal.returns-clause-err
unfolding dep number bytes_of
returns-clause-err c =
    let was = c.in_ok-push_u64.ensures.ok ∙ ap (λ (t : List ℕ). t ++ numeral w64 c.args.self.now.clock) (c.in_ok-push_u16.ensures.ok ∙ ap (λ (n : ℕ). c.args.out.now ++ numeral w16 n) c.number.ensures.same) ∙ append_assoc c.args.out.now (numeral w16 c.args.self.now.writer) (numeral w64 c.args.self.now.clock) in
    on_err_weaker c.push_all.result (λ same. two_fields c.args.out.now (numeral w16 c.args.self.now.writer) (numeral w64 c.args.self.now.clock) (c.args.self.now.id ++ []) c.push_all.new.self (same ∙ was)) c.push_all.ensures.err
