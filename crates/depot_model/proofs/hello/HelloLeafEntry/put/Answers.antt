use Rattle.std.proofs.Common.{ℕ, ◌++◌, [], ◌∙◌, ap}
use Rattle.std.proofs.lemmas.Result.{on_err_weaker}
use Rattle.std.specs.Int.{w16}
use Rattle.depot_base.specs.Cursor.{numeral}
use Rattle.depot_base.specs.Format.{number, bytes_of}
use Rattle.depot_base.proofs.Writing.{begins_with}
use Rattle.depot_model.specs.exchange.Hello.{hello_leaf}
use Rattle.depot_model.proofs.hello.HelloLeafEntry.put.Goals as goal

pub returns-clause-err : goal.returns-clause-err
unfolding hello_leaf number bytes_of
returns-clause-err c =
    let was = c.in_ok-push_u16.ensures.ok ∙ ap (λ (n : ℕ). c.args.out.now ++ numeral w16 n) c.number.ensures.same in
    on_err_weaker c.push_all.result (λ same. begins_with c.args.out.now (numeral w16 c.args.self.now.writer) (c.args.self.now.id ++ []) c.push_all.new.self (same ∙ was)) c.push_all.ensures.err
