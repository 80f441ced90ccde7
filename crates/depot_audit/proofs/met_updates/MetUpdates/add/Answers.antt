use Rattle.std.proofs.Common.{◌∙◌}
use Rattle.std.specs.HashMap.{get}
use Rattle.std.specs.Str.{bytes_eq}
use Rattle.std.proofs.lemmas.Bool.{both_ways}
use Rattle.std.proofs.lemmas.Result.{on_ok_weaker}
use Rattle.depot_audit.proofs.TableLaws.{told_nothing, told_same, told_other, update_new, update_known, put_now, update_other}
use Rattle.depot_audit.proofs.met_updates.MetUpdates.add.Goals as goal

pub returns-then-before : goal.returns-then-before
returns-then-before c = λ us ps met.
    let found = told_same (get bytes_eq c.args.self.now.table c.args.id) c.args.update c.in-Same.before c.in-Same.ensures in
    update_known us ps c.args.self.now.table c.args.self.now.apart c.args.update c.args.id c.requires met found.met found.is c.args.put found.same (λ e. found.put_is ∙ c.if-before.true)

pub returns-then-not-put : goal.returns-then-not-put
returns-then-not-put c = λ us ps met.
    let found = told_same (get bytes_eq c.args.self.now.table c.args.id) c.args.update c.in-Same.before c.in-Same.ensures in
    update_known us ps c.args.self.now.table c.args.self.now.apart c.args.update c.args.id c.requires met found.met found.is c.args.put found.same (λ e. absurd (both_ways c.args.put c.if-not-put.true e))

pub returns-in-Nothing : goal.returns-in-Nothing
returns-in-Nothing c =
    on_ok_weaker c.put_update.result (λ put us ps met.
    update_new us ps c.args.self.now.table c.args.self.now.apart c.args.update c.args.id c.requires met c.put_update.new.table c.args.put (told_nothing (get bytes_eq c.args.self.now.table c.args.id) c.args.update c.in-Nothing.ensures) put)
    c.put_update.ensures

pub returns-else-not-put : goal.returns-else-not-put
returns-else-not-put c =
    on_ok_weaker c.put_update-in-Same.result (λ put us ps met.
    let found = told_same (get bytes_eq c.args.self.now.table c.args.id) c.args.update c.in-Same.before c.in-Same.ensures in
    put_now us ps c.args.self.now.table c.args.self.now.apart c.args.update c.args.id c.requires met found.met found.is c.args.put c.if-not-put.false c.put_update-in-Same.new.table found.same put)
    c.put_update-in-Same.ensures

pub returns-in-Other : goal.returns-in-Other
returns-in-Other c = λ us ps met.
    let found = told_other (get bytes_eq c.args.self.now.table c.args.id) c.args.update c.in-Other.ensures in
    update_other us ps c.args.self.now.table c.args.self.now.apart c.args.update c.args.id c.requires met found.met found.is c.args.put found.other
