use Rattle.std.proofs.Common.{sym, ap, ◌∙◌}
use Rattle.std.specs.HashMap.{get}
use Rattle.std.specs.Str.{bytes_eq}
use Rattle.std.proofs.lemmas.Result.{on_ok_weaker}
use Rattle.sha2.specs.Sha256.{sha256}
use Rattle.depot_audit.proofs.TableLaws.{told_value, told_no_value, same_value, differs, value_new, value_known, value_other}
use Rattle.depot_audit.proofs.met_values.MetValues.add.Goals as goal

pub returns-in-None : goal.returns-in-None
returns-in-None c =
    on_ok_weaker c.put_value.result (λ put vs met.
    value_new vs c.args.self.now.table c.args.self.now.apart c.args.value c.hash_of-hash.result (c.hash_of-hash.ensures ∙ ap sha256 c.bytes.ensures.same) met c.put_value.new.table
    (told_no_value (get bytes_eq c.args.self.now.table c.hash_of-hash.result) c.bytes-2.result.now c.in-None.ensures) put)
    c.put_value.ensures

pub returns-in-Some-true : goal.returns-in-Some-true
returns-in-Some-true c = λ vs met.
    let found = told_value (get bytes_eq c.args.self.now.table c.hash_of-hash.result) c.bytes-2.result.now c.in-Some-true.field-0 c.in-Some-true.ensures in
    value_known vs c.args.self.now.table c.args.self.now.apart c.args.value c.hash_of-hash.result (c.hash_of-hash.ensures ∙ ap sha256 c.bytes.ensures.same) met found.other found.is
    (same_value found.other c.bytes-2.result.now (found.test ∙ c.in-Some-true.field-0-test) ∙ c.bytes-2.ensures.same)

pub returns : goal.returns
returns c = λ vs met.
    let found = told_value (get bytes_eq c.args.self.now.table c.hash_of-hash.result) c.bytes-2.result.now c.in-Some-false.field-0 c.in-Some-false.ensures in
    value_other vs c.args.self.now.table c.args.self.now.apart c.args.value c.hash_of-hash.result (c.hash_of-hash.ensures ∙ ap sha256 c.bytes.ensures.same) met found.other found.is
    (λ same. differs found.other c.bytes-2.result.now (found.test ∙ c.in-Some-false.field-0-test) (same ∙ sym c.bytes-2.ensures.same))
