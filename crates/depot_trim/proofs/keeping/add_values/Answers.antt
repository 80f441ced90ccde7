use Rattle.std.proofs.Common.{◌≡◌, ◌∙◌, ◌+◌, ◌||◌, Bool, false, List, take, arith, sym, ap}
use Rattle.std.specs.List.{list_any}
use Rattle.std.proofs.Math.Bool.{or_assoc}
use Rattle.depot_base.specs.declared.update.NamedValue.{NamedValue}
use Rattle.depot_base.proofs.GeneralLaws.{or_none}
use Rattle.depot_model.specs.texts.Contents.{names_value}
use Rattle.depot_model.specs.journals.Journal.{held}
use Rattle.depot_readings.specs.Named.{is_value_named}
use Rattle.depot_trim.proofs.KeptValues.{kept_alike}
use Rattle.depot_trim.proofs.SoFar.{any_next, element_at, whole}
use Rattle.depot_trim.proofs.keeping.add_values.Goals as goal

pub loop-name-init : goal.loop-name-init
loop-name-init g c = λ wants start h. start h ∙ kept_alike (held (g.N.NodeState.records c.args.node.now)) wants (λ k size. wants k size || false) h (λ size. or_none (wants h size))

pub loop-name-preserved : goal.loop-name-preserved
loop-name-preserved g c = λ wants start h.
    let i = c.loop-name.name-index in
    let names = c.as_slice-name-items.result.now in
    let n = c.name-item.result in
    let at = element_at names i n c.loop-name-test.true c.name-item.is in
    c.in_ok-add_name.ensures (λ k size. wants k size || list_any (λ m. is_value_named m k size) (take i names)) (c.loop-name.invariant wants start) h
    ∙ kept_alike (held (g.N.NodeState.records c.args.node.now)) (λ k size. (wants k size || list_any (λ m. is_value_named m k size) (take i names)) || is_value_named n k size) (λ k size. wants k size || list_any (λ m. is_value_named m k size) (take (i + 1) names)) h
    (λ size. or_assoc (wants h size) (list_any (λ m. is_value_named m h size) (take i names)) (is_value_named n h size) ∙ ap (λ (b : Bool). wants h size || b) (sym (any_next (λ m. is_value_named m h size) names i n at)))

pub returns : goal.returns
returns g c = λ wants start h.
    let names = c.as_slice-name-items.result.now in
    let all : take c.loop-name.name-index names ≡ names = whole c.loop-name.name-index names (omega (arith, c.loop-name-test.false, c.loop-name.auto.name-index-end)) in
    let are = c.as_slice-name-items.ensures.value ∙ c.in_ok-names.ensures in
    c.loop-name.invariant wants start h
    ∙ kept_alike (held (g.N.NodeState.records c.args.node.now)) (λ k size. wants k size || list_any (λ m. is_value_named m k size) (take c.loop-name.name-index names)) (λ k size. wants k size || names_value c.args.update.now k size) h
    (λ size. ap (λ (ns : List NamedValue). wants h size || list_any (λ m. is_value_named m h size) ns) (all ∙ are))
