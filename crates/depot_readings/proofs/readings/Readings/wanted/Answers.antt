use Rattle.std.proofs.Common.{◌≡◌, ◌∙◌, ℕ, List, map, take, ap}
use Rattle.std.proofs.lemmas.Result.{IfOk-weaker}
use Rattle.depot_base.specs.declared.limits.TheConstants.{MOST_WANTED}
use Rattle.depot_base.specs.declared.update.NamedValue.{NamedValue}
use Rattle.depot_model.specs.exchange.Hello.{wanted_of}
use Rattle.depot_model.specs.checks.Vouching.{rising}
use Rattle.depot_readings.specs.Named.{is_name, has_named_value}
use Rattle.depot_readings.specs.ReadingsView.{Known}
use Rattle.depot_readings.proofs.LackingLaws.{wanted_are}
use Rattle.depot_readings.proofs.readings.Readings.wanted.Goals as goal

pub returns : goal.returns
returns g c =
    let named = c.self.inside.parts.lacking in
    IfOk-weaker c.first_hashes.result (λ ids. (ns : List NamedValue) → ((hash : List ℕ) (size : ℕ) → has_named_value named hash size ≡ is_name ns hash size) → ids ≡ take MOST_WANTED (rising (map (λ n. n.hash) ns))) (λ ids. ids ≡ wanted_of c.args.self.now.records)
    (λ ids each. wanted_are _ named ids c.self.invariant.0.lacked each ∙ ap (λ (v : Known). wanted_of v.records) c.self.view_is) c.first_hashes.ensures
