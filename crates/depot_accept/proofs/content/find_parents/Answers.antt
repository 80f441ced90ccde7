use Rattle.std.proofs.Common.{◌≡◌, map, Ok, None, sym, ap, subst, ◌∙◌}
use Rattle.std.specs.Prelude.{Option, Result, IfOk}
use Rattle.std.proofs.lemmas.Result.{IfOk-weaker}
use Rattle.depot_base.specs.declared.check.Check.{Check}
use Rattle.depot_base.specs.declared.memory.Memory.{Memory}
use Rattle.depot_model.specs.checks.Checks.{sight, missing}
use Rattle.depot_accept.proofs.ParentItems.{first_lost, missing_prev, missing_entry, parents_found}
use Rattle.depot_accept.proofs.content.find_parents.Goals as goal

pub returns-in-Some-clause-first : goal.returns-in-Some-clause-first
returns-in-Some-clause-first g c = missing_prev (g.P.Past.updates c.args.past.now) c.args.update.now c.in-Some.check (sym c.in-Some.is ∙ c.in_ok-check.ensures.first)

pub returns-clause-first : goal.returns-clause-first
returns-clause-first g c =
    let us = g.P.Past.updates c.args.past.now in
    IfOk-weaker c.find_entries.result (λ (failed : Option Check). failed ≡ first_lost us (map (λ d. d.id) c.as_slice.result.now)) (λ (failed : Option Check). failed ≡ missing c.args.update.now (sight us c.args.update.now)) (λ failed is. missing_entry us c.args.update.now c.as_slice.result.now failed c.as_slice.ensures (sym c.in_default.is ∙ c.in_ok-check.ensures.first) is) c.find_entries.ensures.first

pub returns-clause-places : goal.returns-clause-places
returns-clause-places g c = λ e.
    let us = g.P.Past.updates c.args.past.now in
    let ds = c.as_slice.result.now in
    let last : None ≡ first_lost us (map (λ d. d.id) ds) = subst (λ (r : Result (Option Check) Memory). IfOk r (λ failed. failed ≡ first_lost us (map (λ d. d.id) ds))) e c.find_entries.ensures.first in
    parents_found us c.args.update.now ds c.args.items.now.items c.find_prev.new.items.items c.find_entries.new.items.items c.as_slice.ensures c.requires (c.in_ok-check.ensures.items (ap (λ (o : Option Check). Ok o) c.in_default.is)) (c.find_entries.ensures.items e)
    (sym (missing_entry us c.args.update.now ds None c.as_slice.ensures (sym c.in_default.is ∙ c.in_ok-check.ensures.first) last))
