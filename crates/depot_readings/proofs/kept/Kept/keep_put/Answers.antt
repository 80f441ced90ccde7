use Rattle.std.proofs.Common.{ℕ, List, ◌∷◌, [], map, refl, sym, ap, ◌∙◌, subst, arith}
use Rattle.sha2.specs.Sha256.{sha256}
use Rattle.depot_base.specs.declared.update.NamedValue.{NamedValue}
use Rattle.depot_readings.specs.AddedValues.{AddsAll}
use Rattle.depot_base.specs.declared.record.Record.TheVariants.{OwnPut}
use Rattle.depot_base.proofs.Writing.{on_err_from}
use Rattle.depot_laws.proofs.lists.Splits.{lawful_last}
use Rattle.depot_readings.proofs.BoundLaws.{few_of_own, few_updates}
use Rattle.depot_readings.proofs.KeptLaws.{put_kept, still_keeps, same_state}
use Rattle.depot_readings.proofs.StateGrowth.{fits_behind, id_of_put, put_hashes, put_is_mine, put_is_statement}
use Rattle.depot_readings.proofs.kept.Kept.keep_put.Goals as goal

pub add_own-requires-clause-text : goal.add_own-requires-clause-text
add_own-requires-clause-text g c = put_is_statement c.args.update c.args.values (lawful_last _ c.requires.may.0 (OwnPut c.args.update c.args.values) c.requires.may.1.1).text

pub add_own-requires-clause-id : goal.add_own-requires-clause-id
add_own-requires-clause-id g c = id_of_put c.args.update c.args.id c.requires.id

pub add_own-requires-clause-mine : goal.add_own-requires-clause-mine
add_own-requires-clause-mine g c = put_is_mine _ c.requires.may.0 c.args.update c.args.values c.requires.may.1.1

pub add_own-requires-clause-fits : goal.add_own-requires-clause-fits
add_own-requires-clause-fits g c = fits_behind _ c.requires.may.0 (OwnPut c.args.update c.args.values) (c.args.update ∷ []) _ c.requires.may.1.1 refl c.requires.may.1.0.state.accepted

pub add_own-requires-clause-few : goal.add_own-requires-clause-few
add_own-requires-clause-few g c = few_updates _ c.requires.may.0 (OwnPut c.args.update c.args.values) _ c.requires.may.1.1 c.requires.may.1.0.state.accepted

pub add_values-requires-clause-hashed : goal.add_values-requires-clause-hashed
add_values-requires-clause-hashed g c =
    ap (map (λ (n : NamedValue). n.hash)) (c.as_slice-2.ensures.value ∙ c.in_ok-names.ensures) ∙ put_hashes _ c.requires.may.0 c.args.update c.args.values c.requires.may.1.1 ∙ ap (map sha256) (sym c.into_vec-values.ensures)

pub returns-in_err-reserve_values-clause-err : goal.returns-in_err-reserve_values-clause-err
returns-in_err-reserve_values-clause-err g c = on_err_from _ (still_keeps g.S.Scheme.verifies _ _ _ _ _ refl (λ J s. s) c.reserve_values.ensures.same)

pub returns-in_err-add_own-clause-err : goal.returns-in_err-add_own-clause-err
returns-in_err-add_own-clause-err g c = on_err_from _ (still_keeps g.S.Scheme.verifies _ _ _ _ _ c.in_err-add_own.ensures.stays (same_state _ _ c.in_err-add_own.ensures.err) c.reserve_values.ensures.same)

pub overflow_add-self : goal.overflow_add-self
overflow_add-self g c =
    let few = few_of_own _ _ c.requires.may.0 (OwnPut c.args.update c.args.values) c.args.self.now.totals c.requires.may.1.1 c.requires.may.1.0.totals in
    omega (arith, few)

pub returns-clause-ok : goal.returns-clause-ok
returns-clause-ok g c = λ J k l.
    put_kept g.S.Scheme.verifies J c.args.update c.args.values c.args.id c.max-self.result _ _ _ c.reserve_values.new.kept _ _ l c.requires.id c.max-self.ensures c.in_ok-add_own.ensures.stays
    (c.in_ok-add_own.ensures.ok J (OwnPut c.args.update c.args.values) refl k.state) c.reserve_values.ensures.same (subst (λ (vs : List (List ℕ)). AddsAll c.reserve_values.new.kept c.add_values.new.kept vs) c.into_vec-values.ensures c.add_values.ensures) k
