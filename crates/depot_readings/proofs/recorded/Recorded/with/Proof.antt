-- `with` makes a value of no bytes, with the records of both.
use Rattle.std.proofs.Common.{[], ◌∷◌, ◌++◌, refl}
use Rattle.std.proofs.raw_atomic.Walks.{proved}
use base.Fml.{ftrue}
use mir.Syntax.{named}
use mir.Val.{vptr, vstruct, vnil}
use types.Kit.{‵, raw, ◌⊛◌, ◌$◌, ◌∵◌, !, qed, keep, split, suffices, done}
use types.Part.{agg}
use types.Run.{enter, no_more, returns}
use types.ByLocal.{alloc_all, pass_all, free_all, look_at, sets}
use denote.Exit.{yes}
use denote.RattleType.{owns}
use denote.Ref.{shr_vals, shr_Tells}
use denote.Shadow.{pure_i}
use denote.Signature.{plain, types_at}
use denote.Triple.Entry.{alive}
use denote.Triple.Walked.{says, Stays, stay_none_ref, Goes-none_ref, ends_at}
use Rattle.depot_readings.specs.declared.recorded.Recorded.{Recorded}
use Rattle.depot_readings.specs.contracts.growth.Growth.{the_row as G}
use Rattle.depot_readings.specs.contracts.recorded.Recorded.{the_row as R}
use Rattle.depot_readings.specs.contracts.recorded.Recorded.with as f
use Rattle.depot_readings.proofs.recorded.Recorded.with.Statement.{statement}
use Rattle.depot_readings.proofs.recorded.Recorded.with.Code as code

abbrev stayed : Stays f.ended.signature.params f.ended.kept
stayed = (stay_none_ref (0 ∷ []) tt (plain (λ _. R)) yes, (stay_none_ref (1 ∷ []) tt (plain (λ _. G)) yes, tt))

pub with_spec : {M : Type 1} → statement M
with_spec 𝓤 𝓛 𝓜 𝓡 wired =
    let c = f.clauses 𝓛 𝓜.mem 𝓡.returns in
    proved 𝓛 f.ended stayed c 𝓜 𝓡 (Goes-none_ref 𝓛 2 (0 ∷ []) tt (plain (λ _. R)) yes, (Goes-none_ref 𝓛 2 (1 ∷ []) tt (plain (λ _. G)) yes, tt)) f.Key.name code.function (code.unfolded 𝓤 𝓛.H 𝓜 𝓡 wired)
    (λ κs. (shr_vals, (shr_vals, tt))) (λ κs. (shr_Tells (named 0) κs.0 R, (shr_Tells (named 1) κs.1.0 G, tt))) (λ κs qs bounds a _ are.
    let vs = vptr a.0.ref_ptr.0 a.0.ref_ptr.1 ∷ [] in let ws = vptr a.1.0.ref_ptr.0 a.1.0.ref_ptr.1 ∷ [] in
    let both : Recorded = record { items = a.0.now.items ++ a.1.0.now } in
    qed 𝓛 ((raw (alive 𝓛 f.signature κs qs) ⊛ ‵ (owns (types_at f.signature.params κs) a (vs, (ws, tt)))) ∷ ‵ ftrue ∷ []) ∵ split ! $
    enter ! _ _ _ _ _ $ alloc_all ! (λ l. pass_all ! refl ((tt, tt), ((tt, tt), tt)) $ sets ! (agg ! (no_more !)) refl (tt, tt) $
    returns ! (look_at ! 0 refl) $ free_all ! refl $
    suffices ! _ (ends_at 𝓛 f.ended stayed c ((κs, qs, bounds, a, (vs, (ws, tt))), tt) (vstruct vnil) both (tt, (tt, tt)) (tt, (tt, tt))) $ says ! refl $
    pure_i ! (R.own_val both (vstruct vnil ∷ [])) ((λ vss. (tt, tt)), tt) ((tt, (refl, tt)), tt) $
    keep ! (1 ∷ 2 ∷ 0 ∷ []) $ done !))
