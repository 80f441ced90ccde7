-- `depot_c_init` meets its contract: what `fresh` gives is written to the room behind the pointer.
use Rattle.std.proofs.Common.{List, [], ◌∷◌, ◌++◌, refl}
use Rattle.std.proofs.raw_atomic.Walks.{proved}
use base.Fraction.{full_share}
use base.Logic.{id⊢}
use base.Fml.{ftrue, fsep, fex}
use contract.Monad.{fact}
use mir.Val.{Val, vunit}
use borrow.Table.OneValue.{part_in}
use contract.Running.{tables}
use prog.Wp.{WpFn}
use types.Kit.{fjoin, ‵, raw, ◌⊛◌, some, later, prop, ◌$◌, ◌∵◌, !, qed, done, move, keep, drop, use1, use2, split, join, fpack, feq_i, pick, await, regoal, suffices, group}
use types.Run.{enter, of_opd, unit_lit, init, stop, no_more, and_then, assigns, returns}
use types.ByLocal.{alloc_all, pass_all, free_all, look_at, get, through, sets, lands_as}
use denote.Exit.{yes}
use denote.Laws.{Is, shows}
use denote.Memory.{part_at}
use denote.RawPtr.{Ptr, RawPtr, block_ptr, lies_at, room_at, in_a_block, rawptr_vals, rawptr_Tells}
use denote.Signature.{plain}
use denote.Steps.{heard, nothing, peeks}
use denote.Triple.Call.{calls_at}
use denote.Triple.Clauses.{lasts}
use denote.Triple.Spec.{triple_of}
use denote.Triple.Table.{framed}
use denote.Triple.Walked.{Stays, walk_of, stay_dropped, Goes-dropped, ends_at}
use Rattle.std.specs.contracts.alloc.Global.{the_row as Heap}
use Rattle.std.proofs.alloc.Global.TheLaws as heap_laws
use Rattle.depot_c.specs.contracts.handle.Handle.{the_row as R}
use Rattle.depot_c.proofs.handle.Handle.TheLaws as laws
use Rattle.depot_c.specs.Calls.{IsNewHandle, kept_bytes}
use Rattle.depot_c.specs.contracts.handle.HandleViewed.TheImpl.{ghosts}
use Rattle.depot_c.specs.contracts.exports.depot_c_init as f
use Rattle.depot_c.proofs.exports.depot_c_init.Statement.{statement}
use Rattle.depot_c.proofs.exports.depot_c_init.Code as code
use Rattle.depot_c.specs.contracts.handle.fresh as g
use Rattle.depot_c.proofs.handle.fresh.Met.{met}

abbrev stayed : Stays f.ended.signature.params f.ended.kept
stayed = (stay_dropped _ yes, (stay_dropped _ yes, tt))

abbrev heap_vals : Heap.Denot → List Val
heap_vals x = heap_laws.lowers.lowered x ∷ []

pub depot_c_init_spec : {M : Type 1} → statement M
depot_c_init_spec 𝓤 𝓛 𝓜 𝓡 wired =
    let c = f.clauses 𝓛 𝓜.mem 𝓡.returns in let W = walk_of 𝓛 f.ended stayed c in let 𝓣 = tables 𝓤 𝓛.H 𝓜 𝓡 𝓡.env in
    proved 𝓛 f.ended stayed c 𝓜 𝓡
    (Goes-dropped 𝓛 0 (plain (λ _. Heap)) yes (λ κs x w. refl), (Goes-dropped 𝓛 0 (plain (λ _. RawPtr)) yes (λ κs x w. refl), tt))
    f.Key.name code.function (code.unfolded 𝓤 𝓛.H 𝓜 𝓡 wired)
    (λ κs. (heap_vals, (rawptr_vals, tt))) (λ κs. (heap_laws.lowers.val_is, (rawptr_Tells, tt)))
    (λ κs qs bounds a _ are.
    let heap = a.0 in
    let y : Ptr → W.Ghost = λ p. ((κs, qs, bounds, (heap, (p, tt)), (heap_vals heap, (rawptr_vals p, tt))), tt) in
    qed 𝓛 ((‵ ftrue ⊛ ‵ (Heap.own_val heap (heap_vals heap)) ⊛ ‵ (RawPtr.own_val a.1.0 (rawptr_vals a.1.0)) ⊛ ‵ ftrue) ∷ ‵ (room_at R a.1.0) ∷ []) ∵
    split ! $ move ! (1 ∷ []) $ split ! $ keep ! (3 ∷ 0 ∷ []) $
    in_a_block ! a.1.0 (λ p. room_at R p) (id⊢ 𝓤 _) (λ b o e.
    regoal ! (λ p. prop (WpFn 𝓤 𝓛.H 𝓣.C 𝓣.Λ code.function (heap_vals heap ++ (rawptr_vals p ++ [])) (W.post (y p)))) e refl $
    enter ! _ _ _ _ _ $
    alloc_all ! (λ l. pass_all ! refl (((heap_laws.the_row_laws.lawful 𝓛).typed heap (heap_vals heap) are.0).0, ((tt, tt), tt)) $
    -- [the room; the allocator; the locals]
    sets ! (of_opd ! (get ! refl)) refl (tt, tt) $
    let G = triple_of 𝓛 g.signature (g.spec 𝓛 𝓜.mem 𝓡.returns) in
    let z : G.Ghost = ((tt, tt, tt, (heap, tt), (heap_vals heap, tt)), tt) in
    nothing ! $ move ! (2 ∷ 0 ∷ []) $ join ! $ nothing ! $ join ! $ nothing ! $ move ! (1 ∷ 0 ∷ []) $ use2 𝓛 (raw (G.pre z)) (id⊢ 𝓤 _) $
    calls_at ! (framed 𝓤 𝓛.H 𝓜 𝓣) G (met 𝓤 𝓛 𝓜 𝓡 (code.calls-depot_c::handle::fresh 𝓡.env wired)) z (and_then ! (get ! refl) (no_more !)) (λ v.
    use1 𝓛 (later (some (λ (r : R.Denot). (‵ ftrue ⊛ ‵ (R.own_val r (v ∷ []))) ⊛ some (λ (ws : Unit {0} × Unit {0}). ‵ (lasts g.ended tt (heap, tt) ws) ⊛ raw (fact 𝓤 (IsNewHandle (ghosts.view_of r) (kept_bytes r))))))) (id⊢ 𝓤 _) $
    await ! tt $ pick ! (λ r. split ! $ split ! $ drop ! $ move ! (1 ∷ []) $ pick ! (λ ws. split ! $ drop ! $ heard ! _ (λ is_fresh.
    -- [the handle; the room; the locals]
    peeks ! R (Is R) (shows 𝓛 R) r (v ∷ []) (λ is.
    let typed = ((laws.the_row_laws.lawful 𝓛).typed r (v ∷ []) is).0 in
    lands_as ! refl refl typed $
    assigns ! (of_opd ! (get ! refl)) (through ! refl (stop !)) (init ! 1 refl typed) $
    sets ! (of_opd ! (unit_lit !)) refl (tt, tt) $
    returns ! (look_at ! 0 refl) $ free_all ! refl $ keep ! (1 ∷ 0 ∷ []) $
    use2 𝓛 (‵ (part_at R full_share r b o)) (part_in 𝓛 R refl full_share r b o v) $
    suffices ! _ (ends_at 𝓛 f.ended stayed c (y (block_ptr b o)) vunit tt (tt, (tt, tt)) (tt, (tt, tt))) $
    nothing ! $ fpack ! (IsNewHandle (ghosts.view_of r) (kept_bytes r)) (λ _. ftrue) is_fresh $ move ! (1 ∷ 0 ∷ []) $ fjoin ! $ fpack ! R.Denot (λ x. fsep (lies_at R full_share (block_ptr b o) x) (fex (IsNewHandle (ghosts.view_of x) (kept_bytes x)) (λ _. ftrue))) r $
    feq_i ! _ (vunit ∷ []) _ refl $ nothing ! $ nothing ! $ join ! $ nothing ! $ join ! $ nothing ! $ group ! 3 $ done !))))))))
