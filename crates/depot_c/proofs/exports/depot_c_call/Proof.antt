-- `depot_c_call` meets its contract: a walk of its MIR, by hand. The handle behind the pointer is lent for a lifetime that is made for the call of `serve`, and comes back once that is over; the
-- slice to write to is handed on for good.
use Rattle.std.proofs.Common.{ℕ, List, [], ◌∷◌, ◌++◌, refl, w32, w64}
use Rattle.std.proofs.raw_atomic.Walks.{proved}
use base.Fraction.{full_share}
use base.Logic.{id⊢}
use base.Fml.{ftrue, flft, flent, fsep, fex}
use contract.Monad.{fact}
use mir.Syntax.{named}
use mir.Val.{Val, vint, vptr}
use contract.Running.{tables}
use prog.Wp.{WpFn}
use types.Kit.{‵, raw, ◌⊛◌, some, later, prop, ◌$◌, ◌∵◌, !, qed, done, move, keep, drop, use1, use2, use3, split, join, fsplit, fjoin, fpack, feq_l, pick, await, regoal, suffices, group}
use types.Part.{whole, sub, agg}
use types.Run.{enter, of_opd, addr, from, hop, fld, stop, no_more, and_then, returns}
use types.ByLocal.{alloc_all, pass_all, free_all, look_at, look_in_at, get, get_in, through, sets, lands_as}
use types.SemTy.{Body}
use types.Tokens.{lft_new, lft_end}
use denote.Builtin.{u8, u32, u64}
use denote.Exit.{yes}
use denote.Laws.{Is, shows}
use denote.Lend.{lends_ref, ref_back}
use denote.Memory.{mem, part_at}
use denote.Plain.{uint_Lawful, uint_Makes, uint_vals, uint_Tells}
use denote.RawPtr.{Ptr, RawPtr, block_ptr, lies_at, in_a_block, rawptr_vals, rawptr_Tells}
use denote.Ref.{MutRef}
use denote.Signature.{plain, shr_slice_of}
use denote.Slice.{MutSlice, ShrSlice, mut_slice_vals, mut_slice_Tells, shr_slice_vals, shr_slice_Tells}
use denote.Steps.{nothing, owned, peeks, heard}
use denote.Triple.Call.{calls_at}
use denote.Triple.Clauses.{lasts}
use denote.Triple.Spec.{triple_of}
use denote.Triple.Table.{framed}
use denote.Triple.Walked.{Stays, walk_of, stay_dropped, gave_slice, Goes-dropped, Goes-gave_slice, ends_at}
use Rattle.depot_c.specs.contracts.handle.Handle.{the_row as R}
use Rattle.depot_c.specs.Served.{IsServed}
use Rattle.depot_c.specs.contracts.exports.depot_c_call as f
use Rattle.depot_c.proofs.exports.depot_c_call.Statement.{statement}
use Rattle.depot_c.proofs.exports.depot_c_call.Code as code
use Rattle.depot_c.specs.contracts.serving.serve as g
use Rattle.depot_c.proofs.serving.serve.Met.{met}

abbrev stayed : Stays f.ended.signature.params f.ended.kept
stayed = (stay_dropped _ yes, (stay_dropped _ yes, (stay_dropped _ yes, (stay_dropped _ yes, (gave_slice (1 ∷ []) tt (plain (λ _. u8)), tt)))))

pub depot_c_call_spec : {M : Type 1} → statement M
depot_c_call_spec 𝓤 𝓛 𝓜 𝓡 wired =
    let c = f.clauses 𝓛 𝓜.mem 𝓡.returns in let W = walk_of 𝓛 f.ended stayed c in let 𝓣 = tables 𝓤 𝓛.H 𝓜 𝓡 𝓡.env in
    proved 𝓛 f.ended stayed c 𝓜 𝓡 (
      Goes-dropped 𝓛 2 (plain (λ _. RawPtr)) yes (λ κs x w. refl),
      (
        Goes-dropped 𝓛 2 (plain (λ _. u32)) yes (λ κs x w. refl),
        (
          Goes-dropped 𝓛 2 (plain (λ _. u64)) yes (λ κs x w. refl),
          (Goes-dropped 𝓛 2 (shr_slice_of (0 ∷ []) tt (plain (λ _. u8))) yes (λ κs x w. refl), (Goes-gave_slice 𝓛 2 1 tt (plain (λ _. u8)), tt)),
        ),
      ),
    )
    f.Key.name code.function (code.unfolded 𝓤 𝓛.H 𝓜 𝓡 wired)
    (λ κs. (rawptr_vals, (uint_vals w32, (uint_vals w64, (shr_slice_vals, (mut_slice_vals, tt))))))
    (λ κs. (rawptr_Tells, (uint_Tells w32, (uint_Tells w64, (shr_slice_Tells (named 0) κs.0 u8, (mut_slice_Tells (named 1) κs.1.0 u8, tt))))))
    (λ κs qs bounds a h are.
    let κ = κs.0 in let ρ = κs.1.0 in let q = qs.0 in let r = qs.1.0 in
    let op = a.1.0 in let number = a.1.1.0 in let input = a.1.1.1.0 in let output = a.1.1.1.1.0 in
    let fits_op = are.1.0.1 in let fits_number = are.1.1.0.1 in let fits_input = are.1.1.1.0.0.1.0 in let fits_output = are.1.1.1.1.0.0.1.0 in
    let I = (ShrSlice (named 0) κ u8).own_val input (shr_slice_vals input) in
    let O = (MutSlice (named 1) ρ u8).own_val output (mut_slice_vals output) in
    let words : List Val × (List Val × (List Val × (List Val × Unit {0}))) = (uint_vals w32 op, (uint_vals w64 number, (shr_slice_vals input, (mut_slice_vals output, tt)))) in
    let y : Ptr → W.Ghost = λ p. ((κs, qs, bounds, (p, (op, (number, (input, (output, tt))))), (rawptr_vals p, words)), h) in
    qed 𝓛 (((‵ (flft κ q) ⊛ ‵ (flft ρ r) ⊛ ‵ ftrue) ⊛ ‵ (RawPtr.own_val a.0 (rawptr_vals a.0)) ⊛ ‵ (u32.own_val op (uint_vals w32 op)) ⊛ ‵ (u64.own_val number (uint_vals w64 number)) ⊛ ‵ I ⊛ ‵ O ⊛ ‵ ftrue)
    ∷ ‵ (lies_at R full_share a.0 h) ∷ []) ∵
    split ! $ split ! $ move ! (2 ∷ []) $ split ! $ drop ! $ split ! $ drop ! $ split ! $ drop ! $ split ! $ move ! (1 ∷ []) $ split ! $ move ! (4 ∷ []) $ split ! $ keep ! (6 ∷ 2 ∷ 4 ∷ 5 ∷ 0 ∷ []) $
    in_a_block ! a.0 (λ p. lies_at R full_share p h) (id⊢ 𝓤 _) (λ b o e.
    regoal ! (λ p. prop (WpFn 𝓤 𝓛.H 𝓣.C 𝓣.Λ code.function (rawptr_vals p ++ (vint w32 op ∷ vint w64 number ∷ (shr_slice_vals input ++ (mut_slice_vals output ++ [])))) (W.post (y p)))) e refl $
    enter ! _ _ _ _ _ $
    alloc_all ! (λ l. pass_all ! refl ((tt, tt), ((tt, record { fits = fits_op }), ((tt, record { fits = fits_number }), ((tt, (tt, (record { fits = fits_input }, tt))), ((tt, (tt, (record { fits = fits_output }, tt))), tt))))) $
    -- [the handle; the output; the input; the two tokens; the locals]
    sets ! (of_opd ! (get ! refl)) refl (tt, tt) $
    sets ! (addr ! (through ! refl (stop !))) refl (tt, tt) $
    sets ! (addr ! (from ! (fld ! refl (hop ! (look_in_at ! 5 (sub ! 0 refl (whole !))) (stop !))))) refl (tt, tt) $
    sets ! (agg ! (and_then ! (get ! refl) (and_then ! (get_in ! (fld ! refl (stop !)) (sub ! 1 refl (whole !))) (no_more !)))) refl (tt, (tt, (record { fits = fits_output }, tt))) $
    lft_new ! tt (λ α. let κ' : List ℕ = α ∷ [] in move ! (1 ∷ []) $
    use1 𝓛 (later (some (λ (γ : ℕ). ‵ ((MutRef (named 0) κ' R).own_val (record { ref_ptr = (b, o); ghost_name = γ; now = h }) (vptr b o ∷ [])) ⊛ ‵ (flent κ' (Body (mem R) b o γ)))))
    (lends_ref 𝓛 R (named 0) κ' h b o) $ await ! tt $ pick ! (λ γ. split ! $
    -- [the loan; what the lender keeps; the token of α; the output; the input; the two tokens]
    let G = triple_of 𝓛 g.signature (g.spec 𝓛 𝓜.mem 𝓡.returns) in
    let z : G.Ghost = (((κ', κs), (full_share, qs), tt, (record { ref_ptr = (b, o); ghost_name = γ; now = h }, (op, (number, (input, (output, tt))))), (vptr b o ∷ [], words)), tt) in
    nothing ! $ move ! (4 ∷ 0 ∷ []) $ join ! $ move ! (4 ∷ 0 ∷ []) $ join ! $ owned ! u64 _ (uint_Makes 𝓛 w64) number _ (refl, fits_number) $ join ! $ owned ! u32 _ (uint_Makes 𝓛 w32) op _ (refl, fits_op) $ join ! $
    move ! (1 ∷ 0 ∷ []) $ join ! $
    nothing ! $ move ! (5 ∷ 0 ∷ []) $ join ! $ move ! (4 ∷ 0 ∷ []) $ join ! $ move ! (3 ∷ 0 ∷ []) $ join ! $ join ! $ nothing ! $ move ! (1 ∷ 0 ∷ []) $ use2 𝓛 (raw (G.pre z)) (id⊢ 𝓤 _) $
    calls_at ! (framed 𝓤 𝓛.H 𝓜 𝓣) G (met 𝓤 𝓛 𝓜 𝓡 (code.calls-depot_c::serving::serve 𝓡.env wired)) z
    (and_then ! (get ! refl) (and_then ! (get ! refl) (and_then ! (get ! refl) (and_then ! (get ! refl) (and_then ! (get ! refl) (no_more !)))))) (λ v.
    use1 𝓛 (later (some (λ (n : ℕ). ((‵ (flft κ' full_share) ⊛ ‵ (flft κ q) ⊛ ‵ (flft ρ r) ⊛ ‵ ftrue) ⊛ ‵ (u64.own_val n (v ∷ []))) ⊛
    some (λ (ws : R.Denot × (Unit {0} × (Unit {0} × (Unit {0} × (List ℕ × Unit {0}))))). ‵ (lasts g.ended z.0.0 z.0.3 ws) ⊛ raw (fact 𝓤 (IsServed op number input.now output.now h ws.0 n ws.1.1.1.1.0)))))) (id⊢ 𝓤 _) $
    await ! tt $ pick ! (λ n. split ! $ split ! $ split ! $ lft_end ! tt $
    -- [α is over; the two tokens; the result; what the call left; what the lender keeps]
    move ! (3 ∷ []) $ pick ! (λ ws. split ! $ move ! (1 ∷ []) $ heard ! _ (λ did. fsplit ! $ fsplit ! $ move ! (3 ∷ 6 ∷ 0 ∷ []) $
    use3 𝓛 (later (‵ (part_at R full_share ws.0 b o))) (ref_back 𝓛 R κ' γ ws.0 b o) $ await ! tt $
    -- [the handle; its borrow; the other parameters; nothing; the two tokens; the result]
    move ! (2 ∷ []) $ fsplit ! $ drop ! $ fsplit ! $ drop ! $ fsplit ! $ drop ! $ fsplit ! $ fsplit ! $ fsplit ! $ move ! (1 ∷ []) $ feq_l ! (λ len. fjoin ! $
    -- [the output; nothing; the handle; its borrow; nothing; the two tokens; the result]
    move ! (5 ∷ []) $ peeks ! u64 (Is u64) (shows 𝓛 u64) n (v ∷ []) (λ is. lands_as ! refl refl ((uint_Lawful 𝓛 w64).typed n _ is).0 $
    returns ! (look_at ! 0 refl) $ free_all ! refl $ keep ! (0 ∷ 1 ∷ 3 ∷ 5 ∷ []) $
    suffices ! _ (ends_at 𝓛 f.ended stayed c (y (block_ptr b o)) v n (tt, (tt, (tt, (tt, (ws.1.1.1.1.0, tt))))) (tt, (tt, (tt, (tt, (len, tt)))))) $
    nothing ! $ move ! (2 ∷ 0 ∷ []) $ join ! $ nothing ! $ join ! $ nothing ! $ join ! $ nothing ! $ join ! $ nothing ! $ join ! $ move ! (3 ∷ 0 ∷ 1 ∷ []) $ group ! 3 $
    move ! (1 ∷ []) $ nothing ! $ fpack ! (IsServed op number input.now output.now h ws.0 n ws.1.1.1.1.0) (λ _. ftrue) did $ move ! (1 ∷ 0 ∷ []) $ fjoin ! $ fpack ! R.Denot (λ x. fsep (lies_at R full_share (block_ptr b o) x) (fex (IsServed op number input.now output.now h x n ws.1.1.1.1.0) (λ _. ftrue))) ws.0 $ move ! (1 ∷ 0 ∷ []) $ done !)))))))))))
