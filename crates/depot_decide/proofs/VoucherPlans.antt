-- What holds of the vouchers that a node is to make: their texts, the journal with them, and what a refusal says.
use Rattle.std.proofs.Common.{◌≡◌, ℕ, suc, ◌+◌, ◌/◌, ◌%◌, ◌≤◌, min, ltb, not, Bool, true, false, ◌&&◌, eqb, List, [], ◌∷◌, ◌++◌, length, map, Some, None, option_map, refl, sym, ap, subst, ◌∙◌, arith, inl, inr, Ok, Err}
use Rattle.std.specs.List.{AllByRecursion}
use Rattle.std.specs.Str.{bytes_eq}
use Rattle.std.proofs.lemmas.Bool.{and_parts}
use Rattle.std.proofs.lemmas.List.{length-map}
use Rattle.std.proofs.lemmas.Slice.Eq.{bytes_eq-Decides}
use Rattle.depot_base.specs.Parts.{node_number, digest}
use Rattle.depot_base.specs.declared.check.Full.{Full}
use Rattle.depot_base.specs.declared.record.Record.{Record}
use Rattle.depot_base.specs.declared.record.Record.TheVariants.{OwnVoucher, Foreign}
use Rattle.depot_base.specs.declared.statement.Signed.{Signed}
use Rattle.depot_base.specs.declared.update.Update.{Update}
use Rattle.depot_base.specs.declared.voucher.Voucher.{Voucher}
use Rattle.depot_model.specs.declared.bundle.VoucherError.TheVariants as refused
use Rattle.depot_model.specs.checks.Checks.{Setting}
use Rattle.depot_model.specs.journals.Journal.{accepted, is_foreign, own}
use Rattle.depot_model.specs.journals.Lawful.{IsLawful, is_empty}
use Rattle.depot_model.specs.checks.Limits.{spent_by, IsCutShort}
use Rattle.depot_model.specs.checks.Limits as limits
use Rattle.depot_model.specs.lists.Lists.{AreApart, IsIn, first, when}
use Rattle.depot_model.specs.checks.Own.{leaf_count}
use Rattle.depot_model.specs.texts.Records.{IsRecord}
use Rattle.depot_model.specs.checks.Room.{full_by}
use Rattle.depot_model.specs.texts.Texts.{id_of_update}
use Rattle.depot_model.specs.checks.Vouching.{Vouches, groups_of, limit_of_new, limit_of_vouchers, new_vouchers, numbered, records_of}
use Rattle.depot_model.proofs.lists.Members.{all_at, all_from, any_to, in_map}
use Rattle.depot_accept.proofs.FirstFound.{first_one}
use Rattle.depot_laws.proofs.lists.Groups.{IsSized, from_groups, groups_sized, numbered_count}
use Rattle.depot_laws.proofs.records.NewVouchers.{foreign_is_digest, voucher_fits, new_are_lawful}
use Rattle.depot_laws.proofs.own_updates.OwnTexts.{few_own, lawful_is_short, me_fits}
use Rattle.depot_readings.specs.NewRecords.{MayGrow}
use Rattle.depot_readings.proofs.LeafLaws.{few_accepted}
use Rattle.depot_decide.specs.Deciding.{HasGrown, HadNoRoom}
use Rattle.depot_decide.specs.PlanErrors.{voucher_error_of}
use Rattle.depot_decide.specs.PlannedVouchers.{ArePlanned, AreRefused}
use Rattle.depot_decide.specs.declared.plan_errors.VoucherPlanError.{VoucherPlanError}
use Rattle.depot_decide.specs.declared.plan_errors.VoucherPlanError.TheVariants as plan
use Rattle.depot_decide.proofs.VoucherGroups.{group_count}

-- ---- how many ids there are

-- the list without what is at one place
record IsCut (x : List ℕ) (ys : List (List ℕ)) : Type 0 where
  pub rest : List (List ℕ)
  pub fewer : length rest + 1 ≡ length ys
  pub others : (y : List ℕ) → IsIn y ys → (x ≡ y → ⊥) → IsIn y rest

cut_out : (x : List ℕ) (ys : List (List ℕ)) → IsIn x ys → IsCut x ys
cut_out x [] never = absurd never
cut_out x (y ∷ ys) (inl here) = record { rest = ys; fewer = omega arith; others = λ z on other. elim on [ inl same ↦ absurd (other (sym here ∙ same)) | inr there ↦ there ] }
cut_out x (y ∷ ys) (inr there) =
    let c = cut_out x ys there in
    record { rest = y ∷ c.rest; fewer = omega (arith, c.fewer); others = λ z on other. elim on [ inl same ↦ inl same | inr behind ↦ inr (c.others z behind other) ] }

-- members that are separate are no more than the list
few_apart : (xs ys : List (List ℕ)) → AreApart xs → ((x : List ℕ) → IsIn x xs → IsIn x ys) → length xs ≤ length ys
few_apart [] ys apart within = omega arith
few_apart (x ∷ xs) ys apart within =
    let c = cut_out x ys (within x (inl refl)) in
    let rest = few_apart xs c.rest apart.1 (λ y on. c.others y (within y (inr on)) (λ same. apart.0 (subst (λ (z : List ℕ). IsIn z xs) (sym same) on))) in
    omega (arith, rest, c.fewer)

-- what is an id of another's accepted update is one of the accepted ids
foreign_is_on : (me : ℕ) (us : List Update) (h : List ℕ) → is_foreign me us h ≡ true → IsIn h (map id_of_update us)
foreign_is_on me us h e =
    let t = any_to (λ (t : Update). bytes_eq (id_of_update t) h && not (eqb t.writer me)) us e in
    let p = and_parts (bytes_eq (id_of_update t.0) h) _ t.1.1 in
    subst (λ (k : List ℕ). IsIn k (map id_of_update us)) ((bytes_eq-Decides (id_of_update t.0) h).0 p.0) (in_map id_of_update t.0 us t.1.0)

abbrev AreForeign : Setting → List Record → List (List ℕ) → Type 0
AreForeign here J ids = AllByRecursion (λ h. is_foreign here.me (accepted J) h ≡ true) ids

-- ids of accepted updates that are separate are no more than a journal may have records
pub few_ids : (here : Setting) (J : List Record) (ids : List (List ℕ)) → IsLawful here J → AreApart ids → AreForeign here J ids → length ids ≤ 131072
few_ids here J ids l apart foreign =
    let among : (h : List ℕ) → IsIn h ids → IsIn h (map id_of_update (accepted J)) = λ h on. foreign_is_on here.me (accepted J) h (all_at (λ k. is_foreign here.me (accepted J) k ≡ true) ids h foreign on) in
    omega (arith, few_apart ids (map id_of_update (accepted J)) apart among, length-map (accepted J) id_of_update, few_accepted J, lawful_is_short here J l)

-- ---- the texts of vouchers

abbrev AreSized : List (List (List ℕ)) → Type 0
AreSized gs = AllByRecursion (λ g. IsSized 256 g × ((h : List ℕ) → IsIn h g → digest.fits h)) gs

numbered_fit : (me n : ℕ) (gs : List (List (List ℕ))) → node_number.fits me → n + length gs ≤ 4294967295 → AreSized gs → AllByRecursion (λ v. IsRecord (OwnVoucher v)) (numbered me n gs)
numbered_fit me n [] node few sized = tt
numbered_fit me n (g ∷ gs) node few sized = (voucher_fits me n g node (omega (arith, few)) sized.0.0 sized.0.1, numbered_fit me (suc n) gs node (omega (arith, few)) sized.1)

-- the vouchers for ids of accepted updates have texts
pub vouchers_fit : (here : Setting) (J : List Record) (ids : List (List ℕ)) → IsLawful here J → is_empty J ≡ false → AreApart ids → AreForeign here J ids → AllByRecursion (λ v. IsRecord (OwnVoucher v)) (new_vouchers here.me J ids)
unfolding new_vouchers
vouchers_fit here J ids l some apart foreign =
    let gs = groups_of 256 ids in
    let sized : AreSized gs = all_from (λ (g : List (List ℕ)). IsSized 256 g × ((h : List ℕ) → IsIn h g → digest.fits h)) gs (λ g on. (
      all_at (IsSized 256) gs g (groups_sized 256 ids (omega arith)) on,
      λ h h_on.
          let behind = from_groups 256 h ids (record { group = g; on = on; member = h_on }) in
          foreign_is_digest here.me (accepted J) h (all_at (λ k. is_foreign here.me (accepted J) k ≡ true) ids h foreign behind),
    )) in
    numbered_fit here.me (length (own J)) gs (me_fits here J l some) (omega (arith, few_own J, lawful_is_short here J l, few_ids here J ids l apart foreign, group_count ids)) sized

-- how many vouchers there are, and how many statements with them
pub own_with : (J : List Record) (ids : List (List ℕ)) (n count : ℕ) → n ≡ length (own J) → count ≡ length ids / 256 + min 1 (length ids % 256) → n + count ≡ length (own J) + length (groups_of 256 ids)
own_with J ids n count counted is = omega (arith, counted, is, group_count ids)

pub length-new_vouchers : (me : ℕ) (J : List Record) (ids : List (List ℕ)) → length (new_vouchers me J ids) ≡ length (groups_of 256 ids)
unfolding new_vouchers
length-new_vouchers me J ids = numbered_count me (length (own J)) (groups_of 256 ids)

-- the vouchers that were made are those
pub are_new_vouchers : (me : ℕ) (J : List Record) (ids : List (List ℕ)) (node n : ℕ) (vs : List Voucher) → node ≡ me → n ≡ length (own J) → vs ≡ numbered node n (groups_of 256 ids) → vs ≡ new_vouchers me J ids
unfolding new_vouchers
are_new_vouchers me J ids node n vs is counted made = made ∙ ap (λ (m : ℕ). numbered m n (groups_of 256 ids)) is ∙ ap (λ (k : ℕ). numbered me k (groups_of 256 ids)) counted

-- ---- what is decided

limit_is : (here : Setting) (J : List Record) (ids : List (List ℕ)) (count : ℕ) → count ≡ length (own J) + length (groups_of 256 ids) → (passed : Bool) → ltb (leaf_count here.listed here.me) count ≡ passed
    → limit_of_vouchers here J ids ≡ first (when passed (limits.spent (length (own J))) ∷ option_map limits.full (full_by here.me J (records_of (new_vouchers here.me J ids))) ∷ [])
unfolding limit_of_vouchers limit_of_new spent_by
limit_is here J ids count is passed test =
    ap (λ (n : ℕ). first (when (ltb (leaf_count here.listed here.me) n) (limits.spent (length (own J))) ∷ option_map limits.full (full_by here.me J (records_of (new_vouchers here.me J ids))) ∷ []))
    (ap (λ (n : ℕ). length (own J) + n) (length-new_vouchers here.me J ids) ∙ sym is)
    ∙ ap (λ (b : Bool). first (when b (limits.spent (length (own J))) ∷ option_map limits.full (full_by here.me J (records_of (new_vouchers here.me J ids))) ∷ [])) test

turned : (b c : Bool) → b ≡ not c → c ≡ not b
turned true true e = absurd cc
turned true false e = refl
turned false true e = refl
turned false false e = absurd cc

-- too few leaves are left
pub too_few_leaves : (here : Setting) (J : List Record) (ids : List (List ℕ)) (n count : ℕ) (enough : Bool) → n ≡ length (own J) → count ≡ length (own J) + length (groups_of 256 ids) → enough ≡ not (ltb (leaf_count here.listed here.me) count) → enough ≡ false → AreRefused here J ids (plan.Spent n)
too_few_leaves here J ids n count enough counted is test fails = limit_is here J ids count is true (turned enough _ test ∙ ap not fails) ∙ ap (λ (k : ℕ). Some (limits.spent k)) (sym counted)

-- and else only the room is open
pub planned : (here : Setting) (J : List Record) (ids : List (List ℕ)) (new : List Record) (count : ℕ) (enough : Bool) → IsLawful here J → is_empty J ≡ false → AreForeign here J ids → count ≡ length (own J) + length (groups_of 256 ids)
    → enough ≡ not (ltb (leaf_count here.listed here.me) count) → enough ≡ true → new ≡ records_of (new_vouchers here.me J ids) → ArePlanned here J ids new
planned here J ids new count enough l some foreign is test holds grows =
    let limit : limit_of_vouchers here J ids ≡ option_map limits.full (full_by here.me J new) = limit_is here J ids count is false (turned enough _ test ∙ ap not holds) ∙ first_one _ ∙ ap (λ (rs : List Record). option_map limits.full (full_by here.me J rs)) (sym grows) in
    record {
      limit = limit;
      grows = grows;
      lawful = λ room. subst (λ (rs : List Record). IsLawful here (J ++ rs)) (sym grows) (new_are_lawful here J ids l some (λ h on. all_at (λ k. is_foreign here.me (accepted J) k ≡ true) ids h foreign on) (limit ∙ ap (option_map limits.full) room));
    }

-- a refusal leaves the journal as it is
pub refused_vouches : (here : Setting) (J : List Record) (ids : List (List ℕ)) (e : VoucherPlanError) → AreRefused here J ids e → Vouches here J ids (Err (voucher_error_of e)) J
refused_vouches here J ids plan.Memory r = refl
refused_vouches here J ids (plan.Spent n) r = (r, refl)

-- ---- what is carried out

no_foreign : (vs : List Voucher) (s : Signed) → IsIn (Foreign s) (records_of vs) → ⊥
no_foreign [] s never = never
no_foreign (v ∷ vs) s (inl here) = cc
no_foreign (v ∷ vs) s (inr there) = no_foreign vs s there

-- the journal may grow by planned vouchers
pub may_vouch : (here : Setting) (J : List Record) (ids : List (List ℕ)) (new : List Record) → ArePlanned here J ids new → MayGrow here J new
may_vouch here J ids new p = record {
  statements = λ s on. absurd (no_foreign (new_vouchers here.me J ids) s (subst (λ (rs : List Record). IsIn (Foreign s) rs) p.grows on));
  lawful = p.lawful;
}

-- they are appended
pub vouched : (here : Setting) (J : List Record) (ids : List (List ℕ)) (new after : List Record) → ArePlanned here J ids new → HasGrown here.me J new after → Vouches here J ids (Ok tt) after
vouched here J ids new after p grown = (p.limit ∙ ap (option_map limits.full) grown.0, grown.1 ∙ ap (λ (rs : List Record). J ++ rs) p.grows)

-- or there is no room for them
pub no_room : (here : Setting) (J : List Record) (ids : List (List ℕ)) (new after : List Record) (what : Full) → ArePlanned here J ids new → HadNoRoom here.me J new what after → Vouches here J ids (Err (refused.Full what)) after
no_room here J ids new after what p full = (p.limit ∙ ap (option_map limits.full) full.0, full.1)

-- or the disk cut them short
pub cut_vouchers : (here : Setting) (J : List Record) (ids : List (List ℕ)) (new after : List Record) → ArePlanned here J ids new → full_by here.me J new ≡ None → IsCutShort J new after → Vouches here J ids (Err refused.Disk) after
cut_vouchers here J ids new after p room cut = (p.limit ∙ ap (option_map limits.full) room, subst (λ (rs : List Record). IsCutShort J rs after) p.grows cut)
