-- A lawful journal stays lawful with the vouchers that a node makes for some ids, where they meet no limit.
use Rattle.std.proofs.Common.{◌≡◌, ℕ, suc, ◌+◌, ◌≤◌, ◌^◌, List, [], ◌∷◌, ◌++◌, length, true, false, not, ◌&&◌, eqb, None, refl, sym, ap, subst, ◌∙◌, inl, inr, ◌⊎◌, arith, append_assoc, length-append}
use Rattle.std.proofs.lemmas.List.{append-nil}
use Rattle.std.specs.List.{AllByRecursion, flat_map}
use Rattle.std.specs.Int.{w8, w16, w32}
use Rattle.std.specs.Str.{bytes_eq}
use Rattle.std.specs.Option.{option_map}
use Rattle.std.proofs.lemmas.Slice.Eq.{bytes_eq-Decides}
use Rattle.std.proofs.lemmas.Bool.{and_parts, ltb-false}
use Rattle.depot_base.specs.Format.{number, list_of}
use Rattle.depot_base.specs.Parts.{node_number, digest}
use Rattle.depot_base.specs.declared.update.Update.{Update}
use Rattle.depot_base.specs.declared.voucher.Voucher.{Voucher}
use Rattle.depot_base.specs.declared.record.Record.{Record}
use Rattle.depot_base.specs.declared.record.Record.TheVariants.{OwnVoucher}
use Rattle.depot_model.specs.lists.Lists.{IsIn}
use Rattle.depot_model.specs.texts.Texts.{voucher_fields, voucher_body, id_of_update}
use Rattle.depot_model.specs.texts.Records.{tagged, record_text, IsRecord, journal_bytes}
use Rattle.depot_model.specs.journals.Journal.{accepted, accepted_by, own, own_by}
use Rattle.depot_model.specs.checks.Own.{leaf_count}
use Rattle.depot_model.specs.checks.Checks.{Setting}
use Rattle.depot_model.specs.checks.Room.{takes_update, full_by, HasRoom}
use Rattle.depot_model.specs.checks.Limits.{full, spent, spent_by}
use Rattle.depot_model.specs.checks.Vouching.{is_foreign, rising, groups_of, numbered, new_vouchers, records_of, limit_of_new, limit_of_vouchers}
use Rattle.depot_model.specs.journals.Lawful.{IsAllowed, IsLawful, is_empty}
use Rattle.depot_model.proofs.lists.FirstLaws.{each_is_none, when-none}
use Rattle.depot_model.proofs.lists.Members.{any_to, all_at, all_from}
use Rattle.depot_base.proofs.GeneralLaws.{mapped-none, flat_push}
use Rattle.depot_laws.proofs.lists.Splits.{silent, lawful_push}
use Rattle.depot_laws.proofs.records.JournalLimits.{within_from_room, room_from_within, bytes_front}
use Rattle.depot_laws.proofs.own_updates.OwnTexts.{lawful_is_short, lawful_is_light, few_own, me_fits, id_is_digest}
use Rattle.depot_laws.proofs.lists.Groups.{IsSized, groups_sized, from_groups, from_rising}
use Rattle.depot_laws.proofs.lists.RisingBytes.{rising_rises, rising_short, rising_some, digests_follow}
use Rattle.depot_laws.proofs.records.Growing.{nonempty_more}
use Rattle.depot_laws.proofs.exchanges.HelloTexts.{byte_fits}

-- ---- ids

pub foreign_is_digest : (me : ℕ) (us : List Update) (h : List ℕ) → is_foreign me us h ≡ true → digest.fits h
foreign_is_digest me us h e =
    let t = any_to (λ (t : Update). bytes_eq (id_of_update t) h && not (eqb t.writer me)) us e in
    let p = and_parts (bytes_eq (id_of_update t.0) h) _ t.1.1 in
    subst (λ (k : List ℕ). digest.fits k) ((bytes_eq-Decides (id_of_update t.0) h).0 p.0) (id_is_digest t.0)

-- ---- the text of a voucher

voucher_tag : (number w8 1 6).fits 3
unfolding number
voucher_tag = (omega arith, omega arith)

seq_fits : (n : ℕ) → n ≤ 4294967295 → (number w32 0 4294967295).fits n
unfolding number
seq_fits n few = (omega arith, few)

count_fits : (n : ℕ) → 1 ≤ n → n ≤ 256 → (number w16 1 256).fits n
unfolding number
count_fits n some few = (some, few)

-- a voucher of a sized group has a text
pub voucher_fits : (me n : ℕ) (g : List (List ℕ)) → node_number.fits me → n ≤ 4294967295 → IsSized 256 g → ((h : List ℕ) → IsIn h g → digest.fits h) → IsRecord (OwnVoucher (record { node = me; seq = n; ids = rising g }))
unfolding record_text tagged voucher_body voucher_fields list_of
voucher_fits me n g node seq sized fit =
    let follow = digests_follow (rising g) (rising_rises g) (λ x on. fit x (from_rising x g on)) in
    let count : (number w16 1 256).fits (length (rising g)) = count_fits (length (rising g)) (rising_some g sized.some) (omega (arith, rising_short g, sized.most)) in
    (voucher_tag, (byte_fits 1 (omega arith), (byte_fits 2 (omega arith), (node, (seq_fits n seq, (count, ((follow, refl), refl)))))))

-- ---- one after another

-- this many vouchers after a journal keep within its limits
record HasRoomForAll (here : Setting) (J : List Record) (vs : List Voucher) : Type 0 where
  pub records : length (J ++ records_of vs) ≤ 131072
  pub bytes : journal_bytes (J ++ records_of vs) ≤ 2 ^ 30
  pub leaves : length (own J) + length vs ≤ leaf_count here.listed here.me

pub takes_none : (vs : List Voucher) → flat_map takes_update (records_of vs) ≡ []
takes_none [] = refl
takes_none (v ∷ vs) = takes_none vs

one_has_room : (here : Setting) (J : List Record) (v : Voucher) (vs : List Voucher) → HasRoomForAll here J (v ∷ vs) → HasRoom here.me J (OwnVoucher v ∷ [])
one_has_room here J v vs r = room_from_within here.me J (OwnVoucher v ∷ []) (record {
  records = omega (arith, r.records, length-append J (OwnVoucher v ∷ []), length-append J (OwnVoucher v ∷ records_of vs));
  bytes = omega (arith, r.bytes, bytes_front J (OwnVoucher v ∷ []) (records_of vs));
  writers = λ takes. absurd cc;
})

others_have_room : (here : Setting) (J : List Record) (v : Voucher) (vs : List Voucher) → HasRoomForAll here J (v ∷ vs) → HasRoomForAll here (J ++ OwnVoucher v ∷ []) vs
others_have_room here J v vs r =
    let same : (J ++ OwnVoucher v ∷ []) ++ records_of vs ≡ J ++ OwnVoucher v ∷ records_of vs = append_assoc J (OwnVoucher v ∷ []) (records_of vs) in
    record {
      records = subst (λ (x : List Record). length x ≤ 131072) (sym same) r.records;
      bytes = subst (λ (x : List Record). journal_bytes x ≤ 2 ^ 30) (sym same) r.bytes;
      leaves = omega (arith, r.leaves, ap length (flat_push own_by J (OwnVoucher v)), length-append (own J) (own_by (OwnVoucher v)));
    }

-- each of these groups is sized, and its members are ids of others' updates
AreVouchable : ℕ → List Update → List (List (List ℕ)) → Type 0
AreVouchable me us gs = AllByRecursion (λ g. IsSized 256 g × ((h : List ℕ) → IsIn h g → is_foreign me us h ≡ true)) gs

numbered_lawful : (here : Setting) (J : List Record) (n : ℕ) (gs : List (List (List ℕ))) → IsLawful here J → is_empty J ≡ false → n ≡ length (own J) → AreVouchable here.me (accepted J) gs → HasRoomForAll here J (numbered here.me n gs) → IsLawful here (J ++ records_of (numbered here.me n gs))
unfolding AreVouchable
numbered_lawful here J n [] l some seq each room = subst (λ (K : List Record). IsLawful here K) (sym (append-nil J)) l
numbered_lawful here J n (g ∷ gs) l some seq each room =
    let v : Voucher = record { node = here.me; seq = n; ids = rising g } in
    let short = lawful_is_short here J l in
    let allowed : IsAllowed here J (OwnVoucher v) = record {
      first = sym some;
      text = voucher_fits here.me n g (me_fits here J l some) (omega (arith, seq, few_own J, short)) each.0.0 (λ h on. foreign_is_digest here.me (accepted J) h (each.0.1 h on));
      may = record { node = refl; seq = seq; leaf = omega (arith, room.leaves); ids = λ h on. each.0.1 h (from_rising h g on) };
      room = one_has_room here J v (numbered here.me (suc n) gs) room;
    } in
    let K = J ++ OwnVoucher v ∷ [] in
    let same : accepted K ≡ accepted J = silent accepted_by J (OwnVoucher v) refl in
    let more = numbered_lawful here K (suc n) gs (lawful_push here J (OwnVoucher v) l allowed) (nonempty_more J (OwnVoucher v)) (omega (arith, seq, ap length (flat_push own_by J (OwnVoucher v)), length-append (own J) (own_by (OwnVoucher v))))
    (subst (λ (us : List Update). AreVouchable here.me us gs) (sym same) each.1) (others_have_room here J v (numbered here.me (suc n) gs) room) in
    subst (λ (x : List Record). IsLawful here x) (append_assoc J (OwnVoucher v ∷ []) (records_of (numbered here.me (suc n) gs))) more

-- ---- the law

room_for_none : (me : ℕ) (J new : List Record) → full_by me J new ≡ None → (new ≡ []) ⊎ HasRoom me J new
room_for_none me J [] e = inl refl
room_for_none me J (r ∷ rs) e = inr e

has_room : (here : Setting) (J : List Record) (vs : List Voucher) → IsLawful here J → limit_of_new here J vs ≡ None → HasRoomForAll here J vs
unfolding limit_of_new spent_by
has_room here J vs l e =
    let each = each_is_none (spent_by here J (length vs) ∷ option_map full (full_by here.me J (records_of vs)) ∷ []) e in
    let leaves : length (own J) + length vs ≤ leaf_count here.listed here.me = ltb-false _ _ (when-none _ (spent (length (own J))) each.0) in
    elim (room_for_none here.me J (records_of vs) (mapped-none full _ each.1.0)) [
      | inr room ↦ (let w = within_from_room here.me J (records_of vs) room in record { records = w.records; bytes = w.bytes; leaves = leaves })
      | inl none ↦
          let same : J ++ records_of vs ≡ J = ap (λ (x : List Record). J ++ x) none ∙ append-nil J in
          record {
            records = subst (λ (x : List Record). length x ≤ 131072) (sym same) (lawful_is_short here J l);
            bytes = subst (λ (x : List Record). journal_bytes x ≤ 2 ^ 30) (sym same) (lawful_is_light here J l);
            leaves = leaves;
          }
    ]

pub new_are_lawful : (here : Setting) (J : List Record) (ids : List (List ℕ)) → IsLawful here J → is_empty J ≡ false → ((h : List ℕ) → IsIn h ids → is_foreign here.me (accepted J) h ≡ true) → limit_of_vouchers here J ids ≡ None → IsLawful here (J ++ records_of (new_vouchers here.me J ids))
unfolding limit_of_vouchers new_vouchers AreVouchable
new_are_lawful here J ids l some foreign e =
    let gs = groups_of 256 ids in
    let each : AreVouchable here.me (accepted J) gs = all_from (λ (g : List (List ℕ)). IsSized 256 g × ((h : List ℕ) → IsIn h g → is_foreign here.me (accepted J) h ≡ true)) gs (λ g on. (
      all_at (IsSized 256) gs g (groups_sized 256 ids (omega arith)) on,
      λ h h_on. foreign h (from_groups 256 h ids (record { group = g; on = on; member = h_on })),
    )) in
    numbered_lawful here J (length (own J)) gs l some refl each (has_room here J (numbered here.me (length (own J)) gs) l e)
