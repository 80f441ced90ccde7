-- Own vouchers that are kept one after another.
use Rattle.std.proofs.Common.{◌≡◌, ℕ, ◌+◌, ◌<◌, ◌≤◌, List, [], ◌∷◌, ◌++◌, length, take, get_or, refl, sym, ap, subst, ◌∙◌, append_assoc, arith, inl}
use Rattle.std.specs.List.{AllByRecursion}
use Rattle.std.proofs.lemmas.List.{append-nil, map-append}
use Rattle.depot_base.specs.declared.record.Record.{Record}
use Rattle.depot_base.specs.declared.record.Record.TheVariants.{OwnVoucher}
use Rattle.depot_base.specs.declared.voucher.Voucher.{Voucher}
use Rattle.depot_model.specs.checks.Checks.{Setting}
use Rattle.depot_model.specs.journals.Lawful.{IsLawful}
use Rattle.depot_model.specs.lists.Lists.{IsIn}
use Rattle.depot_model.specs.texts.Roster.{Verifies}
use Rattle.depot_model.specs.checks.Vouching.{records_of}
use Rattle.depot_model.proofs.lists.Members.{all_at, all_from, all_push, in_right}
use Rattle.depot_accept.specs.StateView.{View, setting}
use Rattle.depot_laws.proofs.lists.Splits.{lawful_front}
use Rattle.depot_kept.specs.declared.values.Values.{Values}
use Rattle.depot_kept.specs.VouchedView.{AreWithin}
use Rattle.depot_readings.specs.NewRecords.{vouchers_of, HasOwnId}
use Rattle.depot_readings.specs.OwnIds.{AddsMine, HaveRoom}
use Rattle.depot_readings.specs.ReadingsParts.{IsKeptOf, KeepsRecords, MayKeep}
use Rattle.depot_readings.specs.declared.news.NewVoucher.{NewVoucher}
use Rattle.depot_readings.specs.declared.totals.Totals.{Totals}
use Rattle.depot_readings.proofs.OwnIdLaws.{adds_more}
use Rattle.depot_readings.proofs.VoucherRecords.{none_left, records_push}
use Rattle.depot_base.proofs.GeneralLaws.{take_next}

-- ---- room for ids

pub room_stays : (xs : List NewVoucher) (old new : List (List ℕ)) → AreWithin old new → HaveRoom xs old → HaveRoom xs new
room_stays xs old new within all = all_from (λ (x : NewVoucher). AreWithin x.voucher.ids new) xs (λ x on h there. within h (all_at (λ (y : NewVoucher). AreWithin y.voucher.ids old) xs x all on h there))

-- with one more
pub room_more : (xs : List NewVoucher) (i : ℕ) (x : NewVoucher) (old new : List (List ℕ)) → i < length xs → x ≡ get_or xs i x → HaveRoom (take i xs) old → AreWithin old new → AreWithin x.voucher.ids new → HaveRoom (take (i + 1) xs) new
room_more xs i x old new low is front within more =
    let next = take_next xs i x low is in
    subst (λ (ys : List NewVoucher). HaveRoom ys new) (sym next) (all_push (λ (y : NewVoucher). AreWithin y.voucher.ids new) (take i xs) x (room_stays (take i xs) old new within front) more)

-- ---- what is kept

-- of two lists of records one after another
keeps_more : {S : Type 0} (verifies : Verifies) (v w z : View S) (kept mid last : Values) (t u s : Totals) (front new : List Record) → setting verifies w ≡ setting verifies v
    → KeepsRecords verifies v kept t front w mid u → KeepsRecords verifies w mid u new z last s → KeepsRecords verifies v kept t (front ++ new) z last s
keeps_more verifies v w z kept mid last t u s front new stays one two = λ J k l.
    let whole : IsLawful (setting verifies v) ((J ++ front) ++ new) = subst (λ (K : List Record). IsLawful (setting verifies v) K) (sym (append_assoc J front new)) l in
    subst (λ (K : List Record). IsKeptOf K z last s) (append_assoc J front new) (two (J ++ front) (one J k (lawful_front (setting verifies v) (J ++ front) new whole)) (subst (λ (here : Setting). IsLawful here ((J ++ front) ++ new)) (sym stays) whole))

-- Of these vouchers all but those that are left are kept, and there is room for those.
pub record AreAdded {S : Type 0} (verifies : Verifies) (all left : List NewVoucher) (v w : View S) (kept kept_then : Values) (t u : Totals) (ids ids_then room : List (List ℕ)) : Type 0 where
  pub done : List NewVoucher
  pub split : done ++ left ≡ all
  pub keeps : KeepsRecords verifies v kept t (records_of (vouchers_of done)) w kept_then u
  pub stays : setting verifies w ≡ setting verifies v
  pub spare : length left ≤ w.voucher_room
  pub mine : AddsMine ids (records_of (vouchers_of done)) ids_then
  pub mine_room : HaveRoom left room

-- what is lawful with all of them is with the next one
pub next_is_lawful : (here : Setting) (J : List Record) (all done rest : List NewVoucher) (x : NewVoucher) → done ++ x ∷ rest ≡ all → IsLawful here (J ++ records_of (vouchers_of all)) → IsLawful here ((J ++ records_of (vouchers_of done)) ++ OwnVoucher x.voucher ∷ [])
next_is_lawful here J all done rest x split l =
    let parts : records_of (vouchers_of all) ≡ (records_of (vouchers_of done) ++ OwnVoucher x.voucher ∷ []) ++ records_of (vouchers_of rest) =
    ap (λ (xs : List NewVoucher). records_of (vouchers_of xs)) (sym split ∙ sym (append_assoc done (x ∷ []) rest))
    ∙ ap records_of (map-append (λ (y : NewVoucher). y.voucher) (done ++ x ∷ []) rest)
    ∙ map-append (λ (y : Voucher). OwnVoucher y) (vouchers_of (done ++ x ∷ [])) (vouchers_of rest)
    ∙ ap (λ (rs : List Record). rs ++ records_of (vouchers_of rest)) (records_push done x) in
    let front : List Record = records_of (vouchers_of done) ++ OwnVoucher x.voucher ∷ [] in
    let whole = subst (λ (rs : List Record). IsLawful here (J ++ rs)) parts l in
    let cut = lawful_front here (J ++ front) (records_of (vouchers_of rest)) (subst (λ (K : List Record). IsLawful here K) (sym (append_assoc J front (records_of (vouchers_of rest)))) whole) in
    subst (λ (K : List Record). IsLawful here K) (sym (append_assoc J (records_of (vouchers_of done)) (OwnVoucher x.voucher ∷ []))) cut

-- so the next one may be kept
pub may_add : {S : Type 0} (verifies : Verifies) (all left rest : List NewVoucher) (x : NewVoucher) (v w : View S) (kept kept_then : Values) (t u : Totals) (ids ids_then room : List (List ℕ))
    → left ≡ x ∷ rest → MayKeep verifies v kept t (records_of (vouchers_of all)) → AreAdded verifies all left v w kept kept_then t u ids ids_then room → MayKeep verifies w kept_then u (OwnVoucher x.voucher ∷ [])
may_add verifies all left rest x v w kept kept_then t u ids ids_then room next may a =
    let J : List Record = may.0 in
    let l = next_is_lawful (setting verifies v) J all a.done rest x (ap (λ (xs : List NewVoucher). a.done ++ xs) (sym next) ∙ a.split) may.1.1 in
    (J ++ records_of (vouchers_of a.done), (a.keeps J may.1.0 (lawful_front (setting verifies v) (J ++ records_of (vouchers_of a.done)) (OwnVoucher x.voucher ∷ []) l), subst (λ (here : Setting). IsLawful here ((J ++ records_of (vouchers_of a.done)) ++ OwnVoucher x.voucher ∷ [])) (sym a.stays) l))

-- its id is its own
pub next_has_id : {S : Type 0} (verifies : Verifies) (all left rest : List NewVoucher) (x : NewVoucher) (v w : View S) (kept kept_then : Values) (t u : Totals) (ids ids_then room : List (List ℕ))
    → left ≡ x ∷ rest → AllByRecursion HasOwnId all → AreAdded verifies all left v w kept kept_then t u ids ids_then room → HasOwnId x
next_has_id verifies all left rest x v w kept kept_then t u ids ids_then room next own a =
    let on : IsIn x all = subst (λ (xs : List NewVoucher). IsIn x xs) (ap (λ (xs : List NewVoucher). a.done ++ xs) (sym next) ∙ a.split) (in_right x a.done (x ∷ rest) (inl refl)) in
    all_at HasOwnId all x own on

-- there is room for it
pub record HasRoomNow {S : Type 0} (x : NewVoucher) (w : View S) (room : List (List ℕ)) : Type 0 where
  pub spare : 0 < w.voucher_room
  pub ids : AreWithin x.voucher.ids room

pub next_has_room : {S : Type 0} (verifies : Verifies) (all left rest : List NewVoucher) (x : NewVoucher) (v w : View S) (kept kept_then : Values) (t u : Totals) (ids ids_then room : List (List ℕ))
    → left ≡ x ∷ rest → AreAdded verifies all left v w kept kept_then t u ids ids_then room → HasRoomNow x w room
next_has_room verifies all left rest x v w kept kept_then t u ids ids_then room next a = record {
  spare = omega (arith, a.spare, ap length next);
  ids = (subst (λ (xs : List NewVoucher). HaveRoom xs room) next a.mine_room).0;
}

-- and then one more is kept
pub one_added : {S : Type 0} (verifies : Verifies) (all left rest : List NewVoucher) (x : NewVoucher) (v w z : View S) (kept mid last : Values) (t u s : Totals) (ids ids_mid ids_then room room_then : List (List ℕ))
    → left ≡ x ∷ rest → AreAdded verifies all left v w kept mid t u ids ids_mid room → KeepsRecords verifies w mid u (OwnVoucher x.voucher ∷ []) z last s → setting verifies z ≡ setting verifies w → z.voucher_room + 1 ≡ w.voucher_room
    → AddsMine ids_mid (OwnVoucher x.voucher ∷ []) ids_then → AreWithin room room_then → AreAdded verifies all rest v z kept last t s ids ids_then room_then
one_added verifies all left rest x v w z kept mid last t u s ids ids_mid ids_then room room_then next a keeps stays spare mine within =
    let more : records_of (vouchers_of a.done) ++ OwnVoucher x.voucher ∷ [] ≡ records_of (vouchers_of (a.done ++ x ∷ [])) = sym (records_push a.done x) in
    record {
      done = a.done ++ x ∷ [];
      split = append_assoc a.done (x ∷ []) rest ∙ ap (λ (xs : List NewVoucher). a.done ++ xs) (sym next) ∙ a.split;
      keeps = subst (λ (rs : List Record). KeepsRecords verifies v kept t rs z last s) more (keeps_more verifies v w z kept mid last t u s (records_of (vouchers_of a.done)) (OwnVoucher x.voucher ∷ []) a.stays a.keeps keeps);
      stays = stays ∙ a.stays;
      spare = omega (arith, a.spare, spare, ap length next);
      mine = subst (λ (rs : List Record). AddsMine ids rs ids_then) more (adds_more (records_of (vouchers_of a.done)) (OwnVoucher x.voucher ∷ []) ids ids_mid ids_then a.mine mine);
      mine_room = room_stays rest room room_then within (subst (λ (xs : List NewVoucher). HaveRoom xs room) next a.mine_room).1;
    }

-- before the first
pub none_added : {S : Type 0} (verifies : Verifies) (all left : List NewVoucher) (v : View S) (kept : Values) (t : Totals) (ids room : List (List ℕ)) → left ≡ all → length all ≤ v.voucher_room → HaveRoom all room → AddsMine ids [] ids → AreAdded verifies all left v v kept kept t t ids ids room
none_added verifies all left v kept t ids room same spare mine_room mine = subst (λ (xs : List NewVoucher). AreAdded verifies all xs v v kept kept t t ids ids room) (sym same) (record {
  done = [];
  split = refl;
  keeps = λ J k l. subst (λ (K : List Record). IsKeptOf K v kept t) (sym (append-nil J)) k;
  stays = refl;
  spare = spare;
  mine = mine;
  mine_room = mine_room;
})

-- after the last
pub record AllAdded {S : Type 0} (verifies : Verifies) (all : List NewVoucher) (v w : View S) (kept kept_then : Values) (t u : Totals) (ids ids_then : List (List ℕ)) : Type 0 where
  pub keeps : KeepsRecords verifies v kept t (records_of (vouchers_of all)) w kept_then u
  pub mine : AddsMine ids (records_of (vouchers_of all)) ids_then

pub all_added : {S : Type 0} (verifies : Verifies) (all left : List NewVoucher) (v w : View S) (kept kept_then : Values) (t u : Totals) (ids ids_then room : List (List ℕ)) → length left ≡ 0 → AreAdded verifies all left v w kept kept_then t u ids ids_then room → AllAdded verifies all v w kept kept_then t u ids ids_then
all_added verifies all left v w kept kept_then t u ids ids_then room none a =
    let done : a.done ≡ all = sym (append-nil a.done) ∙ ap (λ (xs : List NewVoucher). a.done ++ xs) (sym (none_left left none)) ∙ a.split in
    record {
      keeps = subst (λ (xs : List NewVoucher). KeepsRecords verifies v kept t (records_of (vouchers_of xs)) w kept_then u) done a.keeps;
      mine = subst (λ (xs : List NewVoucher). AddsMine ids (records_of (vouchers_of xs)) ids_then) done a.mine;
    }
