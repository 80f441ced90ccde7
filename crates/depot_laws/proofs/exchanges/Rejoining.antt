-- The reader takes all frames of a bundle: the proofs, the vouchers, the candidates and the wanted values.
use Rattle.std.proofs.Common.{◌≡◌, ℕ, List, [], ◌∷◌, ◌++◌, map, Bool, true, false, cond, Option, None, Some, refl, sym, ap, subst, ◌∙◌, inl, inr}
use Rattle.std.specs.List.{flat_map}
use Rattle.std.proofs.lemmas.Grind.{flat_map-append}
use Rattle.std.proofs.lemmas.List.{map-append}
use Rattle.depot_base.specs.declared.voucher.Voucher.{Voucher}
use Rattle.depot_base.specs.declared.statement.Statement.TheVariants as statement
use Rattle.depot_base.specs.declared.proof.Proof.{Proof}
use Rattle.depot_base.specs.declared.record.Record.{Record}
use Rattle.depot_base.specs.declared.record.Record.TheVariants.{Birth, OwnPut, OwnVoucher, Foreign, Conviction, Held}
use Rattle.depot_model.specs.lists.Lists.{IsIn, is_among}
use Rattle.depot_model.specs.texts.Texts.{IsProof}
use Rattle.depot_model.specs.journals.Journal.{own, own_by, proof_by, value_by, held, value_with, vouched}
use Rattle.depot_model.specs.checks.Checks.{given_statement, given_proof}
use Rattle.depot_model.specs.checks.Vouching.{own_voucher_by, own_vouchers}
use Rattle.depot_model.specs.texts.Frames.{Frame}
use Rattle.depot_model.specs.exchange.Bundle.{Signs, signed_with, Parcel, wanted_parcel, value_frame, proof_frame, frames_of, voucher_frame}
use Rattle.depot_model.specs.worlds.World.{Correct, World, setting_of}
use Rattle.depot_laws.specs.Rejoin.{IsWellSigned}
use Rattle.depot_laws.proofs.lists.Splits.{given_by, given_too, flat_gives}
use Rattle.depot_laws.proofs.records.LawfulRecords.{IsProof-from_record}
use Rattle.depot_laws.proofs.convicting.GoodProofs.{IsGoodAt, new_is_good}
use Rattle.depot_laws.proofs.own_updates.OwnTexts.{own_statement_fits}
use Rattle.depot_laws.proofs.of_worlds.Worlds.{giver_in, value_hashed}
use Rattle.depot_laws.proofs.records.HeldValues.{held_is}
use Rattle.depot_laws.proofs.records.HeldValues.{value_with_is}
use Rattle.depot_laws.proofs.exchanges.Meetings.{Meeting, sender_lawful, reader_lawful, reader_authentic, reader_spares}
use Rattle.depot_laws.proofs.exchanges.Joining.{HasJoined, IsVoucherOf, proof_step, voucher_step}
use Rattle.depot_laws.proofs.exchanges.Arrivals.{voucher_after, vouched_more}
use Rattle.depot_laws.proofs.exchanges.Carrying.{proof_given, statement_given, IsSort}
use Rattle.depot_laws.proofs.exchanges.Candidates.{signed_is, signed_fits}

-- ---- the wanted values

-- the values of parcels
abbrev pub values_of : List Parcel → List (List ℕ)
values_of xs = flat_map (λ x. x.values) xs

-- one wanted value, or none
one_wanted : Option (List ℕ) → List Parcel
one_wanted None = []
one_wanted (Some x) = record { told = []; values = x ∷ [] } ∷ []

wanted_is : (J : List Record) (sent : List (List ℕ)) (h : List ℕ) → wanted_parcel J sent h ≡ one_wanted (cond (is_among h sent) None (value_with h (held J)))
unfolding one_wanted
wanted_is J sent h = by_option (cond (is_among h sent) None (value_with h (held J))) where
  by_option : (o : Option (List ℕ)) → (elim o as (λ x. List Parcel) [ None ↦ [] | Some v ↦ record { told = []; values = v ∷ [] } ∷ [] ]) ≡ one_wanted o
  by_option None = refl
  by_option (Some x) = refl

one_wanted_frames : (o : Option (List ℕ)) → flat_map frames_of (one_wanted o) ≡ map value_frame (values_of (one_wanted o))
unfolding one_wanted
one_wanted_frames None = refl
one_wanted_frames (Some x) = refl

-- the frames of wanted values
pub wanted_frames : (J : List Record) (sent hs : List (List ℕ)) → flat_map frames_of (flat_map (wanted_parcel J sent) hs) ≡ map value_frame (values_of (flat_map (wanted_parcel J sent) hs))
wanted_frames J sent [] = refl
wanted_frames J sent (h ∷ hs) =
    let here : flat_map frames_of (wanted_parcel J sent h) ≡ map value_frame (values_of (wanted_parcel J sent h)) = subst (λ (xs : List Parcel). flat_map frames_of xs ≡ map value_frame (values_of xs)) (sym (wanted_is J sent h)) (one_wanted_frames (cond (is_among h sent) None (value_with h (held J)))) in
    let rest = flat_map (wanted_parcel J sent) hs in
    flat_map-append frames_of (wanted_parcel J sent h) rest ∙ ap (λ (fs : List Frame). fs ++ flat_map frames_of rest) here ∙ ap (λ (fs : List Frame). map value_frame (values_of (wanted_parcel J sent h)) ++ fs) (wanted_frames J sent hs)
    ∙ sym (map-append value_frame (values_of (wanted_parcel J sent h)) (values_of rest)) ∙ ap (map value_frame) (sym (flat_map-append (λ (x : Parcel). x.values) (wanted_parcel J sent h) rest))

one_wanted_value : (o : Option (List ℕ)) (x : List ℕ) → IsIn x (values_of (one_wanted o)) → o ≡ Some x
unfolding one_wanted
one_wanted_value None x never = absurd never
one_wanted_value (Some y) x (inl same) = ap (λ (z : List ℕ). Some z) same
one_wanted_value (Some y) x (inr never) = absurd never

unblocked : (b : Bool) (o : Option (List ℕ)) (x : List ℕ) → cond b None o ≡ Some x → o ≡ Some x
unblocked true o x e = absurd cc
unblocked false o x e = e

-- each of them the sender held
pub wanted_value_on : (J : List Record) (sent hs : List (List ℕ)) (x : List ℕ) → IsIn x (values_of (flat_map (wanted_parcel J sent) hs)) → IsIn x (flat_map value_by J)
wanted_value_on J sent hs x on =
    let p = given_by (λ (y : Parcel). y.values) x (flat_map (wanted_parcel J sent) hs) on in
    let h = given_by (wanted_parcel J sent) p.by hs (giver_in (λ (y : Parcel). y.values) x (flat_map (wanted_parcel J sent) hs) p) in
    let in_one : IsIn x (values_of (wanted_parcel J sent h.by)) = flat_gives (λ (y : Parcel). y.values) x p.by (wanted_parcel J sent h.by) h.given p.given in
    let found = unblocked (is_among h.by sent) (value_with h.by (held J)) x (one_wanted_value _ x (subst (λ (ys : List Parcel). IsIn x (values_of ys)) (wanted_is J sent h.by) in_one)) in
    (value_with_is (flat_map value_by J) h.by x (sym (held_is h.by J) ∙ found)).on

-- ---- recorded proofs

conviction_is : (p : Proof) (r : Record) → IsIn p (proof_by r) → r ≡ Conviction p
conviction_is p (Conviction q) (inl same) = ap (λ (x : Proof). Conviction x) same
conviction_is p (Conviction q) (inr never) = absurd never
conviction_is p (Birth node h) never = absurd never
conviction_is p (OwnPut u value) never = absurd never
conviction_is p (OwnVoucher v) never = absurd never
conviction_is p (Foreign s) never = absurd never
conviction_is p (Held value) never = absurd never

pub voucher_is_own : (r : Record) (w : Voucher) → IsIn w (own_voucher_by r) → IsIn (statement.Voucher w) (own_by r)
voucher_is_own (OwnVoucher y) w (inl same) = inl (ap (λ (z : Voucher). statement.Voucher z) same)
voucher_is_own (OwnVoucher y) w (inr never) = absurd never
voucher_is_own (Birth node h) w never = absurd never
voucher_is_own (OwnPut u value) w never = absurd never
voucher_is_own (Foreign s) w never = absurd never
voucher_is_own (Conviction p) w never = absurd never
voucher_is_own (Held value) w never = absurd never

module _ (W : World) (a v : Correct) (K : List Record) (m : Meeting W a v K) where
  -- ---- before the first frame

  pub joined_first : HasJoined W a v K m a.journal
  joined_first = record {
    lawful = reader_lawful W a v K m;
    some = (m.world.correct a m.reader).begun;
    kept = λ u on. on;
    from = λ u on. inl on;
    hashed = λ x on. value_hashed W a x m.reader on;
    authentic = reader_authentic W a v K m;
    spares = reader_spares W a v K m;
  }

  -- ---- proofs

  -- what a recorded proof is
  pub record IsRecorded (p : Proof) : Type 0 where
    pub on : IsIn p (flat_map proof_by K)
    pub fits : IsProof p
    pub good : IsGoodAt (setting_of W v) p

  pub recorded : (p : Proof) → IsIn p (flat_map proof_by K) → IsRecorded p
  recorded p on =
      let g = given_by proof_by p K on in
      let is : K ≡ g.before ++ Conviction p ∷ g.after = g.is ∙ ap (λ (r : Record). g.before ++ r ∷ g.after) (conviction_is p g.by g.given) in
      let allowed = (sender_lawful W a v K m).each g.before (Conviction p) g.after is in
      record { on = on; fits = IsProof-from_record p allowed.text; good = new_is_good (setting_of W v) g.before p allowed.may }

  pub proof_sort : IsSort W a v K m proof_frame (λ p. given_proof p) (λ C p. IsRecorded p) (λ C p. Unit {0})
  proof_sort = record {
    gives = λ C p t. proof_given p t.fits;
    keeps = λ C more p t. t;
    stays = λ C more p t. t;
    steps = λ C p j t room. record { step = proof_step W a v K m C p j t.on t.fits t.good room; after = tt };
  }

  -- ---- vouchers

  pub own_voucher_is : (w : Voucher) → IsIn w (own_vouchers K) → IsIn (statement.Voucher w) (own K)
  own_voucher_is w on = let g = given_by own_voucher_by w K on in given_too own_voucher_by own_by w (statement.Voucher w) K g (voucher_is_own g.by w g.given)

  pub voucher_of : (sign : Signs) (w : Voucher) → IsIn w (own_vouchers K) → IsWellSigned W (signed_with sign (statement.Voucher w)) → IsVoucherOf W a v K m (signed_with sign (statement.Voucher w)) w
  voucher_of sign w on good =
      let mine = own_voucher_is w on in
      record {
        is = signed_is sign (statement.Voucher w);
        on = mine;
        fits = signed_fits sign (statement.Voucher w) (own_statement_fits (setting_of W v) K (statement.Voucher w) (sender_lawful W a v K m) mine) good.short;
        verified = good.verified;
      }

  pub voucher_sort : (sign : Signs) → IsSort W a v K m (voucher_frame sign) (λ w. given_statement (signed_with sign (statement.Voucher w))) (λ C w. IsVoucherOf W a v K m (signed_with sign (statement.Voucher w)) w) (λ C w. (h : List ℕ) → IsIn h w.ids → IsIn h (vouched C))
  voucher_sort sign = record {
    gives = λ C w t. statement_given (signed_with sign (statement.Voucher w)) t.fits;
    keeps = λ C more w t. t;
    stays = λ C more w t h named. vouched_more C more h (t h named);
    steps = λ C w j t room. record { step = voucher_step W a v K m C (signed_with sign (statement.Voucher w)) w j t room; after = voucher_after W a v K m C (signed_with sign (statement.Voucher w)) w j t };
  }
