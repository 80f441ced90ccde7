-- What a bundle sends: all that there is where nothing is left out, each candidate once, and a voucher for each update of another.
use Rattle.std.proofs.Common.{◌≡◌, ℕ, ◌+◌, ◌≤◌, ◌==◌, List, [], ◌∷◌, ◌++◌, map, length, Bool, true, false, not, cond, Option, Some, None, refl, sym, ap, subst, ◌∙◌, inl, inr, arith, length-append}
use Rattle.std.specs.List.{filter, flat_map}
use Rattle.std.proofs.lemmas.List.{append-nil}
use Rattle.std.proofs.lemmas.Grind.{flat_map-append}
use Rattle.std.proofs.lemmas.Bool.{ltb-false, eqb-true, false_from_ne_true, cases_Bool}
use Rattle.sha2.specs.Sha256.{sha256}
use Rattle.depot_base.specs.declared.update.Update.{Update}
use Rattle.depot_base.specs.declared.voucher.Voucher.{Voucher}
use Rattle.depot_base.specs.declared.statement.Statement.{Statement}
use Rattle.depot_base.specs.declared.statement.Statement.TheVariants as statement
use Rattle.depot_base.specs.declared.statement.Signed.{Signed}
use Rattle.depot_base.specs.declared.record.Record.{Record}
use Rattle.depot_base.specs.declared.record.Record.TheVariants.{Birth, OwnPut, OwnVoucher, Foreign, Conviction, Held}
use Rattle.depot_model.specs.declared.hello.Hello.{Hello}
use Rattle.depot_model.specs.lists.Lists.{IsIn, is_among}
use Rattle.depot_model.specs.texts.Texts.{id_of_update}
use Rattle.depot_model.specs.journals.Journal.{accepted, accepted_by, own, update_in, held, value_with}
use Rattle.depot_model.specs.checks.Vouching.{own_voucher_by, own_vouchers, is_mine_vouched, new_vouchers, records_of}
use Rattle.depot_model.specs.exchange.Bundle.{Signs, signed_with, signed_by, is_candidate, has_candidate, candidates, Parcel, candidate_parcel, candidate_parcels, wanted_parcel, hashes_of, parcels, sent_for, sent_foreign, unvouched, with_vouchers, bundle_of}
use Rattle.depot_model.proofs.lists.Members.{in_left, in_right, in_map, any_from, any_to, among_to, from_filter, in_filter}
use Rattle.depot_model.proofs.of_journals.BundleLaws.{fitting_is_longest}
use Rattle.depot_laws.specs.Rejoin.{updates_of}
use Rattle.depot_laws.proofs.lists.Splits.{given_by, flat_gives}
use Rattle.depot_laws.proofs.of_worlds.Worlds.{giver_in}
use Rattle.depot_laws.proofs.lists.Groups.{HasVoucher, vouchers_keep}

-- ---- nothing is left out

no_more : {X : Type 0} (xs : List X) → length xs ≤ 0 → xs ≡ []
no_more [] short = refl
no_more (x ∷ xs) short = absurd (omega (arith, short))

-- what is sent is before what is left
pub record IsFront (all sent : List Parcel) : Type 0 where
  pub left : List Parcel
  pub is : all ≡ sent ++ left

pub sent_in_front : (sign : Signs) (J : List Record) (h : Hello) → IsFront (parcels sign J h) (sent_for sign J h)
unfolding sent_for
sent_in_front sign J h = let l = fitting_is_longest 67108864 262144 (parcels sign J h) in record { left = l.left; is = l.prefix }

-- without more to send, all is sent
pub sent_is_all : (me : ℕ) (sign : Signs) (J : List Record) (h : Hello) → (bundle_of me sign J h).more ≡ false → sent_for sign J h ≡ parcels sign J h
unfolding bundle_of
sent_is_all me sign J h e =
    let f = sent_in_front sign J h in
    let few : length (parcels sign J h) ≤ length (sent_for sign J h) = ltb-false _ _ e in
    let whole : length (parcels sign J h) ≡ length (sent_for sign J h) + length f.left = ap length f.is ∙ length-append (sent_for sign J h) f.left in
    let none : f.left ≡ [] = no_more f.left (omega (arith, few, whole)) in
    sym (f.is ∙ ap (λ (xs : List Parcel). sent_for sign J h ++ xs) none ∙ append-nil (sent_for sign J h))

-- ---- the updates that are reported

told_by : (sign : Signs) (r : Record) → flat_map (λ (s : Signed). update_in s.statement) (signed_by sign r) ≡ accepted_by r
unfolding signed_with
told_by sign (Birth node h) = refl
told_by sign (OwnPut u value) = refl
told_by sign (OwnVoucher v) = refl
told_by sign (Foreign s) = append-nil (update_in s.statement)
told_by sign (Conviction p) = refl
told_by sign (Held value) = refl

told_of_candidates : (sign : Signs) (J : List Record) (hashes : List (List ℕ)) (rs : List Record) → updates_of (candidate_parcels sign J hashes rs) ≡ accepted rs
unfolding candidate_parcels
told_of_candidates sign J hashes [] = refl
told_of_candidates sign J hashes (r ∷ rs) =
    let here = told_by sign r in
    let rest = told_of_candidates sign J (map sha256 (candidate_parcel sign J hashes r).values ++ hashes) rs in
    cc

told_of_wanted : (J : List Record) (sent : List (List ℕ)) (hs : List (List ℕ)) → updates_of (flat_map (wanted_parcel J sent) hs) ≡ []
told_of_wanted J sent [] = refl
told_of_wanted J sent (h ∷ hs) =
    flat_map-append (λ (x : Parcel). flat_map (λ (s : Signed). update_in s.statement) x.told) (wanted_parcel J sent h) (flat_map (wanted_parcel J sent) hs)
    ∙ ap (λ (us : List Update). us ++ updates_of (flat_map (wanted_parcel J sent) hs)) (one (cond (is_among h sent) None (value_with h (held J)))) ∙ told_of_wanted J sent hs where
      one : (o : Option (List ℕ)) → updates_of (elim o as (λ x. List Parcel) [ None ↦ [] | Some v ↦ record { told = []; values = v ∷ [] } ∷ [] ]) ≡ []
      one None = refl
      one (Some v) = refl

-- the records of the candidates for a hello
abbrev pub candidates_for : List Record → Hello → List Record
candidates_for J h = candidates J (map (λ l. l.id) h.leaves) h.node

-- all that there is to say is said of the candidates
pub told_of_parcels : (sign : Signs) (J : List Record) (h : Hello) → updates_of (parcels sign J h) ≡ accepted (candidates_for J h)
unfolding parcels
told_of_parcels sign J h =
    let front = candidate_parcels sign J [] (candidates_for J h) in
    let wanted = flat_map (wanted_parcel J (hashes_of front)) h.wanted in
    flat_map-append (λ (x : Parcel). flat_map (λ (s : Signed). update_in s.statement) x.told) front wanted
    ∙ ap (λ (us : List Update). updates_of front ++ us) (told_of_wanted J (hashes_of front) h.wanted) ∙ append-nil (updates_of front)
    ∙ told_of_candidates sign J [] (candidates_for J h)

-- ---- candidates

-- the test of a candidate for a hello
abbrev pub is_candidate_for : List Record → Hello → Update → Bool
is_candidate_for J h u = is_candidate (accepted J) (map (λ l. l.id) h.leaves) h.node u

pub one_accepted : (r : Record) (t u : Update) → IsIn t (accepted_by r) → IsIn u (accepted_by r) → t ≡ u
one_accepted (Birth node h) t u never on = absurd never
one_accepted (OwnPut w value) t u (inl one) (inl two) = sym one ∙ two
one_accepted (OwnPut w value) t u (inl one) (inr never) = absurd never
one_accepted (OwnPut w value) t u (inr never) on = absurd never
one_accepted (OwnVoucher v) t u never on = absurd never
one_accepted (Foreign s) t u t_on u_on = of_statement s.statement t_on u_on where
  of_statement : (x : Statement) → IsIn t (update_in x) → IsIn u (update_in x) → t ≡ u
  of_statement (statement.Update w) (inl one) (inl two) = sym one ∙ two
  of_statement (statement.Update w) (inl one) (inr never) = absurd never
  of_statement (statement.Update w) (inr never) on = absurd never
  of_statement (statement.Voucher v) never on = absurd never
one_accepted (Conviction p) t u never on = absurd never
one_accepted (Held value) t u never on = absurd never

-- what a candidate's record accepts is a candidate
pub candidate_is : (J : List Record) (h : Hello) (r : Record) (u : Update) → IsIn r (candidates_for J h) → IsIn u (accepted_by r) → is_candidate_for J h u ≡ true
unfolding candidates
candidate_is J h r u on given =
    let f = from_filter (has_candidate J (map (λ l. l.id) h.leaves) h.node) r J on in
    let t = any_to (is_candidate_for J h) (accepted_by r) f.1 in
    subst (λ (x : Update). is_candidate_for J h x ≡ true) (one_accepted r t.0 u t.1.0 given) t.1.1

-- an accepted update that is a candidate is one of those of the candidates
pub in_candidates : (J : List Record) (h : Hello) (u : Update) → IsIn u (accepted J) → is_candidate_for J h u ≡ true → IsIn u (accepted (candidates_for J h))
unfolding candidates
in_candidates J h u on e =
    let g = given_by accepted_by u J on in
    let has : has_candidate J (map (λ l. l.id) h.leaves) h.node g.by ≡ true = any_from (is_candidate_for J h) u (accepted_by g.by) g.given e in
    flat_gives accepted_by u g.by (filter (has_candidate J (map (λ l. l.id) h.leaves) h.node) J) (in_filter (has_candidate J (map (λ l. l.id) h.leaves) h.node) g.by J (giver_in accepted_by u J g) has) g.given

-- ---- what vouchers leave as it was

none_told : {X : Type 0} (f : Record → List X) (vs : List Voucher) → ((v : Voucher) → f (OwnVoucher v) ≡ []) → flat_map f (records_of vs) ≡ []
none_told f [] each = refl
none_told f (v ∷ vs) each = ap (λ (xs : List _). xs ++ flat_map f (records_of vs)) (each v) ∙ none_told f vs each

-- a reading that vouchers show nothing of
pub same_with : {X : Type 0} (f : Record → List X) (J : List Record) (vs : List Voucher) → ((v : Voucher) → f (OwnVoucher v) ≡ []) → flat_map f (with_vouchers J vs) ≡ flat_map f J
same_with f J vs each = flat_map-append f J (records_of vs) ∙ ap (λ (xs : List _). flat_map f J ++ xs) (none_told f vs each) ∙ append-nil (flat_map f J)

-- ---- the vouchers of a bundle

vouchers_told : (vs : List Voucher) → flat_map own_voucher_by (records_of vs) ≡ vs
vouchers_told [] = refl
vouchers_told (v ∷ vs) = ap (λ (ws : List Voucher). v ∷ ws) (vouchers_told vs)

-- the own vouchers with new ones after
pub own_with : (J : List Record) (vs : List Voucher) → own_vouchers (with_vouchers J vs) ≡ own_vouchers J ++ vs
own_with J vs = flat_map-append own_voucher_by J (records_of vs) ∙ ap (λ (ws : List Voucher). own_vouchers J ++ ws) (vouchers_told vs)

-- Each id for which a bundle makes vouchers, unless one of them names it already, is named by an own voucher.
pub ids_are_vouched : (me : ℕ) (J : List Record) (xs : List Parcel) (h : List ℕ) → IsIn h (sent_foreign me xs) → HasVoucher h (own_vouchers (with_vouchers J (new_vouchers me J (unvouched me J xs))))
unfolding new_vouchers unvouched
ids_are_vouched me J xs h on = elim (cases_Bool (is_mine_vouched J h)) [
  | inl old ↦
      let v = any_to (λ (v : Voucher). is_among h v.ids) (own_vouchers J) old in
      let new = new_vouchers me J (unvouched me J xs) in
      record { voucher = v.0; on = subst (λ (ws : List Voucher). IsIn v.0 ws) (sym (own_with J new)) (in_left v.0 (own_vouchers J) new v.1.0); names = among_to h v.0.ids v.1.1 }
  | inr fresh ↦
      let new = new_vouchers me J (unvouched me J xs) in
      let v = vouchers_keep me (length (own J)) 256 (unvouched me J xs) h (in_filter (λ (i : List ℕ). not (is_mine_vouched J i)) h (sent_foreign me xs) on (ap not fresh)) in
      record { voucher = v.voucher; on = subst (λ (ws : List Voucher). IsIn v.voucher ws) (sym (own_with J new)) (in_right v.voucher (own_vouchers J) new v.on); names = v.names }
]

-- the id of a sent update of another is one of them
pub id_is_sent : (me : ℕ) (xs : List Parcel) (u : Update) → IsIn u (updates_of xs) → (u.writer ≡ me → ⊥) → IsIn (id_of_update u) (sent_foreign me xs)
unfolding sent_foreign
id_is_sent me xs u on other = in_map id_of_update u _ (in_filter (λ (t : Update). not (t.writer == me)) u (updates_of xs) on (ap not (false_from_ne_true _ (λ e. other (eqb-true _ _ e)))))
