-- A prefix of what there is to send: the first candidates, and where these are all, the first wanted values.
use Rattle.std.proofs.Common.{◌≡◌, ℕ, List, [], ◌∷◌, ◌++◌, map, cond, Option, Some, None, refl, sym, ap, subst, ◌∙◌, inl, inr, ◌⊎◌}
use Rattle.std.specs.List.{flat_map}
use Rattle.std.proofs.lemmas.Grind.{flat_map-append}
use Rattle.std.proofs.lemmas.List.{append-nil, map-append}
use Rattle.sha2.specs.Sha256.{sha256}
use Rattle.depot_base.specs.declared.record.Record.{Record}
use Rattle.depot_base.specs.declared.statement.Signed.{Signed}
use Rattle.depot_base.specs.declared.update.Update.{Update}
use Rattle.depot_model.specs.declared.hello.Hello.{Hello}
use Rattle.depot_model.specs.exchange.Bundle.{Parcel, Signs, candidate_parcel, candidate_parcels, frames_of, hashes_of, parcels, statement_frame, value_frame, wanted_parcel}
use Rattle.depot_model.specs.journals.Journal.{accepted, held, update_in, value_by, value_with}
use Rattle.depot_model.specs.lists.Lists.{IsIn, is_among}
use Rattle.depot_model.specs.texts.Frames.{Frame}
use Rattle.depot_laws.specs.Rejoin.{updates_of}
use Rattle.depot_laws.proofs.exchanges.Parcels.{candidates_for}
use Rattle.depot_laws.proofs.exchanges.Rejoining.{values_of, wanted_value_on}
use Rattle.depot_laws.proofs.lists.Splits.{flat_gives, given_by}
use Rattle.depot_laws.proofs.of_worlds.Worlds.{giver_in}
use Rattle.depot_gossip.proofs.WithinLaws.{told_of}

-- ---- lists

-- a prefix of two lists is one of the first, or all of it and one of the second
data IsCutIn {X : Type 0} (ws bs xs ys : List X) : Type 0 where
  cut_first : (zs : List X) → ws ≡ xs ++ zs → IsCutIn ws bs xs ys
  cut_second : (zs : List X) → xs ≡ ws ++ zs → bs ≡ zs ++ ys → IsCutIn ws bs xs ys

cut_in : {X : Type 0} (ws bs xs ys : List X) → ws ++ bs ≡ xs ++ ys → IsCutIn ws bs xs ys
cut_in [] bs xs ys e = cut_second xs refl e
cut_in (a ∷ ws) bs [] ys e = cut_first (a ∷ ws) refl
cut_in {X} (a ∷ ws) bs (x ∷ xs) ys e = with_first (cut_in ws bs xs ys cc) where
  same : a ≡ x
  same = cc

  with_first : IsCutIn ws bs xs ys → IsCutIn (a ∷ ws) bs (x ∷ xs) ys
  with_first (cut_first zs is) = cut_first zs (ap (λ (y : X). y ∷ ws) same ∙ ap (λ (rest : List X). x ∷ rest) is)
  with_first (cut_second zs is behind) = cut_second zs (ap (λ (rest : List X). x ∷ rest) is ∙ ap (λ (y : X). y ∷ (ws ++ zs)) (sym same)) behind

-- ---- candidates

-- the parcels of the first of some candidates
pub record AreOfFirst (sign : Signs) (J : List Record) (hashes : List (List ℕ)) (rs : List Record) (xs : List Parcel) : Type 0 where
  pub chosen : List Record
  pub left : List Record
  pub cut : rs ≡ chosen ++ left
  pub are : xs ≡ candidate_parcels sign J hashes chosen

first_of : (sign : Signs) (J : List Record) (hashes : List (List ℕ)) (rs : List Record) (xs ys : List Parcel) → candidate_parcels sign J hashes rs ≡ xs ++ ys → AreOfFirst sign J hashes rs xs
unfolding candidate_parcels
first_of sign J hashes rs [] ys e = record { chosen = []; left = rs; cut = refl; are = refl }
first_of sign J hashes [] (x ∷ xs) ys e = absurd cc
first_of sign J hashes (r ∷ rs) (x ∷ xs) ys e =
    let one = candidate_parcel sign J hashes r in
    let same : one ≡ x = cc in
    let rest : candidate_parcels sign J (map sha256 one.values ++ hashes) rs ≡ xs ++ ys = cc in
    let f = first_of sign J (map sha256 one.values ++ hashes) rs xs ys rest in
    record {
      chosen = r ∷ f.chosen;
      left = f.left;
      cut = ap (λ (qs : List Record). r ∷ qs) f.cut;
      are = ap (λ (z : Parcel). z ∷ xs) (sym same) ∙ ap (λ (zs : List Parcel). one ∷ zs) f.are;
    }

-- the parcels of candidates report their updates
told_by_parcels : (sign : Signs) (J : List Record) (hashes : List (List ℕ)) (rs : List Record) → updates_of (candidate_parcels sign J hashes rs) ≡ accepted rs
unfolding candidate_parcels
told_by_parcels sign J hashes [] = refl
told_by_parcels sign J hashes (r ∷ rs) =
    let here = told_of sign r in
    let rest = told_by_parcels sign J (map sha256 (candidate_parcel sign J hashes r).values ++ hashes) rs in
    cc

-- ---- wanted values

-- the parcels of the wanted values of a hello, behind those of all candidates
abbrev pub wanted_parcels : Signs → List Record → Hello → List Parcel
wanted_parcels sign J h = flat_map (wanted_parcel J (hashes_of (candidate_parcels sign J [] (candidates_for J h)))) h.wanted

wanted_tells : (J : List Record) (sent : List (List ℕ)) (id : List ℕ) (y : Parcel) → IsIn y (wanted_parcel J sent id) → y.told ≡ []
wanted_tells J sent id y on = by_option (cond (is_among id sent) None (value_with id (held J))) on where
  by_option : (o : Option (List ℕ)) → IsIn y (elim o as (λ x. List Parcel) [ None ↦ [] | Some v ↦ record { told = []; values = v ∷ [] } ∷ [] ]) → y.told ≡ []
  by_option None never = absurd never
  by_option (Some v) (inl same) = ap (λ (z : Parcel). z.told) (sym same)
  by_option (Some v) (inr never) = absurd never

-- they report no update
tells_none : (sign : Signs) (J : List Record) (h : Hello) (y : Parcel) → IsIn y (wanted_parcels sign J h) → y.told ≡ []
tells_none sign J h y on =
    let sent = hashes_of (candidate_parcels sign J [] (candidates_for J h)) in
    let g = given_by (wanted_parcel J sent) y h.wanted on in
    wanted_tells J sent g.by y g.given

frames_alone : (ys : List Parcel) → ((y : Parcel) → IsIn y ys → y.told ≡ []) → flat_map frames_of ys ≡ map value_frame (values_of ys)
frames_alone [] each = refl
frames_alone (y ∷ ys) each =
    let rest = frames_alone ys (λ z on. each z (inr on)) in
    ap (λ (ts : List Signed). (map statement_frame ts ++ map value_frame y.values) ++ flat_map frames_of ys) (each y (inl refl))
    ∙ ap (λ (fs : List Frame). map value_frame y.values ++ fs) rest ∙ sym (map-append value_frame y.values (values_of ys))

updates_none : (ys : List Parcel) → ((y : Parcel) → IsIn y ys → y.told ≡ []) → updates_of ys ≡ []
updates_none [] each = refl
updates_none (y ∷ ys) each =
    ap (λ (ts : List Signed). flat_map (λ (s : Signed). update_in s.statement) ts ++ updates_of ys) (each y (inl refl)) ∙ updates_none ys (λ z on. each z (inr on))

-- ---- the cut

-- What is sent are the parcels of the chosen candidates, and then values that are wanted; where some of these are sent,
-- all candidates are chosen.
pub record IsCutParcels (sign : Signs) (J : List Record) (h : Hello) (xs : List Parcel) : Type 0 where
  pub chosen : List Record
  pub left : List Record
  pub cut : candidates_for J h ≡ chosen ++ left
  pub wanted : List Parcel
  pub are : xs ≡ candidate_parcels sign J [] chosen ++ wanted
  pub of_wanted : (y : Parcel) → IsIn y wanted → IsIn y (wanted_parcels sign J h)
  pub all : (wanted ≡ []) ⊎ (left ≡ [])

in_first : {X : Type 0} (x : X) (xs ys zs : List X) → zs ≡ xs ++ ys → IsIn x xs → IsIn x zs
in_first {X} x xs ys zs is on = subst (λ (ws : List X). IsIn x ws) (sym is) (front xs on) where
  front : (ws : List X) → IsIn x ws → IsIn x (ws ++ ys)
  front [] never = absurd never
  front (w ∷ ws) (inl here) = inl here
  front (w ∷ ws) (inr there) = inr (front ws there)

cut_by : (sign : Signs) (J : List Record) (h : Hello) (xs ys : List Parcel) → IsCutIn (candidate_parcels sign J [] (candidates_for J h)) (wanted_parcels sign J h) xs ys → IsCutParcels sign J h xs
cut_by sign J h xs ys (cut_first zs is) =
    let f = first_of sign J [] (candidates_for J h) xs zs is in
    record { chosen = f.chosen; left = f.left; cut = f.cut; wanted = []; are = f.are ∙ sym (append-nil (candidate_parcels sign J [] f.chosen)); of_wanted = λ y never. absurd never; all = inl refl }
cut_by sign J h xs ys (cut_second zs is behind) = record {
  chosen = candidates_for J h;
  left = [];
  cut = sym (append-nil (candidates_for J h));
  wanted = zs;
  are = is;
  of_wanted = λ y on. in_first y zs ys (wanted_parcels sign J h) behind on;
  all = inr refl;
}

pub cut_parcels : (sign : Signs) (J : List Record) (h : Hello) (xs ys : List Parcel) → parcels sign J h ≡ xs ++ ys → IsCutParcels sign J h xs
unfolding parcels
cut_parcels sign J h xs ys e = cut_by sign J h xs ys (cut_in (candidate_parcels sign J [] (candidates_for J h)) (wanted_parcels sign J h) xs ys e)

module _ (sign : Signs) (J : List Record) (h : Hello) (xs : List Parcel) (c : IsCutParcels sign J h xs) where
  told_nothing : (y : Parcel) → IsIn y c.wanted → y.told ≡ []
  told_nothing y on = tells_none sign J h y (c.of_wanted y on)

  -- the frames of what is sent
  pub cut_frames : flat_map frames_of xs ≡ flat_map frames_of (candidate_parcels sign J [] c.chosen) ++ map value_frame (values_of c.wanted)
  cut_frames =
      ap (flat_map frames_of) c.are ∙ flat_map-append frames_of (candidate_parcels sign J [] c.chosen) c.wanted
      ∙ ap (λ (fs : List Frame). flat_map frames_of (candidate_parcels sign J [] c.chosen) ++ fs) (frames_alone c.wanted told_nothing)

  -- each wanted value that is sent the asked one held
  pub cut_value_on : (x : List ℕ) → IsIn x (values_of c.wanted) → IsIn x (flat_map value_by J)
  cut_value_on x on =
      let g = given_by (λ (y : Parcel). y.values) x c.wanted on in
      let there = c.of_wanted g.by (giver_in (λ (y : Parcel). y.values) x c.wanted g) in
      wanted_value_on J (hashes_of (candidate_parcels sign J [] (candidates_for J h))) h.wanted x (flat_gives (λ (y : Parcel). y.values) x g.by (wanted_parcels sign J h) there g.given)

  -- the updates that are sent are those of the chosen candidates
  pub cut_updates : updates_of xs ≡ accepted c.chosen
  cut_updates =
      ap updates_of c.are ∙ flat_map-append (λ (x : Parcel). flat_map (λ (s : Signed). update_in s.statement) x.told) (candidate_parcels sign J [] c.chosen) c.wanted
      ∙ ap (λ (us : List Update). updates_of (candidate_parcels sign J [] c.chosen) ++ us) (updates_none c.wanted told_nothing) ∙ append-nil (updates_of (candidate_parcels sign J [] c.chosen)) ∙ told_by_parcels sign J [] c.chosen
