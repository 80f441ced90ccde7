-- What a bundle leaves out the reader has; the parents of what it sends the reader has, or the bundle sends earlier.
use Rattle.std.proofs.Common.{◌≡◌, ℕ, List, [], ◌∷◌, ◌++◌, false, refl, sym, ap, subst, ◌∙◌, inl, inr, ◌⊎◌, append_assoc}
use Rattle.std.specs.List.{flat_map}
use Rattle.std.proofs.lemmas.Grind.{flat_map-append}
use Rattle.std.proofs.lemmas.Bool.{cases_Bool}
use Rattle.depot_base.specs.declared.update.Update.{Update}
use Rattle.depot_base.specs.declared.statement.Signed.{Signed}
use Rattle.depot_base.specs.declared.record.Record.{Record}
use Rattle.depot_model.specs.lists.Lists.{IsIn}
use Rattle.depot_model.specs.updates.Order.{parents}
use Rattle.depot_model.specs.journals.Journal.{accepted, accepted_by, update_in}
use Rattle.depot_model.specs.exchange.Bundle.{Signs, Parcel, parcels, sent_for}
use Rattle.depot_model.specs.worlds.World.{Correct, World, IsWorld, IsAuthentic, IsCollisionFree}
use Rattle.depot_laws.specs.Rejoin.{updates_of, hello_at, bundle_at, Hears, HasOrGets}
use Rattle.depot_laws.proofs.lists.Splits.{none_splits}
use Rattle.depot_laws.proofs.records.Causes.{none_or_one}
use Rattle.depot_laws.proofs.exchanges.Parcels.{sent_in_front, sent_is_all, told_of_parcels, candidates_for, is_candidate_for, in_candidates}
use Rattle.depot_laws.proofs.exchanges.Meetings.{Meeting, not_sent, parents_first}

-- the place of the record that accepted one of the updates of a list
record AcceptsAt (rs : List Record) (front : List Update) (u : Update) : Type 0 where
  pub done : List Record
  pub by : Record
  pub more : List Record
  pub is : rs ≡ done ++ by ∷ more
  pub before : accepted done ≡ front
  pub given : IsIn u (accepted_by by)

accepts_behind : (r : Record) (rs : List Record) (front whole : List Update) (u : Update) → whole ≡ accepted_by r ++ front → AcceptsAt rs front u → AcceptsAt (r ∷ rs) whole u
accepts_behind r rs front whole u is a = record { done = r ∷ a.done; by = a.by; more = a.more; is = ap (λ (qs : List Record). r ∷ qs) a.is; before = ap (λ (us : List Update). accepted_by r ++ us) a.before ∙ sym is; given = a.given }

accepts_at : (rs : List Record) (front : List Update) (u : Update) (behind : List Update) → accepted rs ≡ front ++ u ∷ behind → AcceptsAt rs front u
accepts_at [] front u behind e = absurd (none_splits front u behind e)
accepts_at (r ∷ rs) front u behind e = elim (none_or_one r) [
  | inl none ↦ accepts_behind r rs front front u (ap (λ (us : List Update). us ++ front) (sym none)) (accepts_at rs front u behind (ap (λ (us : List Update). us ++ accepted rs) (sym none) ∙ e))
  | inr one ↦ one_here front (accepts_at rs) one.0 one.1 (sym (ap (λ (us : List Update). us ++ accepted rs) one.1) ∙ e)
] where
  one_here : (front : List Update) → ((front : List Update) (u : Update) (behind : List Update) → accepted rs ≡ front ++ u ∷ behind → AcceptsAt rs front u) → (t : Update) → accepted_by r ≡ t ∷ [] → t ∷ accepted rs ≡ front ++ u ∷ behind → AcceptsAt (r ∷ rs) front u
  one_here [] later t is e = let same : t ≡ u = cc in record { done = []; by = r; more = rs; is = refl; before = refl; given = subst (λ (us : List Update). IsIn u us) (sym is) (inl same) }
  one_here (x ∷ front) later t is e =
      let same : t ≡ x = cc in
      let rest : accepted rs ≡ front ++ u ∷ behind = cc in
      accepts_behind r rs front (x ∷ front) u (ap (λ (y : Update). y ∷ front) (sym same) ∙ ap (λ (us : List Update). us ++ front) (sym is)) (later front u behind rest)

module _ (W : World) (world : IsWorld W) (authentic : IsAuthentic W) (free : IsCollisionFree W) (a v : Correct) (sign : Signs) (P J : List Record) (hears : Hears W a v P J) where
  meeting : Meeting W a v J
  meeting = record { world = world; authentic = authentic; free = free; reader = hears.reader; sender = hears.sender; distinct = hears.distinct; since = hears.since; grown = hears.had }

  -- what the sender has is sent, or the reader has it
  pub all_is_sent : (bundle_at W a v sign P J).more ≡ false → (u : Update) → IsIn u (accepted J) → IsIn u (accepted a.journal) ⊎ IsIn u (updates_of (sent_for sign J (hello_at W a P)))
  all_is_sent whole u on = elim (cases_Bool (is_candidate_for J (hello_at W a P) u)) [
    | inl goes ↦ inr (subst (λ (us : List Update). IsIn u us) (sym (ap updates_of (sent_is_all v.node sign J (hello_at W a P) whole) ∙ told_of_parcels sign J (hello_at W a P))) (in_candidates J (hello_at W a P) u on goes))
    | inr stays ↦ inl (not_sent W a v J meeting P hears.later hears.hello_was u on stays)
  ]

  -- what is sent is before the candidates' updates
  sent_front : (front : List Update) (u : Update) (behind : List Update) → updates_of (sent_for sign J (hello_at W a P)) ≡ front ++ u ∷ behind → (more : List Update) × (accepted (candidates_for J (hello_at W a P)) ≡ front ++ u ∷ more)
  sent_front front u behind e =
      let f = sent_in_front sign J (hello_at W a P) in
      let whole : updates_of (parcels sign J (hello_at W a P)) ≡ updates_of (sent_for sign J (hello_at W a P)) ++ updates_of f.left =
      ap updates_of f.is ∙ flat_map-append (λ (x : Parcel). flat_map (λ (s : Signed). update_in s.statement) x.told) (sent_for sign J (hello_at W a P)) f.left in
      (behind ++ updates_of f.left, sym (told_of_parcels sign J (hello_at W a P)) ∙ whole ∙ ap (λ (us : List Update). us ++ updates_of f.left) e ∙ append_assoc front (u ∷ behind) (updates_of f.left))

  pub parents_are_sent : (front : List Update) (u : Update) (behind : List Update) → updates_of (sent_for sign J (hello_at W a P)) ≡ front ++ u ∷ behind → (h : List ℕ) → IsIn h (parents u) → HasOrGets a front h
  parents_are_sent front u behind e h parent =
      let s = sent_front front u behind e in
      let at = accepts_at (candidates_for J (hello_at W a P)) front u s.0 s.1 in
      let p = parents_first W a v J meeting P hears.later hears.hello_was at.done at.by at.more u at.is at.given h parent in
      record { parent = p.update; id = p.id; on = elim p.on [ inl had ↦ inl had | inr before ↦ inr (subst (λ (us : List Update). IsIn p.update us) at.before before) ] }
