-- The reader takes the candidates of a bundle, each with the values after it.
use Rattle.std.proofs.Common.{◌≡◌, ℕ, ◌==◌, List, [], ◌∷◌, ◌++◌, map, true, not, Some, refl, sym, ap, subst, ◌∙◌, inl, inr, ◌⊎◌, append_assoc}
use Rattle.std.specs.List.{AllByRecursion, flat_map}
use Rattle.std.proofs.lemmas.Bool.{both_ways, eq-eqb, and_parts}
use Rattle.sha2.specs.Sha256.{sha256}
use Rattle.depot_base.specs.Statement.{writer_of}
use Rattle.depot_base.specs.declared.update.Update.{Update}
use Rattle.depot_base.specs.declared.statement.Statement.{Statement}
use Rattle.depot_base.specs.declared.statement.Statement.TheVariants as statement
use Rattle.depot_base.specs.declared.statement.Signed.{Signed}
use Rattle.depot_base.specs.declared.record.Record.{Record}
use Rattle.depot_model.specs.declared.hello.HelloLeaf.{HelloLeaf}
use Rattle.depot_model.specs.lists.Lists.{IsIn, is_among}
use Rattle.depot_model.specs.texts.Texts.{IsSigned, id_of_update}
use Rattle.depot_model.specs.updates.Order.{parents}
use Rattle.depot_model.specs.texts.Roster.{has_node, is_signed}
use Rattle.depot_model.specs.journals.Journal.{accepted, accepted_by, own, own_by, value_by, vouched, is_vouched, held_as}
use Rattle.depot_model.specs.checks.Checks.{Setting, Sight, given_statement, given_value, sight, content_checks, growth}
use Rattle.depot_model.specs.texts.Contents.{NamedValue, values_named}
use Rattle.depot_model.specs.texts.Frames.{Frame}
use Rattle.depot_model.specs.exchange.Bundle.{Signs, signed_with, signed_by, has_candidate, candidates, values_behind, candidate_parcel, candidate_parcels, statement_frame, value_frame, frames_of}
use Rattle.depot_model.specs.exchange.Hello.{hello_of}
use Rattle.depot_model.specs.worlds.World.{Correct, World, setting_of}
use Rattle.depot_model.proofs.lists.Members.{in_right, in_parts, from_map, any_from, any_to, among_from, from_filter}
use Rattle.depot_base.proofs.GeneralLaws.{flat_push, all_both}
use Rattle.depot_laws.specs.Rejoin.{hello_at, IsWellSigned}
use Rattle.depot_laws.proofs.lists.Splits.{given_by, flat_left, flat_gives}
use Rattle.depot_laws.proofs.lists.Tests.{fails_from_not}
use Rattle.depot_laws.proofs.records.Taken.{AllNone, HasId}
use Rattle.depot_laws.proofs.records.Causes.{lawful_is_causal}
use Rattle.depot_laws.proofs.convicting.Contrary.{kept_is_signed, kept_is_genuine}
use Rattle.depot_laws.proofs.own_updates.OwnSteps.{own_writer}
use Rattle.depot_laws.proofs.orders.ChainLaws.{foreign_writer}
use Rattle.depot_laws.proofs.own_updates.OwnTexts.{own_statement_fits}
use Rattle.depot_laws.proofs.orders.SamePasts.{same_sight}
use Rattle.depot_laws.proofs.records.WantedValues.{wanted_over, wanted_by, value_fits}
use Rattle.depot_laws.proofs.records.HeldValues.{held_as_is}
use Rattle.depot_laws.proofs.of_worlds.Worlds.{in_split}
use Rattle.depot_laws.proofs.exchanges.Parcels.{candidates_for, is_candidate_for, candidate_is, one_accepted}
use Rattle.depot_laws.proofs.exchanges.Meetings.{Meeting, sender_lawful, sender_write, one_of_writes, left_at, parents_first}
use Rattle.depot_laws.proofs.exchanges.Joining.{HasJoined}
use Rattle.depot_laws.proofs.exchanges.Arrivals.{Comes, update_step, update_after, joined_write, vouched_more, IsValueFor, value_step, value_after, one_value}
use Rattle.depot_laws.proofs.exchanges.PlainFrames.{IsPlainFrame, plain_statement, plain_value, all_mapped}
use Rattle.depot_laws.proofs.exchanges.Carrying.{statement_given, value_given, taking, RoomFor, taking_append, room_front, room_behind, kept_by_taking, taking_given, room_given, AreCarried, carry_none, carry_more, carry_append, IsSort, carry_each}
use Rattle.depot_laws.proofs.exchanges.Candidates.{signed_fits, IsSource, IsTold, told_of, behind_is, HasValue, behind_has}

-- ---- readings of more records

-- what a reading has it has after frames
pub read_behind : {X : Type 0} (f : Record → List X) (x : X) (here : Setting) (C : List Record) (fs : List Frame) → IsIn x (flat_map f C) → IsIn x (flat_map f (taking here C fs))
read_behind f x here C fs on = kept_by_taking (λ (D : List Record). IsIn x (flat_map f D)) (flat_left f x) here C fs on

pub vouched_behind : (h : List ℕ) (here : Setting) (C : List Record) (fs : List Frame) → IsIn h (vouched C) → IsIn h (vouched (taking here C fs))
vouched_behind h here C fs on = kept_by_taking (λ (D : List Record). IsIn h (vouched D)) (λ D more. vouched_more D more h) here C fs on

module _ (W : World) (a v : Correct) (K : List Record) (m : Meeting W a v K) where
  -- ---- values

  -- values are one sort of frames
  pub value_sort : IsSort W a v K m value_frame (λ x. given_value x) (IsValueFor W a v K m) (λ D x. IsIn x (flat_map value_by D))
  value_sort = record {
    gives = λ C x t. value_given x t.fits;
    keeps = λ C more x t. record { on = t.on; fits = t.fits; wanted = wanted_over (accepted C) (accepted (C ++ more)) (sha256 x) _ (λ u on. flat_left accepted_by u C more on) t.wanted };
    stays = λ C more x on. flat_left value_by x C more on;
    steps = λ C x j t room. record { step = value_step W a v K m C x j t room; after = value_after W a v K m C x j t };
  }

-- The reader a made its hello when its journal was P. The sender v makes its bundle when its journal is J; K are these
-- records with the bundle's vouchers after them. The sender's own statements among these frames are well signed.
module _ (W : World) (a v : Correct) (P later : List Record) (hello_was : a.journal ≡ P ++ later) (J vouchers : List Record) (sent : Meeting W a v J) (m : Meeting W a v (J ++ vouchers))
    (sign : Signs) (all : List Frame) (signs : (s : Statement) → IsIn s (own (J ++ vouchers)) → IsIn (statement_frame (signed_with sign s)) all → IsWellSigned W (signed_with sign s)) where
  -- what the reader has when it comes to a candidate: all before it is accepted, each candidate of another is vouched,
  -- and the values with these hashes are there
  pub record IsReady (C done : List Record) (hashes : List (List ℕ)) : Type 0 where
    pub joined : HasJoined W a v (J ++ vouchers) m C
    pub vouches : (u : Update) → IsIn u (accepted (candidates_for J (hello_at W a P))) → (u.writer ≡ v.node → ⊥) → IsIn (id_of_update u) (vouched C)
    pub accepts : (u : Update) → IsIn u (accepted done) → IsIn u (accepted C)
    pub has : (h : List ℕ) → IsIn h hashes → HasValue (flat_map value_by C) h

  -- ---- a candidate comes

  -- what is known of the statement of a candidate
  record IsGood (u : Update) (s : Signed) : Type 0 where
    pub fits : IsSigned s
    pub known : has_node W.listed u.writer ≡ true
    pub verified : is_signed W.verifies W.listed s ≡ true

  there : Setting
  there = setting_of W v

  source_is_good : (u : Update) (s : Signed) → s.statement ≡ statement.Update u → IsSource sign J u s → IsIn (statement_frame s) all → IsGood u s
  source_is_good u s is (inl own_one) framed =
      let l = sender_lawful W a v J sent in
      let st = statement.Update u in
      let good : IsWellSigned W (signed_with sign st) = signs st (flat_left own_by st J vouchers own_one.0) (subst (λ (x : Signed). IsIn (statement_frame x) all) own_one.1 framed) in
      let writer : u.writer ≡ v.node = own_writer (setting_of W v) J l st own_one.0 in
      record {
        fits = subst (λ (x : Signed). IsSigned x) (sym own_one.1) (signed_fits sign st (own_statement_fits (setting_of W v) J st l own_one.0) good.short);
        known = subst (λ (n : ℕ). has_node W.listed n ≡ true) (sym writer) (sent.world.correct v sent.sender).member;
        verified = subst (λ (x : Signed). is_signed W.verifies W.listed x ≡ true) (sym own_one.1) good.verified;
      }
  source_is_good u s is (inr other) framed =
      let l = sender_lawful W a v J sent in
      let genuine = kept_is_genuine (setting_of W v) J s l other in
      record {
        fits = kept_is_signed (setting_of W v) J s l other;
        known = subst (λ (x : Statement). has_node W.listed (writer_of x) ≡ true) is genuine.known;
        verified = genuine.signed;
      }

  not_reader : (r : Record) (u : Update) → IsIn r (candidates_for J (hello_at W a P)) → IsIn u (accepted_by r) → u.writer ≡ a.node → ⊥
  unfolding hello_of
  not_reader r u on given same =
      let c = candidate_is J (hello_at W a P) r u on given in
      both_ways (u.writer == a.node) (fails_from_not _ (and_parts (not (u.writer == a.node)) _ c).0) (eq-eqb u.writer a.node same)

  -- what the parents find at the reader
  parents_there : (C done : List Record) (hashes : List (List ℕ)) (r : Record) (rs : List Record) (u : Update) → IsReady C done hashes → candidates_for J (hello_at W a P) ≡ done ++ r ∷ rs → IsIn u (accepted_by r) → (h : List ℕ) → IsIn h (parents u) → HasId (accepted C) h
  parents_there C done hashes r rs u ready split given h parent =
      let p = parents_first W a v J sent P later hello_was done r rs u split given h parent in
      record { update = p.update; on = elim p.on [ inl had ↦ ready.joined.kept p.update had | inr before ↦ ready.accepts p.update before ]; id = p.id }

  candidate_accepted : (r : Record) (u : Update) → IsIn r (candidates_for J (hello_at W a P)) → IsIn u (accepted_by r) → IsIn u (accepted J)
  unfolding candidates
  candidate_accepted r u on given = flat_gives accepted_by u r J (from_filter (has_candidate J (map (λ (l : HelloLeaf). l.id) (hello_at W a P).leaves) (hello_at W a P).node) r J on).0 given

  vouched_test : (C : List Record) (u : Update) → IsIn (id_of_update u) (vouched C) → is_vouched C (statement.Update u) ≡ true
  unfolding is_vouched
  vouched_test C u on = any_from (λ (t : Update). is_among (id_of_update t) (vouched C)) u (u ∷ []) (inl refl) (among_from (id_of_update u) (vouched C) on)

  source_there : (C : List Record) (u : Update) (s : Signed) → s.statement ≡ statement.Update u → IsSource sign J u s → ((u.writer ≡ v.node → ⊥) → IsIn (id_of_update u) (vouched C)) → IsIn (statement.Update u) (own (J ++ vouchers)) ⊎ ((is_vouched C (statement.Update u) ≡ true) × (u.writer ≡ v.node → ⊥))
  source_there C u s is (inl own_one) vouches = inl (flat_left own_by (statement.Update u) J vouchers own_one.0)
  source_there C u s is (inr other) vouches =
      let not_sender : u.writer ≡ v.node → ⊥ = λ same. foreign_writer (setting_of W v) J s (sender_lawful W a v J sent) other (ap writer_of is ∙ same) in
      inr (vouched_test C u (vouches not_sender), not_sender)

  comes : (C done : List Record) (hashes : List (List ℕ)) (r : Record) (rs : List Record) (u : Update) → IsReady C done hashes → candidates_for J (hello_at W a P) ≡ done ++ r ∷ rs → IsIn u (accepted_by r) → (t : IsTold (setting_of W v) sign J r u) → IsIn (statement_frame t.told) all → Comes W a v (J ++ vouchers) m C t.told u
  comes C done hashes r rs u ready split given t framed =
      let good = source_is_good u t.told t.is t.source framed in
      let r_on : IsIn r (candidates_for J (hello_at W a P)) = subst (λ (qs : List Record). IsIn r qs) (sym split) (in_right r done (r ∷ rs) (inl refl)) in
      let seen : sight (accepted C) u ≡ sight (accepted t.before) u = same_sight (accepted C) (accepted t.before) u
      (λ x y x_on y_on e. one_of_writes W a v J sent x y (joined_write W a v (J ++ vouchers) m C x ready.joined x_on) (sender_write W a v J sent y (t.within y y_on)) e)
      (lawful_is_causal (setting_of W a) C ready.joined.lawful) (lawful_is_causal (setting_of W v) t.before t.lawful)
      (parents_there C done hashes r rs u ready split given) t.joins.there in
      record {
        is = t.is;
        fits = good.fits;
        known = good.known;
        verified = good.verified;
        other = not_reader r u r_on given;
        content = subst (λ (x : Sight). AllNone (content_checks u x)) (sym seen) t.content;
        on = flat_left accepted_by u J vouchers (candidate_accepted r u r_on given);
        source = source_there C u t.told t.is t.source (ready.vouches u (flat_gives accepted_by u r (candidates_for J (hello_at W a P)) r_on given));
      }

  -- ---- the values after a candidate

  -- the names of its values
  abbrev names_of : Record → List NamedValue
  names_of r = flat_map values_named (accepted_by r)

  name_is : (r : Record) (u : Update) (n : NamedValue) → IsIn u (accepted_by r) → IsIn n (names_of r) → IsIn n (values_named u)
  name_is r u n given on = let g = given_from values_named n (accepted_by r) on in subst (λ (t : Update). IsIn n (values_named t)) (one_accepted r g.0 u g.1.0 given) g.1.1 where
    given_from : (f : Update → List NamedValue) (n : NamedValue) (us : List Update) → IsIn n (flat_map f us) → (t : Update) × (IsIn t us × IsIn n (f t))
    given_from f n us on = let g = given_by f n us on in (g.by, (in_split g.before g.by g.after us g.is, g.given))

  -- each of them the sender held, and the candidate names it
  value_is_for : (D : List Record) (hashes : List (List ℕ)) (r : Record) (u : Update) (x : List ℕ) → IsIn u (accepted_by r) → IsIn u (accepted D) → IsIn x (values_behind J hashes (names_of r)) → IsValueFor W a v (J ++ vouchers) m D x
  value_is_for D hashes r u x given here on =
      let b = behind_is J hashes (names_of r) x on in
      let n = held_as_is J b.name x b.held in
      record {
        on = flat_left value_by x J vouchers n.on;
        fits = value_fits (setting_of W v) J x (sender_lawful W a v J sent) n.on;
        wanted = wanted_by (accepted D) u b.name x here (name_is r u b.name given b.on) n.hash n.size;
      }

  -- the update of a candidate's record
  candidate_update : (r : Record) → IsIn r (candidates_for J (hello_at W a P)) → (u : Update) × IsIn u (accepted_by r)
  unfolding candidates
  candidate_update r on =
      let f = from_filter (has_candidate J (map (λ (l : HelloLeaf). l.id) (hello_at W a P).leaves) (hello_at W a P).node) r J on in
      let t = any_to (is_candidate_for J (hello_at W a P)) (accepted_by r) f.1 in
      (t.0, t.1.0)

  -- ---- the candidates in their order

  -- the frames of a candidate before others
  parcel_frames : (hashes : List (List ℕ)) (r : Record) (t : Signed) (rest : List Frame) → signed_by sign r ≡ t ∷ [] → frames_of (candidate_parcel sign J hashes r) ++ rest ≡ statement_frame t ∷ (map value_frame (values_behind J hashes (names_of r)) ++ rest)
  parcel_frames hashes r t rest tells = ap (λ (ts : List Signed). (map statement_frame ts ++ map value_frame (values_behind J hashes (names_of r))) ++ rest) tells

  -- they are plain frames
  pub candidates_are_plain : (done : List Record) (hashes : List (List ℕ)) (rs : List Record) → candidates_for J (hello_at W a P) ≡ done ++ rs → ((f : Frame) → IsIn f (flat_map frames_of (candidate_parcels sign J hashes rs)) → IsIn f all) → AllByRecursion IsPlainFrame (flat_map frames_of (candidate_parcels sign J hashes rs))
  unfolding candidate_parcels candidates
  candidates_are_plain done hashes [] split framed = tt
  candidates_are_plain done hashes (r ∷ rs) split framed =
      let u = candidate_update r (subst (λ (qs : List Record). IsIn r qs) (sym split) (in_right r done (r ∷ rs) (inl refl))) in
      let l = left_at (has_candidate J (map (λ (k : HelloLeaf). k.id) (hello_at W a P).leaves) (hello_at W a P).node) J done r rs split in
      let t = told_of (setting_of W v) sign J l.before r u.0 l.after (sender_lawful W a v J sent) l.is u.1 in
      let xs = values_behind J hashes (names_of r) in
      let rest = flat_map frames_of (candidate_parcels sign J (map sha256 xs ++ hashes) rs) in
      let shape = parcel_frames hashes r t.told rest t.tells in
      let good = source_is_good u.0 t.told t.is t.source (framed (statement_frame t.told) (subst (λ (fs : List Frame). IsIn (statement_frame t.told) fs) (sym shape) (inl refl))) in
      let values : AllByRecursion IsPlainFrame (map value_frame xs) = all_mapped value_frame xs (λ x on. plain_value x (value_fits (setting_of W v) J x (sender_lawful W a v J sent) (held_as_is J _ x (behind_is J hashes (names_of r) x on).held).on)) in
      let later = candidates_are_plain (done ++ r ∷ []) (map sha256 xs ++ hashes) rs (split ∙ sym (append_assoc done (r ∷ []) rs)) (λ f on. framed f (in_right f (frames_of (candidate_parcel sign J hashes r)) rest on)) in
      subst (λ (fs : List Frame). AllByRecursion IsPlainFrame fs) (sym shape) (plain_statement t.told good.fits, all_both IsPlainFrame (map value_frame xs) rest values later)

  -- what is so after these frames, which are those of these candidates
  pub record AreSent (C : List Record) (fs : List Frame) (rs : List Record) : Type 0 where
    pub carried : AreCarried W a v (J ++ vouchers) m C fs
    pub accepts : (u : Update) → IsIn u (accepted rs) → IsIn u (accepted (taking (setting_of W a) C fs))
    pub holds : (u : Update) (n : NamedValue) (x : List ℕ) → IsIn u (accepted rs) → IsIn n (values_named u) → held_as J n ≡ Some x → IsIn x (flat_map value_by (taking (setting_of W a) C fs))

  -- the value of a name that was sent before is there
  sent_value : (C : List Record) (h : List ℕ) (n : NamedValue) (x : List ℕ) → HasJoined W a v (J ++ vouchers) m C → HasValue (flat_map value_by C) n.hash → held_as J n ≡ Some x → IsIn x (flat_map value_by C)
  sent_value C h n x j y held =
      let is = held_as_is J n x held in
      let same : y.value ≡ x = one_value W a v (J ++ vouchers) m y.value x (j.hashed y.value y.on) (flat_left value_by x J vouchers is.on) (y.hash ∙ sym is.hash) in
      subst (λ (z : List ℕ). IsIn z (flat_map value_by C)) same y.on

  one_more_ready : (C done : List Record) (hashes : List (List ℕ)) (r : Record) (u : Update) (D E : List Record) (xs : List (List ℕ)) → IsReady C done hashes → IsIn u (accepted_by r)
      → HasJoined W a v (J ++ vouchers) m E → ((h : List ℕ) → IsIn h (vouched C) → IsIn h (vouched E)) → ((t : Update) → IsIn t (accepted C) → IsIn t (accepted E)) → IsIn u (accepted E) → ((x : List ℕ) → IsIn x (flat_map value_by C) → IsIn x (flat_map value_by E)) → ((x : List ℕ) → IsIn x xs → IsIn x (flat_map value_by E))
      → IsReady E (done ++ r ∷ []) (map sha256 xs ++ hashes)
  one_more_ready C done hashes r u D E xs ready given joined vouches accepts here values news = record {
    joined = joined;
    vouches = λ t on other. vouches (id_of_update t) (ready.vouches t on other);
    accepts = λ t on. elim (in_parts t (accepted done) (accepted_by r) (subst (λ (us : List Update). IsIn t us) (flat_push accepted_by done r) on)) [
      | inl old ↦ accepts t (ready.accepts t old)
      | inr now ↦ subst (λ (y : Update). IsIn y (accepted E)) (one_accepted r u t given now) here
    ];
    has = λ h on. elim (in_parts h (map sha256 xs) hashes on) [
      | inl now ↦ (let x = from_map sha256 h xs now in record { value = x.0; on = news x.0 x.1.0; hash = x.1.1 })
      | inr old ↦ (let x = ready.has h old in record { value = x.value; on = values x.value x.on; hash = x.hash })
    ];
  }

  pub send_candidates : (C done : List Record) (hashes : List (List ℕ)) (rs : List Record) → candidates_for J (hello_at W a P) ≡ done ++ rs → IsReady C done hashes
      → ((f : Frame) → IsIn f (flat_map frames_of (candidate_parcels sign J hashes rs)) → IsIn f all) → RoomFor (setting_of W a) C (flat_map frames_of (candidate_parcels sign J hashes rs)) → AreSent C (flat_map frames_of (candidate_parcels sign J hashes rs)) rs
  unfolding candidate_parcels candidates
  send_candidates C done hashes [] split ready framed room = record { carried = carry_none W a v (J ++ vouchers) m C ready.joined; accepts = λ u never. absurd never; holds = λ u n x never. absurd never }
  send_candidates C done hashes (r ∷ rs) split ready framed room =
      let here = setting_of W a in
      let u = candidate_update r (subst (λ (qs : List Record). IsIn r qs) (sym split) (in_right r done (r ∷ rs) (inl refl))) in
      let l = left_at (has_candidate J (map (λ (k : HelloLeaf). k.id) (hello_at W a P).leaves) (hello_at W a P).node) J done r rs split in
      let t = told_of (setting_of W v) sign J l.before r u.0 l.after (sender_lawful W a v J sent) l.is u.1 in
      let xs = values_behind J hashes (names_of r) in
      let rest = flat_map frames_of (candidate_parcels sign J (map sha256 xs ++ hashes) rs) in
      let shape = parcel_frames hashes r t.told rest t.tells in
      let c = comes C done hashes r rs u.0 ready split u.1 t (framed (statement_frame t.told) (subst (λ (fs : List Frame). IsIn (statement_frame t.told) fs) (sym shape) (inl refl))) in
      let is = statement_given t.told c.fits in
      let turn = room_given here C (statement_frame t.told) (map value_frame xs ++ rest) (given_statement t.told) is (subst (λ (fs : List Frame). RoomFor here C fs) shape room) in
      let step = update_step W a v (J ++ vouchers) m C t.told u.0 ready.joined c turn.first in
      let D = C ++ growth here C (given_statement t.told) in
      let now = update_after W a v (J ++ vouchers) m C t.told u.0 ready.joined c in
      let values = carry_each W a v (J ++ vouchers) m value_frame (λ x. given_value x) (IsValueFor W a v (J ++ vouchers) m) (λ X x. IsIn x (flat_map value_by X)) (value_sort W a v (J ++ vouchers) m) D xs step.joined
      (λ x on. value_is_for D hashes r u.0 x u.1 now on) (room_front here D (map value_frame xs) rest turn.more) in
      let E = taking here D (map value_frame xs) in
      let to_E : (X : Type 0) (f : Record → List X) (x : X) → IsIn x (flat_map f C) → IsIn x (flat_map f E) = λ X f x on. read_behind f x here D (map value_frame xs) (flat_left f x C (growth here C (given_statement t.told)) on) in
      let now_E = read_behind accepted_by u.0 here D (map value_frame xs) now in
      let ready_E = one_more_ready C done hashes r u.0 D E xs ready u.1 values.carried.joined
      (λ h on. vouched_behind h here D (map value_frame xs) (vouched_more C (growth here C (given_statement t.told)) h on)) (λ x on. to_E Update accepted_by x on) now_E (λ x on. to_E (List ℕ) value_by x on) values.each in
      let later = send_candidates E (done ++ r ∷ []) (map sha256 xs ++ hashes) rs (split ∙ sym (append_assoc done (r ∷ []) rs)) ready_E
      (λ f on. framed f (in_right f (frames_of (candidate_parcel sign J hashes r)) rest on)) (room_behind here D (map value_frame xs) rest turn.more) in
      let F = taking here E rest in
      let far : taking here C (statement_frame t.told ∷ (map value_frame xs ++ rest)) ≡ F = taking_given here C (statement_frame t.told) (map value_frame xs ++ rest) (given_statement t.told) is ∙ taking_append here D (map value_frame xs) rest in
      subst (λ (fs : List Frame). AreSent C fs (r ∷ rs)) (sym shape) (record {
        carried = carry_more W a v (J ++ vouchers) m C (statement_frame t.told) (map value_frame xs ++ rest) (given_statement t.told) is step (carry_append W a v (J ++ vouchers) m D (map value_frame xs) rest values.carried later.carried);
        accepts = λ x on. subst (λ (X : List Record). IsIn x (accepted X)) (sym far) (elim (in_parts x (accepted_by r) (accepted rs) on) [
          | inl this ↦ subst (λ (y : Update). IsIn y (accepted F)) (one_accepted r u.0 x u.1 this) (read_behind accepted_by u.0 here E rest now_E)
          | inr behind ↦ later.accepts x behind
        ]);
        holds = λ x n y on named held. subst (λ (X : List Record). IsIn y (flat_map value_by X)) (sym far) (elim (in_parts x (accepted_by r) (accepted rs) on) [
          | inr behind ↦ later.holds x n y behind named held
          | inl this ↦
              let name : IsIn n (names_of r) = flat_gives values_named n x (accepted_by r) this named in
              read_behind value_by y here E rest (elim (behind_has J hashes (names_of r) n y name held) [
                | inl before ↦ to_E (List ℕ) value_by y (sent_value C n.hash n y ready.joined (ready.has n.hash before) held)
                | inr now_sent ↦ sent_value E n.hash n y values.carried.joined (record { value = now_sent.value; on = values.each now_sent.value now_sent.on; hash = now_sent.hash }) held
              ])
        ]);
      })
