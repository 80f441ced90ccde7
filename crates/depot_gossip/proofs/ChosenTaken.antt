-- The asker takes the first candidates for its hello, as many as were chosen, each with the values after it.
use Rattle.std.proofs.Common.{◌≡◌, ℕ, ◌==◌, List, [], ◌∷◌, ◌++◌, map, true, not, Some, refl, sym, ap, subst, ◌∙◌, inl, inr, ◌⊎◌, append_assoc}
use Rattle.std.specs.List.{AllByRecursion, flat_map}
use Rattle.std.proofs.lemmas.Bool.{both_ways, eq-eqb, and_parts}
use Rattle.sha2.specs.Sha256.{sha256}
use Rattle.depot_base.specs.Statement.{writer_of}
use Rattle.depot_base.specs.declared.record.Record.{Record}
use Rattle.depot_base.specs.declared.statement.Signed.{Signed}
use Rattle.depot_base.specs.declared.statement.Statement.{Statement}
use Rattle.depot_base.specs.declared.statement.Statement.TheVariants as statement
use Rattle.depot_base.specs.declared.update.Update.{Update}
use Rattle.depot_base.proofs.GeneralLaws.{all_both, flat_push}
use Rattle.depot_model.specs.declared.hello.Hello.{Hello}
use Rattle.depot_model.specs.checks.Checks.{Sight, content_checks, given_statement, given_value, growth, sight}
use Rattle.depot_model.specs.exchange.Bundle.{Signs, candidate_parcel, candidate_parcels, candidates, frames_of, has_candidate, signed_by, signed_with, statement_frame, value_frame, values_behind}
use Rattle.depot_model.specs.journals.Journal.{accepted, accepted_by, held_as, is_vouched, own, own_by, value_by, vouched}
use Rattle.depot_model.specs.lists.Lists.{IsIn, is_among}
use Rattle.depot_model.specs.texts.Contents.{NamedValue, values_named}
use Rattle.depot_model.specs.texts.Frames.{Frame}
use Rattle.depot_model.specs.texts.Roster.{has_node, is_signed}
use Rattle.depot_model.specs.texts.Texts.{IsSigned, id_of_update}
use Rattle.depot_model.specs.updates.Order.{parents}
use Rattle.depot_model.specs.worlds.World.{Correct, World, setting_of}
use Rattle.depot_model.proofs.lists.Members.{among_from, any_from, any_to, from_filter, from_map, in_left, in_parts, in_right}
use Rattle.depot_laws.specs.Rejoin.{IsWellSigned}
use Rattle.depot_laws.proofs.convicting.Contrary.{kept_is_genuine, kept_is_signed}
use Rattle.depot_laws.proofs.exchanges.Arrivals.{Comes, IsValueFor, joined_write, one_value, update_after, update_step, vouched_more}
use Rattle.depot_laws.proofs.exchanges.Candidates.{HasValue, IsSource, IsTold, behind_has, behind_is, signed_fits, told_of}
use Rattle.depot_laws.proofs.exchanges.Carrying.{AreCarried, RoomFor, carry_append, carry_each, carry_more, carry_none, room_behind, room_front, room_given, statement_given, taking, taking_append, taking_given}
use Rattle.depot_laws.proofs.exchanges.Joining.{HasJoined}
use Rattle.depot_laws.proofs.exchanges.Meetings.{Meeting, left_at, one_of_writes, sender_lawful, sender_write}
use Rattle.depot_laws.proofs.exchanges.Parcels.{candidate_is, candidates_for, is_candidate_for, one_accepted}
use Rattle.depot_laws.proofs.exchanges.PlainFrames.{IsPlainFrame, all_mapped, plain_statement, plain_value}
use Rattle.depot_laws.proofs.exchanges.Sending.{read_behind, value_sort, vouched_behind}
use Rattle.depot_laws.proofs.lists.Splits.{flat_gives, flat_left, given_by}
use Rattle.depot_laws.proofs.lists.Tests.{fails_from_not}
use Rattle.depot_laws.proofs.of_worlds.Worlds.{in_split}
use Rattle.depot_laws.proofs.orders.ChainLaws.{foreign_writer}
use Rattle.depot_laws.proofs.orders.SamePasts.{same_sight}
use Rattle.depot_laws.proofs.own_updates.OwnSteps.{own_writer}
use Rattle.depot_laws.proofs.own_updates.OwnTexts.{own_statement_fits}
use Rattle.depot_laws.proofs.records.Causes.{lawful_is_causal}
use Rattle.depot_laws.proofs.records.HeldValues.{held_as_is}
use Rattle.depot_laws.proofs.records.Taken.{AllNone, HasId}
use Rattle.depot_laws.proofs.records.WantedValues.{value_fits, wanted_by}
use Rattle.depot_gossip.specs.AskingAgain.{IsHelloOf}
use Rattle.depot_gossip.proofs.AskedCovers.{ids_in, parents_earlier}

-- The asker a made this hello. The asked one v makes its bundle when its journal is J, and the bundle's vouchers are
-- behind it. Of the candidates these are chosen. The own statements of v among these frames are well signed.
module _ (W : World) (a v : Correct) (h : Hello) (asks : IsHelloOf a h) (J vouchers : List Record) (sent : Meeting W a v J) (m : Meeting W a v (J ++ vouchers)) (chosen left : List Record) (cut : candidates_for J h ≡ chosen ++ left)
    (sign : Signs) (all : List Frame) (signs : (s : Statement) → IsIn s (own (J ++ vouchers)) → IsIn (statement_frame (signed_with sign s)) all → IsWellSigned W (signed_with sign s)) where
  -- what the asker has when it comes to a candidate: all before it is accepted, each chosen one of another is vouched,
  -- and the values with these hashes are there
  pub record MayCome (C done : List Record) (hashes : List (List ℕ)) : Type 0 where
    pub joined : HasJoined W a v (J ++ vouchers) m C
    pub vouches : (u : Update) → IsIn u (accepted chosen) → (u.writer ≡ v.node → ⊥) → IsIn (id_of_update u) (vouched C)
    pub accepts : (u : Update) → IsIn u (accepted done) → IsIn u (accepted C)
    pub has : (x : List ℕ) → IsIn x hashes → HasValue (flat_map value_by C) x

  -- ---- a candidate comes

  -- what is known of the statement of a candidate
  record IsGenuine (u : Update) (s : Signed) : Type 0 where
    pub fits : IsSigned s
    pub known : has_node W.listed u.writer ≡ true
    pub verified : is_signed W.verifies W.listed s ≡ true

  source_is_genuine : (u : Update) (s : Signed) → s.statement ≡ statement.Update u → IsSource sign J u s → IsIn (statement_frame s) all → IsGenuine u s
  source_is_genuine u s is (inl own_one) framed =
      let l = sender_lawful W a v J sent in
      let st = statement.Update u in
      let good : IsWellSigned W (signed_with sign st) = signs st (flat_left own_by st J vouchers own_one.0) (subst (λ (x : Signed). IsIn (statement_frame x) all) own_one.1 framed) in
      let writer : u.writer ≡ v.node = own_writer (setting_of W v) J l st own_one.0 in
      record {
        fits = subst (λ (x : Signed). IsSigned x) (sym own_one.1) (signed_fits sign st (own_statement_fits (setting_of W v) J st l own_one.0) good.short);
        known = subst (λ (n : ℕ). has_node W.listed n ≡ true) (sym writer) (sent.world.correct v sent.sender).member;
        verified = subst (λ (x : Signed). is_signed W.verifies W.listed x ≡ true) (sym own_one.1) good.verified;
      }
  source_is_genuine u s is (inr other) framed =
      let l = sender_lawful W a v J sent in
      let genuine = kept_is_genuine (setting_of W v) J s l other in
      record {
        fits = kept_is_signed (setting_of W v) J s l other;
        known = subst (λ (x : Statement). has_node W.listed (writer_of x) ≡ true) is genuine.known;
        verified = genuine.signed;
      }

  not_the_asker : (r : Record) (u : Update) → IsIn r (candidates_for J h) → IsIn u (accepted_by r) → u.writer ≡ a.node → ⊥
  not_the_asker r u on given same =
      let c = candidate_is J h r u on given in
      both_ways (u.writer == h.node) (fails_from_not _ (and_parts (not (u.writer == h.node)) _ c).0) (eq-eqb u.writer h.node (same ∙ sym asks.node))

  -- the parents that the asker has
  parents_found : (C done : List Record) (hashes : List (List ℕ)) (r : Record) (rs : List Record) (u : Update) → MayCome C done hashes → candidates_for J h ≡ done ++ r ∷ rs → IsIn u (accepted_by r) → (id : List ℕ) → IsIn id (parents u) → HasId (accepted C) id
  parents_found C done hashes r rs u may split given id parent =
      let p = parents_earlier W a v J sent h asks done r rs u split given id parent in
      record { update = p.update; on = elim p.on [ inl had ↦ may.joined.kept p.update had | inr before ↦ may.accepts p.update before ]; id = p.is }

  candidate_accepted : (r : Record) (u : Update) → IsIn r (candidates_for J h) → IsIn u (accepted_by r) → IsIn u (accepted J)
  unfolding candidates
  candidate_accepted r u on given = flat_gives accepted_by u r J (from_filter (has_candidate J (ids_in h) h.node) r J on).0 given

  vouched_test : (C : List Record) (u : Update) → IsIn (id_of_update u) (vouched C) → is_vouched C (statement.Update u) ≡ true
  unfolding is_vouched
  vouched_test C u on = any_from (λ (t : Update). is_among (id_of_update t) (vouched C)) u (u ∷ []) (inl refl) (among_from (id_of_update u) (vouched C) on)

  source_found : (C : List Record) (u : Update) (s : Signed) → s.statement ≡ statement.Update u → IsSource sign J u s → ((u.writer ≡ v.node → ⊥) → IsIn (id_of_update u) (vouched C)) → IsIn (statement.Update u) (own (J ++ vouchers)) ⊎ ((is_vouched C (statement.Update u) ≡ true) × (u.writer ≡ v.node → ⊥))
  source_found C u s is (inl own_one) vouches = inl (flat_left own_by (statement.Update u) J vouchers own_one.0)
  source_found C u s is (inr other) vouches =
      let not_sender : u.writer ≡ v.node → ⊥ = λ same. foreign_writer (setting_of W v) J s (sender_lawful W a v J sent) other (ap writer_of is ∙ same) in
      inr (vouched_test C u (vouches not_sender), not_sender)

  comes : (C done : List Record) (hashes : List (List ℕ)) (r : Record) (rs : List Record) (u : Update) → MayCome C done hashes → candidates_for J h ≡ done ++ r ∷ rs → IsIn r chosen → IsIn u (accepted_by r) → (t : IsTold (setting_of W v) sign J r u) → IsIn (statement_frame t.told) all → Comes W a v (J ++ vouchers) m C t.told u
  comes C done hashes r rs u may split r_chosen given t framed =
      let good = source_is_genuine u t.told t.is t.source framed in
      let r_on : IsIn r (candidates_for J h) = subst (λ (qs : List Record). IsIn r qs) (sym split) (in_right r done (r ∷ rs) (inl refl)) in
      let seen : sight (accepted C) u ≡ sight (accepted t.before) u = same_sight (accepted C) (accepted t.before) u
      (λ x y x_on y_on e. one_of_writes W a v J sent x y (joined_write W a v (J ++ vouchers) m C x may.joined x_on) (sender_write W a v J sent y (t.within y y_on)) e)
      (lawful_is_causal (setting_of W a) C may.joined.lawful) (lawful_is_causal (setting_of W v) t.before t.lawful)
      (parents_found C done hashes r rs u may split given) t.joins.there in
      record {
        is = t.is;
        fits = good.fits;
        known = good.known;
        verified = good.verified;
        other = not_the_asker r u r_on given;
        content = subst (λ (x : Sight). AllNone (content_checks u x)) (sym seen) t.content;
        on = flat_left accepted_by u J vouchers (candidate_accepted r u r_on given);
        source = source_found C u t.told t.is t.source (may.vouches u (flat_gives accepted_by u r chosen r_chosen given));
      }

  -- ---- the values after a candidate

  -- the names of its values
  abbrev names_of : Record → List NamedValue
  names_of r = flat_map values_named (accepted_by r)

  name_is : (r : Record) (u : Update) (n : NamedValue) → IsIn u (accepted_by r) → IsIn n (names_of r) → IsIn n (values_named u)
  name_is r u n given on = let g = given_from values_named n (accepted_by r) on in subst (λ (t : Update). IsIn n (values_named t)) (one_accepted r g.0 u g.1.0 given) g.1.1 where
    given_from : (f : Update → List NamedValue) (n : NamedValue) (us : List Update) → IsIn n (flat_map f us) → (t : Update) × (IsIn t us × IsIn n (f t))
    given_from f n us on = let g = given_by f n us on in (g.by, (in_split g.before g.by g.after us g.is, g.given))

  -- each of them the asked one held, and the candidate names it
  value_is_for : (D : List Record) (hashes : List (List ℕ)) (r : Record) (u : Update) (x : List ℕ) → IsIn u (accepted_by r) → IsIn u (accepted D) → IsIn x (values_behind J hashes (names_of r)) → IsValueFor W a v (J ++ vouchers) m D x
  value_is_for D hashes r u x given here on =
      let b = behind_is J hashes (names_of r) x on in
      let n = held_as_is J b.name x b.held in
      record {
        on = flat_left value_by x J vouchers n.on;
        fits = value_fits (setting_of W v) J x (sender_lawful W a v J sent) n.on;
        wanted = wanted_by (accepted D) u b.name x here (name_is r u b.name given b.on) n.hash n.size;
      }

  -- the update of a candidate's record
  candidate_update : (r : Record) → IsIn r (candidates_for J h) → (u : Update) × IsIn u (accepted_by r)
  unfolding candidates
  candidate_update r on =
      let f = from_filter (has_candidate J (ids_in h) h.node) r J on in
      let t = any_to (is_candidate_for J h) (accepted_by r) f.1 in
      (t.0, t.1.0)

  -- ---- the chosen candidates in their order

  -- the frames of a candidate before others
  parcel_frames : (hashes : List (List ℕ)) (r : Record) (t : Signed) (rest : List Frame) → signed_by sign r ≡ t ∷ [] → frames_of (candidate_parcel sign J hashes r) ++ rest ≡ statement_frame t ∷ (map value_frame (values_behind J hashes (names_of r)) ++ rest)
  parcel_frames hashes r t rest tells = ap (λ (ts : List Signed). (map statement_frame ts ++ map value_frame (values_behind J hashes (names_of r))) ++ rest) tells

  -- the candidates from one of the chosen ones on
  split_at : (done : List Record) (r : Record) (rs : List Record) → chosen ≡ done ++ r ∷ rs → candidates_for J h ≡ done ++ r ∷ (rs ++ left)
  split_at done r rs split = cut ∙ ap (λ (qs : List Record). qs ++ left) split ∙ append_assoc done (r ∷ rs) left

  chosen_on : (done : List Record) (r : Record) (rs : List Record) → chosen ≡ done ++ r ∷ rs → IsIn r chosen
  chosen_on done r rs split = subst (λ (qs : List Record). IsIn r qs) (sym split) (in_right r done (r ∷ rs) (inl refl))

  is_candidate_record : (r : Record) → IsIn r chosen → IsIn r (candidates_for J h)
  is_candidate_record r on = subst (λ (qs : List Record). IsIn r qs) (sym cut) (in_left r chosen left on)

  -- they are plain frames
  pub chosen_are_plain : (done : List Record) (hashes : List (List ℕ)) (rs : List Record) → chosen ≡ done ++ rs → ((f : Frame) → IsIn f (flat_map frames_of (candidate_parcels sign J hashes rs)) → IsIn f all) → AllByRecursion IsPlainFrame (flat_map frames_of (candidate_parcels sign J hashes rs))
  unfolding candidate_parcels candidates
  chosen_are_plain done hashes [] split framed = tt
  chosen_are_plain done hashes (r ∷ rs) split framed =
      let u = candidate_update r (is_candidate_record r (chosen_on done r rs split)) in
      let l = left_at (has_candidate J (ids_in h) h.node) J done r (rs ++ left) (split_at done r rs split) in
      let t = told_of (setting_of W v) sign J l.before r u.0 l.after (sender_lawful W a v J sent) l.is u.1 in
      let xs = values_behind J hashes (names_of r) in
      let rest = flat_map frames_of (candidate_parcels sign J (map sha256 xs ++ hashes) rs) in
      let shape = parcel_frames hashes r t.told rest t.tells in
      let good = source_is_genuine u.0 t.told t.is t.source (framed (statement_frame t.told) (subst (λ (fs : List Frame). IsIn (statement_frame t.told) fs) (sym shape) (inl refl))) in
      let values : AllByRecursion IsPlainFrame (map value_frame xs) = all_mapped value_frame xs (λ x on. plain_value x (value_fits (setting_of W v) J x (sender_lawful W a v J sent) (held_as_is J _ x (behind_is J hashes (names_of r) x on).held).on)) in
      let later = chosen_are_plain (done ++ r ∷ []) (map sha256 xs ++ hashes) rs (split ∙ sym (append_assoc done (r ∷ []) rs)) (λ f on. framed f (in_right f (frames_of (candidate_parcel sign J hashes r)) rest on)) in
      subst (λ (fs : List Frame). AllByRecursion IsPlainFrame fs) (sym shape) (plain_statement t.told good.fits, all_both IsPlainFrame (map value_frame xs) rest values later)

  -- what is so after these frames, which are those of these candidates
  pub record HaveCome (C : List Record) (fs : List Frame) (rs : List Record) : Type 0 where
    pub carried : AreCarried W a v (J ++ vouchers) m C fs
    pub accepts : (u : Update) → IsIn u (accepted rs) → IsIn u (accepted (taking (setting_of W a) C fs))
    pub holds : (u : Update) (n : NamedValue) (x : List ℕ) → IsIn u (accepted rs) → IsIn n (values_named u) → held_as J n ≡ Some x → IsIn x (flat_map value_by (taking (setting_of W a) C fs))

  -- the value of a name that was sent before is there
  sent_value : (C : List Record) (n : NamedValue) (x : List ℕ) → HasJoined W a v (J ++ vouchers) m C → HasValue (flat_map value_by C) n.hash → held_as J n ≡ Some x → IsIn x (flat_map value_by C)
  sent_value C n x j y held =
      let is = held_as_is J n x held in
      let same : y.value ≡ x = one_value W a v (J ++ vouchers) m y.value x (j.hashed y.value y.on) (flat_left value_by x J vouchers is.on) (y.hash ∙ sym is.hash) in
      subst (λ (z : List ℕ). IsIn z (flat_map value_by C)) same y.on

  one_more_comes : (C done : List Record) (hashes : List (List ℕ)) (r : Record) (u : Update) (E : List Record) (xs : List (List ℕ)) → MayCome C done hashes → IsIn u (accepted_by r)
      → HasJoined W a v (J ++ vouchers) m E → ((id : List ℕ) → IsIn id (vouched C) → IsIn id (vouched E)) → ((t : Update) → IsIn t (accepted C) → IsIn t (accepted E)) → IsIn u (accepted E) → ((x : List ℕ) → IsIn x (flat_map value_by C) → IsIn x (flat_map value_by E)) → ((x : List ℕ) → IsIn x xs → IsIn x (flat_map value_by E))
      → MayCome E (done ++ r ∷ []) (map sha256 xs ++ hashes)
  one_more_comes C done hashes r u E xs may given joined vouches accepts here values news = record {
    joined = joined;
    vouches = λ t on other. vouches (id_of_update t) (may.vouches t on other);
    accepts = λ t on. elim (in_parts t (accepted done) (accepted_by r) (subst (λ (us : List Update). IsIn t us) (flat_push accepted_by done r) on)) [
      | inl old ↦ accepts t (may.accepts t old)
      | inr now ↦ subst (λ (y : Update). IsIn y (accepted E)) (one_accepted r u t given now) here
    ];
    has = λ x on. elim (in_parts x (map sha256 xs) hashes on) [
      | inl now ↦ (let y = from_map sha256 x xs now in record { value = y.0; on = news y.0 y.1.0; hash = y.1.1 })
      | inr old ↦ (let y = may.has x old in record { value = y.value; on = values y.value y.on; hash = y.hash })
    ];
  }

  pub take_chosen : (C done : List Record) (hashes : List (List ℕ)) (rs : List Record) → chosen ≡ done ++ rs → MayCome C done hashes
      → ((f : Frame) → IsIn f (flat_map frames_of (candidate_parcels sign J hashes rs)) → IsIn f all) → RoomFor (setting_of W a) C (flat_map frames_of (candidate_parcels sign J hashes rs)) → HaveCome C (flat_map frames_of (candidate_parcels sign J hashes rs)) rs
  unfolding candidate_parcels candidates
  take_chosen C done hashes [] split may framed room = record { carried = carry_none W a v (J ++ vouchers) m C may.joined; accepts = λ u never. absurd never; holds = λ u n x never. absurd never }
  take_chosen C done hashes (r ∷ rs) split may framed room =
      let here = setting_of W a in
      let r_chosen = chosen_on done r rs split in
      let u = candidate_update r (is_candidate_record r r_chosen) in
      let l = left_at (has_candidate J (ids_in h) h.node) J done r (rs ++ left) (split_at done r rs split) in
      let t = told_of (setting_of W v) sign J l.before r u.0 l.after (sender_lawful W a v J sent) l.is u.1 in
      let xs = values_behind J hashes (names_of r) in
      let rest = flat_map frames_of (candidate_parcels sign J (map sha256 xs ++ hashes) rs) in
      let shape = parcel_frames hashes r t.told rest t.tells in
      let c = comes C done hashes r (rs ++ left) u.0 may (split_at done r rs split) r_chosen u.1 t (framed (statement_frame t.told) (subst (λ (fs : List Frame). IsIn (statement_frame t.told) fs) (sym shape) (inl refl))) in
      let is = statement_given t.told c.fits in
      let turn = room_given here C (statement_frame t.told) (map value_frame xs ++ rest) (given_statement t.told) is (subst (λ (fs : List Frame). RoomFor here C fs) shape room) in
      let step = update_step W a v (J ++ vouchers) m C t.told u.0 may.joined c turn.first in
      let D = C ++ growth here C (given_statement t.told) in
      let now = update_after W a v (J ++ vouchers) m C t.told u.0 may.joined c in
      let values = carry_each W a v (J ++ vouchers) m value_frame (λ x. given_value x) (IsValueFor W a v (J ++ vouchers) m) (λ X x. IsIn x (flat_map value_by X)) (value_sort W a v (J ++ vouchers) m) D xs step.joined
      (λ x on. value_is_for D hashes r u.0 x u.1 now on) (room_front here D (map value_frame xs) rest turn.more) in
      let E = taking here D (map value_frame xs) in
      let to_E : (X : Type 0) (f : Record → List X) (x : X) → IsIn x (flat_map f C) → IsIn x (flat_map f E) = λ X f x on. read_behind f x here D (map value_frame xs) (flat_left f x C (growth here C (given_statement t.told)) on) in
      let now_E = read_behind accepted_by u.0 here D (map value_frame xs) now in
      let may_E = one_more_comes C done hashes r u.0 E xs may u.1 values.carried.joined
      (λ id on. vouched_behind id here D (map value_frame xs) (vouched_more C (growth here C (given_statement t.told)) id on)) (λ x on. to_E Update accepted_by x on) now_E (λ x on. to_E (List ℕ) value_by x on) values.each in
      let later = take_chosen E (done ++ r ∷ []) (map sha256 xs ++ hashes) rs (split ∙ sym (append_assoc done (r ∷ []) rs)) may_E
      (λ f on. framed f (in_right f (frames_of (candidate_parcel sign J hashes r)) rest on)) (room_behind here D (map value_frame xs) rest turn.more) in
      let F = taking here E rest in
      let far : taking here C (statement_frame t.told ∷ (map value_frame xs ++ rest)) ≡ F = taking_given here C (statement_frame t.told) (map value_frame xs ++ rest) (given_statement t.told) is ∙ taking_append here D (map value_frame xs) rest in
      subst (λ (fs : List Frame). HaveCome C fs (r ∷ rs)) (sym shape) (record {
        carried = carry_more W a v (J ++ vouchers) m C (statement_frame t.told) (map value_frame xs ++ rest) (given_statement t.told) is step (carry_append W a v (J ++ vouchers) m D (map value_frame xs) rest values.carried later.carried);
        accepts = λ x on. subst (λ (X : List Record). IsIn x (accepted X)) (sym far) (elim (in_parts x (accepted_by r) (accepted rs) on) [
          | inl this ↦ subst (λ (y : Update). IsIn y (accepted F)) (one_accepted r u.0 x u.1 this) (read_behind accepted_by u.0 here E rest now_E)
          | inr behind ↦ later.accepts x behind
        ]);
        holds = λ x n y on named held. subst (λ (X : List Record). IsIn y (flat_map value_by X)) (sym far) (elim (in_parts x (accepted_by r) (accepted rs) on) [
          | inr behind ↦ later.holds x n y behind named held
          | inl this ↦
              let name : IsIn n (names_of r) = flat_gives values_named n x (accepted_by r) this named in
              read_behind value_by y here E rest (elim (behind_has J hashes (names_of r) n y name held) [
                | inl before ↦ to_E (List ℕ) value_by y (sent_value C n y may.joined (may.has n.hash before) held)
                | inr now_sent ↦ sent_value E n y values.carried.joined (record { value = now_sent.value; on = values.each now_sent.value now_sent.on; hash = now_sent.hash }) held
              ])
        ]);
      })
