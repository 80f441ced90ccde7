-- No proof that was recorded or judged in a world names a correct node.
use Rattle.std.proofs.Common.{◌≡◌, ℕ, List, [], true, not, ◌&&◌, ◌==◌, None, Ok, refl, sym, ap, subst, ◌∙◌, inl, inr}
use Rattle.std.specs.List.{flat_map}
use Rattle.std.specs.Str.{bytes_eq}
use Rattle.std.proofs.lemmas.Bool.{eqb-true, and_parts, both_ways}
use Rattle.std.proofs.lemmas.Slice.Eq.{bytes_eq-Decides}
use Rattle.sha2.specs.Sha256.{sha256}
use Rattle.depot_base.specs.Statement.{writer_of}
use Rattle.depot_base.specs.declared.key.RosterEntry.{RosterEntry}
use Rattle.depot_base.specs.declared.statement.Signed.{Signed}
use Rattle.depot_base.specs.declared.update.Update.{Update}
use Rattle.depot_base.specs.declared.statement.Statement.{Statement}
use Rattle.depot_base.specs.declared.statement.Statement.TheVariants as statement
use Rattle.depot_base.specs.declared.proof.Kind.{Kind}
use Rattle.depot_base.specs.declared.proof.Proof.{Proof}
use Rattle.depot_base.specs.declared.proof.Proof.TheVariants.{Pair, Hollow}
use Rattle.depot_base.specs.declared.record.Record.{Record}
use Rattle.depot_base.specs.declared.record.Record.TheVariants.{Birth, OwnPut, OwnVoucher, Foreign, Conviction, Held}
use Rattle.depot_model.specs.declared.taken.Taken.TheVariants.{New}
use Rattle.depot_model.specs.lists.Lists.{IsIn, is_among}
use Rattle.depot_model.specs.texts.Texts.{text_of_update, id_of_update}
use Rattle.depot_model.specs.texts.Roster.{Verifies}
use Rattle.depot_model.specs.updates.Contradictions.{is_update_text, is_hollow}
use Rattle.depot_model.specs.updates.Judgement.{first_failed_point, IsContrary}
use Rattle.depot_model.specs.journals.Journal.{accepted, own, accused, proof_by}
use Rattle.depot_model.specs.checks.Checks.{Setting, given_proof, answer_to}
use Rattle.depot_model.specs.journals.Lawful.{MayFollow}
use Rattle.depot_model.proofs.of_updates.JudgementLaws.{passes}
use Rattle.depot_model.proofs.lists.Members.{in_left, in_right, in_parts, any_to, among_to}
use Rattle.depot_model.proofs.of_texts.BodyLaws.{update_is_text}
use Rattle.depot_model.proofs.of_updates.ContradictionLaws.{same_writer}
use Rattle.depot_model.specs.texts.Contents.{halves}
use Rattle.depot_model.specs.worlds.World.{Correct, World, setting_of, signed_in, signed_met, proofs_of, hashed_texts, IsWorld, IsAuthentic, IsCollisionFree}
use Rattle.depot_model.specs.worlds.Causality.{ConvictsNoCorrectNode}
use Rattle.depot_laws.proofs.lists.Splits.{given_by, given_too, flat_gives}
use Rattle.depot_laws.proofs.convicting.GoodProofs.{new_is_good}
use Rattle.depot_laws.proofs.own_updates.OwnAgree.{own_agree}
use Rattle.depot_laws.proofs.own_updates.OwnVouchers.{own_vouched}
use Rattle.depot_laws.proofs.own_updates.OwnTexts.{accepted_fit}
use Rattle.depot_laws.proofs.lists.Tests.{fails_from_not}
use Rattle.depot_laws.proofs.of_worlds.Worlds.{giver_in, journal_lawful, write_from, body_hashed, hollow_hashed}

-- ---- what a good proof shows

-- where no point fails, the halves contradict each other
judged_shows : (verifies : Verifies) (r : List RosterEntry) (p : Proof) → first_failed_point verifies r p ≡ None → IsContrary p
judged_shows verifies r p good = (passes verifies r p good).contradict

-- and so where a node takes it
taken_shows : (here : Setting) (J : List Record) (p : Proof) → answer_to here J (given_proof p) ≡ Ok New → IsContrary p
taken_shows here J p e = judged_shows here.verifies here.listed p (new_is_good here J p e).good

recorded_shows : (here : Setting) (J : List Record) (r : Record) (p : Proof) → MayFollow here J r → IsIn p (proof_by r) → IsContrary p
recorded_shows here J (Conviction q) p may (inl same) = taken_shows here J p (subst (λ (x : Proof). answer_to here J (given_proof x) ≡ Ok New) same may)
recorded_shows here J (Conviction q) p may (inr never) = absurd never
recorded_shows here J (Birth node h) p may never = absurd never
recorded_shows here J (OwnPut u values) p may never = absurd never
recorded_shows here J (OwnVoucher v) p may never = absurd never
recorded_shows here J (Foreign s) p may never = absurd never
recorded_shows here J (Held value) p may never = absurd never

-- ---- where its halves are

half_by : (r : Record) (p : Proof) (s : Signed) → IsIn p (proof_by r) → IsIn s (halves p) → IsIn s (signed_in r)
half_by (Conviction q) p s (inl same) half = in_left s (halves q) [] (subst (λ (x : Proof). IsIn s (halves x)) (sym same) half)
half_by (Conviction q) p s (inr never) half = absurd never
half_by (Birth node h) p s never half = absurd never
half_by (OwnPut u values) p s never half = absurd never
half_by (OwnVoucher v) p s never half = absurd never
half_by (Foreign f) p s never half = absurd never
half_by (Held value) p s never half = absurd never

-- the halves of a recorded proof are in the world
recorded_half : (W : World) (d : Correct) (p : Proof) (s : Signed) → IsIn d W.nodes → IsIn p (flat_map proof_by d.journal) → IsIn s (halves p) → IsIn s (signed_met W)
recorded_half W d p s d_on on half =
    let g = given_by proof_by p d.journal on in
    in_left s (flat_map (λ (c : Correct). flat_map signed_in c.journal) W.nodes) (flat_map halves W.judged)
    (flat_gives (λ (c : Correct). flat_map signed_in c.journal) s d W.nodes d_on (given_too proof_by signed_in p s d.journal g (half_by g.by p s g.given half)))

-- and so do those of a judged one
judged_half : (W : World) (p : Proof) (s : Signed) → IsIn p W.judged → IsIn s (halves p) → IsIn s (signed_met W)
judged_half W p s on half = in_right s (flat_map (λ (c : Correct). flat_map signed_in c.journal) W.nodes) (flat_map halves W.judged) (flat_gives halves s p W.judged on half)

-- ---- correct nodes

module _ (W : World) (world : IsWorld W) (authentic : IsAuthentic W) where
  -- what a proof of the world shows is in it, and no point of it fails
  record Stands (p : Proof) : Type 0 where
    pub halves_met : (s : Signed) → IsIn s (halves p) → IsIn s (signed_met W)
    pub shows : IsContrary p

  recorded : (d : Correct) (p : Proof) → IsIn d W.nodes → IsIn p (flat_map proof_by d.journal) → Stands p
  recorded d p d_on on =
      let g = given_by proof_by p d.journal on in
      record {
        halves_met = λ s half. recorded_half W d p s d_on on half;
        shows = recorded_shows (setting_of W d) g.before g.by p ((journal_lawful W world d d_on).each g.before g.by g.after g.is).may g.given;
      }

  stands : (p : Proof) → IsIn p (proofs_of W) → Stands p
  stands p on =
      let kept : Correct → List Proof = λ d. flat_map proof_by d.journal in
      elim (in_parts p (flat_map kept W.nodes) W.judged on) [
        | inl there ↦ let g = given_by kept p W.nodes there in recorded g.by p (giver_in kept p W.nodes g) g.given
        | inr judged ↦ record { halves_met = λ s half. judged_half W p s judged half; shows = judged_shows W.verifies W.listed p (world.judged p judged) }
      ]

  -- both halves of a pair would be the node's own, and these agree
  pub pairs_spare : (c : Correct) (kind : Kind) (a b : Signed) → IsIn c W.nodes → IsIn (Pair kind a b) (proofs_of W) → writer_of a.statement ≡ c.node → ⊥
  pairs_spare c kind a b c_on on named =
      let p = stands (Pair kind a b) on in
      let writer : writer_of a.statement ≡ writer_of b.statement = eqb-true _ _ (same_writer kind a.statement b.statement p.shows) in
      own_agree (setting_of W c) c.journal (journal_lawful W world c c_on) a.statement b.statement
      (authentic.made a c (p.halves_met a (inl refl)) c_on named)
      (authentic.made b c (p.halves_met b (inr (inl refl))) c_on (sym writer ∙ named)) kind p.shows

  module _ (free : IsCollisionFree W) where
    -- an own voucher would name the id of an update which the node accepted, and the text would be that update's
    voucher_spares : (c : Correct) (s : Statement) (text : List ℕ) → IsIn c W.nodes → IsIn s (own c.journal) → is_hollow s text ≡ true → IsIn text (hashed_texts W) → ⊥
    unfolding is_hollow id_of_update
    voucher_spares c (statement.Update u) text c_on mine hollow hashed = absurd cc
    voucher_spares c (statement.Voucher v) text c_on mine hollow hashed =
        let l = journal_lawful W world c c_on in
        let both = and_parts (is_among (sha256 text) v.ids) (not (is_update_text text)) hollow in
        let named = own_vouched (setting_of W c) c.journal v (sha256 text) l mine (among_to (sha256 text) v.ids both.0) in
        let u = any_to (λ (t : Update). bytes_eq (id_of_update t) (sha256 text) && not (t.writer == c.node)) (accepted c.journal) named in
        let id : id_of_update u.0 ≡ sha256 text = (bytes_eq-Decides (id_of_update u.0) (sha256 text)).0 (and_parts (bytes_eq (id_of_update u.0) (sha256 text)) (not (u.0.writer == c.node)) u.1.1).0 in
        let same : text_of_update u.0 ≡ text = free.one (text_of_update u.0) text (body_hashed W u.0 (write_from W c u.0 c_on u.1.0)) hashed id in
        let is : is_update_text text ≡ true = ap is_update_text (sym same) ∙ update_is_text u.0 (accepted_fit (setting_of W c) c.journal u.0 l u.1.0) in
        both_ways (is_update_text text) (fails_from_not (is_update_text text) both.1) is

    spared : (c : Correct) (p : Proof) → IsIn c W.nodes → IsIn p (proofs_of W) → accused p ≡ c.node → ⊥
    spared c (Pair kind a b) c_on on named = pairs_spare c kind a b c_on on named
    spared c (Hollow voucher text) c_on on named =
        let p = stands (Hollow voucher text) on in
        voucher_spares c voucher.statement text c_on (authentic.made voucher c (p.halves_met voucher (inl refl)) c_on named) p.shows (hollow_hashed W (Hollow voucher text) text on (inl refl))

    pub convicts_none : ConvictsNoCorrectNode W
    convicts_none = record { never = spared }
