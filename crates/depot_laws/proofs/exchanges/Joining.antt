-- What stays while the reader takes a bundle, and one step for each sort of frame.
use Rattle.std.proofs.Common.{◌≡◌, ℕ, List, [], ◌∷◌, ◌++◌, Bool, true, false, eqb, Option, Some, None, Result, Ok, Err, refl, sym, ap, subst, ◌∙◌, inl, inr, ◌⊎◌, flat_map}
use Rattle.std.proofs.lemmas.List.{append-nil}
use Rattle.std.proofs.lemmas.Grind.{flat_map-append}
use Rattle.std.proofs.lemmas.Bool.{eqb-true, both_ways, false_from_ne_true, cases_Bool}
use Rattle.depot_base.specs.Statement.{writer_of}
use Rattle.depot_base.specs.declared.update.Update.{Update}
use Rattle.depot_base.specs.declared.voucher.Voucher.{Voucher}
use Rattle.depot_base.specs.declared.statement.Statement.{Statement}
use Rattle.depot_base.specs.declared.statement.Statement.TheVariants as statement
use Rattle.depot_base.specs.declared.statement.Signed.{Signed}
use Rattle.depot_base.specs.declared.proof.Kind.{Kind}
use Rattle.depot_base.specs.declared.proof.Proof.{Proof}
use Rattle.depot_base.specs.declared.record.Record.{Record}
use Rattle.depot_base.specs.declared.record.Record.TheVariants.{Foreign, Conviction}
use Rattle.depot_base.specs.declared.check.Check.{Check}
use Rattle.depot_model.specs.declared.taken.Taken.{Taken}
use Rattle.depot_model.specs.lists.Lists.{IsIn}
use Rattle.depot_model.specs.texts.Texts.{IsSigned, IsProof}
use Rattle.depot_model.specs.texts.Roster.{has_node, is_signed}
use Rattle.depot_model.specs.updates.Contradictions.{contradicts}
use Rattle.depot_model.specs.journals.Journal.{accepted, accepted_by, own, own_by, foreign, foreign_by, update_in, proof_by, value_by, accused, is_convicted, is_vouched}
use Rattle.depot_model.specs.checks.Checks.{Setting, Given, given_statement, given_proof, content_of, opponent, forked, refused_as_convicted, first_failed_check, is_known, answer_by, answer_to, added, growth}
use Rattle.depot_model.specs.checks.Room.{full_by}
use Rattle.depot_model.specs.journals.Lawful.{IsLawful, is_empty}
use Rattle.depot_model.specs.worlds.World.{Correct, World, setting_of, hashed_texts}
use Rattle.depot_model.proofs.lists.Members.{in_left, in_parts}
use Rattle.depot_model.proofs.of_updates.ContradictionLaws.{same_writer}
use Rattle.depot_model.proofs.of_updates.DueLaws.{no_fork_alone}
use Rattle.depot_laws.specs.Given.{HasText}
use Rattle.depot_laws.proofs.records.Taken.{AllNone, none_from_passes}
use Rattle.depot_laws.proofs.convicting.Convictions.{convicted_by, convicts_accused}
use Rattle.depot_laws.proofs.convicting.Contrary.{opponent_is, checks_of_good}
use Rattle.depot_laws.proofs.convicting.GoodProofs.{IsGoodAt}
use Rattle.depot_laws.proofs.records.Growing.{front_of, added_is, grown_is_lawful, still_some}
use Rattle.depot_laws.proofs.own_updates.OwnSteps.{own_writer}
use Rattle.depot_laws.proofs.own_updates.OwnAgree.{own_agree}
use Rattle.depot_laws.proofs.of_worlds.Worlds.{journal_lawful}
use Rattle.depot_laws.proofs.exchanges.Meetings.{Meeting, sender_lawful, still_told, sender_spares}

-- what is taken isn't refused
abbrev pub IsTaken : Result Taken Check → Type 0
IsTaken (Ok taken) = Unit {0}
IsTaken (Err c) = ⊥

-- ---- answers

-- no check fails, so it is Known and nothing is appended, or it is New
pub outcome : (here : Setting) (C : List Record) (x : Given) → first_failed_check here C x ≡ None
    → ((is_known here C x ≡ true) × (growth here C x ≡ [])) ⊎ ((is_known here C x ≡ false) × (growth here C x ≡ added C x))
unfolding growth answer_to
outcome here C x e = elim (cases_Bool (is_known here C x)) [
  | inl is ↦ inl (is, rw is refl)
  | inr new ↦ inr (new, rw (new, e) refl)
]

taken_by : (known : Bool) (failed : Option Check) → failed ≡ None → IsTaken (answer_by known failed)
taken_by true failed e = tt
taken_by false None e = tt
taken_by false (Some c) e = absurd cc

is_taken : (here : Setting) (C : List Record) (x : Given) → first_failed_check here C x ≡ None → IsTaken (answer_to here C x)
unfolding answer_to
is_taken here C x e = taken_by (is_known here C x) (first_failed_check here C x) e

-- ---- opponents

-- a statement that contradicts none of these has no opponent among them
pub without_opponent : (fs : List Signed) (s : Statement) → ((f : Signed) → IsIn f fs → (k : Kind) → contradicts k f.statement s ≡ true → ⊥) → opponent fs s ≡ None
without_opponent fs s quiet = by_option (opponent fs s) refl where
  by_option : (o : Option (Signed × Kind)) → opponent fs s ≡ o → opponent fs s ≡ None
  by_option None is = is
  by_option (Some by) is = let o = opponent_is fs s by is in absurd (quiet by.0 o.on by.1 o.contradict)

module _ (W : World) (a v : Correct) (K : List Record) (m : Meeting W a v K) where
  -- ---- what stays

  -- The reader's journal is lawful and has all that it had. What it accepted since is the sender's, and its values were hashed in
  -- the world. What it has of the sender is the sender's own, and the sender isn't convicted.
  pub record HasJoined (C : List Record) : Type 0 where
    pub lawful : IsLawful (setting_of W a) C
    pub some : is_empty C ≡ false
    pub kept : (u : Update) → IsIn u (accepted a.journal) → IsIn u (accepted C)
    pub from : (u : Update) → IsIn u (accepted C) → IsIn u (accepted a.journal) ⊎ IsIn u (accepted K)
    pub hashed : (x : List ℕ) → IsIn x (flat_map value_by C) → IsIn x (hashed_texts W)
    pub authentic : (s : Signed) → IsIn s (foreign C) → writer_of s.statement ≡ v.node → IsIn s.statement (own v.journal)
    pub spares : is_convicted C v.node ≡ false

  -- what is asked of records that join
  pub record MayJoin (new : List Record) : Type 0 where
    pub from : (u : Update) → IsIn u (accepted new) → IsIn u (accepted K)
    pub hashed : (x : List ℕ) → IsIn x (flat_map value_by new) → IsIn x (hashed_texts W)
    pub authentic : (s : Signed) → IsIn s (foreign new) → writer_of s.statement ≡ v.node → IsIn s.statement (own v.journal)
    pub spares : (p : Proof) → IsIn p (flat_map proof_by new) → accused p ≡ v.node → ⊥

  none_joins : MayJoin []
  none_joins = record { from = λ u never. absurd never; hashed = λ x never. absurd never; authentic = λ s never. absurd never; spares = λ p never. absurd never }

  -- a reading with more records
  parts_of : {X : Type 0} (f : Record → List X) (C new : List Record) (x : X) → IsIn x (flat_map f (C ++ new)) → IsIn x (flat_map f C) ⊎ IsIn x (flat_map f new)
  parts_of f C new x on = in_parts x (flat_map f C) (flat_map f new) (subst (λ (xs : List _). IsIn x xs) (flat_map-append f C new) on)

  pub joined_more : (C new : List Record) → HasJoined C → IsLawful (setting_of W a) (C ++ new) → MayJoin new → HasJoined (C ++ new)
  joined_more C new j lawful may = record {
    lawful = lawful;
    some = still_some C new j.some;
    kept = λ u on. subst (λ (us : List Update). IsIn u us) (sym (flat_map-append accepted_by C new)) (in_left u (accepted C) (accepted new) (j.kept u on));
    from = λ u on. elim (parts_of accepted_by C new u on) [ inl old ↦ j.from u old | inr now ↦ inr (may.from u now) ];
    hashed = λ x on. elim (parts_of value_by C new x on) [ inl old ↦ j.hashed x old | inr now ↦ may.hashed x now ];
    authentic = λ s on writer. elim (parts_of foreign_by C new s on) [ inl old ↦ j.authentic s old writer | inr now ↦ may.authentic s now writer ];
    spares = false_from_ne_true (is_convicted (C ++ new) v.node) (λ e.
        let p = convicted_by (C ++ new) v.node e in
        elim (parts_of proof_by C new p.0 p.1.0) [
          | inl old ↦ both_ways _ j.spares (convicts_accused C p.0 v.node old p.1.1)
          | inr now ↦ may.spares p.0 now p.1.1
        ]);
  }

  -- ---- a step

  -- what is given isn't refused, and the journal with its growth has joined
  pub record IsStep (C : List Record) (x : Given) : Type 0 where
    pub taken : IsTaken (answer_to (setting_of W a) C x)
    pub joined : HasJoined (C ++ growth (setting_of W a) C x)

  pub step_by : (C : List Record) (x : Given) → HasJoined C → HasText x → first_failed_check (setting_of W a) C x ≡ None → full_by a.node C (growth (setting_of W a) C x) ≡ None → (is_known (setting_of W a) C x ≡ false → MayJoin (added C x)) → IsStep C x
  step_by C x j fits e room may = record {
    taken = is_taken (setting_of W a) C x e;
    joined = joined_more C (growth (setting_of W a) C x) j (grown_is_lawful (setting_of W a) C x j.lawful j.some fits room) (elim (outcome (setting_of W a) C x e) [
      | inl known ↦ subst MayJoin (sym known.1) none_joins
      | inr new ↦ subst MayJoin (sym new.1) (may new.0)
    ]);
  }

  -- ---- a proof

  conviction_joins : (p : Proof) → (accused p ≡ v.node → ⊥) → MayJoin (Conviction p ∷ [])
  conviction_joins p spared = record {
    from = λ u never. absurd never;
    hashed = λ x never. absurd never;
    authentic = λ s never. absurd never;
    spares = λ q on named. elim on [ inl same ↦ spared (ap accused same ∙ named) | inr never ↦ never ];
  }

  pub proof_step : (C : List Record) (p : Proof) → HasJoined C → IsIn p (flat_map proof_by K) → IsProof p → IsGoodAt (setting_of W v) p → full_by a.node C (growth (setting_of W a) C (given_proof p)) ≡ None → IsStep C (given_proof p)
  unfolding first_failed_check added
  proof_step C p j on fits good room =
      let other : eqb (accused p) a.node ≡ false = false_from_ne_true _ (λ e. sender_spares W a v K m p a on m.reader (eqb-true _ _ e)) in
      step_by C (given_proof p) j fits (checks_of_good (setting_of W a) p other good.good) room (λ new. conviction_joins p (sender_spares W a v K m p v on m.sender))

  -- ---- statements of the sender itself

  -- they contradict nothing that the reader has
  own_is_quiet : (C : List Record) (s : Statement) → HasJoined C → IsIn s (own K) → (f : Signed) → IsIn f (foreign C) → (k : Kind) → contradicts k f.statement s ≡ true → ⊥
  own_is_quiet C s j on f f_on k e =
      let writer : writer_of f.statement ≡ v.node = eqb-true _ _ (same_writer k f.statement s e) ∙ own_writer (setting_of W v) K (sender_lawful W a v K m) s on in
      own_agree (setting_of W v) v.journal (journal_lawful W m.world v m.sender) f.statement s (j.authentic f f_on writer) (still_told W a v K m own_by s on) k e

  pub own_has_no_opponent : (C : List Record) (s : Statement) → HasJoined C → IsIn s (own K) → opponent (foreign C) s ≡ None
  own_has_no_opponent C s j on = without_opponent (foreign C) s (own_is_quiet C s j on)

  pub foreign_joins : (s : Signed) → ((u : Update) → IsIn u (update_in s.statement) → IsIn u (accepted K)) → (writer_of s.statement ≡ v.node → IsIn s.statement (own v.journal)) → MayJoin (Foreign s ∷ [])
  foreign_joins s from authentic = record {
    from = λ u on. from u (subst (λ (us : List Update). IsIn u us) (append-nil (update_in s.statement)) on);
    hashed = λ x never. absurd never;
    authentic = λ t on writer. elim on [ inl same ↦ subst (λ (x : Signed). IsIn x.statement (own v.journal)) same (authentic (ap (λ (x : Signed). writer_of x.statement) same ∙ writer)) | inr never ↦ absurd never ];
    spares = λ p never. absurd never;
  }

  -- ---- a voucher

  -- what is asked of a signed voucher of the sender
  pub record IsVoucherOf (s : Signed) (w : Voucher) : Type 0 where
    pub is : s.statement ≡ statement.Voucher w
    pub on : IsIn (statement.Voucher w) (own K)
    pub fits : IsSigned s
    pub verified : is_signed W.verifies W.listed s ≡ true

  voucher_writer : (s : Signed) (w : Voucher) → IsVoucherOf s w → writer_of s.statement ≡ v.node
  voucher_writer s w t = ap writer_of t.is ∙ own_writer (setting_of W v) K (sender_lawful W a v K m) (statement.Voucher w) t.on

  not_convicted : (C : List Record) (w : Voucher) → is_convicted C w.node ≡ false → refused_as_convicted C (statement.Voucher w) ≡ None
  unfolding refused_as_convicted
  not_convicted C w e = rw e refl

  pub voucher_passes : (C : List Record) (s : Signed) (w : Voucher) → HasJoined C → IsVoucherOf s w → first_failed_check (setting_of W a) C (given_statement s) ≡ None
  unfolding first_failed_check
  voucher_passes C s w j t =
      let writer = voucher_writer s w t in
      let node : w.node ≡ v.node = ap writer_of (sym t.is) ∙ writer in
      none_from_passes (setting_of W a) C s (record {
        known = subst (λ (n : ℕ). has_node W.listed n ≡ true) (sym writer) (m.world.correct v m.sender).member;
        other = false_from_ne_true _ (λ e. m.distinct (sym (eqb-true _ _ e) ∙ writer));
        signed = t.verified;
        content = subst (λ (x : Statement). AllNone (content_of C x)) (sym t.is) tt;
        forked = subst (λ (x : Statement). forked C x ≡ None) (sym t.is) (no_fork_alone C (statement.Voucher w) (own_has_no_opponent C (statement.Voucher w) j t.on));
        convicted = subst (λ (x : Statement). refused_as_convicted C x ≡ None) (sym t.is) (not_convicted C w (subst (λ (n : ℕ). is_convicted C n ≡ false) (sym node) j.spares));
      })

  vouches_nothing : (C : List Record) (s : Signed) (w : Voucher) → s.statement ≡ statement.Voucher w → front_of C s ≡ []
  unfolding is_vouched
  vouches_nothing C s w is = rw is refl

  pub voucher_added : (C : List Record) (s : Signed) (w : Voucher) → s.statement ≡ statement.Voucher w → added C (given_statement s) ≡ Foreign s ∷ []
  voucher_added C s w is = added_is C s ∙ ap (λ (x : List Record). x ++ Foreign s ∷ []) (vouches_nothing C s w is)

  pub voucher_step : (C : List Record) (s : Signed) (w : Voucher) → HasJoined C → IsVoucherOf s w → full_by a.node C (growth (setting_of W a) C (given_statement s)) ≡ None → IsStep C (given_statement s)
  voucher_step C s w j t room =
      step_by C (given_statement s) j t.fits (voucher_passes C s w j t) room (λ new. subst MayJoin (sym (voucher_added C s w t.is))
      (foreign_joins s (λ u on. absurd (subst (λ (x : Statement). IsIn u (update_in x)) t.is on))
      (λ writer. subst (λ (x : Statement). IsIn x (own v.journal)) (sym t.is) (still_told W a v K m own_by (statement.Voucher w) t.on))))
