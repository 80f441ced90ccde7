-- What the reader has after each sort of frame, and the steps of updates and values.
use Rattle.std.proofs.Common.{◌≡◌, ℕ, List, [], ◌∷◌, ◌++◌, length, Bool, true, false, ◌&&◌, Some, None, refl, sym, ap, subst, ◌∙◌, inl, inr, ◌⊎◌}
use Rattle.std.specs.List.{flat_map}
use Rattle.std.specs.Str.{bytes_eq}
use Rattle.std.proofs.lemmas.Grind.{flat_map-append}
use Rattle.std.proofs.lemmas.Slice.Eq.{bytes_eq-Decides}
use Rattle.std.proofs.lemmas.Bool.{eqb-true, false_from_ne_true, and_parts}
use Rattle.sha2.specs.Sha256.{sha256}
use Rattle.depot_base.proofs.Decoding.{in_one_way}
use Rattle.depot_base.specs.Sized.{IsValue}
use Rattle.depot_base.specs.Statement.{writer_of}
use Rattle.depot_base.specs.declared.update.Update.{Update}
use Rattle.depot_base.specs.declared.voucher.Voucher.{Voucher}
use Rattle.depot_base.specs.declared.statement.Statement.{Statement}
use Rattle.depot_base.specs.declared.statement.Statement.TheVariants as statement
use Rattle.depot_base.specs.declared.statement.Signed.{Signed}
use Rattle.depot_base.specs.declared.record.Record.{Record}
use Rattle.depot_base.specs.declared.record.Record.TheVariants.{Birth, OwnPut, OwnVoucher, Foreign, Conviction, Held}
use Rattle.depot_model.specs.lists.Lists.{IsIn}
use Rattle.depot_model.specs.texts.Texts.{statement as statement_text, IsStatement, IsSigned, text_of_statement, id_of_update}
use Rattle.depot_model.specs.texts.Roster.{has_node, is_signed}
use Rattle.depot_model.specs.updates.Conviction.{proof_of}
use Rattle.depot_model.specs.journals.Journal.{accepted, accepted_by, own, own_by, foreign, foreign_by, update_in, voucher_in, voucher_by, value_by, accused, vouched, held, has_id, is_convicted, is_vouched, holds_hash, is_wanted}
use Rattle.depot_model.specs.checks.Checks.{Setting, given_statement, given_value, sight, content_checks, content_of, opponent, forked, refused_as_convicted, first_failed_check, is_kept, is_known, added, growth}
use Rattle.depot_model.specs.checks.Room.{full_by}
use Rattle.depot_model.specs.worlds.World.{Correct, World, setting_of, hashed_texts, writes_of}
use Rattle.depot_model.proofs.lists.Members.{in_left, in_right, in_last, any_to}
use Rattle.depot_model.proofs.of_texts.TextLaws.{statement_lawful}
use Rattle.depot_model.proofs.of_texts.BodyLaws.{IsStatement-from_signed}
use Rattle.depot_model.proofs.of_updates.DueLaws.{no_fork_vouched, no_fork_alone}
use Rattle.depot_laws.proofs.lists.Splits.{given_by, given_too, flat_gives, flat_left}
use Rattle.depot_model.proofs.of_updates.NamedIds.{has_id_to}
use Rattle.depot_laws.proofs.records.Taken.{AllNone, none_from_passes}
use Rattle.depot_laws.proofs.convicting.Contrary.{kept_is_signed, accused_is, opponent_is}
use Rattle.depot_laws.proofs.records.Growing.{front_of, Convicts, front_cases, added_is, not_refused}
use Rattle.depot_laws.proofs.own_updates.OwnSteps.{own_writer}
use Rattle.depot_laws.proofs.own_updates.OwnTexts.{own_statement_fits}
use Rattle.depot_laws.proofs.of_worlds.Worlds.{value_hashed}
use Rattle.depot_laws.proofs.records.HeldValues.{held_is_brought}
use Rattle.depot_laws.proofs.exchanges.Meetings.{Meeting, sender_lawful, still_told, sender_write, reader_write, one_of_writes}
use Rattle.depot_laws.proofs.exchanges.Joining.{HasJoined, MayJoin, IsStep, step_by, outcome, own_has_no_opponent, foreign_joins, IsVoucherOf, voucher_passes, voucher_added}

-- ---- vouched ids

-- what a kept voucher names is vouched
vouched_by : (D : List Record) (s : Signed) (w : Voucher) (h : List ℕ) → IsIn s (foreign D) → s.statement ≡ statement.Voucher w → IsIn h w.ids → IsIn h (vouched D)
vouched_by D s w h on is named = flat_gives (λ (x : Signed). flat_map (λ (y : Voucher). y.ids) (voucher_in x.statement)) h s (foreign D) on (subst (λ (x : Statement). IsIn h (flat_map (λ (y : Voucher). y.ids) (voucher_in x))) (sym is) (in_left h w.ids [] named))

-- and stays vouched
pub vouched_more : (C more : List Record) (h : List ℕ) → IsIn h (vouched C) → IsIn h (vouched (C ++ more))
vouched_more C more h on = subst (λ (ss : List Signed). IsIn h (flat_map (λ (x : Signed). flat_map (λ (y : Voucher). y.ids) (voucher_in x.statement)) ss)) (sym (flat_map-append foreign_by C more)) (flat_left (λ (x : Signed). flat_map (λ (y : Voucher). y.ids) (voucher_in x.statement)) h (foreign C) (foreign more) on)

voucher_in_is : (x : Statement) (w : Voucher) → IsIn w (voucher_in x) → x ≡ statement.Voucher w
voucher_in_is (statement.Update u) w never = absurd never
voucher_in_is (statement.Voucher y) w (inl same) = ap (λ (z : Voucher). statement.Voucher z) same
voucher_in_is (statement.Voucher y) w (inr never) = absurd never

-- a voucher of a journal is the node's own, or a kept statement
voucher_cases : (r : Record) (w : Voucher) → IsIn w (voucher_by r) → IsIn (statement.Voucher w) (own_by r) ⊎ ((s : Signed) × (IsIn s (foreign_by r) × (s.statement ≡ statement.Voucher w)))
voucher_cases (OwnVoucher y) w (inl same) = inl (inl (ap (λ (z : Voucher). statement.Voucher z) same))
voucher_cases (OwnVoucher y) w (inr never) = absurd never
voucher_cases (Foreign s) w on = inr (s, (inl refl, voucher_in_is s.statement w on))
voucher_cases (Birth node h) w never = absurd never
voucher_cases (OwnPut u value) w never = absurd never
voucher_cases (Conviction p) w never = absurd never
voucher_cases (Held value) w never = absurd never

same_voucher : (x y : Voucher) → IsStatement (statement.Voucher x) → IsStatement (statement.Voucher y) → text_of_statement (statement.Voucher x) ≡ text_of_statement (statement.Voucher y) → x ≡ y
same_voucher x y fits_x fits_y e = let same : statement.Voucher x ≡ statement.Voucher y = (in_one_way statement_text 47779 statement_lawful).value (statement.Voucher x) (statement.Voucher y) fits_x fits_y e in cc

has_kept : (known kept : Bool) → (known && kept) ≡ true → kept ≡ true
has_kept known kept e = (and_parts known kept e).1

known_is_kept : (here : Setting) (C : List Record) (s : Signed) → is_known here C (given_statement s) ≡ true → is_kept C s.statement ≡ true
unfolding is_known
known_is_kept here C s e = has_kept (has_node here.listed (writer_of s.statement)) (is_kept C s.statement) e

module _ (W : World) (a v : Correct) (K : List Record) (m : Meeting W a v K) where
  -- ---- after a voucher

  -- a voucher of the sender that is known was taken from it
  kept_voucher : (C : List Record) (w : Voucher) → HasJoined W a v K m C → IsIn (statement.Voucher w) (own K) → is_kept C (statement.Voucher w) ≡ true → (s : Signed) × (IsIn s (foreign C) × (s.statement ≡ statement.Voucher w))
  kept_voucher C w j on e =
      let x = any_to (λ (x : Voucher). bytes_eq (text_of_statement (statement.Voucher x)) (text_of_statement (statement.Voucher w))) (flat_map voucher_by C) e in
      let same_text = (bytes_eq-Decides (text_of_statement (statement.Voucher x.0)) (text_of_statement (statement.Voucher w))).0 x.1.1 in
      let fits = own_statement_fits (setting_of W v) K (statement.Voucher w) (sender_lawful W a v K m) on in
      let g = given_by voucher_by x.0 C x.1.0 in
      elim (voucher_cases g.by x.0 g.given) [
        | inl mine ↦
            let own_one = given_too voucher_by own_by x.0 (statement.Voucher x.0) C g mine in
            let same : x.0 ≡ w = same_voucher x.0 w (own_statement_fits (setting_of W a) C (statement.Voucher x.0) j.lawful own_one) fits same_text in
            absurd (m.distinct (sym (own_writer (setting_of W a) C j.lawful (statement.Voucher x.0) own_one) ∙ ap (λ (y : Voucher). y.node) same ∙ own_writer (setting_of W v) K (sender_lawful W a v K m) (statement.Voucher w) on))
        | inr s ↦
            let kept = given_too voucher_by foreign_by x.0 s.0 C g s.1.0 in
            let text = subst (λ (y : Statement). IsStatement y) s.1.1 (IsStatement-from_signed s.0 (kept_is_signed (setting_of W a) C s.0 j.lawful kept)) in
            let same : x.0 ≡ w = same_voucher x.0 w text fits same_text in
            (s.0, (kept, s.1.1 ∙ ap (λ (y : Voucher). statement.Voucher y) same))
      ]

  -- after a voucher, each id that it names is vouched
  pub voucher_after : (C : List Record) (s : Signed) (w : Voucher) → HasJoined W a v K m C → IsVoucherOf W a v K m s w → (h : List ℕ) → IsIn h w.ids → IsIn h (vouched (C ++ growth (setting_of W a) C (given_statement s)))
  voucher_after C s w j t h named = elim (outcome (setting_of W a) C (given_statement s) (voucher_passes W a v K m C s w j t)) [
    | inl known ↦
        let k = kept_voucher C w j t.on (subst (λ (x : Statement). is_kept C x ≡ true) t.is (known_is_kept (setting_of W a) C s known.0)) in
        vouched_more C (growth (setting_of W a) C (given_statement s)) h (vouched_by C k.0 w h k.1.0 k.1.1 named)
    | inr new ↦
        let grown : growth (setting_of W a) C (given_statement s) ≡ Foreign s ∷ [] = new.1 ∙ voucher_added W a v K m C s w t.is in
        subst (λ (more : List Record). IsIn h (vouched (C ++ more))) (sym grown)
        (vouched_by (C ++ Foreign s ∷ []) s w h (flat_gives foreign_by s (Foreign s) (C ++ Foreign s ∷ []) (in_last C (Foreign s)) (inl refl)) t.is named)
  ]

  -- ---- an update

  -- What an update of the sender finds at the reader: it isn't the reader's, the checks of its content pass, and it is the sender's
  -- own or vouched.
  pub record Comes (C : List Record) (s : Signed) (u : Update) : Type 0 where
    pub is : s.statement ≡ statement.Update u
    pub fits : IsSigned s
    pub known : has_node W.listed u.writer ≡ true
    pub verified : is_signed W.verifies W.listed s ≡ true
    pub other : u.writer ≡ a.node → ⊥
    pub content : AllNone (content_checks u (sight (accepted C) u))
    pub on : IsIn u (accepted K)
    pub source : IsIn (statement.Update u) (own K) ⊎ ((is_vouched C (statement.Update u) ≡ true) × (u.writer ≡ v.node → ⊥))

  own_update_writer : (u : Update) → IsIn (statement.Update u) (own K) → u.writer ≡ v.node
  own_update_writer u on = own_writer (setting_of W v) K (sender_lawful W a v K m) (statement.Update u) on

  update_forked : (C : List Record) (s : Signed) (u : Update) → HasJoined W a v K m C → Comes C s u → forked C (statement.Update u) ≡ None
  update_forked C s u j c = elim c.source [
    | inl mine ↦ no_fork_alone C (statement.Update u) (own_has_no_opponent W a v K m C (statement.Update u) j mine)
    | inr other ↦ no_fork_vouched C (statement.Update u) other.0
  ]

  unconvicted : (C : List Record) (u : Update) → is_convicted C u.writer ≡ false → refused_as_convicted C (statement.Update u) ≡ None
  unfolding refused_as_convicted
  unconvicted C u e = rw e refl

  update_convicted : (C : List Record) (s : Signed) (u : Update) → HasJoined W a v K m C → Comes C s u → refused_as_convicted C (statement.Update u) ≡ None
  update_convicted C s u j c = elim c.source [
    | inl mine ↦ unconvicted C u (subst (λ (n : ℕ). is_convicted C n ≡ false) (sym (own_update_writer u mine)) j.spares)
    | inr other ↦ not_refused C (statement.Update u) other.0
  ]

  update_passes : (C : List Record) (s : Signed) (u : Update) → HasJoined W a v K m C → Comes C s u → first_failed_check (setting_of W a) C (given_statement s) ≡ None
  unfolding first_failed_check
  update_passes C s u j c = none_from_passes (setting_of W a) C s (record {
    known = subst (λ (x : Statement). has_node W.listed (writer_of x) ≡ true) (sym c.is) c.known;
    other = false_from_ne_true _ (λ e. c.other (sym (ap writer_of c.is) ∙ eqb-true _ _ e));
    signed = c.verified;
    content = subst (λ (x : Statement). AllNone (content_of C x)) (sym c.is) c.content;
    forked = subst (λ (x : Statement). forked C x ≡ None) (sym c.is) (update_forked C s u j c);
    convicted = subst (λ (x : Statement). refused_as_convicted C x ≡ None) (sym c.is) (update_convicted C s u j c);
  })

  -- the update itself
  itself_joins : (C : List Record) (s : Signed) (u : Update) → Comes C s u → MayJoin W a v K m (Foreign s ∷ [])
  itself_joins C s u c = foreign_joins W a v K m s
      (λ t on. elim (subst (λ (x : Statement). IsIn t (update_in x)) c.is on) [ inl same ↦ subst (λ (x : Update). IsIn x (accepted K)) same c.on | inr never ↦ absurd never ])
      (λ writer. elim c.source [
        | inl mine ↦ subst (λ (x : Statement). IsIn x (own v.journal)) (sym c.is) (still_told W a v K m own_by (statement.Update u) mine)
        | inr other ↦ absurd (other.1 (sym (ap writer_of c.is) ∙ writer))
      ])

  -- the conviction before it isn't the sender's
  convicted_is_other : (C : List Record) (s : Signed) (u : Update) → HasJoined W a v K m C → Comes C s u → (d : Convicts C s) → accused (proof_of d.due.by.1 d.due.by.0 s) ≡ v.node → ⊥
  convicted_is_other C s u j c d named =
      let names = accused_is d.due.by.1 d.due.by.0 s (opponent_is (foreign C) s.statement d.due.by d.due.there).contradict in
      elim c.source [
        | inl mine ↦
            let none : opponent (foreign C) s.statement ≡ None = subst (λ (x : Statement). opponent (foreign C) x ≡ None) (sym c.is) (own_has_no_opponent W a v K m C (statement.Update u) j mine) in
            let clash : None ≡ Some d.due.by = sym none ∙ d.due.there in
            cc
        | inr other ↦ other.1 (sym (ap writer_of c.is) ∙ sym names ∙ named)
      ]

  update_joins : (C : List Record) (s : Signed) (u : Update) → HasJoined W a v K m C → Comes C s u → MayJoin W a v K m (added C (given_statement s))
  update_joins C s u j c = elim (front_cases C s) [
    | inl none ↦ subst (λ (new : List Record). MayJoin W a v K m new) (sym (added_is C s ∙ ap (λ (x : List Record). x ++ Foreign s ∷ []) none)) (itself_joins C s u c)
    | inr d ↦
        let p = proof_of d.due.by.1 d.due.by.0 s in
        let front : front_of C s ≡ Conviction p ∷ [] = rw (d.vouched) d.due.is in
        let one = itself_joins C s u c in
        let both : MayJoin W a v K m (Conviction p ∷ Foreign s ∷ []) = record {
          from = one.from;
          hashed = one.hashed;
          authentic = one.authentic;
          spares = λ q on named. elim on [ inl same ↦ convicted_is_other C s u j c d (ap accused same ∙ named) | inr never ↦ never ];
        } in
        subst (λ (new : List Record). MayJoin W a v K m new) (sym (added_is C s ∙ ap (λ (x : List Record). x ++ Foreign s ∷ []) front)) both
  ]

  pub update_step : (C : List Record) (s : Signed) (u : Update) → HasJoined W a v K m C → Comes C s u → full_by a.node C (growth (setting_of W a) C (given_statement s)) ≡ None → IsStep W a v K m C (given_statement s)
  update_step C s u j c room = step_by W a v K m C (given_statement s) j c.fits (update_passes C s u j c) room (λ new. update_joins C s u j c)

  -- what the reader's journal accepted is a write of the world
  pub joined_write : (C : List Record) (u : Update) → HasJoined W a v K m C → IsIn u (accepted C) → IsIn u (writes_of W)
  joined_write C u j on = elim (j.from u on) [ inl mine ↦ reader_write W a v K m u mine | inr theirs ↦ sender_write W a v K m u theirs ]

  -- after an update, it is accepted
  pub update_after : (C : List Record) (s : Signed) (u : Update) → HasJoined W a v K m C → Comes C s u → IsIn u (accepted (C ++ growth (setting_of W a) C (given_statement s)))
  update_after C s u j c = elim (outcome (setting_of W a) C (given_statement s) (update_passes C s u j c)) [
    | inl known ↦
        let kept : has_id (accepted C) (id_of_update u) ≡ true = subst (λ (x : Statement). is_kept C x ≡ true) c.is (known_is_kept (setting_of W a) C s known.0) in
        let t = has_id_to (accepted C) (id_of_update u) kept in
        let same = one_of_writes W a v K m t.0 u (joined_write C t.0 j t.1.0) (sender_write W a v K m u c.on) t.1.1 in
        flat_left accepted_by u C (growth (setting_of W a) C (given_statement s)) (subst (λ (x : Update). IsIn x (accepted C)) same t.1.0)
    | inr new ↦
        let grown : growth (setting_of W a) C (given_statement s) ≡ front_of C s ++ Foreign s ∷ [] = new.1 ∙ added_is C s in
        subst (λ (more : List Record). IsIn u (accepted (C ++ more))) (sym grown)
        (flat_gives accepted_by u (Foreign s) (C ++ (front_of C s ++ Foreign s ∷ [])) (in_right (Foreign s) C (front_of C s ++ Foreign s ∷ []) (in_last (front_of C s) (Foreign s)))
        (subst (λ (x : Statement). IsIn u (update_in x)) (sym c.is) (inl refl)))
  ]

  -- ---- a value

  -- what is asked of a value: the sender held it, and an accepted update names it
  pub record IsValueFor (C : List Record) (x : List ℕ) : Type 0 where
    pub on : IsIn x (flat_map value_by K)
    pub fits : IsValue x
    pub wanted : is_wanted (accepted C) (sha256 x) (length x) ≡ true

  value_passes : (C : List Record) (x : List ℕ) → IsValueFor C x → first_failed_check (setting_of W a) C (given_value x) ≡ None
  unfolding first_failed_check
  value_passes C x t = let e = t.wanted in rw e refl

  sender_hashed : (x : List ℕ) → IsIn x (flat_map value_by K) → IsIn x (hashed_texts W)
  sender_hashed x on = value_hashed W v x m.sender (still_told W a v K m value_by x on)

  pub value_step : (C : List Record) (x : List ℕ) → HasJoined W a v K m C → IsValueFor C x → full_by a.node C (growth (setting_of W a) C (given_value x)) ≡ None → IsStep W a v K m C (given_value x)
  unfolding added
  value_step C x j t room = step_by W a v K m C (given_value x) j t.fits (value_passes C x t) room (λ new. record {
    from = λ u never. absurd never;
    hashed = λ y on. elim on [ inl same ↦ subst (λ (z : List ℕ). IsIn z (hashed_texts W)) same (sender_hashed x t.on) | inr never ↦ absurd never ];
    authentic = λ s never. absurd never;
    spares = λ p never. absurd never;
  })

  known_hash : (C : List Record) (x : List ℕ) → is_known (setting_of W a) C (given_value x) ≡ true → holds_hash C (sha256 x) ≡ true
  unfolding is_known
  known_hash C x e = e

  -- two values of one hash that either brought are one
  pub one_value : (x y : List ℕ) → IsIn x (hashed_texts W) → IsIn y (flat_map value_by K) → sha256 x ≡ sha256 y → x ≡ y
  one_value x y x_on y_on e = m.free.one x y x_on (sender_hashed y y_on) e

  -- after a value, the reader's journal has it
  pub value_after : (C : List Record) (x : List ℕ) → HasJoined W a v K m C → IsValueFor C x → IsIn x (flat_map value_by (C ++ growth (setting_of W a) C (given_value x)))
  unfolding added holds_hash
  value_after C x j t = elim (outcome (setting_of W a) C (given_value x) (value_passes C x t)) [
    | inl known ↦
        let y = any_to (λ (y : List ℕ). bytes_eq (sha256 y) (sha256 x)) (held C) (known_hash C x known.0) in
        let y_on = held_is_brought C y.0 y.1.0 in
        let same = one_value y.0 x (j.hashed y.0 y_on) t.on ((bytes_eq-Decides (sha256 y.0) (sha256 x)).0 y.1.1) in
        flat_left value_by x C (growth (setting_of W a) C (given_value x)) (subst (λ (z : List ℕ). IsIn z (flat_map value_by C)) same y_on)
    | inr new ↦
        subst (λ (more : List Record). IsIn x (flat_map value_by (C ++ more))) (sym new.1)
        (flat_gives value_by x (Held x) (C ++ Held x ∷ []) (in_last C (Held x)) (inl refl))
  ]
