-- No reader answers that an own statement of a correct node is below its checkpoint.
use Rattle.std.proofs.Common.{◌≡◌, ℕ, Bool, true, false, cond, ◌||◌, ◌&&◌, List, [], ◌∷◌, ◌++◌, take, Option, Some, None, refl, sym, ap, subst, ◌∙◌, inl, inr, ◌⊎◌}
use Rattle.std.specs.Prelude.{find, is_some, option_map}
use Rattle.std.specs.List.{flat_map}
use Rattle.std.specs.Str.{bytes_eq}
use Rattle.std.proofs.lemmas.Bool.{and_parts, both_ways, false_from_ne_true}
use Rattle.depot_base.specs.Statement.{writer_of}
use Rattle.depot_base.specs.declared.key.RosterEntry.{RosterEntry}
use Rattle.depot_base.specs.declared.update.Update.{Update}
use Rattle.depot_base.specs.declared.voucher.Voucher.{Voucher}
use Rattle.depot_base.specs.declared.statement.Statement.{Statement}
use Rattle.depot_base.specs.declared.statement.Statement.TheVariants as statement
use Rattle.depot_base.specs.declared.statement.Signed.{Signed}
use Rattle.depot_base.specs.declared.record.Record.{Record}
use Rattle.depot_base.proofs.GeneralLaws.{second_fails}
use Rattle.depot_model.specs.lists.Lists.{IsIn, first}
use Rattle.depot_model.specs.texts.Texts.{id_of_update, text_of_statement}
use Rattle.depot_model.specs.texts.Roster.{has_node}
use Rattle.depot_model.specs.journals.Journal.{accepted, accepted_by, voucher_by, own}
use Rattle.depot_model.specs.checks.Checks.{Setting, given_statement, is_kept, is_known}
use Rattle.depot_model.specs.exchange.Bundle.{is_covered}
use Rattle.depot_model.specs.worlds.World.{Correct, World, setting_of, IsWorld, IsAuthentic}
use Rattle.depot_model.proofs.lists.Members.{any_from, any_to, from_filter, in_filter}
use Rattle.depot_model.proofs.of_updates.NamedIds.{has_id_from, has_id_to}
use Rattle.depot_laws.specs.OneText.{HaveOneText}
use Rattle.depot_laws.proofs.lists.Splits.{flat_left}
use Rattle.depot_laws.proofs.own_updates.OwnSteps.{own_writer}
use Rattle.depot_laws.proofs.of_worlds.Worlds.{journal_lawful}
use Rattle.depot_model.specs.readers.Trimming.{below, is_signed_by, is_trimmed, trimmed, names}
use Rattle.depot_model.specs.readers.Pruning.{checks_to_signature, below_of}
use Rattle.depot_laws.proofs.of_readers.TrimLaw.{trim}

-- what is found passes the test
found_is : {X : Type 0} (test : X → Bool) (xs : List X) (x : X) → find test xs ≡ Some x → IsIn x xs × (test x ≡ true)
found_is test [] x e = absurd cc
found_is test (y ∷ ys) x e = by_test (test y) refl e (λ later. found_is test ys x later) where
  by_test : (b : Bool) → test y ≡ b → cond b (Some y) (find test ys) ≡ Some x → (find test ys ≡ Some x → IsIn x ys × (test x ≡ true)) → ((y ≡ x) ⊎ IsIn x ys) × (test x ≡ true)
  by_test true is e later = let same : y ≡ x = cc in (inl same, ap test (sym same) ∙ is)
  by_test false is e later = let r = later e in (inr r.0, r.1)

-- what is kept is kept with more after
kept_more : (J more : List Record) (s : Statement) → is_kept J s ≡ true → is_kept (J ++ more) s ≡ true
kept_more J more (statement.Update u) e = let t = has_id_to (accepted J) (id_of_update u) e in has_id_from (accepted (J ++ more)) (id_of_update u) t.0 (flat_left accepted_by t.0 J more t.1.0) t.1.1
kept_more J more (statement.Voucher v) e =
    let test : Voucher → Bool = λ w. bytes_eq (text_of_statement (statement.Voucher w)) (text_of_statement (statement.Voucher v)) in
    let w = any_to test (flat_map voucher_by J) e in
    any_from test w.0 (flat_map voucher_by (J ++ more)) (flat_left voucher_by w.0 J more w.1.0) w.1.1

-- what is trimmed is below
pub trimmed_below : (J : List Record) (ids : List (List ℕ)) (u : Update) → IsIn u (trimmed J ids) → IsIn u (below J ids)
unfolding is_trimmed
trimmed_below J ids u on =
    let f = from_filter (is_trimmed J ids) u (accepted J) on in
    in_filter (is_covered (accepted J) ids) u (accepted J) f.0 (and_parts (is_covered (accepted J) ids u) _ f.1).0

known_is : (here : Setting) (K : List Record) (s : Signed) → is_known here K (given_statement s) ≡ false → (has_node here.listed (writer_of s.statement) && is_kept K s.statement) ≡ false
unfolding is_known
known_is here K s e = e

module _ (W : World) (world : IsWorld W) (authentic : IsAuthentic W) (free : HaveOneText W) where
  none_stands : (c d : Correct) (n : ℕ) (text : List ℕ) (ids : List (List ℕ)) (more : List Record) (s : Signed) → IsIn c W.nodes → IsIn d W.nodes → ((e : RosterEntry) → IsIn e W.listed → is_signed_by (take n c.journal) text ids e.node ≡ true) → IsIn s.statement (own d.journal)
      → (known : Bool) → is_known (setting_of W c) (take n c.journal ++ more) (given_statement s) ≡ known → (early : Bool) → (o : Option Update) → find (names s.statement) (trimmed (take n c.journal) ids) ≡ o → cond (known || early) None (option_map id_of_update o) ≡ None
  none_stands c d n text ids more s c_on d_on signed s_on true known_e early o o_is = refl
  none_stands c d n text ids more s c_on d_on signed s_on false known_e true o o_is = refl
  none_stands c d n text ids more s c_on d_on signed s_on false known_e false None o_is = refl
  none_stands c d n text ids more s c_on d_on signed s_on false known_e false (Some t) o_is =
      let J = take n c.journal in
      let f = found_is (names s.statement) (trimmed J ids) t o_is in
      let member : has_node W.listed (writer_of s.statement) ≡ true = subst (λ (m : ℕ). has_node W.listed m ≡ true) (sym (own_writer (setting_of W d) d.journal (journal_lawful W world d d_on) s.statement s_on)) (world.correct d d_on).member in
      let new = second_fails (has_node W.listed (writer_of s.statement)) (is_kept (J ++ more) s.statement) member (known_is (setting_of W c) (J ++ more) s known_e) in
      let absent = false_from_ne_true (is_kept J s.statement) (λ kept. both_ways _ new (kept_more J more s.statement kept)) in
      absurd (trim W world authentic free c d n text ids s.statement t c_on d_on signed s_on absent (trimmed_below J ids t f.0) f.1)

  -- whatever the reader has taken since
  pub never_below : (c d : Correct) (n : ℕ) (text : List ℕ) (ids : List (List ℕ)) (more : List Record) (s : Signed) → IsIn c W.nodes → IsIn d W.nodes → ((e : RosterEntry) → IsIn e W.listed → is_signed_by (take n c.journal) text ids e.node ≡ true) → IsIn s.statement (own d.journal)
      → below_of (setting_of W c) (take n c.journal ++ more) (trimmed (take n c.journal) ids) s ≡ None
  unfolding below_of
  never_below c d n text ids more s c_on d_on signed s_on =
      none_stands c d n text ids more s c_on d_on signed s_on (is_known (setting_of W c) (take n c.journal ++ more) (given_statement s)) refl (is_some (first (checks_to_signature (setting_of W c) s))) (find (names s.statement) (trimmed (take n c.journal) ids)) refl
