-- The own updates of a node: those of its accepted updates that it wrote.
use Rattle.std.proofs.Common.{◌≡◌, ℕ, suc, ◌+◌, ◌==◌, List, [], ◌∷◌, ◌++◌, take, drop, Bool, true, false, Some, refl, sym, ap, ◌∙◌}
use Rattle.std.specs.List.{filter, flat_map}
use Rattle.std.specs.Prelude.{slice_get}
use Rattle.std.proofs.lemmas.Bool.{eq-eqb, eqb-true}
use Rattle.std.proofs.lemmas.Grind.{flat_map-append}
use Rattle.std.proofs.lemmas.List.{take_more}
use Rattle.std.proofs.lemmas.List.Elements.{filter-append}
use Rattle.std.proofs.lemmas.Option.{get_or_from_slice_get, slice_get_within}
use Rattle.depot_base.specs.Statement.{writer_of}
use Rattle.depot_base.specs.declared.record.Record.{Record}
use Rattle.depot_base.specs.declared.record.Record.TheVariants.{Birth, OwnPut, OwnVoucher, Foreign, Conviction, Held}
use Rattle.depot_base.specs.declared.statement.Statement.{Statement}
use Rattle.depot_base.specs.declared.statement.Statement.TheVariants as statement
use Rattle.depot_base.specs.declared.update.Update.{Update}
use Rattle.depot_laws.proofs.lists.Splits.{lawful_from_end}
use Rattle.depot_laws.proofs.records.Taken.{new_is}
use Rattle.depot_model.specs.checks.Checks.{Setting}
use Rattle.depot_model.specs.journals.Journal.{accepted, accepted_by, own, own_by, update_in}
use Rattle.depot_model.specs.journals.Lawful.{IsLawful, MayFollow}
use Rattle.depot_world.specs.Run.{first_update, own_update}
use Rattle.depot_base.proofs.GeneralLaws.{flat_push, parts_at}
use Rattle.depot_laws.proofs.own_updates.Nexts.{next_of}

-- ---- which they are

abbrev is_by : ℕ → Update → Bool
is_by me u = u.writer == me

abbrev has_seq : ℕ → Update → Bool
has_seq seq u = u.seq == seq

-- an update that passes a test, or fails it
passes : (test : Update → Bool) (u : Update) → test u ≡ true → filter test (u ∷ []) ≡ u ∷ []
passes test u is = rw is refl

fails : (test : Update → Bool) (u : Update) → test u ≡ false → filter test (u ∷ []) ≡ []
fails test u is = rw is refl

of_statement : (me : ℕ) (s : Statement) → (writer_of s == me) ≡ false → [] ≡ filter (is_by me) (update_in s)
of_statement me (statement.Update u) other = sym (fails (is_by me) u other)
of_statement me (statement.Voucher v) other = refl

-- those of a record that may follow
of_record : (here : Setting) (J : List Record) (r : Record) → MayFollow here J r → flat_map update_in (own_by r) ≡ filter (is_by here.me) (accepted_by r)
of_record here J (Birth node roster) may = refl
of_record here J (OwnPut u values) may = sym (passes (is_by here.me) u (eq-eqb u.writer here.me (ap (λ (x : Update). x.writer) (next_of may))))
of_record here J (OwnVoucher v) may = refl
of_record here J (Foreign s) may = of_statement here.me s.statement (new_is here J s may.0).passes.other
of_record here J (Conviction p) may = refl
of_record here J (Held value) may = refl

-- those of a lawful journal
pub own_are : (here : Setting) (J : List Record) → IsLawful here J → flat_map update_in (own J) ≡ filter (is_by here.me) (accepted J)
own_are here J l = lawful_from_end here (λ (J : List Record). flat_map update_in (own J) ≡ filter (is_by here.me) (accepted J)) refl
    (λ J r front allowed before.
    ap (flat_map update_in) (flat_push own_by J r) ∙ flat_map-append update_in (own J) (own_by r)
    ∙ ap (λ (x : List Update). x ++ flat_map update_in (own_by r)) before ∙ ap (λ (x : List Update). filter (is_by here.me) (accepted J) ++ x) (of_record here J r allowed.may)
    ∙ sym (filter-append (is_by here.me) (accepted J) (accepted_by r)) ∙ sym (ap (filter (is_by here.me)) (flat_push accepted_by J r))) J l

-- ---- the first of a number

-- the updates of a writer with this seq
abbrev pub of_seq : ℕ → ℕ → List Update → List Update
of_seq me seq us = filter (has_seq seq) (filter (is_by me) us)

pub own_by_seq : (here : Setting) (J : List Record) (seq : ℕ) → IsLawful here J → own_update J seq ≡ first_update (of_seq here.me seq (accepted J))
own_by_seq here J seq l = ap (λ (us : List Update). first_update (filter (has_seq seq) us)) (own_are here J l)

both_parts : (me seq : ℕ) (us vs : List Update) → of_seq me seq (us ++ vs) ≡ of_seq me seq us ++ of_seq me seq vs
both_parts me seq us vs = ap (filter (has_seq seq)) (filter-append (is_by me) us vs) ∙ filter-append (has_seq seq) (filter (is_by me) us) (filter (is_by me) vs)

-- it is found after some that it isn't among
pub found : (me seq : ℕ) (us : List Update) (i : ℕ) (u : Update) → slice_get us i ≡ Some u → of_seq me seq (take i us) ≡ [] → u.writer ≡ me → u.seq ≡ seq → first_update (of_seq me seq us) ≡ Some u
found me seq us i u at before writer number =
    ap (λ (x : List Update). first_update (of_seq me seq x)) (parts_at us i u at)
    ∙ ap first_update (both_parts me seq (take i us) (u ∷ drop (suc i) us) ∙ ap (λ (x : List Update). x ++ of_seq me seq (u ∷ drop (suc i) us)) before)
    ∙ rw (eq-eqb u.writer me writer) (rw (eq-eqb u.seq seq number) refl)

-- one more that it isn't
pub not_yet : (me seq : ℕ) (us : List Update) (i : ℕ) (u : Update) → slice_get us i ≡ Some u → of_seq me seq (take i us) ≡ [] → (u.writer ≡ me → u.seq ≡ seq → ⊥) → of_seq me seq (take (i + 1) us) ≡ []
not_yet me seq us i u at before other =
    ap (of_seq me seq) (take_more us i u (slice_get_within us i u at) ∙ ap (λ (x : Update). take i us ++ x ∷ []) (get_or_from_slice_get us i u u at))
    ∙ both_parts me seq (take i us) (u ∷ []) ∙ ap (λ (x : List Update). x ++ of_seq me seq (u ∷ [])) before ∙ by_tests (is_by me u) (has_seq seq u) refl refl
  where
    by_tests : (a b : Bool) → is_by me u ≡ a → has_seq seq u ≡ b → of_seq me seq (u ∷ []) ≡ []
    by_tests false b is number = ap (filter (has_seq seq)) (fails (is_by me) u is)
    by_tests true false is number = ap (filter (has_seq seq)) (passes (is_by me) u is) ∙ fails (has_seq seq) u number
    by_tests true true is number = absurd (other (eqb-true u.writer me is) (eqb-true u.seq seq number))
