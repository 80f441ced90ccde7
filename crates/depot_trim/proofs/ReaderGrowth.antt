-- A reader whose journal has grown: what was trimmed stays, and what is new is kept.
use Rattle.std.proofs.Common.{◌≡◌, Bool, true, false, not, cond, List, [], ◌∷◌, ◌++◌, Option, Some, None, Result, Ok, Err, refl, sym, ap, subst, ◌∙◌, inl, inr, ◌⊎◌, append_assoc}
use Rattle.std.proofs.lemmas.Bool.{both_ways, false_from_ne_true}
use Rattle.std.proofs.lemmas.Grind.{flat_map-append}
use Rattle.std.proofs.lemmas.List.{append-nil}
use Rattle.depot_base.specs.declared.check.Check.{Check}
use Rattle.depot_base.specs.declared.check.Check.TheVariants as check
use Rattle.depot_base.specs.declared.proof.Kind.{Kind}
use Rattle.depot_base.specs.declared.record.Record.{Record}
use Rattle.depot_base.specs.declared.record.Record.TheVariants.{Foreign, Conviction}
use Rattle.depot_base.specs.declared.statement.Signed.{Signed}
use Rattle.depot_base.specs.declared.statement.Statement.{Statement}
use Rattle.depot_base.specs.declared.statement.Statement.TheVariants as statement
use Rattle.depot_base.specs.declared.update.Update.{Update}
use Rattle.depot_base.specs.Statement.{writer_of}
use Rattle.depot_model.specs.declared.taken.Taken.{Taken}
use Rattle.depot_model.specs.declared.taken.Taken.TheVariants.{New, Known}
use Rattle.depot_model.specs.checks.Checks.{Setting, Given, given_statement, given_proof, given_value, opponent, named_opponent, is_kept, answer_to, due, added, exposed, growth_by, growth}
use Rattle.depot_model.specs.updates.Conviction.{proof_of}
use Rattle.depot_model.specs.journals.Journal.{accepted, accepted_by, foreign, has_id, is_convicted, is_vouched, update_in}
use Rattle.depot_model.specs.lists.Lists.{IsIn}
use Rattle.depot_model.specs.readers.Readers.{Reader, left_of, kept, with_more}
use Rattle.depot_model.specs.texts.Texts.{id_of_update}
use Rattle.depot_model.specs.readers.Trimming.{is_trimmed}
use Rattle.depot_model.proofs.lists.Members.{from_filter}
use Rattle.depot_model.proofs.of_updates.NamedIds.{has_id_from, has_id_to}
use Rattle.depot_laws.proofs.of_readers.PrunedReadings.{filter_both}
use Rattle.depot_laws.proofs.lists.Splits.{flat_left}
use Rattle.depot_laws.proofs.records.Taken.{new_is}
use Rattle.depot_trim.specs.ReaderView.{WasTrimmed}

-- ---- what was trimmed

-- it is accepted in the journal that went on
pub trimmed_within : (R : Reader) → WasTrimmed R → (u : Update) → IsIn u R.trimmed → IsIn u (accepted R.journal)
trimmed_within R w u on =
    let there = (from_filter (is_trimmed w.front w.ids) u (accepted w.front) (subst (λ (ts : List Update). IsIn u ts) w.trimmed on)).0 in
    subst (λ (J : List Record). IsIn u (accepted J)) (sym w.journal) (flat_left accepted_by u w.front w.more there)

-- it stays so as the journal goes on
pub trimmed_still : (R : Reader) (new : List Record) → WasTrimmed R → WasTrimmed (with_more R new)
trimmed_still R new w = record {
  front = w.front;
  more = w.more ++ new;
  ids = w.ids;
  journal = ap (λ (J : List Record). J ++ new) w.journal ∙ append_assoc w.front w.more new;
  trimmed = w.trimmed;
}

-- ---- what a growth brings

-- nothing, or an update that is new
abbrev pub Brings : List Record → List Record → Type 0
Brings J new = (accepted new ≡ []) ⊎ ((u : Update) × ((accepted new ≡ u ∷ []) × (has_id (accepted J) (id_of_update u) ≡ false)))

due_brings : (K : List Record) (s : Signed) (o : Option (Signed × Kind)) → accepted (due K s o) ≡ []
unfolding due
due_brings K s None = refl
due_brings K s (Some o) = by_test (is_convicted K (writer_of s.statement)) where
  by_test : (b : Bool) → accepted (cond b [] (Conviction (proof_of o.1 o.0 s) ∷ [])) ≡ []
  by_test true = refl
  by_test false = refl

statement_brings : (J : List Record) (s : Signed) (st : Statement) → s.statement ≡ st → is_kept J st ≡ false → Brings J (Foreign s ∷ [])
statement_brings J s (statement.Update u) is new = inr (u, (ap (λ (x : Statement). update_in x ++ []) is, new))
statement_brings J s (statement.Voucher v) is new = inl (ap (λ (x : Statement). update_in x ++ []) is)

-- earlier convictions bring nothing
behind_none : (J front new : List Record) → accepted front ≡ [] → Brings J new → Brings J (front ++ new)
behind_none J front new none brings =
    let same : accepted (front ++ new) ≡ accepted new = flat_map-append accepted_by front new ∙ ap (λ (us : List Update). us ++ accepted new) none in
    elim brings [
      | inl nothing ↦ inl (same ∙ nothing)
      | inr one ↦ inr (one.0, (same ∙ one.1.0, one.1.1))
    ]

front_brings : (J : List Record) (s : Signed) (b : Bool) → accepted (cond b (due J s (opponent (foreign J) s.statement)) []) ≡ []
front_brings J s true = due_brings J s (opponent (foreign J) s.statement)
front_brings J s false = refl

added_brings : (here : Setting) (J : List Record) (x : Given) → answer_to here J x ≡ Ok New → Brings J (added J x)
unfolding added
added_brings here J (given_statement s) e = behind_none J (cond (is_vouched J s.statement) (due J s (opponent (foreign J) s.statement)) []) (Foreign s ∷ []) (front_brings J s (is_vouched J s.statement)) (statement_brings J s s.statement refl (new_is here J s e).new)
added_brings here J (given_proof p) e = inl refl
added_brings here J (given_value v) e = inl refl

exposed_brings : (J : List Record) (x : Given) (c : Check) → accepted (exposed J x c) ≡ []
exposed_brings J (given_statement s) (check.Forked kept came kind) = due_brings J s (opponent (foreign J) s.statement)
exposed_brings J (given_statement s) (check.Backward h) = due_brings J s (named_opponent (foreign J) h s.statement)
exposed_brings J x c = refl

pub growth_brings : (here : Setting) (J : List Record) (x : Given) → Brings J (growth here J x)
unfolding growth
growth_brings here J x = by_answer (answer_to here J x) refl where
  by_answer : (a : Result Taken Check) → answer_to here J x ≡ a → Brings J (growth_by J x a)
  by_answer (Ok Known) is = inl refl
  by_answer (Ok New) is = added_brings here J x is
  by_answer (Err c) is = inl (exposed_brings J x c)

-- ---- what is kept

-- an update that isn't accepted yet is none of the trimmed ones
new_is_left : (T us : List Update) (u : Update) → ((t : Update) → IsIn t T → IsIn t us) → has_id us (id_of_update u) ≡ false → has_id T (id_of_update u) ≡ false
new_is_left T us u within new = false_from_ne_true (has_id T (id_of_update u)) (λ e.
    let t = has_id_to T (id_of_update u) e in
    both_ways (has_id us (id_of_update u)) new (has_id_from us (id_of_update u) t.0 (within t.0 t.1.0) t.1.1))

one_left : (T : List Update) (u : Update) → has_id T (id_of_update u) ≡ false → left_of T (u ∷ []) ≡ u ∷ []
one_left T u new = rw new refl

all_left : (T : List Update) (J new : List Record) → ((t : Update) → IsIn t T → IsIn t (accepted J)) → Brings J new → left_of T (accepted new) ≡ accepted new
all_left T J new within (inl none) = ap (left_of T) none ∙ sym none
all_left T J new within (inr one) = ap (left_of T) one.1.0 ∙ one_left T one.0 (new_is_left T (accepted J) one.0 within one.1.1) ∙ sym one.1.0

-- what a growth brings is kept
pub kept_grows : (R : Reader) (x : Given) → WasTrimmed R → kept (with_more R (growth R.here R.journal x)) ≡ kept R ++ accepted (growth R.here R.journal x)
unfolding kept
kept_grows R x w =
    let new = growth R.here R.journal x in
    ap (left_of R.trimmed) (flat_map-append accepted_by R.journal new)
    ∙ filter_both (λ u. not (has_id R.trimmed (id_of_update u))) (accepted R.journal) (accepted new)
    ∙ ap (λ (us : List Update). left_of R.trimmed (accepted R.journal) ++ us) (all_left R.trimmed R.journal new (trimmed_within R w) (growth_brings R.here R.journal x))

-- ---- no growth

-- a reader whose journal has grown by nothing is the same
pub none_more : (R : Reader) → with_more R [] ≡ R
none_more R = ap (λ (J : List Record). record R { journal = J }) (append-nil R.journal)
