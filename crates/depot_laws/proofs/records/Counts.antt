-- What the room for a record depends on: the bytes of the journal, and the leaves of other writers.
use Rattle.std.proofs.Common.{◌≡◌, ℕ, ◌+◌, false, not, cond, eqb, List, [], ◌∷◌, ◌++◌, length, Ok, refl, sym, ap, ◌∙◌, arith}
use Rattle.std.specs.List.{sum_by}
use Rattle.std.proofs.lemmas.List.Sums.{sum_by-append}
use Rattle.std.proofs.lemmas.Grind.{flat_map-append}
use Rattle.std.proofs.lemmas.Bool.{eq-eqb}
use Rattle.depot_base.specs.declared.update.Update.{Update}
use Rattle.depot_base.specs.declared.statement.Statement.{Statement}
use Rattle.depot_base.specs.declared.statement.Statement.TheVariants as statement
use Rattle.depot_base.specs.declared.statement.Signed.{Signed}
use Rattle.depot_base.specs.declared.proof.Proof.{Proof}
use Rattle.depot_base.specs.declared.record.Record.{Record}
use Rattle.depot_base.specs.declared.record.Record.TheVariants.{OwnPut, Foreign, Conviction}
use Rattle.depot_base.specs.Statement.{writer_of}
use Rattle.depot_model.specs.declared.taken.Taken.TheVariants.{New}
use Rattle.depot_model.specs.texts.Texts.{id_of_update}
use Rattle.depot_model.specs.texts.Records.{text_of_record, journal_bytes}
use Rattle.depot_model.specs.journals.Journal.{accepted, accepted_by, update_in}
use Rattle.depot_model.specs.checks.Own.{next_with, IsFresh}
use Rattle.depot_model.specs.checks.Checks.{Setting, given_statement, answer_to}
use Rattle.depot_model.specs.checks.Room.{foreign_leaves}
use Rattle.depot_model.specs.journals.Lawful.{IsLawful}
use Rattle.depot_laws.specs.Leaves.{follows_leaf}
use Rattle.depot_laws.proofs.lists.Splits.{silent, accepted_push}
use Rattle.depot_laws.proofs.records.Taken.{new_is}
use Rattle.depot_laws.proofs.records.Causes.{leaf_is_on, own_joins, content_of_new, taken_joins, lawful_is_causal}
use Rattle.depot_laws.proofs.orders.Prevs.{prev_writer, content_prev, put_prev}
use Rattle.depot_laws.proofs.records.LeafCounts.{others_count, own_count}
use Rattle.depot_base.specs.declared.write.Write.{Write}

-- ---- bytes

-- the bytes of a journal with more records
pub bytes_more : (J new : List Record) → journal_bytes (J ++ new) ≡ journal_bytes J + sum_by (λ r. 5 + length (text_of_record r)) new
bytes_more J new = omega (arith, sum_by-append (λ (r : Record). 5 + length (text_of_record r)) J new)

-- ---- records that bring no update

same_leaves : (me : ℕ) (J K : List Record) → accepted J ≡ accepted K → foreign_leaves me J ≡ foreign_leaves me K
unfolding foreign_leaves
same_leaves me J K same = rw same refl

pub silent_leaves : (me : ℕ) (J : List Record) (r : Record) → accepted_by r ≡ [] → foreign_leaves me (J ++ r ∷ []) ≡ foreign_leaves me J
silent_leaves me J r none = same_leaves me (J ++ r ∷ []) J (silent accepted_by J r none)

-- a conviction before other records
pub leaves_behind : (me : ℕ) (J : List Record) (p : Proof) (more : List Record) → foreign_leaves me (J ++ Conviction p ∷ more) ≡ foreign_leaves me (J ++ more)
leaves_behind me J p more = same_leaves me (J ++ Conviction p ∷ more) (J ++ more) (flat_map-append accepted_by J (Conviction p ∷ more) ∙ sym (flat_map-append accepted_by J more))

-- ---- an update of another

writer_is : (s : Statement) (u : Update) → s ≡ statement.Update u → writer_of s ≡ u.writer
writer_is s u e = ap writer_of e

-- the leaves of other writers with it
pub taken_count : (here : Setting) (J : List Record) (s : Signed) (u : Update) → IsLawful here J → s.statement ≡ statement.Update u → answer_to here J (given_statement s) ≡ Ok New
    → length (foreign_leaves here.me (J ++ Foreign s ∷ [])) ≡ length (foreign_leaves here.me J) + cond (follows_leaf (accepted J) u) 0 1
unfolding foreign_leaves
taken_count here J s u l is e =
    let n = new_is here J s e in
    let c = lawful_is_causal here J l in
    let content = content_of_new here J s u is n in
    let other : eqb u.writer here.me ≡ false = rw (← writer_is s.statement u is) n.passes.other in
    let one : accepted (J ++ Foreign s ∷ []) ≡ accepted J ++ u ∷ [] = accepted_push J (Foreign s) ∙ ap (λ (x : Statement). accepted J ++ update_in x) is in
    let count = others_count here.me (accepted J) u c (taken_joins here J s u is e) (ap not other)
    (λ t on id known. ap (λ (m : ℕ). not (eqb m here.me)) (prev_writer (accepted J) u t c (content_prev (accepted J) u content) (leaf_is_on (accepted J) t on) id known) ∙ ap not other) in
    rw one count

-- ---- an own update

pub next_writer : (me : ℕ) (J : List Record) (ws : List Write) → (next_with me J ws).writer ≡ me
next_writer me J ws = refl

-- the leaves of other writers with it
pub put_count : (here : Setting) (J : List Record) (u : Update) (values : List (List ℕ)) → IsLawful here J → u ≡ next_with here.me J u.writes → IsFresh J (id_of_update u)
    → length (foreign_leaves here.me (J ++ OwnPut u values ∷ [])) ≡ length (foreign_leaves here.me J)
unfolding foreign_leaves
put_count here J u values l next fresh =
    let writer : u.writer ≡ here.me = ap (λ (x : Update). x.writer) next ∙ next_writer here.me J u.writes in
    let mine : (m : ℕ) → m ≡ here.me → not (eqb m here.me) ≡ false = λ m e. ap not (eq-eqb m here.me e) in
    let c = lawful_is_causal here J l in
    let count = own_count here.me (accepted J) u c (own_joins here.me J u next fresh) (mine u.writer writer)
    (λ t on id known. mine t.writer (prev_writer (accepted J) u t c (put_prev here J u l next) (leaf_is_on (accepted J) t on) id known ∙ writer)) in
    rw (accepted_push J (OwnPut u values)) count
