-- Contradictions are mutual, and the proof that is made of one is good.
use Rattle.std.proofs.Common.{◌≡◌, ℕ, true, false, eqb, List, refl, sym, ◌∙◌}
use Rattle.std.specs.Str.{bytes_eq}
use Rattle.std.specs.declared.cmp.Ordering.{Ordering}
use Rattle.std.specs.declared.cmp.Ordering.TheVariants.{Less, Equal, Greater}
use Rattle.std.specs.Ordering.{nat_cmp, is_lt, is_eq, ordering_reverse}
use Rattle.std.specs.Cmp.Lexicographic.{slice_cmp}
use Rattle.std.proofs.Math.Bool.{or_comm}
use Rattle.std.proofs.lemmas.Cmp.{nat_list_cmp_total}
use Rattle.std.proofs.lemmas.Map.Text.{is_eq-slice_cmp}
use Rattle.depot_base.specs.Parts.{is_below}
use Rattle.depot_base.specs.Statement.{writer_of, seq_of}
use Rattle.depot_base.specs.declared.statement.Statement.{Statement}
use Rattle.depot_base.specs.declared.statement.Statement.TheVariants as statement
use Rattle.depot_base.specs.Shown.{IsPairKind}
use Rattle.std.proofs.lemmas.Bool.{both_ways}
use Rattle.depot_base.specs.declared.proof.Kind.{Kind}
use Rattle.depot_base.specs.declared.proof.Kind.TheVariants.{SameNumber, SamePrev, Backward, NotUpdate}
use Rattle.std.proofs.lemmas.Bool.{and_parts, not-true}
use Rattle.depot_base.proofs.GeneralLaws.{eqb_comm, bytes_eq_comm}
use Rattle.depot_model.specs.texts.Texts.{text_of_statement}
use Rattle.depot_model.specs.updates.Contradictions.{goes_back, is_of_kind, contradicts}

-- ---- mutual

is_of_kind_comm : (k : Kind) (a b : Statement) → is_of_kind k a b ≡ is_of_kind k b a
unfolding is_of_kind
is_of_kind_comm SameNumber a b = eqb_comm (seq_of a) (seq_of b)
is_of_kind_comm SamePrev (statement.Update t) (statement.Update u) = bytes_eq_comm t.prev u.prev
is_of_kind_comm SamePrev (statement.Update t) (statement.Voucher v) = refl
is_of_kind_comm SamePrev (statement.Voucher v) (statement.Update u) = refl
is_of_kind_comm SamePrev (statement.Voucher v) (statement.Voucher w) = refl
is_of_kind_comm Backward (statement.Update t) (statement.Update u) = or_comm (goes_back t u) (goes_back u t)
is_of_kind_comm Backward (statement.Update t) (statement.Voucher v) = refl
is_of_kind_comm Backward (statement.Voucher v) (statement.Update u) = refl
is_of_kind_comm Backward (statement.Voucher v) (statement.Voucher w) = refl
is_of_kind_comm NotUpdate a b = refl

-- what one statement is to another, the other is to it
pub contradicts_comm : (k : Kind) (a b : Statement) → contradicts k a b ≡ contradicts k b a
unfolding contradicts
contradicts_comm k a b = rw (eqb_comm (writer_of a) (writer_of b), bytes_eq_comm (text_of_statement a) (text_of_statement b), is_of_kind_comm k a b) refl

-- ---- what a contradiction says

-- the writers are one
pub same_writer : (k : Kind) (a b : Statement) → contradicts k a b ≡ true → eqb (writer_of a) (writer_of b) ≡ true
unfolding contradicts
same_writer k a b e = (and_parts _ _ (and_parts _ (is_of_kind k a b) e).0).0

-- and the kind is one of two statements
pub pair_kind : (k : Kind) (a b : Statement) → contradicts k a b ≡ true → IsPairKind k
unfolding contradicts is_of_kind
pair_kind SameNumber a b e = tt
pair_kind SamePrev a b e = tt
pair_kind Backward a b e = tt
pair_kind NotUpdate a b e = absurd (let p = and_parts _ false e in both_ways false refl p.1)

-- the bodies differ
pub other_body : (k : Kind) (a b : Statement) → contradicts k a b ≡ true → bytes_eq (text_of_statement a) (text_of_statement b) ≡ false
unfolding contradicts
other_body k a b e = not-true _ (and_parts (eqb (writer_of a) (writer_of b)) _ (and_parts _ (is_of_kind k a b) e).0).1

-- ---- smaller bodies

above : (o p : Ordering) → o ≡ ordering_reverse p → is_lt o ≡ false → is_eq o ≡ false → is_lt p ≡ true
above Less p e not_less differs = absurd cc
above Equal p e not_less differs = absurd cc
above Greater Less e not_less differs = refl
above Greater Equal e not_less differs = absurd cc
above Greater Greater e not_less differs = absurd cc

-- of two different texts one is below the other
pub below_or_above : (a b : List ℕ) → is_below a b ≡ false → bytes_eq a b ≡ false → is_below b a ≡ true
below_or_above a b not_below differs = above (slice_cmp nat_cmp a b) (slice_cmp nat_cmp b a) (nat_list_cmp_total.antisymm a b) not_below (is_eq-slice_cmp a b ∙ differs)

less_differs : (o : Ordering) → is_lt o ≡ true → is_eq o ≡ false
less_differs Less e = refl
less_differs Equal e = absurd cc
less_differs Greater e = absurd cc

-- a text below another isn't it
pub below_differs : (a b : List ℕ) → is_below a b ≡ true → bytes_eq a b ≡ false
below_differs a b e = sym (is_eq-slice_cmp a b) ∙ less_differs (slice_cmp nat_cmp a b) e
