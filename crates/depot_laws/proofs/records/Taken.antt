-- What it says of a statement that it is new to a journal.
use Rattle.std.proofs.Common.{◌≡◌, ℕ, Bool, true, false, eqb, List, [], ◌∷◌, ◌++◌, map, Option, Some, None, Ok, Err, refl, ap, subst, inl, inr}
use Rattle.std.specs.List.{AllByRecursion}
use Rattle.std.proofs.lemmas.Bool.{and_cases, both_ways}
use Rattle.depot_base.specs.Statement.{writer_of}
use Rattle.depot_base.specs.declared.update.Update.{Update}
use Rattle.depot_base.specs.declared.update.Dep.{Dep}
use Rattle.depot_base.specs.declared.statement.Signed.{Signed}
use Rattle.depot_base.specs.declared.record.Record.{Record}
use Rattle.depot_base.specs.declared.check.Check.{Check}
use Rattle.depot_model.specs.declared.taken.Taken.TheVariants.{New}
use Rattle.depot_model.specs.lists.Lists.{IsIn, first}
use Rattle.depot_model.specs.texts.Texts.{id_of_update}
use Rattle.depot_model.specs.updates.Order.{prevs, parents}
use Rattle.depot_model.specs.texts.Roster.{has_node, is_signed}
use Rattle.depot_model.specs.journals.Journal.{named}
use Rattle.depot_model.specs.checks.Checks.{Setting, given_statement, sight, lost, missing, wrong_dep, backward, clock_low, clock_far, bad_history, content_checks, content_of, forked, refused_as_convicted, statement_checks, first_failed_check, is_kept, is_known, answer_by, answer_to}
use Rattle.depot_model.proofs.lists.FirstLaws.{each_is_none, when-none}
use Rattle.depot_model.proofs.lists.Members.{in_left, in_right, in_parts, in_map, from_map, all_at}
use Rattle.depot_base.proofs.GeneralLaws.{all_both}
use Rattle.depot_laws.proofs.lists.Tests.{holds_from_not, all_left, all_right, first-none}
use Rattle.depot_model.proofs.of_updates.NamedIds.{named_is}

-- a list in which each is none
abbrev pub AllNone : List (Option Check) → Type 0
AllNone os = AllByRecursion (λ (o : Option Check). o ≡ None) os

-- ---- the answer

-- what is new isn't known, and no check fails
pub new_from_answer : (known : Bool) (failed : Option Check) → answer_by known failed ≡ Ok New → (known ≡ false) × (failed ≡ None)
new_from_answer true failed e = absurd cc
new_from_answer false None e = (refl, refl)
new_from_answer false (Some c) e = absurd cc

-- what is refused isn't known, and this check fails
pub refused_from_answer : (known : Bool) (failed : Option Check) (c : Check) → answer_by known failed ≡ Err c → (known ≡ false) × (failed ≡ Some c)
refused_from_answer true failed c e = absurd cc
refused_from_answer false None c e = absurd cc
refused_from_answer false (Some d) c e = let same : d ≡ c = cc in (refl, ap (λ (x : Check). Some x) same)

-- and the other way
pub answer_from_new : (known : Bool) (failed : Option Check) → known ≡ false → failed ≡ None → answer_by known failed ≡ Ok New
answer_from_new true failed e f = absurd cc
answer_from_new false None e f = refl
answer_from_new false (Some c) e f = absurd cc

-- The checks of a statement pass, each by its name.
pub record Passes (here : Setting) (J : List Record) (s : Signed) : Type 0 where
  pub known : has_node here.listed (writer_of s.statement) ≡ true
  pub other : eqb (writer_of s.statement) here.me ≡ false
  pub signed : is_signed here.verifies here.listed s ≡ true
  pub content : AllNone (content_of J s.statement)
  pub forked : forked J s.statement ≡ None
  pub convicted : refused_as_convicted J s.statement ≡ None

each_passes : (here : Setting) (J : List Record) (s : Signed) → AllNone (statement_checks here J s) → Passes here J s
unfolding statement_checks
each_passes here J s (known, (other, (signed, behind))) =
    let late = all_right (λ (o : Option Check). o ≡ None) (content_of J s.statement) (forked J s.statement ∷ refused_as_convicted J s.statement ∷ []) behind in
    record {
      known = holds_from_not _ (when-none _ _ known);
      other = when-none _ _ other;
      signed = holds_from_not _ (when-none _ _ signed);
      content = all_left (λ (o : Option Check). o ≡ None) (content_of J s.statement) (forked J s.statement ∷ refused_as_convicted J s.statement ∷ []) behind;
      forked = late.0;
      convicted = late.1.0;
    }

-- where no check fails, each passes
pub passes_from_none : (here : Setting) (J : List Record) (s : Signed) → first (statement_checks here J s) ≡ None → Passes here J s
passes_from_none here J s e = each_passes here J s (each_is_none (statement_checks here J s) e)

-- and the other way
pub none_from_passes : (here : Setting) (J : List Record) (s : Signed) → Passes here J s → first (statement_checks here J s) ≡ None
unfolding statement_checks
none_from_passes here J s p =
    let late : AllNone (content_of J s.statement ++ (forked J s.statement ∷ refused_as_convicted J s.statement ∷ [])) =
    all_both (λ (o : Option Check). o ≡ None) (content_of J s.statement) (forked J s.statement ∷ refused_as_convicted J s.statement ∷ []) p.content (p.forked, (p.convicted, tt)) in
    rw (p.known, p.other, p.signed) (first-none (content_of J s.statement ++ (forked J s.statement ∷ refused_as_convicted J s.statement ∷ [])) late)

-- a statement is new: its checks pass, and it isn't here
pub record IsNew (here : Setting) (J : List Record) (s : Signed) : Type 0 where
  pub passes : Passes here J s
  pub new : is_kept J s.statement ≡ false

pub new_is : (here : Setting) (J : List Record) (s : Signed) → answer_to here J (given_statement s) ≡ Ok New → IsNew here J s
unfolding answer_to is_known first_failed_check
new_is here J s e =
    let n = new_from_answer (is_known here J (given_statement s)) (first_failed_check here J (given_statement s)) e in
    let p = passes_from_none here J s n.1 in
    record {
      passes = p;
      new = elim (and_cases (has_node here.listed (writer_of s.statement)) (is_kept J s.statement) n.0) [
        | inl unknown ↦ absurd (both_ways (has_node here.listed (writer_of s.statement)) unknown p.known)
        | inr new ↦ new
      ];
    }

pub is_new : (here : Setting) (J : List Record) (s : Signed) → IsNew here J s → answer_to here J (given_statement s) ≡ Ok New
unfolding answer_to is_known first_failed_check
is_new here J s n =
    answer_from_new (is_known here J (given_statement s)) (first_failed_check here J (given_statement s))
    (rw (n.passes.known, n.new) refl) (none_from_passes here J s n.passes)

-- ---- the content of an update

-- The checks of an update's content pass, each by its name.
pub record HasContent (us : List Update) (u : Update) : Type 0 where
  pub missing : missing u (sight us u) ≡ None
  pub wrong_dep : wrong_dep u (sight us u) ≡ None
  pub backward : backward u (sight us u) ≡ None
  pub clock_low : clock_low u (sight us u) ≡ None
  pub clock_far : clock_far u (sight us u) ≡ None
  pub history : bad_history u (sight us u) ≡ None

pub content_is : (us : List Update) (u : Update) → AllNone (content_checks u (sight us u)) → HasContent us u
unfolding content_checks
content_is us u (missing, (wrong_dep, (backward, (clock_low, (clock_far, (history, end)))))) = record { missing = missing; wrong_dep = wrong_dep; backward = backward; clock_low = clock_low; clock_far = clock_far; history = history }

found : (h : List ℕ) (o : Option Update) → lost h o ≡ None → (t : Update) × (o ≡ Some t)
found h None e = absurd cc
found h (Some t) e = (t, refl)

-- an update of these has this id
pub record HasId (us : List Update) (h : List ℕ) : Type 0 where
  pub update : Update
  pub on : IsIn update us
  pub id : id_of_update update ≡ h

has_id_of : (us : List Update) (h k : List ℕ) → lost k (named us h) ≡ None → HasId us h
has_id_of us h k e =
    let f = found k (named us h) e in
    let n = named_is us h f.0 f.1 in
    record { update = f.0; on = n.0; id = n.1 }

-- each parent of an update whose checks pass is there
pub parents_are_there : (us : List Update) (u : Update) → HasContent us u → (h : List ℕ) → IsIn h (parents u) → HasId us h
unfolding sight
parents_are_there us u c h on =
    let fronts = map (lost u.prev) (map (named us) (prevs u)) in
    let backs = map (λ (e : Dep × Option Update). lost e.0.id e.1) (map (λ (d : Dep). (d, named us d.id)) u.deps) in
    let all : AllNone (fronts ++ backs) = each_is_none (fronts ++ backs) c.missing in
    elim (in_parts h (prevs u) (map (λ (d : Dep). d.id) u.deps) on) [
      | inl prev ↦ has_id_of us h u.prev (all_at (λ (o : Option Check). o ≡ None) (fronts ++ backs) (lost u.prev (named us h)) all
          (in_left (lost u.prev (named us h)) fronts backs (in_map (lost u.prev) (named us h) (map (named us) (prevs u)) (in_map (named us) h (prevs u) prev))))
      | inr entry ↦
          let d = from_map (λ (d : Dep). d.id) h u.deps entry in
          let there : HasId us d.0.id = has_id_of us d.0.id d.0.id (all_at (λ (o : Option Check). o ≡ None) (fronts ++ backs) (lost d.0.id (named us d.0.id)) all
          (in_right (lost d.0.id (named us d.0.id)) fronts backs (in_map (λ (e : Dep × Option Update). lost e.0.id e.1) (d.0, named us d.0.id) (map (λ (d : Dep). (d, named us d.id)) u.deps) (in_map (λ (d : Dep). (d, named us d.id)) d.0 u.deps d.1.0)))) in
          subst (λ (k : List ℕ). HasId us k) d.1.1 there
    ]
