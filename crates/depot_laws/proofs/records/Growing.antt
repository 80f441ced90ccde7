-- What a lawful journal grows by leaves it lawful.
use Rattle.std.proofs.Common.{◌≡◌, ℕ, Bool, true, false, not, cond, List, [], ◌∷◌, ◌++◌, Option, Some, None, Result, Ok, Err, refl, sym, ap, subst, ◌∙◌, append_assoc, inl, inr, ◌⊎◌}
use Rattle.std.specs.List.{flat_map}
use Rattle.std.proofs.lemmas.Bool.{and_right, not_from_true}
use Rattle.std.proofs.lemmas.List.{append-nil}
use Rattle.depot_base.specs.Statement.{writer_of}
use Rattle.depot_base.specs.declared.statement.Statement.{Statement}
use Rattle.depot_base.specs.declared.statement.Statement.TheVariants as statement
use Rattle.depot_base.specs.declared.statement.Signed.{Signed}
use Rattle.depot_base.specs.declared.proof.Kind.{Kind}
use Rattle.depot_base.specs.declared.proof.Proof.{Proof}
use Rattle.depot_base.specs.declared.record.Record.{Record}
use Rattle.depot_base.specs.declared.record.Record.TheVariants.{Foreign, Conviction, Held}
use Rattle.depot_base.specs.declared.check.Check.{Check}
use Rattle.depot_base.specs.declared.check.Check.TheVariants as check
use Rattle.depot_model.specs.declared.taken.Taken.{Taken}
use Rattle.depot_model.specs.declared.taken.Taken.TheVariants.{New, Known}
use Rattle.depot_model.specs.lists.Lists.{first}
use Rattle.depot_model.specs.texts.Texts.{IsSigned}
use Rattle.depot_model.specs.updates.Conviction.{proof_of}
use Rattle.depot_model.specs.journals.Journal.{accepted, accepted_by, foreign, foreign_by, proof_by, voucher_by, accused, vouched, is_convicted, is_vouched}
use Rattle.depot_model.specs.checks.Checks.{Setting, Given, given_statement, given_proof, given_value, opponent, named_opponent, refused_as_convicted, content_of, proof_checks, first_failed_check, is_kept, is_known, answer_to, due, added, exposed, growth_by, growth}
use Rattle.depot_model.specs.checks.Room.{full_by, HasRoom}
use Rattle.depot_model.specs.journals.Lawful.{IsLawful, is_empty}
use Rattle.depot_model.proofs.of_updates.JudgementLaws.{IsProof-proof_of}
use Rattle.depot_model.proofs.lists.Members.{in_last}
use Rattle.depot_model.proofs.of_updates.DueLaws.{none_due, no_fork_vouched}
use Rattle.depot_laws.specs.Given.{HasText}
pub use Rattle.depot_laws.proofs.lists.Splits.{silent}
use Rattle.depot_laws.proofs.lists.Splits.{flat_gives, lawful_push}
use Rattle.depot_laws.proofs.convicting.Convictions.{convicts_accused}
use Rattle.depot_laws.proofs.records.JournalLimits.{room_front, room_behind}
use Rattle.depot_laws.proofs.records.LawfulRecords.{IsRecord-Foreign, IsRecord-Conviction, IsRecord-Held}
use Rattle.depot_laws.proofs.records.Taken.{AllNone, new_is, is_new}
use Rattle.depot_laws.proofs.records.LateChecks.{refused_late}
use Rattle.depot_laws.proofs.convicting.Contrary.{IsOpponent, opponent_is, named_opponent_is, IsGenuine, new_is_genuine, kept_is_signed, kept_is_genuine, accused_is, made_passes}

-- ---- readings with a conviction after

-- the accused is convicted
pub convicted_now : (J : List Record) (p : Proof) (n : ℕ) → accused p ≡ n → is_convicted (J ++ Conviction p ∷ []) n ≡ true
convicted_now J p n e = convicts_accused (J ++ Conviction p ∷ []) p n (flat_gives proof_by p (Conviction p) (J ++ Conviction p ∷ []) (in_last J (Conviction p)) (inl refl)) e

vouched_same : (J : List Record) (p : Proof) (s : Statement) → is_vouched (J ++ Conviction p ∷ []) s ≡ is_vouched J s
unfolding is_vouched
vouched_same J p s = let same : foreign (J ++ Conviction p ∷ []) ≡ foreign J = silent foreign_by J (Conviction p) refl in rw same refl

kept_same : (J : List Record) (p : Proof) (s : Statement) → is_kept (J ++ Conviction p ∷ []) s ≡ is_kept J s
kept_same J p (statement.Update u) = let same : accepted (J ++ Conviction p ∷ []) ≡ accepted J = silent accepted_by J (Conviction p) refl in rw same refl
kept_same J p (statement.Voucher v) = let same : flat_map voucher_by (J ++ Conviction p ∷ []) ≡ flat_map voucher_by J = silent voucher_by J (Conviction p) refl in rw same refl

content_same : (J : List Record) (p : Proof) (s : Statement) → AllNone (content_of J s) → AllNone (content_of (J ++ Conviction p ∷ []) s)
content_same J p (statement.Update u) all = let same : accepted (J ++ Conviction p ∷ []) ≡ accepted J = silent accepted_by J (Conviction p) refl in rw same all
content_same J p (statement.Voucher v) all = tt

-- ---- one more record

-- a journal that has begun stays so with more after it
pub still_some : (J new : List Record) → is_empty J ≡ false → is_empty (J ++ new) ≡ false
still_some [] new e = absurd cc
still_some (r ∷ J) new e = refl

pub nonempty_more : (J : List Record) (r : Record) → is_empty (J ++ r ∷ []) ≡ false
nonempty_more [] r = refl
nonempty_more (j ∷ J) r = refl

-- a statement that is new, and convicts nobody
take_statement : (here : Setting) (J : List Record) (s : Signed) → IsLawful here J → is_empty J ≡ false → IsSigned s → answer_to here J (given_statement s) ≡ Ok New → added J (given_statement s) ≡ Foreign s ∷ [] → HasRoom here.me J (Foreign s ∷ []) → IsLawful here (J ++ Foreign s ∷ [])
unfolding growth
take_statement here J s l some fits new grows room = lawful_push here J (Foreign s) l (record {
  first = sym some;
  text = IsRecord-Foreign s fits;
  may = (new, ap (growth_by J (given_statement s)) new ∙ grows);
  room = room;
})

not_known : (here : Setting) (J : List Record) (p : Proof) → is_convicted J (accused p) ≡ false → first (proof_checks here p) ≡ None → answer_to here J (given_proof p) ≡ Ok New
unfolding answer_to is_known first_failed_check
not_known here J p free passed = rw (passed, free) refl

-- a conviction that is due
convict : (here : Setting) (J : List Record) (s : Signed) (o : Signed × Kind) → IsLawful here J → is_empty J ≡ false → IsSigned s → IsGenuine here s → IsOpponent (foreign J) s.statement o → is_convicted J (writer_of s.statement) ≡ false
    → HasRoom here.me J (Conviction (proof_of o.1 o.0 s) ∷ []) → IsLawful here (J ++ Conviction (proof_of o.1 o.0 s) ∷ [])
convict here J s o l some fits genuine opposed free room =
    let kept_fits = kept_is_signed here J o.0 l opposed.on in
    let kept_true = kept_is_genuine here J o.0 l opposed.on in
    let names = accused_is o.1 o.0 s opposed.contradict in
    let open_still : is_convicted J (accused (proof_of o.1 o.0 s)) ≡ false = rw names free in
    lawful_push here J (Conviction (proof_of o.1 o.0 s)) l (record {
      first = sym some;
      text = IsRecord-Conviction (proof_of o.1 o.0 s) (IsProof-proof_of o.1 o.0 s kept_fits fits opposed.contradict);
      may = not_known here J (proof_of o.1 o.0 s) open_still (made_passes here o.1 o.0 s kept_fits fits kept_true genuine opposed.contradict);
      room = room;
    })

-- ---- a conviction that may be due

-- it is, against the writer of s, by this opponent
pub record IsDue (J : List Record) (s : Signed) (o : Option (Signed × Kind)) : Type 0 where
  pub by : Signed × Kind
  pub there : o ≡ Some by
  pub free : is_convicted J (writer_of s.statement) ≡ false
  pub is : due J s o ≡ Conviction (proof_of by.1 by.0 s) ∷ []

pub due_cases : (J : List Record) (s : Signed) (o : Option (Signed × Kind)) → (due J s o ≡ []) ⊎ IsDue J s o
unfolding due
due_cases J s None = inl refl
due_cases J s (Some by) = choice (is_convicted J (writer_of s.statement)) refl where
  choice : (b : Bool) → is_convicted J (writer_of s.statement) ≡ b → (due J s (Some by) ≡ []) ⊎ IsDue J s (Some by)
  choice true is = inl (rw is refl)
  choice false is = inr (record { by = by; there = refl; free = is; is = rw is refl })

some_room : (me : ℕ) (J : List Record) (r : Record) (rs new : List Record) → new ≡ r ∷ rs → full_by me J new ≡ None → HasRoom me J (r ∷ rs)
some_room me J r rs new is room = subst (λ (x : List Record). full_by me J x ≡ None) is room

same_journal : (here : Setting) (J new : List Record) → IsLawful here J → new ≡ [] → IsLawful here (J ++ new)
same_journal here J new l none = subst (λ (x : List Record). IsLawful here x) (sym (ap (λ (x : List Record). J ++ x) none ∙ append-nil J)) l

-- ---- what a refusal leaves behind

-- a journal with the conviction that is due, if one is
due_grows : (here : Setting) (J : List Record) (s : Signed) (o : Option (Signed × Kind)) → IsLawful here J → is_empty J ≡ false → IsSigned s → IsGenuine here s → ((by : Signed × Kind) → o ≡ Some by → IsOpponent (foreign J) s.statement by)
    → full_by here.me J (due J s o) ≡ None → IsLawful here (J ++ due J s o)
due_grows here J s o l some fits genuine opposed room = elim (due_cases J s o) [
  | inl none ↦ same_journal here J (due J s o) l none
  | inr d ↦
      let grown = convict here J s d.by l some fits genuine (opposed d.by d.there) d.free (some_room here.me J (Conviction (proof_of d.by.1 d.by.0 s)) [] (due J s o) d.is room) in
      subst (λ (new : List Record). IsLawful here (J ++ new)) (sym d.is) grown
]

refused : (here : Setting) (J : List Record) (s : Signed) (c : Check) → IsLawful here J → is_empty J ≡ false → IsSigned s → answer_to here J (given_statement s) ≡ Err c → full_by here.me J (exposed J (given_statement s) c) ≡ None → IsLawful here (J ++ exposed J (given_statement s) c)
refused here J s (check.Forked kept came kind) l some fits e room =
    due_grows here J s (opponent (foreign J) s.statement) l some fits (refused_late here J s (check.Forked kept came kind) tt e).genuine (λ by is. opponent_is (foreign J) s.statement by is) room
refused here J s (check.Backward h) l some fits e room =
    due_grows here J s (named_opponent (foreign J) h s.statement) l some fits (refused_late here J s (check.Backward h) tt e).genuine (λ by is. named_opponent_is (foreign J) h s.statement by is) room
refused here J s c l some fits e room = same_journal here J [] l refl

-- ---- a statement that is new

-- the conviction before it
abbrev pub front_of : List Record → Signed → List Record
front_of J s = cond (is_vouched J s.statement) (due J s (opponent (foreign J) s.statement)) []

pub record Convicts (J : List Record) (s : Signed) : Type 0 where
  pub vouched : is_vouched J s.statement ≡ true
  pub due : IsDue J s (opponent (foreign J) s.statement)

pub front_cases : (J : List Record) (s : Signed) → (front_of J s ≡ []) ⊎ Convicts J s
front_cases J s = choice (is_vouched J s.statement) refl where
  choice : (b : Bool) → is_vouched J s.statement ≡ b → (front_of J s ≡ []) ⊎ Convicts J s
  choice true is = elim (due_cases J s (opponent (foreign J) s.statement)) [
    | inl none ↦ inl (rw is none)
    | inr d ↦ inr (record { vouched = is; due = d })
  ]
  choice false is = inl (rw is refl)

pub added_is : (J : List Record) (s : Signed) → added J (given_statement s) ≡ front_of J s ++ Foreign s ∷ []
unfolding added
added_is J s = refl

pub not_refused : (J : List Record) (s : Statement) → is_vouched J s ≡ true → refused_as_convicted J s ≡ None
unfolding refused_as_convicted is_vouched
not_refused J (statement.Update u) e = rw (and_right (is_convicted J u.writer) (not (is_vouched J (statement.Update u))) (not_from_true (is_vouched J (statement.Update u)) e)) refl
not_refused J (statement.Voucher v) e = absurd cc

-- it is still new after the conviction
still_new : (here : Setting) (J : List Record) (p : Proof) (s : Signed) → is_vouched J s.statement ≡ true → answer_to here J (given_statement s) ≡ Ok New → answer_to here (J ++ Conviction p ∷ []) (given_statement s) ≡ Ok New
still_new here J p s vouched e =
    let n = new_is here J s e in
    let vouched_still : is_vouched (J ++ Conviction p ∷ []) s.statement ≡ true = vouched_same J p s.statement ∙ vouched in
    is_new here (J ++ Conviction p ∷ []) s (record {
      passes = record {
        known = n.passes.known;
        other = n.passes.other;
        signed = n.passes.signed;
        content = content_same J p s.statement n.passes.content;
        forked = no_fork_vouched (J ++ Conviction p ∷ []) s.statement vouched_still;
        convicted = not_refused (J ++ Conviction p ∷ []) s.statement vouched_still;
      };
      new = kept_same J p s.statement ∙ n.new;
    })

cond_same : (b : Bool) (x : List Record) → x ≡ [] → cond b x [] ≡ []
cond_same true x e = e
cond_same false x e = refl

-- and convicts nobody
alone_now : (J : List Record) (p : Proof) (s : Signed) → accused p ≡ writer_of s.statement → added (J ++ Conviction p ∷ []) (given_statement s) ≡ Foreign s ∷ []
alone_now J p s names =
    let after = J ++ Conviction p ∷ [] in
    let none : front_of after s ≡ [] = cond_same (is_vouched after s.statement) (due after s (opponent (foreign after) s.statement)) (none_due after s (opponent (foreign after) s.statement) (convicted_now J p (writer_of s.statement) names)) in
    added_is after s ∙ ap (λ (x : List Record). x ++ Foreign s ∷ []) none

taken : (here : Setting) (J : List Record) (s : Signed) → IsLawful here J → is_empty J ≡ false → IsSigned s → answer_to here J (given_statement s) ≡ Ok New → full_by here.me J (added J (given_statement s)) ≡ None → IsLawful here (J ++ added J (given_statement s))
taken here J s l some fits e room = elim (front_cases J s) [
  | inl none ↦
      let is : added J (given_statement s) ≡ Foreign s ∷ [] = added_is J s ∙ ap (λ (x : List Record). x ++ Foreign s ∷ []) none in
      subst (λ (new : List Record). IsLawful here (J ++ new)) (sym is) (take_statement here J s l some fits e is (some_room here.me J (Foreign s) [] (added J (given_statement s)) is room))
  | inr c ↦
      let by = c.due.by in
      let p = proof_of by.1 by.0 s in
      let opposed = opponent_is (foreign J) s.statement by c.due.there in
      let front : front_of J s ≡ Conviction p ∷ [] = rw (c.vouched) c.due.is in
      let is : added J (given_statement s) ≡ Conviction p ∷ Foreign s ∷ [] = added_is J s ∙ ap (λ (x : List Record). x ++ Foreign s ∷ []) front in
      let both = some_room here.me J (Conviction p) (Foreign s ∷ []) (added J (given_statement s)) is room in
      let one = convict here J s by l some fits (new_is_genuine here J s e) opposed c.due.free (room_front here.me J p (Foreign s ∷ []) both) in
      let two = take_statement here (J ++ Conviction p ∷ []) s one (nonempty_more J (Conviction p)) fits (still_new here J p s c.vouched e) (alone_now J p s (accused_is by.1 by.0 s opposed.contradict)) (room_behind here.me J p (Foreign s ∷ []) both) in
      let whole : (J ++ Conviction p ∷ []) ++ Foreign s ∷ [] ≡ J ++ added J (given_statement s) = append_assoc J (Conviction p ∷ []) (Foreign s ∷ []) ∙ ap (λ (x : List Record). J ++ x) (sym is) in
      subst (λ (x : List Record). IsLawful here x) whole two
]

-- ---- all that is given

grows_by : (here : Setting) (J : List Record) (x : Given) (a : Result Taken Check) → answer_to here J x ≡ a → IsLawful here J → is_empty J ≡ false → HasText x → full_by here.me J (growth_by J x a) ≡ None → IsLawful here (J ++ growth_by J x a)
unfolding added
grows_by here J x (Ok Known) e l some fits room = same_journal here J [] l refl
grows_by here J (given_statement s) (Ok New) e l some fits room = taken here J s l some fits e room
grows_by here J (given_proof p) (Ok New) e l some fits room = lawful_push here J (Conviction p) l (record { first = sym some; text = IsRecord-Conviction p fits; may = e; room = room })
grows_by here J (given_value v) (Ok New) e l some fits room = lawful_push here J (Held v) l (record { first = sym some; text = IsRecord-Held v fits; may = e; room = room })
grows_by here J (given_statement s) (Err c) e l some fits room = refused here J s c l some fits e room
grows_by here J (given_proof p) (Err c) e l some fits room = same_journal here J [] l refl
grows_by here J (given_value v) (Err c) e l some fits room = same_journal here J [] l refl

-- a lawful journal with what it grows by
pub grown_is_lawful : (here : Setting) (J : List Record) (x : Given) → IsLawful here J → is_empty J ≡ false → HasText x → full_by here.me J (growth here J x) ≡ None → IsLawful here (J ++ growth here J x)
unfolding growth
grown_is_lawful here J x l some fits room = grows_by here J x (answer_to here J x) refl l some fits room
