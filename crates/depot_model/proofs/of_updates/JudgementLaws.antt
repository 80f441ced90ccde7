-- What a judgement says, and that a proof which is made of a contradiction is good.
use Rattle.std.proofs.Common.{◌≡◌, ℕ, Bool, true, false, cond, List, Option, Some, None, IfOk, Err, refl, sym, subst, ◌∙◌, arith}
use Rattle.std.specs.List.{AllByRecursion}
use Rattle.std.specs.Option.{option_map_or}
use Rattle.std.specs.Int.{w8}
use Rattle.std.specs.Str.{bytes_eq}
use Rattle.std.proofs.lemmas.Bool.{eqb-true, not-false}
use Rattle.depot_base.specs.Format.{number, bytes_of, constant}
use Rattle.depot_base.specs.Sized.{IsValue}
use Rattle.depot_base.specs.Shown.{shown_first, shown_second, IsPairKind}
use Rattle.depot_base.specs.Parts.{is_below}
use Rattle.depot_base.specs.Statement.{writer_of, seq_of}
use Rattle.depot_base.specs.declared.statement.Signed.{Signed}
use Rattle.depot_base.specs.declared.proof.Kind.{Kind}
use Rattle.depot_base.specs.declared.proof.Kind.TheVariants.{SameNumber, SamePrev, Backward, NotUpdate}
use Rattle.depot_base.specs.declared.proof.Proof.{Proof}
use Rattle.depot_base.specs.declared.proof.Proof.TheVariants.{Pair, Hollow}
use Rattle.depot_base.specs.declared.key.PublicKey.{PublicKey}
use Rattle.depot_base.specs.declared.key.RosterEntry.{RosterEntry}
use Rattle.depot_model.specs.declared.judgement.JudgeError.{JudgeError}
use Rattle.depot_model.specs.declared.judgement.JudgeError.TheVariants as point
use Rattle.depot_model.specs.lists.Lists.{when}
use Rattle.depot_model.specs.texts.Texts.{proof, shown, number_of_kind, IsSigned, IsProof}
use Rattle.depot_model.specs.texts.Roster.{Verifies, key_of, has_node, is_signed}
use Rattle.depot_model.specs.updates.Contradictions.{contradicts}
use Rattle.depot_model.specs.texts.Contents.{accused}
use Rattle.depot_model.specs.updates.Judgement.{points, first_failed_point, verdict_of, judged_by, IsTextOfProof, IsJudgementOf, IsContrary}
use Rattle.depot_model.specs.updates.Conviction.{proof_of, IsGood, Convicts, Shows}
use Rattle.depot_model.proofs.of_texts.BodyLaws.{body_is_text}
use Rattle.depot_model.proofs.lists.FirstLaws.{each_is_none, first_is, when-none, when-some}
use Rattle.depot_model.proofs.of_updates.ContradictionLaws.{contradicts_comm, same_writer, pair_kind, other_body, below_or_above, below_differs}

-- ---- what is signed

there : {A : Type 0} (test : A → Bool) (o : Option A) → option_map_or test o false ≡ true → (a : A) × (o ≡ Some a) × (test a ≡ true)
there test None e = absurd cc
there test (Some a) e = (a, refl, e)

-- the roster has the key under which the signature verifies
pub key_from_is_signed : (verifies : Verifies) (r : List RosterEntry) (s : Signed) → is_signed verifies r s ≡ true → (key : PublicKey) × (key_of r (writer_of s.statement) ≡ Some key) × (verifies key (seq_of s.statement) s.body s.signature ≡ true)
unfolding is_signed
key_from_is_signed verifies r s e = there (λ key. verifies key (seq_of s.statement) s.body s.signature) (key_of r (writer_of s.statement)) e

-- so it has the writer
pub has_node_from_is_signed : (verifies : Verifies) (r : List RosterEntry) (s : Signed) → is_signed verifies r s ≡ true → has_node r (writer_of s.statement) ≡ true
has_node_from_is_signed verifies r s e = let k = key_from_is_signed verifies r s e in rw k.1 refl

-- ---- points

-- no point fails where each holds
pub no_point_fails : (verifies : Verifies) (r : List RosterEntry) (kind : Kind) (a b : Signed)
    → is_signed verifies r a ≡ true → is_signed verifies r b ≡ true
    → is_below a.body b.body ≡ true → contradicts kind a.statement b.statement ≡ true
    → first_failed_point verifies r (Pair kind a b) ≡ None
unfolding points
no_point_fails verifies r kind a b first_signed second_signed below contradict =
    rw (has_node_from_is_signed verifies r a first_signed, has_node_from_is_signed verifies r b second_signed, first_signed, second_signed, same_writer kind a.statement b.statement contradict, below_differs a.body b.body below, below, contradict) refl

-- a point is no fault of a text
abbrev IsPoint : JudgeError → Type 0
IsPoint (point.IllFormed at) = ⊥
IsPoint other = Unit {0}

of_point : (test : Bool) (e : JudgeError) → IsPoint e → (f : JudgeError) → when test e ≡ Some f → IsPoint f
of_point test e h f shown = subst IsPoint (when-some test e f shown) h

abbrev EachIsPoint : List (Option JudgeError) → Type 0
EachIsPoint = AllByRecursion (λ (o : Option JudgeError). (f : JudgeError) → o ≡ Some f → IsPoint f)

each_is_point : (verifies : Verifies) (r : List RosterEntry) (p : Proof) → EachIsPoint (points verifies r p)
unfolding points
each_is_point verifies r (Pair kind a b) = (of_point _ _ tt, (of_point _ _ tt, (of_point _ _ tt, (of_point _ _ tt, (of_point _ _ tt, (of_point _ _ tt, (of_point _ _ tt, (of_point _ _ tt, tt))))))))
each_is_point verifies r (Hollow voucher text) = (of_point _ _ tt, (of_point _ _ tt, (of_point _ _ tt, tt)))

is_point : (verifies : Verifies) (r : List RosterEntry) (p : Proof) (e : JudgeError) → first_failed_point verifies r p ≡ Some e → IsPoint e
is_point verifies r p e failed = first_is IsPoint (points verifies r p) e (each_is_point verifies r p) failed

-- the first point that fails is the judgement of a proof
pub judged : (verifies : Verifies) (r : List RosterEntry) (text : List ℕ) (p : Proof) (e : JudgeError) → IsTextOfProof text p → first_failed_point verifies r p ≡ Some e → IsJudgementOf verifies r text (Err e)
judged verifies r text p point.Memory shown failed = tt
judged verifies r text p (point.IllFormed at) shown failed = absurd (is_point verifies r p (point.IllFormed at) failed)
judged verifies r text p (point.UnknownWriter n) shown failed = (p, (shown, failed))
judged verifies r text p (point.BadSignature half) shown failed = (p, (shown, failed))
judged verifies r text p (point.TwoWriters m n) shown failed = (p, (shown, failed))
judged verifies r text p point.Same shown failed = (p, (shown, failed))
judged verifies r text p point.WrongOrder shown failed = (p, (shown, failed))
judged verifies r text p (point.NotContradictory k) shown failed = (p, (shown, failed))

-- what a proof that fails no point says of what it shows; of a hollow one, each half is its voucher
pub record Passes (verifies : Verifies) (r : List RosterEntry) (p : Proof) : Type 0 where
  pub first_signed : is_signed verifies r (shown_first p) ≡ true
  pub second_signed : is_signed verifies r (shown_second p) ≡ true
  pub one_writer : writer_of (shown_first p).statement ≡ writer_of (shown_second p).statement
  pub contradict : IsContrary p

each_passes : (verifies : Verifies) (r : List RosterEntry) (p : Proof) → AllByRecursion (λ (o : Option JudgeError). o ≡ None) (points verifies r p) → Passes verifies r p
unfolding points
each_passes verifies r (Pair kind a b) (first_known, (second_known, (first_signed, (second_signed, (one_writer, (differ, (below, (contradict, end)))))))) = record {
  first_signed = not-false _ (when-none _ _ first_signed);
  second_signed = not-false _ (when-none _ _ second_signed);
  one_writer = eqb-true _ _ (not-false _ (when-none _ _ one_writer));
  contradict = not-false _ (when-none _ _ contradict);
}
each_passes verifies r (Hollow voucher text) (known, (signed, (hollow, end))) = record {
  first_signed = not-false _ (when-none _ _ signed);
  second_signed = not-false _ (when-none _ _ signed);
  one_writer = refl;
  contradict = not-false _ (when-none _ _ hollow);
}

pub passes : (verifies : Verifies) (r : List RosterEntry) (p : Proof) → first_failed_point verifies r p ≡ None → Passes verifies r p
passes verifies r p passed = each_passes verifies r p (each_is_none (points verifies r p) passed)

one_key : (r : List RosterEntry) (m n : ℕ) (k l : PublicKey) → m ≡ n → key_of r m ≡ Some k → key_of r n ≡ Some l → l ≡ k
one_key r m n k l same at_m at_n = cc

-- what it then shows, under the key of its first statement
shows : (verifies : Verifies) (r : List RosterEntry) (p : Proof) (key : PublicKey) → Passes verifies r p → key_of r (accused p) ≡ Some key → verifies key (seq_of (shown_first p).statement) (shown_first p).body (shown_first p).signature ≡ true → Shows verifies key (verdict_of p) p
shows verifies r (Pair kind a b) key q of_roster verified =
    let second_key = key_from_is_signed verifies r b q.second_signed in
    let same : second_key.0 ≡ key = one_key r _ _ _ _ q.one_writer of_roster second_key.1 in
    let also : verifies key (seq_of b.statement) b.body b.signature ≡ true = rw (← same) second_key.2 in
    (refl, (record { writer = refl; verified = verified }, (record { writer = sym q.one_writer; verified = also }, q.contradict)))
shows verifies r (Hollow voucher text) key q of_roster verified = (refl, (record { writer = refl; verified = verified }, q.contradict))

-- a proof that fails no point convicts
pub convicts : (verifies : Verifies) (r : List RosterEntry) (text : List ℕ) (p : Proof) → IsTextOfProof text p → first_failed_point verifies r p ≡ None → Convicts verifies r text (verdict_of p)
convicts verifies r text p shown passed =
    let q = passes verifies r p passed in
    let k = key_from_is_signed verifies r (shown_first p) q.first_signed in
    record { proof = p; key = k.0; shown = shown; of_roster = k.1; shows = shows verifies r p k.0 q k.1 k.2 }

-- ---- proofs that are made

-- the halves are signed statements that contradict each other in the kind, the smaller body first
record AreInOrder (kind : Kind) (a b : Signed) : Type 0 where
  pub first_fits : IsSigned a
  pub second_fits : IsSigned b
  pub below : is_below a.body b.body ≡ true
  pub contradict : contradicts kind a.statement b.statement ≡ true

-- a proof of two such halves
abbrev IsInOrder : Proof → Type 0
IsInOrder (Pair kind a b) = AreInOrder kind a b
IsInOrder (Hollow voucher text) = ⊥

chosen : (P : Proof → Type 0) (t : Bool) (p q : Proof) → (t ≡ true → P p) → (t ≡ false → P q) → P (cond t p q)
chosen P true p q yes_p no_q = yes_p refl
chosen P false p q yes_p no_q = no_q refl

proof_of_is_in_order : (k : Kind) (a b : Signed) → IsSigned a → IsSigned b → contradicts k a.statement b.statement ≡ true → IsInOrder (proof_of k a b)
unfolding proof_of
proof_of_is_in_order k a b fits_a fits_b contradict =
    let differ : bytes_eq a.body b.body ≡ false = rw (body_is_text a fits_a, body_is_text b fits_b) (other_body k a.statement b.statement contradict) in
    chosen IsInOrder (is_below a.body b.body) (Pair k a b) (Pair k b a)
    (λ below. record { first_fits = fits_a; second_fits = fits_b; below = below; contradict = contradict })
    (λ above. record { first_fits = fits_b; second_fits = fits_a; below = below_or_above a.body b.body above differ; contradict = contradicts_comm k b.statement a.statement ∙ contradict })

pub kind_fits : (k : Kind) → (number w8 1 4).fits (number_of_kind k)
unfolding number
kind_fits SameNumber = (omega arith, omega arith)
kind_fits SamePrev = (omega arith, omega arith)
kind_fits Backward = (omega arith, omega arith)
kind_fits NotUpdate = (omega arith, omega arith)

one_fits : (constant 1).fits 1
unfolding number
one_fits = (omega arith, omega arith)

-- two signed statements, and a kind of two, have the text of a proof
pub pair_fits : (k : Kind) (a b : Signed) → IsPairKind k → IsSigned a → IsSigned b → IsProof (Pair k a b)
unfolding proof
pair_fits SameNumber a b pair first second = (one_fits, (kind_fits SameNumber, (first, (second, refl))))
pair_fits SamePrev a b pair first second = (one_fits, (kind_fits SamePrev, (first, (second, refl))))
pair_fits Backward a b pair first second = (one_fits, (kind_fits Backward, (first, (second, refl))))
pair_fits NotUpdate a b pair first second = absurd pair

-- and so have a signed statement and bytes of a value's number
pub hollow_fits : (voucher : Signed) (text : List ℕ) → IsSigned voucher → IsValue text → IsProof (Hollow voucher text)
unfolding proof number bytes_of
hollow_fits voucher text first small = ((omega arith, omega arith), ((omega arith, omega arith), (first, ((omega arith, small), (refl, refl)))))

in_order_fits : (p : Proof) → IsInOrder p → IsProof p
in_order_fits (Pair k a b) h = pair_fits k a b (pair_kind k a.statement b.statement h.contradict) h.first_fits h.second_fits
in_order_fits (Hollow voucher text) h = absurd h

in_order_is_good : (p : Proof) → IsInOrder p → IsGood p
in_order_is_good (Pair k a b) h = λ verifies r first_signed second_signed. no_point_fails verifies r k a b first_signed second_signed h.below h.contradict
in_order_is_good (Hollow voucher text) h = absurd h

sides : (k : Kind) (a b : Signed) (t : Bool) → Pair k (cond t a b) (cond t b a) ≡ cond t (Pair k a b) (Pair k b a)
sides k a b true = refl
sides k a b false = refl

-- the halves, put in order, make it
pub halves-proof_of : (k : Kind) (a b c d : Signed) (p : Proof) → c ≡ cond (is_below a.body b.body) a b → d ≡ cond (is_below a.body b.body) b a → p ≡ Pair k c d → p ≡ proof_of k a b
unfolding proof_of
halves-proof_of k a b c d p c_is d_is p_is = p_is ∙ rw (c_is, d_is) (sides k a b (is_below a.body b.body))

-- it has a text
pub IsProof-proof_of : (k : Kind) (a b : Signed) → IsSigned a → IsSigned b → contradicts k a.statement b.statement ≡ true → IsProof (proof_of k a b)
IsProof-proof_of k a b fits_a fits_b contradict = in_order_fits (proof_of k a b) (proof_of_is_in_order k a b fits_a fits_b contradict)

-- and is good
pub IsGood-proof_of : (k : Kind) (a b : Signed) → IsSigned a → IsSigned b → contradicts k a.statement b.statement ≡ true → IsGood (proof_of k a b)
IsGood-proof_of k a b fits_a fits_b contradict = in_order_is_good (proof_of k a b) (proof_of_is_in_order k a b fits_a fits_b contradict)

-- ---- the answer on a text, from that on its proof

pub judgement_of : (verifies : Verifies) (r : List RosterEntry) (text : List ℕ) (p : Proof) (o : Option JudgeError) → IsTextOfProof text p → first_failed_point verifies r p ≡ o → IsJudgementOf verifies r text (judged_by o p)
judgement_of verifies r text p (Some e) shown failed = judged verifies r text p e shown failed
judgement_of verifies r text p None shown failed = (p, (shown, (failed, refl)))

pub conviction_of : (verifies : Verifies) (r : List RosterEntry) (text : List ℕ) (p : Proof) (o : Option JudgeError) → IsTextOfProof text p → first_failed_point verifies r p ≡ o → IfOk (judged_by o p) (Convicts verifies r text)
conviction_of verifies r text p (Some e) shown failed = tt
conviction_of verifies r text p None shown failed = convicts verifies r text p shown failed
