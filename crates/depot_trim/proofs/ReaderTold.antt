-- The outcome of what a reader is given, by what its checks over the pruned journal say.
use Rattle.std.proofs.Common.{◌≡◌, ℕ, Bool, true, false, cond, ◌||◌, ◌&&◌, List, [], ◌∷◌, ◌++◌, length, Option, Some, None, Result, Ok, Err, refl, sym, ap, ◌∙◌}
use Rattle.std.specs.Prelude.{find, is_some, option_map}
use Rattle.sha2.specs.Sha256.{sha256}
use Rattle.depot_base.specs.Statement.{writer_of}
use Rattle.depot_base.specs.declared.check.Check.{Check}
use Rattle.depot_base.specs.declared.check.Check.TheVariants as check
use Rattle.depot_base.specs.declared.check.Full.{Full}
use Rattle.depot_base.specs.declared.proof.Proof.{Proof}
use Rattle.depot_base.specs.declared.record.Record.{Record}
use Rattle.depot_base.specs.declared.statement.Signed.{Signed}
use Rattle.depot_base.specs.declared.update.Update.{Update}
use Rattle.depot_model.specs.declared.taken.Taken.{Taken}
use Rattle.depot_model.specs.declared.taken.Taken.TheVariants.{New, Known}
use Rattle.depot_model.specs.checks.Checks.{Setting, Given, given_statement, given_proof, given_value, is_known, answer_to, growth_by, growth}
use Rattle.depot_model.specs.journals.Journal.{is_wanted}
use Rattle.depot_model.specs.journals.Lawful.{IsLawful}
use Rattle.depot_model.specs.lists.Lists.{first}
use Rattle.depot_model.specs.readers.Pruning.{pruned, checks_to_signature, below_of, AnswersAlike}
use Rattle.depot_model.specs.readers.Readers.{Reader, kept, has_value, with_more, told_unless, told_as_node, told_above, told_of_value, reader_outcome, stands_below, too_full, told}
use Rattle.depot_model.specs.checks.Room.{full_by}
use Rattle.depot_model.specs.texts.Roster.{has_node}
use Rattle.depot_model.specs.texts.Texts.{id_of_update}
use Rattle.depot_model.specs.readers.Trimming.{names}
use Rattle.depot_laws.proofs.of_readers.PrunedAnswers.{statements_alike}
use Rattle.depot_laws.proofs.of_readers.PrunedReadings.{kept_same}
use Rattle.depot_trim.specs.ReaderView.{WasTrimmed}
use Rattle.depot_trim.proofs.ReaderGrowth.{trimmed_within, none_more}

-- ---- what is below

known_alike : (here : Setting) (J : List Record) (T : List Update) (s : Signed) → is_known here (pruned T J) (given_statement s) ≡ is_known here J (given_statement s)
unfolding is_known
known_alike here J T s = ap (λ (b : Bool). has_node here.listed (writer_of s.statement) && b) (kept_same T J s.statement)

below_by : (here : Setting) (J : List Record) (T : List Update) (s : Signed) (known early : Bool) → is_known here J (given_statement s) ≡ known → is_some (first (checks_to_signature here s)) ≡ early
    → below_of here J T s ≡ cond (known || early) None (option_map id_of_update (find (names s.statement) T))
unfolding below_of
below_by here J T s known early known_is early_is =
    ap (λ (b : Bool). cond (b || is_some (first (checks_to_signature here s))) None (option_map id_of_update (find (names s.statement) T))) known_is
    ∙ ap (λ (b : Bool). cond (known || b) None (option_map id_of_update (find (names s.statement) T))) early_is

-- nothing that is here
pub known_above : (here : Setting) (J : List Record) (T : List Update) (s : Signed) → is_known here (pruned T J) (given_statement s) ≡ true → below_of here J T s ≡ None
known_above here J T s known = below_by here J T s true (is_some (first (checks_to_signature here s))) (sym (known_alike here J T s) ∙ known) refl

-- nothing that fails the checks up to the signature
pub early_above : (here : Setting) (J : List Record) (T : List Update) (s : Signed) (c : Check) → is_known here (pruned T J) (given_statement s) ≡ false → first (checks_to_signature here s) ≡ Some c → below_of here J T s ≡ None
early_above here J T s c new failed = below_by here J T s false true (sym (known_alike here J T s) ∙ new) (ap (λ (o : Option Check). is_some o) failed)

-- and else the first trimmed update that it names
pub below_is : (here : Setting) (J : List Record) (T : List Update) (s : Signed) → is_known here (pruned T J) (given_statement s) ≡ false → first (checks_to_signature here s) ≡ None → below_of here J T s ≡ option_map id_of_update (find (names s.statement) T)
below_is here J T s new passed = below_by here J T s false false (sym (known_alike here J T s) ∙ new) (ap (λ (o : Option Check). is_some o) passed)

-- ---- what is reported

pub told_below : (R : Reader) (s : Signed) (id : List ℕ) → below_of R.here R.journal R.trimmed s ≡ Some id → reader_outcome R (given_statement s) ≡ stands_below id
unfolding reader_outcome
told_below R s id e = ap (told_above R s) e

pub told_here : (R : Reader) (s : Signed) → below_of R.here R.journal R.trimmed s ≡ None → reader_outcome R (given_statement s) ≡ told_as_node R (given_statement s)
unfolding reader_outcome
told_here R s e = ap (told_above R s) e

-- where there is room for the growth
pub told_with_room : (R : Reader) (x : Given) (answer : Result Taken Check) → answer_to R.here R.journal x ≡ answer → full_by R.here.me R.journal (growth R.here R.journal x) ≡ None → told_as_node R x ≡ told answer (with_more R (growth R.here R.journal x))
unfolding told_as_node
told_with_room R x answer is room =
    ap (λ (o : Option Full). told_unless R o (answer_to R.here R.journal x) (growth R.here R.journal x)) room ∙ ap (λ (a : Result Taken Check). told a (with_more R (growth R.here R.journal x))) is

-- and where there is none
pub told_too_full : (R : Reader) (x : Given) (full : Full) → full_by R.here.me R.journal (growth R.here R.journal x) ≡ Some full → told_as_node R x ≡ too_full full
unfolding told_as_node
told_too_full R x full e = ap (λ (o : Option Full). told_unless R o (answer_to R.here R.journal x) (growth R.here R.journal x)) e

-- growth by nothing is answered as it is
pub told_plainly : (R : Reader) (x : Given) (answer : Result Taken Check) → answer_to R.here R.journal x ≡ answer → growth R.here R.journal x ≡ [] → told_as_node R x ≡ told answer R
told_plainly R x answer is none =
    told_with_room R x answer is (ap (full_by R.here.me R.journal) none) ∙ ap (λ (rs : List Record). told answer (with_more R rs)) none ∙ ap (λ (Q : Reader). told answer Q) (none_more R)

-- ---- by the pruned journal

-- what is known grows by nothing
known_grows : (here : Setting) (K : List Record) (s : Signed) → answer_to here K (given_statement s) ≡ Ok Known → growth here K (given_statement s) ≡ []
unfolding growth
known_grows here K s e = ap (growth_by K (given_statement s)) e

module _ (R : Reader) (l : IsLawful R.here R.journal) (w : WasTrimmed R) where
  -- a statement that isn't below is answered as by the pruned journal
  pub alike_above : (s : Signed) → below_of R.here R.journal R.trimmed s ≡ None → AnswersAlike R.here R.journal (pruned R.trimmed R.journal) (given_statement s)
  alike_above s above = statements_alike R.here R.journal R.trimmed l (trimmed_within R w) s above

  -- one that is here
  pub told_known : (s : Signed) → is_known R.here (pruned R.trimmed R.journal) (given_statement s) ≡ true → answer_to R.here (pruned R.trimmed R.journal) (given_statement s) ≡ Ok Known → reader_outcome R (given_statement s) ≡ told (Ok Known) R
  told_known s known answer =
      let above = known_above R.here R.journal R.trimmed s known in
      let alike = alike_above s above in
      told_here R s above ∙ told_plainly R (given_statement s) (Ok Known) (sym alike.answer ∙ answer) (sym alike.growth ∙ known_grows R.here (pruned R.trimmed R.journal) s answer)

  -- one that fails the checks up to the signature
  pub told_early : (s : Signed) (c : Check) → is_known R.here (pruned R.trimmed R.journal) (given_statement s) ≡ false → first (checks_to_signature R.here s) ≡ Some c → answer_to R.here (pruned R.trimmed R.journal) (given_statement s) ≡ Err c → growth R.here (pruned R.trimmed R.journal) (given_statement s) ≡ []
      → reader_outcome R (given_statement s) ≡ told (Err c) R
  told_early s c new failed answer none =
      let above = early_above R.here R.journal R.trimmed s c new failed in
      let alike = alike_above s above in
      told_here R s above ∙ told_plainly R (given_statement s) (Err c) (sym alike.answer ∙ answer) (sym alike.growth ∙ none)

-- a proof is reported as by a node
pub told_proof : (R : Reader) (p : Proof) → reader_outcome R (given_proof p) ≡ told_as_node R (given_proof p)
unfolding reader_outcome
told_proof R p = refl

-- ---- values

pub told_held : (R : Reader) (v : List ℕ) → has_value R (sha256 v) ≡ true → reader_outcome R (given_value v) ≡ told (Ok Known) R
unfolding reader_outcome told_of_value
told_held R v e = rw e refl

pub told_new : (R : Reader) (v : List ℕ) → has_value R (sha256 v) ≡ false → is_wanted (kept R) (sha256 v) (length v) ≡ true → reader_outcome R (given_value v) ≡ told (Ok New) (record R { held = R.held ++ v ∷ [] })
unfolding reader_outcome told_of_value
told_new R v e wanted = rw (e, wanted) refl

pub told_unwanted : (R : Reader) (v : List ℕ) → has_value R (sha256 v) ≡ false → is_wanted (kept R) (sha256 v) (length v) ≡ false → reader_outcome R (given_value v) ≡ told (Err (check.Unwanted (sha256 v))) R
unfolding reader_outcome told_of_value
told_unwanted R v e unwanted = rw (e, unwanted) refl
