-- What a reader is after what it takes.
use Rattle.std.proofs.Common.{◌≡◌, ◌<◌, ◌≤◌, arith, ℕ, Bool, List, [], ◌∷◌, ◌++◌, length, map, Option, Some, None, Result, Ok, Err, IsOk, Bor, refl, sym, ap, subst, ◌∙◌}
use Rattle.std.specs.Prelude.{is_some, option_copied, option_map, find}
use Rattle.std.specs.List.{AllByRecursion}
use Rattle.std.proofs.lemmas.Grind.{flat_map-append}
use Rattle.sha2.specs.Sha256.{sha256}
use Rattle.depot_base.specs.declared.check.Check.{Check}
use Rattle.depot_base.specs.declared.check.Full.{Full}
use Rattle.depot_base.specs.declared.key.RosterEntry.{RosterEntry}
use Rattle.depot_base.specs.declared.memory.Memory.{Memory}
use Rattle.depot_base.specs.declared.proof.Proof.{Proof}
use Rattle.depot_base.specs.declared.record.Record.{Record}
use Rattle.depot_base.specs.declared.statement.Signed.{Signed}
use Rattle.depot_base.specs.declared.update.Update.{Update}
use Rattle.depot_model.specs.declared.taken.Taken.{Taken}
use Rattle.depot_model.specs.checks.Checks.{Setting, Given, given_statement, given_proof, growth}
use Rattle.depot_model.specs.journals.Journal.{accepted, accepted_by, is_wanted, value_with}
use Rattle.depot_model.specs.journals.Lawful.{IsLawful}
use Rattle.depot_model.specs.updates.Order.{IsCausal}
use Rattle.depot_model.specs.readers.Pruning.{pruned, below_of, AnswersAlike}
use Rattle.depot_model.specs.readers.Readers.{Reader, ReaderOutcome, kept, has_value, with_more, told, told_as_node, too_full}
use Rattle.depot_model.specs.checks.Room.{full_by}
use Rattle.depot_model.specs.texts.Roster.{Verifies}
use Rattle.depot_model.specs.texts.Texts.{IsSigned, IsProof, id_of_update, id_of_statement}
use Rattle.depot_model.specs.readers.Trimming.{names}
use Rattle.depot_model.proofs.of_texts.BodyLaws.{body_is_text}
use Rattle.depot_laws.proofs.records.Causes.{lawful_is_causal}
use Rattle.depot_laws.proofs.records.FewLeaves.{few_foreign as few_leaves}
use Rattle.depot_laws.proofs.records.Growing.{grown_is_lawful, still_some}
use Rattle.depot_laws.proofs.of_readers.PrunedAnswers.{proofs_alike}
use Rattle.depot_laws.proofs.of_readers.PrunedGrowth.{pruned_grows}
use Rattle.depot_accept.specs.StateView.{IsStateOf, setting}
use Rattle.depot_accept.specs.AfterSignature.{IsCheckedAfterSignature}
use Rattle.depot_accept.specs.CheckResults.{IsChecked}
use Rattle.depot_accept.specs.ToSignature.{PassesEarly, IsCheckedToSignature}
use Rattle.depot_accept.specs.declared.answer.CheckError.{CheckError}
use Rattle.depot_accept.specs.declared.answer.Pass.{Pass}
use Rattle.depot_accept.proofs.CheckAnswers.{checked_later}
use Rattle.depot_accept.specs.declared.answer.Front.{Front}
use Rattle.depot_kept.specs.Values as values
use Rattle.depot_kept.specs.declared.values.Values.{Values}
use Rattle.depot_readings.specs.AddedValues.{or_else}
use Rattle.depot_readings.specs.Counts.{AreCountsOf}
use Rattle.depot_readings.specs.Named.{AreNamed}
use Rattle.depot_readings.specs.NewRecords.{AreNew}
use Rattle.depot_readings.specs.Taken.{IsTaken}
use Rattle.depot_readings.proofs.HeldLaws.{Adds, one_added, with_behind}
use Rattle.depot_decide.specs.Deciding.{IsDecided}
use Rattle.depot_trim.specs.ReaderAnswers.{Becomes}
use Rattle.depot_trim.specs.ReaderDecides.{IsDecidedOf, MayTake, as_told}
use Rattle.depot_trim.specs.ReaderView.{mark_of, IsReaderOf}
use Rattle.depot_trim.specs.declared.trimmed.Trimmed.{Trimmed}
use Rattle.depot_trim.proofs.ReaderBounds.{few_updates, few_left}
use Rattle.depot_trim.proofs.ReaderGrowth.{trimmed_within, trimmed_still, kept_grows}
use Rattle.depot_trim.proofs.ReaderReads.{accepted_is}
use Rattle.depot_trim.proofs.ReaderTold.{below_is, alike_above, told_with_room, told_too_full}
use Rattle.depot_trim.proofs.TakenRecords.{growth_of_takes, all_new, all_taken}

-- ---- outcomes

-- the answer goes by the outcome
pub becomes_as : {S : Type 0} (verifies : Verifies) (R : Reader) (o p : ReaderOutcome) (result : _) (t : Trimmed S) → o ≡ p → Becomes verifies R p result t → Becomes verifies R o result t
becomes_as {S = S} verifies R o p result t same b = subst (λ (x : ReaderOutcome). Becomes verifies R x result t) (sym same) b

-- what is reported is answered
pub becomes_told : {S : Type 0} (verifies : Verifies) (R then : Reader) (o : ReaderOutcome) (answer : Result Taken Check) (t : Trimmed S) → o ≡ told answer then → IsReaderOf verifies then t → Becomes verifies R o (as_told answer) t
becomes_told verifies R then o (Ok taken) t so is = (then, (so, is))
becomes_told verifies R then o (Err c) t so is = (then, (so, is))

-- the id is SHA-256 of the body as it was read
pub id_of_body : (s : Signed) (id : List ℕ) → IsSigned s → id ≡ sha256 s.body → id ≡ id_of_statement s.statement
unfolding id_of_statement
id_of_body s id fits is = is ∙ ap sha256 (body_is_text s fits)

-- ---- decisions

-- the journal may grow by what is decided, where there is room
pub decided_may : (R : Reader) (x : Given) (answer : Result Taken Check) (new : List Record) → IsDecidedOf R x answer new → full_by R.here.me R.journal new ≡ None → MayTake R new
decided_may R x answer new d room = record { given = x; said = d.said; text = d.text; grows = d.decided.grows; room = room }

pub decided_new : (R : Reader) (x : Given) (answer : Result Taken Check) (new : List Record) → IsDecidedOf R x answer new → AreNew R.here R.journal new
decided_new R x answer new d = subst (λ (rs : List Record). AreNew R.here R.journal rs) d.decided.grows (all_new R.here R.journal (growth R.here R.journal x) (growth_of_takes R.here R.journal x d.said))

-- its outcome where there is room, and where there is none
pub decided_told : (R : Reader) (x : Given) (answer : Result Taken Check) (new : List Record) → IsDecidedOf R x answer new → full_by R.here.me R.journal new ≡ None → told_as_node R x ≡ told answer (with_more R new)
decided_told R x answer new d room =
    told_with_room R x answer d.decided.is (ap (full_by R.here.me R.journal) d.decided.grows ∙ room) ∙ ap (λ (rs : List Record). told answer (with_more R rs)) d.decided.grows

pub decided_full : (R : Reader) (x : Given) (answer : Result Taken Check) (new : List Record) (full : Full) → IsDecidedOf R x answer new → full_by R.here.me R.journal new ≡ Some full → told_as_node R x ≡ too_full full
decided_full R x answer new full d none = told_too_full R x full (ap (full_by R.here.me R.journal) d.decided.grows ∙ none)

module _ {S : Type 0} (verifies : Verifies) (R : Reader) (t : Trimmed S) (is : IsReaderOf verifies R t) where
  -- what the state answers is what the reader's node answers
  pub decided_here : (x : Given) (answer : Result Taken Check) (new : List Record) → AnswersAlike R.here R.journal (pruned R.trimmed R.journal) x → IsDecided (setting verifies t.state) (pruned R.trimmed R.journal) x answer new → IsDecided R.here R.journal x answer new
  decided_here x answer new alike d =
      let here = subst (λ (s : Setting). IsDecided s (pruned R.trimmed R.journal) x answer new) is.stands d in
      record { is = sym alike.answer ∙ here.is; grows = sym alike.growth ∙ here.grows }

  pub front_here : (s : Signed) (f : Front) → IsCheckedToSignature (setting verifies t.state) (pruned R.trimmed R.journal) s f → IsCheckedToSignature R.here (pruned R.trimmed R.journal) s f
  front_here s f c = subst (λ (h : Setting). IsCheckedToSignature h (pruned R.trimmed R.journal) s f) is.stands c

  -- what the checks after the signature say, of a statement that passes those up to it
  pub passed_checked : (s : Signed) (r : Result Pass CheckError) → PassesEarly R.here (pruned R.trimmed R.journal) s → IsCheckedAfterSignature (pruned R.trimmed R.journal) s r → IsChecked (setting verifies t.state) (pruned R.trimmed R.journal) s r
  passed_checked s r passes behind = checked_later (setting verifies t.state) (pruned R.trimmed R.journal) s r (subst (λ (h : Setting). PassesEarly h (pruned R.trimmed R.journal) s) (sym is.stands) passes) behind

  -- what is decided of a statement that isn't below
  pub statement_decided : (s : Signed) (answer : Result Taken Check) (new : List Record) → IsSigned s → below_of R.here R.journal R.trimmed s ≡ None → IsDecided (setting verifies t.state) (pruned R.trimmed R.journal) (given_statement s) answer new → IsDecidedOf R (given_statement s) answer new
  statement_decided s answer new fits above d = record { said = tt; text = fits; decided = decided_here (given_statement s) answer new (alike_above R is.lawful is.below s above) d }

  pub proof_decided : (p : Proof) (answer : Result Taken Check) (new : List Record) → IsProof p → IsDecided (setting verifies t.state) (pruned R.trimmed R.journal) (given_proof p) answer new → IsDecidedOf R (given_proof p) answer new
  proof_decided p answer new fits d = record { said = tt; text = fits; decided = decided_here (given_proof p) answer new (proofs_alike R.here R.journal R.trimmed p) d }

  -- the first mark that it names is that of the update that it is below
  pub first_below : (s : Signed) (found : Option (List ℕ)) → PassesEarly R.here (pruned R.trimmed R.journal) s → ((ts : List Update) → t.marks.list.items ≡ map mark_of ts → found ≡ option_map id_of_update (find (names s.statement) ts)) → below_of R.here R.journal R.trimmed s ≡ found
  first_below s found passes first = below_is R.here R.journal R.trimmed s passes.new passes.passed ∙ sym (first R.trimmed is.marks)

  -- ---- growing

  pub grown_lawful : (new : List Record) → MayTake R new → IsLawful R.here (R.journal ++ new)
  grown_lawful new m = subst (λ (rs : List Record). IsLawful R.here (R.journal ++ rs)) m.grows (grown_is_lawful R.here R.journal m.given is.lawful is.some m.text (ap (full_by R.here.me R.journal) m.grows ∙ m.room))

  pub records_taken : (new : List Record) → MayTake R new → AllByRecursion (IsTaken t.state.listed) new
  records_taken new m =
      subst (λ (listed : List RosterEntry). AllByRecursion (IsTaken listed) new) (sym (ap (λ (s : Setting). s.listed) is.stands))
      (subst (λ (rs : List Record). AllByRecursion (IsTaken R.here.listed) rs) m.grows
      (all_taken R.here R.journal R.journal (growth R.here R.journal m.given) (growth_of_takes R.here R.journal m.given m.said) (subst (λ (rs : List Record). IsLawful R.here (R.journal ++ rs)) (sym m.grows) (grown_lawful new m))))

  pub records_fit : (new : List Record) → MayTake R new → IsCausal [] (t.state.accepted ++ accepted new)
  records_fit new m =
      subst (λ (us : List Update). IsCausal [] us) (flat_map-append accepted_by R.journal new ∙ ap (λ (us : List Update). us ++ accepted new) (accepted_is verifies R t is)) (lawful_is_causal R.here (R.journal ++ new) (grown_lawful new m))

  pub few_accepted : length t.state.accepted < 4294967295
  few_accepted = subst (λ (us : List Update). length us < 4294967295) (accepted_is verifies R t is) (few_updates R.here R.journal is.lawful)

  pub few_foreign : length t.state.foreign ≤ 131072
  few_foreign = subst (λ (fs : List Signed). length fs ≤ 131072) is.state.foreign (few_left R.here R.journal R.trimmed is.lawful)

  pub leaves_are_few : t.counts.leaves ≤ 131072
  leaves_are_few = omega (arith, is.counts.leaves, few_leaves R.here R.journal is.lawful)

  -- the reader whose journal has grown
  pub grown_reader : (new : List Record) (u : Trimmed S) → MayTake R new → IsStateOf (pruned R.trimmed R.journal ++ new) u.state → setting verifies u.state ≡ setting verifies t.state → u.values ≡ t.values
      → AreNamed (kept R ++ accepted new) u.named → AreCountsOf R.here.me (R.journal ++ new) u.counts → u.marks.list.items ≡ t.marks.list.items → IsReaderOf verifies (with_more R new) u
  grown_reader new u m state stands same named counts marks = record {
    lawful = grown_lawful new m;
    some = still_some R.journal new is.some;
    below = trimmed_still R new is.below;
    state = subst (λ (K : List Record). IsStateOf K u.state) (sym grows) state;
    stands = stands ∙ is.stands;
    values = λ h. ap (λ (v : Values). values.held_in v h) same ∙ is.values h;
    named = subst (λ (us : List Update). AreNamed us u.named) (sym brings) named;
    counts = counts;
    marks = marks ∙ is.marks;
  } where
    grows : pruned R.trimmed (R.journal ++ new) ≡ pruned R.trimmed R.journal ++ new
    grows = subst (λ (rs : List Record). pruned R.trimmed (R.journal ++ rs) ≡ pruned R.trimmed R.journal ++ rs) m.grows (pruned_grows R.here R.journal R.trimmed (trimmed_within R is.below) m.given)

    brings : kept (with_more R new) ≡ kept R ++ accepted new
    brings = subst (λ (rs : List Record). kept (with_more R rs) ≡ kept R ++ accepted rs) m.grows (kept_grows R m.given is.below)

  -- ---- values

  some_copied : (o : Option (Bor (List ℕ))) → is_some (option_copied o) ≡ is_some o
  some_copied None = refl
  some_copied (Some x) = refl

  -- whether a value of a hash is held, as it was looked up
  pub hash_is_held : (v h : List ℕ) (found : Option (Bor (List ℕ))) (tells is_held : Bool) → h ≡ sha256 v → option_copied found ≡ values.held_in t.values h → tells ≡ is_some found → tells ≡ is_held → has_value R (sha256 v) ≡ is_held
  hash_is_held v h found tells is_held hash e some answer =
      ap (has_value R) (sym hash) ∙ ap (λ (o : Option (List ℕ)). is_some o) (sym (is.values h)) ∙ ap (λ (o : Option (List ℕ)). is_some o) (sym e) ∙ some_copied found ∙ sym some ∙ answer

  -- whether it is wanted, as it was looked up
  pub hash_is_wanted : (v h : List ℕ) (tells wanted : Bool) → h ≡ sha256 v → tells ≡ is_wanted (kept R) h (length v) → tells ≡ wanted → is_wanted (kept R) (sha256 v) (length v) ≡ wanted
  hash_is_wanted v h tells wanted hash e answer = ap (λ (x : List ℕ). is_wanted (kept R) x (length v)) (sym hash) ∙ sym e ∙ answer

  -- the reader that holds one value more
  pub holding_reader : (h v w : List ℕ) (new : Values) (result : Result Taken Memory) → h ≡ sha256 v → w ≡ v → IsOk result → Adds t.values new h w result → IsReaderOf verifies (record R { held = R.held ++ v ∷ [] }) (record t { values = new })
  unfolding kept
  holding_reader h v w new result hash same ok a = record {
    lawful = is.lawful;
    some = is.some;
    below = record { front = is.below.front; more = is.below.more; ids = is.below.ids; journal = is.below.journal; trimmed = is.below.trimmed };
    state = is.state;
    stands = is.stands;
    values = λ k. one_added h w t.values new result (hash ∙ ap sha256 (sym same)) ok a k ∙ ap (λ (o : Option (List ℕ)). or_else o (value_with k (w ∷ []))) (is.values k) ∙ ap (λ (x : List ℕ). or_else (value_with k R.held) (value_with k (x ∷ []))) same ∙ sym (with_behind k R.held (v ∷ []));
    named = named_still;
    counts = is.counts;
    marks = is.marks;
  } where
    named_still : AreNamed (kept (record R { held = R.held ++ v ∷ [] })) t.named
    named_still = is.named
