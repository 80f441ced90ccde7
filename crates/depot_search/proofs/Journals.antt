-- The journals of traces are those of the world that the traces make.
use Rattle.std.proofs.Common.{◌≡◌, ℕ, ◌≤◌, ◌<◌, ◌^◌, List, [], ◌∷◌, length, take, map, refl, sym, ap, subst, ◌∙◌, inl, inr, arith}
use Rattle.std.specs.List.{AllByRecursion}
use Rattle.depot_base.proofs.Decoding.{closed_in_one_way}
use Rattle.depot_base.specs.declared.key.RosterEntry.{RosterEntry}
use Rattle.depot_base.specs.declared.record.Record.{Record}
use Rattle.depot_model.specs.checks.Checks.{Setting}
use Rattle.depot_model.specs.journals.Lawful.{IsLawful}
use Rattle.depot_model.specs.lists.Lists.{IsIn}
use Rattle.depot_model.specs.texts.Records.{record_text, IsRecord, text_of_record}
use Rattle.depot_model.specs.texts.Roster.{Verifies}
use Rattle.depot_model.specs.journals.ShownWrites.{shown_of}
use Rattle.depot_model.specs.worlds.Traces.{AreRightReads, AreNodesOf, at_node, answered}
use Rattle.depot_model.specs.worlds.World.{Read, Correct}
use Rattle.depot_model.proofs.of_texts.RecordLaws.{record_text_lawful}
use Rattle.depot_laws.proofs.records.JournalLimits.{within_from_room}
use Rattle.depot_laws.proofs.lists.Splits.{lawful_texts, lawful_from_end}
use Rattle.depot_search.specs.Search.{HasFewRecords, HasFewReads}
use Rattle.depot_search.specs.Writes.{IsRecordText}
use Rattle.depot_search.specs.declared.journal.TracedJournal.{TracedJournal}
use Rattle.depot_traces.specs.SeenTraces.{answered_of, read_of, trace_of}
use Rattle.depot_traces.specs.declared.trace.ReadTrace.{ReadTrace}
use Rattle.depot_traces.specs.declared.trace.Trace.{Trace}

-- ---- records and their texts

-- the texts of a journal are texts of records
pub texts_told : (J : List Record) → ((r : Record) → IsIn r J → IsRecord r) → (texts : List (List ℕ)) → texts ≡ map text_of_record J → AllByRecursion IsRecordText texts
texts_told J fit texts e = subst (AllByRecursion IsRecordText) (sym e) (each J fit) where
  each : (J : List Record) → ((r : Record) → IsIn r J → IsRecord r) → AllByRecursion IsRecordText (map text_of_record J)
  each [] fit = tt
  each (r ∷ rs) fit = (record { told = r; fits = fit r (inl refl); is = refl }, each rs (λ s on. fit s (inr on)))

-- one list of texts is that of one list of records
one_journal : (J K : List Record) → AllByRecursion IsRecord J → ((r : Record) → IsIn r K → IsRecord r) → map text_of_record J ≡ map text_of_record K → J ≡ K
one_journal [] [] fit fits e = refl
one_journal [] (s ∷ ss) fit fits e = absurd cc
one_journal (r ∷ rs) [] fit fits e = absurd cc
one_journal (r ∷ rs) (s ∷ ss) fit fits e =
    let text : text_of_record r ≡ text_of_record s = cc in
    let texts : map text_of_record rs ≡ map text_of_record ss = cc in
    ap (λ (x : Record). x ∷ rs) ((closed_in_one_way record_text _ record_text_lawful).value r s fit.0 (fits s (inl refl)) text)
    ∙ ap (λ (xs : List Record). s ∷ xs) (one_journal rs ss fit.1 (λ x on. fits x (inr on)) texts)

few : (here : Setting) (J : List Record) → IsLawful here J → length J ≤ 131072
few here J l = lawful_from_end here (λ (x : List Record). length x ≤ 131072) (omega arith) (λ x r before may counted. (within_from_room here.me x (r ∷ []) may.room).records) J l

-- ---- nodes

-- a read as a trace has it
pub record IsReadAs (r : Read) (t : ReadTrace) : Type 0 where
  pub length : r.at ≡ t.length
  pub key : r.key ≡ t.key
  pub answer : map answered r.answer ≡ map answered_of t.answer

abbrev pub AreReadsAs : List Read → List ReadTrace → Type 0
AreReadsAs [] [] = Unit {0}
AreReadsAs [] (t ∷ ts) = ⊥
AreReadsAs (r ∷ rs) [] = ⊥
AreReadsAs (r ∷ rs) (t ∷ ts) = IsReadAs r t × AreReadsAs rs ts

-- a journal is that of a node
pub record IsOf (c : Correct) (j : TracedJournal) : Type 0 where
  pub node : c.node ≡ j.node
  pub journal : c.journal ≡ j.entries
  pub reads : AreReadsAs c.reads j.reads.now

abbrev pub AreOf : List Correct → List TracedJournal → Type 0
AreOf [] [] = Unit {0}
AreOf [] (j ∷ js) = ⊥
AreOf (c ∷ cs) [] = ⊥
AreOf (c ∷ cs) (j ∷ js) = IsOf c j × AreOf cs js

reads_as : (J : List Record) (last : ℕ) (ts : List ReadTrace) → AreRightReads J last (map read_of ts) → AreReadsAs (map (λ r. record { at = r.length; key = r.key; answer = shown_of (take r.length J) r.key }) (map read_of ts)) ts
reads_as J last [] told = tt
reads_as J last (t ∷ ts) told = (record { length = refl; key = refl; answer = sym told.0.answer }, reads_as J t.length ts told.1)

module _ {X : Type 0} (now : X → Trace) (verifies : Verifies) (listed : List RosterEntry) where
  -- each text of the traces is that of a record
  pub all_told : (xs : List X) (cs : List Correct) → AreNodesOf verifies listed (map (λ x. trace_of (now x)) xs) cs → AllByRecursion (λ x. AllByRecursion IsRecordText (now x).texts) xs
  all_told [] cs a = tt
  all_told (x ∷ xs) [] a = absurd a
  all_told (x ∷ xs) (c ∷ cs) ((J, (texts, (told, is))), a) = (texts_told J (λ r on. lawful_texts (at_node verifies listed (trace_of (now x))) J r texts.lawful on) (now x).texts texts.are, all_told xs cs a)

  -- what is read from them are the journals of the nodes
  pub all_of : (xs : List X) (cs : List Correct) (js : List TracedJournal) → AreNodesOf verifies listed (map (λ x. trace_of (now x)) xs) cs
      → AllByRecursion (λ j. AllByRecursion IsRecord j.entries) js
      → map (λ (j : TracedJournal). j.node) js ≡ map (λ x. (now x).node) xs
      → map (λ (j : TracedJournal). map text_of_record j.entries) js ≡ map (λ x. (now x).texts) xs
      → map (λ (j : TracedJournal). j.reads.now) js ≡ map (λ x. (now x).reads) xs → AreOf cs js
  all_of [] [] [] a fit nodes texts reads = tt
  all_of [] [] (j ∷ js) a fit nodes texts reads = absurd cc
  all_of [] (c ∷ cs) js a fit nodes texts reads = absurd a
  all_of (x ∷ xs) [] js a fit nodes texts reads = absurd a
  all_of (x ∷ xs) (c ∷ cs) [] a fit nodes texts reads = absurd cc
  all_of (x ∷ xs) (c ∷ cs) (j ∷ js) ((J, (are, (told, is))), a) fit nodes texts reads =
      let node : j.node ≡ (now x).node = cc in
      let text : map text_of_record j.entries ≡ (now x).texts = cc in
      let read : j.reads.now ≡ (now x).reads = cc in
      let nodes_left : map (λ (k : TracedJournal). k.node) js ≡ map (λ y. (now y).node) xs = cc in
      let texts_left : map (λ (k : TracedJournal). map text_of_record k.entries) js ≡ map (λ y. (now y).texts) xs = cc in
      let reads_left : map (λ (k : TracedJournal). k.reads.now) js ≡ map (λ y. (now y).reads) xs = cc in (
        record {
          node = ap (λ (d : Correct). d.node) is ∙ sym node;
          journal = ap (λ (d : Correct). d.journal) is ∙ sym (one_journal j.entries J fit.0 (λ r on. lawful_texts (at_node verifies listed (trace_of (now x))) J r are.lawful on) (text ∙ are.are));
          reads = subst (λ (d : Correct). AreReadsAs d.reads j.reads.now) (sym is) (subst (λ (ts : List ReadTrace). AreReadsAs (map (λ r. record { at = r.length; key = r.key; answer = shown_of (take r.length J) r.key }) (map read_of (now x).reads)) ts) (sym read) (reads_as J 0 (now x).reads told));
        },
        all_of xs cs js a fit.1 nodes_left texts_left reads_left,
      )

  -- of which none has too many records to count
  pub all_few : (xs : List X) (cs : List Correct) (js : List TracedJournal) → AreNodesOf verifies listed (map (λ x. trace_of (now x)) xs) cs → AreOf cs js → AllByRecursion HasFewRecords js
  all_few xs [] [] a of = tt
  all_few xs [] (j ∷ js) a of = absurd of
  all_few xs (c ∷ cs) [] a of = absurd of
  all_few [] (c ∷ cs) (j ∷ js) a of = absurd a
  all_few (x ∷ xs) (c ∷ cs) (j ∷ js) ((J, (texts, (told, is))), a) of =
      let same : J ≡ j.entries = sym (ap (λ (d : Correct). d.journal) is) ∙ of.0.journal in
      let counted : length j.entries ≤ 131072 = subst (λ (K : List Record). length K ≤ 131072) same (few (at_node verifies listed (trace_of (now x))) J texts.lawful) in
      (omega (arith, counted), all_few xs cs js a of.1)

-- nor too many reads
pub few_reads : {X : Type 0} (now : X → Trace) (most : ℕ) (xs : List X) (js : List TracedJournal) → most < 2 ^ 32 → AllByRecursion (λ x. length (now x).reads ≤ most) xs → map (λ (j : TracedJournal). j.reads.now) js ≡ map (λ x. (now x).reads) xs → AllByRecursion HasFewReads js
few_reads now most xs [] low all e = tt
few_reads now most [] (j ∷ js) low all e = absurd cc
few_reads now most (x ∷ xs) (j ∷ js) low all e =
    let one : j.reads.now ≡ (now x).reads = cc in
    let rest : map (λ (k : TracedJournal). k.reads.now) js ≡ map (λ y. (now y).reads) xs = cc in
    let counted : length j.reads.now ≤ most = subst (λ (ts : List ReadTrace). length ts ≤ most) (sym one) all.0 in
    (omega (arith, counted, low), few_reads now most xs js low all.1 rest)
