-- The crash images of a run, and after it: what was possible before, or a journal that extends the file's by what the
-- run brings.
use Rattle.std.proofs.Common.{◌≡◌, ◌⊎◌, ℕ, ◌+◌, true, is_some, List, [], ◌∷◌, ◌++◌, append_assoc, length, take, drop, map, Some, refl, sym, ap, subst, ◌∙◌, inl, inr}
use Rattle.std.proofs.lemmas.List.{take-append-drop}
use Rattle.depot_base.specs.File.{IsFileOf}
use Rattle.depot_base.specs.declared.key.PublicKey.{PublicKey}
use Rattle.depot_base.specs.declared.record.Record.{Record}
use Rattle.depot_journal.proofs.OneList.{one_list}
use Rattle.depot_laws.proofs.records.Births.{born}
use Rattle.depot_laws.proofs.lists.Splits.{lawful_front}
use Rattle.depot_laws.proofs.of_audits.TrueReceipts.{front_is_true, no_receipts_yet, silent_is_true}
use Rattle.depot_model.proofs.of_journals.StopLaws.{front_longer, so_many_more}
use Rattle.depot_model.specs.worlds.Causality.{puts_of}
use Rattle.depot_model.specs.checks.Checks.{Setting}
use Rattle.depot_model.specs.journals.Lawful.{IsLawful}
use Rattle.depot_model.specs.worlds.Receipts.{AreReceiptsTrue}
use Rattle.depot_model.specs.texts.Records.{text_of_record}
use Rattle.depot_model.specs.texts.Roster.{has_node, key_of}
use Rattle.depot_model.specs.journals.Stops.{HasFront, HasRecords}
use Rattle.depot_model.specs.texts.Texts.{IsRoster}
use Rattle.depot_node.specs.Starting.{IsKeyFault, IsNotStarted, IsStartedFrom, StartLeaves, birth_after}
use Rattle.depot_node.specs.declared.start_error.StartError.{StartError}
use Rattle.depot_node.specs.declared.start_error.StartError.TheVariants as refused
use Rattle.depot_outside.specs.Told.{Disks, disks}
use Rattle.depot_outside.specs.declared.disk.Disk as disk_of
use Rattle.depot_session.specs.SessionRuns.{ContinuesFile, Settles}

-- ---- a start

-- the roster has a node whose key it has
pub has_from_key : (here : Setting) (key : PublicKey) → key_of here.listed here.me ≡ Some key → has_node here.listed here.me ≡ true
has_from_key here key keyed = ap is_some keyed

-- a start is refused for the key, or the roster has it
pub key_or_disk : (here : Setting) (key : PublicKey) (told : Type 0) (file : List ℕ) (e : StartError) → IsNotStarted here key told file e → IsKeyFault here.listed here.me key e ⊎ (key_of here.listed here.me ≡ Some key)
key_or_disk here key told file refused.UnknownMe n = inl n
key_or_disk here key told file (refused.OtherKey other own) n = inl n
key_or_disk here key told file other n = inr n.0

-- a birth puts nothing
birth_puts_none : (here : Setting) (J : List Record) → puts_of (birth_after here J) ≡ []
birth_puts_none here [] = refl
birth_puts_none here (r ∷ rs) = refl

-- so with a birth after them, or a prefix of it, receipts stay true
birth_is_true : (here : Setting) (J : List Record) → AreReceiptsTrue J → AreReceiptsTrue (J ++ birth_after here J)
birth_is_true here J = silent_is_true J (birth_after here J) (birth_puts_none here J)

-- a prefix of a birth goes on from a file without records
birth_goes_on : (here : Setting) (file image : List ℕ) → IsRoster here.listed → has_node here.listed here.me ≡ true → IsFileOf file [] → HasFront [] (birth_after here []) image → ContinuesFile here file image
birth_goes_on here file image formed member none front =
    let birth = birth_after here [] in
    let lawful : IsLawful here (take front.count birth ++ drop front.count birth) = subst (IsLawful here) (sym (take-append-drop front.count birth)) (born here formed member) in
    let born_true : AreReceiptsTrue (take front.count birth ++ drop front.count birth) = subst AreReceiptsTrue (sym (take-append-drop front.count birth)) (birth_is_true here [] no_receipts_yet) in
    record {
      journal = [];
      read = none;
      more = take front.count birth;
      lawful = lawful_front here (take front.count birth) (drop front.count birth) lawful;
      receipts = λ _. front_is_true (take front.count birth) (drop front.count birth) born_true;
      has = front.has;
    }

-- what a start leaves
pub start_goes_on : (here : Setting) (file : List ℕ) (before : List ℕ → Type 0) (image : List ℕ) → IsRoster here.listed → has_node here.listed here.me ≡ true → StartLeaves here (IsFileOf file []) before image → before image ⊎ ContinuesFile here file image
start_goes_on here file before image formed member (inl was) = inl was
start_goes_on here file before image formed member (inr p) = inr (birth_goes_on here file image formed member p.0 p.1)

-- a file without records that has the records of a journal: a prefix of its birth is one of the journal, its birth, and
-- more
pub birth_front : (here : Setting) (J more : List Record) (file image : List ℕ) → HasRecords J file → IsFileOf file [] → HasFront [] (birth_after here []) image → ((a b : List Record) → HasFront [] a image → HasFront [] (a ++ b) image) → HasFront J (birth_after here J ++ more) image
birth_front here [] more file image has none front longer = longer (birth_after here []) more front
birth_front here (r ∷ J) more file image has none front longer = absurd (some_texts (one_list file (text_of_record r ∷ map text_of_record J) [] has none)) where
  some_texts : text_of_record r ∷ map text_of_record J ≡ [] → ⊥
  some_texts e = cc

-- a prefix after a journal and its birth is one of the birth and more
front_behind : (J birth more : List Record) (image : List ℕ) → HasFront (J ++ birth) more image → HasFront J (birth ++ more) image
front_behind J birth more image front = record { count = length birth + front.count; has = subst (λ (K : List Record). HasRecords K image) (so_many_more J birth more front.count) front.has }

-- ---- a run of a node that started

-- what a run leaves that starts from this journal and brings these records after its birth
pub run_brings : (here : Setting) (J records more : List Record) (file image : List ℕ) (before : List ℕ → Type 0) → HasRecords J file → records ≡ J ++ birth_after here J
    → StartLeaves here (IsFileOf file []) before image ⊎ HasFront records more image → before image ⊎ HasFront J (birth_after here J ++ more) image
run_brings here J records more file image before has started (inl (inl was)) = inl was
run_brings here J records more file image before has started (inl (inr p)) = inr (birth_front here J more file image has p.0 p.1 (λ a b. front_longer [] a b image))
run_brings here J records more file image before has started (inr front) = inr (front_behind J (birth_after here J) more image (subst (λ (K : List Record). HasFront K more image) started front))

-- what follows the journal of a started node follows its file's, and a birth
started_behind : (here : Setting) (file : List ℕ) (records : List Record) (s : IsStartedFrom here file records) (some : List Record) → records ++ some ≡ s.journal ++ (birth_after here s.journal ++ some)
started_behind here file records s some = ap (λ (x : List Record). x ++ some) s.is ∙ append_assoc s.journal (birth_after here s.journal) some

-- a journal up to one of its records, and the rest
parted : (records appends : List Record) (count : ℕ) → records ++ appends ≡ (records ++ take count appends) ++ drop count appends
parted records appends count = ap (λ (x : List Record). records ++ x) (sym (take-append-drop count appends)) ∙ sym (append_assoc records (take count appends) (drop count appends))

-- a journal is lawful up to each of its records
lawful_to : (here : Setting) (records appends : List Record) (count : ℕ) → IsLawful here (records ++ appends) → IsLawful here (records ++ take count appends)
lawful_to here records appends count lawful = lawful_front here (records ++ take count appends) (drop count appends) (subst (IsLawful here) (parted records appends count) lawful)

-- what was to be appended to a started node's journal leaves the receipts of its file true, up to each record
true_to : (here : Setting) (file : List ℕ) (records appends : List Record) (count : ℕ) (s : IsStartedFrom here file records) → (AreReceiptsTrue records → AreReceiptsTrue (records ++ appends))
    → AreReceiptsTrue s.journal → AreReceiptsTrue (s.journal ++ (birth_after here s.journal ++ take count appends))
true_to here file records appends count s receipts true_before =
    let started_true : AreReceiptsTrue records = subst AreReceiptsTrue (sym s.is) (birth_is_true here s.journal true_before) in
    subst AreReceiptsTrue (started_behind here file records s (take count appends))
    (front_is_true (records ++ take count appends) (drop count appends) (subst AreReceiptsTrue (parted records appends count) (receipts started_true)))

-- a prefix of what is appended after the journal of a started node goes on from its file
pub front_goes_on : (here : Setting) (file image : List ℕ) (records appends : List Record) → IsStartedFrom here file records → IsLawful here (records ++ appends) → (AreReceiptsTrue records → AreReceiptsTrue (records ++ appends)) → HasFront records appends image → ContinuesFile here file image
front_goes_on here file image records appends s lawful receipts front =
    let some = take front.count appends in
    let behind = started_behind here file records s some in
    record {
      journal = s.journal;
      read = s.read;
      more = birth_after here s.journal ++ some;
      lawful = subst (IsLawful here) behind (lawful_to here records appends front.count lawful);
      receipts = true_to here file records appends front.count s receipts;
      has = subst (λ (K : List Record). HasRecords K image) behind front.has;
    }

-- what a run leaves from its start on
pub run_goes_on : (here : Setting) (file image : List ℕ) (records appends : List Record) (before : List ℕ → Type 0) → IsRoster here.listed → has_node here.listed here.me ≡ true → IsStartedFrom here file records → IsLawful here (records ++ appends)
    → (AreReceiptsTrue records → AreReceiptsTrue (records ++ appends)) → StartLeaves here (IsFileOf file []) before image ⊎ HasFront records appends image → before image ⊎ ContinuesFile here file image
run_goes_on here file image records appends before formed member s lawful receipts (inl start) = start_goes_on here file before image formed member start
run_goes_on here file image records appends before formed member s lawful receipts (inr front) = inr (front_goes_on here file image records appends s lawful receipts front)

-- what a start that is refused leaves
pub refused_goes_on : (here : Setting) (key : PublicKey) (told : Type 0) (file : List ℕ) (e : StartError) (before : List ℕ → Type 0) (image : List ℕ) → IsRoster here.listed → IsNotStarted here key told file e → (IsKeyFault here.listed here.me key e → before image)
    → StartLeaves here (IsFileOf file []) before image → before image ⊎ ContinuesFile here file image
refused_goes_on here key told file e before image formed is untouched start = elim (key_or_disk here key told file e is) [
  | inl fault ↦ inl (untouched fault)
  | inr keyed ↦ start_goes_on here file before image formed (has_from_key here key keyed) start
]

-- all records of a running node are what its run left
pub settled : (here : Setting) (disk : Disks) (records appends all : List Record) (count : ℕ) → IsStartedFrom here disk.file records → IsLawful here (records ++ appends) → (AreReceiptsTrue records → AreReceiptsTrue (records ++ appends)) → all ≡ records ++ take count appends
    → HasRecords all disk.file_after → ((image : List ℕ) → disk.may_leave_after image → HasRecords all image) → Settles here disk
settled here disk records appends all count s lawful receipts is has leaves =
    let birth = birth_after here s.journal in
    let some = take count appends in
    let same : all ≡ s.journal ++ (birth ++ some) = is ∙ started_behind here disk.file records s some in
    record {
      journal = s.journal;
      read = s.read;
      more = birth ++ some;
      lawful = subst (IsLawful here) (started_behind here disk.file records s some) (lawful_to here records appends count lawful);
      receipts = true_to here disk.file records appends count s receipts;
      has = subst (λ (K : List Record). HasRecords K disk.file_after) same has;
      leaves = λ image left. subst (λ (K : List Record). HasRecords K image) same (leaves image left);
    }

-- one of the two, of which the first implies more
pub either : {A B C : Type 0} → (A → B) → A ⊎ C → B ⊎ C
either so (inl a) = inl (so a)
either so (inr c) = inr c

-- what a run left on one disk it left on what is the same disk
pub settled_there : {D : Type 0} (g : disk_of.Ghosts D) (here : Setting) (old new other : D) → other ≡ new → Settles here (disks g old new) → Settles here (disks g old other)
settled_there {D = D} g here old new other is settles = subst (λ (d : D). Settles here (disks g old d)) (sym is) settles
