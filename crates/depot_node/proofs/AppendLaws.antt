-- What an append answers and leaves, where memory and room were found before.
use Rattle.std.proofs.Common.{◌≡◌, ◌↔◌, ℕ, ◌+◌, ◌*◌, ◌<◌, ◌≤◌, Bool, true, false, IsTrue, List, [], ◌++◌, length, map, take, drop, Result, Ok, Err, refl, sym, ap, subst, ◌∙◌, arith, append_assoc, append-nil, inl, inr}
use Rattle.std.proofs.lemmas.List.{append_cancel_left, take-append-drop}
use Rattle.std.specs.Prelude.{IsErrOf, OnOk}
use Rattle.depot_base.specs.Calls.{Call, Made, made, FailsAmong, calls_to_append_all}
use Rattle.depot_base.specs.Disk.{LeavesOnly}
use Rattle.depot_base.specs.File as files
use Rattle.depot_base.specs.File.{IsFileOf, blocks}
use Rattle.depot_base.specs.declared.key.RosterEntry.{RosterEntry}
use Rattle.depot_base.specs.declared.record.Record.{Record}
use Rattle.depot_base.proofs.CallLaws.{fails_later}
use Rattle.depot_model.specs.checks.Checks.{Setting}
use Rattle.depot_model.specs.journals.JournalCalls.{IsJournalCall, Lasts}
use Rattle.depot_model.specs.journals.Lawful.{IsLawful}
use Rattle.depot_model.specs.checks.Limits.{IsCutShort}
use Rattle.depot_model.specs.texts.Records.{text_of_record}
use Rattle.depot_model.specs.journals.Stops.{HasAll, HasFront, LeavesAll, calls_to_record}
use Rattle.depot_journal.specs.JournalAnswers.{KeepsLimits, LeavesRunning, MakesCalls}
use Rattle.depot_journal.specs.Stable as stable
use Rattle.depot_journal.specs.JournalView.{JournalContents, HasMemoryFor}
use Rattle.depot_journal.specs.declared.journal_error.AppendError.{AppendError}
use Rattle.depot_journal.specs.declared.journal_error.AppendError.TheVariants as refused
use Rattle.depot_journal.proofs.Moments as runs
use Rattle.depot_laws.proofs.own_updates.OwnTexts.{lawful_is_light, lawful_is_short}
use Rattle.depot_laws.proofs.lists.Splits.{lawful_front}
use Rattle.depot_journal.specs.DiskCalls.{OnlyReserves}
use Rattle.depot_outside.specs.declared.disk.Disk.{Ghosts}
use Rattle.depot_readings.specs.NewRecords.{bytes_of_records}
use Rattle.depot_node.specs.Holdings.{Holding, journal_on}
use Rattle.depot_node.specs.JournalRecords.{AreTextsFor, records_in_texts}
use Rattle.depot_node.proofs.JournalTexts.{IsReadTo, all_of_records, as_many, blocks_long, both_texts, cut_texts, front_of_records, passes_none, read_all}

untrue : true ≡ false → ⊥
untrue e = cc

-- ---- what may be answered

-- the reserved memory covers the texts of these records
pub covers : {D : Type 0} (v : JournalContents D) (new : List Record) (more : List (List ℕ)) → AreTextsFor new more → length new ≤ v.room_records → bytes_of_records new ≤ v.room_bytes + 5 * length new → HasMemoryFor v more
covers v new more u records bytes = (omega (arith, as_many new more u, records), omega (arith, as_many new more u, bytes, blocks_long new more u))

-- then the disk alone is left to fail
pub disk_failed : {D : Type 0} (here : Setting) (v : JournalContents D) (J new : List Record) (more : List (List ℕ)) (result : Result (Unit {0}) AppendError) (e : AppendError) → result ≡ Err e → AreTextsFor J v.records → AreTextsFor new more → IsLawful here (J ++ new) → HasMemoryFor v more
    → v.is_stopped ≡ false → KeepsLimits v.records (length more) (length (blocks more)) result → (HasMemoryFor v more → IsErrOf result refused.Memory → ⊥) → (IsErrOf result refused.Stopped ↔ (v.is_stopped ≡ true)) → IsErrOf result refused.Disk
disk_failed here v J new more result refused.Memory is t u lawful covered ran limits memory stopped = absurd (memory covered is)
disk_failed here v J new more result refused.Disk is t u lawful covered ran limits memory stopped = is
disk_failed here v J new more result (refused.Full full) is t u lawful covered ran limits memory stopped =
    absurd (passes_none J new v.records more t u (lawful_is_short here (J ++ new) lawful) (lawful_is_light here (J ++ new) lawful) full.what full.number (subst (λ (r : Result (Unit {0}) AppendError). KeepsLimits v.records (length more) (length (blocks more)) r) is limits))
disk_failed here v J new more result refused.Stopped is t u lawful covered ran limits memory stopped = let was : v.is_stopped ≡ true = stopped.0 is in absurd cc

-- ---- the records then

-- all were appended
pub appended : (n : ℕ) (J new : List Record) (texts more then : List (List ℕ)) → AreTextsFor J texts → AreTextsFor new more → then ≡ texts ++ more → n ≡ length then → IsReadTo n then (J ++ new) []
appended n J new texts more then t u is all = read_all n then (J ++ new) (subst (λ (x : List (List ℕ)). AreTextsFor (J ++ new) x) (sym is) (both_texts J new texts more t u)) all

-- those before the failing one
pub record IsCut (n : ℕ) (J new : List Record) (then : List (List ℕ)) : Type 0 where
  pub count : ℕ
  pub fewer : count < length new
  pub reads : IsReadTo n then (J ++ take count new) []

pub cut_appended : (n : ℕ) (J new : List Record) (texts more then : List (List ℕ)) (told : Type 0) (images : List ℕ → Type 0) → AreTextsFor J texts → AreTextsFor new more → files.AreBodiesCutShort texts more then told images → n ≡ length then → IsCut n J new then
cut_appended n J new texts more then told images t u cut all = record {
  count = cut.count;
  fewer = omega (arith, cut.fewer, as_many new more u);
  reads = read_all n then (J ++ take cut.count new) (cut_texts J new texts more then told images t u cut) all;
}

pub cut_short : (n : ℕ) (J new : List Record) (then : List (List ℕ)) → IsCut n J new then → IsCutShort J new (records_in_texts (take n then))
cut_short n J new then cut = record { count = cut.count; fewer = cut.fewer; grown = cut.reads.records }

-- what was cut short is lawful too
pub lawful_cut : (here then : Setting) (J new K : List Record) → then ≡ here → IsLawful here (J ++ new) → IsCutShort J new K → IsLawful then K
lawful_cut here then J new K stands lawful cut =
    let whole : J ++ new ≡ (J ++ take cut.count new) ++ drop cut.count new = ap (λ (rs : List Record). J ++ rs) (sym (take-append-drop cut.count new)) ∙ sym (append_assoc J (take cut.count new) (drop cut.count new)) in
    let front = lawful_front here (J ++ take cut.count new) (drop cut.count new) (subst (λ (L : List Record). IsLawful here L) whole lawful) in
    subst (λ (h : Setting). IsLawful h K) (sym stands) (subst (λ (L : List Record). IsLawful here L) (sym cut.grown) front)

-- ---- the call

-- the calls that append records are those that append their texts
calls_of_texts : (J new : List Record) (texts more : List (List ℕ)) → AreTextsFor J texts → AreTextsFor new more → calls_to_append_all (length (blocks texts)) more ≡ calls_to_record J new
calls_of_texts J new texts more t u =
    ap (λ (x : List (List ℕ)). calls_to_append_all (length (blocks x)) more) t.are ∙ ap (calls_to_append_all (length (blocks (map text_of_record J)))) u.are

-- all records of a store that runs are a prefix with none of the new ones
none_of_new : (J new : List Record) (file : List ℕ) → HasAll J false file → HasFront J new file
none_of_new J new file all = record {
  count = 0;
  has = subst (λ (x : List (List ℕ)). IsFileOf file x) (ap (λ (x : List (List ℕ)). map text_of_record J ++ x) (all.none refl) ∙ append-nil (map text_of_record J) ∙ ap (map text_of_record) (sym (append-nil J))) all.has;
}

-- what is so where all went well
ok_gives : {E : Type 0} (result : Result (Unit {0}) E) (P : Type 0) → OnOk result P → result ≡ Ok tt → P
ok_gives result P p ok = subst (λ (r : Result (Unit {0}) _). OnOk r P) ok p

-- a store as it is seen over this journal
abbrev pub store_over : {D : Type 0} → ℕ → List RosterEntry → List Record → List (List ℕ) → JournalContents D → Holding D
store_over me listed K unread v = record { me = me; listed = listed; records = K; unread = unread; stopped = v.is_stopped; disk = v.disk }

module _ {D : Type 0} (g : Ghosts D) (only_now : (d : D) (image : List ℕ) → g.left_since d (g.moment d) image → g.may_leave d image) (after_more : (a b c : D) (calls more : List Made) → g.after a calls b → g.after b more c → g.after a (calls ++ more) c) where
  -- since the first moment, where memory alone was found
  found : (old mid : D) (J new : List Record) → LeavesAll J false (g.may_leave old) → OnlyReserves g old mid → LeavesOnly g.moment g.left_since old mid (HasFront J new)
  found old mid J new all f =
      let first = runs.started g.moment g.left_since old (HasFront J new) (λ image left. none_of_new J new image (all image (only_now old image left))) in
      runs.goes_on g.moment g.left_since old old mid (HasFront J new) (g.may_leave mid) first f.time (λ image left. none_of_new J new image (all image (f.images image left)))

  on_holdings : (old new : Holding D) (P : List ℕ → Type 0) → LeavesOnly g.moment g.left_since old.disk new.disk P → LeavesOnly (λ (v : Holding D). g.moment v.disk) (λ (v : Holding D) (t : ℕ) (file : List ℕ). g.left_since v.disk t file) old new P
  on_holdings old new P l = record { later = l.later; each = l.each; before = l.before }

  -- what lasts where nothing was appended
  lasts_found : (old then : Holding D) (new : List Record) → old.stopped ≡ false → then.stopped ≡ false → then.records ≡ old.records → OnlyReserves g old.disk then.disk → (IsTrue (g.tells old.disk) → LeavesAll old.records false (g.may_leave old.disk)) → Lasts (journal_on g) old then new
  lasts_found old then new ran runs_on same f all = record {
    told = f.tells;
    any_moment = λ t r. on_holdings old then (HasFront old.records new) (found old.disk then.disk old.records new (all t) f);
    stable = λ t. subst (λ (J : List Record). LeavesAll J then.stopped (g.may_leave then.disk)) (sym same)
        (subst (λ (b : Bool). LeavesAll old.records b (g.may_leave then.disk)) (sym runs_on) (λ file left. all (subst IsTrue f.tells t) file (f.images file left)));
    untouched = λ stopped. absurd (untrue (sym stopped ∙ ran));
  }

  -- a call that finds memory on the disk, and appends nothing
  pub unwritten_call : (old then : Holding D) (texts : List (List ℕ)) (new : List Record) {failed nothing : Type 0} → old.stopped ≡ false → AreTextsFor old.records texts → then.records ≡ old.records → then.stopped ≡ old.stopped → OnlyReserves g old.disk then.disk
      → (IsTrue (g.tells old.disk) → stable.LeavesAllBodies texts old.stopped (g.may_leave old.disk)) → (failed → ⊥) → IsJournalCall (journal_on g) old then new ⊥ failed nothing
  unwritten_call old then texts new {failed} {nothing} ran t same stopped f stays well =
      let all : IsTrue (g.tells old.disk) → LeavesAll old.records false (g.may_leave old.disk) =
      λ told. subst (λ (b : Bool). LeavesAll old.records b (g.may_leave old.disk)) ran (all_of_records old.records texts old.stopped (g.may_leave old.disk) t (stays told)) in
      let runs_on : then.stopped ≡ false = stopped ∙ ran in
      record {
        stops = record {
          answered = (λ never. absurd never, λ was. absurd (untrue (sym was ∙ ran)));
          left = (λ now. absurd (untrue (sym now ∙ runs_on)), λ either. elim either [ inl before ↦ absurd (untrue (sym before ∙ ran)) | inr is ↦ absurd (well is) ]);
        };
        disk = record {
          same = f.handle;
          cause = record { never_falls = omega (arith, f.faults); rose = λ is. absurd (well is); only = λ less. absurd (omega (arith, less, f.faults)) };
          calm = λ w. (f.faultless w, f.faults);
        };
        lasts = lasts_found old then new ran runs_on same f all;
        calls = record {
          whole = λ _ grown is. subst (λ (adds : List Record). g.after old.disk (made (calls_to_record old.records adds)) then.disk) (append_cancel_left old.records [] grown (append-nil old.records ∙ sym same ∙ is)) f.made;
          part = λ is. absurd (well is);
          still = λ was. absurd (untrue (sym was ∙ ran));
        };
        idle = λ _. lasts_found old then [] ran runs_on same f all;
      }

  -- a call that finds memory on the disk, and then appends records, all or up to the one on which the disk fails
  pub written_call : (old : Holding D) (me : ℕ) (listed : List RosterEntry) (K new : List Record) (unread more : List (List ℕ)) (mid last : JournalContents D) (result : Result (Unit {0}) AppendError) {failed nothing : Type 0}
      → old.stopped ≡ false → mid.is_stopped ≡ false → AreTextsFor old.records mid.records → AreTextsFor new more → AreTextsFor K last.records → OnlyReserves g old.disk mid.disk → (IsTrue (g.tells old.disk) → LeavesAll old.records false (g.may_leave old.disk))
      → MakesCalls g mid last more result → LeavesRunning g.tells g.moment g.left_since mid last (files.HasBodyFront mid.records more) → (IsTrue (g.tells mid.disk) → stable.LeavesAllBodies last.records last.is_stopped (g.may_leave last.disk))
      → (failed ↔ IsErrOf result refused.Disk) → ((last.is_stopped ≡ true) ↔ failed) → (nothing → ⊥) → ((failed → ⊥) → (K ≡ old.records ++ new) × (result ≡ Ok tt))
      → IsJournalCall (journal_on g) old (store_over me listed K unread last) new ⊥ failed nothing
  written_call old me listed K new unread more mid last result {failed} {nothing} ran mid_ran t u w f all calls left stands fails stops never grew =
      let then : Holding D = store_over me listed K unread last in
      let texts : calls_to_append_all (length (blocks mid.records)) more ≡ calls_to_record old.records new = calls_of_texts old.records new mid.records more t u in
      let fronts : IsTrue (g.tells mid.disk) → LeavesOnly g.moment g.left_since mid.disk last.disk (HasFront old.records new) = λ told.
      runs.weaker g.moment g.left_since mid.disk last.disk (files.HasBodyFront mid.records more) (HasFront old.records new) (left told mid_ran) (λ file front. front_of_records old.records new mid.records more file t u front) in
      record {
        stops = record {
          answered = (λ is. absurd is, λ was. absurd (untrue (sym was ∙ ran)));
          left = (λ now. inr (stops.0 now), λ either. elim either [ inl before ↦ absurd (untrue (sym before ∙ ran)) | inr is ↦ stops.1 is ]);
        };
        disk = record {
          same = calls.disk.handle ∙ f.handle;
          cause = record {
            never_falls = omega (arith, calls.disk.cause.never_falls, f.faults);
            rose = λ is. omega (arith, calls.disk.cause.rose (fails.0 is), f.faults);
            only = λ less. fails.1 (calls.disk.cause.only (omega (arith, less, f.faults)));
          };
          calm = λ w. let c = calls.disk.faultless (f.faultless w) in (c.0, c.1 ∙ f.faults);
        };
        lasts = record {
          told = calls.disk.tells ∙ f.tells;
          any_moment = λ told r. on_holdings old then (HasFront old.records new) (runs.joined g.moment g.left_since old.disk mid.disk last.disk (HasFront old.records new) (found old.disk mid.disk old.records new (all told) f) (fronts (subst IsTrue (sym f.tells) told)));
          stable = λ told. all_of_records K last.records last.is_stopped (g.may_leave last.disk) w (stands (subst IsTrue calls.disk.tells told));
          untouched = λ was. absurd (untrue (sym was ∙ ran));
        };
        calls = record {
          whole = λ well grown is. let ok = grew well in
              let adds : new ≡ grown = append_cancel_left old.records new grown (sym ok.0 ∙ is) in
              let done : g.after old.disk (made (calls_to_record old.records new)) last.disk = subst (λ (c : List Call). g.after old.disk (made c) last.disk) texts (after_more old.disk mid.disk last.disk [] _ f.made (ok_gives result (g.after mid.disk (made (calls_to_append_all (length (blocks mid.records)) more)) last.disk) calls.all ok.1)) in
              subst (λ (rs : List Record). g.after old.disk (made (calls_to_record old.records rs)) last.disk) adds done;
          part = λ is.
              let p : FailsAmong g.after old.disk last.disk (calls_to_record old.records new) = subst (λ (c : List Call). FailsAmong g.after old.disk last.disk c) texts (fails_later g.after after_more old.disk mid.disk last.disk [] _ f.made (calls.failing (fails.0 is))) in
              record { before = p.before; failing = p.failing; rest = p.rest; parts = p.parts; fails = p.fails };
          still = λ was. absurd (untrue (sym was ∙ ran));
        };
        idle = λ is. absurd (never is);
      }
