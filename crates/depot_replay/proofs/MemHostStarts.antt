-- Starts of a node from a disk in memory.
use Rattle.std.proofs.Common.{◌≡◌, ◌⊎◌, ◌≤◌, ℕ, ◌+◌, ◌-◌, List, [], ◌∷◌, ◌++◌, length, map, false, Some, None, refl, sym, ap, subst, ◌∙◌, inl, inr, arith}
use Rattle.std.proofs.lemmas.Bool.{lt-leb}
use Rattle.std.proofs.lemmas.List.{append-nil}
use Rattle.std.proofs.lemmas.Option.{same_Some}
use Rattle.depot_base.specs.Calls.{Call, made, FailsAmong, asks_length, calls_to_append_all, calls_to_start, syncs, writes_at}
use Rattle.depot_base.specs.declared.record.Record.{Record}
use Rattle.depot_base.specs.declared.record.Record.TheVariants.{Birth}
use Rattle.depot_laws.proofs.lists.Splits.{lawful_none}
use Rattle.depot_model.specs.checks.Checks.{Setting}
use Rattle.depot_model.specs.journals.Lawful.{IsLawful, is_empty}
use Rattle.depot_model.specs.texts.Records.{text_of_record}
use Rattle.depot_model.specs.journals.Stops.{HasRecords}
use Rattle.depot_model.specs.texts.Texts.{hash_of_roster}
use Rattle.depot_node.specs.Starting.{IsStartedFrom, LeavesFile, calls_to_start_node, started}
use Rattle.depot_node.specs.declared.start_error.StartError.{StartError}
use Rattle.depot_node.specs.declared.start_error.StartError.TheVariants as refused
use Rattle.depot_node.proofs.StartLaws.{lawful_file_is_read}
use Rattle.depot_outside.specs.Stopping.{State, CallsLead, done_by, fresh}
use Rattle.depot_outside.specs.StopImages.{image_of_number}
use Rattle.depot_outside.specs.declared.stops.Stop.{Stop}
use Rattle.depot_world.specs.Run.{PendingStop}
use Rattle.depot_replay.specs.Disks.{IsAtRest, StoppedReading, pending_of}
use Rattle.depot_replay.specs.MemHosts.{FailsToStart, IsBegunOn, IsKeptOn, SparesLawful, StandIn, WasStopped}
use Rattle.depot_replay.proofs.DiskAppends.{appends_rest, appends_stand, synced_rest, synced_same, wrote}
use Rattle.depot_replay.proofs.DiskStarts as starts
use Rattle.depot_replay.proofs.DiskStops.{nearer_after, none_fails, none_fails_yet, none_waits_after}
use Rattle.depot_replay.proofs.DiskLaws.{Gone, pending_numbered, led_on}
use Rattle.depot_replay.proofs.MemHostLaws.{IsToCome, has_records, none_to_come, stand_in, to_come_after, two_bytes}

-- ---- a start from a journal that has begun

again_calls : (here : Setting) (file : List ℕ) (J : List Record) → is_empty J ≡ false → calls_to_start_node here file J ≡ calls_to_start file
again_calls here file [] some = absurd cc
again_calls here file (r ∷ J) some = append-nil (calls_to_start file)

again_started : (here : Setting) (J : List Record) → is_empty J ≡ false → started here J ≡ J
again_started here [] some = absurd cc
again_started here (r ∷ J) some = append-nil (r ∷ J)

-- it makes three calls
pub three_calls : (file : List ℕ) → 2 ≤ length file → length (calls_to_start file) ≡ 3
three_calls file long = rw (lt-leb (length file) 1 long) refl

-- The node has the journal, and its disk has it too.
pub record IsStartedOn (here : Setting) (s t : State) (J K : List Record) : Type 0 where
  pub same : K ≡ J
  pub begun : IsBegunOn here t J
  pub led : CallsLead s (made (calls_to_start s.file)) t
  pub long : 2 ≤ length s.file

same_begun : (here : Setting) (s t : State) (J : List Record) → IsBegunOn here s J → IsAtRest t → t.file ≡ s.file → IsToCome t → IsBegunOn here t J
same_begun here s t J begun rest same to_come = record {
  lawful = begun.lawful;
  some = begun.some;
  kept = record { at_rest = rest; stand = subst (λ (file : List ℕ). StandIn file (map text_of_record J)) (sym same) begun.kept.stand; to_come = to_come };
}

pub started_on : (here : Setting) (s t : State) (J K : List Record) → IsBegunOn here s J → IsStartedFrom here s.file K → ((L : List Record) → HasRecords L s.file → CallsLead s (made (calls_to_start_node here s.file L)) t) → IsStartedOn here s t J K
started_on here s t J K begun from calls =
    let has = has_records here s.file J begun.lawful begun.kept.stand in
    let long = two_bytes s.file J begun.some begun.kept.stand in
    let led = subst (λ (c : List Call). CallsLead s (made c) t) (again_calls here s.file J begun.some) (calls J has) in
    let left = starts.started s t begun.kept.at_rest long led in
    record {
      same = lawful_file_is_read here s.file J K has begun.lawful from ∙ again_started here J begun.some;
      begun = same_begun here s t J begun left.0 left.1 (to_come_after s t (calls_to_start s.file) begun.kept.to_come led);
      led = led;
      long = long;
    }

-- a stop fell into it
pub start_stopped : (here : Setting) (s t : State) (J : List Record) → IsBegunOn here s J → ((L : List Record) → HasRecords L s.file → FailsAmong CallsLead s t (calls_to_start_node here s.file L)) → StoppedReading s t 3
start_stopped here s t J begun fails =
    starts.stopped_starting s t begun.kept.at_rest (two_bytes s.file J begun.some begun.kept.stand)
    (subst (λ (c : List Call). FailsAmong CallsLead s t c) (again_calls here s.file J begun.some) (fails J (has_records here s.file J begun.lawful begun.kept.stand)))

pub stopped_begun : (here : Setting) (s t : State) (J : List Record) → IsBegunOn here s J → (x : StoppedReading s t 3) → IsBegunOn here t J
stopped_begun here s t J begun x = same_begun here s t J begun x.stopped.at_rest x.same (none_to_come t x.stopped.none_waits)

-- ---- a start from an empty disk

-- after that comes a closed gate
record IsGated (t : State) (more : List Call) : Type 0 where
  gated : State
  at_rest : IsAtRest gated
  file_is : gated.file ≡ 0 ∷ []
  led : CallsLead gated (made more) t

empty_file : (s1 s2 : State) → Gone syncs (fresh [] []) s1 → Gone asks_length s1 s2 → s2.file ≡ []
unfolding done_by
empty_file s1 s2 first asked = asked.file_is ∙ first.file_is

gated_on : (t : State) (more : List Call) → CallsLead (fresh [] []) (made (calls_to_start [] ++ more)) t → IsGated t more
gated_on t more led =
    let (s1, first, led1) = led_on (fresh [] []) t syncs (asks_length ∷ writes_at 0 (0 ∷ []) ∷ syncs ∷ more) led in
    let (s2, asked, led2) = led_on s1 t asks_length (writes_at 0 (0 ∷ []) ∷ syncs ∷ more) led1 in
    let (s3, wrote_gate, led3) = led_on s2 t (writes_at 0 (0 ∷ [])) (syncs ∷ more) led2 in
    let (u, last, led4) = led_on s3 t syncs more led3 in
    let empty = empty_file s1 s2 first asked in
    record {
      gated = u;
      at_rest = synced_rest s3 u (wrote_gate.fails_are ∙ asked.fails_are ∙ first.fails_are) last;
      file_is = synced_same s3 u last ∙ wrote s2 s3 0 (0 ∷ []) wrote_gate ∙ rw empty refl;
      led = led4;
    }

-- The journal was born on the disk, and no stop waits.
pub record IsFreshOn (here : Setting) (t : State) (K : List Record) : Type 0 where
  pub journal : K ≡ Birth here.me (hash_of_roster here.listed) ∷ []
  pub kept : IsKeptOn t K
  pub none_waits : pending_of t.next ≡ None

empty_has : HasRecords [] []
empty_has = inl (omega arith, refl)

pub fresh_on : (here : Setting) (t : State) (K : List Record) → IsStartedFrom here [] K → ((L : List Record) → HasRecords L [] → CallsLead (fresh [] []) (made (calls_to_start_node here [] L)) t) → IsFreshOn here t K
fresh_on here t K from calls =
    let texts : List (List ℕ) = text_of_record (Birth here.me (hash_of_roster here.listed)) ∷ [] in
    let led : CallsLead (fresh [] []) (made (calls_to_start [] ++ calls_to_append_all 0 texts)) t = calls [] empty_has in
    let g = gated_on t (calls_to_append_all 0 texts) led in
    let none = none_waits_after (fresh [] []) t (calls_to_start [] ++ calls_to_append_all 0 texts) led refl in
    let is : K ≡ Birth here.me (hash_of_roster here.listed) ∷ [] = lawful_file_is_read here [] [] K empty_has (lawful_none here) from in
    record {
      journal = is;
      kept = subst (IsKeptOn t) (sym is) (record {
        at_rest = appends_rest g.gated t 0 texts g.at_rest g.led;
        stand = stand_in t.file texts (appends_stand g.gated t [] texts g.at_rest (0, [], (omega arith), g.file_is) g.led);
        to_come = none_to_come t none;
      });
      none_waits = none;
    }

-- the same of a disk that is as a fresh one
pub fresh_from : (here : Setting) (s t : State) (K : List Record) → s ≡ fresh [] [] → IsStartedFrom here s.file K → ((L : List Record) → HasRecords L s.file → CallsLead s (made (calls_to_start_node here s.file L)) t) → IsFreshOn here t K
fresh_from here s t K is from calls =
    fresh_on here t K (subst (λ (x : State). IsStartedFrom here x.file K) is from) (subst (λ (x : State). (L : List Record) → HasRecords L x.file → CallsLead x (made (calls_to_start_node here x.file L)) t) is calls)

-- ---- a start on which a stop waits

-- a stop is set that comes in a call to come
pub pending_begun : (here : Setting) (s u : State) (J : List Record) (stop : Stop) → IsBegunOn here s J → u ≡ record s { next = Some stop } → 1 ≤ stop.call → IsBegunOn here u J
pending_begun here s u J stop begun is from_one = subst (λ (x : State). IsBegunOn here x J) (sym is) (record {
  lawful = begun.lawful;
  some = begun.some;
  kept = record {
    at_rest = record { synced = begun.kept.at_rest.synced; faultless = begun.kept.at_rest.faultless };
    stand = begun.kept.stand;
    to_come = λ a waits. let same = ap (λ (x : PendingStop). x.call) (same_Some _ a waits) in omega (arith, from_one, same);
  };
})

waits_behind : (s u : State) (call image : ℕ) → image ≤ 2 → u ≡ record s { next = Some (record { call = call + 3; image = image_of_number image }) } → pending_of u.next ≡ Some (record { call = call + 3; image = image })
waits_behind s u call image small is = ap (λ (x : State). pending_of x.next) is ∙ pending_numbered (call + 3) image small

-- the start brings it three calls nearer
pub pending_on : (here : Setting) (s u t : State) (J K : List Record) (call image : ℕ) → image ≤ 2 → u ≡ record s { next = Some (record { call = call + 3; image = image_of_number image }) } → IsStartedOn here u t J K → pending_of t.next ≡ Some (record { call = call; image = image })
pending_on here s u t J K call image small is x =
    let waits = waits_behind s u call image small is in
    let left : call + 3 - length (calls_to_start u.file) ≡ call = omega (arith, three_calls u.file x.long) in
    nearer_after u t (calls_to_start u.file) (record { call = call + 3; image = image }) x.led waits ∙ ap (λ (n : ℕ). Some (record { call = n; image = image })) left

-- ---- a start that is refused

-- where nothing in the file is refused, no memory was found, or the disk failed
pub memory_or_disk : (e : StartError) → (LeavesFile e → ⊥) → (e ≡ refused.Memory) ⊎ (e ≡ refused.Disk)
memory_or_disk refused.Memory spared = inl refl
memory_or_disk refused.Disk spared = inr refl
memory_or_disk refused.UnknownMe spared = absurd (spared tt)
memory_or_disk (refused.OtherKey roster signer) spared = absurd (spared tt)
memory_or_disk (refused.Damaged at) spared = absurd (spared tt)
memory_or_disk (refused.OtherNode node) spared = absurd (spared tt)
memory_or_disk (refused.OtherRoster kept given) spared = absurd (spared tt)
memory_or_disk (refused.NotLawful place fault) spared = absurd (spared tt)

-- from the records of a lawful journal only memory can be lacking, if no call fails
only_memory : (here : Setting) (s t : State) (J : List Record) (e : StartError) → HasRecords J s.file → IsLawful here J → SparesLawful here s e → (e ≡ refused.Disk → FailsToStart here s t) → (FailsAmong CallsLead s t (calls_to_start_node here s.file J) → ⊥) → e ≡ refused.Memory
only_memory here s t J e has l spares fails well = elim (memory_or_disk e (spares J has l)) [ inl memory ↦ memory | inr disk ↦ absurd (well (fails disk J has)) ]

-- as from an empty disk
pub fresh_wants : (here : Setting) (s t : State) (e : StartError) → s ≡ fresh [] [] → SparesLawful here s e → (e ≡ refused.Disk → FailsToStart here s t) → e ≡ refused.Memory
fresh_wants here s t e is spares fails =
    let rest : IsAtRest s = subst IsAtRest (sym is) (record { synced = refl; faultless = refl }) in
    let has : HasRecords [] s.file = subst (λ (x : State). HasRecords [] x.file) (sym is) empty_has in
    only_memory here s t [] e has (lawful_none here) spares fails (none_fails s t (calls_to_start_node here s.file []) rest (ap (λ (x : State). pending_of x.next) is))

-- of a node that was stopped
pub again_wants : (here : Setting) (s t : State) (e : StartError) → WasStopped here s → SparesLawful here s e → (e ≡ refused.Disk → FailsToStart here s t) → e ≡ refused.Memory
again_wants here s t e was spares fails =
    let begun = was.begun in
    only_memory here s t was.journal e (has_records here s.file was.journal begun.lawful begun.kept.stand) begun.lawful spares fails (none_fails s t (calls_to_start_node here s.file was.journal) begun.kept.at_rest was.none_waits)

-- and where the stop comes after the start
pub behind_wants : (here : Setting) (s u t : State) (J : List Record) (call image : ℕ) (e : StartError) → 1 ≤ call → image ≤ 2 → IsBegunOn here u J → u ≡ record s { next = Some (record { call = call + 3; image = image_of_number image }) } → SparesLawful here u e
    → (e ≡ refused.Disk → FailsToStart here u t) → e ≡ refused.Memory
behind_wants here s u t J call image e from_one small begun is spares fails =
    let three : length (calls_to_start_node here u.file J) ≡ 3 = ap (λ (calls : List Call). length calls) (again_calls here u.file J begun.some) ∙ three_calls u.file (two_bytes u.file J begun.some begun.kept.stand) in
    only_memory here u t J e (has_records here u.file J begun.lawful begun.kept.stand) begun.lawful spares fails
    (none_fails_yet u t (calls_to_start_node here u.file J) (record { call = call + 3; image = image }) begun.kept.at_rest (waits_behind s u call image small is) (omega (arith, three, from_one)))
