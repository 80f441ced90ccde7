-- Appends to the journal on a disk in memory, and a stop that comes in one of them.
use Rattle.std.proofs.Common.{◌≡◌, ◌<◌, ◌⊎◌, ℕ, suc, ◌+◌, ◌-◌, ◌*◌, ◌/◌, ◌%◌, List, [], ◌∷◌, ◌++◌, length, take, ◌&&◌, ◌==◌, nat_le, if◌then◌else◌, refl, sym, ap, subst, ◌∙◌, inl, inr, arith, append_assoc, append-nil}
use Rattle.depot_base.specs.Calls.{Call, made, FailsAmong, calls_to_append, calls_to_append_all, writes_at, syncs}
use Rattle.depot_base.specs.File.{StandsFor, blocks, closed_block}
use Rattle.depot_journal.specs.WriteSteps.{StandsTo}
use Rattle.depot_journal.proofs.Walk.{stands_of}
use Rattle.depot_outside.specs.Images.{Moment, synced_as, written_at}
use Rattle.depot_outside.specs.StopImages.{left_by, overwritten}
use Rattle.depot_outside.specs.Stopping.{State, CallsLead, done_before_stop, done_by}
use Rattle.depot_outside.specs.declared.stops.Image.{Image}
use Rattle.depot_outside.specs.declared.stops.Image.TheVariants as image
use Rattle.depot_world.specs.Run.{PendingStop}
use Rattle.depot_world.specs.ScheduleStops.{standing_after}
use Rattle.depot_replay.specs.Disks.{IsAtRest, StoppedAppending, image_number}
use Rattle.depot_replay.proofs.DiskLaws.{FailsIn, Gone, StoppedIn, failed_on, fails_in, led_on}
use Rattle.depot_replay.proofs.DiskFiles.{block_left, gate_left, one_appended, opened_in, stands_to}
use Rattle.depot_replay.proofs.DiskStops.{StopsAt, stopped_at, stops_later, stops_now}

-- ---- writes and syncs

pub wrote : (s u : State) (at : ℕ) (bytes : List ℕ) → Gone (writes_at at bytes) s u → u.file ≡ overwritten s.file at bytes
unfolding done_by
wrote s u at bytes gone = gone.file_is

wrote_unsynced : (s u : State) (at : ℕ) (bytes : List ℕ) → Gone (writes_at at bytes) s u → u.unsynced ≡ written_at s.unsynced s.file at (length bytes)
unfolding done_by
wrote_unsynced s u at bytes gone = gone.unsynced_is

pub synced_same : (s u : State) → Gone syncs s u → u.file ≡ s.file
unfolding done_by
synced_same s u gone = gone.file_is

pub synced_rest : (s u : State) → s.fails ≡ [] → Gone syncs s u → IsAtRest u
unfolding done_by
synced_rest s u none gone = record { synced = gone.unsynced_is ∙ ap synced_as (sym gone.file_is); faultless = gone.fails_are ∙ none }

-- the crash images in a write
stopped_write : (s t : State) (at : ℕ) (bytes : List ℕ) → IsAtRest s → (x : StoppedIn (writes_at at bytes) s t) → t.file ≡ left_by x.image (written_at (synced_as s.file) s.file at (length bytes)) (overwritten s.file at bytes)
unfolding done_before_stop done_by
stopped_write s t at bytes rest x = x.file_is ∙ ap (λ (m : Moment). left_by x.image (written_at m s.file at (length bytes)) (overwritten s.file at bytes)) rest.synced

-- and in the sync after it
stopped_sync : (s u t : State) (at : ℕ) (bytes : List ℕ) → IsAtRest s → Gone (writes_at at bytes) s u → (x : StoppedIn syncs u t) → t.file ≡ left_by x.image (written_at (synced_as s.file) s.file at (length bytes)) (overwritten s.file at bytes)
unfolding done_before_stop
stopped_sync s u t at bytes rest gone x =
    x.file_is ∙ ap (λ (m : Moment). left_by x.image m u.file) (wrote_unsynced s u at bytes gone ∙ ap (λ (m : Moment). written_at m s.file at (length bytes)) rest.synced)
    ∙ ap (left_by x.image (written_at (synced_as s.file) s.file at (length bytes))) (wrote s u at bytes gone)

-- ---- one record

-- A record was appended at the closed gate of this offset.
pub record HasAppended (s u : State) (end : ℕ) (body : List ℕ) : Type 0 where
  pub at_rest : IsAtRest u
  pub grown : (bodies : List (List ℕ)) → StandsTo s.file bodies end → StandsTo u.file (bodies ++ body ∷ []) (end + (5 + length body))
  pub later : (t : State) (place : ℕ) (image : Image) → StopsAt u t place image → StopsAt s t (suc (suc (suc (suc place)))) image

has_appended : (s s1 s2 s3 u : State) (end : ℕ) (body : List ℕ) → s.fails ≡ [] → Gone (writes_at (end + 1) (closed_block body)) s s1 → Gone syncs s1 s2 → Gone (writes_at end (1 ∷ [])) s2 s3 → Gone syncs s3 u → HasAppended s u end body
has_appended s s1 s2 s3 u end body none block block_synced gate gate_synced = record {
  at_rest = synced_rest s3 u (gate.fails_are ∙ block_synced.fails_are ∙ block.fails_are ∙ none) gate_synced;
  grown = λ bodies stands.
      one_appended s.file s2.file u.file body bodies end stands (synced_same s1 s2 block_synced ∙ wrote s s1 (end + 1) (closed_block body) block) (synced_same s3 u gate_synced ∙ wrote s2 s3 end (1 ∷ []) gate);
  later = λ t place image x.
      stops_later (writes_at (end + 1) (closed_block body)) s s1 t (suc (suc (suc place))) image block (stops_later syncs s1 s2 t (suc (suc place)) image block_synced (stops_later (writes_at end (1 ∷ [])) s2 s3 t (suc place) image gate (stops_later syncs s3 u t place image gate_synced x)));
}

pub append_led : (s t : State) (end : ℕ) (body : List ℕ) (more : List Call) → s.fails ≡ [] → CallsLead s (made (calls_to_append end body ++ more)) t → (u : State) × HasAppended s u end body × CallsLead u (made more) t
append_led s t end body more none led =
    let (s1, block, led1) = led_on s t (writes_at (end + 1) (closed_block body)) (syncs ∷ writes_at end (1 ∷ []) ∷ syncs ∷ more) led in
    let (s2, block_synced, led2) = led_on s1 t syncs (writes_at end (1 ∷ []) ∷ syncs ∷ more) led1 in
    let (s3, gate, led3) = led_on s2 t (writes_at end (1 ∷ [])) (syncs ∷ more) led2 in
    let (u, gate_synced, led4) = led_on s3 t syncs more led3 in
    (u, has_appended s s1 s2 s3 u end body none block block_synced gate gate_synced, led4)

-- after appends the disk is at rest
pub appends_rest : (s t : State) (gate : ℕ) (texts : List (List ℕ)) → IsAtRest s → CallsLead s (made (calls_to_append_all gate texts)) t → IsAtRest t
appends_rest s t gate [] rest led = subst IsAtRest (sym led) rest
appends_rest s t gate (text ∷ texts) rest led =
    let (u, one, more) = append_led s t gate text (calls_to_append_all (gate + (5 + length text)) texts) rest.faultless led in
    appends_rest u t (gate + (5 + length text)) texts one.at_rest more

grown_by : (s t : State) (bodies : List (List ℕ)) (end : ℕ) (texts : List (List ℕ)) → IsAtRest s → StandsTo s.file bodies end → CallsLead s (made (calls_to_append_all end texts)) t → StandsFor t.file (bodies ++ texts)
grown_by s t bodies end [] rest stands led = rw (append-nil bodies) (subst (λ (x : State). StandsFor x.file bodies) (sym led) (stands_of s.file bodies end stands))
grown_by s t bodies end (text ∷ texts) rest stands led =
    let (u, one, more) = append_led s t end text (calls_to_append_all (end + (5 + length text)) texts) rest.faultless led in
    subst (StandsFor t.file) (append_assoc bodies (text ∷ []) texts) (grown_by u t (bodies ++ text ∷ []) (end + (5 + length text)) texts one.at_rest (one.grown bodies stands) more)

-- and their records follow those from before
pub appends_stand : (s t : State) (bodies texts : List (List ℕ)) → IsAtRest s → StandsFor s.file bodies → CallsLead s (made (calls_to_append_all (length (blocks bodies)) texts)) t → StandsFor t.file (bodies ++ texts)
appends_stand s t bodies texts rest stands led = grown_by s t bodies (length (blocks bodies)) texts rest (stands_to s.file bodies stands) led

-- ---- a stop in one of the calls

-- how many records are in an image of a stop in the call of this number, from 0
abbrev standing_at : ℕ → ℕ → ℕ
standing_at place image = place / 4 + (if image == 1 && nat_le 2 (place % 4) then 1 else 0)

block_none : (image : Image) → (standing_at 0 (image_number image) ≡ 0) × (standing_at 1 (image_number image) ≡ 0)
block_none image.Synced = (refl, refl)
block_none image.Written = (refl, refl)
block_none image.Blanked = (refl, refl)

gate_opened : (image : Image) → (standing_at 2 (image_number image) ≡ opened_in image) × (standing_at 3 (image_number image) ≡ opened_in image)
gate_opened image.Synced = (refl, refl)
gate_opened image.Written = (refl, refl)
gate_opened image.Blanked = (refl, refl)

standing_more : (place image : ℕ) → standing_at (suc (suc (suc (suc place)))) image ≡ suc (standing_at place image)
standing_more place image =
    let whole : suc (suc (suc (suc place))) / 4 ≡ suc (place / 4) = omega arith in
    let part : suc (suc (suc (suc place))) % 4 ≡ place % 4 = omega arith in
    rw (whole, part) (omega arith)

-- A stop came in the call of this number, and that many records are kept.
record StopsAppending (s t : State) (bodies texts : List (List ℕ)) : Type 0 where
  place : ℕ
  image : Image
  within : place < 4 * length texts
  stops : StopsAt s t place image
  stands : StandsFor t.file (bodies ++ take (standing_at place (image_number image)) texts)

-- the current record isn't there yet
in_block : (s t : State) (bodies : List (List ℕ)) (body : List ℕ) (texts : List (List ℕ)) (end place : ℕ) (image : Image) → StandsTo s.file bodies end
    → t.file ≡ left_by image (written_at (synced_as s.file) s.file (end + 1) (length (closed_block body))) (overwritten s.file (end + 1) (closed_block body))
    → place < 4 → standing_at place (image_number image) ≡ 0 → StopsAt s t place image → StopsAppending s t bodies (body ∷ texts)
in_block s t bodies body texts end place image stands left h none stops =
    let kept : StandsFor t.file bodies = stands_of t.file bodies end (subst (λ (x : List ℕ). StandsTo x bodies end) (sym left) (block_left image s.file (closed_block body) bodies end stands)) in
    record {
      place = place;
      image = image;
      within = omega (arith, h);
      stops = stops;
      stands = rw (none, append-nil bodies) kept;
    }

-- it is where the open gate does
in_gate : (s s2 t : State) (bodies : List (List ℕ)) (body : List ℕ) (texts : List (List ℕ)) (end place : ℕ) (image : Image) → StandsTo s.file bodies end
    → s2.file ≡ overwritten s.file (end + 1) (closed_block body) → t.file ≡ left_by image (written_at (synced_as s2.file) s2.file end 1) (overwritten s2.file end (1 ∷ []))
    → place < 4 → standing_at place (image_number image) ≡ opened_in image → StopsAt s t place image → StopsAppending s t bodies (body ∷ texts)
in_gate s s2 t bodies body texts end place image stands written left h some stops = record {
  place = place;
  image = image;
  within = omega (arith, h);
  stops = stops;
  stands = rw (left, some) (gate_left image s.file s2.file body bodies texts end stands written);
}

gate_fails : (s s1 s2 t : State) (bodies : List (List ℕ)) (body : List ℕ) (texts : List (List ℕ)) (end : ℕ) (more : List Call) → IsAtRest s → StandsTo s.file bodies end
    → Gone (writes_at (end + 1) (closed_block body)) s s1 → Gone syncs s1 s2 → FailsIn s2 (writes_at end (1 ∷ []) ∷ syncs ∷ more) t
    → StopsAppending s t bodies (body ∷ texts) ⊎ ((u : State) × HasAppended s u end body × FailsIn u more t)
gate_fails s s1 s2 t bodies body texts end more rest stands block block_synced f =
    let none : s1.fails ≡ [] = block.fails_are ∙ rest.faultless in
    let rest2 = synced_rest s1 s2 none block_synced in
    let written = synced_same s1 s2 block_synced ∙ wrote s s1 (end + 1) (closed_block body) block in
    let two : (place : ℕ) (image : Image) → StopsAt s2 t place image → StopsAt s t (suc (suc place)) image =
    λ place image x. stops_later (writes_at (end + 1) (closed_block body)) s s1 t (suc place) image block (stops_later syncs s1 s2 t place image block_synced x) in
    elim (failed_on s2 t (writes_at end (1 ∷ [])) (syncs ∷ more) rest2.faultless f) [
      | inl x ↦ inl (in_gate s s2 t bodies body texts end 2 x.image stands written (stopped_write s2 t end (1 ∷ []) rest2 x) (omega arith) (gate_opened x.image).0 (two 0 x.image (stops_now (writes_at end (1 ∷ [])) s2 t x)))
      | inr (s3, gate, f3) ↦ elim (failed_on s3 t syncs more (gate.fails_are ∙ rest2.faultless) f3) [
        | inl x ↦ inl (in_gate s s2 t bodies body texts end 3 x.image stands written (stopped_sync s2 s3 t end (1 ∷ []) rest2 gate x) (omega arith) (gate_opened x.image).1
            (two 1 x.image (stops_later (writes_at end (1 ∷ [])) s2 s3 t 0 x.image gate (stops_now syncs s3 t x))))
        | inr (u, gate_synced, f4) ↦ inr (u, has_appended s s1 s2 s3 u end body rest.faultless block block_synced gate gate_synced, f4)
      ]
    ]

append_fails : (s t : State) (bodies : List (List ℕ)) (body : List ℕ) (texts : List (List ℕ)) (end : ℕ) (more : List Call) → IsAtRest s → StandsTo s.file bodies end → FailsIn s (calls_to_append end body ++ more) t
    → StopsAppending s t bodies (body ∷ texts) ⊎ ((u : State) × HasAppended s u end body × FailsIn u more t)
append_fails s t bodies body texts end more rest stands f =
    let block : Call = writes_at (end + 1) (closed_block body) in
    let gate : Call = writes_at end (1 ∷ []) in
    elim (failed_on s t block (syncs ∷ gate ∷ syncs ∷ more) rest.faultless f) [
      | inl x ↦ inl (in_block s t bodies body texts end 0 x.image stands (stopped_write s t (end + 1) (closed_block body) rest x) (omega arith) (block_none x.image).0 (stops_now block s t x))
      | inr (s1, wrote_block, f1) ↦ elim (failed_on s1 t syncs (gate ∷ syncs ∷ more) (wrote_block.fails_are ∙ rest.faultless) f1) [
        | inl x ↦ inl (in_block s t bodies body texts end 1 x.image stands (stopped_sync s s1 t (end + 1) (closed_block body) rest wrote_block x) (omega arith) (block_none x.image).1 (stops_later block s s1 t 0 x.image wrote_block (stops_now syncs s1 t x)))
        | inr (s2, block_synced, f2) ↦ gate_fails s s1 s2 t bodies body texts end more rest stands wrote_block block_synced f2
      ]
    ]

-- more records
appends_stop : (s t : State) (bodies : List (List ℕ)) (end : ℕ) (texts : List (List ℕ)) → IsAtRest s → StandsTo s.file bodies end → FailsIn s (calls_to_append_all end texts) t → StopsAppending s t bodies texts
appends_stop s t bodies end [] rest stands f = absurd f
appends_stop s t bodies end (text ∷ texts) rest stands f = elim (append_fails s t bodies text texts end (calls_to_append_all (end + (5 + length text)) texts) rest stands f) [
  | inl here ↦ here
  | inr (u, one, more) ↦
      let x = appends_stop u t (bodies ++ text ∷ []) (end + (5 + length text)) texts one.at_rest (one.grown bodies stands) more in
      record {
        place = suc (suc (suc (suc x.place)));
        image = x.image;
        within = omega (arith, x.within);
        stops = one.later t x.place x.image x.stops;
        stands = rw (standing_more x.place (image_number x.image)) (subst (StandsFor t.file) (append_assoc bodies (text ∷ []) (take (standing_at x.place (image_number x.image)) texts)) x.stands);
      }
]

counted_so : (a : PendingStop) (place : ℕ) (image : ℕ) → a.call - 1 ≡ place → a.image ≡ image → standing_at place image ≡ standing_after a
unfolding standing_after
counted_so a place image call_is image_is = rw (← call_is, ← image_is) refl

-- a stop in appends leaves what a run says
pub stopped_appending : (s t : State) (bodies texts : List (List ℕ)) → IsAtRest s → StandsFor s.file bodies → FailsAmong CallsLead s t (calls_to_append_all (length (blocks bodies)) texts) → StoppedAppending s t bodies texts
stopped_appending s t bodies texts rest stands f =
    let x = appends_stop s t bodies (length (blocks bodies)) texts rest (stands_to s.file bodies stands) (fails_in s t (calls_to_append_all (length (blocks bodies)) texts) f) in
    let same = counted_so x.stops.comes.pending x.place (image_number x.image) x.stops.comes.call_is x.stops.comes.image_is in
    record {
      stopped = stopped_at s t x.place x.image (4 * length texts) x.stops x.within;
      stands = subst (λ (n : ℕ). StandsFor t.file (bodies ++ take n texts)) same x.stands;
    }
