-- Worked examples of what calls do to a node, its file and its disk: what holds of each call, and what doesn't.
use Rattle.std.proofs.Common.{◌≡◌, ℕ, List, [], ◌∷◌, ◌++◌, get_or, Bool, true, false, refl, sym, ap, subst, arith, inl, inr}
use Rattle.depot_base.specs.Calls.{Made, made, syncs, writes_at}
use Rattle.depot_base.specs.Cursor.{numeral}
use Rattle.depot_base.specs.File.{framed, StandsFor}
use Rattle.depot_base.specs.declared.key.PublicKey.{PublicKey}
use Rattle.depot_base.specs.declared.record.Record.{Record}
use Rattle.depot_base.specs.declared.record.Record.TheVariants.{Held}
use Rattle.depot_base.specs.Format.{number}
use Rattle.depot_base.specs.Closed.{rest_of}
use Rattle.depot_model.specs.texts.Records.{tagged, record_text, text_of_record}
use Rattle.depot_model.specs.exchange.Bundle.{Signs}
use Rattle.depot_model.specs.checks.Checks.{Setting}
use Rattle.depot_model.specs.journals.JournalCalls.{JournalView, StopsBy, KeepsDisk, IsUntouched, Lasts, CallsDisk, IsJournalCall}
use Rattle.depot_model.specs.journals.Replicas.{IsSameNode}
use Rattle.depot_model.specs.journals.Stops.{HasRecords, HasFront, HasAll, LeavesAll, calls_to_record}
use Rattle.depot_model.specs.declared.node_state.NodeState.{Ghosts}
use Rattle.depot_model.proofs.of_journals.StopLaws.{idle_lasts}
use Rattle.depot_model.proofs.examples.Cast.{here}

-- ---- stopping

-- a node that runs, and whose disk doesn't fail, runs on
runs_on : StopsBy false false ⊥ ⊥
runs_on = record { answered = (λ never. absurd never, λ wrong. absurd cc); left = (λ wrong. absurd cc, λ either. elim either [ inl wrong ↦ absurd cc | inr never ↦ absurd never ]) }

-- where the disk fails in a call the node is stopped after it, and didn't answer Stopped
stops_now : StopsBy false true ⊥ (Unit {0})
stops_now = record { answered = (λ never. absurd never, λ wrong. absurd cc); left = (λ e. inr tt, λ either. refl) }

stays_stopped : StopsBy true true (Unit {0}) ⊥
stays_stopped = record { answered = (λ answered. refl, λ e. tt); left = (λ e. inl refl, λ either. refl) }

-- no node runs again
not_again : {answered failed : Type 0} → StopsBy true false answered failed → ⊥
not_again by = let wrong : false ≡ true = by.left.1 (inl refl) in cc

-- nor does one that runs answer Stopped, or stop with no fault
not_answered : {now : Bool} {failed : Type 0} → StopsBy false now (Unit {0}) failed → ⊥
not_answered by = let wrong : false ≡ true = by.answered.0 tt in cc

not_by_itself : {answered : Type 0} → StopsBy false true answered ⊥ → ⊥
not_by_itself by = elim (by.left.0 refl) [ inl wrong ↦ (let e : false ≡ true = wrong in cc) | inr never ↦ never ]

-- ---- the node's disk

-- a journal without a record, of whose disk nothing is known
abbrev bare : {N : Type 0} → JournalView N
bare = record {
  records = λ n. [];
  stopped = λ n. false;
  handle = λ n. 3;
  faults = λ n. 7;
  is_faultless = λ n. ⊥;
  tells = λ n. true;
  may_leave = λ n image. ⊥;
  moment = λ n. 0;
  left_since = λ n since image. ⊥;
  reads = λ n. [];
  after = λ old calls new. Unit {0};
}

-- a disk, and how often it failed; whether it promises that it never fails
abbrev counted : Type 0 → JournalView (ℕ × ℕ)
counted promised = record bare { handle = λ n. n.0; faults = λ n. n.1; is_faultless = λ n. promised }

calm : KeepsDisk (counted ⊥) (3, 7) (3, 7) ⊥
calm = record { same = refl; cause = record { never_falls = omega arith; rose = λ never. absurd never; only = λ less. absurd (omega (arith, less)) }; calm = λ never. absurd never }

failed_once : KeepsDisk (counted ⊥) (3, 7) (3, 8) (Unit {0})
failed_once = record { same = refl; cause = record { never_falls = omega arith; rose = λ failed. omega arith; only = λ less. tt }; calm = λ never. absurd never }

-- a fault that isn't counted, one that isn't reported, and another disk
not_counted : (promised : Type 0) → KeepsDisk (counted promised) (3, 7) (3, 7) (Unit {0}) → ⊥
not_counted promised k = omega (arith, k.cause.rose tt)

not_told : (promised : Type 0) → KeepsDisk (counted promised) (3, 7) (3, 8) ⊥ → ⊥
not_told promised k = k.cause.only (omega arith)

not_another_disk : (promised failed : Type 0) → KeepsDisk (counted promised) (3, 7) (4, 7) failed → ⊥
not_another_disk promised failed k = omega (arith, k.same)

-- a disk that never fails by itself didn't fail
not_calm : (failed : Type 0) → KeepsDisk (counted (Unit {0})) (3, 7) (3, 8) failed → ⊥
not_calm failed k = omega (arith, (k.calm tt).1)

-- ---- who the node is

-- a node that is here, under this key
record Who : Type 0 where
  stands : Setting
  key : PublicKey

abbrev who : Signs → Ghosts Who
who sign = record {
  stands = λ n. n.stands;
  records = λ n. [];
  key = λ n. n.key;
  signature_of = λ n. sign;
  stopped = λ n. false;
  handle = λ n. 3;
  faults = λ n. 7;
  is_faultless = λ n. ⊥;
  tells = λ n. true;
  may_leave = λ n image. ⊥;
  moment = λ n. 0;
  left_since = λ n since image. ⊥;
  reads = λ n. [];
  after = λ old calls new. Unit {0};
}

abbrev its_key : PublicKey
its_key = record { root = []; height = 2 }

abbrev node : Who
node = record { stands = here; key = its_key }

same_node : (sign : Signs) → IsSameNode (who sign) node node
same_node sign = record { stands = refl; key = refl; signs = refl }

-- it doesn't become another
not_another_node : (sign : Signs) → IsSameNode (who sign) node (record node { stands = record here { me = 2 } }) → ⊥
not_another_node sign same = omega (arith, ap (λ (s : Setting). s.me) same.stands)

not_another_key : (sign : Signs) → IsSameNode (who sign) node (record node { key = record its_key { height = 3 } }) → ⊥
not_another_key sign same = omega (arith, ap (λ (k : PublicKey). k.height) same.key)

-- ---- the crash images

-- where nothing was done no moment came
untouched : {N : Type 0} (v : JournalView N) (n : N) → IsUntouched v n n
untouched v n = record { same_moment = refl; no_more = λ t file left. left }

not_untouched : IsUntouched (record bare { moment = λ n. n }) 0 1 → ⊥
not_untouched u = omega (arith, u.same_moment)

-- nor where there is one crash image more; with one less it holds, where a file is a crash image only once it is true
abbrev later : JournalView Bool
later = record bare { left_since = λ n since image. n ≡ true }

not_an_image_more : IsUntouched later false true → ⊥
not_an_image_more u = let wrong : false ≡ true = u.no_more 0 [] refl in cc

an_image_less : IsUntouched later true false
an_image_less = record { same_moment = refl; no_more = λ t image left. refl }

-- ---- the records of a file

abbrev one : Record
one = Held (7 ∷ [])

-- its text is a tag and a byte
its_text : text_of_record one ≡ 6 ∷ 7 ∷ []
unfolding record_text tagged rest_of number numeral
its_text = refl

-- the open gate, the length of the text, the text, and the closed gate after it
abbrev file : List ℕ
file = 1 ∷ 0 ∷ 0 ∷ 0 ∷ 2 ∷ 6 ∷ 7 ∷ 0 ∷ []

has_one : HasRecords (one ∷ []) file
unfolding record_text tagged rest_of number framed numeral
has_one = inr ((0, [], (λ same. absurd (omega (arith, same))), refl), record { records = omega arith; bytes = omega arith })

-- of the records that a call appends, one
has_a_front : HasFront [] (one ∷ one ∷ []) file
has_a_front = record { count = 1; has = has_one }

-- a node that runs has all its records there, and a stopped one may have left one more
has_all : HasAll (one ∷ []) false file
has_all = record { more = []; has = has_one; none = λ runs. refl }

has_more : HasAll [] true file
has_more = record { more = text_of_record one ∷ []; has = has_one; none = λ wrong. absurd cc }

-- a gate that isn't open yet: the file has none
abbrev shut : List ℕ
shut = 0 ∷ 0 ∷ 0 ∷ 0 ∷ 2 ∷ 6 ∷ 7 ∷ 0 ∷ []

has_none : HasFront [] (one ∷ []) shut
has_none = record { count = 0; has = inr ((0, 0 ∷ 0 ∷ 0 ∷ 2 ∷ 6 ∷ 7 ∷ 0 ∷ [], (λ same. absurd (omega (arith, same))), refl), record { records = omega arith; bytes = omega arith }) }

-- its first gate is shut, and that of a file with a record is open
open_gate : (more : List (List ℕ)) → StandsFor shut (text_of_record one ∷ more) → ⊥
unfolding framed
open_gate more (gate, rest, closed, is) = omega (arith, ap (λ (bytes : List ℕ). get_or bytes 0 0) is)

not_a_record : HasRecords (one ∷ []) shut → ⊥
not_a_record has = elim has [
  | inl short ↦ (let none : text_of_record one ∷ [] ≡ [] = short.1 in cc)
  | inr stands ↦ open_gate [] stands.0
]

-- once it is reported the record is there
not_lost : HasAll (one ∷ []) false shut → ⊥
unfolding record_text tagged rest_of number framed numeral
not_lost h = elim h.has [
  | inl short ↦ (let none : text_of_record one ∷ h.more ≡ [] = short.1 in cc)
  | inr stands ↦ open_gate h.more stands.0
]

-- this file is a crash image, or that one
leaves_all : LeavesAll (one ∷ []) false (λ image. image ≡ file)
leaves_all image is = subst (HasAll (one ∷ []) false) (sym is) has_all

not_all : LeavesAll (one ∷ []) false (λ image. image ≡ shut) → ⊥
not_all leaves = not_lost (leaves shut refl)

-- A node that runs, with one record, whose disk has these crash images, and that appends nothing.
abbrev LastsWith : (List ℕ → Type 0) → Type 0
LastsWith images = Lasts {N = Unit {0}} (record bare { records = λ n. one ∷ []; left_since = λ n since image. images image; may_leave = λ n image. images image }) tt tt []

lasts : LastsWith (λ image. image ≡ file)
lasts = record {
  told = refl;
  any_moment = λ tells runs. record { later = omega arith; each = λ image is. record { count = 0; has = subst (HasRecords (one ∷ [])) (sym is) has_one }; before = λ since image early is. inl is };
  stable = λ tells. leaves_all;
  untouched = λ wrong. absurd cc;
}

-- the record may not be lost
not_lasting : LastsWith (λ image. image ≡ shut) → ⊥
not_lasting l = not_all (l.stable refl)

-- ---- the calls of an append

calls : calls_to_record [] (one ∷ []) ≡ writes_at 1 (0 ∷ 0 ∷ 0 ∷ 2 ∷ 6 ∷ 7 ∷ 0 ∷ []) ∷ syncs ∷ writes_at 0 (1 ∷ []) ∷ syncs ∷ []
unfolding record_text tagged rest_of number framed numeral
calls = refl

-- the next record begins at the gate after the first
next_gate : calls_to_record (one ∷ []) (one ∷ []) ≡ writes_at 8 (0 ∷ 0 ∷ 0 ∷ 2 ∷ 6 ∷ 7 ∷ 0 ∷ []) ∷ syncs ∷ writes_at 7 (1 ∷ []) ∷ syncs ∷ []
unfolding record_text tagged rest_of number framed numeral
next_gate = refl

-- a journal that is seen as the calls on its disk so far
abbrev so_far : JournalView (List Made)
so_far = record bare { after = λ old calls new. new ≡ old ++ calls }

-- a call that appends nothing makes none
nothing_made : CallsDisk so_far [] [] [] ⊥
nothing_made = record {
  whole = λ well grown none. subst (λ (g : List Record). [] ≡ made (calls_to_record [] g)) none refl;
  part = λ never. absurd never;
  still = λ wrong. absurd cc;
}

-- a call that fails was made up to the one that failed
first_fails : CallsDisk so_far [] (record { call = writes_at 1 (0 ∷ 0 ∷ 0 ∷ 2 ∷ 6 ∷ 7 ∷ 0 ∷ []); failed = true } ∷ []) (one ∷ []) (Unit {0})
first_fails = record {
  whole = λ well. absurd (well tt);
  part = λ failed. record { before = []; failing = writes_at 1 (0 ∷ 0 ∷ 0 ∷ 2 ∷ 6 ∷ 7 ∷ 0 ∷ []); rest = syncs ∷ writes_at 0 (1 ∷ []) ∷ syncs ∷ []; parts = calls; fails = refl };
  still = λ wrong. absurd cc;
}

-- a stopped node leaves its file as it reads
not_still : CallsDisk (record bare { reads = λ n. n ∷ []; stopped = λ n. true }) 0 1 [] ⊥ → ⊥
not_still c = omega (arith, ap (λ (bytes : List ℕ). get_or bytes 0 0) (c.still refl))

-- a sync more is a call too many
not_one_more : CallsDisk so_far [] (made (syncs ∷ [])) [] ⊥ → ⊥
not_one_more c = let wrong : made (syncs ∷ []) ≡ [] = c.whole (λ never. never) [] refl in cc

-- ---- a whole call

-- a call that is asked to append a record, and runs out of memory
abbrev NoMemory : List Made → List Made → Type 0
NoMemory old new = IsJournalCall so_far old new (one ∷ []) ⊥ ⊥ (Unit {0})

does_nothing : NoMemory [] []
does_nothing = record {
  stops = runs_on;
  disk = record { same = refl; cause = record { never_falls = omega arith; rose = λ never. absurd never; only = λ less. absurd (omega (arith, less)) }; calm = λ never. absurd never };
  lasts = idle_lasts so_far (λ n image left. left) [] (one ∷ []) (λ tells image left. absurd left);
  calls = record {
    whole = λ well grown none. subst (λ (g : List Record). [] ≡ made (calls_to_record [] g)) none refl;
    part = λ never. absurd never;
    still = λ wrong. absurd cc;
  };
  idle = λ memory. idle_lasts so_far (λ n image left. left) [] [] (λ tells image left. absurd left);
}

-- it may not sync
not_a_sync : NoMemory [] (made (syncs ∷ [])) → ⊥
not_a_sync c = not_one_more (record { whole = c.calls.whole; part = λ never. absurd never; still = c.calls.still })
