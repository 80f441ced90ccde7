-- What a schedule guarantees of what faulty nodes sign, of stops, and of what nodes are asked for: for each field of an
-- event, by the field's name.
use Rattle.std.proofs.Common.{◌≡◌, ℕ, ◌<◌, ◌≤◌, ◌^◌, true, List, [], ◌∷◌, length, Option, arith}
use Rattle.std.proofs.lemmas.Bool.Decides.{nat_tests}
use Rattle.depot_base.specs.Shown.{IsPairKind}
use Rattle.depot_base.specs.Writes.{one_change}
use Rattle.depot_base.specs.declared.proof.Kind.{Kind}
use Rattle.depot_base.specs.declared.write.Change.{Change}
use Rattle.depot_schedule.specs.EventLines.{proof_line, stop_line, update_line, updates_line, voucher_line}
use Rattle.depot_lines.specs.Language.{or_empty}
use Rattle.depot_schedule.specs.Schedules.{FitsEvent}
use Rattle.depot_schedule.specs.EventWords as word
use Rattle.depot_schedule.specs.EventWords.{is_faulty}
use Rattle.depot_schedule.specs.declared.event.Event.{Event}
use Rattle.depot_schedule.specs.declared.event.Event.TheVariants as event
use Rattle.depot_schedule.specs.declared.event.HistoryWord.{HistoryWord}
use Rattle.depot_schedule.specs.declared.event.Ref.{Ref}
use Rattle.depot_schedule.specs.declared.schedule.Schedule.{Schedule}
use Rattle.depot_world.proofs.EventFacts.{BringsBytes, events_bring_bytes}
use Rattle.depot_world.proofs.EventAsks.{events_ask}
use Rattle.depot_simulation.specs.Doing.{MayAskNode}
use Rattle.depot_simulation.specs.Drafts.{MaySign}

-- ---- who signs

-- a faulty node signs a statement, whose number is that of one of its leaves
pub record IsFaultySigner (s : Schedule) (node seq : ℕ) : Type 0 where
  pub faulty : is_faulty s.members node ≡ true
  pub leaf : seq < 2 ^ s.height

signer_is : (s : Schedule) (node seq : ℕ) → word.faulty.fits s node → word.seq.fits s seq → IsFaultySigner s node seq
signer_is s node seq (in_range, faulty) (any, below) = record { faulty = faulty; leaf = grind (arith, nat_tests, below) }

update_signer : (s : Schedule) (label : List ℕ) (writer seq clock : ℕ) (prev : Option Ref) (key value : List ℕ) (refs : List Ref) (history : HistoryWord) → FitsEvent s (event.Update label writer seq clock prev key value refs history) → IsFaultySigner s writer seq
unfolding update_line
update_signer s label writer seq clock prev key value refs history (of_label, (of_writer, (of_seq, more))) = signer_is s writer seq of_writer of_seq

updates_signer : (s : Schedule) (label : List ℕ) (writer seq clock : ℕ) (prev : Option Ref) (changes : List Change) (refs : List Ref) (history : HistoryWord) → FitsEvent s (event.Updates label writer seq clock prev changes refs history) → IsFaultySigner s writer seq
unfolding updates_line
updates_signer s label writer seq clock prev changes refs history (of_label, (of_writer, (of_seq, more))) = signer_is s writer seq of_writer of_seq

pub voucher_signer : (s : Schedule) (label : List ℕ) (node seq : ℕ) (refs : List Ref) → FitsEvent s (event.Voucher label node seq refs) → IsFaultySigner s node seq
unfolding voucher_line
voucher_signer s label node seq refs (of_label, (of_node, (of_seq, more))) = signer_is s node seq of_node of_seq

-- ---- sizes

few_entries : (s : Schedule) (refs : List Ref) → (or_empty (word.references 1024)).fits s refs → length refs ≤ 1024
few_entries s [] fits = omega arith
few_entries s (r ∷ refs) (each, few) = grind (arith, nat_tests, few)

-- those of an update that a faulty node signs, and who signs it
pub record IsSigned (s : Schedule) (writer seq clock : ℕ) (changes : List Change) (refs : List Ref) (history : HistoryWord) : Type 0 where
  pub signer : IsFaultySigner s writer seq
  pub may : MaySign writer seq clock changes refs history

pub update_signed : (s : Schedule) (label : List ℕ) (writer seq clock : ℕ) (prev : Option Ref) (key value : List ℕ) (refs : List Ref) (history : HistoryWord) → FitsEvent s (event.Update label writer seq clock prev key value refs history)
    → IsSigned s writer seq clock (one_change key value) refs history
unfolding update_line
update_signed s label writer seq clock prev key value refs history fits = by_fields (events_bring_bytes s (event.Update label writer seq clock prev key value refs history) fits) fits where
  by_fields : BringsBytes (event.Update label writer seq clock prev key value refs history) → FitsEvent s (event.Update label writer seq clock prev key value refs history) → IsSigned s writer seq clock (one_change key value) refs history
  by_fields (changes_bytes, history_bytes) (of_label, ((writer_is, faulty), (((seq_least, seq_most), leaf), ((clock_least, clock_most), (of_prev, (of_key, (of_value, (of_refs, (of_history, same))))))))) = record {
    signer = update_signer s label writer seq clock prev key value refs history fits;
    may = record { writer_is = writer_is; seq_most = seq_most; clock_least = clock_least; clock_most = clock_most; changes_are = changes_bytes.are; few = few_entries s refs of_refs; history_fits = of_history };
  }

pub updates_signed : (s : Schedule) (label : List ℕ) (writer seq clock : ℕ) (prev : Option Ref) (changes : List Change) (refs : List Ref) (history : HistoryWord) → FitsEvent s (event.Updates label writer seq clock prev changes refs history)
    → IsSigned s writer seq clock changes refs history
unfolding updates_line
updates_signed s label writer seq clock prev changes refs history fits = by_fields (events_bring_bytes s (event.Updates label writer seq clock prev changes refs history) fits) fits where
  by_fields : BringsBytes (event.Updates label writer seq clock prev changes refs history) → FitsEvent s (event.Updates label writer seq clock prev changes refs history) → IsSigned s writer seq clock changes refs history
  by_fields (changes_bytes, history_bytes) (of_label, ((writer_is, faulty), (((seq_least, seq_most), leaf), ((clock_least, clock_most), (of_prev, (of_changes, (of_refs, (of_history, same)))))))) = record {
    signer = updates_signer s label writer seq clock prev changes refs history fits;
    may = record { writer_is = writer_is; seq_most = seq_most; clock_least = clock_least; clock_most = clock_most; changes_are = changes_bytes.are; few = few_entries s refs of_refs; history_fits = of_history };
  }

-- what a node is asked for
pub may_ask : (s : Schedule) (e : Event) → FitsEvent s e → MayAskNode e
may_ask s e fits = λ run. events_ask run e (events_bring_bytes s e fits)

-- the kind of a proof is one of two statements
pub proof_kind : (s : Schedule) (label : List ℕ) (kind : Kind) (first second : List ℕ) → FitsEvent s (event.Proof label kind first second) → IsPairKind kind
unfolding proof_line
proof_kind s label kind first second (of_label, (of_kind, more)) = of_kind

-- those of a voucher
pub record IsSizedVoucher (node seq : ℕ) (refs : List Ref) : Type 0 where
  pub node_is : (1 ≤ node) × (node ≤ 65535)
  pub seq_most : seq ≤ 4294967295
  pub some : 0 < length refs
  pub few : length refs ≤ 256

pub voucher_sizes : (s : Schedule) (label : List ℕ) (node seq : ℕ) (refs : List Ref) → FitsEvent s (event.Voucher label node seq refs) → IsSizedVoucher node seq refs
unfolding voucher_line
voucher_sizes s label node seq refs (of_label, ((node_is, faulty), (((seq_least, seq_most), leaf), (((some, each), few), same)))) = record { node_is = node_is; seq_most = seq_most; some = some; few = grind (arith, nat_tests, few) }

-- those of a stop: it falls into a call, and leaves one of three images
pub record IsSizedStop (call image : ℕ) : Type 0 where
  pub call_least : 1 ≤ call
  pub call_most : call ≤ 1000000
  pub image_most : image ≤ 2

pub stop_sizes : (s : Schedule) (node call image : ℕ) → FitsEvent s (event.Stop node call image) → IsSizedStop call image
unfolding stop_line
stop_sizes s node call image (of_node, ((call_least, call_most), ((image_least, image_most), same))) = record { call_least = call_least; call_most = call_most; image_most = image_most }
