-- Nodes of a run that meet the conditions of a world, and events that keep them, stopped or not.
use Rattle.std.proofs.Common.{◌≡◌, ◌-◌, Bool, true, false, cond, leb, List, [], ◌∷◌, ◌++◌, take, drop, length, map, Option, Some, None, refl, sym, ap, subst, ◌∙◌, arith, append_assoc, length-append}
use Rattle.std.proofs.lemmas.List.{take-append-drop, take-append-le}
use Rattle.std.proofs.Math.Seq.{drop-append_seam}
use Rattle.depot_base.specs.declared.record.Record.{Record}
use Rattle.depot_model.specs.journals.Journal.{accepted, seen_under}
use Rattle.depot_model.specs.journals.Lawful.{IsLawful, is_empty}
use Rattle.depot_model.specs.lists.Lists.{IsIn}
use Rattle.depot_model.specs.updates.Order.{AreLatestIn}
use Rattle.depot_model.specs.worlds.Receipts.{AreReceiptsTrue}
use Rattle.depot_model.specs.texts.Roster.{has_node}
use Rattle.depot_model.specs.worlds.World.{Correct, Read, Shown, IsRead, NeverFall}
use Rattle.depot_laws.proofs.lists.Splits.{lawful_front}
use Rattle.depot_laws.proofs.lists.Tests.{all_left}
use Rattle.depot_laws.proofs.of_audits.TrueReceipts.{front_is_true}
use Rattle.depot_world.specs.Run.{PendingStop, Host}
use Rattle.depot_requests.specs.Effects.{Effect}
use Rattle.depot_world.specs.ScheduleStops.{EventResult, standing_after, journal_left, result_by, stopped_with, result_pending, event_result}
use Rattle.depot_world.specs.Setups.{Setup, stands_on}
use Rattle.depot_world.proofs.of_bytes.OnlyBytes.{OnlyBytes}
use Rattle.depot_world.proofs.of_bytes.ByteJournals.{HoldsBytes, AllHold}
use Rattle.depot_model.proofs.of_journals.FeedGrowth.{IsGrown}

-- what a world asks of a correct node, and that its journal is made of bytes
pub record IsGoodNode (setup : Setup) (c : Correct) : Type 0 where
  pub member : has_node setup.listed c.node ≡ true
  pub lawful : IsLawful (stands_on setup c.node) c.journal
  pub begun : is_empty c.journal ≡ false
  pub reads : (r : Read) → IsIn r c.reads → IsRead c.journal r
  pub in_order : NeverFall c.reads
  pub holds : AllHold c.journal
  pub receipts : AreReceiptsTrue c.journal

-- what an event leaves where no stop falls into it: more after the journal, and the reads of the journal
pub record IsGoodEffect (setup : Setup) (c : Correct) (d : Effect) : Type 0 where
  pub grown : IsGrown c.journal d.journal
  pub lawful : IsLawful (stands_on setup c.node) d.journal
  pub reads : (r : Read) → IsIn r d.reads → IsRead d.journal r
  pub in_order : NeverFall d.reads
  pub holds : AllHold d.journal
  pub receipts : AreReceiptsTrue d.journal
  pub bytes : OnlyBytes d.bytes

-- ---- journals that grow

pub begun_grows : (J K : List Record) → IsGrown J K → is_empty J ≡ false → is_empty K ≡ false
begun_grows [] K e some = absurd cc
begun_grows (r ∷ J) K e some = ap is_empty e.is

-- a read stays the read of its journal
pub read_grows : (J K : List Record) (r : Read) → IsGrown J K → IsRead J r → IsRead K r
read_grows J K r e is =
    let same : take r.at K ≡ take r.at J = ap (λ (x : List Record). take r.at x) e.is ∙ take-append-le r.at J e.more is.within in
    record {
      begun = is.begun;
      within = omega (arith, is.within, ap length e.is, length-append J e.more);
      latest = subst (λ (x : List Record). AreLatestIn r.key (accepted x) (map (λ (s : Shown). s.update) r.answer)) (sym same) is.latest;
      values = λ s on. subst (λ (x : List Record). s.seen ≡ seen_under x r.key s.update) (sym same) (is.values s on);
    }

-- ---- stops

record HasLeft (J K left : List Record) : Type 0 where
  pub grown : IsGrown J left
  pub rest : List Record
  pub is : K ≡ left ++ rest

left_behind : (J K : List Record) (a : PendingStop) → IsGrown J K → HasLeft J K (journal_left J K a)
left_behind J K a e =
    let n = standing_after a in
    let new : drop (length J) K ≡ e.more = ap (λ (x : List Record). drop (length J) x) e.is ∙ drop-append_seam J e.more in
    record {
      grown = record { more = take n (drop (length J) K); is = refl };
      rest = drop n e.more;
      is = e.is ∙ ap (λ (x : List Record). J ++ x) (sym (take-append-drop n e.more)) ∙ sym (append_assoc J (take n e.more) (drop n e.more))
          ∙ ap (λ (x : List Record). (J ++ take n x) ++ drop n e.more) (sym new);
    }

-- ---- events

-- what an event leaves, stopped or not
pub record IsGoodResult (setup : Setup) (s : Host) (w : EventResult) : Type 0 where
  pub same : w.host.correct.node ≡ s.correct.node
  pub good : IsGoodNode setup w.host.correct
  pub bytes : OnlyBytes w.bytes

stopped_is_good : (setup : Setup) (s : Host) (d : Effect) (a : PendingStop) → IsGoodNode setup s.correct → IsGoodEffect setup s.correct d → IsGoodResult setup s (stopped_with s (journal_left s.correct.journal d.journal a))
stopped_is_good setup s d a g effect =
    let J = s.correct.journal in
    let l = left_behind J d.journal a effect.grown in
    let left = journal_left J d.journal a in
    record {
      same = refl;
      good = record {
        member = g.member;
        lawful = lawful_front (stands_on setup s.correct.node) left l.rest (subst (λ (x : List Record). IsLawful (stands_on setup s.correct.node) x) l.is effect.lawful);
        begun = begun_grows J left l.grown g.begun;
        reads = λ r on. read_grows J left r l.grown (g.reads r on);
        in_order = g.in_order;
        holds = all_left HoldsBytes left l.rest (subst AllHold l.is effect.holds);
        receipts = front_is_true left l.rest (subst AreReceiptsTrue l.is effect.receipts);
      };
      bytes = tt;
    }

result_is_good : (setup : Setup) (s : Host) (pending : Option PendingStop) (d : Effect) → IsGoodNode setup s.correct → IsGoodEffect setup s.correct d → IsGoodResult setup s (result_by s pending d)
result_is_good setup s pending d g effect = record {
  same = refl;
  good = record { member = g.member; lawful = effect.lawful; begun = begun_grows s.correct.journal d.journal effect.grown g.begun; reads = effect.reads; in_order = effect.in_order; holds = effect.holds; receipts = effect.receipts };
  bytes = effect.bytes;
}

pending_is_good : (setup : Setup) (s : Host) (d : Effect) (a : PendingStop) → IsGoodNode setup s.correct → IsGoodEffect setup s.correct d → IsGoodResult setup s (result_pending s d a)
pending_is_good setup s d a g effect = by_call (leb a.call d.calls) (stopped_is_good setup s d a g effect) where
  by_call : (b : Bool) → IsGoodResult setup s (stopped_with s (journal_left s.correct.journal d.journal a)) → IsGoodResult setup s (cond b (stopped_with s (journal_left s.correct.journal d.journal a)) (result_by s (Some (record { call = a.call - d.calls; image = a.image })) d))
  by_call true stopped = stopped
  by_call false stopped = result_is_good setup s (Some (record { call = a.call - d.calls; image = a.image })) d g effect

-- a good event of a good node
pub events_keep_nodes : (setup : Setup) (s : Host) (d : Effect) → IsGoodNode setup s.correct → IsGoodEffect setup s.correct d → IsGoodResult setup s (event_result s d)
unfolding event_result
events_keep_nodes setup s d g effect = by_stop s.pending where
  by_stop : (o : Option PendingStop) → IsGoodResult setup s (elim o as (λ x. EventResult) [ None ↦ result_by s None d | Some a ↦ result_pending s d a ])
  by_stop None = result_is_good setup s None d g effect
  by_stop (Some a) = pending_is_good setup s d a g effect
