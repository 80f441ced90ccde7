-- What the events of correct nodes do meets the conditions of a world.
use Rattle.std.proofs.Common.{◌≡◌, ℕ, ◌<◌, ◌≤◌, false, List, [], ◌∷◌, ◌++◌, take, length, map, refl, sym, ap, subst, inl, inr, arith}
use Rattle.std.proofs.Math.Seq.{take-length}
use Rattle.depot_base.specs.declared.record.Record.{Record}
use Rattle.depot_base.specs.declared.update.Update.{Update}
use Rattle.depot_model.specs.exchange.Bundle.{Signs}
use Rattle.depot_model.specs.checks.Checks.{Setting}
use Rattle.depot_model.specs.journals.Journal.{accepted, seen_under}
use Rattle.depot_model.specs.updates.LatestList.{latest_in}
use Rattle.depot_model.specs.journals.Lawful.{IsLawful, is_empty}
use Rattle.depot_model.specs.lists.Lists.{IsIn}
use Rattle.depot_model.specs.updates.Order.{AreLatestIn}
use Rattle.depot_model.specs.journals.ShownWrites.{shown_of}
use Rattle.depot_model.specs.worlds.World.{Correct, Read, Shown, IsRead, NeverFall}
use Rattle.depot_model.proofs.of_journals.FeedGrowth.{grown_none}
use Rattle.depot_model.proofs.of_updates.LatestWrites.{latest_are_listed}
use Rattle.depot_model.proofs.lists.Members.{from_map, in_pushed, all_push}
use Rattle.depot_laws.proofs.records.Causes.{lawful_is_causal}
use Rattle.depot_requests.specs.Effects.{read_at_end}
use Rattle.depot_requests.specs.Requests.{effect_of, reads_after, served}
use Rattle.depot_requests.specs.declared.request.Request.{Request}
use Rattle.depot_requests.specs.declared.request.Request.TheVariants as request
use Rattle.depot_requests.proofs.LawfulRequests.{served_is_lawful}
use Rattle.depot_requests.proofs.ServedRequests.{served_grows}
use Rattle.depot_requests.proofs.TrueRequests.{served_stays_true}
use Rattle.depot_world.specs.ScheduleStops.{restart_by}
use Rattle.depot_world.specs.Setups.{Setup, stands_on}
use Rattle.depot_world.proofs.of_bytes.ByteSignatures.{SignsBytes}
use Rattle.depot_world.proofs.of_worlds.GoodNodes.{IsGoodNode, IsGoodEffect, read_grows}
use Rattle.depot_world.proofs.of_worlds.GoodRequests.{IsGoodRequest, carries, served_leaves_bytes}

-- ---- reads

pub read_is : (here : Setting) (J : List Record) (key : List ℕ) → IsLawful here J → is_empty J ≡ false → IsRead J (read_at_end J key)
read_is here J key l some =
    let whole_J : take (length J) J ≡ J = take-length J in
    let us = latest_in key (accepted J) in
    record {
      begun = long J some;
      within = omega arith;
      latest = subst (λ (K : List Record). AreLatestIn key (accepted K) (map (λ (s : Shown). s.update) (shown_of J key))) (sym whole_J)
          (subst (λ (vs : List Update). AreLatestIn key (accepted J) vs) (sym (updates_shown us)) (latest_are_listed key (accepted J) (lawful_is_causal here J l)));
      values = λ s on. subst (λ (K : List Record). s.seen ≡ seen_under K key s.update) (sym whole_J) (told s (from_map (λ (u : Update). record { update = u; seen = seen_under J key u }) s us on));
    } where
      long : (K : List Record) → is_empty K ≡ false → 0 < length K
      long [] e = absurd cc
      long (r ∷ K) e = omega arith

      updates_shown : (us : List Update) → map (λ (s : Shown). s.update) (map (λ (u : Update). record { update = u; seen = seen_under J key u }) us) ≡ us
      updates_shown [] = refl
      updates_shown (u ∷ us) = ap (λ (vs : List Update). u ∷ vs) (updates_shown us)

      told : (s : Shown) → (u : Update) × (IsIn u (latest_in key (accepted J)) × (record { update = u; seen = seen_under J key u } ≡ s)) → s.seen ≡ seen_under J key s.update
      told s t = subst (λ (x : Shown). x.seen ≡ seen_under J key x.update) t.1.1 refl

-- a read that is made now falls behind none before it
pub never_falls : (rs : List Read) (r : Read) → NeverFall rs → ((s : Read) → IsIn s rs → s.at ≤ r.at) → NeverFall (rs ++ r ∷ [])
never_falls [] r falls low = (tt, tt)
never_falls (s ∷ rs) r falls low = (all_push (λ (t : Read). s.at ≤ t.at) rs r falls.0 (low s (inl refl)), never_falls rs r falls.1 (λ t on. low t (inr on)))

-- ---- requests

-- the reads of a node after a request are reads of its journal
reads_are_good : (setup : Setup) (c : Correct) (q : Request) → IsGoodNode setup c → (r : Read) → IsIn r (reads_after c q) → IsRead c.journal r
reads_are_good setup c (request.Get key) g r on = elim (in_pushed r c.reads (read_at_end c.journal key) on) [
  | inl old ↦ g.reads r old
  | inr now ↦ subst (λ (x : Read). IsRead c.journal x) now (read_is (stands_on setup c.node) c.journal key g.lawful g.begun)
]
reads_are_good setup c other g r on = g.reads r on

reads_never_fall : (setup : Setup) (c : Correct) (q : Request) → IsGoodNode setup c → NeverFall (reads_after c q)
reads_never_fall setup c (request.Get key) g = never_falls c.reads (read_at_end c.journal key) g.in_order (λ s on. (g.reads s on).within)
reads_never_fall setup c other g = g.in_order

-- whatever a node is asked
pub request_is_good : (setup : Setup) (c : Correct) (sign : Signs) (q : Request) → IsGoodNode setup c → SignsBytes sign → IsGoodRequest q → IsGoodEffect setup c (effect_of (stands_on setup c.node) sign c q)
unfolding effect_of
request_is_good setup c sign q g signs good =
    let here = stands_on setup c.node in
    let grown = served_grows here sign c.journal q in
    let left = served_leaves_bytes here sign c.journal g.holds signs q good.only in
    record {
      grown = grown;
      lawful = served_is_lawful here sign c.journal g.lawful g.begun q good.is (carries q good.only);
      reads = λ r on. read_grows c.journal (served here sign c.journal q).journal r grown (reads_are_good setup c q g r on);
      in_order = reads_never_fall setup c q g;
      holds = left.holds;
      receipts = served_stays_true here sign c.journal g.receipts q good.is;
      bytes = left.bytes;
    }

-- ---- starting again

pub restart_is_good : (setup : Setup) (c : Correct) → IsGoodNode setup c → IsGoodEffect setup c (restart_by c)
unfolding restart_by
restart_is_good setup c g = record { grown = grown_none c.journal; lawful = g.lawful; reads = g.reads; in_order = g.in_order; holds = g.holds; receipts = g.receipts; bytes = tt }
