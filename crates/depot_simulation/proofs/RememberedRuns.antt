-- Runs that remember what was seen, with one more host, label or update.
use Rattle.std.proofs.Common.{◌≡◌, ◌-◌, ℕ, Bool, true, false, not, eqb, leb, cond, List, [], ◌∷◌, map, Option, Some, None, refl, ap, subst, ◌∙◌, inl, inr}
use Rattle.std.specs.Prelude.{filter}
use Rattle.std.specs.Str.{bytes_eq}
use Rattle.depot_base.specs.declared.proof.Proof.{Proof}
use Rattle.depot_base.specs.declared.statement.Signed.{Signed}
use Rattle.depot_base.specs.declared.update.Update.{Update}
use Rattle.depot_model.specs.journals.Journal.{accepted, update_in}
use Rattle.depot_model.specs.lists.Lists.{IsIn}
use Rattle.depot_model.specs.updates.Order.{parents, IsCausal}
use Rattle.depot_model.specs.texts.Texts.{IsSigned}
use Rattle.depot_model.proofs.lists.Members.{from_filter, from_map, in_pushed}
use Rattle.depot_schedule.specs.declared.member.Member.{Member}
use Rattle.depot_world.specs.Forgetting.{labels_without, with_labels}
use Rattle.depot_world.specs.Run.{PendingStop, Host, Labelled, NamedReader, Run, fresh_host, run_of, put_host, seen_with, with_label, with_host}
use Rattle.depot_requests.specs.Effects.{Effect}
use Rattle.depot_world.specs.ScheduleStops.{EventResult, journal_left, stopped_with, result_pending, result_by, event_result}
use Rattle.depot_world.specs.Setups.{Setup}
use Rattle.depot_simulation.specs.Playing.{WereSeen, IsRemembered}
use Rattle.depot_simulation.proofs.Remembered.{IdsWereSeen, were_stay_seen, all_are_seen, causal_come, stays_causal}

-- ---- hosts

-- what holds of a host and of those before holds of all, once it is in its place
pub each_put : (P : Host → Type 0) (s : Host) (ss : List Host) → P s → ((x : Host) → IsIn x ss → P x) → (x : Host) → IsIn x (put_host s ss) → P x
unfolding put_host
each_put P s [] one each x never = absurd never
each_put P s (t ∷ ss) one each x on = by_test (eqb t.correct.node s.correct.node) (each_put P s ss one (λ y there. each y (inr there)) x) on where
  by_test : (b : Bool) → (IsIn x (put_host s ss) → P x) → IsIn x (cond b (s ∷ ss) (t ∷ put_host s ss)) → P x
  by_test true rest (inl here) = subst P here one
  by_test true rest (inr there) = each x (inr there)
  by_test false rest (inl here) = each x (inl here)
  by_test false rest (inr there) = rest there

-- a host whose accepted updates follow their parents
pub host_remembers : (run : Run) (s : Host) → IsRemembered run → IsCausal [] (accepted s.correct.journal) → IsRemembered (with_host run s)
unfolding with_host
host_remembers run s r causal =
    let us = accepted s.correct.journal in
    record {
      causal = stays_causal run.seen us r.causal (causal_come run.seen us causal);
      accepted_were = each_put (λ (x : Host). WereSeen (seen_with run.seen us) (accepted x.correct.journal)) s run.hosts (all_are_seen run.seen us)
          (λ x on. were_stay_seen run.seen us (accepted x.correct.journal) (r.accepted_were x on));
      signed_are = r.signed_are;
      signed_were = λ m t on is. were_stay_seen run.seen us (update_in t.statement) (r.signed_were m t on is);
    }

-- ---- labels, updates and proofs

-- the statement that is signed, if one is, has a text, and its update was seen
pub record IsKept (seen : List Update) (signed : Option Signed) : Type 0 where
  pub fits : (s : Signed) → signed ≡ Some s → IsSigned s
  pub were : (s : Signed) → signed ≡ Some s → WereSeen seen (update_in s.statement)

pub none_is_kept : (seen : List Update) → IsKept seen None
none_is_kept seen = record { fits = λ s is. absurd cc; were = λ s is. absurd cc }

-- one label more
pub label_remembers : (run : Run) (new : Labelled) → IsRemembered run → IsKept run.seen new.signed → IsRemembered (with_label run new)
label_remembers run new r k = record {
  causal = r.causal;
  accepted_were = r.accepted_were;
  signed_are = λ m s on is. elim (in_pushed m run.labels new on) [
    | inl old ↦ r.signed_are m s old is
    | inr now ↦ k.fits s (ap (λ (x : Labelled). x.signed) now ∙ is)
  ];
  signed_were = λ m s on is. elim (in_pushed m run.labels new on) [
    | inl old ↦ r.signed_were m s old is
    | inr now ↦ k.were s (ap (λ (x : Labelled). x.signed) now ∙ is)
  ];
}

-- one label less
pub fewer_remember : (run : Run) (label : List ℕ) → IsRemembered run → IsRemembered (with_labels run (labels_without label run.labels))
fewer_remember run label r =
    let within : (m : Labelled) → IsIn m (labels_without label run.labels) → IsIn m run.labels = λ m on. (from_filter (λ (x : Labelled). not (bytes_eq x.label label)) m run.labels on).0 in
    record { causal = r.causal; accepted_were = r.accepted_were; signed_are = λ m s on is. r.signed_are m s (within m on) is; signed_were = λ m s on is. r.signed_were m s (within m on) is }

-- one update more, whose parents were seen
pub update_remembers : (run : Run) (u : Update) → IsRemembered run → IdsWereSeen run.seen (parents u) → IsRemembered (record run { seen = seen_with run.seen (u ∷ []) })
update_remembers run u r were = record {
  causal = stays_causal run.seen (u ∷ []) r.causal (were, tt);
  accepted_were = λ s on. were_stay_seen run.seen (u ∷ []) (accepted s.correct.journal) (r.accepted_were s on);
  signed_are = r.signed_are;
  signed_were = λ m s on is. were_stay_seen run.seen (u ∷ []) (update_in s.statement) (r.signed_were m s on is);
}

-- other proofs that were judged
pub judged_remembers : (run : Run) (judged : List Proof) → IsRemembered run → IsRemembered (record run { judged = judged })
judged_remembers run judged r = record { causal = r.causal; accepted_were = r.accepted_were; signed_are = r.signed_are; signed_were = r.signed_were }

-- other readers
pub readers_remember : (run : Run) (readers : List NamedReader) → IsRemembered run → IsRemembered (record run { readers = readers })
readers_remember run readers r = record { causal = r.causal; accepted_were = r.accepted_were; signed_are = r.signed_are; signed_were = r.signed_were }

-- ---- events of nodes

-- an event leaves its node's number
pub same_node : (s : Host) (d : Effect) → (event_result s d).host.correct.node ≡ s.correct.node
unfolding event_result
same_node s d = by_stop s.pending where
  by_call : (a : PendingStop) (b : Bool) → (cond b (stopped_with s (journal_left s.correct.journal d.journal a)) (result_by s (Some (record { call = a.call - d.calls; image = a.image })) d)).host.correct.node ≡ s.correct.node
  by_call a true = refl
  by_call a false = refl

  by_stop : (o : Option PendingStop) → (elim o as (λ x. EventResult) [ None ↦ result_by s None d | Some a ↦ result_pending s d a ]).host.correct.node ≡ s.correct.node
  by_stop None = refl
  by_stop (Some a) = by_call a (leb a.call d.calls)

-- ---- before the first event

begun_accepts_none : (setup : Setup) (ms : List Member) (s : Host) → IsIn s (map (λ (m : Member). fresh_host setup m.node) ms) → WereSeen [] (accepted s.correct.journal)
begun_accepts_none setup ms s on = let m = from_map (λ (y : Member). fresh_host setup y.node) s ms on in subst (λ (x : Host). WereSeen [] (accepted x.correct.journal)) m.1.1 tt

-- a run of which nothing happened yet
pub begun : (setup : Setup) (members : List Member) → IsRemembered (run_of setup members)
unfolding run_of IsCausal
begun setup members = record {
  causal = tt;
  accepted_were = begun_accepts_none setup (filter (λ (m : Member). m.correct) members);
  signed_are = λ m s never is. absurd never;
  signed_were = λ m s never is. absurd never;
}
