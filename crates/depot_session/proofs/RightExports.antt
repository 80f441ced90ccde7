-- What a run exports is a right trace.
use Rattle.std.proofs.Common.{◌≡◌, ◌≤◌, ℕ, zero, suc, List, [], ◌∷◌, map, take, drop, take-append-drop, refl, sym, ap, subst, ◌∙◌, arith, inl, inr}
use Rattle.std.proofs.lemmas.Slice.Eq.{bytes_eq-Decides}
use Rattle.std.specs.List.{AllByRecursion}
use Rattle.depot_base.specs.declared.record.Record.{Record}
use Rattle.depot_base.specs.declared.update.Update.{Update}
use Rattle.depot_laws.proofs.records.Causes.{lawful_is_causal}
use Rattle.depot_laws.proofs.lists.Splits.{lawful_front}
use Rattle.depot_model.proofs.of_updates.LatestLaws.{one_latest_list}
use Rattle.depot_model.proofs.of_updates.LatestWrites.{latest_are_listed}
use Rattle.depot_model.specs.exchange.Bundle.{Signs}
use Rattle.depot_model.specs.checks.Checks.{Setting}
use Rattle.depot_model.specs.journals.Journal.{accepted, seen_under}
use Rattle.depot_model.specs.updates.LatestList.{latest_in}
use Rattle.depot_model.specs.journals.Lawful.{IsLawful}
use Rattle.depot_model.specs.lists.Lists.{IsIn}
use Rattle.depot_model.specs.updates.Order.{Precedes}
use Rattle.depot_model.specs.worlds.Traces.{AreRightReads, IsRightRead, answered}
use Rattle.depot_model.specs.worlds.World.{IsCorrect, IsRead, NeverFall, Read, Shown}
use Rattle.depot_script.specs.declared.command.Command.TheVariants as command
use Rattle.depot_session.specs.Exports.{HasExported}
use Rattle.depot_session.specs.SessionRuns.{world_at}
use Rattle.depot_session.specs.Sessions.{Session, reads_of_run, step_of, trace_of_run}
use Rattle.depot_world.specs.Audits.{traced_read}

-- ---- one read

-- what was shown of these updates is what the journal shows of them
shown_are : (J : List Record) (key : List ℕ) (answer : List Shown) → ((s : Shown) → IsIn s answer → s.seen ≡ seen_under J key s.update)
    → map answered answer ≡ map answered (map (λ u. record { update = u; seen = seen_under J key u }) (map (λ (s : Shown). s.update) answer))
shown_are J key [] each = refl
shown_are J key (s ∷ rest) each = λ i. answered (record { update = s.update; seen = each s (inl refl) i }) ∷ shown_are J key rest (λ t on. each t (inr on)) i

is_right : (here : Setting) (J : List Record) (last : ℕ) (r : Read) → IsLawful here J → last ≤ r.at → IsRead J r → IsRightRead J last (traced_read r)
is_right here J last r lawful later is =
    let K = take r.at J in
    let front = lawful_front here K (drop r.at J) (subst (λ (x : List Record). IsLawful here x) (sym (take-append-drop r.at J)) lawful) in
    let us = accepted K in
    record {
      begun = is.begun;
      later = later;
      within = is.within;
      answer = shown_are K r.key r.answer is.values ∙ ap (λ (xs : List Update). map answered (map (λ u. record { update = u; seen = seen_under K r.key u }) xs))
          (one_latest_list r.key (λ u. IsIn u us) (Precedes us) (map (λ (s : Shown). s.update) r.answer) (latest_in r.key us) is.latest (latest_are_listed r.key us (lawful_is_causal here K front)));
    }

-- ---- the reads of a run

-- what follows so many of them never falls either
rest_never_falls : (n : ℕ) (rs : List Read) → NeverFall rs → NeverFall (drop n rs)
rest_never_falls zero rs all = all
rest_never_falls (suc n) [] all = tt
rest_never_falls (suc n) (r ∷ rs) all = rest_never_falls n rs all.1

rest_are_reads : (J : List Record) (n : ℕ) (rs : List Read) → ((r : Read) → IsIn r rs → IsRead J r) → (r : Read) → IsIn r (drop n rs) → IsRead J r
rest_are_reads J zero rs each r on = each r on
rest_are_reads J (suc n) [] each r on = absurd on
rest_are_reads J (suc n) (x ∷ rs) each r on = rest_are_reads J n rs (λ y there. each y (inr there)) r on

are_right : (here : Setting) (J : List Record) (last : ℕ) (rs : List Read) → IsLawful here J → AllByRecursion (λ (r : Read). last ≤ r.at) rs → NeverFall rs → ((r : Read) → IsIn r rs → IsRead J r) → AreRightReads J last (map traced_read rs)
are_right here J last [] lawful later ordered each = tt
are_right here J last (r ∷ rs) lawful later ordered each = (is_right here J last r lawful later.0 (each r (inl refl)), are_right here J r.at rs lawful ordered.0 ordered.1 (λ x on. each x (inr on)))

-- none is before the first record
from_none : (rs : List Read) → AllByRecursion (λ (r : Read). 0 ≤ r.at) rs
from_none [] = tt
from_none (r ∷ rs) = (omega arith, from_none rs)

-- ---- the trace

pub exported : (here : Setting) (sign : Signs) (s : Session) (name : List ℕ) → IsCorrect (world_at here) s.correct → HasExported here s (step_of here sign s (command.Export name)).session.files name
unfolding step_of
exported here sign s name is = record {
  trace = trace_of_run s;
  node = refl;
  stored = rw ((bytes_eq-Decides name name).1 refl) refl;
  texts = record { lawful = is.lawful; are = refl };
  reads = are_right (record { verifies = here.verifies; me = s.correct.node; listed = here.listed }) s.correct.journal 0 (reads_of_run s) is.lawful (from_none (reads_of_run s)) (rest_never_falls s.earlier s.correct.reads is.in_order) (rest_are_reads s.correct.journal s.earlier s.correct.reads is.reads);
}
