use Rattle.std.proofs.Common.{◌≡◌, ◌<◌, ◌≤◌, ◌⊎◌, Bool, false, IsTrue, List, [], append-nil, take, ℕ, refl, sym, ap, subst, ◌∙◌, arith, inl, inr}
use Rattle.std.proofs.lemmas.List.{take_all}
use Rattle.depot_base.specs.declared.record.Record.{Record}
use Rattle.depot_model.specs.checks.Checks.{Setting}
use Rattle.depot_model.specs.journals.Stops.{HasFront}
use Rattle.depot_model.proofs.of_journals.StopLaws.{idle_lasts}
use Rattle.depot_node.specs.Starting.{IsStartedFrom, birth_after, placed}
use Rattle.depot_node.proofs.StartLaws.{lawful_file_starts}
use Rattle.depot_outside.specs.Told.{disks, sinks}
use Rattle.depot_session.proofs.on_disks.RunImages.{either, has_from_key, refused_goes_on}
use Rattle.depot_source.specs.Inputs.{inputs}
use Rattle.depot_session.specs.Answering.{serves_at}
use Rattle.depot_session.specs.declared.kept_node.KeptNode.{KeptNode}
use Rattle.depot_session.proofs.of_serving.KeptGroups.{all_in_file}
use Rattle.depot_session.proofs.of_serving.NodesOnDisks.{ComesTo, birth_brought, comes_to}
use Rattle.depot_session.proofs.server_running.run_over.Given.{Over}
use Rattle.depot_session.proofs.server_running.run_over.Goals as goal
use Rattle.depot_session.proofs.server_running.run_over.Goals.{After-stay-ending}

pub returns-in-Err-clause-file : goal.returns-in-Err-clause-file
returns-in-Err-clause-file g c = λ told.
    let here : Setting = record { verifies = g.S.Scheme.verifies; me = c.args.me; listed = c.args.roster } in
    let e = c.in-Err.ensures in
    let start = e.disk.any_moment told in
    record {
      images = λ image left. refused_goes_on here (g.G.Signer.key_of c.args.signer) _ (g.D.Disk.seen c.args.disk) c.in-Err.field-0.error (g.D.Disk.may_leave c.args.disk) image c.entries-entries.ensures.roster e.refused
          (λ fault. g.met.D.Disk.only_now c.args.disk image (subst (λ d. g.D.Disk.left_since d (g.D.Disk.moment c.args.disk) image) (e.untouched fault) left)) (start.each image left);
      reads = g.met.D.Disk.counts_now c.in-Err.field-0.disk (g.D.Disk.moment c.args.disk) (g.D.Disk.seen c.in-Err.field-0.disk) start.later (g.met.D.Disk.reads_as_image c.in-Err.field-0.disk (subst (λ (b : Bool). IsTrue b) (sym e.disk.told) told));
    }

pub returns-in-Err-clause-answers : goal.returns-in-Err-clause-answers
returns-in-Err-clause-answers g c = record {
  over = λ told keyed J lawful has.
      let here : Setting = record { verifies = g.S.Scheme.verifies; me = c.args.me; listed = c.args.roster } in
      let e = c.in-Err.ensures in
      let start = e.disk.any_moment told in
      let back = c.in-Err.field-0.disk in
      let brought : (image : List ℕ) → g.D.Disk.left_since back (g.D.Disk.moment c.args.disk) image → g.D.Disk.may_leave c.args.disk image ⊎ HasFront J (birth_after here J) image = λ image left. birth_brought here J (g.D.Disk.seen c.args.disk) image (g.D.Disk.may_leave c.args.disk) has (start.each image left) in
      let after : (image : List ℕ) → g.D.Disk.may_leave back image → g.D.Disk.may_leave c.args.disk image ⊎ HasFront J (birth_after here J) image = λ image left. brought image (g.met.D.Disk.counts_now back (g.D.Disk.moment c.args.disk) image start.later left) in
      inl (record {
        unread = refl;
        error = c.in-Err.field-0.error;
        only = lawful_file_starts here (g.G.Signer.key_of c.args.signer) (g.D.Disk.tells c.args.disk) (g.D.Disk.seen c.args.disk) J c.in-Err.field-0.error told keyed has lawful e.refused;
        said = c.say_refused-ending.ensures.said;
        disk_failed = e.back.cause.rose;
        leaves = after;
        reads = after (g.D.Disk.seen back) (g.met.D.Disk.reads_as_image back (subst (λ (b : Bool). IsTrue b) (sym e.disk.told) told));
        grows = record { grown = birth_after here J; is = refl; moments = brought };
      });
}

pub stay-ending-requires-clause-kept : goal.stay-ending-requires-clause-kept
stay-ending-requires-clause-kept g c =
    let runs = c.in-Ok.ensures.node.runs in
    let x = c.detach-node.ensures in
    all_in_file _ g.D.Disk c.detach-node.result.node c.detach-node.result.disk c.detach-node.result.gate c.record_count-kept.result c.in-Ok.node.store.records (x.stopped ∙ runs) (λ told. cc) x.records c.record_count-kept.ensures x.gate (x.file runs) (x.stable runs)

-- what is left of the node is what is left on the disk
ran : (g : Over) (c : After-stay-ending g) → ComesTo (placed g.S.Scheme.verifies c.args.me c.args.roster) (g.G.Signer.key_of c.args.signer) (serves_at (placed g.S.Scheme.verifies c.args.me c.args.roster) (g.G.Signer.signature_of c.args.signer)) (disks g.D.Disk c.args.disk c.stay-ending.new.node.disk)
    (inputs g.I.Source c.args.input.now c.stay-ending.new.input) (c.stay-ending.new.input ≡ c.args.input.now) (sinks g.K.Sink c.args.out.now c.stay-ending.new.out) c.stay-ending.result
ran g c =
    let here : Setting = record { verifies = g.S.Scheme.verifies; me = c.args.me; listed = c.args.roster } in
    let e = c.in-Ok.ensures in
    let x = c.detach-node.ensures in
    let n = c.in-Ok.node in
    let old : KeptNode _ _ = record { node = c.detach-node.result.node; disk = c.detach-node.result.disk; gate = c.detach-node.result.gate; kept = c.record_count-kept.result; stopped = false } in
    let now = c.stay-ending.new.node.disk in
    let stay = c.stay-ending.ensures in
    let begin = g.D.Disk.moment c.args.disk in
    let is : c.detach-node.result.disk ≡ n.store.disk = x.disk in
    let records : take c.record_count-kept.result _ ≡ n.store.records = take_all _ _ (omega (arith, c.record_count-kept.ensures)) ∙ x.records in
    let told_start : IsTrue (g.D.Disk.tells c.args.disk) → IsTrue (g.D.Disk.tells n.store.disk) = λ told. subst (λ (b : Bool). IsTrue b) (sym e.disk.told) told in
    let told_then : IsTrue (g.D.Disk.tells c.args.disk) → IsTrue (g.D.Disk.tells c.detach-node.result.disk) = λ told. subst (λ d. IsTrue (g.D.Disk.tells d)) (sym is) (told_start told) in
    let told_now : IsTrue (g.D.Disk.tells c.args.disk) → IsTrue (g.D.Disk.tells now) = λ told. subst (λ (b : Bool). IsTrue b) (sym stay.lawful.lasts.told) (told_then told) in
    let began : IsTrue (g.D.Disk.tells c.args.disk) → begin ≤ g.D.Disk.moment c.detach-node.result.disk = λ told. subst (λ d. begin ≤ g.D.Disk.moment d) (sym is) (e.disk.any_moment told).later in
    comes_to _ here old c.stay-ending.new.node (disks g.D.Disk c.args.disk now) (record {
      told_first = told_then;
      told = told_now;
      from = λ told. subst (λ (J : List Record). IsStartedFrom here (g.D.Disk.seen c.args.disk) J) (sym records) (e.started.from told);
      began = began;
      past = omega arith;
      since = λ t image left. left;
      in_run = λ told more lasts image left. either (λ was. (e.disk.any_moment told).each image (subst (λ d. g.D.Disk.left_since d begin image) is was)) ((lasts.any_moment (told_then told) refl).before begin image (began told) left);
      leaves = λ image left. left;
      counts = λ t image late left. g.met.D.Disk.counts_now now t image late left;
      reads = λ told. g.met.D.Disk.reads_as_image now (told_now told);
      reads_in_run = λ told. (let only = stay.lawful.lasts.any_moment (told_then told) refl in let start = began told in g.met.D.Disk.counts_now now begin (g.D.Disk.seen now) (omega (arith, start, only.later)) (g.met.D.Disk.reads_as_image now (told_now told)));
      rose = λ rose. subst (λ (m : ℕ). m < g.D.Disk.faults now) (ap g.D.Disk.faults is ∙ e.started.calm) rose;
    }) (g.G.Signer.signature_of c.args.signer) (x.stands ∙ e.node.stands) (x.signs ∙ e.node.signs) (inputs g.I.Source c.args.input.now c.stay-ending.new.input) (c.stay-ending.new.input ≡ c.args.input.now) (sinks g.K.Sink c.args.out.now c.stay-ending.new.out) c.stay-ending.result
    stay.began (record { grown = []; is = sym (append-nil (take c.record_count-kept.result _)); lasts = idle_lasts _ (λ k file left. g.met.D.Disk.only_now k.disk file left) old [] stay.began.stable }) stay.stays _ stay.lawful stay.rests (g.G.Signer.key_of c.args.signer) e.node.keyed c.entries-entries.ensures.roster (has_from_key here (g.G.Signer.key_of c.args.signer) e.node.keyed)

pub returns-clause-file : goal.returns-clause-file
returns-clause-file g c = (ran g (goal.at.returns-clause-file g c).After-stay-ending).file

pub returns-clause-stable : goal.returns-clause-stable
returns-clause-stable g c = (ran g (goal.at.returns-clause-stable g c).After-stay-ending).stable

pub returns-clause-begins : goal.returns-clause-begins
returns-clause-begins g c = inr (ran g (goal.at.returns-clause-begins g c).After-stay-ending).begins

pub returns-clause-answers : goal.returns-clause-answers
returns-clause-answers g c = (ran g (goal.at.returns-clause-answers g c).After-stay-ending).answers

pub returns-clause-disk_fault : goal.returns-clause-disk_fault
returns-clause-disk_fault g c = λ rose. inl (c.stay-ending.ensures.disk_cause.only (subst (λ (m : ℕ). m < g.D.Disk.faults c.stay-ending.new.node.disk) (sym (ap g.D.Disk.faults c.detach-node.ensures.disk ∙ c.in-Ok.ensures.started.calm)) rose))

pub returns-clause-handle : goal.returns-clause-handle
returns-clause-handle g c = c.stay-ending.ensures.handle ∙ ap g.D.Disk.handle c.detach-node.ensures.disk ∙ c.in-Ok.ensures.disk.same
