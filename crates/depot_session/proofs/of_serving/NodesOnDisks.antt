-- A node on the disk of a run: what serving makes of the node, the run makes of the disk.
use Rattle.std.proofs.Common.{◌≡◌, ◌≢◌, ◌<◌, ◌≤◌, ◌⊎◌, ℕ, Bool, true, IsTrue, List, [], ◌++◌, append_assoc, append-nil, take, Some, Result, Ok, Err, refl, sym, ap, subst, ◌∙◌, arith, inl, inr}
use Rattle.depot_base.specs.File.{IsFileOf}
use Rattle.depot_base.specs.declared.key.PublicKey.{PublicKey}
use Rattle.depot_base.specs.declared.record.Record.{Record}
use Rattle.depot_streams.specs.Lasting.{LastsIn}
use Rattle.depot_model.specs.exchange.Bundle.{Signs}
use Rattle.depot_model.specs.checks.Checks.{Setting}
use Rattle.depot_model.specs.journals.JournalCalls.{Lasts}
use Rattle.depot_model.specs.journals.Lawful.{IsLawful}
use Rattle.depot_model.specs.journals.Replicas.{journal_of}
use Rattle.depot_laws.proofs.lists.Splits.{lawful_front}
use Rattle.depot_model.specs.texts.Roster.{has_node, key_of}
use Rattle.depot_model.specs.journals.Stops.{HasFront, HasRecords}
use Rattle.depot_model.specs.texts.Texts.{IsRoster}
use Rattle.depot_model.specs.declared.node_state.NodeState.{Ghosts}
use Rattle.depot_node.specs.Starting.{IsStartedFrom, StartLeaves, birth_after, started}
use Rattle.depot_node.proofs.StartLaws.{lawful_file_is_read}
use Rattle.depot_outside.specs.Told.{Disks, Sinks, Wrote}
use Rattle.depot_session.specs.SessionRuns.{HasFailed, KeepsFile, Settles}
use Rattle.depot_session.proofs.on_disks.LeftJournals.{all_there}
use Rattle.depot_session.proofs.on_disks.RunImages.{run_brings, run_goes_on, settled}
use Rattle.depot_source.specs.Inputs.{Inputs}
use Rattle.depot_service.specs.Answering.{Came, IsServing}
use Rattle.depot_session.specs.Answering.{ServesBody, came_of, serves_at, serves_of}
use Rattle.depot_session.specs.FirstMessages.{started_text}
use Rattle.depot_session.specs.ServerRuns.{AllAreLeft, AnswersInput, EndsByInput, EndsRunning, GrowsFromFile, IsLeftOn, IsServedShort, IsServedWhole, IsServerStarted, IsUnsaid, ServesJournal, StandsOn, ending_of_served}
use Rattle.depot_session.specs.Serving.{AllStayKept, FaultsRisen, GrowsToward, IsCutOff, RunsWith, ServesInput, ServesShort, ServesWhole, StaysKept, bodies_of, came_at, faults_risen, place_from}
use Rattle.depot_session.specs.Staying.{IsFirstSaid, IsLeftAlone, StaysBy, StaysWith}
use Rattle.depot_session.specs.declared.server_ending.ServeEnding.{ServeEnding}
use Rattle.depot_session.specs.declared.server_ending.ServeEnding.TheVariants as serve
use Rattle.depot_session.specs.declared.server_ending.ServerEnding.{ServerEnding}
use Rattle.depot_session.specs.declared.server_ending.ServerEnding.TheVariants as ending
use Rattle.depot_session.proofs.of_serving.ServerEndings.{no_other, served_not_another, served_not_unlawful}

-- A node was started from the disk of a run, and serves on it: a crash image of the disk, at a moment of the run or
-- after it, is one of the node, or was possible at the start.
pub record IsOnDisk {N : Type 0} (g : Ghosts N) (here : Setting) (old new : N) (disk : Disks) : Type 0 where
  pub told_first : IsTrue disk.tells → IsTrue (g.tells old)
  pub told : IsTrue disk.tells → IsTrue (g.tells new)
  pub from : IsTrue disk.tells → IsStartedFrom here disk.file (g.records old)
  pub began : IsTrue disk.tells → disk.moment_before ≤ g.moment old
  pub past : g.moment new ≤ disk.moment_after
  pub since : (t : ℕ) (image : List ℕ) → disk.left_since t image → g.left_since new t image
  pub in_run : IsTrue disk.tells → (more : List Record) → Lasts (journal_of g) old new more → (image : List ℕ) → disk.left_in_run image
      → StartLeaves here (IsFileOf disk.file []) disk.may_leave image ⊎ HasFront (g.records old) more image
  pub leaves : (image : List ℕ) → disk.may_leave_after image → g.may_leave new image
  pub counts : (t : ℕ) (image : List ℕ) → t ≤ g.moment new → g.may_leave new image → g.left_since new t image
  pub reads : IsTrue disk.tells → disk.may_leave_after disk.file_after
  pub reads_in_run : IsTrue disk.tells → disk.left_in_run disk.file_after
  pub rose : g.faults old < g.faults new → HasFailed disk

-- the outcome of the run of a started node
pub record ComesTo (here : Setting) (key : PublicKey) (f : ServesBody) (disk : Disks) (input : Inputs) (same_input : Type 0) (sink : Sinks) (e : ServerEnding) : Type 0 where
  pub file : IsTrue disk.tells → KeepsFile here disk
  pub stable : IsTrue disk.tells → EndsByInput e → Settles here disk
  pub begins : IsServerStarted here key f disk input same_input sink e
  pub answers : AnswersInput here key f disk input same_input sink e

-- what cut a run short, for another way to keep journals, and for counts that rose with these
cut_on : (A B : List Record → Type 0) → ((K : List Record) → A K → B K) → (r s : FaultsRisen) → (r.disk → s.disk) → (r.source → s.source) → (r.sink → s.sink) → (J : List Record) (comes : Came) (next : List _) (behind last : List ℕ) (over : Bool) (place : ℕ) (e : ServeEnding)
    → IsCutOff A J comes next behind last over r place e → IsCutOff B J comes next behind last over s place e
cut_on A B so r s disk source sink J comes next behind last over place serve.Memory c = c
cut_on A B so r s disk source sink J comes next behind last over place serve.Source c = (source c.0, record { unbegun = c.1.unbegun; untold = c.1.untold; stands = so J c.1.stands; part = c.1.part })
cut_on A B so r s disk source sink J comes next behind last over place serve.Disk c = (c.0, (c.1.0, disk c.1.1))
cut_on A B so r s disk source sink J comes next behind last over place serve.Sink c = (sink c.0, record { begun = c.1.begun; stands = so comes.journal c.1.stands; count = c.1.count; front = c.1.front })
cut_on A B so r s disk source sink J comes next behind last over place (serve.Input at within) c =
    record { at_place = c.at_place; unbegun = c.unbegun; untold = c.untold; stands = so J c.stands; came = c.came }

-- a text after the first message
behind_first : (whole behind : Sinks) (first text : List ℕ) → IsFirstSaid whole behind first → Wrote behind text → Wrote whole (first ++ text)
behind_first whole behind first text said wrote told =
    said.after ∙ wrote (subst (λ (b : Bool). IsTrue b) (sym said.tells) told) ∙ ap (λ (s : List ℕ). s ++ text) (said.first told) ∙ append_assoc whole.before first text

-- a run that ended by its input ended with a node that ran
ends_running : (e : ServerEnding) → EndsByInput e → EndsRunning e
ends_running ending.Done by = tt
ends_running ending.Source by = tt
ends_running (ending.Input at within) by = tt
ends_running other by = absurd by

-- a node that was started ends by nothing that its start doesn't end by and serving doesn't
stays_unlike : {N : Type 0} (g : Ghosts N) (first : List ℕ) (f : ServesBody) (old new : N) (input : Inputs) (same_input : Type 0) (sink : Sinks) (e other : ServerEnding) → (IsUnsaid sink first other → ⊥) → ((r : Result (Unit {0}) ServeEnding) → ending_of_served r ≢ other)
    → StaysBy g first f old new input same_input sink e → e ≢ other
stays_unlike g first f old new input same_input sink e other unsaid unserved (inl alone) is = no_other sink first e other unsaid alone.unsaid is
stays_unlike g first f old new input same_input sink e other unsaid unserved (inr s) is = unserved s.served (sym s.ending_is ∙ is)

-- a start that was refused brings no more than a birth
pub birth_brought : (here : Setting) (J : List Record) (file image : List ℕ) (before : List ℕ → Type 0) → HasRecords J file → StartLeaves here (IsFileOf file []) before image → before image ⊎ HasFront J (birth_after here J) image
birth_brought here J file image before has start =
    subst (λ (b : List Record). before image ⊎ HasFront J b image) (append-nil (birth_after here J)) (run_brings here J (started here J) [] file image before has refl (inl start))

module _ {N : Type 0} (g : Ghosts N) (here : Setting) (old new : N) (disk : Disks) (on : IsOnDisk g here old new disk) where
  -- ---- crash images

  stands_so : (K : List Record) → RunsWith g new K → StandsOn disk K
  stands_so K r told =
      let there : (image : List ℕ) → disk.may_leave_after image → HasRecords K image =
      λ image left. subst (λ (x : List Record). HasRecords x image) r.journal (all_there (g.records new) image (r.running.stable (on.told told) image (on.leaves image left))) in
      record { leaves = there; reads = there disk.file_after (on.reads told) }

  grows_so : (then : List Record) → GrowsToward g old new then → GrowsFromFile here disk then
  grows_so then b told J lawful has =
      let at : g.records old ≡ started here J = lawful_file_is_read here disk.file J (g.records old) has lawful (on.from told) in
      record {
        grown = birth_after here J ++ b.grown;
        is = b.is ∙ ap (λ (x : List Record). x ++ b.grown) at ∙ append_assoc J (birth_after here J) b.grown;
        moments = λ image left. run_brings here J (g.records old) b.grown disk.file image disk.may_leave has at (on.in_run told b.grown b.lasts image left);
      }

  left_so : (J then : List Record) → StaysKept g old new J then → IsTrue disk.tells → IsLeftOn disk J then
  left_so J then kept told =
      let since = kept.left (on.told told) in
      let began = on.began told in
      let past = on.past in
      let after : (image : List ℕ) → disk.may_leave_after image → HasFront J kept.more image = λ image left. since.left image (on.counts kept.moment image since.past (on.leaves image left)) in
      record {
        moment = kept.moment;
        more = kept.more;
        is = kept.is;
        left = record {
          began = omega (arith, began, since.began);
          past = omega (arith, past, since.past);
          left = λ image left. since.left image (on.since kept.moment image left);
          leaves = after;
          reads = after disk.file_after (on.reads told);
        };
      }

  all_left : (f : ServesBody) (done : List _) (then : List Record) → AllStayKept g f old new done then → AllAreLeft f (g.records old) disk done then
  all_left f done then kept told k le = left_so (came_at g f old (take k done)).journal then (kept k le) told

  -- ---- what was served

  module _ (f : ServesBody) (input : Inputs) (sink : Sinks) (e : ServerEnding) (behind : Sinks) (said : IsFirstSaid sink behind (started_text here (g.records old))) where
    whole : e ≡ ending_of_served (Ok tt) → ServesWhole g f old new input behind → IsServedWhole here f (g.records old) disk input sink e
    whole is w = record {
      done = w.done;
      ending_is = is;
      each = w.answered.each;
      given = w.answered.given;
      over = w.over;
      wrote = behind_first sink behind (started_text here (g.records old)) (came_at g f old w.done).text said w.answered.wrote;
      stands = stands_so (came_at g f old w.done).journal (record { running = w.answered.running; journal = w.answered.journal });
      grows = grows_so (came_at g f old w.done).journal w.answered.brings;
      kept = all_left f w.done (came_at g f old w.done).journal w.answered.kept;
    }

    -- what failed after the first message failed in the run
    sink_rose : behind.faults_before < behind.faults_after → sink.faults_before < sink.faults_after
    sink_rose rose = let calm = said.calm in let faults = said.faults in omega (arith, calm, faults, rose)

    short : (why : ServeEnding) → e ≡ ending_of_served (Err why) → ServesShort g f old new input behind 0 why → IsServedShort here f (g.records old) disk input sink e
    short why is s =
        let K = (came_at g f old s.done).journal in
        record {
          done = s.done;
          why = why;
          ending_is = is;
          each = s.each;
          breaks = record {
            next = s.breaks.next;
            behind = s.breaks.behind;
            next_is = s.breaks.next_is;
            given = s.breaks.given;
            last = s.breaks.last;
            cut = cut_on (RunsWith g new) (StandsOn disk) stands_so (faults_risen (g.faults old) (g.faults new) input behind) (faults_risen disk.faults_before disk.faults_after input sink) on.rose (λ rose. rose) sink_rose
                K (came_of f K (bodies_of s.breaks.next)) s.breaks.next s.breaks.behind s.breaks.last input.over (place_from 0 s.done) why s.breaks.cut;
          };
          wrote = behind_first sink behind (started_text here (g.records old)) ((came_at g f old s.done).text ++ s.breaks.last) said s.wrote;
          grows = grows_so (came_of f K (bodies_of s.breaks.next)).journal s.brings;
          kept = all_left f s.done (came_of f K (bodies_of s.breaks.next)).journal s.kept;
        }

    served_so : (same_input : Type 0) (r : Result (Unit {0}) ServeEnding) → e ≡ ending_of_served r → ServesInput g f old new input behind r → ServesJournal here f (g.records old) disk input same_input sink e
    served_so same_input (Ok done) is w = inr (inl (whole is w))
    served_so same_input (Err why) is s = inr (inr (short why is s))

  -- nothing was done
  unsaid_so : (f : ServesBody) (input : Inputs) (same_input : Type 0) (sink : Sinks) (e : ServerEnding) → IsServing g old → GrowsToward g old old (g.records old) → IsLeftAlone (started_text here (g.records old)) old new same_input sink e → ServesJournal here f (g.records old) disk input same_input sink e
  unsaid_so f input same_input sink e running idle alone = inl (record {
    unread = alone.unread;
    unsaid = alone.unsaid;
    stands = stands_so (g.records old) (subst (λ (n : N). RunsWith g n (g.records old)) (sym alone.same) (record { running = running; journal = refl }));
    grows = grows_so (g.records old) (subst (λ (n : N). GrowsToward g old n (g.records old)) (sym alone.same) idle);
  })

  stayed_by : (f : ServesBody) (input : Inputs) (same_input : Type 0) (sink : Sinks) (e : ServerEnding) → IsServing g old → GrowsToward g old old (g.records old) → StaysBy g (started_text here (g.records old)) f old new input same_input sink e → ServesJournal here f (g.records old) disk input same_input sink e
  stayed_by f input same_input sink e running idle (inl alone) = unsaid_so f input same_input sink e running idle alone
  stayed_by f input same_input sink e running idle (inr s) = served_so f input sink e s.behind s.said same_input s.served s.ending_is s.serves

  -- ---- what was said, served and left

  module _ (sign : Signs) (stands : g.stands old ≡ here) (signs : g.signature_of old ≡ sign) (input : Inputs) (same_input : Type 0) (sink : Sinks) (e : ServerEnding) (running : IsServing g old) (idle : GrowsToward g old old (g.records old))
      (stays : StaysWith g old new input same_input sink e) (failed : Type 0) (lasts : LastsIn g failed old new) (rests : EndsRunning e → IsServing g new) where
    lawful : IsLawful here (g.records old ++ lasts.appends)
    lawful = subst (λ (h : Setting). IsLawful h (g.records old ++ lasts.appends)) stands lasts.is.lawful

    serves : ServesJournal here (serves_at here sign) (g.records old) disk input same_input sink e
    serves =
        let so_here = subst (λ (h : Setting). StaysBy g (started_text h (g.records old)) (serves_at h (g.signature_of old)) old new input same_input sink e) stands stays in
        stayed_by (serves_at here sign) input same_input sink e running idle (subst (λ (x : Signs). StaysBy g (started_text here (g.records old)) (serves_at here x) old new input same_input sink e) signs so_here)

    -- a crash image extends the file
    file_kept : IsTrue disk.tells → IsRoster here.listed → has_node here.listed here.me ≡ true → KeepsFile here disk
    file_kept told formed member = record {
      images = λ image left. run_goes_on here disk.file image (g.records old) lasts.appends disk.may_leave formed member (on.from told) lawful lasts.is.receipts (on.in_run told lasts.appends lasts.lasts image left);
      reads = on.reads_in_run told;
    }

    -- where the node ran on to the end, a journal is settled
    settles : IsTrue disk.tells → EndsRunning e → Settles here disk
    settles told ends =
        let at = stands_so (g.records new) (record { running = rests ends; journal = refl }) told in
        settled here disk (g.records old) lasts.appends (g.records new) lasts.is.count (on.from told) lawful lasts.is.receipts lasts.is.front at.reads at.leaves

    -- the run begins so
    begun : (key : PublicKey) → key_of here.listed here.me ≡ Some key → IsServerStarted here key (serves_at here sign) disk input same_input sink e
    begun key keyed = record {
      keyed = keyed;
      journal = g.records old;
      lawful = lawful_front here (g.records old) lasts.appends lawful;
      from = on.from;
      serves = serves;
      rests = settles;
      never_unlawful = stays_unlike g (started_text (g.stands old) (g.records old)) (serves_of g old) old new input same_input sink e ending.NotLawful (λ never. never) served_not_unlawful stays;
      never_another = stays_unlike g (started_text (g.stands old) (g.records old)) (serves_of g old) old new input same_input sink e ending.Identity (λ never. never) served_not_another stays;
    }

    -- and answers so
    answered : (key : PublicKey) → AnswersInput here key (serves_at here sign) disk input same_input sink e
    answered key = record {
      over = λ told keyed J lawful has. inr (subst (λ (K : List Record). ServesJournal here (serves_at here sign) K disk input same_input sink e) (lawful_file_is_read here disk.file J (g.records old) has lawful (on.from told)) serves);
    }

    -- that is the run's outcome
    pub comes_to : (key : PublicKey) → key_of here.listed here.me ≡ Some key → IsRoster here.listed → has_node here.listed here.me ≡ true → ComesTo here key (serves_at here sign) disk input same_input sink e
    comes_to key keyed formed member = record {
      file = λ told. file_kept told formed member;
      stable = λ told ends. settles told (ends_running e ends);
      begins = begun key keyed;
      answers = answered key;
    }
