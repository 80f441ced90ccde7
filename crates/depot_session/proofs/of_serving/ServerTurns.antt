-- One turn, from what was read, replied and written.
use Rattle.std.proofs.Common.{◌≡◌, ◌<◌, ℕ, Bool, true, false, IsTrue, List, [], ◌∷◌, ◌++◌, append-nil, length, take, Option, Some, Err, refl, sym, ap, subst, ◌∙◌, arith}
use Rattle.std.specs.Prelude.{is_some}
use Rattle.depot_base.specs.declared.record.Record.{Record}
use Rattle.depot_streams.specs.Lasting.{LastsIn}
use Rattle.depot_streams.proofs.LastingStreams.{lasts_so, nothing_in}
use Rattle.depot_model.specs.journals.Lawful.{IsLawful}
use Rattle.depot_model.specs.journals.Replicas.{journal_of}
use Rattle.depot_model.specs.journals.Stops.{LeavesAll}
use Rattle.depot_model.specs.declared.node_state.NodeState.{Ghosts}
use Rattle.depot_model.proofs.of_journals.StopLaws.{idle_lasts}
use Rattle.depot_outside.specs.Told.{Sinks, Wrote}
use Rattle.depot_service.specs.declared.asked.Asked.{Asked}
use Rattle.depot_service.specs.Bodies.{asked_of_body}
use Rattle.depot_source.specs.Inputs.{Inputs}
use Rattle.depot_source.specs.Messages.{text_of_message}
use Rattle.depot_source.specs.Pieces.{GivesMore}
use Rattle.depot_service.specs.Answering.{Came, IsAskedCall, IsServing, came_by}
use Rattle.depot_session.specs.Answering.{ServesBody, came_of_found, serves_of}
use Rattle.depot_session.specs.Hearing.{FailsWithin, HasHeardRequest, HearsRequest, NoRequestCame}
use Rattle.depot_session.specs.Serving.{AreAsking, GrowsToward, HasAnswered, IsAsking, IsTurnShort}
use Rattle.depot_session.specs.declared.server_ending.ServeEnding.{ServeEnding}
use Rattle.depot_session.specs.declared.server_ending.ServeEnding.TheVariants as ending
use Rattle.depot_session.specs.declared.request_hearing.Heard.{Heard}
use Rattle.depot_session.proofs.of_serving.SameNodes.{same_before}

-- ---- a node to which nothing was done

module _ {N : Type 0} (g : Ghosts N) (only_now : (n : N) (file : List ℕ) → g.left_since n (g.moment n) file → g.may_leave n file) (lawful : (n : N) → IsLawful (g.stands n) (g.records n)) where
  left_all : (n : N) → IsServing g n → IsTrue (g.tells n) → LeavesAll (g.records n) (g.stopped n) (g.may_leave n)
  left_all n running told = subst (λ (b : Bool). LeavesAll (g.records n) b (g.may_leave n)) (sym running.runs) (running.stable told)

  pub grows_by_nothing : (n : N) → IsServing g n → GrowsToward g n n (g.records n)
  grows_by_nothing n running = record {
    grown = [];
    is = sym (append-nil (g.records n));
    lasts = idle_lasts (journal_of g) only_now n [] (left_all n running);
  }

  pub lawful_by_nothing : (failed : Type 0) (n : N) → IsServing g n → LastsIn g failed n n
  lawful_by_nothing failed n running = nothing_in g only_now failed n (lawful n) (left_all n running)

-- ---- a node that was asked

pub grows_asked : {N : Type 0} (g : Ghosts N) (old new : N) (then : List Record) (failed : Type 0) → IsAskedCall g old new then failed → GrowsToward g old new then
grows_asked g old new then failed call = record { grown = call.appends; is = call.brings; lasts = call.lasts }

pub serves_on : {N : Type 0} (g : Ghosts N) (old new : N) (then : List Record) (failed : Type 0) → IsAskedCall g old new then failed → (failed → ⊥) → IsServing g new
serves_on g old new then failed call well =
    let runs = call.runs well in
    record { runs = runs; stable = λ told. subst (λ (b : Bool). LeavesAll (g.records new) b (g.may_leave new)) runs (call.lasts.stable told) }

-- the outcome of a found request at a node
pub comes_to : {N : Type 0} (g : Ghosts N) (old : N) (body : List ℕ) (a : Asked) → asked_of_body body ≡ Some a → serves_of g old (g.records old) body ≡ came_by (g.stands old) (g.signature_of old) (g.records old) a
comes_to g old body a found = ap (λ (o : Option Asked). came_of_found (g.stands old) (g.signature_of old) (g.records old) o) found

pub asking : (input : Inputs) (heard : Heard) (h : HasHeardRequest input heard) → IsAsking h.message
asking input heard h = record { is = h.is; asks = ap is_some h.asked }

-- where nothing was written
pub none_written : (sink : Sinks) → sink.after ≡ sink.before → Wrote sink []
none_written sink same = λ told. same ∙ sym (append-nil sink.before)

-- a request alone
alone_asks : (input : Inputs) (heard : Heard) (h : HasHeardRequest input heard) → AreAsking (h.message ∷ [])
alone_asks input heard h = (asking input heard h, tt)

-- and its text
alone : (text : List ℕ) → text ≡ (text ++ []) ++ []
alone text = sym (append-nil (text ++ []) ∙ append-nil text)

-- ---- nothing was begun

module _ {N : Type 0} (g : Ghosts N) (only_now : (n : N) (file : List ℕ) → g.left_since n (g.moment n) file → g.may_leave n file) (lawful : (n : N) → IsLawful (g.stands n) (g.records n)) (f : ServesBody) (n : N) (input : Inputs) (sink : Sinks) (place : ℕ) (running : IsServing g n) (same : sink.after ≡ sink.before) where
  -- no memory was found
  none_heard : GivesMore input.before input.after → IsTurnShort g f n n input sink place ending.Memory
  none_heard more = record {
    breaks = record { next = []; behind = more.0; next_is = (tt, (more.0, refl)); given = more.1; last = []; cut = refl };
    wrote = none_written sink same;
    same = same_before g n;
    brings = grows_by_nothing g only_now lawful n running;
    lawful = lawful_by_nothing g only_now lawful _ n running;
  }

  -- the source failed
  source_failed : FailsWithin input → IsTurnShort g f n n input sink place ending.Source
  source_failed failed = record {
    breaks = record { next = []; behind = failed.behind; next_is = (tt, (failed.behind, refl)); given = failed.given; last = []; cut = (failed.rose, record { unbegun = refl; untold = refl; stands = record { running = running; journal = refl }; part = failed.part }) };
    wrote = none_written sink same;
    same = same_before g n;
    brings = grows_by_nothing g only_now lawful n running;
    lawful = lawful_by_nothing g only_now lawful _ n running;
  }

  -- what came is no request
  not_asked : (at within : ℕ) → at ≡ place → (behind : List ℕ) × ((input.after ≡ input.before ++ behind) × NoRequestCame input.over behind within) → IsTurnShort g f n n input sink place (ending.Input at within)
  not_asked at within here came = record {
    breaks = record {
      next = [];
      behind = came.0;
      next_is = (tt, (came.0, refl));
      given = came.1.0;
      last = [];
      cut = record { at_place = here; unbegun = refl; untold = refl; stands = record { running = running; journal = refl }; came = came.1.1 };
    };
    wrote = none_written sink same;
    same = same_before g n;
    brings = grows_by_nothing g only_now lawful n running;
    lawful = lawful_by_nothing g only_now lawful _ n running;
  }

  -- whatever kept a request from being heard
  pub unheard : (first : Bool) (e : ServeEnding) → HearsRequest first input place (Err e) → IsTurnShort g f n n input sink place e
  unheard first ending.Memory more = none_heard more
  unheard first ending.Source failed = source_failed failed
  unheard first (ending.Input at within) came = not_asked at within came.0 came.1
  unheard first ending.Disk never = absurd never
  unheard first ending.Sink never = absurd never

-- ---- a request was begun

module _ {N : Type 0} (g : Ghosts N) (old new : N) (input : Inputs) (sink : Sinks) (place : ℕ) (heard : Heard) (h : HasHeardRequest input heard) (failed : Type 0)
    (call : IsAskedCall g old new (came_by (g.stands old) (g.signature_of old) (g.records old) heard.asked).journal failed) where
  abbrev f : ServesBody
  f = serves_of g old

  abbrev came : Came
  came = came_by (g.stands old) (g.signature_of old) (g.records old) heard.asked

  is : f (g.records old) h.message.body ≡ came
  is = comes_to g old h.message.body heard.asked h.asked

  grows : GrowsToward g old new (f (g.records old) h.message.body).journal
  grows = subst (λ (c : Came). GrowsToward g old new c.journal) (sym is) (grows_asked g old new _ failed call)

  -- and no memory was found for it, or for its reply
  pub begun_in_vain : (failed → ending.Memory ≡ ending.Disk) → Wrote sink [] → IsTurnShort g f old new input sink place ending.Memory
  begun_in_vain so wrote = record {
    breaks = record { next = h.message ∷ []; behind = text_of_message h.message; next_is = (alone_asks input heard h, ([], alone (text_of_message h.message))); given = h.given; last = []; cut = refl };
    wrote = wrote;
    same = call.same;
    brings = grows;
    lawful = lasts_so g failed _ old new so call.lawful;
  }

  -- and the disk failed
  pub disk_failed : g.faults old < g.faults new → Wrote sink [] → IsTurnShort g f old new input sink place ending.Disk
  disk_failed rose wrote = record {
    breaks = record { next = h.message ∷ []; behind = text_of_message h.message; next_is = (alone_asks input heard h, ([], alone (text_of_message h.message))); given = h.given; last = []; cut = (omega arith, (refl, rose)) };
    wrote = wrote;
    same = call.same;
    brings = grows;
    lawful = lasts_so g failed _ old new (λ x. refl) call.lawful;
  }

  module _ (well : failed → ⊥) (text : List ℕ) (comes : came ≡ record { journal = g.records new; text = text }) where
    both : f (g.records old) h.message.body ≡ record { journal = g.records new; text = text }
    both = is ∙ comes

    journal_is : g.records new ≡ (f (g.records old) h.message.body).journal
    journal_is = sym (ap (λ (c : Came). c.journal) both)

    text_is : text ≡ (f (g.records old) h.message.body).text
    text_is = sym (ap (λ (c : Came). c.text) both)

    with_front : sink.faults_before < sink.faults_after → (n : ℕ) → Wrote sink (take n text) → IsTurnShort g f old new input sink place ending.Sink
    with_front rose n wrote = record {
      breaks = record {
        next = h.message ∷ [];
        behind = text_of_message h.message;
        next_is = (alone_asks input heard h, ([], alone (text_of_message h.message)));
        given = h.given;
        last = take n text;
        cut = (
          rose,
          record {
            begun = omega arith;
            stands = record { running = serves_on g old new _ failed call well; journal = journal_is };
            count = n;
            front = ap (take n) (text_is ∙ sym (append-nil (f (g.records old) h.message.body).text));
          },
        );
      };
      wrote = wrote;
      same = call.same;
      brings = grows;
      lawful = lasts_so g failed _ old new (λ x. absurd (well x)) call.lawful;
    }

    -- a prefix of its reply was written; if the sink's text isn't visible, it doesn't matter which
    pub half_told : sink.faults_before < sink.faults_after → (IsTrue sink.tells → (n : ℕ) × (sink.after ≡ sink.before ++ take n text)) → IsTurnShort g f old new input sink place ending.Sink
    half_told rose front = by_telling sink.tells refl where
      by_telling : (b : Bool) → sink.tells ≡ b → IsTurnShort g f old new input sink place ending.Sink
      by_telling true told = let w = front told in with_front rose w.0 (λ t. w.1)
      by_telling false told = with_front rose 0 (λ t. let wrong : false ≡ true = subst (λ (x : Bool). IsTrue x) told t in absurd cc)

    -- and it was answered
    answered : Wrote sink text → HasAnswered g f old new input sink
    answered wrote = record {
      message = h.message;
      asks = asking input heard h;
      given = h.given;
      wrote = subst (Wrote sink) text_is wrote;
      journal = journal_is;
      same = call.same;
      running = serves_on g old new _ failed call well;
      brings = grows;
      lawful = lasts_so g failed ⊥ old new well call.lawful;
    }

    -- its message is so long
    pub answered_long : Wrote sink text → (a : HasAnswered g f old new input sink) × (heard.long ≡ length (text_of_message a.message))
    unfolding answered
    answered_long wrote = (answered wrote, h.long)
