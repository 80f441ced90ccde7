-- What feeding bytes makes of a node.
use Rattle.std.proofs.Common.{◌≡◌, ◌↔◌, ℕ, true, false, List, [], ◌++◌, append_assoc, Result, Ok, sym, ap, subst, ◌∙◌}
use Rattle.std.specs.Prelude.{IsErrOf}
use Rattle.std.proofs.lemmas.List.{append-nil}
use Rattle.depot_base.specs.Calls.{Made}
use Rattle.depot_base.specs.declared.record.Record.{Record}
use Rattle.depot_model.specs.exchange.Feeding.{Feeding, fed, fed_frame}
use Rattle.depot_model.specs.texts.Frames.{Frame}
use Rattle.depot_model.specs.journals.JournalCalls.{IsStable}
use Rattle.depot_model.specs.journals.Lawful.{IsLawful}
use Rattle.depot_model.specs.journals.Replicas.{journal_of}
use Rattle.depot_model.specs.declared.node_state.NodeState.{Ghosts}
use Rattle.depot_model.proofs.of_journals.FeedGrowth.{feed_grows}
use Rattle.depot_streams.specs.declared.feed_error.FeedError.{FeedError}
use Rattle.depot_streams.specs.declared.feed_error.FeedError.TheVariants as error
use Rattle.depot_streams.specs.Lasting.{IsLawfulCall}
use Rattle.depot_streams.specs.NodeCalls.{IsFeedCall, IsFrameCall}
use Rattle.depot_streams.proofs.FeedRecords.{taken_brings, chunk_brings}
use Rattle.depot_model.proofs.of_journals.JournalCallLaws.{never_stopped, runs_on}
use Rattle.depot_streams.proofs.LawfulCalls.{idle_on, joined_on, renamed_on}
use Rattle.depot_streams.proofs.PieceLaws.{IsUnderWay}

module _ {N : Type 0} (g : Ghosts N) where
  -- nothing was done, whatever the bytes bring
  pub nothing_fed : {X : Type 0} {result : Result X FeedError} → ((n : N) (file : List ℕ) → g.left_since n (g.moment n) file → g.may_leave n file) → ((n : N) → g.after n [] n)
      → (s : Feeding) (bytes : List ℕ) (n : N) → s.journal ≡ g.records n → IsLawful (g.stands n) (g.records n) → IsStable (journal_of g) n → (IsErrOf result error.Stopped ↔ (g.stopped n ≡ true)) → (IsErrOf result error.Disk → ⊥)
      → IsFeedCall g s bytes n n result
  nothing_fed only_now none s bytes n same lawful stable answered well =
      let brings = feed_grows (g.stands n) s bytes in
      record { appends = brings.more; brings = brings.is ∙ ap (λ (J : List Record). J ++ brings.more) same; left = idle_on g only_now none n brings.more lawful stable answered well }

  -- the bytes take one frame
  pub frame_fed : {X : Type 0} {result : Result X FeedError} → (s now : Feeding) (bytes : List ℕ) (count : ℕ) (f : Frame) (old new : N)
      → fed (g.stands old) s bytes ≡ fed_frame (g.stands old) count f now → now.journal ≡ g.records old → IsFrameCall g f old new result → IsFeedCall g s bytes old new result
  frame_fed s now bytes count f old new takes same left = record { appends = _; brings = taken_brings (g.stands old) s now bytes count f (g.records old) takes same; left = left }

  -- ---- chunk by chunk

  -- The calls on a running node so far appended these, and none of them failed.
  pub record IsLeftWith (old new : N) : Type 0 where
    pub more : List Record
    pub grown : g.records new ≡ g.records old ++ more
    pub left : IsLawfulCall g old new more ⊥ ⊥

  pub none_left : ((n : N) (file : List ℕ) → g.left_since n (g.moment n) file → g.may_leave n file) → ((n : N) → g.after n [] n)
      → (n : N) → IsLawful (g.stands n) (g.records n) → IsStable (journal_of g) n → g.stopped n ≡ false → IsLeftWith n n
  none_left only_now none n lawful stable runs = record { more = []; grown = sym (append-nil (g.records n)); left = idle_on g only_now none n [] lawful stable (never_stopped (g.stopped n) runs (λ never. never)) (λ never. never) }

  -- a node that was left so runs
  pub runs_left : (old new : N) → g.stopped old ≡ false → IsLeftWith old new → g.stopped new ≡ false
  runs_left old new ran l = runs_on (g.stopped old) ran l.left.node.journal.stops (λ never. never)

  module _ (join : (x y z : N) (calls more : List Made) → g.after x calls y → g.after y more z → g.after x (calls ++ more) z) (old mid new : N) (ran : g.stopped old ≡ false) (so_far : IsLeftWith old mid) where
    -- one chunk more
    pub chunk_left : (now : Feeding) (c : List ℕ) → g.records new ≡ (fed (g.stands mid) now c).journal → IsFeedCall {X = Unit {0}} g now c mid new (Ok tt) → IsLeftWith old new
    chunk_left now c grown call =
        let a = so_far.more in
        let b = call.appends in
        record {
          more = a ++ b;
          grown = grown ∙ call.brings ∙ ap (λ (K : List Record). K ++ b) so_far.grown ∙ append_assoc (g.records old) a b;
          left = subst (λ (x : List Record). IsLawfulCall g old new x ⊥ ⊥) (append-nil (a ++ b))
              (joined_on g join old mid new a b [] ran (λ f. f) so_far.grown so_far.left (renamed_on g mid new b (λ is. absurd cc, λ f. absurd f) (λ is. absurd cc, λ f. absurd f) call.left));
        }

    -- a chunk fails, and the bytes after it bring nothing
    pub chunk_fails : {X : Type 0} {result : Result X FeedError} → (s now : Feeding) (bytes rest c behind : List ℕ) → IsUnderWay (g.stands old) s bytes rest now → rest ≡ c ++ behind → IsFeedCall g now c mid new result → IsFeedCall g s bytes old new result
    chunk_fails s now bytes rest c behind u parts call =
        let a = so_far.more in
        let b = call.appends in
        let all = chunk_brings (g.stands old) (g.stands mid) s now bytes rest c behind (g.records old) (g.records mid) a b so_far.left.node.same.stands u parts so_far.grown call.brings in
        record { appends = (a ++ b) ++ all.more; brings = all.is; left = joined_on g join old mid new a b all.more ran (λ f. f) so_far.grown so_far.left call.left }

  -- all bytes are passed, and nothing failed
  pub all_fed : {X : Type 0} {x : X} → (s now : Feeding) (bytes rest : List ℕ) (old new : N) → rest ≡ [] → IsUnderWay (g.stands old) s bytes rest now → now.journal ≡ g.records new → IsLeftWith old new → IsFeedCall g s bytes old new (Ok x)
  all_fed s now bytes rest old new none u same l = record {
    appends = l.more;
    brings = ap (λ (b : List ℕ). (fed (g.stands old) s b).journal) (u.parts ∙ ap (λ (b : List ℕ). u.done ++ b) none ∙ append-nil u.done) ∙ ap (λ (x : Feeding). x.journal) u.is ∙ same ∙ l.grown;
    left = renamed_on g old new l.more (λ f. absurd f, λ is. absurd cc) (λ f. absurd f, λ is. absurd cc) l.left;
  }
