-- What a node replies when asked to send, by what its calls answer.
use Rattle.std.proofs.Common.{◌≡◌, ◌↔◌, ℕ, true, false, List, [], ◌++◌, Result, Ok, Err, refl, sym, ap, ◌∙◌, inl, inr}
use Rattle.std.specs.Prelude.{IsErrAnd, IsErrOf}
use Rattle.std.proofs.lemmas.List.{append-nil}
use Rattle.depot_base.specs.declared.record.Record.{Record}
use Rattle.depot_streams.proofs.LastingStreams.{nothing_in}
use Rattle.depot_streams.proofs.LawfulCalls.{renamed_on}
use Rattle.depot_gossip.specs.Bundling.{BundlesBy, IsAnswerCall, journaled_for}
use Rattle.depot_gossip.specs.declared.bundle_error.BundleError.{BundleError}
use Rattle.depot_gossip.specs.declared.bundle_error.BundleError.TheVariants as error
use Rattle.depot_gossip.specs.declared.bundle_stream.Bundled.{Bundled}
use Rattle.depot_model.specs.exchange.Bundle.{BundleAnswer, Signs, bad_hello, bundled, limited, other_roster}
use Rattle.depot_model.specs.checks.Checks.{Setting}
use Rattle.depot_model.specs.exchange.Hello.{text_of_hello}
use Rattle.depot_model.specs.journals.JournalCalls.{IsStable}
use Rattle.depot_model.specs.journals.Lawful.{IsLawful}
use Rattle.depot_model.specs.checks.Limits.{full, spent}
use Rattle.depot_model.specs.journals.Replicas.{journal_of}
use Rattle.depot_model.specs.checks.Vouching.{records_of}
use Rattle.depot_model.specs.declared.hello.Hello.{Hello}
use Rattle.depot_model.specs.declared.node_state.NodeState.{Ghosts}
use Rattle.depot_model.proofs.of_journals.JournalCallLaws.{idle_call}
use Rattle.depot_requests.specs.Requests.{Served, bundle_served}
use Rattle.depot_requests.specs.declared.reply.Halt.{Halt}
use Rattle.depot_requests.specs.declared.reply.Halt.TheVariants as halt
use Rattle.depot_requests.specs.declared.reply.Reason.{Reason}
use Rattle.depot_requests.specs.declared.reply.Reply.{Reply}
use Rattle.depot_requests.specs.declared.reply.Reply.TheVariants as reply
use Rattle.depot_gossip.specs.Preparing.{IsReady, ReadsHello, answer_to_bytes, answer_with}
use Rattle.depot_gossip.specs.Bounding.{bounded_answer, bounded_sent, leaves_some}
use Rattle.depot_gossip.specs.Choices.{IsChosenWithin}
use Rattle.depot_gossip.specs.declared.choice.Choice.{Choice}
use Rattle.depot_gossip.proofs.WithinLaws.{bounded_for_others}
use Rattle.depot_gossip.specs.FarHellos.{far_hello}
use Rattle.depot_gossip.specs.SendCalls.{IsSendCall, Sends, sent_by}
use Rattle.depot_gossip.specs.Within.{PreparesWithin, replied}
use Rattle.depot_gossip.specs.declared.bounds.Bounds.{Bounds}
use Rattle.depot_gossip.specs.declared.send_request.SendRequest.{SendRequest}
use Rattle.depot_gossip.specs.declared.send_request.SendRequest.TheVariants as request

-- ---- what is brought

brought : (J : List Record) (a : BundleAnswer) → (bundle_served J a).journal ≡ J ++ journaled_for a
brought J (bundled b) = refl
brought J (bad_hello at) = sym (append-nil J)
brought J (other_roster given) = sym (append-nil J)
brought J (limited met) = sym (append-nil J)

pub bounded_brings : (here : Setting) (sign : Signs) (J : List Record) (hello : List ℕ) (b : Bounds) → (sent_by here sign J (request.Bounded hello b)).journal ≡ J ++ journaled_for (bounded_answer here sign J hello b)
unfolding sent_by
bounded_brings here sign J hello b = brought J (bounded_answer here sign J hello b)

-- what a request brings
pub record Brings (here : Setting) (sign : Signs) (J : List Record) (r : SendRequest) : Type 0 where
  pub more : List Record
  pub is : (sent_by here sign J r).journal ≡ J ++ more

pub sending_brings : (here : Setting) (sign : Signs) (J : List Record) (r : SendRequest) → Brings here sign J r
unfolding sent_by
sending_brings here sign J request.FarHello = record { more = []; is = sym (append-nil J) }
sending_brings here sign J (request.Bounded hello b) = record { more = journaled_for (bounded_answer here sign J hello b); is = bounded_brings here sign J hello b }

-- ---- a bundle within bounds

module _ (here : Setting) (sign : Signs) (J : List Record) (hello : List ℕ) (b : Bounds) where
  abbrev answer : BundleAnswer
  answer = bounded_answer here sign J hello b

  as_answer : (a : BundleAnswer) → answer ≡ a → sent_by here sign J (request.Bounded hello b) ≡ bundle_served J a
  unfolding sent_by
  as_answer a is = ap (bundle_served J) is

  not_sent : (a : BundleAnswer) (why : Reason) (then : List Record) → answer ≡ a → bundle_served J a ≡ record { journal = J; reply = reply.Refused why } → then ≡ J → sent_by here sign J (request.Bounded hello b) ≡ record { journal = then; reply = reply.Refused why }
  not_sent a why then is told same = as_answer a is ∙ told ∙ ap (λ (K : List Record). record { journal = K; reply = reply.Refused why }) (sym same)

  pub bounded_sends : (made : Result Bundled BundleError) (then : List Record) → BundlesBy here J false answer made then → Sends here sign J (request.Bounded hello b) (replied made) then
  bounded_sends (Ok m) then p = as_answer (bundled p.bundle) p.is ∙ (λ i. record { journal = sym p.grown i; reply = reply.Bundle (sym p.bytes i) (sym p.counts i) (sym p.more i) })
  bounded_sends (Err error.Memory) then (inl same) = inl same
  bounded_sends (Err error.Memory) then (inr v) = inr (v.grown ∙ sym (ap (λ (s : Served). s.journal) (as_answer (bundled v.bundle) v.is)))
  bounded_sends (Err error.Disk) then v = record { more = records_of v.bundle.vouchers; brings = ap (λ (s : Served). s.journal) (as_answer (bundled v.bundle) v.is); cut = v.cut }
  bounded_sends (Err error.Stopped) then p = p.1
  bounded_sends (Err (error.IllFormed at)) then p = not_sent (bad_hello at) _ then p.0 refl p.1
  bounded_sends (Err (error.OtherRoster given mine)) then p = not_sent (other_roster given) _ then p.0 refl p.1.1
  bounded_sends (Err (error.Spent n)) then p = not_sent (limited (spent n)) _ then p.0 refl p.1
  bounded_sends (Err (error.Full what)) then p = not_sent (limited (full what)) _ then p.0 refl p.1

  -- the answer to a hello
  abbrev pub answer_within : Hello → BundleAnswer
  answer_within h = answer_with here sign J h (bounded_sent here sign J h b) (leaves_some here sign J h b)

  -- what isn't heard isn't prepared
  pub unheard_so : (e : BundleError) → ReadsHello here answer_within hello (Err e) → PreparesWithin here sign J hello b (Err e)
  unfolding bounded_answer
  unheard_so error.Memory h = h
  unheard_so error.Disk h = h
  unheard_so error.Stopped h = h
  unheard_so (error.IllFormed at) h = h
  unheard_so (error.OtherRoster given mine) h = h
  unheard_so (error.Spent n) h = h
  unheard_so (error.Full what) h = h

  -- what is chosen is ready
  pub chosen_is_ready : (h : Hello) (c : Choice) → IsLawful here J → answer_to_bytes here answer_within hello ≡ answer_within h → IsChosenWithin here sign J h b c
      → IsReady here sign J answer (bounded_sent here sign J h b) (record { hello = h; sending = c.sending; unvouched = c.unvouched })
  unfolding bounded_answer
  chosen_is_ready h c l heard w =
      let others = bounded_for_others here sign J h b l in
      record {
        is = heard ∙ ap (answer_with here sign J h (bounded_sent here sign J h b)) (sym w.more);
        holds = w.holds;
        ids = w.ids;
        apart = others.apart;
        foreign = others.foreign;
      }

  -- what isn't prepared isn't sent, and the journal is unchanged
  pub unprepared_sends : (e : BundleError) → PreparesWithin here sign J hello b (Err e) → BundlesBy here J false answer (Err e) J
  unprepared_sends error.Memory p = inl refl
  unprepared_sends error.Disk p = absurd p
  unprepared_sends error.Stopped p = absurd p
  unprepared_sends (error.IllFormed at) p = (p, refl)
  unprepared_sends (error.OtherRoster given mine) p = (p.0, (p.1, refl))
  unprepared_sends (error.Spent n) p = absurd p
  unprepared_sends (error.Full what) p = absurd p

  -- and neither was the node stopped nor did its disk fail
  pub unprepared_runs : (e : BundleError) → PreparesWithin here sign J hello b (Err e) → IsErrOf {T = Bundled} (Err e) error.Stopped → ⊥
  unprepared_runs error.Stopped p is = p
  unprepared_runs error.Memory p is = cc
  unprepared_runs error.Disk p is = p
  unprepared_runs (error.IllFormed at) p is = cc
  unprepared_runs (error.OtherRoster given mine) p is = cc
  unprepared_runs (error.Spent n) p is = p
  unprepared_runs (error.Full what) p is = p

  pub unprepared_well : (e : BundleError) → PreparesWithin here sign J hello b (Err e) → IsErrOf {T = Bundled} (Err e) error.Disk → ⊥
  unprepared_well error.Stopped p is = p
  unprepared_well error.Memory p is = cc
  unprepared_well error.Disk p is = p
  unprepared_well (error.IllFormed at) p is = cc
  unprepared_well (error.OtherRoster given mine) p is = cc
  unprepared_well (error.Spent n) p is = p
  unprepared_well (error.Full what) p is = p

-- ---- faults

stopped_so : (made : Result Bundled BundleError) → IsErrOf made error.Stopped ↔ IsErrOf (replied made) halt.Stopped
stopped_so (Ok b) = (λ e. absurd cc, λ e. absurd cc)
stopped_so (Err error.Memory) = (λ e. absurd cc, λ e. absurd cc)
stopped_so (Err error.Disk) = (λ e. absurd cc, λ e. absurd cc)
stopped_so (Err error.Stopped) = (λ e. refl, λ e. refl)
stopped_so (Err (error.IllFormed at)) = (λ e. absurd cc, λ e. absurd cc)
stopped_so (Err (error.OtherRoster given mine)) = (λ e. absurd cc, λ e. absurd cc)
stopped_so (Err (error.Spent n)) = (λ e. absurd cc, λ e. absurd cc)
stopped_so (Err (error.Full what)) = (λ e. absurd cc, λ e. absurd cc)

failed_so : (made : Result Bundled BundleError) → IsErrOf made error.Disk ↔ IsErrOf (replied made) halt.Disk
failed_so (Ok b) = (λ e. absurd cc, λ e. absurd cc)
failed_so (Err error.Memory) = (λ e. absurd cc, λ e. absurd cc)
failed_so (Err error.Disk) = (λ e. refl, λ e. refl)
failed_so (Err error.Stopped) = (λ e. absurd cc, λ e. absurd cc)
failed_so (Err (error.IllFormed at)) = (λ e. absurd cc, λ e. absurd cc)
failed_so (Err (error.OtherRoster given mine)) = (λ e. absurd cc, λ e. absurd cc)
failed_so (Err (error.Spent n)) = (λ e. absurd cc, λ e. absurd cc)
failed_so (Err (error.Full what)) = (λ e. absurd cc, λ e. absurd cc)

-- ---- the call

module _ {N : Type 0} (g : Ghosts N) where
  pub bounded_call : (old new : N) (hello : List ℕ) (b : Bounds) (made : Result Bundled BundleError) → IsAnswerCall g old new (bounded_answer (g.stands old) (g.signature_of old) (g.records old) hello b) made → IsSendCall g old new (request.Bounded hello b) (replied made)
  bounded_call old new hello b made call =
      let J = g.records old in
      let answer = bounded_answer (g.stands old) (g.signature_of old) J hello b in
      let named = renamed_on g old new (journaled_for answer) (stopped_so made) (failed_so made) call in
      record { appends = journaled_for answer; brings = bounded_brings (g.stands old) (g.signature_of old) J hello b; node = named.node; lasts = named.lasts }

  -- a node that isn't called
  pub uncalled_sends : (r : SendRequest) (result : Result Reply Halt) → ((n : N) (file : List ℕ) → g.left_since n (g.moment n) file → g.may_leave n file) → ((n : N) → g.after n [] n)
      → (n : N) → IsLawful (g.stands n) (g.records n) → IsStable (journal_of g) n → IsErrOf result halt.Stopped ↔ (g.stopped n ≡ true) → (IsErrOf result halt.Disk → ⊥) → IsSendCall g n n r result
  uncalled_sends r result only_now none n lawful stable answered not =
      let grows = sending_brings (g.stands n) (g.signature_of n) (g.records n) r in
      record {
        appends = grows.more;
        brings = grows.is;
        node = record { same = record { stands = refl; key = refl; signs = refl }; journal = idle_call (journal_of g) only_now none n grows.more stable answered not };
        lasts = nothing_in g only_now _ n lawful stable;
      }

-- an answer for want of memory is no other
pub memory_alone : (result : Result Reply Halt) (e : Halt) → (halt.Memory ≡ e → ⊥) → IsErrAnd result (λ x. x ≡ halt.Memory) → IsErrOf result e → ⊥
memory_alone (Ok told) e not is failed = is
memory_alone (Err x) e not is failed = let same : x ≡ e = cc in not (sym is ∙ same)

-- ---- a far hello

pub untold_sends : (here : Setting) (sign : Signs) (J : List Record) (r : SendRequest) (result : Result Reply Halt) → IsErrAnd result (λ x. x ≡ halt.Memory) → Sends here sign J r result J
untold_sends here sign J r (Ok told) is = absurd is
untold_sends here sign J r (Err halt.Memory) is = inl refl
untold_sends here sign J r (Err halt.Disk) is = absurd cc
untold_sends here sign J r (Err halt.Stopped) is = refl

pub far_sends : (here : Setting) (sign : Signs) (J : List Record) (hello : Hello) (text : List ℕ) → hello ≡ far_hello here J → text ≡ text_of_hello hello → Sends here sign J request.FarHello (Ok (reply.Hello hello text)) J
unfolding sent_by
far_sends here sign J hello text is told = λ i. record { journal = J; reply = reply.Hello (sym is i) ((ap text_of_hello (sym is) ∙ sym told) i) }
