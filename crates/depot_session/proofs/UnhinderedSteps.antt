-- A command that nothing prevents goes on, and a script of such commands completes.
use Rattle.std.proofs.Common.{◌≡◌, List, [], ◌∷◌, ℕ, true, not, Option, Some, None, refl, ap, ◌∙◌}
use Rattle.std.proofs.lemmas.Bool.{cond-false, cond-true}
use Rattle.std.proofs.lemmas.Slice.Eq.{bytes_eq-Decides}
use Rattle.std.specs.Str.{bytes_eq}
use Rattle.depot_base.proofs.Combined.{whole_again}
use Rattle.depot_base.specs.Format.{whole}
use Rattle.depot_base.specs.Writes.{one_change}
use Rattle.depot_base.specs.declared.check.Full.{Full}
use Rattle.depot_base.specs.declared.record.Record.{Record}
use Rattle.depot_base.specs.declared.write.Change.{Change}
use Rattle.depot_model.proofs.of_texts.CheckpointLaws.{checkpoint_lawful}
use Rattle.depot_model.proofs.of_texts.HelloLaws.{hello_lawful}
use Rattle.depot_model.specs.exchange.Bundle.{Signs, answer_to_hello, bundle_answer, bundle_of, bundled, bundled_within, BundleAnswer}
use Rattle.depot_model.specs.readers.Checkpoints.{checkpoint}
use Rattle.depot_model.specs.checks.Checks.{Setting}
use Rattle.depot_model.specs.exchange.Feeding.{Closing}
use Rattle.depot_model.specs.exchange.Hello.{hello}
use Rattle.depot_model.specs.journals.Journal.{accepted}
use Rattle.depot_model.specs.checks.Limits.{Limit, limit_of_put}
use Rattle.depot_model.specs.readers.Opening.{MadeCheckpoint, Opened, ids_of, made_text, make_of, many_leaves, no_leaves, opened_as, opened_text, opened_unless, unknown_leaf}
use Rattle.depot_model.specs.readers.ReaderFeeds.{reader_feed_of}
use Rattle.depot_model.specs.readers.Readers.{Reader, TrimAnswer, trim_of, trimmed_as, trimmed_unless, unsigned_node}
use Rattle.depot_model.specs.worlds.Receipts.{NoReceipt, lacks_value, no_receipt, receipt_changes, unknown}
use Rattle.depot_model.specs.texts.Roster.{has_node}
use Rattle.depot_model.specs.checks.Taking.{at_start}
use Rattle.depot_model.specs.texts.Texts.{hash_of_roster}
use Rattle.depot_script.specs.declared.command.Command.{Command}
use Rattle.depot_script.specs.declared.command.Command.TheVariants as command
use Rattle.depot_requests.specs.Effects.{checkpoint_changes}
use Rattle.depot_requests.specs.ReaderRequests.{counts_of_feed, made_served, served_last, use_served}
use Rattle.depot_requests.specs.Replies.{closing_told}
use Rattle.depot_requests.specs.Requests.{bundle_served, checkpoint_served, handing, put_served, receipts_served, served, sign_served}
use Rattle.depot_requests.specs.declared.reader_reply.ReaderReply.TheVariants as told
use Rattle.depot_requests.specs.declared.reader_request.ReaderRequest.TheVariants as readers
use Rattle.depot_requests.specs.declared.reader_request.ReaderUse.TheVariants as use_of
use Rattle.depot_requests.specs.declared.request.Request.TheVariants as request
use Rattle.depot_session.specs.declared.ending.ScriptEnding.{ScriptEnding}
use Rattle.depot_session.specs.declared.ending.ScriptEnding.TheVariants as ending
use Rattle.depot_session.specs.Sessions.{Asking, Session, answers_of, asks_for, asks_reader, ending_of_closing, ending_of_reader_reply, ending_of_reply, followed_by, given_by_name, step_by, step_of, with_file}
use Rattle.depot_session.specs.declared.requesting.TheConstants.{TAKEN_PIECE}
use Rattle.depot_session.specs.Unhindered.{AreUnhindered, IsCheckpointOf, IsHelloFor, IsThere, IsUnhindered}
use Rattle.depot_session.proofs.UnhinderedStreams.{taken_whole}

-- ---- hellos

-- a hello of this roster and of a node in it is answered by a bundle
is_bundled : (here : Setting) (sign : Signs) (J : List Record) (text : List ℕ) (h : IsHelloFor here sign J text) → bundle_answer here sign J text ≡ bundled (bundle_of here.me sign J h.told)
unfolding bundle_answer
is_bundled here sign J text h =
    let same : bytes_eq h.told.roster (hash_of_roster here.listed) ≡ true = (bytes_eq-Decides h.told.roster (hash_of_roster here.listed)).1 h.roster in
    ap (λ (t : List ℕ). answer_to_hello here sign J (whole hello (at_start t))) h.is
    ∙ ap (answer_to_hello here sign J) (whole_again hello _ hello_lawful 0 h.told h.fits)
    ∙ cond-false (not (bytes_eq h.told.roster (hash_of_roster here.listed))) _ _ (ap not same)
    ∙ cond-false (not (has_node here.listed h.told.node)) _ _ (ap not h.node)
    ∙ ap (λ (o : Option Limit). bundled_within o (bundle_of here.me sign J h.told)) h.within

-- ---- checkpoints

-- a checkpoint of this roster is opened, unless it lists what isn't accepted
is_opened : (here : Setting) (J : List Record) (text : List ℕ) (c : IsCheckpointOf here text) → opened_text here J text ≡ opened_unless (ids_of c.made) (unknown_leaf (accepted J) c.made.leaves)
unfolding opened_text
is_opened here J text c =
    let same : bytes_eq c.made.roster (hash_of_roster here.listed) ≡ true = (bytes_eq-Decides c.made.roster (hash_of_roster here.listed)).1 c.roster in
    ap (λ (t : List ℕ). opened_as here J (whole checkpoint (at_start t))) c.is
    ∙ ap (opened_as here J) (whole_again checkpoint _ checkpoint_lawful 0 c.made c.fits)
    ∙ cond-true (bytes_eq c.made.roster (hash_of_roster here.listed)) _ _ same

-- ---- what a node replies

-- a put that meets no limit
put_goes : (here : Setting) (J : List Record) (changes : List Change) (o : Option Limit) → o ≡ None → ending_of_reply (put_served here J changes o).reply ≡ None
put_goes here J changes o within = ap (λ (x : Option Limit). ending_of_reply (put_served here J changes x).reply) within

receipt_goes : (here : Setting) (J : List Record) (ids : List (List ℕ)) (o : Option NoReceipt) → (o ≡ None → limit_of_put here J (receipt_changes ids) ≡ None) → ending_of_reply (receipts_served here J ids o).reply ≡ None
receipt_goes here J ids (Some (unknown id)) within = refl
receipt_goes here J ids (Some (lacks_value id)) within = refl
receipt_goes here J ids None within = put_goes here J (receipt_changes ids) (limit_of_put here J (receipt_changes ids)) (within refl)

checkpoint_goes : (here : Setting) (J : List Record) (m : MadeCheckpoint) → ((text : List ℕ) → m ≡ made_text text → limit_of_put here J (checkpoint_changes text) ≡ None) → ending_of_reply (checkpoint_served here J m).reply ≡ None
checkpoint_goes here J no_leaves within = refl
checkpoint_goes here J (many_leaves n) within = refl
checkpoint_goes here J (made_text text) within = ap (λ (o : Option Limit). ending_of_reply (handing text (put_served here J (checkpoint_changes text) o)).reply) (within text refl)

sign_goes : (here : Setting) (J : List Record) (text : List ℕ) (ids : List (List ℕ)) (o : Option (List ℕ)) → (o ≡ None → limit_of_put here J (checkpoint_changes text) ≡ None) → ending_of_reply (sign_served here J text (opened_unless ids o)).reply ≡ None
sign_goes here J text ids (Some id) within = refl
sign_goes here J text ids None within = put_goes here J (checkpoint_changes text) (limit_of_put here J (checkpoint_changes text)) (within refl)

-- ---- readers

-- how a trim ends the run
abbrev trim_ending : Option Reader → TrimAnswer → Option ScriptEnding
trim_ending last a = ending_of_reader_reply (served_last last (made_served a)).reply

trim_goes : (here : Setting) (J : List Record) (last : Option Reader) (text : List ℕ) (ids : List (List ℕ)) (o : Option (List ℕ)) → trim_ending last (trimmed_as here J text (opened_unless ids o)) ≡ None
trim_goes here J last text ids (Some id) = refl
trim_goes here J last text ids None = by_node (unsigned_node here J text ids) where
  by_node : (o : Option ℕ) → trim_ending last (trimmed_unless here J ids o) ≡ None
  by_node (Some node) = refl
  by_node None = refl

-- so a reader is made of its text, or none, and the run goes on
trim_text_goes : (here : Setting) (J : List Record) (last : Option Reader) (text : List ℕ) → IsCheckpointOf here text → trim_ending last (trim_of here J text) ≡ None
unfolding trim_of
trim_text_goes here J last text c = ap (λ (o : Opened). trim_ending last (trimmed_as here J text o)) (is_opened here J text c) ∙ trim_goes here J last text (ids_of c.made) (unknown_leaf (accepted J) c.made.leaves)

-- nor does a key that is read of one end it
shown_goes : (key : List ℕ) (last : Option Reader) → ending_of_reader_reply (use_served last (use_of.Get key)).reply ≡ None
shown_goes key None = refl
shown_goes key (Some R) = refl

module _ (here : Setting) (sign : Signs) (s : Session) (c : Command) where
  -- with a file that is there
  with_there : (asks : List ℕ → Asking) (name bytes : List ℕ) → s.files name ≡ Some bytes → (step_by here sign s c (with_file asks name (s.files name))).ending ≡ (step_by here sign s c (asks bytes)).ending
  with_there asks name bytes there = ap (λ (o : Option (List ℕ)). (step_by here sign s c (with_file asks name o)).ending) there

  given_goes : (file : List ℕ) (o : Option Reader) → s.reader ≡ o → ((R : Reader) → o ≡ Some R → IsThere s file (λ stream. (reader_feed_of R stream).full ≡ None)) → (step_by here sign s c (given_by_name s file o)).ending ≡ None
  given_goes file None last each = ap (λ (x : Option Reader). ending_of_reader_reply (use_served x (use_of.Give [])).reply) last
  given_goes file (Some R) last each =
      let one = each R refl in
      with_there (λ stream. asks_reader (readers.Use (use_of.Give stream))) file one.bytes one.there
      ∙ ap (λ (x : Option Reader). ending_of_reader_reply (use_served x (use_of.Give one.bytes)).reply) last
      ∙ ap (λ (full : Option Full). ending_of_reader_reply (told.Took (counts_of_feed (reader_feed_of R one.bytes)) full)) one.holds

-- ---- each command

goes_on : (here : Setting) (sign : Signs) (s : Session) (c : Command) → IsUnhindered here sign s c → (step_of here sign s c).ending ≡ None
unfolding step_of served
goes_on here sign s (command.Put key value) within = put_goes here s.correct.journal (one_change key value) (limit_of_put here s.correct.journal (one_change key value)) within
goes_on here sign s (command.Puts changes) within = put_goes here s.correct.journal changes (limit_of_put here s.correct.journal changes) within
goes_on here sign s (command.Get key) u = refl
goes_on here sign s (command.Hello file) u = refl
goes_on here sign s (command.Bundle hello file) u =
    let J = s.correct.journal in
    with_there here sign s (command.Bundle hello file) (λ bytes. asks_for (request.Bundle bytes)) hello u.bytes u.there ∙ ap (λ (a : BundleAnswer). ending_of_reply (bundle_served J a).reply) (is_bundled here sign J u.bytes u.holds)
goes_on here sign s (command.Take file) u =
    with_there here sign s (command.Take file) (λ bytes. asks_for (request.Take bytes TAKEN_PIECE)) file u.bytes u.there ∙ ap (λ (o : Option Closing). ending_of_closing (closing_told o)) (taken_whole here s.correct.journal u.bytes u.holds)
goes_on here sign s (command.Receipt id) within = receipt_goes here s.correct.journal (id ∷ []) (no_receipt s.correct.journal (id ∷ [])) within
goes_on here sign s (command.Settled id k) u = refl
goes_on here sign s (command.Export file) u = refl
goes_on here sign s (command.Checkpoint file) within = checkpoint_goes here s.correct.journal (make_of here s.correct.journal) within
goes_on here sign s (command.Sign file) u =
    let J = s.correct.journal in
    let c = u.holds.0 in
    with_there here sign s (command.Sign file) (λ bytes. asks_for (request.Sign bytes)) file u.bytes u.there
    ∙ ap (λ (o : Opened). ending_of_reply (sign_served here J u.bytes o).reply) (is_opened here J u.bytes c)
    ∙ sign_goes here J u.bytes (ids_of c.made) (unknown_leaf (accepted J) c.made.leaves) (λ known. u.holds.1 (ids_of c.made) (is_opened here J u.bytes c ∙ ap (opened_unless (ids_of c.made)) known))
goes_on here sign s (command.Trim file) u = with_there here sign s (command.Trim file) (λ text. asks_reader (readers.Trim text)) file u.bytes u.there ∙ trim_text_goes here s.correct.journal s.reader u.bytes u.holds
goes_on here sign s (command.Tgive file) u = given_goes here sign s (command.Tgive file) file s.reader refl u
goes_on here sign s (command.Tget key) u = shown_goes key s.reader

-- ---- a script

pub comes_to_its_end : (here : Setting) (sign : Signs) (s : Session) (cs : List Command) → AreUnhindered here sign s cs → (answers_of here sign s cs).ending ≡ ending.Done
unfolding answers_of
comes_to_its_end here sign s [] all = refl
comes_to_its_end here sign s (c ∷ cs) all =
    let step = step_of here sign s c in
    ap (λ (o : Option ScriptEnding). (followed_by o step (answers_of here sign step.session cs)).ending) (goes_on here sign s c all.0) ∙ comes_to_its_end here sign step.session cs all.1
