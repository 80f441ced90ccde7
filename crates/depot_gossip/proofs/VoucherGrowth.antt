-- What a bundle's vouchers bring a journal, appended in full or as a prefix, and what making them makes of a node.
use Rattle.std.proofs.Common.{◌≡◌, ℕ, List, [], ◌++◌, false, Option, None, Result, Ok, Err, refl, sym, ap, subst, ◌∙◌}
use Rattle.std.specs.Prelude.{IsErrAnd, IsErrOf}
use Rattle.depot_base.specs.declared.record.Record.{Record}
use Rattle.depot_model.specs.declared.bundle.VoucherError.{VoucherError}
use Rattle.depot_model.specs.declared.bundle.VoucherError.TheVariants as refused
use Rattle.depot_model.specs.declared.node_state.NodeState.{Ghosts}
use Rattle.depot_model.specs.checks.Checks.{Setting}
use Rattle.depot_model.specs.journals.JournalCalls.{JournalView, Lasts, IsJournalCall}
use Rattle.depot_model.specs.journals.Lawful.{IsLawful, is_empty}
use Rattle.depot_model.specs.checks.Limits.{Limit}
use Rattle.depot_model.specs.journals.Replicas.{IsVoucherCall, journal_of}
use Rattle.depot_model.specs.checks.Vouching.{Vouches, new_vouchers, records_of, limit_of_vouchers}
use Rattle.depot_model.specs.exchange.Bundle.{BundleAnswer, Parcel, Signs, bundled_within, unvouched}
use Rattle.depot_model.proofs.of_journals.CallsOnDisk.{called_well}
use Rattle.depot_model.proofs.of_journals.JournalCallLaws.{never_answered, renamed_call}
use Rattle.depot_model.proofs.of_journals.StopLaws.{lasts_longer}
use Rattle.depot_gossip.specs.declared.bundle_error.BundleError.{BundleError}
use Rattle.depot_gossip.specs.declared.bundle_error.BundleError.TheVariants as error
use Rattle.depot_gossip.specs.declared.bundle_stream.Bundled.{Bundled}
use Rattle.depot_gossip.specs.declared.preparing.Prepared.{Prepared}
use Rattle.depot_gossip.specs.Errors.{from_vouching}
use Rattle.depot_gossip.specs.Bundling.{IsAnswerCall, journaled_for}
use Rattle.depot_gossip.specs.Preparing.{IsReady, bundle_with}
use Rattle.depot_streams.specs.Lasting.{LastsIn}
use Rattle.depot_streams.proofs.LastingStreams.{all_of, cut_of, none_in, to_append, IsPart}
use Rattle.depot_laws.proofs.of_audits.TrueReceipts.{silent_is_true, vouchers_put_none}
use Rattle.depot_gossip.proofs.StreamLaws.{same_fault}
use Rattle.depot_laws.proofs.records.NewVouchers.{new_are_lawful}

-- the journal is lawful with vouchers that meet no limit
vouchers_are_lawful : (here : Setting) (sign : Signs) (J : List Record) (answer : BundleAnswer) (xs : List Parcel) (p : Prepared) → IsLawful here J → is_empty J ≡ false → IsReady here sign J answer xs p → limit_of_vouchers here J p.unvouched ≡ None
    → IsLawful here (J ++ records_of (new_vouchers here.me J p.unvouched))
vouchers_are_lawful here sign J answer xs p l some is none =
    subst (λ (ids : List (List ℕ)). IsLawful here (J ++ records_of (new_vouchers here.me J ids))) (sym is.ids) (new_are_lawful here J (unvouched here.me J xs) l some is.foreign (ap (limit_of_vouchers here J) (sym is.ids) ∙ none))

-- vouchers that meet no limit are those that are journaled for the answer
are_journaled : (here : Setting) (sign : Signs) (J : List Record) (answer : BundleAnswer) (xs : List Parcel) (p : Prepared) → IsReady here sign J answer xs p → limit_of_vouchers here J p.unvouched ≡ None
    → records_of (new_vouchers here.me J p.unvouched) ≡ journaled_for answer
are_journaled here sign J answer xs p is none =
    ap (λ (ids : List (List ℕ)). records_of (new_vouchers here.me J ids)) is.ids
    ∙ sym (ap journaled_for (is.is ∙ ap (λ (o : Option Limit). bundled_within o (bundle_with here.me sign J p.hello xs p.sending.more)) (ap (limit_of_vouchers here J) (sym is.ids) ∙ none)))

-- a call that answers that it appended nothing might have been to append whatever it was
idle_anyway : {N : Type 0} (v : JournalView N) (old new : N) (a b : List Record) (stopped failed nothing : Type 0) → nothing → (failed → ⊥) → IsJournalCall v old new a stopped failed nothing → IsJournalCall v old new b stopped failed ⊥
idle_anyway v old new a b stopped failed nothing is well c = record { stops = c.stops; disk = c.disk; lasts = lasts_longer old new [] b (c.idle is); calls = called_well old new a b well well c.calls; idle = λ never. absurd never }

module _ {N : Type 0} (g : Ghosts N) (p : Prepared) (old new : N) (lawful : IsLawful (g.stands old) (g.records old)) (some : is_empty (g.records old) ≡ false) (runs : g.stopped old ≡ false)
    (answer : BundleAnswer) (xs : List Parcel) (is : IsReady (g.stands old) (g.signature_of old) (g.records old) answer xs p) where
  abbrev vouchers : List Record
  vouchers = records_of (new_vouchers (g.stands old).me (g.records old) p.unvouched)

  abbrev journaled : List Record
  journaled = journaled_for answer

  -- all of them were appended, or a prefix of them
  part_in : (failed : Type 0) → limit_of_vouchers (g.stands old) (g.records old) p.unvouched ≡ None → IsPart (g.records old) vouchers (g.records new) failed → Lasts (journal_of g) old new vouchers → LastsIn g failed old new
  part_in failed none part lasts = record {
    appends = vouchers;
    is = to_append (g.stands old) (g.records old) _ (g.records new) failed (vouchers_are_lawful (g.stands old) (g.signature_of old) (g.records old) answer xs p lawful some is none) (silent_is_true (g.records old) _ (vouchers_put_none (new_vouchers (g.stands old).me (g.records old) p.unvouched))) part;
    lasts = lasts;
  }

  -- they weren't made: the disk failed, or none was appended
  not_vouched_in : (e : VoucherError) → (e ≡ refused.Stopped → ⊥) → Vouches (g.stands old) (g.records old) p.unvouched (Err e) (g.records new) → Lasts (journal_of g) old new vouchers
      → (IsErrAnd {T = Unit {0}} (Err e) (λ d. d ≡ refused.Disk → ⊥) → Lasts (journal_of g) old new []) → LastsIn g (IsErrOf {T = Bundled} (Err (from_vouching e)) error.Disk) old new
  not_vouched_in refused.Memory never v lasts idle = none_in g _ old new lawful v (idle (λ e. cc))
  not_vouched_in refused.Disk never v lasts idle = part_in _ v.0 (cut_of (g.records old) _ (g.records new) _ refl v.1) lasts
  not_vouched_in refused.Stopped never v lasts idle = absurd (never refl)
  not_vouched_in (refused.Spent n) never v lasts idle = none_in g _ old new lawful v.1 (idle (λ e. cc))
  not_vouched_in (refused.Full what) never v lasts idle = none_in g _ old new lawful v.1 (idle (λ e. cc))

  -- they were made
  pub vouched_call : (r : Result Bundled BundleError) → (IsErrOf r error.Stopped → ⊥) → (IsErrOf r error.Disk → ⊥) → Vouches (g.stands old) (g.records old) p.unvouched (Ok tt) (g.records new) → IsVoucherCall g old new p.unvouched (Ok tt)
      → IsAnswerCall g old new answer r
  vouched_call r no_stop no_disk v call =
      let same = are_journaled (g.stands old) (g.signature_of old) (g.records old) answer xs p is v.0 in
      record {
        node = record {
          same = call.same;
          journal = subst (λ (x : List Record). IsJournalCall (journal_of g) old new x (IsErrOf r error.Stopped) (IsErrOf r error.Disk) ⊥) same
              (renamed_call (λ e. absurd cc, λ e. absurd (no_stop e)) (λ e. absurd cc, λ e. absurd (no_disk e)) (λ never. absurd never) call.journal);
        };
        lasts = part_in (IsErrOf r error.Disk) v.0 (all_of (g.records old) _ (g.records new) (IsErrOf r error.Disk) v.1) call.journal.lasts;
      }

  -- what making them leaves of the journal, where they weren't made
  not_vouched_journal : (e : VoucherError) → Vouches (g.stands old) (g.records old) p.unvouched (Err e) (g.records new)
      → IsJournalCall (journal_of g) old new vouchers (IsErrOf {T = Unit {0}} (Err e) refused.Stopped) (IsErrOf {T = Unit {0}} (Err e) refused.Disk) (IsErrAnd {T = Unit {0}} (Err e) (λ d. d ≡ refused.Disk → ⊥))
      → IsJournalCall (journal_of g) old new journaled (IsErrOf {T = Unit {0}} (Err e) refused.Stopped) (IsErrOf {T = Unit {0}} (Err e) refused.Disk) ⊥
  not_vouched_journal refused.Disk v c =
      subst (λ (x : List Record). IsJournalCall (journal_of g) old new x (IsErrOf {T = Unit {0}} (Err refused.Disk) refused.Stopped) (IsErrOf {T = Unit {0}} (Err refused.Disk) refused.Disk) ⊥)
      (are_journaled (g.stands old) (g.signature_of old) (g.records old) answer xs p is v.0) (renamed_call (λ e. e, λ e. e) (λ e. e, λ e. e) (λ never. absurd never) c)
  not_vouched_journal refused.Memory v c = idle_anyway (journal_of g) old new vouchers journaled _ _ _ (λ e. cc) (λ e. cc) c
  not_vouched_journal refused.Stopped v c = idle_anyway (journal_of g) old new vouchers journaled _ _ _ (λ e. cc) (λ e. cc) c
  not_vouched_journal (refused.Spent n) v c = idle_anyway (journal_of g) old new vouchers journaled _ _ _ (λ e. cc) (λ e. cc) c
  not_vouched_journal (refused.Full what) v c = idle_anyway (journal_of g) old new vouchers journaled _ _ _ (λ e. cc) (λ e. cc) c

  -- they weren't made
  pub not_vouched_call : (e : VoucherError) → Vouches (g.stands old) (g.records old) p.unvouched (Err e) (g.records new) → IsVoucherCall g old new p.unvouched (Err e) → IsAnswerCall g old new answer (Err (from_vouching e))
  not_vouched_call e v call =
      let f = same_fault e in
      record {
        node = record { same = call.same; journal = renamed_call f.0 f.1 (λ never. never) (not_vouched_journal e v call.journal) };
        lasts = not_vouched_in e (λ stopped. never_answered (g.stopped old) runs call.journal.stops (ap (λ (d : VoucherError). Err d) stopped)) v call.journal.lasts call.journal.idle;
      }
