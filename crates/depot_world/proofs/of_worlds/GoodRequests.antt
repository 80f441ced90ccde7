-- What a request of bytes makes of a node is made of bytes.
use Rattle.std.proofs.Common.{◌≡◌, ℕ, Bool, true, false, not, cond, List, Option, Some, None, Result, Ok, Err, refl}
use Rattle.std.specs.List.{AllByRecursion}
use Rattle.std.specs.Str.{bytes_eq}
use Rattle.depot_base.specs.Format.{whole}
use Rattle.depot_base.specs.declared.record.Record.{Record}
use Rattle.depot_base.specs.declared.write.Change.{Change}
use Rattle.depot_base.proofs.GeneralLaws.{all_both}
use Rattle.depot_model.specs.declared.hello.Hello.{Hello}
use Rattle.depot_model.specs.exchange.Bundle.{Signs, answer_to_hello, bad_hello, bundle_answer, bundle_of, bundled_within, other_roster, sent_for, unvouched}
use Rattle.depot_model.specs.checks.Checks.{Setting}
use Rattle.depot_model.specs.exchange.Hello.{hello}
use Rattle.depot_model.specs.checks.Limits.{Limit, limit_of_put}
use Rattle.depot_model.specs.readers.Opening.{MadeCheckpoint, Opened, ill_at, made_text, make_of, many_leaves, no_leaves, of_roster, opened, opened_text, with_unknown}
use Rattle.depot_model.specs.checks.Putting.{put_records}
use Rattle.depot_model.specs.worlds.Receipts.{NoReceipt, lacks_value, no_receipt, receipt_changes, unknown}
use Rattle.depot_model.specs.texts.Roster.{has_node}
use Rattle.depot_model.specs.texts.Texts.{hash_of_roster}
use Rattle.depot_model.specs.checks.Vouching.{limit_of_vouchers, records_of}
use Rattle.depot_requests.specs.Effects.{checkpoint_changes}
use Rattle.depot_requests.specs.Replies.{bytes_of_reply}
use Rattle.depot_requests.specs.Requests.{CarriesBytes, IsRequest, Served, bundle_served, checkpoint_served, handing, put_served, receipts_served, served, sign_served}
use Rattle.depot_requests.specs.declared.request.Request.{Request}
use Rattle.depot_requests.specs.declared.request.Request.TheVariants as request
use Rattle.depot_world.proofs.of_bytes.ByteBundles.{bundle_holds, bundle_vouchers_hold}
use Rattle.depot_world.proofs.of_bytes.ByteFeeds.{feed_grows}
use Rattle.depot_world.proofs.of_bytes.ByteJournals.{AllHold, HoldsBytes}
use Rattle.depot_world.proofs.of_bytes.ByteOwn.{IsByteChange, only_change_values, only_next_own, only_own_hello}
use Rattle.depot_world.proofs.of_bytes.ByteSignatures.{SignsBytes}
use Rattle.depot_world.proofs.CheckpointChanges.{checkpoint_is_bytes, made_is_bytes}
use Rattle.depot_world.proofs.of_bytes.OnlyBytes.{OnlyBytes, by_places}

-- what it carries are bytes
abbrev pub IsByteRequest : Request → Type 0
IsByteRequest (request.Put changes) = AllByRecursion IsByteChange changes
IsByteRequest (request.Take stream piece) = OnlyBytes stream
IsByteRequest (request.Receipt ids) = AllByRecursion IsByteChange (receipt_changes ids)
IsByteRequest (request.Sign text) = OnlyBytes text
IsByteRequest other = Unit {0}

-- a node may be asked for it, and it carries bytes
pub record IsGoodRequest (r : Request) : Type 0 where
  pub is : IsRequest r
  pub only : IsByteRequest r

pub carries : (r : Request) → IsByteRequest r → CarriesBytes r
carries (request.Take stream piece) only = by_places stream only
carries (request.Sign text) only = by_places text only
carries other only = tt

-- what it leaves are bytes: the journal, and what is handed out
pub record LeavesBytes (s : Served) : Type 0 where
  pub holds : AllHold s.journal
  pub bytes : OnlyBytes (bytes_of_reply s.reply)

module _ (here : Setting) (sign : Signs) (J : List Record) (holds : AllHold J) (signs : SignsBytes sign) where
  by_put : (changes : List Change) (o : Option Limit) → AllByRecursion IsByteChange changes → LeavesBytes (put_served here J changes o)
  by_put changes (Some met) only = record { holds = holds; bytes = tt }
  by_put changes None only = record { holds = all_both HoldsBytes J (put_records here J changes) holds ((only_next_own here.me J changes only, only_change_values changes only), tt); bytes = tt }

  by_receipts : (ids : List (List ℕ)) (o : Option NoReceipt) → AllByRecursion IsByteChange (receipt_changes ids) → LeavesBytes (receipts_served here J ids o)
  by_receipts ids (Some (unknown id)) only = record { holds = holds; bytes = tt }
  by_receipts ids (Some (lacks_value id)) only = record { holds = holds; bytes = tt }
  by_receipts ids None only = by_put (receipt_changes ids) (limit_of_put here J (receipt_changes ids)) only

  by_sign : (text : List ℕ) (o : Opened) → OnlyBytes text → LeavesBytes (sign_served here J text o)
  by_sign text (ill_at at) only = record { holds = holds; bytes = tt }
  by_sign text (of_roster given) only = record { holds = holds; bytes = tt }
  by_sign text (with_unknown id) only = record { holds = holds; bytes = tt }
  by_sign text (opened ids) only = by_put (checkpoint_changes text) (limit_of_put here J (checkpoint_changes text)) (checkpoint_is_bytes text only)

  handed : (text : List ℕ) (changes : List Change) (o : Option Limit) → OnlyBytes text → LeavesBytes (put_served here J changes o) → LeavesBytes (handing text (put_served here J changes o))
  handed text changes (Some met) only left = left
  handed text changes None only left = record { holds = left.holds; bytes = only }

  by_checkpoint : (m : MadeCheckpoint) → make_of here J ≡ m → LeavesBytes (checkpoint_served here J m)
  by_checkpoint no_leaves is = record { holds = holds; bytes = tt }
  by_checkpoint (many_leaves n) is = record { holds = holds; bytes = tt }
  by_checkpoint (made_text text) is =
      let only = made_is_bytes here J text is in
      let o = limit_of_put here J (checkpoint_changes text) in
      handed text (checkpoint_changes text) o only (by_put (checkpoint_changes text) o (checkpoint_is_bytes text only))

  by_tests : (h : Hello) (other none : Bool) (o : Option Limit) → LeavesBytes (bundle_served J (cond other (other_roster h.roster) (cond none (bad_hello 2) (bundled_within o (bundle_of here.me sign J h)))))
  by_tests h true none o = record { holds = holds; bytes = tt }
  by_tests h false true o = record { holds = holds; bytes = tt }
  by_tests h false false (Some met) = record { holds = holds; bytes = tt }
  by_tests h false false None = record { holds = all_both HoldsBytes J (records_of (bundle_of here.me sign J h).vouchers) holds (bundle_vouchers_hold here.me sign J h); bytes = bundle_holds here.me sign J h signs holds }

  by_hello : (r : Result Hello ℕ) → LeavesBytes (bundle_served J (answer_to_hello here sign J r))
  by_hello (Err at) = record { holds = holds; bytes = tt }
  by_hello (Ok h) = by_tests h (not (bytes_eq h.roster (hash_of_roster here.listed))) (not (has_node here.listed h.node)) (limit_of_vouchers here J (unvouched here.me J (sent_for sign J h)))

  pub served_leaves_bytes : (r : Request) → IsByteRequest r → LeavesBytes (served here sign J r)
  unfolding served bundle_answer
  served_leaves_bytes (request.Put changes) only = by_put changes (limit_of_put here J changes) only
  served_leaves_bytes (request.Get key) only = record { holds = holds; bytes = tt }
  served_leaves_bytes request.Hello only = record { holds = holds; bytes = only_own_hello here J holds }
  served_leaves_bytes (request.Bundle text) only = by_hello (whole hello (record { at = 0; rest = text }))
  served_leaves_bytes (request.Take stream piece) only = record { holds = (feed_grows here J stream only holds).holds; bytes = tt }
  served_leaves_bytes (request.Receipt ids) only = by_receipts ids (no_receipt J ids) only
  served_leaves_bytes (request.Settled id k) only = record { holds = holds; bytes = tt }
  served_leaves_bytes request.Checkpoint only = by_checkpoint (make_of here J) refl
  served_leaves_bytes (request.Sign text) only = by_sign text (opened_text here J text) only
