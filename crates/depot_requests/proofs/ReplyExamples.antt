-- Worked examples of replies: their messages.
use Rattle.std.proofs.Common.{◌≡◌, ℕ, List, [], ◌∷◌, ◌++◌, replicate, true, false, Option, Some, None, refl}
use Rattle.depot_answers.specs.declared.exchange_answers.Closing.TheVariants as closing
use Rattle.depot_base.specs.Closed.{rest_of}
use Rattle.depot_base.specs.Cursor.{numeral}
use Rattle.depot_base.specs.Format.{number, bytes_of, list_of}
use Rattle.depot_base.specs.declared.check.Check.TheVariants as check
use Rattle.depot_base.specs.declared.check.FullOf.TheVariants as full_of
use Rattle.depot_model.specs.declared.bundle.Ending.TheVariants as ending
use Rattle.depot_model.specs.declared.put_answers.PutDone.{PutDone}
use Rattle.depot_requests.specs.declared.reply.NodeLimit.TheVariants as limit
use Rattle.depot_requests.specs.declared.reply.Reason.TheVariants as reason
use Rattle.depot_requests.specs.declared.reply.Reply.TheVariants as reply
use Rattle.depot_requests.specs.ReplyTexts.{checkpoint_text, handed_text, reply_text, stream_text, text_of_reply, told_behind}
use Rattle.depot_requests.specs.TellingTexts.{check_behind, check_text, closing_behind, closing_text, counts_text, done_text, ending_behind, ending_text, flag_text, full_text, limit_behind, limit_text, reason_behind, reason_text, refusal_text, stream_report}

abbrev id : List ℕ
id = replicate 32 5

abbrev done : PutDone
done = record { id = id; seq = 1; clock = 2 }

abbrev done_bytes : List ℕ
done_bytes = id ++ (0 ∷ 0 ∷ 0 ∷ 1 ∷ 0 ∷ 0 ∷ 0 ∷ 0 ∷ 0 ∷ 0 ∷ 0 ∷ 2 ∷ [])

record RepliesWritten : Type 0 where
  pub put : text_of_reply (reply.Put done) ≡ 0 ∷ 0 ∷ 0 ∷ 45 ∷ 1 ∷ done_bytes
  pub read : text_of_reply (reply.Read (32 ∷ 49 ∷ [])) ≡ 0 ∷ 0 ∷ 0 ∷ 3 ∷ 2 ∷ 32 ∷ 49 ∷ []
  pub bundle : text_of_reply (reply.Bundle (4 ∷ 9 ∷ []) (record { proofs = 1; vouchers = 2; updates = 3; values = 4 }) true) ≡ 0 ∷ 0 ∷ 0 ∷ 20 ∷ 4 ∷ 0 ∷ 0 ∷ 0 ∷ 1 ∷ 0 ∷ 0 ∷ 0 ∷ 2 ∷ 0 ∷ 0 ∷ 0 ∷ 3 ∷ 0 ∷ 0 ∷ 0 ∷ 4 ∷ 1 ∷ 4 ∷ 9 ∷ []
  -- a stream of one new frame, and one that was refused
  pub stream : text_of_reply (reply.Stream (record { accepted = 1; known = 0; refused = record { frame = 1; check = check.ClockFar 7 } ∷ []; ending = ending.Whole }) None)
      ≡ 0 ∷ 0 ∷ 0 ∷ 28 ∷ 5 ∷ 0 ∷ 0 ∷ 0 ∷ 1 ∷ 0 ∷ 0 ∷ 0 ∷ 0 ∷ 2 ∷ 0 ∷ 0 ∷ 0 ∷ 1 ∷ 0 ∷ 0 ∷ 0 ∷ 1 ∷ 9 ∷ 0 ∷ 0 ∷ 0 ∷ 0 ∷ 0 ∷ 0 ∷ 0 ∷ 7 ∷ 0 ∷ []
  -- one that was closed, with 3 bytes of a frame open
  pub closed : text_of_reply (reply.Stream (record { accepted = 0; known = 0; refused = []; ending = ending.Cut 3 }) (Some (closing.IllFormed 8)))
      ≡ 0 ∷ 0 ∷ 0 ∷ 27 ∷ 5 ∷ 0 ∷ 0 ∷ 0 ∷ 0 ∷ 0 ∷ 0 ∷ 0 ∷ 0 ∷ 5 ∷ 0 ∷ 0 ∷ 0 ∷ 3 ∷ 0 ∷ 0 ∷ 0 ∷ 0 ∷ 1 ∷ 0 ∷ 0 ∷ 0 ∷ 0 ∷ 0 ∷ 0 ∷ 0 ∷ 8 ∷ []
  pub settled : text_of_reply (reply.Settled true) ≡ 0 ∷ 0 ∷ 0 ∷ 2 ∷ 6 ∷ 1 ∷ []
  pub unsettled : text_of_reply (reply.Settled false) ≡ 0 ∷ 0 ∷ 0 ∷ 2 ∷ 6 ∷ 0 ∷ []
  pub checkpoint : text_of_reply (reply.Checkpoint done (4 ∷ [])) ≡ 0 ∷ 0 ∷ 0 ∷ 46 ∷ 7 ∷ done_bytes ++ (4 ∷ [])
  pub unknown : text_of_reply (reply.Refused (reason.Unknown id)) ≡ 0 ∷ 0 ∷ 0 ∷ 34 ∷ 8 ∷ 4 ∷ id
  pub full : text_of_reply (reply.Refused (reason.Limit (limit.Full (record { what = full_of.Bytes; number = 6 })))) ≡ 0 ∷ 0 ∷ 0 ∷ 8 ∷ 8 ∷ 1 ∷ 4 ∷ 2 ∷ 0 ∷ 0 ∷ 0 ∷ 6 ∷ []

the_replies : RepliesWritten
unfolding numeral number bytes_of list_of rest_of flag_text done_text full_text check_behind check_text ending_behind ending_text closing_behind closing_text refusal_text stream_report counts_text limit_behind limit_text reason_behind reason_text handed_text stream_text checkpoint_text told_behind reply_text
the_replies = record {
  put = refl;
  read = refl;
  bundle = refl;
  stream = refl;
  closed = refl;
  settled = refl;
  unsettled = refl;
  checkpoint = refl;
  unknown = refl;
  full = refl;
}
