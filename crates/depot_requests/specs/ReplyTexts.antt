-- The texts of replies: a kind, and what the kind calls for; and the messages with these texts.
use Rattle.std.specs.Prelude.{ℕ, List, ◌++◌, length, Bool, Option, Some, None, ◌==◌}
use Rattle.std.specs.Int.{w8, w32}
use Rattle.depot_answers.specs.declared.exchange_answers.Closing.{Closing}
use Rattle.depot_base.specs.Closed.{Closed, closing, rest_of, before, closed_variant, closed_choose}
use Rattle.depot_base.specs.Cursor.{numeral}
use Rattle.depot_base.specs.Format.{Format, number, field, made_of_fields}
use Rattle.depot_model.specs.exchange.Hello.{hello}
use Rattle.depot_model.specs.declared.bundle.Counts.{Counts}
use Rattle.depot_model.specs.declared.bundle.Report.{Report}
use Rattle.depot_model.specs.declared.hello.Hello.{Hello}
use Rattle.depot_model.specs.declared.put_answers.PutDone.{PutDone}
use Rattle.depot_requests.specs.declared.reply.Reason.{Reason}
use Rattle.depot_requests.specs.declared.reply.Reply.{Reply}
use Rattle.depot_requests.specs.declared.reply.Reply.TheVariants as reply
use Rattle.depot_requests.specs.ClosedParts.{last_field, own_text}
use Rattle.depot_requests.specs.TellingTexts.{closing_text, counts_text, done_text, flag_text, reason_text, stream_report}

-- ---- what each kind of reply has

abbrev pub as_done : Reply → Option PutDone
as_done (reply.Put done) = Some done
as_done r = None

abbrev pub as_words : Reply → Option (List ℕ)
as_words (reply.Read words) = Some words
as_words r = None

abbrev pub as_hello : Reply → Option (List ℕ × Hello)
as_hello (reply.Hello said text) = Some (text, said)
as_hello r = None

abbrev pub as_handed : Reply → Option (Counts × (Bool × List ℕ))
as_handed (reply.Bundle bytes counts more) = Some (counts, (more, bytes))
as_handed r = None

abbrev pub as_stream : Reply → Option (Report × Option Closing)
as_stream (reply.Stream report why) = Some (report, why)
as_stream r = None

abbrev pub as_enough : Reply → Option Bool
as_enough (reply.Settled enough) = Some enough
as_enough r = None

abbrev pub as_checkpoint : Reply → Option (PutDone × List ℕ)
as_checkpoint (reply.Checkpoint done text) = Some (done, text)
as_checkpoint r = None

abbrev pub as_refused : Reply → Option Reason
as_refused (reply.Refused why) = Some why
as_refused r = None

-- ---- the text after the kind

-- the most bytes that a reply hands out, so that each offset in its text fits into four bytes
abbrev pub most_handed : ℕ
most_handed = 4294967200

-- how many frames a bundle has, whether there is more, and its stream
unfoldable pub handed_text : Closed (Counts × (Bool × List ℕ))
handed_text =
    before counts_text (λ b. b.0) λ counts.
    before flag_text (λ b. b.1.0) λ more.
    last_field (λ bytes. (counts, (more, bytes))) (λ b. b.1.1) (rest_of most_handed)

-- what became of a stream, and why its feed was closed
unfoldable pub stream_text : Format (Report × Option Closing)
stream_text =
    field stream_report (λ s. s.0) λ report.
    field closing_text (λ s. s.1) λ why.
    made_of_fields (report, why)

-- the update by which a checkpoint was put, and its text
unfoldable pub checkpoint_text : Closed (PutDone × List ℕ)
checkpoint_text =
    before done_text (λ c. c.0) λ done.
    last_field (λ text. (done, text)) (λ c. c.1) (rest_of most_handed)

abbrev pub reply_kind : Reply → ℕ
reply_kind (reply.Put done) = 1
reply_kind (reply.Read words) = 2
reply_kind (reply.Hello said text) = 3
reply_kind (reply.Bundle bytes counts more) = 4
reply_kind (reply.Stream report why) = 5
reply_kind (reply.Settled enough) = 6
reply_kind (reply.Checkpoint done text) = 7
reply_kind (reply.Refused why) = 8

-- what follows a kind
unfoldable pub told_behind : ℕ → Closed Reply
told_behind kind =
    closed_choose (kind == 1) (closed_variant (λ done. reply.Put done) as_done (closing done_text))
    (closed_choose (kind == 2) (closed_variant (λ words. reply.Read words) as_words (rest_of most_handed))
    (closed_choose (kind == 3) (closed_variant (λ h. reply.Hello h.1 h.0) as_hello (own_text hello))
    (closed_choose (kind == 4) (closed_variant (λ b. reply.Bundle b.1.1 b.0 b.1.0) as_handed handed_text)
    (closed_choose (kind == 5) (closed_variant (λ s. reply.Stream s.0 s.1) as_stream (closing stream_text))
    (closed_choose (kind == 6) (closed_variant (λ enough. reply.Settled enough) as_enough (closing flag_text))
    (closed_choose (kind == 7) (closed_variant (λ c. reply.Checkpoint c.0 c.1) as_checkpoint checkpoint_text)
    (closed_variant (λ why. reply.Refused why) as_refused (closing reason_text))))))))

-- a kind, and what follows it
unfoldable pub reply_text : Closed Reply
reply_text = before (number w8 1 8) reply_kind told_behind

-- ---- the message

-- The message of a reply: the length of its text, as four bytes, and its text. Each reply has one, whether or not it is
-- in the ranges of its fields.
abbrev pub text_of_reply : Reply → List ℕ
text_of_reply r = numeral w32 (length (reply_text.text r)) ++ reply_text.text r
