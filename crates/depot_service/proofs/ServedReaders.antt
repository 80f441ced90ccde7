-- What is replied to requests of readers, by what the calls below answer.
use Rattle.std.proofs.Common.{◌≡◌, ℕ, List, length, Option, Some, None, Result, Ok, Err, refl, sym, ap, subst, ◌∙◌}
use Rattle.depot_base.specs.declared.memory.Memory.{Memory}
use Rattle.depot_base.specs.declared.record.Record.{Record}
use Rattle.depot_model.specs.checks.Checks.{Setting}
use Rattle.depot_model.specs.journals.Journal.{accepted}
use Rattle.depot_model.specs.readers.ReaderFeeds.{ReaderFeed}
use Rattle.depot_model.specs.readers.Readers.{Reader, TrimAnswer, kept, trim_of}
use Rattle.depot_model.specs.texts.Roster.{Verifies}
use Rattle.depot_requests.specs.ReaderRequests.{ReaderServed, counts_of_feed, made_served, served_last, use_served}
use Rattle.depot_requests.specs.declared.reader_reply.ReaderReply.{ReaderReply}
use Rattle.depot_requests.specs.declared.reader_reply.ReaderReply.TheVariants as told
use Rattle.depot_requests.specs.declared.reader_request.ReaderUse.{ReaderUse}
use Rattle.depot_requests.specs.declared.reader_request.ReaderUse.TheVariants as uses
use Rattle.depot_trim.specs.ReaderAnswers.{Trims}
use Rattle.depot_trim.specs.ReaderView.{IsReaderOf}
use Rattle.depot_trim.specs.declared.trim_error.TrimError.{TrimError}
use Rattle.depot_trim.specs.declared.trim_error.TrimError.TheVariants as untrimmed
use Rattle.depot_trim.specs.declared.trimmed.Trimmed.{Trimmed}
use Rattle.depot_service.specs.ReaderCalls.{IsLastLeftUsed, IsReaderServed, IsSomebodys, KeepsReader, UsesLast, UsesReader, reply_of_untrimmed}
use Rattle.depot_service.specs.ReaderFeeding.{IsReaderFed, IsReaderTold}
use Rattle.depot_service.specs.declared.readers.ReaderFeedResult.{ReaderFeedResult}

-- ---- a reader is made, or not

pub one_made : {S : Type 0} (verifies : Verifies) (here : Setting) (J : List Record) (text : List ℕ) (t : Trimmed S) (left all : ℕ) → Trims verifies here J text (Ok t) → ((R : Reader) → IsReaderOf verifies R t → left ≡ length (kept R))
    → ((R : Reader) → IsReaderOf verifies R t → all ≡ length (accepted R.journal)) → IsReaderServed verifies (made_served (trim_of here J text)) (told.Made left all) (Some t)
one_made verifies here J text t left all trims keeps counts =
    let R = trims.0 in
    subst (λ (a : TrimAnswer). IsReaderServed verifies (made_served a) (told.Made left all) (Some t)) (sym trims.1.0)
    (record { reply_is = ap (λ (n : ℕ). told.Made n all) (keeps R trims.1.1) ∙ ap (λ (n : ℕ). told.Made (length (kept R)) n) (counts R trims.1.1); keeps = trims.1.1 })

pub none_made : {S : Type 0} (verifies : Verifies) (here : Setting) (J : List Record) (text : List ℕ) (e : TrimError) (reply : ReaderReply) → Trims {S = S} verifies here J text (Err e) → reply_of_untrimmed e ≡ Some reply → IsReaderServed {S = S} verifies (made_served (trim_of here J text)) reply None
none_made verifies here J text untrimmed.Memory reply trims is = absurd cc
none_made {S = S} verifies here J text (untrimmed.IllFormed at) reply trims is = subst (λ (a : TrimAnswer). IsReaderServed {S = S} verifies (made_served a) reply None) (sym trims) (record { reply_is = cc; keeps = tt })
none_made {S = S} verifies here J text (untrimmed.OtherRoster given mine) reply trims is = subst (λ (a : TrimAnswer). IsReaderServed {S = S} verifies (made_served a) reply None) (sym trims.0) (record { reply_is = cc; keeps = tt })
none_made {S = S} verifies here J text (untrimmed.Unknown id) reply trims is = subst (λ (a : TrimAnswer). IsReaderServed {S = S} verifies (made_served a) reply None) (sym trims) (record { reply_is = cc; keeps = tt })
none_made {S = S} verifies here J text (untrimmed.Unsigned node) reply trims is = subst (λ (a : TrimAnswer). IsReaderServed {S = S} verifies (made_served a) reply None) (sym trims) (record { reply_is = cc; keeps = tt })

-- ---- a reader is used

-- what is reported of a stream is its feed
told_took : (s : ReaderFeed) (t : ReaderFeedResult) → IsReaderTold s t → told.Took t.counts t.full ≡ told.Took (counts_of_feed s) s.full
told_took s t is =
    ap (λ (n : ℕ). told.Took (record { accepted = n; known = t.counts.known; refused = t.counts.refused; below = t.counts.below }) t.full) (sym is.accepted)
    ∙ ap (λ (n : ℕ). told.Took (record { accepted = s.accepted; known = n; refused = t.counts.refused; below = t.counts.below }) t.full) (sym is.known)
    ∙ ap (λ (n : ℕ). told.Took (record { accepted = s.accepted; known = s.known; refused = n; below = t.counts.below }) t.full) (sym is.refused)
    ∙ ap (λ (n : ℕ). told.Took (record { accepted = s.accepted; known = s.known; refused = s.refused; below = n }) t.full) (sym is.below)
    ∙ ap (told.Took (counts_of_feed s)) (sym is.full)

pub stream_used : {S : Type 0} (verifies : Verifies) (R : Reader) (stream : List ℕ) (t : ReaderFeedResult) (reader : Trimmed S) → IsReaderFed verifies R stream (Ok t) reader → UsesReader verifies R (uses.Give stream) (Ok (told.Took t.counts t.full)) reader
stream_used verifies R stream t reader fed = (told_took _ t fed.0, fed.1)

-- the last one is
pub last_used : {S : Type 0} (verifies : Verifies) (u : ReaderUse) (old new : Trimmed S) (result : Result ReaderReply Memory) → ((R : Reader) → IsReaderOf verifies R old → UsesReader verifies R u result new) → UsesLast verifies (Some old) u result (Some new)
last_used verifies u old new (Ok reply) used = λ last keeps. by_last last keeps where
  by_last : (last : Option Reader) → KeepsReader verifies (Some old) last → IsReaderServed verifies (use_served last u) reply (Some new)
  by_last None keeps = absurd keeps
  by_last (Some R) keeps = record { reply_is = (used R keeps).0; keeps = (used R keeps).1 }
last_used verifies u old new (Err memory) used = λ last keeps. by_last last keeps where
  by_last : (last : Option Reader) → KeepsReader verifies (Some old) last → IsLastLeftUsed verifies last u (Some new)
  by_last None keeps = absurd keeps
  by_last (Some R) keeps = used R keeps

-- there is none
pub none_used : {S : Type 0} (verifies : Verifies) (u : ReaderUse) → UsesLast {S = S} verifies None u (Ok told.NoReader) None
none_used verifies u None keeps = record { reply_is = refl; keeps = tt }
none_used verifies u (Some R) keeps = absurd keeps

-- ---- the last reader

-- the reader that was made is the last one
pub made_serves : {S : Type 0} (verifies : Verifies) (d : ReaderServed) (reply : ReaderReply) (t : Trimmed S) (last : Option Reader) → IsReaderServed verifies d reply (Some t) → IsReaderServed verifies (served_last last d) reply (Some t)
made_serves {S = S} verifies d reply t last served = by_reader d.reader refl served.keeps where
  by_reader : (o : Option Reader) → d.reader ≡ o → KeepsReader verifies (Some t) o → IsReaderServed {S = S} verifies (elim o as (λ x. ReaderServed) [ None ↦ record { reader = last; reply = d.reply } | Some R ↦ d ]) reply (Some t)
  by_reader None is keeps = absurd keeps
  by_reader (Some R) is keeps = served

-- ---- somebody's

-- what is kept is somebody's where it is a reader's
pub kept_somebodys : {S : Type 0} (verifies : Verifies) (kept : Option (Trimmed S)) (last : Option Reader) → KeepsReader verifies kept last → IsSomebodys verifies kept
kept_somebodys verifies None None keeps = tt
kept_somebodys verifies None (Some R) keeps = absurd keeps
kept_somebodys verifies (Some t) None keeps = absurd keeps
kept_somebodys verifies (Some t) (Some R) keeps = (R, keeps)

-- and the other way round
pub somebody_kept : {S : Type 0} (verifies : Verifies) (kept : Option (Trimmed S)) → IsSomebodys verifies kept → (last : Option Reader) × KeepsReader verifies kept last
somebody_kept verifies None somebodys = (None, tt)
somebody_kept verifies (Some t) somebodys = (Some somebodys.0, somebodys.1)
