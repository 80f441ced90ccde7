-- What is chosen for the text of a hello, before any voucher is made.
use Rattle.std.specs.Prelude.{◌≡◌, ℕ, List, Bool, true, false, not, Result, Ok, Err, if◌then◌else◌}
use Rattle.std.specs.Str.{bytes_eq}
use Rattle.depot_base.specs.Format.{whole}
use Rattle.depot_base.specs.declared.record.Record.{Record}
use Rattle.depot_model.specs.declared.hello.Hello.{Hello}
use Rattle.depot_model.specs.checks.Checks.{Setting}
use Rattle.depot_model.specs.exchange.Hello.{hello}
use Rattle.depot_model.specs.journals.Journal.{accepted, is_foreign}
use Rattle.depot_model.specs.lists.Lists.{AreApart, IsIn}
use Rattle.depot_model.specs.texts.Roster.{has_node}
use Rattle.depot_model.specs.texts.Texts.{hash_of_roster}
use Rattle.depot_model.specs.checks.Vouching.{limit_of_vouchers, new_vouchers}
use Rattle.depot_model.specs.exchange.Bundle.{Bundle, BundleAnswer, Parcel, Signs, bad_hello, other_roster, bundle_answer, bundle_frames, bundled_within, bundle_of, counts_of, sent_for, unvouched, with_vouchers}
use Rattle.depot_streams.specs.Sendings.{Holds}
use Rattle.depot_gossip.specs.Choosing.{leaves_out}
use Rattle.depot_gossip.specs.declared.preparing.Prepared.{Prepared}
use Rattle.depot_gossip.specs.declared.bundle_error.BundleError.{BundleError}
use Rattle.depot_gossip.specs.declared.bundle_error.BundleError.TheVariants as error

-- the text is that of this hello, for this node
abbrev pub IsHeard : Setting → Signs → List Record → List ℕ → Hello → Type 0
IsHeard here sign J text h = bundle_answer here sign J text ≡ bundled_within (limit_of_vouchers here J (unvouched here.me J (sent_for sign J h))) (bundle_of here.me sign J h)

-- The answer to what was read of a text, if this is the answer to a hello of the node's roster, which has the hello's
-- node.
abbrev pub answer_as_read : Setting → (Hello → BundleAnswer) → Result Hello ℕ → BundleAnswer
answer_as_read here answer (Err at) = bad_hello at
answer_as_read here answer (Ok h) =
    if not (bytes_eq h.roster (hash_of_roster here.listed)) then other_roster h.roster
    else (if not (has_node here.listed h.node) then bad_hello 2 else answer h)

-- the answer to a text that is given as a hello
abbrev pub answer_to_bytes : Setting → (Hello → BundleAnswer) → List ℕ → BundleAnswer
answer_to_bytes here answer text = answer_as_read here answer (whole hello (record { at = 0; rest = text }))

-- what is read of a text, before anything is chosen
abbrev pub ReadsHello : Setting → (Hello → BundleAnswer) → List ℕ → Result Hello BundleError → Type 0
ReadsHello here answer text (Ok h) = answer_to_bytes here answer text ≡ answer h
ReadsHello here answer text (Err error.Memory) = Unit {0}
ReadsHello here answer text (Err error.Disk) = ⊥
ReadsHello here answer text (Err error.Stopped) = ⊥
ReadsHello here answer text (Err (error.IllFormed at)) = answer_to_bytes here answer text ≡ bad_hello at
ReadsHello here answer text (Err (error.OtherRoster given mine)) = (answer_to_bytes here answer text ≡ other_roster given) × (mine ≡ hash_of_roster here.listed)
ReadsHello here answer text (Err (error.Spent n)) = ⊥
ReadsHello here answer text (Err (error.Full what)) = ⊥

-- The bundle that sends these parcels for a hello and says whether there is more.
abbrev pub bundle_with : ℕ → Signs → List Record → Hello → List Parcel → Bool → Bundle
bundle_with me sign J h xs more =
    let vs = new_vouchers me J (unvouched me J xs) in
    record { vouchers = vs; frames = bundle_frames me sign (with_vouchers J vs) h xs more; counts = counts_of me (with_vouchers J vs) h xs; more = more }

-- That bundle, unless its vouchers meet a limit.
abbrev pub answer_with : Setting → Signs → List Record → Hello → List Parcel → Bool → BundleAnswer
answer_with here sign J h xs more = bundled_within (limit_of_vouchers here J (unvouched here.me J xs)) (bundle_with here.me sign J h xs more)

-- What is prepared is ready to be sent: it holds these parcels, and the ids to vouch for first, each once, each of an
-- accepted update of another writer; and their bundle is the answer.
pub record IsReady (here : Setting) (sign : Signs) (J : List Record) (answer : BundleAnswer) (xs : List Parcel) (p : Prepared) : Type 0 where
  pub is : answer ≡ answer_with here sign J p.hello xs p.sending.more
  pub holds : Holds here.me xs p.sending
  pub ids : p.unvouched ≡ unvouched here.me J xs
  pub apart : AreApart (unvouched here.me J xs)
  pub foreign : (h : List ℕ) → IsIn h (unvouched here.me J xs) → is_foreign here.me (accepted J) h ≡ true

-- What is chosen for a hello, and the ids to vouch for before it is sent.
pub record IsPrepared (here : Setting) (sign : Signs) (J : List Record) (stopped : Bool) (text : List ℕ) (p : Prepared) : Type 0 where
  pub runs : stopped ≡ false
  pub heard : IsHeard here sign J text p.hello
  pub holds : Holds here.me (sent_for sign J p.hello) p.sending
  pub more : p.sending.more ≡ leaves_out sign J p.hello
  pub ids : p.unvouched ≡ unvouched here.me J (sent_for sign J p.hello)

-- the same of an answer
abbrev pub Prepares : Setting → Signs → List Record → Bool → List ℕ → Result Prepared BundleError → Type 0
Prepares here sign J stopped text (Ok p) = IsPrepared here sign J stopped text p
Prepares here sign J stopped text (Err error.Memory) = stopped ≡ false
Prepares here sign J stopped text (Err error.Disk) = ⊥
Prepares here sign J stopped text (Err error.Stopped) = stopped ≡ true
Prepares here sign J stopped text (Err (error.IllFormed at)) = (stopped ≡ false) × (bundle_answer here sign J text ≡ bad_hello at)
Prepares here sign J stopped text (Err (error.OtherRoster given mine)) = (stopped ≡ false) × ((bundle_answer here sign J text ≡ other_roster given) × (mine ≡ hash_of_roster here.listed))
Prepares here sign J stopped text (Err (error.Spent n)) = ⊥
Prepares here sign J stopped text (Err (error.Full what)) = ⊥
