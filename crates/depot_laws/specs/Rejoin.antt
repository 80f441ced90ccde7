-- Two histories that rejoin: a node takes what another one sends for its hello.
use Rattle.std.specs.Prelude.{◌≡◌, ℕ, ◌≤◌, List, [], ◌∷◌, ◌++◌, length, true, false, Some, ◌⊎◌, ◌↔◌}
use Rattle.std.specs.List.{flat_map}
use Rattle.depot_base.specs.declared.limits.TheConstants.{MOST_SIGNATURE}
use Rattle.depot_base.specs.Statement.{writer_of}
use Rattle.depot_base.specs.declared.update.Update.{Update}
use Rattle.depot_base.specs.declared.statement.Statement.{Statement}
use Rattle.depot_base.specs.declared.statement.Signed.{Signed}
use Rattle.depot_base.specs.declared.proof.Kind.{Kind}
use Rattle.depot_base.specs.declared.record.Record.{Record}
use Rattle.depot_base.specs.declared.check.Full.{Full}
use Rattle.depot_model.specs.declared.hello.Hello.{Hello}
use Rattle.depot_model.specs.declared.bundle.Ending.TheVariants as ending
use Rattle.depot_model.specs.lists.Lists.{IsIn}
use Rattle.depot_model.specs.texts.Texts.{id_of_update}
use Rattle.depot_model.specs.updates.Order.{parents}
use Rattle.depot_model.specs.updates.Contradictions.{contradicts}
use Rattle.depot_model.specs.texts.Roster.{is_signed}
use Rattle.depot_model.specs.journals.Journal.{accepted, own, foreign, update_in, is_convicted, held_as}
use Rattle.depot_model.specs.texts.Contents.{NamedValue, values_named}
use Rattle.depot_model.specs.exchange.Hello.{hello_of}
use Rattle.depot_model.specs.exchange.Bundle.{Signs, signed_with, Parcel, sent_for, statement_frame, Bundle, with_vouchers, bundle_of, bytes_of_bundle}
use Rattle.depot_model.specs.exchange.Feeding.{Feeding, report_of, out_of_room, feeding_from}
use Rattle.depot_model.specs.worlds.World.{World, Correct, setting_of}
use Rattle.depot_laws.specs.Streams.{fed_pieces}

-- the updates that parcels report, in order
abbrev pub updates_of : List Parcel → List Update
updates_of xs = flat_map (λ x. flat_map (λ s. update_in s.statement) x.told) xs

-- the hello of a node when its journal had these records
abbrev pub hello_at : World → Correct → List Record → Hello
hello_at W a P = hello_of (setting_of W a) P

-- what another node with the journal J sends for it
abbrev pub bundle_at : World → Correct → Correct → Signs → List Record → List Record → Bundle
bundle_at W a v sign P J = bundle_of v.node sign J (hello_at W a P)

-- the updates of that bundle
abbrev pub updates_sent : World → Correct → Signs → List Record → List Record → List Update
updates_sent W a sign P J = updates_of (sent_for sign J (hello_at W a P))

-- A node v of a world hears a hello of another, a. The reader a made it when its journal was P, and its journal may have grown
-- since. The sender's journal was J, and may have grown since.
pub record Hears (W : World) (a v : Correct) (P J : List Record) : Type 0 where
  pub reader : IsIn a W.nodes
  pub sender : IsIn v W.nodes
  pub distinct : a.node ≡ v.node → ⊥
  pub later : List Record
  pub hello_was : a.journal ≡ P ++ later
  pub since : List Record
  pub had : v.journal ≡ J ++ since

-- the update with this id is one that the reader accepted, or one of those sent earlier
pub record HasOrGets (a : Correct) (front : List Update) (h : List ℕ) : Type 0 where
  pub parent : Update
  pub id : id_of_update parent ≡ h
  pub on : IsIn parent (accepted a.journal) ⊎ IsIn parent front

-- each parent of each of these updates is one that the reader accepted, or one of those before it
abbrev pub ComeInOrder : Correct → List Update → Type 0
ComeInOrder a us = (front : List Update) (u : Update) (behind : List Update) → us ≡ front ++ u ∷ behind → (h : List ℕ) → IsIn h (parents u) → HasOrGets a front h

-- where the bundle doesn't say that there is more, each update that the sender had accepted the reader has, or it is sent
abbrev pub SendsAll : World → Correct → Correct → Signs → List Record → List Record → Type 0
SendsAll W a v sign P J = (u : Update) → (bundle_at W a v sign P J).more ≡ false → IsIn u (accepted J)
    → IsIn u (accepted a.journal) ⊎ IsIn u (updates_sent W a sign P J)

-- the signature isn't too long, and verifies under the writer's key
pub record IsWellSigned (W : World) (s : Signed) : Type 0 where
  pub short : length s.signature ≤ MOST_SIGNATURE
  pub verified : is_signed W.verifies W.listed s ≡ true

-- Two nodes of a world meet. The reader a made its hello when its journal was P, and its journal may have grown since.
-- The sender v made its bundle when its journal was J, the bundle's vouchers are in its journal, and it may have grown
-- since. The sender's own statements in the bundle are well signed.
pub record Meet (W : World) (a v : Correct) (sign : Signs) (P J : List Record) : Type 0 where
  pub reader : IsIn a W.nodes
  pub sender : IsIn v W.nodes
  pub distinct : a.node ≡ v.node → ⊥
  pub later : List Record
  pub hello_was : a.journal ≡ P ++ later
  pub since : List Record
  pub bundle_was : v.journal ≡ with_vouchers J (bundle_at W a v sign P J).vouchers ++ since
  pub signs : (s : Statement) → IsIn s (own (with_vouchers J (bundle_at W a v sign P J).vouchers))
      → IsIn (statement_frame (signed_with sign s)) (bundle_at W a v sign P J).frames → IsWellSigned W (signed_with sign s)

-- The reader has all that both had accepted. No frame was refused, and the stream was whole. Each value that the sender held for
-- an update which it sent is held. Statements of others that contradict each other have a convicted writer.
pub record HasRejoined (W : World) (a v : Correct) (sign : Signs) (P J : List Record) (s : Feeding) : Type 0 where
  pub union : (u : Update) → (IsIn u (accepted s.journal) ↔ (IsIn u (accepted a.journal) ⊎ IsIn u (accepted J)))
  pub none_refused : (report_of s).refused ≡ []
  pub whole : (report_of s).ending ≡ ending.Whole
  pub values : (u : Update) (n : NamedValue) (value : List ℕ) → IsIn u (updates_sent W a sign P J) → IsIn n (values_named u) → held_as J n ≡ Some value → held_as s.journal n ≡ Some value
  pub exposed : (f g : Signed) → IsIn f (foreign s.journal) → IsIn g (foreign s.journal) → (k : Kind) → contradicts k f.statement g.statement ≡ true
      → is_convicted s.journal (writer_of f.statement) ≡ true

-- the reader's feed after these pieces
abbrev pub feed_after : World → Correct → List (List ℕ) → Feeding
feed_after W a pieces = fed_pieces (setting_of W a) (feeding_from a.journal) pieces

-- The pieces are all of a bundle that leaves nothing out, and the reader meets no limit in taking them.
pub record TakesAll (W : World) (a v : Correct) (sign : Signs) (P J : List Record) (pieces : List (List ℕ)) : Type 0 where
  pub all : (bundle_at W a v sign P J).more ≡ false
  pub are : flat_map (λ p. p) pieces ≡ bytes_of_bundle (bundle_at W a v sign P J)
  pub has_room : (what : Full) → (feed_after W a pieces).closed ≡ Some (out_of_room what) → ⊥

-- where the reader takes all of the bundle, in whatever pieces, it has rejoined
abbrev pub Rejoins : World → Correct → Correct → Signs → List Record → List Record → Type 0
Rejoins W a v sign P J = (pieces : List (List ℕ)) → TakesAll W a v sign P J pieces → HasRejoined W a v sign P J (feed_after W a pieces)
