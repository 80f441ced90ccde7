-- A node that asks again and again: it takes the bounded bundle that another makes for its hello, and asks anew with a
-- new hello.
use Rattle.std.specs.Prelude.{◌≡◌, ◌⊎◌, ◌≤◌, ◌<◌, ℕ, List, [], ◌∷◌, ◌++◌, length, map, filter, true, false, not, Some, if◌then◌else◌}
use Rattle.std.specs.List.{AllByRecursion, flat_map}
use Rattle.depot_base.specs.declared.check.Full.{Full}
use Rattle.depot_base.specs.declared.record.Record.{Record}
use Rattle.depot_base.specs.declared.statement.Statement.{Statement}
use Rattle.depot_base.specs.declared.update.Update.{Update}
use Rattle.depot_model.specs.declared.bundle.Ending.TheVariants as ending
use Rattle.depot_model.specs.declared.hello.Hello.{Hello}
use Rattle.depot_model.specs.declared.hello.HelloLeaf.{HelloLeaf}
use Rattle.depot_model.specs.exchange.Bundle.{Bundle, Parcel, Signs, bytes_of_bundle, is_covered, signed_with, statement_frame, with_vouchers}
use Rattle.depot_model.specs.exchange.Feeding.{Feeding, out_of_room, report_of}
use Rattle.depot_model.specs.exchange.Hello.{hello_of, named_leaf}
use Rattle.depot_model.specs.journals.Journal.{accepted, has_id, held_as, own}
use Rattle.depot_model.specs.lists.Lists.{IsIn}
use Rattle.depot_model.specs.texts.Contents.{NamedValue, values_named}
use Rattle.depot_model.specs.texts.Texts.{id_of_update}
use Rattle.depot_model.specs.updates.History.{leaves_of}
use Rattle.depot_model.specs.worlds.World.{Correct, IsAuthentic, IsCollisionFree, IsWorld, World, setting_of}
use Rattle.depot_laws.specs.Rejoin.{IsWellSigned, feed_after, updates_of}
use Rattle.depot_gossip.specs.Bounding.{bounded_bundle, bounded_sent, fit_a_bundle, has_few_vouchers, parcels_of}
use Rattle.depot_gossip.specs.FarHellos.{far_hello}
use Rattle.depot_gossip.specs.declared.bounds.Bounds.{Bounds}

-- ---- a round

-- A node asks another once. The world is that when the asker takes the bundle; the asked one made it when its journal
-- was these records. The bundle comes in these pieces.
pub record Round : Type 0 where
  pub world : World
  pub asker : Correct
  pub asked : Correct
  pub sign : Signs
  pub records : List Record
  pub hello : Hello
  pub bounds : Bounds
  pub pieces : List (List ℕ)

-- what is sent in a round
abbrev pub sent_in : Round → List Parcel
sent_in r = bounded_sent (setting_of r.world r.asked) r.sign r.records r.hello r.bounds

-- the bundle of a round
abbrev pub bundle_in : Round → Bundle
bundle_in r = bounded_bundle (setting_of r.world r.asked) r.sign r.records r.hello r.bounds

-- the asker's feed once all pieces came
abbrev pub round_fed : Round → Feeding
round_fed r = feed_after r.world r.asker r.pieces

-- a hello of this node: it has the node's number, and names only updates that the node has accepted
pub record IsHelloOf (a : Correct) (h : Hello) : Type 0 where
  pub node : h.node ≡ a.node
  pub names : (l : HelloLeaf) → IsIn l h.leaves → (u : Update) × (IsIn u (accepted a.journal) × (named_leaf u ≡ l))

-- Two nodes of an authentic world without collisions. The asker's hello is its own, and it takes all of the bounded
-- bundle that is made for it, without meeting a limit. The bundle's vouchers are in the journal of the asked one, whose
-- own statements in it are well signed. It isn't of own updates alone.
pub record IsRound (r : Round) : Type 0 where
  pub world : IsWorld r.world
  pub authentic : IsAuthentic r.world
  pub free : IsCollisionFree r.world
  pub reader : IsIn r.asker r.world.nodes
  pub sender : IsIn r.asked r.world.nodes
  pub distinct : r.asker.node ≡ r.asked.node → ⊥
  pub hello : IsHelloOf r.asker r.hello
  pub all : r.bounds.own ≡ false
  pub since : List Record
  pub bundle_was : r.asked.journal ≡ with_vouchers r.records (bundle_in r).vouchers ++ since
  pub signs : (s : Statement) → IsIn s (own (with_vouchers r.records (bundle_in r).vouchers)) → IsIn (statement_frame (signed_with r.sign s)) (bundle_in r).frames → IsWellSigned r.world (signed_with r.sign s)
  pub comes : flat_map (λ p. p) r.pieces ≡ bytes_of_bundle (bundle_in r)
  pub has_room : (what : Full) → (round_fed r).closed ≡ Some (out_of_room what) → ⊥

-- No frame is refused, and the stream ends as the bundle says. The asker has all that it had, and each update that was
-- sent, with each value that the asked one held for it; the rest of what it has the asked one had. It has all that the
-- asked one had if the bundle doesn't say that there is more.
pub record HasTaken (r : Round) : Type 0 where
  pub none_refused : (report_of (round_fed r)).refused ≡ []
  pub ends : (report_of (round_fed r)).ending ≡ (if (bundle_in r).more then ending.More else ending.Whole)
  pub kept : (u : Update) → IsIn u (accepted r.asker.journal) → IsIn u (accepted (round_fed r).journal)
  pub sent : (u : Update) → IsIn u (updates_of (sent_in r)) → IsIn u (accepted (round_fed r).journal)
  pub values : (u : Update) (n : NamedValue) (x : List ℕ) → IsIn u (updates_of (sent_in r)) → IsIn n (values_named u) → held_as r.records n ≡ Some x → held_as (round_fed r).journal n ≡ Some x
  pub only : (u : Update) → IsIn u (accepted (round_fed r).journal) → IsIn u (accepted r.asker.journal) ⊎ IsIn u (accepted r.records)
  pub whole : (bundle_in r).more ≡ false → (u : Update) → IsIn u (accepted r.records) → IsIn u (accepted (round_fed r).journal)

-- ---- progress

-- those of these updates that a journal hasn't accepted
abbrev pub missing_of : List Update → List Record → List Update
missing_of us J = filter (λ u. not (has_id (accepted J) (id_of_update u))) us

-- A round makes progress with these updates: as long as the asker lacks some of them, it lacks fewer after the round.
abbrev pub MakesProgress : List Update → Round → Type 0
MakesProgress us r = 0 < length (missing_of us r.asker.journal) → length (missing_of us (round_fed r).journal) < length (missing_of us r.asker.journal)

-- The hello covers what both have: each update of others that both accepted is one which the hello names and the asked one has
-- accepted, or precedes such a one.
abbrev pub CoversShared : Round → Type 0
CoversShared r = (u : Update) → IsIn u (accepted r.asker.journal) → IsIn u (accepted r.records) → (u.writer ≡ r.asker.node → ⊥) → is_covered (accepted r.records) (map (λ l. l.id) r.hello.leaves) u ≡ true

-- The first parcel that there is to send fits into a bundle, and needs no more vouchers than allowed.
abbrev pub AdmitsFirst : Round → Type 0
AdmitsFirst r = (x : Parcel) (rest : List Parcel) → parcels_of r.asked.node r.sign r.records r.hello false ≡ x ∷ rest
    → (fit_a_bundle (x ∷ []) ≡ true) × (has_few_vouchers (setting_of r.world r.asked) r.records r.bounds.vouchers (x ∷ []) ≡ true)

-- The asker is behind, not beside: the asked one has accepted each of its leaves that others wrote.
abbrev pub IsBehind : Round → Type 0
IsBehind r = (t : Update) → IsIn t (leaves_of (accepted r.asker.journal)) → (t.writer ≡ r.asker.node → ⊥) → IsIn t (accepted r.records)

-- the hello names each leaf of the asker
abbrev pub NamesLeaves : Round → Type 0
NamesLeaves r = (t : Update) → IsIn t (leaves_of (accepted r.asker.journal)) → IsIn (named_leaf t) r.hello.leaves

-- the hello is the one that the asker makes with its journal now, be it a far one or not
abbrev pub IsNewHello : Round → Type 0
IsNewHello r = let here = setting_of r.world r.asker in (r.hello ≡ hello_of here r.asker.journal) ⊎ (r.hello ≡ far_hello here r.asker.journal)

-- ---- rounds one after another

-- The next round begins with what became of this one. Both nodes are the same, and both journals may have grown since.
pub record IsNextRound (r s : Round) : Type 0 where
  pub node : s.asker.node ≡ r.asker.node
  pub later : List Record
  pub asker : s.asker.journal ≡ (round_fed r).journal ++ later
  pub since : List Record
  pub asked : s.records ≡ r.records ++ since

-- rounds one after another, the first of which is this one
abbrev pub AreRounds : Round → List Round → Type 0
AreRounds r [] = IsRound r
AreRounds r (s ∷ rs) = IsRound r × (IsNextRound r s × AreRounds s rs)

-- the last of them
abbrev pub last_round : Round → List Round → Round
last_round r [] = r
last_round r (s ∷ rs) = last_round s rs

-- If each round makes progress with what the asked one had at first, and there are as many rounds as the asker lacked
-- updates of it, then the asker has accepted all of it in the end.
abbrev pub CatchUp : Round → List Round → Type 0
CatchUp r rs = AllByRecursion (MakesProgress (accepted r.records)) (r ∷ rs) → length (missing_of (accepted r.records) r.asker.journal) ≤ length (r ∷ rs)
    → (u : Update) → IsIn u (accepted r.records) → IsIn u (accepted (round_fed (last_round r rs)).journal)

-- ---- from behind

-- a round whose hello names each leaf of the asker, and whose bounds admit the first parcel
pub record IsGoodRound (r : Round) : Type 0 where
  pub names : NamesLeaves r
  pub admits : AdmitsFirst r

-- what the asker accepted since a round is its own
abbrev pub HearsNoOther : Round → Round → Type 0
HearsNoOther r s = (u : Update) → IsIn u (accepted s.asker.journal) → IsIn u (accepted (round_fed r).journal) ⊎ (u.writer ≡ s.asker.node)

-- they are so, and between them the asker hears no other
abbrev pub AreGoodRounds : Round → List Round → Type 0
AreGoodRounds r [] = IsGoodRound r
AreGoodRounds r (s ∷ rs) = IsGoodRound r × (HearsNoOther r s × AreGoodRounds s rs)

-- the same for an asker that is behind at first, in whatever the bounds admit
abbrev pub CatchUpFromBehind : Round → List Round → Type 0
CatchUpFromBehind r rs = IsBehind r → AreGoodRounds r rs → length (missing_of (accepted r.records) r.asker.journal) ≤ length (r ∷ rs)
    → (u : Update) → IsIn u (accepted r.records) → IsIn u (accepted (round_fed (last_round r rs)).journal)
