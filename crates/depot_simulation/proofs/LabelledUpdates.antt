-- The updates that references name.
use Rattle.std.proofs.Common.{◌≡◌, ℕ, suc, ◌+◌, ◌<◌, ◌≤◌, Bool, true, false, cond, eqb, List, [], ◌∷◌, ◌++◌, length, map, take, drop, get_or, Option, Some, None, option_map, option_and_then, refl, sym, ap, subst, ◌∙◌, inl, inr}
use Rattle.std.specs.List.{filter, flat_map}
use Rattle.std.specs.Str.{bytes_eq}
use Rattle.sha2.specs.Sha256.{sha256}
use Rattle.std.proofs.Math.Seq.{drop-cons}
use Rattle.std.proofs.lemmas.List.{map-append, take_all, take_more, take-append-drop}
use Rattle.depot_base.specs.declared.record.Record.{Record}
use Rattle.depot_base.specs.declared.record.Record.TheVariants.{Birth, OwnPut, OwnVoucher, Foreign, Conviction, Held}
use Rattle.depot_base.specs.declared.statement.Signed.{Signed}
use Rattle.depot_base.specs.declared.statement.Statement.{Statement}
use Rattle.depot_base.specs.declared.statement.Statement.TheVariants as statement
use Rattle.depot_base.specs.declared.update.Dep.{Dep}
use Rattle.depot_base.specs.declared.update.Update.{Update}
use Rattle.depot_base.proofs.GeneralLaws.{take_next}
use Rattle.depot_model.specs.journals.Journal.{accepted, has_id, own, update_in}
use Rattle.depot_model.specs.journals.Lawful.{IsLawful}
use Rattle.depot_model.specs.lists.Lists.{IsIn}
use Rattle.depot_model.specs.checks.Own.{entry_of}
use Rattle.depot_model.specs.texts.Texts.{IsSigned, IsStatement, IsUpdate, id_of_update}
use Rattle.depot_model.proofs.of_texts.BodyLaws.{IsStatement-from_signed, IsUpdate-from_statement}
use Rattle.depot_model.proofs.lists.Members.{all_at, from_filter, from_map, in_right}
use Rattle.depot_laws.proofs.own_updates.OwnTexts.{accepted_fit}
use Rattle.depot_schedule.specs.EventWords.{first_or}
use Rattle.depot_schedule.specs.declared.event.Ref.{Ref}
use Rattle.depot_schedule.specs.declared.event.Ref.TheVariants as ref
use Rattle.depot_model.specs.readers.Readers.{Reader}
use Rattle.depot_world.specs.Run.{Labelled, Run, Host, first_update, id_referred, made_in, own_update, plain_referred, referred, signed_of, host_in}
use Rattle.depot_world.specs.FaultySigning.{all_of, all_referred, entries_of}
use Rattle.depot_world.specs.Setups.{Setup}
use Rattle.depot_world.proofs.of_worlds.GoodRuns.{found_is}
use Rattle.depot_simulation.specs.Acting.{AreHosted, IsHosted, ParticipantView, ActorView}
use Rattle.depot_simulation.specs.Playing.{IsSimulationAt, IsPlayed, IsRemembered, participant_by}
use Rattle.depot_simulation.specs.declared.participant.Participant.{Participant}
use Rattle.depot_simulation.specs.declared.simulation.Simulation.{Simulation}
use Rattle.depot_scenario.specs.DraftEntries.{others_in_order}

-- ---- own updates

-- the first of a list is one of it
first_is : (us : List Update) (u : Update) → first_update us ≡ Some u → IsIn u us
first_is [] u is = absurd cc
first_is (x ∷ us) u is = let same : x ≡ u = cc in inl same

-- own updates are accepted
own_is_accepted : (J : List Record) (u : Update) → IsIn u (flat_map update_in (own J)) → IsIn u (accepted J)
own_is_accepted [] u never = absurd never
own_is_accepted (Birth node h ∷ J) u on = own_is_accepted J u on
own_is_accepted (OwnPut w values ∷ J) u (inl here) = inl here
own_is_accepted (OwnPut w values ∷ J) u (inr there) = inr (own_is_accepted J u there)
own_is_accepted (OwnVoucher v ∷ J) u on = own_is_accepted J u on
own_is_accepted (Foreign s ∷ J) u on = in_right u (update_in s.statement) (accepted J) (own_is_accepted J u on)
own_is_accepted (Conviction p ∷ J) u on = own_is_accepted J u on
own_is_accepted (Held value ∷ J) u on = own_is_accepted J u on

own_update_is : (J : List Record) (seq : ℕ) (u : Update) → own_update J seq ≡ Some u → IsIn u (accepted J)
own_update_is J seq u is =
    let test : Update → Bool = λ w. eqb w.seq seq in
    own_is_accepted J u (from_filter test u (flat_map update_in (own J)) (first_is (filter test (flat_map update_in (own J))) u is)).0

-- ---- where a reference leads

-- an update with a text, which was seen
pub record IsNamed (seen : List Update) (u : Update) : Type 0 where
  pub fits : IsUpdate u
  pub was : has_id seen (id_of_update u) ≡ true

-- each update that a reference names is such a one
abbrev pub AreNamedWell : Run → Type 0
AreNamedWell run = (r : Ref) (u : Update) → referred run r ≡ Some u → IsNamed run.seen u

-- the journal of each node is lawful
abbrev AreLawful : List ParticipantView → Type 0
AreLawful ps = (p : ParticipantView) → IsIn p ps → IsLawful p.view.here p.view.journal

-- the nodes of a run, whose journals are lawful, where what is named was seen
record AreKnown (setup : Setup) (run : Run) (ps : List ParticipantView) : Type 0 where
  pub hosted : AreHosted setup run.hosts ps
  pub lawful : AreLawful ps
  pub known : IsRemembered run

-- the node of a host
record HasHostPlace (setup : Setup) (s : Host) (ps : List ParticipantView) : Type 0 where
  pub participant : ParticipantView
  pub on : IsIn participant ps
  pub hosted : IsHosted setup s participant.view

host_place_of : (setup : Setup) (ss : List Host) (ps : List ParticipantView) (s : Host) → AreHosted setup ss ps → IsIn s ss → HasHostPlace setup s ps
host_place_of setup [] ps s hosted never = absurd never
host_place_of setup (t ∷ ss) [] s hosted on = absurd hosted
host_place_of setup (t ∷ ss) (p ∷ ps) s hosted (inl here) = record { participant = p; on = inl refl; hosted = subst (λ (x : Host). IsHosted setup x p.view) here hosted.0.hosted }
host_place_of setup (t ∷ ss) (p ∷ ps) s hosted (inr there) = let host_place = host_place_of setup ss ps s hosted.1 there in record { participant = host_place.participant; on = inr host_place.on; hosted = host_place.hosted }

-- what a label names is one of the labels
made_is : (ms : List Labelled) (label : List ℕ) (m : Labelled) → made_in ms label ≡ Some m → IsIn m ms
unfolding made_in
made_is [] label m is = absurd cc
made_is (x ∷ ms) label m is = choice (bytes_eq x.label label) is (made_is ms label m) where
  choice : (b : Bool) → cond b (Some x) (made_in ms label) ≡ Some m → (made_in ms label ≡ Some m → IsIn m ms) → IsIn m (x ∷ ms)
  choice true is rest = let same : x ≡ m = cc in inl same
  choice false is rest = inr (rest is)

signed_update : (s : Signed) (u : Update) → IsSigned s → first_update (update_in s.statement) ≡ Some u → IsUpdate u
signed_update s u fits is = by_kind s.statement (IsStatement-from_signed s fits) is where
  by_kind : (t : Statement) → IsStatement t → first_update (update_in t) ≡ Some u → IsUpdate u
  by_kind (statement.Update w) formed e = let same : w ≡ u = cc in subst (λ (x : Update). IsUpdate x) same (IsUpdate-from_statement w formed)
  by_kind (statement.Voucher v) formed e = absurd cc

labelled_is : (run : Run) (label : List ℕ) (u : Update) → IsRemembered run → option_and_then (λ s. first_update (update_in s.statement)) (signed_of run label) ≡ Some u → IsNamed run.seen u
labelled_is run label u known is = by_made (made_in run.labels label) refl is where
  by_signed : (m : Labelled) (o : Option Signed) → IsIn m run.labels → m.signed ≡ o → option_and_then (λ s. first_update (update_in s.statement)) o ≡ Some u → IsNamed run.seen u
  by_signed m None on given e = absurd cc
  by_signed m (Some s) on given e = record {
    fits = signed_update s u (known.signed_are m s on given) e;
    was = all_at (λ (w : Update). has_id run.seen (id_of_update w) ≡ true) (update_in s.statement) u (known.signed_were m s on given) (first_is (update_in s.statement) u e);
  }

  by_made : (o : Option Labelled) → made_in run.labels label ≡ o → option_and_then (λ s. first_update (update_in s.statement)) (option_and_then (λ (m : Labelled). m.signed) o) ≡ Some u → IsNamed run.seen u
  by_made None found e = absurd cc
  by_made (Some m) found e = by_signed m m.signed (made_is run.labels label m found) refl e

own_is : (setup : Setup) (run : Run) (ps : List ParticipantView) (node seq : ℕ) (u : Update) → AreKnown setup run ps → option_and_then (λ s. own_update s.correct.journal seq) (host_in run.hosts node) ≡ Some u → IsNamed run.seen u
own_is setup run ps node seq u all is = by_host (host_in run.hosts node) refl is where
  by_host : (o : Option Host) → host_in run.hosts node ≡ o → option_and_then (λ (s : Host). own_update s.correct.journal seq) o ≡ Some u → IsNamed run.seen u
  by_host None found e = absurd cc
  by_host (Some s) found e =
      let there = (found_is run.hosts node s found).on in
      let host_place = host_place_of setup run.hosts ps s all.hosted there in
      let on = own_update_is s.correct.journal seq u e in
      record {
        fits = accepted_fit host_place.participant.view.here host_place.participant.view.journal u (all.lawful host_place.participant host_place.on) (subst (λ (J : List Record). IsIn u (accepted J)) (sym host_place.hosted.journal) on);
        was = all_at (λ (w : Update). has_id run.seen (id_of_update w) ≡ true) (accepted s.correct.journal) u (all.known.accepted_were s there) on;
      }

-- what references name has texts, and was seen
referred_is : (setup : Setup) (run : Run) (ps : List ParticipantView) → AreKnown setup run ps → AreNamedWell run
unfolding referred
referred_is setup run ps all (ref.Label label) u is = labelled_is run label u all.known is
referred_is setup run ps all (ref.Own node seq) u is = own_is setup run ps node seq u all is

-- ---- at a point of a run

lawful_parts : {A : Type 0} (view : A → ActorView) (participants : List (Participant A)) → ((a : A) → IsLawful (view a).here (view a).journal) → AreLawful (map (participant_by view) participants)
lawful_parts view participants lawful p on = let a = from_map (participant_by view) p participants on in subst (λ (x : ParticipantView). IsLawful x.view.here x.view.journal) a.1.1 (lawful a.0.actor)

pub named_here : {A R : Type 0} (view : A → ActorView) (reads : Reader → R → Type 0) (setup : Setup) (run : Run) (simulation : Simulation A R) → ((a : A) → IsLawful (view a).here (view a).journal) → IsSimulationAt view reads setup run simulation → AreNamedWell run
named_here view reads setup run simulation lawful at = referred_is setup run (map (participant_by view) simulation.participants.items) (record { hosted = at.hosted; lawful = lawful_parts view simulation.participants.items lawful; known = at.remembered })

-- what a reference names has a text
pub fits_here : {A R : Type 0} (view : A → ActorView) (reads : Reader → R → Type 0) (simulation : Simulation A R) → ((a : A) → IsLawful (view a).here (view a).journal) → IsPlayed view reads simulation → (r : Ref) (u : Update) → ((setup : Setup) (run : Run) → IsSimulationAt view reads setup run simulation → Some u ≡ referred run r) → IsUpdate u
fits_here view reads simulation lawful p r u is = (named_here view reads p.setup p.run simulation lawful p.at r u (sym (is p.setup p.run p.at))).fits

-- ---- all of them

all_of-push : {X : Type 0} (os : List (Option X)) (x : X) → all_of (os ++ Some x ∷ []) ≡ option_map (λ xs. xs ++ x ∷ []) (all_of os)
unfolding all_of
all_of-push [] x = refl
all_of-push (None ∷ os) x = refl
all_of-push {X = X} (Some y ∷ os) x = ap (option_map (λ (ys : List X). y ∷ ys)) (all_of-push os x) ∙ turned (all_of os) where
  turned : (o : Option (List X)) → option_map (λ (ys : List X). y ∷ ys) (option_map (λ (ys : List X). ys ++ x ∷ []) o) ≡ option_map (λ (ys : List X). ys ++ x ∷ []) (option_map (λ (ys : List X). y ∷ ys) o)
  turned None = refl
  turned (Some ys) = refl

all_of-none : {X : Type 0} (os rest : List (Option X)) → all_of (os ++ None ∷ rest) ≡ None
unfolding all_of
all_of-none [] rest = refl
all_of-none (None ∷ os) rest = refl
all_of-none {X = X} (Some x ∷ os) rest = ap (option_map (λ (ys : List X). x ∷ ys)) (all_of-none os rest)

-- these are the entries of what all these references name
abbrev pub AreNamed : Run → List Ref → List Dep → Type 0
AreNamed run refs entries = Some entries ≡ option_map (λ us. map entry_of us) (all_referred run refs)

pub none_named : (run : Run) (refs : List Ref) (entries : List Dep) → entries ≡ [] → AreNamed run (take 0 refs) entries
unfolding all_of
none_named run refs entries none = ap (λ (es : List Dep). Some es) none

entries_more : (entries : List Dep) (u : Update) (o : Option (List Update)) → Some entries ≡ option_map (λ us. map entry_of us) o → Some (entries ++ entry_of u ∷ []) ≡ option_map (λ us. map entry_of us) (option_map (λ us. us ++ u ∷ []) o)
entries_more entries u None e = absurd cc
entries_more entries u (Some us) e = let same : entries ≡ map entry_of us = cc in ap (λ (es : List Dep). Some (es ++ entry_of u ∷ [])) same ∙ ap (λ (es : List Dep). Some es) (sym (map-append entry_of us (u ∷ [])))

-- one reference more
pub one_named : (run : Run) (refs : List Ref) (i : ℕ) (r : Ref) (u : Update) (entries after : List Dep) → i < length refs → r ≡ get_or refs i r → Some u ≡ referred run r → after ≡ entries ++ entry_of u ∷ [] → AreNamed run (take i refs) entries → AreNamed run (take (i + 1) refs) after
one_named run refs i r u entries after lt at is now are =
    let front : take (i + 1) refs ≡ take i refs ++ r ∷ [] = take_more refs i r lt ∙ ap (λ (x : Ref). take i refs ++ x ∷ []) (sym at) in
    let os : map (referred run) (take (i + 1) refs) ≡ map (referred run) (take i refs) ++ Some u ∷ [] =
    ap (map (referred run)) front ∙ map-append (referred run) (take i refs) (r ∷ []) ∙ ap (λ (o : Option Update). map (referred run) (take i refs) ++ o ∷ []) (sym is) in
    ap (λ (es : List Dep). Some es) now ∙ entries_more entries u (all_referred run (take i refs)) are
    ∙ ap (option_map (λ us. map entry_of us)) (sym (ap all_of os ∙ all_of-push (map (referred run) (take i refs)) u))

-- one that names nothing
pub nothing_named : (run : Run) (refs : List Ref) (i : ℕ) (r : Ref) → i < length refs → r ≡ get_or refs i r → None ≡ referred run r → None ≡ option_map (λ us. map entry_of us) (all_referred run refs)
nothing_named run refs i r lt at is =
    let participants : refs ≡ take i refs ++ r ∷ drop (suc i) refs = sym (take-append-drop i refs) ∙ ap (λ (rest : List Ref). take i refs ++ rest) (drop-cons refs i r lt ∙ ap (λ (x : Ref). x ∷ drop (suc i) refs) (sym at)) in
    let os : map (referred run) refs ≡ map (referred run) (take i refs) ++ None ∷ map (referred run) (drop (suc i) refs) =
    ap (map (referred run)) participants ∙ map-append (referred run) (take i refs) (r ∷ drop (suc i) refs) ∙ ap (λ (o : Option Update). map (referred run) (take i refs) ++ o ∷ map (referred run) (drop (suc i) refs)) (sym is) in
    sym (ap (λ (x : Option (List Update)). option_map (λ us. map entry_of us) x) (ap all_of os ∙ all_of-none (map (referred run) (take i refs)) (map (referred run) (drop (suc i) refs))))

-- ---- each of them

all_of_from : {X : Type 0} (os : List (Option X)) (xs : List X) (x : X) → all_of os ≡ Some xs → IsIn x xs → IsIn (Some x) os
unfolding all_of
all_of_from [] xs x is on = let none : xs ≡ [] = cc in absurd (subst (λ (ys : List _). IsIn x ys) none on)
all_of_from (None ∷ os) xs x is on = absurd cc
all_of_from {X = X} (Some y ∷ os) xs x is on = by_rest (all_of os) is (λ ys rest there. all_of_from os ys x rest there) where
  by_rest : (o : Option (List X)) → option_map (λ (ys : List X). y ∷ ys) o ≡ Some xs → ((ys : List X) → o ≡ Some ys → IsIn x ys → IsIn (Some x) os) → IsIn (Some x) (Some y ∷ os)
  by_rest None e rest = absurd cc
  by_rest (Some ys) e rest =
      let participants : y ∷ ys ≡ xs = cc in
      elim (subst (λ (zs : List X). IsIn x zs) (sym participants) on) [
        | inl here ↦ inl (ap (λ (z : X). Some z) here)
        | inr there ↦ inr (rest ys refl there)
      ]

-- where all name updates, each of these is what one names
pub each_is : (run : Run) (refs : List Ref) (us : List Update) → AreNamedWell run → all_referred run refs ≡ Some us → (u : Update) → IsIn u us → IsNamed run.seen u
each_is run refs us named is u on =
    let r = from_map (referred run) (Some u) refs (all_of_from (map (referred run) refs) us u is on) in
    named r.0 u r.1.1

-- and they are as many, whatever is read of a reference
as_many_of : {X : Type 0} (f : Ref → Option X) (refs : List Ref) (xs : List X) → all_of (map f refs) ≡ Some xs → length xs ≡ length refs
unfolding all_of
as_many_of {X = X} f [] xs is = let none : xs ≡ [] = cc in ap (λ (ys : List X). length ys) none
as_many_of {X = X} f (r ∷ refs) xs is = by_first (f r) is (λ ys rest. as_many_of f refs ys rest) where
  by_rest : (x : X) (o : Option (List X)) → option_map (λ (ys : List X). x ∷ ys) o ≡ Some xs → ((ys : List X) → o ≡ Some ys → length ys ≡ length refs) → length xs ≡ suc (length refs)
  by_rest x None e rest = absurd cc
  by_rest x (Some ys) e rest = let participants : xs ≡ x ∷ ys = cc in ap (λ (zs : List X). length zs) participants ∙ ap suc (rest ys refl)

  by_first : (o : Option X) → all_of (o ∷ map f refs) ≡ Some xs → ((ys : List X) → all_of (map f refs) ≡ Some ys → length ys ≡ length refs) → length xs ≡ suc (length refs)
  by_first None e rest = absurd cc
  by_first (Some x) e rest = by_rest x (all_of (map f refs)) e rest

pub as_many : (run : Run) (refs : List Ref) (us : List Update) → all_referred run refs ≡ Some us → length us ≡ length refs
as_many run refs us is = as_many_of (referred run) refs us is

-- ---- ids for vouchers

-- that of plain bytes, and that of an update
pub id_of_plain : (run : Run) (r : Ref) (bytes h : List ℕ) → Some bytes ≡ plain_referred run r → h ≡ sha256 bytes → Some h ≡ id_referred run r
unfolding id_referred
id_of_plain run r bytes h is hashed = ap (λ (x : List ℕ). Some x) hashed ∙ ap (λ (o : Option (List ℕ)). first_or (option_map sha256 o) (option_map id_of_update (referred run r))) is

pub id_of_named : (run : Run) (r : Ref) (id : Option (List ℕ)) → None ≡ plain_referred run r → id ≡ option_map id_of_update (referred run r) → id ≡ id_referred run r
unfolding id_referred
id_of_named run r id none is = is ∙ ap (λ (o : Option (List ℕ)). first_or (option_map sha256 o) (option_map id_of_update (referred run r))) none

-- these are the ids that all these references name
abbrev pub AreIds : Run → List Ref → List (List ℕ) → Type 0
AreIds run refs ids = Some ids ≡ all_of (map (id_referred run) refs)

pub no_ids : (run : Run) (refs : List Ref) (ids : List (List ℕ)) → ids ≡ [] → AreIds run (take 0 refs) ids
unfolding all_of
no_ids run refs ids none = ap (λ (hs : List (List ℕ)). Some hs) none

-- one reference more
pub one_id : (run : Run) (refs : List Ref) (i : ℕ) (r : Ref) (h : List ℕ) (ids after : List (List ℕ)) → i < length refs → r ≡ get_or refs i r → Some h ≡ id_referred run r → after ≡ ids ++ h ∷ [] → AreIds run (take i refs) ids → AreIds run (take (i + 1) refs) after
one_id run refs i r h ids after lt at is now are =
    let f : Ref → Option (List ℕ) = id_referred run in
    let os : map f (take (i + 1) refs) ≡ map f (take i refs) ++ Some h ∷ [] =
    ap (map f) (take_next refs i r lt at) ∙ map-append f (take i refs) (r ∷ []) ∙ ap (λ (o : Option (List ℕ)). map f (take i refs) ++ o ∷ []) (sym is) in
    ap (λ (hs : List (List ℕ)). Some hs) now ∙ ap (option_map (λ (hs : List (List ℕ)). hs ++ h ∷ [])) are ∙ sym (ap all_of os ∙ all_of-push (map f (take i refs)) h)

-- one that names nothing
pub no_id : (run : Run) (refs : List Ref) (i : ℕ) (r : Ref) → i < length refs → r ≡ get_or refs i r → None ≡ id_referred run r → None ≡ all_of (map (id_referred run) refs)
no_id run refs i r lt at is =
    let f : Ref → Option (List ℕ) = id_referred run in
    let participants : refs ≡ take i refs ++ r ∷ drop (suc i) refs = sym (take-append-drop i refs) ∙ ap (λ (rest : List Ref). take i refs ++ rest) (drop-cons refs i r lt ∙ ap (λ (x : Ref). x ∷ drop (suc i) refs) (sym at)) in
    let os : map f refs ≡ map f (take i refs) ++ None ∷ map f (drop (suc i) refs) =
    ap (map f) participants ∙ map-append f (take i refs) (r ∷ drop (suc i) refs) ∙ ap (λ (o : Option (List ℕ)). map f (take i refs) ++ o ∷ map f (drop (suc i) refs)) (sym is) in
    sym (ap all_of os ∙ all_of-none (map f (take i refs)) (map f (drop (suc i) refs)))

pub all_ids : (run : Run) (refs : List Ref) (i : ℕ) (ids : List (List ℕ)) → length refs ≤ i → AreIds run (take i refs) ids → AreIds run refs ids
all_ids run refs i ids end are = subst (λ (rs : List Ref). AreIds run rs ids) (take_all i refs end) are

-- they are as many, and each of them is what one names
pub as_many_ids : (run : Run) (refs : List Ref) (ids : List (List ℕ)) → all_of (map (id_referred run) refs) ≡ Some ids → length ids ≡ length refs
as_many_ids run refs ids is = as_many_of (id_referred run) refs ids is

pub id_named : (run : Run) (refs : List Ref) (ids : List (List ℕ)) (h : List ℕ) → all_of (map (id_referred run) refs) ≡ Some ids → IsIn h ids → (r : Ref) × (id_referred run r ≡ Some h)
id_named run refs ids h is on = let r = from_map (id_referred run) (Some h) refs (all_of_from (map (id_referred run) refs) ids h is on) in (r.0, r.1.1)

-- ---- entries of updates

-- those of others, in order
pub entries_named : (run : Run) (writer : ℕ) (refs : List Ref) (named slice : List Dep) (deps : Option (List Dep)) → AreNamed run refs named → slice ≡ named
    → ((us : List Update) → slice ≡ map entry_of us → deps ≡ option_map (λ vs. map entry_of vs) (others_in_order writer us)) → deps ≡ option_map (λ us. map entry_of us) (entries_of run writer refs)
entries_named run writer refs named slice deps are same of_others = by_all (all_referred run refs) are where
  by_all : (o : Option (List Update)) → Some named ≡ option_map (λ us. map entry_of us) o → deps ≡ option_map (λ us. map entry_of us) (option_and_then (others_in_order writer) o)
  by_all None e = absurd cc
  by_all (Some us) e = let is : named ≡ map entry_of us = cc in of_others us (same ∙ is)
