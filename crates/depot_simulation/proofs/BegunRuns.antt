-- A simulation before the first event of a schedule.
use Rattle.std.proofs.Common.{◌≡◌, ℕ, ◌+◌, ◌<◌, Bool, true, false, cond, eqb, is_some, List, [], ◌∷◌, ◌++◌, length, get_or, take, map, Some, None, refl, sym, ap, subst, ◌∙◌, inl, inr}
use Rattle.std.specs.Prelude.{filter}
use Rattle.std.proofs.lemmas.Bool.{eqb-true}
use Rattle.std.proofs.lemmas.List.{append-nil, take_more}
use Rattle.depot_base.specs.declared.key.PublicKey.{PublicKey}
use Rattle.depot_base.specs.declared.key.RosterEntry.{RosterEntry}
use Rattle.depot_base.specs.declared.record.Record.TheVariants.{Birth}
use Rattle.depot_model.specs.exchange.Bundle.{Signs}
use Rattle.depot_model.specs.lists.Lists.{IsIn}
use Rattle.depot_model.specs.texts.Roster.{Verifies, key_of}
use Rattle.depot_model.specs.texts.Texts.{hash_of_roster}
use Rattle.depot_model.proofs.lists.Members.{from_map}
use Rattle.depot_traces.specs.declared.trace.ReadTrace.{ReadTrace}
use Rattle.depot_schedule.specs.Schedules.{FitEvents, IsSchedule, before_events, with_event}
use Rattle.depot_schedule.specs.declared.event.Event.{Event}
use Rattle.depot_schedule.specs.declared.member.Member.{Member}
use Rattle.depot_schedule.specs.declared.schedule.Schedule.{Schedule}
use Rattle.depot_world.specs.Run.{Host, fresh_host}
use Rattle.depot_world.specs.Setups.{SignatureSuite, Setup, roster_entry_of, is_entry_before, roster_of, setup_of, suite_of}
use Rattle.depot_model.proofs.lists.InsertionLaws.{from_order}
use Rattle.depot_world.proofs.ScheduleRosters.{setup_has_members}
use Rattle.depot_simulation.specs.Acting.{AreHosted, IsParticipant, IsHosted, ParticipantView, TellReads, ActorView}
use Rattle.depot_scenario.specs.MemberSigners.{AreSigners, MemberSigner, member_signer_of, member_signers_of}
use Rattle.depot_scenario.specs.Scenarios.{IsSet, MayHappen}
use Rattle.depot_scenario.proofs.MemberLaws.{member_signer_at}
use Rattle.depot_simulation.proofs.PlayedEvents.{on_at}

-- ---- keys

-- in a list of entries whose keys are made of their nodes, the key of a node is made of it
keyed : (key_at : ℕ → PublicKey) (es : List RosterEntry) (n : ℕ) → ((e : RosterEntry) → IsIn e es → e.key ≡ key_at e.node) → is_some (key_of es n) ≡ true → key_of es n ≡ Some (key_at n)
unfolding key_of
keyed key_at [] n made found = absurd cc
keyed key_at (x ∷ es) n made found = by_test (eqb x.node n) refl (keyed key_at es n (λ e on. made e (inr on))) found where
  by_test : (b : Bool) → eqb x.node n ≡ b → (is_some (key_of es n) ≡ true → key_of es n ≡ Some (key_at n)) → is_some (cond b (Some x.key) (key_of es n)) ≡ true → cond b (Some x.key) (key_of es n) ≡ Some (key_at n)
  by_test true same rest found = ap (λ (k : PublicKey). Some k) (made x (inl refl) ∙ ap key_at (eqb-true x.node n same))
  by_test false other rest found = rest found

entries_keyed : (suite : SignatureSuite) (height : ℕ) (members : List Member) (e : RosterEntry) → IsIn e (roster_of suite height members) → e.key ≡ (member_signer_of suite height e.node).key
entries_keyed suite height members e on =
    let m = from_map (roster_entry_of suite height) e members (from_order is_entry_before e (map (roster_entry_of suite height) members) on) in
    subst (λ (x : RosterEntry). x.key ≡ (member_signer_of suite height x.node).key) m.1.1 refl

-- the roster of a schedule has the key of each member
setup_key : (s : Schedule) (m : Member) → IsIn m s.members → key_of (setup_of s).listed m.node ≡ Some (member_signer_of (setup_of s).suite (setup_of s).height m.node).key
unfolding setup_of
setup_key s m on =
    let suite = suite_of s.winter in
    keyed (λ (n : ℕ). (member_signer_of suite s.height n).key) (roster_of suite s.height s.members) m.node (entries_keyed suite s.height s.members) (setup_has_members s m on)

-- ---- a member and its signer

-- the roster has the key of its signer
pub signer_listed : {G : Type 0} (key : G → PublicKey) (sign : G → Signs) (s : Schedule) (verifies : Verifies) (height : ℕ) (listed : List RosterEntry) (members : List Member) (signers : List G) (place : ℕ) (m : Member) (g : G)
    → members ≡ s.members → IsSet (setup_of s) verifies height listed members (member_signers_of key sign signers) → place < length members → m ≡ get_or members place m → g ≡ get_or signers place g → key_of listed m.node ≡ Some (key g)
signer_listed key sign s verifies height listed members signers place m g same set within is_m is_g =
    let setup = setup_of s in
    let member_signer = member_signer_at key sign setup.suite setup.height members signers place m g set.signers_are within is_m is_g in
    let on = subst (λ (ms : List Member). IsIn m ms) same (on_at members place m within is_m) in
    ap (λ (es : List RosterEntry). key_of es m.node) (sym set.listed_is) ∙ setup_key s m on ∙ ap (λ (h : MemberSigner). Some h.key) (sym member_signer)

-- the node that it starts is the host's
pub signer_hosted : {G : Type 0} (key : G → PublicKey) (sign : G → Signs) (setup : Setup) (verifies : Verifies) (height : ℕ) (listed : List RosterEntry) (members : List Member) (signers : List G) (place : ℕ) (m : Member) (g : G) (v : ActorView)
    → IsSet setup verifies height listed members (member_signers_of key sign signers) → place < length members → m ≡ get_or members place m → g ≡ get_or signers place g
    → v ≡ record { here = record { verifies = verifies; me = (get_or members place m).node; listed = listed }; sign = sign (get_or signers place g); journal = Birth (get_or members place m).node (hash_of_roster listed) ∷ []; pending = None }
    → IsHosted setup (fresh_host setup m.node) v
signer_hosted {G = G} key sign setup verifies height listed members signers place m g v set within is_m is_g made =
    let first : Member → G → ActorView = λ n h. record { here = record { verifies = verifies; me = n.node; listed = listed }; sign = sign h; journal = Birth n.node (hash_of_roster listed) ∷ []; pending = None } in
    let is : v ≡ first m g = made ∙ ap (λ (n : Member). first n (get_or signers place g)) (sym is_m) ∙ ap (first m) (sym is_g) in
    let member_signer = member_signer_at key sign setup.suite setup.height members signers place m g set.signers_are within is_m is_g in
    subst (λ (x : ActorView). IsHosted setup (fresh_host setup m.node) x) (sym is) (record {
      here = λ i. record { verifies = sym set.verifies_is i; me = m.node; listed = sym set.listed_is i };
      sign = ap (λ (h : MemberSigner). h.sign) member_signer;
      journal = ap (λ (es : List RosterEntry). Birth m.node (hash_of_roster es) ∷ []) (sym set.listed_is);
      pending = refl;
    })

-- ---- the hosts of members

-- the correct ones, each just started
abbrev pub hosts_of : Setup → List Member → List Host
hosts_of setup members = map (λ m. fresh_host setup m.node) (filter (λ m. m.correct) members)

hosts_push : (setup : Setup) (ms : List Member) (m : Member) → hosts_of setup (ms ++ m ∷ []) ≡ hosts_of setup ms ++ hosts_of setup (m ∷ [])
hosts_push setup [] m = refl
hosts_push setup (x ∷ ms) m = choice x.correct (hosts_push setup ms m) where
  choice : (b : Bool) → hosts_of setup (ms ++ m ∷ []) ≡ hosts_of setup ms ++ hosts_of setup (m ∷ [])
      → map (λ (y : Member). fresh_host setup y.node) (cond b (x ∷ filter (λ (y : Member). y.correct) (ms ++ m ∷ [])) (filter (λ (y : Member). y.correct) (ms ++ m ∷ [])))
      ≡ map (λ (y : Member). fresh_host setup y.node) (cond b (x ∷ filter (λ (y : Member). y.correct) ms) (filter (λ (y : Member). y.correct) ms)) ++ hosts_of setup (m ∷ [])
  choice true rest = ap (λ (ss : List Host). fresh_host setup x.node ∷ ss) rest
  choice false rest = rest

hosts_more : (setup : Setup) (ms : List Member) (place : ℕ) (m : Member) → place < length ms → m ≡ get_or ms place m → hosts_of setup (take (place + 1) ms) ≡ hosts_of setup (take place ms) ++ hosts_of setup (m ∷ [])
hosts_more setup ms place m within is = ap (hosts_of setup) (take_more ms place m within ∙ ap (λ (x : Member). take place ms ++ x ∷ []) (sym is)) ∙ hosts_push setup (take place ms) m

hosted_push : (setup : Setup) (ss : List Host) (ps : List ParticipantView) (s : Host) (p : ParticipantView) → AreHosted setup ss ps → IsParticipant setup s p → AreHosted setup (ss ++ s ∷ []) (ps ++ p ∷ [])
hosted_push setup [] [] s p hosted one = (one, tt)
hosted_push setup [] (q ∷ ps) s p hosted one = absurd hosted
hosted_push setup (t ∷ ss) [] s p hosted one = absurd hosted
hosted_push setup (t ∷ ss) (q ∷ ps) s p hosted one = (hosted.0, hosted_push setup ss ps s p hosted.1 one)

-- a node that was just started has no reads
pub unread : (setup : Setup) (node : ℕ) (reads : List ReadTrace) → reads ≡ [] → TellReads (fresh_host setup node).correct.reads reads
unread setup node reads none = subst (λ (rs : List ReadTrace). TellReads [] rs) (sym none) (record { are = refl; fit = tt })

-- one correct member more
pub correct_more : (setup : Setup) (ms : List Member) (place : ℕ) (m : Member) (ps : List ParticipantView) (p : ParticipantView) → place < length ms → m ≡ get_or ms place m → m.correct ≡ true → AreHosted setup (hosts_of setup (take place ms)) ps → IsParticipant setup (fresh_host setup m.node) p
    → AreHosted setup (hosts_of setup (take (place + 1) ms)) (ps ++ p ∷ [])
correct_more setup ms place m ps p within is correct hosted one =
    let alone : hosts_of setup (m ∷ []) ≡ fresh_host setup m.node ∷ [] = ap (λ (b : Bool). map (λ (y : Member). fresh_host setup y.node) (cond b (m ∷ []) [])) correct in
    subst (λ (ss : List Host). AreHosted setup ss (ps ++ p ∷ [])) (sym (hosts_more setup ms place m within is ∙ ap (λ (ss : List Host). hosts_of setup (take place ms) ++ ss) alone))
    (hosted_push setup (hosts_of setup (take place ms)) ps (fresh_host setup m.node) p hosted one)

-- one faulty member more
pub faulty_more : (setup : Setup) (ms : List Member) (place : ℕ) (m : Member) (ps : List ParticipantView) → place < length ms → m ≡ get_or ms place m → m.correct ≡ false → AreHosted setup (hosts_of setup (take place ms)) ps → AreHosted setup (hosts_of setup (take (place + 1) ms)) ps
faulty_more setup ms place m ps within is faulty hosted =
    let alone : hosts_of setup (m ∷ []) ≡ [] = ap (λ (b : Bool). map (λ (y : Member). fresh_host setup y.node) (cond b (m ∷ []) [])) faulty in
    subst (λ (ss : List Host). AreHosted setup ss ps) (sym (hosts_more setup ms place m within is ∙ ap (λ (ss : List Host). hosts_of setup (take place ms) ++ ss) alone ∙ append-nil (hosts_of setup (take place ms)))) hosted

-- ---- the events of a schedule

events_may : (s : Schedule) (es : List Event) → FitEvents s es → (e : Event) → IsIn e es → MayHappen s.height s.members e
events_may s [] fits e never = absurd never
events_may s (x ∷ es) fits e (inl here) = subst (λ (y : Event). MayHappen s.height s.members y) here (record { before = s; height_is = refl; members_are = refl; fits = fits.0 })
events_may s (x ∷ es) fits e (inr there) = events_may (with_event s x) es fits.1 e there

-- each of its events may happen
pub schedule_may : (s : Schedule) → IsSchedule s → (e : Event) → IsIn e s.events → MayHappen s.height s.members e
schedule_may s is = events_may (before_events s) s.events is.events

-- ---- signers

-- the signers of members by the suite of a schedule
pub signers_on : {G : Type 0} (key : G → PublicKey) (sign : G → Signs) (winter kind : Bool) (height : ℕ) (members some : List Member) (signers same : List G) → winter ≡ kind → some ≡ members → same ≡ signers
    → AreSigners (suite_of kind) height some (member_signers_of key sign signers) → AreSigners (suite_of winter) height members (member_signers_of key sign same)
signers_on {G = G} key sign winter kind height members some signers same is_kind is_some is_same are =
    let of_member : Bool → Member → MemberSigner = λ b m. member_signer_of (suite_of b) height m.node in
    ap (λ (gs : List G). member_signers_of key sign gs) is_same ∙ are ∙ ap (λ (ms : List Member). map (of_member kind) ms) is_some ∙ ap (λ (b : Bool). map (of_member b) members) (sym is_kind)
