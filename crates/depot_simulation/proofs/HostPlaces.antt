-- A node that leaves its place, and one that takes it.
use Rattle.std.proofs.Common.{◌≡◌, ℕ, suc, ◌+◌, ◌≤◌, Bool, true, false, cond, not, eqb, ltb, List, [], ◌∷◌, length, map, get_or, Some, None, option_and_then, refl, sym, ap, subst, ◌∙◌, inl, inr, ◌⊎◌, arith}
use Rattle.std.specs.Prelude.{insert, remove, position, slice_get}
use Rattle.std.specs.List.{position_or_len}
use Rattle.std.proofs.lemmas.Bool.Decides.{nat_tests}
use Rattle.std.proofs.lemmas.Option.{get_or_from_slice_get, slice_get_within}
use Rattle.depot_base.specs.declared.record.Record.{Record}
use Rattle.depot_model.specs.checks.Checks.{Setting}
use Rattle.depot_world.specs.Run.{Host, own_update, host_in, put_host}
use Rattle.depot_world.specs.Setups.{Setup}
use Rattle.depot_simulation.specs.Acting.{AreHosted, IsParticipant, ParticipantView}

-- The first node of a number sits at this place. Where another of that number takes it, all are hosted again.
pub record IsHostPlace {A : Type 0} (participant : A → ParticipantView) (setup : Setup) (ss : List Host) (actors : List A) (node place : ℕ) : Type 0 where
  pub host : Host
  pub found : host_in ss node ≡ Some host
  pub actor : A
  pub at : slice_get actors place ≡ Some actor
  pub hosted : IsParticipant setup host (participant actor)
  pub back : (w : Host) (x : A) → w.correct.node ≡ node → IsParticipant setup w (participant x) → AreHosted setup (put_host w ss) (map participant (insert (remove actors place) place x))

-- there is none
pub record IsNoHostPlace {A : Type 0} (ss : List Host) (actors : List A) (node place : ℕ) : Type 0 where
  pub none : host_in ss node ≡ None
  pub past : length actors ≤ place

first_host_place : {A : Type 0} (participant : A → ParticipantView) (setup : Setup) (ss : List Host) (actors : List A) (node : ℕ) → AreHosted setup ss (map participant actors)
    → IsNoHostPlace ss actors node (position_or_len (λ a. eqb (participant a).view.here.me node) actors) ⊎ IsHostPlace participant setup ss actors node (position_or_len (λ a. eqb (participant a).view.here.me node) actors)
unfolding host_in put_host
first_host_place participant setup [] [] node hosted = inl (record { none = refl; past = omega arith })
first_host_place participant setup [] (a ∷ actors) node hosted = absurd hosted
first_host_place participant setup (s ∷ ss) [] node hosted = absurd hosted
first_host_place {A = A} participant setup (s ∷ ss) (a ∷ actors) node hosted = by_test (eqb s.correct.node node) refl (first_host_place participant setup ss actors node hosted.1) where
  place : ℕ
  place = position_or_len (λ b. eqb (participant b).view.here.me node) actors

  same : eqb (participant a).view.here.me node ≡ eqb s.correct.node node
  same = ap (λ (here : Setting). eqb here.me node) hosted.0.hosted.here

  put_first : (w : Host) (x : A) → eqb s.correct.node node ≡ true → w.correct.node ≡ node → IsParticipant setup w (participant x) → AreHosted setup (cond (eqb s.correct.node w.correct.node) (w ∷ ss) (s ∷ put_host w ss)) (participant x ∷ map participant actors)
  put_first w x is number sits = subst (λ (k : ℕ). AreHosted setup (cond (eqb s.correct.node k) (w ∷ ss) (s ∷ put_host w ss)) (participant x ∷ map participant actors)) (sym number) (rw is (sits, hosted.1))

  put_later : (w : Host) (x : A) (xs : List A) → eqb s.correct.node node ≡ false → w.correct.node ≡ node → AreHosted setup (put_host w ss) (map participant xs) → AreHosted setup (cond (eqb s.correct.node w.correct.node) (w ∷ ss) (s ∷ put_host w ss)) (participant a ∷ map participant xs)
  put_later w x xs is number rest = subst (λ (k : ℕ). AreHosted setup (cond (eqb s.correct.node k) (w ∷ ss) (s ∷ put_host w ss)) (participant a ∷ map participant xs)) (sym number) (rw is (hosted.0, rest))

  by_test : (b : Bool) → eqb s.correct.node node ≡ b → IsNoHostPlace ss actors node place ⊎ IsHostPlace participant setup ss actors node place
      → IsNoHostPlace (s ∷ ss) (a ∷ actors) node (cond (not (eqb (participant a).view.here.me node)) (1 + place) 0) ⊎ IsHostPlace participant setup (s ∷ ss) (a ∷ actors) node (cond (not (eqb (participant a).view.here.me node)) (1 + place) 0)
  by_test true is rest = rw (same, is) (inr (record { host = s; found = rw is refl; actor = a; at = refl; hosted = hosted.0; back = λ w x number sits. put_first w x is number sits }))
  by_test false is (inl nowhere) = rw (same, is) (inl (record { none = rw is nowhere.none; past = omega (arith, nowhere.past) }))
  by_test false is (inr sits) =
      let next : 1 + place ≡ suc place = omega arith in
      rw (same, is, next) (inr (record {
        host = sits.host;
        found = rw is sits.found;
        actor = sits.actor;
        at = sits.at;
        hosted = sits.hosted;
        back = λ w x number host_place. put_later w x (insert (remove actors place) place x) is number (sits.back w x number host_place);
      }))

-- where a node was found, it is the first host's
pub host_place_at : {A : Type 0} (participant : A → ParticipantView) (setup : Setup) (ss : List Host) (actors : List A) (node place : ℕ) → AreHosted setup ss (map participant actors) → position (λ a. eqb (participant a).view.here.me node) actors ≡ Some place → IsHostPlace participant setup ss actors node place
host_place_at {A = A} participant setup ss actors node place hosted is = by_host_place (first_host_place participant setup ss actors node hosted) where
  n : ℕ
  n = position_or_len (λ a. eqb (participant a).view.here.me node) actors

  by_test : (b : Bool) → ltb n (length actors) ≡ b → cond b (Some n) None ≡ Some place → IsNoHostPlace ss actors node n ⊎ IsHostPlace participant setup ss actors node n → IsHostPlace participant setup ss actors node place
  by_test true e found (inl nowhere) = absurd (grind (arith, nat_tests, e, nowhere.past))
  by_test true e found (inr sits) = let same : n ≡ place = cc in subst (λ (k : ℕ). IsHostPlace participant setup ss actors node k) same sits
  by_test false e found host_place = absurd cc

  by_host_place : IsNoHostPlace ss actors node n ⊎ IsHostPlace participant setup ss actors node n → IsHostPlace participant setup ss actors node place
  by_host_place host_place = by_test (ltb n (length actors)) refl is host_place

-- where none was found, there is no such host
pub no_host_place : {A : Type 0} (participant : A → ParticipantView) (setup : Setup) (ss : List Host) (actors : List A) (node : ℕ) → AreHosted setup ss (map participant actors) → position (λ a. eqb (participant a).view.here.me node) actors ≡ None → host_in ss node ≡ None
no_host_place {A = A} participant setup ss actors node hosted is = by_test (ltb n (length actors)) refl is (first_host_place participant setup ss actors node hosted) where
  n : ℕ
  n = position_or_len (λ a. eqb (participant a).view.here.me node) actors

  by_test : (b : Bool) → ltb n (length actors) ≡ b → cond b (Some n) None ≡ None → IsNoHostPlace ss actors node n ⊎ IsHostPlace participant setup ss actors node n → host_in ss node ≡ None
  by_test true e found host_place = absurd cc
  by_test false e found (inl nowhere) = nowhere.none
  by_test false e found (inr sits) = absurd (grind (arith, nat_tests, e, slice_get_within actors n sits.actor sits.at))

-- its own update is that of the host's node
pub own_at : {A : Type 0} (participant : A → ParticipantView) (setup : Setup) (ss : List Host) (actors : List A) (node place seq : ℕ) (a : A) → AreHosted setup ss (map participant actors) → Some place ≡ position (λ b. eqb (participant b).view.here.me node) actors → a ≡ get_or actors place a
    → own_update (participant a).view.journal seq ≡ option_and_then (λ (s : Host). own_update s.correct.journal seq) (host_in ss node)
own_at {A = A} participant setup ss actors node place seq a hosted is at =
    let sits = host_place_at participant setup ss actors node place hosted (sym is) in
    let same : a ≡ sits.actor = at ∙ get_or_from_slice_get actors place sits.actor a sits.at in
    ap (λ (b : A). own_update (participant b).view.journal seq) same ∙ ap (λ (J : List Record). own_update J seq) sits.hosted.hosted.journal ∙ sym (ap (option_and_then (λ (s : Host). own_update s.correct.journal seq)) sits.found)
