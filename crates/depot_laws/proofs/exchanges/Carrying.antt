-- A journal takes frames in order, with room for each: what stays from frame to frame.
use Rattle.std.proofs.Common.{◌≡◌, ℕ, List, [], ◌∷◌, ◌++◌, map, None, Result, Ok, Err, refl, sym, ap, subst, ◌∙◌, inl, inr}
use Rattle.depot_base.specs.Closed.{rest_of}
use Rattle.depot_base.specs.Format.{◌>>=◌}
use Rattle.depot_base.specs.Sized.{IsValue}
use Rattle.depot_base.specs.declared.statement.Signed.{Signed}
use Rattle.depot_base.specs.declared.proof.Proof.{Proof}
use Rattle.depot_base.specs.declared.record.Record.{Record}
use Rattle.depot_base.proofs.ClosedLaws.{closing_lawful, rest_lawful}
use Rattle.depot_model.specs.lists.Lists.{IsIn}
use Rattle.depot_model.specs.texts.Texts.{signed, proof, IsSigned, IsProof}
use Rattle.depot_model.specs.checks.Checks.{Setting, Given, given_statement, given_proof, given_value, answer_to, growth}
use Rattle.depot_model.specs.checks.Room.{full_by}
use Rattle.depot_model.specs.texts.Frames.{Frame}
use Rattle.depot_model.specs.exchange.Bundle.{statement_frame, value_frame, proof_frame}
use Rattle.depot_model.specs.exchange.Feeding.{given_by}
use Rattle.depot_model.specs.worlds.World.{Correct, World, setting_of}
use Rattle.depot_model.specs.checks.Taking.{given_as}
use Rattle.depot_model.proofs.of_texts.TextLaws.{signed_lawful, proof_lawful}
use Rattle.depot_laws.proofs.exchanges.Meetings.{Meeting}
use Rattle.depot_laws.proofs.exchanges.Joining.{IsTaken, HasJoined, IsStep}

-- ---- what frames give

pub proof_given : (p : Proof) → IsProof p → given_by (proof_frame p) ≡ Ok (given_proof p)
unfolding given_by given_as
proof_given p fits = ap (λ (r : Result Proof ℕ). r >>= λ q. Ok (given_proof q)) ((closing_lawful proof _ proof_lawful).again 0 p fits)

pub statement_given : (s : Signed) → IsSigned s → given_by (statement_frame s) ≡ Ok (given_statement s)
unfolding given_by given_as
statement_given s fits = ap (λ (r : Result Signed ℕ). r >>= λ t. Ok (given_statement t)) ((closing_lawful signed _ signed_lawful).again 0 s fits)

value_again : (x : List ℕ) → IsValue x → (rest_of 65536).read (record { at = 0; rest = (rest_of 65536).text x }) ≡ Ok x
unfolding rest_of
value_again x fits = (rest_lawful 65536).again 0 x fits

value_text : (x : List ℕ) → (rest_of 65536).text x ≡ x
unfolding rest_of
value_text x = refl

pub value_given : (x : List ℕ) → IsValue x → given_by (value_frame x) ≡ Ok (given_value x)
unfolding given_by given_as
value_given x fits = ap (λ (r : Result (List ℕ) ℕ). r >>= λ y. Ok (given_value y)) (ap (λ (y : List ℕ). (rest_of 65536).read (record { at = 0; rest = y })) (sym (value_text x)) ∙ value_again x fits)

-- ---- frames one after another

-- what a journal grows by for what a payload gives
abbrev pub growth_of : Setting → List Record → Result Given ℕ → List Record
growth_of here C (Ok x) = growth here C x
growth_of here C (Err at) = []

-- the journal after these frames, where there is room for each
abbrev pub taking : Setting → List Record → List Frame → List Record
taking here C [] = C
taking here C (f ∷ fs) = taking here (C ++ growth_of here C (given_by f)) fs

-- there is room for what it grows by
abbrev pub HasRoomFor : Setting → List Record → Result Given ℕ → Type 0
HasRoomFor here C (Ok x) = full_by here.me C (growth here C x) ≡ None
HasRoomFor here C (Err at) = Unit {0}

abbrev pub RoomFor : Setting → List Record → List Frame → Type 0
RoomFor here C [] = Unit {0}
RoomFor here C (f ∷ fs) = HasRoomFor here C (given_by f) × RoomFor here (C ++ growth_of here C (given_by f)) fs

-- none of them is refused
abbrev pub IsTakenFrom : Setting → List Record → Result Given ℕ → Type 0
IsTakenFrom here C (Ok x) = IsTaken (answer_to here C x)
IsTakenFrom here C (Err at) = ⊥

abbrev pub AreTaken : Setting → List Record → List Frame → Type 0
AreTaken here C [] = Unit {0}
AreTaken here C (f ∷ fs) = IsTakenFrom here C (given_by f) × AreTaken here (C ++ growth_of here C (given_by f)) fs

pub taking_append : (here : Setting) (C : List Record) (fs gs : List Frame) → taking here C (fs ++ gs) ≡ taking here (taking here C fs) gs
taking_append here C [] gs = refl
taking_append here C (f ∷ fs) gs = taking_append here (C ++ growth_of here C (given_by f)) fs gs

pub room_front : (here : Setting) (C : List Record) (fs gs : List Frame) → RoomFor here C (fs ++ gs) → RoomFor here C fs
room_front here C [] gs room = tt
room_front here C (f ∷ fs) gs room = (room.0, room_front here (C ++ growth_of here C (given_by f)) fs gs room.1)

pub room_behind : (here : Setting) (C : List Record) (fs gs : List Frame) → RoomFor here C (fs ++ gs) → RoomFor here (taking here C fs) gs
room_behind here C [] gs room = room
room_behind here C (f ∷ fs) gs room = room_behind here (C ++ growth_of here C (given_by f)) fs gs room.1

pub taken_append : (here : Setting) (C : List Record) (fs gs : List Frame) → AreTaken here C fs → AreTaken here (taking here C fs) gs → AreTaken here C (fs ++ gs)
taken_append here C [] gs one two = two
taken_append here C (f ∷ fs) gs one two = (one.0, taken_append here (C ++ growth_of here C (given_by f)) fs gs one.1 two)

-- what is kept by more records is kept by frames
pub kept_by_taking : (P : List Record → Type 0) → ((C more : List Record) → P C → P (C ++ more)) → (here : Setting) (C : List Record) (fs : List Frame) → P C → P (taking here C fs)
kept_by_taking P more here C [] p = p
kept_by_taking P more here C (f ∷ fs) p = kept_by_taking P more here (C ++ growth_of here C (given_by f)) fs (more C (growth_of here C (given_by f)) p)

-- a frame of which is known what it gives
pub taking_given : (here : Setting) (C : List Record) (f : Frame) (fs : List Frame) (x : Given) → given_by f ≡ Ok x → taking here C (f ∷ fs) ≡ taking here (C ++ growth here C x) fs
taking_given here C f fs x is = ap (λ (r : Result Given ℕ). taking here (C ++ growth_of here C r) fs) is

-- the room for it, and for the frames after it
pub record HasRoomInTurn (here : Setting) (C : List Record) (x : Given) (fs : List Frame) : Type 0 where
  pub first : full_by here.me C (growth here C x) ≡ None
  pub more : RoomFor here (C ++ growth here C x) fs

pub room_given : (here : Setting) (C : List Record) (f : Frame) (fs : List Frame) (x : Given) → given_by f ≡ Ok x → RoomFor here C (f ∷ fs) → HasRoomInTurn here C x fs
room_given here C f fs x is room =
    let both = subst (λ (r : Result Given ℕ). HasRoomFor here C r × RoomFor here (C ++ growth_of here C r) fs) is room in
    record { first = both.0; more = both.1 }

module _ (W : World) (a v : Correct) (K : List Record) (m : Meeting W a v K) where
  -- none of these frames is refused, and the journal after them has joined
  pub record AreCarried (C : List Record) (fs : List Frame) : Type 0 where
    pub taken : AreTaken (setting_of W a) C fs
    pub joined : HasJoined W a v K m (taking (setting_of W a) C fs)

  pub carry_none : (C : List Record) → HasJoined W a v K m C → AreCarried C []
  carry_none C j = record { taken = tt; joined = j }

  pub carry_more : (C : List Record) (f : Frame) (fs : List Frame) (x : Given) → given_by f ≡ Ok x → IsStep W a v K m C x → AreCarried (C ++ growth (setting_of W a) C x) fs → AreCarried C (f ∷ fs)
  carry_more C f fs x is step more = record {
    taken = subst (λ (r : Result Given ℕ). IsTakenFrom (setting_of W a) C r × AreTaken (setting_of W a) (C ++ growth_of (setting_of W a) C r) fs) (sym is) (step.taken, more.taken);
    joined = subst (λ (D : List Record). HasJoined W a v K m D) (sym (taking_given (setting_of W a) C f fs x is)) more.joined;
  }

  pub carry_append : (C : List Record) (fs gs : List Frame) → AreCarried C fs → AreCarried (taking (setting_of W a) C fs) gs → AreCarried C (fs ++ gs)
  carry_append C fs gs one two = record {
    taken = taken_append (setting_of W a) C fs gs one.taken two.taken;
    joined = subst (λ (D : List Record). HasJoined W a v K m D) (sym (taking_append (setting_of W a) C fs gs)) two.joined;
  }

  -- a step of a frame, and what holds after it
  pub record StepsTo {X : Type 0} (After : List Record → X → Type 0) (C : List Record) (x : X) (g : Given) : Type 0 where
    pub step : IsStep W a v K m C g
    pub after : After (C ++ growth (setting_of W a) C g) x

  -- a sort of frames: what each of them asks of the journal, and what holds after it
  pub record IsSort {X : Type 0} (frame : X → Frame) (give : X → Given) (Before After : List Record → X → Type 0) : Type 0 where
    pub gives : (C : List Record) (x : X) → Before C x → given_by (frame x) ≡ Ok (give x)
    pub keeps : (C more : List Record) (x : X) → Before C x → Before (C ++ more) x
    pub stays : (C more : List Record) (x : X) → After C x → After (C ++ more) x
    pub steps : (C : List Record) (x : X) → HasJoined W a v K m C → Before C x → full_by a.node C (growth (setting_of W a) C (give x)) ≡ None → StepsTo After C x (give x)

  -- frames of one sort
  pub record AreSorted {X : Type 0} (frame : X → Frame) (After : List Record → X → Type 0) (C : List Record) (xs : List X) : Type 0 where
    pub carried : AreCarried C (map frame xs)
    pub each : (x : X) → IsIn x xs → After (taking (setting_of W a) C (map frame xs)) x

  pub carry_each : {X : Type 0} (frame : X → Frame) (give : X → Given) (Before After : List Record → X → Type 0) → IsSort frame give Before After → (C : List Record) (xs : List X) → HasJoined W a v K m C → ((x : X) → IsIn x xs → Before C x) → RoomFor (setting_of W a) C (map frame xs) → AreSorted frame After C xs
  carry_each frame give Before After sort C [] j each room = record { carried = carry_none C j; each = λ x never. absurd never }
  carry_each frame give Before After sort C (x ∷ xs) j each room =
      let here = setting_of W a in
      let is = sort.gives C x (each x (inl refl)) in
      let turn = room_given here C (frame x) (map frame xs) (give x) is room in
      let now = sort.steps C x j (each x (inl refl)) turn.first in
      let D = C ++ growth here C (give x) in
      let rest = carry_each frame give Before After sort D xs now.step.joined (λ y on. sort.keeps C (growth here C (give x)) y (each y (inr on))) turn.more in
      record {
        carried = carry_more C (frame x) (map frame xs) (give x) is now.step rest.carried;
        each = λ y on. subst (λ (E : List Record). After E y) (sym (taking_given here C (frame x) (map frame xs) (give x) is)) (elim on [
          | inl same ↦ kept_by_taking (λ (E : List Record). After E y) (λ E more p. sort.stays E more y p) here D (map frame xs) (subst (λ (z : _). After D z) same now.after)
          | inr there ↦ rest.each y there
        ]);
      }
