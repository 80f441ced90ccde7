-- What is decided of a text, from what is decided of the value that was read, and what the node then answers.
use Rattle.std.proofs.Common.{◌≡◌, ℕ, false, List, [], ◌++◌, length, Some, None, Result, Ok, Err, refl, sym, ap, subst, ◌∙◌, arith}
use Rattle.std.specs.Prelude.{IfOk}
use Rattle.std.proofs.lemmas.List.{append-nil}
use Rattle.depot_base.specs.Format.{Format}
use Rattle.depot_base.specs.Closed.{Closed, closing}
use Rattle.depot_base.specs.Reading.{Decodes, DecodesClosed}
use Rattle.depot_base.specs.declared.check.Check.{Check}
use Rattle.depot_base.specs.declared.check.Check.TheVariants as check
use Rattle.depot_base.specs.declared.fault.DecodeError.{DecodeError}
use Rattle.depot_base.specs.declared.memory.Memory.{Memory}
use Rattle.depot_base.specs.declared.record.Record.{Record}
use Rattle.depot_model.specs.declared.taken.Taken.{Taken}
use Rattle.depot_model.specs.declared.taken.TakeError.{TakeError}
use Rattle.depot_model.specs.declared.taken.TakeError.TheVariants as refused
use Rattle.depot_model.specs.checks.Checks.{Setting, Given, answer_to, growth_by, growth}
use Rattle.depot_model.specs.journals.Lawful.{IsLawful, is_empty}
use Rattle.depot_model.specs.checks.Limits.{IsCutShort}
use Rattle.depot_model.specs.checks.Room.{full_by}
use Rattle.depot_model.specs.checks.Taking.{OfGiven, IsAnswered, IsFull, IsCutByDisk, Takes}
use Rattle.depot_laws.specs.Given.{HasText}
use Rattle.depot_laws.proofs.records.Growing.{grown_is_lawful}
use Rattle.depot_readings.specs.NewRecords.{MayGrow}
use Rattle.depot_decide.specs.Deciding.{HasGrown, HadNoRoom, IsDecided, Decides, IsCarriedOut}
use Rattle.depot_decide.specs.declared.decision.Decision.{Decision}
use Rattle.depot_decide.proofs.NewStatements.{growth_is_new}
use Rattle.depot_decide.proofs.OfRead.{refused_of_read}

-- what follows of each decision
pub if_decided : {P Q : Decision → Type 0} (r : Result Decision Memory) → ((d : Decision) → P d → Q d) → IfOk r P → IfOk r Q
if_decided (Ok d) follows is = follows d is
if_decided (Err e) follows is = is

-- ---- of a text

-- what is decided of the value of a text is decided of the text
pub decides_given : {V : Type 0} (f : Closed V) (give : V → Given) (here : Setting) (J : List Record) (text : List ℕ) (v : V) (answer : Result Taken Check) (new : List Record)
    → f.fits v → text ≡ f.text v → IsDecided here J (give v) answer new → Decides f give here J text answer new
decides_given f give here J text v (Ok taken) new fits is d = (v, (fits, (is, d)))
decides_given f give here J text v (Err (check.IllFormed at)) new fits is d = absurd (refused_of_read here J (give v) (check.IllFormed at) d.is)
decides_given f give here J text v (Err c) new fits is d = (v, (fits, (is, d)))

-- a decoder of a format with nothing after it
pub decodes_closing : {V : Type 0} (f : Format V) (text : List ℕ) (read : Result V DecodeError) → Decodes f text read → DecodesClosed (closing f) text read
decodes_closing f text read d = record { found = d.found; only = d.only; ill_formed = d.ill_formed; first = d.first }

-- a value was read, and this is decided of it
pub decides_read : {V : Type 0} (f : Closed V) (give : V → Given) (here : Setting) (J : List Record) (text : List ℕ) (v : V) (answer : Result Taken Check) (new : List Record)
    → DecodesClosed f text (Ok v) → IsDecided here J (give v) answer new → Decides f give here J text answer new
decides_read f give here J text v answer new r d = let read = r.found v refl in decides_given f give here J text v answer new read.0 read.1 d

-- ---- of what was read

-- it grows by what the answer says
pub decided_by : (here : Setting) (J : List Record) (x : Given) (answer : Result Taken Check) (new : List Record) → answer_to here J x ≡ answer → growth_by J x answer ≡ new → IsDecided here J x answer new
unfolding growth
decided_by here J x answer new is grows = record { is = is; grows = ap (growth_by J x) is ∙ grows }

-- a decision is what it is made of
pub made_decision : (here : Setting) (J : List Record) (x : Given) (answer : Result Taken Check) (new : List Record) (d : Decision) → d ≡ record { answer = answer; growth = new; parents = None } → IsDecided here J x answer new → IsDecided here J x d.answer d.growth
made_decision here J x answer new d made is = subst (λ (e : Decision). IsDecided here J x e.answer e.growth) (sym made) is

-- and so is a growth
pub made_growth : (here : Setting) (J : List Record) (x : Given) (answer : Result Taken Check) (new made : List Record) → made ≡ new → IsDecided here J x answer new → IsDecided here J x answer made
made_growth here J x answer new made same is = subst (λ (rs : List Record). IsDecided here J x answer rs) (sym same) is

-- what is decided by a state is decided under the node's setting
pub decided_here : (here there : Setting) (J : List Record) (x : Given) (d : Decision) → there ≡ here → IsDecided there J x d.answer d.growth → IsDecided here J x d.answer d.growth
decided_here here there J x d stands is = subst (λ (t : Setting). IsDecided t J x d.answer d.growth) stands is

-- ---- carried out

-- by what was decided the journal may grow
decided_may_grow : (here : Setting) (J : List Record) (x : Given) (answer : Result Taken Check) (new : List Record) → IsLawful here J → is_empty J ≡ false → HasText x → IsDecided here J x answer new → MayGrow here J new
decided_may_grow here J x answer new lawful some text d = subst (λ (rs : List Record). MayGrow here J rs) d.grows (record {
  statements = growth_is_new here J x;
  lawful = λ room. grown_is_lawful here J x lawful some text room;
})

given_may_grow : {V : Type 0} (f : Closed V) (give : V → Given) (here : Setting) (J : List Record) (text : List ℕ) (answer : Result Taken Check) (new : List Record)
    → ((v : V) → f.fits v → HasText (give v)) → IsLawful here J → is_empty J ≡ false → OfGiven f give text (λ x. IsDecided here J x answer new) → MayGrow here J new
given_may_grow f give here J text answer new has lawful some (v, (fits, (is, d))) = decided_may_grow here J (give v) answer new lawful some (has v fits) d

nothing_may_grow : (here : Setting) (J new : List Record) → IsLawful here J → new ≡ [] → MayGrow here J new
nothing_may_grow here J new lawful none = subst (λ (rs : List Record). MayGrow here J rs) (sym none) (record {
  statements = λ s never. absurd never;
  lawful = λ room. subst (λ (rs : List Record). IsLawful here rs) (sym (append-nil J)) lawful;
})

pub may_grow : {V : Type 0} (f : Closed V) (give : V → Given) (here : Setting) (J : List Record) (text : List ℕ) (answer : Result Taken Check) (new : List Record)
    → ((v : V) → f.fits v → HasText (give v)) → IsLawful here J → is_empty J ≡ false → Decides f give here J text answer new → MayGrow here J new
may_grow f give here J text (Ok taken) new has lawful some d = given_may_grow f give here J text (Ok taken) new has lawful some d
may_grow f give here J text (Err (check.IllFormed at)) new has lawful some d = nothing_may_grow here J new lawful d.1
may_grow f give here J text (Err c) new has lawful some d = given_may_grow f give here J text (Err c) new has lawful some d

-- what has grown by what was decided is the answer
answered : (here : Setting) (J : List Record) (x : Given) (answer : Result Taken Check) (new then : List Record) → IsDecided here J x answer new → HasGrown here.me J new then → IsAnswered here J x answer then
answered here J x answer new then d grown = record {
  is = d.is;
  room = ap (full_by here.me J) d.grows ∙ grown.0;
  grown = grown.1 ∙ ap (λ (rs : List Record). J ++ rs) (sym d.grows);
}

given_answered : {V : Type 0} (f : Closed V) (give : V → Given) (here : Setting) (J : List Record) (text : List ℕ) (answer : Result Taken Check) (new then : List Record)
    → OfGiven f give text (λ x. IsDecided here J x answer new) → HasGrown here.me J new then → OfGiven f give text (λ x. IsAnswered here J x answer then)
given_answered f give here J text answer new then (v, (fits, (is, d))) grown = (v, (fits, (is, answered here J (give v) answer new then d grown)))

-- the text is refused as ill-formed, and what grows by nothing stays
same_grown : (me : ℕ) (J new then : List Record) → new ≡ [] → HasGrown me J new then → then ≡ J
same_grown me J new then none grown = grown.1 ∙ ap (λ (rs : List Record). J ++ rs) none ∙ append-nil J

-- where an answer is Ok, so is the other
taken_answered : {V : Type 0} (f : Closed V) (give : V → Given) (here : Setting) (J : List Record) (text : List ℕ) (answer : Result Taken Check) (taken : Taken) (new then : List Record)
    → Decides f give here J text answer new → answer ≡ Ok taken → HasGrown here.me J new then → OfGiven f give text (λ x. IsAnswered here J x (Ok taken) then)
taken_answered f give here J text answer taken new then d is grown =
    given_answered f give here J text (Ok taken) new then (subst (λ (a : Result Taken Check). Decides f give here J text a new) is d) grown

refused_answered : {V : Type 0} (f : Closed V) (give : V → Given) (here : Setting) (J : List Record) (text : List ℕ) (c : Check) (new then : List Record)
    → Decides f give here J text (Err c) new → HasGrown here.me J new then → Takes f give here J text (Err (refused.Refused c)) then
refused_answered f give here J text (check.IllFormed at) new then d grown = (d.0, same_grown here.me J new then d.1 grown)
refused_answered f give here J text c new then d grown = given_answered f give here J text (Err c) new then d grown

-- there is no room for what was decided
no_room : {V : Type 0} (f : Closed V) (give : V → Given) (here : Setting) (J : List Record) (text : List ℕ) (answer : Result Taken Check) (new then : List Record) (full : _)
    → Decides f give here J text answer new → HadNoRoom here.me J new full then → OfGiven f give text (λ x. IsFull here J x full then)
no_room f give here J text (Ok taken) new then full (v, (fits, (is, d))) none = (v, (fits, (is, record { is = ap (full_by here.me J) d.grows ∙ none.0; same = none.1 })))
no_room f give here J text (Err (check.IllFormed at)) new then full d none = let never : None ≡ Some full = sym (ap (full_by here.me J) d.1) ∙ none.0 in absurd cc
no_room f give here J text (Err c) new then full (v, (fits, (is, d))) none = (v, (fits, (is, record { is = ap (full_by here.me J) d.grows ∙ none.0; same = none.1 })))

-- the disk cut what was decided short
given_broken : {V : Type 0} (f : Closed V) (give : V → Given) (here : Setting) (J : List Record) (text : List ℕ) (answer : Result Taken Check) (new then : List Record)
    → OfGiven f give text (λ x. IsDecided here J x answer new) → full_by here.me J new ≡ None → IsCutShort J new then → OfGiven f give text (λ x. IsCutByDisk here J x then)
given_broken f give here J text answer new then (v, (fits, (is, d))) room cut = (v, (fits, (is, record { room = ap (full_by here.me J) d.grows ∙ room; cut = subst (λ (rs : List Record). IsCutShort J rs then) (sym d.grows) cut })))

none_cut : (J new then : List Record) → new ≡ [] → IsCutShort J new then → ⊥
none_cut J new then none cut = omega (arith, cut.fewer, ap length none)

broken : {V : Type 0} (f : Closed V) (give : V → Given) (here : Setting) (J : List Record) (text : List ℕ) (answer : Result Taken Check) (new then : List Record)
    → Decides f give here J text answer new → full_by here.me J new ≡ None → IsCutShort J new then → OfGiven f give text (λ x. IsCutByDisk here J x then)
broken f give here J text (Ok taken) new then g room cut = given_broken f give here J text (Ok taken) new then g room cut
broken f give here J text (Err (check.IllFormed at)) new then d room cut = absurd (none_cut J new then d.1 cut)
broken f give here J text (Err c) new then g room cut = given_broken f give here J text (Err c) new then g room cut

-- a decision that is carried out is the answer to the text
pub takes_decided : {V : Type 0} (f : Closed V) (give : V → Given) (here : Setting) (J : List Record) (text : List ℕ) (answer : Result Taken Check) (new : List Record) (result : Result Taken TakeError) (then : List Record)
    → Decides f give here J text answer new → IsCarriedOut here.me J answer new result then → Takes f give here J text result then
takes_decided f give here J text answer new (Ok taken) then d c = taken_answered f give here J text answer taken new then d c.0 c.1
takes_decided f give here J text answer new (Err refused.Memory) then d c = c
takes_decided f give here J text answer new (Err refused.Disk) then d c = broken f give here J text answer new then d c.0 c.1
takes_decided f give here J text answer new (Err refused.Stopped) then d c = absurd c
takes_decided f give here J text answer new (Err (refused.Full full)) then d c = no_room f give here J text answer new then full d c
takes_decided f give here J text answer new (Err (refused.Refused k)) then d c = refused_answered f give here J text k new then (subst (λ (a : Result Taken Check). Decides f give here J text a new) c.0 d) c.1
