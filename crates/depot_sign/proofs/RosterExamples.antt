-- Worked examples of texts that are no rosters, and for which cause.
use Rattle.std.proofs.Common.{◌≡◌, ℕ, List, [], ◌∷◌, ◌++◌, Err, refl, ap, subst, arith, inl, inr}
use Rattle.std.specs.Int.{w16}
use Rattle.std.specs.List.{flat_map}
use Rattle.depot_base.specs.Cursor.{numeral}
use Rattle.depot_base.specs.Format.{number, bytes_of}
use Rattle.depot_base.specs.Parts.{roster_entry}
use Rattle.depot_model.specs.texts.RosterText.{HasGreatCount, RepeatsNode, GoesWrongAt, IsRefusedFor, ParsesRoster}
use Rattle.depot_model.specs.texts.Texts.{roster}
use Rattle.depot_model.specs.declared.roster_format.RosterError.{RosterError}
use Rattle.depot_model.specs.declared.roster_format.RosterError.TheVariants as error
use Rattle.depot_model.proofs.examples.Cast.{member}
use Rattle.depot_sign.proofs.RosterCauses.{read_in_one_way}

-- ---- too many nodes

-- 257 are, before any of them is there
too_many : HasGreatCount (1 ∷ 4 ∷ 1 ∷ 1 ∷ []) 257
unfolding numeral
too_many = record { rest = []; parts = refl; fits = omega arith; great = omega arith }

-- 256 aren't
not_too_many : (text : List ℕ) → HasGreatCount text 256 → ⊥
not_too_many text c = omega (arith, c.great)

-- ---- a node that occurs twice

member_fits : roster_entry.fits (member 2)
unfolding roster_entry number bytes_of
member_fits = ((omega arith, omega arith), ((omega arith, omega arith), (refl, refl)))

twice : List ℕ
twice = 1 ∷ 4 ∷ (numeral w16 2 ++ (flat_map roster_entry.text ([] ++ member 2 ∷ []) ++ (roster_entry.text (member 2) ++ [])))

repeats : RepeatsNode twice 2
unfolding twice
repeats = record { count = 2; front = []; before = member 2; again = member 2; rest = []; parts = refl; limit = omega arith; fewer = omega arith; follow = (member_fits, refl, tt); fits = member_fits; first = refl; second = refl }

abbrev told : RosterError → ℕ
told (error.TwiceNode node) = node
told e = 0

-- no other node does, and it is for no other cause that the text is none
not_another : RepeatsNode twice 3 → ⊥
not_another r = omega (arith, ap told (read_in_one_way.cause twice (error.TwiceNode 2) (error.TwiceNode 3) repeats r))

not_by_its_count : (count : ℕ) → IsRefusedFor twice (error.TooMany count) → ⊥
not_by_its_count count c = let same : error.TwiceNode 2 ≡ error.TooMany count = read_in_one_way.cause twice (error.TwiceNode 2) (error.TooMany count) repeats c in cc

not_by_a_field : (at : ℕ) → GoesWrongAt twice at → ⊥
not_by_a_field at wrong = wrong.no_node 2 repeats

-- ---- what a parser answers to it

parses : ParsesRoster twice (Err (error.TwiceNode 2))
parses = record {
  found = λ r e. absurd cc;
  only = λ r fits is. absurd (read_in_one_way.good r (error.TwiceNode 2) fits (subst (λ (text : List ℕ). RepeatsNode text 2) is repeats));
  refused = λ e is. let same : error.TwiceNode 2 ≡ e = cc in inr (subst (IsRefusedFor twice) same repeats);
  told = λ e is. inr (ap (λ (x : RosterError). Err x) (read_in_one_way.cause twice (error.TwiceNode 2) e repeats is));
}

not_parsed : ParsesRoster twice (Err (error.TwiceNode 3)) → ⊥
not_parsed p = elim (p.refused (error.TwiceNode 3) refl) [
  | inl memory ↦ (let none : error.TwiceNode 3 ≡ error.Memory = memory in cc)
  | inr again ↦ not_another again
]

-- ---- a text that goes wrong

-- the empty one, at its first byte
empty_goes_wrong : GoesWrongAt [] 0
unfolding roster number
empty_goes_wrong = record { fault = inl (inl (refl, inl (omega arith))); no_count = λ count c. absurd (no_bytes 1 _ c.parts); no_node = λ node r. absurd (no_bytes 1 _ r.parts) } where
  no_bytes : (b : ℕ) (bytes : List ℕ) → [] ≡ b ∷ bytes → ⊥
  no_bytes b bytes e = cc
