-- A head and a body that were read one after another.
use Rattle.std.proofs.Common.{◌≡◌, ◌<◌, ◌≤◌, ℕ, List, ◌++◌, append_assoc, length, Bool, true, Err, refl, sym, ap, subst, ◌∙◌, arith, length-append, inr}
use Rattle.std.specs.Int.{w32, from_be_bytes}
use Rattle.depot_source.specs.Pieces.{GivesMore}
use Rattle.depot_source.specs.Messages.{GivesFewer, HasHeard, HearsMessage, IsPartOfMessage}
use Rattle.depot_source.specs.declared.hearing.HearError.{HearError}
use Rattle.depot_source.specs.declared.hearing.HearError.TheVariants as unheard
use Rattle.depot_source.specs.declared.hearing.TheConstants.{MOST_MESSAGE}

-- two pieces are one
pub behind : (before mid after a b : List ℕ) → mid ≡ before ++ a → after ≡ mid ++ b → after ≡ before ++ (a ++ b)
behind before mid after a b one two = two ∙ ap (λ (x : List ℕ). x ++ b) one ∙ append_assoc before a b

pub heard : (before mid after head body : List ℕ) (count : ℕ) → length head ≡ 4 → count ≡ from_be_bytes w32 head → 1 ≤ count → count ≤ MOST_MESSAGE → mid ≡ before ++ head → after ≡ mid ++ body → length body ≡ count → HasHeard before after body
heard before mid after head body count four says least most one two long = record {
  message = record { head = head; body = body };
  is = record { head = four; says = sym says ∙ sym long; fits = (omega (arith, long, least), omega (arith, long, most)) };
  same = refl;
  given = behind before mid after head body one two;
}

-- a head, and less than it says
pub part_of_message : (head part : List ℕ) (count : ℕ) → length head ≡ 4 → count ≡ from_be_bytes w32 head → length part < count → IsPartOfMessage (head ++ part)
part_of_message head part count four says less = inr (head, part, (refl, (four, subst (λ (n : ℕ). length part < n) says less)))

pub unheard_body : (before mid after head : List ℕ) (over : Bool) (count : ℕ) (e : HearError) → length head ≡ 4 → count ≡ from_be_bytes w32 head → mid ≡ before ++ head
    → (e ≡ unheard.Bad → (over ≡ true) × GivesFewer mid after count) → (e ≡ unheard.Failed → GivesFewer mid after count) → GivesMore mid after → HearsMessage before after over (Err e)
unheard_body before mid after head over count unheard.Bad four says one cut failed more =
    let it = cut refl in
    let part = it.1.0 in
    (head ++ part, (behind before mid after head part one it.1.1.0, inr (it.0, (omega (arith, length-append head part, four), part_of_message head part count four says it.1.1.1))))
unheard_body before mid after head over count unheard.Memory four says one cut failed more = (head ++ more.0, behind before mid after head more.0 one more.1)
unheard_body before mid after head over count unheard.Failed four says one cut failed more =
    let it = failed refl in
    (head ++ it.0, (behind before mid after head it.0 one it.1.0, part_of_message head it.0 count four says it.1.1))
