-- What a roster's text says of its nodes, and the length of a digest.
use Rattle.std.proofs.Common.{◌≡◌, ℕ, ◌≤◌, Bool, true, eqb, List, [], ◌∷◌, ◌++◌, Option, Some, None, is_some, refl, subst, inl, inr}
use Rattle.std.specs.List.{AllByRecursion}
use Rattle.std.specs.Int.{w8}
use Rattle.std.proofs.lemmas.Bool.{eqb-true}
use Rattle.depot_base.specs.Format.{Format, Follows}
use Rattle.depot_base.specs.Parts.{node_number, roster_entry, roster_entry_rises}
use Rattle.depot_base.specs.declared.key.PublicKey.{PublicKey}
use Rattle.depot_base.specs.declared.key.RosterEntry.{RosterEntry}
use Rattle.depot_base.proofs.Numbers.{number_within}
use Rattle.depot_model.specs.texts.Texts.{IsRoster}
use Rattle.depot_model.specs.texts.Roster.{key_of, has_node}
use Rattle.depot_model.proofs.of_texts.FieldFacts.{roster_facts}
use Rattle.depot_model.proofs.of_updates.NamedIds.{named_cases}

-- each entry of a list fits
pub follows_fit : {E : Type 0} (entry : Format E) (may_follow : Option E → E → Bool) (front es : List E) → Follows entry may_follow front es → AllByRecursion entry.fits es
follows_fit entry may_follow front [] follows = tt
follows_fit entry may_follow front (e ∷ es) follows = (follows.0, follows_fit entry may_follow (front ++ e ∷ []) es follows.2)

pub entries_fit : (listed : List RosterEntry) → IsRoster listed → AllByRecursion roster_entry.fits listed
entries_fit listed fits = follows_fit roster_entry roster_entry_rises [] listed (roster_facts listed fits).follows

-- the number of a node and the height of its key are in their ranges
pub record IsListed (n : ℕ) (key : PublicKey) : Type 0 where
  pub node : node_number.fits n
  pub height : key.height ≤ 17

entry_is_listed : (e : RosterEntry) → roster_entry.fits e → IsListed e.node e.key
unfolding roster_entry
entry_is_listed e fits = record { node = fits.0; height = (number_within w8 2 17 e.key.height fits.1.0).1 }

listed_is : (es : List RosterEntry) (n : ℕ) (key : PublicKey) → AllByRecursion roster_entry.fits es → key_of es n ≡ Some key → IsListed n key
unfolding key_of
listed_is [] n key all e = absurd cc
listed_is (x ∷ xs) n key all e = elim (named_cases (eqb x.node n) x.key key (key_of xs n) e) [
  | inl here ↦ subst (λ (m : ℕ). IsListed m key) (eqb-true x.node n here.0) (subst (λ (k : PublicKey). IsListed x.node k) here.1 (entry_is_listed x all.0))
  | inr there ↦ listed_is xs n key all.1 there
]

-- the node that a roster has a key for
pub is_listed : (listed : List RosterEntry) (n : ℕ) (key : PublicKey) → IsRoster listed → key_of listed n ≡ Some key → IsListed n key
is_listed listed n key fits e = listed_is listed n key (entries_fit listed fits) e

some_key : (o : Option PublicKey) → is_some o ≡ true → (key : PublicKey) × (o ≡ Some key)
some_key None e = absurd cc
some_key (Some key) e = (key, refl)

-- a node of the roster has a key
pub key_from_has_node : (listed : List RosterEntry) (n : ℕ) → has_node listed n ≡ true → (key : PublicKey) × (key_of listed n ≡ Some key)
key_from_has_node listed n e = some_key (key_of listed n) e

-- the number of a node of the roster is in its range
pub node_fits : (listed : List RosterEntry) (n : ℕ) → IsRoster listed → has_node listed n ≡ true → node_number.fits n
node_fits listed n fits e = let k = key_from_has_node listed n e in (is_listed listed n k.0 fits k.1).node
