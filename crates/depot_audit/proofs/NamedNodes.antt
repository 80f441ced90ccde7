-- The first conviction of a node of a world, as it is looked for in its traces.
use Rattle.std.proofs.Common.{◌≡◌, ℕ, ◌+◌, ◌<◌, ◌==◌, Bool, false, ◌||◌, cond, List, [], ◌∷◌, length, get_or, map, Option, Some, refl, sym, ap, ◌∙◌, arith}
use Rattle.std.specs.Prelude.{option_map, position}
use Rattle.std.specs.List.{list_any, position_from}
use Rattle.std.proofs.lemmas.Iterator.Adapters.{position_from-zero}
use Rattle.depot_base.specs.Cursor.{numeral}
use Rattle.depot_base.specs.Format.{number}
use Rattle.depot_base.specs.declared.proof.Proof.{Proof}
use Rattle.depot_base.specs.declared.record.Record.{Record}
use Rattle.depot_base.specs.declared.record.Record.TheVariants.{Birth, OwnPut, OwnVoucher, Foreign, Conviction, Held}
use Rattle.depot_model.specs.worlds.Audit.{named_found, names_one_of, named_node}
use Rattle.depot_model.specs.journals.Journal.{proof_by, accused}
use Rattle.depot_model.specs.lists.Lists.{first}
use Rattle.depot_model.specs.texts.Records.{tagged, record_text, tag_of, text_of_record}
use Rattle.depot_model.specs.worlds.World.{Correct, World}
use Rattle.depot_model.proofs.lists.Members.{map_same}
use Rattle.depot_traces.specs.declared.trace.Trace.{Trace}
use Rattle.depot_audit.specs.Lookups.{nodes_in, accuses_one, first_accusing}
use Rattle.depot_audit.specs.MetTexts.{AreToldBy}
use Rattle.depot_audit.proofs.ListLaws.{any_map}
use Rattle.depot_audit.proofs.NodesOfTraces.{nodes_told}

any_same : {X : Type 0} (f g : X → Bool) → ((x : X) → f x ≡ g x) → (xs : List X) → list_any f xs ≡ list_any g xs
any_same f g same [] = refl
any_same f g same (x ∷ xs) = ap (λ (b : Bool). b || list_any f xs) (same x) ∙ ap (λ (b : Bool). g x || b) (any_same f g same xs)

places_same : {X : Type 0} (f g : X → Bool) → ((x : X) → f x ≡ g x) → (n : ℕ) (xs : List X) → position_from f n xs ≡ position_from g n xs
places_same f g same n [] = refl
places_same f g same n (x ∷ xs) = ap (λ (b : Bool). cond b (Some n) (position_from f (n + 1) xs)) (same x) ∙ ap (λ (o : Option ℕ). cond (g x) (Some n) o) (places_same f g same (n + 1) xs)

place_same : {X : Type 0} (f g : X → Bool) → ((x : X) → f x ≡ g x) → (xs : List X) → position f xs ≡ position g xs
place_same f g same xs = position_from-zero f xs ∙ places_same f g same 0 xs ∙ sym (position_from-zero g xs)

-- a record names a node of a world where it accuses one by its number
names_is : (W : World) (r : Record) → accuses_one (map (λ c. c.node) W.nodes) r ≡ names_one_of W r
names_is W r = any_same _ _ (λ (p : Proof). any_map (λ (m : ℕ). m == accused p) (λ (c : Correct). c.node) W.nodes) (proof_by r)

pub named_is : (W : World) (ts : List Trace) → AreToldBy W.nodes ts → first_accusing (nodes_in ts) W.nodes ≡ named_node W
unfolding named_node
named_is W ts told =
    ap (λ (ns : List ℕ). first_accusing ns W.nodes) (sym (nodes_told W.nodes ts told))
    ∙ ap first (map_same _ _ W.nodes (λ c on. ap (option_map (λ place. named_found c.node place)) (place_same _ _ (names_is W) c.journal)))

-- ---- the tag of a conviction's text

-- the text of a record is its tag and what follows
record HasTag (r : Record) : Type 0 where
  pub rest : List ℕ
  pub is : text_of_record r ≡ tag_of r ∷ rest

has_tag : (r : Record) → HasTag r
unfolding record_text number numeral
has_tag (Birth node h) = record { rest = (tagged 1).text (Birth node h); is = refl }
has_tag (OwnPut u values) = record { rest = (tagged 2).text (OwnPut u values); is = refl }
has_tag (OwnVoucher v) = record { rest = (tagged 3).text (OwnVoucher v); is = refl }
has_tag (Foreign s) = record { rest = (tagged 4).text (Foreign s); is = refl }
has_tag (Conviction p) = record { rest = (tagged 5).text (Conviction p); is = refl }
has_tag (Held value) = record { rest = (tagged 6).text (Held value); is = refl }

pub tag_is : (r : Record) (text : List ℕ) → text ≡ text_of_record r → get_or text 0 0 ≡ tag_of r
tag_is r text is = let t = has_tag r in ap (λ (bytes : List ℕ). get_or bytes 0 0) (is ∙ t.is)

-- no record has an empty text
pub some_text : (r : Record) (text : List ℕ) → text ≡ text_of_record r → length text < 1 → ⊥
some_text r text is lt = let t = has_tag r in omega (arith, ap length (is ∙ t.is), lt)

-- a record with another tag convicts nobody
pub convicts_nobody : (nodes : List ℕ) (r : Record) → (tag_of r ≡ 5 → ⊥) → accuses_one nodes r ≡ false
convicts_nobody nodes (Birth node h) other = refl
convicts_nobody nodes (OwnPut u values) other = refl
convicts_nobody nodes (OwnVoucher v) other = refl
convicts_nobody nodes (Foreign s) other = refl
convicts_nobody nodes (Conviction p) other = absurd (other refl)
convicts_nobody nodes (Held value) other = refl
