-- Convictions, one after another.
use Rattle.std.proofs.Common.{◌≡◌, ℕ, zero, suc, ◌+◌, ◌-◌, ◌<◌, ◌≤◌, Bool, true, false, cond, List, [], ◌∷◌, ◌++◌, append-nil, append_assoc, length, length-append, map, filter, take, drop, get_or, nat_le, nat_lt, Option, Some, None, Ok, refl, sym, ap, subst, ◌∙◌, arith}
use Rattle.std.proofs.lemmas.Bool.{le-leb, lt-leb, lt-ltb, le-ltb}
use Rattle.std.proofs.lemmas.List.{take_all, take-append-drop}
use Rattle.std.proofs.lemmas.List.Elements.{filter-append}
use Rattle.std.proofs.lemmas.List.Sums.{sum_by-append, sum_by-cons}
use Rattle.std.proofs.lemmas.Option.{slice_get-get_or}
use Rattle.std.proofs.lemmas.Grind.{flat_map-append}
use Rattle.std.specs.List.{AllByRecursion, flat_map}
use Rattle.std.specs.Option.{option_to_list}
use Rattle.std.specs.Prelude.{slice_get, sum_by}
use Rattle.depot_base.specs.declared.proof.Proof.{Proof}
use Rattle.depot_base.specs.declared.record.Record.{Record}
use Rattle.depot_base.specs.declared.record.Record.TheVariants.{Birth, OwnPut, OwnVoucher, Foreign, Conviction, Held}
use Rattle.depot_base.specs.Cursor.{numeral}
use Rattle.depot_base.specs.Format.{number}
use Rattle.depot_base.proofs.GeneralLaws.{parts_at}
use Rattle.depot_laws.proofs.records.LawfulRecords.{IsProof-from_record}
use Rattle.depot_model.specs.exchange.Bundle.{convicts_other, records_where}
use Rattle.depot_model.specs.checks.Checks.{Setting}
use Rattle.depot_model.specs.texts.Contents.{accused}
use Rattle.depot_model.specs.journals.Lawful.{IsLawful}
use Rattle.depot_model.specs.texts.Records.{IsRecord, record_text, tagged, text_of_record}
use Rattle.depot_model.specs.texts.Texts.{IsProof, text_of_proof}
use Rattle.depot_questions.specs.AddedConvictions.{AddsConviction, HasNoSpace, convictions_of}
use Rattle.depot_questions.specs.Answers.{bytes_of_conviction, conviction_by, conviction_page, conviction_told, convictions_within}
use Rattle.depot_questions.specs.declared.question_answer.ConvictionAt.{ConvictionAt}
use Rattle.depot_questions.proofs.ToldUpdates.{next_of}

-- ---- the proof of a record

-- a record that convicts keeps a proof
proof_of : (r : Record) → convicts_other [] r ≡ true → (p : Proof) × (r ≡ Conviction p)
proof_of (Conviction p) is = (p, refl)
proof_of (Birth node roster) is = absurd cc
proof_of (OwnPut u values) is = absurd cc
proof_of (OwnVoucher v) is = absurd cc
proof_of (Foreign s) is = absurd cc
proof_of (Held value) is = absurd cc

-- The record of a place keeps this proof, and this is its text.
pub record KeepsProof (J : List Record) (place : ℕ) (text : List ℕ) : Type 0 where
  pub proof : Proof
  pub fits : IsProof proof
  pub is : text ≡ 5 ∷ text_of_proof proof
  pub told : conviction_told J place ≡ record { place = place; node = accused proof; text = text_of_proof proof } ∷ []

conviction_text : (p : Proof) → text_of_record (Conviction p) ≡ 5 ∷ text_of_proof p
unfolding record_text tagged number numeral
conviction_text p = refl

mapped : {X Y : Type 0} (f : X → Y) (xs : List X) (n : ℕ) (x : X) (y : Y) → slice_get xs n ≡ Some x → slice_get (map f xs) n ≡ Some y → f x ≡ y
mapped f [] n x y is at = absurd cc
mapped f (z ∷ xs) zero x y is at = let p : z ≡ x = cc in let q : f z ≡ y = cc in sym (ap f p) ∙ q
mapped f (z ∷ xs) (suc n) x y is at = mapped f xs n x y is at

pub proof_at : (here : Setting) (J : List Record) (place : ℕ) (text : List ℕ) (r : Record) → IsLawful here J → slice_get J place ≡ Some r → convicts_other [] r ≡ true → slice_get (map text_of_record J) place ≡ Some text → KeepsProof J place text
proof_at here J place text r lawful at convicts is =
    let p = proof_of r convicts in
    let fits = (lawful.each (take place J) r (drop (suc place) J) (parts_at J place r at)).text in
    record {
      proof = p.0;
      fits = IsProof-from_record p.0 (subst (λ (x : Record). IsRecord x) p.1 fits);
      is = sym (mapped text_of_record J place r text at is) ∙ ap text_of_record p.1 ∙ conviction_text p.0;
      told = ap (λ (o : Option Record). flat_map (conviction_by place) (option_to_list o)) (at ∙ ap (λ (x : Record). Some x) p.1);
    }

-- the conviction that is made of it
pub made_of_proof : (J : List Record) (place node : ℕ) (whole text : List ℕ) (kept : KeepsProof J place whole) → node ≡ accused kept.proof → text ≡ text_of_proof kept.proof → conviction_told J place ≡ record { place = place; node = node; text = text } ∷ []
made_of_proof J place node whole text kept who is =
    kept.told ∙ sym (ap (λ (n : ℕ). record { place = place; node = n; text = text } ∷ []) who ∙ ap (λ (t : List ℕ). record { place = place; node = accused kept.proof; text = t } ∷ []) is)

-- ---- the places of such records

-- a record that passes the test is there
abbrev pub PassesAt : (Record → Bool) → List Record → ℕ → Type 0
PassesAt test J place = (r : Record) × ((slice_get J place ≡ Some r) × (test r ≡ true))

pub each_convicts : (test : Record → Bool) (J front rs : List Record) (n : ℕ) → J ≡ front ++ rs → n ≡ length front → AllByRecursion (PassesAt test J) (records_where test n rs)
unfolding records_where
each_convicts test J front [] n is long = tt
each_convicts test J front (r ∷ rs) n is long =
    by_test (test r) refl (each_convicts test J (front ++ r ∷ []) rs (n + 1) (is ∙ sym (append_assoc front (r ∷ []) rs)) (omega (arith, long, length-append front (r ∷ [])))) where
      middle : (xs : List Record) → slice_get (xs ++ r ∷ rs) (length xs) ≡ Some r
      middle [] = refl
      middle (x ∷ xs) = middle xs

      by_test : (b : Bool) → test r ≡ b → AllByRecursion (PassesAt test J) (records_where test (n + 1) rs) → AllByRecursion (PassesAt test J) (cond b (n ∷ records_where test (n + 1) rs) (records_where test (n + 1) rs))
      by_test true passes rest = ((r, (ap (slice_get J) long ∙ ap (λ (x : List Record). slice_get x (length front)) is ∙ middle front, passes)), rest)
      by_test false passes rest = rest

-- ---- a page

-- The convictions of these places are on the page, and so much room is left.
pub record AreAdded (J : List Record) (from : ℕ) (places : List ℕ) (convictions : List ConvictionAt) (room : ℕ) : Type 0 where
  pub all : convictions ≡ convictions_of J from places
  pub left : room + sum_by bytes_of_conviction convictions ≡ 1048576

both_asked : (J : List Record) (from : ℕ) (first more : List ℕ) → convictions_of J from (first ++ more) ≡ convictions_of J from first ++ convictions_of J from more
both_asked J from first more = ap (flat_map (conviction_told J)) (filter-append (nat_le from) first more) ∙ flat_map-append (conviction_told J) (filter (nat_le from) first) (filter (nat_le from) more)

pub none_added : (J : List Record) (from : ℕ) (places : List ℕ) → AreAdded J from (take 0 places) [] 1048576
none_added J from places = record { all = refl; left = refl }

one_further : (places : List ℕ) (i place : ℕ) → i < length places → place ≡ get_or places i 0 → take (i + 1) places ≡ take i places ++ place ∷ []
one_further places i place low is =
    let next : i + 1 ≡ suc i = omega arith in
    ap (λ (n : ℕ). take n places) next ∙ next_of places i place (slice_get-get_or places i 0 low ∙ ap (λ (n : ℕ). Some n) (sym is))

pub one_added : (J : List Record) (from : ℕ) (places : List ℕ) (i place : ℕ) (old new : List ConvictionAt) (room left : ℕ) → i < length places → place ≡ get_or places i 0 → AreAdded J from (take i places) old room
    → (new ≡ old ++ convictions_of J from (place ∷ [])) × (room ≡ left + sum_by bytes_of_conviction (convictions_of J from (place ∷ []))) → AreAdded J from (take (i + 1) places) new left
one_added J from places i place old new room left low is added more = record {
  all = more.0 ∙ ap (λ (x : List ConvictionAt). x ++ convictions_of J from (place ∷ [])) added.all ∙ sym (ap (convictions_of J from) (one_further places i place low is) ∙ both_asked J from (take i places) (place ∷ []));
  left = omega (arith, ap (sum_by bytes_of_conviction) more.0, sum_by-append bytes_of_conviction old (convictions_of J from (place ∷ [])), more.1, added.left);
}

within_front : (cs rest : List ConvictionAt) (room left : ℕ) → left + sum_by bytes_of_conviction cs ≡ room → convictions_within room (cs ++ rest) ≡ cs ++ convictions_within left rest
within_front [] rest room left is = let same : room ≡ left = omega (arith, is) in ap (λ (n : ℕ). convictions_within n rest) same
within_front (c ∷ cs) rest room left is =
    let fits : nat_le (bytes_of_conviction c) room ≡ true = le-leb (bytes_of_conviction c) room (omega (arith, is, sum_by-cons bytes_of_conviction c cs)) in
    ap (λ (b : Bool). cond b (c ∷ convictions_within (room - bytes_of_conviction c) (cs ++ rest)) []) fits ∙ ap (λ (x : List ConvictionAt). c ∷ x) (within_front cs rest (room - bytes_of_conviction c) left (omega (arith, is, sum_by-cons bytes_of_conviction c cs)))

pub all_added : (J : List Record) (from : ℕ) (places : List ℕ) (i : ℕ) (told : List ConvictionAt) (room : ℕ) → length places ≤ i → AreAdded J from (take i places) told room → record { convictions = told; more = false } ≡ conviction_page (convictions_of J from places)
all_added J from places i told room over added =
    let are : convictions_of J from places ≡ told ++ [] = sym (added.all ∙ ap (convictions_of J from) (take_all i places over)) ∙ sym (append-nil told) in
    let page : convictions_within 1048576 (told ++ []) ≡ told = within_front told [] 1048576 room added.left ∙ append-nil told in
    let less : nat_lt (length told) (length (told ++ [])) ≡ false = le-ltb (length told) (length (told ++ [])) (omega (arith, length-append told [])) in
    sym (ap conviction_page are ∙ ap (λ (x : List ConvictionAt). record { convictions = x; more = nat_lt (length x) (length (told ++ [])) }) page ∙ ap (λ (b : Bool). record { convictions = told; more = b }) less)

some_left : (J : List Record) (from : ℕ) (places : List ℕ) (i place : ℕ) (old new : List ConvictionAt) (room : ℕ) → i < length places → place ≡ get_or places i 0 → AreAdded J from (take i places) old room → (new ≡ old) × HasNoSpace J from place room
    → record { convictions = new; more = true } ≡ conviction_page (convictions_of J from places)
some_left J from places i place old new room low is added full =
    let c = full.1.conviction in
    let rest = convictions_of J from (drop (i + 1) places) in
    let front : places ≡ (take i places ++ place ∷ []) ++ drop (i + 1) places = sym (take-append-drop (i + 1) places) ∙ ap (λ (x : List ℕ). x ++ drop (i + 1) places) (one_further places i place low is) in
    let are : convictions_of J from places ≡ old ++ (c ∷ rest) =
    ap (convictions_of J from) front ∙ both_asked J from (take i places ++ place ∷ []) (drop (i + 1) places) ∙ ap (λ (x : List ConvictionAt). x ++ rest) (both_asked J from (take i places) (place ∷ []))
    ∙ append_assoc (convictions_of J from (take i places)) (convictions_of J from (place ∷ [])) rest ∙ ap (λ (x : List ConvictionAt). x ++ (convictions_of J from (place ∷ []) ++ rest)) (sym added.all) ∙ ap (λ (x : List ConvictionAt). old ++ (x ++ rest)) full.1.is in
    let none : convictions_within room (c ∷ rest) ≡ [] = ap (λ (b : Bool). cond b (c ∷ convictions_within (room - bytes_of_conviction c) rest) []) (lt-leb (bytes_of_conviction c) room full.1.more) in
    let page : convictions_within 1048576 (old ++ (c ∷ rest)) ≡ old = within_front old (c ∷ rest) 1048576 room added.left ∙ ap (λ (x : List ConvictionAt). old ++ x) none ∙ append-nil old in
    let less : nat_lt (length old) (length (old ++ (c ∷ rest))) ≡ true = lt-ltb (length old) (length (old ++ (c ∷ rest))) (omega (arith, length-append old (c ∷ rest))) in
    ap (λ (x : List ConvictionAt). record { convictions = x; more = true }) full.0
    ∙ sym (ap conviction_page are ∙ ap (λ (x : List ConvictionAt). record { convictions = x; more = nat_lt (length x) (length (old ++ (c ∷ rest))) }) page ∙ ap (λ (b : Bool). record { convictions = old; more = b }) less)

pub page_full : (J : List Record) (from : ℕ) (places : List ℕ) (i place : ℕ) (old new : List ConvictionAt) (room : ℕ) (left : Option ℕ) → i < length places → place ≡ get_or places i 0 → AreAdded J from (take i places) old room → AddsConviction J from place old room (Ok left) new → left ≡ None
    → record { convictions = new; more = true } ≡ conviction_page (convictions_of J from places)
page_full J from places i place old new room None low is added full none = some_left J from places i place old new room low is added full
page_full J from places i place old new room (Some n) low is added full none = absurd cc

-- ---- the places of the records that convict

pub all_convict : (J : List Record) (listed : List ℕ) (places : List ℕ) → listed ≡ [] → places ≡ records_where (convicts_other listed) 0 J → AllByRecursion (PassesAt (convicts_other []) J) places
all_convict J listed places none are =
    subst (λ (x : List ℕ). AllByRecursion (PassesAt (convicts_other []) J) x) (sym (are ∙ ap (λ (x : List ℕ). records_where (convicts_other x) 0 J) none)) (each_convicts (convicts_other []) J [] J 0 refl refl)
