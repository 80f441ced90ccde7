-- What changes make: writes that have a text, and values that go with them.
use Rattle.std.proofs.Common.{◌≡◌, ℕ, suc, ◌≤◌, List, [], ◌∷◌, length, map, drop, Bool, true, ◌&&◌, Option, Some, None, refl, sym, ap, ◌∙◌, arith}
use Rattle.std.specs.Prelude.{slice_index_or, if◌then◌else◌}
use Rattle.std.specs.List.{AllByRecursion}
use Rattle.std.specs.Option.{option_map_or, option_to_list}
use Rattle.std.specs.Str.{bytes_eq}
use Rattle.std.proofs.lemmas.Bool.{and_parts, and_from}
use Rattle.std.proofs.lemmas.Slice.Eq.{bytes_eq-Decides}
use Rattle.sha2.specs.Sha256.{sha256}
use Rattle.sha2.proofs.Facts256.{length-sha256}
use Rattle.depot_base.specs.Pairs.{AllPairsByRecursion}
use Rattle.depot_base.specs.Format.{number, bytes_of, inner}
use Rattle.depot_base.specs.Parts.{digest, is_below, hash_in}
use Rattle.depot_base.specs.Sized.{IsKey, IsValue}
use Rattle.depot_base.specs.Writes.{is_put, value_in, value_in_change, sizes_of}
use Rattle.depot_base.specs.declared.write.Wrote.{Wrote}
use Rattle.depot_base.specs.declared.write.Wrote.TheVariants.{Put, Gone}
use Rattle.depot_base.specs.declared.write.Write.{Write}
use Rattle.depot_base.specs.declared.write.Change.{Change}
use Rattle.depot_base.specs.declared.update.Update.{Update}
use Rattle.depot_base.specs.declared.record.Record.TheVariants.{OwnPut}
use Rattle.depot_base.proofs.PieceLaws.{pieces_fit}
use Rattle.depot_model.specs.texts.Texts.{IsUpdate, first_write}
use Rattle.depot_model.specs.texts.Records.{own_put, tagged, record_text, IsRecord}
pub use Rattle.depot_model.specs.updates.Changes.{AreChanges}
use Rattle.depot_model.specs.checks.Own.{write_of, changes_of}
use Rattle.depot_model.proofs.of_texts.FieldFacts.{WriteFacts, WritesFacts, RiseBehind, KeysRise}
use Rattle.depot_model.proofs.of_texts.TextLaws.{update_is_short}

-- ---- the writes of changes have a text

names_well : (value : Option (List ℕ)) → AllByRecursion IsValue (option_to_list value) → AllByRecursion (λ n. digest.fits n.hash × (n.size ≤ 65536)) (value_in (option_map_or (λ v. Put (sha256 v) (length v)) value Gone))
unfolding bytes_of
names_well None small = tt
names_well (Some v) small = ((length-sha256 v, small.0), tt)

each_write : (cs : List Change) → AllByRecursion (λ c. IsKey c.key × AllByRecursion IsValue (value_in_change c)) cs → AllByRecursion WriteFacts (map write_of cs)
each_write [] each = tt
each_write (c ∷ cs) each = (record { key = each.0.0; value = names_well c.value each.0.1 }, each_write cs each.1)

rise_behind : (c : Change) (cs : List Change) → AllPairsByRecursion (λ c d. is_below c.key d.key ≡ true) (c ∷ cs) → RiseBehind (write_of c) (map write_of cs)
rise_behind c [] rising = tt
rise_behind c (d ∷ cs) rising = (rising.0.0, rise_behind d cs rising.1)

keys_rise : (cs : List Change) → AllPairsByRecursion (λ c d. is_below c.key d.key ≡ true) cs → KeysRise (map write_of cs)
keys_rise [] rising = tt
keys_rise (c ∷ cs) rising = rise_behind c cs rising

as_many : (cs : List Change) → length (map write_of cs) ≡ length cs
as_many [] = refl
as_many (c ∷ cs) = ap (λ (n : ℕ). suc n) (as_many cs)

pub changes_written : (cs : List Change) → AreChanges cs → WritesFacts (map write_of cs)
changes_written cs a = record { some = omega (arith, a.some, as_many cs); few = omega (arith, a.few, as_many cs); each = each_write cs a.each; rise = keys_rise cs a.rising }

-- ---- an own put has a text

pub put_has_text : (u : Update) (values : List (List ℕ)) → IsUpdate u → map (λ v. length v) values ≡ sizes_of u.writes → IsRecord (OwnPut u values)
unfolding record_text tagged own_put inner number
put_has_text u values fits long = ((omega arith, omega arith), ((omega arith, omega (arith, update_is_short u fits)), ((fits, refl), (pieces_fit (sizes_of u.writes) values long, refl))))

-- ---- values that go with writes

-- each value has the hash that its write names
abbrev pub have_hashes : List Write → List (List ℕ) → Bool
have_hashes [] values = true
have_hashes (w ∷ ws) values = if is_put w.what then bytes_eq (hash_in w.what) (sha256 (slice_index_or values 0 [])) && have_hashes ws (drop 1 values) else have_hashes ws values

abbrev GoesWith : List Write → List (List ℕ) → Type 0
GoesWith ws values = ws ≡ map write_of (changes_of ws values)

one_from : (key : List ℕ) (what : Wrote) (ws : List Write) (values : List (List ℕ)) → ((vs : List (List ℕ)) → map (λ v. length v) vs ≡ sizes_of ws → have_hashes ws vs ≡ true → GoesWith ws vs)
    → map (λ v. length v) values ≡ sizes_of (record { key = key; what = what } ∷ ws) → have_hashes (record { key = key; what = what } ∷ ws) values ≡ true → GoesWith (record { key = key; what = what } ∷ ws) values
one_from key (Put hash size) ws [] rest long yes_all = absurd (let none_is_more : 0 ≡ suc (length (sizes_of ws)) = ap length long in omega (arith, none_is_more))
one_from key (Put hash size) ws (v ∷ vs) rest long yes_all =
    let p = and_parts (bytes_eq hash (sha256 v)) (have_hashes ws vs) yes_all in
    let hashed : hash ≡ sha256 v = (bytes_eq-Decides hash (sha256 v)).0 p.0 in
    let sized : size ≡ length v = sym (ap (λ (ns : List ℕ). slice_index_or ns 0 0) long) in
    ap (λ (h : List ℕ). record { key = key; what = Put h size } ∷ ws) hashed ∙ ap (λ (n : ℕ). record { key = key; what = Put (sha256 v) n } ∷ ws) sized
    ∙ ap (λ (l : List Write). record { key = key; what = Put (sha256 v) (length v) } ∷ l) (rest vs (ap (drop 1) long) p.1)
one_from key Gone ws values rest long yes_all = ap (λ (l : List Write). record { key = key; what = Gone } ∷ l) (rest values long yes_all)

-- values of the lengths and the hashes that writes name make, with the keys, the changes of these writes
pub goes_with : (ws : List Write) (values : List (List ℕ)) → map (λ v. length v) values ≡ sizes_of ws → have_hashes ws values ≡ true → ws ≡ map write_of (changes_of ws values)
goes_with [] values long all = refl
goes_with (w ∷ ws) values long all = one_from w.key w.what ws values (λ vs. goes_with ws vs) long all

one_to : (key : List ℕ) (what : Wrote) (ws : List Write) (values : List (List ℕ)) → ((vs : List (List ℕ)) → map (λ v. length v) vs ≡ sizes_of ws → GoesWith ws vs → have_hashes ws vs ≡ true)
    → map (λ v. length v) values ≡ sizes_of (record { key = key; what = what } ∷ ws) → GoesWith (record { key = key; what = what } ∷ ws) values → have_hashes (record { key = key; what = what } ∷ ws) values ≡ true
one_to key (Put hash size) ws [] rest long same = absurd (let none_is_more : 0 ≡ suc (length (sizes_of ws)) = ap length long in omega (arith, none_is_more))
one_to key (Put hash size) ws (v ∷ vs) rest long same =
    and_from (bytes_eq hash (sha256 v)) (have_hashes ws vs) ((bytes_eq-Decides hash (sha256 v)).1 (ap (λ (l : List Write). hash_in (first_write l).what) same)) (rest vs (ap (drop 1) long) (ap (drop 1) same))
one_to key Gone ws values rest long same = rest values long (ap (drop 1) same)

-- and no others do
pub hashes_from : (ws : List Write) (values : List (List ℕ)) → map (λ v. length v) values ≡ sizes_of ws → ws ≡ map write_of (changes_of ws values) → have_hashes ws values ≡ true
hashes_from [] values long same = refl
hashes_from (w ∷ ws) values long same = one_to w.key w.what ws values (λ vs. hashes_from ws vs) long same
