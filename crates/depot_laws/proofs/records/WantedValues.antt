-- Which values are wanted: each value of a lawful journal is named by an update that it accepted.
use Rattle.std.proofs.Common.{◌≡◌, ℕ, suc, ◌≤◌, ◌&&◌, ◌==◌, List, [], ◌∷◌, ◌++◌, length, map, drop, true, Ok, refl, sym, ap, subst, ◌∙◌, inl, inr, arith}
use Rattle.std.specs.List.{flat_map}
use Rattle.std.specs.Str.{bytes_eq}
use Rattle.std.proofs.lemmas.Slice.Eq.{bytes_eq-Decides}
use Rattle.std.proofs.lemmas.Bool.{eq-eqb, and_from}
use Rattle.sha2.specs.Sha256.{sha256}
use Rattle.depot_base.specs.Parts.{digest, hash_in, size_in}
use Rattle.depot_base.specs.Sized.{IsValue}
use Rattle.depot_base.specs.Writes.{value_in, values_in, sizes_of}
use Rattle.depot_base.specs.declared.write.Wrote.{Wrote}
use Rattle.depot_base.specs.declared.write.Wrote.TheVariants.{Put, Gone}
use Rattle.depot_base.specs.declared.write.Write.{Write}
use Rattle.depot_base.specs.declared.update.Update.{Update}
use Rattle.depot_base.specs.declared.record.Record.{Record}
use Rattle.depot_base.specs.declared.record.Record.TheVariants.{Birth, OwnPut, OwnVoucher, Foreign, Conviction, Held}
use Rattle.depot_model.specs.declared.taken.Taken.TheVariants.{New}
use Rattle.depot_model.specs.lists.Lists.{IsIn}
use Rattle.depot_model.specs.texts.Texts.{first_write, IsUpdate}
use Rattle.depot_model.specs.texts.Records.{IsRecord}
use Rattle.depot_model.specs.journals.Journal.{accepted, accepted_by, value_by, is_wanted}
use Rattle.depot_model.specs.texts.Contents.{NamedValue, values_named, names_value}
use Rattle.depot_model.specs.checks.Own.{write_of, changes_of}
use Rattle.depot_model.specs.checks.Checks.{Setting, given_value, first_failed_check, is_known, answer_to}
use Rattle.depot_model.specs.journals.Lawful.{MayPut, MayFollow, IsLawful}
use Rattle.depot_model.proofs.of_texts.FieldFacts.{WriteFacts, update_facts, own_put_facts}
use Rattle.depot_model.proofs.lists.FirstLaws.{when-none}
use Rattle.depot_model.proofs.lists.Members.{any_from, any_to, all_at, in_map, from_map}
use Rattle.depot_laws.proofs.lists.Splits.{given_by, flat_left, flat_gives, lawful_texts}
use Rattle.depot_laws.proofs.lists.Tests.{holds_from_not}
use Rattle.depot_laws.proofs.records.Taken.{new_from_answer}
use Rattle.depot_laws.proofs.records.LawfulRecords.{IsValue-from_record}
use Rattle.depot_laws.proofs.of_worlds.Worlds.{in_split, giver_in}
use Rattle.depot_laws.proofs.own_updates.Nexts.{own_writes}

-- more updates want no less
pub wanted_over : (us vs : List Update) (h : List ℕ) (size : ℕ) → ((u : Update) → IsIn u us → IsIn u vs) → is_wanted us h size ≡ true → is_wanted vs h size ≡ true
unfolding is_wanted
wanted_over us vs h size each e = let u = any_to (λ (u : Update). names_value u h size) us e in any_from (λ (u : Update). names_value u h size) u.0 vs (each u.0 u.1.0) u.1.1

names_its_value : (u : Update) (n : NamedValue) (x : List ℕ) → IsIn n (values_named u) → sha256 x ≡ n.hash → length x ≡ n.size → names_value u (sha256 x) (length x) ≡ true
names_its_value u n x on hash size =
    any_from (λ (k : NamedValue). bytes_eq k.hash (sha256 x) && (k.size == length x)) n (values_named u) on (and_from _ _ ((bytes_eq-Decides n.hash (sha256 x)).1 (sym hash)) (eq-eqb n.size (length x) (sym size)))

-- a value is wanted where an update names it
pub wanted_by : (us : List Update) (u : Update) (n : NamedValue) (x : List ℕ) → IsIn u us → IsIn n (values_named u) → sha256 x ≡ n.hash → length x ≡ n.size → is_wanted us (sha256 x) (length x) ≡ true
unfolding is_wanted
wanted_by us u n x on named hash size = any_from (λ (t : Update). names_value t (sha256 x) (length x)) u us on (names_its_value u n x named hash size)

-- ---- the values of a journal

-- one of these names has the hash and the length of the value
abbrev pub HasName : List NamedValue → List ℕ → Type 0
HasName ns x = (n : NamedValue) × (IsIn n ns × ((sha256 x ≡ n.hash) × (length x ≡ n.size)))

named_behind : (key : List ℕ) (what : Wrote) (ws : List Write) (values : List (List ℕ)) (x : List ℕ) → ((vs : List (List ℕ)) → map (λ v. length v) vs ≡ sizes_of ws → ws ≡ map write_of (changes_of ws vs) → IsIn x vs → HasName (values_in ws) x)
    → map (λ v. length v) values ≡ sizes_of (record { key = key; what = what } ∷ ws) → record { key = key; what = what } ∷ ws ≡ map write_of (changes_of (record { key = key; what = what } ∷ ws) values) → IsIn x values
    → HasName (values_in (record { key = key; what = what } ∷ ws)) x
named_behind key (Put hash size) ws [] x rest long goes never = absurd never
named_behind key (Put hash size) ws (v ∷ vs) x rest long goes (inl here) = (
  record { hash = hash; size = size },
  (inl refl, (ap sha256 (sym here) ∙ sym (ap (λ (l : List Write). hash_in (first_write l).what) goes), ap (λ (y : List ℕ). length y) (sym here) ∙ sym (ap (λ (l : List Write). size_in (first_write l).what) goes))),
)
named_behind key (Put hash size) ws (v ∷ vs) x rest long goes (inr there) = let n = rest vs (ap (drop 1) long) (ap (drop 1) goes) there in (n.0, (inr n.1.0, n.1.1))
named_behind key Gone ws values x rest long goes on = rest values long (ap (drop 1) goes) on

-- where values are as many as writes name, and the writes are those of the changes that they make, each has its name
each_is_named : (ws : List Write) (values : List (List ℕ)) (x : List ℕ) → map (λ v. length v) values ≡ sizes_of ws → ws ≡ map write_of (changes_of ws values) → IsIn x values → HasName (values_in ws) x
each_is_named [] [] x long goes never = absurd never
each_is_named [] (v ∷ vs) x long goes on = absurd (let none_is_more : suc (length (map (λ (w : List ℕ). length w) vs)) ≡ 0 = ap length long in omega (arith, none_is_more))
each_is_named (w ∷ ws) values x long goes on = named_behind w.key w.what ws values x (λ vs. each_is_named ws vs x) long goes on

put_wants : (here : Setting) (J : List Record) (u : Update) (values : List (List ℕ)) (us : List Update) (x : List ℕ) → IsRecord (OwnPut u values) → MayPut here J u values → IsIn u us → IsIn x values → is_wanted us (sha256 x) (length x) ≡ true
put_wants here J u values us x fits may u_on on =
    let n = each_is_named u.writes values x (own_put_facts u values fits).long (own_writes here.me J (changes_of u.writes values) u may.next) on in
    wanted_by us u n.0 x u_on n.1.0 n.1.1.0 n.1.1.1

held_was_wanted : (here : Setting) (J : List Record) (x : List ℕ) → answer_to here J (given_value x) ≡ Ok New → is_wanted (accepted J) (sha256 x) (length x) ≡ true
unfolding answer_to first_failed_check
held_was_wanted here J x e = let n = new_from_answer (is_known here J (given_value x)) (first_failed_check here J (given_value x)) e in holds_from_not _ (when-none _ _ n.1)

brings_wanted : (here : Setting) (J before : List Record) (r : Record) (after : List Record) (x : List ℕ) → J ≡ before ++ r ∷ after → IsRecord r → MayFollow here before r → IsIn x (value_by r) → is_wanted (accepted J) (sha256 x) (length x) ≡ true
brings_wanted here J before (OwnPut u values) after x is fits may on =
    put_wants here before u values (accepted J) x fits may (flat_gives accepted_by u (OwnPut u values) J (in_split before (OwnPut u values) after J is) (inl refl)) on
brings_wanted here J before (Held value) after x is fits may (inl same) =
    subst (λ (y : List ℕ). is_wanted (accepted J) (sha256 y) (length y) ≡ true) same
    (wanted_over (accepted before) (accepted J) (sha256 value) (length value) (λ u on. subst (λ (K : List Record). IsIn u (accepted K)) (sym is) (flat_left accepted_by u before (Held value ∷ after) on)) (held_was_wanted here before value may))
brings_wanted here J before (Held value) after x is fits may (inr never) = absurd never
brings_wanted here J before (Birth node h) after x is fits may never = absurd never
brings_wanted here J before (OwnVoucher v) after x is fits may never = absurd never
brings_wanted here J before (Foreign s) after x is fits may never = absurd never
brings_wanted here J before (Conviction p) after x is fits may never = absurd never

-- an accepted update names each value that a record brought
pub value_is_wanted : (here : Setting) (J : List Record) (x : List ℕ) → IsLawful here J → IsIn x (flat_map value_by J) → is_wanted (accepted J) (sha256 x) (length x) ≡ true
value_is_wanted here J x l on = let g = given_by value_by x J on in brings_wanted here J g.before g.by g.after x g.is (l.each g.before g.by g.after g.is).text (l.each g.before g.by g.after g.is).may g.given

-- ---- their sizes

-- the values that an update names have hashes of 32 bytes, and lengths in their range
pub name_facts : (u : Update) (n : NamedValue) → IsUpdate u → IsIn n (values_named u) → digest.fits n.hash × (n.size ≤ 65536)
name_facts u n fits on =
    let g = given_by (λ (w : Write). value_in w.what) n u.writes on in
    let w = all_at WriteFacts u.writes g.by (update_facts u fits).writes.each (giver_in (λ (w : Write). value_in w.what) n u.writes g) in
    all_at (λ (k : NamedValue). digest.fits k.hash × (k.size ≤ 65536)) (value_in g.by.what) n w.value g.given

put_value_fits : (u : Update) (values : List (List ℕ)) (x : List ℕ) → IsRecord (OwnPut u values) → IsIn x values → IsValue x
put_value_fits u values x fits on =
    let f = own_put_facts u values fits in
    let size_on : IsIn (length x) (map (λ (n : NamedValue). n.size) (values_named u)) = subst (λ (ns : List ℕ). IsIn (length x) ns) f.long (in_map (λ (v : List ℕ). length v) x values on) in
    let n = from_map (λ (n : NamedValue). n.size) (length x) (values_named u) size_on in
    subst (λ (m : ℕ). m ≤ 65536) n.1.1 (name_facts u n.0 f.update n.1.0).1

brings_value : (r : Record) (x : List ℕ) → IsRecord r → IsIn x (value_by r) → IsValue x
brings_value (OwnPut u values) x fits on = put_value_fits u values x fits on
brings_value (Held value) x fits (inl same) = subst (λ (y : List ℕ). IsValue y) same (IsValue-from_record value fits)
brings_value (Held value) x fits (inr never) = absurd never
brings_value (Birth node h) x fits never = absurd never
brings_value (OwnVoucher v) x fits never = absurd never
brings_value (Foreign s) x fits never = absurd never
brings_value (Conviction p) x fits never = absurd never

-- no value of a lawful journal is too long
pub value_fits : (here : Setting) (J : List Record) (x : List ℕ) → IsLawful here J → IsIn x (flat_map value_by J) → IsValue x
value_fits here J x l on = let g = given_by value_by x J on in brings_value g.by x (lawful_texts here J g.by l (giver_in value_by x J g)) g.given
