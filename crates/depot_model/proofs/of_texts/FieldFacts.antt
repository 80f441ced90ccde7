-- What it says of a value that it has a text: of each of its fields, by the field's name.
use Rattle.std.proofs.Common.{◌≡◌, ℕ, suc, ◌≤◌, ◌++◌, Bool, true, false, cond, eqb, List, [], ◌∷◌, length, map, Option, refl, sym, ap, subst, ◌∙◌, arith, inl, inr}
use Rattle.std.specs.List.{AllByRecursion}
use Rattle.std.specs.Ordering.{nat_cmp, is_lt}
use Rattle.std.specs.Cmp.Lexicographic.{slice_cmp}
use Rattle.std.proofs.lemmas.Bool.{ne_eqb}
use Rattle.std.proofs.lemmas.Cmp.{nat_list_cmp_total}
use Rattle.depot_base.proofs.GeneralLaws.{less_is}
use Rattle.depot_base.specs.Pairs.{AllPairsByRecursion}
use Rattle.depot_base.specs.declared.write.Wrote.{Wrote}
use Rattle.depot_model.specs.lists.Lists.{IsIn, AreApart}
use Rattle.depot_model.proofs.lists.RisingLists.{less_one_way}
use Rattle.std.specs.Int.{w8, w16, w32, w64}
use Rattle.depot_base.specs.declared.limits.TheConstants.{MOST_WRITES, MOST_ENTRIES, MOST_BODY, MOST_SIGNATURE, MOST_NODES}
use Rattle.depot_base.specs.Format.{Follows, number, bytes_of, inner, list_of, choose, field, made_of_fields}
use Rattle.depot_base.specs.Parts.{node_number, digest, deps_of, roster_entry, roster_entry_rises, write, write_rises, marked, write_mark, hash_in, size_in, is_below}
use Rattle.depot_base.specs.Sized.{IsKey, IsValue}
use Rattle.depot_base.specs.Writes.{is_put, value_in, sizes_of}
use Rattle.depot_base.specs.Shown.{shown_first, shown_second, IsPairKind}
use Rattle.depot_base.specs.declared.write.Write.{Write}
use Rattle.depot_base.specs.declared.write.Wrote.TheVariants.{Put, Gone}
use Rattle.depot_base.specs.declared.proof.Kind.TheVariants.{SameNumber, SamePrev, Backward, NotUpdate}
use Rattle.depot_base.specs.declared.proof.Proof.TheVariants.{Pair, Hollow}
use Rattle.depot_base.proofs.PieceLaws.{lengths_of_pieces}
use Rattle.depot_base.proofs.EntryLists.{last_pushed}
use Rattle.depot_base.specs.declared.update.Update.{Update}
use Rattle.depot_base.specs.declared.statement.Signed.{Signed}
use Rattle.depot_base.specs.declared.proof.Proof.{Proof}
use Rattle.depot_base.specs.declared.key.RosterEntry.{RosterEntry}
use Rattle.depot_base.specs.declared.record.Record.TheVariants.{OwnPut}
use Rattle.depot_model.specs.texts.Texts.{version_of, first_write, single, lone, several, writes_text, update_fields, update_body, signed, proof, roster, IsUpdate, IsStatement, IsSigned, IsProof, IsRoster, text_of_statement}
use Rattle.depot_model.specs.texts.Records.{own_put, tagged, record_text, IsRecord}

-- ---- the writes of an update

-- a write's key is a key, and the value that it names has a hash and a length of the right sizes
pub record WriteFacts (w : Write) : Type 0 where
  pub key : IsKey w.key
  pub value : AllByRecursion (λ n. digest.fits n.hash × (n.size ≤ 65536)) (value_in w.what)

-- keys rise strictly from each write to the next, the first above one that comes before them
abbrev pub RiseBehind : Write → List Write → Type 0
RiseBehind before [] = Unit {0}
RiseBehind before (w ∷ ws) = (is_below before.key w.key ≡ true) × RiseBehind w ws

abbrev pub KeysRise : List Write → Type 0
KeysRise [] = Unit {0}
KeysRise (w ∷ ws) = RiseBehind w ws

-- there are 1 to 16 writes, each in its ranges, and their keys rise strictly
pub record WritesFacts (ws : List Write) : Type 0 where
  pub some : 1 ≤ length ws
  pub few : length ws ≤ 16
  pub each : AllByRecursion WriteFacts ws
  pub rise : KeysRise ws

named_facts : (w : Write) (hash : List ℕ) (size : ℕ) → w.what ≡ Put hash size → digest.fits (hash_in w.what) → size_in w.what ≤ 65536 → AllByRecursion (λ n. digest.fits n.hash × (n.size ≤ 65536)) (value_in w.what)
named_facts w hash size is digested small = rw is ((subst (λ (h : List ℕ). digest.fits h) (ap hash_in is) digested, subst (λ (n : ℕ). n ≤ 65536) (ap size_in is) small), tt)

none_named : (w : Write) → w.what ≡ Gone → AllByRecursion (λ n. digest.fits n.hash × (n.size ≤ 65536)) (value_in w.what)
none_named w is = rw is tt

single_facts : (ws : List Write) → single.fits ws → WritesFacts ws
unfolding number bytes_of
single_facts [] (key_length, more) = absurd (omega (arith, key_length.0))
single_facts (w ∷ []) (key_length, (key, (hash, (size, is)))) = record {
  some = omega arith;
  few = omega arith;
  each = (record { key = (omega (arith, key_length.0), key_length.1); value = named_facts w (hash_in w.what) (size_in w.what) (ap (λ (x : List Write). (first_write x).what) is) hash size.1 }, tt);
  rise = tt;
}
single_facts (w ∷ v ∷ ws) (key_length, (key, (hash, (size, is)))) = absurd (omega (arith, ap (λ (x : List Write). length x) is))

lone_facts : (ws : List Write) → lone.fits ws → WritesFacts ws
unfolding number bytes_of
lone_facts [] (key_length, more) = absurd (omega (arith, key_length.0))
lone_facts (w ∷ []) (key_length, (key, (mark, is))) = record {
  some = omega arith;
  few = omega arith;
  each = (record { key = (omega (arith, key_length.0), key_length.1); value = none_named w (ap (λ (x : List Write). (first_write x).what) is) }, tt);
  rise = tt;
}
lone_facts (w ∷ v ∷ ws) (key_length, (key, (mark, is))) = absurd (omega (arith, ap (λ (x : List Write). length x) is))

marked_named : (gone : Bool) (w : Write) → (choose {V = Write} gone (made_of_fields (record { key = w.key; what = Gone })) (field digest (λ x. hash_in x.what) λ hash. field (number w32 0 65536) (λ x. size_in x.what) λ size. made_of_fields (record { key = w.key; what = Put hash size }))).fits w
    → AllByRecursion (λ n. digest.fits n.hash × (n.size ≤ 65536)) (value_in w.what)
unfolding number
marked_named true w h = none_named w (ap (λ (x : Write). x.what) h)
marked_named false w h = named_facts w (hash_in w.what) (size_in w.what) (ap (λ (x : Write). x.what) h.1.1) h.0 h.1.0.1

pub write_facts : (w : Write) → write.fits w → WriteFacts w
unfolding write marked number
write_facts w (key_length, (key, (mark, rest))) = record { key = (omega (arith, key_length.0), key_length.1); value = marked_named (eqb (write_mark w.what) 0) w rest }

each_facts : (front ws : List Write) → Follows write write_rises front ws → AllByRecursion WriteFacts ws
each_facts front [] follows = tt
each_facts front (w ∷ ws) follows = (write_facts w follows.0, each_facts (front ++ w ∷ []) ws follows.2)

rise_behind : (front : List Write) (before : Write) (ws : List Write) → Follows write write_rises (front ++ before ∷ []) ws → RiseBehind before ws
rise_behind front before [] follows = tt
rise_behind front before (w ∷ ws) follows = (subst (λ (o : Option Write). write_rises o w ≡ true) (last_pushed front before) follows.1, rise_behind (front ++ before ∷ []) w ws follows.2)

keys_rise : (ws : List Write) → Follows write write_rises [] ws → KeysRise ws
keys_rise [] follows = tt
keys_rise (w ∷ ws) follows = rise_behind [] w ws follows.2

counted_facts : (alone : Bool) (ws : List Write) → (number w8 1 MOST_WRITES).fits (length ws) → (choose alone lone (list_of (length ws) write write_rises)).fits ws → WritesFacts ws
unfolding list_of number
counted_facts true ws range h = lone_facts ws h
counted_facts false ws range h = record { some = range.0; few = range.1; each = each_facts [] ws h.0; rise = keys_rise ws h.0 }

several_facts : (ws : List Write) → several.fits ws → WritesFacts ws
several_facts ws h = counted_facts (eqb (length ws) 1) ws h.0 h.1

which_facts : (b : Bool) (ws : List Write) → (choose b single several).fits ws → WritesFacts ws
which_facts true ws h = single_facts ws h
which_facts false ws h = several_facts ws h

pub writes_facts : (version : ℕ) (ws : List Write) → (writes_text version).fits ws → WritesFacts ws
writes_facts version ws h = which_facts (eqb version 1) ws h

-- ---- and back: such writes have the text of their version

what_fits : (w : Write) (what : Wrote) → w.what ≡ what → AllByRecursion (λ n. digest.fits n.hash × (n.size ≤ 65536)) (value_in what) → (marked w.key (write_mark what)).fits w
unfolding marked number
what_fits w (Put hash size) is value = (rw is value.0.0, ((omega arith, rw is value.0.1), whole w hash size is)) where
  whole : (w : Write) (hash : List ℕ) (size : ℕ) → w.what ≡ Put hash size → w ≡ record { key = w.key; what = Put (hash_in w.what) (size_in w.what) }
  whole w hash size is = ap (λ (x : Wrote). record { key = w.key; what = x }) (is ∙ sym (ap (λ (x : Wrote). Put (hash_in x) (size_in x)) is))
what_fits w Gone is value = ap (λ (x : Wrote). record { key = w.key; what = x }) is

small_mark : (what : Wrote) → write_mark what ≤ 1
small_mark (Put hash size) = omega arith
small_mark Gone = omega arith

pub write_fits : (w : Write) → WriteFacts w → write.fits w
unfolding write number bytes_of
write_fits w f = ((omega (arith, f.key.0), f.key.1), (refl, ((omega arith, small_mark w.what), what_fits w w.what refl f.value)))

follow_all : (front : List Write) (before : Write) (ws : List Write) → AllByRecursion WriteFacts ws → RiseBehind before ws → Follows write write_rises (front ++ before ∷ []) ws
follow_all front before [] each rise = tt
follow_all front before (w ∷ ws) each rise =
    (write_fits w each.0, subst (λ (o : Option Write). write_rises o w ≡ true) (sym (last_pushed front before)) rise.0, follow_all (front ++ before ∷ []) w ws each.1 rise.1)

pub writes_follow : (ws : List Write) → AllByRecursion WriteFacts ws → KeysRise ws → Follows write write_rises [] ws
writes_follow [] each rise = tt
writes_follow (w ∷ ws) each rise = (write_fits w each.0, refl, follow_all [] w ws each.1 rise)

one_fits : (w : Write) (what : Wrote) → w.what ≡ what → WriteFacts w → (writes_text (cond (is_put what) 1 2)).fits (w ∷ [])
unfolding number bytes_of
one_fits w (Put hash size) is f = ((omega (arith, f.key.0), f.key.1), (refl, (rw is (named is f.value).0, ((omega arith, rw is (named is f.value).1), ap (λ (x : Write). x ∷ []) (whole is))))) where
  named : w.what ≡ Put hash size → AllByRecursion (λ n. digest.fits n.hash × (n.size ≤ 65536)) (value_in w.what) → digest.fits hash × (size ≤ 65536)
  named is value = (subst (λ (x : Wrote). AllByRecursion (λ n. digest.fits n.hash × (n.size ≤ 65536)) (value_in x)) is value).0

  whole : w.what ≡ Put hash size → w ≡ record { key = w.key; what = Put (hash_in w.what) (size_in w.what) }
  whole is = ap (λ (x : Wrote). record { key = w.key; what = x }) (is ∙ sym (ap (λ (x : Wrote). Put (hash_in x) (size_in x)) is))
one_fits w Gone is f = ((omega arith, omega arith), ((omega (arith, f.key.0), f.key.1), (refl, ((omega arith, omega arith), ap (λ (x : Wrote). record { key = w.key; what = x } ∷ []) is))))

pub writes_fit : (ws : List Write) → WritesFacts ws → (writes_text (version_of ws)).fits ws
unfolding number list_of
writes_fit [] f = absurd (omega (arith, f.some))
writes_fit (w ∷ []) f = one_fits w w.what refl f.each.0
writes_fit (w ∷ v ∷ ws) f = ((f.some, f.few), subst (λ (b : Bool). (choose b lone (list_of (length (w ∷ v ∷ ws)) write write_rises)).fits (w ∷ v ∷ ws)) (sym (more_than_one (length ws))) (writes_follow (w ∷ v ∷ ws) f.each f.rise, refl)) where
  more_than_one : (n : ℕ) → eqb (suc (suc n)) 1 ≡ false
  more_than_one n = ne_eqb (suc (suc n)) 1 (λ e. omega (arith, e))

-- ---- keys that rise

below_trans : (a b c : List ℕ) → is_below a b ≡ true → is_below b c ≡ true → is_below a c ≡ true
below_trans a b c one two = ap is_lt (nat_list_cmp_total.trans a b c (less_is _ one) (less_is _ two))

all_above : (key : List ℕ) (before : Write) (ws : List Write) → is_below key before.key ≡ true → RiseBehind before ws → AllByRecursion (λ w. is_below key w.key ≡ true) ws
all_above key before [] low rise = tt
all_above key before (w ∷ ws) low rise = let next = below_trans key before.key w.key low rise.0 in (next, all_above key w ws next rise.1)

behind_rise : (before : Write) (ws : List Write) → RiseBehind before ws → AllByRecursion (λ w. is_below before.key w.key ≡ true) ws
behind_rise before [] rise = tt
behind_rise before (w ∷ ws) rise = (rise.0, all_above before.key w ws rise.0 rise.1)

-- each key is below all that come after it
pub keys_rise_all : (ws : List Write) → KeysRise ws → AllPairsByRecursion (λ v w. is_below v.key w.key ≡ true) ws
keys_rise_all [] rise = tt
keys_rise_all (w ∷ []) rise = (tt, tt)
keys_rise_all (w ∷ v ∷ ws) rise = (behind_rise w (v ∷ ws) rise, keys_rise_all (v ∷ ws) rise.1)

not_below_itself : (key : List ℕ) → is_below key key ≡ true → ⊥
not_below_itself key low = less_one_way (slice_cmp nat_cmp key key) (slice_cmp nat_cmp key key) (nat_list_cmp_total.antisymm key key) low low

none_again : (key : List ℕ) (ws : List Write) → AllByRecursion (λ w. is_below key w.key ≡ true) ws → IsIn key (map (λ w. w.key) ws) → ⊥
none_again key [] low on = on
none_again key (w ∷ ws) low (inl here) = not_below_itself key (subst (λ (k : List ℕ). is_below key k ≡ true) here low.0)
none_again key (w ∷ ws) low (inr there) = none_again key ws low.1 there

all_apart : (ws : List Write) → AllPairsByRecursion (λ v w. is_below v.key w.key ≡ true) ws → AreApart (map (λ w. w.key) ws)
all_apart [] rise = tt
all_apart (w ∷ ws) rise = (none_again w.key ws rise.0, all_apart ws rise.1)

-- so no key is written twice
pub keys_apart : (ws : List Write) → KeysRise ws → AreApart (map (λ w. w.key) ws)
keys_apart ws rise = all_apart ws (keys_rise_all ws rise)

-- an update's fields are in their ranges
pub record UpdateFacts (u : Update) : Type 0 where
  pub writer : node_number.fits u.writer
  pub seq : (number w32 0 4294967295).fits u.seq
  pub clock : (number w64 1 18446744073709551615).fits u.clock
  pub prev : digest.fits u.prev
  pub version : (number w8 1 2).fits (version_of u.writes)
  pub text : (writes_text (version_of u.writes)).fits u.writes
  pub writes : WritesFacts u.writes
  pub count : (number w16 0 MOST_ENTRIES).fits (length u.deps)
  pub deps : (deps_of u.writer (length u.deps)).fits u.deps
  pub history : digest.fits u.history

pub update_facts : (u : Update) → IsUpdate u → UpdateFacts u
unfolding update_body update_fields
update_facts u (version, (kind, (writer, (seq, (clock, (prev, (writes, (count, (deps, (history, whole)))))))))) =
    record { writer = writer; seq = seq; clock = clock; prev = prev; version = version; text = writes; writes = writes_facts (version_of u.writes) u.writes writes; count = count; deps = deps; history = history }

-- the body of a signed statement is the text of its statement, which is in its ranges
pub record SignedFacts (s : Signed) : Type 0 where
  pub body_length : (number w32 0 MOST_BODY).fits (length s.body)
  pub statement : IsStatement s.statement
  pub body : s.body ≡ text_of_statement s.statement
  pub signature_length : (number w32 0 MOST_SIGNATURE).fits (length s.signature)

pub signed_facts : (s : Signed) → IsSigned s → SignedFacts s
unfolding signed inner
signed_facts s (body_length, (((statement, as_long), body), (signature_length, (signature, whole)))) = record { body_length = body_length; statement = statement; body = body; signature_length = signature_length }

-- what a proof shows is in its ranges
abbrev pub ProofFacts : Proof → Type 0
ProofFacts (Pair kind first second) = IsPairKind kind × (IsSigned first × IsSigned second)
ProofFacts (Hollow voucher text) = IsSigned voucher × IsValue text

pub proof_facts : (p : Proof) → IsProof p → ProofFacts p
unfolding proof number bytes_of
proof_facts (Pair NotUpdate first second) (version, (kind, (signed, (long, (text, is))))) = absurd cc
proof_facts (Pair SameNumber first second) (version, (kind, (one, (two, is)))) = (tt, (one, two))
proof_facts (Pair SamePrev first second) (version, (kind, (one, (two, is)))) = (tt, (one, two))
proof_facts (Pair Backward first second) (version, (kind, (one, (two, is)))) = (tt, (one, two))
proof_facts (Hollow voucher text) (version, (kind, (signed, (long, (text_long, is))))) = (signed, long.1)

-- so is each signed statement that it shows
pub first_facts : (p : Proof) → IsProof p → IsSigned (shown_first p)
first_facts (Pair kind first second) fits = (proof_facts (Pair kind first second) fits).1.0
first_facts (Hollow voucher text) fits = (proof_facts (Hollow voucher text) fits).0

pub second_facts : (p : Proof) → IsProof p → IsSigned (shown_second p)
second_facts (Pair kind first second) fits = (proof_facts (Pair kind first second) fits).1.1
second_facts (Hollow voucher text) fits = (proof_facts (Hollow voucher text) fits).0

-- a roster's entries are in their order, and their count is in its range
pub record RosterFacts (r : List RosterEntry) : Type 0 where
  pub count : (number w16 1 MOST_NODES).fits (length r)
  pub follows : Follows roster_entry roster_entry_rises [] r

pub roster_facts : (r : List RosterEntry) → IsRoster r → RosterFacts r
unfolding roster list_of
roster_facts r (version, (kind, (count, ((follows, as_many), whole)))) = record { count = count; follows = follows }

-- the update of an own put is in its ranges, and the values have the lengths that its writes name
pub record OwnPutFacts (u : Update) (values : List (List ℕ)) : Type 0 where
  pub update : IsUpdate u
  pub long : map (λ v. length v) values ≡ sizes_of u.writes

pub put_facts : (p : Update × List (List ℕ)) → own_put.fits p → OwnPutFacts p.0 p.1
unfolding own_put inner
put_facts p (body_length, ((update, as_long), (long, whole))) = record { update = update; long = lengths_of_pieces (sizes_of p.0.writes) p.1 long }

pub own_put_facts : (u : Update) (values : List (List ℕ)) → IsRecord (OwnPut u values) → OwnPutFacts u values
unfolding record_text tagged
own_put_facts u values (tag, put) = put_facts (u, values) put
