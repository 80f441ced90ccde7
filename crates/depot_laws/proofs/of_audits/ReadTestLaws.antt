-- What is said of an update's writes by tests, and as facts.
use Rattle.std.proofs.Common.{◌≡◌, ℕ, ◌==◌, Bool, true, false, cond, not, List, [], ◌∷◌, length, Option, Some, None, is_some, refl, sym, ap, subst, ◌∙◌, ◌↔◌, inl}
use Rattle.std.specs.Option.{option_map_or}
use Rattle.std.specs.Prelude.{option_and_then}
use Rattle.std.specs.Str.{bytes_eq}
use Rattle.std.proofs.lemmas.Bool.{and_parts, and_from, eqb-true, eq-eqb}
use Rattle.std.proofs.lemmas.Slice.Eq.{bytes_eq-Decides}
use Rattle.sha2.specs.Sha256.{sha256}
use Rattle.depot_base.specs.declared.write.Wrote.{Wrote}
use Rattle.depot_base.specs.declared.write.Wrote.TheVariants.{Put, Gone}
use Rattle.depot_base.specs.declared.update.Update.{Update}
use Rattle.depot_base.specs.declared.record.Record.{Record}
use Rattle.depot_base.specs.declared.record.Record.TheVariants.{Birth, OwnPut, OwnVoucher, Foreign, Conviction, Held}
use Rattle.depot_model.specs.lists.Lists.{IsIn}
use Rattle.depot_model.specs.texts.Texts.{IsUpdate, text_of_update}
use Rattle.depot_model.specs.texts.Contents.{wrote_under, keys_written, value_for, IsValueOf, IsPutOf, Sighting, held_value, not_held, gone, IfHeld}
use Rattle.depot_model.specs.worlds.Causality.{puts_of}
use Rattle.depot_model.specs.worlds.World.{Shown}
use Rattle.depot_model.proofs.of_texts.ContentLaws.{written_from}
use Rattle.depot_model.specs.worlds.ReadTests.{value_named, value_written, is_value_in, is_value_of, if_held, is_gone, is_deletion, is_put_of}
use Rattle.depot_model.specs.worlds.Audit.{shows_gone}
use Rattle.depot_laws.proofs.orders.SameBodies.{AllFit, body_is, body_from}

-- ---- keys

-- a key whose write names a value is one of those that an update writes
pub written_key : (key : List ℕ) (u : Update) → is_some (value_written key u) ≡ true → IsIn key (keys_written u)
written_key key u e = by_write (wrote_under key u.writes) refl e where
  by_write : (o : Option Wrote) → wrote_under key u.writes ≡ o → is_some (option_and_then value_named o) ≡ true → IsIn key (keys_written u)
  by_write None is e = absurd cc
  by_write (Some what) is e = written_from key u.writes what is

-- ---- values

same_put : (h k : List ℕ) (m n : ℕ) → h ≡ k → m ≡ n → Some (Put h m) ≡ Some (Put k n)
same_put h k m n p q = ap (λ (x : List ℕ). Some (Put x m)) p ∙ ap (λ (x : ℕ). Some (Put k x)) q

value_in_to : (v : List ℕ) (o : Option Wrote) → option_map_or (is_value_in v) o false ≡ true → o ≡ Some (Put (sha256 v) (length v))
value_in_to v None e = absurd cc
value_in_to v (Some Gone) e = absurd cc
value_in_to v (Some (Put h n)) e =
    let p = and_parts (bytes_eq h (sha256 v)) (n == length v) e in
    same_put h (sha256 v) n (length v) ((bytes_eq-Decides h (sha256 v)).0 p.0) (eqb-true n (length v) p.1)

value_in_from : (v : List ℕ) (o : Option Wrote) → o ≡ Some (Put (sha256 v) (length v)) → option_map_or (is_value_in v) o false ≡ true
value_in_from v o e = subst (λ (p : Option Wrote). option_map_or (is_value_in v) p false ≡ true) (sym e) (and_from _ _ ((bytes_eq-Decides (sha256 v) (sha256 v)).1 refl) (eq-eqb (length v) (length v) refl))

-- the test of a value that the write of a key names
pub value_to : (key : List ℕ) (u : Update) (v : List ℕ) → is_value_of key u v ≡ true → IsValueOf key u v
value_to key u v e = value_in_to v (wrote_under key u.writes) e

pub value_from : (key : List ℕ) (u : Update) (v : List ℕ) → IsValueOf key u v → is_value_of key u v ≡ true
value_from key u v e = value_in_from v (wrote_under key u.writes) e

-- ---- what is shown

-- the test of a value that is shown
pub if_held_to : (test : List ℕ → Bool) (P : List ℕ → Type 0) (s : Sighting) → ((v : List ℕ) → test v ≡ true → P v) → if_held s test ≡ true → IfHeld s P
if_held_to test P (held_value v) each e = each v e
if_held_to test P not_held each e = tt
if_held_to test P gone each e = tt

pub if_held_from : (test : List ℕ → Bool) (P : List ℕ → Type 0) (s : Sighting) → ((v : List ℕ) → P v → test v ≡ true) → IfHeld s P → if_held s test ≡ true
if_held_from test P (held_value v) each p = each v p
if_held_from test P not_held each p = refl
if_held_from test P gone each p = refl

-- that a deletion is shown, and that a write is one
pub gone_to : (s : Sighting) → is_gone s ≡ true → s ≡ gone
gone_to (held_value v) e = absurd cc
gone_to not_held e = absurd cc
gone_to gone e = refl

pub gone_from : (s : Sighting) → s ≡ gone → is_gone s ≡ true
gone_from s e = ap is_gone e

pub deletion_to : (o : Option Wrote) → is_deletion o ≡ true → o ≡ Some Gone
deletion_to None e = absurd cc
deletion_to (Some (Put h n)) e = absurd cc
deletion_to (Some Gone) e = refl

pub deletion_from : (o : Option Wrote) → o ≡ Some Gone → is_deletion o ≡ true
deletion_from o e = ap is_deletion e

alike : (b c : Bool) → cond b c (not c) ≡ true → (b ≡ true) ↔ (c ≡ true)
alike true c e = (λ one. e, λ one. refl)
alike false true e = absurd cc
alike false false e = (λ one. absurd cc, λ one. absurd cc)

alike_from : (b c : Bool) → (b ≡ true) ↔ (c ≡ true) → cond b c (not c) ≡ true
alike_from true c is = is.0 refl
alike_from false true is = is.1 refl
alike_from false false is = refl

-- the test that a deletion is shown exactly where the write of the key is one
pub gone_is : (key : List ℕ) (s : Shown) → shows_gone key s ≡ true → (s.seen ≡ gone) ↔ (wrote_under key s.update.writes ≡ Some Gone)
gone_is key s e =
    let o = wrote_under key s.update.writes in
    let is = alike (is_gone s.seen) (is_deletion o) e in
    (λ shown. deletion_to o (is.0 (gone_from s.seen shown)), λ deleted. gone_to s.seen (is.1 (deletion_from o deleted)))

pub gone_from_is : (key : List ℕ) (s : Shown) → (s.seen ≡ gone) ↔ (wrote_under key s.update.writes ≡ Some Gone) → shows_gone key s ≡ true
gone_from_is key s is =
    let o = wrote_under key s.update.writes in
    alike_from (is_gone s.seen) (is_deletion o) (λ shown. deletion_from o (is.0 (gone_to s.seen shown)), λ deleted. gone_from s.seen (is.1 (deletion_to o deleted)))

-- ---- puts

there_to : (v : List ℕ) (o : Option (List ℕ)) → option_map_or (bytes_eq v) o false ≡ true → o ≡ Some v
there_to v None e = absurd cc
there_to v (Some w) e = ap (λ (x : List ℕ). Some x) (sym ((bytes_eq-Decides v w).0 e))

there_from : (v : List ℕ) (o : Option (List ℕ)) → o ≡ Some v → option_map_or (bytes_eq v) o false ≡ true
there_from v o e = subst (λ (p : Option (List ℕ)). option_map_or (bytes_eq v) p false ≡ true) (sym e) ((bytes_eq-Decides v v).1 refl)

pub put_to : (key : List ℕ) (u : Update) (seen : Sighting) (r : Record) → IsUpdate u → AllFit (puts_of (r ∷ [])) → is_put_of key u seen r ≡ true → IsPutOf key u seen r
put_to key u seen (OwnPut put values) fits all e =
    let p = and_parts (bytes_eq (text_of_update put) (text_of_update u)) (if_held seen (λ v. option_map_or (bytes_eq v) (value_for key u.writes values) false)) e in
    (body_is put u (all put (inl refl)) fits p.0, if_held_to (λ v. option_map_or (bytes_eq v) (value_for key u.writes values) false) (λ v. value_for key u.writes values ≡ Some v) seen (λ v found. there_to v (value_for key u.writes values) found) p.1)
put_to key u seen (Birth node h) fits all e = absurd cc
put_to key u seen (OwnVoucher v) fits all e = absurd cc
put_to key u seen (Foreign f) fits all e = absurd cc
put_to key u seen (Conviction p) fits all e = absurd cc
put_to key u seen (Held value) fits all e = absurd cc

pub put_from : (key : List ℕ) (u : Update) (seen : Sighting) (r : Record) → IsPutOf key u seen r → is_put_of key u seen r ≡ true
put_from key u seen (OwnPut put values) p = and_from _ _ (body_from put u p.0) (if_held_from (λ v. option_map_or (bytes_eq v) (value_for key u.writes values) false) (λ v. value_for key u.writes values ≡ Some v) seen (λ v found. there_from v (value_for key u.writes values) found) p.1)
put_from key u seen (Birth node h) never = absurd never
put_from key u seen (OwnVoucher v) never = absurd never
put_from key u seen (Foreign f) never = absurd never
put_from key u seen (Conviction p) never = absurd never
put_from key u seen (Held value) never = absurd never
