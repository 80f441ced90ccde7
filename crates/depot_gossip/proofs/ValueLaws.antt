-- The values after the update of a candidate: which are found, how many, and how long they are.
use Rattle.std.proofs.Common.{◌≡◌, ℕ, ◌+◌, ◌<◌, ◌≤◌, List, [], ◌∷◌, ◌++◌, length, map, take, get_or, Bool, true, false, cond, ◌||◌, Option, Some, None, refl, sym, ap, subst, ◌∙◌, arith, length-append}
use Rattle.std.specs.Borrow.{Bor}
use Rattle.std.specs.List.{flat_map}
use Rattle.std.specs.Str.{bytes_eq}
use Rattle.std.proofs.Math.Bool.{or-false, or_assoc}
use Rattle.std.proofs.lemmas.List.{append-nil, map-append}
use Rattle.sha2.specs.Sha256.{sha256}
use Rattle.depot_base.specs.Writes.{value_in, values_in}
use Rattle.depot_base.specs.declared.update.NamedValue.{NamedValue}
use Rattle.depot_base.specs.declared.update.Update.{Update}
use Rattle.depot_base.specs.declared.write.Write.{Write}
use Rattle.depot_base.specs.declared.write.Wrote.{Wrote}
use Rattle.depot_base.specs.declared.write.Wrote.TheVariants.{Put, Gone}
use Rattle.depot_base.specs.declared.statement.Statement.{Statement}
use Rattle.depot_base.specs.declared.statement.Statement.TheVariants as statement
use Rattle.depot_base.specs.declared.statement.Signed.{Signed}
use Rattle.depot_base.specs.declared.record.Record.{Record}
use Rattle.depot_base.proofs.GeneralLaws.{flat_push, or_swap, take_next}
use Rattle.depot_base.proofs.MembershipLaws.{all_from}
use Rattle.depot_model.specs.lists.Lists.{is_among, AreTogether}
use Rattle.depot_model.specs.texts.Texts.{IsStatement, IsSigned}
use Rattle.depot_model.specs.journals.Journal.{update_in, held_as}
use Rattle.depot_model.specs.texts.Contents.{values_named}
use Rattle.depot_model.specs.checks.Checks.{Setting}
use Rattle.depot_model.specs.journals.Lawful.{IsLawful}
use Rattle.depot_model.specs.exchange.Bundle.{values_behind}
use Rattle.depot_model.proofs.of_texts.BodyLaws.{IsStatement-from_signed, IsUpdate-from_statement}
use Rattle.depot_model.proofs.of_texts.FieldFacts.{update_facts}
use Rattle.depot_model.proofs.lists.Members.{among-append}
use Rattle.depot_laws.proofs.exchanges.Candidates.{behind_is}
use Rattle.depot_laws.proofs.records.HeldValues.{held_as_is}
use Rattle.depot_laws.proofs.records.WantedValues.{value_fits}
use Rattle.depot_streams.specs.Sendings.{ArePayloads, payloads_of}
use Rattle.depot_gossip.specs.Choosing.{AreAlike, Finds}

-- ---- the values after names

-- the first of a name's value and the rest, where it is to be sent, or what comes else
abbrev value_first : Bool → Option (List ℕ) → List (List ℕ) → List (List ℕ) → List (List ℕ)
value_first sent o one two = elim (cond sent None o) as (λ p. List (List ℕ)) [ None ↦ one | Some v ↦ v ∷ two ]

-- which values are sent goes by the members of what was sent
pub behind_alike : (J : List Record) (a b : List (List ℕ)) (ns : List NamedValue) → AreAlike a b → values_behind J a ns ≡ values_behind J b ns
unfolding values_behind
behind_alike J a b [] alike = refl
behind_alike J a b (n ∷ ns) alike =
    ap (λ (c : Bool). value_first c (held_as J n) (values_behind J a ns) (values_behind J (n.hash ∷ a) ns)) (alike n.hash)
    ∙ ap (λ (vs : List (List ℕ)). value_first (is_among n.hash b) (held_as J n) vs (values_behind J (n.hash ∷ a) ns)) (behind_alike J a b ns alike)
    ∙ ap (value_first (is_among n.hash b) (held_as J n) (values_behind J b ns)) (behind_alike J (n.hash ∷ a) (n.hash ∷ b) ns (λ h. ap (λ (c : Bool). bytes_eq h n.hash || c) (alike h)))

-- after the names of some come those of others, with the hashes of the found values in the set
behind_both : (J : List Record) (keys mid : List (List ℕ)) (ns ms : List NamedValue) → AreTogether keys (map sha256 (values_behind J keys ns)) mid → values_behind J keys (ns ++ ms) ≡ values_behind J keys ns ++ values_behind J mid ms
unfolding values_behind
behind_both J keys mid [] ms t = behind_alike J keys mid ms (λ h. sym (t h ∙ or-false (is_among h keys)))
behind_both J keys mid (n ∷ ns) ms t = by_value (is_among n.hash keys) (held_as J n) refl (behind_both J keys mid ns ms) (behind_both J (n.hash ∷ keys) mid ns ms) t where
  rest : List (List ℕ)
  rest = values_behind J (n.hash ∷ keys) ns

  by_value : (b : Bool) (o : Option (List ℕ)) → held_as J n ≡ o
      → (AreTogether keys (map sha256 (values_behind J keys ns)) mid → values_behind J keys (ns ++ ms) ≡ values_behind J keys ns ++ values_behind J mid ms)
      → (AreTogether (n.hash ∷ keys) (map sha256 rest) mid → values_behind J (n.hash ∷ keys) (ns ++ ms) ≡ rest ++ values_behind J mid ms)
      → AreTogether keys (map sha256 (value_first b o (values_behind J keys ns) rest)) mid
      → value_first b o (values_behind J keys (ns ++ ms)) (values_behind J (n.hash ∷ keys) (ns ++ ms)) ≡ value_first b o (values_behind J keys ns) rest ++ values_behind J mid ms
  by_value true o is same more t = same t
  by_value false None is same more t = same t
  by_value false (Some v) is same more t =
      let hash : sha256 v ≡ n.hash = (held_as_is J n v is).hash in
      ap (λ (vs : List (List ℕ)). v ∷ vs)
      (more (λ h. t h ∙ ap (λ (k : List ℕ). is_among h keys || (bytes_eq h k || is_among h (map sha256 rest))) hash ∙ or_swap (bytes_eq h n.hash) (is_among h keys) (is_among h (map sha256 rest))))

-- ---- what is found, name by name

pub finds_none : (J : List Record) (keys : List (List ℕ)) → Finds J keys [] [] keys
unfolding values_behind
finds_none J keys = record { values = refl; hashes = λ h. sym (or-false (is_among h keys)) }

-- a name whose hash is among those, or whose value isn't held
pub finds_sent : (J : List Record) (keys : List (List ℕ)) (n : NamedValue) → is_among n.hash keys ≡ true → Finds J keys (n ∷ []) [] keys
unfolding values_behind
finds_sent J keys n sent = record { values = ap (λ (b : Bool). value_first b (held_as J n) [] []) (sym sent); hashes = λ h. sym (or-false (is_among h keys)) }

pub finds_unheld : (J : List Record) (keys : List (List ℕ)) (n : NamedValue) → None ≡ held_as J n → Finds J keys (n ∷ []) [] keys
unfolding values_behind
finds_unheld J keys n none = record { values = by_test (is_among n.hash keys) ∙ ap (λ (o : Option (List ℕ)). value_first (is_among n.hash keys) o [] []) none; hashes = λ h. sym (or-false (is_among h keys)) } where
  by_test : (b : Bool) → [] ≡ value_first b None [] []
  by_test true = refl
  by_test false = refl

-- and one whose value is found
pub finds_held : (J : List Record) (keys new : List (List ℕ)) (n : NamedValue) (v : List ℕ) → is_among n.hash keys ≡ false → Some v ≡ held_as J n → AreTogether keys (n.hash ∷ []) new → Finds J keys (n ∷ []) (v ∷ []) new
unfolding values_behind
finds_held J keys new n v fresh is t = record {
  values = ap (λ (o : Option (List ℕ)). value_first false o [] []) is ∙ ap (λ (b : Bool). value_first b (held_as J n) [] []) (sym fresh);
  hashes = λ h. t h ∙ ap (λ (k : List ℕ). is_among h keys || (bytes_eq h k || false)) (sym (held_as_is J n v (sym is)).hash);
}

-- some names, and then others
finds_both : (J : List Record) (keys mid new : List (List ℕ)) (ns ms : List NamedValue) (found more : List (List ℕ)) → Finds J keys ns found mid → Finds J mid ms more new → Finds J keys (ns ++ ms) (found ++ more) new
finds_both J keys mid new ns ms found more f m = record {
  values =
      ap (λ (vs : List (List ℕ)). vs ++ more) f.values ∙ ap (λ (vs : List (List ℕ)). values_behind J keys ns ++ vs) m.values
      ∙ sym (behind_both J keys mid ns ms (λ h. f.hashes h ∙ ap (λ (vs : List (List ℕ)). is_among h keys || is_among h (map sha256 vs)) f.values));
  hashes = λ h.
      m.hashes h ∙ ap (λ (b : Bool). b || is_among h (map sha256 more)) (f.hashes h) ∙ or_assoc (is_among h keys) (is_among h (map sha256 found)) (is_among h (map sha256 more))
      ∙ ap (λ (b : Bool). is_among h keys || b) (sym (ap (is_among h) (map-append sha256 found more) ∙ among-append h (map sha256 found) (map sha256 more)));
}

-- the names of one write more
pub finds_more : (J : List Record) (keys mid new : List (List ℕ)) (ws : List Write) (i : ℕ) (w : Write) (names : List NamedValue) (found more all : List (List ℕ)) → i < length ws → w ≡ get_or ws i w → names ≡ value_in w.what → all ≡ found ++ more
    → Finds J keys (values_in (take i ws)) found mid → Finds J mid names more new → Finds J keys (values_in (take (i + 1) ws)) all new
finds_more J keys mid new ws i w names found more all low is named added f m =
    let longer : values_in (take i ws) ++ names ≡ values_in (take (i + 1) ws) =
    ap (λ (ns : List NamedValue). values_in (take i ws) ++ ns) named ∙ sym (ap values_in (take_next ws i w low is) ∙ flat_push (λ (x : Write). value_in x.what) (take i ws) w) in
    subst (λ (vs : List (List ℕ)). Finds J keys (values_in (take (i + 1) ws)) vs new) (sym added)
    (subst (λ (ns : List NamedValue). Finds J keys ns (found ++ more) new) longer (finds_both J keys mid new (values_in (take i ws)) names found more f m))

-- one value more that is lent
pub lent_push : (new lent : List (Bor (List ℕ))) (v : Bor (List ℕ)) → new ≡ lent ++ v ∷ [] → payloads_of new ≡ payloads_of lent ++ v.now ∷ []
lent_push new lent v is = ap payloads_of is ∙ map-append (λ (x : Bor (List ℕ)). x.now) lent (v ∷ [])

-- ---- how many are found, and how long they are

few_behind : (J : List Record) (keys : List (List ℕ)) (ns : List NamedValue) → length (values_behind J keys ns) ≤ length ns
unfolding values_behind
few_behind J keys [] = omega arith
few_behind J keys (n ∷ ns) = by_value (is_among n.hash keys) (held_as J n) (few_behind J keys ns) (few_behind J (n.hash ∷ keys) ns) where
  by_value : (b : Bool) (o : Option (List ℕ)) → length (values_behind J keys ns) ≤ length ns → length (values_behind J (n.hash ∷ keys) ns) ≤ length ns → length (value_first b o (values_behind J keys ns) (values_behind J (n.hash ∷ keys) ns)) ≤ length (n ∷ ns)
  by_value true o same more = omega arith
  by_value false None same more = omega arith
  by_value false (Some v) same more = omega arith

few_in : (what : Wrote) → length (value_in what) ≤ 1
few_in (Put hash size) = omega arith
few_in Gone = omega arith

few_named : (ws : List Write) → length (values_in ws) ≤ length ws
few_named [] = omega arith
few_named (w ∷ ws) = omega (arith, length-append (value_in w.what) (values_in ws), few_in w.what, few_named ws)

few_names : (s : Signed) (x : Statement) → IsSigned s → s.statement ≡ x → length (flat_map values_named (update_in x)) ≤ 16
few_names s (statement.Voucher v) fits is = omega arith
few_names s (statement.Update u) fits is =
    let facts = update_facts u (IsUpdate-from_statement u (subst (λ (x : Statement). IsStatement x) is (IsStatement-from_signed s fits))) in
    omega (arith, ap length (append-nil (values_named u)), few_named u.writes, facts.writes.few)

-- after one statement there are at most as many values as an update has writes
pub few_found : (J : List Record) (keys : List (List ℕ)) (s : Signed) (u : Update) (found new : List (List ℕ)) → IsSigned s → update_in s.statement ≡ u ∷ [] → Finds J keys (values_named u) found new → length found ≤ 16
few_found J keys s u found new fits is f =
    let same : flat_map values_named (update_in s.statement) ≡ values_named u = ap (flat_map values_named) is ∙ append-nil (values_named u) in
    omega (arith, ap length f.values, few_behind J keys (values_named u), few_names s s.statement fits refl, ap length same)

-- each of them is short enough for a frame
pub found_are_short : (here : Setting) (J : List Record) (keys : List (List ℕ)) (ns : List NamedValue) (found new : List (List ℕ)) → IsLawful here J → Finds J keys ns found new → ArePayloads found
found_are_short here J keys ns found new l f =
    subst (λ (vs : List (List ℕ)). ArePayloads vs) (sym f.values)
    (all_from (λ (v : List ℕ). length v ≤ 131072) (values_behind J keys ns) (λ v on. let b = behind_is J keys ns v on in let short : length v ≤ 65536 = value_fits here J v l (held_as_is J b.name v b.held).on in omega (arith, short)))
