-- The values that are named and not held, with more records.
use Rattle.std.proofs.Common.{◌≡◌, ℕ, ◌+◌, ◌<◌, ◌==◌, Bool, true, false, cond, not, ◌&&◌, ◌||◌, List, [], ◌∷◌, ◌++◌, length, map, take, get_or, Option, Some, None, refl, sym, ap, ◌∙◌}
use Rattle.std.specs.List.{filter, list_any, flat_map}
use Rattle.std.specs.Option.{option_map_or}
use Rattle.std.specs.Str.{bytes_eq}
use Rattle.std.proofs.lemmas.Grind.{flat_map-append}
use Rattle.std.proofs.lemmas.List.{append-nil}
use Rattle.std.proofs.lemmas.List.Folds.{list_any-append}
use Rattle.sha2.specs.Sha256.{sha256}
use Rattle.depot_base.specs.declared.limits.TheConstants.{MOST_WANTED}
use Rattle.depot_base.specs.declared.record.Record.{Record}
use Rattle.depot_base.specs.declared.update.Update.{Update}
use Rattle.depot_base.proofs.GeneralLaws.{or_none, take_next}
use Rattle.depot_model.specs.checks.Checks.{Setting}
use Rattle.depot_model.specs.texts.Contents.{NamedValue, values_named}
use Rattle.depot_model.specs.exchange.Hello.{lacking, wanted_of}
use Rattle.depot_model.specs.journals.Journal.{accepted, held, holds, is_wanted, value_by, value_with}
use Rattle.depot_model.specs.journals.Lawful.{IsLawful}
use Rattle.depot_model.specs.checks.Vouching.{rising}
use Rattle.depot_laws.proofs.records.HeldByHash.{holds_by, held_by_hash}
use Rattle.depot_laws.proofs.records.HeldValues.{held_is}
use Rattle.depot_kept.specs.Values as values
use Rattle.depot_kept.specs.declared.values.Values.{Values}
use Rattle.depot_readings.specs.AddedValues.{or_else}
use Rattle.depot_readings.specs.Lacking.{is_held, is_lacked, AreLacked, names_brought}
use Rattle.depot_readings.specs.Named.{is_value_named, is_name, names_in, has_named_value}
use Rattle.depot_readings.specs.NewRecords.{records_in, vouchers_of}
use Rattle.depot_readings.specs.declared.news.News.{News}
use Rattle.depot_readings.specs.declared.news.News.TheVariants as news
use Rattle.depot_readings.specs.declared.named.NamedValues.{NamedValues}
use Rattle.depot_readings.proofs.HeldLaws.{with_behind}
use Rattle.depot_readings.proofs.NamedLaws.{growth_names, name_is}
use Rattle.depot_readings.proofs.StateGrowth.{put_hashes, put_sizes}
use Rattle.depot_readings.proofs.VoucherRecords.{none_valued}

-- ---- one name more

name_next : (ns : List NamedValue) (i : ℕ) (n : NamedValue) (hash : List ℕ) (size : ℕ) → i < length ns → n ≡ get_or ns i n → is_name (take (i + 1) ns) hash size ≡ (is_name (take i ns) hash size || is_value_named n hash size)
name_next ns i n hash size low is =
    ap (λ (ms : List NamedValue). is_name ms hash size) (take_next ns i n low is) ∙ list_any-append (λ (m : NamedValue). is_value_named m hash size) (take i ns) (n ∷ [])
    ∙ ap (λ (b : Bool). is_name (take i ns) hash size || b) (sym (or_none (is_value_named n hash size)))

cond_or : (a b x y : Bool) → cond a x (cond b x y) ≡ cond (b || a) x y
cond_or true true x y = refl
cond_or true false x y = refl
cond_or false true x y = refl
cond_or false false x y = refl

-- the names before are settled, and one more
pub settled_next : (ns : List NamedValue) (i : ℕ) (n : NamedValue) (hash : List ℕ) (size : ℕ) (x new mid old : Bool) → i < length ns → n ≡ get_or ns i n → new ≡ cond (is_value_named n hash size) x mid → mid ≡ cond (is_name (take i ns) hash size) x old
    → new ≡ cond (is_name (take (i + 1) ns) hash size) x old
settled_next ns i n hash size x new mid old low is one before =
    one ∙ ap (cond (is_value_named n hash size) x) before ∙ cond_or (is_value_named n hash size) (is_name (take i ns) hash size) x old ∙ ap (λ (b : Bool). cond b x old) (sym (name_next ns i n hash size low is))

-- ---- values after others

-- a value of this hash and this length
abbrev fits : List ℕ → ℕ → List ℕ → Bool
fits hash size v = bytes_eq (sha256 v) hash && (length v == size)

-- the value of a hash has this length
abbrev is_long : ℕ → Option (List ℕ) → Bool
is_long size o = option_map_or (λ v. length v == size) o false

none_with : (hash : List ℕ) (size : ℕ) (vs : List (List ℕ)) → list_any (fits hash size) vs ≡ false → is_long size (value_with hash vs) ≡ false
none_with hash size [] none = refl
none_with hash size (v ∷ vs) none = step (bytes_eq (sha256 v) hash) (length v == size) refl none (none_with hash size vs) where
  step : (a b : Bool) → (length v == size) ≡ b → ((a && b) || list_any (fits hash size) vs) ≡ false → (list_any (fits hash size) vs ≡ false → is_long size (value_with hash vs) ≡ false) → is_long size (cond a (Some v) (value_with hash vs)) ≡ false
  step true true is e rest = absurd cc
  step true false is e rest = is
  step false b is e rest = rest e

-- values of other hashes or lengths change nothing
unlike : (hash : List ℕ) (size : ℕ) (o : Option (List ℕ)) (vs : List (List ℕ)) → list_any (fits hash size) vs ≡ false → is_long size (or_else o (value_with hash vs)) ≡ is_long size o
unlike hash size (Some v) vs none = refl
unlike hash size None vs none = none_with hash size vs none

-- and what is held stays so
long_still : (size : ℕ) (o p : Option (List ℕ)) → is_long size o ≡ true → is_long size (or_else o p) ≡ true
long_still size (Some v) p e = e
long_still size None p e = absurd cc

-- what is held once there are more records
holds_with : (J new : List Record) (hash : List ℕ) (size : ℕ) → holds (J ++ new) hash size ≡ is_long size (or_else (value_with hash (held J)) (value_with hash (flat_map value_by new)))
holds_with J new hash size =
    holds_by (J ++ new) hash size
    ∙ ap (is_long size) (held_is hash (J ++ new) ∙ ap (value_with hash) (flat_map-append value_by J new) ∙ with_behind hash (flat_map value_by J) (flat_map value_by new)
    ∙ ap (λ (o : Option (List ℕ)). or_else o (value_with hash (flat_map value_by new))) (sym (held_is hash J)))

-- ---- the values of a growth

-- the values of an own update have the names that it gives them
same_names : (ns : List NamedValue) (vs : List (List ℕ)) (hash : List ℕ) (size : ℕ) → map (λ n. n.hash) ns ≡ map sha256 vs → map (λ n. n.size) ns ≡ map (λ v. length v) vs → is_name ns hash size ≡ list_any (fits hash size) vs
same_names [] [] hash size hashes sizes = refl
same_names [] (v ∷ vs) hash size hashes sizes = absurd cc
same_names (n ∷ ns) [] hash size hashes sizes = absurd cc
same_names (n ∷ ns) (v ∷ vs) hash size hashes sizes =
    let h : n.hash ≡ sha256 v = cc in
    let l : n.size ≡ length v = cc in
    let hs : map (λ (m : NamedValue). m.hash) ns ≡ map sha256 vs = cc in
    let ls : map (λ (m : NamedValue). m.size) ns ≡ map (λ (w : List ℕ). length w) vs = cc in
    ap (λ (b : Bool). b || is_name ns hash size) (ap (λ (k : List ℕ). bytes_eq k hash && (n.size == size)) h ∙ ap (λ (k : ℕ). bytes_eq (sha256 v) hash && (k == size)) l)
    ∙ ap (λ (b : Bool). fits hash size v || b) (same_names ns vs hash size hs ls)

-- what a growth brings has a name that it gives, or that of a value of others
brought_only : (here : Setting) (J : List Record) (news : News) (hash : List ℕ) (size : ℕ) → IsLawful here (J ++ records_in news) → is_name (names_in (records_in news)) hash size ≡ false → is_name (names_brought (records_in news)) hash size ≡ false
    → list_any (fits hash size) (flat_map value_by (records_in news)) ≡ false
brought_only here J news.Nothing hash size l given came = refl
brought_only here J (news.Birth node roster) hash size l given came = refl
brought_only here J (news.Put u vs id parents) hash size l given came =
    ap (list_any (fits hash size)) (append-nil vs) ∙ sym (same_names (values_named u) vs hash size (put_hashes here J u vs l) (put_sizes here J u vs l)) ∙ given
brought_only here J (news.Foreign s id parents) hash size l given came = refl
brought_only here J (news.Convicting p s id parents) hash size l given came = refl
brought_only here J (news.Conviction p) hash size l given came = refl
brought_only here J (news.Held v id) hash size l given came = came
brought_only here J (news.Vouchers xs) hash size l given came = ap (list_any (fits hash size)) (none_valued (vouchers_of xs))

-- ---- what is lacked

-- of a name: given now, wanted and held before, held now, come now
settled : (given wanted before now came : Bool) → (given ≡ false → came ≡ false → now ≡ before) → (before ≡ true → now ≡ true) → (cond given (not now) (wanted && not before) && not (came && now)) ≡ ((wanted || given) && not now)
settled true true before true came same still = refl
settled true false before true came same still = refl
settled true true before false true same still = refl
settled true true before false false same still = refl
settled true false before false true same still = refl
settled true false before false false same still = refl
settled false true true now false same still = rw (same refl refl) refl
settled false true false now false same still = rw (same refl refl) refl
settled false false before now false same still = refl
settled false true true true true same still = refl
settled false true false true true same still = refl
settled false false before true true same still = refl
settled false true true false true same still = absurd (let e = still refl in cc)
settled false true false false true same still = refl
settled false false before false true same still = refl

-- the names of what is lacked, once the names of a growth are settled and what came is let go
pub lacked_grows : (here : Setting) (J : List Record) (news : News) (kept : Values) (old mid next new : NamedValues) → IsLawful here (J ++ records_in news)
    → ((hash : List ℕ) → values.held_in kept hash ≡ value_with hash (held (J ++ records_in news)))
    → ((hash : List ℕ) (size : ℕ) → has_named_value mid hash size ≡ has_named_value old hash size)
    → ((hash : List ℕ) (size : ℕ) → has_named_value next hash size ≡ cond (is_name (names_in (records_in news)) hash size) (not (is_held kept hash size)) (has_named_value mid hash size))
    → ((hash : List ℕ) (size : ℕ) → has_named_value new hash size ≡ (has_named_value next hash size && not (is_name (names_brought (records_in news)) hash size && is_held kept hash size)))
    → AreLacked J old → AreLacked (J ++ records_in news) new
lacked_grows here J news kept old mid next new l are same settles lets a = record { are = each } where
  all : List Record
  all = J ++ records_in news

  each : (hash : List ℕ) (size : ℕ) → has_named_value new hash size ≡ is_lacked all hash size
  each hash size =
      let given : Bool = is_name (names_in (records_in news)) hash size in
      let came : Bool = is_name (names_brought (records_in news)) hash size in
      let now : is_held kept hash size ≡ holds all hash size = held_by_hash all hash size (values.held_in kept hash) (are hash) in
      lets hash size
      ∙ ap (λ (b : Bool). b && not (came && is_held kept hash size)) (settles hash size ∙ ap (cond given (not (is_held kept hash size))) (same hash size ∙ a.are hash size))
      ∙ ap (λ (b : Bool). cond given (not b) (is_lacked J hash size) && not (came && b)) now
      ∙ settled given (is_wanted (accepted J) hash size) (holds J hash size) (holds all hash size) came
      (λ no_given not_come. holds_with J (records_in news) hash size ∙ unlike hash size (value_with hash (held J)) (flat_map value_by (records_in news)) (brought_only here J news hash size l no_given not_come) ∙ sym (holds_by J hash size))
      (λ was. holds_with J (records_in news) hash size ∙ long_still size (value_with hash (held J)) (value_with hash (flat_map value_by (records_in news))) (sym (holds_by J hash size) ∙ was))
      ∙ ap (λ (b : Bool). b && not (holds all hash size)) (sym (growth_names J news hash size))

-- ---- the hashes of what is lacked

-- of these names those that aren't held
named_filter : (J : List Record) (ns : List NamedValue) (hash : List ℕ) (size : ℕ) → is_name (filter (λ n. not (holds J n.hash n.size)) ns) hash size ≡ (is_name ns hash size && not (holds J hash size))
named_filter J [] hash size = refl
named_filter J (n ∷ ns) hash size = by_tests (is_value_named n hash size) refl (not (holds J n.hash n.size)) refl (named_filter J ns hash size) where
  rest : List NamedValue
  rest = filter (λ m. not (holds J m.hash m.size)) ns

  lost : (b : Bool) → (b && false) ≡ false
  lost true = refl
  lost false = refl

  by_tests : (b : Bool) → is_value_named n hash size ≡ b → (k : Bool) → not (holds J n.hash n.size) ≡ k → is_name rest hash size ≡ (is_name ns hash size && not (holds J hash size))
      → is_name (cond k (n ∷ rest) rest) hash size ≡ ((b || is_name ns hash size) && not (holds J hash size))
  by_tests true is true lacks more = rw is (sym (ap (λ (m : NamedValue). not (holds J m.hash m.size)) (sym (name_is n hash size is)) ∙ lacks))
  by_tests true is false lacks more =
      let held : not (holds J hash size) ≡ false = ap (λ (m : NamedValue). not (holds J m.hash m.size)) (sym (name_is n hash size is)) ∙ lacks in
      more ∙ ap (λ (c : Bool). is_name ns hash size && c) held ∙ lost (is_name ns hash size) ∙ sym held
  by_tests false is true lacks more = rw is more
  by_tests false is false lacks more = more

-- the names of these updates are wanted
named_flat : (us : List Update) (hash : List ℕ) (size : ℕ) → is_name (flat_map values_named us) hash size ≡ is_wanted us hash size
unfolding is_wanted
named_flat [] hash size = refl
named_flat (u ∷ us) hash size = list_any-append (λ (n : NamedValue). is_value_named n hash size) (values_named u) (flat_map values_named us) ∙ ap (λ (b : Bool). is_name (values_named u) hash size || b) (named_flat us hash size)

-- the first hashes of what is lacked are the wanted ones
pub wanted_are : (J : List Record) (named : NamedValues) (ids : List (List ℕ)) → AreLacked J named → ((ns : List NamedValue) → ((hash : List ℕ) (size : ℕ) → has_named_value named hash size ≡ is_name ns hash size) → ids ≡ take MOST_WANTED (rising (map (λ n. n.hash) ns))) → ids ≡ wanted_of J
unfolding lacking
wanted_are J named ids a each =
    each (filter (λ n. not (holds J n.hash n.size)) (flat_map values_named (accepted J)))
    (λ hash size. a.are hash size ∙ ap (λ (b : Bool). b && not (holds J hash size)) (sym (named_flat (accepted J) hash size)) ∙ sym (named_filter J (flat_map values_named (accepted J)) hash size))
