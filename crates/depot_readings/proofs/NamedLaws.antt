-- What a mark that is put in changes, and what new records name.
use Rattle.std.proofs.Common.{◌≡◌, ℕ, Bool, true, false, cond, not, eqb, eq-eqb, append_assoc, ◌&&◌, ◌||◌, List, [], ◌∷◌, ◌++◌, Option, Some, None, IsTrue, is_some, refl, sym, ap, ◌∙◌, subst}
use Rattle.std.specs.BTreeMap.{get, IsUnchanged}
use Rattle.std.specs.Cmp.Lexicographic.{slice_cmp}
use Rattle.std.specs.List.{list_any}
use Rattle.std.specs.Ordering.{is_eq, nat_cmp}
use Rattle.std.specs.Str.{bytes_eq}
use Rattle.std.proofs.lemmas.Bool.{and_parts, and_from, eqb-true}
use Rattle.std.proofs.lemmas.Grind.{flat_map-append}
use Rattle.std.proofs.lemmas.List.{append-nil}
use Rattle.std.proofs.lemmas.List.Folds.{list_any-append}
use Rattle.std.proofs.lemmas.Map.Text.{is_eq-slice_cmp}
use Rattle.std.proofs.lemmas.Slice.Eq.{bytes_eq-Decides}
use Rattle.depot_base.specs.declared.record.Record.{Record}
use Rattle.depot_base.specs.declared.record.Record.TheVariants.{Birth, OwnPut, OwnVoucher, Foreign, Conviction, Held}
use Rattle.depot_base.specs.declared.statement.Signed.{Signed}
use Rattle.depot_base.specs.declared.statement.Statement.{Statement}
use Rattle.depot_base.specs.declared.statement.Statement.TheVariants as statements
use Rattle.depot_base.specs.declared.update.Update.{Update}
use Rattle.depot_model.specs.texts.Contents.{NamedValue, values_named, names_value}
use Rattle.depot_model.specs.journals.Journal.{accepted, accepted_by, is_wanted, update_in}
use Rattle.depot_laws.proofs.lists.Splits.{accepted_push, silent}
use Rattle.depot_model.specs.checks.Vouching.{records_of}
use Rattle.depot_base.proofs.GeneralLaws.{or_none, is_eq-nat_cmp, is_eq-then}
use Rattle.depot_readings.specs.NewRecords.{records_in, vouchers_of}
use Rattle.depot_readings.specs.Named.{is_value_named, is_name, names_in_statement, names_in_record, names_in, values_named_in, ValueMarks, compare_names, is_marked, has_value_mark, PutsMark, TakesMark, has_named_value, AreNamed}
use Rattle.depot_readings.specs.declared.news.News.{News}
use Rattle.depot_readings.specs.declared.news.News.TheVariants as news
use Rattle.depot_readings.specs.declared.named.NamedValues.{NamedValues}
use Rattle.depot_readings.proofs.VoucherRecords.{none_accepted, none_named}

-- ---- the order of names

-- two names compare as equal exactly where they are one
pub same_name : (a b : NamedValue) → is_eq (compare_names a b) ≡ is_value_named a b.hash b.size
same_name a b = is_eq-then (slice_cmp nat_cmp a.hash b.hash) (nat_cmp a.size b.size) ∙ ap (λ (t : Bool). t && is_eq (nat_cmp a.size b.size)) (is_eq-slice_cmp a.hash b.hash) ∙ ap (λ (t : Bool). bytes_eq a.hash b.hash && t) (is_eq-nat_cmp a.size b.size)

pub name_is : (a : NamedValue) (hash : List ℕ) (size : ℕ) → is_value_named a hash size ≡ true → a ≡ record { hash = hash; size = size }
name_is a hash size e =
    let parts = and_parts (bytes_eq a.hash hash) (eqb a.size size) e in
    let one : a.hash ≡ hash = (bytes_eq-Decides a.hash hash).0 parts.0 in
    let two : a.size ≡ size = eqb-true a.size size parts.1 in
    ap (λ (h : List ℕ). record { hash = h; size = a.size }) one ∙ ap (λ (n : ℕ). record { hash = hash; size = n }) two

-- ---- marks

-- the map's clause on an insert
pub puts_mark : (old new : ValueMarks) (name : NamedValue) (mark : Bool) → ((q : NamedValue) → get compare_names new q ≡ cond (is_eq (compare_names name q)) (Some mark) (get compare_names old q)) → PutsMark old new name mark
puts_mark old new name mark updates = record { marks = λ q. updates q ∙ ap (λ (b : Bool). cond b (Some mark) (get compare_names old q)) (same_name name q) }

or_true : (b : Bool) → true ≡ (b || true)
or_true true = refl
or_true false = refl

-- a name that is marked is named from now on
pub marked : (old new : ValueMarks) (name : NamedValue) → PutsMark old new name true → (hash : List ℕ) (size : ℕ)
    → is_marked (get compare_names new (record { hash = hash; size = size })) ≡ (is_marked (get compare_names old (record { hash = hash; size = size })) || is_value_named name hash size)
marked old new name p hash size = ap is_marked (p.marks (record { hash = hash; size = size })) ∙ by_test (is_value_named name hash size) where
  by_test : (b : Bool) → is_marked (cond b (Some true) (get compare_names old (record { hash = hash; size = size }))) ≡ (is_marked (get compare_names old (record { hash = hash; size = size })) || b)
  by_test true = or_true _
  by_test false = or_none _

none_marked : (o : Option Bool) → is_some o ≡ false → is_marked o ≡ false
none_marked None e = refl
none_marked (Some b) e = absurd cc

-- a mark that says no, in place of none, names nothing
pub unmarked : (old new : ValueMarks) (name : NamedValue) → PutsMark old new name false → has_value_mark old name ≡ false → (hash : List ℕ) (size : ℕ)
    → is_marked (get compare_names new (record { hash = hash; size = size })) ≡ is_marked (get compare_names old (record { hash = hash; size = size }))
unmarked old new name p free hash size = by_test (is_value_named name hash size) refl where
  by_test : (b : Bool) → is_value_named name hash size ≡ b → is_marked (get compare_names new (record { hash = hash; size = size })) ≡ is_marked (get compare_names old (record { hash = hash; size = size }))
  by_test true e =
      ap is_marked (p.marks (record { hash = hash; size = size })) ∙ ap (λ (b : Bool). is_marked (cond b (Some false) (get compare_names old (record { hash = hash; size = size })))) e
      ∙ sym (subst (λ (n : NamedValue). is_marked (get compare_names old n) ≡ false) (name_is name hash size e) (none_marked (get compare_names old name) free))
  by_test false e = ap is_marked (p.marks (record { hash = hash; size = size })) ∙ ap (λ (b : Bool). is_marked (cond b (Some false) (get compare_names old (record { hash = hash; size = size })))) e

pub own_name : (n : NamedValue) → is_value_named n n.hash n.size ≡ true
own_name n = and_from (bytes_eq n.hash n.hash) (eqb n.size n.size) ((bytes_eq-Decides n.hash n.hash).1 refl) (eq-eqb n.size n.size refl)

-- the mark that was put in is there
pub mark_put : (old new : ValueMarks) (name : NamedValue) (mark : Bool) → PutsMark old new name mark → IsTrue (has_value_mark new name)
mark_put old new name mark p = ap is_some (p.marks name ∙ ap (λ (b : Bool). cond b (Some mark) (get compare_names old name)) (own_name name))

-- and what had a mark has one still
pub mark_stays : (old new : ValueMarks) (name : NamedValue) (mark : Bool) → PutsMark old new name mark → (other : NamedValue) → has_value_mark old other ≡ true → has_value_mark new other ≡ true
mark_stays old new name mark p other had = ap is_some (p.marks other) ∙ by_test (is_value_named name other.hash other.size) where
  by_test : (b : Bool) → is_some (cond b (Some mark) (get compare_names old other)) ≡ true
  by_test true = refl
  by_test false = had

and_not : (b : Bool) → (b && true) ≡ b
and_not true = refl
and_not false = refl

and_none : (b : Bool) → (b && false) ≡ false
and_none true = refl
and_none false = refl

-- the map's clause on a name that is removed
pub takes_out : (old new : ValueMarks) (name : NamedValue) → ((q : NamedValue) → get compare_names new q ≡ cond (is_eq (compare_names name q)) None (get compare_names old q)) → TakesMark old new name
takes_out old new name updates = record { marks = λ q. updates q ∙ ap (λ (b : Bool). cond b None (get compare_names old q)) (same_name name q) }

-- a name that was removed is named no more
pub taken_out : (old new : ValueMarks) (name : NamedValue) → TakesMark old new name → (hash : List ℕ) (size : ℕ)
    → is_marked (get compare_names new (record { hash = hash; size = size })) ≡ (is_marked (get compare_names old (record { hash = hash; size = size })) && not (is_value_named name hash size))
taken_out old new name t hash size = ap is_marked (t.marks (record { hash = hash; size = size })) ∙ by_test (is_value_named name hash size) where
  by_test : (b : Bool) → is_marked (cond b None (get compare_names old (record { hash = hash; size = size }))) ≡ (is_marked (get compare_names old (record { hash = hash; size = size })) && not b)
  by_test true = sym (and_none _)
  by_test false = sym (and_not _)

-- and the others have a mark still
pub others_marked : (old new : ValueMarks) (name : NamedValue) → TakesMark old new name → (other : NamedValue) → is_value_named name other.hash other.size ≡ false → has_value_mark old other ≡ true → has_value_mark new other ≡ true
others_marked old new name t other apart had = ap is_some (t.marks other) ∙ ap (λ (b : Bool). is_some (cond b None (get compare_names old other))) apart ∙ had

-- the same entries have the same marks
pub same_marks : (old new : ValueMarks) → IsUnchanged old new → (n : NamedValue) → get compare_names new n ≡ get compare_names old n
same_marks old new same n = rw same refl

-- ---- what new records name

-- the updates with one more name its value too
wanted_more : (us : List Update) (u : Update) (hash : List ℕ) (size : ℕ) → is_wanted (us ++ u ∷ []) hash size ≡ (is_wanted us hash size || is_name (values_named u) hash size)
unfolding is_wanted
wanted_more us u hash size =
    list_any-append (λ (t : Update). names_value t hash size) us (u ∷ []) ∙ ap (λ (b : Bool). list_any (λ (t : Update). names_value t hash size) us || b) (sym (or_none (names_value u hash size)))

silent_names : (J : List Record) (r : Record) (hash : List ℕ) (size : ℕ) → accepted_by r ≡ [] → is_wanted (accepted (J ++ r ∷ [])) hash size ≡ (is_wanted (accepted J) hash size || false)
silent_names J r hash size none = ap (λ (us : List Update). is_wanted us hash size) (silent accepted_by J r none) ∙ or_none (is_wanted (accepted J) hash size)

update_names : (J : List Record) (r : Record) (u : Update) (hash : List ℕ) (size : ℕ) → accepted_by r ≡ u ∷ [] → is_wanted (accepted (J ++ r ∷ [])) hash size ≡ (is_wanted (accepted J) hash size || is_name (values_named u) hash size)
update_names J r u hash size brings = ap (λ (us : List Update). is_wanted us hash size) (accepted_push J r ∙ ap (λ (us : List Update). accepted J ++ us) brings) ∙ wanted_more (accepted J) u hash size

record_names : (J : List Record) (r : Record) (hash : List ℕ) (size : ℕ) → is_wanted (accepted (J ++ r ∷ [])) hash size ≡ (is_wanted (accepted J) hash size || is_name (names_in_record r) hash size)
record_names J (Birth node h) hash size = silent_names J (Birth node h) hash size refl
record_names J (OwnPut u values) hash size = update_names J (OwnPut u values) u hash size refl
record_names J (OwnVoucher v) hash size = silent_names J (OwnVoucher v) hash size refl
record_names J (Foreign s) hash size = by_kind s.statement refl where
  by_kind : (x : Statement) → s.statement ≡ x → is_wanted (accepted (J ++ Foreign s ∷ [])) hash size ≡ (is_wanted (accepted J) hash size || is_name (names_in_statement x) hash size)
  by_kind (statements.Update u) is = update_names J (Foreign s) u hash size (ap update_in is)
  by_kind (statements.Voucher v) is = silent_names J (Foreign s) hash size (ap update_in is)
record_names J (Conviction p) hash size = silent_names J (Conviction p) hash size refl
record_names J (Held value) hash size = silent_names J (Held value) hash size refl

-- the records of a growth name what they bring
pub growth_names : (J : List Record) (news : News) (hash : List ℕ) (size : ℕ) → is_wanted (accepted (J ++ records_in news)) hash size ≡ (is_wanted (accepted J) hash size || is_name (names_in (records_in news)) hash size)
growth_names J news.Nothing hash size = ap (λ (K : List Record). is_wanted (accepted K) hash size) (append-nil J) ∙ or_none (is_wanted (accepted J) hash size)
growth_names J (news.Birth node roster) hash size = record_names J (Birth node roster) hash size
growth_names J (news.Put u values id parents) hash size = record_names J (OwnPut u values) hash size
growth_names J (news.Foreign s id parents) hash size = record_names J (Foreign s) hash size
growth_names J (news.Conviction p) hash size = record_names J (Conviction p) hash size
growth_names J (news.Held value h) hash size = record_names J (Held value) hash size
growth_names J (news.Convicting p s id parents) hash size =
    ap (λ (K : List Record). is_wanted (accepted K) hash size) (sym (append_assoc J (Conviction p ∷ []) (Foreign s ∷ [])))
    ∙ record_names (J ++ Conviction p ∷ []) (Foreign s) hash size
    ∙ ap (λ (us : List Update). is_wanted us hash size || is_name (names_in_statement s.statement) hash size) (silent accepted_by J (Conviction p) refl)
growth_names J (news.Vouchers xs) hash size =
    let new : List Record = records_of (vouchers_of xs) in
    ap (λ (us : List Update). is_wanted us hash size) (flat_map-append accepted_by J new ∙ ap (λ (us : List Update). accepted J ++ us) (none_accepted (vouchers_of xs)) ∙ append-nil (accepted J))
    ∙ or_none (is_wanted (accepted J) hash size)
    ∙ ap (λ (n : List NamedValue). is_wanted (accepted J) hash size || is_name n hash size) (sym (none_named (vouchers_of xs)))

-- ---- more updates

-- names of these and of those
is_name-append : (xs ys : List NamedValue) (hash : List ℕ) (size : ℕ) → is_name (xs ++ ys) hash size ≡ (is_name xs hash size || is_name ys hash size)
is_name-append xs ys hash size = list_any-append (λ (n : NamedValue). is_value_named n hash size) xs ys

all_named : (us : List Update) (hash : List ℕ) (size : ℕ) → is_wanted us hash size ≡ is_name (values_named_in us) hash size
unfolding is_wanted
all_named [] hash size = refl
all_named (u ∷ us) hash size = ap (λ (b : Bool). names_value u hash size || b) (all_named us hash size) ∙ sym (is_name-append (values_named u) (values_named_in us) hash size)

more_wanted : (us more : List Update) (hash : List ℕ) (size : ℕ) → is_wanted (us ++ more) hash size ≡ (is_wanted us hash size || is_name (values_named_in more) hash size)
unfolding is_wanted
more_wanted us more hash size = list_any-append (λ (t : Update). names_value t hash size) us more ∙ ap (λ (b : Bool). is_wanted us hash size || b) (all_named more hash size)

-- with the names of more updates, those of all
pub more_named : (us more : List Update) (given : List NamedValue) (old new : NamedValues) → ((hash : List ℕ) (size : ℕ) → has_named_value new hash size ≡ (has_named_value old hash size || is_name given hash size)) → given ≡ values_named_in more → AreNamed us old → AreNamed (us ++ more) new
more_named us more given old new adds is n = record {
  are = λ hash size. adds hash size ∙ ap (λ (b : Bool). b || is_name given hash size) (n.are hash size) ∙ ap (λ (ns : List NamedValue). is_wanted us hash size || is_name ns hash size) is ∙ sym (more_wanted us more hash size);
}

-- of one more
pub one_named : (us : List Update) (u : Update) (given : List NamedValue) (old new : NamedValues) → ((hash : List ℕ) (size : ℕ) → has_named_value new hash size ≡ (has_named_value old hash size || is_name given hash size)) → given ≡ values_named u → AreNamed us old → AreNamed (us ++ u ∷ []) new
one_named us u given old new adds is n = more_named us (u ∷ []) given old new adds (is ∙ sym (append-nil (values_named u))) n

-- of none more
pub same_named : (us : List Update) (given : List NamedValue) (old new : NamedValues) → ((hash : List ℕ) (size : ℕ) → has_named_value new hash size ≡ (has_named_value old hash size || is_name given hash size)) → given ≡ [] → AreNamed us old → AreNamed us new
same_named us given old new adds none n = subst (λ (ts : List Update). AreNamed ts new) (append-nil us) (more_named us [] given old new adds none n)

-- where the same are named
pub still_named : (us : List Update) (old new : NamedValues) → ((hash : List ℕ) (size : ℕ) → has_named_value new hash size ≡ has_named_value old hash size) → AreNamed us old → AreNamed us new
still_named us old new same n = record { are = λ hash size. same hash size ∙ n.are hash size }

-- nothing is named by no updates
pub none_are_named : (named : NamedValues) → ((hash : List ℕ) (size : ℕ) → has_named_value named hash size ≡ false) → AreNamed [] named
unfolding is_wanted
none_are_named named none = record { are = none }

-- a growth names what the updates that it accepts name
statement_brings : (s : Signed) → names_in_statement s.statement ≡ values_named_in (update_in s.statement ++ [])
statement_brings s = by_kind s.statement where
  by_kind : (x : Statement) → names_in_statement x ≡ values_named_in (update_in x ++ [])
  by_kind (statements.Update u) = sym (append-nil (values_named u))
  by_kind (statements.Voucher v) = refl

pub growth_brings : (news : News) → names_in (records_in news) ≡ values_named_in (accepted (records_in news))
growth_brings news.Nothing = refl
growth_brings (news.Birth node roster) = refl
growth_brings (news.Put u values id parents) = sym (append-nil (values_named u))
growth_brings (news.Foreign s id parents) = statement_brings s
growth_brings (news.Convicting p s id parents) = statement_brings s
growth_brings (news.Conviction p) = refl
growth_brings (news.Held value h) = refl
growth_brings (news.Vouchers xs) = none_named (vouchers_of xs) ∙ ap values_named_in (sym (none_accepted (vouchers_of xs)))

-- what is named grows with the records
pub named_grows : (J : List Record) (news : News) (old mid new : NamedValues) → ((hash : List ℕ) (size : ℕ) → has_named_value mid hash size ≡ has_named_value old hash size)
    → ((hash : List ℕ) (size : ℕ) → has_named_value new hash size ≡ (has_named_value mid hash size || is_name (names_in (records_in news)) hash size)) → AreNamed (accepted J) old → AreNamed (accepted (J ++ records_in news)) new
named_grows J news old mid new same more n = record {
  are = λ hash size. more hash size ∙ ap (λ (b : Bool). b || is_name (names_in (records_in news)) hash size) (same hash size ∙ n.are hash size) ∙ sym (growth_names J news hash size);
}

pub ruleset named_laws = (puts_mark, marked, unmarked, mark_put, mark_stays, same_marks, taken_out, others_marked, none_are_named, still_named)
