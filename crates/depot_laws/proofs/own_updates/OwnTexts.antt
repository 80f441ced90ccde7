-- The next own update of a lawful journal has a text, and the journal with it is lawful.
use Rattle.std.proofs.Common.{◌≡◌, ℕ, ◌+◌, ◌^◌, ◌<◌, ◌≤◌, Bool, true, false, cond, not, eqb, List, [], ◌∷◌, ◌++◌, map, length, None, refl, sym, ap, subst, ◌∙◌, arith, length-append, inl, inr}
use Rattle.std.specs.List.{filter}
use Rattle.std.specs.Int.{w8, w16, w32, w64}
use Rattle.std.proofs.lemmas.Bool.{and_parts}
use Rattle.sha2.proofs.Facts256.{length-sha256}
use Rattle.depot_base.specs.Zeros.{zeros}
use Rattle.depot_base.specs.Format.{number, bytes_of, list_of}
use Rattle.depot_base.specs.Parts.{node_number, digest, dep, deps_of}
use Rattle.depot_base.specs.Writes.{is_put, sizes_of}
use Rattle.depot_base.specs.declared.write.Write.{Write}
use Rattle.depot_base.specs.declared.write.Change.{Change}
use Rattle.depot_base.specs.declared.update.Update.{Update}
use Rattle.depot_base.specs.declared.statement.Statement.{Statement}
use Rattle.depot_base.specs.declared.record.Record.{Record}
use Rattle.depot_base.specs.declared.record.Record.TheVariants.{Birth, OwnPut, OwnVoucher, Foreign, Conviction, Held}
use Rattle.depot_base.proofs.Numbers.{number_within}
use Rattle.depot_model.specs.lists.Lists.{IsIn}
use Rattle.depot_model.specs.texts.Texts.{version_of, update_fields, update_body, IsUpdate, IsStatement, text_of_update, id_of_update}
use Rattle.depot_model.specs.texts.Records.{birth, tagged, record_text, IsRecord, journal_bytes}
use Rattle.depot_model.specs.updates.History.{history_hash, leaves_of, by_id, greatest_clock}
use Rattle.depot_model.specs.journals.Journal.{accepted, accepted_by, own, own_by, last_own}
use Rattle.depot_model.specs.checks.Own.{entry_of, precedes_named, next_entries, write_of, values_of, changes_of, next_with, next_own, IsFresh, leaf_count, is_unseen}
use Rattle.depot_model.specs.checks.Checks.{Setting}
use Rattle.depot_model.specs.checks.Room.{full_by}
use Rattle.depot_model.specs.journals.Lawful.{IsAllowed, IsLawful, is_birth, is_empty}
use Rattle.depot_model.specs.updates.Changes.{AreChanges}
use Rattle.depot_model.proofs.of_texts.FieldFacts.{WritesFacts, update_facts, writes_fit}
use Rattle.depot_model.proofs.of_texts.ContentLaws.{changes_back, changes_sizes}
use Rattle.depot_model.proofs.of_updates.ChangeLaws.{changes_written, put_has_text}
use Rattle.depot_model.proofs.of_texts.BodyLaws.{IsUpdate-from_statement, IsStatement-from_update, IsStatement-from_signed}
use Rattle.depot_model.proofs.of_texts.RecordLaws.{update_of_own_put}
use Rattle.depot_laws.proofs.lists.Splits.{given_by, lawful_push, lawful_from_end}
use Rattle.depot_laws.proofs.lists.Tests.{fails_from_not}
use Rattle.depot_model.proofs.lists.Members.{from_filter}
use Rattle.depot_model.proofs.lists.RisingUpdates.{from_by_id, HaveOwnIds, own_ids_from_causal, own_ids_filter, rises_by_id}
use Rattle.depot_laws.proofs.records.JournalLimits.{within_from_room}
use Rattle.depot_laws.proofs.records.LawfulRecords.{IsSigned-from_record, IsStatement-from_own_voucher}
use Rattle.depot_laws.proofs.records.Causes.{last_own_cases, update_in_is, leaf_is_on, lawful_is_causal}
use Rattle.depot_laws.proofs.orders.Clocks.{clocks_within}
use Rattle.depot_laws.proofs.own_updates.Nexts.{own_writes}
use Rattle.depot_laws.proofs.lists.Sorted.{entries_follow}

-- ---- the sizes of a lawful journal

-- a lawful journal has at most 131,072 records
pub lawful_is_short : (here : Setting) (J : List Record) → IsLawful here J → length J ≤ 131072
lawful_is_short here J l = lawful_from_end here (λ (x : List Record). length x ≤ 131072) (omega arith) (λ x r front allowed before. (within_from_room here.me x (r ∷ []) allowed.room).records) J l

-- and at most 1 GiB
pub lawful_is_light : (here : Setting) (J : List Record) → IsLawful here J → journal_bytes J ≤ 2 ^ 30
lawful_is_light here J l = lawful_from_end here (λ (x : List Record). journal_bytes x ≤ 2 ^ 30) (omega arith) (λ x r front allowed before. (within_from_room here.me x (r ∷ []) allowed.room).bytes) J l

one_own : (r : Record) → length (own_by r) ≤ 1
one_own (Birth node h) = omega arith
one_own (OwnPut u values) = omega arith
one_own (OwnVoucher v) = omega arith
one_own (Foreign s) = omega arith
one_own (Conviction p) = omega arith
one_own (Held value) = omega arith

-- and no more own statements than records
pub few_own : (J : List Record) → length (own J) ≤ length J
few_own [] = omega arith
few_own (r ∷ J) = let one = one_own r in let more = few_own J in omega (arith, length-append (own_by r) (own J))

-- ---- the node of a lawful journal

birth_node : (here : Setting) (r : Record) → is_birth r ≡ true → IsAllowed here [] r → node_number.fits here.me
unfolding record_text tagged birth
birth_node here (Birth node h) first allowed = subst (λ (n : ℕ). node_number.fits n) allowed.may.0 allowed.text.1.0
birth_node here (OwnPut u values) first allowed = absurd cc
birth_node here (OwnVoucher v) first allowed = absurd cc
birth_node here (Foreign s) first allowed = absurd cc
birth_node here (Conviction p) first allowed = absurd cc
birth_node here (Held value) first allowed = absurd cc

-- its number is in its range
pub me_fits : (here : Setting) (J : List Record) → IsLawful here J → is_empty J ≡ false → node_number.fits here.me
me_fits here [] l some = absurd cc
me_fits here (r ∷ J) l some = let allowed = l.each [] r J refl in birth_node here r allowed.first allowed

-- ---- accepted updates

accepted_is_update : (r : Record) (u : Update) → IsRecord r → IsIn u (accepted_by r) → IsUpdate u
accepted_is_update (Birth node h) u fits never = absurd never
accepted_is_update (OwnPut w values) u fits (inl same) = subst (λ (x : Update). IsUpdate x) same (update_of_own_put w values fits)
accepted_is_update (OwnPut w values) u fits (inr never) = absurd never
accepted_is_update (OwnVoucher v) u fits never = absurd never
accepted_is_update (Foreign s) u fits on = IsUpdate-from_statement u (subst (λ (x : Statement). IsStatement x) (update_in_is s.statement u on) (IsStatement-from_signed s (IsSigned-from_record s fits)))
accepted_is_update (Conviction p) u fits never = absurd never
accepted_is_update (Held value) u fits never = absurd never

-- each accepted update of a lawful journal has a text
pub accepted_fit : (here : Setting) (J : List Record) (u : Update) → IsLawful here J → IsIn u (accepted J) → IsUpdate u
accepted_fit here J u l on = let g = given_by accepted_by u J on in accepted_is_update g.by u (l.each g.before g.by g.after g.is).text g.given

own_is_statement : (r : Record) (s : Statement) → IsRecord r → IsIn s (own_by r) → IsStatement s
own_is_statement (OwnPut u values) s fits (inl same) = subst (λ (x : Statement). IsStatement x) same (IsStatement-from_update u (update_of_own_put u values fits))
own_is_statement (OwnPut u values) s fits (inr never) = absurd never
own_is_statement (OwnVoucher v) s fits (inl same) = subst (λ (x : Statement). IsStatement x) same (IsStatement-from_own_voucher v fits)
own_is_statement (OwnVoucher v) s fits (inr never) = absurd never
own_is_statement (Birth node h) s fits never = absurd never
own_is_statement (Foreign f) s fits never = absurd never
own_is_statement (Conviction p) s fits never = absurd never
own_is_statement (Held value) s fits never = absurd never

-- and so has each own statement
pub own_statement_fits : (here : Setting) (J : List Record) (s : Statement) → IsLawful here J → IsIn s (own J) → IsStatement s
own_statement_fits here J s l on = let g = given_by own_by s J on in own_is_statement g.by s (l.each g.before g.by g.after g.is).text g.given

pub writer_fits : (u : Update) → IsUpdate u → node_number.fits u.writer
writer_fits u fits = (update_facts u fits).writer

clock_fits : (u : Update) → IsUpdate u → (number w64 0 18446744073709551615).fits u.clock
unfolding number
clock_fits u fits = let c = number_within w64 1 18446744073709551615 u.clock (update_facts u fits).clock in (omega arith, c.1)

-- ---- entries

pub id_is_digest : (u : Update) → digest.fits (id_of_update u)
unfolding id_of_update bytes_of
id_is_digest u = length-sha256 (text_of_update u)

-- the entry that names an update with a text fits
pub entry_fits : (u : Update) → IsUpdate u → dep.fits (entry_of u)
unfolding dep
entry_fits u fits = (writer_fits u fits, (clock_fits u fits, (id_is_digest u, refl)))

entries_apart : (here : Setting) (J : List Record) (prev : List ℕ) → IsLawful here J → HaveOwnIds (filter (is_unseen here.me (accepted J) prev) (leaves_of (accepted J)))
unfolding leaves_of
entries_apart here J prev l = own_ids_filter (is_unseen here.me (accepted J) prev) _ (own_ids_filter _ (accepted J) (own_ids_from_causal [] (accepted J) (lawful_is_causal here J l)))

-- what an entry of the next own update names
record IsWanted (me : ℕ) (us : List Update) (t : Update) : Type 0 where
  pub on : IsIn t us
  pub other : eqb t.writer me ≡ false

is_wanted : (me : ℕ) (us : List Update) (prev : List ℕ) (t : Update) → IsIn t (next_entries me us prev) → IsWanted me us t
unfolding next_entries
is_wanted me us prev t on =
    let f = from_filter (is_unseen me us prev) t (leaves_of us) (from_by_id t (filter (is_unseen me us prev) (leaves_of us)) on) in
    record { on = leaf_is_on us t f.0; other = fails_from_not _ (and_parts (not (eqb t.writer me)) (not (precedes_named us prev t)) f.1).0 }

-- the entries of the next own update have a text
pub next_entries_fit : (here : Setting) (J : List Record) (prev : List ℕ) → IsLawful here J → (deps_of here.me (length (map entry_of (next_entries here.me (accepted J) prev)))).fits (map entry_of (next_entries here.me (accepted J) prev))
unfolding list_of next_entries
next_entries_fit here J prev l =
    let us = accepted J in
    let left = filter (is_unseen here.me us prev) (leaves_of us) in
    let rise = rises_by_id left (entries_apart here J prev l) in
    (entries_follow here.me [] (by_id left) rise (λ u on. refl) (λ u on. entry_fits u (accepted_fit here J u l (is_wanted here.me us prev u on).on)) (λ u on. (is_wanted here.me us prev u on).other), refl)

-- ---- the next own update

zeros_are_digest : digest.fits zeros
unfolding bytes_of
zeros_are_digest = refl

last_own_is_digest : (J : List Record) → digest.fits (last_own J)
last_own_is_digest J = elim (last_own_cases J) [
  | inl none ↦ subst (λ (h : List ℕ). digest.fits h) (sym none) zeros_are_digest
  | inr some ↦ subst (λ (h : List ℕ). digest.fits h) some.id (id_is_digest some.update)
]

history_is_digest : (us : List Update) → digest.fits (history_hash us)
unfolding history_hash bytes_of
history_is_digest us = length-sha256 _

in_range_16 : (n : ℕ) → n ≤ 1024 → (number w16 0 1024).fits n
unfolding number
in_range_16 n high = (omega arith, high)

in_range_32 : (high n : ℕ) → n ≤ high → (number w32 0 high).fits n
unfolding number
in_range_32 high n le = (omega arith, le)

in_range_64 : (n : ℕ) → 1 ≤ n → n ≤ 18446744073709551615 → (number w64 1 18446744073709551615).fits n
unfolding number
in_range_64 n low high = (low, high)

ones : (number w8 1 1).fits 1
unfolding number
ones = (omega arith, omega arith)

version_fits : (ws : List Write) → (number w8 1 2).fits (version_of ws)
unfolding number
version_fits [] = (omega arith, omega arith)
version_fits (w ∷ []) = one_or_two (is_put w.what) where
  one_or_two : (b : Bool) → (1 ≤ cond b 1 2) × (cond b 1 2 ≤ 2)
  one_or_two true = (omega arith, omega arith)
  one_or_two false = (omega arith, omega arith)
version_fits (w ∷ v ∷ ws) = (omega arith, omega arith)

-- it has a text, where what it writes is in its ranges and its entries aren't too many
pub next_fits : (here : Setting) (J : List Record) (ws : List Write) → IsLawful here J → is_empty J ≡ false → WritesFacts ws → length (next_with here.me J ws).deps ≤ 1024 → IsUpdate (next_with here.me J ws)
unfolding update_body update_fields
next_fits here J ws l some good few =
    let clocks = clocks_within here J l in
    let short = lawful_is_short here J l in
    let owned = few_own J in (
      version_fits ws,
      (
        ones,
        (
          me_fits here J l some,
          (
            in_range_32 4294967295 (length (own J)) (omega arith),
            (
              in_range_64 (greatest_clock (accepted J) + 1) (omega arith) (omega arith),
              (
                last_own_is_digest J,
                (writes_fit ws good, (in_range_16 _ few, (next_entries_fit here J (last_own J) l, (history_is_digest (accepted J), refl)))),
              ),
            ),
          ),
        ),
      ),
    )

pub next_own_fits : (here : Setting) (J : List Record) (changes : List Change) → IsLawful here J → is_empty J ≡ false → AreChanges changes → length (next_own here.me J changes).deps ≤ 1024 → IsUpdate (next_own here.me J changes)
unfolding next_own
next_own_fits here J changes l some good few = next_fits here J (map write_of changes) l some (changes_written changes good) few

-- ---- its record

-- the next own update has a text
pub own_fits : (here : Setting) (J : List Record) (u : Update) (changes : List Change) → IsLawful here J → is_empty J ≡ false → AreChanges changes → u ≡ next_own here.me J changes → length u.deps ≤ 1024 → IsUpdate u
own_fits here J u changes l some good next few =
    subst (λ (x : Update). IsUpdate x) (sym next) (next_own_fits here J changes l some good (subst (λ (x : Update). length x.deps ≤ 1024) next few))

-- and so has its record
pub own_record_fits : (here : Setting) (J : List Record) (u : Update) (changes : List Change) → IsLawful here J → is_empty J ≡ false → AreChanges changes → u ≡ next_own here.me J changes → length u.deps ≤ 1024 → IsRecord (OwnPut u (values_of changes))
own_record_fits here J u changes l some good next few =
    put_has_text u (values_of changes) (own_fits here J u changes l some good next few) (changes_sizes changes ∙ ap sizes_of (sym (own_writes here.me J changes u next)))

-- the changes that its writes and the values make are those that it was made of
same_changes : (me : ℕ) (J : List Record) (u : Update) (changes : List Change) → u ≡ next_own me J changes → changes_of u.writes (values_of changes) ≡ changes
same_changes me J u changes next = ap (λ (ws : List Write). changes_of ws (values_of changes)) (own_writes me J changes u next) ∙ changes_back changes

-- the journal with it is lawful
pub own_put_is_lawful : (here : Setting) (J : List Record) (u : Update) (changes : List Change) → IsLawful here J → is_empty J ≡ false → AreChanges changes → u ≡ next_own here.me J changes
    → IsFresh J (id_of_update u) → length u.deps ≤ 1024 → length (own J) < leaf_count here.listed here.me → full_by here.me J (OwnPut u (values_of changes) ∷ []) ≡ None → IsLawful here (J ++ OwnPut u (values_of changes) ∷ [])
own_put_is_lawful here J u changes l some good next fresh few leaf room =
    lawful_push here J (OwnPut u (values_of changes)) l (record {
      first = sym some;
      text = own_record_fits here J u changes l some good next few;
      may = record { next = next ∙ ap (λ (cs : List Change). next_own here.me J cs) (sym (same_changes here.me J u changes next)); fresh = fresh; tips = few; leaf = leaf };
      room = room;
    })
