-- A checkpoint that every node signed, computed: the one node of a roster put twice under a key and then put the
-- checkpoint's text. So the conditions of `trim_law` are met, with an update that was trimmed.
use Rattle.std.proofs.Common.{◌≡◌, ◌<◌, ℕ, List, [], ◌∷◌, ◌++◌, length, Bool, true, false, not, ◌||◌, None, refl, ap, subst, ◌∙◌, inl, inr, arith, rules, sym}
use Rattle.std.specs.List.{list_all}
use Rattle.std.specs.Str.{bytes_eq}
use Rattle.std.proofs.lemmas.Slice.Eq.{bytes_eq-Decides}
use Rattle.std.proofs.lemmas.Bool.{iff_false}
use Rattle.sha2.specs.Sha256.{sha256, digest_bytes, hash_after, compress, rounds, schedule, first_words}
use Rattle.sha2.proofs.Facts256.{length-sha256}
use Rattle.depot_base.specs.Zeros.{zeros}
use Rattle.depot_base.specs.Cursor.{numeral}
use Rattle.depot_base.specs.Format.{number, bytes_of, inner, list_of}
use Rattle.depot_base.specs.Parts.{dep, roster_entry}
use Rattle.depot_base.specs.Writes.{one_change}
use Rattle.depot_base.specs.declared.key.RosterEntry.{RosterEntry}
use Rattle.depot_base.specs.declared.update.Update.{Update}
use Rattle.depot_base.specs.declared.statement.Signed.{Signed}
use Rattle.depot_base.specs.declared.record.Record.{Record}
use Rattle.depot_base.specs.declared.record.Record.TheVariants.{Birth, OwnPut}
use Rattle.depot_model.specs.lists.Lists.{IsIn}
use Rattle.depot_model.specs.exchange.Bundle.{is_covered}
use Rattle.depot_model.specs.updates.Changes.{AreChanges}
use Rattle.depot_model.specs.readers.Checkpoints.{checkpoint, checkpoint_key, text_of_checkpoint}
use Rattle.depot_model.specs.checks.Checks.{Setting}
use Rattle.depot_model.specs.exchange.Hello.{hello_leaf}
use Rattle.depot_model.specs.updates.History.{leaves_of, put_by_id, by_id, history_text, history_hash}
use Rattle.depot_model.specs.lists.Insertion.{insert_by, order_by}
use Rattle.depot_model.specs.journals.Journal.{accepted, own, has_id, named, prev_of}
use Rattle.depot_model.specs.updates.LatestList.{latest_in}
use Rattle.depot_model.specs.journals.Lawful.{IsLawful, is_empty}
use Rattle.depot_model.specs.updates.Order.{past}
use Rattle.depot_model.specs.checks.Own.{precedes_named, next_entries, next_own, leaf_count}
use Rattle.depot_model.specs.texts.Records.{birth, own_put, tagged, record_text}
use Rattle.depot_model.specs.checks.Room.{full_with, full_by, foreign_leaves}
use Rattle.depot_model.specs.texts.Roster.{Verifies, key_of}
use Rattle.depot_model.specs.texts.Texts.{update_fields, update_body, roster, IsRoster, id_of_update, hash_of_roster}
use Rattle.depot_model.specs.readers.Pruning.{below_of}
use Rattle.depot_model.specs.readers.Trimming.{is_signed_by, is_trimmed, trimmed}
use Rattle.depot_model.specs.worlds.World.{Correct, World, IsCorrect, IsWorld, IsAuthentic, IsCollisionFree, writes_of, hashed_texts}
use Rattle.depot_examples.specs.Met.{HasSignedCheckpoint}
use Rattle.depot_laws.specs.TrimFacts.{AllSigned, NoneNamesBelow}
use Rattle.depot_laws.proofs.records.Births.{born as born_lawful}
use Rattle.depot_laws.proofs.lists.EachPasses.{each_to}
use Rattle.depot_laws.proofs.of_readers.NeverBelow.{never_below}
use Rattle.depot_laws.proofs.own_updates.OwnTexts.{own_put_is_lawful}
use Rattle.depot_laws.proofs.of_readers.TrimLaw.{trim}
use Rattle.depot_laws.proofs.of_worlds.Worlds.{one_text}

-- ---- a roster of one

unfoldable all_verify : Verifies
all_verify key seq body signature = true

abbrev members : List RosterEntry
members = record { node = 1; key = record { root = zeros; height = 2 } } ∷ []

abbrev here : Setting
here = record { verifies = all_verify; me = 1; listed = members }

roster_fits : IsRoster members
unfolding roster number list_of roster_entry bytes_of
roster_fits = search rules

abbrev born : List Record
born = Birth 1 (hash_of_roster members) ∷ []

born_is_lawful : IsLawful here born
unfolding key_of
born_is_lawful = born_lawful here roster_fits refl

-- ---- two puts of a key, and the checkpoint over the second

abbrev k : List ℕ
k = 107 ∷ []

unfoldable one : Update
one = next_own 1 born (one_change k (97 ∷ []))

abbrev first : List Record
first = born ++ OwnPut one ((97 ∷ []) ∷ []) ∷ []

unfoldable two : Update
two = next_own 1 first (one_change k (98 ∷ []))

abbrev second : List Record
second = first ++ OwnPut two ((98 ∷ []) ∷ []) ∷ []

abbrev ids : List (List ℕ)
ids = id_of_update two ∷ []

unfoldable text : List ℕ
text = text_of_checkpoint (record { roster = hash_of_roster members; leaves = record { writer = 1; id = id_of_update two } ∷ [] })

unfoldable signs : Update
signs = next_own 1 second (one_change (checkpoint_key text) text)

abbrev journal : List Record
journal = second ++ OwnPut signs (text ∷ []) ∷ []

-- each of them may occur where it does
record IsNext (J : List Record) (u : Update) (value : List ℕ) : Type 0 where
  pub not_zeros : bytes_eq (id_of_update u) zeros ≡ false
  pub new : has_id (accepted J) (id_of_update u) ≡ false
  pub few : length u.deps ≡ 0
  pub leaf : length (own J) < leaf_count members 1
  pub room : full_by 1 J (OwnPut u (value ∷ []) ∷ []) ≡ None

first_next : IsNext born one (97 ∷ [])
unfolding one two text signs all_verify sha256 digest_bytes hash_after compress rounds schedule first_words id_of_update update_body update_fields number bytes_of list_of dep hello_leaf checkpoint checkpoint_key next_own next_entries precedes_named prev_of past named has_id history_hash history_text leaves_of by_id put_by_id numeral leaf_count key_of full_with foreign_leaves record_text tagged birth own_put inner hash_of_roster roster roster_entry
first_next = record { not_zeros = refl; new = refl; few = refl; leaf = omega arith; room = refl }

second_next : IsNext first two (98 ∷ [])
unfolding one two text signs all_verify sha256 digest_bytes hash_after compress rounds schedule first_words id_of_update update_body update_fields number bytes_of list_of dep hello_leaf checkpoint checkpoint_key next_own next_entries precedes_named prev_of past named has_id history_hash history_text leaves_of by_id put_by_id numeral leaf_count key_of full_with foreign_leaves record_text tagged birth own_put inner hash_of_roster roster roster_entry
second_next = record { not_zeros = refl; new = refl; few = refl; leaf = omega arith; room = refl }

last_next : IsNext second signs text
unfolding one two text signs all_verify sha256 digest_bytes hash_after compress rounds schedule first_words id_of_update update_body update_fields number bytes_of list_of dep hello_leaf checkpoint checkpoint_key next_own next_entries precedes_named prev_of past named has_id history_hash history_text leaves_of by_id put_by_id numeral leaf_count key_of full_with foreign_leaves record_text tagged birth own_put inner hash_of_roster roster roster_entry
last_next = record { not_zeros = refl; new = refl; few = refl; leaf = omega arith; room = refl }

goes_on : (J : List Record) (u : Update) (key value : List ℕ) → IsLawful here J → is_empty J ≡ false → AreChanges (one_change key value) → u ≡ next_own 1 J (one_change key value) → IsNext J u value → IsLawful here (J ++ OwnPut u (value ∷ []) ∷ [])
goes_on J u key value lawful begun good next may = own_put_is_lawful here J u (one_change key value) lawful begun good next
    (record { named = iff_false (bytes_eq-Decides (id_of_update u) zeros) may.not_zeros; new = may.new }) (omega (arith, may.few)) may.leaf may.room

small_changes : (value : ℕ) → AreChanges (one_change k (value ∷ []))
small_changes value = record { some = omega arith; few = omega arith; each = (((omega arith, omega arith), (omega arith, tt)), tt); rising = (tt, tt) }

text_is_short : length text ≡ 70
unfolding text sha256 digest_bytes hash_after compress rounds schedule first_words one two id_of_update update_body update_fields number bytes_of list_of dep hello_leaf checkpoint next_own next_entries precedes_named prev_of past named has_id history_hash history_text leaves_of by_id put_by_id numeral hash_of_roster roster roster_entry
text_is_short = refl

its_changes : AreChanges (one_change (checkpoint_key text) text)
unfolding checkpoint_key
its_changes = let long = length-sha256 text in record { some = omega arith; few = omega arith; each = (((omega (arith, long), omega (arith, long)), (omega (arith, text_is_short), tt)), tt); rising = (tt, tt) }

lawful : IsLawful here journal
unfolding one two signs
lawful = goes_on second signs (checkpoint_key text) text
    (goes_on first two k (98 ∷ []) (goes_on born one k (97 ∷ []) born_is_lawful refl (small_changes 97) refl first_next) refl (small_changes 98) refl second_next)
    refl its_changes refl last_next

-- ---- the world

abbrev one_node : Correct
one_node = record { node = 1; journal = journal; reads = [] }

abbrev world : World
world = record { verifies = all_verify; listed = members; nodes = one_node ∷ []; judged = [] }

nodes_are : (c : Correct) → IsIn c world.nodes → IsCorrect world c
unfolding key_of
nodes_are c (inl same) = subst (λ (x : Correct). IsCorrect world x) same (record { member = refl; lawful = lawful; begun = refl; reads = λ r never. absurd never; in_order = tt })
nodes_are c (inr never) = absurd never

is_world : IsWorld world
is_world = record { distinct = (tt, tt); correct = nodes_are; formed = λ p never. absurd never; judged = λ p never. absurd never }

is_authentic : IsAuthentic world
is_authentic = record { made = λ s c never. absurd never }

-- no two of its texts have one hash: three bodies, two values and the checkpoint's text

abbrev is_other : List ℕ → List ℕ → Bool
is_other a b = bytes_eq a b || not (bytes_eq (sha256 a) (sha256 b))

abbrev are_other : List (List ℕ) → Bool
are_other ts = list_all (λ a. list_all (is_other a) ts) ts

apart : are_other (hashed_texts world) ≡ true
unfolding one two text signs all_verify sha256 digest_bytes hash_after compress rounds schedule first_words id_of_update update_body update_fields number bytes_of list_of dep hello_leaf checkpoint checkpoint_key next_own next_entries precedes_named prev_of past named has_id history_hash history_text leaves_of by_id put_by_id numeral hash_of_roster roster roster_entry
apart = refl

one_hash : (a b : List ℕ) → is_other a b ≡ true → sha256 a ≡ sha256 b → a ≡ b
one_hash a b other e = by_test (bytes_eq a b) (bytes_eq (sha256 a) (sha256 b)) (λ same. (bytes_eq-Decides a b).0 same) ((bytes_eq-Decides (sha256 a) (sha256 b)).1 e) other where
  by_test : (same hashes : Bool) → (same ≡ true → a ≡ b) → hashes ≡ true → (same || not hashes) ≡ true → a ≡ b
  by_test true hashes is e other = is refl
  by_test false true is e other = absurd cc
  by_test false false is e other = absurd cc

ids_apart : (bytes_eq (id_of_update one) zeros ≡ false) × ((bytes_eq (id_of_update two) zeros ≡ false) × (bytes_eq (id_of_update signs) zeros ≡ false))
ids_apart = (first_next.not_zeros, (second_next.not_zeros, last_next.not_zeros))

not_zeros : (t u : Update) → t ≡ u → bytes_eq (id_of_update t) zeros ≡ false → id_of_update u ≡ zeros → ⊥
not_zeros t u same apart_from e = iff_false (bytes_eq-Decides (id_of_update t) zeros) apart_from (ap id_of_update same ∙ e)

none_zeros : (u : Update) → IsIn u (writes_of world) → id_of_update u ≡ zeros → ⊥
none_zeros u (inl is) e = not_zeros one u is ids_apart.0 e
none_zeros u (inr (inl is)) e = not_zeros two u is ids_apart.1.0 e
none_zeros u (inr (inr (inl is))) e = not_zeros signs u is ids_apart.1.1 e
none_zeros u (inr (inr (inr never))) e = never

is_collision_free : IsCollisionFree world
is_collision_free = record {
  one = λ a b a_on b_on same. one_hash a b (each_to (is_other a) b (hashed_texts world) b_on (each_to (λ (x : List ℕ). list_all (is_other x) (hashed_texts world)) a (hashed_texts world) a_on apart)) same;
  named = none_zeros;
}

-- ---- the premises of the law, and what it says here

signed_by_one : is_signed_by journal text ids 1 ≡ true
unfolding one two text signs all_verify sha256 digest_bytes hash_after compress rounds schedule first_words id_of_update update_body update_fields number bytes_of list_of dep hello_leaf checkpoint checkpoint_key next_own next_entries precedes_named prev_of past named has_id history_hash history_text leaves_of by_id put_by_id numeral hash_of_roster roster roster_entry is_covered is_signed_by
signed_by_one = refl

all_signed : AllSigned world journal text ids
all_signed e (inl same) = subst (λ (x : RosterEntry). is_signed_by journal text ids x.node ≡ true) same signed_by_one
all_signed e (inr never) = absurd never

one_trimmed : trimmed journal ids ≡ one ∷ []
unfolding one two text signs all_verify sha256 digest_bytes hash_after compress rounds schedule first_words id_of_update update_body update_fields number bytes_of list_of dep hello_leaf checkpoint checkpoint_key next_own next_entries precedes_named prev_of past named has_id history_hash history_text leaves_of by_id put_by_id numeral hash_of_roster roster roster_entry is_covered insert_by order_by latest_in is_trimmed
one_trimmed = refl

none_names : NoneNamesBelow world
none_names c d n text ids s t c_on d_on signed s_on absent t_below e = trim world is_world is_authentic (one_text world is_collision_free) c d n text ids s t c_on d_on signed s_on absent t_below e

-- so nothing that the node signed is below for a reader of it
none_stands : (more : List Record) (s : Signed) → IsIn s.statement (own journal) → below_of here (journal ++ more) (trimmed journal ids) s ≡ None
none_stands more s on = never_below world is_world is_authentic (one_text world is_collision_free) one_node one_node (length journal) text ids more s (inl refl) (inl refl) all_signed on

-- all that the law asks for, and an update that was trimmed
pub meets : (W : World) × HasSignedCheckpoint W
meets = (
  world,
  record {
    world = is_world;
    authentic = is_authentic;
    free = is_collision_free;
    node = one_node;
    on = inl refl;
    text = text;
    ids = ids;
    signed = all_signed;
    below = one;
    is_trimmed = subst (λ (us : List Update). IsIn one us) (sym one_trimmed) (inl refl);
  },
)
