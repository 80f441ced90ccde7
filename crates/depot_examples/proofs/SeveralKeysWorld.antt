-- A world of a put of several keys, computed: one node gives a key a value and deletes another, and reads both; another
-- node takes the update and reads both. It meets the conditions of the law of worlds, and is fork-join-causal.
use Rattle.std.proofs.Common.{◌≡◌, ℕ, List, [], ◌∷◌, ◌++◌, length, false, Some, None, refl, sym, ap, subst, ◌∙◌, inl, inr, ◌⊎◌, arith, drop}
use Rattle.std.specs.Str.{bytes_eq}
use Rattle.std.proofs.lemmas.Slice.Eq.{bytes_eq-Decides}
use Rattle.std.proofs.lemmas.Bool.{iff_false}
use Rattle.sha2.specs.Sha256.{sha256, digest_bytes, hash_after, compress, rounds, schedule, first_words}
use Rattle.depot_base.specs.Zeros.{zeros}
use Rattle.depot_base.specs.Cursor.{numeral}
use Rattle.depot_base.specs.Format.{number, bytes_of, inner, list_of}
use Rattle.depot_base.specs.Parts.{write, marked}
use Rattle.depot_base.specs.Statement.{writer_of}
use Rattle.depot_base.specs.declared.update.Update.{Update}
use Rattle.depot_base.specs.declared.statement.Statement.TheVariants as statement
use Rattle.depot_base.specs.declared.statement.Signed.{Signed}
use Rattle.depot_base.specs.declared.record.Record.{Record}
use Rattle.depot_base.specs.declared.record.Record.TheVariants.{OwnPut, Foreign}
use Rattle.depot_base.specs.declared.write.Change.{Change}
use Rattle.depot_model.specs.lists.Lists.{IsIn}
use Rattle.depot_model.specs.texts.Texts.{update_fields, update_body, signed, roster, IsUpdate, IsSigned, id_of_update, text_of_update, hash_of_roster}
use Rattle.depot_model.specs.texts.Texts.{statement as statement_text}
use Rattle.depot_model.specs.texts.Records.{birth, own_put, tagged, record_text}
use Rattle.depot_model.specs.updates.Order.{past, IsCausal, Precedes, IsLatest, AreLatestIn}
use Rattle.depot_model.specs.updates.History.{leaves_of, put_by_id, by_id, history_text, history_hash}
use Rattle.depot_model.specs.texts.Roster.{key_of, is_signed}
use Rattle.depot_model.specs.journals.Journal.{own, has_id, named, is_convicted, is_vouched, first_values, seen_under}
use Rattle.depot_model.specs.checks.Own.{next_entries, next_own, IsFresh, leaf_count}
use Rattle.depot_model.specs.checks.Checks.{given_statement, sight, content_checks, opponent, forked, refused_as_convicted, statement_checks, first_failed_check, is_known, answer_to, added, growth}
use Rattle.depot_model.specs.checks.Room.{full_with, full_by, foreign_leaves}
use Rattle.depot_model.specs.journals.Lawful.{IsLawful}
use Rattle.depot_model.specs.updates.Changes.{AreChanges}
use Rattle.depot_model.specs.texts.Contents.{Sighting, Writes, held_value, not_held, gone}
use Rattle.depot_model.specs.worlds.World.{Shown, Read, Correct, World, signed_met, writes_of, IsRead, IsCorrect, IsWorld, hashed_texts, IsAuthentic, IsCollisionFree}
use Rattle.depot_model.specs.worlds.Causality.{IsForkJoinCausal}
use Rattle.depot_model.proofs.of_texts.BodyLaws.{text_of_statement-Update, IsStatement-from_update}
use Rattle.depot_model.proofs.of_texts.TextLaws.{update_body_lawful}
use Rattle.depot_model.proofs.of_updates.Orders.{precedes_irreflexive}
use Rattle.depot_laws.proofs.records.Causes.{lawful_is_causal}
use Rattle.depot_laws.proofs.of_worlds.ForkJoin.{fork_join_causal}
use Rattle.depot_laws.proofs.records.Growing.{grown_is_lawful}
use Rattle.depot_laws.proofs.own_updates.OwnTexts.{own_fits, own_put_is_lawful}
use Rattle.depot_laws.proofs.lists.Splits.{lawful_front}
use Rattle.depot_laws.proofs.of_worlds.TwoNodes.{all_verify, two_nodes, node, newborn, second_born}
use Rattle.depot_laws.proofs.of_worlds.TwoNodes.{first_journal as other_journal, first_lawful as other_lawful}

-- ---- the first node gives one key a value, and deletes another

abbrev k : List ℕ
k = 107 ∷ []

abbrev l : List ℕ
l = 108 ∷ []

abbrev value : List ℕ
value = 5 ∷ []

abbrev changes : List Change
changes = record { key = k; value = Some value } ∷ record { key = l; value = None } ∷ []

good_changes : AreChanges changes
good_changes = record { some = omega arith; few = omega arith; each = (((omega arith, omega arith), (omega arith, tt)), (((omega arith, omega arith), tt), tt)); rising = ((refl, tt), (tt, tt)) }

unfoldable u : Update
u = next_own 1 (newborn 1) changes

first_born : IsLawful (node 1) (newborn 1)
first_born = lawful_front (node 1) (newborn 1) (drop 1 other_journal) other_lawful

put_fits : IsUpdate u
unfolding u next_own next_entries history_hash leaves_of by_id
put_fits = own_fits (node 1) (newborn 1) u changes first_born refl good_changes refl (omega arith)

fresh_bytes : bytes_eq (id_of_update u) zeros ≡ false
unfolding u sha256 digest_bytes hash_after compress rounds schedule first_words id_of_update update_body update_fields write marked number bytes_of list_of next_own next_entries history_hash history_text leaves_of by_id put_by_id numeral
fresh_bytes = refl

fresh : IsFresh (newborn 1) (id_of_update u)
unfolding has_id
fresh = record { named = iff_false (bytes_eq-Decides (id_of_update u) zeros) fresh_bytes; new = refl }

room : full_by 1 (newborn 1) (OwnPut u (value ∷ []) ∷ []) ≡ None
unfolding u sha256 digest_bytes hash_after compress rounds schedule first_words id_of_update update_body update_fields write marked number bytes_of list_of next_own next_entries history_hash history_text leaves_of by_id put_by_id numeral full_with foreign_leaves record_text tagged birth own_put inner hash_of_roster roster
room = refl

abbrev first_journal : List Record
first_journal = newborn 1 ++ OwnPut u (value ∷ []) ∷ []

first_lawful : IsLawful (node 1) first_journal
unfolding u next_own next_entries history_hash leaves_of by_id leaf_count key_of
first_lawful = own_put_is_lawful (node 1) (newborn 1) u changes first_born refl good_changes refl fresh (omega arith) (omega arith) room

-- ---- the second node takes the update

abbrev sent : Signed
sent = record { statement = statement.Update u; body = text_of_update u; signature = [] }

sent_fits : IsSigned sent
unfolding signed number inner bytes_of
sent_fits =
    let short = update_body_lawful.short u put_fits in
    let same = text_of_statement-Update u in
    ((omega arith, short), (((IsStatement-from_update u put_fits, ap length same), sym same), ((omega arith, omega arith), (refl, refl))))

taken : growth (node 2) (newborn 2) (given_statement sent) ≡ Foreign sent ∷ []
unfolding u all_verify sha256 digest_bytes hash_after compress rounds schedule first_words id_of_update update_body update_fields write marked number bytes_of list_of next_own next_entries history_hash history_text leaves_of by_id put_by_id numeral growth answer_to is_known first_failed_check statement_checks key_of is_signed content_checks sight past named has_id forked refused_as_convicted is_convicted is_vouched opponent added
taken = refl

room_to_take : full_by 2 (newborn 2) (Foreign sent ∷ []) ≡ None
unfolding u sha256 digest_bytes hash_after compress rounds schedule first_words id_of_update statement_text update_body update_fields write marked number bytes_of list_of next_own next_entries history_hash history_text leaves_of by_id put_by_id numeral full_with foreign_leaves record_text tagged birth own_put inner hash_of_roster roster signed
room_to_take = refl

abbrev second_journal : List Record
second_journal = newborn 2 ++ Foreign sent ∷ []

second_lawful : IsLawful (node 2) second_journal
second_lawful = subst (λ (new : List Record). IsLawful (node 2) (newborn 2 ++ new)) taken
    (grown_is_lawful (node 2) (newborn 2) (given_statement sent) second_born refl sent_fits (ap (full_by 2 (newborn 2)) taken ∙ room_to_take))

-- ---- both read both keys

abbrev shown : Sighting → Shown
shown what = record { update = u; seen = what }

abbrev read_of : List ℕ → Sighting → Read
read_of key what = record { at = 2; key = key; answer = shown what ∷ [] }

u_causal : IsCausal [] (u ∷ [])
u_causal = lawful_is_causal (node 2) second_journal second_lawful

-- of each key that it writes it is the one latest write, also of the one that it deletes
latest : (key : List ℕ) → Writes key u → AreLatestIn key (u ∷ []) (u ∷ [])
latest key writes = record {
  all = λ t is. is.known;
  only = λ t on. elim on [
    | inl here ↦ subst (λ (x : Update). IsLatest key (λ w. IsIn w (u ∷ [])) (Precedes (u ∷ [])) x) here (record {
      known = inl refl;
      writes = writes;
      last = λ v v_on same before. elim v_on [
        | inl also ↦ precedes_irreflexive [] (u ∷ []) u u_causal (subst (λ (x : Update). Precedes (u ∷ []) u x) (sym also) before)
        | inr never ↦ never
      ];
    })
    | inr never ↦ absurd never
  ];
  rising = (tt, tt);
}

record IsSeen : Type 0 where
  pub writes_k : Writes k u
  pub writes_l : Writes l u
  -- the writer holds the value, and the reader doesn't; the deletion both see
  pub first_k : held_value value ≡ seen_under first_journal k u
  pub first_l : gone ≡ seen_under first_journal l u
  pub second_k : not_held ≡ seen_under second_journal k u
  pub second_l : gone ≡ seen_under second_journal l u

is_seen : IsSeen
unfolding u next_own seen_under first_values sha256 digest_bytes hash_after compress rounds schedule first_words
is_seen = record { writes_k = inl refl; writes_l = inr (inl refl); first_k = refl; first_l = refl; second_k = refl; second_l = refl }

one_read : (key : List ℕ) (what : Sighting) (s : Shown) → IsIn s (read_of key what).answer → shown what ≡ s
one_read key what s (inl same) = same
one_read key what s (inr never) = absurd never

read_at_first : (key : List ℕ) (what : Sighting) → Writes key u → what ≡ seen_under first_journal key u → IsRead first_journal (read_of key what)
read_at_first key what writes seen = record { begun = omega arith; within = omega arith; latest = latest key writes; values = λ s on. subst (λ (x : Shown). x.seen ≡ seen_under first_journal key x.update) (one_read key what s on) seen }

read_at_second : (key : List ℕ) (what : Sighting) → Writes key u → what ≡ seen_under second_journal key u → IsRead second_journal (read_of key what)
read_at_second key what writes seen = record { begun = omega arith; within = omega arith; latest = latest key writes; values = λ s on. subst (λ (x : Shown). x.seen ≡ seen_under second_journal key x.update) (one_read key what s on) seen }

abbrev first_node : Correct
first_node = record { node = 1; journal = first_journal; reads = read_of k (held_value value) ∷ read_of l gone ∷ [] }

abbrev second_node : Correct
second_node = record { node = 2; journal = second_journal; reads = read_of k not_held ∷ read_of l gone ∷ [] }

first_reads : (r : Read) → IsIn r first_node.reads → IsRead first_journal r
first_reads r (inl same) = subst (λ (x : Read). IsRead first_journal x) same (read_at_first k (held_value value) is_seen.writes_k is_seen.first_k)
first_reads r (inr (inl same)) = subst (λ (x : Read). IsRead first_journal x) same (read_at_first l gone is_seen.writes_l is_seen.first_l)
first_reads r (inr (inr never)) = absurd never

second_reads : (r : Read) → IsIn r second_node.reads → IsRead second_journal r
second_reads r (inl same) = subst (λ (x : Read). IsRead second_journal x) same (read_at_second k not_held is_seen.writes_k is_seen.second_k)
second_reads r (inr (inl same)) = subst (λ (x : Read). IsRead second_journal x) same (read_at_second l gone is_seen.writes_l is_seen.second_l)
second_reads r (inr (inr never)) = absurd never

-- ---- the premises hold of it

abbrev world : World
world = record { verifies = all_verify; listed = two_nodes; nodes = first_node ∷ second_node ∷ []; judged = [] }

nodes_are : (c : Correct) → IsIn c world.nodes → IsCorrect world c
unfolding key_of
nodes_are c (inl first) = subst (λ (x : Correct). IsCorrect world x) first (record { member = refl; lawful = first_lawful; begun = refl; reads = first_reads; in_order = ((omega arith, tt), (tt, tt)) })
nodes_are c (inr (inl second)) = subst (λ (x : Correct). IsCorrect world x) second (record { member = refl; lawful = second_lawful; begun = refl; reads = second_reads; in_order = ((omega arith, tt), (tt, tt)) })
nodes_are c (inr (inr never)) = absurd never

is_world : IsWorld world
is_world = record {
  distinct = (((λ e. omega arith), tt), (tt, tt));
  correct = nodes_are;
  formed = λ p never. absurd never;
  judged = λ p never. absurd never;
}

u_writer : u.writer ≡ 1
unfolding u next_own
u_writer = refl

met_is_own : (s : Signed) (c : Correct) → IsIn s (signed_met world) → IsIn c world.nodes → writer_of s.statement ≡ c.node → IsIn s.statement (own c.journal)
met_is_own s c (inr never) c_on writer = absurd never
met_is_own s c (inl here) (inl first) writer = subst (λ (x : Correct). IsIn s.statement (own x.journal)) first (inl (ap (λ (x : Signed). x.statement) here))
met_is_own s c (inl here) (inr (inl second)) writer =
    let two : c.node ≡ 2 = ap (λ (x : Correct). x.node) (sym second) in
    let one : writer_of s.statement ≡ 1 = ap (λ (x : Signed). writer_of x.statement) (sym here) ∙ u_writer in
    absurd (omega (arith, two, one, writer))
met_is_own s c (inl here) (inr (inr never)) writer = absurd never

is_authentic : IsAuthentic world
is_authentic = record { made = met_is_own }

two_hashes : bytes_eq (sha256 (text_of_update u)) (sha256 value) ≡ false
unfolding u sha256 digest_bytes hash_after compress rounds schedule first_words id_of_update update_body update_fields write marked number bytes_of list_of next_own next_entries history_hash history_text leaves_of by_id put_by_id numeral
two_hashes = refl

differ : sha256 (text_of_update u) ≡ sha256 value → ⊥
differ = iff_false (bytes_eq-Decides (sha256 (text_of_update u)) (sha256 value)) two_hashes

-- the body or the value: a deletion brings no text
abbrev IsHashed : List ℕ → Type 0
IsHashed b = (text_of_update u ≡ b) ⊎ (value ≡ b)

one_text : (a b : List ℕ) → IsHashed a → IsHashed b → sha256 a ≡ sha256 b → a ≡ b
one_text a b (inl a_body) (inl b_body) e = sym a_body ∙ b_body
one_text a b (inl a_body) (inr b_value) e = absurd (differ (ap sha256 a_body ∙ e ∙ ap sha256 (sym b_value)))
one_text a b (inr a_value) (inl b_body) e = absurd (differ (ap sha256 b_body ∙ sym e ∙ ap sha256 (sym a_value)))
one_text a b (inr a_value) (inr b_value) e = sym a_value ∙ b_value

hashed_cases : (b : List ℕ) → IsIn b (hashed_texts world) → IsHashed b
hashed_cases b (inl one) = inl one
hashed_cases b (inr (inl two)) = inl two
hashed_cases b (inr (inr (inl three))) = inr three
hashed_cases b (inr (inr (inr never))) = absurd never

not_zeros : (w : Update) → u ≡ w → id_of_update w ≡ zeros → ⊥
not_zeros w same e = iff_false (bytes_eq-Decides (id_of_update u) zeros) fresh_bytes (ap id_of_update same ∙ e)

none_zeros : (w : Update) → IsIn w (writes_of world) → id_of_update w ≡ zeros → ⊥
none_zeros w (inl one) = not_zeros w one
none_zeros w (inr (inl two)) = not_zeros w two
none_zeros w (inr (inr never)) = absurd never

is_collision_free : IsCollisionFree world
is_collision_free = record { one = λ a b a_on b_on e. one_text a b (hashed_cases a a_on) (hashed_cases b b_on) e; named = none_zeros }

is_fork_join_causal : IsForkJoinCausal world
is_fork_join_causal = fork_join_causal world is_world is_authentic is_collision_free
