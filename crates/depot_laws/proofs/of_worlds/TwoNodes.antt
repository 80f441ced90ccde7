-- A world, computed: one node puts an update, and another takes and reads it. It meets the conditions of the law of
-- worlds, and is fork-join causal. With a read that leaves the write out it isn't.
use Rattle.std.proofs.Common.{◌≡◌, ℕ, List, [], ◌∷◌, ◌++◌, length, true, false, None, refl, sym, ap, subst, ◌∙◌, inl, inr, ◌⊎◌, arith}
use Rattle.std.specs.Str.{bytes_eq}
use Rattle.std.proofs.lemmas.Slice.Eq.{bytes_eq-Decides}
use Rattle.std.proofs.lemmas.Bool.{iff_false}
use Rattle.sha2.specs.Sha256.{sha256, digest_bytes, hash_after, compress, rounds, schedule, first_words}
use Rattle.depot_base.specs.Zeros.{zeros}
use Rattle.depot_base.specs.Cursor.{numeral}
use Rattle.depot_base.specs.Format.{number, bytes_of, inner, list_of}
use Rattle.depot_base.specs.Parts.{roster_entry}
use Rattle.depot_base.specs.Statement.{writer_of}
use Rattle.depot_base.specs.declared.update.Update.{Update}
use Rattle.depot_base.specs.declared.key.RosterEntry.{RosterEntry}
use Rattle.depot_base.specs.declared.statement.Statement.TheVariants as statement
use Rattle.depot_base.specs.declared.statement.Signed.{Signed}
use Rattle.depot_base.specs.declared.record.Record.{Record}
use Rattle.depot_base.specs.declared.record.Record.TheVariants.{Birth, OwnPut, Foreign}
use Rattle.depot_model.specs.lists.Lists.{IsIn}
use Rattle.depot_model.specs.texts.Texts.{update_fields, update_body, signed, roster, IsRoster, IsUpdate, IsSigned, id_of_update, text_of_update, hash_of_roster}
use Rattle.depot_model.specs.texts.Texts.{statement as statement_text}
use Rattle.depot_model.specs.texts.Records.{birth, own_put, tagged, record_text}
use Rattle.depot_model.specs.updates.Order.{IsPath, past, IsCausal, Precedes, IsLatest, AreLatestIn}
use Rattle.depot_model.specs.updates.History.{leaves_of, put_by_id, by_id, history_text, history_hash}
use Rattle.depot_model.specs.texts.Roster.{Verifies, key_of, is_signed}
use Rattle.depot_model.specs.journals.Journal.{own, has_id, named, is_convicted, is_vouched, first_values, seen_under}
use Rattle.depot_model.specs.checks.Own.{next_entries, next_own, IsFresh, leaf_count}
use Rattle.depot_model.specs.checks.Checks.{Setting, given_statement, sight, content_checks, opponent, forked, refused_as_convicted, statement_checks, first_failed_check, is_known, answer_to, added, growth}
use Rattle.depot_model.specs.checks.Room.{full_with, full_by, foreign_leaves}
use Rattle.depot_model.specs.journals.Lawful.{IsLawful}
use Rattle.depot_model.proofs.of_texts.BodyLaws.{text_of_statement-Update, IsStatement-from_update}
use Rattle.depot_model.proofs.of_texts.TextLaws.{update_body_lawful}
use Rattle.depot_model.proofs.of_updates.Orders.{precedes_irreflexive, leads_one}
use Rattle.depot_model.specs.worlds.World.{Shown, Read, Correct, World, signed_met, writes_of, IsRead, IsCorrect, IsWorld, hashed_texts, IsAuthentic, IsCollisionFree}
use Rattle.depot_model.specs.worlds.Causality.{Operation, write, read_at, IsOperation, Edge, ObservedBefore, IsForkJoinCausal}
use Rattle.depot_base.specs.Writes.{one_change}
use Rattle.depot_base.specs.declared.write.Change.{Change}
use Rattle.depot_model.specs.updates.Changes.{AreChanges}
use Rattle.depot_model.specs.texts.Contents.{Writes, not_held}
use Rattle.depot_laws.proofs.of_worlds.ForkJoin.{fork_join_causal}
use Rattle.depot_laws.proofs.records.Births.{born}
use Rattle.depot_laws.proofs.records.Causes.{lawful_is_causal}
use Rattle.depot_laws.proofs.records.Growing.{grown_is_lawful}
use Rattle.depot_laws.proofs.own_updates.OwnTexts.{own_fits, own_put_is_lawful}

-- ---- two nodes and a roster

unfoldable pub all_verify : Verifies
all_verify key seq body signature = true

abbrev pub entry : ℕ → RosterEntry
entry node = record { node = node; key = record { root = zeros; height = 2 } }

abbrev pub two_nodes : List RosterEntry
two_nodes = entry 1 ∷ entry 2 ∷ []

abbrev pub node : ℕ → Setting
node n = record { verifies = all_verify; me = n; listed = two_nodes }

roster_fits : IsRoster two_nodes
unfolding roster number list_of roster_entry bytes_of
roster_fits = (
  (omega arith, omega arith),
  (
    (omega arith, omega arith),
    (
      (omega arith, omega arith),
      ((
        (
          (((omega arith, omega arith), ((omega arith, omega arith), (refl, refl))), refl, (((omega arith, omega arith), ((omega arith, omega arith), (refl, refl))), refl, tt)),
          refl,
        ),
        refl,
      )
          ),
    ),
  ),
)

abbrev pub newborn : ℕ → List Record
newborn n = Birth n (hash_of_roster two_nodes) ∷ []

first_born : IsLawful (node 1) (newborn 1)
unfolding key_of
first_born = born (node 1) roster_fits refl

pub second_born : IsLawful (node 2) (newborn 2)
unfolding key_of
second_born = born (node 2) roster_fits refl

-- ---- the first node puts a value

abbrev pub k : List ℕ
k = 107 ∷ []

abbrev pub value : List ℕ
value = 5 ∷ []

abbrev changes : List Change
changes = one_change k value

good_changes : AreChanges changes
good_changes = record { some = omega arith; few = omega arith; each = (((omega arith, omega arith), (omega arith, tt)), tt); rising = (tt, tt) }

unfoldable pub u : Update
u = next_own 1 (newborn 1) changes

put_fits : IsUpdate u
unfolding u next_own next_entries history_hash leaves_of by_id
put_fits = own_fits (node 1) (newborn 1) u changes first_born refl good_changes refl (omega arith)

-- no hash is looked at but to see that it isn't 32 zero bytes
fresh_bytes : bytes_eq (id_of_update u) zeros ≡ false
unfolding u sha256 digest_bytes hash_after compress rounds schedule first_words id_of_update update_body update_fields number bytes_of list_of next_own next_entries history_hash history_text leaves_of by_id put_by_id numeral
fresh_bytes = refl

fresh : IsFresh (newborn 1) (id_of_update u)
unfolding has_id
fresh = record { named = iff_false (bytes_eq-Decides (id_of_update u) zeros) fresh_bytes; new = refl }

room : full_by 1 (newborn 1) (OwnPut u (value ∷ []) ∷ []) ≡ None
unfolding u sha256 digest_bytes hash_after compress rounds schedule first_words id_of_update update_body update_fields number bytes_of list_of next_own next_entries history_hash history_text leaves_of by_id put_by_id numeral full_with foreign_leaves record_text tagged birth own_put inner hash_of_roster roster
room = refl

abbrev pub first_journal : List Record
first_journal = newborn 1 ++ OwnPut u (value ∷ []) ∷ []

pub first_lawful : IsLawful (node 1) first_journal
unfolding u next_own next_entries history_hash leaves_of by_id leaf_count key_of
first_lawful = own_put_is_lawful (node 1) (newborn 1) u changes first_born refl good_changes refl fresh (omega arith) (omega arith) room

-- ---- the second node takes the update, and reads it

abbrev sent : Signed
sent = record { statement = statement.Update u; body = text_of_update u; signature = [] }

sent_fits : IsSigned sent
unfolding signed number inner bytes_of
sent_fits =
    let short = update_body_lawful.short u put_fits in
    let same = text_of_statement-Update u in
    ((omega arith, short), (((IsStatement-from_update u put_fits, ap length same), sym same), ((omega arith, omega arith), (refl, refl))))

taken : growth (node 2) (newborn 2) (given_statement sent) ≡ Foreign sent ∷ []
unfolding u all_verify sha256 digest_bytes hash_after compress rounds schedule first_words id_of_update update_body update_fields number bytes_of list_of next_own next_entries history_hash history_text leaves_of by_id put_by_id numeral growth answer_to is_known first_failed_check statement_checks key_of is_signed content_checks sight past named has_id forked refused_as_convicted is_convicted is_vouched opponent added
taken = refl

room_to_take : full_by 2 (newborn 2) (Foreign sent ∷ []) ≡ None
unfolding u sha256 digest_bytes hash_after compress rounds schedule first_words id_of_update statement_text update_body update_fields number bytes_of list_of next_own next_entries history_hash history_text leaves_of by_id put_by_id numeral full_with foreign_leaves record_text tagged birth own_put inner hash_of_roster roster signed
room_to_take = refl

abbrev second_journal : List Record
second_journal = newborn 2 ++ Foreign sent ∷ []

second_lawful : IsLawful (node 2) second_journal
second_lawful = subst (λ (new : List Record). IsLawful (node 2) (newborn 2 ++ new)) taken
    (grown_is_lawful (node 2) (newborn 2) (given_statement sent) second_born refl sent_fits (ap (full_by 2 (newborn 2)) taken ∙ room_to_take))

-- a read of the key by the second node: before it took the update, and after
abbrev before_it : Read
before_it = record { at = 1; key = k; answer = [] }

abbrev after_it : List Shown → Read
after_it answer = record { at = 2; key = k; answer = answer }

abbrev shown : Shown
shown = record { update = u; seen = not_held }

-- the second node holds no value, since nobody handed it on
abbrev pub first_node : Correct
first_node = record { node = 1; journal = first_journal; reads = [] }

abbrev second_node : List Read → Correct
second_node reads = record { node = 2; journal = second_journal; reads = reads }

abbrev world : List Read → World
world reads = record { verifies = all_verify; listed = two_nodes; nodes = first_node ∷ second_node reads ∷ []; judged = [] }

u_causal : IsCausal [] (u ∷ [])
u_causal = lawful_is_causal (node 2) second_journal second_lawful

writes_key : Writes k u
unfolding u next_own
writes_key = inl refl

latest : AreLatestIn k (u ∷ []) (u ∷ [])
latest = record {
  all = λ t l. l.known;
  only = λ t on. elim on [
    | inl here ↦ subst (λ (x : Update). IsLatest k (λ w. IsIn w (u ∷ [])) (Precedes (u ∷ [])) x) here (record {
      known = inl refl;
      writes = writes_key;
      last = λ v v_on same before. elim v_on [
        | inl also ↦ precedes_irreflexive [] (u ∷ []) u u_causal (subst (λ (x : Update). Precedes (u ∷ []) u x) (sym also) before)
        | inr never ↦ never
      ];
    })
    | inr never ↦ absurd never
  ];
  rising = (tt, tt);
}

no_value : not_held ≡ seen_under second_journal k u
unfolding seen_under first_values u next_own
no_value = refl

abbrev both_reads : List Read
both_reads = before_it ∷ after_it (shown ∷ []) ∷ []

reads_are : (r : Read) → IsIn r both_reads → IsRead second_journal r
reads_are r (inl first) = subst (λ (x : Read). IsRead second_journal x) first (record {
  begun = omega arith;
  within = omega arith;
  latest = record { all = λ t l. l.known; only = λ t never. absurd never; rising = tt };
  values = λ s never. absurd never;
})
reads_are r (inr (inl second)) = subst (λ (x : Read). IsRead second_journal x) second (record {
  begun = omega arith;
  within = omega arith;
  latest = latest;
  values = λ s on. elim on [ inl here ↦ subst (λ (x : Shown). x.seen ≡ seen_under second_journal k x.update) here no_value | inr never ↦ absurd never ];
})
reads_are r (inr (inr never)) = absurd never

nodes_are : (c : Correct) → IsIn c (world both_reads).nodes → IsCorrect (world both_reads) c
unfolding key_of
nodes_are c (inl first) = subst (λ (x : Correct). IsCorrect (world both_reads) x) first (record { member = refl; lawful = first_lawful; begun = refl; reads = λ r never. absurd never; in_order = tt })
nodes_are c (inr (inl second)) = subst (λ (x : Correct). IsCorrect (world both_reads) x) second (record { member = refl; lawful = second_lawful; begun = refl; reads = reads_are; in_order = ((omega arith, tt), (tt, tt)) })
nodes_are c (inr (inr never)) = absurd never

-- ---- the premises hold of it

is_world : IsWorld (world both_reads)
is_world = record {
  distinct = (((λ e. omega arith), tt), (tt, tt));
  correct = nodes_are;
  formed = λ p never. absurd never;
  judged = λ p never. absurd never;
}

pub u_writer : u.writer ≡ 1
unfolding u next_own
u_writer = refl

met_is_own : (s : Signed) (c : Correct) → IsIn s (signed_met (world both_reads)) → IsIn c (world both_reads).nodes → writer_of s.statement ≡ c.node → IsIn s.statement (own c.journal)
met_is_own s c (inr never) c_on writer = absurd never
met_is_own s c (inl here) (inl first) writer = subst (λ (x : Correct). IsIn s.statement (own x.journal)) first (inl (ap (λ (x : Signed). x.statement) here))
met_is_own s c (inl here) (inr (inl second)) writer =
    let two : c.node ≡ 2 = ap (λ (x : Correct). x.node) (sym second) in
    let one : writer_of s.statement ≡ 1 = ap (λ (x : Signed). writer_of x.statement) (sym here) ∙ u_writer in
    absurd (omega (arith, two, one, writer))
met_is_own s c (inl here) (inr (inr never)) writer = absurd never

is_authentic : IsAuthentic (world both_reads)
is_authentic = record { made = met_is_own }

-- the body and the value have two hashes
two_hashes : bytes_eq (sha256 (text_of_update u)) (sha256 value) ≡ false
unfolding u sha256 digest_bytes hash_after compress rounds schedule first_words id_of_update update_body update_fields number bytes_of list_of next_own next_entries history_hash history_text leaves_of by_id put_by_id numeral
two_hashes = refl

differ : sha256 (text_of_update u) ≡ sha256 value → ⊥
differ = iff_false (bytes_eq-Decides (sha256 (text_of_update u)) (sha256 value)) two_hashes

-- the body or the value
abbrev pub IsHashed : List ℕ → Type 0
IsHashed b = (text_of_update u ≡ b) ⊎ (value ≡ b)

-- no two of them have one hash
pub one_text : (a b : List ℕ) → IsHashed a → IsHashed b → sha256 a ≡ sha256 b → a ≡ b
one_text a b (inl a_body) (inl b_body) e = sym a_body ∙ b_body
one_text a b (inl a_body) (inr b_value) e = absurd (differ (ap sha256 a_body ∙ e ∙ ap sha256 (sym b_value)))
one_text a b (inr a_value) (inl b_body) e = absurd (differ (ap sha256 b_body ∙ sym e ∙ ap sha256 (sym a_value)))
one_text a b (inr a_value) (inr b_value) e = sym a_value ∙ b_value

hashed_cases : (b : List ℕ) → IsIn b (hashed_texts (world both_reads)) → IsHashed b
hashed_cases b (inl one) = inl one
hashed_cases b (inr (inl two)) = inl two
hashed_cases b (inr (inr (inl three))) = inr three
hashed_cases b (inr (inr (inr never))) = absurd never

pub not_zeros : (w : Update) → u ≡ w → id_of_update w ≡ zeros → ⊥
not_zeros w same e = iff_false (bytes_eq-Decides (id_of_update u) zeros) fresh_bytes (ap id_of_update same ∙ e)

none_zeros : (w : Update) → IsIn w (writes_of (world both_reads)) → id_of_update w ≡ zeros → ⊥
none_zeros w (inl one) = not_zeros w one
none_zeros w (inr (inl two)) = not_zeros w two
none_zeros w (inr (inr never)) = absurd never

is_collision_free : IsCollisionFree (world both_reads)
is_collision_free = record { one = λ a b a_on b_on e. one_text a b (hashed_cases a a_on) (hashed_cases b b_on) e; named = none_zeros }

-- so it is fork-join causal
is_fork_join_causal : IsForkJoinCausal (world both_reads)
is_fork_join_causal = fork_join_causal (world both_reads) is_world is_authentic is_collision_free

-- ---- a world that is refused

-- the update of this world is observed before a read after it
is_seen : (answer : List Shown) → ObservedBefore (world (after_it answer ∷ [])) (write u) (read_at (second_node (after_it answer ∷ [])) 0 (after_it answer))
is_seen answer = leads_one (Edge (world (after_it answer ∷ []))) _ _ (record { above = inl refl; below = (inr (inl refl), refl); step = inl refl })

-- what is observed before something is an operation
is_operation : (W : World) (a b : Operation) → ObservedBefore W a b → IsOperation W a
is_operation W a b o = first a o.stops o.path where
  first : (x : Operation) (stops : List Operation) → IsPath (Edge W) x stops b → IsOperation W x
  first x [] path = path.above
  first x (y ∷ stops) path = path.0.above

-- a read that leaves out a write which it has seen
left_out : IsForkJoinCausal (world (after_it [] ∷ [])) → ⊥
left_out f =
    let W = world (after_it [] ∷ []) in
    let exact = f.reads (second_node (after_it [] ∷ [])) 0 (after_it []) (inr (inl refl)) refl in
    exact.latest.all u (record {
      known = is_seen [];
      writes = writes_key;
      last = λ v v_seen same before. elim (is_operation W (write v) (read_at (second_node (after_it [] ∷ [])) 0 (after_it [])) v_seen) [
        | inl one ↦ f.strict.never (write u) (subst (λ (x : Update). ObservedBefore W (write u) (write x)) (sym one) before)
        | inr more ↦ elim more [ inl two ↦ f.strict.never (write u) (subst (λ (x : Update). ObservedBefore W (write u) (write x)) (sym two) before) | inr never ↦ never ]
      ];
    })
