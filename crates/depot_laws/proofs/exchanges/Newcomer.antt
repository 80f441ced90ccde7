-- A newcomer rejoins, computed: the first node sends it an update and the value after it. So the conditions of the law
-- of histories that rejoin can be met.
use Rattle.std.proofs.Common.{true, ◌≡◌, ℕ, List, [], ◌∷◌, ◌++◌, length, false, None, Some, refl, sym, ap, subst, ◌∙◌, inl, inr, arith, length-append}
use Rattle.std.proofs.lemmas.List.{append-nil}
use Rattle.sha2.specs.Sha256.{sha256, first_words, schedule, rounds, compress, hash_after, digest_bytes}
use Rattle.depot_base.specs.Closed.{rest_of}
use Rattle.depot_base.specs.Cursor.{numeral}
use Rattle.depot_base.specs.Format.{number, bytes_of, inner, list_of}
use Rattle.depot_base.specs.Parts.{dep, roster_entry}
use Rattle.depot_base.specs.Zeros.{zeros}
use Rattle.depot_base.specs.declared.update.Update.{Update}
use Rattle.depot_base.specs.declared.voucher.Voucher.{Voucher}
use Rattle.depot_base.specs.declared.statement.Statement.{Statement}
use Rattle.depot_base.specs.declared.statement.Statement.TheVariants as statement_of
use Rattle.depot_base.specs.declared.proof.Kind.TheVariants.{SameNumber}
use Rattle.depot_base.specs.declared.record.Record.TheVariants.{Foreign}
use Rattle.depot_model.specs.exchange.Bundle.{signed_with, is_covered, candidates, values_behind, candidate_parcels, parcels, fitting, sent_for, sent_foreign, unvouched, bundle_frames, bundle_of, bundle_answer, Signs, bytes_of_bundle, with_vouchers}
use Rattle.depot_model.specs.updates.Judgement.{points}
use Rattle.depot_model.specs.checks.Checks.{sight, content_checks, opponent, forked, refused_as_convicted, statement_checks, proof_checks, first_failed_check, is_known, answer_to, due, named_opponent, added, growth}
use Rattle.depot_model.specs.updates.Contradictions.{is_of_kind, contradicts, kind_of}
use Rattle.depot_model.specs.updates.Conviction.{proof_of}
use Rattle.depot_model.specs.exchange.Feeding.{Feeding, given_by, take_frame, fed_frame, fed_byte, fed, ending_of, report_of, feeding_from, Closing, out_of_room}
use Rattle.depot_model.specs.texts.Frames.{frame_at}
use Rattle.depot_model.specs.exchange.Hello.{hello_leaf, hello, convicted_nodes, lacking, hello_of}
use Rattle.depot_model.specs.updates.History.{leaves_of, put_by_id, by_id, history_text, history_hash}
use Rattle.depot_model.specs.texts.Contents.{NamedValue, values_named}
use Rattle.depot_model.proofs.examples.Cast.{took, signed_update, two, two_id, two_more, nine, nine_other}
use Rattle.depot_model.specs.journals.Journal.{held_as, accepted, own, first_values, has_id, named, prev_of, is_convicted, is_vouched, holds_hash, holds, is_wanted}
use Rattle.depot_model.specs.checks.Limits.{spent_by, tips_of, collides_by, limit_of_own, limit_of_put}
use Rattle.depot_model.specs.lists.Lists.{IsIn}
use Rattle.depot_model.specs.updates.Order.{past, parents}
use Rattle.depot_model.specs.checks.Own.{precedes_named, next_entries, next_own, leaf_count}
use Rattle.depot_model.specs.texts.Plain.{plain_root, plain_signature, plain_verifies}
use Rattle.depot_model.specs.texts.Records.{birth, own_put, tagged, record_text}
use Rattle.depot_model.specs.checks.Room.{foreign_leaves, full_with}
use Rattle.depot_model.specs.texts.Roster.{key_of, is_signed}
use Rattle.depot_model.specs.texts.Texts.{update_fields, voucher_fields, update_body, voucher_body, statement, signed, proof, roster, id_of_update, id_of_statement, hash_of_roster}
use Rattle.depot_model.specs.checks.Taking.{given_as}
use Rattle.depot_model.specs.checks.Vouching.{put_rising, rising, groups_behind, groups_of, new_vouchers, limit_of_new, limit_of_vouchers}
use Rattle.depot_model.specs.worlds.World.{Correct, World, writes_of, IsCorrect, IsWorld, hashed_texts, IsAuthentic, IsCollisionFree, setting_of}
use Rattle.depot_laws.specs.Streams.{fed_pieces}
use Rattle.depot_laws.specs.Rejoin.{bundle_at, hello_at, updates_of, HasOrGets, ComeInOrder, IsWellSigned, Meet, HasRejoined}
use Rattle.depot_laws.proofs.exchanges.RejoinLaw.{rejoins}
use Rattle.depot_laws.proofs.of_worlds.TwoNodes.{all_verify, two_nodes, newborn, u, first_journal, first_lawful, second_born, first_node, not_zeros, IsHashed, one_text, value}

-- a node that has its birth record alone
abbrev pub newcomer : Correct
newcomer = record { node = 2; journal = newborn 2; reads = [] }

abbrev pub two_meet : World
two_meet = record { verifies = all_verify; listed = two_nodes; nodes = first_node ∷ newcomer ∷ []; judged = [] }

-- a scheme of empty signatures, each of which verifies
abbrev pub sign : Signs
sign seq body = []

-- ---- the world

nodes_are : (c : Correct) → IsIn c two_meet.nodes → IsCorrect two_meet c
unfolding key_of
nodes_are c (inl first) = subst (λ (x : Correct). IsCorrect two_meet x) first (record { member = refl; lawful = first_lawful; begun = refl; reads = λ r never. absurd never; in_order = tt })
nodes_are c (inr (inl second)) = subst (λ (x : Correct). IsCorrect two_meet x) second (record { member = refl; lawful = second_born; begun = refl; reads = λ r never. absurd never; in_order = tt })
nodes_are c (inr (inr never)) = absurd never

pub is_world : IsWorld two_meet
is_world = record {
  distinct = (((λ e. omega arith), tt), (tt, tt));
  correct = nodes_are;
  formed = λ p never. absurd never;
  judged = λ p never. absurd never;
}

pub is_authentic : IsAuthentic two_meet
is_authentic = record { made = λ s c never. absurd never }

hashed_cases : (b : List ℕ) → IsIn b (hashed_texts two_meet) → IsHashed b
hashed_cases b (inl one) = inl one
hashed_cases b (inr (inl two)) = inr two
hashed_cases b (inr (inr never)) = absurd never

none_zeros : (w : Update) → IsIn w (writes_of two_meet) → id_of_update w ≡ zeros → ⊥
none_zeros w (inl one) = not_zeros w one
none_zeros w (inr never) = absurd never

pub is_collision_free : IsCollisionFree two_meet
is_collision_free = record { one = λ a b a_on b_on e. one_text a b (hashed_cases a a_on) (hashed_cases b b_on) e; named = none_zeros }

-- ---- the bundle

-- it makes no voucher, leaves nothing out, and is taken without meeting a limit
record IsSentWhole : Type 0 where
  pub vouchers : (bundle_at two_meet newcomer first_node sign (newborn 2) first_journal).vouchers ≡ []
  pub more : (bundle_at two_meet newcomer first_node sign (newborn 2) first_journal).more ≡ false
  pub sent : length (bundle_at two_meet newcomer first_node sign (newborn 2) first_journal).frames ≡ 3
  pub closed : (fed_pieces (setting_of two_meet newcomer) (feeding_from newcomer.journal) (bytes_of_bundle (bundle_at two_meet newcomer first_node sign (newborn 2) first_journal) ∷ [])).closed ≡ None

is_sent_whole : IsSentWhole
unfolding rest_of given_as numeral number bytes_of inner list_of dep roster_entry signed_with is_covered candidates values_behind candidate_parcels parcels fitting sent_for sent_foreign unvouched bundle_frames bundle_of bundle_answer sight content_checks opponent forked refused_as_convicted statement_checks proof_checks points first_failed_check is_known answer_to due named_opponent added growth is_of_kind contradicts kind_of proof_of given_by take_frame fed_frame fed_byte fed ending_of report_of frame_at hello_leaf hello convicted_nodes lacking hello_of leaves_of put_by_id by_id history_text history_hash first_values has_id named prev_of is_convicted is_vouched holds_hash holds is_wanted spent_by tips_of collides_by limit_of_own limit_of_put past precedes_named next_entries next_own leaf_count plain_root plain_signature plain_verifies birth own_put tagged record_text foreign_leaves full_with key_of is_signed update_fields voucher_fields update_body voucher_body statement signed proof roster id_of_update id_of_statement hash_of_roster put_rising rising groups_behind groups_of new_vouchers limit_of_new limit_of_vouchers sha256 first_words schedule rounds compress hash_after digest_bytes u all_verify
is_sent_whole = record { vouchers = refl; more = refl; sent = refl; closed = refl }

well_signed : (s : Statement) → IsIn s (own first_journal) → IsWellSigned two_meet (signed_with sign s)
unfolding signed_with is_signed key_of all_verify u next_own
well_signed s (inl same) = subst (λ (x : Statement). IsWellSigned two_meet (signed_with sign x)) same (record { short = omega arith; verified = refl })
well_signed s (inr never) = absurd never

meet : Meet two_meet newcomer first_node sign (newborn 2) first_journal
meet = record {
  reader = inr (inl refl);
  sender = inl refl;
  distinct = λ e. omega arith;
  later = [];
  hello_was = refl;
  since = [];
  bundle_was = ap (λ (vs : List Voucher). with_vouchers first_journal vs ++ []) (sym is_sent_whole.vouchers);
  signs = λ s on framed. well_signed s (subst (λ (vs : List Voucher). IsIn s (own (with_vouchers first_journal vs))) is_sent_whole.vouchers on);
}

pub not_some : (o : Closing) → None ≡ Some o → ⊥
not_some o e = cc

-- so the newcomer has rejoined
has_rejoined : HasRejoined two_meet newcomer first_node sign (newborn 2) first_journal (fed_pieces (setting_of two_meet newcomer) (feeding_from newcomer.journal) (bytes_of_bundle (bundle_at two_meet newcomer first_node sign (newborn 2) first_journal) ∷ []))
has_rejoined = rejoins two_meet is_world is_authentic is_collision_free newcomer first_node sign (newborn 2) first_journal meet is_sent_whole.more (bytes_of_bundle (bundle_at two_meet newcomer first_node sign (newborn 2) first_journal) ∷ []) (append-nil _) (λ what e. not_some (out_of_room what) (sym is_sent_whole.closed ∙ e))

-- and has the update
has_update : IsIn u (accepted (fed_pieces (setting_of two_meet newcomer) (feeding_from newcomer.journal) (bytes_of_bundle (bundle_at two_meet newcomer first_node sign (newborn 2) first_journal) ∷ [])).journal)
has_update = (has_rejoined.union u).1 (inr (inl refl))

-- it names the value so
abbrev name : NamedValue
name = record { hash = sha256 value; size = 1 }

is_sent : updates_of (sent_for sign first_journal (hello_at two_meet newcomer (newborn 2))) ≡ u ∷ []
unfolding rest_of given_as numeral number bytes_of inner list_of dep roster_entry signed_with is_covered candidates values_behind candidate_parcels parcels fitting sent_for sent_foreign unvouched bundle_frames bundle_of bundle_answer sight content_checks opponent forked refused_as_convicted statement_checks proof_checks points first_failed_check is_known answer_to due named_opponent added growth is_of_kind contradicts kind_of proof_of given_by take_frame fed_frame fed_byte fed ending_of report_of frame_at hello_leaf hello convicted_nodes lacking hello_of leaves_of put_by_id by_id history_text history_hash first_values has_id named prev_of is_convicted is_vouched holds_hash holds is_wanted spent_by tips_of collides_by limit_of_own limit_of_put past precedes_named next_entries next_own leaf_count plain_root plain_signature plain_verifies birth own_put tagged record_text foreign_leaves full_with key_of is_signed update_fields voucher_fields update_body voucher_body statement signed proof roster id_of_update id_of_statement hash_of_roster put_rising rising groups_behind groups_of new_vouchers limit_of_new limit_of_vouchers sha256 first_words schedule rounds compress hash_after digest_bytes u all_verify
is_sent = refl

sent : IsIn u (updates_of (sent_for sign first_journal (hello_at two_meet newcomer (newborn 2))))
sent = subst (λ (us : List Update). IsIn u us) (sym is_sent) (inl refl)

names_it : IsIn name (values_named u)
unfolding u next_own
names_it = inl refl

was_held : held_as first_journal name ≡ Some value
unfolding first_values sha256 first_words schedule rounds compress hash_after digest_bytes
was_held = refl

-- so it holds the value that the first node held
holds_value : held_as (fed_pieces (setting_of two_meet newcomer) (feeding_from newcomer.journal) (bytes_of_bundle (bundle_at two_meet newcomer first_node sign (newborn 2) first_journal) ∷ [])).journal name ≡ Some value
holds_value = has_rejoined.values u name value sent names_it was_held

-- ---- feeds that leave something out

-- the update came, and its value didn't
abbrev without_value : Feeding
without_value = feeding_from (newborn 2 ++ Foreign (signed_with sign (statement_of.Update u)) ∷ [])

not_without_value : HasRejoined two_meet newcomer first_node sign (newborn 2) first_journal without_value → ⊥
unfolding first_values
not_without_value r = no_value (r.values u name value sent names_it was_held) where
  no_value : None ≡ Some value → ⊥
  no_value e = cc

-- both branches of a writer came, and nobody is convicted
abbrev both_branches : Feeding
both_branches = feeding_from (newborn 2 ++ took nine ∷ took nine_other ∷ [])

not_exposed : HasRejoined two_meet newcomer first_node sign (newborn 2) first_journal both_branches → ⊥
unfolding sha256 first_words schedule rounds compress hash_after digest_bytes numeral number bytes_of list_of statement update_fields voucher_fields contradicts is_of_kind is_convicted
not_exposed r = let wrong : false ≡ true = r.exposed (signed_update nine) (signed_update nine_other) (inl refl) (inr (inl refl)) SameNumber refl in cc

-- ---- what is sent never waits for something that comes after it

-- of two updates of which the second names the first
not_child_first : ComeInOrder newcomer (two_more ∷ two ∷ []) → ⊥
not_child_first o = nothing_in_front (o [] two_more (two ∷ []) refl two_id (inl refl)) where
  nothing_in_front : HasOrGets newcomer [] two_id → ⊥
  nothing_in_front h = elim h.on [ inl never ↦ never | inr never ↦ never ]

two_is : id_of_update two ≡ two_id
unfolding sha256 first_words schedule rounds compress hash_after digest_bytes numeral number bytes_of list_of id_of_update update_body update_fields
two_is = refl

in_order : ComeInOrder newcomer (two ∷ two_more ∷ [])
in_order [] t behind parts h parent = absurd (subst (λ (w : Update). IsIn h (parents w)) (sym (split_first parts)) parent) where
  split_first : two ∷ two_more ∷ [] ≡ t ∷ behind → two ≡ t
  split_first e = cc
in_order (x ∷ []) t behind parts h parent = record { parent = two; id = two_is ∙ is_two (subst (λ (w : Update). IsIn h (parents w)) (sym (second parts).1) parent); on = inr (inl (second parts).0) } where
  second : two ∷ two_more ∷ [] ≡ x ∷ t ∷ behind → (x ≡ two) × (two_more ≡ t)
  second e = (cc, cc)

  is_two : IsIn h (two_id ∷ []) → two_id ≡ h
  is_two (inl same) = same
  is_two (inr never) = absurd never
in_order (x ∷ y ∷ front) t behind parts h parent = absurd (let lengths = ap length parts in omega (arith, lengths, length-append front (t ∷ behind)))
