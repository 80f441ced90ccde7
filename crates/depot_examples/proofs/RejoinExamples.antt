-- Feeds that left one thing out, and nothing else: the reader lacks a value, or convicted nobody, so the histories didn't rejoin.
use Rattle.std.proofs.Common.{true, ◌≡◌, ℕ, List, [], ◌∷◌, ◌++◌, false, None, Some, refl, sym, ap, subst, ◌∙◌, inl, inr}
use Rattle.sha2.specs.Sha256.{sha256, first_words, schedule, rounds, compress, hash_after, digest_bytes}
use Rattle.depot_base.specs.Closed.{rest_of}
use Rattle.depot_base.specs.Cursor.{numeral}
use Rattle.depot_base.specs.Format.{number, bytes_of, inner, list_of}
use Rattle.depot_base.specs.Parts.{dep, roster_entry}
use Rattle.depot_base.specs.declared.update.Update.{Update}
use Rattle.depot_base.specs.declared.statement.Statement.TheVariants as statement_of
use Rattle.depot_base.specs.declared.proof.Kind.{Kind}
use Rattle.depot_base.specs.declared.proof.Kind.TheVariants.{SameNumber}
use Rattle.depot_base.specs.declared.statement.Signed.{Signed}
use Rattle.depot_base.specs.declared.record.Record.{Record}
use Rattle.depot_base.specs.Statement.{writer_of}
use Rattle.depot_base.specs.declared.record.Record.TheVariants.{Foreign, Conviction}
use Rattle.depot_model.specs.exchange.Bundle.{signed_with, is_covered, candidates, values_behind, candidate_parcels, parcels, fitting, sent_for, sent_foreign, unvouched, bundle_frames, bundle_of, bundle_answer}
use Rattle.depot_model.specs.updates.Judgement.{points}
use Rattle.depot_model.specs.checks.Checks.{sight, content_checks, opponent, forked, refused_as_convicted, statement_checks, proof_checks, first_failed_check, is_known, answer_to, due, named_opponent, added, growth}
use Rattle.depot_model.specs.updates.Contradictions.{is_of_kind, contradicts, kind_of}
use Rattle.depot_model.specs.updates.Conviction.{proof_of}
use Rattle.depot_model.specs.exchange.Feeding.{Feeding, given_by, take_frame, fed_frame, fed_byte, fed, ending_of, report_of, feeding_from}
use Rattle.depot_model.specs.texts.Frames.{frame_at}
use Rattle.depot_model.specs.exchange.Hello.{hello_leaf, hello, convicted_nodes, lacking, hello_of}
use Rattle.depot_model.specs.updates.History.{leaves_of, put_by_id, by_id, history_text, history_hash}
use Rattle.depot_model.specs.texts.Contents.{NamedValue, values_named}
use Rattle.depot_model.proofs.examples.Cast.{took, signed_update, nine, nine_other, against_nine}
use Rattle.depot_model.specs.journals.Journal.{held_as, accepted, first_values, has_id, named, prev_of, is_convicted, is_vouched, holds_hash, holds, is_wanted, foreign}
use Rattle.depot_model.specs.checks.Limits.{spent_by, tips_of, collides_by, limit_of_own, limit_of_put}
use Rattle.depot_model.specs.lists.Lists.{IsIn}
use Rattle.depot_model.specs.updates.Order.{past}
use Rattle.depot_model.specs.checks.Own.{precedes_named, next_entries, next_own, leaf_count}
use Rattle.depot_model.specs.texts.Plain.{plain_root, plain_signature, plain_verifies}
use Rattle.depot_model.specs.texts.Records.{birth, own_put, tagged, record_text}
use Rattle.depot_model.specs.checks.Room.{foreign_leaves, full_with}
use Rattle.depot_model.specs.texts.Roster.{key_of, is_signed}
use Rattle.depot_model.specs.texts.Texts.{update_fields, voucher_fields, update_body, voucher_body, statement, signed, proof, roster, id_of_update, id_of_statement, hash_of_roster}
use Rattle.depot_model.specs.checks.Taking.{given_as}
use Rattle.depot_model.specs.checks.Vouching.{put_rising, rising, groups_behind, groups_of, new_vouchers, limit_of_new, limit_of_vouchers}
use Rattle.depot_laws.specs.Rejoin.{hello_at, updates_of, updates_sent, HasRejoined}
use Rattle.depot_laws.proofs.own_updates.OwnAgree.{not_itself}
use Rattle.depot_laws.proofs.of_worlds.TwoNodes.{all_verify, newborn, u, first_journal, first_node, value}
use Rattle.depot_laws.proofs.exchanges.Newcomer.{newcomer, two_meet, sign}

-- the first node's update, as it sends it
abbrev sent : Signed
sent = signed_with sign (statement_of.Update u)

abbrev Rejoined : List Record → Feeding → Type 0
Rejoined J s = HasRejoined two_meet newcomer first_node sign (newborn 2) J s

-- a stream that ended
abbrev ended_with : List Record → Feeding
ended_with J = record (feeding_from J) { ended = Some false }

-- ---- the update came, and its value didn't

abbrev without_value : Feeding
without_value = ended_with (newborn 2 ++ Foreign sent ∷ [])

abbrev HasValues : List Record → Feeding → Type 0
HasValues J s = (w : Update) (n : NamedValue) (v : List ℕ) → IsIn w (updates_sent two_meet newcomer sign (newborn 2) J) → IsIn n (values_named w) → held_as J n ≡ Some v → held_as s.journal n ≡ Some v

accepts_it : accepted without_value.journal ≡ u ∷ []
unfolding signed_with
accepts_it = refl

-- no statement contradicts itself
one_statement : (f g : Signed) → IsIn f (foreign without_value.journal) → IsIn g (foreign without_value.journal) → (k : Kind) → contradicts k f.statement g.statement ≡ true → ⊥
one_statement f g f_on g_on k contrary = not_itself k f.statement g.statement (ap (λ (x : Signed). x.statement) (sym (the_one f f_on) ∙ the_one g g_on)) contrary where
  the_one : (x : Signed) → IsIn x (foreign without_value.journal) → sent ≡ x
  the_one x (inl same) = same
  the_one x (inr never) = absurd never

-- with the values the histories would have rejoined
all_but_values : HasValues first_journal without_value → Rejoined first_journal without_value
unfolding report_of ending_of
all_but_values values = record {
  union = λ w. ((λ on. inr (subst (λ (us : List Update). IsIn w us) accepts_it on)), (λ on. elim on [ inl never ↦ absurd never | inr is ↦ subst (λ (us : List Update). IsIn w us) (sym accepts_it) is ]));
  none_refused = refl;
  whole = refl;
  values = values;
  exposed = λ f g f_on g_on k contrary. absurd (one_statement f g f_on g_on k contrary);
}

-- it names the value so
abbrev name : NamedValue
name = record { hash = sha256 value; size = 1 }

is_sent : updates_of (sent_for sign first_journal (hello_at two_meet newcomer (newborn 2))) ≡ u ∷ []
unfolding rest_of given_as numeral number bytes_of inner list_of dep roster_entry signed_with is_covered candidates values_behind candidate_parcels parcels fitting sent_for sent_foreign unvouched bundle_frames bundle_of bundle_answer sight content_checks opponent forked refused_as_convicted statement_checks proof_checks points first_failed_check is_known answer_to due named_opponent added growth is_of_kind contradicts kind_of proof_of given_by take_frame fed_frame fed_byte fed ending_of report_of frame_at hello_leaf hello convicted_nodes lacking hello_of leaves_of put_by_id by_id history_text history_hash first_values has_id named prev_of is_convicted is_vouched holds_hash holds is_wanted spent_by tips_of collides_by limit_of_own limit_of_put past precedes_named next_entries next_own leaf_count plain_root plain_signature plain_verifies birth own_put tagged record_text foreign_leaves full_with key_of is_signed update_fields voucher_fields update_body voucher_body statement signed proof roster id_of_update id_of_statement hash_of_roster put_rising rising groups_behind groups_of new_vouchers limit_of_new limit_of_vouchers sha256 first_words schedule rounds compress hash_after digest_bytes u all_verify
is_sent = refl

names_it : IsIn name (values_named u)
unfolding u next_own
names_it = inl refl

was_held : held_as first_journal name ≡ Some value
unfolding first_values sha256 first_words schedule rounds compress hash_after digest_bytes
was_held = refl

not_without_value : Rejoined first_journal without_value → ⊥
unfolding first_values
not_without_value r = no_value (r.values u name value (subst (λ (us : List Update). IsIn u us) (sym is_sent) (inl refl)) names_it was_held) where
  no_value : None ≡ Some value → ⊥
  no_value e = cc

-- ---- both branches of a writer came, whom the sender has convicted, and the reader hasn't

abbrev both_branches : Feeding
both_branches = ended_with (newborn 2 ++ took nine ∷ took nine_other ∷ [])

abbrev of_sender : List Record
of_sender = newborn 1 ++ took nine ∷ took nine_other ∷ Conviction against_nine ∷ []

abbrev IsExposed : Feeding → Type 0
IsExposed s = (f g : Signed) → IsIn f (foreign s.journal) → IsIn g (foreign s.journal) → (k : Kind) → contradicts k f.statement g.statement ≡ true → is_convicted s.journal (writer_of f.statement) ≡ true

nothing_held : (n : NamedValue) (v : List ℕ) → held_as of_sender n ≡ Some v → ⊥
unfolding first_values
nothing_held n v e = cc

-- with its conviction the histories would have rejoined
all_but_exposed : IsExposed both_branches → Rejoined of_sender both_branches
unfolding report_of ending_of
all_but_exposed exposed = record {
  union = λ w. ((λ on. inr on), (λ on. elim on [ inl never ↦ absurd never | inr is ↦ is ]));
  none_refused = refl;
  whole = refl;
  values = λ w n v w_on n_on had. absurd (nothing_held n v had);
  exposed = exposed;
}

not_exposed : Rejoined of_sender both_branches → ⊥
unfolding sha256 first_words schedule rounds compress hash_after digest_bytes numeral number bytes_of list_of statement update_fields voucher_fields contradicts is_of_kind is_convicted
not_exposed r = let wrong : false ≡ true = r.exposed (signed_update nine) (signed_update nine_other) (inl refl) (inr (inl refl)) SameNumber refl in cc
