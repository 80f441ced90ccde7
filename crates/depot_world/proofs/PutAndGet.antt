-- A schedule to whose world the laws apply: it is a schedule, and its world is authentic and free of collisions.
use Rattle.std.proofs.Common.{◌≡◌, ℕ, true, false, List, [], ◌∷◌, map, take, length, refl, sym, ap, subst, ◌∙◌, inl, inr, arith}
use Rattle.sha2.specs.Sha256.{sha256, first_words, schedule, rounds, compress, hash_after, digest_bytes}
use Rattle.depot_base.specs.Cursor.{numeral}
use Rattle.depot_base.specs.Format.{number, bytes_of, inner, list_of}
use Rattle.depot_base.specs.Parts.{dep, roster_entry}
use Rattle.depot_base.specs.Zeros.{zeros}
use Rattle.depot_base.specs.declared.update.Update.{Update}
use Rattle.depot_model.specs.worlds.Causality.{IsForkJoinCausal, ConvictsNoCorrectNode}
use Rattle.depot_model.specs.readers.Checkpoints.{is_checkpoint_key}
use Rattle.depot_model.specs.updates.History.{leaves_of, put_by_id, by_id, history_text, history_hash}
use Rattle.depot_model.specs.journals.Journal.{has_id, prev_of, named, first_values}
use Rattle.depot_model.specs.checks.Limits.{spent_by, tips_of, collides_by, limit_of_own, limit_of_put}
use Rattle.depot_model.specs.lists.Lists.{IsIn}
use Rattle.depot_model.specs.updates.Order.{past}
use Rattle.depot_model.specs.checks.Own.{precedes_named, next_entries, next_own, leaf_count}
use Rattle.depot_model.specs.texts.Plain.{plain_root}
use Rattle.depot_model.specs.worlds.Receipts.{receipt_of}
use Rattle.depot_model.specs.texts.Records.{birth, own_put, tagged, record_text}
use Rattle.depot_model.specs.checks.Room.{foreign_leaves, full_with}
use Rattle.depot_model.specs.texts.Roster.{key_of}
use Rattle.depot_model.specs.texts.Texts.{update_fields, update_body, roster, id_of_update, hash_of_roster, text_of_update}
use Rattle.depot_model.specs.worlds.World.{Correct, Read, IsAuthentic, IsCollisionFree, writes_of, hashed_texts, signed_met}
use Rattle.depot_model.proofs.lists.Members.{in_map}
use Rattle.depot_laws.proofs.of_worlds.Worlds.{body_hashed}
use Rattle.depot_schedule.specs.declared.event.Event.TheVariants as event
use Rattle.depot_schedule.specs.declared.schedule.Schedule.{Schedule}
use Rattle.depot_schedule.specs.EventLines.{put_line, get_line}
use Rattle.depot_schedule.specs.Schedules.{IsSchedule}
use Rattle.depot_requests.specs.Requests.{effect_of, served}
use Rattle.depot_model.specs.lists.Insertion.{insert_by, order_by}
use Rattle.depot_model.specs.updates.LatestList.{latest_in}
use Rattle.depot_world.specs.Run.{run_of, world_by, host_in, seen_with, put_host, with_host}
use Rattle.depot_world.specs.ScheduleStops.{event_result}
use Rattle.depot_world.specs.Setups.{suite_of, seed_of, setup_of}
use Rattle.depot_world.specs.Transcript.{done_at_node, done, run_after, world_of}
use Rattle.depot_world.proofs.of_worlds.GoodWorlds.{schedule_world_is_causal, schedule_world_convicts_none}
use Rattle.depot_world.proofs.of_bytes.OnlyBytes.{by_places}

-- one node puts, and reads what it put
abbrev pub put_and_get : Schedule
put_and_get = record { winter = false; height = 4; members = record { node = 1; correct = true } ∷ []; events = event.Put 1 (107 ∷ []) (97 ∷ []) ∷ event.Get 1 (107 ∷ []) ∷ [] }

is_schedule : IsSchedule put_and_get
unfolding put_line get_line receipt_of is_checkpoint_key
is_schedule = record {
  low = omega arith;
  high = omega arith;
  members = ((omega arith, omega arith, refl), tt);
  some = refl;
  events = (
    (((omega arith, omega arith), refl), (((refl, by_places (107 ∷ []) (omega arith, tt)), refl), ((refl, by_places (97 ∷ []) (omega arith, tt)), refl))),
    ((((omega arith, omega arith), refl), ((refl, by_places (107 ∷ []) (omega arith, tt)), refl)), tt),
  );
  lines = omega arith;
}

-- Its world: the node has two records, and read when it had both; it has no signed statement of another; and these are
-- the first bytes of the digests of what it hashes, the update's body and its value.
record Computes : Type 0 where
  pub lengths : map (λ (c : Correct). length c.journal ∷ map (λ (r : Read). r.at) c.reads) (world_of put_and_get).nodes ≡ (2 ∷ 2 ∷ []) ∷ []
  pub met : signed_met (world_of put_and_get) ≡ []
  pub first_bytes : map (λ (text : List ℕ). take 1 (sha256 text)) (hashed_texts (world_of put_and_get)) ≡ (223 ∷ []) ∷ (202 ∷ []) ∷ []

computes : Computes
unfolding numeral number bytes_of inner list_of dep roster_entry leaves_of put_by_id by_id history_text history_hash has_id prev_of named first_values spent_by tips_of collides_by limit_of_own limit_of_put past precedes_named next_entries next_own leaf_count plain_root birth own_put tagged record_text foreign_leaves full_with key_of update_fields update_body roster id_of_update hash_of_roster served effect_of insert_by order_by latest_in run_of world_by host_in seen_with put_host with_host event_result suite_of seed_of setup_of done_at_node done run_after world_of sha256 first_words schedule rounds compress hash_after digest_bytes
computes = record { lengths = refl; met = refl; first_bytes = refl }

-- ---- the premises of the laws

authentic : IsAuthentic (world_of put_and_get)
authentic = record { made = λ s c met on same. absurd (subst (λ (ss : List _). IsIn s ss) computes.met met) }

-- of two texts whose digests begin with two bytes one digest says which it is
told : {X Y : Type 0} (f : X → Y) (p q : Y) (xs : List X) → (p ≡ q → ⊥) → map f xs ≡ p ∷ q ∷ [] → (a b : X) → IsIn a xs → IsIn b xs → f a ≡ f b → a ≡ b
told f p q [] other is a b never on same = absurd never
told f p q (x ∷ []) other is a b on b_on same = absurd cc
told f p q (x ∷ y ∷ z ∷ xs) other is a b on b_on same = absurd cc
told f p q (x ∷ y ∷ []) other is a b (inl one) (inl two) same = sym one ∙ two
told f p q (x ∷ y ∷ []) other is a b (inr (inl one)) (inr (inl two)) same = sym one ∙ two
told f p q (x ∷ y ∷ []) other is a b (inl one) (inr (inl two)) same = absurd (let p_is : f x ≡ p = cc in let q_is : f y ≡ q = cc in other (sym p_is ∙ ap f one ∙ same ∙ sym (ap f two) ∙ q_is))
told f p q (x ∷ y ∷ []) other is a b (inr (inl one)) (inl two) same = absurd (let p_is : f x ≡ p = cc in let q_is : f y ≡ q = cc in other (sym p_is ∙ ap f two ∙ sym same ∙ sym (ap f one) ∙ q_is))
told f p q (x ∷ y ∷ []) other is a b (inr (inr never)) b_on same = absurd never
told f p q (x ∷ y ∷ []) other is a b on (inr (inr never)) same = absurd never

begins : List ℕ → List ℕ
begins text = take 1 (sha256 text)

one_byte : (m n : ℕ) → m ∷ [] ≡ n ∷ [] → m ≡ n
one_byte m n e = cc

never_zeros : (u : Update) → IsIn u (writes_of (world_of put_and_get)) → id_of_update u ≡ zeros → ⊥
unfolding id_of_update begins
never_zeros u on e =
    let front = subst (λ (xs : List (List ℕ)). IsIn (begins (text_of_update u)) xs) computes.first_bytes (in_map begins (text_of_update u) (hashed_texts (world_of put_and_get)) (body_hashed (world_of put_and_get) u on)) in
    let zero_front : begins (text_of_update u) ≡ 0 ∷ [] = ap (λ (h : List ℕ). take 1 h) e in
    elim front [
      | inl is ↦ omega (arith, one_byte 223 0 (is ∙ zero_front))
      | inr later ↦ elim later [ inl is ↦ omega (arith, one_byte 202 0 (is ∙ zero_front)) | inr never ↦ never ]
    ]

collision_free : IsCollisionFree (world_of put_and_get)
unfolding begins
collision_free = record {
  one = λ a b a_on b_on same. told begins (223 ∷ []) (202 ∷ []) (hashed_texts (world_of put_and_get)) (λ e. omega (arith, one_byte 223 202 e)) computes.first_bytes a b a_on b_on (ap (λ (h : List ℕ). take 1 h) same);
  named = never_zeros;
}

-- ---- what the laws say of it

pub is_causal : IsForkJoinCausal (world_of put_and_get)
is_causal = schedule_world_is_causal put_and_get is_schedule authentic collision_free

pub convicts_nobody : ConvictsNoCorrectNode (world_of put_and_get)
convicts_nobody = schedule_world_convicts_none put_and_get is_schedule authentic collision_free
