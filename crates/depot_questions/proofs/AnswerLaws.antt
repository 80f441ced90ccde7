-- The text of an answer is lawful.
use Rattle.std.proofs.Common.{◌≡◌, ℕ, ◌*◌, ◌≤◌, Bool, true, false, eqb, List, Option, Some, None, refl, sym, ap, ◌∙◌, arith}
use Rattle.std.specs.Int.{w8, w16, w32}
use Rattle.std.proofs.lemmas.Bool.{eqb-true, eqb-false}
use Rattle.depot_base.specs.Closed.{closing}
use Rattle.depot_base.specs.Format.{Format, HasPart, choose, field, made_of_fields, number}
use Rattle.depot_base.specs.Reading.{IsClosedReadInOneWay}
use Rattle.depot_base.specs.declared.update.NamedValue.{NamedValue}
use Rattle.depot_base.proofs.ClosedLaws.{LawfulClosed, before_lawful, closed_choose_lawful, closed_variant_lawful, closing_lawful, weaken_closed}
use Rattle.depot_base.proofs.Combined.{bytes_count, bytes_lawful, choose_lawful, field_lawful, made_lawful}
use Rattle.depot_base.proofs.Decoding.{closed_in_one_way}
use Rattle.depot_base.proofs.EntryLists.{list_count, list_lawful}
use Rattle.depot_base.proofs.FormatLaws.{Lawful, weaken}
use Rattle.depot_base.proofs.Numbers.{number_within}
use Rattle.depot_base.proofs.PartLaws.{digest_lawful, node_lawful, u8_lawful, u16_lawful, u32_lawful, u64_lawful, write_lawful}
use Rattle.depot_questions.specs.declared.question_answer.ConvictionAt.{ConvictionAt}
use Rattle.depot_questions.specs.declared.question_answer.ConvictionPage.{ConvictionPage}
use Rattle.depot_questions.specs.declared.question_answer.KeyPage.{KeyPage}
use Rattle.depot_questions.specs.declared.question_answer.LatestWrite.{LatestWrite}
use Rattle.depot_questions.specs.declared.question_answer.NodeStatus.{NodeStatus}
use Rattle.depot_questions.specs.declared.question_answer.QuestionAnswer.{QuestionAnswer}
use Rattle.depot_questions.specs.declared.question_answer.QuestionAnswer.TheVariants as answer
use Rattle.depot_questions.specs.declared.question_answer.UpdateFacts.{UpdateFacts}
use Rattle.depot_questions.specs.declared.question_answer.UpdateKeys.{UpdateKeys}
use Rattle.depot_questions.specs.declared.question_answer.UpdatePage.{UpdatePage}
use Rattle.depot_questions.specs.declared.question_answer.WriteSays.{WriteSays}
use Rattle.depot_questions.specs.declared.question_answer.WriteSays.TheVariants as says
use Rattle.depot_questions.specs.QuestionAnswers.{answer_behind, answer_kind, answer_text, conviction_at_text, conviction_page_text, convictions_in, facts_found, flags_in, flags_text, found_behind, found_byte, found_in, found_text, key_page_text, keys_in, latest_in_answer, latest_write_text, latest_writes_text, long_text, name_in_says, named_text, says_behind, says_byte, says_text, status_in, status_text, update_facts_text, update_keys_text, update_page_text, updates_in_answer, value_in_says}
use Rattle.depot_requests.specs.TellingTexts.{any_u32_text, any_u64_text}
use Rattle.depot_questions.proofs.QuestionLaws.{pick}
use Rattle.depot_requests.proofs.ChangeTextLaws.{key_text_lawful}
use Rattle.depot_requests.proofs.TellingLaws.{flag_text_lawful}

-- ---- numbers

u32_text_lawful : Lawful any_u32_text 4
u32_text_lawful = u32_lawful 0 4294967295 (omega arith)

u64_text_lawful : Lawful any_u64_text 8
u64_text_lawful = u64_lawful 0 18446744073709551615 (omega arith)

-- ---- who the node is

status_text_lawful : Lawful status_text 131130
unfolding status_text
status_text_lawful =
    field_lawful _ _ _ 2 131128 node_lawful (λ a v f h. ap (λ (x : NodeStatus). x.node) h.1.1.1.1.1.1.1.1.1) λ node_at _.
    field_lawful _ _ _ 32 131096 digest_lawful (λ a v f h. ap (λ (x : NodeStatus). x.roster) h.1.1.1.1.1.1.1.1) λ roster_at _.
    field_lawful _ _ _ 4 131092 u32_text_lawful (λ a v f h. ap (λ (x : NodeStatus). x.statements) h.1.1.1.1.1.1.1) λ statements_at _.
    field_lawful _ _ _ 4 131088 u32_text_lawful (λ a v f h. ap (λ (x : NodeStatus). x.signable) h.1.1.1.1.1.1) λ signable_at _.
    field_lawful _ _ _ 4 131084 u32_text_lawful (λ a v f h. ap (λ (x : NodeStatus). x.records) h.1.1.1.1.1) λ records_at _.
    field_lawful _ _ _ 4 131080 u32_text_lawful (λ a v f h. ap (λ (x : NodeStatus). x.bytes) h.1.1.1.1) λ bytes_at _.
    field_lawful _ _ _ 4 131076 u32_text_lawful (λ a v f h. ap (λ (x : NodeStatus). x.updates) h.1.1.1) λ updates_at _.
    field_lawful _ _ _ 4 131072 u32_text_lawful (λ a v f h. ap (λ (x : NodeStatus). x.leaves) h.1.1) λ leaves_at _.
    field_lawful _ _ _ 2 131070 (u16_lawful 0 65535 (omega arith)) (λ a v f h. list_count a _ _ v.convicted h.0) λ count range.
    field_lawful _ _ _ 131070 0 (weaken _ (count * 2) 131070 (let r = number_within w16 0 65535 count range in omega (arith, r.1)) (list_lawful count _ _ 2 node_lawful)) (λ a v f h. ap (λ (x : NodeStatus). x.convicted) h) λ items _.
    made_lawful _

-- ---- convictions

long_text_lawful : Lawful long_text 4294967299
unfolding long_text
long_text_lawful =
    field_lawful _ _ _ 4 4294967295 u32_text_lawful (λ a v f h. bytes_count a v h.0) λ size range.
    field_lawful _ _ _ 4294967295 0 (weaken _ size 4294967295 (let r = number_within w32 0 4294967295 size range in r.1) (bytes_lawful size)) (λ a v f h. h) λ text _.
    made_lawful _

conviction_at_lawful : Lawful conviction_at_text 4294967305
unfolding conviction_at_text
conviction_at_lawful =
    field_lawful _ _ _ 4 4294967301 u32_text_lawful (λ a v f h. ap (λ (x : ConvictionAt). x.place) h.1.1) λ place_at _.
    field_lawful _ _ _ 2 4294967299 node_lawful (λ a v f h. ap (λ (x : ConvictionAt). x.node) h.1) λ node_at _.
    field_lawful _ _ _ 4294967299 0 long_text_lawful (λ a v f h. ap (λ (x : ConvictionAt). x.text) h) λ text_at _.
    made_lawful _

conviction_page_lawful : Lawful conviction_page_text 18446744108069289980
unfolding conviction_page_text
conviction_page_lawful =
    field_lawful _ _ _ 4 18446744108069289976 u32_text_lawful (λ a v f h. list_count a _ _ v.convictions h.0) λ count range.
    field_lawful _ _ _ 18446744108069289975 1 (weaken _ (count * 4294967305) 18446744108069289975 (let r = number_within w32 0 4294967295 count range in omega (arith, r.1)) (list_lawful count _ _ 4294967305 conviction_at_lawful)) (λ a v f h. ap (λ (x : ConvictionPage). x.convictions) h.1) λ items _.
    field_lawful _ _ _ 1 0 flag_text_lawful (λ a v f h. ap (λ (x : ConvictionPage). x.more) h) λ more_at _.
    made_lawful _

-- ---- keys

key_page_lawful : Lawful key_page_text 1099511627525
unfolding key_page_text
key_page_lawful =
    field_lawful _ _ _ 4 1099511627521 u32_text_lawful (λ a v f h. list_count a _ _ v.keys h.0) λ count range.
    field_lawful _ _ _ 1099511627520 1 (weaken _ (count * 256) 1099511627520 (let r = number_within w32 0 4294967295 count range in omega (arith, r.1)) (list_lawful count _ _ 256 key_text_lawful)) (λ a v f h. ap (λ (x : KeyPage). x.keys) h.1) λ items _.
    field_lawful _ _ _ 1 0 flag_text_lawful (λ a v f h. ap (λ (x : KeyPage). x.more) h) λ more_at _.
    made_lawful _

-- ---- the latest writes of a key

named_text_lawful : Lawful named_text 36
unfolding named_text
named_text_lawful =
    field_lawful _ _ _ 32 4 digest_lawful (λ a v f h. ap (λ (x : NamedValue). x.hash) h.1) λ hash_at _.
    field_lawful _ _ _ 4 0 u32_text_lawful (λ a v f h. ap (λ (x : NamedValue). x.size) h) λ size_at _.
    made_lawful _

abbrev says_by : Bool → Bool → Format WriteSays
says_by gone held =
    choose gone (made_of_fields says.Deleted)
    (choose held (field long_text value_in_says λ value. made_of_fields (says.Value value))
    (field named_text name_in_says λ name. made_of_fields (says.NotHeld name)))

says_is : (gone held : Bool) (byte : ℕ) (s : WriteSays) → eqb byte 0 ≡ gone → eqb byte 1 ≡ held → byte ≤ 2 → (says_by gone held).fits s → says_byte s ≡ byte
says_is true held byte s zero_is one_is high h = ap says_byte h ∙ sym (eqb-true byte 0 zero_is)
says_is false true byte s zero_is one_is high h = ap says_byte h.1 ∙ sym (eqb-true byte 1 one_is)
says_is false false byte s zero_is one_is high h = let two : 2 ≡ byte = omega (arith, high, eqb-false byte 0 zero_is, eqb-false byte 1 one_is) in ap says_byte h.1 ∙ two

says_text_lawful : Lawful says_text 4294967300
unfolding says_text says_behind
says_text_lawful =
    field_lawful _ _ _ 1 4294967299 (u8_lawful 0 2 (omega arith)) (λ byte v f h. says_is (eqb byte 0) (eqb byte 1) byte v refl refl (number_within w8 0 2 byte f).1 h) λ byte _.
    choose_lawful (eqb byte 0) _ _ 4294967299 (weaken _ 0 4294967299 (omega arith) (made_lawful says.Deleted))
    (choose_lawful (eqb byte 1) _ _ 4294967299 (field_lawful _ _ _ 4294967299 0 long_text_lawful (λ a v f h. ap value_in_says h) λ value _. made_lawful (says.Value value))
    (weaken _ 36 4294967299 (omega arith) (field_lawful _ _ _ 36 0 named_text_lawful (λ a v f h. ap name_in_says h) λ name _. made_lawful (says.NotHeld name))))

latest_write_lawful : Lawful latest_write_text 4294967346
unfolding latest_write_text
latest_write_lawful =
    field_lawful _ _ _ 32 4294967314 digest_lawful (λ a v f h. ap (λ (x : LatestWrite). x.id) h.1.1.1.1) λ id_at _.
    field_lawful _ _ _ 2 4294967312 node_lawful (λ a v f h. ap (λ (x : LatestWrite). x.writer) h.1.1.1) λ writer_at _.
    field_lawful _ _ _ 4 4294967308 u32_text_lawful (λ a v f h. ap (λ (x : LatestWrite). x.seq) h.1.1) λ seq_at _.
    field_lawful _ _ _ 8 4294967300 u64_text_lawful (λ a v f h. ap (λ (x : LatestWrite). x.clock) h.1) λ clock_at _.
    field_lawful _ _ _ 4294967300 0 says_text_lawful (λ a v f h. ap (λ (x : LatestWrite). x.says) h) λ says_at _.
    made_lawful _

latest_writes_lawful : Lawful latest_writes_text 18446744284162949074
unfolding latest_writes_text
latest_writes_lawful =
    field_lawful _ _ _ 4 18446744284162949070 u32_text_lawful (λ a v f h. list_count a _ _ v h.0) λ count range.
    field_lawful _ _ _ 18446744284162949070 0 (weaken _ (count * 4294967346) 18446744284162949070 (let r = number_within w32 0 4294967295 count range in omega (arith, r.1)) (list_lawful count _ _ 4294967346 latest_write_lawful)) (λ a v f h. h) λ items _.
    made_lawful _

-- ---- updates

update_facts_lawful : Lawful update_facts_text 4707
unfolding update_facts_text
update_facts_lawful =
    field_lawful _ _ _ 4 4703 u32_text_lawful (λ a v f h. ap (λ (x : UpdateFacts). x.item) h.1.1.1.1.1) λ item_at _.
    field_lawful _ _ _ 2 4701 node_lawful (λ a v f h. ap (λ (x : UpdateFacts). x.writer) h.1.1.1.1) λ writer_at _.
    field_lawful _ _ _ 4 4697 u32_text_lawful (λ a v f h. ap (λ (x : UpdateFacts). x.seq) h.1.1.1) λ seq_at _.
    field_lawful _ _ _ 8 4689 u64_text_lawful (λ a v f h. ap (λ (x : UpdateFacts). x.clock) h.1.1) λ clock_at _.
    field_lawful _ _ _ 1 4688 (u8_lawful 1 16 (omega arith)) (λ a v f h. list_count a _ _ v.writes h.0) λ count range.
    field_lawful _ _ _ 4688 0 (weaken _ (count * 293) 4688 (let r = number_within w8 1 16 count range in omega (arith, r.1)) (list_lawful count _ _ 293 write_lawful)) (λ a v f h. ap (λ (x : UpdateFacts). x.writes) h) λ items _.
    made_lawful _

abbrev found_by : Bool → Format (Option UpdateFacts)
found_by none = choose none (made_of_fields None) (field update_facts_text facts_found λ facts. made_of_fields (Some facts))

found_is : (none : Bool) (byte : ℕ) (o : Option UpdateFacts) → eqb byte 0 ≡ none → byte ≤ 1 → (found_by none).fits o → found_byte o ≡ byte
found_is true byte o is high h = ap found_byte h ∙ sym (eqb-true byte 0 is)
found_is false byte o is high h = let one : 1 ≡ byte = omega (arith, high, eqb-false byte 0 is) in ap found_byte h.1 ∙ one

found_text_lawful : Lawful found_text 4708
unfolding found_text found_behind
found_text_lawful =
    field_lawful _ _ _ 1 4707 (u8_lawful 0 1 (omega arith)) (λ byte v f h. found_is (eqb byte 0) byte v refl (number_within w8 0 1 byte f).1 h) λ byte _.
    choose_lawful (eqb byte 0) _ _ 4707 (weaken _ 0 4707 (omega arith) (made_lawful None))
    (field_lawful _ _ _ 4707 0 update_facts_lawful (λ a v f h. ap facts_found h) λ facts _. made_lawful (Some facts))

flags_text_lawful : Lawful flags_text 17
unfolding flags_text
flags_text_lawful =
    field_lawful _ _ _ 1 16 (u8_lawful 1 16 (omega arith)) (λ a v f h. list_count a _ _ v h.0) λ count range.
    field_lawful _ _ _ 16 0 (weaken _ (count * 1) 16 (let r = number_within w8 1 16 count range in omega (arith, r.1)) (list_lawful count _ _ 1 flag_text_lawful)) (λ a v f h. h) λ items _.
    made_lawful _

update_keys_lawful : Lawful update_keys_text 4143
unfolding update_keys_text
update_keys_lawful =
    field_lawful _ _ _ 32 4111 digest_lawful (λ a v f h. ap (λ (x : UpdateKeys). x.id) h.1.1.1.1.1) λ id_at _.
    field_lawful _ _ _ 2 4109 node_lawful (λ a v f h. ap (λ (x : UpdateKeys). x.writer) h.1.1.1.1) λ writer_at _.
    field_lawful _ _ _ 4 4105 u32_text_lawful (λ a v f h. ap (λ (x : UpdateKeys). x.seq) h.1.1.1) λ seq_at _.
    field_lawful _ _ _ 8 4097 u64_text_lawful (λ a v f h. ap (λ (x : UpdateKeys). x.clock) h.1.1) λ clock_at _.
    field_lawful _ _ _ 1 4096 (u8_lawful 1 16 (omega arith)) (λ a v f h. list_count a _ _ v.keys h.0) λ count range.
    field_lawful _ _ _ 4096 0 (weaken _ (count * 256) 4096 (let r = number_within w8 1 16 count range in omega (arith, r.1)) (list_lawful count _ _ 256 key_text_lawful)) (λ a v f h. ap (λ (x : UpdateKeys). x.keys) h) λ items _.
    made_lawful _

update_page_lawful : Lawful update_page_text 17794049503190
unfolding update_page_text
update_page_lawful =
    field_lawful _ _ _ 4 17794049503186 u32_text_lawful (λ a v f h. list_count a _ _ v.updates h.0) λ count range.
    field_lawful _ _ _ 17794049503185 1 (weaken _ (count * 4143) 17794049503185 (let r = number_within w32 0 4294967295 count range in omega (arith, r.1)) (list_lawful count _ _ 4143 update_keys_lawful)) (λ a v f h. ap (λ (x : UpdatePage). x.updates) h.1) λ items _.
    field_lawful _ _ _ 1 0 flag_text_lawful (λ a v f h. ap (λ (x : UpdatePage). x.more) h) λ more_at _.
    made_lawful _

-- ---- an answer of a kind is made of its part, which determines the kind

is_status : (a : QuestionAnswer) (status : NodeStatus) → status_in a ≡ Some status → a ≡ answer.Status status
is_status (answer.Status y) status e = let p : y ≡ status = cc in ap (λ (z : NodeStatus). answer.Status z) p
is_status a status e = absurd cc

status_kind : (fits : NodeStatus → Type 0) (a : QuestionAnswer) → HasPart fits (status_in a) → answer_kind a ≡ 16
status_kind fits (answer.Status y) h = refl
status_kind fits a h = absurd h

is_convictions : (a : QuestionAnswer) (page : ConvictionPage) → convictions_in a ≡ Some page → a ≡ answer.Convictions page
is_convictions (answer.Convictions y) page e = let p : y ≡ page = cc in ap (λ (z : ConvictionPage). answer.Convictions z) p
is_convictions a page e = absurd cc

convictions_kind : (fits : ConvictionPage → Type 0) (a : QuestionAnswer) → HasPart fits (convictions_in a) → answer_kind a ≡ 17
convictions_kind fits (answer.Convictions y) h = refl
convictions_kind fits a h = absurd h

is_keys : (a : QuestionAnswer) (page : KeyPage) → keys_in a ≡ Some page → a ≡ answer.Keys page
is_keys (answer.Keys y) page e = let p : y ≡ page = cc in ap (λ (z : KeyPage). answer.Keys z) p
is_keys a page e = absurd cc

keys_kind : (fits : KeyPage → Type 0) (a : QuestionAnswer) → HasPart fits (keys_in a) → answer_kind a ≡ 18
keys_kind fits (answer.Keys y) h = refl
keys_kind fits a h = absurd h

is_latest : (a : QuestionAnswer) (writes : List LatestWrite) → latest_in_answer a ≡ Some writes → a ≡ answer.Latest writes
is_latest (answer.Latest y) writes e = let p : y ≡ writes = cc in ap (λ (z : List LatestWrite). answer.Latest z) p
is_latest a writes e = absurd cc

latest_kind : (fits : List LatestWrite → Type 0) (a : QuestionAnswer) → HasPart fits (latest_in_answer a) → answer_kind a ≡ 19
latest_kind fits (answer.Latest y) h = refl
latest_kind fits a h = absurd h

is_update : (a : QuestionAnswer) (facts : Option UpdateFacts) → found_in a ≡ Some facts → a ≡ answer.Update facts
is_update (answer.Update y) facts e = let p : y ≡ facts = cc in ap (λ (z : Option UpdateFacts). answer.Update z) p
is_update a facts e = absurd cc

update_kind : (fits : Option UpdateFacts → Type 0) (a : QuestionAnswer) → HasPart fits (found_in a) → answer_kind a ≡ 20
update_kind fits (answer.Update y) h = refl
update_kind fits a h = absurd h

is_accepted : (a : QuestionAnswer) (flags : List Bool) → flags_in a ≡ Some flags → a ≡ answer.Accepted flags
is_accepted (answer.Accepted y) flags e = let p : y ≡ flags = cc in ap (λ (z : List Bool). answer.Accepted z) p
is_accepted a flags e = absurd cc

accepted_kind : (fits : List Bool → Type 0) (a : QuestionAnswer) → HasPart fits (flags_in a) → answer_kind a ≡ 21
accepted_kind fits (answer.Accepted y) h = refl
accepted_kind fits a h = absurd h

is_updates : (a : QuestionAnswer) (page : UpdatePage) → updates_in_answer a ≡ Some page → a ≡ answer.Updates page
is_updates (answer.Updates y) page e = let p : y ≡ page = cc in ap (λ (z : UpdatePage). answer.Updates z) p
is_updates a page e = absurd cc

updates_kind : (fits : UpdatePage → Type 0) (a : QuestionAnswer) → HasPart fits (updates_in_answer a) → answer_kind a ≡ 22
updates_kind fits (answer.Updates y) h = refl
updates_kind fits a h = absurd h

kind_is : (n : ℕ) (a : QuestionAnswer) → 16 ≤ n → n ≤ 22 → (answer_behind n).fits a → answer_kind a ≡ n
unfolding answer_behind
kind_is n a low high h =
    pick answer_kind _ _ 16 n a (eqb n 16) refl (λ g. status_kind _ a g) (λ n16. pick answer_kind _ _ 17 n a (eqb n 17) refl (λ g. convictions_kind _ a g) (λ n17. pick answer_kind _ _ 18 n a (eqb n 18) refl (λ g. keys_kind _ a g) (λ n18. pick answer_kind _ _ 19 n a (eqb n 19) refl (λ g. latest_kind _ a g)
    (λ n19. pick answer_kind _ _ 20 n a (eqb n 20) refl (λ g. update_kind _ a g) (λ n20. pick answer_kind _ _ 21 n a (eqb n 21) refl (λ g. accepted_kind _ a g) (λ n21 g. let last : 22 ≡ n = omega (arith, low, high, n16, n17, n18, n19, n20, n21) in updates_kind _ a g ∙ last)))))) h

-- ---- all kinds

abbrev most : ℕ
most = 18446744284162949074

answer_lawful : (kind : ℕ) → LawfulClosed (answer_behind kind) most
unfolding answer_behind
answer_lawful kind =
    closed_choose_lawful (eqb kind 16) _ _ most (closed_variant_lawful (λ x. answer.Status x) status_in (closing status_text) most (λ x. refl) is_status (weaken_closed _ 131130 most (omega arith) (closing_lawful _ 131130 status_text_lawful)))
    (closed_choose_lawful (eqb kind 17) _ _ most (closed_variant_lawful (λ x. answer.Convictions x) convictions_in (closing conviction_page_text) most (λ x. refl) is_convictions (weaken_closed _ 18446744108069289980 most (omega arith) (closing_lawful _ 18446744108069289980 conviction_page_lawful)))
    (closed_choose_lawful (eqb kind 18) _ _ most (closed_variant_lawful (λ x. answer.Keys x) keys_in (closing key_page_text) most (λ x. refl) is_keys (weaken_closed _ 1099511627525 most (omega arith) (closing_lawful _ 1099511627525 key_page_lawful)))
    (closed_choose_lawful (eqb kind 19) _ _ most (closed_variant_lawful (λ x. answer.Latest x) latest_in_answer (closing latest_writes_text) most (λ x. refl) is_latest (weaken_closed _ 18446744284162949074 most (omega arith) (closing_lawful _ 18446744284162949074 latest_writes_lawful)))
    (closed_choose_lawful (eqb kind 20) _ _ most (closed_variant_lawful (λ x. answer.Update x) found_in (closing found_text) most (λ x. refl) is_update (weaken_closed _ 4708 most (omega arith) (closing_lawful _ 4708 found_text_lawful)))
    (closed_choose_lawful (eqb kind 21) _ _ most (closed_variant_lawful (λ x. answer.Accepted x) flags_in (closing flags_text) most (λ x. refl) is_accepted (weaken_closed _ 17 most (omega arith) (closing_lawful _ 17 flags_text_lawful)))
    (closed_variant_lawful (λ x. answer.Updates x) updates_in_answer (closing update_page_text) most (λ x. refl) is_updates (weaken_closed _ 17794049503190 most (omega arith) (closing_lawful _ 17794049503190 update_page_lawful))))))))

answer_text_lawful : LawfulClosed answer_text 18446744284162949075
unfolding answer_text
answer_text_lawful =
    before_lawful (number w8 16 22) answer_kind answer_behind 1 most (u8_lawful 16 22 (omega arith)) (λ n a f h. let w = number_within w8 16 22 n f in kind_is n a w.0 w.1 h) λ kind _. answer_lawful kind

pub one_way : IsClosedReadInOneWay answer_text
one_way = closed_in_one_way answer_text 18446744284162949075 answer_text_lawful
