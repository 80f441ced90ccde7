-- The formats of statements, signed statements, proofs and rosters are lawful.
use Rattle.std.proofs.Common.{◌≡◌, ℕ, zero, suc, ◌≤◌, ◌*◌, ◌∙◌, Bool, true, false, cond, eqb, List, [], ◌∷◌, Some, length, refl, sym, ap, arith}
use Rattle.std.proofs.lemmas.Bool.{eqb-true, eqb-false}
use Rattle.std.proofs.lemmas.Bool.Decides.{nat_tests}
use Rattle.std.specs.Int.{w8, w16, w32}
use Rattle.depot_base.specs.Format.{Format, number, bytes_of, field, made_of_fields, choose, variant, list_of}
use Rattle.depot_base.specs.Parts.{digest, digest_rises, dep, dep_rises, roster_entry, roster_entry_rises, write, write_rises, hash_in, size_in}
use Rattle.depot_base.specs.Shown.{shown_first, shown_second, kind_shown, text_shown}
use Rattle.depot_base.specs.declared.write.Write.{Write}
use Rattle.depot_base.specs.declared.update.Update.{Update}
use Rattle.depot_base.specs.declared.voucher.Voucher.{Voucher}
use Rattle.depot_base.specs.declared.statement.Statement.{Statement}
use Rattle.depot_base.specs.declared.statement.Statement.TheVariants as statements
use Rattle.depot_base.specs.declared.statement.Signed.{Signed}
use Rattle.depot_base.specs.declared.proof.Proof.{Proof}
use Rattle.depot_base.specs.declared.proof.Proof.TheVariants.{Pair, Hollow}
use Rattle.depot_base.proofs.FormatLaws.{Lawful, weaken}
use Rattle.depot_base.proofs.Numbers.{one_number, number_within}
use Rattle.depot_base.proofs.Combined.{bytes_lawful, bytes_count, inner_count, made_lawful, field_lawful, variant_lawful, kept_lawful, choose_lawful}
use Rattle.depot_base.proofs.EntryLists.{list_lawful, list_count}
use Rattle.depot_base.proofs.PartLaws.{u8_lawful, u16_lawful, u32_lawful, u64_lawful, constant_lawful, node_lawful, digest_lawful, digests_lawful, deps_lawful, roster_entry_lawful, write_lawful}
use Rattle.depot_model.specs.texts.Texts.{version_of, first_write, single, lone, several, writes_text, version_in, most_kind, shown, update_fields, voucher_fields, update_body, voucher_body, kind_byte_of, as_update, as_voucher, statement, signed, number_of_kind, kind_of_number, proof, roster}

-- ---- the writes of an update

single_lawful : Lawful single 292
single_lawful =
    field_lawful _ _ _ 1 _ (u8_lawful 1 255 (omega arith)) (λ a ws f h. bytes_count a (first_write ws).key h.0) λ key_length range.
    field_lawful _ _ _ 255 _ (weaken _ key_length 255 (let r = number_within w8 1 255 key_length range in omega arith) (bytes_lawful key_length)) (λ a ws f h. ap (λ (x : List Write). (first_write x).key) h.1.1) λ key _.
    field_lawful _ _ _ 32 _ digest_lawful (λ a ws f h. ap (λ (x : List Write). hash_in (first_write x).what) h.1) λ hash _.
    field_lawful _ _ _ 4 0 (u32_lawful 0 65536 (omega arith)) (λ a ws f h. ap (λ (x : List Write). size_in (first_write x).what) h) λ size _.
    made_lawful _

lone_lawful : Lawful lone 257
lone_lawful =
    field_lawful _ _ _ 1 _ (u8_lawful 1 255 (omega arith)) (λ a ws f h. bytes_count a (first_write ws).key h.0) λ key_length range.
    field_lawful _ _ _ 255 _ (weaken _ key_length 255 (let r = number_within w8 1 255 key_length range in omega arith) (bytes_lawful key_length)) (λ a ws f h. ap (λ (x : List Write). (first_write x).key) h.1) λ key _.
    field_lawful _ _ _ 1 0 (constant_lawful 0 (omega arith)) (λ a ws f h. one_number w8 0 a f) λ mark _.
    made_lawful _

-- a single write is a put, and a lone one a deletion
version_of_single : (ws : List Write) → single.fits ws → version_of ws ≡ 1
version_of_single ws h = ap version_of h.1.1.1.1

lone_is_one : (ws : List Write) → lone.fits ws → (length ws ≡ 1) × (version_of ws ≡ 2)
lone_is_one ws h = (ap (λ (x : List Write). length x) h.1.1.1, ap version_of h.1.1.1)

-- how many there are after a count
counted : (alone : Bool) (count : ℕ) (ws : List Write) → eqb count 1 ≡ alone → (choose alone lone (list_of count write write_rises)).fits ws → length ws ≡ count
counted true count ws is h = (lone_is_one ws h).0 ∙ sym (eqb-true count 1 is)
counted false count ws is h = list_count count write write_rises ws h

-- the version of writes that aren't one
version_of_many : (ws : List Write) → (length ws ≡ 1 → ⊥) → version_of ws ≡ 2
version_of_many [] many = refl
version_of_many (w ∷ []) many = absurd (many refl)
version_of_many (w ∷ v ∷ ws) many = refl

version_counted : (alone : Bool) (count : ℕ) (ws : List Write) → eqb count 1 ≡ alone → (choose alone lone (list_of count write write_rises)).fits ws → version_of ws ≡ 2
version_counted true count ws is h = (lone_is_one ws h).1
version_counted false count ws is h = version_of_many ws (λ one. eqb-false count 1 is (sym (list_count count write write_rises ws h) ∙ one))

version_of_several : (ws : List Write) → several.fits ws → version_of ws ≡ 2
version_of_several ws h = version_counted (eqb (length ws) 1) (length ws) ws refl h.1

several_lawful : Lawful several 4689
several_lawful =
    field_lawful _ _ _ 1 4688 (u8_lawful 1 16 (omega arith)) (λ a ws f h. counted (eqb a 1) a ws refl h) λ count range.
    choose_lawful (eqb count 1) lone (list_of count write write_rises) 4688 (weaken lone 257 4688 (omega arith) lone_lawful)
    (weaken (list_of count write write_rises) (count * 293) 4688 (let r = number_within w8 1 16 count range in omega arith) (list_lawful count write write_rises 293 write_lawful))

writes_lawful : (version : ℕ) → Lawful (writes_text version) 4689
writes_lawful version = choose_lawful (eqb version 1) single several 4689 (weaken single 292 4689 (omega arith) single_lawful) several_lawful

one_or_two : (a : ℕ) → 1 ≤ a → a ≤ 2 → cond (eqb a 1) 1 2 ≡ a
one_or_two a low high = grind (arith, nat_tests)

which_version : (b : Bool) (ws : List Write) → (choose b single several).fits ws → version_of ws ≡ cond b 1 2
which_version true ws h = version_of_single ws h
which_version false ws h = version_of_several ws h

-- the writes tell the version of their text
pub version_of_writes : (version : ℕ) (ws : List Write) → (number w8 1 2).fits version → (writes_text version).fits ws → version_of ws ≡ version
version_of_writes version ws f h = let r = number_within w8 1 2 version f in which_version (eqb version 1) ws h ∙ one_or_two version r.0 r.1

-- ---- updates and vouchers

pub update_fields_lawful : (version : ℕ) → Lawful (update_fields version) 47777
unfolding update_fields
update_fields_lawful version =
    field_lawful _ _ _ 2 _ node_lawful (λ a u f h. cc) λ writer _.
    field_lawful _ _ _ 4 _ (u32_lawful 0 4294967295 (omega arith)) (λ a u f h. cc) λ seq _.
    field_lawful _ _ _ 8 _ (u64_lawful 1 18446744073709551615 (omega arith)) (λ a u f h. cc) λ clock _.
    field_lawful _ _ _ 32 _ digest_lawful (λ a u f h. cc) λ prev _.
    field_lawful _ _ _ 4689 _ (writes_lawful version) (λ a u f h. cc) λ writes _.
    field_lawful _ _ _ 2 _ (u16_lawful 0 1024 (omega arith)) (λ a u f h. list_count a dep (dep_rises writer) u.deps h.0) λ count limit.
    field_lawful _ _ _ 43008 _ (weaken _ (count * 42) 43008 (let r = number_within w16 0 1024 count limit in omega arith) (deps_lawful writer count)) (λ a u f h. cc) λ deps _.
    field_lawful _ _ _ 32 0 digest_lawful (λ a u f h. cc) λ history _.
    made_lawful _

-- the writes are in their text of the version
writes_in_fields : (version : ℕ) (u : Update) → (update_fields version).fits u → (writes_text version).fits u.writes
unfolding update_fields
writes_in_fields version u (writer, (seq, (clock, (prev, (writes, more))))) = writes

pub voucher_fields_lawful : Lawful voucher_fields 8200
unfolding voucher_fields
voucher_fields_lawful =
    field_lawful _ _ _ 2 _ node_lawful (λ a v f h. cc) λ node _.
    field_lawful _ _ _ 4 _ (u32_lawful 0 4294967295 (omega arith)) (λ a v f h. cc) λ seq _.
    field_lawful _ _ _ 2 _ (u16_lawful 1 256 (omega arith)) (λ a v f h. list_count a digest digest_rises v.ids h.0) λ count range.
    field_lawful _ _ _ 8192 0 (weaken _ (count * 32) 8192 (let r = number_within w16 1 256 count range in omega arith) (digests_lawful count)) (λ a v f h. cc) λ ids _.
    made_lawful _

pub update_body_lawful : Lawful update_body 47779
unfolding update_body
update_body_lawful =
    field_lawful _ _ _ 1 _ (u8_lawful 1 2 (omega arith)) (λ a u f h. version_of_writes a u.writes f (writes_in_fields a u h.1)) λ version _.
    field_lawful _ _ _ 1 47777 (constant_lawful 1 (omega arith)) (λ a u f h. one_number w8 1 a f) λ kind _.
    update_fields_lawful version

pub voucher_body_lawful : Lawful voucher_body 8202
unfolding voucher_body
voucher_body_lawful =
    field_lawful _ _ _ 1 _ (constant_lawful 1 (omega arith)) (λ a v f h. one_number w8 1 a f) λ version _.
    field_lawful _ _ _ 1 8200 (constant_lawful 2 (omega arith)) (λ a v f h. one_number w8 2 a f) λ kind _.
    voucher_fields_lawful

-- ---- statements

which_kind : (version : ℕ) (b : Bool) (s : Statement) → (choose b (variant (λ u. statements.Update u) as_update (update_fields version)) (variant (λ v. statements.Voucher v) as_voucher voucher_fields)).fits s → kind_byte_of s ≡ cond b 1 2
which_kind version true (statements.Update u) h = refl
which_kind version true (statements.Voucher v) h = absurd h
which_kind version false (statements.Update u) h = absurd h
which_kind version false (statements.Voucher v) h = refl

is_update : (s : Statement) (u : Update) → as_update s ≡ Some u → s ≡ statements.Update u
is_update (statements.Update w) u e = let p : w ≡ u = cc in ap (λ (x : Update). statements.Update x) p
is_update (statements.Voucher v) u e = absurd cc

is_voucher : (s : Statement) (v : Voucher) → as_voucher s ≡ Some v → s ≡ statements.Voucher v
is_voucher (statements.Update w) v e = absurd cc
is_voucher (statements.Voucher w) v e = let p : w ≡ v = cc in ap (λ (x : Voucher). statements.Voucher x) p

-- what follows the version and the kind
abbrev of_kind : ℕ → ℕ → Format Statement
of_kind version kind_byte = choose (eqb kind_byte 1) (variant (λ u. statements.Update u) as_update (update_fields version)) (variant (λ v. statements.Voucher v) as_voucher voucher_fields)

abbrev of_version : ℕ → Format Statement
of_version version = field (number w8 1 (most_kind version)) kind_byte_of λ kind_byte. of_kind version kind_byte

most_kinds : (version : ℕ) → most_kind version ≤ 2
most_kinds version = grind (arith, nat_tests)

kind_is : (version a : ℕ) (s : Statement) → (number w8 1 (most_kind version)).fits a → (of_kind version a).fits s → kind_byte_of s ≡ a
kind_is version a s f h = let r = number_within w8 1 (most_kind version) a f in which_kind version (eqb a 1) s h ∙ one_or_two a r.0 (omega (arith, r.1, most_kinds version))

-- in version 2 there are updates alone
old_kind : (version : ℕ) → 1 ≤ version → 2 ≤ most_kind version → 1 ≡ version
old_kind version low two = grind (arith, nat_tests)

version_is : (version : ℕ) (s : Statement) → (number w8 1 2).fits version → (of_version version).fits s → version_in s ≡ version
version_is version (statements.Update u) f h = version_of_writes version u.writes f (writes_in_fields version u h.1)
version_is version (statements.Voucher v) f h = old_kind version (number_within w8 1 2 version f).0 (number_within w8 1 (most_kind version) 2 h.0).1

pub statement_lawful : Lawful statement 47779
unfolding statement
statement_lawful =
    field_lawful _ _ _ 1 _ (u8_lawful 1 2 (omega arith)) version_is λ version _.
    field_lawful _ _ _ 1 47777 (u8_lawful 1 (most_kind version) (omega (arith, most_kinds version))) (kind_is version) λ which _.
    choose_lawful (eqb which 1) _ _ 47777
    (variant_lawful (λ u. statements.Update u) as_update (update_fields version) 47777 (λ u. refl) is_update (update_fields_lawful version))
    (variant_lawful (λ v. statements.Voucher v) as_voucher voucher_fields 47777 (λ v. refl) is_voucher (weaken _ 8200 47777 (omega arith) voucher_fields_lawful))

pub signed_lawful : Lawful signed 55979
unfolding signed
signed_lawful =
    field_lawful _ _ _ 4 _ (u32_lawful 0 47779 (omega arith)) (λ a s f h. ap length h.0.1 ∙ inner_count a statement s.statement h.0.0) λ body_length _.
    field_lawful _ _ _ 47779 _ (kept_lawful statement 47779 body_length statement_lawful) (λ a s f h. ap (λ (x : Signed). (x.body, x.statement)) h.1.1) λ body _.
    field_lawful _ _ _ 4 _ (u32_lawful 0 8192 (omega arith)) (λ a s f h. bytes_count a s.signature h.0) λ signature_length range.
    field_lawful _ _ _ 8192 0 (weaken _ signature_length 8192 (let r = number_within w32 0 8192 signature_length range in omega arith) (bytes_lawful signature_length)) (λ a s f h. cc) λ signature _.
    made_lawful _

-- ---- proofs and rosters

number_back : (n : ℕ) → 1 ≤ n → n ≤ 4 → number_of_kind (kind_of_number n) ≡ n
number_back zero low high = absurd (omega arith)
number_back (suc zero) low high = refl
number_back (suc (suc zero)) low high = refl
number_back (suc (suc (suc zero))) low high = refl
number_back (suc (suc (suc (suc n)))) low high = omega arith

-- what follows the first statement tells the kind, and the first statement
abbrev behind_first : Bool → ℕ → Signed → Format Proof
behind_first hollow kind_byte first =
    choose hollow
    (field (number w32 0 65536) (λ p. length (text_shown p)) λ text_length.
    field (bytes_of text_length) text_shown λ text.
    made_of_fields (Hollow first text))
    (field signed shown_second λ second.
    made_of_fields (Pair (kind_of_number kind_byte) first second))

first_behind : (hollow : Bool) (kind_byte : ℕ) (first : Signed) (p : Proof) → (behind_first hollow kind_byte first).fits p → shown_first p ≡ first
first_behind true kind_byte first p h = ap shown_first h.1.1
first_behind false kind_byte first p h = ap shown_first h.1

kind_behind : (hollow : Bool) (kind_byte : ℕ) (first : Signed) (p : Proof) → 1 ≤ kind_byte → kind_byte ≤ 4 → eqb kind_byte 4 ≡ hollow → (behind_first hollow kind_byte first).fits p → number_of_kind (kind_shown p) ≡ kind_byte
kind_behind true kind_byte first p low high is h = ap (λ (x : Proof). number_of_kind (kind_shown x)) h.1.1 ∙ sym (eqb-true kind_byte 4 is)
kind_behind false kind_byte first p low high is h = ap (λ (x : Proof). number_of_kind (kind_shown x)) h.1 ∙ number_back kind_byte low high

first_of_shown : (kind_byte : ℕ) (first : Signed) (p : Proof) → (shown kind_byte first).fits p → shown_first p ≡ first
first_of_shown kind_byte first p h = first_behind (eqb kind_byte 4) kind_byte first p h

kind_of_shown : (kind_byte : ℕ) (first : Signed) (p : Proof) → (number w8 1 4).fits kind_byte → (shown kind_byte first).fits p → number_of_kind (kind_shown p) ≡ kind_byte
kind_of_shown kind_byte first p f h = let r = number_within w8 1 4 kind_byte f in kind_behind (eqb kind_byte 4) kind_byte first p r.0 r.1 refl h

hollow_lawful : (first : Signed) → Lawful {V = Proof} (field (number w32 0 65536) (λ p. length (text_shown p)) λ text_length. field (bytes_of text_length) text_shown λ text. made_of_fields (Hollow first text)) 65540
hollow_lawful first =
    field_lawful _ _ _ 4 65536 (u32_lawful 0 65536 (omega arith)) (λ a p f h. bytes_count a (text_shown p) h.0) λ text_length range.
    field_lawful _ _ _ 65536 0 (weaken _ text_length 65536 (let r = number_within w32 0 65536 text_length range in omega arith) (bytes_lawful text_length)) (λ a p f h. ap text_shown h) λ text _.
    made_lawful _

shown_lawful : (kind_byte : ℕ) (first : Signed) → Lawful (shown kind_byte first) 65540
shown_lawful kind_byte first =
    choose_lawful (eqb kind_byte 4) _ _ 65540 (hollow_lawful first)
    (weaken _ 55979 65540 (omega arith) (field_lawful signed shown_second (λ second. made_of_fields (Pair (kind_of_number kind_byte) first second)) 55979 0 signed_lawful (λ a p f h. ap shown_second h) λ second _. made_lawful _))

pub proof_lawful : Lawful proof 121521
unfolding proof
proof_lawful =
    field_lawful _ _ _ 1 _ (constant_lawful 1 (omega arith)) (λ a p f h. one_number w8 1 a f) λ version _.
    field_lawful _ _ _ 1 _ (u8_lawful 1 4 (omega arith)) (λ a p f h. kind_of_shown a (shown_first p) p f h.1) λ kind_byte _.
    field_lawful signed shown_first (λ first. shown kind_byte first) 55979 65540 signed_lawful (λ a p f h. first_of_shown kind_byte a p h) λ first _.
    shown_lawful kind_byte first

pub roster_lawful : Lawful roster 8964
unfolding roster
roster_lawful =
    field_lawful _ _ _ 1 _ (constant_lawful 1 (omega arith)) (λ a r f h. one_number w8 1 a f) λ version _.
    field_lawful _ _ _ 1 _ (constant_lawful 4 (omega arith)) (λ a r f h. one_number w8 4 a f) λ kind_byte _.
    field_lawful _ _ _ 2 _ (u16_lawful 1 256 (omega arith)) (λ a r f h. list_count a roster_entry roster_entry_rises r h.0) λ count c.
    field_lawful _ _ _ 8960 0 (weaken _ (count * 35) 8960 (let r = number_within w16 1 256 count c in omega arith) (list_lawful count roster_entry roster_entry_rises 35 roster_entry_lawful)) (λ a r f h. cc) λ listed _.
    made_lawful _

-- ---- lengths

-- a body of an update has at most 47,779 bytes
pub update_is_short : (u : Update) → update_body.fits u → length (update_body.text u) ≤ 47779
update_is_short u fits = update_body_lawful.short u fits

-- and so has that of any statement
pub statement_is_short : (s : Statement) → statement.fits s → length (statement.text s) ≤ 47779
statement_is_short s fits = statement_lawful.short s fits

-- a signed statement's text has at most 55,979
pub signed_is_short : (s : Signed) → signed.fits s → length (signed.text s) ≤ 55979
signed_is_short s fits = signed_lawful.short s fits

-- a proof's at most 121,521
pub proof_is_short : (p : Proof) → proof.fits p → length (proof.text p) ≤ 121521
proof_is_short p fits = proof_lawful.short p fits
