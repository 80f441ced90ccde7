-- The texts of updates, statements, proofs, hellos and frames are bytes, where their parts are.
use Rattle.std.proofs.Common.{◌≡◌, ℕ, ◌≤◌, Bool, true, false, cond, eqb, List, [], ◌∷◌, ◌++◌, length, refl, sym, subst, arith}
use Rattle.std.proofs.lemmas.Bool.{ne_eqb}
use Rattle.std.specs.List.{AllByRecursion, flat_map}
use Rattle.std.specs.Int.{w8, w16, w32, w64}
use Rattle.depot_base.specs.Cursor.{numeral}
use Rattle.depot_base.specs.Format.{number, bytes_of, field, made_of_fields, choose, list_of}
use Rattle.depot_base.specs.Parts.{dep, digest, node_number, write, write_rises, hash_in, size_in}
use Rattle.depot_base.specs.Shown.{shown_second, text_shown}
use Rattle.depot_base.specs.Writes.{is_put, value_in, values_in}
use Rattle.depot_base.specs.declared.limits.TheConstants.{MOST_VALUE}
use Rattle.depot_base.specs.declared.write.Write.{Write}
use Rattle.depot_base.specs.declared.write.Wrote.{Wrote}
use Rattle.depot_base.specs.declared.write.Wrote.TheVariants.{Put, Gone}
use Rattle.depot_base.specs.declared.update.Update.{Update}
use Rattle.depot_base.specs.declared.update.Dep.{Dep}
use Rattle.depot_base.specs.declared.voucher.Voucher.{Voucher}
use Rattle.depot_base.specs.declared.statement.Statement.TheVariants as statement
use Rattle.depot_base.specs.declared.statement.Signed.{Signed}
use Rattle.depot_base.specs.declared.proof.Kind.{Kind}
use Rattle.depot_base.specs.declared.proof.Proof.TheVariants.{Pair, Hollow}
use Rattle.depot_model.specs.readers.Checkpoints.{Checkpoint, checkpoint, text_of_checkpoint}
use Rattle.depot_model.specs.declared.hello.Hello.{Hello}
use Rattle.depot_model.specs.declared.hello.HelloLeaf.{HelloLeaf}
use Rattle.depot_model.specs.texts.Frames.{Frame, text_of_frame}
use Rattle.depot_model.specs.exchange.Hello.{hello, hello_leaf, text_of_hello}
use Rattle.depot_model.specs.texts.Contents.{NamedValue, values_named}
use Rattle.depot_model.specs.lists.Lists.{IsIn}
use Rattle.depot_model.specs.texts.Texts.{version_of, first_write, single, lone, several, writes_text, kind_of_number, statement as statement_format, update_fields, voucher_fields, update_body, signed, proof, number_of_kind, text_of_update, text_of_statement, text_of_signed, text_of_proof, id_of_update}
use Rattle.depot_base.proofs.GeneralLaws.{all_both}
use Rattle.depot_base.proofs.WriteTexts.{behind_key, write_text, gone_text, put_text}
use Rattle.depot_model.proofs.lists.Members.{all_at}
use Rattle.depot_world.proofs.of_bytes.OnlyBytes.{OnlyBytes, only_both, only_left, only_right, only_flat, joined, only_joined, joined_only, only_numeral, only_sha256}

pub only_id : (u : Update) → OnlyBytes (id_of_update u)
unfolding id_of_update
only_id u = only_sha256 (text_of_update u)

-- ---- the writes of an update

-- the hash of each value that is named is bytes
abbrev pub AreByteNames : List NamedValue → Type 0
AreByteNames ns = AllByRecursion (λ n. OnlyBytes n.hash) ns

-- a write's key is bytes, and so is the hash that it names
abbrev pub IsByteWrite : Write → Type 0
IsByteWrite w = OnlyBytes w.key × AreByteNames (value_in w.what)

hash_holds : (what : Wrote) → AreByteNames (value_in what) → OnlyBytes (hash_in what)
hash_holds (Put hash size) names = names.0
hash_holds Gone names = tt

only_marked : (w : Write) (what : Wrote) → w.what ≡ what → AreByteNames (value_in what) → OnlyBytes (behind_key w)
only_marked w (Put hash size) is names = subst OnlyBytes (sym (put_text w hash size is)) (only_joined (numeral w8 1 ∷ hash ∷ numeral w32 size ∷ []) (only_numeral w8 1, (names.0, (only_numeral w32 size, tt))))
only_marked w Gone is names = subst OnlyBytes (sym (gone_text w is)) (only_joined (numeral w8 0 ∷ []) (only_numeral w8 0, tt))

only_write : (w : Write) → IsByteWrite w → OnlyBytes (write.text w)
only_write w holds = subst OnlyBytes (sym (write_text w))
    (only_both (numeral w8 (length w.key)) (w.key ++ behind_key w) (only_numeral w8 (length w.key)) (only_both w.key (behind_key w) holds.0 (only_marked w w.what refl holds.1)))

only_list : (ws : List Write) → AllByRecursion IsByteWrite ws → OnlyBytes (flat_map write.text ws)
only_list ws hold = only_flat write.text ws (λ w on. only_write w (all_at IsByteWrite ws w hold on))

first_holds : (ws : List Write) → AllByRecursion IsByteWrite ws → IsByteWrite (first_write ws)
first_holds [] hold = (tt, tt)
first_holds (w ∷ ws) hold = hold.0

only_single : (w : Write) (ws : List Write) → first_write ws ≡ w → IsByteWrite w → OnlyBytes (single.text ws)
unfolding number bytes_of
only_single w ws is holds = rw is (only_joined (numeral w8 (length w.key) ∷ w.key ∷ hash_in w.what ∷ numeral w32 (size_in w.what) ∷ [])
    (only_numeral w8 (length w.key), (holds.0, (hash_holds w.what holds.1, (only_numeral w32 (size_in w.what), tt)))))

only_lone : (w : Write) (ws : List Write) → first_write ws ≡ w → IsByteWrite w → OnlyBytes (lone.text ws)
unfolding number bytes_of
only_lone w ws is holds = rw is (only_joined (numeral w8 (length w.key) ∷ w.key ∷ numeral w8 0 ∷ []) (only_numeral w8 (length w.key), (holds.0, (only_numeral w8 0, tt))))

only_several : (ws : List Write) → AllByRecursion IsByteWrite ws → OnlyBytes (several.text ws)
unfolding number list_of
only_several ws hold = only_both (numeral w8 (length ws)) _ (only_numeral w8 (length ws)) (by_count (eqb (length ws) 1)) where
  by_count : (alone : Bool) → OnlyBytes ((choose alone lone (list_of (length ws) write write_rises)).text ws)
  by_count true = only_lone (first_write ws) ws refl (first_holds ws hold)
  by_count false = only_list ws hold

only_writes : (version : ℕ) (ws : List Write) → AllByRecursion IsByteWrite ws → OnlyBytes ((writes_text version).text ws)
only_writes version ws hold = by_version (eqb version 1) where
  by_version : (b : Bool) → OnlyBytes ((choose b single several).text ws)
  by_version true = only_single (first_write ws) ws refl (first_holds ws hold)
  by_version false = only_several ws hold

-- ---- and back: the hashes in a text of writes

marked_names : (w : Write) (what : Wrote) → w.what ≡ what → OnlyBytes (behind_key w) → AreByteNames (value_in what)
marked_names w (Put hash size) is only = ((joined_only (numeral w8 1 ∷ hash ∷ numeral w32 size ∷ []) (subst OnlyBytes (put_text w hash size is) only)).1.0, tt)
marked_names w Gone is only = tt

write_names : (w : Write) → OnlyBytes (write.text w) → AreByteNames (value_in w.what)
write_names w only = marked_names w w.what refl (only_right w.key (behind_key w) (only_right (numeral w8 (length w.key)) (w.key ++ behind_key w) (subst OnlyBytes (write_text w) only)))

list_names : (ws : List Write) → OnlyBytes (flat_map write.text ws) → AreByteNames (values_in ws)
list_names [] only = tt
list_names (w ∷ ws) only =
    all_both (λ (n : NamedValue). OnlyBytes n.hash) (value_in w.what) (values_in ws) (write_names w (only_left (write.text w) (flat_map write.text ws) only)) (list_names ws (only_right (write.text w) (flat_map write.text ws) only))

one_names : (w : Write) (what : Wrote) → w.what ≡ what → OnlyBytes ((writes_text (cond (is_put what) 1 2)).text (w ∷ [])) → AreByteNames (value_in what ++ [])
unfolding number bytes_of
one_names w (Put hash size) is only =
    (subst (λ (x : Wrote). OnlyBytes (hash_in x)) is (joined_only (numeral w8 (length w.key) ∷ w.key ∷ hash_in w.what ∷ numeral w32 (size_in w.what) ∷ []) only).1.1.0, tt)
one_names w Gone is only = tt

writes_names : (ws : List Write) → OnlyBytes ((writes_text (version_of ws)).text ws) → AreByteNames (values_in ws)
unfolding number list_of
writes_names [] only = tt
writes_names (w ∷ []) only = one_names w w.what refl only
writes_names (w ∷ v ∷ ws) only = list_names (w ∷ v ∷ ws) (by_count (eqb (length (w ∷ v ∷ ws)) 1) (ne_eqb _ _ (λ e. omega (arith, e))) (only_right (numeral w8 (length (w ∷ v ∷ ws))) _ only)) where
  by_count : (alone : Bool) → alone ≡ false → OnlyBytes ((choose alone lone (list_of (length (w ∷ v ∷ ws)) write write_rises)).text (w ∷ v ∷ ws)) → OnlyBytes (flat_map write.text (w ∷ v ∷ ws))
  by_count true is text = absurd cc
  by_count false is text = text

-- ---- updates

-- the parts of an update's text
abbrev update_parts : Update → List (List ℕ)
update_parts u =
    numeral w8 (version_of u.writes) ∷ numeral w8 1 ∷ numeral w16 u.writer ∷ numeral w32 u.seq ∷ numeral w64 u.clock ∷ u.prev ∷ (writes_text (version_of u.writes)).text u.writes ∷
    numeral w16 (length u.deps) ∷ flat_map dep.text u.deps ∷ u.history ∷ []

update_text : (u : Update) → text_of_update u ≡ joined (update_parts u)
unfolding update_body update_fields number bytes_of list_of
update_text u = refl

-- what an update names, its keys and its history are bytes
pub record HasOnlyBytes (u : Update) : Type 0 where
  pub prev : OnlyBytes u.prev
  pub writes : AllByRecursion IsByteWrite u.writes
  pub ids : (d : Dep) → IsIn d u.deps → OnlyBytes d.id
  pub history : OnlyBytes u.history

only_dep : (d : Dep) → OnlyBytes d.id → OnlyBytes (dep.text d)
unfolding dep number bytes_of
only_dep d id = only_joined (numeral w16 d.writer ∷ numeral w64 d.clock ∷ d.id ∷ []) (only_numeral w16 d.writer, (only_numeral w64 d.clock, (id, tt)))

pub only_update : (u : Update) → HasOnlyBytes u → OnlyBytes (text_of_update u)
only_update u has = subst OnlyBytes (sym (update_text u)) (only_joined (update_parts u) (
  only_numeral w8 (version_of u.writes),
  (
    only_numeral w8 1,
    (
      only_numeral w16 u.writer,
      (
        only_numeral w32 u.seq,
        (
          only_numeral w64 u.clock,
          (
            has.prev,
            (
              only_writes (version_of u.writes) u.writes has.writes,
              (only_numeral w16 (length u.deps), (only_flat dep.text u.deps (λ d on. only_dep d (has.ids d on)), (has.history, tt))),
            ),
          ),
        ),
      ),
    ),
  ),
))

-- the text of the writes in an update's
writes_in_parts : (u : Update) → AllByRecursion OnlyBytes (update_parts u) → OnlyBytes ((writes_text (version_of u.writes)).text u.writes)
writes_in_parts u (version, (kind, (writer, (seq, (clock, (prev, (writes, behind))))))) = writes

-- the hashes that an update names
pub hashes_in_update : (u : Update) → OnlyBytes (text_of_update u) → AreByteNames (values_named u)
hashes_in_update u only = writes_names u.writes (writes_in_parts u (joined_only (update_parts u) (subst OnlyBytes (update_text u) only)))

-- ---- statements

pub update_statement : (u : Update) → text_of_statement (statement.Update u) ≡ text_of_update u
unfolding statement_format update_body number
update_statement u = refl

only_digests : (hs : List (List ℕ)) → ((h : List ℕ) → IsIn h hs → OnlyBytes h) → OnlyBytes (flat_map digest.text hs)
unfolding bytes_of
only_digests hs each = only_flat (λ h. h) hs each

pub only_voucher : (v : Voucher) → ((h : List ℕ) → IsIn h v.ids → OnlyBytes h) → OnlyBytes (text_of_statement (statement.Voucher v))
unfolding statement_format voucher_fields number list_of
only_voucher v ids = only_joined (numeral w8 1 ∷ numeral w8 2 ∷ numeral w16 v.node ∷ numeral w32 v.seq ∷ numeral w16 (length v.ids) ∷ flat_map digest.text v.ids ∷ [])
    (only_numeral w8 1, (only_numeral w8 2, (only_numeral w16 v.node, (only_numeral w32 v.seq, (only_numeral w16 (length v.ids), (only_digests v.ids ids, tt))))))

-- ---- signed statements and proofs

abbrev signed_parts : Signed → List (List ℕ)
signed_parts s = numeral w32 (length s.body) ∷ text_of_statement s.statement ∷ numeral w32 (length s.signature) ∷ s.signature ∷ []

signed_text : (s : Signed) → text_of_signed s ≡ joined (signed_parts s)
unfolding signed number bytes_of
signed_text s = refl

pub only_signed : (s : Signed) → OnlyBytes (text_of_statement s.statement) → OnlyBytes s.signature → OnlyBytes (text_of_signed s)
only_signed s body signature = subst OnlyBytes (sym (signed_text s)) (only_joined (signed_parts s) (only_numeral w32 (length s.body), (body, (only_numeral w32 (length s.signature), (signature, tt)))))

-- the statement in it
pub statement_in_signed : (s : Signed) → OnlyBytes (text_of_signed s) → OnlyBytes (text_of_statement s.statement)
statement_in_signed s only = (joined_only (signed_parts s) (subst OnlyBytes (signed_text s) only)).1.0

-- a pair; one of the kind of a hollow proof has a text without its second half
pub only_pair : (kind : Kind) (a b : Signed) → OnlyBytes (text_of_signed a) → OnlyBytes (text_of_signed b) → OnlyBytes (text_of_proof (Pair kind a b))
unfolding proof number bytes_of
only_pair kind a b first second = only_both (numeral w8 1) _ (only_numeral w8 1) (only_both (numeral w8 (number_of_kind kind)) _ (only_numeral w8 (number_of_kind kind)) (only_both (text_of_signed a) _ first (by_kind (eqb (number_of_kind kind) 4)))) where
  by_kind : (b_ : Bool) → OnlyBytes ((choose b_ (field (number w32 0 MOST_VALUE) (λ p. length (text_shown p)) λ text_length. field (bytes_of text_length) text_shown λ text. made_of_fields (Hollow a text)) (field signed shown_second λ other. made_of_fields (Pair (kind_of_number (number_of_kind kind)) a other))).text (Pair kind a b))
  by_kind true = only_joined (numeral w32 0 ∷ [] ∷ []) (only_numeral w32 0, (tt, tt))
  by_kind false = only_joined (text_of_signed b ∷ []) (second, tt)

pub only_hollow : (voucher : Signed) (text : List ℕ) → OnlyBytes (text_of_signed voucher) → OnlyBytes text → OnlyBytes (text_of_proof (Hollow voucher text))
unfolding proof number bytes_of
only_hollow voucher text signed_only only = only_joined (numeral w8 1 ∷ numeral w8 4 ∷ text_of_signed voucher ∷ numeral w32 (length text) ∷ text ∷ [])
    (only_numeral w8 1, (only_numeral w8 4, (signed_only, (only_numeral w32 (length text), (only, tt)))))

-- ---- hellos

only_leaf : (l : HelloLeaf) → OnlyBytes l.id → OnlyBytes (hello_leaf.text l)
unfolding hello_leaf number bytes_of
only_leaf l id = only_joined (numeral w16 l.writer ∷ l.id ∷ []) (only_numeral w16 l.writer, (id, tt))

only_nodes : (ns : List ℕ) → OnlyBytes (flat_map node_number.text ns)
unfolding number
only_nodes ns = only_flat (numeral w16) ns (λ n on. only_numeral w16 n)

pub only_hello : (h : Hello) → OnlyBytes h.roster → ((l : HelloLeaf) → IsIn l h.leaves → OnlyBytes l.id) → ((w : List ℕ) → IsIn w h.wanted → OnlyBytes w) → OnlyBytes (text_of_hello h)
unfolding hello number bytes_of list_of
only_hello h roster leaves wanted = only_joined
    (numeral w8 1 ∷ numeral w8 3 ∷ numeral w16 h.node ∷ h.roster ∷ numeral w16 (length h.convicted) ∷ flat_map node_number.text h.convicted ∷ numeral w16 (length h.leaves) ∷
    flat_map hello_leaf.text h.leaves ∷ numeral w16 (length h.wanted) ∷ flat_map digest.text h.wanted ∷ []) (
      only_numeral w8 1,
      (
        only_numeral w8 3,
        (
          only_numeral w16 h.node,
          (
            roster,
            (
              only_numeral w16 (length h.convicted),
              (
                only_nodes h.convicted,
                (
                  only_numeral w16 (length h.leaves),
                  (only_flat hello_leaf.text h.leaves (λ l on. only_leaf l (leaves l on)), (only_numeral w16 (length h.wanted), (only_digests h.wanted wanted, tt))),
                ),
              ),
            ),
          ),
        ),
      ),
    )

-- ---- checkpoints

pub only_checkpoint : (c : Checkpoint) → OnlyBytes c.roster → ((l : HelloLeaf) → IsIn l c.leaves → OnlyBytes l.id) → OnlyBytes (text_of_checkpoint c)
unfolding checkpoint number bytes_of list_of
only_checkpoint c roster leaves = only_joined (numeral w8 1 ∷ numeral w8 6 ∷ c.roster ∷ numeral w16 (length c.leaves) ∷ flat_map hello_leaf.text c.leaves ∷ [])
    (only_numeral w8 1, (only_numeral w8 6, (roster, (only_numeral w16 (length c.leaves), (only_flat hello_leaf.text c.leaves (λ l on. only_leaf l (leaves l on)), tt)))))

-- ---- frames

pub only_frame : (f : Frame) → f.tag ≤ 4 → OnlyBytes f.payload → OnlyBytes (text_of_frame f)
only_frame f low payload = (omega (arith, low), only_both (numeral w32 (length f.payload)) f.payload (only_numeral w32 (length f.payload)) payload)
