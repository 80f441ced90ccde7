-- What a node writes itself is made of bytes: its updates, its vouchers and its hellos.
use Rattle.std.proofs.Common.{ℕ, suc, not, List, [], ◌∷◌, Option, Some, None, length, map, refl, subst, inl, inr}
use Rattle.std.specs.List.{AllByRecursion, flat_map}
use Rattle.std.specs.Option.{option_map_or}
use Rattle.std.specs.Prelude.{filter}
use Rattle.sha2.specs.Sha256.{sha256}
use Rattle.depot_base.specs.Zeros.{zeros}
use Rattle.depot_base.specs.declared.update.Update.{Update}
use Rattle.depot_base.specs.declared.update.Dep.{Dep}
use Rattle.depot_base.specs.Writes.{value_in, value_in_change}
use Rattle.depot_base.specs.declared.write.Change.{Change}
use Rattle.depot_base.specs.declared.write.Wrote.TheVariants.{Put, Gone}
use Rattle.depot_base.specs.declared.record.Record.{Record}
use Rattle.depot_base.specs.declared.statement.Statement.{Statement}
use Rattle.depot_base.specs.declared.statement.Statement.TheVariants as statement
use Rattle.depot_model.specs.declared.hello.HelloLeaf.{HelloLeaf}
use Rattle.depot_model.specs.checks.Checks.{Setting}
use Rattle.depot_model.specs.texts.Contents.{NamedValue, values_named}
use Rattle.depot_model.specs.exchange.Hello.{hello_of, text_of_hello, lacking, named_leaf}
use Rattle.depot_model.specs.updates.History.{history_hash, history_text, leaves_of, by_id}
use Rattle.depot_model.specs.journals.Journal.{accepted, own, last_own, last_own_behind, holds}
use Rattle.depot_model.specs.lists.Lists.{IsIn}
use Rattle.depot_model.specs.checks.Own.{next_own, next_entries, entry_of, write_of, values_of}
use Rattle.depot_model.specs.texts.Texts.{text_of_update, text_of_roster, hash_of_roster, id_of_update}
use Rattle.depot_model.specs.checks.Vouching.{rising, groups_of, numbered, new_vouchers, records_of}
use Rattle.depot_base.proofs.GeneralLaws.{all_both}
use Rattle.depot_model.proofs.lists.Members.{all_at, from_map, from_filter, from_take}
use Rattle.depot_laws.proofs.lists.Groups.{from_groups, from_rising}
use Rattle.depot_laws.proofs.lists.Splits.{given_by}
use Rattle.depot_laws.proofs.of_worlds.Worlds.{giver_in}
use Rattle.depot_world.proofs.of_bytes.OnlyBytes.{OnlyBytes, only_sha256, only_zeros}
use Rattle.depot_world.proofs.of_bytes.ByteTexts.{only_id, only_update, only_voucher, only_hello, AreByteNames, IsByteWrite, hashes_in_update}
use Rattle.depot_world.proofs.of_bytes.ByteJournals.{AllHold, accepted_holds}

-- ---- updates

only_last_own : (h : List ℕ) (ss : List Statement) → OnlyBytes h → OnlyBytes (last_own_behind h ss)
only_last_own h [] only = only
only_last_own h (statement.Update u ∷ ss) only = only_last_own (id_of_update u) ss (only_id u)
only_last_own h (statement.Voucher v ∷ ss) only = only_last_own h ss only

-- the entries that name some updates
pub only_entries : (us : List Update) (d : Dep) → IsIn d (map entry_of us) → OnlyBytes d.id
only_entries us d on = let t = from_map entry_of d us on in subst (λ (x : Dep). OnlyBytes x.id) t.1.1 (only_id t.0)

pub only_history : (us : List Update) → OnlyBytes (history_hash us)
unfolding history_hash
only_history us = only_sha256 (history_text us)

-- what changes bring is bytes: their keys and their values
abbrev pub IsByteChange : Change → Type 0
IsByteChange c = OnlyBytes c.key × AllByRecursion OnlyBytes (value_in_change c)

pub only_change_writes : (cs : List Change) → AllByRecursion IsByteChange cs → AllByRecursion IsByteWrite (map write_of cs)
only_change_writes [] each = tt
only_change_writes (c ∷ cs) each = ((each.0.0, by_value c.value), only_change_writes cs each.1) where
  by_value : (o : Option (List ℕ)) → AreByteNames (value_in (option_map_or (λ v. Put (sha256 v) (length v)) o Gone))
  by_value None = tt
  by_value (Some v) = (only_sha256 v, tt)

pub only_change_values : (cs : List Change) → AllByRecursion IsByteChange cs → AllByRecursion OnlyBytes (values_of cs)
only_change_values [] each = tt
only_change_values (c ∷ cs) each = all_both OnlyBytes (value_in_change c) (values_of cs) each.0.1 (only_change_values cs each.1)

pub only_next_own : (me : ℕ) (J : List Record) (changes : List Change) → AllByRecursion IsByteChange changes → OnlyBytes (text_of_update (next_own me J changes))
unfolding next_own
only_next_own me J changes only = only_update (next_own me J changes) (record {
  prev = only_last_own zeros (own J) (only_zeros 32);
  writes = only_change_writes changes only;
  ids = only_entries (next_entries me (accepted J) (last_own J));
  history = only_history (accepted J);
})

-- ---- vouchers

only_numbered : (me n : ℕ) (gs : List (List (List ℕ))) → ((g : List (List ℕ)) → IsIn g gs → (h : List ℕ) → IsIn h g → OnlyBytes h) → AllHold (records_of (numbered me n gs))
only_numbered me n [] each = tt
only_numbered me n (g ∷ gs) each =
    (only_voucher (record { node = me; seq = n; ids = rising g }) (λ h on. each g (inl refl) h (from_rising h g on)), only_numbered me (suc n) gs (λ k on. each k (inr on)))

pub only_new_vouchers : (me : ℕ) (J : List Record) (ids : List (List ℕ)) → ((h : List ℕ) → IsIn h ids → OnlyBytes h) → AllHold (records_of (new_vouchers me J ids))
unfolding new_vouchers
only_new_vouchers me J ids each = only_numbered me (length (own J)) (groups_of 256 ids) (λ g on h h_on. each h (from_groups 256 h ids (record { group = g; on = on; member = h_on })))

-- ---- hellos

named_hash : (J : List Record) (n : NamedValue) → AllHold J → IsIn n (flat_map values_named (accepted J)) → OnlyBytes n.hash
named_hash J n hold on =
    let g = given_by values_named n (accepted J) on in
    all_at (λ (x : NamedValue). OnlyBytes x.hash) (values_named g.by) n (hashes_in_update g.by (accepted_holds J g.by hold (giver_in values_named n (accepted J) g))) g.given

only_lacking : (J : List Record) (h : List ℕ) → AllHold J → IsIn h (lacking J) → OnlyBytes h
unfolding lacking
only_lacking J h hold on =
    let without = λ (n : NamedValue). not (holds J n.hash n.size) in
    let m = from_map (λ (n : NamedValue). n.hash) h (filter without (flat_map values_named (accepted J))) (from_rising h _ on) in
    let f = from_filter without m.0 (flat_map values_named (accepted J)) m.1.0 in
    subst OnlyBytes m.1.1 (named_hash J m.0 hold f.0)

only_named_leaves : (us : List Update) (l : HelloLeaf) → IsIn l (map named_leaf us) → OnlyBytes l.id
only_named_leaves us l on = let t = from_map named_leaf l us on in subst (λ (x : HelloLeaf). OnlyBytes x.id) t.1.1 (only_id t.0)

only_roster_hash : (here : Setting) → OnlyBytes (hash_of_roster here.listed)
unfolding hash_of_roster
only_roster_hash here = only_sha256 (text_of_roster here.listed)

pub only_own_hello : (here : Setting) (J : List Record) → AllHold J → OnlyBytes (text_of_hello (hello_of here J))
unfolding hello_of
only_own_hello here J hold = only_hello (hello_of here J) (only_roster_hash here) (only_named_leaves (by_id (leaves_of (accepted J)))) (λ w on. only_lacking J w hold (from_take 1024 w (lacking J) on))
