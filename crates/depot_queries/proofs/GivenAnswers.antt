-- What the put of receipts keeps true, and what no refusal of them is.
use Rattle.std.proofs.Common.{◌≡◌, ◌≢◌, ◌↔◌, ◌∙◌, ℕ, List, [], ◌∷◌, ◌++◌, map, take, drop, None, Result, Ok, Err, IsErrOf, IsErrAnd, refl, sym, ap, subst, inl, inr, append_assoc}
use Rattle.std.proofs.lemmas.List.{take-append-drop}
use Rattle.depot_base.specs.declared.record.Record.{Record}
use Rattle.depot_base.specs.declared.write.Change.{Change}
use Rattle.depot_model.specs.checks.Putting.{Puts, IsPutCall}
use Rattle.depot_model.specs.declared.node_state.NodeState.{Ghosts}
use Rattle.depot_model.proofs.of_journals.JournalCallLaws.{renamed_call}
use Rattle.depot_model.specs.declared.put_answers.PutDone.{PutDone}
use Rattle.depot_model.specs.declared.put_answers.PutError.{PutError}
use Rattle.depot_model.specs.declared.put_answers.PutError.TheVariants as put
use Rattle.depot_model.specs.checks.Checks.{Setting}
use Rattle.depot_model.specs.checks.Limits.{IsCutShort}
use Rattle.depot_model.specs.lists.Lists.{IsIn}
use Rattle.depot_model.specs.checks.Own.{next_own, write_of, values_of}
use Rattle.depot_model.specs.worlds.Receipts.{receipt_key, AreReceiptsTrue, no_receipt, receipt_changes}
use Rattle.depot_laws.proofs.of_audits.TrueReceipts.{front_is_true, receipt_put_is_true}
use Rattle.depot_queries.specs.Giving.{AreReceiptsDue, IsReceiptCall, as_give, receipt_records}
use Rattle.depot_queries.specs.declared.give_error.GiveError.{GiveError}
use Rattle.depot_queries.specs.declared.give_error.GiveError.TheVariants as give

-- ---- true receipts

key_for : (ids : List (List ℕ)) (key : List ℕ) → IsIn key (map (λ w. w.key) (map write_of (receipt_changes ids))) → (h : List ℕ) × (IsIn h ids × (key ≡ receipt_key h))
key_for [] key never = absurd never
key_for (h ∷ ids) key (inl here) = (h, (inl refl, sym here))
key_for (h ∷ ids) key (inr there) = let k = key_for ids key there in (k.0, (inr k.1.0, k.1.1))

put_is_true : (here : Setting) (J : List Record) (ids : List (List ℕ)) → no_receipt J ids ≡ None → AreReceiptsTrue J → AreReceiptsTrue (J ++ receipt_records here J ids)
unfolding next_own
put_is_true here J ids due genuine = receipt_put_is_true J (next_own here.me J (receipt_changes ids)) (values_of (receipt_changes ids)) ids due (λ key on. key_for ids key on) genuine

cut_is_true : (J new then : List Record) → IsCutShort J new then → AreReceiptsTrue (J ++ new) → AreReceiptsTrue then
cut_is_true J new then cut genuine =
    subst (λ (K : List Record). AreReceiptsTrue K) (sym cut.grown) (front_is_true (J ++ take cut.count new) (drop cut.count new)
    (subst (λ (K : List Record). AreReceiptsTrue K) (sym (append_assoc J (take cut.count new) (drop cut.count new) ∙ ap (λ (K : List Record). J ++ K) (take-append-drop cut.count new))) genuine))

-- receipts that are given are true
pub given_are_true : (here : Setting) (J : List Record) (ids : List (List ℕ)) (changes : List Change) (answer : Result PutDone PutError) (then : List Record) → AreReceiptsDue J ids (Ok changes) → Puts here J changes answer then → AreReceiptsTrue J → AreReceiptsTrue then
given_are_true here J ids changes answer then due puts genuine = by_answer answer (subst (λ (cs : List Change). Puts here J cs answer then) due.1 puts) where
  same : then ≡ J → AreReceiptsTrue then
  same is = subst (λ (K : List Record). AreReceiptsTrue K) (sym is) genuine

  by_answer : (answer : Result PutDone PutError) → Puts here J (receipt_changes ids) answer then → AreReceiptsTrue then
  by_answer (Ok done) p = subst (λ (K : List Record). AreReceiptsTrue K) (sym p.1.1) (put_is_true here J ids due.0 genuine)
  by_answer (Err put.Memory) p = same p
  by_answer (Err put.Disk) p = cut_is_true J (receipt_records here J ids) then p.1 (put_is_true here J ids due.0 genuine)
  by_answer (Err put.Stopped) p = same p
  by_answer (Err (put.Spent n)) p = same p.1
  by_answer (Err (put.Tips n)) p = same p.1
  by_answer (Err (put.Collides h)) p = same p.1
  by_answer (Err (put.Full what)) p = same p.1

-- ---- refusals

-- what speaks against receipts is neither a fault nor a node that is stopped
pub no_fault : (J : List Record) (ids : List (List ℕ)) (e : GiveError) → AreReceiptsDue J ids (Err e) → (e ≡ give.Disk → ⊥) × (e ≡ give.Stopped → ⊥)
no_fault J ids e due = ((λ is. let d : AreReceiptsDue J ids (Err give.Disk) = subst (λ (x : GiveError). AreReceiptsDue J ids (Err x)) is due in d), (λ is. let d : AreReceiptsDue J ids (Err give.Stopped) = subst (λ (x : GiveError). AreReceiptsDue J ids (Err x)) is due in d))

-- ---- the call

-- the answers say the same of a stopped node, of the disk, and of what is appended
record IsSaidAs (answer : Result PutDone PutError) (result : Result PutDone GiveError) : Type 0 where
  stopped : IsErrOf answer put.Stopped ↔ IsErrOf result give.Stopped
  failed : IsErrOf answer put.Disk ↔ IsErrOf result give.Disk
  nothing : IsErrAnd result (λ e. e ≢ give.Disk) → IsErrAnd answer (λ e. e ≢ put.Disk)

said_as : (answer : Result PutDone PutError) → IsSaidAs answer (as_give answer)
said_as (Ok done) = record { stopped = ((λ is. absurd cc), (λ is. absurd cc)); failed = ((λ is. absurd cc), (λ is. absurd cc)); nothing = λ never. never }
said_as (Err put.Memory) = record { stopped = ((λ is. absurd cc), (λ is. absurd cc)); failed = ((λ is. absurd cc), (λ is. absurd cc)); nothing = λ _ is. absurd cc }
said_as (Err put.Disk) = record { stopped = ((λ is. absurd cc), (λ is. absurd cc)); failed = ((λ _. refl), (λ _. refl)); nothing = λ differs. absurd (differs refl) }
said_as (Err put.Stopped) = record { stopped = ((λ _. refl), (λ _. refl)); failed = ((λ is. absurd cc), (λ is. absurd cc)); nothing = λ _ is. absurd cc }
said_as (Err (put.Spent n)) = record { stopped = ((λ is. absurd cc), (λ is. absurd cc)); failed = ((λ is. absurd cc), (λ is. absurd cc)); nothing = λ _ is. absurd cc }
said_as (Err (put.Tips n)) = record { stopped = ((λ is. absurd cc), (λ is. absurd cc)); failed = ((λ is. absurd cc), (λ is. absurd cc)); nothing = λ _ is. absurd cc }
said_as (Err (put.Collides h)) = record { stopped = ((λ is. absurd cc), (λ is. absurd cc)); failed = ((λ is. absurd cc), (λ is. absurd cc)); nothing = λ _ is. absurd cc }
said_as (Err (put.Full what)) = record { stopped = ((λ is. absurd cc), (λ is. absurd cc)); failed = ((λ is. absurd cc), (λ is. absurd cc)); nothing = λ _ is. absurd cc }

-- a put of these receipts, whose answer is given so, is a call that gives them
pub as_put_call : {N : Type 0} (g : Ghosts N) (old new : N) (ids : List (List ℕ)) (answer : Result PutDone PutError) (result : Result PutDone GiveError) → result ≡ as_give answer → IsPutCall g old new (receipt_changes ids) answer → IsReceiptCall g old new ids result
as_put_call g old new ids answer result is call =
    let so = said_as answer in
    subst (λ (r : Result PutDone GiveError). IsReceiptCall g old new ids r) (sym is) (record { same = call.same; journal = renamed_call so.stopped so.failed so.nothing call.journal })
