-- The crash images of a group that is appended to the file of a journal.
use Rattle.std.proofs.Common.{◌≡◌, ◌≤◌, ◌⊎◌, ℕ, ◌+◌, true, false, IsTrue, List, [], ◌∷◌, ◌++◌, append-nil, length, length-append, map, take, drop, slice_get, Some, zero, suc, ◌^◌, refl, sym, ap, subst, ◌∙◌, inl, inr, arith}
use Rattle.std.proofs.lemmas.List.{drop-map, length-map, map-append, take_all}
use Rattle.std.proofs.lemmas.List.Sums.{sum_by-cons}
use Rattle.std.proofs.lemmas.Option.{same_Some}
use Rattle.depot_base.proofs.CallLaws.{framed_long}
use Rattle.depot_base.specs.Disk.{Elapses, LeavesOnly, Only, Within}
use Rattle.depot_base.specs.File.{AreWithinLimits, IsFileOf, StandsFor, blocks, framed}
use Rattle.depot_base.specs.declared.record.Record.{Record}
use Rattle.depot_journal.proofs.Moments.{goes_on, started, weaker}
use Rattle.depot_journal.specs.WriteSteps.{IsBeforeOrAfter, StandsTo}
use Rattle.depot_laws.proofs.lists.Splits.{lawful_front}
use Rattle.depot_laws.proofs.own_updates.OwnTexts.{lawful_is_light, lawful_is_short}
use Rattle.depot_model.specs.checks.Checks.{Setting}
use Rattle.depot_model.specs.declared.node_state.NodeState.{Ghosts}
use Rattle.depot_model.specs.journals.JournalCalls.{IsStable, IsUntouched, Lasts}
use Rattle.depot_model.specs.journals.Lawful.{IsLawful}
use Rattle.depot_model.specs.journals.Replicas.{journal_of}
use Rattle.depot_model.specs.journals.Stops.{HasAll, HasFront, HasRecords}
use Rattle.depot_model.specs.texts.Records.{journal_bytes, text_of_record}
use Rattle.depot_service.proofs.NodeTraces.{one_more_text}
use Rattle.depot_session.proofs.on_disks.LeftJournals.{front_of_none}

-- ---- the limits of a lawful journal

texts_long : (J : List Record) → 1 + length (blocks (map text_of_record J)) ≡ journal_bytes J
texts_long [] = refl
texts_long (r ∷ J) = omega (arith, texts_long J, sum_by-cons (λ (q : Record). 5 + length (text_of_record q)) r J, length-append (framed (text_of_record r)) (blocks (map text_of_record J)), framed_long (text_of_record r))

pub within : (here : Setting) (J : List Record) → IsLawful here J → AreWithinLimits (map text_of_record J)
within here J l = record {
  records = omega (arith, lawful_is_short here J l, length-map J text_of_record);
  bytes = omega (arith, lawful_is_light here J l, texts_long J);
}

-- a file in which they stand has them
pub has_standing : (here : Setting) (J : List Record) (file : List ℕ) → IsLawful here J → StandsFor file (map text_of_record J) → HasRecords J file
has_standing here J file lawful stands = inr (stands, within here J lawful)

-- up to a gate
stands_at : (file : List ℕ) (bodies : List (List ℕ)) (gate : ℕ) → StandsTo file bodies gate → StandsFor file bodies
stands_at file bodies gate (closed, rest, other, parts, at) = (closed, rest, other, parts)

-- ---- a group after them

module _ (here : Setting) (J K : List Record) (lawful : IsLawful here (J ++ K)) where
  first_lawful : IsLawful here J
  first_lawful = lawful_front here J K lawful

  -- the file has all of the group or none
  pub either_of : (file : List ℕ) → IsBeforeOrAfter (map text_of_record J) (map text_of_record K) file → HasRecords J file ⊎ HasRecords (J ++ K) file
  either_of file (inl stands) = inl (has_standing here J file first_lawful stands)
  either_of file (inr stands) = inr (has_standing here (J ++ K) file lawful (subst (StandsFor file) (sym (map-append text_of_record J K)) stands))

  -- so it has a prefix of it
  pub front_of_either : (file : List ℕ) → HasRecords J file ⊎ HasRecords (J ++ K) file → HasFront J K file
  front_of_either file (inl has) = front_of_none J K file has
  front_of_either file (inr has) = record { count = length K; has = subst (λ (x : List Record). HasRecords (J ++ x) file) (sym (take_all (length K) K (omega arith))) has }

  -- and maybe more than the records before, where the disk failed
  pub all_of_either : (file : List ℕ) → HasRecords J file ⊎ HasRecords (J ++ K) file → HasAll J true file
  all_of_either file (inl has) = record { more = []; has = subst (IsFileOf file) (sym (append-nil (map text_of_record J))) has; none = λ wrong. absurd cc }
  all_of_either file (inr has) = record { more = map text_of_record K; has = subst (IsFileOf file) (map-append text_of_record J K) has; none = λ wrong. absurd cc }

-- all of them, where nothing else is left
pub only_them : (here : Setting) (J : List Record) (seen file : List ℕ) (gate : ℕ) (images : List ℕ → Type 0) → IsLawful here J → StandsTo seen (map text_of_record J) gate → Only seen images → images file → HasAll J false file
only_them here J seen file gate images lawful stands only left =
    let has : HasRecords J file = subst (HasRecords J) (sym (only file left)) (has_standing here J seen lawful (stands_at seen (map text_of_record J) gate stands)) in
    record { more = []; has = subst (IsFileOf file) (sym (append-nil (map text_of_record J))) has; none = λ runs. refl }

-- ---- the bytes of a group

-- none from a place on up to it
pub none_between : (texts : List (List ℕ)) (n : ℕ) → drop n (take n texts) ≡ []
none_between [] zero = refl
none_between [] (suc n) = refl
none_between (t ∷ texts) zero = refl
none_between (t ∷ texts) (suc n) = none_between texts n

shift : (n : ℕ) → suc n + 1 ≡ suc (n + 1)
shift n = omega arith

-- one record more of those from a place on
pub one_more_block : (texts : List (List ℕ)) (from place : ℕ) (text : List ℕ) → from ≤ place → slice_get texts place ≡ Some text → drop from (take (place + 1) texts) ≡ drop from (take place texts) ++ text ∷ []
one_more_block texts zero place text le there = one_more_text texts place text there
one_more_block [] (suc from) place text le there = absurd cc
one_more_block (t ∷ texts) (suc from) zero text le there = absurd (omega (arith, le))
one_more_block (t ∷ texts) (suc from) (suc place) text le there = ap (λ (n : ℕ). drop (suc from) (take n (t ∷ texts))) (shift place) ∙ one_more_block texts from place text (omega (arith, le)) there

-- the texts from a place on are those of the records from there on
pub drop_texts : (J : List Record) (n : ℕ) → drop n (map text_of_record J) ≡ map text_of_record (drop n J)
drop_texts J n = drop-map text_of_record n J

one_in_blocks : (texts : List (List ℕ)) (place : ℕ) (text : List ℕ) → slice_get texts place ≡ Some text → length text ≤ length (blocks texts)
one_in_blocks [] place text there = absurd cc
one_in_blocks (t ∷ texts) zero text there = omega (arith, ap length (same_Some t text there), length-append (framed t) (blocks texts), framed_long t)
one_in_blocks (t ∷ texts) (suc place) text there = omega (arith, one_in_blocks texts place text there, length-append (framed t) (blocks texts))

-- records have bytes
pub some_bytes : (texts : List (List ℕ)) → 1 ≤ length texts → 1 ≤ length (blocks texts)
some_bytes [] some = absurd (omega (arith, some))
some_bytes (t ∷ texts) some = omega arith

-- a text is shorter than a journal
pub short_text : (here : Setting) (J : List Record) (place : ℕ) (text : List ℕ) → IsLawful here J → slice_get (map text_of_record J) place ≡ Some text → length text ≤ 2 ^ 30
short_text here J place text lawful there = let l = (within here J lawful).bytes in omega (arith, l, one_in_blocks (map text_of_record J) place text there)

-- ---- a call that appends the group

module _ {M : Type 0} (g : Ghosts M) (old new : M) (here : Setting) (J K : List Record) (lawful : IsLawful here (J ++ K)) (at : g.records old ≡ J) (ran : g.stopped old ≡ false) (told : g.tells new ≡ g.tells old) (stable : IsStable (journal_of g) new) where
  untouched_not : g.stopped old ≡ true → IsUntouched (journal_of g) old new
  untouched_not is = let wrong : true ≡ false = sym is ∙ ran in absurd cc

  -- each crash image of it has the records from before, and all of the group or none
  pub group_lasts : (IsTrue (g.tells old) → LeavesOnly g.moment g.left_since old new (IsBeforeOrAfter (map text_of_record J) (map text_of_record K))) → Lasts (journal_of g) old new K
  group_lasts any = record {
    told = told;
    any_moment = λ t _. weaker g.moment g.left_since old new _ _ (any t) (λ file p. subst (λ (x : List Record). HasFront x K file) (sym at) (front_of_either here J K lawful file (either_of here J K lawful file p)));
    stable = stable;
    untouched = untouched_not;
  }

  -- each has the records from before alone
  pub group_idle : (IsTrue (g.tells old) → LeavesOnly g.moment g.left_since old new (HasRecords J)) → Lasts (journal_of g) old new []
  group_idle any = record {
    told = told;
    any_moment = λ t _. weaker g.moment g.left_since old new _ _ (any t) (λ file has. subst (λ (x : List Record). HasFront x [] file) (sym at) (front_of_none J [] file has));
    stable = stable;
    untouched = untouched_not;
  }

-- so it is where no memory was found, and nothing was written
pub unwritten : {D : Type 0} (moment : D → ℕ) (left_since : D → ℕ → List ℕ → Type 0) (old new : D) (before now : List ℕ → Type 0) (P : List ℕ → Type 0) → ((file : List ℕ) → left_since old (moment old) file → before file) → Within before now → Elapses (moment old) (moment new) (left_since old) (left_since new) now
    → ((file : List ℕ) → before file → P file) → LeavesOnly moment left_since old new P
unwritten moment left_since old new before now P only_now within time holds =
    goes_on moment left_since old old new P now (started moment left_since old P (λ file left. holds file (only_now file left))) time (λ file left. holds file (within file left))
