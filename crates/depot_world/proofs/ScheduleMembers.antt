-- The members of a schedule: their numbers are in range and distinct, and they are at most 256.
use Rattle.std.proofs.Common.{◌≡◌, ℕ, ◌+◌, ◌<◌, ◌≤◌, Bool, true, false, not, ◌&&◌, ◌||◌, eqb, ltb, cond, List, [], ◌∷◌, ◌++◌, length, map, sym, ap, subst, ◌∙◌, inl, inr, arith, length-append}
use Rattle.std.specs.Prelude.{filter}
use Rattle.std.proofs.lemmas.Bool.{and_parts, not-true}
use Rattle.std.proofs.lemmas.Bool.Decides.{Decides-eqb, nat_tests}
use Rattle.depot_model.specs.lists.Items.{AreDistinct}
use Rattle.depot_model.specs.lists.Lists.{IsIn}
use Rattle.depot_model.proofs.lists.Members.{all_at, all_from, any_from, in_left, in_last, in_map, from_map, from_filter}
use Rattle.depot_schedule.specs.declared.member.Member.{Member}
use Rattle.depot_schedule.specs.declared.schedule.Schedule.{Schedule}
use Rattle.depot_schedule.specs.Schedules.{FitMembers, IsSchedule, has_correct, may_join, with_member, before_members, count_correct}
use Rattle.depot_schedule.specs.EventWords.{is_declared}

abbrev pub nodes_of : List Member → List ℕ
nodes_of ms = map (λ (m : Member). m.node) ms

-- Members after others: each number is in range and none of another member, and all together they are at most 256.
pub record AreMembersBehind (front ms : List Member) : Type 0 where
  pub low : (m : Member) → IsIn m ms → 1 ≤ m.node
  pub high : (m : Member) → IsIn m ms → m.node ≤ 65535
  pub apart : (x y : Member) → IsIn x front → IsIn y ms → x.node ≡ y.node → ⊥
  pub distinct : AreDistinct (nodes_of ms)
  pub few : 0 < length ms → length front + length ms ≤ 256

not_declared : (front : List Member) (x : Member) (node : ℕ) → is_declared front node ≡ false → IsIn x front → x.node ≡ node → ⊥
not_declared front x node none on same =
    let found : is_declared front node ≡ true = any_from (λ (m : Member). eqb m.node node) x front on ((Decides-eqb x.node node).1 same) in
    let yes_no : true ≡ false = sym found ∙ none in cc

record MayJoin (front : List Member) (m : Member) : Type 0 where
  pub new : is_declared front m.node ≡ false
  pub few : length front < 256

may_join_is : (s : Schedule) (m : Member) → may_join s m ≡ true → MayJoin s.members m
may_join_is s m e =
    let p = and_parts (not (is_declared s.members m.node) && (not m.correct || ltb (count_correct s.members) 32)) (ltb (length s.members) 256) e in
    let q = and_parts (not (is_declared s.members m.node)) _ p.0 in
    record { new = not-true (is_declared s.members m.node) q.0; few = grind (arith, nat_tests, p.1) }

members_behind : (s : Schedule) (ms : List Member) → FitMembers s ms → AreMembersBehind s.members ms
members_behind s [] fit = record { low = λ m never. absurd never; high = λ m never. absurd never; apart = λ x y on never same. never; distinct = tt; few = λ some. absurd (omega (arith, some)) }
members_behind s (m ∷ ms) fit =
    let join = may_join_is s m fit.0.2 in
    let rest = members_behind (with_member s m) ms fit.1 in
    record {
      low = λ x on. elim on [ inl here ↦ subst (λ (y : Member). 1 ≤ y.node) here fit.0.0 | inr there ↦ rest.low x there ];
      high = λ x on. elim on [ inl here ↦ subst (λ (y : Member). y.node ≤ 65535) here fit.0.1 | inr there ↦ rest.high x there ];
      apart = λ x y x_on y_on same. elim y_on [
        | inl here ↦ not_declared s.members x m.node join.new x_on (same ∙ ap (λ (z : Member). z.node) (sym here))
        | inr there ↦ rest.apart x y (in_left x s.members (m ∷ []) x_on) there same
      ];
      distinct = (
        all_from (λ (n : ℕ). n ≡ m.node → ⊥) (nodes_of ms) (λ n on same.
            let y = from_map (λ (z : Member). z.node) n ms on in
            rest.apart m y.0 (in_last s.members m) y.1.0 (sym (y.1.1 ∙ same))),
        rest.distinct,
      );
      few = λ some. room ms rest.few join.few;
    } where
      room : (ms : List Member) → (0 < length ms → length (s.members ++ m ∷ []) + length ms ≤ 256) → length s.members < 256 → length s.members + length (m ∷ ms) ≤ 256
      room [] rest few = omega (arith, few)
      room (x ∷ xs) rest few = omega (arith, rest (omega arith), length-append s.members (m ∷ []))

-- the members of a schedule
pub members_are : (s : Schedule) → IsSchedule s → AreMembersBehind [] s.members
members_are s is = members_behind (before_members s) s.members is.members

-- there is one at least
pub some_member : (s : Schedule) → IsSchedule s → 0 < length s.members
some_member s is = some s.members is.some where
  some : (ms : List Member) → has_correct ms ≡ true → 0 < length ms
  some [] e = absurd cc
  some (m ∷ ms) e = omega arith

-- those that pass a test are distinct too
pub distinct_filter : (test : Member → Bool) (ms : List Member) → AreDistinct (nodes_of ms) → AreDistinct (nodes_of (filter test ms))
distinct_filter test [] distinct = tt
distinct_filter test (m ∷ ms) distinct = choice (test m) (distinct_filter test ms distinct.1) where
  choice : (b : Bool) → AreDistinct (nodes_of (filter test ms)) → AreDistinct (nodes_of (cond b (m ∷ filter test ms) (filter test ms)))
  choice true rest = (
    all_from (λ (n : ℕ). n ≡ m.node → ⊥) (nodes_of (filter test ms)) (λ n on same.
        let y = from_map (λ (z : Member). z.node) n (filter test ms) on in
        all_at (λ (k : ℕ). k ≡ m.node → ⊥) (nodes_of ms) n distinct.0 (subst (λ (k : ℕ). IsIn k (nodes_of ms)) y.1.1 (in_map (λ (z : Member). z.node) y.0 ms (from_filter test y.0 ms y.1.0).0)) same),
    rest,
  )
  choice false rest = rest
