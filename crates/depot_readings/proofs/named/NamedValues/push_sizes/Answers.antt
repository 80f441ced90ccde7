use Rattle.std.proofs.Common.{◌≡◌, ◌++◌, ◌<◌, ℕ, List, sym, subst, arith, inl, inr}
use Rattle.std.specs.Map.Iter.{deref_pair}
use Rattle.std.proofs.lemmas.Map.Iter.{rest_more, rest_all}
use Rattle.depot_model.specs.lists.Lists.{IsIn}
use Rattle.depot_model.proofs.lists.Members.{in_left, in_right, in_parts}
use Rattle.depot_readings.proofs.PairsInRange.{names_between, sizes_in, size_found, size_left, all_sizes, runs_forward, named_between, between_named}
use Rattle.depot_readings.proofs.named.NamedValues.push_sizes.Goals as goal

pub range-name-items-requires : goal.range-name-items-requires
range-name-items-requires c = runs_forward c.args.hash.now _ _ c.new.ensures.start c.new.ensures.end

-- a name that only has memory reserved
pub loop-name-preserved-then-not-mark : goal.loop-name-preserved-then-not-mark
loop-name-preserved-then-not-mark c =
    let e = deref_pair (c.in-Some.name, c.in-Some.mark) in
    let next = rest_more deref_pair c.loop-name.name-iterator c.next.new.self c.next.result (c.in-Some.name, c.in-Some.mark) c.in-Some.is c.next.ensures.steps in
    size_left c.loop-name.found.items e c.loop-name.name-iterator c.next.new.self _ next c.if-not-mark.true c.loop-name.invariant

-- one more
pub loop-name-preserved : goal.loop-name-preserved
loop-name-preserved c =
    let e = deref_pair (c.in-Some.name, c.in-Some.mark) in
    let next = rest_more deref_pair c.loop-name.name-iterator c.next.new.self c.next.result (c.in-Some.name, c.in-Some.mark) c.in-Some.is c.next.ensures.steps in
    subst (λ (ns : List ℕ). ns ++ sizes_in c.next.new.self ≡ c.args.found.now.items ++ sizes_in (names_between c.args.hash.now c.args.self.now.marks.entries)) (sym c.in_ok-push.ensures.items)
    (size_found c.loop-name.found.items e c.loop-name.name-iterator c.next.new.self _ next c.if-not-mark.false c.loop-name.invariant)

-- all were scanned
pub returns-clause-kept : goal.returns-clause-kept
returns-clause-kept c = λ size on.
    let none = rest_all deref_pair c.loop-name.name-iterator c.next.new.self c.next.result c.in-None.is c.next.ensures.steps in
    let are = all_sizes c.loop-name.found.items c.args.found.now.items c.loop-name.name-iterator (names_between c.args.hash.now c.args.self.now.marks.entries) none c.loop-name.invariant in
    subst (λ (ns : List ℕ). IsIn size ns) (sym are) (in_left size c.args.found.now.items (sizes_in (names_between c.args.hash.now c.args.self.now.marks.entries)) on)

pub returns-clause-all : goal.returns-clause-all
returns-clause-all c = λ size low named.
    let small : size < 4294967296 = low in
    let none = rest_all deref_pair c.loop-name.name-iterator c.next.new.self c.next.result c.in-None.is c.next.ensures.steps in
    let are = all_sizes c.loop-name.found.items c.args.found.now.items c.loop-name.name-iterator (names_between c.args.hash.now c.args.self.now.marks.entries) none c.loop-name.invariant in
    subst (λ (ns : List ℕ). IsIn size ns) (sym are) (in_right size c.args.found.now.items (sizes_in (names_between c.args.hash.now c.args.self.now.marks.entries)) (named_between c.args.self.now c.args.hash.now size (omega (arith, small)) named))

pub returns-clause-only : goal.returns-clause-only
returns-clause-only c = λ size on.
    let none = rest_all deref_pair c.loop-name.name-iterator c.next.new.self c.next.result c.in-None.is c.next.ensures.steps in
    let are = all_sizes c.loop-name.found.items c.args.found.now.items c.loop-name.name-iterator (names_between c.args.hash.now c.args.self.now.marks.entries) none c.loop-name.invariant in
    elim (in_parts size c.args.found.now.items (sizes_in (names_between c.args.hash.now c.args.self.now.marks.entries)) (subst (λ (ns : List ℕ). IsIn size ns) are on)) [
      | inl there ↦ inl there
      | inr named ↦ inr (between_named c.args.self.now c.args.hash.now size c.range-name-items.ensures.ordered named)
    ]
