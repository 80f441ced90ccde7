use Rattle.std.proofs.Common.{◌≡◌, ◌++◌, List, [], ◌∷◌, ℕ, Bool, length, take, None, sym, ap, subst, ◌∙◌, arith, length-append}
use Rattle.std.specs.Map.Iter.{deref_pair}
use Rattle.std.proofs.lemmas.Map.Iter.{rest_more, rest_all}
use Rattle.depot_base.specs.Format.{last_of}
use Rattle.depot_base.specs.declared.limits.TheConstants.{MOST_WANTED}
use Rattle.depot_base.specs.declared.update.NamedValue.{NamedValue}
use Rattle.depot_readings.specs.Lacking.{is_next, hashes_behind}
use Rattle.depot_readings.proofs.HashesOfNames.{all_hashes, first_hashes, hash_found, hash_left, hashes_are}
use Rattle.depot_readings.proofs.named.NamedValues.first_hashes.Goals as goal

-- what a test said of the hashes so far holds of these
told : (found seen : List (List ℕ)) (e : NamedValue × Bool) (tells : Bool) → seen ≡ found → tells ≡ is_next seen e → is_next found e ≡ tells
told found seen e tells same is = ap (λ (hs : List (List ℕ)). is_next hs e) (sym same) ∙ sym is

-- a name that brings no hash
pub loop-name-preserved-then-not-is_next : goal.loop-name-preserved-then-not-is_next
loop-name-preserved-then-not-is_next c =
    let e = deref_pair (c.in-Some.name, c.in-Some.mark) in
    let next = rest_more deref_pair c.loop-name.name-iterator c.next.new.self c.next.result (c.in-Some.name, c.in-Some.mark) c.in-Some.is c.next.ensures.steps in
    let left = told c.loop-name.found c.as_slice.result.now e c.is_next.result c.as_slice.ensures c.is_next.ensures ∙ c.if-not-is_next.true in
    record {
      so_far = hash_left c.loop-name.found e c.loop-name.name-iterator c.next.new.self _ next left c.loop-name.invariant.so_far;
      few = c.loop-name.invariant.few;
    }

-- enough were found
pub returns-then-as_slice : goal.returns-then-as_slice
returns-then-as_slice c = λ ns are.
    first_hashes c.loop-name.found _ c.loop-name.name-iterator MOST_WANTED (ap length (sym c.as_slice-in-loop-name.ensures) ∙ c.if-as_slice.true) c.loop-name.invariant.so_far ∙ ap (take MOST_WANTED) (hashes_are c.args.self.now ns c.into_iter-name-iterator.ensures.into_iter_gives.5 are)

-- one more
pub loop-name-preserved : goal.loop-name-preserved
loop-name-preserved c =
    let e = deref_pair (c.in-Some.name, c.in-Some.mark) in
    let next = rest_more deref_pair c.loop-name.name-iterator c.next.new.self c.next.result (c.in-Some.name, c.in-Some.mark) c.in-Some.is c.next.ensures.steps in
    let one = told c.loop-name.found c.as_slice.result.now e c.is_next.result c.as_slice.ensures c.is_next.ensures ∙ c.if-not-is_next.false in
    record {
      so_far = subst (λ (hs : List (List ℕ)). hs ++ hashes_behind (last_of hs) c.next.new.self ≡ hashes_behind None c.args.self.now.marks.entries) (sym c.in_ok-push.ensures.ok)
          (hash_found c.loop-name.found e c.loop-name.name-iterator c.next.new.self _ next one c.loop-name.invariant.so_far);
      few = omega (arith, c.loop-name.invariant.few, c.if-as_slice.false, ap length c.as_slice-in-loop-name.ensures, ap length c.in_ok-push.ensures.ok, length-append c.loop-name.found (e.0.hash ∷ []));
    }

-- all were scanned
pub returns : goal.returns
returns c = λ ns are.
    let none = rest_all deref_pair c.loop-name.name-iterator c.next.new.self c.next.result c.in-None.is c.next.ensures.steps in
    all_hashes c.loop-name.found _ c.loop-name.name-iterator MOST_WANTED none c.loop-name.invariant.few c.loop-name.invariant.so_far ∙ ap (take MOST_WANTED) (hashes_are c.args.self.now ns c.into_iter-name-iterator.ensures.into_iter_gives.5 are)
