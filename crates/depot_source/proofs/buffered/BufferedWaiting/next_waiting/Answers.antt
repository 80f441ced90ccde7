use Rattle.std.proofs.Common.{◌+◌, ◌-◌, ◌∙◌, List, ℕ, length, take, drop, sym, subst}
use Rattle.depot_source.specs.Ahead.{BeginsWithMessage, IsReadAhead}
use Rattle.depot_source.proofs.AheadLaws.{ahead_more, both_of, taken_fits, taken_gives}
use Rattle.depot_source.proofs.buffered.BufferedWaiting.next_waiting.Given.{Over}
use Rattle.depot_source.proofs.buffered.BufferedWaiting.next_waiting.Goals as goal
use Rattle.depot_source.proofs.buffered.BufferedWaiting.next_waiting.Goals.{After-as_slice-2}

begins : (g : Over) (c : After-as_slice-2 g) → BeginsWithMessage (take (length c.args.self.now.piece - c.args.self.now.at) (drop c.args.self.now.at c.args.self.now.piece)) c.as_slice-2.result.now
begins g c =
    let copy = sym (c.as_slice-2.ensures ∙ c.in_ok-body.ensures) in
    subst (BeginsWithMessage _) copy (subst (λ (x : List ℕ). BeginsWithMessage (take (length x - c.args.self.now.at) (drop c.args.self.now.at x)) c.in-Some.body.now) c.as_slice.ensures c.in-Some.ensures)

ahead_so : (g : Over) (c : After-as_slice-2 g) → IsReadAhead (g.I.Source.given c.args.self.now.inner) c.args.self.now.piece (c.args.self.now.at + (4 + length c.as_slice-2.result.now))
ahead_so g c = ahead_more _ c.args.self.now.piece c.args.self.now.at (4 + length c.as_slice-2.result.now) c.args.self.now.ahead (taken_fits (g.I.Source.given c.args.self.now.inner) c.args.self.now.piece c.args.self.now.at c.as_slice-2.result.now c.args.self.now.ahead (begins g c))

pub invariant_of-self : goal.invariant_of-self
invariant_of-self g c = record { ahead = ahead_so g (goal.at.invariant_of-self g c).After-as_slice-2 }

pub returns-clause-takes : goal.returns-clause-takes
returns-clause-takes g c =
    let b = begins g (goal.at.returns-clause-takes g c).After-as_slice-2 in
    record { message = b.message; is = b.is; same = b.same ∙ c.as_slice-2.ensures; given = taken_gives (g.I.Source.given c.args.self.now.inner) c.args.self.now.piece c.args.self.now.at c.as_slice-2.result.now c.args.self.now.ahead b }

pub returns-clause-whole : goal.returns-clause-whole
returns-clause-whole g c = λ told.
    let at = (goal.at.returns-clause-whole g c).After-as_slice-2 in
    both_of (g.I.Source.given c.args.self.now.inner) c.args.self.now.piece (g.I.Source.rest c.args.self.now.inner) (c.args.self.now.at + (4 + length c.as_slice-2.result.now)) (ahead_so g at) ∙ sym (both_of (g.I.Source.given c.args.self.now.inner) c.args.self.now.piece (g.I.Source.rest c.args.self.now.inner) c.args.self.now.at c.args.self.now.ahead)
