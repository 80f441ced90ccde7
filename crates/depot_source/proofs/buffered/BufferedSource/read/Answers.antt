use Rattle.std.proofs.Common.{rules, ◌≡◌, ◌-◌, ◌++◌, ◌∙◌, true, false, List, ℕ, length, take, drop, sym, ap, arith}
use Rattle.depot_source.proofs.AheadLaws.{ahead_more, given_fits, given_gives, so_short}
use Rattle.depot_source.proofs.buffered.BufferedSource.read.Goals as goal

pub returns-in_err-fill-clause-end : goal.returns-in_err-fill-clause-end
returns-in_err-fill-clause-end g c = λ told over. (let wrong : false ≡ true = sym c.fill.ensures.over ∙ over in absurd cc)

pub invariant_of-self-2 : goal.invariant_of-self-2
invariant_of-self-2 g c =
    let at = c.fill.new.self.at in
    let piece = c.fill.new.self.piece in
    record { ahead = rw c.as_slice.ensures (ahead_more (g.I.Source.given c.fill.new.self.inner) piece at (length (take c.min.result (take (length piece - at) (drop at piece)))) c.fill.new.self.ahead (given_fits (g.I.Source.given c.fill.new.self.inner) piece at c.min.result c.fill.new.self.ahead)) }

pub returns-clause-reads : goal.returns-clause-reads
returns-clause-reads g c =
    let at = c.fill.new.self.at in
    let whole = c.fill.new.self.piece in
    rw c.as_slice.ensures (record {
      piece = take c.min.result (take (length whole - at) (drop at whole));
      given = given_gives (g.I.Source.given c.fill.new.self.inner) whole at c.min.result c.fill.new.self.ahead ∙ ap (λ (x : List ℕ). x ++ take c.min.result (take (length whole - at) (drop at whole))) c.in_ok-fill.ensures.given;
      added = search rules;
      short = omega (arith, so_short c.min.result (take (length whole - at) (drop at whole)), c.min.ensures);
      ends = search rules;
    })
