use Rattle.std.proofs.Common.{sym, ap, ◌∙◌}
use Rattle.std.specs.Str.{bytes_eq}
use Rattle.std.proofs.lemmas.Result.{err_from_is_err_and}
use Rattle.depot_laws.proofs.lists.Tests.{holds_from_not, fails_from_not}
use Rattle.depot_gossip.proofs.BundleAnswers.{not_decoded, other_is, unknown_is, heard_is}
use Rattle.depot_gossip.proofs.preparing.heard.Goals as goal

pub returns-in_err-hello : goal.returns-in_err-hello
returns-in_err-hello g c = λ answer.
    let p = err_from_is_err_and c.from_residual.result c.from_residual.ensures.1 in
    rw (p.1, p.2) (not_decoded (g.R.NodeState.stands c.args.node.now) answer c.args.text.now c.in_err-hello.field-0.0 c.in_err-hello.ensures)

pub returns-then-ne : goal.returns-then-ne
returns-then-ne g c = λ answer.
    let h = c.in_ok-hello.hello in
    let differs = fails_from_not (bytes_eq h.roster c.roster_hash.result.now) (sym c.ne.ensures ∙ c.if-ne.true) in (
      other_is (g.R.NodeState.stands c.args.node.now) answer c.args.text.now h c.in_ok-hello.ensures (ap (bytes_eq h.roster) (sym c.roster_hash.ensures) ∙ differs),
      c.roster_hash-then-ne.ensures,
    )

pub returns-then-not-has_node : goal.returns-then-not-has_node
returns-then-not-has_node g c = λ answer.
    let h = c.in_ok-hello.hello in
    let same = holds_from_not (bytes_eq h.roster c.roster_hash.result.now) (sym c.ne.ensures ∙ c.if-ne.false) in
    unknown_is (g.R.NodeState.stands c.args.node.now) answer c.args.text.now h c.in_ok-hello.ensures (ap (bytes_eq h.roster) (sym c.roster_hash.ensures) ∙ same)
    (sym c.has_node.ensures ∙ c.if-not-has_node.true)

pub returns : goal.returns
returns g c = λ answer.
    let h = c.in_ok-hello.hello in
    let same = holds_from_not (bytes_eq h.roster c.roster_hash.result.now) (sym c.ne.ensures ∙ c.if-ne.false) in
    heard_is (g.R.NodeState.stands c.args.node.now) answer c.args.text.now h c.in_ok-hello.ensures (ap (bytes_eq h.roster) (sym c.roster_hash.ensures) ∙ same)
    (sym c.has_node.ensures ∙ c.if-not-has_node.false)
