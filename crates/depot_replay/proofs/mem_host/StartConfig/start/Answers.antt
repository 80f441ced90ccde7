use Rattle.std.proofs.Common.{◌≡◌, List, Some, true, ap, subst, rules, ◌∙◌}
use Rattle.std.proofs.lemmas.Result.{IfOk-weaker, IfErr-weaker}
use Rattle.depot_base.specs.declared.key.RosterEntry.{RosterEntry}
use Rattle.depot_model.specs.texts.Roster.{key_of}
use Rattle.depot_node.specs.Starting.{placed}
use Rattle.depot_node.proofs.StartLaws.{lawful_file_starts}
use Rattle.depot_outside.specs.Stopping.{state_of}
use Rattle.depot_replay.specs.MemHosts.{FailsToStart, IsStartedIn, SparesLawful}
use Rattle.depot_replay.proofs.MemHostRestarts.{fails_there}
use Rattle.depot_replay.proofs.mem_host.StartConfig.start.Goals as goal

pub returns-clause-node : goal.returns-clause-node
returns-clause-node g c = IfOk-weaker c.start.result _ _ (λ n at. record {
  stands = at.stands ∙ ap (λ (r : List RosterEntry). placed g.S.Scheme.verifies c.args.self.now.me r) c.in-Ok.ensures;
  keyed = subst (λ (r : List RosterEntry). key_of r c.args.self.now.me ≡ Some (g.G.Signer.key_of c.args.self.now.signer)) c.in-Ok.ensures at.keyed;
  signs = at.signs;
  runs = at.runs;
}) c.start.ensures.node

pub returns-clause-started : goal.returns-clause-started
returns-clause-started g c = IfOk-weaker c.start.result _ _ (λ n started.
    subst (λ (r : List RosterEntry). IsStartedIn (placed g.S.Scheme.verifies c.args.self.now.me r) (state_of c.args.disk) (state_of n.store.disk) n.store.records) c.in-Ok.ensures
    (record { from = started.from (search rules); calls = λ J has. started.calls (search rules) J has })) c.start.ensures.started

pub returns-clause-failing : goal.returns-clause-failing
returns-clause-failing g c = IfErr-weaker c.start.result _ _ (λ b back disk.
    subst (λ (r : List RosterEntry). FailsToStart (placed g.S.Scheme.verifies c.args.self.now.me r) (state_of c.args.disk) (state_of b.disk)) c.in-Ok.ensures
    (λ J has. fails_there c.args.disk b.disk (state_of c.args.disk) (state_of b.disk) _ (λ made led. led) (back.failing disk (search rules) J has))) c.start.ensures.back

pub returns-clause-spares : goal.returns-clause-spares
returns-clause-spares g c = IfErr-weaker c.start.result _ _ (λ b why.
    let a = c.args.self.now in
    let keyed = ap (λ (r : List RosterEntry). key_of r a.me) c.in-Ok.ensures ∙ a.keyed in
    subst (λ (r : List RosterEntry). SparesLawful (placed g.S.Scheme.verifies a.me r) (state_of c.args.disk) b.error) c.in-Ok.ensures
    (λ J has l. lawful_file_starts (placed g.S.Scheme.verifies a.me c.in-Ok.roster) (g.G.Signer.key_of a.signer) true c.args.disk.file.bytes.items J b.error (search rules) keyed has l why)) c.start.ensures.refused
