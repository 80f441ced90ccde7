use Rattle.std.proofs.Common.{List, map, ap, sym, subst, ◌∙◌}
use Rattle.depot_kept.specs.declared.kept_statement.KeptStatement.{KeptStatement}
use Rattle.depot_kept.specs.Entries.{kept_signed}
use Rattle.depot_kept.specs.Keeping.{IsKeeping}
use Rattle.depot_kept.specs.Opponents.{KeptSigned}
use Rattle.depot_kept.proofs.OpponentLaws.{of_voucher, of_update}
use Rattle.depot_kept.proofs.seen_statements.SeenStatements.contradiction.Goals as goal

pub returns-in_default : goal.returns-in_default
returns-in_default c =
    let keeping = subst (λ (l : List KeptStatement). IsKeeping l c.self.inside.table) (sym c.as_slice-entries.ensures.value) c.self.invariant in
    let seen = ap (λ (l : List KeptStatement). map kept_signed l) c.as_slice-entries.ensures.value ∙ ap (λ (k : KeptSigned). k.kept) c.self.view_is in
    of_voucher c.as_slice-entries.result.now c.self.inside.table _ c.args.statement.now _ c.writer.result c.seq.result c.args.id.now _ keeping seen c.in_default.is c.writer.ensures c.seq.ensures c.requires.id c.first_under-same_number.ensures

pub returns : goal.returns
returns c =
    let keeping = subst (λ (l : List KeptStatement). IsKeeping l c.self.inside.table) (sym c.as_slice-entries.ensures.value) c.self.invariant in
    let seen = ap (λ (l : List KeptStatement). map kept_signed l) c.as_slice-entries.ensures.value ∙ ap (λ (k : KeptSigned). k.kept) c.self.view_is in
    rw (c.earlier-3.ensures, c.earlier.ensures, c.earlier-2.ensures)
    (of_update c.as_slice-entries.result.now c.self.inside.table _ c.args.statement.now _ c.writer.result c.seq.result c.args.id.now _ _ _ _ keeping seen c.in-Update.is c.writer.ensures c.seq.ensures c.requires.id c.first_under-same_number.ensures c.first_under-same_prev.ensures
    c.first_under-named.ensures c.first_under-naming.ensures)
