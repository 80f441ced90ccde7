-- The checks after that of the signature, in their order.
use Rattle.std.proofs.Common.{◌≡◌, Bool, true, false, cond, ◌&&◌, List, [], ◌∷◌, Some, None, refl, sym, ap, ◌∙◌}
use Rattle.depot_base.specs.Statement.{writer_of}
use Rattle.depot_base.specs.declared.check.Check.{Check}
use Rattle.depot_base.specs.declared.check.Check.TheVariants as check
use Rattle.depot_base.specs.declared.proof.Kind.{Kind}
use Rattle.depot_base.specs.declared.record.Record.{Record}
use Rattle.depot_base.specs.declared.statement.Signed.{Signed}
use Rattle.depot_base.specs.declared.statement.Statement.{Statement}
use Rattle.depot_base.specs.declared.statement.Statement.TheVariants as statements
use Rattle.depot_base.specs.declared.update.Update.{Update}
use Rattle.depot_base.specs.declared.voucher.Voucher.{Voucher}
use Rattle.depot_model.specs.lists.Lists.{first}
use Rattle.depot_model.specs.texts.Texts.{id_of_statement}
use Rattle.depot_model.specs.journals.Journal.{foreign, is_convicted, is_vouched}
use Rattle.depot_model.specs.checks.Checks.{content_of, opponent, forked_by, forked, refused_as_convicted}
use Rattle.depot_accept.specs.AfterSignature.{failed_after_signature}
use Rattle.depot_accept.proofs.FirstFound.{first_front, first_behind, first_one, first_now, first_later}

-- ---- forks

-- none is reported where the writer is convicted
pub no_fork_convicted : (J : List Record) (s : Statement) → is_convicted J (writer_of s) ≡ true → forked J s ≡ None
unfolding forked
no_fork_convicted J s e = rw e refl

-- else the first contradiction is one
pub fork_is_told : (J : List Record) (s : Statement) (o : Signed × Kind) → is_convicted J (writer_of s) ≡ false → is_vouched J s ≡ false → opponent (foreign J) s ≡ Some o
    → forked J s ≡ Some (check.Forked (id_of_statement o.0.statement) (id_of_statement s) o.1)
unfolding forked
fork_is_told J s o free alone is = rw (free, alone) (ap (forked_by s) is)

-- ---- convictions

-- nothing is refused where the writer isn't convicted
pub not_refused : (J : List Record) (s : Statement) → is_convicted J (writer_of s) ≡ false → refused_as_convicted J s ≡ None
unfolding refused_as_convicted
not_refused J (statements.Update u) e = rw e refl
not_refused J (statements.Voucher v) e = rw e refl

-- nor is an update for which someone vouched
pub not_refused_vouched : (J : List Record) (s : Statement) (u : Update) → s ≡ statements.Update u → is_vouched J s ≡ true → refused_as_convicted J s ≡ None
unfolding refused_as_convicted
not_refused_vouched J (statements.Voucher v) u is e = absurd cc
not_refused_vouched J (statements.Update t) u is e = rw e (by_test (is_convicted J t.writer) (check.Convicted t.writer)) where
  by_test : (b : Bool) (c : Check) → cond (b && false) (Some c) None ≡ None
  by_test true c = refl
  by_test false c = refl

-- any other update of a convicted writer is
pub refused_update : (J : List Record) (s : Statement) (u : Update) → s ≡ statements.Update u → is_convicted J (writer_of s) ≡ true → is_vouched J s ≡ false → refused_as_convicted J s ≡ Some (check.Convicted u.writer)
unfolding refused_as_convicted
refused_update J (statements.Voucher v) u is e alone = absurd cc
refused_update J (statements.Update t) u is e alone = let same : t ≡ u = cc in rw (e, alone) (ap (λ (x : Update). Some (check.Convicted x.writer)) same)

-- and so is a voucher of a convicted node
pub refused_voucher : (J : List Record) (s : Statement) (v : Voucher) → s ≡ statements.Voucher v → is_convicted J (writer_of s) ≡ true → refused_as_convicted J s ≡ Some (check.VoucherConvicted v.node)
unfolding refused_as_convicted
refused_voucher J (statements.Update t) v is e = absurd cc
refused_voucher J (statements.Voucher w) v is e = let same : w ≡ v = cc in rw e (ap (λ (x : Voucher). Some (check.VoucherConvicted x.node)) same)

-- ---- in their order

-- a check of the content fails
pub fails_in_content : (J : List Record) (s : Statement) (c : Check) → first (content_of J s) ≡ Some c → failed_after_signature J s ≡ Some c
fails_in_content J s c e = first_front (content_of J s) (forked J s ∷ refused_as_convicted J s ∷ []) c e

-- none does, and there is a fork
pub fails_as_fork : (J : List Record) (s : Statement) (c : Check) → first (content_of J s) ≡ None → forked J s ≡ Some c → failed_after_signature J s ≡ Some c
fails_as_fork J s c none e =
    first_behind (content_of J s) (forked J s ∷ refused_as_convicted J s ∷ []) none
    ∙ sym (first_now (forked J s) (refused_as_convicted J s ∷ []) c (sym e))

-- there is none, and the writer is convicted
pub fails_as_convicted : (J : List Record) (s : Statement) (c : Check) → first (content_of J s) ≡ None → forked J s ≡ None → refused_as_convicted J s ≡ Some c → failed_after_signature J s ≡ Some c
fails_as_convicted J s c none alone e =
    first_behind (content_of J s) (forked J s ∷ refused_as_convicted J s ∷ []) none
    ∙ sym (first_later (forked J s) (refused_as_convicted J s ∷ []) (Some c) (sym alone) (first_now (refused_as_convicted J s) [] c (sym e)))

-- none fails
pub fails_nowhere : (J : List Record) (s : Statement) → first (content_of J s) ≡ None → forked J s ≡ None → refused_as_convicted J s ≡ None → failed_after_signature J s ≡ None
fails_nowhere J s none alone e =
    first_behind (content_of J s) (forked J s ∷ refused_as_convicted J s ∷ []) none
    ∙ sym (first_later (forked J s) (refused_as_convicted J s ∷ []) None (sym alone) (sym (first_one (refused_as_convicted J s) ∙ e)))
