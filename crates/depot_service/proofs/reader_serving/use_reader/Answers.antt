use Rattle.std.proofs.Common.{ap, subst, sym, ◌∙◌}
use Rattle.depot_service.specs.ReaderCalls.{UsesReader}
use Rattle.depot_requests.specs.declared.reader_request.ReaderUse.TheVariants as uses
use Rattle.depot_service.proofs.reader_serving.use_reader.Goals as goal

pub returns-in-Give : goal.returns-in-Give
returns-in-Give g c = λ R is.
    subst (λ u. UsesReader g.S.Scheme.verifies R u c.give_reader.result c.give_reader.new.reader) (ap (λ stream. uses.Give stream) c.as_slice.ensures ∙ sym c.in-Give.is) (c.give_reader.ensures R is)

pub returns-in-Get : goal.returns-in-Get
returns-in-Get g c = λ R is.
    subst (λ u. UsesReader g.S.Scheme.verifies R u c.read_reader.result c.args.reader.now) (sym c.in-Get.is) (c.read_reader.ensures R is)
