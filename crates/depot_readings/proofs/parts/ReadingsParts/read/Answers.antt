use Rattle.std.proofs.Common.{◌++◌, ◌||◌, ◌&&◌, ℕ, List, cond, not, sym, ap, ◌∙◌, arith}
use Rattle.std.specs.Option.{option_to_list}
use Rattle.depot_base.specs.declared.record.Record.{Record}
use Rattle.depot_model.specs.exchange.Bundle.{records_where}
use Rattle.depot_accept.specs.StateView.{setting}
use Rattle.depot_readings.specs.NewRecords.{records_in}
use Rattle.depot_readings.specs.Lacking.{is_held}
use Rattle.depot_readings.specs.Named.{is_name, has_named_value}
use Rattle.depot_readings.specs.Places.{accepts, accept_places}
use Rattle.depot_base.specs.declared.update.NamedValue.{NamedValue}
use Rattle.depot_readings.proofs.AcceptPlaceLaws.{accept_places-append}
use Rattle.depot_readings.proofs.BoundLaws.{few_counted, few_with}
use Rattle.depot_readings.proofs.FrontPlaceLaws.{front_grows}
use Rattle.depot_readings.proofs.LackingLaws.{lacked_grows}
use Rattle.depot_readings.proofs.NamedLaws.{named_grows}
use Rattle.depot_readings.proofs.OwnIdLaws.{mine_grows}
use Rattle.depot_readings.proofs.parts.ReadingsParts.read.Goals as goal

pub accept_place-place-requires : goal.accept_place-place-requires
accept_place-place-requires g c =
    let few = few_counted _ (setting g.S.Scheme.verifies c.args.self.now.kept.state) (records_in c.args.news) c.args.count c.requires.may in
    omega (arith, few)

pub new_places-requires : goal.new_places-requires
new_places-requires g c = few_with _ (setting g.S.Scheme.verifies c.args.self.now.kept.state) (records_in c.args.news) c.args.count c.requires.may

pub returns-clause-ok : goal.returns-clause-ok
returns-clause-ok g c = λ J r is l.
    let new : List Record = records_in c.args.news in
    let read = c.in_ok-keep.ensures.ok J r.read l in
    record {
      read = read;
      names = named_grows J c.args.news _ c.reserve_both.new.named c.add.new.self c.reserve_both.ensures.named_same
          (λ hash size. c.add.ensures.named hash size ∙ ap (λ (n : List NamedValue). has_named_value c.reserve_both.new.named hash size || is_name n hash size) (c.deref-2.ensures.value ∙ c.in-Ok.ensures)) r.names;
      lacked = lacked_grows (setting g.S.Scheme.verifies c.args.self.now.kept.state) J c.args.news c.keep.new.self.values _ c.reserve_both.new.lacking c.settle.new.self c.let_go.new.self l read.values c.reserve_both.ensures.lacking_same
          (λ hash size. c.settle.ensures hash size ∙ ap (λ (n : List NamedValue). cond (is_name n hash size) (not (is_held c.keep.new.self.values hash size)) (has_named_value c.reserve_both.new.lacking hash size)) (c.deref-3.ensures.value ∙ c.in-Ok.ensures))
          (λ hash size. c.let_go.ensures hash size ∙ ap (λ (n : List NamedValue). has_named_value c.settle.new.self hash size && not (is_name n hash size && is_held c.keep.new.self.values hash size)) c.name_brought-brought.ensures) r.lacked;
      accepting = c.add-2.ensures ∙ ap (λ (ns : List ℕ). ns ++ option_to_list c.accept_place-place.result) (c.reserve.ensures.same ∙ r.accepting)
          ∙ ap (λ (ns : List ℕ). accept_places J ++ ns) (c.accept_place-place.ensures ∙ ap (λ (n : ℕ). records_where accepts n new) is) ∙ sym (accept_places-append J new);
      mine = mine_grows J new _ _ c.in_ok-keep.ensures.mine r.mine;
      fronts = front_grows J c.args.news c.args.count c.in-Ok-new_places.fronts c.reserve-2.new.self c.add-3.new.self is c.in-Ok-new_places.ensures c.add-3.ensures.convictions c.add-3.ensures.vouchers (c.reserve-2.ensures.same J r.fronts);
    }
