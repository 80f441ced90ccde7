use Rattle.std.proofs.Common.{◌≡◌, ◌<◌, ◌∙◌, ℕ, List, length, get_or, ap, subst, arith}
use Rattle.depot_order.specs.ChainItems.{JoinsUpTo}
use Rattle.depot_order.specs.KeptRows.{IsJoinedCount}
use Rattle.depot_order.proofs.RowMaking.{joins_row, lent_whole}
use Rattle.depot_order.proofs.clocks.Clocks.joined.Goals as goal

pub loop-item-preserved : goal.loop-item-preserved
loop-item-preserved c =
    let items = c.args.self.now in
    let row = c.loop-item.row.items in
    let new = c.join_with.new.row in
    let same : length new ≡ length row = c.join_with.auto.row ∙ ap (λ (l : List ℕ). length l) c.deref_mut.ensures.value in
    let row_is = lent_whole c.loop-item.row.len row new c.loop-item.row.ok.0 same in
    let counts = subst (λ (old : List ℕ). (chain : ℕ) → chain < length new → IsJoinedCount items (get_or c.args.items.now c.loop-item.item-index 0) chain (get_or old chain 0) (get_or new chain 0)) c.deref_mut.ensures.value c.join_with.ensures in
    rw row_is (record {
      long = same ∙ c.loop-item.invariant.long;
      joins = joins_row items c.args.items.now c.loop-item.item-index row new same c.loop-item.invariant.joins counts;
    })

pub returns : goal.returns
returns c =
    let all : c.loop-item.item-index ≡ length c.args.items.now = omega (arith, c.loop-item-test.false, c.loop-item.auto.item-index-end) in
    record {
      joined = record {
        long = c.loop-item.invariant.long;
        joins = λ chain low. subst (λ (n : ℕ). JoinsUpTo c.args.self.now c.args.items.now n chain (get_or c.loop-item.row.items chain 0)) all (c.loop-item.invariant.joins chain low);
      };
    }
