-- The test of a hollow proof passes exactly for a voucher that names a text which no update has.
use Rattle.std.proofs.Common.{◌≡◌, ℕ, List, Bool, true, false, not, refl, sym, ap, subst, ◌∙◌}
use Rattle.std.proofs.lemmas.Bool.{and_parts, and_from}
use Rattle.sha2.specs.Sha256.{sha256}
use Rattle.depot_base.proofs.FormatLaws.{IsBytes}
use Rattle.depot_base.specs.declared.statement.Statement.{Statement}
use Rattle.depot_base.specs.declared.statement.Statement.TheVariants as statement
use Rattle.depot_base.specs.declared.update.Update.{Update}
use Rattle.depot_model.specs.updates.Contradictions.{IsHollow, is_hollow, is_update_text}
use Rattle.depot_model.specs.lists.Lists.{is_among}
use Rattle.depot_model.specs.texts.Texts.{IsUpdate, text_of_update}
use Rattle.depot_model.proofs.of_texts.BodyLaws.{text_of_some_update, update_is_text}
use Rattle.depot_model.proofs.lists.Members.{among_from, among_to}

-- a text that passes the test of updates, or doesn't
is_not : (text : List ℕ) → ((u : Update) → IsUpdate u → text ≡ text_of_update u → ⊥) → IsBytes text → is_update_text text ≡ false
is_not text none bytes = by_test (is_update_text text) refl where
  by_test : (b : Bool) → is_update_text text ≡ b → is_update_text text ≡ false
  by_test true is = let u = text_of_some_update text bytes is in absurd (none u.0 u.1.0 u.1.1)
  by_test false is = is

none_has : (text : List ℕ) → is_update_text text ≡ false → (u : Update) → IsUpdate u → text ≡ text_of_update u → ⊥
none_has text fails u fits same = let wrong : true ≡ false = sym (update_is_text u fits) ∙ ap is_update_text (sym same) ∙ fails in cc

from_not : (b : Bool) → not b ≡ true → b ≡ false
from_not true e = absurd cc
from_not false e = refl

pub passes_hollow : (s : Statement) (text : List ℕ) → IsBytes text → is_hollow s text ≡ true → IsHollow s text
unfolding is_hollow
passes_hollow (statement.Update u) text bytes e = absurd cc
passes_hollow (statement.Voucher v) text bytes e =
    let p = and_parts (is_among (sha256 text) v.ids) (not (is_update_text text)) e in
    record { voucher = v; is = refl; named = among_to (sha256 text) v.ids p.0; none = none_has text (from_not (is_update_text text) p.1) }

pub hollow_passes : (s : Statement) (text : List ℕ) → IsBytes text → IsHollow s text → is_hollow s text ≡ true
unfolding is_hollow
hollow_passes s text bytes h = subst (λ (x : Statement). is_hollow x text ≡ true) (sym h.is) (and_from (is_among (sha256 text) h.voucher.ids) (not (is_update_text text)) (among_from (sha256 text) h.voucher.ids h.named) (ap not (is_not text h.none bytes)))
