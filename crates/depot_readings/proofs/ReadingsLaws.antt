-- What readings are seen as, and what is inside.
use Rattle.std.proofs.Common.{◌≡◌, List, [], ◌++◌, sym, ap, subst, ◌∙◌}
use Rattle.depot_base.specs.declared.record.Record.{Record}
use Rattle.depot_model.specs.checks.Checks.{Setting}
use Rattle.depot_model.specs.journals.Lawful.{IsLawful}
use Rattle.depot_model.specs.texts.Roster.{Verifies}
use Rattle.depot_readings.specs.ReadingsView.{Known, standing, with_more_records}

-- what is lawful as it is seen is lawful inside
pub lawful_inside : (verifies : Verifies) (inside seen : Known) (new given : List Record) → inside ≡ seen → new ≡ given → IsLawful (standing verifies seen) (seen.records ++ given) → IsLawful (standing verifies inside) (inside.records ++ new)
lawful_inside verifies inside seen new given same all l =
    subst (λ (rs : List Record). IsLawful (standing verifies inside) (inside.records ++ rs)) (sym all) (subst (λ (x : Known). IsLawful (standing verifies x) (x.records ++ given)) (sym same) l)

-- and what is lawful inside as it is seen
pub lawful_seen : (verifies : Verifies) (inside seen : Known) → inside ≡ seen → IsLawful (standing verifies inside) inside.records → IsLawful (standing verifies seen) seen.records
lawful_seen verifies inside seen same l = subst (λ (x : Known). IsLawful (standing verifies x) x.records) same l

-- the same node, of which more was read
pub view_read : (verifies : Verifies) (inside seen : Known) (here : Setting) (J new given : List Record) → inside ≡ seen → new ≡ given → here ≡ standing verifies inside → J ≡ inside.records ++ new
    → with_more_records (record { me = here.me; listed = here.listed; records = [] }) J ≡ with_more_records seen (seen.records ++ given)
view_read verifies inside seen here J new given same all stays read =
    ap (λ (h : Setting). with_more_records (record { me = h.me; listed = h.listed; records = [] }) J) stays
    ∙ ap (λ (K : List Record). with_more_records inside K) read
    ∙ ap (λ (rs : List Record). with_more_records inside (inside.records ++ rs)) all
    ∙ ap (λ (x : Known). with_more_records x (x.records ++ given)) same
