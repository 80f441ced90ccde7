-- The ids that a node's own vouchers name, with more records.
use Rattle.std.proofs.Common.{◌≡◌, ℕ, List, [], ◌∷◌, ◌++◌, Bool, true, false, ◌||◌, refl, sym, ap, ◌∙◌}
use Rattle.std.specs.List.{list_any}
use Rattle.std.proofs.lemmas.Grind.{flat_map-append}
use Rattle.std.proofs.lemmas.List.Folds.{list_any-append}
use Rattle.depot_base.specs.declared.record.Record.{Record}
use Rattle.depot_base.specs.declared.record.Record.TheVariants.{OwnVoucher}
use Rattle.depot_base.specs.declared.voucher.Voucher.{Voucher}
use Rattle.depot_model.specs.lists.Lists.{is_among, AreTogether}
use Rattle.depot_model.specs.checks.Vouching.{own_voucher_by, own_vouchers, is_mine_vouched}
use Rattle.depot_base.proofs.GeneralLaws.{or_none}
use Rattle.depot_readings.specs.OwnIds.{AreMine, AddsMine}

or_assoc : (a b c : Bool) → ((a || b) || c) ≡ (a || (b || c))
or_assoc true b c = refl
or_assoc false b c = refl

-- an id is named by the vouchers of two lists of records where it is by those of one
pub mine-append : (J new : List Record) (h : List ℕ) → is_mine_vouched (J ++ new) h ≡ (is_mine_vouched J h || is_mine_vouched new h)
mine-append J new h = ap (list_any (λ (v : Voucher). is_among h v.ids)) (flat_map-append own_voucher_by J new) ∙ list_any-append (λ (v : Voucher). is_among h v.ids) (own_vouchers J) (own_vouchers new)

-- no records name no id
pub mine_of_none : (J : List Record) (ids : List (List ℕ)) → J ≡ [] → ids ≡ [] → AreMine J ids
mine_of_none J ids none empty = record { are = λ h. ap (is_among h) empty ∙ sym (ap (λ (K : List Record). is_mine_vouched K h) none) }

-- nor do records without own vouchers
pub adds_none : (new : List Record) (old then : List (List ℕ)) → own_vouchers new ≡ [] → then ≡ old → AddsMine old new then
adds_none new old then none same h = ap (is_among h) same ∙ or_none (is_among h old) ∙ ap (λ (vs : List Voucher). is_among h old || list_any (λ (v : Voucher). is_among h v.ids) vs) (sym none)

-- an own voucher names its ids
pub adds_one : (v : Voucher) (old then : List (List ℕ)) → AreTogether old v.ids then → AddsMine old (OwnVoucher v ∷ []) then
adds_one v old then t h = t h ∙ ap (λ (b : Bool). is_among h old || b) (or_none (is_among h v.ids))

-- to the same ids
pub adds_behind : (old mid then : List (List ℕ)) (new : List Record) → mid ≡ old → AddsMine mid new then → AddsMine old new then
adds_behind old mid then new same adds h = adds h ∙ ap (λ (ids : List (List ℕ)). is_among h ids || is_mine_vouched new h) same

-- records one after another
pub adds_more : (front new : List Record) (old mid then : List (List ℕ)) → AddsMine old front mid → AddsMine mid new then → AddsMine old (front ++ new) then
adds_more front new old mid then one two h =
    two h ∙ ap (λ (b : Bool). b || is_mine_vouched new h) (one h) ∙ or_assoc (is_among h old) (is_mine_vouched front h) (is_mine_vouched new h) ∙ ap (λ (b : Bool). is_among h old || b) (sym (mine-append front new h))

-- the ids grow with the records
pub mine_grows : (J new : List Record) (old then : List (List ℕ)) → AddsMine old new then → AreMine J old → AreMine (J ++ new) then
mine_grows J new old then adds m = record { are = λ h. adds h ∙ ap (λ (b : Bool). b || is_mine_vouched new h) (m.are h) ∙ sym (mine-append J new h) }
