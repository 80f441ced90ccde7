-- The trace of a node with a lawful journal has a text.
use Rattle.std.proofs.Common.{◌≡◌, ◌≤◌, ℕ, zero, suc, ◌+◌, List, [], ◌∷◌, ◌++◌, length, map, take, false, Some, refl, sym, ap, subst, ◌∙◌, add-one, arith, inl, inr}
use Rattle.std.specs.Prelude.{slice_get}
use Rattle.std.specs.List.{AllByRecursion, sum_by}
use Rattle.std.proofs.lemmas.List.{length-map}
use Rattle.std.proofs.lemmas.List.Sums.{sum_by-cons}
use Rattle.depot_base.specs.Format.{number, bytes_of}
use Rattle.depot_base.specs.Parts.{node_number}
use Rattle.depot_base.specs.declared.record.Record.{Record}
use Rattle.depot_laws.proofs.own_updates.OwnTexts.{lawful_is_light, lawful_is_short, me_fits}
use Rattle.depot_model.proofs.lists.Members.{all_from, from_map}
use Rattle.depot_model.specs.checks.Checks.{Setting}
use Rattle.depot_model.specs.journals.Lawful.{IsLawful, is_empty}
use Rattle.depot_model.specs.lists.Lists.{IsIn}
use Rattle.depot_model.specs.texts.Records.{text_of_record}
use Rattle.depot_traces.specs.SeenTraces as seen
use Rattle.depot_traces.specs.TraceTexts.{IsTrace, read_text, record_piece, trace_text}
use Rattle.depot_traces.specs.declared.trace.ReadTrace.{ReadTrace}
use Rattle.depot_traces.specs.declared.trace.Trace.{Trace}
use Rattle.depot_service.proofs.TracedReads.{all_listed}

-- ---- record texts

-- a record takes no more bytes than its journal
record_within : (rs : List Record) (r : Record) → IsIn r rs → length (text_of_record r) ≤ sum_by (λ x. 5 + length (text_of_record x)) rs
record_within [] r never = absurd never
record_within (x ∷ rs) r (inl here) = subst (λ (y : Record). length (text_of_record y) ≤ sum_by (λ z. 5 + length (text_of_record z)) (x ∷ rs)) here (omega (arith, sum_by-cons (λ (z : Record). 5 + length (text_of_record z)) x rs))
record_within (x ∷ rs) r (inr there) = let rest = record_within rs r there in omega (arith, rest, sum_by-cons (λ (z : Record). 5 + length (text_of_record z)) x rs)

-- one more of some texts
next_text : (texts : List (List ℕ)) (i : ℕ) (text : List ℕ) → slice_get texts i ≡ Some text → take (suc i) texts ≡ take i texts ++ text ∷ []
next_text [] i text at = absurd cc
next_text (x ∷ texts) zero text at = let same : x ≡ text = cc in ap (λ (t : List ℕ). t ∷ []) same
next_text (x ∷ texts) (suc i) text at = ap (λ (ts : List (List ℕ)). x ∷ ts) (next_text texts i text at)

pub one_more_text : (texts : List (List ℕ)) (i : ℕ) (text : List ℕ) → slice_get texts i ≡ Some text → take (i + 1) texts ≡ take i texts ++ text ∷ []
one_more_text texts i text at = ap (λ (n : ℕ). take n texts) (add-one i) ∙ next_text texts i text at

piece_fits : (text : List ℕ) → length text ≤ 4294967295 → record_piece.fits text
unfolding record_piece number bytes_of
piece_fits text short = ((omega arith, short), (refl, refl))

texts_fit : (here : Setting) (J : List Record) → IsLawful here J → AllByRecursion record_piece.fits (map text_of_record J)
texts_fit here J l = all_from record_piece.fits (map text_of_record J) (λ text on.
    let r = from_map text_of_record text J on in
    let within = record_within J r.0 r.1.0 in
    let light = lawful_is_light here J l in
    subst (λ (t : List ℕ). record_piece.fits t) r.1.1 (piece_fits (text_of_record r.0) (omega (arith, within, light))))

some_records : (J : List Record) → is_empty J ≡ false → 1 ≤ length J
some_records [] some = absurd cc
some_records (r ∷ J) some = omega arith

-- ---- a trace

trace_fits : (t : Trace) → node_number.fits t.node → 1 ≤ length t.texts → length t.texts ≤ 131072 → AllByRecursion record_piece.fits t.texts → length t.reads ≤ 1000000 → AllByRecursion read_text.fits t.reads → IsTrace t
unfolding trace_text number
trace_fits t node some short texts few reads = ((omega arith, omega arith), ((omega arith, omega arith), (node, ((some, short), (all_listed record_piece t.texts texts, ((omega arith, few), (all_listed read_text t.reads reads, refl)))))))

-- it is made of the node's records and these reads
pub is_trace : (here : Setting) (J : List Record) (node : ℕ) (texts : List (List ℕ)) (reads again : List ReadTrace) → IsLawful here J → is_empty J ≡ false → node ≡ here.me → texts ≡ map text_of_record J → again ≡ reads → length reads ≤ 1000000 → AllByRecursion read_text.fits reads
    → IsTrace (record { node = node; texts = texts; reads = again }) × (seen.trace_of (record { node = node; texts = texts; reads = again }) ≡ record { node = here.me; texts = map text_of_record J; reads = map seen.read_of reads })
is_trace here J node texts reads again l some own are same few fit =
    let short = lawful_is_short here J l in
    let any = some_records J some in
    let long = length-map J text_of_record in
    let whole : Trace = record { node = here.me; texts = map text_of_record J; reads = reads } in
    let is : record { node = node; texts = texts; reads = again } ≡ whole = λ i. record { node = own i; texts = are i; reads = same i } in (
      subst IsTrace (sym is) (trace_fits whole (me_fits here J l some) (omega (arith, any, long)) (omega (arith, short, long)) (texts_fit here J l) few fit),
      ap seen.trace_of is,
    )
