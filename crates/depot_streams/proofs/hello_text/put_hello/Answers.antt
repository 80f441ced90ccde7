use Rattle.std.proofs.Common.{◌≡◌, ℕ, List, [], ◌++◌, append_assoc, length, ap, ◌∙◌}
use Rattle.std.specs.List.{flat_map}
use Rattle.std.specs.Int.{w16}
use Rattle.std.proofs.lemmas.List.{append-nil}
use Rattle.std.proofs.lemmas.Result.{on_ok_weaker}
use Rattle.depot_base.specs.Cursor.{numeral}
use Rattle.depot_base.specs.Format.{number, bytes_of, list_of}
use Rattle.depot_base.specs.Parts.{node_number, digest}
use Rattle.depot_model.specs.exchange.Hello.{hello, hello_leaf}
use Rattle.depot_streams.proofs.hello_text.put_hello.Goals as goal

-- seven pieces, the last three of which are a count and a list
joined : (out a b c d n1 l1 n2 l2 n3 l3 o1 o2 o3 o4 o5 o6 : List ℕ)
    → o1 ≡ out ++ a → o2 ≡ o1 ++ b → o3 ≡ o2 ++ c → o4 ≡ o3 ++ d → o5 ≡ o4 ++ (n1 ++ l1) → o6 ≡ o5 ++ (n2 ++ l2)
    → o6 ++ (n3 ++ l3) ≡ out ++ (a ++ (b ++ (c ++ (d ++ (n1 ++ (l1 ++ (n2 ++ (l2 ++ (n3 ++ (l3 ++ []))))))))))
joined out a b c d n1 l1 n2 l2 n3 l3 o1 o2 o3 o4 o5 o6 p1 p2 p3 p4 p5 p6 = rw (p6, p5, p4, p3, p2, p1) (simp (append_assoc, append-nil))

-- a list after its count
counted : {E : Type 0} → (E → List ℕ) → List ℕ → List E → List ℕ
counted text out s = out ++ (numeral w16 (length s) ++ flat_map text s)

pub returns : goal.returns
unfolding hello number bytes_of list_of counted
returns c =
    let node = c.in_ok-push_u16.ensures.ok ∙ ap (λ (n : ℕ). c.push_u8-2.new.self ++ numeral w16 n) c.number.ensures.same in
    let roster = c.in_ok-push_all.ensures.ok ∙ ap (λ (h : List ℕ). c.push_u16.new.self ++ h) c.bytes.ensures.same in
    let convicted = c.in_ok-put_list.ensures ∙ ap (counted (λ n. node_number.text n) c.push_all.new.self) c.as_slice.ensures in
    let leaves = c.in_ok-put_list-2.ensures ∙ ap (counted (λ l. hello_leaf.text l) c.put_list.new.out) c.as_slice-2.ensures in
    let wanted = ap (counted (λ h. digest.text h) c.put_list-2.new.out) c.as_slice-3.ensures in
    on_ok_weaker c.put_list-3.result (λ same. same ∙ wanted ∙ joined _ _ _ _ _ (numeral w16 (length c.args.hello.now.convicted)) (flat_map (λ n. node_number.text n) c.args.hello.now.convicted) (numeral w16 (length c.args.hello.now.leaves)) (flat_map (λ l. hello_leaf.text l) c.args.hello.now.leaves) (numeral w16 (length c.args.hello.now.wanted)) (flat_map (λ h. digest.text h) c.args.hello.now.wanted) _ _ _ _ _ _ c.in_ok-push_u8.ensures.ok c.in_ok-push_u8-2.ensures.ok node roster convicted leaves) c.put_list-3.ensures
