-- One node further in the list of entries.
use Rattle.std.proofs.Common.{ℕ, ◌≡◌, ◌<◌, ◌≤◌, ◌+◌, List, [], ◌∷◌, ◌++◌, length, take, get_or, refl, sym, ◌∙◌, ap, ap₂, subst, arith}
use Rattle.std.specs.List.{AllZip, zip}
use Rattle.std.specs.declared.vec.Vec.{Vec}
use Rattle.std.specs.declared.alloc.Global.{Global}
use Rattle.std.proofs.lemmas.List.{take_more, take_all, length-map, get_or-map}
use Rattle.std.proofs.lemmas.Option.{slice_get_read}
use Rattle.std.proofs.lemmas.Slice.Zip.{all_zipped_more, length-zip, get_or-zip}
use Rattle.delegation.specs.declared.node.Node.{Node}
use Rattle.delegation_text.specs.declared.entry.TreeEntry.{TreeEntry}
use Rattle.delegation_verdict.specs.declared.nodes.NodeFault.{NodeFault}
use Rattle.delegation_verdict.specs.declared.nodes.NodeFault.TheVariants.{Scope, Policy, OutOfMemory}
use Rattle.delegation_verdict.specs.Nodes.{policy_texts, IsNodeOf, IsNodeFault, IsFirstNodeFault}

module _ (es : List TreeEntry) (vs : List (Vec ℕ Global)) (long : length vs ≡ length es) where
  abbrev pub pairs : List (TreeEntry × List ℕ)
  pairs = zip es (policy_texts vs)

  many : length (policy_texts vs) ≡ length es
  many = length-map vs (λ v. v.items) ∙ long

  pub whole : (k : ℕ) → length es ≤ k → take k pairs ≡ pairs
  whole k past = take_all k pairs (omega (arith, length-zip es (policy_texts vs), many, past))

  module _ (k : ℕ) (e : TreeEntry) (v : Vec ℕ Global) (within : k < length es) (is_e : e ≡ get_or es k e) (is_v : v ≡ get_or vs k v) where
    inside : k < length pairs
    inside = omega (arith, length-zip es (policy_texts vs), many, within)

    text-at : get_or (policy_texts vs) k v.items ≡ v.items
    text-at = get_or-map (λ (w : Vec ℕ Global). w.items) vs k v v.items (omega (arith, long, within)) ∙ ap (λ w. w.items) (sym is_v)

    here : get_or pairs k (e, v.items) ≡ (e, v.items)
    here = get_or-zip es (policy_texts vs) k (e, v.items) within (omega (arith, many, within)) ∙ ap₂ (λ a t. (a, t)) (sym is_e) text-at

    pub one-more : (ns : List Node) (n : Node) → AllZip IsNodeOf (take k pairs) ns → IsNodeOf (e, v.items) n → AllZip IsNodeOf (take (k + 1) pairs) (ns ++ n ∷ [])
    one-more ns n before is =
        subst (λ ps. AllZip IsNodeOf ps (ns ++ n ∷ [])) (sym (take_more pairs k (e, v.items) inside ∙ ap (λ p. take k pairs ++ p ∷ []) here))
        (all_zipped_more IsNodeOf (take k pairs) ns (e, v.items) n before is)

    pub first-fault : (ns : List Node) (fault : NodeFault) → AllZip IsNodeOf (take k pairs) ns → IsNodeFault (e, v.items) fault → IsFirstNodeFault pairs fault
    first-fault ns (Scope node fault) before h =
        record { place = k; of = (e, v.items); stands = slice_get_read pairs (length pairs) k (e, v.items) refl inside (sym here); named = h.0; earlier = ns; before = before; is_not = h.1 }
    first-fault ns (Policy node fault) before h =
        record { place = k; of = (e, v.items); stands = slice_get_read pairs (length pairs) k (e, v.items) refl inside (sym here); named = h.0; earlier = ns; before = before; is_not = h.1 }
    first-fault ns OutOfMemory before h = tt
