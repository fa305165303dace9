-- The weights of a leaf, one by one.
use Rattle.std.proofs.Common.{◌≡◌, ℕ, ◌+◌, ◌<◌, ℤ, List, [], ◌∷◌, ◌++◌, map, take, length, get_or, sym, ◌∙◌, ap, append_assoc, append-nil}
use Rattle.std.proofs.lemmas.List.{take_more, map-append}
use Rattle.merlin_model.specs.declared.certificate.Weight.{Weight}
use Rattle.merlin_base.specs.Pairs.{pair_text, pairs_text}
use Rattle.merlin_base.specs.NodeTexts.{pair_of}

pub pairs_more : (weights : List Weight) (k : ℕ) (d : Weight) → k < length weights → pairs_text (map pair_of (take (k + 1) weights)) ≡ pairs_text (map pair_of (take k weights)) ++ pair_text (pair_of (get_or weights k d))
pairs_more weights k d h = ap (λ ws. pairs_text (map pair_of ws)) (take_more weights k d h) ∙ ap pairs_text (map-append pair_of (take k weights) (get_or weights k d ∷ [])) ∙ push (map pair_of (take k weights)) (pair_of (get_or weights k d))
  where
    push : (ps : List (ℕ × ℤ)) (p : ℕ × ℤ) → pairs_text (ps ++ p ∷ []) ≡ pairs_text ps ++ pair_text p
    push [] p = append-nil (pair_text p)
    push (q ∷ qs) p = ap (λ z. pair_text q ++ z) (push qs p) ∙ sym (append_assoc (pair_text q) (pairs_text qs) (pair_text p))
