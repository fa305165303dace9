-- A sink that takes one part after another.
use Rattle.std.proofs.Common.{◌≡◌, ◌+◌, ◌<◌, ◌≤◌, ◌++◌, ℕ, suc, List, [], ◌∷◌, Option, Some, None, length, take, drop, get_or, refl, rules, arith, sym, ◌∙◌, ap, append_assoc, append-nil, length-append, drop-cons}
use Rattle.std.proofs.Math.Seq.{take-append-add}
use Rattle.std.proofs.lemmas.List.{take-append-le, take-append-drop, take_more}
use Rattle.merlin_base.specs.Outside.{Grows, GrowsByPrefix}
use Rattle.merlin_base.specs.Texts.{joined}

pub Grows-none : (a : Option (List ℕ)) → Grows a a []
Grows-none None = refl
Grows-none (Some xs) = ap Some (search rules)

pub Grows-join : (a b c : Option (List ℕ)) (xs ys : List ℕ) → Grows a b xs → Grows b c ys → Grows a c (xs ++ ys)
Grows-join None None c xs ys ab bc = bc
Grows-join None (Some zs) c xs ys ab bc = cc
Grows-join (Some vs) None c xs ys ab bc = cc
Grows-join (Some vs) (Some zs) c xs ys ab bc =
    let e : zs ≡ vs ++ xs = cc in
    bc ∙ ap Some (ap (λ (us : List ℕ). us ++ ys) e ∙ append_assoc vs xs ys)

-- what was taken so far, a prefix of the next part, and the parts that were not reached
pub GrowsByPrefix-join : (a b c : Option (List ℕ)) (xs ys zs : List ℕ) → Grows a b xs → GrowsByPrefix b c ys → GrowsByPrefix a c (xs ++ (ys ++ zs))
GrowsByPrefix-join a b c xs ys zs ab bc =
    let within : bc.0 ≤ length ys = bc.1 in
    let front : take (length xs + bc.0) (xs ++ (ys ++ zs)) ≡ xs ++ take bc.0 ys = take-append-add xs (ys ++ zs) bc.0 ∙ ap (λ (us : List ℕ). xs ++ us) (take-append-le bc.0 ys zs within) in
    (length xs + bc.0, simp length-append (omega arith), rw front (Grows-join a b c xs (take bc.0 ys) ab bc.2))

joined-append : (xs ys : List (List ℕ)) → joined (xs ++ ys) ≡ joined xs ++ joined ys
joined-append [] ys = refl
joined-append (x ∷ xs) ys = ap (λ (us : List ℕ). x ++ us) (joined-append xs ys) ∙ sym (append_assoc x (joined xs) (joined ys))

-- texts up to a place, the one there, and the others
pub joined-split : (texts : List (List ℕ)) (i : ℕ) (d : List ℕ) → i < length texts → joined texts ≡ joined (take i texts) ++ (get_or texts i d ++ joined (drop (suc i) texts))
joined-split texts i d within =
    ap joined (sym (take-append-drop i texts)) ∙ joined-append (take i texts) (drop i texts) ∙ ap (λ (us : List (List ℕ)). joined (take i texts) ++ joined us) (drop-cons texts i d within)

pub joined-more : (texts : List (List ℕ)) (i : ℕ) (d : List ℕ) → i < length texts → joined (take (i + 1) texts) ≡ joined (take i texts) ++ get_or texts i d
joined-more texts i d within = rw (take_more texts i d within, joined-append (take i texts) (get_or texts i d ∷ [])) (ap (λ (us : List ℕ). joined (take i texts) ++ us) (append-nil (get_or texts i d)))
