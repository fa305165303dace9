-- The lines of a division, one after another.
use Rattle.std.proofs.Common.{◌≡◌, ℕ, zero, suc, ◌+◌, ◌≤◌, ◌<◌, List, [], ◌∷◌, ◌++◌, length, take, map, get_or, refl, sym, ◌∙◌, ap, ap₂, arith}
use Rattle.std.specs.List.{zip}
use Rattle.fair_share.specs.declared.cap.Cap.{Cap}
use Rattle.fair_share.specs.declared.cap.Tenant.{Tenant}
use Rattle.fair_share.specs.declared.share.Share.{Share}
use Rattle.fair_share.specs.ShareTexts.{share_line, IsShare}
use Rattle.fair_share.proofs.Rates.{no_share}
use Rattle.fair_share.proofs.WholeShares.{AreFor}

abbrev lines-for : List Cap → List Tenant → List Share → List (List ℕ)
lines-for caps ts ss = map (λ p. share_line caps p.0 p.1) (zip ts ss)

pub shares-count : (caps : List Cap) (ts : List Tenant) (ss : List Share) → AreFor caps ts ss → length ss ≡ length ts
shares-count caps [] [] a = refl
shares-count caps [] (s ∷ ss) a = absurd a
shares-count caps (t ∷ ts) [] a = absurd a
shares-count caps (t ∷ ts) (s ∷ ss) a = ap suc (shares-count caps ts ss a.1)

pub share-is : (caps : List Cap) (ts : List Tenant) (ss : List Share) (i : ℕ) → AreFor caps ts ss → i < length ts → IsShare caps (get_or ss i no_share)
share-is caps [] ss i a l = let no : ⊥ = omega arith in absurd no
share-is caps (t ∷ ts) [] i a l = absurd a
share-is caps (t ∷ ts) (s ∷ ss) zero a l = a.0
share-is caps (t ∷ ts) (s ∷ ss) (suc i) a l = share-is caps ts ss i a.1 (omega arith)

next-line : (caps : List Cap) (ts : List Tenant) (ss : List Share) (i : ℕ) (t : Tenant) → AreFor caps ts ss → i < length ts → t ≡ get_or ts i t →
    lines-for caps (take (suc i) ts) (take (suc i) ss) ≡ lines-for caps (take i ts) (take i ss) ++ share_line caps t (get_or ss i no_share) ∷ []
next-line caps [] ss i t a l e = let no : ⊥ = omega arith in absurd no
next-line caps (u ∷ ts) [] i t a l e = absurd a
next-line caps (u ∷ ts) (s ∷ ss) zero t a l e = ap (λ (v : Tenant). share_line caps v s ∷ []) (sym e)
next-line caps (u ∷ ts) (s ∷ ss) (suc i) t a l e = ap (λ z. share_line caps u s ∷ z) (next-line caps ts ss i t a.1 (omega arith) e)

pub lines-more : (caps : List Cap) (ts : List Tenant) (ss : List Share) (i : ℕ) (t : Tenant) (lines after : List (List ℕ)) (line : List ℕ) → lines ≡ lines-for caps (take i ts) (take i ss) → AreFor caps ts ss → i < length ts → t ≡ get_or ts i t →
    line ≡ share_line caps t (get_or ss i no_share) → after ≡ lines ++ line ∷ [] → after ≡ lines-for caps (take (i + 1) ts) (take (i + 1) ss)
lines-more caps ts ss i t lines after line so a l e is pushed =
    let one : suc i ≡ i + 1 = omega arith in
    pushed ∙ ap₂ (λ xs x. xs ++ x ∷ []) so is ∙ sym (next-line caps ts ss i t a l e) ∙ ap (λ n. lines-for caps (take n ts) (take n ss)) one

take-whole : {X : Type 0} (xs : List X) (n : ℕ) → length xs ≤ n → take n xs ≡ xs
take-whole [] zero l = refl
take-whole [] (suc n) l = refl
take-whole (x ∷ xs) zero l = let no : ⊥ = omega arith in absurd no
take-whole (x ∷ xs) (suc n) l = ap (λ ys. x ∷ ys) (take-whole xs n (omega arith))

pub lines-all : (caps : List Cap) (ts : List Tenant) (ss : List Share) (i : ℕ) (lines : List (List ℕ)) → lines ≡ lines-for caps (take i ts) (take i ss) → AreFor caps ts ss → length ts ≤ i → lines ≡ lines-for caps ts ss
lines-all caps ts ss i lines so a l = so ∙ ap₂ (lines-for caps) (take-whole ts i l) (take-whole ss i (let c = shares-count caps ts ss a in omega arith))
