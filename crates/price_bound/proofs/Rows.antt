-- Weights of rows that follow each other.
use Rattle.std.proofs.Common.{◌≡◌, ℕ, zero, suc, ◌+◌, ◌<◌, ◌==◌, true, false, List, [], ◌∷◌, ◌++◌, take, length, Option, None, Some, get_or, add-one, refl, sym, ◌∙◌, ap, arith}
use Rattle.std.proofs.lemmas.List.{append-nil, take_all}
use Rattle.merlin_model.specs.declared.certificate.Weight.{Weight}
use Rattle.merlin_model.specs.declared.network.DirectedLink.{DirectedLink}
use Rattle.cutoff_program.specs.declared.flow.Problem.{Problem}
use Rattle.cutoff_program.specs.Flows.{count_if}
use Rattle.price_candidates.specs.Leaves.{Pricing, Bare, Lengths, OnLink, IsPriced, with_weight, weights_from, flow_weights, link_weights, link_of, prices_lengths, leaf_from}
use Rattle.price_bound.specs.Priced.{rest, IsPricedIn}

pub together : (n m : ℕ) (ws vs : List Weight) → with_weight n m ws ++ vs ≡ with_weight n m (ws ++ vs)
together n zero ws vs = refl
together n (suc m) ws vs = refl

pub weights-append : (n : ℕ) (xs ys : List ℕ) → weights_from n (xs ++ ys) ≡ weights_from n xs ++ weights_from (n + length xs) ys
weights-append n [] ys = let e : n ≡ n + 0 = omega arith in ap (λ k. weights_from k ys) e
weights-append n (x ∷ xs) ys =
    let e : n + 1 + length xs ≡ n + suc (length xs) = omega arith in
    ap (with_weight n x) (weights-append (n + 1) xs ys ∙ ap (λ k. weights_from (n + 1) xs ++ weights_from k ys) e) ∙ sym (together n x (weights_from (n + 1) xs) (weights_from (n + suc (length xs)) ys))

take-more : (xs : List ℕ) (i d : ℕ) → i < length xs → take (i + 1) xs ≡ take i xs ++ get_or xs i d ∷ []
take-more [] i d h = let bad : ⊥ = omega arith in absurd bad
take-more (x ∷ xs) zero d h = refl
take-more (x ∷ xs) (suc i) d h = rw add-one (ap (λ ys. x ∷ ys) (sym (ap (λ n. take n xs) (add-one i)) ∙ take-more xs i d (omega arith)))

length-take : (xs : List ℕ) (i : ℕ) → i < length xs → length (take i xs) ≡ i
length-take [] i h = let bad : ⊥ = omega arith in absurd bad
length-take (x ∷ xs) zero h = refl
length-take (x ∷ xs) (suc i) h = ap suc (length-take xs i (omega arith))

pub one-more : (xs : List ℕ) (i d : ℕ) (before after : List Weight) → i < length xs → before ≡ weights_from 0 (take i xs) → after ≡ before ++ with_weight i (get_or xs i d) [] → after ≡ weights_from 0 (take (i + 1) xs)
one-more xs i d before after h was put =
    let e : 0 + length (take i xs) ≡ i = let l = length-take xs i h in omega arith in
    put ∙ ap (λ ws. ws ++ with_weight i (get_or xs i d) []) was
    ∙ sym (ap (weights_from 0) (take-more xs i d h) ∙ weights-append 0 (take i xs) (get_or xs i d ∷ []) ∙ ap (λ k. weights_from 0 (take i xs) ++ weights_from k (get_or xs i d ∷ [])) e)

none : (n k : ℕ) (links : List DirectedLink) → weights_from k (link_weights None n links) ≡ []
none n k [] = refl
none n k (c ∷ cs) = none (n + 1) (k + 1) cs

before : (link n k : ℕ) (links : List DirectedLink) → link < n → weights_from k (link_weights (Some link) n links) ≡ []
before link n k [] h = refl
before link n k (c ∷ cs) h =
    let other : (link == n) ≡ false = grind arith in
    ap (λ b. with_weight k (count_if b 1) (weights_from (k + 1) (link_weights (Some link) (n + 1) cs))) other ∙ before link (n + 1) (k + 1) cs (omega arith)

at-link : (link n k j : ℕ) (links : List DirectedLink) → link ≡ n + j → j < length links → weights_from k (link_weights (Some link) n links) ≡ with_weight (k + j) 1 []
at-link link n k j [] e h = let bad : ⊥ = omega arith in absurd bad
at-link link n k zero (c ∷ cs) e h =
    let same : (link == n) ≡ true = grind arith in
    let at : k ≡ k + 0 = omega arith in
    ap (λ b. with_weight k (count_if b 1) (weights_from (k + 1) (link_weights (Some link) (n + 1) cs))) same
    ∙ ap (with_weight k 1) (before link (n + 1) (k + 1) cs (omega arith)) ∙ ap (λ i. with_weight i 1 []) at
at-link link n k (suc j) (c ∷ cs) e h =
    let other : (link == n) ≡ false = grind arith in
    let at : k + 1 + j ≡ k + suc j = omega arith in
    ap (λ b. with_weight k (count_if b 1) (weights_from (k + 1) (link_weights (Some link) (n + 1) cs))) other
    ∙ at-link link (n + 1) (k + 1) j cs (omega arith) (omega arith) ∙ ap (λ i. with_weight i 1 []) at

link-size : (link : Option ℕ) (n : ℕ) (links : List DirectedLink) → length (link_weights link n links) ≡ length links
link-size link n [] = refl
link-size link n (c ∷ cs) = ap suc (link-size link (n + 1) cs)

rest-is : (problem : Problem) (pricing : Pricing) (k : ℕ) → IsPriced problem pricing →
    weights_from k (link_weights (link_of pricing) 0 problem.links) ++ weights_from (k + length (link_weights (link_of pricing) 0 problem.links)) (count_if (prices_lengths pricing) 1 ∷ []) ≡ rest (length problem.links) pricing k
rest-is problem Bare k is = ap (λ ws. ws ++ []) (none 0 k problem.links)
rest-is problem Lengths k is =
    ap (λ ws. ws ++ weights_from (k + length (link_weights None 0 problem.links)) (1 ∷ [])) (none 0 k problem.links)
    ∙ ap (λ n. weights_from (k + n) (1 ∷ [])) (link-size None 0 problem.links)
rest-is problem (OnLink link) k is = append-nil (weights_from k (link_weights (Some link) 0 problem.links)) ∙ at-link link 0 k link problem.links (omega arith) is

pub whole : (problem : Problem) (numbers : ℕ → ℕ → ℕ) (pricing : Pricing) (flat : List ℕ) (n : ℕ) (before after : List Weight) → IsPriced problem pricing → flat ≡ flow_weights numbers 0 problem.flows → n ≡ length flat → before ≡ weights_from 0 (take n flat) →
    after ≡ before ++ rest (length problem.links) pricing (length flat) → after ≡ leaf_from problem numbers pricing
whole problem numbers pricing flat n before after is flat_is size was put =
    put ∙ ap (λ ws. ws ++ rest (length problem.links) pricing (length flat)) (was ∙ ap (weights_from 0) (take_all n flat (omega arith)))
    ∙ sym (ap (λ f. weights_from 0 (f ++ (link_weights (link_of pricing) 0 problem.links ++ count_if (prices_lengths pricing) 1 ∷ []))) (sym flat_is)
    ∙ parts)
  where
    links : List ℕ
    links = link_weights (link_of pricing) 0 problem.links

    last : List ℕ
    last = count_if (prices_lengths pricing) 1 ∷ []

    parts : weights_from 0 (flat ++ (links ++ last)) ≡ weights_from 0 flat ++ rest (length problem.links) pricing (length flat)
    parts =
        weights-append 0 flat (links ++ last)
        ∙ ap (λ k. weights_from 0 flat ++ weights_from k (links ++ last)) (let e : 0 + length flat ≡ length flat = omega arith in e)
        ∙ ap (λ ws. weights_from 0 flat ++ ws) (weights-append (length flat) links last ∙ rest-is problem pricing (length flat) is)

pub priced-is : (problem : Problem) (pricing : Pricing) (links : ℕ) → links ≡ length problem.links → IsPricedIn links pricing → IsPriced problem pricing
priced-is problem Bare links e is = tt
priced-is problem Lengths links e is = tt
priced-is problem (OnLink link) links e is = omega arith
