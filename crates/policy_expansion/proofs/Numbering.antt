-- Statements that are added one after another, and their numbers.
use Rattle.std.proofs.Common.{◌≡◌, ◌+◌, ◌<◌, ℕ, suc, List, [], ◌∷◌, ◌++◌, length, take, get_or, map, refl, sym, ◌∙◌, ap, append_assoc, add-zero, Option, arith}
use Rattle.std.specs.Prelude.{flat_map, unwrap_or}
use Rattle.std.specs.List.{enumerate_from}
use Rattle.std.proofs.lemmas.List.{take_more, length-take-le, length-map, map-append}
use Rattle.std.proofs.lemmas.List.FromFn.{length-enumerate_from}
use Rattle.std.proofs.lemmas.List.Concat.{flat_map-append}
use Rattle.policy_grammar.specs.declared.written.Literal.{Literal}
use Rattle.policy_grammar.specs.declared.written.WrittenStatement.{WrittenStatement}
use Rattle.policy_grammar.specs.declared.written.Item.{Item}
use Rattle.policy_grammar.specs.declared.written.Item.TheVariants.{ForEach}
use Rattle.policy_expansion.specs.WrittenOut.{pairs, for_pair, written_out}
use Rattle.policy_expansion.specs.declared.writing.Written.{Written}
use Rattle.policy_expansion.specs.Expansion.{plain, terms_of}
use Rattle.policy_expansion.specs.Adding.{Adds}

-- what is added twice is added as one
pub adds_both : {a b c : Written} {xs ys : List WrittenStatement} → Adds a b xs → Adds b c ys → Adds a c (xs ++ ys)
adds_both {a} {b} {c} {xs} {ys} first second = record {
  statements =
      second.statements
      ∙ (ap (λ s. s ++ map plain ys) first.statements
      ∙ (append_assoc a.statements (map plain xs) (map plain ys)
      ∙ ap (λ s. a.statements ++ s) (sym (map-append plain xs ys))));
  terms =
      second.terms
      ∙ (ap (λ t. t ++ flat_map terms_of ys) first.terms
      ∙ (append_assoc a.terms (flat_map terms_of xs) (flat_map terms_of ys)
      ∙ ap (λ t. a.terms ++ t) (sym (flat_map-append terms_of xs ys))));
}

-- one more at the end takes the next number
enumerate_push : {X : Type 0} (n : ℕ) (xs : List X) (x : X) → enumerate_from n (xs ++ x ∷ []) ≡ enumerate_from n xs ++ (n + length xs, x) ∷ []
enumerate_push n [] x = ap (λ k. (k, x) ∷ []) (sym (add-zero n))
enumerate_push n (y ∷ xs) x =
    let next : (n + 1) + length xs ≡ n + suc (length xs) = omega arith in
    ap (λ rest. (n, y) ∷ rest) (enumerate_push (n + 1) xs x ∙ ap (λ k. enumerate_from (n + 1) xs ++ (k, x) ∷ []) next)

pub enumerate_more : {X : Type 0} (xs : List X) (i : ℕ) (d : X) → i < length xs → enumerate_from 1 (take (i + 1) xs) ≡ enumerate_from 1 (take i xs) ++ (i + 1, get_or xs i d) ∷ []
enumerate_more xs i d within =
    let long : length (take i xs) ≡ i = length-take-le i xs (omega arith) in
    let number : 1 + length (take i xs) ≡ i + 1 = omega (arith, long) in
    ap (enumerate_from 1) (take_more xs i d within) ∙ (enumerate_push 1 (take i xs) (get_or xs i d) ∙ ap (λ k. enumerate_from 1 (take i xs) ++ (k, get_or xs i d) ∷ []) number)

-- what an item with `foreach` stands for
module _ (known : List ℕ → Option (List Literal)) (item : Item) (outer inner : List ℕ) (s : WrittenStatement) (a b : List Literal) (is : item ≡ ForEach outer inner s)
    (from_outer : a ≡ unwrap_or (known outer) []) (from_inner : b ≡ unwrap_or (known inner) []) where
  pub each_written : (found : List (Literal × Literal)) → found ≡ pairs a b → map (for_pair s) (enumerate_from 1 found) ≡ written_out known item
  each_written found are = ap (λ ps. map (for_pair s) (enumerate_from 1 ps)) (are ∙ (λ k. pairs (from_outer k) (from_inner k))) ∙ ap (written_out known) (sym is)

  pub length_of_each : length (pairs a b) ≡ length (written_out known item)
  length_of_each = sym (length-map (enumerate_from 1 (pairs a b)) (for_pair s) ∙ length-enumerate_from 1 (pairs a b)) ∙ ap length (each_written (pairs a b) refl)

-- one more pair at the end has the statement with the next number
pub one_more_pair : (s : WrittenStatement) (pairs : List (Literal × Literal)) (i : ℕ) (d : Literal × Literal) (own : WrittenStatement) → own ≡ for_pair s (i + 1, get_or pairs i d) → i < length pairs
    → map (for_pair s) (enumerate_from 1 (take i pairs)) ++ own ∷ [] ≡ map (for_pair s) (enumerate_from 1 (take (i + 1) pairs))
one_more_pair s pairs i d own e within =
    ap (λ last. map (for_pair s) (enumerate_from 1 (take i pairs)) ++ last ∷ []) e
    ∙ (sym (map-append (for_pair s) (enumerate_from 1 (take i pairs)) ((i + 1, get_or pairs i d) ∷ [])) ∙ ap (map (for_pair s)) (sym (enumerate_more pairs i d within)))
