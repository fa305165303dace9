-- Localised rates are at most the greatest rate of a term.
use Rattle.std.proofs.Common.{◌≡◌, ◌+◌, ◌*◌, ◌-◌, ◌/◌, ◌%◌, ◌≤◌, ◌<◌, ℕ, zero, suc, max, min, nat_lt, Bool, true, false, not, cond, List, [], ◌∷◌, filter, length, Option, None, Some, slice_get, refl, sym, ◌∙◌, ap, subst, arith}
use Rattle.std.specs.Prelude.{bytes_eq, filter_map, position, sum_by}
use Rattle.std.specs.List.{AllByRecursion, cons_option}
use Rattle.std.specs.Option.{option_map, option_map_or}
use Rattle.merlin_model.specs.declared.limits.TheConstants.{MAX_RATE}
use Rattle.merlin_model.specs.declared.policy.Term.{Term}
use Rattle.merlin_model.specs.Policies.{Policy, Statement}
use Rattle.merlin_model.specs.Rates.{share, share_in, ids_of, amount_of, constant_of_part, is_max, least_of, greatest_of, max_shares, min_shares, max_of, min_of}
use Rattle.policy_check.specs.Checked.{IsSoundPolicy}

share-small : (amount k i : ℕ) → share amount (suc k) i ≤ amount
share-small amount k i = by (nat_lt i (amount % suc k)) refl
  where
    by : (b : Bool) → nat_lt i (amount % suc k) ≡ b → (amount / suc k) + cond b 1 0 ≤ amount
    by true e = let less : i < amount % suc k = grind arith in omega (arith, less)
    by false e = omega arith

place-share : (amount : ℕ) (ids : List (List ℕ)) (id : List ℕ) (s : ℕ) → option_map (share amount (length ids)) (position (bytes_eq id) ids) ≡ Some s → s ≤ amount
place-share amount [] id s e = cc
place-share amount (x ∷ ids) id s e = by (position (bytes_eq id) (x ∷ ids)) e
  where
    by : (o : Option ℕ) → option_map (share amount (suc (length ids))) o ≡ Some s → s ≤ amount
    by None e = cc
    by (Some i) e = let same : share amount (suc (length ids)) i ≡ s = cc in let small = share-small amount (length ids) i in omega (arith, same, small)

amount-small : (term : Term) → amount_of term ≤ term.rate
amount-small term = omega arith

module _ (bound : ℕ) (id : List ℕ) where
  with-share : (term : Term) (o : Option ℕ) → term.rate ≤ bound → share_in id term ≡ o → (rest : List ℕ) → AllByRecursion (λ n. n ≤ bound) rest → AllByRecursion (λ n. n ≤ bound) (cons_option o rest)
  with-share term None small e rest all = all
  with-share term (Some s) small e rest all = let under = place-share (amount_of term) (ids_of term) id s e in let within = amount-small term in (omega (arith, under, within, small), all)

  all-small : (test : Term → Bool) (terms : List Term) → AllByRecursion (λ term. term.rate ≤ bound) terms → AllByRecursion (λ n. n ≤ bound) (filter_map (share_in id) (filter test terms))
  all-small test [] small = tt
  all-small test (term ∷ terms) small = by (test term) (all-small test terms small.1)
    where
      by : (b : Bool) → AllByRecursion (λ n. n ≤ bound) (filter_map (share_in id) (filter test terms)) → AllByRecursion (λ n. n ≤ bound) (filter_map (share_in id) (cond b (term ∷ filter test terms) (filter test terms)))
      by true rest = with-share term (share_in id term) small.0 refl (filter_map (share_in id) (filter test terms)) rest
      by false rest = rest

least-small : (bound : ℕ) (xs : List ℕ) (cap : ℕ) → AllByRecursion (λ n. n ≤ bound) xs → least_of xs ≡ Some cap → cap ≤ bound
least-small bound [] cap all e = cc
least-small bound (x ∷ xs) cap all e = by (least_of xs) e
  where
    by : (o : Option ℕ) → Some (option_map_or (min x) o x) ≡ Some cap → cap ≤ bound
    by None e = let same : x ≡ cap = cc in let small = all.0 in omega (arith, same, small)
    by (Some y) e = let same : min x y ≡ cap = cc in let small = all.0 in omega (arith, same, small)

greatest-small : (bound : ℕ) (xs : List ℕ) → AllByRecursion (λ n. n ≤ bound) xs → greatest_of xs ≤ bound
greatest-small bound [] all = omega arith
greatest-small bound (x ∷ xs) all = let small = all.0 in let rest = greatest-small bound xs all.1 in omega (arith, small, rest)

pub small-caps : (policy : Policy) (i cap : ℕ) → IsSoundPolicy policy → max_of policy i ≡ Some cap → cap ≤ MAX_RATE
small-caps policy i cap sound e = by (slice_get policy.statements i) e
  where
    by : (o : Option Statement) → option_map_or (λ s. least_of (max_shares s.id policy.terms)) o None ≡ Some cap → cap ≤ MAX_RATE
    by None e = cc
    by (Some s) e = least-small MAX_RATE (max_shares s.id policy.terms) cap (all-small MAX_RATE s.id (λ term. is_max term.bound) policy.terms sound.rates) e

pub small-guarantees : (policy : Policy) (i : ℕ) → IsSoundPolicy policy → min_of policy i ≤ MAX_RATE
small-guarantees policy i sound = by (slice_get policy.statements i)
  where
    by : (o : Option Statement) → option_map_or (λ s. greatest_of (min_shares s.id policy.terms)) o 0 ≤ MAX_RATE
    by None = omega arith
    by (Some s) = greatest-small MAX_RATE (min_shares s.id policy.terms) (all-small MAX_RATE s.id (λ term. not (is_max term.bound)) policy.terms sound.rates)
