-- What is well formed as it is written stays so.
use Rattle.std.proofs.Common.{◌≡◌, ◌≢◌, ◌+◌, ◌≤◌, inl, inr, ℕ, Bool, true, false, cond, List, [], ◌∷◌, ◌++◌, map, filter, Some, option_map, subst}
use Rattle.std.specs.Prelude.{find, flat_map, unwrap_or, Ok}
use Rattle.std.specs.List.{enumerate_from, AllByRecursion}
use Rattle.merlin_model.specs.declared.policy.Field.TheVariants.{EthSrc, EthDst, IpSrc, IpDst}
use Rattle.merlin_model.specs.declared.policy.Pred.{Pred, All}
use Rattle.merlin_model.specs.declared.policy.Pred.TheBlock.{hidden-the_row-Pred-0}
use denote.Hole.Carrier.{hidden}
use Rattle.merlin_model.specs.Predicates.{IsPred, IsPort}
use Rattle.policy_grammar.specs.declared.written.Literal.{Literal}
use Rattle.policy_grammar.specs.declared.written.Literal.TheVariants.{Mac, Ip}
use Rattle.policy_grammar.specs.declared.written.Limit.{Limit}
use Rattle.policy_grammar.specs.declared.written.WrittenSet.{WrittenSet}
use Rattle.policy_grammar.specs.declared.written.WrittenStatement.{WrittenStatement}
use Rattle.policy_grammar.specs.declared.written.Item.{Item}
use Rattle.policy_grammar.specs.declared.written.Item.TheVariants.{One, ForEach}
use Rattle.policy_grammar.specs.declared.written.WrittenPolicy.{WrittenPolicy}
use Rattle.policy_expansion.specs.declared.policy.Policy.{Policy}
use Rattle.policy_expansion.specs.WrittenOut.{unlike, first_places, has_name, known_literals, pairs_from, pairs, from_source, to_destination, for_pair, written_out, statements_of}
use Rattle.policy_expansion.specs.Faults.{fault_of}
use Rattle.policy_expansion.specs.Expansion.{plain, term_of, terms_of, policy_of, expansion}
use Rattle.policy_expansion.specs.Kept.{IsLiteral, IsTerm, IsStatement, statement_in, IsWellWritten, IsWellFormed}
use Rattle.policy_expansion.proofs.Differing.{told}

-- what holds of each element, of lists that are made of others

all_append : {X : Type 0} (P : X → Type 0) (xs ys : List X) → AllByRecursion P xs → AllByRecursion P ys → AllByRecursion P (xs ++ ys)
all_append P [] ys h k = k
all_append P (x ∷ xs) ys h k = (h.0, all_append P xs ys h.1 k)

all_map : {X Y : Type 0} (P : X → Type 0) (Q : Y → Type 0) (f : X → Y) → ((x : X) → P x → Q (f x)) → (xs : List X) → AllByRecursion P xs → AllByRecursion Q (map f xs)
all_map P Q f step [] h = tt
all_map P Q f step (x ∷ xs) h = (step x h.0, all_map P Q f step xs h.1)

all_flat_map : {X Y : Type 0} (P : X → Type 0) (Q : Y → Type 0) (f : X → List Y) → ((x : X) → P x → AllByRecursion Q (f x)) → (xs : List X) → AllByRecursion P xs → AllByRecursion Q (flat_map f xs)
all_flat_map P Q f step [] h = tt
all_flat_map P Q f step (x ∷ xs) h = all_append Q (f x) (flat_map f xs) (step x h.0) (all_flat_map P Q f step xs h.1)

all_filter : {X : Type 0} (P : X → Type 0) (test : X → Bool) (xs : List X) → AllByRecursion P xs → AllByRecursion P (filter test xs)
all_filter P test [] h = tt
all_filter {X} P test (x ∷ xs) h = by (test x) (all_filter P test xs h.1)
  where
    by : (b : Bool) → AllByRecursion P (filter test xs) → AllByRecursion P (cond b (x ∷ filter test xs) (filter test xs))
    by true rest = (h.0, rest)
    by false rest = rest

all_numbered : {X : Type 0} (P : X → Type 0) (n : ℕ) (xs : List X) → AllByRecursion P xs → AllByRecursion (λ (e : ℕ × X). P e.1) (enumerate_from n xs)
all_numbered P n [] h = tt
all_numbered P n (x ∷ xs) h = (h.0, all_numbered P (n + 1) xs h.1)

-- literals

literals_stay : (literals : List Literal) → AllByRecursion IsLiteral literals → AllByRecursion IsLiteral (first_places literals)
literals_stay [] h = tt
literals_stay (a ∷ others) h = (h.0, all_filter IsLiteral (unlike a) (first_places others) (literals_stay others h.1))

literals_known : (sets : List WrittenSet) (name : List ℕ) → AllByRecursion (λ set. AllByRecursion IsLiteral set.literals) sets → AllByRecursion IsLiteral (unwrap_or (known_literals sets name) [])
literals_known [] name h = tt
literals_known (set ∷ sets) name h = by (has_name name set) (literals_known sets name h.1)
  where
    by : (b : Bool) → AllByRecursion IsLiteral (unwrap_or (known_literals sets name) []) → AllByRecursion IsLiteral (unwrap_or (option_map (λ found. first_places found.literals) (cond b (Some set) (find (has_name name) sets))) [])
    by true rest = literals_stay set.literals h.0
    by false rest = rest

abbrev IsPair : Literal × Literal → Type 0
IsPair pair = IsLiteral pair.0 × IsLiteral pair.1

pairs_stay : (outer inner : List Literal) → AllByRecursion IsLiteral outer → AllByRecursion IsLiteral inner → AllByRecursion IsPair (pairs outer inner)
pairs_stay outer inner h k = all_flat_map IsLiteral IsPair (pairs_from inner) (λ a ia. all_map IsLiteral IsPair (λ b. (a, b)) (λ b ib. (ia, ib)) (filter (unlike a) inner) (all_filter IsLiteral (unlike a) inner k)) outer h

-- predicates

source_formed : (a : Literal) → IsLiteral a → IsPred (from_source a)
source_formed (Mac a) h = (no, h)
  where
    no : IsPort EthSrc → ⊥
    no (inl e) = cc
    no (inr e) = cc
source_formed (Ip a) h = (no, h)
  where
    no : IsPort IpSrc → ⊥
    no (inl e) = cc
    no (inr e) = cc

destination_formed : (b : Literal) → IsLiteral b → IsPred (to_destination b)
destination_formed (Mac b) h = (no, h)
  where
    no : IsPort EthDst → ⊥
    no (inl e) = cc
    no (inr e) = cc
destination_formed (Ip b) h = (no, h)
  where
    no : IsPort IpDst → ⊥
    no (inl e) = cc
    no (inr e) = cc

all_formed : (preds : List Pred) → AllByRecursion IsPred preds → IsPred (All preds)
unfolding hidden-the_row-Pred-0 hidden
all_formed [] h = tt
all_formed (pred ∷ rest) h = (h.0, all_formed rest h.1)

pair_formed : (s : WrittenStatement) (e : ℕ × (Literal × Literal)) → IsStatement s → IsPair e.1 → IsStatement (for_pair s e)
pair_formed s e h k = (all_formed (from_source e.1.0 ∷ to_destination e.1.1 ∷ s.pred ∷ []) (source_formed e.1.0 k.0, (destination_formed e.1.1 k.1, (h.0, tt))), h.1)

-- statements and terms

item_formed : (w : WrittenPolicy) → IsWellWritten w → (item : Item) → IsStatement (statement_in item) → AllByRecursion IsStatement (written_out (known_literals w.sets) item)
item_formed w ok (One s) h = (h, tt)
item_formed w ok (ForEach outer inner s) h =
    let a = unwrap_or (known_literals w.sets outer) [] in
    let b = unwrap_or (known_literals w.sets inner) [] in
    let ps = pairs_stay a b (literals_known w.sets outer ok.literals) (literals_known w.sets inner ok.literals) in
    all_map (λ (e : ℕ × (Literal × Literal)). IsPair e.1) IsStatement (for_pair s) (λ e k. pair_formed s e h k) (enumerate_from 1 (pairs a b)) (all_numbered IsPair 1 (pairs a b) ps)

term_formed : (id : List ℕ) (limit : Limit) → limit.rate ≤ 1000000000 → IsTerm (term_of id limit)
term_formed id limit h = (some, (tt, tt), h)
  where
    some : (id ∷ []) ≢ []
    some e = cc

pub is_well_formed : (w : WrittenPolicy) (policy : Policy) → IsWellWritten w → expansion w ≡ Ok policy → IsWellFormed policy
is_well_formed w policy ok e =
    let t = told (fault_of w) (policy_of w) policy e in
    let whole = all_flat_map (λ item. IsStatement (statement_in item)) IsStatement (written_out (known_literals w.sets)) (item_formed w ok) w.items ok.statements in
    subst IsWellFormed t.1 (record {
      preds = all_map IsStatement (λ s. IsPred s.pred) plain (λ s h. h.0) (statements_of w) whole;
      terms = all_append IsTerm (flat_map terms_of (statements_of w)) w.terms (all_flat_map IsStatement IsTerm terms_of (λ s h. all_map (λ limit. limit.rate ≤ 1000000000) IsTerm (term_of s.id) (term_formed s.id) s.limits h.1) (statements_of w) whole) ok.terms;
    })
