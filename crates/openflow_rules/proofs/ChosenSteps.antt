-- The groups of a plan with their branches, one leader after the other.
use Rattle.std.proofs.Common.{◌≡◌, ◌≤◌, ◌<◌, ◌+◌, ◌⊎◌, inl, inr, ℕ, suc, List, [], ◌∷◌, ◌++◌, length, drop, take, get_or, slice_get, Option, None, Some, refl, sym, ◌∙◌, ap, subst, arith}
use Rattle.std.specs.Prelude.{MatchOption}
use Rattle.std.specs.List.{AllZip, enumerate_from, flat_map}
use Rattle.merlin_model.specs.declared.policy.Ends.{Ends}
use Rattle.merlin_model.specs.declared.policy.Symbol.{Symbol}
use Rattle.merlin_model.specs.Networks.{Network}
use Rattle.rules_model.specs.Products.{Group}
use Rattle.rules_model.specs.Tables.{all_hosts}
use Rattle.product_graph.proofs.Lists.{none-some, get-below, get-snoc, length-more, map-length, take-more}
use Rattle.policy_check.specs.Checked.{CheckedPolicy}
use Rattle.rule_tables.specs.declared.branches.Branch.{Branch}
use Rattle.rule_tables.specs.declared.branches.GroupBranches.{GroupBranches}
use Rattle.openflow_rules.specs.declared.spans.GroupSpan.{GroupSpan}
use Rattle.openflow_rules.specs.GroupSpans.{ends_for, span_to, spans_by, spans_over}
use Rattle.openflow_rules.specs.Gathered.{IsBranchFor}
use Rattle.openflow_rules.specs.WalkGroups.{IsPlaceFor, IsGroupWith, IsGroupFor, AreGroupsFor}
use Rattle.openflow_rules.proofs.Steps.{drop-more, take-long}

-- What stands beside the parts of a list.

zip-length : {X Y : Type 0} (R : X → Y → Type 0) (xs : List X) (ys : List Y) → AllZip R xs ys → length xs ≡ length ys
zip-length R [] [] h = refl
zip-length R [] (y ∷ ys) h = absurd h
zip-length R (x ∷ xs) [] h = absurd h
zip-length R (x ∷ xs) (y ∷ ys) h = ap suc (zip-length R xs ys h.1)

zip-front : {X Y : Type 0} (R : X → Y → Type 0) (xs us : List X) (ys : List Y) → AllZip R (xs ++ us) ys → AllZip R xs (take (length xs) ys)
zip-front R [] us [] h = tt
zip-front R [] us (y ∷ ys) h = tt
zip-front R (x ∷ xs) us [] h = absurd h
zip-front R (x ∷ xs) us (y ∷ ys) h = (h.0, zip-front R xs us ys h.1)

zip-back : {X Y : Type 0} (R : X → Y → Type 0) (xs us : List X) (ys : List Y) → AllZip R (xs ++ us) ys → AllZip R us (drop (length xs) ys)
zip-back R [] us [] h = h
zip-back R [] us (y ∷ ys) h = h
zip-back R (x ∷ xs) us [] h = absurd h
zip-back R (x ∷ xs) us (y ∷ ys) h = zip-back R xs us ys h.1

long-front : {X : Type 0} (xs us : List X) → length xs ≤ length (xs ++ us)
long-front [] us = omega arith
long-front (x ∷ xs) us = let le = long-front xs us in omega (arith, le)

drop-none : {X : Type 0} (xs : List X) → drop 0 xs ≡ xs
drop-none [] = refl
drop-none (x ∷ xs) = refl

take-none : {X : Type 0} (xs : List X) → take 0 xs ≡ []
take-none [] = refl
take-none (x ∷ xs) = refl

-- the products of a group are as many as its place says
pub products-long : (hosts : List ℕ) (ends : List Ends) (g j : ℕ) (place : Option ℕ) (count : ℕ) → IsPlaceFor ends j place → MatchOption place (count ≡ length hosts) (λ k. count ≡ 1) → count ≡ length (spans_by hosts g j (ends_for ends j))
products-long hosts ends g j None count p is = is ∙ sym (map-length (span_to g j) hosts) ∙ sym (ap (λ o. length (spans_by hosts g j o)) p)
products-long hosts ends g j (Some k) count p is = is ∙ sym (ap (λ o. length (spans_by hosts g j o)) p.2)

module _ (net : Network) (checked : CheckedPolicy) (ends : List Ends) (walks : List (List Symbol)) (bare : List Group) where
  abbrev own_spans : ℕ → ℕ → List GroupSpan
  own_spans g j = spans_by (all_hosts net) g j (ends_for ends j)

  abbrev spans_from : ℕ → List ℕ → List GroupSpan
  spans_from n leaders = flat_map (λ l. spans_by (all_hosts net) l.0 l.1 (ends_for ends l.1)) (enumerate_from n leaders)

  -- the groups of the first so many leaders are made, and these branches are left for the others
  pub record AreMadeTo (leaders : List ℕ) (n : ℕ) (rest : List Branch) (made : List GroupBranches) : Type 0 where
    pub rest_are : AllZip (IsBranchFor net bare) (spans_from n (drop n leaders)) rest
    pub made_are : AreGroupsFor net checked ends walks bare (take n leaders) made

  pub made-none : (leaders : List ℕ) (branches : List Branch) (made : List GroupBranches) → made ≡ [] → AllZip (IsBranchFor net bare) (spans_over (all_hosts net) ends leaders) branches → AreMadeTo leaders 0 branches made
  made-none leaders branches made none h = record {
    rest_are = subst (λ l. AllZip (IsBranchFor net bare) (spans_from 0 l) branches) (sym (drop-none leaders)) h;
    made_are = record {
      size = ap length none ∙ sym (ap length (take-none leaders));
      each = λ g j group at_g e. absurd (none-some (ap (λ l. slice_get l g) (sym none) ∙ e));
    };
  }

  -- one more leader
  module _ (leaders : List ℕ) (n : ℕ) (rest : List Branch) (made : List GroupBranches) (h : AreMadeTo leaders n rest made) (lt : n < length leaders) (j : ℕ) (is_j : j ≡ get_or leaders n 0) where
    here : drop n leaders ≡ j ∷ drop (n + 1) leaders
    here = drop-more leaders n 0 lt ∙ ap (λ i. i ∷ drop (n + 1) leaders) (sym is_j)

    split : AllZip (IsBranchFor net bare) (own_spans n j ++ spans_from (n + 1) (drop (n + 1) leaders)) rest
    split = subst (λ l. AllZip (IsBranchFor net bare) (spans_from n l) rest) here h.rest_are

    pub enough : (count : ℕ) → count ≡ length (own_spans n j) → count ≤ length rest
    enough count is =
        let same = zip-length (IsBranchFor net bare) (own_spans n j ++ spans_from (n + 1) (drop (n + 1) leaders)) rest split in
        let le = long-front (own_spans n j) (spans_from (n + 1) (drop (n + 1) leaders)) in
        omega (arith, is, same, le)

    size-n : length made ≡ n
    size-n = h.made_are.size ∙ take-long leaders n (omega (arith, lt))

    pub made-next : (place : Option ℕ) (count : ℕ) (own others : List Branch) (group : GroupBranches) (more : List GroupBranches) → IsPlaceFor ends j place → count ≡ length (own_spans n j) → own ≡ take count rest → others ≡ drop count rest →
        IsGroupWith net checked ends walks j own place group → more ≡ made ++ group ∷ [] → AreMadeTo leaders (n + 1) others more
    made-next place count own others group more at_place is front back group_is grown = record {
      rest_are = subst (AllZip (IsBranchFor net bare) (spans_from (n + 1) (drop (n + 1) leaders))) (sym (back ∙ ap (λ k. drop k rest) is)) (zip-back (IsBranchFor net bare) (own_spans n j) (spans_from (n + 1) (drop (n + 1) leaders)) rest split);
      made_are = subst (λ l. AreGroupsFor net checked ends walks bare l more) (sym (take-more leaders n 0 lt ∙ ap (λ i. take n leaders ++ i ∷ []) (sym is_j))) (record {
        size = ap length grown ∙ length-more made group ∙ ap suc h.made_are.size ∙ sym (length-more (take n leaders) j);
        each = λ g i x at_g e. by g i x (get-snoc (take n leaders) j g i at_g) (get-snoc made group g x (ap (λ l. slice_get l g) (sym grown) ∙ e));
      });
    }
      where
        this : IsGroupFor net checked ends walks bare n j group
        this = record {
          place = place;
          place_is = at_place;
          own = own;
          own_are = subst (AllZip (IsBranchFor net bare) (own_spans n j)) (sym (front ∙ ap (λ k. take k rest) is)) (zip-front (IsBranchFor net bare) (own_spans n j) (spans_from (n + 1) (drop (n + 1) leaders)) rest split);
          is = group_is;
        }

        by : (g i : ℕ) (x : GroupBranches) → (slice_get (take n leaders) g ≡ Some i) ⊎ ((g ≡ length (take n leaders)) × (j ≡ i)) → (slice_get made g ≡ Some x) ⊎ ((g ≡ length made) × (group ≡ x)) → IsGroupFor net checked ends walks bare g i x
        by g i x (inl a) (inl b) = h.made_are.each g i x a b
        by g i x (inl a) (inr b) =
            let below = get-below (take n leaders) g i a in
            let size = h.made_are.size in
            let e = b.0 in
            absurd (omega (arith, below, size, e))
        by g i x (inr a) (inl b) =
            let below = get-below made g x b in
            let size = h.made_are.size in
            let e = a.0 in
            absurd (omega (arith, below, size, e))
        by g i x (inr a) (inr b) =
            subst (λ m. IsGroupFor net checked ends walks bare m i x) (sym (b.0 ∙ size-n))
            (subst (λ m. IsGroupFor net checked ends walks bare n m x) a.1 (subst (λ y. IsGroupFor net checked ends walks bare n j y) b.1 this))

  pub made-all : (leaders : List ℕ) (n : ℕ) (rest : List Branch) (made : List GroupBranches) → AreMadeTo leaders n rest made → take n leaders ≡ leaders → AreGroupsFor net checked ends walks bare leaders made
  made-all leaders n rest made h all = subst (λ l. AreGroupsFor net checked ends walks bare l made) all h.made_are
