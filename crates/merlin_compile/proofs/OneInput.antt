-- Two texts stand for one input: one network, one policy over it, and one pair of hosts for each guarantee.
use Rattle.std.proofs.Common.{◌≡◌, ◌≢◌, inl, inr, ℕ, List, [], ◌∷◌, map, Ok, Err, Contains, refl, sym, ◌∙◌, ap, ap₂, subst}
use Rattle.std.specs.List.{AllByRecursion}
use Rattle.merlin_model.specs.declared.policy.Ends.{Ends}
use Rattle.merlin_model.specs.declared.policy.Objective.{Objective}
use Rattle.merlin_model.specs.declared.policy.Symbol.{Symbol}
use Rattle.merlin_model.specs.Networks.{Network}
use Rattle.merlin_model.specs.Policies.{Policy as NumberedPolicy}
use Rattle.merlin_model.specs.Rates.{IsGuaranteed}
use Rattle.merlin_model.specs.Assignments.{HasTraffic, AreTheEnds, AreAllEnds}
use Rattle.merlin_model.proofs.Members.{in_from, in_map, all_in}
use Rattle.merlin_model.proofs.Ascending.{ascending-same}
use Rattle.cutoff_program.specs.declared.flow.Problem.{Problem}
use Rattle.policy_expansion.specs.declared.policy.Policy.{Policy}
use Rattle.policy_parser.specs.declared.fault.PolicyFault.{PolicyFault}
use Rattle.policy_parser.specs.declared.fault.PolicyFault.TheVariants as policy_faults
use Rattle.policy_parser.specs.Policies.{IsPolicyText, IsRefused, AreOneReading}
use Rattle.policy_parser.proofs.Once.{one_reading}
use Rattle.policy_check.specs.Checked.{CheckedPolicy}
use Rattle.policy_flows.specs.Layouts.{IsLayout}
use Rattle.topology_rules.specs.Faults.{IsTopology}
use Rattle.walk_search.specs.Parts.{checked_parts}
use Rattle.merlin_compile.specs.Input.{WasChecked, HasOnePairs, IsInput}

-- a text stands for one policy, and is not refused then

not-one : (policy : Policy) (fault : PolicyFault) → fault ≢ policy_faults.OutOfMemory → AreOneReading (Ok policy) (Err fault) → ⊥
not-one policy fault known (inl e) = cc
not-one policy fault known (inr (inl e)) = let memory : fault ≡ policy_faults.OutOfMemory = cc in known memory
not-one policy fault known (inr (inr e)) = cc

pub not-refused : (text : List ℕ) (policy : Policy) (fault : PolicyFault) → fault ≢ policy_faults.OutOfMemory → IsPolicyText text policy → IsRefused fault text → ⊥
not-refused text policy fault known stands refused = not-one policy fault known (one_reading text (Ok policy) (Err fault) stands refused)

same : (p q : Policy) → AreOneReading (Ok p) (Ok q) → p ≡ q
same p q (inl e) = cc
same p q (inr (inl e)) = cc
same p q (inr (inr e)) = cc

pub one-policy : (text : List ℕ) (p q : Policy) → IsPolicyText text p → IsPolicyText text q → p ≡ q
one-policy text p q stands too = same p q (one_reading text (Ok p) (Ok q) stands too)

-- the ends of all guaranteed statements are one list

end-one : (net : Network) (policy : NumberedPolicy) (e f : Ends) → AreTheEnds net policy e → AreTheEnds net policy f → e.statement ≡ f.statement → e ≡ f
end-one net policy e f h k statement =
    let hosts = k.only e.src e.dst (subst (λ i. HasTraffic net policy i e.src e.dst) statement h.traffic) in
    let src : e.src ≡ f.src = hosts.0 in
    let dst : e.dst ≡ f.dst = hosts.1 in
    λ i. record { statement = statement i; src = src i; dst = dst i }

first-same : {X : Type 0} {x y : X} {xs ys : List X} → x ∷ xs ≡ y ∷ ys → x ≡ y
first-same e = cc

rest-same : {X : Type 0} {x y : X} {xs ys : List X} → x ∷ xs ≡ y ∷ ys → xs ≡ ys
rest-same e = cc

not-empty : {X : Type 0} {x : X} {xs : List X} → [] ≡ x ∷ xs → ⊥
not-empty e = cc

ends-by : (net : Network) (policy : NumberedPolicy) (es fs : List Ends) → AllByRecursion (AreTheEnds net policy) es → AllByRecursion (AreTheEnds net policy) fs →
    map (λ e. e.statement) es ≡ map (λ e. e.statement) fs → es ≡ fs
ends-by net policy [] [] all too e = refl
ends-by net policy [] (f ∷ fs) all too e = absurd (not-empty e)
ends-by net policy (e ∷ es) [] all too h = absurd (not-empty (sym h))
ends-by net policy (e ∷ es) (f ∷ fs) all too h = ap₂ (λ x xs. x ∷ xs) (end-one net policy e f all.0 too.0 (first-same h)) (ends-by net policy es fs all.1 too.1 (rest-same h))

among : (net : Network) (policy : NumberedPolicy) (es fs : List Ends) → AreAllEnds net policy es → AreAllEnds net policy fs → (i : ℕ) → Contains (map (λ e. e.statement) es) i → Contains (map (λ e. e.statement) fs) i
among net policy es fs all too i c =
    let found = in_map (λ e. e.statement) es i (in_from (map (λ e. e.statement) es) i c) in
    too.all i (subst (IsGuaranteed policy) (sym found.2) (all_in (AreTheEnds net policy) es found.0 all.each found.1).guaranteed)

pub one-ends : (net : Network) (policy : NumberedPolicy) (es fs : List Ends) → AreAllEnds net policy es → AreAllEnds net policy fs → es ≡ fs
one-ends net policy es fs all too =
    ends-by net policy es fs all.each too.each
    (ascending-same (map (λ e. e.statement) es) (map (λ e. e.statement) fs) all.ascending too.ascending (λ i. (among net policy es fs all too i, among net policy fs es too all i)))

-- two checks of one policy have one policy over numbers, and so one list of ends
module _ (net : Network) (raw : Policy) (checked other : CheckedPolicy) where
  pub numbered-same : WasChecked net raw checked → WasChecked net raw other → checked.policy ≡ other.policy
  numbered-same was has = was.is_check.policy ∙ sym has.is_check.policy

  pub ends-same : (ends more : List Ends) → HasOnePairs net raw checked ends → HasOnePairs net raw other more → ends ≡ more
  ends-same ends more pairs too =
      one-ends net checked.policy ends more pairs.ends_are.are (subst (λ p. AreAllEnds net p more) (sym (numbered-same pairs.was too.was)) too.ends_are.are)

module _ (one_net : (bytes : List ℕ) (net other : Network) → IsTopology bytes net → IsTopology bytes other → net ≡ other) (p t : List ℕ) where
  -- what an input is about, another is about too
  module _ (n : Network) (c d : CheckedPolicy) (es fs : List Ends) where
    pairs-of : IsInput p t n c es → (j : IsInput p t n d fs) → HasOnePairs n j.raw c es
    pairs-of i j = subst (λ r. HasOnePairs n r c es) (one-policy p i.raw j.raw i.read.stands j.read.stands) i.rules.pairs

    both : (P : Network → NumberedPolicy → List Ends → Type 0) → IsInput p t n c es → IsInput p t n d fs → P n c.policy es → P n d.policy fs
    both P i j h =
        let pairs = pairs-of i j in
        let ends = ends-same n j.raw c d es fs pairs j.rules.pairs in
        subst (P n d.policy) ends (subst (λ q. P n q es) (numbered-same n j.raw c d pairs.was j.rules.pairs.was) h)

  pub carry : (P : Network → NumberedPolicy → List Ends → Type 0) (n m : Network) (c d : CheckedPolicy) (es fs : List Ends) → IsInput p t n c es → IsInput p t m d fs → P n c.policy es → P m d.policy fs
  carry P n m c d es fs i j h =
      let net : n ≡ m = one_net t n m i.read.network j.read.network in
      both m c d es fs P (subst (λ k. IsInput p t k c es) net i) j (subst (λ k. P k c.policy es) net h)

  module _ (one_problem : (net : Network) (raw : Policy) (checked other : CheckedPolicy) (ends : List Ends) (objective : Objective) (problem more : Problem) (symbols spelled : List (List Symbol)) →
      HasOnePairs net raw checked ends → WasChecked net raw other → IsLayout net (checked_parts net checked) ends objective problem symbols → IsLayout net (checked_parts net other) ends objective more spelled → problem ≡ more) where
    pub same-problem : (n m : Network) (c d : CheckedPolicy) (es fs : List Ends) (o : Objective) (problem more : Problem) (xs ys : List (List Symbol)) → IsInput p t n c es → IsInput p t m d fs →
        IsLayout n (checked_parts n c) es o problem xs → IsLayout m (checked_parts m d) fs o more ys → problem ≡ more
    same-problem n m c d es fs o problem more xs ys i j one two =
        let net : n ≡ m = one_net t n m i.read.network j.read.network in
        let moved = subst (λ k. IsInput p t k c es) net i in
        let pairs = pairs-of m c d es fs moved j in
        let ends = ends-same m j.raw c d es fs pairs j.rules.pairs in
        one_problem m j.raw c d es o problem more xs ys pairs j.rules.pairs.was (subst (λ k. IsLayout k (checked_parts k c) es o problem xs) net one)
        (subst (λ l. IsLayout m (checked_parts m d) l o more ys) (sym ends) two)
