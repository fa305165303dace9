-- One more node whose join is checked.
use Rattle.std.proofs.Common.{◌≡◌, ◌<◌, ◌+◌, ◌⊎◌, inl, inr, ℕ, zero, suc, List, [], ◌∷◌, ◌++◌, length, map, get_or, Some, option_map, unwrap_or, slice_get, refl, sym, ◌∙◌, ap, subst, arith}
use Rattle.std.proofs.lemmas.List.{length-append}
use Rattle.std.proofs.lemmas.Option.{slice_get-map, get_or_from_slice_get}
use Rattle.merlin_model.specs.declared.policy.Symbol.{Symbol}
use Rattle.merlin_model.specs.Networks.{Network}
use Rattle.policy_check.specs.Checked.{CheckedPolicy, IsCheckOf}
use Rattle.delegation.specs.declared.fault.DelegationFault.{DelegationFault}
use Rattle.delegation.specs.declared.fault.DelegationFault.TheVariants.{Own, Classes, ScopeOverlap, TooManyStatements, Joined, Cells, NotAccepted, OutOfMemory}
use Rattle.delegation.specs.declared.node.Node.{Node}
use Rattle.delegation.specs.declared.rating.RatedPolicy.{RatedPolicy}
use Rattle.delegation.specs.NamedJoins.{rated_policy, written_policy, rated_join}
use Rattle.delegation.specs.NamedTrees.{children_with, own_join}
use Rattle.delegation.specs.TreeRules.{IsFirstNot, KeepsJoinedRules, HasSoundSizes, BreaksOnCheck, BreaksTree}
use Rattle.delegation.specs.JoinChecks.{AreJoinChecks, RefusesJoin}
use Rattle.delegation.proofs.Acceptance.{None-Some}
use Rattle.delegation.proofs.Formed.{children-rated}

Some-same : {X : Type 0} {a b : X} → Some a ≡ Some b → a ≡ b
Some-same {X} {a} {b} e = ap (λ o. unwrap_or o a) e

-- what stands at a place
pub some-at : {X : Type 0} (xs : List X) (k : ℕ) → k < length xs → (x : X) × (slice_get xs k ≡ Some x)
some-at [] k l = let no : ⊥ = omega arith in absurd no
some-at (x ∷ xs) zero l = (x, refl)
some-at (x ∷ xs) (suc k) l = some-at xs k (omega arith)

-- what stands at a place in a list with one element more
at-push : {X : Type 0} (xs : List X) (x : X) (k : ℕ) (y : X) → slice_get (xs ++ x ∷ []) k ≡ Some y → (slice_get xs k ≡ Some y) ⊎ ((k ≡ length xs) × (x ≡ y))
at-push [] x zero y e = inr (refl, Some-same e)
at-push [] x (suc k) y e = absurd (None-Some e)
at-push (z ∷ xs) x zero y e = inl e
at-push {X} (z ∷ xs) x (suc k) y e = by (at-push xs x k y e)
  where
    by : (slice_get xs k ≡ Some y) ⊎ ((k ≡ length xs) × (x ≡ y)) → (slice_get (z ∷ xs) (suc k) ≡ Some y) ⊎ ((suc k ≡ suc (length xs)) × (x ≡ y))
    by (inl f) = inl f
    by (inr (f, g)) = inr (ap suc f, g)

-- the join that is written
pub own-join-is : (nodes : List Node) (rated : List RatedPolicy) (place : ℕ) (node : Node) (own joined : RatedPolicy) → rated ≡ map (λ n. rated_policy n.policy) nodes → slice_get nodes place ≡ Some node →
    own ≡ get_or rated place own → joined ≡ rated_join own (children_with nodes rated place) → written_policy joined ≡ own_join nodes place node
own-join-is nodes rated place node own joined are e at is =
    let stands : slice_get rated place ≡ Some (rated_policy node.policy) = ap (λ l. slice_get l place) are ∙ slice_get-map (λ n. rated_policy n.policy) nodes place ∙ ap (option_map (λ n. rated_policy n.policy)) e in
    let same : own ≡ rated_policy node.policy = at ∙ get_or_from_slice_get rated place (rated_policy node.policy) own stands in
    ap written_policy (is ∙ ap (λ r. rated_join r (children_with nodes rated place)) same ∙ ap (λ cs. rated_join (rated_policy node.policy) cs) (ap (λ l. children_with nodes l place) are ∙ children-rated place nodes))

module _ (net : Network) (symbols : List Symbol) (nodes : List Node) where
  pub join-more : (k : ℕ) (node : Node) (joins more : List CheckedPolicy) (checked : CheckedPolicy) → AreJoinChecks net symbols nodes k joins → slice_get nodes k ≡ Some node →
      IsCheckOf net symbols (own_join nodes k node) checked → more ≡ joins ++ checked ∷ [] → AreJoinChecks net symbols nodes (k + 1) more
  join-more k node joins more checked are e is pushed = record {
    as_many = (let long = length-append joins (checked ∷ []) in let all : length more ≡ length (joins ++ checked ∷ []) = ap length pushed in let many = are.as_many in omega (arith, long, all, many));
    each = λ i m c f g. by i m c f (at-push joins checked i c (ap (λ l. slice_get l i) (sym pushed) ∙ g));
  }
    where
      by : (i : ℕ) (m : Node) (c : CheckedPolicy) → slice_get nodes i ≡ Some m → (slice_get joins i ≡ Some c) ⊎ ((i ≡ length joins) × (checked ≡ c)) → IsCheckOf net symbols (own_join nodes i m) c
      by i m c f (inl g) = are.each i m c f g
      by i m c f (inr (g, h)) =
          let same : k ≡ i = sym (g ∙ are.as_many) in
          let node_same : node ≡ m = Some-same (sym e ∙ ap (slice_get nodes) same ∙ f) in
          subst (λ (x : ℕ). IsCheckOf net symbols (own_join nodes x m) c) same (subst (λ (x : Node). IsCheckOf net symbols (own_join nodes k x) c) node_same (subst (IsCheckOf net symbols (own_join nodes k node)) h is))

  -- the joins of the nodes so far keep all rules
  pub joins-keep : (k : ℕ) (joins : List CheckedPolicy) → AreJoinChecks net symbols nodes k joins → (i : ℕ) (m : Node) → i < k → slice_get nodes i ≡ Some m → KeepsJoinedRules net symbols nodes i m
  joins-keep k joins are i m l e = let many = are.as_many in let at = some-at joins i (omega (arith, l, many)) in (are.each i m at.0 e at.1).rules

  pub join-breaks : (k : ℕ) (node : Node) (joins : List CheckedPolicy) → HasSoundSizes net symbols nodes → AreJoinChecks net symbols nodes k joins → slice_get nodes k ≡ Some node →
      (fault : DelegationFault) → RefusesJoin net symbols nodes k node fault → BreaksTree net symbols nodes fault
  join-breaks k node joins sound are e (Joined place fault) h =
      (sound, subst (IsFirstNot nodes (KeepsJoinedRules net symbols nodes) (λ i n. BreaksOnCheck net symbols (own_join nodes i n) fault)) (sym h.0) (record { node = node; has = e; is_not = h.1; before = joins-keep k joins are }))
  join-breaks k node joins sound are e OutOfMemory h = tt
  join-breaks k node joins sound are e (Own n f) h = absurd h
  join-breaks k node joins sound are e (Classes n c) h = absurd h
  join-breaks k node joins sound are e (ScopeOverlap a b p) h = absurd h
  join-breaks k node joins sound are e (TooManyStatements n c) h = absurd h
  join-breaks k node joins sound are e (Cells n c) h = absurd h
  join-breaks k node joins sound are e (NotAccepted n f) h = absurd h
