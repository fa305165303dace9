-- The loads and the value of walks are those of their trails.
use Rattle.std.proofs.Common.{◌≡◌, ℕ, zero, suc, ◌+◌, ◌*◌, ◌≤◌, ◌<◌, ◌==◌, Bool, true, false, cond, List, [], ◌∷◌, map, zip, Option, None, Some, slice_get, sum_by, refl, sym, ◌∙◌, ap, ap₂, subst, arith}
use Rattle.std.proofs.lemmas.Bool.{eq-eqb}
use Rattle.std.proofs.lemmas.List.Sums.{sum_by-cons}
use Rattle.std.proofs.Math.Nat.{add-mul, zero-mul}
use Rattle.std.specs.List.{AllByRecursion}
use Rattle.merlin_model.specs.declared.network.DirectedLink.{DirectedLink}
use Rattle.merlin_model.specs.declared.policy.Symbol.{Symbol}
use Rattle.merlin_model.specs.declared.policy.Ends.{Ends}
use Rattle.merlin_model.specs.declared.policy.Objective.{Objective}
use Rattle.merlin_model.specs.declared.policy.Objective.TheVariants as objective
use Rattle.merlin_model.specs.declared.policy.Value.TheVariants.{Whole}
use Rattle.merlin_model.specs.Networks.{Network, directed_links}
use Rattle.merlin_model.specs.Words.{crossings}
use Rattle.merlin_model.specs.Policies.{Policy}
use Rattle.merlin_model.specs.Rates.{min_of, greatest_of}
use Rattle.merlin_model.specs.Assignments.{load, load_on, cost_on, IsFeasible, greatest_ratio, ratio_value, value_of}
use Rattle.cutoff_program.specs.Flows.{Problem, Variable, variables_of, is_on, rate_over, length_over, cost_over, cost_of_variable, loads_from, value_by}
use Rattle.cutoff_program.specs.Trails.{sum_along, plus_term, edges_of, loads_along, value_along, FitsCapacities}
use Rattle.cutoff_program.specs.Walks.{CrossesAlike}
use Rattle.cutoff_program.proofs.Forth.{sum-append}

abbrev pub CrossAlike : Network → Policy → List Variable → List Ends → List (List Symbol) → List (List ℕ) → Type 0
CrossAlike net policy variables [] [] [] = Unit {0}
CrossAlike net policy variables (e ∷ ends) (w ∷ walks) (ks ∷ trails) = CrossesAlike net policy variables e w ks × CrossAlike net policy variables ends walks trails
CrossAlike net policy variables _ _ _ = ⊥

-- Sums along edges.

sum-same : (variables : List Variable) (f g : Variable → ℕ) (ks : List ℕ) → ((v : Variable) → f v ≡ g v) → sum_along variables f ks ≡ sum_along variables g ks
sum-same variables f g [] h = refl
sum-same variables f g (k ∷ ks) h = by (slice_get variables k) (sum-same variables f g ks h)
  where
    by : (o : Option Variable) → sum_along variables f ks ≡ sum_along variables g ks → plus_term f o (sum_along variables f ks) ≡ plus_term g o (sum_along variables g ks)
    by None ih = ih
    by (Some v) ih = ap₂ (λ x y. x + y) (h v) ih

sum-nothing : (variables : List Variable) (ks : List ℕ) → sum_along variables (λ v. 0) ks ≡ 0
sum-nothing variables [] = refl
sum-nothing variables (k ∷ ks) = by (slice_get variables k) (sum-nothing variables ks)
  where
    by : (o : Option Variable) → sum_along variables (λ v. 0) ks ≡ 0 → plus_term (λ v. 0) o (sum_along variables (λ v. 0) ks) ≡ 0
    by None ih = ih
    by (Some v) ih = let e = ih in omega arith

sum-both : (variables : List Variable) (f g : Variable → ℕ) (ks : List ℕ) → sum_along variables (λ v. f v + g v) ks ≡ sum_along variables f ks + sum_along variables g ks
sum-both variables f g [] = refl
sum-both variables f g (k ∷ ks) = by (slice_get variables k) (sum-both variables f g ks)
  where
    by : (o : Option Variable) → sum_along variables (λ v. f v + g v) ks ≡ sum_along variables f ks + sum_along variables g ks →
        plus_term (λ v. f v + g v) o (sum_along variables (λ v. f v + g v) ks) ≡ plus_term f o (sum_along variables f ks) + plus_term g o (sum_along variables g ks)
    by None ih = ih
    by (Some v) ih = four (f v) (g v) _ _ _ ih
      where
        four : (a b s x y : ℕ) → s ≡ x + y → a + b + s ≡ a + x + (b + y)
        four a b s x y e = omega arith

sum-scaled : (variables : List Variable) (f : Variable → ℕ) (w : ℕ) (ks : List ℕ) → sum_along variables (λ v. f v * w) ks ≡ sum_along variables f ks * w
sum-scaled variables f w [] = sym (zero-mul w)
sum-scaled variables f w (k ∷ ks) = by (slice_get variables k) (sum-scaled variables f w ks)
  where
    by : (o : Option Variable) → sum_along variables (λ v. f v * w) ks ≡ sum_along variables f ks * w →
        plus_term (λ v. f v * w) o (sum_along variables (λ v. f v * w) ks) ≡ plus_term f o (sum_along variables f ks) * w
    by None ih = ih
    by (Some v) ih = ap (λ x. f v * w + x) ih ∙ sym (add-mul (f v) (sum_along variables f ks) w)

-- The sum of what stands on all links, the first of which has number n, each as often as its weight says.

total_from : (ℕ → ℕ) → ℕ → List DirectedLink → ℕ
total_from load n [] = 0
total_from load n (directed ∷ links) = load n * directed.weight + total_from load (n + 1) links

total-swap : (variables : List Variable) (ks : List ℕ) (n : ℕ) (ws : List DirectedLink) → total_from (λ l. sum_along variables (rate_over l) ks) n ws ≡ sum_along variables (λ v. total_from (λ l. rate_over l v) n ws) ks
unfolding total_from
total-swap variables ks n [] = sym (sum-nothing variables ks)
total-swap variables ks n (directed ∷ ws) =
    ap₂ (λ x y. x + y) (sym (sum-scaled variables (rate_over n) directed.weight ks)) (total-swap variables ks (n + 1) ws)
    ∙ sym (sum-both variables (λ v. rate_over n v * directed.weight) (λ v. total_from (λ l. rate_over l v) (n + 1) ws) ks)

total-before : (r j n : ℕ) (ws : List DirectedLink) → j < n → total_from (λ l. cond (j == l) r 0) n ws ≡ 0
unfolding total_from
total-before r j n [] h = refl
total-before r j n (directed ∷ ws) h = ap₂ (λ x y. x * directed.weight + y) (two (j == n) refl) (total-before r j (n + 1) ws (omega arith)) ∙ ap (λ x. x + 0) (zero-mul directed.weight)
  where
    two : (b : Bool) → (j == n) ≡ b → cond b r 0 ≡ 0
    two false e = refl
    two true e = let bad : ⊥ = grind arith in absurd bad

total-at : (r j n m : ℕ) (ws : List DirectedLink) → j ≡ n + m → total_from (λ l. cond (j == l) r 0) n ws ≡ length_over (slice_get ws m) r
unfolding total_from
total-at r j n m [] e = refl
total-at r j n zero (directed ∷ ws) e = ap₂ (λ x y. x * directed.weight + y) (ap (λ b. cond b r 0) (eq-eqb j n (omega arith))) (total-before r j (n + 1) ws (omega arith)) ∙ nothing (r * directed.weight)
  where
    nothing : (x : ℕ) → x + 0 ≡ x
    nothing x = omega arith
total-at r j n (suc m) (directed ∷ ws) e =
    ap (λ x. x * directed.weight + total_from (λ l. cond (j == l) r 0) (n + 1) ws) (two (j == n) refl)
    ∙ ap (λ x. x + total_from (λ l. cond (j == l) r 0) (n + 1) ws) (zero-mul directed.weight)
    ∙ nothing (total_from (λ l. cond (j == l) r 0) (n + 1) ws) ∙ total-at r j (n + 1) m ws (omega arith)
  where
    nothing : (x : ℕ) → 0 + x ≡ x
    nothing x = omega arith

    two : (b : Bool) → (j == n) ≡ b → cond b r 0 ≡ 0
    two false f = refl
    two true f = let bad : ⊥ = grind arith in absurd bad

total-none : (r n : ℕ) (ws : List DirectedLink) → total_from (λ l. cond false r 0) n ws ≡ 0
unfolding total_from
total-none r n [] = refl
total-none r n (directed ∷ ws) =
    ap (λ x. x + total_from (λ l. cond false r 0) (n + 1) ws) (zero-mul directed.weight)
    ∙ nothing (total_from (λ l. cond false r 0) (n + 1) ws) ∙ total-none r (n + 1) ws
  where
    nothing : (x : ℕ) → 0 + x ≡ x
    nothing x = omega arith

-- what a variable adds to the length is what it puts on all links together
cost-total : (problem : Problem) (v : Variable) → cost_of_variable problem v ≡ total_from (λ l. rate_over l v) 0 problem.links
cost-total problem v = by v.edge.crosses
  where
    by : (c : Option ℕ) → cost_over problem.links v.rate c ≡ total_from (λ l. cond (is_on l c) v.rate 0) 0 problem.links
    by None = sym (total-none v.rate 0 problem.links)
    by (Some j) = sym (total-at v.rate j 0 j problem.links (omega arith))

total-sum : (load : ℕ → ℕ) (g : DirectedLink → ℕ) (n : ℕ) (ws : List DirectedLink) → ((k : ℕ) (directed : DirectedLink) → slice_get ws k ≡ Some directed → load (n + k) ≡ g directed) → total_from load n ws ≡ sum_by (λ directed. g directed * directed.weight) ws
unfolding total_from
total-sum load g n [] h = refl
total-sum load g n (directed ∷ ws) h =
    let at : n + 0 ≡ n = omega arith in
    let first : load n ≡ g directed = ap load (sym at) ∙ h 0 directed refl in
    let rest = total-sum load g (n + 1) ws (λ k w e. (let s : n + 1 + k ≡ n + suc k = omega arith in ap load s) ∙ h (suc k) w e) in
    ap₂ (λ x y. x * directed.weight + y) first rest ∙ sym (sum_by-cons (λ w. g w * w.weight) directed ws)

loads-map : (load : ℕ → ℕ) (g : DirectedLink → ℕ) (n : ℕ) (ws : List DirectedLink) → ((k : ℕ) (directed : DirectedLink) → slice_get ws k ≡ Some directed → load (n + k) ≡ g directed) → loads_from load n ws ≡ map (λ directed. (g directed, directed.capacity)) ws
loads-map load g n [] h = refl
loads-map load g n (directed ∷ ws) h =
    let at : n + 0 ≡ n = omega arith in
    let first : load n ≡ g directed = ap load (sym at) ∙ h 0 directed refl in
    let rest = loads-map load g (n + 1) ws (λ k w e. (let s : n + 1 + k ≡ n + suc k = omega arith in ap load s) ∙ h (suc k) w e) in
    ap₂ (λ x y. (x, directed.capacity) ∷ y) first rest

firsts-map : (g : DirectedLink → ℕ) (ws : List DirectedLink) → map (λ (l : ℕ × ℕ). l.0) (map (λ directed. (g directed, directed.capacity)) ws) ≡ map g ws
firsts-map g [] = refl
firsts-map g (directed ∷ ws) = ap (λ xs. g directed ∷ xs) (firsts-map g ws)

-- Loads of walks.

load-is : (net : Network) (policy : Policy) (variables : List Variable) (ends : List Ends) (walks : List (List Symbol)) (trails : List (List ℕ)) → CrossAlike net policy variables ends walks trails →
    (l : ℕ) (directed : DirectedLink) → slice_get (directed_links net) l ≡ Some directed → sum_along variables (rate_over l) (edges_of trails) ≡ load_on net policy ends walks directed
load-is net policy variables [] [] [] are l directed e = refl
load-is net policy variables (x ∷ ends) (w ∷ walks) (ks ∷ trails) are l directed e =
    sum-append variables (rate_over l) ks (edges_of trails) ∙ ap₂ (λ m n. m + n) (are.0 l directed e) (load-is net policy variables ends walks trails are.1 l directed e)
    ∙ sym (sum_by-cons (λ (r : Ends × List Symbol). min_of policy r.0.statement * crossings r.1 directed.from directed.to) (x, w) (zip ends walks))
load-is net policy variables [] [] (ks ∷ trails) are l directed e = absurd are
load-is net policy variables [] (w ∷ walks) trails are l directed e = absurd are
load-is net policy variables (x ∷ ends) [] trails are l directed e = absurd are
load-is net policy variables (x ∷ ends) (w ∷ walks) [] are l directed e = absurd are

module _ (net : Network) (policy : Policy) (ends : List Ends) (problem : Problem) (walks : List (List Symbol)) (trails : List (List ℕ)) (links_are : problem.links ≡ directed_links net) (are : CrossAlike net policy (variables_of problem) ends walks trails) where
  at-directed : (k : ℕ) (directed : DirectedLink) → slice_get problem.links k ≡ Some directed → sum_along (variables_of problem) (rate_over (0 + k)) (edges_of trails) ≡ load_on net policy ends walks directed
  at-directed k directed e =
      (let s : 0 + k ≡ k = omega arith in ap (λ l. sum_along (variables_of problem) (rate_over l) (edges_of trails)) s)
      ∙ load-is net policy (variables_of problem) ends walks trails are k directed (ap (λ ws. slice_get ws k) (sym links_are) ∙ e)

  pub loads-of : loads_along problem (edges_of trails) ≡ map (λ directed. (load_on net policy ends walks directed, directed.capacity)) (directed_links net)
  loads-of = loads-map (λ l. sum_along (variables_of problem) (rate_over l) (edges_of trails)) (load_on net policy ends walks) 0 problem.links at-directed
      ∙ ap (map (λ directed. (load_on net policy ends walks directed, directed.capacity))) links_are

  pub length-of : sum_along (variables_of problem) (cost_of_variable problem) (edges_of trails) ≡ sum_by (cost_on net policy ends walks) (directed_links net)
  length-of =
      sum-same (variables_of problem) (cost_of_variable problem) (λ v. total_from (λ l. rate_over l v) 0 problem.links) (edges_of trails) (cost-total problem)
      ∙ sym (total-swap (variables_of problem) (edges_of trails) 0 problem.links)
      ∙ total-sum (λ l. sum_along (variables_of problem) (rate_over l) (edges_of trails)) (load_on net policy ends walks) 0 problem.links at-directed
      ∙ ap (sum_by (cost_on net policy ends walks)) links_are

  value-at : (o : Objective) → value_by o (sum_along (variables_of problem) (cost_of_variable problem) (edges_of trails)) (loads_along problem (edges_of trails)) ≡ value_of net policy ends o walks
  value-at objective.Shortest = ap Whole length-of
  value-at objective.Ratio = ap (λ loads. ratio_value (greatest_ratio loads)) loads-of
  value-at objective.Reserved = ap (λ loads. Whole (greatest_of (map (λ l. l.0) loads))) loads-of ∙ ap (λ loads. Whole (greatest_of loads)) (firsts-map (load_on net policy ends walks) (directed_links net))

  pub value-same : value_along problem (edges_of trails) ≡ value_of net policy ends problem.objective walks
  value-same = value-at problem.objective

  all-map : (ws : List DirectedLink) → AllByRecursion (λ directed. load_on net policy ends walks directed ≤ directed.capacity) ws → AllByRecursion (λ (l : ℕ × ℕ). l.0 ≤ l.1) (map (λ directed. (load_on net policy ends walks directed, directed.capacity)) ws)
  all-map [] all = tt
  all-map (directed ∷ ws) all = (all.0, all-map ws all.1)

  map-all : (ws : List DirectedLink) → AllByRecursion (λ (l : ℕ × ℕ). l.0 ≤ l.1) (map (λ directed. (load_on net policy ends walks directed, directed.capacity)) ws) → AllByRecursion (λ directed. load_on net policy ends walks directed ≤ directed.capacity) ws
  map-all [] all = tt
  map-all (directed ∷ ws) all = (all.0, map-all ws all.1)

  pub feasible-fits : IsFeasible net policy ends walks → FitsCapacities problem (edges_of trails)
  feasible-fits all = subst (AllByRecursion (λ l. l.0 ≤ l.1)) (sym loads-of) (all-map (directed_links net) all)

  pub fits-feasible : FitsCapacities problem (edges_of trails) → IsFeasible net policy ends walks
  fits-feasible all = map-all (directed_links net) (subst (AllByRecursion (λ l. l.0 ≤ l.1)) loads-of all)
