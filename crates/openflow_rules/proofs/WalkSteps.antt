-- A walk, symbol by symbol.
use Rattle.std.proofs.Common.{◌≡◌, ◌⊎◌, inl, inr, ◌<◌, ◌≤◌, ◌+◌, ℕ, suc, true, false, cond, List, [], ◌∷◌, ◌++◌, length, map, drop, get_or, slice_get, Contains, Option, None, Some, refl, sym, ◌∙◌, ap, subst, arith}
use Rattle.std.specs.Prelude.{option_map}
use Rattle.std.specs.List.{AllByRecursion}
use Rattle.merlin_model.specs.declared.policy.Symbol.{Symbol}
use Rattle.merlin_model.proofs.Members.{in_from, all_left}
use Rattle.path_automaton.specs.Automata.{number_in, is_same_symbol}
use Rattle.path_automaton.proofs.Listed.{number-at}
use Rattle.path_automaton.proofs.Classing.{get-end}
use Rattle.rules_model.specs.Products.{SymbolAutomaton, Vertex}
use Rattle.product_graph.proofs.Lists.{none-some, below_or_at, get-below, get-more, length-more, map-length}
use Rattle.configuration_model.specs.Groups.{vertices_after}
use Rattle.rule_tables.specs.declared.branches.Step.{Step}
use Rattle.rule_tables.specs.declared.branches.Branch.{Branch}
use Rattle.rule_tables.specs.Branches.{vertex_in, next_step_at}
use Rattle.openflow_rules.specs.WalkBranches.{vertices_on_word, place_after, IsBeforeLast, AreStepsAlong, IsWalkBranch}
use Rattle.openflow_rules.proofs.Steps.{drop-more, drop-past}

-- Numbers of symbols.

pub number-below : (symbols : List Symbol) (x : Symbol) → Contains symbols x → number_in symbols x < length symbols
number-below symbols x c = get-below symbols (number_in symbols x) x (number-at symbols x (in_from symbols x c))

module _ (symbols : List Symbol) (x : Symbol) (n : ℕ) (d : Symbol) (lt : n < length symbols) (so_far : number_in symbols x ≡ n + number_in (drop n symbols) x) where
  here : number_in symbols x ≡ n + cond (is_same_symbol x (get_or symbols n d)) 0 (suc (number_in (drop (n + 1) symbols) x))
  here = so_far ∙ ap (λ l. n + number_in l x) (drop-more symbols n d lt)

  pub number-here : is_same_symbol x (get_or symbols n d) ≡ true → n ≡ number_in symbols x
  number-here same = let e = here ∙ ap (λ b. n + cond b 0 (suc (number_in (drop (n + 1) symbols) x))) same in omega (arith, e)

  pub number-on : is_same_symbol x (get_or symbols n d) ≡ false → number_in symbols x ≡ (n + 1) + number_in (drop (n + 1) symbols) x
  number-on other = let e = here ∙ ap (λ b. n + cond b 0 (suc (number_in (drop (n + 1) symbols) x))) other in omega (arith, e)

pub number-past : (symbols : List Symbol) (x : Symbol) (n : ℕ) → length symbols ≤ n → number_in symbols x ≡ n + number_in (drop n symbols) x → number_in symbols x ≡ n
number-past symbols x n le e = let f = e ∙ ap (λ l. n + number_in l x) (drop-past symbols n le) in omega (arith, f)

-- Vertices.

-- the first so many symbols are taken, up to this state
pub record AreStepsTo (a : SymbolAutomaton) (word : List Symbol) (n state : ℕ) (steps : List Step) : Type 0 where
  pub vertices : map vertex_in steps ++ vertices_on_word a state (drop n word) ≡ vertices_on_word a 0 word
  pub size : length steps ≡ n
  pub follows : (k : ℕ) → k < n → next_step_at steps k ≡ Some (place_after (length word) k)

map-snoc : (steps : List Step) (s : Step) → map vertex_in (steps ++ s ∷ []) ≡ map vertex_in steps ++ vertex_in s ∷ []
map-snoc [] s = refl
map-snoc (t ∷ steps) s = ap (λ r. vertex_in t ∷ r) (map-snoc steps s)

through : (xs : List Vertex) (y : Vertex) (zs : List Vertex) → (xs ++ y ∷ []) ++ zs ≡ xs ++ y ∷ zs
through [] y zs = refl
through (x ∷ xs) y zs = ap (λ r. x ∷ r) (through xs y zs)

append-none : (xs : List Vertex) → xs ++ [] ≡ xs
append-none [] = refl
append-none (x ∷ xs) = ap (λ r. x ∷ r) (append-none xs)

pub along-none : (a : SymbolAutomaton) (word : List Symbol) → AreStepsTo a word 0 0 []
along-none a word = record { vertices = ap (vertices_on_word a 0) (none word); size = refl; follows = λ k lt. absurd (omega (arith, lt)) }
  where
    none : (w : List Symbol) → drop 0 w ≡ w
    none [] = refl
    none (x ∷ w) = refl

pub along-next : (a : SymbolAutomaton) (word : List Symbol) (n state : ℕ) (steps : List Step) (d : Symbol) (step : Step) → n < length word → AreStepsTo a word n state steps →
    vertex_in step ≡ record { symbol = get_or word n d; state = a.step state (get_or word n d) } → step.next ≡ place_after (length word) n → AreStepsTo a word (n + 1) (a.step state (get_or word n d)) (steps ++ step ∷ [])
along-next a word n state steps d step lt h vertex next = record {
  vertices =
      ap (λ l. l ++ vertices_on_word a (a.step state (get_or word n d)) (drop (n + 1) word)) (map-snoc steps step ∙ ap (λ v. map vertex_in steps ++ v ∷ []) vertex)
      ∙ through (map vertex_in steps) _ _
      ∙ ap (λ l. map vertex_in steps ++ vertices_on_word a state l) (sym (drop-more word n d lt))
      ∙ h.vertices;
  size = length-more steps step ∙ (let s = h.size in let e : suc (length steps) ≡ n + 1 = omega (arith, s) in e);
  follows = λ k below. by k (below_or_at n k below);
}
  where
    by : (k : ℕ) → (k < n) ⊎ (k ≡ n) → next_step_at (steps ++ step ∷ []) k ≡ Some (place_after (length word) k)
    by k (inl lt_n) = old (slice_get steps k) refl (h.follows k lt_n)
      where
        old : (o : Option Step) → slice_get steps k ≡ o → option_map (λ s. s.next) o ≡ Some (place_after (length word) k) → next_step_at (steps ++ step ∷ []) k ≡ Some (place_after (length word) k)
        old None e is = absurd (none-some is)
        old (Some s) e is = ap (option_map (λ x. x.next)) (get-more steps (step ∷ []) k s e) ∙ is
    by k (inr e) =
        ap (next_step_at (steps ++ step ∷ [])) (e ∙ sym h.size) ∙ ap (option_map (λ x. x.next)) (get-end steps step) ∙ ap Some (next ∙ ap (place_after (length word)) (sym e))

pub along-all : (a : SymbolAutomaton) (word : List Symbol) (n state : ℕ) (steps : List Step) → n ≡ length word → AreStepsTo a word n state steps → AreStepsAlong a word steps
along-all a word n state steps all h = record {
  vertices = sym (ap (λ l. map vertex_in steps ++ vertices_on_word a state l) (drop-past word n (omega (arith, all))) ∙ append-none (map vertex_in steps)) ∙ h.vertices;
  follows = λ k lt. h.follows k (omega (arith, lt, all));
}

-- The branch of a walk.

after-along : (a : SymbolAutomaton) (q : ℕ) (inner : List Symbol) (last : Symbol) → vertices_after a q (inner ++ last ∷ []) ≡ vertices_on_word a q inner
after-along a q [] last = refl
after-along a q (x ∷ []) last = refl
after-along a q (x ∷ y ∷ inner) last = ap (λ r. record { symbol = x; state = a.step q x } ∷ r) (after-along a (a.step q x) (y ∷ inner) last)

along-long : (a : SymbolAutomaton) (q : ℕ) (w : List Symbol) → length (vertices_on_word a q w) ≡ length w
along-long a q [] = refl
along-long a q (x ∷ w) = ap suc (along-long a (a.step q x) w)

pub inner-among : (symbols walk inner : List Symbol) → IsBeforeLast walk inner → AllByRecursion (Contains symbols) walk → AllByRecursion (Contains symbols) inner
inner-among symbols walk inner (inl h) all = subst (AllByRecursion (Contains symbols)) (h.0 ∙ sym h.1) all
inner-among symbols walk inner (inr h) all = all_left (Contains symbols) inner (h.0 ∷ []) (subst (AllByRecursion (Contains symbols)) h.1 all)

pub branch-of-walk : (a : SymbolAutomaton) (walk inner : List Symbol) (dest : ℕ) (branch : Branch) → IsBeforeLast walk inner → AreStepsAlong a inner branch.steps → branch.dest ≡ dest → IsWalkBranch a walk dest branch
branch-of-walk a walk inner dest branch before h same = record {
  dest_is = same;
  vertices = h.vertices ∙ by before;
  follows = λ k lt. subst (λ n. next_step_at branch.steps k ≡ Some (place_after n k)) (sym long) (h.follows k (let l = long in omega (arith, lt, l)));
}
  where
    by : IsBeforeLast walk inner → vertices_on_word a 0 inner ≡ vertices_after a 0 walk
    by (inl e) = ap (vertices_on_word a 0) e.1 ∙ sym (ap (vertices_after a 0) e.0)
    by (inr e) = sym (ap (vertices_after a 0) e.1 ∙ after-along a 0 inner e.0)

    long : length branch.steps ≡ length inner
    long = sym (map-length vertex_in branch.steps) ∙ ap length h.vertices ∙ along-long a 0 inner
