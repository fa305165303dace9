-- The walks along paths over what a solution has chosen.
use Rattle.std.proofs.Common.{◌≡◌, ℕ, zero, suc, ◌+◌, inl, inr, Bool, true, List, [], ◌∷◌, ◌++◌, map, length, Option, None, Some, slice_get, refl, sym, ◌∙◌, ap, ap₂, subst, arith}
use Rattle.std.proofs.lemmas.List.{map-append}
use Rattle.std.specs.List.{AllByRecursion, AllZip}
use Rattle.merlin_model.specs.declared.policy.Symbol.{Symbol}
use Rattle.merlin_model.specs.declared.policy.Ends.{Ends}
use Rattle.merlin_model.specs.declared.policy.Objective.{Objective}
use Rattle.merlin_model.specs.declared.policy.Value.{Value}
use Rattle.merlin_model.specs.Networks.{Network, IsNetwork}
use Rattle.merlin_model.specs.Words.{at, IsWalk}
use Rattle.merlin_model.specs.Policies.{Policy, IsOnPath}
use Rattle.merlin_model.specs.Assignments.{IsAssignment, value_of}
use Rattle.merlin_model.specs.Programs.{IsSolution, is_chosen}
use Rattle.rules_model.specs.Products.{SymbolAutomaton, Vertex}
use Rattle.cutoff_program.specs.Flows.{variables_of, program_at, cutoff_of, is_below}
use Rattle.cutoff_program.specs.declared.flow.Flow.{Flow}
use Rattle.cutoff_program.specs.declared.flow.Problem.{Problem}
use Rattle.cutoff_program.specs.declared.flow.Variable.{Variable}
use Rattle.cutoff_program.specs.Limits.{IsProblem}
use Rattle.cutoff_program.specs.Trails.{ArePathsFrom, edges_of, comes_to, with_vertex, value_along}
use Rattle.cutoff_program.specs.Walks.{IsSimple, symbol_of_vertex, word_along, CrossesAlike}
use Rattle.cutoff_program.proofs.Lists.{all_left, all_right, all_both}
use Rattle.cutoff_program.proofs.Flights.{AreFlowsAt, flows-at}
use Rattle.cutoff_program.proofs.Bridge.{walk-for}
use Rattle.cutoff_program.proofs.Back.{has_chosen, are_within}
use Rattle.cutoff_program.proofs.Loads.{CrossAlike, value-same, fits-feasible}
use Rattle.program_walks.specs.declared.paths.LeastPath.{LeastPath}
use Rattle.program_walks.specs.Paths.{IsLeastPath, IsLeastPathIf}
use Rattle.program_walks.specs.Marks.{symbol_in}
use Rattle.program_walks.specs.Solutions.{IsWordIf, IsWordAt, AreWordsIf, AreFlowsWith, IsLaidOut, AreWalksFor, word_over}
use Rattle.program_walks.proofs.Together.{ArePathsOver}

-- An edge more.

comes-snoc : (variables : List Variable) (ks : List ℕ) (k : ℕ) → comes_to variables (ks ++ k ∷ []) ≡ comes_to variables ks ++ with_vertex (slice_get variables k) []
comes-snoc variables [] k = refl
comes-snoc variables (j ∷ ks) k = by (slice_get variables j) (comes-snoc variables ks k)
  where
    by : (o : Option Variable) → comes_to variables (ks ++ k ∷ []) ≡ comes_to variables ks ++ with_vertex (slice_get variables k) [] →
        with_vertex o (comes_to variables (ks ++ k ∷ [])) ≡ with_vertex o (comes_to variables ks) ++ with_vertex (slice_get variables k) []
    by None ih = ih
    by (Some v) ih = ap (λ us. v.edge.to ∷ us) ih

pub word-some : (variables : List Variable) (symbols : List Symbol) (ks : List ℕ) (k : ℕ) (v : Variable) → slice_get variables k ≡ Some v → word_over variables symbols (ks ++ k ∷ []) ≡ word_over variables symbols ks ++ symbol_in symbols v.edge.to ∷ []
word-some variables symbols ks k v e =
    ap (λ us. symbol_in symbols 0 ∷ map (symbol_in symbols) us) (comes-snoc variables ks k ∙ ap (λ o. comes_to variables ks ++ with_vertex o []) e)
    ∙ ap (λ xs. symbol_in symbols 0 ∷ xs) (map-append (symbol_in symbols) (comes_to variables ks) (v.edge.to ∷ []))

pub word-none : (variables : List Variable) (symbols : List Symbol) (ks : List ℕ) (k : ℕ) → slice_get variables k ≡ None → word_over variables symbols (ks ++ k ∷ []) ≡ word_over variables symbols ks
word-none variables symbols ks k e =
    ap (λ us. symbol_in symbols 0 ∷ map (symbol_in symbols) us) (comes-snoc variables ks k ∙ ap (λ o. comes_to variables ks ++ with_vertex o []) e ∙ nothing (comes_to variables ks))
  where
    nothing : (us : List ℕ) → us ++ [] ≡ us
    nothing [] = refl
    nothing (u ∷ us) = ap (λ xs. u ∷ xs) (nothing us)

pub words-snoc : (problem : Problem) (point : List Bool) (n : ℕ) (flows : List Flow) (symbols walks : List (List Symbol)) (flow : Flow) (first walk : List Symbol) (m : ℕ) → AreWordsIf problem point n flows symbols walks → m ≡ n + length flows → IsWordIf problem point m flow first walk →
    AreWordsIf problem point n (flows ++ flow ∷ []) (symbols ++ first ∷ []) (walks ++ walk ∷ [])
words-snoc problem point n [] [] [] flow first walk m are e is = (subst (λ x. IsWordIf problem point x flow first walk) (let s : m ≡ n = omega arith in s) is, tt)
words-snoc problem point n (f ∷ flows) (g ∷ symbols) (w ∷ walks) flow first walk m are e is = (are.0, words-snoc problem point (n + 1) flows symbols walks flow first walk m are.1 (omega (arith, e)) is)
words-snoc problem point n [] [] (w ∷ walks) flow first walk m are e is = absurd are
words-snoc problem point n [] (g ∷ symbols) walks flow first walk m are e is = absurd are
words-snoc problem point n (f ∷ flows) [] walks flow first walk m are e is = absurd are
words-snoc problem point n (f ∷ flows) (g ∷ symbols) [] flow first walk m are e is = absurd are

-- The symbols are those of the product's vertices.

symbol-same : (vertices : List Vertex) (k : ℕ) → symbol_in (map (λ v. v.symbol) vertices) k ≡ symbol_of_vertex vertices k
symbol-same [] k = refl
symbol-same (v ∷ vertices) zero = refl
symbol-same (v ∷ vertices) (suc k) = symbol-same vertices k

map-same : (f g : ℕ → Symbol) (ks : List ℕ) → ((k : ℕ) → f k ≡ g k) → map f ks ≡ map g ks
map-same f g [] h = refl
map-same f g (k ∷ ks) h = ap₂ (λ x xs. x ∷ xs) (h k) (map-same f g ks h)

word-same : (variables : List Variable) (symbols : List Symbol) (vertices : List Vertex) (path : List ℕ) → symbols ≡ map (λ v. v.symbol) vertices → word_over variables symbols path ≡ word_along variables vertices path
word-same variables symbols vertices path e =
    ap (λ xs. word_over variables xs path) e ∙ map-same (symbol_in (map (λ (v : Vertex). v.symbol) vertices)) (symbol_of_vertex vertices) (0 ∷ comes_to variables path) (symbol-same vertices)

-- Where some paths are chosen, each flow has a word of one of its own.

module _ (net : Network) (policy : Policy) (automata : ℕ → SymbolAutomaton) (network : IsNetwork net) (problem : Problem) (point : List Bool) where
  pub record HasWalks (n : ℕ) (flows : List Flow) (ends : List Ends) (walks : List (List Symbol)) : Type 0 where
    pub paths : List (List ℕ)
    pub over : ArePathsOver problem point n flows paths
    pub assignment : IsAssignment net policy ends walks
    pub simple : AllZip (λ e w. IsSimple (automata e.statement) w) ends walks
    pub spelled : CrossAlike net policy (variables_of problem) ends walks paths

  pub words-walks : (n : ℕ) (flows : List Flow) (ends : List Ends) (symbols walks : List (List Symbol)) (others : List (List ℕ)) → AreFlowsWith net policy automata ends flows symbols → AreFlowsAt (variables_of problem) n flows → AreWordsIf problem point n flows symbols walks →
      ArePathsFrom (variables_of problem) n flows others → AllByRecursion (λ k. is_chosen point k ≡ true) (edges_of others) → HasWalks n flows ends walks
  words-walks n [] [] [] [] [] of at are paths chosen = record { paths = []; over = record { are_paths = tt; chosen = tt }; assignment = tt; simple = tt; spelled = tt }
  words-walks n (flow ∷ flows) (e ∷ ends) (first ∷ symbols) (walk ∷ walks) (other ∷ others) of at are paths chosen =
      by are.0 (words-walks (n + 1) flows ends symbols walks others of.1 at.1 are.1 paths.1 (all_right (λ k. is_chosen point k ≡ true) other (edges_of others) chosen))
    where
      by : IsWordIf problem point n flow first walk → HasWalks (n + 1) flows ends walks → HasWalks n (flow ∷ flows) (e ∷ ends) (walk ∷ walks)
      by (inr none) rest = absurd (none other (record { steps = paths.0.steps; allowed = all_left (λ k. is_chosen point k ≡ true) other (edges_of others) chosen }))
      by (inl word) rest =
          let w = walk-for net policy automata network (variables_of problem) n flow e word.0 of.0.of at.0 word.1.is_path in
          let same : w.walk ≡ walk = w.is ∙ sym (word-same (variables_of problem) first of.0.of.product.vertices word.0 of.0.symbols_are) ∙ sym word.2 in
          record {
            paths = word.0 ∷ rest.paths;
            over = record {
              are_paths = (word.1.is_path, rest.over.are_paths);
              chosen = all_both (λ k. is_chosen point k ≡ true) word.0 (edges_of rest.paths) word.1.chosen rest.over.chosen;
            };
            assignment = ((subst (λ x. IsWalk net e.src e.dst x) same w.is_walk, subst (λ x. IsOnPath policy e.statement x) same w.on_path), rest.assignment);
            simple = (subst (λ x. IsSimple (automata e.statement) x) same w.simple, rest.simple);
            spelled = (subst (λ x. CrossesAlike net policy (variables_of problem) e x word.0) same w.spelled, rest.spelled);
          }
  words-walks n [] [] [] [] (other ∷ others) of at are paths chosen = absurd paths
  words-walks n [] [] [] (walk ∷ walks) others of at are paths chosen = absurd are
  words-walks n [] [] (first ∷ symbols) walks others of at are paths chosen = absurd of
  words-walks n [] (e ∷ ends) symbols walks others of at are paths chosen = absurd of
  words-walks n (flow ∷ flows) [] symbols walks others of at are paths chosen = absurd of
  words-walks n (flow ∷ flows) (e ∷ ends) [] walks others of at are paths chosen = absurd of
  words-walks n (flow ∷ flows) (e ∷ ends) (first ∷ symbols) [] others of at are paths chosen = absurd are
  words-walks n (flow ∷ flows) (e ∷ ends) (first ∷ symbols) (walk ∷ walks) [] of at are paths chosen = absurd paths

pub walks-for : (problem : Problem) (symbols walks : List (List Symbol)) (point : List Bool) → IsProblem problem → AreWordsIf problem point 0 problem.flows symbols walks →
    (net : Network) (policy : Policy) (automata : ℕ → SymbolAutomaton) (ends : List Ends) (objective : Objective) → IsLaidOut net policy automata ends objective problem symbols →
    (cutoff : Option Value) → IsSolution (program_at problem cutoff) point → AreWalksFor net policy automata ends objective problem point walks
walks-for problem symbols walks point is are net policy automata ends objective laid cutoff solution =
    let c = has_chosen problem cutoff point is solution in
    let h = words-walks net policy automata laid.network problem point 0 problem.flows ends symbols walks c.0 laid.flows (flows-at 0 problem.flows) are c.1 c.2 in
    let w = are_within problem cutoff point h.paths is solution h.over.are_paths h.over.chosen in
    let same : value_along problem (edges_of h.paths) ≡ value_of net policy ends objective walks =
    value-same net policy ends problem walks h.paths laid.links_are h.spelled ∙ ap (λ o. value_of net policy ends o walks) laid.objective_is in
    record {
      assignment = h.assignment;
      simple = h.simple;
      feasible = fits-feasible net policy ends problem walks h.paths laid.links_are h.spelled w.fits;
      no_more = ap (is_below (cutoff_of problem point)) (sym same) ∙ w.no_more;
      neat = λ n. sym same ∙ w.neat n;
    }

-- Flow by flow.

pub word-at : (problem : Problem) (variables : List Variable) (point : List Bool) (n : ℕ) (symbols : List Symbol) (found : Option LeastPath) (p : LeastPath) (path : List ℕ) → ((flow : Flow) → slice_get problem.flows n ≡ Some flow → IsLeastPathIf problem point n flow found) → found ≡ Some p →
    variables ≡ variables_of problem → path ≡ p.path → (walk : List Symbol) → walk ≡ word_over variables symbols path → IsWordAt problem point n symbols walk
word-at problem variables point n symbols found p path is e are same walk word = λ flow stands.
    let l : IsLeastPath problem point n flow p = subst (IsLeastPathIf problem point n flow) e (is flow stands) in
    inl (p.path, record { is_path = l.is_path; chosen = l.chosen }, word ∙ ap₂ (λ vs ks. word_over vs symbols ks) are same)

pub words-more : (problem : Problem) (point : List Bool) (flows : List Flow) (symbols walks more : List (List Symbol)) (walk : List Symbol) (n : ℕ) → (flow : Flow) (first : List Symbol) → AreWordsIf problem point 0 flows symbols walks → n ≡ length flows → slice_get problem.flows n ≡ Some flow →
    IsWordAt problem point n first walk → more ≡ walks ++ walk ∷ [] → AreWordsIf problem point 0 (flows ++ flow ∷ []) (symbols ++ first ∷ []) more
words-more problem point flows symbols walks more walk n flow first are e stands is same =
    subst (AreWordsIf problem point 0 (flows ++ flow ∷ []) (symbols ++ first ∷ [])) (sym same) (words-snoc problem point 0 flows symbols walks flow first walk n are (omega (arith, e)) (is flow stands))
