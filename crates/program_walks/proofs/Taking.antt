-- Taking paths flow by flow.
use Rattle.std.proofs.Common.{◌≡◌, ℕ, ◌+◌, ◌<◌, inl, inr, Bool, false, List, [], ◌∷◌, ◌++◌, length, replicate, Option, None, Some, slice_get, refl, sym, ◌∙◌, ap, subst, arith}
use Rattle.std.specs.List.{AllByRecursion}
use Rattle.cutoff_program.specs.Flows.{variables_of, last_of}
use Rattle.cutoff_program.specs.declared.flow.Flow.{Flow}
use Rattle.cutoff_program.specs.declared.flow.Problem.{Problem}
use Rattle.cutoff_program.specs.Trails.{edges_of}
use Rattle.program_walks.specs.declared.paths.LeastPath.{LeastPath}
use Rattle.program_walks.specs.Paths.{IsLeastPath, IsLeastPathIf}
use Rattle.program_walks.specs.Marks.{with_more}
use Rattle.program_walks.specs.Solutions.{IsChosenPath, IsPathIf, TakesPath, ArePathsIf, TakesPaths}
use Rattle.program_walks.proofs.Leasts.{path-below}
use Rattle.program_walks.proofs.Marked.{more-append, more-length, edges-snoc, replicate-length}

pub within : (problem : Problem) (taken : List Bool) (n : ℕ) (flow : Flow) (found : LeastPath) → IsLeastPath problem taken n flow found → IsChosenPath problem taken n flow found.path
within problem taken n flow found l = record { is_path = l.is_path; chosen = l.chosen }

pub found-below : (problem : Problem) (taken : List Bool) (n : ℕ) (flow : Flow) (found : Option LeastPath) (p : LeastPath) (size : ℕ) → IsLeastPathIf problem taken n flow found → found ≡ Some p → size ≡ length (variables_of problem) → AllByRecursion (λ k. k < size) p.path
found-below problem taken n flow found p size is e s =
    let l : IsLeastPath problem taken n flow p = subst (IsLeastPathIf problem taken n flow) e is in
    subst (λ m. AllByRecursion (λ k. k < m) p.path) (sym s) (path-below (variables_of problem) n p.path 0 (last_of flow) l.is_path.steps)

pub takes-some : (problem : Problem) (taken old new : List Bool) (n : ℕ) (found : Option LeastPath) (p : LeastPath) → ((flow : Flow) → slice_get problem.flows n ≡ Some flow → IsLeastPathIf problem taken n flow found) → found ≡ Some p → new ≡ with_more old p.path →
    TakesPath problem taken n old new
takes-some problem taken old new n found p is e more = record {
  path = p.path;
  is = λ flow stands. inl (within problem taken n flow p (subst (IsLeastPathIf problem taken n flow) e (is flow stands)));
  chosen = more;
}

pub takes-none : (problem : Problem) (taken point : List Bool) (n : ℕ) (found : Option LeastPath) → ((flow : Flow) → slice_get problem.flows n ≡ Some flow → IsLeastPathIf problem taken n flow found) → found ≡ None → TakesPath problem taken n point point
takes-none problem taken point n found is e = record {
  path = [];
  is = λ flow stands. inr (refl, subst (IsLeastPathIf problem taken n flow) e (is flow stands));
  chosen = refl;
}

pub paths-snoc : (problem : Problem) (taken : List Bool) (n : ℕ) (flows : List Flow) (paths : List (List ℕ)) (flow : Flow) (path : List ℕ) (m : ℕ) → ArePathsIf problem taken n flows paths → m ≡ n + length flows → IsPathIf problem taken m flow path → ArePathsIf problem taken n (flows ++ flow ∷ []) (paths ++ path ∷ [])
paths-snoc problem taken n [] [] flow path m are e is = (subst (λ x. IsPathIf problem taken x flow path) (let s : m ≡ n = omega arith in s) is, tt)
paths-snoc problem taken n (f ∷ flows) (ks ∷ paths) flow path m are e is = (are.0, paths-snoc problem taken (n + 1) flows paths flow path m are.1 (omega (arith, e)) is)
paths-snoc problem taken n [] (ks ∷ paths) flow path m are e is = absurd are
paths-snoc problem taken n (f ∷ flows) [] flow path m are e is = absurd are

pub path-more : (problem : Problem) (taken old new : List Bool) (flows : List Flow) (flow : Flow) (n : ℕ) → TakesPaths problem taken flows old → n ≡ length flows → slice_get problem.flows n ≡ Some flow → TakesPath problem taken n old new → TakesPaths problem taken (flows ++ flow ∷ []) new
path-more problem taken old new flows flow n t e stands m = record {
  paths = t.paths ++ m.path ∷ [];
  are = paths-snoc problem taken 0 flows t.paths flow m.path n t.are (omega (arith, e)) (m.is flow stands);
  chosen = m.chosen ∙ ap (λ p. with_more p m.path) t.chosen ∙ sym (more-append (replicate (length (variables_of problem)) false) (edges_of t.paths) m.path)
      ∙ ap (with_more (replicate (length (variables_of problem)) false)) (sym (edges-snoc t.paths m.path));
}

pub paths-length : (problem : Problem) (taken : List Bool) (flows : List Flow) (point : List Bool) → TakesPaths problem taken flows point → length point ≡ length (variables_of problem)
paths-length problem taken flows point t = ap length t.chosen ∙ more-length (replicate (length (variables_of problem)) false) (edges_of t.paths) ∙ replicate-length (length (variables_of problem))
