use Rattle.std.proofs.Common.{◌≡◌, ◌≤◌, ◌∷◌, ℕ, List, length, false}
use Rattle.policy_grammar.specs.declared.written.RawPath.{RawPath}
use Rattle.policy_grammar.specs.Machine.{Awaited, prim, awaiting}
use Rattle.policy_parser.specs.Readers.{run_text}
use Rattle.policy_parser.proofs.paths.stars.Given as goal

abbrev pub invariant-stars : goal.invariant-stars
invariant-stars l = record {
  reads : (p : RawPath) (k : List Awaited) (n : ℕ) → run_text l.fn.lexemes (awaiting (prim p false ∷ k) n) ≡ run_text l.rest (awaiting (prim p l.found ∷ k) n);
  shorter : length l.rest ≤ length l.fn.lexemes;
}

abbrev pub decreases-stars : goal.decreases-stars
decreases-stars l = length l.rest
