-- The policy that a policy as it is written stands for.
use Rattle.std.specs.Prelude.{ℕ, ◌≡◌, ⊤, List, [], ◌∷◌, ◌++◌, map, flat_map, Result, Ok, Err}
use Rattle.std.specs.Option.{option_map_or}
use Rattle.merlin_model.specs.declared.policy.Part.TheVariants.{Id}
use Rattle.merlin_model.specs.declared.policy.Term.{Term}
use Rattle.policy_grammar.specs.declared.written.Limit.{Limit}
use Rattle.policy_grammar.specs.declared.written.WrittenStatement.{WrittenStatement}
use Rattle.policy_grammar.specs.declared.written.WrittenPolicy.{WrittenPolicy}
use Rattle.policy_expansion.specs.declared.policy.Statement.{Statement}
use Rattle.policy_expansion.specs.declared.policy.Policy.{Policy}
use Rattle.policy_expansion.specs.declared.policy.ExpansionFault.{ExpansionFault}
use Rattle.policy_expansion.specs.declared.policy.ExpansionFault.TheVariants.{OutOfMemory}
use Rattle.policy_expansion.specs.WrittenOut.{statements_of}
use Rattle.policy_expansion.specs.Faults.{fault_of}

-- a statement without its limits
abbrev pub plain : WrittenStatement → Statement
plain s = record { id = s.id; pred = s.pred; path = s.path }

-- a limit of a statement is a term with its one id
abbrev pub term_of : List ℕ → Limit → Term
term_of id limit = record { bound = limit.bound; parts = Id id ∷ []; rate = limit.rate }

abbrev pub terms_of : WrittenStatement → List Term
terms_of s = map (term_of s.id) s.limits

-- the statements, and the terms of their limits before those of the formula
abbrev pub policy_of : WrittenPolicy → Policy
policy_of w = record {
  statements = map plain (statements_of w);
  default_path = w.default_path;
  formula = record { terms = flat_map terms_of (statements_of w) ++ w.terms };
}

-- the policy where there is no fault, else the fault
abbrev pub expansion : WrittenPolicy → Result Policy ExpansionFault
expansion w = option_map_or Err (fault_of w) (Ok (policy_of w))

-- The answer is the expansion, unless memory ran out.
abbrev pub IsExpansion : WrittenPolicy → Result Policy ExpansionFault → Type 0
IsExpansion w (Ok policy) = expansion w ≡ Ok policy
IsExpansion w (Err OutOfMemory) = ⊤
IsExpansion w (Err fault) = expansion w ≡ Err fault
