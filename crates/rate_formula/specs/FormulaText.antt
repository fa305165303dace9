-- A formula as it is printed: `max(x + y + 5kbps, 9kbps) and min(x, 2kbps)`.
use Rattle.std.specs.Prelude.{ℕ, List, ◌++◌, codes}
use Rattle.std.specs.List.{join_by}
use Rattle.std.specs.Fmt.{decimal}
use Rattle.merlin_model.specs.declared.policy.Bound.{Bound}
use Rattle.merlin_model.specs.declared.policy.Bound.TheVariants.{Max, Min}
use Rattle.merlin_model.specs.declared.policy.Part.{Part}
use Rattle.merlin_model.specs.declared.policy.Part.TheVariants.{Id, Constant}
use Rattle.merlin_model.specs.declared.policy.Term.{Term}

abbrev pub rate_text : ℕ → List ℕ
rate_text rate = decimal rate ++ codes "kbps"

abbrev pub part_text : Part → List ℕ
part_text (Id id) = id
part_text (Constant rate) = rate_text rate

abbrev pub bound_text : Bound → List ℕ
bound_text Max = codes "max("
bound_text Min = codes "min("

abbrev pub term_text : Term → List ℕ
term_text term = bound_text term.bound ++ join_by part_text (codes " + ") term.parts ++ codes ", " ++ rate_text term.rate ++ codes ")"

abbrev pub formula_text : List Term → List ℕ
formula_text terms = join_by term_text (codes " and ") terms
