use Rattle.std.specs.Prelude.{Result, Ok, Err, IfOk}
use Rattle.std.proofs.Common.{List, ℕ}
use Rattle.policy_expansion.specs.declared.policy.Policy.{Policy}
use Rattle.policy_parser.specs.declared.fault.PolicyFault.{PolicyFault}
use Rattle.policy_parser.specs.Policies.{IsReading, IsParsed}
use Rattle.policy_parser.proofs.Once.{one_reading}
use Rattle.policy_parser.proofs.Formed.{parsed_formed}
use Rattle.policy_parser.proofs.parsing.parse.Goals as goal

pub returns-clause-only : goal.returns-clause-only
returns-clause-only c = λ other reading. one_reading _ _ _ c.reading_of.ensures reading

parsed : (text : List ℕ) (r : Result Policy PolicyFault) → IsReading text r → IfOk r IsParsed
parsed text (Ok policy) p = parsed_formed text policy p
parsed text (Err fault) p = tt

pub returns-clause-parsed : goal.returns-clause-parsed
returns-clause-parsed c = parsed c.args.bytes.now c.reading_of.result c.reading_of.ensures
