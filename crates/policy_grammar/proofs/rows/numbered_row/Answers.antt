use Rattle.std.proofs.Common.{refl}
use denote.Hole.Carrier.{hidden}
use Rattle.policy_grammar.specs.declared.written.RawPath.TheBlock.{hidden-the_row-RawPath-0, hidden-the_row-RawPath-1}
use Rattle.policy_grammar.proofs.rows.numbered_row.Goals as goal

pub returns-clause-unknown : goal.returns-clause-unknown
unfolding hidden-the_row-RawPath-0 hidden-the_row-RawPath-1 hidden
returns-clause-unknown c = refl

pub returns-clause-numbered : goal.returns-clause-numbered
unfolding hidden-the_row-RawPath-0 hidden-the_row-RawPath-1 hidden
returns-clause-numbered c = refl
