use Rattle.policy_configuration.proofs.Printable.{printable}
use Rattle.policy_configuration.proofs.laws.made_lines_are_over_the_network.Goals as goal

pub returns : goal.returns
returns c net policy ends walks config m = printable net policy ends walks config m (c.made_is_compiled.ensures.compiled net policy ends walks config m).written_are
