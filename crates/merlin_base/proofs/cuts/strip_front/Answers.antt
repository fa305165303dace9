use Rattle.std.proofs.lemmas.Slice.Eq.{strip_prefix_is}
use Rattle.std.proofs.lemmas.Bool.Decides.{Decides-eqb}
use Rattle.merlin_base.proofs.Cutting.{behind_front, behind_none}
use Rattle.merlin_base.proofs.cuts.strip_front.Goals as goal

pub returns-clause-some : goal.returns-clause-some
returns-clause-some c = behind_front c.args.text.now c.args.front.now c.strip_prefix.result (strip_prefix_is Decides-eqb c.args.text.now c.args.front.now c.strip_prefix.result c.strip_prefix.ensures.cases)

pub returns-clause-none : goal.returns-clause-none
returns-clause-none c = behind_none c.args.text.now c.args.front.now c.strip_prefix.result (strip_prefix_is Decides-eqb c.args.text.now c.args.front.now c.strip_prefix.result c.strip_prefix.ensures.cases)
