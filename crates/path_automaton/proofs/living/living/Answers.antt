use Rattle.std.proofs.Common.{Bool, subst}
use Rattle.path_automaton.specs.Living.{IsSpread}
use Rattle.path_automaton.proofs.LivingLaws.{between-end}
use Rattle.path_automaton.proofs.living.living.Goals as goal

pub returns : goal.returns
returns c =
    between-end c.args.rows.now c.args.accepting.now c.rounds.living c.spread.new.living c.requires c.rounds.invariant
    (subst (λ (b : Bool). IsSpread c.args.rows.now 0 c.rounds.living c.spread.new.living b) c.rounds-test.false c.spread.ensures)
