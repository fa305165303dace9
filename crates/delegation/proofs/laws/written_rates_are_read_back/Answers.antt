use Rattle.delegation.proofs.Written.{written-rates}
use Rattle.delegation.proofs.laws.written_rates_are_read_back.Goals as goal

pub returns : goal.returns
returns c = written-rates
