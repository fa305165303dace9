use Rattle.predicate_split.proofs.Owners.{goes}
use Rattle.predicate_split.proofs.FirstCells.{first-cell}
use Rattle.predicate_split.proofs.laws.first_cell_names_the_owner.Goals as goal

pub returns : goal.returns
returns c preds src dst p well packet between = first-cell src dst preds well p packet (goes p src dst between)
