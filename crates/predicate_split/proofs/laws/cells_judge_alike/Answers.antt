use Rattle.predicate_split.proofs.Owners.{goes}
use Rattle.predicate_split.proofs.FirstCells.{judged-alike}
use Rattle.predicate_split.proofs.laws.cells_judge_alike.Goals as goal

pub returns : goal.returns
returns c preds src dst p q well packet other between to same = judged-alike src dst preds well p q packet other (goes p src dst between) (goes q src dst to) same
