use Rattle.contract_edits.proofs.splits.cells_of_pair.Goals as goal

pub returns-clause-cells : goal.returns-clause-cells
returns-clause-cells c = c.cells.ensures.cells

pub returns-clause-err : goal.returns-clause-err
returns-clause-err c = c.cells.ensures.err
