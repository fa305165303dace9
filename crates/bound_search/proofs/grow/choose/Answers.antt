use Rattle.std.proofs.Common.{rules, arith}
use Rattle.bound_search.proofs.BoxLaws.{open_is_free, free_is_open}
use Rattle.bound_search.proofs.grow.choose.Goals as goal

pub returns-clause-chosen : goal.returns-clause-chosen
returns-clause-chosen g c = search rules

pub returns-clause-is_open : goal.returns-clause-is_open
returns-clause-is_open g c =
    free_is_open _ c.args.boxes.now c.chooser.result c.requires.boxes
    (c.requires.chooses c.args.boxes.now.shut c.requires.has_open.variable c.chooser.result
    (open_is_free _ c.args.boxes.now _ c.requires.boxes c.requires.has_open.is_open) (search rules))

pub returns-clause-plain : goal.returns-clause-plain
returns-clause-plain g c =
    let o = returns-clause-is_open g c in let e = o.exists in let s = c.requires.boxes.box.size in
    omega arith

pub returns-clause-shut : goal.returns-clause-shut
returns-clause-shut g c =
    let o = returns-clause-is_open g c in let e = o.exists in let s = c.requires.boxes.shut.size in
    omega arith
