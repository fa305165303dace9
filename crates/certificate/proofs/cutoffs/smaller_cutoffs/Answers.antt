use Rattle.std.proofs.Common.{None}
use Rattle.std.proofs.lemmas.List.{length-map}
use Rattle.merlin_model.specs.Trees.{root_box}
use Rattle.certificate.proofs.Narrowing.{as_free, leaf_narrower, tree_narrower, root-same, root-free}
use Rattle.certificate.proofs.cutoffs.smaller_cutoffs.Goals as goal

pub returns-clause-leaf : goal.returns-clause-leaf
returns-clause-leaf g c = λ low high box weights t u below refutes.
    leaf_narrower (g.P.Program.instance c.args._program.now low) (g.P.Program.instance c.args._program.now high) box box weights
    ((g.met.P.Program.cutoffs c.args._program.now).narrows low high t u below) (as_free _ box) refutes

pub returns-clause-tree : goal.returns-clause-tree
returns-clause-tree g c = λ low high tree t u below refutes.
    let narrower = (g.met.P.Program.cutoffs c.args._program.now).narrows low high t u below in
    tree_narrower (g.P.Program.instance c.args._program.now low) (g.P.Program.instance c.args._program.now high) tree (root_box (g.P.Program.instance c.args._program.now high)) (root_box (g.P.Program.instance c.args._program.now low))
    narrower (length-map (g.P.Program.instance c.args._program.now high).upper (λ b. None)) (root-same _ _ narrower) (root-free (g.P.Program.instance c.args._program.now low) (g.P.Program.instance c.args._program.now high)) refutes
