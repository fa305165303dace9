use Rattle.std.proofs.Common.{◌≡◌, ◌<◌, arith, ◌∙◌, ap, replicate, None}
use Rattle.std.specs.Option.{option_copied}
use Rattle.merlin_model.specs.Programs.{variables}
use Rattle.bound_search.proofs.Descent.{variables-same}
use Rattle.bound_search.proofs.Roots.{none-shut, one-shut, made_boxes}
use Rattle.bound_search.specs.Boxes.{shut_at}
use Rattle.bound_search.proofs.boxes.root.Goals as goal

pub loop-variable-init : goal.loop-variable-init
loop-variable-init g c =
    let same = variables-same _ _ _ _ _ (option_copied c.args.cutoff) (g.met.P.Program.cutoffs c.args.program.now) c.requires in
    let size : c.variables-variables.result ≡ variables (g.P.Program.instance c.args.program.now (option_copied c.args.cutoff)) = let e = c.variables-variables.ensures in omega arith in
    none-shut (g.P.Program.instance c.args.program.now (option_copied c.args.cutoff)) _ (c.in_ok-shut.ensures ∙ ap (λ n. replicate n None) size)

pub set-requires : goal.set-requires
set-requires g c =
    let same = variables-same _ _ _ _ _ (option_copied c.args.cutoff) (g.met.P.Program.cutoffs c.args.program.now) c.requires in
    let s = c.loop-variable.invariant.size in let e = c.variables-variables.ensures in let h = c.loop-variable-test.true in omega arith

pub loop-variable-preserved : goal.loop-variable-preserved
loop-variable-preserved g c =
    let same = variables-same _ _ _ _ _ (option_copied c.args.cutoff) (g.met.P.Program.cutoffs c.args.program.now) c.requires in
    let within : c.loop-variable.variable < variables (g.P.Program.instance c.args.program.now (option_copied c.args.cutoff)) =
    let e = c.variables-variables.ensures in let h = c.loop-variable-test.true in omega arith in
    one-shut _ c.loop-variable.variable _ _ _ within c.loop-variable.invariant c.set.ensures (c.shut_to.ensures ∙ ap (λ b. shut_at b None) c.upper.ensures)

pub returns-clause-boxes : goal.returns-clause-boxes
returns-clause-boxes g c =
    let same = variables-same _ _ _ _ _ (option_copied c.args.cutoff) (g.met.P.Program.cutoffs c.args.program.now) c.requires in let e = c.variables-variables.ensures in let h = c.loop-variable-test.false in let k = c.loop-variable.auto.variable-end in
    let all : c.variables-variables.result ≡ variables (g.P.Program.instance c.args.program.now (option_copied c.args.cutoff)) = omega arith in
    (made_boxes (g.P.Program.instance c.args.program.now (option_copied c.args.cutoff)) _ _ c.loop-variable.variable (omega arith) (c.in_ok-plain.ensures ∙ ap (λ n. replicate n None) all) c.loop-variable.invariant).1

pub returns-clause-free : goal.returns-clause-free
returns-clause-free g c =
    let same = variables-same _ _ _ _ _ (option_copied c.args.cutoff) (g.met.P.Program.cutoffs c.args.program.now) c.requires in let e = c.variables-variables.ensures in let h = c.loop-variable-test.false in let k = c.loop-variable.auto.variable-end in
    let all : c.variables-variables.result ≡ variables (g.P.Program.instance c.args.program.now (option_copied c.args.cutoff)) = omega arith in
    (made_boxes (g.P.Program.instance c.args.program.now (option_copied c.args.cutoff)) _ _ c.loop-variable.variable (omega arith) (c.in_ok-plain.ensures ∙ ap (λ n. replicate n None) all) c.loop-variable.invariant).0
