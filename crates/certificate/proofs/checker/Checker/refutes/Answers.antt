use Rattle.std.proofs.Common.{◌≡◌, Err, sym, ◌∙◌, subst}
use Rattle.std.specs.Option.{option_copied}
use Rattle.merlin_model.specs.Trees.{Refutes, root_box}
use Rattle.certificate.specs.Checks.{IsTreeCheck}
use Rattle.certificate.proofs.AtCutoffs.{is-at}
use Rattle.certificate.proofs.Walks.{root_is, in_root, answer_refutes, first_fault}
use Rattle.certificate.proofs.checker.Checker.refutes.Goals as goal

pub returns-in-Ok-clause-ok : goal.returns-in-Ok-clause-ok
returns-in-Ok-clause-ok g c =
    let p = g.P.Program.instance c.args.self.now.program.now (option_copied c.args.cutoff) in let at = is-at _ _ _ _ _ (option_copied c.args.cutoff) (g.met.P.Program.cutoffs c.args.self.now.program.now) (g.met.P.Program.is_program c.args.self.now.program.now) c.requires in
    let root : c.args.self.now.fixed ≡ root_box p = c.args.self.now.free ∙ root_is p _ (sym at.variables_same) in
    subst (λ box. Refutes (g.P.Program.instance c.args.self.now.program.now (option_copied c.args.cutoff)) c.args.tree.now box) root c.in-Ok.ensures.answer.0

pub returns-in-Ok-clause-none : goal.returns-in-Ok-clause-none
returns-in-Ok-clause-none g c = λ point solution.
    let p = g.P.Program.instance c.args.self.now.program.now (option_copied c.args.cutoff) in let at = is-at _ _ _ _ _ (option_copied c.args.cutoff) (g.met.P.Program.cutoffs c.args.self.now.program.now) (g.met.P.Program.is_program c.args.self.now.program.now) c.requires in
    let root : c.args.self.now.fixed ≡ root_box p = c.args.self.now.free ∙ root_is p _ (sym at.variables_same) in
    c.refuted_box_has_no_solution.ensures p c.args.tree.now (root_box p)
    (subst (λ box. Refutes (g.P.Program.instance c.args.self.now.program.now (option_copied c.args.cutoff)) c.args.tree.now box) root c.in-Ok.ensures.answer.0)
    point solution (in_root p point)

pub returns-in-Err-clause-fault : goal.returns-in-Err-clause-fault
returns-in-Err-clause-fault g c =
    let p = g.P.Program.instance c.args.self.now.program.now (option_copied c.args.cutoff) in let at = is-at _ _ _ _ _ (option_copied c.args.cutoff) (g.met.P.Program.cutoffs c.args.self.now.program.now) (g.met.P.Program.is_program c.args.self.now.program.now) c.requires in
    let root : c.args.self.now.fixed ≡ root_box p = c.args.self.now.free ∙ root_is p _ (sym at.variables_same) in
    let answer = subst (λ box. IsTreeCheck (g.P.Program.instance c.args.self.now.program.now (option_copied c.args.cutoff)) c.args.tree.now box 0 (Err c.in-Err.node)) root c.in-Err.ensures.answer in
    answer_refutes p c.args.tree.now (root_box p) answer.0 answer.1

pub returns-in-Err-clause-first : goal.returns-in-Err-clause-first
returns-in-Err-clause-first g c =
    let p = g.P.Program.instance c.args.self.now.program.now (option_copied c.args.cutoff) in let at = is-at _ _ _ _ _ (option_copied c.args.cutoff) (g.met.P.Program.cutoffs c.args.self.now.program.now) (g.met.P.Program.is_program c.args.self.now.program.now) c.requires in
    let root : c.args.self.now.fixed ≡ root_box p = c.args.self.now.free ∙ root_is p _ (sym at.variables_same) in
    let answer = subst (λ box. IsTreeCheck (g.P.Program.instance c.args.self.now.program.now (option_copied c.args.cutoff)) c.args.tree.now box 0 (Err c.in-Err.node)) root c.in-Err.ensures.answer in
    first_fault p c.args.tree.now (root_box p) c.in-Err.node answer
