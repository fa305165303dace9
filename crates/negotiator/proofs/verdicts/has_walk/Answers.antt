use Rattle.std.proofs.Common.{◌↔◌, IsTrue, sym, subst}
use Rattle.negotiator.specs.Between.{HasWalk}
use Rattle.negotiator.proofs.Walking.{read-by, width-of, walks-decided}
use Rattle.negotiator.proofs.verdicts.has_walk.Goals as goal

pub included-requires-clause-first : goal.included-requires-clause-first
included-requires-clause-first c =
    let r = read-by c.args.case.now.symbols.now c.args.case.now.child.now c.requires.case.child c.args.of_child c.requires.of_child c.automaton-path.result.now c.automaton-path.ensures in
    width-of c.args.case.now.symbols.now c.args.case.now.child.now.policy c.args.of_child c.automaton-path.result.now r

pub returns : goal.returns
returns c =
    let r = read-by c.args.case.now.symbols.now c.args.case.now.child.now c.requires.case.child c.args.of_child c.requires.of_child c.automaton-path.result.now c.automaton-path.ensures in
    subst (λ b. IsTrue b ↔ HasWalk c.args.case.now.net.now c.args.case.now.child.now.policy c.args.src c.args.dst c.args.of_child) (sym c.is_some.ensures)
    (walks-decided c.args.case.now.net.now c.args.case.now.symbols.now c.requires.case.symbols c.args.case.now.child.now.policy c.args.of_child c.automaton-path.result.now c.args.case.now.nothing.now r c.requires.case.nothing c.args.src c.args.dst
    c.in_ok-walk.walk c.in_ok-walk.ensures)
