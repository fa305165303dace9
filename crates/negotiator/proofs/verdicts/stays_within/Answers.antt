use Rattle.std.proofs.Common.{◌↔◌, IsTrue, not, ap, ◌∙◌, subst}
use Rattle.negotiator.specs.Between.{StaysWithin}
use Rattle.negotiator.proofs.Walking.{read-by, width-of, stays-decided, not-not}
use Rattle.negotiator.proofs.verdicts.stays_within.Goals as goal

pub included-requires-clause-first : goal.included-requires-clause-first
included-requires-clause-first c =
    let r = read-by c.args.case.now.symbols.now c.args.case.now.child.now c.requires.case.child c.args.of_child c.requires.of_child c.automaton-path.result.now c.automaton-path.ensures in
    width-of c.args.case.now.symbols.now c.args.case.now.child.now.policy c.args.of_child c.automaton-path.result.now r

pub included-requires-clause-second : goal.included-requires-clause-second
included-requires-clause-second c =
    let r = read-by c.args.case.now.symbols.now c.args.case.now.parent.now c.requires.case.parent c.args.of_parent c.requires.of_parent c.automaton-other.result.now c.automaton-other.ensures in
    width-of c.args.case.now.symbols.now c.args.case.now.parent.now.policy c.args.of_parent c.automaton-other.result.now r

pub returns : goal.returns
returns c =
    let r = read-by c.args.case.now.symbols.now c.args.case.now.child.now c.requires.case.child c.args.of_child c.requires.of_child c.automaton-path.result.now c.automaton-path.ensures in
    let q = read-by c.args.case.now.symbols.now c.args.case.now.parent.now c.requires.case.parent c.args.of_parent c.requires.of_parent c.automaton-other.result.now c.automaton-other.ensures in
    subst (λ b. IsTrue b ↔ StaysWithin c.args.case.now.net.now c.args.case.now.parent.now.policy c.args.case.now.child.now.policy c.args.src c.args.dst c.args.of_child c.args.of_parent) (ap not c.is_none.ensures ∙ not-not c.is_none.result)
    (stays-decided c.args.case.now.net.now c.args.case.now.symbols.now c.requires.case.symbols c.args.case.now.parent.now.policy c.args.case.now.child.now.policy c.args.of_child c.args.of_parent
    c.automaton-path.result.now c.automaton-other.result.now r q c.args.src c.args.dst c.in_ok-stray.stray c.in_ok-stray.ensures)
