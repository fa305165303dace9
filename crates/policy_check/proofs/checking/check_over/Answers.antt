use Rattle.std.proofs.Common.{subst}
use Rattle.policy_check.specs.Sharing.{ShareAutomata}
use Rattle.policy_check.proofs.Sound.{formed-preds}
use Rattle.policy_check.proofs.Keeping.{kept, check-of}
use Rattle.policy_names.specs.Names.{raw_paths}
use Rattle.policy_check.proofs.checking.check_over.Goals as goal

pub judge-requires : goal.judge-requires
judge-requires c = record { formed = formed-preds c.args.policy.now.statements c.requires.formed.preds }

pub invariant_of-result : goal.invariant_of-result
invariant_of-result c =
    kept c.args.net.now c.args.symbols.now c.args.policy.now c.requires.expanded c.requires.formed c.in_ok-paths.ensures.ok.0 c.in_ok-judged.judged c.in_ok-judged.ensures.ok c.in_ok-paths.paths c.in_ok-paths.ensures.ok.1
    c.in_ok-automata.automata (subst (λ l. ShareAutomata c.args.symbols.now l c.in_ok-automata.automata) c.as_slice-2.ensures c.in_ok-automata.ensures.ok) c.in_ok-formula.formula c.in_ok-formula.ensures c.no_fault_leaves_room.ensures

pub returns-clause-ok : goal.returns-clause-ok
returns-clause-ok c =
    check-of c.args.net.now c.args.symbols.now c.args.policy.now c.requires.expanded c.requires.formed c.in_ok-paths.ensures.ok.0 c.in_ok-judged.judged c.in_ok-judged.ensures.ok c.in_ok-paths.paths c.in_ok-paths.ensures.ok.1
    c.in_ok-automata.automata (subst (λ l. ShareAutomata c.args.symbols.now l c.in_ok-automata.automata) c.as_slice-2.ensures c.in_ok-automata.ensures.ok) c.in_ok-formula.formula c.in_ok-formula.ensures c.no_fault_leaves_room.ensures
    (c.no_function_stands_under_not.ensures c.args.net.now (raw_paths c.args.policy.now) c.in_ok-paths.ensures.ok.0)
