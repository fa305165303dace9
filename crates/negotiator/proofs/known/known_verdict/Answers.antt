use Rattle.std.proofs.Common.{◌≡◌, None, Option, length, sym, ◌∙◌, subst, arith}
use Rattle.std.proofs.lemmas.List.{get_or_default}
use Rattle.negotiator.specs.declared.known.Known.{Known}
use Rattle.negotiator.specs.Known.{KnowsVerdict}
use Rattle.negotiator.proofs.known.known_verdict.Goals as goal

pub returns-in-Some-clause-verdict : goal.returns-in-Some-clause-verdict
returns-in-Some-clause-verdict c =
    let within = c.requires.of_child in
    let count = c.requires.kept.count in
    let at = get_or_default c.args.kept.now.items c.args.of_child None c.index.result.now (omega arith) in
    subst (KnowsVerdict c.args.case.now c.args.src c.args.dst c.args.of_child) (at ∙ (sym c.index.ensures ∙ c.in-Some.ensures)) (c.requires.kept.each c.args.of_child)
