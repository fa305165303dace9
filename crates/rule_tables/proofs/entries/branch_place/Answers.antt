use Rattle.std.proofs.Common.{◌≢◌, Contains, sym, subst}
use Rattle.std.proofs.lemmas.List.{take_all}
use Rattle.rule_tables.proofs.Placing.{each-next}
use Rattle.rule_tables.proofs.entries.branch_place.Goals as goal

pub loop-place-preserved : goal.loop-place-preserved
loop-place-preserved c =
    each-next (λ b. b.dest ≢ c.args.dest) c.args.branches.now c.loop-place.place c.index-branches-place.result c.loop-place-test.true c.loop-place.invariant
    (subst (λ b. b.dest ≢ c.args.dest) c.index-branches-place.is c.if-branch-dest.false)

pub returns : goal.returns
returns c = λ branch among. c.loop-place.invariant branch (subst (λ bs. Contains bs branch) (sym (take_all c.loop-place.place c.args.branches.now c.loop-place-test.false)) among)
