use Rattle.merlin_model.specs.declared.network.FnDecl.{FnDecl}
use Rattle.policy_names.specs.declared.names.Meaning.TheVariants.{Function}
use Rattle.policy_names.specs.Meanings.{meaning_held}
use Rattle.policy_names.proofs.Tabled.{filled_more}
use Rattle.policy_names.proofs.names.add_functions.Goals as goal

pub loop-number-preserved : goal.loop-number-preserved
loop-number-preserved c =
    filled_more (λ (f : FnDecl). f.name) (λ n. Function n) c.args.functions.now c.loop-number.number c.index-functions-number.result c.loop-number-test.true c.index-functions-number.is
    (meaning_held c.args.names.now) (meaning_held c.loop-number.names) (meaning_held c.add.new.names) c.loop-number.invariant c.bytes.result.now c.bytes.ensures c.in_ok-add.ensures
