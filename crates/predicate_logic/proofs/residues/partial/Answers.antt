use Rattle.std.proofs.Common.{ap, ◌∙◌}
use Rattle.std.proofs.lemmas.Result.{IfOk-weaker}
use Rattle.merlin_model.specs.declared.policy.Pred.{Pred}
use Rattle.merlin_model.specs.Predicates.{holds}
use Rattle.predicate_logic.proofs.Meanings.{residue-holds}
use Rattle.predicate_logic.proofs.residues.partial.Goals as goal

pub returns-clause-same : goal.returns-clause-same
returns-clause-same c = IfOk-weaker c.residue.result _ _ (λ rest e p at. ap (λ (q : Pred). holds q p) e ∙ residue-holds _ _ p at c.args.pred.now) c.residue.ensures
