use Rattle.std.proofs.Common.{◌≡◌, ◌<◌, ◌≤◌, ℕ, Option, MatchOption, refl, subst, arith}
use Rattle.packet_model.specs.Texts.{all_fields}
use Rattle.predicate_split.specs.Classes.{class_count}
use Rattle.predicate_split.specs.Refusals.{classes_in}
use Rattle.predicate_split.proofs.witness.ask_classes.Goals as goal

pub returns-in-Some-clause-ok : goal.returns-in-Some-clause-ok
unfolding classes_in
returns-in-Some-clause-ok c =
    let m : (c.in-Some._count ≡ class_count all_fields 0 c.args.preds.now) × (c.in-Some._count ≤ 4194304) =
    subst (λ (o : Option ℕ). MatchOption o (4194304 < class_count all_fields 0 c.args.preds.now) (λ n. (n ≡ class_count all_fields 0 c.args.preds.now) × (n ≤ 4194304))) c.in-Some.is c.in_ok-found.ensures in
    omega (arith, m.0, m.1)

pub returns-in-None-clause-err : goal.returns-in-None-clause-err
unfolding classes_in
returns-in-None-clause-err c = (
  subst (λ (o : Option ℕ). MatchOption o (4194304 < class_count all_fields 0 c.args.preds.now) (λ n. (n ≡ class_count all_fields 0 c.args.preds.now) × (n ≤ 4194304))) c.in-None.is c.in_ok-found.ensures,
  refl,
)
