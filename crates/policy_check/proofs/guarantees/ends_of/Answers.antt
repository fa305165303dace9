use Rattle.std.proofs.Common.{refl, sym, ◌∙◌, subst, map, Some, ap}
use Rattle.rate_formula.specs.Usage.{ids_in}
use Rattle.merlin_model.specs.Policies.{Statement}
use Rattle.policy_check.specs.Traffic.{ArePairs}
use Rattle.policy_check.specs.declared.pairs.Pairs.TheVariants.{NoPair, OnePair, MorePairs}
use Rattle.policy_check.proofs.Guaranteed.{statement-of, map-at, at-index, ends-of, no-ends, many-ends}
use Rattle.policy_check.proofs.guarantees.ends_of.Goals as goal

pub returns-in_ok-copy-in-NoPair-clause-err : goal.returns-in_ok-copy-in-NoPair-clause-err
returns-in_ok-copy-in-NoPair-clause-err c =
    let policy = c.args.checked.now.policy in
    let s = statement-of policy c.args.statement c.requires.guaranteed in
    let pred = at-index c.preds.result.now (map (λ (s : Statement). s.pred) policy.statements) c.args.statement c.index-preds-statement.result s.0.pred c.preds.ensures (map-at (λ (s : Statement). s.pred) policy.statements c.args.statement s.0 s.1) c.index-preds-statement.is in
    let id = at-index c.ids.result.now (ids_in policy) c.args.statement c.index-ids-statement.result s.0.id c.ids.ensures (map-at (λ (s : Statement). s.id) policy.statements c.args.statement s.0 s.1) c.index-ids-statement.is in
    no-ends c.args.net.now policy c.requires.sound.disjoint c.args.statement s.0 s.1 c.in_ok-copy-in-NoPair.field-0
    (map-at (λ (s : Statement). s.id) policy.statements c.args.statement s.0 s.1 ∙ ap Some (sym (c.in_ok-copy-in-NoPair.ensures ∙ id)))
    (subst (λ p. ArePairs c.args.net.now p NoPair) pred (subst (ArePairs c.args.net.now c.index-preds-statement.result) c.in-NoPair.is c.in_ok-pairs_of.ensures))

pub returns-in-OnePair-clause-ok : goal.returns-in-OnePair-clause-ok
returns-in-OnePair-clause-ok c =
    let policy = c.args.checked.now.policy in
    let s = statement-of policy c.args.statement c.requires.guaranteed in
    let pred = at-index c.preds.result.now (map (λ (s : Statement). s.pred) policy.statements) c.args.statement c.index-preds-statement.result s.0.pred c.preds.ensures (map-at (λ (s : Statement). s.pred) policy.statements c.args.statement s.0 s.1) c.index-preds-statement.is in
    ends-of c.args.net.now policy c.requires.sound.disjoint c.args.statement s.0 s.1 (record { statement = c.args.statement; src = c.in-OnePair.src; dst = c.in-OnePair.dst }) c.requires.guaranteed refl
    (subst (λ p. ArePairs c.args.net.now p (OnePair (c.in-OnePair.src, c.in-OnePair.dst))) pred (subst (ArePairs c.args.net.now c.index-preds-statement.result) c.in-OnePair.is c.in_ok-pairs_of.ensures))

pub returns-in_ok-copy-in-MorePairs-clause-err : goal.returns-in_ok-copy-in-MorePairs-clause-err
returns-in_ok-copy-in-MorePairs-clause-err c =
    let policy = c.args.checked.now.policy in
    let s = statement-of policy c.args.statement c.requires.guaranteed in
    let pred = at-index c.preds.result.now (map (λ (s : Statement). s.pred) policy.statements) c.args.statement c.index-preds-statement.result s.0.pred c.preds.ensures (map-at (λ (s : Statement). s.pred) policy.statements c.args.statement s.0 s.1) c.index-preds-statement.is in
    let id = at-index c.ids-in-MorePairs.result.now (ids_in policy) c.args.statement c.index-ids-statement-in-MorePairs.result s.0.id c.ids-in-MorePairs.ensures (map-at (λ (s : Statement). s.id) policy.statements c.args.statement s.0 s.1) c.index-ids-statement-in-MorePairs.is in
    many-ends c.args.net.now policy c.requires.sound.disjoint c.args.statement s.0 s.1 c.in_ok-copy-in-MorePairs.field-0 c.in-MorePairs.first c.in-MorePairs.second
    (map-at (λ (s : Statement). s.id) policy.statements c.args.statement s.0 s.1 ∙ ap Some (sym (c.in_ok-copy-in-MorePairs.ensures ∙ id)))
    (subst (λ p. ArePairs c.args.net.now p (MorePairs c.in-MorePairs.first c.in-MorePairs.second)) pred (subst (ArePairs c.args.net.now c.index-preds-statement.result) c.in-MorePairs.is c.in_ok-pairs_of.ensures))
