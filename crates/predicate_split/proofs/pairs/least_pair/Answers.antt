use Rattle.std.proofs.Common.{ap, sym, ◌∙◌, subst, List, None}
use Rattle.std.proofs.lemmas.Result.{IfOk-weaker}
use Rattle.merlin_model.specs.declared.policy.Field.{Field}
use Rattle.merlin_model.specs.declared.policy.Pred.{Pred}
use Rattle.predicate_split.specs.declared.pairs.PlacedPred.{PlacedPred}
use Rattle.packet_model.specs.Texts.{all_fields}
use Rattle.predicate_split.specs.Walks.{AreFresh}
use Rattle.predicate_split.specs.Overlaps.{preds_in, IsLeastPair}
use Rattle.predicate_split.proofs.Starting.{preds-start}
use Rattle.predicate_split.proofs.Places.{preds-entries, pair-some, pair-none}
use Rattle.predicate_split.proofs.pairs.least_pair.Goals as goal

pub pair_from-requires-clause-fresh : goal.pair_from-requires-clause-fresh
pair_from-requires-clause-fresh c =
    subst (λ (fs : List Field). AreFresh fs c.args.zero.proto (preds_in c.as_slice.result.now)) (sym c.requires.fields)
    (subst (λ (l : List Pred). AreFresh all_fields c.args.zero.proto l) (sym (ap preds_in (c.as_slice.ensures ∙ c.in_ok-entries.ensures) ∙ preds-entries 0 c.args.preds.now))
    (preds-start c.args.zero.proto c.args.preds.now c.requires.preds))

pub returns-clause-some : goal.returns-clause-some
returns-clause-some c =
    IfOk-weaker c.pair_from.result _ _ (λ found h. pair-some c.args.preds.now c.args.zero found
    (subst (λ (l : List PlacedPred). IsLeastPair all_fields c.args.zero l None found) (c.as_slice.ensures ∙ c.in_ok-entries.ensures) (subst (λ (fs : List Field). IsLeastPair fs c.args.zero c.as_slice.result.now None found) c.requires.fields h)))
    c.pair_from.ensures

pub returns-clause-none : goal.returns-clause-none
returns-clause-none c =
    IfOk-weaker c.pair_from.result _ _ (λ found h. pair-none c.args.preds.now c.args.zero found
    (subst (λ (l : List PlacedPred). IsLeastPair all_fields c.args.zero l None found) (c.as_slice.ensures ∙ c.in_ok-entries.ensures) (subst (λ (fs : List Field). IsLeastPair fs c.args.zero c.as_slice.result.now None found) c.requires.fields h)))
    c.pair_from.ensures
