use Rattle.std.proofs.Common.{[], ◌∷◌, List, ℕ, cond, sym, ap, subst}
use Rattle.std.specs.List.{flat_map}
use Rattle.packet_model.specs.Texts.{all_fields}
use Rattle.predicate_logic.specs.Mentions.{mentions, prefixes, ascending}
use Rattle.predicate_logic.proofs.Placing.{ascending-pairwise, ascending-in}
use Rattle.predicate_split.specs.Parts.{bits_of, AreParts, parts_within}
use Rattle.predicate_split.proofs.PartLaws.{within-pairwise, part-stands, stands-part}
use Rattle.predicate_split.proofs.Splitting.{blocks-in, mentioned-below}
use Rattle.predicate_split.proofs.Starting.{preds-start}
use Rattle.predicate_split.proofs.laws.parts_are_least_values.Goals as goal

pub returns : goal.returns
returns c f proto preds well has =
    let up = ascending-pairwise (flat_map (mentions f) preds) in
    let are = blocks-in f all_fields proto preds (preds-start proto preds well) in
    subst (λ (parts : List ℕ). AreParts (bits_of f) (flat_map (prefixes f) preds) (ascending (flat_map (mentions f) preds)) parts)
    (sym (ap (λ t. cond t (parts_within (bits_of f) (flat_map (prefixes f) preds) (ascending (flat_map (mentions f) preds))) (0 ∷ [])) has))
    (record {
      ascending = within-pairwise (bits_of f) (flat_map (prefixes f) preds) (ascending (flat_map (mentions f) preds));
      exactly = λ v. (
        λ h. part-stands (bits_of f) (flat_map (prefixes f) preds) (ascending (flat_map (mentions f) preds)) up are v (λ n i. mentioned-below f all_fields proto n preds (preds-start proto preds well) (ascending-in (flat_map (mentions f) preds) n i)) h,
        λ h. stands-part (bits_of f) (flat_map (prefixes f) preds) (ascending (flat_map (mentions f) preds)) up are v h.0 h.1,
      );
    })
