use Rattle.std.proofs.Common.{ℕ, [], ◌∷◌, List, cond, ap, ap₂, ◌∙◌, take_all}
use Rattle.std.proofs.lemmas.Result.{IfOk-weaker}
use Rattle.std.specs.List.{flat_map}
use Rattle.predicate_logic.specs.Mentions.{mentions, prefixes, ascending}
use Rattle.predicate_split.specs.declared.pairs.PlacedPred.{PlacedPred}
use Rattle.predicate_split.specs.Parts.{bits_of, has_field, parts_within}
use Rattle.predicate_split.specs.Overlaps.{preds_in}
use Rattle.predicate_split.proofs.pairs.parts_for.Goals as goal

pub returns : goal.returns
returns c =
    let all = take_all c.loop-entry.entry-index c.args.entries.now c.loop-entry-test.false in
    let named = c.loop-entry.invariant.named ∙ ap (λ (l : List PlacedPred). flat_map (mentions c.args.field) (preds_in l)) all in
    let blocks = c.loop-entry.invariant.blocks ∙ ap (λ (l : List PlacedPred). flat_map (prefixes c.args.field) (preds_in l)) all in
    IfOk-weaker c.parts_where.result _ _
    (λ parts e. e ∙ ap₂ (λ (bs : List (ℕ × ℕ)) (ns : List ℕ). cond (has_field c.args.field c.args.proto) (parts_within (bits_of c.args.field) bs (ascending ns)) (0 ∷ [])) blocks named)
    c.parts_where.ensures
