use Rattle.std.proofs.Common.{List, sym, ◌∙◌, subst, get_or, None}
use Rattle.std.proofs.lemmas.List.{take_more}
use Rattle.std.specs.List.{AllByRecursion}
use Rattle.packet_model.specs.Fields.{packet_with}
use Rattle.predicate_split.specs.declared.grids.Choice.{Choice}
use Rattle.predicate_split.specs.Stretches.{IsInStretch}
use Rattle.predicate_split.proofs.Stretching.{still-in, all-still, all-more, new-in}
use Rattle.predicate_split.proofs.grids.stretch_of.Goals as goal

abbrev no_choice : Choice
no_choice = record { port = None; value = 0 }

pub loop-choice-preserved : goal.loop-choice-preserved
loop-choice-preserved c =
    let old = c.loop-choice.stretch in
    let new = c.with-stretch.result in
    let i = c.loop-choice.choice-index in
    let one = get_or c.args.choices.now i no_choice in
    let field = c.with-stretch.ensures.field ∙ c.loop-choice.invariant.field in
    record {
      field = field;
      each =
          subst (λ (cs : List Choice). AllByRecursion (λ d. IsInStretch new (packet_with c.args.packet c.args.field d.value)) cs) (sym (take_more c.args.choices.now i no_choice c.loop-choice-test.true))
          (all-more (λ d. IsInStretch new (packet_with c.args.packet c.args.field d.value)) _ one
          (all-still (λ d. IsInStretch old (packet_with c.args.packet c.args.field d.value)) (λ d. IsInStretch new (packet_with c.args.packet c.args.field d.value))
          (λ d at. still-in old new (packet_with c.args.packet c.args.field d.value) c.with-stretch.ensures.field c.with-stretch.ensures.low c.with-stretch.ensures.past at) _ c.loop-choice.invariant.each)
          (new-in new (packet_with c.args.packet c.args.field one.value) c.args.field c.value_with.result field c.value_with.ensures.value c.with-stretch.ensures.value));
    }
