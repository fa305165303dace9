use Rattle.std.proofs.Common.{◌+◌, ℕ, List, take, drop, get_or, Some, sym, subst, arith}
use Rattle.std.proofs.lemmas.Result.{err_from_is_err_and}
use Rattle.product_graph.specs.declared.span.Span2.TheVariants.{Pair}
use Rattle.product_graph.proofs.Lists.{all-at, take-more}
use Rattle.openflow_rules.specs.declared.fault.TheConstants.{MAX_ENTRIES}
use Rattle.openflow_rules.specs.declared.spans.GroupSpan.{GroupSpan}
use Rattle.openflow_rules.specs.GroupSpans.{IsGroupSpan}
use Rattle.openflow_rules.specs.Gathered.{IsRoomBeside, IsTagIn, IsGathered}
use Rattle.openflow_rules.proofs.Additions.{fault-wider, gathered-none, gathered-next, gathered-wider}
use Rattle.openflow_rules.proofs.Steps.{split-at, taken-all}
use Rattle.openflow_rules.proofs.gathering.gather.Goals as goal

abbrev none : GroupSpan
none = record { group = 0; leader = 0; span = Pair 0 0 }

pub loop-span-init : goal.loop-span-init
loop-span-init c = λ groups all.
    gathered-none c.args.site.now.net.now groups (record { tags = c.new.result; room = Some MAX_ENTRIES; branches = c.new-2.result }) c.new.ensures room c.new-2.ensures
  where
    room : IsRoomBeside 0 (Some MAX_ENTRIES)
    room = omega arith

pub add_product-requires-clause-few : goal.add_product-requires-clause-few
add_product-requires-clause-few c = (c.loop-span.invariant c.requires.spans.0 c.requires.spans.1).few

pub add_product-requires-clause-span : goal.add_product-requires-clause-span
add_product-requires-clause-span c =
    (c.requires.spans.0, all-at (IsGroupSpan c.args.site.now.net.now c.args.site.now.checked.now c.requires.spans.0) c.args.spans.now c.loop-span.span-index none c.loop-span-test.true c.requires.spans.1)

pub returns-in_err-add_product-clause-err : goal.returns-in_err-add_product-clause-err
returns-in_err-add_product-clause-err c = λ groups all.
    let spans : List GroupSpan = c.args.spans.now in
    let i : ℕ = c.loop-span.span-index in
    let is = all-at (IsGroupSpan c.args.site.now.net.now c.args.site.now.checked.now groups) spans i none c.loop-span-test.true all in
    let p = err_from_is_err_and c.from_residual.result c.from_residual.ensures.1 in
    rw (p.1, p.2)
    (fault-wider _ _
    (λ k h. subst (λ (l : List GroupSpan). IsTagIn c.args.site.now.net.now groups l k) (sym (split-at spans i none c.loop-span-test.true))
    (gathered-wider c.args.site.now.net.now groups (take i spans) (drop (i + 1) spans) (get_or spans i none) c.loop-span.gathered (c.loop-span.invariant groups all) k h))
    _ (c.in_err-add_product.ensures.err groups is))

pub loop-span-preserved : goal.loop-span-preserved
loop-span-preserved c = λ groups all.
    let spans : List GroupSpan = c.args.spans.now in
    let i : ℕ = c.loop-span.span-index in
    let is = all-at (IsGroupSpan c.args.site.now.net.now c.args.site.now.checked.now groups) spans i none c.loop-span-test.true all in
    subst (λ (l : List GroupSpan). IsGathered c.args.site.now.net.now groups l c.add_product.new.gathered) (sym (take-more spans i none c.loop-span-test.true))
    (gathered-next c.args.site.now.net.now groups (take i spans) (get_or spans i none) c.loop-span.gathered c.add_product.new.gathered (c.loop-span.invariant groups all) (c.in_ok-add_product.ensures.ok groups is))

pub returns-clause-ok : goal.returns-clause-ok
returns-clause-ok c = λ groups all.
    subst (λ (l : List GroupSpan). IsGathered c.args.site.now.net.now groups l c.loop-span.gathered)
    (taken-all c.args.spans.now c.loop-span.span-index (let past = c.loop-span-test.false in omega (arith, past))) (c.loop-span.invariant groups all)
