use Rattle.std.proofs.Common.{◌+◌, ◌++◌, List, drop, get_or, ap, sym, ◌∙◌}
use Rattle.std.proofs.lemmas.List.{at_drop_more}
use Rattle.policy_grammar.specs.declared.written.Literal.{Literal}
use Rattle.policy_grammar.specs.declared.written.Literal.TheVariants.{Mac}
use Rattle.policy_expansion.specs.WrittenOut.{first_places}
use Rattle.policy_expansion.specs.Seen.{has_seen}
use Rattle.policy_expansion.proofs.Places.{to_keep, nothing_seen, new_kept, old_dropped, from_not_true, from_not_false}
use Rattle.policy_expansion.proofs.literals.without_repeats.Goals as goal
use Rattle.policy_expansion.proofs.literals.without_repeats.Goals.{then-branch+in_ok-push, else-branch}

pub loop-literal-init : goal.loop-literal-init
loop-literal-init c = ap (λ kept. kept ++ to_keep (has_seen c.new-seen.result) c.args.literals.now) c.new-kept.ensures ∙ nothing_seen (has_seen c.new-seen.result) c.new-seen.ensures c.args.literals.now

pub loop-literal-preserved : goal.loop-literal-preserved
loop-literal-preserved c =
    let literals = c.args.literals.now in
    let i = c.loop-literal.literal-index in
    let before = has_seen c.loop-literal.seen in
    let after = has_seen c.insert.new.self in
    let x = get_or literals i (Mac 0) in
    let others : List Literal = drop (i + 1) literals in
    let so_far = ap (λ rest. c.loop-literal.kept ++ rest) (sym (at_drop_more (to_keep before) literals i (Mac 0) c.loop-literal-test.true)) ∙ c.loop-literal.invariant in
    elim c.if-branch.branch [
      | then-branch+in_ok-push w ↦
          ap (λ kept. kept ++ to_keep after others) (w.kept-is ∙ w.in_ok-push.ensures.ok)
          ∙ new_kept before after x others c.loop-literal.kept (first_places literals) c.in_ok-insert.ensures.now so_far (from_not_true _ _ c.in_ok-insert.ensures.is_new w.if-branch.true)
      | else-branch w ↦
          ap (λ kept. kept ++ to_keep after others) w.kept-is
          ∙ old_dropped before after x others c.loop-literal.kept (first_places literals) c.in_ok-insert.ensures.now so_far (from_not_false _ _ c.in_ok-insert.ensures.is_new w.if-branch.false)
    ]
