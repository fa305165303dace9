use Rattle.std.proofs.Common.{◌≡◌, ◌<◌, ◌++◌, pos, take, length, get_or, None, false, ◌∙◌, ap, subst, to_z, w64, arith}
use Rattle.std.proofs.lemmas.Int.{ints}
use Rattle.merlin_model.specs.declared.network.DirectedLink.{DirectedLink}
use Rattle.integer_program.proofs.Bounds.{all_at}
use Rattle.cutoff_program.specs.Flows.{link_rows_from}
use Rattle.cutoff_program.specs.Limits.{IsLinkWithin}
use Rattle.merlin_program.proofs.Growing.{link-rows-more}
use Rattle.merlin_program.proofs.rows.push_links.Goals as goal

abbrev no_link : DirectedLink
no_link = record { from = 0; out_port = 0; to = 0; in_port = 0; capacity = 0; back = 0; weight = 0 }

pub loop-link-preserved : goal.loop-link-preserved
loop-link-preserved c = λ before is.
    let here : c.loop-link.link < length c.args.problem.now.links = subst (λ ws. c.loop-link.link < length ws) c.as_slice-directed-items.ensures c.loop-link-test.true in
    let small = (all_at IsLinkWithin c.args.problem.now.links c.loop-link.link no_link c.requires.is.links here).small in
    let fits : to_z w64 (get_or c.args.problem.now.links c.loop-link.link no_link).capacity ≡ pos (get_or c.args.problem.now.links c.loop-link.link no_link).capacity = omega (arith, ints) in
    link-rows-more c.args.problem.now c.args.variables.now before c.args.problem.now.links c.loop-link.link no_link _ c.push_row.new.rows here c.requires.are
    (ap (λ ws. to_z w64 (get_or ws c.loop-link.link no_link).capacity) c.as_slice-directed-items.ensures ∙ fits)
    (c.in_ok-push_row.ensures (before ++ link_rows_from c.args.problem.now None 0 (take c.loop-link.link c.args.problem.now.links)) false (c.loop-link.invariant before is))
