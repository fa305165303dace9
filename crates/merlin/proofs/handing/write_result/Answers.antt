use Rattle.std.proofs.Common.{◌++◌, sym, subst}
use Rattle.std.proofs.lemmas.Result.{on_ok_weaker, on_err_weaker}
use Rattle.merlin_base.specs.Outside.{Grows, GrowsByPrefix}
use Rattle.config_text.specs.Lines.{config_lines}
use Rattle.result_heads.specs.Heads.{certificate_lines}
use Rattle.merlin.proofs.BodyLines.{certificate_text, second_broken, both_taken}
use Rattle.merlin.proofs.handing.write_result.Goals as goal

pub returns-clause-ok : goal.returns-clause-ok
returns-clause-ok g c =
    on_ok_weaker c.write_tree.result (λ h.
    both_taken _ _ (c.args.head.now ++ config_lines c.args.net.now c.args.config.now) (certificate_lines c.args.tree.now) _ c.in_ok-write_configured.ensures.ok (subst (Grows _ _) (sym (certificate_text c.args.tree.now)) h)) c.write_tree.ensures.ok

pub returns-clause-err : goal.returns-clause-err
returns-clause-err g c =
    on_err_weaker c.write_tree.result (λ h.
    second_broken _ _ (c.args.head.now ++ config_lines c.args.net.now c.args.config.now) (certificate_lines c.args.tree.now) _ c.in_ok-write_configured.ensures.ok (subst (GrowsByPrefix _ _) (sym (certificate_text c.args.tree.now)) h)) c.write_tree.ensures.err
