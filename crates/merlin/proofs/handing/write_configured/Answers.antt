use Rattle.std.proofs.lemmas.Result.{on_err_weaker}
use Rattle.config_text.specs.Lines.{config_lines}
use Rattle.merlin.proofs.BodyLines.{second_broken}
use Rattle.merlin.proofs.handing.write_configured.Goals as goal

pub returns-clause-err : goal.returns-clause-err
returns-clause-err g c =
    on_err_weaker c.write_config.result (second_broken _ _ c.args.head.now (config_lines c.args.net.now c.args.config.now) _ c.in_ok-write_lines.ensures.ok) c.write_config.ensures.err
