use Rattle.std.proofs.Common.{◌++◌, append_assoc, ◌∙◌}
use Rattle.config_text.specs.Lines.{config_lines}
use Rattle.result_heads.specs.Heads.{certificate_lines}
use Rattle.merlin.proofs.compile.solved_body.Goals as goal

pub returns : goal.returns
returns c =
    let solved = c.args.solved in
    record {
      are = append_assoc _ (config_lines solved.net solved.config) (certificate_lines solved.tree) ∙ c.in_ok-head.ensures;
      writable = c.requires.4.provisioned.over;
    }
