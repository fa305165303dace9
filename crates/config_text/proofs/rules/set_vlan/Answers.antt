use Rattle.std.proofs.Common.{codes, append_assoc, ◌∙◌}
use Rattle.std.specs.Fmt.{decimal}
use Rattle.std.proofs.lemmas.Result.{on_ok_weaker}
use Rattle.config_text.proofs.rules.set_vlan.Goals as goal

pub returns : goal.returns
returns c = on_ok_weaker c.number.result (λ e. e ∙ rw (c.in_ok-text.ensures, c.from.ensures) (append_assoc c.args.line.now (codes "set_vlan_vid=") (decimal c.args.tag))) c.number.ensures
