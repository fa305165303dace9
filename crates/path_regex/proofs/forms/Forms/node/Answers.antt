use Rattle.std.proofs.Common.{sym, ◌∙◌, ap, subst}
use Rattle.std.specs.Option.{option_copied}
use Rattle.path_regex.specs.Shared.{IsNode}
use Rattle.path_regex.proofs.forms.Forms.node.Goals as goal

pub returns-in-Some : goal.returns-in-Some
returns-in-Some c = subst (λ forms. IsNode forms c.args.form c.in-Some.node.now) c.self.view_is (c.self.invariant.nodes.each c.args.form c.in-Some.node.now (sym c.get_index.ensures.key ∙ ap option_copied c.in-Some.is))
