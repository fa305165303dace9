use Rattle.std.proofs.Common.{◌∙◌, ap}
use Rattle.merlin_model.proofs.config.Rule.copy.Goals as goal

pub returns : goal.returns
returns c =
    ap (λ actions. record { loc = c.args.self.now.loc; priority = c.args.self.now.priority; fits = c.args.self.now.fits; actions = actions })
    (c.in_ok-from_slice.ensures ∙ c.as_slice.ensures)
