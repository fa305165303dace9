use Rattle.std.proofs.Common.{◌∙◌}
use Rattle.policy_check.proofs.Overlapping.{apart-of}
use Rattle.policy_check.proofs.rules.ask_apart.Goals as goal

pub returns-in-None-clause-ok : goal.returns-in-None-clause-ok
returns-in-None-clause-ok c =
    apart-of c.args.policy.now c.args.listing.now.ids c.as_slice.result.now c.requires.ids (c.as_slice.ensures ∙ c.requires.preds) c.in_ok-first.field-0 c.in_ok-first.ensures.none c.in_ok-first.ensures.classes c.in-None.is
