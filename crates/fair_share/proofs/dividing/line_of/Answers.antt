use Rattle.fair_share.specs.Filling.{demands}
use Rattle.fair_share.proofs.Naming.{named}
use Rattle.fair_share.proofs.dividing.line_of.Goals as goal

pub returns-clause-named : goal.returns-clause-named
returns-clause-named c tenants shares are top settled = named (demands c.args.caps.now tenants) shares c.args.used.now c.args.tops.now are top c.args.tenant.now c.args.rate c.full_cap-cap.result settled c.if-rate-tenant.false c.full_cap-cap.ensures
