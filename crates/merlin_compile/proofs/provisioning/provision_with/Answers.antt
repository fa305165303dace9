use Rattle.std.proofs.Common.{List, subst}
use Rattle.merlin_model.specs.declared.policy.Symbol.{Symbol}
use Rattle.walk_search.specs.Found.{IsFoundFor}
use Rattle.walk_search.specs.Parts.{checked_parts}
use Rattle.merlin_compile.specs.Compiled.{IsProvisioned}
use Rattle.merlin_compile.proofs.provisioning.provision_with.Goals as goal

pub returns-in_ok-config-in-Least : goal.returns-in_ok-config-in-Least
returns-in_ok-config-in-Least c = λ objective budget h.
    let net = c.args.net.now in
    let checked = c.args.checked.now in
    c.least_of.ensures net objective budget
    (subst (λ (walks : List (List Symbol)). IsProvisioned net checked c.args.ends.now walks c.in_ok-config-in-Least.config) c.as_slice.ensures c.in_ok-config-in-Least.ensures)
    (subst (IsFoundFor net checked.policy (checked_parts net checked) c.args.ends.now objective budget) c.in-Least.is h)
