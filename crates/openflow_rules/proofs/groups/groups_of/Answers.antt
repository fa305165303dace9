use Rattle.std.proofs.Common.{ℕ, List, Option, length, sym, subst}
use Rattle.openflow_rules.specs.Kinds.{AreKinds}
use Rattle.openflow_rules.proofs.Leading.{grouped}
use Rattle.openflow_rules.proofs.groups.groups_of.Goals as goal

pub returns : goal.returns
returns c =
    let policy = c.args.checked.now.policy in
    let all : List (Option ℕ) = c.as_slice.result.now in
    let kinds : AreKinds policy all = subst (AreKinds policy) (sym c.as_slice.ensures) c.in_ok-kinds.ensures in
    grouped policy all kinds (length all) kinds.size c.in_ok-groups.field-0 (c.in_ok-groups.ensures policy kinds)
