use Rattle.std.proofs.Common.{List, ℕ, length, map, sym, ◌∙◌, ap, subst}
use Rattle.std.specs.List.{flat_map}
use Rattle.rules_model.specs.Tables.{all_hosts}
use Rattle.rule_tables.specs.Branches.{owned_of}
use Rattle.openflow_rules.specs.Gathered.{AreAllBelow}
use Rattle.openflow_rules.specs.OwnedCells.{owned_from}
use Rattle.openflow_rules.proofs.Inner.{hosts-below}
use Rattle.openflow_rules.proofs.Owning.{owned-are}
use Rattle.openflow_rules.proofs.owned.owned_cells.Goals as goal

pub owned_among-requires : goal.owned_among-requires
owned_among-requires c = subst (AreAllBelow (length c.args.net.now.locations)) (sym (c.as_slice.ensures ∙ c.in_ok-hosts.ensures)) (hosts-below c.args.net.now)

pub returns : goal.returns
returns c =
    ap (map owned_of) (c.in_ok-owned.ensures ∙ ap (λ (hosts : List ℕ). flat_map (owned_from c.args.net.now c.args.checked.now.policy c.args.group_of.now hosts) hosts) (c.as_slice.ensures ∙ c.in_ok-hosts.ensures))
    ∙ owned-are c.args.net.now c.args.checked.now.policy c.args.group_of.now (all_hosts c.args.net.now)
