use Rattle.std.proofs.Common.{◌≤◌, ℕ, length, Option, IfNone, refl, sym, subst}
use Rattle.std.proofs.lemmas.List.Sums.{AllPass-from_list_all}
use Rattle.openflow_wire.specs.declared.layout.TheConstants.{FIELDS}
use Rattle.openflow_wire.specs.Layout.{has_form}
use Rattle.openflow_wire.proofs.AllThere.{whole}
use Rattle.openflow_wire.proofs.reading.fault_in.Goals as goal

pub first_fault-requires : goal.first_fault-requires
first_fault-requires c = AllPass-from_list_all has_form FIELDS refl

pub returns-clause-whole : goal.returns-clause-whole
returns-clause-whole c =
    subst (λ (o : Option ℕ). IfNone o (72 ≤ length c.args.message.now)) (sym c.first_fault.ensures) (whole c.args.message.now)
