-- Which refusal of a policy each fault of its parts is.
use Rattle.localise.specs.declared.fault.RateFault.{RateFault}
use Rattle.localise.specs.declared.fault.RateFault.TheVariants as rate
use Rattle.policy_names.specs.declared.fault.NameFault.{NameFault}
use Rattle.policy_names.specs.declared.fault.NameFault.TheVariants as names
use Rattle.predicate_split.specs.declared.fault.SplitFault.{SplitFault}
use Rattle.predicate_split.specs.declared.fault.SplitFault.TheVariants as split
use Rattle.policy_check.specs.declared.fault.CheckFault.{CheckFault}
use Rattle.policy_check.specs.declared.fault.CheckFault.TheVariants.{UnknownName, FunctionUnderNot, TooManyClasses, Rate, OutOfMemory}

abbrev pub from_names : NameFault → CheckFault
from_names (names.UnknownName name) = UnknownName name
from_names (names.FunctionUnderNot name) = FunctionUnderNot name
from_names names.OutOfMemory = OutOfMemory

-- Witnesses never count cells.
abbrev pub from_split : SplitFault → CheckFault
from_split (split.TooManyClasses count) = TooManyClasses count
from_split (split.TooManyCells count) = TooManyClasses count
from_split split.OutOfMemory = OutOfMemory

-- want of memory is no refusal
abbrev pub from_rates : RateFault → CheckFault
from_rates (rate.UnknownId id) = Rate (rate.UnknownId id)
from_rates (rate.RepeatedId id) = Rate (rate.RepeatedId id)
from_rates (rate.ConstantTooLarge term) = Rate (rate.ConstantTooLarge term)
from_rates (rate.LocalisedConflict id least most) = Rate (rate.LocalisedConflict id least most)
from_rates rate.OutOfMemory = OutOfMemory
