-- Why predicates are refused.
use Rattle.std.specs.Prelude.{ℕ, ◌≡◌, ◌<◌, ◌+◌, ⊤, List}
use Rattle.merlin_model.specs.declared.policy.Pred.{Pred}
use Rattle.packet_model.specs.Texts.{all_fields}
use Rattle.predicate_split.specs.declared.fault.SplitFault.{SplitFault}
use Rattle.predicate_split.specs.declared.fault.SplitFault.TheVariants.{TooManyClasses, TooManyCells, OutOfMemory}
use Rattle.predicate_split.specs.declared.fault.TheConstants.{MAX_CLASSES}
use Rattle.predicate_split.specs.Classes.{class_count}

-- into how many classes the predicates part the packets
unfoldable pub classes_in : List Pred → ℕ
classes_in preds = class_count all_fields 0 preds

-- The refusals of the calls for witnesses: too many classes, counted up to one past the limit, or want of memory.
abbrev pub RefusesClasses : List Pred → SplitFault → Type 0
RefusesClasses preds (TooManyClasses count) = (MAX_CLASSES < classes_in preds) × (count ≡ MAX_CLASSES + 1)
RefusesClasses preds (TooManyCells count) = ⊥
RefusesClasses preds OutOfMemory = ⊤
