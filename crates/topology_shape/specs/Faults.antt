-- Why a text is refused for its shape.
use Rattle.std.specs.Prelude.{◌≡◌, ⊤, ℕ, List}
use Rattle.serde_json.specs.Data.{Data}
use Rattle.merlin_model.specs.Networks.{Network}
use Rattle.topology_shape.specs.declared.fault.ShapeFault.{ShapeFault}
use Rattle.topology_shape.specs.declared.fault.ShapeFault.TheVariants.{Json, Wrong, OutOfMemory}
use Rattle.topology_shape.specs.declared.fault.ElementFault.{ElementFault}
use Rattle.topology_shape.specs.declared.fault.ElementFault.TheVariants.{WrongMember, NoMemory}
use Rattle.topology_shape.specs.Json.{IsJson}
use Rattle.topology_shape.specs.Format.{IsShapeOf}
use Rattle.topology_shape.specs.Wrong.{element_words, IsMisshapen}

-- A part of the reader fails for want of memory, or because these words name what is missing or wrong.
abbrev pub FailsAs : (List ℕ → Type 0) → ShapeFault → Type 0
FailsAs IsWrong Json = ⊥
FailsAs IsWrong (Wrong what) = IsWrong what
FailsAs IsWrong OutOfMemory = ⊤

-- the same of one element
abbrev pub FailsAsElement : (List ℕ → Type 0) → ElementFault → Type 0
FailsAsElement IsWrong (WrongMember member) = IsWrong member.now
FailsAsElement IsWrong NoMemory = ⊤

-- The fault of the element at this place of an array, in the words for it.
abbrev pub FailsAt : List ℕ → ℕ → ElementFault → ShapeFault → Type 0
FailsAt key place (WrongMember member) fault = FailsAs (λ words. words ≡ element_words key place member.now) fault
FailsAt key place NoMemory fault = fault ≡ OutOfMemory

-- the bytes are no JSON text, or memory ran out
abbrev pub IsJsonFaultOf : List ℕ → ShapeFault → Type 0
IsJsonFaultOf bytes Json = (d : Data) → ¬ IsJson bytes d
IsJsonFaultOf bytes (Wrong what) = ⊥
IsJsonFaultOf bytes OutOfMemory = ⊤

-- the bytes are a JSON text of the shape that describes these locations, links and functions
abbrev pub IsShapeText : List ℕ → Network → Type 0
IsShapeText bytes net = (d : Data) × IsJson bytes d × IsShapeOf d net

-- Json: the bytes are no JSON text. Wrong: the first part that is missing or wrong. Want of memory has no cause.
abbrev pub IsShapeFaultOf : List ℕ → ShapeFault → Type 0
IsShapeFaultOf bytes Json = (d : Data) → ¬ IsJson bytes d
IsShapeFaultOf bytes (Wrong what) = (d : Data) × IsJson bytes d × IsMisshapen d what
IsShapeFaultOf bytes OutOfMemory = ⊤
