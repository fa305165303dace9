-- A text is one value, so what is so of values is so of texts.
use Rattle.std.proofs.Common.{◌≡◌, ℕ, List, refl, subst}
use Rattle.serde_json.specs.Data.{Data}
use Rattle.merlin_model.specs.Networks.{Network, AreDifferent}
use Rattle.topology_shape.specs.Json.{IsJson}
use Rattle.topology_shape.specs.Format.{IsShapeOf, location_names}
use Rattle.topology_shape.specs.Wrong.{IsMisshapen}
use Rattle.topology_shape.specs.Forms.{AreWellFormed}
use Rattle.topology_shape.specs.Faults.{IsShapeText, IsShapeFaultOf}
use Rattle.topology_shape.specs.declared.fault.ShapeFault.{ShapeFault}
use Rattle.topology_shape.specs.declared.fault.ShapeFault.TheVariants.{Json, Wrong, OutOfMemory}
use Rattle.topology_shape.proofs.Told.{some_one}
use Rattle.topology_shape.proofs.Once.{locations_one, network_one}
use Rattle.topology_shape.proofs.Apart.{right_shape}
use Rattle.topology_shape.proofs.WellFormed.{well_formed}

same_value : (bytes : List ℕ) (d e : Data) → IsJson bytes d → IsJson bytes e → e ≡ d
same_value bytes d e p q = some_one q.1 p.1

pub texts_one : (bytes : List ℕ) (net other : Network) → IsShapeText bytes net → IsShapeText bytes other → AreDifferent (location_names other.locations) → net ≡ other
texts_one bytes net other (d, json, is) (e, json', also) differ = network_one d net other is (subst (λ (x : Data). IsShapeOf x other) (same_value bytes d e json json') also) differ

pub texts_locations : (bytes : List ℕ) (net other : Network) → IsShapeText bytes net → IsShapeText bytes other → net.locations ≡ other.locations
texts_locations bytes net other (d, json, is) (e, json', also) = let there = subst (λ (x : Data). IsShapeOf x other) (same_value bytes d e json json') also in locations_one d net.locations other.locations is.locations there.locations

pub texts_apart : (bytes : List ℕ) (net : Network) (cause : ShapeFault) → IsShapeText bytes net → IsShapeFaultOf bytes cause → cause ≡ OutOfMemory
texts_apart bytes net Json (d, json, is) none = absurd (none d json)
texts_apart bytes net (Wrong what) (d, json, is) (e, json', wrong) = absurd (right_shape d net what is (subst (λ (x : Data). IsMisshapen x what) (same_value bytes d e json json') wrong))
texts_apart bytes net OutOfMemory is cause = refl

pub texts_forms : (bytes : List ℕ) (net : Network) → IsShapeText bytes net → AreWellFormed net
texts_forms bytes net (d, json, is) = well_formed d net is
