use Rattle.std.proofs.Common.{◌≡◌, ◌∙◌, ℕ, List, refl, sym, subst}
use Rattle.merlin_model.specs.Networks.{Network}
use Rattle.topology_shape.specs.declared.fault.ShapeFault.{ShapeFault}
use Rattle.topology_shape.specs.declared.fault.ShapeFault.TheVariants as shape
use Rattle.topology_rules.specs.Faults.{Breaks, IsTopology, IsBroken, Refuses}
use Rattle.topology_rules.specs.declared.fault.NetFault.{NetFault}
use Rattle.topology_rules.specs.declared.fault.NetFault.TheVariants.{Json, Shape, TooLarge, DuplicateName, DuplicateAddress, DuplicatePort, ParallelLink, HostLink, Placement, OutOfMemory}
use Rattle.topology_rules.proofs.Lawful.{breaks_none, keeps_lawful, names_differ}
use Rattle.topology_rules.proofs.laws.one_network.Goals as goal

pub returns-clause-one : goal.returns-clause-one
returns-clause-one c = λ bytes net other is also. c.one_shape.ensures.one bytes net other is.0 also.0 (names_differ other also.1)

pub returns-clause-apart : goal.returns-clause-apart
returns-clause-apart c = by
  where
    broken : (bytes : List ℕ) (net : Network) (cause : NetFault) → IsTopology bytes net → IsBroken bytes cause → cause ≡ OutOfMemory
    broken bytes net cause is (other, text, breaks) = breaks_none net cause is.1 (subst (λ (x : Network). Breaks x cause) (c.one_shape.ensures.one bytes other net text is.0 (names_differ net is.1)) breaks)

    no_memory : (a : ShapeFault) → a ≡ shape.OutOfMemory → (a ≡ shape.Json → ⊥) × ((what : List ℕ) → a ≡ shape.Wrong what → ⊥)
    no_memory a e = ((λ f. let g : shape.OutOfMemory ≡ shape.Json = sym e ∙ f in cc), (λ what f. let g : shape.OutOfMemory ≡ shape.Wrong what = sym e ∙ f in cc))

    by : (bytes : List ℕ) (net : Network) (cause : NetFault) → IsTopology bytes net → Refuses cause bytes → cause ≡ OutOfMemory
    by bytes net Json is refused = absurd ((no_memory shape.Json (c.one_shape.ensures.apart bytes net shape.Json is.0 refused)).0 refl)
    by bytes net (Shape what) is refused = absurd ((no_memory (shape.Wrong what) (c.one_shape.ensures.apart bytes net (shape.Wrong what) is.0 refused)).1 what refl)
    by bytes net (TooLarge what count) is refused = broken bytes net (TooLarge what count) is refused
    by bytes net (DuplicateName name) is refused = broken bytes net (DuplicateName name) is refused
    by bytes net (DuplicateAddress name) is refused = broken bytes net (DuplicateAddress name) is refused
    by bytes net (DuplicatePort name port) is refused = broken bytes net (DuplicatePort name port) is refused
    by bytes net (ParallelLink link) is refused = broken bytes net (ParallelLink link) is refused
    by bytes net (HostLink name) is refused = broken bytes net (HostLink name) is refused
    by bytes net (Placement name) is refused = broken bytes net (Placement name) is refused
    by bytes net OutOfMemory is refused = refl

pub returns-clause-lawful : goal.returns-clause-lawful
returns-clause-lawful c = λ bytes net is. keeps_lawful net (c.one_shape.ensures.forms bytes net is.0) is.1

pub returns-clause-forms : goal.returns-clause-forms
returns-clause-forms c = λ bytes net is. c.one_shape.ensures.forms bytes net is.0
