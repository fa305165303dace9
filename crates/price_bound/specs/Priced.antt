-- What code calls a pricing.
use Rattle.std.specs.Prelude.{ℕ, ◌+◌, ◌<◌, List, []}
use Rattle.merlin_model.specs.declared.certificate.Weight.{Weight}
use Rattle.price_candidates.specs.Leaves.{Pricing, Bare, Lengths, OnLink, with_weight}
use Rattle.price_bound.specs.declared.leaf.Priced.{Priced}
use Rattle.price_bound.specs.declared.leaf.Priced.TheVariants as priced

abbrev pub pricing_of : Priced → Pricing
pricing_of priced.Nothing = Bare
pricing_of priced.Lengths = Lengths
pricing_of (priced.Link link) = OnLink link

-- the weights of the rows after those of flows, which are so many
abbrev pub rest : ℕ → Pricing → ℕ → List Weight
rest links Bare k = []
rest links Lengths k = with_weight (k + links) 1 []
rest links (OnLink link) k = with_weight (k + link) 1 []

-- a priced link is one
abbrev pub IsPricedIn : ℕ → Pricing → Type 0
IsPricedIn links Bare = Unit {0}
IsPricedIn links Lengths = Unit {0}
IsPricedIn links (OnLink link) = link < links
