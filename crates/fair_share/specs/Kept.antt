-- What the fields of demands are seen as.
use Rattle.fair_share.specs.declared.demands.Demands.TheInside.{Inside}
use Rattle.fair_share.specs.Shares.{Demands, IsDemands}

abbrev pub demands_in : Inside → Demands
demands_in d = record { caps = d.caps.items; tenants = d.tenants.items }

abbrev pub AreKeptDemands : Inside → Type 0
AreKeptDemands d = IsDemands (demands_in d)
