-- A lab within a campus: two tenants in the lab, two more on the campus.
use Rattle.std.specs.Prelude.{ℕ, List, [], ◌∷◌, None, Some, codes}
use Rattle.fair_share.specs.declared.share.Share.{Share}
use Rattle.fair_share.specs.Shares.{Demands}

abbrev pub campus : Demands
campus = record {
  caps = record { name = codes "campus"; rate = 50; under = None } ∷ record { name = codes "lab"; rate = 20; under = Some 0 } ∷ [];
  tenants = record { name = codes "x"; demand = 30; under = Some 1 } ∷ record { name = codes "y"; demand = 30; under = Some 1 }
      ∷ record { name = codes "z"; demand = 100; under = Some 0 } ∷ record { name = codes "w"; demand = 5; under = Some 0 } ∷ [];
}

-- the division, given the shares of x, y and z
abbrev pub campus_shares : ℕ → ℕ → ℕ → List Share
campus_shares x y z = record { rate = x; cap = Some 1 } ∷ record { rate = y; cap = Some 1 } ∷ record { rate = z; cap = Some 0 } ∷ record { rate = 5; cap = None } ∷ []
