-- What is given: a network, groups, their plan, and a configuration with its tables.
use Rattle.std.proofs.Common.{◌≡◌, ℕ, List, Option, None, Some, slice_get, refl}
use Rattle.merlin_model.specs.declared.config.Config.{Config}
use Rattle.merlin_model.specs.Networks.{Network, IsNetwork}
use Rattle.merlin_model.specs.Words.{at}
use Rattle.rules_model.specs.Products.{Vertex, Group, AreWrittenWalks, start_at, start_in, Follows}
use Rattle.rules_model.specs.Tables.{Plan, IsPlan, table_rules, table_processes}
use Rattle.rules_model.proofs.Trees.{IsRouting, group_routing}

pub record Setting : Type 0 where
  pub net : Network
  pub network : IsNetwork net
  pub groups : List Group
  pub written_are : AreWrittenWalks net groups
  pub plan : Plan
  pub plan_is : IsPlan net groups plan
  pub config : Config
  pub rules : config.rules ≡ table_rules net plan
  pub processes : config.processes ≡ table_processes net plan

pub routing : (setting : Setting) → IsRouting setting.net setting.groups
routing setting = group_routing setting.net setting.groups setting.written_are

-- what follows v in the product of group g for destination d
abbrev pub After : Setting → ℕ → ℕ → Vertex → List Vertex → Type 0
After setting g d v us = Follows setting.net setting.groups g d v us

pub starts_at : (groups : List Group) (g s : ℕ) → (start_in groups g s).symbol ≡ at s
starts_at groups g s = by (slice_get groups g)
  where
    by : (o : Option Group) → (start_at o s).symbol ≡ at s
    by None = refl
    by (Some group) = refl
