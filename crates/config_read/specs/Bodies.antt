-- The lines between the second one and the tree.
use Rattle.std.specs.Prelude.{ℕ, ◌≡◌, List, []}
use Rattle.merlin_model.specs.Networks.{Network}
use Rattle.config_lines.specs.Lines.{load_line, walk_line, IsWalkLine}
use Rattle.config_read.specs.Sections.{TakesAll, TakesConfig, IsEmptyConfig, IsVersionLoad}
use Rattle.config_read.specs.declared.body.Body.{Body}

pub record IsEmptyBody (body : Body) : Type 0 where
  pub walks : body.walks ≡ []
  pub loads : body.loads ≡ []
  pub config : IsEmptyConfig body.config

-- all lines of walks, then all of loads, then those of the configuration
pub record TakesBody (net : Network) (version : ℕ) (text : List ℕ) (body : Body) (rest : List ℕ) : Type 0 where
  pub behind_walks : List ℕ
  pub behind_loads : List ℕ
  pub walks : TakesAll (walk_line net) (IsWalkLine net) text body.walks behind_walks
  pub loads : TakesAll (load_line net) (IsVersionLoad net version) behind_walks body.loads behind_loads
  pub config : TakesConfig net behind_loads body.config rest
