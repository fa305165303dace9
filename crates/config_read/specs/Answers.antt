-- What a text stands for, and why it stands for nothing.
use Rattle.std.specs.Prelude.{ℕ, ◌≡◌, List}
use Rattle.merlin_model.specs.declared.policy.Objective.{Objective}
use Rattle.merlin_model.specs.declared.policy.Symbol.{Symbol}
use Rattle.config_text.specs.declared.loads.Load.{Load}
use Rattle.config_read.specs.declared.result.Head.TheVariants.{Least}
use Rattle.merlin_model.specs.declared.certificate.Tree.{Tree}
use Rattle.merlin_model.specs.Networks.{Network}
use Rattle.merlin_base.specs.Faults.{IsFirstWrongLine}
use Rattle.config_read.specs.declared.fault.ConfigFault.{ConfigFault}
use Rattle.config_read.specs.declared.fault.ConfigFault.TheVariants.{BadConfig, OutOfMemory}
use Rattle.config_read.specs.declared.result.ResultText.{ResultText}
use Rattle.config_read.specs.Results.{result_text, IsResult}

-- the bytes are a text of the result, with some tree
pub record IsTextOfResult (net : Network) (bytes : List ℕ) (r : ResultText) : Type 0 where
  pub tree : Tree
  pub is : IsResult net (r, tree)
  pub text : bytes ≡ result_text net (r, tree)

-- the first line with which the bytes begin no result over the network; nothing is said of want of memory
abbrev pub IsConfigFault : Network → List ℕ → ConfigFault → Type 0
IsConfigFault net bytes (BadConfig at) = IsFirstWrongLine (result_text net) (IsResult net) bytes at
IsConfigFault net bytes OutOfMemory = Unit {0}

-- a result of version 2 with this value, these walks and these loads
abbrev pub TellsParts : ResultText → Objective → List ℕ → List (List ℕ × List Symbol) → List Load → Type 0
TellsParts r objective value walks loads = (r.version ≡ 2) × (r.head ≡ Least objective value walks loads)
