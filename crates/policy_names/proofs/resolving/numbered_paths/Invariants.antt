use Rattle.std.proofs.Common.{◌≡◌, [], take, map}
use Rattle.policy_grammar.specs.NumberedPaths.{numbered}
use Rattle.policy_names.specs.Names.{name_faults}
use Rattle.policy_names.specs.Meanings.{meaning_in}
use Rattle.policy_names.proofs.resolving.numbered_paths.Given as goal

abbrev pub invariant-loop-statement : goal.invariant-loop-statement
invariant-loop-statement l = record {
  clear : name_faults (meaning_in l.names) (map (λ s. s.path) (take l.statement-index l.statement-items)) ≡ [];
  are : l.paths ≡ map (numbered (meaning_in l.names)) (map (λ s. s.path) (take l.statement-index l.statement-items));
}
