use Rattle.std.proofs.Common.{◌≡◌, ℕ, List, map, take}
use Rattle.std.specs.Prelude.{bytes_eq}
use Rattle.std.specs.List.{list_any}
use Rattle.policy_expansion.specs.Tables.{is_met}
use Rattle.policy_expansion.proofs.Repeated.{found_from}
use Rattle.policy_expansion.proofs.faults.ask_ids.Given as goal

abbrev pub invariant-loop-statement : goal.invariant-loop-statement
invariant-loop-statement l = record {
  met : (name : List ℕ) → is_met l.met name ≡ list_any (λ s. bytes_eq s.id name) (take l.statement-index l.statements);
  clear : found_from (map (λ s. s.id) l.statements) l.statement-index ≡ found_from (map (λ s. s.id) l.statements) 0;
}
