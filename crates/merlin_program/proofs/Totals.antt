-- The total of what all variables add stays small.
use Rattle.std.proofs.Common.{ℕ, ◌+◌, ◌^◌, ◌≤◌, ◌<◌, List, length, take, get_or, sum_by, arith}
use Rattle.std.proofs.lemmas.List.Sums.{sum_by_more_le}
use Rattle.std.proofs.Math.Nat.{mul-le-mul_right}
use Rattle.std.specs.List.{AllByRecursion}
use Rattle.cutoff_program.specs.declared.flow.Problem.{Problem}
use Rattle.cutoff_program.specs.declared.flow.Variable.{Variable}
use Rattle.cutoff_program.specs.Flows.{length_of, cost_of_variable}
use Rattle.cutoff_program.proofs.Lists.{all_so}
use Rattle.cutoff_program.proofs.Sums.{sum-bound}
use Rattle.merlin_model.specs.declared.policy.Objective.{Objective}
use Rattle.merlin_model.specs.declared.policy.Objective.TheVariants as objective

length-most : (o : Objective) (problem : Problem) (v : Variable) → cost_of_variable problem v ≤ 10 ^ 9 → length_of o problem v ≤ 10 ^ 9
length-most objective.Shortest problem v h = h
length-most objective.Ratio problem v h = omega arith
length-most objective.Reserved problem v h = omega arith

pub total-small : (problem : Problem) (variables : List Variable) → length variables ≤ 32768 → AllByRecursion (λ v. cost_of_variable problem v ≤ 10 ^ 9) variables → sum_by (length_of problem.objective problem) variables < 2 ^ 45
total-small problem variables few small =
    let s = sum-bound (length_of problem.objective problem) (10 ^ 9) variables (all_so (λ v. cost_of_variable problem v ≤ 10 ^ 9) (λ v. length_of problem.objective problem v ≤ 10 ^ 9) variables (λ v r. length-most problem.objective problem v r) small) in
    let m = mul-le-mul_right (10 ^ 9) few in
    omega arith

pub next-small : (problem : Problem) (variables : List Variable) (k : ℕ) (d : Variable) → length variables ≤ 32768 → AllByRecursion (λ v. cost_of_variable problem v ≤ 10 ^ 9) variables → k < length variables →
    sum_by (length_of problem.objective problem) (take k variables) + length_of problem.objective problem (get_or variables k d) < 2 ^ 45
next-small problem variables k d few small h =
    let m = sum_by_more_le (length_of problem.objective problem) variables k d h in let t = total-small problem variables few small in omega arith
