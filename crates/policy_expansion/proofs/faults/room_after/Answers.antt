use Rattle.std.proofs.Common.{◌≡◌, ◌+◌, ◌<◌, ℕ, subst}
use Rattle.std.specs.Prelude.{IfSome, IfNone}
use Rattle.policy_expansion.specs.Tables.{under}
use Rattle.policy_expansion.proofs.Numbering.{length_of_each}
use Rattle.policy_expansion.proofs.faults.room_after.Goals as goal

pub returns-in-ForEach-clause-some : goal.returns-in-ForEach-clause-some
returns-in-ForEach-clause-some c =
    let same = length_of_each (under c.args.sets.now) c.args.item.now c.in-ForEach.outer c.in-ForEach.inner c.in-ForEach.statement _ _ c.in-ForEach.is c.literals_in.ensures c.literals_in-in-ForEach.ensures in
    subst (λ (n : ℕ). IfSome c.room_after_pairs.result (λ left. left + n ≡ c.args.room)) same c.room_after_pairs.ensures.some

pub returns-in-ForEach-clause-none : goal.returns-in-ForEach-clause-none
returns-in-ForEach-clause-none c =
    let same = length_of_each (under c.args.sets.now) c.args.item.now c.in-ForEach.outer c.in-ForEach.inner c.in-ForEach.statement _ _ c.in-ForEach.is c.literals_in.ensures c.literals_in-in-ForEach.ensures in
    subst (λ (n : ℕ). IfNone c.room_after_pairs.result (c.args.room < n)) same c.room_after_pairs.ensures.none
