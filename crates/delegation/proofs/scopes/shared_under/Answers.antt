use Rattle.std.proofs.Common.{◌∙◌, rules}
use Rattle.delegation.proofs.Apart.{places-within, least-read, none-numbers}
use Rattle.delegation.proofs.scopes.shared_under.Goals as goal

pub returns-in_default-clause-found : goal.returns-in_default-clause-found
returns-in_default-clause-found c = none-numbers c.args.nodes.now c.args.place (rw c.in_default.is at c.in_ok-first.ensures.none)

pub offset_bounds-numbers-first : goal.offset_bounds-numbers-first
offset_bounds-numbers-first c =
    let within = places-within c.args.nodes.now c.args.place c.as_slice-numbers.result.now _ _ _ (c.as_slice-numbers.ensures ∙ c.in_ok-numbers.ensures) (rw c.in-Some.is at c.in_ok-first.ensures.some) in
    let first = within.0 in
    search rules

pub bounds-numbers-first : goal.bounds-numbers-first
bounds-numbers-first c = (places-within c.args.nodes.now c.args.place c.as_slice-numbers.result.now _ _ _ (c.as_slice-numbers.ensures ∙ c.in_ok-numbers.ensures) (rw c.in-Some.is at c.in_ok-first.ensures.some)).0

pub offset_bounds-numbers-second : goal.offset_bounds-numbers-second
offset_bounds-numbers-second c =
    let within = places-within c.args.nodes.now c.args.place c.as_slice-numbers.result.now _ _ _ (c.as_slice-numbers.ensures ∙ c.in_ok-numbers.ensures) (rw c.in-Some.is at c.in_ok-first.ensures.some) in
    let second = within.1 in
    search rules

pub bounds-numbers-second : goal.bounds-numbers-second
bounds-numbers-second c = (places-within c.args.nodes.now c.args.place c.as_slice-numbers.result.now _ _ _ (c.as_slice-numbers.ensures ∙ c.in_ok-numbers.ensures) (rw c.in-Some.is at c.in_ok-first.ensures.some)).1

pub returns-clause-found : goal.returns-clause-found
returns-clause-found c =
    let least = least-read c.args.nodes.now c.args.place c.as_slice-numbers.result.now _ _ _ (c.as_slice-numbers.ensures ∙ c.in_ok-numbers.ensures) (rw c.in-Some.is at c.in_ok-first.ensures.some) in
    search rules
