use Rattle.std.proofs.Common.{◌≡◌, ◌∙◌, List, Some, length, get_or, slice_get, sym, ap, arith}
use Rattle.std.proofs.lemmas.Option.{slice_get-get_or}
use Rattle.cutoff_program.specs.declared.flow.Variable.{Variable}
use Rattle.cutoff_program.specs.Flows.{variables_of}
use Rattle.merlin_program.specs.Kept.{variable_at, no_variable}
use Rattle.price_bound.proofs.Loading.{crosses-within}
use Rattle.price_bound.proofs.loads.add_load.Goals as goal

pub set-requires : goal.set-requires
set-requires c =
    let problem = c.args.program.now.problem in
    let k = c.args.variable in
    let stands : slice_get (variables_of problem) k ≡ Some (variable_at problem k) = slice_get-get_or (variables_of problem) k no_variable c.requires.in_range in
    let crosses = sym (ap (λ (l : List Variable). (get_or l k no_variable).edge.crosses) c.edges.ensures) ∙ c.in-Some.is in
    let within = crosses-within problem k (variable_at problem k) c.in-Some.link c.args.program.now.is stands crosses in
    let size = c.requires.size in
    omega arith

pub bounds-as_slice-link : goal.bounds-as_slice-link
bounds-as_slice-link c =
    let problem = c.args.program.now.problem in
    let k = c.args.variable in
    let stands : slice_get (variables_of problem) k ≡ Some (variable_at problem k) = slice_get-get_or (variables_of problem) k no_variable c.requires.in_range in
    let crosses = sym (ap (λ (l : List Variable). (get_or l k no_variable).edge.crosses) c.edges.ensures) ∙ c.in-Some.is in
    let within = crosses-within problem k (variable_at problem k) c.in-Some.link c.args.program.now.is stands crosses in
    let size = c.requires.size in
    let same = ap length c.as_slice.ensures in
    omega arith

pub offset_bounds-as_slice-link : goal.offset_bounds-as_slice-link
offset_bounds-as_slice-link c =
    let problem = c.args.program.now.problem in
    let k = c.args.variable in
    let stands : slice_get (variables_of problem) k ≡ Some (variable_at problem k) = slice_get-get_or (variables_of problem) k no_variable c.requires.in_range in
    let crosses = sym (ap (λ (l : List Variable). (get_or l k no_variable).edge.crosses) c.edges.ensures) ∙ c.in-Some.is in
    let within = crosses-within problem k (variable_at problem k) c.in-Some.link c.args.program.now.is stands crosses in
    let size = c.requires.size in
    let same = ap length c.as_slice.ensures in
    let t = c.as_slice.type_inv.1 in
    omega arith
