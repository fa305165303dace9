-- Rows as they are kept: the entries of all rows one after the other, and where those of each row end.
use Rattle.std.specs.Prelude.{None, ℕ, zero, suc, slice_index_or, ◌+◌, ◌-◌, ◌==◌, Bool, ℤ, pos, negsuc, if◌then◌else◌, List, [], ◌∷◌, ◌++◌, length, map}
use Rattle.merlin_model.specs.Programs.{Row}
use Rattle.std.specs.List.{range_with_len}
use Rattle.cutoff_program.specs.Flows.{net_out, rate_over, length_of, variable_of, variables_of, entries_from, flow_row, last_of, taken_from, loads_from}
use Rattle.cutoff_program.specs.declared.flow.Flow.{Flow}
use Rattle.cutoff_program.specs.declared.flow.Problem.{Problem}
use Rattle.cutoff_program.specs.declared.flow.Variable.{Variable}
use Rattle.merlin_program.specs.declared.rows.Rows.{Rows}
use Rattle.merlin_program.specs.declared.terms.RowTerm.{RowTerm}
use Rattle.merlin_program.specs.declared.terms.RowTerm.TheVariants.{Leaves, Over, Length}

abbrev pub entries_of : List Row → List (ℕ × ℤ)
entries_of [] = []
entries_of (row ∷ rows) = row.entries ++ entries_of rows

abbrev pub ends_from : ℕ → List Row → List ℕ
ends_from n [] = []
ends_from n (row ∷ rows) = (n + length row.entries) ∷ ends_from (n + length row.entries) rows

abbrev pub kept : List Row → Rows
kept rows = record { entries = entries_of rows; ends = ends_from 0 rows; rights = map (λ row. row.right) rows }

-- what a variable adds to a row
abbrev pub term_in_row : Problem → RowTerm → Variable → ℤ
term_in_row problem (Leaves flow vertex) v = net_out flow vertex v
term_in_row problem (Over link) v = pos (rate_over link v)
term_in_row problem Length v = pos (length_of problem.objective problem v)

-- the edges of a flow as variables
abbrev pub variables_in : ℕ → Flow → List Variable
variables_in n flow = map (variable_of n flow.rate) flow.edges

-- the row to which each variable adds such a term
abbrev pub row_with : Problem → RowTerm → List Variable → Bool → ℤ → Row
row_with problem of variables is_equality right =
    record { entries = entries_from 0 (term_in_row problem of) variables; is_equality = is_equality; right = right }

-- the right side of the row of a vertex, of so many
abbrev pub right_at_vertex : ℕ → ℕ → ℤ
right_at_vertex vertex count = if vertex == 0 then pos 1 else (if vertex == count - 1 then negsuc 0 else pos 0)

abbrev pub rows_of_flow : Problem → ℕ → Flow → List Row
rows_of_flow problem n flow = map (flow_row problem n flow) (range_with_len 0 (last_of flow + 1))

-- the load of each link, with its capacity
abbrev pub loads_by : Problem → List Variable → List Bool → List (ℕ × ℕ)
loads_by problem variables point = loads_from (λ link. taken_from 0 (rate_over link) variables point) 0 problem.links

-- where the entries of a row start
abbrev pub start_from : ℕ → List ℕ → ℕ → ℕ
start_from n ends zero = n
start_from n ends (suc row) = slice_index_or ends row 0

-- past the last variable there is none that adds anything
abbrev pub no_variable : Variable
no_variable = record { flow = 0; rate = 0; edge = record { from = 0; to = 0; crosses = None } }

abbrev pub variable_at : Problem → ℕ → Variable
variable_at problem k = slice_index_or (variables_of problem) k no_variable
