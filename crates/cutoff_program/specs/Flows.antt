-- The program whose solutions are assignments that are better than a cutoff.
use Rattle.std.specs.Prelude.{ℕ, zero, suc, ◌+◌, ◌-◌, ◌*◌, ◌/◌, ◌^◌, ◌==◌, ◌&&◌, nat_lt, Bool, true, false, ℤ, int_le, pos, negsuc, ◌+ℤ◌, List, [], ◌∷◌, ◌++◌, map, length, Option, None, Some, slice_get, if◌then◌else◌, sum_by, max}
use Rattle.std.specs.List.{range_with_len}
use Rattle.std.specs.Int.{int_min}
use Rattle.merlin_model.specs.declared.network.DirectedLink.{DirectedLink}
pub use Rattle.cutoff_program.specs.declared.flow.FlowEdge.{FlowEdge}
pub use Rattle.cutoff_program.specs.declared.flow.Flow.{Flow}
pub use Rattle.cutoff_program.specs.declared.flow.Problem.{Problem}
pub use Rattle.cutoff_program.specs.declared.flow.Variable.{Variable}
use Rattle.merlin_model.specs.declared.policy.Objective.{Objective}
use Rattle.merlin_model.specs.declared.policy.Objective.TheVariants as objective
use Rattle.merlin_model.specs.declared.policy.Value.{Value}
use Rattle.merlin_model.specs.declared.policy.Value.TheVariants.{Whole, Ratio}
use Rattle.merlin_model.specs.Rates.{greatest_of}
use Rattle.merlin_model.specs.Assignments.{greatest_ratio, ratio_value}
use Rattle.merlin_model.specs.Programs.{Program, Row, is_chosen, coefficient_if}

-- the number of the end; a start and an end have numbers also where there is no vertex
abbrev pub last_of : Flow → ℕ
last_of flow = max flow.vertices 2 - 1

-- The variables: one for each edge of each flow.

abbrev pub variable_of : ℕ → ℕ → FlowEdge → Variable
variable_of n rate edge = record { flow = n; rate = rate; edge = edge }

abbrev pub variables_from : ℕ → List Flow → List Variable
variables_from n [] = []
variables_from n (flow ∷ flows) = map (variable_of n flow.rate) flow.edges ++ variables_from (n + 1) flows

abbrev pub variables_of : Problem → List Variable
variables_of problem = variables_from 0 problem.flows

-- What a variable adds.

-- out of a vertex of a flow counts 1, into it -1
abbrev pub net_out : ℕ → ℕ → Variable → ℤ
net_out flow vertex v =
    if v.flow == flow
    then (if v.edge.from == vertex then pos 1 else (if v.edge.to == vertex then negsuc 0 else pos 0))
    else pos 0

abbrev pub is_on : ℕ → Option ℕ → Bool
is_on link None = false
is_on link (Some l) = l == link

-- what it puts on a link
abbrev pub rate_over : ℕ → Variable → ℕ
rate_over link v = if is_on link v.edge.crosses then v.rate else 0

-- what a rate over a link costs: the rate times the link's weight
abbrev pub length_over : Option DirectedLink → ℕ → ℕ
length_over None rate = 0
length_over (Some directed) rate = rate * directed.weight

-- what it adds to the length of all walks
abbrev pub cost_over : List DirectedLink → ℕ → Option ℕ → ℕ
cost_over links rate None = 0
cost_over links rate (Some l) = length_over (slice_get links l) rate

abbrev pub cost_of_variable : Problem → Variable → ℕ
cost_of_variable problem v = cost_over problem.links v.rate v.edge.crosses

-- what the cutoff row counts: the lengths for the shortest walks, else nothing
abbrev pub length_of : Objective → Problem → Variable → ℕ
length_of objective.Shortest problem v = cost_of_variable problem v
length_of objective.Ratio problem v = 0
length_of objective.Reserved problem v = 0

-- What is left of a capacity for solutions that are better than a cutoff.

abbrev pub one_less : ℕ → ℤ
one_less zero = negsuc 0
one_less (suc n) = pos n

-- the quotient of n - 1, rounded down
abbrev pub quotient_of_one_less : ℕ → ℕ → ℤ
quotient_of_one_less zero d = negsuc 0
quotient_of_one_less (suc n) d = pos (n / d)

abbrev pub room : Objective → Option Value → ℕ → ℤ
room objective.Reserved (Some (Whole z)) capacity = int_min (pos capacity) (one_less z)
room objective.Ratio (Some (Ratio a b)) capacity = int_min (pos capacity) (quotient_of_one_less (a * capacity) b)
room _ _ capacity = pos capacity

abbrev pub cutoff_right : Option Value → ℕ → ℤ
cutoff_right None total = pos total
cutoff_right (Some (Whole z)) total = int_min (pos total) (one_less z)
cutoff_right (Some (Ratio a b)) total = int_min (pos total) (one_less a)

-- The rows. A row has the entries that aren't 0.

abbrev pub with_entry : ℕ → ℤ → List (ℕ × ℤ) → List (ℕ × ℤ)
with_entry n (pos zero) entries = entries
with_entry n z entries = (n, z) ∷ entries

abbrev pub entries_from : ℕ → (Variable → ℤ) → List Variable → List (ℕ × ℤ)
entries_from n f [] = []
entries_from n f (v ∷ vs) = with_entry n (f v) (entries_from (n + 1) f vs)

abbrev pub flow_right : Flow → ℕ → ℤ
flow_right flow vertex = if vertex == 0 then pos 1 else (if vertex == last_of flow then negsuc 0 else pos 0)

abbrev pub flow_row : Problem → ℕ → Flow → ℕ → Row
flow_row problem n flow vertex = record { entries = entries_from 0 (net_out n vertex) (variables_of problem); is_equality = true; right = flow_right flow vertex }

abbrev pub flow_rows_from : Problem → ℕ → List Flow → List Row
flow_rows_from problem n [] = []
flow_rows_from problem n (flow ∷ flows) = map (flow_row problem n flow) (range_with_len 0 (last_of flow + 1)) ++ flow_rows_from problem (n + 1) flows

abbrev pub link_row : Problem → Option Value → ℕ → DirectedLink → Row
link_row problem cutoff n directed = record {
  entries = entries_from 0 (λ v. pos (rate_over n v)) (variables_of problem);
  is_equality = false;
  right = room problem.objective cutoff directed.capacity;
}

abbrev pub link_rows_from : Problem → Option Value → ℕ → List DirectedLink → List Row
link_rows_from problem cutoff n [] = []
link_rows_from problem cutoff n (directed ∷ links) = link_row problem cutoff n directed ∷ link_rows_from problem cutoff (n + 1) links

abbrev pub cutoff_row : Problem → Option Value → Row
cutoff_row problem cutoff = record {
  entries = entries_from 0 (λ v. pos (length_of problem.objective problem v)) (variables_of problem);
  is_equality = false;
  right = cutoff_right cutoff (sum_by (length_of problem.objective problem) (variables_of problem));
}

-- whether the rate of a variable fits what is left on the link that it crosses
abbrev pub fits_over : Objective → Option Value → ℕ → Option DirectedLink → Bool
fits_over objective cutoff rate None = true
fits_over objective cutoff rate (Some directed) = int_le (pos rate) (room objective cutoff directed.capacity)

abbrev pub fits_on : Problem → Option Value → ℕ → Option ℕ → Bool
fits_on problem cutoff rate None = true
fits_on problem cutoff rate (Some l) = fits_over problem.objective cutoff rate (slice_get problem.links l)

abbrev pub may_be_one : Problem → Option Value → Variable → Bool
may_be_one problem cutoff v = fits_on problem cutoff v.rate v.edge.crosses

-- the program at a cutoff, or without one
abbrev pub program_at : Problem → Option Value → Program
program_at problem cutoff = record {
  rows = flow_rows_from problem 0 problem.flows ++ (link_rows_from problem cutoff 0 problem.links ++ cutoff_row problem cutoff ∷ []);
  upper = map (may_be_one problem cutoff) (variables_of problem);
}

-- The value of a point, by its own loads.

abbrev pub count_if : Bool → ℕ → ℕ
count_if true n = n
count_if false n = 0

-- the sum of some terms over the chosen variables, the first of which has number n
abbrev pub taken_from : ℕ → (Variable → ℕ) → List Variable → List Bool → ℕ
taken_from n f [] point = 0
taken_from n f (v ∷ vs) point = count_if (is_chosen point n) (f v) + taken_from (n + 1) f vs point

abbrev pub chosen_from : ℕ → (Variable → ℤ) → List Variable → List Bool → ℤ
chosen_from n f [] point = pos 0
chosen_from n f (v ∷ vs) point = coefficient_if (is_chosen point n) (f v) +ℤ chosen_from (n + 1) f vs point

abbrev pub load_at : Problem → List Bool → ℕ → ℕ
load_at problem point link = taken_from 0 (rate_over link) (variables_of problem) point

-- the load of each link, the first of which has number n, with its capacity
abbrev pub loads_from : (ℕ → ℕ) → ℕ → List DirectedLink → List (ℕ × ℕ)
loads_from load n [] = []
loads_from load n (directed ∷ links) = (load n, directed.capacity) ∷ loads_from load (n + 1) links

abbrev pub value_by : Objective → ℕ → List (ℕ × ℕ) → Value
value_by objective.Shortest length loads = Whole length
value_by objective.Ratio length loads = ratio_value (greatest_ratio loads)
value_by objective.Reserved length loads = Whole (greatest_of (map (λ l. l.0) loads))

abbrev pub cutoff_of : Problem → List Bool → Value
cutoff_of problem point = value_by problem.objective (taken_from 0 (cost_of_variable problem) (variables_of problem) point) (loads_from (load_at problem point) 0 problem.links)

-- The cutoffs that are taken, and their order.

abbrev pub takes : Objective → Value → Bool
takes objective.Shortest (Whole z) = nat_lt z (2 ^ 64)
takes objective.Reserved (Whole z) = nat_lt z (2 ^ 64)
takes objective.Ratio (Ratio a b) = nat_lt a (2 ^ 64) && nat_lt 0 b && nat_lt b (2 ^ 64)
takes _ _ = false

abbrev pub is_below : Value → Value → Bool
is_below (Whole a) (Whole b) = nat_lt a b
is_below (Ratio a b) (Ratio c d) = nat_lt (a * d) (c * b)
is_below _ _ = false
