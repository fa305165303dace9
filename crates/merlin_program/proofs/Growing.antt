-- Lists that grow by one element at their end.
use Rattle.std.proofs.Common.{◌≡◌, ◌≢◌, ℕ, zero, suc, ◌+◌, ◌-◌, ◌≤◌, ◌<◌, ◌==◌, max, true, false, cond, ℤ, pos, negsuc, List, [], ◌∷◌, ◌++◌, append_assoc, append-nil, map, length, length-append, take, get_or, sum_by, None, refl, sym, ◌∙◌, ap, ap₂, arith}
use Rattle.std.proofs.lemmas.List.{take_more, length-take-le}
use Rattle.std.proofs.lemmas.List.FromFn.{map-range_with_len_more}
use Rattle.std.specs.List.{range_with_len}
use Rattle.merlin_model.specs.Programs.{Row}
use Rattle.merlin_model.specs.declared.network.DirectedLink.{DirectedLink}
use Rattle.cutoff_program.specs.declared.flow.Flow.{Flow}
use Rattle.cutoff_program.specs.declared.flow.Problem.{Problem}
use Rattle.cutoff_program.specs.declared.flow.Variable.{Variable}
use Rattle.cutoff_program.specs.Flows.{variable_of, variables_from, variables_of, last_of, with_entry, entries_from, net_out, rate_over, flow_row, flow_rows_from, link_row, link_rows_from, length_of, cutoff_row, program_at}
use Rattle.cutoff_program.proofs.Rooms.{room-none}
use Rattle.merlin_program.specs.Kept.{entries_of, ends_from, kept, term_in_row}
use Rattle.merlin_program.specs.declared.rows.Rows.{Rows}
use Rattle.merlin_program.specs.declared.terms.RowTerm.TheVariants.{Leaves, Over, Length}

-- Variables.

variables-append : (n : ℕ) (flows : List Flow) (flow : Flow) → variables_from n (flows ++ flow ∷ []) ≡ variables_from n flows ++ map (variable_of (n + length flows) flow.rate) flow.edges
variables-append n [] flow = append-nil (map (variable_of n flow.rate) flow.edges) ∙ ap (λ m. map (variable_of m flow.rate) flow.edges) (let e : n ≡ n + 0 = omega arith in e)
variables-append n (f ∷ flows) flow =
    ap (λ vs. map (variable_of n f.rate) f.edges ++ vs) (variables-append (n + 1) flows flow)
    ∙ ap (λ m. map (variable_of n f.rate) f.edges ++ (variables_from (n + 1) flows ++ map (variable_of m flow.rate) flow.edges)) (let e : n + 1 + length flows ≡ n + suc (length flows) = omega arith in e)
    ∙ sym (append_assoc (map (variable_of n f.rate) f.edges) (variables_from (n + 1) flows) (map (variable_of (n + suc (length flows)) flow.rate) flow.edges))

at-length : {X : Type 0} (xs : List X) (k : ℕ) → k < length xs → 0 + length (take k xs) ≡ k
at-length xs k h = let e = length-take-le k xs (let l : k ≤ length xs = omega arith in l) in omega arith

pub variables-more : (flows : List Flow) (k : ℕ) (flow : Flow) → k < length flows → get_or flows k flow ≡ flow → variables_from 0 (take (k + 1) flows) ≡ variables_from 0 (take k flows) ++ map (variable_of k flow.rate) flow.edges
variables-more flows k flow h e =
    ap (variables_from 0) (take_more flows k flow h ∙ ap (λ f. take k flows ++ f ∷ []) e) ∙ variables-append 0 (take k flows) flow
    ∙ ap (λ m. variables_from 0 (take k flows) ++ map (variable_of m flow.rate) flow.edges) (at-length flows k h)

-- Entries.

with-append : (n : ℕ) (z : ℤ) (es fs : List (ℕ × ℤ)) → with_entry n z (es ++ fs) ≡ with_entry n z es ++ fs
with-append n (pos zero) es fs = refl
with-append n (pos (suc m)) es fs = refl
with-append n (negsuc m) es fs = refl

entries-append : (n : ℕ) (f : Variable → ℤ) (vs : List Variable) (v : Variable) → entries_from n f (vs ++ v ∷ []) ≡ entries_from n f vs ++ with_entry (n + length vs) (f v) []
entries-append n f [] v = ap (λ m. with_entry m (f v) []) (let e : n ≡ n + 0 = omega arith in e)
entries-append n f (w ∷ vs) v =
    ap (with_entry n (f w)) (entries-append (n + 1) f vs v)
    ∙ ap (λ m. with_entry n (f w) (entries_from (n + 1) f vs ++ with_entry m (f v) [])) (let e : n + 1 + length vs ≡ n + suc (length vs) = omega arith in e)
    ∙ with-append n (f w) (entries_from (n + 1) f vs) (with_entry (n + suc (length vs)) (f v) [])

entries-step : (f : Variable → ℤ) (vs : List Variable) (k : ℕ) (v : Variable) → k < length vs → get_or vs k v ≡ v → entries_from 0 f (take (k + 1) vs) ≡ entries_from 0 f (take k vs) ++ with_entry k (f v) []
entries-step f vs k v h e =
    ap (entries_from 0 f) (take_more vs k v h ∙ ap (λ x. take k vs ++ x ∷ []) e) ∙ entries-append 0 f (take k vs) v ∙ ap (λ m. entries_from 0 f (take k vs) ++ with_entry m (f v) []) (at-length vs k h)

with-one : (n : ℕ) (z : ℤ) → z ≢ pos 0 → with_entry n z [] ≡ (n, z) ∷ []
with-one n (pos zero) h = absurd (h refl)
with-one n (pos (suc m)) h = refl
with-one n (negsuc m) h = refl

pub entries-more : (f : Variable → ℤ) (vs : List Variable) (k : ℕ) (d : Variable) (z : ℤ) (old now new : List (ℕ × ℤ)) → k < length vs → z ≡ f (get_or vs k d) → z ≢ pos 0 → now ≡ old ++ entries_from 0 f (take k vs) → new ≡ now ++ (k, z) ∷ [] →
    new ≡ old ++ entries_from 0 f (take (k + 1) vs)
entries-more f vs k d z old now new h is other e g =
    g ∙ ap (λ es. es ++ (k, z) ∷ []) e ∙ append_assoc old (entries_from 0 f (take k vs)) ((k, z) ∷ [])
    ∙ ap (λ es. old ++ (entries_from 0 f (take k vs) ++ es)) (sym (with-one k z other) ∙ ap (λ x. with_entry k x []) is)
    ∙ ap (λ es. old ++ es) (sym (entries-step f vs k (get_or vs k d) h (same vs k d h)))
  where
    same : {X : Type 0} (xs : List X) (i : ℕ) (x : X) → i < length xs → get_or xs i (get_or xs i x) ≡ get_or xs i x
    same [] i x l = refl
    same (y ∷ ys) zero x l = refl
    same (y ∷ ys) (suc i) x l = same ys i x (omega arith)

pub entries-none : (f : Variable → ℤ) (vs : List Variable) (k : ℕ) (d : Variable) (z : ℤ) (old now new : List (ℕ × ℤ)) → k < length vs → z ≡ f (get_or vs k d) → z ≡ pos 0 → now ≡ old ++ entries_from 0 f (take k vs) → new ≡ now →
    new ≡ old ++ entries_from 0 f (take (k + 1) vs)
entries-none f vs k d z old now new h is nil e g =
    g ∙ e ∙ ap (λ es. old ++ es) (sym (append-nil (entries_from 0 f (take k vs))) ∙ ap (λ x. entries_from 0 f (take k vs) ++ with_entry k x []) (sym nil ∙ is) ∙ sym (entries-step f vs k (get_or vs k d) h (same vs k d h)))
  where
    same : {X : Type 0} (xs : List X) (i : ℕ) (x : X) → i < length xs → get_or xs i (get_or xs i x) ≡ get_or xs i x
    same [] i x l = refl
    same (y ∷ ys) zero x l = refl
    same (y ∷ ys) (suc i) x l = same ys i x (omega arith)

-- Rows.

entries_of-append : (rows : List Row) (row : Row) → entries_of (rows ++ row ∷ []) ≡ entries_of rows ++ row.entries
entries_of-append [] row = append-nil row.entries
entries_of-append (r ∷ rows) row = ap (λ es. r.entries ++ es) (entries_of-append rows row) ∙ sym (append_assoc r.entries (entries_of rows) row.entries)

ends-append : (n : ℕ) (rows : List Row) (row : Row) → ends_from n (rows ++ row ∷ []) ≡ ends_from n rows ++ (n + length (entries_of rows ++ row.entries)) ∷ []
ends-append n [] row = refl
ends-append n (r ∷ rows) row =
    ap (λ es. (n + length r.entries) ∷ es) (ends-append (n + length r.entries) rows row
    ∙ ap (λ m. ends_from (n + length r.entries) rows ++ m ∷ [])
    (let a = length-append r.entries (entries_of rows ++ row.entries) in
    let b = ap length (append_assoc r.entries (entries_of rows) row.entries) in
    count n (length r.entries) _ _ _ a b))
  where
    count : (n x y s t : ℕ) → s ≡ x + y → t ≡ s → n + x + y ≡ n + t
    count n x y s t e f = omega arith

rights-append : (rows : List Row) (row : Row) → map (λ (r : Row). r.right) (rows ++ row ∷ []) ≡ map (λ (r : Row). r.right) rows ++ row.right ∷ []
rights-append [] row = refl
rights-append (r ∷ rows) row = ap (λ rs. r.right ∷ rs) (rights-append rows row)

abbrev pub made : List (ℕ × ℤ) → List ℕ → List ℤ → Rows
made a b c = record { entries = a; ends = b; rights = c }

pub made-same : (a : List (ℕ × ℤ)) (b : List ℕ) (c : List ℤ) (x : List (ℕ × ℤ)) (y : List ℕ) (z : List ℤ) → a ≡ x → b ≡ y → c ≡ z → made a b c ≡ made x y z
made-same a b c x y z e f g = λ i. made (e i) (f i) (g i)

pub kept-more : (before : List Row) (old new : Rows) (row : Row) → old ≡ kept before → new.entries ≡ old.entries ++ row.entries → new.ends ≡ old.ends ++ length new.entries ∷ [] → new.rights ≡ old.rights ++ row.right ∷ [] → new ≡ kept (before ++ row ∷ [])
kept-more before old new row is entries ends rights =
    made-same new.entries new.ends new.rights _ _ _
    (entries ∙ ap (λ r. r.entries ++ row.entries) is ∙ sym (entries_of-append before row))
    (ends ∙ ap₂ (λ r m. r.ends ++ m ∷ []) is (ap length (entries ∙ ap (λ r. r.entries ++ row.entries) is) ∙ plain (length (entries_of before ++ row.entries))) ∙ sym (ends-append 0 before row))
    (rights ∙ ap (λ r. r.rights ++ row.right ∷ []) is ∙ sym (rights-append before row))
  where
    plain : (n : ℕ) → n ≡ 0 + n
    plain n = omega arith

-- one row more, in the form of a loop's step
pub row-more : (problem : Problem) (before : List Row) (f : ℕ → Row) (k : ℕ) (row : Row) (new : Rows) → new ≡ kept ((before ++ map f (range_with_len 0 k)) ++ row ∷ []) → row ≡ f k → new ≡ kept (before ++ map f (range_with_len 0 (k + 1)))
row-more problem before f k row new e same =
    e ∙ ap kept (append_assoc before (map f (range_with_len 0 k)) (row ∷ []) ∙ ap (λ rs. before ++ rs) (ap (λ r. map f (range_with_len 0 k) ++ r ∷ []) same ∙ sym (map-range_with_len_more f 0 k k (let z : 0 + k ≡ k = omega arith in z))))

pub flow-row-is : (problem : Problem) (variables : List Variable) (n : ℕ) (flow : Flow) (vertex count : ℕ) (right : ℤ) → variables ≡ variables_of problem → count ≡ max flow.vertices 2 → right ≡ (cond (vertex == 0) (pos 1) (cond (vertex == count - 1) (negsuc 0) (pos 0))) →
    record { entries = entries_from 0 (term_in_row problem (Leaves n vertex)) variables; is_equality = true; right = right } ≡ flow_row problem n flow vertex
flow-row-is problem variables n flow vertex count right are c r =
    ap₂ (λ vs z. record { entries = entries_from 0 (net_out n vertex) vs; is_equality = true; right = z }) are (r ∙ ap (λ m. cond (vertex == 0) (pos 1) (cond (vertex == m - 1) (negsuc 0) (pos 0))) c)

flow-rows-append : (problem : Problem) (n : ℕ) (flows : List Flow) (flow : Flow) → flow_rows_from problem n (flows ++ flow ∷ []) ≡ flow_rows_from problem n flows ++ map (flow_row problem (n + length flows) flow) (range_with_len 0 (last_of flow + 1))
flow-rows-append problem n [] flow = append-nil (map (flow_row problem n flow) (range_with_len 0 (last_of flow + 1))) ∙ ap (λ m. map (flow_row problem m flow) (range_with_len 0 (last_of flow + 1))) (let e : n ≡ n + 0 = omega arith in e)
flow-rows-append problem n (f ∷ flows) flow =
    ap (λ rs. map (flow_row problem n f) (range_with_len 0 (last_of f + 1)) ++ rs) (flow-rows-append problem (n + 1) flows flow)
    ∙ ap (λ m. map (flow_row problem n f) (range_with_len 0 (last_of f + 1)) ++ (flow_rows_from problem (n + 1) flows ++ map (flow_row problem m flow) (range_with_len 0 (last_of flow + 1)))) (let e : n + 1 + length flows ≡ n + suc (length flows) = omega arith in e)
    ∙ sym (append_assoc (map (flow_row problem n f) (range_with_len 0 (last_of f + 1))) (flow_rows_from problem (n + 1) flows) (map (flow_row problem (n + suc (length flows)) flow) (range_with_len 0 (last_of flow + 1))))

pub flow-rows-more : (problem : Problem) (before : List Row) (flows : List Flow) (k : ℕ) (flow : Flow) (new : Rows) → k < length flows → get_or flows k flow ≡ flow →
    new ≡ kept ((before ++ flow_rows_from problem 0 (take k flows)) ++ map (flow_row problem k flow) (range_with_len 0 (last_of flow + 1))) → new ≡ kept (before ++ flow_rows_from problem 0 (take (k + 1) flows))
flow-rows-more problem before flows k flow new h e g =
    g ∙ ap kept (append_assoc before (flow_rows_from problem 0 (take k flows)) (map (flow_row problem k flow) (range_with_len 0 (last_of flow + 1)))
    ∙ ap (λ rs. before ++ rs) (sym (ap (flow_rows_from problem 0) (take_more flows k flow h ∙ ap (λ f. take k flows ++ f ∷ []) e) ∙ flow-rows-append problem 0 (take k flows) flow
    ∙ ap (λ m. flow_rows_from problem 0 (take k flows) ++ map (flow_row problem m flow) (range_with_len 0 (last_of flow + 1))) (at-length flows k h))))

link-rows-append : (problem : Problem) (n : ℕ) (links : List DirectedLink) (directed : DirectedLink) → link_rows_from problem None n (links ++ directed ∷ []) ≡ link_rows_from problem None n links ++ link_row problem None (n + length links) directed ∷ []
link-rows-append problem n [] directed = ap (λ m. link_row problem None m directed ∷ []) (let e : n ≡ n + 0 = omega arith in e)
link-rows-append problem n (w ∷ links) directed =
    ap (λ rs. link_row problem None n w ∷ rs) (link-rows-append problem (n + 1) links directed ∙ ap (λ m. link_rows_from problem None (n + 1) links ++ link_row problem None m directed ∷ []) (let e : n + 1 + length links ≡ n + suc (length links) = omega arith in e))

pub link-rows-more : (problem : Problem) (variables : List Variable) (before : List Row) (links : List DirectedLink) (k : ℕ) (d : DirectedLink) (right : ℤ) (new : Rows) → k < length links → variables ≡ variables_of problem → right ≡ pos (get_or links k d).capacity →
    new ≡ kept ((before ++ link_rows_from problem None 0 (take k links)) ++ record { entries = entries_from 0 (term_in_row problem (Over k)) variables; is_equality = false; right = right } ∷ []) →
    new ≡ kept (before ++ link_rows_from problem None 0 (take (k + 1) links))
link-rows-more problem variables before links k d right new h are r g =
    g ∙ ap kept (append_assoc before (link_rows_from problem None 0 (take k links)) _
    ∙ ap (λ rs. before ++ rs) (ap (λ row. link_rows_from problem None 0 (take k links) ++ row ∷ []) same
    ∙ sym (ap (link_rows_from problem None 0) (take_more links k d h) ∙ link-rows-append problem 0 (take k links) (get_or links k d)
    ∙ ap (λ m. link_rows_from problem None 0 (take k links) ++ link_row problem None m (get_or links k d) ∷ []) (at-length links k h))))
  where
    same : record { entries = entries_from 0 (term_in_row problem (Over k)) variables; is_equality = false; right = right } ≡ link_row problem None k (get_or links k d)
    same = ap₂ (λ vs z. record { entries = entries_from 0 (λ v. pos (rate_over k v)) vs; is_equality = false; right = z }) are (r ∙ sym (room-none problem.objective (get_or links k d).capacity))

pub last-row : (problem : Problem) (variables : List Variable) (total : ℕ) (right : ℤ) (new : Rows) → variables ≡ variables_of problem → total ≡ sum_by (length_of problem.objective problem) variables → right ≡ pos total →
    new ≡ kept ((flow_rows_from problem 0 problem.flows ++ link_rows_from problem None 0 problem.links) ++ record { entries = entries_from 0 (term_in_row problem Length) variables; is_equality = false; right = right } ∷ []) →
    new ≡ kept (program_at problem None).rows
last-row problem variables total right new are is r g =
    g ∙ ap kept (append_assoc (flow_rows_from problem 0 problem.flows) (link_rows_from problem None 0 problem.links) _
    ∙ ap (λ row. flow_rows_from problem 0 problem.flows ++ (link_rows_from problem None 0 problem.links ++ row ∷ [])) same)
  where
    same : record { entries = entries_from 0 (term_in_row problem Length) variables; is_equality = false; right = right } ≡ cutoff_row problem None
    same = ap₂ (λ vs z. record { entries = entries_from 0 (λ v. pos (length_of problem.objective problem v)) vs; is_equality = false; right = z }) are (r ∙ ap pos (is ∙ ap (sum_by (length_of problem.objective problem)) are))
