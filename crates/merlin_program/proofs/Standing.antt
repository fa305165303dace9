-- What is read of kept rows.
use Rattle.std.proofs.Common.{◌≡◌, ℕ, zero, suc, ◌+◌, ◌-◌, ◌^◌, ◌≤◌, ◌<◌, Bool, true, false, ℤ, pos, List, [], ◌∷◌, ◌++◌, map, length, length-append, take, drop, get_or, Option, None, nat_lt, refl, sym, ◌∙◌, ap, ap₂, subst, arith}
use Rattle.std.proofs.lemmas.List.{get_or-map, length-map}
use Rattle.std.specs.List.{AllByRecursion, range_with_len}
use Rattle.merlin_model.specs.declared.network.DirectedLink.{DirectedLink}
use Rattle.merlin_model.specs.declared.policy.Value.{Value}
use Rattle.merlin_model.specs.Programs.{Row, row_at, no_row}
use Rattle.cutoff_program.specs.declared.flow.Flow.{Flow}
use Rattle.cutoff_program.specs.declared.flow.Problem.{Problem}
use Rattle.cutoff_program.specs.Flows.{last_of, room, cutoff_right, flow_row, flow_rows_from, link_row, link_rows_from, cutoff_row, program_at}
use Rattle.cutoff_program.specs.Limits.{IsLinkWithin, IsProblem}
use Rattle.cutoff_program.proofs.Lists.{all_both, all_map, all_any}
use Rattle.cutoff_program.proofs.Forms.{count-rows, count-links}
use Rattle.cutoff_program.proofs.Solutions.{total_of}
use Rattle.integer_program.proofs.Bounds.{all_at}
use Rattle.merlin_program.specs.Kept.{entries_of, ends_from, kept, start_from}
use Rattle.merlin_program.specs.declared.rows.Rows.{Rows}

-- Entries.

pub ends-length : (n : ℕ) (rows : List Row) → length (ends_from n rows) ≡ length rows
ends-length n [] = refl
ends-length n (row ∷ rows) = ap suc (ends-length (n + length row.entries) rows)

record IsRange (n : ℕ) (rows : List Row) (k : ℕ) : Type 0 where
  pub i : ℕ
  pub m : ℕ
  pub starts : start_from n (ends_from n rows) k ≡ n + i
  pub stops : get_or (ends_from n rows) k 0 ≡ n + i + m
  pub inside : i + m ≤ length (entries_of rows)
  pub part : take m (drop i (entries_of rows)) ≡ (get_or rows k no_row).entries

take-first : {X : Type 0} (xs ys : List X) → take (length xs) (xs ++ ys) ≡ xs
take-first [] ys = refl
take-first (x ∷ xs) ys = ap (λ zs. x ∷ zs) (take-first xs ys)

drop-first : {X : Type 0} (xs ys : List X) (i : ℕ) → drop (length xs + i) (xs ++ ys) ≡ drop i ys
drop-first [] ys i = ap (λ m. drop m ys) (let e : 0 + i ≡ i = omega arith in e)
drop-first (x ∷ xs) ys i = ap (λ m. drop m (x ∷ (xs ++ ys))) (let e : suc (length xs) + i ≡ suc (length xs + i) = omega arith in e) ∙ drop-first xs ys i

range-is : (n : ℕ) (rows : List Row) (k : ℕ) → k < length rows → IsRange n rows k
range-is n [] k h = absurd (omega arith)
range-is n (row ∷ rows) zero h = record {
  i = 0;
  m = length row.entries;
  starts = omega arith;
  stops = omega arith;
  inside = let e = length-append row.entries (entries_of rows) in omega arith;
  part = take-first row.entries (entries_of rows);
}
range-is n (row ∷ rows) (suc k) h =
    let r = range-is (n + length row.entries) rows k (omega arith) in
    record {
      i = length row.entries + r.i;
      m = r.m;
      starts = shift k ∙ r.starts ∙ (let e : n + length row.entries + r.i ≡ n + (length row.entries + r.i) = omega arith in e);
      stops = r.stops ∙ (let e : n + length row.entries + r.i + r.m ≡ n + (length row.entries + r.i) + r.m = omega arith in e);
      inside = let e = length-append row.entries (entries_of rows) in let b = r.inside in omega arith;
      part = ap (take r.m) (drop-first row.entries (entries_of rows) r.i) ∙ r.part;
    }
  where
    shift : (j : ℕ) → get_or ((n + length row.entries) ∷ ends_from (n + length row.entries) rows) j 0 ≡ start_from (n + length row.entries) (ends_from (n + length row.entries) rows) j
    shift zero = refl
    shift (suc j) = refl

pub record IsPart (entries : List (ℕ × ℤ)) (start end : ℕ) (row : List (ℕ × ℤ)) : Type 0 where
  pub order : start ≤ end
  pub inside : end ≤ length entries
  pub part : take (end - start) (drop start entries) ≡ row

pub part-is : (rows : List Row) (k : ℕ) → k < length rows → IsPart (entries_of rows) (start_from 0 (ends_from 0 rows) k) (get_or (ends_from 0 rows) k 0) (get_or rows k no_row).entries
part-is rows k h = record {
  order = let a = r.starts in let b = r.stops in omega arith;
  inside = let b = r.stops in let c = r.inside in omega arith;
  part =
      let a : start_from 0 (ends_from 0 rows) k ≡ r.i = (let x = r.starts in omega arith) in
      let b : get_or (ends_from 0 rows) k 0 - start_from 0 (ends_from 0 rows) k ≡ r.m = (let x = r.starts in let y = r.stops in omega arith) in
      ap₂ (λ x y. take x (drop y (entries_of rows))) b a ∙ r.part;
}
  where
    r : IsRange 0 rows k
    r = range-is 0 rows k h

-- Rows by their place.

get-left : {X : Type 0} (xs ys : List X) (k : ℕ) (d : X) → k < length xs → get_or (xs ++ ys) k d ≡ get_or xs k d
get-left [] ys k d h = absurd (omega arith)
get-left (x ∷ xs) ys zero d h = refl
get-left (x ∷ xs) ys (suc k) d h = get-left xs ys k d (omega arith)

get-right : {X : Type 0} (xs ys : List X) (k : ℕ) (d : X) → get_or (xs ++ ys) (length xs + k) d ≡ get_or ys k d
get-right [] ys k d = ap (λ m. get_or ys m d) (let e : 0 + k ≡ k = omega arith in e)
get-right (x ∷ xs) ys k d = ap (λ m. get_or (x ∷ (xs ++ ys)) m d) (let e : suc (length xs) + k ≡ suc (length xs + k) = omega arith in e) ∙ get-right xs ys k d

link-at : (problem : Problem) (cutoff : Option Value) (n : ℕ) (ws : List DirectedLink) (l : ℕ) (d : DirectedLink) → l < length ws → get_or (link_rows_from problem cutoff n ws) l no_row ≡ link_row problem cutoff (n + l) (get_or ws l d)
link-at problem cutoff n [] l d h = absurd (omega arith)
link-at problem cutoff n (w ∷ ws) zero d h = ap (λ m. link_row problem cutoff m w) (let e : n ≡ n + 0 = omega arith in e)
link-at problem cutoff n (w ∷ ws) (suc l) d h = link-at problem cutoff (n + 1) ws l d (omega arith) ∙ ap (λ m. link_row problem cutoff m (get_or ws l d)) (let e : n + 1 + l ≡ n + suc l = omega arith in e)

abbrev flows_of : Problem → List Row
flows_of problem = flow_rows_from problem 0 problem.flows

pub flow-count : (problem : Problem) (n : ℕ) → n + length problem.links + 1 ≡ length (program_at problem None).rows → n ≡ length (flow_rows_from problem 0 problem.flows)
flow-count problem n e =
    let a = length-append (flows_of problem) (link_rows_from problem None 0 problem.links ++ cutoff_row problem None ∷ []) in
    let b = length-append (link_rows_from problem None 0 problem.links) (cutoff_row problem None ∷ []) in
    let c = count-links problem None 0 problem.links in
    cancel _ _ _ _ _ _ e a b c
  where
    cancel : (n w r f x l : ℕ) → n + w + 1 ≡ r → r ≡ f + x → x ≡ l + 1 → l ≡ w → n ≡ f
    cancel n w r f x l e a b c = omega arith

pub at-flow : (problem : Problem) (cutoff : Option Value) (row : ℕ) → row < length (flow_rows_from problem 0 problem.flows) → row_at (program_at problem cutoff) row ≡ get_or (flow_rows_from problem 0 problem.flows) row no_row
at-flow problem cutoff row h = get-left (flows_of problem) (link_rows_from problem cutoff 0 problem.links ++ cutoff_row problem cutoff ∷ []) row no_row h

pub at-link : (problem : Problem) (cutoff : Option Value) (l : ℕ) (d : DirectedLink) → l < length problem.links → row_at (program_at problem cutoff) (length (flow_rows_from problem 0 problem.flows) + l) ≡ link_row problem cutoff (0 + l) (get_or problem.links l d)
at-link problem cutoff l d h =
    get-right (flows_of problem) (link_rows_from problem cutoff 0 problem.links ++ cutoff_row problem cutoff ∷ []) l no_row
    ∙ get-left (link_rows_from problem cutoff 0 problem.links) (cutoff_row problem cutoff ∷ []) l no_row (let c = count-links problem cutoff 0 problem.links in omega arith)
    ∙ link-at problem cutoff 0 problem.links l d h

pub at-last : (problem : Problem) (cutoff : Option Value) → row_at (program_at problem cutoff) (length (flow_rows_from problem 0 problem.flows) + length problem.links) ≡ cutoff_row problem cutoff
at-last problem cutoff =
    get-right (flows_of problem) (link_rows_from problem cutoff 0 problem.links ++ cutoff_row problem cutoff ∷ []) (length problem.links) no_row
    ∙ ap (λ m. get_or (link_rows_from problem cutoff 0 problem.links ++ cutoff_row problem cutoff ∷ []) m no_row) (let c = count-links problem cutoff 0 problem.links in let e : length problem.links ≡ length (link_rows_from problem cutoff 0 problem.links) + 0 = omega arith in e)
    ∙ get-right (link_rows_from problem cutoff 0 problem.links) (cutoff_row problem cutoff ∷ []) 0 no_row

flow-kinds : (problem : Problem) (n : ℕ) (flows : List Flow) → AllByRecursion (λ row. row.is_equality ≡ true) (flow_rows_from problem n flows)
flow-kinds problem n [] = tt
flow-kinds problem n (flow ∷ flows) =
    all_both (λ row. row.is_equality ≡ true) (map (flow_row problem n flow) (range_with_len 0 (last_of flow + 1))) (flow_rows_from problem (n + 1) flows)
    (all_map (λ row. row.is_equality ≡ true) (flow_row problem n flow) (range_with_len 0 (last_of flow + 1)) (all_any (λ u. true ≡ true) (range_with_len 0 (last_of flow + 1)) (λ u. refl)))
    (flow-kinds problem (n + 1) flows)

pub kind-flow : (problem : Problem) (row : ℕ) → row < length (flow_rows_from problem 0 problem.flows) → (row_at (program_at problem None) row).is_equality ≡ true
kind-flow problem row h = ap (λ r. r.is_equality) (at-flow problem None row h) ∙ all_at (λ row. row.is_equality ≡ true) (flows_of problem) row no_row (flow-kinds problem 0 problem.flows) h

-- a row that is none of a flow is that of a link, or the last
pub data Other (problem : Problem) (row : ℕ) : Type 0 where
  Link : (l : ℕ) → l < length problem.links → row ≡ length (flow_rows_from problem 0 problem.flows) + l → Other problem row
  Last : row ≡ length (flow_rows_from problem 0 problem.flows) + length problem.links → Other problem row

pub other-is : (problem : Problem) (n row : ℕ) → n + length problem.links + 1 ≡ length (program_at problem None).rows → n ≤ row → row < length (program_at problem None).rows → Other problem row
other-is problem n row e h g = by (nat_lt (row - n) (length problem.links)) refl
  where
    same : n ≡ length (flow_rows_from problem 0 problem.flows)
    same = flow-count problem n e

    by : (b : Bool) → nat_lt (row - n) (length problem.links) ≡ b → Other problem row
    by true f = let l : row - n < length problem.links = grind arith in let s = same in Link (row - n) l (omega arith)
    by false f = let l : length problem.links ≤ row - n = grind arith in let s = same in Last (omega arith)

abbrev no_link : DirectedLink
no_link = record { from = 0; out_port = 0; to = 0; in_port = 0; capacity = 0; back = 0; weight = 0 }

pub kind-other : (problem : Problem) (row : ℕ) → Other problem row → (row_at (program_at problem None) row).is_equality ≡ false
kind-other problem row (Link l h e) = ap (λ r. (row_at (program_at problem None) r).is_equality) e ∙ ap (λ r. r.is_equality) (at-link problem None l no_link h)
kind-other problem row (Last e) = ap (λ r. (row_at (program_at problem None) r).is_equality) e ∙ ap (λ r. r.is_equality) (at-last problem None)

-- Kept rows, read.

pub ends-in : (list : List Row) (rows : Rows) (ends : List ℕ) (k : ℕ) → rows ≡ kept list → ends ≡ rows.ends → k < length list → k < length ends
ends-in list rows ends k is e h = let a = ap length (e ∙ ap (λ r. r.ends) is) in let b = ends-length 0 list in omega arith

pub kept-part : (list : List Row) (rows : Rows) (entries : List (ℕ × ℤ)) (ends : List ℕ) (k : ℕ) → rows ≡ kept list → entries ≡ rows.entries → ends ≡ rows.ends → k < length list →
    IsPart entries (start_from 0 ends k) (get_or ends k 0) (get_or list k no_row).entries
kept-part list rows entries ends k is f e h =
    subst (λ es. IsPart es (start_from 0 ends k) (get_or ends k 0) (get_or list k no_row).entries) (sym (f ∙ ap (λ r. r.entries) is))
    (subst (λ es. IsPart (entries_of list) (start_from 0 es k) (get_or es k 0) (get_or list k no_row).entries) (sym (e ∙ ap (λ r. r.ends) is)) (part-is list k h))

pub ends-count : (problem : Problem) (rows : Rows) (count links : ℕ) → rows ≡ kept (program_at problem None).rows → count ≡ length rows.ends → links ≡ length problem.links → (length (program_at problem None).rows ≡ count) × (links + 1 ≤ count)
ends-count problem rows count links is e f =
    let a = ap length (ap (λ r. r.ends) is) in
    let b = ends-length 0 (program_at problem None).rows in
    let c = count-rows problem None in
    both _ _ _ _ _ _ e a b c f
  where
    both : (count l m n s w : ℕ) → count ≡ l → l ≡ m → m ≡ n → n ≡ s + w + 1 → links ≡ w → (n ≡ count) × (links + 1 ≤ count)
    both count l m n s w e a b c f = (omega arith, omega arith)

rights-at : (list : List Row) (rows : Rows) (rights : List ℤ) (k : ℕ) → rows ≡ kept list → rights ≡ rows.rights → k < length list → get_or rights k (pos 0) ≡ (get_or list k no_row).right
rights-at list rows rights k is e h = ap (λ zs. get_or zs k (pos 0)) (e ∙ ap (λ r. r.rights) is) ∙ get_or-map (λ (r : Row). r.right) list k no_row (pos 0) h

pub right-flow : (problem : Problem) (cutoff : Option Value) (rows : Rows) (rights : List ℤ) (n row : ℕ) → rows ≡ kept (program_at problem None).rows → rights ≡ rows.rights → n + length problem.links + 1 ≡ length (program_at problem None).rows → row < n →
    get_or rights row (pos 0) ≡ (row_at (program_at problem cutoff) row).right
right-flow problem cutoff rows rights n row is e c h =
    let same = flow-count problem n c in
    let inside : row < length (flow_rows_from problem 0 problem.flows) = omega arith in
    rights-at (program_at problem None).rows rows rights row is e (omega arith) ∙ ap (λ r. r.right) (at-flow problem None row inside) ∙ sym (ap (λ r. r.right) (at-flow problem cutoff row inside))

pub right-link : (problem : Problem) (cutoff : Option Value) (n row : ℕ) (d : DirectedLink) → n + length problem.links + 1 ≡ length (program_at problem None).rows → n ≤ row → row - n < length problem.links →
    room problem.objective cutoff (get_or problem.links (row - n) d).capacity ≡ (row_at (program_at problem cutoff) row).right
right-link problem cutoff n row d c h g =
    let same = flow-count problem n c in
    let at : row ≡ length (flow_rows_from problem 0 problem.flows) + (row - n) = omega arith in
    sym (ap (λ k. (row_at (program_at problem cutoff) k).right) at ∙ ap (λ r. r.right) (at-link problem cutoff (row - n) d g))

pub right-last : (problem : Problem) (cutoff : Option Value) (n row total : ℕ) → n + length problem.links + 1 ≡ length (program_at problem None).rows → row < length (program_at problem None).rows → n ≤ row → length problem.links ≤ row - n → total ≡ total_of problem →
    cutoff_right cutoff total ≡ (row_at (program_at problem cutoff) row).right
right-last problem cutoff n row total c f h g t =
    let same = flow-count problem n c in
    let at : row ≡ length (flow_rows_from problem 0 problem.flows) + length problem.links = omega arith in
    ap (cutoff_right cutoff) t ∙ sym (ap (λ k. (row_at (program_at problem cutoff) k).right) at ∙ ap (λ r. r.right) (at-last problem cutoff))

pub kept-total : (problem : Problem) (rows : Rows) (rights : List ℤ) (n k : ℕ) → rows ≡ kept (program_at problem None).rows → rights ≡ rows.rights → n + length problem.links + 1 ≡ length (program_at problem None).rows → k ≡ n + length problem.links →
    get_or rights k (pos 0) ≡ pos (total_of problem)
kept-total problem rows rights n k is e c f =
    let same = flow-count problem n c in
    let at : k ≡ length (flow_rows_from problem 0 problem.flows) + length problem.links = omega arith in
    rights-at (program_at problem None).rows rows rights k is e (omega arith) ∙ ap (λ m. (row_at (program_at problem None) m).right) at ∙ ap (λ r. r.right) (at-last problem None)

pub rights-in : (problem : Problem) (rows : Rows) (rights : List ℤ) (row : ℕ) → rows ≡ kept (program_at problem None).rows → rights ≡ rows.rights → row < length (program_at problem None).rows → row < length rights
rights-in problem rows rights row is e h = let a = ap length (e ∙ ap (λ r. r.rights) is) in let b = length-map (program_at problem None).rows (λ (r : Row). r.right) in omega arith

pub capacity-small : (problem : Problem) (l : ℕ) (d : DirectedLink) → IsProblem problem → l < length problem.links → (get_or problem.links l d).capacity ≤ 2 ^ 45
capacity-small problem l d is h = let s = (all_at IsLinkWithin problem.links l d is.links h).small in omega arith

pub kind-is : (problem : Problem) (n row : ℕ) → n + length problem.links + 1 ≡ length (program_at problem None).rows → row < length (program_at problem None).rows → nat_lt row n ≡ (row_at (program_at problem None) row).is_equality
kind-is problem n row e h = by (nat_lt row n) refl
  where
    by : (b : Bool) → nat_lt row n ≡ b → b ≡ (row_at (program_at problem None) row).is_equality
    by true f = let l : row < n = grind arith in let s = flow-count problem n e in sym (kind-flow problem row (omega arith))
    by false f = let l : n ≤ row = grind arith in sym (kind-other problem row (other-is problem n row e l h))
