-- Sums over chosen variables, and the greatest of loads, step by step.
use Rattle.std.proofs.Common.{◌≡◌, ℕ, suc, ◌+◌, ◌-◌, ◌^◌, ◌≤◌, ◌<◌, max, Bool, true, false, cond, List, [], ◌∷◌, ◌++◌, map, length, take, drop, get_or, sum_by, sym, ◌∙◌, ap, ap₂, arith}
use Rattle.std.proofs.lemmas.List.{take_more, drop_more, length-take-le}
use Rattle.std.proofs.lemmas.List.Sums.{sum_by_more_le}
use Rattle.std.proofs.Math.Nat.{mul-le-mul_right}
use Rattle.std.specs.List.{AllByRecursion}
use Rattle.merlin_model.specs.declared.network.DirectedLink.{DirectedLink}
use Rattle.merlin_model.specs.Programs.{is_chosen}
use Rattle.merlin_model.specs.Rates.{greatest_of}
use Rattle.merlin_model.specs.Assignments.{greatest_ratio, ratio_lt}
use Rattle.cutoff_program.specs.declared.flow.Variable.{Variable}
use Rattle.cutoff_program.specs.Flows.{count_if, taken_from, loads_from}
use Rattle.cutoff_program.proofs.Lists.{all_so}
use Rattle.cutoff_program.proofs.Sums.{sum-bound, taken-most}

taken-append : (n : ℕ) (f : Variable → ℕ) (vs : List Variable) (v : Variable) (point : List Bool) → taken_from n f (vs ++ v ∷ []) point ≡ taken_from n f vs point + count_if (is_chosen point (n + length vs)) (f v)
taken-append n f [] v point = let e : n ≡ n + 0 = omega arith in ap (λ m. count_if (is_chosen point m) (f v) + 0) e ∙ turn (count_if (is_chosen point (n + 0)) (f v))
  where
    turn : (x : ℕ) → x + 0 ≡ 0 + x
    turn x = omega arith
taken-append n f (w ∷ vs) v point =
    let e : n + 1 + length vs ≡ n + suc (length vs) = omega arith in
    ap (λ t. count_if (is_chosen point n) (f w) + t) (taken-append (n + 1) f vs v point ∙ ap (λ m. taken_from (n + 1) f vs point + count_if (is_chosen point m) (f v)) e)
    ∙ group (count_if (is_chosen point n) (f w)) (taken_from (n + 1) f vs point) (count_if (is_chosen point (n + suc (length vs))) (f v))
  where
    group : (a b c : ℕ) → a + (b + c) ≡ a + b + c
    group a b c = omega arith

taken-next : (f : Variable → ℕ) (vs : List Variable) (point : List Bool) (k : ℕ) (d : Variable) → k < length vs → taken_from 0 f (take (k + 1) vs) point ≡ taken_from 0 f (take k vs) point + count_if (is_chosen point k) (f (get_or vs k d))
taken-next f vs point k d h =
    ap (λ xs. taken_from 0 f xs point) (take_more vs k d h) ∙ taken-append 0 f (take k vs) (get_or vs k d) point
    ∙ ap (λ m. taken_from 0 f (take k vs) point + count_if (is_chosen point m) (f (get_or vs k d))) (let e = length-take-le k vs (let l : k ≤ length vs = omega arith in l) in let z : 0 + length (take k vs) ≡ k = omega arith in z)

pub taken-one : (f : Variable → ℕ) (vs : List Variable) (point : List Bool) (k : ℕ) (d : Variable) (old new : ℕ) → k < length vs → is_chosen point k ≡ true → old ≡ taken_from 0 f (take k vs) point → new ≡ old + f (get_or vs k d) →
    new ≡ taken_from 0 f (take (k + 1) vs) point
taken-one f vs point k d old new h c e g =
    g ∙ ap (λ x. x + f (get_or vs k d)) e ∙ ap (λ b. taken_from 0 f (take k vs) point + count_if b (f (get_or vs k d))) (sym c) ∙ sym (taken-next f vs point k d h)

pub taken-none : (f : Variable → ℕ) (vs : List Variable) (point : List Bool) (k : ℕ) (d : Variable) (old new : ℕ) → k < length vs → is_chosen point k ≡ false → old ≡ taken_from 0 f (take k vs) point → new ≡ old →
    new ≡ taken_from 0 f (take (k + 1) vs) point
taken-none f vs point k d old new h c e g =
    g ∙ e ∙ plain (taken_from 0 f (take k vs) point) ∙ ap (λ b. taken_from 0 f (take k vs) point + count_if b (f (get_or vs k d))) (sym c) ∙ sym (taken-next f vs point k d h)
  where
    plain : (x : ℕ) → x ≡ x + 0
    plain x = omega arith

-- Terms that are at most others, which are small.
pub all-small : (f g : Variable → ℕ) (vs : List Variable) → ((v : Variable) → f v ≤ g v) → length vs ≤ 32768 → AllByRecursion (λ v. g v ≤ 10 ^ 9) vs → sum_by f vs < 2 ^ 45
all-small f g vs most few small =
    let s = sum-bound f (10 ^ 9) vs (all_so (λ v. g v ≤ 10 ^ 9) (λ v. f v ≤ 10 ^ 9) vs (λ v r. let m = most v in omega arith) small) in
    let m = mul-le-mul_right (10 ^ 9) few in
    omega arith

pub taken-small : (f g : Variable → ℕ) (vs : List Variable) (point : List Bool) → ((v : Variable) → f v ≤ g v) → length vs ≤ 32768 → AllByRecursion (λ v. g v ≤ 10 ^ 9) vs → taken_from 0 f vs point < 2 ^ 45
taken-small f g vs point most few small = let s = all-small f g vs most few small in let t = taken-most 0 f vs point in omega arith

pub next-taken : (f g : Variable → ℕ) (vs : List Variable) (point : List Bool) (k : ℕ) (d : Variable) → ((v : Variable) → f v ≤ g v) → length vs ≤ 32768 → AllByRecursion (λ v. g v ≤ 10 ^ 9) vs → k < length vs →
    taken_from 0 f (take k vs) point + f (get_or vs k d) < 2 ^ 45
next-taken f g vs point k d most few small h =
    let s = all-small f g vs most few small in let t = taken-most 0 f (take k vs) point in let m = sum_by_more_le f vs k d h in omega arith

-- From the last link back.

loads-more : (load : ℕ → ℕ) (ws : List DirectedLink) (k : ℕ) (d : DirectedLink) → k < length ws → loads_from load k (drop k ws) ≡ (load k, (get_or ws k d).capacity) ∷ loads_from load (k + 1) (drop (k + 1) ws)
loads-more load ws k d h = ap (loads_from load k) (drop_more ws k d h)

pub greatest-more : (load : ℕ → ℕ) (ws : List DirectedLink) (k : ℕ) (d : DirectedLink) → k < length ws →
    greatest_of (map (λ (l : ℕ × ℕ). l.0) (loads_from load k (drop k ws))) ≡ max (load k) (greatest_of (map (λ (l : ℕ × ℕ). l.0) (loads_from load (k + 1) (drop (k + 1) ws))))
greatest-more load ws k d h = ap (λ ls. greatest_of (map (λ (l : ℕ × ℕ). l.0) ls)) (loads-more load ws k d h)

pub ratio-more : (load : ℕ → ℕ) (ws : List DirectedLink) (k : ℕ) (d : DirectedLink) → k < length ws →
    greatest_ratio (loads_from load k (drop k ws))
    ≡ cond (ratio_lt (load k, (get_or ws k d).capacity) (greatest_ratio (loads_from load (k + 1) (drop (k + 1) ws)))) (greatest_ratio (loads_from load (k + 1) (drop (k + 1) ws))) (load k, (get_or ws k d).capacity)
ratio-more load ws k d h = ap greatest_ratio (loads-more load ws k d h)

pub greatest-next : (load : ℕ → ℕ) (ws : List DirectedLink) (link : ℕ) (old one new : ℕ) → 0 < link → link ≤ length ws → old ≡ greatest_of (map (λ (l : ℕ × ℕ). l.0) (loads_from load link (drop link ws))) → one ≡ load (link - 1) → new ≡ max one old →
    new ≡ greatest_of (map (λ (l : ℕ × ℕ). l.0) (loads_from load (link - 1) (drop (link - 1) ws)))
greatest-next load ws link old one new p h e f g =
    g ∙ ap₂ max f (e ∙ ap (λ n. greatest_of (map (λ (l : ℕ × ℕ). l.0) (loads_from load n (drop n ws)))) (let s : link ≡ link - 1 + 1 = omega arith in s))
    ∙ sym (greatest-more load ws (link - 1) (record { from = 0; out_port = 0; to = 0; in_port = 0; capacity = 0; back = 0; weight = 0 }) (omega arith))
