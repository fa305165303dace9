-- The cells of two hosts by their priorities.
use Rattle.std.proofs.Common.{ℕ, ◌≡◌, ◌≤◌, ◌^◌, Bool, true, false, cond, List, [], ◌∷◌, ◌++◌, map, nat_lt, Option, None, Some, Contains, refl, sym, ap₂, subst, arith}
use Rattle.std.specs.List.{AllByRecursion, flat_map}
use Rattle.merlin_model.specs.declared.network.HostAddress.{HostAddress}
use Rattle.merlin_model.specs.declared.policy.Field.TheVariants.{Sport, Dport}
use Rattle.merlin_model.specs.declared.policy.Pred.{Pred}
use Rattle.merlin_model.specs.Networks.{Pairwise}
use Rattle.merlin_model.proofs.Members.{all_in, all_both, in_from}
use Rattle.predicate_split.specs.declared.pair_cells.Cell.{Cell}
use Rattle.predicate_split.specs.Parts.{least_from}
use Rattle.predicate_split.specs.Cells.{owner_from, between_hosts, protos, ports_under, packet_of_cell, choices, cell_of, cells_under, cells_between}
use Rattle.configuration_model.specs.Cells.{priority_by, priority_of, IsRegular}

-- Facts of all elements of lists put together.

all-pieces : {X Y : Type 0} (P : Y → Type 0) (f : X → List Y) → ((x : X) → AllByRecursion P (f x)) → (xs : List X) → AllByRecursion P (flat_map f xs)
all-pieces P f each [] = tt
all-pieces P f each (x ∷ xs) = all_both P (f x) (flat_map f xs) (each x) (all-pieces P f each xs)

all-chosen : {Y : Type 0} (P : Y → Type 0) (Q : Option ℕ → Type 0) (f : Option ℕ → List Y) → ((o : Option ℕ) → Q o → AllByRecursion P (f o)) → (os : List (Option ℕ)) → AllByRecursion Q os → AllByRecursion P (flat_map f os)
all-chosen P Q f each [] h = tt
all-chosen P Q f each (o ∷ os) h = all_both P (f o) (flat_map f os) (each o h.0) (all-chosen P Q f each os h.1)

all-mapped : {Y : Type 0} (P : Y → Type 0) (Q : Option ℕ → Type 0) (f : Option ℕ → Y) → ((o : Option ℕ) → Q o → P (f o)) → (os : List (Option ℕ)) → AllByRecursion Q os → AllByRecursion P (map f os)
all-mapped P Q f each [] h = tt
all-mapped P Q f each (o ∷ os) h = (each o h.0, all-mapped P Q f each os h.1)

all-weaker : {Y : Type 0} (P Q : Y → Type 0) → ((y : Y) → P y → Q y) → (ys : List Y) → AllByRecursion P ys → AllByRecursion Q ys
all-weaker P Q to [] h = tt
all-weaker P Q to (y ∷ ys) h = (to y h.0, all-weaker P Q to ys h.1)

-- each value, or a star
abbrev IsKind : Bool → Option ℕ → Type 0
IsKind true o = (n : ℕ) × (o ≡ Some n)
IsKind false o = o ≡ None

kinds : (b : Bool) (limit : ℕ) (named : List ℕ) → AllByRecursion (IsKind b) (choices b limit named)
kinds true limit named = each named
  where
    each : (ns : List ℕ) → AllByRecursion (IsKind true) (map Some ns)
    each [] = tt
    each (n ∷ ns) = ((n, refl), each ns)
kinds false limit named = by (nat_lt (least_from 0 named) limit)
  where
    by : (b : Bool) → AllByRecursion (IsKind false) (cond b (None ∷ []) [])
    by true = (refl, tt)
    by false = tt

abbrev rank : Bool → Bool → ℕ
rank true true = 60
rank true false = 50
rank false true = 40
rank false false = 30

rank-is : (e f : Bool) (proto : ℕ) (a b : Option ℕ) → IsKind e a → IsKind f b → priority_by (Some proto) a b ≡ rank e f
rank-is true true proto a b (n, ea) (m, eb) = ap₂ (priority_by (Some proto)) ea eb
rank-is true false proto a b (n, ea) eb = ap₂ (priority_by (Some proto)) ea eb
rank-is false true proto a b ea (m, eb) = ap₂ (priority_by (Some proto)) ea eb
rank-is false false proto a b ea eb = ap₂ (priority_by (Some proto)) ea eb

module _ (preds : List Pred) (src dst : HostAddress) where
  abbrev left : List Pred
  left = between_hosts src dst preds

  abbrev pub own : Option ℕ → Option ℕ → Option ℕ → Option ℕ
  own proto a b = owner_from 0 preds (packet_of_cell left src dst proto a b)

  abbrev Ls : Bool → Bool → List Cell
  Ls e f = flat_map (cells_under preds left src dst e f) (protos left)

  abbrev last : Option ℕ → Cell
  last o = cell_of preds left src dst o None None

  abbrev L5 : List Cell
  L5 = map last (choices false (2 ^ 8) (protos left))

  -- what is so of each cell of a protocol
  under : (P : Cell → Type 0) (e f : Bool) → ((proto : ℕ) (a b : Option ℕ) → IsKind e a → IsKind f b → P (cell_of preds left src dst (Some proto) a b)) → AllByRecursion P (Ls e f)
  under P e f each =
      all-pieces P (cells_under preds left src dst e f)
      (λ proto. all-chosen P (IsKind e) (λ a. map (cell_of preds left src dst (Some proto) a) (choices f (2 ^ 16) (ports_under Dport left proto)))
      (λ a ka. all-mapped P (IsKind f) (cell_of preds left src dst (Some proto) a) (λ b kb. each proto a b ka kb) (choices f (2 ^ 16) (ports_under Dport left proto)) (kinds f (2 ^ 16) (ports_under Dport left proto)))
      (choices e (2 ^ 16) (ports_under Sport left proto)) (kinds e (2 ^ 16) (ports_under Sport left proto)))
      (protos left)

  lasts : (P : Cell → Type 0) → P (last None) → AllByRecursion P L5
  lasts P h = all-mapped P (IsKind false) last (λ o e. subst (λ x. P (last x)) (sym e) h) (choices false (2 ^ 8) (protos left)) (kinds false (2 ^ 8) (protos left))

  Some-None : (n : ℕ) → Some n ≡ None → ⊥
  Some-None n e = cc

  regular-under : (e f : Bool) → AllByRecursion (IsRegular own) (Ls e f)
  regular-under e f = under (IsRegular own) e f (λ proto a b ka kb. record { owner = refl; star = λ none. absurd (Some-None proto none) })

  regular : AllByRecursion (IsRegular own) (cells_between preds src dst)
  regular =
      all_both (IsRegular own) (Ls true true) (Ls true false ++ (Ls false true ++ (Ls false false ++ L5))) (regular-under true true)
      (all_both (IsRegular own) (Ls true false) (Ls false true ++ (Ls false false ++ L5)) (regular-under true false)
      (all_both (IsRegular own) (Ls false true) (Ls false false ++ L5) (regular-under false true)
      (all_both (IsRegular own) (Ls false false) L5 (regular-under false false) (lasts (IsRegular own) (record { owner = refl; star = λ none. (refl, refl) })))))

  pub is-regular : (c : Cell) → Contains (cells_between preds src dst) c → IsRegular own c
  is-regular c i = all_in (IsRegular own) (cells_between preds src dst) c regular (in_from (cells_between preds src dst) c i)

  same : (e f : Bool) → AllByRecursion (λ c. priority_of c ≡ rank e f) (Ls e f)
  same e f = under (λ c. priority_of c ≡ rank e f) e f (λ proto a b ka kb. rank-is e f proto a b ka kb)

  abbrev AtMost : ℕ → Cell → Type 0
  AtMost m c = priority_of c ≤ m

  low : (e f : Bool) (m : ℕ) → rank e f ≤ m → AllByRecursion (AtMost m) (Ls e f)
  low e f m le = all-weaker (λ c. priority_of c ≡ rank e f) (AtMost m) (λ c h. subst (λ n. n ≤ m) (sym h) le) (Ls e f) (same e f)

  lowest : (m : ℕ) → 20 ≤ m → AllByRecursion (AtMost m) L5
  lowest m le = lasts (AtMost m) le

  abbrev Falls : List Cell → Type 0
  Falls cs = Pairwise (λ b c. priority_of c ≤ priority_of b) cs

  last-falls : Falls L5
  last-falls = by (nat_lt (least_from 0 (protos left)) (2 ^ 8))
    where
      by : (b : Bool) → Falls (map last (cond b (None ∷ []) []))
      by true = (tt, tt)
      by false = tt

  pub falling : ((m : ℕ) (xs ys : List Cell) → AllByRecursion (λ c. priority_of c ≡ m) xs → AllByRecursion (λ c. priority_of c ≤ m) ys → Falls ys → Falls (xs ++ ys)) → Falls (cells_between preds src dst)
  falling falls =
      falls 60 (Ls true true) (Ls true false ++ (Ls false true ++ (Ls false false ++ L5))) (same true true)
      (all_both (AtMost 60) (Ls true false) (Ls false true ++ (Ls false false ++ L5)) (low true false 60 (omega arith))
      (all_both (AtMost 60) (Ls false true) (Ls false false ++ L5) (low false true 60 (omega arith))
      (all_both (AtMost 60) (Ls false false) L5 (low false false 60 (omega arith)) (lowest 60 (omega arith)))))
      (falls 50 (Ls true false) (Ls false true ++ (Ls false false ++ L5)) (same true false)
      (all_both (AtMost 50) (Ls false true) (Ls false false ++ L5) (low false true 50 (omega arith))
      (all_both (AtMost 50) (Ls false false) L5 (low false false 50 (omega arith)) (lowest 50 (omega arith))))
      (falls 40 (Ls false true) (Ls false false ++ L5) (same false true)
      (all_both (AtMost 40) (Ls false false) L5 (low false false 40 (omega arith)) (lowest 40 (omega arith)))
      (falls 30 (Ls false false) L5 (same false false) (lowest 30 (omega arith)) last-falls)))
