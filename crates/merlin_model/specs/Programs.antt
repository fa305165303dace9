-- Programs in zeros and ones: rows of linear conditions, and the points that meet them.
use Rattle.std.specs.Prelude.{ℕ, ◌≡◌, ◌≤◌, ◌<◌, Bool, true, false, ℤ, pos, ◌+ℤ◌, ◌≤ℤ◌, nat_abs, List, [], ◌∷◌, map, length, slice_index_or, Option, None, Some, IfSome, IsTrue}
use Rattle.std.specs.List.{AllByRecursion, AllZip}
use Rattle.std.specs.List.Sorted.{IsStrictlyIncreasing}
use Rattle.merlin_model.specs.declared.limits.TheConstants.{MAX_VARIABLES, MAX_ROWS, MAX_COEFFICIENT, MAX_RIGHT_SIDE}

-- A row: the sum of its entries, each a coefficient of one variable, is at most its right side, or
-- equal to it.
pub record Row : Type 0 where
  pub entries : List (ℕ × ℤ)
  pub is_equality : Bool
  pub right : ℤ

-- A program as it stands at one cutoff: its rows, and for each variable whether it may be 1.
pub record Program : Type 0 where
  pub rows : List Row
  pub upper : List Bool

abbrev pub variables : Program → ℕ
variables program = length program.upper

-- past the last row there is none that says anything
abbrev pub no_row : Row
no_row = record { entries = []; is_equality = true; right = pos 0 }

abbrev pub row_at : Program → ℕ → Row
row_at program row = slice_index_or program.rows row no_row

-- the variables of each row exist and ascend, and all numbers are small
pub record IsRow (program : Program) (row : Row) : Type 0 where
  pub ascend : IsStrictlyIncreasing (map (λ e. e.0) row.entries)
  pub exist : AllByRecursion (λ e. e.0 < variables program) row.entries
  pub small : AllByRecursion (λ e. nat_abs e.1 ≤ MAX_COEFFICIENT) row.entries
  pub small_right : nat_abs row.right ≤ MAX_RIGHT_SIDE

-- a program within the limits on variables, rows and numbers
pub record IsProgram (program : Program) : Type 0 where
  pub few_variables : variables program ≤ MAX_VARIABLES
  pub few_rows : length program.rows ≤ MAX_ROWS
  pub rows : AllByRecursion (IsRow program) program.rows

abbrev pub total : List ℤ → ℤ
total [] = pos 0
total (z ∷ zs) = z +ℤ total zs

-- A point gives each variable 0 or 1.

abbrev pub is_chosen : List Bool → ℕ → Bool
is_chosen point variable = slice_index_or point variable false

-- a coefficient where the variable is 1, and 0 where it is 0
abbrev pub coefficient_if : Bool → ℤ → ℤ
coefficient_if true z = z
coefficient_if false z = pos 0

abbrev pub left_side : List (ℕ × ℤ) → List Bool → ℤ
left_side entries point = total (map (λ e. coefficient_if (is_chosen point e.0) e.1) entries)

abbrev pub Compares : Bool → ℤ → ℤ → Type 0
Compares true left right = left ≡ right
Compares false left right = left ≤ℤ right

-- the point meets each row, and no variable is 1 that may not be
pub record IsSolution (program : Program) (point : List Bool) : Type 0 where
  pub size : length point ≡ variables program
  pub within : (variable : ℕ) → is_chosen point variable ≡ true →
      is_chosen program.upper variable ≡ true
  pub meets :
      AllByRecursion (λ row. Compares row.is_equality (left_side row.entries point) row.right) program.rows

-- How a program moves with its cutoffs.

-- the same row with a right side that is no greater
pub record IsNarrowerRow (narrow wide : Row) : Type 0 where
  pub entries : narrow.entries ≡ wide.entries
  pub is_equality : narrow.is_equality ≡ wide.is_equality
  pub right : narrow.right ≤ℤ wide.right
  pub still : wide.is_equality ≡ true → narrow.right ≡ wide.right

-- the same program with right sides and upper bounds that are no greater
pub record IsNarrower (narrow wide : Program) : Type 0 where
  pub rows : AllZip IsNarrowerRow narrow.rows wide.rows
  pub size : variables narrow ≡ variables wide
  pub upper : (variable : ℕ) → is_chosen narrow.upper variable ≡ true →
      is_chosen wide.upper variable ≡ true

-- being without a cutoff counts as above every cutoff
abbrev pub is_lower : {K : Type 0} → (K → K → Bool) → Option K → Option K → Bool
is_lower below (Some a) (Some b) = below a b
is_lower below (Some a) None = true
is_lower below None b = false

-- without a cutoff, or with one that is taken
abbrev pub Takes : {K : Type 0} → (K → Bool) → Option K → Type 0
Takes takes cutoff = IfSome cutoff (λ z. IsTrue (takes z))

-- The laws of cutoffs: `below` is an order, a smaller cutoff narrows, and a solution has its own
-- value below the cutoff that it meets.
pub record HasCutoffs (K : Type 0) (instance : Option K → Program) (takes : K → Bool) (below : K → K → Bool) (value : List Bool → K) : Type 0 where
  pub irreflexive : (a : K) → IsTrue (takes a) → below a a ≡ false
  pub transitive : (a b c : K) → IsTrue (takes a) → IsTrue (takes b) → IsTrue (takes c) →
      below a b ≡ true → below b c ≡ true → below a c ≡ true
  -- two cutoffs of which neither is below the other give the same program
  pub level : (a b : K) → IsTrue (takes a) → IsTrue (takes b) → below a b ≡ false →
      below b a ≡ false → instance (Some a) ≡ instance (Some b)
  pub narrows : (a b : Option K) → Takes takes a → Takes takes b → is_lower below a b ≡ true →
      IsNarrower (instance a) (instance b)
  pub lowers : (z : K) (point : List Bool) → IsTrue (takes z) →
      IsSolution (instance (Some z)) point → below (value point) z ≡ true
  pub reaches : (z : K) (point : List Bool) → IsTrue (takes z) → IsSolution (instance None) point →
      below (value point) z ≡ true → IsSolution (instance (Some z)) point
  pub taken : (z : K) (point : List Bool) → IsTrue (takes z) →
      length point ≡ variables (instance None) → IsTrue (takes (value point))
