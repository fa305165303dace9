-- What is left of a predicate when one field of the packet is fixed.
use Rattle.std.specs.Prelude.{ℕ, Bool, true, false, not, ◌==◌, List, [], ◌∷◌, map, filter, if◌then◌else◌}
use Rattle.std.specs.List.{list_any}
use Rattle.merlin_model.specs.declared.policy.Field.{Field}
use Rattle.merlin_model.specs.declared.policy.Field.TheVariants.{EthSrc, EthDst, IpSrc, IpDst, Proto, Sport, Dport}
use Rattle.merlin_model.specs.declared.policy.Test.{Test}
use Rattle.merlin_model.specs.declared.policy.Test.TheVariants.{Is, Port, Within}
use Rattle.merlin_model.specs.declared.policy.Pred.{Pred, Yes, No, Test as Tests, All, All', AnyOf, AnyOf', Not, Not', Row_of-Pred, end_of-Pred, more_of-Pred}
use Rattle.merlin_model.specs.Predicates.{first_bits}

-- the place of a field in the order of packets
abbrev pub field_number : Field → ℕ
field_number EthSrc = 0
field_number EthDst = 1
field_number IpSrc = 2
field_number IpDst = 3
field_number Proto = 4
field_number Sport = 5
field_number Dport = 6

abbrev pub same_field : Field → Field → Bool
same_field f g = field_number f == field_number g

abbrev pub verdict : Bool → Pred
verdict true = Yes
verdict false = No

-- Yes and No are folded away.

abbrev pub is_yes : Pred → Bool
is_yes Yes = true
is_yes _ = false

abbrev pub is_no : Pred → Bool
is_no No = true
is_no _ = false

-- one member stands for itself
abbrev pub all_together : List Pred → Pred
all_together [] = Yes
all_together (pred ∷ []) = pred
all_together (pred ∷ next ∷ rest) = All (pred ∷ next ∷ rest)

abbrev pub any_together : List Pred → Pred
any_together [] = No
any_together (pred ∷ []) = pred
any_together (pred ∷ next ∷ rest) = AnyOf (pred ∷ next ∷ rest)

abbrev pub folded_all : List Pred → Pred
folded_all preds = if list_any is_no preds then No else all_together (filter (λ pred. not (is_yes pred)) preds)

abbrev pub folded_any : List Pred → Pred
folded_any preds = if list_any is_yes preds then Yes else any_together (filter (λ pred. not (is_no pred)) preds)

abbrev pub folded_not : Pred → Pred
folded_not Yes = No
folded_not No = Yes
folded_not pred = Not pred

-- A test on the field, of one value or of a block, becomes Yes or No. A port test becomes a test on its port where the protocol agrees, and one whose
-- port is fixed before its protocol becomes a test on the protocol.
abbrev pub test_residue : Field → ℕ → Test → Pred
test_residue f v (Is g n) = if same_field f g then verdict (v == n) else Tests (Is g n)
test_residue f v (Port q g n) =
    if same_field f Proto then (if v == q then Tests (Is g n) else No)
    else if same_field f g then (if v == n then Tests (Is Proto q) else No)
    else Tests (Port q g n)
test_residue f v (Within g n length) =
    if same_field f g then verdict (first_bits length v == first_bits length n)
    else Tests (Within g n length)

abbrev mutual
  -- what is left of the predicate where field f is v
  pub residue : Field → ℕ → Pred → Pred
  residue f v Yes = Yes
  residue f v No = No
  residue f v (Tests test) = test_residue f v test
  residue f v (All' _ row) = folded_all (row_residues f v row)
  residue f v (AnyOf' _ row) = folded_any (row_residues f v row)
  residue f v (Not' _ (more_of-Pred pred end_of-Pred)) = folded_not (residue f v pred)

  pub row_residues : {n : _} → Field → ℕ → Row_of-Pred n → List Pred
  row_residues f v end_of-Pred = []
  row_residues f v (more_of-Pred pred rest) = residue f v pred ∷ row_residues f v rest

abbrev pub residues : Field → ℕ → List Pred → List Pred
residues f v preds = map (residue f v) preds
