-- What a program says of its rows holds at each cutoff that it takes.
use Rattle.std.proofs.Common.{◌≡◌, ℕ, ◌<◌, ◌≤◌, ◌^◌, Bool, ℤ, nat_abs, List, length, Option, None, sym, ◌∙◌, subst, arith}
use Rattle.std.specs.List.{AllByRecursion}
use Rattle.merlin_model.specs.Programs.{Program, variables, row_at, IsProgram, IsRow, HasCutoffs, Takes, IsNarrower, IsNarrowerRow}
use Rattle.integer_program.proofs.Bounds.{ascending_few}
use Rattle.integer_program.proofs.Rows.{narrower_than_none, narrower_at, rows-same, row_is}

-- the entries of a row, as they stand at a cutoff
pub record AreEntries (program : Program) (row : ℕ) (entries : List (ℕ × ℤ)) : Type 0 where
  pub is : entries ≡ (row_at program row).entries
  pub few : length entries ≤ 32768
  pub exist : AllByRecursion (λ (e : ℕ × ℤ). e.0 < variables program) entries
  pub small : AllByRecursion (λ (e : ℕ × ℤ). nat_abs e.1 ≤ 10 ^ 9) entries

-- the program at a cutoff beside the one without
pub record IsAt (program plain : Program) : Type 0 where
  pub form : IsProgram program
  pub narrower : IsNarrower program plain
  pub variables_same : variables program ≡ variables plain
  pub rows_same : length program.rows ≡ length plain.rows

pub is-at : (K : Type 0) (instance : Option K → Program) (takes : K → Bool) (below : K → K → Bool) (value : List Bool → K) (cutoff : Option K) →
    HasCutoffs K instance takes below value → ((z : Option K) → Takes takes z → IsProgram (instance z)) → Takes takes cutoff → IsAt (instance cutoff) (instance None)
is-at K instance takes below value cutoff laws forms taken = record {
  form = forms cutoff taken;
  narrower = narrower;
  variables_same = narrower.size;
  rows_same = rows-same (instance cutoff) (instance None) narrower;
}
  where
    narrower : IsNarrower (instance cutoff) (instance None)
    narrower = narrower_than_none K instance takes below value cutoff laws taken

pub row_narrower : (program plain : Program) (row : ℕ) → IsAt program plain → row < length plain.rows → IsNarrowerRow (row_at program row) (row_at plain row)
row_narrower program plain row at h = let s = at.rows_same in narrower_at program plain row at.narrower (omega arith)

pub row_form : (program plain : Program) (row : ℕ) → IsAt program plain → row < length plain.rows → IsRow program (row_at program row)
row_form program plain row at h = let s = at.rows_same in row_is program row at.form (omega arith)

pub are-entries : (program plain : Program) (row : ℕ) (entries : List (ℕ × ℤ)) → IsAt program plain → row < length plain.rows → entries ≡ (row_at plain row).entries → AreEntries program row entries
are-entries program plain row entries at h e = record {
  is = is;
  few = let few = at.form.few_variables in let size = ascending_few (λ (x : ℕ × ℤ). x.0) (variables program) (row_at program row).entries form.ascend form.exist in
      subst (λ es. length es ≤ 32768) (sym is) (omega arith);
  exist = subst (AllByRecursion (λ (x : ℕ × ℤ). x.0 < variables program)) (sym is) form.exist;
  small = subst (AllByRecursion (λ (x : ℕ × ℤ). nat_abs x.1 ≤ 10 ^ 9)) (sym is) form.small;
}
  where
    is : entries ≡ (row_at program row).entries
    is = e ∙ sym (row_narrower program plain row at h).entries

    form : IsRow program (row_at program row)
    form = row_form program plain row at h
