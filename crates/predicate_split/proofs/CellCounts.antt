-- How many cells there are.
use Rattle.std.proofs.Common.{Option, option_to_list, ◌≡◌, ◌≤◌, ◌<◌, ℕ, ◌+◌, ◌*◌, Bool, true, false, List, [], ◌∷◌, ◌++◌, length, sum_by, refl, sym, ◌∙◌, ap, ap₂, subst, arith}
use Rattle.std.specs.List.{flat_map}
use Rattle.std.proofs.lemmas.List.{length-map, length-append}
use Rattle.std.proofs.lemmas.List.Concat.{length-flat_map}
use Rattle.std.proofs.lemmas.List.Sums.{sum_by-cons}
use Rattle.std.proofs.Math.Nat.{zero-mul, suc-mul}
use Rattle.merlin_model.specs.declared.policy.Field.TheVariants.{Proto, Sport, Dport}
use Rattle.merlin_model.specs.Packets.{Packet}
use Rattle.packet_model.specs.Fields.{packet_with}
use Rattle.predicate_split.specs.declared.pairs.PlacedPred.{PlacedPred}
use Rattle.predicate_split.specs.declared.pair_cells.Cell.{Cell}
use Rattle.predicate_split.specs.declared.fault.SplitFault.{SplitFault}
use Rattle.predicate_split.specs.declared.fault.SplitFault.TheVariants.{TooManyClasses, TooManyCells, OutOfMemory}
use Rattle.predicate_split.specs.declared.fault.TheConstants.{MAX_CELLS}
use Rattle.predicate_split.specs.declared.grids.Choice.{Choice}
use Rattle.predicate_split.specs.Classes.{zero_packet}
use Rattle.merlin_model.specs.declared.policy.Pred.{Pred}
use Rattle.merlin_model.specs.declared.network.HostAddress.{HostAddress}
use Rattle.predicate_split.specs.Cells.{cells_between, RefusesCells}
use Rattle.predicate_split.specs.Left.{entries_at, named_by}
use Rattle.predicate_split.specs.Grids.{ports_by, port_choices, chosen_cell, cell_row, rows_of, rows_under, grid_size, other_cells, cells_left, RefusesRoom}

length-rows : (entries : List PlacedPred) (p : Packet) (sports dports : List Choice) → length (rows_of entries p sports dports) ≡ length sports * length dports
length-rows entries p [] dports = sym (zero-mul (length dports))
length-rows entries p (sport ∷ rest) dports =
    length-append (cell_row entries p sport dports) (rows_of entries p rest dports)
    ∙ ap₂ (λ (a b : ℕ). a + b) (length-map dports (chosen_cell entries p sport)) (length-rows entries p rest dports)
    ∙ turned (length dports) (length rest * length dports)
    ∙ sym (suc-mul (length rest) (length dports))
  where
    turned : (a b : ℕ) → a + b ≡ b + a
    turned a b = omega arith

product : (a b c d : ℕ) → (a + b) * (c + d) ≡ a * c + (a * d + (b * c + b * d))
product a b c d = grind arith

-- a sum of sums
sums : (f g h k t : ℕ → ℕ) → ((n : ℕ) → t n ≡ f n + (g n + (h n + k n))) → (ns : List ℕ) → sum_by t ns ≡ sum_by f ns + (sum_by g ns + (sum_by h ns + sum_by k ns))
sums f g h k t same [] = refl
sums f g h k t same (n ∷ ns) =
    let one = same n in
    let rest = sums f g h k t same ns in
    let ts = sum_by-cons t n ns in
    let fs = sum_by-cons f n ns in
    let gs = sum_by-cons g n ns in
    let hs = sum_by-cons h n ns in
    let ks = sum_by-cons k n ns in
    omega (arith, one, rest, ts, fs, gs, hs, ks)

module _ (left : List PlacedPred) where
  abbrev size : Bool → Bool → ℕ → ℕ
  size e f proto = length (rows_under left e f proto)

  abbrev ports : Bool → ℕ → ℕ
  ports e proto = length (port_choices e (ports_by Sport proto (entries_at Proto proto left)))

  abbrev others : Bool → ℕ → ℕ
  others f proto = length (port_choices f (ports_by Dport proto (entries_at Proto proto left)))

  one-size : (e f : Bool) (proto : ℕ) → size e f proto ≡ ports e proto * others f proto
  one-size e f proto =
      length-rows (entries_at Proto proto left) (packet_with zero_packet Proto proto) (port_choices e (ports_by Sport proto (entries_at Proto proto left))) (port_choices f (ports_by Dport proto (entries_at Proto proto left)))

  four : (proto : ℕ) → grid_size left proto ≡ size true true proto + (size true false proto + (size false true proto + size false false proto))
  four proto =
      let a = one-size true true proto in
      let b = one-size true false proto in
      let c = one-size false true proto in
      let d = one-size false false proto in
      let e = product (ports true proto) (ports false proto) (others true proto) (others false proto) in
      omega (arith, a, b, c, d, e)

  count-parts : (xs ys zs us vs : List Cell) → length (xs ++ (ys ++ (zs ++ (us ++ vs)))) ≡ (length xs + (length ys + (length zs + length us))) + length vs
  count-parts xs ys zs us vs =
      let a = length-append xs (ys ++ (zs ++ (us ++ vs))) in
      let b = length-append ys (zs ++ (us ++ vs)) in
      let c = length-append zs (us ++ vs) in
      let d = length-append us vs in
      omega (arith, a, b, c, d)

  pub count-cells : length (cells_left left) ≡ sum_by (grid_size left) (named_by Proto left) + length (other_cells left (named_by Proto left))
  count-cells =
      let ns = named_by Proto left in
      let all = count-parts (flat_map (rows_under left true true) ns) (flat_map (rows_under left true false) ns) (flat_map (rows_under left false true) ns) (flat_map (rows_under left false false) ns) (other_cells left ns) in
      let a = length-flat_map (rows_under left true true) ns in
      let b = length-flat_map (rows_under left true false) ns in
      let c = length-flat_map (rows_under left false true) ns in
      let d = length-flat_map (rows_under left false false) ns in
      let s = sums (size true true) (size true false) (size false true) (size false false) (grid_size left) four ns in
      omega (arith, all, a, b, c, d, s)

-- room for all cells is room for those of protocols beside the other
module _ (left : List PlacedPred) (named : List ℕ) (room : ℕ) (other : Option Cell) where
  pub record AreBeside : Type 0 where
    pub is_named : named ≡ named_by Proto left
    pub is_other : option_to_list other ≡ other_cells left named
    pub is_room : room + length (option_to_list other) ≡ MAX_CELLS

  beside : AreBeside → length (cells_left left) + room ≡ sum_by (grid_size left) named + MAX_CELLS
  beside h =
      let n = count-cells left in
      let s = ap (sum_by (grid_size left)) h.is_named in
      let o = ap length h.is_other ∙ ap (λ (ns : List ℕ). length (other_cells left ns)) h.is_named in
      let r = h.is_room in
      omega (arith, n, s, o, r)

  pub refused-beside : AreBeside → (fault : SplitFault) → RefusesRoom (sum_by (grid_size left) named) room fault → RefusesRoom (length (cells_left left)) MAX_CELLS fault
  refused-beside h (TooManyClasses count) f = f
  refused-beside h (TooManyCells count) f = let b = beside h in let past = f.0 in (omega (arith, b, past), f.1)
  refused-beside h OutOfMemory f = f

  pub few-beside : AreBeside → sum_by (grid_size left) named ≤ room → length (cells_left left) ≤ MAX_CELLS
  few-beside h w = let b = beside h in omega (arith, b, w)

pub refused-pair : (preds : List Pred) (src dst : HostAddress) (count : ℕ) → count ≡ length (cells_between preds src dst) → (fault : SplitFault) → RefusesRoom count MAX_CELLS fault → RefusesCells preds src dst fault
refused-pair preds src dst count e (TooManyClasses most) f = f
refused-pair preds src dst count e (TooManyCells most) f = (subst (λ (n : ℕ). MAX_CELLS < n) e f.0, f.1)
refused-pair preds src dst count e OutOfMemory f = f
