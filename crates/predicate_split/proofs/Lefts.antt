-- What is left of predicates mentions as much, and holds as well.
use Rattle.std.proofs.Common.{Some, Option, ◌≡◌, ℕ, Bool, true, false, cond, List, [], ◌∷◌, refl, sym, ◌∙◌, ap, ap₂}
use Rattle.merlin_model.specs.declared.policy.Field.{Field}
use Rattle.merlin_model.specs.declared.policy.Field.TheVariants.{Sport, Dport}
use Rattle.merlin_model.specs.Packets.{Packet, field_of}
use Rattle.merlin_model.specs.Predicates.{holds}
use Rattle.packet_model.specs.Fields.{has_ports, replace, packet_with}
use Rattle.predicate_logic.specs.Residues.{is_no, residue}
use Rattle.predicate_logic.proofs.Meanings.{residue-holds}
use Rattle.predicate_split.specs.declared.pairs.PlacedPred.{PlacedPred}
use Rattle.predicate_split.specs.declared.pair_cells.Cell.{Cell}
use Rattle.predicate_split.specs.declared.grids.Choice.{Choice}
use Rattle.predicate_split.specs.Overlaps.{holder, entry_residue}
use Rattle.predicate_split.specs.Left.{entries_at}
use Rattle.predicate_split.specs.Grids.{chosen_packet, chosen_cell, cell_row}
use Rattle.predicate_split.proofs.TwoHolders.{no-holds}

pub holder-at : (f : Field) (v : ℕ) (q : Packet) → field_of f q ≡ v → (entries : List PlacedPred) → holder (entries_at f v entries) q ≡ holder entries q
holder-at f v q at [] = refl
holder-at f v q at (e ∷ rest) = by (is_no (residue f v e.pred)) refl (holder-at f v q at rest)
  where
    same : holds (residue f v e.pred) q ≡ holds e.pred q
    same = residue-holds f v q at e.pred

    by : (b : Bool) → is_no (residue f v e.pred) ≡ b → holder (entries_at f v rest) q ≡ holder rest q →
        holder (cond b (entries_at f v rest) (entry_residue f v e ∷ entries_at f v rest)) q ≡ cond (holds e.pred q) (Some e.place) (holder rest q)
    by true n later = later ∙ ap (λ b. cond b (Some e.place) (holder rest q)) (sym (no-holds (residue f v e.pred) q n) ∙ same)
    by false n later = ap₂ (λ b o. cond b (Some e.place) o) same later

-- a destination port leaves the source port as it is
pub sport-kept : (p : Packet) (sport dport : Choice) → (chosen_packet p sport dport).sport ≡ (packet_with p Sport sport.value).sport
sport-kept p sport dport = by (has_ports p.proto) refl
  where
    set : Packet
    set = replace Sport sport.value p

    cleared : Packet → Packet
    cleared q = record q { sport = 0; dport = 0 }

    then : Packet → ℕ
    then q = (cond (has_ports q.proto) (replace Dport dport.value q) (cleared (replace Dport dport.value q))).sport

    by : (b : Bool) → has_ports p.proto ≡ b → then (cond b set (cleared set)) ≡ (cond b set (cleared set)).sport
    by true e = ap (λ b. (cond b (replace Dport dport.value set) (cleared (replace Dport dport.value set))).sport) e
    by false e = ap (λ b. (cond b (replace Dport dport.value (cleared set)) (cleared (replace Dport dport.value (cleared set)))).sport) e

cell-at : (entries : List PlacedPred) (p : Packet) (sport dport : Choice) → chosen_cell (entries_at Sport (packet_with p Sport sport.value).sport entries) p sport dport ≡ chosen_cell entries p sport dport
cell-at entries p sport dport =
    ap (λ (owner : Option ℕ). record { proto = Some p.proto; sport = sport.port; dport = dport.port; owner = owner })
    (holder-at Sport (packet_with p Sport sport.value).sport (chosen_packet p sport dport) (sport-kept p sport dport) entries)

pub row-at : (entries : List PlacedPred) (p : Packet) (sport : Choice) (dports : List Choice) → cell_row (entries_at Sport (packet_with p Sport sport.value).sport entries) p sport dports ≡ cell_row entries p sport dports
row-at entries p sport [] = refl
row-at entries p sport (dport ∷ rest) = ap₂ (λ (c : Cell) (l : List Cell). c ∷ l) (cell-at entries p sport dport) (row-at entries p sport rest)

pub row-left : (entries kept : List PlacedPred) (p : Packet) (sport : Choice) (dports : List Choice) (v : ℕ) → v ≡ (packet_with p Sport sport.value).sport → kept ≡ entries_at Sport v entries → cell_row kept p sport dports ≡ cell_row entries p sport dports
row-left entries kept p sport dports v e k = ap (λ (es : List PlacedPred). cell_row es p sport dports) (k ∙ ap (λ (n : ℕ). entries_at Sport n entries) e) ∙ row-at entries p sport dports
