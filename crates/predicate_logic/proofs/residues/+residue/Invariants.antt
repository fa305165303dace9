use Rattle.std.proofs.Common.{◌≡◌, false, not, map, filter, take}
use Rattle.std.specs.List.{list_any}
use Rattle.predicate_logic.specs.Residues.{is_yes, is_no, residue}
use Rattle.predicate_logic.proofs.residues.+residue.Given as goal

abbrev pub invariant-residue_of_all-loop-pred : goal.invariant-residue_of_all-loop-pred
invariant-residue_of_all-loop-pred l = record {
  kept : l.kept ≡ filter (λ pred. not (is_yes pred)) (map (residue l.field l.value) (take l.pred-index l.preds));
  none : list_any is_no (map (residue l.field l.value) (take l.pred-index l.preds)) ≡ false;
}

abbrev pub invariant-residue_of_any-loop-pred : goal.invariant-residue_of_any-loop-pred
invariant-residue_of_any-loop-pred l = record {
  kept : l.kept ≡ filter (λ pred. not (is_no pred)) (map (residue l.field l.value) (take l.pred-index l.preds));
  none : list_any is_yes (map (residue l.field l.value) (take l.pred-index l.preds)) ≡ false;
}
