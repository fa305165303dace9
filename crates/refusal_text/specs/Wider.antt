-- What rules of refinement are called that fail.
use Rattle.std.specs.Prelude.{◌≡◌, ◌++◌, ⊤, ℕ, List, map, None, Some, codes}
use Rattle.std.specs.Fmt.{decimal}
use Rattle.std.specs.List.{AllByRecursion}
use Rattle.merlin_model.specs.Networks.{Network}
use Rattle.merlin_model.specs.Words.{IsSymbol}
use Rattle.packet_model.specs.Texts.{packet_text}
use Rattle.config_text.specs.Words.{spaced}
use Rattle.config_text.specs.Result.{symbol_text}
use Rattle.negotiator.specs.declared.fault.RefineFault.{RefineFault}
use Rattle.negotiator.specs.declared.fault.RefineFault.TheVariants as refine_faults

-- For paths the least packet to which the child allows more, and the least such walk; for caps and
-- guarantees the number of the term, and what its statements have together. Others are no such rule.
abbrev pub IsWiderText : Network → RefineFault → List ℕ → Type 0
IsWiderText net (refine_faults.PathWider packet word) text =
    text ≡ codes "wider path " ++ (packet_text packet ++ spaced (map (symbol_text net) word))
IsWiderText net (refine_faults.CapWider term (Some sum)) text =
    text ≡ codes "wider cap " ++ (decimal term ++ (codes " " ++ decimal sum))
IsWiderText net (refine_faults.CapWider term None) text =
    text ≡ codes "wider cap " ++ (decimal term ++ codes " uncapped")
IsWiderText net (refine_faults.ReserveWider term sum) text =
    text ≡ codes "wider reserve " ++ (decimal term ++ (codes " " ++ decimal sum))
IsWiderText net (refine_faults.TooManyCells count) text = ⊥
IsWiderText net refine_faults.OutOfMemory text = ⊥

-- the symbols of the word are the network's
abbrev pub NamesSymbols : Network → RefineFault → Type 0
NamesSymbols net (refine_faults.PathWider packet word) = AllByRecursion (IsSymbol net) word
NamesSymbols net fault = ⊤
