-- The lines of loads: what guaranteed statements put on each directed link.
use Rattle.std.specs.Prelude.{ℕ, List, [], ◌∷◌, ◌++◌, map, filter, nat_lt, codes}
use Rattle.std.specs.Fmt.{decimal}
use Rattle.merlin_model.specs.declared.network.DirectedLink.{DirectedLink}
use Rattle.merlin_model.specs.Networks.{Network, directed_links}
use Rattle.config_text.specs.declared.loads.Load.{Load}
use Rattle.config_text.specs.Words.{words, line}
use Rattle.config_text.specs.Lines.{name_at}

-- what is loaded of a capacity
abbrev pub ratio_text : ℕ → ℕ → List ℕ
ratio_text load capacity = decimal load ++ (codes "/" ++ decimal capacity)

abbrev pub load_text : List ℕ → Load → List ℕ
load_text location l =
    words (codes "load" ∷ location ∷ decimal l.port ∷ ratio_text l.load l.capacity ∷ [])

abbrev pub load_lines : Network → List Load → List (List ℕ)
load_lines net loads = map (λ l. line (load_text (name_at net l.loc) l)) loads

-- A directed link under what it carries.
abbrev pub load_over : (DirectedLink → ℕ) → DirectedLink → Load
load_over amount link =
    record { loc = link.from; port = link.out_port; load = amount link; capacity = link.capacity }

-- The loads of a network: one for each directed link that carries something, in the order of directed links.
abbrev pub loads_of : Network → (DirectedLink → ℕ) → List Load
loads_of net amount = filter (λ l. nat_lt 0 l.load) (map (load_over amount) (directed_links net))
