-- Loads have lines in version 2 alone.
use Rattle.std.proofs.Common.{◌≡◌, ℕ, inl, inr, List, [], ◌∷◌, refl, sym, subst, arith}
use Rattle.std.specs.List.{AllByRecursion}
use Rattle.merlin_model.specs.Networks.{Network}
use Rattle.config_text.specs.declared.loads.Load.{Load}
use Rattle.config_lines.specs.Lines.{load_line, IsLoadLine}
use Rattle.config_read.specs.Heads.{IsVersion}
use Rattle.config_read.specs.Sections.{TakesAll, IsVersionLoad}

pub plain_loads : (net : Network) (version : ℕ) (loads : List Load) → AllByRecursion (IsVersionLoad net version) loads → AllByRecursion (IsLoadLine net) loads
plain_loads net version [] all = tt
plain_loads net version (l ∷ ls) all = (all.0.0, plain_loads net version ls all.1)

pub no_loads : (net : Network) (version : ℕ) (loads : List Load) → AllByRecursion (IsVersionLoad net version) loads → version ≡ 1 → loads ≡ []
no_loads net version [] all e = refl
no_loads net version (l ∷ ls) all e = absurd (let two = all.0.1 in omega arith)

pub loads_of_two : (net : Network) (version : ℕ) (loads : List Load) → version ≡ 2 → AllByRecursion (IsLoadLine net) loads → AllByRecursion (IsVersionLoad net version) loads
loads_of_two net version [] e all = tt
loads_of_two net version (l ∷ ls) e all = ((all.0, e), loads_of_two net version ls e all.1)

pub loads_by : (net : Network) (version : ℕ) (loads : List Load) → IsVersion version → AllByRecursion (IsLoadLine net) loads → (version ≡ 1 → loads ≡ []) → AllByRecursion (IsVersionLoad net version) loads
loads_by net version loads (inl e) all none = subst (AllByRecursion (IsVersionLoad net version)) (sym (none e)) tt
loads_by net version loads (inr e) all none = loads_of_two net version loads e all

pub loads_taken : (net : Network) (version : ℕ) (text : List ℕ) (loads : List Load) (rest : List ℕ) → version ≡ 2 → TakesAll (load_line net) (IsLoadLine net) text loads rest → TakesAll (load_line net) (IsVersionLoad net version) text loads rest
loads_taken net version text loads rest two t = record { whole = t.whole; each = loads_of_two net version loads two t.each; ends = λ load more is e. t.ends load more is.0 e }

pub no_loads_taken : (net : Network) (version : ℕ) (text : List ℕ) (loads : List Load) → loads ≡ [] → (version ≡ 2 → ⊥) → TakesAll (load_line net) (IsVersionLoad net version) text loads text
no_loads_taken net version text loads none other =
    subst (λ ls. TakesAll (load_line net) (IsVersionLoad net version) text ls text) (sym none) (record { whole = refl; each = tt; ends = λ load more is e. other is.1 })
