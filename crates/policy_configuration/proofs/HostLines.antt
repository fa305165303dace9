-- The lines of hosts stand at hosts.
use Rattle.std.proofs.Common.{◌≡◌, ◌<◌, ℕ, suc, List, [], ◌∷◌, ◌++◌, length, map, refl, sym, subst}
use Rattle.std.specs.List.{AllByRecursion, flat_map, list_any}
use Rattle.merlin_model.specs.declared.config.HostLine.{HostLine}
use Rattle.merlin_model.specs.Networks.{Network}
use Rattle.merlin_model.specs.Policies.{Policy}
use Rattle.merlin_model.proofs.Members.{all_both}
use Rattle.product_graph.proofs.Lists.{all-map}
use Rattle.rules_model.specs.Tables.{all_hosts, is_host_kind}
use Rattle.predicate_split.specs.declared.pair_cells.Cell.{Cell as HostCell}
use Rattle.config_text.specs.Lines.{host_of}
use Rattle.configuration_model.specs.Hosts.{is_classed, is_out, classed_at, class_lines, owner_is, reading_of, readings, output_of_cell, outputs, others, headed, lines_at, host_lines}
use Rattle.policy_configuration.proofs.Lines.{all-flat, all-mapped, all-chosen, of-kind-below}

module _ (net : Network) (policy : Policy) (sources : List (List ℕ)) (cells : ℕ → ℕ → List HostCell) (s : ℕ) where
  abbrev IsHere : HostLine → Type 0
  IsHere h = host_of h ≡ s

  classes-here : (x : ℕ) (is : List ℕ) → AllByRecursion IsHere (class_lines net policy sources cells s x is)
  classes-here x [] = tt
  classes-here x (i ∷ is) = (refl, classes-here (suc x) is)

  headed-here : (lines : List HostLine) → AllByRecursion IsHere lines → AllByRecursion IsHere (headed net policy sources cells s lines)
  headed-here [] h = tt
  headed-here (l ∷ lines) h = (refl, h)

  reading-here : (d : ℕ) (c : HostCell) → AllByRecursion IsHere (reading_of net policy sources cells s d c)
  reading-here d c = all-chosen IsHere (is_classed net policy sources cells (owner_is net policy sources cells c) s) _ _ (refl, (refl, tt)) (refl, tt)

  readings-here : (d : ℕ) → AllByRecursion IsHere (readings net policy sources cells s d)
  readings-here d =
      all-chosen IsHere (list_any (λ c. is_classed net policy sources cells (owner_is net policy sources cells c) s) (cells s d)) (flat_map (reading_of net policy sources cells s d) (cells s d)) []
      (all-flat IsHere (reading_of net policy sources cells s d) (cells s d) (λ c i. reading-here d c)) tt

  outputs-here : (d : ℕ) → AllByRecursion IsHere (outputs net policy sources cells s d)
  outputs-here d =
      all-chosen IsHere (list_any (λ c. is_out net policy sources cells (owner_is net policy sources cells c) s) (cells s d)) (map (output_of_cell net policy sources cells s d) (cells s d)) []
      (all-mapped IsHere (output_of_cell net policy sources cells s d) (cells s d) (λ c i. refl)) tt

  lines-here : AllByRecursion IsHere (lines_at net policy sources cells s)
  lines-here =
      all_both IsHere (headed net policy sources cells s (class_lines net policy sources cells s 1 (classed_at net policy sources cells s)))
      (flat_map (readings net policy sources cells s) (others net policy sources cells s) ++ flat_map (outputs net policy sources cells s) (others net policy sources cells s))
      (headed-here (class_lines net policy sources cells s 1 (classed_at net policy sources cells s)) (classes-here 1 (classed_at net policy sources cells s)))
      (all_both IsHere (flat_map (readings net policy sources cells s) (others net policy sources cells s)) (flat_map (outputs net policy sources cells s) (others net policy sources cells s))
      (all-flat IsHere (readings net policy sources cells s) (others net policy sources cells s) (λ d i. readings-here d))
      (all-flat IsHere (outputs net policy sources cells s) (others net policy sources cells s) (λ d i. outputs-here d)))

pub hosts-stand : (net : Network) (policy : Policy) (sources : List (List ℕ)) (cells : ℕ → ℕ → List HostCell) → AllByRecursion (λ h. host_of h < length net.locations) (host_lines net policy sources cells)
hosts-stand net policy sources cells = all-flat (λ h. host_of h < length net.locations) (lines_at net policy sources cells) (all_hosts net) (λ s i.
    all-map (λ h. host_of h ≡ s) (λ h. host_of h < length net.locations) (λ h here. subst (λ k. k < length net.locations) (sym here) (of-kind-below is_host_kind net s i)) (lines_at net policy sources cells s) (lines-here net policy sources cells s))
