-- What classes of symbols are.
use Rattle.std.specs.Prelude.{ℕ, ◌≡◌, List, length, map, slice_get, Some, Contains}
use Rattle.std.specs.List.{AllByRecursion}
use Rattle.merlin_model.specs.declared.policy.Symbol.{Symbol}
use Rattle.merlin_model.specs.declared.policy.Path.{Path}
use Rattle.path_automaton.specs.declared.classes.Classes.{Classes}
use Rattle.path_automaton.specs.SeenSymbols.{seen_by}
use Rattle.path_automaton.specs.States.{with_all_new}

-- symbols that the path sees alike have one value
abbrev pub IsBlind : Path → (Symbol → Path) → Type 0
IsBlind path f = (x y : Symbol) → seen_by path x ≡ seen_by path y → f x ≡ f y

pub record AreClasses (path : Path) (symbols : List Symbol) (c : Classes) : Type 0 where
  pub each : length c.numbers ≡ length symbols
  -- the first symbol of a symbol's class is seen as the symbol is
  pub alike : (k : ℕ) (x : Symbol) → slice_get symbols k ≡ Some x → (class : ℕ) × (y : Symbol) × (slice_get c.numbers k ≡ Some class) × (slice_get c.firsts class ≡ Some y) × (seen_by path y ≡ seen_by path x)
  -- the path sees no two of the first symbols alike
  pub apart : (i j : ℕ) (x y : Symbol) → slice_get c.firsts i ≡ Some x → slice_get c.firsts j ≡ Some y → seen_by path x ≡ seen_by path y → i ≡ j
  pub among : AllByRecursion (λ y. Contains symbols y) c.firsts
  -- what the first symbols give comes in the order in which all symbols give it
  pub order : (f : Symbol → Path) → IsBlind path f → (others : List Path) → with_all_new others (map f symbols) ≡ with_all_new others (map f c.firsts)
