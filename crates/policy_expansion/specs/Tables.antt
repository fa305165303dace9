-- What tables of names hold.
use Rattle.std.specs.Prelude.{ℕ, ◌≡◌, Bool, List, Option}
use Rattle.std.specs.Ordering.{nat_cmp}
use Rattle.std.specs.BTreeMap.{BTreeMap, get_by}
use Rattle.std.specs.BTreeSet.{BTreeSet, contains_by}
use Rattle.std.specs.Cmp.Lexicographic.{slice_cmp}
use Rattle.policy_grammar.specs.declared.written.Literal.{Literal}
use Rattle.policy_grammar.specs.declared.written.WrittenSet.{WrittenSet}
use Rattle.policy_expansion.specs.WrittenOut.{known_literals}
use denote.Ref.{Bor}

-- what stands under a name
abbrev pub under : {X : Type 0} → BTreeMap (Bor (List ℕ)) X → List ℕ → Option X
under table name = get_by (λ key. slice_cmp nat_cmp name key.now) table

-- each set's literals stand under its name
abbrev pub AreSetsOf : List WrittenSet → BTreeMap (Bor (List ℕ)) (List Literal) → Type 0
AreSetsOf sets table = (name : List ℕ) → under table name ≡ known_literals sets name

-- a name is among those that were met
abbrev pub is_met : BTreeSet (Bor (List ℕ)) → List ℕ → Bool
is_met met name = contains_by (λ key. slice_cmp nat_cmp name key.now) met
