use Rattle.std.proofs.Common.{◌≡◌, ℕ, Bool, List, length, map, Result, Ok, Err, sym, ◌∙◌, subst}
use Rattle.std.specs.Result.{IsErrAnd}
use Rattle.merlin_model.specs.declared.policy.Symbol.{Symbol}
use Rattle.merlin_model.specs.declared.policy.Path.{Path}
use Rattle.path_regex.specs.Normal.{normal_of}
use Rattle.path_regex.specs.Derivatives.{takes_empty}
use Rattle.path_regex.specs.Functions.{HasNoFunctionUnderNot}
use Rattle.path_automaton.specs.declared.classes.Classes.{Classes}
use Rattle.path_automaton.specs.declared.exploring.Explored.{Explored}
use Rattle.path_automaton.specs.declared.fault.AutomatonFault.{AutomatonFault}
use Rattle.path_automaton.specs.declared.fault.AutomatonFault.TheVariants.{TooManyStates, OutOfMemory}
use Rattle.path_automaton.specs.Classes.{AreClasses}
use Rattle.path_automaton.specs.Followed.{AreExploring, IsExplored, HasMany}
use Rattle.path_automaton.specs.Living.{AreInside, AreLiving}
use Rattle.path_automaton.specs.Automata.{AutomatonTables, AcceptsWordsOf, AreTablesOfPath}
use Rattle.path_automaton.specs.Inside.{tables_of, AreWhole}
use Rattle.path_automaton.specs.Built.{IsBuilt}
use Rattle.path_automaton.proofs.Building.{too_many-states}
use Rattle.path_automaton.proofs.Tables.{inside, is-whole, tables-are, is-automaton}
use Rattle.path_automaton.proofs.automaton.build.Goals as goal

-- what was found, in the words of the path and its classes
abbrev AreFound : Path → Classes → Explored → Type 0
AreFound path c e = AreExploring (normal_of path) c.firsts e.states e.rows × (length e.rows ≡ length e.states)

found : (path : Path) (c : Classes) (firsts : List Symbol) (e : Explored) → firsts ≡ c.firsts → IsExplored (normal_of path) firsts (Ok e) → AreFound path c e
found path c firsts e s h = subst (λ l. AreExploring (normal_of path) l e.states e.rows × (length e.rows ≡ length e.states)) s h

-- the same, with the states that live on
record IsDone (path : Path) (c : Classes) (e : Explored) (living : List Bool) : Type 0 where
  found : AreFound path c e
  lives : AreLiving e.rows (map takes_empty e.states) living

done : (path : Path) (c : Classes) (firsts : List Symbol) (e : Explored) (rows : List (List ℕ)) (flags accepting living : List Bool) → firsts ≡ c.firsts → IsExplored (normal_of path) firsts (Ok e) →
    rows ≡ e.rows → flags ≡ accepting → accepting ≡ map takes_empty e.states → AreLiving rows flags living → IsDone path c e living
done path c firsts e rows flags accepting living s h r f a living_before = record {
  found = found path c firsts e s h;
  lives = subst (λ (l : List Bool). AreLiving e.rows l living) (f ∙ a) (subst (λ (rows : List (List ℕ)). AreLiving rows flags living) r living_before);
}

-- a fault that is passed on
passed : (path : Path) (symbols : List Symbol) (c : Classes) (firsts : List Symbol) → AreClasses path symbols c → firsts ≡ c.firsts → (e : AutomatonFault) → IsExplored (normal_of path) firsts (Err e) →
    (r : Result AutomatonTables AutomatonFault) → IsErrAnd r (λ f. f ≡ e) → IsBuilt path symbols r
passed path symbols c firsts are s e h (Ok x) i = absurd i
passed path symbols c firsts are s (TooManyStates count) h (Err g) i =
    subst (λ fault. IsBuilt path symbols (Err fault)) (sym i)
    (h.0, too_many-states path symbols c are count (subst (λ l. HasMany (normal_of path) l count) s h.1))
passed path symbols c firsts are s OutOfMemory h (Err g) i = subst (λ fault. IsBuilt path symbols (Err fault)) (sym i) tt

pub returns-in_err-states-clause-built : goal.returns-in_err-states-clause-built
returns-in_err-states-clause-built c =
    passed c.args.path.now c.args.symbols.now c.in_ok-numbers.field-0 c.as_slice.result.now c.in_ok-numbers.ensures c.as_slice.ensures
    c.in_err-states.field-0.0 c.in_err-states.ensures c.from_residual-in_err-states.result c.from_residual-in_err-states.ensures.1

out_of_memory : (path : Path) (symbols : List Symbol) (r : Result AutomatonTables AutomatonFault) → IsErrAnd r (λ f. f ≡ OutOfMemory) → IsBuilt path symbols r
out_of_memory path symbols (Ok x) i = absurd i
out_of_memory path symbols (Err f) i = subst (λ fault. IsBuilt path symbols (Err fault)) (sym i) tt

pub returns-in_err-accepting-clause-built : goal.returns-in_err-accepting-clause-built
returns-in_err-accepting-clause-built c = out_of_memory c.args.path.now c.args.symbols.now c.from_residual-in_err-accepting.result c.from_residual-in_err-accepting.ensures.1

pub returns-in_err-living-clause-built : goal.returns-in_err-living-clause-built
returns-in_err-living-clause-built c = out_of_memory c.args.path.now c.args.symbols.now c.from_residual-in_err-living.result c.from_residual-in_err-living.ensures.1

pub living-requires : goal.living-requires
living-requires c =
    let classes : Classes = c.in_ok-numbers.field-0 in
    let e : Explored = c.in_ok-states.field-0 in
    let are : AreClasses c.args.path.now c.args.symbols.now classes = c.in_ok-numbers.ensures in
    let f : AreFound c.args.path.now classes e = found c.args.path.now classes c.as_slice.result.now e c.as_slice.ensures c.in_ok-states.ensures in
    let flags : c.as_slice-3.result.now ≡ map takes_empty e.states = c.as_slice-3.ensures ∙ c.in_ok-accepting.ensures in
    let r : AreInside c.as_slice-2.result.now (length c.as_slice-3.result.now) =
    subst (λ (rows : List (List ℕ)). AreInside rows (length c.as_slice-3.result.now)) (sym c.as_slice-2.ensures)
    (subst (λ (l : List Bool). AreInside e.rows (length l)) (sym flags) (inside c.args.path.now c.args.symbols.now classes are e.states e.rows f.0 f.1)) in
    r

pub invariant_of-result : goal.invariant_of-result
invariant_of-result c =
    let classes : Classes = c.in_ok-numbers.field-0 in let are : AreClasses c.args.path.now c.args.symbols.now classes = c.in_ok-numbers.ensures in
    let e : Explored = c.in_ok-states.field-0 in let flags : c.in_ok-accepting.accepting ≡ map takes_empty e.states = c.in_ok-accepting.ensures in
    let d : IsDone c.args.path.now classes e c.in_ok-living.living = done c.args.path.now classes c.as_slice.result.now e c.as_slice-2.result.now c.as_slice-3.result.now c.in_ok-accepting.accepting c.in_ok-living.living c.as_slice.ensures c.in_ok-states.ensures c.as_slice-2.ensures c.as_slice-3.ensures flags c.in_ok-living.ensures in
    subst (λ (l : List Bool). AreWhole e.rows classes.numbers l c.in_ok-living.living) (sym flags) (is-whole c.args.path.now c.args.symbols.now classes are e.states e.rows d.found.0 d.found.1 c.in_ok-living.living d.lives)

pub returns-clause-built : goal.returns-clause-built
returns-clause-built c =
    let classes : Classes = c.in_ok-numbers.field-0 in let are : AreClasses c.args.path.now c.args.symbols.now classes = c.in_ok-numbers.ensures in
    let e : Explored = c.in_ok-states.field-0 in let flags : c.in_ok-accepting.accepting ≡ map takes_empty e.states = c.in_ok-accepting.ensures in
    let d : IsDone c.args.path.now classes e c.in_ok-living.living = done c.args.path.now classes c.as_slice.result.now e c.as_slice-2.result.now c.as_slice-3.result.now c.in_ok-accepting.accepting c.in_ok-living.living c.as_slice.ensures c.in_ok-states.ensures c.as_slice-2.ensures c.as_slice-3.ensures flags c.in_ok-living.ensures in (
      e.states,
      subst (λ (l : List Bool). AreTablesOfPath c.args.path.now c.args.symbols.now (tables_of e.rows classes.numbers l c.in_ok-living.living) e.states) (sym flags)
          (tables-are c.args.path.now c.args.symbols.now classes are e.states e.rows d.found.0 d.found.1 c.in_ok-living.living d.lives),
      d.found.0.few,
    )

pub returns-clause-language : goal.returns-clause-language
returns-clause-language c =
    let classes : Classes = c.in_ok-numbers.field-0 in let are : AreClasses c.args.path.now c.args.symbols.now classes = c.in_ok-numbers.ensures in
    let e : Explored = c.in_ok-states.field-0 in let flags : c.in_ok-accepting.accepting ≡ map takes_empty e.states = c.in_ok-accepting.ensures in
    let d : IsDone c.args.path.now classes e c.in_ok-living.living = done c.args.path.now classes c.as_slice.result.now e c.as_slice-2.result.now c.as_slice-3.result.now c.in_ok-accepting.accepting c.in_ok-living.living c.as_slice.ensures c.in_ok-states.ensures c.as_slice-2.ensures c.as_slice-3.ensures flags c.in_ok-living.ensures in
    subst (λ (l : List Bool). HasNoFunctionUnderNot c.args.path.now → AcceptsWordsOf c.args.symbols.now c.args.path.now (tables_of e.rows classes.numbers l c.in_ok-living.living)) (sym flags)
    (is-automaton c.args.path.now c.args.symbols.now classes are e.states e.rows d.found.0 d.found.1 c.in_ok-living.living d.lives)
