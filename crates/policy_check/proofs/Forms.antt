-- Paths of one normal form have one automaton, and an automaton for each path stays so as paths are added.
use Rattle.std.proofs.Common.{◌≡◌, ◌<◌, ℕ, zero, suc, true, List, [], ◌∷◌, ◌++◌, length, take, get_or, position, IfOk, OnOk, Some, Result, Ok, Err, slice_get, refl, sym, ◌∙◌, ap, subst}
use Rattle.std.specs.List.{AllByRecursion, AllZip, flat_map}
use Rattle.std.specs.Ordering.{is_eq}
use Rattle.std.specs.declared.cmp.Ordering.{Ordering}
use Rattle.std.specs.declared.cmp.Ordering.TheVariants.{Less, Equal, Greater}
use Rattle.std.proofs.lemmas.Option.{slice_get-get_or, slice_get_read}
use Rattle.std.proofs.lemmas.List.Quantifiers.{position-Some}
use Rattle.merlin_model.specs.declared.policy.Path.{Path}
use Rattle.merlin_model.specs.declared.policy.Symbol.{Symbol}
use Rattle.path_regex.specs.Order.{order}
use Rattle.path_regex.specs.Normal.{normal_of}
use Rattle.path_regex.specs.States.{rest_after}
use Rattle.path_regex.specs.Functions.{HasNoFunctionUnderNot}
use Rattle.path_regex.specs.Languages.{TakesSameWords}
use Rattle.path_regex.proofs.Ascending.{equal-same}
use Rattle.path_regex.proofs.Normality.{normal_form}
use Rattle.path_automaton.specs.States.{IsMadeOf, AreStates, HasStates, with_all_new, followers}
use Rattle.path_automaton.specs.Automata.{AutomatonTables, AreTablesOfPath}
use Rattle.path_automaton.specs.Built.{IsBuilt}
use Rattle.path_automaton.specs.declared.fault.AutomatonFault.{AutomatonFault}
use Rattle.path_automaton.specs.declared.fault.AutomatonFault.TheVariants.{TooManyStates, OutOfMemory}
use Rattle.policy_check.specs.Rules.{HasFewStates}
use Rattle.policy_check.specs.declared.automata.Automata.{Automata}
use Rattle.policy_check.specs.Sharing.{IsTableOf, ShareAutomata, IsNumberFor, IsFaultOfPath, IsLargeAmong}
use Rattle.policy_check.specs.declared.fault.CheckFault.{CheckFault}
use Rattle.policy_check.specs.declared.fault.CheckFault.TheVariants as fault

module _ (symbols : List Symbol) (a b : Path) (same : normal_of a ≡ normal_of b) where
  states-same : (forms : List Path) → AreStates a symbols forms → AreStates b symbols forms
  states-same forms s = record {
    in_order = s.in_order ∙ ap (λ n. with_all_new (n ∷ []) (flat_map (followers symbols) forms)) same;
    reached = subst (λ n. AllByRecursion (λ form. (w : List Symbol) × IsMadeOf symbols w × (form ≡ rest_after n w)) forms) same s.reached;
  }

  tables-same : (t : AutomatonTables) (forms : List Path) → AreTablesOfPath a symbols t forms → AreTablesOfPath b symbols t forms
  tables-same t forms s = record {
    states = states-same forms s.states;
    count = s.count;
    width = s.width;
    next = s.next;
    accepting = s.accepting;
    living = s.living;
  }

  pub built-same : (r : Result AutomatonTables AutomatonFault) → IsBuilt a symbols r → IsBuilt b symbols r
  built-same (Ok t) h = (h.0, tables-same t h.0 h.1, h.2)
  built-same (Err (TooManyStates count)) h = (
    h.0,
    record {
      forms = h.1.forms;
      reached = subst (λ n. AllByRecursion (λ form. (w : List Symbol) × IsMadeOf symbols w × (form ≡ rest_after n w)) h.1.forms) same h.1.reached;
      different = h.1.different;
      many = h.1.many;
    },
  )
  built-same (Err OutOfMemory) h = tt

-- the automaton of the normal form is one of the path
pub table-same : (symbols : List Symbol) (path form : Path) (table : AutomatonTables) → form ≡ normal_of path → normal_of form ≡ form → (HasNoFunctionUnderNot path → HasNoFunctionUnderNot form) → (HasNoFunctionUnderNot path → TakesSameWords path form) →
    IsTableOf symbols form table → IsTableOf symbols path table
table-same symbols path form table is own under words h = (
  built-same symbols form path (own ∙ is) (Ok table) h.0,
  λ free ks w spelled.
      let there = h.1 (under free) ks w spelled in
      let same = words free w in
      ((λ e. same.0 (there.0 e)), (λ l. there.1 (same.1 l))),
)

-- a form that is found is the form that is looked for
is_eq-Equal : (o : Ordering) → is_eq o ≡ true → o ≡ Equal
is_eq-Equal Less e = cc
is_eq-Equal Equal e = refl
is_eq-Equal Greater e = cc

found-first : (forms : List Path) (form : Path) (n : ℕ) → position (λ other. is_eq (order other form)) forms ≡ Some n → slice_get forms n ≡ Some form
found-first forms form n e =
    let first = position-Some (λ other. is_eq (order other form)) forms n form e in
    slice_get-get_or forms n form first.0 ∙ ap (λ (p : Path). Some p) ((equal-same (get_or forms n form) form).0 (is_eq-Equal (order (get_or forms n form) form) first.1))

pub found-form : (seen forms : List Path) (form : Path) (n : ℕ) → seen ≡ forms → Some n ≡ position (λ other. is_eq (order other form)) seen → slice_get forms n ≡ Some form
found-form seen forms form n all e = found-first forms form n (subst (λ l. position (λ other. is_eq (order other form)) l ≡ Some n) all (sym e))

-- Lists side by side.

pub zip-push : {A B : Type 0} (R : A → B → Type 0) (xs : List A) (ys : List B) (x : A) (y : B) → AllZip R xs ys → R x y → AllZip R (xs ++ x ∷ []) (ys ++ y ∷ [])
zip-push R [] [] x y z r = (r, tt)
zip-push R [] (b ∷ ys) x y z r = absurd z
zip-push R (a ∷ xs) [] x y z r = absurd z
zip-push R (a ∷ xs) (b ∷ ys) x y z r = (z.0, zip-push R xs ys x y z.1 r)

pub zip-weaker : {A B : Type 0} (R S : A → B → Type 0) (xs : List A) (ys : List B) → ((x : A) (y : B) → R x y → S x y) → AllZip R xs ys → AllZip S xs ys
zip-weaker R S [] [] f z = tt
zip-weaker R S [] (b ∷ ys) f z = absurd z
zip-weaker R S (a ∷ xs) [] f z = absurd z
zip-weaker R S (a ∷ xs) (b ∷ ys) f z = (f a b z.0, zip-weaker R S xs ys f z.1)

pub zip-long : {A B : Type 0} (R : A → B → Type 0) (xs : List A) (ys : List B) → AllZip R xs ys → length xs ≡ length ys
zip-long R [] [] z = refl
zip-long R [] (b ∷ ys) z = absurd z
zip-long R (a ∷ xs) [] z = absurd z
zip-long R (a ∷ xs) (b ∷ ys) z = ap suc (zip-long R xs ys z.1)

-- what stands beside an element
pub zip-at : {A B : Type 0} (R : A → B → Type 0) (xs : List A) (ys : List B) (i : ℕ) (x : A) → AllZip R xs ys → slice_get xs i ≡ Some x → (y : B) × (slice_get ys i ≡ Some y) × R x y
zip-at R [] [] i x z e = cc
zip-at R [] (b ∷ ys) i x z e = absurd z
zip-at R (a ∷ xs) [] i x z e = absurd z
zip-at {A} {B} R (a ∷ xs) (b ∷ ys) zero x z e = let same : a ≡ x = cc in (b, refl, subst (λ (c : A). R c b) same z.0)
zip-at R (a ∷ xs) (b ∷ ys) (suc i) x z e = zip-at R xs ys i x z.1 e

pub get-more : {X : Type 0} (xs : List X) (x y : X) (i : ℕ) → slice_get xs i ≡ Some y → slice_get (xs ++ x ∷ []) i ≡ Some y
get-more [] x y i e = cc
get-more (z ∷ xs) x y zero e = e
get-more (z ∷ xs) x y (suc i) e = get-more xs x y i e

pub get-last : {X : Type 0} (xs : List X) (x : X) → slice_get (xs ++ x ∷ []) (length xs) ≡ Some x
get-last [] x = refl
get-last (z ∷ xs) x = get-last xs x

-- One path more: its form is there, or it is new.

module _ (symbols : List Symbol) (paths : List Path) (path form : Path) (is : form ≡ normal_of path) (old : Automata) (shared : ShareAutomata symbols paths old) where
  pub known-form : (n : ℕ) → slice_get old.forms n ≡ Some form → ShareAutomata symbols (paths ++ path ∷ []) (record { forms = old.forms; built = old.built; numbers = old.numbers ++ n ∷ [] })
  known-form n at = record {
    tables = shared.tables;
    numbers = zip-push (λ p k. slice_get old.forms k ≡ Some (normal_of p)) paths old.numbers path n shared.numbers (at ∙ ap (λ (p : Path). Some p) is);
  }

  pub new-form : (table : AutomatonTables) → IsTableOf symbols form table → ShareAutomata symbols (paths ++ path ∷ []) (record { forms = old.forms ++ form ∷ []; built = old.built ++ table ∷ []; numbers = old.numbers ++ length old.forms ∷ [] })
  new-form table h = record {
    tables = zip-push (IsTableOf symbols) old.forms old.built form table shared.tables h;
    numbers = zip-push (λ p k. slice_get (old.forms ++ form ∷ []) k ≡ Some (normal_of p)) paths old.numbers path (length old.forms)
        (zip-weaker (λ p k. slice_get old.forms k ≡ Some (normal_of p)) (λ p k. slice_get (old.forms ++ form ∷ []) k ≡ Some (normal_of p)) paths old.numbers (λ p k e. get-more old.forms form (normal_of p) k e) shared.numbers)
        (get-last old.forms form ∙ ap (λ (p : Path). Some p) is);
  }

-- each path has its states within the limit
pub shared-few : (symbols : List Symbol) (paths : List Path) (forms : List Path) (built : List AutomatonTables) (numbers : List ℕ) → AllZip (IsTableOf symbols) forms built → ((p : Path) → normal_of (normal_of p) ≡ normal_of p) →
    AllZip (λ p n. slice_get forms n ≡ Some (normal_of p)) paths numbers → AllByRecursion (HasFewStates symbols) paths
shared-few symbols [] forms built [] tables own z = tt
shared-few symbols [] forms built (n ∷ numbers) tables own z = absurd z
shared-few symbols (p ∷ paths) forms built [] tables own z = absurd z
shared-few symbols (p ∷ paths) forms built (n ∷ numbers) tables own z =
    let beside = zip-at (IsTableOf symbols) forms built n (normal_of p) tables z.0 in
    let table = built-same symbols (normal_of p) p (own p) (Ok beside.0) beside.2.0 in
    (record { forms = table.0; states = table.1.states; few = table.2 }, shared-few symbols paths forms built numbers tables own z.1)

pub paths-few : (symbols : List Symbol) (paths : List Path) (automata : Automata) → ShareAutomata symbols paths automata → AllByRecursion (HasFewStates symbols) paths
paths-few symbols paths automata shared = shared-few symbols paths automata.forms automata.built automata.numbers shared.tables normal_form shared.numbers

-- what is answered where a form is added
pub added-form : (symbols : List Symbol) (form : Path) (old new : Automata) (r : Result ℕ AutomatonFault) → IfOk r (λ n. n ≡ length old.forms) → OnOk r (new.forms ≡ old.forms ++ form ∷ []) → OnOk r (new.numbers ≡ old.numbers) →
    OnOk r ((table : AutomatonTables) × IsTableOf symbols form table × (new.built ≡ old.built ++ table ∷ [])) → IfOk r (IsNumberFor symbols form old new)
added-form symbols form old new (Ok n) number forms numbers built = λ paths path is shared.
    subst (ShareAutomata symbols (paths ++ path ∷ [])) (λ k. record { forms = sym forms k; built = sym built.2 k; numbers = sym numbers k ++ sym number k ∷ [] }) (new-form symbols paths path form is old shared built.0 built.1)
added-form symbols form old new (Err fault) number forms numbers built = tt

-- The path at this place is the first that has too many states.
pub large-at : (ids : List (List ℕ)) (symbols : List Symbol) (paths : List Path) (place : ℕ) (path : Path) (automata : Automata) (fault : AutomatonFault) (result : CheckFault) → place < length paths → path ≡ get_or paths place path →
    ShareAutomata symbols (take place paths) automata → IsBuilt path symbols (Err fault) → IsFaultOfPath ids place fault result → IsLargeAmong ids symbols paths result
large-at ids symbols paths place path automata (TooManyStates many) (fault.TooManyStates id count) within is shared h at = (
  place,
  at.0,
  record {
    path = path;
    has = slice_get_read paths (length paths) place path refl within is;
    before = paths-few symbols (take place paths) automata shared;
    count_is = at.1 ∙ h.0;
    many = subst (HasStates path symbols) (sym at.1) h.1;
  },
)
large-at ids symbols paths place path automata OutOfMemory (fault.TooManyStates id count) within is shared h at = absurd at
large-at ids symbols paths place path automata f fault.OutOfMemory within is shared h at = tt
large-at ids symbols paths place path automata (TooManyStates many) (fault.UnknownName name) within is shared h at = absurd at
large-at ids symbols paths place path automata OutOfMemory (fault.UnknownName name) within is shared h at = absurd at
large-at ids symbols paths place path automata (TooManyStates many) (fault.FunctionUnderNot name) within is shared h at = absurd at
large-at ids symbols paths place path automata OutOfMemory (fault.FunctionUnderNot name) within is shared h at = absurd at
large-at ids symbols paths place path automata (TooManyStates many) (fault.TooManyClasses count) within is shared h at = absurd at
large-at ids symbols paths place path automata OutOfMemory (fault.TooManyClasses count) within is shared h at = absurd at
large-at ids symbols paths place path automata (TooManyStates many) (fault.Overlap first second packet) within is shared h at = absurd at
large-at ids symbols paths place path automata OutOfMemory (fault.Overlap first second packet) within is shared h at = absurd at
large-at ids symbols paths place path automata (TooManyStates many) (fault.NotTotal packet) within is shared h at = absurd at
large-at ids symbols paths place path automata OutOfMemory (fault.NotTotal packet) within is shared h at = absurd at
large-at ids symbols paths place path automata (TooManyStates many) (fault.Rate rate) within is shared h at = absurd at
large-at ids symbols paths place path automata OutOfMemory (fault.Rate rate) within is shared h at = absurd at
