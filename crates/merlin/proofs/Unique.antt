-- Words and told contents have one reading.
use Rattle.std.proofs.Common.{◌≡◌, ◌≤◌, ℕ, List, [], ◌∷◌, ◌++◌, length, sym, ◌∙◌, ap, subst, refl, inl, inr, arith, unwrap_or}
use Rattle.std.specs.Prelude.{Option, Some, None, codes, if◌then◌else◌}
use Rattle.std.specs.Str.{bytes_eq}
use Rattle.merlin_base.specs.Outside.{IsFile, IsLongerThan}
use Rattle.merlin_base.specs.Lexemes.{number_of}
use Rattle.merlin_model.specs.declared.policy.Objective.{Objective}
use Rattle.merlin_model.specs.declared.policy.Objective.TheVariants.{Shortest, Ratio, Reserved}
use Rattle.config_text.specs.Result.{objective_word}
use Rattle.merlin.specs.Compile.{CompileForm, IsCompileForm, IsBudget}
use Rattle.merlin.specs.Refine.{RefineForm, IsRefineForm}
use Rattle.merlin.specs.Refute.{RefuteForm, IsRefuteForm}
use Rattle.merlin.specs.Fair.{FairForm, IsFairForm}
use Rattle.merlin.specs.Fairness.{FairnessForm, IsFairnessForm}
use Rattle.merlin.specs.Commands.{CommandName, Compiling, Refining, Refuting, Dividing, Judging, command_meaning, Form, IsForm, files_of, NamesFurther, Tracing, Wiring, Unwiring, Delegating}
use Rattle.merlin.specs.Trace.{TraceForm, IsTraceForm}
use Rattle.merlin.specs.Wire.{WireForm, IsWireForm}
use Rattle.merlin.specs.Unwire.{UnwireForm, IsUnwireForm}
use Rattle.merlin.specs.Delegate.{DelegateForm, IsDelegateForm}
use Rattle.merlin.specs.Reading.{AreContents, IsFirstTooLong}
use Rattle.merlin.specs.Contents.{HasNamed, AreContentsOf, IsFirstTooLongOf}
use Rattle.merlin.proofs.NamedPolicies.{NamesPolicies-same}

unlike : {A : Type 0} (x y : ℕ) (xs ys : List ℕ) → x ∷ xs ≡ y ∷ ys → (x ≡ y → ⊥) → A
unlike x y xs ys e differ = absurd (differ cc)

head : {X : Type 0} {x y : X} {xs ys : List X} → x ∷ xs ≡ y ∷ ys → x ≡ y
head e = cc

-- a word is that of one objective
objective_word-same : (o o' : Objective) → objective_word o ≡ objective_word o' → o ≡ o'
objective_word-same Shortest Shortest e = refl
objective_word-same Ratio Ratio e = refl
objective_word-same Reserved Reserved e = refl
objective_word-same Shortest Ratio e = unlike _ _ _ _ e (λ h. omega (arith, h))
objective_word-same Shortest Reserved e = unlike _ _ _ _ e (λ h. omega (arith, h))
objective_word-same Ratio Shortest e = unlike _ _ _ _ e (λ h. omega (arith, h))
objective_word-same Ratio Reserved e = absurd (omega (arith, ap length e))
objective_word-same Reserved Shortest e = unlike _ _ _ _ e (λ h. omega (arith, h))
objective_word-same Reserved Ratio e = absurd (omega (arith, ap length e))

nothing_else : {X : Type 0} (x : X) → [] ≡ x ∷ [] → ⊥
nothing_else x e = cc

IsBudget-same : (rest : List (List ℕ)) (n m : ℕ) → IsBudget rest n → IsBudget rest m → n ≡ m
IsBudget-same rest n m (inl p) (inl q) = p.1 ∙ sym q.1
IsBudget-same rest n m (inl p) (inr q) = absurd (nothing_else q.0 (sym p.0 ∙ q.1))
IsBudget-same rest n m (inr p) (inl q) = absurd (nothing_else p.0 (sym q.0 ∙ p.1))
IsBudget-same rest n m (inr p) (inr q) = let text : p.0 ≡ q.0 = head (sym p.1 ∙ q.1) in p.2.value ∙ ap number_of text ∙ sym q.2.value

IsCompileForm-same : (words : List (List ℕ)) (f g : CompileForm) → IsCompileForm words f
    → IsCompileForm words g → f ≡ g
IsCompileForm-same words f g (rest, e, budget) (rest', e', budget') =
    let policy : f.policy ≡ g.policy = cc in
    let topology : f.topology ≡ g.topology = cc in
    let word : objective_word f.objective ≡ objective_word g.objective = cc in
    let left : rest' ≡ rest = cc in
    let objective : f.objective ≡ g.objective = objective_word-same f.objective g.objective word in
    let number : f.budget ≡ g.budget = IsBudget-same rest f.budget g.budget budget (subst (λ r. IsBudget r g.budget) left budget') in
    λ i. record { policy = policy i; topology = topology i; objective = objective i; budget = number i }

IsRefineForm-same : (words : List (List ℕ)) (f g : RefineForm) → IsRefineForm words f
    → IsRefineForm words g → f ≡ g
IsRefineForm-same words f g e e' =
    let parent : f.parent ≡ g.parent = cc in
    let child : f.child ≡ g.child = cc in
    let topology : f.topology ≡ g.topology = cc in
    λ i. record { parent = parent i; child = child i; topology = topology i }

IsRefuteForm-same : (words : List (List ℕ)) (f g : RefuteForm) → IsRefuteForm words f
    → IsRefuteForm words g → f ≡ g
IsRefuteForm-same words f g e e' =
    let program : f.program ≡ g.program = cc in
    let tree : f.tree ≡ g.tree = cc in
    λ i. record { program = program i; tree = tree i }

IsFairForm-same : (words : List (List ℕ)) (f g : FairForm) → IsFairForm words f
    → IsFairForm words g → f ≡ g
IsFairForm-same words f g e e' =
    let demands : f.demands ≡ g.demands = cc in
    λ i. record { demands = demands i }

IsFairnessForm-same : (words : List (List ℕ)) (f g : FairnessForm) → IsFairnessForm words f
    → IsFairnessForm words g → f ≡ g
IsFairnessForm-same words f g e e' =
    let demands : f.demands ≡ g.demands = cc in
    let shares : f.shares ≡ g.shares = cc in
    λ i. record { demands = demands i; shares = shares i }

IsTraceForm-same : (words : List (List ℕ)) (f g : TraceForm) → IsTraceForm words f
    → IsTraceForm words g → f ≡ g
IsTraceForm-same words f g e e' =
    let topology : f.topology ≡ g.topology = cc in
    let result : f.result ≡ g.result = cc in
    let host : f.host ≡ g.host = cc in
    let packet : f.packet ≡ g.packet = cc in
    λ i. record { topology = topology i; result = result i; host = host i; packet = packet i }

IsWireForm-same : (words : List (List ℕ)) (f g : WireForm) → IsWireForm words f
    → IsWireForm words g → f ≡ g
IsWireForm-same words f g e e' =
    let topology : f.topology ≡ g.topology = cc in
    let result : f.result ≡ g.result = cc in
    let switch : f.switch ≡ g.switch = cc in
    λ i. record { topology = topology i; result = result i; switch = switch i }

IsUnwireForm-same : (words : List (List ℕ)) (f g : UnwireForm) → IsUnwireForm words f
    → IsUnwireForm words g → f ≡ g
IsUnwireForm-same words f g e e' =
    let topology : f.topology ≡ g.topology = cc in
    let switch : f.switch ≡ g.switch = cc in
    let messages : f.messages ≡ g.messages = cc in
    λ i. record { topology = topology i; switch = switch i; messages = messages i }

IsDelegateForm-same : (words : List (List ℕ)) (f g : DelegateForm) → IsDelegateForm words f
    → IsDelegateForm words g → f ≡ g
IsDelegateForm-same words f g e e' =
    let tree : f.tree ≡ g.tree = cc in
    let topology : f.topology ≡ g.topology = cc in
    λ i. record { tree = tree i; topology = topology i }

request_same : (name : CommandName) (words : List (List ℕ)) (f g : (command_meaning name).Request)
    → (command_meaning name).IsRequest words f → (command_meaning name).IsRequest words g → f ≡ g
request_same Compiling = IsCompileForm-same
request_same Refining = IsRefineForm-same
request_same Refuting = IsRefuteForm-same
request_same Dividing = IsFairForm-same
request_same Judging = IsFairnessForm-same
request_same Tracing = IsTraceForm-same
request_same Wiring = IsWireForm-same
request_same Unwiring = IsUnwireForm-same
request_same Delegating = IsDelegateForm-same

-- The words are one form: each command begins with its own word.

abbrev name_of_word : List ℕ → Option CommandName
name_of_word word =
    if bytes_eq word (codes "compile") then Some Compiling else
    if bytes_eq word (codes "refine") then Some Refining else
    if bytes_eq word (codes "refute") then Some Refuting else
    if bytes_eq word (codes "fair") then Some Dividing else
    if bytes_eq word (codes "fairness") then Some Judging else
    if bytes_eq word (codes "trace") then Some Tracing else
    if bytes_eq word (codes "wire") then Some Wiring else
    if bytes_eq word (codes "unwire") then Some Unwiring else
    if bytes_eq word (codes "delegate") then Some Delegating else None

name_of_its_word : (name : CommandName) → name_of_word (command_meaning name).word ≡ Some name
name_of_its_word Compiling = refl
name_of_its_word Refining = refl
name_of_its_word Refuting = refl
name_of_its_word Dividing = refl
name_of_its_word Judging = refl
name_of_its_word Tracing = refl
name_of_its_word Wiring = refl
name_of_its_word Unwiring = refl
name_of_its_word Delegating = refl

begins : (name : CommandName) (words : List (List ℕ)) (request : (command_meaning name).Request)
    → (command_meaning name).IsRequest words request
    → (rest : List (List ℕ)) × (words ≡ (command_meaning name).word ∷ rest)
begins Compiling words request (rest, e, budget) = (_, e)
begins Refining words request e = (_, e)
begins Refuting words request e = (_, e)
begins Dividing words request e = (_, e)
begins Judging words request e = (_, e)
begins Tracing words request e = (_, e)
begins Wiring words request e = (_, e)
begins Unwiring words request e = (_, e)
begins Delegating words request e = (_, e)

Some-inj : {X : Type 0} {x y : X} → Some x ≡ Some y → x ≡ y
Some-inj {x = x} e = ap (λ o. unwrap_or o x) e

name_same : (words : List (List ℕ)) (f g : Form) → IsForm words f → IsForm words g → f.name ≡ g.name
name_same words f g is is' =
    let front = begins f.name words f.request is in
    let front' = begins g.name words g.request is' in
    let word : (command_meaning f.name).word ≡ (command_meaning g.name).word = head (sym front.1 ∙ front'.1) in
    Some-inj (sym (name_of_its_word f.name) ∙ ap name_of_word word ∙ name_of_its_word g.name)

pub IsForm-same : (words : List (List ℕ)) (f g : Form) → IsForm words f → IsForm words g → f ≡ g
IsForm-same words f g is is' = subst (λ name. (request : (command_meaning name).Request)
    → (command_meaning name).IsRequest words request → f ≡ record { name = name; request = request }) (name_same words f g is is')
    (λ request asked. ap (λ r. record { name = f.name; request = r }) (request_same f.name words f.request request is asked))
    g.request is'

IsFile-same : (known : List ℕ → Option (List ℕ)) (name xs ys : List ℕ) → IsFile (Some known) name xs
    → IsFile (Some known) name ys → xs ≡ ys
IsFile-same known name xs ys p q = cc

IsFile-longer : (known : List ℕ → Option (List ℕ)) (name xs : List ℕ) (limit : ℕ)
    → IsFile (Some known) name xs → length xs ≤ limit → IsLongerThan (Some known) name limit → ⊥
IsFile-longer known name xs limit p few (ys, q, many) = let same : xs ≡ ys = cc in omega (arith, ap length same)

AreContents-same : (known : List ℕ → Option (List ℕ)) (files : List (List ℕ
    × ℕ)) (xs ys : List (List ℕ)) → AreContents (Some known) files xs
    → AreContents (Some known) files ys → xs ≡ ys
AreContents-same known [] [] [] p q = refl
AreContents-same known [] [] (y ∷ ys) p q = absurd q
AreContents-same known [] (x ∷ xs) ys p q = absurd p
AreContents-same known (f ∷ files) [] ys p q = absurd p
AreContents-same known (f ∷ files) (x ∷ xs) [] p q = absurd q
AreContents-same known (f ∷ files) (x ∷ xs) (y ∷ ys) p q =
    let one : x ≡ y = IsFile-same known f.0 x y p.0 q.0 in
    let more : xs ≡ ys = AreContents-same known files xs ys p.2 q.2 in
    λ i. one i ∷ more i

-- where each file is within its limit none is too long
AreContents-short : (known : List ℕ → Option (List ℕ)) (files : List (List ℕ
    × ℕ)) (xs : List (List ℕ)) (name : List ℕ) → AreContents (Some known) files xs
    → IsFirstTooLong (Some known) files name → ⊥
AreContents-short known [] xs name p long = long
AreContents-short known (f ∷ files) [] name p long = p
AreContents-short known (f ∷ files) (x ∷ xs) name p (inl long) = IsFile-longer known f.0 x f.1 p.0 p.1 long.1
AreContents-short known (f ∷ files) (x ∷ xs) name p (inr (text, file, fits, more)) = AreContents-short known files xs name p.2 more

-- The same of all files of a command.

further_same : (form : Form) (first : List (List ℕ)) (more other : List (List ℕ × ℕ)) → NamesFurther form first more
    → NamesFurther form first other → more ≡ other
further_same form first more other = by form.name form.request
  where
    by : (name : CommandName) (request : (command_meaning name).Request) → (command_meaning name).NamesFiles request first more
        → (command_meaning name).NamesFiles request first other → more ≡ other
    by Compiling request p q = p ∙ sym q
    by Refining request p q = p ∙ sym q
    by Refuting request p q = p ∙ sym q
    by Dividing request p q = p ∙ sym q
    by Judging request p q = p ∙ sym q
    by Tracing request p q = p ∙ sym q
    by Wiring request p q = p ∙ sym q
    by Unwiring request p q = p ∙ sym q
    by Delegating request p q = NamesPolicies-same first more other p q

module _ (known : List ℕ → Option (List ℕ)) (form : Form) where
  record AreOne (first : List (List ℕ)) (more : List (List ℕ × ℕ)) (first' : List (List ℕ)) (more' : List (List ℕ × ℕ)) : Type 0 where
    contents : first' ≡ first
    files : more' ≡ more

  -- the files of the words hold one thing, and name one list of further files
  named_same : (first first' : List (List ℕ)) (more more' : List (List ℕ × ℕ)) → HasNamed (Some known) form first more
      → HasNamed (Some known) form first' more' → AreOne first more first' more'
  named_same first first' more more' p q =
      let one : first' ≡ first = AreContents-same known (files_of form) first' first q.are_contents p.are_contents in
      record { contents = one; files = further_same form first more' more (subst (λ c. NamesFurther form c more') one q.names) p.names }

  pub AreContentsOf-same : (xs ys : List (List ℕ)) → AreContentsOf (Some known) form xs → AreContentsOf (Some known) form ys → ys ≡ xs
  AreContentsOf-same xs ys p q =
      let one = named_same p.first q.first p.more q.more p.named q.named in
      let rest : q.further ≡ p.further = AreContents-same known p.more q.further p.further (subst (λ files. AreContents (Some known) files q.further) one.files q.are_further) p.are_further in
      q.whole ∙ (λ i. one.contents i ++ rest i) ∙ sym p.whole

  pub AreContentsOf-short : (xs : List (List ℕ)) (name : List ℕ) → AreContentsOf (Some known) form xs → IsFirstTooLongOf (Some known) form name → ⊥
  AreContentsOf-short xs name p (inl long) = AreContents-short known (files_of form) p.first name p.named.are_contents long
  AreContentsOf-short xs name p (inr long) =
      let one = named_same p.first long.first p.more long.more p.named long.named in
      AreContents-short known p.more p.further name p.are_further (subst (λ files. IsFirstTooLong (Some known) files name) one.files long.is_so)
