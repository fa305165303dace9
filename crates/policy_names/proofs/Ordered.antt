-- The faults of some paths, path by path.
use Rattle.std.proofs.Common.{◌≡◌, ◌+◌, ◌<◌, ℕ, false, List, [], ◌∷◌, ◌++◌, length, take, drop, get_or, map, Option, refl, sym, ◌∙◌, ap, subst, append_assoc, append-nil}
use Rattle.std.specs.List.{flat_map}
use Rattle.std.proofs.lemmas.List.{map-append, take-append-drop}
use Rattle.merlin_model.specs.declared.policy.Path.{Path}
use Rattle.policy_grammar.specs.declared.written.RawPath.{RawPath}
use Rattle.policy_grammar.specs.NumberedPaths.{numbered}
use Rattle.policy_names.specs.declared.fault.NameFault.{NameFault}
use Rattle.policy_names.specs.declared.fault.NameFault.TheVariants.{UnknownName, FunctionUnderNot, OutOfMemory}
use Rattle.std.specs.Option.{option_to_list}
use Rattle.policy_expansion.specs.declared.policy.Policy.{Policy}
use Rattle.policy_expansion.specs.declared.policy.Statement.{Statement}
use Rattle.policy_names.specs.Names.{faulty_in, fault_of_name, name_faults, raw_paths, IsFirstFault}
use Rattle.policy_names.proofs.Shapes.{here, first_of_append}

flat_map-append : {X Y : Type 0} (g : X → List Y) (xs ys : List X) → flat_map g (xs ++ ys) ≡ flat_map g xs ++ flat_map g ys
flat_map-append g [] ys = refl
flat_map-append g (x ∷ xs) ys = ap (λ l. g x ++ l) (flat_map-append g xs ys) ∙ sym (append_assoc (g x) (flat_map g xs) (flat_map g ys))

pub faults-append : (known : List ℕ → Option Path) (front back : List RawPath) → name_faults known (front ++ back) ≡ name_faults known front ++ name_faults known back
faults-append known front back = ap (map (fault_of_name known)) (flat_map-append (faulty_in known false) front back) ∙ map-append (fault_of_name known) (flat_map (faulty_in known false) front) (flat_map (faulty_in known false) back)

first_with_more : (all more : List NameFault) (fault : NameFault) → IsFirstFault all fault → IsFirstFault (all ++ more) fault
first_with_more all more (UnknownName name) h = first_of_append all more (UnknownName name) h
first_with_more all more (FunctionUnderNot name) h = first_of_append all more (FunctionUnderNot name) h
first_with_more all more OutOfMemory h = h

-- the first fault is that of the path here, where those before have none
pub first_here : (known : List ℕ → Option Path) (front back rest : List RawPath) (fault : NameFault) → name_faults known front ≡ [] → IsFirstFault (name_faults known back) fault → IsFirstFault (name_faults known (front ++ (back ++ rest))) fault
first_here known front back rest fault clear first =
    subst (λ (all : List NameFault). IsFirstFault all fault)
    (sym (faults-append known front (back ++ rest) ∙ (ap (λ l. l ++ name_faults known (back ++ rest)) clear ∙ faults-append known back rest)))
    (first_with_more (name_faults known back) (name_faults known rest) fault first)

-- paths that have no fault, one after another
pub clear_both : (known : List ℕ → Option Path) (front back : List RawPath) → name_faults known front ≡ [] → name_faults known back ≡ [] → name_faults known (front ++ back) ≡ []
clear_both known front back one other = faults-append known front back ∙ (λ k. one k ++ other k)

-- what some things map to: those before a place, that one, and those after
pub mapped_at : {X Y : Type 0} (f : X → Y) (xs : List X) (i : ℕ) (x : X) → i < length xs → x ≡ get_or xs i x → map f (take i xs) ++ (f x ∷ map f (drop (i + 1) xs)) ≡ map f xs
mapped_at f xs i x within is =
    ap (λ l. map f (take i xs) ++ l) (sym (here (map f) xs i x within is))
    ∙ (sym (map-append f (take i xs) (drop i xs)) ∙ ap (map f) (take-append-drop i xs))

-- The paths of a policy, with a table that gives names their meaning.
module _ (policy : Policy) (known own : List ℕ → Option Path) (same : (name : List ℕ) → own name ≡ known name) (items : List Statement) (all : items ≡ policy.statements) where
  agree : own ≡ known
  agree = λ k name. same name k

  whole : map (λ s. s.path) items ++ option_to_list policy.default_path ≡ raw_paths policy
  whole = ap (λ (statements : List Statement). map (λ s. s.path) statements ++ option_to_list policy.default_path) all

  pub refused_at : (i : ℕ) (s : Statement) → i < length items → s ≡ get_or items i s → name_faults own (map (λ t. t.path) (take i items)) ≡ [] → (fault : NameFault) → IsFirstFault (name_faults own (s.path ∷ [])) fault → IsFirstFault (name_faults known (raw_paths policy)) fault
  refused_at i s within is clear fault first =
      let front = map (λ (t : Statement). t.path) (take i items) in
      let behind = map (λ (t : Statement). t.path) (drop (i + 1) items) in
      let default = option_to_list policy.default_path in
      let here = first_here own front (s.path ∷ []) (behind ++ default) fault clear first in
      let paths : front ++ (s.path ∷ (behind ++ default)) ≡ raw_paths policy =
      sym (append_assoc front (s.path ∷ behind) default) ∙ (ap (λ (l : List RawPath). l ++ default) (mapped_at (λ (t : Statement). t.path) items i s within is) ∙ whole) in
      subst (λ (f : List ℕ → Option Path). IsFirstFault (name_faults f (raw_paths policy)) fault) agree
      (subst (λ (l : List RawPath). IsFirstFault (name_faults own l) fault) paths here)

  pub refused_default : name_faults own (map (λ t. t.path) items) ≡ [] → (fault : NameFault) → IsFirstFault (name_faults own (option_to_list policy.default_path)) fault → IsFirstFault (name_faults known (raw_paths policy)) fault
  refused_default clear fault first =
      let here = first_here own (map (λ (t : Statement). t.path) items) (option_to_list policy.default_path) [] fault clear first in
      let paths : map (λ (t : Statement). t.path) items ++ (option_to_list policy.default_path ++ []) ≡ raw_paths policy = ap (λ (l : List RawPath). map (λ (t : Statement). t.path) items ++ l) (append-nil (option_to_list policy.default_path)) ∙ whole in
      subst (λ (f : List ℕ → Option Path). IsFirstFault (name_faults f (raw_paths policy)) fault) agree
      (subst (λ (l : List RawPath). IsFirstFault (name_faults own l) fault) paths here)

  pub numbered_all : (paths : List Path) → name_faults own (map (λ t. t.path) items) ≡ [] → name_faults own (option_to_list policy.default_path) ≡ []
      → paths ≡ map (numbered own) (map (λ t. t.path) items) ++ map (numbered own) (option_to_list policy.default_path)
      → (name_faults known (raw_paths policy) ≡ []) × (paths ≡ map (numbered known) (raw_paths policy))
  numbered_all paths one other are = (
    (λ k. name_faults (sym agree k) (sym whole k)) ∙ clear_both own (map (λ (t : Statement). t.path) items) (option_to_list policy.default_path) one other,
    are ∙ (sym (map-append (numbered own) (map (λ (t : Statement). t.path) items) (option_to_list policy.default_path)) ∙ (λ k. map (numbered (agree k)) (whole k))),
  )
