-- What the table of names holds as it is filled.
use Rattle.std.proofs.Common.{◌≡◌, ◌+◌, ◌<◌, ℕ, zero, suc, Bool, true, false, cond, List, [], ◌∷◌, ◌++◌, length, take, get_or, map, Option, None, Some, is_some, slice_get, refl, sym, ◌∙◌, ap, arith, length-take}
use Rattle.std.specs.Prelude.{find, bytes_eq}
use Rattle.std.specs.List.{enumerate_from}
use Rattle.std.specs.Option.{option_map, option_or}
use Rattle.std.specs.Ordering.{nat_cmp}
use Rattle.std.specs.Cmp.Lexicographic.{slice_cmp}
use Rattle.std.specs.BTreeMap as tree
use Rattle.std.specs.BTreeMap.{BTreeMap, is_at}
use Rattle.std.specs.Map.{lookup}
use Rattle.std.proofs.lemmas.List.{take_more}
use Rattle.std.proofs.lemmas.List.Folds.{find-append}
use Rattle.std.proofs.lemmas.Map.Text.{btree_map_updates_str}
use Rattle.std.proofs.lemmas.Slice.Eq.{bytes_eq-Decides}
use Rattle.merlin_model.specs.declared.network.Location.{Location as Place}
use Rattle.merlin_model.specs.declared.network.FnDecl.{FnDecl}
use Rattle.merlin_model.specs.declared.policy.Path.{Path, Loc, Fun}
use Rattle.merlin_model.specs.Networks.{Network}
use Rattle.policy_names.specs.declared.names.Meaning.{Meaning}
use Rattle.policy_names.specs.declared.names.Meaning.TheVariants.{Location, Function}
use Rattle.policy_names.specs.Meanings.{meaning_held, path_to, location_called, function_called}
use Rattle.policy_names.specs.Names.{meaning_of}
use denote.Ref.{Bor}

-- a name that has no meaning yet gets one
pub added_new : (old new : BTreeMap (Bor (List ℕ)) Meaning) (name : List ℕ) (meaning : Meaning) → is_some (meaning_held old name) ≡ false
    → tree.UpdatesBy (λ a b. slice_cmp nat_cmp a.now b.now) (λ other. slice_cmp nat_cmp name other.now) old new (Some meaning)
    → (other : List ℕ) → meaning_held new other ≡ option_or (meaning_held old other) (cond (bytes_eq name other) (Some meaning) None)
added_new old new name meaning absent updates other = btree_map_updates_str name old new (Some meaning) updates other ∙ by (bytes_eq name other) refl
  where
    none : (o : Option Meaning) → is_some o ≡ false → o ≡ None
    none None e = refl
    none (Some m) e = cc

    kept : (o : Option Meaning) → o ≡ option_or o None
    kept None = refl
    kept (Some m) = refl

    by : (b : Bool) → bytes_eq name other ≡ b → cond b (Some meaning) (meaning_held old other) ≡ option_or (meaning_held old other) (cond b (Some meaning) None)
    by true e =
        let same : name ≡ other = (bytes_eq-Decides name other).0 e in
        sym (ap (λ o. option_or o (Some meaning)) (ap (meaning_held old) (sym same) ∙ none (meaning_held old name) absent))
    by false e = kept (meaning_held old other)

-- and one that has a meaning keeps it
pub kept_old : (old : BTreeMap (Bor (List ℕ)) Meaning) (name : List ℕ) (meaning : Meaning) → is_some (meaning_held old name) ≡ true
    → (other : List ℕ) → meaning_held old other ≡ option_or (meaning_held old other) (cond (bytes_eq name other) (Some meaning) None)
kept_old old name meaning there other = by (bytes_eq name other) refl
  where
    some : (o : Option Meaning) (p : Option Meaning) → is_some o ≡ true → o ≡ option_or o p
    some None p e = cc
    some (Some m) p e = refl

    kept : (o : Option Meaning) → o ≡ option_or o None
    kept None = refl
    kept (Some m) = refl

    by : (b : Bool) → bytes_eq name other ≡ b → meaning_held old other ≡ option_or (meaning_held old other) (cond b (Some meaning) None)
    by true e =
        let same : name ≡ other = (bytes_eq-Decides name other).0 e in
        some (meaning_held old other) (Some meaning) (ap (λ n. is_some (meaning_held old n)) (sym same) ∙ there)
    by false e = kept (meaning_held old other)

-- Things with numbers and names: what is called by a name, up to a place and one further.

enumerate_from-append : {X : Type 0} (a : ℕ) (xs ys : List X) → enumerate_from a (xs ++ ys) ≡ enumerate_from a xs ++ enumerate_from (a + length xs) ys
enumerate_from-append a [] ys = let same : a ≡ a + 0 = omega arith in ap (λ n. enumerate_from n ys) same
enumerate_from-append {X} a (x ∷ xs) ys =
    let same : a + 1 + length xs ≡ a + suc (length xs) = omega arith in
    ap (λ (l : List (ℕ × X)). (a, x) ∷ l) (enumerate_from-append (a + 1) xs ys ∙ ap (λ n. enumerate_from (a + 1) xs ++ enumerate_from n ys) same)

option_or-assoc : {X : Type 0} (a b c : Option X) → option_or (option_or a b) c ≡ option_or a (option_or b c)
option_or-assoc None b c = refl
option_or-assoc (Some x) b c = refl

module _ {X : Type 0} (name_of : X → List ℕ) (meaning : ℕ → Meaning) where
  abbrev called : List X → List ℕ → Option Meaning
  called xs other = option_map (λ e. meaning e.0) (find (λ e. bytes_eq (name_of e.1) other) (enumerate_from 0 xs))

  called_more : (xs : List X) (i : ℕ) (x : X) → i < length xs → x ≡ get_or xs i x → (other : List ℕ) → called (take (i + 1) xs) other ≡ option_or (called (take i xs) other) (cond (bytes_eq (name_of x) other) (Some (meaning i)) None)
  called_more xs i x within is other =
      ap (λ ys. option_map (λ (e : ℕ × X). meaning e.0) (find (λ e. bytes_eq (name_of e.1) other) ys)) all
      ∙ (ap (option_map (λ (e : ℕ × X). meaning e.0)) (find-append (λ e. bytes_eq (name_of e.1) other) (enumerate_from 0 (take i xs)) ((i, x) ∷ []))
      ∙ by (find (λ e. bytes_eq (name_of e.1) other) (enumerate_from 0 (take i xs))) (bytes_eq (name_of x) other))
    where
      count : 0 + length (take i xs) ≡ i
      count = omega (arith, length-take i xs)

      all : enumerate_from 0 (take (i + 1) xs) ≡ enumerate_from 0 (take i xs) ++ (i, x) ∷ []
      all =
          ap (enumerate_from 0) (take_more xs i x within ∙ ap (λ y. take i xs ++ y ∷ []) (sym is))
          ∙ (enumerate_from-append 0 (take i xs) (x ∷ [])
          ∙ ap (λ n. enumerate_from 0 (take i xs) ++ (n, x) ∷ []) count)

      by : (o : Option (ℕ × X)) (b : Bool) → option_map (λ (e : ℕ × X). meaning e.0) (option_or o (cond b (Some (i, x)) None)) ≡ option_or (option_map (λ (e : ℕ × X). meaning e.0) o) (cond b (Some (meaning i)) None)
      by None true = refl
      by None false = refl
      by (Some e) true = refl
      by (Some e) false = refl

  -- a name more in the table
  pub filled_more : (xs : List X) (i : ℕ) (x : X) → i < length xs → x ≡ get_or xs i x → (first old new : List ℕ → Option Meaning) → ((other : List ℕ) → old other ≡ option_or (first other) (called (take i xs) other))
      → (key : List ℕ) → key ≡ name_of x → ((other : List ℕ) → new other ≡ option_or (old other) (cond (bytes_eq key other) (Some (meaning i)) None))
      → (other : List ℕ) → new other ≡ option_or (first other) (called (take (i + 1) xs) other)
  filled_more xs i x within is first old new filled key named added other =
      added other
      ∙ ((λ k. option_or (filled other k) (cond (bytes_eq (named k) other) (Some (meaning i)) None))
      ∙ (option_or-assoc (first other) (called (take i xs) other) (cond (bytes_eq (name_of x) other) (Some (meaning i)) None)
      ∙ ap (option_or (first other)) (sym (called_more xs i x within is other))))

-- what stands at a place is within the list
pub within_at : {X : Type 0} (xs : List X) (i : ℕ) (x : X) → slice_get xs i ≡ Some x → (i < length xs) × (x ≡ get_or xs i x)
within_at [] i x e = let no : ⊥ = cc in absurd no
within_at (y ∷ xs) zero x e = let same : y ≡ x = cc in (omega arith, sym same)
within_at (y ∷ xs) (suc i) x e = let rest = within_at xs i x e in (omega (arith, rest.0), rest.1)

pub named_at : {X : Type 0} (name_of : X → List ℕ) (o : Option X) (name : List ℕ) → option_map name_of o ≡ Some name → (x : X) × (o ≡ Some x) × (name ≡ name_of x)
named_at name_of None name e = let no : ⊥ = cc in absurd no
named_at name_of (Some x) name e = let same : name_of x ≡ name = cc in (x, refl, sym same)

find-map : {X Y : Type 0} (f : X → Y) (test : Y → Bool) (xs : List X) → find test (map f xs) ≡ option_map f (find (λ x. test (f x)) xs)
find-map f test [] = refl
find-map {X} {Y} f test (x ∷ xs) = by (test (f x)) (find-map f test xs)
  where
    by : (b : Bool) → find test (map f xs) ≡ option_map f (find (λ x. test (f x)) xs) → cond b (Some (f x)) (find test (map f xs)) ≡ option_map f (cond b (Some x) (find (λ x. test (f x)) xs))
    by true rest = refl
    by false rest = rest

-- the table of all names is what the names stand for
pub meanings_are : (net : Network) (name : List ℕ) → option_map path_to (option_or (location_called net.locations name) (function_called net.functions name)) ≡ meaning_of net name
meanings_are net name =
    by (find (λ l. bytes_eq l.1.name name) (enumerate_from 0 net.locations)) (find (λ f. bytes_eq f.1.name name) (enumerate_from 0 net.functions))
    ∙ sym (ap (option_map (λ (place : List ℕ × Path). place.1)) (find-append (λ place. bytes_eq place.0 name) _ _
    ∙ (λ k. option_or
    (find-map (λ (l : ℕ × Place). (l.1.name, Loc l.0)) (λ place. bytes_eq place.0 name) (enumerate_from 0 net.locations) k)
    (find-map (λ (f : ℕ × FnDecl). (f.1.name, Fun f.0)) (λ place. bytes_eq place.0 name) (enumerate_from 0 net.functions) k))))
  where
    by : (l : Option (ℕ × Place)) (f : Option (ℕ × FnDecl)) → option_map path_to (option_or (option_map (λ l. Location l.0) l) (option_map (λ f. Function f.0) f))
        ≡ option_map (λ (place : List ℕ × Path). place.1) (option_or (option_map (λ l. (l.1.name, Loc l.0)) l) (option_map (λ f. (f.1.name, Fun f.0)) f))
    by None None = refl
    by None (Some f) = refl
    by (Some l) None = refl
    by (Some l) (Some f) = refl

-- an empty table holds nothing
pub nothing_held : (table : BTreeMap (Bor (List ℕ)) Meaning) → tree.IsEmpty table → (name : List ℕ) → meaning_held table name ≡ None
nothing_held table empty name = ap (lookup (is_at (λ (key : Bor (List ℕ)). slice_cmp nat_cmp name key.now))) empty
