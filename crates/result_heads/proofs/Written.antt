-- Walks and their symbols, one by one.
use Rattle.std.proofs.Common.{◌≡◌, ◌<◌, ◌++◌, ◌∷◌, ℕ, List, [], arith, codes, length, map, zip, refl, sym, ap, ◌∙◌, append_assoc, subst, get_or, unwrap_or, option_map, slice_get, Option, None, Some}
use Rattle.std.specs.Prelude.{⊤, MatchOption, Contains}
use Rattle.std.proofs.lemmas.Option.{slice_get-get_or, slice_get_within}
use Rattle.std.specs.List.{AllByRecursion}
use Rattle.merlin_model.specs.declared.policy.Ends.{Ends}
use Rattle.merlin_model.specs.declared.policy.Symbol.{Symbol}
use Rattle.merlin_model.specs.declared.network.FnDecl.{FnDecl}
use Rattle.merlin_model.specs.Networks.{Network, kind_of, places_of}
use Rattle.merlin_model.specs.Policies.{Policy}
use Rattle.merlin_model.specs.Words.{IsSymbol}
use Rattle.merlin_model.specs.Assignments.{IsAssignment}
use Rattle.config_text.specs.Lines.{name_at, function_name}
use Rattle.config_text.specs.Words.{line, spaced}
use Rattle.config_text.specs.Result.{symbol_text, walk_text}
use Rattle.config_text.proofs.Joining.{joined_after_first}
use Rattle.result_heads.specs.Heads.{walk_lines}

pub walks-have-symbols : (net : Network) (policy : Policy) (ends : List Ends) (walks : List (List Symbol)) →
    IsAssignment net policy ends walks → AllByRecursion (AllByRecursion (IsSymbol net)) walks
walks-have-symbols net policy [] [] h = tt
walks-have-symbols net policy [] (w ∷ ws) h = absurd h
walks-have-symbols net policy (e ∷ es) [] h = tt
walks-have-symbols net policy (e ∷ es) (w ∷ ws) h = (h.0.0.symbols, walks-have-symbols net policy es ws h.1)

-- a symbol with a function, piece by piece after a space
pub symbol-written : (net : Network) (symbol : Symbol) (f : ℕ) (old location name : List ℕ) → symbol.fun ≡ Some f →
    name_at net symbol.loc ≡ location → function_name net.functions f ≡ name →
    (((old ++ 32 ∷ []) ++ location) ++ 58 ∷ []) ++ name ≡ old ++ 32 ∷ symbol_text net symbol
symbol-written net symbol f old location name runs there named =
    rw (runs, there, named) (append_assoc ((old ++ 32 ∷ []) ++ location) (58 ∷ []) name ∙ append_assoc (old ++ 32 ∷ []) location (58 ∷ name) ∙ append_assoc old (32 ∷ []) (location ++ 58 ∷ name))

-- a walk, after its id, piece by piece
pub walk-written : (net : Network) (id : List ℕ) (walk : List Symbol) →
    (((codes "walk " ++ id) ++ spaced (map (symbol_text net) walk)) ++ 10 ∷ []) ≡ line (walk_text net (id, walk))
walk-written net id walk =
    ap (λ text. text ++ 10 ∷ [])
    (append_assoc (codes "walk ") id (spaced (map (symbol_text net) walk))
    ∙ ap (λ text. codes "walk " ++ text) (sym (joined_after_first 32 id (map (symbol_text net) walk))))

-- where ids or walks are left out, no line is left
pub no-walks : (net : Network) (ids : List (List ℕ)) (walks : List (List Symbol)) → length walks < 1 → walk_lines net (zip ids walks) ≡ []
no-walks net [] walks few = refl
no-walks net (id ∷ ids) [] few = refl
no-walks net (id ∷ ids) (walk ∷ walks) few = absurd (omega (arith, few))

told : {X : Type 0} (o : Option X) (P : Type 0) → MatchOption o ⊥ (λ _. P) → P
told None P h = absurd h
told (Some x) P h = h

declared-below : (functions : List FnDecl) (f loc : ℕ) →
    MatchOption (option_map (λ d. d.places) (slice_get functions f)) ⊥ (λ places. Contains places loc) → f < length functions
declared-below functions f loc = by (slice_get functions f) refl
  where
    by : (o : Option FnDecl) → slice_get functions f ≡ o →
        MatchOption (option_map (λ d. d.places) o) ⊥ (λ places. Contains places loc) → f < length functions
    by None e h = absurd h
    by (Some d) e h = slice_get_within functions f d e

-- the function of a symbol is declared
function-below : (net : Network) (symbol : Symbol) (f : ℕ) → IsSymbol net symbol → symbol.fun ≡ Some f → f < length net.functions
function-below net symbol f is runs =
    let at_place = told (kind_of net symbol.loc) _ is in
    let placed = subst (λ fun. MatchOption fun ⊤ (λ g. MatchOption (places_of net g) ⊥ (λ places. Contains places symbol.loc))) runs at_place in
    declared-below net.functions f symbol.loc placed

-- and its name is that of its declaration
pub function-named : (net : Network) (symbol : Symbol) (f : ℕ) (declared : List FnDecl) (d : FnDecl) → IsSymbol net symbol → symbol.fun ≡ Some f →
    declared ≡ net.functions → function_name net.functions f ≡ (get_or declared f d).name
function-named net symbol f declared d is runs same =
    ap (λ o. unwrap_or (option_map (λ g. g.name) o) []) (slice_get-get_or net.functions f d (function-below net symbol f is runs))
    ∙ ap (λ l. (get_or l f d).name) (sym same)
