-- The names of functions, joined by commas.
use Rattle.std.proofs.Common.{◌≡◌, ℕ, ◌<◌, List, [], ◌∷◌, ◌++◌, map, length, get_or, unwrap_or, option_map, ◌∙◌, ap, subst, arith}
use Rattle.std.proofs.lemmas.Option.{slice_get-get_or}
use Rattle.merlin_model.specs.declared.network.FnDecl.{FnDecl}
use Rattle.std.specs.Prelude.{codes}
use Rattle.std.specs.List.{AllByRecursion}
use Rattle.merlin_model.specs.Networks.{Network}
use Rattle.merlin_base.specs.Lexemes.{Lacks}
use Rattle.merlin_base.specs.Pairs.{IsEmptyOrBegins}
use Rattle.merlin_base.proofs.Cutting.{Free}
use Rattle.config_text.specs.Lines.{function_name, functions_text}
use Rattle.config_lines.specs.Words.{IsLineFunction}
use Rattle.config_lines.proofs.Then.{function_free}
use Rattle.config_lines.proofs.Joined.{each_then, has_next, next_part, all_at, all_push, nothing_behind, one_more, last_one, joined_some, joined_free, some_parts}

abbrev pub name_in : Network → ℕ → List ℕ
name_in net = function_name net.functions

names_free : (byte : ℕ) (net : Network) (fs : List ℕ) → byte < 44 → AllByRecursion (IsLineFunction net) fs → AllByRecursion (Free byte) (map (name_in net) fs)
names_free byte net [] low all = tt
names_free byte net (f ∷ fs) low all = (function_free byte net f (omega arith) all.0, names_free byte net fs low all.1)

pub functions_free : (byte : ℕ) (net : Network) (fs : List ℕ) → byte < 44 → AllByRecursion (IsLineFunction net) fs → Free byte (functions_text net.functions fs)
functions_free byte net fs low all = joined_free byte (codes "-") (map (name_in net) fs) (λ e. omega arith) ((λ e. omega arith), tt) (names_free byte net fs low all)

-- these functions stand before what is left
pub record AreReadTo (net : Network) (word : List ℕ) (fs : List ℕ) (rest : List ℕ) : Type 0 where
  pub text : word ≡ each_then 44 (name_in net) fs ++ rest
  pub lawful : AllByRecursion (IsLineFunction net) fs

pub wrong_name : (net : Network) (word rest part behind fs : List ℕ) → (word ≡ codes "-" → ⊥) → AreReadTo net word fs rest → rest ≡ part ++ behind → Lacks 44 part → IsEmptyOrBegins 44 behind → ((f : ℕ) → IsLineFunction net f → part ≡ name_in net f → ⊥) →
    (others : List ℕ) → AllByRecursion (IsLineFunction net) others → word ≡ functions_text net.functions others → ⊥
wrong_name net word rest part behind fs differ so e l b none others are h =
    let some = some_parts (name_in net) others (codes "-") word differ h in
    let has = has_next 44 (name_in net) (IsLineFunction net) (λ f is. function_free 44 net f (omega arith) is) fs others rest so.lawful are some.0 (some.1 ∙ so.text) in
    let lawful : IsLineFunction net has.next = all_at (IsLineFunction net) has.front has.later has.next (subst (AllByRecursion (IsLineFunction net)) has.is are) in
    none has.next lawful (next_part 44 (name_in net) (IsLineFunction net) (λ f is. function_free 44 net f (omega arith) is) fs others rest part behind has lawful e l b).front

pub name_read : (net : Network) (word rest part behind more fs : List ℕ) (f : ℕ) → AreReadTo net word fs rest → rest ≡ part ++ behind → part ≡ name_in net f → IsLineFunction net f → behind ≡ 44 ∷ more → AreReadTo net word (fs ++ f ∷ []) more
name_read net word rest part behind more fs f so e g is h = record {
  text = one_more 44 (name_in net) fs f word rest part behind more so.text e g h;
  lawful = all_push (IsLineFunction net) fs f so.lawful is;
}

pub names_read : (net : Network) (word rest part behind fs : List ℕ) (f : ℕ) → AreReadTo net word fs rest → rest ≡ part ++ behind → part ≡ name_in net f → IsLineFunction net f → IsEmptyOrBegins 44 behind → ((more : List ℕ) → behind ≡ 44 ∷ more → ⊥) →
    (word ≡ functions_text net.functions (fs ++ f ∷ [])) × AllByRecursion (IsLineFunction net) (fs ++ f ∷ [])
names_read net word rest part behind fs f so e g is b none = (
  last_one 44 (name_in net) fs f word rest part behind so.text e g (nothing_behind 44 behind b none) ∙ joined_some (name_in net) fs f (codes "-"),
  all_push (IsLineFunction net) fs f so.lawful is,
)

-- the name of a function that is declared
pub name_of_declared : (declared : List FnDecl) (f : ℕ) (d : FnDecl) → f < length declared → function_name declared f ≡ (get_or declared f d).name
name_of_declared declared f d within = ap (λ o. unwrap_or (option_map (λ g. g.name) o) []) (slice_get-get_or declared f d within)
