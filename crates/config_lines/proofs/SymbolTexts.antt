-- The texts of symbols, and of walks.
use Rattle.std.proofs.Common.{◌≡◌, ◌≢◌, ℕ, ◌<◌, List, [], ◌∷◌, ◌++◌, map, refl, sym, ◌∙◌, ap, subst, append_assoc, append-nil, arith}
use Rattle.std.proofs.lemmas.List.{append_cancel_left}
use Rattle.std.specs.Prelude.{Option, None, Some, codes}
use Rattle.std.specs.List.{AllByRecursion, join_with_byte}
use Rattle.merlin_model.specs.declared.policy.Symbol.{Symbol}
use Rattle.merlin_model.specs.Networks.{Network}
use Rattle.merlin_base.specs.Lexemes.{Lacks, IsIdentifier}
use Rattle.merlin_base.specs.Pairs.{IsEmptyOrBegins}
use Rattle.merlin_base.proofs.Cutting.{Free, free, free_append, free_middle, cut_once}
use Rattle.config_text.specs.Lines.{name_at, function_name}
use Rattle.config_text.specs.Result.{symbol_text}
use Rattle.config_lines.specs.Words.{IsOptional, IsLocation, IsLineFunction}
use Rattle.config_lines.specs.Parts.{IsLineSymbol}
use Rattle.config_lines.specs.Lines.{walk_line, IsWalkLine}
use Rattle.config_lines.proofs.Then.{no_byte, same_part, location_free, function_free, identifier_free, identifier_free_colon}
use Rattle.config_lines.proofs.Joined.{each_then, has_next, next_part, all_at, all_push, nothing_behind, one_more, last_one}

abbrev pub symbol : ℕ → Option ℕ → Symbol
symbol loc fun = record { loc = loc; fun = fun }

pub plain_is : (net : Network) (loc : ℕ) → symbol_text net (symbol loc None) ≡ name_at net loc
plain_is net loc = append-nil (name_at net loc)

pub symbol_free : (byte : ℕ) (net : Network) (s : Symbol) → byte < 48 → IsLineSymbol net s → Free byte (symbol_text net s)
symbol_free byte net s low is = by s.fun is.fun
  where
    name : Free byte (name_at net s.loc)
    name = location_free byte net s.loc low is.loc

    by : (o : Option ℕ) → IsOptional (IsLineFunction net) o → Free byte (symbol_text net (symbol s.loc o))
    by None h = free_append byte (name_at net s.loc) [] name tt
    by (Some f) h = free_append byte (name_at net s.loc) (58 ∷ function_name net.functions f) name ((λ e. omega arith), function_free byte net f low h)

-- a word without a colon, whose location is none
pub no_plain : (net : Network) (word : List ℕ) (loc : ℕ) (fun : Option ℕ) → Lacks 58 word → ((l : ℕ) → IsLocation net l → word ≡ name_at net l → ⊥) → IsLineSymbol net (symbol loc fun) → word ≡ symbol_text net (symbol loc fun) → ⊥
no_plain net word loc None l none is e = none loc is.loc (e ∙ plain_is net loc)
no_plain net word loc (Some f) l none is e = no_byte 58 word (name_at net loc) (function_name net.functions f) l e

-- a word with a colon is a location and a function
pub with_colon : (net : Network) (word place name : List ℕ) (loc : ℕ) (fun : Option ℕ) → word ≡ place ++ 58 ∷ name → Lacks 58 place → IsLineSymbol net (symbol loc fun) → word ≡ symbol_text net (symbol loc fun) →
    (f : ℕ) × IsLineFunction net f × (place ≡ name_at net loc) × (name ≡ function_name net.functions f)
with_colon net word place name loc None e l is h =
    absurd (free_middle 58 place name (subst (Free 58) (sym (plain_is net loc) ∙ sym h ∙ e) (identifier_free_colon (name_at net loc) is.loc.word)))
with_colon net word place name loc (Some f) e l is h =
    let cut = same_part 58 word place name (name_at net loc) (function_name net.functions f) e l (identifier_free_colon (name_at net loc) is.loc.word) h in
    (f, is.fun, cut.front, cut.rest)

-- these symbols stand before what is left
pub record AreReadTo (net : Network) (text : List ℕ) (symbols : List Symbol) (rest : List ℕ) : Type 0 where
  pub before : text ≡ each_then 32 (symbol_text net) symbols ++ rest
  pub lawful : AllByRecursion (IsLineSymbol net) symbols

blank_free : (net : Network) (s : Symbol) → IsLineSymbol net s → Free 32 (symbol_text net s)
blank_free net s is = symbol_free 32 net s (omega arith) is

pub wrong_symbol : (net : Network) (text rest part behind : List ℕ) (symbols : List Symbol) → AreReadTo net text symbols rest → rest ≡ part ++ behind → Lacks 32 part → IsEmptyOrBegins 32 behind → ((s : Symbol) → IsLineSymbol net s → part ≡ symbol_text net s → ⊥) →
    (others : List Symbol) → AllByRecursion (IsLineSymbol net) others → others ≢ [] → text ≡ join_with_byte 32 (map (symbol_text net) others) → ⊥
wrong_symbol net text rest part behind symbols so e l b none others are some h =
    let has = has_next 32 (symbol_text net) (IsLineSymbol net) (blank_free net) symbols others rest so.lawful are some (sym h ∙ so.before) in
    let lawful : IsLineSymbol net has.next = all_at (IsLineSymbol net) has.front has.later has.next (subst (AllByRecursion (IsLineSymbol net)) has.is are) in
    none has.next lawful (next_part 32 (symbol_text net) (IsLineSymbol net) (blank_free net) symbols others rest part behind has lawful e l b).front

pub symbol_read : (net : Network) (text rest part behind more : List ℕ) (symbols : List Symbol) (s : Symbol) → AreReadTo net text symbols rest → rest ≡ part ++ behind → part ≡ symbol_text net s → IsLineSymbol net s → behind ≡ 32 ∷ more → AreReadTo net text (symbols ++ s ∷ []) more
symbol_read net text rest part behind more symbols s so e g is h = record {
  before = one_more 32 (symbol_text net) symbols s text rest part behind more so.before e g h;
  lawful = all_push (IsLineSymbol net) symbols s so.lawful is;
}

pub symbols_read : (net : Network) (text rest part behind : List ℕ) (symbols : List Symbol) (s : Symbol) → AreReadTo net text symbols rest → rest ≡ part ++ behind → part ≡ symbol_text net s → IsLineSymbol net s → IsEmptyOrBegins 32 behind → ((more : List ℕ) → behind ≡ 32 ∷ more → ⊥) →
    (text ≡ join_with_byte 32 (map (symbol_text net) (symbols ++ s ∷ []))) × AllByRecursion (IsLineSymbol net) (symbols ++ s ∷ []) × ((symbols ++ s ∷ []) ≢ [])
symbols_read net text rest part behind symbols s so e g is b none = (
  last_one 32 (symbol_text net) symbols s text rest part behind so.before e g (nothing_behind 32 behind b none),
  all_push (IsLineSymbol net) symbols s so.lawful is,
  some symbols,
)
  where
    some : (xs : List Symbol) → xs ++ s ∷ [] ≢ []
    some [] h = let no_way : s ∷ [] ≡ [] → ⊥ = λ k. cc in no_way h
    some (x ∷ xs) h = let no_way : x ∷ (xs ++ s ∷ []) ≡ [] → ⊥ = λ k. cc in no_way h

-- Lines of walks.

symbols_free : (net : Network) (symbols : List Symbol) → AllByRecursion (IsLineSymbol net) symbols → Free 10 (join_with_byte 32 (map (symbol_text net) symbols))
symbols_free net [] all = tt
symbols_free net (s ∷ []) all = symbol_free 10 net s (omega arith) all.0
symbols_free net (s ∷ t ∷ ts) all = free_append 10 (symbol_text net s) (32 ∷ join_with_byte 32 (map (symbol_text net) (t ∷ ts))) (symbol_free 10 net s (omega arith) all.0) ((λ e. omega arith), symbols_free net (t ∷ ts) all.1)

pub walk_is : (net : Network) (id : List ℕ) (symbols : List Symbol) (more : List ℕ) → symbols ≢ [] → walk_line net (id, symbols) ++ more ≡ codes "walk " ++ (id ++ 32 ∷ (join_with_byte 32 (map (symbol_text net) symbols) ++ 10 ∷ more))
walk_is net id [] more some = absurd (some refl)
walk_is net id (s ∷ ss) more some = simp append_assoc

pub line_read : (net : Network) (text id words rest : List ℕ) (symbols : List Symbol) → text ≡ codes "walk " ++ (id ++ 32 ∷ (words ++ 10 ∷ rest)) → words ≡ join_with_byte 32 (map (symbol_text net) symbols) → symbols ≢ [] → text ≡ walk_line net (id, symbols) ++ rest
line_read net text id words rest symbols e f some = e ∙ ap (λ w. codes "walk " ++ (id ++ 32 ∷ (w ++ 10 ∷ rest))) f ∙ sym (walk_is net id symbols rest some)

pub no_symbols : (net : Network) (text id words rest : List ℕ) → text ≡ codes "walk " ++ (id ++ 32 ∷ (words ++ 10 ∷ rest)) → IsIdentifier id → Lacks 10 words →
    ((symbols : List Symbol) → AllByRecursion (IsLineSymbol net) symbols → symbols ≢ [] → words ≡ join_with_byte 32 (map (symbol_text net) symbols) → ⊥) → (walk : List ℕ × List Symbol) (more : List ℕ) → IsWalkLine net walk → text ≡ walk_line net walk ++ more → ⊥
no_symbols net text id words rest e is l none walk more lawful h =
    let tails = append_cancel_left (codes "walk ") (id ++ 32 ∷ (words ++ 10 ∷ rest)) (walk.0 ++ 32 ∷ (join_with_byte 32 (map (symbol_text net) walk.1) ++ 10 ∷ more)) (sym e ∙ h ∙ walk_is net walk.0 walk.1 more lawful.some) in
    let ids = cut_once 32 id walk.0 (words ++ 10 ∷ rest) (join_with_byte 32 (map (symbol_text net) walk.1) ++ 10 ∷ more) (identifier_free 32 id (omega arith) is) (identifier_free 32 walk.0 (omega arith) lawful.id) tails in
    none walk.1 lawful.symbols lawful.some (cut_once 10 words (join_with_byte 32 (map (symbol_text net) walk.1)) rest more (free 10 words l) (symbols_free net walk.1 lawful.symbols) ids.rest).front

pub no_walk : (net : Network) (text : List ℕ) → ((id symbols rest : List ℕ) → IsIdentifier id → text ≡ codes "walk " ++ (id ++ 32 ∷ (symbols ++ 10 ∷ rest)) → ⊥) → (walk : List ℕ × List Symbol) (more : List ℕ) → IsWalkLine net walk → text ≡ walk_line net walk ++ more → ⊥
no_walk net text none walk more lawful h = none walk.0 (join_with_byte 32 (map (symbol_text net) walk.1)) more lawful.id (h ∙ walk_is net walk.0 walk.1 more lawful.some)
