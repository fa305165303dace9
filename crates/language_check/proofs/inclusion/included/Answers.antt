use Rattle.std.proofs.Common.{◌≡◌, ℕ, List, [], ◌∷◌, Option, Some, None, sym, ◌∙◌, ap, subst}
use Rattle.std.proofs.lemmas.Option.{get_or_from_slice_get}
use Rattle.merlin_model.specs.declared.policy.Symbol.{Symbol}
use Rattle.merlin_model.specs.Words.{at}
use Rattle.language_check.specs.Inclusion.{IsLeastStrayWalk, forwards}
use Rattle.language_check.specs.Trails.{Grounds, IsLeastTrail}
use Rattle.language_check.specs.Ways.{grounds_of}
use Rattle.language_check.proofs.Walks.{included-none, included-some, trail-inside}
use Rattle.language_check.proofs.inclusion.included.Goals as goal

pub returns-in-None : goal.returns-in-None
returns-in-None c =
    let g : Grounds = grounds_of c.in_ok-ways.ways c.args.a.now c.args.b.now in
    let least : IsLeastTrail g None = subst (λ (o : Option (List ℕ)). IsLeastTrail g o) c.in-None.is c.in_ok-search.ensures in
    included-none c.args.net.now c.args.symbols.now c.requires.symbols c.args.src c.args.dst c.in_ok-ways.ways c.in_ok-ways.ensures c.requires.src c.requires.dst c.args.a.now c.args.b.now least

pub word_of-requires-clause-inside : goal.word_of-requires-clause-inside
word_of-requires-clause-inside c =
    let g : Grounds = grounds_of c.in_ok-ways.ways c.args.a.now c.args.b.now in
    let least : IsLeastTrail g (Some c.in-Some.trail) = subst (λ (o : Option (List ℕ)). IsLeastTrail g o) c.in-Some.is c.in_ok-search.ensures in
    trail-inside c.args.net.now c.args.symbols.now c.requires.symbols c.args.src c.args.dst c.in_ok-ways.ways c.in_ok-ways.ensures c.requires.src c.requires.dst c.args.a.now c.args.b.now c.in-Some.trail least

pub returns : goal.returns
returns c =
    let g : Grounds = grounds_of c.in_ok-ways.ways c.args.a.now c.args.b.now in
    let symbols : List Symbol = c.args.symbols.now in
    let trail : List ℕ = c.in-Some.trail in
    let least : IsLeastTrail g (Some trail) = subst (λ (o : Option (List ℕ)). IsLeastTrail g o) c.in-Some.is c.in_ok-search.ensures in
    let word : c.in_ok-word_of-in-Some.field-0 ≡ forwards symbols trail (at c.args.dst ∷ []) =
    c.in_ok-word_of-in-Some.ensures ∙ ap (λ (z : Symbol). forwards symbols trail (z ∷ [])) (get_or_from_slice_get symbols c.in_ok-ways.ways.end (at c.args.dst) (at 0) c.in_ok-ways.ensures.end) in
    subst (λ (w : List Symbol). IsLeastStrayWalk c.args.net.now symbols c.args.a.now c.args.b.now c.args.src c.args.dst w) (sym word)
    (included-some c.args.net.now symbols c.requires.symbols c.args.src c.args.dst c.in_ok-ways.ways c.in_ok-ways.ensures c.requires.src c.requires.dst c.args.a.now c.args.b.now trail least)
