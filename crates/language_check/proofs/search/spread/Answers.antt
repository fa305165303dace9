use Rattle.std.proofs.Common.{◌<◌, ◌≤◌, ℕ, List, length, take, get_or, Contains, sym, ◌∙◌, ap₂, subst}
use Rattle.std.specs.List.{AllByRecursion}
use Rattle.std.proofs.lemmas.List.{take_all}
use Rattle.language_check.specs.declared.search.Triple.{Triple}
use Rattle.language_check.specs.Trails.{Grounds, IsInside, IsSearching, IsNoted}
use Rattle.language_check.specs.Ways.{AreAscending, grounds_of}
use Rattle.language_check.proofs.Rows.{all-at, all-get, take-more, row-whole, ascending-take, contains-at}
use Rattle.language_check.proofs.Searching.{next_of, noted, turned}
use Rattle.language_check.proofs.search.spread.Goals as goal

pub loop-symbol-preserved : goal.loop-symbol-preserved
loop-symbol-preserved c =
    let g : Grounds = grounds_of c.args.ways.now c.args.a.now c.args.b.now in
    let n : ℕ = length c.args.ways.now.places in
    let t : Triple = c.args.triple in
    let i : ℕ = c.loop-symbol.symbol-index in
    let row : List ℕ = c.followers-row.result.now in
    let k : ℕ = get_or row i 0 in
    let lt : i < length row = c.loop-symbol-test.true in
    let inside : IsInside g n t = all-get (IsInside g n) c.args.found.now.keys c.args.turn t c.requires.before.lead.inside c.requires.at in
    let are = row-whole c.args.ways.now c.requires.whole t.symbol inside.0 in
    let below : AllByRecursion (λ j. j < n) row = subst (λ (l : List ℕ). AllByRecursion (λ j. j < n) l) (sym c.followers-row.ensures) are.0 in
    let ascends : AreAscending row = subst AreAscending (sym c.followers-row.ensures) are.1 in
    let next : IsInside g n (next_of g t k) =
    (all-at (λ j. j < n) row i 0 lt below, subst (λ q. q < length g.a.steps) c.step.ensures.after c.step.ensures.within, subst (λ q. q < length g.b.steps) c.step-in-loop-symbol.ensures.after c.step-in-loop-symbol.ensures.within) in
    let how : IsNoted (next_of g t k) c.args.turn c.loop-symbol.found.keys c.note.new.found.keys c.loop-symbol.from c.note.new.from =
    subst (λ (x : Triple). IsNoted x c.args.turn c.loop-symbol.found.keys c.note.new.found.keys c.loop-symbol.from c.note.new.from)
    (ap₂ (λ p q. record { symbol = k; first = p; second = q }) c.step.ensures.after c.step-in-loop-symbol.ensures.after) c.in_ok-note.ensures in
    let made = noted g n c.loop-symbol.found.keys c.note.new.found.keys c.loop-symbol.from c.note.new.from c.args.turn (take i row) c.loop-symbol.invariant.0 t c.loop-symbol.invariant.1 k
    (ascending-take row i 0 lt ascends) (subst (λ (l : List ℕ). Contains l k) c.followers-row.ensures (contains-at row i 0 lt)) next how in
    (subst (λ (l : List ℕ). IsSearching g n c.note.new.found.keys c.note.new.from c.args.turn l) (sym (take-more row i 0 lt)) made.0, made.1)

pub returns : goal.returns
returns c =
    let g : Grounds = grounds_of c.args.ways.now c.args.a.now c.args.b.now in
    let row : List ℕ = c.followers-row.result.now in
    let le : length row ≤ c.loop-symbol.symbol-index = c.loop-symbol-test.false in
    turned g (length c.args.ways.now.places) c.loop-symbol.found.keys c.loop-symbol.from c.args.turn (take c.loop-symbol.symbol-index row) c.loop-symbol.invariant.0 c.args.triple c.loop-symbol.invariant.1
    (take_all c.loop-symbol.symbol-index row le ∙ c.followers-row.ensures) c.requires.harmless
