use Rattle.std.proofs.Common.{ℕ, List, length, Some, sym, ap₂, subst}
use Rattle.language_check.specs.declared.search.Triple.{Triple}
use Rattle.language_check.specs.Trails.{Grounds, IsInside, IsLeastTrail, IsWayBack}
use Rattle.language_check.specs.Ways.{grounds_of}
use Rattle.language_check.proofs.Rows.{all-get}
use Rattle.language_check.proofs.Searching.{none, first-noted, get-none, least-at}
use Rattle.language_check.proofs.search.search.Goals as goal

pub loop-turn-init : goal.loop-turn-init
loop-turn-init c =
    let g : Grounds = grounds_of c.args.ways.now c.args.a.now c.args.b.now in
    let t : Triple = record { symbol = c.args.ways.now.start; first = c.step.result; second = c.step-2.result } in
    first-noted g (length c.args.ways.now.places) t c.new-found.result.keys c.note.new.found.keys c.new-from.result c.note.new.from c.new-found.ensures.empty c.new-from.ensures c.in_ok-note.ensures
    (ap₂ (λ p q. record { symbol = c.args.ways.now.start; first = p; second = q }) c.step.ensures.after c.step-2.ensures.after)
    (c.requires.whole.start, c.step.ensures.within, c.step-2.ensures.within)

pub returns-in_default : goal.returns-in_default
returns-in_default c =
    none (grounds_of c.args.ways.now c.args.a.now c.args.b.now) (length c.args.ways.now.places) c.loop-turn.found.keys c.loop-turn.from c.loop-turn.turn c.loop-turn.invariant (get-none c.loop-turn.found.keys c.loop-turn.turn (sym c.in_default.ensures.key))

pub strays-requires-clause-inside : goal.strays-requires-clause-inside
strays-requires-clause-inside c =
    all-get (IsInside (grounds_of c.args.ways.now c.args.a.now c.args.b.now) (length c.args.ways.now.places)) c.loop-turn.found.keys c.loop-turn.turn c.in-Some.triple.now c.loop-turn.invariant.lead.inside (sym c.in-Some.ensures.key)

pub returns-then-strays : goal.returns-then-strays
returns-then-strays c =
    let g : Grounds = grounds_of c.args.ways.now c.args.a.now c.args.b.now in
    let least = least-at g (length c.args.ways.now.places) c.loop-turn.found.keys c.loop-turn.from c.loop-turn.turn c.loop-turn.invariant c.in-Some.triple.now (sym c.in-Some.ensures.key) (c.strays.ensures.0 c.if-strays.true) in
    let back : IsWayBack c.as_slice.result.now c.as_slice-then-strays.result.now c.loop-turn.turn least.0 =
    subst (λ (l : List Triple). IsWayBack l c.as_slice-then-strays.result.now c.loop-turn.turn least.0) (sym c.as_slice.ensures.keys)
    (subst (λ (l : List ℕ). IsWayBack c.loop-turn.found.keys l c.loop-turn.turn least.0) (sym c.as_slice-then-strays.ensures) least.1) in
    subst (λ (l : List ℕ). IsLeastTrail g (Some l)) (sym (c.in_ok-trail.ensures least.0 back)) least.2
