use Rattle.std.proofs.Common.{◌+◌, ◌++◌, ℕ, List, drop, slice_get, true, sym, ◌∙◌, ap}
use Rattle.std.specs.List.{flat_map}
use Rattle.policy_grammar.specs.declared.written.RawPath.{RawPath}
use Rattle.policy_names.specs.Names.{faulty_in}
use Rattle.policy_names.specs.Meanings.{meaning_in}
use Rattle.policy_names.proofs.Shapes.{here, first_of_append, none_first, faulty_in-Cat, faulty_in-Alt, faulty_in-Star, faulty_in-Not}
use Rattle.policy_names.proofs.faulty.+first_faulty.Goals as goal

pub first_among-returns-in-Some : goal.first_among-returns-in-Some
first_among-returns-in-Some t c =
    let faulty = faulty_in (meaning_in c.args.names.now) c.args.negated in
    let parts = c.args.parts.now in
    let i = c.loop-part.part-index in
    let part = c.part-item.result in
    sym (
    ap (λ (l : List (List ℕ)). slice_get l 0) (sym c.loop-part.invariant ∙ here (flat_map faulty) parts i part c.loop-part-test.true c.part-item.is)
    ∙ first_of_append (faulty part) (flat_map faulty (drop (i + 1) parts)) c.in-Some.name.now (sym c.in-Some.ensures))

pub first_among-loop-part-preserved : goal.first_among-loop-part-preserved
first_among-loop-part-preserved t c =
    let faulty = faulty_in (meaning_in c.args.names.now) c.args.negated in
    let parts = c.args.parts.now in
    let i = c.loop-part.part-index in
    let part = c.part-item.result in
    sym (here (flat_map faulty) parts i part c.loop-part-test.true c.part-item.is ∙ ap (λ (l : List (List ℕ)). l ++ flat_map faulty (drop (i + 1) parts)) (none_first (faulty part) (sym c.in_default.ensures)))
    ∙ c.loop-part.invariant

pub first_faulty-returns-in-Cat : goal.first_faulty-returns-in-Cat
first_faulty-returns-in-Cat t c =
    let faulty = faulty_in (meaning_in c.args.names.now) c.args.negated in
    c.first_among.ensures
    ∙ (ap (λ (ps : List RawPath). slice_get (flat_map faulty ps) 0) c.as_slice.ensures
    ∙ ap (λ (l : List (List ℕ)). slice_get l 0) (sym (ap (λ (p : RawPath). faulty p) c.in-Cat.is ∙ faulty_in-Cat (meaning_in c.args.names.now) c.args.negated _)))

pub first_faulty-returns-in-Alt : goal.first_faulty-returns-in-Alt
first_faulty-returns-in-Alt t c =
    let faulty = faulty_in (meaning_in c.args.names.now) c.args.negated in
    c.first_among-in-Alt.ensures
    ∙ (ap (λ (ps : List RawPath). slice_get (flat_map faulty ps) 0) c.as_slice-in-Alt.ensures
    ∙ ap (λ (l : List (List ℕ)). slice_get l 0) (sym (ap (λ (p : RawPath). faulty p) c.in-Alt.is ∙ faulty_in-Alt (meaning_in c.args.names.now) c.args.negated _)))

pub first_faulty-returns-in-Star : goal.first_faulty-returns-in-Star
first_faulty-returns-in-Star t c =
    let faulty = faulty_in (meaning_in c.args.names.now) c.args.negated in
    c.first_faulty.ensures
    ∙ (ap (λ (p : RawPath). slice_get (faulty p) 0) c.get.ensures
    ∙ ap (λ (l : List (List ℕ)). slice_get l 0) (sym (ap (λ (p : RawPath). faulty p) c.in-Star.is ∙ faulty_in-Star (meaning_in c.args.names.now) c.args.negated _)))

pub first_faulty-returns-in-Not : goal.first_faulty-returns-in-Not
first_faulty-returns-in-Not t c =
    let known = meaning_in c.args.names.now in
    c.first_faulty-in-Not.ensures
    ∙ (ap (λ (p : RawPath). slice_get (faulty_in known true p) 0) c.get-in-Not.ensures
    ∙ ap (λ (l : List (List ℕ)). slice_get l 0) (sym (ap (λ (p : RawPath). faulty_in known c.args.negated p) c.in-Not.is ∙ faulty_in-Not known c.args.negated _)))
