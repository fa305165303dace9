use Rattle.std.proofs.Common.{◌≡◌, ℕ, List, Some, slice_get, map, sym, ◌∙◌, ap, subst}
use Rattle.rules_model.specs.Products.{loc_of}
use Rattle.rules_model.specs.Tables.{onward}
use Rattle.rule_tables.specs.declared.branches.Step.{Step}
use Rattle.rule_tables.specs.Branches.{key_of, vertex_at, LeadsOn}
use Rattle.rule_tables.specs.Hops.{IsOnwardFrom}
use Rattle.rule_tables.proofs.Making.{vertex-there, hop-made, no-hop}
use Rattle.rule_tables.proofs.hops.hop_from.Goals as goal

pub returns-in-Some-link_between : goal.returns-in-Some-link_between
returns-in-Some-link_between c = λ v us stands leads up can.
    let steps : List Step = c.args.branch.now.steps in
    let place : ℕ = c.args.place in
    let at : slice_get steps place ≡ Some c.in-Some.step = sym c.step_of.ensures ∙ c.in-Some.is in
    let here : c.in-Some.step.vertex.symbol.loc ≡ loc_of v = ap loc_of (vertex-there steps place v c.in-Some.step stands at) in
    let list : c.as_slice.result.now ≡ steps = c.as_slice.ensures in
    let on : IsOnwardFrom steps v us c.in_ok-functions.field-0 =
    subst (λ (l : List Step). IsOnwardFrom l v us c.in_ok-functions.field-0) list
    (c.in_ok-functions.ensures v us (subst (λ (l : List Step). vertex_at l place ≡ Some v) (sym list) stands) (subst (λ (l : List Step). LeadsOn l place us) (sym list) leads) (sym here)) in
    let going = c.in-Some-going_on.ensures (onward (loc_of v) us) up on.1 can.tagged in
    hop-made c.args.net.now (map key_of c.args.tags.now) c.args.group c.args.branch.now.dest v us c.in-Some.step.vertex.symbol.loc c.in-Some-going_on.to here going.0
    c.in_ok-functions.field-0.functions on.0 c.in-Some-going_on.tag going.1 c.in-Some-link_between.link (sym c.link_between.ensures ∙ c.in-Some-link_between.is)

pub returns-in-None : goal.returns-in-None
returns-in-None c = λ v us stands leads up can.
    let steps : List Step = c.args.branch.now.steps in
    let place : ℕ = c.args.place in
    let at : slice_get steps place ≡ Some c.in-Some.step = sym c.step_of.ensures ∙ c.in-Some.is in
    let here : c.in-Some.step.vertex.symbol.loc ≡ loc_of v = ap loc_of (vertex-there steps place v c.in-Some.step stands at) in
    let list : c.as_slice.result.now ≡ steps = c.as_slice.ensures in
    let on : IsOnwardFrom steps v us c.in_ok-functions.field-0 =
    subst (λ (l : List Step). IsOnwardFrom l v us c.in_ok-functions.field-0) list
    (c.in_ok-functions.ensures v us (subst (λ (l : List Step). vertex_at l place ≡ Some v) (sym list) stands) (subst (λ (l : List Step). LeadsOn l place us) (sym list) leads) (sym here)) in
    let going = c.in-Some-going_on.ensures (onward (loc_of v) us) up on.1 can.tagged in
    no-hop c.args.net.now (map key_of c.args.tags.now) c.args.group c.args.branch.now.dest v us c.in-Some.step.vertex.symbol.loc c.in-Some-going_on.to here going.0 can (sym c.link_between.ensures ∙ c.in-None.is)
