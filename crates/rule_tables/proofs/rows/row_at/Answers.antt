use Rattle.std.proofs.Common.{◌≡◌, ℕ, List, Some, slice_get, map, Contains, sym, ◌∙◌, ap, subst}
use Rattle.merlin_model.specs.Networks.{IsHost}
use Rattle.rules_model.specs.Products.{Vertex, loc_of}
use Rattle.rules_model.specs.Tables.{tag_key_of}
use Rattle.rule_tables.specs.declared.branches.Step.{Step}
use Rattle.rule_tables.specs.Branches.{key_of, IsTagNumber, vertex_in}
use Rattle.rule_tables.specs.Hops.{IsHopMade}
use Rattle.rule_tables.proofs.Following.{can-hop}
use Rattle.rule_tables.proofs.Making.{vertex-there, no-host, tag-missing, eth-missing, row-made}
use Rattle.rule_tables.proofs.rows.row_at.Goals as goal

pub returns-in_default-tag_number : goal.returns-in_default-tag_number
returns-in_default-tag_number c = λ of v ready is queue stands.
    let net = c.args.net.now in
    let g : ℕ = c.args.group in
    let d : ℕ = c.args.branch.now.dest in
    let steps : List Step = c.args.branch.now.steps in
    let at : slice_get steps c.args.place ≡ Some c.in-Some.step = sym c.step_of.ensures ∙ c.in-Some.is in
    let same : vertex_in c.in-Some.step ≡ v = vertex-there steps c.args.place v c.in-Some.step stands at in
    let follow = is.follow c.args.place v stands in
    let outside : ¬ IsHost net (loc_of v) = subst (λ (u : Vertex). ¬ IsHost net (loc_of u)) same (no-host net c.in-Some.step.vertex.symbol.loc (sym c.is_host.ensures ∙ c.if-is_host.false)) in
    absurd (tag-missing net of c.args.tags.now ready g d v follow.0 follow.2 outside
    (λ up. subst (λ k. ¬ Contains (map key_of c.args.tags.now) k) (c.key_at.ensures ∙ ap (tag_key_of g) same) (c.in_default-tag_number.ensures.none up)))

pub returns-in_default-eth_of : goal.returns-in_default-eth_of
returns-in_default-eth_of c = λ of v ready is queue stands.
    let follow = is.follow c.args.place v stands in
    absurd (eth-missing c.args.net.now of c.args.tags.now ready c.args.group c.args.branch.now.dest v follow.0 follow.2 (sym c.eth_of.ensures ∙ c.in_default-eth_of.is))

pub returns-in_default-2 : goal.returns-in_default-2
returns-in_default-2 c = λ of v ready is queue stands.
    let net = c.args.net.now in
    let g : ℕ = c.args.group in
    let d : ℕ = c.args.branch.now.dest in
    let steps : List Step = c.args.branch.now.steps in
    let at : slice_get steps c.args.place ≡ Some c.in-Some.step = sym c.step_of.ensures ∙ c.in-Some.is in
    let same : vertex_in c.in-Some.step ≡ v = vertex-there steps c.args.place v c.in-Some.step stands at in
    let follow = is.follow c.args.place v stands in
    let outside : ¬ IsHost net (loc_of v) = subst (λ (u : Vertex). ¬ IsHost net (loc_of u)) same (no-host net c.in-Some.step.vertex.symbol.loc (sym c.is_host.ensures ∙ c.if-is_host.false)) in
    absurd (subst (IsHopMade net (map key_of c.args.tags.now) g d v follow.0) c.in_default-2.is
    (c.in_ok-hop.ensures v follow.0 stands follow.1 ready.ascend (can-hop net of ready.written_are c.args.tags.now ready g d v follow.0 follow.2 outside)))

pub returns : goal.returns
returns c = λ of v ready is queue stands.
    let net = c.args.net.now in
    let g : ℕ = c.args.group in
    let d : ℕ = c.args.branch.now.dest in
    let steps : List Step = c.args.branch.now.steps in
    let at : slice_get steps c.args.place ≡ Some c.in-Some.step = sym c.step_of.ensures ∙ c.in-Some.is in
    let same : vertex_in c.in-Some.step ≡ v = vertex-there steps c.args.place v c.in-Some.step stands at in
    let follow = is.follow c.args.place v stands in
    let outside : ¬ IsHost net (loc_of v) = subst (λ (u : Vertex). ¬ IsHost net (loc_of u)) same (no-host net c.in-Some.step.vertex.symbol.loc (sym c.is_host.ensures ∙ c.if-is_host.false)) in
    row-made net of c.args.tags.now ready g d v follow.0 follow.2 outside c.in-Some.step.vertex same
    c.in-Some-tag_number.tag (subst (λ k. IsTagNumber (map key_of c.args.tags.now) k c.in-Some-tag_number.tag) (c.key_at.ensures ∙ ap (tag_key_of g) same) c.in-Some-tag_number.ensures.some)
    c.in-Some-eth_of.eth (sym c.in-Some-eth_of.is ∙ c.eth_of.ensures)
    c.in-Some-2.hop (subst (IsHopMade net (map key_of c.args.tags.now) g d v follow.0) c.in-Some-2.is
    (c.in_ok-hop.ensures v follow.0 stands follow.1 ready.ascend (can-hop net of ready.written_are c.args.tags.now ready g d v follow.0 follow.2 outside)))
    c.args.queue queue
