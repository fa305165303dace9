use Rattle.std.proofs.Common.{◌≡◌, ◌∙◌, length, ap, arith}
use Rattle.std.proofs.lemmas.List.{length-map}
use Rattle.std.proofs.lemmas.Option.{slice_get_within}
use Rattle.std.proofs.lemmas.Result.{IfOk-weaker}
use Rattle.delegation.specs.NamedJoins.{rated_policy}
use Rattle.delegation.proofs.Judgement.{own-join-is}
use Rattle.delegation.proofs.judging.join_of_node.Goals as goal

pub bounds-rated-place : goal.bounds-rated-place
bounds-rated-place c =
    let many : length c.args.rated.now ≡ length c.args.nodes.now = ap length c.requires.rated ∙ length-map c.args.nodes.now (λ n. rated_policy n.policy) in
    let within = slice_get_within c.args.nodes.now c.args.place c.args.node.now c.requires.stands in
    omega (arith, many, within)

pub join-requires : goal.join-requires
join-requires c = ap length c.requires.rated ∙ length-map c.args.nodes.now (λ n. rated_policy n.policy)

pub returns : goal.returns
returns c = IfOk-weaker c.write.result _ _
    (λ policy is. is ∙ own-join-is c.args.nodes.now c.args.rated.now c.args.place c.args.node.now c.index-rated-place.result c.in_ok-joined.joined c.requires.rated c.requires.stands c.index-rated-place.is c.in_ok-joined.ensures) c.write.ensures
