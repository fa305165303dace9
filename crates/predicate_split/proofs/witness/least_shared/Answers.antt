use Rattle.std.proofs.Common.{◌≡◌, IfSome, IfNone, ap₂, sym, ◌∙◌, subst, List, [], ◌∷◌, ◌++◌}
use Rattle.merlin_model.specs.declared.policy.Pred.{Pred, All}
use Rattle.merlin_model.specs.Packets.{IsLeastPacket}
use Rattle.merlin_model.specs.Predicates.{IsPred}
use Rattle.predicate_split.specs.Least.{AllHold}
use Rattle.predicate_split.specs.Walks.{HoldsAt, HoldsNowhere}
use Rattle.predicate_split.proofs.Starting.{all_formed}
use Rattle.predicate_split.proofs.Properties.{some-same, none-same, all-from, all-to}
use Rattle.predicate_split.proofs.witness.least_shared.Goals as goal

pub least_packet-requires : goal.least_packet-requires
least_packet-requires c =
    let both : c.push-2.new.self ≡ c.args.first.now ∷ c.args.second.now ∷ [] =
    c.in_ok-push-2.ensures.ok ∙ ap₂ (λ (l : List Pred) (q : Pred). l ++ q ∷ [])
    (c.in_ok-push.ensures.ok ∙ ap₂ (λ (l : List Pred) (q : Pred). l ++ q ∷ []) c.new-both.ensures c.in_ok-copy.ensures) c.in_ok-copy-2.ensures in
    subst (λ (l : List Pred). IsPred (All l)) (sym both) (all_formed (c.args.first.now ∷ c.args.second.now ∷ []) (c.requires.first, (c.requires.second, tt)))

pub returns-clause-some : goal.returns-clause-some
returns-clause-some c =
    let both : c.push-2.new.self ≡ c.args.first.now ∷ c.args.second.now ∷ [] =
    c.in_ok-push-2.ensures.ok ∙ ap₂ (λ (l : List Pred) (q : Pred). l ++ q ∷ [])
    (c.in_ok-push.ensures.ok ∙ ap₂ (λ (l : List Pred) (q : Pred). l ++ q ∷ []) c.new-both.ensures c.in_ok-copy.ensures) c.in_ok-copy-2.ensures in
    let pair : List Pred = c.args.first.now ∷ c.args.second.now ∷ [] in
    some-same (HoldsAt (All pair)) (AllHold pair) (all-from pair) (all-to pair) c.in_ok-found.found
    (subst (λ (l : List Pred). IfSome c.in_ok-found.found (IsLeastPacket (HoldsAt (All l)))) both c.in_ok-found.ensures.some)

pub returns-clause-none : goal.returns-clause-none
returns-clause-none c =
    let both : c.push-2.new.self ≡ c.args.first.now ∷ c.args.second.now ∷ [] =
    c.in_ok-push-2.ensures.ok ∙ ap₂ (λ (l : List Pred) (q : Pred). l ++ q ∷ [])
    (c.in_ok-push.ensures.ok ∙ ap₂ (λ (l : List Pred) (q : Pred). l ++ q ∷ []) c.new-both.ensures c.in_ok-copy.ensures) c.in_ok-copy-2.ensures in
    let pair : List Pred = c.args.first.now ∷ c.args.second.now ∷ [] in
    none-same (HoldsAt (All pair)) (AllHold pair) (all-to pair) c.in_ok-found.found
    (subst (λ (l : List Pred). IfNone c.in_ok-found.found (HoldsNowhere (All l))) both c.in_ok-found.ensures.none)
