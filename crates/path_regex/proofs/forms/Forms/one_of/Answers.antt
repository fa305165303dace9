use Rattle.std.proofs.Common.{◌∷◌, sym, ◌∙◌, ap, arith}
use Rattle.path_regex.specs.Normal.{members, one_of}
use Rattle.path_regex.specs.Shared.{form_at}
use Rattle.path_regex.proofs.Joined.{is-Nothing, is-Alt, members-at, parts-Alt, no-Nothing, one-chain, chain-end, chain-empty}
use Rattle.path_regex.proofs.forms.Forms.one_of.Goals as goal

pub returns-in-Nothing : goal.returns-in-Nothing
returns-in-Nothing c =
    let parts = parts-Alt _ _ _ c.node.ensures _ _ c.in-Alt.is in
    let first = parts.0 in
    let within = c.requires.within in
    (omega arith, sym (ap one_of (members-at _ _ _ c.node.ensures _ _ c.in-Alt.is ∙ ap (λ r. form_at c.args.self.now c.in-Alt.first ∷ members r) (is-Nothing _ _ _ c.node-2.ensures c.in-Nothing.is))))

pub returns-in_default-node : goal.returns-in_default-node
returns-in_default-node c = (
  c.requires.within,
  is-Alt _ _ _ c.node.ensures _ _ c.in-Alt.is
      ∙ sym (ap one_of (members-at _ _ _ c.node.ensures _ _ c.in-Alt.is)
      ∙ one-chain (form_at c.args.self.now c.in-Alt.first) (form_at c.args.self.now c.in-Alt.rest) (parts-Alt _ _ _ c.node.ensures _ _ c.in-Alt.is).2 (no-Nothing _ _ _ c.node-2.ensures c.in_default-node.not-Nothing)),
)

pub returns-in_default : goal.returns-in_default
returns-in_default c = (
  c.requires.within,
  chain-end _ _ _ c.node.ensures c.in_default.not-Alt c.requires.chain ∙ sym (ap one_of (chain-empty _ _ _ c.node.ensures c.in_default.not-Alt c.requires.chain)),
)
