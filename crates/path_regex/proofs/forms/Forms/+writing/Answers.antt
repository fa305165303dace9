use Rattle.std.proofs.Common.{rules, ◌++◌, List, append-nil, sym, ◌∙◌, ap, subst}
use Rattle.merlin_model.specs.declared.policy.Path.{Path, Alt}
use Rattle.path_regex.proofs.Joined.{IsWriting, is-Alt, members-at, alt-chain, chain-empty, write-more}
use Rattle.path_regex.proofs.forms.Forms.+writing.Goals as goal

pub path_of-members_of-requires : goal.path_of-members_of-requires
path_of-members_of-requires t c = (search rules, (c.requires, alt-chain _ _ _ c.node.ensures _ _ c.in-Alt.is))

pub path_of-returns-in_ok-members_of-in-Alt : goal.path_of-returns-in_ok-members_of-in-Alt
path_of-returns-in_ok-members_of-in-Alt t c =
    ap Alt (c.in_ok-members_of-in-Alt.ensures ∙ members-at _ _ _ c.node.ensures _ _ c.in-Alt.is) ∙ sym (is-Alt _ _ _ c.node.ensures _ _ c.in-Alt.is)

pub members_of-loop-first-preserved : goal.members_of-loop-first-preserved
members_of-loop-first-preserved t c =
    subst (λ (paths : List Path). IsWriting c.args.self.now c.args.all paths c.in-Alt.rest) (sym c.in_ok-push.ensures.ok)
    (write-more c.args.self.now c.args.all c.loop-first.paths c.loop-first.left c.in-Alt.first c.in-Alt.rest c.node.result c.in_ok-path_of.field-0 c.loop-first.invariant c.node.ensures c.in-Alt.is c.in_ok-path_of.ensures)

pub members_of-returns : goal.members_of-returns
members_of-returns t c =
    sym (append-nil c.loop-first.paths)
    ∙ ap (λ (l : List Path). c.loop-first.paths ++ l) (sym (chain-empty _ _ _ c.node.ensures c.in_default.not-Alt c.loop-first.invariant.chain))
    ∙ c.loop-first.invariant.same
