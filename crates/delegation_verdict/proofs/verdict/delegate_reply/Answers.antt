use Rattle.std.proofs.Common.{List, sym, subst}
use Rattle.delegation_text.specs.declared.entry.TreeEntry.{TreeEntry}
use Rattle.delegation_text.specs.Trees.{IsDelegationText}
use Rattle.delegation_verdict.proofs.verdict.delegate_reply.Goals as goal

pub entries_reply-requires-clause-kept : goal.entries_reply-requires-clause-kept
entries_reply-requires-clause-kept c =
    c.tree_texts.ensures.kept c.args.tree.now c.deref.result.now (subst (λ (es : List TreeEntry). IsDelegationText c.args.tree.now es) (sym c.deref.ensures.value) c.in-Ok.ensures.ok)

pub returns-in-Ok : goal.returns-in-Ok
returns-in-Ok c = c.entries_reply.ensures c.args.tree.now (subst (λ (es : List TreeEntry). IsDelegationText c.args.tree.now es) (sym c.deref.ensures.value) c.in-Ok.ensures.ok)
