use Rattle.std.proofs.Common.{◌++◌, ℕ, List, get_or, sym, ◌∙◌, ap}
use Rattle.openflow_rules.specs.declared.spans.GroupSpan.{GroupSpan}
use Rattle.openflow_rules.specs.GroupSpans.{ends_for, spans_by}
use Rattle.openflow_rules.proofs.Steps.{numbered-next}
use Rattle.openflow_rules.proofs.spans.group_spans.Goals as goal

pub loop-group-preserved : goal.loop-group-preserved
loop-group-preserved c =
    let i : ℕ = c.loop-group.group in
    let leaders : List ℕ = c.args.leaders.now in
    let j : ℕ = get_or leaders i 0 in
    c.in_ok-add_spans.ensures
    ∙ ap (λ (l : List GroupSpan). l ++ spans_by c.args.hosts.now i j (ends_for c.args.ends.now j)) c.loop-group.invariant
    ∙ sym (numbered-next (λ l. spans_by c.args.hosts.now l.0 l.1 (ends_for c.args.ends.now l.1)) leaders i 0 c.loop-group-test.true)
