use Rattle.std.proofs.Common.{◌∙◌, List, map, ℕ, sym, subst, ap}
use Rattle.std.specs.List.{AllByRecursion}
use Rattle.std.proofs.lemmas.Result.{err_from_is_err_and}
use Rattle.merlin_model.specs.Networks.{Network}
use Rattle.merlin_model.specs.declared.policy.Ends.{Ends}
use Rattle.rules_model.specs.Products.{Group}
use Rattle.policy_check.specs.Checked.{CheckedPolicy}
use Rattle.openflow_rules.specs.declared.spans.GroupSpan.{GroupSpan}
use Rattle.openflow_rules.specs.GroupSpans.{spans_over, IsGroupSpan}
use Rattle.openflow_rules.specs.Gathered.{IsTagFault, IsTagIn, IsGathered}
use Rattle.openflow_rules.proofs.PlannedGroups.{planned}
use Rattle.openflow_rules.proofs.Spanning.{spans-ok}
use Rattle.openflow_rules.proofs.Limits.{gathered-for, passes-tags}
use Rattle.openflow_rules.proofs.preparing.gather_groups.Goals as goal

-- the spans are those of groups
abbrev AreSpansOf : Network → CheckedPolicy → List Ends → List ℕ → List GroupSpan → Type 0
AreSpansOf net checked ends leaders spans = AllByRecursion (IsGroupSpan net checked (map (planned net checked ends) leaders)) spans

pub gather-requires-clause-spans : goal.gather-requires-clause-spans
gather-requires-clause-spans c =
    let net : Network = c.args.net.now in
    let checked : CheckedPolicy = c.args.checked.now in
    let ends : List Ends = c.args.ends.now in
    let leaders : List ℕ = c.args.leaders.now in
    let g = c.requires.leaders.1 in (
      map (planned net checked ends) leaders,
      subst (AreSpansOf net checked ends leaders) (sym (c.as_slice.ensures ∙ c.in_ok-spans.ensures ∙ ap (λ (hosts : List ℕ). spans_over hosts ends leaders) c.requires.hosts))
          (spans-ok net checked ends c.requires.automata c.requires.ends leaders (λ j h. ((g.leaders_are j).0 h).0)),
    )

pub returns-in_err-gathered-clause-err : goal.returns-in_err-gathered-clause-err
returns-in_err-gathered-clause-err c =
    let net : Network = c.args.net.now in
    let checked : CheckedPolicy = c.args.checked.now in
    let ends : List Ends = c.args.ends.now in
    let leaders : List ℕ = c.args.leaders.now in
    let g = c.requires.leaders.1 in
    let groups : List Group = map (planned net checked ends) leaders in
    let same = c.as_slice.ensures ∙ c.in_ok-spans.ensures ∙ ap (λ (hosts : List ℕ). spans_over hosts ends leaders) c.requires.hosts in
    let ok = subst (AreSpansOf net checked ends leaders) (sym same) (spans-ok net checked ends c.requires.automata c.requires.ends leaders (λ j h. ((g.leaders_are j).0 h).0)) in
    let p = err_from_is_err_and c.from_residual-in_err-gathered.result c.from_residual-in_err-gathered.ensures.1 in
    rw (p.1, p.2)
    (passes-tags net checked ends c.requires.automata c.requires.ends leaders c.requires.leaders.0 g _
    (subst (λ (l : List GroupSpan). IsTagFault (IsTagIn net groups l) c.in_err-gathered.field-0.0) same (c.in_err-gathered.ensures.err groups ok)))

pub returns-clause-ok : goal.returns-clause-ok
returns-clause-ok c =
    let net : Network = c.args.net.now in
    let checked : CheckedPolicy = c.args.checked.now in
    let ends : List Ends = c.args.ends.now in
    let leaders : List ℕ = c.args.leaders.now in
    let g = c.requires.leaders.1 in
    let groups : List Group = map (planned net checked ends) leaders in
    let same = c.as_slice.ensures ∙ c.in_ok-spans.ensures ∙ ap (λ (hosts : List ℕ). spans_over hosts ends leaders) c.requires.hosts in
    let ok = subst (AreSpansOf net checked ends leaders) (sym same) (spans-ok net checked ends c.requires.automata c.requires.ends leaders (λ j h. ((g.leaders_are j).0 h).0)) in
    gathered-for net checked ends c.requires.automata c.requires.ends leaders c.requires.leaders.0 g c.in_ok-gathered.gathered
    (subst (λ (l : List GroupSpan). IsGathered net groups l c.in_ok-gathered.gathered) same (c.in_ok-gathered.ensures.ok groups ok)) c.in_ok-gathered.ensures.ascend
