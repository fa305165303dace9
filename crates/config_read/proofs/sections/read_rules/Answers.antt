use Rattle.std.proofs.Common.{refl, sym, subst}
use Rattle.config_lines.specs.Lines.{rule_line, IsRuleLine}
use Rattle.config_read.proofs.Taking.{TakesSome, none_taken, one_more, all_taken, shorter}
use Rattle.config_read.proofs.sections.read_rules.Goals as goal

pub rules-init : goal.rules-init
rules-init c = subst (λ vs. TakesSome (rule_line c.args.net.now) (IsRuleLine c.args.net.now) c.args.text.now vs c.args.text.now) (sym c.requires) (none_taken (rule_line c.args.net.now) (IsRuleLine c.args.net.now) c.args.text.now)

pub returns-in_default : goal.returns-in_default
returns-in_default c = all_taken (rule_line c.args.net.now) (IsRuleLine c.args.net.now) c.args.text.now c.rules.rules c.rules.rest.now c.rules.invariant (rw c.in_default.is at c.in_ok-rule.ensures.none)

pub rules-preserved : goal.rules-preserved
rules-preserved c =
    subst (λ vs. TakesSome (rule_line c.args.net.now) (IsRuleLine c.args.net.now) c.args.text.now vs c.in-Some.more.now) (sym c.in_ok-push.ensures.ok)
    (one_more (rule_line c.args.net.now) (IsRuleLine c.args.net.now) c.args.text.now c.rules.rules c.rules.rest.now c.in-Some.rule c.in-Some.more.now c.rules.invariant (rw c.in-Some.is at c.in_ok-rule.ensures.some).0 (rw c.in-Some.is at c.in_ok-rule.ensures.some).1)

pub rules-smaller : goal.rules-smaller
rules-smaller c = shorter c.rules.rest.now (rule_line c.args.net.now c.in-Some.rule) c.in-Some.more.now 114 _ (rw c.in-Some.is at c.in_ok-rule.ensures.some).0 refl
