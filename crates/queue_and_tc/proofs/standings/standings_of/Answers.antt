use Rattle.std.proofs.Common.{◌≡◌, ◌+◌, ◌++◌, ℕ, Bool, [], ◌∷◌, List, is_some, cond, sym, ◌∙◌, ap, ap₂, arith}
use Rattle.std.proofs.lemmas.List.FromFn.{map-range_with_len_more}
use Rattle.queue_and_tc.specs.declared.standings.Standing.{Standing}
use Rattle.queue_and_tc.specs.Shares.{has_class, numbered_standing, standing_of}
use Rattle.queue_and_tc.proofs.ClassNumbers.{number-next, number-low, some-class}
use Rattle.queue_and_tc.proofs.standings.standings_of.Goals as goal

pub loop-statement-preserved : goal.loop-statement-preserved
loop-statement-preserved c =
    let net = c.args.net.now in
    let policy = c.args.checked.now.policy in
    let sources = c.args.sources.now in
    let i = c.loop-statement.statement in
    let number = c.loop-statement.number in
    let here = c.standing_at-standing.ensures in
    let next = c.next_number-number.ensures ∙ ap (λ (b : Bool). cond b (number + 1) number) (ap (λ (s : Standing). is_some s.class) here ∙ some-class (has_class net policy sources c.args.host i) number) in
    record {
      made =
          c.in_ok-push.ensures.items
          ∙ ap₂ (λ (made : List Standing) (s : Standing). made ++ s ∷ []) c.loop-statement.invariant.made (here ∙ ap (λ (n : ℕ). numbered_standing net policy sources c.args.host i n) c.loop-statement.invariant.number)
          ∙ sym (map-range_with_len_more (standing_of net policy sources c.args.host) 0 i i (let e : 0 + i ≡ i = omega arith in e));
      number = next ∙ number-next (has_class net policy sources c.args.host) i number c.loop-statement.invariant.number;
      low = number-low (has_class net policy sources c.args.host i) number i _ next c.loop-statement.invariant.low;
    }
