use Rattle.std.proofs.Common.{◌≡◌, ◌++◌, ◌-◌, IfOk, ℕ, List, codes, ◌∙◌, ap, subst}
use Rattle.std.specs.Fmt.{decimal}
use Rattle.refusal_text.proofs.refusals.excess_text.Goals as goal

pub returns : goal.returns
returns c =
    let limit : c.saturating_sub-limit.result ≡ c.args.count - 1 = c.saturating_sub-limit.ensures in
    let text : c.deref.result.now ≡ codes "more than " ++ (decimal (c.args.count - 1) ++ codes " ") = c.deref.ensures ∙ (c.in_ok-text.ensures.ok ∙ ap (λ (n : ℕ). codes "more than " ++ (decimal n ++ codes " ")) limit) in
    subst (λ (front : List ℕ). IfOk c.text_with_name.result (λ whole. whole ≡ front ++ c.args.what.now)) text c.text_with_name.ensures
