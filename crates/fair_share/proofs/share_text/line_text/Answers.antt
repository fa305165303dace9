use Rattle.std.proofs.Common.{◌≡◌, ℕ, List, [], ◌∷◌, ◌++◌, codes, ◌∙◌, ap, ap₂, append_assoc}
use Rattle.std.proofs.lemmas.Result.{IfOk-weaker}
use Rattle.std.specs.Fmt.{decimal}
use Rattle.fair_share.specs.ShareTexts.{cap_bound_text}
use Rattle.fair_share.proofs.share_text.line_text.Goals as goal

regroup : (a n b d e f x : List ℕ) → ((((a ++ n) ++ (b ++ (d ++ e))) ++ f) ++ x) ≡ (a ++ (n ++ (b ++ (d ++ (e ++ f))))) ++ x
regroup a n b d e f x = ap (λ z. z ++ x) (append_assoc (a ++ n) (b ++ (d ++ e)) f ∙ append_assoc a n ((b ++ (d ++ e)) ++ f)
    ∙ ap (λ z. a ++ (n ++ z)) (append_assoc b (d ++ e) f ∙ ap (λ z. b ++ z) (append_assoc d e f)))

pub returns : goal.returns
returns c = IfOk-weaker c.name_from.result _ _ (λ name e. e ∙ c.deref.ensures.value ∙ c.in_ok-push.ensures.items
    ∙ ap (λ z. z ++ 10 ∷ []) (c.in_ok-push_bound.ensures ∙ ap (λ z. z ++ cap_bound_text c.args.caps.now c.args.share.cap) (c.in_ok-extend_from_slice-2.ensures.items
    ∙ ap₂ (λ z y. z ++ y) (c.in_ok-extend_from_slice.ensures.items ∙ ap₂ (λ z y. z ++ y) c.in_ok-text.ensures.items c.bytes.ensures) (c.as_bytes.ensures.value ∙ c.in_ok-rate.ensures.ok)))
    ∙ regroup (codes "share ") c.args.tenant.now.name (codes " ") (decimal c.args.share.rate) (codes "kbps ") (cap_bound_text c.args.caps.now c.args.share.cap) (10 ∷ [])) c.name_from.ensures
