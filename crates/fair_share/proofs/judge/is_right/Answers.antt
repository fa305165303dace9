use Rattle.std.proofs.Common.{◌≡◌, MatchOption, unwrap_or, length, refl, sym, ◌∙◌, ap, subst}
use Rattle.std.proofs.lemmas.Option.{slice_get_read}
use Rattle.fair_share.specs.Filling.{IsFullAt}
use Rattle.fair_share.proofs.judge.is_right.Goals as goal

pub returns-else-not-is_under : goal.returns-else-not-is_under
returns-else-not-is_under c =
    let stands = slice_get_read c.args.caps.now (length c.args.caps.now) c.in-Some.place c.index-caps-place.result refl (c.is_under.ensures.within c.if-not-is_under.false) c.index-caps-place.is in (
      (λ e.
          let b = c.is_bound.ensures.0 e in
          subst (λ o. MatchOption o (c.args.share.rate ≡ c.args.tenant.now.demand) (IsFullAt c.args.caps.now c.args.tenant.now.under c.args.used.now c.args.tops.now c.args.share.rate)) (sym c.in-Some.is)
          (record { cap = c.index-caps-place.result; stands = stands; met = sym c.is_under.ensures.is ∙ c.if-not-is_under.false; full = b.0; even = b.1 })),
      (λ h.
          let f : IsFullAt c.args.caps.now c.args.tenant.now.under c.args.used.now c.args.tops.now c.args.share.rate c.in-Some.place =
          subst (λ o. MatchOption o (c.args.share.rate ≡ c.args.tenant.now.demand) (IsFullAt c.args.caps.now c.args.tenant.now.under c.args.used.now c.args.tops.now c.args.share.rate)) c.in-Some.is h in
          let same : f.cap ≡ c.index-caps-place.result = ap (λ o. unwrap_or o f.cap) (sym f.stands ∙ stands) in
          c.is_bound.ensures.1 (f.full ∙ ap (λ k. k.rate) same, f.even)),
    )
