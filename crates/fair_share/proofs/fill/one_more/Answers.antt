use Rattle.std.proofs.Common.{◌+◌, inl, inr, set, sym, ◌∙◌, ap, subst, arith}
use Rattle.fair_share.specs.Shares.{share_rates}
use Rattle.fair_share.specs.Filling.{demands, IsBetweenLevels}
use Rattle.fair_share.proofs.Filling.{place-of, slice_get-at}
use Rattle.fair_share.proofs.Between.{between-keeps, between-raises, between-settles}
use Rattle.fair_share.proofs.Rates.{rate-at, rates-set}
use Rattle.fair_share.proofs.fill.one_more.Goals as goal

pub returns-then-not-rising-index-clause-step : goal.returns-then-not-rising-index-clause-step
returns-then-not-rising-index-clause-step c b =
    between-keeps (demands c.args.caps.now c.args.tenants.now) (share_rates c.args.shares.now) c.args.rising.now c.args.used.now c.args.level c.args.index c.index-tenants-index.result
    (slice_get-at c.args.tenants.now c.args.index c.index-tenants-index.result c.requires.within c.index-tenants-index.is) b (inl c.if-not-rising-index.true)

pub returns-then-share-level-clause-step : goal.returns-then-share-level-clause-step
returns-then-share-level-clause-step c b =
    let at = rate-at c.args.shares.now c.args.index (let a = c.requires.shares in let w = c.requires.within in omega arith) in
    between-keeps (demands c.args.caps.now c.args.tenants.now) (share_rates c.args.shares.now) c.args.rising.now c.args.used.now c.args.level c.args.index c.index-tenants-index.result
    (slice_get-at c.args.tenants.now c.args.index c.index-tenants-index.result c.requires.within c.index-tenants-index.is) b (inr (inl (let t = c.if-share-level.true in let e = at in omega arith)))

pub returns-then-share-tenant-clause-step : goal.returns-then-share-tenant-clause-step
returns-then-share-tenant-clause-step c b =
    let at = rate-at c.args.shares.now c.args.index (let a = c.requires.shares in let w = c.requires.within in omega arith) in
    between-keeps (demands c.args.caps.now c.args.tenants.now) (share_rates c.args.shares.now) c.args.rising.now c.args.used.now c.args.level c.args.index c.index-tenants-index.result
    (slice_get-at c.args.tenants.now c.args.index c.index-tenants-index.result c.requires.within c.index-tenants-index.is) b (inr (inr (let t = c.if-share-tenant.true in let e = at in omega arith)))

pub returns-then-not-has_room-clause-step : goal.returns-then-not-has_room-clause-step
returns-then-not-has_room-clause-step c b =
    let at = rate-at c.args.shares.now c.args.index (let a = c.requires.shares in let w = c.requires.within in omega arith) in
    between-settles (demands c.args.caps.now c.args.tenants.now) (share_rates c.args.shares.now) c.args.rising.now c.args.used.now c.args.level c.args.index c.index-tenants-index.result
    (slice_get-at c.args.tenants.now c.args.index c.index-tenants-index.result c.requires.within c.index-tenants-index.is) b
    c.if-not-rising-index.false (let f = c.if-share-level.false in let e = at in omega arith) (let f = c.if-share-tenant.false in let e = at in omega arith) c.if-not-has_room.ensures

pub add_up-requires-clause-place : goal.add_up-requires-clause-place
add_up-requires-clause-place c = place-of c.args.caps.now c.args.tenants.now c.args.index c.index-tenants-index.result c.requires.places c.requires.within c.index-tenants-index.is

pub returns-clause-step : goal.returns-clause-step
returns-clause-step c b =
    let at = rate-at c.args.shares.now c.args.index (let a = c.requires.shares in let w = c.requires.within in omega arith) in
    let next = between-raises (demands c.args.caps.now c.args.tenants.now) (share_rates c.args.shares.now) c.args.rising.now c.args.used.now c.args.level c.args.index c.index-tenants-index.result
    (slice_get-at c.args.tenants.now c.args.index c.index-tenants-index.result c.requires.within c.index-tenants-index.is) b c.add_up.new.used
    c.if-not-rising-index.false (let f = c.if-share-level.false in let e = at in omega arith) (let f = c.if-share-tenant.false in let e = at in omega arith) c.if-not-has_room.ensures c.add_up.ensures.as_many c.add_up.ensures.each in
    subst (λ xs. IsBetweenLevels (demands c.args.caps.now c.args.tenants.now) xs c.args.rising.now c.add_up.new.used c.args.level (c.args.index + 1))
    (ap (λ n. set (share_rates c.args.shares.now) c.args.index (n + 1)) at ∙ sym (rates-set c.args.shares.now c.args.index _)) next
