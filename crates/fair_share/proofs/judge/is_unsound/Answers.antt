use Rattle.std.proofs.Common.{◌≡◌, inl, inr, Bool, true, false, not, MatchBool, arith, sym, ◌∙◌}
use Rattle.fair_share.specs.Shares.{IsUnsound}
use Rattle.fair_share.specs.Filling.{demands, HaveRoomAbove, IsBlocked, IsFine}
use Rattle.fair_share.proofs.Judging.{fine, wrong-line, passed-cap}
use Rattle.fair_share.proofs.judge.is_unsound.Goals as goal

clash : {b : Bool} → b ≡ true → b ≡ false → ⊥
clash {b} e f = never (sym e ∙ f)
  where
    never : true ≡ false → ⊥
    never x = cc

pub returns-then-tenant-share : goal.returns-then-tenant-share
returns-then-tenant-share c tenants shares are top = inr (inl c.if-tenant-share.true)

pub returns-then-not-is_right : goal.returns-then-not-is_right
returns-then-not-is_right c tenants shares are top =
    wrong-line (demands c.args.caps.now tenants) shares c.args.used.now c.args.tops.now are top c.args.tenant.now c.args.share (λ r. clash (c.is_right.ensures.1 r) c.if-not-is_right.true)

pub returns : goal.returns
returns c tenants shares are top = by c.has_room.result c.has_room.ensures
  where
    by : (b : Bool) → MatchBool b (HaveRoomAbove c.args.caps.now c.args.tenant.now.under c.args.used.now 0) (IsBlocked c.args.caps.now c.args.tenant.now.under c.args.used.now 0) →
        MatchBool (not b) (IsUnsound (demands c.args.caps.now tenants) shares c.args.tenant.now c.args.share) (IsFine (demands c.args.caps.now tenants) shares c.args.tenant.now c.args.share)
    by true room = fine (demands c.args.caps.now tenants) shares c.args.used.now c.args.tops.now are top c.args.tenant.now c.args.share (c.is_right.ensures.0 c.if-not-is_right.false) (let f = c.if-tenant-share.false in omega arith) room
    by false blocked = passed-cap (demands c.args.caps.now tenants) shares c.args.used.now c.args.tops.now are top c.args.tenant.now c.args.share blocked
