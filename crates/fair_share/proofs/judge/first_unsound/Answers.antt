use Rattle.std.proofs.Common.{◌<◌, true, false, MatchBool, length, get_or, arith, subst}
use Rattle.fair_share.specs.Shares.{share_rates, IsUnsound}
use Rattle.fair_share.specs.Filling.{demands, IsFine}
use Rattle.fair_share.proofs.Filling.{slice_get-at}
use Rattle.fair_share.proofs.Judging.{all-fine, fine-more, first-unsound, line-at}
use Rattle.fair_share.proofs.Rates.{no_share}
use Rattle.fair_share.proofs.judge.first_unsound.Goals as goal

pub loop-index-init : goal.loop-index-init
loop-index-init c = λ i t s l p q. let no : ⊥ = omega arith in absurd no

pub returns-then-is_unsound : goal.returns-then-is_unsound
returns-then-is_unsound c =
    let lt : c.loop-index.index < length c.args.tenants.now = (let t = c.loop-index-test.true in omega arith) in
    let within : c.loop-index.index < length c.args.shares.now = (let a = c.requires.as_many in omega arith) in
    let stands = slice_get-at c.args.tenants.now c.loop-index.index c.index-tenants-index.result lt c.index-tenants-index.is in
    let given = line-at c.args.shares.now c.loop-index.index no_share within in
    let told : MatchBool true (IsUnsound (demands c.args.caps.now c.args.tenants.now) (share_rates c.args.shares.now) c.index-tenants-index.result (get_or c.args.shares.now c.loop-index.index no_share)) (IsFine (demands c.args.caps.now c.args.tenants.now) (share_rates c.args.shares.now) c.index-tenants-index.result (get_or c.args.shares.now c.loop-index.index no_share)) =
    subst (λ b. MatchBool b (IsUnsound (demands c.args.caps.now c.args.tenants.now) (share_rates c.args.shares.now) c.index-tenants-index.result (get_or c.args.shares.now c.loop-index.index no_share)) (IsFine (demands c.args.caps.now c.args.tenants.now) (share_rates c.args.shares.now) c.index-tenants-index.result (get_or c.args.shares.now c.loop-index.index no_share)))
    c.if-is_unsound.true (c.is_unsound.ensures c.args.tenants.now (share_rates c.args.shares.now) c.requires.used c.requires.tops) in
    first-unsound (demands c.args.caps.now c.args.tenants.now) c.args.shares.now c.loop-index.index c.index-tenants-index.result (get_or c.args.shares.now c.loop-index.index no_share) c.loop-index.invariant stands given told

pub loop-index-preserved : goal.loop-index-preserved
loop-index-preserved c =
    let lt : c.loop-index.index < length c.args.tenants.now = (let t = c.loop-index-test.true in omega arith) in
    let within : c.loop-index.index < length c.args.shares.now = (let a = c.requires.as_many in omega arith) in
    let stands = slice_get-at c.args.tenants.now c.loop-index.index c.index-tenants-index.result lt c.index-tenants-index.is in
    let given = line-at c.args.shares.now c.loop-index.index no_share within in
    let told : MatchBool false (IsUnsound (demands c.args.caps.now c.args.tenants.now) (share_rates c.args.shares.now) c.index-tenants-index.result (get_or c.args.shares.now c.loop-index.index no_share)) (IsFine (demands c.args.caps.now c.args.tenants.now) (share_rates c.args.shares.now) c.index-tenants-index.result (get_or c.args.shares.now c.loop-index.index no_share)) =
    subst (λ b. MatchBool b (IsUnsound (demands c.args.caps.now c.args.tenants.now) (share_rates c.args.shares.now) c.index-tenants-index.result (get_or c.args.shares.now c.loop-index.index no_share)) (IsFine (demands c.args.caps.now c.args.tenants.now) (share_rates c.args.shares.now) c.index-tenants-index.result (get_or c.args.shares.now c.loop-index.index no_share)))
    c.if-is_unsound.false (c.is_unsound.ensures c.args.tenants.now (share_rates c.args.shares.now) c.requires.used c.requires.tops) in
    fine-more (demands c.args.caps.now c.args.tenants.now) c.args.shares.now c.loop-index.index c.index-tenants-index.result (get_or c.args.shares.now c.loop-index.index no_share) c.loop-index.invariant stands given told

pub returns : goal.returns
returns c = all-fine (demands c.args.caps.now c.args.tenants.now) c.args.shares.now c.loop-index.index c.requires.as_many (let t = c.loop-index-test.false in omega arith) c.loop-index.invariant
