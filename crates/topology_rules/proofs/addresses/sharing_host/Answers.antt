use Rattle.std.proofs.Common.{◌≡◌, ◌∙◌, ◌++◌, ◌∷◌, [], nat_eq, false, ap, sym}
use Rattle.std.specs.List.{list_any}
use Rattle.topology_rules.proofs.KeyClashes.{is_not, is_new, inserted}
use Rattle.topology_rules.proofs.Sharing.{old_eth, old_ip, new_host, other_kind, more_keys, same_keys}
use Rattle.topology_rules.proofs.addresses.sharing_host.Goals as goal
use Rattle.topology_rules.proofs.addresses.sharing_host.Goals.{in-Host+in_ok-insert+else-not-branch+in_ok-insert-2+else-not-branch-2, in_default}

pub returns-then-not-branch-clause-some : goal.returns-then-not-branch-clause-some
returns-then-not-branch-clause-some c =
    old_eth c.args.locations.now c.loop-loc.loc c.index-locations-loc.result c.loop-loc-test.true c.index-locations-loc.is c.loop-loc.invariant.apart c.in-Host.address c.in-Host.is
    (ap (list_any (nat_eq c.in-Host.address.eth)) (sym c.loop-loc.invariant.eths) ∙ is_not _ (sym c.in_ok-insert.ensures.added ∙ c.if-not-branch.true))

pub returns-then-not-branch-2-clause-some : goal.returns-then-not-branch-2-clause-some
returns-then-not-branch-2-clause-some c =
    old_ip c.args.locations.now c.loop-loc.loc c.index-locations-loc.result c.loop-loc-test.true c.index-locations-loc.is c.loop-loc.invariant.apart c.in-Host.address c.in-Host.is
    (ap (list_any (nat_eq c.in-Host.address.ip)) (sym c.loop-loc.invariant.ips) ∙ is_not _ (sym c.in_ok-insert-2.ensures.added ∙ c.if-not-branch-2.true))

pub loop-loc-preserved : goal.loop-loc-preserved
loop-loc-preserved c =
    let ls = c.args.locations.now in
    let i = c.loop-loc.loc in
    let l = c.index-locations-loc.result in
    let within = c.loop-loc-test.true in
    let is = c.index-locations-loc.is in
    let apart = c.loop-loc.invariant.apart in
    elim c.match-location.branch [
      | in-Host+in_ok-insert+else-not-branch+in_ok-insert-2+else-not-branch-2 w ↦ (
          let a = w.in-Host.address in
          let kind = w.in-Host.is in
          let no_eth : list_any (nat_eq a.eth) c.loop-loc.eths.keys ≡ false = is_new _ (sym w.in_ok-insert.ensures.added ∙ w.if-not-branch.false) in
          let no_ip : list_any (nat_eq a.ip) c.loop-loc.ips.keys ≡ false = is_new _ (sym w.in_ok-insert-2.ensures.added ∙ w.if-not-branch-2.false) in
          record {
            eths = ap (λ s. s.keys) w.eths-is ∙ (w.in_ok-insert.ensures.keys ∙ (inserted nat_eq c.loop-loc.eths.keys a.eth no_eth ∙ (ap (λ ks. ks ++ a.eth ∷ []) c.loop-loc.invariant.eths ∙ sym (more_keys ls i l within is apart (λ x. x.eth) a kind))));
            ips = ap (λ s. s.keys) w.ips-is ∙ (w.in_ok-insert-2.ensures.keys ∙ (inserted nat_eq c.loop-loc.ips.keys a.ip no_ip ∙ (ap (λ ks. ks ++ a.ip ∷ []) c.loop-loc.invariant.ips ∙ sym (more_keys ls i l within is apart (λ x. x.ip) a kind))));
            apart = new_host ls i l within is apart a kind (ap (list_any (nat_eq a.eth)) (sym c.loop-loc.invariant.eths) ∙ no_eth) (ap (list_any (nat_eq a.ip)) (sym c.loop-loc.invariant.ips) ∙ no_ip);
          })
      | in_default w ↦ record {
        eths = ap (λ s. s.keys) w.eths-is ∙ (c.loop-loc.invariant.eths ∙ sym (same_keys ls i l within is apart (λ x. x.eth) w.in_default.not-Host));
        ips = ap (λ s. s.keys) w.ips-is ∙ (c.loop-loc.invariant.ips ∙ sym (same_keys ls i l within is apart (λ x. x.ip) w.in_default.not-Host));
        apart = other_kind ls i l within is apart w.in_default.not-Host;
      }
    ]
