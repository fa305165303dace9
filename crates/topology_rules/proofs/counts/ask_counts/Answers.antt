use Rattle.std.proofs.Common.{◌≡◌, ◌<◌, ◌≤◌, ◌+◌, ◌∙◌, inl, inr, ℕ, List, length, min, codes, arith, ap, subst}
use Rattle.std.proofs.lemmas.Result.{err_from_is_err_and}
use Rattle.merlin_model.specs.declared.network.Location.{Location}
use Rattle.topology_shape.specs.Described.{described_by}
use Rattle.topology_rules.specs.declared.limits.TheConstants.{MAX_LOCATIONS, MAX_HOSTS, MAX_LINKS, MAX_FUNCTIONS, MAX_PLACEMENTS}
use Rattle.topology_rules.specs.Counts.{host_addresses, placements}
use Rattle.topology_rules.proofs.Broken.{excess_breaks, if_err, on_ok}
use Rattle.topology_rules.proofs.counts.ask_counts.Goals as goal

pub returns-in_err-ask_count-2-clause-err : goal.returns-in_err-ask_count-2-clause-err
returns-in_err-ask_count-2-clause-err c =
    let net = described_by c.args.shape.now in
    let ls = c.args.shape.now.named in
    let s1 : length ls ≤ MAX_LOCATIONS = subst (λ (xs : List Location). length xs ≤ MAX_LOCATIONS) c.locations-locations.ensures c.in_ok-ask_count.ensures.ok in
    let e2 : c.host_count.result ≡ length (host_addresses ls) = c.host_count.ensures ∙ ap (λ xs. length (host_addresses xs)) c.locations-locations.ensures in
    let p = err_from_is_err_and c.from_residual-in_err-ask_count-2.result c.from_residual-in_err-ask_count-2.ensures.1 in
    rw (p.1, p.2) (excess_breaks net (codes "hosts") c.host_count.result MAX_HOSTS (λ w n more e f. inr (s1, inl (subst (λ (m : ℕ). MAX_HOSTS < m) e2 more, e, f))) _ c.in_err-ask_count-2.ensures.err)

pub returns-in_err-ask_count-3-clause-err : goal.returns-in_err-ask_count-3-clause-err
returns-in_err-ask_count-3-clause-err c =
    let net = described_by c.args.shape.now in
    let ls = c.args.shape.now.named in
    let s1 : length ls ≤ MAX_LOCATIONS = subst (λ (xs : List Location). length xs ≤ MAX_LOCATIONS) c.locations-locations.ensures c.in_ok-ask_count.ensures.ok in
    let e2 : c.host_count.result ≡ length (host_addresses ls) = c.host_count.ensures ∙ ap (λ xs. length (host_addresses xs)) c.locations-locations.ensures in
    let s2 : length (host_addresses ls) ≤ MAX_HOSTS = subst (λ (n : ℕ). n ≤ MAX_HOSTS) e2 c.in_ok-ask_count-2.ensures.ok in
    let p = err_from_is_err_and c.from_residual-in_err-ask_count-3.result c.from_residual-in_err-ask_count-3.ensures.1 in
    rw (p.1, p.2) (excess_breaks net (codes "links") c.len.result MAX_LINKS (λ w n more e f. inr (s1, inr (s2, inl (omega (arith, more, c.len.ensures), e, f)))) _ c.in_err-ask_count-3.ensures.err)

pub returns-in_err-ask_count-4-clause-err : goal.returns-in_err-ask_count-4-clause-err
returns-in_err-ask_count-4-clause-err c =
    let net = described_by c.args.shape.now in
    let ls = c.args.shape.now.named in
    let s1 : length ls ≤ MAX_LOCATIONS = subst (λ (xs : List Location). length xs ≤ MAX_LOCATIONS) c.locations-locations.ensures c.in_ok-ask_count.ensures.ok in
    let e2 : c.host_count.result ≡ length (host_addresses ls) = c.host_count.ensures ∙ ap (λ xs. length (host_addresses xs)) c.locations-locations.ensures in
    let s2 : length (host_addresses ls) ≤ MAX_HOSTS = subst (λ (n : ℕ). n ≤ MAX_HOSTS) e2 c.in_ok-ask_count-2.ensures.ok in
    let s3 : length net.links ≤ MAX_LINKS = omega (arith, c.in_ok-ask_count-3.ensures.ok, c.len.ensures) in
    let p = err_from_is_err_and c.from_residual-in_err-ask_count-4.result c.from_residual-in_err-ask_count-4.ensures.1 in
    rw (p.1, p.2) (excess_breaks net (codes "functions") c.len-2.result MAX_FUNCTIONS (λ w n more e f. inr (s1, inr (s2, inr (s3, inl (omega (arith, more, c.len-2.ensures), e, f))))) _ c.in_err-ask_count-4.ensures.err)

pub returns-clause-ok : goal.returns-clause-ok
returns-clause-ok c =
    let net = described_by c.args.shape.now in
    let ls = c.args.shape.now.named in
    let s1 : length ls ≤ MAX_LOCATIONS = subst (λ (xs : List Location). length xs ≤ MAX_LOCATIONS) c.locations-locations.ensures c.in_ok-ask_count.ensures.ok in
    let e2 : c.host_count.result ≡ length (host_addresses ls) = c.host_count.ensures ∙ ap (λ xs. length (host_addresses xs)) c.locations-locations.ensures in
    let s2 : length (host_addresses ls) ≤ MAX_HOSTS = subst (λ (n : ℕ). n ≤ MAX_HOSTS) e2 c.in_ok-ask_count-2.ensures.ok in
    let s3 : length net.links ≤ MAX_LINKS = omega (arith, c.in_ok-ask_count-3.ensures.ok, c.len.ensures) in
    let s4 : length net.functions ≤ MAX_FUNCTIONS = omega (arith, c.in_ok-ask_count-4.ensures.ok, c.len-2.ensures) in
    let e5 : c.placement_count.result ≡ min (placements net.functions) (MAX_PLACEMENTS + 1) = c.placement_count.ensures ∙ ap (λ fs. min (placements fs) (MAX_PLACEMENTS + 1)) c.deref.ensures.value in
    on_ok (λ (few : c.placement_count.result ≤ MAX_PLACEMENTS). let s5 : placements net.functions ≤ MAX_PLACEMENTS = omega (arith, few, e5) in (s1, (s2, (s3, (s4, (s5, tt)))))) c.ask_count-5.result c.ask_count-5.ensures.ok

pub returns-clause-err : goal.returns-clause-err
returns-clause-err c =
    let net = described_by c.args.shape.now in
    let ls = c.args.shape.now.named in
    let s1 : length ls ≤ MAX_LOCATIONS = subst (λ (xs : List Location). length xs ≤ MAX_LOCATIONS) c.locations-locations.ensures c.in_ok-ask_count.ensures.ok in
    let e2 : c.host_count.result ≡ length (host_addresses ls) = c.host_count.ensures ∙ ap (λ xs. length (host_addresses xs)) c.locations-locations.ensures in
    let s2 : length (host_addresses ls) ≤ MAX_HOSTS = subst (λ (n : ℕ). n ≤ MAX_HOSTS) e2 c.in_ok-ask_count-2.ensures.ok in
    let s3 : length net.links ≤ MAX_LINKS = omega (arith, c.in_ok-ask_count-3.ensures.ok, c.len.ensures) in
    let s4 : length net.functions ≤ MAX_FUNCTIONS = omega (arith, c.in_ok-ask_count-4.ensures.ok, c.len-2.ensures) in
    let e5 : c.placement_count.result ≡ min (placements net.functions) (MAX_PLACEMENTS + 1) = c.placement_count.ensures ∙ ap (λ fs. min (placements fs) (MAX_PLACEMENTS + 1)) c.deref.ensures.value in
    if_err (excess_breaks net (codes "placements") c.placement_count.result MAX_PLACEMENTS (λ w n more e f. inr (s1, inr (s2, inr (s3, inr (s4, inl (omega (arith, more, e5), e, f))))))) c.ask_count-5.result c.ask_count-5.ensures.err
