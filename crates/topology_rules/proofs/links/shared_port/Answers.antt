use Rattle.std.proofs.Common.{◌≡◌, ◌∙◌, ℕ, List, map, subst}
use Rattle.std.specs.List.{IsDistinct}
use Rattle.topology_rules.specs.Clashes.{IsFirstRepeated}
use Rattle.topology_rules.specs.Keys.{port_key}
use Rattle.topology_rules.specs.Rules.{SharePort}
use Rattle.topology_rules.proofs.KeyClashes.{no_clash, first_clash, some_from, none_from}
use Rattle.topology_rules.proofs.Telling.{pair_eq, port_told, port_untold}
use Rattle.topology_rules.proofs.links.shared_port.Goals as goal

pub returns-clause-some : goal.returns-clause-some
returns-clause-some c =
    let keys : c.deref.result.now ≡ map port_key c.args.directed_links.now = c.deref.ensures.value ∙ c.in_ok-keys.ensures in
    some_from (λ place repeated. first_clash pair_eq port_key SharePort port_told port_untold c.args.directed_links.now place (subst (λ (ks : List (ℕ × ℕ)). IsFirstRepeated pair_eq ks place) keys repeated)) c.first_repeated.result c.first_repeated.ensures.some

pub returns-clause-none : goal.returns-clause-none
returns-clause-none c =
    let keys : c.deref.result.now ≡ map port_key c.args.directed_links.now = c.deref.ensures.value ∙ c.in_ok-keys.ensures in
    none_from (λ distinct. no_clash pair_eq port_key SharePort port_told port_untold c.args.directed_links.now (subst (λ (ks : List (ℕ × ℕ)). IsDistinct pair_eq ks) keys distinct)) c.first_repeated.result c.first_repeated.ensures.none
