use Rattle.std.proofs.Common.{◌≡◌, ℕ, List, true, nat_eq, sym, Bor}
use Rattle.std.specs.Cmp.Lexicographic.{pointwise}
use Rattle.std.proofs.lemmas.Slice.Eq.{bytes_eq-Decides}
use Rattle.topology_rules.specs.Rules.{AreOne}
use Rattle.topology_rules.proofs.KeyClashes.{no_clash_itself, first_clash_itself, no_clash_seen, first_clash_seen, some_from, none_from}
use Rattle.topology_rules.proofs.names.repeated_name.Goals as goal

told : (x y : Bor (List ℕ)) → pointwise nat_eq y.now x.now ≡ true → x.now ≡ y.now
told x y e = sym ((bytes_eq-Decides y.now x.now).0 e)

untold : (x y : Bor (List ℕ)) → x.now ≡ y.now → pointwise nat_eq x.now y.now ≡ true
untold x y e = (bytes_eq-Decides x.now y.now).1 e

pub returns-clause-some : goal.returns-clause-some
returns-clause-some c =
    some_from (λ place repeated. first_clash_seen (λ (n : Bor (List ℕ)). n.now) AreOne c.args.names.now place (first_clash_itself (λ (x y : Bor (List ℕ)). pointwise nat_eq x.now y.now) (λ x y. x.now ≡ y.now) told untold c.args.names.now place repeated)) c.first_repeated.result c.first_repeated.ensures.some

pub returns-clause-none : goal.returns-clause-none
returns-clause-none c =
    none_from (λ distinct. no_clash_seen (λ (n : Bor (List ℕ)). n.now) AreOne c.args.names.now (no_clash_itself (λ (x y : Bor (List ℕ)). pointwise nat_eq x.now y.now) (λ x y. x.now ≡ y.now) told untold c.args.names.now distinct)) c.first_repeated.result c.first_repeated.ensures.none
