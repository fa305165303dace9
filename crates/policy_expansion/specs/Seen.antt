-- The literals that were met.
use Rattle.std.specs.Prelude.{Bool}
use Rattle.std.specs.Ordering.{nat_cmp}
use Rattle.std.specs.BTreeSet.{contains}
use Rattle.policy_grammar.specs.declared.written.Literal.{Literal}
use Rattle.policy_grammar.specs.declared.written.Literal.TheVariants.{Mac, Ip}
use Rattle.policy_expansion.specs.declared.literals.Seen.{Seen}

abbrev pub has_seen : Seen → Literal → Bool
has_seen seen (Mac a) = contains nat_cmp seen.macs a
has_seen seen (Ip a) = contains nat_cmp seen.ips a
