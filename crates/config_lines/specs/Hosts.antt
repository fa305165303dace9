-- What stands in the line of a host behind its name, and behind that. A line of iptables has what it matches, then its target.
use Rattle.std.specs.Prelude.{ℕ, ◌≡◌, ◌<◌, ◌++◌, ◌∷◌, ◌⊎◌, Bool, true, false, List, Option, None, Some, codes}
use Rattle.std.specs.Fmt.{decimal, digits, digit_glyph}
use Rattle.merlin_model.specs.declared.config.HostMatch.{HostMatch}
use Rattle.merlin_model.specs.declared.config.HostLine.{HostLine}
use Rattle.merlin_model.specs.declared.config.HostLine.TheVariants as on_host
use Rattle.merlin_base.specs.Addresses.{ip_text}
use Rattle.config_text.specs.Lines.{proto_text, rate_with_unit}
use Rattle.config_lines.specs.declared.hosts.Ports.{Ports}
use Rattle.config_lines.specs.Words.{HasFewDigits, IsOptional}
use Rattle.config_lines.specs.Parts.{HasOneByte, HasTwoBytes, MayNamePorts}
use Rattle.config_lines.specs.Lines.{IsClass}

-- a hexadecimal digit, in lower case
abbrev pub IsGlyph : ℕ → Type 0
IsGlyph byte = (v : ℕ) × (v < 16) × (byte ≡ digit_glyph false v)

-- an option with its argument and a blank behind each, if it is given
abbrev pub option_then : List ℕ → (ℕ → List ℕ) → Option ℕ → List ℕ → List ℕ
option_then name text None more = more
option_then name text (Some n) more = name ++ (text n ++ 32 ∷ more)

-- the protocol, the ports, and the option that names the target
abbrev pub ports_then : Ports → List ℕ → List ℕ
ports_then p more =
    option_then (codes "-p ") proto_text p.proto
    (option_then (codes "--sport ") decimal p.sport (option_then (codes "--dport ") decimal p.dport (codes "-j " ++ more)))

pub record ArePorts (p : Ports) : Type 0 where
  pub proto : IsOptional HasOneByte p.proto
  pub sport : IsOptional HasTwoBytes p.sport
  pub dport : IsOptional HasTwoBytes p.dport
  pub ports : (p.sport ≡ None) × (p.dport ≡ None) ⊎ MayNamePorts p.proto

abbrev pub ports_of : HostMatch → Ports
ports_of m = record { proto = m.proto; sport = m.sport; dport = m.dport }

abbrev pub match_then : HostMatch → List ℕ → List ℕ
match_then m more =
    codes "-s " ++ (ip_text m.src ++ 32 ∷ (codes "-d " ++ (ip_text m.dst ++ 32 ∷ ports_then (ports_of m) more)))

-- a class with its rate and its ceiling, from its number on
abbrev pub class_then : ℕ → ℕ → ℕ → List ℕ → List ℕ
class_then class rate ceil more =
    digits 16 false class ++ 32 ∷ (codes "htb rate " ++ (rate_with_unit rate ++ (codes " ceil " ++ (rate_with_unit ceil ++ (codes "\n" ++ more)))))

abbrev pub AreRates : ℕ → ℕ → ℕ → Type 0
AreRates class rate ceil = IsClass class × HasFewDigits rate × HasFewDigits ceil

-- what a line of POSTROUTING does: it gives a class, or it leaves the list
abbrev pub target_then : Option ℕ → List ℕ → List ℕ
target_then (Some class) more = codes "CLASSIFY --set-class 1:" ++ (digits 16 false class ++ 10 ∷ more)
target_then None more = codes "RETURN\n" ++ more

abbrev pub postrouting : ℕ → HostMatch → Option ℕ → HostLine
postrouting host m (Some class) = on_host.Classify host m class
postrouting host m None = on_host.Leave host m

-- what a line of OUTPUT does
abbrev pub verdict_then : Bool → List ℕ → List ℕ
verdict_then true more = codes "DROP\n" ++ more
verdict_then false more = codes "RETURN\n" ++ more

-- what the line says of its host
abbrev pub host_then : HostLine → List ℕ → List ℕ
host_then (on_host.Root host) more = codes "tc qdisc add dev eth0 root handle 1: htb\n" ++ more
host_then (on_host.Class host class rate ceil) more = codes "tc class add dev eth0 parent 1: classid 1:" ++ class_then class rate ceil more
host_then (on_host.Classify host m class) more = codes "iptables -t mangle -A POSTROUTING " ++ match_then m (target_then (Some class) more)
host_then (on_host.Leave host m) more = codes "iptables -t mangle -A POSTROUTING " ++ match_then m (target_then None more)
host_then (on_host.Output host m drop) more = codes "iptables -A OUTPUT " ++ match_then m (verdict_then drop more)
