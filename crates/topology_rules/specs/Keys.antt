-- By which keys links are told apart.
use Rattle.std.specs.Prelude.{ℕ, nat_lt, if◌then◌else◌}
use Rattle.merlin_model.specs.declared.network.Link.{Link}
use Rattle.merlin_model.specs.declared.network.DirectedLink.{DirectedLink}

-- the location and its port
abbrev pub port_key : DirectedLink → ℕ × ℕ
port_key directed = (directed.from, directed.out_port)

-- the two ends, the lesser first
abbrev pub ends_key : Link → ℕ × ℕ
ends_key link = if nat_lt link.a link.b then (link.a, link.b) else (link.b, link.a)
