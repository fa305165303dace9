-- What the tables of a topology hold.
use Rattle.std.specs.Prelude.{◌≡◌, ◌≢◌, ℕ, List, map}
use Rattle.merlin_model.specs.declared.network.DirectedLink.{DirectedLink}
use Rattle.merlin_model.specs.Networks.{Pairwise}

-- each port of a location is that of one directed link, and at most one directed link leads from one location to another
abbrev pub HaveOwnKeys : List DirectedLink → Type 0
HaveOwnKeys = Pairwise (λ v w. v.from ≡ w.from → (v.out_port ≢ w.out_port) × (v.to ≢ w.to))

-- by location and port: the location and port at the other end
abbrev pub port_entry : DirectedLink → (ℕ × ℕ) × (ℕ × ℕ)
port_entry directed = ((directed.from, directed.out_port), (directed.to, directed.in_port))

-- by two locations: the port of the first
abbrev pub ends_entry : DirectedLink → (ℕ × ℕ) × ℕ
ends_entry directed = ((directed.from, directed.to), directed.out_port)

-- the entries of the two tables of directed links
abbrev pub AreLinkTables : List ((ℕ × ℕ) × (ℕ × ℕ)) → List ((ℕ × ℕ) × ℕ) → List DirectedLink → Type 0
AreLinkTables far_ends ports directed_links =
    (far_ends ≡ map port_entry directed_links) × (ports ≡ map ends_entry directed_links)
