-- The packets that the statement of a pair speaks of.
use Rattle.std.specs.Prelude.{ℕ, ◌≡◌, ◌+◌, ◌↔◌, true, List, [], Option, Some, slice_get, unwrap_or}
use Rattle.merlin_model.specs.Packets.{Packet}
use Rattle.merlin_model.specs.Predicates.{holds}
use Rattle.policy_grammar.specs.declared.written.Literal.{Literal}
use Rattle.policy_grammar.specs.declared.written.Literal.TheVariants.{Mac, Ip}
use Rattle.policy_grammar.specs.declared.written.WrittenStatement.{WrittenStatement}
use Rattle.policy_expansion.specs.WrittenOut.{pairs, numbered}

-- the packet says that it comes from this address, or that it goes to it
abbrev pub ComesFrom : Packet → Literal → Type 0
ComesFrom p (Mac a) = p.eth_src ≡ a
ComesFrom p (Ip a) = p.ip_src ≡ a

abbrev pub GoesTo : Packet → Literal → Type 0
GoesTo p (Mac b) = p.eth_dst ≡ b
GoesTo p (Ip b) = p.ip_dst ≡ b

-- t is the statement of the pair at this place, counted from 0
pub record IsForPair (known : List ℕ → Option (List Literal)) (outer inner : List ℕ) (s : WrittenStatement) (place : ℕ) (t : WrittenStatement) : Type 0 where
  pub pair : Literal × Literal
  pub stands : slice_get (pairs (unwrap_or (known outer) []) (unwrap_or (known inner) [])) place ≡ Some pair
  pub id : t.id ≡ numbered s.id (place + 1)
  pub pred : (p : Packet) → (holds t.pred p ≡ true) ↔ (ComesFrom p pair.0 × GoesTo p pair.1 × (holds s.pred p ≡ true))
  pub path : t.path ≡ s.path
  pub limits : t.limits ≡ s.limits
