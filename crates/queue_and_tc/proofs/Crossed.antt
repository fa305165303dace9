-- The steps of a walk, one by one, and the queues of a network, link by link.
use Rattle.std.proofs.Common.{ℕ, ◌≡◌, ◌<◌, ◌++◌, List, [], ◌∷◌, append_assoc, length, refl, sym, ◌∙◌, ap, arith}
use Rattle.std.specs.List.{flat_map}
use Rattle.merlin_model.specs.declared.config.Queue.{Queue}
use Rattle.merlin_model.specs.declared.network.Link.{Link}
use Rattle.merlin_model.specs.declared.network.DirectedLink.{DirectedLink}
use Rattle.merlin_model.specs.declared.policy.Symbol.{Symbol}
use Rattle.merlin_model.specs.Words.{crossings}
use Rattle.merlin_model.specs.Networks.{from_a, from_b, directed_links_of}

pub by-links : (f : DirectedLink → List Queue) (links : List Link) → flat_map f (directed_links_of links) ≡ flat_map (λ l. f (from_a l) ++ f (from_b l)) links
by-links f [] = refl
by-links f (l ∷ links) =
    ap (λ qs. f (from_a l) ++ (f (from_b l) ++ qs)) (by-links f links)
    ∙ sym (append_assoc (f (from_a l)) (f (from_b l)) (flat_map (λ k. f (from_a k) ++ f (from_b k)) links))

pub no-step : (w : List Symbol) (u v : ℕ) → length w < 2 → crossings w u v ≡ 0
no-step [] u v lt = refl
no-step (x ∷ []) u v lt = refl
no-step (x ∷ y ∷ rest) u v lt = absurd (omega arith)
