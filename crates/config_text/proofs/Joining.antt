-- Texts joined by a byte, piece by piece.
use Rattle.std.proofs.Common.{◌≡◌, ℕ, List, [], ◌∷◌, ◌++◌, sym, ap, append-nil}
use Rattle.std.specs.List.{flat_map, join_with_byte}

-- after the first text each has the byte before it
pub joined_after_first : (byte : ℕ) (text : List ℕ) (texts : List (List ℕ)) → join_with_byte byte (text ∷ texts) ≡ text ++ flat_map (λ t. byte ∷ t) texts
joined_after_first byte text [] = sym (append-nil text)
joined_after_first byte text (next ∷ texts) = ap (λ rest. text ++ byte ∷ rest) (joined_after_first byte next texts)
