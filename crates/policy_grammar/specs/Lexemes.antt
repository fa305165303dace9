-- Lexemes, as the grammar cites them.
pub use Rattle.merlin_text.specs.Lexemes.{Lexeme, name, word, sign, number, rate, mac, ip, prefix, IsSpelled, lexeme, lexemes, bound_word, separated}
