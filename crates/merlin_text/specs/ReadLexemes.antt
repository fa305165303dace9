-- Lexemes as code has them.
use Rattle.merlin_text.specs.declared.lexeme.Lexeme.{Lexeme as ReadLexeme}
use Rattle.merlin_text.specs.declared.lexeme.Lexeme.TheVariants as read
use Rattle.merlin_text.specs.Lexemes.{Lexeme, name, word, sign, number, rate, mac, ip, prefix}

-- the lexeme that a value stands for
abbrev pub as_lexeme : ReadLexeme → Lexeme
as_lexeme (read.Name text place) = name text.now place
as_lexeme (read.Word w) = word w
as_lexeme (read.Number n) = number n
as_lexeme (read.Rate n) = rate n
as_lexeme (read.Mac n) = mac n
as_lexeme (read.Ip n) = ip n
as_lexeme (read.Prefix value bits) = prefix value bits
as_lexeme (read.Sign s) = sign s
