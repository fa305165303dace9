-- How addresses are written: numbers of 48 and of 32 bits, octet by octet from the highest.
use Rattle.std.specs.Prelude.{ℕ, ◌/◌, ◌%◌, false, List, [], ◌∷◌, map}
use Rattle.std.specs.Fmt.{decimal, digit_glyph}
use Rattle.std.specs.Int.{bytes_high_first}
use Rattle.std.specs.List.{join_with_byte}

-- two hexadecimal digits, in lower case
abbrev pub hex_pair : ℕ → List ℕ
hex_pair byte = digit_glyph false (byte / 16) ∷ digit_glyph false (byte % 16) ∷ []

-- an Ethernet address: six octets in hexadecimal, joined by colons
unfoldable pub mac_text : ℕ → List ℕ
mac_text eth = join_with_byte 58 (map hex_pair (bytes_high_first 6 eth))

-- an IPv4 address: four octets in decimal, joined by dots
unfoldable pub ip_text : ℕ → List ℕ
ip_text ip = join_with_byte 46 (map decimal (bytes_high_first 4 ip))
