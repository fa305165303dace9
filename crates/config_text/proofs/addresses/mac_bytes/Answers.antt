use Rattle.merlin_base.specs.Addresses.{mac_text}
use Rattle.config_text.proofs.addresses.mac_bytes.Goals as goal

pub returns : goal.returns
unfolding mac_text
returns c = simp (c.hex_digit.ensures, c.hex_digit-2.ensures, c.hex_digit-3.ensures, c.hex_digit-4.ensures, c.hex_digit-5.ensures, c.hex_digit-6.ensures, c.hex_digit-7.ensures, c.hex_digit-8.ensures, c.hex_digit-9.ensures, c.hex_digit-10.ensures, c.hex_digit-11.ensures, c.hex_digit-12.ensures, c.to_be_bytes.ensures)
