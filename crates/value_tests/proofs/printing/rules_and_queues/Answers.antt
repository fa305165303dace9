use Rattle.std.proofs.Common.{refl}
use Rattle.std.specs.Fmt.{digits}
use Rattle.merlin_base.specs.Addresses.{mac_text, ip_text}
use Rattle.value_tests.proofs.printing.rules_and_queues.Goals as goal

pub returns : goal.returns
unfolding mac_text ip_text digits
returns c = refl
