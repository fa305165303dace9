use Rattle.std.proofs.Common.{refl}
use Rattle.std.specs.Fmt.{digits}
use Rattle.merlin_model.specs.declared.certificate.Tree.TheBlock.{hidden-the_row-Tree-0}
use denote.Hole.Carrier.{hidden}
use Rattle.merlin_base.specs.Addresses.{mac_text}
use Rattle.value_tests.proofs.results.one_result.Goals as goal

pub returns : goal.returns
unfolding mac_text digits hidden-the_row-Tree-0 hidden
returns c = refl
