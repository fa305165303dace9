use Rattle.delegation.proofs.Compositions.{compositions-are, whole-from, root-count, each-within}
use Rattle.delegation.proofs.laws.compositions_of_a_tree.Goals as goal

pub returns-clause-exist : goal.returns-clause-exist
returns-clause-exist c nodes tree = (_, compositions-are nodes tree)

pub returns-clause-first : goal.returns-clause-first
returns-clause-first c nodes composition tree is = root-count nodes tree is.all composition is.are is.stands

pub returns-clause-each : goal.returns-clause-each
returns-clause-each c nodes k composition tree is = each-within 0 nodes is.all (whole-from nodes tree is.all is.are) k composition is.stands
