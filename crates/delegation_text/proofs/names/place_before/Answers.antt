use Rattle.std.proofs.Common.{is_some, sym, ◌∙◌, ap, arith}
use Rattle.delegation_text.proofs.Finding.{found-name, found-first, none-there}
use Rattle.delegation_text.proofs.names.place_before.Goals as goal

pub returns-in-Some-clause-some : goal.returns-in-Some-clause-some
returns-in-Some-clause-some c = (c.if-found-place.true, found-name c.args.name.now c.args.names.now.keys c.get_index_of.result c.in-Some.found c.get_index_of.ensures.index c.in-Some.is)

pub returns-in_default-clause-none : goal.returns-in_default-clause-none
returns-in_default-clause-none c k earlier =
    found-first c.args.name.now c.args.names.now.keys c.get_index_of.result c.in-Some.found k c.get_index_of.ensures.index c.in-Some.is earlier.1 (let a = earlier.0 in let b = c.if-found-place.false in omega arith)

pub returns-in_default-2-clause-none : goal.returns-in_default-2-clause-none
returns-in_default-2-clause-none c k earlier = none-there c.args.name.now c.args.names.now.keys (sym c.get_index_of.ensures.found ∙ ap is_some c.in_default.is) k earlier.1
