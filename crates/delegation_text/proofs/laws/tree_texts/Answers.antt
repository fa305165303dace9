use Rattle.delegation_text.proofs.OneTree.{entries-one, entries-apart, entries-kept}
use Rattle.delegation_text.proofs.laws.tree_texts.Goals as goal

pub returns-clause-one : goal.returns-clause-one
returns-clause-one c = entries-one

pub returns-clause-refused : goal.returns-clause-refused
returns-clause-refused c = entries-apart

pub returns-clause-kept : goal.returns-clause-kept
returns-clause-kept c = entries-kept
