use Rattle.delegation.proofs.Unrefused.{form-expanded, form-kept, unbroken}
use Rattle.delegation.proofs.laws.localised_forms_keep_all_rules.Goals as goal

pub returns-clause-expanded : goal.returns-clause-expanded
returns-clause-expanded c = form-expanded

pub returns-clause-kept : goal.returns-clause-kept
returns-clause-kept c net symbols raw expanded kept = form-kept raw net expanded symbols kept

pub returns-clause-unbroken : goal.returns-clause-unbroken
returns-clause-unbroken c net symbols raw fault kept = unbroken net symbols raw kept fault
