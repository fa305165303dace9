use Rattle.delegation_verdict.proofs.OneTree.{Delegates-one, Delegates-accepted, Delegates-wider, Delegates-refused}
use Rattle.delegation_verdict.proofs.laws.delegate_replies.Goals as goal

pub returns-clause-accepted : goal.returns-clause-accepted
returns-clause-accepted c = λ tree topology texts net nodes reply stand is. Delegates-accepted (record { one_net = c.one_network.ensures.one; net_apart = c.one_network.ensures.apart; one_tree = c.tree_texts.ensures.one; tree_apart = c.tree_texts.ensures.refused }) tree topology texts (record { unbroken = c.localised_forms_keep_all_rules.ensures.unbroken; sums = record { caps = c.all_touching_decide.ensures.caps; reserves = c.all_touching_decide.ensures.reserves } }) net nodes reply stand is

pub returns-clause-wider : goal.returns-clause-wider
returns-clause-wider c = λ tree topology texts net nodes reply stand few not. Delegates-wider (record { one_net = c.one_network.ensures.one; net_apart = c.one_network.ensures.apart; one_tree = c.tree_texts.ensures.one; tree_apart = c.tree_texts.ensures.refused }) tree topology texts (record { unbroken = c.localised_forms_keep_all_rules.ensures.unbroken; sums = record { caps = c.all_touching_decide.ensures.caps; reserves = c.all_touching_decide.ensures.reserves } }) net nodes reply stand few not

pub returns-clause-refused : goal.returns-clause-refused
returns-clause-refused c = λ tree topology texts net nodes reply stand many. Delegates-refused (record { one_net = c.one_network.ensures.one; net_apart = c.one_network.ensures.apart; one_tree = c.tree_texts.ensures.one; tree_apart = c.tree_texts.ensures.refused }) tree topology texts (record { unbroken = c.localised_forms_keep_all_rules.ensures.unbroken; sums = record { caps = c.all_touching_decide.ensures.caps; reserves = c.all_touching_decide.ensures.reserves } }) net nodes reply stand many

pub returns-clause-one : goal.returns-clause-one
returns-clause-one c = λ tree topology texts. Delegates-one (record { one_net = c.one_network.ensures.one; net_apart = c.one_network.ensures.apart; one_tree = c.tree_texts.ensures.one; tree_apart = c.tree_texts.ensures.refused }) tree topology texts (record { unbroken = c.localised_forms_keep_all_rules.ensures.unbroken; sums = record { caps = c.all_touching_decide.ensures.caps; reserves = c.all_touching_decide.ensures.reserves } })
