use Rattle.merlin.proofs.Refining.{IsRefineReply-refines, IsRefineReply-wider, IsRefineReply-cells, IsRefineReply-one}
use Rattle.merlin.proofs.laws.refine_replies.Goals as goal

pub returns-clause-refines : goal.returns-clause-refines
returns-clause-refines c = IsRefineReply-refines (record { one = c.one_network.ensures.one; apart = c.one_network.ensures.apart; caps = c.all_touching_decide.ensures.caps; reserves = c.all_touching_decide.ensures.reserves })

pub returns-clause-wider : goal.returns-clause-wider
returns-clause-wider c = IsRefineReply-wider (record { one = c.one_network.ensures.one; apart = c.one_network.ensures.apart; caps = c.all_touching_decide.ensures.caps; reserves = c.all_touching_decide.ensures.reserves })

pub returns-clause-cells : goal.returns-clause-cells
returns-clause-cells c = IsRefineReply-cells (record { one = c.one_network.ensures.one; apart = c.one_network.ensures.apart; caps = c.all_touching_decide.ensures.caps; reserves = c.all_touching_decide.ensures.reserves })

pub returns-clause-one : goal.returns-clause-one
returns-clause-one c = IsRefineReply-one (record { one = c.one_network.ensures.one; apart = c.one_network.ensures.apart; caps = c.all_touching_decide.ensures.caps; reserves = c.all_touching_decide.ensures.reserves })
