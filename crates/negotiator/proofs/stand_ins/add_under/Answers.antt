use Rattle.std.proofs.Common.{ℕ, List, ap, ap₂, ◌∙◌, ◌≡◌, ◌++◌, subst, OnOk}
use Rattle.merlin_model.specs.declared.policy.Field.TheVariants.{Proto, Sport, Dport}
use Rattle.merlin_model.specs.declared.policy.Pred.{Pred}
use Rattle.merlin_model.specs.Packets.{Packet}
use Rattle.predicate_logic.specs.Residues.{residues}
use Rattle.negotiator.specs.StandIns.{packets_from, ports_told}
use Rattle.negotiator.proofs.stand_ins.add_under.Goals as goal

pub returns : goal.returns
returns c =
    let at = ap (λ (n : ℕ). residues Proto n c.args.left.now) c.from.ensures in
    let sports = c.deref.ensures.value ∙ (c.in_ok-sports.ensures ∙ ap (λ (u : List Pred). ports_told Sport u c.args.proto) (c.as_slice.ensures ∙ (c.in_ok-under.ensures ∙ at))) in
    let dports = c.deref-2.ensures.value ∙ (c.in_ok-dports.ensures ∙ ap (λ (u : List Pred). ports_told Dport u c.args.proto) (c.as_slice-2.ensures ∙ (c.in_ok-under.ensures ∙ at))) in
    let same = ap₂ (λ (s d : List ℕ). packets_from c.args.src c.args.dst s d c.args.proto) sports dports in
    subst (λ (ps : List Packet). OnOk c.add_from.result (c.add_from.new.packets.items ≡ c.args.packets.now.items ++ ps)) same c.add_from.ensures
