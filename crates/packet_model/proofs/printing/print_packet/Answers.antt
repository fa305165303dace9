use Rattle.std.proofs.Common.{◌≡◌, ◌∙◌, ◌++◌, ◌∷◌, sym, subst}
use Rattle.std.specs.Fmt.{decimal}
use Rattle.std.specs.String.{string_bytes}
use Rattle.std.proofs.lemmas.Result.{IfOk-weaker}
use Rattle.merlin_model.specs.Packets.{IsPacket}
use Rattle.packet_model.specs.Texts.{packet_text, IsPacketText}
use Rattle.packet_model.proofs.Parts.{same_parts}
use Rattle.packet_model.proofs.Printed.{packet_reads_back}
use Rattle.packet_model.proofs.printing.print_packet.Goals as goal

pub returns-clause-text : goal.returns-clause-text
returns-clause-text c =
    let p = c.packet.inside in
    let numbers : string_bytes c.in_ok-numbers.numbers ≡ decimal p.proto ++ 44 ∷ (decimal p.sport ++ 44 ∷ decimal p.dport) = c.in_ok-numbers.ensures.ok in
    IfOk-weaker c.join_parts.result _ _
    (λ text is. subst (λ q. text ≡ packet_text q) c.packet.view_is (is ∙ same_parts c.in_ok-mac_text.ensures c.in_ok-mac_text-2.ensures c.in_ok-ip_text.ensures c.in_ok-ip_text-2.ensures (c.deref.ensures ∙ numbers)))
    c.join_parts.ensures

pub returns-clause-reads_back : goal.returns-clause-reads_back
returns-clause-reads_back c =
    let is : IsPacket c.args.packet.now = subst IsPacket c.packet.view_is c.packet.invariant in
    IfOk-weaker c.join_parts.result _ _ (λ text same. subst (λ t. IsPacketText t c.args.packet.now) (sym same) (packet_reads_back c.args.packet.now is)) (returns-clause-text c)
