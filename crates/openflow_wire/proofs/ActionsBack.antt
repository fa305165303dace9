-- The actions of a rule, read back from their bytes.
use Rattle.std.proofs.Common.{ℕ, ◌^◌, ◌≡◌, ◌<◌, Bool, true, false, ◌&&◌, cond, List, [], ◌∷◌, ◌++◌, drop, take, Some, None, option_map, refl, ap, ne_eqb, ◌∙◌, arith}
use Rattle.std.proofs.lemmas.Bool.{le-leb}
use Rattle.byteorder.specs.Numbers.{big_number-reads_back}
use Rattle.merlin_model.specs.declared.config.Out.{Out}
use Rattle.merlin_model.specs.declared.config.Out.TheVariants.{InPort, Port}
use Rattle.merlin_model.specs.declared.config.Action.{Action}
use Rattle.merlin_model.specs.declared.config.Action.TheVariants.{SetVlan, StripVlan, Output, Enqueue}
use Rattle.openflow_wire.specs.declared.numbers.TheConstants.{IN_PORT}
use Rattle.openflow_wire.specs.Rules.{AreActions, Sends, ChangesTag, IsOut, IsPhysicalPort, IsVlanId, IsQueueId}
use Rattle.openflow_wire.specs.Fields.{bytes_of, number_at, is_port, is_vlan_id, is_queue_id}
use Rattle.openflow_wire.specs.Messages.{out_number, action_numbers, actions_bytes, out_of, change_of, send_of, actions_after, actions_of}

both : (a b : Bool) → a ≡ true → b ≡ true → (a && b) ≡ true
both true true ea eb = refl
both true false ea eb = eb
both false b ea eb = ea

pub port_is : (n : ℕ) → IsPhysicalPort n → is_port n ≡ true
port_is n is = both _ _ (le-leb 1 n is.0) (le-leb n _ is.1)

pub vlan_id_is : (n : ℕ) → IsVlanId n → is_vlan_id n ≡ true
vlan_id_is n is = both _ _ (le-leb 1 n is.0) (le-leb n _ is.1)

queue_id_is : (n : ℕ) → IsQueueId n → is_queue_id n ≡ true
queue_id_is n is = both _ _ (le-leb 1 n is.0) (le-leb n _ is.1)

out_back : (out : Out) → IsOut out → out_of (out_number out) ≡ Some out
out_back InPort is = refl
out_back (Port n) is =
    ap (λ (b : Bool). cond b (Some InPort) (cond (is_port n) (Some (Port n)) None)) (ne_eqb n IN_PORT (λ e. omega (arith, e, is)))
    ∙ ap (λ (b : Bool). cond b (Some (Port n)) None) (port_is n is)

out_small : (out : Out) → IsOut out → out_number out < 2 ^ 16
out_small InPort is = omega arith
out_small (Port n) is = omega (arith, is)

-- an action that changes the tag, with what stands behind it
change_back : (change : Action) → ChangesTag change → (rest : List ℕ) →
    change_of (take 8 (bytes_of (action_numbers change) ++ rest)) ≡ Some change
change_back (SetVlan n) is rest =
    let n_back = big_number-reads_back 2 n (0 ∷ 0 ∷ []) (omega (arith, is)) in
    ap (λ k. cond (is_vlan_id k) (Some (SetVlan k)) None) n_back
    ∙ ap (λ (b : Bool). cond b (Some (SetVlan n)) None) (vlan_id_is n is)
change_back StripVlan is rest = refl
change_back (Output out) is rest = absurd is
change_back (Enqueue out queue) is rest = absurd is

send_back : (send : Action) → Sends send → send_of (bytes_of (action_numbers send)) ≡ Some send
send_back (SetVlan n) is = absurd is
send_back StripVlan is = absurd is
send_back (Output out) is =
    ap (λ k. option_map Output (out_of k)) (big_number-reads_back 2 (out_number out) (0 ∷ 0 ∷ []) (out_small out is))
    ∙ ap (option_map Output) (out_back out is)
send_back (Enqueue out queue) is =
    let queue_back = big_number-reads_back 4 queue [] (omega (arith, is.1)) in
    let port_back = big_number-reads_back 2 (out_number out) (drop 6 (bytes_of (action_numbers (Enqueue out queue)))) (out_small out is.0) in
    ap (λ (q : ℕ). cond (is_queue_id q) (option_map (λ o. Enqueue o q) (out_of (number_at (bytes_of (action_numbers (Enqueue out queue))) 4 2))) None) queue_back
    ∙ ap (λ (b : Bool). cond b (option_map (λ o. Enqueue o queue) (out_of (number_at (bytes_of (action_numbers (Enqueue out queue))) 4 2))) None) (queue_id_is queue is.1)
    ∙ ap (λ (k : ℕ). option_map (λ o. Enqueue o queue) (out_of k)) port_back
    ∙ ap (option_map (λ o. Enqueue o queue)) (out_back out is.0)

-- an action that changes the tag, and then one that sends
two_back : (change send : Action) → ChangesTag change → Sends send → (bytes : List ℕ) →
    take 8 bytes ≡ take 8 (bytes_of (action_numbers change) ++ []) → drop 8 bytes ≡ bytes_of (action_numbers send) →
    actions_after (change_of (take 8 bytes)) bytes ≡ Some (change ∷ send ∷ [])
two_back change send changes sends bytes front behind =
    ap (λ bs. actions_after (change_of bs) bytes) front
    ∙ ap (λ o. actions_after o bytes) (change_back change changes [])
    ∙ ap (λ bs. option_map (λ s. change ∷ s ∷ []) (send_of bs)) behind
    ∙ ap (option_map (λ s. change ∷ s ∷ [])) (send_back send sends)

pub actions_back : (actions : List Action) → AreActions actions → actions_of (actions_bytes actions) ≡ Some actions
actions_back [] is = refl
actions_back (SetVlan n ∷ []) is = absurd is
actions_back (StripVlan ∷ []) is = absurd is
actions_back (Output out ∷ []) is = ap (option_map (λ s. s ∷ [])) (send_back (Output out) is)
actions_back (Enqueue out queue ∷ []) is = ap (option_map (λ s. s ∷ [])) (send_back (Enqueue out queue) is)
actions_back (SetVlan n ∷ Output out ∷ []) is = two_back (SetVlan n) (Output out) is.0 is.1 (actions_bytes (SetVlan n ∷ Output out ∷ [])) refl refl
actions_back (SetVlan n ∷ Enqueue out queue ∷ []) is =
    two_back (SetVlan n) (Enqueue out queue) is.0 is.1 (actions_bytes (SetVlan n ∷ Enqueue out queue ∷ [])) refl refl
actions_back (StripVlan ∷ Output out ∷ []) is = two_back StripVlan (Output out) is.0 is.1 (actions_bytes (StripVlan ∷ Output out ∷ [])) refl refl
actions_back (StripVlan ∷ Enqueue out queue ∷ []) is =
    two_back StripVlan (Enqueue out queue) is.0 is.1 (actions_bytes (StripVlan ∷ Enqueue out queue ∷ [])) refl refl
actions_back (SetVlan n ∷ SetVlan k ∷ []) is = absurd is.1
actions_back (SetVlan n ∷ StripVlan ∷ []) is = absurd is.1
actions_back (StripVlan ∷ SetVlan k ∷ []) is = absurd is.1
actions_back (StripVlan ∷ StripVlan ∷ []) is = absurd is.1
actions_back (Output out ∷ b ∷ []) is = absurd is.0
actions_back (Enqueue out queue ∷ b ∷ []) is = absurd is.0
actions_back (a ∷ b ∷ c ∷ actions) is = absurd is
