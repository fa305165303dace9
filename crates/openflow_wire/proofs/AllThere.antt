-- A message without a fault in its fields has them all.
use Rattle.std.proofs.Common.{ℕ, ◌≡◌, ◌≤◌, ◌<◌, zero, suc, nat_le, Bool, true, false, not, ◌&&◌, cond, List, [], ◌∷◌, length, get_or, Option, Some, None, IfNone, option_map, arith, refl}
use Rattle.std.specs.List.{find}
use Rattle.std.proofs.lemmas.Bool.{leb-true}
use Rattle.openflow_wire.specs.declared.layout.Taken.{Taken}
use Rattle.openflow_wire.specs.declared.layout.Taken.TheVariants.{Any, AtMost}
use Rattle.openflow_wire.specs.declared.layout.TheConstants.{FIELDS}
use Rattle.openflow_wire.specs.Fields.{is_taken, may_hold, number_at}
use Rattle.openflow_wire.specs.Messages.{first_fault, fault_behind, message_fault}

-- where none is found, none passes
none_found : {X : Type 0} (p : X → Bool) (xs : List X) → find p xs ≡ None → (k : ℕ) (d : X) → k < length xs → p (get_or xs k d) ≡ false
none_found p [] e k d lt = absurd (omega arith)
none_found {X} p (x ∷ xs) e k d lt = by (p x) refl e (λ behind j l. none_found p xs behind j d l) k lt
  where
    by : (b : Bool) → p x ≡ b → cond b (Some x) (find p xs) ≡ None → (find p xs ≡ None → (j : ℕ) → j < length xs → p (get_or xs j d) ≡ false) → (k : ℕ) → k < length (x ∷ xs) → p (get_or (x ∷ xs) k d) ≡ false
    by true px e ih k lt = cc
    by false px e ih zero lt = px
    by false px e ih (suc k) lt = ih e k (omega arith)

all_there : (message : List ℕ) → find (λ field. not (is_taken message field)) FIELDS ≡ None → 72 ≤ length message
all_there message e = by (nat_le 72 (length message)) refl (none_found (λ field. not (is_taken message field)) FIELDS e 26 (0, 0, Any) (omega arith))
  where
    by : (b : Bool) → nat_le 72 (length message) ≡ b → not (b && may_hold (AtMost 1) message (number_at message 70 2)) ≡ false → 72 ≤ length message
    by true h e = leb-true 72 (length message) h
    by false h e = cc

pub whole : (message : List ℕ) → IfNone (first_fault message FIELDS) (72 ≤ length message)
whole message = by (find (λ field. not (is_taken message field)) FIELDS) refl
  where
    by : (o : Option (ℕ × ℕ × Taken)) → find (λ field. not (is_taken message field)) FIELDS ≡ o → IfNone (option_map (λ field. field.0) o) (72 ≤ length message)
    by None e = all_there message e
    by (Some field) e = tt

pub whole_message : (message : List ℕ) → message_fault message ≡ None → 72 ≤ length message
whole_message message e = by (first_fault message FIELDS) e (whole message)
  where
    by : (o : Option ℕ) → fault_behind message o ≡ None → IfNone o (72 ≤ length message) → 72 ≤ length message
    by None e h = h
    by (Some at) e h = cc
