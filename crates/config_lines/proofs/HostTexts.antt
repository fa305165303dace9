-- The lines of hosts are told apart.
use Rattle.std.proofs.Common.{◌≡◌, ℕ, Bool, false, List, ◌∷◌, ◌++◌, refl, sym, ◌∙◌, arith}
use Rattle.std.proofs.lemmas.List.{append_cancel_left}
use Rattle.std.specs.Prelude.{Option, None, Some, codes}
use Rattle.std.specs.Fmt.{digits}
use Rattle.merlin_model.specs.declared.config.HostMatch.{HostMatch}
use Rattle.merlin_model.specs.declared.config.HostLine.{HostLine}
use Rattle.merlin_model.specs.declared.config.HostLine.TheVariants as on_host
use Rattle.merlin_base.specs.Addresses.{ip_text}
use Rattle.config_text.specs.Lines.{rate_with_unit}
use Rattle.config_lines.specs.Words.{HasFewDigits, IsOptional}
use Rattle.config_lines.specs.Parts.{IsHostMatch}
use Rattle.config_lines.specs.Lines.{IsClass, AreHostNumbers}
use Rattle.config_lines.specs.Hosts.{ports_then, ArePorts, ports_of, match_then, AreRates, class_then, target_then, verdict_then, host_then}
use Rattle.config_lines.proofs.Then.{behind_word, behind_part, behind_rate}
use Rattle.config_lines.proofs.AddressTexts.{ip_free}
use Rattle.config_lines.proofs.ClassTexts.{class_free}
use Rattle.config_lines.proofs.PortTexts.{ports_once}

heads : (a b : ℕ) (x y : List ℕ) → a ∷ x ≡ b ∷ y → a ≡ b
heads a b x y e = cc

pub ports_lawful : (m : HostMatch) → IsHostMatch m → ArePorts (ports_of m)
ports_lawful m is = record { proto = is.proto; sport = is.sport; dport = is.dport; ports = is.ports }

-- What stands behind the addresses of a match.

pub start_match : (text r more : List ℕ) (m : HostMatch) → text ≡ codes "-s " ++ r → text ≡ match_then m more → r ≡ ip_text m.src ++ 32 ∷ (codes "-d " ++ (ip_text m.dst ++ 32 ∷ ports_then (ports_of m) more))
start_match text r more m e h = behind_word (codes "-s ") text r _ e h

pub after_src : (text r more : List ℕ) (src : ℕ) (m : HostMatch) → text ≡ ip_text src ++ 32 ∷ r → text ≡ ip_text m.src ++ 32 ∷ (codes "-d " ++ (ip_text m.dst ++ 32 ∷ ports_then (ports_of m) more)) → r ≡ codes "-d " ++ (ip_text m.dst ++ 32 ∷ ports_then (ports_of m) more)
after_src text r more src m e h = behind_part 32 text (ip_text src) r (ip_text m.src) _ e (ip_free 32 src (omega arith)) (ip_free 32 m.src (omega arith)) h

pub after_option : (text r more : List ℕ) (m : HostMatch) → text ≡ codes "-d " ++ r → text ≡ codes "-d " ++ (ip_text m.dst ++ 32 ∷ ports_then (ports_of m) more) → r ≡ ip_text m.dst ++ 32 ∷ ports_then (ports_of m) more
after_option text r more m e h = behind_word (codes "-d ") text r _ e h

pub after_dst : (text r more : List ℕ) (dst : ℕ) (m : HostMatch) → text ≡ ip_text dst ++ 32 ∷ r → text ≡ ip_text m.dst ++ 32 ∷ ports_then (ports_of m) more → r ≡ ports_then (ports_of m) more
after_dst text r more dst m e h = behind_part 32 text (ip_text dst) r (ip_text m.dst) _ e (ip_free 32 dst (omega arith)) (ip_free 32 m.dst (omega arith)) h

-- matches that one text has twice leave the same behind them
pub match_once : (m n : HostMatch) (text x y : List ℕ) → IsHostMatch m → IsHostMatch n → text ≡ match_then m x → text ≡ match_then n y → x ≡ y
match_once m n text x y f g e h =
    let a = start_match text _ y n e h in
    let b = after_src _ _ y m.src n refl a in
    let c = after_option _ _ y n refl b in
    let d = after_dst _ _ y m.dst n refl c in
    ports_once (ports_of m) (ports_of n) (ports_then (ports_of m) x) x y (ports_lawful m f) (ports_lawful n g) refl d

-- Classes.

pub after_class : (text r more : List ℕ) (n class rate ceil : ℕ) → text ≡ digits 16 false n ++ 32 ∷ r → IsClass n → AreRates class rate ceil → text ≡ class_then class rate ceil more →
    r ≡ codes "htb rate " ++ (rate_with_unit rate ++ (codes " ceil " ++ (rate_with_unit ceil ++ (codes "\n" ++ more))))
after_class text r more n class rate ceil e f g h = behind_part 32 text (digits 16 false n) r (digits 16 false class) _ e (class_free 32 n (omega arith) f) (class_free 32 class (omega arith) g.0) h

pub after_htb : (text r more : List ℕ) (rate ceil : ℕ) → text ≡ codes "htb rate " ++ r → text ≡ codes "htb rate " ++ (rate_with_unit rate ++ (codes " ceil " ++ (rate_with_unit ceil ++ (codes "\n" ++ more)))) →
    r ≡ rate_with_unit rate ++ (codes " ceil " ++ (rate_with_unit ceil ++ (codes "\n" ++ more)))
after_htb text r more rate ceil e h = behind_word (codes "htb rate ") text r _ e h

pub after_rate : (text r more : List ℕ) (n rate ceil : ℕ) → text ≡ rate_with_unit n ++ (codes " ceil " ++ r) → HasFewDigits n → HasFewDigits rate → text ≡ rate_with_unit rate ++ (codes " ceil " ++ (rate_with_unit ceil ++ (codes "\n" ++ more))) →
    r ≡ rate_with_unit ceil ++ (codes "\n" ++ more)
after_rate text r more n rate ceil e f g h = append_cancel_left (codes " ceil ") r _ (behind_rate text (codes " ceil " ++ r) _ n rate e f g h)

-- Targets.

pub no_target : (text : List ℕ) → ((rest : List ℕ) → text ≡ codes "RETURN\n" ++ rest → ⊥) → ((rest : List ℕ) → text ≡ codes "CLASSIFY --set-class 1:" ++ rest → ⊥) → (class : Option ℕ) (rest : List ℕ) → IsOptional IsClass class → text ≡ target_then class rest → ⊥
no_target text leave classify None rest is e = leave rest e
no_target text leave classify (Some n) rest is e = classify (digits 16 false n ++ 10 ∷ rest) e

pub no_class : (text r : List ℕ) → text ≡ codes "CLASSIFY --set-class 1:" ++ r → ((n : ℕ) (rest : List ℕ) → IsClass n → r ≡ digits 16 false n ++ 10 ∷ rest → ⊥) → (class : Option ℕ) (rest : List ℕ) → IsOptional IsClass class → text ≡ target_then class rest → ⊥
no_class text r e none None rest is h = let a = heads 67 82 _ _ (sym e ∙ h) in omega arith
no_class text r e none (Some n) rest is h = none n rest is (behind_word (codes "CLASSIFY --set-class 1:") text r _ e h)

-- Whole lines, behind the host's name.

fourth : (a b c d f g h k : ℕ) (x y : List ℕ) → a ∷ b ∷ c ∷ d ∷ x ≡ f ∷ g ∷ h ∷ k ∷ y → d ≡ k
fourth a b c d f g h k x y e = cc

option_of : (a b : ℕ) (x y : List ℕ) → codes "iptables -" ++ a ∷ x ≡ codes "iptables -" ++ b ∷ y → a ≡ b
option_of a b x y e = let rest = append_cancel_left (codes "iptables -") (a ∷ x) (b ∷ y) e in cc

pub no_rates : (text r : List ℕ) → text ≡ codes "tc class add dev eth0 parent 1: classid 1:" ++ r → ((class rate ceil : ℕ) (rest : List ℕ) → AreRates class rate ceil → r ≡ class_then class rate ceil rest → ⊥) →
    (h : HostLine) (more : List ℕ) → AreHostNumbers h → text ≡ host_then h more → ⊥
no_rates text r e none (on_host.Root host) more is h = let a = fourth 116 99 32 99 116 99 32 113 _ _ (sym e ∙ h) in omega arith
no_rates text r e none (on_host.Class host class rate ceil) more is h = none class rate ceil more is (behind_word (codes "tc class add dev eth0 parent 1: classid 1:") text r _ e h)
no_rates text r e none (on_host.Classify host m class) more is h = let a = heads 116 105 _ _ (sym e ∙ h) in omega arith
no_rates text r e none (on_host.Leave host m) more is h = let a = heads 116 105 _ _ (sym e ∙ h) in omega arith
no_rates text r e none (on_host.Output host m drop) more is h = let a = heads 116 105 _ _ (sym e ∙ h) in omega arith

pub no_postrouting : (text r : List ℕ) → text ≡ codes "iptables -t mangle -A POSTROUTING " ++ r → ((m : HostMatch) (class : Option ℕ) (rest : List ℕ) → IsHostMatch m → IsOptional IsClass class → r ≡ match_then m (target_then class rest) → ⊥) →
    (h : HostLine) (more : List ℕ) → AreHostNumbers h → text ≡ host_then h more → ⊥
no_postrouting text r e none (on_host.Root host) more is h = let a = heads 105 116 _ _ (sym e ∙ h) in omega arith
no_postrouting text r e none (on_host.Class host class rate ceil) more is h = let a = heads 105 116 _ _ (sym e ∙ h) in omega arith
no_postrouting text r e none (on_host.Classify host m class) more is h = none m (Some class) more is.0 is.1 (behind_word (codes "iptables -t mangle -A POSTROUTING ") text r _ e h)
no_postrouting text r e none (on_host.Leave host m) more is h = none m None more is tt (behind_word (codes "iptables -t mangle -A POSTROUTING ") text r _ e h)
no_postrouting text r e none (on_host.Output host m drop) more is h = let a = option_of 116 65 _ _ (sym e ∙ h) in omega arith

pub no_output : (text r : List ℕ) → text ≡ codes "iptables -A OUTPUT " ++ r → ((m : HostMatch) (drop : Bool) (rest : List ℕ) → IsHostMatch m → r ≡ match_then m (verdict_then drop rest) → ⊥) → (h : HostLine) (more : List ℕ) → AreHostNumbers h → text ≡ host_then h more → ⊥
no_output text r e none (on_host.Root host) more is h = let a = heads 105 116 _ _ (sym e ∙ h) in omega arith
no_output text r e none (on_host.Class host class rate ceil) more is h = let a = heads 105 116 _ _ (sym e ∙ h) in omega arith
no_output text r e none (on_host.Classify host m class) more is h = let a = option_of 65 116 _ _ (sym e ∙ h) in omega arith
no_output text r e none (on_host.Leave host m) more is h = let a = option_of 65 116 _ _ (sym e ∙ h) in omega arith
no_output text r e none (on_host.Output host m drop) more is h = none m drop more is (behind_word (codes "iptables -A OUTPUT ") text r _ e h)

pub no_line : (text : List ℕ) → ((rest : List ℕ) → text ≡ codes "tc qdisc add dev eth0 root handle 1: htb\n" ++ rest → ⊥) → ((rest : List ℕ) → text ≡ codes "tc class add dev eth0 parent 1: classid 1:" ++ rest → ⊥) →
    ((rest : List ℕ) → text ≡ codes "iptables -t mangle -A POSTROUTING " ++ rest → ⊥) → ((rest : List ℕ) → text ≡ codes "iptables -A OUTPUT " ++ rest → ⊥) → (h : HostLine) (more : List ℕ) → AreHostNumbers h → text ≡ host_then h more → ⊥
no_line text root class post output (on_host.Root host) more is h = root more h
no_line text root class post output (on_host.Class host n rate ceil) more is h = class (class_then n rate ceil more) h
no_line text root class post output (on_host.Classify host m n) more is h = post (match_then m (target_then (Some n) more)) h
no_line text root class post output (on_host.Leave host m) more is h = post (match_then m (target_then None more)) h
no_line text root class post output (on_host.Output host m drop) more is h = output (match_then m (verdict_then drop more)) h
