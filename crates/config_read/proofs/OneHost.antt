-- A line of a host tells its value.
use Rattle.std.proofs.Common.{◌≡◌, ℕ, ◌<◌, Bool, true, false, List, [], ◌∷◌, ◌++◌, refl, sym, ◌∙◌, ap, append_assoc, arith}
use Rattle.std.proofs.lemmas.List.{append_cancel_left}
use Rattle.std.specs.Prelude.{Option, None, Some, codes}
use Rattle.std.specs.Fmt.{decimal, digits}
use Rattle.merlin_model.specs.declared.config.HostMatch.{HostMatch}
use Rattle.merlin_model.specs.declared.config.HostLine.{HostLine}
use Rattle.merlin_model.specs.declared.config.HostLine.TheVariants as on_host
use Rattle.merlin_model.specs.Networks.{Network, IsNetwork}
use Rattle.merlin_base.specs.Addresses.{ip_text}
use Rattle.merlin_base.proofs.Cutting.{Free, AreSame, cut_once}
use Rattle.config_text.specs.Lines.{name_at, proto_text, rate_with_unit, host_of}
use Rattle.config_lines.specs.Words.{HasFewDigits, IsOptional}
use Rattle.config_lines.specs.Parts.{HasOneByte, HasTwoBytes, IsHostMatch}
use Rattle.config_lines.specs.Lines.{IsClass, AreHostNumbers, host_line, IsHostLine}
use Rattle.config_lines.specs.Hosts.{option_then, ports_then, ports_of, match_then, class_then, target_then, verdict_then, host_then}
use Rattle.config_lines.proofs.Then.{double_free, location_free, unit_free, rate_cut}
use Rattle.config_lines.proofs.AddressTexts.{ip_free}
use Rattle.config_lines.proofs.ClassTexts.{class_free}
use Rattle.config_lines.proofs.PortTexts.{proto_free, proto_same}
use Rattle.config_lines.proofs.HostParts.{parts}
use Rattle.config_read.proofs.OneWords.{double_same, rate_same, ip_same, class_same, location_same}

heads : (a b : ℕ) (x y : List ℕ) → a ∷ x ≡ b ∷ y → a ≡ b
heads a b x y e = cc

seconds : (a b c d : ℕ) (x y : List ℕ) → a ∷ b ∷ x ≡ c ∷ d ∷ y → b ≡ d
seconds a b c d x y e = cc

thirds : (a b c d f g : ℕ) (x y : List ℕ) → a ∷ b ∷ c ∷ x ≡ d ∷ f ∷ g ∷ y → c ≡ g
thirds a b c d f g x y e = cc

fourths : (a b c d f g h k : ℕ) (x y : List ℕ) → a ∷ b ∷ c ∷ d ∷ x ≡ f ∷ g ∷ h ∷ k ∷ y → d ≡ k
fourths a b c d f g h k x y e = cc

-- Options.

-- the text goes on with none of this name
abbrev Lacks_option : List ℕ → List ℕ → Type 0
Lacks_option name text = (rest : List ℕ) → text ≡ name ++ rest → ⊥

option_once : (Is : ℕ → Type 0) (name : List ℕ) (text : ℕ → List ℕ) → ((n : ℕ) → Is n → Free 32 (text n)) → ((m n : ℕ) → Is m → Is n → text m ≡ text n → m ≡ n) → (o p : Option ℕ) (x y : List ℕ) → IsOptional Is o → IsOptional Is p → Lacks_option name x → Lacks_option name y →
    option_then name text o x ≡ option_then name text p y → (o ≡ p) × (x ≡ y)
option_once Is name text lacking same None None x y f g lx ly e = (refl, e)
option_once Is name text lacking same None (Some n) x y f g lx ly e = absurd (lx (text n ++ 32 ∷ y) e)
option_once Is name text lacking same (Some m) None x y f g lx ly e = absurd (ly (text m ++ 32 ∷ x) (sym e))
option_once Is name text lacking same (Some m) (Some n) x y f g lx ly e =
    let cut = cut_once 32 (text m) (text n) x y (lacking m f) (lacking n g) (append_cancel_left name (text m ++ 32 ∷ x) (text n ++ 32 ∷ y) e) in
    (ap Some (same m n f g cut.front), cut.rest)

abbrev from_dport : Option ℕ → List ℕ → List ℕ
from_dport d x = option_then (codes "--dport ") decimal d (codes "-j " ++ x)

abbrev from_sport : Option ℕ → Option ℕ → List ℕ → List ℕ
from_sport s d x = option_then (codes "--sport ") decimal s (from_dport d x)

no_proto : (s d : Option ℕ) (x : List ℕ) → Lacks_option (codes "-p ") (from_sport s d x)
no_proto None None x rest e = let h = seconds 45 106 45 112 _ _ e in omega arith
no_proto None (Some m) x rest e = let h = seconds 45 45 45 112 _ _ e in omega arith
no_proto (Some m) d x rest e = let h = seconds 45 45 45 112 _ _ e in omega arith

no_sport : (d : Option ℕ) (x : List ℕ) → Lacks_option (codes "--sport ") (from_dport d x)
no_sport None x rest e = let h = seconds 45 106 45 45 _ _ e in omega arith
no_sport (Some m) x rest e = let h = thirds 45 45 100 45 45 115 _ _ e in omega arith

no_dport : (x : List ℕ) → Lacks_option (codes "--dport ") (codes "-j " ++ x)
no_dport x rest e = let h = seconds 45 106 45 45 _ _ e in omega arith

port_free : (n : ℕ) → HasTwoBytes n → Free 32 (decimal n)
port_free n is = double_free 32 n (omega arith) is

-- What a line of iptables matches.

record IsSameMatch (m n : HostMatch) (x y : List ℕ) : Type 0 where
  same : m ≡ n
  rest : x ≡ y

match_once : (m n : HostMatch) (x y : List ℕ) → IsHostMatch m → IsHostMatch n → match_then m x ≡ match_then n y → IsSameMatch m n x y
match_once m n x y f g e =
    let src = cut_once 32 (ip_text m.src) (ip_text n.src) (codes "-d " ++ (ip_text m.dst ++ 32 ∷ ports_then (ports_of m) x)) (codes "-d " ++ (ip_text n.dst ++ 32 ∷ ports_then (ports_of n) y)) (ip_free 32 m.src (omega arith)) (ip_free 32 n.src (omega arith)) (append_cancel_left (codes "-s ") _ _ e) in
    let dst = cut_once 32 (ip_text m.dst) (ip_text n.dst) (ports_then (ports_of m) x) (ports_then (ports_of n) y) (ip_free 32 m.dst (omega arith)) (ip_free 32 n.dst (omega arith)) (append_cancel_left (codes "-d ") _ _ src.rest) in
    let proto = option_once HasOneByte (codes "-p ") proto_text (λ k is. proto_free 32 k (omega arith) is) proto_same m.proto n.proto (from_sport m.sport m.dport x) (from_sport n.sport n.dport y) f.proto g.proto (no_proto m.sport m.dport x) (no_proto n.sport n.dport y) dst.rest in
    let sport = option_once HasTwoBytes (codes "--sport ") decimal port_free double_same m.sport n.sport (from_dport m.dport x) (from_dport n.dport y) f.sport g.sport (no_sport m.dport x) (no_sport n.dport y) proto.1 in
    let dport = option_once HasTwoBytes (codes "--dport ") decimal port_free double_same m.dport n.dport (codes "-j " ++ x) (codes "-j " ++ y) f.dport g.dport (no_dport x) (no_dport y) sport.1 in
    let sources = ip_same m.src n.src f.src g.src src.front in
    let destinations = ip_same m.dst n.dst f.dst g.dst dst.front in
    record {
      same = λ i. record { src = sources i; dst = destinations i; proto = proto.0 i; sport = sport.0 i; dport = dport.0 i };
      rest = append_cancel_left (codes "-j ") x y dport.1;
    }

-- Classes.

rate_once : (m n : ℕ) (x y : List ℕ) → HasFewDigits m → HasFewDigits n → rate_with_unit m ++ x ≡ rate_with_unit n ++ y → (m ≡ n) × (x ≡ y)
rate_once m n x y f g e =
    let cut = cut_once 107 (decimal m) (decimal n) (codes "bit" ++ x) (codes "bit" ++ y) (unit_free m f) (unit_free n g) (sym (rate_cut m x) ∙ e ∙ rate_cut n y) in
    (rate_same m n f g (ap (λ t. t ++ codes "kbit") cut.front), append_cancel_left (codes "bit") x y cut.rest)

class_once : (host a b c d f g : ℕ) → IsClass a → IsClass d → HasFewDigits b → HasFewDigits f → HasFewDigits c → HasFewDigits g → class_then a b c [] ≡ class_then d f g [] → on_host.Class host a b c ≡ on_host.Class host d f g
class_once host a b c d f g ca cd rb rf rc rg e =
    let cut = cut_once 32 (digits 16 false a) (digits 16 false d) _ _ (class_free 32 a (omega arith) ca) (class_free 32 d (omega arith) cd) e in
    let classes = class_same a d ca cd cut.front in
    let rates = rate_once b f (codes " ceil " ++ (rate_with_unit c ++ (codes "\n" ++ []))) (codes " ceil " ++ (rate_with_unit g ++ (codes "\n" ++ []))) rb rf (append_cancel_left (codes "htb rate ") _ _ cut.rest) in
    let ceils = rate_once c g (codes "\n" ++ []) (codes "\n" ++ []) rc rg (append_cancel_left (codes " ceil ") _ _ rates.1) in
    (λ i. on_host.Class host (classes i) (rates.0 i) (ceils.0 i))

-- Lines of iptables.

target_once : (host : ℕ) (m n : HostMatch) (a b : ℕ) → m ≡ n → IsClass a → IsClass b → target_then (Some a) [] ≡ target_then (Some b) [] → on_host.Classify host m a ≡ on_host.Classify host n b
target_once host m n a b same f g e =
    let cut = cut_once 10 (digits 16 false a) (digits 16 false b) [] [] (class_free 10 a (omega arith) f) (class_free 10 b (omega arith) g) (append_cancel_left (codes "CLASSIFY --set-class 1:") _ _ e) in
    let classes = class_same a b f g cut.front in
    (λ i. on_host.Classify host (same i) (classes i))

verdict_once : (a b : Bool) → verdict_then a [] ≡ verdict_then b [] → a ≡ b
verdict_once true true e = refl
verdict_once false false e = refl
verdict_once true false e = absurd (let h = heads 68 82 _ _ e in omega arith)
verdict_once false true e = absurd (let h = heads 82 68 _ _ e in omega arith)

-- the two lists are told by the option behind the command
list_of : (a b : ℕ) (x y : List ℕ) → codes "iptables -" ++ a ∷ x ≡ codes "iptables -" ++ b ∷ y → a ≡ b
list_of a b x y e = let rest = append_cancel_left (codes "iptables -") (a ∷ x) (b ∷ y) e in cc

-- Whole lines behind the host's name, at one host.

-- the same line at another host
at_host : ℕ → HostLine → HostLine
at_host host (on_host.Root h) = on_host.Root host
at_host host (on_host.Class h class rate ceil) = on_host.Class host class rate ceil
at_host host (on_host.Classify h m class) = on_host.Classify host m class
at_host host (on_host.Leave h m) = on_host.Leave host m
at_host host (on_host.Output h m drop) = on_host.Output host m drop

own_host : (h : HostLine) → at_host (host_of h) h ≡ h
unfolding at_host
own_host (on_host.Root h) = refl
own_host (on_host.Class h class rate ceil) = refl
own_host (on_host.Classify h m class) = refl
own_host (on_host.Leave h m) = refl
own_host (on_host.Output h m drop) = refl

then_once : (host : ℕ) (a b : HostLine) → AreHostNumbers a → AreHostNumbers b → host_then a [] ≡ host_then b [] → at_host host a ≡ at_host host b
unfolding at_host
then_once host (on_host.Root h) (on_host.Root k) f g e = refl
then_once host (on_host.Root h) (on_host.Class k class rate ceil) f g e = absurd (let s = fourths 116 99 32 113 116 99 32 99 _ _ e in omega arith)
then_once host (on_host.Root h) (on_host.Classify k m class) f g e = absurd (let s = heads 116 105 _ _ e in omega arith)
then_once host (on_host.Root h) (on_host.Leave k m) f g e = absurd (let s = heads 116 105 _ _ e in omega arith)
then_once host (on_host.Root h) (on_host.Output k m drop) f g e = absurd (let s = heads 116 105 _ _ e in omega arith)
then_once host (on_host.Class h class rate ceil) (on_host.Root k) f g e = absurd (let s = fourths 116 99 32 99 116 99 32 113 _ _ e in omega arith)
then_once host (on_host.Class h a b c) (on_host.Class k d r s) f g e =
    class_once host a b c d r s f.0 g.0 f.1 g.1 f.2 g.2 (append_cancel_left (codes "tc class add dev eth0 parent 1: classid 1:") _ _ e)
then_once host (on_host.Class h class rate ceil) (on_host.Classify k m c) f g e = absurd (let s = heads 116 105 _ _ e in omega arith)
then_once host (on_host.Class h class rate ceil) (on_host.Leave k m) f g e = absurd (let s = heads 116 105 _ _ e in omega arith)
then_once host (on_host.Class h class rate ceil) (on_host.Output k m drop) f g e = absurd (let s = heads 116 105 _ _ e in omega arith)
then_once host (on_host.Classify h m class) (on_host.Root k) f g e = absurd (let s = heads 105 116 _ _ e in omega arith)
then_once host (on_host.Classify h m class) (on_host.Class k c rate ceil) f g e = absurd (let s = heads 105 116 _ _ e in omega arith)
then_once host (on_host.Classify h m a) (on_host.Classify k n b) f g e =
    let once = match_once m n (target_then (Some a) []) (target_then (Some b) []) f.0 g.0 (append_cancel_left (codes "iptables -t mangle -A POSTROUTING ") _ _ e) in
    target_once host m n a b once.same f.1 g.1 once.rest
then_once host (on_host.Classify h m a) (on_host.Leave k n) f g e =
    let once = match_once m n (target_then (Some a) []) (target_then None []) f.0 g (append_cancel_left (codes "iptables -t mangle -A POSTROUTING ") _ _ e) in
    absurd (let s = heads 67 82 _ _ once.rest in omega arith)
then_once host (on_host.Classify h m a) (on_host.Output k n drop) f g e = absurd (let s = list_of 116 65 _ _ e in omega arith)
then_once host (on_host.Leave h m) (on_host.Root k) f g e = absurd (let s = heads 105 116 _ _ e in omega arith)
then_once host (on_host.Leave h m) (on_host.Class k c rate ceil) f g e = absurd (let s = heads 105 116 _ _ e in omega arith)
then_once host (on_host.Leave h m) (on_host.Classify k n b) f g e =
    let once = match_once m n (target_then None []) (target_then (Some b) []) f g.0 (append_cancel_left (codes "iptables -t mangle -A POSTROUTING ") _ _ e) in
    absurd (let s = heads 82 67 _ _ once.rest in omega arith)
then_once host (on_host.Leave h m) (on_host.Leave k n) f g e =
    let once = match_once m n (target_then None []) (target_then None []) f g (append_cancel_left (codes "iptables -t mangle -A POSTROUTING ") _ _ e) in
    ap (on_host.Leave host) once.same
then_once host (on_host.Leave h m) (on_host.Output k n drop) f g e = absurd (let s = list_of 116 65 _ _ e in omega arith)
then_once host (on_host.Output h m drop) (on_host.Root k) f g e = absurd (let s = heads 105 116 _ _ e in omega arith)
then_once host (on_host.Output h m drop) (on_host.Class k c rate ceil) f g e = absurd (let s = heads 105 116 _ _ e in omega arith)
then_once host (on_host.Output h m drop) (on_host.Classify k n b) f g e = absurd (let s = list_of 65 116 _ _ e in omega arith)
then_once host (on_host.Output h m drop) (on_host.Leave k n) f g e = absurd (let s = list_of 65 116 _ _ e in omega arith)
then_once host (on_host.Output h m a) (on_host.Output k n b) f g e =
    let once = match_once m n (verdict_then a []) (verdict_then b []) f g (append_cancel_left (codes "iptables -A OUTPUT ") _ _ e) in
    let verdicts = verdict_once a b once.rest in
    (λ i. on_host.Output host (once.same i) (verdicts i))

pub host_once : (net : Network) → IsNetwork net → (a b : HostLine) → IsHostLine net a → IsHostLine net b → host_line net a ≡ host_line net b → a ≡ b
host_once net is a b f g e =
    let cut = cut_once 32 (name_at net (host_of a)) (name_at net (host_of b)) (host_then a []) (host_then b []) (location_free 32 net (host_of a) (omega arith) f.loc) (location_free 32 net (host_of b) (omega arith) g.loc)
    (append_cancel_left (codes "host ") _ _ (sym (parts net a []) ∙ ap (λ t. t ++ []) e ∙ parts net b [])) in
    let hosts = location_same net (host_of a) (host_of b) is f.loc g.loc cut.front in
    sym (own_host a) ∙ then_once (host_of a) a b f.numbers g.numbers cut.rest ∙ ap (λ h. at_host h b) hosts ∙ own_host b
