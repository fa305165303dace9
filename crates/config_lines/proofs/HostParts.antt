-- The line of a host, part by part, with what stands behind it.
use Rattle.std.proofs.Common.{◌≡◌, ℕ, true, false, List, [], ◌∷◌, ◌++◌, refl, sym, ◌∙◌, ap, append_assoc, append-nil, arith}
use Rattle.std.specs.Prelude.{Option, None, Some, codes}
use Rattle.std.specs.List.{flat_map}
use Rattle.std.specs.Fmt.{decimal, digits}
use Rattle.merlin_model.specs.declared.config.HostMatch.{HostMatch}
use Rattle.merlin_model.specs.declared.config.HostLine.{HostLine}
use Rattle.merlin_model.specs.declared.config.HostLine.TheVariants as on_host
use Rattle.merlin_model.specs.Networks.{Network}
use Rattle.merlin_base.specs.Addresses.{ip_text}
use Rattle.config_text.specs.Words.{words, option_words}
use Rattle.config_text.specs.Lines.{name_at, proto_text, host_match_words, class_text, host_of}
use Rattle.config_text.proofs.Joining.{joined_after_first}
use Rattle.config_lines.specs.Words.{IsOptional, IsLocation}
use Rattle.config_lines.specs.Parts.{IsHostMatch}
use Rattle.config_lines.specs.Lines.{IsClass, AreHostNumbers, host_line, IsHostLine}
use Rattle.config_lines.specs.Hosts.{option_then, ports_then, match_then, target_then, postrouting, host_then}
use Rattle.config_lines.proofs.Then.{behind_word, behind_part, location_free}

-- words, each with a blank before it
abbrev blank_before : List ℕ → List ℕ
blank_before word = 32 ∷ word

-- an option with its blanks, if it is given, and what stands behind it
with_option : List ℕ → (ℕ → List ℕ) → Option ℕ → List ℕ → List ℕ
with_option name text None more = more
with_option name text (Some n) more = 32 ∷ (name ++ 32 ∷ (text n ++ more))

option_words_are : (name : List ℕ) (text : ℕ → List ℕ) (o : Option ℕ) (others : List (List ℕ)) (more : List ℕ) →
    flat_map blank_before (option_words name text o ++ others) ++ more ≡ with_option name text o (flat_map blank_before others ++ more)
unfolding with_option
option_words_are name text None others more = refl
option_words_are name text (Some n) others more =
    append_assoc (32 ∷ name) ((32 ∷ text n) ++ flat_map blank_before others) more ∙ ap (λ z. 32 ∷ (name ++ z)) (append_assoc (32 ∷ text n) (flat_map blank_before others) more)

option_is : (name named : List ℕ) (text : ℕ → List ℕ) (o : Option ℕ) (u more : List ℕ) → ((z : List ℕ) → name ++ 32 ∷ z ≡ named ++ z) → u ≡ 32 ∷ more → with_option name text o u ≡ 32 ∷ option_then named text o more
unfolding with_option
option_is name named text None u more same e = e
option_is name named text (Some n) u more same e = ap (λ z. 32 ∷ (name ++ 32 ∷ (text n ++ z))) e ∙ ap (λ z. 32 ∷ z) (same (text n ++ 32 ∷ more))

options_are : (p s d : Option ℕ) (target more : List ℕ) →
    flat_map blank_before (option_words (codes "-p") proto_text p ++ option_words (codes "--sport") decimal s ++ option_words (codes "--dport") decimal d ++ (codes "-j " ++ target) ∷ []) ++ 10 ∷ more
    ≡ 32 ∷ ports_then (record { proto = p; sport = s; dport = d }) (target ++ 10 ∷ more)
options_are p s d target more =
    ap (λ words. flat_map blank_before words ++ 10 ∷ more) (append_assoc (protos ++ sports) dports last ∙ append_assoc protos sports (dports ++ last))
    ∙ option_words_are (codes "-p") proto_text p (sports ++ (dports ++ last)) (10 ∷ more)
    ∙ option_is (codes "-p") (codes "-p ") proto_text p _ _ (λ z. refl)
    (option_words_are (codes "--sport") decimal s (dports ++ last) (10 ∷ more)
    ∙ option_is (codes "--sport") (codes "--sport ") decimal s _ _ (λ z. refl)
    (option_words_are (codes "--dport") decimal d last (10 ∷ more)
    ∙ option_is (codes "--dport") (codes "--dport ") decimal d _ (codes "-j " ++ (target ++ 10 ∷ more)) (λ z. refl)
    (ap (λ z. z ++ 10 ∷ more) (append-nil (32 ∷ (codes "-j " ++ target))) ∙ append_assoc (32 ∷ codes "-j ") target (10 ∷ more))))
  where
    protos : List (List ℕ)
    protos = option_words (codes "-p") proto_text p

    sports : List (List ℕ)
    sports = option_words (codes "--sport") decimal s

    dports : List (List ℕ)
    dports = option_words (codes "--dport") decimal d

    last : List (List ℕ)
    last = (codes "-j " ++ target) ∷ []

-- a line of iptables
list_parts : (location list : List ℕ) (m : HostMatch) (target more : List ℕ) →
    (words (codes "host" ∷ location ∷ list ∷ (host_match_words m ++ (codes "-j " ++ target) ∷ [])) ++ 10 ∷ []) ++ more ≡ codes "host " ++ (location ++ 32 ∷ (list ++ 32 ∷ match_then m (target ++ 10 ∷ more)))
list_parts location list m target more =
    ap (λ z. ((codes "host" ++ 32 ∷ (location ++ 32 ∷ (list ++ 32 ∷ (codes "-s" ++ 32 ∷ (ip_text m.src ++ 32 ∷ (codes "-d" ++ 32 ∷ z)))))) ++ 10 ∷ []) ++ more) (joined_after_first 32 (ip_text m.dst) tail)
    ∙ regroup (flat_map blank_before tail)
    ∙ ap (λ z. codes "host " ++ (location ++ 32 ∷ (list ++ 32 ∷ (codes "-s " ++ (ip_text m.src ++ 32 ∷ (codes "-d " ++ (ip_text m.dst ++ z))))))) (options_are m.proto m.sport m.dport target more)
  where
    tail : List (List ℕ)
    tail = option_words (codes "-p") proto_text m.proto ++ option_words (codes "--sport") decimal m.sport ++ option_words (codes "--dport") decimal m.dport ++ (codes "-j " ++ target) ∷ []

    regroup : (z : List ℕ) → ((codes "host" ++ 32 ∷ (location ++ 32 ∷ (list ++ 32 ∷ (codes "-s" ++ 32 ∷ (ip_text m.src ++ 32 ∷ (codes "-d" ++ 32 ∷ (ip_text m.dst ++ z))))))) ++ 10 ∷ []) ++ more
        ≡ codes "host " ++ (location ++ 32 ∷ (list ++ 32 ∷ (codes "-s " ++ (ip_text m.src ++ 32 ∷ (codes "-d " ++ (ip_text m.dst ++ (z ++ 10 ∷ more)))))))
    regroup z =
        append_assoc (codes "host" ++ 32 ∷ (location ++ 32 ∷ (list ++ 32 ∷ (codes "-s" ++ 32 ∷ (ip_text m.src ++ 32 ∷ (codes "-d" ++ 32 ∷ (ip_text m.dst ++ z))))))) (10 ∷ []) more
        ∙ ap (λ u. codes "host " ++ u) (append_assoc location (32 ∷ (list ++ 32 ∷ (codes "-s" ++ 32 ∷ (ip_text m.src ++ 32 ∷ (codes "-d" ++ 32 ∷ (ip_text m.dst ++ z)))))) (10 ∷ more)
        ∙ ap (λ u. location ++ 32 ∷ u) (append_assoc list (32 ∷ (codes "-s" ++ 32 ∷ (ip_text m.src ++ 32 ∷ (codes "-d" ++ 32 ∷ (ip_text m.dst ++ z))))) (10 ∷ more)
        ∙ ap (λ u. list ++ 32 ∷ (codes "-s " ++ u)) (append_assoc (ip_text m.src) (32 ∷ (codes "-d" ++ 32 ∷ (ip_text m.dst ++ z))) (10 ∷ more)
        ∙ ap (λ u. ip_text m.src ++ 32 ∷ (codes "-d " ++ u)) (append_assoc (ip_text m.dst) z (10 ∷ more)))))

pub parts : (net : Network) (h : HostLine) (more : List ℕ) → host_line net h ++ more ≡ codes "host " ++ (name_at net (host_of h) ++ 32 ∷ host_then h more)
parts net (on_host.Root host) more =
    append_assoc (codes "host" ++ 32 ∷ (name_at net host ++ 32 ∷ codes "tc qdisc add dev eth0 root handle 1: htb")) (10 ∷ []) more
    ∙ ap (λ u. codes "host " ++ u) (append_assoc (name_at net host) (32 ∷ codes "tc qdisc add dev eth0 root handle 1: htb") (10 ∷ more))
parts net (on_host.Class host class rate ceil) more =
    append_assoc (codes "host" ++ 32 ∷ (name_at net host ++ 32 ∷ class_text class rate ceil)) (10 ∷ []) more
    ∙ ap (λ u. codes "host " ++ u) (append_assoc (name_at net host) (32 ∷ class_text class rate ceil) (10 ∷ more)
    ∙ ap (λ u. name_at net host ++ 32 ∷ (codes "tc class add dev eth0 parent 1: classid 1:" ++ u))
    (append_assoc (digits 16 false class) (codes " htb rate " ++ (decimal rate ++ (codes "kbit ceil " ++ (decimal ceil ++ codes "kbit")))) (10 ∷ more)
    ∙ ap (λ u. digits 16 false class ++ (codes " htb rate " ++ u)) (append_assoc (decimal rate) (codes "kbit ceil " ++ (decimal ceil ++ codes "kbit")) (10 ∷ more)
    ∙ sym (append_assoc (decimal rate) (codes "kbit") (codes " ceil " ++ ((decimal ceil ++ codes "kbit") ++ 10 ∷ more))))))
parts net (on_host.Classify host m class) more =
    list_parts (name_at net host) (codes "iptables -t mangle -A POSTROUTING") m (codes "CLASSIFY --set-class 1:" ++ digits 16 false class) more
parts net (on_host.Leave host m) more = list_parts (name_at net host) (codes "iptables -t mangle -A POSTROUTING") m (codes "RETURN") more
parts net (on_host.Output host m true) more = list_parts (name_at net host) (codes "iptables -A OUTPUT") m (codes "DROP") more
parts net (on_host.Output host m false) more = list_parts (name_at net host) (codes "iptables -A OUTPUT") m (codes "RETURN") more

pub start : (net : Network) (text r more : List ℕ) (h : HostLine) → text ≡ codes "host " ++ r → text ≡ host_line net h ++ more → r ≡ name_at net (host_of h) ++ 32 ∷ host_then h more
start net text r more h e k = behind_word (codes "host ") text r _ e (k ∙ parts net h more)

pub after_host : (net : Network) (text r more : List ℕ) (loc : ℕ) (h : HostLine) → text ≡ name_at net loc ++ 32 ∷ r → IsLocation net loc → IsHostLine net h → text ≡ name_at net (host_of h) ++ 32 ∷ host_then h more → r ≡ host_then h more
after_host net text r more loc h e f is k = behind_part 32 text (name_at net loc) r (name_at net (host_of h)) _ e (location_free 32 net loc (omega arith) f) (location_free 32 net (host_of h) (omega arith) is.loc) k

-- a line that was read
pub line_is : (net : Network) (text r s more : List ℕ) (loc : ℕ) (h : HostLine) → text ≡ codes "host " ++ r → r ≡ name_at net loc ++ 32 ∷ s → s ≡ host_then h more → host_of h ≡ loc → text ≡ host_line net h ++ more
line_is net text r s more loc h e f g k =
    e ∙ ap (λ z. codes "host " ++ z) (f ∙ ap (λ z. name_at net loc ++ 32 ∷ z) g ∙ ap (λ l. name_at net l ++ 32 ∷ host_then h more) (sym k)) ∙ sym (parts net h more)

-- a line of POSTROUTING that was read
pub record IsPostrouting (text : List ℕ) (host : ℕ) (m : HostMatch) (class : Option ℕ) (more : List ℕ) : Type 0 where
  pub is : text ≡ host_then (postrouting host m class) more
  pub numbers : AreHostNumbers (postrouting host m class)
  pub host_is : host_of (postrouting host m class) ≡ host

pub is-postrouting : (text r x more : List ℕ) (host : ℕ) (m : HostMatch) (class : Option ℕ) → text ≡ codes "iptables -t mangle -A POSTROUTING " ++ r → r ≡ match_then m x → x ≡ target_then class more → IsHostMatch m → IsOptional IsClass class → IsPostrouting text host m class more
is-postrouting text r x more host m None e f g is has = record { is = e ∙ ap (λ z. codes "iptables -t mangle -A POSTROUTING " ++ z) (f ∙ ap (match_then m) g); numbers = is; host_is = refl }
is-postrouting text r x more host m (Some n) e f g is has = record { is = e ∙ ap (λ z. codes "iptables -t mangle -A POSTROUTING " ++ z) (f ∙ ap (match_then m) g); numbers = (is, has); host_is = refl }
