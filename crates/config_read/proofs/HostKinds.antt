-- The lines of hosts are lines.
use Rattle.std.proofs.Common.{◌≡◌, ℕ, ◌==◌, Bool, true, false, cond, List, [], ◌∷◌, ◌++◌, refl, arith}
use Rattle.std.specs.Prelude.{Option, None, Some, codes}
use Rattle.std.specs.List.{AllByRecursion}
use Rattle.std.specs.Fmt.{decimal, digits}
use Rattle.merlin_model.specs.declared.config.HostMatch.{HostMatch}
use Rattle.merlin_model.specs.declared.config.HostLine.{HostLine}
use Rattle.merlin_model.specs.declared.config.HostLine.TheVariants as on_host
use Rattle.merlin_model.specs.Networks.{Network}
use Rattle.merlin_base.proofs.Cutting.{Free, free_append}
use Rattle.config_text.specs.Words.{option_words}
use Rattle.config_text.specs.Lines.{name_at, proto_text, host_match_words, class_text, classify_text, verdict_text, host_words, host_text, host_of}
use Rattle.config_lines.specs.Words.{HasFewDigits, IsOptional}
use Rattle.config_lines.specs.Parts.{IsHostMatch}
use Rattle.config_lines.specs.Lines.{IsClass, AreHostNumbers, host_line, IsHostLine}
use Rattle.config_lines.proofs.Then.{location_free, number_free, double_free}
use Rattle.config_lines.proofs.AddressTexts.{ip_free}
use Rattle.config_lines.proofs.ClassTexts.{class_free}
use Rattle.config_lines.proofs.PortTexts.{proto_free}
use Rattle.config_read.proofs.Stars.{AreLines}
use Rattle.config_read.proofs.LineKinds.{words_free}

-- a test that a text has no such byte
unfoldable pub lacks_byte : ℕ → List ℕ → Bool
lacks_byte byte [] = true
lacks_byte byte (c ∷ cs) = cond (c == byte) false (lacks_byte byte cs)

true_false : false ≡ true → ⊥
true_false e = cc

pub tested : (byte : ℕ) (cs : List ℕ) → lacks_byte byte cs ≡ true → Free byte cs
unfolding lacks_byte
tested byte [] e = tt
tested byte (c ∷ cs) e = by (c == byte) refl e (λ h. tested byte cs h)
  where
    by : (b : Bool) → (c == byte) ≡ b → cond b false (lacks_byte byte cs) ≡ true → (lacks_byte byte cs ≡ true → Free byte cs) → Free byte (c ∷ cs)
    by true k h later = absurd (true_false h)
    by false k h later = ((λ same. grind arith), later h)

all_both : {X : Type 0} (P : X → Type 0) (xs ys : List X) → AllByRecursion P xs → AllByRecursion P ys → AllByRecursion P (xs ++ ys)
all_both P [] ys f g = g
all_both P (x ∷ xs) ys f g = (f.0, all_both P xs ys f.1 g)

option_free : {Is : ℕ → Type 0} (name : List ℕ) (text : ℕ → List ℕ) (o : Option ℕ) → Free 10 name → ((n : ℕ) → Is n → Free 10 (text n)) → IsOptional Is o → AllByRecursion (Free 10) (option_words name text o)
option_free name text None f g is = tt
option_free name text (Some n) f g is = (f, (g n is, tt))

match_free : (m : HostMatch) → IsHostMatch m → AllByRecursion (Free 10) (host_match_words m)
unfolding lacks_byte
match_free m is = (
  tested 10 (codes "-s") refl,
  (
    ip_free 10 m.src (omega arith),
    (
      tested 10 (codes "-d") refl,
      (
        ip_free 10 m.dst (omega arith),
        all_both (Free 10) (option_words (codes "-p") proto_text m.proto ++ option_words (codes "--sport") decimal m.sport) (option_words (codes "--dport") decimal m.dport)
            (all_both (Free 10) (option_words (codes "-p") proto_text m.proto) (option_words (codes "--sport") decimal m.sport)
            (option_free (codes "-p") proto_text m.proto (tested 10 (codes "-p") refl) (λ n small. proto_free 10 n (omega arith) small) is.proto)
            (option_free (codes "--sport") decimal m.sport (tested 10 (codes "--sport") refl) (λ n small. double_free 10 n (omega arith) small) is.sport))
            (option_free (codes "--dport") decimal m.dport (tested 10 (codes "--dport") refl) (λ n small. double_free 10 n (omega arith) small) is.dport),
      ),
    ),
  ),
)

class_line_free : (class rate ceil : ℕ) → IsClass class → HasFewDigits rate → HasFewDigits ceil → Free 10 (class_text class rate ceil)
unfolding lacks_byte
class_line_free class rate ceil f g h =
    free_append 10 (codes "tc class add dev eth0 parent 1: classid 1:") _ (tested 10 (codes "tc class add dev eth0 parent 1: classid 1:") refl)
    (free_append 10 (digits 16 false class) _ (class_free 10 class (omega arith) f)
    (free_append 10 (codes " htb rate ") _ (tested 10 (codes " htb rate ") refl)
    (free_append 10 (decimal rate) _ (number_free 10 rate (omega arith) g)
    (free_append 10 (codes "kbit ceil ") _ (tested 10 (codes "kbit ceil ") refl)
    (free_append 10 (decimal ceil) (codes "kbit") (number_free 10 ceil (omega arith) h) (tested 10 (codes "kbit") refl))))))

verdict_free : (drop : Bool) → Free 10 (verdict_text drop)
unfolding lacks_byte
verdict_free true = tested 10 (codes "-j DROP") refl
verdict_free false = tested 10 (codes "-j RETURN") refl

words_of_host : (h : HostLine) → AreHostNumbers h → AllByRecursion (Free 10) (host_words h)
unfolding lacks_byte
words_of_host (on_host.Root host) is = (tested 10 (codes "tc qdisc add dev eth0 root handle 1: htb") refl, tt)
words_of_host (on_host.Class host class rate ceil) is = (class_line_free class rate ceil is.0 is.1 is.2, tt)
words_of_host (on_host.Classify host m class) is = (
  tested 10 (codes "iptables -t mangle -A POSTROUTING") refl,
  all_both (Free 10) (host_match_words m) (classify_text class ∷ []) (match_free m is.0)
      (free_append 10 (codes "-j CLASSIFY --set-class 1:") (digits 16 false class) (tested 10 (codes "-j CLASSIFY --set-class 1:") refl) (class_free 10 class (omega arith) is.1), tt),
)
words_of_host (on_host.Leave host m) is =
    (tested 10 (codes "iptables -t mangle -A POSTROUTING") refl, all_both (Free 10) (host_match_words m) (codes "-j RETURN" ∷ []) (match_free m is) (tested 10 (codes "-j RETURN") refl, tt))
words_of_host (on_host.Output host m drop) is =
    (tested 10 (codes "iptables -A OUTPUT") refl, all_both (Free 10) (host_match_words m) (verdict_text drop ∷ []) (match_free m is) (verdict_free drop, tt))

pub host_lines : (net : Network) → AreLines (host_line net) (IsHostLine net)
unfolding lacks_byte
host_lines net = record {
  front = λ h. host_text (name_at net (host_of h)) h;
  is = λ h. refl;
  free = λ h is. words_free (codes "host" ∷ name_at net (host_of h) ∷ host_words h)
      (tested 10 (codes "host") refl, (location_free 10 net (host_of h) (omega arith) is.loc, words_of_host h is.numbers));
}
