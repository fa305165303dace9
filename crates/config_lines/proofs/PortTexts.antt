-- The options of iptables for protocol and ports are told apart.
use Rattle.std.proofs.Common.{◌≡◌, ◌≢◌, ℕ, ◌<◌, ◌==◌, ◌⊎◌, inl, inr, Bool, true, false, cond, List, [], ◌∷◌, ◌++◌, refl, sym, ◌∙◌, ap, subst, arith}
use Rattle.std.proofs.lemmas.List.{append_cancel_left}
use Rattle.std.proofs.lemmas.List.Elements.{recursion_from_All}
use Rattle.std.specs.Prelude.{Option, None, Some, codes}
use Rattle.std.specs.List.{AllByRecursion}
use Rattle.std.specs.Fmt.{decimal}
use Rattle.merlin_base.specs.Lexemes.{IsDigit}
use Rattle.merlin_base.proofs.Cutting.{Free, cut_once}
use Rattle.merlin_base.proofs.Decimals.{decimal_same, decimal_free, is_decimal}
use Rattle.config_text.specs.Lines.{proto_text}
use Rattle.config_lines.specs.declared.hosts.Ports.{Ports}
use Rattle.config_lines.specs.Words.{IsOptional}
use Rattle.config_lines.specs.Parts.{HasOneByte, HasTwoBytes, MayNamePorts}
use Rattle.config_lines.specs.Hosts.{option_then, ports_then, ArePorts}
use Rattle.config_lines.proofs.Then.{double_free}

heads : (a b : ℕ) (x y : List ℕ) → a ∷ x ≡ b ∷ y → a ≡ b
heads a b x y e = cc

seconds : (a b c d : ℕ) (x y : List ℕ) → a ∷ b ∷ x ≡ c ∷ d ∷ y → b ≡ d
seconds a b c d x y e = cc

thirds : (a b c d f g : ℕ) (x y : List ℕ) → a ∷ b ∷ c ∷ x ≡ d ∷ f ∷ g ∷ y → c ≡ g
thirds a b c d f g x y e = cc

-- Protocols.

decimal_letter : (n : ℕ) (rest : List ℕ) (letter : ℕ) → HasOneByte n → 57 < letter → decimal n ≡ letter ∷ rest → ⊥
decimal_letter n rest letter small high e = (let d = (subst (AllByRecursion IsDigit) e (recursion_from_All IsDigit (decimal n) (is_decimal n (omega arith)).digits)).0 in omega arith)

-- the protocol by its number, and its text
record ProtoIs (n : ℕ) (text : List ℕ) : Type 0 where
  is : ((n ≡ 6) × (text ≡ codes "tcp")) ⊎ ((n ≡ 17) × (text ≡ codes "udp")) ⊎ ((n ≢ 6) × (n ≢ 17) × (text ≡ decimal n))

proto-is : (n : ℕ) → ProtoIs n (proto_text n)
proto-is n = by (n == 6) refl (n == 17) refl
  where
    by : (b : Bool) → (n == 6) ≡ b → (d : Bool) → (n == 17) ≡ d → ProtoIs n (cond b (codes "tcp") (cond d (codes "udp") (decimal n)))
    by true e d f = record { is = inl (grind arith, refl) }
    by false e true f = record { is = inr (inl (grind arith, refl)) }
    by false e false f = record { is = inr (inr (grind arith, grind arith, refl)) }

pub proto_free : (byte n : ℕ) → byte < 48 → HasOneByte n → Free byte (proto_text n)
proto_free byte n low small = by (n == 6) (n == 17)
  where
    by : (b d : Bool) → Free byte (cond b (codes "tcp") (cond d (codes "udp") (decimal n)))
    by true d = ((λ e. omega arith), ((λ e. omega arith), ((λ e. omega arith), tt)))
    by false true = ((λ e. omega arith), ((λ e. omega arith), ((λ e. omega arith), tt)))
    by false false = decimal_free byte n (omega arith) low

pub proto_same : (m n : ℕ) → HasOneByte m → HasOneByte n → proto_text m ≡ proto_text n → m ≡ n
proto_same m n f g e = by (proto-is m).is (proto-is n).is
  where
    by : ((m ≡ 6) × (proto_text m ≡ codes "tcp")) ⊎ ((m ≡ 17) × (proto_text m ≡ codes "udp")) ⊎ ((m ≢ 6) × (m ≢ 17) × (proto_text m ≡ decimal m)) →
        ((n ≡ 6) × (proto_text n ≡ codes "tcp")) ⊎ ((n ≡ 17) × (proto_text n ≡ codes "udp")) ⊎ ((n ≢ 6) × (n ≢ 17) × (proto_text n ≡ decimal n)) → m ≡ n
    by (inl a) (inl b) = a.0 ∙ sym b.0
    by (inl a) (inr (inl b)) = absurd (let h = heads 116 117 _ _ (sym a.1 ∙ e ∙ b.1) in omega arith)
    by (inl a) (inr (inr b)) = absurd (decimal_letter n (99 ∷ 112 ∷ []) 116 g (omega arith) (sym b.2 ∙ sym e ∙ a.1))
    by (inr (inl a)) (inl b) = absurd (let h = heads 117 116 _ _ (sym a.1 ∙ e ∙ b.1) in omega arith)
    by (inr (inl a)) (inr (inl b)) = a.0 ∙ sym b.0
    by (inr (inl a)) (inr (inr b)) = absurd (decimal_letter n (100 ∷ 112 ∷ []) 117 g (omega arith) (sym b.2 ∙ sym e ∙ a.1))
    by (inr (inr a)) (inl b) = absurd (decimal_letter m (99 ∷ 112 ∷ []) 116 f (omega arith) (sym a.2 ∙ e ∙ b.1))
    by (inr (inr a)) (inr (inl b)) = absurd (decimal_letter m (100 ∷ 112 ∷ []) 117 f (omega arith) (sym a.2 ∙ e ∙ b.1))
    by (inr (inr a)) (inr (inr b)) = decimal_same m n (omega arith) (omega arith) (sym a.2 ∙ e ∙ b.2)

-- a word is no protocol
pub no_proto : (word : List ℕ) → (word ≡ codes "tcp" → ⊥) → (word ≡ codes "udp" → ⊥) → ((n : ℕ) → HasOneByte n → n ≢ 6 → n ≢ 17 → word ≡ decimal n → ⊥) → (n : ℕ) → HasOneByte n → word ≡ proto_text n → ⊥
no_proto word tcp udp number n small e = by (proto-is n).is
  where
    by : ((n ≡ 6) × (proto_text n ≡ codes "tcp")) ⊎ ((n ≡ 17) × (proto_text n ≡ codes "udp")) ⊎ ((n ≢ 6) × (n ≢ 17) × (proto_text n ≡ decimal n)) → ⊥
    by (inl a) = tcp (e ∙ a.1)
    by (inr (inl a)) = udp (e ∙ a.1)
    by (inr (inr a)) = number n small a.0 a.1 (e ∙ a.2)

pub proto_number : (n : ℕ) → n ≢ 6 → n ≢ 17 → proto_text n ≡ decimal n
proto_number n f g = by (proto-is n).is
  where
    by : ((n ≡ 6) × (proto_text n ≡ codes "tcp")) ⊎ ((n ≡ 17) × (proto_text n ≡ codes "udp")) ⊎ ((n ≢ 6) × (n ≢ 17) × (proto_text n ≡ decimal n)) → proto_text n ≡ decimal n
    by (inl a) = absurd (f a.0)
    by (inr (inl a)) = absurd (g a.0)
    by (inr (inr a)) = a.2

-- Options.

-- behind an option that isn't given the text goes on with none of this name
pub LacksFront : List ℕ → List ℕ → Type 0
LacksFront name text = (rest : List ℕ) → text ≡ name ++ rest → ⊥

pub option_same : (name : List ℕ) (o p : Option ℕ) (text x y : List ℕ) → text ≡ option_then name decimal o x → text ≡ option_then name decimal p y → IsOptional HasTwoBytes o → IsOptional HasTwoBytes p → (o ≡ None → LacksFront name text) → (p ≡ None → LacksFront name text) → x ≡ y
unfolding LacksFront
option_same name None None text x y e h f g a b = sym e ∙ h
option_same name None (Some n) text x y e h f g a b = absurd (a refl (decimal n ++ 32 ∷ y) h)
option_same name (Some m) None text x y e h f g a b = absurd (b refl (decimal m ++ 32 ∷ x) e)
option_same name (Some m) (Some n) text x y e h f g a b =
    (cut_once 32 (decimal m) (decimal n) x y (double_free 32 m (omega arith) f) (double_free 32 n (omega arith) g) (append_cancel_left name (decimal m ++ 32 ∷ x) (decimal n ++ 32 ∷ y) (sym e ∙ h))).rest

dport_lacks : (o : Option ℕ) (more : List ℕ) → LacksFront (codes "--sport ") (option_then (codes "--dport ") decimal o (codes "-j " ++ more))
unfolding LacksFront
dport_lacks None more rest e = let h = seconds 45 106 45 45 _ _ e in omega arith
dport_lacks (Some n) more rest e = let h = thirds 45 45 100 45 45 115 _ _ e in omega arith

target_lacks : (more : List ℕ) → LacksFront (codes "--dport ") (codes "-j " ++ more)
unfolding LacksFront
target_lacks more rest e = let h = seconds 45 106 45 45 _ _ e in omega arith

pub front_subst : (name text other : List ℕ) → text ≡ other → LacksFront name other → LacksFront name text
unfolding LacksFront
front_subst name text other e lacks rest h = lacks rest (sym e ∙ h)

abbrev pub ports : Option ℕ → Option ℕ → Option ℕ → Ports
ports proto sport dport = record { proto = proto; sport = sport; dport = dport }

-- what stands behind the protocol, and behind the source port
abbrev pub from_dport : Ports → List ℕ → List ℕ
from_dport p more = option_then (codes "--dport ") decimal p.dport (codes "-j " ++ more)

abbrev pub from_sport : Ports → List ℕ → List ℕ
from_sport p more = option_then (codes "--sport ") decimal p.sport (from_dport p more)

none_some : (n : ℕ) → ◌≡◌ {A = Option ℕ} None (Some n) → ⊥
none_some n e = cc

same_number : (m n : ℕ) → ◌≡◌ {A = Option ℕ} (Some m) (Some n) → m ≡ n
same_number m n e = cc

plain_target : (p : Ports) (more : List ℕ) → (p.sport ≡ None) × (p.dport ≡ None) → from_sport p more ≡ codes "-j " ++ more
plain_target p more h = ap (λ s. option_then (codes "--sport ") decimal s (from_dport p more)) h.0 ∙ ap (λ d. option_then (codes "--dport ") decimal d (codes "-j " ++ more)) h.1

-- without a protocol there is no port
alone : (p : Ports) (text more : List ℕ) → ArePorts p → text ≡ ports_then p more → p.proto ≡ None → text ≡ codes "-j " ++ more
alone p text more are e k = e ∙ ap (λ o. option_then (codes "-p ") proto_text o (from_sport p more)) k ∙ plain_target p more (unnamed are.ports)
  where
    unnamed : (p.sport ≡ None) × (p.dport ≡ None) ⊎ MayNamePorts p.proto → (p.sport ≡ None) × (p.dport ≡ None)
    unnamed (inl h) = h
    unnamed (inr (inl h)) = absurd (none_some 6 (sym k ∙ h))
    unnamed (inr (inr h)) = absurd (none_some 17 (sym k ∙ h))

pub target_alone : (p : Ports) (text more : List ℕ) → ArePorts p → text ≡ ports_then p more → ((rest : List ℕ) → text ≡ codes "-p " ++ rest → ⊥) → text ≡ codes "-j " ++ more
target_alone p text more are e lacks = by p.proto refl
  where
    by : (o : Option ℕ) → p.proto ≡ o → text ≡ codes "-j " ++ more
    by None k = alone p text more are e k
    by (Some n) k = absurd (lacks (proto_text n ++ 32 ∷ from_sport p more) (e ∙ ap (λ o. option_then (codes "-p ") proto_text o (from_sport p more)) k))

-- the protocol that stands there
pub record HasProto (p : Ports) (rest more : List ℕ) : Type 0 where
  pub proto : ℕ
  pub is : p.proto ≡ Some proto
  pub small : HasOneByte proto
  pub rest_is : rest ≡ proto_text proto ++ 32 ∷ from_sport p more

pub has_proto : (p : Ports) (text rest more : List ℕ) → ArePorts p → text ≡ ports_then p more → text ≡ codes "-p " ++ rest → HasProto p rest more
has_proto p text rest more are e h = by p.proto refl are.proto
  where
    by : (o : Option ℕ) → p.proto ≡ o → IsOptional HasOneByte p.proto → HasProto p rest more
    by None k small = absurd (no_target (e ∙ ap (λ o. option_then (codes "-p ") proto_text o (from_sport p more)) k))
      where
        no_target : text ≡ from_sport p more → ⊥
        no_target f = by_sport p.sport p.dport (sym h ∙ f)
          where
            by_sport : (s d : Option ℕ) → codes "-p " ++ rest ≡ option_then (codes "--sport ") decimal s (option_then (codes "--dport ") decimal d (codes "-j " ++ more)) → ⊥
            by_sport None None q = let a = seconds 45 112 45 106 _ _ q in omega arith
            by_sport None (Some m) q = let a = seconds 45 112 45 45 _ _ q in omega arith
            by_sport (Some m) d q = let a = seconds 45 112 45 45 _ _ q in omega arith
    by (Some n) k small = record {
      proto = n;
      is = k;
      small = subst (IsOptional HasOneByte) k small;
      rest_is = append_cancel_left (codes "-p ") rest (proto_text n ++ 32 ∷ from_sport p more) (sym h ∙ e ∙ ap (λ o. option_then (codes "-p ") proto_text o (from_sport p more)) k);
    }

-- and what stands behind a protocol that was read
pub behind_proto : (p : Ports) (text rest more read : List ℕ) (n : ℕ) → ArePorts p → text ≡ ports_then p more → text ≡ codes "-p " ++ rest → rest ≡ proto_text n ++ 32 ∷ read → HasOneByte n → (p.proto ≡ Some n) × (read ≡ from_sport p more)
behind_proto p text rest more read n are e h f small =
    let has = has_proto p text rest more are e h in
    let cut = cut_once 32 (proto_text n) (proto_text has.proto) read (from_sport p more) (proto_free 32 n (omega arith) small) (proto_free 32 has.proto (omega arith) has.small) (sym f ∙ has.rest_is) in
    (has.is ∙ ap Some (sym (proto_same n has.proto small has.small cut.front)), cut.rest)

-- a protocol without ports
pub no_ports : (p : Ports) (n : ℕ) (more : List ℕ) → ArePorts p → p.proto ≡ Some n → n ≢ 6 → n ≢ 17 → from_sport p more ≡ codes "-j " ++ more
no_ports p n more are is f g = plain_target p more (by are.ports)
  where
    by : (p.sport ≡ None) × (p.dport ≡ None) ⊎ MayNamePorts p.proto → (p.sport ≡ None) × (p.dport ≡ None)
    by (inl h) = h
    by (inr (inl h)) = absurd (f (same_number n 6 (sym is ∙ h)))
    by (inr (inr h)) = absurd (g (same_number n 17 (sym is ∙ h)))

-- a wrong number behind an option
pub wrong_port : (name text rest more : List ℕ) (o : Option ℕ) → text ≡ option_then name decimal o more → text ≡ name ++ rest → IsOptional HasTwoBytes o → (o ≡ None → LacksFront name more) → ((n : ℕ) (z : List ℕ) → HasTwoBytes n → text ≡ name ++ (decimal n ++ 32 ∷ z) → ⊥) → ⊥
unfolding LacksFront
wrong_port name text rest more None e h is lacks none = lacks refl rest (sym e ∙ h)
wrong_port name text rest more (Some n) e h is lacks none = none n more is e

pub behind_sport : (p : Ports) (text read more : List ℕ) (o : Option ℕ) → ArePorts p → text ≡ from_sport p more → text ≡ option_then (codes "--sport ") decimal o read → IsOptional HasTwoBytes o → (o ≡ None → (rest : List ℕ) → text ≡ codes "--sport " ++ rest → ⊥) → read ≡ from_dport p more
unfolding LacksFront
behind_sport p text read more o are e h is plain =
    option_same (codes "--sport ") o p.sport text read (from_dport p more) h e is are.sport plain
    (λ none rest k. dport_lacks p.dport more rest (sym (ap (λ s. option_then (codes "--sport ") decimal s (from_dport p more)) none) ∙ sym e ∙ k))

pub behind_dport : (p : Ports) (text read more : List ℕ) (o : Option ℕ) → ArePorts p → text ≡ from_dport p more → text ≡ option_then (codes "--dport ") decimal o read → IsOptional HasTwoBytes o → (o ≡ None → (rest : List ℕ) → text ≡ codes "--dport " ++ rest → ⊥) → read ≡ codes "-j " ++ more
unfolding LacksFront
behind_dport p text read more o are e h is plain =
    option_same (codes "--dport ") o p.dport text read (codes "-j " ++ more) h e is are.dport plain
    (λ none rest k. target_lacks more rest (sym (ap (λ d. option_then (codes "--dport ") decimal d (codes "-j " ++ more)) none) ∙ sym e ∙ k))

pub wrong_sport : (p : Ports) (text rest more : List ℕ) → ArePorts p → text ≡ from_sport p more → text ≡ codes "--sport " ++ rest → ((n : ℕ) (z : List ℕ) → HasTwoBytes n → text ≡ codes "--sport " ++ (decimal n ++ 32 ∷ z) → ⊥) → ⊥
wrong_sport p text rest more are e h none = wrong_port (codes "--sport ") text rest (from_dport p more) p.sport e h are.sport (λ k. dport_lacks p.dport more) none

pub wrong_dport : (p : Ports) (text rest more : List ℕ) → ArePorts p → text ≡ from_dport p more → text ≡ codes "--dport " ++ rest → ((n : ℕ) (z : List ℕ) → HasTwoBytes n → text ≡ codes "--dport " ++ (decimal n ++ 32 ∷ z) → ⊥) → ⊥
wrong_dport p text rest more are e h none = wrong_port (codes "--dport ") text rest (codes "-j " ++ more) p.dport e h are.dport (λ k. target_lacks more) none

-- ports that one text has twice leave the same behind them
pub ports_once : (p q : Ports) (text x y : List ℕ) → ArePorts p → ArePorts q → text ≡ ports_then p x → text ≡ ports_then q y → x ≡ y
unfolding LacksFront
ports_once p q text x y f g e h = by p.proto refl f.proto
  where
    by : (o : Option ℕ) → p.proto ≡ o → IsOptional HasOneByte p.proto → x ≡ y
    by None k small =
        let a = alone p text x f e k in
        let b = target_alone q text y g h (λ rest z. (let bad = seconds 45 106 45 112 _ _ (sym a ∙ z) in omega arith)) in
        append_cancel_left (codes "-j ") x y (sym a ∙ b)
    by (Some n) k small =
        let whole : text ≡ codes "-p " ++ (proto_text n ++ 32 ∷ from_sport p x) = e ∙ ap (λ o. option_then (codes "-p ") proto_text o (from_sport p x)) k in
        let sports = (behind_proto q text _ y (from_sport p x) n g h whole refl (subst (IsOptional HasOneByte) k small)).1 in
        let dports = behind_sport q (from_sport p x) (from_dport p x) y p.sport g sports refl f.sport (λ none rest z. dport_front p none rest z) in
        let targets = behind_dport q (from_dport p x) (codes "-j " ++ x) y p.dport g dports refl f.dport (λ none rest z. target_front p none rest z) in
        append_cancel_left (codes "-j ") x y targets
      where
        dport_front : (p : Ports) → p.sport ≡ None → (rest : List ℕ) → from_sport p x ≡ codes "--sport " ++ rest → ⊥
        dport_front p none rest z = dport_lacks p.dport x rest (sym (ap (λ s. option_then (codes "--sport ") decimal s (from_dport p x)) none) ∙ z)

        target_front : (p : Ports) → p.dport ≡ None → (rest : List ℕ) → from_dport p x ≡ codes "--dport " ++ rest → ⊥
        target_front p none rest z = target_lacks x rest (sym (ap (λ d. option_then (codes "--dport ") decimal d (codes "-j " ++ x)) none) ∙ z)
