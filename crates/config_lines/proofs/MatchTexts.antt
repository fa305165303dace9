-- A match as the list of its fields, each with its rank and its number.
use Rattle.std.proofs.Common.{◌≡◌, ◌≢◌, ℕ, zero, suc, ◌+◌, ◌≤◌, ◌<◌, ◌==◌, Bool, true, false, cond, List, [], ◌∷◌, ◌++◌, map, length, get_or, option_map, refl, sym, ◌∙◌, ap, subst, arith, append_assoc}
use Rattle.std.specs.Prelude.{Option, None, Some, codes}
use Rattle.std.specs.List.{AllByRecursion}
use Rattle.std.specs.Str.{bytes_eq}
use Rattle.std.specs.Fmt.{decimal}
use Rattle.merlin_model.specs.declared.config.Vlan.{Vlan}
use Rattle.merlin_model.specs.declared.config.Vlan.TheVariants.{Untagged, Tag}
use Rattle.merlin_model.specs.declared.config.Match.{Match}
use Rattle.merlin_base.specs.Addresses.{mac_text, ip_text}
use Rattle.merlin_base.proofs.Cutting.{Free, free_append, cut_once}
use Rattle.config_text.specs.Words.{field}
use Rattle.config_text.specs.Lines.{vlan_text, type_field, match_fields, match_text}
use Rattle.config_lines.specs.declared.fields.Key.{Key}
use Rattle.config_lines.specs.declared.fields.Key.TheVariants.{InPort, DlSrc, DlDst, DlVlan, DlType, NwProto, NwSrc, NwDst, TpSrc, TpDst}
use Rattle.config_lines.specs.Words.{IsLimited, IsOptional}
use Rattle.config_lines.specs.Parts.{IsLineVlan, IsLineMatch}
use Rattle.config_lines.specs.Fields.{key_word, key_rank, vlan_number_text, field_value_text, IsValue, field_text, vlan_of_tag, match_with}
use Rattle.config_lines.proofs.Then.{short_free}
use Rattle.config_lines.proofs.AddressTexts.{mac_free, ip_free}
use Rattle.config_lines.proofs.Joined.{joined_free}

pub all_keys : List Key
all_keys = InPort ∷ DlSrc ∷ DlDst ∷ DlVlan ∷ DlType ∷ NwProto ∷ NwSrc ∷ NwDst ∷ TpSrc ∷ TpDst ∷ []

pub key_at : ℕ → Key
key_at r = get_or all_keys r TpDst

pub key_of_rank : (key : Key) → key_at (key_rank key) ≡ key
unfolding all_keys key_at
key_of_rank InPort = refl
key_of_rank DlSrc = refl
key_of_rank DlDst = refl
key_of_rank DlVlan = refl
key_of_rank DlType = refl
key_of_rank NwProto = refl
key_of_rank NwSrc = refl
key_of_rank NwDst = refl
key_of_rank TpSrc = refl
key_of_rank TpDst = refl

pub rank_small : (key : Key) → key_rank key < 10
rank_small InPort = omega arith
rank_small DlSrc = omega arith
rank_small DlDst = omega arith
rank_small DlVlan = omega arith
rank_small DlType = omega arith
rank_small NwProto = omega arith
rank_small NwSrc = omega arith
rank_small NwDst = omega arith
rank_small TpSrc = omega arith
rank_small TpDst = omega arith

-- the rank of the key that the word is
rank_of_word : List ℕ → ℕ
rank_of_word word =
    cond (bytes_eq word (codes "in_port")) 0 (
    cond (bytes_eq word (codes "dl_src")) 1 (
    cond (bytes_eq word (codes "dl_dst")) 2 (
    cond (bytes_eq word (codes "dl_vlan")) 3 (
    cond (bytes_eq word (codes "dl_type")) 4 (
    cond (bytes_eq word (codes "nw_proto")) 5 (
    cond (bytes_eq word (codes "nw_src")) 6 (
    cond (bytes_eq word (codes "nw_dst")) 7 (
    cond (bytes_eq word (codes "tp_src")) 8 (
    9)))))))))

rank_is : (key : Key) → rank_of_word (key_word key) ≡ key_rank key
unfolding rank_of_word
rank_is InPort = refl
rank_is DlSrc = refl
rank_is DlDst = refl
rank_is DlVlan = refl
rank_is DlType = refl
rank_is NwProto = refl
rank_is NwSrc = refl
rank_is NwDst = refl
rank_is TpSrc = refl
rank_is TpDst = refl

key_free : (byte : ℕ) (key : Key) → (byte < 45) → Free byte (key_word key)
key_free byte InPort low = ((λ e. omega arith), ((λ e. omega arith), ((λ e. omega arith), ((λ e. omega arith), ((λ e. omega arith), ((λ e. omega arith), ((λ e. omega arith), tt)))))))
key_free byte DlSrc low = ((λ e. omega arith), ((λ e. omega arith), ((λ e. omega arith), ((λ e. omega arith), ((λ e. omega arith), ((λ e. omega arith), tt))))))
key_free byte DlDst low = ((λ e. omega arith), ((λ e. omega arith), ((λ e. omega arith), ((λ e. omega arith), ((λ e. omega arith), ((λ e. omega arith), tt))))))
key_free byte DlVlan low = ((λ e. omega arith), ((λ e. omega arith), ((λ e. omega arith), ((λ e. omega arith), ((λ e. omega arith), ((λ e. omega arith), ((λ e. omega arith), tt)))))))
key_free byte DlType low = ((λ e. omega arith), ((λ e. omega arith), ((λ e. omega arith), ((λ e. omega arith), ((λ e. omega arith), ((λ e. omega arith), ((λ e. omega arith), tt)))))))
key_free byte NwProto low = ((λ e. omega arith), ((λ e. omega arith), ((λ e. omega arith), ((λ e. omega arith), ((λ e. omega arith), ((λ e. omega arith), ((λ e. omega arith), ((λ e. omega arith), tt))))))))
key_free byte NwSrc low = ((λ e. omega arith), ((λ e. omega arith), ((λ e. omega arith), ((λ e. omega arith), ((λ e. omega arith), ((λ e. omega arith), tt))))))
key_free byte NwDst low = ((λ e. omega arith), ((λ e. omega arith), ((λ e. omega arith), ((λ e. omega arith), ((λ e. omega arith), ((λ e. omega arith), tt))))))
key_free byte TpSrc low = ((λ e. omega arith), ((λ e. omega arith), ((λ e. omega arith), ((λ e. omega arith), ((λ e. omega arith), ((λ e. omega arith), tt))))))
key_free byte TpDst low = ((λ e. omega arith), ((λ e. omega arith), ((λ e. omega arith), ((λ e. omega arith), ((λ e. omega arith), ((λ e. omega arith), tt))))))

key_free_equals : (key : Key) → Free 61 (key_word key)
key_free_equals InPort = ((λ e. omega arith), ((λ e. omega arith), ((λ e. omega arith), ((λ e. omega arith), ((λ e. omega arith), ((λ e. omega arith), ((λ e. omega arith), tt)))))))
key_free_equals DlSrc = ((λ e. omega arith), ((λ e. omega arith), ((λ e. omega arith), ((λ e. omega arith), ((λ e. omega arith), ((λ e. omega arith), tt))))))
key_free_equals DlDst = ((λ e. omega arith), ((λ e. omega arith), ((λ e. omega arith), ((λ e. omega arith), ((λ e. omega arith), ((λ e. omega arith), tt))))))
key_free_equals DlVlan = ((λ e. omega arith), ((λ e. omega arith), ((λ e. omega arith), ((λ e. omega arith), ((λ e. omega arith), ((λ e. omega arith), ((λ e. omega arith), tt)))))))
key_free_equals DlType = ((λ e. omega arith), ((λ e. omega arith), ((λ e. omega arith), ((λ e. omega arith), ((λ e. omega arith), ((λ e. omega arith), ((λ e. omega arith), tt)))))))
key_free_equals NwProto = ((λ e. omega arith), ((λ e. omega arith), ((λ e. omega arith), ((λ e. omega arith), ((λ e. omega arith), ((λ e. omega arith), ((λ e. omega arith), ((λ e. omega arith), tt))))))))
key_free_equals NwSrc = ((λ e. omega arith), ((λ e. omega arith), ((λ e. omega arith), ((λ e. omega arith), ((λ e. omega arith), ((λ e. omega arith), tt))))))
key_free_equals NwDst = ((λ e. omega arith), ((λ e. omega arith), ((λ e. omega arith), ((λ e. omega arith), ((λ e. omega arith), ((λ e. omega arith), tt))))))
key_free_equals TpSrc = ((λ e. omega arith), ((λ e. omega arith), ((λ e. omega arith), ((λ e. omega arith), ((λ e. omega arith), ((λ e. omega arith), tt))))))
key_free_equals TpDst = ((λ e. omega arith), ((λ e. omega arith), ((λ e. omega arith), ((λ e. omega arith), ((λ e. omega arith), ((λ e. omega arith), tt))))))

-- a field tells its key
pub same_rank : (k l : Key) (m n : ℕ) → field_text k m ≡ field_text l n → key_rank k ≡ key_rank l
same_rank k l m n e = sym (rank_is k) ∙ ap rank_of_word (cut_once 61 (key_word k) (key_word l) (field_value_text k m) (field_value_text l n) (key_free_equals k) (key_free_equals l) e).front ∙ rank_is l

tag_free : (byte n : ℕ) → byte < 45 → IsLimited 0 4094 n → Free byte (vlan_number_text n)
tag_free byte n low is = by (n == 0)
  where
    by : (b : Bool) → Free byte (cond b (codes "none") (decimal n))
    by true = ((λ e. omega arith), ((λ e. omega arith), ((λ e. omega arith), ((λ e. omega arith), tt))))
    by false = short_free byte 0 4094 n (omega arith) (omega arith) is

value_free : (byte : ℕ) (key : Key) (n : ℕ) → byte < 45 → IsValue key n → Free byte (field_value_text key n)
value_free byte InPort n low is = short_free byte 1 65279 n (omega arith) (omega arith) is
value_free byte DlSrc n low is = mac_free byte n (omega arith)
value_free byte DlDst n low is = mac_free byte n (omega arith)
value_free byte DlVlan n low is = tag_free byte n low is
value_free byte DlType n low is = ((λ e. omega arith), ((λ e. omega arith), ((λ e. omega arith), ((λ e. omega arith), ((λ e. omega arith), ((λ e. omega arith), tt))))))
value_free byte NwProto n low is = short_free byte 0 255 n (omega arith) (omega arith) (record { low = omega arith; high = is })
value_free byte NwSrc n low is = ip_free byte n (omega arith)
value_free byte NwDst n low is = ip_free byte n (omega arith)
value_free byte TpSrc n low is = short_free byte 0 65535 n (omega arith) (omega arith) (record { low = omega arith; high = is })
value_free byte TpDst n low is = short_free byte 0 65535 n (omega arith) (omega arith) (record { low = omega arith; high = is })

pub field_free : (byte : ℕ) (key : Key) (n : ℕ) → byte < 45 → IsValue key n → Free byte (field_text key n)
field_free byte key n low is = free_append byte (key_word key) (61 ∷ field_value_text key n) (key_free byte key low) ((λ e. omega arith), value_free byte key n low is)

-- The numbers of a match, one for each key, and the list of those that are there.

unfoldable pub vlan_number : Vlan → ℕ
vlan_number Untagged = 0
vlan_number (Tag n) = n

unfoldable pub type_number : Bool → Option ℕ
type_number true = Some 0
type_number false = None

unfoldable pub values : Match → List (Option ℕ)
values m = m.in_port ∷ m.dl_src ∷ m.dl_dst ∷ option_map vlan_number m.dl_vlan ∷ type_number m.dl_type ∷ m.nw_proto ∷ m.nw_src ∷ m.nw_dst ∷ m.tp_src ∷ m.tp_dst ∷ []

unfoldable pub fields_from : ℕ → List (Option ℕ) → List (ℕ × ℕ)
fields_from r [] = []
fields_from r (None ∷ os) = fields_from (r + 1) os
fields_from r (Some n ∷ os) = (r, n) ∷ fields_from (r + 1) os

unfoldable pub fields_of : Match → List (ℕ × ℕ)
fields_of m = fields_from 0 (values m)

pub text_of : ℕ × ℕ → List ℕ
text_of p = field_text (key_at p.0) p.1

-- a field of this rank with a lawful number
pub IsField : ℕ × ℕ → Type 0
IsField p = (p.0 < 10) × IsValue (key_at p.0) p.1

pub text_free : (byte : ℕ) (p : ℕ × ℕ) → byte < 45 → IsField p → Free byte (text_of p)
unfolding text_of IsField
text_free byte p low is = field_free byte (key_at p.0) p.1 low is.1

texts_free : (byte : ℕ) (ps : List (ℕ × ℕ)) → byte < 45 → AllByRecursion IsField ps → AllByRecursion (Free byte) (map text_of ps)
texts_free byte [] low all = tt
texts_free byte (p ∷ ps) low all = (text_free byte p low all.0, texts_free byte ps low all.1)

-- Each field of the match is one of the list, and the list has no other.

plain : (r : ℕ) (name : List ℕ) (text : ℕ → List ℕ) (o : Option ℕ) (os : List (Option ℕ)) (others : List (List ℕ)) → ((n : ℕ) → name ++ (codes "=" ++ text n) ≡ text_of (r, n)) → others ≡ map text_of (fields_from (r + 1) os) →
    field name text o ++ others ≡ map text_of (fields_from r (o ∷ os))
unfolding fields_from
plain r name text None os others same e = e
plain r name text (Some v) os others same e = (let s = same v in cc)

tagged : (o : Option Vlan) (os : List (Option ℕ)) (others : List (List ℕ)) → IsOptional IsLineVlan o → others ≡ map text_of (fields_from 4 os) → field (codes "dl_vlan") vlan_text o ++ others ≡ map text_of (fields_from 3 (option_map vlan_number o ∷ os))
unfolding fields_from vlan_number text_of key_at all_keys
tagged None os others is e = e
tagged (Some Untagged) os others is e = ap (λ z. (codes "dl_vlan=none") ∷ z) e
tagged (Some (Tag n)) os others is e = by (n == 0) refl
  where
    by : (b : Bool) → (n == 0) ≡ b → (codes "dl_vlan" ++ (codes "=" ++ decimal n)) ∷ others ≡ (codes "dl_vlan" ++ 61 ∷ cond b (codes "none") (decimal n)) ∷ map text_of (fields_from 4 os)
    by true z = absurd (let l = is.low in let zero_is : n ≡ 0 = grind arith in omega arith)
    by false z = ap (λ y. (codes "dl_vlan" ++ 61 ∷ decimal n) ∷ y) e

typed : (b : Bool) (os : List (Option ℕ)) (others : List (List ℕ)) → others ≡ map text_of (fields_from 5 os) → type_field b ++ others ≡ map text_of (fields_from 4 (type_number b ∷ os))
unfolding fields_from type_number text_of key_at all_keys
typed true os others e = ap (λ z. codes "dl_type=0x0800" ∷ z) e
typed false os others e = e

pub fields_are : (m : Match) → IsLineMatch m → match_fields m ≡ map text_of (fields_of m)
unfolding fields_of values fields_from text_of key_at all_keys vlan_number type_number
fields_are m is =
    regroup ∙ plain 0 (codes "in_port") decimal m.in_port (m.dl_src ∷ m.dl_dst ∷ option_map vlan_number m.dl_vlan ∷ type_number m.dl_type ∷ m.nw_proto ∷ m.nw_src ∷ m.nw_dst ∷ m.tp_src ∷ m.tp_dst ∷ []) _ (λ n. refl)
    (plain 1 (codes "dl_src") mac_text m.dl_src (m.dl_dst ∷ option_map vlan_number m.dl_vlan ∷ type_number m.dl_type ∷ m.nw_proto ∷ m.nw_src ∷ m.nw_dst ∷ m.tp_src ∷ m.tp_dst ∷ []) _ (λ n. refl)
    (plain 2 (codes "dl_dst") mac_text m.dl_dst (option_map vlan_number m.dl_vlan ∷ type_number m.dl_type ∷ m.nw_proto ∷ m.nw_src ∷ m.nw_dst ∷ m.tp_src ∷ m.tp_dst ∷ []) _ (λ n. refl)
    (tagged m.dl_vlan (type_number m.dl_type ∷ m.nw_proto ∷ m.nw_src ∷ m.nw_dst ∷ m.tp_src ∷ m.tp_dst ∷ []) _ is.dl_vlan
    (typed m.dl_type (m.nw_proto ∷ m.nw_src ∷ m.nw_dst ∷ m.tp_src ∷ m.tp_dst ∷ []) _
    (plain 5 (codes "nw_proto") decimal m.nw_proto (m.nw_src ∷ m.nw_dst ∷ m.tp_src ∷ m.tp_dst ∷ []) _ (λ n. refl)
    (plain 6 (codes "nw_src") ip_text m.nw_src (m.nw_dst ∷ m.tp_src ∷ m.tp_dst ∷ []) _ (λ n. refl)
    (plain 7 (codes "nw_dst") ip_text m.nw_dst (m.tp_src ∷ m.tp_dst ∷ []) _ (λ n. refl)
    (plain 8 (codes "tp_src") decimal m.tp_src (m.tp_dst ∷ []) _ (λ n. refl)
    (last m.tp_dst)))))))))
  where
    regroup : match_fields m ≡ field (codes "in_port") decimal m.in_port ++ (field (codes "dl_src") mac_text m.dl_src ++ (field (codes "dl_dst") mac_text m.dl_dst ++ (field (codes "dl_vlan") vlan_text m.dl_vlan ++ (type_field m.dl_type
        ++ (field (codes "nw_proto") decimal m.nw_proto ++ (field (codes "nw_src") ip_text m.nw_src ++ (field (codes "nw_dst") ip_text m.nw_dst ++ (field (codes "tp_src") decimal m.tp_src ++ field (codes "tp_dst") decimal m.tp_dst))))))))
    regroup = simp append_assoc

    last : (o : Option ℕ) → field (codes "tp_dst") decimal o ≡ map text_of (fields_from 9 (o ∷ []))
    last None = refl
    last (Some n) = refl

one_field : (r : ℕ) (o : Option ℕ) (os : List (Option ℕ)) → r < 10 → IsOptional (IsValue (key_at r)) o → AllByRecursion IsField (fields_from (r + 1) os) → AllByRecursion IsField (fields_from r (o ∷ os))
unfolding fields_from IsField
one_field r None os low is all = all
one_field r (Some n) os low is all = ((low, is), all)

pub fields_lawful : (m : Match) → IsLineMatch m → AllByRecursion IsField (fields_of m)
unfolding fields_of values fields_from key_at all_keys vlan_number type_number
fields_lawful m is =
    one_field 0 m.in_port (m.dl_src ∷ m.dl_dst ∷ option_map vlan_number m.dl_vlan ∷ type_number m.dl_type ∷ m.nw_proto ∷ m.nw_src ∷ m.nw_dst ∷ m.tp_src ∷ m.tp_dst ∷ []) (omega arith) is.in_port
    (one_field 1 m.dl_src (m.dl_dst ∷ option_map vlan_number m.dl_vlan ∷ type_number m.dl_type ∷ m.nw_proto ∷ m.nw_src ∷ m.nw_dst ∷ m.tp_src ∷ m.tp_dst ∷ []) (omega arith) is.dl_src
    (one_field 2 m.dl_dst (option_map vlan_number m.dl_vlan ∷ type_number m.dl_type ∷ m.nw_proto ∷ m.nw_src ∷ m.nw_dst ∷ m.tp_src ∷ m.tp_dst ∷ []) (omega arith) is.dl_dst
    (one_field 3 (option_map vlan_number m.dl_vlan) (type_number m.dl_type ∷ m.nw_proto ∷ m.nw_src ∷ m.nw_dst ∷ m.tp_src ∷ m.tp_dst ∷ []) (omega arith) (tag m.dl_vlan is.dl_vlan)
    (one_field 4 (type_number m.dl_type) (m.nw_proto ∷ m.nw_src ∷ m.nw_dst ∷ m.tp_src ∷ m.tp_dst ∷ []) (omega arith) (ether m.dl_type)
    (one_field 5 m.nw_proto (m.nw_src ∷ m.nw_dst ∷ m.tp_src ∷ m.tp_dst ∷ []) (omega arith) is.nw_proto
    (one_field 6 m.nw_src (m.nw_dst ∷ m.tp_src ∷ m.tp_dst ∷ []) (omega arith) is.nw_src
    (one_field 7 m.nw_dst (m.tp_src ∷ m.tp_dst ∷ []) (omega arith) is.nw_dst
    (one_field 8 m.tp_src (m.tp_dst ∷ []) (omega arith) is.tp_src
    (one_field 9 m.tp_dst [] (omega arith) is.tp_dst tt)))))))))
  where
    tag : (o : Option Vlan) → IsOptional IsLineVlan o → IsOptional (IsLimited 0 4094) (option_map vlan_number o)
    tag None h = tt
    tag (Some Untagged) h = record { low = omega arith; high = omega arith }
    tag (Some (Tag n)) h = record { low = omega arith; high = h.high }

    ether : (b : Bool) → IsOptional (λ (n : ℕ). n ≡ 0) (type_number b)
    ether true = refl
    ether false = tt

pub match_free : (byte : ℕ) (m : Match) → byte < 44 → IsLineMatch m → Free byte (match_text m)
match_free byte m low is =
    joined_free byte (codes "any") (match_fields m) (λ e. omega arith) ((λ e. omega arith), ((λ e. omega arith), ((λ e. omega arith), tt)))
    (subst (AllByRecursion (Free byte)) (sym (fields_are m is)) (texts_free byte (fields_of m) (omega arith) (fields_lawful m is)))

-- Ranks ascend.

pub Ascend : ℕ → List (ℕ × ℕ) → Type 0
Ascend r [] = Unit {0}
Ascend r (p ∷ ps) = (r ≤ p.0) × Ascend (p.0 + 1) ps

-- the rank from which on no field is in the list
pub end_of : ℕ → List (ℕ × ℕ) → ℕ
end_of r [] = r
end_of r (p ∷ ps) = end_of (p.0 + 1) ps

ascend-weaker : (q r : ℕ) (ps : List (ℕ × ℕ)) → q ≤ r → Ascend r ps → Ascend q ps
unfolding Ascend
ascend-weaker q r [] h all = tt
ascend-weaker q r (p ∷ ps) h all = (let l = all.0 in omega arith, all.1)

pub fields_ascend : (r : ℕ) (os : List (Option ℕ)) → Ascend r (fields_from r os)
unfolding Ascend fields_from
fields_ascend r [] = tt
fields_ascend r (None ∷ os) = ascend-weaker r (r + 1) (fields_from (r + 1) os) (omega arith) (fields_ascend (r + 1) os)
fields_ascend r (Some n ∷ os) = (omega arith, fields_ascend (r + 1) os)

pub next_rank : (r : ℕ) (front later : List (ℕ × ℕ)) (p : ℕ × ℕ) → Ascend r (front ++ p ∷ later) → end_of r front ≤ p.0
unfolding Ascend end_of
next_rank r [] later p all = all.0
next_rank r (q ∷ front) later p all = next_rank (q.0 + 1) front later p all.1

pub end_last : (r : ℕ) (front : List (ℕ × ℕ)) (p : ℕ × ℕ) → end_of r (front ++ p ∷ []) ≡ p.0 + 1
unfolding end_of
end_last r [] p = refl
end_last r (q ∷ front) p = end_last (q.0 + 1) front p

end_above : (r : ℕ) (ps : List (ℕ × ℕ)) → Ascend r ps → r ≤ end_of r ps
unfolding Ascend end_of
end_above r [] all = omega arith
end_above r (p ∷ ps) all = let l = end_above (p.0 + 1) ps all.1 in let h = all.0 in omega arith

all_below : (r bound : ℕ) (ps : List (ℕ × ℕ)) → Ascend r ps → end_of r ps ≤ bound → AllByRecursion (λ p. p.0 < bound) ps
unfolding Ascend end_of
all_below r bound [] all e = tt
all_below r bound (p ∷ ps) all e = (let l = end_above (p.0 + 1) ps all.1 in omega arith, all_below (p.0 + 1) bound ps all.1 e)

none_from : (r : ℕ) (ps : List (ℕ × ℕ)) → Ascend r ps → AllByRecursion (λ p. p.0 < r) ps → ps ≡ []
unfolding Ascend
none_from r [] all small = refl
none_from r (p ∷ ps) all small = absurd (let l = all.0 in let h = small.0 in omega arith)

pub set_at : List (Option ℕ) → ℕ → ℕ → List (Option ℕ)
set_at [] k n = []
set_at (o ∷ os) zero n = Some n ∷ os
set_at (o ∷ os) (suc k) n = o ∷ set_at os k n

set_fields : (r k n : ℕ) (os : List (Option ℕ)) → k < length os → AllByRecursion (λ p. p.0 < r + k) (fields_from r os) → fields_from r (set_at os k n) ≡ fields_from r os ++ (r + k, n) ∷ []
unfolding fields_from set_at
set_fields r k n [] h small = absurd (omega arith)
set_fields r zero n (None ∷ os) h small =
    let empty = none_from (r + 1) (fields_from (r + 1) os) (fields_ascend (r + 1) os) (weaker (fields_from (r + 1) os) small) in
    ap (λ ps. (r, n) ∷ ps) empty ∙ ap (λ k. (k, n) ∷ []) (let z : r ≡ r + 0 = omega arith in z) ∙ ap (λ ps. ps ++ (r + 0, n) ∷ []) (sym empty)
  where
    weaker : (ps : List (ℕ × ℕ)) → AllByRecursion (λ p. p.0 < r + 0) ps → AllByRecursion (λ p. p.0 < r + 1) ps
    weaker [] h = tt
    weaker (p ∷ ps) h = (let l = h.0 in omega arith, weaker ps h.1)
set_fields r zero n (Some v ∷ os) h small = absurd (let l = small.0 in omega arith)
set_fields r (suc k) n (None ∷ os) h small =
    let same : r + suc k ≡ r + 1 + k = omega arith in
    set_fields (r + 1) k n os (omega arith) (subst (λ b. AllByRecursion (λ p. p.0 < b) (fields_from (r + 1) os)) same small) ∙ ap (λ b. fields_from (r + 1) os ++ (b, n) ∷ []) (sym same)
set_fields r (suc k) n (Some v ∷ os) h small =
    let same : r + suc k ≡ r + 1 + k = omega arith in
    ap (λ ps. (r, v) ∷ ps) (set_fields (r + 1) k n os (omega arith) (subst (λ b. AllByRecursion (λ p. p.0 < b) (fields_from (r + 1) os)) same small.1) ∙ ap (λ b. fields_from (r + 1) os ++ (b, n) ∷ []) (sym same))

number_of_vlan : (n : ℕ) → vlan_number (vlan_of_tag n) ≡ n
unfolding vlan_number
number_of_vlan n = by (n == 0) refl
  where
    by : (b : Bool) → (n == 0) ≡ b → vlan_number (cond b Untagged (Tag n)) ≡ n
    by true e = (let z : n ≡ 0 = grind arith in sym z)
    by false e = refl

values_with : (m : Match) (key : Key) (n : ℕ) → IsValue key n → values (match_with m key n) ≡ set_at (values m) (key_rank key) n
unfolding values set_at type_number
values_with m InPort n is = refl
values_with m DlSrc n is = refl
values_with m DlDst n is = refl
values_with m DlVlan n is = ap (λ v. m.in_port ∷ m.dl_src ∷ m.dl_dst ∷ Some v ∷ type_number m.dl_type ∷ m.nw_proto ∷ m.nw_src ∷ m.nw_dst ∷ m.tp_src ∷ m.tp_dst ∷ []) (number_of_vlan n)
values_with m DlType n is = ap (λ v. m.in_port ∷ m.dl_src ∷ m.dl_dst ∷ option_map vlan_number m.dl_vlan ∷ Some v ∷ m.nw_proto ∷ m.nw_src ∷ m.nw_dst ∷ m.tp_src ∷ m.tp_dst ∷ []) (sym is)
values_with m NwProto n is = refl
values_with m NwSrc n is = refl
values_with m NwDst n is = refl
values_with m TpSrc n is = refl
values_with m TpDst n is = refl

-- one field more
pub field_pushed : (m : Match) (key : Key) (n : ℕ) → IsValue key n → end_of 0 (fields_of m) ≤ key_rank key → fields_of (match_with m key n) ≡ fields_of m ++ (key_rank key, n) ∷ []
unfolding fields_of values
field_pushed m key n is low =
    ap (fields_from 0) (values_with m key n is) ∙ set_fields 0 (key_rank key) n (values m) (ten key) (all_below 0 (0 + key_rank key) (fields_of m) (fields_ascend 0 (values m)) (omega arith)) ∙ ap (λ k. fields_from 0 (values m) ++ (k, n) ∷ []) (let z : 0 + key_rank key ≡ key_rank key = omega arith in z)
  where
    ten : (k : Key) → key_rank k < length (values m)
    ten k = rank_small k

lawful_vlan : (n : ℕ) → IsLimited 0 4094 n → IsLineVlan (vlan_of_tag n)
lawful_vlan n is = by (n == 0) refl
  where
    by : (b : Bool) → (n == 0) ≡ b → IsLineVlan (cond b Untagged (Tag n))
    by true e = tt
    by false e = record { low = (let z : n ≢ 0 = grind arith in omega arith); high = is.high }

pub match_kept : (m : Match) (key : Key) (n : ℕ) → IsLineMatch m → IsValue key n → IsLineMatch (match_with m key n)
match_kept m InPort n is v = record { in_port = v; dl_src = is.dl_src; dl_dst = is.dl_dst; dl_vlan = is.dl_vlan; nw_proto = is.nw_proto; nw_src = is.nw_src; nw_dst = is.nw_dst; tp_src = is.tp_src; tp_dst = is.tp_dst }
match_kept m DlSrc n is v = record { in_port = is.in_port; dl_src = v; dl_dst = is.dl_dst; dl_vlan = is.dl_vlan; nw_proto = is.nw_proto; nw_src = is.nw_src; nw_dst = is.nw_dst; tp_src = is.tp_src; tp_dst = is.tp_dst }
match_kept m DlDst n is v = record { in_port = is.in_port; dl_src = is.dl_src; dl_dst = v; dl_vlan = is.dl_vlan; nw_proto = is.nw_proto; nw_src = is.nw_src; nw_dst = is.nw_dst; tp_src = is.tp_src; tp_dst = is.tp_dst }
match_kept m DlVlan n is v = record { in_port = is.in_port; dl_src = is.dl_src; dl_dst = is.dl_dst; dl_vlan = lawful_vlan n v; nw_proto = is.nw_proto; nw_src = is.nw_src; nw_dst = is.nw_dst; tp_src = is.tp_src; tp_dst = is.tp_dst }
match_kept m DlType n is v = record { in_port = is.in_port; dl_src = is.dl_src; dl_dst = is.dl_dst; dl_vlan = is.dl_vlan; nw_proto = is.nw_proto; nw_src = is.nw_src; nw_dst = is.nw_dst; tp_src = is.tp_src; tp_dst = is.tp_dst }
match_kept m NwProto n is v = record { in_port = is.in_port; dl_src = is.dl_src; dl_dst = is.dl_dst; dl_vlan = is.dl_vlan; nw_proto = v; nw_src = is.nw_src; nw_dst = is.nw_dst; tp_src = is.tp_src; tp_dst = is.tp_dst }
match_kept m NwSrc n is v = record { in_port = is.in_port; dl_src = is.dl_src; dl_dst = is.dl_dst; dl_vlan = is.dl_vlan; nw_proto = is.nw_proto; nw_src = v; nw_dst = is.nw_dst; tp_src = is.tp_src; tp_dst = is.tp_dst }
match_kept m NwDst n is v = record { in_port = is.in_port; dl_src = is.dl_src; dl_dst = is.dl_dst; dl_vlan = is.dl_vlan; nw_proto = is.nw_proto; nw_src = is.nw_src; nw_dst = v; tp_src = is.tp_src; tp_dst = is.tp_dst }
match_kept m TpSrc n is v = record { in_port = is.in_port; dl_src = is.dl_src; dl_dst = is.dl_dst; dl_vlan = is.dl_vlan; nw_proto = is.nw_proto; nw_src = is.nw_src; nw_dst = is.nw_dst; tp_src = v; tp_dst = is.tp_dst }
match_kept m TpDst n is v = record { in_port = is.in_port; dl_src = is.dl_src; dl_dst = is.dl_dst; dl_vlan = is.dl_vlan; nw_proto = is.nw_proto; nw_src = is.nw_src; nw_dst = is.nw_dst; tp_src = is.tp_src; tp_dst = v }

pub rank_at : (k : ℕ) → k < 10 → key_rank (key_at k) ≡ k
unfolding key_at all_keys
rank_at zero h = refl
rank_at (suc zero) h = refl
rank_at (suc (suc zero)) h = refl
rank_at (suc (suc (suc zero))) h = refl
rank_at (suc (suc (suc (suc zero)))) h = refl
rank_at (suc (suc (suc (suc (suc zero))))) h = refl
rank_at (suc (suc (suc (suc (suc (suc zero)))))) h = refl
rank_at (suc (suc (suc (suc (suc (suc (suc zero))))))) h = refl
rank_at (suc (suc (suc (suc (suc (suc (suc (suc zero)))))))) h = refl
rank_at (suc (suc (suc (suc (suc (suc (suc (suc (suc zero))))))))) h = refl
rank_at (suc (suc (suc (suc (suc (suc (suc (suc (suc (suc k)))))))))) h = absurd (omega arith)

-- the rank that ends a list is told by the texts of its fields
pub end_same : (r : ℕ) (ps qs : List (ℕ × ℕ)) → AllByRecursion IsField ps → AllByRecursion IsField qs → map text_of ps ≡ map text_of qs → end_of r ps ≡ end_of r qs
unfolding end_of IsField text_of
end_same r [] [] f g e = refl
end_same r [] (q ∷ qs) f g e = absurd (let no_way : [] ≡ text_of q ∷ map text_of qs → ⊥ = λ h. cc in no_way e)
end_same r (p ∷ ps) [] f g e = absurd (let no_way : text_of p ∷ map text_of ps ≡ [] → ⊥ = λ h. cc in no_way e)
end_same r (p ∷ ps) (q ∷ qs) f g e =
    let first : text_of p ≡ text_of q = cc in
    let later : map text_of ps ≡ map text_of qs = cc in
    let ranks : key_rank (key_at p.0) ≡ key_rank (key_at q.0) = same_rank (key_at p.0) (key_at q.0) p.1 q.1 first in
    let same : p.0 ≡ q.0 = sym (rank_at p.0 f.0.0) ∙ ranks ∙ rank_at q.0 g.0.0 in
    end_same (p.0 + 1) ps qs f.1 g.1 later ∙ ap (λ k. end_of (k + 1) qs) same

abbrev pub no_field : Match
no_field = record { in_port = None; dl_src = None; dl_dst = None; dl_vlan = None; dl_type = false; nw_proto = None; nw_src = None; nw_dst = None; tp_src = None; tp_dst = None }

pub no_fields : fields_of no_field ≡ []
unfolding fields_of values fields_from vlan_number type_number
no_fields = refl

pub end_none : (r : ℕ) → end_of r [] ≡ r
unfolding end_of
end_none r = refl

pub all_ascend : (m : Match) → Ascend 0 (fields_of m)
unfolding fields_of
all_ascend m = fields_ascend 0 (values m)

pub text_is : (key : Key) (n : ℕ) → text_of (key_rank key, n) ≡ field_text key n
unfolding text_of
text_is key n = ap (λ k. field_text k n) (key_of_rank key)

pub text_at : (p : ℕ × ℕ) → text_of p ≡ field_text (key_at p.0) p.1
unfolding text_of
text_at p = refl

pub lawful_at : (p : ℕ × ℕ) → IsField p → (p.0 < 10) × IsValue (key_at p.0) p.1
unfolding IsField
lawful_at p is = is
