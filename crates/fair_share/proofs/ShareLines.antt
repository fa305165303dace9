-- The line of a tenant, from its front to its newline.
use Rattle.std.proofs.Common.{◌≡◌, ◌≢◌, ℕ, zero, suc, ◌≤◌, ◌<◌, ◌^◌, inl, List, [], ◌∷◌, ◌++◌, length, map, Option, None, Some, MatchOption, unwrap_or, slice_get, codes, refl, sym, ◌∙◌, ap, subst, append_assoc, arith, lit<}
use Rattle.std.specs.Bool.{⊤}
use Rattle.std.specs.List.{AllByRecursion}
use Rattle.std.specs.Fmt.{decimal}
use Rattle.std.proofs.lemmas.List.{append_cancel_left}
use Rattle.std.proofs.lemmas.List.Elements.{recursion_from_All}
use Rattle.merlin_base.specs.Lexemes.{Lacks, IsName, IsIdentifier, IsNameByte, IsDigit}
use Rattle.merlin_base.proofs.Cutting.{Free, free, free_append, free_middle, AreSame, cut_once}
use Rattle.merlin_base.proofs.Decimals.{is_decimal, decimal_free}
use Rattle.fair_share.specs.declared.cap.Cap.{Cap}
use Rattle.fair_share.specs.declared.cap.Tenant.{Tenant}
use Rattle.fair_share.specs.declared.share.Share.{Share}
use Rattle.fair_share.specs.ShareTexts.{cap_name, cap_bound_text, share_words, share_line, AreNamed, IsShare}

-- The names of caps.

pub named-at : (caps : List Cap) (c : ℕ) (name : List ℕ) → slice_get (map (λ cap. cap.name) caps) c ≡ Some name → (cap_name caps c ≡ name) × (c < length caps)
named-at [] c name e = let no : ⊥ = cc in absurd no
named-at (cap ∷ caps) zero name e = (ap (λ o. unwrap_or o name) e, omega arith)
named-at (cap ∷ caps) (suc c) name e = let h = named-at caps c name e in (h.0, (let l = h.1 in omega arith))

pub at-name : (caps : List Cap) (c : ℕ) → c < length caps → slice_get (map (λ cap. cap.name) caps) c ≡ Some (cap_name caps c)
at-name [] c l = let no : ⊥ = omega arith in absurd no
at-name (cap ∷ caps) zero l = refl
at-name (cap ∷ caps) (suc c) l = at-name caps c (omega arith)

name-byte-free : (c : ℕ) → IsNameByte c → c ≢ 10
name-byte-free c is e = grind arith

name-bytes-free : (text : List ℕ) → AllByRecursion IsNameByte text → Free 10 text
name-bytes-free [] all = tt
name-bytes-free (c ∷ text) all = (name-byte-free c all.0, name-bytes-free text all.1)

pub name-free : (text : List ℕ) → IsName text → Free 10 text
name-free text is = by text is.identifier
  where
    by : (t : List ℕ) → IsIdentifier t → Free 10 t
    by [] h = absurd h
    by (c ∷ cs) h = (name-byte-free c (inl h.0), name-bytes-free cs (recursion_from_All IsNameByte cs h.1))

pub cap-name-free : (caps : List Cap) → AreNamed caps → (c : ℕ) → c < length caps → Free 10 (cap_name caps c)
cap-name-free [] named c l = let no : ⊥ = omega arith in absurd no
cap-name-free (cap ∷ caps) named zero l = name-free cap.name named.0
cap-name-free (cap ∷ caps) named (suc c) l = cap-name-free caps named.1 c (omega arith)

abbrev pub IsThere : List Cap → Option ℕ → Type 0
IsThere caps cap = MatchOption cap ⊤ (λ c. c < length caps)

bound-free : (caps : List Cap) → AreNamed caps → (cap : Option ℕ) → IsThere caps cap → Free 10 (cap_bound_text caps cap)
bound-free caps named None h = ((λ e. omega arith), ((λ e. omega arith), ((λ e. omega arith), ((λ e. omega arith), ((λ e. omega arith), ((λ e. omega arith), tt))))))
bound-free caps named (Some c) h = ((λ e. omega arith), ((λ e. omega arith), ((λ e. omega arith), ((λ e. omega arith), cap-name-free caps named c h))))

small : {n : ℕ} → n ≤ 1000000000 → n < 10 ^ 19
small {n} h = let t : 1000000000 < 10 ^ 19 = lit< tt in omega arith

-- a line has no newline but its last byte
pub words-free : (caps : List Cap) → AreNamed caps → (t : Tenant) → IsName t.name → (s : Share) → IsShare caps s → Free 10 (share_words caps t s)
words-free caps named t is s share = (
  (λ e. omega arith),
  (
    (λ e. omega arith),
    (
      (λ e. omega arith),
      (
        (λ e. omega arith),
        (
          (λ e. omega arith),
          (
            (λ e. omega arith),
            free_append 10 t.name _ (name-free t.name is) (
              (λ e. omega arith),
              free_append 10 (decimal s.rate) _ (decimal_free 10 s.rate (small share.rate) (omega arith))
                  ((λ e. omega arith), ((λ e. omega arith), ((λ e. omega arith), ((λ e. omega arith), ((λ e. omega arith), bound-free caps named s.cap share.cap))))),
            ),
          ),
        ),
      ),
    ),
  ),
)

-- The parts of a line, one behind the other.

shift : (a m x r : List ℕ) → ((a ++ m) ++ x) ++ r ≡ a ++ ((m ++ x) ++ r)
shift a m x r = ap (λ z. z ++ r) (append_assoc a m x) ∙ append_assoc a (m ++ x) r

five : (a n b d e f x r : List ℕ) → ((a ++ (n ++ (b ++ (d ++ (e ++ f))))) ++ x) ++ r ≡ a ++ (n ++ (b ++ (d ++ (e ++ ((f ++ x) ++ r)))))
five a n b d e f x r = shift a (n ++ (b ++ (d ++ (e ++ f)))) x r ∙ ap (λ z. a ++ z) (shift n (b ++ (d ++ (e ++ f))) x r ∙ ap (λ z. n ++ z) (shift b (d ++ (e ++ f)) x r ∙ ap (λ z. b ++ z) (shift d (e ++ f) x r ∙ ap (λ z. d ++ z) (shift e f x r))))

pub parts-of : (caps : List Cap) (t : Tenant) (s : Share) (rest : List ℕ) →
    share_line caps t s ++ rest ≡ codes "share " ++ (t.name ++ (codes " " ++ (decimal s.rate ++ 107 ∷ (codes "bps " ++ ((cap_bound_text caps s.cap ++ 10 ∷ []) ++ rest)))))
parts-of caps t s rest = five (codes "share ") t.name (codes " ") (decimal s.rate) (codes "kbps ") (cap_bound_text caps s.cap) (10 ∷ []) rest

-- A bound that is read.

pub bound-named : (caps : List Cap) (text named name rest : List ℕ) (c : ℕ) → text ≡ codes "cap " ++ named → named ≡ name ++ 10 ∷ rest → slice_get (map (λ cap. cap.name) caps) c ≡ Some name →
    (text ≡ (cap_bound_text caps (Some c) ++ 10 ∷ []) ++ rest) × (c < length caps)
bound-named caps text named name rest c e f at =
    let h = named-at caps c name at in
    (e ∙ ap (λ z. codes "cap " ++ z) (f ∙ ap (λ z. z ++ 10 ∷ rest) (sym h.0) ∙ sym (append_assoc (cap_name caps c) (10 ∷ []) rest)) ∙ sym (shift (codes "cap ") (cap_name caps c) (10 ∷ []) rest), h.1)

pub behind-cap : (caps : List Cap) (text rest : List ℕ) (c : ℕ) → text ≡ (cap_bound_text caps (Some c) ++ 10 ∷ []) ++ rest → text ≡ codes "cap " ++ (cap_name caps c ++ 10 ∷ rest)
behind-cap caps text rest c e = e ∙ shift (codes "cap ") (cap_name caps c) (10 ∷ []) rest ∙ ap (λ z. codes "cap " ++ z) (append_assoc (cap_name caps c) (10 ∷ []) rest)

-- Why no bound is read.

abbrev pub IsNoBound : List Cap → List ℕ → Type 0
IsNoBound caps text = (cap : Option ℕ) (rest : List ℕ) → IsThere caps cap → text ≡ (cap_bound_text caps cap ++ 10 ∷ []) ++ rest → ⊥

pub neither : (caps : List Cap) (text : List ℕ) → ((rest : List ℕ) → text ≡ codes "demand\n" ++ rest → ⊥) → ((rest : List ℕ) → text ≡ codes "cap " ++ rest → ⊥) → IsNoBound caps text
neither caps text a b None rest there e = a rest e
neither caps text a b (Some c) rest there e = b (cap_name caps c ++ 10 ∷ rest) (behind-cap caps text rest c e)

pub unended : (caps : List Cap) (text named : List ℕ) → ((rest : List ℕ) → text ≡ codes "demand\n" ++ rest → ⊥) → text ≡ codes "cap " ++ named → Lacks 10 named → IsNoBound caps text
unended caps text named a f lacking None rest there e = a rest e
unended caps text named a f lacking (Some c) rest there e =
    let same : named ≡ cap_name caps c ++ 10 ∷ rest = append_cancel_left (codes "cap ") named (cap_name caps c ++ 10 ∷ rest) (sym f ∙ behind-cap caps text rest c e) in
    free_middle 10 (cap_name caps c) rest (subst (Free 10) same (free 10 named lacking))

pub unknown : (caps : List Cap) → AreNamed caps → (text named name behind : List ℕ) → ((rest : List ℕ) → text ≡ codes "demand\n" ++ rest → ⊥) → text ≡ codes "cap " ++ named → named ≡ name ++ 10 ∷ behind → Lacks 10 name →
    ((c : ℕ) → slice_get (map (λ cap. cap.name) caps) c ≡ Some name → ⊥) → IsNoBound caps text
unknown caps are text named name behind a f g lacking none None rest there e = a rest e
unknown caps are text named name behind a f g lacking none (Some c) rest there e =
    let same : named ≡ cap_name caps c ++ 10 ∷ rest = append_cancel_left (codes "cap ") named (cap_name caps c ++ 10 ∷ rest) (sym f ∙ behind-cap caps text rest c e) in
    let cut : AreSame name (cap_name caps c) behind rest = cut_once 10 name (cap_name caps c) behind rest (free 10 name lacking) (cap-name-free caps are c there) (sym g ∙ same) in
    none c (at-name caps c there ∙ ap Some (sym cut.front))

-- Why no share is read.

abbrev pub IsNoShare : List Cap → Tenant → List ℕ → Type 0
IsNoShare caps t text = (s : Share) (rest : List ℕ) → IsShare caps s → text ≡ share_line caps t s ++ rest → ⊥

pub digit-free : (n : ℕ) → n ≤ 1000000000 → Free 107 (decimal n)
digit-free n h = by (decimal n) (recursion_from_All IsDigit (decimal n) (is_decimal n (small h)).digits)
  where
    by : (text : List ℕ) → AllByRecursion IsDigit text → Free 107 text
    by [] all = tt
    by (c ∷ cs) all = ((λ e. let d = all.0.1 in omega arith), by cs all.1)

module _ (caps : List Cap) (t : Tenant) (text : List ℕ) where
  pub no-word : ((rest : List ℕ) → text ≡ codes "share " ++ rest → ⊥) → IsNoShare caps t text
  no-word none s rest is e = none _ (e ∙ parts-of caps t s rest)

  module _ (named : List ℕ) (f : text ≡ codes "share " ++ named) where
    behind-word : (s : Share) (rest : List ℕ) → text ≡ share_line caps t s ++ rest → named ≡ t.name ++ (codes " " ++ (decimal s.rate ++ 107 ∷ (codes "bps " ++ ((cap_bound_text caps s.cap ++ 10 ∷ []) ++ rest))))
    behind-word s rest e = append_cancel_left (codes "share ") named _ (sym f ∙ (e ∙ parts-of caps t s rest))

    pub no-name : ((rest : List ℕ) → named ≡ t.name ++ rest → ⊥) → IsNoShare caps t text
    no-name none s rest is e = none _ (behind-word s rest e)

    module _ (behind : List ℕ) (g : named ≡ t.name ++ behind) where
      behind-name : (s : Share) (rest : List ℕ) → text ≡ share_line caps t s ++ rest → behind ≡ codes " " ++ (decimal s.rate ++ 107 ∷ (codes "bps " ++ ((cap_bound_text caps s.cap ++ 10 ∷ []) ++ rest)))
      behind-name s rest e = append_cancel_left t.name behind _ (sym g ∙ behind-word s rest e)

      pub no-blank : ((rest : List ℕ) → behind ≡ codes " " ++ rest → ⊥) → IsNoShare caps t text
      no-blank none s rest is e = none _ (behind-name s rest e)

      module _ (number : List ℕ) (h : behind ≡ codes " " ++ number) where
        number-of : (s : Share) (rest : List ℕ) → text ≡ share_line caps t s ++ rest → number ≡ decimal s.rate ++ 107 ∷ (codes "bps " ++ ((cap_bound_text caps s.cap ++ 10 ∷ []) ++ rest))
        number-of s rest e = append_cancel_left (codes " ") number _ (sym h ∙ behind-name s rest e)

        pub no-unit : Lacks 107 number → IsNoShare caps t text
        no-unit lacking s rest is e = free_middle 107 (decimal s.rate) _ (subst (Free 107) (number-of s rest e) (free 107 number lacking))

        module _ (digits unit : List ℕ) (k : number ≡ digits ++ 107 ∷ unit) (lacking : Lacks 107 digits) where
          cut : (s : Share) (rest : List ℕ) → IsShare caps s → text ≡ share_line caps t s ++ rest → AreSame digits (decimal s.rate) unit (codes "bps " ++ ((cap_bound_text caps s.cap ++ 10 ∷ []) ++ rest))
          cut s rest is e = cut_once 107 digits (decimal s.rate) unit _ (free 107 digits lacking) (digit-free s.rate is.rate) (sym k ∙ number-of s rest e)

          pub no-rate : ((rate : ℕ) → rate ≤ 1000000000 → digits ≡ decimal rate → ⊥) → IsNoShare caps t text
          no-rate none s rest is e = none s.rate is.rate (cut s rest is e).front

          pub no-kbps : ((rest : List ℕ) → unit ≡ codes "bps " ++ rest → ⊥) → IsNoShare caps t text
          no-kbps none s rest is e = none _ (cut s rest is e).rest

          pub no-bound : (bound : List ℕ) → unit ≡ codes "bps " ++ bound → IsNoBound caps bound → IsNoShare caps t text
          no-bound bound b none s rest is e = none s.cap rest is.cap (append_cancel_left (codes "bps ") bound ((cap_bound_text caps s.cap ++ 10 ∷ []) ++ rest) (sym b ∙ (cut s rest is e).rest))

          -- or what is read
          pub a-share : (bound rest : List ℕ) (rate : ℕ) (cap : Option ℕ) → unit ≡ codes "bps " ++ bound → digits ≡ decimal rate → bound ≡ (cap_bound_text caps cap ++ 10 ∷ []) ++ rest → text ≡ share_line caps t (record { rate = rate; cap = cap }) ++ rest
          a-share bound rest rate cap b d e =
              f ∙ ap (λ z. codes "share " ++ z) (g ∙ ap (λ z. t.name ++ z) (h ∙ ap (λ z. codes " " ++ z) (k ∙ ap (λ z. z ++ 107 ∷ unit) d ∙ ap (λ z. decimal rate ++ 107 ∷ z) (b ∙ ap (λ z. codes "bps " ++ z) e))))
              ∙ sym (parts-of caps t (record { rate = rate; cap = cap }) rest)
