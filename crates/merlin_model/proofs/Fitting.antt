-- What a rule that fits says of the frame, part by part.
use Rattle.std.proofs.Common.{◌≡◌, ◌==◌, Bool, true, false, ◌&&◌, refl, ◌∙◌, ap}
use Rattle.std.proofs.lemmas.Bool.{eqb-true, eq-eqb}
use Rattle.merlin_model.specs.declared.config.Rule.{Rule}
use Rattle.merlin_model.specs.Machine.{Frame, agrees, vlan_agrees, fits, is_for, Fits}

false-true : false ≡ true → ⊥
false-true e = cc

pub and-first : (a b : Bool) → (a && b) ≡ true → a ≡ true
and-first true b e = refl
and-first false b e = absurd (false-true e)

pub and-second : (a b : Bool) → (a && b) ≡ true → b ≡ true
and-second true b e = e
and-second false b e = absurd (false-true e)

pub and-both : (a b : Bool) → a ≡ true → b ≡ true → (a && b) ≡ true
and-both a b e f = ap (λ c. c && b) e ∙ f

and9 : (a b c d e f g h i : Bool) → (a && b && c && d && e && f && g && h && i) ≡ true →
    (a ≡ true) × (b ≡ true) × (c ≡ true) × (d ≡ true) × (e ≡ true) × (f ≡ true) × (g ≡ true) × (h ≡ true) × (i ≡ true)
and9 true true true true true true true true true _ = (refl, refl, refl, refl, refl, refl, refl, refl, refl)
and9 true true true true true true true true false x = absurd (false-true x)
and9 true true true true true true true false i x = absurd (false-true x)
and9 true true true true true true false h i x = absurd (false-true x)
and9 true true true true true false g h i x = absurd (false-true x)
and9 true true true true false f g h i x = absurd (false-true x)
and9 true true true false e f g h i x = absurd (false-true x)
and9 true true false d e f g h i x = absurd (false-true x)
and9 true false c d e f g h i x = absurd (false-true x)
and9 false b c d e f g h i x = absurd (false-true x)

pub fits-parts : (f : Frame) (r : Rule) → is_for f r ≡ true → Fits r f
fits-parts f r e = record { loc = eqb-true r.loc f.loc (and-first _ _ e); in_port = parts.0; dl_src = parts.1; dl_dst = parts.2; dl_vlan = parts.3; nw_proto = parts.4; nw_src = parts.5; nw_dst = parts.6; tp_src = parts.7; tp_dst = parts.8 }
  where
    parts : (agrees r.fits.in_port f.port ≡ true) × (agrees r.fits.dl_src f.packet.eth_src ≡ true) × (agrees r.fits.dl_dst f.packet.eth_dst ≡ true) × (vlan_agrees r.fits.dl_vlan f.tag ≡ true)
        × (agrees r.fits.nw_proto f.packet.proto ≡ true) × (agrees r.fits.nw_src f.packet.ip_src ≡ true) × (agrees r.fits.nw_dst f.packet.ip_dst ≡ true) × (agrees r.fits.tp_src f.packet.sport ≡ true) × (agrees r.fits.tp_dst f.packet.dport ≡ true)
    parts = and9 _ _ _ _ _ _ _ _ _ (and-second (r.loc == f.loc) (fits r.fits f) e)

all9 : (a b c d e f g h i : Bool) → a ≡ true → b ≡ true → c ≡ true → d ≡ true → e ≡ true → f ≡ true → g ≡ true → h ≡ true → i ≡ true → (a && b && c && d && e && f && g && h && i) ≡ true
all9 a b c d e f g h i ea eb ec ed ee ef eg eh ei = λ n. ea n && eb n && ec n && ed n && ee n && ef n && eg n && eh n && ei n

pub fits-from : (f : Frame) (r : Rule) → Fits r f → is_for f r ≡ true
fits-from f r h = and-both (r.loc == f.loc) (fits r.fits f) (eq-eqb r.loc f.loc h.loc) (all9 _ _ _ _ _ _ _ _ _ h.in_port h.dl_src h.dl_dst h.dl_vlan h.nw_proto h.nw_src h.nw_dst h.tp_src h.tp_dst)
