-- What is left of entries within a stretch.
use Rattle.std.proofs.Common.{ℕ, ◌≡◌, ◌≤◌, ◌<◌, ◌^◌, inl, inr, Option, None, Some, Bool, true, false, cond, List, [], ◌∷◌, ◌++◌, refl, sym, ◌∙◌, ap, ap₂, subst, arith}
use Rattle.std.specs.List.{AllByRecursion}
use Rattle.merlin_model.specs.declared.policy.Field.{Field}
use Rattle.merlin_model.specs.declared.policy.Field.TheVariants.{Sport, Dport}
use Rattle.merlin_model.specs.Packets.{Packet, field_of}
use Rattle.merlin_model.specs.Predicates.{holds, IsInRange, IsPort}
use Rattle.packet_model.specs.Fields.{has_ports, packet_with}
use Rattle.predicate_split.specs.declared.grids.Choice.{Choice}
use Rattle.predicate_split.specs.declared.pair_cells.Cell.{Cell}
use Rattle.predicate_split.specs.declared.pairs.PlacedPred.{PlacedPred}
use Rattle.predicate_split.specs.declared.stretches.Stretch.{Stretch}
use Rattle.predicate_split.specs.Overlaps.{holder}
use Rattle.predicate_split.specs.Stretches.{IsInStretch, HaveSameHolder}
use Rattle.predicate_split.specs.Grids.{chosen_packet, cell_row, rows_of}

-- Entry by entry.

abbrev or_else : Option ℕ → Option ℕ → Option ℕ
or_else None o = o
or_else (Some n) o = Some n

holder-append : (xs ys : List PlacedPred) (q : Packet) → holder (xs ++ ys) q ≡ or_else (holder xs q) (holder ys q)
holder-append [] ys q = refl
holder-append (x ∷ xs) ys q = by (holds x.pred q) (holder-append xs ys q)
  where
    by : (b : Bool) → holder (xs ++ ys) q ≡ or_else (holder xs q) (holder ys q) → cond b (Some x.place) (holder (xs ++ ys) q) ≡ or_else (cond b (Some x.place) (holder xs q)) (holder ys q)
    by true ih = refl
    by false ih = ih

or-none : (o : Option ℕ) → or_else o None ≡ o
or-none None = refl
or-none (Some n) = refl

pub entry-kept : (stretch : Stretch) (kept before : List PlacedPred) (e f : PlacedPred) → HaveSameHolder stretch kept before → f.place ≡ e.place → ((q : Packet) → IsInStretch stretch q → holds f.pred q ≡ holds e.pred q) →
    HaveSameHolder stretch (kept ++ f ∷ []) (before ++ e ∷ [])
entry-kept stretch kept before e f same place alike q at =
    holder-append kept (f ∷ []) q
    ∙ ap₂ or_else (same q at) (ap₂ (λ b n. cond b (Some n) None) (alike q at) place)
    ∙ sym (holder-append before (e ∷ []) q)

pub entry-dropped : (stretch : Stretch) (kept before : List PlacedPred) (e : PlacedPred) → HaveSameHolder stretch kept before → ((q : Packet) → IsInStretch stretch q → holds e.pred q ≡ false) → HaveSameHolder stretch kept (before ++ e ∷ [])
entry-dropped stretch kept before e same none q at =
    same q at ∙ sym (or-none (holder before q)) ∙ ap (or_else (holder before q)) (sym (ap (λ b. cond b (Some e.place) None) (none q at))) ∙ sym (holder-append before (e ∷ []) q)

-- Ports.

pub port-range : (f : Field) (n : ℕ) → IsPort f → n < 2 ^ 16 → IsInRange f n
port-range f n (inl e) lt = subst (λ g. IsInRange g n) (sym e) lt
port-range f n (inr e) lt = subst (λ g. IsInRange g n) (sym e) lt

pub range-port : (f : Field) (n : ℕ) → IsPort f → IsInRange f n → n < 2 ^ 16
range-port f n (inl e) h = subst (λ g. IsInRange g n) e h
range-port f n (inr e) h = subst (λ g. IsInRange g n) e h

-- Stretches that grow.

pub still-in : (small large : Stretch) (q : Packet) → large.field ≡ small.field → large.low ≤ small.low → small.past ≤ large.past → IsInStretch small q → IsInStretch large q
still-in small large q field low past at = record {
  low = subst (λ f. large.low ≤ field_of f q) (sym field) (let a = at.low in omega arith);
  past = subst (λ f. field_of f q < large.past) (sym field) (let a = at.past in omega arith);
}

pub new-in : (stretch : Stretch) (q : Packet) (f : Field) (n : ℕ) → stretch.field ≡ f → n ≡ field_of f q → (stretch.low ≤ n) × (n < stretch.past) → IsInStretch stretch q
new-in stretch q f n field is at = record {
  low = subst (λ m. stretch.low ≤ m) (is ∙ ap (λ g. field_of g q) (sym field)) at.0;
  past = subst (λ m. m < stretch.past) (is ∙ ap (λ g. field_of g q) (sym field)) at.1;
}

pub all-still : (P Q : Choice → Type 0) → ((c : Choice) → P c → Q c) → (cs : List Choice) → AllByRecursion P cs → AllByRecursion Q cs
all-still P Q to [] h = tt
all-still P Q to (c ∷ cs) h = (to c h.0, all-still P Q to cs h.1)

pub all-more : (P : Choice → Type 0) (cs : List Choice) (c : Choice) → AllByRecursion P cs → P c → AllByRecursion P (cs ++ c ∷ [])
all-more P [] c h one = (one, tt)
all-more P (x ∷ cs) c h one = (h.0, all-more P cs c h.1 one)

-- Cells by what is left.

pub row-near : (stretch : Stretch) (near entries : List PlacedPred) (p : Packet) (s : Choice) (ds : List Choice) → HaveSameHolder stretch near entries →
    AllByRecursion (λ d. IsInStretch stretch (chosen_packet p s d)) ds → cell_row near p s ds ≡ cell_row entries p s ds
row-near stretch near entries p s [] same at = refl
row-near stretch near entries p s (d ∷ ds) same at =
    ap₂ (λ (o : Option ℕ) (cs : List Cell). record { proto = Some p.proto; sport = s.port; dport = d.port; owner = o } ∷ cs) (same (chosen_packet p s d) at.0) (row-near stretch near entries p s ds same at.1)

pub row-same : (stretch : Stretch) (near slice entries : List PlacedPred) (p fixed : Packet) (s : Choice) (ds : List Choice) → fixed ≡ packet_with p Sport s.value → slice ≡ near → HaveSameHolder stretch near entries →
    AllByRecursion (λ d. IsInStretch stretch (packet_with fixed Dport d.value)) ds → cell_row slice p s ds ≡ cell_row entries p s ds
row-same stretch near slice entries p fixed s ds is e same at =
    ap (λ es. cell_row es p s ds) e
    ∙ row-near stretch near entries p s ds same (subst (λ (q : Packet). AllByRecursion (λ d. IsInStretch stretch (packet_with q Dport d.value)) ds) is at)

-- the source port does not change where the destination port is set
sport-stays : (p : Packet) (s d : ℕ) → (packet_with (packet_with p Sport s) Dport d).sport ≡ (packet_with p Sport s).sport
sport-stays p s d = by (has_ports p.proto) refl
  where
    cleared : Packet → Packet
    cleared q = record q { sport = 0; dport = 0 }

    first : Bool → Packet
    first b = cond b (record p { sport = s }) (cleared (record p { sport = s }))

    second : Bool → Packet → Packet
    second b q = cond b (record q { dport = d }) (cleared (record q { dport = d }))

    proto-is : (b : Bool) → (first b).proto ≡ p.proto
    proto-is true = refl
    proto-is false = refl

    both : (b : Bool) → (second b (first b)).sport ≡ (first b).sport
    both true = refl
    both false = refl

    by : (b : Bool) → has_ports p.proto ≡ b → (packet_with (packet_with p Sport s) Dport d).sport ≡ (packet_with p Sport s).sport
    by b e =
        ap (λ (c : Bool). (second c (first (has_ports p.proto))).sport) (ap has_ports (proto-is (has_ports p.proto)))
        ∙ both (has_ports p.proto)

pub rows-near : (stretch : Stretch) (near entries : List PlacedPred) (p : Packet) (ss ds : List Choice) → stretch.field ≡ Sport → HaveSameHolder stretch near entries →
    AllByRecursion (λ s. IsInStretch stretch (packet_with p Sport s.value)) ss → rows_of near p ss ds ≡ rows_of entries p ss ds
rows-near stretch near entries p [] ds field same at = refl
rows-near stretch near entries p (s ∷ ss) ds field same at =
    ap₂ (λ (a b : List Cell). a ++ b) (row-near stretch near entries p s ds same (each ds)) (rows-near stretch near entries p ss ds field same at.1)
  where
    one : (d : Choice) → IsInStretch stretch (chosen_packet p s d)
    one d =
        let equal : field_of stretch.field (packet_with p Sport s.value) ≡ field_of stretch.field (chosen_packet p s d) =
        subst (λ f. field_of f (packet_with p Sport s.value) ≡ field_of f (chosen_packet p s d)) (sym field) (sym (sport-stays p s.value d.value)) in
        record {
          low = subst (λ n. stretch.low ≤ n) equal at.0.low;
          past = subst (λ n. n < stretch.past) equal at.0.past;
        }

    each : (ds : List Choice) → AllByRecursion (λ d. IsInStretch stretch (chosen_packet p s d)) ds
    each [] = tt
    each (d ∷ ds) = (one d, each ds)
