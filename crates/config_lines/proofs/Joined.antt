-- Lists of parts that are joined by a byte, read from the left.
use Rattle.std.proofs.Common.{◌≡◌, ◌≢◌, ℕ, List, [], ◌∷◌, ◌++◌, map, refl, sym, ◌∙◌, ap, subst, append_assoc, append-nil}
use Rattle.std.specs.List.{AllByRecursion, flat_map, join_with_byte}
use Rattle.merlin_base.specs.Lexemes.{Lacks}
use Rattle.merlin_base.specs.Pairs.{IsEmptyOrBegins}
use Rattle.merlin_base.proofs.Cutting.{Free, free, free_append, free_middle, AreSame, cut_once, cut_before_once}
use Rattle.config_text.specs.Words.{joined_by_commas}

-- parts, each with the byte behind it
abbrev pub each_then : {X : Type 0} → ℕ → (X → List ℕ) → List X → List ℕ
each_then byte text = flat_map (λ x. text x ++ byte ∷ [])

-- parts, each with the byte before it
abbrev pub each_behind : {X : Type 0} → ℕ → (X → List ℕ) → List X → List ℕ
each_behind byte text = flat_map (λ x. byte ∷ text x)

joined-map : {X : Type 0} (byte : ℕ) (text : X → List ℕ) (x : X) (xs : List X) → join_with_byte byte (map text (x ∷ xs)) ≡ text x ++ each_behind byte text xs
joined-map byte text x [] = sym (append-nil (text x))
joined-map byte text x (y ∷ ys) = ap (λ z. text x ++ byte ∷ z) (joined-map byte text y ys)

-- What any such list has next, behind the parts that were read.
pub record HasNext {X : Type 0} (byte : ℕ) (text : X → List ℕ) (done all : List X) (rest : List ℕ) : Type 0 where
  pub front : List X
  pub next : X
  pub later : List X
  pub is : all ≡ front ++ next ∷ later
  pub same : map text front ≡ map text done
  pub left : rest ≡ text next ++ each_behind byte text later

pub has_next : {X : Type 0} (byte : ℕ) (text : X → List ℕ) (Is : X → Type 0) → ((x : X) → Is x → Free byte (text x)) → (done all : List X) (rest : List ℕ) → AllByRecursion Is done → AllByRecursion Is all → all ≢ [] →
    join_with_byte byte (map text all) ≡ each_then byte text done ++ rest → HasNext byte text done all rest
has_next byte text Is lacking done [] rest f g some e = absurd (some refl)
has_next byte text Is lacking [] (x ∷ xs) rest f g some e = record { front = []; next = x; later = xs; is = refl; same = refl; left = sym e ∙ joined-map byte text x xs }
has_next byte text Is lacking (d ∷ ds) (x ∷ []) rest f g some e =
    absurd (free_middle byte (text d) (each_then byte text ds ++ rest) (subst (Free byte) (e ∙ append_assoc (text d ++ byte ∷ []) (each_then byte text ds) rest ∙ append_assoc (text d) (byte ∷ []) (each_then byte text ds ++ rest)) (lacking x g.0)))
has_next byte text Is lacking (d ∷ ds) (x ∷ y ∷ ys) rest f g some e =
    let cut : AreSame (text x) (text d) (join_with_byte byte (map text (y ∷ ys))) (each_then byte text ds ++ rest) =
    cut_once byte (text x) (text d) _ _ (lacking x g.0) (lacking d f.0) (e ∙ append_assoc (text d ++ byte ∷ []) (each_then byte text ds) rest ∙ append_assoc (text d) (byte ∷ []) (each_then byte text ds ++ rest)) in
    let later = has_next byte text Is lacking ds (y ∷ ys) rest f.1 g.1 (λ h. let no_way : y ∷ ys ≡ [] → ⊥ = λ k. cc in no_way h) cut.rest in
    record { front = x ∷ later.front; next = later.next; later = later.later; is = ap (λ zs. x ∷ zs) later.is; same = (let a = cut.front in let b = later.same in cc); left = later.left }

behind_begin : {X : Type 0} (byte : ℕ) (text : X → List ℕ) (xs : List X) → IsEmptyOrBegins byte (each_behind byte text xs)
behind_begin byte text [] = tt
behind_begin byte text (x ∷ xs) = refl

-- the part before the byte is the next one
pub next_part : {X : Type 0} (byte : ℕ) (text : X → List ℕ) (Is : X → Type 0) → ((x : X) → Is x → Free byte (text x)) → (done all : List X) (rest part behind : List ℕ) → (h : HasNext byte text done all rest) → Is h.next → rest ≡ part ++ behind → Lacks byte part → IsEmptyOrBegins byte behind →
    AreSame part (text h.next) behind (each_behind byte text h.later)
next_part byte text Is lacking done all rest part behind h is e l b =
    cut_before_once byte part (text h.next) behind (each_behind byte text h.later) (free byte part l) (lacking h.next is) b (behind_begin byte text h.later) (sym e ∙ h.left)

pub all_at : {X : Type 0} (P : X → Type 0) (front later : List X) (x : X) → AllByRecursion P (front ++ x ∷ later) → P x
all_at P [] later x h = h.0
all_at P (y ∷ front) later x h = all_at P front later x h.1

pub all_front : {X : Type 0} (P : X → Type 0) (front later : List X) → AllByRecursion P (front ++ later) → AllByRecursion P front
all_front P [] later h = tt
all_front P (y ∷ front) later h = (h.0, all_front P front later h.1)

pub all_push : {X : Type 0} (P : X → Type 0) (xs : List X) (x : X) → AllByRecursion P xs → P x → AllByRecursion P (xs ++ x ∷ [])
all_push P [] x f g = (g, tt)
all_push P (y ∷ xs) x f g = (f.0, all_push P xs x f.1 g)

pub nothing_behind : (byte : ℕ) (behind : List ℕ) → IsEmptyOrBegins byte behind → ((rest : List ℕ) → behind ≡ byte ∷ rest → ⊥) → behind ≡ []
nothing_behind byte [] b none = refl
nothing_behind byte (c ∷ cs) b none = absurd (none cs (ap (λ x. x ∷ cs) b))

push_each : {X : Type 0} (byte : ℕ) (text : X → List ℕ) (done : List X) (x : X) → each_then byte text (done ++ x ∷ []) ≡ each_then byte text done ++ (text x ++ byte ∷ [])
push_each byte text [] x = append-nil (text x ++ byte ∷ [])
push_each byte text (d ∷ ds) x = ap (λ z. (text d ++ byte ∷ []) ++ z) (push_each byte text ds x) ∙ sym (append_assoc (text d ++ byte ∷ []) (each_then byte text ds) (text x ++ byte ∷ []))

-- one part more is read, and a comma
pub one_more : {X : Type 0} (byte : ℕ) (text : X → List ℕ) (done : List X) (x : X) (word rest part behind more : List ℕ) → word ≡ each_then byte text done ++ rest → rest ≡ part ++ behind → part ≡ text x → behind ≡ byte ∷ more →
    word ≡ each_then byte text (done ++ x ∷ []) ++ more
one_more byte text done x word rest part behind more e f g h =
    e ∙ ap (λ z. each_then byte text done ++ z) (f ∙ ap (λ p. p ++ behind) g ∙ ap (λ b. text x ++ b) h ∙ sym (append_assoc (text x) (byte ∷ []) more))
    ∙ sym (append_assoc (each_then byte text done) (text x ++ byte ∷ []) more) ∙ ap (λ z. z ++ more) (sym (push_each byte text done x))

joined_last : {X : Type 0} (byte : ℕ) (text : X → List ℕ) (done : List X) (x : X) → each_then byte text done ++ text x ≡ join_with_byte byte (map text (done ++ x ∷ []))
joined_last byte text [] x = refl
joined_last byte text (d ∷ []) x = ap (λ z. z ++ text x) (append-nil (text d ++ byte ∷ [])) ∙ append_assoc (text d) (byte ∷ []) (text x)
joined_last byte text (d ∷ f ∷ ds) x = append_assoc (text d ++ byte ∷ []) (each_then byte text (f ∷ ds)) (text x) ∙ append_assoc (text d) (byte ∷ []) _ ∙ ap (λ z. text d ++ byte ∷ z) (joined_last byte text (f ∷ ds) x)

-- the last part is read
pub last_one : {X : Type 0} (byte : ℕ) (text : X → List ℕ) (done : List X) (x : X) (word rest part behind : List ℕ) → word ≡ each_then byte text done ++ rest → rest ≡ part ++ behind → part ≡ text x → behind ≡ [] → word ≡ join_with_byte byte (map text (done ++ x ∷ []))
last_one byte text done x word rest part behind e f g h =
    e ∙ ap (λ z. each_then byte text done ++ z) (f ∙ ap (λ p. p ++ behind) g ∙ ap (λ b. text x ++ b) h ∙ append-nil (text x)) ∙ joined_last byte text done x

-- where there is a part, the word for none does not stand
pub joined_some : {X : Type 0} (text : X → List ℕ) (done : List X) (x : X) (none : List ℕ) → join_with_byte 44 (map text (done ++ x ∷ [])) ≡ joined_by_commas none (map text (done ++ x ∷ []))
joined_some text [] x none = refl
joined_some text (d ∷ ds) x none = refl

-- parts that are joined lack what each lacks
pub joined_free : (byte : ℕ) (none : List ℕ) (texts : List (List ℕ)) → 44 ≢ byte → Free byte none → AllByRecursion (Free byte) texts → Free byte (joined_by_commas none texts)
joined_free byte none [] other f all = f
joined_free byte none (t ∷ ts) other f all = by t ts all
  where
    by : (u : List ℕ) (us : List (List ℕ)) → AllByRecursion (Free byte) (u ∷ us) → Free byte (join_with_byte 44 (u ∷ us))
    by u [] h = h.0
    by u (v ∷ vs) h = free_append byte u (44 ∷ join_with_byte 44 (v ∷ vs)) h.0 (other, by v vs h.1)

-- what is not the word for none has parts
pub some_parts : {X : Type 0} (text : X → List ℕ) (all : List X) (none word : List ℕ) → (word ≡ none → ⊥) → word ≡ joined_by_commas none (map text all) → (all ≢ []) × (join_with_byte 44 (map text all) ≡ word)
some_parts text [] none word differ e = absurd (differ e)
some_parts text (x ∷ xs) none word differ e = ((λ h. let no_way : x ∷ xs ≡ [] → ⊥ = λ k. cc in no_way h), sym e)
