-- A run that stops, stops where no policy goes on; so each text is one policy or has one fault.
use Rattle.std.proofs.Common.{ℕ, ◌≡◌, ◌+◌, ◌-◌, ◌<◌, ◌≤◌, suc, zero, List, [], ◌∷◌, ◌++◌, ⊎_elim, ◌⊎◌, inl, inr, drop, append-nil, length-take, Option, Some, None, Result, Ok, Err, ok_or, length, take, refl, sym, ap, ◌∙◌, subst, append_assoc, length-append, add-one, arith}
use Rattle.std.proofs.lemmas.Bool.{cases_lt}
use Rattle.std.proofs.lemmas.List.{take-append-drop, take-append-le}
use Rattle.std.proofs.Math.Seq.{take-append_seam, take-append-add}
use Rattle.policy_grammar.specs.declared.written.WrittenPolicy.{WrittenPolicy}
use Rattle.std.specs.List.{AllByRecursion}
use Rattle.policy_grammar.specs.Lexemes.{Lexeme, IsSpelled}
use Rattle.policy_grammar.specs.Grammar.{StandsFor, BeginsPolicy, IsFaultAt}
use Rattle.policy_grammar.specs.Machine.{State, feed, next_step, run, finish, first_state}
use Rattle.policy_grammar.proofs.PolicyTexts.{complete, sound}
use Rattle.policy_grammar.proofs.Closing.{Good, start_good, IsKept, kept, closes}

some_inj : {A : Type 0} {x y : A} → Some x ≡ Some y → x ≡ y
some_inj e = cc

err_inj : {A B : Type 0} {x y : B} → (let r : Result A B = Err x in r) ≡ Err y → x ≡ y
err_inj e = cc

-- Of the grammar alone: a text has one fault at most, and none where it stands for a policy.

both_spelled : (ts us : List Lexeme) → AllByRecursion IsSpelled ts → AllByRecursion IsSpelled us → AllByRecursion IsSpelled (ts ++ us)
both_spelled [] us p q = q
both_spelled (t ∷ ts) us p q = (p.0, both_spelled ts us p.1 q)

drop_spelled : (n : ℕ) (ts : List Lexeme) → AllByRecursion IsSpelled ts → AllByRecursion IsSpelled (drop n ts)
drop_spelled zero ts p = p
drop_spelled (suc n) [] p = p
drop_spelled (suc n) (t ∷ ts) p = drop_spelled n ts p.1

take_spelled : (n : ℕ) (ts : List Lexeme) → AllByRecursion IsSpelled ts → AllByRecursion IsSpelled (take n ts)
take_spelled zero ts p = tt
take_spelled (suc n) [] p = p
take_spelled (suc n) (t ∷ ts) p = (p.0, take_spelled n ts p.1)

begins-front : (ts : List Lexeme) (n : ℕ) → AllByRecursion IsSpelled ts → BeginsPolicy ts → BeginsPolicy (take n ts)
begins-front ts n real b = record {
  more = drop n ts ++ b.more;
  spelled = both_spelled (drop n ts) b.more (drop_spelled n ts real) b.spelled;
  policy = b.policy;
  stands = subst (λ xs. StandsFor xs b.policy) (ap (λ xs. xs ++ b.more) (sym (take-append-drop n ts)) ∙ append_assoc (take n ts) (drop n ts) b.more) b.stands;
}

no_earlier : (ts : List Lexeme) (m n : ℕ) → AllByRecursion IsSpelled ts → m < n → IsFaultAt ts m → IsFaultAt ts n → ⊥
no_earlier ts m n real h f g =
    let inside : suc m ≤ length (take n ts) = omega (arith, g.within, length-take n ts) in
    let front : take (suc m) (take n ts) ≡ take (suc m) ts = sym (take-append-le (suc m) (take n ts) (drop n ts) inside) ∙ ap (λ xs. take (suc m) xs) (take-append-drop n ts) in
    f.token (omega (arith, g.within)) (subst BeginsPolicy front (begins-front (take n ts) (suc m) (take_spelled n ts real) g.before))

pub one_fault : (ts : List Lexeme) (m n : ℕ) → AllByRecursion IsSpelled ts → IsFaultAt ts m → IsFaultAt ts n → m ≡ n
one_fault ts m n real f g = ⊎_elim
    (λ h. absurd (no_earlier ts m n real h f g))
    (λ h. ⊎_elim (λ less. absurd (no_earlier ts n m real less g f)) (λ more. omega (arith, h, more)) (cases_lt n m))
    (cases_lt m n)

pub fault-no_policy : (ts : List Lexeme) (n : ℕ) (w : WrittenPolicy) → AllByRecursion IsSpelled ts → IsFaultAt ts n → ¬ StandsFor ts w
fault-no_policy ts n w real f s = ⊎_elim
    (λ h. f.token h (begins-front ts (suc n) real (record { more = []; spelled = tt; policy = w; stands = subst (λ xs. StandsFor xs w) (sym (append-nil ts)) s })))
    (λ h. f.end (omega (arith, f.within)) w s)
    (cases_lt n (length ts))

-- The state after some lexemes.

abbrev goes_on : Option State → (State → Option State) → Option State
goes_on None f = None
goes_on (Some s) f = f s

abbrev pub steps : List Lexeme → State → Option State
steps [] s = Some s
steps (t ∷ ts) s = goes_on (feed s t) (λ u. steps ts u)

pub run-steps : (front y : List Lexeme) (s u : State) → steps front s ≡ Some u → run (front ++ y) s ≡ run y u
run-steps [] y s u e = ap (λ x. run y x) (some_inj e)
run-steps (t ∷ front) y s u e = by (feed s t) refl e (λ x. run-steps front y x u)
  where
    by : (o : Option State) → feed s t ≡ o → goes_on o (λ x. steps front x) ≡ Some u → ((x : State) → steps front x ≡ Some u → run (front ++ y) x ≡ run y u) → next_step (feed s t) (suc (length (front ++ y))) (λ x. run (front ++ y) x) ≡ run y u
    by None q e ih = cc
    by (Some x) q e ih = ap (λ o. next_step o (suc (length (front ++ y))) (λ x. run (front ++ y) x)) q ∙ ih x e

steps-good : (ts : List Lexeme) (s u : State) → Good s.awaited s.left → steps ts s ≡ Some u → Good u.awaited u.left
steps-good [] s u g e = subst (λ (x : State). Good x.awaited x.left) (some_inj e) g
steps-good (t ∷ ts) s u g e = by (feed s t) (kept s.awaited s.left t g) e (λ x. steps-good ts x u)
  where
    by : (o : Option State) → IsKept o → goes_on o (λ x. steps ts x) ≡ Some u → ((x : State) → Good x.awaited x.left → steps ts x ≡ Some u → Good u.awaited u.left) → Good u.awaited u.left
    by None g e ih = cc
    by (Some x) g e ih = ih x g e

-- nothing goes on
abbrev IsStuck : List Lexeme → State → Type 0
IsStuck [] u = finish u ≡ None
IsStuck (t ∷ _) u = feed u t ≡ None

-- where a run stops
record Stopped (ts : List Lexeme) (s : State) (m : ℕ) : Type 0 where
  front : List Lexeme
  rest : List Lexeme
  to : State
  is : ts ≡ front ++ rest
  count : length rest ≡ m
  reached : steps front s ≡ Some to
  stuck : IsStuck rest to

stopped : (ts : List Lexeme) (s : State) (m : ℕ) → run ts s ≡ Err m → Stopped ts s m
stopped [] s m e = by (finish s) refl e
  where
    by : (o : Option WrittenPolicy) → finish s ≡ o → ok_or o zero ≡ Err m → Stopped [] s m
    by None q e = record { front = []; rest = []; to = s; is = refl; count = err_inj e; reached = refl; stuck = q }
    by (Some x) q e = cc
stopped (t ∷ ts) s m e = by (feed s t) refl e (λ u. stopped ts u m)
  where
    by : (o : Option State) → feed s t ≡ o → next_step o (suc (length ts)) (λ u. run ts u) ≡ Err m → ((u : State) → run ts u ≡ Err m → Stopped ts u m) → Stopped (t ∷ ts) s m
    by None q e ih = record { front = []; rest = t ∷ ts; to = s; is = refl; count = err_inj e; reached = refl; stuck = q }
    by (Some u) q e ih =
        let a = ih u e in
        record { front = t ∷ a.front; rest = a.rest; to = a.to; is = ap (λ xs. t ∷ xs) a.is; count = a.count; reached = ap (λ o. goes_on o (λ x. steps a.front x)) q ∙ a.reached; stuck = a.stuck }

not_both : {x : Result WrittenPolicy ℕ} {w : WrittenPolicy} {m : ℕ} → x ≡ Err m → x ≡ Ok w → ⊥
not_both p q = cc

-- a run that stops has no more lexemes left than there are
pub bounded : (ts : List Lexeme) (s : State) (m : ℕ) → run ts s ≡ Err m → m ≤ length ts
bounded ts s m e = let a = stopped ts s m e in omega (arith, ap length a.is, length-append a.front a.rest, a.count)

-- the lexemes that lead somewhere begin a policy
begins : (front : List Lexeme) (u : State) → steps front first_state ≡ Some u → BeginsPolicy front
begins front u reached =
    let c = closes u.awaited u.left (steps-good front first_state u start_good reached) in
    record { more = c.more; spelled = c.spelled; policy = c.policy; stands = sound (front ++ c.more) c.policy (run-steps front c.more first_state u reached ∙ c.goes) }

-- with a lexeme that nothing goes on with no policy begins
no_more : (front rest : List Lexeme) (u : State) → steps front first_state ≡ Some u → IsStuck rest u → 0 < length rest → BeginsPolicy (take (suc (length front)) (front ++ rest)) → ⊥
no_more front [] u reached stuck some b = absurd (omega arith)
no_more front (t ∷ rest) u reached stuck some b =
    let whole : take (suc (length front)) (front ++ t ∷ rest) ≡ front ++ t ∷ [] = ap (λ n. take n (front ++ t ∷ rest)) (sym (add-one (length front))) ∙ take-append-add front (t ∷ rest) 1 in
    let text : take (suc (length front)) (front ++ t ∷ rest) ++ b.more ≡ front ++ t ∷ b.more = ap (λ xs. xs ++ b.more) whole ∙ append_assoc front (t ∷ []) b.more in
    not_both
    (run-steps front (t ∷ b.more) first_state u reached ∙ ap (λ o. next_step o (suc (length b.more)) (λ x. run b.more x)) stuck)
    (ap (λ xs. run xs first_state) (sym text) ∙ complete _ b.policy b.stands)

fault_at : (ts : List Lexeme) (m place : ℕ) → run ts first_state ≡ Err m → place + m ≡ length ts → IsFaultAt ts place
fault_at ts m place e c =
    let a = stopped ts first_state m e in
    let size : length ts ≡ length a.front + length a.rest = ap length a.is ∙ length-append a.front a.rest in
    let here : place ≡ length a.front = omega (arith, size, a.count) in
    let front : take place ts ≡ a.front = ap (λ n. take n ts) here ∙ ap (λ xs. take (length a.front) xs) a.is ∙ take-append_seam a.front a.rest in
    record {
      within = omega arith;
      before = subst BeginsPolicy (sym front) (begins a.front a.to a.reached);
      token = λ h b. no_more a.front a.rest a.to a.reached a.stuck (omega (arith, a.count)) (subst BeginsPolicy (ap (λ n. take (suc n) ts) here ∙ ap (λ xs. take (suc (length a.front)) xs) a.is) b);
      end = λ _ w s. not_both e (complete ts w s);
    }

-- the run stops where no policy goes on
pub fault : (ts : List Lexeme) (m : ℕ) → run ts first_state ≡ Err m → (m ≤ length ts) × IsFaultAt ts (length ts - m)
fault ts m e = (bounded ts first_state m e, fault_at ts m (length ts - m) e (omega (arith, bounded ts first_state m e)))

ok_inj : {A B : Type 0} {x y : A} → (let r : Result A B = Ok x in r) ≡ Ok y → x ≡ y
ok_inj e = cc

pub one_policy : (ls : List Lexeme) (v w : WrittenPolicy) → StandsFor ls v → StandsFor ls w → v ≡ w
one_policy ls v w s t = ok_inj (sym (complete ls v s) ∙ complete ls w t)

pub policy_or_fault : (ls : List Lexeme) → ((w : WrittenPolicy) × StandsFor ls w) ⊎ ((n : ℕ) × IsFaultAt ls n)
policy_or_fault ls = by (run ls first_state) refl
  where
    by : (r : Result WrittenPolicy ℕ) → run ls first_state ≡ r → ((w : WrittenPolicy) × StandsFor ls w) ⊎ ((n : ℕ) × IsFaultAt ls n)
    by (Ok w) e = inl (w, sound ls w e)
    by (Err n) e = inr (length ls - n, (fault ls n e).1)
