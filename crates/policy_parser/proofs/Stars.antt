-- Laws of the run that readers of paths want.
use Rattle.std.proofs.Common.{ℕ, ◌≡◌, suc, true, false, cond, List, [], ◌∷◌, ◌++◌, Err, Result, length, refl, ap, sym, ◌∙◌}
use Rattle.std.specs.Prelude.{Bool, None, ok_or}
use Rattle.merlin_text.specs.declared.token.Sign.TheVariants as signs
use Rattle.policy_grammar.specs.declared.written.RawPath.{RawPath, Not}
use Rattle.policy_grammar.specs.Lexemes.{Lexeme, sign}
use Rattle.policy_grammar.specs.PathTexts.{one_or_cat}
use Rattle.policy_grammar.specs.Machine.{Awaited, path_negation, rep, prim, reps, alts, feed_rep, feed_alts, feed_sequence, feed_prim, feed_all, put_path, repeated, awaiting}
use Rattle.policy_parser.specs.Readers.{WholeText, finish_text, next_text, run_text, IsInSequence, begins_list, is_star, stars_list}

-- with no name and no dot left nothing can begin
pub none_left : (ts : List Lexeme) (k : List Awaited) (n : ℕ) → n ≡ 0 → run_text ts (awaiting (rep ∷ k) n) ≡ Err (length ts)
none_left [] k n e = refl
none_left (t ∷ ts) k n e = ap (λ m. next_text (feed_rep k m t) (suc (length ts)) (λ u. run_text ts u)) e

-- where a rep begins, it goes on the sequence
pub goes_on : (ts : List Lexeme) (ls ps : List RawPath) (k : List Awaited) (n : ℕ) → begins_list ts ≡ true → run_text ts (awaiting (reps ls ∷ alts ps ∷ k) n) ≡ run_text ts (awaiting (rep ∷ reps ls ∷ alts ps ∷ k) n)
goes_on [] ls ps k n e = cc
goes_on (t ∷ ts) ls ps k n e = ap (λ b. next_text (cond b (feed_rep (reps ls ∷ alts ps ∷ k) n t) (feed_alts (ps ++ one_or_cat ls ∷ []) k n t)) (suc (length ts)) (λ u. run_text ts u)) e

pub ruleset path_laws = (none_left, goes_on)

-- a path that is put in a sequence is fed to it
feeds : (p : RawPath) (k : List Awaited) (n : ℕ) (t : Lexeme) → IsInSequence k → feed_sequence (put_path p k) n t ≡ feed_all (put_path p k) n t
feeds p [] n t within = absurd within
feeds p (path_negation ∷ k) n t within = feeds (Not p) k n t within
feeds p (reps ls ∷ k) n t within = refl
feeds p (a ∷ k) n t within = absurd within

unfinished : (p : RawPath) (k : List Awaited) → IsInSequence k → finish_text (put_path p k) ≡ None
unfinished p [] within = absurd within
unfinished p (path_negation ∷ k) within = unfinished (Not p) k within
unfinished p (reps ls ∷ k) within = refl
unfinished p (a ∷ k) within = absurd within

prim_feeds : (p : RawPath) (b : Bool) (k : List Awaited) (n : ℕ) (t : Lexeme) → is_star t ≡ false → feed_prim p b k n t ≡ feed_sequence (put_path (repeated b p) k) n t
prim_feeds p b k n (sign signs.Star) e = cc
prim_feeds p b k n t e = refl

-- a path with its stars stands in its sequence
pub stars_end : (ts : List Lexeme) (p : RawPath) (b : Bool) (k : List Awaited) (n : ℕ) → IsInSequence k → stars_list ts ≡ false → run_text ts (awaiting (prim p b ∷ k) n) ≡ run_text ts (awaiting (put_path (repeated b p) k) n)
stars_end [] p b k n within e = ap (λ o. let r : Result WholeText ℕ = ok_or o 0 in r) (sym (unfinished (repeated b p) k within))
stars_end (t ∷ ts) p b k n within e = ap (λ o. next_text o (suc (length ts)) (λ u. run_text ts u)) (prim_feeds p b k n t e ∙ feeds (repeated b p) k n t within)
