-- Each kind of line is one line, with a first byte of its own.
use Rattle.std.proofs.Common.{ℕ, ◌<◌, List, [], ◌∷◌, ◌++◌, map, refl, arith}
use Rattle.std.specs.Prelude.{codes}
use Rattle.std.specs.List.{AllByRecursion, join_with_byte}
use Rattle.std.specs.Fmt.{decimal}
use Rattle.merlin_model.specs.declared.policy.Symbol.{Symbol}
use Rattle.merlin_model.specs.Networks.{Network}
use Rattle.merlin_base.specs.Addresses.{mac_text}
use Rattle.merlin_base.proofs.Cutting.{Free, free_append}
use Rattle.config_text.specs.Lines.{name_at, rule_text, process_text, queue_text, rate_with_unit}
use Rattle.config_text.specs.Loads.{load_text}
use Rattle.config_text.specs.Result.{walk_text, symbol_text}
use Rattle.config_lines.specs.Parts.{IsLineSymbol}
use Rattle.config_lines.specs.Lines.{rule_line, IsRuleLine, process_line, IsProcessLine, queue_line, IsQueueLine, load_line, IsLoadLine, walk_line, IsWalkLine}
use Rattle.config_lines.proofs.Then.{location_free, short_free, number_free, double_free, identifier_free}
use Rattle.config_lines.proofs.AddressTexts.{mac_free}
use Rattle.config_lines.proofs.MatchTexts.{match_free}
use Rattle.config_lines.proofs.ActionTexts.{actions_free}
use Rattle.config_lines.proofs.FunctionTexts.{functions_free}
use Rattle.config_lines.proofs.SymbolTexts.{symbol_free}
use Rattle.config_read.proofs.Stars.{AreLines}

pub words_free : (ws : List (List ℕ)) → AllByRecursion (Free 10) ws → Free 10 (join_with_byte 32 ws)
words_free [] all = tt
words_free (w ∷ []) all = all.0
words_free (w ∷ v ∷ vs) all = free_append 10 w (32 ∷ join_with_byte 32 (v ∷ vs)) all.0 ((λ e. omega arith), words_free (v ∷ vs) all.1)

rule_word : Free 10 (codes "rule")
rule_word = ((λ e. omega arith), ((λ e. omega arith), ((λ e. omega arith), ((λ e. omega arith), tt))))

process_word : Free 10 (codes "process")
process_word = ((λ e. omega arith), ((λ e. omega arith), ((λ e. omega arith), ((λ e. omega arith), ((λ e. omega arith), ((λ e. omega arith), ((λ e. omega arith), tt)))))))

queue_word : Free 10 (codes "queue")
queue_word = ((λ e. omega arith), ((λ e. omega arith), ((λ e. omega arith), ((λ e. omega arith), ((λ e. omega arith), tt)))))

four_bytes : (a b c d : ℕ) → 10 < a → 10 < b → 10 < c → 10 < d → Free 10 (a ∷ b ∷ c ∷ d ∷ [])
four_bytes a b c d f g h k = ((λ e. omega arith), ((λ e. omega arith), ((λ e. omega arith), ((λ e. omega arith), tt))))

rate_free : (n : ℕ) → n < 10000000000000000000 → Free 10 (rate_with_unit n)
rate_free n is = free_append 10 (decimal n) (codes "kbit") (number_free 10 n (omega arith) is) (four_bytes 107 98 105 116 (omega arith) (omega arith) (omega arith) (omega arith))

pub rule_lines : (net : Network) → AreLines (rule_line net) (IsRuleLine net)
rule_lines net = record {
  front = λ r. rule_text (name_at net r.loc) r;
  is = λ r. refl;
  free = λ r is. words_free (codes "rule" ∷ name_at net r.loc ∷ decimal r.priority ∷ _ ∷ _ ∷ [])
      (rule_word, (location_free 10 net r.loc (omega arith) is.loc, (double_free 10 r.priority (omega arith) is.priority, (match_free 10 r.fits (omega arith) is.fits, (actions_free 10 r.actions (omega arith) is.actions, tt)))));
}

pub process_lines : (net : Network) → AreLines (process_line net) (IsProcessLine net)
process_lines net = record {
  front = λ p. process_text (name_at net p.loc) net.functions p;
  is = λ p. refl;
  free = λ p is. words_free (codes "process" ∷ name_at net p.loc ∷ decimal p.tag ∷ mac_text p.eth_dst ∷ _ ∷ decimal p.next_tag ∷ decimal p.port ∷ decimal p.queue ∷ []) (
    process_word,
    (
      location_free 10 net p.loc (omega arith) is.loc,
      (
        short_free 10 1 4094 p.tag (omega arith) (omega arith) is.tag,
        (
          mac_free 10 p.eth_dst (omega arith),
          (
            functions_free 10 net p.functions (omega arith) is.functions,
            (short_free 10 1 4094 p.next_tag (omega arith) (omega arith) is.next_tag, (short_free 10 1 65279 p.port (omega arith) (omega arith) is.port, (short_free 10 0 64 p.queue (omega arith) (omega arith) is.queue, tt))),
          ),
        ),
      ),
    ),
  );
}

pub queue_lines : (net : Network) → AreLines (queue_line net) (IsQueueLine net)
queue_lines net = record {
  front = λ q. queue_text (name_at net q.loc) q;
  is = λ q. refl;
  free = λ q is. words_free (codes "queue" ∷ name_at net q.loc ∷ decimal q.port ∷ decimal q.queue ∷ rate_with_unit q.rate ∷ [])
      (queue_word, (location_free 10 net q.loc (omega arith) is.loc, (short_free 10 1 65279 q.port (omega arith) (omega arith) is.port, (short_free 10 1 64 q.queue (omega arith) (omega arith) is.queue, (rate_free q.rate is.rate, tt)))));
}

pub load_lines : (net : Network) → AreLines (load_line net) (IsLoadLine net)
load_lines net = record {
  front = λ l. load_text (name_at net l.loc) l;
  is = λ l. refl;
  free = λ l is. words_free (codes "load" ∷ name_at net l.loc ∷ decimal l.port ∷ (decimal l.load ++ 47 ∷ decimal l.capacity) ∷ []) (
    four_bytes 108 111 97 100 (omega arith) (omega arith) (omega arith) (omega arith),
    (
      location_free 10 net l.loc (omega arith) is.loc,
      (
        short_free 10 1 65279 l.port (omega arith) (omega arith) is.port,
        (free_append 10 (decimal l.load) (47 ∷ decimal l.capacity) (number_free 10 l.load (omega arith) is.load) ((λ e. omega arith), number_free 10 l.capacity (omega arith) is.capacity), tt),
      ),
    ),
  );
}

symbols_free : (net : Network) (symbols : List Symbol) → AllByRecursion (IsLineSymbol net) symbols → AllByRecursion (Free 10) (map (symbol_text net) symbols)
symbols_free net [] all = tt
symbols_free net (s ∷ ss) all = (symbol_free 10 net s (omega arith) all.0, symbols_free net ss all.1)

pub symbols_lack : (net : Network) (symbols : List Symbol) → AllByRecursion (IsLineSymbol net) symbols → Free 10 (join_with_byte 32 (map (symbol_text net) symbols))
symbols_lack net symbols all = words_free (map (symbol_text net) symbols) (symbols_free net symbols all)

pub walk_lines : (net : Network) → AreLines (walk_line net) (IsWalkLine net)
walk_lines net = record {
  front = walk_text net;
  is = λ w. refl;
  free = λ w is. words_free (codes "walk" ∷ w.0 ∷ map (symbol_text net) w.1)
      (four_bytes 119 97 108 107 (omega arith) (omega arith) (omega arith) (omega arith), (identifier_free 10 w.0 (omega arith) is.id, symbols_free net w.1 is.symbols));
}
