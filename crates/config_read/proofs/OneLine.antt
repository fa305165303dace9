-- A line tells its value, over a network in which no two names are alike.
use Rattle.std.proofs.Common.{◌≡◌, ◌≢◌, ℕ, ◌<◌, List, [], ◌∷◌, ◌++◌, map, drop, get_or, refl, sym, ◌∙◌, ap, subst, append-nil, arith}
use Rattle.std.proofs.lemmas.List.{append_cancel_left, append_cancel_right}
use Rattle.std.specs.Prelude.{Option, None, Some, codes}
use Rattle.std.specs.List.{AllByRecursion, join_with_byte}
use Rattle.std.specs.Fmt.{decimal}
use Rattle.merlin_model.specs.declared.policy.Symbol.{Symbol}
use Rattle.merlin_model.specs.declared.config.Out.{Out}
use Rattle.merlin_model.specs.declared.config.Out.TheVariants.{InPort, Port}
use Rattle.merlin_model.specs.declared.config.Action.{Action}
use Rattle.merlin_model.specs.declared.config.Action.TheVariants.{SetVlan, StripVlan, Output, Enqueue}
use Rattle.merlin_model.specs.declared.config.Rule.{Rule}
use Rattle.merlin_model.specs.declared.config.Process.{Process}
use Rattle.merlin_model.specs.declared.config.Queue.{Queue}
use Rattle.merlin_model.specs.Networks.{Network, IsNetwork}
use Rattle.merlin_base.specs.Addresses.{mac_text}
use Rattle.merlin_base.proofs.Cutting.{Free, free_append, free_middle, cut_once}
use Rattle.config_text.specs.declared.loads.Load.{Load}
use Rattle.config_text.specs.Words.{words, line}
use Rattle.config_text.specs.Lines.{name_at, function_name, match_text, out_text, action_text, actions_text, functions_text, rate_with_unit}
use Rattle.config_text.specs.Loads.{ratio_text}
use Rattle.config_text.specs.Result.{symbol_text}
use Rattle.config_lines.specs.Words.{IsTag, IsQueue, IsOptional, HasFewDigits, IsLineFunction}
use Rattle.config_lines.specs.Parts.{IsLineOut, IsTagging, IsSending, AreLineActions, IsLineSymbol}
use Rattle.config_lines.specs.Courses.{IsAction}
use Rattle.config_lines.specs.Lines.{rule_line, IsRuleLine, process_line, IsProcessLine, queue_line, IsQueueLine, load_line, IsLoadLine, walk_line, IsWalkLine}
use Rattle.config_lines.proofs.Then.{location_free, short_free, number_free, double_free, identifier_free, identifier_free_colon, function_free}
use Rattle.config_lines.proofs.AddressTexts.{mac_free}
use Rattle.config_lines.proofs.MatchTexts.{match_free}
use Rattle.config_lines.proofs.ActionTexts.{out_free_colon, action_free, actions_free, change_is, send_is, never_both}
use Rattle.config_lines.proofs.FunctionTexts.{functions_free}
use Rattle.config_lines.proofs.SymbolTexts.{symbol, plain_is, symbol_free}
use Rattle.config_read.proofs.HostKinds.{lacks_byte, tested}
use Rattle.config_read.proofs.OneWords.{short_same, double_same, rate_same, mac_same, location_same, function_same, no_letter, joined_once, commas_once, IsPart, is_part}
use Rattle.config_read.proofs.OneMatch.{match_same}

heads : (a b : ℕ) (x y : List ℕ) → a ∷ x ≡ b ∷ y → a ≡ b
heads a b x y e = cc

seconds : (a b c d : ℕ) (x y : List ℕ) → a ∷ b ∷ x ≡ c ∷ d ∷ y → b ≡ d
seconds a b c d x y e = cc

-- the words of a line, none of which has a blank
words_once : (v w : List ℕ) (vs ws : List (List ℕ)) → AllByRecursion (Free 32) (v ∷ vs) → AllByRecursion (Free 32) (w ∷ ws) → line (words (v ∷ vs)) ≡ line (words (w ∷ ws)) → v ∷ vs ≡ w ∷ ws
words_once v w vs ws f g e = joined_once 32 v w vs ws f g (append_cancel_right (words (v ∷ vs)) (words (w ∷ ws)) (10 ∷ []) e)

abbrev word : ℕ → List (List ℕ) → List ℕ
word k ws = get_or ws k []

rate_free : (n : ℕ) → HasFewDigits n → Free 32 (rate_with_unit n)
unfolding lacks_byte
rate_free n is = free_append 32 (decimal n) (codes "kbit") (number_free 32 n (omega arith) is) (tested 32 (codes "kbit") refl)

-- Actions.

out_same : (a b : Out) → IsLineOut a → IsLineOut b → out_text a ≡ out_text b → a ≡ b
out_same InPort InPort f g e = refl
out_same InPort (Port n) f g e = absurd (no_letter n (110 ∷ 95 ∷ 112 ∷ 111 ∷ 114 ∷ 116 ∷ []) 105 (let h = g.high in omega arith) (omega arith) (sym e))
out_same (Port m) InPort f g e = absurd (no_letter m (110 ∷ 95 ∷ 112 ∷ 111 ∷ 114 ∷ 116 ∷ []) 105 (let h = f.high in omega arith) (omega arith) e)
out_same (Port m) (Port n) f g e = ap Port (short_same 1 65279 m n (omega arith) f g e)

action_same : (a b : Action) → IsAction a → IsAction b → action_text a ≡ action_text b → a ≡ b
action_same (SetVlan m) (SetVlan n) f g e = ap SetVlan (short_same 1 4094 m n (omega arith) f g (append_cancel_left (codes "set_vlan_vid=") (decimal m) (decimal n) e))
action_same (SetVlan m) StripVlan f g e = absurd (let s = seconds 115 101 115 116 _ _ e in omega arith)
action_same (SetVlan m) (Output out) f g e = absurd (let s = heads 115 111 _ _ e in omega arith)
action_same (SetVlan m) (Enqueue out queue) f g e = absurd (let s = heads 115 101 _ _ e in omega arith)
action_same StripVlan (SetVlan n) f g e = absurd (let s = seconds 115 116 115 101 _ _ e in omega arith)
action_same StripVlan StripVlan f g e = refl
action_same StripVlan (Output out) f g e = absurd (let s = heads 115 111 _ _ e in omega arith)
action_same StripVlan (Enqueue out queue) f g e = absurd (let s = heads 115 101 _ _ e in omega arith)
action_same (Output out) (SetVlan n) f g e = absurd (let s = heads 111 115 _ _ e in omega arith)
action_same (Output out) StripVlan f g e = absurd (let s = heads 111 115 _ _ e in omega arith)
action_same (Output out) (Output other) f g e = ap Output (out_same out other f g (append_cancel_left (codes "output=") (out_text out) (out_text other) e))
action_same (Output out) (Enqueue other queue) f g e = absurd (let s = heads 111 101 _ _ e in omega arith)
action_same (Enqueue out queue) (SetVlan n) f g e = absurd (let s = heads 101 115 _ _ e in omega arith)
action_same (Enqueue out queue) StripVlan f g e = absurd (let s = heads 101 115 _ _ e in omega arith)
action_same (Enqueue out queue) (Output other) f g e = absurd (let s = heads 101 111 _ _ e in omega arith)
action_same (Enqueue out queue) (Enqueue other number) f g e =
    let cut = cut_once 58 (out_text out) (out_text other) (decimal queue) (decimal number) (out_free_colon out f.0) (out_free_colon other g.0)
    (append_cancel_left (codes "enqueue=") (out_text out ++ 58 ∷ decimal queue) (out_text other ++ 58 ∷ decimal number) e) in
    let outs = out_same out other f.0 g.0 cut.front in
    let queues = short_same 1 64 queue number (omega arith) f.1 g.1 cut.rest in
    (λ i. Enqueue (outs i) (queues i))

-- no action is the word `drop`
no_drop : (a : Action) (more : List ℕ) → IsAction a → codes "drop" ≡ action_text a ++ more → ⊥
no_drop (SetVlan n) more is e = let s = heads 100 115 _ _ e in omega arith
no_drop StripVlan more is e = let s = heads 100 115 _ _ e in omega arith
no_drop (Output out) more is e = let s = heads 100 111 _ _ e in omega arith
no_drop (Enqueue out queue) more is e = let s = heads 100 101 _ _ e in omega arith

actions_same : (xs ys : List Action) → AreLineActions xs → AreLineActions ys → actions_text xs ≡ actions_text ys → xs ≡ ys
actions_same [] [] f g e = refl
actions_same [] (a ∷ []) f g e = absurd (no_drop a [] (send_is a g) (e ∙ sym (append-nil (action_text a))))
actions_same [] (a ∷ b ∷ []) f g e = absurd (no_drop a (44 ∷ action_text b) (change_is a g.0) e)
actions_same (a ∷ []) [] f g e = absurd (no_drop a [] (send_is a f) (sym e ∙ sym (append-nil (action_text a))))
actions_same (a ∷ b ∷ []) [] f g e = absurd (no_drop a (44 ∷ action_text b) (change_is a f.0) (sym e))
actions_same (a ∷ []) (b ∷ []) f g e = ap (λ z. z ∷ []) (action_same a b (send_is a f) (send_is b g) e)
actions_same (a ∷ []) (b ∷ c ∷ []) f g e = absurd (free_middle 44 (action_text b) (action_text c) (subst (Free 44) e (action_free 44 a (omega arith) (send_is a f))))
actions_same (a ∷ b ∷ []) (c ∷ []) f g e = absurd (free_middle 44 (action_text a) (action_text b) (subst (Free 44) (sym e) (action_free 44 c (omega arith) (send_is c g))))
actions_same (a ∷ b ∷ []) (c ∷ d ∷ []) f g e =
    let cut = cut_once 44 (action_text a) (action_text c) (action_text b) (action_text d) (action_free 44 a (omega arith) (change_is a f.0)) (action_free 44 c (omega arith) (change_is c g.0)) e in
    let changes = action_same a c (change_is a f.0) (change_is c g.0) cut.front in
    let sends = action_same b d (send_is b f.1) (send_is d g.1) cut.rest in
    (λ i. changes i ∷ sends i ∷ [])
actions_same (a ∷ b ∷ c ∷ cs) ys f g e = absurd f
actions_same xs (a ∷ b ∷ c ∷ cs) f g e = absurd g

-- Rules.

abbrev rule_words : Network → Rule → List (List ℕ)
rule_words net r = name_at net r.loc ∷ decimal r.priority ∷ match_text r.fits ∷ actions_text r.actions ∷ []

rule_free : (net : Network) (r : Rule) → IsRuleLine net r → AllByRecursion (Free 32) (codes "rule" ∷ rule_words net r)
unfolding lacks_byte
rule_free net r is =
    (tested 32 (codes "rule") refl, (location_free 32 net r.loc (omega arith) is.loc, (double_free 32 r.priority (omega arith) is.priority, (match_free 32 r.fits (omega arith) is.fits, (actions_free 32 r.actions (omega arith) is.actions, tt)))))

pub rule_once : (net : Network) → IsNetwork net → (a b : Rule) → IsRuleLine net a → IsRuleLine net b → rule_line net a ≡ rule_line net b → a ≡ b
rule_once net is a b f g e =
    let same = words_once (codes "rule") (codes "rule") (rule_words net a) (rule_words net b) (rule_free net a f) (rule_free net b g) e in
    let locs = location_same net a.loc b.loc is f.loc g.loc (ap (word 1) same) in
    let priorities = double_same a.priority b.priority f.priority g.priority (ap (word 2) same) in
    let matches = match_same a.fits b.fits f.fits g.fits (ap (word 3) same) in
    let actions = actions_same a.actions b.actions f.actions g.actions (ap (word 4) same) in
    (λ i. record { loc = locs i; priority = priorities i; fits = matches i; actions = actions i })

-- Lines of middleboxes.

names_same : (net : Network) → IsNetwork net → (fs gs : List ℕ) → AllByRecursion (IsLineFunction net) fs → AllByRecursion (IsLineFunction net) gs → map (function_name net.functions) fs ≡ map (function_name net.functions) gs → fs ≡ gs
names_same net is [] [] f g e = refl
names_same net is [] (k ∷ gs) f g e = absurd (let no_way : [] ≡ function_name net.functions k ∷ map (function_name net.functions) gs → ⊥ = λ h. cc in no_way e)
names_same net is (h ∷ fs) [] f g e = absurd (let no_way : function_name net.functions h ∷ map (function_name net.functions) fs ≡ [] → ⊥ = λ k. cc in no_way e)
names_same net is (h ∷ fs) (k ∷ gs) f g e =
    let first : function_name net.functions h ≡ function_name net.functions k = cc in
    let later : map (function_name net.functions) fs ≡ map (function_name net.functions) gs = cc in
    (λ i. function_same net h k is f.0 g.0 first i ∷ names_same net is fs gs f.1 g.1 later i)

names_are_parts : (net : Network) (fs : List ℕ) → AllByRecursion (IsLineFunction net) fs → AllByRecursion (IsPart (codes "-")) (map (function_name net.functions) fs)
names_are_parts net [] all = tt
names_are_parts net (f ∷ fs) all = (
  is_part (codes "-") (function_name net.functions f) (function_free 44 net f (omega arith) all.0)
      (λ e. (subst (Free 45) e (function_free 45 net f (omega arith) all.0)).0 refl),
  names_are_parts net fs all.1,
)

functions_same : (net : Network) → IsNetwork net → (fs gs : List ℕ) → AllByRecursion (IsLineFunction net) fs → AllByRecursion (IsLineFunction net) gs → functions_text net.functions fs ≡ functions_text net.functions gs → fs ≡ gs
functions_same net is fs gs f g e =
    names_same net is fs gs f g (commas_once (codes "-") (map (function_name net.functions) fs) (map (function_name net.functions) gs) ((λ e. omega arith), tt) (names_are_parts net fs f) (names_are_parts net gs g) e)

abbrev process_words : Network → Process → List (List ℕ)
process_words net p = name_at net p.loc ∷ decimal p.tag ∷ mac_text p.eth_dst ∷ functions_text net.functions p.functions ∷ decimal p.next_tag ∷ decimal p.port ∷ decimal p.queue ∷ []

process_free : (net : Network) (p : Process) → IsProcessLine net p → AllByRecursion (Free 32) (codes "process" ∷ process_words net p)
unfolding lacks_byte
process_free net p is = (
  tested 32 (codes "process") refl,
  (
    location_free 32 net p.loc (omega arith) is.loc,
    (
      short_free 32 1 4094 p.tag (omega arith) (omega arith) is.tag,
      (
        mac_free 32 p.eth_dst (omega arith),
        (
          functions_free 32 net p.functions (omega arith) is.functions,
          (short_free 32 1 4094 p.next_tag (omega arith) (omega arith) is.next_tag, (short_free 32 1 65279 p.port (omega arith) (omega arith) is.port, (short_free 32 0 64 p.queue (omega arith) (omega arith) is.queue, tt))),
        ),
      ),
    ),
  ),
)

pub process_once : (net : Network) → IsNetwork net → (a b : Process) → IsProcessLine net a → IsProcessLine net b → process_line net a ≡ process_line net b → a ≡ b
process_once net is a b f g e =
    let same = words_once (codes "process") (codes "process") (process_words net a) (process_words net b) (process_free net a f) (process_free net b g) e in
    let locs = location_same net a.loc b.loc is f.loc g.loc (ap (word 1) same) in
    let tags = short_same 1 4094 a.tag b.tag (omega arith) f.tag g.tag (ap (word 2) same) in
    let macs = mac_same a.eth_dst b.eth_dst f.eth_dst g.eth_dst (ap (word 3) same) in
    let functions = functions_same net is a.functions b.functions f.functions g.functions (ap (word 4) same) in
    let nexts = short_same 1 4094 a.next_tag b.next_tag (omega arith) f.next_tag g.next_tag (ap (word 5) same) in
    let ports = short_same 1 65279 a.port b.port (omega arith) f.port g.port (ap (word 6) same) in
    let queues = short_same 0 64 a.queue b.queue (omega arith) f.queue g.queue (ap (word 7) same) in
    (λ i. record { loc = locs i; tag = tags i; eth_dst = macs i; functions = functions i; next_tag = nexts i; port = ports i; queue = queues i })

-- Queues and loads.

abbrev queue_words : Network → Queue → List (List ℕ)
queue_words net q = name_at net q.loc ∷ decimal q.port ∷ decimal q.queue ∷ rate_with_unit q.rate ∷ []

queue_free : (net : Network) (q : Queue) → IsQueueLine net q → AllByRecursion (Free 32) (codes "queue" ∷ queue_words net q)
unfolding lacks_byte
queue_free net q is =
    (tested 32 (codes "queue") refl, (location_free 32 net q.loc (omega arith) is.loc, (short_free 32 1 65279 q.port (omega arith) (omega arith) is.port, (short_free 32 1 64 q.queue (omega arith) (omega arith) is.queue, (rate_free q.rate is.rate, tt)))))

pub queue_once : (net : Network) → IsNetwork net → (a b : Queue) → IsQueueLine net a → IsQueueLine net b → queue_line net a ≡ queue_line net b → a ≡ b
queue_once net is a b f g e =
    let same = words_once (codes "queue") (codes "queue") (queue_words net a) (queue_words net b) (queue_free net a f) (queue_free net b g) e in
    let locs = location_same net a.loc b.loc is f.loc g.loc (ap (word 1) same) in
    let ports = short_same 1 65279 a.port b.port (omega arith) f.port g.port (ap (word 2) same) in
    let queues = short_same 1 64 a.queue b.queue (omega arith) f.queue g.queue (ap (word 3) same) in
    let rates = rate_same a.rate b.rate f.rate g.rate (ap (word 4) same) in
    (λ i. record { loc = locs i; port = ports i; queue = queues i; rate = rates i })

abbrev load_words : Network → Load → List (List ℕ)
load_words net l = name_at net l.loc ∷ decimal l.port ∷ ratio_text l.load l.capacity ∷ []

load_free : (net : Network) (l : Load) → IsLoadLine net l → AllByRecursion (Free 32) (codes "load" ∷ load_words net l)
unfolding lacks_byte
load_free net l is = (
  tested 32 (codes "load") refl,
  (
    location_free 32 net l.loc (omega arith) is.loc,
    (
      short_free 32 1 65279 l.port (omega arith) (omega arith) is.port,
      (free_append 32 (decimal l.load) (47 ∷ decimal l.capacity) (number_free 32 l.load (omega arith) is.load) ((λ e. omega arith), number_free 32 l.capacity (omega arith) is.capacity), tt),
    ),
  ),
)

pub load_once : (net : Network) → IsNetwork net → (a b : Load) → IsLoadLine net a → IsLoadLine net b → load_line net a ≡ load_line net b → a ≡ b
load_once net is a b f g e =
    let same = words_once (codes "load") (codes "load") (load_words net a) (load_words net b) (load_free net a f) (load_free net b g) e in
    let locs = location_same net a.loc b.loc is f.loc g.loc (ap (word 1) same) in
    let ports = short_same 1 65279 a.port b.port (omega arith) f.port g.port (ap (word 2) same) in
    let cut = cut_once 47 (decimal a.load) (decimal b.load) (decimal a.capacity) (decimal b.capacity) (number_free 47 a.load (omega arith) f.load) (number_free 47 b.load (omega arith) g.load) (ap (word 3) same) in
    let loads = rate_same a.load b.load f.load g.load (ap (λ t. t ++ codes "kbit") cut.front) in
    let capacities = rate_same a.capacity b.capacity f.capacity g.capacity (ap (λ t. t ++ codes "kbit") cut.rest) in
    (λ i. record { loc = locs i; port = ports i; load = loads i; capacity = capacities i })

-- Walks.

symbol_same : (net : Network) → IsNetwork net → (a b : Symbol) → IsLineSymbol net a → IsLineSymbol net b → symbol_text net a ≡ symbol_text net b → a ≡ b
symbol_same net is a b f g e = by a.fun b.fun f.fun g.fun e
  where
    by : (o p : Option ℕ) → IsOptional (IsLineFunction net) o → IsOptional (IsLineFunction net) p → symbol_text net (symbol a.loc o) ≡ symbol_text net (symbol b.loc p) → symbol a.loc o ≡ symbol b.loc p
    by None None h k e = let locs = location_same net a.loc b.loc is f.loc g.loc (sym (plain_is net a.loc) ∙ e ∙ plain_is net b.loc) in (λ i. symbol (locs i) None)
    by None (Some q) h k e = absurd (free_middle 58 (name_at net b.loc) (function_name net.functions q) (subst (Free 58) (sym (plain_is net a.loc) ∙ e) (identifier_free_colon (name_at net a.loc) f.loc.word)))
    by (Some p) None h k e = absurd (free_middle 58 (name_at net a.loc) (function_name net.functions p) (subst (Free 58) (sym (plain_is net b.loc) ∙ sym e) (identifier_free_colon (name_at net b.loc) g.loc.word)))
    by (Some p) (Some q) h k e =
        let cut = cut_once 58 (name_at net a.loc) (name_at net b.loc) (function_name net.functions p) (function_name net.functions q) (identifier_free_colon (name_at net a.loc) f.loc.word) (identifier_free_colon (name_at net b.loc) g.loc.word) e in
        let locs = location_same net a.loc b.loc is f.loc g.loc cut.front in
        let functions = function_same net p q is h k cut.rest in
        (λ i. symbol (locs i) (Some (functions i)))

symbols_same : (net : Network) → IsNetwork net → (xs ys : List Symbol) → AllByRecursion (IsLineSymbol net) xs → AllByRecursion (IsLineSymbol net) ys → map (symbol_text net) xs ≡ map (symbol_text net) ys → xs ≡ ys
symbols_same net is [] [] f g e = refl
symbols_same net is [] (y ∷ ys) f g e = absurd (let no_way : [] ≡ symbol_text net y ∷ map (symbol_text net) ys → ⊥ = λ h. cc in no_way e)
symbols_same net is (x ∷ xs) [] f g e = absurd (let no_way : symbol_text net x ∷ map (symbol_text net) xs ≡ [] → ⊥ = λ h. cc in no_way e)
symbols_same net is (x ∷ xs) (y ∷ ys) f g e =
    let first : symbol_text net x ≡ symbol_text net y = cc in
    let later : map (symbol_text net) xs ≡ map (symbol_text net) ys = cc in
    (λ i. symbol_same net is x y f.0 g.0 first i ∷ symbols_same net is xs ys f.1 g.1 later i)

symbols_free : (net : Network) (xs : List Symbol) → AllByRecursion (IsLineSymbol net) xs → AllByRecursion (Free 32) (map (symbol_text net) xs)
symbols_free net [] all = tt
symbols_free net (x ∷ xs) all = (symbol_free 32 net x (omega arith) all.0, symbols_free net xs all.1)

walk_free : (net : Network) (walk : List ℕ × List Symbol) → IsWalkLine net walk → AllByRecursion (Free 32) (codes "walk" ∷ walk.0 ∷ map (symbol_text net) walk.1)
unfolding lacks_byte
walk_free net walk is = (tested 32 (codes "walk") refl, (identifier_free 32 walk.0 (omega arith) is.id, symbols_free net walk.1 is.symbols))

pub walk_once : (net : Network) → IsNetwork net → (a b : List ℕ × List Symbol) → IsWalkLine net a → IsWalkLine net b → walk_line net a ≡ walk_line net b → a ≡ b
walk_once net is a b f g e =
    let same = words_once (codes "walk") (codes "walk") (a.0 ∷ map (symbol_text net) a.1) (b.0 ∷ map (symbol_text net) b.1) (walk_free net a f) (walk_free net b g) e in
    let ids : a.0 ≡ b.0 = ap (word 1) same in
    let symbols = symbols_same net is a.1 b.1 f.symbols g.symbols (ap (drop 2) same) in
    (λ i. (ids i, symbols i))
