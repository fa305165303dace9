-- The queues of a directed link, one by one, and the loads that they make.
use Rattle.std.proofs.Common.{◌≡◌, ◌≤◌, ◌<◌, ◌+◌, ◌∷◌, ◌==◌, ◌&&◌, ℕ, Bool, true, false, List, [], cond, ap, ◌∙◌, refl, arith, nat_lt, map, length, filter}
use Rattle.std.specs.List.{AllByRecursion}
use Rattle.std.proofs.lemmas.List.Sums.{sum_by-cons}
use Rattle.merlin_model.specs.declared.config.Queue.{Queue}
use Rattle.merlin_model.specs.declared.config.Config.{Config}
use Rattle.merlin_model.specs.declared.policy.Ends.{Ends}
use Rattle.merlin_model.specs.declared.policy.Symbol.{Symbol}
use Rattle.merlin_model.specs.Policies.{Policy}
use Rattle.merlin_model.specs.Assignments.{load_on}
use Rattle.merlin_model.specs.Headline.{MeetsGuarantees}
use Rattle.merlin_model.specs.declared.network.DirectedLink.{DirectedLink}
use Rattle.merlin_model.specs.Networks.{Network, JoinsLocations, directed_links}
use Rattle.config_text.specs.Loads.{load_over, loads_of}
use Rattle.result_heads.specs.Queued.{queued_on, AreWithinCapacities}

pub queued-cons : (q : Queue) (qs : List Queue) (link : DirectedLink) →
    queued_on (q ∷ qs) link ≡ cond ((q.loc == link.from) && (q.port == link.out_port)) q.rate 0 + queued_on qs link
queued-cons q qs link = by ((q.loc == link.from) && (q.port == link.out_port)) refl
  where
    by : (b : Bool) → ((q.loc == link.from) && (q.port == link.out_port)) ≡ b →
        queued_on (q ∷ qs) link ≡ cond ((q.loc == link.from) && (q.port == link.out_port)) q.rate 0 + queued_on qs link
    by true e = rw e (sum_by-cons (λ q. q.rate) q (filter (λ q. (q.loc == link.from) && (q.port == link.out_port)) qs))
    by false e = rw e (omega arith)

-- what a filter leaves holds where the list holds
pub loads-present : (net : Network) (amount : DirectedLink → ℕ) (links : List DirectedLink) →
    AllByRecursion (JoinsLocations net) links →
    AllByRecursion (λ load. load.loc < length net.locations) (filter (λ l. nat_lt 0 l.load) (map (load_over amount) links))
loads-present net amount [] h = tt
loads-present net amount (link ∷ links) h = by (loads-present net amount links h.1) (nat_lt 0 (amount link)) refl
  where
    by : AllByRecursion (λ load. load.loc < length net.locations) (filter (λ l. nat_lt 0 l.load) (map (load_over amount) links)) →
        (b : Bool) → nat_lt 0 (amount link) ≡ b →
        AllByRecursion (λ load. load.loc < length net.locations) (filter (λ l. nat_lt 0 l.load) (map (load_over amount) (link ∷ links)))
    by others true e = rw e (h.0.0, others)
    by others false e = rw e others

-- where each link has so much queued as walks load it with, and no walk overloads it, none has too much queued
within : (net : Network) (policy : Policy) (ends : List Ends) (walks : List (List Symbol)) (queues : List Queue) (links : List DirectedLink) →
    AllByRecursion (λ link. queued_on queues link ≡ load_on net policy ends walks link) links →
    AllByRecursion (λ link. load_on net policy ends walks link ≤ link.capacity) links → AllByRecursion (λ link. queued_on queues link ≤ link.capacity) links
within net policy ends walks queues [] same few = tt
within net policy ends walks queues (link ∷ links) same few = (rw same.0 few.0, within net policy ends walks queues links same.1 few.1)

pub guarantees-within : (net : Network) (policy : Policy) (ends : List Ends) (walks : List (List Symbol)) (config : Config) →
    MeetsGuarantees net policy ends walks config → AreWithinCapacities net config.queues
guarantees-within net policy ends walks config h = within net policy ends walks config.queues (directed_links net) h.loads h.feasible

alike : (amount other : DirectedLink → ℕ) (links : List DirectedLink) → AllByRecursion (λ link. amount link ≡ other link) links →
    map (load_over amount) links ≡ map (load_over other) links
alike amount other [] h = refl
alike amount other (link ∷ links) h =
    ap (λ n. load_over (λ l. n) link ∷ map (load_over amount) links) h.0
    ∙ ap (λ rest. load_over other link ∷ rest) (alike amount other links h.1)

pub loads-of-walks : (net : Network) (policy : Policy) (ends : List Ends) (walks : List (List Symbol)) (config : Config) →
    MeetsGuarantees net policy ends walks config → loads_of net (queued_on config.queues) ≡ loads_of net (load_on net policy ends walks)
loads-of-walks net policy ends walks config h =
    ap (filter (λ l. nat_lt 0 l.load)) (alike (queued_on config.queues) (load_on net policy ends walks) (directed_links net) h.loads)
