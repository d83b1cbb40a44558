-- In every run an ORB of an initiator's latest list of which no status was taken stands in its slot, and is the one that its address names.
use Rattle.sbp_world.proofs.Words.Std.{◌≡◌, ◌∙◌, refl, sym, ap, subst, ℕ, suc, ◌<◌, ◌≤◌, nat_lt, Bool, true, cond, List, ◌∷◌, ◌++◌, map, length, Option, Some, None, arith, nat_tests}
use Rattle.sbp_world.proofs.Words.Wire.{list_in, orb_in, Event, Moment, asked, said}
use Rattle.sbp_world.proofs.Words.Target.{Told}
use Rattle.sbp_world.proofs.Words.Initiator.{last_at, last_in, slot_in, TicketParts}
use Rattle.sbp_world.proofs.Words.Laws.{address_of, orb, slot_at, taken_at, appends, lists}
use Rattle.sbp_world.proofs.Words.World.{history_of, Run, after, beginning, MayAll, after_all, ticket_at, Scene, WorldState, begun, initiator_at, DeliversMore, AreRows, name_in, IsRun, more_deliveries, IsHost, AreNamed, NamesLaw, IsNamed, initiator_in}
use Rattle.bus_memory.proofs.Found.{slot_of_law}
use Rattle.sbp_journal.specs.declared.event.Event.TheVariants as events
use Rattle.sbp_laws.specs.Lists as terms
use Rattle.sbp_world.proofs.Hosts.Runs.{count_after, count_between, run_law}
use Rattle.sbp_world.proofs.Lists.Passing.{PassLaw}
use Rattle.sbp_world.proofs.Lists.Histories.{after_lines, between}
use Rattle.sbp_world.proofs.Lists.Stands.{standing}
use Rattle.sbp_world.proofs.Lists.OrbSteps.{yes}

-- a line that delivers one packet after the other, by how many it delivers at most
pub record Most (event : Event) : Type 0 where
  pub most : Option ℕ
  pub is : more_deliveries most ≡ event

pub most_of : (event : Event) → DeliversMore event → Most event
most_of (events.Step count) d = record { most = Some count; is = refl }
most_of events.Settle d = record { most = None; is = refl }
most_of (events.Begin initiators is_ready) d = absurd d
most_of (events.Act initiator action) d = absurd d
most_of (events.Reset physical) d = absurd d
most_of (events.See node) d = absurd d
most_of (events.Deliver serial) d = absurd d
most_of (events.Repeat serial) d = absurd d
most_of (events.Lose serial) d = absurd d
most_of (events.Timeout serial) d = absurd d
most_of events.Tick d = absurd d
most_of (events.Inject initiator bytes) d = absurd d
most_of (events.Key unit key) d = absurd d

-- no initiator is asked about
abbrev pub all_wild : ℕ → Bool
all_wild i = true

listed_as : (last : Option TicketParts) (n k : ℕ) → name_in last ≡ Some (orb n k) → list_in last ≡ Some n
listed_as None n k e = ap terms.list_in e
listed_as (Some t) n k e = ap terms.list_in e

numbered_as : (last : Option TicketParts) (n k : ℕ) → name_in last ≡ Some (orb n k) → orb_in last ≡ Some k
numbered_as None n k e = ap terms.number_in e
numbered_as (Some t) n k e = ap terms.number_in e

module _ (past : List Moment) (w : WorldState) (law : PassLaw all_wild past) (rows : (i : ℕ) → i < length w.initiators → AreRows past i (initiator_at w i).lists.slots) where
  named : (place n k : ℕ) → initiator_in w place < length w.initiators → suc n ≡ lists past (initiator_in w place) → k < appends past (initiator_in w place) n → taken_at past (initiator_in w place) n k ≡ None → IsNamed past w place n k
  named place n k inside latest b taken =
      let i = initiator_in w place in
      let s = standing all_wild past law i n k latest b taken in
      let slot = slot_at past i n k in
      let lists_of = (initiator_at w i).lists in
      let last = (slot_in lists_of.slots.slots slot).last in
      let at : name_in last ≡ Some (orb n k) = sym ((rows i inside).fits.prepared slot s.small) ∙ s.last in
      let is_there : nat_lt i (length w.initiators) ≡ true = grind (arith, nat_tests) in
      let found : ticket_at w place (address_of past i n k) ≡ last = ap (λ c. cond c (last_at lists_of (address_of past i n k)) None) is_there ∙ ap (λ o. last_in lists_of o) (slot_of_law.found slot s.small) in
      record { list = ap list_in found ∙ listed_as last n k at; number = ap orb_in found ∙ numbered_as last n k at }

  all_named : AreNamed past w
  all_named = record {
    stands = λ i n k e b t. let s = standing all_wild past law i n k e b t in record { last = s.last; small = s.small };
    named = named;
  }

module _ (line : ℕ) (run : Run) (r : IsRun run) (has : 0 < run.units) (small : run.units ≤ 4) (size : length run.start.disks ≡ run.units) where
  abbrev last : Scene
  last = after (beginning run) run.entries

  inside : (i : ℕ) → i < length last.world.initiators → i < run.initiators
  inside i b = subst (λ n. i < n) (count_after run run.entries) b

  named_after : AreNamed (history_of line run) last.world
  named_after =
      all_named (history_of line run) last.world
      (after_lines all_wild line run r has small size (λ i e. yes e) (λ i e. yes e)).law
      (λ i b. (run_law.rows line run r i (inside i b)).rows)

  module _ (next : ℕ) (event : Event) (d : DeliversMore event) (told : List (Option Told)) (m : MayAll told (begun last)) where
    abbrev end : WorldState
    end = (after_all told (begun last)).world

    abbrev ms : List Moment
    ms = map said end.fresh ++ asked next event ∷ history_of line run

    within_run : (i : ℕ) → i < length end.initiators → i < run.initiators
    within_run i b = inside i (subst (λ n. i < n) (count_between told last) b)

    same_event : map said end.fresh ++ asked next (more_deliveries (most_of event d).most) ∷ history_of line run ≡ ms
    same_event = ap (λ x. map said end.fresh ++ asked next x ∷ history_of line run) (most_of event d).is

    host_at : (i : ℕ) → i < length end.initiators → IsHost ms i (initiator_at end i)
    host_at i b = subst (λ x. IsHost x i (initiator_at end i)) same_event (run_law.between line run r next (most_of event d).most told m i (within_run i b))

    named_between : AreNamed ms end
    named_between =
        all_named ms end
        (between all_wild line run r has small size next event d told m (λ i e. yes e) (λ i e. yes e)).law
        (λ i b. (host_at i b).rows)

pub names_law : NamesLaw
names_law = record {
  after_lines = λ line run r has small size. named_after line run r has small size;
  between = λ line run r has small size next event d told m. named_between line run r has small size next event d told m;
}
