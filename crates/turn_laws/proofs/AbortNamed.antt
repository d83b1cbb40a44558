-- At a place of a run an agent that waits for more of its ORB has one of its initiator, which its address names: the one behind those of its list that ended.
use Rattle.std.proofs.Common.{arith, ◌≡◌, ◌∙◌, refl, ap, subst, ◌<◌, ℕ, true, List, Some}
use Rattle.agent_laws.specs.Along.Along.{IsNext, Knows, Progress}
use Rattle.agent_laws.specs.Along.Lists.{OrbList}
use Rattle.bus_memory.proofs.Found.{slot_of_law}
use Rattle.command_agent.specs.Machine.{Machine, awaits_run}
use Rattle.command_agent.specs.declared.phase.Phase.{Phase}
use Rattle.command_agent.specs.declared.phase.Phase.TheVariants as phases
use Rattle.rbc_disk.specs.Disk.{Disk}
use Rattle.sbp_journal.specs.Run.{Moment}
use Rattle.sbp_laws.specs.CarriedBytes.{address_of}
use Rattle.sbp_laws.specs.Lists.{linked, named, named_in, orb, slot_at}
use Rattle.sbp_laws.specs.Terms.{ends}
use Rattle.sbp_world.specs.Agents.Alike.{has_list}
use Rattle.sbp_world.specs.Lists.Along.{AreAlong, GoesAlong}
use Rattle.sbp_world.specs.Lists.Needs.{IsCalm, IsOpenAt, OpenLists, initiator_in, is_open_at, machine_at}
use Rattle.sbp_world.specs.Worlds.{WorldState}
use Rattle.sbp_world.proofs.Agents.Management.Holding.{Holding}
use Rattle.sbp_world.proofs.Agents.Management.Still.{hist}
use Rattle.sbp_world.proofs.Common.{untrue}
use Rattle.sbp_world.proofs.Lists.Sites.{Site, named_prepared}

next_of : (phase : Phase) (l : OrbList) (p : Progress) (m : Machine) → Knows l p phase m → awaits_run phase ≡ true → IsNext l p.ended p.answered m.present
next_of phases.Fetching l p m k e = k.turn
next_of phases.ReadingTable l p m k e = k.awaits.turn
next_of (phases.ReadingData wanted) l p m k e = k.awaits.turn
next_of phase l p m k e = untrue e

pub awaits_open : (phase : Phase) → awaits_run phase ≡ true → has_list phase ≡ true
awaits_open phases.Reset e = untrue e
awaits_open phases.Dead e = untrue e
awaits_open phase e = refl

module _ (units ready : ℕ) (has : 0 < units) (start : List Disk) {past : List Moment} {lines : ℕ} (w : WorldState) (h : Holding units ready start past lines w) (s : Site start past w) (lists : OpenLists (hist past w) w) (along : AreAlong (hist past w) w) (place : ℕ) (b : place < 8) (waits : awaits_run (machine_at w place).phase ≡ true) (calm : IsCalm (hist past w) (initiator_in w place)) where
  abbrev ms : List Moment
  ms = hist past w

  abbrev i : ℕ
  i = initiator_in w place

  abbrev m : Machine
  m = machine_at w place

  abbrev open_there : is_open_at w place ≡ true
  open_there = awaits_open m.phase waits

  abbrev pub o : IsOpenAt ms w place
  o = lists.listed place b open_there calm

  abbrev goes : GoesAlong ms i o.n m
  goes = along.all place b open_there calm o.n o.list

  abbrev pub ended : ℕ
  ended = ends ms i o.n

  pub present_named : named ms i m.present ≡ Some (orb o.n ended)
  present_named =
      let next = next_of m.phase _ goes.progress m goes.along.main waits in
      let same = goes.is in
      let below : ended < linked ms i o.n = subst (λ k. k < linked ms i o.n) same next.linked in
      let p = named_prepared units ready has start w h s place o.n ended o.inside (o.named ended (omega arith) below) in
      ap (named ms i) (next.place ∙ ap (address_of ms i o.n) same) ∙ (ap (named_in ms i) (slot_of_law.found (slot_at ms i o.n ended) p.small) ∙ p.there)
