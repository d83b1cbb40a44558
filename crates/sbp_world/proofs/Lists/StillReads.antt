-- What a place says of the ORBs of its agents that have not ended, by their names: which ORB stands where an agent has one that was read, and what goes on so.
use Rattle.sbp_world.proofs.Words.Std.{arith, ◌≡◌, ◌∙◌, sym, ap, subst, ◌<◌, ◌≤◌, ℕ, true, List, ◌∷◌, ◌++◌, append_assoc, Some}
use Rattle.sbp_world.proofs.Words.Wire.{Moment, said}
use Rattle.sbp_world.proofs.Words.Target.{Knows, KnowsAhead, Progress, OrbList, number_behind, Phase, Machine, aligned, Disk}
use Rattle.sbp_world.proofs.Words.Initiator.{start_of, CommandOrb, OrbPointer, At}
use Rattle.sbp_world.proofs.Words.Laws.{address_of, linked, named_orb, prepared_in, ends}
use Rattle.sbp_world.proofs.Words.World.{WorldState, AreAlong, GoesAlong, IsCalm, IsOpenAt, OpenLists, initiator_in, is_open_at, machine_at, IsNamedBrought, IsStillBrought}
use Rattle.bus_memory.specs.declared.window.Window.TheVariants as windows
use Rattle.command_agent.specs.declared.phase.Phase.TheVariants as phases
use Rattle.command_agent.specs.declared.phase.ReadAhead.TheVariants as aheads
use Rattle.sbp_journal.specs.declared.note.Note.TheVariants as notes
use Rattle.sbp_world.proofs.Agents.Management.Holding.{Holding}
use Rattle.sbp_world.proofs.Agents.Management.Still.{hist}
use Rattle.sbp_world.proofs.Lists.OrbSteps.{Reads, holds_read}
use Rattle.sbp_world.proofs.Lists.Sites.{Site, named_prepared}
use Rattle.sbp_world.proofs.Lists.KeptPhases.{kept_idle}
use Rattle.sbp_world.proofs.Common.{untrue}

-- of each agent that has a list open of an initiator that injected no packets
abbrev pub AreStill : List Disk → List Moment → WorldState → Type 0
AreStill start past w = (place : ℕ) → place < 8 → is_open_at w place ≡ true → IsCalm past (initiator_in w place) → Reads (λ address orb. IsStillBrought start past w place address orb) (machine_at w place)

-- over a turn: it was brought in the history behind it, and is the one prepared last in its slot before it
pub record IsHad (start : List Disk) (now before : List Moment) (w : WorldState) (place address : ℕ) (orb : CommandOrb) : Type 0 where
  pub named : IsNamedBrought start now place address orb
  pub initiator : named.i ≡ initiator_in w place
  pub there : prepared_in before named.i named.led.slot ≡ Some (named_orb named.led.n named.led.k)

-- a history goes on
abbrev pub named_over : (start : List Disk) (past now later : List Moment) → later ++ past ≡ now → (place address : ℕ) (orb : CommandOrb) → IsNamedBrought start past place address orb → IsNamedBrought start now place address orb
named_over start past now later e place address orb x =
    let b = x.brought in
    record {
      brought = record {
        response = b.response;
        request = b.request;
        later = later ++ b.later;
        earlier = b.earlier;
        is = append_assoc later b.later (said (notes.Got b.response) ∷ b.earlier) ∙ (ap (λ ms. later ++ ms) b.is ∙ e);
        by_target = b.by_target;
        closed = b.closed;
        bytes = b.bytes;
        brings = b.brings;
        spells = b.spells;
        which = b.which;
        waited = b.waited;
        asked = b.asked;
      };
      i = x.i;
      to = x.to;
      led = x.led;
    }

abbrev pub still_had : (start : List Disk) (before now later : List Moment) → later ++ before ≡ now → (w : WorldState) (place address : ℕ) (orb : CommandOrb) → IsStillBrought start before w place address orb → IsHad start now before w place address orb
still_had start before now later e w place address orb x = record { named = named_over start before now later e place address orb x.named; initiator = x.initiator; there = x.there }

pub had_still : (start : List Disk) (before now : List Moment) (w v : WorldState) (place address : ℕ) (orb : CommandOrb) → initiator_in v place ≡ initiator_in w place → (x : IsHad start now before w place address orb) → prepared_in now x.named.i x.named.led.slot ≡ prepared_in before x.named.i x.named.led.slot → IsStillBrought start now v place address orb
had_still start before now w v place address orb same x e = record { named = x.named; initiator = x.initiator ∙ sym same; there = e ∙ x.there }

-- ---- slots
pub same_slot : (a b : ℕ) → start_of (windows.Orb a) ≡ start_of (windows.Orb b) → a ≡ b
same_slot a b e = omega (arith, e)

-- ---- where an agent has an ORB that was read, along its list
record IsAt (l : OrbList) (k least address : ℕ) : Type 0 where
  place : address ≡ l.address k
  linked : k < l.linked
  from : least ≤ k

knows_main : (phase : Phase) (l : OrbList) (p : Progress) (m : Machine) → Knows l p phase m → holds_read phase ≡ true → IsAt l p.ended p.ended m.present
knows_main phases.ReadingTable l p m k e = record { place = k.awaits.turn.place; linked = k.awaits.turn.linked; from = omega arith }
knows_main (phases.ReadingData wanted) l p m k e = record { place = k.awaits.turn.place; linked = k.awaits.turn.linked; from = omega arith }
knows_main phases.Answering l p m k e = record { place = k.told.turn.place; linked = k.told.turn.linked; from = omega arith }
knows_main phases.Reset l p m k e = untrue e
knows_main phases.Dead l p m k e = untrue e
knows_main phases.Fetching l p m k e = untrue e
knows_main phases.WritingStatus l p m k e = untrue e
knows_main phases.WritingLastStatus l p m k e = untrue e
knows_main phases.ReadingNext l p m k e = untrue e
knows_main phases.Suspended l p m k e = untrue e

pub same_offset : (a b : ℕ) → At a ≡ At b → a ≡ b
same_offset a b e = cc

knows_ahead : (phase : Phase) (l : OrbList) (p : Progress) (next : OrbPointer) (orb : CommandOrb) → KnowsAhead l p phase next (aheads.Kept orb) → (offset : ℕ) → next ≡ At offset → IsAt l (number_behind phase p.ended) p.ended (aligned offset)
knows_ahead phases.ReadingTable l p next orb k offset e =
    record { place = ap aligned (same_offset offset k.0.offset (sym e ∙ k.0.named)) ∙ k.0.place; linked = k.0.linked; from = omega arith }
knows_ahead (phases.ReadingData wanted) l p next orb k offset e =
    record { place = ap aligned (same_offset offset k.0.offset (sym e ∙ k.0.named)) ∙ k.0.place; linked = k.0.linked; from = omega arith }
knows_ahead phases.Answering l p next orb k offset e =
    record { place = ap aligned (same_offset offset k.0.offset (sym e ∙ k.0.named)) ∙ k.0.place; linked = k.0.linked; from = omega arith }
knows_ahead phases.WritingStatus l p next orb k offset e =
    record { place = ap aligned (same_offset offset k.0.offset (sym e ∙ k.0.named)) ∙ k.0.place; linked = k.0.linked; from = omega arith }
knows_ahead phases.Reset l p next orb k offset e = kept_idle orb k
knows_ahead phases.Dead l p next orb k offset e = kept_idle orb k
knows_ahead phases.Fetching l p next orb k offset e = kept_idle orb k
knows_ahead phases.WritingLastStatus l p next orb k offset e = kept_idle orb k
knows_ahead phases.ReadingNext l p next orb k offset e = kept_idle orb k
knows_ahead phases.Suspended l p next orb k offset e = kept_idle orb k

-- ---- its name, by its slot
module _ (units ready : ℕ) (has : 0 < units) (start : List Disk) {past : List Moment} {lines : ℕ} (w : WorldState) (h : Holding units ready start past lines w) (s : Site start past w) (lists : OpenLists (hist past w) w) (along : AreAlong (hist past w) w) (place : ℕ) (b : place < 8) (open_there : is_open_at w place ≡ true) (calm : IsCalm (hist past w) (initiator_in w place)) where
  abbrev ms : List Moment
  ms = hist past w

  abbrev pub i : ℕ
  i = initiator_in w place

  abbrev m : Machine
  m = machine_at w place

  abbrev pub o : IsOpenAt ms w place
  o = lists.listed place b open_there calm

  abbrev goes : GoesAlong ms i o.n m
  goes = along.all place b open_there calm o.n o.list

  abbrev pub ended : ℕ
  ended = ends ms i o.n

  name_at : (address slot k : ℕ) → address ≡ start_of (windows.Orb slot) → address ≡ address_of ms i o.n k → ended ≤ k → k < linked ms i o.n → prepared_in ms i slot ≡ Some (named_orb o.n k)
  name_at address slot k at e from within =
      let p = named_prepared units ready has start w h s place o.n k o.inside (o.named k from within) in
      subst (λ x. prepared_in ms i x ≡ Some (named_orb o.n k)) (same_slot _ slot (sym e ∙ at)) p.there

  pub main_name : holds_read m.phase ≡ true → (slot : ℕ) → m.present ≡ start_of (windows.Orb slot) → prepared_in ms i slot ≡ Some (named_orb o.n ended)
  main_name e slot at =
      let k = knows_main m.phase _ goes.progress m goes.along.main e in
      let same = goes.is in
      let from = k.from in
      let within = k.linked in
      name_at m.present slot ended at (k.place ∙ ap (address_of ms i o.n) same) (omega arith) (omega (arith, same, within))

  pub ahead_name : (orb : CommandOrb) → m.ahead ≡ aheads.Kept orb → (offset : ℕ) → m.orb.next ≡ At offset → (slot : ℕ) → aligned offset ≡ start_of (windows.Orb slot) → prepared_in ms i slot ≡ Some (named_orb o.n (number_behind m.phase ended))
  ahead_name orb kept offset next slot at =
      let k = knows_ahead m.phase _ goes.progress m.orb.next orb (subst (KnowsAhead _ goes.progress m.phase m.orb.next) kept goes.along.ahead) offset next in
      let same = goes.is in
      let number = ap (number_behind m.phase) same in
      let from = k.from in
      let within = k.linked in
      name_at (aligned offset) slot (number_behind m.phase ended) at (k.place ∙ ap (address_of ms i o.n) number) (subst (λ x. x ≤ number_behind m.phase ended) same (subst (λ x. goes.progress.ended ≤ x) number from)) (subst (λ x. x < linked ms i o.n) number within)
