-- A list that grows keeps an agent along it.
use Rattle.std.proofs.Common.{ap, ◌∙◌, ℕ, suc, ◌<◌, ◌≤◌, List, arith}
use Rattle.orb_layout.specs.declared.command.CommandOrb.{CommandOrb}
use Rattle.orb_layout.specs.declared.pointer.OrbPointer.{OrbPointer}
use Rattle.orb_layout.specs.declared.pointer.OrbPointer.TheVariants.{Null, At}
use Rattle.page_table.specs.declared.segment.Segment.{Segment}
use Rattle.command_agent.specs.declared.phase.Phase.{Phase}
use Rattle.command_agent.specs.declared.phase.Phase.TheVariants as phases
use Rattle.command_agent.specs.declared.phase.ReadAhead.{ReadAhead}
use Rattle.command_agent.specs.declared.phase.ReadAhead.TheVariants as aheads
use Rattle.orb_layout.specs.StatusBlocks.{status_bytes}
use Rattle.command_agent.specs.Machine.{Machine}
use Rattle.command_agent.specs.Steps.{src_of}
use Rattle.agent_laws.specs.Along.Lists.{OrbList, Leads, IsGood, Grows}
use Rattle.agent_laws.specs.Along.Along.{Progress, IsNext, Awaits, HasTold, IsOver, Writing, Knows, IsNamed, ReadsAhead, KnowsAhead}
use Rattle.agent_laws.specs.Along.Steps.{GrowsLaw}

linked_still : (l more : OrbList) (k : ℕ) → Grows l more → k < l.linked → k < more.linked
linked_still l more k g n = let h : l.linked ≤ more.linked = g.linked in omega arith

leads_still : (l more : OrbList) (k : ℕ) (next : OrbPointer) → Grows l more → Leads l k next → Leads more k next
leads_still l more k Null g n = tt
leads_still l more k (At offset) g n = (n.0 ∙ g.address (suc k) n.1, linked_still l more (suc k) g n.1)

good_still : (l more : OrbList) (k : ℕ) (orb : CommandOrb) → Grows l more → k < l.linked → IsGood l k orb → IsGood more k orb
good_still l more k orb g n i = record { own = g.orb k n orb i.own; leads = leads_still l more k orb.next g i.leads }

next_still : (l more : OrbList) (ended answered at : ℕ) → Grows l more → IsNext l ended answered at → IsNext more ended answered at
next_still l more ended answered at g t = record { place = t.place ∙ g.address ended t.linked; linked = linked_still l more ended g t.linked; all = t.all }

awaits_still : (l more : OrbList) (p : Progress) (at : ℕ) (orb : CommandOrb) → Grows l more → Awaits l p at orb → Awaits more p at orb
awaits_still l more p at orb g a = record {
  turn = next_still l more p.ended p.answered at g a.turn;
  unrun = a.unrun;
  good = good_still l more p.ended orb g a.turn.linked a.good;
  proper = a.proper;
}

told_still : (l more : OrbList) (p : Progress) (at : ℕ) (orb : CommandOrb) (segments : List Segment) (answer : List ℕ) (written : ℕ) → Grows l more → HasTold l p at orb segments answer written → HasTold more p at orb segments answer written
told_still l more p at orb segments answer written g t = record {
  turn = next_still l more p.ended p.answered at g t.turn;
  good = good_still l more p.ended orb g t.turn.linked t.good;
  proper = t.proper;
  buffer = g.buffer p.ended t.turn.linked orb segments t.buffer;
  ran = t.ran;
  told = t.told;
  whole = t.whole;
  done = t.done;
  within = t.within;
}

over_still : (l more : OrbList) (p : Progress) (at : ℕ) (next : OrbPointer) → Grows l more → IsOver l p at next → IsOver more p at next
over_still l more p at next g o = record {
  last = o.last;
  ended = o.ended;
  place = o.place ∙ g.address o.last o.linked;
  linked = linked_still l more o.last g o.linked;
  leads = leads_still l more o.last next g o.leads;
  unrun = o.unrun;
}

writing_still : (l more : OrbList) (p : Progress) (at : ℕ) (next : OrbPointer) (outgoing : List ℕ) → Grows l more → Writing l p at next outgoing → Writing more p at next outgoing
unfolding over_still
writing_still l more p at next outgoing g w = record {
  over = over_still l more p at next g w.over;
  others = w.others;
  src = w.src;
  kind = w.kind;
  block = w.block ∙ ap (λ (place : ℕ). status_bytes (record { src = src_of next; kind = w.kind; orb = place })) (g.address w.over.last w.over.linked);
}

knows_still : (phase : Phase) (l more : OrbList) (p : Progress) (m : Machine) → Grows l more → Knows l p phase m → Knows more p phase m
knows_still phases.Fetching l more p m g k = record { turn = next_still l more p.ended p.answered m.present g k.turn; unrun = k.unrun; unread = k.unread; empty = k.empty }
knows_still phases.ReadingTable l more p m g k = record { awaits = awaits_still l more p m.present m.orb g k.awaits; reads = k.reads; empty = k.empty }
knows_still (phases.ReadingData wanted) l more p m g k = record { awaits = awaits_still l more p m.present m.orb g k.awaits; part = g.part p.ended k.awaits.turn.linked m.orb m.segments m.payload k.part; buffer = g.buffer p.ended k.awaits.turn.linked m.orb m.segments k.buffer; whole = k.whole }
knows_still phases.Answering l more p m g k = record { told = told_still l more p m.present m.orb m.segments m.answer m.written g k.told; bytes = k.bytes }
knows_still phases.WritingStatus l more p m g k = writing_still l more p m.present m.orb.next m.outgoing g k
knows_still phases.WritingLastStatus l more p m g k = writing_still l more p m.present m.orb.next m.outgoing g k
knows_still phases.ReadingNext l more p m g k = record { over = over_still l more p m.present m.orb.next g k.over; all = k.all; null = k.null; src = k.src }
knows_still phases.Suspended l more p m g k = record { over = over_still l more p m.present m.orb.next g k.over; all = k.all; null = k.null; src = k.src }
knows_still _ l more p m g k = tt

named_still : (l more : OrbList) (k : ℕ) (next : OrbPointer) → Grows l more → IsNamed l k next → IsNamed more k next
named_still l more k next g n = record { offset = n.offset; named = n.named; place = n.place ∙ g.address k n.linked; linked = linked_still l more k g n.linked }

reads_still : (ahead : ReadAhead) (l more : OrbList) (k : ℕ) (next : OrbPointer) → Grows l more → ReadsAhead l k next ahead → ReadsAhead more k next ahead
reads_still aheads.Idle l more k next g h = tt
reads_still (aheads.UnderWay rung) l more k next g h = named_still l more k next g h
reads_still (aheads.Kept orb) l more k next g h = (named_still l more k next g h.0, good_still l more k orb g h.0.linked h.1)

ahead_still : (phase : Phase) (l more : OrbList) (p : Progress) (next : OrbPointer) (ahead : ReadAhead) → Grows l more → KnowsAhead l p phase next ahead → KnowsAhead more p phase next ahead
ahead_still phases.ReadingTable l more p next ahead g h = reads_still ahead l more (suc p.ended) next g h
ahead_still (phases.ReadingData wanted) l more p next ahead g h = reads_still ahead l more (suc p.ended) next g h
ahead_still phases.Answering l more p next ahead g h = reads_still ahead l more (suc p.ended) next g h
ahead_still phases.WritingStatus l more p next ahead g h = reads_still ahead l more p.ended next g h
ahead_still _ l more p next ahead g h = h

pub grown : (l more : OrbList) → GrowsLaw l more
grown l more p m g a = record { main = knows_still m.phase l more p m g a.main; ahead = ahead_still m.phase l more p m.orb.next m.ahead g a.ahead }
