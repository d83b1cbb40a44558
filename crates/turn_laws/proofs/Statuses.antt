-- In each turn of every run the initiator of an ORB that ends is sent the status of that end, where it finds a label, and no other write.
use Rattle.std.proofs.Common.{◌≡◌, ◌∙◌, refl, sym, ap, subst, ℕ, is_some, true, List, [], ◌∷◌, Option, Some, None, Result, Ok, Err}
use Rattle.bus_transactions.specs.Packets.{SerialsCount}
use Rattle.orb_layout.specs.declared.ask.Ask.{Ask}
use Rattle.orb_layout.specs.declared.ask.Ask.TheVariants.{Write}
use Rattle.orb_layout.specs.declared.status.StatusKind.{StatusKind}
use Rattle.orb_layout.specs.Pointers.{pointer_at}
use Rattle.rbc_disk.specs.Disk.{Disk}
use Rattle.rbc_disk.specs.Runs.{Told}
use Rattle.rbc_disk.specs.Units.{PlainDisk}
use Rattle.command_agent.specs.Machine.{Machine}
use Rattle.command_agent.specs.Steps.{asks, doorbell_step, point_step, reply_step}
use Rattle.command_agent.specs.declared.phase.Phase.{Phase}
use Rattle.command_agent.specs.declared.step.AgentStep.{AgentStep}
use Rattle.command_agent.specs.declared.step.PointRefusal.{PointRefusal}
use Rattle.command_agent.specs.declared.step.Which.TheVariants.{Main}
use Rattle.sbp_journal.specs.Addresses.{agent_reset, agent_state, doorbell, orb_pointer, unsolicited_enable}
use Rattle.sbp_laws.specs.Agents.{AgentTurn, Event, agent_event, agent_turn, by_doorbell, by_pointer, nothing, replies, target_before, told_among, untold_among, wire_before, writes}
use Rattle.sbp_laws.specs.LoginLaw.{HasLogins}
use Rattle.sbp_laws.specs.NoteKinds.{is_end_note, of_kind}
use Rattle.sbp_laws.specs.Progress.{progress}
use Rattle.sbp_laws.specs.SentWrites.{StatusesAreSent, end_in, end_writes, place_in, src_by, statuses_due}
use Rattle.sbp_laws.specs.Targets.{Reply, Target, agent_at, initiator_at, is_nothing, plain_for}
use Rattle.sbp_laws.specs.Turns.{Turn}
use Rattle.sbp_world.proofs.Lists.OrbSteps.{holds_read}
use Rattle.turn_laws.specs.Statuses.{StatusesLaw}
use Rattle.turn_laws.proofs.AgentDue.{HasTurn, TellsEnds, TellsFor, has_rest, has_steps}
use Rattle.turn_laws.proofs.EachTurns.{joined_law}
use Rattle.turn_laws.proofs.EndFound.{answering_is}
use Rattle.turn_laws.proofs.Ends.{tells_law}
use Rattle.turn_laws.proofs.EndShapes.{IsUnderWay, reply_shaped}
use Rattle.turn_laws.proofs.EndSizes.{IsNoWrite, ReadsIf, point_reads, ring_reads}
use Rattle.turn_laws.proofs.Handed.{AllInner}
use Rattle.turn_laws.proofs.Silent.{Calmly, calm_law, next_ended, next_held, read_here, src_same}
use Rattle.turn_laws.proofs.SilentTurns.{end_by_ends}
use Rattle.turn_laws.proofs.StatusSteps.{EndsAs, reply_ends}
use Rattle.turn_laws.proofs.StatusWrites.{statuses_sent}

-- a turn that ends no ORB
none_sent : (start : List Disk) (t : Turn) → of_kind is_end_note t.rest ≡ [] → StatusesAreSent start t
none_sent start t e = subst (λ x. end_writes t x ≡ statuses_due start t x) (sym (end_by_ends t.rest ∙ ap end_in e)) refl

-- ---- a reply: what the history has of the agent is so where its step writes
module _ (start : List Disk) (t : Turn) (calm : AllInner t.rest) (logins : HasLogins start t) (count : SerialsCount t.past) (reply : Reply) (event_is : agent_event start t ≡ replies reply) where
  abbrev B : Target
  B = target_before start t

  abbrev i : ℕ
  i = initiator_at B (wire_before t) reply.place

  abbrev plain : PlainDisk
  plain = plain_for B reply

  abbrev told : Option Told
  told = told_among i t.rest plain

  abbrev s : AgentStep × Machine
  s = reply_step (agent_at B reply.place).machine reply.place plain told reply.which reply.answer

  abbrev a : AgentTurn
  a = record { place = reply.place; untold = untold_among i t.rest plain (agent_at B reply.place).untold; which = reply.which; step = s.0; machine = s.1 }

  held : (ended : Option StatusKind) (ask : Ask) (phase : Phase) (offset len : ℕ) → ended ≡ None → ask ≡ Write offset len → IsUnderWay ended ask phase → holds_read phase ≡ true
  held ended ask phase offset len e f w =
      let u : IsUnderWay None (Write offset len) phase = subst (λ x. IsUnderWay x (Write offset len) phase) e (subst (λ x. IsUnderWay ended x phase) f w) in ap holds_read (answering_is phase u.1)

  next : (offset len : ℕ) → s.0.ask ≡ Write offset len → (progress start (t.start ∷ t.past) reply.place).next ≡ s.1.orb.next
  next offset len f = by s.0.ended refl
    where
      by : (ended : Option StatusKind) → s.0.ended ≡ ended → (progress start (t.start ∷ t.past) reply.place).next ≡ s.1.orb.next
      by (Some kind) e = next_ended start t calm logins count reply event_is (ap (λ (x : Option StatusKind). is_some x) e)
      by None e =
          let w = (reply_shaped (agent_at B reply.place).machine reply.place plain told reply.which reply.answer).1.1 in
          next_held start t calm logins count reply event_is (ap is_nothing f) (held s.0.ended s.0.ask s.1.phase offset len e f w)

  reply_sent : HasTurn start B t a → StatusesAreSent start t
  reply_sent (has_rest still none alone) = none_sent start t none
  reply_sent (has_steps step m login layer h) =
      statuses_sent start t a step m login layer h (reply_ends (agent_at B reply.place).machine reply.place plain told reply.which reply.answer) (ap place_in event_is)
      (λ offset len f tells. record { src = ap src_by (next offset len f) ∙ src_same s.1.orb.next; present = read_here start t calm logins count reply event_is tells })

-- ---- a turn that asks an agent: it writes nothing
wrote_none : {A : Type 0} (ask : Ask) (offset len : ℕ) → IsNoWrite ask → ask ≡ Write offset len → A
wrote_none ask offset len n e = absurd (subst IsNoWrite e n)

module _ (start : List Disk) (t : Turn) where
  abbrev T : Target
  T = target_before start t

  asks_sent : (a : AgentTurn) → a.step.ended ≡ None → IsNoWrite a.step.ask → place_in (agent_event start t) ≡ a.place → HasTurn start T t a → StatusesAreSent start t
  asks_sent a e n p (has_rest still none alone) = none_sent start t none
  asks_sent a e n p (has_steps step m login layer h) =
      statuses_sent start t a step m login layer h (subst (λ x. EndsAs x a.step a.machine) (sym e) tt) p (λ offset len f tells. wrote_none a.step.ask offset len n f)

  pointer_sent : (q : ℕ) (r : Result Ask PointRefusal × Machine) → ReadsIf r → place_in (agent_event start t) ≡ q → TellsFor start T t (by_pointer q (agent_at T q) r) → StatusesAreSent start t
  pointer_sent q (Err refusal, n) reads p h = none_sent start t h
  pointer_sent q (Ok ask, n) reads p h = asks_sent (record { place = q; untold = (agent_at T q).untold; which = Main; step = asks ask; machine = n }) refl reads p h

  ring_sent : (q : ℕ) (r : Ask × Machine) → IsNoWrite r.0 → place_in (agent_event start t) ≡ q → TellsFor start T t (by_doorbell q (agent_at T q) r) → StatusesAreSent start t
  ring_sent q (ask, n) reads p h = asks_sent (record { place = q; untold = (agent_at T q).untold; which = Main; step = asks ask; machine = n }) refl reads p h

-- ---- at each event
event_sent : (start : List Disk) (t : Turn) → AllInner t.rest → HasLogins start t → SerialsCount t.past → (e : Event) → agent_event start t ≡ e
    → TellsFor start (target_before start t) t (agent_turn e (target_before start t) (wire_before t) t.rest) → StatusesAreSent start t
event_sent start t calm logins count nothing is h = none_sent start t h
event_sent start t calm logins count (replies reply) is h = reply_sent start t calm logins count reply is h
event_sent start t calm logins count (writes agent_state q given) is h = none_sent start t h
event_sent start t calm logins count (writes agent_reset q given) is h = none_sent start t h
event_sent start t calm logins count (writes unsolicited_enable q given) is h = none_sent start t h
event_sent start t calm logins count (writes orb_pointer q given) is h =
    let T = target_before start t in
    pointer_sent start t q (point_step (agent_at T q).machine (pointer_at given.payload 0)) (point_reads (agent_at T q).machine (pointer_at given.payload 0)) (ap place_in is) h
event_sent start t calm logins count (writes doorbell q given) is h =
    let T = target_before start t in ring_sent start t q (doorbell_step (agent_at T q).machine) (ring_reads (agent_at T q).machine) (ap place_in is) h

pub statuses_law : StatusesLaw
statuses_law =
    joined_law Calmly TellsEnds StatusesAreSent
    (λ start t c h. event_sent start t c.0 c.1.0 c.1.1 (agent_event start t) refl h) calm_law tells_law
