-- What the target tells in a call has each end as failed or illegal directly behind the death of its agent.
use Rattle.std.proofs.Common.{◌≡◌, refl, ℕ, List, [], ◌∷◌, ◌++◌, length, Option, Some, None}
use Rattle.async_packet.specs.Labels.{LabelParts}
use Rattle.label_table.specs.Layer.{judging_step}
use Rattle.orb_layout.specs.declared.ask.Ask.{Ask}
use Rattle.orb_layout.specs.declared.ask.FailCause.{FailCause}
use Rattle.orb_layout.specs.declared.status.StatusKind.{StatusKind}
use Rattle.orb_layout.specs.declared.status.StatusKind.TheVariants as kinds
use Rattle.orb_layout.specs.Replies.{Answer}
use Rattle.rbc_disk.specs.declared.command.Outcome.{Outcome}
use Rattle.rbc_disk.specs.Held.{Held}
use Rattle.rbc_disk.specs.Runs.{Told}
use Rattle.command_agent.specs.declared.step.AgentStep.{AgentStep}
use Rattle.command_agent.specs.declared.step.Which.{Which}
use Rattle.command_agent.specs.Machine.{Machine}
use Rattle.command_agent.specs.Steps.{asks}
use Rattle.sbp_journal.specs.declared.side.Side.{Side}
use Rattle.sbp_journal.specs.declared.side.Side.TheVariants as sides
use Rattle.sbp_journal.specs.Outgoings.{OutboxState, empty_outbox}
use Rattle.sbp_target.specs.Agents.{noted}
use Rattle.sbp_target.specs.Nodes.{NodeState, Scene, desk_at, scene}
use Rattle.sbp_target.specs.Receiving.{expired, received, seen, ticked, with_layer}
use Rattle.sbp_target.specs.Replies.{Stage, agent_step, plain_at}
use Rattle.sbp_target.specs.Telling.{orb_of, tell_dead, tell_ended, tell_ran, tell_step}
use Rattle.sbp_world.specs.Delivering.{whole_of}
use Rattle.turn_laws.proofs.FaultSteps.{Deadly, IsSound, lost_sound, reply_sound}
use Rattle.sbp_target.specs.Histories.Moves.{Moves, Plain, announced, back, cleared, departed, failed, fitting, held, lapsed, managed, opened, unsent, was_cut}
use Rattle.sbp_target.proofs.Histories.Moved.{fits_in}
use Rattle.sbp_target.proofs.Histories.Views.{expired_by, received_by, seen_by, steps_kept, ticked_by}

-- ---- each fault directly behind the death of its place
-- whose agent died in a side
abbrev pub died_in : Side → Option ℕ
died_in (sides.Dead place cause) = Some place
died_in side = None

abbrev pub MayEnd : Option ℕ → Side → Type 0
MayEnd died (sides.Ended place orb kinds.Failed) = died ≡ Some place
MayEnd died (sides.Ended place orb (kinds.Illegal meaning)) = died ≡ Some place
MayEnd died side = Unit {0}

abbrev pub Paired : Option ℕ → List Side → Type 0
Paired died [] = Unit {0}
Paired died (side ∷ later) = MayEnd died side × Paired (died_in side) later

-- no fault
abbrev IsFree : Side → Type 0
IsFree (sides.Ended place orb status) = Deadly None (Some status)
IsFree side = Unit {0}

free_end : (died : Option ℕ) (place orb : ℕ) (status : StatusKind) → Deadly None (Some status) → MayEnd died (sides.Ended place orb status)
free_end died place orb kinds.Good f = tt
free_end died place orb (kinds.Check sense) f = tt
free_end died place orb kinds.Dummy f = tt
free_end died place orb kinds.Aborted f = tt
free_end died place orb (kinds.Illegal meaning) f = absurd f
free_end died place orb kinds.Failed f = absurd f
free_end died place orb (kinds.Management meaning) f = tt

free_side : (died : Option ℕ) (side : Side) → IsFree side → MayEnd died side
free_side died (sides.Ended place orb status) f = free_end died place orb status f
free_side died side f = tt

paired_more : (died : Option ℕ) (told : List Side) (side : Side) → IsFree side → Paired died told → Paired died (told ++ side ∷ [])
paired_more died [] side f h = (free_side died side f, tt)
paired_more died (first ∷ told) side f h = (h.0, paired_more (died_in first) told side f h.1)

-- a death, and the end that it brings
dead_end : (place orb : ℕ) (status : StatusKind) → MayEnd (Some place) (sides.Ended place orb status)
dead_end place orb kinds.Good = tt
dead_end place orb (kinds.Check sense) = tt
dead_end place orb kinds.Dummy = tt
dead_end place orb kinds.Aborted = tt
dead_end place orb (kinds.Illegal meaning) = refl
dead_end place orb kinds.Failed = refl
dead_end place orb (kinds.Management meaning) = tt

paired_two : (died : Option ℕ) (told : List Side) (place orb : ℕ) (cause : FailCause) (status : StatusKind) → Paired died told → Paired died ((told ++ sides.Dead place cause ∷ []) ++ sides.Ended place orb status ∷ [])
paired_two died [] place orb cause status h = (tt, (dead_end place orb status, tt))
paired_two died (first ∷ told) place orb cause status h = (h.0, paired_two (died_in first) told place orb cause status h.1)

-- ---- what calls tell
abbrev P : List Side → Type 0
P told = Paired None told

tells : (told : List Side) (side : Side) → IsFree side → P told → P (told ++ side ∷ [])
tells told side f h = paired_more None told side f h

abbrev At : Scene → Type 0
At s = P s.outbox.sides

ran_tells : (place : ℕ) (m : Machine) (x : Option Outcome) (o : OutboxState) → P o.sides → P (tell_ran place m x o).sides
ran_tells place m None o h = h
ran_tells place m (Some outcome) o h = tells o.sides (sides.Ran place (orb_of m) m.orb.cdb m.payload outcome) tt h

end_tells : (place : ℕ) (m : Machine) (dead : Option FailCause) (ended : Option StatusKind) (o : OutboxState) → Deadly dead ended → P o.sides → P (tell_ended place m ended (tell_dead place dead o)).sides
end_tells place m None None o d h = h
end_tells place m None (Some status) o d h = tells o.sides (sides.Ended place (orb_of m) status) d h
end_tells place m (Some cause) None o d h = tells o.sides (sides.Dead place cause) tt h
end_tells place m (Some cause) (Some status) o d h = paired_two None o.sides place (orb_of m) cause status h

sound_tells : (place : ℕ) (step : AgentStep) (s : Scene) → IsSound step → At s → At (noted place step s)
unfolding noted tell_step
sound_tells place step s d h = let m = (desk_at s.node place).agent in end_tells place m step.dead step.ended (tell_ran place m step.ran s.outbox) d (ran_tells place m step.ran s.outbox h)

free_plain : (side : Side) → Plain (fitting IsSound) side → IsFree side
free_plain _ (was_cut place cause t) = tt
free_plain _ (opened place orb t) = tt
free_plain _ (announced place t) = tt
free_plain _ (unsent place t) = tt
free_plain _ (failed source cause t) = tt
free_plain _ (managed source function subject status login t) = tt
free_plain _ (cleared unit t) = tt
free_plain _ (back login t) = tt
free_plain _ (departed login t) = tt
free_plain _ (held login t) = tt
free_plain _ (lapsed login t) = tt

pairs : (node : NodeState) (s : Scene) → Moves (fitting IsSound) (scene node empty_outbox) s → At s
pairs node s m = steps_kept (fitting IsSound) P sound_tells (λ told side t h. tells told side (free_plain side t) h) (scene node empty_outbox) s m tt

asked_sound : (ask : Ask) → IsSound (asks ask)
asked_sound ask = tt

replied_sound : (run : Option Told) (place unit : ℕ) (which : Which) (answer : Answer) (s : Stage) → IsSound (agent_step run place unit which answer s).0
replied_sound run place unit which answer s = reply_sound (desk_at s.node place).agent place (plain_at s unit) run which answer

-- ---- a call
module _ (node : NodeState) (size : length node.desks ≡ 8) where
  pub delivery_pairs : (run : Option Told) (generation : ℕ) (bytes : List ℕ) (media : Held) → Paired None (received run generation bytes (whole_of node media)).1.outbox.sides
  delivery_pairs run generation bytes media =
      let w = whole_of node media in
      let found = judging_step node.layer generation bytes in
      pairs node _ (received_by IsSound asked_sound lost_sound run generation bytes w (fits_in (fitting IsSound) replied_sound run found.0 (with_layer found.1 w)))

  pub lapse_pairs : (peer : ℕ) (label : LabelParts) → Paired None (expired peer label (scene node empty_outbox)).1.outbox.sides
  lapse_pairs peer label = pairs node _ (expired_by IsSound asked_sound lost_sound peer label (scene node empty_outbox))

  pub sight_pairs : (generation id : ℕ) → Paired None (seen generation id (scene node empty_outbox)).1.outbox.sides
  sight_pairs generation id = pairs node _ (seen_by IsSound asked_sound lost_sound generation id (scene node empty_outbox))

  pub second_pairs : Paired None (ticked (scene node empty_outbox)).outbox.sides
  second_pairs = pairs node _ (ticked_by IsSound asked_sound lost_sound (scene node empty_outbox))
