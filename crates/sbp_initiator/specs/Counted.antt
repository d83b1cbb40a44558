-- What an action counts.
use Rattle.std.specs.Prelude.{◌≡◌, ◌≤◌, ◌<◌, ◌+◌, ◌*◌, ◌^◌, ℕ}
use Rattle.sbp_initiator.specs.declared.state.InitiatorState.{InitiatorState}

-- An action that is done: each number that it may use up rises by one at most, and the slots and the labels count so many
-- calls at most.
pub record Acts (slots labels : ℕ) (old new : InitiatorState) : Type 0 where
  pub managed : new.counts.managed ≤ old.counts.managed + 1
  pub logins : new.counts.logins ≤ old.counts.logins + 1
  pub running : new.counts.running ≤ old.counts.running + 1
  pub calls : new.counts.calls ≡ old.counts.calls
  pub acts : new.counts.acts ≡ old.counts.acts
  pub prepared : new.lists.slots.acts ≤ old.lists.slots.acts + 1
  pub called : new.lists.slots.calls ≤ old.lists.slots.calls + slots
  pub labelled : new.layer.calls ≤ old.layer.calls + labels

-- The numbers that an action may use up have room, and so have the counts of slots and labels.
pub record HasRoom (s : InitiatorState) : Type 0 where
  pub managed : s.counts.managed + 1 < 2 ^ 32
  pub logins : s.counts.logins + 1 < 2 ^ 32
  pub running : s.counts.running + 1 < 2 ^ 32
  pub prepared : s.lists.slots.acts < 2 ^ 31
  pub called : s.lists.slots.calls < 2 ^ 55
  pub labelled : s.layer.calls < 2 ^ 55

-- A call: what it uses up it counts, as an action or as a call.
pub record Counts (old new : InitiatorState) : Type 0 where
  pub managed : new.counts.managed + old.counts.acts ≤ old.counts.managed + new.counts.acts
  pub logins : new.counts.logins + old.counts.acts ≤ old.counts.logins + new.counts.acts
  pub running : new.counts.running + old.counts.acts ≤ old.counts.running + new.counts.acts
  pub prepared : new.lists.slots.acts + old.counts.acts ≤ old.lists.slots.acts + new.counts.acts
  pub called : new.lists.slots.calls + 4 * old.counts.calls ≤ old.lists.slots.calls + 4 * new.counts.calls
  pub labelled : new.layer.calls + 4 * old.counts.calls ≤ old.layer.calls + 4 * new.counts.calls

-- What an initiator counts of its parts is no more than its own actions and calls allow.
pub record IsSound (s : InitiatorState) : Type 0 where
  pub managed : s.counts.managed ≤ s.counts.acts
  pub logins : s.counts.logins ≤ s.counts.acts + 1
  pub running : s.counts.running ≤ s.counts.acts + 1
  pub prepared : s.lists.slots.acts ≤ s.counts.acts
  pub called : s.lists.slots.calls ≤ 4 * s.counts.calls
  pub labelled : s.layer.calls ≤ 4 * s.counts.calls
