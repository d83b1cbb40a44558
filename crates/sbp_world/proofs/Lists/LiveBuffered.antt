-- While the target writes a status block, or one waits, a turn that is none of the target leaves the response buffers of the initiator: in a run in which no initiator
-- injected packets.
use Rattle.sbp_world.proofs.Words.Std.{◌≡◌, ◌∙◌, sym, subst, ◌⊎◌, inl, inr, ◌<◌, length}
use Rattle.sbp_world.proofs.Words.Initiator.{Running}
use Rattle.sbp_world.proofs.Words.Laws.{host_at}
use Rattle.sbp_world.proofs.Words.World.{initiator_at, AreReplied}
use Rattle.sbp_world.proofs.Agents.Management.Still.{hist}
use Rattle.sbp_world.proofs.Lists.BufferTurns.{buffers_same, status_stays, told_stays}
use Rattle.sbp_world.proofs.Lists.KeptTurns.{id_is, operation_is, own_is, zero_is}
use Rattle.sbp_world.proofs.Lists.LiveJoined.{BufferTurns}
use Rattle.sbp_world.proofs.Lists.LiveRuns.{done_of, goes_beside, goes_size}
use Rattle.sbp_world.proofs.Lists.LiveSteps.{GaveUpOf}

pub buffer_turns : BufferTurns
buffer_turns units ready start past s later t lines more has g h h_now q q_now p i inside beside bus same away keeps up =
    let w = s.world in
    let v = t.world in
    let before = hist past w in
    let now = hist later v in
    let within : i < length v.initiators = subst (λ n. i < n) (sym (goes_size past s later t g)) inside in
    let was_beside = goes_beside past s later t g i beside in
    let so = q.more.buffers i inside (done_of start before w p i inside was_beside) in
    let sources = q_now.more.sources i within in
    let all : AreReplied start before i = replied_in (q.more.replied i inside was_beside.0 ((p i inside).grown.based was_beside)) in
    let same_in = λ (e : (host_at now i).responses ≡ (host_at before i).responses) (running : Running).
    buffers_same before now i (initiator_at w i) (initiator_at v i) (q.more.holds i inside) (q_now.more.holds i within) e running in
    record {
      status = λ was op is source phase running e.
          same_in (status_stays units ready start past s later t g h h_now i inside within away bus sources so all op (operation_is units ready has start w h i inside ∙ is)
          (zero_is units ready has start w h i inside ∙ was ∙ sym (own_is units ready has start w h i inside)) (source ∙ sym (id_is units ready has start w h i inside)) phase) running;
      told = λ orb bytes x running e. same_in (told_stays units ready start past s later t g h h_now i inside within away bus sources so all x.serial x.place x.telling) running;
    }
  where
    replied_in : GaveUpOf s.world i ⊎ AreReplied start (hist past s.world) i → AreReplied start (hist past s.world) i
    replied_in (inl gave) = absurd (up gave)
    replied_in (inr all) = all
