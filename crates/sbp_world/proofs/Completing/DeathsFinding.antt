-- A write that an agent asks for behind a response finds a label, as it fits a request: what it writes is bytes, at an address of 48 bits.
use Rattle.sbp_world.proofs.Words.Std.{◌≡◌, sym, subst, ℕ, is_some, Bool, true, false, cond, List, ◌∷◌, ◌++◌, length, map, nat_le, Some, None}
use Rattle.sbp_world.proofs.Words.Wire.{Body, FitsRequest, Layer, Moment, asked, block_write, judging_step, largest, said}
use Rattle.sbp_world.proofs.Words.Target.{Disk, Main, Purpose, agent_body, answer_in, login_at, plain_in, reply_step}
use Rattle.sbp_world.proofs.Words.Initiator.{Ask, Write}
use Rattle.sbp_world.proofs.Words.World.{BytesTold, IsTame, WorldState, after, after_all, beginning, begun, history_of, machine_at, more_deliveries}
use Rattle.bus_transactions.proofs.FitJudged.{bytes_of, spelled}
use Rattle.sbp_target.proofs.Histories.Found.{IsFound, IsRead, found as found_as}
use Rattle.sbp_world.specs.Completing.Deaths.{FindingLaw, WritesFind}
use Rattle.sbp_world.specs.Completing.LabelsAsked.{MayAsk, nothing, other}
use Rattle.sbp_world.specs.Completing.LabelsFollowing.{FindsNext}
use Rattle.sbp_world.specs.Completing.LabelsFound.{Serves}
use Rattle.sbp_world.proofs.Agents.AskedAgents.{fifo_fits}
use Rattle.sbp_world.proofs.Agents.Management.Holding.{Holding, ours}
use Rattle.sbp_world.proofs.Agents.Management.Still.{hist}
use Rattle.sbp_world.proofs.Completing.LabelsAgents.{next_law}
use Rattle.sbp_world.proofs.Completing.LabelsPlaces.{IsHolding, holding_everywhere}
use Rattle.sbp_world.proofs.FitTarget.Agents.{FitsStep, reply_fits}
use Rattle.sbp_world.proofs.FitTarget.Demands.{answer_small}
use Rattle.sbp_world.proofs.FitTarget.Nodes.{IfBody, agent_body_fits}
use Rattle.sbp_world.proofs.Wire.Holding.{KnownTo}
use Rattle.sbp_world.proofs.Wire.ToldBytes.{told_fits}

may_by : (b : Bool) (layer : Layer Purpose) (peer : ℕ) (body : Body) → IfBody (cond b (Some body) None) → (FitsRequest body → Serves layer peer body) → MayAsk layer peer (cond b (Some body) None)
may_by true layer peer body fits f = other body (f fits)
may_by false layer peer body fits f = nothing

may_ask : (layer : Layer Purpose) (peer : ℕ) (ask : Ask) (offset size : ℕ) (ended : Bool) (fifo : ℕ) (outgoing : List ℕ) → ask ≡ Write offset size → IfBody (agent_body ask ended fifo outgoing) → (FitsRequest (block_write (cond ended fifo offset) outgoing) → Serves layer peer (block_write (cond ended fifo offset) outgoing)) → MayAsk layer peer (agent_body ask ended fifo outgoing)
may_ask layer peer ask offset size ended fifo outgoing e fits f =
    subst (λ x. MayAsk layer peer (agent_body x ended fifo outgoing)) (sym e)
    (may_by (nat_le (length outgoing) largest) layer peer (block_write (cond ended fifo offset) outgoing) (subst (λ x. IfBody (agent_body x ended fifo outgoing)) e fits) f)

-- ---- a place
module _ (units ready : ℕ) (start : List Disk) {past : List Moment} {lines : ℕ} (w : WorldState) (h : Holding units ready start past lines w) (tame : IsTame (hist past w)) (serves : FindsNext (hist past w) w) where
  writes_find : WritesFind w
  writes_find sent packet place login r there run media may offset size e =
      let f = r.comes in
      let found : IsRead sent.bytes packet true = subst (λ x. IsFound x w.target.layer (judging_step w.target.layer sent.generation sent.bytes).1 sent.bytes) r.found (found_as w.target.layer sent.generation sent.bytes) in
      let small = (ours w h.sound.stands f.serial sent f.found).bytes in
      let told : BytesTold run = told_fits true run sent (record { world = w; media = media }) may in
      let plain = plain_in w.target.units media.disks login.unit in
      let s = reply_step (machine_at w place) place plain run Main (answer_in packet) in
      let fits : FitsStep s = reply_fits (machine_at w place) place plain run Main (answer_in packet) told (answer_small packet (bytes_of packet sent.bytes (spelled sent.bytes packet found.read) small)) (h.sound.nodes.target_holds.fits.agents place) in
      let fifo = fifo_fits (KnownTo w.generations.seen) (login_at w.target place) login there (h.sound.nodes.target_holds.fits.logins place) in
      may_ask (judging_step w.target.layer sent.generation sent.bytes).1 login.node s.0.ask offset size (is_some s.0.ended) login.fifo s.1.outgoing e
      (agent_body_fits s.0.ask (is_some s.0.ended) login.fifo s.1.outgoing fits.ask fifo fits.agent.outgoing)
      (λ x. serves tame sent packet place login r there plain run (answer_in packet) offset size e x)

place_finds : (start : List Disk) (now : List Moment) (w : WorldState) → IsHolding start now w → IsTame now → FindsNext now w → WritesFind w
place_finds start now w h tame serves =
    let back = sym h.is in
    writes_find h.units h.ready start w h.holds (subst IsTame back tame) (subst (λ ms. FindsNext ms w) back serves)

-- ---- each place of a run
pub finding_law : FindingLaw
finding_law = record {
  after_lines = λ line run r has small size tame legal l few.
      place_finds run.start.disks (history_of line run) (after (beginning run) run.entries).world (holding_everywhere.after_lines line run r has small size) tame (next_law.after_lines line run r has small size);
  between = λ line run r has small size next most told m tame legal l few.
      let event = more_deliveries most in
      let w = (after_all told (begun (after (beginning run) run.entries))).world in
      place_finds run.start.disks (map said w.fresh ++ asked next event ∷ history_of line run) w (holding_everywhere.between line run r has small size next most told m) tame
      (next_law.between line run r has small size next most told m);
}
