-- What the target gets in answer to its management operation, in runs in which nobody injected packets (IEEE 1394-1995, split transactions; NCITS 325-1998, management agent): where nothing was
-- lost since the latest reset, the response to the request that the operation waits for is whole, as it is in flight: a read brings as many bytes as its phase waits for, and a write is answered
-- complete. And what the operation asks for behind it finds a label.
use Rattle.std.specs.Prelude.{◌≡◌, ◌<◌, ℕ, suc, true, List, ◌∷◌, ◌++◌, length, Some}
use Rattle.async_packet.specs.Labels.{LabelParts}
use Rattle.async_packet.specs.Packet.{Packet}
use Rattle.bus_memory.specs.Windows.{is_fifo}
use Rattle.label_table.specs.Bodies.{Body}
use Rattle.label_table.specs.Layer.{Layer, disowning_step, judging_step, of_response}
use Rattle.mgmt_agent.specs.Machine.{reply_step}
use Rattle.mgmt_agent.specs.declared.operation.Operation.{Operation}
use Rattle.mgmt_agent.specs.declared.operation.Phase.TheVariants as phases
use Rattle.packet_store.specs.declared.sent.Sent.{Sent}
use Rattle.rbc_disk.specs.Disk.{Disk}
use Rattle.sbp_journal.specs.Addresses.{Access}
use Rattle.sbp_journal.specs.Run.{Moment, said}
use Rattle.sbp_journal.specs.Wire.{terms}
use Rattle.sbp_journal.specs.declared.cause.Cause.{Cause}
use Rattle.sbp_journal.specs.declared.note.Note.TheVariants as notes
use Rattle.sbp_laws.specs.Hosts.{host_at}
use Rattle.sbp_laws.specs.Packets.{access_at, id_for}
use Rattle.sbp_laws.specs.Targets.{target_at}
use Rattle.sbp_target.specs.Management.{manager_body}
use Rattle.sbp_target.specs.Receiving.{answer_in}
use Rattle.sbp_target.specs.declared.purpose.Purpose.{Purpose}
use Rattle.sbp_target.specs.declared.purpose.Purpose.TheVariants as purposes
use Rattle.sbp_world.specs.Completing.Deaths.{AreFewNow}
use Rattle.sbp_world.specs.Completing.Labels.{AlwaysFrom, LosesNothing}
use Rattle.sbp_world.specs.Completing.LabelsAsked.{MayAsk}
use Rattle.sbp_world.specs.Completing.ManagedRefusals.{IsShut, is_hard}
use Rattle.sbp_world.specs.Completing.OperationsReplies.{IsWhole}
use Rattle.sbp_world.specs.Lists.Needs.{IsFor}
use Rattle.sbp_world.specs.Lists.OwnLogins.{IsTame}
use Rattle.sbp_world.specs.Worlds.{WorldState}

-- ---- a response in flight
-- it is one to the request that the management operation waits for
pub record IsManagedReply (w : WorldState) (sent : Sent) (packet : Packet) : Type 0 where
  pub comes : IsFor w sent
  pub label : LabelParts
  pub found : (judging_step w.target.layer sent.generation sent.bytes).0 ≡ of_response packet label (Some purposes.Management)

-- it is whole for what the operation waits for
abbrev pub AreManagedGiven : WorldState → Type 0
AreManagedGiven w = (sent : Sent) (packet : Packet) → IsManagedReply w sent packet → (op : Operation) → w.target.manager.operation ≡ Some op → IsWhole op.phase (answer_in packet)

-- but for the response to its status block
abbrev pub AreManagedGivenBefore : WorldState → Type 0
AreManagedGivenBefore w = (sent : Sent) (packet : Packet) → IsManagedReply w sent packet → (op : Operation) → w.target.manager.operation ≡ Some op → (op.phase ≡ phases.Status → ⊥) → IsWhole op.phase (answer_in packet)

-- So it is in every run in which nobody injected packets, whatever was lost.
abbrev pub GivenBeforeLaw : Type 0
GivenBeforeLaw = AlwaysFrom (λ start past w. IsTame past → AreManagedGivenBefore w)

-- The FIFO that the operation writes its status block to is one, and is open whenever the initiator ignores the block for a cause that is answered with an error.
pub record IsOpenFor (past : List Moment) (i ask offset : ℕ) : Type 0 where
  pub fifo : is_fifo offset ≡ true
  pub opens : (later earlier : List Moment) (cause : Cause) → later ++ said (notes.Ignored ask cause) ∷ earlier ≡ past → is_hard cause ≡ true → IsShut (host_at earlier i) offset → ⊥

abbrev pub AreStatusesOpen : List Disk → List Moment → WorldState → Type 0
AreStatusesOpen start past w =
    (op : Operation) (i ask : ℕ) (access : Access) → (target_at start past).manager.operation ≡ Some op → op.phase ≡ phases.Status → i < length w.initiators → op.source ≡ id_for (terms past) 0 (suc i) → (target_at start past).manages ≡ Some ask → access_at (terms past) ask ≡ Some access → IsOpenFor past i ask access.offset

-- Then the response to the status block is whole too.
abbrev pub GivenWhereOpenLaw : Type 0
GivenWhereOpenLaw = AlwaysFrom (λ start past w. IsTame past → AreStatusesOpen start past w → AreManagedGiven w)

-- ---- what is asked for behind it
-- a layer that gave transactions up
pub data GaveUp (first : Layer Purpose) : Layer Purpose → Type 0 where
  none_yet : GaveUp first first
  one_more : (layer : Layer Purpose) (other : ℕ) (label : LabelParts) → GaveUp first layer → GaveUp first (disowning_step layer other label)

-- What the operation asks for finds a label: the lists that it ends give their transactions up before.
abbrev pub ManagedFinds : WorldState → Type 0
ManagedFinds w =
    (sent : Sent) (packet : Packet) → IsManagedReply w sent packet → (op : Operation) → w.target.manager.operation ≡ Some op
    → (let s = reply_step w.target.manager w.target.logins w.target.keys (answer_in packet) in (body : Body) → manager_body s.0.ask s.1.0.outgoing ≡ Some body → (layer : Layer Purpose) → GaveUp (judging_step w.target.layer sent.generation sent.bytes).1 layer → MayAsk layer op.source (Some body))

-- So it is in every run in which nobody injected packets.
abbrev pub FindsLaw : Type 0
FindsLaw = AlwaysFrom (λ start past w. IsTame past → ManagedFinds w)

-- ---- at a place
-- where nobody injected packets, nothing was lost since the latest reset, and few requests of lists that were cut are under way
abbrev pub ManagedGivenThere : List Disk → List Moment → WorldState → Type 0
ManagedGivenThere start past w = IsTame past → LosesNothing past → AreFewNow start (length w.initiators) past → AreManagedGiven w

abbrev pub ManagedFindsThere : List Disk → List Moment → WorldState → Type 0
ManagedFindsThere start past w = IsTame past → LosesNothing past → AreFewNow start (length w.initiators) past → ManagedFinds w
