-- What a task node asks for fits a packet, and goes to the node of its login (IEEE 1394-1995, asynchronous packets; NCITS 325-1998, agents). Each
-- address that it reads from and writes to has 48 bits, and what it sends has bytes below 256. So each call is what a call of a node is to the
-- wire: it judges, and then answers and asks as the wire lets it.
use Rattle.std.specs.Prelude.{◌≡◌, ◌<◌, ℕ, ◌^◌, Bool, true, List, Option, Some}
use Rattle.async_packet.specs.Labels.{LabelParts}
use Rattle.bus_transactions.specs.Fitting.{AreBytes, AreSmall, IsLayer}
use Rattle.bus_transactions.specs.Steps.{ArePlainSides, IsDelivery, IsExpiry}
use Rattle.label_table.specs.Layer.{expiring_step, judging_step}
use Rattle.login_table.specs.declared.login.Login.{Login}
use Rattle.orb_layout.specs.Pointers.{IsPointer}
use Rattle.rbc_disk.specs.Disk.{Disk}
use Rattle.rbc_disk.specs.Runs.{Told}
use Rattle.sbp_journal.specs.Outgoings.{empty_outbox}
use Rattle.sbp_world.specs.FitTarget.{AreIds, BytesTold, FitsAgent}
use Rattle.unordered_agent.specs.declared.fetcher.Fetcher.{Fetcher}
use Rattle.unordered_agent.specs.Machine.{TaskMachine, task_at}
use Rattle.task_target.specs.declared.purpose.Sent.{Sent}
use Rattle.task_target.specs.Nodes.{TaskNode, new_node, scene, sent_at}
use Rattle.task_target.specs.Receiving.{expired, received}
use Rattle.task_target.specs.Replies.{served_login, whole}

-- the addresses that the fetcher reads from have 48 bits
pub record FitsFetcher (f : Fetcher) : Type 0 where
  pub orb : f.orb < 2 ^ 48
  pub next : IsPointer f.next

pub record FitsTasks (m : TaskMachine) : Type 0 where
  pub fetcher : FitsFetcher m.fetcher
  pub tasks : (place : ℕ) → FitsAgent (task_at m place)

-- a login of a known node, whose FIFO has an address of 48 bits
pub record IsServed (known : ℕ → Type 0) (login : Login) : Type 0 where
  pub there : known login.node
  pub fifo : login.fifo < 2 ^ 48

-- Its login is so, and its transactions are with nodes that are known.
pub record Fits (known : ℕ → Type 0) (node : TaskNode) : Type 0 where
  pub served : (login : Login) → served_login node ≡ Some login → IsServed known login
  pub agent : FitsTasks node.agent
  pub sents : (place : ℕ) (sent : Sent) → sent_at node place ≡ Some sent → known sent.peer
  pub rom : AreBytes node.rom

pub record Holds (known : ℕ → Type 0) (node : TaskNode) : Type 0 where
  pub fits : Fits known node
  pub layer : IsLayer node.layer

-- A packet of bytes is delivered, with what a run told.
pub record MayReceive (told : Option Told) (bytes : List ℕ) : Type 0 where
  pub bytes_fit : AreBytes bytes
  pub told_fits : BytesTold told

-- a delivery: what it is to the wire, that its packets are of bytes, that it tells nothing of the wire, and what it leaves
pub record Receives (known : ℕ → Type 0) (told : Option Told) (disk : Disk) (generation : ℕ) (bytes : List ℕ) (node : TaskNode) : Type 0 where
  pub delivers : IsDelivery known (judging_step node.layer generation bytes).0 (received told generation bytes (whole (scene node empty_outbox) disk)).0 bytes (judging_step node.layer generation bytes).1 (received told generation bytes (whole (scene node empty_outbox) disk)).1.node.layer (received told generation bytes (whole (scene node empty_outbox) disk)).1.outbox.packets
  pub small : AreSmall (received told generation bytes (whole (scene node empty_outbox) disk)).1.outbox.packets
  pub plain : ArePlainSides (received told generation bytes (whole (scene node empty_outbox) disk)).1.outbox.sides
  pub holds : Holds known (received told generation bytes (whole (scene node empty_outbox) disk)).1.node

-- a time-out
pub record Expires (known : ℕ → Type 0) (peer : ℕ) (label : LabelParts) (node : TaskNode) : Type 0 where
  pub expires : IsExpiry known (expiring_step node.layer peer label).0 (expiring_step node.layer peer label).1 (expired peer label (scene node empty_outbox)).1.node.layer (expired peer label (scene node empty_outbox)).1.outbox.packets
  pub small : AreSmall (expired peer label (scene node empty_outbox)).1.outbox.packets
  pub plain : ArePlainSides (expired peer label (scene node empty_outbox)).1.outbox.sides
  pub holds : Holds known (expired peer label (scene node empty_outbox)).1.node

-- A new task node knows its initiator, and each call leaves it so.
pub record NodeFits (known : ℕ → Type 0) : Type 0 where
  pub begins : known 0xffc1 → Holds known new_node
  pub deliveries : (told : Option Told) (disk : Disk) (generation : ℕ) (bytes : List ℕ) (node : TaskNode) → AreIds known → Holds known node → MayReceive told bytes → Receives known told disk generation bytes node
  pub expiries : (peer : ℕ) (label : LabelParts) (node : TaskNode) → AreIds known → Holds known node → Expires known peer label node

-- Whichever IDs are known.
abbrev pub FittingLaw : Type 0
FittingLaw = (known : ℕ → Bool) → NodeFits (λ id. known id ≡ true)
