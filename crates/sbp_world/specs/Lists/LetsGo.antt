-- How an agent lets go of its main transaction, by the terms (NCITS 325-1998, command block agents): a reply to it takes the agent on, or the agent is put into RESET.
use Rattle.std.specs.Prelude.{◌≡◌, ◌⊎◌, ℕ, false, true, List, ◌∷◌, ◌++◌, Option, Some, None}
use Rattle.command_agent.specs.declared.phase.Phase.TheVariants as phases
use Rattle.command_agent.specs.declared.step.Which.TheVariants.{Main}
use Rattle.command_agent.specs.Machine.{is_sent}
use Rattle.bus_transactions.specs.Packets.{SerialsCount}
use Rattle.rbc_disk.specs.Disk.{Disk}
use Rattle.sbp_journal.specs.Run.{Moment, said}
use Rattle.sbp_journal.specs.Wire.{terms}
use Rattle.sbp_journal.specs.declared.note.Note.TheVariants as notes
use Rattle.sbp_laws.specs.Packets.{answered_at, is_under_way, sender_in}
use Rattle.sbp_laws.specs.Targets.{Agent, Reply, agent_at, for_nobody, is_nothing, is_serial, known_at, over, purpose_of, target_at}

-- An agent has one main transaction at most: none where it waits for none by its phase, and none while it asks for one.
pub record HasOneMain (a : Agent) : Type 0 where
  pub none : is_sent a.machine.phase ≡ false → a.main ≡ None
  pub asks : is_nothing a.asks ≡ false → (a.main ≡ None) × (is_sent a.machine.phase ≡ true)

-- it is in RESET
abbrev pub IsCut : Agent → Type 0
IsCut a = a.machine.phase ≡ phases.Reset

-- a reply to the main transaction of the agent of a place waits to take it on
abbrev pub IsAnswered : Option Reply → (place : ℕ) → Type 0
IsAnswered None place = ⊥
IsAnswered (Some reply) place = (reply.place ≡ place) × (reply.which ≡ Main)

-- Between then and now the agent of a place let its main transaction go: it waited for it up to the moment, and then so.
pub record WasLetGo (start : List Disk) (place serial : ℕ) (later before : List Moment) : Type 0 where
  pub since : List Moment
  pub moment : Moment
  pub until : List Moment
  pub is : since ++ moment ∷ until ≡ later
  pub waited : (agent_at (target_at start (until ++ before)) place).main ≡ Some serial
  pub how : IsAnswered (target_at start (until ++ before)).reply place ⊎ IsCut (agent_at (target_at start (moment ∷ until ++ before)) place)

-- So in every history: what was the main transaction of the agent of a place is that still, or the agent let it go.
abbrev pub MainStaysLaw : Type 0
MainStaysLaw =
    (start : List Disk) (later before : List Moment) (place serial : ℕ) → (agent_at (target_at start before) place).main ≡ Some serial → ((agent_at (target_at start (later ++ before)) place).main ≡ Some serial) ⊎ WasLetGo start place serial later before

-- A moment closes a transaction of the target: the answer to its request is got, or it times out.
abbrev pub IsClosing : List Disk → Moment → List Moment → (serial : ℕ) → Type 0
IsClosing start (said (notes.Got response)) past serial = answered_at (known_at start past).wire response ≡ Some serial
IsClosing start (said (notes.TimedOut own)) past serial = (own ≡ serial) × (is_serial (sender_in ((known_at start past).wire.sent own)) 0 ≡ true)
IsClosing start moment past serial = ⊥

-- One did.
pub record WasClosed (start : List Disk) (past : List Moment) (serial : ℕ) : Type 0 where
  pub since : List Moment
  pub moment : Moment
  pub earlier : List Moment
  pub is : since ++ moment ∷ earlier ≡ past
  pub closes : IsClosing start moment earlier serial

-- Since then the agent of a place was put into RESET, while it had this main transaction.
pub record WasReset (start : List Disk) (place serial : ℕ) (later before : List Moment) : Type 0 where
  pub since : List Moment
  pub moment : Moment
  pub until : List Moment
  pub is : since ++ moment ∷ until ≡ later
  pub waited : (agent_at (target_at start (until ++ before)) place).main ≡ Some serial
  pub cut : IsCut (agent_at (target_at start (moment ∷ until ++ before)) place)

-- In every history a request that was the main transaction of the agent of a place, is nobody's as the turn ends, and is under way still: its agent was put into RESET since.
abbrev pub NobodyWaitsLaw : Type 0
NobodyWaitsLaw =
    (start : List Disk) (later before : List Moment) (place serial : ℕ) → SerialsCount (later ++ before) → (agent_at (target_at start before) place).main ≡ Some serial → purpose_of (over (target_at start (later ++ before))) serial ≡ for_nobody → is_under_way (terms (later ++ before)) serial ≡ true → WasReset start place serial later before
