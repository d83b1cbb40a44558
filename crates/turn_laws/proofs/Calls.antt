-- What a law of turns has to show, one case for each kind of call of a node: that it holds of the turn of that call, whose first note, whose other notes, and whose places before
-- and behind it are given. So it knows of no line, of no run and of nothing that a world does.
use Rattle.std.specs.Prelude.{◌≡◌, ℕ, suc, ◌+◌, ◌<◌, Bool, true, false, List, [], ◌∷◌, length, Option, Some, None, Ok}
use Rattle.bus_transactions.specs.Judging.{AreJudged}
use Rattle.packet_store.specs.declared.sent.Sent.{Sent}
use Rattle.packet_store.specs.Kept.{found_sent}
use Rattle.rbc_disk.specs.Disk.{Disk}
use Rattle.rbc_disk.specs.Runs.{Told}
use Rattle.sbp_bus.specs.declared.requests.Request.{Request}
use Rattle.sbp_bus.specs.Generations.{id_of, reset_step}
use Rattle.sbp_bus.specs.Packets.{end_note, judged_note}
use Rattle.sbp_bus.specs.Requests.{find}
use Rattle.sbp_initiator.specs.Acting.{act_step}
use Rattle.sbp_initiator.specs.declared.state.InitiatorState.{InitiatorState}
use Rattle.sbp_initiator.specs.Receiving.{expire_step, receive_step}
use Rattle.sbp_initiator.specs.Seeing.{see_step}
use Rattle.sbp_journal.specs.Outgoings.{OutboxState, empty_outbox}
use Rattle.sbp_journal.specs.Run.{Moment, asked, said}
use Rattle.sbp_journal.specs.declared.event.Action.{Action}
use Rattle.sbp_journal.specs.declared.event.Event.{Event}
use Rattle.sbp_journal.specs.declared.event.Event.TheVariants as events
use Rattle.sbp_journal.specs.declared.note.Note.{Note}
use Rattle.sbp_journal.specs.declared.note.Note.TheVariants as notes
use Rattle.sbp_laws.specs.Turns.{Turn, event_of, turn}
use Rattle.sbp_target.specs.Nodes as target
use Rattle.sbp_target.specs.Receiving.{expired, received, seen, ticked}
use Rattle.sbp_world.specs.Delivering.{MayTell, faults_after, marked, whole_of}
use Rattle.sbp_world.specs.Handing.{handed_out}
use Rattle.sbp_world.specs.Lines.{weight_in}
use Rattle.sbp_world.specs.Making.{notes_begin}
use Rattle.sbp_world.specs.Nodes.{told_seen, with_seen}
use Rattle.sbp_world.specs.Settling.{settled_from}
use Rattle.sbp_world.specs.Worlds.{Scene, WorldState, initiator_at, scene, with_initiator, with_note, with_target, without_notes}
use Rattle.sbp_world.proofs.Agents.Management.Still.{hist}
use Rattle.sbp_world.proofs.Formed.{AreOwn}
use Rattle.sbp_world.specs.Hosts.Handing.{AreOthers}
use Rattle.turn_laws.proofs.Handed.{handed, onto}
use Rattle.turn_laws.proofs.Places.{Place}

-- the line calls nodes: notes that begin turns of their own tell of it
abbrev pub calls_nodes : Event → Bool
calls_nodes (events.See node) = true
calls_nodes (events.Deliver serial) = true
calls_nodes (events.Repeat serial) = true
calls_nodes (events.Timeout serial) = true
calls_nodes (events.Step count) = true
calls_nodes events.Settle = true
calls_nodes events.Tick = true
calls_nodes event = false

-- the line that is under way calls nodes
pub record IsCalling (past : List Moment) : Type 0 where
  pub event : Event
  pub is : event_of past ≡ Some event
  pub calls : calls_nodes event ≡ true

-- the first note of a call: it is judged with the notes before it, in a line that calls nodes
pub record IsNoted (past : List Moment) (w : WorldState) (note : Note) : Type 0 where
  pub judged : AreJudged (said note ∷ hist past w)
  pub line : IsCalling past

-- the line is an action
abbrev pub is_act : Event → Bool
is_act (events.Act i action) = true
is_act event = false

-- the refusal of a line that is none
pub record Refusal (event : Event) : Type 0 where
  pub number : ℕ
  pub no_act : is_act event ≡ false

-- an action of an initiator is refused
pub record IsRefused (s : Scene) (i : ℕ) (action : Action) (number : ℕ) : Type 0 where
  pub inside : i < length s.world.initiators
  pub is : (act_step action empty_outbox (initiator_at s.world i)).0 ≡ Some number

-- the notes of a line itself, but of an action that is done: none where it calls nodes
pub data Brings (line : ℕ) (s : Scene) : Event → List Note → Type 0 where
  calls : (event : Event) → calls_nodes event ≡ true → Brings line s event []
  refuses : (event : Event) (refusal : Refusal event) → Brings line s event (notes.Refused line refusal.number ∷ [])
  refuses_action : (i : ℕ) (action : Action) (number : ℕ) → IsRefused s i action number → Brings line s (events.Act i action) (notes.Refused line number ∷ [])
  resets : (physical : List ℕ) (generation : ℕ) → generation ≡ (reset_step physical s.world.generations).latest.generation → Brings line s (events.Reset physical) (notes.Reset generation ∷ [])
  loses : (serial : ℕ) → Brings line s (events.Lose serial) (notes.Lost serial ∷ [])
  sets_key : (unit : ℕ) (key : List ℕ) → Brings line s (events.Key unit key) (notes.Key unit ∷ [])
  injects : (i : ℕ) (bytes : List ℕ) (serial generation from to : ℕ) → Brings line s (events.Inject i bytes) (notes.Injected serial ∷ notes.Sent serial generation from to bytes ∷ [])

-- the scene behind a call, of a node that leaves the media alone
abbrev pub in_scene : WorldState → Scene → Scene
in_scene w s = record s { world = w }

-- R is what holds of a turn, by the scenes before and behind it and the history behind it; N the same where no node is called; and F of the turn that begins a run.
module _ (units ready : ℕ) (start : List Disk) (R N : Scene → Turn → List Moment → Scene → Type 0) (F : (line initiators : ℕ) → Bool → Type 0) where
  abbrev At : List Moment → Scene → Type 0
  At past s = Place units ready start past s

  -- a call of a node behind the first note of its turn: what it handed out, from a world with this note
  abbrev pub Turned : List Moment → Scene → Note → (node : ℕ) → OutboxState → WorldState → Scene → Type 0
  Turned past s note node outbox w behind =
      At past s → At past behind → IsNoted past s.world note → R s (turn (hist past s.world) (said note) (handed node 0 outbox w)) (hist past behind.world) behind

  -- the target tells no note of an initiator, and an initiator nothing else
  abbrev pub ByTarget : List Moment → Scene → Note → OutboxState → WorldState → Scene → Type 0
  ByTarget past s note outbox w behind = AreOthers outbox.sides → Turned past s note 0 outbox w behind

  abbrev pub ByOwn : List Moment → Scene → Note → (i : ℕ) → OutboxState → WorldState → Scene → Type 0
  ByOwn past s note i outbox w behind = AreOwn outbox.sides → Turned past s note (suc i) outbox w behind

  -- ---- the turn of each call
  -- a packet comes to the target, which may have run a command that told this; and to an initiator
  abbrev pub Heard : List Moment → Scene → (serial : ℕ) (again : Bool) → Option Told → Sent → Type 0
  Heard past s serial again run one =
      let x = received run one.generation one.bytes (whole_of s.world.target s.media) in
      let w = with_note (judged_note serial x.0) (marked serial again (with_target x.1.node s.world)) in
      let behind = scene (handed_out 0 0 x.1.outbox w) x.1.disks (faults_after run one s.world.target s.media) in ByTarget past s (judged_note serial x.0) x.1.outbox w behind

  abbrev pub HeardOwn : List Moment → Scene → (serial : ℕ) (again : Bool) → Sent → (i : ℕ) → Type 0
  HeardOwn past s serial again one i =
      let x = receive_step one.generation one.bytes empty_outbox (initiator_at s.world i) in
      let w = with_note (judged_note serial x.0) (marked serial again (with_initiator i x.1.1 s.world)) in ByOwn past s (judged_note serial x.0) i x.1.0 w (in_scene (handed_out (suc i) 0 x.1.0 w) s)

  -- a transaction of the target times out, which leaves it so; and one of an initiator
  abbrev pub Late : List Moment → Scene → (serial : ℕ) → target.Scene → Type 0
  Late past s serial t = let w = with_note (notes.TimedOut serial) (with_target t.node s.world) in ByTarget past s (notes.TimedOut serial) t.outbox w (in_scene (handed_out 0 0 t.outbox w) s)

  abbrev pub LateOwn : List Moment → Scene → (serial i : ℕ) → OutboxState → InitiatorState → Type 0
  LateOwn past s serial i outbox state =
      let w = with_note (notes.TimedOut serial) (with_initiator i state s.world) in ByOwn past s (notes.TimedOut serial) i outbox w (in_scene (handed_out (suc i) 0 outbox w) s)

  -- a transaction is under way at the target, which it then leaves so; and at an initiator
  abbrev pub Expires : Scene → Request → Unit {0} → target.Scene → Type 0
  Expires s request done t = expired request.peer request.label (target.scene s.world.target empty_outbox) ≡ (Ok done, t)

  abbrev pub ExpiresOwn : Scene → Request → (i : ℕ) → OutboxState → InitiatorState → Type 0
  ExpiresOwn s request i outbox state = expire_step request.label empty_outbox (initiator_at s.world i) ≡ (true, (outbox, state))

  -- the target sees the latest generation; and an initiator does
  abbrev pub Sees : List Moment → Scene → Type 0
  Sees past s =
      let g = s.world.generations.latest in
      let x = (seen g.generation (id_of g 0) (target.scene s.world.target empty_outbox)).1 in
      let w = with_target x.node (with_seen 0 (told_seen 0 s.world)) in ByTarget past s (notes.Seen 0 g.generation) x.outbox w (in_scene (handed_out 0 0 x.outbox w) s)

  abbrev pub SeesOwn : List Moment → Scene → (i : ℕ) → Type 0
  SeesOwn past s i =
      let g = s.world.generations.latest in
      let x = see_step g.generation (id_of g (suc i)) (id_of g 0) empty_outbox (initiator_at s.world i) in
      let w = with_initiator i x.1 (with_seen (suc i) (told_seen (suc i) s.world)) in ByOwn past s (notes.Seen (suc i) g.generation) i x.0 w (in_scene (handed_out (suc i) 0 x.0 w) s)

  -- a second passes
  abbrev pub Ticks : List Moment → Scene → Type 0
  Ticks past s =
      let x = ticked (target.scene s.world.target empty_outbox) in
      let w = with_target x.node (with_note notes.Tick s.world) in ByTarget past s notes.Tick x.outbox w (in_scene (handed_out 0 0 x.outbox w) s)

  -- an initiator acts: its line has no first note
  abbrev pub Acts : List Moment → Scene → (line i : ℕ) → Action → OutboxState → InitiatorState → Type 0
  Acts past s line i action outbox state =
      let w = with_initiator i state (without_notes s.world) in
      let asks = asked line (events.Act i action) in
      let behind = in_scene (handed_out (i + 1) (weight_in action) outbox w) s in
      AreOwn outbox.sides → At past s → At (asks ∷ hist past s.world) behind → R s (turn (hist past s.world) asks (handed (i + 1) (weight_in action) outbox w)) (hist (asks ∷ hist past s.world) behind.world) behind

  abbrev pub ActsSo : Scene → (i : ℕ) → Action → OutboxState → InitiatorState → Type 0
  ActsSo s i action outbox state = act_step action empty_outbox (initiator_at s.world i) ≡ (None, (outbox, state))

  -- a line brings these notes
  abbrev pub Brought : List Moment → Scene → (line : ℕ) → Event → List Note → Scene → Type 0
  Brought past s line event rest behind = behind.world.fresh ≡ onto rest [] → At past s → At (asked line event ∷ hist past s.world) behind → N s (turn (hist past s.world) (asked line event) rest) (hist (asked line event ∷ hist past s.world) behind.world) behind

  pub record CasesOf : Type 0 where
    pub heard : (past : List Moment) (s : Scene) (serial : ℕ) (again : Bool) (run : Option Told) (one : Sent) → found_sent serial s.world.store.kept ≡ Some one → one.to ≡ 0 → MayTell run one s.world.target s.media → Heard past s serial again run one
    pub heard_own : (past : List Moment) (s : Scene) (serial : ℕ) (again : Bool) (one : Sent) (i : ℕ) → found_sent serial s.world.store.kept ≡ Some one → one.to ≡ suc i → i < length s.world.initiators → HeardOwn past s serial again one i
    pub late : (past : List Moment) (s : Scene) (serial : ℕ) (request : Request) (done : Unit {0}) (t : target.Scene) → find s.world.requests serial ≡ Some request → request.node ≡ 0 → Expires s request done t → Late past s serial t
    pub late_own : (past : List Moment) (s : Scene) (serial : ℕ) (request : Request) (i : ℕ) (outbox : OutboxState) (state : InitiatorState) → find s.world.requests serial ≡ Some request → request.node ≡ suc i → i < length s.world.initiators → ExpiresOwn s request i outbox state → LateOwn past s serial i outbox state
    pub sees : (past : List Moment) (s : Scene) → Sees past s
    pub sees_own : (past : List Moment) (s : Scene) (i : ℕ) → i < length s.world.initiators → SeesOwn past s i
    pub ticks : (past : List Moment) (s : Scene) → Ticks past s
    -- a line that settles ends
    pub ends : (past : List Moment) (s : Scene) (done : Bool) → At past s → At past (settled_from done s) → R s (turn (hist past s.world) (said (end_note done)) []) (hist past (settled_from done s).world) (settled_from done s)
    pub acts : (past : List Moment) (s : Scene) (line i : ℕ) (action : Action) (outbox : OutboxState) (state : InitiatorState) → i < length s.world.initiators → ActsSo s i action outbox state → Acts past s line i action outbox state
    -- every other line; and the line that begins a run
    pub lines : (past : List Moment) (s : Scene) (line : ℕ) (event : Event) (rest : List Note) (behind : Scene) → Brings line s event rest → Brought past s line event rest behind
    pub begins : (line initiators : ℕ) (is_ready : Bool) → F line initiators is_ready

abbrev Begins : (Turn → Type 0) → (line initiators : ℕ) → Bool → Type 0
Begins L line initiators is_ready = L (turn [] (asked line (events.Begin initiators is_ready)) (notes_begin initiators is_ready ∷ []))

-- a law of turns
abbrev pub Cases : (units ready : ℕ) → List Disk → (Turn → Type 0) → Type 0
Cases units ready start L = CasesOf units ready start (λ s t now behind. L t) (λ s t now behind. L t) (Begins L)

-- where no node is called the target has its transactions and the nodes that an unsolicited status is pending to, and the initiators are as before
abbrev pub Stays : WorldState → WorldState → Type 0
Stays w v = (v.target.layer ≡ w.target.layer) × ((v.target.pending ≡ w.target.pending) × (v.initiators ≡ w.initiators))

-- a law of turns, where something is carried from place to place
abbrev pub CarriedCases : (units ready : ℕ) → List Disk → (List Moment → Scene → Type 0) → (Turn → Type 0) → Type 0
CarriedCases units ready start K L =
    CasesOf units ready start (λ s t now behind. K t.past s → L t × K now behind) (λ s t now behind. Stays s.world behind.world → K t.past s → L t × K now behind) (Begins L)
