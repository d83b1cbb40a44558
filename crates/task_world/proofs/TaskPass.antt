-- Each line of a task world is notes of the bus and what its nodes hand out, which says what becomes of the medium: what these keep, every
-- line keeps.
use Rattle.std.proofs.Common.{◌≡◌, refl, ℕ, ◌+◌, ◌-◌, ◌==◌, ◌||◌, not, nat_lt, Bool, true, false, cond, List, [], ◌∷◌, length, Option, Some, None, Result, Ok, Err}
use Rattle.std.specs.Prelude.{slice_index}
use Rattle.label_table.specs.declared.reply.Stale.{Stale}
use Rattle.packet_store.specs.declared.sent.Sent.{Sent}
use Rattle.packet_store.specs.Kept.{found_sent, is_flying}
use Rattle.packet_store.specs.Stored.{deliver_step}
use Rattle.rbc_disk.specs.Disk.{Disk, disk_at}
use Rattle.rbc_disk.specs.Held.{Held}
use Rattle.rbc_disk.specs.Runs.{Told}
use Rattle.sbp_initiator.specs.declared.state.InitiatorState.{InitiatorState}
use Rattle.sbp_initiator.specs.Acting.{act_step}
use Rattle.sbp_initiator.specs.Receiving.{expire_step}
use Rattle.sbp_journal.specs.declared.cause.Judged.{Judged}
use Rattle.sbp_journal.specs.declared.cause.Judged.TheVariants as judgements
use Rattle.sbp_journal.specs.declared.event.Action.{Action}
use Rattle.sbp_journal.specs.declared.event.Event.{Event}
use Rattle.sbp_journal.specs.declared.event.Event.TheVariants as events
use Rattle.sbp_journal.specs.declared.note.Note.{Note}
use Rattle.sbp_journal.specs.declared.note.Note.TheVariants as notes
use Rattle.sbp_journal.specs.Form.{HasForm}
use Rattle.sbp_journal.specs.Outgoings.{OutboxState, empty_outbox}
use Rattle.sbp_bus.specs.declared.requests.Request.{Request}
use Rattle.sbp_bus.specs.Packets.{end_note, judged_note, no_packet}
use Rattle.sbp_bus.specs.Requests.{find}
use Rattle.sbp_world.specs.declared.parts.delivering.Arrival.{Arrival}
use Rattle.sbp_world.specs.Delivering.{arrived, at_initiator as comes_to_initiator, at_none, initiator_received, initiators_received}
use Rattle.sbp_world.specs.Handing.{handed_out}
use Rattle.sbp_world.specs.Lines.{acted, acted_by, weight_in}
use Rattle.sbp_world.specs.Packets.{at_initiator, initiator_expires, is_in_flight, lose_line, lost, may_repeat, refused}
use Rattle.sbp_world.specs.Settling.{is_settled, lowest}
use Rattle.sbp_world.specs.Worlds.{Scene, WorldState, initiator_at, with_initiator, with_note}
use Rattle.sbp_world.proofs.Formed.{AreOwn}
use Rattle.sbp_world.proofs.InitiatorForms as initiators
use Rattle.sbp_world.proofs.InitiatorForms.{initiators_own}
use Rattle.media_terms.specs.Media.{left_by_note}
use Rattle.task_target.specs.Nodes.{TaskNode}
use Rattle.task_target.specs.Nodes as target
use Rattle.task_target.specs.Receiving.{expired, received}
use Rattle.task_target.specs.Replies.{Whole}
use Rattle.task_world.specs.Delivering.{MayAt, MayReceive, MayTell, MayTold, at_node, at_other, count_behind, delivered, delivered_by, left_node, received_by, received_step, task_received, whole_of}
use Rattle.task_world.specs.Lines.{MayTellIn, happens_to, is_task_line}
use Rattle.task_world.specs.Packets.{MayIf, delivered_if, expires, node_left, task_expired, timed_out, timeout_line, timeout_of}
use Rattle.task_world.specs.Packets as packets
use Rattle.task_world.specs.Settling.{MayAll, MayAt as MayAtLowest, MayNext, after_all, delivered_at, delivered_next, settled}
use Rattle.task_world.specs.Worlds.{TaskScene, TaskWorldState, world_of}
use Rattle.task_world.proofs.MediaSides.{Tells, nothing, own_tells}
use Rattle.task_world.proofs.TaskTells.{Leaves, expires as node_expires, receives}

-- a note of the bus has the form of a journal's, and is of no run
pub record IsStill (note : Note) : Type 0 where
  pub form : HasForm note
  pub still : (media : Held) → left_by_note note media ≡ media

still_judged : (serial : ℕ) (judged : Judged) → IsStill (judged_note serial judged)
still_judged serial judgements.Got = record { form = tt; still = λ media. refl }
still_judged serial (judgements.Ignored cause) = record { form = tt; still = λ media. refl }

still_end : (done : Bool) → IsStill (end_note done)
still_end true = record { form = tt; still = λ media. refl }
still_end false = record { form = tt; still = λ media. refl }

-- ---- what the nodes say of the medium

abbrev pub first_disk : Held → Disk
first_disk media = disk_at media.disks 0

abbrev pub first_count : Held → ℕ
first_count media = slice_index media.faults 0

-- what is told makes of the first medium what it is now
abbrev pub Turns : Held → Held → OutboxState → Type 0
Turns before now outbox = Tells (first_disk before) (first_count before) (first_disk now) (first_count now) outbox.sides

stays : (media : Held) (outbox : OutboxState) → AreOwn outbox.sides → Turns media media outbox
stays media outbox h = own_tells (first_disk media) (first_count media) outbox.sides h

left_turns : (r : Judged × Whole) (media : Held) (count : ℕ) → Leaves (first_disk media) (first_count media) count r.1 → (let x = left_node r count in Turns media x.1.1.1 x.1.0)
left_turns (judged, w) media count h = h

node_turns : (told : Option Told) (sent : Sent) (old : TaskNode) (media : Held) → MayTell told sent old media → (let x = task_received told sent old media in Turns media x.1.1.1 x.1.0)
unfolding task_received MayTell
node_turns told sent old media m =
    let disk = first_disk media in
    let count = first_count media in
    left_turns (received told sent.generation sent.bytes (whole_of old media)) media (count_behind told sent old media)
    (receives disk count told sent.generation sent.bytes (whole_of old media) count (count_behind told sent old media) m (nothing disk count))

-- the task node expires a request: nothing is said of the medium
left_own : (r : Result (Unit {0}) Stale × target.Scene) (old : TaskNode) (disk : Disk) (count : ℕ) → Tells disk count disk count r.1.outbox.sides → Tells disk count disk count (node_left r old).1.0.sides
left_own (Ok done, s) old disk count h = h
left_own (Err stale, s) old disk count h = nothing disk count

expiry_tells : (request : Request) (node : TaskNode) (disk : Disk) (count : ℕ) → Tells disk count disk count (task_expired request node).1.0.sides
unfolding task_expired
expiry_tells request node disk count =
    left_own (expired request.peer request.label (target.scene node empty_outbox)) node disk count
    (node_expires disk count disk count request.peer request.label (target.scene node empty_outbox) (nothing disk count))

-- ---- what is kept

-- What is said of a world and of what the unit's medium holds, with its count of faults, is kept by the notes of the bus and by what the nodes
-- hand out; it is of the notes and the places alone.
pub record Kept (P : WorldState → Disk → ℕ → Type 0) : Type 0 where
  pub same : (w x : WorldState) (disk : Disk) (count : ℕ) → x.fresh ≡ w.fresh → x.places ≡ w.places → P w disk count → P x disk count
  pub noted : (note : Note) (w : WorldState) (disk : Disk) (count : ℕ) → IsStill note → P w disk count → P (with_note note w) disk count
  pub hands : (node weight : ℕ) (outbox : OutboxState) (w : WorldState) (disk : Disk) (count : ℕ) (left : Disk) (now : ℕ) → Tells disk count left now outbox.sides → P w disk count → P (handed_out node weight outbox w) left now

module _ (P : WorldState → Disk → ℕ → Type 0) (kept : Kept P) where
  abbrev At : WorldState → Held → Type 0
  At w media = P w (first_disk media) (first_count media)

  abbrev Has : TaskScene → Type 0
  Has s = At s.scene.world s.scene.media

  pick : (b : Bool) (w x : WorldState) (media : Held) → At w media → At x media → At (cond b w x) media
  pick true w x media h i = h
  pick false w x media h i = i

  -- a refused line
  refuses : (line number : ℕ) (w : WorldState) (media : Held) → At w media → At (refused line number w) media
  refuses line number w media h = kept.noted (notes.Refused line number) w (first_disk media) (first_count media) (record { form = tt; still = λ m. refl }) h

  -- what a node hands out behind this note
  told_behind : (node weight : ℕ) (note : Note) (outbox : OutboxState) (w : WorldState) (before now : Held) → IsStill note → Turns before now outbox → At w before → At (handed_out node weight outbox (with_note note w)) now
  told_behind node weight note outbox w before now n t h =
      kept.hands node weight outbox (with_note note w) (first_disk before) (first_count before) (first_disk now) (first_count now) t
      (kept.noted note w (first_disk before) (first_count before) n h)

  -- ---- a delivery

  record Comes (before : Held) (outbox : OutboxState) (w : WorldState) (now : Held) : Type 0 where
    turns : Turns before now outbox
    has : At w before

  abbrev Arrives : Held → Option Arrival × (OutboxState × TaskScene) → Type 0
  Arrives before (None, (outbox, t)) = Has t
  Arrives before (Some a, (outbox, t)) = Comes before outbox t.scene.world t.scene.media

  abbrev ArrivesThere : Held → Option Arrival × (OutboxState × Scene) → Type 0
  ArrivesThere before (None, (outbox, t)) = At t.world t.media
  ArrivesThere before (Some a, (outbox, t)) = Comes before outbox t.world t.media

  there_if : (b : Bool) (before : Held) (x y : Option Arrival × (OutboxState × Scene)) → ArrivesThere before x → ArrivesThere before y → ArrivesThere before (cond b x y)
  there_if true before x y h i = h
  there_if false before x y h i = i

  node_arrives : (to : ℕ) (r : Judged × (OutboxState × (TaskNode × Held))) (s : TaskScene) → Turns s.scene.media r.1.1.1 r.1.0 → Has s → Arrives s.scene.media (at_node to r s)
  node_arrives to (judged, (outbox, (node, media))) s t h = record {
    turns = t;
    has = kept.same s.scene.world _ (first_disk s.scene.media) (first_count s.scene.media) refl refl h;
  }

  initiator_arrives : (to : ℕ) (r : Judged × (OutboxState × List InitiatorState)) (s : Scene) → AreOwn r.1.0.sides → At s.world s.media → ArrivesThere s.media (comes_to_initiator to r s)
  initiator_arrives to (judged, (outbox, states)) s o h = record {
    turns = stays s.media outbox o;
    has = kept.same s.world _ (first_disk s.media) (first_count s.media) refl refl h;
  }

  initiator_comes : (sent : Sent) (s : Scene) → At s.world s.media → ArrivesThere s.media (initiator_received sent s)
  initiator_comes sent s h =
      let r = initiators_received (sent.to - 1) sent s.world.initiators in
      there_if (nat_lt (sent.to - 1) (length s.world.initiators)) s.media (comes_to_initiator sent.to r s) (at_none s)
      (initiator_arrives sent.to r s (initiators_own (sent.to - 1) sent s.world.initiators) h) h

  other_arrives : (before : Held) (x : Option Arrival × (OutboxState × Scene)) (s : TaskScene) → ArrivesThere before x → Arrives before (at_other x s)
  other_arrives before (None, (outbox, t)) s h = h
  other_arrives before (Some a, (outbox, t)) s h = h

  arrives_where : (b : Bool) (told : Option Told) (sent : Sent) (s : TaskScene) → MayTold b told sent s → Has s
      → Arrives s.scene.media (cond b (at_node sent.to (task_received told sent s.node s.scene.media) s) (at_other (initiator_received sent s.scene) s))
  arrives_where true told sent s m h = node_arrives sent.to (task_received told sent s.node s.scene.media) s (node_turns told sent s.node s.scene.media m) h
  arrives_where false told sent s m h = other_arrives s.scene.media (initiator_received sent s.scene) s (initiator_comes sent s.scene h)

  arrives_by : (told : Option Told) (sent : Option Sent) (s : TaskScene) → MayAt told sent s → Has s → Arrives s.scene.media (received_by told sent s)
  arrives_by told None s m h = h
  arrives_by told (Some sent) s m h = arrives_where (sent.to == 0) told sent s m h

  arrives : (told : Option Told) (serial : ℕ) (s : TaskScene) → MayReceive told serial s → Has s → Arrives s.scene.media (received_step told serial s)
  unfolding received_step MayReceive
  arrives told serial s m h = arrives_by told (found_sent serial s.scene.world.store.kept) s m h

  marks : (b : Bool) (serial : ℕ) (w : WorldState) (media : Held) → At w media → At (cond b w (record w { store = deliver_step w.store serial })) media
  marks b serial w media h = pick b w (record w { store = deliver_step w.store serial }) media h (kept.same w _ (first_disk media) (first_count media) refl refl h)

  delivers_by : (serial : ℕ) (again : Bool) (before : Held) (r : Option Arrival × (OutboxState × TaskScene)) → Arrives before r → Has (delivered_by serial again r)
  unfolding arrived
  delivers_by serial again before (None, (outbox, t)) h = h
  delivers_by serial again before (Some a, (outbox, t)) h =
      let w = t.scene.world in
      told_behind a.node 0 (judged_note serial a.judged) outbox _ before t.scene.media (still_judged serial a.judged) h.turns (marks (again || not (is_flying serial w.store.kept)) serial w before h.has)

  delivers : (serial : ℕ) (again : Bool) (told : Option Told) (s : TaskScene) → MayReceive told serial s → Has s → Has (delivered serial again told s)
  unfolding delivered
  delivers serial again told s m h = delivers_by serial again s.scene.media (received_step told serial s) (arrives told serial s m h)

  delivers_if : (b : Bool) (line serial : ℕ) (again : Bool) (told : List (Option Told)) (s : TaskScene) → MayIf b serial told s → Has s → Has (delivered_if b line serial again told s)
  delivers_if true line serial again [] s m h = absurd m
  delivers_if true line serial again (told ∷ []) s m h = delivers serial again told s m h
  delivers_if true line serial again (told ∷ (other ∷ more)) s m h = absurd m
  delivers_if false line serial again told s m h = refuses line no_packet s.scene.world s.scene.media h

  -- ---- deliveries one after the other

  delivers_at : (serial : Option ℕ) (told : Option Told) (s : TaskScene) → MayAtLowest serial told s → Has s → Has (delivered_at serial told s)
  delivers_at None told s m h = h
  delivers_at (Some serial) told s m h = delivers serial false told s m h

  delivers_next : (told : Option Told) (s : TaskScene) → MayNext told s → Has s → Has (delivered_next told s)
  unfolding delivered_next MayNext
  delivers_next told s m h = delivers_at (lowest s.scene.world) told s m h

  delivers_all : (told : List (Option Told)) (s : TaskScene) → MayAll told s → Has s → Has (after_all told s)
  delivers_all [] s m h = h
  delivers_all (told ∷ before) s m h = delivers_next told (after_all before s) m.0 (delivers_all before s m.1 h)

  settles : (told : List (Option Told)) (s : TaskScene) → MayAll told s → Has s → Has (settled told s)
  settles told s m h =
      let t = after_all told s in
      kept.noted (end_note (is_settled t.scene.world)) t.scene.world (first_disk t.scene.media) (first_count t.scene.media) (still_end (is_settled t.scene.world)) (delivers_all told s m h)

  -- ---- a line of an initiator, and a lost packet

  acts_by : (r : Option ℕ × (OutboxState × InitiatorState)) (line i : ℕ) (action : Action) (w : WorldState) (media : Held) → AreOwn r.1.0.sides → At w media → At (acted_by r line i action w) media
  acts_by (Some number, (outbox, state)) line i action w media o h =
      refuses line number (with_initiator i state w) media (kept.same w _ (first_disk media) (first_count media) refl refl h)
  acts_by (None, (outbox, state)) line i action w media o h =
      kept.hands (i + 1) (weight_in action) outbox (with_initiator i state w) (first_disk media) (first_count media) (first_disk media) (first_count media) (stays media outbox o)
      (kept.same w _ (first_disk media) (first_count media) refl refl h)

  acts : (line i : ℕ) (action : Action) (w : WorldState) (media : Held) → At w media → At (acted line i action w) media
  unfolding acted
  acts line i action w media h =
      acts_by (act_step action empty_outbox (initiator_at w i)) line i action w media (initiators.acts action empty_outbox (initiator_at w i) tt) h

  loses : (line serial : ℕ) (w : WorldState) (media : Held) → At w media → At (lose_line line serial w) media
  unfolding lose_line
  loses line serial w media h =
      pick (is_in_flight serial w) (lost serial w) (refused line no_packet w) media
      (kept.noted (notes.Lost serial) _ (first_disk media) (first_count media) (record { form = tt; still = λ m. refl }) (kept.same w _ (first_disk media) (first_count media) refl refl h))
      (refuses line no_packet w media h)

  -- ---- a time-out

  record Ends (media : Held) (r : Bool × (OutboxState × TaskWorldState)) : Type 0 where
    turns : Turns media media r.1.0
    has : At r.1.1.world media

  ends_if : (b : Bool) (media : Held) (x y : Bool × (OutboxState × TaskWorldState)) → Ends media x → Ends media y → Ends media (cond b x y)
  ends_if true media x y h i = h
  ends_if false media x y h i = i

  node_ends : (media : Held) (r : Bool × (OutboxState × TaskNode)) (w : TaskWorldState) → Turns media media r.1.0 → At w.world media → Ends media (packets.at_node r w)
  node_ends media (done, (outbox, node)) w t h = record { turns = t; has = kept.same w.world _ (first_disk media) (first_count media) refl refl h }

  other_ends : (media : Held) (i : ℕ) (r : Bool × (OutboxState × InitiatorState)) (w : TaskWorldState) → AreOwn r.1.0.sides → At w.world media → Ends media (packets.at_other (at_initiator i r w.world) w)
  other_ends media i (done, (outbox, state)) w o h = record { turns = stays media outbox o; has = kept.same w.world _ (first_disk media) (first_count media) refl refl h }

  initiator_ends : (b : Bool) (media : Held) (i : ℕ) (r : Bool × (OutboxState × InitiatorState)) (w : TaskWorldState) → AreOwn r.1.0.sides → At w.world media → Ends media (packets.at_other (cond b (at_initiator i r w.world) (false, (empty_outbox, w.world))) w)
  initiator_ends true media i r w o h = other_ends media i r w o h
  initiator_ends false media i r w o h = record { turns = stays media empty_outbox tt; has = h }

  expires_end : (request : Request) (w : TaskWorldState) (media : Held) → At w.world media → Ends media (expires request w)
  unfolding expires
  expires_end request w media h =
      let i = request.node - 1 in
      let r = expire_step request.label empty_outbox (initiator_at w.world i) in
      ends_if (request.node == 0) media (packets.at_node (task_expired request w.node) w) (packets.at_other (initiator_expires request w.world) w)
      (node_ends media (task_expired request w.node) w (expiry_tells request w.node (first_disk media) (first_count media)) h)
      (initiator_ends (nat_lt i (length w.world.initiators)) media i r w (initiators.expires request.label empty_outbox (initiator_at w.world i) tt) h)

  times : (line serial node : ℕ) (media : Held) (r : Bool × (OutboxState × TaskWorldState)) → Ends media r → At (timed_out line serial node r).world media
  times line serial node media (true, (outbox, w)) e =
      told_behind node 0 (notes.TimedOut serial) outbox w.world media media (record { form = tt; still = λ m. refl }) e.turns e.has
  times line serial node media (false, (outbox, w)) e = refuses line no_packet w.world media e.has

  timeouts_of : (request : Option Request) (line serial : ℕ) (w : TaskWorldState) (media : Held) → At w.world media → At (timeout_of request line serial w).world media
  timeouts_of None line serial w media h = refuses line no_packet w.world media h
  timeouts_of (Some request) line serial w media h = times line serial request.node media (expires request w) (expires_end request w media h)

  times_out : (line serial : ℕ) (w : TaskWorldState) (media : Held) → At w.world media → At (timeout_line line serial w).world media
  unfolding timeout_line
  times_out line serial w media h = timeouts_of (find w.world.requests serial) line serial w media h

  -- ---- a line

  none_here : (s : TaskScene) → false ≡ true → Has s
  none_here s e = absurd (let no : false ≡ true = e in cc)

  pub line_keeps : (line : ℕ) (event : Event) (told : List (Option Told)) (s : TaskScene) → is_task_line event ≡ true → MayTellIn event told s → Has s → Has (happens_to line event told s)
  line_keeps line (events.Act initiator action) told s e m h = acts line initiator action s.scene.world s.scene.media h
  line_keeps line (events.Deliver serial) told s e m h = delivers_if (is_in_flight serial s.scene.world) line serial false told s m h
  line_keeps line (events.Repeat serial) told s e m h = delivers_if (may_repeat serial s.scene.world) line serial true told s m h
  line_keeps line (events.Lose serial) told s e m h = loses line serial s.scene.world s.scene.media h
  line_keeps line (events.Timeout serial) told s e m h = times_out line serial (world_of s) s.scene.media h
  line_keeps line (events.Step count) told s e m h = delivers_all told s m.may h
  line_keeps line events.Settle told s e m h = settles told s m.may h
  line_keeps line event told s e m h = none_here (happens_to line event told s) e
