-- A request that is served takes what is said before its answer to what is said behind it, by an answer that fits; and what came of a
-- transaction keeps what is said.
use Rattle.sbp_world.proofs.Words.Std.{arith, ◌≡◌, refl, ℕ, ◌^◌, ◌<◌, Bool, true, false, List, [], ◌∷◌, ◌++◌, length, take, drop, Option, Some, None, Result, Ok, Err, big_bytes}
use Rattle.sbp_world.proofs.Words.Wire.{LabelParts, Packet, header_in, AreBytes, FitsAnswer, answer_to, Gives, Layer, answering_step, Outgoing, Side, OutboxState}
use Rattle.bus_transactions.proofs.Fits.{bytes_append, bytes_drop, bytes_quad, bytes_take}
use Rattle.bus_transactions.proofs.FitJudged.{BytesOf, no_gives}
use Rattle.command_agent.specs.declared.step.PointRefusal.{PointRefusal}
use Rattle.command_agent.specs.declared.step.PointRefusal.TheVariants as refusals
use Rattle.login_table.specs.declared.login.Login.{Login}
use Rattle.orb_layout.specs.declared.ask.Ask.{Ask}
use Rattle.orb_layout.specs.declared.pointer.OrbPointer.{OrbPointer}
use Rattle.orb_layout.specs.Pointers.{IsPointer, pointer_high, pointer_low}
use Rattle.orb_layout.specs.Replies.{Answer, Expired}
use Rattle.rbc_disk.specs.Runs.{Told}
use Rattle.sbp_journal.specs.declared.side.Side.TheVariants as sides
use Rattle.sbp_world.specs.FitTarget.{BytesTold}
use Rattle.sbp_world.proofs.FitInitiator.Memory.{taken_length}
use Rattle.sbp_world.proofs.FitTarget.Agents.{BytesIn, FitsAsk}
use Rattle.sbp_world.proofs.FitTarget.Demands.{FitsAccess, FitsDemand, demand_fits}
use Rattle.sbp_world.proofs.FitTarget.Served.{empty_fits}
use Rattle.target_base.specs.declared.address.Access.{Access}
use Rattle.target_base.specs.declared.address.Access.TheVariants as accesses
use Rattle.target_base.specs.declared.address.Demand.{Demand}
use Rattle.target_base.specs.declared.address.Demand.TheVariants as demands
use Rattle.target_base.specs.Addresses.{address_error, complete, demand_of}
use Rattle.unordered_agent.specs.declared.step.TaskStep.{TaskStep}
use Rattle.unordered_agent.specs.Machine.{TaskMachine, state_in}
use Rattle.unordered_agent.specs.Steps.{doorbell_step, point_step}
use Rattle.task_target.specs.declared.purpose.TaskPurpose.{TaskPurpose}
use Rattle.task_target.specs.Following.{about, cut, failed_step, with_agent}
use Rattle.task_target.specs.Nodes.{Scene, TaskNode, scene}
use Rattle.task_target.specs.Receiving.{concluded, expire_place, expired_by, timed_out}
use Rattle.task_target.specs.Replies.{Whole, advance, advanced_with, agent_step, awaits, plain_in, replied, replied_by, replied_to, replied_with, scene_of, served_login, stage, taken}
use Rattle.task_target.specs.Sending.{answer_step, answered_by, with_side}
use Rattle.task_target.specs.Serving.{accessed_by, answered, fetched, fetched_for, last_pointer, point, pointed_by, pointed_node, pointer_bytes, ring, rung_by, serve, served_as, state_number}
use Rattle.task_world.specs.Fitting.{Fits, IsServed}
use Rattle.task_world.proofs.Fit.Agents.{FitsGoing, FitsPoint, FitsTaskStep, points_fit, replies_fit, rings_fit}
use Rattle.task_world.proofs.Fit.Pass.{In, Keeps, Leaves, Said, StepTold, cuts_all, failed_fits, fetches, fits_agent, fits_layer, fits_sent, follows, none_of}

-- an answer to this request with such an rcode takes P to Q
pub record Answers (P Q : Said) (request : Packet) (bytes : List ℕ) (stated : ℕ → Bool) : Type 0 where
  pub answers : (layer : Layer TaskPurpose) (packets : List Outgoing) (told : List Side) (rcode : ℕ) (given : List ℕ) → stated rcode ≡ true → FitsAnswer request rcode given → P layer packets told → Q (answering_step layer request bytes rcode given).1 (packets ++ answer_to request (answering_step layer request bytes rcode given).0 ∷ []) told

module _ (T : Side → Type 0) (known : ℕ → Type 0) (P Q : Said) (request : Packet) (bytes : List ℕ) (stated : ℕ → Bool) (a : Answers P Q request bytes stated) where
  answers_by : (r : List ℕ × Layer TaskPurpose) (o : OutboxState) → Q r.1 (o.packets ++ answer_to request r.0 ∷ []) o.sides → (let x = answered_by r o (header_in request).source in Q x.0 x.1.packets x.1.sides)
  answers_by (bytes', layer) o h = h

  answers_layer : (r : List ℕ × Layer TaskPurpose) (o : OutboxState) (node : TaskNode) → Fits known node → Fits known (record node { layer = (answered_by r o (header_in request).source).0 })
  answers_layer (bytes', layer) o node f = fits_layer known node layer f

  pub answers_at : (rcode : ℕ) (given : List ℕ) (s : Scene) → stated rcode ≡ true → FitsAnswer request rcode given → In known P s → In known Q (answered request bytes rcode given s)
  unfolding answer_step
  answers_at rcode given s t f h = record {
    made = answers_by (answering_step s.node.layer request bytes rcode given) s.outbox (a.answers s.node.layer s.outbox.packets s.outbox.sides rcode given t f h.made);
    fits = answers_layer (answering_step s.node.layer request bytes rcode given) s.outbox s.node h.fits;
  }

  module _ (all : (rcode : ℕ) → stated rcode ≡ true) (l : Leaves T known P) (k : Keeps T known Q) where
    -- what the fetcher asks for behind the answer
    fetched_by : (login : Option Login) (ask : Ask) (s : Scene) → ((x : Login) → login ≡ Some x → IsServed known x) → FitsAsk ask → In known Q s → In known Q (fetched_for login ask s)
    fetched_by None ask s v f h = h
    fetched_by (Some login) ask s v f h = fetches T known Q k login ask s f (v login refl) h

    fetched_in : (ask : Ask) (s : Scene) → FitsAsk ask → In known Q s → In known Q (fetched ask s)
    fetched_in ask s f h = fetched_by (served_login s.node) ask s h.fits.served f h

    abbrev GivesAll : Type 0
    GivesAll = (rcode : ℕ) (given : List ℕ) → Gives request rcode given

    empty_at : (rcode : ℕ) (s : Scene) → rcode < 2 ^ 4 → GivesAll → In known P s → In known Q (answered request bytes rcode [] s)
    empty_at rcode s small g h = answers_at rcode [] s (all rcode) (empty_fits request rcode (g rcode []) small) h

    points_by : (orb : ℕ) (r : Result Ask PointRefusal × TaskMachine) (s : Scene) → FitsPoint r → GivesAll → In known P s → In known Q (pointed_by orb request bytes r s)
    points_by orb (Ok ask, m) s f g h =
        let t = scene (pointed_node orb m s.node) (with_side s.outbox (sides.Opened 0 orb)) in
        let w = fits_agent known s.node m f.agent h.fits in
        fetched_in ask (answered request bytes complete [] t) (f.ask ask refl)
        (empty_at complete t (omega arith) g (record {
          made = l.tells s.node.layer s.outbox.packets s.outbox.sides _ (l.node.opened orb) h.made;
          fits = record { served = w.served; agent = w.agent; sents = w.sents; rom = w.rom };
        }))
    points_by orb (Err refusals.Conflict, m) s f g h =
        empty_at 4 (scene (with_agent s.node m) s.outbox) (omega arith) g (record { made = h.made; fits = fits_agent known s.node m f.agent h.fits })
    points_by orb (Err refusals.Null, m) s f g h =
        empty_at 5 (scene (with_agent s.node m) s.outbox) (omega arith) g (record { made = h.made; fits = fits_agent known s.node m f.agent h.fits })

    points : (pointer : OrbPointer) (s : Scene) → IsPointer pointer → GivesAll → In known P s → In known Q (point pointer request bytes s)
    unfolding point
    points pointer s n g h = points_by _ (point_step s.node.agent pointer) s (points_fit s.node.agent pointer n h.fits.agent) g h

    rings_by : (r : Ask × TaskMachine) (s : Scene) → FitsGoing r → GivesAll → In known P s → In known Q (rung_by request bytes r s)
    rings_by (ask, m) s f g h =
        let t = scene (with_agent s.node m) s.outbox in
        fetched_in ask (answered request bytes complete [] t) f.ask
        (empty_at complete t (omega arith) g (record { made = h.made; fits = fits_agent known s.node m f.agent h.fits }))

    rings : (s : Scene) → GivesAll → In known P s → In known Q (ring request bytes s)
    unfolding ring
    rings s g h = rings_by (doorbell_step s.node.agent) s (rings_fit s.node.agent h.fits.agent) g h

    pointer_small : (pointer : OrbPointer) → AreBytes (pointer_bytes pointer)
    pointer_small pointer =
        bytes_append (big_bytes 4 (pointer_high pointer)) (big_bytes 4 (pointer_low pointer)) (bytes_quad (pointer_high pointer)) (bytes_quad (pointer_low pointer))

    accesses_by : (access : Access) (s : Scene) → FitsAccess request access → In known P s → In known Q (accessed_by access request bytes s)
    accesses_by accesses.State s f h =
        let given = big_bytes 4 (state_number (state_in s.node.agent.fetcher.phase)) in
        answers_at complete given s (all complete) (record { small = omega arith; bytes = bytes_quad _; gives = f given refl }) h
    accesses_by accesses.Reset s f h = empty_at complete (cut s) (omega arith) f (cuts_all T known P l s h)
    accesses_by (accesses.Point pointer) s f h = points pointer s f.1 f.0 h
    accesses_by accesses.Pointer s f h =
        let given = pointer_bytes (last_pointer s.node.pointer) in
        answers_at complete given s (all complete) (record { small = omega arith; bytes = pointer_small (last_pointer s.node.pointer); gives = f given refl }) h
    accesses_by accesses.Ring s f h = rings s f h
    accesses_by accesses.Enable s f h = empty_at complete s (omega arith) f h

    serves_as : (demand : Demand) (s : Scene) → FitsDemand (length s.node.rom) request demand → In known P s → In known Q (served_as demand request bytes s)
    serves_as (demands.Refused rcode) s f h = answers_at rcode [] s (all rcode) (empty_fits request rcode (no_gives request rcode [] f.0) f.1) h
    serves_as (demands.Rom at len) s f h =
        let given = take len (drop at s.node.rom) in
        answers_at complete given s (all complete)
        (record { small = omega arith; bytes = bytes_take len (drop at s.node.rom) (bytes_drop at s.node.rom h.fits.rom); gives = f.1 given (taken_length at len s.node.rom f.0) }) h
    serves_as (demands.Manage orb) s f h = empty_at address_error s (omega arith) f.0 h
    serves_as (demands.Agent q access) s f h = accesses_by access s f h

    pub serves : (s : Scene) → BytesOf request → In known P s → In known Q (serve request bytes s)
    unfolding serve
    serves s b h = serves_as (demand_of (length s.node.rom) request) s (demand_fits (length s.node.rom) request b) h

-- ---- what came of a transaction
-- of a step that a reply or a time-out brings, where the agent waits for it
abbrev pub StepBy : (Side → Type 0) → Option Login → Bool → TaskStep → Type 0
StepBy T (Some login) true step = StepTold T step
StepBy T (Some login) false step = Unit {0}
StepBy T None is_awaited step = Unit {0}

abbrev pub RepliesTold : (Side → Type 0) → Option Told → Option TaskPurpose → ℕ → LabelParts → Answer → Whole → Type 0
RepliesTold T told None peer label answer w = Unit {0}
RepliesTold T told (Some purpose) peer label answer w =
    StepBy T (served_login w.node) (awaits w.node purpose.place peer label) (agent_step told purpose.place answer (stage w.node w.disk)).0

module _ (T : Side → Type 0) (known : ℕ → Type 0) (P : Said) (k : Keeps T known P) where
  advances_by : (place : ℕ) (login : Login) (w : Whole) (made : TaskStep × TaskMachine) → FitsTaskStep made → StepTold T made.0 → IsServed known login → In known P (scene_of w) → In known P (scene_of (advanced_with place login (replied_with place made (stage w.node w.disk)) w))
  advances_by place login w (step, m) f so v h =
      let st = (replied_with place (step, m) (stage w.node w.disk)).1 in
      let g = fits_agent known (taken place w.node) m f.agent (fits_sent known w.node place None (none_of known) h.fits) in
      follows T known P k login (about w.node.agent place) step (scene st.node w.outbox) f.asks so v
      (record { made = h.made; fits = record { served = g.served; agent = g.agent; sents = g.sents; rom = g.rom } })

  advances : (told : Option Told) (place : ℕ) (login : Login) (answer : Answer) (w : Whole) → StepTold T (agent_step told place answer (stage w.node w.disk)).0 → BytesTold told → BytesIn answer → IsServed known login → In known P (scene_of w) → In known P (scene_of (advance told place login answer w))
  unfolding advance replied
  advances told place login answer w so t b v h =
      let s = stage w.node w.disk in
      advances_by place login w (agent_step told place answer s) (replies_fit w.node.agent 0 (plain_in s) told place answer t b h.fits.agent) so v h

  replies_by : (told : Option Told) (place : ℕ) (answer : Answer) (login : Option Login) (is_awaited : Bool) (w : Whole) → ((x : Login) → login ≡ Some x → IsServed known x) → StepBy T login is_awaited (agent_step told place answer (stage w.node w.disk)).0 → BytesTold told → BytesIn answer → In known P (scene_of w) → In known P (scene_of (replied_by told place answer login is_awaited w))
  replies_by told place answer (Some login) true w v so t b h = advances told place login answer w so t b (v login refl) h
  replies_by told place answer (Some login) false w v so t b h = h
  replies_by told place answer None is_awaited w v so t b h = h

  replies : (told : Option Told) (place peer : ℕ) (label : LabelParts) (answer : Answer) (w : Whole) → StepBy T (served_login w.node) (awaits w.node place peer label) (agent_step told place answer (stage w.node w.disk)).0 → BytesTold told → BytesIn answer → In known P (scene_of w) → In known P (scene_of (replied_to told place peer label answer w))
  unfolding replied_to
  replies told place peer label answer w so t b h = replies_by told place answer (served_login w.node) (awaits w.node place peer label) w h.fits.served so t b h

  pub concludes : (told : Option Told) (purpose : Option TaskPurpose) (peer : ℕ) (label : LabelParts) (answer : Answer) (w : Whole) → RepliesTold T told purpose peer label answer w → BytesTold told → BytesIn answer → In known P (scene_of w) → In known P (scene_of (concluded told purpose peer label answer w))
  unfolding concluded
  concludes told None peer label answer w so t b h = h
  concludes told (Some purpose) peer label answer w so t b h = replies told purpose.place peer label answer w so t b h

  -- ---- a time-out
  expires_by : (place : ℕ) (login : Option Login) (is_awaited : Bool) (s : Scene) → ((x : Login) → login ≡ Some x → IsServed known x) → In known P s → In known P (expired_by place login is_awaited s)
  expires_by place (Some login) true s v h =
      let r = failed_step s.node.agent place Expired in
      let f = failed_fits T known P k s.node.agent place Expired tt h.fits.agent in
      follows T known P k login (about s.node.agent place) r.0 (scene (with_agent (taken place s.node) r.1) s.outbox) f.asks (k.leaves.node.failed s.node.agent place Expired tt) (v login refl)
      (record { made = h.made; fits = fits_agent known (taken place s.node) r.1 f.agent (fits_sent known s.node place None (none_of known) h.fits) })
  expires_by place (Some login) false s v h = h
  expires_by place None is_awaited s v h = h

  expires_at : (place peer : ℕ) (label : LabelParts) (s : Scene) → In known P s → In known P (expire_place place peer label s)
  unfolding expire_place
  expires_at place peer label s h = expires_by place (served_login s.node) (awaits s.node place peer label) s h.fits.served h

  pub times_out : (purpose : Option TaskPurpose) (peer : ℕ) (label : LabelParts) (s : Scene) → In known P s → In known P (timed_out purpose peer label s)
  times_out None peer label s h = h
  times_out (Some purpose) peer label s h = expires_at purpose.place peer label s h
