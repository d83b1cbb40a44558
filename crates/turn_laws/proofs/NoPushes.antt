-- What an agent or the management operation wrote to an initiator that injected nothing is no unsolicited status: the management writes responses and its status blocks, an agent the status of an ORB or data into a buffer.
use Rattle.std.proofs.Common.{arith, ◌≡◌, ◌∙◌, refl, sym, ap, subst, ℕ, zero, suc, ◌+◌, ◌<◌, ◌≤◌, ◌^◌, ◌==◌, ◌&&◌, nat_le, Bool, true, false, cond, List, [], ◌∷◌, length, Option, Some, None}
use Rattle.std.proofs.lemmas.Bool.Decides.{nat_tests}
use Rattle.std.proofs.lemmas.Option.{none-some, same_Some}
use Rattle.bus_memory.specs.Windows.{is_fifo, window_at}
use Rattle.bus_transactions.specs.Packets.{SerialsCount}
use Rattle.command_agent.specs.Machine.{Machine, state_in}
use Rattle.command_agent.specs.Steps.{is_reset, src_of}
use Rattle.command_agent.specs.Tasks.{writes_status}
use Rattle.command_agent.specs.declared.phase.Phase.{Phase}
use Rattle.command_agent.specs.declared.phase.Phase.TheVariants as phases
use Rattle.label_table.specs.Bodies.{Body, block_read, block_write, quadlet_read, quadlet_write}
use Rattle.media_bay.specs.Unsolicited.{is_block}
use Rattle.mgmt_agent.specs.declared.operation.Operation.{Operation}
use Rattle.orb_layout.specs.declared.ask.Ask.{Ask}
use Rattle.orb_layout.specs.declared.ask.Ask.TheVariants.{Nothing, Read, Write}
use Rattle.orb_layout.specs.declared.pointer.OrbPointer.{OrbPointer}
use Rattle.orb_layout.specs.declared.pointer.OrbPointer.TheVariants as pointers
use Rattle.rbc_disk.specs.Disk.{Disk}
use Rattle.sbp_journal.specs.Addresses.{Access}
use Rattle.sbp_journal.specs.Run.{Moment, asked, said}
use Rattle.sbp_journal.specs.Wire.{Terms, terms}
use Rattle.sbp_journal.specs.declared.event.Event.TheVariants as events
use Rattle.sbp_laws.specs.Agents.{fifo_in}
use Rattle.sbp_laws.specs.JudgementLaw.{is_login_fifo}
use Rattle.sbp_laws.specs.Packets.{access_at, receiver_in}
use Rattle.sbp_laws.specs.Targets.{Agent, Target, agent_at, initiator_at, login_at, over, taken_on, target_at}
use Rattle.sbp_target.specs.Management.{manager_body}
use Rattle.sbp_target.specs.Nodes.{desk_at}
use Rattle.sbp_target.proofs.Histories.Calling.{not_eight}
use Rattle.sbp_target.proofs.Histories.Following.{IsServed}
use Rattle.sbp_world.specs.Agents.AskedRuns.{HasAsked, IsAccessFor, WaitsForAsked, read_access}
use Rattle.sbp_world.specs.Agents.Alike.{answers, has_list}
use Rattle.sbp_world.specs.Agents.Crews.{IsOf, agent_in}
use Rattle.sbp_world.specs.Lists.Contents.{WasAsked, access_for}
use Rattle.sbp_world.specs.Lists.FewLogins.{IsCalmBeside}
use Rattle.sbp_world.specs.Lists.Needs.{initiator_in, machine_at}
use Rattle.sbp_world.specs.Making.{notes_begin}
use Rattle.sbp_world.specs.Worlds.{Scene, WorldState}
use Rattle.sbp_world.proofs.Agents.Management.Still.{hist}
use Rattle.sbp_world.proofs.Common.{none_is, untrue}
use Rattle.sbp_world.proofs.Lists.AgentFolds.{new_there}
use Rattle.sbp_world.proofs.Lists.ContentManages.{bound}
use Rattle.sbp_world.proofs.Lists.DataShut.{low_buffer}
use Rattle.sbp_world.proofs.Lists.OrbsRead.{access_there}
use Rattle.sbp_world.proofs.Lists.SentInTurn.{all_over}
use Rattle.sbp_world.proofs.Wire.Starts.{laws_of}
use Rattle.agent_laws.specs.Along.Requests.{main_ask}
use Rattle.turn_laws.proofs.AgentHere.{good, initiator_is}
use Rattle.turn_laws.proofs.AnswerPlaces.{IsToBuffer}
use Rattle.turn_laws.proofs.DeathAnswers.{asked_here}
use Rattle.turn_laws.proofs.HeldBlocks.{HasBlock, blocks_held}
use Rattle.turn_laws.proofs.ManagerBytes.{manager_mild}
use Rattle.turn_laws.proofs.OtherBlocks.{status_other}
use Rattle.turn_laws.proofs.Places.{Place}
use Rattle.turn_laws.proofs.PushOwners.{IsOwned, of_main, of_manager}

-- a write that its row tells of as an unsolicited status
pub record IsPush (access : Access) : Type 0 where
  pub writes : access.is_write ≡ true
  pub fifo : is_login_fifo access.offset ≡ true
  pub block : is_block access.payload ≡ true

-- ---- such a write goes to no buffer
high_fifo : (offset : ℕ) → is_login_fifo offset ≡ true → 0x12002000 ≤ offset
unfolding is_fifo
high_fifo offset e = grind (arith, nat_tests)

some_bytes : (bytes : List ℕ) → is_block bytes ≡ true → 0 < length bytes
some_bytes [] e = untrue e
some_bytes (byte ∷ bytes) e = omega arith

-- ---- what the management writes
no_body : {A : Type 0} (body : Body) → None ≡ Some body → A
no_body body e = absurd (none-some body e)

read_only : (b : Bool) (x y : Option Body) (at : ℕ) (payload : List ℕ) → (x ≡ Some (block_write at payload) → ⊥) → (y ≡ Some (block_write at payload) → ⊥) → cond b x y ≡ Some (block_write at payload) → ⊥
read_only true x y at payload f g e = f e
read_only false x y at payload f g e = g e

no_quadlet : (offset at : ℕ) (payload : List ℕ) → Some (quadlet_read offset) ≡ Some (block_write at payload) → ⊥
no_quadlet offset at payload e = cc

no_read : (offset count at : ℕ) (payload : List ℕ) → Some (block_read offset count) ≡ Some (block_write at payload) → ⊥
no_read offset count at payload e = cc

if_wrote : (b : Bool) (offset at : ℕ) (out payload : List ℕ) → cond b (Some (block_write offset out)) None ≡ Some (block_write at payload) → payload ≡ out
if_wrote true offset at out payload e = cc
if_wrote false offset at out payload e = no_body (block_write at payload) e

wrote : (ask : Ask) (out : List ℕ) (at : ℕ) (payload : List ℕ) → manager_body ask out ≡ Some (block_write at payload) → payload ≡ out
wrote Nothing out at payload e = no_body (block_write at payload) e
wrote (Read offset len) out at payload e =
    absurd (read_only (len == 4) (Some (quadlet_read offset)) (cond (nat_le len 2048) (Some (block_read offset len)) None) at payload (no_quadlet offset at payload)
    (read_only (nat_le len 2048) (Some (block_read offset len)) None at payload (no_read offset len at payload) (λ f. no_body (block_write at payload) f)) e)
wrote (Write offset len) out at payload e = if_wrote (nat_le (length out) 2048) offset at out payload e

body_no_push : (ask : Ask) (out : List ℕ) (body : Body) → manager_body ask out ≡ Some body → is_block out ≡ false → IsPush (access_for body) → ⊥
body_no_push ask out (quadlet_write offset value) e mild p = untrue p.block
body_no_push ask out (block_write at payload) e mild p = untrue (sym mild ∙ (ap is_block (sym (wrote ask out at payload e)) ∙ p.block))
body_no_push ask out (quadlet_read offset) e mild p = untrue p.writes
body_no_push ask out (block_read offset count) e mild p = untrue p.writes

-- ---- an agent that has sent a main request is one of the eight
inside : (agents : List Agent) (p s : ℕ) → (agent_in agents p).main ≡ Some s → p < length agents
inside [] p s e = none_is s e
inside (a ∷ agents) zero s e = omega arith
inside (a ∷ agents) (suc p) s e = let l = inside agents p s e in omega (arith, l)

-- a status is written while a list is open
up_in : (phase : Phase) → writes_status phase ≡ true → has_list phase ≡ true
up_in phases.WritingStatus e = refl
up_in phases.WritingLastStatus e = refl
up_in phase e = untrue e

below_two : (next : OrbPointer) → src_of next < 2
below_two pointers.Null = omega arith
below_two (pointers.At offset) = omega arith

and_none : (b : Bool) → (b && false) ≡ false
and_none true = refl
and_none false = refl

no_push : (access : Access) → is_block access.payload ≡ false → IsPush access → ⊥
no_push access e p = untrue (sym e ∙ p.block)

module _ (units ready : ℕ) (has : 0 < units) (start : List Disk) (past : List Moment) (s : Scene) (here : Place units ready start past s) where
  abbrev w : WorldState
  w = s.world

  abbrev ms : List Moment
  ms = hist past w

  abbrev wire : Terms
  wire = terms ms

  abbrev T : Target
  T = over (target_at start ms)

  counts : SerialsCount ms
  counts = (laws_of past w here.holds.sound.stands).serials

  -- ---- an agent's main request
  module _ (p serial i : ℕ) (b : p < 8) (main : (agent_at T p).main ≡ Some serial) (calm : IsCalmBeside ms i) (to : receiver_in (wire.sent serial) ≡ Some (suc i)) where
    abbrev a : Agent
    a = agent_at T p

    abbrev desk : Machine
    desk = machine_at w p

    of : IsOf here.agents.requests a (desk_at w.target p)
    of = here.agents.are.each p b

    waits : WaitsForAsked wire (initiator_at T wire p) (fifo_in (login_at T p)) a
    waits = (asked_here units ready has start past s here).all p b

    asks : HasAsked wire (initiator_at T wire p) (fifo_in (login_at T p)) serial (main_ask a.machine.phase a.machine) (writes_status a.machine.phase)
    asks = waits.main serial main

    -- it is of the initiator that gets it
    owner : initiator_at T wire p ≡ i
    owner = let e = same_Some (initiator_at T wire p + 1) (suc i) (sym asks.to ∙ to) in omega (arith, e)

    module _ (access : Access) (is : access_at wire serial ≡ Some access) (push : IsPush access) where
      same : access ≡ asks.access
      same = same_Some access asks.access (sym is ∙ asks.is)

      reads : (offset size : ℕ) → asks.access ≡ read_access offset size → ⊥
      reads offset size e = untrue (sym (ap (λ (x : Access). x.is_write) (same ∙ e)) ∙ push.writes)

      -- its status block
      status : (phase : Phase) → a.machine.phase ≡ phase → writes_status phase ≡ true → answers phase ≡ false → ⊥
      status phase e writes other =
          let up : has_list desk.phase ≡ true = ap has_list (sym of.machine.phase ∙ e) ∙ up_in phase writes in
          let told : (a.untold && answers a.machine.phase) ≡ false = ap (λ x. a.untold && answers x) e ∙ (ap (λ x. a.untold && x) other ∙ and_none a.untold) in
          let held : HasBlock a.machine = blocks_held start ms counts p (ap writes_status e ∙ writes) in
          let small : a.machine.present < 2 ^ 48 = subst (λ n. n < 2 ^ 48) (sym (of.machine.present up)) (here.holds.sound.nodes.target_holds.fits.agents p).present in
          let bytes = waits.bytes serial main told access is push.writes ∙ held.bytes in
          no_push access (ap is_block bytes ∙ status_other (src_of a.machine.orb.next) a.machine.present held.kind (below_two a.machine.orb.next) small) push

      -- data
      up : a.machine.phase ≡ phases.Answering → is_reset (state_in desk.phase) ≡ false
      up e = ap (λ x. is_reset (state_in x)) (sym of.machine.phase ∙ e)

      served : a.machine.phase ≡ phases.Answering → IsServed w.target p
      served e = (good units ready has start past s here).mid.served p b (not_eight p b) (up e)

      data_goes : a.machine.phase ≡ phases.Answering → IsToBuffer wire serial
      data_goes e =
          let own = served e in
          let is_it : initiator_in w p ≡ i = sym (initiator_is units ready has start past s here p own.login own.is own.live) ∙ owner in
          here.answers p serial b (subst (λ j. IsCalmBeside ms j) (sym is_it) calm) (sym of.machine.phase ∙ e) main

      no_data : a.machine.phase ≡ phases.Answering → ⊥
      no_data e =
          let goes = data_goes e in
          let to_same : goes.access ≡ access = same_Some goes.access access (sym goes.is ∙ is) in
          let some : 0 < length goes.access.payload = subst (λ (x : Access). 0 < length x.payload) (sym to_same) (some_bytes access.payload push.block) in
          low_buffer access.offset (high_fifo access.offset push.fifo) goes.slot (ap (λ (x : Access). window_at x.offset) (sym to_same) ∙ goes.goes some)

      by_phase : (phase : Phase) → a.machine.phase ≡ phase → IsAccessFor (main_ask phase a.machine) (writes_status phase) (fifo_in (login_at T p)) asks.access → ⊥
      by_phase phases.Fetching e x = reads _ _ x
      by_phase phases.ReadingTable e x = reads _ _ x
      by_phase (phases.ReadingData wanted) e x = reads _ _ x
      by_phase phases.ReadingNext e x = reads _ _ x
      by_phase phases.Answering e x = no_data e
      by_phase phases.WritingStatus e x = status phases.WritingStatus e refl refl
      by_phase phases.WritingLastStatus e x = status phases.WritingLastStatus e refl refl
      by_phase phases.Reset e x = x
      by_phase phases.Suspended e x = x
      by_phase phases.Dead e x = x

      pub main_no_push : ⊥
      main_no_push = by_phase a.machine.phase refl asks.asks

  -- ---- the request of the operation
  module _ (serial : ℕ) (manages : (target_at start ms).manages ≡ Some serial) (access : Access) (is : access_at wire serial ≡ Some access) (push : IsPush access) where
    by_operation : (operation : Option Operation) → (target_at start ms).manager.operation ≡ operation → ⊥
    by_operation None e = none-some serial (sym ((bound start ms counts).bare e) ∙ manages)
    by_operation (Some op) e =
        let was : WasAsked start ms serial op = here.contents.each serial op (((bound start ms counts).own serial manages).0 ∙ e) in
        let spelled : access ≡ was.access = same_Some access was.access (sym is ∙ access_there start ms counts serial op was) in
        let body : access ≡ access_for was.asked.body = spelled ∙ same_Some was.access (access_for was.asked.body) (sym was.spelled ∙ was.asked.access) in
        let before = target_at start was.before in
        body_no_push before.manager_asks before.manager.outgoing was.asked.body was.asked.asks (manager_mild start was.before) (subst IsPush body push)

    pub manager_no_push : ⊥
    manager_no_push = by_operation (target_at start ms).manager.operation refl

-- ---- at each place
abbrev pub OwnNoPush : List Disk → List Moment → Type 0
OwnNoPush start ms =
    (serial i : ℕ) → (target_at start ms).reply ≡ None → IsOwned (target_at start ms) serial → IsCalmBeside ms i → receiver_in ((terms ms).sent serial) ≡ Some (suc i)
    → (access : Access) → access_at (terms ms) serial ≡ Some access → IsPush access → ⊥

pub own_no_push : (units ready : ℕ) (start : List Disk) → 0 < units → (past : List Moment) (s : Scene) → Place units ready start past s → OwnNoPush start (hist past s.world)
own_no_push units ready start has past s here serial i none (of_manager manages nothing) calm to access is push = manager_no_push units ready has start past s here serial manages access is push
own_no_push units ready start has past s here serial i none (of_main p main nothing) calm to access is push =
    let t = target_at start (hist past s.world) in
    let same : (taken_on None t.reply t).agents ≡ t.agents = ap (λ r. (taken_on None r t).agents) none in
    let there : (agent_at (over t) p).main ≡ Some serial = all_over (taken_on None t.reply t).agents p ∙ (ap (λ (xs : List Agent). (agent_in xs p).main) same ∙ main) in
    let few = inside (over t).agents p serial there in
    let eight = here.agents.are.size in
    main_no_push units ready has start past s here p serial i (omega (arith, few, eight)) there calm to access is push

-- and as a run begins
pub first_no_push : (start : List Disk) (line initiators : ℕ) (is_ready : Bool) → OwnNoPush start (said (notes_begin initiators is_ready) ∷ asked line (events.Begin initiators is_ready) ∷ [])
first_no_push start line initiators is_ready serial i none (of_main p main nothing) calm to access is push = none_is serial (sym (ap (λ (a : Agent). a.main) (new_there 8 p)) ∙ main)
first_no_push start line initiators is_ready serial i none (of_manager manages nothing) calm to access is push = none_is serial manages
