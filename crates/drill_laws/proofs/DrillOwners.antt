-- What the agents of the target keep of the requests that are theirs, note by note, in a history in which none of them is put into RESET.
use Rattle.std.proofs.Common.{◌≡◌, ◌∙◌, ◌⊎◌, inl, inr, refl, sym, ap, subst, ℕ, zero, suc, ◌==◌, Bool, true, false, cond, List, [], ◌∷◌, length, map, Option, Some, None, position, slice_set}
use Rattle.std.proofs.lemmas.List.{length-map, length-set}
use Rattle.command_agent.specs.Steps.{point_step, reply_step}
use Rattle.command_agent.specs.declared.step.AgentStep.{AgentStep}
use Rattle.command_agent.specs.declared.step.Which.{Which}
use Rattle.command_agent.specs.declared.step.Which.TheVariants.{Ahead, Main}
use Rattle.command_agent.specs.Machine.{Machine}
use Rattle.mgmt_agent.specs.Machine as manager
use Rattle.mgmt_agent.specs.declared.operation.Busy.{Busy}
use Rattle.orb_layout.specs.Pointers.{offset_at, pointer_at}
use Rattle.orb_layout.specs.Replies.{Answer}
use Rattle.orb_layout.specs.declared.ask.Ask.{Ask}
use Rattle.orb_layout.specs.declared.ask.Ask.TheVariants.{Nothing}
use Rattle.orb_layout.specs.declared.ask.FailCause.TheVariants as causes
use Rattle.rbc_disk.specs.Runs.{Told}
use Rattle.std.specs.Prelude.{Result, Ok, Err, unwrap_or}
use Rattle.sbp_journal.specs.Addresses.{Access, Register, Start, agent_reset, agent_state, doorbell, management_agent, no_start, orb_pointer, register, rom_start, start_at, start_serves, unsolicited_enable}
use Rattle.sbp_journal.specs.Run.{Moment, said}
use Rattle.sbp_journal.specs.Transactions.{Part, no_packet, part_of, request, response}
use Rattle.sbp_journal.specs.Wire.{Terms}
use Rattle.sbp_journal.specs.declared.note.Note.{Note}
use Rattle.sbp_journal.specs.declared.note.Note.TheVariants as notes
use Rattle.sbp_laws.specs.Packets.{access_at, access_in_bytes, answer_in, id_for, packet_at, sender_in}
use Rattle.sbp_laws.specs.Targets.{Agent, Purpose, Reply, Target, agent_at, agent_over, closed, for_agent, for_manager, for_nobody, going_on, got_by, is_own_run, is_write_access, main_lost, moved, over, plain_for, points, purpose_of, ran_on, register_got, replied_to, request_got, rings, sends_of, sent_as, sent_for, start_got, started_by, taken_on, target_by, told_in, untold_by, wants, wants_it, with_untold}
use Rattle.sbp_world.specs.Agents.Crews.{agent_in}
use Rattle.sbp_world.proofs.Common.{untrue}
use Rattle.sbp_world.proofs.Lists.AgentFolds.{set_or}
use Rattle.drill_laws.specs.DrillCalm.{IsCalmNote}
use Rattle.drill_laws.proofs.DrillAgents.{points_so}
use Rattle.drill_laws.proofs.DrillHosts.{RestsIdle, never_managed}
use Rattle.drill_laws.proofs.DrillKeeps.{Keeps, ends, loses, pointed_keeps, rung, self, sends, then_keeps, untold}
use Rattle.drill_laws.proofs.DrillMoments.{DrillAt}
use Rattle.drill_laws.proofs.DrillReplies.{Closes, replies_ahead, replies_main}
use Rattle.drill_laws.proofs.DrillRings.{IsRing, bells, points as rings_pointer}

-- ---- a reply
pub taken_reply : (told : Option Told) (reply : Option Reply) (t : Target) → t.reply ≡ reply → (taken_on told reply t).reply ≡ None
taken_reply told None t e = e
taken_reply told (Some reply) t e = refl

pub untold_reply : (note : Note) (reply : Option Reply) (t : Target) → (with_untold note reply t).reply ≡ t.reply
untold_reply note None t = refl
untold_reply note (Some reply) t = refl

-- ---- a note that is none of a packet that is got
abbrev pub NotGot : Note → Type 0
NotGot (notes.Got serial) = ⊥
NotGot note = Unit {0}

-- what a packet to the target asks for
abbrev pub IsMild : Access → Type 0
IsMild access = access.is_write ≡ true → IsRing access.offset

no_reset : (access : Access) (place : ℕ) → IsMild access → start_at access.offset ≡ register place agent_reset → start_serves (register place agent_reset) access ≡ true → ⊥
no_reset access place mild e serves = by (mild (writes access.is_lock access.is_write access.is_block serves))
  where
    writes : (l w b : Bool) → start_serves (register place agent_reset) (record access { is_lock = l; is_write = w; is_block = b }) ≡ true → w ≡ true
    writes true w b e = untrue e
    writes false true b e = refl
    writes false false b e = untrue e

    by : IsRing access.offset → ⊥
    by (rings_pointer other f) = let no : register place agent_reset ≡ register other orb_pointer = sym e ∙ f in cc no
    by (bells other f) = let no : register place agent_reset ≡ register other doorbell = sym e ∙ f in cc no

module _ (Live : ℕ → Type 0) where
  -- ---- the agents of all places
  pub record Goes (before now : List Agent) : Type 0 where
    pub each : (p : ℕ) → Keeps Live (agent_in before p) (agent_in now p)
    pub size : length now ≡ length before

  pub stay : (agents : List Agent) → Goes agents agents
  stay agents = record { each = λ p. self Live (agent_in agents p); size = refl }

  then_goes : (a b c : List Agent) → Goes a b → Goes b c → Goes a c
  then_goes a b c f g = record { each = λ p. then_keeps Live (agent_in a p) (agent_in b p) (agent_in c p) (f.each p) (g.each p); size = g.size ∙ f.size }

  set_each : (agents : List Agent) (k : ℕ) (x : Agent) → Keeps Live (agent_in agents k) x → (p : ℕ) → Keeps Live (agent_in agents p) (agent_in (slice_set agents k x) p)
  set_each [] k x h p = self Live (agent_in [] p)
  set_each (a ∷ agents) zero x h zero = h
  set_each (a ∷ agents) zero x h (suc p) = self Live (agent_in agents p)
  set_each (a ∷ agents) (suc k) x h zero = self Live a
  set_each (a ∷ agents) (suc k) x h (suc p) = set_each agents k x h p

  set_goes : (agents : List Agent) (k : ℕ) (x : Agent) → Keeps Live (agent_in agents k) x → Goes agents (slice_set agents k x)
  set_goes agents k x h = record { each = set_each agents k x h; size = length-set agents k x }

  map_each : (f : Agent → Agent) (agents : List Agent) → ((a : Agent) → Keeps Live a (f a)) → (p : ℕ) → Keeps Live (agent_in agents p) (agent_in (map f agents) p)
  map_each f [] h p = self Live (agent_in [] p)
  map_each f (a ∷ agents) h zero = h a
  map_each f (a ∷ agents) h (suc p) = map_each f agents h p

  map_goes : (f : Agent → Agent) (agents : List Agent) → ((a : Agent) → Keeps Live a (f a)) → Goes agents (map f agents)
  map_goes f agents h = record { each = map_each f agents h; size = length-map agents f }

  -- ---- the target
  -- what a reply that waits has answered is under way no more
  abbrev pub ClosedBy : Target → Option Reply → Type 0
  ClosedBy t None = Unit {0}
  ClosedBy t (Some reply) = Closes Live reply.which (agent_at t reply.place)

  pub record Moves (t x : Target) : Type 0 where
    pub goes : Goes t.agents x.agents
    pub closed : ClosedBy x x.reply

  pub rested : (t x : Target) → Goes t.agents x.agents → x.reply ≡ None → Moves t x
  rested t x g e = record { goes = g; closed = subst (ClosedBy x) (sym e) tt }

  pub takes_on : (told : Option Told) (reply : Option Reply) (t : Target) → ClosedBy t reply → Goes t.agents (taken_on told reply t).agents
  takes_on told None t h = stay t.agents
  takes_on told (Some reply) t h = set_goes t.agents reply.place (moved (step_by reply.which) (closed reply.which a)) (by reply.which h)
    where
      a : Agent
      a = agent_at t reply.place

      step_by : Which → AgentStep × Machine
      step_by which = reply_step a.machine reply.place (plain_for t reply) told which reply.answer

      by : (which : Which) → Closes Live which a → Keeps Live a (moved (step_by which) (closed which a))
      by Main c = replies_main Live a reply.place (plain_for t reply) told reply.answer c
      by Ahead c = replies_ahead Live a reply.place (plain_for t reply) told reply.answer c

  unsaid : (note : Note) (reply : Option Reply) (t : Target) → Goes t.agents (with_untold note reply t).agents
  unsaid note None t = stay t.agents
  unsaid note (Some reply) t =
      let a = agent_at t reply.place in
      let b = untold_by note (plain_for t reply) a.untold in
      set_goes t.agents reply.place (record a { untold = b }) (untold Live a b)

  unsaid_closes : (which : Which) (a : Agent) (b : Bool) → Closes Live which a → Closes Live which (record a { untold = b })
  unsaid_closes Main a b c = c
  unsaid_closes Ahead a b c = c

  unsaid_closed : (note : Note) (reply : Option Reply) (t : Target) → ClosedBy t reply → ClosedBy (with_untold note reply t) reply
  unsaid_closed note None t h = tt
  unsaid_closed note (Some reply) t h = by (set_or t.agents reply.place x reply.place)
    where
      x : Agent
      x = record (agent_at t reply.place) { untold = untold_by note (plain_for t reply) (agent_at t reply.place).untold }

      by : ((reply.place ≡ reply.place) × (agent_in (slice_set t.agents reply.place x) reply.place ≡ x)) ⊎ (agent_in (slice_set t.agents reply.place x) reply.place ≡ agent_in t.agents reply.place) → Closes Live reply.which (agent_in (slice_set t.agents reply.place x) reply.place)
      by (inl e) = subst (λ (y : Agent). Closes Live reply.which y) (sym e.1) (unsaid_closes reply.which (agent_at t reply.place) x.untold h)
      by (inr e) = subst (λ (y : Agent). Closes Live reply.which y) (sym e) h

  goes_on_by : (note : Note) (t : Target) → ClosedBy t t.reply → Moves t (going_on note t)
  goes_on_by note t h =
      let u = with_untold note t.reply t in
      rested t (going_on note t)
      (then_goes t.agents u.agents (going_on note t).agents (unsaid note t.reply t) (takes_on (told_in t.reply note t) t.reply u (unsaid_closed note t.reply t h)))
      (taken_reply (told_in t.reply note t) t.reply u (untold_reply note t.reply t))

  pub settles : (t : Target) → ClosedBy t t.reply → Goes t.agents (taken_on None t.reply t).agents
  settles t h = takes_on None t.reply t h

  pub ends_turn : (t : Target) → ClosedBy t t.reply → Goes t.agents (over t).agents
  ends_turn t h = then_goes t.agents (taken_on None t.reply t).agents (over t).agents (settles t h) (map_goes agent_over (taken_on None t.reply t).agents (ends Live))

  pub over_reply : (t : Target) → (over t).reply ≡ None
  over_reply t = taken_reply None t.reply t refl

  -- ---- what it gets
  module _ (t : Target) (none : t.reply ≡ None) where
    same : Moves t t
    same = rested t t (stay t.agents) none

    registers : (name : Register) (place : ℕ) (access : Access) → (name ≡ agent_reset → ⊥) → Moves t (register_got name place access t)
    registers agent_reset place access not = absurd (not refl)
    registers orb_pointer place access not = by access.is_write
      where
        a : Agent
        a = agent_at t place

        by : (b : Bool) → Moves t (cond b (record t { agents = slice_set t.agents place (points access a) }) t)
        by true = rested t (record t { agents = slice_set t.agents place (points access a) }) (set_goes t.agents place (points access a) (pointed_keeps Live (point_step a.machine (pointer_at access.payload 0)) (offset_at access.payload 0) a (points_so a.machine (pointer_at access.payload 0)))) none
        by false = same
    registers doorbell place access not = rested t (register_got doorbell place access t) (set_goes t.agents place (rings (agent_at t place)) (rung Live (agent_at t place))) none
    registers unsolicited_enable place access not = rested t (register_got unsolicited_enable place access t) (stay t.agents) none
    registers agent_state place access not = same

    starts_by : (r : Result Ask Busy × manager.Machine) → Moves t (started_by r t)
    starts_by (Err busy, machine) = same
    starts_by (Ok ask, machine) = rested t (started_by (Ok ask, machine) t) (stay t.agents) none

    starts_got : (start : Start) (source : ℕ) (access : Access) → ((place : ℕ) → start ≡ register place agent_reset → ⊥) → Moves t (start_got start source access t)
    starts_got (register place name) source access not = registers name place access (λ e. not place (ap (register place) e))
    starts_got management_agent source access not = starts_by (manager.start_step t.manager source (offset_at access.payload 0))
    starts_got rom_start source access not = same
    starts_got no_start source access not = same

    requests_got : (access : Option Access) (source : ℕ) → ((asked : Access) → access ≡ Some asked → IsMild asked) → Moves t (request_got access source t)
    requests_got None source mild = same
    requests_got (Some access) source mild = by (start_serves (start_at access.offset) access) refl
      where
        by : (b : Bool) → start_serves (start_at access.offset) access ≡ b → Moves t (cond b (start_got (start_at access.offset) source access t) t)
        by true e = starts_got (start_at access.offset) source access (λ place f. no_reset access place (mild access refl) f (ap (λ s. start_serves s access) (sym f) ∙ e))
        by false e = same

    replies_to : (purpose : Purpose) (answer : Answer) → (purpose ≡ for_manager → ⊥) → ((place : ℕ) (which : Which) → purpose ≡ for_agent place which → Closes Live which (agent_at t place)) → Moves t (replied_to purpose answer t)
    replies_to (for_agent place which) answer not c = record { goes = stay t.agents; closed = c place which refl }
    replies_to for_manager answer not c = absurd (not refl)
    replies_to for_nobody answer not c = same

    -- what its own request brings closes that
    abbrev pub ClosesOwn : Option ℕ → Type 0
    ClosesOwn own = (place serial : ℕ) (which : Which) → own ≡ Some serial → purpose_of t serial ≡ for_agent place which → Closes Live which (agent_at t place)

    pub gets_by : (own : Option ℕ) (wire : Terms) (serial : ℕ) → RestsIdle t → ClosesOwn own → ((asked : Access) → access_at wire serial ≡ Some asked → IsMild asked) → Moves t (got_by own wire serial t)
    gets_by (Some own) wire serial idle c mild = replies_to (purpose_of t own) (answer_in (packet_at wire serial)) (never_managed t own idle) (λ place which e. c place own which refl e)
    gets_by None wire serial idle c mild = requests_got (access_at wire serial) (id_for wire 0 (unwrap_or (sender_in (wire.sent serial)) 0)) mild

  -- ---- what it sends
  sends_for : (place : Option ℕ) (is_write : Bool) (serial : ℕ) (t : Target) → t.reply ≡ None → Moves t (sent_for place is_write serial t)
  sends_for (Some place) is_write serial t e = rested t (sent_for (Some place) is_write serial t) (set_goes t.agents place (sends_of is_write serial (agent_at t place)) (sends Live is_write serial (agent_at t place))) e
  sends_for None is_write serial t e = by (wants t.manager_asks is_write)
    where
      by : (b : Bool) → Moves t (cond b (record t { manages = Some serial; manager_asks = Nothing }) (record t { pushes = serial ∷ t.pushes }))
      by true = rested t (record t { manages = Some serial; manager_asks = Nothing }) (stay t.agents) e
      by false = rested t (record t { pushes = serial ∷ t.pushes }) (stay t.agents) e

  sends_as : (part : Part) (is_write : Bool) (serial : ℕ) (t : Target) → t.reply ≡ None → Moves t (sent_as part is_write serial t)
  sends_as (request label kind) is_write serial t e = sends_for (position (wants_it is_write) t.agents) is_write serial t e
  sends_as (response label kind) is_write serial t e = rested t t (stay t.agents) e
  sends_as no_packet is_write serial t e = rested t t (stay t.agents) e

  pub behind : (t x y : Target) → Goes t.agents x.agents → Moves x y → Moves t y
  behind t x y f m = record { goes = then_goes t.agents x.agents y.agents f m.goes; closed = m.closed }

  -- ---- each note
  runs_on : (is_own : Bool) (note : Note) (t : Target) → ClosedBy t t.reply → Moves t (ran_on is_own note t)
  runs_on true note t h = goes_on_by note t h
  runs_on false note t h = rested t (taken_on None t.reply t) (settles t h) (taken_reply None t.reply t refl)

  pub note_moves : (note : Note) (past : List Moment) (wire : Terms) (t : Target) → NotGot note → DrillAt (said note) past → IsCalmNote note → ClosedBy t t.reply → Moves t (target_by note past wire t)
  note_moves (notes.Begin initiators ready) past wire t g d calm h = record { goes = stay t.agents; closed = h }
  note_moves (notes.Got serial) past wire t g d calm h = absurd g
  note_moves (notes.Ignored serial cause) past wire t g d calm h = rested t (over t) (ends_turn t h) (over_reply t)
  note_moves (notes.TimedOut serial) past wire t g d calm h = untrue d
  note_moves (notes.Seen node generation) past wire t g d calm h = untrue d
  note_moves notes.Tick past wire t g d calm h = untrue d
  note_moves (notes.Key unit) past wire t g d calm h = untrue d
  note_moves (notes.Ran i n k unit cdb bytes check) past wire t g d calm h =
      let own = is_own_run t.reply i wire t in
      let m = runs_on own (notes.Ran i n k unit cdb bytes check) t h in
      record { goes = m.goes; closed = m.closed }
  note_moves (notes.Sent serial generation from to bytes) past wire t g d calm h = behind t x (target_by (notes.Sent serial generation from to bytes) past wire t) (settles t h) (by (from == 0))
    where
      x : Target
      x = taken_on None t.reply t

      by : (b : Bool) → Moves x (cond b (sent_as (part_of bytes) (is_write_access (access_in_bytes bytes)) serial x) x)
      by true = sends_as (part_of bytes) (is_write_access (access_in_bytes bytes)) serial x (taken_reply None t.reply t refl)
      by false = rested x x (stay x.agents) (taken_reply None t.reply t refl)
  note_moves (notes.Dead i n causes.Label) past wire t g d calm h =
      let x = taken_on None t.reply t in
      rested t (target_by (notes.Dead i n causes.Label) past wire t) (then_goes t.agents x.agents (map main_lost x.agents) (settles t h) (map_goes main_lost x.agents (loses Live))) (taken_reply None t.reply t refl)
  note_moves (notes.ManageFailed i cause) past wire t g d calm h = absurd calm
  note_moves (notes.Managed i function subject status login) past wire t g d calm h = absurd calm
  note_moves (notes.Held id) past wire t g d calm h = absurd calm
  note_moves (notes.Back id) past wire t g d calm h = absurd calm
  note_moves (notes.Left id) past wire t g d calm h = absurd calm
  note_moves (notes.Expired id) past wire t g d calm h = absurd calm
  note_moves (notes.Cleared unit) past wire t g d calm h = absurd calm
  note_moves (notes.Unsolicited i) past wire t g d calm h = record { goes = stay t.agents; closed = h }
  note_moves note past wire t g d calm h = goes_on_by note t h
