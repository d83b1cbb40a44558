-- An initiator of a drill has no operation, no read of AGENT_STATE, and its first login; and an idle target stays idle where nothing reaches its management.
use Rattle.std.proofs.Common.{◌≡◌, ◌∙◌, refl, sym, ap, subst, ℕ, zero, suc, ◌+◌, ◌==◌, ◌&&◌, not, Bool, true, false, cond, List, [], ◌∷◌, Option, Some, None}
use Rattle.rbc_disk.specs.Disk.{Disk}
use Rattle.rbc_disk.specs.Runs.{Told}
use Rattle.command_agent.specs.declared.step.Which.TheVariants.{Ahead, Main}
use Rattle.orb_layout.specs.Replies.{Answer, Done}
use Rattle.orb_layout.specs.declared.ask.Ask.TheVariants.{Nothing}
use Rattle.orb_layout.specs.declared.ask.FailCause.TheVariants as fails
use Rattle.sbp_journal.specs.Addresses.{Access, Register, Start, agent_reset, agent_state, doorbell, management_agent, no_start, orb_pointer, register, rom_start, start_at, start_serves, unsolicited_enable}
use Rattle.sbp_journal.specs.Run.{Moment, asked, said}
use Rattle.sbp_journal.specs.Transactions.{Part, no_packet, part_of, request, response}
use Rattle.sbp_journal.specs.Wire.{Terms, passed, terms}
use Rattle.sbp_journal.specs.declared.event.Event.{Event}
use Rattle.sbp_journal.specs.declared.event.Event.TheVariants as events
use Rattle.sbp_journal.specs.declared.event.Action.TheVariants as actions
use Rattle.sbp_journal.specs.declared.note.Note.{Note}
use Rattle.sbp_journal.specs.declared.note.Note.TheVariants as notes
use Rattle.sbp_laws.specs.Hosts.{Host, answered, goes_on, got_by, host_by, is_serial, list_begins, pointer_answered, ring, sent_as, sent_in, without_read}
use Rattle.sbp_laws.specs.Lists.{present_list}
use Rattle.sbp_laws.specs.Targets.{Agent, Purpose, Reply, Target, for_agent, for_manager, for_nobody, going_on, known_at, over, purpose_among, purpose_of, ran_on, replied_to, register_got, request_got, start_got, sent_for, taken_on, target_by, wants, with_untold}
use Rattle.sbp_laws.specs.Targets.{got_by as target_got, is_own_run, is_serial as target_serial, sent_as as target_sent}
use Rattle.sbp_laws.specs.Packets.{access_at}
use Rattle.sbp_laws.specs.Turns.{event_of}
use Rattle.drill_laws.specs.DrillCalm.{IsCalmNote}
use Rattle.drill_laws.specs.DrillLines.{IsDrillLine}

-- ---- the terms of both folds are those of the wire

pub target_wire : (start : List Disk) (past : List Moment) → (known_at start past).wire ≡ terms past
target_wire start [] = refl
target_wire start (asked line event ∷ past) = ap (λ w. passed (asked line event) w) (target_wire start past)
target_wire start (said note ∷ past) = ap (λ w. passed (said note) w) (target_wire start past)

-- ---- an initiator
pub record IsIdle (host : Host) : Type 0 where
  pub operation : host.operation ≡ None
  pub reads : host.reads ≡ []

-- it stays so, and keeps its login
pub record StaysIdle (old new : Host) : Type 0 where
  pub idle : IsIdle old → IsIdle new
  pub agent : IsIdle old → new.login.agent ≡ old.login.agent

same : (host : Host) → StaysIdle host host
same host = record { idle = λ h. h; agent = λ h. refl }

either : (b : Bool) (x host : Host) → StaysIdle host x → StaysIdle host (cond b x host)
either true x host s = s
either false x host s = same host

ring_idle : (pointer : Option ℕ) (serial : ℕ) (host : Host) → StaysIdle host (ring pointer serial host)
ring_idle None serial host = record { idle = λ h. record { operation = h.operation; reads = h.reads }; agent = λ h. refl }
ring_idle (Some first) serial host = record { idle = λ h. record { operation = h.operation; reads = h.reads }; agent = λ h. refl }

goes_idle : (host : Host) (serial : ℕ) → StaysIdle host (goes_on host.operation serial host)
goes_idle host serial = record {
  idle = λ h. subst IsIdle (sym (ap (λ o. goes_on o serial host) h.operation)) h;
  agent = λ h. ap (λ (g : Host). g.login.agent) (ap (λ o. goes_on o serial host) h.operation);
}

-- a line of a drill, or its first one
abbrev pub IsDrillEvent : Option Event → Type 0
IsDrillEvent None = Unit {0}
IsDrillEvent (Some (events.Begin initiators ready)) = Unit {0}
IsDrillEvent (Some event) = IsDrillLine event

in_idle : (event : Option Event) → IsDrillEvent event → (i : ℕ) (list : Option ℕ) (serial : ℕ) (host : Host) → StaysIdle host (sent_in event i list serial host)
in_idle None is i list serial host = goes_idle host serial
in_idle (Some (events.Begin initiators ready)) is i list serial host = goes_idle host serial
in_idle (Some (events.Act j (actions.Append cmd))) is i list serial host = by (j == i)
  where
    by : (b : Bool) → StaysIdle host (cond b (ring host.pointer serial host) (goes_on host.operation serial host))
    by true = ring_idle host.pointer serial host
    by false = goes_idle host serial
in_idle (Some events.Settle) is i list serial host = goes_idle host serial
in_idle (Some _) is i list serial host = absurd is

as_idle : (part : Part) (event : Option Event) → IsDrillEvent event → (i : ℕ) (list : Option ℕ) (serial : ℕ) (host : Host) → StaysIdle host (sent_as part event i list serial host)
as_idle (request label kind) event is i list serial host = in_idle event is i list serial host
as_idle (response label kind) event is i list serial host = same host
as_idle no_packet event is i list serial host = same host

pointed_same : (answer : Answer) (own : Bool) (host : Host) → ((pointer_answered answer own host).operation ≡ host.operation) × ((pointer_answered answer own host).login ≡ host.login)
pointed_same Done true host = (refl, refl)
pointed_same Done false host = (refl, refl)
pointed_same _ own host = (refl, refl)

answered_idle : (answer : Answer) (serial : ℕ) (present : Option ℕ) (host : Host) → StaysIdle host (answered answer serial present host)
answered_idle answer serial present host =
    let both = pointed_same answer (is_serial host.pointer serial) host in
    record {
      idle = λ h. record { operation = both.0 ∙ h.operation; reads = ap (without_read serial) h.reads };
      agent = λ h. ap (λ l. l.agent) both.1;
    }

got_idle : (own : Option ℕ) (wire : Terms) (serial : ℕ) (present : Option ℕ) (host : Host) → StaysIdle host (got_by own wire serial present host)
got_idle (Some own) wire serial present host = answered_idle _ own present host
got_idle None wire serial present host = record { idle = λ h. record { operation = h.operation; reads = h.reads }; agent = λ h. refl }

begins_idle : (k : ℕ) (host : Host) → StaysIdle host (list_begins k host)
begins_idle zero host = record { idle = λ h. record { operation = h.operation; reads = h.reads }; agent = λ h. refl }
begins_idle (suc k) host = same host

-- the notes of a drill behind its first one
abbrev pub IsLater : Note → Type 0
IsLater (notes.Begin initiators ready) = ⊥
IsLater (notes.TimedOut serial) = ⊥
IsLater (notes.Seen node generation) = ⊥
IsLater (notes.Key unit) = ⊥
IsLater notes.Tick = ⊥
IsLater note = Unit {0}

pub note_idle : (note : Note) (past : List Moment) (wire : Terms) (i : ℕ) (host : Host) → IsLater note → IsCalmNote note → IsDrillEvent (event_of past) → StaysIdle host (host_by note past wire i host)
note_idle (notes.Sent serial generation from to bytes) past wire i host later calm is = either ((from == suc i) && not (wire.injected serial)) _ host (as_idle (part_of bytes) (event_of past) is i (present_list past i) serial host)
note_idle (notes.Got serial) past wire i host later calm is = either _ _ host (got_idle _ wire serial (present_list past i) host)
note_idle (notes.Append j n k cdb buffer) past wire i host later calm is = either (j == i) _ host (begins_idle k host)
note_idle (notes.Taken j n k status answer) past wire i host later calm is = either (j == i) _ host (record { idle = λ h. record { operation = h.operation; reads = h.reads }; agent = λ h. refl })
note_idle (notes.Stuck j) past wire i host later calm is = either (j == i) _ host (record { idle = λ h. record { operation = h.operation; reads = h.reads }; agent = λ h. refl })
note_idle (notes.Op j operation word) past wire i host later calm is = absurd calm
note_idle (notes.Drop j n) past wire i host later calm is = absurd calm
note_idle (notes.Begin initiators ready) past wire i host later calm is = absurd later
note_idle (notes.TimedOut serial) past wire i host later calm is = absurd later
note_idle (notes.Seen node generation) past wire i host later calm is = absurd later
note_idle _ past wire i host later calm is = same host

-- ---- the target
pub record RestsIdle (target : Target) : Type 0 where
  pub manages : target.manages ≡ None
  pub asks : target.manager_asks ≡ Nothing

pub taken_idle : (told : Option Told) (reply : Option Reply) (target : Target) → RestsIdle target → RestsIdle (taken_on told reply target)
taken_idle told None target h = h
taken_idle told (Some reply) target h = record { manages = h.manages; asks = h.asks }

untold_idle : (note : Note) (reply : Option Reply) (target : Target) → RestsIdle target → RestsIdle (with_untold note reply target)
untold_idle note None target h = h
untold_idle note (Some reply) target h = record { manages = h.manages; asks = h.asks }

pub over_idle : (target : Target) → RestsIdle target → RestsIdle (over target)
over_idle target h = let settled = taken_idle None target.reply target h in record { manages = settled.manages; asks = refl }

going_idle : (note : Note) (target : Target) → RestsIdle target → RestsIdle (going_on note target)
going_idle note target h = taken_idle _ target.reply (with_untold note target.reply target) (untold_idle note target.reply target h)

ran_idle : (own : Bool) (note : Note) (target : Target) → RestsIdle target → RestsIdle (ran_on own note target)
ran_idle true note target h = going_idle note target h
ran_idle false note target h = taken_idle None target.reply target h

-- a packet of it is none of its management
pub none_wanted : (target : Target) (is_write : Bool) → RestsIdle target → wants target.manager_asks is_write ≡ false
none_wanted target is_write h = ap (λ a. wants a is_write) h.asks

for_idle : (place : Option ℕ) (is_write : Bool) (serial : ℕ) (target : Target) → RestsIdle target → RestsIdle (sent_for place is_write serial target)
for_idle (Some place) is_write serial target h = record { manages = h.manages; asks = h.asks }
for_idle None is_write serial target h = by (wants target.manager_asks is_write) (none_wanted target is_write h)
  where
    by : (b : Bool) → b ≡ false → RestsIdle (cond b (record target { manages = Some serial; manager_asks = Nothing }) (record target { pushes = serial ∷ target.pushes }))
    by true e = absurd (cc e)
    by false e = record { manages = h.manages; asks = h.asks }

sent_idle : (part : Part) (is_write : Bool) (serial : ℕ) (target : Target) → RestsIdle target → RestsIdle (target_sent part is_write serial target)
sent_idle (request label kind) is_write serial target h = for_idle _ is_write serial target h
sent_idle (response label kind) is_write serial target h = h
sent_idle no_packet is_write serial target h = h

either_idle : (b : Bool) (x y : Target) → RestsIdle x → RestsIdle y → RestsIdle (cond b x y)
either_idle true x y h k = h
either_idle false x y h k = k

-- ---- what it gets
-- no request is the management's
among_agents : (place : ℕ) (agents : List Agent) (serial : ℕ) → purpose_among place agents serial ≡ for_manager → ⊥
among_agents place [] serial e = absurd (cc e)
among_agents place (a ∷ agents) serial e = by (is_own a.main) (is_own a.ahead) (among_agents (place + 1) agents serial) e
  where
    is_own : Option ℕ → Bool
    is_own found = target_serial found serial

    by : (b c : Bool) → (purpose_among (place + 1) agents serial ≡ for_manager → ⊥) → cond b (for_agent place Main) (cond c (for_agent place Ahead) (purpose_among (place + 1) agents serial)) ≡ for_manager → ⊥
    by true c later e = absurd (cc e)
    by false true later e = absurd (cc e)
    by false false later e = later e

pub never_managed : (target : Target) (serial : ℕ) → RestsIdle target → purpose_of target serial ≡ for_manager → ⊥
never_managed target serial h e =
    let other : purpose_of target serial ≡ purpose_among 0 target.agents serial = ap (λ m. cond (target_serial m serial) for_manager (purpose_among 0 target.agents serial)) h.manages in
    among_agents 0 target.agents serial (sym other ∙ e)

replied_idle : (purpose : Purpose) (answer : Answer) (target : Target) → (purpose ≡ for_manager → ⊥) → RestsIdle target → RestsIdle (replied_to purpose answer target)
replied_idle (for_agent place which) answer target never h = record { manages = h.manages; asks = h.asks }
replied_idle for_manager answer target never h = absurd (never refl)
replied_idle for_nobody answer target never h = h

register_idle : (name : Register) (place : ℕ) (access : Access) (target : Target) → RestsIdle target → RestsIdle (register_got name place access target)
register_idle agent_reset place access target h = record { manages = h.manages; asks = h.asks }
register_idle orb_pointer place access target h = either_idle access.is_write _ target (record { manages = h.manages; asks = h.asks }) h
register_idle doorbell place access target h = record { manages = h.manages; asks = h.asks }
register_idle unsolicited_enable place access target h = record { manages = h.manages; asks = h.asks }
register_idle agent_state place access target h = h

-- what is not served there, or elsewhere
abbrev pub IsNoStart : Access → Type 0
IsNoStart access = start_at access.offset ≡ management_agent → start_serves management_agent access ≡ false

served_idle : (from : Start) (serves : Bool) (source : ℕ) (access : Access) (target : Target) → start_serves from access ≡ serves → (from ≡ management_agent → start_serves management_agent access ≡ false) → RestsIdle target → RestsIdle (cond serves (start_got from source access target) target)
served_idle from false source access target e never h = h
served_idle (register place name) true source access target e never h = register_idle name place access target h
served_idle management_agent true source access target e never h = absurd (let no : true ≡ false = sym e ∙ never refl in cc no)
served_idle rom_start true source access target e never h = h
served_idle no_start true source access target e never h = h

pub request_idle : (found : Option Access) (source : ℕ) (target : Target) → ((access : Access) → found ≡ Some access → IsNoStart access) → RestsIdle target → RestsIdle (request_got found source target)
request_idle None source target never h = h
request_idle (Some access) source target never h = served_idle (start_at access.offset) (start_serves (start_at access.offset) access) source access target refl (never access refl) h

pub got_idle_by : (own : Option ℕ) (wire : Terms) (serial : ℕ) (target : Target) → ((access : Access) → own ≡ None → access_at wire serial ≡ Some access → IsNoStart access) → RestsIdle target → RestsIdle (target_got own wire serial target)
got_idle_by (Some own) wire serial target never h = replied_idle (purpose_of target own) _ target (never_managed target own h) h
got_idle_by None wire serial target never h = request_idle (access_at wire serial) _ target (λ access e. never access refl e) h

-- ---- a note that begins no turn
abbrev pub BeginsNone : Note → Type 0
BeginsNone (notes.Got serial) = ⊥
BeginsNone note = IsLater note

pub note_rests : (note : Note) (past : List Moment) (wire : Terms) (target : Target) → BeginsNone note → IsCalmNote note → RestsIdle target → RestsIdle (target_by note past wire target)
note_rests (notes.Got serial) past wire target begins calm h = absurd begins
note_rests (notes.Begin initiators ready) past wire target begins calm h = absurd begins
note_rests (notes.TimedOut serial) past wire target begins calm h = absurd begins
note_rests (notes.Seen node generation) past wire target begins calm h = absurd begins
note_rests notes.Tick past wire target begins calm h = absurd begins
note_rests (notes.Key unit) past wire target begins calm h = absurd begins
note_rests (notes.Ignored serial cause) past wire target begins calm h = over_idle target h
note_rests (notes.Ran i n k unit cdb bytes check) past wire target begins calm h =
    let ran = ran_idle (is_own_run target.reply i wire target) (notes.Ran i n k unit cdb bytes check) target h in record { manages = ran.manages; asks = ran.asks }
note_rests (notes.Sent serial generation from to bytes) past wire target begins calm h =
    let settled = taken_idle None target.reply target h in
    either_idle (from == 0) _ _ (sent_idle (part_of bytes) _ serial _ settled) settled
note_rests (notes.Dead i n fails.Label) past wire target begins calm h = let settled = taken_idle None target.reply target h in record { manages = settled.manages; asks = settled.asks }
note_rests (notes.Dead i n cause) past wire target begins calm h = going_idle (notes.Dead i n cause) target h
note_rests (notes.ManageFailed i cause) past wire target begins calm h = absurd calm
note_rests (notes.Managed i function subject status login) past wire target begins calm h = absurd calm
note_rests (notes.Held id) past wire target begins calm h = absurd calm
note_rests (notes.Back id) past wire target begins calm h = absurd calm
note_rests (notes.Left id) past wire target begins calm h = absurd calm
note_rests (notes.Expired id) past wire target begins calm h = absurd calm
note_rests (notes.Cleared unit) past wire target begins calm h = absurd calm
note_rests (notes.Unsolicited i) past wire target begins calm h = record { manages = h.manages; asks = h.asks }
note_rests note past wire target begins calm h = going_idle note target h
