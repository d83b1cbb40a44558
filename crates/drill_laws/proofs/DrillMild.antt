-- In a drill the management of the target is idle, and no register for unsolicited statuses is enabled, at each moment; so no turn tells of such a status.
use Rattle.std.proofs.Common.{◌≡◌, ◌∙◌, refl, sym, ap, subst, ℕ, zero, suc, ◌==◌, ◌&&◌, not, Bool, true, false, cond, List, [], ◌∷◌, Option, Some, None, slice_index_or, slice_set, replicate}
use Rattle.std.specs.List.{AllByRecursion}
use Rattle.login_table.specs.Table.{is_live}
use Rattle.login_table.specs.declared.login.Login.{Login}
use Rattle.mgmt_agent.specs.Machine as manager
use Rattle.mgmt_agent.specs.declared.operation.Busy.{Busy}
use Rattle.orb_layout.specs.Pointers.{offset_at}
use Rattle.orb_layout.specs.declared.ask.Ask.{Ask}
use Rattle.orb_layout.specs.declared.ask.Ask.TheVariants.{Nothing}
use Rattle.orb_layout.specs.declared.ask.FailCause.TheVariants as causes
use Rattle.rbc_disk.specs.Disk.{Disk}
use Rattle.rbc_disk.specs.Runs.{Told}
use Rattle.std.specs.Prelude.{Result, Ok, Err, position, unwrap_or}
use Rattle.orb_layout.specs.Replies.{Answer}
use Rattle.sbp_journal.specs.Addresses.{Access, Register, Start, agent_reset, agent_state, doorbell, management_agent, no_start, orb_pointer, register, rom_start, start_at, start_serves, unsolicited_enable}
use Rattle.sbp_journal.specs.Run.{Moment, asked, said}
use Rattle.sbp_journal.specs.Transactions.{Part, no_packet, part_of, request, response}
use Rattle.sbp_journal.specs.Wire.{Terms, terms}
use Rattle.sbp_journal.specs.declared.note.Note.{Note}
use Rattle.sbp_journal.specs.declared.note.Note.TheVariants as notes
use Rattle.sbp_laws.specs.MediaLaw.{HasPushes, Load, is_push_note, load_in, logins_for, push_notes, told_logins}
use Rattle.sbp_laws.specs.Packets.{access_at, access_in_bytes, answer_in, answered_at, id_for, packet_at, receiver_in, sender_in}
use Rattle.sbp_laws.specs.Targets.{Purpose, Reply, Target, agent_at, for_agent, for_manager, for_nobody, going_on, got_by, is_own_run, is_serial, is_write_access, known_at, new_target, over, points, ran_on, purpose_of, register_got, replied_to, request_got, sent_as, sent_for, start_got, started_by, taken_on, target_at, target_by, told_in, wants, wants_it, with_untold}
use Rattle.sbp_laws.specs.Turns.{Turn}
use Rattle.sbp_laws.specs.Agents.{target_before, wire_after, wire_before}
use Rattle.sbp_world.proofs.Common.{untrue}
use Rattle.drill_laws.specs.DrillCalm.{IsCalmAt, IsCalmNote}
use Rattle.drill_laws.proofs.DrillHosts.{BeginsNone, IsNoStart, RestsIdle, got_idle_by, never_managed, note_rests, over_idle, target_wire}
use Rattle.drill_laws.proofs.DrillMoments.{DrillAt}
use Rattle.drill_laws.proofs.DrillOwners.{IsMild, NotGot}
use Rattle.drill_laws.proofs.DrillRings.{IsRing, bells, points as rings_pointer}
use Rattle.drill_laws.proofs.DrillTurns.{none_of}

-- ---- no register is enabled
abbrev pub AllOff : List Bool → Type 0
AllOff enabled = (k : ℕ) → slice_index_or enabled k false ≡ false

abbrev pub Off : Target → Type 0
Off t = AllOff t.enabled

off_set : (xs : List Bool) (p : ℕ) → AllOff xs → AllOff (slice_set xs p false)
off_set [] p h k = h k
off_set (x ∷ xs) zero h zero = refl
off_set (x ∷ xs) zero h (suc k) = h (suc k)
off_set (x ∷ xs) (suc p) h zero = h 0
off_set (x ∷ xs) (suc p) h (suc k) = off_set xs p (λ j. h (suc j)) k

off_new : (n k : ℕ) → slice_index_or (replicate n false) k false ≡ false
off_new zero k = refl
off_new (suc n) zero = refl
off_new (suc n) (suc k) = off_new n k

taken_off : (told : Option Told) (reply : Option Reply) (t : Target) → Off t → Off (taken_on told reply t)
taken_off told None t h = h
taken_off told (Some reply) t h = h

untold_off : (note : Note) (reply : Option Reply) (t : Target) → Off t → Off (with_untold note reply t)
untold_off note None t h = h
untold_off note (Some reply) t h = h

going_off : (note : Note) (t : Target) → Off t → Off (going_on note t)
going_off note t h = taken_off (told_in t.reply note t) t.reply (with_untold note t.reply t) (untold_off note t.reply t h)

ran_off : (own : Bool) (note : Note) (t : Target) → Off t → Off (ran_on own note t)
ran_off true note t h = going_off note t h
ran_off false note t h = taken_off None t.reply t h

over_off : (t : Target) → Off t → Off (over t)
over_off t h = taken_off None t.reply t h

sent_for_off : (place : Option ℕ) (is_write : Bool) (serial : ℕ) (t : Target) → Off t → Off (sent_for place is_write serial t)
sent_for_off (Some place) is_write serial t h = h
sent_for_off None is_write serial t h = by (wants t.manager_asks is_write)
  where
    by : (b : Bool) → Off (cond b (record t { manages = Some serial; manager_asks = Nothing }) (record t { pushes = serial ∷ t.pushes }))
    by true = h
    by false = h

sent_off : (part : Part) (is_write : Bool) (serial : ℕ) (t : Target) → Off t → Off (sent_as part is_write serial t)
sent_off (request label kind) is_write serial t h = sent_for_off (position (wants_it is_write) t.agents) is_write serial t h
sent_off (response label kind) is_write serial t h = h
sent_off no_packet is_write serial t h = h

-- ---- what it gets
no_enable : (access : Access) (place : ℕ) → IsMild access → start_at access.offset ≡ register place unsolicited_enable → start_serves (register place unsolicited_enable) access ≡ true → ⊥
no_enable access place mild e serves = by (mild (writes access.is_lock access.is_write access.is_block serves))
  where
    writes : (l w b : Bool) → start_serves (register place unsolicited_enable) (record access { is_lock = l; is_write = w; is_block = b }) ≡ true → w ≡ true
    writes true w b e = untrue e
    writes false true b e = refl
    writes false false b e = untrue e

    by : IsRing access.offset → ⊥
    by (rings_pointer other f) = let no : register place unsolicited_enable ≡ register other orb_pointer = sym e ∙ f in cc no
    by (bells other f) = let no : register place unsolicited_enable ≡ register other doorbell = sym e ∙ f in cc no

no_management : (access : Access) → IsMild access → IsNoStart access
no_management access mild e = by (start_serves management_agent access) refl
  where
    writes : (l w b c : Bool) → (not l && w && b && c) ≡ true → w ≡ true
    writes true w b c e = untrue e
    writes false true b c e = refl
    writes false false b c e = untrue e

    not_ring : IsRing access.offset → ⊥
    not_ring (rings_pointer other f) = let no : management_agent ≡ register other orb_pointer = sym e ∙ f in cc no
    not_ring (bells other f) = let no : management_agent ≡ register other doorbell = sym e ∙ f in cc no

    by : (b : Bool) → start_serves management_agent access ≡ b → b ≡ false
    by false f = refl
    by true f = absurd (not_ring (mild (writes access.is_lock access.is_write access.is_block (access.count == 8) f)))

module _ (t : Target) (off : Off t) where
  register_off : (name : Register) (place : ℕ) (access : Access) → (name ≡ unsolicited_enable → ⊥) → Off (register_got name place access t)
  register_off agent_reset place access not = off
  register_off orb_pointer place access not = by access.is_write
    where
      by : (b : Bool) → Off (cond b (record t { agents = slice_set t.agents place (points access (agent_at t place)) }) t)
      by true = off
      by false = off
  register_off doorbell place access not = off
  register_off unsolicited_enable place access not = absurd (not refl)
  register_off agent_state place access not = off

  started_off : (r : Result Ask Busy × manager.Machine) → Off (started_by r t)
  started_off (Err busy, machine) = off
  started_off (Ok ask, machine) = off

  start_off : (start : Start) (source : ℕ) (access : Access) → ((place : ℕ) → start ≡ register place unsolicited_enable → ⊥) → Off (start_got start source access t)
  start_off (register place name) source access not = register_off name place access (λ e. not place (ap (register place) e))
  start_off management_agent source access not = started_off (manager.start_step t.manager source (offset_at access.payload 0))
  start_off rom_start source access not = off
  start_off no_start source access not = off

  request_off : (access : Option Access) (source : ℕ) → ((asked : Access) → access ≡ Some asked → IsMild asked) → Off (request_got access source t)
  request_off None source mild = off
  request_off (Some access) source mild = by (start_serves (start_at access.offset) access) refl
    where
      by : (b : Bool) → start_serves (start_at access.offset) access ≡ b → Off (cond b (start_got (start_at access.offset) source access t) t)
      by true e = start_off (start_at access.offset) source access (λ place f. no_enable access place (mild access refl) f (ap (λ s. start_serves s access) (sym f) ∙ e))
      by false e = off

  replied_off : (purpose : Purpose) (answer : Answer) → (purpose ≡ for_manager → ⊥) → Off (replied_to purpose answer t)
  replied_off (for_agent place which) answer not = off
  replied_off for_manager answer not = absurd (not refl)
  replied_off for_nobody answer not = off

  got_off : (own : Option ℕ) (wire : Terms) (serial : ℕ) → RestsIdle t → ((asked : Access) → access_at wire serial ≡ Some asked → IsMild asked) → Off (got_by own wire serial t)
  got_off (Some own) wire serial idle mild = replied_off (purpose_of t own) (answer_in (packet_at wire serial)) (never_managed t own idle)
  got_off None wire serial idle mild = request_off (access_at wire serial) (id_for wire 0 (unwrap_or (sender_in (wire.sent serial)) 0)) mild

-- ---- each note
note_off : (note : Note) (past : List Moment) (wire : Terms) (t : Target) → NotGot note → DrillAt (said note) past → IsCalmNote note → Off t → Off (target_by note past wire t)
note_off (notes.Begin initiators ready) past wire t g d calm h = h
note_off (notes.Got serial) past wire t g d calm h = absurd g
note_off (notes.Ignored serial cause) past wire t g d calm h = over_off t h
note_off (notes.TimedOut serial) past wire t g d calm h = untrue d
note_off (notes.Seen node generation) past wire t g d calm h = untrue d
note_off notes.Tick past wire t g d calm h = untrue d
note_off (notes.Key unit) past wire t g d calm h = untrue d
note_off (notes.Ran i n k unit cdb bytes check) past wire t g d calm h = ran_off (is_own_run t.reply i wire t) (notes.Ran i n k unit cdb bytes check) t h
note_off (notes.Sent serial generation from to bytes) past wire t g d calm h = by (from == 0)
  where
    x : Target
    x = taken_on None t.reply t

    by : (b : Bool) → Off (cond b (sent_as (part_of bytes) (is_write_access (access_in_bytes bytes)) serial x) x)
    by true = sent_off (part_of bytes) (is_write_access (access_in_bytes bytes)) serial x (taken_off None t.reply t h)
    by false = taken_off None t.reply t h
note_off (notes.Dead i n causes.Label) past wire t g d calm h = taken_off None t.reply t h
note_off (notes.ManageFailed i cause) past wire t g d calm h = absurd calm
note_off (notes.Managed i function subject status login) past wire t g d calm h = absurd calm
note_off (notes.Held id) past wire t g d calm h = absurd calm
note_off (notes.Back id) past wire t g d calm h = absurd calm
note_off (notes.Left id) past wire t g d calm h = absurd calm
note_off (notes.Expired id) past wire t g d calm h = absurd calm
note_off (notes.Cleared unit) past wire t g d calm h = absurd calm
note_off (notes.Unsolicited i) past wire t g d calm h = off_set t.enabled _ h
note_off note past wire t g d calm h = going_off note t h

abbrev IsNotBegin : Note → Type 0
IsNotBegin (notes.Begin initiators ready) = ⊥
IsNotBegin note = Unit {0}

begins_none : (note : Note) (past : List Moment) → NotGot note → IsNotBegin note → DrillAt (said note) past → BeginsNone note
begins_none (notes.Begin initiators ready) past g b d = absurd b
begins_none (notes.Got serial) past g b d = absurd g
begins_none (notes.TimedOut serial) past g b d = untrue d
begins_none (notes.Seen node generation) past g b d = untrue d
begins_none notes.Tick past g b d = untrue d
begins_none (notes.Key unit) past g b d = untrue d
begins_none _ past g b d = tt

-- ---- each moment
pub record IsMildAt (t : Target) : Type 0 where
  pub idle : RestsIdle t
  pub off : Off t

note_mild : (note : Note) (past : List Moment) (wire : Terms) (t : Target) → NotGot note → DrillAt (said note) past → IsCalmNote note → IsMildAt t → IsMildAt (target_by note past wire t)
note_mild note past wire t g d calm m = record { idle = by note g d calm; off = note_off note past wire t g d calm m.off }
  where
    by : (note : Note) → NotGot note → DrillAt (said note) past → IsCalmNote note → RestsIdle (target_by note past wire t)
    by (notes.Begin initiators ready) g d calm = record { manages = m.idle.manages; asks = m.idle.asks }
    by (notes.Got serial) g d calm = absurd g
    by note g d calm = note_rests note past wire t (begins_none note past g tt d) calm m.idle

-- the packets that were sent to the target are mild
abbrev pub AreMild : Terms → Type 0
AreMild wire = (serial : ℕ) → is_serial (receiver_in (wire.sent serial)) 0 ≡ true → (access : Access) → access_at wire serial ≡ Some access → IsMild access

got_mild : (wire : Terms) (serial : ℕ) (past : List Moment) (t : Target) → AreMild wire → IsMildAt t → IsMildAt (target_by (notes.Got serial) past wire t)
got_mild wire serial past t mild m = by (is_serial (receiver_in (wire.sent serial)) 0) refl
  where
    idle : RestsIdle (over t)
    idle = over_idle t m.idle

    by : (b : Bool) → is_serial (receiver_in (wire.sent serial)) 0 ≡ b → IsMildAt (cond b (got_by (answered_at wire serial) wire serial (over t)) (over t))
    by true here = record {
      idle = got_idle_by (answered_at wire serial) wire serial (over t) (λ access none found. no_management access (mild serial here access found)) idle;
      off = got_off (over t) (over_off t m.off) (answered_at wire serial) wire serial idle (mild serial here);
    }
    by false here = record { idle = idle; off = over_off t m.off }

module _ (start : List Disk) where
  pub moment_mild : (m : Moment) (past : List Moment) → DrillAt m past → IsCalmAt m past → AreMild (terms past) → IsMildAt (target_at start past) → IsMildAt (target_at start (m ∷ past))
  moment_mild (asked line event) past d calm mild m = record { idle = over_idle (target_at start past) m.idle; off = over_off (target_at start past) m.off }
  moment_mild (said (notes.Got serial)) past d calm mild m = got_mild (known_at start past).wire serial past (target_at start past) (subst AreMild (sym (target_wire start past)) mild) m
  moment_mild (said note) past d calm mild m = note_mild note past (known_at start past).wire (target_at start past) tt d calm m

  pub first_mild : IsMildAt (new_target start)
  first_mild = record { idle = record { manages = refl; asks = refl }; off = off_new 8 }

  -- ---- no turn tells of an unsolicited status
  told_none : (load : Load) (enabled : List Bool) (places : List (Option Login)) → AllOff enabled → told_logins load enabled places ≡ []
  told_none load enabled [] off = refl
  told_none load enabled (None ∷ places) off = told_none load enabled places off
  told_none load enabled (Some login ∷ places) off =
      ap (λ b. cond b (login ∷ told_logins load enabled places) (told_logins load enabled places)) (never (is_live login) (login.unit == load.unit) (not (login.place == load.place)) (slice_index_or enabled login.place false) (off login.place))
      ∙ told_none load enabled places off
    where
      never : (a b c d : Bool) → d ≡ false → (a && b && c && d) ≡ false
      never true true true d e = e
      never true true false d e = refl
      never true false c d e = refl
      never false b c d e = refl

  logins_none : (t : Target) (load : Option Load) → Off t → logins_for t load ≡ []
  logins_none t None off = refl
  logins_none t (Some load) off = told_none load t.enabled t.table.places off

  pub turn_quiet : (t : Turn) → Off (target_at start t.past) → HasPushes start t → AllByRecursion (λ note. is_push_note note ≡ false) t.rest
  turn_quiet t off has =
      let before = target_before start t in
      none_of is_push_note t.rest (has.pushes ∙ ap (push_notes before (wire_after t)) (logins_none before (load_in before (wire_before t) t.rest) (over_off (target_at start t.past) off)))
