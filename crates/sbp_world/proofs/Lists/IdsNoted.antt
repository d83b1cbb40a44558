-- The ID that the terms of the target entered last changes by the notes of logins that are entered alone.
use Rattle.sbp_world.proofs.Words.Std.{arith, ◌≡◌, ◌∙◌, refl, sym, ap, ℕ, ◌==◌, ◌≤◌, not, Bool, true, false, cond, List, [], ◌∷◌, ◌++◌, Option, Some, None, Result, Ok, Err, position, unwrap_or}
use Rattle.sbp_world.proofs.Words.Wire.{Access, Register, Start, agent_reset, agent_state, doorbell, management_agent, no_start, orb_pointer, register, rom_start, start_at, start_serves, unsolicited_enable, Moment, asked, said, Part, part_of, request, Terms, Event, Note, FunctionWord}
use Rattle.sbp_world.proofs.Words.Target.{Table, start_step, Effect, ManagerStep, Busy, Disk}
use Rattle.sbp_world.proofs.Words.Initiator.{Ask, offset_at, Answer, Expired}
use Rattle.sbp_world.proofs.Words.Laws.{access_at, access_in_bytes, answer_in, answered_at, id_for, packet_at, receiver_in, sender_in, Purpose, Target, effect_on, first_table, for_agent, for_manager, for_nobody, got_by, is_serial, is_write_access, key_by, known_at, managed_by, manager_step, over, purpose_of, register_got, replied, replied_to, request_got, reset_seen, sent_as, sent_for, start_got, started_by, taken_on, target_at, target_by, wants, wants_it, event_of}
use Rattle.sbp_world.proofs.Words.World.{ready_logins, Office, by_managed, by_note, office_of, entries, entries_of}
use Rattle.mgmt_agent.specs.Machine.{Machine}
use Rattle.mgmt_agent.specs.declared.decision.Effect.TheVariants as effects
use Rattle.sbp_journal.specs.declared.event.Event.TheVariants as events
use Rattle.sbp_journal.specs.declared.note.Note.TheVariants as notes
use Rattle.sbp_journal.specs.declared.operation.FunctionWord.TheVariants as functions
use Rattle.sbp_world.proofs.Agents.Management.Offices.{IsBehind, note_changes, over_keeps, taken_keeps}

abbrev IsSo : Target → Target → Type 0
IsSo t now = now.table.last ≡ t.table.last

pick : (b : Bool) (t x y : Target) → IsSo t x → IsSo t y → IsSo t (cond b x y)
pick true t x y h k = h
pick false t x y h k = k

-- ---- the first note of a turn
over_so : (t : Target) → IsSo t (over t)
over_so t = ap (λ (o : Office). o.table.last) (over_keeps t)

effect_so : (effect : Effect) (t : Target) → IsSo t (effect_on effect t)
effect_so effects.Nothing t = refl
effect_so (effects.Entered place replaced) t = refl
effect_so (effects.Back place) t = refl
effect_so (effects.Left place) t = refl
effect_so (effects.Abort place orb) t = refl
effect_so (effects.AbortSet place) t = refl
effect_so (effects.UnitReset unit) t = refl
effect_so effects.TargetReset t = refl

managed_so : (x : ManagerStep × (Machine × Table)) (answer : Answer) (t : Target) → IsSo t (managed_by x answer t)
managed_so (step, (machine, table)) answer t = effect_so step.effect _

replied_so : (purpose : Purpose) (answer : Answer) (t : Target) → IsSo t (replied_to purpose answer t)
replied_so (for_agent place which) answer t = refl
replied_so for_manager answer t = managed_so (manager_step t answer) answer t
replied_so for_nobody answer t = refl

started_so : (x : Result Ask Busy × Machine) (t : Target) → IsSo t (started_by x t)
started_so (Err busy, machine) t = refl
started_so (Ok ask, machine) t = refl

register_so : (name : Register) (place : ℕ) (access : Access) (t : Target) → IsSo t (register_got name place access t)
register_so agent_reset place access t = refl
register_so orb_pointer place access t = pick access.is_write t _ t refl refl
register_so doorbell place access t = refl
register_so unsolicited_enable place access t = refl
register_so agent_state place access t = refl

start_so : (start : Start) (source : ℕ) (access : Access) (t : Target) → IsSo t (start_got start source access t)
start_so (register place name) source access t = register_so name place access t
start_so management_agent source access t = started_so (start_step t.manager source (offset_at access.payload 0)) t
start_so rom_start source access t = refl
start_so no_start source access t = refl

request_so : (access : Option Access) (source : ℕ) (t : Target) → IsSo t (request_got access source t)
request_so None source t = refl
request_so (Some access) source t = pick (start_serves (start_at access.offset) access) t _ t (start_so (start_at access.offset) source access t) refl

got_so : (own : Option ℕ) (wire : Terms) (serial : ℕ) (t : Target) → IsSo t (got_by own wire serial t)
got_so (Some own) wire serial t = replied_so (purpose_of t own) (answer_in (packet_at wire serial)) t
got_so None wire serial t = request_so (access_at wire serial) (id_for wire 0 (unwrap_or (sender_in (wire.sent serial)) 0)) t

seen_so : (b : Bool) (t : Target) → IsSo t (reset_seen b t)
seen_so true t = refl
seen_so false t = refl

key_so : (event : Option Event) (unit : ℕ) (t : Target) → IsSo t (key_by event unit t)
key_so None unit t = refl
key_so (Some (events.Key other key)) unit t = refl
key_so (Some event) unit t = refl

-- ---- a packet
for_so : (place : Option ℕ) (is_write : Bool) (serial : ℕ) (t : Target) → IsSo t (sent_for place is_write serial t)
for_so (Some place) is_write serial t = refl
for_so None is_write serial t = pick (wants t.manager_asks is_write) t _ _ refl refl

as_so : (part : Part) (is_write : Bool) (serial : ℕ) (t : Target) → IsSo t (sent_as part is_write serial t)
as_so (request label kind) is_write serial t = for_so (position (wants_it is_write) t.agents) is_write serial t
as_so part is_write serial t = refl

-- ---- the other notes
managed_last : (word : FunctionWord) (i subject status : ℕ) (login : Option ℕ) (o : Office) → entries_of (notes.Managed i word subject status login) ≡ 0 → (by_managed word login o).table.last ≡ o.table.last
managed_last functions.Login i subject status None o e = refl
managed_last functions.Login i subject status (Some id) o e = absurd (omega (arith, e))
managed_last word i subject status login o e = refl

by_last : (note : Note) (o : Office) → entries_of note ≡ 0 → (by_note note o).table.last ≡ o.table.last
by_last (notes.Managed i word subject status login) o e = managed_last word i subject status login o e
by_last note o e = refl

behind_so : (note : Note) (past : List Moment) (wire : Terms) (t : Target) → IsBehind note → entries_of note ≡ 0 → IsSo t (target_by note past wire t)
behind_so note past wire t h e = ap (λ (o : Office). o.table.last) (note_changes note past wire t h) ∙ by_last note (office_of t) e

-- that of the start is none but for the logins of those that are ready
pub first_last : (ready : Bool) (initiators : ℕ) → (first_table ready initiators).last ≡ ready_logins initiators ready
first_last true initiators = refl
first_last false initiators = refl

-- ---- any note
pub data Tells (note : Note) (t now : Target) : Type 0 where
  begins : now.table.last ≡ entries_of note → Tells note t now
  goes_on : (entries_of note ≡ 0 → IsSo t now) → Tells note t now

note_tells : (note : Note) (past : List Moment) (wire : Terms) (t : Target) → Tells note t (target_by note past wire t)
note_tells (notes.Begin initiators ready) past wire t = begins (first_last ready initiators)
note_tells (notes.Got serial) past wire t =
    goes_on (λ e. pick (is_serial (receiver_in (wire.sent serial)) 0) t (got_by (answered_at wire serial) wire serial (over t)) (over t) (got_so (answered_at wire serial) wire serial (over t) ∙ over_so t) (over_so t))
note_tells (notes.Ignored serial cause) past wire t = goes_on (λ e. over_so t)
note_tells (notes.TimedOut serial) past wire t =
    goes_on (λ e. pick (is_serial (sender_in (wire.sent serial)) 0) t (replied serial Expired (over t)) (over t) (replied_so (purpose_of (over t) serial) Expired (over t) ∙ over_so t) (over_so t))
note_tells (notes.Seen node generation) past wire t =
    let seen = not (generation == wire.generation 0) in
    goes_on (λ e. pick (node == 0) t (reset_seen seen (over t)) (over t) (seen_so seen (over t) ∙ over_so t) (over_so t))
note_tells notes.Tick past wire t = goes_on (λ e. over_so t)
note_tells (notes.Key unit) past wire t = goes_on (λ e. key_so (event_of past) unit t)
note_tells (notes.Sent serial generation from to bytes) past wire t =
    let settled = taken_on None t.reply t in
    let rest : IsSo t settled = ap (λ (o : Office). o.table.last) (taken_keeps None t.reply t) in
    goes_on (λ e. pick (from == 0) t (sent_as (part_of bytes) (is_write_access (access_in_bytes bytes)) serial settled) settled (as_so (part_of bytes) (is_write_access (access_in_bytes bytes)) serial settled ∙ rest) rest)
note_tells note past wire t = goes_on (λ e. behind_so note past wire t tt e)

-- ---- the moments of a turn
module _ (start : List Disk) where
  abbrev pub last_at : List Moment → ℕ
  last_at past = (target_at start past).table.last

  tells_last : (note : Note) (past : List Moment) → Tells note (target_at start past) (target_at start (said note ∷ past)) → last_at past ≤ entries past → entries_of note ≡ 0 → last_at (said note ∷ past) ≤ entries (said note ∷ past)
  tells_last note past (begins f) l e = omega (arith, f, e, l)
  tells_last note past (goes_on f) l e = let same = f e in omega (arith, same, l, e)

  one_last : (m : Moment) (past : List Moment) → last_at past ≤ entries past → entries (m ∷ past) ≡ entries past → last_at (m ∷ past) ≤ entries (m ∷ past)
  one_last (asked line event) past l e = let same = over_so (target_at start past) in omega (arith, l, same)
  one_last (said note) past l e = tells_last note past (note_tells note past (known_at start past).wire (target_at start past)) l (let f = e in omega (arith, f))

  pub more_entries : (new past : List Moment) → entries past ≤ entries (new ++ past)
  more_entries [] past = omega arith
  more_entries (said note ∷ new) past = let l = more_entries new past in omega (arith, l)
  more_entries (asked line event ∷ new) past = more_entries new past

  one_more : (m : Moment) (past : List Moment) → entries past ≤ entries (m ∷ past)
  one_more (said note) past = omega arith
  one_more (asked line event) past = omega arith

  pub all_last : (new past : List Moment) → last_at past ≤ entries past → entries (new ++ past) ≡ entries past → last_at (new ++ past) ≤ entries (new ++ past)
  all_last [] past l e = l
  all_last (m ∷ new) past l e =
      let a = more_entries new past in
      let b = one_more m (new ++ past) in
      let same : entries (new ++ past) ≡ entries past = omega (arith, a, b, e) in
      one_last m (new ++ past) (all_last new past l same) (e ∙ sym same)
