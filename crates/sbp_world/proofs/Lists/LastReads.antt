-- What was read last as a management ORB over moments: it stays while the operation of the target does not read its ORB; and a reply that brings it is it.
use Rattle.sbp_world.proofs.Words.Std.{◌≡◌, ◌∙◌, refl, sym, ap, ℕ, Bool, true, false, List, [], ◌∷◌, ◌++◌, map, Option, Some, None}
use Rattle.sbp_world.proofs.Words.Wire.{Event, Note, Moment, asked, said, Part, Sending, Transaction, between, part_of, response, Held, Terms, opened, terms}
use Rattle.sbp_world.proofs.Words.Target.{Operation, Disk}
use Rattle.sbp_world.proofs.Words.Initiator.{ManagementOrb, Answer}
use Rattle.sbp_world.proofs.Words.Laws.{answer_in, answered_as, answered_at, answered_in, closed_by, packet_at, packet_in, receiver_in, is_serial, target_at}
use Rattle.sbp_world.proofs.Words.World.{Office, last_read, read_by, read_if, read_in, AllOf}
use Rattle.mgmt_agent.specs.Machine.{Machine}
use Rattle.sbp_journal.specs.declared.event.Event.TheVariants as events
use Rattle.sbp_journal.specs.declared.note.Note.TheVariants as notes
use Rattle.sbp_world.proofs.Agents.Management.Firsts.{opened_office}
use Rattle.sbp_world.proofs.Lists.Gots.{Next, next, next_line, same_still}
use Rattle.sbp_world.proofs.Lists.LiveLeads.{line_manager}
use Rattle.sbp_world.proofs.Lists.LiveTold.{is_behind, is_own_packet}
use Rattle.sbp_world.proofs.Lists.Quiet.{AllQuiet, IsQuiet}
use Rattle.sbp_world.proofs.Sessions.BlockNotes.{opened_sent}
use Rattle.sbp_world.proofs.Common.{untrue}

-- the phase reads no ORB
abbrev pub ReadsNone : Operation → Type 0
ReadsNone op = (answer : Answer) (orb : ManagementOrb) → read_in op.phase answer orb ≡ orb

by_keeps : (here : Bool) (own manages : Option ℕ) (op : Operation) (answer : Answer) (orb : ManagementOrb) → ReadsNone op → read_by here own manages (Some op) answer orb ≡ orb
by_keeps true (Some own) manages op answer orb f = by (is_serial manages own)
  where
    by : (b : Bool) → read_if b (Some op) answer orb ≡ orb
    by true = f answer orb
    by false = refl
by_keeps true None manages op answer orb f = refl
by_keeps false own manages op answer orb f = refl

-- ---- as a line begins

pub opened_held : (event : Event) (t : Terms) → (opened event t).held ≡ t.held
opened_held (events.Reset physical) t = refl
opened_held (events.Repeat s) t = refl
opened_held _ t = refl

answered_same : (now t : Terms) → now.held ≡ t.held → (sent : Option Sending) → answered_in now sent ≡ answered_in t sent
answered_same now t e None = refl
answered_same now t e (Some sending) = by (part_of sending.bytes)
  where
    by : (part : Part) → answered_as part now sending ≡ answered_as part t sending
    by (response label kind) = ap (λ (f : Transaction → Held). closed_by (f (between sending sending.to sending.from label)) kind) e
    by _ = refl

module _ (start : List Disk) where
  -- ---- notes of no packet that is got
  quiet_last : (note : Note) (past : List Moment) → IsQuiet note → last_read start (said note ∷ past) ≡ last_read start past
  quiet_last (notes.Got serial) past q = absurd q
  quiet_last _ past q = refl

  all_quiet_last : (front : List Note) (past : List Moment) → AllQuiet front → last_read start (map said front ++ past) ≡ last_read start past
  all_quiet_last [] past q = refl
  all_quiet_last (note ∷ front) past q = quiet_last note (map said front ++ past) q.0 ∙ all_quiet_last front past q.1

  own_last : (note : Note) (past : List Moment) → is_own_packet note ≡ true → last_read start (said note ∷ past) ≡ last_read start past
  own_last (notes.Got serial) past e = untrue e
  own_last _ past e = refl

  pub all_own_last : (front : List Note) (past : List Moment) → AllOf is_own_packet front → last_read start (map said front ++ past) ≡ last_read start past
  all_own_last [] past q = refl
  all_own_last (note ∷ front) past q = own_last note (map said front ++ past) q.0 ∙ all_own_last front past q.1

  behind_last : (note : Note) (past : List Moment) → is_behind note ≡ true → last_read start (said note ∷ past) ≡ last_read start past
  behind_last (notes.Got serial) past e = untrue e
  behind_last _ past e = refl

  pub all_behind_last : (front : List Note) (past : List Moment) → AllOf is_behind front → last_read start (map said front ++ past) ≡ last_read start past
  all_behind_last [] past q = refl
  all_behind_last (note ∷ front) past q = behind_last note (map said front ++ past) q.0 ∙ all_behind_last front past q.1

  -- ---- one that is got, while the operation reads no ORB
  got_keeps : (serial : ℕ) (past : List Moment) (op : Operation) → (target_at start past).manager.operation ≡ Some op → ReadsNone op → last_read start (said (notes.Got serial) ∷ past) ≡ last_read start past
  got_keeps serial past op is f =
      let t = terms past in
      let answer = answer_in (packet_at t serial) in
      ap (λ (o : Option Operation). read_by (is_serial (receiver_in (t.sent serial)) 0) (answered_at t serial) (target_at start past).manages o answer (last_read start past)) is
      ∙ by_keeps (is_serial (receiver_in (t.sent serial)) 0) (answered_at t serial) (target_at start past).manages op answer (last_read start past) f

  note_keeps : (note : Note) (past : List Moment) (op : Operation) → (target_at start past).manager.operation ≡ Some op → ReadsNone op → last_read start (said note ∷ past) ≡ last_read start past
  note_keeps (notes.Got serial) past op is f = got_keeps serial past op is f
  note_keeps _ past op is f = refl

  moment_keeps : (m : Moment) (past : List Moment) (op : Operation) → (target_at start past).manager.operation ≡ Some op → ReadsNone op → last_read start (m ∷ past) ≡ last_read start past
  moment_keeps (asked line event) past op is f = refl
  moment_keeps (said note) past op is f = note_keeps note past op is f

  -- over a turn
  pub next_keeps : (before now : List Moment) → Next before now → (op : Operation) → (target_at start before).manager.operation ≡ Some op → ReadsNone op → last_read start now ≡ last_read start before
  next_keeps before now (same_still e) op is f = ap (last_read start) e
  next_keeps before now (next front q m e) op is f = ap (last_read start) (sym e) ∙ (all_quiet_last front (m ∷ before) q ∙ moment_keeps m before op is f)
  next_keeps before now (next_line front q note line event e) op is f =
      ap (last_read start) (sym e)
      ∙ (all_quiet_last front (said note ∷ asked line event ∷ before) q
      ∙ note_keeps note (asked line event ∷ before) op (ap (λ (m : Machine). m.operation) (line_manager start line event before) ∙ is) f)

  -- ---- a line begins before it is got
  abbrev Reads : ℕ → Terms → (ℕ → Option Sending) → Option ℕ → Option Operation → ManagementOrb → ManagementOrb
  Reads serial t sent manages operation orb = read_by (is_serial (receiver_in (sent serial)) 0) (answered_in t (sent serial)) manages operation (answer_in (packet_in (sent serial))) orb

  pub line_got : (serial line : ℕ) (event : Event) (past : List Moment) → last_read start (said (notes.Got serial) ∷ asked line event ∷ past) ≡ last_read start (said (notes.Got serial) ∷ past)
  line_got serial line event past =
      let o = opened_office start past line event in
      let t = terms past in
      let q = target_at start past in
      let now = target_at start (asked line event ∷ past) in
      let orb = last_read start past in
      ap (λ (f : ℕ → Option Sending). Reads serial (opened event t) f now.manages now.manager.operation orb) (opened_sent event t)
      ∙ (ap (λ x. read_by (is_serial (receiver_in (t.sent serial)) 0) x now.manages now.manager.operation (answer_in (packet_in (t.sent serial))) orb) (answered_same (opened event t) t (opened_held event t) (t.sent serial))
      ∙ (ap (λ (m : Option ℕ). Reads serial t t.sent m now.manager.operation orb) (ap (λ (x : Office). x.manages) o)
      ∙ ap (λ (m : Machine). Reads serial t t.sent q.manages m.operation orb) (ap (λ (x : Office). x.manager) o)))
