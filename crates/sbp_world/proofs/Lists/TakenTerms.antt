-- For which list a place's pointer was taken, by the terms: only a packet that the target got changes it, and of these only a write of ORB_POINTER that is taken.
use Rattle.sbp_world.proofs.Words.Std.{◌≡◌, ◌∙◌, refl, sym, ap, subst, ℕ, ◌-◌, ◌≤◌, ◌==◌, ◌&&◌, not, is_some, Bool, true, false, cond, List, [], ◌∷◌, ◌++◌, map, Option, Some, None, Result, Ok, Err}
use Rattle.sbp_world.proofs.Words.Wire.{Packet, lock, lock_response, read_block, read_block_response, read_quadlet, read_quadlet_response, write_block, write_quadlet, write_response, reply_kind, Access, Register, Start, access_of, agent_reset, agent_state, begins_in_rom, doorbell, is_start, lies_in_rom, management_agent, no_start, orb_pointer, register, rom_base, rom_start, start_at, start_serves, unsolicited_enable, Moment, said, Terms, terms, Note}
use Rattle.sbp_world.proofs.Words.Target.{Machine, point_step, PointRefusal, Disk, demand_of, or_nowhere, Demand, asked_at, asked_of}
use Rattle.sbp_world.proofs.Words.Initiator.{offset_at, pointer_at, Answer, Ask}
use Rattle.sbp_world.proofs.Words.Laws.{Event, got_in, list_taken, listed_at, listed_by, nothing, reply_to, write_in, write_of, writes, list_in, named, access_at, answer_in, answered_at, packet_at, receiver_in, Purpose, Target, agent_at, for_agent, for_manager, for_nobody, initiator_at, is_serial, over, purpose_of, target_at}
use Rattle.sbp_journal.specs.declared.note.Note.TheVariants as notes
use Rattle.target_base.specs.declared.address.Access as base
use Rattle.target_base.specs.declared.address.Access.TheVariants as accesses
use Rattle.target_base.specs.declared.address.Demand.TheVariants as demands
use Rattle.sbp_target.proofs.Histories.Asked.{Rows, demand_is, serves_is}
use Rattle.sbp_world.proofs.Lists.SendsLast.{AllEffects, AllSends, Hands, IsEffect, IsSend, IsUnheard, Led, opens, passes}
use Rattle.sbp_world.proofs.Agents.Demands.{none_some}

-- ---- a demand, at a place with this list before
module _ (past : List Moment) (T : Target) (wire : Terms) (p : ℕ) (before : Option ℕ) where
  abbrev At : Event → Option ℕ
  At event = listed_at event past T wire p before

  abbrev pub listed_in : (place : ℕ) → base.Access → Option ℕ
  listed_in place (accesses.Point pointer) = cond (place == p) (listed_by (point_step (agent_at T p).machine pointer) past (initiator_at T wire p) before) before
  listed_in place access = before

  abbrev pub listed_for : Demand → Option ℕ
  listed_for (demands.Agent place access) = listed_in place access
  listed_for demand = before

  either : (b : Bool) (event : Event) → At event ≡ before → At (cond b event nothing) ≡ before
  either true event e = e
  either false event e = refl

  -- a register of an agent
  pointer_listed : (w : Bool) (place : ℕ) (access : Access) → start_serves (register place orb_pointer) access ≡ true → At (cond (w && start_serves (register place orb_pointer) access) (writes orb_pointer place access) nothing) ≡ listed_in place (cond w (accesses.Point (pointer_at access.payload 0)) accesses.Pointer)
  pointer_listed true place access s = ap (λ b. At (cond b (writes orb_pointer place access) nothing)) s
  pointer_listed false place access s = refl

  register_listed : (name : Register) (place : ℕ) (access : Access) → start_serves (register place name) access ≡ true → At (write_of (register place name) access) ≡ listed_in place (asked_of name access)
  register_listed agent_state place access s = either (access.is_write && start_serves (register place agent_state) access) (writes agent_state place access) refl
  register_listed agent_reset place access s = either (access.is_write && start_serves (register place agent_reset) access) (writes agent_reset place access) refl
  register_listed orb_pointer place access s = pointer_listed access.is_write place access s
  register_listed doorbell place access s = either (access.is_write && start_serves (register place doorbell) access) (writes doorbell place access) refl
  register_listed unsolicited_enable place access s = either (access.is_write && start_serves (register place unsolicited_enable) access) (writes unsolicited_enable place access) refl

  -- a start that serves it, and one that does not
  start_listed : (start : Start) (access : Access) (d : Demand) → start_serves start access ≡ true → Some d ≡ asked_at start access → At (write_of start access) ≡ listed_for d
  start_listed management_agent access d s e =
      let same : d ≡ demands.Manage (offset_at access.payload 0) = cc in subst (λ (x : Demand). before ≡ listed_for x) (sym same) refl
  start_listed (register place name) access d s e =
      let same : d ≡ demands.Agent place (asked_of name access) = cc in subst (λ (x : Demand). At (write_of (register place name) access) ≡ listed_for x) (sym same) (register_listed name place access s)
  start_listed rom_start access d s e = absurd (none_some d e)
  start_listed no_start access d s e = absurd (none_some d e)

  register_unserved : (w : Bool) (name : Register) (place : ℕ) (access : Access) → start_serves (register place name) access ≡ false → At (cond (w && start_serves (register place name) access) (writes name place access) nothing) ≡ before
  register_unserved true name place access s = ap (λ b. At (cond b (writes name place access) nothing)) s
  register_unserved false name place access s = refl

  start_unserved : (start : Start) (access : Access) → start_serves start access ≡ false → At (write_of start access) ≡ before
  start_unserved management_agent access s = refl
  start_unserved (register place name) access s = register_unserved access.is_write name place access s
  start_unserved rom_start access s = refl
  start_unserved no_start access s = refl

  rows_listed : (l e w r a : Bool) (at len : ℕ) (asked : Demand) → listed_for (Rows l e w r false a (demands.Rom at len) asked) ≡ before
  rows_listed true e w r a at len asked = refl
  rows_listed false true w r a at len asked = refl
  rows_listed false false true r a at len asked = refl
  rows_listed false false false true a at len asked = refl
  rows_listed false false false false true at len asked = refl
  rows_listed false false false false false at len asked = refl

  abbrev Asks : Bool → ℕ → Access → Demand
  Asks serves size access =
      Rows access.is_lock (access.count == 0) (access.is_write && begins_in_rom size access) (not access.is_write && lies_in_rom size access) serves (is_start (start_at access.offset)) (demands.Rom (access.offset - rom_base) access.count) (or_nowhere (asked_at (start_at access.offset) access))

  served_listed : (b : Bool) (size : ℕ) (p : Packet) (access : Access) → size ≤ 1024 → access_of p ≡ Some access → start_serves (start_at access.offset) access ≡ b → At (write_of (start_at access.offset) access) ≡ listed_for (demand_of size p)
  served_listed true size p access small a s = start_listed (start_at access.offset) access (demand_of size p) s (serves_is p access a size small s)
  served_listed false size p access small a s =
      start_unserved (start_at access.offset) access s
      ∙ sym (ap listed_for (demand_is size p access a ∙ ap (λ (b : Bool). Asks b size access) s)
      ∙ rows_listed access.is_lock (access.count == 0) (access.is_write && begins_in_rom size access) (not access.is_write && lies_in_rom size access) (is_start (start_at access.offset)) (access.offset - rom_base) access.count (or_nowhere (asked_at (start_at access.offset) access)))

  pub write_listed : (size : ℕ) (p : Packet) (access : Access) → size ≤ 1024 → access_of p ≡ Some access → At (write_in (Some access)) ≡ listed_for (demand_of size p)
  write_listed size p access small a = served_listed (start_serves (start_at access.offset) access) size p access small a refl

  -- a packet that is no request
  reply_listed : (purpose : Purpose) (answer : Answer) → At (reply_to purpose answer) ≡ before
  reply_listed (for_agent place which) answer = refl
  reply_listed for_manager answer = refl
  reply_listed for_nobody answer = refl

  pub answer_listed : (own : Option ℕ) (serial : ℕ) → access_at wire serial ≡ None → At (got_in own T wire serial) ≡ before
  answer_listed None serial e = ap (λ a. At (write_in a)) e
  answer_listed (Some own) serial e = reply_listed (purpose_of T own) (answer_in (packet_at wire serial))

-- ---- a pointer that is taken, and one that is refused
module _ (past : List Moment) (i : ℕ) (before : Option ℕ) where
  pub taken_listed : (r : Result Ask PointRefusal × Machine) (ask : Ask) → r.0 ≡ Ok ask → listed_by r past i before ≡ list_in (named past i r.1.present)
  taken_listed (Ok one, m) ask e = refl
  taken_listed (Err refusal, m) ask e = absurd (let no : Err refusal ≡ Ok ask = e in cc)

  pub refused_listed : (r : Result Ask PointRefusal × Machine) (refusal : PointRefusal) → r.0 ≡ Err refusal → listed_by r past i before ≡ before
  refused_listed (Ok one, m) refusal e = absurd (let no : Ok one ≡ Err refusal = e in cc)
  refused_listed (Err other, m) refusal e = refl

-- a response asks for nothing
pub response_access : (p : Packet) → is_some (reply_kind p) ≡ true → access_of p ≡ None
response_access (write_quadlet header offset value) e = cc
response_access (write_block header offset payload) e = cc
response_access (write_response header rcode) e = refl
response_access (read_quadlet header offset) e = cc
response_access (read_block header offset asked) e = cc
response_access (read_quadlet_response header rcode value) e = refl
response_access (read_block_response header rcode payload) e = refl
response_access (lock header offset extended payload) e = cc
response_access (lock_response header rcode extended payload) e = refl

-- ---- the notes of a turn
module _ (start : List Disk) (p : ℕ) where
  abbrev Here : List Moment → Option ℕ
  Here ms = list_taken start ms p

  effect_taken : (note : Note) (ms : List Moment) → IsEffect note → Here (said note ∷ ms) ≡ Here ms
  effect_taken (notes.Got serial) ms q = absurd q
  effect_taken note ms q = refl

  send_taken : (note : Note) (ms : List Moment) → IsSend note → Here (said note ∷ ms) ≡ Here ms
  send_taken (notes.Got serial) ms q = absurd q
  send_taken note ms q = refl

  unheard_taken : (note : Note) (ms : List Moment) → IsUnheard note → Here (said note ∷ ms) ≡ Here ms
  unheard_taken (notes.Got serial) ms q = absurd q
  unheard_taken note ms q = refl

  effects_taken : (ns : List Note) (past : List Moment) (old : List Note) → AllEffects ns → Here (map said (ns ++ old) ++ past) ≡ Here (map said old ++ past)
  effects_taken [] past old q = refl
  effects_taken (note ∷ ns) past old q = effect_taken note (map said (ns ++ old) ++ past) q.0 ∙ effects_taken ns past old q.1

  sends_taken : (ns : List Note) (past : List Moment) (old : List Note) → AllSends ns → Here (map said (ns ++ old) ++ past) ≡ Here (map said old ++ past)
  sends_taken [] past old q = refl
  sends_taken (note ∷ ns) past old q = send_taken note (map said (ns ++ old) ++ past) q.0 ∙ sends_taken ns past old q.1

  pub sends_over : (ns : List Note) (ms : List Moment) → AllSends ns → Here (map said ns ++ ms) ≡ Here ms
  sends_over [] ms q = refl
  sends_over (note ∷ ns) ms q = send_taken note (map said ns ++ ms) q.0 ∙ sends_over ns ms q.1

  -- what a node hands out takes no pointer
  pub hands_taken : (past : List Moment) {old new : List Note} → Hands old new → Here (map said new ++ past) ≡ Here (map said old ++ past)
  hands_taken past {old} {new} h =
      ap (λ ns. Here (map said ns ++ past)) (sym h.sent.is) ∙ sends_taken h.sent.more past h.middle h.sent.sends
      ∙ (ap (λ ns. Here (map said ns ++ past)) (sym h.told.is) ∙ effects_taken h.told.more past old h.told.effects)

  pub led_taken : (past : List Moment) {old new : List Note} → Led old new → Here (map said new ++ past) ≡ Here (map said old ++ past)
  led_taken past (passes h) = hands_taken past h
  led_taken past {old} {new} (opens note q h) = hands_taken past h ∙ unheard_taken note (map said old ++ past) q

  -- a packet that is got
  module _ (past : List Moment) (serial : ℕ) where
    abbrev T : Target
    T = over (target_at start past)

    abbrev wire : Terms
    wire = terms past

    pub elsewhere_taken : is_serial (receiver_in (wire.sent serial)) 0 ≡ false → Here (said (notes.Got serial) ∷ past) ≡ Here past
    elsewhere_taken away = ap (λ b. listed_at (cond b (got_in (answered_at wire serial) T wire serial) nothing) past T wire p (Here past)) away

    pub got_taken : is_serial (receiver_in (wire.sent serial)) 0 ≡ true → Here (said (notes.Got serial) ∷ past) ≡ listed_at (got_in (answered_at wire serial) T wire serial) past T wire p (Here past)
    got_taken here = ap (λ b. listed_at (cond b (got_in (answered_at wire serial) T wire serial) nothing) past T wire p (Here past)) here
