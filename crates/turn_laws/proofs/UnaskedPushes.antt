-- A request of the target that nothing wants as it is sent is among the packets of unsolicited statuses to the end of its turn; so it goes to an initiator of which `unsolicited` is told there.
use Rattle.std.proofs.Common.{arith, ◌≡◌, ◌∙◌, refl, sym, ap, subst, inl, inr, ◌⊎◌, ℕ, zero, suc, ◌≤◌, ◌||◌, not, is_none, Bool, true, false, cond, List, [], ◌∷◌, position, Option, Some, None, Result, Ok, Err}
use Rattle.std.proofs.lemmas.Bool.Decides.{nat_tests}
use Rattle.async_packet.specs.Packet.{Packet, lock, lock_response, read_block, read_block_response, read_quadlet, read_quadlet_response, write_block, write_quadlet, write_response}
use Rattle.async_packet.specs.Reading.{reading}
use Rattle.async_packet.specs.declared.fault.PacketFault.{PacketFault}
use Rattle.orb_layout.specs.declared.ask.Ask.TheVariants.{Nothing}
use Rattle.rbc_disk.specs.Disk.{Disk}
use Rattle.sbp_journal.specs.Addresses.{Access}
use Rattle.sbp_journal.specs.Run.{Moment, said}
use Rattle.sbp_journal.specs.Transactions.{Kind, Part, part_by, part_in, part_of, request}
use Rattle.sbp_journal.specs.Wire.{terms}
use Rattle.sbp_journal.specs.declared.note.Note.{Note}
use Rattle.sbp_journal.specs.declared.note.Note.TheVariants as notes
use Rattle.sbp_laws.specs.Deliveries.{once_told}
use Rattle.sbp_laws.specs.Packets.{access_in, access_in_bytes, receiver_in, spelled_by}
use Rattle.sbp_laws.specs.SentLaw.{end_of}
use Rattle.sbp_laws.specs.Targets.{Target, is_write_access, known_at, sent_as, sent_for, taken_on, target_at, wants, wants_it}
use Rattle.sbp_laws.specs.Turns.{Turn}
use Rattle.sbp_laws.specs.Unasked.{is_unasked}
use Rattle.sbp_world.proofs.Common.{untrue}
use Rattle.sbp_world.proofs.Hosts.SentMoments.{count_now, sent_now, sent_there}
use Rattle.turn_laws.proofs.LaterNotes.{note_sent}
use Rattle.turn_laws.proofs.LaterTerms.{Grows, Pushes, grown}
use Rattle.turn_laws.proofs.PendingTerms.{upd_other}
use Rattle.turn_laws.proofs.PushSerials.{Apart, Has, note_count}
use Rattle.turn_laws.proofs.PresentOrbs.{told_one}
use Rattle.turn_laws.proofs.SentOwn.{AllOwn, own_begun}
use Rattle.turn_laws.proofs.SerialsStay.{note_goes}
use Rattle.turn_laws.proofs.TargetHails.{IsCalling, Stands}

-- ---- what has an access is a request
pub record IsAsking (part : Part) : Type 0 where
  pub label : ℕ
  pub kind : Kind
  pub is : part ≡ request label kind

packet_asks : (p : Packet) (access : Access) → access_in (Some p) ≡ Some access → IsAsking (part_in p)
packet_asks (write_quadlet header offset value) access e = record { label = _; kind = _; is = refl }
packet_asks (write_block header offset payload) access e = record { label = _; kind = _; is = refl }
packet_asks (write_response header rcode) access e = absurd (let no : None ≡ Some access = e in cc)
packet_asks (read_quadlet header offset) access e = record { label = _; kind = _; is = refl }
packet_asks (read_block header offset size) access e = record { label = _; kind = _; is = refl }
packet_asks (read_quadlet_response header rcode value) access e = absurd (let no : None ≡ Some access = e in cc)
packet_asks (read_block_response header rcode payload) access e = absurd (let no : None ≡ Some access = e in cc)
packet_asks (lock header offset extended payload) access e = record { label = _; kind = _; is = refl }
packet_asks (lock_response header rcode extended payload) access e = absurd (let no : None ≡ Some access = e in cc)

pub bytes_ask : (bytes : List ℕ) (access : Access) → access_in_bytes bytes ≡ Some access → IsAsking (part_of bytes)
unfolding part_of
bytes_ask bytes access e = by (reading bytes) e
  where
    by : (r : Result Packet PacketFault) → access_in (spelled_by r) ≡ Some access → IsAsking (part_by r)
    by (Ok p) f = packet_asks p access f
    by (Err fault) f = absurd (let no : None ≡ Some access = f in cc)

-- ---- what nothing wants is among the unsolicited statuses
none_in : (o : Option ℕ) (b : Bool) → not (not (is_none o) || b) ≡ true → (o ≡ None) × (b ≡ false)
none_in None false e = (refl, refl)
none_in None true e = untrue e
none_in (Some k) b e = untrue e

module _ (start : List Disk) (serial generation to : ℕ) (bytes : List ℕ) (past : List Moment) where
  abbrev T : Target
  T = target_at start past

  abbrev settled : Target
  settled = taken_on None T.reply T

  abbrev now : List Moment
  now = said (notes.Sent serial generation 0 to bytes) ∷ past

  abbrev w : Bool
  w = is_write_access (access_in_bytes bytes)

  sent_of : (place : Option ℕ) (b : Bool) → place ≡ None → wants settled.manager_asks b ≡ false → Has (sent_for place b serial settled).pushes serial
  sent_of None b e f = subst (λ (c : Bool). Has (cond c (record settled { manages = Some serial; manager_asks = Nothing }) (record settled { pushes = serial ∷ settled.pushes })).pushes serial) (sym f) (inl refl)
  sent_of (Some place) b e f = absurd (let no : Some place ≡ None = e in cc)

  by_access : (o : Option Access) → access_in_bytes bytes ≡ o → is_unasked settled o ≡ true → Has (Pushes start now) serial
  by_access None e u = untrue u
  by_access (Some access) e u =
      let a = bytes_ask bytes access e in
      let none = none_in (position (wants_it access.is_write) settled.agents) (wants settled.manager_asks access.is_write) u in
      subst (λ (p : Part). Has (sent_as p w serial settled).pushes serial) (sym a.is)
      (subst (λ (o : Option Access). Has (sent_for (position (wants_it (is_write_access o)) settled.agents) (is_write_access o) serial settled).pushes serial) (sym e)
      (sent_of (position (wants_it access.is_write) settled.agents) access.is_write none.0 none.1))

  pub unasked_pushed : is_unasked settled (access_in_bytes bytes) ≡ true → Has (Pushes start now) serial
  unasked_pushed u = by_access (access_in_bytes bytes) refl u

-- ---- and stays there
module _ (start : List Disk) (s : ℕ) where
  one_stays : (note : Note) (past : List Moment) → Has (Pushes start past) s → Has (Pushes start (said note ∷ past)) s
  one_stays (notes.Sent serial generation from to bytes) past h = by (grown start from (λ to bytes. Unit {0}) serial generation to bytes past)
    where
      now : List Moment
      now = said (notes.Sent serial generation from to bytes) ∷ past

      by : (Pushes start now ≡ Pushes start past) ⊎ Grows start from (λ to bytes. Unit {0}) serial generation to bytes past → Has (Pushes start now) s
      by (inl e) = subst (λ xs. Has xs s) (sym e) h
      by (inr g) = subst (λ xs. Has xs s) (sym g.is) (inr h)
  one_stays note past h = subst (λ xs. Has xs s) (sym (note_goes (Apart 0) refl note past (known_at start past).wire (target_at start past) tt).pushes) h

  pub stays : (rest : List Note) (past : List Moment) → Has (Pushes start past) s → Has (Pushes start (once_told past rest)) s
  stays [] past h = h
  stays (note ∷ rest) past h = subst (λ ms. Has (Pushes start ms) s) (sym (told_one note rest past)) (stays rest (said note ∷ past) (one_stays note past h))

-- ---- and a packet is as it was sent
abbrev SentStays : ℕ → Note → List Moment → Type 0
SentStays s note past = ((terms (said note ∷ past)).sent s ≡ (terms past).sent s) × (s ≤ (terms (said note ∷ past)).count)

module _ (s : ℕ) where
  one_sent : (note : Note) (past : List Moment) → AllOwn (said note ∷ past) → s ≤ (terms past).count → SentStays s note past
  one_sent (notes.Sent serial generation from to bytes) past own l =
      let next = own.1.0 in
      let count = count_now past serial generation from to bytes in
      (ap (λ f. f s) (sent_now past serial generation from to bytes) ∙ upd_other (terms past).sent serial s (Some _) (grind (arith, nat_tests)), omega (arith, count, l))
  one_sent note past own l = (ap (λ f. f s) (note_sent note (terms past) tt), (let c = note_count note (terms past) tt in omega (arith, c, l)))

  pub sent_stays : (rest : List Note) (past : List Moment) → AllOwn (once_told past rest) → s ≤ (terms past).count → (terms (once_told past rest)).sent s ≡ (terms past).sent s
  sent_stays [] past own l = refl
  sent_stays (note ∷ rest) past own l =
      let then = said note ∷ past in
      let behind = subst AllOwn (told_one note rest past) own in
      let x = one_sent note past (own_begun rest then behind) l in
      ap (λ ms. (terms ms).sent s) (told_one note rest past) ∙ (sent_stays rest then behind x.1 ∙ x.0)

pub note_more : (note : Note) (past : List Moment) → (terms past).count ≤ (terms (said note ∷ past)).count
note_more (notes.Sent serial generation from to bytes) past = let k = count_now past serial generation from to bytes in omega (arith, k)
note_more note past = let k = note_count note (terms past) tt in omega (arith, k)

-- ---- so each packet of a turn that nothing wants goes to an initiator of which `unsolicited` is told
module _ (start : List Disk) (t : Turn) (c : IsCalling start t) where
  abbrev pub IsHailed : ℕ → Type 0
  IsHailed to = (i : ℕ) × ((to ≡ suc i) × Stands (notes.Unsolicited i) t.rest)

  abbrev pub HailedAt : List Moment → Note → Type 0
  HailedAt past (notes.Sent serial generation zero to bytes) = is_unasked (taken_on None (target_at start past).reply (target_at start past)) (access_in_bytes bytes) ≡ true → IsHailed to
  HailedAt past note = Unit {0}

  same_some : (a b : ℕ) → Some a ≡ Some b → a ≡ b
  same_some a b e = cc

  pub hailed_at : (note : Note) (rest : List Note) (past : List Moment) → once_told past (note ∷ rest) ≡ end_of t → AllOwn (end_of t) → (terms (t.start ∷ t.past)).count ≤ (terms past).count → HailedAt past note
  hailed_at (notes.Sent serial generation zero to bytes) rest past is own low = λ u.
      let note = notes.Sent serial generation 0 to bytes in
      let then = said note ∷ past in
      let ends : once_told then rest ≡ end_of t = sym (told_one note rest past) ∙ is in
      let behind : AllOwn (once_told then rest) = subst AllOwn (sym ends) own in
      let next = (own_begun rest then behind).1.0 in
      let count = count_now past serial generation 0 to bytes in
      let has : Has (Pushes start (end_of t)) serial = subst (λ ms. Has (Pushes start ms) serial) ends (stays start serial rest then (unasked_pushed start serial generation to bytes past u)) in
      let x = c.called serial has (omega (arith, low, next)) in
      let there : receiver_in ((terms (end_of t)).sent serial) ≡ Some to =
      ap (λ ms. receiver_in ((terms ms).sent serial)) (sym ends) ∙ (ap receiver_in (sent_stays serial rest then behind (omega (arith, next, count))) ∙ ap receiver_in (sent_there past serial generation 0 to bytes)) in
      (x.initiator, (same_some to (suc x.initiator) (sym there ∙ x.there), x.told))
  hailed_at (notes.Sent serial generation (suc from) to bytes) rest past is own low = tt
  hailed_at note rest past is own low = tt
