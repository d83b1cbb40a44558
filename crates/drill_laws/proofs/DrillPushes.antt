-- In a drill no unsolicited status is told of, moment by moment; so each request that the target sends is one that an agent asks for.
use Rattle.std.proofs.Common.{◌≡◌, ◌∙◌, refl, sym, ap, subst, ℕ, zero, ◌==◌, ◌&&◌, ◌||◌, not, Bool, true, false, List, [], ◌∷◌, ◌++◌, map, Option, Some, None, Result, Ok, Err, position}
use Rattle.std.specs.List.{AllByRecursion}
use Rattle.std.specs.Prelude.{is_none}
use Rattle.async_packet.specs.Packet.{Packet, lock, lock_response, read_block, read_block_response, read_quadlet, read_quadlet_response, write_block, write_quadlet, write_response}
use Rattle.async_packet.specs.Reading.{reading}
use Rattle.async_packet.specs.declared.fault.PacketFault.{PacketFault}
use Rattle.bus_transactions.specs.Packets.{SerialsCount}
use Rattle.rbc_disk.specs.Disk.{Disk}
use Rattle.sbp_journal.specs.Run.{Entry, Moment, asked, history, said}
use Rattle.sbp_journal.specs.Transactions.{Kind, Sending, no_packet, part_by, part_of, request}
use Rattle.sbp_journal.specs.Wire.{terms}
use Rattle.sbp_journal.specs.declared.event.Event.{Event}
use Rattle.sbp_journal.specs.declared.note.Note.{Note}
use Rattle.sbp_journal.specs.declared.note.Note.TheVariants as notes
use Rattle.sbp_laws.specs.MediaLaw.{HasPushes, is_push_note}
use Rattle.sbp_laws.specs.Packets.{access_in, access_in_bytes, packet_in, receiver_in, spelled_by}
use Rattle.sbp_laws.specs.Targets.{Target, is_serial, is_write_access, taken_on, target_at, wants, wants_it}
use Rattle.sbp_laws.specs.Turns.{EachMoment, EachTurnBefore, Where, turn}
use Rattle.sbp_laws.specs.Unasked.{NoneUnasked, is_announced, is_push, is_unasked, is_wanted}
use Rattle.sbp_world.proofs.Common.{untrue}
use Rattle.sbp_world.proofs.Hosts.Remaining.{remains}
use Rattle.sbp_world.proofs.Hosts.SentMoments.{sent_below, serials_from}
use Rattle.drill_laws.specs.DrillCalm.{IsCalmAt}
use Rattle.drill_laws.proofs.DrillHosts.{RestsIdle, none_wanted, taken_idle}
use Rattle.drill_laws.proofs.DrillMild.{AreMild, IsMildAt, first_mild, moment_mild, turn_quiet}
use Rattle.drill_laws.proofs.DrillMoments.{DrillAt}
use Rattle.drill_laws.proofs.DrillRings.{IsRing}

-- ---- what is known of a front of a drill's history
pub record IsTame (past : List Moment) : Type 0 where
  pub serials : SerialsCount past
  pub mild : AreMild (terms past)
  pub calm : EachMoment IsCalmAt past
  pub drill : EachMoment DrillAt past

mild_before : (later earlier : List Moment) → SerialsCount (later ++ earlier) → AreMild (terms (later ++ earlier)) → AreMild (terms earlier)
mild_before later earlier c mild serial here access found w = by ((terms earlier).sent serial) refl
  where
    by : (so : Option Sending) → (terms earlier).sent serial ≡ so → IsRing access.offset
    by None e = let no : false ≡ true = ap (λ s. is_serial (receiver_in s) 0) (sym e) ∙ here in untrue no
    by (Some q) e =
        let same = (remains later earlier c).sent serial (sent_below earlier serial q (serials_from later earlier c) e) in
        mild serial (ap (λ s. is_serial (receiver_in s) 0) same ∙ here) access (ap (λ s. access_in (packet_in s)) same ∙ found) w

pub tame_before : (m : Moment) (past : List Moment) → IsTame (m ∷ past) → IsTame past
tame_before m past t = record { serials = serials_from (m ∷ []) past t.serials; mild = mild_before (m ∷ []) past t.serials t.mild; calm = t.calm.1; drill = t.drill.1 }

module _ (start : List Disk) where
  pub is_mild : (past : List Moment) → IsTame past → IsMildAt (target_at start past)
  is_mild [] t = first_mild start
  is_mild (m ∷ past) t = let before = tame_before m past t in moment_mild start m past t.drill.0 t.calm.0 before.mild (is_mild past before)

  -- ---- no unsolicited status is told of
  abbrev pub NoPushAt : Moment → List Moment → Type 0
  NoPushAt (said (notes.Unsolicited i)) past = ⊥
  NoPushAt moment past = Unit {0}

  no_push : (note : Note) (past : List Moment) → is_push_note note ≡ false → NoPushAt (said note) past
  no_push (notes.Unsolicited i) past e = absurd (cc e)
  no_push _ past e = tt

  -- each note stands behind a line
  abbrev pub Ends : Bool → List Moment → Type 0
  Ends is_open [] = is_open ≡ false
  Ends is_open (asked line event ∷ past) = Ends false past
  Ends is_open (said note ∷ past) = Ends true past

  ends_told : (told : List Note) (is_open : Bool) (line : ℕ) (event : Event) (past : List Moment) → Ends false past → Ends is_open (map said told ++ asked line event ∷ past)
  ends_told [] is_open line event past e = e
  ends_told (note ∷ told) is_open line event past e = ends_told told true line event past e

  pub ends_history : (entries : List Entry) → Ends false (history entries)
  ends_history [] = refl
  ends_history (entry ∷ before) = ends_told entry.notes false entry.line entry.event (history before) (ends_history before)

  abbrev AreQuiet : List Note → Type 0
  AreQuiet rest = AllByRecursion (λ note. is_push_note note ≡ false) rest

  never : true ≡ false → {A : Type 0} → A
  never e = absurd (cc e)

  pub none_pushed : (past : List Moment) (rest : List Note) (is_open : Bool) → Ends is_open past → (is_open ≡ false → rest ≡ []) → IsTame past → EachTurnBefore (HasPushes start) past rest → AreQuiet rest × EachMoment NoPushAt past
  none_pushed [] rest is_open e f t each = (subst AreQuiet (sym (f e)) tt, tt)
  none_pushed (asked line event ∷ past) rest is_open e f t each =
      let before = tame_before (asked line event) past t in
      (turn_quiet start (turn past (asked line event) rest) (is_mild past before).off each.0, (tt, (none_pushed past [] false e (λ g. refl) before each.1).1))
  none_pushed (said (notes.Got s) ∷ past) rest is_open e f t each =
      let before = tame_before (said (notes.Got s)) past t in
      (turn_quiet start (turn past (said (notes.Got s)) rest) (is_mild past before).off each.0, (tt, (none_pushed past [] true e (λ g. never g) before each.1).1))
  none_pushed (said (notes.Ignored s cause) ∷ past) rest is_open e f t each =
      let before = tame_before (said (notes.Ignored s cause)) past t in
      (turn_quiet start (turn past (said (notes.Ignored s cause)) rest) (is_mild past before).off each.0, (tt, (none_pushed past [] true e (λ g. never g) before each.1).1))
  none_pushed (said (notes.TimedOut s) ∷ past) rest is_open e f t each = untrue t.drill.0
  none_pushed (said (notes.Seen node generation) ∷ past) rest is_open e f t each = untrue t.drill.0
  none_pushed (said notes.Tick ∷ past) rest is_open e f t each = untrue t.drill.0
  none_pushed (said notes.Settled ∷ past) rest is_open e f t each =
      let before = tame_before (said notes.Settled) past t in
      (turn_quiet start (turn past (said notes.Settled) rest) (is_mild past before).off each.0, (tt, (none_pushed past [] true e (λ g. never g) before each.1).1))
  none_pushed (said notes.Stopped ∷ past) rest is_open e f t each =
      let before = tame_before (said notes.Stopped) past t in
      (turn_quiet start (turn past (said notes.Stopped) rest) (is_mild past before).off each.0, (tt, (none_pushed past [] true e (λ g. never g) before each.1).1))
  none_pushed (said note ∷ past) rest is_open e f t each =
      let all = none_pushed past (note ∷ rest) true e (λ g. never g) (tame_before (said note) past t) each in
      (all.0.1, (no_push note past all.0.0, all.1))

  announced_none : (past : List Moment) (to : ℕ) → EachMoment NoPushAt past → is_announced past to ≡ false
  announced_none [] to q = refl
  announced_none (said (notes.Unsolicited i) ∷ past) to q = absurd q.0
  announced_none (said (notes.Sent serial generation from other bytes) ∷ past) to q = by (not (other == to)) (announced_none past to q.1)
    where
      by : (b : Bool) → is_announced past to ≡ false → (b && is_announced past to) ≡ false
      by true e = e
      by false e = refl
  announced_none (said (notes.Got serial) ∷ past) to q = refl
  announced_none (said (notes.Ignored serial cause) ∷ past) to q = refl
  announced_none (said (notes.TimedOut serial) ∷ past) to q = refl
  announced_none (asked line event ∷ past) to q = refl
  announced_none (said note ∷ past) to q = announced_none past to q.1

  -- ---- each request of the target is one that an agent asks for
  module _ (past : List Moment) (serial generation to : ℕ) (bytes : List ℕ) where
    abbrev pub settled : Target
    settled = taken_on None (target_at start past).reply (target_at start past)

    abbrev pub is_writing : Bool
    is_writing = is_write_access (access_in_bytes bytes)

    not_unasked : NoneUnasked start (said (notes.Sent serial generation zero to bytes)) past → EachMoment NoPushAt past → is_unasked settled (access_in_bytes bytes) ≡ false
    not_unasked law q = by (is_unasked settled (access_in_bytes bytes)) law
      where
        none : (a b : Bool) → (a && b) ≡ true → b ≡ false → {A : Type 0} → A
        none true b e f = untrue (sym f ∙ e)
        none false b e f = untrue e

        by : (b : Bool) → Where b ((is_push (access_in_bytes bytes) && is_announced past to) ≡ true) → b ≡ false
        by true h = none (is_push (access_in_bytes bytes)) (is_announced past to) h (announced_none past to q)
        by false h = refl

    so : (b : Bool) → not b ≡ false → b ≡ true
    so true e = refl
    so false e = absurd (cc e)

    wanted_by : (r : Result Packet PacketFault) (label : ℕ) (kind : Kind) → part_by r ≡ request label kind → is_unasked settled (access_in (spelled_by r)) ≡ false → is_wanted settled (is_write_access (access_in (spelled_by r))) ≡ true
    wanted_by (Err fault) label kind e f = absurd (let no : no_packet ≡ request label kind = e in cc no)
    wanted_by (Ok (write_quadlet header offset value)) label kind e f = so (is_wanted settled true) f
    wanted_by (Ok (write_block header offset payload)) label kind e f = so (is_wanted settled true) f
    wanted_by (Ok (read_quadlet header offset)) label kind e f = so (is_wanted settled false) f
    wanted_by (Ok (read_block header offset size)) label kind e f = so (is_wanted settled false) f
    wanted_by (Ok (lock header offset extended payload)) label kind e f = so (is_wanted settled false) f
    wanted_by (Ok (write_response header rcode)) label kind e f = absurd (cc e)
    wanted_by (Ok (read_quadlet_response header rcode value)) label kind e f = absurd (cc e)
    wanted_by (Ok (read_block_response header rcode payload)) label kind e f = absurd (cc e)
    wanted_by (Ok (lock_response header rcode extended payload)) label kind e f = absurd (cc e)

    is_wanted_here : (label : ℕ) (kind : Kind) → part_of bytes ≡ request label kind → is_unasked settled (access_in_bytes bytes) ≡ false → is_wanted settled is_writing ≡ true
    unfolding part_of
    is_wanted_here label kind e f = wanted_by (reading bytes) label kind e f

    -- of the agent of this place
    pub record IsPlaced : Type 0 where
      pub place : ℕ
      pub is : position (wants_it is_writing) settled.agents ≡ Some place

    pub placed : RestsIdle (target_at start past) → NoneUnasked start (said (notes.Sent serial generation zero to bytes)) past → EachMoment NoPushAt past → (label : ℕ) (kind : Kind) → part_of bytes ≡ request label kind → IsPlaced
    placed idle law q label kind e = by (position (wants_it is_writing) settled.agents) refl (is_wanted_here label kind e (not_unasked law q))
      where
        by : (o : Option ℕ) → position (wants_it is_writing) settled.agents ≡ o → (not (is_none o) || wants settled.manager_asks is_writing) ≡ true → IsPlaced
        by (Some place) f h = record { place = place; is = f }
        by None f h = untrue (sym (none_wanted settled is_writing (taken_idle None (target_at start past).reply (target_at start past) idle)) ∙ h)
