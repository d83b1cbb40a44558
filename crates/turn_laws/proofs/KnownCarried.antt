-- What each initiator has of a ROM is what the terms have, behind what a node hands out and behind a line that calls none.
use Rattle.std.proofs.Common.{arith, ◌≡◌, ◌∙◌, refl, sym, ap, subst, ℕ, suc, ◌==◌, ◌<◌, not, Bool, true, false, List, [], ◌∷◌, ◌++◌, map, length, Option, Some, None}
use Rattle.std.proofs.Math.ListN.{length-set}
use Rattle.std.proofs.lemmas.Bool.Decides.{nat_tests}
use Rattle.sbp_bus.specs.Generations.{node_of}
use Rattle.sbp_initiator.specs.Histories.Ends.{own}
use Rattle.sbp_initiator.specs.Initiators.{new_state}
use Rattle.sbp_initiator.specs.declared.state.InitiatorState.{InitiatorState}
use Rattle.sbp_journal.specs.Outgoings.{OutboxState}
use Rattle.sbp_journal.specs.Run.{Moment, asked, said}
use Rattle.sbp_journal.specs.declared.event.Event.{Event}
use Rattle.sbp_journal.specs.declared.event.Event.TheVariants as events
use Rattle.sbp_journal.specs.declared.note.Note.{Note}
use Rattle.sbp_journal.specs.declared.note.Note.TheVariants as notes
use Rattle.sbp_journal.specs.declared.outbox.Outgoing.{Outgoing}
use Rattle.sbp_journal.specs.declared.side.Side.{Side}
use Rattle.sbp_journal.specs.declared.side.Side.TheVariants as sides
use Rattle.sbp_world.proofs.Agents.Management.Still.{hist}
use Rattle.sbp_world.proofs.Hosts.Hosting.{state_here, state_there}
use Rattle.sbp_world.proofs.Wire.Nodes.{handed_alike}
use Rattle.sbp_world.specs.Handing.{handed_out}
use Rattle.sbp_world.specs.Hosts.Handing.{AreOthers, IsOther}
use Rattle.sbp_world.specs.Sending.{sent}
use Rattle.sbp_world.specs.Telling.{told, told_all}
use Rattle.sbp_world.specs.Worlds.{Scene, WorldState, initiator_at, with_initiator}
use Rattle.turn_laws.proofs.Calls.{Brings, calls, injects, loses, refuses, refuses_action, resets, sets_key}
use Rattle.turn_laws.proofs.Handed.{handed, handed_fresh, note_of, notes_sent, notes_told, onto, packet_note}
use Rattle.turn_laws.proofs.HostRoms.{AllBeside, AllOwn, Rom, all_both, beside_rom, is_beside, others_told, rest_rom, rom_at, sent_rom}
use Rattle.turn_laws.proofs.RomKnown.{KnownOf, known_rom}
use Rattle.turn_laws.proofs.RomSmall.{IsSmallDistance}
use Rattle.turn_laws.proofs.RomCarried.{apart}
use Rattle.turn_laws.proofs.OwnNotes.{own_told}

pub record KnownsOf (ms : List Moment) (w : WorldState) : Type 0 where
  pub each : (i : ℕ) → i < length w.initiators → KnownOf ms i (initiator_at w i)

pub known_keeps : (past now : List Moment) (i : ℕ) (s : InitiatorState) → rom_at now i ≡ rom_at past i → KnownOf past i s → KnownOf now i s
known_keeps past now i s e k = record { is = ap known_rom e ∙ k.is; small = subst (λ (r : Rom). IsSmallDistance r.management) (sym e) k.small; few = k.few }

-- ---- what another node hands out
side_beside : (i : ℕ) (side : Side) (w : WorldState) → IsOther side → AllBeside i (note_of side w)
side_beside i (sides.Own note) w o = absurd o
side_beside i (sides.Opened place orb) w o = tt
side_beside i (sides.Ran place orb cdb payload outcome) w o = (refl, tt)
side_beside i (sides.Ended place orb status) w o = (refl, tt)
side_beside i (sides.Dead place cause) w o = (refl, tt)
side_beside i (sides.Cut place cause) w o = (refl, tt)
side_beside i (sides.Managed node function subject status login) w o = (refl, tt)
side_beside i (sides.ManageFailed node cause) w o = (refl, tt)
side_beside i (sides.Held login) w o = (refl, tt)
side_beside i (sides.Expired login) w o = (refl, tt)
side_beside i (sides.Back login) w o = (refl, tt)
side_beside i (sides.Left login) w o = (refl, tt)
side_beside i (sides.Cleared unit) w o = (refl, tt)
side_beside i (sides.Unsolicited place) w o = (refl, tt)
side_beside i (sides.Unsent place) w o = (refl, tt)

others_beside : (i weight : ℕ) (later : List Side) (w : WorldState) → AreOthers later → AllBeside i (notes_told weight later w)
others_beside i weight [] w o = tt
others_beside i weight (side ∷ later) w o =
    let v = told weight side w in all_both i (note_of side w) (notes_told weight later v) (side_beside i side w o.0) (others_beside i weight later v o.1)

module _ (i from : ℕ) (other : (from == suc i) ≡ false) where
  packet_beside : (to : Option ℕ) (packet : Outgoing) (w : WorldState) → AllBeside i (packet_note to from packet w)
  packet_beside None packet w = tt
  packet_beside (Some to) packet w = (ap not other, tt)

  sent_beside : (packets : List Outgoing) (w : WorldState) → AllBeside i (notes_sent from packets w)
  sent_beside [] w = tt
  sent_beside (packet ∷ later) w =
      let v = sent from packet w in
      let to = node_of w.generations from packet.to in all_both i (packet_note to from packet w) (notes_sent from later v) (packet_beside to packet w) (sent_beside later v)

  -- of the target
  target_beside : (weight : ℕ) (outbox : OutboxState) (w : WorldState) → AreOthers outbox.sides → AllBeside i (handed from weight outbox w)
  target_beside weight outbox w o =
      let v = told_all weight outbox.sides w in all_both i (notes_told weight outbox.sides w) (notes_sent from outbox.packets v) (others_beside i weight outbox.sides w o) (sent_beside outbox.packets v)

  -- of another initiator
  own_beside : (weight : ℕ) (outbox : OutboxState) (w : WorldState) → AllBeside i (notes_told weight outbox.sides w) → AllBeside i (handed from weight outbox w)
  own_beside weight outbox w o =
      let v = told_all weight outbox.sides w in all_both i (notes_told weight outbox.sides w) (notes_sent from outbox.packets v) o (sent_beside outbox.packets v)

-- ---- behind what is handed out: `v` is the world behind the first note, or as the line begins
module _ (ms : List Moment) (w : WorldState) (k : KnownsOf ms w) (then : List Moment) (v : WorldState) where
  module _ (from weight : ℕ) (outbox : OutboxState) where
    abbrev more : List Note
    more = handed from weight outbox v

    abbrev behind : WorldState
    behind = handed_out from weight outbox v

    abbrev pub now : List Moment
    now = map said (onto more v.fresh) ++ then

    abbrev pub Kept : Type 0
    Kept = KnownsOf (hist then behind) behind

    now_is : hist then behind ≡ now
    now_is = ap (λ ns. map said ns ++ then) (handed_fresh from weight outbox v)

    other_keeps : (j : ℕ) (s : InitiatorState) → rom_at (hist then v) j ≡ rom_at ms j → AllBeside j more → KnownOf ms j s → KnownOf now j s
    other_keeps j s first beside h = known_keeps ms now j s (rest_rom j more v.fresh then beside ∙ first) h

  -- of the target
  pub target_turn : (weight : ℕ) (outbox : OutboxState) → ((j : ℕ) → rom_at (hist then v) j ≡ rom_at ms j) → v.initiators ≡ w.initiators → AreOthers outbox.sides → Kept 0 weight outbox
  target_turn weight outbox first same others =
      let behind_it = handed_out 0 weight outbox v in
      let states : behind_it.initiators ≡ w.initiators = (handed_alike 0 weight outbox v).initiators ∙ same in
      record {
        each = λ j b.
            subst (λ xs. KnownOf (hist then behind_it) j (initiator_at (record w { initiators = xs }) j)) (sym states)
            (subst (λ now. KnownOf now j (initiator_at w j)) (sym (now_is 0 weight outbox))
            (other_keeps 0 weight outbox j (initiator_at w j) (first j) (target_beside j 0 (apart j) weight outbox v others) (k.each j (subst (λ xs. j < length xs) states b))));
      }

  -- of an initiator
  module _ (i weight : ℕ) (outbox : OutboxState) (state : InitiatorState) (inside : i < length w.initiators) (first : (j : ℕ) → (i == j) ≡ false → rom_at (hist then v) j ≡ rom_at ms j) (beside : (j : ℕ) → (i == j) ≡ false → AllBeside j (notes_told weight outbox.sides v)) where
    each_now : KnownOf (now (suc i) weight outbox) i state → (j : ℕ) (c : Bool) → (j == i) ≡ c → j < length w.initiators → KnownOf (now (suc i) weight outbox) j (initiator_at (with_initiator i state w) j)
    each_now known j true e b =
        let same : i ≡ j = grind (arith, nat_tests) in
        subst (λ m. KnownOf (now (suc i) weight outbox) m (initiator_at (with_initiator i state w) m)) same (subst (KnownOf (now (suc i) weight outbox) i) (sym (state_here w.initiators i state (new_state 0 false) inside)) known)
    each_now known j false e b =
        let away : (suc i == suc j) ≡ false = grind (arith, nat_tests) in
        let other : (i == j) ≡ false = grind (arith, nat_tests) in
        subst (KnownOf (now (suc i) weight outbox) j) (sym (state_there w.initiators i j state (new_state 0 false) e inside))
        (other_keeps (suc i) weight outbox j (initiator_at w j) (first j other) (own_beside j (suc i) away weight outbox v (beside j other)) (k.each j b))

    pub own_turn : v.initiators ≡ (with_initiator i state w).initiators → KnownOf (now (suc i) weight outbox) i state → Kept (suc i) weight outbox
    own_turn same known =
        let behind_it = handed_out (suc i) weight outbox v in
        let states : behind_it.initiators ≡ (with_initiator i state w).initiators = (handed_alike (suc i) weight outbox v).initiators ∙ same in
        let size : length behind_it.initiators ≡ length w.initiators = ap (λ xs. length xs) states ∙ length-set w.initiators i state in
        record {
          each = λ j b.
              subst (λ xs. KnownOf (hist then behind_it) j (initiator_at (record w { initiators = xs }) j)) (sym states)
              (subst (λ ms. KnownOf ms j (initiator_at (with_initiator i state w) j)) (sym (now_is (suc i) weight outbox)) (each_now known j (j == i) refl (subst (λ n. j < n) size b)));
        }

-- what an initiator tells is beside every other one
pub told_beside : (i j weight : ℕ) (ns : List Note) (outbox : OutboxState) (v : WorldState) → outbox.sides ≡ own ns → AllOwn i ns → (i == j) ≡ false → AllBeside j (notes_told weight outbox.sides v)
told_beside i j weight ns outbox v e owned away = subst (AllBeside j) (sym (ap (λ xs. notes_told weight xs v) e ∙ own_told weight ns v)) (others_told ns i j away owned)

-- ---- behind a note of a line that settles, and behind a line that calls no node
module _ (ms : List Moment) (w : WorldState) (k : KnownsOf ms w) where
  pub moved : (now : List Moment) (v : WorldState) → v.initiators ≡ w.initiators → ((j : ℕ) → rom_at now j ≡ rom_at ms j) → KnownsOf now v
  moved now v same keeps = record { each = λ j b. subst (λ xs. KnownOf now j (initiator_at (record w { initiators = xs }) j)) (sym same) (known_keeps ms now j (initiator_at w j) (keeps j) (k.each j (subst (λ xs. j < length xs) same b))) }

  module _ (line : ℕ) (event : Event) (v : WorldState) (same : v.initiators ≡ w.initiators) where
    abbrev opens : List Moment
    opens = asked line event ∷ ms

    line_noted : (note : Note) → ((j : ℕ) → is_beside j note ≡ true) → KnownsOf (said note ∷ opens) v
    line_noted note none = moved (said note ∷ opens) v same (λ j. beside_rom note opens j (none j))

  pub line_turn : (line : ℕ) (s : Scene) (event : Event) (rest : List Note) (behind : Scene) → Brings line s event rest → behind.world.initiators ≡ w.initiators → KnownsOf (map said (onto rest []) ++ asked line event ∷ ms) behind.world
  line_turn line s event rest behind (calls is_event c) same = moved (asked line event ∷ ms) behind.world same (λ j. refl)
  line_turn line s event rest behind (refuses is_event refusal) same = line_noted line event behind.world same (notes.Refused line refusal.number) (λ j. refl)
  line_turn line s event rest behind (refuses_action i action number e) same = line_noted line (events.Act i action) behind.world same (notes.Refused line number) (λ j. refl)
  line_turn line s event rest behind (resets physical generation e) same = line_noted line (events.Reset physical) behind.world same (notes.Reset generation) (λ j. refl)
  line_turn line s event rest behind (loses serial) same = line_noted line (events.Lose serial) behind.world same (notes.Lost serial) (λ j. refl)
  line_turn line s event rest behind (sets_key unit key) same = line_noted line (events.Key unit key) behind.world same (notes.Key unit) (λ j. refl)
  line_turn line s event rest behind (injects i bytes serial generation from to) same =
      let opens = asked line (events.Inject i bytes) ∷ ms in
      moved (said (notes.Sent serial generation from to bytes) ∷ said (notes.Injected serial) ∷ opens) behind.world same
      (λ j. sent_rom serial generation from to bytes (said (notes.Injected serial) ∷ opens) j tt ∙ beside_rom (notes.Injected serial) opens j refl)
