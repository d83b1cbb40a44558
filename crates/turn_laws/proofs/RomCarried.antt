-- The reads of a ROM of each initiator are tied to its operation, behind what a node hands out and behind a line that calls none.
use Rattle.std.proofs.Common.{arith, ◌≡◌, ◌∙◌, refl, sym, ap, subst, ℕ, suc, ◌==◌, ◌<◌, Bool, true, false, cond, List, [], ◌∷◌, ◌++◌, map, length}
use Rattle.std.proofs.Math.ListN.{length-set}
use Rattle.std.proofs.lemmas.Bool.Decides.{nat_tests}
use Rattle.sbp_initiator.specs.Initiators.{new_state}
use Rattle.sbp_initiator.specs.declared.state.InitiatorState.{InitiatorState}
use Rattle.sbp_journal.specs.Outgoings.{OutboxState}
use Rattle.sbp_journal.specs.Run.{Moment, asked, said}
use Rattle.sbp_journal.specs.Wire.{Terms, noted, terms}
use Rattle.sbp_journal.specs.declared.event.Event.{Event}
use Rattle.sbp_journal.specs.declared.event.Event.TheVariants as events
use Rattle.sbp_journal.specs.declared.note.Note.{Note}
use Rattle.sbp_journal.specs.declared.note.Note.TheVariants as notes
use Rattle.sbp_laws.specs.Budget.{initiators}
use Rattle.sbp_world.specs.Handing.{handed_out}
use Rattle.sbp_world.specs.Hosts.Handing.{AreOthers}
use Rattle.sbp_world.specs.Worlds.{Scene, WorldState, initiator_at, with_initiator}
use Rattle.sbp_world.proofs.Agents.Management.Still.{hist}
use Rattle.sbp_world.proofs.Common.{same_number, untrue}
use Rattle.sbp_world.proofs.Formed.{AreOwn}
use Rattle.sbp_world.proofs.Hosts.Hosting.{state_here, state_there}
use Rattle.sbp_world.proofs.Wire.Begun.{is_begin, same_initiators}
use Rattle.sbp_world.proofs.Wire.Nodes.{handed_alike}
use Rattle.turn_laws.proofs.Calls.{Brings, calls, injects, loses, refuses, refuses_action, resets, sets_key}
use Rattle.turn_laws.proofs.Handed.{handed, handed_fresh, onto}
use Rattle.turn_laws.proofs.RomOthers.{initiator_none, keeps_injected, target_none}
use Rattle.turn_laws.proofs.RomTerms.{Keeps, NoneMine, is_mine, keeps_line, keeps_note, keeps_rest, keeps_then}
use Rattle.turn_laws.proofs.RomTies.{RomOf, rom_keeps}

-- what is carried on: the terms count the initiators, and each one's reads are tied
pub record RomsOf (ms : List Moment) (w : WorldState) : Type 0 where
  pub count : initiators ms ≡ length w.initiators
  pub each : (i : ℕ) → i < length w.initiators → RomOf ms i (initiator_at w i)

-- ---- a note that is no packet of one initiator begins no run
mine_begins : (j : ℕ) (note : Note) → is_mine j note ≡ false → is_begin note ≡ false
mine_begins j (notes.Begin count ready) e = untrue (sym e)
mine_begins j note e = refl

note_count : (j : ℕ) (note : Note) (past : List Moment) → is_mine j note ≡ false → initiators (said note ∷ past) ≡ initiators past
note_count j note past e = same_initiators (note ∷ []) past (mine_begins j note e, tt)

rest_count : (j : ℕ) (rest old : List Note) (past : List Moment) → NoneMine j rest → initiators (map said (onto rest old) ++ past) ≡ initiators (map said old ++ past)
rest_count j [] old past n = refl
rest_count j (note ∷ rest) old past n = rest_count j rest (note ∷ old) past n.1 ∙ note_count j note (map said old ++ past) n.0

-- a note that is no packet of any
module _ (past : List Moment) (w : WorldState) (note : Note) (v : WorldState) (fresh_is : v.fresh ≡ note ∷ w.fresh) (none : (j : ℕ) → is_mine j note ≡ false) where
  pub noted_keeps : (j : ℕ) → Keeps j (hist past w) (hist past v)
  noted_keeps j = subst (λ ns. Keeps j (hist past w) (map said ns ++ past)) (sym fresh_is) (keeps_note j note (hist past w) (none j))

  pub noted_count : initiators (hist past v) ≡ initiators (hist past w)
  noted_count = ap (λ ns. initiators (map said ns ++ past)) fresh_is ∙ note_count 0 note (hist past w) (none 0)

pub apart : (j : ℕ) → (0 == suc j) ≡ false
apart j = grind (arith, nat_tests)

-- ---- behind what is handed out: `v` is the world behind the first note, or as the line begins
module _ (ms : List Moment) (w : WorldState) (k : RomsOf ms w) (then : List Moment) (v : WorldState) (first : (j : ℕ) → Keeps j ms (hist then v)) (counted : initiators (hist then v) ≡ initiators ms) where
  -- an initiator that hands out nothing of it
  module _ (from weight : ℕ) (outbox : OutboxState) where
    abbrev more : List Note
    more = handed from weight outbox v

    abbrev behind : WorldState
    behind = handed_out from weight outbox v

    abbrev now : List Moment
    now = map said (onto more v.fresh) ++ then

    abbrev pub Kept : Type 0
    Kept = RomsOf (hist then behind) behind

    now_is : hist then behind ≡ now
    now_is = ap (λ ns. map said ns ++ then) (handed_fresh from weight outbox v)

    other_keeps : (j : ℕ) → NoneMine j more → Keeps j ms now
    other_keeps j none = keeps_then j ms (hist then v) now (first j) (keeps_rest j more v.fresh then none)

    count_now : (j : ℕ) → NoneMine j more → initiators (hist then behind) ≡ length w.initiators
    count_now j none = ap initiators now_is ∙ rest_count j more v.fresh then none ∙ counted ∙ k.count

  -- of the target
  pub target_turn : (weight : ℕ) (outbox : OutboxState) → v.initiators ≡ w.initiators → AreOthers outbox.sides → Kept 0 weight outbox
  target_turn weight outbox same others =
      let behind_it = handed_out 0 weight outbox v in
      let states : behind_it.initiators ≡ w.initiators = (handed_alike 0 weight outbox v).initiators ∙ same in
      record {
        count = count_now 0 weight outbox 0 (target_none 0 0 (apart 0) weight outbox v others) ∙ sym (ap (λ xs. length xs) states);
        each = λ j b.
            subst (λ xs. RomOf (hist then behind_it) j (initiator_at (record w { initiators = xs }) j)) (sym states)
            (subst (λ now. RomOf now j (initiator_at w j)) (sym (now_is 0 weight outbox))
            (rom_keeps ms _ j (initiator_at w j) (other_keeps 0 weight outbox j (target_none j 0 (apart j) weight outbox v others)) (k.each j (subst (λ xs. j < length xs) states b))));
      }

  -- of an initiator
  pub own_turn : (i weight : ℕ) (outbox : OutboxState) (state : InitiatorState) → i < length w.initiators → v.initiators ≡ (with_initiator i state w).initiators → AreOwn outbox.sides → RomOf (now (suc i) weight outbox) i state → Kept (suc i) weight outbox
  own_turn i weight outbox state inside same own rom =
      let behind_it = handed_out (suc i) weight outbox v in
      let states : behind_it.initiators ≡ (with_initiator i state w).initiators = (handed_alike (suc i) weight outbox v).initiators ∙ same in
      let size : length behind_it.initiators ≡ length w.initiators = ap (λ xs. length xs) states ∙ length-set w.initiators i state in
      record {
        count = count_now (suc i) weight outbox (suc i) (initiator_none (suc i) (suc i) (let z : (suc i == suc (suc i)) ≡ false = grind (arith, nat_tests) in z) weight outbox v own) ∙ sym size;
        each = λ j b.
            subst (λ xs. RomOf (hist then behind_it) j (initiator_at (record w { initiators = xs }) j)) (sym states)
            (subst (λ ms. RomOf ms j (initiator_at (with_initiator i state w) j)) (sym (now_is (suc i) weight outbox)) (each_now j (j == i) refl (subst (λ n. j < n) size b)));
      }
    where
      each_now : (j : ℕ) (c : Bool) → (j == i) ≡ c → j < length w.initiators → RomOf (now (suc i) weight outbox) j (initiator_at (with_initiator i state w) j)
      each_now j true e b =
          let same : i ≡ j = grind (arith, nat_tests) in
          subst (λ m. RomOf (now (suc i) weight outbox) m (initiator_at (with_initiator i state w) m)) same (subst (RomOf (now (suc i) weight outbox) i) (sym (state_here w.initiators i state (new_state 0 false) inside)) rom)
      each_now j false e b =
          let away : (suc i == suc j) ≡ false = grind (arith, nat_tests) in
          subst (RomOf (now (suc i) weight outbox) j) (sym (state_there w.initiators i j state (new_state 0 false) e inside))
          (rom_keeps ms _ j (initiator_at w j) (other_keeps (suc i) weight outbox j (initiator_none j (suc i) away weight outbox v own)) (k.each j b))

-- ---- behind a note of a line that settles, and behind a line that calls no node
module _ (ms : List Moment) (w : WorldState) (k : RomsOf ms w) where
  moved : (now : List Moment) (v : WorldState) → v.initiators ≡ w.initiators → initiators now ≡ initiators ms → ((j : ℕ) → Keeps j ms now) → RomsOf now v
  moved now v same count keeps = record {
    count = count ∙ k.count ∙ sym (ap (λ xs. length xs) same);
    each = λ j b. subst (λ xs. RomOf now j (initiator_at (record w { initiators = xs }) j)) (sym same) (rom_keeps ms now j (initiator_at w j) (keeps j) (k.each j (subst (λ xs. j < length xs) same b)));
  }

  pub note_turn : (note : Note) (v : WorldState) → v.initiators ≡ w.initiators → ((j : ℕ) → is_mine j note ≡ false) → RomsOf (said note ∷ ms) v
  note_turn note v same none = moved (said note ∷ ms) v same (note_count 0 note ms (none 0)) (λ j. keeps_note j note ms (none j))

  module _ (line : ℕ) (event : Event) (v : WorldState) (same : v.initiators ≡ w.initiators) where
    abbrev opens : List Moment
    opens = asked line event ∷ ms

    line_alone : RomsOf opens v
    line_alone = moved opens v same refl (λ j. keeps_line j line event ms)

    line_noted : (note : Note) → ((j : ℕ) → is_mine j note ≡ false) → RomsOf (said note ∷ opens) v
    line_noted note none = moved (said note ∷ opens) v same (note_count 0 note opens (none 0)) (λ j. keeps_then j ms opens (said note ∷ opens) (keeps_line j line event ms) (keeps_note j note opens (none j)))

    line_injects : (serial generation from to : ℕ) (bytes : List ℕ) → RomsOf (said (notes.Sent serial generation from to bytes) ∷ said (notes.Injected serial) ∷ opens) v
    line_injects serial generation from to bytes =
        let told = said (notes.Injected serial) ∷ opens in
        let sent = said (notes.Sent serial generation from to bytes) ∷ told in
        moved sent v same refl
        (λ j. keeps_then j ms told sent
        (keeps_then j ms opens told (keeps_line j line event ms) (keeps_note j (notes.Injected serial) opens refl))
        (keeps_injected j serial generation from to bytes told (own_injected serial (terms opens))))
      where
        own_injected : (serial : ℕ) (t : Terms) → (noted (notes.Injected serial) t).injected serial ≡ true
        own_injected serial t = ap (λ b. cond b true (t.injected serial)) (same_number serial)

  pub line_turn : (line : ℕ) (s : Scene) (event : Event) (rest : List Note) (behind : Scene) → Brings line s event rest → behind.world.initiators ≡ w.initiators → RomsOf (map said (onto rest []) ++ asked line event ∷ ms) behind.world
  line_turn line s event rest behind (calls is_event c) same = line_alone line event behind.world same
  line_turn line s event rest behind (refuses is_event refusal) same = line_noted line event behind.world same (notes.Refused line refusal.number) (λ j. refl)
  line_turn line s event rest behind (refuses_action i action number e) same = line_noted line (events.Act i action) behind.world same (notes.Refused line number) (λ j. refl)
  line_turn line s event rest behind (resets physical generation e) same = line_noted line (events.Reset physical) behind.world same (notes.Reset generation) (λ j. refl)
  line_turn line s event rest behind (loses serial) same = line_noted line (events.Lose serial) behind.world same (notes.Lost serial) (λ j. refl)
  line_turn line s event rest behind (sets_key unit key) same = line_noted line (events.Key unit key) behind.world same (notes.Key unit) (λ j. refl)
  line_turn line s event rest behind (injects i bytes serial generation from to) same = line_injects line (events.Inject i bytes) behind.world same serial generation from to bytes
