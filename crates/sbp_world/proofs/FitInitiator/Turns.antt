-- What is kept by telling and by asking the target for what fits a packet is kept by all that follows the end of a transaction; and what fits stays so.
use Rattle.sbp_world.proofs.Words.Std.{arith, ◌≡◌, refl, subst, ℕ, ◌^◌, ◌<◌, ◌==◌, Bool, true, false, cond, List, [], ◌∷◌, ◌++◌, length, Option, Some, None, Result, Ok, Err}
use Rattle.sbp_world.proofs.Words.Wire.{FitsRequest, is_plain, with_asked, Asked, Body, Layer, asking_step, Note, Operation, OpWord, Outgoing, Side, OutboxState}
use Rattle.sbp_world.proofs.Words.Target.{RomFault, SbpUnit, Tree, reading, sbp_unit_of}
use Rattle.sbp_world.proofs.Words.Initiator.{Memory, Ending, Purpose, Running, InitiatorState, Turn, ask_quad, asked_quad, conflict_for, conflict_step, doorbell_ended, drop_list_step, drop_where, dropped_as, enable_ended, end_own_for, end_own_step, end_step, ended_for, ended_step, fail_step, fault_number, finish_rom, good_end, good_event, good_word, is_address, is_conflict, known_where, managed_step, management_ended, moved, moves_session, next_quad, pointer_ended, quad_got, reset_ended, response_of, rom_ended, state_ended, state_told, stick_step, then_step, told, with_answered, with_dead, with_rom, with_unit, ListState, drop_lists, unpin_lists, with_quad, ends_list, counts_for, is_list, management_at, is_stuck_seat, Event, bad, conflict}
use Rattle.sbp_world.proofs.Words.World.{FitsMemory, FitsState}
use Rattle.sbp_initiator.specs.declared.purpose.Ending.TheVariants as endings
use Rattle.sbp_initiator.specs.declared.purpose.Purpose.TheVariants as purposes
use Rattle.sbp_journal.specs.declared.note.Note.TheVariants as notes
use Rattle.sbp_journal.specs.declared.operation.Operation.TheVariants as operations
use Rattle.sbp_journal.specs.declared.operation.OpWord.TheVariants as words
use Rattle.sbp_journal.specs.declared.side.Side.TheVariants as sides
use Rattle.sbp_world.specs.FitInitiator.{Fits}
use Rattle.sbp_world.proofs.FitInitiator.Memory.{drop_fits, unpin_fits}

-- what is said of a layer, the packets handed out, and what was told
abbrev pub Said : Type 1
Said = Layer Purpose → List Outgoing → List Side → Type 0

pub record Tells (P : Said) : Type 0 where
  pub tells : (layer : Layer Purpose) (packets : List Outgoing) (told : List Side) (note : Note) → is_plain note ≡ true → P layer packets told → P layer packets (told ++ sides.Own note ∷ [])

pub record Keeps (known : ℕ → Type 0) (P : Said) : Type 0 where
  pub tell : Tells P
  pub asks : (layer : Layer Purpose) (packets : List Outgoing) (told : List Side) (peer : ℕ) (body : Body) (purpose : Purpose) → known peer → FitsRequest body → P layer packets told → P (asking_step layer peer body purpose).1 (with_asked peer (asking_step layer peer body purpose).0 packets) told

-- ---- notes that tell nothing of the wire
pub plain_stuck : (number : ℕ) → is_plain (notes.Stuck number) ≡ true
unfolding is_plain
plain_stuck number = refl

pub plain_drop : (number list : ℕ) → is_plain (notes.Drop number list) ≡ true
unfolding is_plain
plain_drop number list = refl

pub plain_op : (number : ℕ) (operation : Operation) (word : OpWord) → is_plain (notes.Op number operation word) ≡ true
unfolding is_plain
plain_op number operation word = refl

-- ---- parts of an initiator
module _ (known : ℕ → Type 0) (acts most : ℕ) where
  pub fits_memory : (target : ℕ) (management : Option ℕ) (running done : ℕ) (old new : Memory) → FitsMemory new → Fits known acts most target management running done old → Fits known acts most target management running done new
  fits_memory target management running done old new m f =
      record { target_known = f.target_known; management_fits = f.management_fits; counted = f.counted; running_fits = f.running_fits; memory_fits = m }

  pub management_offset : (distance offset : ℕ) → Some (management_at distance) ≡ Some offset → offset < 2 ^ 48
  management_offset distance offset e = subst (λ (n : ℕ). n < 2 ^ 48) (same e) (omega arith)
    where
      same : Some (management_at distance) ≡ Some offset → management_at distance ≡ offset
      same f = cc

  module _ (P : Said) where
    abbrev pub At : Turn → Type 0
    At t = P t.1.layer t.0.packets t.0.sides × FitsState known acts most t.1

    pub pick : (b : Bool) (x y : Turn) → At x → At y → At (cond b x y)
    pick true x y h i = h
    pick false x y h i = i

    module _ (k : Tells P) where
      stick_if : (b : Bool) (o : OutboxState) (s : InitiatorState) → P s.layer o.packets o.sides → (let x = cond b o (told o (notes.Stuck s.number)) in P s.layer x.packets x.sides)
      stick_if true o s h = h
      stick_if false o s h = k.tells s.layer o.packets o.sides (notes.Stuck s.number) (plain_stuck s.number) h

      pub sticks : (o : OutboxState) (s : InitiatorState) → At (o, s) → At (stick_step o s)
      sticks o s h = (stick_if (is_stuck_seat s.seat) o s h.0, h.1)

      drops_as : (r : Option ℕ × ListState) (o : OutboxState) (s : InitiatorState) → FitsMemory r.1.memory → At (o, s) → At (dropped_as r o s)
      drops_as (None, lists) o s m h = (h.0, fits_memory s.target s.management s.counts.running s.counts.acts s.lists.memory lists.memory m h.1)
      drops_as (Some n, lists) o s m h =
          (k.tells s.layer o.packets o.sides (notes.Drop s.number n) (plain_drop s.number n) h.0, fits_memory s.target s.management s.counts.running s.counts.acts s.lists.memory lists.memory m h.1)

      pub drops : (o : OutboxState) (s : InitiatorState) → At (o, s) → At (drop_list_step o s)
      drops o s h = drops_as (drop_lists s.lists) o s (drop_fits s.lists h.1.memory_fits) h

      pub ends : (operation : Operation) (word : OpWord) (o : OutboxState) (s : InitiatorState) → At (o, s) → At (end_step operation word o s)
      ends operation word o s h =
          (k.tells s.layer o.packets o.sides (notes.Op s.number operation word) (plain_op s.number operation word) h.0, fits_memory s.target s.management s.counts.running s.counts.acts s.lists.memory (unpin_lists s.lists).memory (unpin_fits s.lists h.1.memory_fits) h.1)

      owns_for : (running : Option Running) (act : ℕ) (word : OpWord) (o : OutboxState) (s : InitiatorState) → At (o, s) → At (end_own_for running act word o s)
      owns_for None act word o s h = h
      owns_for (Some running) act word o s h =
          pick (running.act == act) (end_step running.operation word o s) (o, s) (ends running.operation word o s h) h

      owns : (act : ℕ) (word : OpWord) (o : OutboxState) (s : InitiatorState) → At (o, s) → At (end_own_step act word o s)
      owns act word o s h = owns_for s.operation act word o s h

      fails : (act : ℕ) (o : OutboxState) (s : InitiatorState) → At (o, s) → At (fail_step act o s)
      fails act o s h = let t = end_own_step act words.Error o s in sticks t.0 t.1 (owns act words.Error o s h)

      -- ---- writes of registers
      pointed_fits : (b : Bool) (s : InitiatorState) → FitsState known acts most s → FitsState known acts most (cond b (with_answered s) s)
      pointed_fits true s f = f
      pointed_fits false s f = f

      pointed_layer : (b : Bool) (s : InitiatorState) (o : OutboxState) → P s.layer o.packets o.sides → P (cond b (with_answered s) s).layer o.packets o.sides
      pointed_layer true s o h = h
      pointed_layer false s o h = h

      points : (list : ℕ) (ending : Ending) (o : OutboxState) (s : InitiatorState) → At (o, s) → At (pointer_ended list ending o s)
      points list (endings.Complete value) o s h =
          (pointed_layer (is_list s.lists.slots.present list) _ o h.0, pointed_fits (is_list s.lists.slots.present list) _ h.1)
      points list (endings.Refused rcode) o s h = sticks o s h
      points list endings.Expired o s h = sticks o s h

      rings : (ending : Ending) (o : OutboxState) (s : InitiatorState) → At (o, s) → At (doorbell_ended ending o s)
      rings (endings.Complete value) o s h = h
      rings (endings.Refused rcode) o s h = sticks o s h
      rings endings.Expired o s h = sticks o s h

      resets : (act : ℕ) (ending : Ending) (o : OutboxState) (s : InitiatorState) → At (o, s) → At (reset_ended act ending o s)
      resets act (endings.Complete value) o s h = let t = drop_list_step o s in owns act words.Done t.0 t.1 (drops o s h)
      resets act (endings.Refused rcode) o s h = fails act o s h
      resets act endings.Expired o s h = fails act o s h

      enables : (act : ℕ) (ending : Ending) (o : OutboxState) (s : InitiatorState) → At (o, s) → At (enable_ended act ending o s)
      enables act (endings.Complete value) o s h = owns act words.Done o s h
      enables act (endings.Refused rcode) o s h = fails act o s h
      enables act endings.Expired o s h = fails act o s h

      -- ---- management
      moved_if : (b : Bool) (operation : Operation) (event : Event) (o : OutboxState) (s : InitiatorState) → moves_session operation ≡ b → At (o, s) → At (o, moved operation event s)
      moved_if true operation event o s e h = rw e h
      moved_if false operation event o s e h = rw e h

      moves : (operation : Operation) (event : Event) (o : OutboxState) (s : InitiatorState) → At (o, s) → At (o, moved operation event s)
      moves operation event o s h = moved_if (moves_session operation) operation event o s refl h

      conflicts_for : (running : Option Running) (act : ℕ) (o : OutboxState) (s : InitiatorState) → At (o, s) → At (conflict_for running act o s)
      conflicts_for None act o s h = h
      conflicts_for (Some running) act o s h =
          let t = moved running.operation conflict s in
          pick (running.act == act) (end_step running.operation words.Conflict o t) (o, s) (ends running.operation words.Conflict o t (moves running.operation conflict o s h)) h

      manages : (act : ℕ) (ending : Ending) (o : OutboxState) (s : InitiatorState) → At (o, s) → At (management_ended act ending o s)
      manages act (endings.Complete value) o s h = h
      manages act (endings.Refused rcode) o s h =
          pick (is_conflict rcode) (conflict_step act o s) (fail_step act o s) (conflicts_for s.operation act o s h) (fails act o s h)
      manages act endings.Expired o s h = fails act o s h

      drops_where : (b : Bool) (o : OutboxState) (s : InitiatorState) → At (o, s) → At (drop_where b o s)
      drops_where true o s h = drops o s h
      drops_where false o s h = h

      ends_good : (running : Running) (o : OutboxState) (s : InitiatorState) → At (o, s) → At (good_end running o s)
      ends_good running o s h =
          let response = response_of running s in
          ends running.operation (good_word running.operation response) o (moved running.operation (good_event running.operation response) s)
          (moves running.operation (good_event running.operation response) o s h)

      pub managed : (running : Running) (status : ℕ) (o : OutboxState) (s : InitiatorState) → At (o, s) → At (managed_step running status o s)
      managed running status o s h =
          let t = drop_where (ends_list (Some running.operation)) o s in
          let u = moved running.operation bad s in
          pick (status == 0) (then_step (good_end running) t) (end_step running.operation (words.Refused status) o u)
          (ends_good running t.0 t.1 (drops_where (ends_list (Some running.operation)) o s h))
          (ends running.operation (words.Refused status) o u (moves running.operation bad o s h))

      -- ---- the target's ROM
      with_units : (unit : Option SbpUnit) (act : ℕ) (o : OutboxState) (s : InitiatorState) → At (o, s) → At (with_unit unit act o s)
      with_units None act o s h = owns act words.NoUnit o s h
      with_units (Some unit) act o s h =
          let f = h.1 in
          owns_for s.operation act words.Done o (record s { management = Some (management_at unit.management) })
          (h.0, record { target_known = f.target_known; management_fits = management_offset unit.management; counted = f.counted; running_fits = f.running_fits; memory_fits = f.memory_fits })

      with_roms : (r : Result Tree RomFault) (act : ℕ) (o : OutboxState) (s : InitiatorState) → At (o, s) → At (with_rom r act o s)
      with_roms (Ok tree) act o s h = with_units (sbp_unit_of tree.blocks tree.entries) act o s h
      with_roms (Err fault) act o s h = owns act (words.Bad (fault_number fault)) o s h

      finishes : (act : ℕ) (o : OutboxState) (s : InitiatorState) → At (o, s) → At (finish_rom act o s)
      finishes act o s h = with_roms (reading s.quads) act o s h

      -- ---- the state of the agent
      marks_dead : (b : Bool) (o : OutboxState) (s : InitiatorState) → At (o, s) → At (o, cond b (with_dead s) s)
      marks_dead true o s h = h
      marks_dead false o s h = h

      knows : (b : Bool) (value : ℕ) (o : OutboxState) (s : InitiatorState) → At (o, s) → At (known_where b value o s)
      knows true value o s h = pick (value == 0) (drop_list_step o s) (o, cond (value == 3) (with_dead s) s) (drops o s h) (marks_dead (value == 3) o s h)
      knows false value o s h = h

      states_told : (act : ℕ) (word : OpWord) (o : OutboxState) (s : InitiatorState) → At (o, s) → At (state_told act word o s)
      states_told act word o s h = (k.tells s.layer o.packets o.sides (notes.Op s.number operations.State word) (plain_op s.number operations.State word) h.0, h.1)

      states : (act : ℕ) (list : Option ℕ) (ending : Ending) (o : OutboxState) (s : InitiatorState) → At (o, s) → At (state_ended act list ending o s)
      states act list (endings.Complete value) o s h =
          let t = known_where (counts_for s.lists.slots.present list) value o s in
          states_told act (words.State value) t.0 t.1 (knows (counts_for s.lists.slots.present list) value o s h)
      states act list (endings.Refused rcode) o s h = states_told act words.Error o s h
      states act list endings.Expired o s h = states_told act words.Error o s h

    -- ---- the next quadlet is asked for
    module _ (k : Keeps known P) where
      quads_asked : (r : Option Asked × Layer Purpose) (act : ℕ) (o : OutboxState) (s : InitiatorState) → P r.1 (with_asked s.target r.0 o.packets) o.sides → FitsState known acts most s → At (asked_quad r act o s)
      quads_asked (Some asked, layer) act o s h f = (h, f)
      quads_asked (None, layer) act o s h f = owns k.tell act words.Error o (record s { layer = layer }) (h, f)

      quads : (act : ℕ) (o : OutboxState) (s : InitiatorState) → At (o, s) → At (quad_got act o s)
      quads act o s h =
          pick (length s.quads == 256) (finish_rom act o s) (ask_quad act o s) (finishes k.tell act o s h)
          (quads_asked (asking_step s.layer s.target (next_quad s.quads) (purposes.Rom act)) act o s (k.asks s.layer o.packets o.sides s.target (next_quad s.quads) (purposes.Rom act) h.1.target_known (omega arith) h.0) h.1)

      roms : (act : ℕ) (ending : Ending) (o : OutboxState) (s : InitiatorState) → At (o, s) → At (rom_ended act ending o s)
      roms act (endings.Complete value) o s h = quads act o (record s { quads = with_quad s.quads value }) h
      roms act (endings.Refused rcode) o s h =
          pick (is_address rcode) (finish_rom act o s) (end_own_step act words.Error o s) (finishes k.tell act o s h) (owns k.tell act words.Error o s h)
      roms act endings.Expired o s h = owns k.tell act words.Error o s h

      ended : (purpose : Purpose) (ending : Ending) (o : OutboxState) (s : InitiatorState) → At (o, s) → At (ended_step purpose ending o s)
      unfolding ended_step
      ended (purposes.Pointer list) ending o s h = points k.tell list ending o s h
      ended purposes.Doorbell ending o s h = rings k.tell ending o s h
      ended (purposes.AgentReset act) ending o s h = resets k.tell act ending o s h
      ended (purposes.Enable act) ending o s h = enables k.tell act ending o s h
      ended (purposes.Management act) ending o s h = manages k.tell act ending o s h
      ended (purposes.Rom act) ending o s h = roms act ending o s h
      ended (purposes.State act list) ending o s h = states k.tell act list ending o s h

      pub ends_for : (purpose : Option Purpose) (ending : Ending) (o : OutboxState) (s : InitiatorState) → At (o, s) → At (ended_for purpose ending o s)
      ends_for None ending o s h = h
      ends_for (Some purpose) ending o s h = ended purpose ending o s h
