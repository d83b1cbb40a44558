-- A run that the target tells of is on the buffer and with the data that the reads of its agent brought, since its turn came to the ORB behind the response that brought this.
use Rattle.sbp_world.proofs.Words.Std.{arith, ◌≡◌, ◌∙◌, refl, sym, ap, subst, ℕ, ◌+◌, ◌<◌, ◌==◌, ◌&&◌, is_some, not, sum, ◌≤◌, length, Bool, true, false, cond, List, [], ◌∷◌, ◌++◌, Option, Some, None, IsSomeAnd, filter, flat_map, nat_tests, pow_pos, same_Some}
use Rattle.sbp_world.proofs.Words.Wire.{check_of, buffer_of, Moment, said, Cmd, Note}
use Rattle.sbp_world.proofs.Words.Target.{AgentStep, Which, Ahead, Main, reads_table, Machine, is_ahead, limit_of, ahead_step, quiet, reply_step, unread_buffer, Disk, Told, PlainDisk, Outcome, desk_at, plain_in, answer_in, heard_by}
use Rattle.sbp_world.proofs.Words.Initiator.{start_of, CommandOrb, Answer, payload_of, data_size, has_table, Chunk, Segment, AreSegments, bytes_of, chunks, single, elements_of, first_fault}
use Rattle.sbp_world.proofs.Words.Laws.{Moved, address_of, begins_one, buffer_in, joined, laid_out, read_at, Request, plan_of, request_at, slot_at}
use Rattle.sbp_world.proofs.Words.World.{holder, Scene, WorldState, AreBeside, FedAt, RunIsFed, IsBufferOf, IsOrbOf, IsBrought}
use Rattle.bus_memory.specs.declared.window.Window.TheVariants as windows
use Rattle.sbp_journal.specs.declared.note.Note.TheVariants as notes
use Rattle.sbp_world.proofs.Agents.Management.Still.{hist}
use Rattle.sbp_world.proofs.Agents.UnitsRun.{ahead_none}
use Rattle.sbp_world.proofs.Lists.FedWindows.{beside_joined, beside_read}
use Rattle.sbp_world.proofs.Lists.Slots.{IsFilled}
use Rattle.sbp_world.proofs.Lists.Brought.{has_a_table}
use Rattle.sbp_world.proofs.Lists.FedLaid.{begins_none, laid_sound}
use Rattle.sbp_world.proofs.Lists.FedPieces.{AllFit, InTurn, all_bytes, all_fit, fit_joined}
use Rattle.sbp_world.proofs.Lists.FedReads.{IsTurned, turns_to}
use Rattle.sbp_world.proofs.Lists.FedSteps.{FedStep, Feeding, HasRun, Hears, TableBy, main_steps}
use Rattle.sbp_world.proofs.Lists.Passing.{PassAt, RunsNext}
use Rattle.sbp_world.proofs.Lists.RunFits.{WasAsked}
use Rattle.sbp_world.proofs.Lists.Runless.{IsRunBy}
use Rattle.sbp_world.proofs.Lists.RunOutcomes.{IsSet, asked_so, goes, is_open, list_is, opened, orb_is, request_is, runs, small}
use Rattle.sbp_world.proofs.Lists.RunReads.{present_is}
use Rattle.sbp_world.proofs.Common.{and_first}
use Rattle.sbp_world.proofs.Agents.UnitsKept.{runs_if as none_if}

-- ---- an ORB, its buffer and its data, as reads brought them
module _ (command : Option Cmd) (request : Option Request) (slot : ℕ) (a : WasAsked command request slot) (orb : CommandOrb) (o : IsOrbOf command slot orb) (segments : List Segment) (laid : IsBufferOf command slot segments) (tables pieces : List Moved) where
  abbrev cmd : Cmd
  cmd = o.cmd

  cmd_is : cmd ≡ a.cmd
  cmd_is = same_Some cmd a.cmd (sym o.command ∙ a.command_is)

  laid_is : segments ≡ laid_out slot cmd cmd.segments
  laid_is = subst (λ x. IsBufferOf x slot segments) o.command laid

  -- an ORB with a page table has one with elements
  no_empty_table : (counts : List ℕ) (has : Bool) (size : ℕ) → has ≡ has_table counts → size ≡ data_size cmd.length counts → has ≡ true → (has && not (size == 0)) ≡ false → ⊥
  no_empty_table [] has size e f g h = absurd (let x : true ≡ false = sym g ∙ e in cc)
  no_empty_table (count ∷ rest) has size e f g h =
      let some : (size == 0) ≡ false = grind (arith, nat_tests, f) in
      let x : true ≡ false = sym (ap (λ b. b && not (size == 0)) g ∙ ap not some) ∙ h in cc

  plain_buffer : (has : Bool) → orb.has_table ≡ has → reads_table orb ≡ false → segments ≡ unread_buffer orb → cond has (elements_of (read_at orb.descriptor pieces)) (single orb.descriptor orb.data_size) ≡ segments
  plain_buffer true e f g = absurd (no_empty_table cmd.segments orb.has_table orb.data_size (ap (λ (x : CommandOrb). x.has_table) o.orb) (ap (λ (x : CommandOrb). x.data_size) o.orb) e f)
  plain_buffer false e f g = ap (λ b. single orb.descriptor (cond b 0 orb.data_size)) (sym e) ∙ sym g

  buffer_by : (b : Bool) → reads_table orb ≡ b → TableBy b orb segments tables → buffer_in orb (tables ++ pieces) ≡ segments
  buffer_by true e t =
      let has : orb.has_table ≡ true = and_first orb.has_table (not (orb.data_size == 0)) e in
      let own : Moved = record { offset = orb.descriptor; bytes = t.bytes } in
      let at : (orb.descriptor == orb.descriptor) ≡ true = grind (arith, nat_tests) in
      ap (λ b. cond b (elements_of (read_at orb.descriptor (tables ++ pieces))) (single orb.descriptor orb.data_size)) has
      ∙ ap (λ (xs : List Moved). elements_of (read_at orb.descriptor (xs ++ pieces))) t.one
      ∙ ap (λ b. elements_of (cond b t.bytes (read_at orb.descriptor pieces))) at
      ∙ sym t.elements
  buffer_by false e t = ap (λ (xs : List Moved). buffer_in orb (xs ++ pieces)) t.0 ∙ plain_buffer orb.has_table refl e t.1

  pub size_is : TableBy (reads_table orb) orb segments tables → bytes_of (buffer_in orb (tables ++ pieces)) ≡ (plan_of (buffer_of a.cmd)).bytes
  size_is t =
      ap (λ (xs : List Segment). bytes_of xs) (buffer_by (reads_table orb) refl t ∙ laid_is)
      ∙ ap (λ (c : Cmd). bytes_of (laid_out slot c c.segments)) cmd_is ∙ a.whole ∙ sym a.fills

  -- the page table is read before the buffer, and no chunk begins there
  sound_by : (b : Bool) → reads_table orb ≡ b → TableBy b orb segments tables → has_table cmd.segments ≡ true → first_fault 0 (laid_out slot cmd cmd.segments) ≡ None
  sound_by true e t h = subst (λ (xs : List Segment). first_fault 0 xs ≡ None) laid_is t.sound
  sound_by false e t h = absurd (no_empty_table cmd.segments orb.has_table orb.data_size (ap (λ (x : CommandOrb). x.has_table) o.orb) (ap (λ (x : CommandOrb). x.data_size) o.orb) (ap (λ (x : CommandOrb). x.has_table) o.orb ∙ h) e)

  sound : TableBy (reads_table orb) orb segments tables → AreSegments (laid_out slot cmd cmd.segments)
  sound t =
      let fits = a.fits 0 0 in
      let few : length cmd.segments ≤ 64 = subst (λ (c : Cmd). length c.segments ≤ 64) (sym cmd_is) fits.segments in
      let whole : sum cmd.segments ≤ cmd.length = subst (λ (c : Cmd). sum c.segments ≤ c.length) (sym cmd_is) fits.whole in
      let short : cmd.length ≤ 16384 = subst (λ (c : Cmd). c.length ≤ 16384) (sym cmd_is) fits.short in
      laid_sound slot a.small cmd short cmd.segments few whole (sound_by (reads_table orb) refl t)

  abbrev pieces_there : List Chunk
  pieces_there = chunks (limit_of orb) (laid_out slot cmd cmd.segments)

  tables_by : (b : Bool) → reads_table orb ≡ b → TableBy b orb segments tables → joined pieces_there (tables ++ pieces) ≡ joined pieces_there pieces
  tables_by true e t =
      let own : Moved = record { offset = orb.descriptor; bytes = t.bytes } in
      let at = (has_a_table command slot orb o e).descriptor in
      let none = begins_none own (limit_of orb) slot cmd (let z : orb.descriptor < start_of (windows.Buffer slot) = omega (arith, at) in z) in
      ap (λ (xs : List Moved). joined pieces_there (xs ++ pieces)) t.one
      ∙ ap (λ b. flat_map (λ (x : Moved). x.bytes) (cond b (own ∷ filter (begins_one pieces_there) pieces) (filter (begins_one pieces_there) pieces))) none
  tables_by false e t = ap (λ (xs : List Moved). joined pieces_there (xs ++ pieces)) t.0

  positive : 0 < limit_of orb
  positive = pow_pos (orb.max_payload + 2)

  pub joined_is : (wanted : ℕ) → TableBy (reads_table orb) orb segments tables → InTurn segments (limit_of orb) wanted 0 pieces → all_bytes pieces ≡ joined (chunks (limit_of orb) (buffer_in orb (tables ++ pieces))) (tables ++ pieces)
  joined_is wanted t turn =
      let fit : AllFit pieces_there pieces = all_fit (laid_out slot cmd cmd.segments) (limit_of orb) wanted (sound t) positive pieces (subst (λ (xs : List Segment). InTurn xs (limit_of orb) wanted 0 pieces) laid_is turn) in
      sym (ap (λ (xs : List Segment). joined (chunks (limit_of orb) xs) (tables ++ pieces)) (buffer_by (reads_table orb) refl t ∙ laid_is) ∙ tables_by (reads_table orb) refl t ∙ fit_joined pieces_there pieces fit)

  -- and so it is by all reads
  filled : IsFilled slot cmd
  filled = subst (IsFilled slot) (sym cmd_is) a.filled

  module _ (all : List Moved) (beside : AreBeside slot all (tables ++ pieces)) where
    plain_beside : (has : Bool) → orb.has_table ≡ has → reads_table orb ≡ false → buffer_in orb all ≡ buffer_in orb (tables ++ pieces)
    plain_beside true e f = absurd (no_empty_table cmd.segments orb.has_table orb.data_size (ap (λ (x : CommandOrb). x.has_table) o.orb) (ap (λ (x : CommandOrb). x.data_size) o.orb) e f)
    plain_beside false e f =
        ap (λ b. cond b (elements_of (read_at orb.descriptor all)) (single orb.descriptor orb.data_size)) e
        ∙ sym (ap (λ b. cond b (elements_of (read_at orb.descriptor (tables ++ pieces))) (single orb.descriptor orb.data_size)) e)

    buffer_beside : (b : Bool) → reads_table orb ≡ b → buffer_in orb all ≡ buffer_in orb (tables ++ pieces)
    buffer_beside true e =
        ap (λ xs. cond orb.has_table (elements_of xs) (single orb.descriptor orb.data_size)) (beside_read slot a.small orb.descriptor (has_a_table command slot orb o e).descriptor all (tables ++ pieces) beside)
    buffer_beside false e = plain_beside orb.has_table refl e

    pub size_beside : TableBy (reads_table orb) orb segments tables → bytes_of (buffer_in orb all) ≡ (plan_of (buffer_of a.cmd)).bytes
    size_beside t = ap (λ (xs : List Segment). bytes_of xs) (buffer_beside (reads_table orb) refl) ∙ size_is t

    pub joined_beside : (wanted : ℕ) → TableBy (reads_table orb) orb segments tables → InTurn segments (limit_of orb) wanted 0 pieces → all_bytes pieces ≡ joined (chunks (limit_of orb) (buffer_in orb all)) all
    joined_beside wanted t turn =
        let same : buffer_in orb (tables ++ pieces) ≡ laid_out slot cmd cmd.segments = buffer_by (reads_table orb) refl t ∙ laid_is in
        joined_is wanted t turn
        ∙ ap (λ (xs : List Segment). joined (chunks (limit_of orb) xs) (tables ++ pieces)) same
        ∙ sym (beside_joined slot a.small cmd filled (limit_of orb) positive (sound t) all (tables ++ pieces) beside)
        ∙ sym (ap (λ (xs : List Segment). joined (chunks (limit_of orb) xs) all) (buffer_beside (reads_table orb) refl ∙ same))

-- ---- a command runs behind the answer to a main transaction
ahead_runs_none : (m : Machine) (place : ℕ) (plain : PlainDisk) (told : Option Told) (answer : Answer) → (reply_step m place plain told Ahead answer).0.ran ≡ None
unfolding reply_step
ahead_runs_none m place plain told answer = none_if (is_ahead m.ahead) (ahead_step m answer) (quiet, m) (ahead_none m (payload_of answer 32)) refl

runs_main : (m : Machine) (place : ℕ) (plain : PlainDisk) (told : Option Told) (which : Which) (answer : Answer) (outcome : Outcome) → (reply_step m place plain told which answer).0.ran ≡ Some outcome → which ≡ Main
runs_main m place plain told Main answer outcome e = refl
runs_main m place plain told Ahead answer outcome e = absurd (let x : None ≡ Some outcome = sym (ahead_runs_none m place plain told answer) ∙ e in cc)

module _ (wild : ℕ → Bool) (start : List Disk) (past : List Moment) (s : Scene) (set : IsSet wild start past s) (run : Option Told) (ran : Note) (serial : ℕ) (r : IsRunBy s run serial ran) where
  abbrev pub w : WorldState
  w = s.world

  abbrev pub ms : List Moment
  ms = hist past w

  abbrev pub now : List Moment
  now = said (notes.Got serial) ∷ ms

  abbrev pub place : ℕ
  place = r.place

  abbrev pub i : ℕ
  i = (holder w place).initiator

  abbrev pub M : Machine
  M = (desk_at w.target place).agent

  abbrev pub plain : PlainDisk
  plain = plain_in w.target.units s.media.disks r.by.login.unit

  abbrev pub step : AgentStep × Machine
  step = reply_step M place plain run r.by.which (answer_in r.by.packet)

  pub which_is : r.by.which ≡ Main
  which_is = runs_main M place plain run r.by.which (answer_in r.by.packet) r.outcome r.by.ran

  -- where the answer is heard so, and what is known of the reads says which response brought the ORB
  module _ (own : wild i ≡ false) (Read : ℕ → CommandOrb → Type 0) (Turned : ℕ → CommandOrb → List Moved → Type 0) (turn : (at : ℕ) (orb : CommandOrb) → Read at orb → Turned at orb []) (of_turned : (at : ℕ) (orb : CommandOrb) (reads : List Moved) → Turned at orb reads → IsTurned start now place at orb reads) (hears_there : Hears Read Turned turn M (answer_in r.by.packet)) where
    pub stepped : FedStep Read Turned step
    stepped =
        subst (λ (x : Which). FedStep Read Turned (reply_step M place plain run x (answer_in r.by.packet))) (sym which_is)
        (main_steps Read Turned turn M place plain run (answer_in r.by.packet) hears_there)

    pub has_run : HasRun Turned step.1
    has_run = stepped.ran (ap is_some r.by.ran)

    module _ (n number : ℕ) (next : RunsNext now i n number r.cdb r.payload) where
      abbrev pub d : Feeding Turned step.1.present step.1.orb step.1.segments step.1.payload has_run.wanted
      d = has_run.fed

      abbrev pub reads : List Moved
      reads = d.tables ++ d.pieces

      abbrev pub turned : Turned (address_of now i n number) step.1.orb reads
      turned = subst (λ x. Turned x step.1.orb reads) (present_is wild start past s set run ran serial r own n number next) d.turned

      abbrev pub t : IsTurned start now place (address_of now i n number) step.1.orb reads
      t = of_turned (address_of now i n number) step.1.orb reads turned

      pub sized : IsSomeAnd (request_at now i n number) (λ request. bytes_of (buffer_in step.1.orb reads) ≡ (plan_of request.buffer).bytes)
      sized =
          let a = asked_so wild start past s set run ran serial r own in
          let x = runs wild start past s set run ran serial r own in
          subst (λ q. IsSomeAnd q (λ request. bytes_of (buffer_in step.1.orb reads) ≡ (plan_of request.buffer).bytes)) (sym (request_is wild start past s set run ran serial r own n number next))
          (size_is _ _ _ a step.1.orb x.good.own step.1.segments x.buffer d.tables d.pieces d.table)

      pub paid_so : r.payload ≡ joined (chunks (limit_of step.1.orb) (buffer_in step.1.orb reads)) reads
      paid_so =
          let a = asked_so wild start past s set run ran serial r own in
          let x = runs wild start past s set run ran serial r own in
          r.by.payload_is ∙ (d.bytes ∙ joined_is _ _ _ a step.1.orb x.good.own step.1.segments x.buffer d.tables d.pieces has_run.wanted d.table d.turn)

      slot_is : slot_at now i n number ≡ slot_at ms i (opened wild start past s set run ran serial r own).n (heard_by r.by.which M (answer_in r.by.packet) (goes wild start past s set run ran serial r own).progress).ended
      slot_is =
          sym (ap (λ x. slot_at ms i x (heard_by r.by.which M (answer_in r.by.packet) (goes wild start past s set run ran serial r own).progress).ended) (list_is wild start past s set run ran serial r own n number next)
          ∙ ap (λ x. slot_at ms i n x) (orb_is wild start past s set run ran serial r own n number next))

      pub sized_beside : (all : List Moved) → AreBeside (slot_at now i n number) all reads → IsSomeAnd (request_at now i n number) (λ request. bytes_of (buffer_in step.1.orb all) ≡ (plan_of request.buffer).bytes)
      sized_beside all beside =
          let a = asked_so wild start past s set run ran serial r own in
          let x = runs wild start past s set run ran serial r own in
          subst (λ q. IsSomeAnd q (λ request. bytes_of (buffer_in step.1.orb all) ≡ (plan_of request.buffer).bytes)) (sym (request_is wild start past s set run ran serial r own n number next))
          (size_beside _ _ _ a step.1.orb x.good.own step.1.segments x.buffer d.tables d.pieces all (subst (λ slot. AreBeside slot all reads) slot_is beside) d.table)

      pub paid_beside : (all : List Moved) → AreBeside (slot_at now i n number) all reads → r.payload ≡ joined (chunks (limit_of step.1.orb) (buffer_in step.1.orb all)) all
      paid_beside all beside =
          let a = asked_so wild start past s set run ran serial r own in
          let x = runs wild start past s set run ran serial r own in
          r.by.payload_is
          ∙ (d.bytes ∙ joined_beside _ _ _ a step.1.orb x.good.own step.1.segments x.buffer d.tables d.pieces all (subst (λ slot. AreBeside slot all reads) slot_is beside) has_run.wanted d.table d.turn)

      abbrev pub run_fed : RunIsFed start now i n number r.payload
      run_fed = record {
        place = place;
        orb = step.1.orb;
        brought = t.brought;
        later = t.later;
        between = t.between;
        is = t.is;
        reads = reads;
        reads_are = t.reads_are;
        size = sized;
        payloads = paid_so;
        size_beside = sized_beside;
        payloads_beside = paid_beside;
      }

  -- it is heard so
  module _ (own : wild i ≡ false) where
    hears_there : Hears (IsBrought start now place) (IsTurned start now place) (turns_to start now place) M (answer_in r.by.packet)
    hears_there =
        (set.heard i own).hears serial r.sent r.found r.to r.by.packet r.by.label place r.by.found (r.by.is_which ∙ ap (λ (x : Which). Some x) which_is) (small wild start past s set run ran serial r) (set.ready.calm i own)
        (is_open wild start past s set run ran serial r)

  abbrev note_of : Option ℕ → Option ℕ → Note
  note_of list number = notes.Ran i list number (holder w place).unit r.cdb r.payload (check_of r.outcome)

  by_names : (list number : Option ℕ) → PassAt wild (said (note_of list number)) now → FedAt wild start (said (note_of list number)) now
  by_names None number p = tt
  by_names (Some n) None p = tt
  by_names (Some n) (Some number) p = λ own. run_fed own (IsBrought start now place) (IsTurned start now place) (turns_to start now place) (λ at orb reads t. t) (hears_there own) n number (p own)

  pub fed_so : PassAt wild (said ran) now → FedAt wild start (said ran) now
  fed_so = subst (λ note. PassAt wild (said note) now → FedAt wild start (said note) now) (sym r.is) (by_names r.list r.number)
