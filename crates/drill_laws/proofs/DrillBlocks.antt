-- What the blocks of a drill's first unit hold at its end.
use Rattle.std.proofs.Common.{◌≡◌, ◌∙◌, refl, sym, ap, subst, ℕ, zero, suc, ◌+◌, ◌*◌, ◌<◌, ◌≤◌, ◌==◌, Bool, true, false, cond, nat_eq, nat_lt, List, [], ◌∷◌, length, replicate, Option, Some, None, arith}
use Rattle.std.specs.Prelude.{IsSomeAnd}
use Rattle.std.proofs.lemmas.Bool.Decides.{nat_tests}
use Rattle.std.proofs.lemmas.List.{length-replicate, take_all}
use Rattle.rbc_disk.specs.Disk.{Disk}
use Rattle.rbc_disk.specs.Runs.{after_run, data_length_of, need_at, need_of}
use Rattle.rbc_disk.specs.Units.{PlainDisk}
use Rattle.rbc_disk.specs.declared.command.Need.TheVariants.{Payload}
use Rattle.script_text.specs.Draws.{block_write}
use Rattle.sbp_journal.specs.Run.{Moment, asked, history, said}
use Rattle.sbp_journal.specs.Wire.{terms}
use Rattle.sbp_journal.specs.declared.note.Note.{Note}
use Rattle.sbp_journal.specs.declared.note.Note.TheVariants as notes
use Rattle.sbp_laws.specs.Actions.{buffer_of}
use Rattle.sbp_laws.specs.CauseLaw.{AbortedAt}
use Rattle.sbp_laws.specs.DiskFold.{unit_at}
use Rattle.sbp_laws.specs.ExecutionLaw.{ExecutionLaw, RunsOn}
use Rattle.sbp_laws.specs.Lawful.{FormAt, nobody}
use Rattle.sbp_laws.specs.OrderLaw.{OrderLaw}
use Rattle.sbp_laws.specs.Packets.{id_for}
use Rattle.sbp_laws.specs.Targets.{Target, disk_of, is_own_run, known_at, place_on, plain_of, ran_on, target_at}
use Rattle.sbp_laws.specs.Terms.{Request, appends, data_of, ends, plan_of, ran_status, request_at, runs}
use Rattle.sbp_laws.specs.Turns.{EachMoment}
use Rattle.drill_laws.specs.DrillBlocks.{DrillsWriteBlocks, HasBytes, HoldsLast, as_before, by_first, by_second, last_of_its, last_write, or_written, writes_to}
use Rattle.drill_laws.specs.DrillCalm.{IsCalmAt}
use Rattle.drill_laws.specs.DrillDisk.{IsHealthy}
use Rattle.drill_laws.specs.DrillGood.{RanWell}
use Rattle.drill_laws.specs.DrillLines.{IsDrillCommand, reads, writes}
use Rattle.drill_laws.specs.DrillRan.{RanThereAt}
use Rattle.drill_laws.proofs.DrillCalm.{drills_are_calm}
use Rattle.drill_laws.proofs.DrillGood.{FaultlessAt, all_faultless, begins_history, deathless, end_good}
use Rattle.drill_laws.proofs.DrillHeld.{Held, Holding, as_it_was, by_one, first_after, names_read, names_write, read_leaves, same_held, same_holding, write_data, write_held, write_leaves, write_needs}
use Rattle.drill_laws.proofs.DrillLists.{FirstAt, all_first, request_first}
use Rattle.drill_laws.proofs.DrillOrder.{EndsGoodAt, all_counted, ran, run_is_next, taken_ran}
use Rattle.drill_laws.proofs.DrillRan.{CommandAt, HasFirst, IsCommandOf, all_commands, first_is, goes_well, passes_there, request_is}
use Rattle.drill_laws.proofs.DrillRung.{rung_up}
use Rattle.drill_laws.proofs.DrillTaken.{all_taken}
use Rattle.drill_laws.proofs.DrillUnits.{LeavesUnits, note_keeps, over_keeps, ran_keeps}

-- the last write of those that ran
abbrev Written : List Moment → ℕ → ℕ → Option (List ℕ)
Written past i block = last_write (request_at past i 0) block (ran past i 0)

-- ---- an append changes none of those that ran
pub last_same : (f g : ℕ → Option Request) (block count : ℕ) → ((k : ℕ) → k < count → f k ≡ g k) → last_write f block count ≡ last_write g block count
last_same f g block zero same = refl
last_same f g block (suc k) same =
    ap (λ o. or_written block o (last_write f block k)) (same k (omega arith)) ∙ ap (or_written block (g k)) (last_same f g block k (λ l below. same l (omega (arith, below))))

append_leaves : (past : List Moment) (i n k : ℕ) (asks : Request) → k ≡ appends past i n → ((j m : ℕ) → ran past j m ≤ appends past j m) → (j l : ℕ) → l < ran past j 0 → cond (nat_eq j i) (cond (nat_eq 0 n) (cond (nat_eq l k) (Some asks) (request_at past j 0 l)) (request_at past j 0 l)) (request_at past j 0 l) ≡ request_at past j 0 l
append_leaves past i n k asks next within j l below = by (nat_eq j i) refl (nat_eq 0 n) refl (nat_eq l k) refl
  where
    by : (b : Bool) → nat_eq j i ≡ b → (c : Bool) → nat_eq 0 n ≡ c → (d : Bool) → nat_eq l k ≡ d → cond b (cond c (cond d (Some asks) (request_at past j 0 l)) (request_at past j 0 l)) (request_at past j 0 l) ≡ request_at past j 0 l
    by true e true f true g =
        let at : j ≡ i = grind (arith, nat_tests) in
        let of : 0 ≡ n = grind (arith, nat_tests) in
        let same : l ≡ k = grind (arith, nat_tests) in
        let there : appends past j 0 ≡ appends past i n = ap (λ x. appends past x 0) at ∙ ap (λ x. appends past i x) of in
        absurd (let w = within j 0 in omega (arith, same, there, w, below, next))
    by true e true f false g = refl
    by true e false f d g = refl
    by false e c f d g = refl

-- ---- a run
module _ (past : List Moment) (i n k : ℕ) (r : Request) (list : n ≡ 0) (next : ran past i n ≡ k) (found : request_at past i n k ≡ Some r) where
  abbrev Later : ℕ → ℕ → Option (List ℕ)
  Later j block = last_write (request_at past j 0) block (cond (nat_eq j i) (cond (nat_eq 0 n) (suc k) (ran past j 0)) (ran past j 0))

  here : ran past i 0 ≡ k
  here = ap (ran past i) (sym list) ∙ next

  found_here : request_at past i 0 (ran past i 0) ≡ Some r
  found_here = ap (request_at past i 0) here ∙ ap (λ m. request_at past i m k) (sym list) ∙ found

  count_is : cond (nat_eq i i) (cond (nat_eq 0 n) (suc k) (ran past i 0)) (ran past i 0) ≡ suc (ran past i 0)
  count_is = by (nat_eq i i) refl (nat_eq 0 n) refl
    where
      by : (b : Bool) → nat_eq i i ≡ b → (c : Bool) → nat_eq 0 n ≡ c → cond b (cond c (suc k) (ran past i 0)) (ran past i 0) ≡ suc (ran past i 0)
      by true e true f = ap suc (sym here)
      by true e false f = absurd (grind (arith, nat_tests))
      by false e c f = absurd (grind (arith, nat_tests))

  later_own : (block : ℕ) → Later i block ≡ or_written block (Some r) (Written past i block)
  later_own block = ap (last_write (request_at past i 0) block) count_is ∙ ap (λ o. or_written block o (Written past i block)) found_here

  later_named : (block : ℕ) → writes_to block r.cdb ≡ true → Later i block ≡ Some (data_of r.buffer)
  later_named block e = later_own block ∙ ap (λ b. cond b (Some (data_of r.buffer)) (Written past i block)) e

  later_same : (j block : ℕ) → writes_to block r.cdb ≡ false → Later j block ≡ Written past j block
  later_same j block none = by (nat_eq j i) refl
    where
      own : Later i block ≡ Written past i block
      own = later_own block ∙ ap (λ b. cond b (Some (data_of r.buffer)) (Written past i block)) none

      by : (b : Bool) → nat_eq j i ≡ b → last_write (request_at past j 0) block (cond b (cond (nat_eq 0 n) (suc k) (ran past j 0)) (ran past j 0)) ≡ Written past j block
      by true e =
          let at : j ≡ i = grind (arith, nat_tests) in
          ap (λ b. last_write (request_at past j 0) block (cond b (cond (nat_eq 0 n) (suc k) (ran past j 0)) (ran past j 0))) (sym e) ∙ subst (λ x. Later x block ≡ Written past x block) (sym at) own
      by false e = refl

  -- what it leaves of the blocks
  module _ (start : List ℕ) (room : 512 * 64 ≤ length start) (plain : PlainDisk) (place : ℕ) (cdb bytes : List ℕ) (runs_on : RunsOn r plain place cdb bytes None) (c : IsCommandOf r.cdb r.buffer) (healthy : IsHealthy plain) where
    carried_is : (lba byte : ℕ) → lba < 64 → c.cmd ≡ block_write lba byte → (bytes ≡ data_of r.buffer) × (length (data_of r.buffer) ≡ 512)
    carried_is lba byte few e =
        let need : need_of cdb (plan_of r.buffer) plain place ≡ Payload 512
        = ap (λ check. need_at check (data_length_of plain.medium.is_bay cdb)) (passes_there r plain place cdb bytes None runs_on c healthy)
        ∙ ap (need_at None) (ap (data_length_of plain.medium.is_bay) (runs_on.command ∙ c.cdb_is) ∙ write_needs c.cmd lba byte few e plain.medium.is_bay) in
        let data_is : data_of r.buffer ≡ replicate 512 byte = ap data_of (c.buffer_is ∙ ap buffer_of e) ∙ write_data lba byte in
        let len : length (data_of r.buffer) ≡ 512 = ap length data_is ∙ length-replicate 512 byte in
        (runs_on.needed 512 need ∙ take_all 512 (data_of r.buffer) (omega (arith, len)), len)

    run_leaves : IsDrillCommand c.cmd → Held start (Written past) plain.medium → Held start Later (after_run c.cmd.cdb bytes None place plain).medium
    run_leaves (writes lba byte few small e) h =
        let is = carried_is lba byte few e in
        let named : (block : ℕ) → writes_to block r.cdb ≡ (lba == block) = λ block. ap (writes_to block) c.cdb_is ∙ names_write c.cmd lba byte block few e in
        subst (Held start Later) (sym (write_leaves c.cmd lba byte few e bytes place plain))
        (write_held start (Written past) Later plain.medium i lba bytes (later_named lba (named lba ∙ (let same : (lba == lba) ≡ true = grind (arith, nat_tests) in same)) ∙ ap Some (sym is.0)) (λ j block apart. later_same j block (named block ∙ apart)) (ap length is.0 ∙ is.1) (omega (arith, few, room)) h)
    run_leaves (reads lba few e) h =
        same_held start (Written past) Later plain.medium _ (λ j block. later_same j block (ap (writes_to block) c.cdb_is ∙ names_read c.cmd lba block few e)) (ap (λ (d : Disk). d.bytes) (read_leaves c.cmd lba few e bytes place plain)) h

-- ---- all moments
record Fine (disks : List Disk) (past : List Moment) : Type 0 where
  order : OrderLaw nobody past
  run : ExecutionLaw nobody disks past
  calm : EachMoment IsCalmAt past
  commands : EachMoment CommandAt past
  there : EachMoment RanThereAt past
  first : EachMoment FirstAt past
  good : EachMoment EndsGoodAt past
  well : RanWell past

before : (disks : List Disk) (moment : Moment) (past : List Moment) → Fine disks (moment ∷ past) → Fine disks past
before disks moment past f = record { order = f.order.1; run = f.run.1; calm = f.calm.1; commands = f.commands.1; there = f.there.1; first = f.first.1; good = f.good.1; well = f.well.1 }

found_request : (P : Request → Type 0) (o : Option Request) → IsSomeAnd o P → (z : Request) × ((o ≡ Some z) × P z)
found_request P None h = absurd h
found_request P (Some z) h = (z, (refl, h))

module _ (first : Disk) (others : List Disk) (start : List ℕ) (has : HasBytes first start) where
  abbrev disks : List Disk
  disks = first ∷ others

  abbrev IsHeld : List Moment → Type 0
  IsHeld past = Held start (Written past) (disk_of disks past 0)

  room : 512 * 64 ≤ length start
  room = (let w = has.whole in let r = has.healthy.room in omega (arith, w, r))

  beside : (note : Note) (past : List Moment) → LeavesUnits note → ((i block : ℕ) → Written (said note ∷ past) i block ≡ Written past i block) → IsHeld past → IsHeld (said note ∷ past)
  beside note past leaves same h =
      same_held start (Written past) (Written (said note ∷ past)) (disk_of disks past 0) (disk_of disks (said note ∷ past) 0) same
      (ap (λ us. (unit_at us 0).medium.bytes) (note_keeps note past (known_at disks past).wire (target_at disks past) leaves)) h

  run_held : (past : List Moment) (i n k unit : ℕ) (cdb bytes : List ℕ) → Fine disks (said (notes.Ran i (Some n) (Some k) unit cdb bytes None) ∷ past) → IsHeld past → IsHeld (said (notes.Ran i (Some n) (Some k) unit cdb bytes None) ∷ past)
  run_held past i n k unit cdb bytes f h =
      let own = f.run.0 refl in
      let asks = found_request _ (request_at past i n k) own.1 in
      let c = request_is past f.commands.1 i n k asks.0 asks.1.0 in
      let counted = all_counted disks past f.order.1 f.run.1 f.good.1 i n in
      let next = run_is_next (appends past i n) (ends past i n) (ran past i n) (runs past i n) (ran_status past i n) (request_at past i n) k own.0.order own.0.once counted in
      let note = notes.Ran i (Some n) (Some k) unit cdb bytes None in
      let wire = (known_at disks past).wire in
      let old : Target = target_at disks past in
      let moved : Target = ran_on (is_own_run old.reply i wire old) note old in
      let same : moved.units ≡ old.units = ran_keeps (is_own_run old.reply i wire old) note old in
      let g = goes_well first others has.healthy past f.order.1 f.run.1 f.calm.1 f.commands.1 f.there.1 in
      let place : ℕ = place_on old unit (id_for (terms past) 0 (suc i)) in
      let place_there : ℕ = place_on old unit (id_for wire 0 (i + 1)) in
      let runs_on : RunsOn asks.0 (plain_of disks past 0) place cdb bytes None = subst (λ u. RunsOn asks.0 (plain_of disks past u) place cdb bytes None) f.there.0.0 asks.1.1 in
      let healthy = subst IsHealthy (sym (first_is old.units g.first)) g.first.healthy in
      let left = first_after moved.units (subst HasFirst (sym same) g.first) c.cmd c.is cdb bytes (runs_on.command ∙ c.cdb_is) place_there unit moved.table.places f.there.0.0 ∙ ap (λ us. after_run c.cmd.cdb bytes None place_there (unit_at us 0)) same in
      subst (Held start (Written (said note ∷ past))) (sym (ap (λ (p : PlainDisk). p.medium) left))
      (run_leaves past i n k asks.0 (request_first past f.first.1 i n k asks.0 asks.1.0) next asks.1.0 start room (plain_of disks past 0) place cdb bytes runs_on c healthy c.is h)

  all_held : (past : List Moment) → Fine disks past → IsHeld past
  all_held [] f = record { bytes = start; is = has.is; size = refl; blocks = λ block. as_it_was (λ i. refl) refl }
  all_held (asked line event ∷ past) f =
      same_held start (Written past) (Written (asked line event ∷ past)) (disk_of disks past 0) (disk_of disks (asked line event ∷ past) 0) (λ i block. refl)
      (ap (λ us. (unit_at us 0).medium.bytes) (over_keeps (target_at disks past))) (all_held past (before disks (asked line event) past f))
  all_held (said (notes.Ran i (Some n) (Some k) unit cdb bytes None) ∷ past) f = run_held past i n k unit cdb bytes f (all_held past (before disks _ past f))
  all_held (said (notes.Ran i list number unit cdb bytes (Some sense)) ∷ past) f = absurd f.well.0
  all_held (said (notes.Ran i None k unit cdb bytes None) ∷ past) f = absurd (let no : false ≡ true = f.order.0 in cc no)
  all_held (said (notes.Ran i (Some n) None unit cdb bytes None) ∷ past) f = absurd (let no : false ≡ true = f.order.0 in cc no)
  all_held (said (notes.Cleared unit) ∷ past) f = absurd f.calm.0
  all_held (said (notes.Append i n k cdb buffer) ∷ past) f =
      beside (notes.Append i n k cdb buffer) past tt
      (λ j block. last_same _ (request_at past j 0) block (ran past j 0) (append_leaves past i n k (record { cdb = cdb; buffer = buffer }) f.order.0.number (λ j m. (all_counted disks past f.order.1 f.run.1 f.good.1 j m).within) j))
      (all_held past (before disks _ past f))
  all_held (said note ∷ past) f = beside note past tt (λ i block. refl) (all_held past (before disks (said note) past f))

-- ---- the end
good_ends : (disks : List Disk) (past : List Moment) → RanWell past → EachMoment FaultlessAt past → OrderLaw nobody past → ExecutionLaw nobody disks past → EachMoment (AbortedAt disks) past → EachMoment FormAt past → EachMoment IsCalmAt past → EachMoment EndsGoodAt past
good_ends disks [] well fault order run aborted form calm = tt
good_ends disks (said (notes.Ended i (Some n) (Some k) status) ∷ past) well fault order run aborted form calm =
    (end_good disks past i n k status well.1 well.0 fault.0 (run.0 refl) aborted.0 form.0.0 calm.1, good_ends disks past well.1 fault.1 order.1 run.1 aborted.1 form.1 calm.1)
good_ends disks (said (notes.Ended i None k status) ∷ past) well fault order run aborted form calm = absurd (let no : false ≡ true = order.0 in cc no)
good_ends disks (said (notes.Ended i (Some n) None status) ∷ past) well fault order run aborted form calm = absurd (let no : false ≡ true = order.0 in cc no)
good_ends disks (asked line event ∷ past) well fault order run aborted form calm = (tt, good_ends disks past well.1 fault.1 order.1 run.1 aborted.1 form.1 calm.1)
good_ends disks (said note ∷ past) well fault order run aborted form calm = (tt, good_ends disks past well.1 fault.1 order.1 run.1 aborted.1 form.1 calm.1)

of_two : (w : ℕ → Option (List ℕ)) (start now : List ℕ) → ((i : ℕ) (bytes : List ℕ) → w i ≡ Some bytes → i < 2) → Holding w start now → HoldsLast (w 0) (w 1) start now
of_two w start now small (as_it_was none is) = as_before (none 0) (none 1) is
of_two w start now small (by_one zero bytes some is) = by_first bytes some is
of_two w start now small (by_one (suc zero) bytes some is) = by_second bytes some is
of_two w start now small (by_one (suc (suc i)) bytes some is) = absurd (let few = small (suc (suc i)) bytes some in omega (arith, few))

some_asked : (f : ℕ → Option Request) (block count : ℕ) (bytes : List ℕ) → last_write f block count ≡ Some bytes → 0 < count
some_asked f block zero bytes e = absurd (let no : None ≡ Some bytes = e in cc no)
some_asked f block (suc k) bytes e = omega arith

reaches : (r a : ℕ) → r ≤ a → (r < a → ⊥) → r ≡ a
reaches r a most least = by (nat_lt r a) refl
  where
    by : (b : Bool) → nat_lt r a ≡ b → r ≡ a
    by true e = absurd (least (grind (arith, nat_tests)))
    by false e = grind (arith, nat_tests, most)

pub drills_write_blocks : DrillsWriteBlocks
drills_write_blocks = record {
  blocks = λ first others entries lawful keeps start has done.
      let disks : List Disk = first ∷ others in
      let past : List Moment = history entries in
      let lists = keeps.lists in
      let run = lawful.run in
      let calm = (drills_are_calm disks entries lawful).calm in
      let fault = (all_faultless disks past [] (begins_history entries run.lines) (deathless past done.well) tt lawful.causes).each in
      let good = good_ends disks past done.well fault lists.order lists.execution keeps.aborted keeps.form calm in
      let fine : Fine disks past = record {
        order = lists.order;
        run = lists.execution;
        calm = calm;
        commands = all_commands disks entries run.brings run.lines;
        there = done.there;
        first = all_first disks entries run.brings run.lines calm;
        good = good;
        well = done.well;
      } in
      let held = all_held first others start has past fine in
      let all = all_taken disks entries lawful lists.order done.taken in
      let up = rung_up disks entries run.brings run.lines in
      let reach : (i : ℕ) → ran past i 0 ≡ appends past i 0 = λ i.
      reaches (ran past i 0) (appends past i 0) (all_counted disks past lists.order lists.execution good i 0).within
      (λ below. let no = taken_ran disks past lists.order lists.execution good lists.status.taken i 0 (ran past i 0) (all i 0 (ran past i 0) below) in absurd (omega (arith, no))) in
      record {
        bytes = held.bytes;
        is = held.is;
        size = held.size;
        blocks = λ block.
            of_two (λ i. last_of_its past i block) _ _ (λ i bytes e. up.inside i 0 (some_asked (request_at past i 0) block (appends past i 0) bytes e))
            (same_holding (λ i. Written past i block) (λ i. last_of_its past i block) _ _ _ (λ i. ap (last_write (request_at past i 0) block) (sym (reach i))) refl (held.blocks block));
      };
}
