-- What the target tells of its agents uses up the registers of the terms as its own: an unsolicited status is of the place that the terms find by the unit of
-- the latest run and by the initiator.
use Rattle.sbp_world.proofs.Words.Std.{arith, ◌≡◌, ◌∙◌, refl, sym, ap, subst, ℕ, ◌+◌, ◌<◌, ◌≤◌, nat_eq, nat_lt, Bool, true, false, cond, List, [], ◌∷◌, length, Option, Some, None, slice_index_or, slice_set, unwrap_or, nat_tests, set_past, false≢true}
use Rattle.sbp_world.proofs.Words.Wire.{Holder, holder_at, opened_by, opened_step, or_nobody, place_in, check_of, Moment, Note, Side}
use Rattle.sbp_world.proofs.Words.Target.{Login, Table, find, is_of_node, Disk}
use Rattle.sbp_world.proofs.Words.Laws.{id_for, last_unit, place_on}
use Rattle.sbp_world.proofs.Words.World.{holder, told, told_all, WorldState, with_note, Office}
use Rattle.std.proofs.lemmas.List.{length-set}
use Rattle.label_table.proofs.Owned.{set_at}
use Rattle.sbp_journal.specs.declared.note.Note.TheVariants as notes
use Rattle.sbp_journal.specs.declared.side.Side.TheVariants as sides
use Rattle.sbp_world.proofs.Agents.Management.Told.{office_in, one_note as office_note, term_in}
use Rattle.sbp_world.proofs.Agents.Management.Still.{hist}
use Rattle.sbp_world.proofs.Agents.Disabling.{IsStill, enabled_in, one_note, wire_in}
use Rattle.sbp_world.proofs.Agents.Heeding.{AreHeard, Hears, IsHeard, all_off, off, ran_by}

-- ---- a list of eight registers
pub off_at : (enabled : List Bool) (place other : ℕ) → length enabled ≡ 8 → other < 8 → slice_index_or (slice_set enabled place false) other false ≡ cond (nat_eq other place) false (slice_index_or enabled other false)
off_at enabled place other size small = by (nat_lt place (length enabled)) refl
  where
    beyond : length enabled ≤ place → nat_eq other place ≡ false
    beyond l = grind (arith, nat_tests)

    by : (b : Bool) → nat_lt place (length enabled) ≡ b → slice_index_or (slice_set enabled place false) other false ≡ cond (nat_eq other place) false (slice_index_or enabled other false)
    by true e =
        let below : place < length enabled = grind (arith, nat_tests) in
        set_at enabled place other false false below
    by false e =
        let past : length enabled ≤ place = grind (arith, nat_tests) in
        ap (λ xs. slice_index_or xs other false) (set_past enabled place false past)
        ∙ sym (ap (λ b. cond b false (slice_index_or enabled other false)) (beyond past))

-- ---- a list that is opened at a place leaves who has it
pub record SameHolder (a b : Holder) : Type 0 where
  pub initiator : b.initiator ≡ a.initiator
  pub unit : b.unit ≡ a.unit

same_holder : (a : Holder) → SameHolder a a
same_holder a = record { initiator = refl; unit = refl }

opened_same : (place : ℕ) (list : Option ℕ) (places : List (Option Holder)) (other : ℕ) → SameHolder (holder_at places other) (holder_at (opened_step place list places) other)
unfolding opened_step
opened_same place list places other = by (place_in places place) refl
  where
    by_place : (h : Holder) (c : Bool) → nat_eq other place ≡ c → place_in places place ≡ Some h → SameHolder (holder_at places other) (or_nobody (cond c (Some (record h { list = list })) (place_in places other)))
    by_place h true f e =
        let same : other ≡ place = grind (arith, nat_tests) in
        subst (λ x. SameHolder (or_nobody x) (record h { list = list })) (sym (ap (place_in places) same ∙ e)) (record { initiator = refl; unit = refl })
    by_place h false f e = same_holder (holder_at places other)

    by_size : (h : Holder) (c : Bool) → nat_lt place (length places) ≡ c → place_in places place ≡ Some h → SameHolder (holder_at places other) (holder_at (slice_set places place (Some (record h { list = list }))) other)
    by_size h true f e =
        let below : place < length places = grind (arith, nat_tests) in
        subst (λ x. SameHolder (holder_at places other) (or_nobody x)) (sym (set_at places place other (Some (record h { list = list })) None below)) (by_place h (nat_eq other place) refl e)
    by_size h false f e =
        let past : length places ≤ place = grind (arith, nat_tests) in
        subst (λ xs. SameHolder (holder_at places other) (holder_at xs other)) (sym (set_past places place (Some (record h { list = list })) past)) (same_holder (holder_at places other))

    by : (x : Option Holder) → place_in places place ≡ x → SameHolder (holder_at places other) (holder_at (opened_by x place list places) other)
    by None e = same_holder (holder_at places other)
    by (Some h) e = by_size h (nat_lt place (length places)) refl e

-- ---- a turn that begins in this world, where the terms find each live login of the unit in its place
module _ (start : List Disk) (past : List Moment) (q unit : ℕ) (logins : List (Option Login)) (v : WorldState) (found : (place : ℕ) → Hears unit logins place → place_on (term_in start past v) unit (id_for (wire_in start past v) 0 ((holder v place).initiator + 1)) ≡ place) (unit_is : (holder v q).unit ≡ unit) where
  pub record Facing (w : WorldState) (ran : Bool) : Type 0 where
    pub table : (term_in start past w).table ≡ (term_in start past v).table
    pub ids : (n : ℕ) → id_for (wire_in start past w) 0 n ≡ id_for (wire_in start past v) 0 n
    pub holders : (place : ℕ) → SameHolder (holder v place) (holder w place)
    pub runs : ran ≡ true → last_unit (hist past w) ≡ unit
    pub size : length (enabled_in start past w) ≡ 8

  pub faces_itself : length (enabled_in start past v) ≡ 8 → Facing v false
  faces_itself size = record { table = refl; ids = λ n. refl; holders = λ place. same_holder (holder v place); runs = λ e. absurd (false≢true e); size = size }

  -- a note of the turn
  noted : (note : Note) (w : WorldState) (ran now : Bool) → Facing w ran → IsStill note → (office_in start past (with_note note w)).table ≡ (office_in start past w).table → ((n : ℕ) → id_for (wire_in start past (with_note note w)) 0 n ≡ id_for (wire_in start past w) 0 n) → (now ≡ true → last_unit (hist past (with_note note w)) ≡ unit) → Facing (with_note note w) now
  noted note w ran now f still table ids runs = record {
    table = table ∙ f.table;
    ids = λ n. ids n ∙ f.ids n;
    holders = f.holders;
    runs = runs;
    size = ap length (one_note start past note w still) ∙ f.size;
  }

  abbrev table_of : Office → Table
  table_of o = o.table

  side_faces : (side : Side) (w : WorldState) (ran : Bool) → IsHeard q unit logins ran side → Facing w ran → Facing (told 0 side w) (ran_by side ran)
  unfolding told
  side_faces (sides.Own note) w ran h f = absurd h
  side_faces (sides.Opened place orb) w ran h f = record {
    table = f.table;
    ids = f.ids;
    holders = λ other.
        let a = f.holders other in
        let b = opened_same place _ w.places other in
        record { initiator = b.initiator ∙ a.initiator; unit = b.unit ∙ a.unit };
    runs = f.runs;
    size = f.size;
  }
  side_faces (sides.Ran place orb cdb payload outcome) w ran h f =
      let note = notes.Ran (holder w place).initiator _ _ (holder w place).unit cdb payload (check_of outcome) in
      let n = noted note w ran true f tt (ap table_of (office_note start past note w tt)) (λ n. refl)
      (λ e. ap (λ p. (holder w p).unit) h ∙ (f.holders q).unit ∙ unit_is) in
      record { table = n.table; ids = n.ids; holders = n.holders; runs = n.runs; size = n.size }
  side_faces (sides.Ended place orb status) w ran h f =
      let note = notes.Ended (holder w place).initiator _ _ status in
      let n = noted note w ran ran f tt (ap table_of (office_note start past note w tt)) (λ n. refl) f.runs in
      record { table = n.table; ids = n.ids; holders = n.holders; runs = n.runs; size = n.size }
  side_faces (sides.Dead place cause) w ran h f =
      let note = notes.Dead (holder w place).initiator (holder w place).list cause in
      let n = noted note w ran ran f tt (ap table_of (office_note start past note w tt)) (λ n. refl) f.runs in
      record { table = n.table; ids = n.ids; holders = n.holders; runs = n.runs; size = n.size }
  side_faces (sides.Cut place cause) w ran h f =
      let note = notes.Cut (holder w place).initiator (holder w place).list cause in
      let n = noted note w ran ran f tt (ap table_of (office_note start past note w tt)) (λ n. refl) f.runs in
      record { table = n.table; ids = n.ids; holders = n.holders; runs = n.runs; size = n.size }
  side_faces (sides.Managed node function subject status login) w ran h f = absurd h
  side_faces (sides.ManageFailed node cause) w ran h f = absurd h
  side_faces (sides.Held login) w ran h f = absurd h
  side_faces (sides.Expired login) w ran h f = absurd h
  side_faces (sides.Back login) w ran h f = absurd h
  side_faces (sides.Left login) w ran h f = absurd h
  side_faces (sides.Cleared which) w ran h f = noted (notes.Cleared which) w ran ran f tt refl (λ n. refl) f.runs
  side_faces (sides.Unsolicited place) w ran h f = record {
    table = f.table;
    ids = f.ids;
    holders = f.holders;
    runs = f.runs;
    size = length-set (enabled_in start past w) (place_on (term_in start past w) (last_unit (hist past w)) (id_for (wire_in start past w) 0 ((holder w place).initiator + 1))) false ∙ f.size;
  }
  side_faces (sides.Unsent place) w ran h f =
      let note = notes.Unsent (holder w place).initiator in
      noted note w ran ran f tt (ap table_of (office_note start past note w tt)) (λ n. refl) f.runs

  -- the place that the terms find
  abbrev at : Table → (u id : ℕ) → ℕ
  at t u id = unwrap_or (find (is_of_node u id) t.places) 8

  place_is : (place : ℕ) (w : WorldState) (ran : Bool) → ran ≡ true → Hears unit logins place → Facing w ran → place_on (term_in start past w) (last_unit (hist past w)) (id_for (wire_in start past w) 0 ((holder w place).initiator + 1)) ≡ place
  place_is place w ran e i f =
      let id = id_for (wire_in start past w) 0 ((holder w place).initiator + 1) in
      ap (λ (t : Table). at t (last_unit (hist past w)) id) f.table
      ∙ ap (λ u. at (term_in start past v).table u id) (f.runs e)
      ∙ ap (at (term_in start past v).table unit) (f.ids ((holder w place).initiator + 1) ∙ ap (λ i. id_for (wire_in start past v) 0 (i + 1)) (f.holders place).initiator)
      ∙ found place i

  still : (note : Note) (w : WorldState) (other : ℕ) → IsStill note → slice_index_or (enabled_in start past (with_note note w)) other false ≡ slice_index_or (enabled_in start past w) other false
  still note w other h = ap (λ xs. slice_index_or xs other false) (one_note start past note w h)

  side_off : (side : Side) (w : WorldState) (ran : Bool) → IsHeard q unit logins ran side → Facing w ran → (other : ℕ) → other < 8 → slice_index_or (enabled_in start past (told 0 side w)) other false ≡ off side other (slice_index_or (enabled_in start past w) other false)
  unfolding told
  side_off (sides.Own note) w ran h f other small = absurd h
  side_off (sides.Opened place orb) w ran h f other small = refl
  side_off (sides.Ran place orb cdb payload outcome) w ran h f other small = still (notes.Ran _ _ _ _ cdb payload _) w other tt
  side_off (sides.Ended place orb status) w ran h f other small = still (notes.Ended _ _ _ status) w other tt
  side_off (sides.Dead place cause) w ran h f other small = still (notes.Dead _ _ cause) w other tt
  side_off (sides.Cut place cause) w ran h f other small = still (notes.Cut _ _ cause) w other tt
  side_off (sides.Managed node function subject status login) w ran h f other small = absurd h
  side_off (sides.ManageFailed node cause) w ran h f other small = absurd h
  side_off (sides.Held login) w ran h f other small = absurd h
  side_off (sides.Expired login) w ran h f other small = absurd h
  side_off (sides.Back login) w ran h f other small = absurd h
  side_off (sides.Left login) w ran h f other small = absurd h
  side_off (sides.Cleared which) w ran h f other small = still (notes.Cleared which) w other tt
  side_off (sides.Unsolicited place) w ran h f other small =
      ap (λ k. slice_index_or (slice_set (enabled_in start past w) k false) other false) (place_is place w ran h.0 h.1 f)
      ∙ off_at (enabled_in start past w) place other f.size small
  side_off (sides.Unsent place) w ran h f other small = still (notes.Unsent (holder w place).initiator) w other tt

  pub sides_face : (later : List Side) (w : WorldState) (ran : Bool) → AreHeard q unit logins ran later → Facing w ran → length (enabled_in start past (told_all 0 later w)) ≡ 8
  unfolding told_all
  sides_face [] w ran h f = f.size
  sides_face (side ∷ later) w ran h f = sides_face later (told 0 side w) (ran_by side ran) h.1 (side_faces side w ran h.0 f)

  pub sides_off : (later : List Side) (w : WorldState) (ran : Bool) → AreHeard q unit logins ran later → Facing w ran → (other : ℕ) → other < 8 → slice_index_or (enabled_in start past (told_all 0 later w)) other false ≡ all_off later other (slice_index_or (enabled_in start past w) other false)
  unfolding told_all
  sides_off [] w ran h f other small = refl
  sides_off (side ∷ later) w ran h f other small =
      sides_off later (told 0 side w) (ran_by side ran) h.1 (side_faces side w ran h.0 f) other small
      ∙ ap (all_off later other) (side_off side w ran h.0 f other small)
