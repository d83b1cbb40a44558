-- What the end of a transaction leaves of an initiator's layer, of its packets and of an operation that it is not of; and what that of a read of a ROM does: the operation ends, or the next
-- quadlet is asked for.
use Rattle.std.proofs.Common.{◌≡◌, ◌∙◌, refl, sym, ap, ℕ, ◌==◌, Bool, true, false, cond, List, [], ◌∷◌, ◌++◌, length, Option, Some, None, Result, Ok, Err}
use Rattle.config_rom.specs.Reading.{Tree, reading}
use Rattle.config_rom.specs.Unit.{sbp_unit_of}
use Rattle.config_rom.specs.declared.fault.RomFault.{RomFault}
use Rattle.config_rom.specs.declared.unit.SbpUnit.{SbpUnit}
use Rattle.initiator_base.specs.Places.{management_at}
use Rattle.initiator_base.specs.Quads.{with_quad}
use Rattle.label_table.specs.Layer.{Layer, asking_step}
use Rattle.label_table.specs.declared.judgement.Asked.{Asked}
use Rattle.orb_list.specs.Lists.{ListState, drop_lists}
use Rattle.sbp_initiator.specs.Effects.{Turn, ask_quad, asked_quad, conflict_for, conflict_step, doorbell_ended, drop_list_step, dropped_as, enable_ended, end_own_for, end_own_step, end_step, ended_step, fail_step, fault_number, finish_rom, is_address, is_conflict, known_where, management_ended, moved, moves_session, next_quad, pointer_ended, reset_ended, state_ended, state_told, stick_step, told, with_answered, with_dead, with_rom, with_unit}
use Rattle.sbp_initiator.specs.Histories.Moves.{outgoing}
use Rattle.sbp_initiator.specs.States.{counts_for, is_list}
use Rattle.sbp_initiator.specs.declared.purpose.Ending.{Ending}
use Rattle.sbp_initiator.specs.declared.purpose.Ending.TheVariants as endings
use Rattle.sbp_initiator.specs.declared.purpose.Purpose.{Purpose}
use Rattle.sbp_initiator.specs.declared.purpose.Purpose.TheVariants as purposes
use Rattle.sbp_initiator.specs.declared.purpose.Running.{Running}
use Rattle.sbp_initiator.specs.declared.state.InitiatorState.{InitiatorState}
use Rattle.sbp_initiator.proofs.Asked.{none_asked}
use Rattle.sbp_journal.specs.Outgoings.{OutboxState}
use Rattle.sbp_journal.specs.declared.note.Note.TheVariants as notes
use Rattle.sbp_journal.specs.declared.operation.Operation.{Operation}
use Rattle.sbp_journal.specs.declared.operation.Operation.TheVariants as operations
use Rattle.sbp_journal.specs.declared.operation.OpWord.{OpWord}
use Rattle.sbp_journal.specs.declared.operation.OpWord.TheVariants as words
use Rattle.sbp_journal.specs.declared.side.Side.TheVariants as sides
use Rattle.sbp_laws.specs.Hosts.{distance_in, management_in}
use Rattle.sbp_session.specs.Moves.{conflict, failed, goes, pointed}
use Rattle.sbp_session.specs.Seats.{is_stuck_seat}
use Rattle.sbp_world.proofs.Common.{equal, none_is, same_number, untrue}
use Rattle.turn_laws.proofs.HostRoms.{Rom, rom}

-- ---- what it has of a ROM, and what the end of an operation leaves of it
abbrev pub own_rom : InitiatorState → Rom
own_rom u = rom u.quads u.management

abbrev pub known_at : Option ℕ → Option ℕ
known_at None = None
known_at (Some distance) = Some (management_at distance)

abbrev pub left_own : Operation → OpWord → Rom → Rom
left_own operations.Rom words.Done r = rom r.quads (known_at (management_in (reading r.quads)))
left_own operation word r = r

-- ---- an operation that an action began, by the actions of transactions that are another's
abbrev pub IsApart : Running → Purpose → Type 0
IsApart r (purposes.AgentReset act) = r.act ≡ act → ⊥
IsApart r (purposes.Enable act) = r.act ≡ act → ⊥
IsApart r (purposes.Management act) = r.act ≡ act → ⊥
IsApart r purpose = Unit {0}

-- a transaction that reads no ROM
abbrev pub is_plain : Purpose → Bool
is_plain (purposes.Rom act) = false
is_plain purpose = true

same_running : (a b : Running) → Some a ≡ Some b → a ≡ b
same_running a b e = cc

module _ (r : Running) (Other : Type 0) where
  -- the layer and the packets are as before, and so is the operation, where it is this one
  pub record Leaves (o : OutboxState) (u : InitiatorState) (t : Turn) : Type 0 where
    pub packets : t.0.packets ≡ o.packets
    pub layer : t.1.layer ≡ u.layer
    pub operation : Other → u.operation ≡ Some r → t.1.operation ≡ Some r
    pub read : own_rom t.1 ≡ own_rom u

  still : (o p : OutboxState) (u v : InitiatorState) → p.packets ≡ o.packets → v.layer ≡ u.layer → v.operation ≡ u.operation → own_rom v ≡ own_rom u → Leaves o u (p, v)
  still o p u v e l op read = record { packets = e; layer = l; operation = λ f h. op ∙ h; read = read }

  then_leaves : (o : OutboxState) (u : InitiatorState) (t x : Turn) → Leaves o u t → Leaves t.0 t.1 x → Leaves o u x
  then_leaves o u t x a b = record { packets = b.packets ∙ a.packets; layer = b.layer ∙ a.layer; operation = λ f h. b.operation f (a.operation f h); read = b.read ∙ a.read }

  pick : (o : OutboxState) (u : InitiatorState) (b : Bool) (x y : Turn) → Leaves o u x → Leaves o u y → Leaves o u (cond b x y)
  pick o u true x y h i = h
  pick o u false x y h i = i

  owns_for : (found : Option Running) (act : ℕ) (word : OpWord) (o : OutboxState) (u : InitiatorState) → u.operation ≡ found → (Other → r.act ≡ act → ⊥) → Leaves o u (end_own_for found act word o u)
  owns_for None act word o u e f = still o o u u refl refl refl refl
  owns_for (Some running) act word o u e f = by (running.act == act) refl
    where
      by : (b : Bool) → (running.act == act) ≡ b → Leaves o u (cond b (end_step running.operation word o u) (o, u))
      by false g = still o o u u refl refl refl refl
      by true g = record {
        packets = refl;
        layer = refl;
        operation = λ x h. absurd (f x (ap (λ (y : Running). y.act) (sym (same_running running r (sym e ∙ h))) ∙ equal running.act act g));
        read = refl;
      }

  owns : (act : ℕ) (word : OpWord) (o : OutboxState) (u : InitiatorState) → (Other → r.act ≡ act → ⊥) → Leaves o u (end_own_step act word o u)
  owns act word o u f = owns_for u.operation act word o u refl f

  sticks : (o : OutboxState) (u : InitiatorState) → Leaves o u (stick_step o u)
  sticks o u = by (is_stuck_seat u.seat)
    where
      by : (b : Bool) → Leaves o u (cond b o (told o (notes.Stuck u.number)), record u { seat = goes failed u.seat })
      by true = still o o u (record u { seat = goes failed u.seat }) refl refl refl refl
      by false = still o (told o (notes.Stuck u.number)) u (record u { seat = goes failed u.seat }) refl refl refl refl

  fails : (act : ℕ) (o : OutboxState) (u : InitiatorState) → (Other → r.act ≡ act → ⊥) → Leaves o u (fail_step act o u)
  fails act o u f = let t = end_own_step act words.Error o u in then_leaves o u t (stick_step t.0 t.1) (owns act words.Error o u f) (sticks t.0 t.1)

  drops_as : (d : Option ℕ × ListState) (o : OutboxState) (u : InitiatorState) → Leaves o u (dropped_as d o u)
  drops_as (None, lists) o u = still o o u (record u { lists = lists }) refl refl refl refl
  drops_as (Some n, lists) o u = let d = dropped_as (Some n, lists) o u in still o d.0 u d.1 refl refl refl refl

  drops : (o : OutboxState) (u : InitiatorState) → Leaves o u (drop_list_step o u)
  drops o u = drops_as (drop_lists u.lists) o u

  points : (list : ℕ) (ending : Ending) (o : OutboxState) (u : InitiatorState) → Leaves o u (pointer_ended list ending o u)
  points list (endings.Complete value) o u = by (is_list u.lists.slots.present list) (record u { seat = goes pointed u.seat }) refl refl refl
    where
      by : (b : Bool) (v : InitiatorState) → v.layer ≡ u.layer → v.operation ≡ u.operation → own_rom v ≡ own_rom u → Leaves o u (o, cond b (with_answered v) v)
      by true v e f g = still o o u (with_answered v) refl e f g
      by false v e f g = still o o u v refl e f g
  points list (endings.Refused rcode) o u = sticks o u
  points list endings.Expired o u = sticks o u

  bells : (ending : Ending) (o : OutboxState) (u : InitiatorState) → Leaves o u (doorbell_ended ending o u)
  bells (endings.Complete value) o u = still o o u u refl refl refl refl
  bells (endings.Refused rcode) o u = sticks o u
  bells endings.Expired o u = sticks o u

  resets : (act : ℕ) (ending : Ending) (o : OutboxState) (u : InitiatorState) → (Other → r.act ≡ act → ⊥) → Leaves o u (reset_ended act ending o u)
  resets act (endings.Complete value) o u f = let d = drop_list_step o u in then_leaves o u d (end_own_step act words.Done d.0 d.1) (drops o u) (owns act words.Done d.0 d.1 f)
  resets act (endings.Refused rcode) o u f = fails act o u f
  resets act endings.Expired o u f = fails act o u f

  enables : (act : ℕ) (ending : Ending) (o : OutboxState) (u : InitiatorState) → (Other → r.act ≡ act → ⊥) → Leaves o u (enable_ended act ending o u)
  enables act (endings.Complete value) o u f = owns act words.Done o u f
  enables act (endings.Refused rcode) o u f = fails act o u f
  enables act endings.Expired o u f = fails act o u f

  conflicts_for : (found : Option Running) (act : ℕ) (o : OutboxState) (u : InitiatorState) → u.operation ≡ found → (Other → r.act ≡ act → ⊥) → Leaves o u (conflict_for found act o u)
  conflicts_for None act o u e f = still o o u u refl refl refl refl
  conflicts_for (Some running) act o u e f = by (running.act == act) refl
    where
      ends : (b : Bool) → (running.act == act) ≡ true → (let v = cond b (record u { seat = goes conflict u.seat }) u in Leaves o u (end_step running.operation words.Conflict o v))
      ends b g = record {
        packets = refl;
        layer = same b;
        operation = λ x h. absurd (f x (ap (λ (y : Running). y.act) (sym (same_running running r (sym e ∙ h))) ∙ equal running.act act g));
        read = reads b;
      }
        where
          same : (b : Bool) → (cond b (record u { seat = goes conflict u.seat }) u).layer ≡ u.layer
          same true = refl
          same false = refl

          reads : (b : Bool) → own_rom (cond b (record u { seat = goes conflict u.seat }) u) ≡ own_rom u
          reads true = refl
          reads false = refl

      by : (b : Bool) → (running.act == act) ≡ b → Leaves o u (cond b (end_step running.operation words.Conflict o (moved running.operation conflict u)) (o, u))
      by false g = still o o u u refl refl refl refl
      by true g = ends (moves_session running.operation) g

  manages : (act : ℕ) (ending : Ending) (o : OutboxState) (u : InitiatorState) → (Other → r.act ≡ act → ⊥) → Leaves o u (management_ended act ending o u)
  manages act (endings.Complete value) o u f = still o o u u refl refl refl refl
  manages act (endings.Refused rcode) o u f = pick o u (is_conflict rcode) (conflict_step act o u) (fail_step act o u) (conflicts_for u.operation act o u refl f) (fails act o u f)
  manages act endings.Expired o u f = fails act o u f

  knows : (b : Bool) (value : ℕ) (o : OutboxState) (u : InitiatorState) → Leaves o u (known_where b value o u)
  knows false value o u = still o o u u refl refl refl refl
  knows true value o u = pick o u (value == 0) (drop_list_step o u) (o, cond (value == 3) (with_dead u) u) (drops o u) (by (value == 3))
    where
      by : (b : Bool) → Leaves o u (o, cond b (with_dead u) u)
      by true = still o o u (with_dead u) refl refl refl refl
      by false = still o o u u refl refl refl refl

  tells : (act : ℕ) (word : OpWord) (o : OutboxState) (u : InitiatorState) → Leaves o u (state_told act word o u)
  tells act word o u = let d = state_told act word o u in still o d.0 u d.1 refl refl refl refl

  states : (act : ℕ) (list : Option ℕ) (ending : Ending) (o : OutboxState) (u : InitiatorState) → Leaves o u (state_ended act list ending o u)
  states act list (endings.Complete value) o u =
      let b = counts_for u.lists.slots.present list in
      let d = known_where b value o u in then_leaves o u d (state_told act (words.State value) d.0 d.1) (knows b value o u) (tells act (words.State value) d.0 d.1)
  states act list (endings.Refused rcode) o u = tells act words.Error o u
  states act list endings.Expired o u = tells act words.Error o u

  pub ended_leaves : (purpose : Purpose) (ending : Ending) (o : OutboxState) (u : InitiatorState) → is_plain purpose ≡ true → (Other → IsApart r purpose) → Leaves o u (ended_step purpose ending o u)
  unfolding ended_step
  ended_leaves (purposes.Pointer list) ending o u e f = points list ending o u
  ended_leaves purposes.Doorbell ending o u e f = bells ending o u
  ended_leaves (purposes.AgentReset act) ending o u e f = resets act ending o u f
  ended_leaves (purposes.Enable act) ending o u e f = enables act ending o u f
  ended_leaves (purposes.Management act) ending o u e f = manages act ending o u f
  ended_leaves (purposes.State act list) ending o u e f = states act list ending o u
  ended_leaves (purposes.Rom act) ending o u e f = untrue e

-- ---- a read of a ROM of the operation
-- with one quadlet more, where it brings one
abbrev pub read_on : Ending → List ℕ → List ℕ
read_on (endings.Complete value) quads = with_quad quads value
read_on ending quads = quads

-- it ends with this word, which it tells alone
pub record IsOver (o : OutboxState) (u : InitiatorState) (q : List ℕ) (word : OpWord) (t : Turn) : Type 0 where
  pub operation : t.1.operation ≡ None
  pub packets : t.0.packets ≡ o.packets
  pub layer : t.1.layer ≡ u.layer
  pub sides : t.0.sides ≡ o.sides ++ sides.Own (notes.Op u.number operations.Rom word) ∷ []
  pub is : own_rom t.1 ≡ left_own operations.Rom word (rom q u.management)

-- the read of the next one leaves
pub record GoesOn (o : OutboxState) (u : InitiatorState) (act : ℕ) (q : List ℕ) (t : Turn) : Type 0 where
  pub asked : Asked
  pub step : asking_step u.layer u.target (next_quad q) (purposes.Rom act) ≡ (Some asked, t.1.layer)
  pub packets : t.0.packets ≡ o.packets ++ outgoing u.target asked ∷ []
  pub operation : t.1.operation ≡ u.operation
  pub sides : t.0.sides ≡ o.sides
  pub is : own_rom t.1 ≡ rom q u.management
  pub more : (length q == 256) ≡ false

pub data RomGoes (o : OutboxState) (u : InitiatorState) (act : ℕ) (q : List ℕ) (t : Turn) : Type 0 where
  ends : (word : OpWord) → IsOver o u q word t → RomGoes o u act q t
  goes_on : GoesOn o u act q t → RomGoes o u act q t

module _ (r : Running) (kind : r.operation ≡ operations.Rom) (o : OutboxState) (u : InitiatorState) (e : u.operation ≡ Some r) where
  -- of one that has all of this
  record IsLike (v : InitiatorState) : Type 0 where
    layer : v.layer ≡ u.layer
    operation : v.operation ≡ u.operation
    number : v.number ≡ u.number

  module _ (q : List ℕ) (word : OpWord) (v : InitiatorState) (like : IsLike v) (is : own_rom v ≡ left_own operations.Rom word (rom q u.management)) where
    over_for : (found : Option Running) → found ≡ Some r → IsOver o u q word (end_own_for found r.act word o v)
    over_for None f = none_is r f
    over_for (Some running) f = by (running.act == r.act) (ap (λ (x : Running). x.act == r.act) (same_running running r f) ∙ same_number r.act)
      where
        by : (b : Bool) → b ≡ true → IsOver o u q word (cond b (end_step running.operation word o v) (o, v))
        by true g = record {
          operation = refl;
          packets = refl;
          layer = like.layer;
          sides =
              ap (λ n. o.sides ++ sides.Own (notes.Op n running.operation word) ∷ []) like.number
              ∙ ap (λ x. o.sides ++ sides.Own (notes.Op u.number x word) ∷ []) (ap (λ (x : Running). x.operation) (same_running running r f) ∙ kind);
          is = is;
        }
        by false g = untrue g

    over : RomGoes o u r.act q (end_own_step r.act word o v)
    over = ends word (over_for v.operation (like.operation ∙ e))

  same : (v : InitiatorState) → v.layer ≡ u.layer → v.operation ≡ u.operation → v.number ≡ u.number → IsLike v
  same v l op n = record { layer = l; operation = op; number = n }

  -- the quadlets are read
  module _ (v : InitiatorState) (like : IsLike v) (management : v.management ≡ u.management) where
    kept : own_rom v ≡ rom v.quads u.management
    kept = ap (rom v.quads) management

    units : (unit : Option SbpUnit) → management_in (reading v.quads) ≡ distance_in unit → RomGoes o u r.act v.quads (with_unit unit r.act o v)
    units None f = over v.quads words.NoUnit v like kept
    units (Some unit) f =
        let w = record v { management = Some (management_at unit.management) } in
        over v.quads words.Done w (same w like.layer like.operation like.number) (ap (λ m. rom v.quads (known_at m)) (sym f))

    roms : (x : Result Tree RomFault) → reading v.quads ≡ x → RomGoes o u r.act v.quads (with_rom x r.act o v)
    roms (Ok tree) f = units (sbp_unit_of tree.blocks tree.entries) (ap management_in f)
    roms (Err fault) f = over v.quads (words.Bad (fault_number fault)) v like kept

    finishes : RomGoes o u r.act v.quads (finish_rom r.act o v)
    finishes = roms (reading v.quads) refl

    asks : (x : Option Asked × Layer Purpose) → asking_step u.layer u.target (next_quad v.quads) (purposes.Rom r.act) ≡ x → v.target ≡ u.target → (length v.quads == 256) ≡ false → RomGoes o u r.act v.quads (asked_quad x r.act o v)
    asks (Some asked, layer) f g more = goes_on (record { asked = asked; step = f; packets = ap (λ n. o.packets ++ outgoing n asked ∷ []) g; operation = like.operation; sides = refl; is = kept; more = more })
    asks (None, layer) f g more =
        let w = record v { layer = layer } in
        over v.quads words.Error w (same w (none_asked u.layer layer u.target (next_quad v.quads) (purposes.Rom r.act) (sym f)) like.operation like.number) kept

    goes_by : (b : Bool) → (length v.quads == 256) ≡ b → v.target ≡ u.target → RomGoes o u r.act v.quads (cond b (finish_rom r.act o v) (ask_quad r.act o v))
    goes_by true f g = finishes
    goes_by false f g =
        asks (asking_step v.layer v.target (next_quad v.quads) (purposes.Rom r.act))
        (ap (λ (l : Layer Purpose). asking_step l u.target (next_quad v.quads) (purposes.Rom r.act)) (sym like.layer) ∙ ap (λ n. asking_step v.layer n (next_quad v.quads) (purposes.Rom r.act)) (sym g)) g f

  refused : (b : Bool) → RomGoes o u r.act u.quads (cond b (finish_rom r.act o u) (end_own_step r.act words.Error o u))
  refused true = finishes u (same u refl refl refl) refl
  refused false = over u.quads words.Error u (same u refl refl refl) refl

  pub rom_goes : (ending : Ending) → RomGoes o u r.act (read_on ending u.quads) (ended_step (purposes.Rom r.act) ending o u)
  unfolding ended_step
  rom_goes (endings.Complete value) = let v = record u { quads = with_quad u.quads value } in goes_by v (same v refl refl refl) refl (length v.quads == 256) refl refl
  rom_goes (endings.Refused rcode) = refused (is_address rcode)
  rom_goes endings.Expired = over u.quads words.Error u (same u refl refl refl) refl
