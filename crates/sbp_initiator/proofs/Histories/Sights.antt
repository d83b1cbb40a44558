-- What an initiator tells as it sees a generation.
use Rattle.std.proofs.Common.{◌≡◌, refl, sym, ap, subst, ◌∙◌, ℕ, ◌++◌, append-nil, nat_lt, Bool, true, false, cond, List, [], ◌∷◌, length, slice_index_or, Option, Some, None}
use Rattle.label_table.specs.Layer.{Layer, seeing_step, seen_in_generation}
use Rattle.bus_memory.specs.declared.slot.PlaceMemory.{PlaceMemory}
use Rattle.bus_memory.specs.Memory.{empty_place}
use Rattle.orb_list.specs.Table.{closed, free_all_step}
use Rattle.sbp_journal.specs.declared.note.Note.{Note}
use Rattle.sbp_journal.specs.declared.note.Note.TheVariants as notes
use Rattle.sbp_journal.specs.declared.operation.Operation.TheVariants as operations
use Rattle.sbp_journal.specs.declared.operation.OpWord.TheVariants as words
use Rattle.sbp_journal.specs.Outgoings.{OutboxState}
use Rattle.sbp_initiator.specs.declared.purpose.Pointing.{Pointing}
use Rattle.sbp_initiator.specs.declared.purpose.Pointing.TheVariants as pointings
use Rattle.sbp_initiator.specs.declared.purpose.Purpose.{Purpose}
use Rattle.sbp_initiator.specs.declared.purpose.Running.{Running}
use Rattle.sbp_initiator.specs.declared.state.Counts.{Counts}
use Rattle.sbp_initiator.specs.declared.state.InitiatorState.{InitiatorState}
use Rattle.orb_list.specs.Lists.{ListState, free_lists}
use Rattle.sbp_initiator.specs.Effects.{Turn, drop_list_step}
use Rattle.sbp_initiator.specs.Seeing.{all_end, interrupted, reset_told, resets_told, seen_as, see_step, states_end}
use Rattle.sbp_initiator.specs.Histories.Drops.{present_list}
use Rattle.sbp_initiator.specs.Histories.Ends.{own, drops}
use Rattle.sbp_initiator.specs.Histories.Numbers.{carried, RisesTo}
use Rattle.sbp_initiator.specs.Histories.Tells.{state_resets, resets_with, resets, Sees}
use Rattle.sbp_initiator.proofs.Histories.Effects.{Begun, HasMarks, Holds, Past, list_drops, none_begun, told_twice}
use Rattle.label_table.specs.History as wire
use Rattle.sbp_initiator.proofs.Histories.Leaves.{drops_keep}
use Rattle.sbp_initiator.proofs.Histories.Lives.{LivesIn}
use Rattle.sbp_initiator.proofs.Histories.Purposes.{all_ask}
use Rattle.sbp_initiator.proofs.Histories.Requests.{HasOrb}
use Rattle.sbp_initiator.proofs.Histories.Runs.{FitsNow, IsBegun, Sound, fits_none, none_some}
use Rattle.sbp_initiator.proofs.Histories.Wires.{Wire, see_wire}

-- an outbox that tells some notes more, and has the same packets
record TellsMore (o : OutboxState) (ns : List Note) (after : OutboxState) : Type 0 where
  sides : after.sides ≡ o.sides ++ own ns
  packets : after.packets ≡ o.packets

more : (o : OutboxState) (note : Note) (ns : List Note) (after : OutboxState) → TellsMore (record o { sides = o.sides ++ own (note ∷ []) }) ns after → TellsMore o (note ∷ ns) after
more o note ns after t =
    record { sides = told_twice o.sides (o.sides ++ own (note ∷ [])) after.sides (note ∷ []) ns refl t.sides; packets = t.packets }

states_more : (number : ℕ) (acts : List ℕ) (o : OutboxState) → TellsMore o (state_resets number acts) (states_end number acts o)
states_more number [] o = record { sides = sym (append-nil o.sides); packets = refl }
states_more number (act ∷ acts) o =
    more o (notes.Op number operations.State words.Reset) (state_resets number acts) _ (states_more number acts (reset_told number operations.State o))

pick_more : (c : Bool) (o : OutboxState) (ns ms : List Note) (x y : OutboxState) → TellsMore o ns x → TellsMore o ms y → TellsMore o (cond c ns ms) (cond c x y)
pick_more true o ns ms x y s t = s
pick_more false o ns ms x y s t = t

all_more : (number : ℕ) (running : Running) (acts : List ℕ) (o : OutboxState) → TellsMore o (resets_with number running acts) (all_end number running acts o)
all_more number running [] o = record { sides = refl; packets = refl }
all_more number running (act ∷ acts) o =
    pick_more (nat_lt running.act act) o _ _ _ _
    (more o (notes.Op number running.operation words.Reset) (state_resets number (act ∷ acts)) _ (states_more number (act ∷ acts) (reset_told number running.operation o)))
    (more o (notes.Op number operations.State words.Reset) (resets_with number running acts) _ (all_more number running acts (reset_told number operations.State o)))

resets_more : (number : ℕ) (operation : Option Running) (acts : List ℕ) (o : OutboxState) → TellsMore o (resets number operation acts) (resets_told number operation acts o)
resets_more number None acts o = states_more number acts o
resets_more number (Some running) acts o = all_more number running acts o

-- ---- all slots are free

free_marks : (lists : ListState) → HasMarks (free_lists lists).slots.present pointings.Unwritten
unfolding free_lists free_all_step
free_marks lists = refl

free_present : (lists : ListState) → (free_lists lists).slots.present ≡ None
unfolding free_lists free_all_step
free_present lists = refl

free_begun : (pointed : ℕ → Bool) (lists : ListState) (pointing : Pointing) → Begun pointed lists.slots.present lists.slots.lists pointing → Begun pointed (free_lists lists).slots.present (free_lists lists).slots.lists pointings.Unwritten
unfolding free_lists free_all_step
free_begun pointed lists pointing h = none_begun pointed lists.slots.present lists.slots.lists pointing h

free_memory : (lists : ListState) → (free_lists lists).memory.places ≡ lists.memory.places
unfolding free_lists free_all_step closed
free_memory lists = refl

free_holds : (held : Past) (lists : ListState) (pointing : Pointing) → Holds held lists pointing → Holds held (free_lists lists) pointings.Unwritten
free_holds held lists pointing h = record {
  marks = free_marks lists;
  orbs = λ m. ap (λ (l : List PlaceMemory). (slice_index_or l m empty_place).orb) (free_memory lists) ∙ h.orbs m;
  places = ap length (free_memory lists) ∙ h.places;
  pointed = free_begun held.pointed lists pointing h.pointed;
}

-- ---- as a whole

record Saw (node : ℕ) (held : Past) (counted : ℕ → Option ℕ) (seen : Bool) (old new : Turn) : Type 0 where
  tells : Sees seen old new
  sound : Sound node held counted new

abbrev seeing_as : Bool → Layer Purpose → Layer Purpose → Bool × Layer Purpose
seeing_as c new old = cond c (true, new) (false, old)

saw_as : (c : Bool) (node : ℕ) (held : Past) (counted : ℕ → Option ℕ) (generation id target : ℕ) (o : OutboxState) (s : InitiatorState) → Sound node held counted (o, s) → Wire (FitsNow s.operation s.counts.acts counted held.pointed) (cond c [] s.states) node s.counts.running (seeing_as c (seen_in_generation s.layer generation id) s.layer).1 o.packets → Saw node held counted c (o, s) (seen_as (seeing_as c (seen_in_generation s.layer generation id) s.layer) target o s)
saw_as false node held counted generation id target o s k w = record { tells = (refl, refl); sound = k }
saw_as true node held counted generation id target o s k w =
    let u = record s { layer = seen_in_generation s.layer generation id } in
    let x = resets_told s.number s.operation s.states o in
    let m = resets_more s.number s.operation s.states o in
    let v = interrupted u target in
    let d = list_drops x v in
    let t = drop_list_step x v in
    record {
      tells = (told_twice o.sides x.sides t.0.sides (resets s.number s.operation s.states) (drops s.number (present_list s.lists.slots.present)) m.sides d.sides, d.operation, free_present t.1.lists);
      sound = record {
        wires = record {
          calls = w.calls;
          layer_is = w.layer_is ∙ sym d.layer;
          packets_are = w.packets_are ∙ sym (d.packets ∙ m.packets);
          rises = subst (λ (c : Counts). RisesTo c.running (carried node w.calls)) (sym d.counts) w.rises;
          asks = all_ask (FitsNow s.operation s.counts.acts counted held.pointed) (FitsNow t.1.operation t.1.counts.acts counted held.pointed)
              (λ p f. subst (λ (r : Option Running). FitsNow r t.1.counts.acts counted held.pointed p) (sym d.operation) (subst (λ (c : Counts). FitsNow None c.acts counted held.pointed p) (sym d.counts) (record { fits = fits_none p; earlier = f.earlier; counts = f.counts; points = f.points })))
              w.calls w.asks;
          new = w.new;
          lives = subst (λ (l : List ℕ). LivesIn l (wire.history node w.calls)) (sym (drops_keep x v).states) w.lives;
        };
        marks = free_holds held t.1.lists t.1.marks.pointing (d.marks held k.marks);
        sized = k.sized;
        orb = subst (λ (r : Option Running). HasOrb r) (sym d.operation) (record { managed = λ r e. none_some e });
        begun = subst (λ (r : Option Running). IsBegun r t.1.counts.acts) (sym d.operation) (record { before = λ r e. none_some e });
      };
    }

saw : (node : ℕ) (held : Past) (counted : ℕ → Option ℕ) (generation id target : ℕ) (o : OutboxState) (s : InitiatorState) → Sound node held counted (o, s) → Saw node held counted (nat_lt s.layer.generation generation) (o, s) (see_step generation id target o s)
unfolding see_step seeing_step
saw node held counted generation id target o s k = saw_as (nat_lt s.layer.generation generation) node held counted generation id target o s k (see_wire generation id k.wires)

pub sees_so : (node : ℕ) (held : Past) (counted : ℕ → Option ℕ) (generation id target : ℕ) (o : OutboxState) (s : InitiatorState) → Sound node held counted (o, s) → Sees (nat_lt s.layer.generation generation) (o, s) (see_step generation id target o s)
sees_so node held counted generation id target o s k = (saw node held counted generation id target o s k).tells

pub sees_soundly : (node : ℕ) (held : Past) (counted : ℕ → Option ℕ) (generation id target : ℕ) (o : OutboxState) (s : InitiatorState) → Sound node held counted (o, s) → Sound node held counted (see_step generation id target o s)
sees_soundly node held counted generation id target o s k = (saw node held counted generation id target o s k).sound
