-- In every run an initiator ignores only writes for its slot.
use Rattle.sbp_world.proofs.Words.Std.{ℕ, suc, ◌<◌, Bool, List, [], ◌∷◌, Option}
use Rattle.sbp_world.proofs.Words.Wire.{judged_note, empty_outbox, Moment, asked, said, Event}
use Rattle.sbp_world.proofs.Words.Target.{Told}
use Rattle.sbp_world.proofs.Words.Initiator.{InitiatorState, act_step, Turn, new_state, expire_step, receive_step, see_step}
use Rattle.sbp_world.proofs.Words.World.{history_of, Run, after, beginning, MayAll, begun, IsDelivering, IsRun}
use Rattle.sbp_journal.specs.declared.event.Event.TheVariants as events
use Rattle.sbp_journal.specs.declared.note.Note.TheVariants as notes
use Rattle.sbp_world.proofs.Wire.Effects.{AreEffectSides}
use Rattle.sbp_world.proofs.Wire.OwnActs.{AreStepSides, acts}
use Rattle.sbp_world.proofs.Wire.OwnTells as own
use Rattle.sbp_world.proofs.Hosts.Between.{between, carried_there}
use Rattle.sbp_world.proofs.Hosts.Carried.{of_runs}
use Rattle.sbp_world.proofs.Hosts.Carries.{Carries, Does, Tells, by_more}
use Rattle.sbp_world.proofs.Hosts.OrbRuns.{Orbs, Rowed, first_orbs, orbs_carried, rows_known}
use Rattle.sbp_world.proofs.Hosts.SlotIgnored.{AllWrites, apart_writes, effects_writes, heard_writes, steps_writes}

record Slotted (ready : Bool) (past : List Moment) (i : ℕ) (s : InitiatorState) : Type 0 where
  orbs : Orbs ready past i s
  writes : AllWrites past i

module _ (ready : Bool) where
  tells_on : (past : List Moment) (i : ℕ) (t : Turn) → AreEffectSides t.0.sides → Tells (Orbs ready) past i t → AllWrites past i → Tells (Slotted ready) past i t
  tells_on past i t e orbs h = record {
    own = record { orbs = orbs.own; writes = effects_writes t.0.sides past i e h };
    others = λ j x f k. record { orbs = orbs.others j x f k.orbs; writes = effects_writes t.0.sides past j e k.writes };
  }

  does_on : (past : List Moment) (i : ℕ) (t : Turn) → AreStepSides t.0.sides → Does (Orbs ready) past i t → AllWrites past i → Does (Slotted ready) past i t
  does_on past i t e d h = record {
    others = λ j x f k. record { orbs = d.others j x f k.orbs; writes = steps_writes t.0.sides past j e k.writes };
    quiet = λ silent. record { orbs = d.quiet silent; writes = steps_writes t.0.sides past i e h };
    asking = λ packet one serial generation f q. record { orbs = d.asking packet one serial generation f q; writes = steps_writes t.0.sides past i e h };
  }

  slotted_carried : Carries Rowed (Slotted ready)
  slotted_carried =
      let c = orbs_carried ready in
      record {
        known = λ line event past i s r. c.known line event past i s r;
        number = λ past i s h. h.orbs.number;
        asked = λ line event past i s h. record { orbs = c.asked line event past i s h.orbs; writes = h.writes };
        apart = λ note past i s e away h. record { orbs = c.apart note past i s e away h.orbs; writes = apart_writes note past i away h.writes };
        sent = λ serial generation from to bytes past i s n h. record { orbs = c.sent serial generation from to bytes past i s n h.orbs; writes = h.writes };
        hears = λ serial generation bytes past i s heard shown after h.
            tells_on (said (judged_note serial (receive_step generation bytes empty_outbox s).0) ∷ past) i (receive_step generation bytes empty_outbox s).1 (own.receives generation bytes empty_outbox s tt)
            (c.hears serial generation bytes past i s heard shown after h.orbs) (heard_writes serial generation bytes past i s heard shown h.writes);
        expires = λ serial label past i s shown h.
            tells_on (said (notes.TimedOut serial) ∷ past) i (expire_step label empty_outbox s).1 (own.expires label empty_outbox s tt) (c.expires serial label past i s shown h.orbs) h.writes;
        stale = λ label past i s e h. record { orbs = c.stale label past i s e h.orbs; writes = h.writes };
        sees = λ generation id target past i s e h.
            tells_on (said (notes.Seen (suc i) generation) ∷ past) i (see_step generation id target empty_outbox s) (own.sees generation id target empty_outbox s tt) (c.sees generation id target past i s e h.orbs) h.writes;
        acts = λ action past i s line fit d shown known h.
            does_on past i (act_step action empty_outbox s).1 (acts action empty_outbox s tt) (c.acts action past i s line fit d shown known h.orbs) h.writes;
      }

first_slotted : (line i initiators : ℕ) (ready : Bool) → Slotted ready (said (notes.Begin initiators ready) ∷ asked line (events.Begin initiators ready) ∷ []) i (new_state i ready)
first_slotted line i initiators ready = record { orbs = first_orbs line i initiators ready; writes = tt }

pub writes_of : (line : ℕ) (run : Run) → IsRun run → (i : ℕ) → i < run.initiators → AllWrites (history_of line run) i
writes_of line run q i b =
    (of_runs (Slotted run.ready) (slotted_carried run.ready) line run (rows_known line run) (λ j c. first_slotted line j run.initiators run.ready) q i b).writes

pub writes_between : (line : ℕ) (run : Run) (q : IsRun run) (next : ℕ) (event : Event) (told : List (Option Told)) → IsDelivering event told → MayAll told (begun (after (beginning run) run.entries)) → (i : ℕ) → i < run.initiators → AllWrites (between line run q next event told) i
writes_between line run q next event told d m i b =
    (carried_there line run q next (Slotted run.ready) (by_more (slotted_carried run.ready)) (rows_known line run) (λ j c. first_slotted line j run.initiators run.ready) i b event told d m).writes
