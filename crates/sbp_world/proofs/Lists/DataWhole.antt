-- While an agent writes an answer, it has as many bytes as the buffer of the ORB, and not all were written: the command of a line fills its buffer, and what a run tells has the length of the answer to it.
use Rattle.sbp_world.proofs.Words.Std.{◌≡◌, ◌∙◌, refl, sym, ap, subst, ◌<◌, ℕ, zero, suc, Bool, false, List, [], length, Option, Some, None, slice_index_or, false≢true}
use Rattle.sbp_world.proofs.Words.Wire.{Moment}
use Rattle.sbp_world.proofs.Words.Target.{Disk, Desk, new_desk}
use Rattle.sbp_world.proofs.Words.Laws.{slot_at}
use Rattle.sbp_world.proofs.Words.World.{has_list, moments_behind, Run, beginning, after, after_all, WorldState, begun, initiator_at, initiator_in, machine_at, new_world, answers, HoldsOrbs, more_deliveries, Always, Under, AnswersWholeLaw}
use Rattle.sbp_world.proofs.Lists.Full.{closed_where}
use Rattle.sbp_world.proofs.Lists.PlaceOwners.{walk_owns}
use Rattle.sbp_world.proofs.Lists.OpenTurns.{listing_up}
use Rattle.sbp_world.proofs.Lists.DataSteps.{answers_is}
use Rattle.std.specs.Prelude.{replicate}
use Rattle.sbp_world.proofs.Agents.Management.Still.{hist}
use Rattle.sbp_world.proofs.Lists.Walks.{Walks}
use Rattle.sbp_world.proofs.Lists.AnswerLengths.{AreFilled, FillsEvent, commands_fill, filled_behind, filled_said}
use Rattle.sbp_world.proofs.Lists.DataSteps.{ArePrepared, reply_whole}
use Rattle.sbp_world.proofs.Lists.Executes.{asked_of}
use Rattle.sbp_world.proofs.Lists.Full.{IsFull, full_closed}
use Rattle.sbp_world.proofs.Lists.RunOutcomes.{AreAsked}
use Rattle.sbp_world.proofs.Lists.RunTells.{delivery_may}
use Rattle.sbp_world.proofs.Lists.Sites.{named_prepared}
use Rattle.sbp_world.proofs.Lists.StatusAnswers.{all_hold}
use Rattle.sbp_world.proofs.Lists.Walks.{walked_after, walked_between}
use Rattle.sbp_world.proofs.Lists.MachineTurns.{turn_full}
use Rattle.sbp_world.proofs.Common.{delivers}

-- ---- over a run, of the initiators that injected no packets
-- the commands of lines fill their buffers
pub record Ground (ms : List Moment) (w : WorldState) : Type 0 where
  pub orbs : (i : ℕ) → i < length w.initiators → HoldsOrbs ms i (initiator_at w i)
  pub fills : AreFilled ms

pub all_filled : Always Ground
all_filled = record {
  after_lines = λ line run r has small size. record { orbs = all_hold.after_lines line run r has small size; fills = filled_behind line run run.entries r.lines };
  between = λ line run r has small size next most told m.
      record { orbs = all_hold.between line run r has small size next most told m; fills = filled_said (after_all told (begun (after (beginning run) run.entries))).world.fresh _ (more_fills most, filled_behind line run run.entries r.lines) };
}
  where
    more_fills : (most : Option ℕ) → FillsEvent (more_deliveries most)
    more_fills (Some count) = tt
    more_fills None = tt

abbrev AllFull : (ℕ → Bool) → List Moment → WorldState → Type 0
AllFull wild ms w = (q : ℕ) → q < 8 → wild (initiator_in w q) ≡ false → IsFull (machine_at w q)

abbrev Nothing : List Moment → WorldState → Type 0
Nothing past w = Unit {0}

full_walk : (wild : ℕ → Bool) (units ready : ℕ) → 0 < units → (start : List Disk) → Walks wild units ready start Ground Nothing (AllFull wild)
full_walk wild units ready has start past s later t step p q b own e =
    let w = s.world in
    let ms = hist past w in
    let at = step.stands.reached in
    let asked_orbs : AreAsked wild ms w = asked_of wild start units ready has w at.holds at.site step.stands.lists at.calm step.known.orbs in
    let prepared : ArePrepared ms w = (λ place n j there named.
    let x = named_prepared units ready has start w at.holds at.site place n j there named in
    record { there = x.there; small = x.small; filled = λ cmd e. at.site.filled (initiator_in w place) there (slot_at ms (initiator_in w place) n j) n j cmd x.small x.there e }) in
    let owner : initiator_in t.world q ≡ initiator_in w q =
    walk_owns units ready has start s at.holds at.site.held later t step.turn q b (listing_up (machine_at t.world q).phase (ap has_list (answers_is (machine_at t.world q).phase e))) in
    turn_full (λ place m. wild (initiator_in w place) ≡ false → IsFull m) (closed_where (λ place. wild (initiator_in w place) ≡ false) (λ place m. IsFull m) full_closed) wild past s later t step.turn
    (record {
      ready = step.stands.known_all;
      seats = λ q login e. let k = at.site.held.held q login e in record { holder_is = k.holder; there = k.there; id_is = k.login_is };
      replies = λ serial sent run h found zero_to may p label place judged inside login served which is_which full mine e_then.
          reply_whole wild past w step.stands.known_all asked_orbs sent (record { serial = serial; found = found; to = zero_to }) run s.media.disks p label place judged inside login which is_which mine
          (delivery_may w.target step.stands.known_all.good.mid.size step.stands.known_all.good.table.sound sent run s.media may p label place judged login served which is_which) prepared (λ j n k cmd g. commands_fill ms step.known.fills j n k cmd g) (full mine) e_then;
    })
    p q b (ap wild (sym owner) ∙ own) e

first_full : (wild : ℕ → Bool) (line : ℕ) (run : Run) → AllFull wild (moments_behind line run []) (beginning run).world
unfolding new_world
first_full wild line run q b own = subst (λ (d : Desk). IsFull d.agent) (sym (new_desks 8 q)) (λ e. absurd (false≢true e))
  where
    new_desks : (n p : ℕ) → slice_index_or (replicate n new_desk) p new_desk ≡ new_desk
    new_desks zero p = refl
    new_desks (suc n) zero = refl
    new_desks (suc n) (suc p) = new_desks n p

nothing : Under Nothing
nothing = record { after_lines = λ line run r has small size so_far. tt; between = λ line run r has small size next most told m so_far. tt }

pub whole_law : AnswersWholeLaw
whole_law = record {
  after_lines = λ line run r has small size so_far place b calm answering.
      let x = walked_after Ground Nothing AllFull all_filled nothing full_walk first_full line run r has small size so_far place b calm (ap answers answering) in (x.more, x.fills);
  between = λ line run r has small size next most told m so_far place b calm answering.
      let x = walked_between Ground Nothing AllFull all_filled nothing full_walk first_full line run r has small size next (more_deliveries most) (delivers most) told m so_far place b calm (ap answers answering) in (x.more, x.fills);
}
