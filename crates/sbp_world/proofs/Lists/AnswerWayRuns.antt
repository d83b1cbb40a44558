-- In every run, where lists were open as they should be before, an agent that writes an answer of an initiator that injected no packets has a present ORB whose data go to its initiator.
use Rattle.sbp_world.proofs.Words.Std.{◌≡◌, ◌∙◌, refl, sym, ap, subst, ◌<◌, ℕ, zero, suc, Bool, true, false, List, [], Some, slice_index_or, false≢true}
use Rattle.sbp_world.proofs.Words.Wire.{Moment, Cmd}
use Rattle.sbp_world.proofs.Words.Target.{Disk, Desk, new_desk, Machine}
use Rattle.sbp_world.proofs.Words.Laws.{slot_at, command_at}
use Rattle.sbp_world.proofs.Words.World.{moments_behind, Run, beginning, WorldState, IsFor, initiator_in, machine_at, new_world, answers, has_list, more_deliveries, Under, AreInward}
use Rattle.std.specs.Prelude.{replicate}
use Rattle.sbp_world.proofs.Agents.Management.Still.{hist}
use Rattle.sbp_world.proofs.Lists.Walks.{Walks, walked_after, walked_between}
use Rattle.sbp_world.proofs.Lists.AnswerLengths.{commands_fill}
use Rattle.sbp_world.proofs.Lists.DataSteps.{ArePrepared, answers_is, reply_whole, reply_way}
use Rattle.sbp_world.proofs.Lists.Executes.{asked_of}
use Rattle.sbp_world.proofs.Lists.Full.{IsClosed, IsFull, closed_where, full_closed}
use Rattle.sbp_world.proofs.Lists.AnswerWays.{IsWay, way_closed}
use Rattle.sbp_world.proofs.Lists.DataWhole.{Ground, all_filled}
use Rattle.sbp_world.proofs.Lists.OpenTurns.{listing_up}
use Rattle.sbp_world.proofs.Lists.PlaceOwners.{walk_owns}
use Rattle.sbp_world.proofs.Lists.RunOutcomes.{AreAsked}
use Rattle.sbp_world.proofs.Lists.RunTells.{delivery_may}
use Rattle.sbp_world.proofs.Lists.Sites.{named_prepared}
use Rattle.sbp_world.proofs.Lists.MachineTurns.{turn_full}
use Rattle.sbp_world.proofs.Common.{delivers}

abbrev Both : ℕ → Machine → Type 0
Both q m = IsFull m × IsWay m

both_closed : IsClosed Both
both_closed = record {
  reset = λ q m. (full_closed.reset q m, way_closed.reset q m);
  abort = λ q m orb h. (full_closed.abort q m orb h.0, way_closed.abort q m orb h.1);
  lost = λ q m which cause h. (full_closed.lost q m which cause h.0, way_closed.lost q m which cause h.1);
  bell = λ q m h. (full_closed.bell q m h.0, way_closed.bell q m h.1);
  point = λ q m pointer h. (full_closed.point q m pointer h.0, way_closed.point q m pointer h.1);
}

-- ---- over a run, of the initiators that injected no packets
abbrev AllFull : (ℕ → Bool) → List Moment → WorldState → Type 0
AllFull wild ms w = (q : ℕ) → q < 8 → wild (initiator_in w q) ≡ false → Both q (machine_at w q)

abbrev Nothing : List Moment → WorldState → Type 0
Nothing past w = Unit {0}

full_walk : (wild : ℕ → Bool) (units ready : ℕ) → 0 < units → (start : List Disk) → Walks wild units ready start Ground Nothing (AllFull wild)
full_walk wild units ready has start past s later t step p q b own = ((λ e. (all_of e).0 e), (λ e. (all_of e).1 e))
  where
    all_of : answers (machine_at t.world q).phase ≡ true → Both q (machine_at t.world q)
    all_of e =
        let w = s.world in
        let ms = hist past w in
        let at = step.stands.reached in
        let asked_orbs : AreAsked wild ms w = asked_of wild start units ready has w at.holds at.site step.stands.lists at.calm step.known.orbs in
        let prepared : ArePrepared ms w = (λ place n j there named.
        let x = named_prepared units ready has start w at.holds at.site place n j there named in
        record { there = x.there; small = x.small; filled = λ cmd e. at.site.filled (initiator_in w place) there (slot_at ms (initiator_in w place) n j) n j cmd x.small x.there e }) in
        let owner : initiator_in t.world q ≡ initiator_in w q =
        walk_owns units ready has start s at.holds at.site.held later t step.turn q b (listing_up (machine_at t.world q).phase (ap has_list (answers_is (machine_at t.world q).phase e))) in
        turn_full (λ place m. wild (initiator_in w place) ≡ false → Both place m) (closed_where (λ place. wild (initiator_in w place) ≡ false) Both both_closed) wild past s later t step.turn
        (record {
          ready = step.stands.known_all;
          seats = λ q login e. let k = at.site.held.held q login e in record { holder_is = k.holder; there = k.there; id_is = k.login_is };
          replies = λ serial sent run h found zero_to may p label place judged inside login served which is_which both mine.
              let is_for : IsFor w sent = record { serial = serial; found = found; to = zero_to } in
              let told = delivery_may w.target step.stands.known_all.good.mid.size step.stands.known_all.good.table.sound sent run s.media may p label place judged login served which is_which in
              let fills = λ (j n k : ℕ) (cmd : Cmd) (g : command_at ms j n k ≡ Some cmd). commands_fill ms step.known.fills j n k cmd g in (
                λ e_then. reply_whole wild past w step.stands.known_all asked_orbs sent is_for run s.media.disks p label place judged inside login which is_which mine told prepared fills (both mine).0 e_then,
                λ e_then. reply_way wild past w step.stands.known_all asked_orbs sent is_for run s.media.disks p label place judged inside login which is_which mine told prepared fills (both mine).0 e_then (both mine).1,
              );
        })
        p q b (ap wild (sym owner) ∙ own)

first_full : (wild : ℕ → Bool) (line : ℕ) (run : Run) → AllFull wild (moments_behind line run []) (beginning run).world
unfolding new_world
first_full wild line run q b own = subst (λ (d : Desk). Both q d.agent) (sym (new_desks 8 q)) ((λ e. absurd (false≢true e)), (λ e. absurd (false≢true e)))
  where
    new_desks : (n p : ℕ) → slice_index_or (replicate n new_desk) p new_desk ≡ new_desk
    new_desks zero p = refl
    new_desks (suc n) zero = refl
    new_desks (suc n) (suc p) = new_desks n p

nothing : Under Nothing
nothing = record { after_lines = λ line run r has small size so_far. tt; between = λ line run r has small size next most told m so_far. tt }

pub ways_law : Under AreInward
ways_law = record {
  after_lines = λ line run r has small size so_far place b calm answering.
      let x = walked_after Ground Nothing AllFull all_filled nothing full_walk first_full line run r has small size so_far place b calm in x.1 (ap answers answering);
  between = λ line run r has small size next most told m so_far place b calm answering.
      let x = walked_between Ground Nothing AllFull all_filled nothing full_walk first_full line run r has small size next (more_deliveries most) (delivers most) told m so_far place b calm in x.1 (ap answers answering);
}
