-- A packet is delivered to the target: behind the turn the agents of the terms are the target's.
use Rattle.sbp_world.proofs.Words.Std.{◌≡◌, refl, sym, subst, ℕ, ◌<◌, Bool, List, Option, Some}
use Rattle.sbp_world.proofs.Words.Wire.{AreJudged, Finding, Layer, judging_step, Sent, found_sent, GenerationsState, Moment, Judged}
use Rattle.sbp_world.proofs.Words.Target.{Disk, Held, Told, Purpose, TargetScene, scene, TellsIn, received, with_layer, Whole, plain_in}
use Rattle.sbp_world.proofs.Words.Laws.{unit_at, over}
use Rattle.sbp_world.proofs.Words.World.{whole_of, BytesTold, handed_out, WorldState, with_target, AreOf, Request, with_requests, AllLeave, AreHeldAt, AreKnown}
use Rattle.sbp_world.proofs.Wire.Holding.{Sound}
use Rattle.sbp_world.proofs.Wire.Nodes.{marked_alike}
use Rattle.sbp_world.proofs.Wire.Starts.{laws_of}
use Rattle.sbp_target.proofs.Histories.Found.{found as found_as}
use Rattle.sbp_world.proofs.Agents.Management.Calls.{delivery_does}
use Rattle.sbp_world.proofs.Agents.Management.Holding.{Holding, handed_judged}
use Rattle.sbp_world.proofs.Agents.Management.Sides.{AllBehind}
use Rattle.sbp_world.proofs.Agents.Management.Still.{hist}
use Rattle.sbp_world.proofs.Agents.Management.Told.{term_in}
use Rattle.sbp_world.specs.Agents.Management.Calls as management
use Rattle.sbp_world.specs.Agents.Calls.{delivered}
use Rattle.sbp_world.proofs.Agents.CrewFirsts.{IsToldFor, Lands, T, agrees, before, crew_keeps, found_lands, noted, o}
use Rattle.sbp_world.proofs.Agents.CrewTurns.{doing_behind, turned_crew}
use Rattle.sbp_world.proofs.Agents.Leaving.{packets_leave}
use Rattle.sbp_world.proofs.Agents.Purposes.{g}
use Rattle.sbp_world.proofs.Agents.ToldAlike.{told_alike_received}

module _ (units ready : ℕ) (has : 0 < units) (start : List Disk) {past : List Moment} {lines : ℕ} (w : WorldState) (h : Holding units ready start past lines w) (serial : ℕ) (again : Bool) (sent : Sent) (found : found_sent serial w.store.kept ≡ Some sent) (zero_to : sent.to ≡ 0) (requests : List Request) (are : AreOf requests (T units ready has start w h).agents w.target) (known : AreKnown requests w.target w.requests) (run : Option Told) (media : Held) (units_are : (unit : ℕ) → unit_at (before units ready has start w h).units unit ≡ plain_in w.target.units media.disks unit) (held : AreHeldAt start (hist past w) w) where
  abbrev r : Judged × Whole
  r = received run sent.generation sent.bytes (whole_of w.target media)

  abbrev x : TargetScene
  x = scene r.1.node r.1.outbox

  abbrev v : WorldState
  v = noted units ready has start w h serial again sent found zero_to r.0 r.1.node

  behind : AllBehind r.1.outbox.sides
  behind =
      doing_behind x
      (delivery_does w.target (g units ready has start w h) (o units ready has start w h) (agrees units ready has start w h) run media.disks sent.generation sent.bytes)

  leaves : BytesTold run → AllLeave v.generations r.1.outbox.packets
  leaves bytes =
      subst (λ (x : GenerationsState). AllLeave x r.1.outbox.packets) (sym (marked_alike (with_target r.1.node w) serial again).generations)
      ((packets_leave units ready has start w h).deliveries serial sent run media found zero_to bytes)

  judged : {later : ℕ} → Sound past later (handed_out 0 0 r.1.outbox v) → AreJudged (hist past v)
  judged sound = handed_judged past 0 0 r.1.outbox v behind (laws_of past (handed_out 0 0 r.1.outbox v) sound.stands).judged

  abbrev found_now : Finding Purpose × Layer Purpose
  found_now = judging_step w.target.layer sent.generation sent.bytes

  lands : IsToldFor units ready has start w h serial again sent found zero_to requests are known run media units_are held found_now.0 found_now.1 → AreJudged (hist past v) → Lands units ready has start w h serial again sent found zero_to requests are known run media units_are held found_now.0 r.0 r.1
  unfolding received
  lands told j =
      found_lands units ready has start w h serial again sent found zero_to requests are known run media units_are held found_now.0 found_now.1 refl
      (found_as w.target.layer sent.generation sent.bytes) told j

  told_for : (faults now : List ℕ) → TellsIn run found_now.0 (with_layer found_now.1 (whole_of w.target media)) faults now → IsToldFor units ready has start w h serial again sent found zero_to requests are known run media units_are held found_now.0 found_now.1
  unfolding received
  told_for faults now tells = told_alike_received w.target (g units ready has start w h) run media.disks sent.generation sent.bytes faults now tells

  pub delivered_crew : BytesTold run → (faults now : List ℕ) → TellsIn run found_now.0 (with_layer found_now.1 (whole_of w.target media)) faults now → {later : ℕ} → Sound past later (handed_out 0 0 r.1.outbox v) → AreOf (with_requests v.store.last r.1.outbox.packets requests) (over (term_in start past (handed_out 0 0 r.1.outbox v))).agents r.1.node
  delivered_crew bytes faults now tells sound =
      let l = lands (told_for faults now tells) (judged sound) in
      turned_crew start past requests (management.delivered found_now.0 w.target (o units ready has start w h)) (delivered l.term_told l.untold found_now.0 w.target media.disks (o units ready has start w h) (T units ready has start w h).agents) x v l.begins behind (leaves bytes)
      ((crew_keeps units ready has start w h requests are).deliveries l.term_told run l.untold media.disks sent.generation sent.bytes faults now l.alike tells)
