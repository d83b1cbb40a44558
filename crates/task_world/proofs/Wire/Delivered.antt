-- A packet is delivered in a task world: to its node, or to an initiator.
use Rattle.sbp_world.proofs.Words.Std.{if◌then◌else◌, ◌≡◌, refl, sym, subst, ℕ, zero, suc, Bool, true, false, List, Option, Some, None}
use Rattle.sbp_world.proofs.Words.Wire.{Sent, found_sent, is_flying, Moment, terms}
use Rattle.rbc_disk.specs.Disk.{disk_at}
use Rattle.rbc_disk.specs.Runs.{Told}
use Rattle.sbp_world.proofs.Words.World.{arrived, initiator_received, OwnFittingLaw, BytesTold}
use Rattle.sbp_world.proofs.Wire.Arrivals.{Comes, zero_goes}
use Rattle.sbp_world.proofs.Wire.Comes.{to_suc, to_zero}
use Rattle.sbp_world.proofs.Wire.Holding.{KnownTo, known_small, target_has}
use Rattle.sbp_world.proofs.Wire.OwnHears.{of_known, ours, own_hears}
use Rattle.task_target.specs.Receiving.{received}
use Rattle.task_world.specs.Delivering.{at_node, at_other, delivered, delivered_by, received_at, received_by, received_step, task_received, whole_of}
use Rattle.task_world.specs.Fitting.{FittingLaw}
use Rattle.task_world.specs.Seats.{seat}
use Rattle.task_world.specs.Worlds.{TaskScene}
use Rattle.task_world.proofs.Wire.Holding.{TaskSound, lands_node, own_node, same_layer}
use Rattle.task_world.proofs.Wire.Seats.{retag_bare}

abbrev pub SoundScene : List Moment → ℕ → TaskScene → Type 0
SoundScene past lines s = TaskSound past lines s.scene.world s.node

module _ (nodes : FittingLaw) (initiators : OwnFittingLaw) {past : List Moment} {lines : ℕ} (s : TaskScene) (sound : SoundScene past lines s) (serial : ℕ) (again : Bool) (told : Option Told) (fits : BytesTold told) (repeats : (terms sound.own.stands.wire.past).repeats ≡ again) (flies : again ≡ false → is_flying serial s.scene.world.store.kept ≡ true) where
  comes : (sent : Sent) → found_sent serial s.scene.world.store.kept ≡ Some sent → Comes serial again sent s.scene.world sound.own.stands
  comes sent found = record { found = found; repeats = repeats; flies = flies }

  hears_node : (sent : Sent) → found_sent serial s.scene.world.store.kept ≡ Some sent → sent.to ≡ 0 → SoundScene past lines (delivered_by serial again (at_node sent.to (task_received told sent s.node s.scene.media) s))
  unfolding task_received arrived
  hears_node sent found zero_to =
      let w = s.scene.world in
      let h = sound.own.stands in
      let d = (nodes (target_has w.generations.seen)).deliveries told (disk_at s.scene.media.disks 0) sent.generation sent.bytes s.node (known_small w.generations.seen) sound.holds
      (record { bytes_fit = (ours w h serial sent found).bytes; told_fits = fits }) in
      let r = received told sent.generation sent.bytes (whole_of s.node s.scene.media) in
      lands_node w _ s.node r.1.node sound
      (zero_goes w h serial again sent (comes sent found) zero_to s.node.layer (same_layer w s.node sound) (KnownTo w.generations.seen) (of_known w h) r.0 r.1.node.layer r.1.outbox (seat r.1.node) (retag_bare r.1.node.layer)
      (record { delivers = d.delivers; plain = d.plain; small = d.small }))
      d.holds

  hears_other : (sent : Sent) → found_sent serial s.scene.world.store.kept ≡ Some sent → (i : ℕ) → sent.to ≡ suc i → SoundScene past lines (delivered_by serial again (at_other (initiator_received sent s.scene) s))
  hears_other sent found i to_is = own_node s.scene.world _ s.node sound (own_hears initiators s.scene sound.own serial again sent (comes sent found) i to_is)

  hears_at : (sent : Sent) → found_sent serial s.scene.world.store.kept ≡ Some sent → (to : ℕ) → sent.to ≡ to → SoundScene past lines (delivered_by serial again (received_at told sent s))
  hears_at sent found zero e =
      subst (λ b. SoundScene past lines (delivered_by serial again (if b then at_node sent.to (task_received told sent s.node s.scene.media) s else at_other (initiator_received sent s.scene) s))) (sym (to_zero sent.to e)) (hears_node sent found e)
  hears_at sent found (suc i) e =
      subst (λ b. SoundScene past lines (delivered_by serial again (if b then at_node sent.to (task_received told sent s.node s.scene.media) s else at_other (initiator_received sent s.scene) s))) (sym (to_suc sent.to i e)) (hears_other sent found i e)

  hears_by : (so : Option Sent) → found_sent serial s.scene.world.store.kept ≡ so → SoundScene past lines (delivered_by serial again (received_by told so s))
  hears_by None e = sound
  hears_by (Some sent) e = hears_at sent e sent.to refl

  pub hears : SoundScene past lines (delivered serial again told s)
  unfolding delivered received_step
  hears = hears_by (found_sent serial s.scene.world.store.kept) refl
