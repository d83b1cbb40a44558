-- A task node tells no note of its own.
use Rattle.sbp_world.proofs.Words.Std.{arith, refl, ℕ, Bool, true, false, cond, List, [], Option, Result, Ok, Err}
use Rattle.sbp_world.proofs.Words.Wire.{LabelParts, Packet, header_in, Stale, Layer, Finding, of_generation, of_grammar, of_label, of_response, of_again, of_request, expiring_step, judging_step, Judged, empty_outbox}
use Rattle.bus_transactions.proofs.FitJudged.{IsFoundAs, bytes_of, found_as, no_gives, not_complete, spelled}
use Rattle.rbc_disk.specs.Runs.{Told}
use Rattle.rbc_disk.specs.Disk.{Disk}
use Rattle.sbp_journal.specs.declared.cause.Cause.TheVariants as ignored
use Rattle.sbp_journal.specs.declared.cause.Judged.TheVariants as judged
use Rattle.sbp_world.proofs.FitTarget.Served.{empty_fits}
use Rattle.sbp_world.proofs.Wire.Effects.{AreOtherSides, IsOtherSide, more_others}
use Rattle.target_base.specs.Addresses.{address_error}
use Rattle.target_base.specs.Logins.{is_barred}
use Rattle.task_target.specs.declared.purpose.TaskPurpose.{TaskPurpose}
use Rattle.task_target.specs.Nodes.{TaskNode, scene}
use Rattle.task_target.specs.Receiving.{answer_in, expired, expired_in, judged_scene, received, received_as, with_layer}
use Rattle.task_target.specs.Replies.{Whole, scene_of, whole}
use Rattle.task_target.specs.Serving.{answered, request_step, serve}
use Rattle.task_world.specs.Fitting.{Holds, MayReceive}
use Rattle.task_world.proofs.Fit.Law.{answer_bytes, node_told, others_replied}
use Rattle.task_world.proofs.Fit.Pass.{In, Keeps, Said, fits_layer}
use Rattle.task_world.proofs.Fit.Served.{Answers, answers_at, concludes, serves, times_out}

abbrev others : Said
others layer packets told = AreOtherSides told

keeps : (known : ℕ → Type 0) → Keeps IsOtherSide known others
keeps known = record {
  leaves = record { node = node_told; tells = λ layer packets told side t h. more_others told side h t; disowns = λ layer packets told peer label n h. h };
  asks = λ layer packets told peer body purpose n f h. h;
}

answers : (p : Packet) (bytes : List ℕ) → Answers others others p bytes (λ rcode. true)
answers p bytes = record { answers = λ layer packets told rcode given t f h. h }

module _ (known : ℕ → Type 0) (told : Option Told) (disk : Disk) (generation : ℕ) (bytes : List ℕ) (node : TaskNode) (h : Holds known node) (may : MayReceive told bytes) where
  abbrev start : Whole
  start = with_layer (judging_step node.layer generation bytes).1 (whole (scene node empty_outbox) disk)

  calm : In known others (scene_of start)
  calm = record { made = tt; fits = fits_layer known node (judging_step node.layer generation bytes).1 h.fits }

  abbrev Tells : Judged × Whole → Type 0
  Tells r = AreOtherSides r.1.outbox.sides

  serves_if : (b : Bool) (p : Packet) → IsFoundAs node.layer generation bytes (of_request p) → Tells (judged_scene (cond b (judged.Ignored ignored.Login, answered p bytes address_error [] (scene_of start)) (judged.Got, serve p bytes (scene_of start))) start)
  serves_if true p r =
      (answers_at IsOtherSide known others others p bytes (λ rcode. true) (answers p bytes) address_error [] (scene_of start) refl (empty_fits p address_error (no_gives p address_error [] (not_complete 6)) (omega arith)) calm).made
  serves_if false p r =
      (serves IsOtherSide known others others p bytes (λ rcode. true) (answers p bytes) (λ rcode. refl) (keeps known).leaves (keeps known) (scene_of start) (bytes_of p bytes r.request.spelled may.bytes_fit) calm).made

  told_as : (f : Finding TaskPurpose) → IsFoundAs node.layer generation bytes f → Tells (received_as told bytes f start)
  unfolding request_step
  told_as of_generation r = tt
  told_as of_grammar r = tt
  told_as of_label r = tt
  told_as (of_response p label purpose) r =
      (concludes IsOtherSide known others (keeps known) told purpose (header_in p).source label (answer_in p) start (others_replied told purpose (header_in p).source label (answer_in p) start) may.told_fits
      (answer_bytes p (bytes_of p bytes (spelled bytes p r) may.bytes_fit)) calm).made
  told_as (of_again p rcode) r =
      (answers_at IsOtherSide known others others p bytes (λ rcode. true) (answers p bytes) rcode [] (scene_of start) refl r.1 calm).made
  told_as (of_request p) r = serves_if (is_barred start.node.logins p) p r

  pub receives_others : AreOtherSides (received told generation bytes (whole (scene node empty_outbox) disk)).1.outbox.sides
  unfolding received
  receives_others = told_as (judging_step node.layer generation bytes).0 (found_as node.layer generation bytes h.layer.filter)

module _ (known : ℕ → Type 0) (peer : ℕ) (label : LabelParts) (node : TaskNode) (h : Holds known node) where
  late_by : (r : Result (Option TaskPurpose) Stale × Layer TaskPurpose) → AreOtherSides (expired_in r peer label (scene node empty_outbox)).1.outbox.sides
  late_by (Ok purpose, layer) =
      (times_out IsOtherSide known others (keeps known) purpose peer label (scene (record node { layer = layer }) empty_outbox) (record { made = tt; fits = fits_layer known node layer h.fits })).made
  late_by (Err stale, layer) = tt

  pub expires_others : AreOtherSides (expired peer label (scene node empty_outbox)).1.outbox.sides
  unfolding expired
  expires_others = late_by (expiring_step node.layer peer label)
