-- What the target does as it sees a generation, and as a second passes: nothing leaves it, and its layer is that of the sight.
use Rattle.sbp_world.proofs.Words.Std.{if◌then◌else◌, slice_index_or, ◌∙◌, ap}
use Rattle.sbp_world.proofs.Words.Wire.{Layer, disowning_step, seeing_step, CutCause, OutboxState, empty_outbox}
use Rattle.sbp_world.proofs.Words.Target.{Login, is_live, login_in, tick_step, Sent, Purpose, cut, disowned, told_cut, NodeState, Scene, scene, desk_at, login_at, cleared_node, expired_from, held_all, held_from, reset_by, seen, tell_held, ticked, with_side, cut_all, cut_at, cut_from, is_cut}
use Rattle.std.specs.Prelude.{◌≡◌, ℕ, zero, suc, ◌+◌, Bool, true, false, List, length, Option, Some, None, refl}
use Rattle.sbp_journal.specs.declared.cause.CutCause.TheVariants as cuts
use Rattle.sbp_journal.specs.declared.side.Side.TheVariants as sides
use Rattle.sbp_world.proofs.Wire.Forgets.{Forgets, IsSilent, forgets_if, silent_empty, silent_more}

pub record Stays (layer : Layer Purpose) (s : Scene) : Type 0 where
  pub layer_is : s.node.layer ≡ layer
  pub silent : IsSilent s.outbox

disowned_same : (layer : Layer Purpose) → Forgets layer → (sent : Option Sent) (l : Layer Purpose) → l ≡ layer → disowned sent l ≡ layer
disowned_same layer f None l e = e
disowned_same layer f (Some sent) l e = ap (λ (x : Layer Purpose). disowning_step x sent.peer sent.label) e ∙ f sent.peer sent.label

told_cut_silent : (b : Bool) (place : ℕ) (cause : CutCause) (outbox : OutboxState) → IsSilent outbox → IsSilent (told_cut b place cause outbox)
told_cut_silent true place cause outbox s = s
told_cut_silent false place cause outbox s = silent_more outbox (sides.Cut place cause) tt s

cut_stays : (layer : Layer Purpose) → Forgets layer → (cause : CutCause) (place : ℕ) (s : Scene) → Stays layer s → Stays layer (cut cause place s)
unfolding cut
cut_stays layer f cause place s h = record {
  layer_is = disowned_same layer f (desk_at s.node place).ahead (disowned (desk_at s.node place).main s.node.layer) (disowned_same layer f (desk_at s.node place).main s.node.layer h.layer_is);
  silent = told_cut_silent _ place cause s.outbox h.silent;
}

cut_if : (layer : Layer Purpose) → Forgets layer → (b : Bool) (cause : CutCause) (place : ℕ) (s : Scene) → Stays layer s → Stays layer (if b then cut cause place s else s)
cut_if layer f true cause place s h = cut_stays layer f cause place s h
cut_if layer f false cause place s h = h

cut_at_stays : (layer : Layer Purpose) → Forgets layer → (cause : CutCause) (unit : Option ℕ) (place : ℕ) (s : Scene) → Stays layer s → Stays layer (cut_at cause unit place s)
unfolding cut_at
cut_at_stays layer f cause unit place s h = cut_if layer f (is_cut unit (login_at s.node place)) cause place s h

cut_from_stays : (layer : Layer Purpose) → Forgets layer → (left place : ℕ) (cause : CutCause) (unit : Option ℕ) (s : Scene) → Stays layer s → Stays layer (cut_from left place cause unit s)
unfolding cut_from
cut_from_stays layer f zero place cause unit s h = h
cut_from_stays layer f (suc left) place cause unit s h = cut_from_stays layer f left (place + 1) cause unit (cut_at cause unit place s) (cut_at_stays layer f cause unit place s h)

held_one : (b : Bool) (login : ℕ) (outbox : OutboxState) → IsSilent outbox → IsSilent (if b then with_side outbox (sides.Held login) else outbox)
held_one true login outbox s = silent_more outbox (sides.Held login) tt s
held_one false login outbox s = s

tell_held_silent : (login : Option Login) (outbox : OutboxState) → IsSilent outbox → IsSilent (tell_held login outbox)
tell_held_silent None outbox s = s
tell_held_silent (Some login) outbox s = held_one (is_live login) login.login outbox s

held_from_silent : (left place : ℕ) (places : List (Option Login)) (outbox : OutboxState) → IsSilent outbox → IsSilent (held_from left place places outbox)
unfolding held_from
held_from_silent zero place places outbox s = s
held_from_silent (suc left) place places outbox s = held_from_silent left (place + 1) places (tell_held (login_in places place) outbox) (tell_held_silent (login_in places place) outbox s)

held_stays : (layer : Layer Purpose) (s : Scene) → Stays layer s → Stays layer (held_all s)
held_stays layer s h = record { layer_is = h.layer_is; silent = held_from_silent 8 0 s.node.logins.places s.outbox h.silent }

reset_stays : (b : Bool) (layer : Layer Purpose) (s : Scene) → (b ≡ true → Forgets layer) → IsSilent s.outbox → Stays layer (reset_by (b, layer) s).1
reset_stays false layer s f h = record { layer_is = refl; silent = h }
reset_stays true layer s f h =
    held_stays layer (cut_all cuts.Reset None (scene (cleared_node layer s.node) s.outbox))
    (cut_from_stays layer (f refl) 8 0 cuts.Reset None (scene (cleared_node layer s.node) s.outbox) (record { layer_is = refl; silent = h }))

pub seen_stays : (generation id : ℕ) (node : NodeState) → Stays (seeing_step node.layer generation id).1 (seen generation id (scene node empty_outbox)).1
unfolding seen
seen_stays generation id node =
    let r = seeing_step node.layer generation id in
    reset_stays r.0 r.1 (scene node empty_outbox) (forgets_if node.layer generation id) silent_empty

expired_silent : (left at : ℕ) (logins : List ℕ) (outbox : OutboxState) → IsSilent outbox → IsSilent (expired_from left at logins outbox)
unfolding expired_from
expired_silent zero at logins outbox s = s
expired_silent (suc left) at logins outbox s =
    expired_silent left (at + 1) logins (with_side outbox (sides.Expired (slice_index_or logins at 0))) (silent_more outbox (sides.Expired (slice_index_or logins at 0)) tt s)

pub ticked_stays : (node : NodeState) → Stays node.layer (ticked (scene node empty_outbox))
unfolding ticked
ticked_stays node =
    let r = tick_step node.logins in
    record { layer_is = refl; silent = expired_silent (length r.0) 0 r.0 empty_outbox silent_empty }
