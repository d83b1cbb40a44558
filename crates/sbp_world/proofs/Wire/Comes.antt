-- Which node a packet comes to.
use Rattle.sbp_world.proofs.Words.Std.{if◌then◌else◌, arith, ◌∙◌, ap}
use Rattle.sbp_world.proofs.Words.Wire.{Sent, found_sent, Moment, OutboxState}
use Rattle.sbp_world.proofs.Words.Target.{Told}
use Rattle.sbp_world.proofs.Words.World.{Arrival, at_none, at_target, delivered_by, initiator_received, initiators_received, received_at, received_by, received_step, target_received, Scene, Stands}
use Rattle.std.specs.Prelude.{◌≡◌, ◌≤◌, ◌<◌, ℕ, suc, ◌-◌, nat_eq, nat_lt, Bool, true, false, List, length, Option, Some}
use Rattle.sbp_world.specs.Delivering.{at_initiator}
use Rattle.sbp_world.proofs.Common.{is_inside}

pub received_is : (told : Option Told) (serial : ℕ) (s : Scene) (sent : Sent) → found_sent serial s.world.store.kept ≡ Some sent → received_step told serial s ≡ received_at told sent s
unfolding received_step
received_is told serial s sent e = ap (λ o. received_by told o s) e

pub to_zero : (n : ℕ) → n ≡ 0 → nat_eq n 0 ≡ true
to_zero n e = grind arith

pub to_suc : (n i : ℕ) → n ≡ suc i → nat_eq n 0 ≡ false
to_suc n i e = grind arith

is_outside : (m n : ℕ) → n ≤ m → nat_lt m n ≡ false
is_outside m n l = grind arith

pub own_at : ℕ → Sent → Scene → Option Arrival × (OutboxState × Scene)
own_at j sent s =
    if nat_lt j (length s.world.initiators) then at_initiator sent.to (initiators_received j sent s.world.initiators) s else at_none s

pub to_initiator : (told : Option Told) (serial i : ℕ) (s : Scene) (sent : Sent) → found_sent serial s.world.store.kept ≡ Some sent → sent.to ≡ suc i → received_step told serial s ≡ initiator_received sent s
to_initiator told serial i s sent found e =
    received_is told serial s sent found
    ∙ ap (λ b. if b then at_target sent.to (target_received told sent s.world.target s.media) s else initiator_received sent s) (to_suc sent.to i e)

pub own_is : (i : ℕ) (s : Scene) (sent : Sent) → sent.to ≡ suc i → initiator_received sent s ≡ own_at i sent s
unfolding own_at
own_is i s sent e = ap (λ j. own_at j sent s) (let x : sent.to - 1 ≡ i = omega arith in x)

pub to_own : (told : Option Told) (serial i : ℕ) (s : Scene) (sent : Sent) → found_sent serial s.world.store.kept ≡ Some sent → sent.to ≡ suc i → received_step told serial s ≡ own_at i sent s
to_own told serial i s sent found e = to_initiator told serial i s sent found e ∙ own_is i s sent e

pub own_inside : (sent : Sent) (i : ℕ) (s : Scene) → i < length s.world.initiators → own_at i sent s ≡ at_initiator sent.to (initiators_received i sent s.world.initiators) s
unfolding own_at
own_inside sent i s l =
    ap (λ b. if b then at_initiator sent.to (initiators_received i sent s.world.initiators) s else at_none s) (is_inside i (length s.world.initiators) l)

pub own_outside : (sent : Sent) (i : ℕ) (s : Scene) → length s.world.initiators ≤ i → own_at i sent s ≡ at_none s
unfolding own_at
own_outside sent i s l =
    ap (λ b. if b then at_initiator sent.to (initiators_received i sent s.world.initiators) s else at_none s) (is_outside i (length s.world.initiators) l)

pub none_after : (past : List Moment) (serial : ℕ) (again : Bool) (s : Scene) → Stands past s.world → Stands past (delivered_by serial again (at_none s)).world
none_after past serial again s h = h
