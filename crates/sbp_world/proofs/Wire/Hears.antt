-- A packet is delivered, and a transaction times out, in a world whose nodes know whom they ask.
use Rattle.sbp_world.proofs.Words.Std.{if◌then◌else◌, arith, sym, subst}
use Rattle.sbp_world.proofs.Words.Wire.{header_in, expiring_step, Sent, found_sent, is_flying, Moment, terms, Request, no_packet, find}
use Rattle.sbp_world.proofs.Words.Target.{Told}
use Rattle.sbp_world.proofs.Words.World.{delivered, initiator_received, expires, initiator_expires, target_expired, timed_out, timeout_line, timeout_of, WorldState, Scene, with_target, OwnFittingLaw, BytesTold, Holds, FittingLaw}
use Rattle.std.specs.Prelude.{◌≡◌, ℕ, zero, suc, nat_eq, Bool, true, false, List, Option, Some, None, refl}
use Rattle.sbp_world.specs.Packets.{at_target}
use Rattle.sbp_world.proofs.Wire.Bus.{refuses}
use Rattle.sbp_world.proofs.Wire.Holding.{own_sound, own_then, KnownTo, Sound, target_has, known_small, lands_sound, with_target_holds}
use Rattle.sbp_world.proofs.Wire.Received.{target_does, target_goes}
use Rattle.sbp_world.proofs.Wire.Arrivals.{Comes, delivered_as, none_at}
use Rattle.sbp_world.proofs.Wire.TimeOuts.{target_after, target_kept, target_lapses}
use Rattle.sbp_world.proofs.Wire.Comes.{to_initiator}
use Rattle.sbp_world.proofs.Wire.OwnHears.{of_known, ours, own_hears, own_times_out, source_known, to_known}

module _ (targets : FittingLaw) (initiators : OwnFittingLaw) where
  -- ---- a delivery
  module _ {past : List Moment} {lines : ℕ} (s : Scene) (sound : Sound past lines s.world) (serial : ℕ) (again : Bool) (told : Option Told) (fits : BytesTold told) (repeats : (terms sound.stands.wire.past).repeats ≡ again) (flies : again ≡ false → is_flying serial s.world.store.kept ≡ true) where
    comes : (sent : Sent) → found_sent serial s.world.store.kept ≡ Some sent → Comes serial again sent s.world sound.stands
    comes sent found = record { found = found; repeats = repeats; flies = flies }

    hears_target : (sent : Sent) → found_sent serial s.world.store.kept ≡ Some sent → sent.to ≡ 0 → Sound past lines (delivered serial again told s).world
    hears_target sent found zero_to =
        let w = s.world in
        let d = (targets (target_has w.generations.seen) (target_has w.generations.seen)).deliveries told s.media.disks sent.generation sent.bytes w.target (known_small w.generations.seen) sound.nodes.target_holds
        (record { bytes_fit = (ours w sound.stands serial sent found).bytes; source = λ g p read. to_known w sound.stands (header_in p).source (source_known w sound.stands serial sent found g p read); told_fits = fits }) in
        let r = target_does s sound.stands serial again told sent (comes sent found) in
        lands_sound (with_target r.1.node w) (delivered serial again told s).world
        (target_goes s sound.stands serial again told sent (comes sent found) (KnownTo w.generations.seen) (of_known w sound.stands) zero_to (record { delivers = d.delivers; plain = d.plain; small = d.small }))
        (with_target_holds w lines r.1.node d.holds sound.nodes)

    hears_at : (sent : Sent) → found_sent serial s.world.store.kept ≡ Some sent → (to : ℕ) → sent.to ≡ to → Sound past lines (delivered serial again told s).world
    hears_at sent found zero e = hears_target sent found e
    hears_at sent found (suc i) e =
        delivered_as (Sound past lines) serial again told s (initiator_received sent s) (to_initiator told serial i s sent found e)
        (own_then s.world _ sound.nodes (own_hears initiators s (own_sound sound) serial again sent (comes sent found) i e))

    hears_by : (so : Option Sent) → found_sent serial s.world.store.kept ≡ so → Sound past lines (delivered serial again told s).world
    hears_by None e = lands_sound s.world (delivered serial again told s).world (none_at s sound.stands serial again told e) sound.nodes
    hears_by (Some sent) e = hears_at sent e sent.to refl

    pub hears : Sound past lines (delivered serial again told s).world
    hears = hears_by (found_sent serial s.world.store.kept) refl

  -- ---- a time-out
  module _ {past : List Moment} {lines : ℕ} (w : WorldState) (sound : Sound past lines w) (line serial : ℕ) (request : Request) (found : find w.requests serial ≡ Some request) where
    lapses_target : request.node ≡ 0 → Sound past lines (timed_out line serial request.node (at_target (target_expired request w.target) w))
    lapses_target zero_is =
        let d = (targets (target_has w.generations.seen) (target_has w.generations.seen)).expiries request.peer request.label w.target (known_small w.generations.seen) sound.nodes.target_holds in
        let after = target_after w sound.stands line serial request found zero_is (KnownTo w.generations.seen) (of_known w sound.stands) (expiring_step w.target.layer request.peer request.label) in
        lands_sound (with_target after w) (timed_out line serial request.node (at_target (target_expired request w.target) w))
        (target_lapses w sound.stands line serial request found zero_is (KnownTo w.generations.seen) (of_known w sound.stands) (record { expires = d.expires; plain = d.plain; small = d.small }))
        (with_target_holds w lines after (target_kept w sound.stands line serial request found zero_is (KnownTo w.generations.seen) (of_known w sound.stands) (Holds (KnownTo w.generations.seen)) sound.nodes.target_holds d.holds) sound.nodes)

    lapses_at : (node : ℕ) → request.node ≡ node → Sound past lines (timed_out line serial request.node (expires request w))
    unfolding expires
    lapses_at zero e =
        subst (λ b. Sound past lines (timed_out line serial request.node (if b then at_target (target_expired request w.target) w else initiator_expires request w))) (sym (let x : nat_eq request.node 0 ≡ true = grind arith in x)) (lapses_target e)
    lapses_at (suc i) e =
        subst (λ b. Sound past lines (timed_out line serial request.node (if b then at_target (target_expired request w.target) w else initiator_expires request w))) (sym (let x : nat_eq request.node 0 ≡ false = grind arith in x))
        (own_then w _ sound.nodes (own_times_out initiators w (own_sound sound) line serial request found i e))

    lapses : Sound past lines (timed_out line serial request.node (expires request w))
    lapses = lapses_at request.node refl

  lapses_by : {past : List Moment} {lines : ℕ} (w : WorldState) (sound : Sound past lines w) (line serial : ℕ) (o : Option Request) → find w.requests serial ≡ o → Sound past lines (timeout_of o line serial w)
  lapses_by {past} w sound line serial None e = record { stands = refuses past w line no_packet sound.stands; nodes = sound.nodes }
  lapses_by w sound line serial (Some request) e = lapses w sound line serial request e

  pub times_out_line : {past : List Moment} {lines : ℕ} (w : WorldState) → Sound past lines w → (line serial : ℕ) → Sound past lines (timeout_line line serial w)
  unfolding timeout_line
  times_out_line w sound line serial = lapses_by w sound line serial (find w.requests serial) refl
