-- Each turn keeps what is carried of the logins of an initiator's node.
use Rattle.sbp_world.proofs.Words.Std.{arith, ◌≡◌, ◌∙◌, refl, sym, ap, subst, ◌⊎◌, inl, inr, ℕ, suc, ◌<◌, ◌≤◌, Bool, true, false, List, length, Option, Some, None}
use Rattle.sbp_world.proofs.Words.Wire.{judging_step, Sent, found_sent, empty_outbox, Note, Moment}
use Rattle.sbp_world.proofs.Words.Target.{is_live, Managed, Disk, NodeState, login_at, scene, received, whole}
use Rattle.sbp_world.proofs.Words.Initiator.{Running, InitiatorState, receive_step, Seat, is_stuck_seat}
use Rattle.sbp_world.proofs.Words.World.{WorldState, initiator_at, HasNone, IsCalmBeside, IsActive, IsTaken, IsTold}
use Rattle.sbp_world.proofs.Hosts.Hosted.{expires_fit, hears_fit}
use Rattle.sbp_world.proofs.Hosts.KnowHears.{IfFits}
use Rattle.sbp_session.specs.declared.seat.Seat.TheVariants as seats
use Rattle.sbp_target.proofs.Histories.Calling.{Good}
use Rattle.sbp_world.proofs.Agents.Management.Holding.{Holding}
use Rattle.sbp_world.proofs.Sessions.Caught.{is_in}
use Rattle.sbp_world.proofs.Lists.LiveActs.{Acted, act_acts, begins, idle, moves}
use Rattle.sbp_world.proofs.Lists.LiveAims.{Aims, acted_aims, aims_none, moved_aims}
use Rattle.sbp_world.proofs.Lists.LiveCalls.{HasLogins, HasOperation, delivery_logins, delivery_operation}
use Rattle.sbp_world.proofs.Lists.LiveHears.{IsAnswered, IsUndone, Never, Not, delivery_moved, lapse_moved}
use Rattle.sbp_world.proofs.Lists.LiveMoves.{IsLike, Moved, answers, ends, gives_up, like_same, rests, undoes}
use Rattle.sbp_world.proofs.Lists.LiveOwn.{Fit, GaveUp, in_hand, two_ways, up_like}
use Rattle.sbp_world.proofs.Lists.LiveOwnTurns.{After, acted_claims, acted_fit, moved_claims, moved_fit, reset_claims, reset_fit}
use Rattle.sbp_world.proofs.Lists.LiveStandings.{Claims, none_number, number_in, stand_of}
use Rattle.sbp_world.proofs.Lists.LiveSteps.{ClaimsOf, GaveUpOf, Helps, HelpsOwn, HelpsTarget, Knows, Lives, id_in, own_of, zero_of}
use Rattle.sbp_world.proofs.Lists.LiveTargets.{delivery_claims, sighted_claims, still_claims}
use Rattle.sbp_world.proofs.Lists.LiveTold.{HeardFirst, TargetTold}
use Rattle.sbp_world.proofs.Lists.LiveTurns.{IsCleared, IsSighted, OwnCall, SameBus, TargetCall, TurnOf, acts, by_clearing, by_own, by_sight, by_target, delivers, good, hears, keeps, lapses, still}
use Rattle.sbp_world.proofs.Lists.LiveTurns as turns

-- a session that stands in, and is not stuck, is live or is being left
in_seat : (seat : Seat) (number : ℕ) → is_stuck_seat seat ≡ false → number_in (stand_of seat) ≡ Some number → is_in seat ≡ true
in_seat (seats.Out out) number f e = none_number number e
in_seat (seats.Entering entering) number f e = none_number number e
in_seat (seats.Live live) number f e = refl
in_seat (seats.Held response) number f e = none_number number e
in_seat (seats.Returning response) number f e = none_number number e
in_seat (seats.Leaving response) number f e = refl
in_seat (seats.Stuck origin) number f e = absurd (let no : true ≡ false = f in cc)

module _ (units ready : ℕ) (has : 0 < units) (start : List Disk) (is_ready : Bool) {past : List Moment} {lines : ℕ} (w : WorldState) (h : Holding units ready start past lines w) (base : List Note) (before now : List Moment) (v : WorldState) (i : ℕ) (inside : i < length w.initiators) (k : Knows is_ready before w i) (seen_now : is_in (initiator_at v i).seat ≡ true → own_of v i ≤ zero_of v) (live : Lives start before w i) where
  abbrev s : InitiatorState
  s = initiator_at w i

  abbrev t : InitiatorState
  t = initiator_at v i

  abbrev Up : Type 0
  Up = GaveUpOf v i

  -- ---- the target is called, and the initiator stays
  module _ (bus : SameBus i w v) (same : t ≡ s) where
    stay_seen : (number : ℕ) → number_in (stand_of t.seat) ≡ Some number → Up ⊎ (own_of v i ≤ zero_of v)
    stay_seen number e = by (live.seen number (ap (λ (x : InitiatorState). number_in (stand_of x.seat)) (sym same) ∙ e))
      where
        by : GaveUpOf w i ⊎ (own_of w i ≤ zero_of w) → Up ⊎ (own_of v i ≤ zero_of v)
        by (inl g) = inl (subst (λ (x : InitiatorState). GaveUp x.operation x.seat) (sym same) g)
        by (inr l) = inr (let a = bus.zero in let b = bus.own in omega (arith, l, a, b))

    stay_fit : Fit t.operation t.seat
    stay_fit = subst (λ (x : InitiatorState). Fit x.operation x.seat) (sym same) live.fit

    module _ (call : TargetCall w base v.fresh v.target) (calm : IsCalmBeside before i) (together : zero_of w ≡ own_of w i) (help : HelpsTarget start base before now w v i) where
      abbrev Now : NodeState → Type 0
      Now node = Claims (IsTaken start now i) (IsActive start now i) (IsTold start now i) (stand_of s.seat) (id_in w i) node.manager node.logins.places

      called_by : TargetCall w base v.fresh v.target → ClaimsOf start before w i → Now v.target
      called_by (still x t) c =
          still_claims (id_in w i) (IsTaken start before i) (IsActive start before i) (IsTaken start now i) (IsActive start now i) (IsTold start before i) (IsTold start now i) (stand_of s.seat) w.target v.target c help.on help.back x help.waits
      called_by (delivers serial sent found zero_to told disks is t first) c =
          let d = help.delivery serial sent (record { found = found; to_is = zero_to; told = told; disks = disks; is = is; notes = t; first = first }) in
          let node = (received told sent.generation sent.bytes (whole (scene w.target empty_outbox) disks)).1.node in
          let g : Good w.target = good units ready has start w h in
          let one : HasLogins w.target sent.generation sent.bytes v.target.logins = subst (λ (n : NodeState). HasLogins w.target sent.generation sent.bytes n.logins) (sym is) (delivery_logins w.target g (keeps units ready has start w h) sent.generation sent.bytes told disks) in
          let all : (op : Managed) → v.target.manager.operation ≡ Some op → HasOperation w.target sent.generation sent.bytes v.target op =
          subst (λ (n : NodeState). (op : Managed) → n.manager.operation ≡ Some op → HasOperation w.target sent.generation sent.bytes n op) (sym is) (λ op f. delivery_operation w.target g (keeps units ready has start w h) sent.generation sent.bytes told disks op f) in
          delivery_claims (id_in w i) (IsTaken start before i) (IsActive start before i) (IsTaken start now i) (IsActive start now i) (IsTold start before i) (IsTold start now i) (stand_of s.seat) w.target v.target c help.on help.back sent.generation sent.bytes g.table d.begins d.mine d.silent help.waits one all

      helped_claims : ClaimsOf start before w i → GaveUpOf v i ⊎ ClaimsOf start now v i
      helped_claims c =
          inr (subst (λ id. Claims (IsTaken start now i) (IsActive start now i) (IsTold start now i) (stand_of t.seat) id v.target.manager v.target.logins.places) (sym bus.id)
          (subst (λ (x : InitiatorState). Claims (IsTaken start now i) (IsActive start now i) (IsTold start now i) (stand_of x.seat) (id_in w i) v.target.manager v.target.logins.places) (sym same) (called_by call c)))

    stays_up : GaveUpOf w i → GaveUpOf v i
    stays_up g = subst (λ (x : InitiatorState). GaveUp x.operation x.seat) (sym same) g

    target_claims : TargetCall w base v.fresh v.target → IsCalmBeside before i → zero_of w ≡ own_of w i → ((GaveUpOf w i → ⊥) → HelpsTarget start base before now w v i) → GaveUpOf w i ⊎ ClaimsOf start before w i → GaveUpOf v i ⊎ ClaimsOf start now v i
    target_claims call calm together help (inl g) = inl (stays_up g)
    target_claims call calm together help (inr c) = by (is_stuck_seat s.seat) refl (in_hand s.operation) refl
      where
        by : (b : Bool) → is_stuck_seat s.seat ≡ b → (d : Bool) → in_hand s.operation ≡ d → GaveUpOf v i ⊎ ClaimsOf start now v i
        by true e false f = inl (stays_up (record { stuck = e; none = f }))
        by true e true f = helped_claims call calm together (help (λ g. two_ways (in_hand s.operation) f g.none)) c
        by false e d f = helped_claims call calm together (help (λ g. two_ways (is_stuck_seat s.seat) g.stuck e)) c

  -- ---- the target sees a later generation
  module _ (c : IsCleared i w v) (same : t ≡ s) where
    cleared_fit : Fit t.operation t.seat
    cleared_fit = subst (λ (x : InitiatorState). Fit x.operation x.seat) (sym same) live.fit

    cleared_seen : (number : ℕ) → number_in (stand_of t.seat) ≡ Some number → Up ⊎ (own_of v i ≤ zero_of v)
    cleared_seen number e = by (live.seen number (ap (λ (x : InitiatorState). number_in (stand_of x.seat)) (sym same) ∙ e))
      where
        by : GaveUpOf w i ⊎ (own_of w i ≤ zero_of w) → Up ⊎ (own_of v i ≤ zero_of v)
        by (inl g) = inl (subst (λ (x : InitiatorState). GaveUp x.operation x.seat) (sym same) g)
        by (inr l) = inr (let a = c.later in let b = c.own in omega (arith, l, a, b))

    cleared_none : HasNone v.target.logins.places (id_in v i)
    cleared_none = record { none = λ p login e l n. differ (is_live login) l (c.held p login e) }
      where
        differ : (b : Bool) → b ≡ true → b ≡ false → ⊥
        differ true e f = (let no : true ≡ false = f in cc)
        differ false e f = (let no : false ≡ true = e in cc)

    cleared_claims : zero_of v ≡ own_of v i → GaveUpOf v i ⊎ ClaimsOf start now v i
    cleared_claims together = by (number_in (stand_of t.seat)) refl
      where
        by : (o : Option ℕ) → number_in (stand_of t.seat) ≡ o → GaveUpOf v i ⊎ ClaimsOf start now v i
        by None e = inr (sighted_claims (id_in v i) (IsTaken start now i) (IsActive start now i) (IsTold start now i) (stand_of t.seat) v.target.manager v.target.logins.places e cleared_none)
        by (Some number) e = with_seen (live.seen number (ap (λ (x : InitiatorState). number_in (stand_of x.seat)) (sym same) ∙ e))
          where
            with_seen : GaveUpOf w i ⊎ (own_of w i ≤ zero_of w) → GaveUpOf v i ⊎ ClaimsOf start now v i
            with_seen (inl g) = inl (subst (λ (x : InitiatorState). GaveUp x.operation x.seat) (sym same) g)
            with_seen (inr l) = absurd (let a = c.later in let b = c.own in omega (arith, l, a, b, together))

  -- ---- the initiator sees a later generation
  module _ (c : IsSighted i w v) (same : v.target ≡ w.target) where
    sight_none : zero_of v ≡ own_of v i → HasNone v.target.logins.places (id_in v i)
    sight_none together = record {
      none = λ p login e l n.
          let a = k.caught p login (ap (λ (x : NodeState). login_at x p) (sym same) ∙ e) l (n ∙ c.id) in
          let b = c.zero in
          let d = c.later in
          absurd (omega (arith, a, b, d, together));
    }

    sight_claims : zero_of v ≡ own_of v i → GaveUpOf v i ⊎ ClaimsOf start now v i
    sight_claims together = reset_claims (id_in v i) v.target.manager v.target.logins.places (IsTaken start before i) (IsActive start before i) (IsTaken start now i) (IsActive start now i) (IsTold start before i) (IsTold start now i) t.operation t.seat c.reset (sight_none together)

    sight_seen : (number : ℕ) → number_in (stand_of t.seat) ≡ Some number → Up ⊎ (own_of v i ≤ zero_of v)
    sight_seen number e = none_number number (sym (ap number_in c.reset.out) ∙ e)

  -- ---- the initiator is called
  module _ (bus : SameBus i w v) (same : v.target ≡ w.target) where
    -- where it is not stuck, what is known of live sessions says it
    free_seen : is_stuck_seat t.seat ≡ false → (number : ℕ) → number_in (stand_of t.seat) ≡ Some number → Up ⊎ (own_of v i ≤ zero_of v)
    free_seen f number e = inr (seen_now (in_seat t.seat number f e))

    none_up : t.operation ≡ None → is_stuck_seat t.seat ≡ true → Up
    none_up e f = record { stuck = f; none = ap in_hand e }

    like_seen : t.operation ≡ s.operation → IsLike s.seat t.seat → (number : ℕ) → number_in (stand_of t.seat) ≡ Some number → Up ⊎ (own_of v i ≤ zero_of v)
    like_seen e l number n = by (live.seen number (ap number_in (sym l.stand) ∙ n))
      where
        by : GaveUpOf w i ⊎ (own_of w i ≤ zero_of w) → Up ⊎ (own_of v i ≤ zero_of v)
        by (inl g) = inl (up_like s.operation t.operation s.seat t.seat e l g)
        by (inr m) = inr (let a = bus.zero in let b = bus.own in omega (arith, m, a, b))

    ended_seen : t.operation ≡ None → (number : ℕ) → number_in (stand_of t.seat) ≡ Some number → Up ⊎ (own_of v i ≤ zero_of v)
    ended_seen e number n = by (is_stuck_seat t.seat) refl
      where
        by : (b : Bool) → is_stuck_seat t.seat ≡ b → Up ⊎ (own_of v i ≤ zero_of v)
        by true f = inl (none_up e f)
        by false f = free_seen f number n

    moved_seen : {Answered : Running → ℕ → Type 0} {Undone : Running → Type 0} → Moved s Answered Undone t.operation t.seat → (number : ℕ) → number_in (stand_of t.seat) ≡ Some number → Up ⊎ (own_of v i ≤ zero_of v)
    moved_seen (rests e l) number n = like_seen e l number n
    moved_seen (gives_up e f) number n = inl (none_up e f)
    moved_seen (ends running is m e x) number n = ended_seen e number n
    moved_seen (answers running status is m a e x) number n = ended_seen e number n
    moved_seen (undoes running is m a e x) number n = ended_seen e number n

    acted_seen : Acted s t.operation t.seat → (number : ℕ) → number_in (stand_of t.seat) ≡ Some number → Up ⊎ (own_of v i ≤ zero_of v)
    acted_seen (idle e l) number n = like_seen e l number n
    acted_seen (begins running none free e m x) number n = free_seen (ap is_stuck_seat x ∙ free) number n
    acted_seen (moves running none free e stuck sends) number n = free_seen stuck number n

    -- what is known of the node
    abbrev Own : Type 0
    Own = After (id_in w i) w.target.manager w.target.logins.places (IsTaken start before i) (IsActive start before i) (IsTaken start now i) (IsActive start now i) (IsTold start before i) (IsTold start now i) t.operation t.seat

    as_now : Own → GaveUpOf v i ⊎ ClaimsOf start now v i
    as_now (inl g) = inl g
    as_now (inr c) =
        inr (subst (λ id. Claims (IsTaken start now i) (IsActive start now i) (IsTold start now i) (stand_of t.seat) id v.target.manager v.target.logins.places) (sym bus.id)
        (subst (λ (x : NodeState). Claims (IsTaken start now i) (IsActive start now i) (IsTold start now i) (stand_of t.seat) (id_in w i) x.manager x.logins.places) (sym same) c))

    -- ---- by what it is called
    record Kept : Type 0 where
      fit : Fit t.operation t.seat
      aims : Aims t.operation (stand_of t.seat)
      seen : (number : ℕ) → number_in (stand_of t.seat) ≡ Some number → Up ⊎ (own_of v i ≤ zero_of v)
      claims : HelpsOwn start base before now w v i → GaveUpOf w i ⊎ ClaimsOf start before w i → GaveUpOf v i ⊎ ClaimsOf start now v i

    module _ (serial : ℕ) (sent : Sent) (found : found_sent serial w.store.kept ≡ Some sent) (to_is : sent.to ≡ suc i) (is : t ≡ (receive_step sent.generation sent.bytes empty_outbox s).1.1) (first : HeardFirst serial (receive_step sent.generation sent.bytes empty_outbox s).0 base v.fresh) where
      fits : IfFits (judging_step s.layer sent.generation sent.bytes).0 s
      fits = hears_fit is_ready i s k.cored.own.called sent.generation sent.bytes

      abbrev A : Running → ℕ → Type 0
      A = IsAnswered s sent.generation sent.bytes

      abbrev U : Running → Type 0
      U = IsUndone s sent.generation sent.bytes

      heard : Moved s A U t.operation t.seat
      heard = subst (λ (x : InitiatorState). Moved s A U x.operation x.seat) (sym is) (delivery_moved s sent.generation sent.bytes fits)

      heard_kept : Kept
      heard_kept = record {
        fit = moved_fit s live.fit k.cored.sits A U t.operation t.seat heard;
        aims = moved_aims s live.aims A U t.operation t.seat heard;
        seen = moved_seen heard;
        claims = λ help before_claims.
            let x = help.hearing serial sent found to_is first in
            as_now (moved_claims (id_in w i) w.target.manager w.target.logins.places (IsTaken start before i) (IsActive start before i) (IsTaken start now i) (IsActive start now i) (IsTold start before i) (IsTold start now i) s live.fit k.cored.sits A U
            (λ running status e a. let p = x.pend running status e a in record { orb = p.orb; bytes = p.bytes; tells = p.tells; good = p.good }) x.grant_in x.grant_back x.refused t.operation t.seat heard help.carried before_claims);
      }

    lapsed_kept : Moved s (Never s) (Not s) t.operation t.seat → Kept
    lapsed_kept m = record {
      fit = moved_fit s live.fit k.cored.sits (Never s) (Not s) t.operation t.seat m;
      aims = moved_aims s live.aims (Never s) (Not s) t.operation t.seat m;
      seen = moved_seen m;
      claims = λ help before_claims.
          as_now (moved_claims (id_in w i) w.target.manager w.target.logins.places (IsTaken start before i) (IsActive start before i) (IsTaken start now i) (IsActive start now i) (IsTold start before i) (IsTold start now i) s live.fit k.cored.sits (Never s) (Not s)
          (λ running status e a. absurd a) (λ running e a. absurd a) (λ running e a. absurd a) (λ running e a. absurd a) t.operation t.seat m help.carried before_claims);
    }

    acts_kept : Acted s t.operation t.seat → Kept
    acts_kept m = record {
      fit = acted_fit s live.fit t.operation t.seat m;
      aims = acted_aims s live.aims t.operation t.seat m;
      seen = acted_seen m;
      claims = λ help before_claims.
          as_now (acted_claims (id_in w i) w.target.manager w.target.logins.places (IsTaken start before i) (IsActive start before i) (IsTaken start now i) (IsActive start now i) (IsTold start before i) (IsTold start now i) s live.fit t.operation t.seat
          help.begun help.silent m help.carried before_claims);
    }

    own_kept : OwnCall w i base v.fresh t → Kept
    own_kept (turns.rests e x) = lapsed_kept (rests e (like_same s.seat t.seat x))
    own_kept (hears serial sent found to_is is first) = heard_kept serial sent found to_is is first
    own_kept (lapses label is) =
        lapsed_kept (subst (λ (x : InitiatorState). Moved s (Never s) (Not s) x.operation x.seat) (sym is) (lapse_moved s label (expires_fit is_ready i s k.cored.own.called label)))
    own_kept (acts action is) = acts_kept (subst (λ (x : InitiatorState). Acted s x.operation x.seat) (sym is) (act_acts action s))

  -- ---- a turn
  module _ (calm : IsCalmBeside now i → IsCalmBeside before i) (help : IsCalmBeside now i → zero_of v ≡ own_of v i → zero_of w ≡ own_of w i → Helps start base before now w v i) where
    was_together : SameBus i w v → zero_of v ≡ own_of v i → zero_of w ≡ own_of w i
    was_together bus e = sym bus.zero ∙ e ∙ bus.own

    told_by : TargetCall w base v.fresh v.target → TargetTold base v.fresh
    told_by (delivers serial sent found zero_to told disks is t first) = t
    told_by (still x t) = t

    pub turn_kept : TurnOf i w base v → Lives start now v i
    turn_kept (by_target bus same call) = record {
      fit = stay_fit bus same;
      aims = subst (λ (x : InitiatorState). Aims x.operation (stand_of x.seat)) (sym same) live.aims;
      seen = stay_seen bus same;
      claims = λ c e.
          let was = was_together bus e in
          target_claims bus same call (calm c) was ((help c e was).target bus same (told_by call)) (live.claims (calm c) was);
    }
    turn_kept (by_clearing c same told) = record { fit = cleared_fit c same; aims = subst (λ (x : InitiatorState). Aims x.operation (stand_of x.seat)) (sym same) live.aims; seen = cleared_seen c same; claims = λ m e. cleared_claims c same e }
    turn_kept (by_own bus same call away) =
        let x = own_kept bus same call in
        record {
          fit = x.fit;
          aims = x.aims;
          seen = x.seen;
          claims = λ c e. let was = was_together bus e in x.claims ((help c e was).own bus same away) (live.claims (calm c) was);
        }
    turn_kept (by_sight c same away) = record { fit = reset_fit t.operation t.seat c.reset; aims = aims_none t.operation (stand_of t.seat) c.reset.none; seen = sight_seen c same; claims = λ m e. sight_claims c same e }
