-- A delivery of a world: the logins that were granted, the operation that is undecided, the writes in flight and the live logins go together. An operation that begins takes a
-- write from the bus; one that is decided grants one login at most, which is live then.
use Rattle.sbp_world.proofs.Words.Std.{arith, ◌≡◌, ◌∙◌, refl, sym, ap, subst, ℕ, zero, suc, ◌+◌, ◌*◌, ◌<◌, ◌≤◌, ◌&&◌, not, nat_eq, nat_lt, Bool, true, false, cond, List, length, Option, Some, None, slice_index_or, slice_set, nat_tests}
use Rattle.sbp_world.proofs.Words.Wire.{Finding, judging_step, Sent, found_sent, judged_note, Access, access_of, Judged, Side, OutboxState, empty_outbox, Moment}
use Rattle.sbp_world.proofs.Words.Target.{Disk, Told, NodeState, received}
use Rattle.sbp_world.proofs.Words.Initiator.{new_state, receive_step}
use Rattle.sbp_world.proofs.Words.Laws.{access_in, access_in_bytes, spelled_by}
use Rattle.sbp_world.proofs.Words.World.{Arrival, MayAt, MayReceive, MayTell, MayTold, arrived, at_target, delivered, delivered_by, initiator_received, initiators_received, marked, received_by, received_step, target_received, whole_of, with_initiators, handed_out, Scene, WorldState, with_note, with_target, entries, entries_of}
use Rattle.sbp_journal.specs.declared.cause.Judged.TheVariants as judgements
use Rattle.sbp_target.proofs.Histories.Found.{IsFound, found as found_as}
use Rattle.sbp_world.proofs.FitInitiator.Law.{fitting_law as own_fitting_law}
use Rattle.sbp_world.proofs.Wire.Comes.{own_inside, own_outside, received_is, to_own, to_zero}
use Rattle.sbp_world.proofs.Wire.OwnHears.{ours}
use Rattle.sbp_world.proofs.Wire.Holding.{own_has, target_small}
use Rattle.sbp_world.proofs.Wire.Nodes.{handed_alike, marked_alike}
use Rattle.sbp_world.proofs.Hosts.Hands.{target_tells}
use Rattle.sbp_world.proofs.Hosts.Layered.{receive_left}
use Rattle.sbp_world.proofs.Agents.Management.Holding.{Holding, marked_hist}
use Rattle.sbp_world.proofs.Agents.Peers.{found_leaves}
use Rattle.sbp_world.proofs.Agents.Seats.{Seats}
use Rattle.sbp_world.proofs.Pointers.Quiet.{receive_quiet, writes_in}
use Rattle.sbp_world.proofs.Lists.CountedLogins.{live_in}
use Rattle.sbp_world.proofs.Lists.DecisionsDue.{undecided}
use Rattle.sbp_world.proofs.Lists.EntryNotes.{granted, own_granted, target_granted}
use Rattle.sbp_world.proofs.Lists.GrantCalls.{IsDue, IsManageRequest, begins, delivery_due, rests, undecided_one}
use Rattle.sbp_world.proofs.Lists.GrantSides.{grants}
use Rattle.sbp_world.proofs.Lists.LiveTurns as turns
use Rattle.sbp_world.proofs.Lists.PendingWrites.{handed_most, is_out, marked_most, none_out, pending, quiet_outs}
use Rattle.sbp_world.proofs.Lists.PlacedOps.{manage_write}

-- what goes together, with room for so much more
pub record Moves (more : ℕ) (past : List Moment) (w v : WorldState) : Type 0 where
  pub few : 9 * granted past v + (8 * undecided v.target.manager.operation + 8 * pending v.store.kept) + live_in w.target.logins.places ≤ 9 * granted past w + (8 * undecided w.target.manager.operation + 8 * pending w.store.kept) + live_in v.target.logins.places + more

pub no_move : (past : List Moment) (w v : WorldState) → v ≡ w → Moves 0 past w v
no_move past w v e = subst (λ (u : WorldState). Moves 0 past w u) (sym e) (record { few = omega arith })

pub more_moves : (past : List Moment) (w v : WorldState) → Moves 0 past w v → Moves 8 past w v
more_moves past w v m = let few = m.few in record { few = omega (arith, few) }

-- the target is as it was, and nothing is granted
pub record IsAside (more : ℕ) (past : List Moment) (w v : WorldState) : Type 0 where
  pub target : v.target ≡ w.target
  pub same : granted past v ≡ granted past w
  pub most : pending v.store.kept ≤ pending w.store.kept + more

pub aside_none : (past : List Moment) (w v : WorldState) → IsAside 0 past w v → Moves 0 past w v
aside_none past w v a =
    let u = ap (λ (n : NodeState). undecided n.manager.operation) a.target in
    let l = ap (λ (n : NodeState). live_in n.logins.places) a.target in
    let same = a.same in
    let most = a.most in
    record { few = omega (arith, u, l, same, most) }

pub aside_one : (past : List Moment) (w v : WorldState) → IsAside 1 past w v → Moves 8 past w v
aside_one past w v a =
    let u = ap (λ (n : NodeState). undecided n.manager.operation) a.target in
    let l = ap (λ (n : NodeState). live_in n.logins.places) a.target in
    let same = a.same in
    let most = a.most in
    record { few = omega (arith, u, l, same, most) }

judged_none : (serial : ℕ) (judged : Judged) → entries_of (judged_note serial judged) ≡ 0
judged_none serial judgements.Got = refl
judged_none serial (judgements.Ignored cause) = refl

noted_granted : (past : List Moment) (serial : ℕ) (judged : Judged) (again : Bool) (w : WorldState) → granted past (with_note (judged_note serial judged) (marked serial again w)) ≡ granted past w
noted_granted past serial judged again w =
    let none = judged_none serial judged in
    let same = ap entries (marked_hist past serial again w) in
    omega (arith, none, same)

-- a delivery to the target
due_moves : (more : ℕ) (past : List Moment) (w v : WorldState) (generation : ℕ) (bytes : List ℕ) (told : List Side) (left : NodeState) (flying : ℕ) → granted past v ≡ grants told + granted past w → pending v.store.kept ≤ flying → flying ≤ pending w.store.kept → (IsManageRequest w.target generation bytes → 8 * flying + 8 ≤ 8 * pending w.store.kept + more) → v.target ≡ left → IsDue w.target generation bytes told left → Moves more past w v
due_moves more past w v generation bytes told left flying e p q frees node (rests l) =
    let u = ap (λ (n : NodeState). undecided n.manager.operation) node in
    let live = ap (λ (n : NodeState). live_in n.logins.places) node in
    record { few = omega (arith, e, p, q, u, live, l) }
due_moves more past w v generation bytes told left flying e p q frees node (begins r none same) =
    let u = ap (λ (n : NodeState). undecided n.manager.operation) node in
    let live = ap (λ (n : NodeState). live_in n.logins.places) node in
    let free = frees r in
    let one = undecided_one left.manager.operation in
    record { few = omega (arith, e, p, none, same, u, live, free, one) }

module _ (units ready : ℕ) (has : 0 < units) (start : List Disk) {past : List Moment} {lines : ℕ} (s : Scene) (h : Holding units ready start past lines s.world) (seats : Seats s.world) (serial : ℕ) (again : Bool) (run : Option Told) where
  abbrev w : WorldState
  w = s.world

  abbrev after_it : WorldState
  after_it = (delivered serial again run s).world

  -- so many writes may come in place of the one that is delivered
  abbrev Frees : ℕ → Type 0
  Frees more = (sent : Sent) → found_sent serial w.store.kept ≡ Some sent → is_out sent.from sent.bytes ≡ true → (u : WorldState) → u.store ≡ w.store → 8 * pending (marked serial again u).store.kept + 8 ≤ 8 * pending w.store.kept + more

  module _ (more : ℕ) (frees : Frees more) where
    module _ (sent : Sent) (found : found_sent serial w.store.kept ≡ Some sent) where
      -- a write of MANAGEMENT_AGENT is one that an initiator sent
      is_write : sent.to ≡ 0 → IsManageRequest w.target sent.generation sent.bytes → is_out sent.from sent.bytes ≡ true
      unfolding is_out
      is_write zero_to r =
          let layer = w.target.layer in
          let now = (judging_step layer sent.generation sent.bytes).1 in
          let read = (subst (λ (x : Finding _). IsFound x layer now sent.bytes) r.found (found_as layer sent.generation sent.bytes)).1.read in
          let m = manage_write r.orb (length w.target.rom) r.packet r.asks in
          let access : Access = record { is_lock = false; is_write = true; is_block = true; offset = m.offset; count = length m.payload; payload = m.payload } in
          let spelled : access_in_bytes sent.bytes ≡ Some access = ap (λ r. access_in (spelled_by r)) read ∙ ap access_of m.is in
          let leaves = found_leaves serial w.store.kept sent seats.leaves found in
          by (nat_eq sent.from 0) (writes_in (access_in_bytes sent.bytes)) (λ e. leaves (let z : sent.from ≡ 0 = grind (arith, nat_tests) in z) zero_to) (ap writes_in spelled)
        where
          by : (a b : Bool) → (a ≡ true → ⊥) → b ≡ true → (not a && b) ≡ true
          by true b apart e = absurd (apart refl)
          by false b apart e = e

      target_moves : sent.to ≡ 0 → MayTell run sent w.target s.media → Moves more past w after_it
      unfolding delivered target_received arrived
      target_moves zero_to may =
          let x = received run sent.generation sent.bytes (whole_of w.target s.media) in
          let one = with_target x.1.node w in
          let u = with_note (judged_note serial x.0) (marked serial again one) in
          let last_is : after_it ≡ handed_out 0 0 x.1.outbox u =
          ap (λ (y : Option Arrival × (OutboxState × Scene)). (delivered_by serial again y).world)
          (received_is run serial s sent found ∙ ap (λ b. cond b (at_target sent.to (target_received run sent w.target s.media) s) (initiator_received sent s)) (to_zero sent.to zero_to))
          ∙ ap (λ n. handed_out n 0 x.1.outbox u) zero_to in
          let v = handed_out 0 0 x.1.outbox u in
          let node : v.target ≡ x.1.node = (handed_alike 0 0 x.1.outbox u).target ∙ (marked_alike one serial again).target in
          let noted = noted_granted past serial x.0 again one in
          let told = target_granted past 0 0 x.1.outbox u (target_tells run sent w.target s.media may) in
          let sent_most = handed_most 0 0 x.1.outbox u in
          let none = none_out x.1.outbox.packets in
          let flying = pending (marked serial again one).store.kept in
          subst (Moves more past w) (sym last_is)
          (due_moves more past w v sent.generation sent.bytes x.1.outbox.sides x.1.node flying (told ∙ ap (λ n. grants x.1.outbox.sides + n) noted) (omega (arith, sent_most, none)) (marked_most serial again one)
          (λ r. frees sent found (is_write zero_to r) one refl) node
          (delivery_due w.target (turns.good units ready has start w h) (turns.keeps units ready has start w h) run s.media.disks sent.generation sent.bytes))

      own_moves : (i : ℕ) → sent.to ≡ suc i → i < length w.initiators → IsAside 0 past w after_it
      unfolding delivered initiators_received arrived
      own_moves i to_is inside =
          let old = slice_index_or w.initiators i (new_state 0 false) in
          let x = receive_step sent.generation sent.bytes empty_outbox old in
          let one = with_initiators (slice_set w.initiators i x.1.1) w in
          let u = with_note (judged_note serial x.0) (marked serial again one) in
          let last_is : after_it ≡ handed_out sent.to 0 x.1.0 u =
          ap (λ (y : Option Arrival × (OutboxState × Scene)). (delivered_by serial again y).world) (to_own run serial i s sent found to_is ∙ own_inside sent i s inside) in
          let a = handed_alike sent.to 0 x.1.0 u in
          let own = h.sound.nodes.own.holds i inside in
          let d = (own_fitting_law (own_has w.generations.seen i) (own_has w.generations.seen i)).deliveries sent.generation sent.bytes old (target_small w.generations.seen i) own (ours w h.sound.stands serial sent found).bytes in
          let quiet = quiet_outs sent.to x.1.0.packets (receive_quiet _ sent.generation sent.bytes old (target_small w.generations.seen i old.target own.fits.target_known) own.layer d.delivers) in
          let sent_most = handed_most sent.to 0 x.1.0 u in
          let most = marked_most serial again one in
          subst (IsAside 0 past w) (sym last_is) (record {
            target = a.target ∙ (marked_alike one serial again).target;
            same = own_granted past sent.to 0 x.1.0 u (receive_left sent.generation sent.bytes old).told ∙ noted_granted past serial x.0 again one;
            most = omega (arith, sent_most, quiet, most);
          })

      none_moves : (i : ℕ) → sent.to ≡ suc i → length w.initiators ≤ i → after_it ≡ w
      unfolding delivered
      none_moves i to_is outside = ap (λ (y : Option Arrival × (OutboxState × Scene)). (delivered_by serial again y).world) (to_own run serial i s sent found to_is ∙ own_outside sent i s outside)

      weaken : (v : WorldState) → Moves 0 past w v → Moves more past w v
      weaken v m = let few = m.few in record { few = omega (arith, few) }

      moves_at : (to : ℕ) → sent.to ≡ to → (sent.to ≡ 0 → MayTell run sent w.target s.media) → Moves more past w after_it
      moves_at zero e o = target_moves e (o e)
      moves_at (suc i) e o = by (nat_lt i (length w.initiators)) refl
        where
          by : (b : Bool) → nat_lt i (length w.initiators) ≡ b → Moves more past w after_it
          by true f = weaken after_it (aside_none past w after_it (own_moves i e (grind (arith, nat_tests))))
          by false f = weaken after_it (no_move past w after_it (none_moves i e (grind (arith, nat_tests))))

    moves_by : (found : Option Sent) → found_sent serial w.store.kept ≡ found → MayAt run found s → Moves more past w after_it
    unfolding delivered received_step
    moves_by None e m =
        let few = (no_move past w after_it (ap (λ o. (delivered_by serial again (received_by run o s)).world) e)).few in
        record { few = omega (arith, few) }
    moves_by (Some one) e m = moves_at one e one.to refl (λ z. subst (λ b. MayTold b run one s) (to_zero one.to z) m)

    pub delivery_moves : MayReceive run serial s → Moves more past w after_it
    unfolding MayReceive
    delivery_moves m = moves_by (found_sent serial w.store.kept) refl m
