-- A turn that leaves the target sends no packet of it: what initiators do, what is lost or injected, a reset, and the end of a line that settles.
use Rattle.sbp_world.proofs.Words.Std.{arith, ◌≡◌, ◌∙◌, refl, sym, ap, subst, ℕ, suc, ◌+◌, ◌-◌, nat_eq, nat_lt, Bool, true, false, cond, List, [], ◌∷◌, ◌++◌, map, length, Option, Some, None, slice_index_or, same_Some}
use Rattle.sbp_world.proofs.Words.Wire.{Kept, Sent, found_sent, Request, id_of, end_note, judged_note, no_node, no_packet, Action, Note, empty_outbox, Moment, said, Sending, terms}
use Rattle.sbp_world.proofs.Words.Initiator.{act_step, InitiatorState, Turn, new_state, expire_step, receive_step, see_step}
use Rattle.sbp_world.proofs.Words.World.{marked, handed_out, acted, acted_by, weight_in, handed_all, initiator_learns, reset_line, see_line, target_learns, told_seen, with_seen, at_initiator, initiator_expires, inject_line, injected, injected_to, is_in_flight, lose_line, lost, refused, timed_out, posted, WorldState, initiator_at, with_initiator, with_note}
use Rattle.sbp_journal.specs.declared.note.Note.TheVariants as notes
use Rattle.sbp_world.specs.Nodes as nodes
use Rattle.sbp_world.proofs.Agents.Management.Still.{hist}
use Rattle.sbp_world.proofs.Hosts.ActLeft.{act_left}
use Rattle.sbp_world.proofs.Hosts.Layered.{AreTame, expire_left, receive_left}
use Rattle.sbp_world.proofs.Hosts.PointSees.{see_left}
use Rattle.sbp_world.proofs.Hosts.Remaining.{gets_same, ignores_that_same, times_out_same}
use Rattle.sbp_world.proofs.Hosts.SentMoments.{sending as sending_of, sent_now}
use Rattle.sbp_world.proofs.Lists.Extends.{marked_fresh}
use Rattle.sbp_world.proofs.Lists.LiveTold.{AllAway, AwayFrom, IsAway, IsOwnPacket, hands_told, judged_away, none_told, one_told, posted_told}
use Rattle.sbp_world.proofs.Lists.TurnCalls.{NoneSent}
use Rattle.sbp_world.proofs.Common.{said_split as split}

-- ---- notes that are none of the target
module _ (i own : ℕ) (kept : List Kept) (serial : ℕ) (sending : Sending) (zero_from : sending.from ≡ 0) where
  abbrev WasSent : List Moment → Type 0
  WasSent ms = (terms ms).sent serial ≡ Some sending

  other_sent : (ms : List Moment) (s generation from to : ℕ) (bytes : List ℕ) → (from ≡ 0 → ⊥) → (b : Bool) → cond b (Some (sending_of ms s generation from to bytes)) ((terms ms).sent serial) ≡ Some sending → WasSent ms
  other_sent ms s generation from to bytes other true e = absurd (other (ap (λ (q : Sending). q.from) (same_Some (sending_of ms s generation from to bytes) sending e) ∙ zero_from))
  other_sent ms s generation from to bytes other false e = e

  one_none : (note : Note) (ms : List Moment) → IsAway i own kept note → WasSent (said note ∷ ms) → WasSent ms
  one_none (notes.Sent s generation from to bytes) ms a e = other_sent ms s generation from to bytes a (nat_eq serial s) (sym (ap (λ f. f serial) (sent_now ms s generation from to bytes)) ∙ e)
  one_none (notes.Got s) ms a e = sym (ap (λ f. f serial) (gets_same ((terms ms).sent s) s (terms ms)).sent) ∙ e
  one_none (notes.Ignored s cause) ms a e = sym (ap (λ f. f serial) (ignores_that_same ((terms ms).sent s) cause s (terms ms)).sent) ∙ e
  one_none (notes.TimedOut s) ms a e = sym (ap (λ f. f serial) (times_out_same _ (terms ms)).sent) ∙ e
  one_none note ms a e = e

  all_none : (ns : List Note) (ms : List Moment) → AllAway i own kept ns → WasSent (map said ns ++ ms) → WasSent ms
  all_none [] ms a e = e
  all_none (note ∷ ns) ms a e = all_none ns ms a.1 (one_none note (map said ns ++ ms) a.0 e)

module _ (past : List Moment) where
  pub away_none : (i own : ℕ) (kept : List Kept) (w v : WorldState) → AwayFrom i own kept w.fresh v.fresh → NoneSent past w v
  away_none i own kept w v a serial sending e zero_from =
      all_none i own kept serial sending zero_from a.more (hist past w) a.away
      (sym (ap (λ ms. (terms ms).sent serial) (ap (λ ns. map said ns ++ past) a.is ∙ split a.more w.fresh past)) ∙ e)

  pub same_none : (w : WorldState) → NoneSent past w w
  same_none w serial sending e zero_from = e

  -- a note alone
  note_none : (note : Note) (w : WorldState) → IsAway 0 0 [] note → NoneSent past w (with_note note w)
  note_none note w a = away_none 0 0 [] w (with_note note w) (one_told 0 0 [] w.fresh note w a (none_told 0 0 [] w.fresh))

  pub refuses_none : (line number : ℕ) (w : WorldState) → NoneSent past w (refused line number w)
  refuses_none line number w = note_none (notes.Refused line number) w tt

  pub end_none : (done : Bool) (w : WorldState) → NoneSent past w (with_note (end_note done) w)
  end_none true w = note_none (end_note true) w tt
  end_none false w = note_none (end_note false) w tt

  -- ---- an initiator acts
  acts_by : (w : WorldState) (line j : ℕ) (action : Action) (r : Option ℕ × Turn) → act_step action empty_outbox (initiator_at w j) ≡ r → NoneSent past w (acted_by r line j action w)
  acts_by w line j action (Some number, turn) e =
      away_none 0 0 [] w (refused line number (with_initiator j turn.1 w)) (one_told 0 0 [] w.fresh (notes.Refused line number) (with_initiator j turn.1 w) tt (none_told 0 0 [] w.fresh))
  acts_by w line j action (None, turn) e =
      let tame = subst (λ (r : Option ℕ × Turn). AreTame r.1.0.sides) e (act_left action (initiator_at w j) (ap (λ (r : Option ℕ × Turn). r.0) e)).told in
      away_none 0 0 [] w (handed_out (j + 1) (weight_in action) turn.0 (with_initiator j turn.1 w))
      (hands_told 0 0 [] w.fresh (j + 1) (weight_in action) turn.0 (with_initiator j turn.1 w) (λ z. absurd (omega (arith, z))) tame (none_told 0 0 [] w.fresh))

  pub acts_none : (line j : ℕ) (action : Action) (w : WorldState) → NoneSent past w (acted line j action w)
  unfolding acted
  acts_none line j action w = acts_by w line j action (act_step action empty_outbox (initiator_at w j)) refl

  -- ---- a packet is lost, or injected; the bus is reset
  pub loses_none : (w : WorldState) (line serial : ℕ) → NoneSent past w (lose_line line serial w)
  unfolding lose_line
  loses_none w line serial = by (is_in_flight serial w)
    where
      by : (b : Bool) → NoneSent past w (cond b (lost serial w) (refused line no_packet w))
      by true = away_none 0 0 [] w (lost serial w) (one_told 0 0 [] w.fresh (notes.Lost serial) w tt (none_told 0 0 [] w.fresh))
      by false = refuses_none line no_packet w

  injects_to : (w : WorldState) (line j : ℕ) (bytes : List ℕ) (to : Option ℕ) → NoneSent past w (injected to line (j + 1) bytes w)
  injects_to w line j bytes None = refuses_none line no_node w
  injects_to w line j bytes (Some to) = away_none 0 0 [] w (posted (j + 1) to true bytes w) (posted_told 0 0 [] w.fresh (j + 1) to true bytes w (λ z. absurd (omega (arith, z))) (none_told 0 0 [] w.fresh))

  pub injects_none : (w : WorldState) (line j : ℕ) (bytes : List ℕ) → NoneSent past w (inject_line line j bytes w)
  unfolding inject_line
  injects_none w line j bytes = injects_to w line j bytes (injected_to (j + 1) bytes w)

  pub resets_none : (w : WorldState) (physical : List ℕ) → NoneSent past w (reset_line physical w)
  unfolding reset_line
  resets_none w physical = away_none 0 0 [] w (reset_line physical w) (record { more = notes.Reset _ ∷ []; is = refl; away = (tt, tt) })

  -- ---- an initiator hears a packet
  pub hears_none : (serial i : ℕ) (again : Bool) (sent : Sent) (w : WorldState) → found_sent serial w.store.kept ≡ Some sent → sent.to ≡ suc i → (let x = receive_step sent.generation sent.bytes empty_outbox (slice_index_or w.initiators i (new_state 0 false)) in NoneSent past w (handed_out (suc i) 0 x.1.0 (with_note (judged_note serial x.0) (marked serial again (with_initiator i x.1.1 w)))))
  hears_none serial i again sent w found to_is =
      let x = receive_step sent.generation sent.bytes empty_outbox (slice_index_or w.initiators i (new_state 0 false)) in
      let one = with_initiator i x.1.1 w in
      let u = with_note (judged_note serial x.0) (marked serial again one) in
      let own : IsOwnPacket w.store.kept serial = record { sent = sent; found = found; j = i; to_is = to_is } in
      away_none 0 0 w.store.kept w (handed_out (suc i) 0 x.1.0 u)
      (hands_told 0 0 w.store.kept w.fresh (suc i) 0 x.1.0 u (λ z. absurd (omega (arith, z))) (receive_left sent.generation sent.bytes (slice_index_or w.initiators i (new_state 0 false))).told
      (record { more = judged_note serial x.0 ∷ []; is = ap (λ (ns : List Note). judged_note serial x.0 ∷ ns) (marked_fresh serial again one); away = (judged_away 0 0 w.store.kept serial x.0 own, tt) }))

  -- ---- a transaction of it times out
  module _ (line serial : ℕ) (request : Request) (w : WorldState) (other : request.node ≡ 0 → ⊥) where
    lapse_by : (j : ℕ) (r : Bool × Turn) → AreTame r.1.0.sides → NoneSent past w (timed_out line serial request.node (at_initiator j r w))
    lapse_by j (true, turn) tame =
        let one = with_initiator j turn.1 w in
        let u = with_note (notes.TimedOut serial) one in
        away_none 0 0 [] w (handed_out request.node 0 turn.0 u) (hands_told 0 0 [] w.fresh request.node 0 turn.0 u other tame (one_told 0 0 [] w.fresh (notes.TimedOut serial) one tt (none_told 0 0 [] w.fresh)))
    lapse_by j (false, turn) tame =
        away_none 0 0 [] w (refused line no_packet (with_initiator j turn.1 w)) (one_told 0 0 [] w.fresh (notes.Refused line no_packet) (with_initiator j turn.1 w) tt (none_told 0 0 [] w.fresh))

    pub lapses_none : NoneSent past w (timed_out line serial request.node (initiator_expires request w))
    lapses_none = by (nat_lt (request.node - 1) (length w.initiators))
      where
        old : InitiatorState
        old = initiator_at w (request.node - 1)

        by : (b : Bool) → NoneSent past w (timed_out line serial request.node (cond b (at_initiator (request.node - 1) (expire_step request.label empty_outbox old) w) (false, (empty_outbox, w))))
        by true = lapse_by (request.node - 1) (expire_step request.label empty_outbox old) (expire_left request.label old).told
        by false = refuses_none line no_packet w

  -- ---- it sees a generation
  pub sight_none : (w : WorldState) (i : ℕ) → NoneSent past w (see_line (suc i) w)
  unfolding see_line nodes.sees
  sight_none w i =
      let g = w.generations.latest in
      let one = with_seen (suc i) (told_seen (suc i) w) in
      let old = initiator_at one (suc i - 1) in
      let t = see_step g.generation (id_of g (suc i)) (id_of g 0) empty_outbox old in
      let two = with_initiator (suc i - 1) t.1 one in
      let other : nat_eq (suc i) 0 ≡ false = grind arith in
      subst (λ b. NoneSent past w (handed_all (suc i) (cond b (target_learns one) (initiator_learns (suc i) one)))) (sym other)
      (away_none i g.generation [] w (handed_out (suc i) 0 t.0 two)
      (hands_told i g.generation [] w.fresh (suc i) 0 t.0 two (λ z. absurd (omega (arith, z))) (see_left g.generation (id_of g (suc i)) (id_of g 0) old).told
      (one_told i g.generation [] w.fresh (notes.Seen (suc i) g.generation) w ((λ z. absurd (omega (arith, z))), (λ z. refl)) (none_told i g.generation [] w.fresh))))
