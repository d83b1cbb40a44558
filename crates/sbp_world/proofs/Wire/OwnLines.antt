-- The lines of a world with a target of any kind that no node but an initiator has to do with.
use Rattle.sbp_world.proofs.Words.Std.{if◌then◌else◌, slice_set, arith, sym, ◌∙◌, ap, subst, set-get_or}
use Rattle.sbp_world.proofs.Words.Wire.{bare, AreSmall, is_reset, ArePlainSides, IsAsking, Moment, asked, said, empty_outbox, Action, Event, id_of, topology_at, no_packet}
use Rattle.sbp_world.proofs.Words.Initiator.{act_step, Turn, new_state, InitiatorState}
use Rattle.sbp_world.proofs.Words.World.{handed_out, acted, acted_by, weight_in, is_in_flight, lose_line, lost, refused, WorldState, initiator_at, with_initiator, without_notes, BytesAction, OwnFittingLaw, Stands, layer_in, layers_of}
use Rattle.std.specs.Prelude.{◌≡◌, ◌≤◌, ◌<◌, ℕ, suc, ◌+◌, ◌^◌, Bool, true, false, List, ◌∷◌, ◌++◌, length, map, Option, Some, None, refl}
use Rattle.std.proofs.lemmas.List.{length-set}
use Rattle.sbp_initiator.proofs.FirstRow.{refusal_law}
use Rattle.sbp_world.proofs.Wire.Bus.{loses}
use Rattle.sbp_world.proofs.Wire.Handing.{Knowing, asks_out}
use Rattle.sbp_world.proofs.Wire.Holding.{OwnGoes, OwnSound, lands_own, later_own, TargetOf, own_has, target_small, to_target}
use Rattle.sbp_world.proofs.Wire.Alike.{IsAlike}
use Rattle.sbp_world.proofs.Wire.Nodes.{Lands, handed_alike, nodes_beside, own_lands}
use Rattle.sbp_world.proofs.Wire.Tells.{starts}
use Rattle.sbp_world.proofs.Wire.OwnHears.{own_refuses, set_own}

-- ---- a packet is lost
lose_alike : (w : WorldState) (line serial : ℕ) (b : Bool) → IsAlike w (if b then lost serial w else refused line no_packet w)
lose_alike w line serial true = record { generations = refl; target = refl; initiators = refl }
lose_alike w line serial false = record { generations = refl; target = refl; initiators = refl }

pub own_loses : {past : List Moment} {lines : ℕ} (w : WorldState) (line serial : ℕ) → OwnSound past lines w → OwnGoes past lines w (lose_line line serial w)
unfolding lose_line
own_loses {past} w line serial s =
    lands_own w w (lose_line line serial w) (record { stands = loses past w line serial s.stands; alike = lose_alike w line serial (is_in_flight serial w) }) refl refl s.own

-- ---- a line begins, or there is one more
pub own_opens : {past : List Moment} {lines : ℕ} (line : ℕ) (event : Event) (w : WorldState) → is_reset event ≡ false → OwnSound past lines w → OwnSound (asked line event ∷ (map said w.fresh ++ past)) lines (without_notes w)
own_opens {past} line event w e s = record { stands = starts past w line event e s.stands; own = s.own }

pub own_later : {past : List Moment} {lines : ℕ} {w : WorldState} → OwnSound past lines w → OwnSound past (lines + 1) w
own_later s = record { stands = s.stands; own = later_own s.own }

-- ---- an initiator acts
own_asks : {past : List Moment} (w : WorldState) → Stands past w → (i weight : ℕ) → i < length w.initiators → (turn : Turn) → IsAsking (TargetOf w.generations.seen i) (initiator_at w i).layer turn.1.layer turn.0.packets → ArePlainSides turn.0.sides → AreSmall turn.0.packets → Lands past (with_initiator i turn.1 w) (handed_out (i + 1) weight turn.0 (with_initiator i turn.1 w))
own_asks w h i weight inside turn a plain small =
    let node_is : i + 1 ≡ suc i = omega arith in
    let old = initiator_at w i in
    let v = with_initiator i turn.1 w in
    let n = length-set w.initiators i turn.1 in
    let v_stands = nodes_beside w h w.target (slice_set w.initiators i turn.1) n in
    let v_there : i + 1 ≤ length v.initiators = omega (arith, n) in
    let own : layers_of w (i + 1) ≡ bare old.layer = ap (λ x. layer_in w.target.layer w.initiators x) node_is in
    let k : Knowing (TargetOf w.generations.seen i) v (i + 1) = record {
      all = λ id q. record { node = 0; there = omega arith; id_is = ap (λ x. id_of (topology_at w.generations x) 0) node_is ∙ to_target w.generations.seen i id q };
      aims = λ id q l. refl;
    } in
    own_lands w (handed_out (i + 1) weight turn.0 v) (i + 1) i turn.1 node_is inside (handed_alike (i + 1) weight turn.0 v)
    (asks_out (TargetOf w.generations.seen i) v (i + 1) weight v_there k old.layer turn.1.layer own turn.0 plain small a v_stands)

module _ (initiators : OwnFittingLaw) {past : List Moment} {lines : ℕ} (w : WorldState) (sound : OwnSound past lines w) (line i : ℕ) (action : Action) (inside : i < length w.initiators) (are_bytes : BytesAction action) (few : lines + 1 < 2 ^ 32) where
  abbrev old_own : InitiatorState
  old_own = initiator_at w i

  abbrev acted_own : Option ℕ × Turn
  acted_own = act_step action empty_outbox old_own

  refused_action : (number : ℕ) → acted_own.0 ≡ Some number → OwnGoes past (lines + 1) w (acted_by (Some number, acted_own.1) line i action w)
  refused_action number e =
      let same : acted_own.1 ≡ (empty_outbox, old_own) = refusal_law.unchanged action empty_outbox old_own number e in
      let back : slice_set w.initiators i acted_own.1.1 ≡ w.initiators =
      ap (λ (t : Turn). slice_set w.initiators i t.1) same ∙ set-get_or w.initiators i (new_state 0 false) in
      subst (λ (xs : List InitiatorState). OwnGoes past (lines + 1) w (refused line number (record w { initiators = xs }))) (sym back) (own_refuses w line number (own_later sound))

  done_action : acted_own.0 ≡ None → OwnGoes past (lines + 1) w (acted_by (None, acted_own.1) line i action w)
  done_action e =
      let count = sound.own.counts i inside in
      let d = (initiators (own_has w.generations.seen i) (own_has w.generations.seen i)).actions_fit action old_own (target_small w.generations.seen i) (sound.own.holds i inside) are_bytes (omega arith) e in
      let turn = acted_own.1 in
      let v = with_initiator i turn.1 w in
      let acts = d.acts in
      lands_own w v (handed_out (i + 1) (weight_in action) turn.0 v) (own_asks w sound.stands i (weight_in action) inside turn d.asks d.plain d.small)
      refl refl (set_own w (lines + 1) i turn.1 inside d.holds (omega arith) (later_own sound.own))

  acts_by : (o : Option ℕ) → acted_own.0 ≡ o → OwnGoes past (lines + 1) w (acted_by (o, acted_own.1) line i action w)
  acts_by None e = done_action e
  acts_by (Some number) e = refused_action number e

  pub own_acts : OwnGoes past (lines + 1) w (acted line i action w)
  unfolding acted
  own_acts = acts_by acted_own.0 refl
