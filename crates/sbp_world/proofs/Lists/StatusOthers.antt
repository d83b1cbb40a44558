-- Each turn of an initiator, and each line in which no packet is delivered, keeps that the last ORB of a list stands in its slot while its agent is at the end of the list.
use Rattle.sbp_world.proofs.Words.Std.{◌≡◌, ◌∙◌, refl, sym, ap, subst, ◌-◌, ℕ, suc, nat_eq, nat_lt, Bool, true, false, cond, List, [], ◌∷◌, ◌++◌, map, length, None, slice_index_or, slice_set}
use Rattle.sbp_world.proofs.Words.Wire.{Sent, judged_note, no_packet, Judged, Event, Note, empty_outbox, Moment, asked, said, id_of, Request}
use Rattle.sbp_world.proofs.Words.Target.{NodeState, desk_at, with_key}
use Rattle.sbp_world.proofs.Words.Initiator.{InitiatorState, Turn, new_state, expire_step, receive_step, see_step}
use Rattle.sbp_world.proofs.Words.Laws.{status_due}
use Rattle.sbp_world.proofs.Words.World.{marked, with_initiators, handed_out, WorldState, initiator_at, with_note, with_target, without_notes, with_initiator, AllOf, of_rest, see_line, told_seen, with_seen, handed_all, keyed, no_unit, at_initiator, initiator_expires, refused, timed_out}
use Rattle.sbp_journal.specs.declared.note.Note.TheVariants as notes
use Rattle.sbp_world.proofs.Agents.Management.Still.{hist}
use Rattle.sbp_world.proofs.Lists.Generations.{moment_generation}
use Rattle.sbp_world.proofs.Lists.StatusCall.{AreRested, IsFirst}
use Rattle.sbp_world.specs.Nodes as nodes
use Rattle.sbp_world.proofs.Lists.OpenedWorlds.{turn_is}
use Rattle.sbp_world.proofs.Lists.StatusBehind.{At, Then, others_rest}
use Rattle.sbp_world.proofs.InitiatorForms as own
use Rattle.sbp_world.proofs.Formed.{AreOwn}
use Rattle.sbp_world.proofs.Lists.Adds.{Stays}
use Rattle.sbp_world.proofs.Lists.Extends.{marked_fresh}
use Rattle.sbp_world.proofs.Lists.Lines.{hears, own_lapses, own_sight, refuses}
use Rattle.sbp_world.proofs.Lists.OpenedMoments.{all_weaker, of_others, others_rest as others_calm}
use Rattle.sbp_world.proofs.Lists.OpenedNotes.{own_handed}
use Rattle.sbp_world.proofs.Lists.OpenedOthers.{OthersDo, refused_does}
use Rattle.sbp_world.proofs.Lists.StatusTargets.{judged_due, judged_first, late_first}
use Rattle.sbp_world.proofs.Wire.See.{not_zero}

-- ---- first moments of other turns
asked_first : (i line : ℕ) (event : Event) (H : List Moment) → IsFirst i (asked line event) H
asked_first i line event H = record { null = λ n k. tt; prepared = λ slot. refl; begun = refl; ended = λ n. refl; appended = λ n. refl; still = moment_generation 0 (asked line event) H refl }

saw_first : (i j generation : ℕ) (H : List Moment) → IsFirst i (said (notes.Seen (suc j) generation)) H
saw_first i j generation H = record { null = λ n k. tt; prepared = λ slot. refl; begun = refl; ended = λ n. refl; appended = λ n. refl; still = moment_generation 0 (said (notes.Seen (suc j) generation)) H (not_zero j) }

refused_first : (i line number : ℕ) (H : List Moment) → IsFirst i (said (notes.Refused line number)) H
refused_first i line number H = record { null = λ n k. tt; prepared = λ slot. refl; begun = refl; ended = λ n. refl; appended = λ n. refl; still = moment_generation 0 (said (notes.Refused line number)) H refl }

-- ---- how a history goes on
record Shape (past : List Moment) (w v : WorldState) : Type 0 where
  m : Moment
  more : List Note
  rest : AllOf of_rest more
  is : map said more ++ m ∷ hist past w ≡ hist past v
  first : (i : ℕ) → IsFirst i m (hist past w)
  due : status_due (m ∷ hist past w) ≡ None

module _ (wild : ℕ → Bool) (past : List Moment) (w : WorldState) (at : At wild past w) where
  abbrev H : List Moment
  H = hist past w

  goes_on : (v : WorldState) → Shape past w v → Stays wild past w v → Then wild w (hist past v) v → AreRested wild (hist past v) v
  goes_on v x s then =
      others_rest wild past w at (hist past v) v then x.m x.more x.rest x.is x.first x.due (λ q. ap (λ (node : NodeState). (desk_at node q).agent) s.target) s.places (λ i n. s.adds.ends_are i n)

  -- ---- an initiator hears a packet
  module _ (serial j : ℕ) (again : Bool) (sent : Sent) where
    abbrev old : InitiatorState
    old = slice_index_or w.initiators j (new_state 0 false)

    abbrev x : Judged × Turn
    x = receive_step sent.generation sent.bytes empty_outbox old

    abbrev one : WorldState
    one = with_initiators (slice_set w.initiators j x.1.1) w

    abbrev three : WorldState
    three = with_note (judged_note serial x.0) (marked serial again one)

    pub hears_rests : Then wild w (hist past (handed_out (suc j) 0 x.1.0 three)) (handed_out (suc j) 0 x.1.0 three) → AreRested wild (hist past (handed_out (suc j) 0 x.1.0 three)) (handed_out (suc j) 0 x.1.0 three)
    hears_rests then =
        let b = own_handed 0 (suc j) (not_zero j) x.1.0 three (own.receives sent.generation sent.bytes empty_outbox old tt) in
        let v = handed_out (suc j) 0 x.1.0 three in
        goes_on v (record {
          m = said (judged_note serial x.0);
          more = b.more;
          rest = all_weaker of_others of_rest others_calm b.more b.all;
          is = turn_is b.more (judged_note serial x.0) w.fresh v.fresh past (ap (λ ns. b.more ++ judged_note serial x.0 ∷ ns) (sym (marked_fresh serial again one)) ∙ b.is);
          first = λ i. judged_first i serial x.0 H;
          due = judged_due serial x.0 H;
        }) (hears wild past serial j again sent w) then

  -- what is refused
  pub refused_rests : status_due H ≡ None → (line number : ℕ) → Then wild w (hist past (refused line number w)) (refused line number w) → AreRested wild (hist past (refused line number w)) (refused line number w)
  refused_rests none line number then =
      goes_on (refused line number w) (record { m = said (notes.Refused line number); more = []; rest = tt; is = refl; first = λ i. refused_first i line number H; due = none }) (refuses wild past line number w) then

  -- ---- a transaction of it times out
  lapse_shape : status_due H ≡ None → (line serial k n : ℕ) → nat_eq n 0 ≡ false → (r : Bool × Turn) → AreOwn r.1.0.sides → Shape past w (timed_out line serial n (at_initiator k r w))
  lapse_shape none line serial k n other (true, (outbox, state)) h =
      let two = with_note (notes.TimedOut serial) (with_initiator k state w) in
      let b = own_handed 0 n other outbox two h in
      let v = handed_out n 0 outbox two in
      record {
        m = said (notes.TimedOut serial);
        more = b.more;
        rest = all_weaker of_others of_rest others_calm b.more b.all;
        is = turn_is b.more (notes.TimedOut serial) w.fresh v.fresh past b.is;
        first = λ i. late_first i serial H;
        due = refl;
      }
  lapse_shape none line serial k n other (false, (outbox, state)) h = record { m = said (notes.Refused line no_packet); more = []; rest = tt; is = refl; first = λ i. refused_first i line no_packet H; due = none }

  expires_shape : status_due H ≡ None → (line serial : ℕ) (request : Request) → nat_eq request.node 0 ≡ false → (b : Bool) → Shape past w (timed_out line serial request.node (cond b (at_initiator (request.node - 1) (expire_step request.label empty_outbox (initiator_at w (request.node - 1))) w) (false, (empty_outbox, w))))
  expires_shape none line serial request other true = lapse_shape none line serial (request.node - 1) request.node other (expire_step request.label empty_outbox (initiator_at w (request.node - 1))) (own.expires request.label empty_outbox (initiator_at w (request.node - 1)) tt)
  expires_shape none line serial request other false = record { m = said (notes.Refused line no_packet); more = []; rest = tt; is = refl; first = λ i. refused_first i line no_packet H; due = none }

  pub own_lapse_rests : status_due H ≡ None → (line serial : ℕ) (request : Request) → nat_eq request.node 0 ≡ false → (let v = timed_out line serial request.node (initiator_expires request w) in Then wild w (hist past v) v → AreRested wild (hist past v) v)
  own_lapse_rests none line serial request other then =
      goes_on (timed_out line serial request.node (initiator_expires request w)) (expires_shape none line serial request other (nat_lt (request.node - 1) (length w.initiators))) (own_lapses wild past line serial request w) then

  -- ---- it sees a generation
  sight_shape : status_due H ≡ None → (j : ℕ) → Shape past w (see_line (suc j) w)
  unfolding see_line nodes.sees
  sight_shape none j =
      let old_one = initiator_at w (suc j - 1) in
      let g = w.generations.latest in
      let t = see_step g.generation (id_of g (suc j)) (id_of g 0) empty_outbox old_one in
      let first = with_seen (suc j) (told_seen (suc j) w) in
      let two = with_initiator (suc j - 1) t.1 first in
      let h = own.sees g.generation (id_of g (suc j)) (id_of g 0) empty_outbox old_one tt in
      let b = own_handed 0 (suc j) (not_zero j) t.0 two h in
      let v = handed_out (suc j) 0 t.0 two in
      subst (λ c. Shape past w (handed_all (suc j) (cond c (nodes.target_learns first) (nodes.initiator_learns (suc j) first)))) (sym (not_zero j))
      (record {
        m = said (notes.Seen (suc j) g.generation);
        more = b.more;
        rest = all_weaker of_others of_rest others_calm b.more b.all;
        is = turn_is b.more (notes.Seen (suc j) g.generation) w.fresh v.fresh past b.is;
        first = λ i. saw_first i j g.generation H;
        due = none;
      })

  pub own_sight_rests : status_due H ≡ None → (j : ℕ) → Then wild w (hist past (see_line (suc j) w)) (see_line (suc j) w) → AreRested wild (hist past (see_line (suc j) w)) (see_line (suc j) w)
  own_sight_rests none j then = goes_on (see_line (suc j) w) (sight_shape none j) (own_sight wild past w j) then

-- ---- a line in which no packet is delivered, and none of the target times out
module _ (wild : ℕ → Bool) (past : List Moment) (w : WorldState) (at : At wild past w) (line : ℕ) (event : Event) where
  abbrev now : WorldState → List Moment
  now v = hist (asked line event ∷ hist past w) v

  pub line_rests : (v : WorldState) → OthersDo (without_notes w) v → Stays wild (asked line event ∷ hist past w) (without_notes w) v → Then wild w (now v) v → AreRested wild (now v) v
  line_rests v d s then =
      others_rest wild past w at (now v) v then (asked line event) v.fresh (all_weaker of_others of_rest others_calm v.fresh d.all) refl (λ i. asked_first i line event (hist past w)) refl
      (λ q. ap (λ (node : NodeState). (desk_at node q).agent) d.target) d.places (λ i n. s.adds.ends_are i n)

  pub key_rests : (unit : ℕ) (key : List ℕ) → Then wild w (now (keyed line unit key (without_notes w))) (keyed line unit key (without_notes w)) → AreRested wild (now (keyed line unit key (without_notes w))) (keyed line unit key (without_notes w))
  unfolding keyed
  key_rests unit key = by (nat_lt unit (length w.target.units))
    where
      by : (b : Bool) → (let v = cond b (with_note (notes.Key unit) (with_target (with_key unit key w.target) (without_notes w))) (refused line no_unit (without_notes w)) in Then wild w (now v) v → AreRested wild (now v) v)
      by true = λ then.
          let v = with_note (notes.Key unit) (with_target (with_key unit key w.target) (without_notes w)) in
          others_rest wild past w at (now v) v then (asked line event) (notes.Key unit ∷ []) (refl, tt) refl (λ i. asked_first i line event (hist past w)) refl (λ q. refl) refl (λ i n. refl)
      by false = λ then. line_rests (refused line no_unit (without_notes w)) (refused_does w line no_unit) (refuses wild (asked line event ∷ hist past w) line no_unit (without_notes w)) then
