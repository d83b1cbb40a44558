-- What initiators do, and what comes to them, keeps it, for which list an agent of the target is out of RESET.
use Rattle.sbp_world.proofs.Words.Std.{arith, ◌≡◌, ◌∙◌, refl, sym, ap, subst, ◌==◌, ◌+◌, ◌-◌, not, ℕ, suc, nat_eq, nat_lt, Bool, true, false, cond, List, ◌∷◌, ◌++◌, map, length, Option, Some, None, slice_index_or, slice_set, nat_tests}
use Rattle.sbp_world.proofs.Words.Wire.{as_sending, Sent, found_sent, Request, id_of, judged_note, no_packet, empty_outbox, Moment, asked, said, terms, Judged, Action, Event, Note}
use Rattle.sbp_world.proofs.Words.Initiator.{act_step, Turn, new_state, expire_step, receive_step, see_step, InitiatorState}
use Rattle.sbp_world.proofs.Words.World.{marked, with_initiators, handed_out, acted, acted_by, weight_in, handed_all, initiator_learns, reset_line, see_line, target_learns, told_seen, with_seen, at_initiator, initiator_expires, inject_line, injected, injected_to, is_in_flight, lose_line, lost, refused, timed_out, posted, WorldState, initiator_at, with_initiator, with_note, without_notes, Stands, turn_of, IsCalm, AllOf, AreOpenFor, Ends, IsOpenFor, IsUp, View, view}
use Rattle.sbp_journal.specs.declared.cause.Judged.TheVariants as judgements
use Rattle.sbp_journal.specs.declared.note.Note.TheVariants as notes
use Rattle.sbp_world.specs.Nodes as nodes
use Rattle.sbp_world.proofs.Wire.Nodes.{handed_alike}
use Rattle.sbp_world.proofs.Agents.Management.Holding.{was_sent}
use Rattle.sbp_world.proofs.InitiatorForms as own
use Rattle.sbp_world.proofs.Formed.{AreOwn}
use Rattle.sbp_world.proofs.Agents.Management.Still.{hist}
use Rattle.sbp_world.proofs.Lists.Extends.{marked_fresh}
use Rattle.sbp_world.proofs.Lists.Lines.{hears}
use Rattle.sbp_world.proofs.Lists.OpenedAside.{IsOthers, asked_first, got_first, ignored_first, late_first, plain_asked, plain_ignored, plain_late, plain_never, saw_first}
use Rattle.sbp_world.proofs.Lists.OpenedMoments.{of_others}
use Rattle.sbp_world.proofs.Lists.OpenedNever.{never}
use Rattle.sbp_world.proofs.Lists.OpenedNotes.{all_new, own_handed, own_places}
use Rattle.sbp_world.proofs.Lists.OpenedTurns.{NoneUp, WasUp}
use Rattle.sbp_world.proofs.Lists.OpenedWorlds.{Here, Then, Wired, alike_up, aside_turn, saw_never, turn_is, wired}
use Rattle.sbp_world.proofs.Wire.See.{not_zero}

-- where the target and who has its places stay, and the terms
pub alike_open : (x : View) (w v : WorldState) (i : ℕ) → ((p : ℕ) → IsUp v i p → WasUp w v i p) → AreOpenFor x w i → AreOpenFor x v i
alike_open x w v i up o = record {
  each = λ place b u. (let s = up place u in subst (IsOpenFor x i place) (sym s.list) (o.each place b s.was));
  resets = λ r place b u. o.resets r place b (up place u).was;
  states = λ n is r place b u. o.states n is r place b (up place u).was;
  cuts = λ r place b u. o.cuts r place b (up place u).was;
}

-- ---- lines
-- the notes of a line of others
pub record OthersDo (w v : WorldState) : Type 0 where
  pub all : AllOf of_others v.fresh
  pub target : v.target ≡ w.target
  pub places : v.places ≡ w.places

module _ (w0 : WorldState) where
  abbrev w : WorldState
  w = without_notes w0

  pub refused_does : (line number : ℕ) → OthersDo w (refused line number w)
  refused_does line number = record { all = (refl, tt); target = refl; places = refl }

  acts_by : (line j : ℕ) (action : Action) (x : Option ℕ × Turn) → AreOwn x.1.0.sides → OthersDo w (acted_by x line j action w)
  acts_by line j action (Some number, t) h = record { all = (refl, tt); target = refl; places = refl }
  acts_by line j action (None, t) h =
      let v = with_initiator j t.1 w in
      record {
        all = all_new of_others (handed_out (j + 1) (weight_in action) t.0 v).fresh (own_handed (weight_in action) (j + 1) (let z : nat_eq (j + 1) 0 ≡ false = grind (arith, nat_tests) in z) t.0 v h);
        target = (handed_alike (j + 1) (weight_in action) t.0 v).target;
        places = own_places (weight_in action) (j + 1) t.0 v h;
      }

  pub acts_does : (line j : ℕ) (action : Action) → OthersDo w (acted line j action w)
  unfolding acted
  acts_does line j action = acts_by line j action (act_step action empty_outbox (initiator_at w j)) (own.acts action empty_outbox (initiator_at w j) tt)

  pub loses_does : (line serial : ℕ) → OthersDo w (lose_line line serial w)
  unfolding lose_line
  loses_does line serial = by (is_in_flight serial w)
    where
      by : (b : Bool) → OthersDo w (cond b (lost serial w) (refused line no_packet w))
      by true = record { all = (refl, tt); target = refl; places = refl }
      by false = record { all = (refl, tt); target = refl; places = refl }

  pub injects_does : (line j : ℕ) (bytes : List ℕ) → OthersDo w (inject_line line j bytes w)
  unfolding inject_line posted
  injects_does line j bytes = by (injected_to (j + 1) bytes w)
    where
      by : (to : Option ℕ) → OthersDo w (injected to line (j + 1) bytes w)
      by None = record { all = (refl, tt); target = refl; places = refl }
      by (Some to) = record { all = (ap not (let z : nat_eq (j + 1) 0 ≡ false = grind (arith, nat_tests) in z), (refl, tt)); target = refl; places = refl }

  pub resets_does : (physical : List ℕ) → OthersDo w (reset_line physical w)
  unfolding reset_line
  resets_does physical = record { all = (refl, tt); target = refl; places = refl }

  module _ (i line : ℕ) (event : Event) (H : List Moment) (k : Wired H) (v : WorldState) (d : OthersDo w v) (here : Here H w i) (behind : Then (map said v.fresh ++ asked line event ∷ H) i) (o : AreOpenFor (view H i) w i) where
    pub line_keeps : AreOpenFor (view (map said v.fresh ++ asked line event ∷ H) i) v i
    line_keeps =
        aside_turn i H k w v (asked line event) (asked_first line event) v.fresh d.all here behind (alike_up w v d.target d.places i) o
        (λ still same e. absurd (plain_never (asked line event) (plain_asked line event) H i e))

-- ---- an initiator
module _ (i : ℕ) {past : List Moment} (w : WorldState) (h : Stands past w) (here : Here (hist past w) w i) (o : AreOpenFor (view (hist past w) i) w i) where
  abbrev H : List Moment
  H = hist past w

  abbrev J : WorldState → Type 0
  J v = Then (hist past v) i → AreOpenFor (view (hist past v) i) v i

  -- a turn with these notes
  module _ (v : WorldState) (note : Note) (first : IsOthers H (said note)) (more : List Note) (all : AllOf of_others more) (is : more ++ note ∷ w.fresh ≡ v.fresh) (target : v.target ≡ w.target) (places : v.places ≡ w.places) (drops : (terms (said note ∷ H)).generation (suc i) ≡ (terms H).generation (suc i) → (view H i).target ≡ (view H i).own → Ends (turn_of (said note ∷ H)) i → NoneUp w i) where
    noted : J v
    noted behind =
        let same = turn_is more note w.fresh v.fresh past is in
        subst (λ ms. AreOpenFor (view ms i) v i) same
        (aside_turn i H (wired w h) w v (said note) first more all here (subst (λ ms. Then ms i) (sym same) behind) (alike_up w v target places i) o drops)

  -- it hears a packet
  module _ (calm : IsCalm H i) (serial j : ℕ) (again : Bool) (sent : Sent) (found : found_sent serial w.store.kept ≡ Some sent) (to : sent.to ≡ suc j) where
    abbrev old : InitiatorState
    old = slice_index_or w.initiators j (new_state 0 false)

    abbrev x : Judged × Turn
    x = receive_step sent.generation sent.bytes empty_outbox old

    abbrev one : WorldState
    one = with_initiators (slice_set w.initiators j x.1.1) w

    abbrev three : WorldState
    three = with_note (judged_note serial x.0) (marked serial again one)

    judged_first : (judged : Judged) → IsOthers H (said (judged_note serial judged))
    judged_first judgements.Got = got_first serial j (as_sending sent) (was_sent w h serial sent found) to
    judged_first (judgements.Ignored cause) = ignored_first serial cause j (as_sending sent) (was_sent w h serial sent found) to

    judged_drops : (judged : Judged) → (view H i).target ≡ (view H i).own → Ends (turn_of (said (judged_note serial judged) ∷ H)) i → NoneUp w i
    judged_drops judgements.Got same e = never w h i serial sent found calm same o here.resets e
    judged_drops (judgements.Ignored cause) same e = absurd (plain_never (said (notes.Ignored serial cause)) (plain_ignored serial cause) H i e)

    pub hears_keeps : J (handed_out (suc j) 0 x.1.0 three)
    hears_keeps =
        let b = own_handed 0 (suc j) (not_zero j) x.1.0 three (own.receives sent.generation sent.bytes empty_outbox old tt) in
        let s = hears (λ n. true) past serial j again sent w in
        noted (handed_out (suc j) 0 x.1.0 three) (judged_note serial x.0) (judged_first x.0) b.more b.all (ap (λ ns. b.more ++ judged_note serial x.0 ∷ ns) (sym (marked_fresh serial again one)) ∙ b.is) s.target s.places (λ still same e. judged_drops x.0 same e)

  -- what leaves the history of an initiator as it is
  pub refused_keeps : (line number : ℕ) → AreOpenFor (view (hist past (refused line number w)) i) (refused line number w) i
  refused_keeps line number = alike_open (view H i) w (refused line number w) i (alike_up w (refused line number w) refl refl i) o

  -- a transaction of it times out
  module _ (line serial j : ℕ) (request : Request) (node : request.node ≡ suc j) where
    lapses_by : (k n : ℕ) → n ≡ suc j → (r : Bool × Turn) → AreOwn r.1.0.sides → J (timed_out line serial n (at_initiator k r w))
    lapses_by k n e (true, (outbox, state)) h =
        let two = with_note (notes.TimedOut serial) (with_initiator k state w) in
        let b = own_handed 0 n (let z : nat_eq n 0 ≡ false = grind (arith, nat_tests) in z) outbox two h in
        noted (handed_out n 0 outbox two) (notes.TimedOut serial) (late_first serial) b.more b.all b.is (handed_alike n 0 outbox two).target (own_places 0 n outbox two h)
        (λ still same e. absurd (plain_never (said (notes.TimedOut serial)) (plain_late serial) H i e))
    lapses_by k n e (false, (outbox, state)) h = λ behind. alike_open (view H i) w (refused line no_packet (with_initiator k state w)) i (alike_up w (refused line no_packet (with_initiator k state w)) refl refl i) o

    pub lapses_keep : J (timed_out line serial request.node (initiator_expires request w))
    lapses_keep = by (nat_lt (request.node - 1) (length w.initiators))
      where
        old_one : InitiatorState
        old_one = initiator_at w (request.node - 1)

        by : (b : Bool) → J (timed_out line serial request.node (cond b (at_initiator (request.node - 1) (expire_step request.label empty_outbox old_one) w) (false, (empty_outbox, w))))
        by true = lapses_by (request.node - 1) request.node node (expire_step request.label empty_outbox old_one) (own.expires request.label empty_outbox old_one tt)
        by false = λ behind. refused_keeps line no_packet

  -- it sees a generation
  pub sight_keeps : (j : ℕ) → J (see_line (suc j) w)
  unfolding see_line nodes.sees
  sight_keeps j =
      let old_one = initiator_at w (suc j - 1) in
      let g = w.generations.latest in
      let t = see_step g.generation (id_of g (suc j)) (id_of g 0) empty_outbox old_one in
      let first = with_seen (suc j) (told_seen (suc j) w) in
      let two = with_initiator (suc j - 1) t.1 first in
      let other : (suc j == 0) ≡ false = grind (arith, nat_tests) in
      let h = own.sees g.generation (id_of g (suc j)) (id_of g 0) empty_outbox old_one tt in
      let b = own_handed 0 (suc j) (not_zero j) t.0 two h in
      subst (λ c. J (handed_all (suc j) (cond c (target_learns first) (initiator_learns (suc j) first)))) (sym other)
      (noted (handed_out (suc j) 0 t.0 two) (notes.Seen (suc j) g.generation) (saw_first j g.generation) b.more b.all b.is (handed_alike (suc j) 0 t.0 two).target (own_places 0 (suc j) t.0 two h)
      (λ still same e. absurd (saw_never j g.generation H i still e)))
