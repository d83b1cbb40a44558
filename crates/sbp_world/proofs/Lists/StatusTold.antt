-- What is told of the agent of a place, by the history: the ORB of the end that was told last has its status due, and ended with that; no packet leaves.
use Rattle.sbp_world.proofs.Words.Std.{arith, ◌≡◌, ◌∙◌, refl, sym, ap, subst, ◌≤◌, nat_eq, ℕ, Bool, false, cond, List, [], ◌∷◌, ◌++◌, Option, Some, None, ◌<◌, suc, false≢true, none-some, same_Some}
use Rattle.sbp_world.proofs.Words.Wire.{Holder, holder_at, opened_by, opened_step, or_nobody, place_in, dead_note, ended_note, list_in, orb_in, ran_note, Note, Side, Moment, said, terms}
use Rattle.sbp_world.proofs.Words.Initiator.{StatusKind, TicketParts}
use Rattle.sbp_world.proofs.Words.Laws.{Orb, orb, taken_at, status_due, status_packet, appends, ended_status, ends, lists, EachMoment}
use Rattle.sbp_world.proofs.Words.World.{holder, ticket_at, ticket_of, told, told_all, WorldState, HasSlot, SentSo}
use Rattle.sbp_journal.specs.declared.note.Note.TheVariants as notes
use Rattle.sbp_journal.specs.declared.side.Side.TheVariants as sides
use Rattle.sbp_world.proofs.Agents.Management.Still.{hist}
use Rattle.sbp_world.proofs.Lists.OpenPlaces.{opened_here}
use Rattle.sbp_world.proofs.Lists.Passing.{PassLaw}
use Rattle.sbp_world.proofs.Lists.StatusMoments.{HasTaken, ends_grow}
use Rattle.sbp_world.proofs.Lists.StatusPackets.{AreOf, EndSide, IsOf, one_end, or_before, told_end}
use Rattle.sbp_world.proofs.Lists.StatusSlots.{IsUnseen, slot_on}
use Rattle.sbp_world.proofs.Common.{itself, moments_joined as joined}
use Rattle.sbp_world.proofs.Lists.EndTells.{both_none}

pub opened_initiator : (places : List (Option Holder)) (q : ℕ) (list : Option ℕ) → (holder_at (opened_step q list places) q).initiator ≡ (holder_at places q).initiator
unfolding opened_step
opened_initiator places q list = by (place_in places q) refl
  where
    none : place_in places q ≡ None → opened_step q list places ≡ places
    none e = ap (λ (x : Option Holder). opened_by x q list places) e

    by : (x : Option Holder) → place_in places q ≡ x → (holder_at (opened_step q list places) q).initiator ≡ (holder_at places q).initiator
    by None e = ap (λ ps. (holder_at ps q).initiator) (none e)
    by (Some h) e = ap (λ (x : Option Holder). (or_nobody x).initiator) (opened_here places q list h e) ∙ sym (ap (λ (x : Option Holder). (or_nobody x).initiator) e)

module _ (past : List Moment) (q : ℕ) where
  -- ---- what is told of an agent leaves who has its place, and the packets
  pub record Leaves (w v : WorldState) : Type 0 where
    pub owner : (holder v q).initiator ≡ (holder w q).initiator
    pub tickets : (i at : ℕ) → ticket_of v i at ≡ ticket_of w i at
    pub wire : terms (hist past v) ≡ terms (hist past w)
    pub generations : v.generations ≡ w.generations
    pub packets : (i n k : ℕ) → status_packet (hist past v) i n k ≡ status_packet (hist past w) i n k
    pub taken : (i n k : ℕ) → taken_at (hist past v) i n k ≡ taken_at (hist past w) i n k
    pub begun : (i : ℕ) → lists (hist past v) i ≡ lists (hist past w) i
    pub appended : (i n : ℕ) → appends (hist past v) i n ≡ appends (hist past w) i n
    pub slots : (i slot : ℕ) (one : Orb) → (HasTaken (hist past w) i one.list one.number → ⊥) → HasSlot (hist past w) i slot one → HasSlot (hist past v) i slot one
    pub sends : (i : ℕ) → EachMoment (SentSo i) (hist past w) → EachMoment (SentSo i) (hist past v)
    pub more : List Moment
    pub is : more ++ hist past w ≡ hist past v

  abbrev Slots : Note → List Moment → Type 0
  Slots note ms = (i slot : ℕ) (one : Orb) → (HasTaken ms i one.list one.number → ⊥) → HasSlot ms i slot one → HasSlot (said note ∷ ms) i slot one

  slots_on : (note : Note) (ms : List Moment) → IsUnseen (said note) → ((i n k : ℕ) → taken_at (said note ∷ ms) i n k ≡ taken_at ms i n k) → Slots note ms
  slots_on note ms u same i slot one none h = slot_on (said note) ms i slot one u (λ t. none (record { taken = t.taken; is = sym (same i one.list one.number) ∙ t.is })) h

  pub one_leaves : (side : Side) (w : WorldState) → IsOf q side → Leaves w (told 0 side w)
  unfolding told
  one_leaves (sides.Opened place at) w h = record {
    owner = (let list = list_in (ticket_at w place at) in subst (λ p. (holder_at (opened_step p list w.places) q).initiator ≡ (holder w q).initiator) (sym h) (opened_initiator w.places q list));
    tickets = λ i a. refl;
    wire = refl;
    generations = refl;
    packets = λ i n k. refl;
    taken = λ i n k. refl;
    begun = λ i. refl;
    appended = λ i n. refl;
    slots = λ i slot one none h. h;
    sends = λ i e. e;
    more = [];
    is = refl;
  }
  one_leaves (sides.Ran place at cdb payload outcome) w h = record { owner = refl; tickets = λ i a. refl; wire = refl; generations = refl; packets = λ i n k. refl; taken = λ i n k. refl; begun = λ i. refl; appended = λ i n. refl; slots = slots_on (ran_note (holder w place) (ticket_at w place at) cdb payload outcome) (hist past w) tt (λ i n k. refl); sends = λ i e. (tt, e); more = _ ∷ []; is = refl }
  one_leaves (sides.Ended place at status) w h = record { owner = refl; tickets = λ i a. refl; wire = refl; generations = refl; packets = λ i n k. refl; taken = λ i n k. refl; begun = λ i. refl; appended = λ i n. refl; slots = slots_on (ended_note (holder w place) (ticket_at w place at) status) (hist past w) tt (λ i n k. refl); sends = λ i e. (tt, e); more = _ ∷ []; is = refl }
  one_leaves (sides.Dead place cause) w h = record { owner = refl; tickets = λ i a. refl; wire = refl; generations = refl; packets = λ i n k. refl; taken = λ i n k. refl; begun = λ i. refl; appended = λ i n. refl; slots = slots_on (dead_note (holder w place) cause) (hist past w) tt (λ i n k. refl); sends = λ i e. (tt, e); more = _ ∷ []; is = refl }
  one_leaves (sides.Unsolicited place) w h = record { owner = refl; tickets = λ i a. refl; wire = refl; generations = refl; packets = λ i n k. refl; taken = λ i n k. refl; begun = λ i. refl; appended = λ i n. refl; slots = slots_on (notes.Unsolicited (holder w place).initiator) (hist past w) tt (λ i n k. refl); sends = λ i e. (tt, e); more = _ ∷ []; is = refl }
  one_leaves (sides.Unsent place) w h = record { owner = refl; tickets = λ i a. refl; wire = refl; generations = refl; packets = λ i n k. refl; taken = λ i n k. refl; begun = λ i. refl; appended = λ i n. refl; slots = slots_on (notes.Unsent (holder w place).initiator) (hist past w) tt (λ i n k. refl); sends = λ i e. (tt, e); more = _ ∷ []; is = refl }
  one_leaves (sides.Own note) w h = absurd h
  one_leaves (sides.Cut place cause) w h = absurd h
  one_leaves (sides.Managed node function subject status login) w h = absurd h
  one_leaves (sides.ManageFailed node cause) w h = absurd h
  one_leaves (sides.Held login) w h = absurd h
  one_leaves (sides.Expired login) w h = absurd h
  one_leaves (sides.Back login) w h = absurd h
  one_leaves (sides.Left login) w h = absurd h
  one_leaves (sides.Cleared unit) w h = absurd h

  leaves_then : (one two three : WorldState) → Leaves one two → Leaves two three → Leaves one three
  leaves_then one two three a b = record {
    owner = b.owner ∙ a.owner;
    tickets = λ i at. b.tickets i at ∙ a.tickets i at;
    wire = b.wire ∙ a.wire;
    generations = b.generations ∙ a.generations;
    packets = λ i n k. b.packets i n k ∙ a.packets i n k;
    taken = λ i n k. b.taken i n k ∙ a.taken i n k;
    begun = λ i. b.begun i ∙ a.begun i;
    appended = λ i n. b.appended i n ∙ a.appended i n;
    slots = λ i slot one none h. b.slots i slot one (λ t. none (record { taken = t.taken; is = sym (a.taken i one.list one.number) ∙ t.is })) (a.slots i slot one none h);
    sends = λ i e. b.sends i (a.sends i e);
    more = b.more ++ a.more;
    is = joined b.more a.more (hist past one) ∙ (ap (λ ms. b.more ++ ms) a.is ∙ b.is);
  }

  pub all_leave : (side : List Side) (w : WorldState) → AreOf q side → Leaves w (told_all 0 side w)
  unfolding told_all
  all_leave [] w h = record { owner = refl; tickets = λ i at. refl; wire = refl; generations = refl; packets = λ i n k. refl; taken = λ i n k. refl; begun = λ i. refl; appended = λ i n. refl; slots = λ i slot one none h. h; sends = λ i e. e; more = []; is = refl }
  all_leave (side ∷ later) w h = leaves_then w (told 0 side w) (told_all 0 later (told 0 side w)) (one_leaves side w h.0) (all_leave later (told 0 side w) h.1)

  -- ---- with no end, what is due stays
  record SameDue (w v : WorldState) : Type 0 where
    due : status_due (hist past v) ≡ status_due (hist past w)
    status : (i n k : ℕ) → ended_status (hist past v) i n k ≡ ended_status (hist past w) i n k

  one_same : (side : Side) (w : WorldState) → IsOf q side → one_end side ≡ None → SameDue w (told 0 side w)
  unfolding told
  one_same (sides.Opened place at) w h e = record { due = refl; status = λ i n k. refl }
  one_same (sides.Ran place at cdb payload outcome) w h e = record { due = refl; status = λ i n k. refl }
  one_same (sides.Ended place at status) w h e = absurd (let z : Some (record { place = place; orb = at; kind = status }) ≡ None = e in cc)
  one_same (sides.Dead place cause) w h e = record { due = refl; status = λ i n k. refl }
  one_same (sides.Unsolicited place) w h e = record { due = refl; status = λ i n k. refl }
  one_same (sides.Unsent place) w h e = record { due = refl; status = λ i n k. refl }
  one_same (sides.Own note) w h e = absurd h
  one_same (sides.Cut place cause) w h e = absurd h
  one_same (sides.Managed node function subject status login) w h e = absurd h
  one_same (sides.ManageFailed node cause) w h e = absurd h
  one_same (sides.Held login) w h e = absurd h
  one_same (sides.Expired login) w h e = absurd h
  one_same (sides.Back login) w h e = absurd h
  one_same (sides.Left login) w h e = absurd h
  one_same (sides.Cleared unit) w h e = absurd h

  none_same : (side : List Side) (w : WorldState) → AreOf q side → told_end side ≡ None → SameDue w (told_all 0 side w)
  unfolding told_all
  none_same [] w h e = record { due = refl; status = λ i n k. refl }
  none_same (side ∷ later) w h e =
      let b = both_none (told_end later) (one_end side) e in
      let one = one_same side w h.0 b.1 in
      let rest = none_same later (told 0 side w) h.1 b.0 in
      record { due = rest.due ∙ one.due; status = λ i n k. rest.status i n k ∙ one.status i n k }

  -- ---- the end that was told last
  pub record IsDue (i : ℕ) (before now : List Moment) (t : Option TicketParts) (one : EndSide) : Type 0 where
    pub list : ℕ
    pub number : ℕ
    pub list_is : list_in t ≡ Some list
    pub number_is : orb_in t ≡ Some number
    pub due : status_due now ≡ Some (record { initiator = i; one = orb list number })
    pub status : ended_status now i list number ≡ Some one.kind
    pub after : ends before i list ≤ number
    pub latest : suc list ≡ lists before i
    pub below : number < appends before i list

  module _ (wild : ℕ → Bool) (i : ℕ) (own : wild i ≡ false) where
    wrote : (past : List Moment) (n k : ℕ) (status : StatusKind) → ended_status (said (notes.Ended i (Some n) (Some k) status) ∷ past) i n k ≡ Some status
    wrote past n k status =
        ap (λ b. cond b (cond (nat_eq n n) (cond (nat_eq k k) (Some status) (ended_status past i n k)) (ended_status past i n k)) (ended_status past i n k)) (itself i)
        ∙ (ap (λ b. cond b (cond (nat_eq k k) (Some status) (ended_status past i n k)) (ended_status past i n k)) (itself n) ∙ ap (λ b. cond b (Some status) (ended_status past i n k)) (itself k))

    names : (ms : List Moment) (j : ℕ) (one : EndSide) (t : Option TicketParts) → j ≡ i → PassLaw wild (said (notes.Ended j (list_in t) (orb_in t) one.kind) ∷ ms) → IsDue i ms (said (notes.Ended j (list_in t) (orb_in t) one.kind) ∷ ms) t one
    names ms j one None e law = absurd (false≢true (sym own ∙ (ap wild (sym e) ∙ law.0)))
    names ms j one (Some t) e law =
        let next = law.0 (ap wild e ∙ own) in
        let number : t.number ≡ ends ms j t.list = next.turn.number in
        let number_i : t.number ≡ ends ms i t.list = number ∙ ap (λ a. ends ms a t.list) e in
        record {
          list = t.list;
          number = t.number;
          list_is = refl;
          number_is = refl;
          due = ap (λ a. Some (record { initiator = a; one = orb t.list t.number })) e;
          status = subst (λ a. ended_status (said (notes.Ended a (Some t.list) (Some t.number) one.kind) ∷ ms) i t.list t.number ≡ Some one.kind) (sym e) (wrote ms t.list t.number one.kind);
          after = omega (arith, number_i);
          latest = next.turn.still.latest ∙ ap (λ a. lists ms a) e;
          below = subst (λ a. t.number < appends ms a t.list) e next.turn.appended;
        }

    one_due : (side : Side) (w : WorldState) → IsOf q side → (one : EndSide) → one_end side ≡ Some one → (holder w q).initiator ≡ i → PassLaw wild (hist past (told 0 side w)) → IsDue i (hist past w) (hist past (told 0 side w)) (ticket_of w i one.orb) one
    unfolding told
    one_due (sides.Ended place at status) w h one e owner law =
        let is : record { place = place; orb = at; kind = status } ≡ one = same_Some _ one e in
        let here : (holder w place).initiator ≡ i = ap (λ p. (holder w p).initiator) h ∙ owner in
        let t : ticket_at w place at ≡ ticket_of w i at = ap (λ j. ticket_of w j at) here in
        let note : List Moment = said (notes.Ended (holder w place).initiator (list_in (ticket_at w place at)) (orb_in (ticket_at w place at)) status) ∷ hist past w in
        subst (λ (x : EndSide). IsDue i (hist past w) note (ticket_of w i x.orb) x) is
        (subst (λ t. IsDue i (hist past w) note t (record { place = place; orb = at; kind = status })) t
        (names (hist past w) (holder w place).initiator (record { place = place; orb = at; kind = status }) (ticket_at w place at) here law))
    one_due (sides.Opened place at) w h one e owner law = absurd (none-some one e)
    one_due (sides.Ran place at cdb payload outcome) w h one e owner law = absurd (none-some one e)
    one_due (sides.Dead place cause) w h one e owner law = absurd (none-some one e)
    one_due (sides.Unsolicited place) w h one e owner law = absurd (none-some one e)
    one_due (sides.Unsent place) w h one e owner law = absurd (none-some one e)
    one_due (sides.Own note) w h one e owner law = absurd h
    one_due (sides.Cut place cause) w h one e owner law = absurd h
    one_due (sides.Managed node function subject status login) w h one e owner law = absurd h
    one_due (sides.ManageFailed node cause) w h one e owner law = absurd h
    one_due (sides.Held login) w h one e owner law = absurd h
    one_due (sides.Expired login) w h one e owner law = absurd h
    one_due (sides.Back login) w h one e owner law = absurd h
    one_due (sides.Left login) w h one e owner law = absurd h
    one_due (sides.Cleared unit) w h one e owner law = absurd h

    pub law_before : (later before : List Moment) → PassLaw wild (later ++ before) → PassLaw wild before
    law_before [] before law = law
    law_before (m ∷ later) before law = law_before later before law.1

    behind_one : (side : Side) (later : List Side) (w : WorldState) → AreOf q (side ∷ later) → (one : EndSide) → (holder w q).initiator ≡ i → (let u = told 0 side w in PassLaw wild (hist past (told_all 0 later u)) → (told_end later ≡ Some one → IsDue i (hist past u) (hist past (told_all 0 later u)) (ticket_of u i one.orb) one) → (x : Option EndSide) → told_end later ≡ x → or_before x (one_end side) ≡ Some one → IsDue i (hist past w) (hist past (told_all 0 later u)) (ticket_of w i one.orb) one)
    behind_one side later w h one owner law due (Some x) f g =
        let l = one_leaves side w h.0 in
        let d = due (f ∙ g) in
        let t = l.tickets i one.orb in
        let grow = ends_grow l.more (hist past w) i d.list in
        let same = ap (λ ms. ends ms i d.list) l.is in
        let after = d.after in
        record {
          list = d.list;
          number = d.number;
          list_is = ap list_in (sym t) ∙ d.list_is;
          number_is = ap orb_in (sym t) ∙ d.number_is;
          due = d.due;
          status = d.status;
          after = omega (arith, grow, same, after);
          latest = d.latest ∙ l.begun i;
          below = subst (λ m. d.number < m) (l.appended i d.list) d.below;
        }
    behind_one side later w h one owner law due None f g =
        let u = told 0 side w in
        let r = all_leave later u h.1 in
        let s = none_same later u h.1 f in
        let d = one_due side w h.0 one g owner (law_before r.more (hist past u) (subst (PassLaw wild) (sym r.is) law)) in
        record {
          list = d.list;
          number = d.number;
          list_is = d.list_is;
          number_is = d.number_is;
          due = s.due ∙ d.due;
          status = s.status i d.list d.number ∙ d.status;
          after = d.after;
          latest = d.latest;
          below = d.below;
        }

    pub told_due : (side : List Side) (w : WorldState) → AreOf q side → (one : EndSide) → told_end side ≡ Some one → (holder w q).initiator ≡ i → PassLaw wild (hist past (told_all 0 side w)) → IsDue i (hist past w) (hist past (told_all 0 side w)) (ticket_of w i one.orb) one
    unfolding told_all
    told_due [] w h one e owner law = absurd (none-some one e)
    told_due (side ∷ later) w h one e owner law =
        let u = told 0 side w in
        let l = one_leaves side w h.0 in
        behind_one side later w h one owner law (λ f. told_due later u h.1 one f (l.owner ∙ owner) law) (told_end later) refl e
