-- What the lines of a run carry on of the initiators of its world: a statement on a history and an initiator that stays as others tell and do
-- something, and that each call of the initiator itself keeps.
use Rattle.sbp_world.proofs.Words.Std.{arith, ◌≡◌, refl, sym, ◌∙◌, ap, subst, ℕ, suc, ◌+◌, ◌<◌, ◌==◌, not, Bool, true, false, List, [], ◌∷◌, length, get_or, Option, Some, None, nat_tests}
use Rattle.sbp_world.proofs.Words.Wire.{LabelParts, expiring_step, judging_step, seeing_step, Moment, asks, said, terms, OutboxState, empty_outbox, Action, Event, Note, Outgoing, Side, node_of, topology_at, judged_note, list_in, orb_in, check_of, function_word, login_if}
use Rattle.sbp_world.proofs.Words.Target.{NodeState}
use Rattle.sbp_world.proofs.Words.Initiator.{IsAction, act_step, Turn, new_state, expire_step, receive_step, see_step, InitiatorState}
use Rattle.sbp_world.proofs.Words.Laws.{event_of}
use Rattle.sbp_world.proofs.Words.World.{FillsAction, handed_out, asked, posted, sent, sent_all, sent_to, holder, initiator_of, ticket_of, told, told_all, WorldState, initiator_at, with_initiator, with_note, with_target, behind, AreNotes, AreOthers, IsOther, history}
use Rattle.std.proofs.lemmas.List.{length-set}
use Rattle.sbp_journal.specs.declared.event.Event.TheVariants as events
use Rattle.sbp_journal.specs.declared.note.Note.TheVariants as notes
use Rattle.sbp_journal.specs.declared.side.Side.TheVariants as sides
use Rattle.sbp_world.proofs.Hosts.Asked.{IsRequest, number_in}
use Rattle.sbp_world.proofs.Hosts.Outboxes.{all_own, line_stays as line_same}
use Rattle.sbp_world.proofs.Hosts.Hosting.{hands_keep, state_here, state_there}
use Rattle.sbp_world.proofs.Hosts.Mild.{AreMild, FromTarget, IsMild}
use Rattle.sbp_world.proofs.Hosts.Shown.{IsElsewhere, IsHeard, IsShown}

-- a note says nothing of an initiator
abbrev pub is_apart : ℕ → Note → Bool
is_apart i (notes.Begin initiators ready) = false
is_apart i (notes.Append j n k cdb buffer) = not (i == j)
is_apart i (notes.Low j n k) = not (i == j)
is_apart i (notes.Linked j n k) = not (i == j)
is_apart i (notes.Dummied j n k) = not (i == j)
is_apart i (notes.Rung j n k) = not (i == j)
is_apart i (notes.Taken j n k status answer) = not (i == j)
is_apart i (notes.Drop j n) = not (i == j)
is_apart i (notes.Op j operation word) = not (i == j)
is_apart i (notes.Stuck j) = not (i == j)
is_apart i (notes.Sent serial generation from to bytes) = not (from == suc i)
is_apart i (notes.Seen node generation) = not (node == suc i)
is_apart i _ = true

-- a line is no action of an initiator
abbrev pub IsNoAct : ℕ → Option Event → Type 0
IsNoAct i (Some (events.Act j action)) = (i == j) ≡ false
IsNoAct i _ = Unit {0}

-- what an initiator tells in a call, and what it is then
pub record Tells (P : List Moment → ℕ → InitiatorState → Type 0) (past : List Moment) (i : ℕ) (t : Turn) : Type 0 where
  pub own : P (behind t.0.sides past) i t.1
  pub others : (j : ℕ) (x : InitiatorState) → (j == i) ≡ false → P past j x → P (behind t.0.sides past) j x

-- an action that is done: what it tells, and the request behind that, if it makes one
pub record Does (P : List Moment → ℕ → InitiatorState → Type 0) (past : List Moment) (i : ℕ) (t : Turn) : Type 0 where
  pub others : (j : ℕ) (x : InitiatorState) → (j == i) ≡ false → P past j x → P (behind t.0.sides past) j x
  pub quiet : t.0.packets ≡ [] → P (behind t.0.sides past) i t.1
  pub asking : (packet : Outgoing) → t.0.packets ≡ packet ∷ [] → (serial generation : ℕ) → (terms past).injected serial ≡ false → IsRequest (number_in packet.label) packet.bytes → P (said (notes.Sent serial generation (suc i) 0 packet.bytes) ∷ behind t.0.sides past) i t.1

-- the action of a line
abbrev pub IsLineOf : Action → Type 0
IsLineOf action = IsAction action × FillsAction action

-- Q is what is known of an initiator as a line begins: an action that is done may ask for it.
-- `Sends` is what is known of a packet that is sent, and of the line, where initiator i sends none for its action.
pub record CarriesBy (Sends : (i : ℕ) → Option Event → (from : ℕ) → List ℕ → Type 0) (Q P : List Moment → ℕ → InitiatorState → Type 0) : Type 0 where
  pub known : (line : ℕ) (event : Event) (past : List Moment) (i : ℕ) (s : InitiatorState) → Q past i s → Q (asks line event ∷ past) i s
  pub number : (past : List Moment) (i : ℕ) (s : InitiatorState) → P past i s → s.number ≡ i
  pub asked : (line : ℕ) (event : Event) (past : List Moment) (i : ℕ) (s : InitiatorState) → P past i s → P (asks line event ∷ past) i s
  pub apart : (note : Note) (past : List Moment) (i : ℕ) (s : InitiatorState) → is_apart i note ≡ true → IsElsewhere past i note → P past i s → P (said note ∷ past) i s
  pub sent : (serial generation from to : ℕ) (bytes : List ℕ) (past : List Moment) (i : ℕ) (s : InitiatorState) → Sends i (event_of past) from bytes → P past i s → P (said (notes.Sent serial generation from to bytes) ∷ past) i s
  pub hears : (serial generation : ℕ) (bytes : List ℕ) (past : List Moment) (i : ℕ) (s : InitiatorState) → IsHeard past i serial generation bytes → IsShown past i s.target s.layer → IsShown (said (judged_note serial (receive_step generation bytes empty_outbox s).0) ∷ past) i s.target (judging_step s.layer generation bytes).1 → P past i s → Tells P (said (judged_note serial (receive_step generation bytes empty_outbox s).0) ∷ past) i (receive_step generation bytes empty_outbox s).1
  pub expires : (serial : ℕ) (label : LabelParts) (past : List Moment) (i : ℕ) (s : InitiatorState) → IsShown (said (notes.TimedOut serial) ∷ past) i s.target (expiring_step s.layer s.target label).1 → P past i s → Tells P (said (notes.TimedOut serial) ∷ past) i (expire_step label empty_outbox s).1
  pub stale : (label : LabelParts) (past : List Moment) (i : ℕ) (s : InitiatorState) → (expire_step label empty_outbox s).0 ≡ false → P past i s → P past i (expire_step label empty_outbox s).1.1
  pub sees : (generation id target : ℕ) (past : List Moment) (i : ℕ) (s : InitiatorState) → (seeing_step s.layer generation id).0 ≡ not (generation == (terms past).generation (suc i)) → P past i s → Tells P (said (notes.Seen (suc i) generation) ∷ past) i (see_step generation id target empty_outbox s)
  pub acts : (action : Action) (past : List Moment) (i : ℕ) (s : InitiatorState) → event_of past ≡ Some (events.Act i action) → IsLineOf action → (act_step action empty_outbox s).0 ≡ None → IsShown past i s.target s.layer → Q past i s → P past i s → Does P past i (act_step action empty_outbox s).1

-- the line is no action of that initiator
abbrev pub NoAct : (i : ℕ) → Option Event → (from : ℕ) → List ℕ → Type 0
NoAct i event from bytes = IsNoAct i event

abbrev pub Carries : (Q P : List Moment → ℕ → InitiatorState → Type 0) → Type 0
Carries Q P = CarriesBy NoAct Q P

-- and the target writes no quadlet
abbrev pub FromOther : (i : ℕ) → Option Event → (from : ℕ) → List ℕ → Type 0
FromOther i event from bytes = IsNoAct i event × (from ≡ 0 → IsMild bytes)

abbrev pub CarriesSent : (Q P : List Moment → ℕ → InitiatorState → Type 0) → Type 0
CarriesSent Q P = CarriesBy FromOther Q P

pub by_more : {Q P : List Moment → ℕ → InitiatorState → Type 0} → Carries Q P → CarriesSent Q P
by_more law = record {
  known = law.known;
  number = law.number;
  asked = law.asked;
  apart = law.apart;
  sent = λ serial generation from to bytes past i s n h. law.sent serial generation from to bytes past i s n.0 h;
  hears = law.hears;
  expires = law.expires;
  stale = law.stale;
  sees = law.sees;
  acts = law.acts;
}

-- nothing is known
abbrev pub Nothing : List Moment → ℕ → InitiatorState → Type 0
Nothing past i s = Unit {0}

-- what holds of all initiators of a world, of all but one, and that its line is no action
abbrev pub Are : (List Moment → ℕ → InitiatorState → Type 0) → List Moment → WorldState → Type 0
Are P past w = (i : ℕ) → i < length w.initiators → P (history w past) i (initiator_at w i)

abbrev pub AreBut : (List Moment → ℕ → InitiatorState → Type 0) → List Moment → ℕ → WorldState → Type 0
AreBut P past i w = (j : ℕ) → j < length w.initiators → (j == i) ≡ false → P (history w past) j (initiator_at w j)

abbrev pub NoneActs : List Moment → Type 0
NoneActs past = (i : ℕ) → IsNoAct i (event_of past)

pub are_on : (P : List Moment → ℕ → InitiatorState → Type 0) (past : List Moment) (w x : WorldState) → x.initiators ≡ w.initiators → ((i : ℕ) → i < length w.initiators → P (history x past) i (initiator_at w i)) → Are P past x
are_on P past w x e h i b =
    subst (λ (xs : List InitiatorState). P (history x past) i (get_or xs i (new_state 0 false))) (sym e) (h i (subst (λ (xs : List InitiatorState). i < length xs) e b))

no_act : (past : List Moment) (w x : WorldState) (i : ℕ) → IsNoAct i (event_of (history w past)) → IsNoAct i (event_of (history x past))
no_act past w x i n = subst (IsNoAct i) (line_same w.fresh past ∙ sym (line_same x.fresh past)) n

-- what the line is, and what holds, behind one more packet
pub record Still (P : List Moment → ℕ → InitiatorState → Type 0) (past : List Moment) (i : ℕ) (s : InitiatorState) (w : WorldState) : Type 0 where
  pub line : IsNoAct i (event_of (history w past))
  pub kept : P (history w past) i s

module _ {Q : List Moment → ℕ → InitiatorState → Type 0} (P : List Moment → ℕ → InitiatorState → Type 0) (law : CarriesSent Q P) where
  -- ---- what the target tells

  module _ (past : List Moment) (weight i : ℕ) (s : InitiatorState) where
    told_still : (note : Note) (w : WorldState) → is_apart i note ≡ true → IsElsewhere (history w past) i note → P (history w past) i s → P (said note ∷ history w past) i s
    told_still note w e f h = law.apart note (history w past) i s e f h

    one_other : (side : Side) (w : WorldState) → IsOther side → P (history w past) i s → P (history (told weight side w) past) i s
    unfolding told
    one_other (sides.Own note) w f h = absurd f
    one_other (sides.Opened place orb) w f h = h
    one_other (sides.Ran place orb cdb payload outcome) w f h = told_still (notes.Ran (holder w place).initiator (list_in (ticket_of w (holder w place).initiator orb)) (orb_in (ticket_of w (holder w place).initiator orb)) (holder w place).unit cdb payload (check_of outcome)) w refl tt h
    one_other (sides.Ended place orb status) w f h = told_still (notes.Ended (holder w place).initiator (list_in (ticket_of w (holder w place).initiator orb)) (orb_in (ticket_of w (holder w place).initiator orb)) status) w refl tt h
    one_other (sides.Dead place cause) w f h = told_still (notes.Dead (holder w place).initiator (holder w place).list cause) w refl tt h
    one_other (sides.Cut place cause) w f h = told_still (notes.Cut (holder w place).initiator (holder w place).list cause) w refl tt h
    one_other (sides.Managed node function subject status login) w f h = told_still (notes.Managed (initiator_of w node) (function_word function) subject status (login_if (function_word function) status login)) w refl tt h
    one_other (sides.ManageFailed node cause) w f h = told_still (notes.ManageFailed (initiator_of w node) cause) w refl tt h
    one_other (sides.Held login) w f h = told_still (notes.Held login) w refl tt h
    one_other (sides.Expired login) w f h = told_still (notes.Expired login) w refl tt h
    one_other (sides.Back login) w f h = told_still (notes.Back login) w refl tt h
    one_other (sides.Left login) w f h = told_still (notes.Left login) w refl tt h
    one_other (sides.Cleared unit) w f h = told_still (notes.Cleared unit) w refl tt h
    one_other (sides.Unsolicited place) w f h = told_still (notes.Unsolicited (holder w place).initiator) w refl tt h
    one_other (sides.Unsent place) w f h = told_still (notes.Unsent (holder w place).initiator) w refl tt h

    all_others : (side : List Side) (w : WorldState) → AreOthers side → P (history w past) i s → P (history (told_all weight side w) past) i s
    unfolding told_all
    all_others [] w f h = h
    all_others (side ∷ later) w f h = all_others later (told weight side w) f.1 (one_other side w f.0 h)

  -- ---- packets

  module _ (past : List Moment) (i : ℕ) (s : InitiatorState) where
    asked_still : (serial to node peer : ℕ) (label : Option LabelParts) (w : WorldState) → Still P past i s w → Still P past i s (asked serial to node peer label w)
    asked_still serial to node peer None w h = h
    asked_still serial to node peer (Some label) w h = record { line = h.line; kept = h.kept }

    posted_still : (from to : ℕ) (bytes : List ℕ) (w : WorldState) → (from ≡ 0 → IsMild bytes) → Still P past i s w → Still P past i s (posted from to false bytes w)
    unfolding posted
    posted_still from to bytes w m h = record {
      line = h.line;
      kept = law.sent (w.store.last + 1) (topology_at w.generations from).generation from to bytes (history w past) i s (h.line, m) h.kept;
    }

    to_still : (to : Option ℕ) (from : ℕ) (packet : Outgoing) (w : WorldState) → (from ≡ 0 → IsMild packet.bytes) → Still P past i s w → Still P past i s (sent_to to from packet w)
    to_still None from packet w m h = h
    to_still (Some to) from packet w m h = asked_still (w.store.last + 1) to from packet.to packet.label (posted from to false packet.bytes w) (posted_still from to packet.bytes w m h)

    sent_still : (from : ℕ) (packet : Outgoing) (w : WorldState) → (from ≡ 0 → IsMild packet.bytes) → Still P past i s w → Still P past i s (sent from packet w)
    unfolding sent
    sent_still from packet w m h = to_still (node_of w.generations from packet.to) from packet w m h

    all_still : (from : ℕ) (packets : List Outgoing) (w : WorldState) → (from ≡ 0 → AreMild packets) → Still P past i s w → Still P past i s (sent_all from packets w)
    unfolding sent_all
    all_still from [] w m h = h
    all_still from (packet ∷ later) w m h = all_still from later (sent from packet w) (λ e. (m e).1) (sent_still from packet w (λ e. (m e).0) h)

  -- ---- what a node hands out, in a line that is no action

  own_node : {A : Type 0} (from : ℕ) → from ≡ 0 → (from == 0) ≡ false → A
  own_node from e z = absurd (let no : true ≡ false = sym (ap (λ n. n == 0) e) ∙ z in cc)

  pub target_hands : (past : List Moment) (w : WorldState) (node : NodeState) (from weight : ℕ) (outbox : OutboxState) → FromTarget outbox → NoneActs (history w past) → Are P past w → Are P past (handed_out from weight outbox (with_target node w))
  target_hands past w node from weight outbox o n h =
      let v = with_target node w in
      let x = told_all weight outbox.sides v in
      are_on P past v (handed_out from weight outbox v) (hands_keep from weight outbox v)
      (λ i b. (all_still past i (initiator_at w i) from outbox.packets x (λ e. o.1) (record { line = no_act past v x i (n i); kept = all_others past weight i (initiator_at w i) outbox.sides v o.0 (h i b) })).kept)

  -- what holds behind the notes of an initiator
  all_told : (past : List Moment) (ms : List Moment) (w : WorldState) (i : ℕ) (s : InitiatorState) → i < length w.initiators → P ms i s → ((j : ℕ) → j < length w.initiators → (j == i) ≡ false → P ms j (initiator_at w j)) → (j : ℕ) → j < length w.initiators → P ms j (initiator_at (with_initiator i s w) j)
  all_told past ms w i s inside own others j b = each (j == i) refl
    where
      each : (c : Bool) → (j == i) ≡ c → P ms j (initiator_at (with_initiator i s w) j)
      each true e =
          let same : i ≡ j = grind (arith, nat_tests) in
          subst (λ m. P ms m (initiator_at (with_initiator i s w) m)) same
          (subst (P ms i) (sym (state_here w.initiators i s (new_state 0 false) inside)) own)
      each false e = subst (P ms j) (sym (state_there w.initiators i j s (new_state 0 false) e inside)) (others j b e)

  pub initiator_hands : (past : List Moment) (w : WorldState) (i from weight : ℕ) (t : Turn) → (from == 0) ≡ false → i < length w.initiators → AreNotes t.0.sides → NoneActs (history w past) → Tells P (history w past) i t → AreBut P past i w → Are P past (handed_out from weight t.0 (with_initiator i t.1 w))
  initiator_hands past w i from weight t z inside own n tells but =
      let v = with_initiator i t.1 w in
      let x = told_all weight t.0.sides v in
      let told_is : history x past ≡ behind t.0.sides (history w past) = all_own past weight t.0.sides v own in
      are_on P past v (handed_out from weight t.0 v) (hands_keep from weight t.0 v)
      (λ j b. (all_still past j (initiator_at v j) from t.0.packets x (λ e. own_node from e z) (record {
        line = no_act past w x j (n j);
        kept = subst (λ ms. P ms j (initiator_at v j)) (sym told_is)
            (all_told past (behind t.0.sides (history w past)) w i t.1 inside tells.own (λ k c e. tells.others k (initiator_at w k) e (but k c e)) j (subst (λ m. j < m) (length-set w.initiators i t.1) b));
      })).kept)

  pub note_carried : (past : List Moment) (w : WorldState) (note : Note) → ((i : ℕ) → is_apart i note ≡ true) → ((i : ℕ) → IsElsewhere (history w past) i note) → Are P past w → Are P past (with_note note w)
  note_carried past w note e f h i b = law.apart note (history w past) i (initiator_at w i) (e i) (f i) (h i b)

  -- of all but one
  pub note_beside : (past : List Moment) (w : WorldState) (note : Note) (i : ℕ) → ((j : ℕ) → is_apart j note ≡ true) → ((j : ℕ) → (j == i) ≡ false → IsElsewhere (history w past) j note) → Are P past w → AreBut P past i (with_note note w)
  note_beside past w note i e f h j b g = law.apart note (history w past) j (initiator_at w j) (e j) (f j g) (h j b)

  -- ---- what an action hands out

  module _ (past : List Moment) (w : WorldState) (i : ℕ) (t : Turn) (inside : i < length w.initiators) (own : AreNotes t.0.sides) (does : Does P (history w past) i t) (but : AreBut P past i w) where
    abbrev behind_all : List Moment
    behind_all = behind t.0.sides (history w past)

    others_there : (j : ℕ) → j < length w.initiators → (j == i) ≡ false → P behind_all j (initiator_at w j)
    others_there j b e = does.others j (initiator_at w j) e (but j b e)

    pub quiet_hands : (weight : ℕ) → t.0.packets ≡ [] → Are P past (handed_out (i + 1) weight t.0 (with_initiator i t.1 w))
    unfolding sent_all
    quiet_hands weight none =
        let v = with_initiator i t.1 w in
        let x = told_all weight t.0.sides v in
        let told_is : history x past ≡ behind_all = all_own past weight t.0.sides v own in
        subst (λ ps. Are P past (sent_all (i + 1) ps x)) (sym none)
        (are_on P past v x (hands_keep (i + 1) weight (record t.0 { packets = [] }) v)
        (λ j b. subst (λ ms. P ms j (initiator_at v j)) (sym told_is)
        (all_told past behind_all w i t.1 inside (does.quiet none) others_there j (subst (λ m. j < m) (length-set w.initiators i t.1) b))))

    by_label : (serial to node peer : ℕ) (label : Option LabelParts) (x : WorldState) → history (asked serial to node peer label x) past ≡ history x past
    by_label serial to node peer None x = refl
    by_label serial to node peer (Some label) x = refl

    -- what is told of its request
    abbrev leaving : WorldState → Outgoing → Moment
    leaving x packet = said (notes.Sent (x.store.last + 1) (topology_at x.generations (i + 1)).generation (suc i) 0 packet.bytes)

    request_told : (x : WorldState) (packet : Outgoing) → node_of x.generations (i + 1) packet.to ≡ Some 0 → history (sent_all (i + 1) (packet ∷ []) x) past ≡ leaving x packet ∷ history x past
    unfolding sent_all sent posted
    request_told x packet there =
        ap (λ found. history (sent_to found (i + 1) packet x) past) there
        ∙ by_label (x.store.last + 1) 0 (i + 1) packet.to packet.label (posted (i + 1) 0 false packet.bytes x)
        ∙ ap (λ n. said (notes.Sent (x.store.last + 1) (topology_at x.generations (i + 1)).generation n 0 packet.bytes) ∷ history x past) (let e : i + 1 ≡ suc i = omega arith in e)

    pub asking_hands : (weight : ℕ) (packet : Outgoing) → t.0.packets ≡ packet ∷ [] → (let x = told_all weight t.0.sides (with_initiator i t.1 w) in node_of x.generations (i + 1) packet.to ≡ Some 0 × ((terms (history w past)).injected (x.store.last + 1) ≡ false)) → IsRequest (number_in packet.label) packet.bytes → Are P past (handed_out (i + 1) weight t.0 (with_initiator i t.1 w))
    asking_hands weight packet one k q =
        let v = with_initiator i t.1 w in
        let x = told_all weight t.0.sides v in
        let told_is : history x past ≡ behind_all = all_own past weight t.0.sides v own in
        let leaves = leaving x packet in
        let now : history (sent_all (i + 1) (packet ∷ []) x) past ≡ leaves ∷ behind_all = request_told x packet k.0 ∙ ap (λ ms. leaves ∷ ms) told_is in
        subst (λ ps. Are P past (sent_all (i + 1) ps x)) (sym one)
        (are_on P past v (sent_all (i + 1) (packet ∷ []) x) (hands_keep (i + 1) weight (record t.0 { packets = packet ∷ [] }) v)
        (λ j b. subst (λ ms. P ms j (initiator_at v j)) (sym now)
        (all_told past (leaves ∷ behind_all) w i t.1 inside (does.asking packet one (x.store.last + 1) (topology_at x.generations (i + 1)).generation k.1 q)
        (λ m c e. law.apart (notes.Sent (x.store.last + 1) (topology_at x.generations (i + 1)).generation (suc i) 0 packet.bytes) behind_all m (initiator_at w m) (let f : (suc i == suc m) ≡ false = grind (arith, nat_tests) in ap not f) (let z : (suc i == 0) ≡ false = grind (arith, nat_tests) in z) (others_there m c e))
        j (subst (λ m. j < m) (length-set w.initiators i t.1) b))))
