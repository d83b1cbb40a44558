-- Each login of an initiator that is done in a run stands on a status block that it got for it, with status 00; each logout that is refused, on one with another.
use Rattle.sbp_world.proofs.Words.Std.{arith, ◌≡◌, ◌∙◌, sym, ap, subst, ◌⊎◌, inl, inr, ℕ, suc, ◌<◌, ◌==◌, not, Bool, true, false, List, [], ◌∷◌, length, Some, None, Ok, nat_tests}
use Rattle.sbp_world.proofs.Words.Wire.{LabelParts, Packet, write_block, reading, expiring_step, judging_step, seeing_step, judged_note, empty_outbox, Moment, asks, said, terms, Judged, Action, Note, Operation, OpWord, Side}
use Rattle.sbp_world.proofs.Words.Target.{Disk}
use Rattle.sbp_world.proofs.Words.Initiator.{act_step, Running, InitiatorState, Turn, new_state, expire_step, receive_step, see_step, is_out_seat}
use Rattle.sbp_world.proofs.Words.Laws.{EachMoment, event_of}
use Rattle.sbp_world.proofs.Words.World.{behind, after, beginning, WorldState, GrantedAt, IsAnswerTo, IsGot}
use Rattle.sbp_world.proofs.Hosts.ActLeft.{act_left}
use Rattle.sbp_world.proofs.Hosts.Answering.{request_of}
use Rattle.sbp_world.proofs.Hosts.Carried.{between_runs, of_runs}
use Rattle.sbp_world.proofs.Hosts.Carries.{Carries, Does, IsLineOf, Nothing, Tells, is_apart}
use Rattle.sbp_world.proofs.Hosts.Hosted.{Cored, cored_carried, expires_fit, first_cored, hears_fit}
use Rattle.sbp_world.proofs.Hosts.Layered.{AreTame, expire_left, receive_left}
use Rattle.sbp_world.proofs.Hosts.Pointed.{stale_is}
use Rattle.sbp_world.proofs.Hosts.PointSees.{see_left}
use Rattle.sbp_world.proofs.Hosts.Shown.{IsHeard, IsShown}
use Rattle.sbp_journal.specs.declared.cause.Judged.TheVariants as judgements
use Rattle.sbp_journal.specs.declared.event.Event.TheVariants as events
use Rattle.sbp_journal.specs.declared.note.Note.TheVariants as notes
use Rattle.sbp_journal.specs.declared.operation.Operation.TheVariants as operations
use Rattle.sbp_journal.specs.declared.operation.OpWord.TheVariants as words
use Rattle.sbp_journal.specs.declared.side.Side.TheVariants as sides
use Rattle.sbp_world.proofs.Lists.Courses.{EveryPlace}
use Rattle.sbp_world.proofs.Lists.LiveDone.{AllDone, IfDone, NoStatus, Nobody, act_none, lapse_none, sight_none}
use Rattle.sbp_world.proofs.Lists.LiveHears.{IsAnswered}
use Rattle.sbp_world.proofs.Lists.LoginShapes.{IsEnd, call_ends, enters, stays}
use Rattle.sbp_world.proofs.Lists.ManageFinds.{block_is_got}
use Rattle.sbp_world.proofs.Lists.ManageOwn.{at_host}
use Rattle.sbp_world.proofs.Hosts.Runs.{count_after, count_between}
use Rattle.sbp_world.proofs.Lists.ManageOwn.{is_orb}
use Rattle.sbp_world.proofs.Common.{untrue}

-- ---- notes that tell of no login that is done

abbrev Apart : ℕ → ℕ → Type 0
Apart i j = (j == i) ≡ false

abbrev ApartOf : ℕ → ℕ → ℕ → Type 0
ApartOf i j status = (j == i) ≡ false

module _ (i : ℕ) where
  none_word : (j : ℕ) (operation : Operation) (word : OpWord) → IfDone Nobody NoStatus (sides.Own (notes.Op j operation word)) → IfDone (Apart i) (ApartOf i) (sides.Own (notes.Op j operation word))
  none_word j operations.Login words.Done x = absurd x
  none_word j operations.Rom words.Done x = tt
  none_word j operations.Query words.Done x = tt
  none_word j operations.Reconnect words.Done x = tt
  none_word j operations.Logout words.Done x = tt
  none_word j operations.Abort words.Done x = tt
  none_word j operations.AbortSet words.Done x = tt
  none_word j operations.UnitReset words.Done x = tt
  none_word j operations.TargetReset words.Done x = tt
  none_word j operations.AgentReset words.Done x = tt
  none_word j operations.State words.Done x = tt
  none_word j operations.Enable words.Done x = tt
  none_word j operations.Login (words.Refused status) x = tt
  none_word j operations.Rom (words.Refused status) x = tt
  none_word j operations.Query (words.Refused status) x = tt
  none_word j operations.Reconnect (words.Refused status) x = tt
  none_word j operations.Logout (words.Refused status) x = absurd x
  none_word j operations.Abort (words.Refused status) x = tt
  none_word j operations.AbortSet (words.Refused status) x = tt
  none_word j operations.UnitReset (words.Refused status) x = tt
  none_word j operations.TargetReset (words.Refused status) x = tt
  none_word j operations.AgentReset (words.Refused status) x = tt
  none_word j operations.State (words.Refused status) x = tt
  none_word j operations.Enable (words.Refused status) x = tt
  none_word j operation words.Conflict x = tt
  none_word j operation words.Error x = tt
  none_word j operation words.Reset x = tt
  none_word j operation (words.Count count) x = tt
  none_word j operation (words.Bad fault) x = tt
  none_word j operation words.NoUnit x = tt
  none_word j operation (words.State value) x = tt

  none_side : (side : Side) → IfDone Nobody NoStatus side → IfDone (Apart i) (ApartOf i) side
  none_side (sides.Own (notes.Op j operation word)) x = none_word j operation word x
  none_side side x = tt

  none_all : (told : List Side) → AllDone Nobody NoStatus told → AllDone (Apart i) (ApartOf i) told
  none_all [] x = tt
  none_all (side ∷ later) x = (none_side side x.0, none_all later x.1)

  word_granted : (j : ℕ) (operation : Operation) (word : OpWord) (past : List Moment) → IfDone (Apart i) (ApartOf i) (sides.Own (notes.Op j operation word)) → GrantedAt i (said (notes.Op j operation word)) past
  word_granted j operations.Login words.Done past x = λ e. untrue (sym x ∙ e)
  word_granted j operations.Login (words.Refused status) past x = tt
  word_granted j operations.Login words.Conflict past x = tt
  word_granted j operations.Login words.Error past x = tt
  word_granted j operations.Login words.Reset past x = tt
  word_granted j operations.Login (words.Count count) past x = tt
  word_granted j operations.Login (words.Bad fault) past x = tt
  word_granted j operations.Login words.NoUnit past x = tt
  word_granted j operations.Login (words.State value) past x = tt
  word_granted j operations.Logout words.Done past x = tt
  word_granted j operations.Logout (words.Refused status) past x = λ e. untrue (sym x ∙ e)
  word_granted j operations.Logout words.Conflict past x = tt
  word_granted j operations.Logout words.Error past x = tt
  word_granted j operations.Logout words.Reset past x = tt
  word_granted j operations.Logout (words.Count count) past x = tt
  word_granted j operations.Logout (words.Bad fault) past x = tt
  word_granted j operations.Logout words.NoUnit past x = tt
  word_granted j operations.Logout (words.State value) past x = tt
  word_granted j operations.Rom word past x = tt
  word_granted j operations.Query word past x = tt
  word_granted j operations.Reconnect word past x = tt
  word_granted j operations.Abort word past x = tt
  word_granted j operations.AbortSet word past x = tt
  word_granted j operations.UnitReset word past x = tt
  word_granted j operations.TargetReset word past x = tt
  word_granted j operations.AgentReset word past x = tt
  word_granted j operations.State word past x = tt
  word_granted j operations.Enable word past x = tt

  note_granted : (note : Note) (past : List Moment) → IfDone (Apart i) (ApartOf i) (sides.Own note) → GrantedAt i (said note) past
  note_granted (notes.Op j operation word) past x = word_granted j operation word past x
  note_granted note past x = tt

  judged_granted : (serial : ℕ) (judged : Judged) (past : List Moment) → GrantedAt i (said (judged_note serial judged)) past
  judged_granted serial judgements.Got past = tt
  judged_granted serial (judgements.Ignored cause) past = tt

  behind_granted : (told : List Side) (past : List Moment) → AreTame told → AllDone (Apart i) (ApartOf i) told → EachMoment (GrantedAt i) past → EachMoment (GrantedAt i) (behind told past)
  behind_granted [] past t x h = h
  behind_granted (sides.Own note ∷ later) past t x h = behind_granted later (said note ∷ past) t.1 x.1 (note_granted note past x.0, h)
  behind_granted (side ∷ later) past t x h = absurd t.0

  -- a note of others
  apart_word : (j : ℕ) (operation : Operation) (word : OpWord) → Apart i j → IfDone (Apart i) (ApartOf i) (sides.Own (notes.Op j operation word))
  apart_word j operations.Login words.Done e = e
  apart_word j operations.Rom words.Done e = tt
  apart_word j operations.Query words.Done e = tt
  apart_word j operations.Reconnect words.Done e = tt
  apart_word j operations.Logout words.Done e = tt
  apart_word j operations.Abort words.Done e = tt
  apart_word j operations.AbortSet words.Done e = tt
  apart_word j operations.UnitReset words.Done e = tt
  apart_word j operations.TargetReset words.Done e = tt
  apart_word j operations.AgentReset words.Done e = tt
  apart_word j operations.State words.Done e = tt
  apart_word j operations.Enable words.Done e = tt
  apart_word j operations.Login (words.Refused status) e = tt
  apart_word j operations.Rom (words.Refused status) e = tt
  apart_word j operations.Query (words.Refused status) e = tt
  apart_word j operations.Reconnect (words.Refused status) e = tt
  apart_word j operations.Logout (words.Refused status) e = e
  apart_word j operations.Abort (words.Refused status) e = tt
  apart_word j operations.AbortSet (words.Refused status) e = tt
  apart_word j operations.UnitReset (words.Refused status) e = tt
  apart_word j operations.TargetReset (words.Refused status) e = tt
  apart_word j operations.AgentReset (words.Refused status) e = tt
  apart_word j operations.State (words.Refused status) e = tt
  apart_word j operations.Enable (words.Refused status) e = tt
  apart_word j operation words.Conflict e = tt
  apart_word j operation words.Error e = tt
  apart_word j operation words.Reset e = tt
  apart_word j operation (words.Count count) e = tt
  apart_word j operation (words.Bad fault) e = tt
  apart_word j operation words.NoUnit e = tt
  apart_word j operation (words.State value) e = tt

  apart_note : (note : Note) → is_apart i note ≡ true → IfDone (Apart i) (ApartOf i) (sides.Own note)
  apart_note (notes.Op j operation word) e = apart_word j operation word (let x : not (i == j) ≡ true = e in let y : (j == i) ≡ false = grind (arith, nat_tests) in y)
  apart_note note e = tt

-- ---- the place of a management ORB that an operation has

-- ---- the status block that is got

module _ (ready : Bool) (past : List Moment) (i : ℕ) (s : InitiatorState) (c : Cored ready past i s) (serial generation : ℕ) (bytes : List ℕ) (heard : IsHeard past i serial generation bytes) (shown : IsShown past i s.target s.layer) (running : Running) (operation : Operation) (status : ℕ) (a : IsAnswered s generation bytes running status) (same : running.operation ≡ operation) where
  abbrev p : Packet
  p = write_block a.header a.offset a.payload

  read_it : reading heard.packet.bytes ≡ Ok p
  read_it = ap reading heard.bytes_are ∙ (request_of s.layer generation bytes p a.found).read

  same_generation : s.layer.generation ≡ heard.packet.generation
  same_generation = sym (request_of s.layer generation bytes p a.found).current ∙ sym heard.generation_is

  of_target : heard.packet.from ≡ 0
  of_target =
      heard.apart s.layer.generation heard.packet.from 0
      (ap (λ g. (terms past).ids g heard.packet.from) same_generation ∙ (sym (heard.source p read_it) ∙ (a.source ∙ sym shown.named)))

  answers : IsAnswerTo past i serial operation status
  answers =
      let o = is_orb running.managed a.block.orb a.names in
      let at = at_host past i s running c.core a.under_way in
      record {
        packet = heard.packet;
        sent = heard.sent;
        to_is = heard.to_is;
        from_is = of_target;
        header = a.header;
        offset = a.offset;
        payload = a.payload;
        read = read_it;
        logins = s.counts.logins;
        is_out = is_out_seat s.seat;
        opens = a.opens;
        block = a.block;
        spelled = a.read;
        kind = a.kind;
        place = o.0;
        small = o.1.0;
        orb = o.1.1;
        underway = at.u;
        is = at.is;
        same = at.same ∙ same;
      }

  is_got : (receive_step generation bytes empty_outbox s).0 ≡ judgements.Got
  is_got = block_is_got s generation bytes running (record { header = a.header; offset = a.offset; payload = a.payload; found = a.found; source = a.source; is_open_fifo = a.opens; block = a.block; read = a.read; status = status; kind = a.kind; names = a.names }) a.under_way

  got_here : IsGot i operation status (said (judged_note serial (receive_step generation bytes empty_outbox s).0) ∷ past)
  got_here = subst (λ j. IsGot i operation status (said (judged_note serial j) ∷ past)) (sym is_got) answers

-- ---- what the lines of a run carry on

pub record Grants (ready : Bool) (past : List Moment) (i : ℕ) (s : InitiatorState) : Type 0 where
  pub cored : Cored ready past i s
  pub granted : EachMoment (GrantedAt i) past

module _ (ready : Bool) where
  abbrev P : List Moment → ℕ → InitiatorState → Type 0
  P = Grants ready

  tells_of : (now : List Moment) (i : ℕ) (t : Turn) → AreTame t.0.sides → Tells (Cored ready) now i t → AllDone Nobody NoStatus t.0.sides → EachMoment (GrantedAt i) now → Tells P now i t
  tells_of now i t tame c none h = record {
    own = record { cored = c.own; granted = behind_granted i t.0.sides now tame (none_all i t.0.sides none) h };
    others = λ j x e k. record { cored = c.others j x e k.cored; granted = behind_granted j t.0.sides now tame (none_all j t.0.sides none) k.granted };
  }

  noted : (note : Note) (past : List Moment) (i : ℕ) (s : InitiatorState) → Cored ready (said note ∷ past) i s → GrantedAt i (said note) past → P past i s → P (said note ∷ past) i s
  noted note past i s c g h = record { cored = c; granted = (g, h.granted) }

  module _ (serial generation : ℕ) (bytes : List ℕ) (past : List Moment) (i : ℕ) (s : InitiatorState) (heard : IsHeard past i serial generation bytes) (shown : IsShown past i s.target s.layer) (after : IsShown (said (judged_note serial (receive_step generation bytes empty_outbox s).0) ∷ past) i s.target (judging_step s.layer generation bytes).1) (h : P past i s) where
    abbrev t : Turn
    t = (receive_step generation bytes empty_outbox s).1

    abbrev now : List Moment
    now = said (judged_note serial (receive_step generation bytes empty_outbox s).0) ∷ past

    h_cored : Tells (Cored ready) now i t
    h_cored = (cored_carried ready).hears serial generation bytes past i s heard shown after h.cored

    now_granted : (k : ℕ) → EachMoment (GrantedAt k) past → EachMoment (GrantedAt k) now
    now_granted k e = (judged_granted k serial (receive_step generation bytes empty_outbox s).0 past, e)

    -- one note alone
    one_tells : (note : Note) → t.0.sides ≡ sides.Own note ∷ [] → GrantedAt i (said note) now → ((j : ℕ) → (j == i) ≡ false → GrantedAt j (said note) now) → Tells P now i t
    one_tells note alone own others = record {
      own = record {
        cored = h_cored.own;
        granted = subst (λ told. EachMoment (GrantedAt i) (behind told now)) (sym alone) (own, now_granted i h.granted);
      };
      others = λ j y e k. record {
        cored = h_cored.others j y e k.cored;
        granted = subst (λ told. EachMoment (GrantedAt j) (behind told now)) (sym alone) (others j e, k.granted);
      };
    }

    not_other : {A : Type 0} (j : ℕ) → (j == i) ≡ false → (s.number == j) ≡ true → A
    not_other j e f = let n : s.number ≡ i = h.cored.own.number in untrue (let z : false ≡ true = grind (arith, nat_tests) in z)

    h_by : AllDone Nobody NoStatus t.0.sides ⊎ IsEnd s generation bytes t.0.sides → Tells P now i t
    h_by (inl none) = tells_of now i t (receive_left generation bytes s).told h_cored none (now_granted i h.granted)
    h_by (inr (enters running a login alone)) =
        one_tells (notes.Op s.number operations.Login words.Done) alone
        (λ e. got_here ready past i s h.cored serial generation bytes heard shown running operations.Login 0 a login) (λ j e f. not_other j e f)
    h_by (inr (stays running status a n logout alone)) =
        one_tells (notes.Op s.number operations.Logout (words.Refused status)) alone
        (λ e. (got_here ready past i s h.cored serial generation bytes heard shown running operations.Logout status a logout, n)) (λ j e f. not_other j e f)

    hears : Tells P now i t
    hears = h_by (call_ends s generation bytes (hears_fit ready i s h.cored.own.called generation bytes))

  late : (serial : ℕ) (label : LabelParts) (past : List Moment) (i : ℕ) (s : InitiatorState) → IsShown (said (notes.TimedOut serial) ∷ past) i s.target (expiring_step s.layer s.target label).1 → P past i s → Tells P (said (notes.TimedOut serial) ∷ past) i (expire_step label empty_outbox s).1
  late serial label past i s shown h =
      tells_of (said (notes.TimedOut serial) ∷ past) i (expire_step label empty_outbox s).1 (expire_left label s).told ((cored_carried ready).expires serial label past i s shown h.cored)
      (lapse_none s label (expires_fit ready i s h.cored.own.called label)) (tt, h.granted)

  sights : (generation id target : ℕ) (past : List Moment) (i : ℕ) (s : InitiatorState) → (seeing_step s.layer generation id).0 ≡ not (generation == (terms past).generation (suc i)) → P past i s → Tells P (said (notes.Seen (suc i) generation) ∷ past) i (see_step generation id target empty_outbox s)
  sights generation id target past i s e h =
      tells_of (said (notes.Seen (suc i) generation) ∷ past) i (see_step generation id target empty_outbox s) (see_left generation id target s).told ((cored_carried ready).sees generation id target past i s e h.cored)
      (sight_none s generation id target) (tt, h.granted)

  does : (action : Action) (past : List Moment) (i : ℕ) (s : InitiatorState) → event_of past ≡ Some (events.Act i action) → IsLineOf action → (act_step action empty_outbox s).0 ≡ None → IsShown past i s.target s.layer → P past i s → Does P past i (act_step action empty_outbox s).1
  does action past i s under fit done shown h =
      let t = (act_step action empty_outbox s).1 in
      let c = (cored_carried ready).acts action past i s under fit done shown tt h.cored in
      let tame = (act_left action s done).told in
      let none = act_none action s in
      let own = behind_granted i t.0.sides past tame (none_all i t.0.sides none) h.granted in
      record {
        others = λ j x e k. record { cored = c.others j x e k.cored; granted = behind_granted j t.0.sides past tame (none_all j t.0.sides none) k.granted };
        quiet = λ q. record { cored = c.quiet q; granted = own };
        asking = λ packet one serial generation f q. record { cored = c.asking packet one serial generation f q; granted = (tt, own) };
      }

  pub grants_carried : Carries Nothing (Grants ready)
  grants_carried = record {
    known = λ line event past i s h. tt;
    number = λ past i s h. h.cored.own.number;
    asked = λ line event past i s h. record { cored = (cored_carried ready).asked line event past i s h.cored; granted = (tt, h.granted) };
    apart = λ note past i s e w h. noted note past i s ((cored_carried ready).apart note past i s e w h.cored) (note_granted i note past (apart_note i note e)) h;
    sent = λ serial generation from to bytes past i s n h. noted (notes.Sent serial generation from to bytes) past i s ((cored_carried ready).sent serial generation from to bytes past i s n h.cored) tt h;
    hears = hears;
    expires = late;
    stale = λ label past i s e h. subst (P past i) (sym (stale_is ready label s e)) h;
    sees = sights;
    acts = λ action past i s under fit done shown known h. does action past i s under fit done shown h;
  }

-- ---- at every place of a run

abbrev pub AreGranted : List Disk → List Moment → WorldState → Type 0
AreGranted start past w = (i : ℕ) → i < length w.initiators → EachMoment (GrantedAt i) past

first_grants : (line i initiators : ℕ) (ready : Bool) → i < initiators → Grants ready (said (notes.Begin initiators ready) ∷ asks line (events.Begin initiators ready) ∷ []) i (new_state i ready)
first_grants line i initiators ready b = record { cored = first_cored line i initiators ready b; granted = (tt, (tt, tt)) }

pub granted_everywhere : EveryPlace AreGranted
granted_everywhere = record {
  after_lines = λ line run r has small size so_far i l.
      let inside : i < run.initiators = subst (λ n. i < n) (count_after run run.entries) l in
      (of_runs (Grants run.ready) (grants_carried run.ready) line run (λ entries few short all fit j c. tt) (λ j c. first_grants line j run.initiators run.ready c) r i inside).granted;
  between = λ line run r has small size next most told m so_far i l.
      let inside : i < run.initiators = subst (λ n. i < n) (count_between told (after (beginning run) run.entries) ∙ count_after run run.entries) l in
      (between_runs (Grants run.ready) (grants_carried run.ready) line run (λ entries few short all fit j c. tt) (λ j c. first_grants line j run.initiators run.ready c) r next most told m i inside).granted;
}
