-- Over a history in which an initiator sends, in the line of an action of it, a request and nothing else, the operation under way is the one whose first request
-- was sent; no place of management got another ORB since; and its own place holds the ORB of its action.
use Rattle.sbp_world.proofs.Words.Std.{arith, ◌≡◌, ◌∙◌, refl, sym, ap, subst, inl, inr, ◌⊎◌, ◌≤◌, ◌==◌, ◌%◌, ◌+◌, ◌&&◌, not, ℕ, zero, suc, nat_eq, Bool, true, false, cond, List, [], ◌∷◌, ◌++◌, Option, Some, None, nat_tests}
use Rattle.sbp_world.proofs.Words.Wire.{SerialsCount, Moment, asked, said, Kind, part_of, request, terms, Action, Event, Note, Operation}
use Rattle.sbp_world.proofs.Words.Laws.{before_sent, Host, Underway, host_at, is_management, known_host, operation_of, present_list, is_own, management_orb_of, place_held, place_written, EachMoment, event_of}
use Rattle.sbp_world.proofs.Words.World.{AreUnderway, IsSame, IsUnderway, OperationsLast, WasUnderway, underway_orb}
use Rattle.sbp_journal.specs.declared.event.Event.TheVariants as events
use Rattle.sbp_journal.specs.declared.note.Note.TheVariants as notes
use Rattle.sbp_laws.specs.Hosts.{sent_as}
use Rattle.sbp_world.proofs.Hosts.Carries.{IsNoAct}
use Rattle.sbp_world.proofs.Hosts.Remaining.{remains, serials_behind}
use Rattle.sbp_world.proofs.Hosts.SentMoments.{count_now, serials_from}
use Rattle.sbp_world.proofs.Sessions.PlaceNotes.{is_packet, note_places, sent_places}
use Rattle.sbp_world.proofs.Lists.UnderwayHosts.{Acts, Had, action_acts, begins, carries_on, note_keeps, same_self, same_then, sent_keeps}
use Rattle.sbp_world.proofs.Common.{none_is, itself}

-- ---- what an initiator sends for its actions

-- it was not injected, and is a request
pub record IsOwnRequest (past : List Moment) (serial : ℕ) (bytes : List ℕ) : Type 0 where
  pub honest : (terms past).injected serial ≡ false
  pub label : ℕ
  pub kind : Kind
  pub part : part_of bytes ≡ request label kind

abbrev pub RequestsAt : ℕ → Moment → List Moment → Type 0
RequestsAt i (said (notes.Sent serial generation from to bytes)) past = from ≡ suc i → (action : Action) → event_of past ≡ Some (events.Act i action) → IsOwnRequest past serial bytes
RequestsAt i moment past = Unit {0}

-- ---- one moment

-- an operation goes on
pub record Lasts (i : ℕ) (past next : List Moment) (now : Underway) : Type 0 where
  pub had : Had (host_at past i) (host_at next i) now
  pub places : (place : ℕ) → place_held next i place ≡ place_held past i place

-- or it begins with the packet of this moment
pub record Starts (i : ℕ) (past next : List Moment) (now : Underway) : Type 0 where
  pub generation : ℕ
  pub to : ℕ
  pub bytes : List ℕ
  pub is : next ≡ said (notes.Sent now.first generation (suc i) to bytes) ∷ past
  pub action : operation_of now.action ≡ Some now.operation
  pub line : event_of past ≡ Some (events.Act i now.action)
  pub place : now.place ≡ (host_at past i).writes % 2
  pub held : is_management now.operation ≡ true → place_held next i now.place ≡ Some (management_orb_of now.action past i (host_at past i) now.place)
  pub login : (host_at next i).login ≡ (host_at past i).login

pub data Comes (i : ℕ) (past next : List Moment) (now : Underway) : Type 0 where
  lasts : Lasts i past next now → Comes i past next now
  starts : Starts i past next now → Comes i past next now

module _ (i : ℕ) where
  -- a packet in a line that is no action of the initiator
  other_packet : (serial generation from to : ℕ) (bytes : List ℕ) (past : List Moment) → IsNoAct i (event_of past) → (now : Underway) → (host_at (said (notes.Sent serial generation from to bytes) ∷ past) i).operation ≡ Some now → Comes i past (said (notes.Sent serial generation from to bytes) ∷ past) now
  other_packet serial generation from to bytes past n now e = lasts (record { had = sent_keeps serial generation from to bytes past i n now e; places = λ place. sent_places serial generation from to bytes past i place n })

  -- one of another node
  away_host : (serial generation from to : ℕ) (bytes : List ℕ) (past : List Moment) → nat_eq from (suc i) ≡ false → host_at (said (notes.Sent serial generation from to bytes) ∷ past) i ≡ host_at past i
  away_host serial generation from to bytes past e =
      ap (λ b. cond (b && not ((known_host past i).wire.injected serial)) (sent_as (part_of bytes) (event_of past) i (present_list past i) serial (host_at past i)) (host_at past i)) e

  away_places : (serial generation from to : ℕ) (bytes : List ℕ) (past : List Moment) → nat_eq from (suc i) ≡ false → (place : ℕ) → place_held (said (notes.Sent serial generation from to bytes) ∷ past) i place ≡ place_held past i place
  away_places serial generation zero to bytes past e place = refl
  away_places serial generation (suc j) to bytes past e place =
      ap (λ b. cond b (place_written (event_of past) past i place (place_held past i place)) (place_held past i place)) (let f : nat_eq j i ≡ false = grind (arith, nat_tests) in f)

  away_packet : (serial generation from to : ℕ) (bytes : List ℕ) (past : List Moment) → nat_eq from (suc i) ≡ false → (now : Underway) → (host_at (said (notes.Sent serial generation from to bytes) ∷ past) i).operation ≡ Some now → Comes i past (said (notes.Sent serial generation from to bytes) ∷ past) now
  away_packet serial generation from to bytes past e now f =
      let same = away_host serial generation from to bytes past e in
      lasts (record {
        had = record { was = now; is = ap (λ (h : Host). h.operation) (sym same) ∙ f; same = same_self now; login = ap (λ (h : Host). h.login) same };
        places = away_places serial generation from to bytes past e;
      })

  -- its own, for its action
  module _ (serial generation to : ℕ) (bytes : List ℕ) (past : List Moment) (action : Action) (line : event_of past ≡ Some (events.Act i action)) (own : IsOwnRequest past serial bytes) where
    abbrev next : List Moment
    next = said (notes.Sent serial generation (suc i) to bytes) ∷ past

    written : (place : ℕ) → place_held next i place ≡ place_written (Some (events.Act i action)) past i place (place_held past i place)
    written place =
        ap (λ b. cond b (place_written (event_of past) past i place (place_held past i place)) (place_held past i place)) (itself i)
        ∙ ap (λ event. place_written event past i place (place_held past i place)) line

    none_written : operation_of action ≡ None → (place : ℕ) → place_held next i place ≡ place_held past i place
    none_written e place =
        written place
        ∙ ap (λ (o : Option Operation). cond (is_own i i o && ((host_at past i).writes % 2 == place)) (Some (management_orb_of action past i (host_at past i) place)) (place_held past i place)) e

    is_written : (now : Underway) → operation_of action ≡ Some now.operation → now.place ≡ (host_at past i).writes % 2 → is_management now.operation ≡ true → place_held next i now.place ≡ Some (management_orb_of action past i (host_at past i) now.place)
    is_written now e p m =
        let orb = management_orb_of action past i (host_at past i) now.place in
        let before = place_held past i now.place in
        written now.place
        ∙ (ap (λ (o : Option Operation). cond (is_own i i o && ((host_at past i).writes % 2 == now.place)) (Some orb) before) e
        ∙ (ap (λ b. cond ((b && is_management now.operation) && ((host_at past i).writes % 2 == now.place)) (Some orb) before) (itself i)
        ∙ (ap (λ b. cond (b && ((host_at past i).writes % 2 == now.place)) (Some orb) before) m
        ∙ ap (λ b. cond b (Some orb) before) (let f : ((host_at past i).writes % 2 == now.place) ≡ true = grind (arith, nat_tests) in f))))

    by_acts : (now : Underway) → Acts action serial (host_at past i) (host_at next i) now → Comes i past next now
    by_acts now (carries_on none had) = lasts (record { had = had; places = none_written none })
    by_acts now (begins b) =
        starts (record {
          generation = generation;
          to = to;
          bytes = bytes;
          is = ap (λ n. said (notes.Sent n generation (suc i) to bytes) ∷ past) (sym b.first);
          action = ap operation_of b.action_is ∙ b.own;
          line = line ∙ ap (λ a. Some (events.Act i a)) (sym b.action_is);
          place = b.place;
          held = λ m. is_written now b.own b.place m ∙ ap (λ a. Some (management_orb_of a past i (host_at past i) now.place)) (sym b.action_is);
          login = b.login;
        })

    own_packet : (now : Underway) → (host_at next i).operation ≡ Some now → Comes i past next now
    own_packet now e = by_acts now (action_acts action own.label own.kind serial generation to bytes past i line own.part own.honest now e)

  module _ (serial generation from to : ℕ) (bytes : List ℕ) (past : List Moment) (requests : RequestsAt i (said (notes.Sent serial generation from to bytes)) past) (now : Underway) (e : (host_at (said (notes.Sent serial generation from to bytes) ∷ past) i).operation ≡ Some now) where
    abbrev C : Type 0
    C = Comes i past (said (notes.Sent serial generation from to bytes) ∷ past) now

    from_by : (action : Action) → event_of past ≡ Some (events.Act i action) → (b : Bool) → nat_eq from (suc i) ≡ b → C
    from_by action line false f = away_packet serial generation from to bytes past f now e
    from_by action line true f =
        let same : suc i ≡ from = grind (arith, nat_tests) in
        subst (λ n. (host_at (said (notes.Sent serial generation n to bytes) ∷ past) i).operation ≡ Some now → Comes i past (said (notes.Sent serial generation n to bytes) ∷ past) now) same
        (own_packet serial generation to bytes past action line (requests (sym same) action line) now) e

    act_by : (j : ℕ) (action : Action) → event_of past ≡ Some (events.Act j action) → (b : Bool) → nat_eq i j ≡ b → C
    act_by j action line false f = other_packet serial generation from to bytes past (subst (IsNoAct i) (sym line) f) now e
    act_by j action line true f =
        let same : j ≡ i = grind (arith, nat_tests) in
        from_by action (line ∙ ap (λ k. Some (events.Act k action)) same) (nat_eq from (suc i)) refl

    event_by : (event : Option Event) → event_of past ≡ event → C
    event_by (Some (events.Act j action)) line = act_by j action line (nat_eq i j) refl
    event_by None line = other_packet serial generation from to bytes past (subst (IsNoAct i) (sym line) tt) now e
    event_by (Some (events.Begin initiators ready)) line = other_packet serial generation from to bytes past (subst (IsNoAct i) (sym line) tt) now e
    event_by (Some (events.Reset physical)) line = other_packet serial generation from to bytes past (subst (IsNoAct i) (sym line) tt) now e
    event_by (Some (events.See node)) line = other_packet serial generation from to bytes past (subst (IsNoAct i) (sym line) tt) now e
    event_by (Some (events.Deliver packet)) line = other_packet serial generation from to bytes past (subst (IsNoAct i) (sym line) tt) now e
    event_by (Some (events.Repeat packet)) line = other_packet serial generation from to bytes past (subst (IsNoAct i) (sym line) tt) now e
    event_by (Some (events.Lose packet)) line = other_packet serial generation from to bytes past (subst (IsNoAct i) (sym line) tt) now e
    event_by (Some (events.Timeout packet)) line = other_packet serial generation from to bytes past (subst (IsNoAct i) (sym line) tt) now e
    event_by (Some (events.Step count)) line = other_packet serial generation from to bytes past (subst (IsNoAct i) (sym line) tt) now e
    event_by (Some events.Settle) line = other_packet serial generation from to bytes past (subst (IsNoAct i) (sym line) tt) now e
    event_by (Some events.Tick) line = other_packet serial generation from to bytes past (subst (IsNoAct i) (sym line) tt) now e
    event_by (Some (events.Inject initiator payload)) line = other_packet serial generation from to bytes past (subst (IsNoAct i) (sym line) tt) now e
    event_by (Some (events.Key unit key)) line = other_packet serial generation from to bytes past (subst (IsNoAct i) (sym line) tt) now e

  note_comes : (note : Note) (past : List Moment) → is_packet note ≡ false → (now : Underway) → (host_at (said note ∷ past) i).operation ≡ Some now → Comes i past (said note ∷ past) now
  note_comes note past p now e = lasts (record { had = note_keeps note past i p now e; places = λ place. note_places note past i place p })

  -- a packet, or another note
  data IsSent : Note → Type 0 where
    sent_note : (serial generation from to : ℕ) (bytes : List ℕ) → IsSent (notes.Sent serial generation from to bytes)

  split : (note : Note) → (is_packet note ≡ false) ⊎ IsSent note
  split (notes.Sent serial generation from to bytes) = inr (sent_note serial generation from to bytes)
  split _ = inl refl

  said_by : (note : Note) (past : List Moment) → (is_packet note ≡ false) ⊎ IsSent note → RequestsAt i (said note) past → (now : Underway) → (host_at (said note ∷ past) i).operation ≡ Some now → Comes i past (said note ∷ past) now
  said_by note past (inl plain) r now e = note_comes note past plain now e
  said_by _ past (inr (sent_note serial generation from to bytes)) r now e = event_by serial generation from to bytes past r now e (event_of past) refl

  pub comes : (m : Moment) (past : List Moment) → RequestsAt i m past → (now : Underway) → (host_at (m ∷ past) i).operation ≡ Some now → Comes i past (m ∷ past) now
  comes (asked line event) past r now e = lasts (record { had = record { was = now; is = e; same = same_self now; login = refl }; places = λ place. refl })
  comes (said note) past r now e = said_by note past (split note) r now e

-- ---- a history

-- the same operation has the same ORB
orb_same : (past next : List Moment) (i : ℕ) (was now : Underway) → IsSame was now → before_sent next was.first ≡ before_sent past was.first → underway_orb next i now ≡ underway_orb past i was
orb_same past next i was now same e =
    ap (λ a. management_orb_of a (before_sent next now.first) i (host_at (before_sent next now.first) i) now.place) same.action
    ∙ (ap (λ f. management_orb_of was.action (before_sent next f) i (host_at (before_sent next f) i) now.place) same.first
    ∙ (ap (λ ms. management_orb_of was.action ms i (host_at ms i) now.place) e
    ∙ ap (λ p. management_orb_of was.action (before_sent past was.first) i (host_at (before_sent past was.first) i) p) same.place))

-- what stood before a packet stays, as others are sent
still_before : (m : Moment) (past : List Moment) (serial : ℕ) → SerialsCount (m ∷ past) → serial ≤ (terms past).count → before_sent (m ∷ past) serial ≡ before_sent past serial
still_before m past serial c l = (remains (m ∷ []) past c).before_it serial l

-- the first request of an operation that begins has the next serial, and behind it stands the history of then
first_new : (i : ℕ) (past next : List Moment) (now : Underway) → SerialsCount next → Starts i past next now → now.first ≡ (terms past).count + 1
first_new i past later now c s = (subst SerialsCount s.is c).0

before_is : (i : ℕ) (past next : List Moment) (now : Underway) → Starts i past next now → before_sent next now.first ≡ past
before_is i past later now s = ap (λ ms. before_sent ms now.first) s.is ∙ ap (λ b. cond b past (before_sent past now.first)) (itself now.first)

module _ (i : ℕ) where
  was_from : (later before : List Moment) → SerialsCount (later ++ before) → EachMoment (RequestsAt i) (later ++ before) → (now : Underway) → (host_at (later ++ before) i).operation ≡ Some now → now.first ≤ (terms before).count → WasUnderway before (later ++ before) i now
  was_from [] before c r now e l = record { was = now; is = e; same = same_self now; orb = refl; places = λ place. refl; login = refl }
  was_from (m ∷ later) before c r now e l = by (λ x f k. was_from later before serials r.1 x f k) (comes i m whole r.0 now e)
    where
      whole : List Moment
      whole = later ++ before

      serials : SerialsCount whole
      serials = serials_behind m whole c

      below : now.first ≤ (terms whole).count
      below = let k = (remains later before serials).count in omega arith

      by : ((x : Underway) → (host_at whole i).operation ≡ Some x → x.first ≤ (terms before).count → WasUnderway before whole i x) → Comes i whole (m ∷ whole) now → WasUnderway before (m ∷ whole) i now
      by earlier (lasts h) =
          let first = h.had.same.first in
          let w = earlier h.had.was h.had.is (omega (arith, l, first)) in
          record {
            was = w.was;
            is = w.is;
            same = same_then w.was h.had.was now w.same h.had.same;
            orb = orb_same whole (m ∷ whole) i h.had.was now h.had.same (still_before m whole h.had.was.first c (omega (arith, below, first))) ∙ w.orb;
            places = λ place. h.places place ∙ w.places place;
            login = h.had.login ∙ w.login;
          }
      by earlier (starts s) = let n = first_new i whole (m ∷ whole) now c s in absurd (omega (arith, n, below))

  are_from : (past : List Moment) → SerialsCount past → EachMoment (RequestsAt i) past → AreUnderway past i
  are_from [] c r now e = none_is now e
  are_from (m ∷ past) c r now e = by (are_from past serials r.1) (comes i m past r.0 now e)
    where
      next : List Moment
      next = m ∷ past

      serials : SerialsCount past
      serials = serials_behind m past c

      by : AreUnderway past i → Comes i past next now → IsUnderway next i now
      by earlier (lasts h) =
          let was = h.had.was in
          let same = h.had.same in
          let b = earlier was h.had.is in
          let below = b.sent in
          let more = (remains (m ∷ []) past c).count in
          let first = same.first in
          let before = still_before m past was.first c below in
          record {
            sent = omega (arith, below, more, first);
            action = ap operation_of same.action ∙ (b.action ∙ ap Some (sym same.operation));
            line = ap (λ f. event_of (before_sent next f)) same.first ∙ (ap event_of before ∙ (b.line ∙ ap (λ a. Some (events.Act i a)) (sym same.action)));
            small = (let place = same.place in let small = b.small in omega (arith, place, small));
            held = λ g.
                h.places now.place
                ∙ (ap (λ p. place_held past i p) same.place
                ∙ (b.held (ap is_management (sym same.operation) ∙ g)
                ∙ ap Some (sym (orb_same past next i was now same before))));
            login = h.had.login ∙ (b.login ∙ (ap (λ ms. (host_at ms i).login) (sym before) ∙ ap (λ f. (host_at (before_sent next f) i).login) (sym first)));
          }
      by earlier (starts s) =
          let n = first_new i past next now c s in
          let before = before_is i past next now s in
          let counted : (terms next).count ≡ (terms past).count + 1 = ap (λ ms. (terms ms).count) s.is ∙ count_now past now.first s.generation (suc i) s.to s.bytes in
          record {
            sent = omega (arith, n, counted);
            action = s.action;
            line = ap event_of before ∙ s.line;
            small = (let place = s.place in omega (arith, place));
            held = λ g. s.held g ∙ ap (λ ms. Some (management_orb_of now.action ms i (host_at ms i) now.place)) (sym before);
            login = s.login ∙ ap (λ ms. (host_at ms i).login) (sym before);
          }

  each_from : (later before : List Moment) → EachMoment (RequestsAt i) (later ++ before) → EachMoment (RequestsAt i) before
  each_from [] before r = r
  each_from (m ∷ later) before r = each_from later before r.1

  pub operations_last : (past : List Moment) → SerialsCount past → EachMoment (RequestsAt i) past → OperationsLast past i
  operations_last past c r = record {
    each = λ later before e. are_from before (serials_from later before (subst SerialsCount (sym e) c)) (each_from later before (subst (λ ms. EachMoment (RequestsAt i) ms) (sym e) r));
    was = λ later before e now f l.
        subst (λ ms. (host_at ms i).operation ≡ Some now → WasUnderway before ms i now) e
        (λ g. was_from later before (subst SerialsCount (sym e) c) (subst (λ ms. EachMoment (RequestsAt i) ms) (sym e) r) now g l) f;
  }
