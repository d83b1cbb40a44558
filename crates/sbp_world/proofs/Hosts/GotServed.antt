-- Where an initiator got a request, the history goes on so, where it does behind each delivery of one; and it goes on with the response.
use Rattle.sbp_world.proofs.Words.Std.{◌≡◌, refl, sym, ◌∙◌, ap, subst, ℕ, suc, ◌<◌, Bool, List, [], ◌∷◌, ◌++◌, map, Option, Some, Result, Ok, Err, append_assoc, same_Some}
use Rattle.sbp_world.proofs.Words.Wire.{Packet, PacketFault, reading, as_sending, Access, access_of, Moment, asked, said, Sending, terms, Event, Note}
use Rattle.sbp_world.proofs.Words.Target.{Told}
use Rattle.sbp_world.proofs.Words.Laws.{packet_in, receiver_in, spelled_by}
use Rattle.sbp_world.proofs.Words.World.{delivered, history_of, Run, after, beginning, MayAll, Scene, begun, initiator_at, IsDelivering, IsDelivered, front_of, IsRun}
use Rattle.sbp_journal.specs.declared.event.Event.TheVariants as events
use Rattle.sbp_world.specs.Hosts.Deliveries.{WasGot}
use Rattle.sbp_world.proofs.Hosts.AnsweringLines.{run_answers}
use Rattle.sbp_world.proofs.Hosts.AnsweringSends.{Gets}
use Rattle.sbp_world.proofs.Hosts.Between.{between, stands_there, there}
use Rattle.sbp_world.proofs.Hosts.Deliveries.{GotsAre, GotsIn, Here, all_gots, map_in, run_gots, said_gots}
use Rattle.sbp_world.proofs.Hosts.GotRequests.{request_got}
use Rattle.sbp_world.proofs.Hosts.Knows.{was_sent}
use Rattle.sbp_world.proofs.Hosts.Replied.{IsReplied}
use Rattle.sbp_world.proofs.Hosts.ResponseBytes.{IsBlockRead}
use Rattle.sbp_world.proofs.Common.{none_is, said_joined as said_append}

-- the packet of a note is a request to an initiator
pub record IsAsked (past : List Moment) (i serial : ℕ) (packet : Packet) (access : Access) : Type 0 where
  pub to_it : receiver_in ((terms past).sent serial) ≡ Some (suc i)
  pub spelled : packet_in ((terms past).sent serial) ≡ Some packet
  pub asks : access_of packet ≡ Some access

pub spelled_ok : (r : Result Packet PacketFault) (p : Packet) → spelled_by r ≡ Some p → r ≡ Ok p
spelled_ok (Ok q) p e = let g : q ≡ p = cc in ap (λ x. Ok x) g
spelled_ok (Err fault) p e = none_is p e

module _ (Replied : List Moment → (i serial : ℕ) → Access → List Moment → Type 0) where
  -- what stands behind it, where it is a block read
  abbrev pub Replies : List Moment → (i serial : ℕ) → Packet → Access → List Moment → Type 0
  Replies past i serial packet access now = IsBlockRead packet access.offset access.count → Replied past i serial access now

  -- the history goes on so, and is all in the end
  pub record Goes (all past : List Moment) (i serial : ℕ) (packet : Packet) (access : Access) : Type 0 where
    pub now : List Moment
    pub rest : List Moment
    pub is : rest ++ now ≡ all
    pub replies : Replies past i serial packet access now

  pub record IsGot (all : List Moment) (serial : ℕ) (past : List Moment) : Type 0 where
    pub sent : Sending
    pub was : (terms past).sent serial ≡ Some sent
    pub goes : (i : ℕ) (packet : Packet) (access : Access) → IsAsked past i serial packet access → Goes all past i serial packet access

  -- all of the history is more
  more_got : (more all : List Moment) (serial : ℕ) (past : List Moment) → IsGot all serial past → IsGot (more ++ all) serial past
  more_got more all serial past g = record {
    sent = g.sent;
    was = g.was;
    goes = λ i packet access a.
        let k = g.goes i packet access a in
        record { now = k.now; rest = more ++ k.rest; is = append_assoc more k.rest k.now ∙ ap (λ ms. more ++ ms) k.is; replies = k.replies };
  }

  -- So it is behind each delivery of a request to an initiator.
  abbrev pub Responds : Type 0
  Responds = (line : ℕ) (run : Run) (q : IsRun run) (next : ℕ) (event : Event) (told : List (Option Told)) → IsDelivering event told → MayAll told (begun (after (beginning run) run.entries)) → (again : Bool) (one : Option Told) (serial i : ℕ) → i < run.initiators
      → (g : Gets (there line run q next told).world i serial) → Replies (between line run q next event told) i serial g.packet g.access (map said (delivered serial again one (there line run q next told)).world.fresh ++ asked next event ∷ history_of line run)

  module _ (responds : Responds) where
    -- ---- in a delivery

    module _ (line : ℕ) (front : Run) (q : IsRun front) (next : ℕ) (event : Event) (told : List (Option Told)) (delivers : IsDelivering event told) (may : MayAll told (begun (after (beginning front) front.entries))) (again : Bool) (one : Option Told) (serial : ℕ) (got : WasGot serial (there line front q next told)) (inside : (i : ℕ) → got.sent.to ≡ suc i → i < front.initiators) (was : (terms (between line front q next event told)).sent serial ≡ Some (as_sending got.sent)) where
      abbrev pub Past : List Moment
      Past = between line front q next event told

      abbrev pub Now : List Moment
      Now = map said (delivered serial again one (there line front q next told)).world.fresh ++ asked next event ∷ history_of line front

      pub served : (i : ℕ) (packet : Packet) (access : Access) → IsAsked Past i serial packet access → Replies Past i serial packet access Now
      served i packet access a block =
          let s = there line front q next told in
          let to = same_Some got.sent.to (suc i) (ap receiver_in (sym was) ∙ a.to_it) in
          let read = spelled_ok (reading got.sent.bytes) packet (ap packet_in (sym was) ∙ a.spelled) in
          let gets : Gets s.world i serial = record {
            sent = got.sent;
            found = got.found;
            to_it = to;
            packet = packet;
            request = request_got (initiator_at s.world i) got.sent.generation got.sent.bytes packet access a.asks read (got.got i to);
            access = access;
            asks_for = a.asks;
            got = got.got i to;
          } in
          responds line front q next event told delivers may again one serial i (inside i to) gets block

    -- ---- in a finished history

    pub was_got : (line : ℕ) (run : Run) (serial : ℕ) (past : List Moment) → IsDelivered line run serial past → IsGot (history_of line run) serial past
    was_got line run serial past d =
        let front = front_of run d.earlier in
        let next = d.entry.line in
        let event = d.entry.event in
        record {
          sent = as_sending d.was_got.sent;
          was = d.was;
          goes = λ i packet access a. record {
            now = map said (delivered serial d.again d.one (there line front d.front next d.told)).world.fresh ++ asked next event ∷ history_of line front;
            rest = d.rest;
            is = d.behind;
            replies = by_past d i packet access a;
          };
        }
      where
        by_past : (d : IsDelivered line run serial past) (i : ℕ) (packet : Packet) (access : Access) → IsAsked past i serial packet access → Replies past i serial packet access (map said (delivered serial d.again d.one (there line (front_of run d.earlier) d.front d.entry.line d.told)).world.fresh ++ asked d.entry.line d.entry.event ∷ history_of line (front_of run d.earlier))
        by_past d i packet access a =
            let front = front_of run d.earlier in
            let now = map said (delivered serial d.again d.one (there line front d.front d.entry.line d.told)).world.fresh ++ asked d.entry.line d.entry.event ∷ history_of line front in
            subst (λ ms. Replies ms i serial packet access now) (sym d.is)
            (served line front d.front d.entry.line d.entry.event d.told d.delivers d.may d.again d.one serial d.was_got d.inside
            (subst (λ ms. (terms ms).sent serial ≡ Some (as_sending d.was_got.sent)) d.is d.was) i packet access
            (subst (λ ms. IsAsked ms i serial packet access) d.is a))

    pub gots_of : (line : ℕ) (run : Run) → IsRun run → GotsIn (IsGot (history_of line run)) (history_of line run)
    gots_of line run q = map_in (IsDelivered line run) (IsGot (history_of line run)) (history_of line run) (λ serial before d. was_got line run serial before d) (run_gots line run run.entries q)

    -- ---- behind some deliveries of the next line

    module _ (line : ℕ) (run : Run) (q : IsRun run) (next : ℕ) where
      abbrev start : Scene
      start = after (beginning run) run.entries

      gots_here : (event : Event) (told : List (Option Told)) → IsDelivering event told → MayAll told (begun start) → GotsAre (Here event (begun start) (there line run q next told).world.fresh) (there line run q next told).world.fresh
      gots_here (events.Step count) told d m = all_gots (events.Step count) (begun start) refl (λ xs. tt) told m
      gots_here events.Settle told d m = all_gots events.Settle (begun start) refl (λ xs. tt) told m
      gots_here (events.Deliver n) told d m = subst (λ xs. GotsAre (Here (events.Deliver n) (begun start) (there line run q next xs).world.fresh) (there line run q next xs).world.fresh) (sym d) tt
      gots_here (events.Repeat n) told d m = subst (λ xs. GotsAre (Here (events.Repeat n) (begun start) (there line run q next xs).world.fresh) (there line run q next xs).world.fresh) (sym d) tt
      gots_here (events.Begin initiators ready) told d m = absurd d
      gots_here (events.Act j action) told d m = absurd d
      gots_here (events.Reset physical) told d m = absurd d
      gots_here (events.See node) told d m = absurd d
      gots_here (events.Lose n) told d m = absurd d
      gots_here (events.Timeout n) told d m = absurd d
      gots_here events.Tick told d m = absurd d
      gots_here (events.Inject initiator bytes) told d m = absurd d
      gots_here (events.Key unit key) told d m = absurd d

      module _ (event : Event) (told : List (Option Told)) where
        abbrev all : List Moment
        all = between line run q next event told

        abbrev tail : List Moment
        tail = asked next event ∷ history_of line run

        abbrev fresh : List Note
        fresh = (there line run q next told).world.fresh

        here_got : (serial : ℕ) (before : List Note) → Here event (begun start) fresh serial before → IsGot all serial (map said before ++ tail)
        here_got serial before h =
            let b = stands_there line run q next event h.told h.delivers h.may in
            let new = (delivered serial h.again h.one (there line run q next h.told)).world.fresh in
            let was : (terms (between line run q next event h.told)).sent serial ≡ Some (as_sending h.was_got.sent) = subst (λ ms. (terms ms).sent serial ≡ Some (as_sending h.was_got.sent)) b.is (was_sent (there line run q next h.told).world b.sound.stands serial h.was_got.sent h.was_got.found) in
            subst (λ ns. IsGot all serial (map said ns ++ tail)) (sym h.is)
            (record {
              sent = as_sending h.was_got.sent;
              was = was;
              goes = λ i packet access a. record {
                now = map said new ++ tail;
                rest = map said h.later;
                is = said_append h.later new tail ∙ ap (λ ns. map said ns ++ tail) (sym h.behind);
                replies = served line run q next event h.told h.delivers h.may h.again h.one serial h.was_got (λ i is. subst (λ n. i < n) b.size (h.was_got.inside i is)) was i packet access a;
              };
            })

        -- of the lines before
        old_got : (serial : ℕ) (past : List Moment) → IsGot (history_of line run) serial past → IsGot all serial past
        old_got serial past g =
            subst (λ ms. IsGot ms serial past) (append_assoc (map said fresh) (asked next event ∷ []) (history_of line run))
            (more_got (map said fresh ++ asked next event ∷ []) (history_of line run) serial past g)

        pub gots_between : IsDelivering event told → MayAll told (begun start) → GotsIn (IsGot all) all
        gots_between d m =
            said_gots (Here event (begun start) fresh) (IsGot all) fresh tail here_got (gots_here event told d m)
            (map_in (IsGot (history_of line run)) (IsGot all) (history_of line run) old_got (gots_of line run q))

-- ---- so it is
pub responds : Responds IsReplied
responds line run q next event told d m again one serial i b g block = (run_answers line run q next i b serial again one event told d m).replies g block
