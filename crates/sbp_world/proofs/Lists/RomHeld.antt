-- In every run each initiator knows MANAGEMENT_AGENT where the target has it, and writes there.
use Rattle.sbp_world.proofs.Words.Std.{unwrap_or, arith, ◌≡◌, refl, sym, ◌∙◌, ap, subst, ℕ, suc, ◌+◌, ◌==◌, nat_eq, is_some, not, Bool, true, false, cond, List, [], ◌∷◌, ◌++◌, map, Option, Some, None, Result, Ok, Err, nat_tests, same_Some}
use Rattle.sbp_world.proofs.Words.Wire.{PacketFault, LabelParts, Packet, header_in, lock, lock_response, read_block, read_block_response, read_quadlet, read_quadlet_response, write_block, write_quadlet, write_response, reading, Asked, Facts, row_of, Finding, Layer, facts_in, facts_of, judged_by, judging_step, of_again, of_generation, of_grammar, of_label, of_request, of_response, judged_note, Access, management_address, empty_outbox, Moment, asked, said, Sending, Terms, terms, Judged, Action, Event, Note, Side}
use Rattle.sbp_world.proofs.Words.Initiator.{Demand, Purpose, InitiatorState, act_step, asked_for, demand_of, manage_demand, Turn, new_state, expire_step, receive_step, see_step, ending_of, place_of, wanted_body}
use Rattle.sbp_world.proofs.Words.Laws.{operation_of, access_in_bytes, event_of}
use Rattle.sbp_world.proofs.Words.World.{history_of, Run, world_after, beginning, after_all, WorldState, begun, initiator_at, behind, more_deliveries, asked_in, managed_write, manages, own_action, AreManaged, RomLaw, WritesManaged}
use Rattle.bus_transactions.proofs.FitJudged.{spelled}
use Rattle.bus_transactions.proofs.Fits.{request_fits}
use Rattle.sbp_journal.specs.declared.cause.Judged.TheVariants as judgements
use Rattle.sbp_journal.specs.declared.event.Action.TheVariants as actions
use Rattle.sbp_journal.specs.declared.event.Event.TheVariants as events
use Rattle.sbp_journal.specs.declared.note.Note.TheVariants as notes
use Rattle.sbp_journal.specs.declared.side.Side.TheVariants as sides
use Rattle.sbp_initiator.specs.declared.purpose.Ending.TheVariants as endings
use Rattle.sbp_world.proofs.FitInitiator.Acts.{IfDemand, demand_fits}
use Rattle.sbp_world.proofs.FitInitiator.Law.{fitting_law as own_fitting_law}
use Rattle.sbp_world.proofs.FitTarget.Law.{fitting_law}
use Rattle.sbp_world.proofs.Wire.Holding.{TargetOf, target_small}
use Rattle.sbp_world.proofs.Wire.Runs.{sound_after}
use Rattle.sbp_world.proofs.Hosts.ActLeft.{act_left}
use Rattle.sbp_world.proofs.Hosts.Aimed.{IsAimed, aimed_carried, first_aimed}
use Rattle.sbp_world.proofs.Hosts.Carried.{Knows as KnowsAll, between_runs, of_runs}
use Rattle.sbp_world.proofs.Hosts.Carries.{Carries, IsNoAct, Tells, is_apart}
use Rattle.sbp_world.proofs.Hosts.Held.{sent_new, sent_old}
use Rattle.sbp_world.proofs.Hosts.Layered.{AreTame, expire_left, receive_left}
use Rattle.sbp_world.proofs.Hosts.Pointed.{stale_is}
use Rattle.sbp_world.proofs.Hosts.PointerNotes.{tame_told}
use Rattle.sbp_world.proofs.Hosts.PointSees.{see_left}
use Rattle.sbp_world.proofs.Hosts.Shown.{IsHeard, IsShown}
use Rattle.sbp_world.proofs.Pointers.Ages.{is_leaving, moment_sent}
use Rattle.sbp_world.proofs.Pointers.Asks.{act_bytes, asks_for}
use Rattle.sbp_world.proofs.Pointers.Ending.{read_in}
use Rattle.sbp_world.proofs.Pointers.Finds.{closes_at}
use Rattle.sbp_world.proofs.Pointers.Spelled.{spelled_by}
use Rattle.sbp_world.proofs.Pointers.Waits.{asked_told}
use Rattle.sbp_world.proofs.Lists.RomCodes.{IsFair}
use Rattle.sbp_world.proofs.Lists.RomKeys.{IsRomQuad, none_keyed}
use Rattle.sbp_world.proofs.Lists.RomLearns.{IsBrought, IsQuad, Knows, act_knows, done_can, expire_knows, first_knows, receive_knows, see_knows}
use Rattle.sbp_world.proofs.Lists.RomNotes.{SentFair, fair_sent}
use Rattle.sbp_world.proofs.Lists.RomRuns.{fair_after, fair_between}
use Rattle.sbp_world.proofs.Common.{untrue, equal, equal_numbers}
use Rattle.sbp_world.proofs.Hosts.Aimed.{own_called}
use Rattle.sbp_world.proofs.Pointers.Written.{none_sent, older_asked, still_asked}

-- ---- what a response brings

-- a delivery that closes a transaction is of the layer's generation
now_by : (c n r a p : Bool) (layer : Layer Purpose) (bytes : List ℕ) (read : Result Packet PacketFault) (q : Packet) (label : LabelParts) (purpose : Option Purpose) → (judged_by (row_of (record { is_current = c; is_for_node = n; is_response = r; is_awaited = a; is_repeated = p })) layer bytes read).0 ≡ of_response q label purpose → c ≡ true
now_by true n r a p layer bytes read q label purpose e = refl
now_by false n r a p layer bytes read q label purpose e = cc

is_now : (layer : Layer Purpose) (generation : ℕ) (bytes : List ℕ) (read : Result Packet PacketFault) → (facts_in layer generation bytes read).is_current ≡ (generation == layer.generation)
is_now layer generation bytes (Err fault) = refl
is_now layer generation bytes (Ok p) = refl

response_now : (layer : Layer Purpose) (generation : ℕ) (bytes : List ℕ) (p : Packet) (label : LabelParts) (purpose : Option Purpose) → (judging_step layer generation bytes).0 ≡ of_response p label purpose → generation ≡ layer.generation
unfolding judging_step
response_now layer generation bytes p label purpose e =
    let f : Facts = facts_of layer generation bytes in
    equal generation layer.generation
    (sym (is_now layer generation bytes (reading bytes)) ∙ now_by f.is_current f.is_for_node f.is_response f.is_awaited f.is_repeated layer bytes (reading bytes) p label purpose e)

-- and is of the target
module _ (past : List Moment) (i serial generation : ℕ) (bytes : List ℕ) (ready : Bool) (s : InitiatorState) (heard : IsHeard past i serial generation bytes) (shown : IsShown past i s.target s.layer) (aimed : IsAimed ready i s) where
  response_source : (p : Packet) (label : LabelParts) (purpose : Option Purpose) → (judging_step s.layer generation bytes).0 ≡ of_response p label purpose → heard.packet.from ≡ 0
  response_source p label purpose f =
      let read : reading bytes ≡ Ok p = read_in s.layer generation bytes p label purpose f in
      let a = closes_at s.layer generation bytes p label purpose (own_called ready i s aimed.own) f in
      let peer : (header_in p).source ≡ s.target = aimed.aims (header_in p).source label.number purpose a in
      let now : heard.packet.generation ≡ s.layer.generation = heard.generation_is ∙ response_now s.layer generation bytes p label purpose f in
      heard.apart s.layer.generation heard.packet.from 0
      (ap (λ g. (terms past).ids g heard.packet.from) (sym now)
      ∙ sym (heard.source p (ap reading heard.bytes_are ∙ read))
      ∙ peer
      ∙ sym shown.named)

  response_fair : SentFair past → (p : Packet) (label : LabelParts) (purpose : Option Purpose) → (judging_step s.layer generation bytes).0 ≡ of_response p label purpose → IsFair bytes
  response_fair sent p label purpose f = subst IsFair heard.bytes_are (fair_sent past sent serial heard.packet heard.sent (response_source p label purpose f))

none_brought : (b : Bool) (rcode : ℕ) → IsQuad (cond b (endings.Complete 0) (endings.Refused rcode))
none_brought true rcode = none_keyed
none_brought false rcode = tt

some_brought : (b : Bool) (rcode value : ℕ) → IsRomQuad value → IsQuad (cond b (endings.Complete value) (endings.Refused rcode))
some_brought true rcode value h = h
some_brought false rcode value h = tt

quad_in : (p : Packet) (bytes : List ℕ) → reading bytes ≡ Ok p → IsFair bytes → IsQuad (ending_of p)
quad_in (read_quadlet_response header rcode value) bytes e f =
    let s = spelled bytes (read_quadlet_response header rcode value) e in
    some_brought (rcode == 0) rcode value (subst IsRomQuad (sym s.2) (f (ap (λ n. n == 6) s.0.kind)))
quad_in (read_block_response header rcode payload) bytes e f = none_brought (rcode == 0) rcode
quad_in (lock_response header rcode extended payload) bytes e f = none_brought (rcode == 0) rcode
quad_in (write_response header rcode) bytes e f = none_brought (rcode == 0) rcode
quad_in (write_quadlet header offset value) bytes e f = tt
quad_in (write_block header offset payload) bytes e f = tt
quad_in (read_quadlet header offset) bytes e f = tt
quad_in (read_block header offset count) bytes e f = tt
quad_in (lock header offset extended payload) bytes e f = tt

brought_by : (layer : Layer Purpose) (generation : ℕ) (bytes : List ℕ) → ((p : Packet) (label : LabelParts) (purpose : Option Purpose) → (judging_step layer generation bytes).0 ≡ of_response p label purpose → IsFair bytes) → (finding : Finding Purpose) → (judging_step layer generation bytes).0 ≡ finding → IsBrought finding
brought_by layer generation bytes f (of_response p label purpose) e = quad_in p bytes (read_in layer generation bytes p label purpose e) (f p label purpose e)
brought_by layer generation bytes f of_generation e = tt
brought_by layer generation bytes f of_grammar e = tt
brought_by layer generation bytes f of_label e = tt
brought_by layer generation bytes f (of_again p rcode) e = tt
brought_by layer generation bytes f (of_request p) e = tt

-- ---- packets of actions

abbrev Writes : List Moment → ℕ → Type 0
Writes past i = WritesManaged past i

still_on : (m : Moment) (past : List Moment) (i : ℕ) → is_leaving m ≡ false → Writes past i → Writes (m ∷ past) i
still_on m past i e k x other action access sent is honest a b spelled =
    k x other action access (sym (ap (λ f. f x) (moment_sent m past e)) ∙ sent) is honest (sym (still_asked m past i x e) ∙ a) b spelled

itself : {A : Type 0} (n : ℕ) (x y : A) → cond (nat_eq n n) x y ≡ x
itself n x y = let e : nat_eq n n ≡ true = grind (arith, nat_tests) in ap (λ b. cond b x y) e

asked_now : (i serial generation to : ℕ) (bytes : List ℕ) (past : List Moment) → asked_in (said (notes.Sent serial generation (suc i) to bytes) ∷ past) serial i ≡ own_action i (event_of past)
asked_now i serial generation to bytes past =
    itself serial (cond (nat_eq i i) (own_action i (event_of past)) (asked_in past serial i)) (asked_in past serial i)
    ∙ itself i (own_action i (event_of past)) (asked_in past serial i)

-- one that is sent
abbrev IsManaged : List Moment → ℕ → List ℕ → Type 0
IsManaged past i bytes = (action : Action) (access : Access) → own_action i (event_of past) ≡ Some action → manages (operation_of action) ≡ true → access_in_bytes bytes ≡ Some access → access.offset ≡ management_address

sent_on : (serial generation from to : ℕ) (bytes : List ℕ) (past : List Moment) (i : ℕ) → (from ≡ suc i → IsManaged past i bytes) → Writes past i → Writes (said (notes.Sent serial generation from to bytes) ∷ past) i
sent_on serial generation from to bytes past i h k x other action access sent is honest a b spelled = by (nat_eq x serial) refl
  where
    now : List Moment
    now = said (notes.Sent serial generation from to bytes) ∷ past

    packet : Sending
    packet = record { generation = generation; from = from; to = to; bytes = bytes; injected = (terms past).injected serial }

    by : (c : Bool) → nat_eq x serial ≡ c → access.offset ≡ management_address
    by false e = k x other action access (sym (sent_old serial x packet (terms past) e) ∙ sent) is honest (sym (older_asked i serial generation from to bytes past x e) ∙ a) b spelled
    by true e =
        let same : x ≡ serial = equal_numbers x serial e in
        let p : packet ≡ other = same_Some packet other (sym (sent_new serial packet (terms past)) ∙ ap (terms now).sent (sym same) ∙ sent) in
        let from_is : from ≡ suc i = ap (λ (y : Sending). y.from) p ∙ is in
        let own : own_action i (event_of past) ≡ Some action =
        sym (asked_now i serial generation to bytes past)
        ∙ ap (λ z. asked_in (said (notes.Sent serial generation z to bytes) ∷ past) serial i) (sym from_is)
        ∙ ap (λ z. asked_in now z i) (sym same)
        ∙ a in
        h from_is action access own b (ap (λ (y : Sending). access_in_bytes y.bytes) p ∙ spelled)

-- behind what is told
told_on : (told : List Side) (past : List Moment) (i : ℕ) → AreTame told → Writes past i → Writes (behind told past) i
told_on told past i tame k x other action access sent is honest a b spelled =
    k x other action access
    (ap (λ (t : Terms). t.sent x) (sym (tame_told told past i tame).wire) ∙ sent) is honest
    (ap (λ (f : ℕ → ℕ → Option Action). f x i) (sym (asked_told told past tame)) ∙ a) b spelled

fair_told : (told : List Side) (past : List Moment) → AreTame told → SentFair (behind told past) → SentFair past
fair_told [] past tame h = h
fair_told (sides.Own note ∷ later) past tame h = (fair_told later (said note ∷ past) tame.1 h).1
fair_told (_ ∷ later) past tame h = absurd tame.0

judged_still : (serial : ℕ) (judged : Judged) → is_leaving (said (judged_note serial judged)) ≡ false
judged_still serial judgements.Got = refl
judged_still serial (judgements.Ignored cause) = refl

-- ---- what is carried on

-- as a line begins, what an action asks for is spelled in the bytes of its request
pub record IsSpelled (s : InitiatorState) : Type 0 where
  pub spelled_in : (action : Action) (demand : Demand) (own : Asked) → demand_of action s ≡ Some demand → (asked_for demand s).0 ≡ Some own → access_in_bytes own.bytes ≡ asks_for demand

abbrev pub Spelled : List Moment → ℕ → InitiatorState → Type 0
Spelled past i s = IsSpelled s

pub record Managed (ready : Bool) (past : List Moment) (i : ℕ) (s : InitiatorState) : Type 0 where
  aimed : IsAimed ready i s
  knows : SentFair past → Knows s
  writes : SentFair past → Writes past i

-- no action of the line
none_own : (i : ℕ) (event : Option Event) → IsNoAct i event → own_action i event ≡ None
none_own i (Some (events.Act j action)) n = ap (λ b. cond b (Some action) None) n
none_own i None n = refl
none_own i (Some (events.Begin initiators ready)) n = refl
none_own i (Some (events.Reset physical)) n = refl
none_own i (Some (events.See node)) n = refl
none_own i (Some (events.Deliver serial)) n = refl
none_own i (Some (events.Repeat serial)) n = refl
none_own i (Some (events.Lose serial)) n = refl
none_own i (Some (events.Timeout serial)) n = refl
none_own i (Some (events.Step count)) n = refl
none_own i (Some events.Settle) n = refl
none_own i (Some events.Tick) n = refl
none_own i (Some (events.Inject initiator bytes)) n = refl
none_own i (Some (events.Key unit key)) n = refl

none_action : {A : Type 0} (action : Action) → None ≡ Some action → A
none_action action e = absurd (differ e)
  where
    differ : None ≡ Some action → ⊥
    differ e = cc

apart_writes : (note : Note) (past : List Moment) (i : ℕ) → is_apart i note ≡ true → Writes past i → Writes (said note ∷ past) i
apart_writes (notes.Sent serial generation from to bytes) past i e k =
    sent_on serial generation from to bytes past i (λ f action access own m spelled. untrue (not_own from i e f)) k
  where
    not_own : (from i : ℕ) → not (from == suc i) ≡ true → from ≡ suc i → false ≡ true
    not_own from i e f = let g : (from == suc i) ≡ true = grind (arith, nat_tests) in sym (ap not g) ∙ e
apart_writes note past i e k = still_on (said note) past i refl k

unwrapped : (found : Option ℕ) → is_some found ≡ true → ((offset : ℕ) → found ≡ Some offset → offset ≡ management_address) → unwrap_or found 0 ≡ management_address
unwrapped None e f = untrue e
unwrapped (Some offset) e f = f offset refl

same_demand : (own demand : Demand) → Some own ≡ Some demand → own ≡ demand
same_demand own demand e = cc

module _ (s : InitiatorState) (demand : Demand) (access : Access) where
  managing : Some (manage_demand s) ≡ Some demand → asks_for demand ≡ Some access → access.offset ≡ unwrap_or s.management 0
  managing e f =
      let own : Access = managed_write (unwrap_or s.management 0) (place_of s.counts.managed) in
      let g : Some own ≡ Some access = ap asks_for (same_demand (manage_demand s) demand e) ∙ f in
      ap (λ (a : Access). a.offset) (sym (same_Some own access g))

  managed_asks : (action : Action) → manages (operation_of action) ≡ true → demand_of action s ≡ Some demand → asks_for demand ≡ Some access → access.offset ≡ unwrap_or s.management 0
  managed_asks (actions.Login unit reconnect exclusive password) m e f = managing e f
  managed_asks (actions.Query unit) m e f = managing e f
  managed_asks actions.Reconnect m e f = managing e f
  managed_asks actions.Logout m e f = managing e f
  managed_asks (actions.Abort orb) m e f = managing e f
  managed_asks actions.AbortSet m e f = managing e f
  managed_asks actions.UnitReset m e f = managing e f
  managed_asks actions.TargetReset m e f = managing e f
  managed_asks (actions.Append cmd) m e f = untrue m
  managed_asks (actions.Put cmd) m e f = untrue m
  managed_asks actions.Low m e f = untrue m
  managed_asks actions.Link m e f = untrue m
  managed_asks actions.Ring m e f = untrue m
  managed_asks (actions.Dummy orb) m e f = untrue m
  managed_asks actions.Rom m e f = untrue m
  managed_asks actions.AgentReset m e f = untrue m
  managed_asks actions.State m e f = untrue m
  managed_asks actions.Enable m e f = untrue m

own_is : (i : ℕ) (action other : Action) → own_action i (Some (events.Act i action)) ≡ Some other → action ≡ other
own_is i action other e = same (sym (itself i (Some action) None) ∙ e)
  where
    same : Some action ≡ Some other → action ≡ other
    same e = cc

module _ (ready : Bool) where
  tells : (past now : List Moment) (i : ℕ) (t : Turn) → AreTame t.0.sides → (SentFair now → SentFair past) → ((j : ℕ) → Writes past j → Writes now j) → IsAimed ready i t.1 → (SentFair past → Knows t.1) → (SentFair past → Writes past i) → Tells (Managed ready) now i t
  tells past now i t tame fair on aimed knows writes =
      let back : SentFair (behind t.0.sides now) → SentFair now = fair_told t.0.sides now tame in
      record {
        own = record {
          aimed = aimed;
          knows = λ f. knows (fair (back f));
          writes = λ f. told_on t.0.sides now i tame (on i (writes (fair (back f))));
        };
        others = λ j x e h. record {
          aimed = h.aimed;
          knows = λ f. h.knows (back f);
          writes = λ f. told_on t.0.sides now j tame (h.writes (back f));
        };
      }

  sees_tame : (generation id target : ℕ) (s : InitiatorState) → AreTame (see_step generation id target empty_outbox s).0.sides
  sees_tame generation id target s = (see_left generation id target s).told

  pub managed_carried : Carries Spelled (Managed ready)
  managed_carried = record {
    known = λ line event past i s r. r;
    number = λ past i s h. h.aimed.own.number;
    asked = λ line event past i s h. record { aimed = h.aimed; knows = h.knows; writes = λ f. still_on (asked line event) past i refl (h.writes f) };
    apart = λ note past i s e w h. record { aimed = h.aimed; knows = λ f. h.knows f.1; writes = λ f. apart_writes note past i e (h.writes f.1) };
    sent = λ serial generation from to bytes past i s n h. record {
      aimed = h.aimed;
      knows = λ f. h.knows f.1;
      writes = λ f. sent_on serial generation from to bytes past i (λ from_is action access own m spelled. none_action action (sym (none_own i (event_of past) n) ∙ own)) (h.writes f.1);
    };
    hears = λ serial generation bytes past i s heard shown after_it h.
        let judged = (receive_step generation bytes empty_outbox s).0 in
        let now = said (judged_note serial judged) ∷ past in
        let t = (receive_step generation bytes empty_outbox s).1 in
        let m = (aimed_carried ready).hears serial generation bytes past i s heard shown after_it h.aimed in
        tells past now i t (receive_left generation bytes s).told (λ f. f.1) (λ j k. still_on (said (judged_note serial judged)) past j (judged_still serial judged) k) m.own
        (λ f. receive_knows generation bytes s (brought_by s.layer generation bytes (response_fair past i serial generation bytes ready s heard shown h.aimed f) (judging_step s.layer generation bytes).0 refl) (h.knows f))
        h.writes;
    expires = λ serial label past i s after_it h.
        let now = said (notes.TimedOut serial) ∷ past in
        let t = (expire_step label empty_outbox s).1 in
        let m = (aimed_carried ready).expires serial label past i s after_it h.aimed in
        tells past now i t (expire_left label s).told (λ f. f.1) (λ j k. still_on (said (notes.TimedOut serial)) past j refl k) m.own (λ f. expire_knows label s (h.knows f)) h.writes;
    stale = λ label past i s e h. subst (λ (x : InitiatorState). Managed ready past i x) (sym (stale_is ready label s e)) h;
    sees = λ generation id target past i s e h.
        let now = said (notes.Seen (suc i) generation) ∷ past in
        let t = see_step generation id target empty_outbox s in
        let m = (aimed_carried ready).sees generation id target past i s e h.aimed in
        tells past now i t (sees_tame generation id target s) (λ f. f.1) (λ j k. still_on (said (notes.Seen (suc i) generation)) past j refl k) m.own (λ f. see_knows generation id target s (h.knows f)) h.writes;
    acts = λ action past i s line fit done shown known h.
        let t = (act_step action empty_outbox s).1 in
        let left = act_left action s done in
        let ms = behind t.0.sides past in
        let m = (aimed_carried ready).acts action past i s line fit done shown tt h.aimed in
        let back : SentFair ms → SentFair past = fair_told t.0.sides past left.told in
        record {
          others = λ j x e g. record { aimed = g.aimed; knows = λ f. g.knows (back f); writes = λ f. told_on t.0.sides past j left.told (g.writes (back f)) };
          quiet = λ none. record {
            aimed = m.quiet none;
            knows = λ f. act_knows action s (h.knows (back f));
            writes = λ f. told_on t.0.sides past i left.told (h.writes (back f));
          };
          asking = λ packet one serial generation injected q. record {
            aimed = m.asking packet one serial generation injected q;
            knows = λ f. act_knows action s (h.knows (back f.1));
            writes = λ f.
                let k = h.knows (back f.1) in
                let has = act_bytes action s packet done one in
                sent_on serial generation (suc i) 0 packet.bytes ms i
                (λ from_is other access own manage spell.
                let same : action ≡ other = own_is i action other (ap (own_action i) (sym ((tame_told t.0.sides past i left.told).line ∙ line)) ∙ own) in
                let own_manages : manages (operation_of action) ≡ true = ap (λ x. manages (operation_of x)) same ∙ manage in
                let asks : asks_for has.demand ≡ Some access = sym (known.spelled_in action has.demand has.asked has.is has.found) ∙ sym (ap access_in_bytes has.bytes) ∙ spell in
                managed_asks s has.demand access action own_manages has.is asks ∙ unwrapped s.management (done_can action s done k own_manages) k.there)
                (told_on t.0.sides past i left.told (h.writes (back f.1)));
          };
        };
  }

-- ---- as a run begins

no_writes : (i : ℕ) → Writes [] i
no_writes i serial packet action access sent is honest a m spelled = none_sent packet sent

first_managed : (line i initiators : ℕ) (ready : Bool) → Managed ready (said (notes.Begin initiators ready) ∷ asked line (events.Begin initiators ready) ∷ []) i (new_state i ready)
first_managed line i initiators ready =
    let begins = events.Begin initiators ready in
    record {
      aimed = first_aimed i ready;
      knows = λ f. first_knows ready i;
      writes = λ f. still_on (said (notes.Begin initiators ready)) (asked line begins ∷ []) i refl (still_on (asked line begins) [] i refl (no_writes i));
    }

-- ---- a run

spelled_known : (line : ℕ) (run : Run) → KnowsAll Spelled line run
spelled_known line run entries few short all fit i b =
    let sound_there = sound_after fitting_law own_fitting_law line run entries few short all fit in
    let w = (world_after (beginning run) entries).world in
    let s = initiator_at w i in
    let h = sound_there.sound.nodes.own.holds i b in
    record {
      spelled_in = λ action demand own e f.
          let fits : IfDemand (Some demand) = subst IfDemand e (demand_fits (TargetOf w.generations.seen i) s.counts.acts (s.counts.acts + 1) s h.fits (omega arith) action) in
          let peer = target_small w.generations.seen i s.target h.fits.target_known in
          spelled_by s.layer s.target (wanted_body demand.wanted) demand.purpose h.layer (request_fits s.layer.node s.target (wanted_body demand.wanted) h.layer.small peer fits) own f;
    }

managed_by : (ready : Bool) (past : List Moment) (w : WorldState) (i : ℕ) → SentFair past → Managed ready past i (initiator_at w i) → AreManaged past w i
managed_by ready past w i fair h = record { known = (h.knows fair).there; writes = h.writes fair }

pub rom_law : RomLaw
rom_law = record {
  after_lines = λ line run r has few size i b.
      managed_by run.ready (history_of line run) (world_after (beginning run) run.entries).world i (fair_after line run has few size r)
      (of_runs (Managed run.ready) (managed_carried run.ready) line run (spelled_known line run) (λ j c. first_managed line j run.initiators run.ready) r i b);
  between = λ line run r has few size next most told m i b.
      let w = (after_all told (begun (world_after (beginning run) run.entries))).world in
      managed_by run.ready (map said w.fresh ++ asked next (more_deliveries most) ∷ history_of line run) w i (fair_between line run has few size r next most told m)
      (between_runs (Managed run.ready) (managed_carried run.ready) line run (spelled_known line run) (λ j c. first_managed line j run.initiators run.ready) r next most told m i b);
}
