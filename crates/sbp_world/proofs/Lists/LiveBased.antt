-- Where a status of 00 is got for a login, its buffer holds a response with the agent of a place; so it does wherever a login is done.
use Rattle.sbp_world.proofs.Words.Std.{arith, ◌≡◌, ◌∙◌, refl, sym, ap, subst, ℕ, suc, ◌<◌, ◌≤◌, Bool, true, false, cond, List, [], ◌∷◌, ◌++◌, map, length, Option, Some, None, Result, Ok, slice_index_or}
use Rattle.sbp_world.proofs.Words.Wire.{PacketFault, Packet, reading, SerialsCount, Access, Moment, asked, said, Sending, Terms, terms, Event, Note, Operation, OpWord}
use Rattle.sbp_world.proofs.Words.Target.{Status, status_block, number_of, Disk}
use Rattle.sbp_world.proofs.Words.Initiator.{start_of, Fifo, fifo_at, LoginResponse, login_response, Answer, Done, Expired, NoLabel, Payload, Refused, Running, InitiatorState, place_in, status_in}
use Rattle.sbp_world.proofs.Words.Laws.{Host, Underway, host_at, known_host, pointer_answered, response_of, stored, present_list, access_at, access_in, answered_at, packet_in, receiver_in, spelled_by, EachMoment}
use Rattle.sbp_world.proofs.Words.World.{Core, Work, work_in, work_of, is_open, HoldsLogin, AreAsked, GoodAt, GrantedAt, IsAnswerTo, IsGot, IsTelling, BasedAt, HasBase, IsTold, outgoing_for}
use Rattle.bus_memory.specs.declared.window.Window.TheVariants as windows
use Rattle.sbp_world.proofs.Hosts.Cores.{wire_is}
use Rattle.sbp_world.proofs.Hosts.Hosted.{Cored}
use Rattle.sbp_world.specs.Hosts.Core.{placed}
use Rattle.sbp_initiator.specs.Effects as own
use Rattle.sbp_journal.specs.declared.note.Note.TheVariants as notes
use Rattle.sbp_journal.specs.declared.operation.Operation.TheVariants as operations
use Rattle.sbp_journal.specs.declared.operation.OpWord.TheVariants as words
use Rattle.sbp_laws.specs.Hosts.{got_by, is_serial}
use Rattle.sbp_laws.specs.Hosts as hosts
use Rattle.sbp_world.proofs.Sessions.Buffers.{at_far, stored_far}
use Rattle.sbp_world.proofs.Lists.Gots.{Next, next, next_line, same_still}
use Rattle.sbp_world.proofs.Lists.LiveBlocks.{SentBlock, TellsBlock, good_status, sent_block, tells_block}
use Rattle.sbp_world.proofs.Lists.LiveLeads.{hands_before}
use Rattle.sbp_world.proofs.Lists.LiveStandings.{good_block}
use Rattle.sbp_world.proofs.Lists.ManageMoments.{Hands, LineFacts, MayHand, TakeFacts, line_calm}
use Rattle.sbp_world.proofs.Lists.ManageSends.{opened_terms}
use Rattle.sbp_world.proofs.Lists.ManageTerms.{same_some}
use Rattle.sbp_world.proofs.Lists.Quiet.{AllQuiet, IsQuiet}
use Rattle.sbp_world.proofs.Sessions.HoldingHears.{placed_same, same_login}
use Rattle.sbp_world.proofs.Common.{untrue}

-- ---- what an answer says of the packet of the target that waited

-- a packet that waited for the initiator, with what it says
pub record IsAnswerTold (start : List Disk) (before : List Moment) (i status : ℕ) : Type 0 where
  pub orb : ℕ
  pub bytes : List ℕ
  pub tells : IsTold start before i orb bytes
  pub number : Status
  pub bytes_are : bytes ≡ status_block orb number
  pub number_is : status ≡ number_of number

module _ (start : List Disk) (before : List Moment) (i : ℕ) (counts : SerialsCount before) (contents : AreAsked start before) where
  -- one that is told by a packet with these bytes
  module _ (serial : ℕ) (past : List Moment) (operation : Operation) (status : ℕ) (a : IsAnswerTo past i serial operation status) (telling : IsTelling start before i serial a.place) (packet_is : telling.packet ≡ a.packet) where
    abbrev its_orb : ℕ
    its_orb = start_of (windows.Management a.place)

    blocked : SentBlock start before serial telling.op a.payload
    blocked =
        sent_block start before counts serial telling.op (contents.each serial telling.op telling.is_for) telling.status telling.packet telling.sent a.header a.offset a.payload
        (ap (λ (q : Sending). reading q.bytes) packet_is ∙ a.read)

    payload_is : a.payload ≡ status_block its_orb blocked.status
    payload_is = blocked.payload_is ∙ ap (λ n. status_block n blocked.status) telling.orb

    told : TellsBlock a.place blocked.status a.block status
    told = tells_block a.place a.small blocked.status a.block status (subst (λ (p : List ℕ). status_in p ≡ Ok a.block) payload_is a.spelled) a.kind

    answer_told : IsAnswerTold start before i status
    answer_told = record {
      orb = its_orb;
      bytes = outgoing_for start before serial;
      tells = record { serial = serial; place = a.place; telling = telling; orb_is = refl; bytes_are = refl };
      number = blocked.status;
      bytes_are = blocked.outgoing_is ∙ payload_is;
      number_is = told.number_is;
    }

  module _ (serial : ℕ) (operation : Operation) (status : ℕ) where
    -- behind the place before the turn
    pub here_tells : TakeFacts start before i serial → IsAnswerTo before i serial operation status → IsAnswerTold start before i status
    here_tells f a =
        let same : f.packet ≡ a.packet = same_some f.packet a.packet (sym f.facts.sent ∙ a.sent) in
        let telling = f.tells (ap (λ (q : Sending). q.to) same ∙ a.to_is) (ap (λ (q : Sending). q.from) same ∙ a.from_is) a.header a.offset a.payload (ap (λ (q : Sending). reading q.bytes) same ∙ a.read) a.logins a.is_out a.opens a.block a.spelled status a.kind a.place a.small a.orb in
        answer_told serial before operation status a telling (same_some telling.packet a.packet (sym telling.sent ∙ a.sent))

    -- and behind its line
    pub line_tells : (line : ℕ) (event : Event) → LineFacts before → TakeFacts start (asked line event ∷ before) i serial → IsAnswerTo (asked line event ∷ before) i serial operation status → IsAnswerTold start before i status
    line_tells line event l f a =
        let same : f.packet ≡ a.packet = same_some f.packet a.packet (sym f.facts.sent ∙ a.sent) in
        let now = f.tells (ap (λ (q : Sending). q.to) same ∙ a.to_is) (ap (λ (q : Sending). q.from) same ∙ a.from_is) a.header a.offset a.payload (ap (λ (q : Sending). reading q.bytes) same ∙ a.read) a.logins a.is_out a.opens a.block a.spelled status a.kind a.place a.small a.orb in
        let telling = (line_calm start line event before i l).telling serial a.place now in
        answer_told serial (asked line event ∷ before) operation status a telling
        (same_some telling.packet a.packet (sym telling.sent ∙ (sym (ap (λ (g : ℕ → Option Sending). g serial) (opened_terms event (terms before)).sent) ∙ a.sent)))

-- ---- a turn

-- a status of 00 that waits for a login finds such a response
abbrev pub Buffered : (LoginResponse → Type 0) → List Disk → List Moment → ℕ → Type 0
Buffered Good start before i = (orb : ℕ) (bytes : List ℕ) → IsTold start before i orb bytes → bytes ≡ good_block orb → (underway : Underway) → (host_at before i).operation ≡ Some underway → underway.operation ≡ operations.Login → Good (login_response (response_of (host_at before i)))

pub told_well : (Good : LoginResponse → Type 0) (start : List Disk) (before : List Moment) (i : ℕ) → Buffered Good start before i → IsAnswerTold start before i 0 → (underway : Underway) → (host_at before i).operation ≡ Some underway → underway.operation ≡ operations.Login → Good (login_response (response_of (host_at before i)))
told_well Good start before i buffer x underway is login = buffer x.orb x.bytes x.tells (x.bytes_are ∙ good_status x.number (sym x.number_is) x.orb) underway is login

-- one with the agent of a place
module _ (start : List Disk) (before : List Moment) (i : ℕ) (counts : SerialsCount before) (contents : AreAsked start before) (buffer : Buffered HasBase start before i) where
  based_by : IsAnswerTold start before i 0 → (underway : Underway) → (host_at before i).operation ≡ Some underway → underway.operation ≡ operations.Login → HasBase (login_response (response_of (host_at before i)))
  based_by = told_well HasBase start before i buffer

  -- the first note of a turn
  good_first : (moment : Moment) → MayHand start i moment before → GoodAt i moment before
  good_first (asked line event) h = tt
  good_first (said (notes.Got serial)) h = λ a. based_by (here_tells start before i counts contents serial operations.Login 0 h a) a.underway a.is a.same
  good_first (said note) h = tt

  good_line : (line : ℕ) (event : Event) → LineFacts before → (note : Note) → MayHand start i (said note) (asked line event ∷ before) → GoodAt i (said note) (asked line event ∷ before)
  good_line line event l (notes.Got serial) h = λ a. based_by (line_tells start before i counts contents serial operations.Login 0 line event l h a) a.underway a.is a.same
  good_line line event l note h = tt

  good_quiet : (note : Note) (past : List Moment) → IsQuiet note → GoodAt i (said note) past
  good_quiet (notes.Got serial) past q = absurd q
  good_quiet note past q = tt

  good_more : (front : List Note) (past : List Moment) → AllQuiet front → EachMoment (GoodAt i) past → EachMoment (GoodAt i) (map said front ++ past)
  good_more [] past q g = g
  good_more (note ∷ front) past q g = (good_quiet note (map said front ++ past) q.0, good_more front past q.1 g)

  pub good_turn : (now : List Moment) → Next before now → Hands start i now → EachMoment (GoodAt i) before → EachMoment (GoodAt i) now
  good_turn now (same_still e) h g = subst (EachMoment (GoodAt i)) (sym e) g
  good_turn now (next front q moment is) h g =
      let there = hands_before start i front (moment ∷ before) (subst (Hands start i) (sym is) h) in
      subst (EachMoment (GoodAt i)) is (good_more front (moment ∷ before) q (good_first moment there.0, g))
  good_turn now (next_line front q note line event is) h g =
      let there = hands_before start i front (said note ∷ asked line event ∷ before) (subst (Hands start i) (sym is) h) in
      subst (EachMoment (GoodAt i)) is (good_more front (said note ∷ asked line event ∷ before) q (good_line line event there.1.0 note there.0, (tt, g)))

-- ---- by the initiator of the run

module _ (Good : LoginResponse → Type 0) (start : List Disk) (before : List Moment) (i : ℕ) (ready : Bool) (s : InitiatorState) (c : Cored ready before i s) (held : HoldsLogin before i s) (f : (orb : ℕ) (bytes : List ℕ) → IsTold start before i orb bytes → bytes ≡ good_block orb → (running : Running) → s.operation ≡ Some running → running.operation ≡ operations.Login → Good (login_response (own.response_of running s))) where
  module _ (underway : Underway) (is : (host_at before i).operation ≡ Some underway) (login : underway.operation ≡ operations.Login) where
    work_is : work_of (Some underway) ≡ work_in s.operation
    work_is = sym (ap work_of is) ∙ ap (λ (x : Core). x.work) c.core

    login_is : (running : Running) → s.operation ≡ Some running → running.operation ≡ operations.Login
    login_is running e =
        let w : work_of (Some underway) ≡ work_in (Some running) = work_is ∙ ap work_in e in
        sym (ap (λ (x : Work). x.operation) (same_some _ _ w)) ∙ login

    response_is : (running : Running) → s.operation ≡ Some running → response_of (host_at before i) ≡ own.response_of running s
    response_is running e =
        let w : work_of (Some underway) ≡ work_in (Some running) = work_is ∙ ap work_in e in
        let v : work_of (Some underway) ≡ Some (record { operation = operations.Login; place = placed running.managed }) = w ∙ ap (λ op. Some (record { operation = op; place = placed running.managed })) (login_is running e) in
        let two : place_in running < 2 = omega arith in
        ap (λ (o : Option Underway). slice_index_or (host_at before i).responses (hosts.place_in o) []) is
        ∙ (ap (λ n. slice_index_or (host_at before i).responses n []) (placed_same underway.place running.managed (same_login underway (placed running.managed) v))
        ∙ held.responses.each (place_in running) two)

    no_work : work_of (Some underway) ≡ work_in None → ⊥
    no_work e = cc

    buffered_by : (orb : ℕ) (bytes : List ℕ) → IsTold start before i orb bytes → bytes ≡ good_block orb → (found : Option Running) → s.operation ≡ found → Good (login_response (response_of (host_at before i)))
    buffered_by orb bytes t g None e = absurd (no_work (work_is ∙ ap work_in e))
    buffered_by orb bytes t g (Some running) e = subst (λ r. Good (login_response r)) (sym (response_is running e)) (f orb bytes t g running e (login_is running e))

  pub buffered : Buffered Good start before i
  buffered orb bytes t g underway is login = buffered_by underway is login orb bytes t g s.operation refl

-- ---- a status block that is got leaves the buffers

pointer_response : (answer : Answer) (is_own : Bool) (host : Host) → response_of (pointer_answered answer is_own host) ≡ response_of host
pointer_response Done true host = refl
pointer_response Done false host = refl
pointer_response (Payload bytes) is_own host = refl
pointer_response (Refused rcode) is_own host = refl
pointer_response Expired is_own host = refl
pointer_response NoLabel is_own host = refl

got_response : (found : Option ℕ) (wire : Terms) (serial : ℕ) (present : Option ℕ) (host : Host) → stored (access_at wire serial) host.responses ≡ host.responses → response_of (got_by found wire serial present host) ≡ response_of host
got_response None wire serial present host e = ap (λ rs. slice_index_or rs (hosts.place_in host.operation) []) e
got_response (Some asking) wire serial present host e = pointer_response _ (is_serial host.pointer asking) host

if_response : (b : Bool) (x host : Host) → response_of x ≡ response_of host → response_of (cond b x host) ≡ response_of host
if_response true x host e = e
if_response false x host e = refl

module _ (past : List Moment) (i serial : ℕ) (operation : Operation) (status : ℕ) (a : IsAnswerTo past i serial operation status) where
  abbrev access : Access
  access = record { is_lock = false; is_write = true; is_block = true; offset = a.offset; count = length a.payload; payload = a.payload }

  access_is : access_at (terms past) serial ≡ Some access
  access_is = ap (λ (x : Option Sending). access_in (packet_in x)) a.sent ∙ ap (λ (r : Result Packet PacketFault). access_in (spelled_by r)) a.read

  far_by : (fifo : Option Fifo) → fifo_at a.logins a.is_out a.offset ≡ fifo → is_open fifo ≡ true → 0x12002000 ≤ a.offset
  far_by None e f = untrue f
  far_by (Some fifo) e f = at_far a.logins a.is_out a.offset fifo e

  stays_stored : stored (access_at (known_host past i).wire serial) (host_at past i).responses ≡ (host_at past i).responses
  stays_stored =
      ap (λ (t : Terms). stored (access_at t serial) (host_at past i).responses) (wire_is past i)
      ∙ (ap (λ (x : Option Access). stored x (host_at past i).responses) access_is
      ∙ stored_far access (host_at past i).responses (far_by (fifo_at a.logins a.is_out a.offset) refl a.opens))

  pub same_response : response_of (host_at (said (notes.Got serial) ∷ past) i) ≡ response_of (host_at past i)
  same_response =
      let wire = (known_host past i).wire in
      if_response (is_serial (receiver_in (wire.sent serial)) (suc i)) _ (host_at past i) (got_response (answered_at wire serial) wire serial (present_list past i) (host_at past i) stays_stored)

-- ---- where a login is done

granted_base : (i : ℕ) (past : List Moment) → IsGot i operations.Login 0 past → EachMoment (GoodAt i) past → HasBase (login_response (response_of (host_at past i)))
granted_base i (said (notes.Got serial) ∷ past) a g = subst (λ r. HasBase (login_response r)) (sym (same_response past i serial operations.Login 0 a)) (g.0 a)
granted_base i past a g = absurd a

module _ (i : ℕ) (past : List Moment) (g : EachMoment (GoodAt i) past) where
  based_word : (j : ℕ) (operation : Operation) (word : OpWord) → GrantedAt i (said (notes.Op j operation word)) past → BasedAt i (said (notes.Op j operation word)) past
  based_word j operations.Login words.Done x = λ e. granted_base i past (x e) g
  based_word j operations.Login (words.Refused status) x = tt
  based_word j operations.Login words.Conflict x = tt
  based_word j operations.Login words.Error x = tt
  based_word j operations.Login words.Reset x = tt
  based_word j operations.Login (words.Count count) x = tt
  based_word j operations.Login (words.Bad fault) x = tt
  based_word j operations.Login words.NoUnit x = tt
  based_word j operations.Login (words.State value) x = tt
  based_word j operations.Rom word x = tt
  based_word j operations.Query word x = tt
  based_word j operations.Reconnect word x = tt
  based_word j operations.Logout word x = tt
  based_word j operations.Abort word x = tt
  based_word j operations.AbortSet word x = tt
  based_word j operations.UnitReset word x = tt
  based_word j operations.TargetReset word x = tt
  based_word j operations.AgentReset word x = tt
  based_word j operations.State word x = tt
  based_word j operations.Enable word x = tt

  based_note : (note : Note) → GrantedAt i (said note) past → BasedAt i (said note) past
  based_note (notes.Op j operation word) x = based_word j operation word x
  based_note note x = tt

  based_moment : (moment : Moment) → GrantedAt i moment past → BasedAt i moment past
  based_moment (asked line event) x = tt
  based_moment (said note) x = based_note note x

pub based_of : (i : ℕ) (past : List Moment) → EachMoment (GrantedAt i) past → EachMoment (GoodAt i) past → EachMoment (BasedAt i) past
based_of i [] x g = tt
based_of i (moment ∷ past) x g = (based_moment i past g.1 moment x.0, based_of i past x.1 g.1)
