-- A delivery to the target sends the data of answers as they are to be sent: each write into a buffer of an initiator that injected no packets is of the next chunk of the
-- present ORB of a list of it, as the turn began; where this is known of the management. A time-out of its own sends none.
use Rattle.sbp_world.proofs.Words.Std.{IfSome, arith, ◌≡◌, ◌∙◌, refl, sym, ap, subst, ◌<◌, ℕ, suc, Bool, true, false, List, [], ◌∷◌, ◌++◌, map, Option, Some, None, ◌≤◌, cond, nat_eq, nat_lt, length, slice_index_or, nat_tests, none-some, same_Some}
use Rattle.sbp_world.proofs.Words.Wire.{Cmd, LabelParts, Packet, header_in, Layer, judging_step, of_response, Sent, node_of, topology_at, judged_note, Access, Note, Outgoing, Side, OutboxState, Moment, said, Holder, holder_at, list_in, orb_in, ran_note, check_of, terms}
use Rattle.sbp_world.proofs.Words.Target.{Disk, AgentStep, Which, Machine, new_machine, quiet, reply_step, Login, is_live, Held, Told, answer_length_of, answer_of, PlainDisk, Purpose, which_in, manage, Scene, desk_at, login_at, scene, answer_in, received, timed_out, received_as, with_layer, plain_in, served_login, Sense, Outcome, orb_of}
use Rattle.sbp_world.proofs.Words.Initiator.{IfShare, window_at, Answer, Expired, last_at, TicketParts, InitiatorState, new_state, StatusKind}
use Rattle.sbp_world.proofs.Words.Laws.{disk_of, known_at, plain_of, target_at, unit_at, ends, lists, runs, ended_status, EachMoment, command_at, linked, orb, present_list, slot_at}
use Rattle.sbp_world.proofs.Words.World.{FillsBuffer, IsOpenAt, IsAnswerOf, MayTell, whole_of, handed_out, holder, told_all, ticket_at, ticket_of, told, WorldState, answers, has_list, AreOthers, DataSo, IsPieceOf, IsDry, IsFor, machine_at, initiator_in, IsLoginFifo, HasSlot}
use Rattle.sbp_world.proofs.Agents.UnitsTold.{got_same}
use Rattle.command_agent.specs.Runs as agent_runs
use Rattle.sbp_world.proofs.Lists.AnswerRuns.{answer_on}
use Rattle.bus_memory.specs.declared.window.Window.TheVariants as windows
use Rattle.bus_memory.proofs.Found.{window_share}
use Rattle.orb_layout.specs.declared.ask.Ask.TheVariants as asks
use Rattle.sbp_journal.specs.declared.note.Note.TheVariants as notes
use Rattle.sbp_journal.specs.declared.side.Side.TheVariants as sides
use Rattle.sbp_target.specs.declared.purpose.Purpose.TheVariants as purposes
use Rattle.sbp_world.proofs.Agents.Management.Still.{hist}
use Rattle.sbp_world.proofs.Lists.DataCalls.{WroteSo, delivery_wrote, lapse_wrote, manages, steps_so, to_logins, IsFirstRun, RunsFirst}
use Rattle.sbp_world.proofs.Lists.DataFollows.{AllFifo, AllSo, IsBy, of_step, to_fifo}
use Rattle.sbp_world.proofs.Lists.DataSteps.{reply_piece, ArePrepared, IsFirstNow, IsTurnNow, answer_kept, answers_now, now_first, now_follows, ran_now, ran_well, reply_turn, reply_slot}
use Rattle.sbp_world.proofs.Lists.DataTurns.{AllDry, AllDue, AreTold, IsPieceNow, Sends, all_leave, all_told, IsTurnBy, by_first, by_follows, ran_on}
use Rattle.sbp_world.proofs.Lists.Deliveries.{waits_has}
use Rattle.sbp_world.proofs.Lists.OwnFifos.{fifo_low, fifo_no_window}
use Rattle.sbp_world.proofs.Lists.RunOutcomes.{AreAsked}
use Rattle.sbp_world.proofs.Lists.StatusActs.{first}
use Rattle.sbp_world.proofs.Lists.StatusAnswers.{answer_low, opened}
use Rattle.sbp_world.proofs.Lists.StatusBytes.{same_address, written_at}
use Rattle.sbp_world.proofs.Lists.StatusDue.{Ours}
use Rattle.sbp_world.proofs.Lists.StatusTurn.{Behind, IsFirst, Up, got_first, ignored_first, judged_first, late_first}
use Rattle.sbp_world.proofs.Lists.Turns.{Ready}
use Rattle.sbp_journal.specs.declared.cause.Judged.TheVariants as judgements
use Rattle.sbp_world.proofs.Lists.DataHears.{AreHeard}
use Rattle.sbp_world.proofs.Lists.Extends.{all_told as all_extends}
use Rattle.sbp_world.proofs.Lists.OpenWorlds.{hist_on}
use Rattle.sbp_world.proofs.Lists.StatusMoments.{latest_of}
use Rattle.sbp_world.proofs.Lists.Full.{IsFull}
use Rattle.sbp_world.proofs.Lists.DataOpen.{none_ended, told_open}
use Rattle.sbp_world.proofs.Lists.EndTells.{AreMild, EndedBy, TellsEnd, delivery_ends, of_end, of_mild}
use Rattle.sbp_world.proofs.Lists.RunTells.{delivery_may, served_there}
use Rattle.sbp_world.proofs.Lists.StatusSteps.{none_wrote}
use Rattle.sbp_world.proofs.Lists.StatusOffice.{sides_generations}

-- each live login for the node of an initiator has the FIFO of a login
abbrev pub FifoFor : WorldState → ℕ → ℕ → ℕ → Type 0
FifoFor w i to fifo = node_of w.generations 0 to ≡ Some (suc i) → IsLoginFifo fifo

abbrev pub AreOwnFor : WorldState → ℕ → Type 0
AreOwnFor w i = (place : ℕ) (login : Login) → login_at w.target place ≡ Some login → is_live login ≡ true → FifoFor w i login.node login.fifo

-- the FIFO of a login is in no buffer
fifo_dry : (fifo offset slot : ℕ) → IsLoginFifo fifo → offset ≡ written_at fifo → window_at offset ≡ Some (windows.Buffer slot) → ⊥
fifo_dry fifo offset slot own e goes =
    let low = fifo_low fifo own in
    none-some (windows.Buffer slot) (sym (ap window_at (e ∙ same_address fifo (omega (arith, low))) ∙ fifo_no_window fifo own) ∙ goes)

above_zero : (at slot : ℕ) → window_at at ≡ Some (windows.Buffer slot) → 0 < at
above_zero at slot e = let share = (subst (IfShare at) e (window_share at)).1 in omega (arith, share)

others_told : (disks : List Disk) (i : ℕ) (past ms : List Moment) (start : Note) (side : List Side) → AreOthers side → AreTold disks i past ms start side
others_told disks i past ms start [] h = tt
others_told disks i past ms start (sides.Own note ∷ later) h = absurd h.0
others_told disks i past ms start (_ ∷ later) h = (tt, others_told disks i past ms start later h.1)

first_so : (disks : List Disk) (i : ℕ) (note : Note) (ms : List Moment) → IsFirst note → DataSo disks i (said note) ms
first_so disks i _ ms (got_first serial) = tt
first_so disks i _ ms (ignored_first serial cause) = tt
first_so disks i _ ms (late_first serial) = tt

first_dry : (i : ℕ) (note : Note) → IsFirst note → IsDry i (said note)
first_dry i _ (got_first serial) = tt
first_dry i _ (ignored_first serial cause) = tt
first_dry i _ (late_first serial) = tt

-- what is known of the answers that agents write, of calm initiators: each is that of its present ORB as this ran; each command fills its buffer; and a holder has the unit of its login
pub record AreToldSo (disks : List Disk) (wild : ℕ → Bool) (ms : List Moment) (w : WorldState) : Type 0 where
  pub had : (q : ℕ) → q < 8 → wild (initiator_in w q) ≡ false → answers (machine_at w q).phase ≡ true → (n : ℕ) → (holder w q).list ≡ Some n → suc n ≡ lists ms (initiator_in w q) → IsAnswerOf disks ms (initiator_in w q) n (ends ms (initiator_in w q) n) (machine_at w q).answer
  pub fills : (j n k : ℕ) (cmd : Cmd) → command_at ms j n k ≡ Some cmd → FillsBuffer cmd
  pub unit_is : (q : ℕ) (login : Login) → login_at w.target q ≡ Some login → (holder w q).unit ≡ login.unit

-- the ORBs of the present list that have not ended have their slots
abbrev pub HaveSlots : List Moment → ℕ → Type 0
HaveSlots ms i = (n k : ℕ) → present_list ms i ≡ Some n → ends ms i n ≤ k → k < linked ms i n → HasSlot ms i (slot_at ms i n k) (orb n k)

module _ (disks : List Disk) (wild : ℕ → Bool) (i : ℕ) (own : wild i ≡ false) (past : List Moment) (w : WorldState) (r : Ready wild past w) (asked : AreAsked wild (hist past w) w) (owned : AreOwnFor w i) (each : EachMoment (DataSo disks i) (hist past w)) (slots : HaveSlots (hist past w) i) where
  abbrev ms : List Moment
  ms = hist past w

  -- the answer that it writes: to its command by what this medium holds
  record IsAnswerNow (m : Machine) (medium : Disk) : Type 0 where
    answered : IfSome (answer_of m.orb.cdb medium) (λ told. m.answer ≡ told)
    size : length m.answer ≡ answer_length_of medium.is_bay m.orb.cdb

  data IsToldNow (note : Note) (q n k : ℕ) (one : AgentStep × Machine) : Type 0 where
    told_first : IsFirstNow ms w q n k one → IsAnswerNow one.1 (disk_of disks (said note ∷ ms) (holder w q).unit) → IsToldNow note q n k one
    told_before : IsAnswerOf disks ms (initiator_in w q) n k one.1.answer → IsToldNow note q n k one

  record IsStepPiece (note : Note) (q : ℕ) (one : AgentStep × Machine) (offset size slot : ℕ) : Type 0 where
    list : ℕ
    latest : suc list ≡ lists ms (initiator_in w q)
    piece : IsPieceOf ms (initiator_in w q) list (ends ms (initiator_in w q) list) one.1 offset size
    slot_is : slot_at ms (initiator_in w q) list (ends ms (initiator_in w q) list) ≡ slot
    got : ℕ
    got_is : note ≡ notes.Got got
    turn : IsTurnNow ms w q list (ends ms (initiator_in w q) list) one got
    -- the answer of the command that runs now, or the one that it had
    told : IsToldNow note q list (ends ms (initiator_in w q) list) one

  -- what is known of the agent of a place that makes a step
  record StepSo (note : Note) (Told : ℕ → ℕ → StatusKind → Type 0) (q : ℕ) (one : AgentStep × Machine) : Type 0 where
    silent : one.0.ended ≡ None → (place at : ℕ) (status : StatusKind) → Told place at status → ⊥
    up : Up wild i own past w q
    same : (topology_at w.generations 0).generation ≡ (terms (hist past w)).generation 0
    piece : Ours wild past w r q → one.0.ended ≡ None → (at size : ℕ) → one.0.ask ≡ asks.Write at size → (slot : ℕ) → window_at (written_at at) ≡ Some (windows.Buffer slot) → IsStepPiece note q one (written_at at) size slot

  abbrev gen : ℕ
  gen = (topology_at w.generations 0).generation

  -- the world behind the first note
  module _ (note : Note) (u : WorldState) (b : Behind note w u) where
    ran_here : (base : List Moment) (j n k unit : ℕ) (cdb bytes : List ℕ) (check : Option Sense) → 0 < runs (said (notes.Ran j (Some n) (Some k) unit cdb bytes check) ∷ base) j n k
    ran_here base j n k unit cdb bytes check = pick (nat_eq j j) (nat_eq n n) (nat_eq k k) (itself j) (itself n) (itself k)
      where
        itself : (a : ℕ) → nat_eq a a ≡ true
        itself a = grind (arith, nat_tests)

        pick : (a c d : Bool) → a ≡ true → c ≡ true → d ≡ true → 0 < cond a (cond c (cond d (suc (runs base j n k)) (runs base j n k)) (runs base j n k)) (runs base j n k)
        pick true true true e f g = omega arith
        pick true true false e f g = absurd (let z : false ≡ true = g in cc)
        pick true false d e f g = absurd (let z : false ≡ true = f in cc)
        pick false c d e f g = absurd (let z : false ≡ true = e in cc)

    ran_note_here : (base : List Moment) (h : Holder) (t : Option TicketParts) (cdb payload : List ℕ) (outcome : Outcome) (n k : ℕ) → list_in t ≡ Some n → orb_in t ≡ Some k → 0 < runs (said (ran_note h t cdb payload outcome) ∷ base) h.initiator n k
    ran_note_here base h t cdb payload outcome n k e f =
        subst (λ x. 0 < runs (said (notes.Ran h.initiator x (orb_in t) h.unit cdb payload (check_of outcome)) ∷ base) h.initiator n k) (sym e)
        (subst (λ x. 0 < runs (said (notes.Ran h.initiator (Some n) x h.unit cdb payload (check_of outcome)) ∷ base) h.initiator n k) (sym f)
        (ran_here base h.initiator n k h.unit cdb payload (check_of outcome)))

    ticket_same : (q at : ℕ) → ticket_at u q at ≡ ticket_at w q at
    ticket_same q at =
        ap (λ ps. ticket_of u (holder_at ps q).initiator at) b.places
        ∙ ap (λ (is : List InitiatorState). cond (nat_lt (holder w q).initiator (length is)) (last_at (slice_index_or is (holder w q).initiator (new_state 0 false)).lists at) None) b.initiators

    ran_told : (q n k : ℕ) (m : Machine) (outcome : Outcome) (told_sides : List Side) → IsFirstRun q m outcome told_sides → list_in (ticket_at w q (orb_of m)) ≡ Some n → orb_in (ticket_at w q (orb_of m)) ≡ Some k → 0 < runs (hist past (told_all 0 told_sides u)) (initiator_in w q) n k
    unfolding told_all told
    ran_told q n k m outcome told_sides f e g =
        subst (λ xs. 0 < runs (hist past (told_all 0 xs u)) (initiator_in w q) n k) (sym f.is)
        (let v = told 0 (sides.Ran q (orb_of m) m.orb.cdb m.payload outcome) u in
        let on = hist_on past v (told_all 0 f.more v) (all_extends 0 f.more v) in
        let here : 0 < runs (hist past v) (holder u q).initiator n k =
        ran_note_here (hist past u) (holder u q) (ticket_at u q (orb_of m)) m.orb.cdb m.payload outcome n k (ap list_in (ticket_same q (orb_of m)) ∙ e) (ap orb_in (ticket_same q (orb_of m)) ∙ g) in
        let there : 0 < runs (hist past v) (initiator_in w q) n k = subst (λ j. 0 < runs (hist past v) j n k) (ap (λ ps. (holder_at ps q).initiator) b.places) here in
        subst (λ now. 0 < runs now (initiator_in w q) n k) on.is (ran_on on.more (hist past v) (initiator_in w q) n k there))

    ran_by : (q list k got : ℕ) (one : AgentStep × Machine) (told_sides : List Side) → IsTurnNow ms w q list k one got → RunsFirst q one told_sides → 0 < runs (hist past (told_all 0 told_sides u)) (initiator_in w q) list k
    ran_by q list k got one told_sides (now_first y) f = ran_told q list k one.1 y.outcome told_sides (f y.outcome y.ran) y.list y.number
    ran_by q list k got one told_sides (now_follows ran x) f =
        let start : hist past u ≡ said note ∷ ms = ap (λ ns. map said ns ++ past) b.fresh in
        let on = hist_on past u (told_all 0 told_sides u) (all_extends 0 told_sides u) in
        subst (λ now. 0 < runs now (initiator_in w q) list k) on.is
        (ran_on on.more (hist past u) (initiator_in w q) list k (subst (λ now. 0 < runs now (initiator_in w q) list k) (sym start) (ran_on (said note ∷ []) ms (initiator_in w q) list k ran)))

    answer_told : (q n k : ℕ) (m : Machine) (outcome : Outcome) (told_sides : List Side) → IsFirstRun q m outcome told_sides → list_in (ticket_at w q (orb_of m)) ≡ Some n → orb_in (ticket_at w q (orb_of m)) ≡ Some k → IsAnswerNow m (disk_of disks (said note ∷ ms) (holder w q).unit) → IsAnswerOf disks (hist past (told_all 0 told_sides u)) (initiator_in w q) n k m.answer
    unfolding told_all told
    answer_told q n k m outcome told_sides f e g is =
        subst (λ xs. IsAnswerOf disks (hist past (told_all 0 xs u)) (initiator_in w q) n k m.answer) (sym f.is)
        (let v = told 0 (sides.Ran q (orb_of m) m.orb.cdb m.payload outcome) u in
        let on = hist_on past v (told_all 0 f.more v) (all_extends 0 f.more v) in
        let begins : hist past u ≡ said note ∷ ms = ap (λ ns. map said ns ++ past) b.fresh in
        let same : holder u q ≡ holder w q = ap (λ ps. holder_at ps q) b.places in
        let list_there : list_in (ticket_at u q (orb_of m)) ≡ Some n = ap list_in (ticket_same q (orb_of m)) ∙ e in
        let number_there : orb_in (ticket_at u q (orb_of m)) ≡ Some k = ap orb_in (ticket_same q (orb_of m)) ∙ g in
        let here : IsAnswerNow m (disk_of disks (hist past u) (holder u q).unit) =
        subst (λ h. IsAnswerNow m (disk_of disks h (holder u q).unit)) (sym begins) (subst (λ (h : Holder). IsAnswerNow m (disk_of disks (said note ∷ ms) h.unit)) (sym same) is) in
        record {
          later = on.more;
          before = hist past u;
          unit = (holder u q).unit;
          cdb = m.orb.cdb;
          bytes = m.payload;
          check = check_of outcome;
          is =
              subst (λ j. on.more ++ said (notes.Ran j (Some n) (Some k) (holder u q).unit m.orb.cdb m.payload (check_of outcome)) ∷ hist past u ≡ hist past (told_all 0 f.more v)) (ap (λ (h : Holder). h.initiator) same)
              (subst (λ x. on.more ++ said (notes.Ran (holder u q).initiator x (Some k) (holder u q).unit m.orb.cdb m.payload (check_of outcome)) ∷ hist past u ≡ hist past (told_all 0 f.more v)) list_there
              (subst (λ x. on.more ++ said (notes.Ran (holder u q).initiator (list_in (ticket_at u q (orb_of m))) x (holder u q).unit m.orb.cdb m.payload (check_of outcome)) ∷ hist past u ≡ hist past (told_all 0 f.more v)) number_there on.is));
          told = here.answered;
          size = here.size;
        })

    answer_by : (q n k : ℕ) (one : AgentStep × Machine) (told_sides : List Side) → IsToldNow note q n k one → RunsFirst q one told_sides → IsAnswerOf disks (hist past (told_all 0 told_sides u)) (initiator_in w q) n k one.1.answer
    answer_by q n k one told_sides (told_first y is) f = answer_told q n k one.1 y.outcome told_sides (f y.outcome y.ran) y.list y.number is
    answer_by q n k one told_sides (told_before x) f =
        let begins : hist past u ≡ said note ∷ ms = ap (λ ns. map said ns ++ past) b.fresh in
        let on = hist_on past u (told_all 0 told_sides u) (all_extends 0 told_sides u) in
        answer_on disks on.more (hist past u) (hist past (told_all 0 told_sides u)) on.is (initiator_in w q) n k one.1.answer
        (answer_on disks (said note ∷ []) ms (hist past u) (sym begins) (initiator_in w q) n k one.1.answer x)

  abbrev pub Due : Note → List Moment → List Outgoing → Type 0
  Due note start packets = AllDue disks i past ms note start w.generations packets

  -- ---- what a call writes
  by_fifo : (to : ℕ) (access : Access) → node_of w.generations 0 to ≡ Some (suc i) → IsBy (FifoFor w i) quiet new_machine 0 to access.offset access.payload → (slot : ℕ) → window_at access.offset ≡ Some (windows.Buffer slot) → ⊥
  by_fifo to access there (to_fifo fifo own e) slot goes = absurd (fifo_dry fifo access.offset slot (own there) e goes)
  by_fifo to access there (of_step at size none ask to_is offset_is payload_is) slot goes = absurd (none_wrote at size ask)

  dry_fifo : (note : Note) (packets : List Outgoing) → AllFifo (FifoFor w i) packets → AllDry disks i past ms note w.generations packets
  dry_fifo note [] h = tt
  dry_fifo note (packet ∷ later) h = ((λ there slot x. by_fifo packet.to x.access there (h.0 x.access x.is x.writes) slot x.goes), dry_fifo note later h.1)

  due_fifo : (note : Note) (start : List Moment) (packets : List Outgoing) → AllFifo (FifoFor w i) packets → Due note start packets
  due_fifo note start [] h = tt
  due_fifo note start (packet ∷ later) h = ((λ there slot x. absurd (by_fifo packet.to x.access there (h.0 x.access x.is x.writes) slot x.goes)), dry_fifo note later h.1)

  by_step : (note : Note) (is_first : IsFirst note) (u : WorldState) (b : Behind note w u) (told_sides : List Side) (others : AreOthers told_sides) (Told : ℕ → ℕ → StatusKind → Type 0) (q : ℕ) (login : Login) → login_at w.target q ≡ Some login → (one : AgentStep × Machine) → StepSo note Told q one → RunsFirst q one told_sides → (one.0.ended ≡ None → AreMild told_sides) → (to : ℕ) (access : Access) → node_of w.generations 0 to ≡ Some (suc i) → IsBy (FifoFor w i) one.0 one.1 login.node to access.offset access.payload → (slot : ℕ) → window_at access.offset ≡ Some (windows.Buffer slot) → IsPieceNow disks ms (hist past (told_all 0 told_sides u)) i note gen slot access
  by_step note is_first u b told_sides others Told q login is one s f mild to access there (to_fifo fifo own e) slot goes = absurd (fifo_dry fifo access.offset slot (own there) e goes)
  by_step note is_first u b told_sides others Told q login is one s f mild to access there (of_step at size none ask to_is offset_is payload_is) slot goes =
      let mine = s.up.mine login is (ap (λ a. node_of w.generations 0 a) (sym to_is) ∙ there) in
      let p = s.piece (ap wild mine ∙ own) none at size ask slot (ap window_at (sym offset_is) ∙ goes) in
      let j = initiator_in w q in
      let start = hist past (told_all 0 told_sides u) in
      let latest : suc p.list ≡ lists ms i = p.latest ∙ ap (λ x. lists ms x) mine in
      let below : ends ms i p.list < linked ms i p.list = subst (λ x. ends ms x p.list < linked ms x p.list) mine p.piece.below in
      let there_slot : slot_at ms i p.list (ends ms i p.list) ≡ slot = subst (λ x. slot_at ms x p.list (ends ms x p.list) ≡ slot) mine p.slot_is in
      subst (λ x. IsPieceNow disks ms start x note gen slot access) mine (record {
        list = p.list;
        machine = one.1;
        size = size;
        piece = subst (λ o. IsPieceOf ms j p.list (ends ms j p.list) one.1 o size) (sym offset_is) p.piece;
        bytes = payload_is;
        turn = turn_by p.list (ends ms j p.list) p.got p.got_is p.turn;
        slot_is = p.slot_is;
        ran = ran_by note u b q p.list (ends ms j p.list) p.got one told_sides p.turn f;
        still =
            told_open past j p.list (ends ms j p.list) told_sides u others (mild none)
            (λ status z. none_ended wild i own ms r.kept.passes p.list status
            (subst (λ x. ended_status ms x p.list (ends ms x p.list) ≡ Some status) mine (first_ended j p.list (ends ms j p.list) status (subst (λ h. ended_status h j p.list (ends ms j p.list) ≡ Some status) (ap (λ ns. map said ns ++ past) b.fresh) z))));
        seen = subst (λ x. gen ≤ (terms ms).generation (suc x)) (sym mine) (s.up.caught mine);
        own = s.same;
        held = λ e.
            subst (λ x. HasSlot ms x slot (orb p.list (ends ms x p.list))) (sym mine)
            (let e_i : gen ≡ (terms ms).generation (suc i) = e ∙ ap (λ x. (terms ms).generation (suc x)) mine in
            let here = s.up.present mine e_i in
            let same : here.0 ≡ p.list = (let z = latest_of wild ms r.kept.passes i here.0 here.1 in omega (arith, z, latest)) in
            subst (λ y. HasSlot ms i y (orb p.list (ends ms i p.list))) there_slot (slots p.list (ends ms i p.list) (here.1 ∙ ap (λ y. Some y) same) (omega arith) below));
        told = answer_by note u b q p.list (ends ms j p.list) one told_sides p.told f;
      })
    where
      first_by : (first : Note) → IsFirst first → (j n k : ℕ) (status : StatusKind) → ended_status (said first ∷ ms) j n k ≡ Some status → ended_status ms j n k ≡ Some status
      first_by _ (got_first serial) j n k status z = z
      first_by _ (ignored_first serial cause) j n k status z = z
      first_by _ (late_first serial) j n k status z = z

      first_ended : (j n k : ℕ) (status : StatusKind) → ended_status (said note ∷ ms) j n k ≡ Some status → ended_status ms j n k ≡ Some status
      first_ended = first_by note is_first

      turn_by : (n k got : ℕ) → note ≡ notes.Got got → IsTurnNow ms w q n k one got → IsTurnBy ms (initiator_in w q) n k one.1 note
      turn_by n k got is (now_first y) = by_first y.none y.start
      turn_by n k got is (now_follows ran x) = by_follows got is x

  due_step : (note : Note) (is_first : IsFirst note) (u : WorldState) (b : Behind note w u) (told_sides : List Side) (others : AreOthers told_sides) (Told : ℕ → ℕ → StatusKind → Type 0) (q : ℕ) (login : Login) → login_at w.target q ≡ Some login → (one : AgentStep × Machine) → StepSo note Told q one → RunsFirst q one told_sides → (one.0.ended ≡ None → AreMild told_sides) → (packets : List Outgoing) → AllSo (FifoFor w i) one.0 one.1 login.node packets → Due note (hist past (told_all 0 told_sides u)) packets
  due_step note is_first u b told_sides others Told q login is one s f mild [] h = tt
  due_step note is_first u b told_sides others Told q login is one s f mild (packet ∷ later) h = ((λ there slot x. by_step note is_first u b told_sides others Told q login is one s f mild packet.to x.access there (h.0 x.access x.is x.writes) slot x.goes), dry_fifo note later h.1)

  -- ---- it leaves
  module _ (note : Note) (f : IsFirst note) (u : WorldState) (b : Behind note w u) (outbox : OutboxState) (others : AreOthers outbox.sides) where
    started : Sends disks i past ms note (hist past u)
    started = subst (Sends disks i past ms note) (ap (λ ns. map said ns ++ past) (sym b.fresh)) (record { grown = record { new = []; is = refl }; dry = tt; so = (first_so disks i note ms f, each) })

    pub hands : Due note (hist past (told_all 0 outbox.sides u)) outbox.packets → EachMoment (DataSo disks i) (hist past (handed_out 0 0 outbox u))
    hands due =
        (all_leave disks i past ms note (hist past (told_all 0 outbox.sides u)) w.generations outbox.packets (told_all 0 outbox.sides u) (sides_generations 0 outbox.sides u ∙ b.generations) due (first_dry i note f)
        (record { same = λ n k. refl; sends = all_told disks i past ms note 0 outbox.sides u (others_told disks i past ms note outbox.sides others) started; on = record { new = []; is = refl } }))

  abbrev C : Note → (ℕ → ℕ → StatusKind → Type 0) → (Answer → Type 0) → Layer Purpose → Scene → Type 0
  C note Told Its layer s = WroteSo w r.good (FifoFor w i) (λ q login is live there. owned q login is live there) (StepSo note Told) Its layer s

  mild_told : (Told : ℕ → ℕ → StatusKind → Type 0) (told_sides : List Side) → ((place at : ℕ) (status : StatusKind) → Told place at status → ⊥) → TellsEnd Told told_sides → AreMild told_sides
  mild_told Told told_sides f (of_mild m) = m
  mild_told Told told_sides f (of_end place at status early later t light mild is) = absurd (f place at status t)

  called : (Told : ℕ → ℕ → StatusKind → Type 0) (Its : Answer → Type 0) (layer : Layer Purpose) (s : Scene) (note : Note) (f : IsFirst note) (u : WorldState) (b : Behind note w u) (others : AreOthers s.outbox.sides) → ((answer : Answer) → Its answer → s ≡ manage answer (first w r.good layer) → EachMoment (DataSo disks i) (hist past (handed_out 0 0 s.outbox u))) → TellsEnd Told s.outbox.sides → C note Told Its layer s → EachMoment (DataSo disks i) (hist past (handed_out 0 0 s.outbox u))
  called Told Its layer s note f u b others managed tells (to_logins h) = hands note f u b s.outbox others (due_fifo note (hist past (told_all 0 s.outbox.sides u)) s.outbox.packets h)
  called Told Its layer s note f u b others managed tells (steps_so q small login is one known f_run h) = hands note f u b s.outbox others (due_step note f u b s.outbox.sides others Told q login is one known f_run (λ none. mild_told Told s.outbox.sides (known.silent none) tells) s.outbox.packets h)
  called Told Its layer s note f u b others managed tells (manages answer its e) = managed answer its e

  late_called : (layer : Layer Purpose) (s : Scene) (note : Note) (f : IsFirst note) (u : WorldState) (b : Behind note w u) (others : AreOthers s.outbox.sides) → ((answer : Answer) → answer ≡ Expired → s ≡ manage answer (first w r.good layer) → EachMoment (DataSo disks i) (hist past (handed_out 0 0 s.outbox u))) → WroteSo w r.good (FifoFor w i) (λ q login is live there. owned q login is live there) (λ q one. ⊥) (λ answer. answer ≡ Expired) layer s → EachMoment (DataSo disks i) (hist past (handed_out 0 0 s.outbox u))
  late_called layer s note f u b others managed (to_logins h) = hands note f u b s.outbox others (due_fifo note (hist past (told_all 0 s.outbox.sides u)) s.outbox.packets h)
  late_called layer s note f u b others managed (steps_so q small login is one known f_run h) = absurd known
  late_called layer s note f u b others managed (manages answer its e) = managed answer its e

  -- ---- a packet is delivered
  module _ (up : (q : ℕ) → q < 8 → has_list (machine_at w q).phase ≡ true → Up wild i own past w q) (lives : (q : ℕ) → q < 8 → has_list (machine_at w q).phase ≡ true → (login : Login) → login_at w.target q ≡ Some login → is_live login ≡ true) (sent : Sent) (is_for : IsFor w sent) (run : Option Told) (media : Held) (serial : ℕ) (prepared : ArePrepared ms w) (heard_so : AreHeard wild ms w) (same_serial : is_for.serial ≡ serial) (full : (q : ℕ) → q < 8 → wild (initiator_in w q) ≡ false → IsFull (machine_at w q)) (same_gen : gen ≡ (terms ms).generation 0) (may : MayTell run sent w.target media) (answered : AreToldSo disks wild ms w) (units : (unit : ℕ) → plain_of disks ms unit ≡ plain_in w.target.units media.disks unit) where
    got_heard : (p : Packet) (label : LabelParts) (place : ℕ) → (judging_step w.target.layer sent.generation sent.bytes).0 ≡ of_response p label (Some (purposes.Agent place)) → (received run sent.generation sent.bytes (whole_of w.target media)).0 ≡ judgements.Got
    unfolding received
    got_heard p label place f =
        let found = judging_step w.target.layer sent.generation sent.bytes in ap (λ x. (received_as run sent.bytes x (with_layer found.1 (whole_of w.target media))).0) f

    abbrev first_note : Note
    first_note = judged_note serial (received run sent.generation sent.bytes (whole_of w.target media)).0

    silent_by : (p : Packet) (label : LabelParts) (place : ℕ) → (judging_step w.target.layer sent.generation sent.bytes).0 ≡ of_response p label (Some (purposes.Agent place)) → (login : Login) → login_at w.target place ≡ Some login → (which : Which) → which_in (desk_at w.target place) (header_in p).source label ≡ Some which → (reply_step (machine_at w place) place (plain_in w.target.units media.disks login.unit) run which (answer_in p)).0.ended ≡ None → (at orb_at : ℕ) (status : StatusKind) → EndedBy w.target sent run media at orb_at status → ⊥
    silent_by p label place f login is which e none at orb_at status x =
        let both : of_response x.packet x.label (Some (purposes.Agent at)) ≡ of_response p label (Some (purposes.Agent place)) = sym x.found ∙ f in
        let same_place : at ≡ place = cc in
        let same_packet : x.packet ≡ p = cc in
        let same_label : x.label ≡ label = cc in
        let login_there : login_at w.target place ≡ Some x.login = subst (λ y. login_at w.target y ≡ Some x.login) same_place (served_there w.target at x.login x.served) in
        let same_login : x.login ≡ login = same_Some x.login login (sym login_there ∙ is) in
        let which_there : which_in (desk_at w.target place) (header_in p).source label ≡ Some x.which =
        subst (λ y. which_in (desk_at w.target place) (header_in p).source y ≡ Some x.which) same_label
        (subst (λ y. which_in (desk_at w.target place) (header_in y).source x.label ≡ Some x.which) same_packet
        (subst (λ y. which_in (desk_at w.target y) (header_in x.packet).source x.label ≡ Some x.which) same_place x.is_which)) in
        let same_which : x.which ≡ which = same_Some x.which which (sym which_there ∙ e) in
        let one = subst (λ y. (reply_step (machine_at w y) y (plain_in w.target.units media.disks x.login.unit) run x.which (answer_in x.packet)).0.ended ≡ Some status) same_place x.ended in
        let two = subst (λ (y : Login). (reply_step (machine_at w place) place (plain_in w.target.units media.disks y.unit) run x.which (answer_in x.packet)).0.ended ≡ Some status) same_login one in
        let three = subst (λ y. (reply_step (machine_at w place) place (plain_in w.target.units media.disks login.unit) run y (answer_in x.packet)).0.ended ≡ Some status) same_which two in
        let four = subst (λ y. (reply_step (machine_at w place) place (plain_in w.target.units media.disks login.unit) run which (answer_in y)).0.ended ≡ Some status) same_packet three in
        let z : None ≡ Some status = sym none ∙ four in cc

    -- the answer that an agent writes behind a packet that is got
    module _ (p : Packet) (label : LabelParts) (place : ℕ) (f : (judging_step w.target.layer sent.generation sent.bytes).0 ≡ of_response p label (Some (purposes.Agent place))) (b : place < 8) (login : Login) (served : served_login w.target place ≡ Some login) (which : Which) (e : which_in (desk_at w.target place) (header_in p).source label ≡ Some which) (ours : Ours wild past w r place) where
      abbrev step : AgentStep × Machine
      step = reply_step (machine_at w place) place (plain_in w.target.units media.disks login.unit) run which (answer_in p)

      abbrev O : IsOpenAt ms w place
      O = opened wild past w r asked sent is_for run media.disks p label place f b login which e ours

      may_tell : agent_runs.MayTell step.0.ran step.1 place (plain_in w.target.units media.disks login.unit)
      may_tell = delivery_may w.target r.good.mid.size r.good.table.sound sent run media may p label place f login served which e

      medium_is : disk_of disks (said first_note ∷ ms) (holder w place).unit ≡ (plain_in w.target.units media.disks login.unit).medium
      medium_is =
          ap (λ (n : Note). disk_of disks (said n ∷ ms) (holder w place).unit) (ap (λ x. judged_note serial x) (got_heard p label place f))
          ∙ (ap (λ us. (unit_at us (holder w place).unit).medium) (got_same serial ms (known_at disks ms).wire (target_at disks ms)).0
          ∙ (ap (λ (y : PlainDisk). y.medium) (units (holder w place).unit)
          ∙ ap (λ j. (plain_in w.target.units media.disks j).medium) (answered.unit_is place login (served_there w.target place login served))))

      told_so : step.0.ended ≡ None → (at size : ℕ) → step.0.ask ≡ asks.Write at size → 0 < at → IsToldNow first_note place O.n (ends ms (initiator_in w place) O.n) step
      told_so none at size ask some = by (reply_turn wild past w r asked sent is_for run media.disks p label place f b login which e ours (full place b ours) heard_so none at size ask some)
        where
          then : answers step.1.phase ≡ true
          then = answers_now wild past w r asked sent is_for run media.disks p label place f b login which e ours none at size ask some

          kept : step.0.ran ≡ None → IsToldNow first_note place O.n (ends ms (initiator_in w place) O.n) step
          kept ran =
              let k = answer_kept wild past w r asked sent is_for run media.disks p label place f b login which e ours may_tell prepared answered.fills (full place b ours) then ran in
              told_before (subst (λ xs. IsAnswerOf disks ms (initiator_in w place) O.n (ends ms (initiator_in w place) O.n) xs) (sym k.1) (answered.had place b ours k.0 O.n O.list O.still.latest))

          behind : 0 < runs ms (initiator_in w place) O.n (ends ms (initiator_in w place) O.n) → (x : Option Outcome) → step.0.ran ≡ x → IsToldNow first_note place O.n (ends ms (initiator_in w place) O.n) step
          behind ran None g = kept g
          behind ran (Some outcome) g = let z = ran_now wild past w r asked sent is_for run media.disks p label place f b login which e ours outcome g in absurd (omega (arith, z, ran))

          by : IsTurnNow ms w place O.n (ends ms (initiator_in w place) O.n) step is_for.serial → IsToldNow first_note place O.n (ends ms (initiator_in w place) O.n) step
          by (now_first y) =
              let it = subst (λ x. agent_runs.MayTell x step.1 place (plain_in w.target.units media.disks login.unit)) y.ran may_tell in
              let good = ran_well wild past w r asked sent is_for run media.disks p label place f b login which e ours may_tell prepared answered.fills (full place b ours) then y.outcome y.ran in
              told_first y (subst (λ d. IsAnswerNow step.1 d) (sym medium_is) (record { answered = it.answered good; size = it.size ∙ it.len good }))
          by (now_follows ran x) = behind ran step.0.ran refl

    reply_so : (p : Packet) (label : LabelParts) (place : ℕ) → (judging_step w.target.layer sent.generation sent.bytes).0 ≡ of_response p label (Some (purposes.Agent place)) → (b : place < 8) (login : Login) → served_login w.target place ≡ Some login → (which : Which) → which_in (desk_at w.target place) (header_in p).source label ≡ Some which → StepSo first_note (EndedBy w.target sent run media) place (reply_step (machine_at w place) place (plain_in w.target.units media.disks login.unit) run which (answer_in p))
    reply_so p label place f b login served which e = record {
      silent = λ none at orb_at status x. silent_by p label place f login (served_there w.target place login served) which e none at orb_at status x;
      up = up place b (waits_has wild past w r place b (header_in p).source label which e);
      same = same_gen;
      piece = λ ours none at size ask slot goes.
          let low = answer_low wild past w r asked sent is_for run media.disks p label place f b login which e ours none at size ask in
          let same : written_at at ≡ at = same_address at (omega (arith, low)) in
          let o = opened wild past w r asked sent is_for run media.disks p label place f b login which e ours in
          let j = (holder w place).initiator in
          let step = reply_step (machine_at w place) place (plain_in w.target.units media.disks login.unit) run which (answer_in p) in
          record {
            list = o.n;
            latest = o.still.latest;
            slot_is = reply_slot wild past w r asked sent is_for run media.disks p label place f b login which e ours prepared none at size ask (above_zero at slot (ap window_at (sym same) ∙ goes)) slot (ap window_at (sym same) ∙ goes);
            piece = subst (λ z. IsPieceOf ms j o.n (ends ms j o.n) step.1 z size) (sym same)
                (reply_piece wild past w r asked sent is_for run media.disks p label place f b login which e ours prepared none at size ask (above_zero at slot (ap window_at (sym same) ∙ goes)));
            told = told_so p label place f b login served which e ours none at size ask (above_zero at slot (ap window_at (sym same) ∙ goes));
            got = is_for.serial;
            got_is = ap (λ x. judged_note serial x) (got_heard p label place f) ∙ ap (λ n. notes.Got n) (sym same_serial);
            turn = reply_turn wild past w r asked sent is_for run media.disks p label place f b login which e ours (full place b ours) heard_so none at size ask (above_zero at slot (ap window_at (sym same) ∙ goes));
          };
    }

    -- the answer to the management is that of this packet
    record IsHeard (answer : Answer) : Type 0 where
      packet : Packet
      label : LabelParts
      found : (judging_step w.target.layer sent.generation sent.bytes).0 ≡ of_response packet label (Some purposes.Management)
      is : answer ≡ answer_in packet

    pub data_heard : (u : WorldState) → (let x = received run sent.generation sent.bytes (whole_of w.target media) in Behind (judged_note serial x.0) w u → AreOthers x.1.outbox.sides → ((p : Packet) (label : LabelParts) → (judging_step w.target.layer sent.generation sent.bytes).0 ≡ of_response p label (Some purposes.Management) → scene x.1.node x.1.outbox ≡ manage (answer_in p) (first w r.good (judging_step w.target.layer sent.generation sent.bytes).1) → EachMoment (DataSo disks i) (hist past (handed_out 0 0 x.1.outbox u))) → EachMoment (DataSo disks i) (hist past (handed_out 0 0 x.1.outbox u)))
    data_heard u b others managed =
        let x = received run sent.generation sent.bytes (whole_of w.target media) in
        called (EndedBy w.target sent run media) IsHeard (judging_step w.target.layer sent.generation sent.bytes).1 (scene x.1.node x.1.outbox) (judged_note serial x.0) (judged_first serial x.0) u b others
        (λ answer its e. managed its.packet its.label its.found (subst (λ a. scene x.1.node x.1.outbox ≡ manage a (first w r.good (judging_step w.target.layer sent.generation sent.bytes).1)) its.is e))
        (delivery_ends w.target r.good.mid.size r.good.table.sound sent run media)
        (delivery_wrote w r.good (FifoFor w i) (λ q login is live there. owned q login is live there) (StepSo first_note (EndedBy w.target sent run media)) IsHeard sent run media reply_so (λ p label f. record { packet = p; label = label; found = f; is = refl })
        (λ peer label place b which e login is. lives place b (waits_has wild past w r place b peer label which e) login is))

  -- ---- a transaction of it times out
  pub data_late : (lives : (q : ℕ) → q < 8 → has_list (machine_at w q).phase ≡ true → (login : Login) → login_at w.target q ≡ Some login → is_live login ≡ true) (layer : Layer Purpose) (peer : ℕ) (label : LabelParts) (purpose : Option Purpose) (serial : ℕ) (u : WorldState) → (let y = timed_out purpose peer label (first w r.good layer) in Behind (notes.TimedOut serial) w u → AreOthers y.outbox.sides → (y ≡ manage Expired (first w r.good layer) → EachMoment (DataSo disks i) (hist past (handed_out 0 0 y.outbox u))) → EachMoment (DataSo disks i) (hist past (handed_out 0 0 y.outbox u)))
  data_late lives layer peer label purpose serial u b others managed =
      late_called layer (timed_out purpose peer label (first w r.good layer)) (notes.TimedOut serial) (late_first serial) u b others
      (λ answer its e. managed (subst (λ a. timed_out purpose peer label (first w r.good layer) ≡ manage a (first w r.good layer)) its e))
      (lapse_wrote w r.good (FifoFor w i) (λ q login is live there. owned q login is live there) (λ q one. ⊥) (λ answer. answer ≡ Expired) layer peer label
      (λ place b which e login is. lives place b (waits_has wild past w r place b peer label which e) login is) purpose (λ e. refl))
