-- The answer of a good status has as many bytes as the answer to its command: it is the bytes of the buffer, which the command of its line fills; and the ORB ran.
use Rattle.sbp_world.proofs.Words.Std.{◌≡◌, ◌∙◌, refl, sym, ap, subst, ◌<◌, IfSome, IsSomeAnd, ℕ, suc, nat_eq, Bool, true, false, cond, List, [], ◌∷◌, ◌++◌, map, length, append_assoc, Option, Some, None, nat_tests, length-map, arith, same_Some}
use Rattle.sbp_world.proofs.Words.Wire.{buffer_of, in_buffer, out_buffer, Moment, asked, said, terms, Cmd, Event, Note, NoteBuffer}
use Rattle.sbp_world.proofs.Words.Target.{Disk, Sense, check_of, MayEnd, answer_length_of, answer_of, failure_of}
use Rattle.sbp_world.proofs.Words.Initiator.{StatusKind, buffer_addresses}
use Rattle.sbp_world.proofs.Words.Laws.{before_run, laid_out, ExecutionAt, MayEndWith, RunsOn, OrderAt, id_for, disk_of, place_on, plain_of, target_at, injectors, cmd_of, command_at, slot_at, TakenAt, Request, appends, ended_status, plan_of, ran_status, request_at, runs, status_of, EachMoment, event_of, LawfulOnLists}
use Rattle.sbp_world.proofs.Words.World.{IsCalm, history_of, moments_behind, Entry, Run, AreLines, FillsAction, FillsBuffer, IsLine, byte_held, IsRun, request_of, AnswerLengthsLaw, HasLength, LengthOf, ListsLaw}
use Rattle.std.specs.Prelude.{take}
use Rattle.orb_layout.specs.declared.status.StatusKind.TheVariants as kinds
use Rattle.sbp_journal.specs.declared.event.Action.TheVariants as actions
use Rattle.sbp_journal.specs.declared.event.Event.TheVariants as events
use Rattle.sbp_journal.specs.declared.note.Note.TheVariants as notes
use Rattle.sbp_world.specs.Hosts.Answers.{IsAnswerOf}
use Rattle.sbp_world.proofs.Hosts.AnswerRuns.{taken_law}
use Rattle.sbp_world.proofs.Hosts.BytePlaces.{buffer_length}
use Rattle.sbp_world.proofs.Hosts.OrbTables.{whole_bytes}
use Rattle.sbp_world.proofs.Lists.AnswerChecks.{check_length, ended_none, told_none}
use Rattle.sbp_world.proofs.Lists.LinedAppends.{AllLined, LinedAt, lined_appends}
use Rattle.sbp_world.proofs.Common.{none_is}
use Rattle.sbp_world.proofs.Hosts.ResponseTells.{some}
use Rattle.sbp_world.proofs.Lists.StatusKnown.{each_from}

-- ---- the commands of lines fill their buffers
abbrev pub FillsEvent : Event → Type 0
FillsEvent (events.Act i action) = FillsAction action
FillsEvent event = Unit {0}

abbrev pub AreFilled : List Moment → Type 0
AreFilled [] = Unit {0}
AreFilled (asked line event ∷ past) = FillsEvent event × AreFilled past
AreFilled (said note ∷ past) = AreFilled past

pub filled_said : (ns : List Note) (past : List Moment) → AreFilled past → AreFilled (map said ns ++ past)
filled_said [] past f = f
filled_said (n ∷ ns) past f = filled_said ns past f

event_fills : (event : Event) (n : ℕ) → IsLine event n → FillsEvent event
event_fills (events.Act i action) n h = h.3
event_fills event n h = tt

pub filled_behind : (line : ℕ) (run : Run) (entries : List Entry) → AreLines run entries → AreFilled (moments_behind line run entries)
filled_behind line run [] lines = (tt, tt)
filled_behind line run (e ∷ before) lines = filled_said e.notes _ (event_fills e.event _ lines.0, filled_behind line run before lines.1)

line_fills : (past : List Moment) → AreFilled past → (event : Event) → event_of past ≡ Some event → FillsEvent event
line_fills [] f event e = none_is event e
line_fills (asked line own ∷ past) f event e = subst FillsEvent (same_Some own event e) f.0
line_fills (said note ∷ past) f event e = line_fills past f event e

cmd_fills : (event : Option Event) → ((one : Event) → event ≡ Some one → FillsEvent one) → (cmd : Cmd) → cmd_of event ≡ Some cmd → FillsBuffer cmd
cmd_fills (Some (events.Act i (actions.Put own))) f cmd e = subst FillsBuffer (same_Some own cmd e) (f (events.Act i (actions.Put own)) refl)
cmd_fills (Some (events.Act i (actions.Append own))) f cmd e = subst FillsBuffer (same_Some own cmd e) (f (events.Act i (actions.Append own)) refl)
cmd_fills _ f cmd e = none_is cmd e

pick_fills : (a b c : Bool) (now old : Option Cmd) (cmd : Cmd) → (now ≡ Some cmd → FillsBuffer cmd) → (old ≡ Some cmd → FillsBuffer cmd) → cond a (cond b (cond c now old) old) old ≡ Some cmd → FillsBuffer cmd
pick_fills true true true now old cmd f g e = f e
pick_fills true true false now old cmd f g e = g e
pick_fills true false c now old cmd f g e = g e
pick_fills false b c now old cmd f g e = g e

pub commands_fill : (past : List Moment) → AreFilled past → (i n k : ℕ) (cmd : Cmd) → command_at past i n k ≡ Some cmd → FillsBuffer cmd
commands_fill [] f i n k cmd e = none_is cmd e
commands_fill (said (notes.Append j m l cdb buffer) ∷ past) f i n k cmd e =
    pick_fills (nat_eq i j) (nat_eq n m) (nat_eq k l) (cmd_of (event_of past)) (command_at past i n k) cmd
    (cmd_fills (event_of past) (line_fills past f) cmd) (commands_fill past f i n k cmd) e
commands_fill (asked line event ∷ past) f i n k cmd e = commands_fill past f.1 i n k cmd e
commands_fill (said _ ∷ past) f i n k cmd e = commands_fill past f i n k cmd e

filled_from : (later past : List Moment) → AreFilled (later ++ past) → AreFilled past
filled_from [] past f = f
filled_from (asked line event ∷ later) past f = filled_from later past f.1
filled_from (said note ∷ later) past f = filled_from later past f

-- ---- the request of a command
pick_asked : (a b c : Bool) (now old : Option Cmd) (asks : Request) (before : Option Request) (cmd : Cmd) → (a ≡ true → now ≡ Some cmd → Some asks ≡ Some (request_of cmd)) → (old ≡ Some cmd → before ≡ Some (request_of cmd)) → cond a (cond b (cond c now old) old) old ≡ Some cmd → cond a (cond b (cond c (Some asks) before) before) before ≡ Some (request_of cmd)
pick_asked true true true now old asks before cmd f g e = f refl e
pick_asked true true false now old asks before cmd f g e = g e
pick_asked true false c now old asks before cmd f g e = g e
pick_asked false b c now old asks before cmd f g e = g e

commands_ask : (past : List Moment) (i n k : ℕ) → AllLined past i → (cmd : Cmd) → command_at past i n k ≡ Some cmd → request_at past i n k ≡ Some (request_of cmd)
commands_ask [] i n k h cmd e = none_is cmd e
commands_ask (said (notes.Append j m l cdb buffer) ∷ past) i n k h cmd e =
    pick_asked (nat_eq i j) (nat_eq n m) (nat_eq k l) (cmd_of (event_of past)) (command_at past i n k) (record { cdb = cdb; buffer = buffer }) (request_at past i n k) cmd own_asks (commands_ask past i n k h.1 cmd) e
  where
    own_asks : nat_eq i j ≡ true → cmd_of (event_of past) ≡ Some cmd → Some (record { cdb = cdb; buffer = buffer }) ≡ Some (request_of cmd)
    own_asks same line =
        let x = h.0 (let z : j ≡ i = grind (arith, nat_tests) in z) in
        let one : x.cmd ≡ cmd = same_Some x.cmd cmd (sym x.line ∙ line) in
        ap (λ (c : List ℕ). Some (record { cdb = c; buffer = buffer })) x.cdb_is
        ∙ (ap (λ (y : NoteBuffer). Some (record { cdb = x.cmd.cdb; buffer = y })) x.buffer_is ∙ ap (λ (c : Cmd). Some (request_of c)) one)
commands_ask (_ ∷ past) i n k h cmd e = commands_ask past i n k h.1 cmd e

-- ---- what ended good ran
abbrev HasRun : Option Disk → Type 0
HasRun found = (disk : Disk) × (found ≡ Some disk)

pick_ran : (a b c : Bool) (status x : StatusKind) (disk : Disk) (old : Option StatusKind) (had : Option Disk) → (old ≡ Some x → HasRun had) → cond a (cond b (cond c (Some status) old) old) old ≡ Some x → HasRun (cond a (cond b (cond c (Some disk) had) had) had)
pick_ran true true true status x disk old had f e = (disk, refl)
pick_ran true true false status x disk old had f e = f e
pick_ran true false c status x disk old had f e = f e
pick_ran false b c status x disk old had f e = f e

pick_ended : (a b c : Bool) (status x : StatusKind) (old : Option StatusKind) (A : Type 0) → (a ≡ true → b ≡ true → c ≡ true → status ≡ x → A) → (old ≡ Some x → A) → cond a (cond b (cond c (Some status) old) old) old ≡ Some x → A
pick_ended true true true status x old A f g e = f refl refl refl (let same : status ≡ x = cc in same)
pick_ended true true false status x old A f g e = g e
pick_ended true false c status x old A f g e = g e
pick_ended false b c status x old A f g e = g e

module _ (wild : ℕ → Bool) (start : List Disk) (i n k : ℕ) (own : wild i ≡ false) where
  ran_before : (past : List Moment) (x : StatusKind) → ran_status past i n k ≡ Some x → HasRun (before_run start past i n k)
  ran_before [] x e = none_is x e
  ran_before (said (notes.Ran j (Some m) (Some l) unit cdb bytes check) ∷ past) x e =
      pick_ran (nat_eq i j) (nat_eq n m) (nat_eq k l) _ x _ (ran_status past i n k) (before_run start past i n k) (ran_before past x) e
  ran_before (_ ∷ past) x e = ran_before past x e

-- ---- an ORB that ran was appended, and is appended no more; and its answer is none, where its data do not go to the initiator
pick_more : (a b : Bool) (count next k : ℕ) → (a ≡ true → b ≡ true → next ≡ suc count) → k < count → k < cond a (cond b next count) count
pick_more true true count next k f l = let e = f refl refl in omega (arith, e, l)
pick_more true false count next k f l = l
pick_more false b count next k f l = l

pick_below : (a b c : Bool) (asks r : Request) (before : Option Request) (count next k : ℕ) → (a ≡ true → b ≡ true → next ≡ suc count) → (a ≡ true → b ≡ true → c ≡ true → k ≡ count) → (before ≡ Some r → k < count) → cond a (cond b (cond c (Some asks) before) before) before ≡ Some r → k < cond a (cond b next count) count
pick_below true true true asks r before count next k n f g e = let is = n refl refl in let at = f refl refl refl in omega (arith, is, at)
pick_below true true false asks r before count next k n f g e = let is = n refl refl in let l = g e in omega (arith, is, l)
pick_below true false c asks r before count next k n f g e = g e
pick_below false b c asks r before count next k n f g e = g e

-- where it ran now, and where it ran before
pick_status : (a b c : Bool) (status x : StatusKind) (old : Option StatusKind) (A : Type 0) → (a ≡ true → b ≡ true → c ≡ true → A) → (old ≡ Some x → A) → cond a (cond b (cond c (Some status) old) old) old ≡ Some x → A
pick_status true true true status x old A f g e = f refl refl refl
pick_status true true false status x old A f g e = g e
pick_status true false c status x old A f g e = g e
pick_status false b c status x old A f g e = g e

pick_once : (a b c : Bool) (status x : StatusKind) (old : Option StatusKind) (count other : ℕ) → (old ≡ Some x → count ≡ 0 → ⊥) → cond a (cond b (cond c (Some status) old) old) old ≡ Some x → cond a (cond b (cond c (suc other) count) count) count ≡ 0 → ⊥
pick_once true true true status x old count other f e z = some other z
pick_once true true false status x old count other f e z = f e z
pick_once true false c status x old count other f e z = f e z
pick_once false b c status x old count other f e z = f e z

keep_status : (a b c : Bool) (now old : Option StatusKind) (x : StatusKind) → (a ≡ true → b ≡ true → c ≡ true → ⊥) → old ≡ Some x → cond a (cond b (cond c now old) old) old ≡ Some x
keep_status true true true now old x f e = absurd (f refl refl refl)
keep_status true true false now old x f e = e
keep_status true false c now old x f e = e
keep_status false b c now old x f e = e

pick_length : (a b c : Bool) (status : StatusKind) (old : Option StatusKind) (now : Disk) (had : Option Disk) (disk : Disk) (A : Type 0) → (a ≡ true → b ≡ true → c ≡ true → status ≡ kinds.Good → now ≡ disk → A) → (old ≡ Some kinds.Good → had ≡ Some disk → A) → cond a (cond b (cond c (Some status) old) old) old ≡ Some kinds.Good → cond a (cond b (cond c (Some now) had) had) had ≡ Some disk → A
pick_length true true true status old now had disk A f g e d = f refl refl refl (let same : status ≡ kinds.Good = cc in same) (let same : now ≡ disk = cc in same)
pick_length true true false status old now had disk A f g e d = g e d
pick_length true false c status old now had disk A f g e d = g e d
pick_length false b c status old now had disk A f g e d = g e d

pick_cmd : (a b c : Bool) (now old : Option Cmd) (cmd : Cmd) (A : Type 0) → (a ≡ true → b ≡ true → c ≡ true → A) → (old ≡ Some cmd → A) → cond a (cond b (cond c now old) old) old ≡ Some cmd → A
pick_cmd true true true now old cmd A f g e = f refl refl refl
pick_cmd true true false now old cmd A f g e = g e
pick_cmd true false c now old cmd A f g e = g e
pick_cmd false b c now old cmd A f g e = g e

same_request : (one other : Request) → Some one ≡ Some other → one ≡ other
same_request one other e = cc

none_request : {A : Type 0} (r : Request) → None ≡ Some r → A
none_request r e = absurd (differ e)
  where
    differ : None ≡ Some r → ⊥
    differ e = cc

some_request : (found : Option Request) (P : Request → Type 0) → IsSomeAnd found P → (request : Request) × ((found ≡ Some request) × P request)
some_request None P s = absurd s
some_request (Some request) P s = (request, (refl, s))

check_none : (check : Option Sense) → status_of check ≡ kinds.Good → check ≡ None
check_none None e = refl
check_none (Some sense) e = absurd (let differ : kinds.Check sense ≡ kinds.Good = e in cc)

out_plan : (bytes : List ℕ) → (plan_of (out_buffer bytes)).to_initiator ≡ false
out_plan [] = refl
out_plan (byte ∷ bytes) = refl

outward_plan : (cmd : Cmd) → cmd.to_initiator ≡ false → (plan_of (buffer_of cmd)).to_initiator ≡ false
outward_plan cmd to = ap (λ b. (plan_of (cond b (in_buffer cmd.length) (out_buffer (take cmd.length cmd.payload)))).to_initiator) to ∙ out_plan (take cmd.length cmd.payload)

module _ (wild : ℕ → Bool) (start : List Disk) (i n k : ℕ) (own : wild i ≡ false) where
  asked_below : (past : List Moment) → EachMoment (OrderAt wild) past → (r : Request) → request_at past i n k ≡ Some r → k < appends past i n
  asked_below [] o r e = none_request r e
  asked_below (said (notes.Append j m l cdb buffer) ∷ past) o r e =
      pick_below (nat_eq i j) (nat_eq n m) (nat_eq k l) (record { cdb = cdb; buffer = buffer }) r (request_at past i n k) (appends past i n) (suc (appends past j m)) k next number (asked_below past o.1 r) e
    where
      next : nat_eq i j ≡ true → nat_eq n m ≡ true → suc (appends past j m) ≡ suc (appends past i n)
      next a b =
          let at_i : j ≡ i = grind (arith, nat_tests) in
          let at_n : m ≡ n = grind (arith, nat_tests) in
          ap (λ x. suc (appends past x m)) at_i ∙ ap (λ x. suc (appends past i x)) at_n

      number : nat_eq i j ≡ true → nat_eq n m ≡ true → nat_eq k l ≡ true → k ≡ appends past i n
      number a b c =
          let at_i : j ≡ i = grind (arith, nat_tests) in
          let at_n : m ≡ n = grind (arith, nat_tests) in
          let at_k : k ≡ l = grind (arith, nat_tests) in
          at_k ∙ (o.0.number ∙ (ap (λ x. appends past x m) at_i ∙ ap (λ x. appends past i x) at_n))
  asked_below (_ ∷ past) o r e = asked_below past o.1 r e

  ran_below : (past : List Moment) → EachMoment (OrderAt wild) past → EachMoment (ExecutionAt wild start) past → (x : StatusKind) → ran_status past i n k ≡ Some x → k < appends past i n
  ran_below [] o h x e = none_is x e
  ran_below (said (notes.Append j m l cdb buffer) ∷ past) o h x e =
      pick_more (nat_eq i j) (nat_eq n m) (appends past i n) (suc (appends past j m)) k next (ran_below past o.1 h.1 x e)
    where
      next : nat_eq i j ≡ true → nat_eq n m ≡ true → suc (appends past j m) ≡ suc (appends past i n)
      next a b =
          let at_i : j ≡ i = grind (arith, nat_tests) in
          let at_n : m ≡ n = grind (arith, nat_tests) in
          ap (λ y. suc (appends past y m)) at_i ∙ ap (λ y. suc (appends past i y)) at_n
  ran_below (said (notes.Ran j (Some m) (Some l) unit cdb bytes check) ∷ past) o h x e =
      pick_status (nat_eq i j) (nat_eq n m) (nat_eq k l) (status_of check) x (ran_status past i n k) (k < appends past i n) here (ran_below past o.1 h.1 x) e
    where
      here : nat_eq i j ≡ true → nat_eq n m ≡ true → nat_eq k l ≡ true → k < appends past i n
      here a b c =
          let at_i : j ≡ i = grind (arith, nat_tests) in
          let at_n : m ≡ n = grind (arith, nat_tests) in
          let at_k : l ≡ k = grind (arith, nat_tests) in
          let r = some_request (request_at past j m l) _ (h.0 (ap wild at_i ∙ own)).1 in
          asked_below past o.1 r.0 (sym (ap (λ y. request_at past y m l) at_i ∙ (ap (λ y. request_at past i y l) at_n ∙ ap (λ y. request_at past i n y) at_k)) ∙ r.1.0)
  ran_below (_ ∷ past) o h x e = ran_below past o.1 h.1 x e

  ran_once : (past : List Moment) (x : StatusKind) → ran_status past i n k ≡ Some x → runs past i n k ≡ 0 → ⊥
  ran_once [] x e z = none_is x e
  ran_once (said (notes.Ran j (Some m) (Some l) unit cdb bytes check) ∷ past) x e z =
      pick_once (nat_eq i j) (nat_eq n m) (nat_eq k l) (status_of check) x (ran_status past i n k) (runs past i n k) (runs past j m l) (ran_once past x) e z
  ran_once (_ ∷ past) x e z = ran_once past x e z

  -- what ended good ran good, and does not run again
  ended_ran : (past : List Moment) → EachMoment (ExecutionAt wild start) past → ended_status past i n k ≡ Some kinds.Good → ran_status past i n k ≡ Some kinds.Good
  ended_ran [] h e = none_is kinds.Good e
  ended_ran (said (notes.Ran j (Some m) (Some l) unit cdb bytes check) ∷ past) h e =
      let before = ended_ran past h.1 e in
      keep_status (nat_eq i j) (nat_eq n m) (nat_eq k l) (Some (status_of check)) (ran_status past i n k) kinds.Good (λ a b c. again a b c before) before
    where
      again : nat_eq i j ≡ true → nat_eq n m ≡ true → nat_eq k l ≡ true → ran_status past i n k ≡ Some kinds.Good → ⊥
      again a b c before =
          let at_i : j ≡ i = grind (arith, nat_tests) in
          let at_n : m ≡ n = grind (arith, nat_tests) in
          let at_k : l ≡ k = grind (arith, nat_tests) in
          ran_once past kinds.Good before (sym (ap (λ y. runs past y m l) at_i ∙ (ap (λ y. runs past i y l) at_n ∙ ap (λ y. runs past i n y) at_k)) ∙ (h.0 (ap wild at_i ∙ own)).0.once)
  ended_ran (said (notes.Ended j (Some m) (Some l) status) ∷ past) h e =
      pick_ended (nat_eq i j) (nat_eq n m) (nat_eq k l) status kinds.Good (ended_status past i n k) (ran_status past i n k ≡ Some kinds.Good) ended (ended_ran past h.1) e
    where
      ended : nat_eq i j ≡ true → nat_eq n m ≡ true → nat_eq k l ≡ true → status ≡ kinds.Good → ran_status past i n k ≡ Some kinds.Good
      ended a b c is =
          let at_i : j ≡ i = grind (arith, nat_tests) in
          let at_n : m ≡ n = grind (arith, nat_tests) in
          let at_k : l ≡ k = grind (arith, nat_tests) in
          let may : MayEndWith status (ran_status past j m l) = h.0 (ap wild at_i ∙ own) in
          let good : ran_status past j m l ≡ Some kinds.Good = subst (λ (x : StatusKind). MayEndWith x (ran_status past j m l)) is may in
          sym (ap (λ x. ran_status past x m l) at_i ∙ (ap (λ x. ran_status past i x l) at_n ∙ ap (λ x. ran_status past i n x) at_k)) ∙ good
  ended_ran (_ ∷ past) h e = ended_ran past h.1 e

  abbrev Outward : List Moment → Type 0
  Outward past = (disk : Disk) → before_run start past i n k ≡ Some disk → (cmd : Cmd) → command_at past i n k ≡ Some cmd → cmd.to_initiator ≡ false → answer_length_of disk.is_bay cmd.cdb ≡ 0

  outward_length : (past : List Moment) → EachMoment (OrderAt wild) past → EachMoment (ExecutionAt wild start) past → AllLined past i → ran_status past i n k ≡ Some kinds.Good → Outward past
  outward_length [] o h lined e disk d cmd c to = none_is kinds.Good e
  outward_length (said (notes.Ran j (Some m) (Some l) unit cdb bytes check) ∷ past) o h lined e disk d cmd c to =
      pick_length (nat_eq i j) (nat_eq n m) (nat_eq k l) (status_of check) (ran_status past i n k) (disk_of start past unit) (before_run start past i n k) disk (answer_length_of disk.is_bay cmd.cdb ≡ 0)
      here (λ ran had. outward_length past o.1 h.1 lined.1 ran disk had cmd c to) e d
    where
      here : nat_eq i j ≡ true → nat_eq n m ≡ true → nat_eq k l ≡ true → status_of check ≡ kinds.Good → disk_of start past unit ≡ disk → answer_length_of disk.is_bay cmd.cdb ≡ 0
      here a b x good is =
          let at_i : j ≡ i = grind (arith, nat_tests) in
          let at_n : m ≡ n = grind (arith, nat_tests) in
          let at_k : l ≡ k = grind (arith, nat_tests) in
          let r = some_request (request_at past j m l) _ (h.0 (ap wild at_i ∙ own)).1 in
          let asked_for : request_at past j m l ≡ Some (request_of cmd) = ap (λ y. request_at past y m l) at_i ∙ (ap (λ y. request_at past i y l) at_n ∙ (ap (λ y. request_at past i n y) at_k ∙ commands_ask past i n k lined.1 cmd c)) in
          let own_request : r.0 ≡ request_of cmd = same_request r.0 (request_of cmd) (sym r.1.0 ∙ asked_for) in
          let runs_on = subst (λ (y : Request). RunsOn y (plain_of start past unit) (place_on (target_at start past) unit (id_for (terms past) 0 (suc j))) cdb bytes check) own_request r.1.1 in
          let none = ended_none _ _ (subst (λ (y : Option Sense). MayEnd (check_of cdb (plan_of (buffer_of cmd)) (plain_of start past unit) (place_on (target_at start past) unit (id_for (terms past) 0 (suc j)))) (failure_of (plain_of start past unit).medium.is_bay cdb) y) (check_none check good) runs_on.ended) in
          let zero_there = check_length cdb (plan_of (buffer_of cmd)) (plain_of start past unit) _ (outward_plan cmd to) none in
          ap (λ (y : Disk). answer_length_of y.is_bay cmd.cdb) (sym is) ∙ (ap (λ (xs : List ℕ). answer_length_of (disk_of start past unit).is_bay xs) (sym runs_on.command) ∙ zero_there)
  outward_length (said (notes.Append j m l cdb buffer) ∷ past) o h lined e disk d cmd c to =
      pick_cmd (nat_eq i j) (nat_eq n m) (nat_eq k l) (cmd_of (event_of past)) (command_at past i n k) cmd (answer_length_of disk.is_bay cmd.cdb ≡ 0)
      again (λ old. outward_length past o.1 h.1 lined.1 e disk d cmd old to) c
    where
      again : nat_eq i j ≡ true → nat_eq n m ≡ true → nat_eq k l ≡ true → answer_length_of disk.is_bay cmd.cdb ≡ 0
      again a b x =
          let at_i : j ≡ i = grind (arith, nat_tests) in
          let at_n : m ≡ n = grind (arith, nat_tests) in
          let at_k : k ≡ l = grind (arith, nat_tests) in
          let number : k ≡ appends past i n = at_k ∙ (o.0.number ∙ (ap (λ y. appends past y m) at_i ∙ ap (λ y. appends past i y) at_n)) in
          let below = ran_below past o.1 h.1 kinds.Good e in
          absurd (omega (arith, number, below))
  outward_length (_ ∷ past) o h lined e disk d cmd c to = outward_length past o.1 h.1 lined.1 e disk d cmd c to

-- ---- each moment of a history
module _ (At : Moment → List Moment → Type 0) (whole : List Moment) (each : (later : List Moment) (moment : Moment) (past : List Moment) → later ++ moment ∷ past ≡ whole → At moment past) where
  each_there : (later past : List Moment) → later ++ past ≡ whole → EachMoment At past
  each_there later [] e = tt
  each_there later (moment ∷ past) e = (each later moment past e, each_there (later ++ moment ∷ []) past (append_assoc later (moment ∷ []) past ∙ e))

-- ---- the answer
module _ (line : ℕ) (run : Run) (r : IsRun run) (lawful : LawfulOnLists (injectors (history_of line run)) run.start.disks (history_of line run)) (i : ℕ) (calm : IsCalm (history_of line run) i) (b : i < run.initiators) where
  abbrev H : List Moment
  H = history_of line run

  abbrev start : List Disk
  start = run.start.disks

  answer_empty : (past : List Moment) (n k : ℕ) (answer : List ℕ) (a : IsAnswerOf past i n k answer) → a.cmd.to_initiator ≡ false → answer ≡ []
  answer_empty past n k answer a to = a.is ∙ ap (λ t. cond t (map (byte_held past i (slot_at past i n k)) (buffer_addresses (laid_out (slot_at past i n k) a.cmd a.cmd.segments))) []) to

  answer_length : (past : List Moment) (n k : ℕ) (answer : List ℕ) (a : IsAnswerOf past i n k answer) → FillsBuffer a.cmd → (disk : Disk) → (a.cmd.to_initiator ≡ false → answer_length_of disk.is_bay a.cmd.cdb ≡ 0) → (t : Bool) → a.cmd.to_initiator ≡ t → length answer ≡ answer_length_of disk.is_bay a.cmd.cdb
  answer_length past n k answer a filled disk none true to =
      ap length (a.is ∙ ap (λ t. cond t (map (byte_held past i (slot_at past i n k)) (buffer_addresses (laid_out (slot_at past i n k) a.cmd a.cmd.segments))) []) to)
      ∙ (length-map (buffer_addresses (laid_out (slot_at past i n k) a.cmd a.cmd.segments)) (byte_held past i (slot_at past i n k))
      ∙ (buffer_length (laid_out (slot_at past i n k) a.cmd a.cmd.segments)
      ∙ (whole_bytes (slot_at past i n k) a.cmd filled.segments
      ∙ sym (filled.answered disk.is_bay to))))
  answer_length past n k answer a filled disk none false to = ap length (answer_empty past n k answer a to) ∙ sym (none to)

  length_at : (later past : List Moment) (n k : ℕ) (answer : List ℕ) → later ++ said (notes.Taken i n k kinds.Good answer) ∷ past ≡ H → HasLength start past i n k answer
  length_at later past n k answer e =
      let a = taken_law.answers line run r i b later past n k answer e in
      let m = said (notes.Taken i n k kinds.Good answer) in
      let whole = λ (At : Moment → List Moment → Type 0) (h : EachMoment At H). each_from At later (m ∷ past) (subst (EachMoment At) (sym e) h) in
      let status = (whole (TakenAt (injectors H)) lawful.status.taken).0 calm in
      let lined = (whole (LinedAt i) (lined_appends line run r i b)).1 in
      let good = ended_ran (injectors H) start i n k calm past (whole (ExecutionAt (injectors H) start) lawful.execution).1 status.ended in
      let ran = ran_before (injectors H) start i n k calm past kinds.Good good in
      let filled = commands_fill past (filled_from later (m ∷ past) (subst AreFilled (sym e) (filled_behind line run run.entries r.lines))) i n k a.cmd a.command in
      let none = outward_length (injectors H) start i n k calm past (whole (OrderAt (injectors H)) lawful.order).1 (whole (ExecutionAt (injectors H) start) lawful.execution).1 lined good ran.0 ran.1 a.cmd a.command in
      record {
        cmd = a.cmd;
        command = a.command;
        request = commands_ask past i n k lined a.cmd a.command;
        disk = ran.0;
        ran = ran.1;
        len = answer_length past n k answer a filled ran.0 none a.cmd.to_initiator refl;
        outward = λ to. (answer_empty past n k answer a to, subst (λ xs. IfSome (answer_of a.cmd.cdb ran.0) (λ bytes. xs ≡ bytes)) (sym (answer_empty past n k answer a to)) (told_none a.cmd.cdb ran.0 (none to)));
      }

  moment_length : (later : List Moment) (moment : Moment) (past : List Moment) → later ++ moment ∷ past ≡ H → LengthOf start i moment past
  moment_length later (said (notes.Taken j n k kinds.Good answer)) past e =
      λ same. length_at later past n k answer (subst (λ x. later ++ said (notes.Taken x n k kinds.Good answer) ∷ past ≡ H) same e)
  moment_length later _ past e = tt

  pub all_lengths : EachMoment (LengthOf start i) H
  all_lengths = each_there (LengthOf start i) H moment_length [] H refl

pub answer_lengths_law : ListsLaw → AnswerLengthsLaw
answer_lengths_law law = record {
  lengths = λ line run r has small size tame i b calm. all_lengths line run r (law.lists line run r has small size tame) i calm b;
}
