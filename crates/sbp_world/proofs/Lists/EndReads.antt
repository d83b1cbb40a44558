-- An end that the target tells of, but with the status failed, is of an ORB that a response brought of the place of its ORB: that of its append, or a dummy where it ends so.
use Rattle.sbp_world.proofs.Words.Std.{arith, ◌≡◌, ◌∙◌, refl, sym, ap, subst, ℕ, ◌<◌, ◌≤◌, ◌==◌, Bool, true, false, cond, List, [], ◌∷◌, ◌++◌, map, Option, Some, None, IfSome, IsSomeAnd, Result, Ok, Err, nat_tests, same_Some}
use Rattle.sbp_world.proofs.Words.Wire.{list_in, orb_in, Moment, said, Cmd, Note}
use Rattle.sbp_world.proofs.Words.Target.{Login, Outcome, Disk, Told, PlainDisk, Phase, AgentStep, Which, Ahead, Main, Machine, is_ahead, advanced, ahead_read, ahead_step, quiet, reply_step, served, told_or, Progress, OrbList, ahead_beside, main_beside, IsEnd, Keeps, WasRead, heard_by, run_by, desk_at, login_at, answer_in, plain_in}
use Rattle.sbp_world.proofs.Words.Initiator.{start_of, FailCause, CommandOrb, StatusKind, Answer, payload_of}
use Rattle.sbp_world.proofs.Words.Laws.{address_of, MatchesStatus, command_at, slot_at, Request, ends, request_at}
use Rattle.sbp_world.proofs.Words.World.{holder, ticket_at, Scene, WorldState, has_list, request_of, EndAt, EndIsRead, IsOrbOf, orbs, IsFor, IsNamed, IsOpenAt, IsBrought}
use Rattle.login_table.proofs.Searching.{within}
use Rattle.bus_memory.specs.declared.window.Window.TheVariants as windows
use Rattle.orb_layout.specs.declared.status.StatusKind.TheVariants as kinds
use Rattle.command_agent.specs.declared.phase.Phase.TheVariants as phases
use Rattle.agent_laws.proofs.Along.Writes.{keeps_along}
use Rattle.sbp_journal.specs.declared.note.Note.TheVariants as notes
use Rattle.sbp_world.proofs.Agents.Management.Still.{hist}
use Rattle.sbp_world.proofs.Lists.Endless.{AllLight, IsEndBy, IsLightNote, IsPlain, light_death, light_run}
use Rattle.sbp_world.proofs.Lists.Lists.{laid}
use Rattle.sbp_world.proofs.Lists.OrbFolds.{Brings}
use Rattle.sbp_world.proofs.Lists.OrbReading.{brought_more, reads_more}
use Rattle.sbp_world.proofs.Lists.OrbSteps.{Reads, Stepped, ends_read, reply_steps}
use Rattle.sbp_world.proofs.Lists.Passing.{GoesOn}
use Rattle.sbp_world.proofs.Lists.RunFits.{WasAsked}
use Rattle.sbp_world.proofs.Lists.RunOutcomes.{IsSet}
use Rattle.sbp_world.proofs.Lists.RunReads.{as_appended}
use Rattle.sbp_world.proofs.Lists.RunTells.{served_there}
use Rattle.sbp_world.proofs.Lists.StatusLosses.{present_is}
use Rattle.sbp_world.proofs.Lists.StatusSteps.{EndsSo, replied_leaves}
use Rattle.sbp_world.proofs.Lists.Turns.{heard_ended}
use Rattle.sbp_world.proofs.Common.{none_is, untrue}

-- ---- an agent whose ORB ends has a list

unlisted_main : (place : ℕ) (plain : PlainDisk) (told : Told) (phase : Phase) (m : Machine) (answer : Answer) → has_list phase ≡ false → (served place plain told (advanced phase m answer).0 (advanced phase m answer).1).0.ended ≡ None
unlisted_main place plain told phases.Reset m answer e = refl
unlisted_main place plain told phases.Dead m answer e = refl
unlisted_main place plain told phases.Fetching m answer e = untrue (sym e)
unlisted_main place plain told phases.ReadingTable m answer e = untrue (sym e)
unlisted_main place plain told (phases.ReadingData wanted) m answer e = untrue (sym e)
unlisted_main place plain told phases.Answering m answer e = untrue (sym e)
unlisted_main place plain told phases.WritingStatus m answer e = untrue (sym e)
unlisted_main place plain told phases.ReadingNext m answer e = untrue (sym e)
unlisted_main place plain told phases.WritingLastStatus m answer e = untrue (sym e)
unlisted_main place plain told phases.Suspended m answer e = untrue (sym e)

pub none_if : (b : Bool) (x y : AgentStep × Machine) → x.0.ended ≡ None → y.0.ended ≡ None → (cond b x y).0.ended ≡ None
none_if true x y h i = h
none_if false x y h i = i

pub ahead_none : (m : Machine) (r : Result (List ℕ) FailCause) → (ahead_read m r).0.ended ≡ None
ahead_none m (Ok bytes) = refl
ahead_none m (Err cause) = refl

unlisted_none : (m : Machine) (place : ℕ) (plain : PlainDisk) (told : Option Told) (which : Which) (answer : Answer) → has_list m.phase ≡ false → (reply_step m place plain told which answer).0.ended ≡ None
unfolding reply_step
unlisted_none m place plain told Main answer e = unlisted_main place plain (told_or told) m.phase m answer e
unlisted_none m place plain told Ahead answer e = none_if (is_ahead m.ahead) (ahead_step m answer) (quiet, m) (ahead_none m (payload_of answer 32)) refl

pub listed : (m : Machine) (place : ℕ) (plain : PlainDisk) (told : Option Told) (which : Which) (answer : Answer) (status : StatusKind) → (reply_step m place plain told which answer).0.ended ≡ Some status → has_list m.phase ≡ true
listed m place plain told which answer status e = by (has_list m.phase) refl
  where
    by : (b : Bool) → has_list m.phase ≡ b → b ≡ true
    by true f = refl
    by false f = none_is status (sym (unlisted_none m place plain told which answer f) ∙ e)

-- ---- the ORB, by its status
run_ended : (ran : Option Outcome) (answer : List ℕ) (p : Progress) → (run_by ran answer p).ended ≡ p.ended
run_ended None answer p = refl
run_ended (Some outcome) answer p = refl

proper : (orb : CommandOrb) → (orb.format == 3) ≡ false → orb.format ≡ 3 → ⊥
proper orb f e = untrue (sym f ∙ ap (λ n. n == 3) e)

is_three : (n : ℕ) → (n == 3) ≡ true → n ≡ 3
is_three n e = grind (arith, nat_tests)

module _ (command : Option Cmd) (request : Option Request) (slot : ℕ) (a : WasAsked command request slot) (l : OrbList) (k : ℕ) (orb : CommandOrb) (own : l.is_orb k orb → IsOrbOf command slot orb) where
  pub matches : (status : StatusKind) → ends_read (Some status) ≡ true → WasRead status l k orb → MatchesStatus status orb (request_of a.cmd)
  matches kinds.Failed e r = untrue e
  matches kinds.Dummy e r = is_three orb.format r.1
  matches kinds.Good e r = (proper orb r.1, as_appended command request slot a orb (own r.0))
  matches (kinds.Check sense) e r = (proper orb r.1, as_appended command request slot a orb (own r.0))
  matches kinds.Aborted e r = (proper orb r.1, as_appended command request slot a orb (own r.0))
  matches (kinds.Illegal meaning) e r = (proper orb r.1, as_appended command request slot a orb (own r.0))
  matches (kinds.Management meaning) e r = (proper orb r.1, as_appended command request slot a orb (own r.0))

-- ---- the law at an end
module _ (wild : ℕ → Bool) (start : List Disk) where
  -- but with the status failed
  by_status : (past : List Moment) (i n k : ℕ) (status : StatusKind) → (ends_read (Some status) ≡ true → wild i ≡ false → EndIsRead start past i n k status) → EndAt wild start (said (notes.Ended i (Some n) (Some k) status)) past
  by_status past i n k kinds.Failed f = tt
  by_status past i n k kinds.Dummy f = f refl
  by_status past i n k kinds.Good f = f refl
  by_status past i n k (kinds.Check sense) f = f refl
  by_status past i n k kinds.Aborted f = f refl
  by_status past i n k (kinds.Illegal meaning) f = f refl
  by_status past i n k (kinds.Management meaning) f = f refl

  by_names : (past : List Moment) (i : ℕ) (x y : Option ℕ) (status : StatusKind) → ((n k : ℕ) → x ≡ Some n → y ≡ Some k → wild i ≡ false → EndIsRead start past i n k status) → EndAt wild start (said (notes.Ended i x y status)) past
  by_names past i None y status f = tt
  by_names past i (Some n) None status f = tt
  by_names past i (Some n) (Some k) status f = by_status past i n k status (λ e own. f n k refl refl own)

  pub plain_at : (note : Note) → IsPlain note → (past : List Moment) → EndAt wild start (said note) past
  plain_at (notes.Ended i None y status) h past = tt
  plain_at (notes.Ended i (Some n) None status) h past = tt
  plain_at (notes.Ended i (Some n) (Some k) status) h past = by_status past i n k status (λ e own. untrue (sym h ∙ e))
  plain_at note h past = tt

-- ---- behind the run and the death of the agent
module _ (i n k : ℕ) where
  one_request : (note : Note) (past : List Moment) → IsLightNote note → request_at (said note ∷ past) i n k ≡ request_at past i n k
  one_request _ past (light_run a b c d e f g) = refl
  one_request _ past (light_death a b c) = refl

  one_slot : (note : Note) (past : List Moment) → IsLightNote note → slot_at (said note ∷ past) i n k ≡ slot_at past i n k
  one_slot _ past (light_run a b c d e f g) = refl
  one_slot _ past (light_death a b c) = refl

  pub light_request : (early : List Note) (past : List Moment) → AllLight early → request_at (map said early ++ past) i n k ≡ request_at past i n k
  light_request [] past l = refl
  light_request (note ∷ early) past l = one_request note (map said early ++ past) l.0 ∙ light_request early past l.1

  pub light_slot : (early : List Note) (past : List Moment) → AllLight early → slot_at (map said early ++ past) i n k ≡ slot_at past i n k
  light_slot [] past l = refl
  light_slot (note ∷ early) past l = one_slot note (map said early ++ past) l.0 ∙ light_slot early past l.1

brought_behind : (start : List Disk) (early : List Note) (past : List Moment) (place address : ℕ) (orb : CommandOrb) → IsBrought start past place address orb → IsBrought start (map said early ++ past) place address orb
brought_behind start [] past place address orb b = b
brought_behind start (note ∷ early) past place address orb b = brought_more start (said note) (map said early ++ past) place address orb (brought_behind start early past place address orb b)

module _ (wild : ℕ → Bool) (start : List Disk) (past : List Moment) (s : Scene) (set : IsSet wild start past s) (run : Option Told) (serial : ℕ) (early : List Note) (ended : Note) (r : IsEndBy s run serial early ended) where
  abbrev pub w : WorldState
  w = s.world

  abbrev pub ms : List Moment
  ms = hist past w

  -- behind the note of the packet, and at the note of the end
  abbrev pub got : List Moment
  got = said (notes.Got serial) ∷ ms

  abbrev pub now : List Moment
  now = map said early ++ got

  abbrev pub place : ℕ
  place = r.place

  abbrev pub i : ℕ
  i = (holder w place).initiator

  abbrev pub login : Login
  login = r.by.login

  abbrev pub M : Machine
  M = (desk_at w.target place).agent

  abbrev pub answer : Answer
  answer = answer_in r.by.packet

  abbrev pub plain : PlainDisk
  plain = plain_in w.target.units s.media.disks login.unit

  abbrev pub step : AgentStep × Machine
  step = reply_step M place plain run r.by.which answer

  abbrev pub R : ℕ → CommandOrb → Type 0
  R = IsBrought start got place

  there : login_at w.target place ≡ Some login
  there = served_there w.target place login r.by.served

  pub small : place < 8
  small = let l = within w.target.logins.places place login there in let c = set.ready.good.table.sound.size in omega arith

  pub is_open : has_list M.phase ≡ true
  is_open = listed M place plain run r.by.which answer r.status r.by.ended

  module _ (own : wild i ≡ false) where
    -- it was read
    now_brings : Brings (IsBrought start got) M (record { place = place; which = r.by.which; answer = answer })
    now_brings = (set.reads i own).brings serial r.sent r.found r.to r.by.packet r.by.label place r.by.which r.by.found r.by.is_which small (set.ready.calm i own)

    had : Reads R M
    had = reads_more (IsBrought start ms place) R (brought_more start (said (notes.Got serial)) ms place) M ((set.reads i own).agents place small is_open)

    stepped : Stepped R step
    stepped = reply_steps R M place plain run r.by.which answer had now_brings.main now_brings.ahead

    brought : R step.1.present step.1.orb
    brought = stepped.ended (ap ends_read r.by.ended ∙ r.by.read)

    -- along its list
    pub opened : IsOpenAt ms w place
    opened = (set.ready.needs i own).lists.listed place small is_open (set.ready.calm i own)

    abbrev pub list : OrbList
    list = orbs ms i opened.n

    pub goes : GoesOn ms i opened.n M
    goes = set.ready.kept.on place small is_open opened.n opened.list own

    abbrev pub heard : Progress
    heard = heard_by r.by.which M answer goes.progress

    number_is : heard.ended ≡ ends ms i opened.n
    number_is = heard_ended r.by.which M answer goes.progress ∙ goes.is

    is_for : IsFor w r.sent
    is_for = record { serial = serial; found = r.found; to = r.to }

    keeps : Keeps list heard place plain (main_beside r.by.which M) (ahead_beside r.by.which M) step
    keeps =
        (keeps_along list).replies goes.progress M place plain run r.by.which answer (laid ms i opened.n) goes.along
        ((set.ready.needs i own).brings r.sent is_for r.by.packet r.by.label place r.by.which r.by.found r.by.is_which small refl opened.n opened.list goes.progress goes.is goes.along)

    abbrev pub ran : Progress
    ran = run_by step.0.ran step.1.answer heard

    pub ends_so : IsEnd list ran r.status step.1.present step.1.orb step.1.outgoing step.0.ask
    ends_so = subst (λ x. IfSome x (λ kind. IsEnd list ran kind step.1.present step.1.orb step.1.outgoing step.0.ask)) r.by.ended keeps.ends

    abbrev pub k : ℕ
    k = ran.ended

    k_is : k ≡ ends ms i opened.n
    k_is = run_ended step.0.ran step.1.answer heard ∙ number_is

    pub after_ends : ends ms i opened.n ≤ k
    after_ends = let e = k_is in omega (arith, e)

    pub asked_so : WasAsked (command_at ms i opened.n k) (request_at ms i opened.n k) (slot_at ms i opened.n k)
    asked_so = set.appended place small is_open own opened.n opened.list k after_ends ends_so.turn.linked

    -- and named so
    ends_as : EndsSo r.status step.1
    ends_as = subst (λ x. IfSome x (λ kind. EndsSo kind step.1)) r.by.ended (replied_leaves M place plain run r.by.which answer).ends

    pub orb_is : r.orb ≡ address_of ms i opened.n k
    orb_is = r.by.orb_is ∙ (present_is step.1 ends_as.present ∙ ends_so.turn.place)

    pub named : IsNamed ms w place opened.n k
    named = opened.named k after_ends ends_so.turn.linked

    pub list_is : list_in (ticket_at w place r.orb) ≡ Some opened.n
    list_is = ap (λ at. list_in (ticket_at w place at)) orb_is ∙ named.list

    pub number : orb_in (ticket_at w place r.orb) ≡ Some k
    number = ap (λ at. orb_in (ticket_at w place at)) orb_is ∙ named.number

    end_read : EndIsRead start now i opened.n k r.status
    end_read = record {
      place = place;
      orb = step.1.orb;
      brought =
          subst (λ slot. IsBrought start now place (start_of (windows.Orb slot)) step.1.orb) (sym (light_slot i opened.n k early got r.light))
          (subst (λ x. IsBrought start now place x step.1.orb) ends_so.turn.place (brought_behind start early got place step.1.present step.1.orb brought));
      matches =
          subst (λ x. IsSomeAnd x (λ request. MatchesStatus r.status step.1.orb request)) (sym (light_request i opened.n k early got r.light ∙ asked_so.request_is))
          (matches (command_at ms i opened.n k) (request_at ms i opened.n k) (slot_at ms i opened.n k) asked_so list k step.1.orb (λ o. o) r.status r.by.read ends_so.read);
    }

    so : (n j : ℕ) → list_in (ticket_at w place r.orb) ≡ Some n → orb_in (ticket_at w place r.orb) ≡ Some j → EndIsRead start now i n j r.status
    so n j e f =
        subst (λ a. EndIsRead start now i a j r.status) (same_Some opened.n n (sym list_is ∙ e))
        (subst (λ b. EndIsRead start now i opened.n b r.status) (same_Some k j (sym number ∙ f)) end_read)

  pub ended_so : EndAt wild start (said ended) now
  ended_so =
      subst (λ note. EndAt wild start (said note) now) (sym r.is)
      (by_names wild start now i (list_in (ticket_at w place r.orb)) (orb_in (ticket_at w place r.orb)) r.status (λ n j e f own. so own n j e f))
