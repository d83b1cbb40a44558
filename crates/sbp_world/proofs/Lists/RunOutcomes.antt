-- A run that the target tells of, behind the packet that it got: it is on the unit of a live login of the initiator that has the place; and of an initiator that
-- injected no packets its outcome is what the plain disk allows for the request of its ORB.
use Rattle.sbp_world.proofs.Words.Std.{arith, ◌≡◌, ◌∙◌, refl, sym, ap, subst, ℕ, suc, ◌+◌, ◌<◌, ◌≤◌, Bool, true, false, List, ◌∷◌, Option, Some, None, IfSome, IsSome, IsSomeAnd, unwrap_or, same_Some}
use Rattle.sbp_world.proofs.Words.Wire.{check_of, Moment, said, Terms, terms, Note}
use Rattle.sbp_world.proofs.Words.Target.{Login, Table, find, is_live, is_of_node, Outcome, Disk, Told, check_in, PlainDisk, Phase, AgentStep, Which, Ahead, Main, Machine, is_ahead, advanced, ahead_step, quiet, reply_step, served, told_or, Progress, OrbList, ahead_beside, main_beside, IsRun, Keeps, heard_by, desk_at, login_at, answer_in, plain_in}
use Rattle.sbp_world.proofs.Words.Initiator.{Answer, payload_of}
use Rattle.sbp_world.proofs.Words.Laws.{unit_at, RunsOn, login_place, command_at, linked, slot_at, id_for, known_at, place_on, plain_of, target_at, Request, ends, request_at}
use Rattle.sbp_world.proofs.Words.World.{holder, Scene, WorldState, has_list, request_of, LoginAt, OutcomeAt, orbs, IsFor, IsOpenAt, initiator_in, is_open_at}
use Rattle.login_table.proofs.Searching.{within}
use Rattle.command_agent.specs.declared.phase.Phase.TheVariants as phases
use Rattle.agent_laws.proofs.Along.Writes.{keeps_along}
use Rattle.sbp_journal.specs.declared.note.Note.TheVariants as notes
use Rattle.sbp_world.proofs.Agents.Management.Still.{gets_clock, hist}
use Rattle.sbp_world.proofs.Agents.UnitsRun.{live_login}
use Rattle.sbp_world.proofs.Agents.UnitsTold.{AreFound, HasLogin, IsFoundBy, Same, got_same}
use Rattle.sbp_world.proofs.Lists.Lists.{laid}
use Rattle.sbp_world.proofs.Lists.FedPlaces.{HasHeard}
use Rattle.sbp_world.proofs.Lists.OrbPlaces.{HasReads}
use Rattle.sbp_world.proofs.Lists.Passing.{GoesOn, PassAt, RunsNext}
use Rattle.sbp_world.proofs.Lists.RunFits.{WasAsked, runs_on}
use Rattle.sbp_world.proofs.Lists.RunTells.{served_there}
use Rattle.sbp_world.proofs.Lists.Runless.{IsRunBy}
use Rattle.sbp_world.proofs.Lists.Turns.{Ready, heard_ended}
use Rattle.sbp_world.proofs.Agents.UnitsRun.{ahead_none}
use Rattle.sbp_world.proofs.Agents.UnitsKept.{runs_if as none_if}

-- ---- what is known as a turn begins
-- an ORB that has not ended, of a list that is open, was appended with a request
abbrev pub AreAsked : (ℕ → Bool) → List Moment → WorldState → Type 0
AreAsked wild ms w =
    (place : ℕ) → place < 8 → is_open_at w place ≡ true → wild (initiator_in w place) ≡ false → (n : ℕ) → (holder w place).list ≡ Some n → (number : ℕ) → ends ms (initiator_in w place) n ≤ number → number < linked ms (initiator_in w place) n → WasAsked (command_at ms (initiator_in w place) n number) (request_at ms (initiator_in w place) n number) (slot_at ms (initiator_in w place) n number)

pub record IsSet (wild : ℕ → Bool) (start : List Disk) (past : List Moment) (s : Scene) : Type 0 where
  pub ready : Ready wild past s.world
  pub units : (unit : ℕ) → unit_at (target_at start (hist past s.world)).units unit ≡ plain_in s.world.target.units s.media.disks unit
  pub found : AreFound start past s.world s.world.target.logins.places
  pub appended : AreAsked wild (hist past s.world) s.world
  pub reads : (i : ℕ) → wild i ≡ false → HasReads start past s.world
  pub heard : (i : ℕ) → wild i ≡ false → HasHeard start (hist past s.world) s.world

-- ---- an agent that runs a command has a list
unlisted_main : (place : ℕ) (plain : PlainDisk) (told : Told) (phase : Phase) (m : Machine) (answer : Answer) → has_list phase ≡ false → (served place plain told (advanced phase m answer).0 (advanced phase m answer).1).0.ran ≡ None
unlisted_main place plain told phases.Reset m answer e = refl
unlisted_main place plain told phases.Dead m answer e = refl
unlisted_main place plain told phases.Fetching m answer e = absurd (let no : true ≡ false = e in cc)
unlisted_main place plain told phases.ReadingTable m answer e = absurd (let no : true ≡ false = e in cc)
unlisted_main place plain told (phases.ReadingData wanted) m answer e = absurd (let no : true ≡ false = e in cc)
unlisted_main place plain told phases.Answering m answer e = absurd (let no : true ≡ false = e in cc)
unlisted_main place plain told phases.WritingStatus m answer e = absurd (let no : true ≡ false = e in cc)
unlisted_main place plain told phases.ReadingNext m answer e = absurd (let no : true ≡ false = e in cc)
unlisted_main place plain told phases.WritingLastStatus m answer e = absurd (let no : true ≡ false = e in cc)
unlisted_main place plain told phases.Suspended m answer e = absurd (let no : true ≡ false = e in cc)

unlisted_none : (m : Machine) (place : ℕ) (plain : PlainDisk) (told : Option Told) (which : Which) (answer : Answer) → has_list m.phase ≡ false → (reply_step m place plain told which answer).0.ran ≡ None
unfolding reply_step
unlisted_none m place plain told Main answer e = unlisted_main place plain (told_or told) m.phase m answer e
unlisted_none m place plain told Ahead answer e = none_if (is_ahead m.ahead) (ahead_step m answer) (quiet, m) (ahead_none m (payload_of answer 32)) refl

pub listed : (m : Machine) (place : ℕ) (plain : PlainDisk) (told : Option Told) (which : Which) (answer : Answer) (outcome : Outcome) → (reply_step m place plain told which answer).0.ran ≡ Some outcome → has_list m.phase ≡ true
listed m place plain told which answer outcome e = by (has_list m.phase) refl
  where
    by : (b : Bool) → has_list m.phase ≡ b → b ≡ true
    by true f = refl
    by false f = absurd (let no : None ≡ Some outcome = sym (unlisted_none m place plain told which answer f) ∙ e in cc)

-- ---- places
some_place : (found : Option ℕ) (place : ℕ) → place < 8 → unwrap_or found 8 ≡ place → IsSome found
some_place None place b e = absurd (omega (arith, b, e))
some_place (Some other) place b e = refl

ids_of : (t u : Terms) → u.generation 0 ≡ t.generation 0 → ((peer : ℕ) → u.ids (t.generation 0) peer ≡ t.ids (t.generation 0) peer) → (peer : ℕ) → id_for u 0 peer ≡ id_for t 0 peer
ids_of t u g i peer = ap (λ n. u.ids n peer) g ∙ i peer

module _ (wild : ℕ → Bool) (start : List Disk) (past : List Moment) (s : Scene) (set : IsSet wild start past s) (run : Option Told) (ran : Note) (serial : ℕ) (r : IsRunBy s run serial ran) where
  abbrev w : WorldState
  w = s.world

  abbrev ms : List Moment
  ms = hist past w

  -- behind the note of the packet
  abbrev now : List Moment
  now = said (notes.Got serial) ∷ ms

  abbrev place : ℕ
  place = r.place

  abbrev login : Login
  login = r.by.login

  abbrev i : ℕ
  i = (holder w place).initiator

  abbrev unit : ℕ
  unit = (holder w place).unit

  abbrev M : Machine
  M = (desk_at w.target place).agent

  abbrev answer : Answer
  answer = answer_in r.by.packet

  abbrev plain : PlainDisk
  plain = plain_in w.target.units s.media.disks login.unit

  abbrev step : AgentStep × Machine
  step = reply_step M place plain run r.by.which answer

  there : login_at w.target place ≡ Some login
  there = served_there w.target place login r.by.served

  pub small : place < 8
  small = let l = within w.target.logins.places place login there in let c = set.ready.good.table.sound.size in omega arith

  live : is_live login ≡ true
  live =
      let has : HasLogin w.target.logins.places place = live_login w.target set.ready.good place small plain run r.by.which answer r.outcome r.by.ran in
      subst (λ (x : Login). is_live x ≡ true) (same_Some has.login login (sym has.is ∙ there)) has.live

  has_place : IsFoundBy start ms (holder w place) place login
  has_place = set.found place login there live

  same : Same (target_at start ms) (target_at start now)
  same = got_same serial ms (known_at start ms).wire (target_at start ms)

  ids : (peer : ℕ) → id_for (terms now) 0 peer ≡ id_for (terms ms) 0 peer
  ids peer = let c = gets_clock ((terms ms).sent serial) serial (terms ms) in ids_of (terms ms) (terms now) c.generation c.ids peer

  place_is : place_on (target_at start now) unit (id_for (terms now) 0 (suc i)) ≡ place
  place_is =
      ap (λ (y : Table). unwrap_or (find (is_of_node unit (id_for (terms now) 0 (suc i))) y.places) 8) same.1
      ∙ ap (λ id. place_on (target_at start ms) unit id) (ids (suc i))
      ∙ ap (λ u. place_on (target_at start ms) u (id_for (terms ms) 0 (suc i))) has_place.unit_is
      ∙ ap (λ p. place_on (target_at start ms) login.unit (id_for (terms ms) 0 p)) (let e : suc i ≡ i + 1 = omega arith in e)
      ∙ has_place.found

  at_login : IsSome (login_place start now i unit)
  at_login = some_place (login_place start now i unit) place small place_is

  plain_is : plain_of start now unit ≡ plain
  plain_is = ap (λ us. unit_at us unit) same.0 ∙ set.units unit ∙ ap (plain_in w.target.units s.media.disks) has_place.unit_is

  -- ---- of an initiator that injected no packets
  pub is_open : has_list M.phase ≡ true
  is_open = listed M place plain run r.by.which answer r.outcome r.by.ran

  module _ (own : wild i ≡ false) where
    pub opened : IsOpenAt ms w place
    opened = (set.ready.needs i own).lists.listed place small is_open (set.ready.calm i own)

    abbrev list : OrbList
    list = orbs ms i opened.n

    pub goes : GoesOn ms i opened.n M
    goes = set.ready.kept.on place small is_open opened.n opened.list own

    abbrev heard : Progress
    heard = heard_by r.by.which M answer goes.progress

    pub number_is : heard.ended ≡ ends ms i opened.n
    number_is = heard_ended r.by.which M answer goes.progress ∙ goes.is

    is_for : IsFor w r.sent
    is_for = record { serial = serial; found = r.found; to = r.to }

    keeps : Keeps list heard place plain (main_beside r.by.which M) (ahead_beside r.by.which M) step
    keeps =
        (keeps_along list).replies goes.progress M place plain run r.by.which answer (laid ms i opened.n) goes.along
        ((set.ready.needs i own).brings r.sent is_for r.by.packet r.by.label place r.by.which r.by.found r.by.is_which small refl opened.n opened.list goes.progress goes.is goes.along)

    pub runs : IsRun list heard place plain step.1.present step.1.orb step.1.segments step.1.payload
    runs = subst (λ x. IfSome x (λ outcome. IsRun list heard place plain step.1.present step.1.orb step.1.segments step.1.payload)) r.by.ran keeps.runs

    pub asked_so : WasAsked (command_at ms i opened.n heard.ended) (request_at ms i opened.n heard.ended) (slot_at ms i opened.n heard.ended)
    asked_so = set.appended place small is_open own opened.n opened.list heard.ended (let e = number_is in omega (arith, e)) runs.turn.linked

    on_plain : RunsOn (request_of asked_so.cmd) plain place step.1.orb.cdb step.1.payload (check_in r.outcome)
    on_plain =
        runs_on (command_at ms i opened.n heard.ended) (request_at ms i opened.n heard.ended) (slot_at ms i opened.n heard.ended) asked_so
        step.1 place plain r.outcome runs.good.own runs.buffer runs.part runs.whole r.by.may

    module _ (n number : ℕ) (next : RunsNext now i n number r.cdb r.payload) where
      abbrev On : Request → Type 0
      On request = RunsOn request (plain_of start now unit) (place_on (target_at start now) unit (id_for (terms now) 0 (suc i))) r.cdb r.payload (check_of r.outcome)

      pub list_is : opened.n ≡ n
      list_is = let e = opened.still.latest in let f = next.next.turn.still.latest in same_list opened.n n (e ∙ sym f)
        where
          same_list : (a b : ℕ) → suc a ≡ suc b → a ≡ b
          same_list a b e = omega (arith, e)

      pub orb_is : heard.ended ≡ number
      orb_is = number_is ∙ ap (λ x. ends ms i x) list_is ∙ sym next.next.turn.number

      pub request_is : request_at now i n number ≡ Some (request_of asked_so.cmd)
      request_is = sym (ap (λ x. request_at ms i x heard.ended) list_is ∙ ap (λ x. request_at ms i n x) orb_is) ∙ asked_so.request_is

      so : On (request_of asked_so.cmd)
      so =
          subst (λ (p : PlainDisk). RunsOn (request_of asked_so.cmd) p (place_on (target_at start now) unit (id_for (terms now) 0 (suc i))) r.cdb r.payload (check_in r.outcome)) (sym plain_is)
          (subst (λ p. RunsOn (request_of asked_so.cmd) plain p r.cdb r.payload (check_in r.outcome)) (sym place_is)
          (subst (λ c. RunsOn (request_of asked_so.cmd) plain place c r.payload (check_in r.outcome)) (sym r.by.cdb_is)
          (subst (λ b. RunsOn (request_of asked_so.cmd) plain place step.1.orb.cdb b (check_in r.outcome)) (sym r.by.payload_is) on_plain)))

      outcome_so : IsSomeAnd (request_at now i n number) On
      outcome_so = subst (λ x. IsSomeAnd x On) (sym request_is) so

  abbrev note_of : Option ℕ → Option ℕ → Note
  note_of list number = notes.Ran i list number unit r.cdb r.payload (check_of r.outcome)

  by_names : (list number : Option ℕ) → PassAt wild (said (note_of list number)) now → LoginAt start (said (note_of list number)) now × OutcomeAt wild start (said (note_of list number)) now
  by_names None number p = (at_login, tt)
  by_names (Some n) None p = (at_login, tt)
  by_names (Some n) (Some number) p = (at_login, λ own. outcome_so own n number (p own))

  pub run_so : PassAt wild (said ran) now → LoginAt start (said ran) now × OutcomeAt wild start (said ran) now
  run_so = subst (λ note. PassAt wild (said note) now → LoginAt start (said note) now × OutcomeAt wild start (said note) now) (sym r.is) (by_names r.list r.number)
