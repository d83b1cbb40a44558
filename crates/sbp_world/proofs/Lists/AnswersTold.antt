-- While an agent writes an answer, it is the one that the plain disk had for the command of its present ORB as it ran: so a reply by which a command runs leaves it, and it stays until the ORB ends.
use Rattle.sbp_world.proofs.Words.Std.{arith, ◌≡◌, refl, sym, ap, subst, ◌<◌, ℕ, zero, suc, Bool, true, false, List, [], Option, Some, None, ◌++◌, IfSome, ◌⊎◌, inl, inr, ◌∙◌, ◌∷◌, map, length, slice_index_or, false≢true, same_Some, none-some}
use Rattle.sbp_world.proofs.Words.Wire.{judging_step, of_response, Sent, Moment, said, asked, LabelParts, Packet, header_in, or_nobody, found_sent, check_of}
use Rattle.sbp_world.proofs.Words.Target.{desk_at, Told, answer_length_of, answer_of, check_in, Disk, Desk, new_desk, which_in, Knows, Outcome, PlainDisk, Which, AgentStep, Machine, reply_step, Login, plain_in, served_login, answer_in}
use Rattle.sbp_world.proofs.Words.Laws.{ExecutionLaw, slot_at, ends, lists, runs, disk_of, injectors}
use Rattle.sbp_world.proofs.Words.World.{MayTell, moments_behind, history_of, Run, beginning, after, after_all, WorldState, begun, Scene, initiator_in, machine_at, IsOpenAt, IsCalm, holder, new_world, answers, has_list, more_deliveries, UnderFrom, AnswersToldLaw, AreAnswers, IsAnswerOf, AreWhole, orbs}
use Rattle.sbp_world.proofs.Lists.AnswerDisks.{answer_before}
use Rattle.sbp_world.proofs.Lists.Executes.{execution_run_law}
use Rattle.sbp_journal.specs.declared.note.Note.TheVariants as notes
use Rattle.sbp_target.specs.declared.purpose.Purpose.TheVariants as purposes
use Rattle.sbp_world.proofs.Lists.Turns.{Ready}
use Rattle.std.specs.Prelude.{replicate}
use Rattle.sbp_world.proofs.Agents.Management.Still.{hist}
use Rattle.sbp_world.proofs.Lists.Walks.{Walks, Step, walked_from, walked_from_between}
use Rattle.sbp_world.proofs.Lists.AnswerLengths.{commands_fill}
use Rattle.sbp_world.proofs.Lists.DataSteps.{ArePrepared, answer_kept, answers_is, has_run, ran_well}
use Rattle.sbp_world.proofs.Lists.Executes.{asked_of}
use Rattle.sbp_world.proofs.Lists.Full.{IsFull, closed_where}
use Rattle.sbp_world.proofs.Lists.RunOutcomes.{AreAsked, listed}
use Rattle.sbp_world.proofs.Lists.RunTells.{delivery_may, NoneRan, RanBy, ran_as, ran_for, served_there}
use Rattle.sbp_world.proofs.Lists.Sites.{named_prepared}
use Rattle.sbp_world.proofs.Lists.MachineTurns.{turn_full, heard_in}
use Rattle.sbp_world.proofs.Lists.DataWhole.{Ground, all_filled, whole_law}
use Rattle.sbp_world.proofs.Lists.AnswersKept.{Writes, writes_closed}
use Rattle.sbp_world.proofs.Lists.AnswerRuns.{WasFirst, answer_on, answering_none, runs_key, unrun_runs, was_first}
use Rattle.sbp_world.proofs.Lists.AnswerComes.{Comes, ComesOne, RanHere, note_of, one, quiet, turn_comes, turn_ran, same_found}
use Rattle.sbp_world.proofs.Lists.PlaceOwners.{walk_owns}
use Rattle.sbp_world.proofs.Lists.OpenTurns.{listing_up}
use Rattle.sbp_world.proofs.Lists.UnrunLaws.{unrun_law}
use Rattle.sbp_world.proofs.Lists.UnrunTerms.{passes_from}
use Rattle.sbp_world.proofs.Lists.Running.{runs_other}
use Rattle.sbp_world.proofs.Lists.Passing.{GoesOn, PassAt, PassLaw}
use Rattle.login_table.proofs.Searching.{within}
use Rattle.sbp_world.proofs.Lists.Courses.{EveryPlace}
use Rattle.sbp_world.proofs.Common.{delivers, moments_joined as joined}

-- of each agent that writes an answer of its initiator's latest list
abbrev pub AreToldThere : List Disk → List Moment → WorldState → Type 0
AreToldThere start ms w =
    (q : ℕ) → q < 8 → IsCalm ms (initiator_in w q) → answers (machine_at w q).phase ≡ true → (n : ℕ) → (holder w q).list ≡ Some n → suc n ≡ lists ms (initiator_in w q) → IsAnswerOf start ms (initiator_in w q) n (ends ms (initiator_in w q) n) (machine_at w q).answer

abbrev AllTold : List Disk → (ℕ → Bool) → List Moment → WorldState → Type 0
AllTold start wild ms w =
    (q : ℕ) → q < 8 → wild (initiator_in w q) ≡ false → answers (machine_at w q).phase ≡ true → (n : ℕ) → (holder w q).list ≡ Some n → suc n ≡ lists ms (initiator_in w q) → IsAnswerOf start ms (initiator_in w q) n (ends ms (initiator_in w q) n) (machine_at w q).answer

same_outcome : (a b : Outcome) → Some a ≡ Some b → a ≡ b
same_outcome a b e = cc

response_place : (a c : Packet) (l m : LabelParts) (d g : ℕ) → of_response a l (Some (purposes.Agent d)) ≡ of_response c m (Some (purposes.Agent g)) → d ≡ g
response_place a c l m d g z = cc

response_packet : (a c : Packet) (l m : LabelParts) (d g : ℕ) → of_response a l (Some (purposes.Agent d)) ≡ of_response c m (Some (purposes.Agent g)) → a ≡ c
response_packet a c l m d g z = cc

response_label : (a c : Packet) (l m : LabelParts) (d g : ℕ) → of_response a l (Some (purposes.Agent d)) ≡ of_response c m (Some (purposes.Agent g)) → l ≡ m
response_label a c l m d g z = cc

module _ (wild : ℕ → Bool) (units ready : ℕ) (has : 0 < units) (start : List Disk) (past : List Moment) (s : Scene) (later : List Moment) (t : Scene) (step : Step wild units ready start Ground AreWhole past s later t) (p : AllTold start wild (hist past s.world) s.world) where
  abbrev w : WorldState
  w = s.world

  abbrev v : WorldState
  v = t.world

  abbrev ms : List Moment
  ms = hist past w

  abbrev now : List Moment
  now = hist later v

  abbrev M : ℕ → Machine
  M q = machine_at w q

  abbrev stepped : Option Told → ℕ → Packet → Login → Which → AgentStep × Machine
  stepped run q packet login which = reply_step (M q) q (plain_in w.target.units s.media.disks login.unit) run which (answer_in packet)

  abbrev heard : ℕ → Option Told → Type 0
  heard = heard_in past s later t step.turn

  abbrev known : Ready wild past w
  known = step.stands.known_all

  calm : (j : ℕ) → wild j ≡ false → IsCalm ms j
  calm j own = step.stands.reached.calm j own

  -- the agent of a place runs its command in this turn
  record RunsNow (q : ℕ) (xs : List ℕ) : Type 0 where
    serial : ℕ
    run : Option Told
    heard_is : heard serial run
    sent : Sent
    found : found_sent serial w.store.kept ≡ Some sent
    zero_to : sent.to ≡ 0
    may : MayTell run sent w.target s.media
    packet : Packet
    label : LabelParts
    judged : (judging_step w.target.layer sent.generation sent.bytes).0 ≡ of_response packet label (Some (purposes.Agent q))
    login : Login
    served : served_login w.target q ≡ Some login
    which : Which
    is_which : which_in (desk_at w.target q) (header_in packet).source label ≡ Some which
    outcome : Outcome
    ran : (stepped run q packet login which).0.ran ≡ Some outcome
    good : check_in outcome ≡ None
    answer_is : xs ≡ (stepped run q packet login which).1.answer

  data From (q : ℕ) (xs : List ℕ) : Type 0 where
    was : answers (M q).phase ≡ true → xs ≡ (M q).answer → From q xs
    ran_now : RunsNow q xs → From q xs

  asked_orbs : AreAsked wild ms w
  asked_orbs = asked_of wild start units ready has w step.stands.reached.holds step.stands.reached.site step.stands.lists step.stands.reached.calm step.known.orbs

  prepared : ArePrepared ms w
  prepared place n j there named =
      let x = named_prepared units ready has start w step.stands.reached.holds step.stands.reached.site place n j there named in
      record { there = x.there; small = x.small; filled = λ cmd e. step.stands.reached.site.filled (initiator_in w place) there (slot_at ms (initiator_in w place) n j) n j cmd x.small x.there e }

  full : (q : ℕ) → q < 8 → wild (initiator_in w q) ≡ false → IsFull (M q)
  full q b own e = let x = step.so_far (initiator_in w q) own q b (calm (initiator_in w q) own) (answers_is (M q).phase e) in record { more = x.0; fills = x.1 }

  replies : (serial : ℕ) (sent : Sent) (run : Option Told) → heard serial run → found_sent serial w.store.kept ≡ Some sent → sent.to ≡ 0 → MayTell run sent w.target s.media → (packet : Packet) (label : LabelParts) (q : ℕ) → (judging_step w.target.layer sent.generation sent.bytes).0 ≡ of_response packet label (Some (purposes.Agent q)) → q < 8 → (login : Login) → served_login w.target q ≡ Some login → (which : Which) → which_in (desk_at w.target q) (header_in packet).source label ≡ Some which → wild (initiator_in w q) ≡ false → answers (stepped run q packet login which).1.phase ≡ true → From q (stepped run q packet login which).1.answer
  replies serial sent run h found zero_to may packet label q judged b login served which e own e_then = by (stepped run q packet login which).0.ran refl
    where
      by : (x : Option Outcome) → (stepped run q packet login which).0.ran ≡ x → From q (stepped run q packet login which).1.answer
      by None ran =
          let k = answer_kept wild past w known asked_orbs sent (record { serial = serial; found = found; to = zero_to }) run s.media.disks packet label q judged b login which e own
          (delivery_may w.target known.good.mid.size known.good.table.sound sent run s.media may packet label q judged login served which e) prepared (λ j n k cmd g. commands_fill ms step.known.fills j n k cmd g) (full q b own) e_then ran in
          was k.0 k.1
      by (Some outcome) ran =
          ran_now (record {
            serial = serial;
            run = run;
            heard_is = h;
            sent = sent;
            found = found;
            zero_to = zero_to;
            may = may;
            packet = packet;
            label = label;
            judged = judged;
            login = login;
            served = served;
            which = which;
            is_which = e;
            outcome = outcome;
            ran = ran;
            good = ran_well wild past w known asked_orbs sent (record { serial = serial; found = found; to = zero_to }) run s.media.disks packet label q judged b login which e own
                (delivery_may w.target known.good.mid.size known.good.table.sound sent run s.media may packet label q judged login served which e) prepared (λ j n k cmd g. commands_fill ms step.known.fills j n k cmd g) (full q b own) e_then outcome ran;
            answer_is = refl;
          })

  from_there : (q : ℕ) → q < 8 → wild (initiator_in w q) ≡ false → Writes (From q) (machine_at v q)
  from_there =
      turn_full (λ q m. wild (initiator_in w q) ≡ false → Writes (From q) m) (closed_where (λ q. wild (initiator_in w q) ≡ false) (λ q m. Writes (From q) m) (writes_closed From)) wild past s later t step.turn
      (record {
        ready = known;
        seats = λ q login e. let k = step.stands.reached.site.held.held q login e in record { holder_is = k.holder; there = k.there; id_is = k.login_is };
        replies = λ serial sent run h found zero_to may packet label q judged b login served which e writes own e_then. replies serial sent run h found zero_to may packet label q judged b login served which e own e_then;
      })
      (λ q b own e. was e refl)

  passes : PassLaw wild now
  passes = step.reaches.kept.passes

  coming : Comes start w s.media ms now
  coming = turn_comes units ready has start past s later t step.turn known.good step.units_are

  -- ---- an agent that writes an answer behind the turn
  module _ (q : ℕ) (b : q < 8) (e : answers (machine_at v q).phase ≡ true) (n : ℕ) (list : (holder v q).list ≡ Some n) (latest : suc n ≡ lists now (initiator_in v q)) (own : wild (initiator_in v q) ≡ false) where
    abbrev i : ℕ
    i = initiator_in v q

    abbrev k : ℕ
    k = ends now i n

    abbrev Goal : Type 0
    Goal = IsAnswerOf start now i n k (machine_at v q).answer

    is_open : has_list (machine_at v q).phase ≡ true
    is_open = ap has_list (answers_is (machine_at v q).phase e)

    owner : i ≡ initiator_in w q
    owner = walk_owns units ready has start s step.stands.reached.holds step.stands.reached.site.held later t step.turn q b (listing_up (machine_at v q).phase is_open)

    own_then : wild (initiator_in w q) ≡ false
    own_then = ap wild (sym owner) ∙ own

    goes : GoesOn now i n (machine_at v q)
    goes = step.reaches.kept.on q b is_open n list own

    ran_there : 0 < runs now i n k
    ran_there =
        let good = (subst (λ ph. Knows (orbs now i n) goes.progress ph (machine_at v q)) (answers_is (machine_at v q).phase e) goes.along.main).told.ran in
        subst (λ j. 0 < runs now i n j) goes.is (has_run now i n goes.progress.ended goes.progress.outcome good (goes.ran unrun_law))

    -- it wrote it before
    module _ (f : answers (M q).phase ≡ true) (same : (machine_at v q).answer ≡ (M q).answer) where
      open_then : has_list (M q).phase ≡ true
      open_then = ap has_list (answers_is (M q).phase f)

      opened : IsOpenAt ms w q
      opened = (step.stands.lists (initiator_in w q) own_then).listed q b open_then (calm (initiator_in w q) own_then)

      kept_on : (grown : List Moment) → grown ++ ms ≡ now → 0 < runs ms i n k → Goal
      kept_on grown is ran =
          let x : WasFirst ms now i n = was_first wild grown ms now is passes i n own latest ran in
          let first = opened.still.latest in
          let there : suc n ≡ lists ms (initiator_in w q) = x.latest ∙ ap (lists ms) owner in
          let list_same : opened.n ≡ n = (let d = first in let c = there in omega (arith, c, d)) in
          let had : IsAnswerOf start ms (initiator_in w q) opened.n (ends ms (initiator_in w q) opened.n) (M q).answer = p q b own_then f opened.n opened.list first in
          let at_list : IsAnswerOf start ms (initiator_in w q) n (ends ms (initiator_in w q) n) (M q).answer = subst (λ m. IsAnswerOf start ms (initiator_in w q) m (ends ms (initiator_in w q) m) (M q).answer) list_same had in
          let at_owner : IsAnswerOf start ms i n (ends ms i n) (M q).answer = subst (λ j. IsAnswerOf start ms j n (ends ms j n) (M q).answer) (sym owner) at_list in
          let at_number : IsAnswerOf start ms i n k (M q).answer = subst (λ j. IsAnswerOf start ms i n j (M q).answer) (sym x.number) at_owner in
          answer_on start grown ms now is i n k (machine_at v q).answer (subst (λ xs. IsAnswerOf start ms i n k xs) (sym same) at_number)

      -- no other agent of its initiator runs a command
      apart : (serial : ℕ) (run : Option Told) (r : RanHere w s.media serial run) → i ≡ (holder w r.place).initiator → ⊥
      apart serial run r mine =
          let there = served_there w.target r.place r.by.login r.by.served in
          let small : r.place < 8 = (let l = within w.target.logins.places r.place r.by.login there in let c = known.good.table.sound.size in omega (arith, l, c)) in
          let open_there : has_list (M r.place).phase ≡ true = listed (M r.place) r.place (plain_in w.target.units s.media.disks r.by.login.unit) run r.by.which (answer_in r.by.packet) r.outcome r.by.ran in
          let one_place : r.place ≡ q = (step.stands.lists (initiator_in w q) own_then).one q r.place b small open_then open_there (calm (initiator_in w q) own_then) (sym mine ∙ owner) in
          let none = answering_none (M r.place) r.place (plain_in w.target.units s.media.disks r.by.login.unit) run r.by.which (answer_in r.by.packet) (ap (λ j. answers (M j).phase) one_place ∙ f) in
          none-some r.outcome (sym none ∙ r.by.ran)

      by_coming : Comes start w s.media ms now → Goal
      by_coming (quiet more unrun is) = kept_on more is (subst (λ c. 0 < c) (ap (λ h. runs h i n k) (sym is) ∙ unrun_runs i n k more ms unrun) ran_there)
      by_coming (one serial run c) =
          let base = said (notes.Got serial) ∷ (c.front ++ ms) in
          let note = said (note_of w s.media serial run c.r) in
          let same_runs : runs now i n k ≡ runs ms i n k =
          ap (λ h. runs h i n k) (sym c.is)
          ∙ (unrun_runs i n k c.more (note ∷ base) c.unrun
          ∙ (runs_other base (holder w c.r.place).initiator (holder w c.r.place).unit c.r.cdb c.r.payload _ c.r.list c.r.number i n k (apart serial run c.r) ∙ unrun_runs i n k c.front ms c.unrun_front)) in
          kept_on (c.more ++ (note ∷ said (notes.Got serial) ∷ c.front)) (joined c.more (note ∷ said (notes.Got serial) ∷ c.front) ms ∙ c.is) (subst (λ x. 0 < x) same_runs ran_there)

    -- its command ran in this turn
    module _ (x : RunsNow q (machine_at v q).answer) where
      none_not : NoneRan w.target x.sent x.run s.media → ⊥
      none_not none =
          none-some x.outcome
          (sym none.ran
          ∙ (ap (λ y. ran_as w.target x.run s.media.disks y) x.judged
          ∙ (ap (λ (y : Option Login). ran_for w.target x.run s.media.disks q x.packet y (which_in (desk_at w.target q) (header_in x.packet).source x.label)) x.served
          ∙ (ap (λ y. ran_for w.target x.run s.media.disks q x.packet (Some x.login) y) x.is_which ∙ x.ran))))

      module _ (c : ComesOne start w s.media ms now x.serial x.run) where
        abbrev r : RanHere w s.media x.serial x.run
        r = c.r

        abbrev base : List Moment
        base = said (notes.Got x.serial) ∷ (c.front ++ ms)

        abbrev by : RanBy w.target r.sent x.run s.media r.place r.orb r.cdb r.payload r.outcome
        by = r.by

        -- it is the one that is told
        same_response : of_response by.packet by.label (Some (purposes.Agent r.place)) ≡ of_response x.packet x.label (Some (purposes.Agent q))
        same_response =
            let sent_same : r.sent ≡ x.sent = same_found r.sent x.sent (sym r.found ∙ x.found) in
            sym by.found ∙ (ap (λ (y : Sent). (judging_step w.target.layer y.generation y.bytes).0) sent_same ∙ x.judged)

        place_same : r.place ≡ q
        place_same = let z = same_response in response_place by.packet x.packet by.label x.label r.place q z

        packet_same : by.packet ≡ x.packet
        packet_same = response_packet by.packet x.packet by.label x.label r.place q same_response

        label_same : by.label ≡ x.label
        label_same = response_label by.packet x.packet by.label x.label r.place q same_response

        login_same : by.login ≡ x.login
        login_same = same_Some by.login x.login (sym by.served ∙ (ap (λ j. served_login w.target j) place_same ∙ x.served))

        which_same : by.which ≡ x.which
        which_same =
            same_Some by.which x.which
            (sym by.is_which
            ∙ (ap (λ j. which_in (desk_at w.target j) (header_in by.packet).source by.label) place_same
            ∙ (ap (λ y. which_in (desk_at w.target q) (header_in y).source by.label) packet_same ∙ (ap (λ y. which_in (desk_at w.target q) (header_in x.packet).source y) label_same ∙ x.is_which))))

        step_same : stepped x.run r.place by.packet by.login by.which ≡ stepped x.run q x.packet x.login x.which
        step_same =
            ap (λ j. stepped x.run j by.packet by.login by.which) place_same
            ∙ (ap (λ y. stepped x.run q y by.login by.which) packet_same ∙ (ap (λ y. stepped x.run q x.packet y by.which) login_same ∙ ap (λ y. stepped x.run q x.packet x.login y) which_same))

        outcome_same : x.outcome ≡ r.outcome
        outcome_same = same_outcome x.outcome r.outcome (sym x.ran ∙ (ap (λ (y : AgentStep × Machine). y.0.ran) (sym step_same) ∙ by.ran))

        good : check_in r.outcome ≡ None
        good = ap check_in (sym outcome_same) ∙ x.good

        unit_is : (holder w r.place).unit ≡ by.login.unit
        unit_is =
            let held = step.stands.reached.site.held.held r.place by.login (served_there w.target r.place by.login by.served) in
            ap (λ o. (or_nobody o).unit) held.there ∙ held.unit_is

        disk_is : disk_of start base (holder w r.place).unit ≡ (plain_in w.target.units s.media.disks by.login.unit).medium
        disk_is = ap (λ (y : PlainDisk). y.medium) (c.units (holder w r.place).unit) ∙ ap (λ j. (plain_in w.target.units s.media.disks j).medium) unit_is

        answer_same : (stepped x.run r.place by.packet by.login by.which).1.answer ≡ (machine_at v q).answer
        answer_same = ap (λ (y : AgentStep × Machine). y.1.answer) step_same ∙ sym x.answer_is

        told_so : IfSome (answer_of r.cdb (disk_of start base (holder w r.place).unit)) (λ told. (machine_at v q).answer ≡ told)
        told_so =
            subst (λ d. IfSome (answer_of r.cdb d) (λ told. (machine_at v q).answer ≡ told)) (sym disk_is)
            (subst (λ cdb. IfSome (answer_of cdb (plain_in w.target.units s.media.disks by.login.unit).medium) (λ told. (machine_at v q).answer ≡ told)) (sym by.cdb_is)
            (subst (λ xs. IfSome (answer_of (stepped x.run r.place by.packet by.login by.which).1.orb.cdb (plain_in w.target.units s.media.disks by.login.unit).medium) (λ told. xs ≡ told)) answer_same (by.may.answered good)))

        size_so : length (machine_at v q).answer ≡ answer_length_of (disk_of start base (holder w r.place).unit).is_bay r.cdb
        size_so =
            ap length (sym answer_same)
            ∙ (by.may.size
            ∙ (by.may.len good
            ∙ (ap (λ cdb. answer_length_of (plain_in w.target.units s.media.disks by.login.unit).medium.is_bay cdb) (sym by.cdb_is) ∙ ap (λ (d : Disk). answer_length_of d.is_bay r.cdb) (sym disk_is))))

        owner_is : (holder w r.place).initiator ≡ i
        owner_is = ap (λ j. initiator_in w j) place_same ∙ sym owner

        own_here : wild (holder w r.place).initiator ≡ false
        own_here = ap wild owner_is ∙ own

        -- and it has this name
        abbrev note : Option ℕ → Option ℕ → Moment
        note list number = said (notes.Ran (holder w r.place).initiator list number (holder w r.place).unit r.cdb r.payload (check_of r.outcome))

        passed : PassAt wild (note r.list r.number) base
        passed = (passes_from wild c.more (note r.list r.number ∷ base) (subst (PassLaw wild) (sym c.is) passes)).0

        same_runs : 0 < runs (note r.list r.number ∷ base) i n k
        same_runs = subst (λ y. 0 < y) (ap (λ h. runs h i n k) (sym c.is) ∙ unrun_runs i n k c.more (note r.list r.number ∷ base) c.unrun) ran_there

        module _ (m l : ℕ) (at : c.more ++ note (Some m) (Some l) ∷ base ≡ now) (pass : PassAt wild (note (Some m) (Some l)) base) (ran : 0 < runs (note (Some m) (Some l) ∷ base) i n k) where
          names : (n ≡ m) × (k ≡ l)
          names = pick (runs_key base (holder w r.place).initiator m l (holder w r.place).unit r.cdb r.payload (check_of r.outcome) i n k ran)
            where
              pick : ((n ≡ m) × (k ≡ l)) ⊎ (0 < runs base i n k) → (n ≡ m) × (k ≡ l)
              pick (inl z) = z
              pick (inr had) =
                  let f : WasFirst base now i n = was_first wild (c.more ++ note (Some m) (Some l) ∷ []) base now (joined c.more (note (Some m) (Some l) ∷ []) base ∙ at) passes i n own latest had in
                  let turn = (pass own_here).next.turn in
                  let at_m : suc m ≡ lists base i = turn.still.latest ∙ ap (lists base) owner_is in
                  let same_n : n ≡ m = (let a = f.latest in omega (arith, a, at_m)) in
                  let at_l : l ≡ ends base i n = turn.number ∙ (ap (λ j. ends base j m) owner_is ∙ ap (λ j. ends base i j) (sym same_n)) in
                  (same_n, f.number ∙ sym at_l)

          named : Goal
          named = record {
            later = c.more;
            before = base;
            unit = (holder w r.place).unit;
            cdb = r.cdb;
            bytes = r.payload;
            check = check_of r.outcome;
            is =
                subst (λ j. c.more ++ said (notes.Ran j (Some n) (Some k) (holder w r.place).unit r.cdb r.payload (check_of r.outcome)) ∷ base ≡ now) owner_is
                (subst (λ y. c.more ++ note (Some y) (Some k) ∷ base ≡ now) (sym names.0) (subst (λ y. c.more ++ note (Some m) (Some y) ∷ base ≡ now) (sym names.1) at));
            told = told_so;
            size = size_so;
          }

        by_names : (list number : Option ℕ) → c.more ++ note list number ∷ base ≡ now → PassAt wild (note list number) base → 0 < runs (note list number ∷ base) i n k → Goal
        by_names (Some m) (Some l) at pass ran = named m l at pass ran
        by_names None number at pass ran = absurd (false≢true (sym own_here ∙ pass))
        by_names (Some m) None at pass ran = absurd (false≢true (sym own_here ∙ pass))

        fresh : Goal
        fresh = by_names r.list r.number c.is passed same_runs

      by_run : NoneRan w.target x.sent x.run s.media ⊎ ComesOne start w s.media ms now x.serial x.run → Goal
      by_run (inl none) = absurd (none_not none)
      by_run (inr c) = fresh c

    by_from : From q (machine_at v q).answer → Goal
    by_from (was f same) = by_coming f same coming
    by_from (ran_now x) = by_run x (turn_ran units ready has start past s later t step.turn known.good step.units_are x.serial x.sent x.run x.heard_is x.found x.zero_to x.may)

    told_now : Goal
    told_now = by_from (from_there q b own_then e)

told_walk : (wild : ℕ → Bool) (units ready : ℕ) → 0 < units → (start : List Disk) → Walks wild units ready start Ground AreWhole (AllTold start wild)
told_walk wild units ready has start past s later t step p = λ q b own e n list latest. told_now wild units ready has start past s later t step p q b e n list latest own

-- ---- over a run, of the initiators that injected no packets
no_answers : (m : Machine) → m ≡ new_desk.agent → answers m.phase ≡ true → ⊥
no_answers m same e = false≢true (ap (λ (y : Machine). answers y.phase) (sym same) ∙ e)

first : (wild : ℕ → Bool) (line : ℕ) (run : Run) → AllTold run.start.disks wild (moments_behind line run []) (beginning run).world
unfolding new_world
first wild line run q b own e n list latest = absurd (no_answers _ (ap (λ (d : Desk). d.agent) (new_desks 8 q)) e)
  where
    new_desks : (count p : ℕ) → slice_index_or (replicate count new_desk) p new_desk ≡ new_desk
    new_desks zero p = refl
    new_desks (suc count) zero = refl
    new_desks (suc count) (suc p) = new_desks count p

whole_there : EveryPlace (λ start. AreWhole)
whole_there = record {
  after_lines = λ line run r has small size so_far. whole_law.after_lines line run r has small size so_far;
  between = λ line run r has small size next most told m so_far. whole_law.between line run r has small size next most told m so_far;
}

pub there_law : UnderFrom AreToldThere
there_law = record {
  after_lines = λ line run r has small size so_far q b calm e n list latest. walked_from Ground (λ start. AreWhole) AllTold all_filled whole_there told_walk first line run r has small size so_far q b calm e n list latest;
  between = λ line run r has small size next most told m so_far q b calm e n list latest.
      walked_from_between Ground (λ start. AreWhole) AllTold all_filled whole_there told_walk first line run r has small size next (more_deliveries most) (delivers most) told m so_far q b calm e n list latest;
}

told_there : (start : List Disk) (past : List Moment) (w : WorldState) → ExecutionLaw (injectors past) start past → AreToldThere start past w → AreAnswers start past w
told_there start past w law told place b calm answering n list opened =
    answer_before start (injectors past) past (initiator_in w place) n (ends past (initiator_in w place) n) (machine_at w place).answer calm law (told place b calm (ap answers answering) n list opened.latest)

pub told_law : AnswersToldLaw
told_law = record {
  after_lines = λ line run r has small size so_far. told_there run.start.disks (history_of line run) (after (beginning run) run.entries).world (execution_run_law.after_lines line run r has small size so_far) (there_law.after_lines line run r has small size so_far);
  between = λ line run r has small size next most told m so_far.
      let w = (after_all told (begun (after (beginning run) run.entries))).world in
      told_there run.start.disks (map said w.fresh ++ asked next (more_deliveries most) ∷ history_of line run) w (execution_run_law.between line run r has small size next (more_deliveries most) (delivers most) told m so_far) (there_law.between line run r has small size next most told m so_far);
}
