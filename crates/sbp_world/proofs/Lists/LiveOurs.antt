-- What a turn that is none of the target leaves of the operation that an initiator has under way, where that stays; and of one that begins: its write was not judged.
use Rattle.sbp_world.proofs.Words.Std.{arith, ◌≡◌, ◌∙◌, refl, sym, ap, subst, ℕ, suc, ◌<◌, nat_eq, nat_le, Bool, true, false, List, [], ◌∷◌, ◌++◌, map, length, Option, Some, None, nat_tests}
use Rattle.sbp_world.proofs.Words.Wire.{as_sending, Kept, topology_at, end_note, empty_outbox, Moment, asked, said, terms, Action, Event, Note, Operation}
use Rattle.sbp_world.proofs.Words.Target.{Disk, Told}
use Rattle.sbp_world.proofs.Words.Initiator.{FreeFor, act_step, Running, Turn}
use Rattle.sbp_world.proofs.Words.Laws.{Underway, host_at, is_management, operation_of}
use Rattle.sbp_world.proofs.Words.World.{Core, work_in, more_deliveries, acted, acted_by, happens, Scene, WorldState, initiator_at, without_notes, IsAccepted, IsManaged, IsTaken, OperationsLast}
use Rattle.sbp_world.proofs.Hosts.Hosted.{Cored}
use Rattle.sbp_journal.specs.declared.event.Event.TheVariants as events
use Rattle.sbp_journal.specs.declared.note.Note.TheVariants as notes
use Rattle.sbp_world.proofs.Agents.Management.Holding.{Holding, was_sent}
use Rattle.sbp_world.proofs.Agents.Management.Still.{hist}
use Rattle.sbp_world.proofs.Hosts.Carries.{IsNoAct}
use Rattle.sbp_world.proofs.Sessions.Turns.{wire_generation}
use Rattle.sbp_world.proofs.Lists.Courses.{Goes, by_delivery, by_end, by_line, by_start}
use Rattle.sbp_world.proofs.Lists.Judging.{goes_next, grown, turn_fresh}
use Rattle.sbp_world.proofs.Lists.LiveAway.{Over, Steady, begins_none, line_over, no_act, notes_host, notes_over, over_self, over_then}
use Rattle.sbp_world.proofs.Lists.LiveRuns.{base_of}
use Rattle.sbp_world.proofs.Lists.LiveSteps.{CarriedOf}
use Rattle.sbp_world.proofs.Lists.LiveTold.{AwayFrom, TellsAway}
use Rattle.sbp_world.proofs.Lists.ManageActs.{same_operation}
use Rattle.sbp_world.proofs.Lists.ManageFirsts.{Goes as HostGoes, goes_then, line_first, note_first}
use Rattle.sbp_world.proofs.Lists.ManageMoments.{Hands}
use Rattle.sbp_world.proofs.Lists.ManageOwn.{AtHost, at_host}
use Rattle.sbp_world.proofs.Lists.ManageTerms.{none_is, same_some}
use Rattle.sbp_world.proofs.Common.{said_split}
use Rattle.sbp_world.proofs.Lists.LiveCalled.{no_work}
use Rattle.sbp_world.proofs.Lists.LiveLeads.{hands_before}
use Rattle.sbp_world.proofs.Pointers.Asks.{act_allowed}
use Rattle.sbp_world.proofs.Hosts.Outboxes.{line_stays as event_behind}

-- ---- the notes of a turn

-- what stands behind the notes that there were
pub away_is : {i own : ℕ} {kept : List Kept} {base fresh : List Note} (a : AwayFrom i own kept base fresh) (later : List Moment) → map said fresh ++ later ≡ map said a.more ++ (map said base ++ later)
away_is {i} {own} {kept} {base} {fresh} a later = ap (λ (ns : List Note). map said ns ++ later) a.is ∙ said_split a.more base later

-- ---- the operation under way at the host, where one is so at the initiator

module _ (i : ℕ) (line : ℕ) (event : Event) (before : List Moment) where
  abbrev opened : List Moment
  opened = asked line event ∷ before

  line_goes : {own : ℕ} {kept : List Kept} {fresh : List Note} → AwayFrom i own kept [] fresh → Steady i (Some event) → HostGoes (host_at before i) (host_at (map said fresh ++ opened) i)
  line_goes {own} {kept} {fresh} a y =
      subst (λ ms. HostGoes (host_at before i) (host_at ms i)) (sym (away_is a opened))
      (goes_then (host_at before i) (host_at opened i) (host_at (map said a.more ++ opened) i) (line_first line event before i) (notes_host i own kept a.more opened a.away y))

-- an action that begins an operation finds none
module _ (i line : ℕ) (action : Action) (w : WorldState) (before : List Moment) (running : Running) (is : (initiator_at w i).operation ≡ Some running) where
  abbrev acting : Event
  acting = events.Act i action

  begins_no : (act_step action empty_outbox (initiator_at (without_notes w) i)).0 ≡ None → (found : Option Operation) → operation_of action ≡ found → Steady i (Some acting)
  begins_no done None o = begins_none action refl o
  begins_no done (Some operation) o =
      let free = (act_allowed action (initiator_at (without_notes w) i) done).free in
      let none : (initiator_at w i).operation ≡ None = subst (λ x. FreeFor x (initiator_at (without_notes w) i)) (sym (same_operation action) ∙ o) free in
      none_is running (sym none ∙ is)

  acts_by : {own : ℕ} {kept : List Kept} (r : Option ℕ × Turn) → act_step action empty_outbox (initiator_at (without_notes w) i) ≡ r → AwayFrom i own kept [] (acted_by r line i action (without_notes w)).fresh → HostGoes (host_at before i) (host_at (map said (acted_by r line i action (without_notes w)).fresh ++ asked line acting ∷ before) i)
  acts_by (Some number, turn) e a =
      let opened : List Moment = asked line acting ∷ before in
      goes_then (host_at before i) (host_at opened i) (host_at (said (notes.Refused line number) ∷ opened) i) (line_first line acting before i) (note_first (notes.Refused line number) opened i refl)
  acts_by (None, turn) e a = line_goes i line acting before a (begins_no (ap (λ (r : Option ℕ × Turn). r.0) e) (operation_of action) refl)

  pub acts_host : {own : ℕ} {kept : List Kept} → AwayFrom i own kept [] (acted line i action (without_notes w)).fresh → HostGoes (host_at before i) (host_at (map said (acted line i action (without_notes w)).fresh ++ asked line acting ∷ before) i)
  unfolding acted
  acts_host a = acts_by (act_step action empty_outbox (initiator_at (without_notes w) i)) refl a

line_host : (past : List Moment) (s : Scene) (line : ℕ) (event : Event) (told : List (Option Told)) (i : ℕ) (running : Running) → (initiator_at s.world i).operation ≡ Some running → (own : ℕ) (kept : List Kept) → AwayFrom i own kept [] (happens line event told s).world.fresh → HostGoes (host_at (hist past s.world) i) (host_at (map said (happens line event told s).world.fresh ++ asked line event ∷ hist past s.world) i)
unfolding happens
line_host past s line (events.Act j action) told i running is own kept a = by (nat_eq i j) refl
  where
    by : (b : Bool) → nat_eq i j ≡ b → HostGoes (host_at (hist past s.world) i) (host_at (map said (acted line j action (without_notes s.world)).fresh ++ asked line (events.Act j action) ∷ hist past s.world) i)
    by true e =
        let same : j ≡ i = grind (arith, nat_tests) in
        subst (λ k. AwayFrom i own kept [] (acted line k action (without_notes s.world)).fresh → HostGoes (host_at (hist past s.world) i) (host_at (map said (acted line k action (without_notes s.world)).fresh ++ asked line (events.Act k action) ∷ hist past s.world) i)) (sym same)
        (acts_host i line action s.world (hist past s.world) running is) a
    by false e = line_goes i line (events.Act j action) (hist past s.world) a (no_act e)
line_host past s line event told i running is own kept a = line_goes i line event (hist past s.world) a (no_act tt)

end_first : (done : Bool) (past : List Moment) (i : ℕ) → HostGoes (host_at past i) (host_at (said (end_note done) ∷ past) i)
end_first true past i = note_first notes.Settled past i refl
end_first false past i = note_first notes.Stopped past i refl

pub own_host : (past : List Moment) (s : Scene) (later : List Moment) (t : Scene) (g : Goes past s later t) (i : ℕ) → TellsAway i s.world (base_of g) t.world → (running : Running) → (initiator_at s.world i).operation ≡ Some running → HostGoes (host_at (hist past s.world) i) (host_at (hist later t.world) i)
own_host past s later t (by_line past0 s0 line event told one fit may) i a running is = line_host past s line event told i running is _ _ a
own_host past s later t (by_start past0 s0 line most) i a running is = line_first line (more_deliveries most) (hist past s.world) i
own_host past s later t (by_delivery past0 s0 one may no_acts) i a running is =
    subst (λ ms. HostGoes (host_at (hist past s.world) i) (host_at ms i)) (sym (away_is a past))
    (notes_host i _ _ a.more (hist past s.world) a.away (no_act (subst (IsNoAct i) (sym (event_behind s.world.fresh past)) (no_acts i))))
own_host past s later t (by_end past0 s0 done) i a running is = end_first done (hist past s.world) i

-- ---- what is in hand

pub opened_over : (start : List Disk) (i : ℕ) (past : List Moment) (s : Scene) (later : List Moment) (t : Scene) (g : Goes past s later t) → Hands start i (map said (base_of g) ++ later) → Over start (hist past s.world) (map said (base_of g) ++ later) i
opened_over start i past s later t (by_line past0 s0 line event told one fit may) h = line_over start line event (hist past s.world) i h.0
opened_over start i past s later t (by_start past0 s0 line most) h = line_over start line (more_deliveries most) (hist past s.world) i h.0
opened_over start i past s later t (by_delivery past0 s0 one may no_acts) h = over_self start (hist past s.world) i
opened_over start i past s later t (by_end past0 s0 done) h = over_self start (hist past s.world) i

module _ (units ready : ℕ) (start : List Disk) (past : List Moment) (s : Scene) (later : List Moment) (t : Scene) {lines : ℕ} (g : Goes past s later t) (h : Holding units ready start past lines s.world) (i : ℕ) (inside : i < length s.world.initiators) where
  abbrev w : WorldState
  w = s.world

  abbrev v : WorldState
  v = t.world

  abbrev before : List Moment
  before = hist past w

  abbrev now : List Moment
  now = hist later v

  abbrev B : List Moment
  B = map said (base_of g) ++ later

  module _ (hands : Hands start i now) (a : TellsAway i w (base_of g) v) where
    now_is : now ≡ map said a.more ++ B
    now_is = away_is a later

    hands_there : Hands start i (map said a.more ++ B)
    hands_there = subst (Hands start i) now_is hands

    opens : Over start before B i
    opens = opened_over start i past s later t g (hands_before start i a.more B hands_there)

    pub over : Over start before now i
    over =
        subst (λ ms. Over start before ms i) (sym now_is)
        (over_then opens
        (notes_over start i (topology_at w.generations (suc i)).generation w.store.kept a.more B a.away (opens.generation ∙ wire_generation w h.sound.stands (suc i) (omega arith))
        (λ n x e. opens.sent n (as_sending x) (was_sent w h.sound.stands n x e)) hands_there))

    module _ (is_ready later_ready : Bool) (cored : Cored is_ready before i (initiator_at w i)) (cored_now : Cored later_ready now i (initiator_at v i)) (managed : IsManaged start before i) (same : (initiator_at v i).operation ≡ (initiator_at w i).operation) where
      taken_by : (taken : IsTaken start before i) (r : Running) → (initiator_at w i).operation ≡ Some r → AtHost now i r → IsTaken start now i
      taken_by taken r e x =
          let k = (own_host past s later t g i a r e).on x.u x.is in
          let one : k.was ≡ taken.underway = same_some k.was taken.underway (sym k.is ∙ taken.is) in
          let first_is : taken.underway.first ≡ x.u.first = sym (ap (λ (u : Underway). u.first) one) ∙ k.first in
          let b = managed.busy taken.underway taken.is taken.manages in
          record {
            underway = x.u;
            is = x.is;
            manages = ap is_management (sym k.operation ∙ ap (λ (u : Underway). u.operation) one) ∙ taken.manages;
            judged = subst (λ n. 0 < (terms now).news n) first_is (over.leads.more taken.underway.first taken.judged);
            accepted = subst (λ n. IsAccepted start now n) first_is (over.leads.accepted taken.underway.first b.own taken.judged taken.accepted);
          }

      taken_for : IsTaken start before i → (found : Option Running) → (initiator_at w i).operation ≡ found → IsTaken start now i
      taken_for taken None e = absurd (no_work taken.underway (host_at before i).operation taken.is (ap (λ (x : Core). x.work) cored.core ∙ ap work_in e))
      taken_for taken (Some r) e = taken_by taken r e (at_host now i (initiator_at v i) r cored_now.core (same ∙ e))

      pub own_carried : CarriedOf start before now w i
      own_carried = record {
        on = λ taken. taken_for taken (initiator_at w i).operation refl;
        back = λ op is own active rest. active (over.rest rest);
        tells = λ orb bytes x. (let o = over.telling x.serial x.place x.telling in record { serial = x.serial; place = x.place; telling = o.telling; orb_is = x.orb_is; bytes_are = x.bytes_are ∙ o.bytes });
      }

  -- ---- an operation that begins
  pub own_fresh : {is_ready : Bool} → Cored is_ready before i (initiator_at w i) → OperationsLast now i → (initiator_at w i).operation ≡ None → (underway : Underway) → (host_at now i).operation ≡ Some underway → (terms now).news underway.first ≡ 0
  own_fresh cored lasts none underway is = by (nat_le underway.first (terms before).count) refl
    where
      by : (b : Bool) → nat_le underway.first (terms before).count ≡ b → (terms now).news underway.first ≡ 0
      by false e = turn_fresh past s later t g h.sound.stands underway.first (grind (arith, nat_tests))
      by true e =
          let x = grown before now (goes_next past s later t g) in
          let k = lasts.was x.new before x.is underway is (grind (arith, nat_tests)) in
          absurd (no_work k.was (host_at before i).operation k.is (ap (λ (x : Core). x.work) cored.core ∙ ap work_in none))
