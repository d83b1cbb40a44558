-- A turn in which `unsolicited` is told: it is the reply to an agent, whose initiator is none of those that are told of the disc; so its packets are the agent's, which go to another initiator, and behind them the unsolicited statuses, one to each.
use Rattle.std.proofs.Common.{arith, ◌≡◌, ◌∙◌, refl, sym, ap, subst, inl, inr, ◌⊎◌, ℕ, suc, ◌+◌, ◌≤◌, ◌==◌, ◌&&◌, not, nat_eq, Bool, true, false, cond, List, [], ◌∷◌, Option, Some, None, Result, Ok, Err}
use Rattle.std.specs.Prelude.{filter, slice_index_or}
use Rattle.std.proofs.lemmas.Bool.Decides.{nat_tests}
use Rattle.login_table.specs.Table.{is_live, place_at}
use Rattle.login_table.specs.declared.login.Login.{Login}
use Rattle.rbc_disk.specs.Disk.{Disk}
use Rattle.rbc_disk.specs.declared.command.Outcome.{Outcome}
use Rattle.sbp_journal.specs.Run.{Moment, said}
use Rattle.sbp_journal.specs.Wire.{Terms, terms}
use Rattle.sbp_journal.specs.declared.note.Note.{Note}
use Rattle.sbp_journal.specs.declared.note.Note.TheVariants as notes
use Rattle.command_agent.specs.Machine as agent
use Rattle.command_agent.specs.Steps as steps
use Rattle.command_agent.specs.declared.step.PointRefusal.{PointRefusal}
use Rattle.orb_layout.specs.declared.ask.Ask.{Ask}
use Rattle.orb_layout.specs.Pointers.{pointer_at}
use Rattle.sbp_journal.specs.Addresses.{Access, Start, doorbell, orb_pointer, register, start_at, start_serves}
use Rattle.sbp_journal.specs.Transactions.{Part, Sending, no_packet, part_of, request, response}
use Rattle.sbp_laws.specs.Agents.{AgentTurn, Event, agent_turn, by_doorbell, by_pointer, event_by, got_in, nothing, replies, target_before, wire_before, write_in, write_of, writes}
use Rattle.sbp_laws.specs.SentAnswers.{answer_due, answers_to, is_answered, reply_in, reply_packet}
use Rattle.sbp_laws.specs.CarriedLaw.{Run, RunsWhereDue, run_by, run_of, runs_in}
use Rattle.sbp_laws.specs.MediaLaw.{Load, is_push_note, is_told, load_if, load_in, may_push, push_notes, told_logins}
use Rattle.sbp_laws.specs.NoteKinds.{of_kind}
use Rattle.sbp_laws.specs.Packets.{access_at, access_in, answered_as, answered_at, answered_in, id_for, packet_in, receiver_in}
use Rattle.sbp_laws.specs.Targets.{Agent, Target, agent_at, initiator_at, initiator_with, is_serial, place_on, unit_of}
use Rattle.sbp_laws.specs.Turns.{Turn}
use Rattle.sbp_world.proofs.Common.{equal_numbers, untrue}
use Rattle.turn_laws.proofs.AgentDue.{turn_in}
use Rattle.turn_laws.proofs.PushPlaces.{IsCall, IsPlaced, gets_it, times_it}
use Rattle.turn_laws.proofs.TargetHails.{Stands}

-- ---- whose note it is
pub kind_stands : (i : ℕ) (ns : List Note) → Stands (notes.Unsolicited i) ns → Stands (notes.Unsolicited i) (of_kind is_push_note ns)
kind_stands i [] s = absurd s
kind_stands i (note ∷ ns) (inl e) = subst (λ (b : Bool). Stands (notes.Unsolicited i) (cond b (note ∷ of_kind is_push_note ns) (of_kind is_push_note ns))) (sym (ap is_push_note e)) (inl e)
kind_stands i (note ∷ ns) (inr s) = by (is_push_note note) (kind_stands i ns s)
  where
    by : (b : Bool) → Stands (notes.Unsolicited i) (of_kind is_push_note ns) → Stands (notes.Unsolicited i) (cond b (note ∷ of_kind is_push_note ns) (of_kind is_push_note ns))
    by true k = inr k
    by false k = k

-- a login of these, which may be told
abbrev pub Among : (Login → Type 0) → List Login → Type 0
Among P [] = ⊥
Among P (login ∷ logins) = P login ⊎ Among P logins

same_note : (i j : ℕ) → notes.Unsolicited i ≡ notes.Unsolicited j → i ≡ j
same_note i j e = cc

other_note : {A : Type 0} (i j : ℕ) → notes.Unsent i ≡ notes.Unsolicited j → A
other_note i j e = absurd (let no : notes.Unsent i ≡ notes.Unsolicited j = e in cc)

module _ (T : Target) (after : Terms) where
  -- its initiator
  abbrev pub Named : ℕ → Login → Type 0
  Named i login = initiator_with after login.node ≡ i

  pub named_in : (i : ℕ) (logins : List Login) → Stands (notes.Unsolicited i) (push_notes T after logins) → Among (Named i) logins
  named_in i [] s = absurd s
  named_in i (login ∷ logins) (inr s) = inr (named_in i logins s)
  named_in i (login ∷ logins) (inl e) = inl (by (may_push T after login) e)
    where
      by : (b : Bool) → cond b (notes.Unsolicited (initiator_with after login.node)) (notes.Unsent (initiator_with after login.node)) ≡ notes.Unsolicited i → Named i login
      by true f = same_note (initiator_with after login.node) i f
      by false f = other_note (initiator_with after login.node) i f

  -- each login meets a condition
  abbrev pub EachLogin : (Login → Type 0) → List Login → Type 0
  EachLogin P [] = Unit {0}
  EachLogin P (login ∷ logins) = P login × EachLogin P logins

  pub one_of : (P Q : Login → Type 0) (G : Type 0) → ((login : Login) → P login → Q login → G) → (logins : List Login) → EachLogin P logins → Among Q logins → G
  one_of P Q G f [] e a = absurd a
  one_of P Q G f (login ∷ logins) e (inl q) = f login e.0 q
  one_of P Q G f (login ∷ logins) e (inr a) = one_of P Q G f logins e.1 a

  each_map : (P Q : Login → Type 0) → ((login : Login) → P login → Q login) → (logins : List Login) → EachLogin P logins → EachLogin Q logins
  each_map P Q f [] e = tt
  each_map P Q f (login ∷ logins) e = (f login e.0, each_map P Q f logins e.1)

  -- each of another initiator than those behind it
  abbrev pub Differ : List Login → Type 0
  Differ [] = Unit {0}
  Differ (login ∷ logins) = EachLogin (λ other. Named (initiator_with after login.node) other → ⊥) logins × Differ logins

  -- ---- those that are told of a disc, by who ran the command
  module _ (wire : Terms) (placed : IsPlaced T wire after) (load : Load) (enabled : List Bool) (j : ℕ) (place_is : load.place ≡ place_on T load.unit (id_for wire 0 (suc j))) where
    record Hearing (base : ℕ) (login : Login) : Type 0 where
      place : ℕ
      above : base ≤ place
      there : place_at T.table.places place ≡ Some login
      live : is_live login ≡ true
      unit_is : login.unit ≡ load.unit
      apart : (login.place == load.place) ≡ false

    -- its place, by its initiator
    its_place : (base : ℕ) (login : Login) (h : Hearing base login) (i : ℕ) → Named i login → place_on T load.unit (id_for wire 0 (suc i)) ≡ h.place
    its_place base login h i e =
        ap (λ u. place_on T u (id_for wire 0 (suc i))) (sym h.unit_is) ∙ (ap (λ n. place_on T login.unit (id_for wire 0 (suc n))) (sym e) ∙ placed.found h.place login h.there h.live)

    not_agent : (base : ℕ) (login : Login) → Hearing base login → Named j login → ⊥
    not_agent base login h e =
        let same : login.place ≡ load.place = placed.own h.place login h.there ∙ (sym (its_place base login h j e) ∙ sym place_is) in
        untrue (sym h.apart ∙ (let x : nat_eq login.place load.place ≡ true = grind (arith, nat_tests) in x))

    not_both : (base : ℕ) (login other : Login) (h : Hearing base login) → h.place ≡ base → Hearing (base + 1) other → Named (initiator_with after login.node) other → ⊥
    not_both base login other h own k e =
        let same : h.place ≡ k.place = sym (its_place base login h (initiator_with after login.node) refl) ∙ its_place (base + 1) other k (initiator_with after login.node) e in
        let above = k.above in
        absurd (omega (arith, same, own, above))

    parts : (login : Login) → is_told load enabled login ≡ true → ((is_live login ≡ true) × (login.unit ≡ load.unit)) × ((login.place == load.place) ≡ false)
    parts login e = by (is_live login) refl (login.unit == load.unit) refl (login.place == load.place) refl e
      where
        by : (a : Bool) → is_live login ≡ a → (b : Bool) → (login.unit == load.unit) ≡ b → (c : Bool) → (login.place == load.place) ≡ c → (a && b && not c && slice_index_or enabled login.place false) ≡ true → ((a ≡ true) × (login.unit ≡ load.unit)) × (c ≡ false)
        by true f true g false h x = ((refl, equal_numbers login.unit load.unit g), refl)
        by true f true g true h x = untrue x
        by true f false g c h x = untrue x
        by false f b g c h x = untrue x

    abbrev AreHearing : ℕ → List Login → Type 0
    AreHearing base logins = EachLogin (Hearing base) logins × Differ logins

    lower : (base : ℕ) (login : Login) → Hearing (base + 1) login → Hearing base login
    lower base login h = record { place = h.place; above = (let a = h.above in omega (arith, a)); there = h.there; live = h.live; unit_is = h.unit_is; apart = h.apart }

    lowered : (base : ℕ) (logins : List Login) → AreHearing (base + 1) logins → AreHearing base logins
    lowered base logins a = (each_map (Hearing (base + 1)) (Hearing base) (lower base) logins a.0, a.1)

    hearing : (places : List (Option Login)) (base : ℕ) → ((n : ℕ) → place_at places n ≡ place_at T.table.places (base + n)) → AreHearing base (told_logins load enabled places)
    hearing [] base same = (tt, tt)
    hearing (place ∷ places) base same = by place refl (hearing places (base + 1) (λ n. same (suc n) ∙ ap (λ m. place_at T.table.places m) (let z : base + suc n ≡ base + 1 + n = omega arith in z)))
      where
        by : (x : Option Login) → place ≡ x → AreHearing (base + 1) (told_logins load enabled places) → AreHearing base (told_logins load enabled (x ∷ places))
        by None e rest = lowered base (told_logins load enabled places) rest
        by (Some login) e rest = told (is_told load enabled login) refl
          where
            told : (b : Bool) → is_told load enabled login ≡ b → AreHearing base (cond b (login ∷ told_logins load enabled places) (told_logins load enabled places))
            told false f = lowered base (told_logins load enabled places) rest
            told true f =
                let p = parts login f in
                let zero_is : base + 0 ≡ base = omega arith in
                let here : Hearing base login = record { place = base; above = omega arith; there = ap (λ m. place_at T.table.places m) (sym zero_is) ∙ (sym (same 0) ∙ e); live = p.0.0; unit_is = p.0.1; apart = p.1 } in
                let less = lowered base (told_logins load enabled places) rest in
                ((here, less.0), (each_map (Hearing (base + 1)) (λ other. Named (initiator_with after login.node) other → ⊥) (λ other k. not_both base login other here refl k) (told_logins load enabled places) rest.0, less.1))

    -- none is the agent's, and each is another one
    pub told_apart : EachLogin (λ login. Named j login → ⊥) (told_logins load enabled T.table.places) × Differ (told_logins load enabled T.table.places)
    told_apart =
        let h = hearing T.table.places 0 (λ n. ap (λ m. place_at T.table.places m) (let z : n ≡ 0 + n = omega arith in z)) in
        (each_map (Hearing 0) (λ login. Named j login → ⊥) (not_agent 0) (told_logins load enabled T.table.places) h.0, h.1)

-- ---- the load of a turn, by who ran the command
pub record IsLoad (T : Target) (wire : Terms) (rest : List Note) (load : Load) : Type 0 where
  pub first : Run
  pub more : List Run
  pub runs : runs_in rest ≡ first ∷ more
  pub place_is : load.place ≡ place_on T load.unit (id_for wire 0 (suc first.initiator))

pub load_of : (of T : Target) (wire : Terms) (rest : List Note) (load : Load) → load_in T wire rest ≡ Some load → IsLoad T wire rest load
load_of of T bus [] load e = absurd (let no : None ≡ Some load = e in cc)
load_of of T bus (notes.Ran i list number unit cdb bytes check ∷ rest) load e = by _ e
  where
    loaded : (x y : Load) → Some x ≡ Some y → y ≡ x
    loaded x y f = cc

    by : (b : Bool) → load_if b unit (place_on T unit (id_for bus 0 (suc i))) ≡ Some load → IsLoad T bus (notes.Ran i list number unit cdb bytes check ∷ rest) load
    by true f =
        let same = loaded (record { unit = unit; place = place_on T unit (id_for bus 0 (suc i)) }) load f in
        record { first = _; more = runs_in rest; runs = refl; place_is = ap (λ (x : Load). x.place) same ∙ sym (ap (λ (x : Load). place_on T x.unit (id_for bus 0 (suc i))) same) }
    by false f = absurd (let no : None ≡ Some load = f in cc)
load_of of T bus (note ∷ rest) load e = let l = load_of of T bus rest load e in record { first = l.first; more = l.more; runs = l.runs; place_is = l.place_is }

all_runs : (runs : List Run) → filter (λ (run : Run). not false) runs ≡ runs
all_runs [] = refl
all_runs (run ∷ runs) = ap (λ rs. run ∷ rs) (all_runs runs)

-- so it is the initiator of an agent, which has a reply
pub record IsRunner (start : List Disk) (t : Turn) (first : Run) : Type 0 where
  pub agent : AgentTurn
  pub its : turn_in start t ≡ Some agent
  pub initiator_is : first.initiator ≡ initiator_at (target_before start t) (wire_before t) agent.place
  pub outcome : Outcome
  pub ran : agent.step.ran ≡ Some outcome

first_same : (a b : Run) (x y : List Run) → a ∷ x ≡ b ∷ y → a ≡ b
first_same a b x y e = cc

none_first : {A : Type 0} (a : Run) (x : List Run) → a ∷ x ≡ [] → A
none_first a x e = absurd (let no : a ∷ x ≡ [] = e in cc)

pub runner_of : (start : List Disk) (t : Turn) (first : Run) (more : List Run) → runs_in t.rest ≡ first ∷ more → RunsWhereDue (λ i. false) start t → IsRunner start t first
runner_of start t first more e due = by (turn_in start t) refl (sym e ∙ (sym (all_runs (runs_in t.rest)) ∙ (due ∙ all_runs _)))
  where
    by_ran : (a : AgentTurn) → turn_in start t ≡ Some a → (o : Option Outcome) → a.step.ran ≡ o → first ∷ more ≡ run_of t.past (initiator_at (target_before start t) (wire_before t) a.place) (unit_of (target_before start t) a.place) a.machine o → IsRunner start t first
    by_ran a f None o g = none_first first more g
    by_ran a f (Some outcome) o g = record { agent = a; its = f; initiator_is = ap (λ (r : Run). r.initiator) (first_same first _ more [] g); outcome = outcome; ran = o }

    by : (x : Option AgentTurn) → turn_in start t ≡ x → first ∷ more ≡ run_by (target_before start t) t x → IsRunner start t first
    by None f g = none_first first more g
    by (Some a) f g = by_ran a f a.step.ran refl g

-- ---- a command runs in the reply to an agent: such a turn has no response
none_ran : {A : Type 0} (outcome : Outcome) → None ≡ Some outcome → A
none_ran outcome e = absurd (let no : None ≡ Some outcome = e in cc)

same_turn : (a b : AgentTurn) → Some a ≡ Some b → a ≡ b
same_turn a b e = cc

none_turn : {A : Type 0} (a : AgentTurn) → None ≡ Some a → A
none_turn a e = absurd (let no : None ≡ Some a = e in cc)

-- a write of a register runs nothing
abbrev IsWrite : Event → Type 0
IsWrite (replies reply) = ⊥
IsWrite event = Unit {0}

module _ (T : Target) (wire : Terms) (rest : List Note) (a : AgentTurn) (outcome : Outcome) (ran : a.step.ran ≡ Some outcome) where
  by_asks : {A : Type 0} (b : AgentTurn) → b.step.ran ≡ None → Some b ≡ Some a → A
  by_asks b e f = none_ran outcome (sym e ∙ (ap (λ (x : AgentTurn). x.step.ran) (same_turn b a f) ∙ ran))

  point_runs : {A : Type 0} (place : ℕ) (own : Agent) (r : Result Ask PointRefusal × agent.Machine) → by_pointer place own r ≡ Some a → A
  point_runs place own (Ok ask, m) e = by_asks _ refl e
  point_runs place own (Err refusal, m) e = none_turn a e

  ring_runs : {A : Type 0} (place : ℕ) (own : Agent) (r : Ask × agent.Machine) → by_doorbell place own r ≡ Some a → A
  ring_runs place own (ask, m) e = by_asks _ refl e

  write_runs : {A : Type 0} (event : Event) → IsWrite event → agent_turn event T wire rest ≡ Some a → A
  write_runs (replies reply) w e = absurd w
  write_runs nothing w e = none_turn a e
  write_runs (writes orb_pointer place access) w e = point_runs place (agent_at T place) (steps.point_step (agent_at T place).machine (pointer_at access.payload 0)) e
  write_runs (writes doorbell place access) w e = ring_runs place (agent_at T place) (steps.doorbell_step (agent_at T place).machine) e
  write_runs (writes name place access) w e = none_turn a e

  start_is : (at : Start) (access : Access) → IsWrite (write_of at access)
  start_is (register place name) access = by (access.is_write && start_serves (register place name) access)
    where
      by : (b : Bool) → IsWrite (cond b (writes name place access) nothing)
      by true = tt
      by false = tt
  start_is start access = tt

  write_is : (o : Option Access) → IsWrite (write_in o)
  write_is None = tt
  write_is (Some access) = start_is (start_at access.offset) access

  if_write : (b : Bool) (event : Event) → IsWrite event → IsWrite (cond b event nothing)
  if_write true event w = w
  if_write false event w = tt

module _ (start : List Disk) (t : Turn) (a : AgentTurn) (outcome : Outcome) (ran : a.step.ran ≡ Some outcome) where
  abbrev mine : Target
  mine = target_before start t

  abbrev bus : Terms
  bus = terms t.past

  abbrev Its : Moment → Type 0
  Its first = agent_turn (event_by first mine bus) mine bus t.rest ≡ Some a

  -- what a turn is that runs a command
  pub record IsReply (first : Moment) : Type 0 where
    pub call : IsCall first
    pub answer : answer_due start t first ≡ []

  got_by : (serial : ℕ) (so : Option Sending) → bus.sent serial ≡ so → Its (said (notes.Got serial)) → answers_to start t so ≡ []
  got_by serial None e i = refl
  got_by serial (Some q) e i = by (part_of q.bytes) refl
    where
      by : (part : Part) → part_of q.bytes ≡ part → cond (is_answered part) (reply_packet bus q (reply_in start t q.to (access_in (packet_in (Some q))))) [] ≡ []
      by (request label kind) f =
          let none : answered_at bus serial ≡ None = ap (answered_in bus) e ∙ ap (λ p. answered_as p bus q) f in
          let own = is_serial (receiver_in (bus.sent serial)) 0 in
          write_runs mine bus t.rest a outcome ran (cond own (got_in None mine bus serial) nothing) (if_write mine bus t.rest a outcome ran own (got_in None mine bus serial) (write_is mine bus t.rest a outcome ran (access_at bus serial)))
          (ap (λ o. agent_turn (cond own (got_in o mine bus serial) nothing) mine bus t.rest) (sym none) ∙ i)
      by (response label kind) f = refl
      by no_packet f = refl

  pub reply_turn : (first : Moment) → Its first → IsReply first
  reply_turn (said (notes.Got serial)) i =
      record { call = gets_it serial refl; answer = got_by serial (bus.sent serial) refl i }
  reply_turn (said (notes.TimedOut serial)) i = record { call = times_it serial refl; answer = refl }
  reply_turn first i = none_turn a i
