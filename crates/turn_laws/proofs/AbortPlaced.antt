-- The management ORB of an abort that an initiator places has the very address of a slot, which no rounding changes.
use Rattle.std.proofs.Common.{arith, ◌≡◌, ◌∙◌, refl, sym, ap, ◌<◌, ◌+◌, ℕ, suc, ◌%◌, ◌^◌, ◌==◌, ◌&&◌, Bool, true, false, cond, List, [], ◌∷◌, Option, Some, None}
use Rattle.bus_memory.specs.declared.window.Window.TheVariants as windows
use Rattle.bus_memory.specs.Windows.{start}
use Rattle.command_agent.specs.Machine.{aligned}
use Rattle.mgmt_agent.specs.Statuses.{function_of}
use Rattle.mgmt_agent.specs.declared.function.Function.TheVariants as functions
use Rattle.orb_layout.specs.ManagementOrbs.{management_bytes, management_orb}
use Rattle.orb_layout.specs.declared.management.ManagementOrb.{ManagementOrb}
use Rattle.sbp_journal.specs.Run.{Moment, asked, said}
use Rattle.sbp_journal.specs.declared.event.Action.{Action}
use Rattle.sbp_journal.specs.declared.event.Action.TheVariants as actions
use Rattle.sbp_journal.specs.declared.event.Event.{Event}
use Rattle.sbp_journal.specs.declared.event.Event.TheVariants as events
use Rattle.sbp_journal.specs.declared.note.Note.TheVariants as notes
use Rattle.sbp_laws.specs.Hosts.{Host, host_at, operation_of}
use Rattle.sbp_laws.specs.Lists.{present_list, slot_at}
use Rattle.sbp_laws.specs.Served.{is_own, management_orb_of, orb_address, place_bytes, place_held, place_written}
use Rattle.sbp_laws.specs.Turns.{event_of}
use Rattle.sbp_world.specs.Lists.Shorts.{AreShort, IsShortAction}
use Rattle.sbp_world.proofs.Common.{and_first}
use Rattle.sbp_world.proofs.Lists.OrbsShort.{event_short, login_small, orb_short}
use Rattle.sbp_world.proofs.Lists.OwnPlaces.{function_back, own_manages}

-- the ORB that an abort names
abbrev pub IsExact : ManagementOrb → Type 0
IsExact one = function_of one.function ≡ Some functions.Abort → aligned (one.first % 2 ^ 48) ≡ one.first % 2 ^ 48

-- as it is read back
first_back : (o : ManagementOrb) → (management_orb (management_bytes o)).first % 2 ^ 48 ≡ o.first % 2 ^ 48
first_back o = omega arith

exact_back : (o : ManagementOrb) → o.subject < 2 ^ 16 → o.function < 2 ^ 4 → IsExact o → IsExact (management_orb (management_bytes o))
exact_back o subject small h e = ap aligned (first_back o) ∙ (h (ap function_of (sym (function_back o subject small)) ∙ e) ∙ sym (first_back o))

abbrev pub IfExact : Option ManagementOrb → Type 0
IfExact None = Unit {0}
IfExact (Some one) = IsExact (management_orb (management_bytes one))

slot_exact : (slot : ℕ) → aligned (start (windows.Orb slot) % 2 ^ 48) ≡ start (windows.Orb slot) % 2 ^ 48
slot_exact slot = omega arith

address_exact : (past : List Moment) (i k : ℕ) (list : Option ℕ) → aligned (orb_address past i k list % 2 ^ 48) ≡ orb_address past i k list % 2 ^ 48
address_exact past i k None = refl
address_exact past i k (Some n) = slot_exact (slot_at past i n k)

orb_exact : (action : Action) (past : List Moment) (i : ℕ) (host : Host) (place : ℕ) → IsExact (management_orb_of action past i host place)
orb_exact (actions.Login unit reconnect exclusive password) past i host place = λ e. absurd (let no : Some functions.Login ≡ Some functions.Abort = e in cc)
orb_exact (actions.Abort k) past i host place = λ e. address_exact past i k (present_list past i)
orb_exact action past i host place = λ e. refl

function_small : (action : Action) (past : List Moment) (i : ℕ) (host : Host) (place : ℕ) → (management_orb_of action past i host place).function < 2 ^ 4
function_small (actions.Query unit) past i host place = omega arith
function_small actions.Reconnect past i host place = omega arith
function_small actions.Logout past i host place = omega arith
function_small (actions.Abort k) past i host place = omega arith
function_small actions.AbortSet past i host place = omega arith
function_small actions.UnitReset past i host place = omega arith
function_small actions.TargetReset past i host place = omega arith
function_small action past i host place = omega arith

module _ (i m : ℕ) (few_nodes : i + 1 < 2 ^ 16) where
  pick : (b : Bool) (x y : Option ManagementOrb) → (b ≡ true → IfExact x) → IfExact y → IfExact (cond b x y)
  pick true x y h k = h refl
  pick false x y h k = k

  acted : (past : List Moment) → AreShort past → (j : ℕ) (action : Action) → event_of past ≡ Some (events.Act j action) → is_own i j (operation_of action) ≡ true → IfExact (Some (management_orb_of action past i (host_at past i) m))
  acted past shorts j action line e =
      let x = own_manages i j (operation_of action) e in
      let own_line : event_of past ≡ Some (events.Act i action) = line ∙ ap (λ n. Some (events.Act n action)) x.0 in
      let short : IsShortAction action = event_short past (events.Act i action) shorts own_line in
      exact_back (management_orb_of action past i (host_at past i) m) (orb_short action past i (host_at past i) m short (login_small past i few_nodes)) (function_small action past i (host_at past i) m)
      (orb_exact action past i (host_at past i) m)

  written : (past : List Moment) → AreShort past → (before : Option ManagementOrb) → IfExact before → (event : Option Event) → event_of past ≡ event → IfExact (place_written event past i m before)
  written past shorts before h (Some (events.Act j action)) e =
      pick (is_own i j (operation_of action) && ((host_at past i).writes % 2 == m)) (Some (management_orb_of action past i (host_at past i) m)) before
      (λ b. acted past shorts j action e (and_first (is_own i j (operation_of action)) _ b)) h
  written past shorts before h event e = h

  placed_if : (past : List Moment) → AreShort past → IfExact (place_held past i m)
  placed_if [] shorts = tt
  placed_if (said (notes.Sent serial generation (suc j) to bytes) ∷ past) shorts =
      let h = placed_if past shorts in
      pick (j == i) (place_written (event_of past) past i m (place_held past i m)) (place_held past i m) (λ b. written past shorts (place_held past i m) h (event_of past) refl) h
  placed_if (said note ∷ past) shorts = placed_if past shorts
  placed_if (asked line event ∷ past) shorts = placed_if past shorts.1

  read_exact : (held : Option ManagementOrb) → IfExact held → IsExact (management_orb (place_bytes held))
  read_exact None h = λ e. absurd (let no : Some functions.Login ≡ Some functions.Abort = e in cc)
  read_exact (Some one) h = h

  -- each ORB that stood in the place names so
  pub placed_exact : (past : List Moment) → AreShort past → IsExact (management_orb (place_bytes (place_held past i m)))
  placed_exact past shorts = read_exact (place_held past i m) (placed_if past shorts)
