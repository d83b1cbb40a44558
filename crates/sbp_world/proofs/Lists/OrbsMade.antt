-- A management ORB that stood in a place of an initiator was made in a line of an action of it, and is read back as it was made; where it asks for a login, a line of the initiator had asked for one on that unit.
use Rattle.sbp_world.proofs.Words.Std.{arith, ◌≡◌, ◌∙◌, refl, sym, ap, subst, ℕ, suc, ◌+◌, ◌%◌, ◌^◌, ◌<◌, ◌==◌, ◌&&◌, Bool, true, false, cond, List, [], ◌∷◌, ◌++◌, Option, Some, nat_tests}
use Rattle.sbp_world.proofs.Words.Wire.{Action, Event, Moment, asked, said}
use Rattle.sbp_world.proofs.Words.Target.{Function, function_of}
use Rattle.sbp_world.proofs.Words.Initiator.{ManagementOrb, management_bytes, management_orb}
use Rattle.sbp_world.proofs.Words.Laws.{host_at, operation_of, is_own, management_orb_of, place_held, place_written, event_of}
use Rattle.sbp_world.proofs.Words.World.{manages, AreShort}
use Rattle.mgmt_agent.specs.declared.function.Function.TheVariants as functions
use Rattle.sbp_journal.specs.declared.event.Action.TheVariants as actions
use Rattle.sbp_journal.specs.declared.event.Event.TheVariants as events
use Rattle.sbp_journal.specs.declared.note.Note.TheVariants as notes
use Rattle.sbp_world.specs.Lists.LoginUnits.{asks_unit, is_asked_unit}
use Rattle.sbp_world.proofs.Common.{and_first, moments_split, none_is, untrue, or_left, or_right}
use Rattle.sbp_world.proofs.Lists.OrbsShort.{event_short, login_small, orb_short}
use Rattle.sbp_world.proofs.Lists.OwnOps.{short_from}
use Rattle.sbp_world.proofs.Lists.OwnPlaces.{function_back, own_manages}

-- the ORB of an action, as it is read back
abbrev pub made_orb : Action → List Moment → (i place : ℕ) → ManagementOrb
made_orb action past i place = management_orb (management_bytes (management_orb_of action past i (host_at past i) place))

pub record IsMade (past : List Moment) (i : ℕ) (orb : ManagementOrb) : Type 0 where
  pub later : List Moment
  pub before : List Moment
  pub is : later ++ before ≡ past
  pub place : ℕ
  pub action : Action
  pub line : event_of before ≡ Some (events.Act i action)
  pub manages : manages (operation_of action) ≡ true
  pub orb_is : orb ≡ made_orb action before i place

pub made_on : (new past : List Moment) (i : ℕ) (orb : ManagementOrb) → IsMade past i orb → IsMade (new ++ past) i orb
made_on new past i orb m = record {
  later = new ++ m.later;
  before = m.before;
  is = sym (moments_split new m.later m.before) ∙ ap (λ ms. new ++ ms) m.is;
  place = m.place;
  action = m.action;
  line = m.line;
  manages = m.manages;
  orb_is = m.orb_is;
}

module _ (i m : ℕ) where
  abbrev Made : List Moment → Option ManagementOrb → Type 0
  Made past held = (one : ManagementOrb) → held ≡ Some one → IsMade past i (management_orb (management_bytes one))

  pick : (past : List Moment) (b : Bool) (x y : Option ManagementOrb) → (b ≡ true → Made past x) → Made past y → Made past (cond b x y)
  pick past true x y h k = h refl
  pick past false x y h k = k

  acted : (past : List Moment) (j : ℕ) (action : Action) → event_of past ≡ Some (events.Act j action) → is_own i j (operation_of action) ≡ true → Made past (Some (management_orb_of action past i (host_at past i) m))
  acted past j action line own one e =
      let x = own_manages i j (operation_of action) own in
      let is : management_orb_of action past i (host_at past i) m ≡ one = cc in
      record {
        later = [];
        before = past;
        is = refl;
        place = m;
        action = action;
        line = line ∙ ap (λ n. Some (events.Act n action)) x.0;
        manages = x.1;
        orb_is = ap (λ o. management_orb (management_bytes o)) (sym is);
      }

  written : (past : List Moment) (before : Option ManagementOrb) → Made past before → (event : Option Event) → event_of past ≡ event → Made past (place_written event past i m before)
  written past before h (Some (events.Act j action)) e =
      pick past (is_own i j (operation_of action) && ((host_at past i).writes % 2 == m)) (Some (management_orb_of action past i (host_at past i) m)) before
      (λ b. acted past j action e (and_first (is_own i j (operation_of action)) _ b)) h
  written past before h event e = h

  one_more : (moment : Moment) (past : List Moment) (held : Option ManagementOrb) → Made past held → Made (moment ∷ past) held
  one_more moment past held h one e = made_on (moment ∷ []) past i (management_orb (management_bytes one)) (h one e)

  pub held_made : (past : List Moment) → Made past (place_held past i m)
  held_made [] one e = none_is one e
  held_made (said (notes.Sent serial generation (suc j) to bytes) ∷ past) one e =
      let h = held_made past in
      one_more (said (notes.Sent serial generation (suc j) to bytes)) past (cond (j == i) (place_written (event_of past) past i m (place_held past i m)) (place_held past i m))
      (pick past (j == i) (place_written (event_of past) past i m (place_held past i m)) (place_held past i m) (λ b. written past (place_held past i m) h (event_of past) refl) h) one e
  held_made (said note ∷ past) one e = one_more (said note) past (place_held past i m) (held_made past) one e
  held_made (asked line event ∷ past) one e = one_more (asked line event) past (place_held past i m) (held_made past) one e

-- ---- the unit of a login
subject_back : (o : ManagementOrb) → o.subject < 2 ^ 16 → (management_orb (management_bytes o)).subject ≡ o.subject
subject_back o small = omega arith

pub more_asked : (new past : List Moment) (i unit : ℕ) → is_asked_unit past i unit ≡ true → is_asked_unit (new ++ past) i unit ≡ true
more_asked [] past i unit e = e
more_asked (moment ∷ new) past i unit e = or_right (asks_unit moment i unit) _ (more_asked new past i unit e)

-- a line that asks for a login
event_asks : (line i unit reconnect : ℕ) (exclusive : Bool) (password : List ℕ) (event : Event) → event ≡ events.Act i (actions.Login unit reconnect exclusive password) → asks_unit (asked line event) i unit ≡ true
event_asks line i unit reconnect exclusive password event e =
    let same : asks_unit (asked line (events.Act i (actions.Login unit reconnect exclusive password))) i unit ≡ true = grind (arith, nat_tests) in
    subst (λ (x : Event). asks_unit (asked line x) i unit ≡ true) (sym e) same

line_asked : (past : List Moment) (i unit reconnect : ℕ) (exclusive : Bool) (password : List ℕ) → event_of past ≡ Some (events.Act i (actions.Login unit reconnect exclusive password)) → is_asked_unit past i unit ≡ true
line_asked [] i unit reconnect exclusive password e = none_is _ e
line_asked (asked line event ∷ past) i unit reconnect exclusive password e =
    or_left (asks_unit (asked line event) i unit) _ (event_asks line i unit reconnect exclusive password event (let same : event ≡ events.Act i (actions.Login unit reconnect exclusive password) = cc in same))
line_asked (said note ∷ past) i unit reconnect exclusive password e = or_right (asks_unit (said note) i unit) _ (line_asked past i unit reconnect exclusive password e)

module _ (past : List Moment) (i : ℕ) (few_nodes : i + 1 < 2 ^ 16) (shorts : AreShort past) (orb : ManagementOrb) (made : IsMade past i orb) where
  before_short : AreShort made.before
  before_short = short_from made.later made.before (subst AreShort (sym made.is) shorts)

  abbrev spelled : Action → ManagementOrb
  spelled action = management_orb_of action made.before i (host_at made.before i) made.place

  subject_small : (spelled made.action).subject < 2 ^ 16
  subject_small = orb_short made.action made.before i (host_at made.before i) made.place (event_short made.before (events.Act i made.action) before_short made.line) (login_small made.before i few_nodes)

  -- the function that it asks for
  pub function_made : (spelled made.action).function < 2 ^ 4 → function_of orb.function ≡ function_of (spelled made.action).function
  function_made small = ap (λ (o : ManagementOrb). function_of o.function) made.orb_is ∙ ap function_of (function_back (spelled made.action) subject_small small)

  subject_made : orb.subject ≡ (spelled made.action).subject
  subject_made = ap (λ (o : ManagementOrb). o.subject) made.orb_is ∙ subject_back (spelled made.action) subject_small

  -- one of another function than that which is asked for
  other_line : {A : Type 0} (action : Action) (other wanted : Function) → made.action ≡ action → (Some other ≡ Some wanted → ⊥) → (spelled action).function < 2 ^ 4 → function_of (spelled action).function ≡ Some other → function_of orb.function ≡ Some wanted → A
  other_line action other wanted a never small is e =
      let there : (spelled made.action).function < 2 ^ 4 = subst (λ x. (spelled x).function < 2 ^ 4) (sym a) small in
      absurd (never (sym is ∙ (ap (λ x. function_of (spelled x).function) (sym a) ∙ (sym (function_made there) ∙ e))))

  asked_by_line : (action : Action) → made.action ≡ action → manages (operation_of action) ≡ true → function_of orb.function ≡ Some functions.Login → is_asked_unit made.before i orb.subject ≡ true
  asked_by_line (actions.Login unit reconnect exclusive password) a m e =
      let line : event_of made.before ≡ Some (events.Act i (actions.Login unit reconnect exclusive password)) = made.line ∙ ap (λ x. Some (events.Act i x)) a in
      let subject : orb.subject ≡ unit = subject_made ∙ ap (λ x. (spelled x).subject) a in
      subst (λ u. is_asked_unit made.before i u ≡ true) (sym subject) (line_asked made.before i unit reconnect exclusive password line)
  asked_by_line (actions.Query unit) a m e = other_line (actions.Query unit) functions.Query functions.Login a (λ f. (let no : Some functions.Query ≡ Some functions.Login = f in cc)) (omega arith) refl e
  asked_by_line actions.Reconnect a m e = other_line actions.Reconnect functions.Reconnect functions.Login a (λ f. (let no : Some functions.Reconnect ≡ Some functions.Login = f in cc)) (omega arith) refl e
  asked_by_line actions.Logout a m e = other_line actions.Logout functions.Logout functions.Login a (λ f. (let no : Some functions.Logout ≡ Some functions.Login = f in cc)) (omega arith) refl e
  asked_by_line (actions.Abort k) a m e = other_line (actions.Abort k) functions.Abort functions.Login a (λ f. (let no : Some functions.Abort ≡ Some functions.Login = f in cc)) (omega arith) refl e
  asked_by_line actions.AbortSet a m e = other_line actions.AbortSet functions.AbortSet functions.Login a (λ f. (let no : Some functions.AbortSet ≡ Some functions.Login = f in cc)) (omega arith) refl e
  asked_by_line actions.UnitReset a m e = other_line actions.UnitReset functions.UnitReset functions.Login a (λ f. (let no : Some functions.UnitReset ≡ Some functions.Login = f in cc)) (omega arith) refl e
  asked_by_line actions.TargetReset a m e = other_line actions.TargetReset functions.TargetReset functions.Login a (λ f. (let no : Some functions.TargetReset ≡ Some functions.Login = f in cc)) (omega arith) refl e
  asked_by_line _ a m e = untrue m

  -- one of a reconnect names the login of its initiator's host
  back_by_line : (action : Action) → made.action ≡ action → manages (operation_of action) ≡ true → function_of orb.function ≡ Some functions.Reconnect → orb.subject ≡ (host_at made.before i).login.login
  back_by_line (actions.Login unit reconnect exclusive password) a m e = other_line (actions.Login unit reconnect exclusive password) functions.Login functions.Reconnect a (λ f. (let no : Some functions.Login ≡ Some functions.Reconnect = f in cc)) (omega arith) refl e
  back_by_line (actions.Query unit) a m e = other_line (actions.Query unit) functions.Query functions.Reconnect a (λ f. (let no : Some functions.Query ≡ Some functions.Reconnect = f in cc)) (omega arith) refl e
  back_by_line actions.Reconnect a m e = subject_made ∙ ap (λ x. (spelled x).subject) a
  back_by_line actions.Logout a m e = other_line actions.Logout functions.Logout functions.Reconnect a (λ f. (let no : Some functions.Logout ≡ Some functions.Reconnect = f in cc)) (omega arith) refl e
  back_by_line (actions.Abort k) a m e = other_line (actions.Abort k) functions.Abort functions.Reconnect a (λ f. (let no : Some functions.Abort ≡ Some functions.Reconnect = f in cc)) (omega arith) refl e
  back_by_line actions.AbortSet a m e = other_line actions.AbortSet functions.AbortSet functions.Reconnect a (λ f. (let no : Some functions.AbortSet ≡ Some functions.Reconnect = f in cc)) (omega arith) refl e
  back_by_line actions.UnitReset a m e = other_line actions.UnitReset functions.UnitReset functions.Reconnect a (λ f. (let no : Some functions.UnitReset ≡ Some functions.Reconnect = f in cc)) (omega arith) refl e
  back_by_line actions.TargetReset a m e = other_line actions.TargetReset functions.TargetReset functions.Reconnect a (λ f. (let no : Some functions.TargetReset ≡ Some functions.Reconnect = f in cc)) (omega arith) refl e
  back_by_line _ a m e = untrue m

  pub reconnect_made : function_of orb.function ≡ Some functions.Reconnect → orb.subject ≡ (host_at made.before i).login.login
  reconnect_made e = back_by_line made.action refl made.manages e

  -- one of an abort is of a line that aborts
  abort_by_line : (action : Action) → made.action ≡ action → manages (operation_of action) ≡ true → function_of orb.function ≡ Some functions.Abort → (k : ℕ) × (made.action ≡ actions.Abort k)
  abort_by_line (actions.Login unit reconnect exclusive password) a m e = other_line (actions.Login unit reconnect exclusive password) functions.Login functions.Abort a (λ f. (let no : Some functions.Login ≡ Some functions.Abort = f in cc)) (omega arith) refl e
  abort_by_line (actions.Query unit) a m e = other_line (actions.Query unit) functions.Query functions.Abort a (λ f. (let no : Some functions.Query ≡ Some functions.Abort = f in cc)) (omega arith) refl e
  abort_by_line actions.Reconnect a m e = other_line actions.Reconnect functions.Reconnect functions.Abort a (λ f. (let no : Some functions.Reconnect ≡ Some functions.Abort = f in cc)) (omega arith) refl e
  abort_by_line actions.Logout a m e = other_line actions.Logout functions.Logout functions.Abort a (λ f. (let no : Some functions.Logout ≡ Some functions.Abort = f in cc)) (omega arith) refl e
  abort_by_line (actions.Abort k) a m e = (k, a)
  abort_by_line actions.AbortSet a m e = other_line actions.AbortSet functions.AbortSet functions.Abort a (λ f. (let no : Some functions.AbortSet ≡ Some functions.Abort = f in cc)) (omega arith) refl e
  abort_by_line actions.UnitReset a m e = other_line actions.UnitReset functions.UnitReset functions.Abort a (λ f. (let no : Some functions.UnitReset ≡ Some functions.Abort = f in cc)) (omega arith) refl e
  abort_by_line actions.TargetReset a m e = other_line actions.TargetReset functions.TargetReset functions.Abort a (λ f. (let no : Some functions.TargetReset ≡ Some functions.Abort = f in cc)) (omega arith) refl e
  abort_by_line _ a m e = untrue m

  pub abort_made : function_of orb.function ≡ Some functions.Abort → (k : ℕ) × (made.action ≡ actions.Abort k)
  abort_made e = abort_by_line made.action refl made.manages e

  -- of a login
  pub unit_asked : function_of orb.function ≡ Some functions.Login → is_asked_unit past i orb.subject ≡ true
  unit_asked e = subst (λ ms. is_asked_unit ms i orb.subject ≡ true) made.is (more_asked made.later made.before i orb.subject (asked_by_line made.action refl made.manages e))
