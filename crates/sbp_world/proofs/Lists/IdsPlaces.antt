-- Each management ORB of a reconnect that stood in a place of an initiator is of an ID of the initiator, or of none: where the login of its host was so.
use Rattle.sbp_world.proofs.Words.Std.{arith, ◌≡◌, ◌∙◌, refl, sym, ap, subst, ℕ, suc, ◌+◌, ◌%◌, ◌^◌, ◌<◌, ◌==◌, ◌&&◌, Bool, true, false, cond, List, [], ◌∷◌, ◌++◌, Option, Some, None, append_assoc, ◌⊎◌}
use Rattle.sbp_world.proofs.Words.Wire.{Moment, asked, said, Action, Event}
use Rattle.sbp_world.proofs.Words.Target.{function_of, Disk}
use Rattle.sbp_world.proofs.Words.Initiator.{ManagementOrb, management_bytes, management_orb}
use Rattle.sbp_world.proofs.Words.Laws.{Host, host_at, operation_of, is_own, management_orb_of, place_held, place_written, event_of}
use Rattle.sbp_world.proofs.Words.World.{manages, AreShort, IsShortAction, HasOwn, OwnBy}
use Rattle.mgmt_agent.specs.declared.function.Function.TheVariants as functions
use Rattle.sbp_journal.specs.declared.event.Action.TheVariants as actions
use Rattle.sbp_journal.specs.declared.event.Event.TheVariants as events
use Rattle.sbp_journal.specs.declared.note.Note.TheVariants as notes
use Rattle.sbp_world.proofs.Lists.OrbsShort.{event_short, login_small, orb_short}
use Rattle.sbp_world.proofs.Lists.OwnPlaces.{own_manages, function_back}
use Rattle.sbp_world.proofs.Common.{untrue, and_first}

-- ---- as it is read back
subject_back : (o : ManagementOrb) → o.subject < 2 ^ 16 → (management_orb (management_bytes o)).subject ≡ o.subject
subject_back o small = omega arith

-- ---- in a history
module _ (start : List Disk) (final : List Moment) (i : ℕ) where
  abbrev pub IsOwnOrb : ManagementOrb → Type 0
  IsOwnOrb o = function_of o.function ≡ Some functions.Reconnect → OwnBy start final i o.subject ⊎ (o.subject ≡ 0)

  record IsNamed (o : ManagementOrb) : Type 0 where
    pub small : o.function < 2 ^ 4
    pub own : IsOwnOrb o

  named_own : (o : ManagementOrb) → o.subject < 2 ^ 16 → IsNamed o → IsOwnOrb (management_orb (management_bytes o))
  named_own o subject n e = subst (λ k. OwnBy start final i k ⊎ (k ≡ 0)) (sym (subject_back o subject)) (n.own (ap function_of (sym (function_back o subject n.small)) ∙ e))

  named : (action : Action) (past : List Moment) (host : Host) (place : ℕ) → HasOwn start final i host.login → manages (operation_of action) ≡ true → IsNamed (management_orb_of action past i host place)
  named (actions.Login unit reconnect exclusive password) past host place own m = record { small = omega arith; own = λ e. absurd (let no : Some functions.Login ≡ Some functions.Reconnect = e in cc) }
  named (actions.Query unit) past host place own m = record { small = omega arith; own = λ e. absurd (let no : Some functions.Query ≡ Some functions.Reconnect = e in cc) }
  named actions.Reconnect past host place own m = record { small = omega arith; own = λ e. own }
  named actions.Logout past host place own m = record { small = omega arith; own = λ e. absurd (let no : Some functions.Logout ≡ Some functions.Reconnect = e in cc) }
  named (actions.Abort k) past host place own m = record { small = omega arith; own = λ e. absurd (let no : Some functions.Abort ≡ Some functions.Reconnect = e in cc) }
  named actions.AbortSet past host place own m = record { small = omega arith; own = λ e. absurd (let no : Some functions.AbortSet ≡ Some functions.Reconnect = e in cc) }
  named actions.UnitReset past host place own m = record { small = omega arith; own = λ e. absurd (let no : Some functions.UnitReset ≡ Some functions.Reconnect = e in cc) }
  named actions.TargetReset past host place own m = record { small = omega arith; own = λ e. absurd (let no : Some functions.TargetReset ≡ Some functions.Reconnect = e in cc) }
  named _ past host place own m = untrue m

  abbrev pub IfOwnOrb : Option ManagementOrb → Type 0
  IfOwnOrb None = Unit {0}
  IfOwnOrb (Some one) = IsOwnOrb (management_orb (management_bytes one))

  pick : (b : Bool) (x y : Option ManagementOrb) → (b ≡ true → IfOwnOrb x) → IfOwnOrb y → IfOwnOrb (cond b x y)
  pick true x y h k = h refl
  pick false x y h k = k

  module _ (m : ℕ) (few_nodes : i + 1 < 2 ^ 16) (hosts : (later earlier : List Moment) → later ++ earlier ≡ final → HasOwn start final i (host_at earlier i).login) where
    module _ (past : List Moment) (shorts : AreShort past) (before : Option ManagementOrb) (h : IfOwnOrb before) (own : HasOwn start final i (host_at past i).login) where
      acted : (j : ℕ) (action : Action) → event_of past ≡ Some (events.Act j action) → is_own i j (operation_of action) ≡ true → IfOwnOrb (Some (management_orb_of action past i (host_at past i) m))
      acted j action line e =
          let x = own_manages i j (operation_of action) e in
          let own_line : event_of past ≡ Some (events.Act i action) = line ∙ ap (λ n. Some (events.Act n action)) x.0 in
          let short : IsShortAction action = event_short past (events.Act i action) shorts own_line in
          named_own (management_orb_of action past i (host_at past i) m) (orb_short action past i (host_at past i) m short (login_small past i few_nodes)) (named action past (host_at past i) m own x.1)

      written : (event : Option Event) → event_of past ≡ event → IfOwnOrb (place_written event past i m before)
      written (Some (events.Act j action)) e =
          pick (is_own i j (operation_of action) && ((host_at past i).writes % 2 == m)) (Some (management_orb_of action past i (host_at past i) m)) before
          (λ b. acted j action e (and_first (is_own i j (operation_of action)) _ b)) h
      written event e = h

    pub held_own : (past later : List Moment) → later ++ past ≡ final → AreShort past → IfOwnOrb (place_held past i m)
    held_own [] later is shorts = tt
    held_own (said (notes.Sent serial generation (suc j) to bytes) ∷ past) later is shorts =
        let there = append_assoc later (said (notes.Sent serial generation (suc j) to bytes) ∷ []) past ∙ is in
        let h = held_own past (later ++ said (notes.Sent serial generation (suc j) to bytes) ∷ []) there shorts in
        pick (j == i) (place_written (event_of past) past i m (place_held past i m)) (place_held past i m)
        (λ b. written past shorts (place_held past i m) h (hosts (later ++ said (notes.Sent serial generation (suc j) to bytes) ∷ []) past there) (event_of past) refl) h
    held_own (said note ∷ past) later is shorts = held_own past (later ++ said note ∷ []) (append_assoc later (said note ∷ []) past ∙ is) shorts
    held_own (asked line event ∷ past) later is shorts = held_own past (later ++ asked line event ∷ []) (append_assoc later (asked line event ∷ []) past ∙ is) shorts.1
