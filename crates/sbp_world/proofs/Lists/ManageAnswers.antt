-- A packet of the target that answers a write of MANAGEMENT_AGENT with conflict_error finds an operation under way: which packets do so, by the history behind the packet that is answered.
use Rattle.sbp_world.proofs.Words.Std.{◌≡◌, ◌∙◌, refl, sym, ap, ℕ, ◌&&◌, ◌==◌, not, Bool, true, false, List, ◌∷◌, Option, Some, None, Result, Ok, unwrap_or}
use Rattle.sbp_world.proofs.Words.Wire.{PacketFault, rcode_of, tcode_of, Packet, reading, judged_note, Access, access_of, management_agent, start_at, start_serves, Moment, said, Sending, Transaction, asked_by, Owed, Terms, arrives, ignores, ignores_that, is_news, is_served, judges, judges_if, terms, Cause, Judged}
use Rattle.sbp_world.proofs.Words.Target.{Operation, Disk}
use Rattle.sbp_world.proofs.Words.Initiator.{offset_at}
use Rattle.sbp_world.proofs.Words.Laws.{access_at, access_in, access_in_bytes, answered_as, answered_at, answered_in, id_for, packet_in, sender_in, spelled_by, got_by, is_nothing, over, request_got, target_at}
use Rattle.sbp_world.proofs.Words.World.{Office, at_rest, office_of, started, started_by, IsAtAgent}
use Rattle.mgmt_agent.specs.Machine as manager
use Rattle.sbp_journal.specs.declared.cause.Cause.TheVariants as causes
use Rattle.sbp_journal.specs.declared.note.Note.TheVariants as notes
use Rattle.sbp_world.proofs.Agents.Management.Firsts.{got_here, request_keeps, served_office}
use Rattle.sbp_world.proofs.Agents.Management.Offices.{over_keeps}
use Rattle.sbp_world.proofs.Lists.ManageCalls.{IsElsewhere}
use Rattle.sbp_world.proofs.Lists.ManageCodes.{NoConflict}
use Rattle.sbp_world.proofs.Lists.ManageGot.{writing_in}
use Rattle.sbp_world.proofs.Lists.ManageOffices.{office_at}
use Rattle.sbp_world.proofs.Lists.ManageSent.{IsRefusing}
use Rattle.sbp_world.proofs.Lists.ManageTerms.{none_is, same_some}
use Rattle.sbp_world.proofs.Lists.OpenedReplies.{comes_owes}
use Rattle.sbp_world.proofs.Common.{and_first, and_second}

-- a packet with these bytes that is sent then answers no such write with conflict_error but as it finds one under way
abbrev pub IsFound : List Disk → List Moment → List ℕ → Type 0
IsFound start past bytes = (owed : Owed) → (terms past).owes ≡ Some owed → owed.cause ≡ None → IsAtAgent past owed.serial → (asking : Sending) → (terms past).sent owed.serial ≡ Some asking → asking.to ≡ 0 → tcode_of bytes ≡ 2 → rcode_of bytes ≡ 4 → IsRefusing start past

pub free_found : (start : List Disk) (past : List Moment) (bytes : List ℕ) → NoConflict bytes → IsFound start past bytes
free_found start past bytes h owed owes cause at asking sent to code rcode = absurd (h code rcode)

-- ---- what MANAGEMENT_AGENT serves is a write

pub serves_write : (access : Access) → start_at access.offset ≡ management_agent → start_serves (start_at access.offset) access ≡ true → access.is_write ≡ true
serves_write access at serves =
    let e = sym (ap (λ s. start_serves s access) at) ∙ serves in
    and_second (not access.is_lock) access.is_write
    (and_first (not access.is_lock && access.is_write) access.is_block
    (and_first (not access.is_lock && access.is_write && access.is_block) (access.count == 8) e))

-- ---- one that answers a packet which is ignored has its cause

judged_cause : (u : Option Transaction) (cause : Cause) (serial : ℕ) (q : Sending) (t : Terms) → t.owes ≡ None → (owed : Owed) → (judges u (Some cause) serial q t).owes ≡ Some owed → owed.cause ≡ None → ⊥
judged_cause None cause serial q t none owed e f = none_is owed (sym none ∙ e)
judged_cause (Some u) cause serial q t none owed e f =
    let new : Owed = record { serial = serial; cause = Some cause } in
    let same : new ≡ owed = same_some new owed e in
    none_is cause (sym f ∙ ap (λ (o : Owed). o.cause) (sym same))

judged_if_cause : (b : Bool) (u : Option Transaction) (serial : ℕ) (q : Sending) (t : Terms) → t.owes ≡ None → (owed : Owed) → (judges_if b u serial q t).owes ≡ Some owed → owed.cause ≡ None → ⊥
judged_if_cause true u serial q t none owed e f = judged_cause u causes.Grammar serial q t none owed e f
judged_if_cause false u serial q t none owed e f = none_is owed (sym none ∙ e)

ignored_cause : (cause : Cause) (serial : ℕ) (q : Sending) (t : Terms) → t.owes ≡ None → (owed : Owed) → (ignores cause serial q (arrives serial t)).owes ≡ Some owed → owed.cause ≡ None → ⊥
ignored_cause causes.Generation serial q t none owed e f = none_is owed (sym none ∙ e)
ignored_cause causes.Grammar serial q t none owed e f = judged_if_cause _ (asked_by q) serial q (is_news serial (arrives serial t)) none owed e f
ignored_cause causes.Label serial q t none owed e f = none_is owed (sym none ∙ e)
ignored_cause causes.Again serial q t none owed e f = judged_cause (asked_by q) causes.Again serial q (arrives serial t) none owed e f
ignored_cause causes.Source serial q t none owed e f = judged_cause (asked_by q) causes.Source serial q (is_news serial (arrives serial t)) none owed e f
ignored_cause causes.Login serial q t none owed e f = judged_cause (asked_by q) causes.Login serial q (is_news serial (arrives serial t)) none owed e f
ignored_cause causes.Slot serial q t none owed e f = judged_cause (asked_by q) causes.Slot serial q (is_served serial (is_news serial (arrives serial t))) none owed e f

ignored_that_cause : (so : Option Sending) (cause : Cause) (serial : ℕ) (t : Terms) → t.owes ≡ None → (owed : Owed) → (ignores_that so cause serial t).owes ≡ Some owed → owed.cause ≡ None → ⊥
ignored_that_cause None cause serial t none owed e f = none_is owed (sym none ∙ e)
ignored_that_cause (Some q) cause serial t none owed e f = ignored_cause cause serial q t none owed e f

module _ (start : List Disk) (H : List Moment) (quiet : (terms H).owes ≡ None) (serial : ℕ) (bytes : List ℕ) where
  pub ignored_found : (cause : Cause) (ms : List Moment) → terms ms ≡ terms (said (notes.Ignored serial cause) ∷ H) → IsFound start ms bytes
  ignored_found cause ms same owed owes none at asking sent to code rcode =
      absurd (ignored_that_cause ((terms H).sent serial) cause serial (terms H) quiet owed (ap (λ (t : Terms). t.owes) (sym same) ∙ owes) none)

  -- ---- what is owed is the answer to the packet that came
  module _ (q : Sending) (sent : (terms H).sent serial ≡ Some q) (p : Packet) (read : reading q.bytes ≡ Ok p) where
    spelled_is : access_in_bytes q.bytes ≡ access_of p
    spelled_is = ap (λ (r : Result Packet PacketFault). access_in (spelled_by r)) read

    asked_is : access_at (terms H) serial ≡ access_of p
    asked_is = ap (λ (found : Option Sending). access_in (packet_in found)) sent ∙ spelled_is

    module _ (judged : Judged) (ms : List Moment) (same : terms ms ≡ terms (said (judged_note serial judged) ∷ H)) where
      owed_is : (owed : Owed) → (terms ms).owes ≡ Some owed → owed.serial ≡ serial
      owed_is owed e = (comes_owes serial H judged quiet).owed owed (ap (λ (t : Terms). t.owes) (sym same) ∙ e)

      sent_same : (terms ms).sent ≡ (terms H).sent
      sent_same = ap (λ (t : Terms). t.sent) same ∙ (comes_owes serial H judged quiet).sent

      access_is : (owed : Owed) → (terms ms).owes ≡ Some owed → (a : IsAtAgent ms owed.serial) → access_of p ≡ Some a.access
      access_is owed e a =
          sym asked_is
          ∙ (ap (λ (f : ℕ → Option Sending). access_in (packet_in (f serial))) (sym sent_same)
          ∙ (ap (λ n. access_at (terms ms) n) (sym (owed_is owed e)) ∙ a.asks))

      pub elsewhere_found : IsElsewhere p → IsFound start ms bytes
      elsewhere_found n owed owes cause a asking there to code rcode = absurd (n a.access (access_is owed owes a) a.at a.serves)

    -- ---- a write that MANAGEMENT_AGENT serves, where an operation is under way
    module _ (to : q.to ≡ 0) (op : Operation) (under : (target_at start H).manager.operation ≡ Some op) (access : Access) (asks : access_of p ≡ Some access) (at : start_at access.offset ≡ management_agent) (serves : start_serves (start_at access.offset) access ≡ true) where
      abbrev now : List Moment
      now = said (notes.Got serial) ∷ H

      abbrev O : Office
      O = at_rest (office_at start H)

      abbrev source : ℕ
      source = id_for (terms H) 0 (unwrap_or (sender_in ((terms H).sent serial)) 0)

      unanswered : answered_at (terms H) serial ≡ None
      unanswered =
          let w = writing_in q.bytes access (spelled_is ∙ asks) (serves_write access at serves) in
          ap (λ so. answered_in (terms H) so) sent ∙ ap (λ part. answered_as part (terms H) q) w.part

      busy_started : (orb : ℕ) (operation : Option Operation) → operation ≡ Some op → started_by (manager.start_with operation O.manager source orb) O ≡ O
      busy_started orb None e = none_is op e
      busy_started orb (Some other) e = refl

      busy_office : (orb : ℕ) → started source orb O ≡ O
      unfolding manager.start_step
      busy_office orb = busy_started orb O.manager.operation under

      served_is : served_office (start_serves (start_at access.offset) access) (start_at access.offset) source access O ≡ started source (offset_at access.payload 0) O
      served_is = ap (λ b. served_office b (start_at access.offset) source access O) serves ∙ ap (λ s. served_office true s source access O) at

      office_now : office_at start now ≡ O
      office_now =
          ap office_of (got_here start H serial q sent to)
          ∙ ap (λ own. office_of (got_by own (terms H) serial (over (target_at start H)))) unanswered
          ∙ ap (λ found. office_of (request_got found source (over (target_at start H)))) (asked_is ∙ asks)
          ∙ request_keeps access source (over (target_at start H))
          ∙ ap (served_office (start_serves (start_at access.offset) access) (start_at access.offset) source access) (over_keeps (target_at start H))
          ∙ served_is
          ∙ busy_office (offset_at access.payload 0)

      pub refusing : IsRefusing start now
      refusing = record {
        quiet = ap (λ (o : Office). is_nothing o.asks) office_now;
        op = op;
        there = ap (λ (o : Office). o.manager.operation) office_now ∙ under;
      }
