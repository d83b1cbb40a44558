-- While a login is under way, its host has asked for one more than as it was asked for; so the ORB in its place names the FIFO of the login that was asked for last.
use Rattle.sbp_world.proofs.Words.Std.{arith, ◌≡◌, ◌∙◌, inl, inr, refl, sym, ap, subst, ℕ, suc, ◌+◌, ◌-◌, ◌^◌, ◌<◌, ◌&&◌, not, nat_eq, nat_lt, Bool, true, false, cond, List, [], ◌∷◌, ◌++◌, Some}
use Rattle.sbp_world.proofs.Words.Wire.{SerialsCount, Action, Moment, asked, said, Note, part_of}
use Rattle.sbp_world.proofs.Words.Initiator.{management_orb, login_fifo}
use Rattle.sbp_world.proofs.Words.Laws.{before_sent, Host, Underway, host_at, is_management, known_host, operation_of, present_list, management_orb_of, place_bytes, place_held, ready_host, event_of}
use Rattle.sbp_world.proofs.Words.World.{AreUnderway, IsUnderway, OperationsLast, underway_orb}
use Rattle.sbp_journal.specs.declared.event.Action.TheVariants as actions
use Rattle.sbp_journal.specs.declared.note.Note.TheVariants as notes
use Rattle.sbp_journal.specs.declared.operation.Operation.TheVariants as operations
use Rattle.sbp_laws.specs.Hosts.{sent_as}
use Rattle.sbp_world.proofs.Hosts.Remaining.{remains, serials_behind}
use Rattle.sbp_world.proofs.Common.{none_is, itself}
use Rattle.sbp_world.proofs.Completing.LatestHosts.{Counts, Same, is_other, other_same, self, sent_counts}
use Rattle.sbp_world.proofs.Lists.OwnPlaces.{fifo_back}

module _ (i : ℕ) where
  -- one more than as it was asked for
  abbrev IsOneMore : List Moment → Underway → Type 0
  IsOneMore past now = (host_at past i).logins ≡ (host_at (before_sent past now.first) i).logins + 1

  abbrev AreMore : List Moment → Type 0
  AreMore past = (now : Underway) → (host_at past i).operation ≡ Some now → now.operation ≡ operations.Login → IsOneMore past now

  same_more : (m : Moment) (past : List Moment) → SerialsCount (m ∷ past) → AreUnderway past i → AreMore past → Same (host_at past i) (host_at (m ∷ past) i) → AreMore (m ∷ past)
  same_more m past c under had s now e is =
      let w = s.had now e is in
      let below = (under w.was w.is).sent in
      let before = (remains (m ∷ []) past c).before_it w.was.first below in
      s.logins ∙ (had w.was w.is w.login ∙ (ap (λ ms. (host_at ms i).logins + 1) (sym before) ∙ ap (λ f. (host_at (before_sent (m ∷ past) f) i).logins + 1) (sym w.first)))

  begins_same : (b : Bool) (host : Host) → (now : Underway) → (cond b (ready_host i) host).operation ≡ Some now → cond b (ready_host i) host ≡ host
  begins_same true host now e = none_is now e
  begins_same false host now e = refl

  sent_more : (serial generation from to : ℕ) (bytes : List ℕ) (past : List Moment) → (let next = said (notes.Sent serial generation from to bytes) ∷ past in SerialsCount next → AreUnderway past i → AreMore past → Counts serial (host_at past i) (host_at next i) → AreMore next)
  sent_more serial generation from to bytes past c under had (inl s) now e is = same_more (said (notes.Sent serial generation from to bytes)) past c under had s now e is
  sent_more serial generation from to bytes past c under had (inr l) now e is =
      let first = l.first now e in
      let next = said (notes.Sent serial generation from to bytes) ∷ past in
      let before : before_sent next now.first ≡ past = ap (λ f. before_sent next f) first ∙ ap (λ b. cond b past (before_sent past serial)) (itself serial) in
      l.logins ∙ ap (λ ms. (host_at ms i).logins + 1) (sym before)

  counts_sent : (serial generation from to : ℕ) (bytes : List ℕ) (past : List Moment) → Counts serial (host_at past i) (host_at (said (notes.Sent serial generation from to bytes) ∷ past) i)
  counts_sent serial generation from to bytes past = by (nat_eq from (suc i) && not ((known_host past i).wire.injected serial))
    where
      by : (b : Bool) → Counts serial (host_at past i) (cond b (sent_as (part_of bytes) (event_of past) i (present_list past i) serial (host_at past i)) (host_at past i))
      by true = sent_counts (host_at past i) (part_of bytes) (event_of past) i (present_list past i) serial
      by false = inl (self (host_at past i))

  data Kind : Note → Type 0 where
    packet : (serial generation from to : ℕ) (bytes : List ℕ) → Kind (notes.Sent serial generation from to bytes)
    start : (initiators : ℕ) (ready : Bool) → Kind (notes.Begin initiators ready)
    other : {note : Note} → is_other note ≡ true → Kind note

  kind_of : (note : Note) → Kind note
  kind_of (notes.Sent serial generation from to bytes) = packet serial generation from to bytes
  kind_of (notes.Begin initiators ready) = start initiators ready
  kind_of _ = other refl

  note_more : (note : Note) (past : List Moment) → SerialsCount (said note ∷ past) → AreUnderway past i → AreMore past → Kind note → AreMore (said note ∷ past)
  note_more _ past c under had (packet serial generation from to bytes) = sent_more serial generation from to bytes past c under had (counts_sent serial generation from to bytes past)
  note_more _ past c under had (start initiators ready) = λ now e is.
      let same = begins_same (ready && nat_lt i initiators) (host_at past i) now e in
      same_more (said (notes.Begin initiators ready)) past c under had (subst (Same (host_at past i)) (sym same) (self (host_at past i))) now e is
  note_more note past c under had (other o) = same_more (said note) past c under had (other_same note past (known_host past i).wire i (host_at past i) o)

  pub more : (past : List Moment) → SerialsCount past → ((later before : List Moment) → later ++ before ≡ past → AreUnderway before i) → AreMore past
  more [] c under = λ now e is. none_is now e
  more (asked line event ∷ past) c under =
      same_more (asked line event) past c (under (asked line event ∷ []) past refl)
      (more past (serials_behind (asked line event) past c) (λ later before e. under (asked line event ∷ later) before (ap (λ ms. asked line event ∷ ms) e))) (self (host_at past i))
  more (said note ∷ past) c under =
      note_more note past c (under (said note ∷ []) past refl)
      (more past (serials_behind (said note) past c) (λ later before e. under (said note ∷ later) before (ap (λ ms. said note ∷ ms) e))) (kind_of note)

  -- ---- the FIFO of its ORB
  login_orb : (action : Action) (past : List Moment) (host : Host) (place : ℕ) → operation_of action ≡ Some operations.Login → (management_orb_of action past i host place).fifo ≡ login_fifo host.logins
  login_orb (actions.Login unit reconnect exclusive password) past host place e = refl
  login_orb (actions.Query unit) past host place e = absurd (let no : Some operations.Query ≡ Some operations.Login = e in cc)
  login_orb actions.Reconnect past host place e = absurd (let no : Some operations.Reconnect ≡ Some operations.Login = e in cc)
  login_orb actions.Logout past host place e = absurd (let no : Some operations.Logout ≡ Some operations.Login = e in cc)
  login_orb action past host place e = cc

  -- the ORB in the place of a login that is under way
  pub record NamesLatest (past : List Moment) (underway : Underway) : Type 0 where
    pub some : 0 < (host_at past i).logins
    pub fifo : (management_orb (place_bytes (place_held past i underway.place))).fifo ≡ login_fifo ((host_at past i).logins - 1)

  pub names_latest : (past : List Moment) → SerialsCount past → OperationsLast past i → (host_at past i).logins < 2 ^ 32 → (underway : Underway) → (host_at past i).operation ≡ Some underway → underway.operation ≡ operations.Login → NamesLatest past underway
  names_latest past c last few underway e login =
      let u : IsUnderway past i underway = last.each [] past refl underway e in
      let o = underway_orb past i underway in
      let one : IsOneMore past underway = more past c last.each underway e login in
      let was : List Moment = before_sent past underway.first in
      let own : o.fifo ≡ login_fifo (host_at was i).logins = login_orb underway.action was (host_at was i) underway.place (u.action ∙ ap (λ x. Some x) login) in
      record {
        some = omega (arith, one);
        fifo = ap (λ held. (management_orb (place_bytes held)).fifo) (u.held (ap is_management login)) ∙ (fifo_back o (omega (arith, own, one, few)) ∙ (own ∙ ap login_fifo (let n : (host_at was i).logins ≡ (host_at past i).logins - 1 = omega (arith, one) in n)));
      }
