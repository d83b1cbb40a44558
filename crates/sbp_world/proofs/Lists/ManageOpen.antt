-- In every run one management operation of an initiator is in hand at a time, where each status block of a management ORB that an initiator gets in an open FIFO is one that the target tells: that
-- is all that is left to know of a moment.
use Rattle.sbp_world.proofs.Words.Std.{◌≡◌, ◌∙◌, sym, ap, subst, ℕ, ◌≤◌, ◌<◌, List, [], ◌∷◌, ◌++◌, map, length, Option, Some, None}
use Rattle.sbp_world.proofs.Words.Wire.{rcode_of, AreAnswered, IsOwed, IsSentFor, Moment, asked, said, Kind, Sending, request, response, writing, Owed, terms}
use Rattle.sbp_world.proofs.Words.Target.{Disk, Told}
use Rattle.sbp_world.proofs.Words.Laws.{access_in, access_in_bytes, packet_in, EachMoment}
use Rattle.sbp_world.proofs.Words.World.{history_of, Run, after, beginning, MayAll, after_all, begun, IsRun, more_deliveries, MayAsk, MayStand, IsAtAgent, IsCalm, OpenBefore, OpenBetween}
use Rattle.sbp_journal.specs.declared.note.Note.TheVariants as notes
use Rattle.sbp_world.proofs.Pointers.Proved.{moments_law, writes_law}
use Rattle.sbp_world.proofs.Lists.ManageAnswers.{serves_write}
use Rattle.sbp_world.proofs.Lists.ManageAsked.{asking_line}
use Rattle.sbp_world.proofs.Lists.ManageCodes.{answers_write}
use Rattle.sbp_world.proofs.Lists.ManageGot.{writing_in}
use Rattle.sbp_world.proofs.Lists.ManageKnown.{OfWire, RestGot, before_it}
use Rattle.sbp_world.proofs.Lists.ManageLaws.{known_after, known_between}
use Rattle.sbp_world.proofs.Lists.ManageLines.{OpenAt, OpenLaw, OpenSent}
use Rattle.sbp_world.proofs.Lists.ManagePasses.{found_after, found_between}
use Rattle.sbp_world.proofs.Lists.ManageSent.{IsRefusing}
use Rattle.sbp_world.proofs.Lists.ManageTells.{AreFound, FoundAt}
use Rattle.sbp_world.proofs.Lists.ManageTerms.{same_some}

-- of a packet that is got
abbrev pub GotAt : List Disk → ℕ → Moment → List Moment → Type 0
GotAt start i (said (notes.Got serial)) past = RestGot start past i serial
GotAt start i moment past = Unit {0}

pub record GotLaw : Type 0 where
  pub after_lines : (line : ℕ) (run : Run) → IsRun run → 0 < run.units → run.units ≤ 4 → length run.start.disks ≡ run.units → OpenBefore line run run.entries → (i : ℕ) → i < run.initiators → IsCalm (history_of line run) i → EachMoment (GotAt run.start.disks i) (history_of line run)
  pub between : (line : ℕ) (run : Run) → IsRun run → 0 < run.units → run.units ≤ 4 → length run.start.disks ≡ run.units → (next : ℕ) (most : Option ℕ) (told : List (Option Told)) → MayAll told (begun (after (beginning run) run.entries)) → OpenBetween line run next (more_deliveries most) told → (i : ℕ) → i < run.initiators → (let w = (after_all told (begun (after (beginning run) run.entries))).world in let now = map said w.fresh ++ asked next (more_deliveries most) ∷ history_of line run in IsCalm now i → EachMoment (GotAt run.start.disks i) now)

-- ---- a packet that is sent

same_kind : (label other : ℕ) (kind : Kind) → request label kind ≡ request other writing → kind ≡ writing
same_kind label other kind e = cc

module _ (start : List Disk) (i serial generation from to : ℕ) (bytes : List ℕ) (past : List Moment) (answered : AreAnswered (said (notes.Sent serial generation from to bytes) ∷ past)) (found : FoundAt start (said (notes.Sent serial generation from to bytes)) past) where
  abbrev q : Sending
  q = record { generation = generation; from = from; to = to; bytes = bytes; injected = (terms past).injected serial }

  refused_by : (owed : Owed) → (terms past).owes ≡ Some owed → owed.cause ≡ None → (a : IsAtAgent past owed.serial) (asking : Sending) → (terms past).sent owed.serial ≡ Some asking → asking.to ≡ 0 → rcode_of bytes ≡ 4 → IsOwed (terms past) owed q → IsRefusing start past
  refused_by owed e cause a asking sent to_is rcode x =
      let same : x.asking ≡ asking = same_some x.asking asking (sym x.sent ∙ sent) in
      let from_is : from ≡ 0 = x.responds.from ∙ ap (λ (p : Sending). p.to) same ∙ to_is in
      let spelled : access_in_bytes x.asking.bytes ≡ Some a.access = ap (λ (found : Option Sending). access_in (packet_in found)) (sym x.sent) ∙ a.asks in
      let w = writing_in x.asking.bytes a.access spelled (serves_write a.access a.at a.serves) in
      let kind : x.responds.kind ≡ writing = same_kind x.responds.label w.label x.responds.kind (sym x.responds.asks ∙ w.part) in
      found from_is owed e cause a asking sent to_is (answers_write bytes x.responds.label (x.responds.replies ∙ ap (λ k. response x.responds.label k) kind)) rcode

  refused : (owed : Owed) → (terms past).owes ≡ Some owed → owed.cause ≡ None → IsAtAgent past owed.serial → (asking : Sending) → (terms past).sent owed.serial ≡ Some asking → asking.to ≡ 0 → rcode_of bytes ≡ 4 → IsRefusing start past
  refused owed e cause a asking sent to_is rcode = refused_by owed e cause a asking sent to_is rcode (subst (λ owes. IsSentFor owes (terms past) q) e answered.0)

  open_sent : EachMoment (MayStand i) (said (notes.Sent serial generation from to bytes) ∷ past) → MayAsk i (said (notes.Sent serial generation from to bytes)) past → OpenSent start past i serial generation from to bytes
  open_sent stands asks = record { refused = refused; acts = λ place a. asking_line i serial generation from to bytes past stands asks place a }

-- ---- each moment

pub open_moments : (start : List Disk) (i : ℕ) (past : List Moment) → OfWire past → AreFound start past → EachMoment (MayStand i) past → EachMoment (MayAsk i) past → EachMoment (GotAt start i) past → EachMoment (OpenAt start i) past
open_moments start i [] w f s a g = tt
open_moments start i (said (notes.Sent serial generation from to bytes) ∷ past) w f s a g =
    (open_sent start i serial generation from to bytes past w.answered f.0 s a.0, open_moments start i past (before_it (said (notes.Sent serial generation from to bytes)) past w) f.1 s.1 a.1 g.1)
open_moments start i (said (notes.Got serial) ∷ past) w f s a g = (g.0, open_moments start i past (before_it (said (notes.Got serial)) past w) f.1 s.1 a.1 g.1)
open_moments start i (said notes.Tick ∷ past) w f s a g = (f.0, open_moments start i past (before_it (said notes.Tick) past w) f.1 s.1 a.1 g.1)
open_moments start i (asked line event ∷ past) w f s a g = (tt, open_moments start i past (before_it (asked line event) past w) f.1 s.1 a.1 g.1)
open_moments start i (said note ∷ past) w f s a g = (tt, open_moments start i past (before_it (said note) past w) f.1 s.1 a.1 g.1)

-- ---- of every run

pub open_law : GotLaw → OpenLaw
open_law law = record {
  after_lines = λ line run r u v d o i b calm.
      let x = known_after line run r in
      open_moments run.start.disks i (history_of line run) x.wire (found_after line run u v d r) (moments_law.after_lines line run r i b) (writes_law.after_lines line run r i b) (law.after_lines line run r u v d o i b calm);
  between = λ line run r u v d next most told m o i b calm.
      let now = map said (after_all told (begun (after (beginning run) run.entries))).world.fresh ++ asked next (more_deliveries most) ∷ history_of line run in
      let x = known_between line run r next most told m in
      open_moments run.start.disks i now x.wire (found_between line run u v d r next most told m) (moments_law.between line run r next most told m i b) (writes_law.between line run r next most told m i b) (law.between line run r u v d next most told m o i b calm);
}
