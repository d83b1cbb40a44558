-- In every run one management operation of an initiator is in hand at a time, of what the target answers and tells and of what the initiator writes.
use Rattle.sbp_world.proofs.Words.Std.{◌≡◌, ◌∙◌, sym, subst, ℕ, ◌≤◌, ◌<◌, false, List, [], ◌∷◌, ◌++◌, map, length, Option, None}
use Rattle.sbp_world.proofs.Words.Wire.{Moment, asked, said, terms}
use Rattle.sbp_world.proofs.Words.Target.{Disk, Told}
use Rattle.sbp_world.proofs.Words.Laws.{EachMoment}
use Rattle.sbp_world.proofs.Words.World.{history_of, Run, after, beginning, MayAll, after_all, IsOfWire, Stands, WorldState, begun, IsRun, more_deliveries, IsFree, IsCalm, OpenBefore, OpenBetween}
use Rattle.sbp_journal.specs.declared.note.Note.TheVariants as notes
use Rattle.sbp_world.proofs.FitInitiator.Law.{fitting_law as own_fitting_law}
use Rattle.sbp_world.proofs.FitTarget.Law.{fitting_law}
use Rattle.sbp_world.proofs.Wire.Runs.{sound_after}
use Rattle.sbp_world.proofs.Wire.Starts.{laws_of}
use Rattle.sbp_world.proofs.Hosts.Carried.{stands_between}
use Rattle.sbp_world.proofs.Lists.ManageKnown.{OfWire, RestAt, RestGot, RestSent, before_it, hands_known}
use Rattle.sbp_world.proofs.Lists.ManageRuns.{HandsLaw, Managed, first_managed, managed_carried}
use Rattle.sbp_world.proofs.Lists.ManageWire.{WireMoments, wire_moments}
use Rattle.sbp_world.proofs.Lists.ManageYoung.{seen_free, young}
use Rattle.sbp_world.proofs.Lists.Rises.{Rises, rises}

-- ---- what is left to know of a moment

abbrev pub LeftAt : List Disk → ℕ → Moment → List Moment → Type 0
LeftAt start i (said (notes.Sent serial generation from to bytes)) past = RestSent start past i serial generation from to bytes
LeftAt start i (said (notes.Got serial)) past = RestGot start past i serial
LeftAt start i (said notes.Tick) past = (terms past).owes ≡ None
LeftAt start i moment past = Unit {0}

pub record RestLaw : Type 0 where
  pub after_lines : (line : ℕ) (run : Run) → IsRun run → 0 < run.units → run.units ≤ 4 → length run.start.disks ≡ run.units → OpenBefore line run run.entries → (i : ℕ) → i < run.initiators → IsCalm (history_of line run) i → EachMoment (LeftAt run.start.disks i) (history_of line run)
  pub between : (line : ℕ) (run : Run) → IsRun run → 0 < run.units → run.units ≤ 4 → length run.start.disks ≡ run.units → (next : ℕ) (most : Option ℕ) (told : List (Option Told)) → MayAll told (begun (after (beginning run) run.entries)) → OpenBetween line run next (more_deliveries most) told → (i : ℕ) → i < run.initiators → (let w = (after_all told (begun (after (beginning run) run.entries))).world in let now = map said w.fresh ++ asked next (more_deliveries most) ∷ history_of line run in IsCalm now i → EachMoment (LeftAt run.start.disks i) now)

abbrev IsFreeAt : List Disk → List Moment → (i node generation : ℕ) → Type 0
IsFreeAt start past i node generation = IsFree start (said (notes.Seen node generation) ∷ past) i

-- a generation that is seen
rests : (start : List Disk) (i : ℕ) (past : List Moment) → OfWire past → Rises past → EachMoment (LeftAt start i) past → EachMoment (RestAt start i) past
rests start i [] w r h = tt
rests start i (said (notes.Seen node generation) ∷ past) w r h = (
  (λ is new.
      let y = young start past i (before_it (said (notes.Seen node generation)) past w) r.1 in
      let f = w.moments.0 in
      subst (λ n. IsFreeAt start past i n generation) (sym is) (seen_free start generation past i f y (subst (λ n. (terms past).generation n ≤ generation) is r.0) new)),
  rests start i past (before_it (said (notes.Seen node generation)) past w) r.1 h.1,
)
rests start i (asked line event ∷ past) w r h = (tt, rests start i past (before_it (asked line event) past w) r.1 h.1)
rests start i (said (notes.Sent serial generation from to bytes) ∷ past) w r h = (h.0, rests start i past (before_it (said (notes.Sent serial generation from to bytes)) past w) r.1 h.1)
rests start i (said (notes.Got serial) ∷ past) w r h = (h.0, rests start i past (before_it (said (notes.Got serial)) past w) r.1 h.1)
rests start i (said notes.Tick ∷ past) w r h = (h.0, rests start i past (before_it (said notes.Tick) past w) r.1 h.1)
rests start i (said note ∷ past) w r h = (tt, rests start i past (before_it (said note) past w) r.1 h.1)

-- ---- by the wire

pub record Known (ms : List Moment) : Type 0 where
  pub wire : OfWire ms
  pub rise : Rises ms

pub known_of : (past ms : List Moment) (w : WorldState) → Stands past w → map said w.fresh ++ past ≡ ms → Known ms
known_of past ms w h e =
    let laws : IsOfWire ms = subst IsOfWire e (laws_of past w h) in
    let is : h.wire.past ≡ ms = h.is.past_is ∙ e in
    record {
      wire = record {
        serials = laws.serials;
        judged = laws.judged;
        answered = laws.answered;
        sent = laws.sent;
        moments = subst WireMoments is (wire_moments h.wire h.reached);
        fair = subst (λ x. (terms x).injects 0 ≡ false) is h.is.fair;
      };
      rise = subst Rises is (rises h.wire h.reached);
    }

pub known_after : (line : ℕ) (run : Run) → IsRun run → Known (history_of line run)
known_after line run r =
    let k = sound_after fitting_law own_fitting_law line run run.entries r.few r.short r.entries r.lines in
    known_of k.past (history_of line run) (after (beginning run) run.entries).world k.sound.stands k.is

pub known_between : (line : ℕ) (run : Run) → IsRun run → (next : ℕ) (most : Option ℕ) (told : List (Option Told)) → MayAll told (begun (after (beginning run) run.entries)) → Known (map said (after_all told (begun (after (beginning run) run.entries))).world.fresh ++ asked next (more_deliveries most) ∷ history_of line run)
known_between line run r next most told m =
    let w = (after_all told (begun (after (beginning run) run.entries))).world in
    let k = stands_between (Managed run.ready run.start.disks) (managed_carried run.ready run.start.disks) line run (λ entries few short all fit j c. tt) (λ j c. first_managed run.start.disks line run.initiators run.ready j c) r next most told m in
    known_of k.past (map said w.fresh ++ asked next (more_deliveries most) ∷ history_of line run) w k.sound.stands k.is

pub hands_law : RestLaw → HandsLaw
hands_law law = record {
  after_lines = λ line run r u v d o i b calm.
      let x = known_after line run r in
      hands_known run.start.disks i (history_of line run) calm x.wire (rests run.start.disks i (history_of line run) x.wire x.rise (law.after_lines line run r u v d o i b calm));
  between = λ line run r u v d next most told m o i b calm.
      let now = map said (after_all told (begun (after (beginning run) run.entries))).world.fresh ++ asked next (more_deliveries most) ∷ history_of line run in
      let x = known_between line run r next most told m in
      hands_known run.start.disks i now calm x.wire (rests run.start.disks i now x.wire x.rise (law.between line run r u v d next most told m o i b calm));
}
