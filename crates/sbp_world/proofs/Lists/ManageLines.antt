-- What an initiator writes is as the management of the target takes it, where each write of the address of a management ORB is sent in the line of such an operation.
use Rattle.sbp_world.proofs.Words.Std.{arith, ◌≡◌, ◌∙◌, refl, sym, ap, ℕ, ◌+◌, ◌*◌, ◌%◌, ◌^◌, ◌≤◌, ◌<◌, Bool, true, List, [], ◌∷◌, ◌++◌, map, length, Option, Some, None, big_bytes}
use Rattle.sbp_world.proofs.Words.Wire.{rcode_of, Access, Moment, asked, said, Sending, Owed, terms, Action}
use Rattle.sbp_world.proofs.Words.Target.{Disk, Told}
use Rattle.sbp_world.proofs.Words.Initiator.{start_of, offset_at, new_state}
use Rattle.sbp_world.proofs.Words.Laws.{host_at, operation_of, access_in_bytes, EachMoment, event_of}
use Rattle.sbp_world.proofs.Words.World.{history_of, Run, after, beginning, MayAll, after_all, begun, IsRun, more_deliveries, managed_write, manages, IsAsking, IsAtAgent, IsCalm, OpenBefore, OpenBetween}
use Rattle.bus_memory.specs.declared.window.Window.TheVariants as windows
use Rattle.sbp_journal.specs.declared.event.Event.TheVariants as events
use Rattle.sbp_journal.specs.declared.note.Note.TheVariants as notes
use Rattle.sbp_world.proofs.Hosts.Carried.{between_runs, of_runs}
use Rattle.sbp_world.proofs.Hosts.Hosted.{first_cored}
use Rattle.sbp_world.proofs.Lists.ManageGot.{writing_in}
use Rattle.sbp_world.proofs.Lists.ManageKnown.{RestGot, RestSent}
use Rattle.sbp_world.proofs.Lists.ManageLaws.{LeftAt, RestLaw}
use Rattle.sbp_world.proofs.Lists.ManageSends.{sent_is, sent_terms}
use Rattle.sbp_world.proofs.Lists.ManageSent.{IsRefusing}
use Rattle.sbp_world.proofs.Lists.ManageTerms.{same_some}
use Rattle.sbp_world.proofs.Lists.ManageWrites.{Wrote, WroteAt, spells_known, wrote_carried}

-- the line is an action that begins an operation of management
pub record IsManagingLine (past : List Moment) (i : ℕ) : Type 0 where
  pub action : Action
  pub line : event_of past ≡ Some (events.Act i action)
  pub manages_it : manages (operation_of action) ≡ true

pub record OpenSent (start : List Disk) (past : List Moment) (i serial generation from to : ℕ) (bytes : List ℕ) : Type 0 where
  pub refused : (owed : Owed) → (terms past).owes ≡ Some owed → owed.cause ≡ None → IsAtAgent past owed.serial → (asking : Sending) → (terms past).sent owed.serial ≡ Some asking → asking.to ≡ 0 → rcode_of bytes ≡ 4 → IsRefusing start past
  pub acts : (place : ℕ) → IsAsking (said (notes.Sent serial generation from to bytes) ∷ past) i serial place → IsManagingLine past i

-- what is left to know of a moment then
abbrev pub OpenAt : List Disk → ℕ → Moment → List Moment → Type 0
OpenAt start i (said (notes.Sent serial generation from to bytes)) past = OpenSent start past i serial generation from to bytes
OpenAt start i (said (notes.Got serial)) past = RestGot start past i serial
OpenAt start i (said notes.Tick) past = (terms past).owes ≡ None
OpenAt start i moment past = Unit {0}

pub record OpenLaw : Type 0 where
  pub after_lines : (line : ℕ) (run : Run) → IsRun run → 0 < run.units → run.units ≤ 4 → length run.start.disks ≡ run.units → OpenBefore line run run.entries → (i : ℕ) → i < run.initiators → IsCalm (history_of line run) i → EachMoment (OpenAt run.start.disks i) (history_of line run)
  pub between : (line : ℕ) (run : Run) → IsRun run → 0 < run.units → run.units ≤ 4 → length run.start.disks ≡ run.units → (next : ℕ) (most : Option ℕ) (told : List (Option Told)) → MayAll told (begun (after (beginning run) run.entries)) → OpenBetween line run next (more_deliveries most) told → (i : ℕ) → i < run.initiators → (let w = (after_all told (begun (after (beginning run) run.entries))).world in let now = map said w.fresh ++ asked next (more_deliveries most) ∷ history_of line run in IsCalm now i → EachMoment (OpenAt run.start.disks i) now)

-- ---- the place that a write names

pub eight_at : (x : ℕ) → x < 2 ^ 32 → offset_at (big_bytes 8 x) 0 ≡ x
eight_at x small =
    let bytes = big_bytes 8 x in
    let place : offset_at bytes 0 ≡ x = omega arith in
    place

one_place : (n m : ℕ) → 0x1200_0000 + 0x20 * n ≡ 0x1200_0000 + 0x20 * m → m ≡ n
one_place n m e = omega (arith, e)

named_place : (access : Access) (offset n place : ℕ) → access ≡ managed_write offset n → n < 2 → offset_at access.payload 0 ≡ start_of (windows.Management place) → place ≡ n
named_place access offset n place e small f =
    one_place n place (sym (eight_at (start_of (windows.Management n)) (omega (arith, small))) ∙ ap (λ (a : Access). offset_at a.payload 0) (sym e) ∙ f)

module _ (start : List Disk) (i : ℕ) where
  sent_known : (serial generation from to : ℕ) (bytes : List ℕ) (past : List Moment) → WroteAt i (said (notes.Sent serial generation from to bytes)) past → OpenSent start past i serial generation from to bytes → RestSent start past i serial generation from to bytes
  sent_known serial generation from to bytes past w k = record {
    refused = k.refused;
    acts = λ place a.
        let q : Sending = record { generation = generation; from = from; to = to; bytes = bytes; injected = (terms past).injected serial } in
        let same : q ≡ a.packet = sent_is serial q a.packet (terms past).sent (sym (ap (λ (g : ℕ → Option Sending). g serial) (sent_terms serial q (terms past)).sent) ∙ a.sent) in
        let l = k.acts place a in
        let p = w (ap (λ (x : Sending). x.from) same ∙ a.from_is) (ap (λ (x : Sending). x.injected) same ∙ a.honest) l.action l.line l.manages_it in
        let access : a.access ≡ managed_write p.offset ((host_at past i).writes % 2) = same_some _ _ (sym a.spelled ∙ ap (λ (x : Sending). access_in_bytes x.bytes) (sym same) ∙ p.spelled) in
        record {
          action = l.action;
          line = l.line;
          manages_it = l.manages_it;
          place_is = named_place a.access p.offset ((host_at past i).writes % 2) place access (let x : (host_at past i).writes % 2 < 2 = omega arith in x) a.names;
        };
    written = λ f injected action line m. (let p = w f injected action line m in writing_in bytes (managed_write p.offset ((host_at past i).writes % 2)) p.spelled refl);
  }

  moments_known : (past : List Moment) → EachMoment (WroteAt i) past → EachMoment (OpenAt start i) past → EachMoment (LeftAt start i) past
  moments_known [] w h = tt
  moments_known (said (notes.Sent serial generation from to bytes) ∷ past) w h = (sent_known serial generation from to bytes past w.0 h.0, moments_known past w.1 h.1)
  moments_known (said (notes.Got serial) ∷ past) w h = (h.0, moments_known past w.1 h.1)
  moments_known (said notes.Tick ∷ past) w h = (h.0, moments_known past w.1 h.1)
  moments_known (asked line event ∷ past) w h = (tt, moments_known past w.1 h.1)
  moments_known (said note ∷ past) w h = (tt, moments_known past w.1 h.1)

pub first_wrote : (line initiators : ℕ) (ready : Bool) (i : ℕ) → i < initiators → Wrote ready (said (notes.Begin initiators ready) ∷ asked line (events.Begin initiators ready) ∷ []) i (new_state i ready)
first_wrote line initiators ready i b = record { cored = first_cored line i initiators ready b; kept = (tt, (tt, tt)) }

pub rest_law : OpenLaw → RestLaw
rest_law law = record {
  after_lines = λ line run r u v d o i b calm.
      moments_known run.start.disks i (history_of line run)
      (of_runs (Wrote run.ready) (wrote_carried run.ready) line run (spells_known line run) (λ j c. first_wrote line run.initiators run.ready j c) r i b).kept
      (law.after_lines line run r u v d o i b calm);
  between = λ line run r u v d next most told m o i b calm.
      (let w = (after_all told (begun (after (beginning run) run.entries))).world in
      moments_known run.start.disks i (map said w.fresh ++ asked next (more_deliveries most) ∷ history_of line run)
      (between_runs (Wrote run.ready) (wrote_carried run.ready) line run (spells_known line run) (λ j c. first_wrote line run.initiators run.ready j c) r next most told m i b).kept
      (law.between line run r u v d next most told m o i b calm));
}
