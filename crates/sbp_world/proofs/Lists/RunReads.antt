-- A run that the target tells of is of an ORB that a response brought of the place of its ORB: that of its append.
use Rattle.sbp_world.proofs.Words.Std.{◌≡◌, ◌∙◌, sym, ap, subst, ℕ, ◌<◌, ◌==◌, ◌&&◌, is_some, nat_lt, Bool, false, List, ◌∷◌, Option, Some, None, IsSomeAnd, same_Some}
use Rattle.sbp_world.proofs.Words.Wire.{check_of, Moment, said, Cmd, Note}
use Rattle.sbp_world.proofs.Words.Target.{AgentStep, Machine, reply_step, Disk, Told, desk_at, plain_in, answer_in, heard_by}
use Rattle.sbp_world.proofs.Words.Initiator.{start_of, CommandOrb}
use Rattle.sbp_world.proofs.Words.Laws.{address_of, IsAsAppended, slot_at, Request, request_at}
use Rattle.sbp_world.proofs.Words.World.{holder, Scene, WorldState, request_of, ReadAt, RunIsRead, IsOrbOf, IsBrought}
use Rattle.bus_memory.specs.declared.window.Window.TheVariants as windows
use Rattle.sbp_journal.specs.declared.note.Note.TheVariants as notes
use Rattle.sbp_world.proofs.Agents.Management.Still.{hist}
use Rattle.sbp_world.proofs.Lists.OrbFolds.{Brings}
use Rattle.sbp_world.proofs.Lists.OrbReading.{brought_more, reads_more}
use Rattle.sbp_world.proofs.Lists.OrbSteps.{Reads, Stepped, reply_steps}
use Rattle.sbp_world.proofs.Lists.Passing.{PassAt, RunsNext}
use Rattle.sbp_world.proofs.Lists.RunFits.{WasAsked}
use Rattle.sbp_world.proofs.Lists.Runless.{IsRunBy}
use Rattle.sbp_world.proofs.Lists.RunOutcomes.{IsSet, asked_so, goes, is_open, list_is, orb_is, request_is, runs, small}
use Rattle.sbp_world.proofs.Common.{untrue}

-- the ORB of a command is as it was appended
pub as_appended : (command : Option Cmd) (request : Option Request) (slot : ℕ) (a : WasAsked command request slot) (orb : CommandOrb) → IsOrbOf command slot orb → IsAsAppended orb (request_of a.cmd)
as_appended command request slot a orb o =
    let same : o.cmd ≡ a.cmd = same_Some o.cmd a.cmd (sym o.command ∙ a.command_is) in
    record {
      command = ap (λ (x : CommandOrb). x.cdb) o.orb ∙ ap (λ (c : Cmd). c.cdb) same;
      direction = (ap (λ (x : CommandOrb). x.to_initiator) o.orb ∙ ap (λ (c : Cmd). c.to_initiator && nat_lt 0 c.length) same) ∙ a.direction;
    }

module _ (wild : ℕ → Bool) (start : List Disk) (past : List Moment) (s : Scene) (set : IsSet wild start past s) (run : Option Told) (ran : Note) (serial : ℕ) (r : IsRunBy s run serial ran) where
  abbrev pub w : WorldState
  w = s.world

  abbrev pub ms : List Moment
  ms = hist past w

  abbrev pub now : List Moment
  now = said (notes.Got serial) ∷ ms

  abbrev pub place : ℕ
  place = r.place

  abbrev pub i : ℕ
  i = (holder w place).initiator

  abbrev pub M : Machine
  M = (desk_at w.target place).agent

  abbrev pub step : AgentStep × Machine
  step = reply_step M place (plain_in w.target.units s.media.disks r.by.login.unit) run r.by.which (answer_in r.by.packet)

  pub below : place < 8
  below = small wild start past s set run ran serial r

  module _ (own : wild i ≡ false) where
    now_brings : Brings (IsBrought start now) M (record { place = place; which = r.by.which; answer = answer_in r.by.packet })
    now_brings = (set.reads i own).brings serial r.sent r.found r.to r.by.packet r.by.label place r.by.which r.by.found r.by.is_which below (set.ready.calm i own)

    had : Reads (IsBrought start now place) M
    had = reads_more (IsBrought start ms place) (IsBrought start now place) (brought_more start (said (notes.Got serial)) ms place) M ((set.reads i own).agents place below (is_open wild start past s set run ran serial r))

    stepped : Stepped (IsBrought start now place) step
    stepped =
        reply_steps (IsBrought start now place) M place (plain_in w.target.units s.media.disks r.by.login.unit) run r.by.which (answer_in r.by.packet) had now_brings.main now_brings.ahead

    brought : IsBrought start now place step.1.present step.1.orb
    brought = stepped.ran (ap is_some r.by.ran)

    pub not_dummy : step.1.orb.format ≡ 3 → ⊥
    not_dummy e = untrue (sym (runs wild start past s set run ran serial r own).proper ∙ ap (λ n. n == 3) e)

    module _ (n number : ℕ) (next : RunsNext now i n number r.cdb r.payload) where
      pub present_is : step.1.present ≡ address_of now i n number
      present_is =
          (runs wild start past s set run ran serial r own).turn.place
          ∙ (ap (λ x. start_of (windows.Orb (slot_at ms i x (heard_by r.by.which M (answer_in r.by.packet) (goes wild start past s set run ran serial r own).progress).ended))) (list_is wild start past s set run ran serial r own n number next)
          ∙ ap (λ x. start_of (windows.Orb (slot_at ms i n x))) (orb_is wild start past s set run ran serial r own n number next))

      pub appended : IsSomeAnd (request_at now i n number) (λ request. IsAsAppended step.1.orb request)
      appended =
          let a = asked_so wild start past s set run ran serial r own in
          subst (λ x. IsSomeAnd x (λ request. IsAsAppended step.1.orb request)) (sym (request_is wild start past s set run ran serial r own n number next))
          (as_appended _ _ _ a step.1.orb (runs wild start past s set run ran serial r own).good.own)

      run_read : RunIsRead start now i n number r.cdb
      run_read = record {
        place = place;
        orb = step.1.orb;
        brought = subst (λ x. IsBrought start now place x step.1.orb) present_is brought;
        not_dummy = not_dummy;
        as_appended = appended;
        command = r.by.cdb_is;
      }

  abbrev note_of : Option ℕ → Option ℕ → Note
  note_of list number = notes.Ran i list number (holder w place).unit r.cdb r.payload (check_of r.outcome)

  by_names : (list number : Option ℕ) → PassAt wild (said (note_of list number)) now → ReadAt wild start (said (note_of list number)) now
  by_names None number p = tt
  by_names (Some n) None p = tt
  by_names (Some n) (Some number) p = λ own. run_read own n number (p own)

  pub read_so : PassAt wild (said ran) now → ReadAt wild start (said ran) now
  read_so = subst (λ note. PassAt wild (said note) now → ReadAt wild start (said note) now) (sym r.is) (by_names r.list r.number)
