-- In every run in which no initiator injected packets, or few logins were given, the ORB of each run, and of each end but with the status failed, of an initiator that injected none, was read as the carried law
-- says: behind its append, while its list was open.
use Rattle.sbp_world.proofs.Words.Std.{◌≡◌, ◌∙◌, sym, ap, subst, ℕ, Bool, false, List, [], ◌∷◌, ◌++◌, map, Option, Some, None, IsSomeAnd}
use Rattle.sbp_world.proofs.Words.Wire.{Moment, asked, said, Note}
use Rattle.sbp_world.proofs.Words.Target.{Disk}
use Rattle.sbp_world.proofs.Words.Initiator.{CommandOrb, StatusKind}
use Rattle.sbp_world.proofs.Words.Laws.{EndIsCarried, IsAsAppended, MatchesStatus, injectors, request_at, EachMoment, OrderLaw}
use Rattle.sbp_world.proofs.Words.World.{history_of, after, beginning, after_all, begun, more_deliveries, EndIsCarriedAt, RunWasRead, RunWasReadAt, WereRead, WereReadLaw, OpenListsLaw, EndIsNamed, RunIsNamed, SentAsGot, IsCalm, OneUpLaw}
use Rattle.orb_layout.specs.declared.status.StatusKind.TheVariants as kinds
use Rattle.sbp_journal.specs.declared.note.Note.TheVariants as notes
use Rattle.sbp_world.proofs.Lists.Calm.{calm_before}
use Rattle.sbp_world.proofs.Lists.Fair.{Told, told_before, told_everywhere}
use Rattle.sbp_world.proofs.Lists.Courses.{more_than_one}
use Rattle.sbp_world.proofs.Lists.Executes.{NamedEnd, NamedRun, OpensBeside, ends_named, opens_before, runs_named}
use Rattle.sbp_world.proofs.Lists.ListsProved.{closing}
use Rattle.sbp_world.proofs.Lists.NamedReads.{named_read, named_read_by}
use Rattle.sbp_world.proofs.Lists.RunLaws.{order_run_law}
use Rattle.sbp_world.proofs.Lists.SentGots.{sent_as_got}
use Rattle.sbp_world.proofs.Lists.OpenGots.{OpenAsGot, open_as_got}

module _ (wild : ℕ → Bool) (start : List Disk) (past : List Moment) (f : Told past) (sent : EachMoment (SentAsGot start) past) (opens : OpenAsGot start past) (law : OrderLaw wild past) where
  -- ---- the ORBs that end
  end_read : (i n k : ℕ) (status : StatusKind) → IsCalm past i → EndIsNamed start past i n k status → EndIsCarried start past i n k status
  end_read i n k status calm e =
      let x = named_read start past e.place i n k e.orb e.named (record { initiator = e.initiator; list = e.list; number = e.number }) e.small f.counts calm f.fair f.answers sent opens wild law in
      record {
        read = x.read;
        matches = subst (λ (orb : CommandOrb). IsSomeAnd (request_at past i n k) (λ request. MatchesStatus status orb request)) (sym x.spells) e.matches;
      }

  -- ---- the ORBs that run
  pub run_read : (i n k : ℕ) → IsCalm past i → RunIsNamed start past i n k → RunWasRead start past i n k
  run_read i n k calm e =
      let x = named_read start past e.place i n k e.orb e.named (record { initiator = e.initiator; list = e.list; number = e.number }) e.small f.counts calm f.fair f.answers sent opens wild law in
      record {
        read = x.read;
        not_dummy = λ y. e.not_dummy (ap (λ (orb : CommandOrb). orb.format) (sym x.spells) ∙ y);
        as_appended = subst (λ (orb : CommandOrb). IsSomeAnd (request_at past i n k) (λ request. IsAsAppended orb request)) (sym x.spells) e.as_appended;
      }

  pub run_read_by : (i n k : ℕ) (calm : IsCalm past i) (e : RunIsNamed start past i n k) → (run_read i n k calm e).read.response ≡ e.named.brought.response
  unfolding run_read
  run_read_by i n k calm e =
      named_read_by start past e.place i n k e.orb e.named (record { initiator = e.initiator; list = e.list; number = e.number }) e.small f.counts calm f.fair f.answers sent opens wild law

  -- ---- at a moment
  module _ (so : OpensBeside past) (calm : (i : ℕ) → wild i ≡ false → IsCalm past i) where
    by_status : (i n k : ℕ) (status : StatusKind) → NamedEnd wild start (said (notes.Ended i (Some n) (Some k) status)) past → EndIsCarriedAt wild start (said (notes.Ended i (Some n) (Some k) status)) past
    by_status i n k kinds.Failed e = tt
    by_status i n k kinds.Good e = λ own. end_read i n k kinds.Good (calm i own) (e so own)
    by_status i n k (kinds.Check sense) e = λ own. end_read i n k (kinds.Check sense) (calm i own) (e so own)
    by_status i n k kinds.Dummy e = λ own. end_read i n k kinds.Dummy (calm i own) (e so own)
    by_status i n k kinds.Aborted e = λ own. end_read i n k kinds.Aborted (calm i own) (e so own)
    by_status i n k (kinds.Illegal meaning) e = λ own. end_read i n k (kinds.Illegal meaning) (calm i own) (e so own)
    by_status i n k (kinds.Management meaning) e = λ own. end_read i n k (kinds.Management meaning) (calm i own) (e so own)

    ended_by : (i : ℕ) (list number : Option ℕ) (status : StatusKind) → NamedEnd wild start (said (notes.Ended i list number status)) past → EndIsCarriedAt wild start (said (notes.Ended i list number status)) past
    ended_by i (Some n) (Some k) status e = by_status i n k status e
    ended_by i (Some n) None status e = tt
    ended_by i None number status e = tt

    note_read : (note : Note) → NamedEnd wild start (said note) past → EndIsCarriedAt wild start (said note) past
    note_read (notes.Ended i list number status) e = ended_by i list number status e
    note_read note e = tt

    end_moment : (m : Moment) → NamedEnd wild start m past → EndIsCarriedAt wild start m past
    end_moment (asked line event) e = tt
    end_moment (said note) e = note_read note e

    ran_by : (i : ℕ) (list number : Option ℕ) (unit : ℕ) (cdb bytes : List ℕ) (check : _) → NamedRun wild start (said (notes.Ran i list number unit cdb bytes check)) past → RunWasReadAt wild start (said (notes.Ran i list number unit cdb bytes check)) past
    ran_by i (Some n) (Some k) unit cdb bytes check e = λ own. run_read i n k (calm i own) (e so own).named
    ran_by i (Some n) None unit cdb bytes check e = tt
    ran_by i None number unit cdb bytes check e = tt

    run_note : (note : Note) → NamedRun wild start (said note) past → RunWasReadAt wild start (said note) past
    run_note (notes.Ran i list number unit cdb bytes check) e = ran_by i list number unit cdb bytes check e
    run_note note e = tt

    run_moment : (m : Moment) → NamedRun wild start m past → RunWasReadAt wild start m past
    run_moment (asked line event) e = tt
    run_moment (said note) e = run_note note e

-- ---- at each moment
module _ (wild : ℕ → Bool) (start : List Disk) where
  all_read : (past : List Moment) → OpensBeside past → ((i : ℕ) → wild i ≡ false → IsCalm past i) → Told past → EachMoment (SentAsGot start) past → OpenAsGot start past → OrderLaw wild past → EachMoment (NamedRun wild start) past → EachMoment (NamedEnd wild start) past → WereRead wild start past
  all_read [] so calm f sent opens law runs ends = (tt, tt)
  all_read (m ∷ past) so calm f sent opens law runs ends =
      let g = told_before m past f in
      let before = opens_before (m ∷ []) past so in
      let quiet : (i : ℕ) → wild i ≡ false → IsCalm past i = λ i own. calm_before (m ∷ []) past i (calm i own) in
      let rest = all_read past before quiet g sent.1 opens.1 law.1 runs.1 ends.1 in
      ((run_moment wild start past g sent.1 opens.1 law.1 before quiet m runs.0, rest.0), (end_moment wild start past g sent.1 opens.1 law.1 before quiet m ends.0, rest.1))

pub were_read_law : OpenListsLaw → OneUpLaw → WereReadLaw
were_read_law lists up = record {
  after_lines = λ line run r has small size beside.
      let so_far = closing.before lists line run r has small size beside in
      let past = history_of line run in
      all_read (injectors past) run.start.disks past (closing, lists, beside) (λ i own. own) (told_everywhere.after_lines line run r has small size so_far) ((sent_as_got lists).after_lines line run r has small size so_far beside)
      ((open_as_got lists up).after_lines line run r has small size so_far beside) (order_run_law.after_lines line run r has small size so_far) (runs_named.after_lines line run r has small size so_far) (ends_named.after_lines line run r has small size so_far);
  between = λ line run r has small size next most told m beside.
      let now = map said (after_all told (begun (after (beginning run) run.entries))).world.fresh ++ asked next (more_deliveries most) ∷ history_of line run in
      let so_far = closing.between lists line run r has small size next (more_deliveries most) (more_than_one most) told m beside in
      all_read (injectors now) run.start.disks now (closing, lists, beside) (λ i own. own) (told_everywhere.between line run r has small size next most told m so_far) ((sent_as_got lists).between line run r has small size next most told m so_far beside)
      ((open_as_got lists up).between line run r has small size next most told m so_far beside) (order_run_law.between line run r has small size next (more_deliveries most) (more_than_one most) told m so_far) (runs_named.between line run r has small size next most told m so_far)
      (ends_named.between line run r has small size next most told m so_far);
}
