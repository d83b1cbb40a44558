-- In every run in which no initiator injected packets, or few logins were given, the ORB of each run of an initiator that injected none was read behind its append, by the response behind which its agent read its buffer and its data:
-- the carried law holds of it, where that of nobody's requests does.
use Rattle.sbp_world.proofs.Words.Std.{arith, ◌≡◌, ◌∙◌, sym, ap, subst, IsSomeAnd, ◌<◌, ◌≤◌, ℕ, suc, Bool, false, List, [], ◌∷◌, ◌++◌, map, Some, None, Option}
use Rattle.sbp_world.proofs.Words.Wire.{AreJudged, Moment, asked, said, Note}
use Rattle.sbp_world.proofs.Words.Target.{Disk, limit_of}
use Rattle.sbp_world.proofs.Words.Initiator.{bytes_of, chunks}
use Rattle.sbp_world.proofs.Words.Laws.{address_of, buffer_in, joined, orb_read, reads_since, appends, lists, plan_of, request_at, injectors, RunIsCarried, slot_at, IsOpen, OrderLaw, EachMoment}
use Rattle.sbp_world.proofs.Words.World.{history_of, after, beginning, after_all, begun, more_deliveries, AheadAsGot, AheadAsGotLaw, AllAhead, RunWasRead, OpenListsLaw, RunIsNamedFed, AreOwnOrOthers, RunIsFed, RunIsSince, ManagedAsGot, ManagedAsGotLaw, IsCalm, AllNobodyElsewhere, NobodyAsGot, NobodyAsGotLaw, OneUpLaw, SentAsGot, OwnAsGot, AllAwaited, ReadAndFedAt, ReadAndFedLaw, RunWasReadAndFed}
use Rattle.sbp_journal.specs.declared.note.Note.TheVariants as notes
use Rattle.sbp_world.specs.Lists.FedRuns.{AreOthers}
use Rattle.sbp_world.proofs.Lists.AheadOrbs.{others_ahead}
use Rattle.sbp_world.proofs.Lists.Calm.{calm_before}
use Rattle.sbp_world.proofs.Lists.CarriedEnds.{run_read, run_read_by}
use Rattle.sbp_world.proofs.Lists.Courses.{more_than_one}
use Rattle.sbp_world.proofs.Lists.DataSlots.{appends_grow}
use Rattle.sbp_world.proofs.Lists.Executes.{NamedRun, OpensBeside, opens_before, runs_named}
use Rattle.sbp_world.proofs.Lists.Fair.{Told, told_before, told_everywhere}
use Rattle.sbp_world.proofs.Lists.FedJoins.{fed_asked, run_since, since_fed}
use Rattle.sbp_world.proofs.Lists.FedOnce.{judged_everywhere}
use Rattle.sbp_world.proofs.Lists.Histories as histories
use Rattle.sbp_world.proofs.Lists.ListsProved.{closing}
use Rattle.sbp_world.proofs.Lists.NobodyGots.{but_nobody}
use Rattle.sbp_world.proofs.Lists.NobodySince.{IsThere, appended_then, begun_then, nobody_since}
use Rattle.sbp_world.proofs.Lists.OpenGots.{OpenAsGot, open_as_got}
use Rattle.sbp_world.proofs.Lists.OwnGots.{own_as_got}
use Rattle.sbp_world.proofs.Lists.OwnSince.{each_awaited, own_since_law}
use Rattle.sbp_world.proofs.Lists.Passing.{PassAt, PassLaw}
use Rattle.sbp_world.proofs.Lists.RunLaws.{order_run_law}
use Rattle.sbp_world.proofs.Lists.SentGots.{sent_as_got}
use Rattle.sbp_world.proofs.Lists.UnrunTerms.{lists_grow}
use Rattle.sbp_world.proofs.Lists.StatusKnown.{judged_less as judged_before, each_from}

module _ (wild : ℕ → Bool) (start : List Disk) where
  -- what was got as an ORB was read ahead; what answers the management operation; and what answers nobody
  record Elsewhere (past : List Moment) : Type 0 where
    spared : EachMoment (AheadAsGot wild start) past
    managed : EachMoment (ManagedAsGot wild start) past
    nobody : EachMoment (NobodyAsGot wild start) past

  elsewhere_before : (m : Moment) (past : List Moment) → Elsewhere (m ∷ past) → Elsewhere past
  elsewhere_before m past e = record { spared = e.spared.1; managed = e.managed.1; nobody = e.nobody.1 }

  module _ (past : List Moment) (so : OpensBeside past) (calm : (i : ℕ) → wild i ≡ false → IsCalm past i) (f : Told past) (j : AreJudged past) (sent : EachMoment (SentAsGot start) past) (opens : OpenAsGot start past) (law : OrderLaw wild past) (passes : PassLaw wild past) (gots : EachMoment (OwnAsGot wild start) past) (elsewhere : Elsewhere past) where
    -- the buffer and the data by what was read since a response
    abbrev Since : (i n k : ℕ) → List ℕ → ℕ → Type 0
    Since i n k bytes r =
        IsSomeAnd (request_at past i n k) (λ request. bytes_of (buffer_in (orb_read past r) (reads_since past i r)) ≡ (plan_of request.buffer).bytes) × (bytes ≡ joined (chunks (limit_of (orb_read past r)) (buffer_in (orb_read past r) (reads_since past i r))) (reads_since past i r))

    -- ---- a run
    module _ (i n k : ℕ) (bytes : List ℕ) (own : wild i ≡ false) (opened : IsOpen past i n) (e : RunIsNamedFed start past i n k bytes) where
      abbrev slot : ℕ
      slot = slot_at past i n k

      abbrev read : RunWasRead start past i n k
      read = run_read wild start past f sent opens law i n k (calm i own) e.named

      abbrev since : RunIsSince start past i n k bytes
      since = run_since start past f j i n k bytes (calm i own) e.fed (fed_asked start past i n k bytes e)

      abbrev fed : RunIsFed start past i n k bytes
      fed = since.fed

      abbrev behind : List Moment
      behind = said (notes.Got fed.brought.response) ∷ fed.brought.earlier

      abbrev before : List Moment
      before = fed.between ++ behind

      same_fed : fed ≡ e.fed
      same_fed = since_fed start past f j i n k bytes (calm i own) e.fed (fed_asked start past i n k bytes e)

      same : fed.brought.response ≡ read.read.response
      same = ap (λ (x : RunIsFed start past i n k bytes). x.brought.response) same_fed ∙ (e.response ∙ sym (run_read_by wild start past f sent opens law i n k (calm i own) e.named))

      earlier_is : e.named.named.brought.earlier ≡ fed.brought.earlier
      earlier_is = sym (ap (λ (x : RunIsFed start past i n k bytes). x.brought.earlier) same_fed ∙ e.earlier)

      small : fed.place < 8
      small = subst (λ p. p < 8) (sym (ap (λ (x : RunIsFed start past i n k bytes). x.place) same_fed ∙ e.place)) e.named.small

      awaited : AllAwaited start i fed.place fed.later before
      awaited = subst (λ (x : RunIsFed start past i n k bytes). AllAwaited start i x.place x.later (x.between ++ said (notes.Got x.brought.response) ∷ x.brought.earlier)) (sym same_fed) e.awaited

      ahead : AllAhead start i fed.place (address_of past i n k) fed.between behind
      ahead = subst (λ (x : RunIsFed start past i n k bytes). AllAhead start i x.place (address_of past i n k) x.between (said (notes.Got x.brought.response) ∷ x.brought.earlier)) (sym same_fed) e.ahead

      -- what was got since in answer to nobody begins elsewhere
      passes_since : PassLaw wild (fed.later ++ before)
      passes_since = subst (PassLaw wild) (sym fed.is) passes

      passes_before : PassLaw wild before
      passes_before = each_from (PassAt wild) fed.later before passes_since

      passes_earlier : PassLaw wild fed.brought.earlier
      passes_earlier = (each_from (PassAt wild) fed.between behind passes_before).1

      appended : k < appends behind i n
      appended = subst (λ ms. k < appends ms i n) earlier_is (appended_then wild start past i n k e.named (subst (PassLaw wild) (sym earlier_is) passes_earlier))

      had_begun : suc n ≤ lists behind i
      had_begun = subst (λ ms. suc n ≤ lists ms i) earlier_is (begun_then wild start past i n k e.named)

      nobody_all : EachMoment (NobodyAsGot wild start) (fed.later ++ before)
      nobody_all = subst (EachMoment (NobodyAsGot wild start)) (sym fed.is) elsewhere.nobody

      there_now : IsThere (fed.later ++ before) i n k slot
      there_now = subst (λ ms. IsThere ms i n k slot) (sym fed.is) (record { opened = opened; there = e.named.there })

      nobody_later : AllNobodyElsewhere start i slot fed.later before × IsThere before i n k slot
      nobody_later =
          let more_appends = appends_grow i n k fed.between behind in
          let more_lists = lists_grow i fed.between behind in
          let a = appended in
          let b = had_begun in
          nobody_since wild start i n k slot own fed.later before nobody_all passes_since (omega (arith, a, more_appends)) (omega (arith, b, more_lists)) there_now

      nobody_between : AllNobodyElsewhere start i slot fed.between behind
      nobody_between =
          (nobody_since wild start i n k slot own fed.between behind (each_from (NobodyAsGot wild start) fed.later before nobody_all) passes_before appended had_begun nobody_later.1).0

      -- so what was got since is the agent's own or begins elsewhere
      managed_since : EachMoment (ManagedAsGot wild start) (fed.later ++ before)
      managed_since = subst (EachMoment (ManagedAsGot wild start)) (sym fed.is) elsewhere.managed

      own_later : AreOwnOrOthers start i fed.place slot fed.later before
      own_later =
          own_since_law wild start i fed.place slot own small fed.later before (subst (EachMoment (OwnAsGot wild start)) (sym fed.is) gots)
          (each_awaited start i fed.place slot fed.later before awaited (but_nobody wild start i slot own fed.later before managed_since nobody_later.0))

      others : AreOthers i slot fed.between behind
      others =
          others_ahead start i fed.place slot wild own small fed.between behind (each_from (AheadAsGot wild start) fed.later before (subst (EachMoment (AheadAsGot wild start)) (sym fed.is) elsewhere.spared)) ahead
          (but_nobody wild start i slot own fed.between behind (each_from (ManagedAsGot wild start) fed.later before managed_since) nobody_between)

      fits : Since i n k bytes read.read.response
      fits = subst (Since i n k bytes) same (since.whole others own_later)

      whole : RunIsCarried start past i n k bytes
      whole = record { read = read.read; not_dummy = read.not_dummy; as_appended = read.as_appended; size = fits.0; payloads = fits.1 }

      both : RunWasReadAndFed start past i n k bytes
      both = record { read = read; since = since; response = same; small = small; awaited = awaited; whole = whole }

    -- ---- at a moment
    by_names : (i : ℕ) (list number : Option ℕ) (unit : ℕ) (cdb bytes : List ℕ) (check : _) → PassAt wild (said (notes.Ran i list number unit cdb bytes check)) past → NamedRun wild start (said (notes.Ran i list number unit cdb bytes check)) past → ReadAndFedAt wild start (said (notes.Ran i list number unit cdb bytes check)) past
    by_names i (Some n) (Some k) unit cdb bytes check q e = λ own. both i n k bytes own (q own).next.turn.still (e so own)
    by_names i (Some n) None unit cdb bytes check q e = tt
    by_names i None number unit cdb bytes check q e = tt

    by_note : (note : Note) → PassAt wild (said note) past → NamedRun wild start (said note) past → ReadAndFedAt wild start (said note) past
    by_note (notes.Ran i list number unit cdb bytes check) q e = by_names i list number unit cdb bytes check q e
    by_note note q e = tt

    by_moment : (m : Moment) → PassAt wild m past → NamedRun wild start m past → ReadAndFedAt wild start m past
    by_moment (asked line event) q e = tt
    by_moment (said note) q e = by_note note q e

  all_both : (past : List Moment) → OpensBeside past → ((i : ℕ) → wild i ≡ false → IsCalm past i) → Told past → AreJudged past → EachMoment (SentAsGot start) past → OpenAsGot start past → OrderLaw wild past → PassLaw wild past → EachMoment (OwnAsGot wild start) past → Elsewhere past → EachMoment (NamedRun wild start) past → EachMoment (ReadAndFedAt wild start) past
  all_both [] so calm f j sent opens law passes gots elsewhere e = tt
  all_both (m ∷ past) so calm f j sent opens law passes gots elsewhere e =
      let g = told_before m past f in
      let q = judged_before m past j in
      let before = opens_before (m ∷ []) past so in
      let quiet : (i : ℕ) → wild i ≡ false → IsCalm past i = λ i own. calm_before (m ∷ []) past i (calm i own) in
      let gone = elsewhere_before m past elsewhere in
      (by_moment past before quiet g q sent.1 opens.1 law.1 passes.1 gots.1 gone m passes.0 e.0, all_both past before quiet g q sent.1 opens.1 law.1 passes.1 gots.1 gone e.1)

pub read_and_fed_law : OpenListsLaw → OneUpLaw → AheadAsGotLaw → ManagedAsGotLaw → NobodyAsGotLaw → ReadAndFedLaw
read_and_fed_law lists up spared managed nobody = record {
  after_lines = λ line run r has small size beside.
      let so_far = closing.before lists line run r has small size beside in
      let past = history_of line run in
      all_both (injectors past) run.start.disks past (closing, lists, beside) (λ i own. own) (told_everywhere.after_lines line run r has small size so_far) (judged_everywhere.after_lines line run r has small size so_far)
      ((sent_as_got lists).after_lines line run r has small size so_far beside) ((open_as_got lists up).after_lines line run r has small size so_far beside) (order_run_law.after_lines line run r has small size so_far)
      (histories.after_lines (injectors past) line run r has small size (λ i own. so_far) (λ i own. own)).law
      ((own_as_got lists).after_lines line run r has small size so_far beside)
      (record { spared = spared.after_lines line run r has small size beside; managed = managed.after_lines line run r has small size beside; nobody = nobody.after_lines line run r has small size beside })
      (runs_named.after_lines line run r has small size so_far);
  between = λ line run r has small size next most told m beside.
      let now = map said (after_all told (begun (after (beginning run) run.entries))).world.fresh ++ asked next (more_deliveries most) ∷ history_of line run in
      let so_far = closing.between lists line run r has small size next (more_deliveries most) (more_than_one most) told m beside in
      all_both (injectors now) run.start.disks now (closing, lists, beside) (λ i own. own) (told_everywhere.between line run r has small size next most told m so_far)
      (judged_everywhere.between line run r has small size next most told m so_far) ((sent_as_got lists).between line run r has small size next most told m so_far beside)
      ((open_as_got lists up).between line run r has small size next most told m so_far beside) (order_run_law.between line run r has small size next (more_deliveries most) (more_than_one most) told m so_far)
      (histories.between (injectors now) line run r has small size next (more_deliveries most) (more_than_one most) told m (λ i own. so_far) (λ i own. own)).law
      ((own_as_got lists).between line run r has small size next most told m so_far beside)
      (record { spared = spared.between line run r has small size next most told m beside; managed = managed.between line run r has small size next most told m beside; nobody = nobody.between line run r has small size next most told m beside })
      (runs_named.between line run r has small size next most told m so_far);
}
