-- The laws of agents along lists, of the reads that they make, of the order of ends, and of appends, of every run.
use Rattle.sbp_world.proofs.Words.Std.{◌≡◌, sym, ap, subst, ℕ, ◌<◌, ◌≤◌, Bool, true, false, List, [], ◌∷◌, ◌++◌, map, length, Option}
use Rattle.sbp_world.proofs.Words.Wire.{Event, NoteBuffer, Moment, asked, said}
use Rattle.sbp_world.proofs.Words.Target.{Told, Disk}
use Rattle.sbp_world.proofs.Words.Laws.{injectors, OrderLaw}
use Rattle.sbp_world.proofs.Words.World.{history_of, Run, after, beginning, MayAll, after_all, Scene, WorldState, begun, DeliversMore, IsRun, AlongLaw, AreAlong, GoesAlong, BringsLaw, AreSentBehind, SentReadsLaw, AllBrought, IsCalm, OpenAfter, OpenBefore, OpenBehind, OpenBetween, OpenLists, initiator_in, machine_at, AppendsLaw, IsAppend, OrderRunLaw, OpensLaw}
use Rattle.sbp_journal.specs.declared.note.Note.TheVariants as notes
use Rattle.sbp_world.proofs.Agents.Management.Still.{hist}
use Rattle.sbp_world.proofs.Lists.Early.{Early}
use Rattle.sbp_world.proofs.Lists.Calm.{asked_calm, calm_before}
use Rattle.sbp_world.proofs.Lists.Kept.{Kept}
use Rattle.sbp_world.proofs.Lists.OpenProved.{opens_law, nobody_needs}
use Rattle.sbp_world.proofs.Lists.Passing.{PassLaw}
use Rattle.sbp_world.proofs.Lists.Runs.{At, EarlyAfter, KeptAfter, at_told, early_after, facts, facts_at, kept_after, kept_told, lists_at, lists_here}

-- of a history, of the initiators that injected none in it
agents_of : (ms past : List Moment) (w : WorldState) → hist past w ≡ ms → Kept (injectors ms) past (machine_at w) w → AreAlong ms w
agents_of ms past w is k = record { all = λ place b d calm n e. subst (λ x. GoesAlong x (initiator_in w place) n (machine_at w place)) is (k.agents place b d n e calm) }

order_of : (ms past : List Moment) (w : WorldState) → hist past w ≡ ms → Kept (injectors ms) past (machine_at w) w → OrderLaw (injectors ms) ms
order_of ms past w is k = subst (λ x. OrderLaw (injectors ms) x) is k.law

sent_of : (start : List Disk) (past : List Moment) (w : WorldState) (ms : List Moment) → hist past w ≡ ms → Early (injectors ms) start (hist past w) → AreSentBehind start ms
sent_of start past w ms is early place b which serial i slot n k r =
    subst (Early (injectors ms) start) is early place b which serial i slot n k
    (record { waits = r.waits; to = r.to; own = r.calm; access = r.access; is = r.is; reads = r.reads; some = r.some; stands = r.stands; there = r.there })

abbrev opened : (wild : ℕ → Bool) → (i : ℕ) → wild i ≡ false → OpensLaw
opened wild i own = opens_law

module _ (line : ℕ) (run : Run) (r : IsRun run) (has : 0 < run.units) (small : run.units ≤ 4) (size : length run.start.disks ≡ run.units) where
  abbrev last : Scene
  last = after (beginning run) run.entries

  -- behind all lines, by what was so before, and where lists are open there as they should be
  module _ (so_far : OpenBefore line run run.entries) where
    lines_kept : (wild : ℕ → Bool) → ((i : ℕ) → wild i ≡ false → IsCalm (history_of line run) i) → KeptAfter wild (opened wild) line run r.few has small size run.entries last.world
    lines_kept wild calm = kept_after wild (opened wild) line run r.few has small size run.entries r.short r.entries r.lines (λ i own. so_far) calm

    pub along_after : AreAlong (history_of line run) last.world
    along_after = let k = lines_kept (injectors (history_of line run)) (λ i own. own) in agents_of (history_of line run) k.past last.world k.is k.kept

    pub order_after : OrderLaw (injectors (history_of line run)) (history_of line run)
    order_after = let k = lines_kept (injectors (history_of line run)) (λ i own. own) in order_of (history_of line run) k.past last.world k.is k.kept

    module _ (ends : OpenAfter line run run.entries) where
      lines_early : (wild : ℕ → Bool) → ((i : ℕ) → wild i ≡ false → IsCalm (history_of line run) i) → EarlyAfter wild (opened wild) line run r.few has small size run.entries last.world
      lines_early wild calm = early_after wild (opened wild) line run r.few has small size run.entries r.short r.entries r.lines (λ i own. so_far) (λ i own. ends) calm

      lists_end : (wild : ℕ → Bool) (k : KeptAfter wild (opened wild) line run r.few has small size run.entries last.world) → (i : ℕ) → wild i ≡ false → OpenLists (hist k.past last.world) last.world
      lists_end wild k = lists_here wild (opened wild) line run r.few has small size run.entries r.short r.entries r.lines k.past (length run.entries) k.holds k.is (λ i own. ends)

      pub brings_after : (i : ℕ) → IsCalm (history_of line run) i → AllBrought (history_of line run) last.world i
      brings_after i calm =
          let wild = injectors (history_of line run) in
          let x = lines_early wild (λ j own. own) in
          let k = x.so_far in
          subst (λ ms. AllBrought ms last.world i) k.is
          ((facts wild (opened wild) line run r.few has small size run.entries r.short r.entries r.lines k.past (length run.entries) k.holds k.is (λ j own. so_far) (lists_end wild k) (λ j own. subst (λ ms. IsCalm ms j) (sym k.is) own) x.early).needs i calm).brings

      pub sent_after : AreSentBehind run.start.disks (history_of line run)
      sent_after = let x = lines_early (injectors (history_of line run)) (λ i own. own) in sent_of run.start.disks x.so_far.past last.world (history_of line run) x.so_far.is x.early

  -- behind deliveries of a line that follows
  module _ (next : ℕ) (event : Event) (d : DeliversMore event) (told : List (Option Told)) (m : MayAll told (begun last)) (so_far : OpenBetween line run next event told) where
    abbrev end : WorldState
    end = (after_all told (begun last)).world

    abbrev ms : List Moment
    ms = map said end.fresh ++ asked next event ∷ history_of line run

    abbrev wild : ℕ → Bool
    wild = injectors ms

    first_calm : (i : ℕ) → wild i ≡ false → IsCalm (history_of line run) i
    first_calm i own = asked_calm next event (history_of line run) i (calm_before (map said end.fresh) (asked next event ∷ history_of line run) i own)

    abbrev first : EarlyAfter wild (opened wild) line run r.few has small size run.entries last.world
    first = lines_early so_far.before so_far.begins wild first_calm

    abbrev before : KeptAfter wild (opened wild) line run r.few has small size run.entries last.world
    before = first.so_far

    abbrev first_lists : (i : ℕ) → wild i ≡ false → OpenLists (hist before.past last.world) last.world
    first_lists = lists_end so_far.before so_far.begins wild before

    ends_is : hist (asked next event ∷ hist before.past last.world) end ≡ ms
    ends_is = ap (λ x. map said end.fresh ++ asked next event ∷ x) before.is

    past_calm : (i : ℕ) → wild i ≡ false → IsCalm (hist before.past last.world) i
    past_calm i own = subst (λ x. IsCalm x i) (sym before.is) (first_calm i own)

    last_calm : (i : ℕ) → wild i ≡ false → IsCalm (hist (asked next event ∷ hist before.past last.world) end) i
    last_calm i own = subst (λ x. IsCalm x i) (sym ends_is) own

    kept_between : Kept wild (asked next event ∷ hist before.past last.world) (machine_at end) end
    kept_between =
        (kept_told wild (opened wild) line run r.few has small size run.entries r.short r.entries r.lines before.past (length run.entries) before.holds before.is next event d (λ i own. so_far.before) first_lists past_calm before.kept first.early told m
        (λ i own. so_far.goes) last_calm).kept_there

    pub along_between : AreAlong ms end
    along_between = agents_of ms (asked next event ∷ hist before.past last.world) end ends_is kept_between

    pub order_between : OrderLaw wild ms
    order_between = order_of ms (asked next event ∷ hist before.past last.world) end ends_is kept_between

    module _ (now : OpenBehind (asked next event ∷ history_of line run) told (begun last)) where
      lists_now : (i : ℕ) → wild i ≡ false → OpenLists (hist (asked next event ∷ hist before.past last.world) end) end
      lists_now = lists_at wild (opened wild) line run r.few has small size run.entries r.short r.entries r.lines before.past (length run.entries) before.holds before.is next event d told (λ i own. now)

      known_there : At wild (opened wild) line run r.few has small size run.entries r.short r.entries r.lines before.past (length run.entries) before.holds before.is next event d (λ i own. so_far.before) first_lists past_calm before.kept first.early told
      known_there =
          at_told wild (opened wild) line run r.few has small size run.entries r.short r.entries r.lines before.past (length run.entries) before.holds before.is next event d (λ i own. so_far.before) first_lists past_calm before.kept first.early told m
          (λ i own. so_far.goes) lists_now last_calm

      pub brings_between : (i : ℕ) → IsCalm ms i → AllBrought ms end i
      brings_between i calm =
          subst (λ x. AllBrought x end i) ends_is
          ((facts_at wild (opened wild) line run r.few has small size run.entries r.short r.entries r.lines before.past (length run.entries) before.holds before.is next event d (λ i own. so_far.before) first_lists told m (λ i own. so_far.goes) lists_now last_calm known_there.early_there).needs i calm).brings

      pub sent_between : AreSentBehind run.start.disks ms
      sent_between = sent_of run.start.disks (asked next event ∷ hist before.past last.world) end ms ends_is known_there.early_there

pub along_law : AlongLaw
along_law = record {
  after_lines = λ line run r has small size so_far. along_after line run r has small size so_far;
  between = λ line run r has small size next event d told m so_far. along_between line run r has small size next event d told m so_far;
}

pub order_run_law : OrderRunLaw
order_run_law = record {
  after_lines = λ line run r has small size so_far. order_after line run r has small size so_far;
  between = λ line run r has small size next event d told m so_far. order_between line run r has small size next event d told m so_far;
}

pub sent_reads_law : SentReadsLaw
sent_reads_law = record {
  after_lines = λ line run r has small size so_far ends. sent_after line run r has small size so_far ends;
  between = λ line run r has small size next event d told m so_far now. sent_between line run r has small size next event d told m so_far now;
}

pub brings_law : BringsLaw
brings_law = record {
  after_lines = λ line run r has small size so_far ends i calm. brings_after line run r has small size so_far ends i calm;
  between = λ line run r has small size next event d told m so_far now i calm. brings_between line run r has small size next event d told m so_far now i calm;
}

-- ---- appends: the order law, of no initiator

append_good : (wild : ℕ → Bool) (later past all : List Moment) (i n k : ℕ) (cdb : List ℕ) (buffer : NoteBuffer) → later ++ said (notes.Append i n k cdb buffer) ∷ past ≡ all → PassLaw wild all → IsAppend past i n k
append_good wild later past all i n k cdb buffer e law = by later (subst (PassLaw wild) (sym e) law)
  where
    by : (later : List Moment) → PassLaw wild (later ++ said (notes.Append i n k cdb buffer) ∷ past) → IsAppend past i n k
    by [] law = law.0
    by (m ∷ later) law = by later law.1

pub appends_law : AppendsLaw
appends_law = record {
  numbered = λ line run r has small size later past i n k cdb buffer e.
      let wild : ℕ → Bool = λ i. true in
      let a = kept_after wild (opened wild) line run r.few has small size run.entries r.short r.entries r.lines (λ i f. nobody_needs (OpenBefore line run run.entries) f) (λ i f. nobody_needs (IsCalm (history_of line run) i) f) in
      append_good wild later past (history_of line run) i n k cdb buffer e (subst (PassLaw wild) a.is a.kept.passes);
}
