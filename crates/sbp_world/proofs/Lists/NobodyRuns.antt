-- In every run in which no initiator injected packets, or few logins were given, as each packet is got: what answers a request of nobody begins elsewhere than in the slot of an ORB of a list that is open.
use Rattle.sbp_world.proofs.Words.Std.{arith, ◌≡◌, ◌∙◌, refl, sym, ap, subst, ◌<◌, ℕ, suc, Bool, List, [], ◌∷◌, ◌++◌, length, map, Option, Some, None}
use Rattle.sbp_world.proofs.Words.Wire.{AreJudged, Moment, asked, said, Sending, Terms, terms, Event, Note}
use Rattle.sbp_world.proofs.Words.Target.{Disk}
use Rattle.sbp_world.proofs.Words.Laws.{injectors, sender_in, Target, for_nobody, purpose_of, target_at, EachMoment}
use Rattle.sbp_world.proofs.Words.World.{history_of, moments_behind, Run, after, beginning, after_all, Stands, WorldState, begun, more_deliveries, AtGot, Always, AreUntaken, OpenListsLaw, Under, UnderFrom, WhereTameOrFew, AreCutOff, CutOffLaw, AllElsewhere, IsTameOrFew, NobodyAsGot, NobodyAsGotLaw}
use Rattle.sbp_journal.specs.declared.note.Note.TheVariants as notes
use Rattle.sbp_world.proofs.Agents.Management.Holding.{past_terms}
use Rattle.sbp_world.proofs.Agents.Management.Still.{hist}
use Rattle.sbp_world.proofs.Lists.Beside.{tame_or_few_before}
use Rattle.sbp_world.proofs.Lists.Courses.{more_than_one}
use Rattle.sbp_world.proofs.Lists.FedOnce.{judged_everywhere}
use Rattle.sbp_world.proofs.Lists.GotTurns.{got_turn}
use Rattle.sbp_world.proofs.Lists.Gots.{turn_next}
use Rattle.sbp_world.proofs.Lists.Judging.{counts_at}
use Rattle.sbp_world.proofs.Lists.ListsProved.{closing}
use Rattle.sbp_world.proofs.Lists.ManageSends.{opened_terms}
use Rattle.sbp_world.proofs.Lists.ManageTerms.{same_some}
use Rattle.sbp_world.proofs.Lists.NobodyElsewhere.{IsCurrent, IsUnownedNow, unowned_here}
use Rattle.sbp_world.proofs.Lists.OrbWaits.{over_twice}
use Rattle.sbp_world.proofs.Lists.OwnGots.{answered_same, read_so}
use Rattle.sbp_world.proofs.Lists.StatusKnown.{got_by}
use Rattle.sbp_world.proofs.Lists.StatusRested.{Grounds}
use Rattle.sbp_world.proofs.Lists.StatusRuns.{rises_of}
use Rattle.sbp_world.proofs.Lists.TameWalks.{from_after, from_between}
use Rattle.sbp_world.proofs.Lists.Walks.{Walks}
use Rattle.sbp_world.proofs.Lists.WriteAnswers.{no_bytes}

-- ---- as a line begins
module _ (start : List Disk) (line : ℕ) (event : Event) (past : List Moment) where
  abbrev here : List Moment
  here = asked line event ∷ past

  current_before : (serial : ℕ) → IsCurrent here serial → IsCurrent past serial
  current_before serial now packet is =
      now packet (ap (λ (f : ℕ → Option Sending). f serial) (opened_terms event (terms past)).sent ∙ is) ∙ ap (λ (g : ℕ → ℕ). g packet.to) (opened_terms event (terms past)).generation

  unowned_asked : (wild : ℕ → Bool) → ((serial : ℕ) → IsUnownedNow wild start past serial) → (serial : ℕ) → IsUnownedNow wild start here serial
  unowned_asked wild a serial now i slot list number request own opened there closed nobody =
      subst (AllElsewhere slot) (sym (read_so start line event past i serial (Some request)))
      (a serial (current_before serial now) i slot list number request own (record { latest = opened.latest; uncut = opened.uncut }) there (sym (answered_same start line event past serial) ∙ closed)
      (subst (λ (T : Target). purpose_of T request ≡ for_nobody) (over_twice (target_at start past)) nobody))

-- ---- a packet that is got is current
module _ (wild : ℕ → Bool) (start : List Disk) where
  note_now : (note : Note) (past : List Moment) → AreJudged (said note ∷ past) → AtGot (IsUnownedNow wild start) (said note) past → NobodyAsGot wild start (said note) past
  note_now (notes.Got serial) past j a = a (λ packet e. got_by serial past packet j e)
  note_now note past j a = tt

  all_now : (past : List Moment) → AreJudged past → EachMoment (AtGot (IsUnownedNow wild start)) past → EachMoment (NobodyAsGot wild start) past
  all_now [] j a = tt
  all_now (asked line event ∷ past) j a = (tt, all_now past j a.1)
  all_now (said note ∷ past) j a = (note_now note past j a.0, all_now past (by note j) a.1)
    where
      by : (note : Note) → AreJudged (said note ∷ past) → AreJudged past
      by (notes.Got s) j = j.1
      by (notes.Ignored s cause) j = j.1
      by _ j = j

-- ---- a run
abbrev V : List Disk → List Moment → WorldState → Type 0
V start past w = AreUntaken past w × AreCutOff start past w

abbrev P : List Disk → (ℕ → Bool) → List Moment → WorldState → Type 0
P start wild past w = EachMoment (AtGot (IsUnownedNow wild start)) past

ours_of : (past : List Moment) (w : WorldState) (h : Stands past w) (serial i : ℕ) → sender_in ((terms (hist past w)).sent serial) ≡ Some (suc i) → i < length w.initiators
ours_of past w h serial i e = by ((terms (hist past w)).sent serial) refl e
  where
    by : (so : Option Sending) → (terms (hist past w)).sent serial ≡ so → sender_in so ≡ Some (suc i) → i < length w.initiators
    by None f g = absurd (let x : None ≡ Some (suc i) = g in cc)
    by (Some q) f g =
        let ours = h.is.knows.ours serial q (ap (λ (t : Terms). t.sent serial) (past_terms w h) ∙ f) in
        let b = ours.from in
        let from : q.from ≡ suc i = same_some q.from (suc i) g in
        omega (arith, b, from)

walk : (wild : ℕ → Bool) (units ready : ℕ) → 0 < units → (start : List Disk) → Walks wild units ready start Grounds (V start) (P start wild)
walk wild units ready has start past s later t step p =
    let reached = step.stands.reached in
    let ms = hist past s.world in
    let stands = reached.holds.sound.stands in
    got_turn (IsUnownedNow wild start) (λ line event before a. unowned_asked start line event before wild a) ms (hist later t.world) (turn_next past s later t step.turn)
    (unowned_here wild start ms (length s.world.initiators) (record {
      counts = counts_at s.world stands;
      passes = reached.kept.passes;
      rises = rises_of past s.world stands ms refl;
      begins = step.known.begins;
      untaken = λ i b own. (step.so_far i own).0 i b (reached.calm i own);
      off = λ i b own slot serial x. (step.so_far i own).1 i slot serial b (reached.calm i own) x;
      ours = ours_of past s.world stands;
      bytes = λ serial own closed access is writes. no_bytes s.world stands serial own closed access is writes;
    })) p

first : (wild : ℕ → Bool) (line : ℕ) (run : Run) → P run.start.disks wild (moments_behind line run []) (beginning run).world
first wild line run = (tt, (tt, tt))

known : Under (WhereTameOrFew AreUntaken) → CutOffLaw → UnderFrom (λ start. WhereTameOrFew (V start))
known untaken off = record {
  after_lines = λ line run r has small size so_far tame. (untaken.after_lines line run r has small size so_far tame, off.after_lines line run r has small size so_far tame);
  between = λ line run r has small size next most told m so_far tame. (untaken.between line run r has small size next most told m so_far tame, off.between line run r has small size next most told m so_far tame);
}

pub nobody_as_got_law : OpenListsLaw → Always Grounds → Under (WhereTameOrFew AreUntaken) → CutOffLaw → NobodyAsGotLaw
nobody_as_got_law lists grounds untaken off = record {
  after_lines = λ line run r has small size tame.
      let so_far = closing.before lists line run r has small size tame in
      all_now (injectors (history_of line run)) run.start.disks (history_of line run) (judged_everywhere.after_lines line run r has small size so_far)
      (from_after IsTameOrFew tame_or_few_before Grounds V P grounds (known untaken off) walk first line run r has small size so_far tame);
  between = λ line run r has small size next most told m tame.
      let now = map said (after_all told (begun (after (beginning run) run.entries))).world.fresh ++ asked next (more_deliveries most) ∷ history_of line run in
      let so_far = closing.between lists line run r has small size next (more_deliveries most) (more_than_one most) told m tame in
      all_now (injectors now) run.start.disks now (judged_everywhere.between line run r has small size next most told m so_far)
      (from_between IsTameOrFew tame_or_few_before Grounds V P grounds (known untaken off) walk first line run r has small size next (more_deliveries most) (more_than_one most) told m so_far tame);
}
