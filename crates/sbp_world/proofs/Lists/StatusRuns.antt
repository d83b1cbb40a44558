-- Statuses are taken as the ORBs ended in every run in which no initiator injected packets, or few logins were given, and the target sends them so, as lists were open as they should be before.
use Rattle.sbp_world.proofs.Words.Std.{arith, ◌≡◌, ◌∙◌, refl, sym, ap, subst, ℕ, ◌<◌, ◌≤◌, Bool, true, false, List, ◌∷◌, ◌++◌, map, length, Option, Some, None}
use Rattle.sbp_world.proofs.Words.Wire.{Access, Moment, asked, said, Sending, terms, Event}
use Rattle.sbp_world.proofs.Words.Target.{Told}
use Rattle.sbp_world.proofs.Words.Laws.{injectors, TakenStatus, taken_at, access_in_bytes, ends, EachMoment}
use Rattle.sbp_world.proofs.Words.World.{history_of, Run, after, beginning, MayAll, after_all, IsOfWire, Stands, Scene, WorldState, begun, DeliversMore, IsDelivering, IsRun, more_deliveries, AllOfTarget, TakenOf, IsCalm, OpenBefore, OpenBetween, AllSentSo, AreStatuses, SentSo, StatusesLaw}
use Rattle.sbp_journal.specs.declared.event.Event.TheVariants as events
use Rattle.sbp_world.proofs.Wire.Bus.{holds}
use Rattle.sbp_world.proofs.Wire.Starts.{laws_of}
use Rattle.sbp_world.proofs.Agents.Management.Still.{hist}
use Rattle.sbp_world.proofs.Hosts.Quadlets.{source_law}
use Rattle.sbp_world.proofs.Hosts.Runs.{count_after, count_between}
use Rattle.sbp_world.proofs.Hosts.Statuses.Runs.{taking_law}
use Rattle.sbp_world.proofs.Lists.Histories.{after_lines, between}
use Rattle.sbp_world.proofs.Lists.OpenFresh.{writes_of}
use Rattle.sbp_world.proofs.Lists.OpenProved.{After, facts_at, were_after}
use Rattle.sbp_world.proofs.Lists.Passing.{PassLaw}
use Rattle.sbp_world.proofs.Lists.Rises.{Rises, rises}
use Rattle.sbp_world.proofs.Lists.StatusKept.{statuses_of, untaken_above}
use Rattle.sbp_world.proofs.Lists.StatusKnown.{IsKnown}
use Rattle.sbp_world.proofs.Common.{delivers}

-- ---- a write of the target is taken as new once at most
abbrev pub Once : List Moment → Type 0
Once ms = (serial : ℕ) (packet : Sending) (access : Access) → (terms ms).sent serial ≡ Some packet → packet.from ≡ 0 → access_in_bytes packet.bytes ≡ Some access → access.is_write ≡ true → (terms ms).news serial ≤ 1

module _ (past : List Moment) (w : WorldState) (h : Stands past w) where
  wire_here : IsOfWire h.wire.past
  wire_here = subst IsOfWire (sym h.is.past_is) (laws_of past w h)

  honest : (serial : ℕ) (packet : Sending) → (terms h.wire.past).sent serial ≡ Some packet → (terms h.wire.past).injects packet.from ≡ false → packet.injected ≡ false
  honest serial packet there calm = by packet.injected refl
    where
      by : (b : Bool) → packet.injected ≡ b → b ≡ false
      by true e = let z = ((holds h.wire h.reached).facts.honest serial packet there).bold e in cc
      by false e = refl

  once_here : Once h.wire.past
  once_here serial packet access there of asks write =
      let calm : (terms h.wire.past).injects packet.from ≡ false = ap (λ j. (terms h.wire.past).injects j) of ∙ h.is.fair in
      let x = writes_of packet.bytes access asks write in
      (wire_here.once serial x.label packet there (honest serial packet there calm) x.part).most calm

  pub once_of : (ms : List Moment) → map said w.fresh ++ past ≡ ms → Once ms
  once_of ms e = subst Once (h.is.past_is ∙ e) once_here

  pub honest_of : (ms : List Moment) → map said w.fresh ++ past ≡ ms → (serial : ℕ) (packet : Sending) → (terms ms).sent serial ≡ Some packet → packet.from ≡ 0 → packet.injected ≡ false
  honest_of ms e =
      subst (λ p. (serial : ℕ) (packet : Sending) → (terms p).sent serial ≡ Some packet → packet.from ≡ 0 → packet.injected ≡ false) (h.is.past_is ∙ e)
      (λ serial packet there of. honest serial packet there (ap (λ j. (terms h.wire.past).injects j) of ∙ h.is.fair))

  pub rises_of : (ms : List Moment) → map said w.fresh ++ past ≡ ms → Rises ms
  rises_of ms e = subst Rises (h.is.past_is ∙ e) (rises h.wire h.reached)

-- ---- at a place
module _ (ms : List Moment) (wild : ℕ → Bool) (i : ℕ) (own : wild i ≡ false) (passes : PassLaw wild ms) (wire : IsOfWire ms) (once : Once ms) (rise : Rises ms) (takings : EachMoment (TakenOf i) ms) (sources : AllOfTarget ms i) (sent : EachMoment (SentSo i) ms) where
  known : IsKnown wild ms i
  known = record { passes = passes; takings = takings; sources = sources; rises = rise; judged = wire.judged; serials = wire.serials }

  pub statuses_in : AreStatuses ms i
  statuses_in = statuses_of wild i own ms wire.serials once known sent

  pub untaken_in : (n k : ℕ) → ends ms i n ≤ k → taken_at ms i n k ≡ None
  untaken_in n k l = by (taken_at ms i n k) refl
    where
      by : (o : Option TakenStatus) → taken_at ms i n k ≡ o → o ≡ None
      by None e = refl
      by (Some t) e = let b = untaken_above wild i own ms passes statuses_in n k (record { taken = t; is = e }) in absurd (omega (arith, b, l))

statuses_at : (ms : List Moment) (i : ℕ) → IsCalm ms i → PassLaw (injectors ms) ms → IsOfWire ms → Once ms → Rises ms → EachMoment (TakenOf i) ms → AllOfTarget ms i → EachMoment (SentSo i) ms → AreStatuses ms i
statuses_at ms i calm passes wire once rise takings sources sent = statuses_in ms (injectors ms) i calm passes wire once rise takings sources sent

untaken_at : (ms : List Moment) (i : ℕ) → IsCalm ms i → PassLaw (injectors ms) ms → IsOfWire ms → Once ms → Rises ms → EachMoment (TakenOf i) ms → AllOfTarget ms i → EachMoment (SentSo i) ms → (n k : ℕ) → ends ms i n ≤ k → taken_at ms i n k ≡ None
untaken_at ms i calm passes wire once rise takings sources sent n k l = untaken_in ms (injectors ms) i calm passes wire once rise takings sources sent n k l

pub delivering : (event : Event) (told : List (Option Told)) → DeliversMore event → IsDelivering event told
delivering (events.Step count) told d = tt
delivering events.Settle told d = tt
delivering _ told d = absurd d

-- ---- of a run
module _ (line : ℕ) (run : Run) (r : IsRun run) (has : 0 < run.units) (small : run.units ≤ 4) (size : length run.start.disks ≡ run.units) where
  abbrev last : Scene
  last = after (beginning run) run.entries

  abbrev stood : After line run r.few has small size run.entries last.world
  stood = were_after line run r.few has small size run.entries r.short r.entries r.lines

  abbrev past : List Moment
  past = history_of line run

  -- what holds of an initiator at the end of its lines
  pub after_by : (R : List Moment → ℕ → Type 0) → ((ms : List Moment) (i : ℕ) → IsCalm ms i → PassLaw (injectors ms) ms → IsOfWire ms → Once ms → Rises ms → EachMoment (TakenOf i) ms → AllOfTarget ms i → EachMoment (SentSo i) ms → R ms i) → OpenBefore line run run.entries → AllSentSo past last.world → (i : ℕ) → i < length last.world.initiators → IsCalm past i → R past i
  after_by R f so_far sent i b calm =
      let k = stood in
      let inside : i < run.initiators = subst (λ n. i < n) (count_after run run.entries) b in
      f past i calm (after_lines (injectors past) line run r has small size (λ j own. so_far) (λ j own. own)).law (subst IsOfWire k.is (laws_of k.past last.world k.holds.sound.stands)) (once_of k.past last.world k.holds.sound.stands past k.is) (rises_of k.past last.world k.holds.sound.stands past k.is)
      (taking_law.takings line run r i inside).taken (source_law.sources line run r i inside) (sent i b calm)

  module _ (next : ℕ) (most : Option ℕ) (told : List (Option Told)) (m : MayAll told (begun last)) where
    abbrev event : Event
    event = more_deliveries most

    abbrev end : WorldState
    end = (after_all told (begun last)).world

    abbrev now : List Moment
    now = map said end.fresh ++ asked next event ∷ past

    pub between_by : (R : List Moment → ℕ → Type 0) → ((ms : List Moment) (i : ℕ) → IsCalm ms i → PassLaw (injectors ms) ms → IsOfWire ms → Once ms → Rises ms → EachMoment (TakenOf i) ms → AllOfTarget ms i → EachMoment (SentSo i) ms → R ms i) → OpenBetween line run next event told → AllSentSo now end → (i : ℕ) → i < length end.initiators → IsCalm now i → R now i
    between_by R f so_far sent i b calm =
        let k = stood in
        let x = facts_at line run r.few has small size run.entries r.short r.entries r.lines k.past (length run.entries) k.holds k.is next event (delivers most) told m in
        let is : map said end.fresh ++ asked next event ∷ hist k.past last.world ≡ now = ap (λ ms. map said end.fresh ++ asked next event ∷ ms) k.is in
        let before = asked next event ∷ hist k.past last.world in
        let inside : i < run.initiators = subst (λ n. i < n) (count_between told last ∙ count_after run run.entries) b in
        f now i calm (between (injectors now) line run r has small size next event (delivers most) told m (λ j own. so_far) (λ j own. own)).law (subst IsOfWire is (laws_of before end x.holds.sound.stands)) (once_of before end x.holds.sound.stands now is) (rises_of before end x.holds.sound.stands now is)
        (taking_law.between line run r next most told m i inside).taken (source_law.between line run r next event told (delivering event told (delivers most)) m i inside) (sent i b calm)

-- where no initiator injected packets, or few logins were given
pub statuses_law : StatusesLaw
statuses_law = record {
  statuses = λ sent. record {
    after_lines = λ line run r has small size so_far beside. after_by line run r has small size AreStatuses statuses_at so_far (sent.after_lines line run r has small size so_far beside);
    between = λ line run r has small size next most told m so_far beside. between_by line run r has small size next most told m AreStatuses statuses_at so_far (sent.between line run r has small size next most told m so_far beside);
  };
  untaken = λ sent. record {
    after_lines = λ line run r has small size so_far beside. after_by line run r has small size (λ ms i. (n k : ℕ) → ends ms i n ≤ k → taken_at ms i n k ≡ None) untaken_at so_far (sent.after_lines line run r has small size so_far beside);
    between = λ line run r has small size next most told m so_far beside. between_by line run r has small size next most told m (λ ms i. (n k : ℕ) → ends ms i n ≤ k → taken_at ms i n k ≡ None) untaken_at so_far (sent.between line run r has small size next most told m so_far beside);
  };
}
