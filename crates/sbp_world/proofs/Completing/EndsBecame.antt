-- In every run all goes well for an operation of management that an initiator has under way, where nobody injected packets and nothing was lost: so it has become what a taken write becomes.
use Rattle.sbp_world.proofs.Words.Std.{arith, ◌≡◌, ◌∙◌, inl, refl, sym, ap, subst, ℕ, suc, ◌<◌, ◌≤◌, ◌++◌, Bool, true, false, List, [], ◌∷◌, map, Some, same_Some}
use Rattle.sbp_world.proofs.Words.Wire.{AreJudged, Moment, Sending, SerialsCount, asked, begun_in, part_of, request, said, terms, writing}
use Rattle.sbp_world.proofs.Words.Target.{Disk}
use Rattle.sbp_world.proofs.Words.Laws.{EachMoment, Underway}
use Rattle.sbp_world.proofs.Words.World.{WorldState, after, after_all, beginning, begun, history_of, more_deliveries}
use Rattle.bus_transactions.specs.Carried.{AreKept}
use Rattle.bus_transactions.proofs.Reaches.{law_of as wire_law}
use Rattle.sbp_journal.specs.declared.cause.Cause.TheVariants as causes
use Rattle.sbp_journal.specs.declared.note.Note.TheVariants as notes
use Rattle.sbp_laws.specs.Packets.{answered_as, answered_in}
use Rattle.sbp_world.specs.Completing.EndsAimed.{IsAimed}
use Rattle.sbp_world.specs.Completing.EndsBecame.{AllManagedWell, BecameLaw, IsTakenUp, ManagesWell}
use Rattle.sbp_world.specs.Completing.EndsLevels.{AreRisen, IsLevel, LevelAt, RisesAt}
use Rattle.sbp_world.specs.Completing.EndsTaken.{Became, GoesWell, IsFirstAt, IsSmooth}
use Rattle.sbp_world.proofs.Common.{delivers, untrue}
use Rattle.sbp_world.proofs.Completing.EndsAimed.{aimed_law}
use Rattle.sbp_world.proofs.Completing.EndsLevels.{RisenLaw, bus_grows, judged_behind, late_bus, level_law, risen_always, seen_of, sent_kept}
use Rattle.sbp_world.proofs.Completing.EndsTaken.{taken_write_law}
use Rattle.sbp_world.proofs.Completing.LabelsPlaces.{IsHolding, holding_everywhere}
use Rattle.sbp_world.proofs.Hosts.Remaining.{serials_behind}
use Rattle.sbp_world.proofs.Hosts.Runs.{count_after, count_between}
use Rattle.sbp_world.proofs.Hosts.SentMoments.{sent_below}
use Rattle.sbp_world.proofs.Lists.Clauses.{open_lists_law}
use Rattle.sbp_world.proofs.Lists.ListsProved.{closing}
use Rattle.sbp_world.proofs.Lists.ManageMoments.{MayHand, TakeFacts}
use Rattle.sbp_world.proofs.Lists.ManageProved.{one_in_hand_law}
use Rattle.sbp_world.proofs.Lists.ManageSends.{opened_terms}
use Rattle.sbp_world.proofs.Lists.ManageStays.{zero_or}
use Rattle.sbp_world.proofs.Wire.Starts.{laws_of}

-- ---- nothing was lost before, in the latest generation
abbrev is_reset : Moment → Bool
is_reset (said (notes.Reset generation)) = true
is_reset moment = false

kept_behind : (m : Moment) (past : List Moment) → is_reset m ≡ false → AreKept (m ∷ past) → AreKept past
kept_behind (said (notes.Reset generation)) past e k = untrue (sym e)
kept_behind (said (notes.Lost s)) past e k = absurd k
kept_behind (said (notes.TimedOut s)) past e k = absurd k
kept_behind (said (notes.Injected s)) past e k = absurd k
kept_behind (said (notes.Ignored s causes.Generation)) past e k = k.1
kept_behind (said note) past e k = k
kept_behind (asked line event) past e k = k

module _ (m : Moment) (past : List Moment) (rises : RisesAt m past) (B : ℕ) (low : (terms (m ∷ past)).bus ≤ B) (kept : (terms (m ∷ past)).bus ≡ B → AreKept (m ∷ past)) (e : (terms past).bus ≡ B) where
  kept_apart : is_reset m ≡ false → AreKept past
  kept_apart f = let grow = bus_grows m past rises in kept_behind m past f (kept (omega (arith, grow, low, e)))

pub kept_back : (m : Moment) (past : List Moment) (rises : RisesAt m past) (B : ℕ) (low : (terms (m ∷ past)).bus ≤ B) (kept : (terms (m ∷ past)).bus ≡ B → AreKept (m ∷ past)) (e : (terms past).bus ≡ B) → AreKept past
kept_back (said (notes.Reset generation)) past rises B low kept e = absurd (omega (arith, rises, low, e))
kept_back (said note) past rises B low kept e = kept_apart (said note) past rises B low kept e refl
kept_back (asked line event) past rises B low kept e = kept_apart (asked line event) past rises B low kept e refl

-- ---- each moment
module _ (start : List Disk) (i write : ℕ) (q : Sending) (to_target : q.to ≡ 0) (label : ℕ) (part : part_of q.bytes ≡ request label writing) where
  -- behind which the write was taken
  module _ (past : List Moment) (k : AreRisen past) (j : AreJudged past) (c : SerialsCount past) (level : IsLevel past q) (taken : 0 < (terms past).news write) where
    in_it : (terms past).generation 0 ≡ q.generation
    in_it = ap (terms past).generation (sym to_target) ∙ level.here

    counted : (r : ℕ) → 0 < (terms past).news r → r ≤ (terms past).count
    counted r l = let w = seen_of past k j c r l in sent_below past r w.packet c w.sent

    smooth : (m : Moment) → SerialsCount (m ∷ past) → RisesAt m past → ManagesWell start q.generation m past → ((terms (m ∷ past)).bus ≡ q.generation → AreKept (m ∷ past)) → IsSmooth start i write q.generation m past
    smooth (asked line event) count rises well kept = (opened_terms event (terms past)).ids q.generation (suc i) (let l = level.latest in omega (arith, l))
    smooth (said (notes.Sent serial g from to bytes)) count rises well kept =
        let l = counted write taken in
        let next = count.0 in
        (omega (arith, l, next), zero_or ((terms past).news serial) (λ e. e) (λ x. let y = counted serial x in absurd (omega (arith, y, next))))
    smooth (said (notes.Got serial)) count rises well kept = well in_it
    smooth (said (notes.TimedOut serial)) count rises well kept = kept (late_bus (begun_in ((terms past).sent serial)) (terms past) ∙ level.latest)
    smooth (said (notes.Seen node seen)) count rises well kept = λ zero_is. rises ∙ (level.latest ∙ sym in_it)
    smooth (said (notes.ManageFailed other cause)) count rises well kept = well in_it
    smooth (said note) count rises well kept = tt

  -- at which it is
  first : (m : Moment) (past : List Moment) → MayHand start i m past → ((p : Sending) → (terms past).sent write ≡ Some p → p ≡ q) → IsFirstAt write q m past
  first (said (notes.Got serial)) past hand is = λ at.
      let t : TakeFacts start past i serial = hand in
      let sent : (terms past).sent write ≡ Some t.packet = ap (terms past).sent (sym at) ∙ t.facts.sent in
      let same : t.packet ≡ q = is t.packet sent in
      let current : q.generation ≡ (terms past).generation q.to = subst (λ (p : Sending). p.generation ≡ (terms past).generation p.to) same t.facts.current in
      record {
        current = ap (terms past).generation (sym to_target) ∙ sym current;
        request = ap (answered_in (terms past)) (sent ∙ ap (λ (p : Sending). Some p) same) ∙ ap (λ x. answered_as x (terms past) q) part;
      }
  first (said note) past hand is = tt
  first (asked line event) past hand is = tt

  all_well : (past : List Moment) → AreRisen past → AreJudged past → SerialsCount past → EachMoment (LevelAt write q) past → EachMoment (MayHand start i) past → EachMoment (ManagesWell start q.generation) past → (terms past).bus ≤ q.generation → ((terms past).bus ≡ q.generation → AreKept past) → ((p : Sending) → (terms past).sent write ≡ Some p → p ≡ q) → EachMoment (GoesWell start i write q) past
  all_well [] k j c level hands well low kept is = tt
  all_well (m ∷ past) k j c level hands well low kept is =
      let back = serials_behind m past c in
      let behind = judged_behind m past j in
      let before : (p : Sending) → (terms past).sent write ≡ Some p → p ≡ q = λ p e. is p (sent_kept m past c write p e) in
      let grow = bus_grows m past k.0 in (
        record {
          behind = λ taken. smooth past k.1 behind back (level.0 taken) taken m c k.0 well.0 kept;
          first = λ new. first m past hands.0 before;
        },
        all_well past k.1 behind back level.1 hands.1 well.1 (omega (arith, low, grow)) (kept_back m past k.0 q.generation low kept) before,
      )

-- ---- at a place
became_here : (disks : List Disk) (now : List Moment) (w : WorldState) → IsHolding disks now w → AreKept now → AllManagedWell disks now → (i : ℕ) → EachMoment (MayHand disks i) now → (u : Underway) → IsTakenUp now i u → (a : IsAimed now i u.place u.first) → EachMoment (LevelAt u.first a.packet) now → Became disks now i u.first u.place (terms now).bus
became_here disks now w h kept well i hands u x a level =
    let stands = h.holds.sound.stands in
    let laws = laws_of h.past w stands in
    let latest : a.packet.generation ≡ (terms now).bus = a.current ∙ x.latest in
    let counts = subst SerialsCount h.is laws.serials in
    subst (Became disks now i u.first u.place) latest
    (taken_write_law disks now counts i u.first u.place a.packet a.for_place
    (all_well disks i u.first a.packet a.for_place.to_is a.label a.part now (subst AreRisen (stands.is.past_is ∙ h.is) (wire_law RisenLaw risen_always stands.wire stands.reached)) (subst AreJudged h.is laws.judged) counts level hands (subst (λ n. EachMoment (ManagesWell disks n) now) (sym latest) well)
    (omega (arith, latest)) (λ e. kept) (λ p e. same_Some p a.packet (sym e ∙ a.sent)))
    a.sent x.taken)

-- ---- each run
pub became_law : BecameLaw
became_law = record {
  after_lines = λ line run r has small size tame kept well i b u x.
      let w = (after (beginning run) run.entries).world in
      let inside : i < run.initiators = subst (λ n. i < n) (count_after run run.entries) b in
      let so_far = closing.before open_lists_law line run r has small size (inl tame) in
      let a = aimed_law.after_lines line run r has small size (inl tame) i b (tame i) u x.is x.manages in
      became_here run.start.disks (history_of line run) w (holding_everywhere.after_lines line run r has small size) kept well i (one_in_hand_law.after_lines line run r has small size so_far i inside (tame i)) u x a
      (level_law.after_lines line run r has small size u.first a.packet a.sent (a.current ∙ x.latest));
  between = λ line run r has small size next most told m tame kept well i b u x.
      let here = after (beginning run) run.entries in
      let w = (after_all told (begun here)).world in
      let now = map said w.fresh ++ asked next (more_deliveries most) ∷ history_of line run in
      let inside : i < run.initiators = subst (λ n. i < n) (count_between told here ∙ count_after run run.entries) b in
      let so_far = closing.between open_lists_law line run r has small size next (more_deliveries most) (delivers most) told m (inl tame) in
      let a = aimed_law.between line run r has small size next most told m (inl tame) i b (tame i) u x.is x.manages in
      became_here run.start.disks now w (holding_everywhere.between line run r has small size next most told m) kept well i (one_in_hand_law.between line run r has small size next most told m so_far i inside (tame i)) u x a
      (level_law.between line run r has small size next most told m u.first a.packet a.sent (a.current ∙ x.latest));
}
