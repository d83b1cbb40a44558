-- A write of data is of an ORB whose slot has it until its status is taken, while its initiator is in the generation of the write.
use Rattle.sbp_world.proofs.Words.Std.{arith, ◌≡◌, ◌∙◌, refl, sym, ap, subst, inl, inr, ◌⊎◌, ◌<◌, ◌≤◌, ◌==◌, ℕ, suc, Bool, true, false, List, [], ◌∷◌, ◌++◌, length, Some, None, none-some}
use Rattle.sbp_world.proofs.Words.Wire.{SerialsCount, Moment, said, Sending, terms}
use Rattle.sbp_world.proofs.Words.Target.{Disk}
use Rattle.sbp_world.proofs.Words.Laws.{Orb, is_over, orb, taken_at, ends, runs, EachMoment}
use Rattle.sbp_world.proofs.Words.World.{moments_behind, Run, beginning, WorldState, more_deliveries, Always, Under, WhereTameOrFew, AllDataHeld, AreDataHeld, AllDataSo, DataSo, IsDataWrite, WasPiece, HasSlot, IsGone, saw, was_over, IsToHost, IsTameOrFew, UnderFrom}
use Rattle.sbp_journal.specs.declared.note.Note.TheVariants as notes
use Rattle.sbp_world.proofs.Agents.Management.Still.{hist}
use Rattle.sbp_world.proofs.Hosts.SentMoments.{WasSent, sent_moment}
use Rattle.sbp_world.specs.Lists.DataHolds.{IsOfOrb}
use Rattle.sbp_world.proofs.Lists.DataTurns.{ran_on}
use Rattle.sbp_world.proofs.Lists.Rises.{Rises}
use Rattle.sbp_world.proofs.Lists.SlotsHeld.{slots_stay_law}
use Rattle.sbp_world.proofs.Lists.StatusKnown.{each_from, generation_grows, unlike, own_sight}
use Rattle.sbp_world.proofs.Lists.StatusMoments.{HasTaken, over_taken, taken_stays}
use Rattle.sbp_world.proofs.Lists.StatusRuns.{rises_of}
use Rattle.sbp_world.proofs.Lists.TameWalks.{from_after, from_between}
use Rattle.sbp_world.proofs.Lists.Beside.{tame_or_few_before}
use Rattle.sbp_world.proofs.Lists.Walks.{Walks}
use Rattle.sbp_world.proofs.Common.{moments_split, delivers}

-- ---- a slot keeps its ORB in a generation until its status is taken
module _ (i slot : ℕ) (one : Orb) (mid before : List Moment) (rises : Rises (mid ++ before)) (same : (terms before).generation (suc i) ≡ (terms (mid ++ before)).generation (suc i)) where
  none_saw : (front back : List Moment) (generation : ℕ) → front ++ said (notes.Seen (suc i) generation) ∷ back ≡ mid → (generation == (terms (back ++ before)).generation (suc i)) ≡ false → ⊥
  none_saw front back generation is differs =
      let x = said (notes.Seen (suc i) generation) in
      let there = x ∷ (back ++ before) in
      let whole : front ++ there ≡ mid ++ before = moments_split front (x ∷ back) before ∙ ap (λ ms. ms ++ before) is in
      let up : Rises (front ++ there) = subst Rises (sym whole) rises in
      let here : Rises there = each_from _ front there up in
      let a = generation_grows back before (suc i) here.1 in
      let b : (terms (back ++ before)).generation (suc i) ≤ generation = here.0 in
      let c : (terms there).generation (suc i) ≡ generation = own_sight (suc i) generation (terms (back ++ before)).generation in
      let d = generation_grows front there (suc i) up in
      let e : (terms (front ++ there)).generation (suc i) ≡ (terms (mid ++ before)).generation (suc i) = ap (λ ms. (terms ms).generation (suc i)) whole in
      let f : generation ≡ (terms (back ++ before)).generation (suc i) → ⊥ = unlike generation ((terms (back ++ before)).generation (suc i)) differs in
      f (omega (arith, a, b, c, d, e, same))

  none_over : taken_at (mid ++ before) i one.list one.number ≡ None → (front back : List Moment) → front ++ back ≡ mid → HasTaken (back ++ before) i one.list one.number → ⊥
  none_over none front back is taken =
      let whole : front ++ (back ++ before) ≡ mid ++ before = moments_split front back before ∙ ap (λ ms. ms ++ before) is in
      let later = subst (λ ms. HasTaken ms i one.list one.number) whole (taken_stays front (back ++ before) i one.list one.number taken) in
      let z : None ≡ Some later.taken = sym none ∙ later.is in cc

  -- and longer, if it is not over by then
  pub slot_stays_unless : ((front back : List Moment) → front ++ back ≡ mid → is_over (back ++ before) i one ≡ true → ⊥) → HasSlot before i slot one → HasSlot (mid ++ before) i slot one
  slot_stays_unless none h = by (slots_stay_law.stays mid before i slot one h)
    where
      by : HasSlot (mid ++ before) i slot one ⊎ IsGone mid before i one → HasSlot (mid ++ before) i slot one
      by (inl g) = g
      by (inr (was_over front back is o)) = absurd (none front back is o)
      by (inr (saw front back generation is d)) = absurd (none_saw front back generation is d)

  pub slot_stays : taken_at (mid ++ before) i one.list one.number ≡ None → HasSlot before i slot one → HasSlot (mid ++ before) i slot one
  slot_stays none h = slot_stays_unless (λ front back is o. none_over none front back is (over_taken (back ++ before) i one o)) h

-- ---- in a history in which data are sent as they are to be
module _ (start : List Disk) (ms : List Moment) (i : ℕ) (rises : Rises ms) (serials : SerialsCount ms) (each : EachMoment (DataSo start i) ms) where
  module _ (serial slot : ℕ) (packet : Sending) (t : IsToHost ms i serial packet) (x : IsDataWrite packet.bytes slot) where
    s : WasSent ms serial packet
    s = sent_moment ms serial packet t.is

    abbrev leaves : Moment
    leaves = said (notes.Sent serial packet.generation packet.from packet.to packet.bytes)

    so : DataSo start i leaves s.before
    so = (each_from (DataSo start i) s.later (leaves ∷ s.before) (subst (EachMoment (DataSo start i)) (sym s.is) each)).0

    was : WasPiece start s.before i packet.generation slot x.access
    was = so t.from_target t.to_host slot x

    abbrev mid : List Moment
    mid = s.later ++ leaves ∷ was.later

    whole : mid ++ was.before ≡ ms
    whole = sym (moments_split s.later (leaves ∷ was.later) was.before) ∙ (ap (λ h. s.later ++ leaves ∷ h) was.is ∙ s.is)

    up : Rises (mid ++ was.before)
    up = subst Rises (sym whole) rises

    grows : (terms was.before).generation (suc i) ≤ (terms ms).generation (suc i)
    grows = subst (λ h. (terms was.before).generation (suc i) ≤ (terms h).generation (suc i)) whole (generation_grows mid was.before (suc i) up)

    seen_so : packet.generation ≤ (terms ms).generation (suc i)
    seen_so = let a = was.seen in let b = grows in omega (arith, a, b)

    ran_so : 0 < runs ms i was.list (ends was.before i was.list)
    ran_so =
        subst (λ h. 0 < runs h i was.list (ends was.before i was.list)) (sym (moments_split s.later (leaves ∷ []) s.before) ∙ s.is)
        (ran_on (s.later ++ leaves ∷ []) s.before i was.list (ends was.before i was.list) was.ran)

    held_so : packet.generation ≡ (terms ms).generation (suc i) → IsOfOrb ms i slot
    held_so current =
        let a = was.seen in
        let b = grows in
        let here : packet.generation ≡ (terms was.before).generation (suc i) = omega (arith, a, b, current) in
        let then : (terms was.before).generation (suc i) ≡ (terms (mid ++ was.before)).generation (suc i) = sym here ∙ (current ∙ ap (λ h. (terms h).generation (suc i)) (sym whole)) in
        record {
          list = was.list;
          number = ends was.before i was.list;
          ran = ran_so;
          held = λ none.
              subst (λ h. HasSlot h i slot (orb was.list (ends was.before i was.list))) whole
              (slot_stays i slot (orb was.list (ends was.before i was.list)) mid was.before up then (ap (λ h. taken_at h i was.list (ends was.before i was.list)) whole ∙ none) (was.held here));
        }

  pub data_held : AreDataHeld ms i
  data_held = record { seen = seen_so; held = held_so }

-- ---- over a run in which no initiator injected packets
abbrev Nothing : List Moment → WorldState → Type 0
Nothing past w = Unit {0}

nothing : Always Nothing
nothing = record { after_lines = λ line run r has small size. tt; between = λ line run r has small size next most told m. tt }

abbrev AllHeld : (ℕ → Bool) → List Moment → WorldState → Type 0
AllHeld wild ms w = (i : ℕ) → i < length w.initiators → wild i ≡ false → AreDataHeld ms i

held_walk : (wild : ℕ → Bool) (units ready : ℕ) → 0 < units → (start : List Disk) → Walks wild units ready start Nothing (AllDataSo start) (AllHeld wild)
held_walk wild units ready has start past s later t step p i b own =
    data_held start (hist later t.world) i (rises_of later t.world step.reaches.holds.sound.stands (hist later t.world) refl) step.reaches.site.serials ((step.so_far_then i own) i b (step.reaches.calm i own))

first_held : (wild : ℕ → Bool) (line : ℕ) (run : Run) → AllHeld wild (moments_behind line run []) (beginning run).world
first_held wild line run i b own = record {
  seen = λ serial slot packet t x. absurd (none-some packet t.is);
  held = λ serial slot packet t x. absurd (none-some packet t.is);
}

pub held_law : UnderFrom (λ start. WhereTameOrFew (AllDataSo start)) → Under (WhereTameOrFew AllDataHeld)
held_law sends = record {
  after_lines = λ line run r has small size so_far tame i b calm. from_after IsTameOrFew tame_or_few_before Nothing AllDataSo (λ start. AllHeld) nothing sends held_walk first_held line run r has small size so_far tame i b calm;
  between = λ line run r has small size next most told m so_far tame i b calm.
      from_between IsTameOrFew tame_or_few_before Nothing AllDataSo (λ start. AllHeld) nothing sends held_walk first_held line run r has small size next (more_deliveries most) (delivers most) told m so_far tame i b calm;
}
