-- In a run in which lists were open as they should be before, an ORB that ran, of a list that was not cut and of which none has ended, is at an agent that has the list
-- open: kept by each turn, by what the turn is to the target.
use Rattle.sbp_world.proofs.Words.Std.{arith, ◌≡◌, ◌∙◌, refl, sym, ap, subst, inl, inr, ◌⊎◌, ◌<◌, ℕ, List, [], ◌∷◌, Bool, Some}
use Rattle.sbp_world.proofs.Words.Wire.{holder_at, Event, Moment, asked, said}
use Rattle.sbp_world.proofs.Words.Target.{Disk, alone, NodeState, TargetScene, desk_at, with_key}
use Rattle.sbp_world.proofs.Words.Laws.{ends, runs}
use Rattle.sbp_world.proofs.Words.World.{moments_behind, Run, beginning, holder, told_all, WorldState, orbs, initiator_in}
use Rattle.sbp_journal.specs.declared.note.Note.TheVariants as notes
use Rattle.sbp_world.proofs.Wire.Nodes.{handed_alike}
use Rattle.sbp_world.proofs.Agents.Management.Still.{hist}
use Rattle.sbp_world.proofs.Agents.Peers.{all_sent_places}
use Rattle.sbp_world.proofs.Lists.Busy.{is_busy, some_ended}
use Rattle.sbp_world.proofs.Lists.OpenCuts.{Listing}
use Rattle.sbp_world.proofs.Lists.Passing.{PassLaw}
use Rattle.sbp_world.proofs.Lists.PlaceOwners.{Owns, walk_owns}
use Rattle.sbp_world.proofs.Lists.TurnCalls.{IsCalled, TurnCalls, TurnFrom, calls, keyed, leaves}
use Rattle.sbp_world.proofs.Lists.TurnWalk.{AreNumbered, turn_from}
use Rattle.sbp_world.proofs.Lists.UnrunTurns.{AreBusy, AreIdle, AreLatest, IsBusyFor, call_busy, stays_busy}
use Rattle.sbp_world.proofs.Lists.Walks.{Standing, Walks}

-- what is known of a place
record Facts (wild : ℕ → Bool) (ms : List Moment) (w : WorldState) : Type 0 where
  latest : AreLatest wild ms w
  idle : AreIdle wild ms w
  passes : PassLaw wild ms

facts_of : (wild : ℕ → Bool) (units ready : ℕ) (start : List Disk) (past : List Moment) (lines : ℕ) (w : WorldState) → Standing wild units ready start past lines w → Facts wild (hist past w) w
facts_of wild units ready start past lines w s = record {
  latest = λ q b h own n e.
      let o = (s.lists (initiator_in w q) own).listed q b h (s.reached.calm (initiator_in w q) own) in
      let f = o.still.latest in
      let same : o.n ≡ n = omega (arith, e, f) in
      o.list ∙ ap Some same;
  idle = λ q b h own idle n e none.
      let i = initiator_in w q in
      let o = (s.lists i own).listed q b h (s.reached.calm i own) in
      let f = o.still.latest in
      let same : o.n ≡ n = omega (arith, e, f) in
      let a = s.reached.kept.agents q b h o.n o.list own in
      some_ended (orbs (hist past w) i o.n) a.progress _ h idle a.along (a.is ∙ (ap (ends (hist past w) i) same ∙ none));
  passes = s.reached.kept.passes;
}

-- ---- a line begins
facts_asked : (wild : ℕ → Bool) (line : ℕ) (event : Event) (ms : List Moment) (w : WorldState) → Facts wild ms w → Facts wild (asked line event ∷ ms) w
facts_asked wild line event ms w f = record { latest = λ q b h own n e. f.latest q b h own n e; idle = λ q b h own idle n e none. f.idle q b h own idle n e none; passes = (tt, f.passes) }

asked_busy : (wild : ℕ → Bool) (line : ℕ) (event : Event) (ms : List Moment) (w : WorldState) → AreBusy wild ms w → AreBusy wild (asked line event ∷ ms) w
asked_busy wild line event ms w o i own n opened none = o i own n (record { latest = opened.latest; uncut = opened.uncut }) none

-- ---- a turn from a world that has the target and the places of another
module _ (wild : ℕ → Bool) (past : List Moment) (w v : WorldState) (f : Facts wild (hist past w) w) (owns : Owns w v) (o : AreBusy wild (hist past w) w) (passes : PassLaw wild (hist past v)) where
  -- a call of the target
  module _ (c : IsCalled past w v) where
    abbrev t : TargetScene
    t = alone c.call w.target

    target_is : v.target ≡ t.node
    target_is = ap (λ (x : WorldState). x.target) c.is ∙ ((handed_alike 0 0 t.outbox c.u).target ∙ c.target)

    holders : (p : ℕ) → p < 8 → Listing t.node p → (holder (told_all 0 t.outbox.sides c.u) p).initiator ≡ initiator_in w p
    holders p b l =
        sym (ap (λ ps. (holder_at ps p).initiator) (ap (λ (x : WorldState). x.places) c.is ∙ all_sent_places 0 t.outbox.packets (told_all 0 t.outbox.sides c.u)))
        ∙ owns p b (subst (λ (n : NodeState). Listing n p) (sym target_is) l)

    called_busy : AreBusy wild (hist past v) v
    called_busy =
        subst (λ (x : WorldState). AreBusy wild (hist past x) x) (sym c.is)
        (call_busy wild past w o f.latest f.idle c.good c.u c.first c.starts c.fresh c.places c.layer t.node t.outbox c.target c.called c.others holders
        (subst (λ (x : WorldState). PassLaw wild (hist past x)) c.is passes))

  -- a unit gets a key
  key_busy : (unit : ℕ) (key : List ℕ) → v.target ≡ with_key unit key w.target → v.places ≡ w.places → hist past v ≡ said (notes.Key unit) ∷ hist past w → AreBusy wild (hist past v) v
  key_busy unit key target places is = subst (λ ms. AreBusy wild ms v) (sym is) (λ i own n opened none. by i n (o i own n (record { latest = opened.latest; uncut = opened.uncut }) none))
    where
      by : (i n : ℕ) → (runs (hist past w) i n 0 ≡ 0) ⊎ IsBusyFor w i → (runs (said (notes.Key unit) ∷ hist past w) i n 0 ≡ 0) ⊎ IsBusyFor v i
      by i n (inl e) = inl e
      by i n (inr b) = inr (record {
        place = b.place;
        small = b.small;
        initiator_is = ap (λ ps. (holder_at ps b.place).initiator) places ∙ b.initiator_is;
        busy = ap (λ (x : NodeState). is_busy (desk_at x b.place).agent.phase) target ∙ b.busy;
      })

  turned_busy : TurnCalls wild past w v → AreBusy wild (hist past v) v
  turned_busy (leaves s none) = stays_busy wild past w v f.passes s o
  turned_busy (keyed unit key target places is) = key_busy unit key target places is
  turned_busy (calls c) = called_busy c

-- ---- each turn
module _ (wild : ℕ → Bool) (past : List Moment) (before : WorldState) (later : List Moment) (v : WorldState) (x : TurnFrom wild past before later v) where
  abbrev Known : List Moment → WorldState → Type 0
  Known ms w = Facts wild ms w × AreBusy wild ms w

  -- what is known is of the target and the places alone
  as_there : (ms : List Moment) → Known ms before → Known ms x.w
  as_there ms k =
      let w = x.w in
      let latest = subst (λ ps. AreLatest wild ms (record before { target = w.target; places = ps })) (sym x.places) (subst (λ (n : NodeState). AreLatest wild ms (record before { target = n })) (sym x.target) k.0.latest) in
      let idle = subst (λ ps. AreIdle wild ms (record before { target = w.target; places = ps })) (sym x.places) (subst (λ (n : NodeState). AreIdle wild ms (record before { target = n })) (sym x.target) k.0.idle) in
      (record { latest = latest; idle = idle; passes = k.0.passes }, λ i own n opened none. by i n (k.1 i own n opened none))
    where
      by : (i n : ℕ) → (runs ms i n 0 ≡ 0) ⊎ IsBusyFor before i → (runs ms i n 0 ≡ 0) ⊎ IsBusyFor x.w i
      by i n (inl e) = inl e
      by i n (inr b) = inr (record {
        place = b.place;
        small = b.small;
        initiator_is = ap (λ ps. (holder_at ps b.place).initiator) x.places ∙ b.initiator_is;
        busy = ap (λ (t : NodeState). is_busy (desk_at t b.place).agent.phase) x.target ∙ b.busy;
      })

  begins : Known (hist past before) before → (hist later x.w ≡ hist past before) ⊎ ((line : ℕ) × ((event : Event) × (hist later x.w ≡ asked line event ∷ hist past before))) → Known (hist later x.w) x.w
  begins k (inl e) = subst (λ ms. Known ms x.w) (sym e) (as_there (hist past before) k)
  begins k (inr h) =
      subst (λ ms. Known ms x.w) (sym h.1.1)
      (as_there (asked h.0 h.1.0 ∷ hist past before) (facts_asked wild h.0 h.1.0 (hist past before) before k.0, asked_busy wild h.0 h.1.0 (hist past before) before k.1))

  turn_busy : Known (hist past before) before → Owns before v → PassLaw wild (hist later v) → AreBusy wild (hist later v) v
  turn_busy k owns passes =
      let n = begins k x.begins in
      turned_busy wild later x.w v n.0 (λ p b l. owns p b l ∙ sym (ap (λ ps. (holder_at ps p).initiator) x.places)) n.1 passes x.turn

-- nothing more is needed of the places before
abbrev pub Nothing : List Moment → WorldState → Type 0
Nothing ms w = Unit {0}

pub busy_walk : (wild : ℕ → Bool) (units ready : ℕ) → 0 < units → (start : List Disk) → Walks wild units ready start AreNumbered Nothing (AreBusy wild)
busy_walk wild units ready has start past s later t step b =
    turn_busy wild past s.world later t.world (turn_from wild units ready has start AreNumbered Nothing past s later t step step.known) (facts_of wild units ready start past step.lines s.world step.stands, b)
    (walk_owns units ready has start s step.stands.reached.holds step.stands.reached.site.held later t step.turn) step.reaches.kept.passes

pub first_busy : (wild : ℕ → Bool) (line : ℕ) (run : Run) → AreBusy wild (moments_behind line run []) (beginning run).world
first_busy wild line run i own n opened none = inl refl
