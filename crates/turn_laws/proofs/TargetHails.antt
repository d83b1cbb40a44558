-- In each turn of the target a packet that nothing wants as it is sent goes to an initiator of which `unsolicited` is told in the turn; and no other turn has a packet of the target.
use Rattle.std.proofs.Common.{arith, ◌≡◌, ◌∙◌, refl, sym, ap, subst, inl, inr, ◌⊎◌, ℕ, suc, ◌+◌, ◌<◌, nat_eq, Bool, true, false, List, [], ◌∷◌, ◌++◌, length, Option, Some}
use Rattle.std.proofs.Math.Nat.{suc-ne-zero}
use Rattle.std.proofs.lemmas.Bool.Decides.{nat_tests}
use Rattle.rbc_disk.specs.Disk.{Disk}
use Rattle.sbp_bus.specs.Packets.{judged_note}
use Rattle.sbp_bus.specs.Places.{or_nobody}
use Rattle.sbp_bus.specs.Telling.{list_in}
use Rattle.sbp_bus.specs.declared.places.Holder.{Holder}
use Rattle.sbp_bus.specs.Generations.{id_of}
use Rattle.sbp_initiator.specs.Receiving.{receive_step}
use Rattle.sbp_journal.specs.Outgoings.{OutboxState, empty_outbox}
use Rattle.sbp_journal.specs.Run.{Moment, asked, said}
use Rattle.sbp_journal.specs.Wire.{Terms, noted, terms}
use Rattle.sbp_journal.specs.declared.cause.Judged.{Judged}
use Rattle.sbp_journal.specs.declared.cause.Judged.TheVariants as judgements
use Rattle.sbp_journal.specs.declared.event.Event.{Event}
use Rattle.sbp_journal.specs.declared.event.Event.TheVariants as events
use Rattle.sbp_journal.specs.declared.note.Note.{Note}
use Rattle.sbp_journal.specs.declared.note.Note.TheVariants as notes
use Rattle.sbp_journal.specs.declared.side.Side.{Side}
use Rattle.sbp_journal.specs.declared.side.Side.TheVariants as sides
use Rattle.sbp_laws.specs.Packets.{receiver_in}
use Rattle.sbp_laws.specs.SentLaw.{end_of}
use Rattle.sbp_laws.specs.Turns.{EachTurn, Turn, sends_of, turn}
use Rattle.sbp_target.specs.Nodes as target
use Rattle.sbp_target.specs.Receiving.{received, seen, ticked}
use Rattle.sbp_world.specs.Delivering.{faults_after, marked, whole_of}
use Rattle.sbp_world.specs.Handing.{handed_out}
use Rattle.sbp_world.specs.Lines.{weight_in}
use Rattle.sbp_world.specs.Nodes.{told_seen, with_seen}
use Rattle.sbp_world.specs.Telling.{holder, ticket_at, told as told_one, told_all}
use Rattle.sbp_world.specs.Worlds.{Scene, WorldState, initiator_at, with_initiator, with_note, with_target, without_notes}
use Rattle.sbp_world.proofs.Agents.Management.Calm.{AreQuiet, IsQuiet}
use Rattle.sbp_world.proofs.Agents.Management.Holding.{past_terms}
use Rattle.sbp_world.proofs.Agents.Management.Still.{hist}
use Rattle.sbp_world.proofs.Common.{equal_numbers, untrue}
use Rattle.sbp_world.proofs.Formed.{AreOwn}
use Rattle.sbp_world.proofs.Lists.Extends.{marked_fresh}
use Rattle.sbp_world.proofs.Lists.OpenPlaces.{Has as HasPlace, opened_here, opened_there}
use Rattle.bus_transactions.proofs.Reaches.{goes_on}
use Rattle.turn_laws.specs.Alone.{PushesAlone}
use Rattle.turn_laws.specs.Runs.{OfEveryRun}
use Rattle.turn_laws.proofs.Alone.{alone_cases, first_kept_here}
use Rattle.turn_laws.proofs.Announcing.{got_ids}
use Rattle.turn_laws.proofs.BehindTurns.{noted as noted_behind}
use Rattle.turn_laws.proofs.Calls.{Brings, CarriedCases, Stays, calls, injects, loses, refuses, refuses_action, resets, sets_key}
use Rattle.turn_laws.proofs.Handed.{AllInner, handed, handed_inner, note_of, notes_sent, notes_told, onto, others_inner}
use Rattle.turn_laws.proofs.LaterNotes.{ArePlain, IsPlain, owns_handed}
use Rattle.turn_laws.proofs.LaterTerms.{Pushes}
use Rattle.sbp_world.proofs.Wire.TargetForgets.{seen_stays, ticked_stays}
use Rattle.turn_laws.proofs.OtherRequests.{no_sends}
use Rattle.turn_laws.proofs.Pass.{of_every_carried}
use Rattle.turn_laws.proofs.PendingHeard.{Hails, heard_kept, late_kept}
use Rattle.turn_laws.proofs.PendingKept.{Id}
use Rattle.turn_laws.proofs.PendingOwn.{all_leave, not_target, there_laws}
use Rattle.turn_laws.proofs.PendingTerms.{ignored_same}
use Rattle.turn_laws.proofs.PendingTurns.{Kept}
use Rattle.turn_laws.proofs.Places.{Place}
use Rattle.turn_laws.proofs.PushSerials.{Has}
use Rattle.turn_laws.proofs.SentAnswers.{others_unsent}
use Rattle.turn_laws.proofs.StatusHeralds.{IsHeard, Tells}
use Rattle.sbp_world.proofs.Agents.Seats.{marked_same}

-- ---- a note stands among these
abbrev pub Stands : Note → List Note → Type 0
Stands note [] = ⊥
Stands note (first ∷ rest) = (first ≡ note) ⊎ Stands note rest

stands_first : (note : Note) (a b : List Note) → Stands note a → Stands note (a ++ b)
stands_first note [] b s = absurd s
stands_first note (first ∷ a) b (inl e) = inl e
stands_first note (first ∷ a) b (inr s) = inr (stands_first note a b s)

stands_last : (note : Note) (a b : List Note) → Stands note b → Stands note (a ++ b)
stands_last note [] b s = s
stands_last note (first ∷ a) b s = inr (stands_last note a b s)

-- ---- who has a place
module _ (place i : ℕ) where
  record Keeps (w : WorldState) : Type 0 where
    holder : Holder
    there : HasPlace w.places place holder
    is : holder.initiator ≡ i

  -- what tells nothing of logins leaves who has it
  one_keeps : (side : Side) (w : WorldState) → IsQuiet side → Keeps w → Keeps (told_one 0 side w)
  unfolding told_one
  one_keeps (sides.Opened other orb) w q k = by (nat_eq place other) refl
    where
      list : Option ℕ
      list = list_in (ticket_at w other orb)

      by : (b : Bool) → nat_eq place other ≡ b → Keeps (told_one 0 (sides.Opened other orb) w)
      by true e =
          let same : place ≡ other = equal_numbers place other e in
          record { holder = record k.holder { list = list }; there = subst (λ p. HasPlace (told_one 0 (sides.Opened p orb) w).places place (record k.holder { list = list_in (ticket_at w p orb) })) same (opened_here w.places place (list_in (ticket_at w place orb)) k.holder k.there); is = k.is }
      by false e = record { holder = k.holder; there = opened_there w.places other place list k.holder (λ f. untrue (sym e ∙ (let x : nat_eq place other ≡ true = grind (arith, nat_tests) in x))) k.there; is = k.is }
  one_keeps (sides.Own note) w q k = absurd q
  one_keeps (sides.Ran other orb cdb payload outcome) w q k = record { holder = k.holder; there = k.there; is = k.is }
  one_keeps (sides.Ended other orb status) w q k = record { holder = k.holder; there = k.there; is = k.is }
  one_keeps (sides.Dead other cause) w q k = record { holder = k.holder; there = k.there; is = k.is }
  one_keeps (sides.Cut other cause) w q k = record { holder = k.holder; there = k.there; is = k.is }
  one_keeps (sides.Managed node function subject status login) w q k = absurd q
  one_keeps (sides.ManageFailed node cause) w q k = absurd q
  one_keeps (sides.Held login) w q k = absurd q
  one_keeps (sides.Expired login) w q k = absurd q
  one_keeps (sides.Back login) w q k = absurd q
  one_keeps (sides.Left login) w q k = absurd q
  one_keeps (sides.Cleared unit) w q k = record { holder = k.holder; there = k.there; is = k.is }
  one_keeps (sides.Unsolicited other) w q k = record { holder = k.holder; there = k.there; is = k.is }
  one_keeps (sides.Unsent other) w q k = record { holder = k.holder; there = k.there; is = k.is }

  -- so the note of what is told of it names him
  stands_told : (later : List Side) (w : WorldState) → AreQuiet later → Keeps w → Tells place later → Stands (notes.Unsolicited i) (notes_told 0 later w)
  stands_told [] w q k t = absurd t
  stands_told (side ∷ later) w q k (inl e) =
      let named : (holder w place).initiator ≡ i = ap (λ o. (or_nobody o).initiator) k.there ∙ k.is in
      let is : note_of side w ≡ notes.Unsolicited i ∷ [] = ap (λ x. note_of x w) e ∙ ap (λ n. notes.Unsolicited n ∷ []) named in
      stands_first (notes.Unsolicited i) (note_of side w) (notes_told 0 later (told_one 0 side w)) (subst (λ ns. Stands (notes.Unsolicited i) ns) (sym is) (inl refl))
  stands_told (side ∷ later) w q k (inr t) =
      let v = told_one 0 side w in
      stands_last (notes.Unsolicited i) (note_of side w) (notes_told 0 later v) (stands_told later v q.1 (one_keeps side w q.0 k) t)

-- ---- a packet goes to an initiator of which `unsolicited` is told
pub record IsCalled (u : Terms) (rest : List Note) (r : ℕ) : Type 0 where
  pub initiator : ℕ
  pub there : receiver_in (u.sent r) ≡ Some (suc initiator)
  pub told : Stands (notes.Unsolicited initiator) rest

abbrev pub AllCalled : List Disk → (first : List Moment) → List Note → List Moment → Type 0
AllCalled start first rest ms = (r : ℕ) → Has (Pushes start ms) r → (terms first).count < r → IsCalled (terms ms) rest r

-- no packet is of the target
abbrev pub IsForeign : Note → Type 0
IsForeign (notes.Sent serial generation from to bytes) = from ≡ 0 → ⊥
IsForeign note = Unit {0}

abbrev pub AreForeign : List Note → Type 0
AreForeign [] = Unit {0}
AreForeign (note ∷ rest) = IsForeign note × AreForeign rest

pub record IsCalling (start : List Disk) (t : Turn) : Type 0 where
  pub first : Note
  pub begins : t.start ≡ said first
  pub inner : AllInner t.rest
  pub called : AllCalled start (t.start ∷ t.past) t.rest (end_of t)

pub data AsksCalled (start : List Disk) (t : Turn) : Type 0 where
  foreign : AreForeign t.rest → AsksCalled start t
  calling : IsCalling start t → AsksCalled start t
  silent : sends_of t.rest ≡ [] → AsksCalled start t

one_foreign : (node : ℕ) (note : Note) → (node ≡ 0 → ⊥) → IsPlain (λ to bytes. Unit {0}) node note → IsForeign note
one_foreign node (notes.Sent serial generation from to bytes) other p = λ e. other (sym p.0 ∙ e)
one_foreign node note other p = tt

plain_foreign : (node : ℕ) (ns : List Note) → (node ≡ 0 → ⊥) → ArePlain (λ to bytes. Unit {0}) node ns → AreForeign ns
plain_foreign node [] other p = tt
plain_foreign node (note ∷ ns) other p = (one_foreign node note other p.0, plain_foreign node ns other p.1)

judged_id : (serial : ℕ) (judged : Judged) (ms : List Moment) (n : ℕ) → Id (terms (said (judged_note serial judged) ∷ ms)) n ≡ Id (terms ms) n
judged_id serial judgements.Got ms n =
    let t = terms ms in
    let g = got_ids (t.sent serial) serial t in
    ap (λ (ids : ℕ → ℕ → ℕ). ids ((terms (said (notes.Got serial) ∷ ms)).generation 0) n) g.0 ∙ ap (λ (generation : ℕ → ℕ). t.ids (generation 0) n) g.1
judged_id serial (judgements.Ignored cause) ms n =
    let t = terms ms in
    let u = noted (notes.Ignored serial cause) t in
    let g = ignored_same (t.sent serial) cause serial t in
    ap (λ (ids : ℕ → ℕ → ℕ). ids (u.generation 0) n) g.1.1.1.1.1 ∙ ap (λ (generation : ℕ → ℕ). t.ids (generation 0) n) g.1.0

module _ (units ready : ℕ) (has : 0 < units) (start : List Disk) where
  module _ (past : List Moment) (s : Scene) (here : Place units ready start past s) (serial : ℕ) (judged : Judged) (outbox : OutboxState) (v : WorldState) (places : v.places ≡ s.world.places) where
    abbrev w : WorldState
    w = s.world

    abbrev ms : List Moment
    ms = hist past w

    abbrev HeardHere : ℕ → Type 0
    HeardHere peer = IsHeard w.target.pending w.target.logins peer outbox.sides × AreQuiet outbox.sides

    called_of : (u : Terms) (r : ℕ) → Hails (terms (said (judged_note serial judged) ∷ ms)) u (length w.initiators) HeardHere r → IsCalled u (handed 0 0 outbox v) r
    called_of u r h =
        let x = h.heard.0 in
        let held = here.held.held x.place x.login x.there in
        let of = (held.live x.live).of in
        let i = held.holder.initiator in
        let stands = here.holds.sound.stands in
        let g = (terms ms).generation 0 in
        let next : i + 1 ≡ suc i = omega arith in
        let ids : (terms ms).ids g h.to ≡ (terms ms).ids g (suc i) = sym (judged_id serial judged ms h.to) ∙ (sym x.node_is ∙ (sym of.node_is ∙ ap (λ n. Id (terms ms) n) next)) in
        let to_is : h.to ≡ suc i = goes_on.apart stands.wire g h.to (suc i) stands.reached (subst (λ (y : Terms). y.ids g h.to ≡ y.ids g (suc i)) (sym (past_terms w stands)) ids) in
        let keeps : Keeps x.place i v = record { holder = held.holder; there = subst (λ ps. HasPlace ps x.place held.holder) (sym places) held.there; is = refl } in
        record {
          initiator = i;
          there = h.there ∙ ap (λ n. Some n) to_is;
          told = stands_first (notes.Unsolicited i) (notes_told 0 outbox.sides v) (notes_sent 0 outbox.packets (told_all 0 outbox.sides v)) (stands_told x.place i outbox.sides v h.heard.1 keeps x.tells);
        }

  -- ---- a line
  line_foreign : (past : List Moment) (s : Scene) (here : Place units ready start past s) → Kept start (hist past s.world) s → (line : ℕ) (event : Event) (rest : List Note) (behind : Scene) → Brings line s event rest → behind.world.fresh ≡ onto rest [] → Place units ready start (asked line event ∷ hist past s.world) behind → Stays s.world behind.world → AreForeign rest
  line_foreign past s here k line event rest behind (calls is_event c) fresh there stays = tt
  line_foreign past s here k line event rest behind (refuses is_event refusal) fresh there stays = (tt, tt)
  line_foreign past s here k line event rest behind (refuses_action i action number e) fresh there stays = (tt, tt)
  line_foreign past s here k line event rest behind (resets physical generation e) fresh there stays = (tt, tt)
  line_foreign past s here k line event rest behind (loses serial) fresh there stays = (tt, tt)
  line_foreign past s here k line event rest behind (sets_key unit key) fresh there stays = (tt, tt)
  line_foreign past s here k line event rest behind (injects i bytes serial generation from to) fresh there stays =
      let notes_then = notes.Injected serial ∷ notes.Sent serial generation from to bytes ∷ [] in
      let inject = events.Inject i bytes in
      let ms = hist past s.world in
      let laws = there_laws units ready has start past s here k line inject notes_then behind fresh there stays (said (notes.Sent serial generation from to bytes) ∷ said (notes.Injected serial) ∷ asked line inject ∷ ms) refl in
      (tt, (not_target units ready has start past s here k line inject serial generation from to bytes laws.0 laws.1, tt))

  abbrev Carries : CarriedCases units ready start (Kept start) (PushesAlone start)
  Carries = alone_cases units ready has start

  own_foreign : (past : List Moment) (first : Moment) (i weight : ℕ) (outbox : OutboxState) (v : WorldState) → AreOwn outbox.sides → AsksCalled start (turn past first (handed (suc i) weight outbox v))
  own_foreign past first i weight outbox v own =
      foreign (plain_foreign (suc i) (handed (suc i) weight outbox v) (suc-ne-zero i) (owns_handed (λ to bytes. Unit {0}) (suc i) weight outbox v own (all_leave (suc i) v.generations outbox.packets)))

  called_cases : CarriedCases units ready start (Kept start) (AsksCalled start)
  called_cases = record {
    heard = λ past s serial again run one found zero_to may others here behind noted k.
        let x = received run one.generation one.bytes (whole_of s.world.target s.media) in
        let u = with_target x.1.node s.world in
        let note = judged_note serial x.0 in
        let v = with_note note (marked serial again u) in
        let kept = heard_kept units ready has start past s here k serial again run one found zero_to (record { disks = x.1.disks; faults = faults_after run one s.world.target s.media }) behind others behind in
        let first = said note ∷ hist past s.world in
        let rest = handed 0 0 x.1.outbox v in (
          calling (record {
            first = note;
            begins = refl;
            inner = handed_inner 0 0 x.1.outbox v (others_inner x.1.outbox.sides others);
            called = noted_behind (λ start ms. AllCalled start first rest ms) start note 0 x.1.outbox s.world v past (ap (λ ns. note ∷ ns) (marked_fresh serial again u))
                (λ r h young. called_of past s here serial x.0 x.1.outbox v (marked_same serial again u) (terms (hist past (handed_out 0 0 x.1.outbox v))) r (kept.1 r h young));
          }),
          kept.0,
        );
    heard_own = λ past s serial again one i found to_is inside own here behind noted k.
        let x = receive_step one.generation one.bytes empty_outbox (initiator_at s.world i) in
        (own_foreign (hist past s.world) (said (judged_note serial x.0)) i 0 x.1.0 _ own, (Carries.heard_own past s serial again one i found to_is inside own here behind noted k).1);
    late = λ past s serial request done t found node_is e others here behind noted k.
        let note = notes.TimedOut serial in
        let v = with_note note (with_target t.node s.world) in
        let kept = late_kept units ready has start past s here k serial request done t found node_is e others behind in
        let first = said note ∷ hist past s.world in
        let rest = handed 0 0 t.outbox v in (
          calling (record {
            first = note;
            begins = refl;
            inner = handed_inner 0 0 t.outbox v (others_inner t.outbox.sides others);
            called = noted_behind (λ start ms. AllCalled start first rest ms) start note 0 t.outbox s.world v past refl (λ r h young. absurd (kept.1 r h young));
          }),
          kept.0,
        );
    late_own = λ past s serial request i outbox state found node_is inside e own here behind noted k.
        (own_foreign (hist past s.world) (said (notes.TimedOut serial)) i 0 outbox _ own, (Carries.late_own past s serial request i outbox state found node_is inside e own here behind noted k).1);
    sees = λ past s others here behind noted k.
        let g = s.world.generations.latest in
        let x = (seen g.generation (id_of g 0) (target.scene s.world.target empty_outbox)).1 in
        (silent (no_sends 0 0 x.outbox (with_target x.node (with_seen 0 (told_seen 0 s.world))) (others_unsent x.outbox.sides others) (seen_stays g.generation (id_of g 0) s.world.target).silent.unsent), (Carries.sees past s others here behind noted k).1);
    sees_own = λ past s i inside own here behind noted k.
        (own_foreign (hist past s.world) (said (notes.Seen (suc i) s.world.generations.latest.generation)) i 0 _ _ own, (Carries.sees_own past s i inside own here behind noted k).1);
    ticks = λ past s others here behind noted k.
        let x = ticked (target.scene s.world.target empty_outbox) in
        (silent (no_sends 0 0 x.outbox (with_target x.node (with_note notes.Tick s.world)) (others_unsent x.outbox.sides others) (ticked_stays s.world.target).silent.unsent), (Carries.ticks past s others here behind noted k).1);
    ends = λ past s done here behind k. (foreign tt, (Carries.ends past s done here behind k).1);
    acts = λ past s line i action outbox state inside e own here behind k. (
      foreign (plain_foreign (i + 1) _ (λ z. absurd (omega (arith, z))) (owns_handed (λ to bytes. Unit {0}) (i + 1) (weight_in action) outbox (with_initiator i state (without_notes s.world)) own (all_leave (i + 1) (with_initiator i state (without_notes s.world)).generations outbox.packets))),
      (Carries.acts past s line i action outbox state inside e own here behind k).1,
    );
    lines = λ past s line event rest behind brings fresh here there stays k. (foreign (line_foreign past s here k line event rest behind brings fresh there stays), (Carries.lines past s line event rest behind brings fresh here there stays k).1);
    begins = λ line initiators is_ready. foreign (tt, tt);
  }

pub called_law : OfEveryRun (λ start past. EachTurn (AsksCalled start) past)
called_law = of_every_carried Kept AsksCalled first_kept_here (λ units ready start has. called_cases units ready has start)
