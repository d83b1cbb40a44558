-- In a drill what is under way is an agent's, or was dropped by one that died: so it is at each front of the history.
use Rattle.std.proofs.Common.{◌≡◌, ◌∙◌, ◌⊎◌, inl, inr, refl, sym, ap, subst, arith, ℕ, zero, suc, Bool, true, false, cond, List, [], ◌∷◌, Some}
use Rattle.bus_transactions.specs.Packets.{SerialsCount}
use Rattle.command_agent.specs.declared.step.Which.{Which}
use Rattle.rbc_disk.specs.Disk.{Disk}
use Rattle.sbp_journal.specs.Run.{Moment, asked, said}
use Rattle.sbp_journal.specs.Wire.{Terms, terms}
use Rattle.sbp_journal.specs.declared.event.Event.{Event}
use Rattle.sbp_journal.specs.declared.note.Note.{Note}
use Rattle.sbp_journal.specs.declared.note.Note.TheVariants as notes
use Rattle.sbp_laws.specs.Packets.{answered_at, receiver_in}
use Rattle.sbp_laws.specs.Targets.{Target, agent_at, for_agent, got_by, is_serial, known_at, over, purpose_of, target_at}
use Rattle.sbp_laws.specs.Turns.{EachMoment}
use Rattle.sbp_laws.specs.Unasked.{NoneUnasked}
use Rattle.sbp_world.proofs.Agents.Waited.{waited}
use Rattle.sbp_world.proofs.Lists.BegunBy.{transaction_of}
use Rattle.drill_laws.proofs.DrillHosts.{over_idle, target_wire}
use Rattle.drill_laws.proofs.DrillLive.{IsHere, IsNew, Live, Stands, Under, asked_of, begun_now, closed_never, fewer, first_stands, new_at, same_serial, sent_reply, since, stands_on}
use Rattle.drill_laws.proofs.DrillMild.{AreMild}
use Rattle.drill_laws.proofs.DrillOwners.{ClosedBy, Goes, Moves, NotGot, behind, ends_turn, gets_by, note_moves, over_reply, rested, stay}
use Rattle.drill_laws.proofs.DrillPushes.{IsTame, NoPushAt, is_mild, placed, tame_before}
use Rattle.drill_laws.proofs.DrillReplies.{Closes}

some_number : (a b : ℕ) → Some a ≡ Some b → a ≡ b
some_number a b e = cc e

module _ (start : List Disk) where
  abbrev At : List Moment → Type 0
  At past = Stands (Live start past) (target_at start past)

  -- ---- a moment that sends nothing
  less_by : (m : Moment) (past : List Moment) → SerialsCount (m ∷ past) → ((s : ℕ) → IsHere m s → ⊥) → (s : ℕ) → Live start (m ∷ past) s → Live start past s
  less_by m past c not s x = by (since m past c s x)
    where
      by : Under (terms past) s ⊎ IsHere m s → Live start past s
      by (inl l) = l
      by (inr h) = absurd (not s h)

  abbrev Less : Moment → List Moment → Type 0
  Less m past = (s : ℕ) → Live start (m ∷ past) s → Live start past s

  abbrev MovesOn : Moment → List Moment → Type 0
  MovesOn m past = (let t = target_at start past in let now = Live start (m ∷ past) in ClosedBy now t t.reply → Moves now t (target_at start (m ∷ past)))

  still : (m : Moment) (past : List Moment) → Less m past → At past → MovesOn m past → At (m ∷ past)
  still m past less S moves =
      let t = target_at start past in
      let now = Live start (m ∷ past) in
      let M = moves (fewer (Live start past) now less t t.reply S.closed) in
      stands_on (Live start past) now now t (target_at start (m ∷ past)) S M.goes M.closed (λ s live. inl (live, less s live))

  line_not : (line : ℕ) (event : Event) (s : ℕ) → IsHere (asked line event) s → ⊥
  line_not line event s h = let no : asked line event ≡ said (notes.Sent s h.packet.generation h.packet.from h.packet.to h.packet.bytes) = h.is in cc no

  abbrev NotSent : Note → Type 0
  NotSent (notes.Sent serial generation from to bytes) = ⊥
  NotSent note = Unit {0}

  some_note : (a b : Note) → said a ≡ said b → a ≡ b
  some_note a b e = cc e

  note_not : (note : Note) → NotSent note → (s : ℕ) → IsHere (said note) s → ⊥
  note_not note n s h = subst NotSent (some_note note (notes.Sent s h.packet.generation h.packet.from h.packet.to h.packet.bytes) h.is) n

  -- ---- a packet that is got
  got_stands : (s : ℕ) (past : List Moment) → IsTame (said (notes.Got s) ∷ past) → At past → At (said (notes.Got s) ∷ past)
  got_stands serial past tame S = still m past less S moves
    where
      m : Moment
      m = said (notes.Got serial)

      before : IsTame past
      before = tame_before m past tame

      less : (s : ℕ) → Live start (m ∷ past) s → Live start past s
      less = less_by m past tame.serials (note_not (notes.Got serial) tt)

      t : Target
      t = target_at start past

      now : ℕ → Type 0
      now = Live start (m ∷ past)

      w : Terms
      w = (known_at start past).wire

      moves : ClosedBy now t t.reply → Moves now t (target_at start (m ∷ past))
      moves closed = behind now t (over t) (target_at start (m ∷ past)) goes (by (is_serial (receiver_in (w.sent serial)) 0) refl)
        where
          goes : Goes now t.agents (over t).agents
          goes = ends_turn now t closed

          closes : (place own : ℕ) (which : Which) → answered_at w serial ≡ Some own → purpose_of (over t) own ≡ for_agent place which → Closes now which (agent_at (over t) place)
          closes place own which e p s f live =
              let waits = (waited (over t) (goes.size ∙ S.size) own place which p).1 in
              let same : s ≡ own = some_number s own (sym f ∙ waits) in
              closed_never past serial own tame.serials (ap (λ (x : Terms). answered_at x serial) (sym (target_wire start past)) ∙ e) (subst (Live start (m ∷ past)) same live)

          mild : AreMild w
          mild = subst AreMild (sym (target_wire start past)) before.mild

          by : (b : Bool) → is_serial (receiver_in (w.sent serial)) 0 ≡ b → Moves now (over t) (cond b (got_by (answered_at w serial) w serial (over t)) (over t))
          by true here = gets_by now (over t) (over_reply now t) (answered_at w serial) w serial (over_idle t (is_mild start past before).idle) closes (mild serial here)
          by false here = rested now (over t) (over t) (stay now (over t).agents) (over_reply now t)

  -- ---- a packet that is sent
  abbrev sent_by : (serial generation from to : ℕ) → List ℕ → List Moment → List Moment
  sent_by serial generation from to bytes past = said (notes.Sent serial generation from to bytes) ∷ past

  abbrev IsAsked : List Moment → Type 0
  IsAsked past = EachMoment (NoneUnasked start) past

  abbrev IsQuiet : List Moment → Type 0
  IsQuiet past = EachMoment (NoPushAt start) past

  sent_stands : (serial generation from to : ℕ) (bytes : List ℕ) (past : List Moment) → (let now = sent_by serial generation from to bytes past in IsTame now → IsAsked now → IsQuiet past → At past → At now)
  sent_stands serial generation from to bytes past tame law quiet S =
      let t = target_at start past in
      let M = note_moves (Live start past) note past w t tt tame.drill.0 tt S.closed in
      stands_on (Live start past) (Live start (m ∷ past)) (Live start past) t (target_at start (m ∷ past)) S M.goes
      (subst (ClosedBy (Live start (m ∷ past)) (target_at start (m ∷ past))) (sym (sent_reply start note past w t tt)) tt) was
    where
      note : Note
      note = notes.Sent serial generation from to bytes

      m : Moment
      m = said note

      w : Terms
      w = (known_at start past).wire

      before : IsTame past
      before = tame_before m past tame

      new : (from : ℕ) → (let now = sent_by serial generation from to bytes past in IsAsked now → SerialsCount now → (s : ℕ) → s ≡ serial → Live start now s → IsNew (target_at start now) s)
      new zero law c s e x =
          let begun = begun_now start past serial generation 0 to bytes c s e x in
          let a = asked_of start _ x.u begun in
          let p = placed start past serial generation to bytes (is_mild start past before).idle law.0 quiet a.label a.kind a.is in
          subst (IsNew (target_at start (sent_by serial generation 0 to bytes past))) (sym e) (new_at start past serial generation to bytes S p a)
      new (suc i) law c s e x =
          let begun = begun_now start past serial generation (suc i) to bytes c s e x in
          let from = (transaction_of _ x.u begun).requester in
          let no : suc i ≡ 0 = sym from ∙ x.own in
          absurd (omega (arith, no))

      was : (s : ℕ) → Live start (m ∷ past) s → (Live start past s × Live start past s) ⊎ IsNew (target_at start (m ∷ past)) s
      was s x = by (since m past tame.serials s x)
        where
          by : Under (terms past) s ⊎ IsHere m s → (Live start past s × Live start past s) ⊎ IsNew (target_at start (m ∷ past)) s
          by (inl l) = inl (l, l)
          by (inr h) = inr (new from law tame.serials s (same_serial start past serial generation from to bytes s h) x)

  -- ---- each moment
  note_stands : (note : Note) (past : List Moment) → NotGot note → NotSent note → IsTame (said note ∷ past) → At past → At (said note ∷ past)
  note_stands note past g n tame S =
      still (said note) past (less_by (said note) past tame.serials (note_not note n)) S
      (λ closed. note_moves (Live start (said note ∷ past)) note past (known_at start past).wire (target_at start past) g tame.drill.0 tame.calm.0 closed)

  moment_stands : (m : Moment) (past : List Moment) → IsTame (m ∷ past) → IsAsked (m ∷ past) → IsQuiet past → At past → At (m ∷ past)
  moment_stands (asked line event) past tame law quiet S =
      still (asked line event) past (less_by (asked line event) past tame.serials (line_not line event)) S
      (λ closed. let t = target_at start past in let now = Live start (asked line event ∷ past) in rested now t (over t) (ends_turn now t closed) (over_reply now t))
  moment_stands (said (notes.Got serial)) past tame law quiet S = got_stands serial past tame S
  moment_stands (said (notes.Sent serial generation from to bytes)) past tame law quiet S = sent_stands serial generation from to bytes past tame law quiet S
  moment_stands (said note) past tame law quiet S = note_stands note past tt tt tame S

  pub stands : (past : List Moment) → IsTame past → EachMoment (NoneUnasked start) past → EachMoment (NoPushAt start) past → At past
  stands [] tame law quiet = first_stands start
  stands (m ∷ past) tame law quiet = moment_stands m past tame law quiet.1 (stands past (tame_before m past tame) law.1 quiet.1)

  -- as the turn ends
  pub over_stands : (past : List Moment) → At past → Stands (Live start past) (over (target_at start past))
  over_stands past S =
      let t = target_at start past in
      let live = Live start past in
      stands_on live live live t (over t) S (ends_turn live t S.closed) (subst (ClosedBy live (over t)) (sym (over_reply live t)) tt) (λ s x. inl (x, x))
