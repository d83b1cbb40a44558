-- A history in which each turn told the runs that were due goes on so, over a line with no packet and over a delivery, whoever sent the packet.
use Rattle.sbp_world.proofs.Words.Std.{◌≡◌, ◌∙◌, inl, inr, ◌⊎◌, refl, sym, ap, subst, ℕ, ◌<◌, Bool, true, false, List, [], ◌∷◌, ◌++◌, map, Option, Some, None}
use Rattle.sbp_world.proofs.Words.Wire.{AreJudged, end_note, judged_note, Judged, Event, Note, Moment, asked, said}
use Rattle.sbp_world.proofs.Words.Target.{Disk, Told, plain_in}
use Rattle.sbp_world.proofs.Words.Laws.{RunsWhereDue, of_others, runs_due, runs_in, unit_at, target_at, EachTurn, EachTurnBefore, turn}
use Rattle.sbp_world.proofs.Words.World.{MayNext, delivered_at, delivered_next, lowest, Scene}
use Rattle.sbp_journal.specs.declared.cause.Judged.TheVariants as judgements
use Rattle.sbp_journal.specs.declared.note.Note.TheVariants as notes
use Rattle.sbp_world.specs.Settling.{MayAt}
use Rattle.sbp_target.proofs.Histories.Calling.{Good}
use Rattle.sbp_world.proofs.Agents.Purposes.{g}
use Rattle.sbp_world.proofs.Agents.Management.Holding.{Holding}
use Rattle.sbp_world.proofs.Agents.Management.Still.{hist}
use Rattle.sbp_world.proofs.Lists.DueDeliveries.{none_got, one_got}
use Rattle.sbp_world.proofs.Lists.DueRuns.{AtDelivery}
use Rattle.sbp_world.proofs.Lists.DueTurns.{Before, TellsDue, front_turns, line_turns, plain_runs, plain_turn}
use Rattle.sbp_world.proofs.Lists.Runless.{AllPlain, Delivers, IsRunBy, IsRunlessBy, NoneRun, OneRan, Plainly, delivery_comes, no_run, none_judged, one_run, plain_none}
use Rattle.sbp_world.proofs.Common.{said_split as split}

-- a packet was judged as the bus says, behind notes of no packet
judged_front : (front : List Note) (P : List Moment) → AllPlain front → AreJudged (map said front ++ P) → AreJudged P
judged_front [] P h j = j
judged_front (notes.Got serial ∷ front) P h j = absurd h.0
judged_front (notes.Ignored serial cause ∷ front) P h j = absurd h.0
judged_front (note ∷ front) P h j = judged_front front P h.1 j

module _ (start : List Disk) where
  abbrev pub AreDue : List Moment → Type 0
  AreDue past = EachTurn (TellsDue start) past

  -- behind moments that end with the beginning of a turn
  in_front : (P past : List Moment) (old new : List Note) → map said old ++ past ≡ P → ((rest : List Note) → AllPlain rest → Before start P rest) → Plainly old new → AreDue (map said new ++ past)
  in_front P past old new e f q =
      subst (λ ns. AreDue (map said ns ++ past)) q.is
      (subst AreDue (sym (split q.more old past ∙ ap (λ ms. map said q.more ++ ms) e)) (front_turns start q.more P q.plain f [] tt))

  pub line_due : (line : ℕ) (event : Event) (past : List Moment) (new : List Note) → Plainly [] new → AreDue past → AreDue (map said new ++ asked line event ∷ past)
  line_due line event past new q l = in_front (asked line event ∷ past) (asked line event ∷ past) [] new refl (line_turns start line event past l) q

  -- ---- a packet is delivered
  module _ (units ready : ℕ) (has : 0 < units) {past : List Moment} {lines : ℕ} (s : Scene) (h : Holding units ready start past lines s.world) (site : AtDelivery start past s.world) (units_are : (unit : ℕ) → unit_at (target_at start (hist past s.world)).units unit ≡ plain_in s.world.target.units s.media.disks unit) (run : Option Told) where
    abbrev ms : List Moment
    ms = hist past s.world

    judged_turns : (serial : ℕ) (judged : Judged) → IsRunlessBy s run serial judged → AreJudged (said (judged_note serial judged) ∷ ms) → AreDue ms → (rest : List Note) → AllPlain rest → Before start (said (judged_note serial judged) ∷ ms) rest
    judged_turns serial judgements.Got n j l rest p = (plain_runs rest p ∙ sym (none_got units ready has start s h site units_are run serial j n rest p), l)
    judged_turns serial (judgements.Ignored cause) n j l rest p = (plain_turn start ms (said (notes.Ignored serial cause)) rest tt p, l)

    ran_turns : (serial : ℕ) (ran : Note) → IsRunBy s run serial ran → AreJudged (said (notes.Got serial) ∷ ms) → AreDue ms → (rest : List Note) → AllPlain rest → Before start (said ran ∷ said (notes.Got serial) ∷ ms) rest
    ran_turns serial ran r j l rest p =
        let same = subst (λ n. runs_in (n ∷ rest) ≡ runs_due start (turn ms (said (notes.Got serial)) (n ∷ rest))) r.is (one_got units ready has start s h site units_are run serial j ran r rest p) in
        subst (λ n. Before start (said n ∷ said (notes.Got serial) ∷ ms) rest) (sym r.is) (same, l)

    pub delivery_due : (new : List Note) → Delivers (IsRunlessBy s run) (IsRunBy s run) s.world.fresh new → AreJudged (map said new ++ past) → AreDue ms → AreDue (map said new ++ past)
    delivery_due new (none_judged e) j l = subst (λ ns. AreDue (map said ns ++ past)) (sym e) l
    delivery_due new (no_run serial judged n q) j l =
        let P = said (judged_note serial judged) ∷ ms in
        let back : AreJudged P = judged_front q.more P q.plain (subst AreJudged (split q.more (judged_note serial judged ∷ s.world.fresh) past) (subst (λ ns. AreJudged (map said ns ++ past)) (sym q.is) j)) in
        in_front P past (judged_note serial judged ∷ s.world.fresh) new refl (judged_turns serial judged n back l) q
    delivery_due new (one_run serial ran r q) j l =
        let P = said ran ∷ said (notes.Got serial) ∷ ms in
        let back : AreJudged P = judged_front q.more P q.plain (subst AreJudged (split q.more (ran ∷ notes.Got serial ∷ s.world.fresh) past) (subst (λ ns. AreJudged (map said ns ++ past)) (sym q.is) j)) in
        let got : AreJudged (said (notes.Got serial) ∷ ms) = subst (λ n. AreJudged (said n ∷ said (notes.Got serial) ∷ ms)) r.is back in
        in_front P past (ran ∷ notes.Got serial ∷ s.world.fresh) new refl (ran_turns serial ran r got l) q

    pub lowest_due : (o : Option ℕ) → MayAt o run s → AreJudged (hist past (delivered_at o run s).world) → AreDue ms → AreDue (hist past (delivered_at o run s).world)
    lowest_due None m j l = absurd m
    lowest_due (Some serial) m j l = delivery_due (delivered_at (Some serial) run s).world.fresh (delivery_comes s (g units ready has start s.world h) serial false run m) j l

    pub next_due : MayNext run s → AreJudged (hist past (delivered_next run s).world) → AreDue ms → AreDue (hist past (delivered_next run s).world)
    unfolding delivered_next MayNext
    next_due m j l = lowest_due (lowest s.world) m j l

  -- a line that settles ends
  pub end_due : (done : Bool) (past : List Moment) → AreDue past → AreDue (said (end_note done) ∷ past)
  end_due true past l = (plain_turn start past (said notes.Settled) [] tt tt, l)
  end_due false past l = (plain_turn start past (said notes.Stopped) [] tt tt, l)

  -- a line begins that delivers one packet
  module _ (units ready : ℕ) (has : 0 < units) (line : ℕ) (event : Event) {past : List Moment} {lines : ℕ} (s : Scene) (h : Holding units ready start (asked line event ∷ past) lines s.world) (none : s.world.fresh ≡ []) (site : AtDelivery start (asked line event ∷ past) s.world) (units_are : (unit : ℕ) → unit_at (target_at start (hist (asked line event ∷ past) s.world)).units unit ≡ plain_in s.world.target.units s.media.disks unit) (good : Good s.world.target) (packet : ℕ) (again : Bool) where
    begun_due : AreDue past → AreDue (hist (asked line event ∷ past) s.world)
    begun_due l = subst (λ ns. AreDue (map said ns ++ asked line event ∷ past)) (sym none) (line_due line event past [] (plain_none []) l)

    delivers_due : (told : List (Option Told)) (new : List Note) → Delivers (NoneRun s good line packet again told) (OneRan s good line packet again told) s.world.fresh new → AreJudged (map said new ++ asked line event ∷ past) → AreDue past → AreDue (map said new ++ asked line event ∷ past)
    delivers_due [] new (none_judged e) j l = subst (λ ns. AreDue (map said ns ++ asked line event ∷ past)) (sym e) (begun_due l)
    delivers_due [] new (no_run serial judged n q) j l = absurd n
    delivers_due [] new (one_run serial ran r q) j l = absurd r
    delivers_due (one ∷ more) new d j l = delivery_due units ready has s h site units_are one new d j (begun_due l)

    pub one_due : (told : List (Option Told)) (new : List Note) → Plainly s.world.fresh new ⊎ Delivers (NoneRun s good line packet again told) (OneRan s good line packet again told) s.world.fresh new → AreJudged (map said new ++ asked line event ∷ past) → AreDue past → AreDue (map said new ++ asked line event ∷ past)
    one_due told new (inl q) j l = line_due line event past new (subst (λ ns. Plainly ns new) none q) l
    one_due told new (inr d) j l = delivers_due told new d j l

-- ---- of any set of initiators
module _ (wild : ℕ → Bool) (start : List Disk) where
  others_due : (past : List Moment) (rest : List Note) → EachTurnBefore (TellsDue start) past rest → EachTurnBefore (RunsWhereDue wild start) past rest
  others_due [] rest l = tt
  others_due (asked line event ∷ past) rest l = (ap (of_others wild) l.0, others_due past [] l.1)
  others_due (said (notes.Got serial) ∷ past) rest l = (ap (of_others wild) l.0, others_due past [] l.1)
  others_due (said (notes.Ignored serial cause) ∷ past) rest l = (ap (of_others wild) l.0, others_due past [] l.1)
  others_due (said (notes.TimedOut serial) ∷ past) rest l = (ap (of_others wild) l.0, others_due past [] l.1)
  others_due (said (notes.Seen node generation) ∷ past) rest l = (ap (of_others wild) l.0, others_due past [] l.1)
  others_due (said notes.Tick ∷ past) rest l = (ap (of_others wild) l.0, others_due past [] l.1)
  others_due (said notes.Settled ∷ past) rest l = (ap (of_others wild) l.0, others_due past [] l.1)
  others_due (said notes.Stopped ∷ past) rest l = (ap (of_others wild) l.0, others_due past [] l.1)
  others_due (said note ∷ past) rest l = others_due past (note ∷ rest) l

  pub where_due : (past : List Moment) → AreDue start past → EachTurn (RunsWhereDue wild start) past
  where_due past l = others_due past [] l
