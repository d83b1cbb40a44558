-- In every run an initiator answers each request that it gets as the run terms say.
use Rattle.sbp_world.proofs.Words.Std.{arith, ◌≡◌, refl, sym, subst, ℕ, ◌+◌, ◌^◌, ◌<◌, ◌≤◌, Bool, false, List, [], ◌∷◌, ◌++◌, length, map, Option, Some, None}
use Rattle.sbp_world.proofs.Words.Wire.{is_reset, Moment, asked, said, terms, Event}
use Rattle.sbp_world.proofs.Words.Target.{Told}
use Rattle.sbp_world.proofs.Words.Initiator.{InitiatorState, Call, laws_after}
use Rattle.sbp_world.proofs.Words.World.{delivered, history_of, Run, after, beginning, MayAll, after_all, delivered_next, lowest, Scene, WorldState, begun, initiator_at, AnsweringLaw, GetsRequest, IsDelivering, took_quadlet, history, ResponsesLaw, IsRun}
use Rattle.sbp_journal.specs.declared.event.Event.TheVariants as events
use Rattle.sbp_world.proofs.FitInitiator.Law.{fitting_law as own_fitting_law}
use Rattle.sbp_world.proofs.FitTarget.Law.{fitting_law}
use Rattle.sbp_world.proofs.Wire.Holding.{Sound}
use Rattle.sbp_world.proofs.Wire.Runs.{SoundAfter, sound_after}
use Rattle.sbp_world.proofs.Wire.Sound.{next_heard, opens}
use Rattle.sbp_world.proofs.Wire.CommandBytes.{AreTold}
use Rattle.sbp_world.specs.Hosts.Answering.{IsAnswered}
use Rattle.sbp_world.specs.Hosts.Refusing.{initiator_of}
use Rattle.sbp_world.proofs.Hosts.AnsweringRuns.{is_answered_here}
use Rattle.sbp_world.proofs.Hosts.AnsweringSends.{Gets}
use Rattle.sbp_world.proofs.Hosts.ByteReads.{all_send}
use Rattle.sbp_world.proofs.Hosts.ByteRuns.{Bytes, bytes_between, bytes_carried, bytes_of_runs}
use Rattle.sbp_world.proofs.Hosts.LoginCounts.{logins_few}
use Rattle.sbp_world.proofs.Hosts.Fair.{fair_between, fair_of_runs}
use Rattle.sbp_world.proofs.Hosts.MemoryReads.{memory_read}
use Rattle.sbp_world.proofs.Hosts.Orbs.{orbs_held}
use Rattle.sbp_world.proofs.Hosts.Replied.{IsReplied}
use Rattle.sbp_world.proofs.Hosts.Replies.{is_replied}
use Rattle.sbp_world.proofs.Hosts.ResponseBytes.{IsBlockRead}
use Rattle.sbp_world.proofs.Hosts.SlotReads.{are_reads}
use Rattle.sbp_world.proofs.Hosts.Runs.{are_told, count_after, count_between}

-- what stands behind a request that an initiator gets, and behind a block read
pub record Serves (ms : List Moment) (w : WorldState) (i serial : ℕ) (now : List Moment) : Type 0 where
  pub answers : GetsRequest ms w i serial → IsAnswered ms serial now
  pub replies : (g : Gets w i serial) → IsBlockRead g.packet g.access.offset g.access.count → IsReplied ms i serial g.access now

-- ---- a run

pub all_sound : {past : List Moment} {lines : ℕ} (told : List (Option Told)) → AreTold told → (s : Scene) → Sound past lines s.world → (terms past).repeats ≡ false → Sound past lines (after_all told s).world
unfolding delivered_next
all_sound [] t s sound r = sound
all_sound (told ∷ before) t s sound r =
    next_heard fitting_law own_fitting_law told t.0 (after_all before s) (all_sound before t.1 s sound r) r (lowest (after_all before s).world) refl

-- a scene of a line, with the history of its run in other words
at_scene : {lines : ℕ} (ready : Bool) (next : ℕ) (event : Event) (s : Scene) (ms others : List Moment) → ms ≡ others → Sound (asked next event ∷ ms) lines s.world → (i : ℕ) → i < length s.world.initiators → (serial : ℕ) (again : Bool) (one : Option Told) → (initiator_at s.world i).counts.logins ≤ 2 ^ 32 → Bytes ready (map said s.world.fresh ++ asked next event ∷ others) i (initiator_at s.world i) → took_quadlet (map said s.world.fresh ++ asked next event ∷ others) i ≡ false → Serves (map said s.world.fresh ++ asked next event ∷ others) s.world i serial (map said (delivered serial again one s).world.fresh ++ asked next event ∷ others)
at_scene ready next event s ms others e sound i inside serial again one few =
    subst (λ x. Bytes ready (map said s.world.fresh ++ asked next event ∷ x) i (initiator_at s.world i) → took_quadlet (map said s.world.fresh ++ asked next event ∷ x) i ≡ false → Serves (map said s.world.fresh ++ asked next event ∷ x) s.world i serial (map said (delivered serial again one s).world.fresh ++ asked next event ∷ x)) e
    (λ h none.
    let past = map said s.world.fresh ++ asked next event ∷ ms in
    let own = initiator_at s.world i in
    let known = memory_read ready past i own h none in
    record {
      answers = λ g. is_answered_here s sound i inside known few serial again one g;
      replies = λ g block. is_replied s sound i inside known (orbs_held ready past i own h.host.rows h.orbs) (all_send ready past i own h) serial again one g block;
    })

module _ (line : ℕ) (run : Run) (q : IsRun run) (next : ℕ) (i : ℕ) (b : i < run.initiators) (serial : ℕ) (again : Bool) (one : Option Told) where
  abbrev pub start : Scene
  start = after (beginning run) run.entries

  before : SoundAfter line run run.entries start.world
  before = sound_after fitting_law own_fitting_law line run run.entries q.few q.short q.entries q.lines

  inside_start : i < length start.world.initiators
  inside_start = subst (λ n. i < n) (sym (count_after run run.entries)) b

  -- as a line begins
  first_bytes : (event : Event) → Bytes run.ready (asked next event ∷ history_of line run) i (initiator_at (begun start).world i)
  first_bytes event = (bytes_carried run.ready).asked next event (history_of line run) i (initiator_of run i) (bytes_of_runs line run q i b)

  -- the login numbers that it used
  few_of : (s : InitiatorState) (calls : List Call) → (laws_after i run.ready calls).1 ≡ s → s.counts.acts ≤ length run.entries → s.counts.logins ≤ 2 ^ 32
  few_of s calls is acts =
      let short = q.short in
      let f : s.counts.logins ≤ s.counts.acts + 1 = subst (λ (x : InitiatorState). x.counts.logins ≤ x.counts.acts + 1) is (logins_few i run.ready calls) in
      omega arith

  few_first : (initiator_of run i).counts.logins ≤ 2 ^ 32
  few_first = let o = (bytes_of_runs line run q i b).orbs in few_of (initiator_of run i) o.calls o.is (before.sound.nodes.own.counts i inside_start)

  abbrev pub Answers : Event → List (Option Told) → Type 0
  Answers event told = (let s = after_all told (begun start) in Serves (map said s.world.fresh ++ asked next event ∷ history_of line run) s.world i serial (map said (delivered serial again one s).world.fresh ++ asked next event ∷ history_of line run))

  first_answers : (event : Event) → is_reset event ≡ false → Answers event []
  first_answers event e =
      at_scene run.ready next event (begun start) (history start.world before.past) (history_of line run) before.is (opens next event start.world e before.sound) i inside_start serial again one few_first (first_bytes event) (fair_of_runs line run q i b).none

  more_answers : (event : Event) → is_reset event ≡ false → ((ms : List Moment) → (terms (asked next event ∷ ms)).repeats ≡ false) → (told : List (Option Told)) → MayAll told (begun start) → Bytes run.ready (map said (after_all told (begun start)).world.fresh ++ asked next event ∷ history_of line run) i (initiator_at (after_all told (begun start)).world i) → took_quadlet (map said (after_all told (begun start)).world.fresh ++ asked next event ∷ history_of line run) i ≡ false → Answers event told
  more_answers event e repeats told m h none =
      let sound = all_sound told (are_told told start m) (begun start) (opens next event start.world e before.sound) (repeats (history start.world before.past)) in
      let inside = subst (λ n. i < n) (sym (count_between told start)) inside_start in
      at_scene run.ready next event (after_all told (begun start)) (history start.world before.past) (history_of line run) before.is sound
      i inside serial again one (few_of (initiator_at (after_all told (begun start)).world i) h.orbs.calls h.orbs.is (sound.nodes.own.counts i inside)) h none

  pub run_answers : (event : Event) (told : List (Option Told)) → IsDelivering event told → MayAll told (begun start) → Answers event told
  run_answers (events.Step count) told d m = more_answers (events.Step count) refl (λ ms. refl) told m (bytes_between line run q next (Some count) told m i b) (fair_between line run q next (Some count) told m i b).none
  run_answers events.Settle told d m = more_answers events.Settle refl (λ ms. refl) told m (bytes_between line run q next None told m i b) (fair_between line run q next None told m i b).none
  run_answers (events.Deliver n) told d m = subst (Answers (events.Deliver n)) (sym d) (first_answers (events.Deliver n) refl)
  run_answers (events.Repeat n) told d m = subst (Answers (events.Repeat n)) (sym d) (first_answers (events.Repeat n) refl)
  run_answers (events.Begin initiators ready) told d m = absurd d
  run_answers (events.Act j action) told d m = absurd d
  run_answers (events.Reset physical) told d m = absurd d
  run_answers (events.See node) told d m = absurd d
  run_answers (events.Lose n) told d m = absurd d
  run_answers (events.Timeout n) told d m = absurd d
  run_answers events.Tick told d m = absurd d
  run_answers (events.Inject initiator bytes) told d m = absurd d
  run_answers (events.Key unit key) told d m = absurd d

pub answering_law : AnsweringLaw
answering_law = record { answers = λ line run q next event told d m i b serial again one g. (run_answers line run q next i b serial again one event told d m).answers g }

pub responses_law : ResponsesLaw
responses_law = record {
  reads = λ line run q next event told d m i b serial again one g slot found small prepared complete.
      let past = map said (after_all told (begun (after (beginning run) run.entries))).world.fresh ++ asked next event ∷ history_of line run in
      let now = map said (delivered serial again one (after_all told (begun (after (beginning run) run.entries)))).world.fresh ++ asked next event ∷ history_of line run in
      are_reads past i serial g.packet g.access g.asks_for now
      ((run_answers line run q next i b serial again one event told d m).replies (record { sent = g.sent; found = g.found; to_it = g.to_it; packet = g.packet; request = g.request; access = g.access; asks_for = g.asks_for; got = g.got }))
      slot found small prepared complete;
}
