-- In every run a status block of the target that an initiator takes, and which names the management ORB of the operation that the initiator has under way, ends that operation in the turn in which it
-- is taken.
use Rattle.sbp_world.proofs.Words.Std.{append_assoc, ◌≡◌, refl, sym, ◌∙◌, ap, subst, ℕ, suc, ◌<◌, Bool, true, false, List, [], ◌∷◌, ◌++◌, length, Option, Some, None}
use Rattle.sbp_world.proofs.Words.Wire.{Moment, Note, Side, asked, empty_outbox, judged_note, said, terms}
use Rattle.sbp_world.proofs.Words.Initiator.{InitiatorState, Turn, act_step, expire_step, is_step, new_state, receive_step, see_step}
use Rattle.sbp_world.proofs.Words.Laws.{Underway, host_at, is_effect}
use Rattle.sbp_world.proofs.Words.World.{Core, after, behind, beginning, work_in, work_of}
use Rattle.sbp_journal.specs.declared.cause.Cause.TheVariants as causes
use Rattle.sbp_journal.specs.declared.event.Event.TheVariants as events
use Rattle.sbp_journal.specs.declared.note.Note.TheVariants as notes
use Rattle.sbp_journal.specs.declared.side.Side.TheVariants as sides
use Rattle.sbp_world.specs.Hosts.Calls.{by_side}
use Rattle.sbp_world.specs.Lists.Closes.{Always}
use Rattle.sbp_world.proofs.Common.{some_none, untrue}
use Rattle.sbp_world.proofs.Hosts.Carried.{between_runs, of_runs}
use Rattle.sbp_world.proofs.Hosts.Carries.{Carries, Does, Nothing, Tells}
use Rattle.sbp_world.proofs.Hosts.Hosted.{Cored, cored_carried, first_cored}
use Rattle.sbp_world.proofs.Hosts.Runs.{count_after, count_between}
use Rattle.sbp_world.proofs.Hosts.Shown.{IsElsewhere, IsHeard, IsShown}
use Rattle.sbp_world.proofs.Hosts.SlotIgnored.{not_there}
use Rattle.sbp_world.proofs.Wire.Effects.{AreEffectSides, IsEffectSide}
use Rattle.sbp_world.proofs.Wire.OwnActs.{AreStepSides, IsStepSide, acts}
use Rattle.sbp_world.proofs.Wire.OwnTells as own
use Rattle.sbp_world.proofs.Completing.ToldHeard.{EndsThere, Takes, ended}

-- ---- what is said of a history
-- behind a moment the initiator had none under way
pub record WasOver (whole before : List Moment) (i : ℕ) : Type 0 where
  pub later : List Moment
  pub mid : List Moment
  pub is : later ++ (mid ++ before) ≡ whole
  pub none : (host_at (mid ++ before) i).operation ≡ None

-- so it is behind each such block that is taken
abbrev pub AllOver : (whole past : List Moment) → ℕ → Type 0
AllOver whole past i = (serial : ℕ) (m : Moment) (later before : List Moment) → later ++ m ∷ before ≡ past → Takes m serial → EndsThere before i serial → WasOver whole before i

-- ---- one more moment
widen : (front whole past : List Moment) (i : ℕ) → AllOver whole past i → AllOver (front ++ whole) past i
widen front whole past i h serial m later before is t e =
    let w = h serial m later before is t e in record { later = front ++ w.later; mid = w.mid; is = append_assoc front w.later (w.mid ++ before) ∙ ap (λ ms. front ++ ms) w.is; none = w.none }

step_on : (x : Moment) (whole past : List Moment) (i : ℕ) → ((serial : ℕ) → Takes x serial → EndsThere past i serial → WasOver whole past i) → AllOver whole past i → AllOver whole (x ∷ past) i
step_on x whole past i now h serial m [] before is t e =
    let same : m ≡ x = cc in
    let there : before ≡ past = cc in
    subst (λ ms. WasOver whole ms i) (sym there) (now serial (subst (λ y. Takes y serial) same t) (subst (λ ms. EndsThere ms i serial) there e))
step_on x whole past i now h serial m (y ∷ later) before is t e = h serial m later before (let z : later ++ m ∷ before ≡ past = cc in z) t e

all_one : (x : Moment) (past : List Moment) (i : ℕ) → ((serial : ℕ) → Takes x serial → EndsThere past i serial → ⊥) → AllOver past past i → AllOver (x ∷ past) (x ∷ past) i
all_one x past i none h = step_on x (x ∷ past) past i (λ serial t e. absurd (none serial t e)) (widen (x ∷ []) past past i h)

none_over : (i : ℕ) → AllOver [] [] i
none_over i serial m [] before is t e = absurd (let no : m ∷ before ≡ [] = is in cc)
none_over i serial m (y ∷ later) before is t e = absurd (let no : y ∷ (later ++ m ∷ before) ≡ [] = is in cc)

abbrev is_taking : Note → Bool
is_taking (notes.Got serial) = true
is_taking (notes.Ignored serial cause) = true
is_taking _ = false

no_taking : (note : Note) → is_taking note ≡ false → (serial : ℕ) → Takes (said note) serial → ⊥
no_taking (notes.Got one) e serial t = untrue (sym e)
no_taking (notes.Ignored one cause) e serial t = untrue (sym e)
no_taking note e serial t = t

effect_quiet : (note : Note) → is_effect note ≡ true → is_taking note ≡ false
effect_quiet (notes.Got serial) e = untrue e
effect_quiet (notes.Ignored serial cause) e = untrue e
effect_quiet note e = refl

step_quiet : (note : Note) → is_step note ≡ true → is_taking note ≡ false
step_quiet (notes.Got serial) e = untrue e
step_quiet (notes.Ignored serial cause) e = untrue e
step_quiet note e = refl

away : (note : Note) (past : List Moment) (i : ℕ) → IsElsewhere past i note → (serial : ℕ) → Takes (said note) serial → EndsThere past i serial → ⊥
away (notes.Got one) past i n serial same e = not_there e.packet.to i (n e.packet (ap (terms past).sent same ∙ e.sent)) e.to_is
away (notes.Ignored one causes.Slot) past i n serial same e = not_there e.packet.to i (n e.packet (ap (terms past).sent same ∙ e.sent)) e.to_is
away (notes.Ignored one causes.Generation) past i n serial t e = t
away (notes.Ignored one causes.Grammar) past i n serial t e = t
away (notes.Ignored one causes.Label) past i n serial t e = t
away (notes.Ignored one causes.Again) past i n serial t e = t
away (notes.Ignored one causes.Source) past i n serial t e = t
away (notes.Ignored one causes.Login) past i n serial t e = t
away note past i n serial t e = t

-- ---- behind what an initiator tells
one_effect : (side : Side) (whole past : List Moment) (i : ℕ) → IsEffectSide side → AllOver whole past i → AllOver whole (by_side side past) i
one_effect (sides.Own note) whole past i e h = step_on (said note) whole past i (λ serial t x. absurd (no_taking note (effect_quiet note e) serial t)) h
one_effect side whole past i e h = h

effects_on : (told : List Side) (whole past : List Moment) (i : ℕ) → AreEffectSides told → AllOver whole past i → AllOver whole (behind told past) i
effects_on [] whole past i e h = h
effects_on (side ∷ told) whole past i e h = effects_on told whole (by_side side past) i e.1 (one_effect side whole past i e.0 h)

one_step : (side : Side) (whole past : List Moment) (i : ℕ) → IsStepSide side → AllOver whole past i → AllOver whole (by_side side past) i
one_step (sides.Own note) whole past i e h = step_on (said note) whole past i (λ serial t x. absurd (no_taking note (step_quiet note e) serial t)) h
one_step side whole past i e h = h

steps_on : (told : List Side) (whole past : List Moment) (i : ℕ) → AreStepSides told → AllOver whole past i → AllOver whole (behind told past) i
steps_on [] whole past i e h = h
steps_on (side ∷ told) whole past i e h = steps_on told whole (by_side side past) i e.1 (one_step side whole past i e.0 h)

record IsFront (past whole : List Moment) : Type 0 where
  front : List Moment
  is : front ++ past ≡ whole

more_front : (m : Moment) (past whole : List Moment) → IsFront (m ∷ past) whole → IsFront past whole
more_front m past whole f = record { front = f.front ++ m ∷ []; is = append_assoc f.front (m ∷ []) past ∙ f.is }

side_front : (side : Side) (past whole : List Moment) → IsFront (by_side side past) whole → IsFront past whole
side_front (sides.Own note) past whole f = more_front (said note) past whole f
side_front side past whole f = f

told_front : (told : List Side) (past : List Moment) → IsFront past (behind told past)
told_front [] past = record { front = []; is = refl }
told_front (side ∷ told) past = side_front side past (behind told (by_side side past)) (told_front told (by_side side past))

wider : (past whole : List Moment) (i : ℕ) → IsFront past whole → AllOver past past i → AllOver whole past i
wider past whole i f h = subst (λ ms. AllOver ms past i) f.is (widen f.front past past i h)

effects_behind : (told : List Side) (past : List Moment) (i : ℕ) → AreEffectSides told → AllOver past past i → AllOver (behind told past) (behind told past) i
effects_behind told past i e h = effects_on told (behind told past) past i e (wider past (behind told past) i (told_front told past) h)

steps_behind : (told : List Side) (past : List Moment) (i : ℕ) → AreStepSides told → AllOver past past i → AllOver (behind told past) (behind told past) i
steps_behind told past i e h = steps_on told (behind told past) past i e (wider past (behind told past) i (told_front told past) h)

no_work : (found : Option Underway) → work_of found ≡ None → found ≡ None
no_work None e = refl
no_work (Some u) e = some_none _ e

none_left : {ready : Bool} (now : List Moment) (i : ℕ) (s : InitiatorState) → Cored ready now i s → s.operation ≡ None → (host_at now i).operation ≡ None
none_left now i s cored e = no_work (host_at now i).operation (ap (λ (x : Core). x.work) cored.core ∙ ap work_in e)

-- ---- in every run
record Overs (ready : Bool) (past : List Moment) (i : ℕ) (s : InitiatorState) : Type 0 where
  cored : Cored ready past i s
  all : AllOver past past i

heard_on : (ready : Bool) (serial generation : ℕ) (bytes : List ℕ) (past : List Moment) (i : ℕ) (s : InitiatorState) → IsHeard past i serial generation bytes → IsShown past i s.target s.layer → Overs ready past i s
    → (let t = (receive_step generation bytes empty_outbox s) in Tells (Cored ready) (said (judged_note serial t.0) ∷ past) i t.1 → Tells (Overs ready) (said (judged_note serial t.0) ∷ past) i t.1)
heard_on ready serial generation bytes past i s heard shown h k =
    let t = receive_step generation bytes empty_outbox s in
    let now = said (judged_note serial t.0) ∷ past in
    let whole = behind t.1.0.sides now in
    let effects : AreEffectSides t.1.0.sides = own.receives generation bytes empty_outbox s tt in
    let front : IsFront past whole = more_front (said (judged_note serial t.0)) past whole (told_front t.1.0.sides now) in
    record {
      own = record {
        cored = k.own;
        all =
            effects_on t.1.0.sides whole now i effects
            (step_on (said (judged_note serial t.0)) whole past i
            (λ r takes e. record {
              later = [];
              mid = front.front;
              is = front.is;
              none = subst (λ ms. (host_at ms i).operation ≡ None) (sym front.is) (none_left whole i t.1.1 k.own (ended serial generation bytes past i s heard shown h.cored r takes e));
            })
            (wider past whole i front h.all));
      };
      others = λ j x f m. record { cored = k.others j x f m.cored; all = effects_behind t.1.0.sides now j effects m.all };
    }

tells_on : (ready : Bool) (past : List Moment) (i : ℕ) (t : Turn) → AreEffectSides t.0.sides → Tells (Cored ready) past i t → AllOver past past i → Tells (Overs ready) past i t
tells_on ready past i t e k h = record {
  own = record { cored = k.own; all = effects_behind t.0.sides past i e h };
  others = λ j x f m. record { cored = k.others j x f m.cored; all = effects_behind t.0.sides past j e m.all };
}

does_on : (ready : Bool) (past : List Moment) (i : ℕ) (t : Turn) → AreStepSides t.0.sides → Does (Cored ready) past i t → AllOver past past i → Does (Overs ready) past i t
does_on ready past i t e d h = record {
  others = λ j x f m. record { cored = d.others j x f m.cored; all = steps_behind t.0.sides past j e m.all };
  quiet = λ silent. record { cored = d.quiet silent; all = steps_behind t.0.sides past i e h };
  asking = λ packet one serial generation f q. record {
    cored = d.asking packet one serial generation f q;
    all = all_one (said (notes.Sent serial generation (suc i) 0 packet.bytes)) (behind t.0.sides past) i (λ r takes x. takes) (steps_behind t.0.sides past i e h);
  };
}

overs_carried : (ready : Bool) → Carries Nothing (Overs ready)
overs_carried ready =
    let k = cored_carried ready in
    record {
      known = k.known;
      number = λ past i s h. h.cored.own.number;
      asked = λ line event past i s h. record { cored = k.asked line event past i s h.cored; all = all_one (asked line event) past i (λ r takes x. takes) h.all };
      apart = λ note past i s e elsewhere h. record { cored = k.apart note past i s e elsewhere h.cored; all = all_one (said note) past i (away note past i elsewhere) h.all };
      sent = λ serial generation from to bytes past i s n h. record { cored = k.sent serial generation from to bytes past i s n h.cored; all = all_one (said (notes.Sent serial generation from to bytes)) past i (λ r takes x. takes) h.all };
      hears = λ serial generation bytes past i s heard shown after h. heard_on ready serial generation bytes past i s heard shown h (k.hears serial generation bytes past i s heard shown after h.cored);
      expires = λ serial label past i s shown h.
          tells_on ready (said (notes.TimedOut serial) ∷ past) i (expire_step label empty_outbox s).1 (own.expires label empty_outbox s tt) (k.expires serial label past i s shown h.cored) (all_one (said (notes.TimedOut serial)) past i (λ r takes x. takes) h.all);
      stale = λ label past i s e h. record { cored = k.stale label past i s e h.cored; all = h.all };
      sees = λ generation id target past i s e h.
          tells_on ready (said (notes.Seen (suc i) generation) ∷ past) i (see_step generation id target empty_outbox s) (own.sees generation id target empty_outbox s tt) (k.sees generation id target past i s e h.cored) (all_one (said (notes.Seen (suc i) generation)) past i (λ r takes x. takes) h.all);
      acts = λ action past i s line fit d shown known h.
          does_on ready past i (act_step action empty_outbox s).1 (acts action empty_outbox s tt) (k.acts action past i s line fit d shown known h.cored) h.all;
    }

first_overs : (line i initiators : ℕ) (ready : Bool) → i < initiators → Overs ready (said (notes.Begin initiators ready) ∷ asked line (events.Begin initiators ready) ∷ []) i (new_state i ready)
first_overs line i initiators ready b =
    let begins = asked line (events.Begin initiators ready) ∷ [] in
    record {
      cored = first_cored line i initiators ready b;
      all = all_one (said (notes.Begin initiators ready)) begins i (λ r takes x. takes) (all_one (asked line (events.Begin initiators ready)) [] i (λ r takes x. takes) (none_over i));
    }

pub overs_law : Always (λ past w. (i : ℕ) → i < length w.initiators → AllOver past past i)
overs_law = record {
  after_lines = λ line run r has small size i b.
      (of_runs (Overs run.ready) (overs_carried run.ready) line run (λ entries few short all fit j c. tt) (λ j c. first_overs line j run.initiators run.ready c) r i (subst (λ n. i < n) (count_after run run.entries) b)).all;
  between = λ line run r has small size next most told m i b.
      (between_runs (Overs run.ready) (overs_carried run.ready) line run (λ entries few short all fit j c. tt) (λ j c. first_overs line j run.initiators run.ready c) r next most told m i
      (subst (λ n. i < n) (count_between told (after (beginning run) run.entries) ∙ count_after run run.entries) b)).all;
}
