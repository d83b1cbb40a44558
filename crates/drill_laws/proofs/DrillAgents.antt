-- What an agent of the terms waits for, and what it dropped as it died; and what becomes of its machine and of what it asks for.
use Rattle.std.proofs.Common.{◌≡◌, ◌∙◌, ◌⊎◌, inl, inr, refl, sym, ap, ℕ, ◌&&◌, ◌||◌, not, Bool, true, false, cond, Option, Some, None, Result, Ok, Err}
use Rattle.command_agent.specs.Machine.{Machine, is_ahead, is_sent, state_in}
use Rattle.command_agent.specs.Steps.{ahead_step, doorbell_in, doorbell_step, point_in, point_step, pointed, quiet, reply_step}
use Rattle.command_agent.specs.declared.phase.Phase.{Phase}
use Rattle.command_agent.specs.declared.phase.Phase.TheVariants as phases
use Rattle.command_agent.specs.declared.step.PointRefusal.{PointRefusal}
use Rattle.command_agent.specs.declared.step.Which.TheVariants.{Ahead}
use Rattle.orb_layout.specs.Replies.{Answer}
use Rattle.orb_layout.specs.declared.ask.Ask.{Ask}
use Rattle.orb_layout.specs.declared.ask.Ask.TheVariants.{Nothing, Read, Write}
use Rattle.orb_layout.specs.declared.pointer.OrbPointer.{OrbPointer}
use Rattle.orb_layout.specs.declared.pointer.OrbPointer.TheVariants.{At, Null}
use Rattle.rbc_disk.specs.Runs.{Told}
use Rattle.rbc_disk.specs.Units.{PlainDisk}
use Rattle.sbp_laws.specs.Targets.{Agent, is_nothing, sends_of, wants, wants_it}
use Rattle.sbp_target.proofs.Histories.Stepped.{Fit, behind_fetch, behind_reread, is_asked, is_bare}
use Rattle.sbp_world.proofs.Common.{none_is, untrue}
use Rattle.sbp_world.proofs.Completing.DeadKnownSteps.{is_alive}
use Rattle.drill_laws.proofs.DrillDies.{IsLast}

-- ---- what an agent waits for
-- It asks for a transaction only where it has none, and `last` is the read ahead that it dropped, as it died.
pub record Fits (a : Agent) (last : Option ℕ) : Type 0 where
  pub fit : Fit a.machine
  pub none : is_sent a.machine.phase ≡ false → a.main ≡ None
  pub asks : is_nothing a.asks ≡ false → (a.main ≡ None) × (is_sent a.machine.phase ≡ true)
  pub idle : is_ahead a.machine.ahead ≡ false → a.ahead ≡ None
  pub reads : is_nothing a.asks_ahead ≡ false → (a.ahead ≡ None) × (is_ahead a.machine.ahead ≡ true)
  pub over : (last ≡ None) ⊎ IsLast a.machine

pub data Owns (a : Agent) (last : Option ℕ) (s : ℕ) : Type 0 where
  by_main : a.main ≡ Some s → Owns a last s
  by_ahead : a.ahead ≡ Some s → Owns a last s
  by_last : last ≡ Some s → Owns a last s

last_bare : (p : Phase) → is_alive p ≡ false → is_bare p ≡ true
last_bare phases.WritingLastStatus e = refl
last_bare phases.Dead e = refl
last_bare phases.Reset e = refl
last_bare phases.Suspended e = refl
last_bare phases.Fetching e = refl
last_bare phases.ReadingNext e = refl
last_bare phases.ReadingTable e = absurd (cc e)
last_bare (phases.ReadingData wanted) e = absurd (cc e)
last_bare phases.Answering e = absurd (cc e)
last_bare phases.WritingStatus e = absurd (cc e)

pub nothing_is : (ask : Ask) → is_nothing ask ≡ false → is_asked ask ≡ true
nothing_is Nothing e = absurd (cc e)
nothing_is (Read offset size) e = refl
nothing_is (Write offset size) e = refl

pub asked_not : (ask : Ask) → is_asked ask ≡ false → is_nothing ask ≡ false → {A : Type 0} → A
asked_not Nothing e f = absurd (cc f)
asked_not (Read offset size) e f = absurd (cc e)
asked_not (Write offset size) e f = absurd (cc e)

-- what was dropped, with a read ahead that is dropped now
abbrev pub kept : Option ℕ → Option ℕ → Option ℕ
kept (Some serial) last = Some serial
kept None last = last

module _ (a : Agent) (last : Option ℕ) (f : Fits a last) where
  pub last_none : IsLast a.machine → a.ahead ≡ None
  last_none o = f.idle (f.fit.bare (last_bare a.machine.phase o))

  pub kept_ahead : (s : ℕ) → a.ahead ≡ Some s → kept a.ahead last ≡ Some s
  kept_ahead s e = ap (λ o. kept o last) e

  pub kept_last : (s : ℕ) → last ≡ Some s → kept a.ahead last ≡ Some s
  kept_last s e = by f.over
    where
      by : (last ≡ None) ⊎ IsLast a.machine → kept a.ahead last ≡ Some s
      by (inl n) = none_is s (sym n ∙ e)
      by (inr o) = ap (λ x. kept x last) (last_none o) ∙ e

-- a read ahead behind a step
pub lost_ahead : (p x : Bool) (o : Option ℕ) → x ≡ false → cond (p || not x) None o ≡ None
lost_ahead true x o e = refl
lost_ahead false true o e = absurd (cc e)
lost_ahead false false o e = refl

pub same_ahead : (p x : Bool) (o : Option ℕ) → p ≡ false → x ≡ true → cond (p || not x) None o ≡ o
same_ahead true x o e f = absurd (cc e)
same_ahead false true o e f = refl
same_ahead false false o e f = absurd (cc f)

pub none_ahead : (b : Bool) (o : Option ℕ) → o ≡ None → cond b None o ≡ None
none_ahead true o e = refl
none_ahead false o e = e

pub died : (q h d p : Bool) → false ≡ (q || (h && not (d || p))) → h ≡ true → p ≡ false → d ≡ true
died q h true p e f g = refl
died true h false p e f g = untrue e
died false true false false e f g = untrue e
died false true false true e f g = absurd (cc g)
died false false false p e f g = untrue f

-- ---- machines
-- a reply to a read ahead that it does not wait for
pub none_read : (m : Machine) (place : ℕ) (plain : PlainDisk) (told : Option Told) (answer : Answer) → is_ahead m.ahead ≡ false → reply_step m place plain told Ahead answer ≡ (quiet, m)
unfolding reply_step
none_read m place plain told answer e = ap (λ b. cond b (ahead_step m answer) (quiet, m)) e

-- a pointer that is taken
pub record IsTaken (m : Machine) (s : Ask × Machine) : Type 0 where
  pub fit : Fit s.1
  pub goes : is_sent s.1.phase ≡ true
  pub rests : is_sent m.phase ≡ false
  pub bare : is_ahead m.ahead ≡ false
  pub alive : is_alive m.phase ≡ true

abbrev pub IsPointed : Machine → Result Ask PointRefusal × Machine → Type 0
IsPointed m (Err refusal, machine) = Unit {0}
IsPointed m (Ok ask, machine) = IsTaken m (ask, machine)

pointed_at : (m : Machine) (pointer : OrbPointer) → is_sent m.phase ≡ false → is_ahead m.ahead ≡ false → is_alive m.phase ≡ true → IsPointed m (pointed m pointer)
pointed_at m Null r b a = tt
pointed_at m (At next) r b a = record { fit = (behind_fetch m next).fit; goes = refl; rests = r; bare = b; alive = a }

points_by : (phase : Phase) (m : Machine) (pointer : OrbPointer) → m.phase ≡ phase → Fit m → IsPointed m (point_in (state_in phase) m pointer)
points_by phases.Reset m pointer e f = pointed_at m pointer (ap is_sent e) (f.bare (ap is_bare e)) (ap is_alive e)
points_by phases.Suspended m pointer e f = pointed_at m pointer (ap is_sent e) (f.bare (ap is_bare e)) (ap is_alive e)
points_by phases.Dead m pointer e f = tt
points_by phases.Fetching m pointer e f = tt
points_by phases.ReadingTable m pointer e f = tt
points_by (phases.ReadingData wanted) m pointer e f = tt
points_by phases.Answering m pointer e f = tt
points_by phases.WritingStatus m pointer e f = tt
points_by phases.ReadingNext m pointer e f = tt
points_by phases.WritingLastStatus m pointer e f = tt

pub points_so : (m : Machine) (pointer : OrbPointer) → Fit m → IsPointed m (point_step m pointer)
unfolding point_step
points_so m pointer f = points_by m.phase m pointer refl f

-- a doorbell
pub record IsBell (m : Machine) (s : Ask × Machine) : Type 0 where
  pub fit : Fit s.1
  pub ahead : is_ahead s.1.ahead ≡ is_ahead m.ahead
  pub last : IsLast m → IsLast s.1

marked : (m : Machine) → Fit m → IsBell m (Nothing, record m { doorbell = true })
marked m f = record { fit = record { bare = f.bare; next = f.next; limit = f.limit }; ahead = refl; last = λ o. o }

unmarked : (m : Machine) → Fit m → IsBell m (Nothing, m)
unmarked m f = record { fit = f; ahead = refl; last = λ o. o }

bell_by : (phase : Phase) (m : Machine) → m.phase ≡ phase → Fit m → IsBell m (doorbell_in (state_in phase) m)
bell_by phases.Suspended m e f =
    let bare = f.bare (ap is_bare e) in record { fit = (behind_reread m bare).fit; ahead = refl; last = λ o. absurd (let no : true ≡ false = sym (ap is_alive e) ∙ o in cc no) }
bell_by phases.Reset m e f = unmarked m f
bell_by phases.Dead m e f = unmarked m f
bell_by phases.WritingLastStatus m e f = unmarked m f
bell_by phases.Fetching m e f = marked m f
bell_by phases.ReadingTable m e f = marked m f
bell_by (phases.ReadingData wanted) m e f = marked m f
bell_by phases.Answering m e f = marked m f
bell_by phases.WritingStatus m e f = marked m f
bell_by phases.ReadingNext m e f = marked m f

pub bell_of : (m : Machine) → Fit m → IsBell m (doorbell_step m)
unfolding doorbell_step
bell_of m f = bell_by m.phase m refl f

pub alive_none : (a : Agent) (last : Option ℕ) → Fits a last → is_alive a.machine.phase ≡ true → last ≡ None
alive_none a last f e = by f.over
  where
    by : (last ≡ None) ⊎ IsLast a.machine → last ≡ None
    by (inl n) = n
    by (inr o) = absurd (let no : true ≡ false = sym e ∙ o in cc no)

-- ---- a packet that it sends
wanted : (ask : Ask) (is_write : Bool) → wants ask is_write ≡ true → is_nothing ask ≡ false
wanted (Read offset size) is_write e = refl
wanted (Write offset size) is_write e = refl
wanted Nothing is_write e = untrue e

-- what is sent is what it waits for then
pub sends_waits : (is_write : Bool) (serial : ℕ) (a : Agent) → wants_it is_write a ≡ true → ((sends_of is_write serial a).main ≡ Some serial) ⊎ ((sends_of is_write serial a).ahead ≡ Some serial)
sends_waits is_write serial a = by (wants a.asks is_write) (wants a.asks_ahead is_write)
  where
    by : (x y : Bool) → (x || y) ≡ true → (let b = cond x (record a { main = Some serial; asks = Nothing }) (cond y (record a { ahead = Some serial; asks_ahead = Nothing }) a) in (b.main ≡ Some serial) ⊎ (b.ahead ≡ Some serial))
    by true y e = inl refl
    by false true e = inr refl
    by false false e = untrue e

pub record SentFrom (a : Agent) (last : Option ℕ) (b : Agent) : Type 0 where
  pub fits : Fits b last
  pub owns : (s : ℕ) → Owns a last s → Owns b last s

pub sends_new : (is_write : Bool) (serial : ℕ) (a : Agent) (last : Option ℕ) → Fits a last → SentFrom a last (sends_of is_write serial a)
sends_new is_write serial a last f = by (wants a.asks is_write) (wants a.asks_ahead is_write) refl refl
  where
    as_main : Agent
    as_main = record a { main = Some serial; asks = Nothing }

    as_ahead : Agent
    as_ahead = record a { ahead = Some serial; asks_ahead = Nothing }

    main_own : a.main ≡ None → (s : ℕ) → Owns a last s → Owns as_main last s
    main_own n s (by_main h) = none_is s (sym n ∙ h)
    main_own n s (by_ahead h) = by_ahead h
    main_own n s (by_last h) = by_last h

    ahead_own : a.ahead ≡ None → (s : ℕ) → Owns a last s → Owns as_ahead last s
    ahead_own n s (by_main h) = by_main h
    ahead_own n s (by_ahead h) = none_is s (sym n ∙ h)
    ahead_own n s (by_last h) = by_last h

    by : (x y : Bool) → wants a.asks is_write ≡ x → wants a.asks_ahead is_write ≡ y → SentFrom a last (cond x as_main (cond y as_ahead a))
    by true y e g =
        let asked = f.asks (wanted a.asks is_write e) in
        record {
          fits = record { fit = f.fit; none = λ h. untrue (sym h ∙ asked.1); asks = λ h. absurd (cc h); idle = f.idle; reads = f.reads; over = f.over };
          owns = main_own asked.0;
        }
    by false true e g =
        let asked = f.reads (wanted a.asks_ahead is_write g) in
        record {
          fits = record { fit = f.fit; none = f.none; asks = f.asks; idle = λ h. untrue (sym h ∙ asked.1); reads = λ h. absurd (cc h); over = f.over };
          owns = ahead_own asked.0;
        }
    by false false e g = record { fits = f; owns = λ s o. o }
