-- What is told of a step of the agent of a place: notes of the ORB behind those that have ended, which the order law has there.
use Rattle.sbp_world.proofs.Common.{or_left, or_right}
use Rattle.sbp_world.proofs.Words.Std.{◌≡◌, ◌∙◌, refl, sym, ap, subst, ◌<◌, ◌≤◌, ◌||◌, ℕ, suc, is_some, Bool, true, false, List, ◌∷◌, ◌++◌, map, Option, Some, None, IfSome, arith}
use Rattle.sbp_world.proofs.Words.Wire.{Holder, check_of, dead_note, ended_note, list_in, orb_in, ran_note, Moment, said, Note}
use Rattle.sbp_world.proofs.Words.Target.{Sense, Outcome, PlainDisk, AgentStep, Machine, has_present, src_of, Along, Progress, IsEnd, IsRun, Keeps, end_by, progress_by, run_by, orb_of}
use Rattle.sbp_world.proofs.Words.Initiator.{Ask, FailCause, StatusKind, start}
use Rattle.sbp_world.proofs.Words.Laws.{linked, slot_at, is_cut, appends, ends, lists, ran_status, runs}
use Rattle.sbp_world.proofs.Words.World.{holder, ticket_at, WorldState, has_list, WasHad, UnrunLaw, orbs, GoesAlong}
use Rattle.bus_memory.specs.declared.window.Window.TheVariants as windows
use Rattle.sbp_journal.specs.declared.note.Note.TheVariants as notes
use Rattle.sbp_world.proofs.Lists.Running.{ends_with, later_unrun, none_ran, runs_other, same_run, status_here, status_other}
use Rattle.sbp_world.proofs.Lists.Later.{had_next}
use Rattle.sbp_world.proofs.Lists.Passing.{PassLaw, EndsNext, GoesOn, HasRun}
use Rattle.sbp_world.proofs.Lists.Named.{IsTurn, as_read, ended_more, ended_other, order_ended, order_ran}
use Rattle.sbp_world.proofs.Lists.StatusLosses.{present_is}
use Rattle.sbp_world.proofs.Lists.Stands.{no}

-- what is known of the agent of a place, by who has it
abbrev pub AgentAt : (ℕ → Bool) → List Moment → Holder → Machine → Type 0
AgentAt wild ms h m = has_list m.phase ≡ true → (n : ℕ) → h.list ≡ Some n → wild h.initiator ≡ false → GoesAlong ms h.initiator n m

-- and how its ORBs ran
abbrev pub AgentOn : (ℕ → Bool) → List Moment → Holder → Machine → Type 0
AgentOn wild ms h m = has_list m.phase ≡ true → (n : ℕ) → h.list ≡ Some n → wild h.initiator ≡ false → GoesOn ms h.initiator n m

pub along_of : (wild : ℕ → Bool) (ms : List Moment) (h : Holder) (m : Machine) → AgentOn wild ms h m → AgentAt wild ms h m
along_of wild ms h m a d n e own = let g = a d n e own in record { progress = g.progress; is = g.is; along = g.along }

-- ---- a place in its turn

module _ (wild : ℕ → Bool) (past : List Moment) (v : WorldState) (q n : ℕ) (machines : ℕ → Machine) where
  abbrev pub i : ℕ
  i = (holder v q).initiator

  abbrev pub behind : List Note → List Moment
  behind fresh = map said fresh ++ past

  -- what is known of the list, of which so many ORBs have ended: it is open, and its ORBs are the ones that their addresses name
  pub record ListAt (latest : ℕ) (cut : Bool) (linked_is appended : ℕ) (slot : ℕ → ℕ) (ended : ℕ) : Type 0 where
    pub latest_is : suc n ≡ latest
    pub uncut : cut ≡ false
    pub within : linked_is ≤ appended
    pub list : (k : ℕ) → ended ≤ k → k < linked_is → list_in (ticket_at v q (start (windows.Orb (slot k)))) ≡ Some n
    pub number : (k : ℕ) → ended ≤ k → k < linked_is → orb_in (ticket_at v q (start (windows.Orb (slot k)))) ≡ Some k

  abbrev pub IsListed : List Moment → Type 0
  IsListed ms = ListAt (lists ms i) (is_cut ms i n) (linked ms i n) (appends ms i n) (slot_at ms i n) (ends ms i n)

  -- what is told is of the present ORB, the one behind so many
  pub record Faces (linked_is : ℕ) (slot : ℕ → ℕ) (ended : ℕ) (m : Machine) : Type 0 where
    pub has : has_present m.phase ≡ true
    pub place : m.present ≡ start (windows.Orb (slot ended))
    pub linked_one : ended < linked_is

  -- of all other places
  abbrev pub Others : List Moment → Type 0
  Others ms = (p : ℕ) → p < 8 → (p ≡ q → ⊥) → AgentOn wild ms (holder v p) (machines p)

  -- none of them has a list of this initiator
  abbrev pub Apart : Type 0
  Apart = (p : ℕ) → p < 8 → (p ≡ q → ⊥) → has_list (machines p).phase ≡ true → wild (holder v p).initiator ≡ false → (holder v p).initiator ≡ i → ⊥

  -- ---- the notes of a step
  abbrev pub ran_fresh : Option Outcome → Machine → List Note → List Note
  ran_fresh None m fresh = fresh
  ran_fresh (Some outcome) m fresh = ran_note (holder v q) (ticket_at v q (orb_of m)) m.orb.cdb m.payload outcome ∷ fresh

  abbrev pub dead_fresh : Option FailCause → List Note → List Note
  dead_fresh None fresh = fresh
  dead_fresh (Some cause) fresh = dead_note (holder v q) cause ∷ fresh

  abbrev pub ended_fresh : Option StatusKind → Machine → List Note → List Note
  ended_fresh None m fresh = fresh
  ended_fresh (Some status) m fresh = ended_note (holder v q) (ticket_at v q (orb_of m)) status ∷ fresh

  abbrev pub step_fresh : AgentStep × Machine → List Note → List Note
  step_fresh (step, m) fresh = ended_fresh step.ended m (dead_fresh step.dead (ran_fresh step.ran m fresh))

  -- the agent is along the list again
  pub record Own (ms : List Moment) (m : Machine) : Type 0 where
    pub listed : IsListed ms
    pub goes : GoesOn ms i n m
    pub had : WasHad ms i n

  pub record Behind (m : Machine) (fresh : List Note) : Type 0 where
    pub law : PassLaw wild (behind fresh)
    pub others : Others (behind fresh)
    pub own : wild i ≡ false → Own (behind fresh) m

  -- the other places, behind a run and an end
  others_ran : Apart → (ms : List Moment) (x y : Option ℕ) (unit : ℕ) (cdb bytes : List ℕ) (check : Option Sense) → Others ms → Others (said (notes.Ran i x y unit cdb bytes check) ∷ ms)
  others_ran apart ms x y unit cdb bytes check o p b d h m e w =
      let g = o p b d h m e w in
      let j = (holder v p).initiator in
      let k = g.progress.ended in
      let off : j ≡ i → ⊥ = λ same. apart p b d h w same in
      record {
        progress = g.progress;
        is = g.is;
        ran = λ t. same_run g.progress.outcome (runs ms j m k) (runs (said (notes.Ran i x y unit cdb bytes check) ∷ ms) j m k) (ran_status ms j m k) (ran_status (said (notes.Ran i x y unit cdb bytes check) ∷ ms) j m k) (runs_other ms i unit cdb bytes check x y j m k off) (status_other ms i unit cdb bytes check x y j m k off) (g.ran t);
        along = g.along;
      }

  others_ended : Apart → (ms : List Moment) (x y : Option ℕ) (status : StatusKind) → Others ms → Others (said (notes.Ended i x y status) ∷ ms)
  others_ended apart ms x y status o p b d h m e w =
      let g = o p b d h m e w in
      record {
        progress = g.progress;
        is = g.is ∙ sym (ended_other ms i n status x y (holder v p).initiator m (λ same. apart p b d h w same));
        ran = g.ran;
        along = g.along;
      }

  fewer : (latest : ℕ) (cut : Bool) (linked_is appended : ℕ) (slot : ℕ → ℕ) (ended more : ℕ) → ended ≤ more → ListAt latest cut linked_is appended slot ended → ListAt latest cut linked_is appended slot more
  fewer latest cut linked_is appended slot ended more le l = record {
    latest_is = l.latest_is;
    uncut = l.uncut;
    within = l.within;
    list = λ k b c. l.list k (omega arith) c;
    number = λ k b c. l.number k (omega arith) c;
  }

  -- how far the list is behind a step
  abbrev ended_by : Option StatusKind → ℕ → ℕ
  ended_by None ended = ended
  ended_by (Some status) ended = suc ended

  abbrev outcome_by : Option StatusKind → Option Outcome → Option Outcome
  outcome_by None outcome = outcome
  outcome_by (Some status) outcome = None

  run_ended : (x : Option Outcome) (answer : List ℕ) (p : Progress) → (run_by x answer p).ended ≡ p.ended
  run_ended None answer p = refl
  run_ended (Some outcome) answer p = refl

  end_ended : (x : Option StatusKind) (src : ℕ) (p : Progress) → (end_by x src p).ended ≡ ended_by x p.ended
  end_ended None src p = refl
  end_ended (Some status) src p = refl

  end_outcome : (x : Option StatusKind) (src : ℕ) (p : Progress) → (end_by x src p).outcome ≡ outcome_by x p.outcome
  end_outcome None src p = refl
  end_outcome (Some status) src p = refl

  -- in the course of telling a step: so far the agent was along the list
  module _ (step : AgentStep) (m : Machine) (before : Progress) where
    abbrev due : Bool
    due = is_some step.ran || is_some step.ended

    abbrev middle : Progress
    middle = run_by step.ran m.answer before

    abbrev after : Progress
    after = progress_by (step, m) before

    record Stage (outcome : Option Outcome) (ending : Option StatusKind) (fresh : List Note) : Type 0 where
      law : PassLaw wild (behind fresh)
      others : Others (behind fresh)
      listed : IsListed (behind fresh)
      is : before.ended ≡ ends (behind fresh) i n
      ran : UnrunLaw → HasRun outcome (runs (behind fresh) i n before.ended) (ran_status (behind fresh) i n before.ended)
      faces : due ≡ true → Faces (linked (behind fresh) i n) (slot_at (behind fresh) i n) before.ended m
      along : Along (orbs (behind fresh) i n) after m
      had : WasHad (behind fresh) i n
      closes : IfSome ending (λ kind. IsEnd (orbs (behind fresh) i n) middle kind m.present m.orb m.outgoing step.ask)

    turn : (outcome : Option Outcome) (ending : Option StatusKind) (fresh : List Note) → Stage outcome ending fresh → due ≡ true → IsTurn wild (behind fresh) i n before.ended (list_in (ticket_at v q (orb_of m))) (orb_in (ticket_at v q (orb_of m)))
    turn outcome ending fresh s d =
        let f = s.faces d in
        let l = s.listed in
        let e = s.is in
        let w = l.within in
        let below = f.linked_one in
        let at : orb_of m ≡ start (windows.Orb (slot_at (behind fresh) i n before.ended)) = present_is m f.has ∙ f.place in
        record {
          list = ap (λ x. list_in (ticket_at v q x)) at ∙ l.list before.ended (omega arith) below;
          number = ap (λ x. orb_in (ticket_at v q x)) at ∙ l.number before.ended (omega arith) below;
          next = record { number = e; appended = omega arith; still = record { latest = l.latest_is; uncut = l.uncut } };
        }

    stage_ran : Apart → (place : ℕ) (plain : PlainDisk) (x : Option Outcome) (ending : Option StatusKind) (fresh : List Note) → (is_some x ≡ true → due ≡ true) → IfSome x (λ outcome. IsRun (orbs (behind fresh) i n) before place plain m.present m.orb m.segments m.payload) → Stage before.outcome ending fresh → Stage (run_by x m.answer before).outcome ending (ran_fresh x m fresh)
    stage_ran apart place plain None ending fresh d r s = s
    stage_ran apart place plain (Some outcome) ending fresh d r s =
        let ms = behind fresh in
        let t = ticket_at v q (orb_of m) in
        let u = turn before.outcome ending fresh s (d refl) in
        let unit = (holder v q).unit in
        let none : UnrunLaw → runs ms i n before.ended ≡ 0 = λ e. subst (λ o. HasRun o (runs ms i n before.ended) (ran_status ms i n before.ended)) r.once (s.ran e) in
        record {
          law = (
            order_ran wild ms i n before.ended (list_in t) (orb_in t) unit m.orb.cdb m.payload (check_of outcome) (λ own. u)
                (λ own. record { next = as_read ms i n before place m.present plain m.orb m.segments m.payload r u.next; once = none }),
            s.law,
          );
          others = others_ran apart ms (list_in t) (orb_in t) unit m.orb.cdb m.payload (check_of outcome) s.others;
          listed = s.listed;
          is = s.is;
          ran = λ e. status_here ms i unit m.orb.cdb m.payload (check_of outcome) (list_in t) (orb_in t) n before.ended u.list u.number;
          faces = s.faces;
          along = s.along;
          had = had_next (said (ran_note (holder v q) t m.orb.cdb m.payload outcome)) ms i n s.had;
          closes = closes_on ending s.closes;
        }
      where
        closes_on : (ending : Option StatusKind) → IfSome ending (λ kind. IsEnd (orbs (behind fresh) i n) middle kind m.present m.orb m.outgoing step.ask) → IfSome ending (λ kind. IsEnd (orbs (behind (ran_fresh (Some outcome) m fresh)) i n) middle kind m.present m.orb m.outgoing step.ask)
        closes_on None c = c
        closes_on (Some kind) c = c

    stage_dead : (x : Option FailCause) (outcome : Option Outcome) (ending : Option StatusKind) (fresh : List Note) → Stage outcome ending fresh → Stage outcome ending (dead_fresh x fresh)
    stage_dead None outcome ending fresh s = s
    stage_dead (Some cause) outcome ending fresh s = record {
      law = (tt, s.law);
      others = s.others;
      listed = s.listed;
      is = s.is;
      ran = s.ran;
      faces = s.faces;
      along = s.along;
      had = had_next (said (dead_note (holder v q) cause)) (behind fresh) i n s.had;
      closes = closes_on ending s.closes;
    }
      where
        closes_on : (ending : Option StatusKind) → IfSome ending (λ kind. IsEnd (orbs (behind fresh) i n) middle kind m.present m.orb m.outgoing step.ask) → IfSome ending (λ kind. IsEnd (orbs (behind (dead_fresh (Some cause) fresh)) i n) middle kind m.present m.orb m.outgoing step.ask)
        closes_on None c = c
        closes_on (Some kind) c = c

    stage_ended : Apart → wild i ≡ false → (x : Option StatusKind) (fresh : List Note) → after.ended ≡ ended_by x before.ended → after.outcome ≡ outcome_by x middle.outcome → (is_some x ≡ true → due ≡ true) → Stage middle.outcome x fresh → Behind m (ended_fresh x m fresh)
    stage_ended apart own None fresh e f d s =
        let ms = behind fresh in
        record {
          law = s.law;
          others = s.others;
          own = λ o. record {
            listed = s.listed;
            goes = record {
              progress = after;
              is = e ∙ s.is;
              ran = λ g. subst (λ k. HasRun after.outcome (runs ms i n k) (ran_status ms i n k)) (sym e) (subst (λ o. HasRun o (runs ms i n before.ended) (ran_status ms i n before.ended)) (sym f) (s.ran g));
              along = s.along;
            };
            had = s.had;
          };
        }
    stage_ended apart own (Some status) fresh e f d s =
        let ms = behind fresh in
        let t = ticket_at v q (orb_of m) in
        let now = said (notes.Ended i (list_in t) (orb_in t) status) ∷ ms in
        let u = turn middle.outcome (Some status) fresh s (d refl) in
        let more = ended_more ms i n status (list_in t) (orb_in t) before.ended u.list u.number in
        let k = before.ended in
        let over : EndsNext ms i n k status = record {
          turn = u.next;
          by = λ g. ends_with status middle.outcome (runs ms i n k) (ran_status ms i n k) (none_ran ms i n k) s.closes.by (s.ran g);
          had = s.had;
        } in
        let at : after.ended ≡ suc (ends ms i n) = e ∙ ap suc s.is in
        let later : runs ms i n after.ended ≡ 0 = later_unrun wild ms s.law i n after.ended own (omega (arith, at)) in
        record {
          law = (order_ended wild ms i n k (list_in t) (orb_in t) status (λ o. u) (λ o. over), s.law);
          others = others_ended apart ms (list_in t) (orb_in t) status s.others;
          own = λ o. record {
            listed = fewer (lists ms i) (is_cut ms i n) (linked ms i n) (appends ms i n) (slot_at ms i n) (ends ms i n) (ends now i n) (omega (arith, more)) s.listed;
            goes = record {
              progress = after;
              is = e ∙ ap suc s.is ∙ sym more;
              ran = λ g. subst (λ o. HasRun o (runs ms i n after.ended) (ran_status ms i n after.ended)) (sym f) later;
              along = s.along;
            };
            had = had_next (said (ended_note (holder v q) t status)) ms i n s.had;
          };
        }

  -- ---- a step that keeps along
  end_faces : (x : Option StatusKind) (p : Progress) (ms : List Moment) (m : Machine) (ask : Ask) → has_present m.phase ≡ true → IfSome x (λ kind. IsEnd (orbs ms i n) p kind m.present m.orb m.outgoing ask) → is_some x ≡ true → Faces (linked ms i n) (slot_at ms i n) p.ended m
  end_faces None p ms m ask h e d = absurd (no d)
  end_faces (Some kind) p ms m ask h e d = record { has = h; place = e.turn.place; linked_one = e.turn.linked }

  run_faces : (x : Option Outcome) (p : Progress) (ms : List Moment) (place : ℕ) (plain : PlainDisk) (m : Machine) → has_present m.phase ≡ true → IfSome x (λ outcome. IsRun (orbs ms i n) p place plain m.present m.orb m.segments m.payload) → is_some x ≡ true → Faces (linked ms i n) (slot_at ms i n) p.ended m
  run_faces None p ms place plain m h e d = absurd (no d)
  run_faces (Some outcome) p ms place plain m h e d = record { has = h; place = e.turn.place; linked_one = e.turn.linked }

  either : {A : Type 0} (a b : Bool) → (a ≡ true → A) → (b ≡ true → A) → (a || b) ≡ true → A
  either true b f g e = f refl
  either false b f g e = g e

  -- what is due of a step, where so many have ended and the list is known
  pub record Due (step : AgentStep) (m : Machine) (ms : List Moment) : Type 0 where
    pub listed : IsListed ms
    pub progress : Progress
    pub is : progress.ended ≡ ends ms i n
    pub ran : UnrunLaw → HasRun progress.outcome (runs ms i n progress.ended) (ran_status ms i n progress.ended)
    pub place : ℕ
    pub plain : PlainDisk
    pub main : Ask
    pub ahead : Ask
    pub keeps : Keeps (orbs ms i n) progress place plain main ahead (step, m)
    pub present : is_some step.ran || is_some step.ended ≡ true → has_present m.phase ≡ true
    pub had : WasHad ms i n

  due_faces : (step : AgentStep) (m : Machine) (ms : List Moment) (d : Due step m ms) → is_some step.ran || is_some step.ended ≡ true → Faces (linked ms i n) (slot_at ms i n) d.progress.ended m
  due_faces step m ms d e =
      let has = d.present e in
      either (is_some step.ran) (is_some step.ended)
      (run_faces step.ran d.progress ms d.place d.plain m has d.keeps.runs)
      (λ f. subst (λ x. Faces (linked ms i n) (slot_at ms i n) x m) (run_ended step.ran m.answer d.progress) (end_faces step.ended (run_by step.ran m.answer d.progress) ms m step.ask has d.keeps.ends f)) e

  -- of an initiator that is asked about, and of another one
  honest_told : Apart → wild i ≡ false → (step : AgentStep) (m : Machine) (fresh : List Note) → PassLaw wild (behind fresh) → Others (behind fresh) → Due step m (behind fresh) → Behind m (step_fresh (step, m) fresh)
  honest_told apart own step m fresh law others d =
      let p = d.progress in
      let first : Stage step m p p.outcome step.ended fresh = record {
        law = law;
        others = others;
        listed = d.listed;
        is = d.is;
        ran = d.ran;
        faces = λ e. due_faces step m (behind fresh) d e;
        along = d.keeps.along;
        had = d.had;
        closes = d.keeps.ends;
      } in
      let q = run_by step.ran m.answer p in
      let ran = stage_ran step m p apart d.place d.plain step.ran step.ended fresh (or_left (is_some step.ran) (is_some step.ended)) d.keeps.runs first in
      let dead = stage_dead step m p step.dead q.outcome step.ended (ran_fresh step.ran m fresh) ran in
      stage_ended step m p apart own step.ended (dead_fresh step.dead (ran_fresh step.ran m fresh))
      (end_ended step.ended (src_of m.orb.next) q ∙ ap (λ x. ended_by step.ended x) (run_ended step.ran m.answer p))
      (end_outcome step.ended (src_of m.orb.next) q)
      (or_right (is_some step.ran) (is_some step.ended)) dead

  wild_no : wild i ≡ true → wild i ≡ false → ⊥
  wild_no e f = no (sym f ∙ e)

  -- what is said of an initiator that is not asked about
  record Loose (fresh : List Note) : Type 0 where
    law : PassLaw wild (behind fresh)
    others : Others (behind fresh)

  loose_ran : wild i ≡ true → Apart → (x : Option Outcome) (m : Machine) (fresh : List Note) → Loose fresh → Loose (ran_fresh x m fresh)
  loose_ran w apart None m fresh l = l
  loose_ran w apart (Some outcome) m fresh l =
      let t = ticket_at v q (orb_of m) in
      let unit = (holder v q).unit in
      record {
        law = (order_ran wild (behind fresh) i n 0 (list_in t) (orb_in t) unit m.orb.cdb m.payload (check_of outcome) (λ own. absurd (wild_no w own)) (λ own. absurd (wild_no w own)), l.law);
        others = others_ran apart (behind fresh) (list_in t) (orb_in t) unit m.orb.cdb m.payload (check_of outcome) l.others;
      }

  loose_dead : (x : Option FailCause) (fresh : List Note) → Loose fresh → Loose (dead_fresh x fresh)
  loose_dead None fresh l = l
  loose_dead (Some cause) fresh l = record { law = (tt, l.law); others = l.others }

  loose_ended : wild i ≡ true → Apart → (x : Option StatusKind) (m : Machine) (fresh : List Note) → Loose fresh → Loose (ended_fresh x m fresh)
  loose_ended w apart None m fresh l = l
  loose_ended w apart (Some status) m fresh l =
      let t = ticket_at v q (orb_of m) in
      record {
        law = (order_ended wild (behind fresh) i n 0 (list_in t) (orb_in t) status (λ own. absurd (wild_no w own)) (λ own. absurd (wild_no w own)), l.law);
        others = others_ended apart (behind fresh) (list_in t) (orb_in t) status l.others;
      }

  loose_told : wild i ≡ true → Apart → (step : AgentStep) (m : Machine) (fresh : List Note) → PassLaw wild (behind fresh) → Others (behind fresh) → Behind m (step_fresh (step, m) fresh)
  loose_told w apart step m fresh law others =
      let a = loose_ran w apart step.ran m fresh (record { law = law; others = others }) in
      let b = loose_dead step.dead (ran_fresh step.ran m fresh) a in
      let c = loose_ended w apart step.ended m (dead_fresh step.dead (ran_fresh step.ran m fresh)) b in
      record { law = c.law; others = c.others; own = λ own. absurd (wild_no w own) }

  -- a step is told
  pub step_told : Apart → (step : AgentStep) (m : Machine) (fresh : List Note) → PassLaw wild (behind fresh) → Others (behind fresh) → (wild i ≡ false → Due step m (behind fresh)) → Behind m (step_fresh (step, m) fresh)
  step_told apart step m fresh law others d = by (wild i) refl
    where
      by : (b : Bool) → wild i ≡ b → Behind m (step_fresh (step, m) fresh)
      by true e = loose_told e apart step m fresh law others
      by false e = honest_told apart e step m fresh law others (d e)
