-- A turn of the target in which a transaction of an agent is answered or times out: the agent stays along its list, and what it tells is in the order.
use Rattle.sbp_world.proofs.Words.Std.{◌≡◌, ◌∙◌, refl, sym, ap, subst, ◌<◌, ◌≤◌, ℕ, nat_eq, Bool, true, false, List, [], ◌∷◌, length, Option, Some, None, arith, nat_tests, length-set}
use Rattle.sbp_world.proofs.Words.Wire.{Layer, Cause, Note, empty_outbox, Moment, said, Holder}
use Rattle.sbp_world.proofs.Words.Target.{Disk, disk_at, Told, PlainDisk, Login, Phase, AgentStep, Which, Main, Ahead, Machine, answer_chunk, lost_step, reply_step, Along, Progress, ahead_beside, main_beside, Brings, chunk_by, heard_by, main_heard, status_by, disk, Desk, Purpose, follow, taken, NodeState, Scene, desk_at, scene, with_desk, expired_by, Stage, advance, announced_by, came, changed_by, follow_all, plain_in, replied, stage, whole}
use Rattle.sbp_world.proofs.Words.Initiator.{FailCause, Answer, write_failure}
use Rattle.sbp_world.proofs.Words.Laws.{linked, slot_at, is_cut, appends, ends, lists, ran_status, runs}
use Rattle.sbp_world.proofs.Words.World.{holder, told_all, WorldState, has_list, Unrun, UnrunLaw, orbs, IsCalm, IsOpenAt, Needs, machine_at, WasHad}
use Rattle.orb_layout.specs.declared.ask.FailCause.TheVariants as causes
use Rattle.command_agent.specs.declared.phase.Phase.TheVariants as phases
use Rattle.agent_laws.proofs.Along.Writes.{keeps_along}
use Rattle.sbp_journal.specs.declared.note.Note.TheVariants as notes
use Rattle.sbp_target.proofs.Histories.Calling.{Good}
use Rattle.sbp_world.proofs.Agents.Management.Still.{hist}
use Rattle.sbp_world.proofs.Lists.Follows.{Mid, Pending, announce_from_mid, follow_mid}
use Rattle.sbp_world.proofs.Lists.SameAgents.{set_here, set_there, changed_same}
use Rattle.sbp_world.proofs.Lists.Kept.{Kept, keeps}
use Rattle.sbp_world.proofs.Lists.Lists.{laid}
use Rattle.sbp_world.proofs.Lists.Looks.{Looks, kept_looks, looks_as}
use Rattle.sbp_world.proofs.Lists.Presents.{lost_presents, replied_presents}
use Rattle.sbp_world.proofs.Lists.Running.{as_run}
use Rattle.sbp_world.proofs.Lists.Later.{had_next}
use Rattle.sbp_world.proofs.Lists.Told.{AgentOn, Apart, Due, ListAt, Own}
use Rattle.sbp_world.proofs.Lists.Passing.{PassLaw, GoesOn}
use Rattle.sbp_world.proofs.Lists.Stands.{no}

-- ---- the first note of a turn: the terms of the lists do not read it
pub data First : Note → Type 0 where
  got_it : (serial : ℕ) → First (notes.Got serial)
  ignored_it : (serial : ℕ) (cause : Cause) → First (notes.Ignored serial cause)
  late_it : (serial : ℕ) → First (notes.TimedOut serial)
  seen_it : (node generation : ℕ) → First (notes.Seen node generation)
  tick_it : First notes.Tick
  key_it : (unit : ℕ) → First (notes.Key unit)

module _ (ms : List Moment) where
  first_law : (wild : ℕ → Bool) (note : Note) → First note → PassLaw wild ms → PassLaw wild (said note ∷ ms)
  first_law wild _ (got_it serial) l = (tt, l)
  first_law wild _ (ignored_it serial cause) l = (tt, l)
  first_law wild _ (late_it serial) l = (tt, l)
  first_law wild _ (seen_it node generation) l = (tt, l)
  first_law wild _ tick_it l = (tt, l)
  first_law wild _ (key_it unit) l = (tt, l)

  first_agent : (wild : ℕ → Bool) (note : Note) (h : Holder) (m : Machine) → First note → AgentOn wild ms h m → AgentOn wild (said note ∷ ms) h m
  first_agent wild _ h m (got_it serial) a = a
  first_agent wild _ h m (ignored_it serial cause) a = a
  first_agent wild _ h m (late_it serial) a = a
  first_agent wild _ h m (seen_it node generation) a = a
  first_agent wild _ h m tick_it a = a
  first_agent wild _ h m (key_it unit) a = a

  module _ (i n : ℕ) where
    pub first_goes : (note : Note) (m : Machine) → First note → GoesOn ms i n m → GoesOn (said note ∷ ms) i n m
    first_goes _ m (got_it serial) a = a
    first_goes _ m (ignored_it serial cause) a = a
    first_goes _ m (late_it serial) a = a
    first_goes _ m (seen_it node generation) a = a
    first_goes _ m tick_it a = a
    first_goes _ m (key_it unit) a = a

    -- what is known of list n by the history
    abbrev pub Lists : (ℕ → Bool) → List Moment → WorldState → (q : ℕ) → (ℕ → Machine) → List Moment → Type 0
    Lists wild past v q machines now = ListAt wild past v q n machines (lists now i) (is_cut now i n) (linked now i n) (appends now i n) (slot_at now i n) (ends now i n)

    pub first_listed : (wild : ℕ → Bool) (past : List Moment) (v : WorldState) (q : ℕ) (machines : ℕ → Machine) (note : Note) → First note → Lists wild past v q machines ms → Lists wild past v q machines (said note ∷ ms)
    first_listed wild past v q machines _ (got_it serial) l = l
    first_listed wild past v q machines _ (ignored_it serial cause) l = l
    first_listed wild past v q machines _ (late_it serial) l = l
    first_listed wild past v q machines _ (seen_it node generation) l = l
    first_listed wild past v q machines _ tick_it l = l
    first_listed wild past v q machines _ (key_it unit) l = l

    -- what a reply brings, wherever the agent is along the list
    abbrev pub BringsAt : List Moment → Machine → Which → Answer → Type 0
    BringsAt now m which answer = (progress : Progress) → progress.ended ≡ ends now i n → Along (orbs now i n) progress m → Brings (orbs now i n) progress.ended m which answer

    first_brings : (m : Machine) (which : Which) (answer : Answer) (note : Note) → First note → BringsAt ms m which answer → BringsAt (said note ∷ ms) m which answer
    first_brings m which answer _ (got_it serial) b = b
    first_brings m which answer _ (ignored_it serial cause) b = b
    first_brings m which answer _ (late_it serial) b = b
    first_brings m which answer _ (seen_it node generation) b = b
    first_brings m which answer _ tick_it b = b
    first_brings m which answer _ (key_it unit) b = b

-- ---- what is heard is no end
chunk_ended : (failure : Option FailCause) (size : ℕ) (p : Progress) → (chunk_by failure size p).ended ≡ p.ended
chunk_ended None size p = refl
chunk_ended (Some cause) size p = refl

status_ended : (failure : Option FailCause) (p : Progress) → (status_by failure p).ended ≡ p.ended
status_ended None p = refl
status_ended (Some cause) p = refl

main_ended : (phase : Phase) (m : Machine) (answer : Answer) (p : Progress) → (main_heard phase m answer p).ended ≡ p.ended
main_ended phases.Answering m answer p = chunk_ended (write_failure answer) (answer_chunk m) p
main_ended phases.WritingStatus m answer p = status_ended (write_failure answer) p
main_ended phases.WritingLastStatus m answer p = status_ended (write_failure answer) p
main_ended _ m answer p = refl

pub heard_ended : (which : Which) (m : Machine) (answer : Answer) (p : Progress) → (heard_by which m answer p).ended ≡ p.ended
heard_ended Main m answer p = main_ended m.phase m answer p
heard_ended Ahead m answer p = refl

-- and no run
chunk_outcome : (failure : Option FailCause) (size : ℕ) (p : Progress) → (chunk_by failure size p).outcome ≡ p.outcome
chunk_outcome None size p = refl
chunk_outcome (Some cause) size p = refl

status_outcome : (failure : Option FailCause) (p : Progress) → (status_by failure p).outcome ≡ p.outcome
status_outcome None p = refl
status_outcome (Some cause) p = refl

main_outcome : (phase : Phase) (m : Machine) (answer : Answer) (p : Progress) → (main_heard phase m answer p).outcome ≡ p.outcome
main_outcome phases.Answering m answer p = chunk_outcome (write_failure answer) (answer_chunk m) p
main_outcome phases.WritingStatus m answer p = status_outcome (write_failure answer) p
main_outcome phases.WritingLastStatus m answer p = status_outcome (write_failure answer) p
main_outcome _ m answer p = refl

pub heard_outcome : (which : Which) (m : Machine) (answer : Answer) (p : Progress) → (heard_by which m answer p).outcome ≡ p.outcome
heard_outcome Main m answer p = main_outcome m.phase m answer p
heard_outcome Ahead m answer p = refl

-- ---- an agent that waits for something has a list open

-- the lists that are open were so from a write of ORB_POINTER on
abbrev pub AllHad : (ℕ → Bool) → List Moment → WorldState → Type 0
AllHad wild ms w = (q : ℕ) → q < 8 → has_list (machine_at w q).phase ≡ true → wild (holder w q).initiator ≡ false → (n : ℕ) → (holder w q).list ≡ Some n → WasHad ms (holder w q).initiator n

-- what is known of all, as a turn begins
pub record Ready (wild : ℕ → Bool) (past : List Moment) (w : WorldState) : Type 0 where
  pub good : Good w.target
  pub needs : (i : ℕ) → wild i ≡ false → Needs (hist past w) w i
  pub calm : (i : ℕ) → wild i ≡ false → IsCalm (hist past w) i
  pub within : (i n : ℕ) → i < length w.initiators → linked (hist past w) i n ≤ appends (hist past w) i n
  pub unrun : UnrunLaw → (i : ℕ) → wild i ≡ false → Unrun (hist past w) w
  pub had : AllHad wild (hist past w) w
  pub kept : Kept wild past (machine_at w) w

module _ (wild : ℕ → Bool) (past : List Moment) (w : WorldState) (r : Ready wild past w) (note : Note) (first : First note) where
  -- the world behind the first note
  abbrev pub v : WorldState
  v = record w { fresh = note ∷ w.fresh }

  abbrev pub M : ℕ → Machine
  M = machine_at w

  abbrev pub ms : List Moment
  ms = hist past w

  pub begun : Kept wild past M v
  begun = keeps (first_law ms wild note first r.kept.passes) (λ p b. first_agent ms wild note (holder w p) (M p) first (r.kept.on p b))

  -- ---- the agent that acts
  pub record Acting (q : ℕ) : Type 0 where
    pub n : ℕ
    pub list : wild (holder w q).initiator ≡ false → (holder w q).list ≡ Some n
    pub own : wild (holder w q).initiator ≡ false → Own wild past v q n M (said note ∷ ms) (M q)

  listed_for : (q : ℕ) (o : IsOpenAt ms w q) → Lists ms (holder w q).initiator o.n wild past v q M ms
  listed_for q o = record {
    latest_is = o.still.latest;
    uncut = o.still.uncut;
    within = r.within (holder w q).initiator o.n o.inside;
    list = λ k b c. (o.named k b c).list;
    number = λ k b c. (o.named k b c).number;
  }

  pub acting : (q : ℕ) → q < 8 → has_list (M q).phase ≡ true → Acting q
  acting q b h = by (wild (holder w q).initiator) refl
    where
      by : (x : Bool) → wild (holder w q).initiator ≡ x → Acting q
      by true e = record { n = 0; list = λ f. absurd (no (sym f ∙ e)); own = λ f. absurd (no (sym f ∙ e)) }
      by false e =
          let i = (holder w q).initiator in
          let o = (r.needs i e).lists.listed q b h (r.calm i e) in
          record {
            n = o.n;
            list = λ f. o.list;
            own = λ f. record {
              listed = first_listed ms i o.n wild past v q M note first (listed_for q o);
              goes = first_goes ms i o.n note (M q) first (r.kept.on q b h o.n o.list f);
              had = had_next (said note) ms i o.n (r.had q b h f o.n o.list);
            };
          }

  pub apart : (q n : ℕ) → q < 8 → has_list (M q).phase ≡ true → Apart wild past v q n M
  apart q n b h = λ p c f d e same.
      let own : wild (holder w q).initiator ≡ false = ap wild (sym same) ∙ e in
      f ((r.needs (holder w q).initiator own).lists.one q p b c h d (r.calm (holder w q).initiator own) same)

  -- a scene behind a step of it that is not told yet
  pub pending : (u : WorldState) → Looks u v → (q n : ℕ) (b : q < 8) (a : Apart wild past v q n M) (step : AgentStep) (s : Scene) (m : Machine) → s.outbox.sides ≡ [] → length s.node.desks ≡ 8 → ((p : ℕ) → (p ≡ q → ⊥) → (desk_at s.node p).agent ≡ M p) → (desk_at s.node q).agent ≡ m → (wild (holder w q).initiator ≡ false → Due wild past v q n M step m (said note ∷ ms)) → Pending wild past u v q n M b a step s
  unfolding told_all
  pending u l q n b a step s m silent desks others is due = record {
    fresh = v.fresh;
    is = looks_as (told_all 0 s.outbox.sides u) u v (ap (λ xs. told_all 0 xs u) silent) l;
    desks = desks;
    same = others;
    law = begun.passes;
    others = λ p c f. begun.on p c;
    due = λ own. subst (λ x. Due wild past v q n M step x (said note ∷ ms)) (sym is) (due own);
  }

  -- and behind all of it
  pub finish : (u x : WorldState) (q n : ℕ) (b : q < 8) (a : Apart wild past x q n M) → (wild (holder x q).initiator ≡ false → (holder x q).list ≡ Some n) → (s : Scene) → Mid wild past u x q n M b a s → Kept wild past (λ p. (desk_at s.node p).agent) (told_all 0 s.outbox.sides u)
  finish u x q n b a list s m =
      kept_looks wild past (λ p. (desk_at s.node p).agent) (told_all 0 s.outbox.sides u) (record x { fresh = m.fresh }) m.is (keeps m.after.law (λ p c. by p c (nat_eq p q) refl))
    where
      now : List Moment
      now = hist past (record x { fresh = m.fresh })

      here : AgentOn wild now (holder x q) (desk_at s.node q).agent
      here d k e own =
          let o = m.after.own own in
          let same : n ≡ k = let f = list own in cc in
          subst (λ j. GoesOn now (holder x q).initiator j (desk_at s.node q).agent) same o.goes

      by : (p : ℕ) → p < 8 → (y : Bool) → nat_eq p q ≡ y → AgentOn wild now (holder x p) (desk_at s.node p).agent
      by p c true e =
          let same : q ≡ p = grind (arith, nat_tests) in
          subst (λ j. AgentOn wild now (holder x j) (desk_at s.node j).agent) same here
      by p c false e =
          let other : p ≡ q → ⊥ = λ f. no (sym e ∙ (let z : nat_eq p q ≡ true = grind (arith, nat_tests) in z)) in
          subst (AgentOn wild now (holder x p)) (sym (m.same p other)) (m.after.others p c other)

  -- ---- a reply
  module _ (u : WorldState) (l : Looks u v) (q : ℕ) (b : q < 8) (login : Login) (which : Which) (h : has_list (M q).phase ≡ true) (layer : Layer Purpose) (told : Option Told) (answer : Answer) (disks : List Disk) where
    abbrev act : Acting q
    act = acting q b h

    abbrev off : Apart wild past v q act.n M
    off = apart q act.n b h

    abbrev node : NodeState
    node = record w.target { layer = layer }

    abbrev plain : PlainDisk
    plain = plain_in node.units disks login.unit

    abbrev step : AgentStep × Machine
    step = reply_step (M q) q plain told which answer

    reply_due : (wild (holder w q).initiator ≡ false → BringsAt ms (holder w q).initiator act.n ms (M q) which answer) → wild (holder w q).initiator ≡ false → Due wild past v q act.n M step.0 step.1 (said note ∷ ms)
    reply_due brings own =
        let i = (holder w q).initiator in
        let o = act.own own in
        let p = o.goes.progress in
        let list = orbs (said note ∷ ms) i act.n in
        let brought = first_brings ms i act.n (M q) which answer note first (brings own) p o.goes.is o.goes.along in
        record {
          listed = o.listed;
          progress = heard_by which (M q) answer p;
          is = heard_ended which (M q) answer p ∙ o.goes.is;
          ran = λ t. as_run p (heard_by which (M q) answer p) (runs (said note ∷ ms) i act.n) (ran_status (said note ∷ ms) i act.n) (heard_outcome which (M q) answer p) (heard_ended which (M q) answer p) (o.goes.ran t);
          place = q;
          plain = plain;
          main = main_beside which (M q);
          ahead = ahead_beside which (M q);
          keeps = (keeps_along list).replies p (M q) q plain told which answer (laid (said note ∷ ms) i act.n) o.goes.along brought;
          present = replied_presents (M q) q plain told which answer;
          had = o.had;
        }

    announced_mid : (x : Bool) (s : Scene) → Mid wild past u v q act.n M b off s → Mid wild past u v q act.n M b off (announced_by x login.unit q s)
    announced_mid true s m = announce_from_mid wild past u v q act.n M b off 8 0 login.unit q (omega arith) s m
    announced_mid false s m = m

    abbrev st : Stage
    st = (replied told q login.unit which answer (stage node disks)).1

    abbrev loaded : Bool
    loaded = came (disk_at disks login.unit) (disk_at st.disks login.unit)

    abbrev desk_now : Desk
    desk_now = record (taken which (desk_at w.target q)) { agent = step.1 }

    inside : q < length w.target.desks
    inside = let e = r.good.mid.size in omega (arith, e)

    reply_mid : (wild (holder w q).initiator ≡ false → BringsAt ms (holder w q).initiator act.n ms (M q) which answer) → (let x = advance told q login which answer (whole (scene node empty_outbox) disks) in Mid wild past u v q act.n M b off (scene x.node x.outbox))
    unfolding advance replied follow_all
    reply_mid brings =
        let later = changed_by loaded login.unit q st.node in
        let c = changed_same loaded login.unit q st.node in
        announced_mid loaded (follow q login step.0 (scene later empty_outbox))
        (follow_mid wild past u v q act.n M b off login step.0 (scene later empty_outbox)
        (pending u l q act.n b off step.0 (scene later empty_outbox) step.1 refl (c.desks ∙ length-set w.target.desks q desk_now ∙ r.good.mid.size)
        (λ p f. c.agents p ∙ ap (λ (x : Desk). x.agent) (set_there node q p desk_now inside f)) (c.agents q ∙ ap (λ (x : Desk). x.agent) (set_here node q desk_now inside)) (reply_due brings)))

    pub reply_kept : (wild (holder w q).initiator ≡ false → BringsAt ms (holder w q).initiator act.n ms (M q) which answer) → (let x = advance told q login which answer (whole (scene node empty_outbox) disks) in Kept wild past (λ p. (desk_at x.node p).agent) (told_all 0 x.outbox.sides u))
    reply_kept brings = let x = advance told q login which answer (whole (scene node empty_outbox) disks) in finish u v q act.n b off act.list (scene x.node x.outbox) (reply_mid brings)

  -- ---- a time-out
  module _ (u : WorldState) (l : Looks u v) (q : ℕ) (b : q < 8) (login : Login) (which : Which) (h : has_list (M q).phase ≡ true) (layer : Layer Purpose) where
    abbrev late_act : Acting q
    late_act = acting q b h

    abbrev late_off : Apart wild past v q late_act.n M
    late_off = apart q late_act.n b h

    abbrev late_node : NodeState
    late_node = record w.target { layer = layer }

    abbrev loss : AgentStep × Machine
    loss = lost_step (M q) which causes.Timeout

    late_due : wild (holder w q).initiator ≡ false → Due wild past v q late_act.n M loss.0 loss.1 (said note ∷ ms)
    late_due own =
        let i = (holder w q).initiator in
        let o = late_act.own own in
        record {
          listed = o.listed;
          progress = o.goes.progress;
          is = o.goes.is;
          ran = o.goes.ran;
          place = 0;
          plain = disk;
          main = main_beside which (M q);
          ahead = ahead_beside which (M q);
          keeps = (keeps_along (orbs (said note ∷ ms) i late_act.n)).loses o.goes.progress (M q) 0 disk which causes.Timeout o.goes.along;
          present = lost_presents (M q) which causes.Timeout;
          had = o.had;
        }

    pub late_kept : (let x = expired_by q (Some login) (Some which) (scene late_node empty_outbox) in Kept wild past (λ p. (desk_at x.node p).agent) (told_all 0 x.outbox.sides u))
    late_kept =
        let d : Desk = record (taken which (desk_at w.target q)) { agent = loss.1 } in
        let inside : q < length w.target.desks = let e = r.good.mid.size in omega (arith, e) in
        let t = scene (with_desk late_node q d) empty_outbox in
        finish u v q late_act.n b late_off late_act.list (follow q login loss.0 t)
        (follow_mid wild past u v q late_act.n M b late_off login loss.0 t
        (pending u l q late_act.n b late_off loss.0 t loss.1 refl (length-set w.target.desks q d ∙ r.good.mid.size)
        (λ p f. ap (λ (x : Desk). x.agent) (set_there late_node q p d inside f)) (ap (λ (x : Desk). x.agent) (set_here late_node q d inside)) late_due))
