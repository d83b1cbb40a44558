-- Where a status block is got for a logout, it has status 00, if each does that waits for one; so no logout is refused.
use Rattle.sbp_world.proofs.Words.Std.{◌≡◌, ◌∙◌, refl, sym, ap, subst, ℕ, ◌==◌, Bool, true, false, List, [], ◌∷◌, ◌++◌, map, Option, Some, None}
use Rattle.sbp_world.proofs.Words.Wire.{SerialsCount, Moment, asked, said, Event, Note, Operation, OpWord}
use Rattle.sbp_world.proofs.Words.Target.{status_block, Disk}
use Rattle.sbp_world.proofs.Words.Initiator.{start_of, Running, InitiatorState}
use Rattle.sbp_world.proofs.Words.Laws.{Underway, host_at, EachMoment}
use Rattle.sbp_world.proofs.Words.World.{Core, Work, work_in, work_of, AreUnrefused, IsUnrefused, is_refusal, AreAsked, GrantedAt, IsGot, NoBadAt, IsTold}
use Rattle.bus_memory.specs.declared.window.Window.TheVariants as windows
use Rattle.sbp_world.proofs.Hosts.Hosted.{Cored}
use Rattle.mgmt_agent.specs.declared.status.Status.TheVariants as statuses
use Rattle.sbp_journal.specs.declared.note.Note.TheVariants as notes
use Rattle.sbp_journal.specs.declared.operation.Operation.TheVariants as operations
use Rattle.sbp_journal.specs.declared.operation.OpWord.TheVariants as words
use Rattle.sbp_world.proofs.Lists.Gots.{Next, next, next_line, same_still}
use Rattle.sbp_world.proofs.Lists.LiveBased.{IsAnswerTold, here_tells, line_tells}
use Rattle.sbp_world.proofs.Lists.LiveBlocks.{same_status}
use Rattle.sbp_world.proofs.Lists.LiveLeads.{hands_before}
use Rattle.sbp_world.proofs.Lists.LiveStandings.{good_block}
use Rattle.sbp_world.proofs.Lists.ManageMoments.{Hands, LineFacts, MayHand}
use Rattle.sbp_world.proofs.Lists.ManageTerms.{same_some}
use Rattle.sbp_world.proofs.Lists.Quiet.{AllQuiet, IsQuiet}

-- each status block that waits for a logout has status 00
abbrev pub LeavesWell : List Disk → List Moment → ℕ → Type 0
LeavesWell start before i = (orb : ℕ) (bytes : List ℕ) → IsTold start before i orb bytes → (underway : Underway) → (host_at before i).operation ≡ Some underway → underway.operation ≡ operations.Logout → bytes ≡ good_block orb

-- ---- a turn

module _ (start : List Disk) (before : List Moment) (i : ℕ) (counts : SerialsCount before) (contents : AreAsked start before) (leaves : LeavesWell start before i) where
  zero_by : (status : ℕ) → IsAnswerTold start before i status → (underway : Underway) → (host_at before i).operation ≡ Some underway → underway.operation ≡ operations.Logout → status ≡ 0
  zero_by status x underway is logout =
      let place = x.tells.place in
      let orb_is : x.orb ≡ start_of (windows.Management place) = x.tells.orb_is in
      let same : status_block x.orb x.number ≡ status_block x.orb statuses.NoFault = sym x.bytes_are ∙ leaves x.orb x.bytes x.tells underway is logout in
      x.number_is ∙ same_status place x.tells.telling.small x.number statuses.NoFault (subst (λ orb. status_block orb x.number ≡ status_block orb statuses.NoFault) orb_is same)

  unbad_first : (moment : Moment) → MayHand start i moment before → NoBadAt i moment before
  unbad_first (asked line event) h = tt
  unbad_first (said (notes.Got serial)) h = λ status a. zero_by status (here_tells start before i counts contents serial operations.Logout status h a) a.underway a.is a.same
  unbad_first (said note) h = tt

  unbad_line : (line : ℕ) (event : Event) → LineFacts before → (note : Note) → MayHand start i (said note) (asked line event ∷ before) → NoBadAt i (said note) (asked line event ∷ before)
  unbad_line line event l (notes.Got serial) h = λ status a. zero_by status (line_tells start before i counts contents serial operations.Logout status line event l h a) a.underway a.is a.same
  unbad_line line event l note h = tt

  unbad_quiet : (note : Note) (past : List Moment) → IsQuiet note → NoBadAt i (said note) past
  unbad_quiet (notes.Got serial) past q = absurd q
  unbad_quiet note past q = tt

  unbad_more : (front : List Note) (past : List Moment) → AllQuiet front → EachMoment (NoBadAt i) past → EachMoment (NoBadAt i) (map said front ++ past)
  unbad_more [] past q g = g
  unbad_more (note ∷ front) past q g = (unbad_quiet note (map said front ++ past) q.0, unbad_more front past q.1 g)

  pub unbad_turn : (now : List Moment) → Next before now → Hands start i now → EachMoment (NoBadAt i) before → EachMoment (NoBadAt i) now
  unbad_turn now (same_still e) h g = subst (EachMoment (NoBadAt i)) (sym e) g
  unbad_turn now (next front q moment is) h g =
      let there = hands_before start i front (moment ∷ before) (subst (Hands start i) (sym is) h) in
      subst (EachMoment (NoBadAt i)) is (unbad_more front (moment ∷ before) q (unbad_first moment there.0, g))
  unbad_turn now (next_line front q note line event is) h g =
      let there = hands_before start i front (said note ∷ asked line event ∷ before) (subst (Hands start i) (sym is) h) in
      subst (EachMoment (NoBadAt i)) is (unbad_more front (said note ∷ asked line event ∷ before) q (unbad_line line event there.1.0 note there.0, (tt, g)))

-- ---- by the initiator of the run

module _ (start : List Disk) (before : List Moment) (i : ℕ) (ready : Bool) (s : InitiatorState) (c : Cored ready before i s) (f : (orb : ℕ) (bytes : List ℕ) → IsTold start before i orb bytes → (running : Running) → s.operation ≡ Some running → running.operation ≡ operations.Logout → bytes ≡ good_block orb) where
  module _ (underway : Underway) (is : (host_at before i).operation ≡ Some underway) (logout : underway.operation ≡ operations.Logout) where
    work_is : work_of (Some underway) ≡ work_in s.operation
    work_is = sym (ap work_of is) ∙ ap (λ (x : Core). x.work) c.core

    no_work : work_of (Some underway) ≡ work_in None → ⊥
    no_work e = cc

    leaves_by : (orb : ℕ) (bytes : List ℕ) → IsTold start before i orb bytes → (found : Option Running) → s.operation ≡ found → bytes ≡ good_block orb
    leaves_by orb bytes t None e = absurd (no_work (work_is ∙ ap work_in e))
    leaves_by orb bytes t (Some running) e =
        let w : work_of (Some underway) ≡ work_in (Some running) = work_is ∙ ap work_in e in
        f orb bytes t running e (sym (ap (λ (x : Work). x.operation) (same_some _ _ w)) ∙ logout)

  pub leaves_well : LeavesWell start before i
  leaves_well orb bytes t underway is logout = leaves_by underway is logout orb bytes t s.operation refl

-- ---- no logout is refused

got_zero : (i status : ℕ) (past : List Moment) → IsGot i operations.Logout status past → EachMoment (NoBadAt i) past → status ≡ 0
got_zero i status (said (notes.Got serial) ∷ past) a g = g.0 status a
got_zero i status past a g = absurd a

module _ (i : ℕ) (past : List Moment) (g : EachMoment (NoBadAt i) past) where
  refused_by : (j status : ℕ) (b : Bool) → (j == i) ≡ b → ((j == i) ≡ true → IsGot i operations.Logout status past × (status ≡ 0 → ⊥)) → b ≡ false
  refused_by j status false e x = refl
  refused_by j status true e x = let y = x e in absurd (y.1 (got_zero i status past y.0 g))

  unrefused_word : (j : ℕ) (operation : Operation) (word : OpWord) → GrantedAt i (said (notes.Op j operation word)) past → is_refusal i (notes.Op j operation word) ≡ false
  unrefused_word j operations.Logout (words.Refused status) x = refused_by j status (j == i) refl x
  unrefused_word j operations.Logout words.Done x = refl
  unrefused_word j operations.Logout words.Conflict x = refl
  unrefused_word j operations.Logout words.Error x = refl
  unrefused_word j operations.Logout words.Reset x = refl
  unrefused_word j operations.Logout (words.Count count) x = refl
  unrefused_word j operations.Logout (words.Bad fault) x = refl
  unrefused_word j operations.Logout words.NoUnit x = refl
  unrefused_word j operations.Logout (words.State value) x = refl
  unrefused_word j operations.Rom word x = refl
  unrefused_word j operations.Query word x = refl
  unrefused_word j operations.Reconnect word x = refl
  unrefused_word j operations.Abort word x = refl
  unrefused_word j operations.AbortSet word x = refl
  unrefused_word j operations.UnitReset word x = refl
  unrefused_word j operations.TargetReset word x = refl
  unrefused_word j operations.AgentReset word x = refl
  unrefused_word j operations.State word x = refl
  unrefused_word j operations.Enable word x = refl
  unrefused_word j operations.Login word x = refl

  unrefused_note : (note : Note) → GrantedAt i (said note) past → is_refusal i note ≡ false
  unrefused_note (notes.Op j operation word) x = unrefused_word j operation word x
  unrefused_note note x = refl

  unrefused_moment : (moment : Moment) → GrantedAt i moment past → IsUnrefused i moment past
  unrefused_moment (asked line event) x = tt
  unrefused_moment (said note) x = unrefused_note note x

pub unrefused_of : (i : ℕ) (past : List Moment) → EachMoment (GrantedAt i) past → EachMoment (NoBadAt i) past → AreUnrefused past i
unrefused_of i [] x g = tt
unrefused_of i (moment ∷ past) x g = (unrefused_moment i past g.1 moment x.0, unrefused_of i past x.1 g.1)
