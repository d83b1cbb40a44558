-- Behind a reply to the write of a status block an agent asks for another write: a buffer stands below each FIFO, and a status block that follows names the next
-- ORB, which stands in another slot.
use Rattle.sbp_world.proofs.Words.Std.{arith, ◌≡◌, ◌∙◌, refl, sym, ap, subst, inl, ℕ, suc, ◌<◌, ◌%◌, ◌^◌, is_some, true, cond, List, ◌∷◌, ◌++◌, map, length, Option, Some, None}
use Rattle.sbp_world.proofs.Words.Wire.{Moment, asked, said}
use Rattle.sbp_world.proofs.Words.Target.{AgentStep, Login, Machine, Main, PlainDisk, Progress, Told, heard_by, login_at, main_ask, progress_by, reply_step, writes_status}
use Rattle.sbp_world.proofs.Words.Initiator.{Answer, StatusKind, Write}
use Rattle.sbp_world.proofs.Words.Laws.{EachMoment, ends, slot_at}
use Rattle.sbp_world.proofs.Words.World.{AreAlong, AreNamed, AreOwn, AreUntaken, GoesAlong, HoldsOrbs, IsOpenAt, IsTame, OpenLists, WorldState, after, after_all, beginning, begun, has_list, history_of, initiator_at, initiator_in, is_open_at, machine_at, more_deliveries, orbs}
use Rattle.agent_laws.specs.Along.Steps.{IsEnd, Keeps, MainBrings, run_by}
use Rattle.agent_laws.specs.Along.Along.{Knows, Writing}
use Rattle.agent_laws.specs.Along.Requests.{ahead_beside, main_beside}
use Rattle.agent_laws.proofs.Along.Writes.{keeps_along}
use Rattle.bus_memory.specs.declared.window.Window.TheVariants as windows
use Rattle.bus_memory.specs.Windows.{start}
use Rattle.command_agent.specs.declared.phase.Phase.TheVariants as phases
use Rattle.command_agent.specs.Steps.{src_of}
use Rattle.orb_layout.specs.StatusBlocks.{status_bytes}
use Rattle.sbp_base.specs.Quadlets.{quad}
use Rattle.std.specs.Prelude.{IfSome}
use Rattle.sbp_world.specs.Completing.LabelsFollowing.{AsksForOther, DataDiffer, DataLaw, IsOtherThan, StatusesDiffer, StatusesLaw}
use Rattle.sbp_world.specs.Pointers.Moments.{MayStand}
use Rattle.sbp_world.proofs.Completing.LabelsFifos.{own_fifos_law}
use Rattle.sbp_world.proofs.Completing.LabelsSlots.{AreBehind, all_behind, behind_between, slots_differ}
use Rattle.sbp_world.proofs.Counting.Places.{places_law}
use Rattle.sbp_world.proofs.Counting.Worked.{AreWithin}
use Rattle.sbp_world.proofs.Hosts.Orbs.{orbs_law}
use Rattle.sbp_world.proofs.Hosts.Runs.{count_after, count_between}
use Rattle.sbp_world.proofs.Lists.Clauses.{open_lists_law}
use Rattle.sbp_world.proofs.Lists.Courses.{more_than_one}
use Rattle.sbp_world.proofs.Lists.DataLaws.{untaken_by}
use Rattle.sbp_world.proofs.Lists.Lists.{laid}
use Rattle.sbp_world.proofs.Lists.ListsProved.{closing}
use Rattle.sbp_world.proofs.Lists.ManageAsked.{slots_small}
use Rattle.sbp_world.proofs.Lists.Naming.{names_law}
use Rattle.sbp_world.proofs.Lists.OwnFifos.{fifo_high}
use Rattle.sbp_world.proofs.Lists.ShortLines.{short_law}
use Rattle.sbp_world.proofs.Lists.StatusAnswers.{Laid, answering_next, low_by, main_wrote, run_ended, step_ended}
use Rattle.sbp_world.proofs.Lists.Turns.{heard_ended}
use Rattle.sbp_world.proofs.Pointers.Proved.{moments_law}

-- ---- the blocks of two slots
low_quad : (src orb : ℕ) (kind : StatusKind) → quad (status_bytes (record { src = src; kind = kind; orb = orb })) 4 ≡ orb % 2 ^ 32
low_quad src orb kind = omega arith

one_slot : (a b : StatusKind) (src other slot next : ℕ) → slot < 32 → next < 32 → status_bytes (record { src = src; kind = a; orb = start (windows.Orb slot) }) ≡ status_bytes (record { src = other; kind = b; orb = start (windows.Orb next) }) → slot ≡ next
one_slot a b src other slot next small less e =
    let low : start (windows.Orb slot) % 2 ^ 32 ≡ start (windows.Orb next) % 2 ^ 32 = sym (low_quad src (start (windows.Orb slot)) a) ∙ (ap (λ bytes. quad bytes 4) e ∙ low_quad other (start (windows.Orb next)) b) in
    omega (arith, small, less, low)

module _ (now : List Moment) (w : WorldState) (lists : OpenLists now w) (along : AreAlong now w) (within : AreWithin now w) (names : AreNamed now w) (untaken : AreUntaken now w) (holds : (i : ℕ) → i < length w.initiators → HoldsOrbs now i (initiator_at w i)) (stand : (i : ℕ) → i < length w.initiators → EachMoment (MayStand i) now) (tame : IsTame now) (own : 0 < length w.initiators → AreOwn w) (behind : (i : ℕ) → i < length w.initiators → AreBehind now i) where
  module _ (place : ℕ) (small : place < 8) (login : Login) (at : login_at w.target place ≡ Some login) (writing : (machine_at w place).phase ≡ phases.WritingStatus) (plain : PlainDisk) (told : Option Told) (answer : Answer) where
    abbrev M : Machine
    M = machine_at w place

    abbrev i : ℕ
    i = initiator_in w place

    abbrev step : AgentStep × Machine
    step = reply_step M place plain told Main answer

    is_open : is_open_at w place ≡ true
    is_open = ap has_list writing

    open_there : IsOpenAt now w place
    open_there = lists.listed place small is_open (tame i)

    abbrev n : ℕ
    n = open_there.n

    goes : GoesAlong now i n M
    goes = along.all place small is_open (tame i) n open_there.list

    abbrev heard : Progress
    heard = heard_by Main M answer goes.progress

    keeps : Keeps (orbs now i n) heard place plain (main_beside Main M) (ahead_beside Main M) step
    keeps = (keeps_along (orbs now i n)).replies goes.progress M place plain told Main answer (laid now i n) goes.along (subst (λ ph. MainBrings (orbs now i n) goes.progress.ended ph M answer) (sym writing) tt)

    -- the command of the ORB behind those that have ended
    laid_there : ends now i n < (orbs now i n).linked → Laid now i n (ends now i n)
    laid_there below =
        let k = ends now i n in
        let more = within i n open_there.inside in
        let stands = names.stands i n k open_there.still.latest (omega (arith, below, more)) (untaken i open_there.inside (tame i) n k (omega arith)) in
        let s = (holds i open_there.inside).stands (slot_at now i n k) _ stands.small stands.last in
        (s.cmd, (s.command, s.fits))

    low : step.0.ended ≡ None → (offset size : ℕ) → step.0.ask ≡ Write offset size → offset < 0x1110_0000
    low none offset size wrote =
        let then = progress_by step heard in
        let same : then.ended ≡ ends now i n = step_ended step heard none ∙ (heard_ended Main M answer goes.progress ∙ goes.is) in
        low_by now i n (λ k. slots_small i now (stand i open_there.inside) n k) then step.1.phase step.1 keeps.along.main
        (λ g. subst (Laid now i n) (sym same) (laid_there (let below = answering_next now i n then step.1.phase step.1 keeps.along.main g in omega (arith, below, same))))
        offset size (keeps.main_is ∙ main_wrote step.0.promoted step.0.ask _ _ offset size wrote)

    other : step.0.ended ≡ None → AsksForOther M login step
    other none offset size wrote =
        let below = low none offset size wrote in
        let above = fifo_high login.fifo (own (let b = open_there.inside in omega (arith, b)) place login at) in
        subst (λ ph. IsOtherThan (main_ask ph M) (writes_status ph) login.fifo M.outgoing (cond (is_some step.0.ended) login.fifo offset) step.1.outgoing) (sym writing)
        (subst (λ e. IsOtherThan (Write 0 (length M.outgoing)) true login.fifo M.outgoing (cond (is_some e) login.fifo offset) step.1.outgoing) (sym none)
        (λ same alike. absurd (omega (arith, below, above, same))))

    -- ---- a status block
    over : Writing (orbs now i n) goes.progress M.present M.orb.next M.outgoing
    over = subst (λ ph. Knows (orbs now i n) goes.progress ph M) writing goes.along.main

    blocks_differ : (kind : StatusKind) → step.0.ended ≡ Some kind → M.outgoing ≡ step.1.outgoing → ⊥
    blocks_differ kind ends_so alike =
        let then = run_by step.0.ran step.1.answer heard in
        let end : IsEnd (orbs now i n) then kind step.1.present step.1.orb step.1.outgoing step.0.ask = subst (λ o. IfSome o (λ k. IsEnd (orbs now i n) then k step.1.present step.1.orb step.1.outgoing step.0.ask)) ends_so keeps.ends in
        let last = over.over.last in
        let same : then.ended ≡ suc last = run_ended step.0.ran step.1.answer heard ∙ (heard_ended Main M answer goes.progress ∙ over.over.ended) in
        let stood = slots_small i now (stand i open_there.inside) n in
        let linked = subst (λ k. k < (orbs now i n).linked) same end.turn.linked in
        let more = within i n open_there.inside in
        slots_differ now i (behind i open_there.inside) n last (omega (arith, linked, more))
        (one_slot over.kind kind _ _ (slot_at now i n last) (slot_at now i n (suc last)) (stood last) (stood (suc last))
        (sym over.block ∙ (alike ∙ (end.block ∙ ap (λ k. status_bytes (record { src = src_of step.1.orb.next; kind = kind; orb = start (windows.Orb (slot_at now i n k)) })) same))))

    status_other : (ended : Option StatusKind) → step.0.ended ≡ ended → AsksForOther M login step
    status_other None e = other e
    status_other (Some kind) e = λ offset size wrote.
        subst (λ ph. IsOtherThan (main_ask ph M) (writes_status ph) login.fifo M.outgoing (cond (is_some step.0.ended) login.fifo offset) step.1.outgoing) (sym writing)
        (λ same alike. blocks_differ kind e alike)

  pub data_differ : DataDiffer now w
  data_differ tame_here one packet place login reply at writing plain told answer none = other place reply.small login at writing plain told answer none

  pub statuses_differ : StatusesDiffer now w
  statuses_differ tame_here one packet place login reply at writing plain told answer = status_other place reply.small login at writing plain told answer (reply_step (machine_at w place) place plain told Main answer).0.ended refl

-- ---- each place of a run
pub data_law : DataLaw
data_law = record {
  after_lines = λ line run r has small size tame one packet place login reply at writing.
      let w = (after (beginning run) run.entries).world in
      let now = history_of line run in
      let place_known = places_law.after_lines line run r has small size tame in
      let so_far = closing.before open_lists_law line run r has small size (inl tame) in
      let inside : (i : ℕ) → i < length w.initiators → i < run.initiators = λ i l. subst (λ n. i < n) (count_after run run.entries) l in
      data_differ now w place_known.lists place_known.along place_known.within (names_law.after_lines line run r has small size) ((untaken_by short_law).after_lines line run r has small size so_far (inl tame))
      (λ i l. orbs_law.orbs line run r i (inside i l)) (λ i l. moments_law.after_lines line run r i (inside i l)) tame
      (own_fifos_law.after_lines line run r has small size tame) (λ i l. all_behind line run r i (inside i l))
      tame one packet place login reply at writing;
  between = λ line run r has small size next most told m tame one packet place login reply at writing.
      let here = after (beginning run) run.entries in
      let w = (after_all told (begun here)).world in
      let event = more_deliveries most in
      let now = map said w.fresh ++ asked next event ∷ history_of line run in
      let place_known = places_law.between line run r has small size next most told m tame in
      let so_far = closing.between open_lists_law line run r has small size next event (more_than_one most) told m (inl tame) in
      let inside : (i : ℕ) → i < length w.initiators → i < run.initiators = λ i l. subst (λ n. i < n) (count_between told here ∙ count_after run run.entries) l in
      data_differ now w place_known.lists place_known.along place_known.within (names_law.between line run r has small size next event (more_than_one most) told m) ((untaken_by short_law).between line run r has small size next most told m so_far (inl tame))
      (λ i l. orbs_law.between line run r next most told m i (inside i l)) (λ i l. moments_law.between line run r next most told m i (inside i l)) tame
      (own_fifos_law.between line run r has small size next most told m tame) (λ i l. behind_between line run r next most told m i (inside i l))
      tame one packet place login reply at writing;
}

pub statuses_law : StatusesLaw
statuses_law = record {
  after_lines = λ line run r has small size tame one packet place login reply at writing.
      let w = (after (beginning run) run.entries).world in
      let now = history_of line run in
      let place_known = places_law.after_lines line run r has small size tame in
      let so_far = closing.before open_lists_law line run r has small size (inl tame) in
      let inside : (i : ℕ) → i < length w.initiators → i < run.initiators = λ i l. subst (λ n. i < n) (count_after run run.entries) l in
      statuses_differ now w place_known.lists place_known.along place_known.within (names_law.after_lines line run r has small size) ((untaken_by short_law).after_lines line run r has small size so_far (inl tame))
      (λ i l. orbs_law.orbs line run r i (inside i l)) (λ i l. moments_law.after_lines line run r i (inside i l)) tame
      (own_fifos_law.after_lines line run r has small size tame) (λ i l. all_behind line run r i (inside i l))
      tame one packet place login reply at writing;
  between = λ line run r has small size next most told m tame one packet place login reply at writing.
      let here = after (beginning run) run.entries in
      let w = (after_all told (begun here)).world in
      let event = more_deliveries most in
      let now = map said w.fresh ++ asked next event ∷ history_of line run in
      let place_known = places_law.between line run r has small size next most told m tame in
      let so_far = closing.between open_lists_law line run r has small size next event (more_than_one most) told m (inl tame) in
      let inside : (i : ℕ) → i < length w.initiators → i < run.initiators = λ i l. subst (λ n. i < n) (count_between told here ∙ count_after run run.entries) l in
      statuses_differ now w place_known.lists place_known.along place_known.within (names_law.between line run r has small size next event (more_than_one most) told m) ((untaken_by short_law).between line run r has small size next most told m so_far (inl tame))
      (λ i l. orbs_law.between line run r next most told m i (inside i l)) (λ i l. moments_law.between line run r next most told m i (inside i l)) tame
      (own_fifos_law.between line run r has small size next most told m tame) (λ i l. behind_between line run r next most told m i (inside i l))
      tame one packet place login reply at writing;
}
