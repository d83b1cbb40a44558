-- What is known at a place of a run, as the start of what is left needs it: of the packets that the store has, and of the buffers of the agents that are at work.
use Rattle.sbp_world.proofs.Words.Std.{◌≡◌, ◌∙◌, sym, ap, subst, ℕ, List, length, Option}
use Rattle.sbp_world.proofs.Words.Wire.{Cmd, Moment, Rise, Stored, flying, terms}
use Rattle.sbp_world.proofs.Words.Target.{Knows, Machine, Phase, Progress}
use Rattle.sbp_world.proofs.Words.Laws.{command_at, count_flying, ends, linked, slot_at}
use Rattle.sbp_world.proofs.Words.World.{AreAlong, IsTame, OpenLists, Stands, WorldState, initiator_in, machine_at}
use Rattle.command_agent.specs.declared.phase.Phase.TheVariants as phases
use Rattle.packet_store.proofs.Calls.{risen}
use Rattle.sbp_laws.specs.Completion.{in_the_air}
use Rattle.sbp_world.specs.Counting.Rooms.{HoldsAtMost, chunks_in, chunks_of, of_list}
use Rattle.sbp_world.specs.Lists.Lists.{orbs_by}
use Rattle.sbp_world.proofs.Agents.Management.Holding.{ours, was_sent}
use Rattle.sbp_world.proofs.Agents.Management.Still.{hist}
use Rattle.sbp_world.proofs.Counting.BringsOrbs.{buffer_by}
use Rattle.sbp_world.proofs.Counting.Start.{HoldsAll}
use Rattle.sbp_world.proofs.Counting.StartManaging.{AreKept}
use Rattle.sbp_world.proofs.Counting.Worked.{work_lists}
use Rattle.sbp_world.proofs.Wire.Bus.{holds}
use Rattle.sbp_world.proofs.Wire.Flown.{flown_are}

-- ---- the packets
module _ {past : List Moment} (w : WorldState) (h : Stands past w) where
  pub are_kept : AreKept (hist past w) w
  are_kept =
      let follows = (holds h.wire h.reached).follows in
      let rises : Rise 0 h.wire.store.last h.wire.store.kept = subst (λ (st : Stored). Rise 0 st.last st.kept) (sym follows.store_is) (risen follows.calls) in
      record {
        sent = λ serial sent found. was_sent w h serial sent found;
        from = λ serial sent found. (ours w h serial sent found).from;
        rises = subst (λ (st : Stored). Rise 0 st.last st.kept) h.is.store_is rises;
      }

  pub are_flown : in_the_air (hist past w) ≡ length (flying w.store.kept)
  are_flown =
      sym (ap (λ (p : List Moment). count_flying (terms p).flight (terms p).count) h.is.past_is)
      ∙ (flown_are (holds h.wire h.reached).follows ∙ ap (λ (st : Stored). length (flying st.kept)) h.is.store_is)

-- ---- the buffers

-- of each agent that is at work
module _ (linked_to : ℕ) (slot : ℕ → ℕ) (command : ℕ → Option Cmd) (p : Progress) where
  holds_by : (phase : Phase) (m : Machine) → Knows (orbs_by linked_to slot command) p phase m → HoldsAtMost phase (chunks_of (command p.ended)) m
  holds_by (phases.ReadingData wanted) m k = buffer_by (command p.ended) (slot p.ended) m.orb m.segments k.awaits.good.own k.buffer
  holds_by phases.Answering m k = buffer_by (command p.ended) (slot p.ended) m.orb m.segments k.told.good.own k.told.buffer
  holds_by phase m k = tt

pub are_held : (now : List Moment) (w : WorldState) → OpenLists now w → AreAlong now w → IsTame now → HoldsAll now w
are_held now w lists along tame place b e =
    let i = initiator_in w place in
    let m = machine_at w place in
    let is_open = work_lists m.phase e in
    let o = lists.listed place b is_open (tame i) in
    let a = along.all place b is_open (tame i) o.n o.list in
    let held = holds_by (linked now i o.n) (slot_at now i o.n) (command_at now i o.n) a.progress m.phase m a.along.main in
    let same : chunks_of (command_at now i o.n a.progress.ended) ≡ chunks_in now w place =
    ap (λ k. chunks_of (command_at now i o.n k)) a.is ∙ sym (ap (λ l. chunks_of (of_list l (λ n. command_at now i n (ends now i n)))) o.list) in
    subst (λ chunks. HoldsAtMost m.phase chunks m) same held
