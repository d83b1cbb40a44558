-- At a place of a run: where what each ring wrote for a list was got, and the agent that has the list is SUSPENDED, each rung ORB of the list has ended.
use Rattle.sbp_world.proofs.Words.Std.{arith, ◌≡◌, ◌∙◌, refl, sym, subst, ◌<◌, ◌≤◌, ℕ, zero, suc, List, [], ◌∷◌, ◌++◌, length, Some}
use Rattle.sbp_world.proofs.Words.Wire.{Moment, said}
use Rattle.sbp_world.proofs.Words.Target.{Disk}
use Rattle.sbp_world.proofs.Words.Laws.{ends, lists}
use Rattle.sbp_world.proofs.Words.World.{IsCalm, IsTameOrFew, Lasts, WorldState, holder, initiator_in, machine_at}
use Rattle.command_agent.specs.declared.phase.Phase.TheVariants as phases
use Rattle.sbp_journal.specs.declared.note.Note.TheVariants as notes
use Rattle.sbp_world.specs.Completing.Bells.{AllRungEnded, AreBelled, AreBellsGot, AreRungLinked, IsBellGot, WasBelled}
use Rattle.sbp_world.specs.Completing.Sights.{rung}
use Rattle.sbp_world.proofs.Agents.Management.Holding.{Holding}
use Rattle.sbp_world.proofs.Agents.Management.Still.{hist}
use Rattle.sbp_world.proofs.Common.{moment_joined}
use Rattle.sbp_world.proofs.Completing.BellsEnded.{Facts, all_ended}
use Rattle.sbp_world.proofs.Hosts.Carrying.{last_from}
use Rattle.sbp_world.proofs.Hosts.Lasting.{from_moment}
use Rattle.sbp_world.proofs.Hosts.LastingTerms.{AllLast}
use Rattle.sbp_world.proofs.Lists.StillTurns.{site_at}

-- what is known of it
pub record Rings (start_disks : List Disk) (ms : List Moment) (w : WorldState) : Type 0 where
  pub facts : Facts start_disks ms w
  pub belled : (i : ℕ) → i < length w.initiators → AreBelled ms i
  pub linked_so : (i : ℕ) → i < length w.initiators → AreRungLinked ms i

module _ (units ready : ℕ) (has : 0 < units) (start_disks : List Disk) {past : List Moment} {lines : ℕ} (w : WorldState) (h : Holding units ready start_disks past lines w) (rings : Rings start_disks (hist past w) w) (beside : IsTameOrFew (hist past w)) where
  abbrev ms : List Moment
  ms = hist past w

  module _ (place n : ℕ) (small : place < 8) (inside : initiator_in w place < length w.initiators) (calm : IsCalm ms (initiator_in w place)) (held : (holder w place).list ≡ Some n) (latest : suc n ≡ lists ms (initiator_in w place)) (suspended : (machine_at w place).phase ≡ phases.Suspended) (got : AreBellsGot start_disks ms place (initiator_in w place) n) where
    abbrev i : ℕ
    i = initiator_in w place

    all_last : AllLast ms i
    all_last = (site_at start_disks past w rings.facts.known.kit.ground).last i inside

    module _ (k : ℕ) (below : k < rung ms i n) where
      written : WasBelled ms i n k
      written = rings.belled i inside n k below

      x : IsBellGot start_disks ms place i n k written
      x = got k written

      -- it was linked as the ring wrote
      written_at : (written.front ++ said (notes.Sent written.serial written.generation (suc i) written.to written.bytes) ∷ []) ++ written.back ≡ ms
      written_at = moment_joined written.front (said (notes.Sent written.serial written.generation (suc i) written.to written.bytes)) written.back ∙ written.is

      bell_at : (x.bell.later ++ said (notes.Got x.bell.serial) ∷ []) ++ x.bell.past ≡ ms
      bell_at = moment_joined x.bell.later (said (notes.Got x.bell.serial)) x.bell.past ∙ x.bell.is

      lasts : Lasts written.back x.bell.past i
      lasts = from_moment x.front written.back x.bell.past i x.is (last_from (x.bell.later ++ said (notes.Got x.bell.serial) ∷ []) x.bell.past i (subst (λ l. AllLast l i) (sym bell_at) all_last))

      one_ended : k < ends ms i n
      one_ended =
          let then = written.rung_then in
          let linked_then = rings.linked_so i inside (written.front ++ said (notes.Sent written.serial written.generation (suc i) written.to written.bytes) ∷ []) written.back written_at n in
          let on = lasts.linked_on n in
          let over = all_ended units ready has start_disks w h rings.facts beside place n small inside calm held latest suspended x.bell in
          omega (arith, then, linked_then, on, over)

    all_rung : (count : ℕ) → rung ms i n ≡ count → count ≤ ends ms i n
    all_rung zero e = omega arith
    all_rung (suc k) e = let b = one_ended k (omega (arith, e)) in omega (arith, b)

  pub all_rung_ended : AllRungEnded start_disks ms w
  all_rung_ended place n small inside calm held latest suspended got = all_rung place n small inside calm held latest suspended got _ refl
