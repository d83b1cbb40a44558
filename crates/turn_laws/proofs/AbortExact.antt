-- What answers the read of the management ORB of an operation of an initiator that injected no packets names, for an abort, the very address of a slot: it is an ORB that stood in the place.
use Rattle.std.proofs.Common.{◌≡◌, ◌∙◌, sym, ap, subst, ◌<◌, ◌+◌, ◌^◌, ℕ, List, [], ◌∷◌, ◌++◌, Some, append_assoc}
use Rattle.bus_transactions.specs.Packets.{SerialsCount}
use Rattle.mgmt_agent.specs.declared.operation.Operation.{Operation}
use Rattle.mgmt_agent.specs.declared.operation.Phase.TheVariants as phases
use Rattle.orb_layout.specs.ManagementOrbs.{management_orb}
use Rattle.rbc_disk.specs.Disk.{Disk}
use Rattle.sbp_journal.specs.Addresses.{Access}
use Rattle.sbp_journal.specs.Run.{Moment, said}
use Rattle.sbp_journal.specs.declared.note.Note.TheVariants as notes
use Rattle.sbp_laws.specs.Targets.{target_at}
use Rattle.sbp_world.specs.Agents.AskedRuns.{read_access}
use Rattle.sbp_world.specs.Lists.Contents.{AreAsked, WasAsked}
use Rattle.sbp_world.specs.Lists.PlaceReads.{BringPlaces}
use Rattle.sbp_world.specs.Lists.ReadOrbs.{IsAnswered}
use Rattle.sbp_world.specs.Lists.Shorts.{AreShort}
use Rattle.sbp_world.proofs.Lists.ContentManages.{bound}
use Rattle.sbp_world.proofs.Lists.OrbsRead.{access_there, in_phase}
use Rattle.sbp_world.proofs.Lists.OwnOps.{IsOwnOp, short_from}
use Rattle.turn_laws.proofs.AbortPlaced.{IsExact, placed_exact}

pub answer_exact : (start : List Disk) (past : List Moment) (i : ℕ) → i + 1 < 2 ^ 16 → SerialsCount past → AreAsked start past → BringPlaces past i → AreShort past
    → (old : Operation) → (target_at start past).manager.operation ≡ Some old → IsOwnOp start past i old → (read : ℕ) → (target_at start past).manages ≡ Some read → old.phase ≡ phases.Orb
    → (serial : ℕ) (bytes : List ℕ) → IsAnswered past i serial read bytes → IsExact (management_orb bytes)
answer_exact start past i few_nodes counts are places shorts old operation own read manages_it phase serial bytes answered =
    let was : WasAsked start past read old = are.each read old (((bound start past counts).own read manages_it).0 ∙ operation) in
    let reads : was.access ≡ read_access old.orb 32 = in_phase old.phase phases.Orb old was.access phase was.content in
    let b = places serial read own.place was.access bytes own.small
    (record {
      read = ap (λ (a : Access). a.is_write) reads;
      block = ap (λ (a : Access). a.is_block) reads;
      from = ap (λ (a : Access). a.offset) reads ∙ own.orb;
      size = ap (λ (a : Access). a.count) reads;
    })
    (record {
      own = answered.own;
      answers = answered.answers;
      of_initiator = answered.of_initiator;
      asks = access_there start past counts read old was;
      reads = ap (λ (a : Access). a.is_write) reads;
      block = ap (λ (a : Access). a.is_block) reads;
      tells = answered.tells;
    }) in
    let front = b.later ++ said (notes.Got read) ∷ [] in
    let at : front ++ b.before ≡ past = append_assoc b.later (said (notes.Got read) ∷ []) b.before ∙ b.is in
    subst (λ (xs : List ℕ). IsExact (management_orb xs)) (sym b.held) (placed_exact i own.place few_nodes b.before (short_from front b.before (subst AreShort (sym at) shorts)))
