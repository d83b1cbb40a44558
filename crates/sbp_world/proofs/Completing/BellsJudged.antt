-- A request that the target finds to be one, and that no login bars, is judged as got; so a DOORBELL of an agent that is out of RESET is, which the initiator that has its place wrote, where it is taken as new.
use Rattle.sbp_world.proofs.Words.Std.{arith, ◌≡◌, ◌∙◌, refl, sym, ap, subst, ◌<◌, ◌+◌, ◌%◌, ◌^◌, ℕ, suc, Bool, true, false, cond, List, ◌∷◌, ◌++◌, Option, Some, None, Ok, Err, Result}
use Rattle.sbp_world.proofs.Words.Wire.{Access, Finding, Judged, Moment, Packet, PacketFault, Sent, found_sent, judged_note, judging_step, of_request, reading, said, terms, write_quadlet}
use Rattle.sbp_world.proofs.Words.Target.{Held, NodeState, Purpose, TargetScene, Told, Whole, agent_base, is_barred, is_reset, judged_scene, received, received_as, serving_step, state_in, with_layer}
use Rattle.sbp_world.proofs.Words.Laws.{access_in, access_in_bytes, id_for, spelled_by}
use Rattle.sbp_world.proofs.Words.World.{Stands, WorldState, initiator_in, machine_at, whole_of}
use Rattle.sbp_journal.specs.declared.cause.Judged.TheVariants as judgements
use Rattle.sbp_journal.specs.declared.note.Note.TheVariants as notes
use Rattle.sbp_world.specs.Completing.BellsFree.{AreBellsFree}
use Rattle.sbp_world.proofs.Agents.Management.Still.{hist}
use Rattle.sbp_world.proofs.Common.{untrue}
use Rattle.sbp_world.proofs.Completing.PresentFinds.{IsFound, is_found}
use Rattle.sbp_world.proofs.Completing.PresentGets.{GotFrom}
use Rattle.sbp_world.proofs.Lists.OpenedResets.{IsQuadlet, asks_for, quadlet_of}

got_by : (b : Bool) (x y : Judged × TargetScene) (w : Whole) → b ≡ false → y.0 ≡ judgements.Got → (judged_scene (cond b x y) w).0 ≡ judgements.Got
got_by false x y w e f = f
got_by true x y w e f = untrue (sym e)

pub judged_got : (node : NodeState) (run : Option Told) (generation : ℕ) (bytes : List ℕ) (media : Held) (p : Packet) → (judging_step node.layer generation bytes).0 ≡ of_request p → is_barred node p ≡ false → (received run generation bytes (whole_of node media)).0 ≡ judgements.Got
unfolding received serving_step is_barred
judged_got node run generation bytes media p found free =
    ap (λ (f : Finding Purpose). (received_as run bytes f (with_layer (judging_step node.layer generation bytes).1 (whole_of node media))).0) found
    ∙ got_by (is_barred node p) _ _ (with_layer (judging_step node.layer generation bytes).1 (whole_of node media)) free refl

-- ---- what spells a write is read as a packet
record IsRead (bytes : List ℕ) : Type 0 where
  p : Packet
  read : reading bytes ≡ Ok p

read_by : (bytes : List ℕ) (r : Result Packet PacketFault) → reading bytes ≡ r → (access : Access) → access_in (spelled_by r) ≡ Some access → IsRead bytes
read_by bytes (Ok p) read access e = record { p = p; read = read }
read_by bytes (Err fault) read access e = absurd (let no : None ≡ Some access = e in cc)

-- ---- a DOORBELL
module _ {past : List Moment} (w : WorldState) (h : Stands past w) (serial : ℕ) (sent : Sent) (found : found_sent serial w.store.kept ≡ Some sent) (to_is : sent.to ≡ 0) (honest : sent.injected ≡ false) (access : Access) (spelled : access_in_bytes sent.bytes ≡ Some access) (write : access.is_write ≡ true) (quad : access.is_block ≡ false) (place : ℕ) (small : place < 8) (at : access.offset ≡ agent_base place + 0x10) (up : is_reset (state_in (machine_at w place).phase) ≡ false) (from_is : sent.from ≡ suc (initiator_in w place)) (free : AreBellsFree (hist past w) w) (run : Option Told) (media : Held) (ms : List Moment) (rises : (terms (said (judged_note serial (received run sent.generation sent.bytes (whole_of w.target media)).0) ∷ ms)).news serial ≡ (terms ms).news serial → ⊥) where
  it : IsRead sent.bytes
  it = read_by sent.bytes (reading sent.bytes) refl access spelled

  q : IsQuadlet it.p access.offset
  q = quadlet_of it.p access (asks_for sent.bytes it.p access it.read spelled) write quad

  read : reading sent.bytes ≡ Ok (write_quadlet q.header q.offset q.value)
  read = it.read ∙ ap (λ p. Ok p) q.is

  its : IsFound w h serial sent found to_is honest (write_quadlet q.header q.offset q.value) read refl
  its = is_found w h serial sent found to_is honest (write_quadlet q.header q.offset q.value) read refl run media ms rises

  offset_is : (agent_base place + 0x10) % 2 ^ 48 ≡ q.offset
  offset_is = (let z : (agent_base place + 0x10) % 2 ^ 48 ≡ agent_base place + 0x10 = omega (arith, small) in z) ∙ sym (q.offset_is ∙ at)

  unbarred : is_barred w.target (write_quadlet q.header q.offset q.value) ≡ false
  unbarred =
      subst (λ o. is_barred w.target (write_quadlet q.header o q.value) ≡ false) offset_is
      (free place small up q.header q.value (its.source ∙ ap (λ node. id_for (terms (hist past w)) 0 node) from_is))

  pub bell_judged : (received run sent.generation sent.bytes (whole_of w.target media)).0 ≡ judgements.Got
  bell_judged = judged_got w.target run sent.generation sent.bytes media (write_quadlet q.header q.offset q.value) its.is unbarred

-- ---- in a turn
-- a packet that comes to the target in it, and that this judges as got as it stood before, was got
pub turn_got : (past : List Moment) (w : WorldState) (later : List Moment) (v : WorldState) (serial : ℕ) (g : GotFrom past w later v serial) → (received g.got.run g.got.sent.generation g.got.sent.bytes (whole_of w.target g.got.media)).0 ≡ judgements.Got → g.got.more ++ said (notes.Got serial) ∷ hist later g.w ≡ hist later v
turn_got past w later v serial g judged =
    ap (λ j. g.got.more ++ said (judged_note serial j) ∷ hist later g.w) (sym (ap (λ (node : NodeState). (received g.got.run g.got.sent.generation g.got.sent.bytes (whole_of node g.got.media)).0) g.target ∙ judged)) ∙ g.got.judged
