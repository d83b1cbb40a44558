-- At a place, where logins are held for the initiators of their places: no login bars a write at the DOORBELL of an agent that is out of RESET, by the node of the initiator that has its place.
use Rattle.sbp_world.proofs.Words.Std.{arith, ◌≡◌, ◌∙◌, refl, sym, ap, ◌<◌, ◌+◌, ◌*◌, ◌%◌, ◌^◌, ◌&&◌, nat_eq, nat_tests, ℕ, suc, Bool, true, false, cond, List, Option, Some, None}
use Rattle.sbp_world.proofs.Words.Wire.{Header, Holder, Moment, or_nobody, terms, write_quadlet}
use Rattle.sbp_world.proofs.Words.Laws.{id_for}
use Rattle.sbp_world.proofs.Words.Target.{AgentRegister, Disk, Login, agent_base, if_of_node, is_barred, is_barred_at, is_live, is_reset, register_at, state_in}
use Rattle.sbp_world.proofs.Words.World.{AreHeldAt, AreOpened, IsOpened, WorldState, initiator_in, machine_at}
use Rattle.std.proofs.Common.{is_none}
use Rattle.target_base.specs.declared.address.Register.TheVariants as registers
use Rattle.sbp_world.specs.Completing.BellsFree.{AreBellsFree}
use Rattle.sbp_world.proofs.Lists.OpenedAddresses.{IsBase, near_register}

-- ---- the register
module _ (q : ℕ) (b : q < 8) where
  abbrev pointer : ℕ
  pointer = (agent_base q + 0x08) % 2 ^ 48

  abbrev bell : ℕ
  bell = (agent_base q + 0x10) % 2 ^ 48

  plain : pointer ≡ 0xfffff0040000 + 0x20 * q + 8
  plain = omega (arith, b)

  behind : bell + 8 ≡ pointer + 0x10
  behind = omega (arith, b)

  base : IsBase pointer q
  base = record { low = (let p = plain in omega (arith, p)); high = (let p = plain in omega (arith, p, b)); place_is = (let p = plain in omega (arith, p)); distance = (let p = plain in omega (arith, p)) }

  bell_at : register_at bell ≡ Some (record { place = q; register = registers.Doorbell })
  bell_at = near_register pointer bell q 0x10 registers.Doorbell (record { base = base; is = behind; small = omega arith }) refl

both : (login : Login) (x y : Bool) → x ≡ true → y ≡ true → is_none (cond (x && y) (Some login) None) ≡ false
both login true true e f = refl
both login true false e f = absurd (let no : false ≡ true = f in cc)
both login false y e f = absurd (let no : false ≡ true = e in cc)

-- ---- at a place
module _ (start : List Disk) (past : List Moment) (w : WorldState) (opened : AreOpened past w) (held : AreHeldAt start past w) (place : ℕ) (b : place < 8) (up : is_reset (state_in (machine_at w place).phase) ≡ false) (header : Header) (value : ℕ) (source : header.source ≡ id_for (terms past) 0 (suc (initiator_in w place))) where
  o : IsOpened past w place
  o = opened place b up

  of_node : o.login.node ≡ header.source
  of_node =
      let k = held.held place o.login o.is in
      let of = (k.live o.live).of in
      let is : k.holder.initiator ≡ initiator_in w place = ap (λ (h : Holder). h.initiator) (sym (ap or_nobody k.there)) in
      let next : k.holder.initiator + 1 ≡ suc (initiator_in w place) = omega (arith, is) in
      sym of.node_is ∙ (ap (λ node. id_for (terms past) 0 node) next ∙ sym source)

  pub bell_free : is_barred w.target (write_quadlet header (bell place b) value) ≡ false
  unfolding is_barred
  bell_free =
      ap (λ (f : Option AgentRegister). is_barred_at f w.target.logins header.source) (bell_at place b)
      ∙ (ap (λ (l : Option Login). is_none (if_of_node header.source l)) o.is
      ∙ both o.login (is_live o.login) (nat_eq o.login.node header.source) o.live (let n = of_node in let z : nat_eq o.login.node header.source ≡ true = grind (arith, nat_tests, n) in z))

pub are_free : (start : List Disk) (past : List Moment) (w : WorldState) → AreOpened past w → AreHeldAt start past w → AreBellsFree past w
are_free start past w opened held place b up header value source = bell_free start past w opened held place b up header value source
