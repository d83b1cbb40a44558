-- Where lists are open as they should be, agents are along them, and what they read is what the lists hold, a reply brings no more than the present command has.
use Rattle.sbp_world.proofs.Words.Std.{◌≡◌, ◌∙◌, refl, sym, ap, subst, ℕ, Bool, true, false, List, Option}
use Rattle.sbp_world.proofs.Words.Wire.{Packet, Sent, Moment, Cmd}
use Rattle.sbp_world.proofs.Words.Target.{Main, answer_in}
use Rattle.sbp_world.proofs.Words.Laws.{command_at, linked, slot_at, ends}
use Rattle.sbp_world.proofs.Words.World.{AllBrought, AreAlong, IsCalm, OpenLists, WorldState, initiator_in, is_open_at, machine_at}
use Rattle.command_agent.specs.Making.{Brings}
use Rattle.sbp_world.specs.Counting.Brings.{BringsFew, IsMainReply, PlacesBringFew}
use Rattle.sbp_world.specs.Counting.Rooms.{chunks_of, elements_of, of_list, present_command}
use Rattle.sbp_world.proofs.Counting.BringsOrbs.{brings_few, none_few}

module _ (past : List Moment) (w : WorldState) (lists : OpenLists past w) (agents : AreAlong past w) (brought : (i : ℕ) → IsCalm past i → AllBrought past w i) (sent : Sent) (packet : Packet) (place : ℕ) (r : IsMainReply w sent packet place) (calm : IsCalm past (initiator_in w place)) where
  open_few : is_open_at w place ≡ true → BringsFew past w place (answer_in packet)
  open_few is =
      let i = initiator_in w place in
      let m = machine_at w place in
      let o = lists.listed place r.small is calm in
      let goes = agents.all place r.small is calm o.n o.list in
      let brings = brought i calm sent r.comes packet r.label place Main r.found r.main r.small refl o.n o.list goes.progress goes.is goes.along in
      let few = brings_few (linked past i o.n) (slot_at past i o.n) (command_at past i o.n) goes.progress m (answer_in packet) goes.along brings in
      let here : present_command past w place ≡ command_at past i o.n goes.progress.ended = ap (λ l. of_list l (λ n. command_at past i n (ends past i n))) o.list ∙ ap (command_at past i o.n) (sym goes.is) in
      subst (λ (c : Option Cmd). Brings (elements_of c) (chunks_of c) m (answer_in packet)) (sym here) few

  few_at : (b : Bool) → is_open_at w place ≡ b → BringsFew past w place (answer_in packet)
  few_at true is = open_few is
  few_at false is = none_few (elements_of (present_command past w place)) (chunks_of (present_command past w place)) (machine_at w place).phase (machine_at w place) (answer_in packet) is

pub places_bring_few : PlacesBringFew
places_bring_few past w lists agents brought = λ sent packet place r calm. few_at past w lists agents brought sent packet place r calm (is_open_at w place) refl
