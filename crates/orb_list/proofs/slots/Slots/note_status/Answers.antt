use Rattle.std.proofs.Common.{arith, Option, get_or, slice_set, ◌∙◌, ap, sym, subst}
use Rattle.std.proofs.Math.ListN.{length-set}
use Rattle.orb_list.specs.declared.list.PresentList.{PresentList}
use Rattle.orb_list.specs.Table.{free_state}
use Rattle.orb_list.specs.Holds.{HoldsPresent}
use Rattle.orb_list.proofs.Sound.{sound_status, state_held}
use Rattle.orb_list.proofs.slots.Slots.note_status.Goals as goal

pub invariant_of-self : goal.invariant_of-self
invariant_of-self c =
    let i = c.self.invariant in
    let f = c.from.ensures in
    let s = c.requires.small in
    let held = ap free_state c.after.ensures ∙ state_held c.args.status.now in
    record {
      size = length-set c.self.inside.slots c.from.result (record (get_or c.self.inside.slots c.from.result c.index-self-from.result) { state = c.after.result }) ∙ i.size;
      lists = i.lists;
      present =
          subst (λ (p : Option PresentList). HoldsPresent (slice_set c.self.inside.slots c.from.result (record (get_or c.self.inside.slots c.from.result c.index-self-from.result) { state = c.after.result })) c.self.inside.acts p) (sym c.pass.ensures)
          (sound_status c.self.inside.slots c.self.inside.acts c.from.result c.self.inside.present c.number.result c.index-self-from.result c.after.result i.size (omega arith) held i.present);
    }
