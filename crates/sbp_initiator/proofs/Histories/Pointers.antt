-- For which list an ORB_POINTER is answered, over every list of calls.
use Rattle.std.proofs.Common.{◌≡◌, ap, subst, ◌∙◌, ℕ, ◌+◌, Bool, true, List, Option, Some}
use Rattle.orb_list.specs.declared.list.PresentList.{PresentList}
use Rattle.label_table.specs.Layer.{Layer, expiring_step, judging_step}
use Rattle.sbp_initiator.specs.declared.purpose.Purpose.{Purpose}
use Rattle.sbp_initiator.specs.declared.purpose.Purpose.TheVariants as purposes
use Rattle.sbp_initiator.specs.Histories.Laws.{Call, after}
use Rattle.sbp_initiator.specs.Histories.Pointers.{IsPointed, PointerLaw}
use Rattle.sbp_initiator.proofs.Histories.Effects.{HasMarks}
use Rattle.sbp_initiator.proofs.Histories.Over.{counted_now, pointed_now, sound}
use Rattle.sbp_initiator.proofs.Histories.Purposes.{closes_asked, expires_asked}
use Rattle.sbp_initiator.proofs.Histories.Runs.{FitsNow}

module _ (number : ℕ) (ready : Bool) (calls : List Call) where
  is_pointed : (list : ℕ) → pointed_now number ready calls list ≡ true → IsPointed (after number ready calls).1 list
  is_pointed list e =
      let p = (sound number ready calls).marks.pointed in record { begun = p.below list e; written = λ f. p.written list e f }

pub pointer_law : PointerLaw
pointer_law number ready calls h =
    let s = (after number ready calls).1 in
    let k = sound number ready calls in
    let w = k.wires in
    let P : Purpose → Type 0 = FitsNow s.operation s.counts.acts (counted_now number ready calls) (pointed_now number ready calls) in
    record {
      none = λ e. subst (λ (p : Option PresentList). HasMarks p s.marks.pointing) e k.marks.marks;
      closes = λ generation bytes p label list e.
          is_pointed number ready calls list
          (closes_asked P (0xffc1 + number) w.calls generation bytes p label (Some (purposes.Pointer list)) w.asks (ap (λ (l : Layer Purpose). (judging_step l generation bytes).0) w.layer_is ∙ e)).points;
      expires = λ label list e.
          is_pointed number ready calls list
          (expires_asked P (0xffc1 + number) w.calls s.target label (Some (purposes.Pointer list)) w.asks (ap (λ (l : Layer Purpose). (expiring_step l s.target label).0) w.layer_is ∙ e)).points;
    }
