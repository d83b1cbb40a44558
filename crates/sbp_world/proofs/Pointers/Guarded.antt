-- What is carried on of each initiator of a run: its marks, the ORB_POINTER write that its host names, and what it told; as others tell something, and
-- as it hears a packet, lets a transaction time out, and sees a generation.
use Rattle.sbp_world.proofs.Words.Std.{◌≡◌, refl, sym, ◌∙◌, ap, subst, ℕ, suc, ◌+◌, is_some, not, Bool, true, false, List, ◌∷◌, Option, Some, None}
use Rattle.sbp_world.proofs.Words.Wire.{LabelParts, Packet, header_in, kind_as, shape_of, transaction, Finding, Layer, judging_step, of_again, of_generation, of_grammar, of_label, of_request, of_response, purpose_for, state_for, judged_note, empty_outbox, Moment, said, Kind, Transaction, Terms, terms, waits, Side}
use Rattle.sbp_world.proofs.Words.Initiator.{PresentList, Ending, Pointing, Purpose, InitiatorState, receive_step, received, ending_of, is_answered, is_unwritten, answers_pointer, finding_answers}
use Rattle.sbp_world.proofs.Words.Laws.{slot_at}
use Rattle.sbp_world.proofs.Words.World.{behind, NonePoints}
use Rattle.sbp_journal.specs.declared.cause.Judged.TheVariants as judgements
use Rattle.sbp_journal.specs.declared.note.Note.TheVariants as notes
use Rattle.sbp_initiator.specs.declared.purpose.Pointing.TheVariants as pointings
use Rattle.sbp_initiator.specs.declared.purpose.Purpose.TheVariants as purposes
use Rattle.sbp_world.proofs.Wire.Deliver.{judging_stays}
use Rattle.sbp_initiator.proofs.Histories.Busy.{Alone, busy_found, idle, judge_alone, points_to}
use Rattle.sbp_initiator.proofs.Histories.Sits.{busy_now, sits}
use Rattle.sbp_world.proofs.Hosts.Aimed.{Aims, IsAimed}
use Rattle.sbp_world.proofs.Hosts.Hosted.{Cored}
use Rattle.sbp_world.proofs.Hosts.Layered.{AreTame, LayerLeft, read, same}
use Rattle.sbp_world.proofs.Hosts.Lives.{At, at_life, judge_at}
use Rattle.sbp_world.proofs.Hosts.OrbTerms.{AreStill, OrbTerms, orb_terms, still_left}
use Rattle.sbp_world.proofs.Hosts.Pointed.{Pointed}
use Rattle.sbp_world.proofs.Hosts.PointerNotes.{Fit, tame_told}
use Rattle.sbp_world.proofs.Hosts.Pointing.{Points, asked_generation, called_of, under_way_now}
use Rattle.sbp_world.proofs.Hosts.Shown.{IsShown}
use Rattle.sbp_world.proofs.Pointers.Ages.{got_closes}
use Rattle.sbp_world.proofs.Pointers.Dropping.{drops_of}
use Rattle.sbp_world.proofs.Pointers.Finds.{closes_at, is_pended}
use Rattle.sbp_world.proofs.Pointers.Pends.{Pend}
use Rattle.sbp_world.proofs.Pointers.Waits.{Asks, told_asks}
use Rattle.sbp_world.proofs.Pointers.Passing.{IsCurrent, Stand, current_goes, judged_goes, none_goes, told_goes, told_stands}
use Rattle.sbp_world.proofs.Pointers.Resetting.{Resets, still_resets, told_fades}
use Rattle.sbp_world.proofs.Pointers.Showing.{IsShowing, told_present}
use Rattle.sbp_world.proofs.Common.{untrue}

-- Where ORB_POINTER counts as answered, the write that is named was; that is of the generation of its initiator; and each note stands as it may.
pub record Kept (past : List Moment) (i : ℕ) (s : InitiatorState) : Type 0 where
  pub answered : is_answered s.marks.pointing ≡ true → NonePoints past i
  pub current : IsCurrent past i
  pub told : Stand i past

-- the slots of the first ORBs of an initiator's lists
abbrev pub firsts : List Moment → ℕ → ℕ → ℕ
firsts past i = λ n. slot_at past i n 0

pub record Guarded (ready : Bool) (past : List Moment) (i : ℕ) (s : InitiatorState) : Type 0 where
  pub pointed : Pointed ready past i s
  pub aimed : IsAimed ready i s
  pub pend : Pend false (firsts past i) s
  pub generation : s.layer.generation ≡ (terms past).generation (suc i)
  pub kept : Fit past → Kept past i s
  pub asks : Fit past → Asks past i s.target s.layer
  pub resets : Fit past → Resets past i s.target s.layer
  pub shown : IsShowing past i s

-- the terms of the ORBs are the same
pub firsts_same : {pended : Bool} (past now : List Moment) (i : ℕ) (s : InitiatorState) → orb_terms now i ≡ orb_terms past i → Pend pended (firsts past i) s → Pend pended (firsts now i) s
firsts_same {pended} past now i s e k = subst (λ (x : OrbTerms). Pend pended (λ n. x.place n 0) s) (sym e) k

-- ---- marks

pub unwritten_answered : {A : Type 0} (mark : Pointing) → is_unwritten mark ≡ true → is_answered mark ≡ true → A
unwritten_answered pointings.Unwritten e f = untrue f
unwritten_answered pointings.Written e f = untrue e
unwritten_answered pointings.Answered e f = untrue e

-- one that is written and not pended is answered
pub then_answered : (mark : Pointing) → is_unwritten mark ≡ false → is_pended mark ≡ false → is_answered mark ≡ true
then_answered pointings.Unwritten e f = untrue (sym e)
then_answered pointings.Written e f = untrue (sym f)
then_answered pointings.Answered e f = refl

pub not_false : (b : Bool) → false ≡ not b → b ≡ true
not_false true e = refl
not_false false e = untrue e

pub not_true : (b : Bool) → true ≡ not b → b ≡ false
not_true true e = untrue (sym e)
not_true false e = refl

-- a layer that asked for a quadlet at most is in the same generation
pub left_generation : (l : Layer Purpose) (target : ℕ) (now : Layer Purpose) → LayerLeft l target now → now.generation ≡ l.generation
left_generation l target now (same g p) = g
left_generation l target now (read body act calls step) = asked_generation l target body (purposes.Rom act) calls now step

-- ---- what another initiator tells

-- It names what it named, and its list is not dropped there.
module _ (ready : Bool) (past : List Moment) (told : List Side) (tame : AreTame told) (still : AreStill told) (j : ℕ) (x : InitiatorState) (now : Pointed ready (behind told past) j x) (h : Guarded ready past j x) (far : drops_of j told ≡ false) where
  pub others_guarded : Guarded ready (behind told past) j x
  others_guarded =
      let k = tame_told told past j tame in
      let goes = told_goes told past j tame in
      record {
        pointed = now;
        aimed = h.aimed;
        pend = firsts_same past (behind told past) j x (still_left told past j still) h.pend;
        generation = h.generation ∙ sym goes.generation;
        kept = λ f.
            let old = h.kept (k.fit f) in
            record {
              answered = λ e. none_goes goes (old.answered e);
              current = current_goes goes old.current;
              told = told_stands told past j tame still (λ d. untrue (sym far ∙ d)) old.told;
            };
        asks = λ f. told_asks told past j x.target x.layer tame (h.asks (k.fit f));
        resets = λ f. still_resets past (behind told past) j x (told_fades told past j tame) (λ g m. ap (λ (t : Terms). t.held (transaction g (suc j) 0 m)) k.wire) now.cored (h.resets (k.fit f));
        shown = λ n e. told_present told past j tame still far ∙ h.shown n e;
      }

-- ---- an ORB_POINTER is answered

-- a response that closes its write
pub record IsAnswer (s : InitiatorState) (finding : Finding Purpose) : Type 0 where
  pub p : Packet
  pub label : LabelParts
  pub list : ℕ
  pub is : finding ≡ of_response p label (Some (purposes.Pointer list))

answer_by : (purpose : Purpose) (ending : Ending) (present : Option PresentList) (p : Packet) (label : LabelParts) (s : InitiatorState) → answers_pointer purpose ending present ≡ true → IsAnswer s (of_response p label (Some purpose))
answer_by (purposes.Pointer list) ending present p label s e = record { p = p; label = label; list = list; is = refl }
answer_by purposes.Doorbell ending present p label s e = untrue e
answer_by (purposes.AgentReset act) ending present p label s e = untrue e
answer_by (purposes.Enable act) ending present p label s e = untrue e
answer_by (purposes.Management act) ending present p label s e = untrue e
answer_by (purposes.Rom act) ending present p label s e = untrue e
answer_by (purposes.State act list) ending present p label s e = untrue e

pub answer_of : (finding : Finding Purpose) (s : InitiatorState) → finding_answers finding s ≡ true → IsAnswer s finding
answer_of (of_response p label None) s e = untrue e
answer_of (of_response p label (Some purpose)) s e = answer_by purpose (ending_of p) s.lists.slots.present p label s e
answer_of of_generation s e = untrue e
answer_of of_grammar s e = untrue e
answer_of of_label s e = untrue e
answer_of (of_again p rcode) s e = untrue e
answer_of (of_request p) s e = untrue e

-- such a delivery is told as got
pub received_got : (finding : Finding Purpose) (layer : Layer Purpose) (bytes : List ℕ) (p : Packet) (label : LabelParts) (purpose : Option Purpose) (s : InitiatorState) → finding ≡ of_response p label purpose → (received (finding, layer) bytes empty_outbox s).0 ≡ judgements.Got
received_got finding layer bytes p label purpose s e = ap (λ (x : Finding Purpose). (received (x, layer) bytes empty_outbox s).0) e

pub receive_got : (generation : ℕ) (bytes : List ℕ) (p : Packet) (label : LabelParts) (purpose : Option Purpose) (s : InitiatorState) → (judging_step s.layer generation bytes).0 ≡ of_response p label purpose → (receive_step generation bytes empty_outbox s).0 ≡ judgements.Got
unfolding receive_step
receive_got generation bytes p label purpose s e = received_got (judging_step s.layer generation bytes).0 (judging_step s.layer generation bytes).1 bytes p label purpose s e

idle_points : {A : Type 0} (n : ℕ) → idle ≡ points_to n → A
idle_points n e = absurd (differ e)
  where
    differ : idle ≡ points_to n → ⊥
    differ e = cc

module _ (ready : Bool) (serial generation : ℕ) (bytes : List ℕ) (past : List Moment) (i : ℕ) (s : InitiatorState) (after_it : IsShown (said (judged_note serial (receive_step generation bytes empty_outbox s).0) ∷ past) i s.target (judging_step s.layer generation bytes).1) (cored : Cored ready past i s) (aims : Aims s.layer s.target) (points : Points past i s.target s.layer) where
  abbrev l : Layer Purpose
  l = (judging_step s.layer generation bytes).1

  abbrev now : List Moment
  now = said (judged_note serial (receive_step generation bytes empty_outbox s).0) ∷ past

  -- it is under way no more
  module _ (answer : IsAnswer s (judging_step s.layer generation bytes).0) where
    no_more : (number : ℕ) → At l s.target number (Some (purposes.Pointer answer.list)) → ⊥
    no_more number a =
        let own = cored.own.called in
        let x = sits i ready own.calls in
        let w : Alone (0xffc1 + i) (busy_now i ready own.calls) s.layer = subst (λ (y : InitiatorState). Alone (0xffc1 + i) (busy_now i ready own.calls) y.layer) own.is x.alone in
        let v = judge_idle w in
        idle_points answer.list (v.one.has s.target _ _ (purposes.Pointer answer.list) (at_life (0xffc1 + i) v.calls s.target number (Some (purposes.Pointer answer.list)) (subst (λ (y : Layer Purpose). At y s.target number (Some (purposes.Pointer answer.list))) (sym v.layer_is) a)) refl)
      where
        judge_idle : Alone (0xffc1 + i) (busy_now i ready cored.own.called.calls) s.layer → Alone (0xffc1 + i) idle l
        judge_idle w =
            subst (λ (f : Finding Purpose). Alone (0xffc1 + i) (busy_found f (busy_now i ready cored.own.called.calls)) l) answer.is (judge_alone generation bytes w)

    at : At s.layer s.target answer.label.number (Some (purposes.Pointer answer.list))
    at =
        let a = closes_at s.layer generation bytes answer.p answer.label (Some (purposes.Pointer answer.list)) (called_of cored) answer.is in
        subst (λ peer. At s.layer peer answer.label.number (Some (purposes.Pointer answer.list))) (aims (header_in answer.p).source answer.label.number (Some (purposes.Pointer answer.list)) a) a

    abbrev v : Transaction
    v = transaction s.layer.generation (suc i) 0 answer.label.number

    over : (kind : Kind) (n : ℕ) → (terms now).held v ≡ waits kind n → ⊥
    over kind n w =
        let number = answer.label.number in
        let g : l.generation ≡ s.layer.generation = judging_stays s.layer generation bytes in
        let u = under_way_now (state_for l.peers s.target number) (kind_as kind) (after_it.states number ∙ ap (λ x. shape_of ((terms now).held (transaction x (suc i) 0 number))) g ∙ ap shape_of w) in
        let b : At l s.target number (purpose_for l.peers s.target number) = record { kind = u.kind; serial = u.serial; state = u.is; is_for = refl } in
        let c = judge_at s.layer generation bytes s.target number (purpose_for l.peers s.target number) (called_of cored) b in
        let purpose : purpose_for l.peers s.target number ≡ Some (purposes.Pointer answer.list) = sym c.is_for ∙ at.is_for in
        no_more number (record { kind = u.kind; serial = u.serial; state = u.is; is_for = purpose })

    -- so the write that was named is answered
    pub answered_now : NonePoints now i
    answered_now =
        let w = points.waits_for answer.label.number answer.list at in
        let got = receive_got generation bytes answer.p answer.label (Some (purposes.Pointer answer.list)) s answer.is in
        let note_is : said (notes.Got serial) ∷ past ≡ now = ap (λ x. said (judged_note serial x) ∷ past) (sym got) in
        let goes = judged_goes serial (receive_step generation bytes empty_outbox s).0 past i in
        record {
          answered = λ n e.
              let is : w.serial ≡ n = (let x = sym w.pointer_is ∙ goes.fades n e in cc) in
              subst (λ m. is_some ((terms now).closed m) ≡ true) is
              (subst (λ ms. is_some ((terms ms).closed w.serial) ≡ true) note_is
              (got_closes v w.kind w.serial serial past w.held (λ x. over w.kind w.serial (ap (λ ms. (terms ms).held v) (sym note_is) ∙ x))));
        }
