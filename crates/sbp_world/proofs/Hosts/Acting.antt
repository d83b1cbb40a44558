-- The line of an action, for a statement that lines carry on.
use Rattle.sbp_world.proofs.Words.Std.{◌≡◌, refl, sym, ◌∙◌, ap, subst, ℕ, ◌+◌, ◌<◌, false, List, [], ◌∷◌, length, Option, Some, None, set-get_or}
use Rattle.sbp_world.proofs.Words.Wire.{Stored, Moment, terms, empty_outbox, Action, Outgoing, GenerationsState, node_of}
use Rattle.sbp_world.proofs.Words.Initiator.{InitiatorState, Demand, act_step, asked_for, demand_of, Turn, new_state}
use Rattle.sbp_world.proofs.Words.Laws.{event_of}
use Rattle.sbp_world.proofs.Words.World.{handed_out, acted, acted_by, weight_in, WorldState, initiator_at, with_initiator, AreNotes, history}
use Rattle.sbp_journal.specs.declared.event.Event.TheVariants as events
use Rattle.sbp_journal.specs.declared.note.Note.TheVariants as notes
use Rattle.sbp_initiator.proofs.FirstRow.{refusal_law}
use Rattle.sbp_world.proofs.InitiatorForms as initiators
use Rattle.sbp_world.proofs.Hosts.Asked.{IfRequest}
use Rattle.sbp_world.proofs.Hosts.Carries.{Are, CarriesSent, Does, IsLineOf, asking_hands, note_carried, quiet_hands}
use Rattle.sbp_world.proofs.Hosts.Liners.{own_notes}
use Rattle.sbp_world.proofs.Hosts.Requested.{AreRequests, act_sends, all_told_bus}
use Rattle.sbp_world.proofs.Hosts.Shown.{IsShown}

module _ {Q : List Moment → ℕ → InitiatorState → Type 0} (P : List Moment → ℕ → InitiatorState → Type 0) (law : CarriesSent Q P) (past : List Moment) (line i : ℕ) (action : Action) (w : WorldState) (inside : i < length w.initiators) (h : Are P past w) where
  abbrev old : InitiatorState
  old = initiator_at w i

  -- one that is refused leaves its initiator
  refuses : (number : ℕ) (turn : Turn) → act_step action empty_outbox old ≡ (Some number, turn) → Are P past (acted_by (Some number, turn) line i action w)
  refuses number (outbox, state) e =
      let same = refusal_law.unchanged action empty_outbox old number (ap (λ (x : Option ℕ × Turn). x.0) e) in
      let kept : state ≡ old = sym (ap (λ (x : Option ℕ × Turn). x.1.1) e) ∙ ap (λ (x : Turn). x.1) same in
      note_carried P law past (with_initiator i state w) (notes.Refused line number) (λ j. refl) (λ j. tt)
      (subst (λ (x : InitiatorState). Are P past (with_initiator i x w)) (sym kept)
      (subst (λ (xs : List InitiatorState). Are P past (record w { initiators = xs })) (sym (set-get_or w.initiators i (new_state 0 false))) h))

  module _ (under : event_of (history w past) ≡ Some (events.Act i action)) (fit : IsLineOf action) (shown : IsShown (history w past) i old.target old.layer) (known : Q (history w past) i old) (there : node_of w.generations (i + 1) old.target ≡ Some 0) (fresh : (terms (history w past)).injected (w.store.last + 1) ≡ false) (asks : (d : Demand) → demand_of action old ≡ Some d → IfRequest (asked_for d old).0) where
    hands_by : (t : Turn) → AreNotes t.0.sides → Does P (history w past) i t → (packets : List Outgoing) → t.0.packets ≡ packets → AreRequests old.target packets → Are P past (handed_out (i + 1) (weight_in action) t.0 (with_initiator i t.1 w))
    hands_by t own does [] e r = quiet_hands P law past w i t inside own does (λ j b f. h j b) (weight_in action) e
    hands_by t own does (packet ∷ []) e r =
        let same = all_told_bus (weight_in action) t.0.sides (with_initiator i t.1 w) in
        asking_hands P law past w i t inside own does (λ j b f. h j b) (weight_in action) packet e (
          ap (λ (g : GenerationsState). node_of g (i + 1) packet.to) same.generations ∙ ap (node_of w.generations (i + 1)) r.0 ∙ there,
          ap (λ (x : Stored). (terms (history w past)).injected (x.last + 1)) same.store ∙ fresh,
        ) r.1
    hands_by t own does (packet ∷ other ∷ more) e r = absurd r

    acts_by : (r : Option ℕ × Turn) → act_step action empty_outbox old ≡ r → Are P past (acted_by r line i action w)
    acts_by (Some number, turn) e = refuses number turn e
    acts_by (None, t) e =
        let is_done : (act_step action empty_outbox old).0 ≡ None = ap (λ (x : Option ℕ × Turn). x.0) e in
        let turn : (act_step action empty_outbox old).1 ≡ t = ap (λ (x : Option ℕ × Turn). x.1) e in
        hands_by t
        (subst (λ (x : Turn). AreNotes x.0.sides) turn (own_notes (act_step action empty_outbox old).1.0.sides (initiators.acts action empty_outbox old tt)))
        (subst (Does P (history w past) i) turn (law.acts action (history w past) i old under fit is_done shown known (h i inside)))
        t.0.packets refl
        (subst (λ (x : Turn). AreRequests old.target x.0.packets) turn (act_sends action old asks))

    pub acts : Are P past (acted line i action w)
    unfolding acted
    acts = acts_by (act_step action empty_outbox old) refl
