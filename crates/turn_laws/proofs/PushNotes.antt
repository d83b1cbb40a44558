-- The notes of a disc that came, and its packets, are those of the media law, by what holds from place to place of the target's layer and of the nodes that an unsolicited status is under way to: at each
-- place of a login that hears of the disc its write finds a label, and none is under way to its node, exactly where the terms have it so.
use Rattle.std.proofs.Common.{arith, ◌≡◌, ◌∙◌, refl, sym, ap, subst, ℕ, zero, suc, ◌+◌, ◌<◌, ◌&&◌, not, is_some, Bool, true, false, cond, List, [], ◌∷◌, ◌++◌, length, Option, Some, None}
use Rattle.label_table.specs.Layer.{Layer, asking_step}
use Rattle.label_table.specs.declared.judgement.Asked.{Asked}
use Rattle.login_table.specs.Table.{place_at}
use Rattle.login_table.specs.declared.login.Login.{Login}
use Rattle.sbp_bus.specs.declared.places.Holder.{Holder}
use Rattle.sbp_bus.specs.Generations.{GenerationsState, node_of}
use Rattle.sbp_journal.specs.Wire.{Terms}
use Rattle.sbp_journal.specs.declared.note.Note.{Note}
use Rattle.sbp_journal.specs.declared.note.Note.TheVariants as notes
use Rattle.sbp_laws.specs.Agents.{Request, requests_to}
use Rattle.sbp_laws.specs.MediaLaw.{Load, is_told, may_push, push_body, push_notes, push_requests, told_logins}
use Rattle.sbp_laws.specs.Targets.{Target, initiator_with}
use Rattle.sbp_target.specs.Histories.Sides.{Announced, announced_as, announced_at, announced_from, announced_to, sent_then, unsent_then}
use Rattle.sbp_target.specs.Nodes.{NodeState, desk_at, login_at}
use Rattle.sbp_target.specs.Units.{hears, is_pending}
use Rattle.sbp_target.specs.declared.purpose.Purpose.{Purpose}
use Rattle.sbp_target.specs.declared.purpose.Purpose.TheVariants as purposes
use Rattle.sbp_world.proofs.Wire.Kept.{and_false}
use Rattle.turn_laws.proofs.PushSides.{pushes_in}
use Rattle.turn_laws.proofs.RequestLabels.{AreOf}
use Rattle.turn_laws.proofs.TurnSends.{AreSentFor}

-- over any target and any terms of it
module _ (node : NodeState) (T : Target) (after : Terms) (H : ℕ → Holder) (known : GenerationsState) (unit from : ℕ) where
  abbrev load : Load
  load = record { unit = unit; place = from }

  -- the login of a place hears of the disc
  abbrev pub Hears : ℕ → Login → Type 0
  Hears at login = hears unit from at (desk_at node at) login ≡ true

  abbrev pub Tries : Layer Purpose → Login → Option Asked × Layer Purpose
  Tries layer login = asking_step layer login.node (push_body login) purposes.Unsolicited

  -- what holds of the layer and of these nodes from a place on
  pub record Holds (I : Layer Purpose → List ℕ → ℕ → Type 0) : Type 0 where
    pub answers : (layer : Layer Purpose) (pending : List ℕ) (at : ℕ) → I layer pending at → (login : Login) → login_at node at ≡ Some login → Hears at login → (is_some (Tries layer login).0 && not (is_pending login.node pending)) ≡ may_push T after login
    pub named : (at : ℕ) (login : Login) → login_at node at ≡ Some login → Hears at login → (H at).initiator ≡ initiator_with after login.node
    pub there : (at : ℕ) (login : Login) → login_at node at ≡ Some login → Hears at login → node_of known 0 login.node ≡ Some (suc (initiator_with after login.node))
    pub told : (at : ℕ) (login : Login) → at < 8 → login_at node at ≡ Some login → is_told load T.enabled login ≡ hears unit from at (desk_at node at) login
    pub skips : (layer : Layer Purpose) (pending : List ℕ) (at : ℕ) → I layer pending at → I layer pending (at + 1)
    pub spells : (layer : Layer Purpose) (pending : List ℕ) (at : ℕ) → I layer pending at → (login : Login) → login_at node at ≡ Some login → Hears at login → (asked : Asked) → (Tries layer login).0 ≡ Some asked → AreOf (push_body login) asked.bytes
    pub sends : (layer : Layer Purpose) (pending : List ℕ) (at : ℕ) → I layer pending at → (login : Login) → login_at node at ≡ Some login → Hears at login → (asked : Asked) (next : Layer Purpose) → Tries layer login ≡ (Some asked, next) → I next (pending ++ login.node ∷ []) (at + 1)
    pub fails : (layer : Layer Purpose) (pending : List ℕ) (at : ℕ) → I layer pending at → (login : Login) → login_at node at ≡ Some login → Hears at login → (next : Layer Purpose) → Tries layer login ≡ (None, next) → I next pending (at + 1)

  module _ (I : Layer Purpose → List ℕ → ℕ → Type 0) (h : Holds I) where
    -- the notes and the packets are those of these logins
    abbrev pub AreDue : Announced → List Login → Type 0
    AreDue a logins = (pushes_in H a.0 ≡ push_notes T after logins) × AreSentFor known a.1 (push_requests T after logins)

    abbrev told_beside : List Login → Option Login → List Login
    told_beside rest None = rest
    told_beside rest (Some login) = cond (is_told load T.enabled login) (login ∷ rest) rest

    module _ (at : ℕ) (below : at < 8) (layer : Layer Purpose) (pending : List ℕ) (i : I layer pending at) (more : Layer Purpose → List ℕ → Announced) (rest : List Login) (rest_is : (l : Layer Purpose) (p : List ℕ) → I l p (at + 1) → AreDue (more l p) rest) where
      module _ (login : Login) (e : login_at node at ≡ Some login) (f : Hears at login) where
        abbrev initiator : ℕ
        initiator = initiator_with after login.node

        first : (H at).initiator ≡ initiator
        first = h.named at login e f

        -- the note and the request of this login, or the note alone
        abbrev Noted : Bool → List Note
        Noted b = cond b (notes.Unsolicited initiator) (notes.Unsent initiator) ∷ push_notes T after rest

        abbrev Requested : Bool → List Request
        Requested b = cond b (requests_to (suc initiator) (Some (push_body login)) ++ push_requests T after rest) (push_requests T after rest)

        sent : may_push T after login ≡ true → (asked : Asked) → (Tries layer login).0 ≡ Some asked → (l : Layer Purpose) (p : List ℕ) → I l p (at + 1) → AreDue (sent_then at login.node asked (more l p)) (login ∷ rest)
        sent may asked g l p next =
            let m = rest_is l p next in (
              ap (λ j. notes.Unsolicited j ∷ pushes_in H (more l p).0) first ∙ (ap (λ ns. notes.Unsolicited initiator ∷ ns) m.0 ∙ ap Noted (sym may)),
              subst (λ b. AreSentFor known (sent_then at login.node asked (more l p)).1 (Requested b)) (sym may) ((h.there at login e f, h.spells layer pending at i login e f asked g), m.1),
            )

        unsent : may_push T after login ≡ false → (l : Layer Purpose) (p : List ℕ) → I l p (at + 1) → AreDue (unsent_then at (more l p)) (login ∷ rest)
        unsent may l p next =
            let m = rest_is l p next in (
              ap (λ j. notes.Unsent j ∷ pushes_in H (more l p).0) first ∙ (ap (λ ns. notes.Unsent initiator ∷ ns) m.0 ∙ ap Noted (sym may)),
              subst (λ b. AreSentFor known (more l p).1 (Requested b)) (sym may) m.1,
            )

        by_tries : (a : Option Asked × Layer Purpose) → Tries layer login ≡ a → (is_some a.0 && true) ≡ may_push T after login → AreDue (announced_as at login.node pending more a) (login ∷ rest)
        by_tries (Some given, next) g m = sent (sym m) given (ap (λ (a : Option Asked × Layer Purpose). a.0) g) next (pending ++ login.node ∷ []) (h.sends layer pending at i login e f given next g)
        by_tries (None, next) g m = unsent (sym m) next pending (h.fails layer pending at i login e f next g)

        by_pending : (b : Bool) → (is_some (Tries layer login).0 && not b) ≡ may_push T after login → AreDue (cond b (unsent_then at (more layer pending)) (announced_as at login.node pending more (Tries layer login))) (login ∷ rest)
        by_pending true m = unsent (sym m ∙ and_false (is_some (Tries layer login).0)) layer pending (h.skips layer pending at i)
        by_pending false m = by_tries (Tries layer login) refl m

        hearing : AreDue (announced_to at login layer pending more) (login ∷ rest)
        hearing = by_pending (is_pending login.node pending) (h.answers layer pending at i login e f)

      one_place : (login : Option Login) → login_at node at ≡ login → AreDue (announced_at unit from at (desk_at node at) login layer pending more) (told_beside rest login)
      one_place None e = rest_is layer pending (h.skips layer pending at i)
      one_place (Some login) e =
          subst (λ b. AreDue (announced_at unit from at (desk_at node at) (Some login) layer pending more) (cond b (login ∷ rest) rest)) (sym (h.told at login below e)) (by (hears unit from at (desk_at node at) login) refl)
        where
          by : (b : Bool) → hears unit from at (desk_at node at) login ≡ b → AreDue (cond b (announced_to at login layer pending more) (more layer pending)) (cond b (login ∷ rest) rest)
          by true f = hearing login e f
          by false f = rest_is layer pending (h.skips layer pending at i)

    told_first : (a : Announced) (login : Option Login) (places : List (Option Login)) → AreDue a (told_beside (told_logins load T.enabled places) login) → AreDue a (told_logins load T.enabled (login ∷ places))
    told_first a None places d = d
    told_first a (Some login) places d = d

    abbrev AreNotes : (left at : ℕ) → Layer Purpose → List ℕ → List (Option Login) → Type 0
    AreNotes left at layer pending places = AreDue (announced_from left at unit from node layer pending) (told_logins load T.enabled places)

    pub notes_from : (places : List (Option Login)) (left at : ℕ) (layer : Layer Purpose) (pending : List ℕ) → I layer pending at → length places ≡ left → at + left ≡ 8 → ((n : ℕ) → place_at places n ≡ login_at node (at + n)) → AreNotes left at layer pending places
    notes_from [] zero at layer pending i e b f = (refl, tt)
    notes_from [] (suc left) at layer pending i e b f = absurd (omega (arith, e))
    notes_from (login ∷ places) zero at layer pending i e b f = absurd (omega (arith, e))
    notes_from (login ∷ places) (suc left) at layer pending i e b f =
        let below : at < 8 = omega (arith, b) in
        let first : login ≡ login_at node at = f 0 ∙ ap (λ n. login_at node n) (let z : at + 0 ≡ at = omega arith in z) in
        let behind : length places ≡ left = (let g : suc (length places) ≡ suc left = e in omega (arith, g)) in
        let rest = told_logins load T.enabled places in
        let more = announced_from left (at + 1) unit from node in
        let rest_is : (l : Layer Purpose) (p : List ℕ) → I l p (at + 1) → AreDue (announced_from left (at + 1) unit from node l p) rest =
        λ l p j. notes_from places left (at + 1) l p j behind (omega (arith, b)) (λ n. f (suc n) ∙ ap (λ m. login_at node m) (let z : at + suc n ≡ at + 1 + n = omega arith in z)) in
        told_first (announced_at unit from at (desk_at node at) (login_at node at) layer pending more) login places
        (subst (λ x. AreDue (announced_at unit from at (desk_at node at) (login_at node at) layer pending more) (told_beside rest x)) (sym first) (one_place at below layer pending i more rest rest_is (login_at node at) refl))
