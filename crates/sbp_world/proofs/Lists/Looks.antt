-- Two worlds that look alike: who has the places, the initiators and the notes of the line. What is told of an agent leaves them so.
use Rattle.sbp_world.proofs.Words.Std.{◌≡◌, ◌∙◌, sym, ap, subst, ℕ, nat_lt, Bool, false, cond, List, ◌∷◌, length, map, ◌++◌, Option, None, slice_index_or}
use Rattle.sbp_world.proofs.Words.Wire.{Holder, holder_at, opened_step, dead_note, ended_note, list_in, ran_note, Moment, said, Note}
use Rattle.sbp_world.proofs.Words.Target.{Machine, Outcome}
use Rattle.sbp_world.proofs.Words.Initiator.{FailCause, StatusKind, last_at, TicketParts, InitiatorState, new_state}
use Rattle.sbp_world.proofs.Words.World.{holder, ticket_at, told, WorldState}
use Rattle.sbp_journal.specs.declared.note.Note.TheVariants as notes
use Rattle.sbp_journal.specs.declared.side.Side.TheVariants as sides
use Rattle.sbp_world.proofs.Lists.Kept.{Kept, keeps}
use Rattle.sbp_world.proofs.Lists.Told.{AgentOn}
use Rattle.sbp_world.proofs.Lists.Passing.{PassLaw}

pub record Looks (x y : WorldState) : Type 0 where
  pub places : x.places ≡ y.places
  pub initiators : x.initiators ≡ y.initiators
  pub fresh : x.fresh ≡ y.fresh

pub looks_as : (x y z : WorldState) → x ≡ y → Looks y z → Looks x z
looks_as x y z e l = subst (λ (a : WorldState). Looks a z) (sym e) l

-- the ORB that an address names, by who has the places and the initiators
abbrev ticket_by : List (Option Holder) → List InitiatorState → (place orb : ℕ) → Option TicketParts
ticket_by places initiators place orb =
    cond (nat_lt (holder_at places place).initiator (length initiators)) (last_at (slice_index_or initiators (holder_at places place).initiator (new_state 0 false)).lists orb) None

ticket_same : (x y : WorldState) (place orb : ℕ) → Looks x y → ticket_at x place orb ≡ ticket_at y place orb
ticket_same x y place orb l = ap (λ ps. ticket_by ps x.initiators place orb) l.places ∙ ap (λ is. ticket_by y.places is place orb) l.initiators

-- a note of it
abbrev By : WorldState → (note : List (Option Holder) → Option TicketParts → Note) → (place orb : ℕ) → WorldState
By x note place orb = record x { fresh = note x.places (ticket_at x place orb) ∷ x.fresh }

noted_looks : (note : List (Option Holder) → Option TicketParts → Note) (place orb : ℕ) (x y : WorldState) → Looks x y → Looks (By x note place orb) (By y note place orb)
noted_looks note place orb x y l = record {
  places = l.places;
  initiators = l.initiators;
  fresh = ap (λ ps. note ps (ticket_at x place orb) ∷ x.fresh) l.places
      ∙ ap (λ (t : Option TicketParts). note y.places t ∷ x.fresh) (ticket_same x y place orb l)
      ∙ ap (λ (ns : List Note). note y.places (ticket_at y place orb) ∷ ns) l.fresh;
}

pub ran_looks : (place orb : ℕ) (cdb payload : List ℕ) (outcome : Outcome) (x y : WorldState) → Looks x y → Looks (told 0 (sides.Ran place orb cdb payload outcome) x) (told 0 (sides.Ran place orb cdb payload outcome) y)
unfolding told
ran_looks place orb cdb payload outcome x y l = noted_looks (λ ps t. ran_note (holder_at ps place) t cdb payload outcome) place orb x y l

pub ended_looks : (place orb : ℕ) (status : StatusKind) (x y : WorldState) → Looks x y → Looks (told 0 (sides.Ended place orb status) x) (told 0 (sides.Ended place orb status) y)
unfolding told
ended_looks place orb status x y l = noted_looks (λ ps t. ended_note (holder_at ps place) t status) place orb x y l

pub dead_looks : (place : ℕ) (cause : FailCause) (x y : WorldState) → Looks x y → Looks (told 0 (sides.Dead place cause) x) (told 0 (sides.Dead place cause) y)
unfolding told
dead_looks place cause x y l = noted_looks (λ ps t. dead_note (holder_at ps place) cause) place 0 x y l

pub unsolicited_looks : (place : ℕ) (x y : WorldState) → Looks x y → Looks (told 0 (sides.Unsolicited place) x) (told 0 (sides.Unsolicited place) y)
unfolding told
unsolicited_looks place x y l = noted_looks (λ ps t. notes.Unsolicited (holder_at ps place).initiator) place 0 x y l

pub unsent_looks : (place : ℕ) (x y : WorldState) → Looks x y → Looks (told 0 (sides.Unsent place) x) (told 0 (sides.Unsent place) y)
unfolding told
unsent_looks place x y l = noted_looks (λ ps t. notes.Unsent (holder_at ps place).initiator) place 0 x y l

pub opened_looks : (place orb : ℕ) (x y : WorldState) → Looks x y → Looks (told 0 (sides.Opened place orb) x) (told 0 (sides.Opened place orb) y)
unfolding told
opened_looks place orb x y l = record {
  places = ap (λ ps. opened_step place (list_in (ticket_at x place orb)) ps) l.places ∙ ap (λ (t : Option TicketParts). opened_step place (list_in t) y.places) (ticket_same x y place orb l);
  initiators = l.initiators;
  fresh = l.fresh;
}

-- what is known of the places is known of a world that looks alike
module _ (wild : ℕ → Bool) (past : List Moment) (machines : ℕ → Machine) where
  pub kept_looks : (x y : WorldState) → Looks x y → Kept wild past machines y → Kept wild past machines x
  kept_looks x y l k =
      keeps (subst (λ (ns : List Note). PassLaw wild (map said ns ++ past)) (sym l.fresh) k.passes) (λ p b.
      subst (λ (ns : List Note). AgentOn wild (map said ns ++ past) (holder x p) (machines p)) (sym l.fresh)
      (subst (λ ps. AgentOn wild (map said y.fresh ++ past) (holder_at ps p) (machines p)) (sym l.places) (k.on p b)))
