-- What an action of an initiator that is done brings are the notes of its action, and behind them what it sends.
use Rattle.std.proofs.Common.{◌≡◌, ◌∙◌, refl, sym, ap, ℕ, zero, suc, cond, List, [], ◌∷◌, ◌++◌, Option, Some, None}
use Rattle.sbp_bus.specs.Generations.{node_of}
use Rattle.sbp_initiator.specs.Histories.Ends.{own}
use Rattle.sbp_journal.specs.Outgoings.{OutboxState}
use Rattle.sbp_journal.specs.Run.{Moment}
use Rattle.sbp_journal.specs.declared.event.Action.{Action}
use Rattle.sbp_journal.specs.declared.event.Action.TheVariants as actions
use Rattle.sbp_journal.specs.declared.note.Note.{Note}
use Rattle.sbp_journal.specs.declared.outbox.Outgoing.{Outgoing}
use Rattle.sbp_laws.specs.ActionLaw.{Acts}
use Rattle.sbp_laws.specs.Actions.{action_notes, link_notes, new_list, new_number}
use Rattle.sbp_laws.specs.Turns.{effects_of, sends_of}
use Rattle.sbp_world.specs.Sending.{sent}
use Rattle.sbp_world.specs.Telling.{told_all}
use Rattle.sbp_world.specs.Worlds.{WorldState}
use Rattle.turn_laws.proofs.Handed.{handed, notes_sent, notes_told, packet_note}
use Rattle.turn_laws.proofs.KindNotes.{none_behind}
use Rattle.turn_laws.proofs.SentAnswers.{AllUnsent, sends_behind}
use Rattle.turn_laws.proofs.OwnNotes.{own_told}

-- ---- notes of packets
effects_behind : (a b : List Note) → AllUnsent a → effects_of (a ++ b) ≡ a ++ effects_of b
effects_behind [] b h = refl
effects_behind (note ∷ a) b h = ap (λ x. cond x (effects_of (a ++ b)) (note ∷ effects_of (a ++ b))) h.0 ∙ ap (λ ns. note ∷ ns) (effects_behind a b h.1)

record AreSent (ns : List Note) : Type 0 where
  effects : effects_of ns ≡ []
  sends : sends_of ns ≡ ns

one_more : (to : Option ℕ) (from : ℕ) (packet : Outgoing) (w : WorldState) (later : List Note) → AreSent later → AreSent (packet_note to from packet w ++ later)
one_more None from packet w later h = h
one_more (Some to) from packet w later h = record { effects = h.effects; sends = ap (λ ns. packet_note (Some to) from packet w ++ ns) h.sends }

all_sent : (from : ℕ) (packets : List Outgoing) (w : WorldState) → AreSent (notes_sent from packets w)
all_sent from [] w = record { effects = refl; sends = refl }
all_sent from (packet ∷ later) w = one_more (node_of w.generations from packet.to) from packet w (notes_sent from later (sent from packet w)) (all_sent from later (sent from packet w))

-- ---- what an action tells
links_unsent : (i n k : ℕ) (rest : List Note) → AllUnsent rest → AllUnsent (link_notes i n k ++ rest)
links_unsent i n zero rest h = h
links_unsent i n (suc k) rest h = (refl, (refl, h))

notes_unsent : (action : Action) (past : List Moment) (i : ℕ) → AllUnsent (action_notes action past i)
notes_unsent (actions.Put cmd) past i = (refl, tt)
notes_unsent (actions.Append cmd) past i = (refl, links_unsent i (new_list past i) (new_number past i) _ (refl, tt))
notes_unsent actions.Low past i = (refl, tt)
notes_unsent actions.Link past i = (refl, tt)
notes_unsent actions.Ring past i = (refl, tt)
notes_unsent (actions.Dummy k) past i = (refl, tt)
notes_unsent _ past i = tt

module _ (past : List Moment) (i node weight : ℕ) (action : Action) (outbox : OutboxState) (w : WorldState) (e : outbox.sides ≡ own (action_notes action past i)) where
  abbrev ns : List Note
  ns = action_notes action past i

  abbrev packets : List Note
  packets = notes_sent node outbox.packets (told_all weight outbox.sides w)

  all : AreSent packets
  all = all_sent node outbox.packets (told_all weight outbox.sides w)

  is : handed node weight outbox w ≡ ns ++ packets
  is = ap (λ x. x ++ packets) (ap (λ s. notes_told weight s w) e ∙ own_told weight ns w)

  pub effects_are : effects_of (handed node weight outbox w) ≡ ns
  effects_are = ap effects_of is ∙ effects_behind ns packets (notes_unsent action past i) ∙ ap (λ x. ns ++ x) all.effects ∙ none_behind ns

  pub sends_are : sends_of (handed node weight outbox w) ≡ notes_sent node outbox.packets (told_all weight outbox.sides w)
  sends_are = ap sends_of is ∙ sends_behind ns packets (notes_unsent action past i) ∙ all.sends

  pub acts_as_told : Acts past i action (handed node weight outbox w)
  acts_as_told = record { effects = effects_are; first = is ∙ sym (ap (λ x. x ++ sends_of (handed node weight outbox w)) effects_are ∙ ap (λ x. ns ++ x) sends_are) }
