-- What nodes hand out, as notes in the form of a journal.
use Rattle.sbp_world.proofs.Words.Std.{◌≡◌, refl, ℕ, ◌+◌, ◌==◌, ◌&&◌, is_some, Bool, true, false, cond, List, [], ◌∷◌, Option, Some, None}
use Rattle.sbp_world.proofs.Words.Wire.{LabelParts, FunctionWord, Outgoing, Side, IsDecision, OutboxState, node_of, function_word, login_if}
use Rattle.sbp_world.proofs.Words.World.{HaveForm, handed_out, asked, posted, sent, sent_all, sent_to, told, told_all, WorldState}
use Rattle.sbp_journal.specs.declared.operation.FunctionWord.TheVariants as functions
use Rattle.sbp_journal.specs.declared.side.Side.TheVariants as sides
use Rattle.sbp_world.proofs.Formed.{AreFormed, IsFormed}

decided_if : (b : Bool) (login : ℕ) → is_some (cond b (Some login) None) ≡ (true && b)
decided_if true login = refl
decided_if false login = refl

decision : (word : FunctionWord) (status login : ℕ) → IsDecision word status (login_if word status login)
decision functions.Login status login = decided_if (status == 0) login
decision functions.Query status login = refl
decision functions.Reconnect status login = refl
decision functions.Logout status login = refl
decision functions.Abort status login = refl
decision functions.AbortSet status login = refl
decision functions.UnitReset status login = refl
decision functions.TargetReset status login = refl
decision functions.Other status login = refl

tells : (weight : ℕ) (side : Side) (w : WorldState) → IsFormed side → HaveForm w → HaveForm (told weight side w)
unfolding told
tells weight (sides.Own note) w f h = (f, h)
tells weight (sides.Opened place orb) w f h = h
tells weight (sides.Ran place orb cdb payload outcome) w f h = (f, h)
tells weight (sides.Ended place orb status) w f h = (f, h)
tells weight (sides.Dead place cause) w f h = (tt, h)
tells weight (sides.Cut place cause) w f h = (tt, h)
tells weight (sides.Managed node function subject status login) w f h = (decision (function_word function) status login, h)
tells weight (sides.ManageFailed node cause) w f h = (tt, h)
tells weight (sides.Held login) w f h = (tt, h)
tells weight (sides.Expired login) w f h = (tt, h)
tells weight (sides.Back login) w f h = (tt, h)
tells weight (sides.Left login) w f h = (tt, h)
tells weight (sides.Cleared unit) w f h = (tt, h)
tells weight (sides.Unsolicited place) w f h = (tt, h)
tells weight (sides.Unsent place) w f h = (tt, h)

tells_all : (weight : ℕ) (told : List Side) (w : WorldState) → AreFormed told → HaveForm w → HaveForm (told_all weight told w)
unfolding told_all
tells_all weight [] w f h = h
tells_all weight (side ∷ later) w f h = tells_all weight later (told weight side w) f.1 (tells weight side w f.0 h)

pub posts : (from to : ℕ) (injected : Bool) (bytes : List ℕ) (w : WorldState) → HaveForm w → HaveForm (posted from to injected bytes w)
unfolding posted
posts from to true bytes w h = (tt, (tt, h))
posts from to false bytes w h = (tt, h)

asks : (serial to node peer : ℕ) (label : Option LabelParts) (w : WorldState) → HaveForm w → HaveForm (asked serial to node peer label w)
asks serial to node peer None w h = h
asks serial to node peer (Some label) w h = h

sends_to : (to : Option ℕ) (from : ℕ) (packet : Outgoing) (w : WorldState) → HaveForm w → HaveForm (sent_to to from packet w)
sends_to None from packet w h = h
sends_to (Some to) from packet w h =
    asks (w.store.last + 1) to from packet.to packet.label (posted from to false packet.bytes w) (posts from to false packet.bytes w h)

sends : (from : ℕ) (packet : Outgoing) (w : WorldState) → HaveForm w → HaveForm (sent from packet w)
unfolding sent
sends from packet w h = sends_to (node_of w.generations from packet.to) from packet w h

sends_all : (from : ℕ) (packets : List Outgoing) (w : WorldState) → HaveForm w → HaveForm (sent_all from packets w)
unfolding sent_all
sends_all from [] w h = h
sends_all from (packet ∷ later) w h = sends_all from later (sent from packet w) (sends from packet w h)

pub hands_out : (node weight : ℕ) (outbox : OutboxState) (w : WorldState) → AreFormed outbox.sides → HaveForm w → HaveForm (handed_out node weight outbox w)
hands_out node weight outbox w f h = sends_all node outbox.packets (told_all weight outbox.sides w) (tells_all weight outbox.sides w f h)
