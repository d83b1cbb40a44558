-- A request whose transaction was closed is not under way again (IEEE 1394-1995, split transactions): the transaction that waits for a request is the one that it began, which its response left free, and its time-out at rest.
use Rattle.sbp_world.proofs.Words.Std.{arith, ◌≡◌, ◌∙◌, refl, sym, ap, inl, inr, ◌⊎◌, ◌≤◌, ℕ, true, cond, List, [], ◌∷◌, ◌++◌, Option, Some}
use Rattle.sbp_world.proofs.Words.Wire.{SerialsCount, Moment, said, Sending, Transaction, between, Terms, begun_in, free, rests, terms, times_out, waits}
use Rattle.sbp_world.proofs.Words.Laws.{answered_at, is_under_way}
use Rattle.sbp_journal.specs.declared.note.Note.TheVariants as notes
use Rattle.sbp_world.proofs.Hosts.PointerRuns.{Awaits, awaits_of}
use Rattle.sbp_world.proofs.Hosts.Remaining.{remains}
use Rattle.sbp_world.proofs.Hosts.SentMoments.{sent_below, serials_from}
use Rattle.sbp_world.proofs.Lists.BegunBy.{IsBegun, IsHeld, begun_of, held_by, transaction_of}
use Rattle.sbp_world.proofs.Lists.FedHeld.{IsNewer, got_frees, same_self, waits_since}
use Rattle.sbp_world.proofs.Lists.FedOnce.{IsReply, reply_by}
use Rattle.sbp_world.proofs.Lists.ManageTerms.{same_some}

-- ---- a transaction that is under way is in its requester's generation
pub under_way_now : (t : Terms) (serial : ℕ) (packet : Sending) → t.sent serial ≡ Some packet → is_under_way t serial ≡ true → packet.generation ≡ t.generation packet.from
under_way_now t serial packet sent e =
    let a = awaits_of t packet serial sent e in
    let x = transaction_of packet a.u a.begun in
    sym x.generation ∙ (sym a.now ∙ ap t.generation x.requester)

-- ---- a transaction that was closed
module _ (later earlier : List Moment) (got own : ℕ) (c : SerialsCount (later ++ said (notes.Got got) ∷ earlier)) (closed : answered_at (terms earlier) got ≡ Some own) (under : is_under_way (terms (later ++ said (notes.Got got) ∷ earlier)) own ≡ true) where
  abbrev E : List Moment
  E = said (notes.Got got) ∷ earlier

  abbrev ms : List Moment
  ms = later ++ E

  then : SerialsCount E
  then = serials_from later E c

  first : SerialsCount earlier
  first = serials_from (said (notes.Got got) ∷ []) earlier then

  reply : IsReply (terms earlier) got own
  reply = reply_by (terms earlier) got own ((terms earlier).sent got) refl closed

  abbrev q : Sending
  q = reply.packet

  abbrev u : Transaction
  u = between q q.to q.from reply.label

  held : IsHeld ((terms earlier).held u) own
  held = held_by ((terms earlier).held u) reply.kind own reply.closes

  begun : IsBegun earlier u own
  begun = begun_of earlier first u held.kind own held.is

  below : own ≤ (terms earlier).count
  below = sent_below earlier own begun.packet first begun.sent

  below_then : own ≤ (terms E).count
  below_then = let a = (remains (said (notes.Got got) ∷ []) earlier then).count in let b = below in omega (arith, a, b)

  sent : (terms ms).sent own ≡ Some begun.packet
  sent = (remains later E c).sent own below_then ∙ ((remains (said (notes.Got got) ∷ []) earlier then).sent own below ∙ begun.sent)

  now : Awaits (terms ms) begun.packet own
  now = awaits_of (terms ms) begun.packet own sent under

  same : u ≡ now.u
  same = same_some u now.u (sym begun.begun ∙ now.begun)

  freed : (terms E).held u ≡ free
  freed = got_frees (terms earlier) got own q reply.label reply.kind reply.sent reply.part reply.closes

  by_since : ((terms E).held u ≡ waits now.kind own) ⊎ IsNewer E ms own → ⊥
  by_since (inl e) = let x : free ≡ waits now.kind own = sym freed ∙ e in cc
  by_since (inr n) = let a = n.above in let b = below_then in omega (arith, a, b)

  pub never_again : ⊥
  never_again = by_since (waits_since later E c u now.kind own (ap (λ x. (terms ms).held x) same ∙ now.held))

-- ---- a transaction that timed out
module _ (later earlier : List Moment) (own : ℕ) (packet : Sending) (c : SerialsCount (later ++ said (notes.TimedOut own) ∷ earlier)) (sent_then : (terms earlier).sent own ≡ Some packet) (under : is_under_way (terms (later ++ said (notes.TimedOut own) ∷ earlier)) own ≡ true) where
  abbrev L : List Moment
  L = said (notes.TimedOut own) ∷ earlier

  then_late : SerialsCount L
  then_late = serials_from later L c

  own_below : own ≤ (terms L).count
  own_below =
      let a = sent_below earlier own packet (serials_from (said (notes.TimedOut own) ∷ []) earlier then_late) sent_then in
      let b = (remains (said (notes.TimedOut own) ∷ []) earlier then_late).count in
      omega (arith, a, b)

  sent_at_last : (terms (later ++ L)).sent own ≡ Some packet
  sent_at_last =
      (remains later L c).sent own own_below
      ∙ ((remains (said (notes.TimedOut own) ∷ []) earlier then_late).sent own (sent_below earlier own packet (serials_from (said (notes.TimedOut own) ∷ []) earlier then_late) sent_then) ∙ sent_then)

  still : Awaits (terms (later ++ L)) packet own
  still = awaits_of (terms (later ++ L)) packet own sent_at_last under

  rested : (terms L).held still.u ≡ rests
  rested =
      ap (λ (u : Option Transaction). (times_out u (terms earlier)).held still.u) (ap begun_in sent_then ∙ still.begun)
      ∙ ap (λ b. cond b rests ((terms earlier).held still.u)) (same_self still.u)

  not_since : ((terms L).held still.u ≡ waits still.kind own) ⊎ IsNewer L (later ++ L) own → ⊥
  not_since (inl e) = let x : rests ≡ waits still.kind own = sym rested ∙ e in cc
  not_since (inr n) = let a = n.above in let b = own_below in omega (arith, a, b)

  pub never_late : ⊥
  never_late = not_since (waits_since later L c still.u still.kind own still.held)
