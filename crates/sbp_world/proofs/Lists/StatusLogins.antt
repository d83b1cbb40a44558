-- The status of an ORB was taken at the FIFO of a login, where each status block was sent to one.
use Rattle.sbp_world.proofs.Words.Std.{◌≡◌, ◌∙◌, sym, ap, subst, ◌<◌, ℕ, suc, Bool, false, List, [], ◌∷◌, ◌++◌, Option, Some, IsSomeAnd}
use Rattle.sbp_world.proofs.Words.Wire.{Access, Moment, asked, said, Sending, terms}
use Rattle.sbp_world.proofs.Words.Initiator.{StatusBlock, StatusKind}
use Rattle.sbp_world.proofs.Words.Laws.{last_got, access_at, access_in, access_in_bytes, packet_in, EachMoment}
use Rattle.sbp_world.proofs.Words.World.{is_place_fifo, IsStatusWrite, IsTakenSo, SentSo, TakenSo, AtLogin}
use Rattle.sbp_journal.specs.declared.note.Note.TheVariants as notes
use Rattle.sbp_world.proofs.Hosts.SentMoments.{WasSent, sent_moment}
use Rattle.sbp_world.proofs.Hosts.Statuses.Ranges.{InsideIn}
use Rattle.sbp_world.proofs.Common.{itself}

pub each_there : (P : Moment → List Moment → Type 0) (later : List Moment) (m : Moment) (past : List Moment) → EachMoment P (later ++ m ∷ past) → P m past
each_there P [] m past h = h.0
each_there P (one ∷ later) m past h = each_there P later m past h.1

at_one : (found : Option Access) (access : Access) → found ≡ Some access → is_place_fifo access.offset ≡ false → IsSomeAnd found (λ a. is_place_fifo a.offset ≡ false)
at_one found access e h = subst (λ (o : Option Access). IsSomeAnd o (λ a. is_place_fifo a.offset ≡ false)) (sym e) h

module _ (i : ℕ) where
  -- as it was sent
  sent_free : (past : List Moment) (serial : ℕ) (packet : Sending) → EachMoment (SentSo i) past → (terms past).sent serial ≡ Some packet → packet.from ≡ 0 → packet.to ≡ suc i → (slot : ℕ) (block : StatusBlock) → IsStatusWrite packet.bytes slot block → (access : Access) → access_in_bytes packet.bytes ≡ Some access → is_place_fifo access.offset ≡ false
  sent_free past serial packet each e from to slot block write access asks =
      let w : WasSent past serial packet = sent_moment past serial packet e in
      let so = each_there (SentSo i) w.later _ w.before (subst (λ ms. EachMoment (SentSo i) ms) (sym w.is) each) in
      (so from to slot block write).login access asks

  -- and so as it is taken
  taken_free : (past : List Moment) (n k : ℕ) (status : StatusKind) → EachMoment (SentSo i) past → IsTakenSo past i n k status → IsSomeAnd (access_at (terms past) (last_got past)) (λ access. is_place_fifo access.offset ≡ false)
  taken_free past n k status each t =
      at_one (access_at (terms past) (last_got past)) t.writes.access (ap (λ o. access_in (packet_in o)) t.there ∙ t.writes.is)
      (sent_free past (last_got past) t.packet each t.there t.from_target t.to_host t.slot t.block t.writes t.writes.access t.writes.is)

module _ (wild : ℕ → Bool) (most : ℕ) where
  pub at_logins : (past : List Moment) → InsideIn most past → ((i : ℕ) → i < most → wild i ≡ false → EachMoment (SentSo i) past) → ((i : ℕ) → i < most → wild i ≡ false → EachMoment (TakenSo i) past) → EachMoment (AtLogin wild) past
  at_logins [] h each taken = tt
  at_logins (said (notes.Taken i n k status answer) ∷ past) h each taken =
      ((λ own. taken_free i past n k status (each i h.0 own).1 ((taken i h.0 own).0 (itself i))), at_logins past h.1 (λ j b own. (each j b own).1) (λ j b own. (taken j b own).1))
  at_logins (said note ∷ past) h each taken = (tt, at_logins past h (λ j b own. (each j b own).1) (λ j b own. (taken j b own).1))
  at_logins (asked line event ∷ past) h each taken = (tt, at_logins past h (λ j b own. (each j b own).1) (λ j b own. (taken j b own).1))
