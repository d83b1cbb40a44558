-- The media law holds of each history of a run in which nobody injected a packet, by what stands in each of its turns.
use Rattle.std.proofs.Common.{◌≡◌, ◌∙◌, refl, sym, ap, inl, ℕ, zero, suc, ◌==◌, Bool, List, [], ◌∷◌, Option, Some, None}
use Rattle.std.specs.List.{list_any}
use Rattle.rbc_disk.specs.Disk.{Disk}
use Rattle.sbp_journal.specs.Run.{Moment, asked, said}
use Rattle.sbp_journal.specs.Transactions.{Sending}
use Rattle.sbp_journal.specs.Wire.{terms}
use Rattle.sbp_journal.specs.declared.note.Note.{Note}
use Rattle.sbp_journal.specs.declared.note.Note.TheVariants as notes
use Rattle.sbp_laws.specs.Agents.{target_before}
use Rattle.sbp_laws.specs.MediaLaw.{HasPushes, MediaLaw, told_at, told_due}
use Rattle.sbp_laws.specs.Packets.{receiver_in}
use Rattle.sbp_laws.specs.Turns.{EachTurn, EachTurnBefore, Turn}
use Rattle.sbp_laws.proofs.EachTurns.{with_turns}
use Rattle.sbp_world.specs.Lists.OwnLogins.{IsTame}
use Rattle.sbp_world.proofs.Lists.Calm.{calm_before}
use Rattle.turn_laws.specs.PushSent.{TellsTheCalm, TellsWhatWasSent}
use Rattle.turn_laws.specs.Pushes.{PushesWhereDue}
use Rattle.turn_laws.specs.Told.{TellsByRow, packet_tells, told_by, told_of, told_to}

-- ---- before each turn of it nobody had injected one
abbrev pub WasTame : Turn → Type 0
WasTame t = IsTame t.past

back : (moment : Moment) (past : List Moment) → IsTame (moment ∷ past) → IsTame past
back moment past tame i = calm_before (moment ∷ []) past i (tame i)

pub were_tame : (past : List Moment) (rest : List Note) → IsTame past → EachTurnBefore WasTame past rest
were_tame [] rest h = tt
were_tame (asked line event ∷ past) rest h = let k = back (asked line event) past h in (k, were_tame past [] k)
were_tame (said (notes.Got serial) ∷ past) rest h = let k = back (said (notes.Got serial)) past h in (k, were_tame past [] k)
were_tame (said (notes.Ignored serial cause) ∷ past) rest h = let k = back (said (notes.Ignored serial cause)) past h in (k, were_tame past [] k)
were_tame (said (notes.TimedOut serial) ∷ past) rest h = let k = back (said (notes.TimedOut serial)) past h in (k, were_tame past [] k)
were_tame (said (notes.Seen node generation) ∷ past) rest h = let k = back (said (notes.Seen node generation)) past h in (k, were_tame past [] k)
were_tame (said notes.Tick ∷ past) rest h = let k = back (said notes.Tick) past h in (k, were_tame past [] k)
were_tame (said notes.Settled ∷ past) rest h = let k = back (said notes.Settled) past h in (k, were_tame past [] k)
were_tame (said notes.Stopped ∷ past) rest h = let k = back (said notes.Stopped) past h in (k, were_tame past [] k)
were_tame (said note ∷ past) rest h = were_tame past (note ∷ rest) (back (said note) past h)

-- ---- a turn
module _ (start : List Disk) (t : Turn) (tame : WasTame t) (told : TellsByRow start t) (calm : TellsTheCalm start t) where
  abbrev is_pushed : ℕ → Bool
  is_pushed serial = list_any (λ push. push == serial) (target_before start t).pushes

  by_receiver : (serial : ℕ) → t.start ≡ said (notes.Got serial) → (q : Sending) → (terms t.past).sent serial ≡ Some q → (n : ℕ) → q.to ≡ n → TellsWhatWasSent start t
  by_receiver serial gets q is zero to =
      told ∙ (ap (told_of start t) gets ∙ (ap (told_by start t) is ∙ ap (λ n. told_to n (packet_tells start t q)) to))
      ∙ sym (ap (told_due (target_before start t) t) gets ∙ (ap (λ o. told_at (receiver_in o) (is_pushed serial)) is ∙ ap (λ n. told_at (Some n) (is_pushed serial)) to))
  by_receiver serial gets q is (suc i) to = calm serial i (record { gets = gets; receiver = ap receiver_in is ∙ ap (λ n. Some n) to; calm = (tame i, inl tame) })

  by_sending : (serial : ℕ) → t.start ≡ said (notes.Got serial) → (o : Option Sending) → (terms t.past).sent serial ≡ o → TellsWhatWasSent start t
  by_sending serial gets None is =
      told ∙ (ap (told_of start t) gets ∙ ap (told_by start t) is) ∙ sym (ap (told_due (target_before start t) t) gets ∙ ap (λ o. told_at (receiver_in o) (is_pushed serial)) is)
  by_sending serial gets (Some q) is = by_receiver serial gets q is q.to refl

  by_start : (start_is : Moment) → t.start ≡ start_is → TellsWhatWasSent start t
  by_start (asked line event) e = told ∙ (ap (told_of start t) e ∙ sym (ap (told_due (target_before start t) t) e))
  by_start (said (notes.Got serial)) e = by_sending serial e ((terms t.past).sent serial) refl
  by_start (said note) e = told ∙ (ap (told_of start t) e ∙ sym (ap (told_due (target_before start t) t) e))

  tells_tame : TellsWhatWasSent start t
  tells_tame = by_start t.start refl

-- ---- so it is of the history
pub media_of : (start : List Disk) (past : List Moment) → IsTame past → EachTurn (PushesWhereDue start) past → EachTurn (TellsByRow start) past → EachTurn (TellsTheCalm start) past → MediaLaw start past
media_of start past tame pushes told calm =
    with_turns (PushesWhereDue start) (TellsWhatWasSent start) (HasPushes start) (λ t a b. record { pushes = a; told = b }) past [] pushes
    (with_turns WasTame (λ t. TellsByRow start t × TellsTheCalm start t) (TellsWhatWasSent start) (λ t a b. tells_tame start t a b.0 b.1) past [] (were_tame past [] tame)
    (with_turns (TellsByRow start) (TellsTheCalm start) (λ t. TellsByRow start t × TellsTheCalm start t) (λ t a b. (a, b)) past [] told calm))
