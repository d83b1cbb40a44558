-- Each management ORB that an initiator has in a place asks for a response in the buffer of the place, or for none.
use Rattle.sbp_world.proofs.Words.Std.{arith, ◌≡◌, ◌∙◌, refl, ℕ, suc, ◌%◌, ◌^◌, ◌<◌, ◌≤◌, ◌==◌, ◌&&◌, Bool, true, false, cond, List, [], ◌∷◌, Option, Some, None}
use Rattle.sbp_world.proofs.Words.Wire.{Action, Event, Moment, asked, said}
use Rattle.sbp_world.proofs.Words.Initiator.{ManagementOrb, management_bytes, management_orb, start_of}
use Rattle.sbp_world.proofs.Words.Laws.{Host, event_of, host_at, is_own, management_orb_of, operation_of, place_bytes, place_held, place_written}
use Rattle.bus_memory.specs.declared.window.Window.TheVariants as windows
use Rattle.sbp_journal.specs.declared.event.Action.TheVariants as actions
use Rattle.sbp_journal.specs.declared.event.Event.TheVariants as events
use Rattle.sbp_journal.specs.declared.note.Note.TheVariants as notes
use Rattle.sbp_world.proofs.Lists.OwnPlaces.{second_back}

-- where the response goes, and how long it may be
pub data IsReach (orb : ManagementOrb) : Type 0 where
  to_none : orb.response_length ≡ 0 → IsReach orb
  to_place : (place : ℕ) → place < 2 → orb.second ≡ start_of (windows.Response place) → orb.response_length ≤ 0x100 → IsReach orb

length_back : (o : ManagementOrb) → o.response_length < 2 ^ 16 → (management_orb (management_bytes o)).response_length ≡ o.response_length
length_back o small = omega arith

none_back : (o : ManagementOrb) → o.response_length ≡ 0 → IsReach (management_orb (management_bytes o))
none_back o none = to_none (length_back o (omega (arith, none)) ∙ none)

place_back : (o : ManagementOrb) (place : ℕ) → place < 2 → o.second ≡ start_of (windows.Response place) → o.response_length ≤ 0x100 → IsReach (management_orb (management_bytes o))
place_back o place small is few =
    let length = length_back o (omega (arith, few)) in
    to_place place small (second_back o (omega (arith, is, small)) ∙ is) (omega (arith, length, few))

reaches : (action : Action) (past : List Moment) (i : ℕ) (host : Host) (place : ℕ) → place < 2 → IsReach (management_orb (management_bytes (management_orb_of action past i host place)))
reaches (actions.Login unit reconnect exclusive password) past i host place small = place_back (management_orb_of (actions.Login unit reconnect exclusive password) past i host place) place small refl (omega arith)
reaches (actions.Query unit) past i host place small = place_back (management_orb_of (actions.Query unit) past i host place) place small refl (omega arith)
reaches actions.Reconnect past i host place small = none_back (management_orb_of actions.Reconnect past i host place) refl
reaches actions.Logout past i host place small = none_back (management_orb_of actions.Logout past i host place) refl
reaches (actions.Abort k) past i host place small = none_back (management_orb_of (actions.Abort k) past i host place) refl
reaches actions.AbortSet past i host place small = none_back (management_orb_of actions.AbortSet past i host place) refl
reaches actions.UnitReset past i host place small = none_back (management_orb_of actions.UnitReset past i host place) refl
reaches actions.TargetReset past i host place small = none_back (management_orb_of actions.TargetReset past i host place) refl
reaches action past i host place small = none_back (management_orb_of action past i host place) refl

abbrev IfReach : Option ManagementOrb → Type 0
IfReach None = Unit {0}
IfReach (Some one) = IsReach (management_orb (management_bytes one))

module _ (i m : ℕ) (small : m < 2) where
  pick : (b : Bool) (x y : Option ManagementOrb) → IfReach x → IfReach y → IfReach (cond b x y)
  pick true x y h k = h
  pick false x y h k = k

  written : (past : List Moment) (before : Option ManagementOrb) → IfReach before → (event : Option Event) → IfReach (place_written event past i m before)
  written past before h (Some (events.Act j action)) = pick (is_own i j (operation_of action) && ((host_at past i).writes % 2 == m)) (Some (management_orb_of action past i (host_at past i) m)) before (reaches action past i (host_at past i) m small) h
  written past before h event = h

  held_reach : (past : List Moment) → IfReach (place_held past i m)
  held_reach [] = tt
  held_reach (said (notes.Sent serial generation (suc j) to bytes) ∷ past) =
      let h = held_reach past in
      pick (j == i) (place_written (event_of past) past i m (place_held past i m)) (place_held past i m) (written past (place_held past i m) h (event_of past)) h
  held_reach (said note ∷ past) = held_reach past
  held_reach (asked line event ∷ past) = held_reach past

  by_held : (held : Option ManagementOrb) → IfReach held → IsReach (management_orb (place_bytes held))
  by_held None h = to_none refl
  by_held (Some one) h = h

  -- so the bytes of the place are
  pub place_reach : (past : List Moment) → IsReach (management_orb (place_bytes (place_held past i m)))
  place_reach past = by_held (place_held past i m) (held_reach past)
