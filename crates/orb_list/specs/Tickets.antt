-- Tickets of prepared ORBs.
use Rattle.std.specs.Prelude.{ℕ, ◌==◌, ◌&&◌, Bool}

-- the login and the list, the number in the list, the slot and the serial
pub record TicketParts : Type 0 where
  pub login : ℕ
  pub list : ℕ
  pub number : ℕ
  pub slot : ℕ
  pub serial : ℕ

abbrev pub ticket : ℕ → ℕ → ℕ → ℕ → ℕ → TicketParts
ticket login list number slot serial = record { login = login; list = list; number = number; slot = slot; serial = serial }

-- two tickets are of one ORB where all their names agree
abbrev pub is_ticket : TicketParts → TicketParts → Bool
is_ticket a b =
    (a.login == b.login) && (a.list == b.list) && (a.number == b.number) && (a.slot == b.slot) && (a.serial == b.serial)
