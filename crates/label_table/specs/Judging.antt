-- How a node judges what is delivered to it: by the first row that holds.
use Rattle.std.specs.Prelude.{Bool, not, ◌&&◌, if◌then◌else◌, List, [], ◌∷◌}

-- What a delivery is judged by: whether the packet has the node's generation; whether the bytes are a
-- packet whose destination is the node; whether it is a response; whether a transaction with its
-- source, label and kind is under way; and whether it is a write equal to the last request of its
-- source under its label.
pub record Facts : Type 0 where
  pub is_current : Bool
  pub is_for_node : Bool
  pub is_response : Bool
  pub is_awaited : Bool
  pub is_repeated : Bool

-- The rows. By the first three the packet is ignored without an answer; a response closes its
-- transaction; a write that comes again is answered as the first time; any other request is the node's.
pub data Row : Type 0 where
  by_generation : Row
  by_grammar : Row
  by_label : Row
  by_response : Row
  by_again : Row
  by_request : Row

abbrev pub rows : Facts → List (Bool × Row)
rows facts =
    (not facts.is_current, by_generation)
    ∷ (not facts.is_for_node, by_grammar)
    ∷ (facts.is_response && not facts.is_awaited, by_label)
    ∷ (facts.is_response, by_response)
    ∷ (facts.is_repeated, by_again)
    ∷ []

-- the first row that holds
abbrev pub first_row : {A : Type 0} → List (Bool × A) → A → A
first_row [] otherwise = otherwise
first_row (row ∷ rows) otherwise = if row.0 then row.1 else first_row rows otherwise

abbrev pub row_of : Facts → Row
row_of facts = first_row (rows facts) by_request
