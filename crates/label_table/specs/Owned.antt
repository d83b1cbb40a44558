-- Places that are given to nodes as they come: the place of a node, and what it shows.
use Rattle.std.specs.Prelude.{ℕ, ◌==◌, Bool, true, false, List, position, slice_index_or, Option, Some, None}

abbrev pub is_same_node : Option ℕ → Option ℕ → Bool
is_same_node None None = true
is_same_node (Some node) (Some other) = node == other
is_same_node _ _ = false

abbrev pub or_else : Option ℕ → Option ℕ → Option ℕ
or_else (Some place) other = Some place
or_else None other = other

module _ {A : Type 0} (owner : A → Option ℕ) where
  -- whether a place is that of a node, or of none
  abbrev pub is_owned_by : Option ℕ → A → Bool
  is_owned_by node place = is_same_node (owner place) node

  -- the place that a node has, or else the first that none has
  unfoldable pub owned_place : ℕ → List A → Option ℕ
  owned_place node places = or_else (position (is_owned_by (Some node)) places) (position (is_owned_by None) places)

-- what the place shows, or what is shown where there is none
abbrev pub shown_in : {A B : Type 0} → (A → B) → A → B → Option ℕ → List A → B
shown_in look vacant blank None places = blank
shown_in look vacant blank (Some place) places = look (slice_index_or places place vacant)

-- what the place of a node shows
abbrev pub shown : {A B : Type 0} → (A → Option ℕ) → (A → B) → A → B → ℕ → List A → B
shown owner look vacant blank node places = shown_in look vacant blank (owned_place owner node places) places
