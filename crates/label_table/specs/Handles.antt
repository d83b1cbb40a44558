-- The handles of the transactions with one peer, over every list of calls of their table.
use Rattle.std.specs.Prelude.{◌≡◌, ℕ, ◌<◌, false, List, [], ◌∷◌, ◌++◌, Result, Ok, Err}
use Rattle.std.specs.List.{All, Contains}
use Rattle.async_packet.specs.Labels.{LabelParts}
use Rattle.label_table.specs.declared.reply.ReplyKind.{ReplyKind}
use Rattle.label_table.specs.declared.reply.NoLabel.{NoLabel}
use Rattle.label_table.specs.Table.{Table, new_table, begin_step, close_step, expire_step, is_current, clear_step}

-- a call that may change the table
pub data Change : Type 0 where
  begins : (bytes : List ℕ) → Change
  closes : (number : ℕ) → ReplyKind → Change
  expires : LabelParts → Change
  clears : (generation : ℕ) → Change

abbrev pub changed : Change → Table → Table
changed (begins bytes) table = (begin_step table bytes).1.0
changed (closes number kind) table = (close_step table number kind).1
changed (expires label) table = (expire_step table label).1
changed (clears generation) table = clear_step table generation

-- the table after a list of calls, the latest of them first
abbrev pub table_after : List Change → Table
table_after [] = new_table
table_after (change ∷ changes) = changed change (table_after changes)

abbrev pub and_given : Result LabelParts NoLabel → List LabelParts → List LabelParts
and_given (Ok label) labels = label ∷ labels
and_given (Err none) labels = labels

-- the handles that were given, the latest first
abbrev pub handles : List Change → List LabelParts
handles [] = []
handles (begins bytes ∷ changes) = and_given (begin_step (table_after changes) bytes).0 (handles changes)
handles (_ ∷ changes) = handles changes

-- each has a greater serial than those before it
abbrev pub AreApart : List LabelParts → Type 0
AreApart [] = Unit {0}
AreApart (label ∷ labels) = All (λ before. before.serial < label.serial) labels × AreApart labels

-- Handles are told apart by their serials, and one that is stale stays so, also where the table is
-- cleared in between.
pub record HandleLaw : Type 0 where
  pub apart : (changes : List Change) → AreApart (handles changes)
  pub stale : (changes more : List Change) (label : LabelParts) → Contains (handles changes) label → is_current (table_after changes) label ≡ false → is_current (table_after (more ++ changes)) label ≡ false
