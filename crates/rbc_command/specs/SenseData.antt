-- Sense data (SPC, sense data).
use Rattle.std.specs.Prelude.{◌≡◌, ℕ, List, [], ◌∷◌}
use Rattle.rbc_command.specs.declared.sense.Sense.{Sense}

-- a sense key, a sense code and a qualifier
abbrev pub sense : ℕ → ℕ → ℕ → Sense
sense key code qualifier = record { key = key; code = code; qualifier = qualifier }

-- no such command
abbrev pub no_command : Sense
no_command = sense 5 0x20 0

-- the blocks are not all inside the medium
abbrev pub outside : Sense
outside = sense 5 0x21 0

-- a field or the buffer does not fit the command
abbrev pub bad_field : Sense
bad_field = sense 5 0x24 0

-- the medium is not present
abbrev pub no_medium : Sense
no_medium = sense 2 0x3a 0

-- the unit is not started
abbrev pub not_started : Sense
not_started = sense 2 0x04 2

-- unit attention: the unit was reset
abbrev pub was_reset : Sense
was_reset = sense 6 0x29 0

-- unit attention: the medium may have changed
abbrev pub medium_changed : Sense
medium_changed = sense 6 0x28 0

-- the removal of the medium is prevented
abbrev pub removal_prevented : Sense
removal_prevented = sense 5 0x53 2

-- the medium is protected
abbrev pub is_protected : Sense
is_protected = sense 7 0x27 0

-- the medium's read or verify failed
abbrev pub read_failed : Sense
read_failed = sense 3 0x11 0

-- the medium's write failed
abbrev pub write_failed : Sense
write_failed = sense 3 0x0c 0

-- all checks of a unit, in the order of the constants
abbrev pub all_senses : List Sense
all_senses = no_command ∷ outside ∷ bad_field ∷ no_medium ∷ not_started ∷ was_reset ∷ medium_changed ∷ removal_prevented ∷ is_protected ∷ read_failed ∷ write_failed ∷ []
