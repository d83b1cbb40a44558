-- What the fetcher does, in equations over its state (NCITS 325-1998, command block agents).
use Rattle.std.specs.Prelude.{ℕ, Bool, false, if◌then◌else◌}
use Rattle.orb_layout.specs.declared.ask.Ask.{Ask}
use Rattle.orb_layout.specs.declared.ask.Ask.TheVariants.{Read, Nothing}
use Rattle.orb_layout.specs.declared.pointer.OrbPointer.{OrbPointer}
use Rattle.orb_layout.specs.declared.pointer.OrbPointer.TheVariants.{Null, At}
use Rattle.command_agent.specs.Machine.{aligned}
use Rattle.unordered_agent.specs.declared.fetcher.FetchPhase.TheVariants as phases
use Rattle.unordered_agent.specs.declared.fetcher.Fetcher.{Fetcher}

-- the ORB at a pointer is read: this clears the doorbell mark
abbrev pub fetched_at : Fetcher → ℕ → Ask × Fetcher
fetched_at f next = (Read (aligned next) 32, record f { phase = phases.Fetching; doorbell = false; orb = aligned next })

-- a list is opened: its first ORB is read
abbrev pub opened_at : Fetcher → ℕ → Ask × Fetcher
opened_at f first = fetched_at (record f { next = Null }) first

-- the next pointer of the last ORB is read again: this clears the doorbell mark
abbrev pub reread : Fetcher → Ask × Fetcher
reread f = (Read f.orb 8, record f { phase = phases.ReadingNext; doorbell = false })

abbrev pub waited : Fetcher → Ask × Fetcher
waited f = if f.doorbell then reread f else (Nothing, record f { phase = phases.AtEnd })

-- it goes on by the next pointer last read, and by whether a task place is free
abbrev pub followed : OrbPointer → Fetcher → Bool → Ask × Fetcher
followed (At next) f has_place = if has_place then fetched_at f next else (Nothing, record f { phase = phases.Waiting })
followed Null f has_place = waited f

-- the ORB that it read is in a task place
abbrev pub seated : Fetcher → ℕ → OrbPointer → Fetcher
seated f place next = record f { newest = place; next = next }

abbrev pub died : Fetcher → Fetcher
died f = record f { phase = phases.Dead }
