-- The quadlets that were read of a ROM, and the actions whose reads are under way.
use Rattle.std.specs.Prelude.{ℕ, ◌==◌, not, nat_lt, if◌then◌else◌, List, [], ◌∷◌, ◌++◌, length}
use Rattle.std.specs.List.{filter}

-- with one more quadlet, of 256 at most
abbrev pub with_quad : List ℕ → ℕ → List ℕ
with_quad quads quad = if nat_lt (length quads) 256 then quads ++ quad ∷ [] else quads

-- without the read of an action
abbrev pub without : ℕ → List ℕ → List ℕ
without act acts = filter (λ other. not (other == act)) acts
