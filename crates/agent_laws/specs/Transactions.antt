-- Which transactions of an agent are under way, read off what calls tell.
use Rattle.std.specs.Prelude.{◌≡◌, Bool, true, false, List, [], ◌∷◌}
use Rattle.command_agent.specs.declared.step.Which.TheVariants.{Main, Ahead}
use Rattle.command_agent.specs.Machine.{is_under_way}
use Rattle.agent_laws.specs.Calls.{Call, after_calls, notes, Note, Pointed, Cut, Came, Reads, Writes, Promoted, Ended, Died}

-- a main transaction is under way: asked for, or a promoted read ahead, and not answered since
abbrev pub main_in : List Note → Bool
main_in [] = false
main_in (Reads Main offset size ∷ ns) = true
main_in (Writes offset size bytes ∷ ns) = true
main_in (Ended at kind offset size bytes ∷ ns) = true
main_in (Promoted ∷ ns) = true
main_in (Came Main answer ∷ ns) = false
main_in (Cut ∷ ns) = false
main_in (_ ∷ ns) = main_in ns

-- a read ahead is under way
abbrev pub behind_in : List Note → Bool
behind_in [] = false
behind_in (Reads Ahead offset size ∷ ns) = true
behind_in (Promoted ∷ ns) = false
behind_in (Came Ahead answer ∷ ns) = false
behind_in (Died cause ∷ ns) = false
behind_in (Pointed at ∷ ns) = false
behind_in (Cut ∷ ns) = false
behind_in (_ ∷ ns) = behind_in ns

-- After each call the transactions under way are those asked for and not answered since.
abbrev pub UnderWayLaw : Type 0
UnderWayLaw = (calls : List Call) →
    (is_under_way Main (after_calls calls) ≡ main_in (notes calls)) × (is_under_way Ahead (after_calls calls) ≡ behind_in (notes calls))
