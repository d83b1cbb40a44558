-- Lawful notes are in order.
use Rattle.std.proofs.Common.{refl, ap, ◌∙◌, ℕ, List, [], ◌∷◌, Option}
use Rattle.agent_laws.specs.Calls.{notes, Note, Pointed, Rung, Cut, Came, Turn, Fetched, Table, Data, Reread, AheadRead, AheadUsed, Ran, Reads, Writes, Promoted, Ended, Died, before_present, Lawful, ended, InOrder, CallsKeepOrder}
use Rattle.agent_laws.proofs.Lists.{calls_lawful}

order : (ns : List Note) → Lawful ns → InOrder ns
order [] l = refl
order (Pointed at ∷ ns) l = refl
order (Cut ∷ ns) l = refl
order (Turn at ∷ ns) (gone, still, next, l) = ap (λ (orbs : List ℕ). at ∷ orbs) (order ns l ∙ ap (λ (p : Option ℕ). before_present p (ended ns)) gone)
order (Ended at kind offset size bytes ∷ ns) (here, l) = order ns l ∙ ap (λ (p : Option ℕ). before_present p (ended ns)) here
order (Fetched orb ∷ ns) l = order ns l
order (Reread next ∷ ns) l = order ns l
order (AheadRead orb ∷ ns) l = order ns l
order (AheadUsed orb ∷ ns) (got, l) = order ns l
order (Ran at orb buffer place plain payload outcome answer ∷ ns) (here, none, got, fed, l) = order ns l
order (Writes offset size bytes ∷ ns) (once, l) = order ns l
order (Rung ∷ ns) l = order ns l
order (Came which answer ∷ ns) l = order ns l
order (Table bytes ∷ ns) l = order ns l
order (Data bytes ∷ ns) l = order ns l
order (Reads which offset size ∷ ns) l = order ns l
order (Promoted ∷ ns) l = order ns l
order (Died cause ∷ ns) l = order ns l

pub calls_keep_order : CallsKeepOrder
calls_keep_order calls = order (notes calls) (calls_lawful calls)
