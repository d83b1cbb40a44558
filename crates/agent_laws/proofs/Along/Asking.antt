-- What an agent along a list has under way is of the list.
use Rattle.std.proofs.Common.{◌≡◌, ap, subst, ◌∙◌, ℕ, suc, Bool, true, arith}
use Rattle.orb_layout.specs.declared.ask.Ask.{Ask}
use Rattle.orb_layout.specs.declared.ask.Ask.TheVariants.{Read}
use Rattle.orb_layout.specs.declared.pointer.OrbPointer.{OrbPointer}
use Rattle.command_agent.specs.declared.phase.Phase.{Phase}
use Rattle.command_agent.specs.declared.phase.Phase.TheVariants as phases
use Rattle.command_agent.specs.declared.phase.ReadAhead.{ReadAhead}
use Rattle.command_agent.specs.declared.phase.ReadAhead.TheVariants as aheads
use Rattle.command_agent.specs.Machine.{Machine, is_ahead}
use Rattle.agent_laws.specs.Along.Lists.{OrbList}
use Rattle.agent_laws.specs.Along.Along.{Progress, Knows, IsNamed, ReadsAhead, KnowsAhead}
use Rattle.agent_laws.specs.Along.Requests.{main_ask, ahead_ask, ahead_under}
use Rattle.agent_laws.specs.Along.Steps.{number_behind, Asks}

-- the read ahead
named_asks : (l : OrbList) (k : ℕ) (next : OrbPointer) (rung : Bool) → IsNamed l k next → ahead_ask (aheads.UnderWay rung) next ≡ Read (l.address k) 32
named_asks l k next rung n = ap (λ (o : OrbPointer). ahead_ask (aheads.UnderWay rung) o) n.named ∙ ap (λ (at : ℕ). Read at 32) n.place

reads_asks : (ahead : ReadAhead) (l : OrbList) (k : ℕ) (next : OrbPointer) → is_ahead ahead ≡ true → ReadsAhead l k next ahead → ahead_ask ahead next ≡ Read (l.address k) 32
reads_asks (aheads.UnderWay rung) l k next e h = named_asks l k next rung h
reads_asks aheads.Idle l k next e h = cc e
reads_asks (aheads.Kept orb) l k next e h = cc e

not_idle : (ahead : ReadAhead) (ask other : Ask) → is_ahead ahead ≡ true → ahead ≡ aheads.Idle → ask ≡ other
not_idle (aheads.UnderWay rung) ask other e h = cc h
not_idle aheads.Idle ask other e h = cc e
not_idle (aheads.Kept orb) ask other e h = cc h

behind_asks : (phase : Phase) (l : OrbList) (p : Progress) (m : Machine) → is_ahead m.ahead ≡ true → KnowsAhead l p phase m.orb.next m.ahead → ahead_under m ≡ Read (l.address (number_behind phase p.ended)) 32
behind_asks phases.ReadingTable l p m e h = reads_asks m.ahead l (suc p.ended) m.orb.next e h
behind_asks (phases.ReadingData wanted) l p m e h = reads_asks m.ahead l (suc p.ended) m.orb.next e h
behind_asks phases.Answering l p m e h = reads_asks m.ahead l (suc p.ended) m.orb.next e h
behind_asks phases.WritingStatus l p m e h = reads_asks m.ahead l p.ended m.orb.next e h
behind_asks _ l p m e h = not_idle m.ahead _ _ e h

-- the main transaction
abbrev AsksMain : OrbList → Progress → Phase → Machine → Type 0
AsksMain l p phases.Fetching m = main_ask phases.Fetching m ≡ Read (l.address p.ended) 32
AsksMain l p phases.ReadingNext m = (last : ℕ) → p.ended ≡ suc last → main_ask phases.ReadingNext m ≡ Read (l.address last) 8
AsksMain l p _ m = Unit {0}

main_asks : (phase : Phase) (l : OrbList) (p : Progress) (m : Machine) → Knows l p phase m → AsksMain l p phase m
main_asks phases.Fetching l p m k = ap (λ (at : ℕ). Read at 32) k.turn.place
main_asks phases.ReadingNext l p m k = λ last e.
    let ended : p.ended ≡ suc k.over.last = k.over.ended in
    let same : k.over.last ≡ last = omega arith in
    ap (λ (at : ℕ). Read at 8) k.over.place ∙ ap (λ (n : ℕ). Read (l.address n) 8) same
main_asks _ l p m k = tt

pub is_of_list : (l : OrbList) → Asks l
is_of_list l p m a = record {
  fetched = λ e. ap (λ (phase : Phase). main_ask phase m) e ∙ main_asks phases.Fetching l p m (subst (λ (phase : Phase). Knows l p phase m) e a.main);
  again = λ e last n. ap (λ (phase : Phase). main_ask phase m) e ∙ main_asks phases.ReadingNext l p m (subst (λ (phase : Phase). Knows l p phase m) e a.main) last n;
  behind = λ e. behind_asks m.phase l p m e a.ahead;
}
