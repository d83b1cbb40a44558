-- Where the target has no turn, or nothing happens to its management, its terms stay its state.
use Rattle.sbp_world.proofs.Words.Std.{◌≡◌, ◌∙◌, refl, sym, ap, ℕ, ◌≤◌, true, false, List, ◌∷◌, Option, Some, None}
use Rattle.sbp_world.proofs.Words.Wire.{is_reset, transaction, Layer, Moment, asked, said, Kind, Transaction, Terms, opened, terms, waits, Event}
use Rattle.sbp_world.proofs.Words.Target.{source_in, Disk, Purpose, NodeState}
use Rattle.sbp_world.proofs.Words.Laws.{target_at}
use Rattle.sbp_world.proofs.Words.World.{Office, at_rest, office_of, Awaits, IsManagementAt}
use Rattle.sbp_journal.specs.declared.event.Event.TheVariants as events
use Rattle.sbp_journal.specs.declared.note.Note.TheVariants as notes
use Rattle.sbp_world.proofs.Agents.Management.Still.{Still}
use Rattle.sbp_world.proofs.Lists.ManageSends.{later_ids}

-- what is kept of the transactions of the target
pub record Keeping (t u : Terms) : Type 0 where
  pub generation : u.generation 0 ≡ t.generation 0
  pub ids : (peer : ℕ) → u.ids (t.generation 0) peer ≡ t.ids (t.generation 0) peer
  pub held : (x : Transaction) (kind : Kind) (s : ℕ) → x.requester ≡ 0 → t.held x ≡ waits kind s → u.held x ≡ waits kind s

pub keeping : (t u : Terms) → Still t u → Keeping t u
keeping t u s = record { generation = s.generation; ids = s.ids; held = s.held }

pub keeping_self : (t : Terms) → Keeping t t
keeping_self t = record { generation = refl; ids = λ peer. refl; held = λ x kind s r e. e }

pub keeping_then : (t u v : Terms) → Keeping t u → Keeping u v → Keeping t v
keeping_then t u v a b = record {
  generation = b.generation ∙ a.generation;
  ids = λ peer. ap (λ g. v.ids g peer) (sym a.generation) ∙ b.ids peer ∙ ap (λ g. u.ids g peer) a.generation ∙ a.ids peer;
  held = λ x kind s r e. b.held x kind s r (a.held x kind s r e);
}

-- an office with the same logins, keys, operation and request
pub record SameOffice (o p : Office) : Type 0 where
  pub table : p.table ≡ o.table
  pub keys : p.keys ≡ o.keys
  pub manager : p.manager ≡ o.manager
  pub manages : p.manages ≡ o.manages

pub same_rest : (o p : Office) → p ≡ at_rest o → SameOffice o p
same_rest o p e = record { table = ap (λ (x : Office). x.table) e; keys = ap (λ (x : Office). x.keys) e; manager = ap (λ (x : Office). x.manager) e; manages = ap (λ (x : Office). x.manages) e }

pub same_office : (o p : Office) → p ≡ o → SameOffice o p
same_office o p e = record { table = ap (λ (x : Office). x.table) e; keys = ap (λ (x : Office). x.keys) e; manager = ap (λ (x : Office). x.manager) e; manages = ap (λ (x : Office). x.manages) e }

pub awaits_kept : (t u : Terms) (layer : Layer Purpose) (source : Option ℕ) (manages now : Option ℕ) → Keeping t u → now ≡ manages → Awaits t layer source manages → Awaits u layer source now
awaits_kept t u layer None manages now k e a = e ∙ a
awaits_kept t u layer (Some source) manages now k e a = record {
  peer = a.peer;
  number = a.number;
  kind = a.kind;
  serial = a.serial;
  peer_is = ap (λ g. u.ids g a.peer) k.generation ∙ k.ids a.peer ∙ a.peer_is;
  under_way = a.under_way;
  waits_for = ap (λ g. u.held (transaction g 0 a.peer a.number)) k.generation ∙ k.held (transaction (t.generation 0) 0 a.peer a.number) a.kind a.serial refl a.waits_for;
  no_lock = a.no_lock;
  manages_is = e ∙ a.manages_is;
}

pub passed : (start : List Disk) (ms later : List Moment) (node : NodeState) → SameOffice (office_of (target_at start ms)) (office_of (target_at start later)) → Keeping (terms ms) (terms later) → IsManagementAt start ms node → IsManagementAt start later node
passed start ms later node o k at = record {
  agrees = record { table = o.table ∙ at.agrees.table; keys = o.keys ∙ at.agrees.keys; manager = o.manager ∙ at.agrees.manager };
  awaits = awaits_kept (terms ms) (terms later) node.layer (source_in node.manager.operation) (target_at start ms).manages (target_at start later).manages k o.manages at.awaits;
}

-- ---- a line begins
pub opened_kept : (event : Event) (t : Terms) → is_reset event ≡ false → Keeping t (opened event t)
opened_kept (events.Begin initiators ready) t e = record { generation = refl; ids = λ peer. refl; held = λ x kind s r h. h }
opened_kept (events.Act initiator action) t e = record { generation = refl; ids = λ peer. refl; held = λ x kind s r h. h }
opened_kept (events.Reset physical) t e = absurd (let no : true ≡ false = e in cc)
opened_kept (events.See node) t e = record { generation = refl; ids = λ peer. refl; held = λ x kind s r h. h }
opened_kept (events.Deliver serial) t e = record { generation = refl; ids = λ peer. refl; held = λ x kind s r h. h }
opened_kept (events.Repeat serial) t e = record { generation = refl; ids = λ peer. refl; held = λ x kind s r h. h }
opened_kept (events.Lose serial) t e = record { generation = refl; ids = λ peer. refl; held = λ x kind s r h. h }
opened_kept (events.Timeout serial) t e = record { generation = refl; ids = λ peer. refl; held = λ x kind s r h. h }
opened_kept (events.Step count) t e = record { generation = refl; ids = λ peer. refl; held = λ x kind s r h. h }
opened_kept events.Settle t e = record { generation = refl; ids = λ peer. refl; held = λ x kind s r h. h }
opened_kept events.Tick t e = record { generation = refl; ids = λ peer. refl; held = λ x kind s r h. h }
opened_kept (events.Inject initiator bytes) t e = record { generation = refl; ids = λ peer. refl; held = λ x kind s r h. h }
opened_kept (events.Key unit key) t e = record { generation = refl; ids = λ peer. refl; held = λ x kind s r h. h }

pub reset_kept : (line : ℕ) (physical : List ℕ) (generation : ℕ) (ms : List Moment) → (terms ms).generation 0 ≤ (terms ms).bus → Keeping (terms ms) (terms (said (notes.Reset generation) ∷ asked line (events.Reset physical) ∷ ms))
reset_kept line physical generation ms aged = record {
  generation = refl;
  ids = λ peer. later_ids (terms ms).ids (terms ms).bus ((terms ms).generation 0) _ peer aged;
  held = λ x kind s r h. h;
}
