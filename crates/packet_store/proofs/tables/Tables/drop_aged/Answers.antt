use Rattle.std.proofs.Common.{◌≡◌, ◌∙◌, ap, subst, sym, ℕ, ◌-◌, arith}
use Rattle.std.specs.List.{filter}
use Rattle.packet_store.specs.Stored.{stays}
use Rattle.packet_store.specs.Sound.{AreKept}
use Rattle.packet_store.proofs.Sound.{sound_raised, aged_list, without_aged, all_stay}
use Rattle.packet_store.proofs.tables.Tables.drop_aged.Goals as goal

pub returns-then-self-le-KEPT_SERIALS-clause-shelf : goal.returns-then-self-le-KEPT_SERIALS-clause-shelf
returns-then-self-le-KEPT_SERIALS-clause-shelf c =
    let l = c.if-self-le-KEPT_SERIALS.true in
    let s = c.args.self.now in
    sym (all_stay s.last (s.last - 1025) 0 (s.last - 1024) s.shelf c.requires (omega arith))

shelf_less : (c : goal.After-drop_packet) → c.drop_packet.new.self.shelf ≡ filter (stays (c.args.self.now.last - 1024)) c.args.self.now.shelf
shelf_less c =
    let l = c.if-self-le-KEPT_SERIALS.false in
    let s = c.args.self.now in
    let aged : ℕ = s.last - 1024 in
    let e = sym c.is_delivered.ensures ∙ c.if-is_delivered.true in
    c.drop_packet.ensures.shelf ∙ sym (aged_list s.last (s.last - 1025) 0 aged s.shelf (omega arith) c.requires ∙ ap (λ b. without_aged b aged s.shelf) e)

shelf_same : (c : goal.Else-is_delivered) → c.args.self.now.shelf ≡ filter (stays (c.args.self.now.last - 1024)) c.args.self.now.shelf
shelf_same c =
    let l = c.if-self-le-KEPT_SERIALS.false in
    let s = c.args.self.now in
    let aged : ℕ = s.last - 1024 in
    let e = sym c.is_delivered.ensures ∙ c.if-is_delivered.false in
    sym (aged_list s.last (s.last - 1025) 0 aged s.shelf (omega arith) c.requires ∙ ap (λ b. without_aged b aged s.shelf) e)

pub returns-then-is_delivered-clause-shelf : goal.returns-then-is_delivered-clause-shelf
returns-then-is_delivered-clause-shelf c = shelf_less c

pub returns-else-is_delivered-clause-shelf : goal.returns-else-is_delivered-clause-shelf
returns-else-is_delivered-clause-shelf c = shelf_same c

pub returns-then-is_delivered-clause-sound : goal.returns-then-is_delivered-clause-sound
returns-then-is_delivered-clause-sound c =
    let s = c.args.self.now in
    let d = c.drop_packet.new.self in
    let t = sound_raised s.shelf d.shelf d.last (s.last - 1025) (s.last - 1024) (shelf_less c) (c.drop_packet.ensures.sound (s.last - 1025) c.requires) in
    subst (λ (n : ℕ). AreKept d.last (n - 1024) 0 d.shelf) (sym c.drop_packet.ensures.last) t

pub returns-else-is_delivered-clause-sound : goal.returns-else-is_delivered-clause-sound
returns-else-is_delivered-clause-sound c =
    let s = c.args.self.now in
    sound_raised s.shelf s.shelf s.last (s.last - 1025) (s.last - 1024) (shelf_same c) c.requires
