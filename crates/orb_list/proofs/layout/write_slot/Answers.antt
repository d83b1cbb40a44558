use Rattle.std.proofs.Common.{subst, sym, ◌∙◌, ap, true}
use Rattle.bus_memory.specs.declared.window.Window.TheVariants as windows
use Rattle.bus_memory.specs.Memory.{Memory, with_armed, with_bytes}
use Rattle.bus_memory.specs.Laws.{IsWhole}
use Rattle.bus_memory.proofs.Written.{whole_armed}
use Rattle.orb_layout.specs.declared.command.CommandOrb.{CommandOrb}
use Rattle.orb_layout.specs.CommandOrbs.{command_bytes}
use Rattle.orb_list.specs.Layout.{table_bytes, data_written}
use Rattle.orb_list.proofs.layout.write_slot.Goals as goal

pub put_orb-requires-clause-whole : goal.put_orb-requires-clause-whole
put_orb-requires-clause-whole c =
    subst (λ (m : Memory). IsWhole m) (sym c.arm.ensures) (whole_armed c.args.image.now c.args.slot true c.requires.whole c.requires.small)

pub returns : goal.returns
returns c =
    let armed = with_armed c.args.image.now c.args.slot true in
    let segments = c.args.request.now.segments.now in
    let orb = c.put_orb.ensures.written
    ∙ ap (λ (m : Memory). with_bytes m (windows.Orb c.args.slot) 0 (command_bytes c.orb_of.result)) c.arm.ensures
    ∙ ap (λ (o : CommandOrb). with_bytes armed (windows.Orb c.args.slot) 0 (command_bytes o)) c.orb_of.ensures.orb in
    let table = c.put_table.ensures ∙ ap (λ (m : Memory). with_bytes m (windows.Table c.args.slot) 0 (table_bytes c.args.slot 0 segments)) orb in
    c.put_data.ensures ∙ ap (λ (m : Memory). data_written m c.args.slot segments c.args.request.now.payload.now) table
