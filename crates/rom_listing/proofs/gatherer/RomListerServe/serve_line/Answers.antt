-- The line is served as its quadlets are gathered.
use Rattle.rom_listing.proofs.Roms.{gathers}
use Rattle.rom_listing.proofs.gatherer.RomListerServe.serve_line.Goals as goal

pub returns-clause-served : goal.returns-clause-served
returns-clause-served g c = λ start before front e h. gathers c.take_line.result c.args._number c.args.line.now c.args._out.now c.args.self.now c.take_line.new.self start _ before front c.requires.few c.requires.short c.take_line.ensures.taken c.take_line.ensures.kept e h
