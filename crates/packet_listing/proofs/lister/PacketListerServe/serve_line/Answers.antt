-- The line is served as it is listed.
use Rattle.packet_listing.proofs.Listings.{lists}
use Rattle.packet_listing.proofs.lister.PacketListerServe.serve_line.Goals as goal

pub returns-clause-served : goal.returns-clause-served
returns-clause-served g c = λ start before front e h. lists c.list_line.result c.args._number c.args.line.now c.args.out.now c.list_line.new.out _ start _ before front c.requires.few c.requires.short c.list_line.ensures e h
