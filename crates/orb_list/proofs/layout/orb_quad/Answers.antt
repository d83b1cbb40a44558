use Rattle.std.proofs.Common.{refl, replicate}
use Rattle.orb_list.proofs.Places.{quad_read}
use Rattle.orb_list.proofs.layout.orb_quad.Goals as goal

pub returns : goal.returns
returns c =
    quad_read c.args.image.now c.args.slot c.args.at c.place.result c.serve_read-rcode.result c.quad_at.result (replicate 4 0) c.serve_read-rcode.new.out c.place.ensures c.serve_read-rcode.ensures c.quad_at.ensures c.requires.whole c.requires.small c.requires.armed c.requires.inside refl
