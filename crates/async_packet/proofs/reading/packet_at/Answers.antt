use Rattle.std.proofs.Common.{◌≡◌, ◌∙◌, sym, refl, true, arith}
use Rattle.std.proofs.lemmas.Bool.Decides.{nat_tests}
use Rattle.async_packet.specs.Fields.{is_kind}
use Rattle.async_packet.proofs.Judged.{passes}
use Rattle.async_packet.proofs.reading.packet_at.Goals as goal

pub tcode_at-requires : goal.tcode_at-requires
tcode_at-requires c = (passes c.args.bytes.now _ c.requires refl).long

pub write_quadlet-requires-clause-whole : goal.write_quadlet-requires-clause-whole
write_quadlet-requires-clause-whole c = (passes c.args.bytes.now 0 c.requires (sym c.tcode_at.ensures.value ∙ c.in-0.is)).whole

pub write_block-requires-clause-small : goal.write_block-requires-clause-small
write_block-requires-clause-small c = (passes c.args.bytes.now 1 c.requires (sym c.tcode_at.ensures.value ∙ c.in-1.is)).small refl

pub write_block-requires-clause-whole : goal.write_block-requires-clause-whole
write_block-requires-clause-whole c = (passes c.args.bytes.now 1 c.requires (sym c.tcode_at.ensures.value ∙ c.in-1.is)).whole

pub write_response-requires-clause-whole : goal.write_response-requires-clause-whole
write_response-requires-clause-whole c = (passes c.args.bytes.now 2 c.requires (sym c.tcode_at.ensures.value ∙ c.in-2.is)).whole

pub read_quadlet-requires-clause-whole : goal.read_quadlet-requires-clause-whole
read_quadlet-requires-clause-whole c = (passes c.args.bytes.now 4 c.requires (sym c.tcode_at.ensures.value ∙ c.in-4.is)).whole

pub read_block-requires-clause-small : goal.read_block-requires-clause-small
read_block-requires-clause-small c = (passes c.args.bytes.now 5 c.requires (sym c.tcode_at.ensures.value ∙ c.in-5.is)).small refl

pub read_block-requires-clause-whole : goal.read_block-requires-clause-whole
read_block-requires-clause-whole c = (passes c.args.bytes.now 5 c.requires (sym c.tcode_at.ensures.value ∙ c.in-5.is)).whole

pub read_quadlet_response-requires-clause-whole : goal.read_quadlet_response-requires-clause-whole
read_quadlet_response-requires-clause-whole c = (passes c.args.bytes.now 6 c.requires (sym c.tcode_at.ensures.value ∙ c.in-6.is)).whole

pub read_block_response-requires-clause-small : goal.read_block_response-requires-clause-small
read_block_response-requires-clause-small c = (passes c.args.bytes.now 7 c.requires (sym c.tcode_at.ensures.value ∙ c.in-7.is)).small refl

pub read_block_response-requires-clause-whole : goal.read_block_response-requires-clause-whole
read_block_response-requires-clause-whole c = (passes c.args.bytes.now 7 c.requires (sym c.tcode_at.ensures.value ∙ c.in-7.is)).whole

pub lock-requires-clause-small : goal.lock-requires-clause-small
lock-requires-clause-small c = (passes c.args.bytes.now 9 c.requires (sym c.tcode_at.ensures.value ∙ c.in-9.is)).small refl

pub lock-requires-clause-extended : goal.lock-requires-clause-extended
lock-requires-clause-extended c = (passes c.args.bytes.now 9 c.requires (sym c.tcode_at.ensures.value ∙ c.in-9.is)).known refl

pub lock-requires-clause-rule : goal.lock-requires-clause-rule
lock-requires-clause-rule c = (passes c.args.bytes.now 9 c.requires (sym c.tcode_at.ensures.value ∙ c.in-9.is)).rule refl

pub lock-requires-clause-whole : goal.lock-requires-clause-whole
lock-requires-clause-whole c = (passes c.args.bytes.now 9 c.requires (sym c.tcode_at.ensures.value ∙ c.in-9.is)).whole

pub lock_response-requires-clause-small : goal.lock_response-requires-clause-small
lock_response-requires-clause-small c = (passes c.args.bytes.now 11 c.requires (sym c.tcode_at.ensures.value ∙ c.in-11.is)).small refl

pub lock_response-requires-clause-extended : goal.lock_response-requires-clause-extended
lock_response-requires-clause-extended c = (passes c.args.bytes.now 11 c.requires (sym c.tcode_at.ensures.value ∙ c.in-11.is)).known refl

pub lock_response-requires-clause-rule : goal.lock_response-requires-clause-rule
lock_response-requires-clause-rule c = (passes c.args.bytes.now 11 c.requires (sym c.tcode_at.ensures.value ∙ c.in-11.is)).rule refl

pub lock_response-requires-clause-whole : goal.lock_response-requires-clause-whole
lock_response-requires-clause-whole c = (passes c.args.bytes.now 11 c.requires (sym c.tcode_at.ensures.value ∙ c.in-11.is)).whole

pub unreachable-requires : goal.unreachable-requires
unreachable-requires c =
    let kind : is_kind c.tcode_at.result ≡ true = (passes c.args.bytes.now _ c.requires (sym c.tcode_at.ensures.value)).kind in
    grind (arith, nat_tests, kind)
