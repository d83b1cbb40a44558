-- Reading the unsolicited status block.
use Rattle.media_bay.specs.Unsolicited.{block_head, ReadsBlock}

pub reads_block : ReadsBlock
unfolding block_head
reads_block reserved h = rw h
