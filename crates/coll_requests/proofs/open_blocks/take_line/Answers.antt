-- A line is taken by its number and what it is; order lines in a block alone need room.
use Rattle.coll_requests.proofs.TakingLemmas.{taken_so}
use Rattle.coll_requests.proofs.open_blocks.take_line.Goals as goal

pub returns-in_default : goal.returns-in_default
returns-in_default c = record {
  taken = taken_so c.args.block.now c.take_other.new.block c.take_other.result c.args.parsing.line.number c.args.parsing.line.parsed c.args.parsing.opening c.take_other.ensures.block
      c.take_other.ensures.request;
  proper = c.take_other.ensures.proper;
}
