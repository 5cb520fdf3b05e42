-- A search for a byte finds the first line feed.
use Rattle.coll_devices.proofs.LineFeeds.{none_found, found_within, found_there, found_first}
use Rattle.coll_devices.proofs.line_reading.find_line_feed.Goals as goal

pub returns-clause-none : goal.returns-clause-none
returns-clause-none c = none_found c.args.bytes.now c.memchr.result c.memchr.ensures

pub returns-clause-within : goal.returns-clause-within
returns-clause-within c = found_within c.args.bytes.now c.memchr.result c.memchr.ensures

pub returns-clause-found : goal.returns-clause-found
returns-clause-found c = found_there c.args.bytes.now c.memchr.result c.memchr.ensures

pub returns-clause-first : goal.returns-clause-first
returns-clause-first c = found_first c.args.bytes.now c.memchr.result c.memchr.ensures
