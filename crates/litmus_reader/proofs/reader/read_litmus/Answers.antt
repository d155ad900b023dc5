use Rattle.litmus_reader.proofs.AsciiLaws.{answered_name, answered_locations}
use Rattle.litmus_reader.proofs.WholeLaws.{answered_reads, answered_refuses, answered_only}
use Rattle.litmus_reader.proofs.reader.read_litmus.Goals as goal

pub returns-clause-reads : goal.returns-clause-reads
returns-clause-reads c = answered_reads c.args.bytes.now c.tested.result c.tested.ensures

pub returns-clause-refuses : goal.returns-clause-refuses
returns-clause-refuses c = answered_refuses c.args.bytes.now c.tested.result c.tested.ensures

pub returns-clause-only : goal.returns-clause-only
returns-clause-only c = answered_only c.args.bytes.now c.tested.result c.tested.ensures

pub returns-clause-ascii_name : goal.returns-clause-ascii_name
returns-clause-ascii_name c = answered_name c.args.bytes.now c.tested.result c.tested.ensures

pub returns-clause-ascii_locations : goal.returns-clause-ascii_locations
returns-clause-ascii_locations c = answered_locations c.args.bytes.now c.tested.result c.tested.ensures
