use Rattle.decision.proofs.Spans.{newest_of, rf_location}
use Rattle.decision.proofs.conjunctions.is_ordered_kind.Goals as goal

pub sites-requires : goal.sites-requires
sites-requires c =
    (rf_location c.args.test.now c.args.sequences.now c.args.kind c.in-Rf.reader c.in-Rf.column c.in-Rf.writer
    c.in-Rf.place
    c.location.result c.reader_of-read.result c.requires.test c.requires.same c.requires.kind c.in-Rf.is
    c.reader_of-read.ensures c.location.ensures).1

pub returns-in-Rf : goal.returns-in-Rf
returns-in-Rf c =
    let l =
    rf_location c.args.test.now c.args.sequences.now c.args.kind c.in-Rf.reader c.in-Rf.column c.in-Rf.writer
    c.in-Rf.place
    c.location.result c.reader_of-read.result c.requires.test c.requires.same c.requires.kind c.in-Rf.is
    c.reader_of-read.ensures c.location.ensures in
    newest_of c.args.test.now c.args.sequences.now c.args.kind c.in-Rf.reader c.in-Rf.column c.in-Rf.writer
    c.in-Rf.place
    c.location.result c.reader_of-read.result c.sites.result.now c.is_newest.result
    c.requires.same c.in-Rf.is c.reader_of-read.ensures l.0 l.1 c.sites.ensures c.is_newest.ensures
