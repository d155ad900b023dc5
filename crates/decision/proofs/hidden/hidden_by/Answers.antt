use Rattle.decision.proofs.HiddenReads.{hidden_of}
use Rattle.decision.proofs.Spans.{rf_location}
use Rattle.decision.proofs.hidden.hidden_by.Goals as goal

pub sites-requires : goal.sites-requires
sites-requires c =
    (rf_location c.args.test.now c.args.sequences.now c.args.kind c.in-Rf.reader c.in-Rf.column c.in-Rf.writer
    c.in-Rf.place
    c.location.result c.reader_of-read.result c.requires.test c.requires.same c.requires.kind c.in-Rf.is
    c.reader_of-read.ensures c.location.ensures).1

pub returns-in-Rf : goal.returns-in-Rf
returns-in-Rf c =
    let l =
    rf_location c.args.test.now c.args.sequences.now c.args.kind c.in-Rf.reader c.in-Rf.column c.in-Rf.writer
    c.in-Rf.place
    c.location.result c.reader_of-read.result c.requires.test c.requires.same c.requires.kind c.in-Rf.is
    c.reader_of-read.ensures c.location.ensures in
    hidden_of c.args.test.now c.args.sequences.now c.args.kind c.in-Rf.reader c.in-Rf.column c.in-Rf.writer
    c.in-Rf.place
    c.location.result c.reader_of-read.result c.sites.result.now c.hidden_from.result
    c.requires.same c.in-Rf.is c.reader_of-read.ensures l.0 l.1 c.sites.ensures c.hidden_from.ensures
