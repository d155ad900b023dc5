use Rattle.std.proofs.Common.{◌≤◌, IfOk, length, rules}
use Rattle.program_edge.proofs.Requests.{input_from}
use Rattle.program_edge.proofs.request.input_of.Goals as goal

pub returns : goal.returns
returns g c =
    let short : IfOk c.read_input.result (λ bytes. length bytes.items ≤ c.args.limit) = search rules in
    input_from (g.S.Source.seen c.args.source.now) (g.S.Source.seen c.read_input.new.source) _ _
    c.read_input.ensures.whole short c.read_input.ensures.too_long c.read_input.ensures.fault
