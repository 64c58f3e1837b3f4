use Rattle.report.proofs.Printed.{file_read}
use Rattle.report.proofs.files.read_into.Goals as goal

pub returns : goal.returns
returns g c = file_read g.R.Read.remaining c.args.from c.take.result c.clear.new.self c.copy.new.writer c.take.ensures.limit c.take.ensures.inner c.clear.ensures c.in_ok-copy.ensures.bytes
