use Rattle.std.proofs.Common.{refl}
use Rattle.job.proofs.Firsts.{within_at}
use Rattle.job.proofs.Spelled.{finds_spelled}
use Rattle.job.proofs.reader.JobReader.item.Goals as goal

pub returns-clause-spelled : goal.returns-clause-spelled
returns-clause-spelled c = finds_spelled c.args.self.now refl

pub returns-clause-within : goal.returns-clause-within
returns-clause-within c = within_at c.args.self.now.bytes.now c.args.self.now.place refl
