use Rattle.stroke_lines.specs.Replayed.{replay_of}
use Rattle.std.proofs.Common.{take}
use Rattle.lines.proofs.Growing.{unread, by_read}
use Rattle.stroke_lines.proofs.replay.replay.Goals as goal

pub returns-in_err-bytes-clause-text : goal.returns-in_err-bytes-clause-text
returns-in_err-bytes-clause-text g c =
    unread (g.R.Read.remaining c.args.reader.now) (g.W.Write.contents c.args.writer.now) (λ bytes. replay_of (take 720913 bytes)) c.from_residual.result c.from_residual.ensures.0

pub returns-clause-text : goal.returns-clause-text
returns-clause-text g c =
    let written = rw c.deref.ensures.value at c.replay_bytes.ensures in
    by_read (g.R.Read.remaining c.args.reader.now) (g.W.Write.contents c.args.writer.now) (g.W.Write.contents c.replay_bytes.new.writer) 720913 replay_of c.in_ok-bytes.bytes.items c.replay_bytes.result c.in_ok-bytes.ensures.bytes written
